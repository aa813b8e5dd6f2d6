-- What the reader of a plan with its pattern answers.
use Rattle.std.specs.Prelude.{List, ℕ}
use Rattle.reader.specs.Reading as plan
use Rattle.pattern.specs.declared.PatternRead.{PatternRead}
use Rattle.pattern.specs.Refusals.{items_of_plan}

-- a plan without a refusal of 1 to 15 and 21, and the items of its pattern; of a refused one the number is told alone
abbrev pub accepted : List ℕ → PatternRead
accepted b = record { reading = plan.accepted b; items = record { items = items_of_plan b } }
