-- What the reader of a plan answers.
use Rattle.std.specs.Prelude.{ℕ, List, ◌≡◌}
use Rattle.std.proofs.Math.Option.{Option, none, some}
use Rattle.sections.specs.Layout.{head_of, pattern_at, plan_of}
use Rattle.rows.specs.Rows.{padded}
use Rattle.sections.specs.Tables.{decoded_of}
use Rattle.plan.specs.Checks.{first}
use Rattle.plan.specs.Nodes.{owners}
use Rattle.plan.specs.Refusals.{framing}
use Rattle.words.specs.Words.{Worded}
use Rattle.reader.specs.declared.Reading.{Reading}

-- an accepted plan, with the job of each node and the byte where its pattern starts; of a refused one the number is told alone
abbrev pub accepted : List ℕ → Reading
accepted b = record {
  plan = decoded_of (plan_of b);
  owner = padded 256 (owners (plan_of b).jobs);
  pattern = pattern_at (head_of b);
}

-- where none of 1 to 4 applies the arcs of the plan stand in the words; else these are as they were
abbrev pub words_under : Option ℕ → (b before after : List ℕ) → Type 0
words_under none b before after = Worded (plan_of b) before after
words_under (some n) b before after = after ≡ before

unfoldable pub WordsOf : (b before after : List ℕ) → Type 0
WordsOf b before after = words_under (first framing b) b before after
