-- How the code keeps the first items, and how two arrays list items.
use Rattle.std.specs.Prelude.{◌≡◌, List, ℕ, Result, Ok}
use Rattle.std.proofs.Math.Option.{some}
use Rattle.rows.specs.Rows.{row, place}
use Rattle.refusals.specs.declared.Refusal.{Refusal}
use Rattle.refusals.specs.Numbers.{refusal_of}
use Rattle.expressions.specs.declared.Item.{Item}
use Rattle.item.specs.Faults.{item_of}
use Rattle.items.specs.declared.Scan.{Scan}
use Rattle.items.specs.Refusals.{Read, faulty, up_to, depth}

-- the items that two arrays list as C has them: so many, each with its kind and its set at its place. A kind of 4 or more is a star
abbrev pub items_on : (count : ℕ) → (kinds sets : List ℕ) → List Item
items_on count kinds sets = row count (λ i. item_of (place kinds i) (place sets i))

-- the refusal of the first faulty one, or where the reader stands behind them
abbrev pub Scanned : Read → Result Scan Refusal → Type 0
Scanned (faulty n) r = refusal_of r ≡ some n
Scanned (up_to s) r = r ≡ Ok (record { at = s.at; depth = depth s; items = record { items = s.items } })
