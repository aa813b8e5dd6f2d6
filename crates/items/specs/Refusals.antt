-- The items of a pattern in its bytes, and their refusals. Document 01, "The bit-packed plan" and "When a plan is turned down".
use Rattle.std.specs.Prelude.{Bool, ◌||◌, not, List, [], ◌∷◌, ◌++◌, ℕ, zero, suc, ◌+◌, ◌-◌, ◌*◌, ◌/◌, eqb, length}
use Rattle.std.proofs.Math.Option.{Option, none, some}
use Rattle.fields.specs.Bits.{field_at}
use Rattle.plan.specs.Checks.{Check, refuse, first}
use Rattle.expressions.specs.declared.Item.{Item}
use Rattle.expressions.specs.Items.{operands}
use Rattle.item.specs.Faults.{kind_at, item_at, width, Point, faults}

-- ---- all items

-- where the reader stands: the bit at which the next item begins, and the items before it
pub record Spot : Type 0 where
  pub at : ℕ
  pub items : List Item

abbrev pub depth : Spot → ℕ
depth s = length (operands s.items)

abbrev pub point_of : Spot → Point
point_of s = record { at = s.at; depth = depth s }

-- what the first items are: the refusal of the first faulty one, or where the reader stands behind them
pub data Read : Type 0 where
  faulty : ℕ → Read
  up_to : Spot → Read

module _ (b : List ℕ) (alphabet : ℕ) where
  abbrev pub past : Spot → Spot
  past s = record { at = s.at + width (kind_at b s.at); items = s.items ++ (item_at b s.at ∷ []) }

  abbrev pub judged : Option ℕ → Spot → Read
  judged (some n) s = faulty n
  judged none s = up_to (past s)

  abbrev pub one_more : Read → Read
  one_more (faulty n) = faulty n
  one_more (up_to s) = judged (first (faults b alphabet) (point_of s)) s

  -- the first n items
  unfoldable pub read : ℕ → Read
  read zero = up_to (record { at = 0; items = [] })
  read (suc n) = one_more (read n)

-- ---- after the last item

-- "14. After the last item the operands left are not exactly one."
abbrev pub not_one : Spot → Bool
not_one s = not (eqb (depth s) 1)

-- "Zero bits fill its last byte too, and the plan ends there": the number of bytes up to there
abbrev pub bytes : ℕ → ℕ
bytes at = (at + 7) / 8

-- "15. A last filling bit is one, or a byte follows."
abbrev pub trailing : List ℕ → Spot → Bool
trailing b s = not (eqb (length b) (bytes s.at)) || not (eqb (field_at b s.at (8 * bytes s.at - s.at)) 0)

abbrev pub leftovers : List ℕ → List (Check Spot)
leftovers b = refuse 14 not_one ∷ refuse 15 (trailing b) ∷ []

-- the refusal of the items, in their order: 10 to 13 item by item, then 14, then 15
abbrev pub refusal_of : List ℕ → Read → Option ℕ
refusal_of b (faulty n) = some n
refusal_of b (up_to s) = first (leftovers b) s

abbrev pub items_of : Read → List Item
items_of (faulty n) = []
items_of (up_to s) = s.items

-- the items that n items' bytes say
abbrev pub items_in : List ℕ → ℕ → ℕ → List Item
items_in b alphabet n = items_of (read b alphabet n)

-- the check of the bytes of a pattern of n items
unfoldable pub items_refusal : List ℕ → ℕ → ℕ → Option ℕ
items_refusal b alphabet n = refusal_of b (read b alphabet n)
