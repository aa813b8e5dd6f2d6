-- An item of a pattern in its bytes, and its refusals. Document 01, "The bit-packed plan" and "When a plan is turned down".
use Rattle.std.specs.Prelude.{Bool, ◌&&◌, cond, not, List, [], ◌∷◌, ℕ, zero, suc, ◌+◌, ◌*◌, ltb, eqb, length}
use Rattle.std.specs.Int.Bits.{bit_and}
use Rattle.fields.specs.Bits.{field_at, events_at}
use Rattle.plan.specs.Checks.{Check, refuse}
use Rattle.expressions.specs.declared.Item.{Item}
use Rattle.expressions.specs.declared.Item.TheVariants.{Empty as empty, Events as events, Sequence as sequence, Choice as choice, Repeat as repeat}
use Rattle.expressions.specs.Items.{arity}

-- ---- one item

-- "An item is a kind of 3 bits"
abbrev pub kind_at : List ℕ → ℕ → ℕ
kind_at b at = field_at b at 3

-- "one event of a set (31 more bits, as in the alphabet)"
abbrev pub set_at : List ℕ → ℕ → ℕ
set_at b at = events_at b (at + 3)

-- the item of a kind, with the set m where the kind has one: "0 the empty string, 1 one event of a set, 2 sequence, 3 choice, 4 star"
abbrev pub item_of : ℕ → ℕ → Item
item_of zero m = empty
item_of (suc zero) m = events m
item_of (suc (suc zero)) m = sequence
item_of (suc (suc (suc zero))) m = choice
item_of (suc (suc (suc (suc k)))) m = repeat

unfoldable pub item_at : List ℕ → ℕ → Item
item_at b at = item_of (kind_at b at) (set_at b at)

-- the bits of an item
abbrev pub width : ℕ → ℕ
width kind = cond (eqb kind 1) 34 3

-- ---- "10 to 13 item by item, the first faulty item deciding"

-- what an item is read by: the bit where it begins, and how many operands there are
pub record Point : Type 0 where
  pub at : ℕ
  pub depth : ℕ

-- the bytes end before the bit n
abbrev pub cut : List ℕ → ℕ → Bool
cut b n = ltb (8 * length b) n

abbrev pub is_events : List ℕ → Point → Bool
is_events b p = eqb (kind_at b p.at) 1

-- some event of the set is none of the alphabet
abbrev pub strange : ℕ → ℕ → Bool
strange alphabet m = not (eqb (bit_and m alphabet) m)

-- "10. The bytes end inside an item.": inside its kind, or inside its set
-- "11. An item's kind is 5, 6 or 7."
-- "12. A set holds an event outside the alphabet."
-- "13. An operator finds too few operands."
abbrev pub faults : List ℕ → ℕ → List (Check Point)
faults b alphabet =
    refuse 10 (λ p. cut b (p.at + 3))
    ∷ refuse 11 (λ p. ltb 4 (kind_at b p.at))
    ∷ refuse 10 (λ p. is_events b p && cut b (p.at + 34))
    ∷ refuse 12 (λ p. is_events b p && strange alphabet (set_at b p.at))
    ∷ refuse 13 (λ p. ltb p.depth (arity (item_at b p.at)))
    ∷ []

-- those of them that are asked of a set, of the item that begins at a bit
abbrev pub set_faults : List ℕ → ℕ → List (Check ℕ)
set_faults b alphabet = refuse 10 (λ at. cut b (at + 34)) ∷ refuse 12 (λ at. strange alphabet (set_at b at)) ∷ []
