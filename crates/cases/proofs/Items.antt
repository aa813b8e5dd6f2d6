-- Bytes of patterns, and what the reader of items answers to each, by evaluation.
use mathlib.Core.Path.{◌≡◌, refl}
use mathlib.Core.List.{List, [], ◌∷◌, ◌++◌, map, Memᴰ}
use mathlib.Core.Option.{Option, none, some}
use Prim.Native.Nat.{ℕ, ◌+◌, ◌^◌}
use lib.ListN.{take, drop, set, replicate}
use Rattle.fields.specs.Bits.{bits_of, value_from, field_at, events_from, events_at}
use Rattle.plan.specs.Checks.{first}
use Rattle.plan.proofs.Cases.{P, Fields, packed, agree}
use Rattle.expressions.specs.Expression.{Expression, seq, alt, star}
use Rattle.expressions.specs.Expression as expression
use Rattle.expressions.specs.Items.{push_all, pattern_of}
use Rattle.item.specs.Faults.{item_at}
use Rattle.items.specs.Refusals.{read, items_in, items_refusal}
use Rattle.items.proofs.Cases.{kind, one, empty, sequence, choice, repeat}

-- a case: the bytes, the alphabet, how many items the head names, and the refusal
abbrev Case : Type 0
Case = List ℕ × ℕ × ℕ × Option ℕ

-- the alphabets of events 1; 1 and 2; 1, 2 and 3; 1 and 31
abbrev a₁ : ℕ
a₁ = 2 ^ 1

abbrev a₂ : ℕ
a₂ = 2 ^ 1 + 2 ^ 2

abbrev a₃ : ℕ
a₃ = 2 ^ 1 + 2 ^ 2 + 2 ^ 3

abbrev a₃₁ : ℕ
a₃₁ = 2 ^ 1 + 2 ^ 31

-- the pattern of P
abbrev p : List ℕ
p = drop 17 P

abbrev known : List Case
known =
    (p, a₁, 1, none)
    ∷ (take 4 p, a₁, 1, some 10)  -- "Its last byte dropped: 10."
    ∷ (set p 4 0x01, a₁, 1, some 15)  -- "Its last byte `01`: 15."
    ∷ (packed (one (1 ∷ []) ++ one (2 ∷ []) ++ sequence ++ one (3 ∷ []) ++ sequence), a₃, 5, none)  -- 1 then 2 then 3
    ∷ []

-- patterns that are read
abbrev fine : List Case
fine =
    (packed empty, 0, 1, none)
    ∷ (packed (one []), 0, 1, none)  -- an empty set, in an empty alphabet
    ∷ (packed (one []), a₁, 1, none)
    ∷ (packed (one (31 ∷ [])), a₃₁, 1, none)
    ∷ (packed (one (1 ∷ 2 ∷ [])), a₂, 1, none)
    ∷ (packed (one (1 ∷ []) ++ repeat), a₁, 2, none)
    ∷ (packed (one (1 ∷ []) ++ repeat ++ repeat ++ repeat), a₁, 4, none)  -- nested stars
    ∷ (packed (empty ++ repeat), a₁, 2, none)
    ∷ (packed (one (1 ∷ []) ++ empty ++ choice), a₁, 3, none)
    ∷ (packed (empty ++ empty ++ empty ++ empty ++ sequence ++ choice ++ sequence), 0, 7, none)  -- 21 bits
    ∷ (packed (empty ++ repeat ++ repeat ++ repeat ++ repeat ++ repeat ++ repeat ++ repeat), 0, 8, none)  -- 24 bits, no filling
    ∷ []

-- 10, the bytes end inside an item
abbrev cuts : List Case
cuts =
    ([], a₁, 1, some 10)
    ∷ (take 1 p, a₁, 1, some 10)
    ∷ (take 2 p, a₁, 1, some 10)
    ∷ (take 3 p, a₁, 1, some 10)
    ∷ (p, a₁, 4, some 10)  -- inside the kind, behind two items of kind 0 in the filling
    ∷ (replicate 23 0x00, a₁, 64, some 10)
    ∷ (packed (empty ++ empty) ++ (0x00 ∷ []), a₁, 6, some 10)  -- one bit of three is left
    ∷ (packed (one (1 ∷ []) ++ (1, 3) ∷ []), a₁, 2, some 10)  -- 3 bits are left, for a set
    ∷ []

-- 11, a kind of 5, 6 or 7
abbrev kinds : List Case
kinds =
    (packed (kind 5), a₁, 1, some 11)
    ∷ (packed (kind 6), a₁, 1, some 11)
    ∷ (packed (kind 7), a₁, 1, some 11)
    ∷ (packed (one (1 ∷ []) ++ kind 7), a₁, 2, some 11)
    ∷ (packed (one (1 ∷ []) ++ empty ++ kind 5), a₁, 3, some 11)  -- its 3 bits are the last
    ∷ []

-- 12, an event outside the alphabet
abbrev strangers : List Case
strangers =
    (packed (one (2 ∷ [])), a₁, 1, some 12)
    ∷ (packed (one (1 ∷ 2 ∷ [])), a₁, 1, some 12)
    ∷ (packed (one (31 ∷ [])), a₃, 1, some 12)
    ∷ (packed (one (30 ∷ [])), a₃₁, 1, some 12)
    ∷ (packed (one (1 ∷ [])), 0, 1, some 12)
    ∷ (packed (one (1 ∷ []) ++ one (2 ∷ []) ++ choice), a₁, 3, some 12)
    ∷ []

-- 13, an operator without its operands
abbrev shorts : List Case
shorts =
    (packed sequence, a₁, 1, some 13)
    ∷ (packed choice, a₁, 1, some 13)
    ∷ (packed repeat, a₁, 1, some 13)
    ∷ (packed (one (1 ∷ []) ++ sequence), a₁, 2, some 13)
    ∷ (packed (empty ++ choice), a₁, 2, some 13)
    ∷ (packed (empty ++ repeat ++ choice), a₁, 3, some 13)
    ∷ (packed (empty ++ empty ++ choice ++ sequence), a₁, 4, some 13)
    ∷ []

-- 14, not exactly one operand is left
abbrev lefts : List Case
lefts =
    (p, a₁, 2, some 14)  -- the filling is read as an item of kind 0
    ∷ (p, a₁, 3, some 14)
    ∷ (packed (one (1 ∷ []) ++ one (1 ∷ [])), a₁, 2, some 14)
    ∷ (packed (empty ++ empty ++ empty ++ choice), a₁, 4, some 14)
    ∷ (replicate 24 0x00, a₁, 64, some 14)
    ∷ []

-- 15, a last filling bit, or a byte more
abbrev trailing : List Case
trailing =
    (set p 4 0x02, a₁, 1, some 15)
    ∷ (set p 4 0x04, a₁, 1, some 15)
    ∷ (set p 4 0x08, a₁, 1, some 15)
    ∷ (set p 4 0x10, a₁, 1, some 15)
    ∷ (set p 4 0x20, a₁, 1, some 15)
    ∷ (set p 4 0x40, a₃₁, 1, none)  -- this one is the bit of event 31
    ∷ (p ++ (0x00 ∷ []), a₁, 1, some 15)
    ∷ (p ++ (0xff ∷ []), a₁, 1, some 15)
    ∷ (packed empty ++ replicate 9 0x00, 0, 1, some 15)
    ∷ []

-- the first faulty item decides, then 14, then 15
abbrev overlaps : List Case
overlaps =
    (packed (one (2 ∷ []) ++ kind 7), a₁, 2, some 12)
    ∷ (packed (kind 7 ++ one (2 ∷ [])), a₁, 2, some 11)
    ∷ (packed (repeat ++ kind 7), a₁, 2, some 13)
    ∷ (packed (one (2 ∷ [])), a₁, 9, some 12)  -- 12 of the first, 10 of a later one
    ∷ (packed (one (1 ∷ []) ++ sequence ++ (1, 3) ∷ []), a₁, 3, some 13)  -- 13, then 10
    ∷ (packed (empty ++ empty) ++ (0x01 ∷ []), 0, 2, some 14)  -- 14 and 15
    ∷ []

abbrev pub cases : List Case
cases = known ++ fine ++ cuts ++ kinds ++ strangers ++ shorts ++ lefts ++ trailing ++ overlaps

answers : map (λ (c : Case). items_refusal c.0 c.1 c.2) cases ≡ map (λ (c : Case). c.3) cases
unfolding bits_of value_from field_at events_from events_at first push_all item_at read items_refusal
answers = refl

-- every pattern of the table is answered as the table says
pub all_cases : {c : Case} → Memᴰ c cases → items_refusal c.0 c.1 c.2 ≡ c.3
all_cases m = agree (λ (c : Case). items_refusal c.0 c.1 c.2) (λ (c : Case). c.3) answers m

-- ---- the expressions that items are

abbrev read_as : Fields → ℕ → Expression
read_as fs n = pattern_of (items_in (packed fs) a₃ n)

-- "sequence and choice take the last two operands, the older one first; star takes the last"
pub expressions :
    (read_as (one (1 ∷ []) ++ one (2 ∷ []) ++ sequence) 3 ≡ seq (expression.set (2 ^ 1)) (expression.set (2 ^ 2)))
    × (read_as (one (1 ∷ []) ++ one (2 ∷ []) ++ choice) 3 ≡ alt (expression.set (2 ^ 1)) (expression.set (2 ^ 2)))
    × (read_as (one (1 ∷ []) ++ one (2 ∷ []) ++ repeat ++ sequence) 4 ≡ seq (expression.set (2 ^ 1)) (star (expression.set (2 ^ 2))))
    × (read_as (one (1 ∷ []) ++ one (2 ∷ []) ++ one (3 ∷ []) ++ choice ++ sequence) 5 ≡ seq (expression.set (2 ^ 1)) (alt (expression.set (2 ^ 2)) (expression.set (2 ^ 3))))
    × (read_as (one [] ++ empty ++ sequence) 3 ≡ seq (expression.set 0) expression.eps)
unfolding bits_of value_from field_at events_from events_at first push_all item_at read
expressions = (refl, refl, refl, refl, refl)
