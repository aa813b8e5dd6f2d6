-- A set of events has the event e as a member just where the bit of e is one. Assumes nothing.
use mathlib.Core.Path.{◌≡◌, refl, sym, ap, ◌∙◌}
use mathlib.Core.List.{List, [], ◌∷◌, ◌++◌}
use Prim.Native.Nat.{ℕ, zero, suc, ◌+◌, ◌*◌, ◌/◌, ◌%◌, ◌^◌, ◌<◌}
use native.Mathlib.Nat.{pow-suc, mul_assoc, mul-one}
use native.Mathlib.Omega.{arith}
use lib.ListN.{get_or, take, drop}
use lib.Seq.{get_or-drop}
use Rattle.masks.specs.Mask.{digit}
use Rattle.masks.proofs.Members.{digit_zero, digit_suc, digit_none}
use Rattle.fields.specs.Bits.{bits_of, bits_of_byte, bits_at, events_from, events_at}

-- each is a bit
abbrev pub Bits : List ℕ → Type 0
Bits xs = (i : ℕ) → get_or xs i 0 < 2

-- one event later is twice the weight
pub events_shift : (e : ℕ) (xs : List ℕ) → events_from (suc e) xs ≡ 2 * events_from e xs
unfolding events_from
events_shift e [] = refl
events_shift e (x ∷ xs) =
    let s : x * (2 ^ e * 2) ≡ x * 2 ^ e * 2 = sym (mul_assoc x (2 ^ e) 2) in
    rw (events_shift (suc e) xs, pow-suc, s) (omega arith)

half : (x n : ℕ) → x < 2 → (x + 2 * n) / 2 ≡ n
half x n h = omega arith

low : (x n : ℕ) → x < 2 → (x + 2 * n) % 2 ≡ x
low x n h = omega arith

-- the events numbered from 0 on
digit_bit : (xs : List ℕ) → Bits xs → (i : ℕ) → digit (events_from 0 xs) i ≡ get_or xs i 0
unfolding events_from
digit_bit [] h i = digit_none i
digit_bit (x ∷ xs) h zero = rw (events_shift 0 xs, mul-one x) (digit_zero (x + 2 * events_from 0 xs) ∙ low x (events_from 0 xs) (h 0))
digit_bit (x ∷ xs) h (suc i) =
    rw (events_shift 0 xs, mul-one x)
    (digit_suc (x + 2 * events_from 0 xs) i ∙ ap (λ (n : ℕ). digit n i) (half x (events_from 0 xs) (h 0)) ∙ digit_bit xs (λ j. h (suc j)) i)

-- ---- the bits of bytes are bits

byte_bits : (b : ℕ) (rest : List ℕ) → Bits rest → Bits (bits_of_byte b ++ rest)
byte_bits b rest h zero = omega arith
byte_bits b rest h (suc zero) = omega arith
byte_bits b rest h (suc (suc zero)) = omega arith
byte_bits b rest h (suc (suc (suc zero))) = omega arith
byte_bits b rest h (suc (suc (suc (suc zero)))) = omega arith
byte_bits b rest h (suc (suc (suc (suc (suc zero))))) = omega arith
byte_bits b rest h (suc (suc (suc (suc (suc (suc zero)))))) = omega arith
byte_bits b rest h (suc (suc (suc (suc (suc (suc (suc zero))))))) = omega arith
byte_bits b rest h (suc (suc (suc (suc (suc (suc (suc (suc i)))))))) = h i

pub bits_of_lem : (bs : List ℕ) → Bits (bits_of bs)
unfolding bits_of
bits_of_lem [] i = omega arith
bits_of_lem (b ∷ bs) i = byte_bits b (bits_of bs) (bits_of_lem bs) i

bits_take : (n : ℕ) (xs : List ℕ) → Bits xs → Bits (take n xs)
bits_take zero xs h i = omega arith
bits_take (suc n) [] h i = omega arith
bits_take (suc n) (x ∷ xs) h zero = h 0
bits_take (suc n) (x ∷ xs) h (suc i) = bits_take n xs (λ j. h (suc j)) i

bits_at_lem : (bs : List ℕ) (at n : ℕ) → Bits (bits_at bs at n)
bits_at_lem bs at n = bits_take n (drop at (bits_of bs)) (λ i. rw get_or-drop (bits_of_lem bs (at + i)))

-- ---- "first bit event 1, last bit event 31"

twice : (n i : ℕ) → digit (2 * n) (suc i) ≡ digit n i
twice n i = let h : 2 * n / 2 ≡ n = omega arith in rw (digit_suc, h)

pub event_bit : (bs : List ℕ) (at i : ℕ) → digit (events_at bs at) (suc i) ≡ get_or (bits_at bs at 31) i 0
unfolding events_at
event_bit bs at i =
    rw (events_shift 0 (bits_at bs at 31)) (twice (events_from 0 (bits_at bs at 31)) i ∙ digit_bit (bits_at bs at 31) (bits_at_lem bs at 31) i)

-- event 0 is in no set
pub event_none : (bs : List ℕ) (at : ℕ) → digit (events_at bs at) 0 ≡ 0
unfolding events_at
event_none bs at = rw (events_shift 0 (bits_at bs at 31)) (rw digit_zero (omega arith))
