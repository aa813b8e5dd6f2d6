-- Laws of the bits of a list of bytes and of the fields that they write. Assumes nothing.
use mathlib.Core.Path.{◌≡◌, refl, sym, ap, ◌∙◌}
use mathlib.Core.List.{List, [], ◌∷◌, ◌++◌}
use Prim.Native.Nat.{ℕ, zero, suc, ◌+◌, ◌*◌, ◌/◌, ◌%◌, ◌^◌, ◌≤◌, ◌<◌}
use native.Mathlib.Nat.{not-suc-le-zero, add-zero, add-suc, add_assoc, mul_assoc, pow-suc}
use native.Mathlib.Numerals.{add-one}
use native.Mathlib.Omega.{arith}
use lib.ListN.{length, get_or, take, drop, length-drop}
use lib.Pow.{pow_mono, high, low}
use lib.Seq.{take-suc, drop-cons, get_or-drop}
use Rattle.fields.proofs.EventSets.{events_shift, bits_of_lem}
use Rattle.fields.specs.Bits.{bits_of_byte, bits_of, bits_at, value_from, field_at, events_from, events_at}

-- ---- bits

pub bits_length : (bs : List ℕ) → length (bits_of bs) ≡ 8 * length bs
unfolding bits_of
bits_length [] = refl
bits_length (b ∷ bs) = let ih = bits_length bs in omega arith

-- one bit more
pub bits_more : (bs : List ℕ) (at i : ℕ) → at + i < 8 * length bs → bits_at bs at (i + 1) ≡ bits_at bs at i ++ (get_or (bits_of bs) (at + i) 0 ∷ [])
bits_more bs at i h =
    let l : i < length (drop at (bits_of bs)) = rw (length-drop, bits_length) (omega arith) in
    rw (add-one, take-suc (drop at (bits_of bs)) i 0, get_or-drop)

-- ---- fields

value_snoc : (acc : ℕ) (xs : List ℕ) (b : ℕ) → value_from acc (xs ++ (b ∷ [])) ≡ value_from acc xs * 2 + b
unfolding value_from
value_snoc acc [] b = refl
value_snoc acc (x ∷ xs) b = value_snoc (acc * 2 + x) xs b

pub field_none : (bs : List ℕ) (at : ℕ) → field_at bs at 0 ≡ 0
unfolding field_at value_from
field_none bs at = refl

pub field_more : (bs : List ℕ) (at i : ℕ) → at + i < 8 * length bs → field_at bs at (i + 1) ≡ field_at bs at i * 2 + get_or (bits_of bs) (at + i) 0
unfolding field_at
field_more bs at i h = rw (bits_more bs at i h, value_snoc)

-- a field of w bits is below 2 ^ w
pub field_lt : (bs : List ℕ) (at w : ℕ) → at + w ≤ 8 * length bs → field_at bs at w < 2 ^ w
field_lt bs at zero h = omega (arith, field_none bs at)
field_lt bs at (suc w) h =
    let more = ap (field_at bs at) (sym (add-one w)) ∙ field_more bs at w (omega arith) in
    let p = pow-suc 2 w in
    omega (arith, field_lt bs at w (omega arith), bits_of_lem bs (at + w))

-- a field is its first bits, then the others
pub field_split : (bs : List ℕ) (at m n : ℕ) → at + m + n ≤ 8 * length bs → field_at bs at (m + n) ≡ field_at bs at m * 2 ^ n + field_at bs (at + m) n
field_split bs at m zero h = omega (arith, ap (field_at bs at) (add-zero m), field_none bs (at + m))
field_split bs at m (suc n) h =
    let more = ap (field_at bs at) (add-suc m n ∙ sym (add-one (m + n))) ∙ field_more bs at (m + n) (omega arith) in
    let others = ap (field_at bs (at + m)) (sym (add-one n)) ∙ field_more bs (at + m) n (omega arith) in
    let same = ap (λ (p : ℕ). get_or (bits_of bs) p 0) (add_assoc at m n) in
    let twice : field_at bs at m * 2 ^ suc n ≡ field_at bs at m * 2 ^ n * 2 = rw (pow-suc) (sym (mul_assoc (field_at bs at m) (2 ^ n) 2)) in
    omega (arith, field_split bs at m n (omega arith))

-- a field without its last n bits, and these
pub field_front : (bs : List ℕ) (at m n : ℕ) → at + m + n ≤ 8 * length bs → field_at bs at (m + n) / 2 ^ n ≡ field_at bs at m
field_front bs at m n h = rw (field_split bs at m n h) (high (field_at bs at m) n (field_lt bs (at + m) n h))

pub field_back : (bs : List ℕ) (at m n : ℕ) → at + m + n ≤ 8 * length bs → field_at bs at (m + n) % 2 ^ n ≡ field_at bs (at + m) n
field_back bs at m n h = rw (field_split bs at m n h) (low (field_at bs at m) n (field_lt bs (at + m) n h))

-- a field out of one that starts m bits before it and ends r bits after it
pub field_within : (bs : List ℕ) (at m w r : ℕ) → at + (m + w) + r ≤ 8 * length bs → field_at bs at (m + w + r) / 2 ^ r % 2 ^ w ≡ field_at bs (at + m) w
field_within bs at m w r h = rw (field_front bs at (m + w) r h) (field_back bs at m w (omega arith))

-- a one that is shifted
pub shifted : (w : ℕ) → w ≤ 31 → 1 * 2 ^ w % 2 ^ 64 ≡ 2 ^ w
shifted w h = omega (arith, pow_mono {i = w} {j = 31} h)

-- ---- whole bytes

byte_value : (b : ℕ) (rest : List ℕ) → b < 256 → value_from 0 (take 8 (bits_of_byte b ++ rest)) ≡ b
unfolding value_from
byte_value b rest h =
    let b7 : 0 * 2 + b / 128 % 2 ≡ b / 128 = omega arith in
    let b6 : b / 128 * 2 + b / 64 % 2 ≡ b / 64 = omega arith in
    let b5 : b / 64 * 2 + b / 32 % 2 ≡ b / 32 = omega arith in
    let b4 : b / 32 * 2 + b / 16 % 2 ≡ b / 16 = omega arith in
    let b3 : b / 16 * 2 + b / 8 % 2 ≡ b / 8 = omega arith in
    let b2 : b / 8 * 2 + b / 4 % 2 ≡ b / 4 = omega arith in
    let b1 : b / 4 * 2 + b / 2 % 2 ≡ b / 2 = omega arith in
    rw (b7, b6, b5, b4, b3, b2, b1) (omega arith)

byte_field : (bs : List ℕ) (j : ℕ) → j < length bs → get_or bs j 0 < 256 → field_at bs (8 * j) 8 ≡ get_or bs j 0
unfolding field_at bits_of
byte_field [] j h l = absurd (not-suc-le-zero h)
byte_field (b ∷ bs) zero h l = byte_value b (bits_of bs) l
byte_field (b ∷ bs) (suc j) h l =
    let e : 8 * suc j ≡ suc (suc (suc (suc (suc (suc (suc (suc (8 * j)))))))) = omega arith in
    rw e (byte_field bs j (omega arith) l)

-- the field of i + 1 bytes from the byte f on
pub bytes_more : (bs : List ℕ) (f i : ℕ) → f + i < length bs → get_or bs (f + i) 0 < 256
    → field_at bs (8 * f) (8 * (i + 1)) ≡ field_at bs (8 * f) (8 * i) * 256 + get_or bs (f + i) 0
bytes_more bs f i h l =
    let e : 8 * (i + 1) ≡ 8 * i + 8 = omega arith in
    let s : 8 * f + 8 * i ≡ 8 * (f + i) = omega arith in
    let more = field_split bs (8 * f) (8 * i) 8 (omega arith) in
    let last = ap (λ (p : ℕ). field_at bs p 8) s ∙ byte_field bs (f + i) h l in
    ap (field_at bs (8 * f)) e ∙ more ∙ ap (λ (n : ℕ). field_at bs (8 * f) (8 * i) * 256 + n) last

-- ---- sets of events

-- the set of the i bits from the place `at` on, of which the first is event 0
unfoldable pub events_in : List ℕ → ℕ → ℕ → ℕ
events_in bs at i = events_from 0 (bits_at bs at i)

pub events_none : (bs : List ℕ) (at : ℕ) → events_in bs at 0 ≡ 0
unfolding events_in events_from
events_none bs at = refl

-- one bit before them
pub events_more : (bs : List ℕ) (at i : ℕ) → at < 8 * length bs → events_in bs at (i + 1) ≡ events_in bs (at + 1) i * 2 + get_or (bits_of bs) at 0
unfolding events_in events_from
events_more bs at i h =
    let l : at < length (bits_of bs) = rw bits_length h in
    let later = events_shift 0 (bits_at bs (suc at) i) in
    rw (add-one i, add-one at, drop-cons (bits_of bs) at 0 l) (omega arith)

-- the last bit of a field, and the field without it
pub field_last : (bs : List ℕ) (at i : ℕ) → at + i < 8 * length bs → field_at bs at (i + 1) % 2 ≡ get_or (bits_of bs) (at + i) 0
field_last bs at i h = omega (arith, field_more bs at i h, bits_of_lem bs (at + i))

pub field_others : (bs : List ℕ) (at i : ℕ) → at + i < 8 * length bs → field_at bs at (i + 1) / 2 ≡ field_at bs at i
field_others bs at i h = omega (arith, field_more bs at i h, bits_of_lem bs (at + i))

-- "first bit event 1"
pub events_all : (bs : List ℕ) (at : ℕ) → events_at bs at ≡ events_in bs at 31 * 2
unfolding events_in events_at
events_all bs at = omega (arith, events_shift 0 (bits_at bs at 31))
