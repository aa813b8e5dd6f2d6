-- The sets of events that a tree lists, and the alphabet without one.
use mathlib.Core.Path.{◌≡◌, ◌∙◌}
use mathlib.Core.List.{List, [], ◌∷◌, Memᴰ}
use mathlib.Core.Logic.{◌↔◌, ⊎_elim}
use Prim.Native.Nat.{ℕ, ◌-◌, ◌^◌}
use native.Mathlib.Omega.{arith}
use lib.Bits.{bit_and, bit_xor, and_comm, xor_add_and}
use Rattle.masks.specs.Mask.{In}
use Rattle.masks.proofs.Members.{digit_lt, digit_and, digit_xor, digit_self, digit_not_in, in_or, in_or_left, in_or_right, in_and_left, in_single, not_in_none}
use Rattle.masks.proofs.Sets.{and_whole}
use Rattle.grammar.specs.Meaning.{listed, without}

-- ---- the events that are listed

listed_in : (es : List ℕ) (e : ℕ) → In e (listed es) → Memᴰ e es
unfolding listed
listed_in [] e i = absurd (not_in_none e i)
listed_in (x ∷ es) e i =
    ⊎_elim (λ h. Memᴰ.head (in_single x e h)) (λ h. Memᴰ.tail (listed_in es e h)) (in_or (2 ^ x) (listed es) e i)

in_list : {e : ℕ} {es : List ℕ} → Memᴰ e es → In e (listed es)
unfolding listed
in_list {e} (Memᴰ.head {x} {xs} q) = in_or_left (2 ^ x) (listed xs) e (rw q (digit_self x))
in_list {e} (Memᴰ.tail {x} {xs} m) = in_or_right (2 ^ x) (listed xs) e (in_list m)

pub in_listed : (es : List ℕ) (e : ℕ) → In e (listed es) ↔ Memᴰ e es
in_listed es e = (listed_in es e, in_list)

-- ---- the alphabet without them

without_xor : (a m : ℕ) → a - bit_and a m ≡ bit_xor a (bit_and a m)
without_xor a m =
    let h : bit_and a (bit_and a m) ≡ bit_and a m = and_comm a (bit_and a m) ∙ (and_whole (bit_and a m) a).1 (in_and_left a m) in
    omega (arith, xor_add_and a (bit_and a m))

pub in_without : (a : ℕ) (es : List ℕ) (e : ℕ) → In e (without a es) ↔ (In e a × (In e (listed es) → ⊥))
in_without a es e =
    let digits = digit_xor a (bit_and a (listed es)) e in
    let both = digit_and a (listed es) e in
    rw (without_xor a (listed es)) (
      λ i. (omega (arith, digits, both, digit_lt a e), λ j. omega (arith, digits, both, digit_lt a e)),
      λ h. omega (arith, digits, both, h.0, digit_not_in (listed es) e h.1),
    )
