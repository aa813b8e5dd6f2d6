-- Sets that a test chooses, unions of three sets, and the test that a set is not empty.
use mathlib.Core.Path.{◌≡◌, refl}
use mathlib.Core.Bool.{Bool, true, false, cond, not, false≢true}
use Prim.Native.Nat.{ℕ}
use native.Mathlib.Omega.{arith}
use borrow.Author.Tests.{eq-eqb, ne_eqb}
use lib.Bits.{bit_or}
use lib.Dec.{eqb}
use Rattle.masks.specs.Mask.{In}
use Rattle.masks.proofs.Members.{digit_or, not_in_none}
use Rattle.masks.proofs.Sets.{digits_ext, in_some, some_in}

-- ---- the set x where the test b holds

pub in_cond : (b : Bool) (x s : ℕ) → b ≡ true → In s x → In s (cond b x 0)
in_cond b x s h i = rw h i

pub cond_in : (b : Bool) (x s : ℕ) → In s (cond b x 0) → (b ≡ true) × In s x
cond_in true x s i = (refl, i)
cond_in false x s i = absurd (not_in_none s i)

-- ---- three sets

pub or_assoc : (a b c : ℕ) → bit_or (bit_or a b) c ≡ bit_or a (bit_or b c)
or_assoc a b c =
    digits_ext (bit_or (bit_or a b) c) (bit_or a (bit_or b c))
    (λ s. omega (arith, digit_or (bit_or a b) c s, digit_or a b s, digit_or a (bit_or b c) s, digit_or b c s))

-- ---- the test that a set has a member

pub some_test : (m s : ℕ) → In s m → not (eqb m 0) ≡ true
some_test m s i = rw (ne_eqb m 0 (in_some m s i))

pub test_some : (m : ℕ) → not (eqb m 0) ≡ true → (s : ℕ) × In s m
test_some m h = some_in m (λ z. false≢true (rw (eq-eqb m 0 z) at h))
