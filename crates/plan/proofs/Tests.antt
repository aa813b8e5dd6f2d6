-- Laws of checks in their order, and of tests over rows. Assumes nothing.
use mathlib.Core.Path.{◌≡◌, refl, sym, ap, ◌∙◌}
use mathlib.Core.Bool.{Bool, true, false, ◌||◌, cond, or_assoc, or-false}
use mathlib.Core.Option.{Option, none, some}
use mathlib.Core.List.{List, [], ◌∷◌, ◌++◌, map}
use Prim.Native.Nat.{ℕ, suc, ◌+◌}
use native.Mathlib.Omega.{arith}
use lib.ListN.{length}
use Rattle.rows.specs.Rows.{row}
use Rattle.rows.proofs.Rows.{row_length, row_more}
use Rattle.plan.specs.Checks.{Check, refuse, or_else, first, any_from, any, any_numbered}

-- ---- truth values

pub or_none : (a b : Bool) → (a || b) ≡ false → (a ≡ false) × (b ≡ false)
or_none true b e = (e, cc)
or_none false b e = (refl, e)

-- what a test answered, of what it computes
pub told : {r t b : Bool} → r ≡ t → r ≡ b → t ≡ b
told e h = sym e ∙ h

-- ---- checks in their order

module _ {A : Type 0} (n : ℕ) (test : A → Bool) (cs : List (Check A)) (a : A) where
  -- where none applies, this one does not, and none of the rest
  pub first_none : first (refuse n test ∷ cs) a ≡ none → (test a ≡ false) × (first cs a ≡ none)
  unfolding first
  first_none e = go (test a) refl e
    where
      go : (b : Bool) → test a ≡ b → or_else (cond b (some n) none) (first cs a) ≡ none → (test a ≡ false) × (first cs a ≡ none)
      go true h e = (cc, cc)
      go false h e = (h, e)

pub both_none : (x y : Option ℕ) → or_else x y ≡ none → (x ≡ none) × (y ≡ none)
both_none none y e = (refl, e)
both_none (some n) y e = (e, cc)

or_else_none : (x : Option ℕ) → or_else x none ≡ x
or_else_none none = refl
or_else_none (some n) = refl

or_else_assoc : (x y z : Option ℕ) → or_else (or_else x y) z ≡ or_else x (or_else y z)
or_else_assoc none y z = refl
or_else_assoc (some n) y z = refl

pub first_append : {A : Type 0} (xs ys : List (Check A)) (a : A) → first (xs ++ ys) a ≡ or_else (first xs a) (first ys a)
unfolding first
first_append [] ys a = refl
first_append (x ∷ xs) ys a = ap (or_else (x a)) (first_append xs ys a) ∙ sym (or_else_assoc (x a) (first xs a) (first ys a))

-- a list of checks with one more at its end
pub first_last : {A : Type 0} (cs : List (Check A)) (c : Check A) (a : A) → first (cs ++ (c ∷ [])) a ≡ or_else (first cs a) (c a)
unfolding first
first_last cs c a = first_append cs (c ∷ []) a ∙ ap (or_else (first cs a)) (or_else_none (c a))

-- checks of what a thing says
pub first_said : {A B : Type 0} (f : A → B) (cs : List (Check B)) (a : A) → first (map (λ (c : Check B) (x : A). c (f x)) cs) a ≡ first cs (f a)
unfolding first
first_said f [] a = refl
first_said f (c ∷ cs) a = ap (or_else (c (f a))) (first_said f cs a)

-- ---- tests over rows

module _ {A : Type 0} (test : ℕ → A → Bool) where
  any_append : (k : ℕ) (xs ys : List A) → any_from test k (xs ++ ys) ≡ (any_from test k xs || any_from test (k + length xs) ys)
  unfolding any_from
  any_append k [] ys = let z : k + length {A = A} [] ≡ k = omega arith in rw z
  any_append k (x ∷ xs) ys =
      let s : suc k + length xs ≡ k + suc (length xs) = omega arith in
      rw (any_append (suc k) xs ys, s) (sym (or_assoc (test k x) (any_from test (suc k) xs) (any_from test (k + suc (length xs)) ys)))

  pub any_row_none : (g : ℕ → A) → any_numbered test (row 0 g) ≡ false
  unfolding any_from row
  any_row_none g = refl

  pub any_row_more : (n : ℕ) (g : ℕ → A) → any_numbered test (row (n + 1) g) ≡ (any_numbered test (row n g) || test n (g n))
  unfolding any_from
  any_row_more n g =
      let l : 0 + length (row n g) ≡ n = omega (arith, row_length g n) in
      rw (row_more, any_append 0 (row n g) (g n ∷ []), l) (ap (λ b. any_numbered test (row n g) || b) (or-false (test n (g n))))

-- One turn of a loop that tests a section: the record i is tested, and then the first i + 1 are.
pub any_turn : {A : Type 0} (test : ℕ → A → Bool) (g : ℕ → A) (i : ℕ) (found hit : Bool) → found ≡ any_numbered test (row i g) → hit ≡ test i (g i)
    → (found || hit) ≡ any_numbered test (row (i + 1) g)
any_turn test g i found hit e h =
    let s : (found || hit) ≡ (any_numbered test (row i g) || test i (g i)) = λ k. e k || h k in
    s ∙ sym (any_row_more test i g)

-- a test that does not ask for the number
any_shift : {A : Type 0} (test : A → Bool) (k : ℕ) (xs : List A) → any_from (λ i x. test x) k xs ≡ any test xs
unfolding any_from
any_shift test k [] = refl
any_shift test k (x ∷ xs) = ap (λ b. test x || b) (any_shift test (suc k) xs ∙ sym (any_shift test 1 xs))

pub any_both : {A : Type 0} (test : A → Bool) (xs ys : List A) → any test (xs ++ ys) ≡ (any test xs || any test ys)
any_both test xs ys = any_append (λ i x. test x) 0 xs ys ∙ ap (λ b. any test xs || b) (any_shift test (0 + length xs) ys)
