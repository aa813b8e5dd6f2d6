-- Checks in their order: the first that applies gives the refusal.
use Rattle.std.specs.Prelude.{ℕ, suc, Bool, false, ◌||◌, cond, List, [], ◌∷◌}
use Rattle.std.proofs.Math.Option.{Option, none, some}

-- A check looks at a thing and answers the number of a refusal, or none.
abbrev pub Check : Type 0 → Type 0
Check A = A → Option ℕ

-- the refusal n where the test holds
abbrev pub refuse : {A : Type 0} → ℕ → (A → Bool) → Check A
refuse n test a = cond (test a) (some n) none

abbrev pub or_else : Option ℕ → Option ℕ → Option ℕ
or_else none other = other
or_else (some n) other = some n

-- the first refusal of a list of checks
unfoldable pub first : {A : Type 0} → List (Check A) → Check A
first [] a = none
first (c ∷ cs) a = or_else (c a) (first cs a)

-- whether a test holds of one of a list, whose members are numbered from k on
unfoldable pub any_from : {A : Type 0} → (ℕ → A → Bool) → ℕ → List A → Bool
any_from test k [] = false
any_from test k (x ∷ xs) = test k x || any_from test (suc k) xs

abbrev pub any_numbered : {A : Type 0} → (ℕ → A → Bool) → List A → Bool
any_numbered test l = any_from test 0 l

abbrev pub any : {A : Type 0} → (A → Bool) → List A → Bool
any test l = any_from (λ k x. test x) 0 l
