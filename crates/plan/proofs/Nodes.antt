-- Laws of the sizes of jobs and of the jobs of nodes. Assumes nothing.
use mathlib.Core.Path.{◌≡◌, refl, sym, ap, ◌∙◌}
use mathlib.Core.Logic.{⊎_elim}
use mathlib.Core.List.{List, [], ◌∷◌, ◌++◌, append_assoc, append-nil}
use Prim.Native.Nat.{ℕ, zero, suc, ◌+◌, ◌≤◌, ◌<◌}
use native.Mathlib.Nat.{le_refl, eq-or-lt_of_le, not-suc-le-zero}
use native.Mathlib.Numerals.{add-one}
use native.Mathlib.Omega.{arith}
use lib.ListN.{length, replicate, length-append, length-replicate}
use Rattle.sections.specs.Plan.{Job, Plan}
use Rattle.rows.specs.Rows.{row, place}
use Rattle.sections.specs.Tables.{sizes}
use Rattle.rows.proofs.Rows.{row_length, row_more, map_append}
use Rattle.plan.specs.Nodes.{owners, owners_from, job_of, total}
use Rattle.plan.specs.Legal.{Legal}

-- ---- sums

total_append : (xs ys : List ℕ) → total (xs ++ ys) ≡ total xs + total ys
unfolding total
total_append [] ys = omega arith
total_append (x ∷ xs) ys = rw (total_append xs ys) (omega arith)

module _ (g : ℕ → Job) where
  pub total_none : total (sizes (row 0 g)) ≡ 0
  unfolding total row
  total_none = refl

  -- one job more
  pub total_more : (n : ℕ) → total (sizes (row (n + 1) g)) ≡ total (sizes (row n g)) + (g n).size
  unfolding total
  total_more n =
      rw (row_more g n, map_append (λ (b : Job). b.size) (row n g) (g n ∷ []), total_append) (omega arith)

  -- the sum of the first jobs is no more than that of all
  pub total_le : (i n : ℕ) → i ≤ n → total (sizes (row i g)) ≤ total (sizes (row n g))
  total_le i zero h = let z : i ≡ 0 = omega arith in rw z (omega arith)
  total_le i (suc n) h =
      ⊎_elim
      (λ (q : i ≡ suc n). rw q (le_refl _))
      (λ (q : i < suc n).
      let more = ap (λ (k : ℕ). total (sizes (row k g))) (sym (add-one n)) ∙ total_more n in
      omega (arith, total_le i n (omega arith)))
      (eq-or-lt_of_le h)

-- ---- the jobs of the nodes

owners_append : (j : ℕ) (xs ys : List Job) → owners_from j (xs ++ ys) ≡ owners_from j xs ++ owners_from (j + length xs) ys
unfolding owners_from
owners_append j [] ys = let z : j + length {A = Job} [] ≡ j = omega arith in rw z
owners_append j (x ∷ xs) ys =
    let s : suc j + length xs ≡ j + suc (length xs) = omega arith in
    rw (owners_append (suc j) xs ys, s) (sym (append_assoc (replicate x.size j) (owners_from (suc j) xs) (owners_from (j + suc (length xs)) ys)))

owners_length : (j : ℕ) (xs : List Job) → length (owners_from j xs) ≡ total (sizes xs)
unfolding owners_from total
owners_length j [] = refl
owners_length j (x ∷ xs) = rw (length-append, length-replicate, owners_length (suc j) xs)

-- one job more
pub owners_more : (g : ℕ → Job) (n : ℕ) → owners (row (n + 1) g) ≡ owners (row n g) ++ replicate (g n).size n
unfolding owners_from
owners_more g n =
    let l : 0 + length (row n g) ≡ n = omega (arith, row_length g n) in
    rw (row_more g n, owners_append 0 (row n g) (g n ∷ []), l) (ap (λ x. owners (row n g) ++ x) (append-nil (replicate (g n).size n)))

pub owners_total : (xs : List Job) → length (owners xs) ≡ total (sizes xs)
owners_total xs = owners_length 0 xs

-- each of them is one of the jobs, and 0 past the end
replicate_below : (n v k i : ℕ) → 0 < k → v < k → (xs : List ℕ) → ((j : ℕ) → place xs j < k) → place (replicate n v ++ xs) i < k
replicate_below zero v k i z h xs f = f i
replicate_below (suc n) v k zero z h xs f = h
replicate_below (suc n) v k (suc i) z h xs f = replicate_below n v k i z h xs f

owners_from_below : (j : ℕ) (xs : List Job) (k : ℕ) → 0 < k → j + length xs ≤ k → (i : ℕ) → place (owners_from j xs) i < k
unfolding owners_from
owners_from_below j [] k z h i = z
owners_from_below j (x ∷ xs) k z h i =
    replicate_below x.size j k i z (omega arith) (owners_from (suc j) xs) (owners_from_below (suc j) xs k z (omega arith))

pub owners_below : (xs : List Job) (k : ℕ) → 0 < k → length xs ≤ k → (i : ℕ) → place (owners xs) i < k
owners_below xs k z h i = owners_from_below 0 xs k z (omega arith) i

-- each node is of one of the jobs
owner_there : (xs : List Job) (i : ℕ) → i < total (sizes xs) → place (owners xs) i < length xs
unfolding total
owner_there [] i h = absurd (not-suc-le-zero h)
owner_there (x ∷ xs) i h = owners_below (x ∷ xs) (length (x ∷ xs)) (omega arith) (le_refl _) i

pub job_there : (p : Plan) → Legal p → (n : ℕ) → n < p.nodes → job_of p n < length p.jobs
job_there p legal n h = owner_there p.jobs n (omega (arith, h, legal.sizes))
