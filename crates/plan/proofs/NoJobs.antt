-- Plans without jobs. Document 02, order 4: "5 answers jobs 0 with nodes or nodes 0 with jobs", steps, calls and accepts are answered 7, and
-- what is left has no nodes and none of these. Assumes nothing.
use mathlib.Core.Path.{◌≡◌, refl, sym, ap, ◌∙◌}
use mathlib.Core.Bool.{true, or-true}
use mathlib.Core.List.{List, [], ◌∷◌, Memᴰ}
use Prim.Native.Nat.{ℕ, zero, suc, ◌+◌}
use native.Mathlib.Nat.{not-suc-le-zero}
use native.Mathlib.Omega.{arith}
use borrow.Author.Tests.{le-ltb, ne_eqb}
use lib.Dec.{eqb}
use Rattle.sections.specs.Plan.{Job, Arc, Plan}
use Rattle.sections.specs.Tables.{sizes}
use Rattle.plan.specs.Checks.{any_from, any}
use Rattle.plan.specs.Nodes.{job_of, total}
use Rattle.plan.specs.Refusals.{sizes_wrong, apart, split_ends, arcs}
use Rattle.plan.specs.Legal.{Legal}

-- ---- 5

pub nodes_without_jobs : (n : ℕ) → sizes_wrong (suc n) [] ≡ true
unfolding any_from total
nodes_without_jobs n = rw (ne_eqb 0 (suc n) (λ z. absurd (omega (arith, z))))

pub jobs_without_nodes : (j : Job) (l : List Job) → sizes_wrong 0 (j ∷ l) ≡ true
unfolding any_from total
jobs_without_nodes j l = go j.size refl
  where
    go : (n : ℕ) → j.size ≡ n → sizes_wrong 0 (j ∷ l) ≡ true
    go zero e = rw e
    go (suc n) e = rw (ne_eqb (j.size + total (sizes l)) 0 (λ z. absurd (omega (arith, e)))) (or-true (any (λ (b : Job). eqb b.size 0) (j ∷ l)))

-- ---- 7

arc_apart : (job : ℕ → ℕ) (a : Arc) → apart 0 job a ≡ true
arc_apart job a = rw (le-ltb a.from 0 (omega arith))

pub arcs_without_jobs : (p : Plan) → p.nodes ≡ 0 → (a : Arc) (l : List Arc) → arcs p ≡ a ∷ l → split_ends p ≡ true
unfolding any_from
arcs_without_jobs p e a l h = rw (e, h, arc_apart (job_of p) a)

-- ---- what is accepted

-- a list without members
pub none_there : {A : Type 0} (l : List A) → ((a : A) → Memᴰ a l → ⊥) → l ≡ []
none_there [] h = refl
none_there (a ∷ l) h = absurd (h a (Memᴰ.head refl))

module _ (p : Plan) (legal : Legal p) (none : p.jobs ≡ []) where
  pub no_nodes : p.nodes ≡ 0
  unfolding total
  no_nodes = sym legal.sizes ∙ ap (λ (l : List Job). total (sizes l)) none

  pub no_arcs : (a : Arc) → Memᴰ a (arcs p) → ⊥
  no_arcs a m = not-suc-le-zero (rw no_nodes at (legal.inside a m).from)
