-- Standing jobs. Document 02, order 5: a run "is complete when all other jobs stand at their exits". At a complete end nothing but standing jobs
-- can move, and whatever they do the run stays complete. Where no job stands, a run is complete when every job is at its exit. Assumes nothing.
use mathlib.Core.Path.{◌≡◌, refl, sym, ap, ◌∙◌, subst}
use mathlib.Core.Bool.{Bool, true, false, false≢true}
use mathlib.Core.List.{List, [], ◌∷◌, ◌++◌, Memᴰ}
use mathlib.Core.Logic.{◌↔◌}
use Prim.Native.Nat.{ℕ, ◌<◌}
use lib.ListN.{length}
use Rattle.sections.specs.Plan.{Arc, Plan}
use Rattle.plan.specs.Nodes.{exit_of, must_end}
use Rattle.plan.specs.Legal.{Legal}
use Rattle.plan.proofs.Nodes.{job_there}
use Rattle.graph.specs.Moves.{Move, mover, Has, arcs_of}
use Rattle.graph.specs.Runs.{Config, begin, Finds, after, Run, reached, Complete}
use Rattle.graph.proofs.Moves.{arcs_in}
use Rattle.graph.proofs.Sound.{put_elim}

module _ (p : Plan) where
  -- ---- a run in two parts

  run_rest : (ms ns : List Move) (at : Config) → Run p at (ms ++ ns) → Run p (reached p at ms) ns
  run_rest [] ns at r = r
  run_rest (m ∷ ms) ns at r = run_rest ms ns (after p at m) r.2

  reached_on : (ms ns : List Move) (at : Config) → reached p at (ms ++ ns) ≡ reached p (reached p at ms) ns
  reached_on [] ns at = refl
  reached_on (m ∷ ms) ns at = reached_on ms ns (after p at m)

  -- ---- complete ends

  -- each job that has to end is at its exit
  abbrev Ended : Config → Type 0
  Ended at = (j : ℕ) → j < length p.jobs → must_end p j ≡ true → at j ≡ exit_of p j

  -- 01: "It is complete when every job stands at its exit."
  pub complete_all : ((j : ℕ) → j < length p.jobs → must_end p j ≡ true) → (ms : List Move)
      → Complete p (must_end p) ms ↔ ((j : ℕ) → j < length p.jobs → reached p (begin p) ms j ≡ exit_of p j)
  complete_all all ms = ((λ c j l. c j l (all j l)), (λ c j l e. c j l))

  module _ (legal : Legal p) where
    -- the jobs of a move that is found at a complete end stand
    moves_standing : (at : Config) (m : Move) → Has p m → Finds p at m → Ended at → (a : Arc) → Memᴰ a (arcs_of p m) → must_end p (mover p a) ≡ false
    moves_standing at m h f e a x = go (must_end p (mover p a)) refl
      where
        go : (b : Bool) → must_end p (mover p a) ≡ b → b ≡ false
        go false q = refl
        go true q =
            let arc = legal.inside a (arcs_in p m h a x) in
            absurd (arc.stays q (sym (f a x) ∙ e (mover p a) (job_there p legal a.from arc.from) q))

    ended_after : (at : Config) (m : Move) → Has p m → Finds p at m → Ended at → Ended (after p at m)
    ended_after at m h f e j l b =
        put_elim p at j (λ n. n ≡ exit_of p j) (arcs_of p m)
        (λ a x q. absurd (false≢true (sym (moves_standing at m h f e a x) ∙ ap (must_end p) (sym q) ∙ b))) (λ o. e j l b)

    ended_on : (ms : List Move) (at : Config) → Run p at ms → Ended at → Ended (reached p at ms)
    ended_on [] at r e = e
    ended_on (m ∷ ms) at r e = ended_on ms (after p at m) r.2 (ended_after at m r.0 r.1 e)

    -- "Standing jobs may go on": the moves that come behind a complete end are of standing jobs alone
    pub standing_moves : (ms ns : List Move) (m : Move) → Run p (begin p) (ms ++ (m ∷ ns)) → Complete p (must_end p) ms
        → (a : Arc) → Memᴰ a (arcs_of p m) → must_end p (mover p a) ≡ false
    standing_moves ms ns m r c = let u = run_rest ms (m ∷ ns) (begin p) r in moves_standing (reached p (begin p) ms) m u.0 u.1 c

    -- and every run that goes on so is complete too
    pub complete_on : (ms ns : List Move) → Run p (begin p) (ms ++ ns) → Complete p (must_end p) ms → Complete p (must_end p) (ms ++ ns)
    complete_on ms ns r c =
        subst Ended (sym (reached_on ms ns (begin p))) (ended_on ns (reached p (begin p) ms) (run_rest ms ns (begin p) r) c)
