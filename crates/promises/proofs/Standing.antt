-- What a verdict says of a plan with standing jobs. Document 02, order 5: "A run is complete when all other jobs stand at their exits, and the
-- final set takes in those exits only." Of whatever answer meets the promise of a judge, under the plan's own pattern or a text. Assumes nothing.
use mathlib.Core.Path.{◌≡◌, sym, ap, subst, ◌∙◌}
use mathlib.Core.Bool.{Bool, true}
use mathlib.Core.List.{List, ◌++◌}
use mathlib.Core.Logic.{◌↔◌}
use mathlib.Core.Option.{some}
use Prim.Native.Nat.{ℕ, ◌<◌}
use native.Mathlib.Omega.{arith}
use lib.ListN.{length}
use Rattle.masks.specs.Mask.{In}
use Rattle.rows.specs.Rows.{place}
use Rattle.sections.specs.Plan.{Plan}
use Rattle.sections.specs.Layout.{plan_of}
use Rattle.plan.specs.Nodes.{exit_of, must_end}
use Rattle.expressions.specs.Expression.{Expression, Language}
use Rattle.graph.specs.Moves.{Move}
use Rattle.graph.specs.Runs.{begin, Run, Complete}
use Rattle.graph.proofs.Standing.{complete_on}
use Rattle.verdict.specs.declared.Counts.{Counts}
use Rattle.verdict.specs.Verdict.{final_of}
use Rattle.verdict.specs.Answer.{Answer, verdict_of}
use Rattle.verdict.proofs.Final.{AtExits, held_together, in_final, final_all}
use Rattle.promises.specs.Order.{Pattern, expression_by}
use Rattle.promises.specs.Property.{string_of}
use Rattle.promises.specs.Judged.{Suits, Judged}
use Rattle.promises.proofs.Sound.{states_known, gives_below}
use Rattle.promises.proofs.Evaluate.{few_states, legal_plan}
use Rattle.promises.proofs.Narrower.{no_refusal}

module _ (q : Pattern) (b before : List ℕ) (a : Answer) (after : List ℕ) (j : Judged q b before a after) (verified : Bool) (counts : Counts)
    (e : verdict_of a ≡ some (verified, counts)) where
  abbrev p : Plan
  p = plan_of b

  abbrev r : Expression
  r = expression_by q b

  -- where there are jobs, the final set is what the exits hold at which a job has to end, and there is such an exit, or 21 would apply
  pub final_at_exits : 0 < length p.jobs → (s : ℕ) → In s counts.ends ↔ AtExits (place after) (exit_of p) (must_end p) (length p.jobs) s
  final_at_exits h s =
      let passed = sym j.refusal ∙ no_refusal a (verified, counts) e in
      let legal = legal_plan q b (length before) passed in
      let fits = few_states q b (length before) passed in
      let v = j.judged verified counts e in
      let told = ap (λ (c : Counts). c.ends) v.counted in
      let final = in_final (place after) (exit_of p) (must_end p) (length p.jobs) s in (
        (λ i. (final.0 (subst (In s) told i)).1),
        (λ held.
            let one = legal.ending h in
            let given = (v.row.sets (exit_of p one.0) (legal.exit one.0 one.1).node s).0 (held one.0 one.1 one.2) in
            let below = gives_below p r fits legal given in
            subst (In s) (sym told) (final.1 (held_together (length p.jobs) s h (omega (arith, (states_known p r fits).1, below)), held))),
      )

  -- where no job stands, it is that of all exits, as in 01
  pub final_as_before : ((k : ℕ) → k < length p.jobs → must_end p k ≡ true)
      → counts.ends ≡ final_of (place after) (exit_of p) (λ (k : ℕ). true) (length p.jobs)
  final_as_before all =
      ap (λ (c : Counts). c.ends) (j.judged verified counts e).counted ∙ final_all (place after) (exit_of p) (must_end p) (length p.jobs) all

  -- "Standing jobs may go on" after a complete end: if the plan is verified, what the run has spelt then suits too
  pub suits_on : verified ≡ true → (ms ns : List Move) → Run p (begin p) (ms ++ ns) → Complete p (must_end p) ms
      → Suits p.kind (Language r (string_of p (ms ++ ns)))
  suits_on t ms ns u c =
      let legal = legal_plan q b (length before) (sym j.refusal ∙ no_refusal a (verified, counts) e) in
      ((j.judged verified counts e).runs (ms ++ ns) u).spells t (complete_on p legal ms ns u c)
