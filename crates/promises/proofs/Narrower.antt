-- Order 3 keeps what document 01's rule verifies: the sets are smaller, so is the final set, and so a plan that those sets verify is
-- verified. Assumes nothing.
use mathlib.Core.Path.{◌≡◌, refl, sym, ◌∙◌}
use mathlib.Core.Bool.{Bool, true, false}
use mathlib.Core.List.{List}
use mathlib.Core.Logic.{◌↔◌}
use mathlib.Core.Option.{none, some, none-ne-some}
use Prim.Native.Nat.{ℕ, ◌<◌}
use lib.ListN.{length}
use Rattle.std.specs.Prelude.{Ok, Err}
use Rattle.masks.specs.Mask.{In, Sub}
use Rattle.rows.specs.Rows.{place}
use Rattle.sections.specs.Plan.{Plan}
use Rattle.sections.specs.Layout.{plan_of}
use Rattle.plan.specs.Nodes.{exit_of, must_end}
use Rattle.plan.specs.Legal.{Legal}
use Rattle.expressions.specs.Expression.{Expression}
use Rattle.graph.specs.Flow.{Flow}
use Rattle.graph.proofs.Fewer.{flow_narrower}
use Rattle.growth.specs.Table.{by_table}
use Rattle.refusals.specs.Numbers.{refusal_of}
use Rattle.verdict.specs.declared.Counts.{Counts}
use Rattle.verdict.specs.Verdict as verdicts
use Rattle.verdict.specs.Answer.{Answer, verdict_of}
use Rattle.verdict.proofs.Final.{final_fewer}
use Rattle.verdict.proofs.Verified.{verified_fewer}
use Rattle.promises.specs.Order.{Pattern, expression_by}
use Rattle.promises.specs.Property.{table, accepting}
use Rattle.promises.specs.Judged.{Holds, final_set, Judged}
use Rattle.promises.proofs.Evaluate.{legal_plan}

module _ (p : Plan) (r : Expression) (wide : List ℕ) where
  -- the sets of document 01's rule: an ordering edge hands on each state that its step or meeting moves
  abbrev pub Wide : Type 0
  Wide = (n : ℕ) → n < p.nodes → (s : ℕ) → In s (place wide n) ↔ Flow p (by_table p (table p r)) false n s

  module _ (w : Wide) (before after : List ℕ) (h : Holds p r before after) where
    pub sets_narrower : (n : ℕ) → n < p.nodes → Sub (place after n) (place wide n)
    sets_narrower n l s i = (w n l s).1 (flow_narrower p (by_table p (table p r)) ((h.sets n l s).0 i))

    pub final_narrower : Legal p → Sub (final_set p after) (final_set p wide)
    final_narrower legal =
        final_fewer (place after) (place wide) (exit_of p) (must_end p) (length p.jobs) (λ j l. sets_narrower (exit_of p j) (legal.exit j l).node)

-- a verdict is no refusal
pub no_refusal : (a : Answer) (x : Bool × Counts) → verdict_of a ≡ some x → refusal_of a ≡ none
no_refusal (Err r) x e = absurd (none-ne-some x e)
no_refusal (Ok v) x e = refl

-- whatever the judge answers to a plan and a pattern: a verdict is "verified" if the sets of document 01's rule would make it so
pub verified_narrower : (q : Pattern) (b before : List ℕ) (a : Answer) (after : List ℕ) → Judged q b before a after
    → (verified : Bool) (counts : Counts) → verdict_of a ≡ some (verified, counts)
    → (wide : List ℕ) → Wide (plan_of b) (expression_by q b) wide
    → verdicts.Verified (plan_of b).kind (final_set (plan_of b) wide) (accepting (plan_of b) (expression_by q b)) → verified ≡ true
verified_narrower q b before a after j verified counts e wide w v =
    let p = plan_of b in
    let r = expression_by q b in
    let u = j.judged verified counts e in
    let legal = legal_plan q b (length before) (sym j.refusal ∙ no_refusal a (verified, counts) e) in
    u.verdict.1 (verified_fewer p.kind (final_set p after) (final_set p wide) (accepting p r) (final_narrower p r wide w before after u.row legal) v)
