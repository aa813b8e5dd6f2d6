-- The answer of the checks of what a plan says, by which of their tests hold, and of all checks. Assumes nothing.
use mathlib.Core.Path.{◌≡◌, sym, ap, ◌∙◌}
use mathlib.Core.Bool.{true, false}
use mathlib.Core.Option.{Option, none, some}
use mathlib.Core.List.{List, map}
use Prim.Native.Nat.{ℕ}
use borrow.Author.Tests.{eqb-true, not-false}
use lib.Dec.{eqb}
use Rattle.sections.specs.Plan.{Job, Plan}
use Rattle.sections.specs.Layout.{plan_of}
use Rattle.sections.specs.Tables.{sizes}
use Rattle.plan.specs.Checks.{Check, or_else, first, any}
use Rattle.plan.specs.Nodes.{total}
use Rattle.plan.specs.Refusals.{sizes_wrong, wrong_sizes, stray_ends, none_ends, split_ends, exit_left, no_channel, framing, ends, shape, order}
use Rattle.plan.proofs.Tests.{both_none, or_none, first_append, first_said}

-- ---- refusals 5 to 9 and 21

module _ (p : Plan) where
  pub shape_5 : wrong_sizes p ≡ true → first shape p ≡ some 5
  unfolding first
  shape_5 e = rw e

  pub shape_past : wrong_sizes p ≡ false → first shape p ≡ first ends p
  unfolding first
  shape_past e = rw e

  pub ends_6 : stray_ends p ≡ true → first ends p ≡ some 6
  unfolding first
  ends_6 e = rw e

  module _ (kept : stray_ends p ≡ false) where
    pub ends_21 : none_ends p ≡ true → first ends p ≡ some 21
    unfolding first
    ends_21 e = rw (kept, e)

    module _ (ending : none_ends p ≡ false) where
      pub ends_7 : split_ends p ≡ true → first ends p ≡ some 7
      unfolding first
      ends_7 e = rw (kept, ending, e)

      module _ (joined : split_ends p ≡ false) where
        pub ends_8 : exit_left p ≡ true → first ends p ≡ some 8
        unfolding first
        ends_8 e = rw (kept, ending, joined, e)

        module _ (staying : exit_left p ≡ false) where
          pub ends_9 : no_channel p ≡ true → first ends p ≡ some 9
          unfolding first
          ends_9 e = rw (kept, ending, joined, staying, e)

          pub ends_none : no_channel p ≡ false → first ends p ≡ none
          unfolding first
          ends_none e = rw (kept, ending, joined, staying, e)

pub sizes_right : (nodes : ℕ) (jobs : List Job) → sizes_wrong nodes jobs ≡ false → total (sizes jobs) ≡ nodes
sizes_right nodes jobs e = eqb-true _ _ (not-false _ (or_none (any (λ (b : Job). eqb b.size 0) jobs) _ e).1)

-- ---- all of them

order_parts : (b : List ℕ) → first order b ≡ or_else (first framing b) (first shape (plan_of b))
order_parts b = first_append framing (map (λ (c : Check Plan) (x : List ℕ). c (plan_of x)) shape) b ∙ ap (or_else (first framing b)) (first_said plan_of shape b)

pub order_refused : (b : List ℕ) (n : ℕ) → first framing b ≡ some n → first order b ≡ some n
order_refused b n e = order_parts b ∙ ap (λ (o : Option ℕ). or_else o (first shape (plan_of b))) e

pub order_past : (b : List ℕ) → first framing b ≡ none → first order b ≡ first shape (plan_of b)
order_past b e = order_parts b ∙ ap (λ (o : Option ℕ). or_else o (first shape (plan_of b))) e

-- where no refusal applies
pub order_none : (b : List ℕ) → first order b ≡ none → (first framing b ≡ none) × (first shape (plan_of b) ≡ none)
order_none b e = both_none (first framing b) (first shape (plan_of b)) (sym (order_parts b) ∙ e)
