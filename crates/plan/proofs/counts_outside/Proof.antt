-- `counts_outside` joins the tests of the counts. Assumes nothing.
use mathlib.Core.Bool.{◌||◌}
use Rattle.plan.specs.Refusals.{counts_outside}
use borrow.Author.Rules.{rules}
use Rattle.plan.proofs.counts_outside.Statement.{statement}
use Rattle.plan.proofs.counts_outside.Tie as tie

is_outside-jobs-requires : tie.Need-is_outside-jobs-requires
is_outside-jobs-requires c κs = search rules

is_outside-nodes-requires : tie.Need-is_outside-nodes-requires
is_outside-nodes-requires c κs = search rules

is_outside-steps-requires : tie.Need-is_outside-steps-requires
is_outside-steps-requires c κs = search rules

is_outside-calls-requires : tie.Need-is_outside-calls-requires
is_outside-calls-requires c κs = search rules

is_outside-accepts-requires : tie.Need-is_outside-accepts-requires
is_outside-accepts-requires c κs = search rules

is_outside-channels-requires : tie.Need-is_outside-channels-requires
is_outside-channels-requires c κs = search rules

is_outside-items-requires : tie.Need-is_outside-items-requires
is_outside-items-requires c κs = search rules

returns : tie.Need-returns
unfolding counts_outside
returns c =
    λ i.
    c.is_outside-jobs.ensures i || (c.is_outside-nodes.ensures i || (c.is_outside-steps.ensures i || (c.is_outside-calls.ensures i || (c.is_outside-accepts.ensures i || (c.is_outside-channels.ensures i || c.is_outside-items.ensures i)))))

pub counts_outside_spec : {M : Type 1} → statement M
counts_outside_spec =
    tie.close
    (tie.spec is_outside-jobs-requires is_outside-nodes-requires is_outside-steps-requires is_outside-calls-requires is_outside-accepts-requires is_outside-channels-requires is_outside-items-requires returns)
