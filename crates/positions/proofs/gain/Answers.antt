-- The members of the set gain one by one.
use Prim.Native.Nat.{◌<◌}
use Rattle.masks.proofs.Members.{in_below}
use Rattle.positions.proofs.Gains.{gaining_none, gaining_more, gaining_all}
use Rattle.positions.proofs.gain.Goals as goal
use Rattle.positions.proofs.gain.Goals.{In-Some}

pub loop-p-init : goal.loop-p-init
loop-p-init c = rw (c.into_iter-p-iterator.ensures.into_iter_gives, c.members_of-p-items.ensures) (gaining_none c.args.sets.now c.args.m c.args.x c.requires)

below : (c : In-Some) → c.in-Some.p < 33
below c = in_below 33 c.loop-p.p-iterator.left c.in-Some.p c.loop-p.invariant.few c.in-Some.ensures.steps.0

pub bounds-sets-p : goal.bounds-sets-p
bounds-sets-p c = below (goal.at.bounds-sets-p c).In-Some

pub bounds-sets-p-in-loop-p : goal.bounds-sets-p-in-loop-p
bounds-sets-p-in-loop-p c = below (goal.at.bounds-sets-p-in-loop-p c).In-Some

pub loop-p-preserved : goal.loop-p-preserved
loop-p-preserved c =
    rw c.in-Some.ensures.steps.3
    (gaining_more c.args.sets.now c.args.m c.args.x c.loop-p.p-iterator.left c.in-Some.p c.loop-p.sets c.loop-p.invariant c.in-Some.ensures.steps.0 (below (goal.at.loop-p-preserved c).In-Some))

pub returns : goal.returns
returns c = gaining_all c.args.sets.now c.args.m c.args.x c.loop-p.sets (rw c.in-None.ensures.steps.0 at c.loop-p.invariant)
