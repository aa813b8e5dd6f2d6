-- One more job at each turn.
use Rattle.std.proofs.Common.{sym}
use Rattle.rows.specs.Rows.{place}
use Rattle.sections.specs.Tables.{job_in}
use Rattle.plan.specs.Refusals.{stray}
use Rattle.plan.proofs.Tests.{any_row_none, any_turn}
use Rattle.ends.proofs.Turns.{stray_read}
use Rattle.ends.proofs.any_stray.Goals as goal

pub loop-i-init : goal.loop-i-init
loop-i-init c = sym (any_row_none (stray c.args.nodes (place c.args.owner.now)) (job_in c.args.jobs))

pub loop-i-preserved : goal.loop-i-preserved
loop-i-preserved c =
    let args = c.args in
    let loop = c.loop-i in
    any_turn (stray args.nodes (place args.owner.now)) (job_in args.jobs) loop.i loop.found _ loop.invariant
    (stray_read args.owner.now args.nodes args.jobs loop.i _ _ _ _ c.from-entry.ensures c.from-exit.ensures c.from-entry_job.ensures c.from-exit_job.ensures)
