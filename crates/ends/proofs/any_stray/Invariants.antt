-- Whether one of the jobs passed has a stray entry or exit.
use Rattle.std.proofs.Common.{◌≡◌}
use Rattle.rows.specs.Rows.{row, place}
use Rattle.sections.specs.Tables.{job_in}
use Rattle.plan.specs.Checks.{any_numbered}
use Rattle.plan.specs.Refusals.{stray}
use Rattle.ends.proofs.any_stray.Given as goal

abbrev pub invariant-loop-i : goal.invariant-loop-i
invariant-loop-i l = l.found ≡ any_numbered (stray l.nodes (place l.owner)) (row l.i (job_in l.jobs))
