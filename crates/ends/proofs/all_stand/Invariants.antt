-- Whether one of the jobs passed has to end.
use Rattle.std.proofs.Common.{◌≡◌, not}
use Rattle.rows.specs.Rows.{row}
use Rattle.sections.specs.Plan.{Job, stands}
use Rattle.sections.specs.Tables.{job_in}
use Rattle.plan.specs.Checks.{any}
use Rattle.ends.proofs.all_stand.Given as goal

abbrev pub invariant-loop-i : goal.invariant-loop-i
invariant-loop-i l = l.ending ≡ any (λ (b : Job). not (stands b.standing)) (row l.i (job_in l.jobs))
