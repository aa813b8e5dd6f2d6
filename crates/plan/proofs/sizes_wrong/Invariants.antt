-- Whether one of the jobs passed has size 0, and the sum of their sizes.
use Rattle.std.proofs.Common.{◌≡◌, ◌*◌, ◌≤◌, eqb}
use Rattle.sections.specs.Plan.{Job}
use Rattle.rows.specs.Rows.{row}
use Rattle.sections.specs.Tables.{sizes, job_in}
use Rattle.plan.specs.Checks.{any}
use Rattle.plan.specs.Nodes.{total}
use Rattle.plan.proofs.sizes_wrong.Given as goal

abbrev pub invariant-loop-i : goal.invariant-loop-i
invariant-loop-i l =
    (l.empty ≡ any (λ (b : Job). eqb b.size 0) (row l.i (job_in l.jobs))) × (l.sum ≡ total (sizes (row l.i (job_in l.jobs)))) × (l.sum ≤ 65535 * l.i)
