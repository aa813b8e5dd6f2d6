-- The nodes of the jobs passed have their jobs.
use Rattle.std.proofs.Common.{◌≡◌}
use Rattle.rows.specs.Rows.{row, padded}
use Rattle.sections.specs.Tables.{sizes, job_in}
use Rattle.plan.specs.Nodes.{owners, total}
use Rattle.reader.proofs.owners_of.Given as goal

abbrev pub invariant-loop-i : goal.invariant-loop-i
invariant-loop-i l = (l.owner ≡ padded 256 (owners (row l.i (job_in l.jobs)))) × (l.at ≡ total (sizes (row l.i (job_in l.jobs))))
