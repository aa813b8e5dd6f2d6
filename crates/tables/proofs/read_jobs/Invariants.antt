-- The arrays hold the first jobs.
use Rattle.std.proofs.Common.{◌≡◌, ◌+◌, ◌*◌, ℕ, List}
use Rattle.sections.specs.Plan.{Job}
use Rattle.rows.specs.Rows.{row, padded}
use Rattle.sections.specs.Layout.{job_bits, job_at}
use Rattle.sections.specs.Tables.{sizes, entries, exits, standings}
use Rattle.tables.proofs.read_jobs.Given as goal

-- the jobs that the bits say
abbrev pub said : List ℕ → ℕ → ℕ → Job
said plan at k = job_at plan (at + job_bits * k)

abbrev pub invariant-loop-i : goal.invariant-loop-i
invariant-loop-i l = record {
  size : l.size ≡ padded 16 (sizes (row l.i (said l.plan l.at)));
  entry : l.entry ≡ padded 16 (entries (row l.i (said l.plan l.at)));
  exit : l.exit ≡ padded 16 (exits (row l.i (said l.plan l.at)));
  standing : l.standing ≡ padded 16 (standings (row l.i (said l.plan l.at)));
}
