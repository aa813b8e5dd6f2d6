-- The job of each node. Document 01: "Nodes are numbered from 0 through the jobs in turn."
use Rattle.std.specs.Prelude.{ℕ, suc, ◌+◌, Bool, ◌&&◌, List, [], ◌∷◌, ◌++◌, ltb, eqb, replicate}
use Rattle.sections.specs.Plan.{Job, Plan}
use Rattle.rows.specs.Rows.{place}
use Rattle.sections.specs.Tables.{entries, exits, standings, end_by}

-- the jobs of the nodes in turn, of jobs that are numbered from j on
unfoldable pub owners_from : ℕ → List Job → List ℕ
owners_from j [] = []
owners_from j (b ∷ bs) = replicate b.size j ++ owners_from (suc j) bs

abbrev pub owners : List Job → List ℕ
owners l = owners_from 0 l

-- the job of a node
abbrev pub job_of : Plan → ℕ → ℕ
job_of p = place (owners p.jobs)

-- the entry and the exit of a job
abbrev pub entry_of : Plan → ℕ → ℕ
entry_of p = place (entries p.jobs)

abbrev pub exit_of : Plan → ℕ → ℕ
exit_of p = place (exits p.jobs)

-- whether a job has to end. Order 5: a standing job's exit field "ends nothing"
abbrev pub must_end : Plan → ℕ → Bool
must_end p = end_by (standings p.jobs)

-- n is one of the nodes, and of the job j
abbrev pub is_node : ℕ → (ℕ → ℕ) → ℕ → ℕ → Bool
is_node nodes job j n = ltb n nodes && eqb (job n) j

unfoldable pub total : List ℕ → ℕ
total [] = 0
total (n ∷ ns) = n + total ns
