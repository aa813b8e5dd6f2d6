-- What an accepted plan is: refusals 2 to 9 and 21, read as what holds where none of them applies. It may have no jobs (order 4), and then has no
-- nodes (`no_nodes`).
use Rattle.std.specs.Prelude.{◌≡◌, true, false, ℕ, ◌≤◌, ◌<◌, length}
use mathlib.Core.List.{List, Memᴰ}
use Rattle.sections.specs.Plan.{Arc, Plan}
use Rattle.sections.specs.declared.Decoded.{Decoded}
use Rattle.sections.specs.Tables.{sizes, decoded_of}
use Rattle.rows.specs.Rows.{padded}
use Rattle.plan.specs.Nodes.{owners, job_of, entry_of, exit_of, must_end, total}
use Rattle.plan.specs.Refusals.{arcs, links}

-- n is a node of the job j
pub record NodeOf (p : Plan) (j n : ℕ) : Type 0 where
  pub node : n < p.nodes
  pub owner : job_of p n ≡ j

-- the arc leads from a node of a job to one of the same job, and does not leave its exit if the job has to end
pub record Inside (p : Plan) (a : Arc) : Type 0 where
  pub from : a.from < p.nodes
  pub to : NodeOf p (job_of p a.from) a.to
  pub stays : must_end p (job_of p a.from) ≡ true → a.from ≡ exit_of p (job_of p a.from) → ⊥

pub record Legal (p : Plan) : Type 0 where
  pub jobs : length p.jobs ≤ 16
  pub nodes : p.nodes ≤ 256
  pub steps : length p.steps ≤ 256
  pub channels : length p.channels ≤ 64
  pub calls : length p.calls ≤ 128
  pub accepts : length p.accepts ≤ 128
  pub some_item : 1 ≤ p.items
  pub items : p.items ≤ 64
  pub sizes : total (sizes p.jobs) ≡ p.nodes
  pub entry : (j : ℕ) → j < length p.jobs → NodeOf p j (entry_of p j)
  pub exit : (j : ℕ) → j < length p.jobs → NodeOf p j (exit_of p j)
  -- order 5: a standing job's "exit field repeats its entry", and of jobs one has to end
  pub standing : (j : ℕ) → j < length p.jobs → must_end p j ≡ false → exit_of p j ≡ entry_of p j
  pub ending : 0 < length p.jobs → (j : ℕ) × (j < length p.jobs) × (must_end p j ≡ true)
  pub inside : (a : Arc) → Memᴰ a (arcs p) → Inside p a
  pub channel : (a : Arc) → Memᴰ a (links p) → a.label < length p.channels
  -- events are numbers of 5 bits
  pub event : (a : Arc) → Memᴰ a p.steps → a.label < 32
  pub channel_event : (e : ℕ) → Memᴰ e p.channels → e < 32

-- what the reader hands on of an accepted plan p: d are its tables, and owner the job of each node
pub record Keeps (p : Plan) (d : Decoded) (owner : List ℕ) : Type 0 where
  pub legal : Legal p
  pub tables : d ≡ decoded_of p
  pub owners : owner ≡ padded 256 (owners p.jobs)
