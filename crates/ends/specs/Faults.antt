-- What the tests of entries, exits and arcs go by: the tables of a plan, and an array that stands for the job of a node. Promises to other crates
-- speak of what is lent alone.
use Rattle.std.specs.Prelude.{◌≡◌, List, ℕ, ◌≤◌, length}
use Rattle.sections.specs.declared.Decoded.{Decoded}
use Rattle.sections.specs.Plan.{Arc, Plan}
use Rattle.rows.specs.Rows.{padded, place}
use Rattle.sections.specs.Tables.{end_by, decoded_of}
use Rattle.plan.specs.Checks.{any}
use Rattle.plan.specs.Nodes.{owners}
use Rattle.plan.specs.Refusals.{apart, leaving, unknown}
use Rattle.words.specs.Words.{arcs_on}
use Rattle.ends.specs.declared.Faults.{Faults}

-- which faults the arcs of a section have
abbrev pub faults_of : Decoded → List ℕ → List Arc → Faults
faults_of d owner l = record {
  apart = any (apart d.nodes (place owner)) l;
  leaving = any (leaving (place owner) (place d.jobs.exit) (end_by d.jobs.standing)) l;
  unknown = any (unknown d.channels.count) l;
}

-- the tables, the job of each node, and the faults are those of the plan p
pub record Tested (p : Plan) (d : Decoded) (owner : List ℕ) (s c a : Faults) : Type 0 where
  pub tables : d ≡ decoded_of p
  pub owners_kept : owner ≡ padded 256 (owners p.jobs)
  pub steps : s ≡ faults_of (decoded_of p) owner p.steps
  pub calls : c ≡ faults_of (decoded_of p) owner p.calls
  pub accepts : a ≡ faults_of (decoded_of p) owner p.accepts

-- the tables, the job of each node and the words are those of the plan p, and hold no more than they have places for
pub record Lent (p : Plan) (d : Decoded) (owner words : List ℕ) : Type 0 where
  pub few_jobs : length p.jobs ≤ 16
  pub few_steps : length p.steps ≤ 256
  pub few_calls : length p.calls ≤ 128
  pub few_accepts : length p.accepts ≤ 128
  pub tables : d ≡ decoded_of p
  pub owners_kept : owner ≡ padded 256 (owners p.jobs)
  pub steps : arcs_on words 0 (length p.steps) ≡ p.steps
  pub calls : arcs_on words 256 (length p.calls) ≡ p.calls
  pub accepts : arcs_on words 384 (length p.accepts) ≡ p.accepts
