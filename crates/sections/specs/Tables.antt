-- How the code keeps a plan: an array for each field of its jobs and of its channels, with the number of their records, and how many steps,
-- calls and accepts there are. And back: the jobs and channels that tables keep.
use Rattle.std.specs.Prelude.{ℕ, Bool, not, List, map, length}
use Rattle.sections.specs.declared.Jobs.{Jobs}
use Rattle.sections.specs.declared.Channels.{Channels}
use Rattle.sections.specs.declared.Decoded.{Decoded}
use Rattle.sections.specs.Plan.{Job, Plan, stands}
use Rattle.rows.specs.Rows.{row, padded, place}

abbrev pub sizes : List Job → List ℕ
sizes l = map (λ (j : Job). j.size) l

abbrev pub entries : List Job → List ℕ
entries l = map (λ (j : Job). j.entry) l

abbrev pub exits : List Job → List ℕ
exits l = map (λ (j : Job). j.exit) l

abbrev pub standings : List Job → List ℕ
standings l = map (λ (j : Job). j.standing) l

-- which jobs have to end, by the last bits of their records: those that do not stand (order 5)
abbrev pub end_by : List ℕ → ℕ → Bool
end_by bits j = not (stands (place bits j))

abbrev pub job_table : List Job → Jobs
job_table l = record {
  size = padded 16 (sizes l);
  entry = padded 16 (entries l);
  exit = padded 16 (exits l);
  standing = padded 16 (standings l);
  count = length l;
}

abbrev pub channel_table : List ℕ → Channels
channel_table l = record { event = padded 64 l; count = length l }

-- the tables of a plan
abbrev pub decoded_of : Plan → Decoded
decoded_of p = record {
  nodes = p.nodes;
  kind = p.kind;
  items = p.items;
  alphabet = p.alphabet;
  jobs = job_table p.jobs;
  steps = length p.steps;
  channels = channel_table p.channels;
  calls = length p.calls;
  accepts = length p.accepts;
}

-- the record i of a table
abbrev pub job_in : Jobs → ℕ → Job
job_in t i = record { size = place t.size i; entry = place t.entry i; exit = place t.exit i; standing = place t.standing i }

abbrev pub jobs_in : Jobs → List Job
jobs_in t = row t.count (job_in t)

abbrev pub channels_in : Channels → List ℕ
channels_in t = row t.count (place t.event)
