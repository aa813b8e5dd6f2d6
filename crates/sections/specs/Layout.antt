-- Where the sections of a plan stand in its bits, and what they say. Document 01, "The bit-packed plan", the table; document 02, order 5.
use Rattle.std.specs.Prelude.{ℕ, ◌+◌, ◌*◌, ◌/◌, ◌≤◌, List, length}
use Rattle.rows.specs.Rows.{row}
use Rattle.fields.specs.Bits.{field_at, events_at}
use Rattle.sections.specs.declared.Head.{Head}
use Rattle.sections.specs.Plan.{Job, Arc, Plan, kind_of}

-- "head, 54 bits: jobs 5, nodes 9, local steps 9, calls 8, accepts 8, channels 7, kind 1, pattern items 7"
abbrev pub head_of : List ℕ → Head
head_of b = record {
  jobs = field_at b 0 5;
  nodes = field_at b 5 9;
  steps = field_at b 14 9;
  calls = field_at b 23 8;
  accepts = field_at b 31 8;
  channels = field_at b 39 7;
  kind = field_at b 46 1;
  items = field_at b 47 7;
}

-- The place of the first bit of each section: the sections follow one another.
abbrev pub alphabet_at : ℕ
alphabet_at = 54

abbrev pub jobs_at : ℕ
jobs_at = alphabet_at + 31

-- "each job: size 9, entry node 8, exit node 8"; order 5: "a last bit, 26 bits in all"
abbrev pub job_bits : ℕ
job_bits = 26

abbrev pub steps_at : Head → ℕ
steps_at h = jobs_at + job_bits * h.jobs

abbrev pub channels_at : Head → ℕ
channels_at h = steps_at h + 21 * h.steps

abbrev pub calls_at : Head → ℕ
calls_at h = channels_at h + 5 * h.channels

abbrev pub accepts_at : Head → ℕ
accepts_at h = calls_at h + 22 * h.calls

-- where the last section ends
abbrev pub end_at : Head → ℕ
end_at h = accepts_at h + 22 * h.accepts

-- "Zero bits fill the last byte. The pattern starts on the next byte": the number of that byte
abbrev pub pattern_at : Head → ℕ
pattern_at h = (end_at h + 7) / 8

-- the fields of a job
abbrev pub job_at : List ℕ → ℕ → Job
job_at b at = record { size = field_at b at 9; entry = field_at b (at + 9) 8; exit = field_at b (at + 17) 8; standing = field_at b (at + 25) 1 }

-- "each local step: from 8, to 8, event 5"; "each call, then each accept: from 8, to 8, channel 6"
abbrev pub arc_at : List ℕ → ℕ → ℕ → Arc
arc_at b width at = record { from = field_at b at 8; to = field_at b (at + 8) 8; label = field_at b (at + 16) width }

-- n arcs one after the other from the place `at` on, with labels of `width` bits
abbrev pub arcs_at : List ℕ → ℕ → ℕ → ℕ → List Arc
arcs_at b width at n = row n (λ i. arc_at b width (at + (16 + width) * i))

abbrev pub jobs_of : List ℕ → Head → List Job
jobs_of b h = row h.jobs (λ i. job_at b (jobs_at + job_bits * i))

abbrev pub channels_of : List ℕ → Head → List ℕ
channels_of b h = row h.channels (λ i. field_at b (channels_at h + 5 * i) 5)

-- what the bytes say under a head
abbrev pub plan_under : List ℕ → Head → Plan
plan_under b h = record {
  nodes = h.nodes;
  kind = kind_of h.kind;
  items = h.items;
  alphabet = events_at b alphabet_at;
  jobs = jobs_of b h;
  steps = arcs_at b 5 (steps_at h) h.steps;
  channels = channels_of b h;
  calls = arcs_at b 6 (calls_at h) h.calls;
  accepts = arcs_at b 6 (accepts_at h) h.accepts;
}

-- the plan that the bytes say
unfoldable pub plan_of : List ℕ → Plan
plan_of b = plan_under b (head_of b)

-- The counts fit the tables, and the bytes hold the sections.
pub record Readable (b : List ℕ) (h : Head) : Type 0 where
  pub jobs : h.jobs ≤ 16
  pub steps : h.steps ≤ 256
  pub channels : h.channels ≤ 64
  pub calls : h.calls ≤ 128
  pub accepts : h.accepts ≤ 128
  pub held : end_at h ≤ 8 * length b
