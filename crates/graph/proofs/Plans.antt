-- Small plans from their parts, which cases of the crates above share.
use mathlib.Core.List.{List, [], ◌∷◌}
use Prim.Native.Nat.{ℕ, ◌+◌, ◌^◌}
use Rattle.sections.specs.declared.Kind.TheVariants.{Every}
use Rattle.sections.specs.Plan.{Job, Arc, Plan}

-- a job that has to end
abbrev pub job : (size entry exit : ℕ) → Job
job size entry exit = record { size = size; entry = entry; exit = exit; standing = 0 }

abbrev pub arc : (from to label : ℕ) → Arc
arc from to label = record { from = from; to = to; label = label }

-- neither the rules nor the counts ask for the kind and the number of items
abbrev pub plan : (nodes alphabet : ℕ) → List Job → (steps : List Arc) → (channels : List ℕ) → (calls accepts : List Arc) → Plan
plan nodes alphabet jobs steps channels calls accepts = record {
  nodes = nodes;
  kind = Every;
  items = 1;
  alphabet = alphabet;
  jobs = jobs;
  steps = steps;
  channels = channels;
  calls = calls;
  accepts = accepts;
}

-- "Two jobs (from 000's example)"; events 1, 2 and 3 are watched
abbrev pub two_jobs : Plan
two_jobs =
    plan 6 (2 ^ 1 + 2 ^ 2 + 2 ^ 3) (job 3 0 2 ∷ job 3 3 5 ∷ []) (arc 0 1 1 ∷ arc 4 5 3 ∷ []) (2 ∷ []) (arc 1 2 0 ∷ []) (arc 3 4 0 ∷ [])
