-- What the tables that were read tell of the plan, and of refusals 5 to 9 and 21. Assumes nothing.
use mathlib.Core.Path.{◌≡◌, sym, ap, ◌∙◌, subst}
use mathlib.Core.Bool.{Bool, true, false}
use mathlib.Core.Option.{none, some}
use mathlib.Core.List.{List}
use Prim.Native.Nat.{ℕ, ◌+◌, ◌/◌, ◌≤◌}
use native.Mathlib.Omega.{arith}
use lib.ListN.{length}
use Rattle.rows.specs.Rows.{padded}
use Rattle.rows.proofs.Rows.{row_length}
use Rattle.sections.specs.declared.Head.{Head}
use Rattle.sections.specs.declared.Decoded.{Decoded}
use Rattle.sections.specs.Plan.{Job, Plan}
use Rattle.sections.specs.Layout.{head_of, end_at, pattern_at, plan_of, plan_under}
use Rattle.sections.specs.Tables.{sizes, decoded_of, jobs_in}
use Rattle.sections.proofs.Kept.{jobs_kept}
use Rattle.plan.specs.Checks.{first}
use Rattle.plan.specs.Nodes.{owners, total}
use Rattle.plan.specs.Refusals.{sizes_wrong, wrong_sizes, framing, ends, shape}
use Rattle.plan.proofs.Tests.{told}
use Rattle.plan.proofs.Ranges.{Ranged, Framed, framed}
use Rattle.plan.proofs.Ends.{shape_5, shape_past, sizes_right}
use Rattle.words.specs.Words.{Worded}
use Rattle.words.proofs.Words.{steps_listed, calls_listed, accepts_listed}
use Rattle.ends.specs.Faults.{Lent}

-- the tables d were read under the head h from bytes that passed refusals 1 to 4, and the arcs into the words
pub record Read (b : List ℕ) (h : Head) (d : Decoded) (before words : List ℕ) : Type 0 where
  pub passed : first framing b ≡ none
  pub head : h ≡ head_of b
  pub tables : d ≡ decoded_of (plan_under b h)
  pub arcs : Worded (plan_under b h) before words

under : (b : List ℕ) (h : Head) → h ≡ head_of b → plan_under b h ≡ plan_of b
unfolding plan_of
under b h e = ap (plan_under b) e

-- the plan of bytes that passed has no more of each than its tables have places for
record Few (p : Plan) : Type 0 where
  nodes : p.nodes ≤ 256
  jobs : length p.jobs ≤ 16
  steps : length p.steps ≤ 256
  calls : length p.calls ≤ 128
  accepts : length p.accepts ≤ 128

few : (b : List ℕ) → Framed b → Few (plan_of b)
unfolding plan_of
few b f = record {
  nodes = f.counts.nodes;
  jobs = rw row_length f.counts.jobs;
  steps = rw row_length f.counts.steps;
  calls = rw row_length f.counts.calls;
  accepts = rw row_length f.counts.accepts;
}

module _ {b : List ℕ} {h : Head} {d : Decoded} {before words : List ℕ} (r : Read b h d before words) where
  said : plan_under b h ≡ plan_of b
  said = under b h r.head

  -- the tables are those of the plan that the bytes say, and its arcs stand in the words
  pub kept : d ≡ decoded_of (plan_of b)
  kept = r.tables ∙ ap decoded_of said

  pub worded : Worded (plan_of b) before words
  worded = subst (λ (p : Plan). Worded p before words) said r.arcs

  small : Few (plan_of b)
  small = few b (framed b r.passed)

  jobs_said : jobs_in d.jobs ≡ (plan_of b).jobs
  jobs_said = ap (λ (t : Decoded). jobs_in t.jobs) kept ∙ jobs_kept (plan_of b).jobs

  pub jobs_few : d.jobs.count ≤ 16
  jobs_few = subst (λ (t : Decoded). t.jobs.count ≤ 16) (sym kept) small.jobs

  -- the counts are within their ranges
  pub counts : Ranged h
  counts = rw r.head (framed b r.passed).counts

  -- the pattern starts where the bytes say
  pub starts : (n : ℕ) → n ≡ end_at h → (n + 7) / 8 ≡ pattern_at (head_of b)
  starts n e = ap (λ (m : ℕ). (m + 7) / 8) (e ∙ ap end_at r.head)

  -- refusal 5 goes by its test
  module _ {w : Bool} (test : w ≡ sizes_wrong d.nodes (jobs_in d.jobs)) where
    wrong : w ≡ wrong_sizes (plan_of b)
    wrong = test ∙ (λ i. sizes_wrong (kept i).nodes (jobs_said i))

    pub sizes_refused : w ≡ true → first shape (plan_of b) ≡ some 5
    sizes_refused e = shape_5 (plan_of b) (told wrong e)

    -- where it does not apply, the jobs have 256 nodes at most
    pub nodes_few : w ≡ false → total (sizes (jobs_in d.jobs)) ≤ 256
    nodes_few e = omega (arith, sizes_right d.nodes (jobs_in d.jobs) (told test e), ap (λ (t : Decoded). t.nodes) kept, small.nodes)

    -- and 6, 21, and 7 to 9 are next
    pub ends_next : w ≡ false → first shape (plan_of b) ≡ first ends (plan_of b)
    ends_next e = shape_past (plan_of b) (told wrong e)

  -- the job of each node, and with it what is lent
  module _ {owner : List ℕ} (o : owner ≡ padded 256 (owners (jobs_in d.jobs))) where
    pub owners_kept : owner ≡ padded 256 (owners (plan_of b).jobs)
    owners_kept = o ∙ ap (λ (l : List Job). padded 256 (owners l)) jobs_said

    pub lent_of : Lent (plan_of b) d owner words
    lent_of = record {
      few_jobs = small.jobs;
      few_steps = small.steps;
      few_calls = small.calls;
      few_accepts = small.accepts;
      tables = kept;
      owners_kept = owners_kept;
      steps = steps_listed worded;
      calls = calls_listed worded;
      accepts = accepts_listed worded;
    }
