-- The tests by the arrays are the tests of the plan. Assumes nothing.
use mathlib.Core.Path.{◌≡◌, refl, sym, ap, ◌∙◌, subst}
use mathlib.Core.Bool.{Bool, ◌||◌}
use mathlib.Core.List.{List, ◌++◌}
use Prim.Native.Nat.{ℕ, ◌≤◌, ◌<◌}
use native.Mathlib.Omega.{arith}
use lib.ListN.{length}
use Rattle.sections.specs.declared.Decoded.{Decoded}
use Rattle.sections.specs.Plan.{Arc, Plan}
use Rattle.rows.specs.Rows.{padded, place}
use Rattle.sections.specs.Tables.{exits, standings, end_by, jobs_in, decoded_of}
use Rattle.sections.proofs.Kept.{jobs_kept, ends_kept}
use Rattle.rows.proofs.Rows.{padded_places}
use Rattle.plan.specs.Checks.{any, any_numbered}
use Rattle.plan.specs.Nodes.{owners, job_of, exit_of, must_end}
use Rattle.plan.specs.Refusals.{stray, stray_ends, all_stand, none_ends, apart, split_ends, leaving, exit_left, unknown, no_channel, arcs, links}
use Rattle.plan.specs.Bounds.{OwnersBelow}
use Rattle.plan.proofs.Tests.{any_both}
use Rattle.plan.proofs.Nodes.{owners_below}
use Rattle.words.specs.Words.{arcs_on}
use Rattle.ends.specs.declared.Faults.{Faults}
use Rattle.ends.specs.Faults.{faults_of, Tested, Lent}

-- a test of two lists, and so of calls and accepts, and of all three sections
any_joined : (test : Arc → Bool) (xs ys : List Arc) (x y : Bool) → x ≡ any test xs → y ≡ any test ys → (x || y) ≡ any test (xs ++ ys)
any_joined test xs ys x y ex ey =
    let parts : (x || y) ≡ (any test xs || any test ys) = λ i. ex i || ey i in
    parts ∙ sym (any_both test xs ys)

module _ (p : Plan) (test : Arc → Bool) (s c a : Bool) (es : s ≡ any test p.steps) (ec : c ≡ any test p.calls) (ea : a ≡ any test p.accepts) where
  any_links : (c || a) ≡ any test (links p)
  any_links = any_joined test p.calls p.accepts c a ec ea

  any_arcs : (s || (c || a)) ≡ any test (arcs p)
  any_arcs = any_joined test p.steps (links p) s (c || a) es any_links

module _ (p : Plan) (owner : List ℕ) (o : owner ≡ padded 256 (owners p.jobs)) where
  job_on : place owner ≡ job_of p
  job_on = ap place o ∙ padded_places 256 (owners p.jobs)

  stray_on : any_numbered (stray p.nodes (place owner)) p.jobs ≡ stray_ends p
  stray_on = λ i. any_numbered (stray p.nodes (job_on i)) p.jobs

  -- each node's job is one of the jobs
  owners_on : length p.jobs ≤ 16 → OwnersBelow 16 owner
  owners_on h i = subst (λ (f : ℕ → ℕ). f i < 16) (sym job_on) (owners_below p.jobs 16 (omega arith) h i)

  -- of the faults of the three sections
  module _ (d : Decoded) (e : d ≡ decoded_of p) (s c a : Faults) (es : s ≡ faults_of d owner p.steps) (ec : c ≡ faults_of d owner p.calls) (ea : a ≡ faults_of d owner p.accepts) where
    exit_on : place d.jobs.exit ≡ exit_of p
    exit_on = ap (λ (x : Decoded). place x.jobs.exit) e ∙ padded_places 16 (exits p.jobs)

    end_on : end_by d.jobs.standing ≡ must_end p
    end_on = ap (λ (x : Decoded). end_by x.jobs.standing) e ∙ ends_kept (standings p.jobs)

    apart_on : (s.apart || (c.apart || a.apart)) ≡ split_ends p
    apart_on =
        any_arcs p (apart d.nodes (place owner)) s.apart c.apart a.apart (λ i. (es i).apart) (λ i. (ec i).apart) (λ i. (ea i).apart)
        ∙ (λ i. any (apart (e i).nodes (job_on i)) (arcs p))

    leaving_on : (s.leaving || (c.leaving || a.leaving)) ≡ exit_left p
    leaving_on =
        any_arcs p (leaving (place owner) (place d.jobs.exit) (end_by d.jobs.standing)) s.leaving c.leaving a.leaving (λ i. (es i).leaving) (λ i. (ec i).leaving) (λ i. (ea i).leaving)
        ∙ (λ i. any (leaving (job_on i) (exit_on i) (end_on i)) (arcs p))

    unknown_on : (c.unknown || a.unknown) ≡ no_channel p
    unknown_on =
        any_links p (unknown d.channels.count) s.unknown c.unknown a.unknown (λ i. (es i).unknown) (λ i. (ec i).unknown) (λ i. (ea i).unknown)
        ∙ (λ i. any (unknown (e i).channels.count) (links p))

-- what was tested is what the plan has
module _ {p : Plan} {d : Decoded} {owner : List ℕ} {s c a : Faults} (t : Tested p d owner s c a) where
  pub stray_tested : any_numbered (stray d.nodes (place owner)) (jobs_in d.jobs) ≡ stray_ends p
  stray_tested =
      (λ i. any_numbered (stray (t.tables i).nodes (place owner)) (jobs_in (t.tables i).jobs))
      ∙ ap (any_numbered (stray p.nodes (place owner))) (jobs_kept p.jobs)
      ∙ stray_on p owner t.owners_kept

  pub standing_tested : all_stand (jobs_in d.jobs) ≡ none_ends p
  standing_tested = ap (λ (x : Decoded). all_stand (jobs_in x.jobs)) t.tables ∙ ap all_stand (jobs_kept p.jobs)

  pub apart_tested : (s.apart || (c.apart || a.apart)) ≡ split_ends p
  apart_tested = apart_on p owner t.owners_kept (decoded_of p) refl s c a t.steps t.calls t.accepts

  pub leaving_tested : (s.leaving || (c.leaving || a.leaving)) ≡ exit_left p
  leaving_tested = leaving_on p owner t.owners_kept (decoded_of p) refl s c a t.steps t.calls t.accepts

  pub unknown_tested : (c.unknown || a.unknown) ≡ no_channel p
  unknown_tested = unknown_on p owner t.owners_kept (decoded_of p) refl s c a t.steps t.calls t.accepts

-- from the tables of the plan
module _ {p : Plan} {d : Decoded} {owner words : List ℕ} (l : Lent p d owner words) where
  -- no node has a job past the sixteenth
  pub owners_few : OwnersBelow 16 owner
  owners_few = owners_on p owner l.owners_kept l.few_jobs

  -- there are no more of each than they have places for
  pub few_jobs : d.jobs.count ≤ 16
  few_jobs = subst (λ (t : Decoded). t.jobs.count ≤ 16) (sym l.tables) l.few_jobs

  pub few_steps : d.steps ≤ 256
  few_steps = subst (λ (t : Decoded). t.steps ≤ 256) (sym l.tables) l.few_steps

  pub few_calls : d.calls ≤ 128
  few_calls = subst (λ (t : Decoded). t.calls ≤ 128) (sym l.tables) l.few_calls

  pub few_accepts : d.accepts ≤ 128
  few_accepts = subst (λ (t : Decoded). t.accepts ≤ 128) (sym l.tables) l.few_accepts

  faults_kept : (s : Faults) (at n : ℕ) (xs : List Arc) → n ≡ length xs → arcs_on words at (length xs) ≡ xs → s ≡ faults_of d owner (arcs_on words at n) → s ≡ faults_of (decoded_of p) owner xs
  faults_kept s at n xs e q f =
      let kept = ap (arcs_on words at) e ∙ q in
      f ∙ (λ i. faults_of (l.tables i) owner (kept i))

  pub lent_tested : (s c a : Faults) → s ≡ faults_of d owner (arcs_on words 0 d.steps) → c ≡ faults_of d owner (arcs_on words 256 d.calls) → a ≡ faults_of d owner (arcs_on words 384 d.accepts)
      → Tested p d owner s c a
  lent_tested s c a es ec ea = record {
    tables = l.tables;
    owners_kept = l.owners_kept;
    steps = faults_kept s 0 d.steps p.steps (ap (λ (t : Decoded). t.steps) l.tables) l.steps es;
    calls = faults_kept c 256 d.calls p.calls (ap (λ (t : Decoded). t.calls) l.tables) l.calls ec;
    accepts = faults_kept a 384 d.accepts p.accepts (ap (λ (t : Decoded). t.accepts) l.tables) l.accepts ea;
  }
