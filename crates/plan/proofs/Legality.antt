-- An accepted plan is legal. Assumes nothing.
use mathlib.Core.Path.{◌≡◌, refl, sym, ap, ◌∙◌}
use mathlib.Core.Bool.{Bool, true, false, ◌&&◌, ◌||◌, not, false≢true}
use mathlib.Core.Logic.{⊎_elim}
use mathlib.Core.Option.{none}
use mathlib.Core.List.Memᴰ
use mathlib.Core.List.{List, [], ◌∷◌, Memᴰ}
use Prim.Native.Nat.{ℕ, zero, suc, ◌+◌, ◌*◌, ◌<◌}
use native.Mathlib.Nat.{not-suc-le-zero, le_of_suc-le-suc}
use native.Mathlib.Omega.{arith}
use borrow.Author.Tests.{ltb-true, lt-ltb, leb-false, eqb-true, eqb-false, not-false}
use lib.Dec.{ltb}
use lib.ListN.{length, get_or, get_or-map}
use Rattle.fields.specs.Bits.{field_at}
use Rattle.fields.proofs.Laws.{field_lt}
use Rattle.sections.specs.Plan.{Job, Arc, Plan, stands}
use Rattle.sections.specs.Layout.{head_of, steps_at, channels_at, plan_of}
use Rattle.rows.proofs.Rows.{row_length}
use Rattle.rows.proofs.Members.{in_row}
use Rattle.sections.specs.Tables.{standings, end_by}
use Rattle.sections.proofs.Kept.{no_job}
use Rattle.plan.specs.Checks.{first, any_from}
use Rattle.plan.specs.Nodes.{job_of, entry_of, exit_of, must_end, is_node}
use Rattle.plan.specs.Refusals.{wrong_sizes, differs, stray, stray_ends, none_ends, apart, split_ends, leaving, exit_left, unknown, no_channel, arcs, links, ends, shape, order}
use Rattle.plan.specs.Legal.{NodeOf, Inside, Legal}
use Rattle.plan.proofs.Tests.{or_none, first_none}
use Rattle.plan.proofs.Ranges.{Framed, framed}
use Rattle.plan.proofs.Ends.{order_none, sizes_right}

-- ---- tests that hold of none

none_of : {A : Type 0} (test : ℕ → A → Bool) (k : ℕ) (l : List A) → any_from test k l ≡ false → (d : A) (i : ℕ) → i < length l → test (k + i) (get_or l i d) ≡ false
unfolding any_from
none_of test k [] e d i h = absurd (not-suc-le-zero h)
none_of test k (x ∷ xs) e d zero h = let z : k + 0 ≡ k = omega arith in rw z (or_none (test k x) _ e).0
none_of test k (x ∷ xs) e d (suc i) h =
    let s : k + suc i ≡ suc k + i = omega arith in
    rw s (none_of test (suc k) xs (or_none (test k x) _ e).1 d i (le_of_suc-le-suc h))

none_in : {A : Type 0} (test : A → Bool) (k : ℕ) (l : List A) → any_from (λ i x. test x) k l ≡ false → (a : A) → Memᴰ a l → test a ≡ false
unfolding any_from
none_in test k [] e a m = absurd (Memᴰ.not-nil m)
none_in test k (x ∷ xs) e a m =
    let b = or_none (test x) _ e in
    ⊎_elim (λ (q : a ≡ x). rw q b.0) (λ (n : Memᴰ a xs). none_in test (suc k) xs b.1 a n) (Memᴰ.cases_cons m)

-- ---- tests read back

both : (a b : Bool) → (a && b) ≡ true → (a ≡ true) × (b ≡ true)
both true b e = (refl, e)
both false b e = (cc, cc)

node_of : (p : Plan) (j n : ℕ) → is_node p.nodes (job_of p) j n ≡ true → NodeOf p j n
node_of p j n e = let b = both (ltb n p.nodes) _ e in record { node = ltb-true _ _ b.0; owner = eqb-true _ _ b.1 }

-- where one of two tests holds, and not both, the other does not
other : (a b : Bool) → (a && b) ≡ false → a ≡ true → b ≡ false
other true b e h = e
other false b e h = cc

inside_of : (p : Plan) (a : Arc) → apart p.nodes (job_of p) a ≡ false → leaving (job_of p) (exit_of p) (must_end p) a ≡ false → Inside p a
inside_of p a e f =
    let b = both (ltb a.from p.nodes) _ (not-false _ e) in
    let c = both (ltb a.to p.nodes) _ b.1 in
    record {
      from = ltb-true _ _ b.0;
      to = record { node = ltb-true _ _ c.0; owner = sym (eqb-true _ _ c.1) };
      stays = λ ends. eqb-false _ _ (other (must_end p (job_of p a.from)) _ f ends);
    }

-- where not all of some jobs stand, one of them has to end
abbrev OneEnds : List Job → Type 0
OneEnds l = (j : ℕ) × (j < length l) × (end_by (standings l) j ≡ true)

some_end : (k : ℕ) (l : List Job) → any_from (λ i (b : Job). not (stands b.standing)) k l ≡ true → OneEnds l
unfolding any_from
some_end k [] e = absurd (false≢true e)
some_end k (b ∷ l) e = go (not (stands b.standing)) refl e (λ h. some_end (suc k) l h)
  where
    go : (t : Bool) {u : Bool} → not (stands b.standing) ≡ t → (t || u) ≡ true → (u ≡ true → OneEnds l) → OneEnds (b ∷ l)
    go true h e later = (0, omega arith, h)
    go false h e later = let r = later e in (suc r.0, omega (arith, r.1), r.2)

-- ---- fields of 5 bits

module _ (b : List ℕ) (f : Framed b) where
  step_event : (i : ℕ) → i < (head_of b).steps → field_at b (steps_at (head_of b) + 21 * i + 16) 5 < 32
  step_event i h = field_lt b (steps_at (head_of b) + 21 * i + 16) 5 (omega (arith, f.sections))

  channel_event : (i : ℕ) → i < (head_of b).channels → field_at b (channels_at (head_of b) + 5 * i) 5 < 32
  channel_event i h = field_lt b (channels_at (head_of b) + 5 * i) 5 (omega (arith, f.sections))

-- ---- the plan

-- where none of refusals 5 to 9 and 21 applies
record Shaped (p : Plan) : Type 0 where
  sizes : wrong_sizes p ≡ false
  ends : stray_ends p ≡ false
  ending : none_ends p ≡ false
  joined : split_ends p ≡ false
  staying : exit_left p ≡ false
  known : no_channel p ≡ false

shaped : (p : Plan) → first shape p ≡ none → Shaped p
shaped p e =
    let five = first_none 5 wrong_sizes ends p e in
    let six = first_none 6 stray_ends _ p five.1 in
    let late = first_none 21 none_ends _ p six.1 in
    let seven = first_none 7 split_ends _ p late.1 in
    let eight = first_none 8 exit_left _ p seven.1 in
    let nine = first_none 9 no_channel _ p eight.1 in
    record { sizes = five.0; ends = six.0; ending = late.0; joined = seven.0; staying = eight.0; known = nine.0 }

module _ (p : Plan) (s : Shaped p) where
  module _ (j : ℕ) (h : j < length p.jobs) where
    abbrev the_job : Job
    the_job = get_or p.jobs j no_job

    entry_at : entry_of p j ≡ the_job.entry
    entry_at = get_or-map (λ (b : Job). b.entry) p.jobs j no_job

    exit_at : exit_of p j ≡ the_job.exit
    exit_at = get_or-map (λ (b : Job). b.exit) p.jobs j no_job

    -- 6 does not apply to it
    kept : (not (is_node p.nodes (job_of p) j the_job.entry && is_node p.nodes (job_of p) j the_job.exit) ≡ false) × (differs the_job ≡ false)
    kept =
        let t = none_of (stray p.nodes (job_of p)) 0 p.jobs s.ends no_job j h in
        let z : 0 + j ≡ j = omega arith in
        let u : stray p.nodes (job_of p) j the_job ≡ false = rw z at t in
        or_none _ _ u

    -- its entry and its exit are nodes of it
    ends_of : NodeOf p j (entry_of p j) × NodeOf p j (exit_of p j)
    ends_of =
        let n = both (is_node p.nodes (job_of p) j the_job.entry) _ (not-false _ kept.0) in
        (rw entry_at (node_of p j the_job.entry n.0), rw exit_at (node_of p j the_job.exit n.1))

    -- and they are one node if it stands
    stands_of : must_end p j ≡ false → exit_of p j ≡ entry_of p j
    stands_of e =
        let bit = get_or-map (λ (b : Job). b.standing) p.jobs j no_job in
        let standing : stands the_job.standing ≡ true = ap stands (sym bit) ∙ not-false _ e in
        exit_at ∙ eqb-true _ _ (not-false _ (other (stands the_job.standing) _ kept.1 standing)) ∙ sym entry_at

  one_ends : 0 < length p.jobs → OneEnds p.jobs
  one_ends h = some_end 0 p.jobs (not-false _ (other (ltb 0 (length p.jobs)) _ s.ending (lt-ltb _ _ h)))

pub legal : (b : List ℕ) → first order b ≡ none → Legal (plan_of b)
unfolding plan_of
legal b e =
    let p = plan_of b in
    let parts = order_none b e in
    let f = framed b parts.0 in
    let s = shaped (plan_of b) parts.1 in
    record {
      jobs = rw row_length f.counts.jobs;
      nodes = f.counts.nodes;
      steps = rw row_length f.counts.steps;
      channels = rw row_length f.counts.channels;
      calls = rw row_length f.counts.calls;
      accepts = rw row_length f.counts.accepts;
      some_item = f.counts.some_item;
      items = f.counts.items;
      sizes = sizes_right p.nodes p.jobs s.sizes;
      entry = λ j h. (ends_of p s j h).0;
      exit = λ j h. (ends_of p s j h).1;
      standing = stands_of p s;
      ending = one_ends p s;
      inside = λ a m. inside_of p a (none_in (apart p.nodes (job_of p)) 0 (arcs p) s.joined a m) (none_in (leaving (job_of p) (exit_of p) (must_end p)) 0 (arcs p) s.staying a m);
      channel = λ a m. leb-false _ _ (none_in (unknown (length p.channels)) 0 (links p) s.known a m);
      event = λ a m. let r = in_row _ (head_of b).steps m in rw r.2 (step_event b f r.0 r.1);
      channel_event = λ x m. let r = in_row _ (head_of b).channels m in rw r.2 (channel_event b f r.0 r.1);
    }
