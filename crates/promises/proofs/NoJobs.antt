-- What a verdict on a plan without jobs says. Document 02, order 4: "The one run is the empty one: the final set is {0}, pairs and fill are 0,
-- the row may have no places, and the verdict tells whether the empty string suits the pattern and kind." And that the clause for the final
-- set of no jobs is the one that goes with all others. Assumes nothing.
use mathlib.Core.Path.{◌≡◌, refl, sym, ap, subst, ◌∙◌}
use mathlib.Core.Bool.{Bool, true, false}
use mathlib.Core.List.{List, [], ◌∷◌}
use mathlib.Core.Logic.{◌↔◌, ◌⊎◌, inl, inr, ⊎_elim}
use mathlib.Core.Option.{some}
use Prim.Native.Nat.{ℕ, ◌<◌}
use native.Mathlib.Omega.{arith}
use borrow.Author.Tests.{le-ltb}
use lib.Dec.{ltb}
use lib.ListN.{length, take, drop}
use Rattle.masks.specs.Mask.{In, pairs_of}
use Rattle.masks.proofs.Members.{digit_self, in_single}
use Rattle.rows.specs.Rows.{place}
use Rattle.sections.specs.declared.Kind.{Kind}
use Rattle.sections.specs.declared.Kind.TheVariants.{Every, None}
use Rattle.sections.specs.Plan.{Job, Plan}
use Rattle.sections.specs.Layout.{plan_of}
use Rattle.plan.specs.Nodes.{exit_of, must_end}
use Rattle.plan.specs.Legal.{Legal}
use Rattle.plan.proofs.NoJobs.{no_nodes}
use Rattle.expressions.specs.Expression.{Expression, Language}
use Rattle.automaton.specs.Automaton.{states_of}
use Rattle.graph.specs.Moves.{Move, watched}
use Rattle.graph.specs.Runs.{begin, Run, Complete}
use Rattle.graph.specs.Flow.{edge_rule}
use Rattle.graph.proofs.NoJobs.{one_run, empty_complete, no_meetings, no_ordering, no_state}
use Rattle.growth.specs.Table.{by_table}
use Rattle.family.specs.Family.{Sets}
use Rattle.family.proofs.Bounds.{states_below}
use Rattle.verdict.specs.declared.Counts.{Counts}
use Rattle.verdict.specs.Verdict.{together, final_of, Verified, fill_of}
use Rattle.verdict.specs.Answer.{Answer, verdict_of}
use Rattle.verdict.proofs.Rounded.{fill_no_nodes}
use Rattle.verdict.proofs.Final.{AtExits, held_together, held_by_none, in_final, final_no_jobs}
use Rattle.promises.specs.Order.{Pattern, expression_by, short_row}
use Rattle.promises.specs.Property.{numbered, states, table, accepting, state_after}
use Rattle.promises.specs.Judged.{Suits, pairs, final_set, counts_of, Judged}
use Rattle.promises.proofs.Sound.{states_known, moves_below, state_begins, state_stays, state_accepts}
use Rattle.promises.proofs.Evaluate.{few_states, legal_plan}
use Rattle.promises.proofs.Narrower.{no_refusal}

-- the final set {0} is verified if and only if the language of state 0 suits the kind
start_suits : (k : Kind) (a : ℕ) (L : Type 0) → (In 0 a ↔ L) → Verified k 1 a ↔ Suits k L
start_suits Every a L h = (λ v. h.0 (v 0 (digit_self 0)), λ l s i. subst (λ (x : ℕ). In x a) (sym (in_single 0 s i)) (h.1 l))
start_suits None a L h = (λ v l. v 0 (digit_self 0) (h.1 l), λ n s i j. n (h.0 (subst (λ (x : ℕ). In x a) (in_single 0 s i) j)))

-- the values of a verdict on a plan without jobs
abbrev pub empty_counts : (states : ℕ) → Counts
empty_counts states = record { states = states; meetings = 0; ordering = 0; pairs = 0; fill = 0; ends = 1 }

module _ (p : Plan) (r : Expression) (legal : Legal p) (none_of : p.jobs ≡ []) where
  final_zero : (sets : List ℕ) → final_set p sets ≡ 1
  final_zero sets = ap (λ (l : List Job). final_of (place sets) (exit_of p) (must_end p) (length l)) none_of ∙ final_no_jobs (place sets) (exit_of p) (must_end p)

  pairs_zero : (sets : List ℕ) → pairs p sets ≡ 0
  unfolding pairs_of
  pairs_zero sets = ap (λ (n : ℕ). pairs_of (take n sets)) (no_nodes p legal none_of)

  empty_counts_lem : (sets : List ℕ) → counts_of p r sets ≡ empty_counts (states p r)
  empty_counts_lem sets =
      let filled = ap (λ (n : ℕ). fill_of (pairs p sets) n (states p r)) (no_nodes p legal none_of) ∙ fill_no_nodes (pairs p sets) (states p r) in
      λ i. record {
        states = states p r;
        meetings = no_meetings p legal none_of i;
        ordering = no_ordering p legal none_of (watched p) i;
        pairs = pairs_zero sets i;
        fill = filled i;
        ends = final_zero sets i;
      }

  module _ (fits : states_of r p.alphabet ≡ some (numbered p r)) where
    -- the final set is what the complete runs have reached
    pub final_reached : (sets : List ℕ) (s : ℕ)
        → In s (final_set p sets) ↔ ((ms : List Move) × Run p (begin p) ms × Complete p (must_end p) ms × (state_after p r ms ≡ s))
    final_reached sets s = (
      (λ i. ([], tt, empty_complete p legal none_of (must_end p), state_begins p r fits legal ∙ sym (in_single 0 s (subst (In s) (final_zero sets) i)))),
      (λ h.
          let start = state_stays p r fits legal none_of h.0 h.1 in
          subst (In s) (sym (final_zero sets)) (subst (λ (x : ℕ). In x 1) (sym start ∙ h.3) (digit_self 0))),
    )

    start_accepts : In 0 (accepting p r) ↔ Language r []
    start_accepts = subst (λ (k : ℕ). In k (accepting p r) ↔ Language r []) (state_begins p r fits legal) (state_accepts p r fits legal [] tt)

    verdict_suits : (sets : List ℕ) → Verified p.kind (final_set p sets) (accepting p r) ↔ Suits p.kind (Language r [])
    verdict_suits sets =
        subst (λ (f : ℕ). Verified p.kind f (accepting p r) ↔ Suits p.kind (Language r [])) (sym (final_zero sets))
        (start_suits p.kind (accepting p r) (Language r []) start_accepts)

-- ---- the order's sentence

-- "the row may have no places": 17 is never said
pub never_short : (b : List ℕ) → Legal (plan_of b) → (plan_of b).jobs ≡ [] → (places : ℕ) → short_row places b ≡ false
never_short b legal none_of places = ap (ltb places) (no_nodes (plan_of b) legal none_of) ∙ le-ltb places 0 (omega arith)

-- the values of the verdict, the row, and the verdict itself
pub record OfNoJobs (p : Plan) (r : Expression) (before after : List ℕ) (verified : Bool) (counts : Counts) : Type 0 where
  pub run : (ms : List Move) → Run p (begin p) ms → ms ≡ []
  pub counted : counts ≡ empty_counts (states p r)
  pub row : after ≡ before
  pub verdict : (verified ≡ true) ↔ Suits p.kind (Language r [])

pub without_jobs : (q : Pattern) (b before : List ℕ) (a : Answer) (after : List ℕ) → Judged q b before a after → (plan_of b).jobs ≡ []
    → (verified : Bool) (counts : Counts) → verdict_of a ≡ some (verified, counts)
    → OfNoJobs (plan_of b) (expression_by q b) before after verified counts
without_jobs q b before a after j none_of verified counts e =
    let p = plan_of b in
    let r = expression_by q b in
    let passed = sym j.refusal ∙ no_refusal a (verified, counts) e in
    let legal = legal_plan q b (length before) passed in
    let v = j.judged verified counts e in
    let told = verdict_suits p r legal none_of (few_states q b (length before) passed) after in
    record {
      run = one_run p legal none_of (begin p);
      counted = v.counted ∙ empty_counts_lem p r legal none_of after;
      row = subst (λ (n : ℕ). drop n after ≡ drop n before) (no_nodes p legal none_of) v.row.later;
      verdict = (λ t. told.0 (v.verdict.0 t), λ s. v.verdict.1 (told.1 s));
    }

-- ---- no special case

-- whatever the jobs: the final set is what stands at all exits, of the states that a run can have reached at all: state 0, and those that
-- some node holds
module _ (p : Plan) (r : Expression) (legal : Legal p) (fits : states_of r p.alphabet ≡ some (numbered p r)) (M : List ℕ)
    (sets : Sets p (table p r) edge_rule M) where
  -- s stands at all exits
  abbrev Ends : ℕ → Type 0
  Ends = AtExits (place M) (exit_of p) (must_end p) (length p.jobs)

  -- it is state 0, or some node holds it
  abbrev Somewhere : ℕ → Type 0
  Somewhere s = (s ≡ 0) ⊎ ((n : ℕ) × In s (place M n))

  -- of jobs one has to end, or 21 would apply
  at_end_lem : {j : Job} {l : List Job} → p.jobs ≡ j ∷ l → (i : ℕ) × (i < length p.jobs) × (must_end p i ≡ true)
  at_end_lem e = legal.ending (subst (λ (x : List Job). 0 < length x) (sym e) (omega arith))

  pub final_of_reached : (s : ℕ) → In s (final_set p M) ↔ (Somewhere s × Ends s)
  final_of_reached s = (
    (λ i. let f = (in_final (place M) (exit_of p) (must_end p) (length p.jobs) s).0 i in (somewhere p.jobs refl f.0 f.1, f.1)),
    (λ h. (in_final (place M) (exit_of p) (must_end p) (length p.jobs) s).1 (held p.jobs refl h.0 h.1, h.1)),
  )
    where
      somewhere : (l : List Job) → p.jobs ≡ l → In s (together (length p.jobs)) → Ends s → Somewhere s
      somewhere [] e i h = inl ((held_by_none s).0 (subst (λ (x : List Job). In s (together (length x))) e i))
      somewhere (j ∷ l) e i h = let one = at_end_lem e in inr (exit_of p one.0, h one.0 one.1 one.2)

      held : (l : List Job) → p.jobs ≡ l → Somewhere s → Ends s → In s (together (length p.jobs))
      held [] e from h =
          subst (λ (x : List Job). In s (together (length x))) (sym e)
          ((held_by_none s).1 (⊎_elim (λ z. z) (λ n. absurd (no_state p legal e (by_table p (table p r)) edge_rule ((sets.tell n.0 s).0 n.1))) from))
      held (j ∷ l) e from h =
          let some-job : 0 < length p.jobs = subst (λ (x : List Job). 0 < length x) (sym e) (omega arith) in
          let known = states_known p r fits in
          let one = at_end_lem e in
          let below = states_below p legal (table p r) edge_rule M (λ n u i. (sets.tell n u).0 i) (states p r) known.0 (moves_below p r fits) (exit_of p one.0) s (h one.0 one.1 one.2) in
          held_together (length p.jobs) s some-job (omega (arith, known.1, below))
