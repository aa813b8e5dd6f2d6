-- The words of a plan that was read are its arcs, each at its place, and 0 at every other. Assumes nothing.
use mathlib.Core.Path.{◌≡◌, sym, ap, ◌∙◌}
use mathlib.Core.Bool.{Bool, cond}
use mathlib.Core.List.{List}
use mathlib.Core.Logic.{inl, inr, by_cases}
use Prim.Native.Nat.{ℕ, ◌+◌, ◌*◌, ◌-◌, ◌%◌, ◌/◌, ◌<◌, ◌≤◌}
use native.Mathlib.Decide.{dec_lt}
use native.Mathlib.Omega.{arith}
use borrow.Author.Tests.{lt-ltb, le-ltb}
use lib.Dec.{ltb}
use lib.ListN.{length, replicate, get_or-eq_default, length-replicate}
use Rattle.rows.specs.Rows.{row, place}
use Rattle.rows.proofs.Rows.{row_ext, row_places, zeros_at}
use Rattle.sections.specs.Plan.{Arc, Plan, arc_at, no_arc}
use Rattle.plan.specs.Legal.{Legal}
use Rattle.words.specs.Words.{unpacked, Worded}
use Rattle.readback.specs.Tables.{word, word_at}

-- which arc's word stands at a place
module _ (p : Plan) where
  abbrev among : ℕ → Bool → Bool → ℕ
  among k s c = cond s (word (arc_at p.steps k)) (cond c (word (arc_at p.calls (k - 256))) (word (arc_at p.accepts (k - 384))))

  pub step_at : (k : ℕ) → k < 256 → word_at p k ≡ word (arc_at p.steps k)
  step_at k l = ap (λ (t : Bool). among k t (ltb k 384)) (lt-ltb k 256 l)

  pub call_at : (i : ℕ) → i < 128 → word_at p (256 + i) ≡ word (arc_at p.calls i)
  call_at i l =
      let e : 256 + i - 256 ≡ i = omega arith in
      (λ j. among (256 + i) (le-ltb (256 + i) 256 (omega arith) j) (lt-ltb (256 + i) 384 (omega arith) j)) ∙ ap (λ (k : ℕ). word (arc_at p.calls k)) e

  pub accept_at : (i : ℕ) → word_at p (384 + i) ≡ word (arc_at p.accepts i)
  accept_at i =
      let e : 384 + i - 384 ≡ i = omega arith in
      (λ j. among (384 + i) (le-ltb (384 + i) 256 (omega arith) j) (le-ltb (384 + i) 384 (omega arith) j)) ∙ ap (λ (k : ℕ). word (arc_at p.accepts k)) e

-- a number is the word of the arc that it is
word_of : (w : ℕ) (a : Arc) → unpacked w ≡ a → w ≡ word a
word_of w a e =
    let whole : w ≡ w % 256 + 256 * (w / 256 % 256) + 65536 * (w / 65536) = omega arith in
    whole ∙ ap word e

-- past the end of a list there is no arc
no_word : (l : List Arc) (i : ℕ) → length l ≤ i → word (arc_at l i) ≡ 0
no_word l i h = ap word (get_or-eq_default l no_arc h)

module _ (p : Plan) (legal : Legal p) (after : List ℕ) (w : Worded p (replicate 512 0) after) where
  -- where no arc stands there is 0, as before
  free : (k : ℕ) → place after k ≡ place (replicate 512 0) k → place after k ≡ 0
  free k e = e ∙ zeros_at 512 k

  step_word : (k : ℕ) → k < 256 → place after k ≡ word (arc_at p.steps k)
  step_word k h =
      by_cases (dec_lt k (length p.steps))
      (λ l. word_of (place after k) (arc_at p.steps k) (w.steps k l))
      (λ o. free k (w.others k (inl (omega arith, h))) ∙ sym (no_word p.steps k (omega arith)))

  call_word : (i : ℕ) → i < 128 → place after (256 + i) ≡ word (arc_at p.calls i)
  call_word i h =
      by_cases (dec_lt i (length p.calls))
      (λ l. word_of (place after (256 + i)) (arc_at p.calls i) (w.calls i l))
      (λ o. free (256 + i) (w.others (256 + i) (inr (inl (omega arith, omega arith)))) ∙ sym (no_word p.calls i (omega arith)))

  accept_word : (i : ℕ) → place after (384 + i) ≡ word (arc_at p.accepts i)
  accept_word i =
      by_cases (dec_lt i (length p.accepts))
      (λ l. word_of (place after (384 + i)) (arc_at p.accepts i) (w.accepts i l))
      (λ o. free (384 + i) (w.others (384 + i) (inr (inr (omega arith)))) ∙ sym (no_word p.accepts i (omega arith)))

  at_each : (k : ℕ) → place after k ≡ word_at p k
  at_each k =
      by_cases (dec_lt k 256)
      (λ l. step_word k l ∙ sym (step_at p k l))
      (λ o. by_cases (dec_lt k 384)
      (λ l.
      let e : k ≡ 256 + (k - 256) = omega arith in
      ap (place after) e ∙ call_word (k - 256) (omega arith) ∙ sym (call_at p (k - 256) (omega arith)) ∙ ap (word_at p) (sym e))
      (λ u.
      let e : k ≡ 384 + (k - 384) = omega arith in
      ap (place after) e ∙ accept_word (k - 384) ∙ sym (accept_at p (k - 384)) ∙ ap (word_at p) (sym e)))

  pub arcs_are : after ≡ row 512 (word_at p)
  arcs_are =
      let long : length after ≡ 512 = w.long ∙ length-replicate {A = ℕ} 512 0 in
      sym (row_places 0 after) ∙ ap (λ (n : ℕ). row n (place after)) long ∙ row_ext (place after) (word_at p) 512 (λ k l. at_each k)
