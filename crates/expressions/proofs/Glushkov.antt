-- The automaton on masks: a string reaches a set that accepts if and only if the string is in the language.
use mathlib.Core.Path.{◌≡◌, refl, sym, subst, ◌∙◌}
use mathlib.Core.Bool.{true}
use mathlib.Core.List.{List, [], ◌∷◌}
use mathlib.Core.Option.{none, some}
use mathlib.Core.Logic.Iff
use mathlib.Core.Logic.{◌↔◌, ⊎_elim}
use Prim.Native.Nat.{ℕ, zero, suc, ◌<◌, ◌≤◌}
use native.Mathlib.Omega.{arith}
use lib.Bits.{bit_and}
use Rattle.masks.specs.Mask.{In, gather_below}
use Rattle.masks.proofs.Members.{digit_self, in_and, in_and_left, in_and_right, in_or, in_or_left, in_or_right, in_single}
use Rattle.masks.proofs.Images.{gather_in, in_gather}
use Rattle.expressions.specs.Expression.{Expression, Language}
use Rattle.expressions.specs.Positions.{null, size, last, follow, holding, after, start, step, final, accepts, reached}
use Rattle.masks.proofs.Choices.{in_cond, cond_in, some_test, test_some}
use Rattle.expressions.proofs.Numbers.{num, num_ge, num_lt, num_inj, in_first, first_in, in_last, last_in, in_follow, follow_in, in_holding, holding_in}
use Rattle.expressions.proofs.Places.{Pos, Follow, Place, Goes, Ends, Step, Reach, Accepts, Start, glushkov_places}

module _ (r : Expression) where
  -- ---- one position: what may follow it and holds the event

  abbrev number : Place r → ℕ
  number none = 0
  number (some p) = num 1 r p

  number_lt : (p : Place r) → number p < suc (size r)
  number_lt none = omega arith
  number_lt (some p) = omega (arith, num_lt 1 r p)

  after_position : (n : ℕ) → 1 ≤ n → after r n ≡ follow 1 r n
  after_position zero h = absurd (omega arith)
  after_position (suc n) h = refl

  goes_in : (p q : Place r) (e : ℕ) → Goes r p e q → In (number q) (after r (number p)) × In (number q) (holding 1 r e)
  goes_in none none e g = absurd g
  goes_in none (some q) e g = (in_first 1 r q g.0, in_holding 1 r e q g.1)
  goes_in (some p) none e g = absurd g
  goes_in (some p) (some q) e g = (
    subst (λ (x : ℕ). In (num 1 r q) x) (sym (after_position (num 1 r p) (num_ge 1 r p))) (in_follow 1 r p q g.0),
    in_holding 1 r e q g.1,
  )

  in_goes : (p : Place r) (e n : ℕ) → In n (after r (number p)) → In n (holding 1 r e) → (q : Place r) × Goes r p e q × (number q ≡ n)
  in_goes none e n h k =
      let x = first_in 1 r n h in
      let y = holding_in 1 r e n k in
      (some x.0, (x.1, rw (num_inj 1 r x.0 y.0 (x.2 ∙ sym y.2)) y.1), x.2)
  in_goes (some p) e n h k =
      let x = follow_in 1 r (num 1 r p) n (subst (λ (z : ℕ). In n z) (after_position (num 1 r p) (num_ge 1 r p)) h) in
      let y = holding_in 1 r e n k in (
        some x.1,
        (subst (λ (z : Pos r). Follow r z x.1) (num_inj 1 r x.0 p x.3) x.2, rw (num_inj 1 r x.1 y.0 (x.4 ∙ sym y.2)) y.1),
        x.4,
      )

  -- ---- a set of positions: the mask m holds the numbers of the places of S

  record Denotes (m : ℕ) (S : Place r → Type 0) : Type 0 where
    into : (p : Place r) → S p → In (number p) m
    out : (n : ℕ) → In n m → (p : Place r) × S p × (number p ≡ n)

  denotes_start : Denotes start (Start r)
  denotes_start = record {
    into = λ p h. rw h (digit_self 0);
    out = λ n h. (none, refl, sym (in_single 0 n h));
  }

  denotes_step : (m : ℕ) (S : Place r → Type 0) (e : ℕ) → Denotes m S → Denotes (step r e m) (Step r S e)
  unfolding step
  denotes_step m S e d = record {
    into = λ q x.
        let g = goes_in x.0 q e x.2 in
        in_and _ (holding 1 r e) _ (in_gather (after r) (suc (size r)) m (number x.0) _ (number_lt x.0) (d.into x.0 x.1) g.0) g.1;
    out = λ n h.
        let g = gather_in (after r) (suc (size r)) m n (in_and_left _ (holding 1 r e) n h) in
        let s = d.out g.0 g.2 in
        let a = subst (λ (z : ℕ). In n (after r z)) (sym s.2) g.3 in
        let b = in_and_right (gather_below (after r) (suc (size r)) m) (holding 1 r e) n h in
        let y = in_goes s.0 e n a b in
        (y.0, (s.0, s.1, y.1), y.2);
  }

  denotes_reached : (w : List ℕ) (m : ℕ) (S : Place r → Type 0) → Denotes m S → Denotes (reached r m w) (Reach r S w)
  denotes_reached [] m S d = d
  denotes_reached (e ∷ w) m S d = denotes_reached w (step r e m) (Step r S e) (denotes_step m S e d)

  -- ---- the end of a string

  ends_in : (p : Place r) → Ends r p → In (number p) (final r)
  unfolding final
  ends_in none h = in_or_right (last 1 r) _ 0 (in_cond (null r) 1 0 h (digit_self 0))
  ends_in (some p) h = in_or_left (last 1 r) _ _ (in_last 1 r p h)

  in_ends : (p : Place r) → In (number p) (final r) → Ends r p
  unfolding final
  in_ends none h =
      ⊎_elim (λ g. let x = last_in 1 r 0 g in absurd (omega (arith, num_ge 1 r x.0, x.2)))
      (λ g. (cond_in (null r) 1 0 g).0)
      (in_or (last 1 r) _ 0 h)
  in_ends (some p) h =
      ⊎_elim (λ g. let x = last_in 1 r (num 1 r p) g in rw (num_inj 1 r x.0 p x.2) at x.1)
      (λ g. absurd (omega (arith, num_ge 1 r p, in_single 0 (num 1 r p) (cond_in (null r) 1 _ g).1)))
      (in_or (last 1 r) _ (num 1 r p) h)

  accepts_iff : (m : ℕ) (S : Place r → Type 0) → Denotes m S → (accepts r m ≡ true) ↔ Accepts r S
  unfolding accepts
  accepts_iff m S d = (
    (λ h.
        let x = test_some (bit_and m (final r)) h in
        let s = d.out x.0 (in_and_left m (final r) x.0 x.1) in
        (s.0, s.1, in_ends s.0 (subst (λ (z : ℕ). In z (final r)) (sym s.2) (in_and_right m (final r) x.0 x.1)))),
    (λ a.
        some_test (bit_and m (final r)) (number a.0) (in_and m (final r) (number a.0) (d.into a.0 a.1) (ends_in a.0 a.2))),
  )

  -- ---- the theorem

  pub glushkov : (w : List ℕ) → (accepts r (reached r start w) ≡ true) ↔ Language r w
  glushkov w =
      Iff.trans (accepts_iff (reached r start w) (Reach r (Start r) w) (denotes_reached w start (Start r) denotes_start)) (glushkov_places r w)
