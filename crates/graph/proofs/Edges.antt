-- The lists of moves and of ordering edges have the right members. Assumes nothing.
use mathlib.Core.Path.{◌≡◌, refl, sym, ap, subst}
use mathlib.Core.Bool.{Bool, true, false, cond, not, false≢true, and-eq-true_iff}
use mathlib.Core.List.Memᴰ
use mathlib.Core.List.{List, [], ◌∷◌, Memᴰ}
use mathlib.Core.Logic.{◌↔◌, ◌≢◌, ⊎_elim}
use Prim.Native.Nat.{ℕ, ◌<◌}
use borrow.Author.Tests.{eqb-true, eqb-false, eq-eqb, ne_eqb, not-true}
use lib.Dec.{eqb}
use lib.ListN.{length}
use Rattle.rows.specs.Rows.{row}
use Rattle.rows.proofs.Members.{in_row, row_in}
use Rattle.sections.specs.Plan.{Arc, Plan, arc_at}
use Rattle.plan.specs.Nodes.{job_of}
use Rattle.graph.specs.Moves.{Move, step, meeting, mover, Meet, Has, arcs_of}
use Rattle.graph.specs.Flow.{Apart}
use Rattle.graph.specs.Edges.{each, up_to, meet, meetings_of, moves_of, apart, edges_of}

-- ---- members of lists that are made of lists

module _ {A B : Type 0} (f : A → List B) {y : B} where
  pub in_each : (l : List A) → Memᴰ y (each l f) → (x : A) × Memᴰ x l × Memᴰ y (f x)
  unfolding each
  in_each [] i = absurd (Memᴰ.not-nil i)
  in_each (x ∷ l) i =
      ⊎_elim (λ h. (x, Memᴰ.head refl, h)) (λ t. let r = in_each l t in (r.0, Memᴰ.tail r.1, r.2)) (Memᴰ.append_cases (f x) i)

  each_in : {x : A} (l : List A) → Memᴰ x l → Memᴰ y (f x) → Memᴰ y (each l f)
  unfolding each
  each_in [] i h = absurd (Memᴰ.not-nil i)
  each_in {x} (z ∷ l) i h =
      ⊎_elim (λ (e : x ≡ z). Memᴰ.append_left (each l f) (subst (λ v. Memᴰ y (f v)) e h)) (λ (t : Memᴰ x l). Memᴰ.append_right (f z) (each_in l t h)) (Memᴰ.cases_cons i)

in_up_to : (n : ℕ) {i : ℕ} → Memᴰ i (up_to n) → i < n
in_up_to n m = let r = in_row (λ i. i) n m in rw r.2 r.1

-- a list that is there where a test holds
pub in_cond : {A : Type 0} {x : A} {l : List A} (b : Bool) → Memᴰ x (cond b l []) → (b ≡ true) × Memᴰ x l
in_cond true i = (refl, i)
in_cond false i = absurd (Memᴰ.not-nil i)

cond_in : {A : Type 0} {x : A} {l : List A} (b : Bool) → b ≡ true → Memᴰ x l → Memᴰ x (cond b l [])
cond_in true e i = i
cond_in false e i = absurd (false≢true e)

-- ---- the tests

differ : (i j : ℕ) → (not (eqb i j) ≡ true) ↔ (i ≢ j)
differ i j = (λ e. eqb-false i j (not-true _ e), λ o. ap not (ne_eqb i j o))

module _ (p : Plan) where
  meets : (c a : Arc) → (meet p c a ≡ true) ↔ Meet p c a
  meets c a =
      let b = and-eq-true_iff (eqb c.label a.label) (not (eqb (mover p c) (mover p a))) in
      let d = differ (mover p c) (mover p a) in
      (λ e. let h = b.0 e in (eqb-true _ _ h.0, d.0 h.1), λ h. b.1 (eq-eqb _ _ h.0, d.1 h.1))

  apart_tells : (n : ℕ) (l : List Arc) → apart p l n ≡ true → (a : Arc) → Memᴰ a l → job_of p n ≢ mover p a
  apart_tells n [] e a i = absurd (Memᴰ.not-nil i)
  apart_tells n (b ∷ l) e a i =
      let h = (and-eq-true_iff (not (eqb (job_of p n) (mover p b))) (apart p l n)).0 e in
      ⊎_elim (λ (q : a ≡ b). rw q ((differ _ _).0 h.0)) (λ (t : Memᴰ a l). apart_tells n l h.1 a t) (Memᴰ.cases_cons i)

  apart_told : (n : ℕ) (l : List Arc) → ((a : Arc) → Memᴰ a l → job_of p n ≢ mover p a) → apart p l n ≡ true
  apart_told n [] o = refl
  apart_told n (b ∷ l) o =
      (and-eq-true_iff (not (eqb (job_of p n) (mover p b))) (apart p l n)).1 ((differ _ _).1 (o b (Memᴰ.head refl)), apart_told n l (λ a i. o a (Memᴰ.tail i)))

  -- ---- the lists

  meeting_has : {m : Move} → Memᴰ m (meetings_of p) → Has p m
  unfolding meetings_of
  meeting_has i =
      let c = in_each _ (up_to (length p.calls)) i in
      let a = in_each _ (up_to (length p.accepts)) c.2 in
      let call = arc_at p.calls c.0 in
      let accept = arc_at p.accepts a.0 in
      let w = in_cond (meet p call accept) a.2 in
      subst (Has p) (sym (Memᴰ.eq_of_singleton w.1)) (in_up_to _ c.1, in_up_to _ a.1, (meets call accept).0 w.0)

  has_meeting : (c a : ℕ) → Has p (meeting c a) → Memᴰ (meeting c a) (meetings_of p)
  unfolding meetings_of
  has_meeting c a h =
      let call = arc_at p.calls c in
      let accept = arc_at p.accepts a in
      each_in _ _ (row_in (λ i. i) _ c h.0)
      (each_in _ _ (row_in (λ i. i) _ a h.1) (cond_in (meet p call accept) ((meets call accept).1 h.2) (Memᴰ.head refl)))

  has_moves : (m : Move) → Has p m → Memᴰ m (moves_of p)
  has_moves (step i) h = Memᴰ.append_left (meetings_of p) (row_in step _ i h)
  has_moves (meeting c a) h = Memᴰ.append_right (row (length p.steps) step) (has_meeting c a h)

  pub moves_has : {m : Move} → Memᴰ m (moves_of p) ↔ Has p m
  moves_has {m} = (
    λ i. ⊎_elim (λ l. let r = in_row step _ l in subst (Has p) (sym r.2) r.1) meeting_has (Memᴰ.append_cases (row (length p.steps) step) i),
    has_moves m,
  )

  module _ (w : Move → Bool) where
    -- m is a watched move, and n a node of no job of m
    abbrev Edge : Move × ℕ → Type 0
    Edge e = Has p e.0 × (w e.0 ≡ true) × Apart p e.0 e.1

    in_edges : {e : Move × ℕ} → Memᴰ e (edges_of p w) → Edge e
    unfolding edges_of
    in_edges i =
        let m = in_each _ (moves_of p) i in
        let k = in_cond (w m.0) m.2 in
        let n = in_each _ (up_to p.nodes) k.1 in
        let o = in_cond (apart p (arcs_of p m.0) n.0) n.2 in
        subst Edge (sym (Memᴰ.eq_of_singleton o.1))
        (moves_has.0 m.1, k.0, record { node = in_up_to _ n.1; other = apart_tells n.0 _ o.0 })

    edges_in_lem : {m : Move} {n : ℕ} → Has p m → w m ≡ true → Apart p m n → Memᴰ (m, n) (edges_of p w)
    unfolding edges_of
    edges_in_lem {m} {n} h e o =
        each_in _ _ (has_moves m h)
        (cond_in (w m) e (each_in _ _ (row_in (λ i. i) _ n o.node) (cond_in (apart p (arcs_of p m) n) (apart_told n (arcs_of p m) o.other) (Memᴰ.head refl))))

    pub edges_tell : {m : Move} {n : ℕ} → Memᴰ (m, n) (edges_of p w) ↔ (Has p m × (w m ≡ true) × Apart p m n)
    edges_tell = (in_edges, λ h. edges_in_lem h.0 h.1 h.2)
