-- No member stands twice in the lists of moves, meetings and ordering edges: their lengths count each once. Assumes nothing.
use mathlib.Core.Path.{◌≡◌, refl, sym, ap, ◌∙◌}
use mathlib.Core.Bool.{Bool, true, false, cond, false≢true}
use mathlib.Core.List.Memᴰ
use mathlib.Core.List.{List, [], ◌∷◌, ◌++◌, Memᴰ, Nodup, Nodup-nil, Nodup-cons, Nodup-append, not-mem-nil}
use mathlib.Core.HLevel.{⊥_prop}
use mathlib.Core.Logic.{∥∥₁_elim}
use Prim.Native.Nat.{ℕ, zero, suc}
use native.Mathlib.Omega.{arith}
use Rattle.rows.specs.Rows.{row}
use Rattle.rows.proofs.Members.{in_row}
use Rattle.sections.specs.Plan.{Plan, arc_at}
use Rattle.graph.specs.Moves.{Move, step, meeting, arcs_of}
use Rattle.graph.specs.Edges.{each, up_to, when, meet, meetings_of, moves_of, apart, edges_of}
use Rattle.graph.proofs.Edges.{in_each, in_cond}

-- ---- lists that are made of lists

module _ {A : Type 0} where
  single_once : (x : A) → Nodup (x ∷ [])
  single_once x = Nodup-cons.1 (not-mem-nil, Nodup-nil)

  append_once : {l k : List A} → Nodup l → Nodup k → ((x : A) → Memᴰ x l → Memᴰ x k → ⊥) → Nodup (l ++ k)
  append_once {l} {k} a b o = (Nodup-append {l₁ = l} {l₂ = k}).1 (a, b, λ x m n. ∥∥₁_elim m ⊥_prop (λ i. ∥∥₁_elim n ⊥_prop (o x i)))

  cond_once : (b : Bool) {l : List A} → Nodup l → Nodup (cond b l [])
  cond_once true o = o
  cond_once false o = Nodup-nil

  -- a row of an injective function: g finds the number of a value again
  row_once : (f : ℕ → A) (g : A → ℕ) → ((i : ℕ) → g (f i) ≡ i) → (n : ℕ) → Nodup (row n f)
  unfolding row
  row_once f g t zero = Nodup-nil
  row_once f g t (suc n) =
      append_once (row_once f g t n) (single_once (f n))
      (λ x i j. let r = in_row f n i in let e : r.0 ≡ n = sym (t r.0) ∙ ap g (sym r.2 ∙ Memᴰ.eq_of_singleton j) ∙ t n in
      omega (arith, r.1, e))

-- g finds the x of a member of f x again, so f x and f y share none where x and y differ
module _ {A B : Type 0} (f : A → List B) (g : B → A) (t : (x : A) (y : B) → Memᴰ y (f x) → g y ≡ x) (o : (x : A) → Nodup (f x)) where
  each_once : (l : List A) → Nodup l → Nodup (each l f)
  unfolding each
  each_once [] n = Nodup-nil
  each_once (x ∷ l) n =
      let k = Nodup-cons.0 n in
      append_once (o x) (each_once l k.1)
      (λ y i j. let r = in_each f l j in k.0 ∣ Memᴰ.cast (sym (t x y i) ∙ t r.0 y r.2) r.1 ∣₁)

up_to_once : (n : ℕ) → Nodup (up_to n)
up_to_once = row_once (λ i. i) (λ i. i) (λ i. refl)

-- ---- f i for the i below n where a test holds

module _ {A : Type 0} (n : ℕ) (b : ℕ → Bool) (f : ℕ → A) where
  in_picked : {y : A} → Memᴰ y (each (up_to n) (λ i. when (b i) (f i))) → (i : ℕ) × (y ≡ f i)
  in_picked m = let r = in_each _ (up_to n) m in (r.0, Memᴰ.eq_of_singleton (in_cond (b r.0) r.2).1)

  picked_once : (g : A → ℕ) → ((i : ℕ) → g (f i) ≡ i) → Nodup (each (up_to n) (λ i. when (b i) (f i)))
  picked_once g t =
      each_once (λ i. when (b i) (f i)) g
      (λ i y m. ap g (Memᴰ.eq_of_singleton (in_cond (b i) m).1) ∙ t i) (λ i. cond_once (b i) (single_once (f i))) (up_to n) (up_to_once n)

-- ---- the lists of a plan

-- whether a move is a meeting, and the numbers of its arcs
abbrev parts : Move → Bool × ℕ × ℕ
parts (step i) = (false, i, i)
parts (meeting c a) = (true, c, a)

module _ (p : Plan) where
  abbrev met : ℕ → ℕ → Bool
  met c a = meet p (arc_at p.calls c) (arc_at p.accepts a)

  meetings_meet : {m : Move} → Memᴰ m (meetings_of p) → (parts m).0 ≡ true
  unfolding meetings_of
  meetings_meet i = let c = in_each _ (up_to _) i in ap (λ v. (parts v).0) (in_picked _ (met c.0) (meeting c.0) c.2).1

  pub meetings_once : Nodup (meetings_of p)
  unfolding meetings_of
  meetings_once =
      each_once _ (λ m. (parts m).1) (λ c m i. ap (λ v. (parts v).1) (in_picked _ (met c) (meeting c) i).1)
      (λ c. picked_once _ (met c) (meeting c) (λ m. (parts m).2) (λ a. refl)) _ (up_to_once _)

  pub moves_once : Nodup (moves_of p)
  moves_once =
      append_once (row_once step (λ m. (parts m).1) (λ i. refl) _) meetings_once
      (λ m i j. false≢true (sym (ap (λ v. (parts v).0) (in_row step _ i).2) ∙ meetings_meet j))

  pub edges_once : (w : Move → Bool) → Nodup (edges_of p w)
  unfolding edges_of
  edges_once w =
      each_once _ (λ e. e.0) (λ m e i. ap (λ v. v.0) (in_picked _ (apart p (arcs_of p m)) (λ n. (m, n)) (in_cond (w m) i).1).1)
      (λ m. cond_once (w m) (picked_once _ (apart p (arcs_of p m)) (λ n. (m, n)) (λ e. e.1) (λ n. refl))) _ moves_once
