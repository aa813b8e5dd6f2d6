-- The positions of an expression as a type: what begins, ends and follows, and the language that is left at a position.
use mathlib.Core.Path.{◌≡◌, refl, sym, ap, subst}
use mathlib.Core.Bool.{Bool, true, false, ◌||◌, or-true, false≢true, and-eq-true_iff}
use mathlib.Core.List.{List, [], ◌∷◌, cons-ne-nil}
use mathlib.Core.Option.{Option, none, some}
use mathlib.Core.Logic.{◌⊎◌, inl, inr, ◌↔◌, ⊎_elim, ⊎_map}
use Prim.Native.Nat.{ℕ}
use Rattle.masks.specs.Mask.{In}
use Rattle.expressions.specs.Expression.{Expression, eps, set, seq, alt, star, Followed, Joined, done, Language}
use Rattle.expressions.specs.Positions.{null}
use Rattle.expressions.proofs.Strings.{followed_cons, followed_left, followed_right, followed_nil, followed_map, joined_cons, joined_left}

-- ---- the positions, one for each set in the expression

abbrev pub Pos : Expression → Type 0
Pos eps = ⊥
Pos (set m) = Unit {0}
Pos (seq r s) = Pos r ⊎ Pos s
Pos (alt r s) = Pos r ⊎ Pos s
Pos (star r) = Pos r

-- the set at a position
abbrev pub at : (r : Expression) → Pos r → ℕ
at eps p = absurd p
at (set m) p = m
at (seq r s) (inl p) = at r p
at (seq r s) (inr p) = at s p
at (alt r s) (inl p) = at r p
at (alt r s) (inr p) = at s p
at (star r) p = at r p

-- p may begin a string
abbrev pub First : (r : Expression) → Pos r → Type 0
First eps p = ⊥
First (set m) p = Unit {0}
First (seq r s) (inl p) = First r p
First (seq r s) (inr p) = (null r ≡ true) × First s p
First (alt r s) (inl p) = First r p
First (alt r s) (inr p) = First s p
First (star r) p = First r p

-- p may end one
abbrev pub Last : (r : Expression) → Pos r → Type 0
Last eps p = ⊥
Last (set m) p = Unit {0}
Last (seq r s) (inl p) = Last r p × (null s ≡ true)
Last (seq r s) (inr p) = Last s p
Last (alt r s) (inl p) = Last r p
Last (alt r s) (inr p) = Last s p
Last (star r) p = Last r p

-- q may follow p
abbrev pub Follow : (r : Expression) → Pos r → Pos r → Type 0
Follow eps p q = ⊥
Follow (set m) p q = ⊥
Follow (seq r s) (inl p) (inl q) = Follow r p q
Follow (seq r s) (inl p) (inr q) = Last r p × First s q
Follow (seq r s) (inr p) (inl q) = ⊥
Follow (seq r s) (inr p) (inr q) = Follow s p q
Follow (alt r s) (inl p) (inl q) = Follow r p q
Follow (alt r s) (inl p) (inr q) = ⊥
Follow (alt r s) (inr p) (inl q) = ⊥
Follow (alt r s) (inr p) (inr q) = Follow s p q
Follow (star r) p q = Follow r p q ⊎ (Last r p × First r q)

-- w is left to read after p
abbrev pub Res : (r : Expression) → Pos r → List ℕ → Type 0
Res eps p w = ⊥
Res (set m) p w = w ≡ []
Res (seq r s) (inl p) w = Followed (Res r p) (Language s) w
Res (seq r s) (inr p) w = Res s p w
Res (alt r s) (inl p) w = Res r p w
Res (alt r s) (inr p) w = Res s p w
Res (star r) p w = Followed (Res r p) (Joined (Language r)) w

-- ---- the empty string, from the beginning and from a position

or_cases : (a b : Bool) → (a || b) ≡ true → (a ≡ true) ⊎ (b ≡ true)
or_cases true b h = inl refl
or_cases false b h = inr h

language_null : (r : Expression) → Language r [] → null r ≡ true
language_null eps l = refl
language_null (set m) l = absurd (cons-ne-nil _ _ (sym l.2))
language_null (seq r s) l = let c = followed_nil (Language r) (Language s) l in rw (language_null r c.0, language_null s c.1)
language_null (alt r s) (inl l) = rw (language_null r l)
language_null (alt r s) (inr l) = rw (language_null s l, or-true)
language_null (star r) l = refl

null_language : (r : Expression) → null r ≡ true → Language r []
null_language eps h = refl
null_language (set m) h = absurd (false≢true h)
null_language (seq r s) h =
    ([], [], null_language r ((and-eq-true_iff _ _).0 h).0, null_language s ((and-eq-true_iff (null r) _).0 h).1, refl)
null_language (alt r s) h = ⊎_map (λ a. null_language r a) (λ a. null_language s a) (or_cases (null r) (null s) h)
null_language (star r) h = done

res_last : (r : Expression) (p : Pos r) → Res r p [] → Last r p
res_last eps p l = l
res_last (set m) p l = tt
res_last (seq r s) (inl p) l = let c = followed_nil (Res r p) (Language s) l in (res_last r p c.0, language_null s c.1)
res_last (seq r s) (inr p) l = res_last s p l
res_last (alt r s) (inl p) l = res_last r p l
res_last (alt r s) (inr p) l = res_last s p l
res_last (star r) p l = res_last r p (followed_nil (Res r p) (Joined (Language r)) l).0

last_res : (r : Expression) (p : Pos r) → Last r p → Res r p []
last_res eps p l = l
last_res (set m) p l = refl
last_res (seq r s) (inl p) l = ([], [], last_res r p l.0, null_language s l.1, refl)
last_res (seq r s) (inr p) l = last_res s p l
last_res (alt r s) (inl p) l = last_res r p l
last_res (alt r s) (inr p) l = last_res s p l
last_res (star r) p l = ([], [], last_res r p l, done, refl)

-- ---- one event more, from the beginning and from a position

abbrev Begin : (r : Expression) → ℕ → List ℕ → Type 0
Begin r e w = (p : Pos r) × First r p × In e (at r p) × Res r p w

abbrev Next : (r : Expression) → Pos r → ℕ → List ℕ → Type 0
Next r p e w = (q : Pos r) × Follow r p q × In e (at r q) × Res r q w

language_begin : (r : Expression) (e : ℕ) (w : List ℕ) → Language r (e ∷ w) → Begin r e w
language_begin eps e w l = absurd (cons-ne-nil _ _ l)
language_begin (set m) e w l = (tt, tt, (let h : e ≡ l.0 = cc in rw h l.1), cc)
language_begin (seq r s) e w l =
    ⊎_elim (λ x. let b = language_begin s e w x.1 in (inr b.0, (language_null r x.0, b.1), b.2, b.3))
    (λ c. let b = language_begin r e c.0 c.2 in (inl b.0, b.1, b.2, (c.0, c.1, b.3, c.3, c.4)))
    (followed_cons (Language r) (Language s) e w l)
language_begin (alt r s) e w (inl l) = let b = language_begin r e w l in (inl b.0, b.1, b.2, b.3)
language_begin (alt r s) e w (inr l) = let b = language_begin s e w l in (inr b.0, b.1, b.2, b.3)
language_begin (star r) e w l =
    let c = joined_cons e (e ∷ w) refl l in
    let b = language_begin r e c.0 c.2 in
    (b.0, b.1, b.2, (c.0, c.1, b.3, c.3, c.4))

res_next : (r : Expression) (p : Pos r) (e : ℕ) (w : List ℕ) → Res r p (e ∷ w) → Next r p e w
res_next eps p e w l = absurd l
res_next (set m) p e w l = absurd (cons-ne-nil _ _ l)
res_next (seq r s) (inl p) e w l =
    ⊎_elim (λ x. let b = language_begin s e w x.1 in (inr b.0, (res_last r p x.0, b.1), b.2, b.3))
    (λ c. let n = res_next r p e c.0 c.2 in (inl n.0, n.1, n.2, (c.0, c.1, n.3, c.3, c.4)))
    (followed_cons (Res r p) (Language s) e w l)
res_next (seq r s) (inr p) e w l = let n = res_next s p e w l in (inr n.0, n.1, n.2, n.3)
res_next (alt r s) (inl p) e w l = let n = res_next r p e w l in (inl n.0, n.1, n.2, n.3)
res_next (alt r s) (inr p) e w l = let n = res_next s p e w l in (inr n.0, n.1, n.2, n.3)
res_next (star r) p e w l =
    ⊎_elim
    (λ x.
    let c = joined_cons e (e ∷ w) refl x.1 in
    let b = language_begin r e c.0 c.2 in
    (b.0, inr (res_last r p x.0, b.1), b.2, (c.0, c.1, b.3, c.3, c.4)))
    (λ c. let n = res_next r p e c.0 c.2 in (n.0, inl n.1, n.2, (c.0, c.1, n.3, c.3, c.4)))
    (followed_cons (Res r p) (Joined (Language r)) e w l)

begin_language : (r : Expression) (p : Pos r) (e : ℕ) (w : List ℕ) → First r p → In e (at r p) → Res r p w → Language r (e ∷ w)
begin_language eps p e w f h l = absurd l
begin_language (set m) p e w f h l = (e, h, ap (λ (x : List ℕ). e ∷ x) l)
begin_language (seq r s) (inl p) e w f h l =
    followed_left (Language r) (Language s) e w (followed_map w (λ u x. begin_language r p e u f h x) l)
begin_language (seq r s) (inr p) e w f h l =
    followed_right (Language r) (Language s) (e ∷ w) (null_language r f.0) (begin_language s p e w f.1 h l)
begin_language (alt r s) (inl p) e w f h l = inl (begin_language r p e w f h l)
begin_language (alt r s) (inr p) e w f h l = inr (begin_language s p e w f h l)
begin_language (star r) p e w f h l = joined_left e w (followed_map w (λ u x. begin_language r p e u f h x) l)

next_res : (r : Expression) (p q : Pos r) (e : ℕ) (w : List ℕ) → Follow r p q → In e (at r q) → Res r q w → Res r p (e ∷ w)
next_res eps p q e w f h l = absurd f
next_res (set m) p q e w f h l = absurd f
next_res (seq r s) (inl p) (inl q) e w f h l =
    followed_left (Res r p) (Language s) e w (followed_map w (λ u x. next_res r p q e u f h x) l)
next_res (seq r s) (inl p) (inr q) e w f h l =
    followed_right (Res r p) (Language s) (e ∷ w) (last_res r p f.0) (begin_language s q e w f.1 h l)
next_res (seq r s) (inr p) (inl q) e w f h l = absurd f
next_res (seq r s) (inr p) (inr q) e w f h l = next_res s p q e w f h l
next_res (alt r s) (inl p) (inl q) e w f h l = next_res r p q e w f h l
next_res (alt r s) (inl p) (inr q) e w f h l = absurd f
next_res (alt r s) (inr p) (inl q) e w f h l = absurd f
next_res (alt r s) (inr p) (inr q) e w f h l = next_res s p q e w f h l
next_res (star r) p q e w (inl f) h l =
    followed_left (Res r p) (Joined (Language r)) e w (followed_map w (λ u x. next_res r p q e u f h x) l)
next_res (star r) p q e w (inr f) h l =
    followed_right (Res r p) (Joined (Language r)) (e ∷ w) (last_res r p f.0)
    (joined_left e w (followed_map w (λ u x. begin_language r q e u f.1 h x) l))

-- ---- the position automaton: the beginning is `none`

module _ (r : Expression) where
  abbrev pub Place : Type 0
  Place = Option (Pos r)

  -- q may follow p and its set holds e
  abbrev pub Goes : Place → ℕ → Place → Type 0
  Goes p e none = ⊥
  Goes none e (some q) = First r q × In e (at r q)
  Goes (some p) e (some q) = Follow r p q × In e (at r q)

  abbrev pub Ends : Place → Type 0
  Ends none = null r ≡ true
  Ends (some p) = Last r p

  abbrev Left : Place → List ℕ → Type 0
  Left none w = Language r w
  Left (some p) w = Res r p w

  left_nil : (p : Place) → Left p [] ↔ Ends p
  left_nil none = (language_null r, null_language r)
  left_nil (some p) = (res_last r p, last_res r p)

  left_cons : (p : Place) (e : ℕ) (w : List ℕ) → Left p (e ∷ w) → (q : Place) × Goes p e q × Left q w
  left_cons none e w l = let b = language_begin r e w l in (some b.0, (b.1, b.2), b.3)
  left_cons (some p) e w l = let b = res_next r p e w l in (some b.0, (b.1, b.2), b.3)

  cons_left : (p q : Place) (e : ℕ) (w : List ℕ) → Goes p e q → Left q w → Left p (e ∷ w)
  cons_left none none e w g l = absurd g
  cons_left none (some q) e w g l = begin_language r q e w g.0 g.1 l
  cons_left (some p) none e w g l = absurd g
  cons_left (some p) (some q) e w g l = next_res r p q e w g.0 g.1 l

  -- the places reached from those of S by an event, and by a string
  abbrev pub Step : (Place → Type 0) → ℕ → Place → Type 0
  Step S e q = (p : Place) × S p × Goes p e q

  abbrev pub Reach : (Place → Type 0) → List ℕ → Place → Type 0
  Reach S [] = S
  Reach S (e ∷ w) = Reach (Step S e) w

  abbrev pub Accepts : (Place → Type 0) → Type 0
  Accepts S = (p : Place) × S p × Ends p

  reach_left : (w : List ℕ) (S : Place → Type 0) → Accepts (Reach S w) → (p : Place) × S p × Left p w
  reach_left [] S a = (a.0, a.1, (left_nil a.0).1 a.2)
  reach_left (e ∷ w) S a =
      let x = reach_left w (Step S e) a in
      (x.1.0, x.1.1, cons_left x.1.0 x.0 e w x.1.2 x.2)

  left_reach : (w : List ℕ) (S : Place → Type 0) (p : Place) → S p → Left p w → Accepts (Reach S w)
  left_reach [] S p s l = (p, s, (left_nil p).0 l)
  left_reach (e ∷ w) S p s l = let x = left_cons p e w l in left_reach w (Step S e) x.0 (p, s, x.1) x.2

  abbrev pub Start : Place → Type 0
  Start p = p ≡ none

  -- the places reached from the beginning by w hold an accepting one if and only if w is in the language
  pub glushkov_places : (w : List ℕ) → Accepts (Reach Start w) ↔ Language r w
  glushkov_places w = (
    (λ a. let x = reach_left w Start a in subst (λ (p : Place). Left p w) x.1 x.2),
    (λ l. left_reach w Start none refl l),
  )
