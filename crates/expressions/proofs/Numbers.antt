-- A position's number, in plan order from i on: the masks hold exactly the numbers of what begins, ends, follows and holds an event.
use mathlib.Core.Path.{◌≡◌, refl, sym, ap}
use mathlib.Core.Bool.{cond}
use mathlib.Core.Logic.{inl, inr, ⊎_elim}
use Prim.Native.Nat.{ℕ, ◌+◌, ◌<◌, ◌≤◌}
use native.Mathlib.Omega.{arith}
use lib.Bits.{bit_or}
use Rattle.masks.specs.Mask.{In, has}
use Rattle.masks.proofs.Members.{digit_self, has_in, in_has, in_or, in_or_left, in_or_right, in_single, not_in_none}
use Rattle.expressions.specs.Expression.{Expression, eps, set, seq, alt, star}
use Rattle.expressions.specs.Positions.{null, size, first, last, follow, holding}
use Rattle.masks.proofs.Choices.{in_cond, cond_in}
use Rattle.expressions.proofs.Places.{Pos, at, First, Last, Follow}

abbrev pub num : ℕ → (r : Expression) → Pos r → ℕ
num i eps p = absurd p
num i (set m) p = i
num i (seq r s) (inl p) = num i r p
num i (seq r s) (inr p) = num (i + size r) s p
num i (alt r s) (inl p) = num i r p
num i (alt r s) (inr p) = num (i + size r) s p
num i (star r) p = num i r p

-- ---- numbers are in range and distinct

pub num_ge : (i : ℕ) (r : Expression) (p : Pos r) → i ≤ num i r p
num_ge i eps p = absurd p
num_ge i (set m) p = omega arith
num_ge i (seq r s) (inl p) = num_ge i r p
num_ge i (seq r s) (inr p) = omega (arith, num_ge (i + size r) s p)
num_ge i (alt r s) (inl p) = num_ge i r p
num_ge i (alt r s) (inr p) = omega (arith, num_ge (i + size r) s p)
num_ge i (star r) p = num_ge i r p

pub num_lt : (i : ℕ) (r : Expression) (p : Pos r) → num i r p < i + size r
num_lt i eps p = absurd p
num_lt i (set m) p = omega arith
num_lt i (seq r s) (inl p) = omega (arith, num_lt i r p)
num_lt i (seq r s) (inr p) = omega (arith, num_lt (i + size r) s p)
num_lt i (alt r s) (inl p) = omega (arith, num_lt i r p)
num_lt i (alt r s) (inr p) = omega (arith, num_lt (i + size r) s p)
num_lt i (star r) p = num_lt i r p

apart : (i : ℕ) (r s : Expression) (p : Pos r) (q : Pos s) → num i r p ≡ num (i + size r) s q → ⊥
apart i r s p q e = omega (arith, num_lt i r p, num_ge (i + size r) s q)

pub num_inj : (i : ℕ) (r : Expression) (p q : Pos r) → num i r p ≡ num i r q → p ≡ q
num_inj i eps p q e = absurd p
num_inj i (set m) p q e = refl
num_inj i (seq r s) (inl p) (inl q) e = ap (λ (x : Pos r). inl x) (num_inj i r p q e)
num_inj i (seq r s) (inl p) (inr q) e = absurd (apart i r s p q e)
num_inj i (seq r s) (inr p) (inl q) e = absurd (apart i r s q p (sym e))
num_inj i (seq r s) (inr p) (inr q) e = ap (λ (x : Pos s). inr x) (num_inj (i + size r) s p q e)
num_inj i (alt r s) (inl p) (inl q) e = ap (λ (x : Pos r). inl x) (num_inj i r p q e)
num_inj i (alt r s) (inl p) (inr q) e = absurd (apart i r s p q e)
num_inj i (alt r s) (inr p) (inl q) e = absurd (apart i r s q p (sym e))
num_inj i (alt r s) (inr p) (inr q) e = ap (λ (x : Pos s). inr x) (num_inj (i + size r) s p q e)
num_inj i (star r) p q e = num_inj i r p q e

-- ---- what begins

pub in_first : (i : ℕ) (r : Expression) (p : Pos r) → First r p → In (num i r p) (first i r)
in_first i eps p f = absurd p
in_first i (set m) p f = digit_self i
in_first i (seq r s) (inl p) f = in_or_left (first i r) _ _ (in_first i r p f)
in_first i (seq r s) (inr p) f = in_or_right (first i r) _ _ (in_cond (null r) _ _ f.0 (in_first (i + size r) s p f.1))
in_first i (alt r s) (inl p) f = in_or_left (first i r) _ _ (in_first i r p f)
in_first i (alt r s) (inr p) f = in_or_right (first i r) _ _ (in_first (i + size r) s p f)
in_first i (star r) p f = in_first i r p f

pub first_in : (i : ℕ) (r : Expression) (n : ℕ) → In n (first i r) → (p : Pos r) × First r p × (num i r p ≡ n)
first_in i eps n h = absurd (not_in_none n h)
first_in i (set m) n h = (tt, tt, sym (in_single i n h))
first_in i (seq r s) n h =
    ⊎_elim (λ g. let x = first_in i r n g in (inl x.0, x.1, x.2))
    (λ g.
    let c = cond_in (null r) _ n g in
    let x = first_in (i + size r) s n c.1 in
    (inr x.0, (c.0, x.1), x.2))
    (in_or (first i r) _ n h)
first_in i (alt r s) n h =
    ⊎_elim (λ g. let x = first_in i r n g in (inl x.0, x.1, x.2))
    (λ g. let x = first_in (i + size r) s n g in (inr x.0, x.1, x.2))
    (in_or (first i r) _ n h)
first_in i (star r) n h = first_in i r n h

-- ---- what ends

pub in_last : (i : ℕ) (r : Expression) (p : Pos r) → Last r p → In (num i r p) (last i r)
in_last i eps p f = absurd p
in_last i (set m) p f = digit_self i
in_last i (seq r s) (inl p) f = in_or_left (cond (null s) (last i r) 0) _ _ (in_cond (null s) _ _ f.1 (in_last i r p f.0))
in_last i (seq r s) (inr p) f = in_or_right (cond (null s) (last i r) 0) _ _ (in_last (i + size r) s p f)
in_last i (alt r s) (inl p) f = in_or_left (last i r) _ _ (in_last i r p f)
in_last i (alt r s) (inr p) f = in_or_right (last i r) _ _ (in_last (i + size r) s p f)
in_last i (star r) p f = in_last i r p f

pub last_in : (i : ℕ) (r : Expression) (n : ℕ) → In n (last i r) → (p : Pos r) × Last r p × (num i r p ≡ n)
last_in i eps n h = absurd (not_in_none n h)
last_in i (set m) n h = (tt, tt, sym (in_single i n h))
last_in i (seq r s) n h =
    ⊎_elim
    (λ g.
    let c = cond_in (null s) _ n g in
    let x = last_in i r n c.1 in
    (inl x.0, (x.1, c.0), x.2))
    (λ g. let x = last_in (i + size r) s n g in (inr x.0, x.1, x.2))
    (in_or (cond (null s) (last i r) 0) _ n h)
last_in i (alt r s) n h =
    ⊎_elim (λ g. let x = last_in i r n g in (inl x.0, x.1, x.2))
    (λ g. let x = last_in (i + size r) s n g in (inr x.0, x.1, x.2))
    (in_or (last i r) _ n h)
last_in i (star r) n h = last_in i r n h

-- ---- what follows

-- past a position that may end the older operand, one that may begin the newer
in_link : (m x n p : ℕ) → In p m → In n x → In n (cond (has m p) x 0)
in_link m x n p h k = in_cond (has m p) x n (in_has m p h) k

link_in : (m x n p : ℕ) → In n (cond (has m p) x 0) → In p m × In n x
link_in m x n p h = let c = cond_in (has m p) x n h in (has_in m p c.0, c.1)

pub in_follow : (i : ℕ) (r : Expression) (p q : Pos r) → Follow r p q → In (num i r q) (follow i r (num i r p))
in_follow i eps p q f = absurd p
in_follow i (set m) p q f = absurd f
in_follow i (seq r s) (inl p) (inl q) f =
    in_or_left (bit_or (follow i r _) _) _ _ (in_or_left (follow i r _) _ _ (in_follow i r p q f))
in_follow i (seq r s) (inl p) (inr q) f =
    in_or_right (bit_or (follow i r _) _) _ _ (in_link (last i r) _ _ _ (in_last i r p f.0) (in_first (i + size r) s q f.1))
in_follow i (seq r s) (inr p) (inl q) f = absurd f
in_follow i (seq r s) (inr p) (inr q) f =
    in_or_left (bit_or (follow i r _) _) _ _ (in_or_right (follow i r _) _ _ (in_follow (i + size r) s p q f))
in_follow i (alt r s) (inl p) (inl q) f = in_or_left (follow i r _) _ _ (in_follow i r p q f)
in_follow i (alt r s) (inl p) (inr q) f = absurd f
in_follow i (alt r s) (inr p) (inl q) f = absurd f
in_follow i (alt r s) (inr p) (inr q) f = in_or_right (follow i r _) _ _ (in_follow (i + size r) s p q f)
in_follow i (star r) p q (inl f) = in_or_left (follow i r _) _ _ (in_follow i r p q f)
in_follow i (star r) p q (inr f) = in_or_right (follow i r _) _ _ (in_link (last i r) _ _ _ (in_last i r p f.0) (in_first i r q f.1))

abbrev pub Edge : ℕ → Expression → ℕ → ℕ → Type 0
Edge i r n m = (p q : Pos r) × Follow r p q × (num i r p ≡ n) × (num i r q ≡ m)

pub follow_in : (i : ℕ) (r : Expression) (n m : ℕ) → In m (follow i r n) → Edge i r n m
follow_in i eps n m h = absurd (not_in_none m h)
follow_in i (set a) n m h = absurd (not_in_none m h)
follow_in i (seq r s) n m h =
    ⊎_elim
    (λ g.
    ⊎_elim (λ k. let x = follow_in i r n m k in (inl x.0, inl x.1, x.2, x.3, x.4))
    (λ k. let x = follow_in (i + size r) s n m k in (inr x.0, inr x.1, x.2, x.3, x.4))
    (in_or (follow i r n) _ m g))
    (λ g.
    let c = link_in (last i r) _ m n g in
    let x = last_in i r n c.0 in
    let y = first_in (i + size r) s m c.1 in
    (inl x.0, inr y.0, (x.1, y.1), x.2, y.2))
    (in_or (bit_or (follow i r n) _) _ m h)
follow_in i (alt r s) n m h =
    ⊎_elim (λ k. let x = follow_in i r n m k in (inl x.0, inl x.1, x.2, x.3, x.4))
    (λ k. let x = follow_in (i + size r) s n m k in (inr x.0, inr x.1, x.2, x.3, x.4))
    (in_or (follow i r n) _ m h)
follow_in i (star r) n m h =
    ⊎_elim (λ k. let x = follow_in i r n m k in (x.0, x.1, inl x.2, x.3, x.4))
    (λ g.
    let c = link_in (last i r) _ m n g in
    let x = last_in i r n c.0 in
    let y = first_in i r m c.1 in
    (x.0, y.0, inr (x.1, y.1), x.2, y.2))
    (in_or (follow i r n) _ m h)

-- ---- what holds an event

pub in_holding : (i : ℕ) (r : Expression) (e : ℕ) (p : Pos r) → In e (at r p) → In (num i r p) (holding i r e)
in_holding i eps e p h = absurd p
in_holding i (set m) e p h = in_link m _ i e h (digit_self i)
in_holding i (seq r s) e (inl p) h = in_or_left (holding i r e) _ _ (in_holding i r e p h)
in_holding i (seq r s) e (inr p) h = in_or_right (holding i r e) _ _ (in_holding (i + size r) s e p h)
in_holding i (alt r s) e (inl p) h = in_or_left (holding i r e) _ _ (in_holding i r e p h)
in_holding i (alt r s) e (inr p) h = in_or_right (holding i r e) _ _ (in_holding (i + size r) s e p h)
in_holding i (star r) e p h = in_holding i r e p h

pub holding_in : (i : ℕ) (r : Expression) (e n : ℕ) → In n (holding i r e) → (p : Pos r) × In e (at r p) × (num i r p ≡ n)
holding_in i eps e n h = absurd (not_in_none n h)
holding_in i (set m) e n h = let c = link_in m _ n e h in (tt, c.0, sym (in_single i n c.1))
holding_in i (seq r s) e n h =
    ⊎_elim (λ g. let x = holding_in i r e n g in (inl x.0, x.1, x.2))
    (λ g. let x = holding_in (i + size r) s e n g in (inr x.0, x.1, x.2))
    (in_or (holding i r e) _ n h)
holding_in i (alt r s) e n h =
    ⊎_elim (λ g. let x = holding_in i r e n g in (inl x.0, x.1, x.2))
    (λ g. let x = holding_in (i + size r) s e n g in (inr x.0, x.1, x.2))
    (in_or (holding i r e) _ n h)
holding_in i (star r) e n h = holding_in i r e n h
