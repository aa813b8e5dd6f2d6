-- No refusal of a plan has the number 0. Assumes nothing.
use mathlib.Core.Path.{◌≡◌, sym, ap, ◌∙◌}
use mathlib.Core.Bool.{Bool, true, false, ◌&&◌, cond}
use mathlib.Core.List.{List, [], ◌∷◌}
use mathlib.Core.Option.{Option, none, some, some-injective}
use Prim.Native.Nat.{ℕ, zero, suc, ◌+◌}
use native.Mathlib.Omega.{arith}
use lib.Dec.{ltb}
use Rattle.expressions.specs.Items.{arity}
use Rattle.sections.specs.Layout.{plan_of}
use Rattle.plan.specs.Checks.{Check, refuse, first, or_else}
use Rattle.plan.specs.Refusals.{too_short, counts_wrong, cut_short, filled, wrong_sizes, stray_ends, none_ends, split_ends, exit_left, no_channel, framing, shape, order}
use Rattle.plan.proofs.Tests.{first_append, first_last, first_said}
use Rattle.item.specs.Faults.{Point, cut, kind_at, set_at, item_at, is_events, strange, faults}
use Rattle.items.specs.Refusals.{Read, faulty, up_to, Spot, point_of, judged, one_more, read, not_one, trailing, refusal_of, items_refusal}
use Rattle.grammar.specs.Meaning.{unreadable, many_items, strange_letter}
use Rattle.pattern.specs.Refusals.{rest, bad_items, readable}
use Rattle.promises.specs.Order.{Pattern, own, typed, text_refusal, many_states, short_row, judgeable}
use Rattle.promises.proofs.Refusals.{in_order}

-- ---- checks in their order

none_zero : ◌≡◌ {A = Option ℕ} none (some 0) → ⊥
none_zero e = let z : ◌≡◌ {A = ℕ} 0 1 = cc in omega arith

either_zero : (x y : Option ℕ) → (x ≡ some 0 → ⊥) → (y ≡ some 0 → ⊥) → or_else x y ≡ some 0 → ⊥
either_zero none y f g = g
either_zero (some n) y f g = f

refuse_above : {A : Type 0} (n : ℕ) (test : A → Bool) (a : A) → refuse (suc n) test a ≡ some 0 → ⊥
refuse_above n test a = go (test a)
  where
    go : (t : Bool) → cond t (some (suc n)) none ≡ some 0 → ⊥
    go true e = let z : suc n ≡ 0 = some-injective (suc n) 0 e in omega arith
    go false e = none_zero e

-- a check with a number above 0 in front of others
above : {A : Type 0} (n : ℕ) (test : A → Bool) (cs : List (Check A)) (a : A) → (first cs a ≡ some 0 → ⊥) → first (refuse (suc n) test ∷ cs) a ≡ some 0 → ⊥
unfolding first
above n test cs a = either_zero (refuse (suc n) test a) (first cs a) (refuse_above n test a)

nothing_above : {A : Type 0} (a : A) → first [] a ≡ some 0 → ⊥
unfolding first
nothing_above a = none_zero

-- ---- 1 to 9, and 21

framing_above : (b : List ℕ) → first framing b ≡ some 0 → ⊥
framing_above b = above 0 too_short _ b (above 1 counts_wrong _ b (above 2 cut_short _ b (above 3 filled _ b (nothing_above b))))

shape_above : (b : List ℕ) → first shape (plan_of b) ≡ some 0 → ⊥
shape_above b =
    let p = plan_of b in
    above 4 wrong_sizes _ p (above 5 stray_ends _ p (above 20 none_ends _ p (above 6 split_ends _ p (above 7 exit_left _ p (above 8 no_channel _ p (nothing_above p))))))

order_above : (b : List ℕ) → first order b ≡ some 0 → ⊥
order_above b e =
    either_zero (first framing b) (first shape (plan_of b)) (framing_above b) (shape_above b)
    (sym (first_append framing _ b ∙ ap (or_else (first framing b)) (first_said plan_of shape b)) ∙ e)

-- ---- 10 to 15

module _ (b : List ℕ) (alphabet : ℕ) where
  faulty_is : {m n : ℕ} → faulty m ≡ faulty n → m ≡ n
  faulty_is e = cc

  judged_above : (o : Option ℕ) (s : Spot) → (o ≡ some 0 → ⊥) → judged b alphabet o s ≡ faulty 0 → ⊥
  judged_above (some n) s f e = f (ap some (faulty_is e))
  judged_above none s f e = let z : ◌≡◌ {A = ℕ} 0 1 = cc in omega arith

  faults_above : (s : Spot) → first (faults b alphabet) (point_of s) ≡ some 0 → ⊥
  faults_above s =
      let p = point_of s in
      above 9 (λ (q : Point). cut b (q.at + 3)) _ p (above 10 (λ (q : Point). ltb 4 (kind_at b q.at)) _ p (above 9 (λ (q : Point). is_events b q && cut b (q.at + 34)) _ p (above 11 (λ (q : Point). is_events b q && strange alphabet (set_at b q.at)) _ p (above 12 (λ (q : Point). ltb q.depth (arity (item_at b q.at))) _ p (nothing_above p)))))

  one_more_above : (r : Read) → (r ≡ faulty 0 → ⊥) → one_more b alphabet r ≡ faulty 0 → ⊥
  one_more_above (faulty n) f = f
  one_more_above (up_to s) f = judged_above (first (faults b alphabet) (point_of s)) s (faults_above s)

  read_above : (n : ℕ) → read b alphabet n ≡ faulty 0 → ⊥
  unfolding read
  read_above zero e = let z : ◌≡◌ {A = ℕ} 0 1 = cc in omega arith
  read_above (suc n) e = one_more_above (read b alphabet n) (read_above n) e

  left_above : (r : Read) → (r ≡ faulty 0 → ⊥) → refusal_of b r ≡ some 0 → ⊥
  left_above (faulty n) f e = f (ap faulty (some-injective n 0 e))
  left_above (up_to s) f e = above 13 not_one _ s (above 14 (trailing b) _ s (nothing_above s)) e

items_above : (b : List ℕ) → bad_items b ≡ some 0 → ⊥
unfolding items_refusal
items_above b =
    let alphabet = (plan_of b).alphabet in
    let n = (plan_of b).items in
    left_above (rest b) alphabet (read (rest b) alphabet n) (read_above (rest b) alphabet n)

readable_above : (b : List ℕ) → first readable b ≡ some 0 → ⊥
readable_above b e = either_zero (first order b) (bad_items b) (order_above b) (items_above b) (sym (first_last order bad_items b) ∙ e)

-- ---- 18 to 20

text_above : (q : Pattern) (b : List ℕ) → text_refusal q b ≡ some 0 → ⊥
text_above own b = none_zero
text_above (typed w o) b =
    let a = (plan_of b).alphabet in
    above 17 (λ (x : ℕ). unreadable w o) _ a (above 18 (many_items o) _ a (above 19 (strange_letter o) _ a (nothing_above a)))

-- ---- all

-- so the number 0 is free to stand for a verdict
pub no_refusal_zero : (q : Pattern) (places : ℕ) (b : List ℕ) → first (judgeable q places) b ≡ some 0 → ⊥
no_refusal_zero q places b e =
    either_zero (first readable b) _ (readable_above b)
    (either_zero (text_refusal q b) _ (text_above q b)
    (either_zero (refuse 16 (many_states q) b) (refuse 17 (short_row places) b) (refuse_above 15 (many_states q) b) (refuse_above 16 (short_row places) b)))
    (sym (in_order q places b) ∙ e)
