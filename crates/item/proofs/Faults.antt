-- The refusal of one item, by which of its tests hold. Assumes nothing.
use mathlib.Core.Path.{◌≡◌, refl, sym, ap, ◌∙◌}
use mathlib.Core.Bool.{Bool, true, false, ◌&&◌, cond}
use mathlib.Core.List.{List}
use mathlib.Core.Option.{Option, none, some, none-ne-some}
use Prim.Native.Nat.{ℕ, zero, suc, ◌+◌, ◌≤◌}
use native.Mathlib.Omega.{arith}
use borrow.Author.Tests.{ltb-false}
use lib.Dec.{ltb, eqb}
use Rattle.plan.specs.Checks.{or_else, first}
use Rattle.expressions.specs.declared.Item.{Item}
use Rattle.expressions.specs.declared.Item.TheVariants.{Events as events}
use Rattle.expressions.specs.Items.{arity}
use Rattle.item.specs.Faults.{cut, kind_at, set_at, item_of, item_at, width, strange, set_faults, faults}
use Rattle.item.specs.Found.{kind_of}

-- ---- items and their kinds

pub kind_item : (k m : ℕ) → k ≤ 4 → kind_of (item_of k m) ≡ k
kind_item zero m h = refl
kind_item (suc zero) m h = refl
kind_item (suc (suc zero)) m h = refl
kind_item (suc (suc (suc zero))) m h = refl
kind_item (suc (suc (suc (suc k)))) m h = omega arith

pub width_item : (k : ℕ) → (3 ≤ width k) × (width k ≤ 34)
width_item k = go (eqb k 1)
  where
    go : (t : Bool) → (3 ≤ cond t 34 3) × (cond t 34 3 ≤ 34)
    go true = (omega arith, omega arith)
    go false = (omega arith, omega arith)

-- ---- the tests in their order

-- where no test holds, neither the second does nor the last
past_all : (t₁ t₂ t₃ t₄ t₅ : Bool)
    → or_else (cond t₁ (some 10) none) (or_else (cond t₂ (some 11) none) (or_else (cond t₃ (some 10) none) (or_else (cond t₄ (some 12) none) (or_else (cond t₅ (some 13) none) none)))) ≡ none
    → (t₂ ≡ false) × (t₅ ≡ false)
past_all true t₂ t₃ t₄ t₅ e = (cc, cc)
past_all false true t₃ t₄ t₅ e = (cc, cc)
past_all false false true t₄ t₅ e = (cc, cc)
past_all false false false true t₅ e = (cc, cc)
past_all false false false false true e = (cc, cc)
past_all false false false false false e = (refl, refl)

module _ (b : List ℕ) (alphabet at depth : ℕ) where
  abbrev answer : Option ℕ
  answer = first (faults b alphabet) (record { at = at; depth = depth })

  pub faultless : answer ≡ none → (kind_at b at ≤ 4) × (arity (item_at b at) ≤ depth)
  unfolding first
  faultless e = let f = past_all (cut b (at + 3)) (ltb 4 (kind_at b at)) (eqb (kind_at b at) 1 && cut b (at + 34)) (eqb (kind_at b at) 1 && strange alphabet (set_at b at)) (ltb depth (arity (item_at b at))) e in (ltb-false 4 _ f.0, ltb-false depth _ f.1)

  module _ (whole : cut b (at + 3) ≡ false) where
    pub kind_unknown : ltb 4 (kind_at b at) ≡ true → answer ≡ some 11
    unfolding first
    kind_unknown h = rw (whole, h) refl

    -- of an item with a set the tests of the set come next
    pub set_refused : kind_at b at ≡ 1 → (n : ℕ) → some n ≡ first (set_faults b alphabet) at → answer ≡ some n
    unfolding first
    set_refused k n h = rw (whole, k) (go (cut b (at + 34)) (strange alphabet (set_at b at)) (sym h) _)
      where
        go : (t u : Bool) → or_else (cond t (some 10) none) (or_else (cond u (some 12) none) none) ≡ some n
            → (r : Option ℕ) → or_else (cond t (some 10) none) (or_else (cond u (some 12) none) r) ≡ some n
        go true u e r = e
        go false true e r = e
        go false false e r = absurd (none-ne-some n e)

  -- i is the item, and no test of its kind or its set holds
  pub record Told (i : Item) : Type 0 where
    pub whole : cut b (at + 3) ≡ false
    pub known : ltb 4 (kind_at b at) ≡ false
    pub held : (eqb (kind_at b at) 1 && cut b (at + 34)) ≡ false
    pub usual : (eqb (kind_at b at) 1 && strange alphabet (set_at b at)) ≡ false
    pub item : i ≡ item_at b at

  -- the test of its operands is the last one
  pub operands_last : (i : Item) → Told i → answer ≡ cond (ltb depth (arity i)) (some 13) none
  unfolding first
  operands_last i t = rw (t.whole, t.known, t.held, t.usual, ← t.item) (go (ltb depth (arity i)))
    where
      go : (t : Bool) → or_else (cond t (some 13) none) none ≡ cond t (some 13) none
      go true = refl
      go false = refl

  module _ (whole : cut b (at + 3) ≡ false) (i : Item) where
    pub told_operator : (k : ℕ) → kind_at b at ≡ k → ltb 4 k ≡ false → eqb k 1 ≡ false → ((m : ℕ) → i ≡ item_of k m) → Told i
    unfolding item_at
    told_operator k e l n h = record {
      whole = whole;
      known = rw e l;
      held = rw (e, n) refl;
      usual = rw (e, n) refl;
      item = h (set_at b at) ∙ sym (ap (λ (x : ℕ). item_of x (set_at b at)) e);
    }

    pub told_set : kind_at b at ≡ 1 → none ≡ first (set_faults b alphabet) at → i ≡ events (set_at b at) → Told i
    unfolding item_at first
    told_set e n h =
        let f = both (cut b (at + 34)) (strange alphabet (set_at b at)) (sym n) in
        record {
          whole = whole;
          known = rw e refl;
          held = rw e f.0;
          usual = rw e f.1;
          item = h ∙ sym (ap (λ (x : ℕ). item_of x (set_at b at)) e);
        }
      where
        both : (t u : Bool) → or_else (cond t (some 10) none) (or_else (cond u (some 12) none) none) ≡ none → (t ≡ false) × (u ≡ false)
        both true u e = cc
        both false true e = cc
        both false false e = (refl, refl)
