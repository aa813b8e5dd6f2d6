-- All items: what they build is the table of the pattern, and its positions fit the arrays. Assumes nothing.
use mathlib.Core.Path.{◌≡◌, refl, ap, ap₂, ◌∙◌, subst}
use mathlib.Core.Bool.{cond}
use mathlib.Core.Logic.{⊎_elim}
use mathlib.Core.List.{List, [], ◌∷◌}
use Prim.Native.Nat.{ℕ, zero, suc, ◌+◌, ◌-◌, ◌^◌, ◌≤◌, ◌<◌}
use native.Mathlib.Nat.{le_refl, eq-or-lt_of_le}
use native.Mathlib.Numerals.{add-one}
use native.Mathlib.Omega.{arith}
use lib.Bits.{bit_or}
use lib.ListN.{length, get_or, set, take}
use lib.Seq.{take-suc, take-length}
use Rattle.rows.specs.Rows.{row}
use Rattle.rows.proofs.Rows.{row_ext, row_length}
use Rattle.expressions.specs.Expression.{Expression}
use Rattle.expressions.specs.declared.Item.{Item}
use Rattle.expressions.specs.declared.Item.TheVariants.{Empty as empty, Events as events, Sequence as sequence, Choice as choice, Repeat as repeat}
use Rattle.expressions.specs.Items.{arity, push, operands, newest, pattern_of}
use Rattle.expressions.specs.Positions.{size, first, after, final}
use Rattle.expressions.proofs.Operands.{push_none, push_more, push_length, free_push, Counted, counted_none, counted_push, counted_free}
use Rattle.expressions.proofs.Stack.{holdings_one}
use Rattle.expressions.specs.Stack.{free, Operand as Masks, operand_at, follows, holdings}
use Rattle.items.specs.Postfix.{Postfix}
use Rattle.positions.specs.declared.Positions.{Positions}
use Rattle.positions.specs.Tables.{position_table}
use Rattle.positions.specs.declared.Operand.{Operand}
use Rattle.positions.specs.declared.Made.{Made}
use Rattle.positions.specs.Making.{operand_of, made}
use Rattle.positions.proofs.Arrays.{listed_top, listed_none}
use Rattle.positions.proofs.Items.{Draft, DraftOf, operand, draft_depth, laid, item_taken}

-- ---- one operand is left

-- what begins it may follow the beginning
begun : (e : Expression) → set (row 33 (follows (e ∷ []))) 0 (first 1 e) ≡ row 33 (after e)
unfolding row
begun e = refl

ended : (e : Expression) (m : Masks) → m ≡ operand_at 1 e → bit_or m.last (cond m.null 1 0) ≡ final e
unfolding final
ended e m h = ap (λ (k : Masks). bit_or k.last (cond k.null 1 0)) h

-- the table that the code makes of the operand left; v is the beginning where the pattern holds the empty string
abbrev table_of : Draft → ℕ → Positions
table_of d v = record {
  count = d.count;
  after = set d.after 0 (operand d 0).first;
  holding = d.holding;
  last = bit_or (operand d 0).last v;
}

table_made : (d : Draft) (e : Expression) (v : ℕ) → v ≡ cond (operand d 0).null 1 0 → DraftOf (e ∷ []) d → table_of d v ≡ position_table e
table_made d e v q b =
    let whole = (listed_top d.operands d.depth 0 (operand_at 1 e) [] (draft_depth (e ∷ []) d b) b.stack).0 in
    let n : free (e ∷ []) ≡ suc (size e) = omega arith in
    λ i. record {
      count = (b.count ∙ n) i;
      after = (ap₂ (λ xs f. set xs 0 f) b.after (ap (λ (k : Masks). k.first) whole) ∙ begun e) i;
      holding = (b.holding ∙ row_ext (holdings (e ∷ [])) _ 33 (λ p l. holdings_one e p)) i;
      last = (ap (bit_or (operand d 0).last) q ∙ ended e (operand_of (operand d 0)) whole) i;
    }

sole : (st : List Expression) → length st ≡ 1 → st ≡ newest st ∷ []
sole [] h = absurd (omega arith)
sole (e ∷ []) h = refl
sole (e ∷ f ∷ st) h = absurd (omega arith)

-- ---- the operands behind the first items

arity_few : (i : Item) → arity i ≤ 2
arity_few empty = omega arith
arity_few (events m) = omega arith
arity_few sequence = omega arith
arity_few choice = omega arith
arity_few repeat = omega arith

module _ (l : List Item) where
  -- those of the first i
  abbrev pub behind : ℕ → List Expression
  behind i = operands (take i l)

  behind_none : behind 0 ≡ []
  behind_none = push_none

  behind_suc : (i : ℕ) → i < length l → behind (suc i) ≡ push (get_or l i empty) (behind i)
  behind_suc i h = ap operands (take-suc l i empty h) ∙ push_more (take i l) (get_or l i empty)

  behind_more : (i : ℕ) → i < length l → behind (i + 1) ≡ push (get_or l i empty) (behind i)
  behind_more i h = ap behind (add-one i) ∙ behind_suc i h

  pub behind_all : behind (length l) ≡ operands l
  behind_all = ap operands (take-length l)

  -- no more than the items
  pub behind_few : (i : ℕ) → Postfix l → i ≤ length l → length (behind i) ≤ i
  behind_few zero p h = rw behind_none (omega arith)
  behind_few (suc i) p h =
      let less = behind_few i p (omega arith) in
      rw (behind_suc i h) (omega (arith, push_length (get_or l i empty) (behind i) (p.enough i (omega arith))))

  -- each item takes one of them at most
  behind_left : (i n : ℕ) → Postfix l → n ≤ length l → i ≤ n → length (behind i) ≤ length (behind n) + (n - i)
  behind_left i zero p k h = let z : i ≡ 0 = omega arith in rw z (omega arith)
  behind_left i (suc n) p k h =
      ⊎_elim
      (λ (q : i ≡ suc n). rw q (omega arith))
      (λ (q : i < suc n). rw (behind_suc n k) (omega (arith, behind_left i n p (omega arith) (omega arith), push_length (get_or l n empty) (behind n) (p.enough n (omega arith)), arity_few (get_or l n empty))))
      (eq-or-lt_of_le h)

  one_left : Postfix l → length (behind (length l)) ≡ 1
  one_left p = ap length behind_all ∙ p.one

  -- one is left at last, so there are never more than half as many as items
  behind_half : (i : ℕ) → Postfix l → i ≤ length l → length (behind i) ≤ 32
  behind_half i p h = omega (arith, p.few, one_left p, behind_few i p h, behind_left i (length l) p (omega arith) h)

  behind_counted : (i : ℕ) → Postfix l → i ≤ length l → Counted i (behind i)
  behind_counted zero p h = rw behind_none counted_none
  behind_counted (suc i) p h =
      rw (behind_suc i h, ← (add-one i)) (counted_push i (get_or l i empty) (behind i) (p.enough i (omega arith)) (behind_counted i p (omega arith)))

  free_grows : (i n : ℕ) → n ≤ length l → i ≤ n → free (behind i) ≤ free (behind n)
  free_grows i zero k h = let z : i ≡ 0 = omega arith in rw z (omega arith)
  free_grows i (suc n) k h =
      ⊎_elim
      (λ (q : i ≡ suc n). rw q (le_refl _))
      (λ (q : i < suc n). rw (behind_suc n k) (omega (arith, free_grows i n (omega arith) (omega arith), free_push (get_or l n empty) (behind n))))
      (eq-or-lt_of_le h)

  -- 64 items have at most 32 positions
  free_few : (i : ℕ) → Postfix l → i ≤ length l → free (behind i) ≤ 33
  free_few i p h = omega (arith, p.few, one_left p, free_grows i (length l) (omega arith) h, counted_free (length l) (behind (length l)) (behind_counted (length l) p (omega arith)))

  pub behind_sole : Postfix l → behind (length l) ≡ pattern_of l ∷ []
  behind_sole p = behind_all ∙ sole (operands l) p.one

  pub pattern_few : Postfix l → size (pattern_of l) ≤ 32
  pattern_few p = omega (arith, free_few (length l) p (omega arith), ap free (behind_sole p))

-- d is the draft of the first i items, and fits the arrays
pub record Passed (l : List Item) (i : ℕ) (d : Draft) : Type 0 where
  pub draft : DraftOf (behind l i) d
  pub depth : d.depth ≤ 32
  pub count : d.count ≤ 33
  pub after : length d.after ≡ 33
  pub holding : length d.holding ≡ 33

pub draft_fits : (l : List Item) (i : ℕ) (d : Draft) → Postfix l → i ≤ length l → DraftOf (behind l i) d → Passed l i d
draft_fits l i d p h b = record {
  draft = b;
  depth = omega (arith, draft_depth (behind l i) d b, behind_half l i p h);
  count = omega (arith, b.count, free_few l i p h);
  after = ap length b.after ∙ row_length _ 33;
  holding = ap length b.holding ∙ row_length _ 33;
}

pub none_passed : (l : List Item) (xs : List Operand) → length xs ≡ 34 → Passed l 0 (record { operands = xs; depth = 0; count = 1; after = row 33 (λ p. 0); holding = row 33 (λ e. 0) })
unfolding row
none_passed l xs h = record {
  draft = rw (behind_none l) (record { places = h; stack = listed_none _; count = refl; after = refl; holding = refl });
  depth = omega arith;
  count = omega arith;
  after = refl;
  holding = refl;
}

-- an item more: it finds its operands, and what it makes is laid in
pub finds : (l : List Item) (i : ℕ) (d : Draft) → Postfix l → i < length l → Passed l i d → arity (get_or l i empty) ≤ d.depth
finds l i d p h b = rw (draft_depth (behind l i) d b.draft) (p.enough i h)

pub one_passed : (l : List Item) (i : ℕ) (d : Draft) → Postfix l → i < length l → Passed l i d → (n at : ℕ) (m : Made)
    → n ≡ d.depth - arity (get_or l i empty) → at ≡ 2 ^ d.count → m ≡ made (get_or l i empty) at (operand d n) (operand d (n + 1)) → Passed l (i + 1) (laid n at m d)
one_passed l i d p h b n at m e f g =
    draft_fits l (i + 1) (laid n at m d) p (omega arith)
    (rw (behind_more l i h) (item_taken d (omega (arith, b.depth)) (get_or l i empty) (behind l i) (p.enough i h) b.draft n at m e f g))

-- all items
pub all_passed : (l : List Item) (d : Draft) (v : ℕ) → Postfix l → Passed l (length l) d → v ≡ cond (operand d 0).null 1 0 → table_of d v ≡ position_table (pattern_of l)
all_passed l d v p b q = table_made d (pattern_of l) v q (subst (λ (st : List Expression). DraftOf st d) (behind_sole l p) b.draft)
