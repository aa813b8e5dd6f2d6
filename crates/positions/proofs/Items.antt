-- One item more: the draft that the code makes is that of the operands. Assumes nothing.
use mathlib.Core.Path.{◌≡◌, refl, sym, ap, ap₂, ◌∙◌}
use mathlib.Core.Bool.{false}
use mathlib.Core.List.{List, [], ◌∷◌}
use Prim.Native.Nat.{ℕ, suc, ◌+◌, ◌-◌, ◌^◌, ◌≤◌, ◌<◌}
use native.Mathlib.Omega.{arith}
use lib.ListN.{length, get_or, set, length-set}
use Rattle.rows.specs.Rows.{row, place}
use Rattle.expressions.specs.Expression.{Expression}
use Rattle.expressions.specs.declared.Item.{Item}
use Rattle.expressions.specs.declared.Item.TheVariants.{Empty as empty, Events as events, Sequence as sequence, Choice as choice, Repeat as repeat}
use Rattle.expressions.specs.Items.{arity, push}
use Rattle.expressions.specs.Positions.{size}
use Rattle.expressions.specs.Stack.{free, Operand as Masks, masks, operand_at, follows, holdings, both_of, either_of, many_of}
use Rattle.expressions.proofs.Stack as stack
use Rattle.positions.specs.declared.Operand.{Operand}
use Rattle.positions.specs.declared.Made.{Made}
use Rattle.positions.specs.Making.{nothing, operand_of, made, gains}
use Rattle.positions.proofs.Arrays.{listed, listed_push, listed_top, listed_length}
use Rattle.positions.proofs.Gains.{row_gains, row_stays}

-- what the code has behind some of the items
pub record Draft : Type 0 where
  pub operands : List Operand
  pub depth : ℕ
  pub count : ℕ
  pub after : List ℕ
  pub holding : List ℕ

-- d is what the items build that leave the operands st
pub record DraftOf (st : List Expression) (d : Draft) : Type 0 where
  pub places : length d.operands ≡ 34
  pub stack : listed d.operands d.depth ≡ masks st
  pub count : d.count ≡ free st
  pub after : d.after ≡ row 33 (follows st)
  pub holding : d.holding ≡ row 33 (holdings st)

-- ---- the operands of a draft are as many as those of its items

masks_length : (st : List Expression) → length (masks st) ≡ length st
masks_length [] = refl
masks_length (r ∷ st) = ap suc (masks_length st)

pub draft_depth : (st : List Expression) (d : Draft) → DraftOf st d → d.depth ≡ length st
draft_depth st d b = sym (listed_length d.operands d.depth) ∙ ap length b.stack ∙ masks_length st

-- ---- what an item makes is laid in

-- the operand at a place
abbrev pub operand : Draft → ℕ → Operand
operand d n = get_or d.operands n nothing

-- the place of the oldest operand that an item takes, where its own will be
abbrev base : Item → Draft → ℕ
base i d = d.depth - arity i

-- m is laid at the place n, and a new position has the weight `at`
abbrev pub laid : ℕ → ℕ → Made → Draft → Draft
laid n at m d = record {
  operands = set d.operands n (record { null = m.null; first = m.first; last = m.last });
  depth = n + 1;
  count = d.count + m.size;
  after = row 33 (gains (place d.after) m.ends m.begins);
  holding = row 33 (gains (place d.holding) m.events at);
}

-- what the item i makes is laid there
abbrev takes : Item → Draft → Draft
takes i d = laid (base i d) (2 ^ d.count) (made i (2 ^ d.count) (operand d (base i d)) (operand d (base i d + 1))) d

module _ (d : Draft) (h : d.depth < 33) where
  module _ (st : List Expression) (b : DraftOf st d) (n : ℕ) (l : n ≤ d.depth) (o : Operand) where
    places : length (set d.operands n o) ≡ 34
    places = length-set d.operands n o ∙ b.places

    pushed : (m : Masks) (ms : List Masks) → operand_of o ≡ m → listed d.operands n ≡ ms → listed (set d.operands n o) (n + 1) ≡ m ∷ ms
    pushed m ms e k = listed_push d.operands n o (omega (arith, b.places)) ∙ ap₂ (λ x y. x ∷ y) e k

  -- an item that takes none is laid on top
  all : (st : List Expression) → DraftOf st d → listed d.operands (d.depth - 0) ≡ masks st
  all st b = let z : d.depth - 0 ≡ d.depth = omega arith in ap (listed d.operands) z ∙ b.stack

  empty_taken : (st : List Expression) → DraftOf st d → DraftOf (push empty st) (takes empty d)
  empty_taken st b = record {
    places = places st b (d.depth - 0) (omega arith) _;
    stack = pushed st b (d.depth - 0) (omega arith) _ _ (masks st) refl (all st b);
    count = omega (arith, b.count, stack.free_empty st);
    after = row_stays 33 d.after (follows st) _ 0 b.after (stack.follows_empty st);
    holding = row_stays 33 d.holding (holdings st) _ _ b.holding (stack.holdings_empty st);
  }

  events_taken : (m : ℕ) (st : List Expression) → DraftOf st d → DraftOf (push (events m) st) (takes (events m) d)
  events_taken m st b =
      let at : 2 ^ d.count ≡ 2 ^ free st = ap (λ (k : ℕ). 2 ^ k) b.count in record {
        places = places st b (d.depth - 0) (omega arith) _;
        stack = pushed st b (d.depth - 0) (omega arith) _ _ (masks st) (ap (λ (k : ℕ). record { null = false; first = k; last = k }) at) (all st b);
        count = ap (λ (k : ℕ). k + 1) b.count;
        after = row_stays 33 d.after (follows st) _ 0 b.after (stack.follows_events m st);
        holding = row_gains 33 d.holding (holdings st) (holdings (push (events m) st)) m m _ _ b.holding refl at (stack.holdings_events m st);
      }

  -- the two newest operands, and those below
  pair : (x y : Expression) (st : List Expression) → DraftOf (y ∷ x ∷ st) d
      → (operand_of (operand d (d.depth - 2)) ≡ operand_at (free st) x) × (operand_of (operand d (d.depth - 2 + 1)) ≡ operand_at (free st + size x) y)
      × (listed d.operands (d.depth - 2) ≡ masks st)
  pair x y st b =
      let two = draft_depth (y ∷ x ∷ st) d b in
      let one = listed_top d.operands d.depth (d.depth - 2 + 1) _ _ (omega arith) b.stack in
      let other = listed_top d.operands (d.depth - 2 + 1) (d.depth - 2) _ _ (omega arith) one.1 in
      (other.0, one.0, other.1)

  sequence_taken : (x y : Expression) (st : List Expression) → DraftOf (y ∷ x ∷ st) d → DraftOf (push sequence (y ∷ x ∷ st)) (takes sequence d)
  sequence_taken x y st b =
      let t = pair x y st b in record {
        places = places _ b (d.depth - 2) (omega arith) _;
        stack = pushed _ b (d.depth - 2) (omega arith) _ _ (masks st) (ap₂ both_of t.0 t.1) t.2;
        count = omega (arith, b.count, stack.free_sequence y x st);
        after = row_gains 33 d.after (follows (y ∷ x ∷ st)) _ _ _ _ _ b.after (ap (λ (m : Masks). m.last) t.0) (ap (λ (m : Masks). m.first) t.1) (stack.follows_sequence y x st);
        holding = row_stays 33 d.holding (holdings (y ∷ x ∷ st)) _ _ b.holding (stack.holdings_sequence y x st);
      }

  choice_taken : (x y : Expression) (st : List Expression) → DraftOf (y ∷ x ∷ st) d → DraftOf (push choice (y ∷ x ∷ st)) (takes choice d)
  choice_taken x y st b =
      let t = pair x y st b in record {
        places = places _ b (d.depth - 2) (omega arith) _;
        stack = pushed _ b (d.depth - 2) (omega arith) _ _ (masks st) (ap₂ either_of t.0 t.1) t.2;
        count = omega (arith, b.count, stack.free_choice y x st);
        after = row_stays 33 d.after (follows (y ∷ x ∷ st)) _ 0 b.after (stack.follows_choice y x st);
        holding = row_stays 33 d.holding (holdings (y ∷ x ∷ st)) _ _ b.holding (stack.holdings_choice y x st);
      }

  repeat_taken : (x : Expression) (st : List Expression) → DraftOf (x ∷ st) d → DraftOf (push repeat (x ∷ st)) (takes repeat d)
  repeat_taken x st b =
      let one = draft_depth (x ∷ st) d b in
      let t = listed_top d.operands d.depth (d.depth - 1) _ _ (omega arith) b.stack in record {
        places = places _ b (d.depth - 1) (omega arith) _;
        stack = pushed _ b (d.depth - 1) (omega arith) _ _ (masks st) (ap many_of t.0) t.1;
        count = omega (arith, b.count);
        after = row_gains 33 d.after (follows (x ∷ st)) _ _ _ _ _ b.after (ap (λ (m : Masks). m.last) t.0) (ap (λ (m : Masks). m.first) t.0) (stack.follows_repeat x st);
        holding = row_stays 33 d.holding (holdings (x ∷ st)) _ _ b.holding (λ e. refl);
      }

  taken : (i : Item) (st : List Expression) → arity i ≤ length st → DraftOf st d → DraftOf (push i st) (takes i d)
  taken empty st e b = empty_taken st b
  taken (events m) st e b = events_taken m st b
  taken sequence [] e b = absurd (omega arith)
  taken sequence (y ∷ []) e b = absurd (omega arith)
  taken sequence (y ∷ x ∷ st) e b = sequence_taken x y st b
  taken choice [] e b = absurd (omega arith)
  taken choice (y ∷ []) e b = absurd (omega arith)
  taken choice (y ∷ x ∷ st) e b = choice_taken x y st b
  taken repeat [] e b = absurd (omega arith)
  taken repeat (x ∷ st) e b = repeat_taken x st b

  -- an item that finds its operands, as the code takes it
  pub item_taken : (i : Item) (st : List Expression) → arity i ≤ length st → DraftOf st d → (n at : ℕ) (m : Made)
      → n ≡ d.depth - arity i → at ≡ 2 ^ d.count → m ≡ made i at (operand d n) (operand d (n + 1)) → DraftOf (push i st) (laid n at m d)
  item_taken i st e b n at m p q k = rw (k, q, p) (taken i st e b)

pub size_few : (i : Item) (at : ℕ) (older newer : Operand) → (made i at older newer).size ≤ 1
size_few empty at older newer = omega arith
size_few (events m) at older newer = omega arith
size_few sequence at older newer = omega arith
size_few choice at older newer = omega arith
size_few repeat at older newer = omega arith
