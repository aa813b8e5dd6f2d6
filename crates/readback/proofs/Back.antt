-- Nothing is lost: what the arrays hold tells the plan and its items. Assumes nothing.
use mathlib.Core.Path.{◌≡◌, refl, sym, ap, ap₂, ◌∙◌}
use mathlib.Core.List.Memᴰ
use mathlib.Core.List.{List, Memᴰ}
use Prim.Native.Nat.{ℕ, ◌+◌, ◌<◌, ◌≤◌}
use native.Mathlib.Omega.{arith}
use lib.ListN.{length, get_or, take}
use Rattle.rows.specs.Rows.{row, padded, place}
use Rattle.rows.proofs.Rows.{row_length, row_take, column_at, row_at, row_ext, row_places}
use Rattle.rows.proofs.Members.{at_each}
use Rattle.sections.specs.declared.Kind.{Kind}
use Rattle.sections.specs.declared.Kind.TheVariants.{Every, None}
use Rattle.sections.specs.Plan as plan
use Rattle.sections.specs.Plan.{Arc, Plan, arc_at, no_arc}
use Rattle.sections.specs.Tables.{jobs_in, channels_in}
use Rattle.sections.proofs.Kept.{jobs_kept, channels_kept}
use Rattle.plan.specs.Legal.{Legal}
use Rattle.plan.specs.Refusals.{arcs, links}
use Rattle.expressions.specs.declared.Item.{Item}
use Rattle.expressions.specs.declared.Item.TheVariants.{Empty as empty, Events as events, Sequence as sequence, Choice as choice, Repeat as repeat}
use Rattle.expressions.specs.Items.{arity, operands}
use Rattle.item.specs.Faults.{item_of}
use Rattle.item.specs.Found.{kind_of, set_of}
use Rattle.items.specs.Postfix.{Postfix}
use Rattle.items.specs.Tables.{items_on}
use Rattle.words.specs.Words.{unpacked, arcs_on, arc_on}
use Rattle.words.proofs.Words.{unpack_word}
use Rattle.readback.specs.Tables.{kind_number, word, word_at, kinds_of, sets_of, Tables, tables_of}
use Rattle.readback.proofs.Arcs.{step_at, call_at, accept_at}

-- the plan that arrays tell, and the items of its pattern, of which there are so many
abbrev pub plan_told : Tables → Plan
plan_told t = record {
  nodes = place t.counts 1;
  kind = plan.kind_of (place t.counts 6);
  items = place t.counts 7;
  alphabet = place t.counts 8;
  jobs = jobs_in (record { size = t.size; entry = t.entry; exit = t.exit; standing = t.standing; count = place t.counts 0 });
  steps = arcs_on t.arcs 0 (place t.counts 2);
  channels = channels_in (record { event = t.event; count = place t.counts 5 });
  calls = arcs_on t.arcs 256 (place t.counts 3);
  accepts = arcs_on t.arcs 384 (place t.counts 4);
}

abbrev pub items_told : Tables → (count : ℕ) → List Item
items_told t count = items_on count t.kinds t.sets

kind_back : (k : Kind) → plan.kind_of (kind_number k) ≡ k
kind_back Every = refl
kind_back None = refl

-- the ends of an arc fit their fields
abbrev Small : Arc → Type 0
Small a = (a.from < 256) × (a.to < 256)

module _ (p : Plan) (legal : Legal p) where
  small : (a : Arc) → Memᴰ a (arcs p) → Small a
  small a m = let i = legal.inside a m in (omega (arith, i.from, legal.nodes), omega (arith, i.to.node, legal.nodes))

  -- the place k tells the arc whose word stands there
  told_at : (k : ℕ) (a : Arc) → k < 512 → word_at p k ≡ word a → Small a → unpacked (place (row 512 (word_at p)) k) ≡ a
  told_at k a h e s = ap unpacked (row_at (word_at p) 512 k 0 h ∙ e) ∙ unpack_word a.from a.to a.label s.0 s.1

  -- so each of a list of arcs that stand from a place on
  section : (l : List Arc) (at : ℕ) → at + length l ≤ 512 → ((i : ℕ) → i < length l → word_at p (at + i) ≡ word (arc_at l i))
      → ((a : Arc) → Memᴰ a l → Small a) → arcs_on (row 512 (word_at p)) at (length l) ≡ l
  section l at room words each =
      row_ext (arc_on (row 512 (word_at p)) at) (arc_at l) (length l)
      (λ i h. told_at (at + i) (arc_at l i) (omega arith) (words i h) (at_each no_arc Small (omega arith, omega arith) l each i))
      ∙ row_places no_arc l

  pub steps_told : arcs_on (row 512 (word_at p)) 0 (length p.steps) ≡ p.steps
  steps_told =
      section p.steps 0 (omega (arith, legal.steps))
      (λ i h. let q : 0 + i ≡ i = omega arith in ap (word_at p) q ∙ step_at p i (omega (arith, legal.steps)))
      (λ a m. small a (Memᴰ.append_left (links p) m))

  pub calls_told : arcs_on (row 512 (word_at p)) 256 (length p.calls) ≡ p.calls
  calls_told =
      section p.calls 256 (omega (arith, legal.calls)) (λ i h. call_at p i (omega (arith, legal.calls)))
      (λ a m. small a (Memᴰ.append_right p.steps (Memᴰ.append_left p.accepts m)))

  pub accepts_told : arcs_on (row 512 (word_at p)) 384 (length p.accepts) ≡ p.accepts
  accepts_told =
      section p.accepts 384 (omega (arith, legal.accepts)) (λ i h. accept_at p i)
      (λ a m. small a (Memᴰ.append_right p.steps (Memᴰ.append_right p.calls m)))

  -- the arrays of a legal plan tell it
  pub plan_told_lem : (l : List Item) → plan_told (tables_of p l) ≡ p
  plan_told_lem l i = record {
    nodes = p.nodes;
    kind = kind_back p.kind i;
    items = p.items;
    alphabet = p.alphabet;
    jobs = jobs_kept p.jobs i;
    steps = steps_told i;
    channels = channels_kept p.channels i;
    calls = calls_told i;
    accepts = accepts_told i;
  }

-- ---- items in two arrays

item_back : (x : Item) → item_of (kind_of x) (set_of x) ≡ x
item_back empty = refl
item_back (events m) = refl
item_back sequence = refl
item_back choice = refl
item_back repeat = refl

-- items that are listed in two arrays, and taken back as `items::Arrays` has them, are the same
pub listed_back : (l : List Item) → items_on (length l) (padded 64 (kinds_of l)) (padded 64 (sets_of l)) ≡ l
listed_back l =
    row_ext _ (λ i. get_or l i empty) (length l)
    (λ i h. ap₂ item_of (column_at 64 kind_of empty refl l i) (column_at 64 set_of empty refl l i) ∙ item_back (get_or l i empty))
    ∙ row_places empty l

-- and what `items::Arrays` has is in postfix form where the arrays say so place by place
pub listed_postfix : (item : ℕ → Item) (count : ℕ) → count ≤ 64 → ((i : ℕ) → i < count → arity (item i) ≤ length (operands (row i item)))
    → length (operands (row count item)) ≡ 1 → Postfix (row count item)
listed_postfix item count few enough one = record {
  few = rw (row_length item count) few;
  enough = λ i h. let k : i < count = omega (arith, h, row_length item count) in rw (row_at item count i empty k, before i k) (enough i k);
  one = one;
}
  where
    before : (i : ℕ) → i < count → take i (row count item) ≡ row i item
    before i k =
        sym (row_take empty (row count item) i (omega (arith, k, row_length item count)))
        ∙ row_ext (λ j. get_or (row count item) j empty) item i (λ j l. row_at item count j empty (omega arith))

-- so the arrays of a plan tell its items
pub items_told_lem : (p : Plan) (l : List Item) → items_told (tables_of p l) (length l) ≡ l
items_told_lem p l = listed_back l
