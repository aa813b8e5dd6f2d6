-- The arc of a turn: its parts are numbers of a byte.
use Rattle.std.proofs.Common.{◌≡◌, ℕ, ◌+◌, ◌*◌, ◌/◌, ◌%◌, ◌^◌, ◌≤◌, ◌<◌, List, length, arith}
use lib.Pow.{pow_mono}
use Rattle.fields.specs.Bits.{field_at}
use Rattle.fields.proofs.Laws.{field_lt}
use Rattle.sections.specs.Plan.{Arc}
use Rattle.sections.specs.Layout.{arc_at}
use Rattle.words.proofs.Words.{packed_more}
use Rattle.tables.proofs.Rows.{stride, arc_parts}
use Rattle.tables.proofs.read_arcs.Goals as goal

module _ (b : List ℕ) (w at i n : ℕ) where
  -- where it stands, and what stands there
  abbrev stands_at : ℕ
  stands_at = at + (16 + w) * i

  abbrev next : Arc
  next = arc_at b w stands_at

  record Part (arc : ℕ) : Type 0 where
    from : arc / 2 ^ (8 + w) ≡ next.from
    to : arc / 2 ^ w % 2 ^ 8 ≡ next.to
    label : arc % (1 * 2 ^ w % 2 ^ 64) ≡ next.label
    from_fits : next.from < 2 ^ 8
    to_fits : next.to < 2 ^ 8
    label_fits : next.label < 2 ^ 8

  parts : (arc : ℕ) → arc ≡ field_at b stands_at (16 + w) → i < n → w ≤ 8 → n ≤ 256 → at + (16 + w) * n ≤ 8 * length b → Part arc
  parts arc e h small few held =
      let room = stride (16 + w) i n h (omega arith) few in
      let all = arc_parts b w stands_at arc small (omega (arith, room)) e in
      record {
        from = all.0;
        to = all.1;
        label = all.2;
        from_fits = field_lt b stands_at 8 (omega (arith, room));
        to_fits = field_lt b (stands_at + 8) 8 (omega (arith, room));
        label_fits = omega (arith, field_lt b (stands_at + 16) w (omega (arith, room)), pow_mono {i = w} {j = 8} (omega arith));
      }

pub overflow_add-words : goal.overflow_add-words
overflow_add-words c =
    let a = c.args in
    let p = parts a.plan.now a.width a.at c.loop-i.i a.count c.field-arc.result c.field-arc.ensures (omega arith) (omega arith) (omega arith) (omega arith) in
    omega (arith, p.from, p.from_fits)

pub overflow_add-words-in-loop-i : goal.overflow_add-words-in-loop-i
overflow_add-words-in-loop-i c =
    let a = c.args in
    let p = parts a.plan.now a.width a.at c.loop-i.i a.count c.field-arc.result c.field-arc.ensures (omega arith) (omega arith) (omega arith) (omega arith) in
    omega (arith, p.from, p.from_fits, p.label, p.label_fits)

pub overflow_cast-words : goal.overflow_cast-words
overflow_cast-words c =
    let a = c.args in
    let p = parts a.plan.now a.width a.at c.loop-i.i a.count c.field-arc.result c.field-arc.ensures (omega arith) (omega arith) (omega arith) (omega arith) in
    omega (arith, p.from, p.from_fits, p.label, p.label_fits)

pub loop-i-preserved : goal.loop-i-preserved
loop-i-preserved c =
    let a = c.args in
    let loop = c.loop-i in
    let p = parts a.plan.now a.width a.at c.loop-i.i a.count c.field-arc.result c.field-arc.ensures (omega arith) (omega arith) (omega arith) (omega arith) in
    packed_more _ _ _ loop.i loop.words _ _ _ loop.invariant (omega (arith, loop.invariant.long, c.requires)) p.from p.to p.label (omega (arith, p.from, p.from_fits)) (omega arith)
