-- `read_jobs` fills its arrays from the front.
use Rattle.std.proofs.Common.{◌≡◌, ℕ, ◌+◌, ◌*◌, ◌^◌, ◌≤◌, ◌<◌, List, length, refl, arith}
use Rattle.fields.specs.Bits.{field_at}
use Rattle.fields.proofs.Laws.{field_lt}
use Rattle.sections.specs.Plan.{Job}
use Rattle.rows.specs.Rows.{row, padded}
use Rattle.rows.proofs.Rows.{column_more}
use Rattle.tables.proofs.Rows.{jobs_read}
use Rattle.tables.proofs.read_jobs.Invariants.{said}
use Rattle.tables.proofs.read_jobs.Goals as goal

-- a field of so many bits is small, wherever it stands
below : (b : List ℕ) (at width : ℕ) {n : ℕ} → n ≡ field_at b at width → at + width ≤ 8 * length b → n < 2 ^ width
below b at width e h = rw e (field_lt b at width h)

pub loop-i-init : goal.loop-i-init
unfolding padded row
loop-i-init c = record { size = refl; entry = refl; exit = refl; standing = refl }

pub overflow_cast-size : goal.overflow_cast-size
overflow_cast-size c = omega (arith, below _ _ _ c.field.ensures (omega arith))

pub overflow_cast-entry : goal.overflow_cast-entry
overflow_cast-entry c = omega (arith, below _ _ _ c.field-in-loop-i.ensures (omega arith))

pub overflow_cast-exit : goal.overflow_cast-exit
overflow_cast-exit c = omega (arith, below _ _ _ c.field-in-loop-i-2.ensures (omega arith))

pub overflow_cast-standing : goal.overflow_cast-standing
overflow_cast-standing c = omega (arith, below _ _ _ c.field-in-loop-i-3.ensures (omega arith))

pub loop-i-preserved : goal.loop-i-preserved
loop-i-preserved c =
    let args = c.args in
    let loop = c.loop-i in
    let f = said args.plan.now args.at in
    let h : c.loop-i.i < 16 = omega arith in
    record {
      size = rw loop.invariant.size (column_more 16 (λ (j : Job). j.size) f loop.i c.field.result h c.field.ensures);
      entry = rw loop.invariant.entry (column_more 16 (λ (j : Job). j.entry) f loop.i c.field-in-loop-i.result h c.field-in-loop-i.ensures);
      exit = rw loop.invariant.exit (column_more 16 (λ (j : Job). j.exit) f loop.i c.field-in-loop-i-2.result h c.field-in-loop-i-2.ensures);
      standing = rw loop.invariant.standing (column_more 16 (λ (j : Job). j.standing) f loop.i c.field-in-loop-i-3.result h c.field-in-loop-i-3.ensures);
    }

pub returns : goal.returns
returns c =
    let args = c.args in
    let loop = c.loop-i in
    let e : c.loop-i.i ≡ c.args.count = omega arith in
    jobs_read (said args.plan.now args.at) loop.i args.count e loop.size loop.entry loop.exit loop.standing loop.invariant.size loop.invariant.entry loop.invariant.exit loop.invariant.standing
