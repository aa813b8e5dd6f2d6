-- `read_channels` fills its array from the front.
use Rattle.std.proofs.Common.{◌≡◌, ℕ, ◌+◌, ◌*◌, refl, arith}
use Rattle.fields.specs.Bits.{field_at}
use Rattle.fields.proofs.Laws.{field_lt}
use Rattle.rows.specs.Rows.{row, padded}
use Rattle.rows.proofs.Rows.{padded_row_more}
use Rattle.tables.proofs.Rows.{channels_read}
use Rattle.tables.proofs.read_channels.Goals as goal

pub loop-i-init : goal.loop-i-init
unfolding padded row
loop-i-init c = refl

pub overflow_cast-event : goal.overflow_cast-event
overflow_cast-event c =
    let args = c.args in
    omega (arith, c.field.ensures, field_lt args.plan.now (args.at + 5 * c.loop-i.i) 5 (omega arith))

pub loop-i-preserved : goal.loop-i-preserved
loop-i-preserved c =
    let args = c.args in
    let loop = c.loop-i in
    let f : ℕ → ℕ = λ (k : ℕ). field_at args.plan.now (args.at + 5 * k) 5 in
    rw loop.invariant (padded_row_more 64 f loop.i c.field.result (omega arith) c.field.ensures)

pub returns : goal.returns
returns c =
    let args = c.args in
    let f : ℕ → ℕ = λ (k : ℕ). field_at args.plan.now (args.at + 5 * k) 5 in
    let e : c.loop-i.i ≡ c.args.count = omega arith in
    channels_read f c.loop-i.i args.count e c.loop-i.event c.loop-i.invariant
