-- The bits of the field are taken from its end.
use Rattle.std.proofs.Common.{◌≡◌, ◌∙◌, ℕ, ◌+◌, ◌-◌, ◌*◌, ◌^◌, ◌<◌, add-one, arith, sym, ap, length}
use native.Mathlib.Nat.{add-zero, pow-suc}
use lib.Pow.{pow_mono}
use Rattle.fields.specs.Bits.{field_at}
use Rattle.fields.proofs.Laws.{events_in, events_none, events_more, field_last, field_others, events_all}
use Rattle.fields.proofs.events.Goals as goal

pub loop-init : goal.loop-init
loop-init c = (c.field-rest.ensures, sym (events_none c.args.plan.now (c.args.at + 31)), omega arith)

pub overflow_mul-set : goal.overflow_mul-set
overflow_mul-set c = omega (arith, pow_mono {i = c.loop.counter} {j = 30} (omega arith))

pub overflow_add-set : goal.overflow_add-set
overflow_add-set c = omega (arith, pow_mono {i = c.loop.counter} {j = 30} (omega arith))

pub loop-preserved : goal.loop-preserved
loop-preserved c =
    let bs = c.args.plan.now in
    let at = c.args.at in
    let loop = c.loop in
    let k = 31 - (loop.counter + 1) in
    let within : at + k < 8 * length bs = omega arith in
    let rest : loop.rest ≡ field_at bs at (k + 1) = loop.invariant.0 ∙ ap (field_at bs at) (omega arith) in
    let set : loop.set ≡ events_in bs (at + k + 1) loop.counter = loop.invariant.1 ∙ ap (λ (p : ℕ). events_in bs p loop.counter) (omega arith) in
    let p : 2 ^ (loop.counter + 1) ≡ 2 ^ loop.counter * 2 = rw (add-one, pow-suc) in (
      rw rest (field_others bs at k within),
      rw (rest, set, field_last bs at k within) (sym (events_more bs (at + k) loop.counter within)),
      omega (arith, loop.invariant.2),
    )

pub overflow_mul-result : goal.overflow_mul-result
overflow_mul-result c = omega (arith, pow_mono {i = c.loop.counter} {j = 31} (omega arith))

pub overflow_cast-result : goal.overflow_cast-result
overflow_cast-result c = omega (arith, pow_mono {i = c.loop.counter} {j = 31} (omega arith))

pub returns : goal.returns
returns c =
    let args = c.args in
    let e : c.loop.counter ≡ 31 = omega arith in
    rw (events_all args.plan.now args.at, c.loop.invariant.1, e, add-zero)
