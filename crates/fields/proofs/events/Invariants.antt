-- The field of the bits that are left, and the events of the bits after them.
use Rattle.std.proofs.Common.{◌≡◌, ◌+◌, ◌-◌, ◌^◌, ◌<◌}
use Rattle.fields.specs.Bits.{field_at}
use Rattle.fields.proofs.Laws.{events_in}
use Rattle.fields.proofs.events.Given as goal

abbrev pub invariant-loop : goal.invariant-loop
invariant-loop l =
    (l.rest ≡ field_at l.plan l.at (31 - l.counter)) × (l.set ≡ events_in l.plan (l.at + (31 - l.counter)) l.counter) × (l.set < 2 ^ l.counter)
