-- The field of the bytes read so far.
use Rattle.std.proofs.Common.{◌≡◌, ◌*◌, ◌/◌}
use Rattle.fields.specs.Bits.{field_at}
use Rattle.fields.proofs.field.Given as goal

abbrev pub invariant-loop-byte : goal.invariant-loop-byte
invariant-loop-byte l = l.acc ≡ field_at l.plan (8 * (l.at / 8)) (8 * l.byte-index)
