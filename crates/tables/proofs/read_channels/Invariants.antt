-- The array holds the first events.
use Rattle.std.proofs.Common.{◌≡◌, ◌+◌, ◌*◌, ℕ}
use Rattle.fields.specs.Bits.{field_at}
use Rattle.rows.specs.Rows.{row, padded}
use Rattle.tables.proofs.read_channels.Given as goal

abbrev pub invariant-loop-i : goal.invariant-loop-i
invariant-loop-i l = l.event ≡ padded 64 (row l.i (λ (k : ℕ). field_at l.plan (l.at + 5 * k) 5))
