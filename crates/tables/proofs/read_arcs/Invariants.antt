-- The first arcs stand in the words from the place on.
use Rattle.std.proofs.Common.{◌+◌, ◌*◌, ℕ}
use Rattle.sections.specs.Layout.{arc_at}
use Rattle.words.specs.Words.{Packed}
use Rattle.tables.proofs.read_arcs.Given as goal

abbrev pub invariant-loop-i : goal.invariant-loop-i
invariant-loop-i l = Packed (λ (k : ℕ). arc_at l.plan l.width (l.at + (16 + l.width) * k)) l.place l.i l.fn.words l.words
