use Rattle.std.proofs.Common.{◌≡◌}
use Rattle.shown.proofs.print_row.Given as goal

-- as many places were printed as were gone through
abbrev pub invariant-loop-set : goal.invariant-loop-set
invariant-loop-set g l = l.printed ≡ l.set-index
