-- The members that are not left have gained.
use Rattle.positions.proofs.Gains.{Gaining}
use Rattle.positions.proofs.gain.Given as goal

abbrev pub invariant-loop-p : goal.invariant-loop-p
invariant-loop-p l = Gaining l.initial.sets l.m l.x l.p-iterator.left l.sets
