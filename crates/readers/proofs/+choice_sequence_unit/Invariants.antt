-- Fewer bytes remain at each call, or the same and a smaller part.
use Rattle.std.proofs.Common.{◌+◌, ◌-◌, ◌*◌, length}
use Rattle.grammar.specs.Ways.{choices, sequences}
use Rattle.readers.proofs.Chains.{Sofar}
use Rattle.readers.proofs.+choice_sequence_unit.Given as goal

abbrev pub decreases-choice : goal.decreases-choice
decreases-choice l = 3 * (length l.text.now - l.from) + 2

abbrev pub decreases-sequence : goal.decreases-sequence
decreases-sequence l = 3 * (length l.text.now - l.from) + 1

abbrev pub decreases-unit : goal.decreases-unit
decreases-unit l = 3 * (length l.text.now - l.at)

abbrev pub invariant-choice-loop-order : goal.invariant-choice-loop-order
invariant-choice-loop-order l = Sofar choices l.text l.from l.fn.order.items l.order.items l.at

abbrev pub decreases-choice-loop-order : goal.decreases-choice-loop-order
decreases-choice-loop-order l = length l.text - l.at

abbrev pub invariant-sequence-loop-order : goal.invariant-sequence-loop-order
invariant-sequence-loop-order l = Sofar sequences l.text l.from l.fn.order.items l.order.items l.at

abbrev pub decreases-sequence-loop-order : goal.decreases-sequence-loop-order
decreases-sequence-loop-order l = length l.text - l.at
