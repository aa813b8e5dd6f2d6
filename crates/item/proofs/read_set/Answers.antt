-- Refusals 10 and 12 of a set, by its two tests.
use mathlib.Core.Path.{refl}
use Rattle.plan.specs.Checks.{first}
use Rattle.item.proofs.read_set.Goals as goal

pub returns-then-is_cut-clause-refusal : goal.returns-then-is_cut-clause-refusal
unfolding first
returns-then-is_cut-clause-refusal c = rw (← c.is_cut.ensures, c.if-is_cut.true) refl

pub returns-then-is_strange-clause-refusal : goal.returns-then-is_strange-clause-refusal
unfolding first
returns-then-is_strange-clause-refusal c = rw (← c.is_cut.ensures, c.if-is_cut.false, ← c.events-set.ensures, ← c.is_strange.ensures, c.if-is_strange.true) refl

pub returns-clause-refusal : goal.returns-clause-refusal
unfolding first
returns-clause-refusal c = rw (← c.is_cut.ensures, c.if-is_cut.false, ← c.events-set.ensures, ← c.is_strange.ensures, c.if-is_strange.false) refl
