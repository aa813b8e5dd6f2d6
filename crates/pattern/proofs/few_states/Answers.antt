-- The positions are those of the pattern, and so are their states.
use mathlib.Core.Path.{◌≡◌, refl, ap, ◌∙◌}
use mathlib.Core.Bool.{not}
use Prim.Native.Nat.{ℕ}
use Rattle.std.proofs.Common.{Option, Some, None, is_some}
use Rattle.arrayvec.specs.ArrayVec.{ArrayVec}
use Rattle.expressions.specs.Items.{pattern_of}
use Rattle.positions.proofs.Whole.{pattern_few}
use Rattle.automaton.specs.Tables.{Of, listed}
use Rattle.pattern.specs.Refusals.{over_limit}
use Rattle.pattern.proofs.few_states.Goals as goal
use Rattle.pattern.proofs.few_states.Goals.{After-positions_of-positions}

-- the positions are those of the pattern
of : (c : After-positions_of-positions) → Of (pattern_of c.args.items.now.items) c.positions_of-positions.result
of c = record { few = pattern_few c.args.items.now.items c.requires; table = c.positions_of-positions.ensures }

within_limit : (o : Option (ArrayVec ℕ)) → is_some o ≡ not (over_limit (listed o))
within_limit None = refl
within_limit (Some sets) = refl

pub states_of-requires : goal.states_of-requires
states_of-requires c = (_, (_, of (goal.at.states_of-requires c).After-positions_of-positions))

pub returns : goal.returns
returns c =
    c.is_some.ensures ∙ within_limit c.states_of.result
    ∙ ap (λ o. not (over_limit o)) (c.states_of.ensures (pattern_of c.args.items.now.items) _ (of (goal.at.returns c).After-positions_of-positions))
