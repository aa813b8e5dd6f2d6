-- `property_under` numbers the states and hands them over with their moves, or answers 16.
use Rattle.std.proofs.Common.{◌≡◌, ◌∙◌, ℕ, List, [], ◌∷◌, ◌≤◌, length, sym, ap}
use mathlib.Core.Path.{subst}
use mathlib.Core.Option.{Option, some}
use Rattle.rows.specs.Rows.{row, place}
use Rattle.expressions.specs.Expression.{Expression}
use Rattle.expressions.specs.Items.{pattern_of}
use Rattle.positions.specs.declared.Positions.{Positions}
use Rattle.positions.proofs.Whole.{pattern_few}
use Rattle.automaton.specs.Automaton.{states_of, table_of, accepting}
use Rattle.automaton.specs.Tables.{Of, Apart}
use Rattle.automaton.proofs.Language.{states_some, states_apart}
use Rattle.readback.specs.Property.{property, property_with, limit_of}
use Rattle.readback.proofs.property_under.Goals as goal
use Rattle.readback.proofs.property_under.Goals.{After-positions_of-positions, In-Some}

-- the positions are those of the pattern
of : (c : After-positions_of-positions) → Of (pattern_of c.args.items.now.items) c.positions_of-positions.result
of c = record { few = pattern_few c.args.items.now.items c.requires; table = c.positions_of-positions.ensures }

-- the sets are its states
abbrev pattern : In-Some → Expression
pattern c = pattern_of c.args.items.now.items

positions : (c : In-Some) → Of (pattern c) c.positions_of-positions.result
positions c = record { few = pattern_few c.args.items.now.items c.requires; table = c.positions_of-positions.ensures }

listing : (c : In-Some) → some c.in-Some.sets.items ≡ states_of (pattern c) c.args.alphabet
listing c = c.in-Some.ensures (pattern c) _ (positions c)

few : (c : In-Some) → length c.in-Some.sets.items ≤ 64
few c = (states_some (pattern c) c.args.alphabet c.in-Some.sets.items (sym (listing c))).1

apart : (c : In-Some) → Apart c.in-Some.sets.items
apart c = states_apart (pattern c) c.args.alphabet c.in-Some.sets.items (sym (listing c))

pub states_of-requires : goal.states_of-requires
states_of-requires c = (_, (_, of (goal.at.states_of-requires c).After-positions_of-positions))

pub returns-in_default : goal.returns-in_default
returns-in_default c =
    let r = pattern_of c.args.items.now.items in
    let over = c.in_default.ensures r _ (of (goal.at.returns-in_default c).After-positions_of-positions) in
    let before = property c.args.values.now c.args.states.now c.args.moves.now in
    (ap limit_of over, ap (λ (o : Option (List ℕ)). property_with r c.args.alphabet o before) over)

pub accepting_of-accepting-requires : goal.accepting_of-accepting-requires
accepting_of-accepting-requires c = rw c.deref.ensures.0 (few (goal.at.accepting_of-accepting-requires c).In-Some)

pub list_states-requires : goal.list_states-requires
list_states-requires c = rw c.deref-2.ensures.0 (few (goal.at.list_states-requires c).In-Some)

pub moves_of-requires : goal.moves_of-requires
moves_of-requires c =
    let s = (goal.at.moves_of-requires c).In-Some in
    (rw c.deref-3.ensures.0 (few s), subst Apart (sym c.deref-3.ensures.0) (apart s), (_, (_, positions s)))

pub returns : goal.returns
returns c =
    let s = (goal.at.returns c).In-Some in
    let r = pattern s in
    let es = c.in-Some.sets.items in
    let ends = ap (λ (p : Positions). p.last) (positions s).table in
    let accepts = c.accepting_of-accepting.ensures.1 r ends ∙ ap (accepting r) c.deref.ensures.0 in
    let states = c.list_states.ensures ∙ ap (λ (l : List ℕ). row 64 (place l)) c.deref-2.ensures.0 in
    let moves = c.moves_of.ensures r _ (positions s) ∙ ap (table_of r c.args.alphabet) c.deref-3.ensures.0 in
    let before = property c.args.values.now c.args.states.now c.args.moves.now in (
      ap limit_of (listing s),
      (λ i. property (c.len.ensures.value i ∷ accepts i ∷ []) (states i) (moves i))
          ∙ ap (λ (o : Option (List ℕ)). property_with r c.args.alphabet o before) (listing s),
    )
