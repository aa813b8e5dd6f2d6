-- The number of each refusal, and what a result tells of them. Document 01, "When a plan is turned down"; document 02, orders 1 and 5.
use Rattle.std.specs.Prelude.{ℕ, Result, Ok, Err}
use Rattle.std.proofs.Math.Option.{Option, none, some}
use Rattle.refusals.specs.declared.Refusal.{Refusal}
use Rattle.refusals.specs.declared.Refusal.TheVariants.{TooShort, CountOutside, CutShort, Filled, WrongSizes, StrayEnd, SplitEnds, ExitLeft, NoChannel, ItemsCut, NoKind, StrangeEvent, FewOperands, OperandsLeft, Trailing, ManyStates, ShortRow, Unreadable, ManyItems, StrangeLetter, NoneEnds}

abbrev pub number : Refusal → ℕ
number TooShort = 1
number CountOutside = 2
number CutShort = 3
number Filled = 4
number WrongSizes = 5
number StrayEnd = 6
number SplitEnds = 7
number ExitLeft = 8
number NoChannel = 9
number ItemsCut = 10
number NoKind = 11
number StrangeEvent = 12
number FewOperands = 13
number OperandsLeft = 14
number Trailing = 15
number ManyStates = 16
number ShortRow = 17
number Unreadable = 18
number ManyItems = 19
number StrangeLetter = 20
number NoneEnds = 21

-- "A refusal returns its number and nothing else"; what is no refusal has none
abbrev pub refusal_of : {A : Type 0} → Result A Refusal → Option ℕ
refusal_of (Ok x) = none
refusal_of (Err r) = some (number r)
