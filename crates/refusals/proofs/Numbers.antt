-- Refusals are told apart by their numbers, which go from 1 to 21.
use Rattle.std.proofs.Common.{◌≡◌, ◌∙◌, ℕ, ◌-◌, ◌≤◌, List, [], ◌∷◌, get_or, refl, sym, ap, arith}
use Rattle.refusals.specs.declared.Refusal.{Refusal}
use Rattle.refusals.specs.declared.Refusal.TheVariants.{TooShort, CountOutside, CutShort, Filled, WrongSizes, StrayEnd, SplitEnds, ExitLeft, NoChannel, ItemsCut, NoKind, StrangeEvent, FewOperands, OperandsLeft, Trailing, ManyStates, ShortRow, Unreadable, ManyItems, StrangeLetter, NoneEnds}
use Rattle.refusals.specs.Numbers.{number}

-- all refusals in the order of their numbers, and so the refusal of a number
abbrev all : List Refusal
all =
    TooShort ∷ CountOutside ∷ CutShort ∷ Filled ∷ WrongSizes ∷ StrayEnd ∷ SplitEnds ∷ ExitLeft ∷ NoChannel ∷ ItemsCut ∷ NoKind
    ∷ StrangeEvent ∷ FewOperands ∷ OperandsLeft ∷ Trailing ∷ ManyStates ∷ ShortRow ∷ Unreadable ∷ ManyItems ∷ StrangeLetter ∷ NoneEnds ∷ []

abbrev refusal_at : ℕ → Refusal
refusal_at n = get_or all (n - 1) NoneEnds

back : (r : Refusal) → refusal_at (number r) ≡ r
back TooShort = refl
back CountOutside = refl
back CutShort = refl
back Filled = refl
back WrongSizes = refl
back StrayEnd = refl
back SplitEnds = refl
back ExitLeft = refl
back NoChannel = refl
back ItemsCut = refl
back NoKind = refl
back StrangeEvent = refl
back FewOperands = refl
back OperandsLeft = refl
back Trailing = refl
back ManyStates = refl
back ShortRow = refl
back Unreadable = refl
back ManyItems = refl
back StrangeLetter = refl
back NoneEnds = refl

pub number_injective : (r s : Refusal) → number r ≡ number s → r ≡ s
number_injective r s e = sym (back r) ∙ ap refusal_at e ∙ back s

pub number_within : (r : Refusal) → (1 ≤ number r) × (number r ≤ 21)
number_within TooShort = (omega arith, omega arith)
number_within CountOutside = (omega arith, omega arith)
number_within CutShort = (omega arith, omega arith)
number_within Filled = (omega arith, omega arith)
number_within WrongSizes = (omega arith, omega arith)
number_within StrayEnd = (omega arith, omega arith)
number_within SplitEnds = (omega arith, omega arith)
number_within ExitLeft = (omega arith, omega arith)
number_within NoChannel = (omega arith, omega arith)
number_within ItemsCut = (omega arith, omega arith)
number_within NoKind = (omega arith, omega arith)
number_within StrangeEvent = (omega arith, omega arith)
number_within FewOperands = (omega arith, omega arith)
number_within OperandsLeft = (omega arith, omega arith)
number_within Trailing = (omega arith, omega arith)
number_within ManyStates = (omega arith, omega arith)
number_within ShortRow = (omega arith, omega arith)
number_within Unreadable = (omega arith, omega arith)
number_within ManyItems = (omega arith, omega arith)
number_within StrangeLetter = (omega arith, omega arith)
number_within NoneEnds = (omega arith, omega arith)
