-- The refusals by their numbers: no two have the same. Assumes nothing.
use mathlib.Core.Path.{◌≡◌, refl, sym, ap, ◌∙◌}
use mathlib.Core.Bool.{Bool, true, false, cond}
use mathlib.Core.List.{List, [], ◌∷◌}
use mathlib.Core.Option.{Option, none, some, some-injective, none-ne-some}
use Prim.Native.Nat.{ℕ}
use borrow.Author.Tests.{eqb-true}
use lib.Dec.{eqb}
use Rattle.refusals.specs.declared.Refusal.{Refusal}
use Rattle.refusals.specs.declared.Refusal.TheVariants.{TooShort, CountOutside, CutShort, Filled, WrongSizes, StrayEnd, SplitEnds, ExitLeft, NoChannel, ItemsCut, NoKind, StrangeEvent, FewOperands, OperandsLeft, Trailing, ManyStates, ShortRow, Unreadable, ManyItems, StrangeLetter, NoneEnds}
use Rattle.refusals.specs.Numbers.{number}

-- the first of some refusals with the number n
abbrev among : List Refusal → ℕ → Option Refusal
among [] n = none
among (r ∷ l) n = cond (eqb (number r) n) (some r) (among l n)

-- the refusals in the order of their numbers
abbrev refusals : List Refusal
refusals =
    TooShort ∷ CountOutside ∷ CutShort ∷ Filled ∷ WrongSizes ∷ StrayEnd ∷ SplitEnds ∷ ExitLeft ∷ NoChannel ∷ ItemsCut ∷ NoKind ∷ StrangeEvent
    ∷ FewOperands ∷ OperandsLeft ∷ Trailing ∷ ManyStates ∷ ShortRow ∷ Unreadable ∷ ManyItems ∷ StrangeLetter ∷ NoneEnds ∷ []

-- the refusal with the number n
abbrev pub named : ℕ → Option Refusal
named = among refusals

-- one that is found has the number, or is among the rest
met : (t : Bool) (s r : Refusal) (n : ℕ) (rest : Option Refusal) → eqb (number s) n ≡ t → (rest ≡ some r → number r ≡ n)
    → cond t (some s) rest ≡ some r → number r ≡ n
met true s r n rest q later e = ap number (sym (some-injective s r e)) ∙ eqb-true (number s) n q
met false s r n rest q later e = later e

number_among : (l : List Refusal) (n : ℕ) (r : Refusal) → among l n ≡ some r → number r ≡ n
number_among [] n r e = absurd (none-ne-some r e)
number_among (s ∷ l) n r e = met (eqb (number s) n) s r n (among l n) refl (number_among l n r) e

pub number_named : (n : ℕ) (r : Refusal) → named n ≡ some r → number r ≡ n
number_named = number_among refusals

named_number : (r : Refusal) → named (number r) ≡ some r
named_number TooShort = refl
named_number CountOutside = refl
named_number CutShort = refl
named_number Filled = refl
named_number WrongSizes = refl
named_number StrayEnd = refl
named_number SplitEnds = refl
named_number ExitLeft = refl
named_number NoChannel = refl
named_number ItemsCut = refl
named_number NoKind = refl
named_number StrangeEvent = refl
named_number FewOperands = refl
named_number OperandsLeft = refl
named_number Trailing = refl
named_number ManyStates = refl
named_number ShortRow = refl
named_number Unreadable = refl
named_number ManyItems = refl
named_number StrangeLetter = refl
named_number NoneEnds = refl

pub number_injective : (r s : Refusal) → number r ≡ number s → r ≡ s
number_injective r s e = some-injective r s (sym (named_number r) ∙ ap named e ∙ named_number s)
