-- A text has one answer under an alphabet.
use mathlib.Core.Path.{◌≡◌, refl, sym, ap, subst, ◌∙◌}
use mathlib.Core.List.{List, [], ◌∷◌}
use mathlib.Core.Option.{Option, none, some}
use Prim.Native.Nat.{ℕ, ◌-◌}
use lib.ListN.{get_or}
use Rattle.std.specs.Prelude.{Result, Ok, Err, IfOk}
use Rattle.arrayvec.specs.ArrayVec.{ArrayVec}
use Rattle.refusals.specs.declared.Refusal.{Refusal}
use Rattle.refusals.specs.declared.Refusal.TheVariants.{TooShort, CountOutside, CutShort, Filled, WrongSizes, StrayEnd, SplitEnds, ExitLeft, NoChannel, ItemsCut, NoKind, StrangeEvent, FewOperands, OperandsLeft, Trailing, ManyStates, ShortRow, Unreadable, ManyItems, StrangeLetter, NoneEnds}
use Rattle.refusals.specs.Numbers.{number, refusal_of}
use Rattle.expressions.specs.declared.Item.{Item}
use Rattle.plan.specs.Checks.{first}
use Rattle.grammar.specs.Grammar.{Tree}
use Rattle.grammar.specs.Meaning.{text_refusals, typed_items}
use Rattle.grammar.proofs.Unique.{one_reading}
use Rattle.text.specs.Typed.{Typed}

-- the refusal of a number
abbrev numbered : Option ℕ → Refusal
numbered none = TooShort
numbered (some n) = get_or (TooShort ∷ CountOutside ∷ CutShort ∷ Filled ∷ WrongSizes ∷ StrayEnd ∷ SplitEnds ∷ ExitLeft ∷ NoChannel ∷ ItemsCut ∷ NoKind ∷ StrangeEvent ∷ FewOperands ∷ OperandsLeft ∷ Trailing ∷ ManyStates ∷ ShortRow ∷ Unreadable ∷ ManyItems ∷ StrangeLetter ∷ NoneEnds ∷ []) (n - 1) TooShort

known : (r : Refusal) → numbered (some (number r)) ≡ r
known TooShort = refl
known CountOutside = refl
known CutShort = refl
known Filled = refl
known WrongSizes = refl
known StrayEnd = refl
known SplitEnds = refl
known ExitLeft = refl
known NoChannel = refl
known ItemsCut = refl
known NoKind = refl
known StrangeEvent = refl
known FewOperands = refl
known OperandsLeft = refl
known Trailing = refl
known ManyStates = refl
known ShortRow = refl
known Unreadable = refl
known ManyItems = refl
known StrangeLetter = refl
known NoneEnds = refl

-- a result with a refusal or with items
abbrev Answer : Type 0
Answer = Result (ArrayVec Item) Refusal

-- results of one refusal, and of the same items where there is none
one_answer : (r s : Answer) (is : List Item) → refusal_of r ≡ refusal_of s → IfOk r (λ l. l.items ≡ is) → IfOk s (λ l. l.items ≡ is) → r ≡ s
one_answer (Ok l) (Ok m) is e p q = ap (λ (i : List Item). Ok (record { items = i })) (p ∙ sym q)
one_answer (Ok l) (Err s) is e p q = absurd (cc)
one_answer (Err r) (Ok m) is e p q = absurd (cc)
one_answer (Err r) (Err s) is e p q = ap Err (sym (known r) ∙ ap numbered e ∙ known s)

pub read_unique : (w : List ℕ) (a : ℕ) (r s : Answer) → Typed w a r → Typed w a s → r ≡ s
read_unique w a r s x y =
    let one = one_reading w x.tree y.tree x.reading y.reading in
    one_answer r s (typed_items a y.tree) (x.refusal ∙ ap (λ (o : Option Tree). first (text_refusals w o) a) one ∙ sym y.refusal)
    (subst (λ (o : Option Tree). IfOk r (λ l. l.items ≡ typed_items a o)) one x.items) y.items
