-- Texts whose items are a plan's own, by evaluation: the judge that is handed one answers as the judge without a text, whatever row is
-- lent. Document 02, order 1.
use mathlib.Core.Path.{◌≡◌, refl, ap}
use mathlib.Core.List.{List, [], ◌∷◌, map, Memᴰ}
use mathlib.Core.Option
use mathlib.Core.Option.{Option, none, some, some-ne-none, map-eq-some_iff}
use Prim.Native.Nat.{ℕ}
use Rattle.masks.specs.Mask.{digit}
use Rattle.fields.specs.Bits.{bits_of, value_from, field_at, events_from, events_at}
use Rattle.line.specs.Line.{text}
use Rattle.rows.specs.Rows.{row}
use Rattle.sections.specs.Layout.{plan_of}
use Rattle.plan.specs.Checks.{first, any_from}
use Rattle.plan.proofs.Cases.{P, agree}
use Rattle.expressions.specs.declared.Item.{Item}
use Rattle.expressions.specs.Items.{push_all}
use Rattle.item.specs.Faults.{item_at}
use Rattle.items.specs.Refusals.{read}
use Rattle.grammar.specs.Grammar.{Tree}
use Rattle.grammar.specs.Meaning.{listed, items_of, letters_of, text_refusals, typed_items}
use Rattle.grammar.specs.Ways.{letters, past_letters, stars}
use Rattle.grammar.proofs.Evaluate.{run}
use Rattle.pattern.specs.Refusals.{items_of_plan}
use Rattle.pattern.proofs.Cases.{two_jobs, distance}
use Rattle.verdict.specs.Answer.{Answer}
use Rattle.promises.specs.Order.{own}
use Rattle.promises.specs.Judged.{Judged, JudgedText}
use Rattle.promises.proofs.SameItems.{same_items}
use Rattle.typedcases.proofs.Readings.{read_within, read_within_lem}
use Rattle.typedcases.proofs.Plans.{late}

pub record OwnCase : Type 0 where
  pub bytes : List ℕ
  pub text : List ℕ

-- ---- what is asked of a text: no refusal, and the plan's items

abbrev refusal_and_items : OwnCase → Option Tree → Option ℕ × List Item
refusal_and_items c o = (first (text_refusals c.text o) (plan_of c.bytes).alphabet, typed_items (plan_of c.bytes).alphabet o)

abbrev asked : OwnCase → Option ℕ × List Item
asked c = (none, items_of_plan c.bytes)

-- a text without a reading is refused
refused_unread : (c : OwnCase) → refusal_and_items c none ≡ asked c → ⊥
unfolding first
refused_unread c e = some-ne-none 18 (ap (λ (x : Option ℕ × List Item). x.0) e)

by_items : (n : ℕ) (c : OwnCase) → Option.map (refusal_and_items c) (read_within n c.text) ≡ some (asked c)
    → (before : List ℕ) (x y : Answer) (u v : List ℕ)
    → JudgedText c.bytes c.text before x u → Judged own c.bytes before y v → (x ≡ y) × (u ≡ v)
by_items n c e before x y u v j k =
    let made = (map-eq-some_iff (refusal_and_items c) (read_within n c.text)).0 e in
    go made.0 made.1 made.2
  where
    go : (o : Option Tree) → read_within n c.text ≡ some o → refusal_and_items c o ≡ asked c → (x ≡ y) × (u ≡ v)
    go none q same = absurd (refused_unread c same)
    go (some t) q same =
        same_items c.bytes c.text before t (read_within_lem n c.text (some t) q)
        (ap (λ (z : Option ℕ × List Item). z.0) same) (ap (λ (z : Option ℕ × List Item). z.1) same) x y u v j k

-- ---- plans and texts

abbrev pub cases : List OwnCase
cases =
    record { bytes = P; text = text "a" }
    ∷ record { bytes = P; text = text "[aa]" }
    ∷ record { bytes = two_jobs; text = text "a;b;c" }
    ∷ record { bytes = two_jobs; text = text "((a);b);c" }
    ∷ record { bytes = distance 12 4; text = late 4 }
    ∷ record { bytes = distance 14 5; text = late 5 }  -- 16 of both
    ∷ []

abbrev found : OwnCase → Option (Option ℕ × List Item)
found c = Option.map (refusal_and_items c) (read_within 100 c.text)

abbrev said : OwnCase → Option (Option ℕ × List Item)
said c = some (asked c)

items : map found cases ≡ map said cases
unfolding run letters past_letters stars listed items_of letters_of bits_of value_from field_at events_from events_at row plan_of first any_from digit push_all item_at read
items = refl

-- with and without its text each plan of the table has one outcome
pub same_as_own : {c : OwnCase} → Memᴰ c cases → (before : List ℕ) (x y : Answer) (u v : List ℕ)
    → JudgedText c.bytes c.text before x u → Judged own c.bytes before y v → (x ≡ y) × (u ≡ v)
same_as_own {c} m = by_items 100 c (agree found said items m)
