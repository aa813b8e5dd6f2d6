-- Each plan, text and row have one outcome, and its number tells a verdict from a refusal. Assumes nothing.
use mathlib.Core.Path.{◌≡◌, sym, ap, ◌∙◌}
use mathlib.Core.List.{List}
use mathlib.Core.Logic.{◌↔◌}
use mathlib.Core.Option.{Option, none, some, some-ne-none}
use Prim.Native.Nat.{ℕ}
use lib.ListN.{length}
use Rattle.std.specs.Prelude.{Ok, Err}
use Rattle.plan.specs.Checks.{first}
use Rattle.refusals.specs.Numbers.{number, refusal_of}
use Rattle.grammar.specs.Grammar.{Tree, Reading}
use Rattle.verdict.specs.Answer.{Answer}
use Rattle.verdict.specs.Told.{number_of, values_in}
use Rattle.promises.specs.Order.{Pattern, own, typed, judgeable}
use Rattle.promises.specs.Judged.{Promise, Judged, JudgedText}
use Rattle.promises.proofs.Unique.{Determined, judged_unique}
use Rattle.promises.proofs.Numbers.{no_refusal_zero}
use Rattle.promises.proofs.TextUnique.{by_reading, typed_unique}
use Rattle.traceflow.specs.Exported.{Exported}

-- ---- the number, the row and the lent array are determined by the bytes and by what the two held before

abbrev One : Promise → Type 0
One P = (before counts : List ℕ) (m n : ℕ) (u v s t : List ℕ) → Exported P before counts m u s → Exported P before counts n v t
    → (m ≡ n) × (u ≡ v) × (s ≡ t)

one_export : (P : Promise) → Determined P → One P
one_export P one before counts m n u v s t x y =
    let same = one before x.answer y.answer u v x.judged y.judged in (
      x.numbered ∙ ap number_of same.0 ∙ sym y.numbered,
      same.1,
      x.values ∙ ap (λ (a : Answer). values_in a counts) same.0 ∙ sym y.values,
    )

pub exported_unique : (b : List ℕ) → One (Judged own b)
exported_unique b = one_export (Judged own b) (judged_unique own b)

pub text_exported_unique : (b w : List ℕ) → One (JudgedText b w)
text_exported_unique b w = one_export (JudgedText b w) (typed_unique b w)

-- ---- 0 comes back if and only if the plan is judged: no refusal applies

module _ (q : Pattern) (b before : List ℕ) where
  abbrev Zero : ℕ → Type 0
  Zero m = (m ≡ 0) ↔ (first (judgeable q (length before)) b ≡ none)

  zero_answer : (m : ℕ) (u : List ℕ) (a : Answer) → Judged q b before a u → m ≡ number_of a → Zero m
  zero_answer m u a j e = go a e j.refusal
    where
      refused : Option ℕ
      refused = first (judgeable q (length before)) b

      go : (a : Answer) → m ≡ number_of a → refusal_of a ≡ refused → (m ≡ 0) ↔ (refused ≡ none)
      go (Err x) e r = (
        (λ z. absurd (no_refusal_zero q (length before) b (sym r ∙ ap some (sym e ∙ z)))),
        (λ z. absurd (some-ne-none (number x) (r ∙ z))),
      )
      go (Ok v) e r = ((λ z. sym r), (λ z. e))

pub zero_judged : (b before counts : List ℕ) (m : ℕ) (u s : List ℕ) → Exported (Judged own b) before counts m u s → Zero own b before m
zero_judged b before counts m u s x = zero_answer own b before m u x.answer x.judged x.numbered

pub text_zero_judged : (b w before counts : List ℕ) (m : ℕ) (u s : List ℕ) → Exported (JudgedText b w) before counts m u s
    → (o : Option Tree) → Reading w o → Zero (typed w o) b before m
text_zero_judged b w before counts m u s x o d =
    zero_answer (typed w o) b before m u x.answer (by_reading b w before x.answer u o d x.judged) x.numbered
