-- The answer to a plan, and its words, by the first refusal. Assumes nothing.
use mathlib.Core.Path.{◌≡◌, refl, sym, ap, subst, ◌∙◌}
use mathlib.Core.Option.{Option, none, some, some-ne-none}
use mathlib.Core.List.{List}
use Prim.Native.Nat.{ℕ}
use Rattle.std.specs.Prelude.{Result, Ok, Err, IfOk}
use Rattle.refusals.specs.declared.Refusal.{Refusal}
use Rattle.refusals.specs.Numbers.{number, refusal_of}
use Rattle.reader.specs.declared.Reading.{Reading}
use Rattle.plan.specs.Checks.{first}
use Rattle.plan.specs.Refusals.{framing, order}
use Rattle.sections.specs.Layout.{plan_of}
use Rattle.plan.proofs.Ends.{order_refused}
use Rattle.words.specs.Words.{Worded}
use Rattle.reader.specs.Reading.{accepted, words_under, WordsOf}

-- ---- the plan

-- where no refusal applies, what meets the promise of the reader is the plan
pub accepted_is : (b : List ℕ) (r : Result Reading Refusal) → refusal_of r ≡ first order b → IfOk r (λ x. x ≡ accepted b) → first order b ≡ none → r ≡ Ok (accepted b)
accepted_is b (Ok x) e h p = ap Ok h
accepted_is b (Err n) e h p = absurd (some-ne-none (number n) (e ∙ p))

-- ---- the words

pub words_are : (b before after : List ℕ) (o : Option ℕ) → first framing b ≡ o → words_under o b before after → WordsOf b before after
unfolding WordsOf
words_are b before after o e w = subst (λ (x : Option ℕ). words_under x b before after) (sym e) w

-- where none of 1 to 9 and 21 applies, the arcs of the plan stand there
pub words_read : (b before after : List ℕ) → first order b ≡ none → WordsOf b before after → Worded (plan_of b) before after
unfolding WordsOf
words_read b before after passed w = go (first framing b) refl w
  where
    go : (o : Option ℕ) → first framing b ≡ o → words_under o b before after → Worded (plan_of b) before after
    go none e v = v
    go (some n) e v = absurd (some-ne-none n (sym (order_refused b n e) ∙ passed))
