-- What the answer of the reader of a plan with its pattern tells: a refusal of 1 to 15 or 21, or the tables of the plan. Assumes nothing.
use mathlib.Core.Path.{◌≡◌, sym, subst, ap, ◌∙◌}
use mathlib.Core.List.{List}
use mathlib.Core.Option.{none, some}
use Prim.Native.Nat.{ℕ}
use Rattle.std.specs.Prelude.{Result, Ok, Err, IfOk}
use Rattle.refusals.specs.declared.Refusal.{Refusal}
use Rattle.refusals.specs.Numbers.{number, refusal_of}
use Rattle.sections.specs.Layout.{plan_of}
use Rattle.plan.specs.Checks.{first}
use Rattle.plan.proofs.Legality.{legal}
use Rattle.reader.specs.Reading.{WordsOf}
use Rattle.reader.proofs.Answered.{words_read}
use Rattle.expressions.specs.Items.{pattern_of}
use Rattle.items.specs.Postfix.{Postfix}
use Rattle.pattern.specs.declared.PatternRead.{PatternRead}
use Rattle.pattern.specs.Refusals.{expression_of, readable}
use Rattle.pattern.specs.Reading.{accepted}
use Rattle.pattern.proofs.Part.{plan_postfix, before_items}
use Rattle.analysis.specs.Analysis.{Reads}

module _ (b : List ℕ) {r : Result PatternRead Refusal} where
  module _ (told : refusal_of r ≡ first readable b) where
    pub refused_by_reader : {e : Refusal} → r ≡ Err e → first readable b ≡ some (number e)
    refused_by_reader was = sym told ∙ ap refusal_of was

    pub passed_reader : {x : PatternRead} → r ≡ Ok x → none ≡ first readable b
    passed_reader was = sym (ap refusal_of was) ∙ told

  pub all_read : IfOk r (λ x. x ≡ accepted b) → {x : PatternRead} → r ≡ Ok x → x ≡ accepted b
  all_read told was = subst (λ (y : Result PatternRead Refusal). IfOk y (λ x. x ≡ accepted b)) was told

-- where none of them applies
module _ (b : List ℕ) (passed : none ≡ first readable b) {x : PatternRead} (told : x ≡ accepted b) where
  -- the tables and the words are those of the plan
  pub plan_read : (before words : List ℕ) → WordsOf b before words → Reads (plan_of b) x.reading words
  plan_read before words w =
      let in_order = before_items b (sym passed) in
      record {
        before = before;
        keeps = record { legal = legal b in_order; tables = λ i. (told i).reading.plan; owners = λ i. (told i).reading.owner };
        arcs = words_read b before words in_order w;
      }

  -- the items are an expression in postfix form, that of the plan's own pattern
  pub own_postfix : Postfix x.items.items
  own_postfix = subst (λ (y : PatternRead). Postfix y.items.items) (sym told) (plan_postfix b (sym passed))

  pub own_pattern : pattern_of x.items.items ≡ expression_of b
  own_pattern = ap (λ (y : PatternRead). pattern_of y.items.items) told

  pub alphabet_read : x.reading.plan.alphabet ≡ (plan_of b).alphabet
  alphabet_read = ap (λ (y : PatternRead). y.reading.plan.alphabet) told
