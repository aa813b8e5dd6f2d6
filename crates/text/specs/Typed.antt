-- What the reader of texts promises: for every list of bytes the items of its one tree, or the first of 18, 19 and 20 that applies.
use Rattle.std.specs.Prelude.{◌≡◌, List, ℕ, Result, IfOk}
use Rattle.std.proofs.Math.Option.{Option}
use Rattle.plan.specs.Checks.{first}
use Rattle.arrayvec.specs.ArrayVec.{ArrayVec}
use Rattle.refusals.specs.declared.Refusal.{Refusal}
use Rattle.refusals.specs.Numbers.{refusal_of}
use Rattle.expressions.specs.declared.Item.{Item}
use Rattle.grammar.specs.Grammar.{Tree, Reading}
use Rattle.grammar.specs.Meaning.{text_refusals, typed_items}

-- "A text of that grammar has one reading, which yields the postfix items unless it is too long or 19 or 20 applies; a refusal
-- yields none."
pub record Typed (text : List ℕ) (alphabet : ℕ) (r : Result (ArrayVec Item) Refusal) : Type 0 where
  pub tree : Option Tree
  pub reading : Reading text tree
  pub refusal : refusal_of r ≡ first (text_refusals text tree) alphabet
  pub items : IfOk r (λ l. l.items ≡ typed_items alphabet tree)
