-- How the reader of a chain goes on: operand by operand, for choices and sequences alike.
use mathlib.Core.Path.{◌≡◌, sym, ap, subst, ◌∙◌}
use mathlib.Core.Bool.{true, false}
use mathlib.Core.List.{List, [], ◌∷◌, ◌++◌}
use Prim.Native.Nat.{ℕ, ◌+◌, ◌≤◌, ◌<◌}
use native.Mathlib.Omega.{arith}
use lib.ListN.{length, drop, length-append}
use Rattle.std.specs.Prelude.{Option, None, Some}
use Rattle.grammar.specs.Grammar.{Tree, opening, closing}
use Rattle.grammar.specs.Meaning.{items_of}
use Rattle.grammar.specs.Ways.{Outcome, broken, up_to, starts_with, Chain, operator, operand, joined, chain, onward, one_unit, choices, Way, begins, ends, joins, lacks, inside, unclosed, within, items_by}
use Rattle.leaves.proofs.Bytes.{starts_cons}
use Rattle.readers.specs.Readers.{Closes, Onward, Went}
use Rattle.readers.proofs.Orders.{joined_on}

-- the reader of a chain that begins at `from` stands at `at`, behind the operands of a tree
pub record Sofar (k : Chain) (text : List ℕ) (from : ℕ) (before order : List ℕ) (at : ℕ) : Type 0 where
  pub tree : Tree
  pub way : (o : Outcome) → Way (onward k tree) (drop at text) o → Way (chain k) (drop from text) o
  pub further : from < at
  pub within : at ≤ length text
  pub few : length order + from ≤ at + length before
  pub items : (a : ℕ) → items_by a text order ≡ items_by a text before ++ items_of a tree

module _ {k : Chain} {text : List ℕ} {from : ℕ} {before : List ℕ} where
  -- behind the first operand
  pub first_operand : {order : List ℕ} {at : ℕ} → Onward text from before order (operand k) at → Sofar k text from before order at
  first_operand f = record {
    tree = f.tree;
    way = λ o w. begins f.way w;
    further = f.further;
    within = f.within;
    few = f.few;
    items = f.items;
  }

  module _ {order : List ℕ} {at : ℕ} (so : Sofar k text from before order at) where
    -- no operator follows: the chain ends here
    pub chain_ends : starts_with (operator k) (drop at text) ≡ false → Onward text from before order (chain k) at
    chain_ends e = record {
      tree = so.tree;
      way = so.way _ (ends e);
      further = so.further;
      within = so.within;
      few = so.few;
      items = so.items;
    }

    module _ (e : starts_with (operator k) (drop at text) ≡ true) where
      -- an operator without an operand
      pub chain_breaks : Way (operand k) (drop (at + 1) text) broken → Way (chain k) (drop from text) broken
      chain_breaks w = so.way broken (lacks (starts_cons (operator k) text at e) w)

      -- an operator with its operand
      module _ {after : List ℕ} {next : ℕ} (f : Onward text (at + 1) order after (operand k) next) where
        pub next_operand : Sofar k text from before (after ++ at ∷ []) next
        next_operand = record {
          tree = joined k so.tree f.tree;
          way = λ o w. so.way o (joins (starts_cons (operator k) text at e) f.way w);
          further = omega (arith, so.further, f.further);
          within = f.within;
          few = omega (arith, so.few, f.few, length-append after (at ∷ []));
          items = λ a.
              joined_on k a text after at (items_by a text before) so.tree f.tree e
              (f.items a ∙ ap (λ is. is ++ items_of a f.tree) (so.items a));
        }

-- ---- a choice in brackets

module _ (text : List ℕ) (at : ℕ) (e : starts_with opening (drop at text) ≡ true) where
  pub brackets_break : Way (chain choices) (drop (at + 1) text) broken → Way one_unit (drop at text) broken
  brackets_break w = within (starts_cons opening text at e) w

  pub brackets_close : {before order : List ℕ} (after : List ℕ) {end : ℕ} (r : Option ℕ) → Onward text (at + 1) before order (chain choices) end
      → Closes text end order after r → Went text at before after one_unit r
  brackets_close after None f c = unclosed (starts_cons opening text at e) f.way c
  brackets_close {before} after {end} (Some next) f (found, further, inText, few, goes) =
      let so = goes f.tree in record {
        tree = so.0;
        way = inside (starts_cons opening text at e) (subst (λ (w : List ℕ). Way (chain choices) (drop (at + 1) text) (up_to f.tree w)) (starts_cons closing text end found) f.way) (sym so.1);
        further = omega (arith, f.further);
        within = inText;
        few = omega (arith, f.few);
        items = λ a. so.2.items a (items_by a text before) (f.items a);
      }
