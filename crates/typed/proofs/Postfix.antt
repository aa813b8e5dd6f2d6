-- The items of a tree are an expression in postfix form. Assumes nothing.
use mathlib.Core.Path.{ap}
use Prim.Native.Nat.{ℕ, suc, ◌≤◌}
use lib.ListN.{length, get_or, take, drop}
use lib.Seq.{split_at}
use Rattle.expressions.specs.declared.Item.TheVariants.{Empty as empty}
use Rattle.items.specs.Postfix.{Postfix}
use Rattle.grammar.specs.Grammar.{Tree}
use Rattle.grammar.specs.Meaning.{items_of}
use Rattle.grammar.proofs.Items.{items_operands, items_enough}

pub typed_postfix : (a : ℕ) (t : Tree) → length (items_of a t) ≤ 64 → Postfix (items_of a t)
typed_postfix a t few =
    let l = items_of a t in
    record {
      few = few;
      enough = λ i h. items_enough a t (take i l) (get_or l i empty) (drop (suc i) l) (split_at l i empty h);
      one = ap length (items_operands a t);
    }
