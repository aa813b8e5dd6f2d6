-- What the arrays have at the place.
use Rattle.std.proofs.Common.{ℕ, arith}
use Rattle.rows.specs.Rows.{place}
use Rattle.rows.proofs.Rows.{row_length, row_at}
use Rattle.expressions.specs.declared.Item.{Item}
use Rattle.expressions.specs.declared.Item.TheVariants.{Empty as empty}
use Rattle.item.specs.Faults.{item_of}
use Rattle.items.proofs.ArraysItemList.item.Goals as goal

pub returns : goal.returns
returns c =
    let l = c.args.self.now in
    let item : ℕ → Item = λ i. item_of (place l.kinds.now i) (place l.sets.now i) in
    let there = row_at item l.count c.args.i empty (omega (arith, c.requires, row_length item l.count)) in
    grind (arith, there, c.item_of.ensures)
