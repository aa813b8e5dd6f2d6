-- As many as the arrays are said to list.
use Rattle.std.proofs.Common.{ℕ, arith}
use Rattle.rows.specs.Rows.{place}
use Rattle.rows.proofs.Rows.{row_length}
use Rattle.expressions.specs.declared.Item.{Item}
use Rattle.item.specs.Faults.{item_of}
use Rattle.items.proofs.ArraysItemList.count.Goals as goal

pub returns : goal.returns
returns c =
    let l = c.args.self.now in
    let item : ℕ → Item = λ i. item_of (place l.kinds.now i) (place l.sets.now i) in
    grind (arith, row_length item l.count)
