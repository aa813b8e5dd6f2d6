-- `plain` puts the place of a leaf into the order, and the stars behind it.
use Rattle.std.proofs.Common.{arith, ap, sym, ◌∙◌}
use Rattle.grammar.specs.Ways.{plain, unfit, items_by}
use Rattle.readers.proofs.Orders.{leaf_placed}
use Rattle.readers.proofs.plain.Goals as goal

pub returns-in_err-end : goal.returns-in_err-end
returns-in_err-end c = rw c.from_residual.ensures (unfit c.requires.1 c.in_err-end.ensures)

pub returns : goal.returns
returns c =
    let text = c.args.text.now in
    let before = c.args.order.now.items in
    let leaf = c.in_ok-end.ensures in
    let starred = c.stars.ensures in
    let so = starred.goes leaf.0 in
    record {
      tree = so.0;
      way = plain leaf.1 (sym so.1);
      further = omega (arith, leaf.2, starred.further);
      within = starred.within;
      few = omega (arith, leaf.2, starred.few, c.push.ensures.len);
      items = λ n.
          so.2.items n (items_by n text before)
          (ap (items_by n text) c.push.ensures.items ∙ leaf_placed n text before c.args.at leaf.0 _ leaf.1);
    }
