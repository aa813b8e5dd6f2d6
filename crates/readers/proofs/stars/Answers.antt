-- `stars` goes on while it finds stars.
use Rattle.std.proofs.Common.{List, ℕ, arith, refl, sym, subst, ◌∙◌}
use Rattle.grammar.specs.Grammar.{starred, asterisk}
use Rattle.leaves.proofs.Bytes.{starts_within}
use Rattle.readers.specs.Readers.{Continued}
use Rattle.readers.proofs.Orders.{star_more, stars_end, starred_on}
use Rattle.readers.proofs.stars.Goals as goal

pub loop-order-init : goal.loop-order-init
loop-order-init c = (omega arith, c.requires.1, omega arith, λ t. (t, refl, record { items = λ a pre q. q }))

pub loop-order-preserved : goal.loop-order-preserved
loop-order-preserved c =
    let text = c.args.text.now in
    let at = c.loop-order.at in
    let before = c.args.order.now.items in
    let star = sym c.is_at.ensures ∙ c.loop-order-test.true in
    let within = starts_within asterisk text at star in (
      omega arith,
      omega arith,
      omega arith,
      λ t.
          let so = c.loop-order.invariant.3 t in (
            starred so.0,
            so.1 ∙ star_more so.0 text at star,
            subst (λ (o : List ℕ). Continued text before o t (starred so.0)) (sym c.push.ensures.items) (starred_on at star so.2),
          ),
    )

pub returns : goal.returns
returns c =
    let i = c.loop-order.invariant in
    let none = sym c.is_at.ensures ∙ c.loop-order-test.false in
    record {
      further = i.0;
      within = i.1;
      few = i.2;
      goes = λ t. let so = i.3 t in (so.0, so.1 ∙ stars_end so.0 _ none, so.2);
    }
