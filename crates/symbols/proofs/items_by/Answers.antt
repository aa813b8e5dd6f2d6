-- `items_by` takes the first places of the order.
use Rattle.std.proofs.Common.{◌≡◌, ℕ, take, min, length, arith, ap, ◌∙◌}
use Rattle.std.proofs.Math.Seq.{take-length}
use Rattle.std.proofs.lemmas.List.{take_min}
use Rattle.grammar.specs.Ways.{items_by}
use Rattle.symbols.proofs.items_by.Goals as goal

pub returns : goal.returns
returns c =
    let order = c.args.order.now in
    let first = take c.min.result order in
    let all : c.loop-at.at-index ≡ length first = omega arith in
    let least : c.min.result ≡ min 64 (length order) = omega (arith, c.min.ensures) in
    c.loop-at.invariant
    ∙ ap (items_by c.args.alphabet c.args.text.now)
    (ap (λ (n : ℕ). take n first) all ∙ take-length first ∙ ap (λ (n : ℕ). take n order) least ∙ take_min 64 order)
