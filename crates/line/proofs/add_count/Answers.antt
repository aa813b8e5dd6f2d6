use Rattle.std.proofs.Common.{ap, ap₂, ◌∙◌, ◌++◌, ℕ, List, arith, length-append}
use Rattle.line.specs.Line.{decimal}
use Rattle.line.proofs.Numbers.{decimal_digits, decimal_short}
use Rattle.line.proofs.add_count.Goals as goal

pub add_text-requires-2 : goal.add_text-requires-2
add_text-requires-2 c =
    let digits = c.decimal-k.ensures.digits ∙ decimal_digits c.decimal-k.result c.from.result (omega (arith, c.from.ensures, c.ranges.n.fits)) c.decimal-k.ensures.len in
    let short = decimal_short c.args.n c.ranges.n.fits in
    rw (digits, c.from.ensures, c.add_text.ensures, length-append) (omega (arith, short, c.requires))

pub returns : goal.returns
returns c =
    let digits = c.decimal-k.ensures.digits ∙ decimal_digits c.decimal-k.result c.from.result (omega (arith, c.from.ensures, c.ranges.n.fits)) c.decimal-k.ensures.len ∙ ap decimal c.from.ensures in
    (c.add_text-2.ensures ∙ ap₂ (λ (x y : List ℕ). x ++ y) c.add_text.ensures digits, decimal_short c.args.n c.ranges.n.fits)
