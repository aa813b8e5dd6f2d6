-- `past_letters` goes on while it finds letters.
use Rattle.std.proofs.Common.{arith, sym, ◌∙◌}
use Rattle.leaves.proofs.Bytes.{letter_within, past_more, past_none}
use Rattle.leaves.proofs.past_letters.Goals as goal

pub loop-at-preserved : goal.loop-at-preserved
loop-at-preserved c =
    let letter = sym c.letter_at.ensures ∙ c.loop-at-test.true in
    let within = letter_within c.args.text.now c.loop-at.at letter in
    (past_more c.args.text.now c.loop-at.at letter ∙ c.loop-at.invariant.0, omega arith, omega arith)

pub returns : goal.returns
returns c = (sym (past_none _ (sym c.letter_at.ensures ∙ c.loop-at-test.false)) ∙ c.loop-at.invariant.0, c.loop-at.invariant.1, c.loop-at.invariant.2)
