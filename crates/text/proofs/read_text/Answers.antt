-- `read_text` goes through the refusals 18 to 20. Whether a byte is left is read from the test by `grind`, however it is written.
use Rattle.std.proofs.Common.{arith, sym, ◌∙◌}
use Rattle.std.proofs.lemmas.Bool.Decides.{nat_tests}
use Rattle.text.proofs.Answers.{long_text, broken_text, more_text, many_items_lem, strange_letter_lem, all_items}
use Rattle.text.proofs.read_text.Goals as goal

pub returns-then-text-gt255 : goal.returns-then-text-gt255
returns-then-text-gt255 c = long_text _ _ (omega arith)

pub returns-in_default : goal.returns-in_default
returns-in_default c = broken_text _ _ c.in_default.ensures

pub returns-then-end-text : goal.returns-then-end-text
returns-then-end-text c = more_text _ _ c.in-Some.ensures (grind (arith, nat_tests))

pub returns-then-len-gt64 : goal.returns-then-len-gt64
returns-then-len-gt64 c =
    many_items_lem _ _ c.in-Some.ensures (grind (arith, nat_tests)) (omega arith) (omega (arith, c.len.ensures.value))

pub returns-then-has_strange : goal.returns-then-has_strange
returns-then-has_strange c =
    strange_letter_lem _ _ c.in-Some.ensures (grind (arith, nat_tests)) (omega arith) (omega (arith, c.len.ensures.value))
    (sym c.has_strange.ensures ∙ c.if-has_strange.true)

pub returns : goal.returns
returns c =
    all_items _ _ c.in-Some.ensures (grind (arith, nat_tests)) (omega arith) (omega (arith, c.len.ensures.value)) c.items_by.result
    (sym c.has_strange.ensures ∙ c.if-has_strange.false)
    (rw (sym c.deref.ensures.0) c.items_by.ensures)
