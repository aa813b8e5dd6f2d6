-- `judge_framed` answers the first refusal of the plan and its items, or what is left. What the reader gave is found from what came of it, whatever
-- stands between the two.
use Rattle.std.proofs.Common.{◌≡◌, refl, sym, Ok, Err, arith}
use Rattle.std.proofs.lemmas.Result.{err_from_is_err_and}
use Rattle.promises.specs.Order.{own}
use Rattle.promises.proofs.Refusals.{judged_early, judged_late}
use Rattle.reader.proofs.Answered.{words_are}
use Rattle.analysis.proofs.Read.{refused_by_reader, passed_reader, all_read, plan_read, own_postfix, own_pattern}
use Rattle.verifier.proofs.judge_framed.Goals as goal

pub returns-in_err-read : goal.returns-in_err-read
returns-in_err-read c =
    let p = err_from_is_err_and c.from_residual.result c.from_residual.ensures.1 in
    let b = c.args.plan.now in
    let refused : c.read_framed.result ≡ Err c.in_err-read.field-0.0 = grind arith in
    rw (p.1, p.2) (judged_early own b c.args.row.now _ (refused_by_reader b c.read_framed.ensures.refusal refused))

pub settle_plan-requires : goal.settle_plan-requires
settle_plan-requires c =
    let b = c.args.plan.now in
    let given : c.read_framed.result ≡ Ok c.in_ok-read.read = grind arith in
    let passed = passed_reader b c.read_framed.ensures.refusal given in
    let read = all_read b c.read_framed.ensures.plan given in
    let words = words_are b _ _ _ c.requires c.read_framed.ensures.words in
    ((_, plan_read b passed read _ _ words), own_postfix b passed read)

pub returns : goal.returns
returns c =
    let b = c.args.plan.now in
    let given : c.read_framed.result ≡ Ok c.in_ok-read.read = grind arith in
    let passed = passed_reader b c.read_framed.ensures.refusal given in
    let read = all_read b c.read_framed.ensures.plan given in
    let words = words_are b _ _ _ c.requires c.read_framed.ensures.words in
    judged_late own b c.args.row.now (sym passed) refl _ (own_pattern b passed read) _ _ (c.settle_plan.ensures _ (plan_read b passed read _ _ words))
