-- `judge_text` answers a refusal of the plan, one of the text, or what is left. What the text's reader gave is found from what came of it, whatever stands
-- between the two.
use Rattle.std.proofs.Common.{◌≡◌, ℕ, refl, sym, Result, Ok, Err, arith}
use mathlib.Core.Path.{subst}
use Rattle.std.proofs.lemmas.Result.{err_from_is_err_and}
use Rattle.arrayvec.specs.ArrayVec.{ArrayVec}
use Rattle.refusals.specs.declared.Refusal.{Refusal}
use Rattle.sections.specs.Layout.{plan_of}
use Rattle.expressions.specs.declared.Item.{Item}
use Rattle.grammar.proofs.Every.{every_text}
use Rattle.text.specs.Typed.{Typed}
use Rattle.promises.specs.Order.{typed, expression_by}
use Rattle.promises.proofs.Refusals.{refused_text, judged_early, judged_late, turned_down}
use Rattle.analysis.proofs.Read.{plan_read, own_postfix, alphabet_read}
use Rattle.typed.proofs.Reader.{text_postfix, text_pattern}
use Rattle.typed.proofs.judge_text.Goals as goal
use Rattle.typed.proofs.judge_text.Goals.{In_ok-read}

-- what the text's reader told of its result is told of the same result under the alphabet of the plan
told : (c : In_ok-read) {r s : Result (ArrayVec Item) Refusal} → Typed c.args.text.now c.in_ok-read.read.reading.plan.alphabet s → s ≡ r
    → Typed c.args.text.now (plan_of c.args.plan.now).alphabet r
told c {r} {s} t e =
    let read = c.in_ok-read.ensures in
    let u = subst (λ (x : Result (ArrayVec Item) Refusal). Typed c.args.text.now c.in_ok-read.read.reading.plan.alphabet x) e t in
    subst (λ (a : ℕ). Typed c.args.text.now a r) (alphabet_read c.args.plan.now read.refusal read.plan) u

pub returns-in_err-read : goal.returns-in_err-read
returns-in_err-read c =
    let p = err_from_is_err_and c.from_residual.result c.from_residual.ensures.1 in
    let (o, d) = every_text c.args.text.now in
    rw (p.1, p.2)
    (record {
      tree = o;
      reading = d;
      judged = judged_early (typed c.args.text.now o) c.args.plan.now c.args.row.now _ (sym c.in_err-read.ensures.refusal);
    })

pub returns-in_err-items : goal.returns-in_err-items
returns-in_err-items c =
    let p = err_from_is_err_and c.from_residual-in_err-items.result c.from_residual-in_err-items.ensures.1 in
    let b = c.args.plan.now in
    let refused : c.read_text.result ≡ Err c.in_err-items.field-0.0 = grind arith in
    let t = told (goal.at.returns-in_err-items c).In_ok-read c.read_text.ensures refused in
    let q = typed c.args.text.now t.tree in
    rw (p.1, p.2)
    (record {
      tree = t.tree;
      reading = t.reading;
      judged = turned_down _ (plan_of b) (expression_by q b) c.args.row.now c.args.row.now _
          (refused_text q _ b (sym c.in_ok-read.ensures.refusal) _ (sym t.refusal)) refl;
    })

-- both lists of items are postfix: which of them is judged is left to the promise
pub settle_plan-requires : goal.settle_plan-requires
settle_plan-requires c =
    let read = c.in_ok-read.ensures in
    let b = c.args.plan.now in
    let given : c.read_text.result ≡ Ok c.in_ok-items.items = grind arith in
    let typed_items = text_postfix (told (goal.at.settle_plan-requires c).In_ok-read c.read_text.ensures given) in
    let own_items = own_postfix b read.refusal read.plan in
    ((_, plan_read b read.refusal read.plan _ _ read.words), search (typed_items, own_items))

pub returns : goal.returns
returns c =
    let read = c.in_ok-read.ensures in
    let b = c.args.plan.now in
    let given : c.read_text.result ≡ Ok c.in_ok-items.items = grind arith in
    let t = told (goal.at.returns c).In_ok-read c.read_text.ensures given in
    record {
      tree = t.tree;
      reading = t.reading;
      judged = judged_late (typed c.args.text.now t.tree) b c.args.row.now (sym read.refusal) (sym t.refusal) _ (text_pattern t) _ _
          (c.settle_plan.ensures _ (plan_read b read.refusal read.plan _ _ read.words));
    }
