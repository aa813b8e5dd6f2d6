-- `tables_of` reads the plan and hands its tables over.
use Rattle.std.proofs.Common.{◌≡◌, ◌∙◌, sym, ap}
use mathlib.Core.Option.{none, some}
use Rattle.std.proofs.lemmas.Result.{err_from_is_err_and}
use Rattle.rows.specs.Rows.{row, padded}
use Rattle.sections.specs.Layout.{plan_of}
use Rattle.plan.proofs.Legality.{legal}
use Rattle.reader.proofs.Answered.{words_read}
use Rattle.pattern.specs.declared.PatternRead.{PatternRead}
use Rattle.pattern.proofs.Part.{before_items}
use Rattle.readback.specs.Tables.{counts_in, word_at, kinds_of, sets_of, tables}
use Rattle.readback.proofs.Arcs.{arcs_are}
use Rattle.readback.proofs.Told.{tables_told}
use Rattle.readback.proofs.tables_of.Goals as goal

pub returns-in_err-read : goal.returns-in_err-read
returns-in_err-read c =
    let p = err_from_is_err_and c.from_residual.result c.from_residual.ensures.1 in
    let refusal = c.in_err-read.ensures.refusal in
    (rw (p.1, p.2) refusal, sym (tables_told c.args.plan.now (some _) (sym refusal) _))

pub returns : goal.returns
returns c =
    let b = c.args.plan.now in
    let read = c.in_ok-read.ensures in
    let passed = sym read.refusal in
    let in_order = before_items b passed in
    let arcs : c.read_pattern.new.words ≡ row 512 (word_at (plan_of b)) =
    arcs_are (plan_of b) (legal b in_order) c.read_pattern.new.words (words_read b _ _ in_order read.words) in
    let counts = c.counts_of.ensures ∙ ap (λ (r : PatternRead). counts_in r.reading.plan) read.plan in
    let kinds = c.list_items.ensures.0 ∙ ap (λ (r : PatternRead). padded 64 (kinds_of r.items.items)) read.plan in
    let sets = c.list_items.ensures.1 ∙ ap (λ (r : PatternRead). padded 64 (sets_of r.items.items)) read.plan in (
      read.refusal,
      (λ i.
          let d = (read.plan i).reading.plan in
          tables (counts i) d.jobs.size d.jobs.entry d.jobs.exit d.jobs.standing d.channels.event (arcs i) (kinds i) (sets i))
          ∙ sym (tables_told b none passed _),
    )
