-- `decode` reads each section at its place.
use Rattle.std.proofs.Common.{refl}
use Rattle.sections.specs.Layout.{plan_under}
use Rattle.words.proofs.Words.{rows_worded}
use Rattle.tables.proofs.Rows.{sections_read}
use Rattle.tables.proofs.decode.Goals as goal

pub returns : goal.returns
returns c =
    let a = c.args in
    let h = c.requires.0 in (
      sections_read a.plan.now a.h _ _ _ _ c.kind_of.ensures c.events.ensures c.read_jobs.ensures c.read_channels.ensures,
      rows_worded (plan_under a.plan.now a.h) _ _ _ _ _ _ refl refl refl h.steps h.calls c.read_arcs.ensures c.read_arcs-2.ensures c.read_arcs-3.ensures,
    )
