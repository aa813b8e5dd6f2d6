-- Which faults the arcs passed have.
use Rattle.std.proofs.Common.{◌≡◌}
use Rattle.rows.specs.Rows.{row, place}
use Rattle.sections.specs.Tables.{end_by}
use Rattle.plan.specs.Checks.{any}
use Rattle.plan.specs.Refusals.{apart as apart-test, leaving as leaving-test, unknown as unknown-test}
use Rattle.words.specs.Words.{arc_on}
use Rattle.ends.proofs.find_faults.Given as goal

abbrev pub invariant-loop-word : goal.invariant-loop-word
invariant-loop-word l = record {
  apart : l.apart ≡ any (apart-test l.d.nodes (place l.owner)) (row l.word-index (arc_on l.words l.at));
  leaving : l.leaving ≡ any (leaving-test (place l.owner) (place l.d.jobs.exit) (end_by l.d.jobs.standing)) (row l.word-index (arc_on l.words l.at));
  unknown : l.unknown ≡ any (unknown-test l.d.channels.count) (row l.word-index (arc_on l.words l.at));
}
