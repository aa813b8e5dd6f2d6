-- One more arc at each turn.
use Rattle.std.proofs.Common.{◌≡◌, ◌∙◌, ℕ, ◌+◌, ◌-◌, ◌<◌, Bool, false, List, get_or, take, drop, sym, ap, arith}
use lib.ListN.{length-take}
use lib.Seq.{get_or-drop}
use Rattle.std.proofs.lemmas.List.{get_or-take}
use Rattle.sections.specs.Plan.{Arc}
use Rattle.rows.specs.Rows.{row, place}
use Rattle.sections.specs.Tables.{end_by}
use Rattle.plan.specs.Checks.{any}
use Rattle.plan.specs.Refusals.{apart as apart-test, leaving as leaving-test, unknown as unknown-test}
use Rattle.words.specs.Words.{arc_on, unpacked}
use Rattle.plan.proofs.Tests.{any_row_none, any_turn}
use Rattle.ends.proofs.Turns.{apart_read, leaving_read, unknown_read}
use Rattle.ends.proofs.find_faults.Goals as goal

-- no arc has been passed yet
none : (test : Arc → Bool) (arc : ℕ → Arc) → false ≡ any test (row 0 arc)
none test arc = sym (any_row_none (λ (k : ℕ). test) arc)

pub loop-word-init : goal.loop-word-init
loop-word-init c =
    let d = c.args.d.now in
    let owner = c.args.owner.now in
    let arc = arc_on c.args.words.now c.args.at in
    record {
      apart = none (apart-test d.nodes (place owner)) arc;
      leaving = none (leaving-test (place owner) (place d.jobs.exit) (end_by d.jobs.standing)) arc;
      unknown = none (unknown-test d.channels.count) arc;
    }

-- the word at which a turn looks
held_at : (words : List ℕ) (at n i : ℕ) → i < n → get_or (take (at + n - at) (drop at words)) i 0 ≡ place words (at + i)
held_at words at n i h = get_or-take (at + n - at) (drop at words) i 0 (omega arith) ∙ rw get_or-drop

pub loop-word-preserved : goal.loop-word-preserved
loop-word-preserved c =
    let args = c.args in
    let d = args.d.now in
    let owner = args.owner.now in
    let loop = c.loop-word in
    let i = loop.word-index in
    let arc = arc_on args.words.now args.at in
    let few = length-take (args.at + args.count - args.at) (drop args.at args.words.now) in
    let word = held_at args.words.now args.at args.count i (omega arith) in
    let from = c.from_of-from.ensures.0 ∙ ap (λ (w : ℕ). (unpacked w).from) word in
    let to = c.to_of-to.ensures.0 ∙ ap (λ (w : ℕ). (unpacked w).to) word in
    let label = c.label_of-label.ensures ∙ ap (λ (w : ℕ). (unpacked w).label) word in
    record {
      apart = any_turn (λ (k : ℕ). apart-test d.nodes (place owner)) arc i loop.apart _ loop.invariant.apart (apart_read owner d (arc i) _ from _ _ _ to c.from-job.ensures c.from-other.ensures);
      leaving = any_turn (λ (k : ℕ). leaving-test (place owner) (place d.jobs.exit) (end_by d.jobs.standing)) arc i loop.leaving _ loop.invariant.leaving (leaving_read owner d (arc i) _ from _ _ c.from-job.ensures c.from-exit.ensures);
      unknown = any_turn (λ (k : ℕ). unknown-test d.channels.count) arc i loop.unknown _ loop.invariant.unknown (unknown_read d (arc i) _ label);
    }
