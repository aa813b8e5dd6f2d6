use Rattle.std.proofs.Common.{◌≡◌, set, replicate}
use mathlib.Core.Path.{refl, ap, ◌∙◌}
use native.Mathlib.Omega.{arith}
use lib.ListN.{length-set}
use lib.Seq.{set-set}
use Rattle.expressions.specs.Positions.{start}
use Rattle.numbering.proofs.Index.{get_d_within}
use Rattle.automaton.specs.Automaton.{state_at, table_of}
use Rattle.automaton.specs.Tables.{with_last}
use Rattle.automaton.proofs.Moves.{moves_read}
use Rattle.transitions.proofs.Entries.{line, row_past}
use Rattle.transitions.proofs.Filling.{filled, filled_none, filled_more, filled_all}
use Rattle.transitions.proofs.moves_of.Goals.{then-k-sets, else-k-sets}
use Rattle.transitions.proofs.moves_of.Goals as goal

pub loop-k-init : goal.loop-k-init
loop-k-init c = (refl, λ r last o. filled_none (line r c.args.alphabet c.args.sets.now))

pub loop-k-preserved : goal.loop-k-preserved
loop-k-preserved c =
    let sets = c.args.sets.now in
    let alphabet = c.args.alphabet in
    let loop = c.loop-k in
    let own = replicate 32 loop.k in
    elim c.if-k-sets.branch [
      | then-k-sets w ↦
          rw w.moves-is (
            length-set (set loop.moves loop.k own) loop.k w.fill_row.new.row ∙ length-set loop.moves loop.k own ∙ loop.invariant.0,
            λ r last o.
                let reads = rw (get_d_within sets loop.k 0 start w.if-k-sets.true) at w.reach-to.ensures in
                set-set loop.moves loop.k own w.fill_row.new.row
                ∙ rw (loop.invariant.1 r last o)
                (filled_more (line r alphabet sets) loop.k w.fill_row.new.row c.loop-k-test.true
                (w.fill_row.ensures r (moves_read r (with_last last c.args.positions.now) o (state_at sets loop.k) w.reach-to.result reads))),
          )
      | else-k-sets w ↦
          rw w.moves-is (
            length-set loop.moves loop.k own ∙ loop.invariant.0,
            λ r last o. rw (loop.invariant.1 r last o) (filled_more (line r alphabet sets) loop.k own c.loop-k-test.true (row_past r alphabet sets loop.k w.if-k-sets.false)),
          )
    ]

pub returns : goal.returns
unfolding table_of
returns c r last o =
    let f = line r c.args.alphabet c.args.sets.now in
    let all : c.loop-k.k ≡ 64 = omega (arith, c.loop-k-test.false, c.loop-k.auto.k-end) in
    c.loop-k.invariant.1 r last o ∙ ap (filled f) all ∙ filled_all f
