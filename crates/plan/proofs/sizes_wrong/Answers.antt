-- One more job at each turn.
use Rattle.std.proofs.Common.{◌≡◌, ◌∙◌, ℕ, Bool, ◌||◌, not, sym, ap, arith, eqb}
use Rattle.sections.specs.Plan.{Job}
use Rattle.rows.specs.Rows.{row}
use Rattle.sections.specs.Tables.{job_in}
use Rattle.plan.specs.Refusals.{sizes_wrong}
use Rattle.plan.proofs.Tests.{any_row_none, any_turn}
use Rattle.plan.proofs.Nodes.{total_none, total_more}
use Rattle.plan.proofs.sizes_wrong.Goals as goal

abbrev zero_size : ℕ → Job → Bool
zero_size k b = eqb b.size 0

pub loop-i-init : goal.loop-i-init
loop-i-init c = (sym (any_row_none zero_size (job_in c.args.jobs)), sym (total_none (job_in c.args.jobs)), omega arith)

pub loop-i-preserved : goal.loop-i-preserved
loop-i-preserved c =
    let jobs = c.args.jobs in
    let loop = c.loop-i in
    let more = total_more (job_in jobs) loop.i in (
      any_turn zero_size (job_in jobs) loop.i loop.empty _ loop.invariant.0 (ap (λ (n : ℕ). eqb n 0) c.from-size.ensures),
      omega arith,
      omega arith,
    )

pub returns : goal.returns
returns c =
    let args = c.args in
    let inv = c.loop-i.invariant in
    let e : c.loop-i.i ≡ c.args.jobs.count = omega arith in
    let found : (c.loop-i.empty || not (eqb c.loop-i.sum args.nodes)) ≡ sizes_wrong args.nodes (row c.loop-i.i (job_in args.jobs)) =
    λ k. inv.0 k || not (eqb (inv.1 k) args.nodes) in
    found ∙ ap (λ (n : ℕ). sizes_wrong args.nodes (row n (job_in args.jobs))) e
