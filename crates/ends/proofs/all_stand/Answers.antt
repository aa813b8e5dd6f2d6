-- One more job at each turn.
use Rattle.std.proofs.Common.{◌≡◌, ◌∙◌, ℕ, Bool, ◌&&◌, not, ltb, refl, sym, ap, arith}
use Rattle.rows.specs.Rows.{row}
use Rattle.rows.proofs.Rows.{row_length}
use Rattle.sections.specs.Plan.{Job, stands}
use Rattle.sections.specs.Tables.{job_in}
use Rattle.plan.specs.Checks.{any}
use Rattle.plan.proofs.Tests.{any_row_none, any_turn}
use Rattle.ends.proofs.all_stand.Goals as goal

-- a job that has to end
abbrev ends : Job → Bool
ends b = not (stands b.standing)

pub loop-i-init : goal.loop-i-init
loop-i-init c = sym (any_row_none (λ (k : ℕ). ends) (job_in c.args.jobs))

pub loop-i-preserved : goal.loop-i-preserved
loop-i-preserved c =
    let loop = c.loop-i in
    any_turn (λ (k : ℕ). ends) (job_in c.args.jobs) loop.i loop.ending _ loop.invariant refl

pub returns : goal.returns
returns c =
    let jobs = c.args.jobs in
    let e : c.loop-i.i ≡ c.args.jobs.count = omega arith in
    let passed = c.loop-i.invariant ∙ ap (λ (n : ℕ). any ends (row n (job_in jobs))) e in
    λ k. ltb 0 (sym (row_length (job_in jobs) jobs.count) k) && not (passed k)
