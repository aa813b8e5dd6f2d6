-- One more job at each turn.
use Rattle.std.proofs.Common.{◌≡◌, ◌∙◌, ℕ, ◌+◌, ◌≤◌, List, ◌++◌, length, take, replicate, refl, sym, ap, arith}
use Rattle.rows.specs.Rows.{row, padded}
use Rattle.sections.specs.declared.Jobs.{Jobs}
use Rattle.sections.specs.Tables.{sizes, job_in, jobs_in}
use Rattle.plan.specs.Nodes.{owners, owners_from, total}
use Rattle.plan.proofs.Nodes.{total_none, total_more, total_le, owners_more, owners_total}
use Rattle.reader.proofs.Filling.{take_padded}
use Rattle.reader.proofs.owners_of.Goals as goal

-- what stands before the nodes of a turn's job
passed : (jobs : Jobs) (i at : ℕ) (owner : List ℕ) → owner ≡ padded 256 (owners (row i (job_in jobs))) → at ≡ total (sizes (row i (job_in jobs)))
    → take at owner ≡ owners (row i (job_in jobs))
passed jobs i at owner e f = ap (take at) e ∙ take_padded (owners (row i (job_in jobs))) at (owners_total (row i (job_in jobs)) ∙ sym f)

-- and its nodes are some of all
room : (jobs : Jobs) (i at : ℕ) → at ≡ total (sizes (row i (job_in jobs))) → i + 1 ≤ jobs.count → total (sizes (jobs_in jobs)) ≤ 256
    → at + (job_in jobs i).size ≤ 256
room jobs i at e h few = omega (arith, total_le (job_in jobs) (i + 1) jobs.count h, total_more (job_in jobs) i)

pub loop-i-init : goal.loop-i-init
unfolding padded row owners_from
loop-i-init c = (refl, sym (total_none (job_in c.args.jobs)))

pub own-requires : goal.own-requires
own-requires c =
    let loop = c.loop-i in
    let jobs = c.args.jobs in
    let there = passed jobs loop.i loop.at loop.owner loop.invariant.0 loop.invariant.1 in (
      omega (arith, room jobs loop.i loop.at loop.invariant.1 (omega arith) c.requires.1),
      loop.invariant.0 ∙ ap (padded 256) (sym there),
      ap length there ∙ owners_total (row loop.i (job_in jobs)) ∙ sym loop.invariant.1,
    )

pub overflow_add-at : goal.overflow_add-at
overflow_add-at c = let loop = c.loop-i in omega (arith, room c.args.jobs loop.i loop.at loop.invariant.1 (omega arith) c.requires.1)

pub loop-i-preserved : goal.loop-i-preserved
loop-i-preserved c =
    let loop = c.loop-i in
    let jobs = c.args.jobs in
    let g = job_in jobs in
    let size = c.from-size.ensures in (
      c.own.ensures ∙ ap (λ xs. padded 256 (xs ++ replicate c.from-size.result loop.i)) (passed jobs loop.i loop.at loop.owner loop.invariant.0 loop.invariant.1)
          ∙ ap (λ (n : ℕ). padded 256 (owners (row loop.i g) ++ replicate n loop.i)) size
          ∙ ap (padded 256) (sym (owners_more g loop.i)),
      omega (arith, size, total_more g loop.i),
    )
