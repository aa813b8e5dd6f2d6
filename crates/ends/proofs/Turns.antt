-- The tests of a section's record, from what a turn of the loop read. Assumes nothing.
use mathlib.Core.Path.{◌≡◌, ap, ◌∙◌}
use mathlib.Core.Bool.{◌&&◌, ◌||◌, not}
use mathlib.Core.List.{List}
use Prim.Native.Nat.{ℕ}
use lib.Dec.{ltb, leb, eqb}
use Rattle.sections.specs.declared.Decoded.{Decoded}
use Rattle.sections.specs.declared.Jobs.{Jobs}
use Rattle.sections.specs.Plan.{Arc, stands}
use Rattle.rows.specs.Rows.{place}
use Rattle.sections.specs.Tables.{end_by, job_in}
use Rattle.plan.specs.Refusals.{stray, apart, leaving, unknown}

-- by the job of each node
module _ (owner : List ℕ) where
  pub stray_read : (nodes : ℕ) (jobs : Jobs) (i entry exit entry-job exit-job : ℕ) → entry ≡ place jobs.entry i → exit ≡ place jobs.exit i
      → entry-job ≡ place owner entry → exit-job ≡ place owner exit
      → (not ((ltb entry nodes && eqb entry-job i) && (ltb exit nodes && eqb exit-job i)) || (stands (place jobs.standing i) && not (eqb exit entry))) ≡ stray nodes (place owner) i (job_in jobs i)
  stray_read nodes jobs i entry exit entry-job exit-job p q r s =
      let r' = r ∙ ap (place owner) p in
      let s' = s ∙ ap (place owner) q in
      λ k. not ((ltb (p k) nodes && eqb (r' k) i) && (ltb (q k) nodes && eqb (s' k) i)) || (stands (place jobs.standing i) && not (eqb (q k) (p k)))

  module _ (d : Decoded) (a : Arc) (from : ℕ) (p : from ≡ a.from) where
    pub apart_read : (to job other : ℕ) → to ≡ a.to → job ≡ place owner from → other ≡ place owner to
        → not (ltb from d.nodes && (ltb to d.nodes && eqb job other)) ≡ apart d.nodes (place owner) a
    apart_read to job other q r s =
        let r' = r ∙ ap (place owner) p in
        let s' = s ∙ ap (place owner) q in
        λ k. not (ltb (p k) d.nodes && (ltb (q k) d.nodes && eqb (r' k) (s' k)))

    pub leaving_read : (job exit : ℕ) → job ≡ place owner from → exit ≡ place d.jobs.exit job
        → (not (stands (place d.jobs.standing job)) && eqb from exit) ≡ leaving (place owner) (place d.jobs.exit) (end_by d.jobs.standing) a
    leaving_read job exit r s =
        let r' = r ∙ ap (place owner) p in
        let s' = s ∙ ap (place d.jobs.exit) r' in
        λ k. not (stands (place d.jobs.standing (r' k))) && eqb (p k) (s' k)

pub unknown_read : (d : Decoded) (a : Arc) (label : ℕ) → label ≡ a.label → leb d.channels.count label ≡ unknown d.channels.count a
unknown_read d a label p = ap (leb d.channels.count) p
