-- What tables keep of jobs and channels are those, and so which jobs have to end. Assumes nothing.
use mathlib.Core.Path.{◌≡◌, refl, ap, ◌∙◌, fun_ext}
use mathlib.Core.Bool.{not}
use mathlib.Core.List.{List}
use Prim.Native.Nat.{ℕ}
use lib.ListN.{length, get_or}
use Rattle.sections.specs.Plan.{Job, stands}
use Rattle.rows.specs.Rows.{row, padded}
use Rattle.rows.proofs.Rows.{padded_places, column_at, row_places}
use Rattle.sections.specs.Tables.{end_by, job_table, channel_table, job_in, jobs_in, channels_in}

-- a job of zeros, past the end of a list
abbrev pub no_job : Job
no_job = record { size = 0; entry = 0; exit = 0; standing = 0 }

pub jobs_kept : (l : List Job) → jobs_in (job_table l) ≡ l
jobs_kept l = ap (row (length l)) (fun_ext same) ∙ row_places no_job l
  where
    same : (i : ℕ) → job_in (job_table l) i ≡ get_or l i no_job
    same i = λ j. record {
      size = column_at 16 (λ (b : Job). b.size) no_job refl l i j;
      entry = column_at 16 (λ (b : Job). b.entry) no_job refl l i j;
      exit = column_at 16 (λ (b : Job). b.exit) no_job refl l i j;
      standing = column_at 16 (λ (b : Job). b.standing) no_job refl l i j;
    }

pub ends_kept : (bits : List ℕ) → end_by (padded 16 bits) ≡ end_by bits
ends_kept bits = λ i j. not (stands (padded_places 16 bits i j))

pub channels_kept : (l : List ℕ) → channels_in (channel_table l) ≡ l
channels_kept l = ap (row (length l)) (padded_places 64 l) ∙ row_places 0 l
