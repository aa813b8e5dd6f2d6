-- The places behind the sets hold 0.
use Rattle.std.proofs.Common.{◌≡◌, ◌∙◌, ℕ, List, ◌++◌, ◌≤◌, length, drop, replicate, sym, ap}
use Rattle.std.proofs.lemmas.List.{drop-replicate}
use Rattle.rows.specs.Rows.{row, place, padded}
use Rattle.rows.proofs.Rows.{padded_places, padded_length, row_places}
use Rattle.readback.proofs.list_states.Goals as goal

filled : (l : List ℕ) → length l ≤ 64 → l ++ drop (length l) (replicate 64 0) ≡ row 64 (place l)
unfolding padded
filled l h =
    ap (λ (x : List ℕ). l ++ x) (drop-replicate (length l) 64 0)
    ∙ sym (row_places 0 (padded 64 l))
    ∙ ap (λ (n : ℕ). row n (place (padded 64 l))) (padded_length 64 l h)
    ∙ ap (row 64) (padded_places 64 l)

pub returns : goal.returns
returns c = ap (λ (x : List ℕ). x ++ drop (length c.args.sets.now) (replicate 64 0)) c.copy_from_slice.ensures.after ∙ filled c.args.sets.now c.requires
