-- The nodes behind those that have their jobs get theirs, and the others have none yet.
use Rattle.std.proofs.Common.{◌≡◌, ◌∙◌, ℕ, ◌+◌, ◌-◌, ◌≤◌, List, ◌++◌, length, take, drop, replicate, length-drop, ap, arith}
use lib.ListN.{length-take}
use Rattle.std.proofs.lemmas.List.{drop-drop}
use Rattle.rows.specs.Rows.{padded}
use Rattle.reader.proofs.Filling.{own_all}
use Rattle.reader.proofs.own.Goals as goal

filled : (owner : List ℕ) (at n v m : ℕ) (new : List ℕ) → m ≡ n → at + n ≤ 256 → owner ≡ padded 256 (take at owner) → length (take at owner) ≡ at → new ≡ replicate n v
    → take at owner ++ (new ++ drop m (drop at owner)) ≡ padded 256 (take at owner ++ replicate n v)
filled owner at n v m new k h p l e =
    let behind : drop m (drop at owner) ≡ drop (at + n) (padded 256 (take at owner)) = rw k (rw drop-drop (ap (drop (at + n)) p)) in
    rw (e, behind) (own_all (take at owner) at n v l h)

pub returns : goal.returns
returns c =
    let a = c.args in
    let same : a.at + a.size - a.at ≡ a.size = omega arith in
    let long : length (take (a.at + a.size - a.at) (drop a.at a.owner.now)) ≡ a.size = omega (arith, length-take (a.at + a.size - a.at) (drop a.at a.owner.now), length-drop a.at a.owner.now, c.told-owner) in
    let new = c.fill.ensures.after (λ y h. h) ∙ ap (λ (k : ℕ). replicate k a.job) long in
    filled a.owner.now a.at a.size a.job (a.at + a.size - a.at) _ same c.requires.0 c.requires.1 c.requires.2 new
