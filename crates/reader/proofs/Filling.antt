-- Filling the array of the nodes' jobs. Assumes nothing.
use mathlib.Core.Path.{◌≡◌, sym}
use mathlib.Core.List.{List, ◌++◌, append_assoc}
use Prim.Native.Nat.{ℕ, ◌+◌, ◌-◌, ◌≤◌}
use native.Mathlib.Omega.{arith}
use lib.ListN.{length, take, drop, replicate, length-append, length-replicate}
use lib.Seq.{take_at, drop-append-add}
use Rattle.std.proofs.lemmas.List.{drop-replicate}
use Rattle.rows.specs.Rows.{padded}

-- the nodes of one job more
pub own_all : (xs : List ℕ) (at n v : ℕ) → length xs ≡ at → at + n ≤ 256
    → xs ++ (replicate n v ++ drop (at + n) (padded 256 xs)) ≡ padded 256 (xs ++ replicate n v)
unfolding padded
own_all xs at n v e h =
    let k : at + n ≡ length xs + n = omega arith in
    let rest : 256 - length xs - n ≡ 256 - length (xs ++ replicate n v) = omega (arith, length-append xs (replicate n v), length-replicate {A = ℕ} n v) in
    rw (k, drop-append-add xs (replicate (256 - length xs) 0) n, drop-replicate, rest) (sym (append_assoc xs (replicate n v) _))

-- what stands before the nodes to come
pub take_padded : (xs : List ℕ) (at : ℕ) → length xs ≡ at → take at (padded 256 xs) ≡ xs
unfolding padded
take_padded xs at e = take_at xs (replicate (256 - length xs) 0) at e
