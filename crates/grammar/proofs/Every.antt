-- Every text has a reading: each task comes to an outcome, since what it leaves is shorter.
use mathlib.Core.Path.{◌≡◌, refl, ap}
use mathlib.Core.Bool.{Bool, true, false}
use mathlib.Core.List.{List, [], ◌∷◌}
use mathlib.Core.Option.{Option}
use Prim.Native.Nat.{ℕ, zero, suc, ◌+◌, ◌*◌, ◌≤◌, ◌<◌}
use native.Mathlib.Omega.{arith}
use lib.ListN.{length, drop, length-append}
use Rattle.grammar.specs.Grammar.{Tree, Part, Reads, Reading, alone, bars, single, semicolons, zero as nought, lone, set, rest, brackets, star, semicolon, bar, asterisk, opening}
use Rattle.grammar.specs.Ways.{Outcome, broken, up_to, starts_with, leaf, Chain, choices, sequences, joined, Task, chain, onward, one_unit, operator, operand, Way, begins, fails, ends, joins, lacks, tree_of}
use Rattle.grammar.proofs.Leaves.{starts}
use Rattle.grammar.proofs.Sound.{operand_sound}
use Rattle.grammar.proofs.Unique.{finished, closed, way_reading}
use Rattle.grammar.proofs.Evaluate.{leaf_step, closed_step}

-- ---- no part is empty

some_bytes : {p : Part} {w : List ℕ} {t : Tree} → Reads p w t → 1 ≤ length w
some_bytes (alone d) = some_bytes d
some_bytes (bars {u} {v} d e q) = rw (q, length-append u (bar ∷ v)) (omega arith)
some_bytes (single d) = some_bytes d
some_bytes (semicolons {u} {v} d e q) = rw (q, length-append u (semicolon ∷ v)) (omega arith)
some_bytes (nought q) = rw q (omega arith)
some_bytes (lone h q) = rw q (omega arith)
some_bytes (set h q) = rw q (omega arith)
some_bytes (rest h q) = rw q (omega arith)
some_bytes (brackets d q) = rw q (omega arith)
some_bytes (star {u} d q) = rw (q, length-append u (asterisk ∷ [])) (omega arith)

shorter : (k : Chain) {w : List ℕ} {t : Tree} {r : List ℕ} → Way (operand k) w (up_to t r) → length r < length w
shorter k {w} {t} {r} d = let (u, q, e) = operand_sound k d in rw (q, length-append u r) (omega (arith, some_bytes e))

-- ---- tasks

-- what a task has to do, counted so that it falls from each task to those that it makes
abbrev rank : Task → ℕ
rank (chain choices) = 2
rank (chain sequences) = 1
rank (onward k s) = 0
rank one_unit = 0

abbrev size : Task → List ℕ → ℕ
size task w = 3 * length w + rank task

operand_rank : (k : Chain) → (rank (operand k) < rank (chain k)) × (rank (operand k) ≤ 1)
operand_rank choices = omega arith
operand_rank sequences = omega arith

abbrev Comes : ℕ → Type 0
Comes n = (task : Task) (w : List ℕ) → size task w < n → (o : Outcome) × Way task w o

module _ (n : ℕ) (before : Comes n) where
  -- an operand on the bytes v, and the chain behind it
  goes_on : (k : Chain) (next : Tree → Tree) (task : Task) (w v : List ℕ) → size (operand k) v < n
      → ((t : Tree) (r : List ℕ) (o : Outcome) → Way (operand k) v (up_to t r) → Way (onward k (next t)) r o → Way task w o)
      → (Way (operand k) v broken → Way task w broken) → (o : Outcome) × Way task w o
  goes_on k next task w v l more fail = let (o, d) = before (operand k) v l in go o d
    where
      go : (o : Outcome) → Way (operand k) v o → (o : Outcome) × Way task w o
      go broken d = (broken, fail d)
      go (up_to t r) d = let (o, e) = before (onward k (next t)) r (omega (arith, shorter k d)) in (o, more t r o d e)

  one_more : Comes (suc n)
  one_more (chain k) w l = goes_on k (λ t. t) (chain k) w w (omega (arith, operand_rank k)) (λ t r o d e. begins d e) fails
  one_more (onward k s) w l = go (starts_with (operator k) w) refl
    where
      go : (b : Bool) → starts_with (operator k) w ≡ b → (o : Outcome) × Way (onward k s) w o
      go true q =
          let p = starts (operator k) w q in
          goes_on k (joined k s) (onward k s) w (drop 1 w) (omega (arith, operand_rank k, ap length p)) (λ t r o d e. joins p d e) (lacks p)
      go false q = (up_to s w, ends q)
  one_more one_unit w l = go (starts_with opening w) refl
    where
      go : (b : Bool) → starts_with opening w ≡ b → (o : Outcome) × Way one_unit w o
      go true q =
          let p = starts opening w q in
          let (o, d) = before (chain choices) (drop 1 w) (omega (arith, ap length p)) in
          (closed o, closed_step w (drop 1 w) o p d)
      go false q = (finished (leaf w), leaf_step w q)

comes : (n : ℕ) → Comes n
comes zero task w l = absurd (omega arith)
comes (suc n) task w l = one_more n (comes n) task w l

pub every_text : (w : List ℕ) → (o : Option Tree) × Reading w o
every_text w =
    let (o, d) = comes (3 * length w + 3) (chain choices) w (omega arith) in
    (tree_of o, way_reading w o d)
