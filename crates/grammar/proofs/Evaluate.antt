-- An executable reading, for tables of cases.
use mathlib.Core.Path.{◌≡◌, refl, subst}
use mathlib.Core.Bool.{Bool, true, false, cond}
use mathlib.Core.List.{List, [], ◌∷◌}
use mathlib.Core.Option.{Option, none, some, map, none-ne-some, some-injective}
use Prim.Native.Nat.{ℕ, zero, suc}
use borrow.Author.Tests.{eqb-true}
use lib.Dec.{eqb}
use lib.ListN.{drop}
use Rattle.grammar.specs.Grammar.{Tree, Reading, opening, closing}
use Rattle.grammar.specs.Ways.{Outcome, broken, up_to, starts_with, leaf, stars, choices, joined, Task, chain, onward, one_unit, operator, operand, Way, begins, fails, ends, joins, lacks, plain, unfit, inside, unclosed, within, tree_of}
use Rattle.grammar.proofs.Leaves.{starts}
use Rattle.grammar.proofs.Unique.{finished, closed, way_reading}

-- ---- the reading

-- what is read behind the first byte, if it is the one looked for
abbrev behind : Bool → List ℕ → (List ℕ → Option Outcome) → Option Outcome → Option Outcome
behind true w next o = next (drop 1 w)
behind false w next o = o

-- what is read behind a tree
abbrev after : Option Outcome → (Tree → List ℕ → Option Outcome) → Option Outcome
after none next = none
after (some broken) next = some broken
after (some (up_to t r)) next = next t r

abbrev step : (Task → List ℕ → Option Outcome) → Task → List ℕ → Option Outcome
step f (chain k) w = after (f (operand k) w) (λ t. f (onward k t))
step f (onward k s) w =
    behind (starts_with (operator k) w) w (λ v. after (f (operand k) v) (λ t. f (onward k (joined k s t)))) (some (up_to s w))
step f one_unit w = behind (starts_with opening w) w (λ v. map closed (f (chain choices) v)) (some (finished (leaf w)))

-- none where the steps are used up
unfoldable pub run : ℕ → Task → List ℕ → Option Outcome
run zero task w = none
run (suc n) task w = step (run n) task w

-- ---- units

pub leaf_step : (w : List ℕ) → starts_with opening w ≡ false → Way one_unit w (finished (leaf w))
leaf_step w n = go (leaf w) refl
  where
    go : (o : Outcome) → leaf w ≡ o → Way one_unit w (finished o)
    go broken q = unfit n q
    go (up_to t r) q = plain q refl

pub closed_step : (v w : List ℕ) (o : Outcome) → v ≡ opening ∷ w → Way (chain choices) w o → Way one_unit v (closed o)
closed_step v w broken q d = within q d
closed_step v w (up_to t []) q d = unclosed q d refl
closed_step v w (up_to t (c ∷ r)) q d = go (eqb c closing) refl
  where
    go : (b : Bool) → eqb c closing ≡ b → Way one_unit v (cond b (stars t r) broken)
    go true p = inside q (subst (λ (x : ℕ). Way (chain choices) w (up_to t (x ∷ r))) (eqb-true c closing p) d) refl
    go false p = unclosed q d p

-- ---- it is right

abbrev Right : (Task → List ℕ → Option Outcome) → Type 0
Right f = (task : Task) (w : List ℕ) (o : Outcome) → f task w ≡ some o → Way task w o

module _ (f : Task → List ℕ → Option Outcome) (h : Right f) where
  after_way : (task goal : Task) (next : Tree → Task) (w v : List ℕ)
      → ((t : Tree) (r : List ℕ) (o : Outcome) → Way task w (up_to t r) → Way (next t) r o → Way goal v o)
      → (Way task w broken → Way goal v broken) → (o : Outcome) → after (f task w) (λ t. f (next t)) ≡ some o → Way goal v o
  after_way task goal next w v more fail o = go (f task w) refl
    where
      go : (p : Option Outcome) → f task w ≡ p → after p (λ t. f (next t)) ≡ some o → Way goal v o
      go none q e = absurd (none-ne-some o e)
      go (some broken) q e = subst (Way goal v) (some-injective broken o e) (fail (h task w broken q))
      go (some (up_to t r)) q e = more t r o (h task w (up_to t r) q) (h (next t) r o e)

  step_way : Right (step f)
  step_way (chain k) w o e = after_way (operand k) (chain k) (onward k) w w (λ t r p d g. begins d g) fails o e
  step_way (onward k s) w o e = go (starts_with (operator k) w) refl e
    where
      go : (b : Bool) → starts_with (operator k) w ≡ b
          → behind b w (λ v. after (f (operand k) v) (λ t. f (onward k (joined k s t)))) (some (up_to s w)) ≡ some o → Way (onward k s) w o
      go true q e =
          let p = starts (operator k) w q in
          after_way (operand k) (onward k s) (λ t. onward k (joined k s t)) (drop 1 w) w (λ t r o d g. joins p d g) (lacks p) o e
      go false q e = subst (Way (onward k s) w) (some-injective (up_to s w) o e) (ends q)
  step_way one_unit w o e = go (starts_with opening w) refl e
    where
      inner : (p : Option Outcome) → w ≡ opening ∷ drop 1 w → f (chain choices) (drop 1 w) ≡ p → map closed p ≡ some o → Way one_unit w o
      inner none q p e = absurd (none-ne-some o e)
      inner (some i) q p e =
          subst (Way one_unit w) (some-injective (closed i) o e) (closed_step w (drop 1 w) i q (h (chain choices) (drop 1 w) i p))

      go : (b : Bool) → starts_with opening w ≡ b
          → behind b w (λ v. map closed (f (chain choices) v)) (some (finished (leaf w))) ≡ some o → Way one_unit w o
      go true q e = inner (f (chain choices) (drop 1 w)) (starts opening w q) refl e
      go false q e = subst (Way one_unit w) (some-injective (finished (leaf w)) o e) (leaf_step w q)

pub run_way : (n : ℕ) (task : Task) (w : List ℕ) (o : Outcome) → run n task w ≡ some o → Way task w o
unfolding run
run_way zero task w o e = absurd (none-ne-some o e)
run_way (suc n) task w o e = step_way (run n) (run_way n) task w o e

pub evaluated : (n : ℕ) (w : List ℕ) (o : Outcome) → run n (chain choices) w ≡ some o → Reading w (tree_of o)
evaluated n w o e = way_reading w o (run_way n (chain choices) w o e)
