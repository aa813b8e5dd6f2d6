-- The stack of operands that the items build: one item more, how many operands there are, and how many positions they have.
use mathlib.Core.Path.{◌≡◌, refl}
use mathlib.Core.List.{List, [], ◌∷◌, ◌++◌}
use Prim.Native.Nat.{ℕ, ◌+◌, ◌*◌, ◌≤◌}
use native.Mathlib.Omega.{arith}
use lib.ListN.{length}
use Rattle.expressions.specs.Expression.{Expression, eps, set, seq, alt, star}
use Rattle.expressions.specs.Items.{Item, empty, events, sequence, choice, repeat, arity, push, push_all, operands}
use Rattle.expressions.specs.Positions.{size}
use Rattle.expressions.specs.Stack.{free}

-- ---- one item more

pub push_none : operands [] ≡ []
unfolding push_all
push_none = refl

pub push_all_more : (is : List Item) (i : Item) (st : List Expression) → push_all (is ++ (i ∷ [])) st ≡ push i (push_all is st)
unfolding push_all
push_all_more [] i st = refl
push_all_more (j ∷ is) i st = push_all_more is i (push j st)

pub push_more : (is : List Item) (i : Item) → operands (is ++ (i ∷ [])) ≡ push i (operands is)
push_more is i = push_all_more is i []

-- an item takes its operands and gives one
pub push_length : (i : Item) (st : List Expression) → arity i ≤ length st → length (push i st) + arity i ≡ length st + 1
push_length empty st h = omega arith
push_length (events m) st h = omega arith
push_length sequence (s ∷ r ∷ st) h = omega arith
push_length sequence (s ∷ []) h = absurd (omega arith)
push_length sequence [] h = absurd (omega arith)
push_length choice (s ∷ r ∷ st) h = omega arith
push_length choice (s ∷ []) h = absurd (omega arith)
push_length choice [] h = absurd (omega arith)
push_length repeat (r ∷ st) h = omega arith
push_length repeat [] h = absurd (omega arith)

-- ---- the number of the next position: those of the newest operand are the last

pub free_push : (i : Item) (st : List Expression) → free st ≤ free (push i st)
free_push empty st = omega arith
free_push (events m) st = omega arith
free_push sequence (s ∷ r ∷ st) = omega arith
free_push sequence (s ∷ []) = omega arith
free_push sequence [] = omega arith
free_push choice (s ∷ r ∷ st) = omega arith
free_push choice (s ∷ []) = omega arith
free_push choice [] = omega arith
free_push repeat (r ∷ st) = omega arith
free_push repeat [] = omega arith

-- ---- the number of items: an expression has one node for each item that built it

abbrev pub nodes : Expression → ℕ
nodes eps = 1
nodes (set m) = 1
nodes (seq r s) = 1 + nodes r + nodes s
nodes (alt r s) = 1 + nodes r + nodes s
nodes (star r) = 1 + nodes r

abbrev pub all_nodes : List Expression → ℕ
all_nodes [] = 0
all_nodes (r ∷ st) = all_nodes st + nodes r

-- n items built the operands, each of which found its own
abbrev pub Counted : ℕ → List Expression → Type 0
Counted n st = all_nodes st ≡ n

pub counted_none : Counted 0 []
counted_none = refl

pub counted_push : (n : ℕ) (i : Item) (st : List Expression) → arity i ≤ length st → Counted n st → Counted (n + 1) (push i st)
counted_push n empty st h c = omega arith
counted_push n (events m) st h c = omega arith
counted_push n sequence (s ∷ r ∷ st) h c = omega arith
counted_push n sequence (s ∷ []) h c = absurd (omega arith)
counted_push n sequence [] h c = absurd (omega arith)
counted_push n choice (s ∷ r ∷ st) h c = omega arith
counted_push n choice (s ∷ []) h c = absurd (omega arith)
counted_push n choice [] h c = absurd (omega arith)
counted_push n repeat (r ∷ st) h c = omega arith
counted_push n repeat [] h c = absurd (omega arith)

-- positions are leaves, and a tree of n nodes has at most (n + 1) / 2 of them
pub size_nodes : (r : Expression) → 2 * size r ≤ nodes r + 1
size_nodes eps = omega arith
size_nodes (set m) = omega arith
size_nodes (seq r s) = omega (arith, size_nodes r, size_nodes s)
size_nodes (alt r s) = omega (arith, size_nodes r, size_nodes s)
size_nodes (star r) = omega (arith, size_nodes r)

free_nodes : (st : List Expression) → 2 * free st ≤ all_nodes st + length st + 2
free_nodes [] = omega arith
free_nodes (r ∷ st) = omega (arith, size_nodes r, free_nodes st)

pub counted_free : (n : ℕ) (st : List Expression) → Counted n st → 2 * free st ≤ n + length st + 2
counted_free n st c = omega (arith, free_nodes st)
