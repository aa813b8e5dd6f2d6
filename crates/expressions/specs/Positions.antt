-- The position construction (Glushkov): sets of positions as numbers, position p has weight 2 ^ p. Document 01, "Pattern and automaton".
use Rattle.std.specs.Prelude.{Bool, true, false, ◌||◌, ◌&&◌, cond, not, List, [], ◌∷◌, ℕ, zero, suc, ◌+◌, ◌^◌, eqb}
use Rattle.std.specs.Int.Bits.{bit_or, bit_and}
use Rattle.masks.specs.Mask.{has, gather_below}
use Rattle.expressions.specs.Expression.{Expression, eps, set, seq, alt, star}

-- the empty string belongs to the language
abbrev pub null : Expression → Bool
null eps = true
null (set m) = false
null (seq r s) = null r && null s
null (alt r s) = null r || null s
null (star r) = true

-- "the events items are positions": how many there are
abbrev pub size : Expression → ℕ
size eps = 0
size (set m) = 1
size (seq r s) = size r + size s
size (alt r s) = size r + size s
size (star r) = size r

-- What begins, ends and follows, "read from the items' structure alone, a position with an empty set counted like any
-- other". The positions of an expression are numbered in plan order, from i on.

-- the positions that may begin a string
abbrev pub first : ℕ → Expression → ℕ
first i eps = 0
first i (set m) = 2 ^ i
first i (seq r s) = bit_or (first i r) (cond (null r) (first (i + size r) s) 0)
first i (alt r s) = bit_or (first i r) (first (i + size r) s)
first i (star r) = first i r

-- the positions that may end one
abbrev pub last : ℕ → Expression → ℕ
last i eps = 0
last i (set m) = 2 ^ i
last i (seq r s) = bit_or (cond (null s) (last i r) 0) (last (i + size r) s)
last i (alt r s) = bit_or (last i r) (last (i + size r) s)
last i (star r) = last i r

-- the positions that may follow the position p
abbrev pub follow : ℕ → Expression → ℕ → ℕ
follow i eps p = 0
follow i (set m) p = 0
follow i (seq r s) p = bit_or (bit_or (follow i r p) (follow (i + size r) s p)) (cond (has (last i r) p) (first (i + size r) s) 0)
follow i (alt r s) p = bit_or (follow i r p) (follow (i + size r) s p)
follow i (star r) p = bit_or (follow i r p) (cond (has (last i r) p) (first i r) 0)

-- the positions whose set holds the event e
abbrev pub holding : ℕ → Expression → ℕ → ℕ
holding i eps e = 0
holding i (set m) e = cond (has m e) (2 ^ i) 0
holding i (seq r s) e = bit_or (holding i r e) (holding (i + size r) s e)
holding i (alt r s) e = bit_or (holding i r e) (holding (i + size r) s e)
holding i (star r) e = holding i r e

-- ---- the automaton: "positions 1, 2 and so on in plan order, position 0 is the beginning"

-- the positions that may follow p, the beginning included
abbrev pub after : Expression → ℕ → ℕ
after r zero = first 1 r
after r (suc p) = follow 1 r (suc p)

-- "State 0 is {0}."
abbrev pub start : ℕ
start = 1

-- "by event e it moves to all positions that may follow one of its members and whose set holds e"
unfoldable pub step : Expression → ℕ → ℕ → ℕ
step r e m = bit_and (gather_below (after r) (suc (size r)) m) (holding 1 r e)

-- the positions at which a string may end: "a position that may end a string, or .. 0 where the empty string belongs to the language"
unfoldable pub final : Expression → ℕ
final r = bit_or (last 1 r) (cond (null r) 1 0)

-- "A state accepts if it holds" one of them
unfoldable pub accepts : Expression → ℕ → Bool
accepts r m = not (eqb (bit_and m (final r)) 0)

-- the set of positions that a string reaches from the set m
abbrev pub reached : Expression → ℕ → List ℕ → ℕ
reached r m [] = m
reached r m (e ∷ w) = reached r (step r e m) w
