-- How the code keeps the end of a unit without round brackets.
use Rattle.std.specs.Prelude.{◌≡◌, List, ℕ, ◌≤◌, ◌<◌, length, drop, Option, None, Some}
use Rattle.grammar.specs.Grammar.{Tree}
use Rattle.grammar.specs.Ways.{Outcome, broken, up_to}

-- the outcome of what begins at `at`: none, or a tree up to the byte n, one byte of the text at least
abbrev pub Ends : Outcome → (text : List ℕ) → (at : ℕ) → Option ℕ → Type 0
Ends o text at None = o ≡ broken
Ends o text at (Some n) = (t : Tree) × (o ≡ up_to t (drop n text)) × (at < n) × (n ≤ length text)
