-- What the tests of entries, exits and arcs need: jobs of nodes that are jobs.
use Rattle.std.specs.Prelude.{ℕ, ◌<◌, List}
use Rattle.rows.specs.Rows.{place}

-- each node's job is one of n
abbrev pub OwnersBelow : ℕ → List ℕ → Type 0
OwnersBelow n owner = (i : ℕ) → place owner i < n
