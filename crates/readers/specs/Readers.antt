-- How the readers keep what they read: an order of places of the text, one for each item. No public promise speaks of it.
use Rattle.std.specs.Prelude.{◌≡◌, true, false, List, ◌++◌, ℕ, ◌+◌, ◌≤◌, ◌<◌, length, drop, Option, None, Some}
use Rattle.expressions.specs.declared.Item.{Item}
use Rattle.grammar.specs.Grammar.{Tree, closing}
use Rattle.grammar.specs.Meaning.{items_of}
use Rattle.grammar.specs.Ways.{broken, up_to, starts_with, stars, chain, choices, items_by, Task, Way}

-- what a reader is lent: a text that is short enough, and no more items in the order than bytes were passed
pub record Lent (text order : List ℕ) (at : ℕ) : Type 0 where
  pub bytes : length text ≤ 255
  pub fewer : length order ≤ at

-- the order went from `before` to `after`: if the tree t had the last items before, s has them after
pub record Continued (text before after : List ℕ) (t s : Tree) : Type 0 where
  pub items : (a : ℕ) (pre : List Item) → items_by a text before ≡ pre ++ items_of a t → items_by a text after ≡ pre ++ items_of a s

-- a reader went on from `at`, and the order from `before` to `after`
module _ (text : List ℕ) (at : ℕ) (before after : List ℕ) where
  -- stars up to the place `next`
  pub record Starred (next : ℕ) : Type 0 where
    pub further : at ≤ next
    pub within : next ≤ length text
    pub few : length after + at ≡ next + length before
    pub goes : (t : Tree) → (s : Tree) × (stars t (drop at text) ≡ up_to s (drop next text)) × Continued text before after t s

  -- the closing bracket and the stars behind it
  abbrev pub Closes : Option ℕ → Type 0
  Closes None = starts_with closing (drop at text) ≡ false
  Closes (Some next) =
      (starts_with closing (drop at text) ≡ true)
      × (at < next)
      × (next ≤ length text)
      × (length after + at < next + length before)
      × ((t : Tree) → (s : Tree) × (stars t (drop (at + 1) text) ≡ up_to s (drop next text)) × Continued text before after t s)

  -- a task was done: it gives no more items than it passes bytes
  pub record Onward (task : Task) (next : ℕ) : Type 0 where
    pub tree : Tree
    pub way : Way task (drop at text) (up_to tree (drop next text))
    pub further : at < next
    pub within : next ≤ length text
    pub few : length after + at ≤ next + length before
    pub items : (a : ℕ) → items_by a text after ≡ items_by a text before ++ items_of a tree

  abbrev pub Went : Task → Option ℕ → Type 0
  Went task None = Way task (drop at text) broken
  Went task (Some next) = Onward task next

-- all that is read from the beginning of a text: its first `end` bytes are a choice, and the order has the items of its tree
pub record Came (text order : List ℕ) (end : ℕ) : Type 0 where
  pub tree : Tree
  pub way : Way (chain choices) text (up_to tree (drop end text))
  pub within : end ≤ length text
  pub items : (a : ℕ) → items_by a text order ≡ items_of a tree

abbrev pub Read : (text order : List ℕ) → Option ℕ → Type 0
Read text order None = Way (chain choices) text broken
Read text order (Some end) = Came text order end
