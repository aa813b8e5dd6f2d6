-- The kind and the set of an item, as numbers.
use Rattle.std.specs.Prelude.{ℕ}
use Rattle.expressions.specs.declared.Item.{Item}
use Rattle.expressions.specs.declared.Item.TheVariants.{Empty as empty, Events as events, Sequence as sequence, Choice as choice, Repeat as repeat}

abbrev pub kind_of : Item → ℕ
kind_of empty = 0
kind_of (events m) = 1
kind_of sequence = 2
kind_of choice = 3
kind_of repeat = 4

-- the set of an item, empty where its kind has none
abbrev pub set_of : Item → ℕ
set_of (events m) = m
set_of empty = 0
set_of sequence = 0
set_of choice = 0
set_of repeat = 0
