-- The bits of a list of bytes, the most significant first, and the fields that they write.
-- Document 01, "The bit-packed plan": "Fields are unsigned, the most significant bit first, one after the other."
use Rattle.std.specs.Prelude.{ℕ, suc, ◌+◌, ◌*◌, ◌/◌, ◌%◌, ◌^◌, List, [], ◌∷◌, ◌++◌, take, drop}

-- the eight bits of a byte
abbrev pub bits_of_byte : ℕ → List ℕ
bits_of_byte b = b / 128 % 2 ∷ b / 64 % 2 ∷ b / 32 % 2 ∷ b / 16 % 2 ∷ b / 8 % 2 ∷ b / 4 % 2 ∷ b / 2 % 2 ∷ b / 1 % 2 ∷ []

unfoldable pub bits_of : List ℕ → List ℕ
bits_of [] = []
bits_of (b ∷ bs) = bits_of_byte b ++ bits_of bs

-- the `width` bits from the place `at` on
abbrev pub bits_at : List ℕ → ℕ → ℕ → List ℕ
bits_at bytes at width = take width (drop at (bits_of bytes))

-- the number that a list of bits writes, after the bits that wrote acc
unfoldable pub value_from : ℕ → List ℕ → ℕ
value_from acc [] = acc
value_from acc (b ∷ bs) = value_from (acc * 2 + b) bs

-- the unsigned field of `width` bits from the place `at` on
unfoldable pub field_at : List ℕ → ℕ → ℕ → ℕ
field_at bytes at width = value_from 0 (bits_at bytes at width)

-- the set of the events, numbered from e on, whose bit is one; event e has weight 2 ^ e
unfoldable pub events_from : ℕ → List ℕ → ℕ
events_from e [] = 0
events_from e (b ∷ bs) = b * 2 ^ e + events_from (suc e) bs

-- a set of events in the plan, 31 bits: "first bit event 1, last bit event 31"
unfoldable pub events_at : List ℕ → ℕ → ℕ
events_at bytes at = events_from 1 (bits_at bytes at 31)
