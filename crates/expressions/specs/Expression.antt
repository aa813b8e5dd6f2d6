-- Patterns as expressions, and their language. Document 01, "Pattern and automaton".
use Rattle.std.specs.Prelude.{◌≡◌, List, [], ◌∷◌, ◌++◌, ◌⊎◌, ℕ}
use Rattle.masks.specs.Mask.{In}

-- the empty string, one event of a set (event e has weight 2 ^ e), sequence, choice (the older operand first), star
pub data Expression : Type 0 where
  eps : Expression
  set : ℕ → Expression
  seq alt : Expression → Expression → Expression
  star : Expression → Expression

-- "each string of the older operand followed by one of the newer"
abbrev pub Followed : (List ℕ → Type 0) → (List ℕ → Type 0) → List ℕ → Type 0
Followed P Q w = (u v : List ℕ) × P u × Q v × (w ≡ u ++ v)

-- "the empty string, and each string made by joining one or more strings"
pub data Joined (P : List ℕ → Type 0) : List ℕ → Type 0 where
  done : Joined P []
  more : {u v w : List ℕ} → P u → Joined P v → w ≡ u ++ v → Joined P w

-- "The language of a pattern is the usual one of regular expressions, built item by item."
abbrev pub Language : Expression → List ℕ → Type 0
-- "The empty string gives that string alone."
Language eps w = w ≡ []
-- "One event of a set gives each string of a single event which the set holds"
Language (set m) w = (e : ℕ) × In e m × (w ≡ e ∷ [])
-- "Sequence gives each string of the older operand followed by one of the newer."
Language (seq r s) w = Followed (Language r) (Language s) w
-- "Choice gives each string of either."
Language (alt r s) w = Language r w ⊎ Language s w
-- "Star gives the empty string, and each string made by joining one or more strings of its operand."
Language (star r) w = Joined (Language r) w
