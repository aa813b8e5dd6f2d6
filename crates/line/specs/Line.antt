-- The line that tells an answer, in bytes. Document 01, "The pattern part and the program".
use Rattle.std.specs.Prelude.{cond, List, [], ◌∷◌, ◌++◌, ℕ, zero, suc, ◌/◌, ◌%◌, ltb, Result, Ok, Err}
use Prim.Native.Char.{code}
use Prim.Native.String.{String, [] as end, ◌∷◌ as ◌then◌}
use Rattle.io.specs.Digits.{hex_digit_ascii, last_digits}
use Rattle.verdict.specs.declared.Counts.{Counts}
use Rattle.refusals.specs.Numbers.{number}
use Rattle.verdict.specs.declared.Verdict.{Verdict}
use Rattle.verdict.specs.declared.Verdict.TheVariants.{Verified, Inconclusive}
use Rattle.verdict.specs.Answer.{Answer}

-- the bytes of a text
abbrev pub text : String → List ℕ
text end = []
text (c then s) = code c ∷ text s

-- a number in decimal, no zeros in front; of at most k + 1 digits
unfoldable pub decimal_within : ℕ → ℕ → List ℕ
decimal_within zero n = hex_digit_ascii n ∷ []
decimal_within (suc k) n = cond (ltb n 10) (hex_digit_ascii n ∷ []) (decimal_within k (n / 10) ++ (hex_digit_ascii (n % 10) ∷ []))

-- "decimal counts": those that the code keeps have at most 20 digits
abbrev pub decimal : ℕ → List ℕ
decimal n = decimal_within 19 n

-- "16 lower-case hexadecimal digits"
abbrev pub hexadecimal : ℕ → List ℕ
hexadecimal m = last_digits 16 16 m

-- "decimal counts named by the word before them, then the final set as 16 lower-case hexadecimal digits"
abbrev pub fields : Counts → List ℕ
fields c =
    text " states " ++ decimal c.states
    ++ text " meetings " ++ decimal c.meetings
    ++ text " ordering " ++ decimal c.ordering
    ++ text " pairs " ++ decimal c.pairs
    ++ text " fill " ++ decimal c.fill
    ++ text " final " ++ hexadecimal c.ends

-- "verdict (`verified` or `inconclusive`)", then the fields; "A refusal prints `refused 5`, with its number.", by the numbering of refusals
-- that is handed over
abbrev pub answer_text_by : {R : Type 0} → (R → ℕ) → Result Verdict R → List ℕ
answer_text_by numbering (Err r) = text "refused " ++ decimal (numbering r)
answer_text_by numbering (Ok (Verified c)) = text "verified" ++ fields c
answer_text_by numbering (Ok (Inconclusive c)) = text "inconclusive" ++ fields c

-- "prints one line": it ends with one line feed
unfoldable pub line_by : {R : Type 0} → (R → ℕ) → Result Verdict R → List ℕ
line_by numbering a = answer_text_by numbering a ++ text "\n"

-- of an answer
abbrev pub answer_text : Answer → List ℕ
answer_text a = answer_text_by number a

abbrev pub line_of : Answer → List ℕ
line_of a = line_by number a
