-- Lines, by evaluation.
use mathlib.Core.Path.{◌≡◌, refl}
use mathlib.Core.List.{List, [], ◌∷◌, map}
use Prim.Native.Nat.{ℕ, ◌-◌, ◌^◌}
use Prim.Native.String.{String}
use Rattle.verdict.specs.declared.Counts.{Counts}
use Rattle.std.specs.Prelude.{Ok, Err}
use Rattle.refusals.specs.declared.Refusal.TheVariants.{TooShort, WrongSizes, ItemsCut, ShortRow}
use Rattle.verdict.specs.declared.Verdict.TheVariants.{Verified, Inconclusive}
use Rattle.verdict.specs.Answer.{Answer}
use Rattle.line.specs.Line.{text, decimal_within, line_by, line_of}

-- states, meetings, ordering, pairs, fill, and the final set
abbrev counts : ℕ → ℕ → ℕ → ℕ → ℕ → ℕ → Counts
counts s m o p f e = record { states = s; meetings = m; ordering = o; pairs = p; fill = f; ends = e }

-- an answer, and its line
abbrev Case : Type 0
Case = Answer × String

abbrev cases : List Case
cases =
    (Ok (Verified (counts 3 0 0 2 33 2)), "verified states 3 meetings 0 ordering 0 pairs 2 fill 33 final 0000000000000002\n")
    ∷ (
      Ok (Inconclusive (counts 64 16384 4194304 16384 100 (2 ^ 64 - 1))),
      "inconclusive states 64 meetings 16384 ordering 4194304 pairs 16384 fill 100 final ffffffffffffffff\n",
    )
    ∷ (Ok (Verified (counts 1 10 9 0 0 0)), "verified states 1 meetings 10 ordering 9 pairs 0 fill 0 final 0000000000000000\n")
    ∷ (Ok (Inconclusive (counts 5 100 99 18 60 20)), "inconclusive states 5 meetings 100 ordering 99 pairs 18 fill 60 final 0000000000000014\n")
    ∷ (
      Ok (Inconclusive (counts (2 ^ 32 - 1) 1 2 3 4 81985529216486895)),
      "inconclusive states 4294967295 meetings 1 ordering 2 pairs 3 fill 4 final 0123456789abcdef\n",
    )
    ∷ (Err TooShort, "refused 1\n")
    ∷ (Err WrongSizes, "refused 5\n")
    ∷ (Err ItemsCut, "refused 10\n")
    ∷ (Err ShortRow, "refused 17\n")
    ∷ []

pub lines : map (λ (c : Case). line_of c.0) cases ≡ map (λ (c : Case). text c.1) cases
unfolding line_by decimal_within
lines = refl

-- a bare number, and the line of an answer that is refused by it
abbrev Number : Type 0
Number = ℕ × String

abbrev numbers : List Number
numbers =
    (0, "refused 0\n") ∷ (21, "refused 21\n") ∷ (22, "refused 22\n") ∷ (1000, "refused 1000\n") ∷ (2 ^ 32 - 1, "refused 4294967295\n") ∷ []

pub refused_lines : map (λ (n : Number). line_by (λ (k : ℕ). k) (Err n.0)) numbers ≡ map (λ (n : Number). text n.1) numbers
unfolding line_by decimal_within
refused_lines = refl
