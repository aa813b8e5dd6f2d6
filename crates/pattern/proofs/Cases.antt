-- Whole plans with their patterns: what the checks 1 to 16 and 21 answer, how many states, which part, by evaluation.
use mathlib.Core.Path.{◌≡◌, refl}
use mathlib.Core.List.{List, [], ◌∷◌, ◌++◌, map, Memᴰ}
use mathlib.Core.Option
use mathlib.Core.Option.{Option, none, some}
use Prim.Native.Nat.{ℕ, zero, suc, ◌+◌, ◌^◌}
use lib.ListN.{length, take, set}
use Rattle.masks.specs.Mask.{digit, gather_below}
use Rattle.fields.specs.Bits.{bits_of, value_from, field_at, events_from, events_at}
use Rattle.rows.specs.Rows.{row}
use Rattle.sections.specs.Layout.{plan_of}
use Rattle.plan.specs.Checks.{first, any_from}
use Rattle.plan.specs.Nodes.{owners_from, total}
use Rattle.plan.specs.Refusals.{counts_outside}
use Rattle.plan.proofs.Cases as plans
use Rattle.plan.proofs.Cases.{P, Fields, packed, job, step, channel, link, agree}
use Rattle.expressions.specs.Items.{push_all}
use Rattle.expressions.specs.Positions as positions
use Rattle.numbering.specs.Numbering.{index, collect, build, states}
use Rattle.item.specs.Faults.{item_at}
use Rattle.items.specs.Refusals.{read, items_refusal}
use Rattle.items.proofs.Cases.{kind, one, sequence, choice, repeat}
use Rattle.automaton.specs.Automaton.{watched_below, states_of}
use Rattle.pattern.specs.Refusals.{expression_of, acceptable, pattern_part}

-- ---- plans

-- a plan of one job of two nodes with one step, as P, with an alphabet and a pattern of n items
abbrev with_pattern : ℕ → ℕ → Fields → List ℕ
with_pattern alphabet n pattern =
    packed ((1, 5) ∷ (2, 9) ∷ (1, 9) ∷ (0, 8) ∷ (0, 8) ∷ (0, 7) ∷ (0, 1) ∷ (n, 7) ∷ (alphabet, 31) ∷ job 2 0 1 ++ step 0 1 1) ++ packed pattern

-- the alphabets of no event; of 1; of 1 and 2; of 1, 2 and 3: event 1 is the first of 31 bits
abbrev b₀ : ℕ
b₀ = 0

abbrev b₁ : ℕ
b₁ = 2 ^ 30

abbrev b₂ : ℕ
b₂ = 2 ^ 30 + 2 ^ 29

abbrev b₃ : ℕ
b₃ = 2 ^ 30 + 2 ^ 29 + 2 ^ 28

-- "from 000's example": two jobs, a call and an accept, and 1 then 2 then 3
abbrev pub two_jobs : List ℕ
two_jobs =
    packed ((2, 5) ∷ (6, 9) ∷ (2, 9) ∷ (1, 8) ∷ (1, 8) ∷ (1, 7) ∷ (0, 1) ∷ (5, 7) ∷ (b₃, 31) ∷ job 3 0 2 ++ job 3 3 5 ++ step 0 1 1 ++ step 4 5 3 ++ channel 2 ++ link 1 2 0 ++ link 3 4 0)
    ++ packed (one (1 ∷ []) ++ one (2 ∷ []) ++ sequence ++ one (3 ∷ []) ++ sequence)

-- "star of {1,2}, then {1}, then {1,2}" n times in sequence: 4 + 2 n items
abbrev later : ℕ → Fields
later zero = []
later (suc n) = one (1 ∷ 2 ∷ []) ++ sequence ++ later n

abbrev pub distance : ℕ → ℕ → List ℕ
distance items n = with_pattern b₂ items (one (1 ∷ 2 ∷ []) ++ repeat ++ one (1 ∷ []) ++ sequence ++ later n)

-- ---- refusals

abbrev Case : Type 0
Case = List ℕ × Option ℕ

abbrev pub cases : List Case
cases =
    (P, none)
    ∷ (two_jobs, none)
    ∷ (distance 12 4, none)
    ∷ (distance 14 5, some 16)  -- "Five times: 65, refused 16."
    ∷ (take 10 P, some 1)
    ∷ (take 16 P, some 3)
    ∷ (take 17 P, some 10)
    ∷ (take 18 P, some 10)
    ∷ (take 21 P, some 10)  -- "Its last byte dropped: 10."
    ∷ (set P 21 0x01, some 15)  -- "Its last byte `01`: 15."
    ∷ (P ++ (0x00 ∷ []), some 15)
    ∷ (with_pattern b₁ 1 (kind 5), some 11)
    ∷ (with_pattern b₁ 1 (one (2 ∷ [])), some 12)
    ∷ (with_pattern b₁ 1 repeat, some 13)
    ∷ (with_pattern b₁ 2 (one (1 ∷ [])), some 14)
    ∷ (take 21 (set P 16 0x11), some 4)  -- 4 and 10
    ∷ (plans.one (job 2 0 1) (step 1 0 1) ++ take 4 (packed (one (1 ∷ []))), some 8)  -- 8 and 10
    ∷ (distance 14 5 ++ (0x00 ∷ []), some 15)  -- 15 and 16
    ∷ (set P 13 0x02, some 21)  -- order 5: one job, which stands; 21 and 10, 21 and 16
    ∷ (take 21 (set P 13 0x02), some 21)
    ∷ (set (distance 14 5) 13 0x02, some 21)
    ∷ []

answers : map (λ (c : Case). first acceptable c.0) cases ≡ map (λ (c : Case). c.1) cases
unfolding bits_of value_from field_at events_from events_at row plan_of first any_from owners_from total counts_outside push_all item_at read items_refusal states_of states build collect index positions.step watched_below digit gather_below
answers = refl

-- every plan of the table is answered as the table says
pub all_cases : {c : Case} → Memᴰ c cases → first acceptable c.0 ≡ c.1
all_cases m = agree (λ (c : Case). first acceptable c.0) (λ (c : Case). c.1) answers m

-- ---- states

abbrev count : List ℕ → Option ℕ
count b = Option.map length (states_of (expression_of b) (plan_of b).alphabet)

abbrev pub counted : List Case
counted =
    (P, some 3)
    ∷ (two_jobs, some 5)
    ∷ (distance 12 4, some 33)
    ∷ (distance 14 5, none)
    ∷ (with_pattern b₀ 1 (kind 0), some 1)  -- an empty alphabet: one state
    ∷ (with_pattern b₀ 2 (kind 0 ++ repeat), some 1)
    ∷ (with_pattern b₁ 1 (kind 0), some 2)
    ∷ (with_pattern b₁ 1 (one []), some 2)  -- an empty set: it matches no string
    ∷ (with_pattern b₁ 2 (one [] ++ repeat), some 2)
    ∷ (with_pattern b₁ 4 (one (1 ∷ []) ++ repeat ++ repeat ++ repeat), some 2)  -- nested stars
    ∷ (with_pattern b₂ 3 (one (1 ∷ []) ++ one (2 ∷ []) ++ choice), some 4)
    ∷ (with_pattern b₂ 1 (one (1 ∷ [])), some 3)  -- a watched event that no set holds
    ∷ []

counts : map (λ (c : Case). count c.0) counted ≡ map (λ (c : Case). c.1) counted
unfolding bits_of value_from field_at events_from events_at row plan_of first push_all item_at read states_of states build collect index positions.step watched_below digit gather_below
counts = refl

pub all_counts : {c : Case} → Memᴰ c counted → count c.0 ≡ c.1
all_counts m = agree (λ (c : Case). count c.0) (λ (c : Case). c.1) counts m

-- ---- parts

pub parts : (pattern_part P ≡ 0x30 ∷ 0x00 ∷ 0x00 ∷ 0x00 ∷ 0x00 ∷ []) × (pattern_part (take 21 P) ≡ []) × (pattern_part (distance 14 5) ≡ []) × (pattern_part (set P 13 0x02) ≡ [])
unfolding bits_of value_from field_at events_from events_at row plan_of first any_from owners_from total counts_outside push_all item_at read items_refusal states_of states build collect index positions.step watched_below digit gather_below pattern_part
parts = (refl, refl, refl, refl)
