-- Plans, and what the checks before the pattern answer to each, by evaluation.
use mathlib.Core.Path.{◌≡◌, refl}
use mathlib.Core.List.{List, [], ◌∷◌, ◌++◌, map, Memᴰ}
use mathlib.Core.Option.{Option, none, some}
use Prim.Native.Nat.{ℕ, zero, suc, ◌+◌, ◌*◌, ◌^◌}
use lib.ListN.{take, set, replicate}
use Rattle.std.specs.Prelude.{Result, Ok, IfOk}
use Rattle.fields.specs.Bits.{bits_of, value_from, field_at, events_from, events_at}
use Rattle.sections.specs.declared.Kind.TheVariants.{Every, None}
use Rattle.rows.specs.Rows.{row}
use Rattle.sections.specs.Layout.{head_of, pattern_at, plan_of}
use Rattle.plan.specs.Checks.{first, any_from}
use Rattle.plan.specs.Nodes.{owners_from, total}
use Rattle.plan.specs.Refusals.{counts_outside, order}
use Rattle.plan.proofs.Cases.{P, Fields, packed, head, job, service, step, channel, link, one, agree}
use Rattle.refusals.specs.declared.Refusal.{Refusal}
use Rattle.refusals.specs.Numbers.{refusal_of}
use Rattle.reader.specs.declared.Reading.{Reading}
use Rattle.reader.specs.Reading.{accepted}
use Rattle.reader.proofs.Answered.{accepted_is}

-- ---- plan P of document 01

-- "P is one job, 0 to 1 by event 1, pattern: event 1."
pub P_says : plan_of P ≡ record {
  nodes = 2;
  kind = Every;
  items = 1;
  alphabet = 2 ^ 1;
  jobs = record { size = 2; entry = 0; exit = 1; standing = 0 } ∷ [];
  steps = record { from = 0; to = 1; label = 1 } ∷ [];
  channels = [];
  calls = [];
  accepts = [];
}
unfolding bits_of value_from field_at events_from events_at row plan_of
P_says = refl

-- its sections take 54 + 31 + 26 + 21 bits, and so 17 bytes
pub P_pattern : pattern_at (head_of P) ≡ 17
unfolding bits_of value_from field_at
P_pattern = refl

pub P_passes : first order P ≡ none
unfolding bits_of value_from field_at events_from events_at row plan_of first any_from owners_from total counts_outside
P_passes = refl

-- what meets the promise of the reader on P is the plan
pub P_read : (r : Result Reading Refusal) → refusal_of r ≡ first order P → IfOk r (λ x. x ≡ accepted P) → r ≡ Ok (accepted P)
P_read r e h = accepted_is P r e h P_passes

-- "kind 1 (0 every, 1 none)", and the alphabet's "last bit event 31"
pub P_changed : ((plan_of (set P 5 0x02)).kind ≡ None) × ((plan_of (set P 10 0x08)).alphabet ≡ 2 ^ 1 + 2 ^ 31)
unfolding bits_of value_from field_at events_from events_at row plan_of
P_changed = (refl, refl)

-- P from its fields. Its pattern is an item of kind 1 with the set {1}.
pub P_packed : one (job 2 0 1) (step 0 1 1) ++ packed ((1, 3) ∷ (2 ^ 30, 31) ∷ []) ≡ P
unfolding value_from
P_packed = refl

-- ---- a plan of two jobs

-- n of them, by their numbers
abbrev each : ℕ → (ℕ → Fields) → Fields
each zero f = []
each (suc n) f = each n f ++ f n

-- a plan of six nodes, two jobs, two steps, one channel, one call and one accept
abbrev two : (j k s t c a : Fields) → List ℕ
two j k s t c a = packed (head 2 6 2 1 1 1 1 ++ j ++ k ++ s ++ t ++ channel 2 ++ c ++ a)

-- the parts of document 01's plan of two jobs
abbrev job₀ : Fields
job₀ = job 3 0 2

abbrev job₁ : Fields
job₁ = job 3 3 5

abbrev step₀ : Fields
step₀ = step 0 1 1

abbrev step₁ : Fields
step₁ = step 4 5 3

abbrev call : Fields
call = link 1 2 0

abbrev accept : Fields
accept = link 3 4 0

abbrev pub T : List ℕ
T = two job₀ job₁ step₀ step₁ call accept

pub T_says : plan_of T ≡ record {
  nodes = 6;
  kind = Every;
  items = 1;
  alphabet = 2 ^ 1;
  jobs = record { size = 3; entry = 0; exit = 2; standing = 0 } ∷ record { size = 3; entry = 3; exit = 5; standing = 0 } ∷ [];
  steps = record { from = 0; to = 1; label = 1 } ∷ record { from = 4; to = 5; label = 3 } ∷ [];
  channels = 2 ∷ [];
  calls = record { from = 1; to = 2; label = 0 } ∷ [];
  accepts = record { from = 3; to = 4; label = 0 } ∷ [];
}
unfolding bits_of value_from field_at events_from events_at row plan_of
T_says = refl

-- ---- cases: the bytes of a plan, and the refusal before its pattern, if any

abbrev pub Case : Type 0
Case = List ℕ × Option ℕ

-- plans of document 01
abbrev known : List Case
known =
    (P, none)  -- as printed
    ∷ (take 10 P, some 1)  -- with 10 bytes
    ∷ (set P 0 0x88, some 2)  -- with 17 jobs
    ∷ (take 16 P, some 3)  -- with 16 bytes
    ∷ (set P 16 0x11, some 4)  -- its byte 10 made 11
    ∷ (set P 11 0x04, some 5)  -- job size 1
    ∷ (set (set P 14 0x02) 15 0x00, some 8)  -- the step from 1 to 0
    ∷ (set P 5 0x02, none)  -- of kind none
    ∷ (take 21 P, none)  -- its last byte, which is the pattern's, dropped
    ∷ (set P 21 0x01, none)  -- its last byte 01
    ∷ (T, none)  -- two jobs
    ∷ (packed (head 1 1 0 0 0 0 1 ++ job 1 0 0), none)  -- one node, entry and exit
    ∷ (packed (head 1 2 0 1 0 1 1 ++ job 2 0 1 ++ channel 0 ++ link 0 1 0), none)  -- a call nobody accepts
    ∷ (packed (head 1 2 0 1 1 1 1 ++ job 2 0 1 ++ channel 0 ++ link 0 1 0 ++ link 0 1 0), none)  -- the accept in the same job
    ∷ (packed (head 1 8 0 0 0 0 1 ++ job 8 0 7), none)  -- eight nodes, no steps
    ∷ []

-- refusal 2, in plans that end with the alphabet: where there are jobs, 3 applies as well
abbrev counts : List Case
counts =
    (packed (head 17 2 0 0 0 0 1), some 2)  -- jobs 17
    ∷ (packed (head 1 257 0 0 0 0 1), some 2)  -- nodes 257
    ∷ (packed (head 1 2 257 0 0 0 1), some 2)  -- steps 257
    ∷ (packed (head 1 2 0 129 0 0 1), some 2)  -- calls 129
    ∷ (packed (head 1 2 0 0 129 0 1), some 2)  -- accepts 129
    ∷ (packed (head 1 2 0 0 0 65 1), some 2)  -- channels 65
    ∷ (packed (head 1 2 0 0 0 0 0), some 2)  -- items 0
    ∷ (packed (head 1 2 0 0 0 0 65), some 2)  -- items 65
    ∷ (packed (head 0 0 0 0 0 0 1), none)  -- every count the least of its range: a plan without jobs
    ∷ (packed (head 16 256 256 128 128 64 64), some 3)  -- every count the greatest
    ∷ []

-- refusal 2 and no other, in plans with all their sections
abbrev wholes : List Case
wholes =
    (packed (head 17 17 0 0 0 0 1 ++ each 17 (λ i. job 1 i i)), some 2)  -- 17 jobs
    ∷ (packed (head 1 257 0 0 0 0 1 ++ job 257 0 1), some 2)  -- 257 nodes
    ∷ (packed (head 1 2 257 0 0 0 1 ++ job 2 0 1 ++ each 257 (λ i. step 0 1 1)), some 2)  -- 257 steps
    ∷ (packed (head 1 2 0 129 0 1 1 ++ job 2 0 1 ++ channel 1 ++ each 129 (λ i. link 0 1 0)), some 2)  -- 129 calls
    ∷ (packed (head 1 2 0 0 129 1 1 ++ job 2 0 1 ++ channel 1 ++ each 129 (λ i. link 0 1 0)), some 2)  -- 129 accepts
    ∷ (packed (head 1 2 0 0 0 65 1 ++ job 2 0 1 ++ each 65 (λ i. channel 1)), some 2)  -- 65 channels
    ∷ (packed (head 1 2 0 0 0 0 0 ++ job 2 0 1), some 2)  -- 0 items
    ∷ (packed (head 1 2 0 0 0 0 65 ++ job 2 0 1), some 2)  -- 65 items
    -- 16 jobs, 256 nodes, 64 channels and 64 items are accepted
    ∷ (packed (head 16 256 0 0 0 64 64 ++ each 16 (λ i. job 16 (16 * i) (16 * i + 15)) ++ each 64 (λ i. channel 1)), none)
    ∷ []

-- refusals 1 and 3: T has every section, in 29 bytes, and is refused with any fewer
abbrev cuts : List Case
cuts =
    (take 17 P, none)  -- P without its pattern, the 17 bytes of its sections
    ∷ row 11 (λ n. (take n T, some 1))  -- up to 10 bytes of T
    ++ row 18 (λ n. (take (11 + n) T, some 3))  -- 11 to 28 bytes of T

-- refusal 4
abbrev fillings : List Case
fillings =
    (set P 17 0xff, none)  -- the byte behind P's filling bits is the pattern's
    ∷ (set T 28 0x10, some 9)  -- the bit before T's filling bits is its accept's: channel 1
    -- sections of 136 bits, with nothing to fill
    ∷ (packed (head 1 2 0 0 0 5 1 ++ job 2 0 1 ++ each 5 (λ i. channel 1)) ++ (0xff ∷ []), none)
    ∷ map (λ v. (set P 16 v, some 4)) (0x18 ∷ 0x14 ∷ 0x12 ∷ 0x11 ∷ [])  -- each of P's four filling bits
    ++ map (λ v. (set T 28 v, some 4)) (0x08 ∷ 0x04 ∷ 0x02 ∷ 0x01 ∷ [])  -- each of T's four

-- refusal 5
abbrev wrong_sizes : List Case
wrong_sizes =
    (one (job 0 0 1) (step 0 1 1), some 5)  -- size 0
    ∷ (one (job 3 0 1) (step 0 1 1), some 5)  -- size 3, and 2 nodes
    ∷ (two (job 0 0 2) (job 6 3 5) step₀ step₁ call accept, some 5)  -- a first size 0, the sum right
    ∷ (two (job 6 0 2) (job 0 3 5) step₀ step₁ call accept, some 5)  -- a last size 0, the sum right
    ∷ (two (job 0 0 2) (job 0 3 5) step₀ step₁ call accept, some 5)  -- both sizes 0
    ∷ (two (job 2 0 2) job₁ step₀ step₁ call accept, some 5)  -- sum 5, and 6 nodes
    ∷ (two job₀ (job 4 3 5) step₀ step₁ call accept, some 5)  -- sum 7, and 6 nodes
    ∷ (packed (head 2 2 0 0 0 0 1 ++ job 255 0 0 ++ job 3 1 1), some 5)  -- sum 258, whose last 8 bits say 2, and 2 nodes
    ∷ (packed (head 2 2 0 0 0 0 1 ++ job 511 0 0 ++ job 3 1 1), some 5)  -- sum 514, whose last 9 bits say 2, and 2 nodes
    ∷ (packed (head 2 256 0 0 0 0 1 ++ job 255 0 254 ++ job 1 255 255), none)  -- sum 256, and 256 nodes
    ∷ []

-- plans without jobs, by document 02's order 4
abbrev no_jobs : List Case
no_jobs =
    (packed (head 0 1 0 0 0 0 1), some 5)  -- jobs 0 with nodes, up to the most
    ∷ (packed (head 0 256 0 0 0 0 1), some 5)
    ∷ (packed (head 0 257 0 0 0 0 1), some 2)
    ∷ (packed (head 1 0 0 0 0 0 1 ++ job 0 0 0), some 5)  -- nodes 0 with jobs
    ∷ (packed (head 1 0 0 0 0 0 1 ++ job 1 0 0), some 5)
    ∷ (packed (head 16 0 0 0 0 0 1 ++ each 16 (λ i. job 0 0 0)), some 5)
    ∷ (packed (head 1 0 0 0 0 0 1), some 3)  -- 3 and 5
    ∷ (packed (head 0 0 1 0 0 0 1 ++ step 0 0 0), some 7)  -- with a step, a call, an accept; 7 and 9
    ∷ (packed (head 0 0 0 1 0 1 1 ++ channel 0 ++ link 0 0 0), some 7)
    ∷ (packed (head 0 0 0 0 1 0 1 ++ link 0 0 0), some 7)
    ∷ (packed (head 0 1 1 0 0 0 1 ++ step 0 0 0), some 5)  -- 5 and 7
    ∷ (packed (head 0 0 1 0 0 0 1), some 3)  -- the step is not there
    ∷ (packed (head 0 0 0 0 0 64 1 ++ each 64 (λ i. channel 1)), none)  -- with channels
    ∷ (take 10 (packed (head 0 0 0 0 0 0 1)), some 1)
    ∷ map (λ v. (set (packed (head 0 0 0 0 0 0 1)) 10 v, some 4)) (0x04 ∷ 0x02 ∷ 0x01 ∷ [])  -- each of the three filling bits
    ++ map (λ v. (set (packed (head 0 1 0 0 0 0 1)) 10 v, some 4)) (0x04 ∷ 0x02 ∷ 0x01 ∷ [])  -- 4 and 5

-- refusal 6
abbrev strays : List Case
strays =
    (one (job 2 2 1) (step 0 1 1), some 6)  -- an entry that is no node
    ∷ (one (job 2 0 2) (step 0 1 1), some 6)  -- an exit that is no node
    ∷ (two (job 3 6 2) job₁ step₀ step₁ call accept, some 6)  -- an entry that is no node, of the first job
    ∷ (two (job 3 0 6) job₁ step₀ step₁ call accept, some 6)  -- an exit that is no node, of the first job
    ∷ (two (job 3 3 2) job₁ step₀ step₁ call accept, some 6)  -- an entry in the second job
    ∷ (two (job 3 0 3) job₁ step₀ step₁ call accept, some 6)  -- an exit in the second job
    ∷ (two job₀ (job 3 2 5) step₀ step₁ call accept, some 6)  -- an entry in the first job
    ∷ (two job₀ (job 3 3 2) step₀ step₁ call accept, some 6)  -- an exit in the first job
    ∷ (two job₀ (job 3 6 5) step₀ step₁ call accept, some 6)  -- an entry that is no node, of the second job
    ∷ (two job₀ (job 3 3 255) step₀ step₁ call accept, some 6)  -- an exit that is no node, of the second job
    ∷ (two (job 3 2 2) (job 3 5 5) step₀ step₁ call accept, none)  -- entry and exit the last node of each job
    ∷ []

-- plans with standing jobs, by document 02's order 5
abbrev services : List Case
services =
    (two (service 3 0 0) job₁ step₀ step₁ call accept, none)  -- the first stands, and a step leaves its entry; the second, and an accept does
    ∷ (two job₀ (service 3 3 3) step₀ step₁ call accept, none)
    ∷ (two (service 3 2 2) job₁ step₀ step₁ (link 2 1 0) accept, none)  -- a call leaves the entry, or the step stays there
    ∷ (two (service 3 2 2) job₁ (step 2 2 0) step₁ call accept, none)
    ∷ (two (service 3 0 0) job₁ step₀ (step 5 3 3) call accept, some 8)  -- a step leaves the exit of the other job
    ∷ (two job₀ (service 3 3 3) (step 2 0 1) step₁ call accept, some 8)
    ∷ (two (service 3 0 2) job₁ step₀ step₁ call accept, some 6)  -- an exit field that differs, in each job
    ∷ (two (service 3 1 0) job₁ step₀ step₁ call accept, some 6)
    ∷ (two job₀ (service 3 3 5) step₀ step₁ call accept, some 6)
    ∷ (two (service 3 3 3) job₁ step₀ step₁ call accept, some 6)  -- entry and exit field alike, and no node of the job
    ∷ (two (service 3 6 6) job₁ step₀ step₁ call accept, some 6)
    ∷ (one (service 2 0 0) (step 0 1 1), some 21)  -- one job, which stands
    ∷ (set P 13 0x02, some 21)  -- the same from P's bytes: its exit is 0, and its last bit 1
    ∷ (set P 13 0x06, some 6)  -- its last bit alone
    ∷ (two (service 3 0 0) (service 3 3 3) step₀ step₁ call accept, some 21)
    ∷ (packed (head 16 16 0 0 0 0 1 ++ each 16 (λ i. service 1 i i)), some 21)  -- 16 jobs, which all stand, and all but the last, all but the first
    ∷ (packed (head 16 16 0 0 0 0 1 ++ each 15 (λ i. service 1 i i) ++ job 1 15 15), none)
    ∷ (packed (head 16 16 0 0 0 0 1 ++ job 1 0 0 ++ each 15 (λ i. service 1 (i + 1) (i + 1))), none)
    ∷ (two (service 3 0 0) (service 3 3 3) (step 0 6 1) step₁ call accept, some 21)  -- 21 and 7, 8 of nobody, 9
    ∷ (two (service 3 2 2) (service 3 5 5) (step 2 0 1) (step 5 3 3) call (link 3 4 1), some 21)
    ∷ (two (service 3 0 1) (service 3 3 3) step₀ step₁ call accept, some 6)  -- 6 and 21
    ∷ (two (service 3 0 0) (service 4 3 3) step₀ step₁ call accept, some 5)  -- 5 and 21
    ∷ (two (service 3 0 0) job₁ (step 0 3 1) step₁ call accept, some 7)  -- of a standing job 7 and 9 are asked
    ∷ (two (service 3 0 0) job₁ step₀ step₁ (link 1 2 1) accept, some 9)
    ∷ (take 17 (packed (head 2 2 0 0 0 0 1 ++ job 1 0 0 ++ job 1 1 1)), some 3)  -- two records of 26 bits need 18 bytes
    ∷ (take 18 (packed (head 2 2 0 0 0 0 1 ++ job 1 0 0 ++ job 1 1 1)), none)
    ∷ []

-- refusal 7
abbrev split_ends : List Case
split_ends =
    (two job₀ job₁ (step 6 1 1) step₁ call accept, some 7)  -- a step from no node
    ∷ (two job₀ job₁ (step 0 6 1) step₁ call accept, some 7)  -- a step to no node
    ∷ (two job₀ job₁ (step 255 255 1) step₁ call accept, some 7)  -- a step from and to no node
    ∷ (two job₀ job₁ (step 0 3 1) step₁ call accept, some 7)  -- a step from the first job to the second
    ∷ (two job₀ job₁ step₀ (step 4 2 3) call accept, some 7)  -- a step from the second job to the first
    ∷ (two job₀ job₁ step₀ step₁ (link 6 2 0) accept, some 7)  -- a call from no node
    ∷ (two job₀ job₁ step₀ step₁ (link 1 6 0) accept, some 7)  -- a call to no node
    ∷ (two job₀ job₁ step₀ step₁ (link 1 3 0) accept, some 7)  -- a call to another job
    ∷ (two job₀ job₁ step₀ step₁ call (link 6 4 0), some 7)  -- an accept from no node
    ∷ (two job₀ job₁ step₀ step₁ call (link 3 6 0), some 7)  -- an accept to no node
    ∷ (two job₀ job₁ step₀ step₁ call (link 3 2 0), some 7)  -- an accept to another job
    ∷ []

-- refusal 8
abbrev exits_left : List Case
exits_left =
    (two job₀ job₁ (step 2 0 1) step₁ call accept, some 8)  -- a step from the first job's exit
    ∷ (two job₀ job₁ step₀ (step 5 3 3) call accept, some 8)  -- a step from the second job's exit
    ∷ (two job₀ job₁ (step 2 2 0) step₁ call accept, some 8)  -- a step from an exit to itself
    ∷ (two job₀ job₁ step₀ step₁ (link 2 1 0) accept, some 8)  -- a call from an exit
    ∷ (two job₀ job₁ step₀ step₁ (link 2 2 0) accept, some 8)  -- a call from an exit to itself
    ∷ (two job₀ job₁ step₀ step₁ call (link 5 4 0), some 8)  -- an accept from an exit
    ∷ (two job₀ job₁ step₀ step₁ call (link 5 5 0), some 8)  -- an accept from an exit to itself
    ∷ (packed (head 1 1 1 0 0 0 1 ++ job 1 0 0 ++ step 0 0 0), some 8)  -- a step in a job of one node
    ∷ (two job₀ job₁ (step 1 1 0) step₁ call accept, none)  -- a step from another node to itself
    ∷ (two job₀ job₁ step₀ step₀ call accept, none)  -- a repeated step
    ∷ []

-- refusal 9
abbrev no_channels : List Case
no_channels =
    (two job₀ job₁ step₀ step₁ (link 1 2 1) accept, some 9)  -- a call on channel 1, and 1 channel
    ∷ (two job₀ job₁ step₀ step₁ (link 1 2 63) accept, some 9)  -- a call on channel 63
    ∷ (two job₀ job₁ step₀ step₁ call (link 3 4 1), some 9)  -- an accept on channel 1, and 1 channel
    ∷ (two job₀ job₁ step₀ step₁ call (link 3 4 63), some 9)  -- an accept on channel 63
    ∷ (packed (head 1 2 0 1 0 0 1 ++ job 2 0 1 ++ link 0 1 0), some 9)  -- a call, and no channel
    ∷ (packed (head 1 2 0 0 1 0 1 ++ job 2 0 1 ++ link 0 1 0), some 9)  -- an accept, and no channel
    -- an accept on channel 63, and 63 channels; 64 channels
    ∷ (packed (head 1 2 0 1 1 63 1 ++ job 2 0 1 ++ each 63 (λ i. channel 1) ++ link 0 1 62 ++ link 0 1 63), some 9)
    ∷ (packed (head 1 2 0 1 1 64 1 ++ job 2 0 1 ++ each 64 (λ i. channel 1) ++ link 0 1 62 ++ link 0 1 63), none)
    ∷ (one (job 2 0 1) (step 0 1 31), none)  -- a step of event 31, which is no channel
    ∷ []

-- Several apply, and the first of the order answers. 3 and 4 cannot both apply: the filling bits are in the last byte of the
-- sections, and where 3 applies that byte is missing.
abbrev overlaps : List Case
overlaps =
    (replicate 10 0xff, some 1)  -- 1 to 3
    ∷ (set (take 16 P) 0 0x88, some 2)  -- 2 and 3
    ∷ (set (two (job 3 0 6) (job 4 3 5) (step 0 6 1) (step 5 4 3) call (link 3 4 1)) 28 0x11, some 4)  -- 4 to 9
    ∷ (two (job 3 0 6) (job 4 3 5) (step 0 6 1) (step 5 4 3) call (link 3 4 1), some 5)  -- 5 to 9
    ∷ (two (job 3 0 6) job₁ (step 0 6 1) (step 5 4 3) call (link 3 4 1), some 6)  -- 6 to 9
    ∷ (two job₀ job₁ (step 0 6 1) (step 5 4 3) call (link 3 4 1), some 7)  -- 7 to 9
    ∷ (two job₀ job₁ step₀ (step 5 4 3) call (link 3 4 1), some 8)  -- 8 and 9
    ∷ (set (set P 16 0x11) 11 0x0c, some 4)  -- 4 and 5
    ∷ (one (job 3 0 3) (step 0 1 1), some 5)  -- 5 and 6
    ∷ (one (job 2 0 2) (step 0 2 1), some 6)  -- 6 and 7
    ∷ (two job₀ job₁ (step 2 3 1) step₁ call accept, some 7)  -- 7 and 8 of one step
    ∷ (two job₀ job₁ (step 2 1 1) step₁ call (link 3 6 0), some 7)  -- 8 of a step, 7 of an accept
    ∷ (two job₀ job₁ step₀ step₁ (link 1 2 1) (link 3 6 0), some 7)  -- 9 of a call, 7 of an accept
    ∷ (two job₀ job₁ step₀ step₁ (link 2 1 1) accept, some 8)  -- 8 and 9 of one call
    ∷ (two job₀ job₁ step₀ step₁ (link 1 2 1) (link 5 4 0), some 8)  -- 9 of a call, 8 of an accept
    ∷ []

-- bytes that are no plan
abbrev noise : List Case
noise =
    ([], some 1)  -- no bytes
    ∷ (replicate 40 0xff, some 2)  -- 40 bytes of ones
    ∷ (replicate 40 0x00, some 2)  -- 40 bytes of zeros
    ∷ []

-- the table
abbrev pub cases : List Case
cases =
    known ++ counts ++ wholes ++ cuts ++ fillings ++ wrong_sizes ++ no_jobs ++ strays ++ services ++ split_ends ++ exits_left ++ no_channels
    ++ overlaps ++ noise

answers : map (λ (c : Case). first order c.0) cases ≡ map (λ (c : Case). c.1) cases
unfolding bits_of value_from field_at events_from events_at row plan_of first any_from owners_from total counts_outside
answers = refl

-- every plan of the table is answered as the table says
pub all_cases : {c : Case} → Memᴰ c cases → first order c.0 ≡ c.1
all_cases m = agree (λ (c : Case). first order c.0) (λ (c : Case). c.1) answers m
