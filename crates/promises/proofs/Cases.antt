-- Plans with known verdicts: the bytes of a plan and a lent row, the answer to them and the row in the end, by evaluation.
-- Document 01, "Plans with known verdicts" and "Errors an analyst makes", and document 02, orders 3, 4 and 5.
use mathlib.Core.Path.{◌≡◌, refl}
use mathlib.Core.List.{List, [], ◌∷◌, ◌++◌, map, Memᴰ}
use mathlib.Core.Option.{Option, some}
use Prim.Native.Nat.{ℕ, ◌+◌, ◌^◌}
use lib.Count.{ones}
use lib.ListN.{length, take, set}
use Rattle.std.specs.Prelude.{Ok, Err}
use Rattle.masks.specs.Mask.{digit, gather_below, pairs_of}
use Rattle.fields.specs.Bits.{bits_of, value_from, field_at, events_from, events_at}
use Rattle.rows.specs.Rows.{row, padded}
use Rattle.sections.specs.Layout.{plan_of}
use Rattle.plan.specs.Checks.{first, any_from}
use Rattle.plan.specs.Nodes.{owners_from, total}
use Rattle.plan.specs.Refusals.{counts_outside}
use Rattle.plan.proofs.Cases.{P, Fields, packed, job, service, step, channel, link, agree}
use Rattle.expressions.specs.Items.{push_all}
use Rattle.expressions.specs.Positions as positions
use Rattle.numbering.specs.Numbering.{index, collect, build, states}
use Rattle.item.specs.Faults.{item_at}
use Rattle.items.specs.Refusals.{read, items_refusal}
use Rattle.items.proofs.Cases.{kind, one, sequence, choice}
use Rattle.automaton.specs.Automaton.{watched_below, states_of, table_of, accepting_below}
use Rattle.pattern.proofs.Cases.{two_jobs, distance}
use Rattle.graph.specs.Edges.{each, meetings_of, edges_of}
use Rattle.refusals.specs.declared.Refusal.{Refusal}
use Rattle.refusals.specs.declared.Refusal.TheVariants.{TooShort, CountOutside, CutShort, Filled, WrongSizes, StrayEnd, SplitEnds, ExitLeft, ItemsCut, Trailing, ManyStates, ShortRow, NoneEnds}
use Rattle.verdict.specs.declared.Counts.{Counts}
use Rattle.verdict.specs.declared.Verdict.TheVariants.{Verified, Inconclusive}
use Rattle.verdict.specs.Answer.{Answer}
use Rattle.verdict.specs.Verdict.{final_below, rounded}
use Rattle.promises.specs.Order.{own}
use Rattle.promises.specs.Judged.{Judged}
use Rattle.promises.proofs.Unique.{judged_unique}
use Rattle.promises.proofs.Evaluate.{Outcome, evaluate, evaluate_judged}

-- ---- plans

-- a plan from its parts; "kind 1 (0 every, 1 none)"
abbrev plan : (flag nodes alphabet : ℕ) → (items jobs steps channels calls accepts : List Fields) → List ℕ
plan flag nodes alphabet items jobs steps channels calls accepts =
    packed ((length jobs, 5) ∷ (nodes, 9) ∷ (length steps, 9) ∷ (length calls, 8) ∷ (length accepts, 8) ∷ (length channels, 7)
    ∷ (flag, 1) ∷ (length items, 7) ∷ (alphabet, 31) ∷ each (jobs ++ steps ++ channels ++ calls ++ accepts) (λ f. f)) ++ packed (each items (λ f. f))

-- "alphabet and pattern of P", of kind every, and of kind none
abbrev of_every : (nodes : ℕ) → (jobs steps channels calls accepts : List Fields) → List ℕ
of_every nodes = plan 0 nodes (2 ^ 30) (one (1 ∷ []) ∷ [])

abbrev of_none : (nodes : ℕ) → (jobs steps channels calls accepts : List Fields) → List ℕ
of_none nodes = plan 1 nodes (2 ^ 30) (one (1 ∷ []) ∷ [])

-- "Alphabet empty, pattern the empty string."
abbrev quiet : (nodes : ℕ) → (jobs steps channels calls accepts : List Fields) → List ℕ
quiet nodes = plan 0 nodes 0 (kind 0 ∷ [])

abbrev quiet_none : (nodes : ℕ) → (jobs steps channels calls accepts : List Fields) → List ℕ
quiet_none nodes = plan 1 nodes 0 (kind 0 ∷ [])

-- the alphabet of 1 and 2, and the patterns "1 then 2", 1 and 2 in either order
abbrev one_two : (nodes : ℕ) → (jobs steps channels calls accepts : List Fields) → List ℕ
one_two nodes = plan 0 nodes (2 ^ 30 + 2 ^ 29) (one (1 ∷ []) ∷ one (2 ∷ []) ∷ sequence ∷ [])

abbrev either_order : (nodes : ℕ) → (jobs steps channels calls accepts : List Fields) → List ℕ
either_order nodes =
    plan 0 nodes (2 ^ 30 + 2 ^ 29)
    (one (1 ∷ []) ∷ one (2 ∷ []) ∷ sequence ∷ one (2 ∷ []) ∷ one (1 ∷ []) ∷ sequence ∷ choice ∷ [])

-- the alphabet of P, and the pattern "1 then 1"
abbrev one_one : (nodes : ℕ) → (jobs steps channels calls accepts : List Fields) → List ℕ
one_one nodes = plan 0 nodes (2 ^ 30) (one (1 ∷ []) ∷ one (1 ∷ []) ∷ sequence ∷ [])

-- ---- cases

pub record Case : Type 0 where
  pub bytes : List ℕ
  pub before : List ℕ
  pub answer : Answer
  pub after : List ℕ

abbrev refused : (bytes before : List ℕ) → Refusal → Case
refused bytes before x = record { bytes = bytes; before = before; answer = Err x; after = before }

abbrev counts : (states meetings ordering pairs fill ends : ℕ) → Counts
counts states meetings ordering pairs fill ends = record {
  states = states;
  meetings = meetings;
  ordering = ordering;
  pairs = pairs;
  fill = fill;
  ends = ends;
}

abbrev verified : (bytes before : List ℕ) → Counts → (after : List ℕ) → Case
verified bytes before c after = record { bytes = bytes; before = before; answer = Ok (Verified c); after = after }

abbrev inconclusive : (bytes before : List ℕ) → Counts → (after : List ℕ) → Case
inconclusive bytes before c after = record { bytes = bytes; before = before; answer = Ok (Inconclusive c); after = after }

-- plans that are judged
abbrev judged : List Case
judged =
    verified P (7 ∷ 8 ∷ 9 ∷ []) (counts 3 0 0 2 33 2) (1 ∷ 2 ∷ 9 ∷ [])
    ∷ verified P (7 ∷ 8 ∷ []) (counts 3 0 0 2 33 2) (1 ∷ 2 ∷ [])  -- a row of two places
    ∷ inconclusive (set P 5 0x02) (7 ∷ 8 ∷ 9 ∷ []) (counts 3 0 0 2 33 2) (1 ∷ 2 ∷ 9 ∷ [])  -- of kind none
    -- two jobs: {0} {1} {3,4} {0,1} {3} {4}
    ∷ verified two_jobs (1 ∷ 2 ∷ 3 ∷ 4 ∷ 5 ∷ 6 ∷ 7 ∷ 8 ∷ []) (counts 5 1 6 8 27 16) (1 ∷ 2 ∷ 24 ∷ 3 ∷ 8 ∷ 16 ∷ 7 ∷ 8 ∷ [])
    -- one node, entry and exit
    ∷ inconclusive (of_every 1 (job 1 0 0 ∷ []) [] [] [] []) (7 ∷ 8 ∷ []) (counts 3 0 0 1 33 1) (1 ∷ 8 ∷ [])
    ∷ verified (of_none 1 (job 1 0 0 ∷ []) [] [] [] []) (7 ∷ 8 ∷ []) (counts 3 0 0 1 33 1) (1 ∷ 8 ∷ [])
    -- one quiet step
    ∷ verified (quiet 2 (job 2 0 1 ∷ []) (step 0 1 0 ∷ []) [] [] []) (7 ∷ 8 ∷ 9 ∷ []) (counts 1 0 0 2 100 1) (1 ∷ 1 ∷ 9 ∷ [])
    -- a call nobody accepts
    ∷ verified (quiet 2 (job 2 0 1 ∷ []) [] (channel 0 ∷ []) (link 0 1 0 ∷ []) []) (7 ∷ 8 ∷ 9 ∷ []) (counts 1 0 0 1 50 0) (1 ∷ 0 ∷ 9 ∷ [])
    -- the accept in the same job
    ∷ verified (quiet 2 (job 2 0 1 ∷ []) [] (channel 0 ∷ []) (link 0 1 0 ∷ []) (link 0 1 0 ∷ []))
    (7 ∷ 8 ∷ 9 ∷ []) (counts 1 0 0 1 50 0) (1 ∷ 0 ∷ 9 ∷ [])
    -- eight nodes, no steps
    ∷ verified (quiet 8 (job 8 0 7 ∷ []) [] [] [] [])
    (1 ∷ 2 ∷ 3 ∷ 4 ∷ 5 ∷ 6 ∷ 7 ∷ 8 ∷ 9 ∷ []) (counts 1 0 0 1 13 0) (1 ∷ 0 ∷ 0 ∷ 0 ∷ 0 ∷ 0 ∷ 0 ∷ 0 ∷ 9 ∷ [])
    ∷ inconclusive (distance 12 4) (7 ∷ 8 ∷ 9 ∷ []) (counts 33 0 0 2 3 2) (1 ∷ 2 ∷ 9 ∷ [])  -- four times: 33 states
    ∷ []

-- plans that are turned down
abbrev turned_down : List Case
turned_down =
    refused (take 10 P) (7 ∷ 8 ∷ []) TooShort  -- P with 10 bytes
    ∷ refused (set P 0 0x88) (7 ∷ 8 ∷ []) CountOutside  -- with 17 jobs
    ∷ refused (take 16 P) (7 ∷ 8 ∷ []) CutShort  -- with 16 bytes
    ∷ refused (set P 16 0x11) (7 ∷ 8 ∷ []) Filled  -- its byte 10 made 11
    ∷ refused (set P 11 0x04) (7 ∷ 8 ∷ []) WrongSizes  -- job size 1
    ∷ refused (set (set P 14 0x02) 15 0x00) (7 ∷ 8 ∷ []) ExitLeft  -- the step from 1 to 0
    ∷ refused (take 21 P) (7 ∷ 8 ∷ []) ItemsCut  -- its last byte dropped
    ∷ refused (set P 21 0x01) (7 ∷ 8 ∷ []) Trailing  -- its last byte 01
    ∷ refused (distance 14 5) (7 ∷ 8 ∷ 9 ∷ []) ManyStates  -- five times: 65 states
    ∷ refused P (7 ∷ []) ShortRow  -- a row of one place
    ∷ refused (take 21 P) (7 ∷ []) ItemsCut  -- 10 and 17
    ∷ refused (distance 14 5) (7 ∷ []) ManyStates  -- 16 and 17
    ∷ []

-- plans that an analyst gets wrong by an error
abbrev mistaken : List Case
mistaken =
    -- joining, not intersecting, the sets at a meeting: state 0 of node 3 would come to both exits
    verified (of_every 5 (job 3 0 2 ∷ job 2 3 4 ∷ []) (step 0 1 1 ∷ []) (channel 0 ∷ []) (link 1 2 0 ∷ []) (link 3 4 0 ∷ []))
    (1 ∷ 2 ∷ 3 ∷ 4 ∷ 5 ∷ 6 ∷ []) (counts 3 1 2 6 40 2) (1 ∷ 2 ∷ 2 ∷ 3 ∷ 2 ∷ 6 ∷ [])
    -- dropping the empty set of positions, state 2: the exit would hold nothing
    ∷ inconclusive (of_every 3 (job 3 0 2 ∷ []) (step 0 1 1 ∷ step 1 2 1 ∷ []) [] [] []) (7 ∷ 8 ∷ 9 ∷ []) (counts 3 0 0 3 33 4) (1 ∷ 2 ∷ 4 ∷ [])
    -- forgetting the third job at a meeting: its one node would hold state 0 alone
    ∷ inconclusive (of_none 5 (job 2 0 1 ∷ job 2 2 3 ∷ job 1 4 4 ∷ []) [] (channel 1 ∷ []) (link 0 1 0 ∷ []) (link 2 3 0 ∷ []))
    (1 ∷ 2 ∷ 3 ∷ 4 ∷ 5 ∷ 6 ∷ []) (counts 3 1 1 6 40 2) (1 ∷ 2 ∷ 1 ∷ 2 ∷ 3 ∷ 6 ∷ [])
    -- sending unwatched events to the dead state: the exit would hold state 2
    ∷ verified (of_every 3 (job 3 0 2 ∷ []) (step 0 1 1 ∷ step 1 2 2 ∷ []) [] [] []) (7 ∷ 8 ∷ 9 ∷ []) (counts 3 0 0 3 33 2) (1 ∷ 2 ∷ 2 ∷ [])
    -- judging by the union of the exit sets, {1} and {0,1}
    ∷ verified (of_every 3 (job 2 0 1 ∷ job 1 2 2 ∷ []) (step 0 1 1 ∷ []) [] [] []) (7 ∷ 8 ∷ 9 ∷ []) (counts 3 0 1 4 44 2) (1 ∷ 2 ∷ 3 ∷ [])
    ∷ []

-- plans whose ordering edges find the state held, or not; their sets by both rules stand in the cases of crate flow
abbrev ordered : List Case
ordered =
    -- the third job has no step, and its exit holds nothing and gets nothing
    verified (of_none 6 (job 2 0 1 ∷ job 2 2 3 ∷ job 2 4 5 ∷ []) [] (channel 1 ∷ []) (link 0 1 0 ∷ []) (link 2 3 0 ∷ []))
    (1 ∷ 2 ∷ 3 ∷ 4 ∷ 5 ∷ 6 ∷ []) (counts 3 1 2 6 33 0) (1 ∷ 2 ∷ 1 ∷ 2 ∷ 3 ∷ 0 ∷ [])
    -- its entry holds 0 and gets 1, its exit does not; a run by 2 and then 1 is wrong
    ∷ inconclusive (one_two 6 (job 2 0 1 ∷ job 2 2 3 ∷ job 2 4 5 ∷ []) (step 4 5 2 ∷ []) (channel 1 ∷ []) (link 0 1 0 ∷ []) (link 2 3 0 ∷ []))
    (1 ∷ 2 ∷ 3 ∷ 4 ∷ 5 ∷ 6 ∷ []) (counts 4 1 6 14 58 12) (5 ∷ 14 ∷ 5 ∷ 14 ∷ 3 ∷ 12 ∷ [])
    -- two jobs side by side by events 1 and 2; inconclusive by document 01's rule, with the final set {1,2,3,4,5}
    ∷ verified (either_order 4 (job 2 0 1 ∷ job 2 2 3 ∷ []) (step 0 1 1 ∷ step 2 3 2 ∷ []) [] [] [])
    (1 ∷ 2 ∷ 3 ∷ 4 ∷ 5 ∷ []) (counts 6 0 4 10 42 48) (5 ∷ 50 ∷ 3 ∷ 52 ∷ 5 ∷ [])
    -- both by event 1; no complete run is wrong, and the sets cannot tell by either rule
    ∷ inconclusive (one_one 4 (job 2 0 1 ∷ job 2 2 3 ∷ []) (step 0 1 1 ∷ step 2 3 1 ∷ []) [] [] [])
    (1 ∷ 2 ∷ 3 ∷ 4 ∷ 5 ∷ []) (counts 4 0 4 14 88 14) (15 ∷ 14 ∷ 15 ∷ 14 ∷ 5 ∷ [])
    ∷ []

-- plans of recess days
abbrev recess : List Case
recess =
    -- no jobs, alphabet empty, pattern the empty string
    verified (quiet 0 [] [] [] [] []) (7 ∷ 8 ∷ []) (counts 1 0 0 0 0 1) (7 ∷ 8 ∷ [])
    ∷ inconclusive (quiet_none 0 [] [] [] [] []) (7 ∷ 8 ∷ []) (counts 1 0 0 0 0 1) (7 ∷ 8 ∷ [])
    -- the alphabet and pattern of P
    ∷ inconclusive (of_every 0 [] [] [] [] []) (7 ∷ 8 ∷ []) (counts 3 0 0 0 0 1) (7 ∷ 8 ∷ [])
    ∷ verified (of_none 0 [] [] [] [] []) (7 ∷ 8 ∷ []) (counts 3 0 0 0 0 1) (7 ∷ 8 ∷ [])
    ∷ verified (quiet 0 [] [] [] [] []) [] (counts 1 0 0 0 0 1) []  -- a row of no places
    ∷ verified (quiet 0 [] [] (channel 1 ∷ channel 0 ∷ []) [] []) [] (counts 1 0 0 0 0 1) []  -- with channels
    ∷ refused (quiet 1 [] [] [] [] []) (7 ∷ 8 ∷ []) WrongSizes  -- jobs 0 with nodes 1
    ∷ refused (quiet 0 (job 0 0 0 ∷ []) [] [] [] []) (7 ∷ 8 ∷ []) WrongSizes  -- jobs 1 with nodes 0, of size 0 and of size 1
    ∷ refused (quiet 0 (job 1 0 0 ∷ []) [] [] [] []) (7 ∷ 8 ∷ []) WrongSizes
    ∷ refused (quiet 0 [] (step 0 0 0 ∷ []) [] [] []) (7 ∷ 8 ∷ []) SplitEnds  -- jobs 0 with a step, with a call, with an accept on no channel
    ∷ refused (quiet 0 [] [] (channel 0 ∷ []) (link 0 0 0 ∷ []) []) (7 ∷ 8 ∷ []) SplitEnds
    ∷ refused (quiet 0 [] [] [] [] (link 0 0 0 ∷ [])) (7 ∷ 8 ∷ []) SplitEnds
    ∷ refused (set (quiet 0 [] [] [] [] []) 10 0x01) (7 ∷ 8 ∷ []) Filled  -- jobs 0 with a filling bit
    ∷ refused (set (quiet 1 [] [] [] [] []) 10 0x01) (7 ∷ 8 ∷ []) Filled  -- 4 and 5
    ∷ refused (take 10 (quiet 0 [] [] [] [] [])) [] TooShort  -- with 10 bytes, and with 11, without an item
    ∷ refused (take 11 (quiet 0 [] [] [] [] [])) [] ItemsCut
    ∷ []

-- two jobs side by side, which stand or do not: the first goes 0 to 1 by event 1, the second 2 to 3 by a quiet step
abbrev beside : (jobs : List Fields) → List ℕ
beside jobs = of_every 4 jobs (step 0 1 1 ∷ step 2 3 0 ∷ []) [] [] []

abbrev beside_none : (jobs : List Fields) → List ℕ
beside_none jobs = of_none 4 jobs (step 0 1 1 ∷ step 2 3 0 ∷ []) [] [] []

-- plans with standing jobs
abbrev standing : List Case
standing =
    -- the standing job's entry, which its exit field repeats, holds {0}, and the other's exit {0,1}: that is the final set. A run in which the
    -- standing job has moved, and is away from its entry in the end, is wrong
    inconclusive (beside_none (service 2 0 0 ∷ job 2 2 3 ∷ [])) (1 ∷ 2 ∷ 3 ∷ 4 ∷ 5 ∷ []) (counts 3 0 2 6 50 3) (1 ∷ 2 ∷ 3 ∷ 3 ∷ 5 ∷ [])
    ∷ inconclusive (beside (service 2 0 0 ∷ job 2 2 3 ∷ [])) (1 ∷ 2 ∷ 3 ∷ 4 ∷ 5 ∷ []) (counts 3 0 2 6 50 3) (1 ∷ 2 ∷ 3 ∷ 3 ∷ 5 ∷ [])
    -- the other one stands, and its steps leave its entry
    ∷ verified (beside (job 2 0 1 ∷ service 2 2 2 ∷ [])) (1 ∷ 2 ∷ 3 ∷ 4 ∷ 5 ∷ []) (counts 3 0 2 6 50 2) (1 ∷ 2 ∷ 3 ∷ 3 ∷ 5 ∷ [])
    ∷ inconclusive (beside_none (job 2 0 1 ∷ service 2 2 2 ∷ [])) (1 ∷ 2 ∷ 3 ∷ 4 ∷ 5 ∷ []) (counts 3 0 2 6 50 2) (1 ∷ 2 ∷ 3 ∷ 3 ∷ 5 ∷ [])
    ∷ refused (beside (service 2 0 1 ∷ job 2 2 3 ∷ [])) (7 ∷ 8 ∷ []) StrayEnd  -- an exit field that differs
    ∷ refused (set P 13 0x06) (7 ∷ 8 ∷ []) StrayEnd  -- P whose job stands, with the exit 1, and with its entry for exit
    ∷ refused (set P 13 0x02) (7 ∷ 8 ∷ []) NoneEnds
    ∷ refused (beside (service 2 0 0 ∷ service 2 2 2 ∷ [])) (7 ∷ 8 ∷ []) NoneEnds  -- both stand
    ∷ refused (of_every 4 (service 2 0 0 ∷ service 2 2 2 ∷ []) (step 0 3 1 ∷ []) [] [] []) (7 ∷ 8 ∷ []) NoneEnds  -- 21 and 7
    ∷ refused (beside (service 2 0 0 ∷ service 2 2 3 ∷ [])) (7 ∷ 8 ∷ []) StrayEnd  -- 6 and 21
    ∷ refused (beside (service 2 0 0 ∷ job 2 2 2 ∷ [])) (7 ∷ 8 ∷ []) ExitLeft  -- a step that leaves the exit of the other job
    ∷ []

-- the table
abbrev pub cases : List Case
cases = judged ++ turned_down ++ mistaken ++ ordered ++ recess ++ standing

-- what two rounds of the rules give, which are enough for all of them
abbrev found : Case → Option Outcome
found c = evaluate own 2 c.bytes c.before

abbrev said : Case → Option Outcome
said c = some (c.answer, c.after)

answers : map found cases ≡ map said cases
unfolding bits_of value_from field_at events_from events_at row plan_of first any_from owners_from total counts_outside push_all item_at read items_refusal states_of states build collect index positions.step watched_below digit gather_below table_of accepting_below positions.final positions.accepts padded each meetings_of edges_of ones pairs_of final_below rounded
answers = refl

-- the outcomes of the table are what the judge promises
pub all_cases : {c : Case} → Memᴰ c cases → Judged own c.bytes c.before c.answer c.after
all_cases {c} m = evaluate_judged own 2 c.bytes c.before c.answer c.after (agree found said answers m)

-- and it promises no others
pub known : {c : Case} → Memᴰ c cases → (a : Answer) (after : List ℕ) → Judged own c.bytes c.before a after
    → (a ≡ c.answer) × (after ≡ c.after)
known {c} m a after j = judged_unique own c.bytes c.before a c.answer after c.after j (all_cases m)
