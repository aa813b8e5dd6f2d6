-- Plans that are judged by texts: the bytes of both and a lent row, the answer to them and the row in the end, by evaluation.
-- Document 02, order 1.
use mathlib.Core.Path.{◌≡◌, refl}
use mathlib.Core.List.{List, [], ◌∷◌, ◌++◌, map, Memᴰ}
use mathlib.Core.Option
use mathlib.Core.Option.{Option, some, bind-eq-some_iff}
use Prim.Native.Nat.{ℕ}
use lib.Count.{ones}
use lib.ListN.{take, set}
use Rattle.std.specs.Prelude.{Ok, Err}
use Rattle.masks.specs.Mask.{digit, gather_below, pairs_of}
use Rattle.fields.specs.Bits.{bits_of, value_from, field_at, events_from, events_at}
use Rattle.line.specs.Line.{text}
use Rattle.rows.specs.Rows.{row, padded}
use Rattle.sections.specs.Layout.{plan_of}
use Rattle.plan.specs.Checks.{first, any_from}
use Rattle.plan.specs.Nodes.{owners_from, total}
use Rattle.plan.specs.Refusals.{counts_outside}
use Rattle.plan.proofs.Cases as plans
use Rattle.plan.proofs.Cases.{P, Fields, packed, head, job, service, step, agree}
use Rattle.expressions.specs.Items.{push_all}
use Rattle.expressions.specs.Positions as positions
use Rattle.numbering.specs.Numbering.{index, collect, build, states}
use Rattle.item.specs.Faults.{item_at}
use Rattle.items.specs.Refusals.{read, items_refusal}
use Rattle.items.proofs.Cases.{kind, one, repeat}
use Rattle.grammar.specs.Grammar.{Tree}
use Rattle.grammar.specs.Meaning.{listed, items_of, letters_of}
use Rattle.grammar.specs.Ways.{letters, past_letters, stars}
use Rattle.grammar.proofs.Evaluate.{run}
use Rattle.automaton.specs.Automaton.{watched_below, states_of, table_of, accepting_below}
use Rattle.pattern.proofs.Cases.{two_jobs, distance}
use Rattle.graph.specs.Edges.{each, meetings_of, edges_of}
use Rattle.refusals.specs.declared.Refusal.{Refusal}
use Rattle.refusals.specs.declared.Refusal.TheVariants.{TooShort, CutShort, WrongSizes, StrayEnd, ItemsCut, NoKind, StrangeEvent, FewOperands, OperandsLeft, Trailing, ManyStates, ShortRow, Unreadable, ManyItems, StrangeLetter, NoneEnds}
use Rattle.verdict.specs.declared.Counts.{Counts}
use Rattle.verdict.specs.declared.Verdict.TheVariants.{Verified, Inconclusive}
use Rattle.verdict.specs.Answer.{Answer}
use Rattle.verdict.specs.Verdict.{final_below, rounded}
use Rattle.promises.specs.Order.{typed}
use Rattle.promises.specs.Judged.{JudgedText}
use Rattle.promises.proofs.Evaluate.{Outcome, evaluate, evaluate_judged}
use Rattle.promises.proofs.TextUnique.{typed_unique}
use Rattle.typedcases.proofs.Readings.{read_within, read_within_lem}
use Rattle.typedcases.proofs.Items.{more}

-- ---- an executable judge

-- a text read within n steps, and k rounds of the flow rules; none where either are too few
abbrev evaluate_text : (n k : ℕ) → (b w before : List ℕ) → Option Outcome
evaluate_text n k b w before = Option.bind (read_within n w) (λ (t : Option Tree). evaluate (typed w t) k b before)

evaluate_text_lem : (n k : ℕ) (b w before : List ℕ) (a : Answer) (after : List ℕ) → evaluate_text n k b w before ≡ some (a, after)
    → JudgedText b w before a after
evaluate_text_lem n k b w before a after e =
    let made = (bind-eq-some_iff (read_within n w) (λ (t : Option Tree). evaluate (typed w t) k b before)).0 e in
    record {
      tree = made.0;
      reading = read_within_lem n w made.0 made.1;
      judged = evaluate_judged (typed w made.0) k b before a after made.2;
    }

-- ---- plans and texts

-- P with a pattern of its own
abbrev with_items : Fields → List ℕ
with_items pattern = plans.one (job 2 0 1) (step 0 1 1) ++ packed pattern

-- P with the items {1} and {1}: two operands are left
abbrev two_left : List ℕ
two_left = packed (head 1 2 1 0 0 0 2 ++ job 2 0 1 ++ step 0 1 1) ++ packed (one (1 ∷ []) ++ one (1 ∷ []))

-- any string of a and b, then a, then a or b n times: 4 + 2 n items, 2 ^ (n + 1) + 1 states
abbrev pub late : ℕ → List ℕ
late n = text "[ab]*;a" ++ more "[ab]" n

-- ---- cases

pub record TypedCase : Type 0 where
  pub bytes : List ℕ
  pub text : List ℕ
  pub before : List ℕ
  pub answer : Answer
  pub after : List ℕ

abbrev refused : (bytes text before : List ℕ) → Refusal → TypedCase
refused bytes w before x = record { bytes = bytes; text = w; before = before; answer = Err x; after = before }

abbrev counts : (states meetings ordering pairs fill ends : ℕ) → Counts
counts s m o p f e = record { states = s; meetings = m; ordering = o; pairs = p; fill = f; ends = e }

abbrev verified : (bytes text before : List ℕ) → Counts → (after : List ℕ) → TypedCase
verified bytes w before c after = record { bytes = bytes; text = w; before = before; answer = Ok (Verified c); after = after }

abbrev inconclusive : (bytes text before : List ℕ) → Counts → (after : List ℕ) → TypedCase
inconclusive bytes w before c after = record { bytes = bytes; text = w; before = before; answer = Ok (Inconclusive c); after = after }

-- lent rows
abbrev eight : List ℕ
eight = 1 ∷ 2 ∷ 3 ∷ 4 ∷ 5 ∷ 6 ∷ 7 ∷ 8 ∷ []

abbrev three : List ℕ
three = 7 ∷ 8 ∷ 9 ∷ []

abbrev short : List ℕ
short = 7 ∷ []

-- the plan of two jobs, whose own pattern is `a;b;c`
abbrev of_two_jobs : List TypedCase
of_two_jobs =
    verified two_jobs (text "a;b;c") eight (counts 5 1 6 8 27 16) (1 ∷ 2 ∷ 24 ∷ 3 ∷ 8 ∷ 16 ∷ 7 ∷ 8 ∷ [])
    ∷ verified two_jobs (text "a;(b;c)") eight (counts 5 1 6 8 27 16) (1 ∷ 2 ∷ 24 ∷ 3 ∷ 8 ∷ 16 ∷ 7 ∷ 8 ∷ [])
    ∷ verified two_jobs (text "[^]*") eight (counts 2 1 6 7 58 2) (1 ∷ 2 ∷ 2 ∷ 3 ∷ 2 ∷ 2 ∷ 7 ∷ 8 ∷ [])  -- every string
    ∷ inconclusive two_jobs (text "b;a;c") eight (counts 5 1 6 7 23 2) (1 ∷ 2 ∷ 2 ∷ 3 ∷ 2 ∷ 2 ∷ 7 ∷ 8 ∷ [])
    ∷ verified two_jobs (text "[^c]*;c") eight (counts 4 1 6 9 38 4) (1 ∷ 6 ∷ 6 ∷ 3 ∷ 2 ∷ 4 ∷ 7 ∷ 8 ∷ [])
    -- event 3 at some time after event 1
    ∷ verified two_jobs (text "[^]*;a;[^]*;c;[^]*") eight (counts 9 1 6 8 15 32) (1 ∷ 2 ∷ 48 ∷ 3 ∷ 16 ∷ 32 ∷ 7 ∷ 8 ∷ [])
    -- of kind none
    ∷ inconclusive (set two_jobs 5 0x06) (text "a;b;c") eight (counts 5 1 6 8 27 16) (1 ∷ 2 ∷ 24 ∷ 3 ∷ 8 ∷ 16 ∷ 7 ∷ 8 ∷ [])
    ∷ verified (set two_jobs 5 0x06) (text "b;a;c") eight (counts 5 1 6 7 23 2) (1 ∷ 2 ∷ 2 ∷ 3 ∷ 2 ∷ 2 ∷ 7 ∷ 8 ∷ [])
    ∷ []

-- P, whose own pattern is `a`
abbrev of_P : List TypedCase
of_P =
    verified P (text "a") three (counts 3 0 0 2 33 2) (1 ∷ 2 ∷ 9 ∷ [])
    ∷ verified P (text "[^]") three (counts 3 0 0 2 33 2) (1 ∷ 2 ∷ 9 ∷ [])
    ∷ verified P (text "a*") three (counts 2 0 0 2 50 2) (1 ∷ 2 ∷ 9 ∷ [])
    ∷ inconclusive P (text "a;a") three (counts 4 0 0 2 25 2) (1 ∷ 2 ∷ 9 ∷ [])
    ∷ inconclusive P (text "[]") three (counts 2 0 0 2 50 2) (1 ∷ 2 ∷ 9 ∷ [])
    ∷ inconclusive P (text "0") three (counts 2 0 0 2 50 2) (1 ∷ 2 ∷ 9 ∷ [])
    ∷ inconclusive (set P 5 0x02) (text "a") three (counts 3 0 0 2 33 2) (1 ∷ 2 ∷ 9 ∷ [])  -- of kind none
    ∷ verified (set P 5 0x02) (text "0") three (counts 2 0 0 2 50 2) (1 ∷ 2 ∷ 9 ∷ [])
    -- with the alphabet of 1 and 31, which no letter names
    ∷ verified (set P 10 0x08) (text "[^]") three (counts 3 0 0 2 33 2) (1 ∷ 2 ∷ 9 ∷ [])
    ∷ inconclusive (set P 10 0x08) (text "[^a]") three (counts 3 0 0 2 33 2) (1 ∷ 2 ∷ 9 ∷ [])
    ∷ []

-- "16 is then about the text's automaton": plans whose own patterns have 65 states, and 33
abbrev of_many_states : List TypedCase
of_many_states =
    verified (distance 14 5) (text "a") three (counts 3 0 0 2 33 2) (1 ∷ 2 ∷ 9 ∷ [])
    ∷ inconclusive (distance 14 5) (late 4) three (counts 33 0 0 2 3 2) (1 ∷ 2 ∷ 9 ∷ [])
    ∷ refused (distance 14 5) (late 5) three ManyStates
    ∷ refused (distance 12 4) (late 5) three ManyStates
    ∷ []

-- "the plan's own, which must still pass 10 to 15"
abbrev own_items : List TypedCase
own_items =
    refused (take 21 P) (text "a") three ItemsCut
    ∷ refused (with_items (kind 5)) (text "a") three NoKind
    ∷ refused (with_items (one (2 ∷ []))) (text "a") three StrangeEvent
    ∷ refused (with_items repeat) (text "a") three FewOperands
    ∷ refused two_left (text "a") three OperandsLeft
    ∷ refused (set P 21 0x01) (text "a") three Trailing
    ∷ []

-- 1 to 15, then 18 to 20, then 16, then 17
abbrev overlaps : List TypedCase
overlaps =
    refused (take 10 P) (text "a;") short TooShort  -- 1, 18 and 17
    ∷ refused (take 16 P) (text "a;") short CutShort
    ∷ refused (take 21 P) (text "a;") short ItemsCut
    ∷ refused (take 21 P) (text "a" ++ more "a" 32) short ItemsCut  -- 10, 19 and 17
    ∷ refused (take 21 P) (text "b") short ItemsCut  -- 10, 20 and 17
    ∷ refused (set P 21 0x01) (text "a;") short Trailing
    ∷ refused (set P 21 0x01) (text "b") short Trailing
    ∷ refused P (text "a;") short Unreadable
    ∷ refused P (text "a" ++ more "a" 32) short ManyItems
    ∷ refused P (text "b") short StrangeLetter
    ∷ refused (distance 14 5) (text "a;") three Unreadable  -- the plan's own pattern has 65 states
    ∷ refused (distance 14 5) (late 31) short ManyItems  -- 19, 16 and 17: 66 items
    ∷ refused (distance 14 5) (late 6 ++ text ";z") short StrangeLetter  -- 20, 16 and 17
    ∷ refused (distance 14 5) (late 5) short ManyStates  -- 16 and 17
    ∷ refused (distance 14 5) (text "a") short ShortRow
    ∷ refused P (text "a") short ShortRow
    ∷ []

-- order 4: no jobs, the alphabet and pattern of P
abbrev recess : List ℕ
recess = packed (head 0 0 0 0 0 0 1) ++ packed (one (1 ∷ []))

abbrev of_no_jobs : List TypedCase
of_no_jobs =
    verified recess (text "0") [] (counts 2 0 0 0 0 1) []
    ∷ verified recess (text "a*") three (counts 2 0 0 0 0 1) three
    ∷ inconclusive recess (text "a") [] (counts 3 0 0 0 0 1) []
    ∷ inconclusive recess (text "[]") three (counts 2 0 0 0 0 1) three
    ∷ inconclusive (set recess 5 0x02) (text "a|0") [] (counts 3 0 0 0 0 1) []  -- of kind none
    ∷ verified (set recess 5 0x02) (text "a") [] (counts 3 0 0 0 0 1) []
    ∷ refused recess (text "a;") [] Unreadable
    ∷ refused recess (text "b") [] StrangeLetter
    ∷ refused (packed (head 0 1 0 0 0 0 1) ++ packed (one (1 ∷ []))) (text "a;") [] WrongSizes  -- jobs 0 with nodes, and 18
    ∷ []

-- order 5: two jobs, the alphabet and pattern of P; the first goes 0 to 1 by event 1, and one of them stands
abbrev beside : (first second : Fields) → List ℕ
beside first second = packed (head 2 3 1 0 0 0 1 ++ first ++ second ++ step 0 1 1) ++ packed (one (1 ∷ []))

abbrev of_standing : List TypedCase
of_standing =
    -- the standing job may have moved in the end, or not
    verified (beside (service 2 0 0) (job 1 2 2)) (text "a|0") three (counts 3 0 1 4 44 3) (1 ∷ 2 ∷ 3 ∷ [])
    ∷ inconclusive (beside (service 2 0 0) (job 1 2 2)) (text "0") three (counts 2 0 1 4 67 3) (1 ∷ 2 ∷ 3 ∷ [])
    ∷ verified (beside (job 2 0 1) (service 1 2 2)) (text "a") three (counts 3 0 1 4 44 2) (1 ∷ 2 ∷ 3 ∷ [])
    ∷ refused (beside (service 2 0 0) (service 1 2 2)) (text "a;") three NoneEnds  -- 21 and 18
    ∷ refused (beside (service 2 0 1) (service 1 2 2)) (text "a") three StrayEnd  -- 6 and 21
    ∷ []

-- the table
abbrev pub cases : List TypedCase
cases = of_two_jobs ++ of_P ++ of_many_states ++ own_items ++ overlaps ++ of_no_jobs ++ of_standing

-- by 100 steps of reading and two rounds of the rules, which are enough for all of them
abbrev found : TypedCase → Option Outcome
found c = evaluate_text 100 2 c.bytes c.text c.before

abbrev said : TypedCase → Option Outcome
said c = some (c.answer, c.after)

answers : map found cases ≡ map said cases
unfolding Option.bind run letters past_letters stars listed items_of letters_of bits_of value_from field_at events_from events_at row plan_of first any_from owners_from total counts_outside push_all item_at read items_refusal states_of states build collect index positions.step watched_below digit gather_below table_of accepting_below positions.final positions.accepts padded each meetings_of edges_of ones pairs_of final_below rounded
answers = refl

-- the outcomes of the table are what the judge of typed patterns promises
pub all_typed : {c : TypedCase} → Memᴰ c cases → JudgedText c.bytes c.text c.before c.answer c.after
all_typed {c} m = evaluate_text_lem 100 2 c.bytes c.text c.before c.answer c.after (agree found said answers m)

-- and it promises no others
pub typed_known : {c : TypedCase} → Memᴰ c cases → (a : Answer) (after : List ℕ) → JudgedText c.bytes c.text c.before a after
    → (a ≡ c.answer) × (after ≡ c.after)
typed_known {c} m a after j = typed_unique c.bytes c.text c.before a c.answer after c.after j (all_typed m)
