-- The tables of a plan in lent arrays, as they are read back of its bytes. Document 01, "The bit-packed plan" and "Four questions for each public
-- operation".
use Rattle.std.specs.Prelude.{List, [], ◌∷◌, map, cond, ℕ, ◌+◌, ◌*◌, ◌-◌, ltb}
use Rattle.std.proofs.Math.Option.{Option, none, some}
use Rattle.rows.specs.Rows.{row, padded}
use Rattle.sections.specs.declared.Kind.{Kind}
use Rattle.sections.specs.declared.Kind.TheVariants.{Every, None}
use Rattle.sections.specs.declared.Decoded.{Decoded}
use Rattle.sections.specs.Plan.{Arc, Plan, arc_at}
use Rattle.sections.specs.Layout.{plan_of}
use Rattle.sections.specs.Tables.{sizes, entries, exits, standings, decoded_of}
use Rattle.plan.specs.Checks.{first}
use Rattle.expressions.specs.declared.Item.{Item}
use Rattle.item.specs.Found.{kind_of, set_of}
use Rattle.pattern.specs.Refusals.{items_of_plan, readable}

-- the number that is told of the first refusal that applies, 0 where none does
abbrev pub number_of : Option ℕ → ℕ
number_of none = 0
number_of (some n) = n

-- "kind 1 (0 every, 1 none)"
abbrev pub kind_number : Kind → ℕ
kind_number Every = 0
kind_number None = 1

-- the counts of the head in their order, and the alphabet: event e has weight 2 ^ e
abbrev pub counts_in : Decoded → List ℕ
counts_in d = d.jobs.count ∷ d.nodes ∷ d.steps ∷ d.calls ∷ d.accepts ∷ d.channels.count ∷ kind_number d.kind ∷ d.items ∷ d.alphabet ∷ []

-- an arc in one number
abbrev pub word : Arc → ℕ
word a = a.from + 256 * a.to + 65536 * a.label

-- the arcs of a plan: its local steps from place 0 on, its calls from 256, its accepts from 384, and 0 everywhere else
abbrev pub word_at : Plan → ℕ → ℕ
word_at p k = cond (ltb k 256) (word (arc_at p.steps k)) (cond (ltb k 384) (word (arc_at p.calls (k - 256))) (word (arc_at p.accepts (k - 384))))

-- the kinds of items, and their sets
abbrev pub kinds_of : List Item → List ℕ
kinds_of l = map kind_of l

abbrev pub sets_of : List Item → List ℕ
sets_of l = map set_of l

-- the lent arrays
pub record Tables : Type 0 where
  pub counts : List ℕ
  -- of each job
  pub size : List ℕ
  pub entry : List ℕ
  pub exit : List ℕ
  pub standing : List ℕ
  -- of each channel
  pub event : List ℕ
  pub arcs : List ℕ
  -- of each item of the pattern
  pub kinds : List ℕ
  pub sets : List ℕ

abbrev pub tables : (counts size entry exit standing event arcs kinds sets : List ℕ) → Tables
tables counts size entry exit standing event arcs kinds sets = record {
  counts = counts;
  size = size;
  entry = entry;
  exit = exit;
  standing = standing;
  event = event;
  arcs = arcs;
  kinds = kinds;
  sets = sets;
}

-- what they hold of a plan with its items
abbrev pub tables_of : Plan → List Item → Tables
tables_of p l = record {
  counts = counts_in (decoded_of p);
  size = padded 16 (sizes p.jobs);
  entry = padded 16 (entries p.jobs);
  exit = padded 16 (exits p.jobs);
  standing = padded 16 (standings p.jobs);
  event = padded 64 p.channels;
  arcs = row 512 (word_at p);
  kinds = padded 64 (kinds_of l);
  sets = padded 64 (sets_of l);
}

-- "A refusal returns its number and nothing else": the arrays are then as they were
abbrev pub tables_under : Option ℕ → List ℕ → Tables → Tables
tables_under none b before = tables_of (plan_of b) (items_of_plan b)
tables_under (some n) b before = before

-- the arrays behind a reading of the bytes b: 1 to 15 and 21 are asked
unfoldable pub tables_in : List ℕ → Tables → Tables
tables_in b before = tables_under (first readable b) b before
