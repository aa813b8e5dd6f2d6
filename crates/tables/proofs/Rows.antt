-- Records of so many bits one after the other, and the tables of all of them. Assumes nothing.
use mathlib.Core.Path.{◌≡◌, sym, ap, ap₂, ◌∙◌}
use mathlib.Core.List.{List}
use Prim.Native.Nat.{ℕ, ◌+◌, ◌*◌, ◌/◌, ◌%◌, ◌^◌, ◌≤◌, ◌<◌}
use native.Mathlib.Nat.{mul-suc, mul-le-mul, mul-le-mul_left}
use native.Mathlib.Omega.{arith}
use lib.ListN.{length}
use Rattle.fields.specs.Bits.{field_at, events_at}
use Rattle.fields.proofs.Laws.{field_front, field_back, field_within, shifted}
use Rattle.sections.specs.Layout.{alphabet_at, arc_at, jobs_of, steps_at, channels_of, calls_at, accepts_at, plan_under}
use Rattle.sections.specs.declared.Kind.{Kind}
use Rattle.sections.specs.declared.Head.{Head}
use Rattle.sections.specs.declared.Jobs.{Jobs}
use Rattle.sections.specs.declared.Channels.{Channels}
use Rattle.sections.specs.declared.Decoded.{Decoded}
use Rattle.sections.specs.Plan.{Job, kind_of}
use Rattle.rows.specs.Rows.{row, padded}
use Rattle.rows.proofs.Rows.{row_length}
use Rattle.sections.specs.Tables.{sizes, entries, exits, standings, job_table, channel_table, decoded_of}

-- ---- records of k bits, one after the other

-- the record i of n ends within them, and starts at a place that fits
pub stride : (k i n : ℕ) → i < n → k ≤ 24 → n ≤ 256 → (k * i + k ≤ k * n) × (k * i ≤ 6144)
stride k i n h a b = (rw (← (mul-suc k i)) (mul-le-mul_left k h), mul-le-mul {n₁ = k} {m₁ = i} {n₂ = 24} {m₂ = 256} a (omega arith))

-- the ends and the label of an arc, out of the field n of all its bits
pub arc_parts : (b : List ℕ) (w at n : ℕ) → w ≤ 8 → at + (16 + w) ≤ 8 * length b → n ≡ field_at b at (16 + w)
    → (n / 2 ^ (8 + w) ≡ (arc_at b w at).from) × (n / 2 ^ w % 2 ^ 8 ≡ (arc_at b w at).to) × (n % (1 * 2 ^ w % 2 ^ 64) ≡ (arc_at b w at).label)
arc_parts b w at n small h e =
    let two : 16 + w ≡ 8 + (8 + w) = omega arith in (
      ap (λ (x : ℕ). x / 2 ^ (8 + w)) (e ∙ ap (field_at b at) two) ∙ field_front b at 8 (8 + w) (omega arith),
      ap (λ (x : ℕ). x / 2 ^ w % 2 ^ 8) e ∙ field_within b at 8 8 w (omega arith),
      ap₂ (λ (x y : ℕ). x % y) e (shifted w (omega arith)) ∙ field_back b at 16 w (omega arith),
    )

-- ---- tables, where a loop has gone through all the records

pub channels_read : (f : ℕ → ℕ) (i n : ℕ) → i ≡ n → (event : List ℕ) → event ≡ padded 64 (row i f)
    → ◌≡◌ {A = Channels} (record { event = event; count = n }) (channel_table (row n f))
channels_read f i n e event p = cc (row_length f n)

pub jobs_read : (f : ℕ → Job) (i n : ℕ) → i ≡ n → (size entry exit standing : List ℕ)
    → size ≡ padded 16 (sizes (row i f)) → entry ≡ padded 16 (entries (row i f)) → exit ≡ padded 16 (exits (row i f))
    → standing ≡ padded 16 (standings (row i f))
    → ◌≡◌ {A = Jobs} (record { size = size; entry = entry; exit = exit; standing = standing; count = n }) (job_table (row n f))
jobs_read f i n e size entry exit standing p q r t = cc (row_length f n)

pub sections_read : (b : List ℕ) (h : Head) (kind : Kind) (alphabet : ℕ) (jobs : Jobs) (channels : Channels)
    → kind ≡ kind_of h.kind → alphabet ≡ events_at b alphabet_at → jobs ≡ job_table (jobs_of b h) → channels ≡ channel_table (channels_of b h)
    → ◌≡◌ {A = Decoded} (record { nodes = h.nodes; kind = kind; items = h.items; alphabet = alphabet; jobs = jobs; steps = h.steps; channels = channels; calls = h.calls; accepts = h.accepts }) (decoded_of (plan_under b h))
sections_read b h kind alphabet jobs channels p q r t =
    let steps = row_length (λ (i : ℕ). arc_at b 5 (steps_at h + 21 * i)) h.steps in
    let calls = row_length (λ (i : ℕ). arc_at b 6 (calls_at h + 22 * i)) h.calls in
    let accepts = row_length (λ (i : ℕ). arc_at b 6 (accepts_at h + 22 * i)) h.accepts in
    λ i. record {
      nodes = h.nodes;
      kind = p i;
      items = h.items;
      alphabet = q i;
      jobs = r i;
      steps = sym steps i;
      channels = t i;
      calls = sym calls i;
      accepts = sym accepts i;
    }
