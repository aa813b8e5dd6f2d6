-- `field` is the number that its bits write, out of four bytes at most. Which bytes are taken is left to what is returned: before it, they are so
-- few that their number fits.
use Rattle.std.proofs.Common.{◌≡◌, ◌∙◌, ℕ, ◌+◌, ◌-◌, ◌*◌, ◌/◌, ◌%◌, ◌^◌, ◌≤◌, ◌<◌, List, arith, sym, get_or, length, take, drop, length-drop}
use lib.ListN.{length-take}
use lib.Pow.{pow_mono}
use lib.Seq.{get_or-drop}
use Rattle.std.proofs.lemmas.List.{get_or-take}
use Rattle.fields.specs.Bits.{field_at}
use Rattle.fields.proofs.Laws.{field_none, field_lt, field_within, shifted, bytes_more}
use Rattle.fields.proofs.field.Goals as goal

-- a byte that is taken: where it stands, and how many there are before it
held : (bs : List ℕ) (f n i : ℕ) → i < length (take n (drop f bs)) → (i < n) × (f + i < length bs)
held bs f n i h = let t = length-take n (drop f bs) in let d = length-drop f bs in (omega arith, omega arith)

held_at : (bs : List ℕ) (f n i b : ℕ) → b ≡ get_or (take n (drop f bs)) i 0 → i < length (take n (drop f bs)) → b ≡ get_or bs (f + i) 0
held_at bs f n i b e h = e ∙ get_or-take n (drop f bs) i 0 (held bs f n i h).0 ∙ rw get_or-drop

few : (bs : List ℕ) (f i acc : ℕ) → acc ≡ field_at bs (8 * f) (8 * i) → f + i < length bs → i < 5 → acc * 256 + 255 < 2 ^ 64
few bs f i acc e h l = omega (arith, field_lt bs (8 * f) (8 * i) (omega arith), pow_mono {i = 8 * i} {j = 32} (omega arith))

-- the field out of the number that n bytes write, where `skip` bits of them stand before it
taken : (bs : List ℕ) (at width skip n i acc : ℕ) → skip ≡ at % 8 → i ≡ n → skip + width ≤ 8 * n → at / 8 + n ≤ length bs → width ≤ 31
    → acc ≡ field_at bs (8 * (at / 8)) (8 * i) → acc / 2 ^ (8 * n - skip - width) % (1 * 2 ^ width % 2 ^ 64) ≡ field_at bs at width
taken bs at width skip n i acc begin all long within few e =
    let rest = 8 * n - skip - width in
    let bits : 8 * i ≡ skip + width + rest = omega arith in
    let start : 8 * (at / 8) + skip ≡ at = omega arith in
    rw (shifted width few, e, bits, field_within bs (8 * (at / 8)) skip width rest (omega arith), start)

pub loop-byte-init : goal.loop-byte-init
loop-byte-init c = sym (field_none _ _)

pub overflow_mul-acc : goal.overflow_mul-acc
overflow_mul-acc c =
    let args = c.args in
    let i = c.loop-byte.byte-index in
    let there : args.at / 8 + i < length args.plan.now = omega (arith, length-take {A = ℕ}, length-drop {A = ℕ}) in
    let short : i < 5 = omega (arith, length-take {A = ℕ}, length-drop {A = ℕ}) in
    omega (arith, few args.plan.now (args.at / 8) i c.loop-byte.acc c.loop-byte.invariant there short)

pub overflow_add-acc : goal.overflow_add-acc
overflow_add-acc c =
    let args = c.args in
    let i = c.loop-byte.byte-index in
    let there : args.at / 8 + i < length args.plan.now = omega (arith, length-take {A = ℕ}, length-drop {A = ℕ}) in
    let short : i < 5 = omega (arith, length-take {A = ℕ}, length-drop {A = ℕ}) in
    let byte = held_at args.plan.now (args.at / 8) _ i _ c.from.ensures (omega arith) in
    omega (arith, few args.plan.now (args.at / 8) i c.loop-byte.acc c.loop-byte.invariant there short, c.type_inv.plan (args.at / 8 + i))

pub loop-byte-preserved : goal.loop-byte-preserved
loop-byte-preserved c =
    let args = c.args in
    let i = c.loop-byte.byte-index in
    let there : args.at / 8 + i < length args.plan.now = omega (arith, length-take {A = ℕ}, length-drop {A = ℕ}) in
    let byte = held_at args.plan.now (args.at / 8) _ i _ c.from.ensures (omega arith) in
    let more = bytes_more args.plan.now (args.at / 8) i there (omega (arith, c.type_inv.plan (args.at / 8 + i))) in
    omega (arith, c.loop-byte.invariant, more)

pub returns : goal.returns
returns c =
    let args = c.args in
    let loop = c.loop-byte in
    taken args.plan.now args.at args.width _ _ loop.byte-index loop.acc (omega arith) (omega (arith, length-take {A = ℕ}, length-drop {A = ℕ}))
    (omega arith) (omega arith) (omega arith) loop.invariant
