-- `framed` goes through refusals 1 to 4 in their order.
use Rattle.std.proofs.Common.{◌≡◌, ◌∙◌, ℕ, ◌+◌, ◌-◌, ◌*◌, ◌/◌, ◌≤◌, Bool, false, not, List, length, sym, ap, arith, lt-ltb, le-ltb, eq-eqb, ne_eqb, ltb, eqb}
use Rattle.fields.specs.Bits.{field_at}
use Rattle.sections.specs.declared.Head.{Head}
use Rattle.sections.specs.Layout.{head_of, end_at}
use Rattle.plan.specs.Refusals.{too_short, counts_outside, counts_wrong, cut_short, filled}
use Rattle.plan.proofs.Tests.{told}
use Rattle.plan.proofs.Framing.{framing_1, framing_2, framing_3, framing_4, framing_none}
use Rattle.plan.proofs.Ranges.{ranged}
use Rattle.plan.proofs.framed.Goals as goal

-- what refusals 3 and 4 ask, from the place where the sections end
abbrev short_of : List ℕ → ℕ → Bool
short_of b end = ltb (length b) ((end + 7) / 8)

abbrev filled_from : List ℕ → ℕ → Bool
filled_from b end = not (eqb (field_at b end (8 * ((end + 7) / 8) - end)) 0)

filling : (b : List ℕ) (end bits : ℕ) → end ≡ end_at (head_of b) → bits ≡ field_at b end (8 * ((end + 7) / 8) - end) → filled b ≡ not (eqb bits 0)
filling b end bits e f = ap (filled_from b) (sym e) ∙ ap (λ (n : ℕ). not (eqb n 0)) (sym f)

-- refusals 1 and 2 were passed
passed : (b : List ℕ) (h : Head) (outside : Bool) → 11 ≤ length b → h ≡ head_of b → outside ≡ counts_outside h → outside ≡ false
    → (too_short b ≡ false) × (counts_wrong b ≡ false)
passed b h outside long e t f = (le-ltb _ _ long, told (t ∙ ap counts_outside e) f)

pub returns-then-plan-lt11 : goal.returns-then-plan-lt11
returns-then-plan-lt11 c = sym (framing_1 c.args.plan.now (lt-ltb _ _ c.if-plan-lt11.true))

pub returns-then-counts_outside : goal.returns-then-counts_outside
returns-then-counts_outside c =
    let outside = c.counts_outside.ensures ∙ ap counts_outside c.read_head-h.ensures in
    sym (framing_2 c.args.plan.now (le-ltb _ _ c.if-plan-lt11.false) (told outside c.if-counts_outside.true))

pub end_of-end-requires : goal.end_of-end-requires
end_of-end-requires c = let r = ranged _ (told c.counts_outside.ensures c.if-counts_outside.false) in (r.jobs, r.steps, r.channels, r.calls, r.accepts)

pub overflow_add-bytes : goal.overflow_add-bytes
overflow_add-bytes c = let r = ranged _ (told c.counts_outside.ensures c.if-counts_outside.false) in omega (arith, c.end_of-end.ensures)

pub returns-then-plan-bytes : goal.returns-then-plan-bytes
returns-then-plan-bytes c =
    let b = c.args.plan.now in
    let past = passed _ _ _ c.if-plan-lt11.false c.read_head-h.ensures c.counts_outside.ensures c.if-counts_outside.false in
    let end = c.end_of-end.ensures ∙ ap end_at c.read_head-h.ensures in
    sym (framing_3 b past.0 past.1 (ap (short_of b) (sym end) ∙ lt-ltb _ _ c.if-plan-bytes.true))

pub overflow_mul-bytes : goal.overflow_mul-bytes
overflow_mul-bytes c = let r = ranged _ (told c.counts_outside.ensures c.if-counts_outside.false) in omega (arith, c.end_of-end.ensures)

pub field-requires : goal.field-requires
field-requires c = let r = ranged _ (told c.counts_outside.ensures c.if-counts_outside.false) in omega (arith, c.end_of-end.ensures)

pub returns-then-field-ne0 : goal.returns-then-field-ne0
returns-then-field-ne0 c =
    let b = c.args.plan.now in
    let past = passed _ _ _ c.if-plan-lt11.false c.read_head-h.ensures c.counts_outside.ensures c.if-counts_outside.false in
    let end = c.end_of-end.ensures ∙ ap end_at c.read_head-h.ensures in
    let whole : cut_short b ≡ false = ap (short_of b) (sym end) ∙ le-ltb _ _ c.if-plan-bytes.false in
    sym (framing_4 b past.0 past.1 whole (filling b _ _ end c.field.ensures ∙ ap not (ne_eqb _ 0 c.if-field-ne0.true)))

pub returns : goal.returns
returns c =
    let b = c.args.plan.now in
    let past = passed _ _ _ c.if-plan-lt11.false c.read_head-h.ensures c.counts_outside.ensures c.if-counts_outside.false in
    let end = c.end_of-end.ensures ∙ ap end_at c.read_head-h.ensures in
    let whole : cut_short b ≡ false = ap (short_of b) (sym end) ∙ le-ltb _ _ c.if-plan-bytes.false in
    sym (framing_none b past.0 past.1 whole (filling b _ _ end c.field.ensures ∙ ap not (eq-eqb _ 0 c.if-field-ne0.false)))
