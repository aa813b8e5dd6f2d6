-- `read_sections` goes through refusals 5 to 9 and 21 in their order.
use Rattle.std.proofs.Common.{◌≡◌, ◌∙◌, ℕ, List, sym, arith}
use Rattle.std.proofs.lemmas.Result.{err_from_is_err_and}
use Rattle.std.proofs.Math.Option.{none}
use Rattle.rows.specs.Rows.{padded}
use Rattle.sections.specs.declared.Head.{Head}
use Rattle.sections.specs.declared.Decoded.{Decoded}
use Rattle.sections.specs.Layout.{head_of, pattern_at, plan_of, plan_under}
use Rattle.sections.specs.Tables.{decoded_of}
use Rattle.plan.specs.Checks.{first}
use Rattle.plan.specs.Nodes.{owners}
use Rattle.plan.specs.Refusals.{framing}
use Rattle.plan.proofs.Ranges.{framed, readable}
use Rattle.words.specs.Words.{Worded}
use Rattle.reader.specs.declared.Reading.{Reading}
use Rattle.reader.specs.Reading.{accepted}
use Rattle.reader.proofs.Tables.{Read, counts, kept, worded, jobs_few, starts, sizes_refused, nodes_few, ends_next, owners_kept, lent_of}
use Rattle.reader.proofs.read_sections.Goals as goal

-- what the calls of `read_head` and of `decode` tell
read : {b : List ℕ} {h : Head} {d : Decoded} {before words : List ℕ} → first framing b ≡ none → h ≡ head_of b
    → (d ≡ decoded_of (plan_under b h)) × Worded (plan_under b h) before words → Read b h d before words
read p h d = record { passed = p; head = h; tables = d.0; arcs = d.1 }

whole : (b : List ℕ) (plan : Decoded) (owner : List ℕ) (pattern : ℕ) → plan ≡ decoded_of (plan_of b) → owner ≡ padded 256 (owners (plan_of b).jobs)
    → pattern ≡ pattern_at (head_of b) → ◌≡◌ {A = Reading} (record { plan = plan; owner = owner; pattern = pattern }) (accepted b)
whole b plan owner pattern p q r = λ i. record { plan = p i; owner = q i; pattern = r i }

pub read_head-h-requires : goal.read_head-h-requires
read_head-h-requires c = omega (arith, (framed c.args.plan.now c.requires.0).long)

pub decode-d-requires : goal.decode-d-requires
decode-d-requires c =
    let b = c.args.plan.now in
    (rw c.read_head-h.ensures (readable b (framed b c.requires.0)), c.requires.1)

pub sizes_wrong-requires : goal.sizes_wrong-requires
sizes_wrong-requires c = jobs_few (read c.requires.0 c.read_head-h.ensures c.decode-d.ensures)

pub returns-then-sizes_wrong-clause-refusal : goal.returns-then-sizes_wrong-clause-refusal
returns-then-sizes_wrong-clause-refusal c =
    sym (sizes_refused (read c.requires.0 c.read_head-h.ensures c.decode-d.ensures) c.sizes_wrong.ensures c.if-sizes_wrong.true)

pub returns-then-sizes_wrong-clause-words : goal.returns-then-sizes_wrong-clause-words
returns-then-sizes_wrong-clause-words c = worded (read c.requires.0 c.read_head-h.ensures c.decode-d.ensures)

pub owners_of-owner-requires : goal.owners_of-owner-requires
owners_of-owner-requires c =
    let r = read c.requires.0 c.read_head-h.ensures c.decode-d.ensures in
    (jobs_few r, nodes_few r c.sizes_wrong.ensures c.if-sizes_wrong.false)

pub bounded-requires : goal.bounded-requires
bounded-requires c =
    let r = read c.requires.0 c.read_head-h.ensures c.decode-d.ensures in
    (plan_of c.args.plan.now, lent_of r c.owners_of-owner.ensures)

pub returns-in_err-bounded-clause-refusal : goal.returns-in_err-bounded-clause-refusal
returns-in_err-bounded-clause-refusal c =
    let b = c.args.plan.now in
    let r = read c.requires.0 c.read_head-h.ensures c.decode-d.ensures in
    let p = err_from_is_err_and c.from_residual.result c.from_residual.ensures.1 in
    rw (p.1, p.2) (c.in_err-bounded.ensures (plan_of b) (lent_of r c.owners_of-owner.ensures) ∙ sym (ends_next r c.sizes_wrong.ensures c.if-sizes_wrong.false))

pub returns-in_err-bounded-clause-words : goal.returns-in_err-bounded-clause-words
returns-in_err-bounded-clause-words c = worded (read c.requires.0 c.read_head-h.ensures c.decode-d.ensures)

pub end_of-requires : goal.end_of-requires
end_of-requires c =
    let n = counts (read c.requires.0 c.read_head-h.ensures c.decode-d.ensures) in
    (n.jobs, n.steps, n.channels, n.calls, n.accepts)

pub overflow_add-result : goal.overflow_add-result
overflow_add-result c = omega (arith, c.end_of.ensures, counts (read c.requires.0 c.read_head-h.ensures c.decode-d.ensures))

pub returns-clause-refusal : goal.returns-clause-refusal
returns-clause-refusal c =
    let b = c.args.plan.now in
    let r = read c.requires.0 c.read_head-h.ensures c.decode-d.ensures in
    c.in_ok-bounded.ensures (plan_of b) (lent_of r c.owners_of-owner.ensures) ∙ sym (ends_next r c.sizes_wrong.ensures c.if-sizes_wrong.false)

pub returns-clause-plan : goal.returns-clause-plan
returns-clause-plan c =
    let r = read c.requires.0 c.read_head-h.ensures c.decode-d.ensures in
    whole c.args.plan.now _ _ _ (kept r) (owners_kept r c.owners_of-owner.ensures) (starts r _ c.end_of.ensures)

pub returns-clause-words : goal.returns-clause-words
returns-clause-words c = worded (read c.requires.0 c.read_head-h.ensures c.decode-d.ensures)
