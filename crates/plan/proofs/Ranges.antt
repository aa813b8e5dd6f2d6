-- What passed tests tell: counts within their ranges, and bytes that hold the sections. Assumes nothing.
use mathlib.Core.Path.{◌≡◌}
use mathlib.Core.Bool.{false}
use mathlib.Core.Option.{none}
use mathlib.Core.List.{List}
use Prim.Native.Nat.{ℕ, ◌≤◌}
use native.Mathlib.Omega.{arith}
use borrow.Author.Tests.{ltb-false}
use lib.ListN.{length}
use Rattle.sections.specs.declared.Head.{Head}
use Rattle.sections.specs.Layout.{head_of, pattern_at, Readable}
use Rattle.plan.specs.Checks.{first}
use Rattle.plan.specs.Refusals.{outside, counts_outside, counts_wrong, too_short, cut_short, framing}
use Rattle.plan.proofs.Tests.{or_none, first_none}

-- each count is within its range
pub record Ranged (h : Head) : Type 0 where
  pub jobs : h.jobs ≤ 16
  pub nodes : h.nodes ≤ 256
  pub steps : h.steps ≤ 256
  pub calls : h.calls ≤ 128
  pub accepts : h.accepts ≤ 128
  pub channels : h.channels ≤ 64
  pub some_item : 1 ≤ h.items
  pub items : h.items ≤ 64

inside : (low high n : ℕ) → outside low high n ≡ false → (low ≤ n) × (n ≤ high)
inside low high n e = let b = or_none _ _ e in (ltb-false _ _ b.0, ltb-false _ _ b.1)

pub ranged : (h : Head) → counts_outside h ≡ false → Ranged h
unfolding counts_outside
ranged h e =
    let a = or_none _ _ e in
    let b = or_none _ _ a.1 in
    let c = or_none _ _ b.1 in
    let d = or_none _ _ c.1 in
    let f = or_none _ _ d.1 in
    let g = or_none _ _ f.1 in
    let items = inside 1 64 h.items g.1 in
    record {
      jobs = (inside 0 16 h.jobs a.0).1;
      nodes = (inside 0 256 h.nodes b.0).1;
      steps = (inside 0 256 h.steps c.0).1;
      calls = (inside 0 128 h.calls d.0).1;
      accepts = (inside 0 128 h.accepts f.0).1;
      channels = (inside 0 64 h.channels g.0).1;
      some_item = items.0;
      items = items.1;
    }

-- the counts of the head are within their ranges, and the sections are there
pub record Framed (b : List ℕ) : Type 0 where
  pub long : 11 ≤ length b
  pub counts : Ranged (head_of b)
  pub sections : pattern_at (head_of b) ≤ length b

pub framed : (b : List ℕ) → first framing b ≡ none → Framed b
framed b e =
    let p = first_none 1 too_short _ b e in
    let q = first_none 2 counts_wrong _ b p.1 in
    let r = first_none 3 cut_short _ b q.1 in
    record { long = ltb-false _ _ p.0; counts = ranged (head_of b) q.0; sections = ltb-false _ _ r.0 }

pub readable : (b : List ℕ) → Framed b → Readable b (head_of b)
readable b f = record {
  jobs = f.counts.jobs;
  steps = f.counts.steps;
  channels = f.counts.channels;
  calls = f.counts.calls;
  accepts = f.counts.accepts;
  held = omega (arith, f.sections);
}
