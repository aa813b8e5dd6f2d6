-- The answer about the items, by what was read of them. Assumes nothing.
use mathlib.Core.Path.{◌≡◌, refl, ap, ◌∙◌}
use mathlib.Core.Bool.{true, false}
use mathlib.Core.List.{List}
use mathlib.Core.Option.{none, some, none-ne-some}
use Prim.Native.Nat.{ℕ, ◌-◌, ◌*◌}
use borrow.Author.Tests.{eq-eqb, ne_eqb}
use lib.ListN.{length}
use Rattle.std.proofs.Common.{Ok, Err}
use Rattle.fields.specs.Bits.{field_at}
use Rattle.plan.specs.Checks.{first}
use Rattle.refusals.specs.declared.Refusal.{Refusal}
use Rattle.refusals.specs.Numbers.{number}
use Rattle.items.specs.declared.Scan.{Scan}
use Rattle.items.specs.Refusals.{Spot, Read, faulty, up_to, depth, not_one, bytes, trailing, refusal_of, read, items_refusal}
use Rattle.items.specs.Tables.{Scanned}

-- ---- what the scan of the items tells

pub scan_refused : (x : Read) (r : Refusal) → Scanned x (Err r) → x ≡ faulty (number r)
scan_refused (faulty n) r e = cc
scan_refused (up_to s) r e = cc

pub scan_done : (x : Read) (t : Scan) → Scanned x (Ok t) → (s : Spot) × (x ≡ up_to s) × (t ≡ record { at = s.at; depth = depth s; items = record { items = s.items } })
scan_done (faulty n) t e = absurd (none-ne-some n e)
scan_done (up_to s) t e = (s, refl, cc)

-- ---- refusal 15, by the bytes behind the last item

module _ (b : List ℕ) (s : Spot) where
  pub trails_bytes : (length b ≡ bytes s.at → ⊥) → trailing b s ≡ true
  trails_bytes h = rw (ne_eqb _ _ h)

  module _ (exact : length b ≡ bytes s.at) (v : ℕ) (e : v ≡ field_at b s.at (8 * bytes s.at - s.at)) where
    pub trails_bits : (v ≡ 0 → ⊥) → trailing b s ≡ true
    trails_bits h = rw (eq-eqb _ _ exact, ← e, ne_eqb _ _ h)

    pub trails_none : v ≡ 0 → trailing b s ≡ false
    trails_none h = rw (eq-eqb _ _ exact, ← e, eq-eqb _ _ h)

-- ---- the answer

module _ (b : List ℕ) (alphabet n : ℕ) where
  by_read : (x : Read) → read b alphabet n ≡ x → items_refusal b alphabet n ≡ refusal_of b x
  unfolding items_refusal
  by_read x e = ap (refusal_of b) e

  pub answer_faulty : (k : ℕ) → read b alphabet n ≡ faulty k → items_refusal b alphabet n ≡ some k
  answer_faulty k e = by_read (faulty k) e

  module _ (s : Spot) (e : read b alphabet n ≡ up_to s) where
    pub answer_14 : not_one s ≡ true → items_refusal b alphabet n ≡ some 14
    unfolding first
    answer_14 h = by_read (up_to s) e ∙ rw h refl

    module _ (one : not_one s ≡ false) where
      pub answer_15 : trailing b s ≡ true → items_refusal b alphabet n ≡ some 15
      unfolding first
      answer_15 h = by_read (up_to s) e ∙ rw (one, h) refl

      pub answer_none : trailing b s ≡ false → items_refusal b alphabet n ≡ none
      unfolding first
      answer_none h = by_read (up_to s) e ∙ rw (one, h) refl
