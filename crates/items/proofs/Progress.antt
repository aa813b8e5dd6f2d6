-- From the first items to one more. Assumes nothing.
use mathlib.Core.Path.{◌≡◌, refl, sym, ap, subst, ◌∙◌}
use mathlib.Core.List.{List, [], ◌∷◌}
use mathlib.Core.Option.{Option, none, some}
use Prim.Native.Nat.{ℕ, zero, suc, ◌+◌, ◌-◌, ◌*◌, ◌≤◌}
use native.Mathlib.Nat.{add-zero}
use native.Mathlib.Numerals.{add-one}
use native.Mathlib.Omega.{arith}
use lib.ListN.{length, length-append}
use Rattle.plan.specs.Checks.{first}
use Rattle.expressions.specs.Items.{arity, operands, push}
use Rattle.expressions.proofs.Operands.{push_none, push_more, push_length}
use Rattle.item.specs.Faults.{kind_at, item_at, faults}
use Rattle.item.specs.Found.{kind_of}
use Rattle.items.specs.Refusals.{Spot, Read, faulty, up_to, depth, point_of, past, judged, one_more, read}
use Rattle.item.proofs.Faults.{kind_item, width_item, faultless}

module _ (b : List ℕ) (alphabet : ℕ) where
  read_more : (i : ℕ) → read b alphabet (i + 1) ≡ one_more b alphabet (read b alphabet i)
  unfolding read
  read_more i = rw (add-one i)

  -- ---- the next item

  -- a refusal stays
  pub faulty_later : (i k n : ℕ) → read b alphabet i ≡ faulty n → read b alphabet (i + k) ≡ faulty n
  faulty_later i zero n e = rw (add-zero i) e
  faulty_later i (suc k) n e =
      let more : i + suc k ≡ i + k + 1 = omega arith in
      ap (read b alphabet) more ∙ read_more (i + k) ∙ ap (one_more b alphabet) (faulty_later i k n e)

  module _ (i : ℕ) (s : Spot) (e : read b alphabet i ≡ up_to s) where
    pub refused_next : (n : ℕ) → some n ≡ first (faults b alphabet) (point_of s) → read b alphabet (i + 1) ≡ faulty n
    refused_next n h = read_more i ∙ ap (one_more b alphabet) e ∙ ap (λ (o : Option ℕ). judged b alphabet o s) (sym h)

    pub read_next : none ≡ first (faults b alphabet) (point_of s) → read b alphabet (i + 1) ≡ up_to (past b alphabet s)
    read_next h = read_more i ∙ ap (one_more b alphabet) e ∙ ap (λ (o : Option ℕ). judged b alphabet o s) (sym h)

  -- ---- an item without fault

  module _ (s : Spot) (fine : first (faults b alphabet) (point_of s) ≡ none) where
    pub kind_found : kind_of (item_at b s.at) ≡ kind_at b s.at
    unfolding item_at
    kind_found = kind_item _ _ (faultless b alphabet s.at (depth s) fine).0

    pub enough : arity (item_at b s.at) ≤ depth s
    enough = (faultless b alphabet s.at (depth s) fine).1

    -- the operands that it leaves
    pub depth_past : depth (past b alphabet s) ≡ depth s + 1 - arity (item_at b s.at)
    depth_past =
        let i = item_at b s.at in
        let l : length (push i (operands s.items)) + arity i ≡ depth s + 1 = push_length i (operands s.items) enough in
        ap length (push_more s.items i) ∙ omega arith

  -- ---- bounds of what is read

  abbrev pub Bounds : ℕ → Read → Type 0
  Bounds i (faulty n) = Unit {0}
  Bounds i (up_to s) = (s.at ≤ 34 * i) × (length s.items ≡ i) × (depth s ≤ i) × (3 * i ≤ s.at)

  bounds_judged : (i : ℕ) (s : Spot) → Bounds i (up_to s) → (o : Option ℕ) → first (faults b alphabet) (point_of s) ≡ o → Bounds (suc i) (judged b alphabet o s)
  bounds_judged i s h (some n) e = tt
  bounds_judged i s h none e = (
    omega (arith, width_item (kind_at b s.at)),
    omega (arith, length-append s.items (item_at b s.at ∷ [])),
    omega (arith, depth_past s e),
    omega (arith, width_item (kind_at b s.at)),
  )

  bounds_more : (i : ℕ) (x : Read) → Bounds i x → Bounds (suc i) (one_more b alphabet x)
  bounds_more i (faulty n) h = tt
  bounds_more i (up_to s) h = bounds_judged i s h (first (faults b alphabet) (point_of s)) refl

  pub read_bounds : (i : ℕ) → Bounds i (read b alphabet i)
  unfolding read
  read_bounds zero = (omega arith, refl, omega (arith, ap length push_none), omega arith)
  read_bounds (suc i) = bounds_more i (read b alphabet i) (read_bounds i)

  pub near : (i : ℕ) (s : Spot) → read b alphabet i ≡ up_to s → Bounds i (up_to s)
  near i s e = subst (Bounds i) e (read_bounds i)
