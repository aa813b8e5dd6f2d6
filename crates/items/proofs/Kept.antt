-- Items without a refusal are an expression in postfix form. Assumes nothing.
use mathlib.Core.Path.{◌≡◌, refl, sym}
use mathlib.Core.List.{List, [], ◌∷◌, ◌++◌}
use mathlib.Core.Option.{Option, none, some, none-ne-some}
use mathlib.Core.Logic.{by_cases}
use Prim.Native.Nat.{ℕ, zero, suc, ◌≤◌, ◌<◌}
use native.Mathlib.Omega.{arith}
use native.Mathlib.Decide.{ℕ_discrete}
use borrow.Author.Tests.{eqb-true, not-false}
use lib.ListN.{length, get_or, take, length-append, get_or-append}
use lib.Seq.{take-append-le, take-append_seam, get_or-append_seam}
use Rattle.plan.specs.Checks.{refuse, first}
use Rattle.plan.proofs.Tests.{or_none, first_none}
use Rattle.expressions.specs.declared.Item.{Item}
use Rattle.expressions.specs.declared.Item.TheVariants.{Empty as empty}
use Rattle.expressions.specs.Items.{arity, operands}
use Rattle.item.specs.Faults.{item_at, faults}
use Rattle.items.specs.Refusals.{Spot, Read, faulty, up_to, point_of, depth, judged, one_more, not_one, bytes, trailing, leftovers, refusal_of, items_of, read, items_in, items_refusal}
use Rattle.items.specs.Postfix.{Postfix}
use Rattle.items.proofs.Progress.{enough, Bounds, read_bounds}

-- ---- each operator found its operands

abbrev Fed : List Item → Type 0
Fed l = (i : ℕ) → i < length l → arity (get_or l i empty) ≤ length (operands (take i l))

fed_more : (l : List Item) (x : Item) → Fed l → arity x ≤ length (operands l) → Fed (l ++ (x ∷ []))
fed_more l x h e i k =
    by_cases (ℕ_discrete i (length l))
    (λ q. rw (q, get_or-append_seam l x [] empty, take-append_seam l (x ∷ [])) e)
    (λ q.
    let j : i < length l = omega (arith, length-append l (x ∷ [])) in
    rw (get_or-append l (x ∷ []) empty i j, take-append-le i l (x ∷ []) (omega arith)) (h i j))

module _ (b : List ℕ) (alphabet : ℕ) where
  abbrev AllFed : Read → Type 0
  AllFed (faulty n) = Unit {0}
  AllFed (up_to s) = Fed s.items

  fed_judged : (s : Spot) → Fed s.items → (o : Option ℕ) → first (faults b alphabet) (point_of s) ≡ o → AllFed (judged b alphabet o s)
  fed_judged s h (some n) e = tt
  fed_judged s h none e = fed_more s.items (item_at b s.at) h (enough b alphabet s e)

  fed_next : (x : Read) → AllFed x → AllFed (one_more b alphabet x)
  fed_next (faulty n) h = tt
  fed_next (up_to s) h = fed_judged s h (first (faults b alphabet) (point_of s)) refl

  read_fed : (n : ℕ) → AllFed (read b alphabet n)
  unfolding read
  read_fed zero = λ i h. absurd (omega arith)
  read_fed (suc n) = fed_next (read b alphabet n) (read_fed n)

  left_one : (s : Spot) → first (leftovers b) s ≡ none → depth s ≡ 1
  left_one s e =
      let h = (first_none 14 not_one (refuse 15 (trailing b) ∷ []) s e).0 in
      eqb-true _ _ (not-false _ h)

  list_postfix : (n : ℕ) → n ≤ 64 → (x : Read) → Bounds b alphabet n x → AllFed x → refusal_of b x ≡ none → Postfix (items_of x)
  list_postfix n few (faulty k) h f e = absurd (none-ne-some k (sym e))
  list_postfix n few (up_to s) h f e = record { few = omega arith; enough = f; one = left_one s e }

  pub items_postfix : (n : ℕ) → n ≤ 64 → items_refusal b alphabet n ≡ none → Postfix (items_in b alphabet n)
  unfolding items_refusal
  items_postfix n few e = list_postfix n few (read b alphabet n) (read_bounds b alphabet n) (read_fed n) e

  -- an item has bytes
  some_byte : (n : ℕ) → 1 ≤ n → (x : Read) → Bounds b alphabet n x → refusal_of b x ≡ none → 1 ≤ length b
  some_byte n h (faulty k) g e = absurd (none-ne-some k (sym e))
  some_byte n h (up_to s) g e =
      let t = (first_none 15 (trailing b) [] s (first_none 14 not_one (refuse 15 (trailing b) ∷ []) s e).1).0 in
      let l : length b ≡ bytes s.at = eqb-true _ _ (not-false _ (or_none _ _ t).0) in
      omega (arith, g)

  pub items_bytes : (n : ℕ) → 1 ≤ n → items_refusal b alphabet n ≡ none → 1 ≤ length b
  unfolding items_refusal
  items_bytes n h e = some_byte n h (read b alphabet n) (read_bounds b alphabet n) e
