-- The place of the pattern's part: it is where the part stands, at the end of the plan. Assumes nothing.
use mathlib.Core.Path.{◌≡◌, refl, sym, ap, subst, ◌∙◌}
use mathlib.Core.Bool.{Bool, cond}
use mathlib.Core.List.{List, [], ◌∷◌}
use mathlib.Core.Option.{Option, none, some}
use Prim.Native.Nat.{ℕ, ◌-◌, ◌≤◌}
use native.Mathlib.Nat.{le_of_eq}
use native.Mathlib.Omega.{arith}
use borrow.Author.Tests.{ne_eqb}
use lib.ListN.{length, get_or, take, drop, length-drop}
use lib.Seq.{take_all}
use Rattle.sections.specs.Layout.{head_of, pattern_at}
use Rattle.plan.specs.Checks.{refuse, first}
use Rattle.plan.proofs.Tests.{both_none, first_last}
use Rattle.pattern.specs.Refusals.{rest, readable, too_many_states, acceptable, pattern_part}
use Rattle.pattern.proofs.Order.{pattern_there}
use Rattle.pattern.proofs.Part.{before_items, part_is, part_empty}
use Rattle.traceflow.specs.Exported.{place_under, place_of, at_end}

-- a list without places is empty
none_long : (l : List ℕ) → length l ≡ 0 → l ≡ []
none_long [] e = refl
none_long (x ∷ l) e = absurd (omega (arith, e))

-- some bytes at the end have their place there
ended : (all bytes : ℕ) → (bytes ≡ 0 → ⊥) → at_end all bytes ≡ ((all - bytes) ∷ bytes ∷ [])
ended all bytes any = ap (λ (t : Bool). cond t (0 ∷ 0 ∷ []) ((all - bytes) ∷ bytes ∷ [])) (ne_eqb bytes 0 any)

abbrev Passed : Option ℕ → Type 0
Passed none = Unit {0}
Passed (some n) = ⊥

none_some : (n : ℕ) → none ≡ some n → ⊥
none_some n e = subst Passed e tt

module _ (b : List ℕ) where
  place_is : (o : Option ℕ) → first acceptable b ≡ o → place_of b ≡ place_under o b
  unfolding place_of
  place_is o e = ap (λ (x : Option ℕ). place_under x b) e

  -- of an accepted plan the part begins within the bytes, and it has some
  module _ (e : first acceptable b ≡ none) where
    starts : pattern_at (head_of b) ≤ length b
    starts = pattern_there b (before_items b (both_none (first readable b) (refuse 16 too_many_states b) (sym (first_last readable (refuse 16 too_many_states) b) ∙ e)).0)

    some_bytes : length (rest b) ≡ 0 → ⊥
    some_bytes z =
        let refused = (part_empty b).0 (part_is b none e ∙ none_long (rest b) z) in
        none_some refused.0 (sym e ∙ refused.1)

  pub part_within : length (pattern_part b) ≤ length b
  part_within = go (first acceptable b) refl
    where
      go : (o : Option ℕ) → first acceptable b ≡ o → length (pattern_part b) ≤ length b
      go (some n) e = omega (arith, ap length (part_is b (some n) e))
      go none e = omega (arith, ap length (part_is b none e), length-drop (pattern_at (head_of b)) b)

  -- where the code finds it
  pub place_at_end : at_end (length b) (length (pattern_part b)) ≡ place_of b
  place_at_end = go (first acceptable b) refl
    where
      go : (o : Option ℕ) → first acceptable b ≡ o → at_end (length b) (length (pattern_part b)) ≡ place_of b
      go (some n) e = ap (λ (l : List ℕ). at_end (length b) (length l)) (part_is b (some n) e) ∙ sym (place_is (some n) e)
      go none e =
          let from : length b - length (rest b) ≡ pattern_at (head_of b) = omega (arith, length-drop (pattern_at (head_of b)) b, starts e) in
          ap (λ (l : List ℕ). at_end (length b) (length l)) (part_is b none e) ∙ ended (length b) (length (rest b)) (some_bytes e)
          ∙ ap (λ (k : ℕ). k ∷ length (rest b) ∷ []) from
          ∙ sym (place_is none e)

  -- what stands there is the part
  pub place_part : take (get_or (place_of b) 1 0) (drop (get_or (place_of b) 0 0) b) ≡ pattern_part b
  place_part = go (first acceptable b) refl
    where
      stands : List ℕ → List ℕ
      stands place = take (get_or place 1 0) (drop (get_or place 0 0) b)

      go : (o : Option ℕ) → first acceptable b ≡ o → stands (place_of b) ≡ pattern_part b
      go (some n) e = ap stands (place_is (some n) e) ∙ sym (part_is b (some n) e)
      go none e = ap stands (place_is none e) ∙ take_all (length (rest b)) (rest b) (le_of_eq refl) ∙ sym (part_is b none e)
