-- The sets go into the row, whether they are copied as they stand or as a `map` gives them that changes none.
use Rattle.std.proofs.Common.{◌≡◌, ℕ, ◌^◌, ◌<◌, ◌≤◌, ◌++◌, List, length, get_or, bit_and, take, drop, leb, ◌∙◌, refl, sym, arith}
use Rattle.std.proofs.lemmas.Grind.{same_number_lists, common_steps}
use Rattle.std.specs.Array.{IsMapOf}
use denote.Param.Members.{Mut}
use Rattle.verdict.specs.Row.{handed}
use Rattle.answers.proofs.hand_over.Goals as goal

copied : (n : ℕ) (sets from part before : List ℕ) → n ≤ length before → part ≡ take n from → from ≡ sets
    → part ++ drop n before ≡ handed (leb n (length before)) n sets before
copied n sets from part before fits p e = grind (arith, common_steps)

module _ {F : Type 0} (g : Mut F (ℕ × Unit {0}) ℕ) (f : F) (sets from : List ℕ) (n : ℕ) where
  -- each call gives h of its argument, and h changes no set
  mapped : (h : ℕ → ℕ) → IsMapOf g f sets from n → length sets ≡ n → ((i : ℕ) → h (get_or sets i 0) ≡ get_or sets i 0)
      → ((p q : F) (x y : ℕ) → g.steps p (x, tt) y q → y ≡ h x) → from ≡ sets
  mapped h m l same gives =
      same_number_lists from sets (m.long ∙ sym l)
      (λ k i. let lt : k < n = omega arith in let r = m.at k 0 0 lt in gives r.0 r.1 _ _ r.2.met ∙ same k)

  -- its argument as it is
  mapped_as_it_is : IsMapOf g f sets from n → length sets ≡ n → ((p q : F) (x y : ℕ) → g.steps p (x, tt) y q → y ≡ x) → from ≡ sets
  mapped_as_it_is m l gives = mapped (λ x. x) m l (λ i. refl) gives

  -- the states of its argument that are among all 64
  mapped_within : IsMapOf g f sets from n → length sets ≡ n → ((i : ℕ) → get_or sets i 0 < 2 ^ 64)
      → ((p q : F) (x y : ℕ) → g.steps p (x, tt) y q → y ≡ bit_and x 0xFFFF_FFFF_FFFF_FFFF) → from ≡ sets
  mapped_within m l fits gives = mapped (λ x. bit_and x 0xFFFF_FFFF_FFFF_FFFF) m l (λ i. let small = fits i in grind (arith, common_steps)) gives

ruleset copies = (copied, mapped_as_it_is, mapped_within)

pub returns-then-fits : goal.returns-then-fits
returns-then-fits c = search copies
