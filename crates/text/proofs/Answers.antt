-- The answer to a text: a refusal, 18, 19 or 20, or its items, by what its readers came to.
use mathlib.Core.Path.{◌≡◌, refl, sym, ap, subst, ◌∙◌}
use mathlib.Core.Bool.{Bool, true, false, not, cond}
use mathlib.Core.List.{List, []}
use mathlib.Core.Option.{Option, none, some}
use Prim.Native.Nat.{ℕ, ◌≤◌, ◌<◌}
use borrow.Author.Tests.{lt-ltb, le-ltb}
use lib.Dec.{ltb}
use lib.ListN.{length, drop, take, drop_of_length-le}
use Rattle.std.specs.Prelude.{Ok, Err}
use Rattle.std.proofs.lemmas.List.{length-map, take_all}
use Rattle.masks.specs.Mask.{has}
use Rattle.plan.specs.Checks.{first, or_else, any}
use Rattle.arrayvec.specs.ArrayVec.{ArrayVec}
use Rattle.refusals.specs.declared.Refusal.{Refusal}
use Rattle.refusals.specs.declared.Refusal.TheVariants.{Unreadable, ManyItems, StrangeLetter}
use Rattle.refusals.specs.Numbers.{number}
use Rattle.expressions.specs.declared.Item.{Item}
use Rattle.grammar.specs.Grammar.{Tree, Reads, choice, Reading}
use Rattle.grammar.specs.Meaning.{items_of, unreadable, many_items, strange_letter, text_refusals}
use Rattle.grammar.specs.Ways.{broken, up_to, chain, choices, Way, item_from, items_by, typed_letters}
use Rattle.grammar.proofs.Unique.{way_reading}
use Rattle.grammar.proofs.Letters.{reads_letters}
use Rattle.grammar.proofs.Every.{every_text}
use Rattle.leaves.proofs.Bytes.{from_here}
use Rattle.readers.specs.Readers.{Came}
use Rattle.text.specs.Typed.{Typed}

module _ (w : List ℕ) (a : ℕ) where
  -- the three tests in their order
  abbrev decided : Bool → Bool → Bool → Option ℕ
  decided x y z = or_else (cond x (some 18) none) (or_else (cond y (some 19) none) (or_else (cond z (some 20) none) none))

  refusal : (o : Option Tree) {x y z : Bool} → unreadable w o ≡ x → many_items o a ≡ y → strange_letter o a ≡ z
      → first (text_refusals w o) a ≡ decided x y z
  unfolding first
  refusal o e f g = λ i. decided (e i) (f i) (g i)

  too_long : (o : Option Tree) → 255 < length w → unreadable w o ≡ true
  too_long none h = refl
  too_long (some t) h = lt-ltb 255 (length w) h

  refused : (o : Option Tree) (r : Refusal) → Reading w o → first (text_refusals w o) a ≡ some (number r) → Typed w a (Err r)
  refused o r h e = record { tree = o; reading = h; refusal = sym e; items = tt }

  pub long_text : 255 < length w → Typed w a (Err Unreadable)
  long_text h =
      let every = every_text w in
      refused every.0 Unreadable every.1 (refusal every.0 (too_long every.0 h) refl refl)

  pub broken_text : Way (chain choices) w broken → Typed w a (Err Unreadable)
  broken_text h = refused none Unreadable (way_reading w broken h) (refusal none refl refl refl)

  -- what was read, in an order of places
  module _ {order : List ℕ} {end : ℕ} (f : Came w order end) where
    -- a byte is left
    pub more_text : end < length w → Typed w a (Err Unreadable)
    more_text h =
        let left = subst (λ (r : List ℕ). Way (chain choices) w (up_to f.tree r)) (from_here w end h) f.way in
        refused none Unreadable (way_reading w _ left) (refusal none refl refl refl)

    -- all of a short text was read
    module _ (all : length w ≤ end) (short : length w ≤ 255) where
      tree : Reads choice w f.tree
      tree = way_reading w (up_to f.tree []) (subst (λ (r : List ℕ). Way (chain choices) w (up_to f.tree r)) (drop_of_length-le w {i = end} all) f.way)

      strange : strange_letter (some f.tree) a ≡ any (λ e. not (has a e)) (typed_letters w)
      strange = ap (any (λ e. not (has a e))) (reads_letters tree)

      -- as many items as places
      counted : length order ≡ length (items_of a f.tree)
      counted = sym (length-map order (λ i. item_from a (drop i w))) ∙ ap length (f.items a)

      read : {y z : Bool} → ltb 64 (length order) ≡ y → any (λ e. not (has a e)) (typed_letters w) ≡ z
          → first (text_refusals w (some f.tree)) a ≡ decided false y z
      read e g = refusal (some f.tree) (le-ltb 255 (length w) short) (ap (ltb 64) (sym counted) ∙ e) (strange ∙ g)

      pub many_items_lem : 64 < length order → Typed w a (Err ManyItems)
      many_items_lem m = refused (some f.tree) ManyItems tree (read (lt-ltb 64 (length order) m) refl)

      module _ (few : length order ≤ 64) where
        pub strange_letter_lem : any (λ e. not (has a e)) (typed_letters w) ≡ true → Typed w a (Err StrangeLetter)
        strange_letter_lem s = refused (some f.tree) StrangeLetter tree (read (le-ltb 64 (length order) few) s)

        pub all_items : (l : ArrayVec Item) → any (λ e. not (has a e)) (typed_letters w) ≡ false → l.items ≡ items_by a w (take 64 order) → Typed w a (Ok l)
        all_items l s q = record {
          tree = some f.tree;
          reading = tree;
          refusal = sym (read (le-ltb 64 (length order) few) s);
          items = q ∙ ap (items_by a w) (take_all 64 order few) ∙ f.items a;
        }
