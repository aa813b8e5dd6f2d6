-- One more item at each turn.
use Rattle.std.proofs.Common.{◌≡◌, ◌∙◌, ℕ, ◌+◌, ◌<◌, List, [], ◌∷◌, ◌++◌, length, map, refl, sym, ap, arith}
use native.Mathlib.Numerals.{add-one}
use lib.ListN.{get_or, set, take}
use lib.Seq.{take-suc}
use Rattle.std.proofs.lemmas.List.{map_push, length-map, length-take}
use Rattle.rows.specs.Rows.{padded}
use Rattle.rows.proofs.Rows.{padded_push}
use Rattle.expressions.specs.declared.Item.{Item}
use Rattle.expressions.specs.declared.Item.TheVariants.{Empty as empty}
use Rattle.item.specs.Found.{kind_of, set_of}
use Rattle.readback.proofs.list_items.Goals as goal

one_more : (f : Item → ℕ) (l : List Item) (i v : ℕ) (a : List ℕ) → i < length l → i < 64 → a ≡ padded 64 (map f (take i l)) → v ≡ f (get_or l i empty)
    → set a i v ≡ padded 64 (map f (take (i + 1) l))
one_more f l i v a h k e g =
    let long : length (map f (take i l)) ≡ i = omega (arith, length-map (take i l) f, length-take i l) in
    ap (λ (x : List ℕ). set x i v) e
    ∙ padded_push 64 (map f (take i l)) i v long k
    ∙ ap (λ (x : ℕ). padded 64 (map f (take i l) ++ (x ∷ []))) g
    ∙ ap (padded 64) (sym (map_push f (take i l) (get_or l i empty)))
    ∙ ap (λ (x : List Item). padded 64 (map f x)) (sym (take-suc l i empty h))
    ∙ ap (λ (n : ℕ). padded 64 (map f (take n l))) (sym (add-one i))

pub loop-i-init : goal.loop-i-init
unfolding padded
loop-i-init c = (refl, refl)

pub loop-i-preserved : goal.loop-i-preserved
loop-i-preserved c =
    let i = c.loop-i.i in
    let l = c.args.items.now.items in
    let same = c.deref-item-items.ensures.0 in
    let within : i < length l = omega (arith, ap length same) in
    let item = ap (λ (x : List Item). get_or x i empty) same in (
      one_more kind_of l i c.kind_of.result c.loop-i.kinds within (omega arith) c.loop-i.invariant.0 (c.kind_of.ensures ∙ ap kind_of item),
      one_more set_of l i c.set_of.result c.loop-i.sets within (omega arith) c.loop-i.invariant.1 (c.set_of.ensures ∙ ap set_of item),
    )
