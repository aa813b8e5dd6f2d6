-- How operators bind and group: "`;` binds tighter than `|`, both group to the left".
use mathlib.Core.Path.{refl}
use mathlib.Core.List.{List, ◌∷◌, ◌++◌}
use Prim.Native.Nat.{ℕ}
use Rattle.grammar.specs.Grammar.{Tree, followed, either, choice, sequence, unit, Reads, alone, bars, single, semicolons, semicolon, bar}

module _ {u v w : List ℕ} {r s t : Tree} where
  pub semicolons_group_left : Reads unit u r → Reads unit v s → Reads unit w t
      → Reads sequence ((u ++ semicolon ∷ v) ++ semicolon ∷ w) (followed (followed r s) t)
  semicolons_group_left f g h = semicolons (semicolons (single f) g refl) h refl

  pub bars_group_left : Reads sequence u r → Reads sequence v s → Reads sequence w t
      → Reads choice ((u ++ bar ∷ v) ++ bar ∷ w) (either (either r s) t)
  bars_group_left f g h = bars (bars (alone f) g refl) h refl

  pub semicolon_binds_tighter : Reads unit u r → Reads unit v s → Reads unit w t
      → Reads choice (u ++ bar ∷ (v ++ semicolon ∷ w)) (either r (followed s t))
  semicolon_binds_tighter f g h = bars (alone (single f)) (semicolons (single g) h refl) refl
