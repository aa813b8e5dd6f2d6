-- The answer of the checks of the bytes, by which of their tests hold. Assumes nothing.
use mathlib.Core.Path.{◌≡◌}
use mathlib.Core.Bool.{true, false}
use mathlib.Core.Option.{none, some}
use mathlib.Core.List.{List}
use Prim.Native.Nat.{ℕ}
use Rattle.plan.specs.Checks.{first}
use Rattle.plan.specs.Refusals.{too_short, counts_wrong, cut_short, filled, framing}

module _ (b : List ℕ) where
  pub framing_1 : too_short b ≡ true → first framing b ≡ some 1
  unfolding first
  framing_1 e = rw e

  module _ (long : too_short b ≡ false) where
    pub framing_2 : counts_wrong b ≡ true → first framing b ≡ some 2
    unfolding first
    framing_2 e = rw (long, e)

    module _ (counted : counts_wrong b ≡ false) where
      pub framing_3 : cut_short b ≡ true → first framing b ≡ some 3
      unfolding first
      framing_3 e = rw (long, counted, e)

      module _ (whole : cut_short b ≡ false) where
        pub framing_4 : filled b ≡ true → first framing b ≡ some 4
        unfolding first
        framing_4 e = rw (long, counted, whole, e)

        pub framing_none : filled b ≡ false → first framing b ≡ none
        unfolding first
        framing_none e = rw (long, counted, whole, e)
