-- The turns of a loop that counts from 0 up to n: f 0, then f 1, .. , n of them.
use Rattle.std.specs.Prelude.{ℕ, zero, suc}

unfoldable pub turns : {A : Type 0} → ℕ → (ℕ → A → A) → A → A
turns zero f x = x
turns (suc n) f x = f n (turns n f x)
