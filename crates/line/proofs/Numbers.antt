-- Numbers on the line: the digits that `io` writes are those of the line, and how many they are. Assumes nothing.
use mathlib.Core.Path.{◌≡◌, refl, sym, ap, ◌∙◌}
use mathlib.Core.List.{List, [], ◌∷◌, ◌++◌}
use mathlib.Core.Logic.{by_cases}
use Prim.Native.Nat.{ℕ, zero, suc, ◌-◌, ◌/◌, ◌%◌, ◌^◌, ◌≤◌, ◌<◌}
use native.Mathlib.Nat.{pow-suc, one-le-pow, mod-eq_of_lt, pow-le-pow_right, le-div_iff_mul-le, div-lt_iff_lt-mul}
use native.Mathlib.Decide.{dec_lt}
use native.Mathlib.Omega.{arith}
use borrow.Author.Tests.{lt-ltb, le-ltb}
use lib.ListN.{length, length-append}
use Rattle.io.specs.Digits.{hex_digit_ascii, last_digits, IsDigitCount}
use Rattle.line.specs.Line.{decimal_within, decimal, hexadecimal}

-- ---- the fewest digits

-- a number below b ^ m takes at most m
fewest_most : (b least m k n : ℕ) → 0 < b → least ≤ m → n < b ^ m → IsDigitCount b least n k → k ≤ m
fewest_most b least m k n p l h f =
    by_cases (dec_lt m k) (λ g. absurd (omega (arith, f.2 (omega arith), pow-le-pow_right {n = b} p {i = m} {j = k - 1} (omega arith))))
    (λ g. omega arith)

-- ---- a tenth takes one digit less

tenth_below : (j n : ℕ) → n < 10 ^ suc j → n / 10 < 10 ^ j
tenth_below j n l = (div-lt_iff_lt-mul {k = 10} (omega arith)).1 (rw pow-suc at l)

tenth_above : (j n : ℕ) → 10 ^ suc j ≤ n → 10 ^ j ≤ n / 10
tenth_above j n l = (le-div_iff_mul-le {k = 10} (omega arith)).1 (rw pow-suc at l)

-- ---- decimal

-- a number below 10 is its digit
within_one : (k n : ℕ) → n < 10 → decimal_within k n ≡ hex_digit_ascii n ∷ []
unfolding decimal_within
within_one zero n h = refl
within_one (suc k) n h = rw (lt-ltb n 10 h)

-- any other has its last digit behind those of its tenth
within_more : (k n : ℕ) → 10 ≤ n → decimal_within (suc k) n ≡ decimal_within k (n / 10) ++ (hex_digit_ascii (n % 10) ∷ [])
unfolding decimal_within
within_more k n h = rw (le-ltb n 10 h)

fewest_within : (j k n : ℕ) → j ≤ k → IsDigitCount 10 1 n (suc j) → last_digits 10 (suc j) n ≡ decimal_within k n
fewest_within zero k n l f = let h : n < 10 = f.1 in ap (λ (d : ℕ). hex_digit_ascii d ∷ []) (mod-eq_of_lt h) ∙ sym (within_one k n h)
fewest_within (suc j) zero n l f = absurd (omega arith)
fewest_within (suc j) (suc k) n l f =
    let before : suc (suc j) - 1 ≡ suc j = omega arith in
    let last : suc j - 1 ≡ j = omega arith in
    let low : 10 ^ suc j ≤ n = rw before at (f.2 (omega arith)) in
    let ten : 10 ≤ n = omega (arith, pow-suc 10 j, one-le-pow j 10 (omega arith)) in
    let rest : IsDigitCount 10 1 (n / 10) (suc j) = (omega arith, tenth_below (suc j) n f.1, λ h. rw last (tenth_above j n low)) in
    ap (λ (l : List ℕ). l ++ (hex_digit_ascii (n % 10) ∷ [])) (fewest_within j k (n / 10) (omega arith) rest) ∙ sym (within_more k n ten)

pub decimal_digits : (k n : ℕ) → n < 10 ^ 20 → IsDigitCount 10 1 n k → last_digits 10 k n ≡ decimal n
decimal_digits zero n h f = absurd (omega arith)
decimal_digits (suc j) n h f = let most = fewest_most 10 1 20 (suc j) n (omega arith) (omega arith) h f in fewest_within j 19 n (omega arith) f

-- a number below 10 ^ m has at most m digits
within_short : (j k n : ℕ) → n < 10 ^ suc j → length (decimal_within k n) ≤ suc j
unfolding decimal_within
within_short j zero n l = omega arith
within_short zero (suc k) n l = rw (within_one (suc k) n l) (omega arith)
within_short (suc j) (suc k) n l =
    let rest = within_short j k (n / 10) (tenth_below (suc j) n l) in
    by_cases (dec_lt n 10) (λ h. rw (within_one (suc k) n h) (omega arith))
    (λ h. rw (within_more k n (omega arith), length-append) (omega arith))

-- a count, which is below 2 ^ 32, has at most ten
pub decimal_short : (n : ℕ) → n < 2 ^ 32 → length (decimal n) ≤ 10
decimal_short n h = within_short 9 19 n (omega arith)

-- ---- hexadecimal

pub hexadecimal_digits : (k n : ℕ) → n < 16 ^ 16 → IsDigitCount 16 16 n k → last_digits 16 k n ≡ hexadecimal n
hexadecimal_digits k n h f =
    let most = fewest_most 16 16 16 k n (omega arith) (omega arith) h f in
    let all : k ≡ 16 = omega arith in
    ap (λ (j : ℕ). last_digits 16 j n) all
