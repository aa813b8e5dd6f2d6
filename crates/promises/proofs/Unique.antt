-- The judge's promise leaves nothing free: it determines the answer, and the row as it is in the end. Assumes nothing.
use mathlib.Core.Path.{◌≡◌, refl, sym, ap, ap₂, subst, ◌∙◌}
use mathlib.Core.Bool.{Bool, true, false}
use mathlib.Core.List.{List}
use mathlib.Core.Logic.{◌↔◌, by_cases}
use mathlib.Core.Option.{Option, none, some, some-injective, none-ne-some, some-ne-none}
use Prim.Native.Nat.{ℕ, ◌+◌, ◌-◌, ◌≤◌, ◌<◌}
use native.Mathlib.Decide.{dec_lt}
use native.Mathlib.Omega.{arith}
use lib.ListN.{length, drop}
use lib.Seq.{ext_get_or, get_or-drop}
use Rattle.std.specs.Prelude.{Ok, Err}
use Rattle.masks.proofs.Sets.{sub_antisymm}
use Rattle.rows.specs.Rows.{place}
use Rattle.sections.specs.Plan.{Plan}
use Rattle.sections.specs.Layout.{plan_of}
use Rattle.plan.specs.Checks.{first}
use Rattle.expressions.specs.Expression.{Expression}
use Rattle.refusals.specs.Numbers.{refusal_of}
use Rattle.verdict.specs.declared.Counts.{Counts}
use Rattle.verdict.specs.declared.Verdict.TheVariants.{Verified, Inconclusive}
use Rattle.verdict.specs.Verdict as verdicts
use Rattle.verdict.specs.Answer.{Answer, verdict_of, verdict}
use Rattle.promises.specs.Order.{Pattern, expression_by, judgeable}
use Rattle.promises.specs.Property.{accepting}
use Rattle.promises.specs.Judged.{Holds, Verdict, final_set, counts_of, Answered, Promise, Judged}
use Rattle.promises.proofs.Named.{number_injective}

-- ---- answers

-- answers with the number of one refusal are equal, and one without such a number is a verdict
refused_alike : (x y : Answer) (n : ℕ) → refusal_of x ≡ some n → refusal_of y ≡ some n → x ≡ y
refused_alike (Err r) (Err s) n e h = ap Err (number_injective r s (some-injective _ _ (e ∙ sym h)))
refused_alike (Err r) (Ok v) n e h = absurd (none-ne-some n h)
refused_alike (Ok v) y n e h = absurd (none-ne-some n e)

verdict_is : (x : Answer) → refusal_of x ≡ none → (a : Bool) × (c : Counts) × (verdict_of x ≡ some (a, c)) × (x ≡ verdict a c)
verdict_is (Err r) e = absurd (some-ne-none _ e)
verdict_is (Ok (Verified c)) e = (true, c, refl, refl)
verdict_is (Ok (Inconclusive c)) e = (false, c, refl, refl)

-- flags that say the same are equal
flags_equal : {A : Type 0} (a b : Bool) → (a ≡ true) ↔ A → (b ≡ true) ↔ A → a ≡ b
flags_equal true b h k = sym (k.1 (h.0 refl))
flags_equal false true h k = h.1 (k.0 refl)
flags_equal false false h k = refl

-- ---- verdicts

-- lists that are equal from a place on are so at each later place
later_equal : (k : ℕ) (u v : List ℕ) → drop k u ≡ drop k v → (n : ℕ) → k ≤ n → place u n ≡ place v n
later_equal k u v h n l =
    let e : k + (n - k) ≡ n = omega arith in
    ap (place u) (sym e) ∙ sym (get_or-drop k u (n - k) 0) ∙ ap (λ (w : List ℕ). place w (n - k)) h ∙ get_or-drop k v (n - k) 0 ∙ ap (place v) e

module _ (p : Plan) (r : Expression) (before : List ℕ) where
  -- the sets of the nodes and the later places are all of a row
  rows_equal : (u v : List ℕ) → Holds p r before u → Holds p r before v → u ≡ v
  rows_equal u v x y =
      ext_get_or 0 u v (x.places ∙ sym y.places)
      (λ n i. by_cases (dec_lt n p.nodes) (node n) (λ o. later_equal p.nodes u v (x.later ∙ sym y.later) n (omega arith)))
    where
      node : (n : ℕ) → n < p.nodes → place u n ≡ place v n
      node n l = sub_antisymm (place u n) (place v n) (λ s i. (y.sets n l s).1 ((x.sets n l s).0 i)) (λ s i. (x.sets n l s).1 ((y.sets n l s).0 i))

  verdicts_equal : (u v : List ℕ) (a b : Bool) (c d : Counts) → Verdict p r before u a c → Verdict p r before v b d
      → (verdict a c ≡ verdict b d) × (u ≡ v)
  verdicts_equal u v a b c d x y = (ap₂ verdict flags counts, rows)
    where
      rows : u ≡ v
      rows = rows_equal u v x.row y.row

      counts : c ≡ d
      counts = x.counted ∙ ap (counts_of p r) rows ∙ sym y.counted

      flags : a ≡ b
      flags = flags_equal a b (subst (λ w. (a ≡ true) ↔ verdicts.Verified p.kind (final_set p w) (accepting p r)) rows x.verdict) y.verdict

-- ---- the promise

-- where a refusal applies first, or none
pub answered_unique : (refused : Option ℕ) (p : Plan) (r : Expression) (before : List ℕ) (x y : Answer) (u v : List ℕ)
    → Answered refused p r before x u → Answered refused p r before y v → (x ≡ y) × (u ≡ v)
answered_unique (some n) p r before x y u v a b =
    (refused_alike x y n a.refusal b.refusal, a.unchanged n refl ∙ sym (b.unchanged n refl))
answered_unique none p r before x y u v a b =
    let s = verdict_is x a.refusal in
    let t = verdict_is y b.refusal in
    let e = verdicts_equal p r before u v s.0 t.0 s.1 t.1 (a.judged s.0 s.1 s.2) (b.judged t.0 t.1 t.2) in
    (s.3 ∙ e.0 ∙ sym t.3, e.1)

-- two outcomes that meet a promise are equal, in the answer and in the row
abbrev pub Determined : Promise → Type 0
Determined P = (before : List ℕ) (x y : Answer) (u v : List ℕ) → P before x u → P before y v → (x ≡ y) × (u ≡ v)

-- of the bytes of a plan, under one pattern
pub judged_unique : (q : Pattern) (b : List ℕ) → Determined (Judged q b)
judged_unique q b before = answered_unique (first (judgeable q (length before)) b) (plan_of b) (expression_by q b) before
