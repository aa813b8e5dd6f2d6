-- Each plan has one line, and each plan and text have one; refusal 17 has no part in them. Assumes nothing.
use mathlib.Core.Path.{◌≡◌, refl, sym, ap, ◌∙◌}
use mathlib.Core.Bool.{Bool, cond}
use mathlib.Core.List.{List, [], ◌∷◌, ◌++◌}
use mathlib.Core.Option.{Option, none, some}
use Prim.Native.Nat.{ℕ}
use borrow.Author.Tests.{le-ltb}
use lib.ListN.{replicate}
use Rattle.sections.specs.Layout.{plan_of}
use Rattle.plan.specs.Checks.{refuse, first, or_else}
use Rattle.plan.proofs.Tests.{first_append}
use Rattle.plan.proofs.Legality.{legal}
use Rattle.pattern.specs.Refusals.{readable, too_many_states, acceptable}
use Rattle.pattern.proofs.Part.{before_items}
use Rattle.arrayvec.specs.ArrayVec.{ArrayVec}
use Rattle.verdict.specs.Answer.{Answer}
use Rattle.promises.specs.Order.{Pattern, own, expression_by, text_refusal, many_states, judgeable, late_refusal}
use Rattle.promises.specs.Judged.{Promise, Judged, JudgedText}
use Rattle.promises.proofs.Refusals.{in_order}
use Rattle.promises.proofs.Unique.{Determined, judged_unique}
use Rattle.promises.proofs.TextUnique.{typed_unique}
use Rattle.line.specs.Line.{line_of}
use Rattle.report.specs.Reports.{Reports}

one_line : (P : Promise) → Determined P → (l m : ArrayVec ℕ) → Reports P l → Reports P m → l ≡ m
one_line P one l m x y =
    let same = x.printed ∙ ap line_of (one (replicate 256 0) x.answer y.answer x.row y.row x.judged y.judged).0 ∙ sym y.printed in
    λ i. record { items = same i }

pub reports_unique : (b : List ℕ) (l m : ArrayVec ℕ) → Reports (Judged own b) l → Reports (Judged own b) m → l ≡ m
reports_unique b = one_line (Judged own b) (judged_unique own b)

pub text_reports_unique : (b w : List ℕ) (l m : ArrayVec ℕ) → Reports (JudgedText b w) l → Reports (JudgedText b w) m → l ≡ m
text_reports_unique b w = one_line (JudgedText b w) (typed_unique b w)

-- a row of 256 places is long enough for every plan: the checks are those before 17
pub enough_places : (q : Pattern) (b : List ℕ) → first (judgeable q 256) b ≡ first (readable ++ (text_refusal q ∷ refuse 16 (many_states q) ∷ [])) b
unfolding first
enough_places q b = in_order q 256 b ∙ go (first readable b) refl ∙ sym (first_append readable (text_refusal q ∷ refuse 16 (many_states q) ∷ []) b)
  where
    go : (o : Option ℕ) → first readable b ≡ o
        → or_else o (or_else (text_refusal q b) (late_refusal (plan_of b) (expression_by q b) 256))
        ≡ or_else o (or_else (text_refusal q b) (or_else (refuse 16 (many_states q) b) none))
    go (some n) e = refl
    go none e =
        ap (λ (t : Bool). or_else (text_refusal q b) (or_else (refuse 16 (many_states q) b) (cond t (some 17) none)))
        (le-ltb 256 (plan_of b).nodes (legal b (before_items b e)).nodes)

-- which are 1 to 16 and 21 for a plan on its own
pub own_refusals : (b : List ℕ) → first (judgeable own 256) b ≡ first acceptable b
unfolding first
own_refusals b =
    enough_places own b ∙ first_append readable (text_refusal own ∷ refuse 16 (many_states own) ∷ []) b
    ∙ sym (first_append readable (refuse 16 too_many_states ∷ []) b)
