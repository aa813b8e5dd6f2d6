use Rattle.std.proofs.Common.{◌≡◌, sym, ap, ◌∙◌, List, ℕ, ◌++◌, ◌<◌, arith, length-append, Ok, rules}
use Rattle.arrayvec.specs.ArrayVec.{ArrayVec, array_vec_len}
use Rattle.verdict.specs.declared.Verdict.TheVariants.{Verified, Inconclusive}
use Rattle.line.specs.Line.{text, decimal, fields, answer_text_by, line_by}
use Rattle.line.proofs.line_of.Goals as goal
use Rattle.line.proofs.line_of.Goals.{in-Err, in-Ok-Verified, in-Ok-Inconclusive}

abbrev bytes : ArrayVec ℕ → List ℕ
bytes v = v.items

pub returns : goal.returns
unfolding line_by
returns g c =
    -- the line before its end
    let so_far : (c.match-a.line.items ≡ answer_text_by g.R.Numbered.numbering c.args.a) × (array_vec_len c.match-a.line < 128) =
    elim c.match-a.branch [
      | in-Err w ↦ (
        ap bytes w.line-is ∙ w.add_count.ensures.0 ∙ (λ i. c.new-line.ensures i ++ text "refused " ++ decimal (w.number.ensures i)) ∙ ap (answer_text_by g.R.Numbered.numbering) (sym w.in-Err.is),
        rw (w.line-is, w.add_count.ensures.0, c.new-line.ensures) (omega (arith, w.add_count.ensures.1)),
      )
      | in-Ok-Verified w ↦
          let told : c.args.a ≡ Ok (Verified w.in-Ok-Verified.c) = search rules in (
            ap bytes w.line-is ∙ w.add_fields.ensures.0 ∙ ap (λ (xs : List ℕ). xs ++ fields w.in-Ok-Verified.c) (w.add_text.ensures ∙ ap (λ (xs : List ℕ). xs ++ text "verified") c.new-line.ensures)
                ∙ ap (answer_text_by g.R.Numbered.numbering) (sym told),
            rw w.line-is w.add_fields.ensures.1,
          )
      | in-Ok-Inconclusive w ↦
          let told : c.args.a ≡ Ok (Inconclusive w.in-Ok-Inconclusive.c) = search rules in (
            ap bytes w.line-is ∙ w.add_fields-in-Ok-Inconclusive.ensures.0
                ∙ ap (λ (xs : List ℕ). xs ++ fields w.in-Ok-Inconclusive.c) (w.add_text-in-Ok-Inconclusive.ensures ∙ ap (λ (xs : List ℕ). xs ++ text "inconclusive") c.new-line.ensures)
                ∙ ap (answer_text_by g.R.Numbered.numbering) (sym told),
            rw w.line-is w.add_fields-in-Ok-Inconclusive.ensures.1,
          )
    ] in
    (c.add_text-2.ensures ∙ ap (λ (xs : List ℕ). xs ++ text "\n") so_far.0, rw (c.add_text-2.ensures, length-append) (omega (arith, so_far.1)))
