-- `listed_from` goes on while it finds letters.
use Rattle.std.proofs.Common.{◌≡◌, ◌<◌, true, false, List, ℕ, ◌+◌, ◌-◌, length, take, drop, bit_or, arith, sym, ap, ◌∙◌, rules, length-drop}
use Rattle.std.proofs.lemmas.List.{take_all}
use Rattle.rows.specs.Rows.{place}
use Rattle.grammar.specs.Meaning.{listed}
use Rattle.grammar.specs.Ways.{is_letter, letters}
use Rattle.leaves.proofs.Bytes.{letter_at, letter_past}
use Rattle.symbols.proofs.Letters.{listed_turn, listed_end}
use Rattle.symbols.proofs.listed_from.Goals as goal

abbrev rest_of : List ℕ → ℕ → List ℕ
rest_of text from = take (length text - from) (drop from text)

pub loop-c-init : goal.loop-c-init
loop-c-init c =
    let text = c.args.text.now in
    let from = c.args.from in
    ap (λ (w : List ℕ). listed (letters w)) (sym (take_all (length text - from) (drop from text) (omega (arith, length-drop from text))))

pub returns-then-not-is_ascii_lowercase : goal.returns-then-not-is_ascii_lowercase
returns-then-not-is_ascii_lowercase c =
    let rest = rest_of c.args.text.now c.args.from in
    let i = c.loop-c.c-index in
    let within : i < length rest = omega arith in
    let other : is_letter (place rest i) ≡ false = search rules in
    sym (c.loop-c.invariant ∙ listed_end c.loop-c.set _ (sym (letter_at rest i within) ∙ other))

pub loop-c-preserved : goal.loop-c-preserved
loop-c-preserved c =
    let rest = rest_of c.args.text.now c.args.from in
    let i = c.loop-c.c-index in
    let within : i < length rest = omega arith in
    let letter : is_letter (place rest i) ≡ true = search rules in
    c.loop-c.invariant
    ∙ listed_turn c.loop-c.set rest i within letter
    ∙ ap (λ (n : ℕ). bit_or (bit_or c.loop-c.set n) (listed (letters (drop (i + 1) rest)))) (sym c.single-set.ensures)

pub returns : goal.returns
returns c =
    let rest = rest_of c.args.text.now c.args.from in
    sym (c.loop-c.invariant ∙ listed_end c.loop-c.set _ (sym (letter_past rest c.loop-c.c-index c.loop-c-test.false)))
