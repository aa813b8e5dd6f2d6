-- `first_of` goes through refusals 6, 21, and 7 to 9 in their order. What was asked is read from the tests by `grind`, however they are written.
use Rattle.std.proofs.Common.{◌≡◌, ◌∙◌, ℕ, List, Bool, false, ◌||◌, sym, arith}
use Rattle.std.proofs.lemmas.Bool.Decides.{nat_tests}
use Rattle.sections.specs.declared.Decoded.{Decoded}
use Rattle.sections.specs.Plan.{Plan}
use Rattle.sections.specs.Tables.{jobs_in}
use Rattle.rows.specs.Rows.{place}
use Rattle.plan.specs.Checks.{any_numbered}
use Rattle.plan.specs.Refusals.{stray, all_stand, stray_ends, none_ends, split_ends, exit_left}
use Rattle.plan.proofs.Tests.{told}
use Rattle.plan.proofs.Ends.{ends_6, ends_21, ends_7, ends_8, ends_9, ends_none}
use Rattle.ends.specs.declared.Faults.{Faults}
use Rattle.ends.specs.Faults.{Tested}
use Rattle.ends.proofs.Arrays.{stray_tested, standing_tested, apart_tested, leaving_tested, unknown_tested}
use Rattle.ends.proofs.first_of.Goals as goal

-- what each test that is passed tells
module _ {p : Plan} {d : Decoded} {owner : List ℕ} {s c a : Faults} (t : Tested p d owner s c a) where
  within : {r : Bool} → r ≡ any_numbered (stray d.nodes (place owner)) (jobs_in d.jobs) → r ≡ false → stray_ends p ≡ false
  within e f = told (e ∙ stray_tested t) f

  ending : {r : Bool} → r ≡ all_stand (jobs_in d.jobs) → r ≡ false → none_ends p ≡ false
  ending e f = told (e ∙ standing_tested t) f

  joined : (s.apart || (c.apart || a.apart)) ≡ false → split_ends p ≡ false
  joined f = told (apart_tested t) f

  staying : (s.leaving || (c.leaving || a.leaving)) ≡ false → exit_left p ≡ false
  staying f = told (leaving_tested t) f

pub returns-then-stray : goal.returns-then-stray
returns-then-stray c p t = sym (ends_6 p (told (c.any_stray-stray.ensures ∙ stray_tested t) (grind (arith, nat_tests))))

pub returns-then-standing : goal.returns-then-standing
returns-then-standing c p t =
    sym (ends_21 p (within t c.any_stray-stray.ensures (grind (arith, nat_tests))) (told (c.all_stand-standing.ensures ∙ standing_tested t) (grind (arith, nat_tests))))

pub returns-then-apart : goal.returns-then-apart
returns-then-apart c p t =
    let six = within t c.any_stray-stray.ensures (grind (arith, nat_tests)) in
    let late = ending t c.all_stand-standing.ensures (grind (arith, nat_tests)) in
    sym (ends_7 p six late (told (apart_tested t) c.if-apart.true))

pub returns-then-leaving : goal.returns-then-leaving
returns-then-leaving c p t =
    let six = within t c.any_stray-stray.ensures (grind (arith, nat_tests)) in
    let late = ending t c.all_stand-standing.ensures (grind (arith, nat_tests)) in
    sym (ends_8 p six late (joined t c.if-apart.false) (told (leaving_tested t) c.if-leaving.true))

pub returns-then-unknown : goal.returns-then-unknown
returns-then-unknown c p t =
    let six = within t c.any_stray-stray.ensures (grind (arith, nat_tests)) in
    let late = ending t c.all_stand-standing.ensures (grind (arith, nat_tests)) in
    sym (ends_9 p six late (joined t c.if-apart.false) (staying t c.if-leaving.false) (told (unknown_tested t) c.if-unknown.true))

pub returns : goal.returns
returns c p t =
    let six = within t c.any_stray-stray.ensures (grind (arith, nat_tests)) in
    let late = ending t c.all_stand-standing.ensures (grind (arith, nat_tests)) in
    sym (ends_none p six late (joined t c.if-apart.false) (staying t c.if-leaving.false) (told (unknown_tested t) c.if-unknown.false))
