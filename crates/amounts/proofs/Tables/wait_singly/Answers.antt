use borrow.Author.Rules.{rules}
use lib.Signed.{lt_z}
use mathlib.Core.Bool.{false, true}
use mathlib.Core.Path.{◌∙◌, ◌≡◌, sym}
use mir.Facts.{to_z-of_z}
use mir.Syntax.{w64}
use mir.Val.{SFits, of_z, to_z}
use Rattle.integers.proofs.Locals.{small_fits}
use Rattle.amounts.proofs.Waiting as waiting
use Rattle.amounts.proofs.Tables.wait_singly.Goals as goal

pub loop-month-preserved : goal.loop-month-preserved
loop-month-preserved c =
    let p = c.requires.0 in
    let e = c.later-last.ensures in
    let i = c.loop-month.invariant in
    let f : SFits w64 c.later-last.result.0 = search rules in
    let b : lt_z (to_z w64 c.loop-month.month-bits) (to_z w64 (of_z w64 c.later-last.result.0)) ≡ true = search rules in
    let n = sym c.test_holds.ensures ∙ c.if-test_holds.false in
    let l = rw (to_z-of_z f) at b in
    rw (to_z-of_z (small_fits (waiting.next_small _ _ _ _ p e _ i n l))) (waiting.again _ _ _ _ p e _ i n l)

pub returns-then-test_holds : goal.returns-then-test_holds
returns-then-test_holds c =
    waiting.held _ _ _ _ c.requires.0 c.later-last.ensures _ c.loop-month.invariant (sym c.test_holds.ensures ∙ c.if-test_holds.true)

pub returns-else-test_holds : goal.returns-else-test_holds
returns-else-test_holds c =
    let f : SFits w64 c.later-last.result.0 = search rules in
    let b : lt_z (to_z w64 c.loop-month.month-bits) (to_z w64 (of_z w64 c.later-last.result.0)) ≡ false = search rules in
    waiting.missed _ _ _ _ c.requires.0 c.later-last.ensures _ c.loop-month.invariant (sym c.test_holds.ensures ∙ c.if-test_holds.false) (rw (to_z-of_z f) at b)
