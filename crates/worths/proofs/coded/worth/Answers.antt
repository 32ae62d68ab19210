use borrow.Author.Rules.{rules}
use lib.IntN.{nat_abs}
use mathlib.Core.Path.{◌∙◌, ap, sym}
use mir.Facts.{to_z-of_z}
use native.Mathlib.Omega.{arith}
use Rattle.language.specs.Answer.{got}
use Rattle.language.specs.Limits.{max_value}
use Rattle.checked.proofs.Codes.{stands_beyond, stands_unread, stands_value}
use Rattle.worths.proofs.coded.worth.Goals as goal

pub returns-then-m-le-LIMIT : goal.returns-then-m-le-LIMIT
returns-then-m-le-LIMIT c =
    let f = c.ranges.x in
    let e = c.magnitude-m.ensures ∙ ap nat_abs (to_z-of_z f) in
    ap got (to_z-of_z f) ∙ sym (stands_value max_value _ (omega (arith, e, c.if-m-le-LIMIT.true)))

pub returns-then-m-eq-UNREAD : goal.returns-then-m-eq-UNREAD
returns-then-m-eq-UNREAD c =
    let f = c.ranges.x in
    let e = c.magnitude-m.ensures ∙ ap nat_abs (to_z-of_z f) in
    sym (stands_unread max_value _ (sym e ∙ c.if-m-eq-UNREAD.true))

pub returns : goal.returns
returns c =
    let f = c.ranges.x in
    let e = c.magnitude-m.ensures ∙ ap nat_abs (to_z-of_z f) in
    sym (stands_beyond max_value _ (omega (arith, e, c.if-m-le-LIMIT.false)) (λ z. c.if-m-eq-UNREAD.false (e ∙ z)))
