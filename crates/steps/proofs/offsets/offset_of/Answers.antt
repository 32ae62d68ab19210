use mir.Facts.{to_z-of_z}
use mir.Syntax.{w64}
use mir.Val.{SFits}
use lib.IntN.{pos}
use mathlib.Core.Path.{◌∙◌, ap, sym}
use mir.ValLaws.{to_z_pos}
use native.Mathlib.Omega.{arith}
use Rattle.nodes.specs.Table.{nat_of}
use Rattle.places.specs.Place.{place_found}
use Rattle.steps.proofs.Restored.{label_in, offset_fits, offset_held, too_far, too_great}
use borrow.Author.Rules.{rules}
use Rattle.steps.proofs.offsets.offset_of.Goals as goal

pub returns-then-label-ge8 : goal.returns-then-label-ge8
returns-then-label-ge8 c =
    let a = c.args in
    too_great a.span.h a.span.f c.requires a.label a.place.0 c.if-label-ge8.true

pub place_of-first-requires : goal.place_of-first-requires
place_of-first-requires c =
    let a = c.args in
    (c.requires, rw (to_z_pos w64 a.label (omega (arith, c.if-label-ge8.false))) (label_in a.label (omega (arith, c.if-label-ge8.false))))

pub overflow_sub-result : goal.overflow_sub-result
overflow_sub-result c =
    let a = c.args in
    let p : SFits w64 a.place.0 = search rules in
    let q : SFits w64 c.place_of-first.result.0 = search rules in
    offset_fits a.span.h a.span.f c.requires a.label a.place.0 (omega (arith, c.if-label-ge8.false)) (rw (to_z-of_z p) at (sym c.is_between-near.ensures ∙ c.if-near.true)) (to_z-of_z p)
    (to_z-of_z q ∙ c.place_of-first.ensures ∙ ap (λ l. place_found a.span.h a.span.f (nat_of l) (pos 0)) (to_z_pos w64 a.label (omega (arith, c.if-label-ge8.false))))

pub returns-then-near : goal.returns-then-near
returns-then-near c =
    let a = c.args in
    let p : SFits w64 a.place.0 = search rules in
    let q : SFits w64 c.place_of-first.result.0 = search rules in
    offset_held a.span.h a.span.f c.requires a.label a.place.0 (omega (arith, c.if-label-ge8.false)) (rw (to_z-of_z p) at (sym c.is_between-near.ensures ∙ c.if-near.true)) (to_z-of_z p)
    (to_z-of_z q ∙ c.place_of-first.ensures ∙ ap (λ l. place_found a.span.h a.span.f (nat_of l) (pos 0)) (to_z_pos w64 a.label (omega (arith, c.if-label-ge8.false))))

pub returns : goal.returns
returns c =
    let a = c.args in
    let p : SFits w64 a.place.0 = search rules in
    too_far a.span.h a.span.f c.requires a.label a.place.0 (rw (to_z-of_z p) at (sym c.is_between-near.ensures ∙ c.if-near.false))
