use borrow.Author.Rules.{rules}
use mathlib.Core.Path.{◌∙◌, refl}
use mir.Facts.{to_z-of_z}
use mir.Syntax.{w64}
use mir.Val.{SFits}
use Rattle.copies.proofs.Appending.{appended_as, row_of_lem}
use Rattle.copies.proofs.copy_row.Goals as goal

pub returns : goal.returns
returns c =
    let x = c.slot-letter in
    let y = c.slot-a in
    let z = c.slot-b in
    let f : SFits w64 x.result = search rules in
    let g : SFits w64 y.result = search rules in
    let h : SFits w64 z.result = search rules in
    appended_as (row_of_lem (to_z-of_z f ∙ x.ensures) (to_z-of_z g ∙ y.ensures) (to_z-of_z h ∙ z.ensures) refl refl) c.put_row.ensures
