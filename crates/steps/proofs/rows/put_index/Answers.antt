use mir.Facts.{to_z-of_z}
use mir.Syntax.{w64}
use mir.Val.{SFits}
use mathlib.Core.Path.{◌∙◌, refl}
use Rattle.copies.proofs.Appending.{appended_as, row_of_lem}
use borrow.Author.Rules.{rules}
use Rattle.steps.proofs.rows.put_index.Goals as goal

pub returns : goal.returns
returns c =
    let x = c.slot-label in
    let f : SFits w64 x.result = search rules in
    let g : SFits w64 c.args.i.0 = search rules in
    appended_as (row_of_lem refl (to_z-of_z f ∙ x.ensures) (to_z-of_z g) refl refl) c.put_row.ensures
