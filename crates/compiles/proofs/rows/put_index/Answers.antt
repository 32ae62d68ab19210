use borrow.Author.Rules.{rules}
use mathlib.Core.Path.{◌∙◌, refl}
use mir.Facts.{to_z-of_z}
use mir.Syntax.{w64}
use mir.Val.{SFits}
use Rattle.copies.proofs.Appending.{appended_as, row_of_lem}
use Rattle.compiles.proofs.rows.put_index.Goals as goal

pub returns : goal.returns
returns c =
    let a = c.args in
    let p : SFits w64 a.plain.0 = search rules in
    let q : SFits w64 a.digits.0 = search rules in
    let x = c.slot-label in
    let f : SFits w64 x.result = search rules in
    appended_as (row_of_lem refl (to_z-of_z f ∙ x.ensures) (to_z-of_z p) (to_z-of_z q) refl) c.put_row.ensures
