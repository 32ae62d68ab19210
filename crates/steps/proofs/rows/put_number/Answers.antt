use mir.Facts.{to_z-of_z}
use mir.Syntax.{w64}
use mir.Val.{SFits}
use mathlib.Core.Path.{refl}
use Rattle.copies.proofs.Appending.{appended_as, row_of_lem}
use borrow.Author.Rules.{rules}
use Rattle.steps.proofs.rows.put_number.Goals as goal

pub returns : goal.returns
returns c =
    let f : SFits w64 c.args.n.0 = search rules in
    appended_as (row_of_lem refl (to_z-of_z f) refl refl refl) c.put_row.ensures
