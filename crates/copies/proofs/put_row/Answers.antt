use borrow.Author.Rules.{rules}
use mathlib.Core.Path.{◌∙◌, refl}
use mir.Facts.{to_z-of_z}
use mir.Syntax.{w64}
use mir.Val.{SFits}
use Rattle.copies.proofs.Appending.{appended_row}
use Rattle.copies.proofs.put_row.Goals as goal

pub returns : goal.returns
returns c =
    let r = c.args.row in
    let l : SFits w64 r.letter = search rules in
    let x : SFits w64 r.a = search rules in
    let y : SFits w64 r.b = search rules in
    let z : SFits w64 r.c = search rules in
    let w : SFits w64 r.d = search rules in
    appended_row c.args.out.now _ c.args.count _ refl c.requires (c.put_row.ensures ∙ simp (to_z-of_z l, to_z-of_z x, to_z-of_z y, to_z-of_z z, to_z-of_z w))
