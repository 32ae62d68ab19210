use mathlib.Core.Path.{◌∙◌, ap, subst, sym}
use native.Mathlib.Omega.{arith}
use Rattle.text.proofs.LetterCounts.{letters_all}
use Rattle.text.specs.Letters.{form_of, kind_at}
use Rattle.text.specs.Packed.{row_of}
use Rattle.text.specs.Rows.{RowIs}
use Rattle.text.specs.Trees.{OpenedIs}
use Rattle.text.proofs.PackedLaws.{shut_number}
use Rattle.text.proofs.trees.open_by_table.Goals as goal

pub put_opened-requires : goal.put_opened-requires
put_opened-requires c =
    let p = c.requires in
    let b = subst (OpenedIs _ _ _ _ _ _) c.in-Ok.is c.open_any.ensures in
    p.2 _ b.room (omega (arith, p.3, letters_all c.args.text.now c.args.at))

pub returns-in-Err : goal.returns-in-Err
returns-in-Err c =
    let a = c.args in
    let k = c.in-Err.refusal in
    subst (RowIs (form_of a.form) a.left (kind_at a.kind) a.text.now a.at a.nodes.now a.nodes.now a.count) (sym (ap row_of (c.from-in-Err.ensures ∙ c.from.ensures) ∙ shut_number k))
    (subst (OpenedIs _ _ _ _ _ _) c.in-Err.is c.open_any.ensures)
