use Rattle.amounts.proofs.Nodes.{amount_inside}
use Rattle.checked.specs.Coded.{valued_in}
use Rattle.checked_back.proofs.CheckedWay as checked
use Rattle.checked_back.specs.Backs.{BackIn}
use Rattle.nodes.specs.Found.{amount_at, offset_of}
use Rattle.nodes.specs.Table.{nat_of}
use borrow.Author.Rules.{rules}
use mathlib.Core.Path.{◌∙◌, ap, subst}
use mir.Facts.{to_z-of_z}
use mir.Syntax.{w64}
use mir.Val.{SFits}
use native.Mathlib.Omega.{arith}
use Rattle.checked_back.proofs.value_in.Goals as goal

pub overflow_add-from : goal.overflow_add-from
overflow_add-from c = record { fits = omega (arith, (amount_inside _ _ _ c.requires.1).0) }

pub returns-in-Some : goal.returns-in-Some
returns-in-Some c =
    let a = c.args in
    let s : SFits w64 c.in-Some.p.0 = search rules in
    let e = subst (BackIn _) c.in-Some.is c.tried_back.ensures in
    ap valued_in (to_z-of_z s) ∙ checked.stands a.lent.now.span.h a.lent.now.span.f a.lent.now.bounds.now a.lent.now.values.now (nat_of a.waited.0) (amount_at offset_of 512 a.lent.now.nodes.now a.from) e
