use Rattle.fields.specs.Fields.{SlotsTried}
use Rattle.one_pass.proofs.Nodes.{delay_read, unsure}
use borrow.Author.Rules.{rules}
use mathlib.Core.Path.{subst}
use mir.Syntax.{w64}
use mir.ValLaws.{to_z-of_z}
use native.Mathlib.Omega.{arith}
use Rattle.one_pass.proofs.node.delay_at.Goals as goal

pub delay_of-requires : goal.delay_of-requires
delay_of-requires c =
    let q = subst (SlotsTried _ _ _) c.in-Some.is c.quick_delay.ensures in
    (omega (arith, q.all.within, c.requires.0.short), c.requires.2)

pub returns-in-Some : goal.returns-in-Some
returns-in-Some c =
    let q = subst (SlotsTried _ _ _) c.in-Some.is c.quick_delay.ensures in
    let e = to_z-of_z w64 c.in-Some.s.a (search rules) in
    λ k. delay_read q e (c.delay_of.ensures k)

pub returns-in-None : goal.returns-in-None
returns-in-None c = unsure
