use Prim.Native.Nat.{◌+◌}
use Rattle.fields.proofs.Positions.{up_comma, up_end}
use borrow.Author.Rules.{rules}
use borrow.Author.Tests.{eqb-true}
use native.Mathlib.Omega.{arith}
use Rattle.one_pass.proofs.node.alone_at.Goals as goal

pub returns-then-text-at-eq1 : goal.returns-then-text-at-eq1
returns-then-text-at-eq1 c = λ e. up_end 44 c.args.text.now.now (c.args.at + 1) (omega (arith, c.if-text-at-eq1.true))

pub overflow_add-result : goal.overflow_add-result
overflow_add-result c = omega (arith, c.requires.1)

pub returns : goal.returns
returns c =
    λ e. up_comma 44 c.args.text.now.now (c.args.at + 1) (omega (arith, c.requires.0, c.if-text-at-eq1.false)) (eqb-true _ _ e)
