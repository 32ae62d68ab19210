use Prim.Native.Nat.{◌+◌}
use Rattle.fields.proofs.Positions.{up_fits}
use Rattle.fields.specs.Numbers.{NumberIs}
use Rattle.one_pass.proofs.Nodes.{led_read, number_read, unsure}
use borrow.Author.Rules.{rules}
use mathlib.Core.Path.{subst}
use native.Mathlib.Omega.{arith}
use Rattle.one_pass.proofs.node.number_at.Goals as goal

pub overflow_add-end : goal.overflow_add-end
overflow_add-end c =
    let w = subst (NumberIs _ _) c.in-Some.is c.read_number.ensures in omega (arith, w.ends, up_fits 44 c.args.text.now.now (c.args.at + 2) (omega (arith, c.requires.1.room)), c.requires.0.short)

pub number_for-requires : goal.number_for-requires
number_for-requires c =
    let w = subst (NumberIs _ _) c.in-Some.is c.read_number.ensures in (omega arith, omega (arith, w.ends, up_fits 44 c.args.text.now.now (c.args.at + 2) (omega (arith, c.requires.1.room)), c.requires.0.short))

pub returns-in-49-to-57 : goal.returns-in-49-to-57
returns-in-49-to-57 c =
    λ left low high bounds level k. led_read c.requires.0 level k c.requires.1 (omega arith) (omega arith) (c.digits_from.ensures k)

pub returns-in-Some : goal.returns-in-Some
returns-in-Some c =
    let w = subst (NumberIs _ _) c.in-Some.is c.read_number.ensures in λ left low high bounds level k. number_read c.requires.0 level k c.requires.1 w c.magnitude.ensures (c.number_for.ensures k)

pub returns-in-None : goal.returns-in-None
returns-in-None c = λ left low high bounds level. unsure
