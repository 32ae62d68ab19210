use borrow.Author.Tests.{eqb-true}
use Prim.Native.Nat.{◌+◌}
use native.Mathlib.Omega.{arith}
use Rattle.fields.proofs.Positions.{up_comma, up_end}
use Rattle.fields.proofs.field.ends_behind.Goals as goal

pub returns-then-text-at-eq1 : goal.returns-then-text-at-eq1
returns-then-text-at-eq1 c =
    let a = c.args in λ e. up_end 44 a.text.now (a.at + 1) (omega arith)

pub returns-else-text-at-eq1 : goal.returns-else-text-at-eq1
returns-else-text-at-eq1 c =
    let a = c.args in λ e. up_comma 44 a.text.now (a.at + 1) (omega arith) (eqb-true _ _ e)
