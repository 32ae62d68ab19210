use borrow.Author.Rules.{rules}
use native.Mathlib.Omega.{arith}
use mathlib.Core.Path.{◌∙◌}
use Rattle.settling.proofs.SettingSums.{four_zeros, two_zeros}
use Rattle.settling.proofs.sums.after_zeros.Goals as goal

pub returns-then-rest-eq0 : goal.returns-then-rest-eq0
returns-then-rest-eq0 c = (omega arith, four_zeros c.args.digits c.if-digits-eq0.true ∙ two_zeros 2 4 _ c.if-rest-eq0.true)

pub returns-then-digits-eq0 : goal.returns-then-digits-eq0
returns-then-digits-eq0 c = (omega arith, four_zeros c.args.digits c.if-digits-eq0.true)

pub returns-then-digits-eq0-2 : goal.returns-then-digits-eq0-2
returns-then-digits-eq0-2 c = (omega arith, two_zeros 6 0 c.args.digits c.if-digits-eq0-2.true)
