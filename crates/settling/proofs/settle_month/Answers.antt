use Prim.Native.Nat.{◌+◌}
use lib.IntN.{pos}
use lib.ListN.{get_or}
use mathlib.Core.Path.{subst, sym}
use mir.Syntax.{w64}
use mir.Val.{SFits, to_z}
use native.Mathlib.Omega.{arith}
use Rattle.settling.proofs.RowSettles as rows
use Rattle.settling.specs.Sums.{SumIs}
use Rattle.nodes.specs.Rows.{settings_in}
use Rattle.nodes.proofs.Signed.{key}
use Rattle.integers.proofs.Locals.{rd}
use lib.IntN.{◌+ℤ◌, nat_abs}
use lib.ListN.{length-set}
use borrow.Author.Rules.{rules}
use Rattle.settling.proofs.settle_month.Goals as goal
use Rattle.settling.specs.Settle.{MonthIs}
use Rattle.integers.proofs.Passed.{handed_up}
use Rattle.std.specs.Prelude.{Err, Ok}

pub returns-then-digits-eq0 : goal.returns-then-digits-eq0
returns-then-digits-eq0 c =
    let a = c.args in
    let fd : SFits w64 (get_or a.nodes.now (a.at + 1) (pos 0)) = search rules in
    rows.month_kept a.days.now a.nodes.now a.at (key fd c.if-digits-eq0.true)

pub overflow_cast-digits : goal.overflow_cast-digits
overflow_cast-digits c =
    let a = c.args in
    let fp : SFits w64 (get_or a.nodes.now a.at (pos 0)) = search rules in
    let fd : SFits w64 (get_or a.nodes.now (a.at + 1) (pos 0)) = search rules in
    rows.digits_cast a.days.now c.requires.1 _ _ c.requires.2 fp fd

pub overflow_cast-nodes : goal.overflow_cast-nodes
overflow_cast-nodes c =
    let a = c.args in
    let fp : SFits w64 (get_or a.nodes.now a.at (pos 0)) = search rules in
    let fd : SFits w64 (get_or a.nodes.now (a.at + 1) (pos 0)) = search rules in
    let h = subst (SumIs a.days.now (settings_in (nat_abs (rd (get_or a.nodes.now (a.at + 1) (pos 0)))))) c.in_ok-sum.was c.month_sum.ensures in
    rows.sum_fits a.days.now c.requires.1 _ _ c.requires.2 fp fd _ h

pub overflow_add-nodes : goal.overflow_add-nodes
overflow_add-nodes c =
    let a = c.args in
    let fp : SFits w64 (get_or a.nodes.now a.at (pos 0)) = search rules in
    let fd : SFits w64 (get_or a.nodes.now (a.at + 1) (pos 0)) = search rules in
    let h = subst (SumIs a.days.now (settings_in (nat_abs (rd (get_or a.nodes.now (a.at + 1) (pos 0)))))) c.in_ok-sum.was c.month_sum.ensures in
    rows.month_fits a.days.now c.requires.1 _ _ c.requires.2 fp fd _ h

pub slice_set_of-nodes : goal.slice_set_of-nodes
slice_set_of-nodes c =
    let a = c.args in
    omega (arith, c.requires.0, length-set a.nodes.now a.at (rd (rd (get_or a.nodes.now a.at (pos 0)) +ℤ to_z w64 c.in_ok-sum.sum)))

pub returns : goal.returns
returns c =
    let a = c.args in
    let fp : SFits w64 (get_or a.nodes.now a.at (pos 0)) = search rules in
    let fd : SFits w64 (get_or a.nodes.now (a.at + 1) (pos 0)) = search rules in
    let h = subst (SumIs a.days.now (settings_in (nat_abs (rd (get_or a.nodes.now (a.at + 1) (pos 0)))))) c.in_ok-sum.was c.month_sum.ensures in
    rows.month_filled a.days.now a.nodes.now a.at c.in_ok-sum.sum (rows.as_digits a.days.now c.requires.1 _ _ c.requires.2 fp fd (Ok c.in_ok-sum.sum) h) _ (rows.month_is a.days.now c.requires.1 _ _ c.requires.2 fp fd _ h)

pub returns-in_err-sum : goal.returns-in_err-sum
returns-in_err-sum c =
    let a = c.args in
    let fp : SFits w64 (get_or a.nodes.now a.at (pos 0)) = search rules in
    let fd : SFits w64 (get_or a.nodes.now (a.at + 1) (pos 0)) = search rules in
    let h = subst (SumIs a.days.now (settings_in (nat_abs (rd (get_or a.nodes.now (a.at + 1) (pos 0)))))) c.in_err-sum.was c.month_sum.ensures in
    subst (MonthIs a.days.now a.at a.nodes.now a.nodes.now) (sym (handed_up _ c.from_residual.ensures.1)) (rows.month_unset a.days.now a.nodes.now a.at (rows.as_digits a.days.now c.requires.1 _ _ c.requires.2 fp fd (Err _) h))
