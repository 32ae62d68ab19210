use Prim.Native.Nat.{◌-◌}
use lib.ListN.{get_or}
use mathlib.Core.Path.{refl}
use mir.Syntax.{w64}
use mir.ValLaws.{to_z_pos}
use native.Mathlib.Omega.{arith}
use Rattle.fields.proofs.MonthLaws.{digit_month}
use Rattle.fields.proofs.slots.month_digit.Goals as goal

pub returns-in-48-to-57 : goal.returns-in-48-to-57
returns-in-48-to-57 c =
    let a = c.args in
    let t = a.text.now in
    (digit_month t a.at c.requires (omega arith) (omega arith) c.if-text-at-eq44.true _ (rw c.from.ensures (to_z_pos w64 (get_or t a.at 0 - 48) (omega arith))), refl)
