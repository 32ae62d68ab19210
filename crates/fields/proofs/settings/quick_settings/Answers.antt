use mathlib.Core.Path.{refl}
use native.Mathlib.Omega.{arith}
use Rattle.fields.proofs.Positions.{up_comma}
use Rattle.fields.proofs.SettingLaws.{row_done, row_start}
use Rattle.fields.proofs.settings.quick_settings.Goals as goal

pub returns-then-text-at-eq44 : goal.returns-then-text-at-eq44
returns-then-text-at-eq44 c =
    let a = c.args in
    row_done a.text.now a.at 48 0 a.at (row_start a.text.now a.at) _ refl (up_comma 44 a.text.now a.at (omega arith) c.if-text-at-eq44.true)
