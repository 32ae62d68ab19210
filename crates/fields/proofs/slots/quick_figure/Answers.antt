use mathlib.Core.Path.{subst}
use mir.Syntax.{w64}
use mir.ValLaws.{to_z-of_z}
use native.Mathlib.Omega.{arith}
use Rattle.fields.specs.Numbers.{NumberTried}
use Rattle.fields.proofs.FieldLaws.{four_one, taken_at}
use Rattle.fields.proofs.Positions.{up_fits}
use Rattle.language.specs.Text.Letters.{figure}
use Rattle.fields.proofs.ClassLaws.{figure_reads, small_fits}
use Rattle.fields.proofs.slots.quick_figure.Goals as goal

pub overflow_add-result : goal.overflow_add-result
overflow_add-result c =
    let a = c.args in
    let w = subst (NumberTried _ _) c.in-Some.is c.short_number.ensures in
    omega (arith, w.ends, up_fits 44 a.text.now a.at (omega arith))

pub returns-in-Some : goal.returns-in-Some
returns-in-Some c =
    let a = c.args in
    let t = a.text.now in
    let w = subst (NumberTried _ _) c.in-Some.is c.short_number.ensures in
    let v = c.in-Some.a.value in
    four_one t a.at figure v _ (taken_at figure t a.at _ _ (omega arith) (omega (arith, w.ends)) (figure_reads _ v w.small w.is)) _ (to_z-of_z w64 v (small_fits v w.small))
