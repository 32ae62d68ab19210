use mathlib.Core.Path.{subst}
use mir.Syntax.{w64}
use mir.ValLaws.{to_z-of_z}
use native.Mathlib.Omega.{arith}
use Rattle.fields.specs.Classes.{class_of}
use Rattle.fields.specs.Numbers.{NumberTried}
use Rattle.fields.proofs.FieldLaws.{are_tried, four_one, taken_at}
use Rattle.fields.proofs.Positions.{up_fits}
use Rattle.language.specs.Text.Letters.{divisor}
use Rattle.fields.proofs.ClassLaws.{divisor_reads, small_fits, test_high}
use mathlib.Core.Bool.{false}
use Rattle.fields.proofs.slots.quick_divisor.Goals as goal

pub overflow_add-result : goal.overflow_add-result
overflow_add-result c =
    let a = c.args in
    let w = subst (NumberTried _ _) c.in-Some.is c.short_number.ensures in
    omega (arith, w.ends, up_fits 44 a.text.now a.at (omega arith))

pub returns-else-a-lt1 : goal.returns-else-a-lt1
returns-else-a-lt1 c =
    let a = c.args in
    let t = a.text.now in
    let w = subst (NumberTried _ _) c.in-Some.is c.short_number.ensures in
    let v = c.in-Some.a.value in
    four_one t a.at divisor v _ (taken_at divisor t a.at _ _ (omega arith) (omega (arith, w.ends))
    (divisor_reads _ v w.small (test_high 1 v false (omega arith) (small_fits v w.small) c.if-a-lt1.false) w.is)) _ (to_z-of_z w64 v (small_fits v w.small))

pub returns-in-None : goal.returns-in-None
unfolding class_of
returns-in-None c = are_tried _ _ _ c.read_only.result c.read_only.ensures
