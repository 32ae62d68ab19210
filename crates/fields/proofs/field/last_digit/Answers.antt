use Prim.Native.Nat.{◌+◌, ◌-◌}
use Rattle.fields.proofs.ClassLaws.{limited}
use Rattle.fields.proofs.FieldLaws.{digit_last}
use Rattle.fields.specs.Classes.{Limited}
use Rattle.fields.specs.Fields.{DigitIs}
use Rattle.fields.specs.declared.field.Range.{Range}
use lib.ListN.{get_or}
use mathlib.Core.Path.{subst, sym}
use native.Mathlib.Omega.{arith}
use Rattle.fields.proofs.field.last_digit.Goals as goal

pub digit_in-requires : goal.digit_in-requires
digit_in-requires c = (omega arith, subst Limited (sym c.range_of.ensures) (limited c.args.class))

pub returns-in-48-to-57 : goal.returns-in-48-to-57
returns-in-48-to-57 c =
    let a = c.args in
    let t = a.text.now in
    digit_last t a.at a.class (omega arith) (omega arith) c.requires c.digit_in.result
    (subst (λ (r : Range). DigitIs r (get_or t a.at 0 - 48) (a.at + 2) c.digit_in.result) c.range_of.ensures c.digit_in.ensures)
