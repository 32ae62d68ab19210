use Prim.Native.Nat.{◌+◌, ◌-◌, ℕ}
use lib.ListN.{get_or}
use mathlib.Core.List.{List, ◌∷◌}
use mathlib.Core.Path.{◌∙◌, ap, subst, sym}
use native.Mathlib.Omega.{arith}
use Rattle.fields.specs.Classes.{Limited}
use Rattle.fields.specs.Fields.{DigitIs}
use Rattle.fields.specs.declared.field.Range.{Range}
use Rattle.fields.proofs.ClassLaws.{limited}
use Rattle.fields.proofs.FieldLaws.{digit_taken}
use Rattle.fields.proofs.Positions.{up_more}
use Rattle.fields.proofs.field.read_class.Goals as goal

pub digit_in-requires : goal.digit_in-requires
digit_in-requires c = (
  omega arith,
  subst Limited (sym c.range_of.ensures) (limited c.args.class),
)

pub returns-then-ends_behind : goal.returns-then-ends_behind
returns-then-ends_behind c =
    let a = c.args in
    let t = a.text.now in
    digit_taken t a.at a.class (get_or t a.at 0) c.if-at-text.true (omega arith) (omega
    arith) (up_more 44 t a.at c.if-at-text.true (λ e. omega arith) (λ e. omega arith) ∙ ap
    (λ (l : List ℕ). get_or t a.at 0 ∷ l) (c.ends_behind.ensures c.if-ends_behind.true)) c.digit_in.result
    (subst (λ (r : Range). DigitIs r (get_or t a.at 0 - 48) (a.at + 2) c.digit_in.result) c.range_of.ensures c.digit_in.ensures)
