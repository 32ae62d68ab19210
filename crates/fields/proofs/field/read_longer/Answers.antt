use mathlib.Core.Path.{ap, subst, sym}
use native.Mathlib.Omega.{arith}
use Rattle.fields.specs.Classes.{class_of}
use Rattle.language.specs.Text.Letters.{Class}
use Rattle.fields.specs.Fields.{TakenIs}
use Rattle.fields.proofs.FieldLaws.{failed_behind}
use Rattle.fields.proofs.Positions.{head_ne, head_none}
use Rattle.fields.proofs.field.read_longer.Goals as goal
use Rattle.fields.proofs.field.read_longer.Goals.{in_default-via-in-Delay+then-at-text+else-text-at-eq80, in_default-via-in-Delay+else-at-text, in_default-via-in_default}

pub returns-then-text-at : goal.returns-then-text-at
returns-then-text-at c = let a = c.args in failed_behind (class_of a.class) a.text.now a.at c.if-text-at.true

pub returns-in-Delay : goal.returns-in-Delay
unfolding class_of
returns-in-Delay c =
    let a = c.args in
    subst (λ (k : Class). TakenIs k a.text.now a.at c.read_setting.result) (sym (ap class_of c.in-Delay.is)) c.read_setting.ensures

pub read_plain-requires : goal.read_plain-requires
read_plain-requires c =
    let a = c.args in (
      c.if-text-at.false,
      elim c.in_default.branch [
        | in_default-via-in-Delay+then-at-text+else-text-at-eq80 w ↦ λ e. head_ne 44 a.text.now a.at 80 w.if-at-text.true w.if-text-at-eq80.false (omega arith)
        | in_default-via-in-Delay+else-at-text w ↦ λ e. head_none 44 a.text.now a.at 80 w.if-at-text.false (omega arith)
        | in_default-via-in_default w ↦ λ e. absurd (w.in_default.not-Delay e)
      ],
    )
