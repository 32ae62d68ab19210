use lib.ListN.{length}
use mathlib.Core.Logic.{inl, inr}
use mathlib.Core.Path.{◌≡◌}
use native.Mathlib.Omega.{arith}
use Rattle.fields.proofs.NumberLaws.{going_done, going_high, going_low, going_more, going_over}
use Rattle.fields.proofs.Positions.{up_comma, up_end, up_more, up_stop}
use Rattle.fields.proofs.numbers.digits.Goals as goal
use Rattle.fields.proofs.numbers.digits.Goals.{in_default-via-then-b-lt48, in_default-via-else-b-lt48+else-b-lt58, then-b-eq44-via-then-b-eq44, then-b-eq44-via-else-b-eq44+then-b-stop}

pub returns-then-v-gt-LIMIT : goal.returns-then-v-gt-LIMIT
returns-then-v-gt-LIMIT c =
    let a = c.args in
    let l = c.loop-i in
    inr (going_over _ _ _ _ _ 9000000000000 (going_more _ _ _ _ _ _ _ l.invariant.1 (up_more a.stop a.text.now l.i (omega arith) (λ e. omega
    arith) (λ e. omega arith)) (omega arith) (omega arith)) (omega (arith, c.if-v-gt-LIMIT.true)))

pub returns-then-b-eq44 : goal.returns-then-b-eq44
returns-then-b-eq44 c =
    let a = c.args in
    let l = c.loop-i in
    going_done _ _ _ _ _ l.invariant.1 (elim c.then-b-eq44.branch [
      | then-b-eq44-via-then-b-eq44 w ↦ up_comma a.stop a.text.now l.i (omega arith) w.if-b-eq44.true
      | then-b-eq44-via-else-b-eq44+then-b-stop w ↦ up_stop a.stop a.text.now l.i (omega arith) w.if-b-stop.true
    ]) (omega arith)

pub returns-in_default : goal.returns-in_default
returns-in_default c =
    let a = c.args in
    let l = c.loop-i in
    let m = up_more a.stop a.text.now l.i (omega arith) c.if-b-eq44.false c.if-b-stop.false in
    inl (elim c.in_default.branch [
      | in_default-via-then-b-lt48 w ↦ going_low _ _ _ _ _ _ _ l.invariant.1 m (omega arith)
      | in_default-via-else-b-lt48+else-b-lt58 w ↦ going_high _ _ _ _ _ _ _ l.invariant.1 m (omega arith)
    ])

pub loop-i-preserved : goal.loop-i-preserved
loop-i-preserved c =
    let a = c.args in
    let l = c.loop-i in (
      omega arith,
      rw c.from.ensures (going_more _ _ _ _ _ _ _ l.invariant.1 (up_more a.stop a.text.now l.i (omega arith) (λ e. omega
          arith) (λ e. omega arith)) (omega arith) (omega arith)),
    )

pub returns : goal.returns
returns c =
    let a = c.args in
    let l = c.loop-i in
    let e : l.i ≡ length a.text.now = omega arith in
    rw e at (going_done _ _ _ _ _ l.invariant.1 (up_end a.stop a.text.now l.i (omega arith)) (omega arith))
