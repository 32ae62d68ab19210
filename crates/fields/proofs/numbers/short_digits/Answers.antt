use Prim.Native.Nat.{◌+◌}
use native.Mathlib.Omega.{arith}
use Rattle.fields.proofs.NumberLaws.{going_done, going_more}
use Rattle.fields.proofs.Positions.{up_comma, up_more}
use Rattle.fields.proofs.numbers.short_digits.Goals as goal

pub returns-then-text-i-eq44 : goal.returns-then-text-i-eq44
returns-then-text-i-eq44 c =
    let t = c.args.text.now in
    let l = c.loop-i in
    let v99 = l.invariant.3 (omega arith) in
    rw c.from.ensures (going_done _ _ _ _ _ (going_more _ _ _ _ _ _ _ l.invariant.4 (up_more 44 t l.i (omega arith) (λ e. omega arith) (λ e. omega arith)) (omega arith) (omega arith)) (up_comma 44 t (l.i + 1) (omega arith) c.if-text-i-eq44.true) (omega (arith, v99)))

pub loop-i-preserved : goal.loop-i-preserved
loop-i-preserved c =
    let t = c.args.text.now in
    let l = c.loop-i in
    let v99 = l.invariant.3 (omega arith) in (
      omega (arith, v99),
      λ h. absurd (omega arith),
      λ h. omega (arith, l.invariant.1 (omega arith)),
      λ h. omega (arith, l.invariant.2 (omega arith)),
      rw c.from.ensures (going_more _ _ _ _ _ _ _ l.invariant.4 (up_more 44 t l.i (omega arith) (λ e. omega arith) (λ e. omega arith)) (omega arith) (omega arith)),
    )
