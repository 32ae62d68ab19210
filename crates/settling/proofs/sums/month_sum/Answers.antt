use Prim.Native.Nat.{◌%◌}
use native.Mathlib.Omega.{arith}
use lib.ListN.{replicate}
use mathlib.Core.Path.{subst, sym}
use Rattle.settling.specs.Sums.{SumIs}
use Rattle.settling.proofs.SettingSums as sums
use Rattle.nodes.specs.Rows.{settings_in}
use Rattle.integers.proofs.Passed.{handed_up}
use Rattle.settling.proofs.sums.month_sum.Goals as goal

pub loop-k-init : goal.loop-k-init
loop-k-init c = sums.summing_start c.args.days.now c.args.digits _ _ c.after_zeros-start.ensures.0 c.after_zeros-start.ensures.1

pub returns-then-rest-eq0 : goal.returns-then-rest-eq0
returns-then-rest-eq0 c = sums.summing_rest c.args.days.now c.loop-k.invariant c.if-rest-eq0.true

pub term-requires : goal.term-requires
term-requires c = (omega arith, c.requires)

pub overflow_add-sum : goal.overflow_add-sum
overflow_add-sum c =
    let i = c.loop-k.invariant in
    let h = subst (SumIs c.args.days.now (replicate (c.loop-k.rest % 32) c.loop-k.k)) c.in_ok-sum.was c.term.ensures in
    record { fits = omega (arith, i.small, sums.next_small c.args.days.now i (omega arith) c.requires _ h) }

pub loop-k-preserved : goal.loop-k-preserved
loop-k-preserved c =
    let i = c.loop-k.invariant in
    let h = subst (SumIs c.args.days.now (replicate (c.loop-k.rest % 32) c.loop-k.k)) c.in_ok-sum.was c.term.ensures in
    sums.summing_next c.args.days.now i (omega arith) c.requires _ h

pub returns-in_err-sum : goal.returns-in_err-sum
returns-in_err-sum c =
    let h = subst (SumIs c.args.days.now (replicate (c.loop-k.rest % 32) c.loop-k.k)) c.in_err-sum.was c.term.ensures in
    subst (SumIs c.args.days.now (settings_in c.args.digits)) (sym (handed_up _ c.from_residual.ensures.1)) (sums.summing_stop c.args.days.now c.loop-k.invariant (omega arith) h)

pub returns : goal.returns
returns c = sums.summing_end c.args.days.now c.loop-k.invariant (omega arith)
