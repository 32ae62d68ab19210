use Prim.Native.Nat.{◌-◌, ◌≤◌}
use Rattle.fields.proofs.NumberLaws.{Going, going_done, going_more, going_start}
use Rattle.fields.proofs.Positions.{up_comma, up_more}
use Rattle.fields.specs.Positions.{up_to}
use Rattle.one_pass.proofs.Nodes.{digits_seen, unsure}
use lib.ListN.{drop, length}
use native.Mathlib.Omega.{arith}
use Rattle.one_pass.proofs.node.digits_from.Goals as goal

pub returns-then-b-eq44 : goal.returns-then-b-eq44
returns-then-b-eq44 c =
    let turn = c.loop-i in
    λ k. digits_seen (going_done _ _ _ _ _ turn.invariant.2 (up_comma 44 c.args.text.now.now turn.i c.loop-i-test.true c.if-b-eq44.true) turn.invariant.1) (c.number_for.ensures k)

pub loop-i-preserved : goal.loop-i-preserved
loop-i-preserved c =
    (omega (arith, c.loop-i-test.true, c.requires.0.short), omega (arith, c.if-v-ge-BEYOND.false), going_more _ _ _ _ _ _ _ c.loop-i.invariant.2 (up_more 44 c.args.text.now.now c.loop-i.i (omega arith) (λ e. omega arith) (λ e. omega arith)) (omega arith) (omega arith))
