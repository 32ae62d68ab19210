use Prim.Native.Nat.{◌≤◌}
use lib.IntN.{◌+ℤ◌, nat_abs}
use Rattle.integers.proofs.Answers.{value_in, value_out}
use Rattle.integers.proofs.Laws.{sfits64}
use Rattle.integers.proofs.Locals.{op_fits, op_reads, value_fits}
use Rattle.integers.proofs.ValueSums.{depth_fits, not_over, not_under, over, room_fits, under}
use Rattle.integers.specs.Bounded.{value_limit}
use Rattle.integers.proofs.value_sum.Goals as goal
use Rattle.integers.proofs.value_sum.Goals.{Joined-y-gt0, else-y-gt0+else-x-y, then-y-gt0+else-y-x}

pub overflow_sub-y : goal.overflow_sub-y
overflow_sub-y c =
    let p = c.requires in
    room_fits p.0 p.1 c.if-y-gt0.true

pub returns-then-y-x : goal.returns-then-y-x
returns-then-y-x c =
    let p = c.requires in
    value_out _ (over p.0 p.1 c.if-y-gt0.true c.if-y-x.true)

pub overflow_sub-y-else-y-gt0 : goal.overflow_sub-y-else-y-gt0
overflow_sub-y-else-y-gt0 c =
    let p = c.requires in
    depth_fits p.0 p.1 c.if-y-gt0.false

pub returns-then-x-y : goal.returns-then-x-y
returns-then-x-y c =
    let p = c.requires in
    value_out _ (under p.0 p.1 c.if-y-gt0.false c.if-x-y.true)

-- both ways past the tests
in_range_lem : (c : Joined-y-gt0) → nat_abs (c.args.a.0 +ℤ c.args.b.0) ≤ value_limit
in_range_lem c =
    let p = c.requires in
    elim c.if-y-gt0.branch [
      | then-y-gt0+else-y-x w ↦ not_over p.0 p.1 w.if-y-gt0.true w.if-y-x.false
      | else-y-gt0+else-x-y w ↦ not_under p.0 p.1 w.if-y-gt0.false w.if-x-y.false
    ]

pub overflow_add-result : goal.overflow_add-result
overflow_add-result c =
    let p = c.requires in
    let h = in_range_lem c in
    op_fits ◌+ℤ◌ (value_fits p.0) (value_fits p.1) (sfits64 value_limit h tt)

pub returns : goal.returns
returns c =
    let p = c.requires in
    let h = in_range_lem c in
    rw (op_reads ◌+ℤ◌ (value_fits p.0) (value_fits p.1) (sfits64 value_limit h tt)) (value_in _ h)
