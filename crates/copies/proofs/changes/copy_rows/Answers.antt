use native.Mathlib.Omega.{arith}
use Rattle.copies.proofs.Copying.{copied_next, copied_none}
use Rattle.nodes.specs.Pass.{row_from}
use Prim.Native.Nat.{◌*◌}
use lib.ListN.{length}
use mathlib.Core.Path.{◌≡◌}
use Rattle.copies.proofs.changes.copy_rows.Goals as goal

pub loop-at-init : goal.loop-at-init
loop-at-init g c = (omega arith, copied_none (g.C.Change.changed c.args.change.now) c.args.nodes.now c.args.from c.args.count)

pub put-next-requires : goal.put-next-requires
put-next-requires g c =
    let l = c.loop-at in
    let i = l.invariant.1 in
    (c.requires.0, (omega (arith, c.loop-at-test.true, c.requires.2), omega (arith, c.loop-at-test.true, c.requires.3, i.added.size)), omega (arith, c.requires.4, l.invariant.0, i.counted))

pub loop-at-preserved : goal.loop-at-preserved
loop-at-preserved g c =
    let a = c.args in
    let l = c.loop-at in
    let e = c.put-next.ensures in
    let five : length (g.C.Change.changed a.change.now (row_from (l.at * 5) l.nodes)) ≡ 5 = omega (arith, e.counted, e.added.ends) in
    (omega (arith, l.invariant.0), copied_next (g.C.Change.changed a.change.now) a.nodes.now a.from c.requires.4 l.invariant.0 five l.invariant.1 e.added)
