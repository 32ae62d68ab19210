use Prim.Native.Nat.{◌*◌, ◌+◌, suc}
use lib.ListN.{length-set}
use mathlib.Core.Path.{◌≡◌}
use mir.Syntax.{w64}
use mir.ValLaws.{to_z-of_z}
use native.Mathlib.Omega.{arith}
use Rattle.nodes.proofs.put_row.Goals as goal

pub bounds-nodes-i-2 : goal.bounds-nodes-i-2
bounds-nodes-i-2 c = simp length-set (omega arith)

pub bounds-nodes-i-3 : goal.bounds-nodes-i-3
bounds-nodes-i-3 c = simp length-set (omega arith)

pub bounds-nodes-i-4 : goal.bounds-nodes-i-4
bounds-nodes-i-4 c = simp length-set (omega arith)

pub bounds-nodes-i-5 : goal.bounds-nodes-i-5
bounds-nodes-i-5 c = simp length-set (omega arith)

pub shape_of-nodes : goal.shape_of-nodes
shape_of-nodes c = simp length-set

pub returns : goal.returns
returns c =
    let a = c.args in
    let i1 : 5 * a.i + 1 ≡ suc (5 * a.i) = omega arith in
    let i2 : 5 * a.i + 2 ≡ suc (suc (5 * a.i)) = omega arith in
    let i3 : 5 * a.i + 3 ≡ suc (suc (suc (5 * a.i))) = omega arith in
    let i4 : 5 * a.i + 4 ≡ suc (suc (suc (suc (5 * a.i)))) = omega arith in
    simp (i1, i2, i3, i4, to_z-of_z w64 a.letter c.ranges.letter, to_z-of_z w64 a.a c.ranges.a, to_z-of_z w64 a.b c.ranges.b, to_z-of_z w64 a.c c.ranges.c, to_z-of_z w64 a.d c.ranges.d)
