use Prim.Native.Nat.{◌*◌, ◌+◌, ◌-◌, ◌<◌}
use borrow.Author.Rules.{rules}
use mathlib.Core.Path.{◌≡◌}
use native.Mathlib.Omega.{arith}
use Rattle.printing.proofs.MonthLines.{next_room, printing_ends, printing_on}
use Rattle.printing.proofs.put_months.Goals as goal

pub put_month-line-requires : goal.put_month-line-requires
put_month-line-requires c =
    let l = c.loop-m.invariant in
    let t = c.loop-m-test.true in
    (omega (arith, c.requires.0, t), omega (arith, c.requires.1, t), omega (arith, c.requires.2, t), next_room _ _ l.0 t c.requires.3, c.requires.4, l.1, l.2, l.3, l.4)

pub loop-m-preserved : goal.loop-m-preserved
loop-m-preserved c =
    let l = c.loop-m.invariant in
    let e = c.put_month-line.ensures in
    let z : c.loop-m.m + 1 - 1 ≡ c.loop-m.m = omega arith in
    (printing_on _ _ l.0 c.loop-m-test.true e.0, search rules, search rules, e.1, λ i. rw z e.2)

pub returns : goal.returns
returns c = printing_ends _ _ c.loop-m.invariant.0 (omega (arith, c.loop-m-test.false))
