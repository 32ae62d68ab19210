use borrow.Author.Rules.{rules}
use lib.IntN.{pos}
use lib.ListN.{get_or}
use Prim.Native.Nat.{◌-◌}
use Rattle.integers.proofs.Bits.{same_bits}
use mir.Syntax.{w64}
use mir.Val.{SFits}
use Rattle.printing.proofs.again.repeats.Goals as goal

pub returns : goal.returns
returns c =
    let a = c.args in
    let f : SFits w64 (get_or a.list.now a.m (pos 0)) = search rules in
    let g : SFits w64 (get_or a.list.now (a.m - 1) (pos 0)) = search rules in
    same_bits _ _ f g
