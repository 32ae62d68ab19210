use borrow.Author.Rules.{rules}
use mir.Syntax.{w64}
use mir.Val.{SFits}
use Rattle.integers.proofs.Bits.{same_bits}
use Rattle.integers.proofs.equal.Goals as goal

pub returns : goal.returns
returns c =
    let f : SFits w64 c.args.a.0 = search rules in
    let g : SFits w64 c.args.b.0 = search rules in
    same_bits _ _ f g
