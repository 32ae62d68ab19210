use borrow.Author.Rules.{rules}
use lib.Dec.{ltb}
use lib.IntN.{pos}
use mathlib.Core.Bool.{◌&&◌}
use mathlib.Core.Path.{ap}
use mir.Syntax.{w64}
use mir.Val.{SFits}
use Rattle.integers.proofs.Bits.{same_bits}
use Rattle.integers.proofs.Laws.{sfits64}
use Rattle.lines.proofs.fits.Goals as goal

pub overflow_cast-result : goal.overflow_cast-result
overflow_cast-result c = sfits64 60001 c.requires tt

pub returns : goal.returns
returns c =
    let f : SFits w64 c.args.months.0 = search rules in
    ap (λ t. ltb 0 c.args.count && t) (same_bits c.args.months.0 (pos c.args.count) f (sfits64 60001 c.requires tt))
