use Rattle.integers.proofs.Bits.{same_bits}
use Rattle.integers.specs.Equal.{eq_z}
use borrow.Author.Rules.{rules}
use lib.IntN.{pos}
use mathlib.Core.Path.{◌∙◌, ap}
use mir.Facts.{sfits_lit}
use mir.Syntax.{w64}
use mir.Val.{SFits}
use Rattle.nodes.proofs.is_index.Goals as goal

pub returns : goal.returns
returns c =
    let f : SFits w64 c.slot-x.result = search rules in
    same_bits _ (pos 79) f (sfits_lit tt) ∙ ap (λ z. eq_z z (pos 79)) c.slot-x.ensures
