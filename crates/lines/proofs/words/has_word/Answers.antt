use lib.ListN.{take}
use mathlib.Core.Path.{◌∙◌}
use native.Mathlib.Omega.{arith}
use Rattle.lines.proofs.WordLaws.{clipped, word_is}
use Rattle.lines.proofs.words.has_word.Goals as goal

pub returns : goal.returns
returns c =
    word_is (take c.min.result c.args.line.now) c.args.word.now c.first_comma.ensures c.unwrap_or-end.ensures c.eq.ensures
    ∙ clipped c.args.line.now c.args.word.now c.min.result (λ h. omega (arith, h, c.min.ensures))
