use Rattle.std.proofs.Common.{arith, get_or, leb}
use Rattle.text.proofs.LetterCounts.{letters_at, letters_end, once_at_most}
use Rattle.text.proofs.room.letters_among.Goals as goal

pub loop-b-preserved : goal.loop-b-preserved
loop-b-preserved c =
    let k = once_at_most (leb 65 (get_or c.args.part.now c.loop-b.b-index 0)) in
    (omega (arith, k), omega (arith, letters_at c.args.part.now c.loop-b.b-index c.loop-b-test.true))

pub returns : goal.returns
returns c = omega (arith, letters_end c.args.part.now c.loop-b.b-index c.loop-b-test.false)
