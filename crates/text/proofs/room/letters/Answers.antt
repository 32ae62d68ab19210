use Rattle.std.proofs.Common.{◌∙◌, arith}
use Rattle.std.specs.Slice.Iter.{chunks_exact_rest}
use Rattle.text.proofs.LetterCounts.{parted_more, parted_most}
use Rattle.text.proofs.room.letters.Goals as goal

pub overflow_add-found : goal.overflow_add-found
overflow_add-found c = omega (arith, parted_most c.loop-part.invariant.1, c.letters_among.type_inv)

pub loop-part-preserved : goal.loop-part-preserved
loop-part-preserved c =
    let s = c.in-Some.ensures.steps in
    (s.0 ∙ c.loop-part.invariant.0, rw (c.from-found.ensures ∙ c.letters_among.ensures) (parted_more c.loop-part.invariant.1 c.in-Some.part.now (chunks_exact_rest c.next.new.self) s.1.0 (s.1.1 ∙ c.loop-part.invariant.0)))

pub overflow_add-result : goal.overflow_add-result
overflow_add-result c = omega (arith, parted_most c.loop-part.invariant.1, c.letters_among-2.type_inv)
