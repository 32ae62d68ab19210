use Rattle.std.proofs.Common.{◌≡◌}
use Rattle.std.specs.Slice.Iter.{chunks_exact_rest, chunks_exact_size}
use Rattle.text.proofs.LetterCounts.{Parted}
use Rattle.text.proofs.room.letters.Given as goal

-- what was counted and the letters of what is left are all
abbrev pub invariant-loop-part : goal.invariant-loop-part
invariant-loop-part l = (chunks_exact_size l.part-iterator ≡ 224) × Parted l.text (chunks_exact_rest l.part-iterator) l.found
