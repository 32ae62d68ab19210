use Rattle.text.proofs.LetterCounts.{letters_few}
use Rattle.text.proofs.room.letters_at_most.Goals as goal

pub returns-then-text-gt1024 : goal.returns-then-text-gt1024
returns-then-text-gt1024 c = letters_few c.args.text.now
