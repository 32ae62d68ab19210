use Rattle.std.proofs.Common.{◌≡◌, ◌+◌, ◌≤◌, drop}
use Rattle.text.specs.Room.{letters_in}
use Rattle.text.proofs.room.letters_among.Given as goal

-- what was counted and the letters behind it are all
abbrev pub invariant-loop-b : goal.invariant-loop-b
invariant-loop-b l = (l.found ≤ l.b-index) × (l.found + letters_in (drop l.b-index l.part) ≡ letters_in l.part)
