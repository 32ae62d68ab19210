use Prim.Native.Nat.{◌<◌}
use mathlib.Core.Path.{◌≡◌, sym}
use native.Mathlib.Omega.{arith}
use Rattle.language.specs.Text.Number.{print_nat, print_number}
use Rattle.writer.proofs.Numbers.{short_text}
use Rattle.writer.proofs.Puts.{room_as, said}
use Rattle.writer.specs.Written.{slot}
use Rattle.writer.proofs.digits.put_few.Goals as goal
use Rattle.writer.proofs.digits.put_few.Goals.{After-magnitude-n}

-- `digits::put_few` meets its contract.

short : (c : After-magnitude-n) → (c.magnitude-n.result < 10_000) × (print_number (slot c.args.nodes.now c.args.k) ≡ print_nat c.magnitude-n.result)
short c = short_text (slot c.args.nodes.now c.args.k) _ c.magnitude-n.ensures.0 c.requires.1

pub overflow_cast-n : goal.overflow_cast-n
overflow_cast-n c = record { fits = omega (arith, (short c).0) }

pub put_short-requires : goal.put_short-requires
put_short-requires c = let h = short (goal.at.put_short-requires c).After-magnitude-n in
    (h.0, room_as _ _ _ _ h.1 c.requires.2)

pub returns : goal.returns
returns c = said (sym (short (goal.at.returns c).After-magnitude-n).1) c.put_short.ensures
