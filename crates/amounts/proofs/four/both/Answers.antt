use mathlib.Core.Path.{refl}
use Rattle.amounts.proofs.FourMonths.{each}
use Rattle.amounts.specs.FourMonths.{held_in}
use Rattle.amounts.proofs.four.both.Goals as goal

pub returns : goal.returns
unfolding held_in
returns c = each _ refl refl refl refl
