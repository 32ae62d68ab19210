use borrow.Author.Tests.{ne_eqb}
use mathlib.Core.Path.{refl}
use Rattle.payoff.specs.Cut.{byte_of_cut}
use Rattle.payoff.proofs.cut_byte.Goals as goal

pub returns-then-b-eq70 : goal.returns-then-b-eq70
unfolding byte_of_cut
returns-then-b-eq70 c = rw c.if-b-eq70.true refl

pub returns-else-b-eq70 : goal.returns-else-b-eq70
unfolding byte_of_cut
returns-else-b-eq70 c = rw (ne_eqb c.args.b 70 c.if-b-eq70.false) refl
