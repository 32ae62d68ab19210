use Rattle.nodes.specs.Table.{nat_of}
use Rattle.rules.specs.Quick.{QuickIs}
use mathlib.Core.Path.{subst}
use Rattle.rules.proofs.measure.Goals as goal

pub returns-in-Some : goal.returns-in-Some
returns-in-Some c =
    let a = c.args in
    let k = subst (QuickIs a.span.h a.span.f a.bounds.now (nat_of a.today.0) a.nodes.now) c.in-Some.is c.quick_measure-found.ensures in
    (k.0, k.1)
