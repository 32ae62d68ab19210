use Rattle.std.proofs.Common.{◌≡◌, ◌*◌, drop}
use Rattle.language.specs.Rules.Table.{are_bounded}
use Rattle.tables.proofs.values_bounded.Given as goal

abbrev pub invariant-loop-k : goal.invariant-loop-k
invariant-loop-k l = are_bounded l.n l.bounds l.values ≡ are_bounded l.n (drop l.k l.bounds) (drop (l.k * l.n) l.values)
