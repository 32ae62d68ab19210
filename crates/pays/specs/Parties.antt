-- The two parties that payments are asked for.
use Rattle.std.specs.Prelude.{◌<◌, ℤ}
use Rattle.nodes.specs.Table.{nat_of}

-- parties are numbered from 1
pub record PairIn (p q : ℤ) : Type 0 where
  pub first : 0 < nat_of p
  pub second : 0 < nat_of q
