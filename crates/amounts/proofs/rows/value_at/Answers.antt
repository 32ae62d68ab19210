use borrow.Author.Rules.{rules}
use Rattle.amounts.proofs.RowReads.{found_is, never_outside}
use Rattle.tables.specs.Lookup.{Inside}
use Rattle.amounts.proofs.rows.value_at.Goals as goal

pub lookup-found-requires : goal.lookup-found-requires
unfolding Inside
lookup-found-requires c = c.requires

pub returns-in_default : goal.returns-in_default
returns-in_default c = absurd (never_outside _ _ _ c.lookup-found.ensures c.in_default.is)

pub returns : goal.returns
returns c = found_is _ _ _ c.lookup-found.ensures _ c.in-Some.is
