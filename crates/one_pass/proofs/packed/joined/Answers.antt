use Rattle.one_pass.proofs.Packs.{both_kept}
use borrow.Author.Rules.{rules}
use Rattle.one_pass.proofs.packed.joined.Goals as goal

pub returns-then-is_kept : goal.returns-then-is_kept
returns-then-is_kept c = λ k. let b = both_kept _ _ c.is_kept.ensures c.is_kept-2.ensures c.if-is_kept.true in record { first = b.0; second = b.1; packed = c.number_for.ensures k }
