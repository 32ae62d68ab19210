use borrow.Author.Tests.{leb-true}
use mathlib.Core.Path.{◌∙◌, sym}
use Rattle.measures.proofs.plan.test_of.Goals as goal

pub returns-then-is_within : goal.returns-then-is_within
returns-then-is_within c = sym (c.requires.1 (leb-true _ _ (sym c.is_within.ensures ∙ c.if-is_within.true)))
