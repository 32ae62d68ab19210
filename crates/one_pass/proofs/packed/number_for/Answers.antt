use borrow.Author.Tests.{leb-true}
use mathlib.Core.Path.{◌∙◌, sym}
use native.Mathlib.Omega.{arith}
use borrow.Author.Rules.{rules}
use Rattle.one_pass.proofs.packed.number_for.Goals as goal

pub overflow_mul-result : goal.overflow_mul-result
overflow_mul-result c = record { fits = omega (arith, leb-true c.args.magnitude 9000000000000 (sym c.is_within.ensures ∙ c.if-is_within.true)) }

pub overflow_add-result : goal.overflow_add-result
overflow_add-result c = record { fits = omega (arith, leb-true c.args.magnitude 9000000000000 (sym c.is_within.ensures ∙ c.if-is_within.true), c.requires.0) }

pub overflow_add-result-then-is_within : goal.overflow_add-result-then-is_within
overflow_add-result-then-is_within c = record { fits = omega (arith, leb-true c.args.magnitude 9000000000000 (sym c.is_within.ensures ∙ c.if-is_within.true), c.requires.0, c.requires.1) }
