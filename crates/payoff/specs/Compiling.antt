-- The plan that is compiled, in the node table.
use Rattle.std.specs.Prelude.{ℕ, ℤ, List}
use Rattle.language.specs.Text.Letters.{plan_form}
use Rattle.language.specs.Text.Reader.{text_as_read}
use Rattle.text.specs.ReadInto.{Stands}

-- the first n rows are those of the plan that was read from a text
pub record PlanRows (nodes : List ℤ) (n : ℕ) : Type 0 where
  pub text : List ℕ
  pub read : Stands plan_form (text_as_read plan_form text) nodes n
