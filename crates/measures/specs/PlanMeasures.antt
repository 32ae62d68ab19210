-- What the walk of a plan answers: its measures together.
use Rattle.std.specs.Prelude.{◌≤◌, ℕ, ◌≡◌}
use Rattle.language.specs.Rules.Measures.{first_of, length_of}
use Rattle.language.specs.Rules.Table.{Table}
use Rattle.language.specs.Rules.Tests.{known_in_time, plan_reads}
use Rattle.language.specs.Text.Trees.{Plan}
use Rattle.measures.specs.Magnitudes.{beyond, measured_plan}
use Rattle.measures.specs.Timing.{first_month}
use Rattle.measures.specs.declared.plan.Measures.{Measures}

-- m measures the plan x, whose node may stand in any month from a to z
pub record MeasuresOf (t : Table) (a z : ℕ) (bound : ℕ → ℕ) (x : Plan ℕ) (m : Measures) : Type 0 where
  pub length : m.length ≡ length_of x
  pub first : m.first ≡ first_month (first_of x)
  pub known : m.known ≡ known_in_time x
  pub reads : m.reads ≡ plan_reads t a z x
  pub magnitude : m.magnitude ≡ measured_plan bound x

-- a length that can be added to, and a magnitude as one number
pub record Addable (m : Measures) : Type 0 where
  pub length : m.length ≤ 20_000
  pub magnitude : m.magnitude ≤ beyond
