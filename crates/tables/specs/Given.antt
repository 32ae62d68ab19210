-- The settings and the table that a call is given, part by part.
use Rattle.std.specs.Prelude.{List, ℤ}
use Rattle.language.specs.Calls.{Given}
use Rattle.language.specs.Rules.Table.{Table}
use Rattle.tables.specs.declared.given.Given as lent

abbrev pub table_of : ℤ → ℤ → List ℤ → List ℤ → List ℤ → Table
table_of h f factors bounds values = record { h = h; f = f; factors = factors; bounds = bounds; values = values }

abbrev pub given_of : List ℤ → ℤ → ℤ → List ℤ → List ℤ → List ℤ → Given
given_of days h f factors bounds values = record { settings = days; table = table_of h f factors bounds values }

-- the same of the parts as they are lent together
abbrev pub given_in : lent.Given → Given
given_in g = given_of g.days.now g.span.h g.span.f g.factors.now g.bounds.now g.values.now
