use Rattle.measures.proofs.Firsts as laws
use lib.Dec.{leb}
use mathlib.Core.Path.{◌∙◌, ap₂, sym}
use Rattle.measures.proofs.first.in_time.Goals as goal

pub returns-then-first-eq-NEVER : goal.returns-then-first-eq-NEVER
returns-then-first-eq-NEVER c = λ y x h ey ex. laws.in_time_never y x h (sym ex ∙ c.if-first-eq-NEVER.true)

pub returns : goal.returns
returns c = λ y x h ey ex. ap₂ leb ey ex ∙ laws.in_time_first y x (λ e. c.if-first-eq-NEVER.false (ex ∙ e))
