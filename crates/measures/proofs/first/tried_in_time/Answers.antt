use Rattle.measures.proofs.Firsts as laws
use lib.Dec.{eqb}
use mathlib.Core.Path.{◌∙◌, ap}
use Rattle.measures.proofs.first.tried_in_time.Goals as goal

pub returns : goal.returns
returns c = λ y ey. ap (λ n. eqb n 0) ey ∙ laws.in_time_tried y
