use native.Mathlib.Omega.{arith}
use lib.Seq.{length-take-le}
use mathlib.Core.Path.{sym}
use Rattle.outputs.proofs.within.Goals as goal

-- As many bytes as there are, at most.

pub returns-then-bytes-text : goal.returns-then-bytes-text
returns-then-bytes-text c = (omega arith, sym (length-take-le _ _ (omega arith)))

pub returns-else-bytes-text : goal.returns-else-bytes-text
returns-else-bytes-text c = (omega arith, sym (length-take-le _ _ (omega arith)))
