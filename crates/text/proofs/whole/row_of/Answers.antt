use mathlib.Core.Path.{◌∙◌, ap, sym}
use Rattle.text.proofs.PackedLaws.{open_of, shut_of}
use Rattle.text.proofs.whole.row_of.Goals as goal
use Rattle.std.specs.Prelude.{Err}

pub returns-then-r-lt64 : goal.returns-then-r-lt64
returns-then-r-lt64 c = ap Err c.refusal_of.ensures ∙ sym (shut_of c.args.r c.if-r-lt64.true)

pub returns : goal.returns
returns c = sym (open_of c.args.r c.if-r-lt64.false)
