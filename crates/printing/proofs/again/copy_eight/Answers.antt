use borrow.Author.Rules.{rules}
use lib.ListN.{length-set}
use native.Mathlib.Omega.{arith}
use Rattle.printing.proofs.Copying.{eight_copied}
use Rattle.printing.proofs.again.copy_eight.Goals as goal

pub bounds-out-to-2 : goal.bounds-out-to-2
bounds-out-to-2 c = simp length-set (omega arith)

pub bounds-out-to-3 : goal.bounds-out-to-3
bounds-out-to-3 c = simp length-set (omega arith)

pub bounds-out-to-4 : goal.bounds-out-to-4
bounds-out-to-4 c = simp length-set (omega arith)

pub bounds-out-to-5 : goal.bounds-out-to-5
bounds-out-to-5 c = simp length-set (omega arith)

pub bounds-out-to-6 : goal.bounds-out-to-6
bounds-out-to-6 c = simp length-set (omega arith)

pub bounds-out-to-7 : goal.bounds-out-to-7
bounds-out-to-7 c = simp length-set (omega arith)

pub bounds-out-to-8 : goal.bounds-out-to-8
bounds-out-to-8 c = simp length-set (omega arith)

pub shape_of-out : goal.shape_of-out
shape_of-out c = simp length-set

pub returns : goal.returns
returns c =
    eight_copied c.args.out.now c.args.to c.args.from (omega (arith, c.requires.0, c.requires.1))
