use lib.IntN.{◌+ℤ◌, ◌-ℤ◌, pos, ℤ}
use mathlib.Core.Path.{◌∙◌, ◌≡◌, ap}
use mir.Facts.{to_z-of_z}
use native.Mathlib.Omega.{arith}
use Rattle.integers.proofs.Laws.{nat_abs_sub}
use Rattle.integers.proofs.Locals.{rd, value_fits}
use Rattle.integers.proofs.Solver.{◌⊕◌, ◌⊖◌, lit, ring, var}
use Rattle.integers.specs.Bounded.{SmallValue, value_within}
use Rattle.integers.proofs.value_difference.Goals as goal

-- a small value with its sign changed
opposite : {b : ℤ} → SmallValue b → SmallValue (pos 0 -ℤ b)
opposite {b} s = record { small = omega (arith, nat_abs_sub (pos 0) b, s.small) }

reads_back : {b : ℤ} → SmallValue b → rd (pos 0 -ℤ rd b) ≡ pos 0 -ℤ b
reads_back s = rw (to_z-of_z (value_fits s)) (to_z-of_z (value_fits (opposite s)))

pub overflow_sub-b : goal.overflow_sub-b
overflow_sub-b c = let s = c.requires.1 in rw (to_z-of_z (value_fits s)) (value_fits (opposite s))

pub value_sum-requires : goal.value_sum-requires
value_sum-requires c = let p = c.requires in (p.0, rw (reads_back p.1) (opposite p.1))

pub returns : goal.returns
returns c =
    let a = c.args.a.0 in
    let b = c.args.b.0 in
    c.value_sum.ensures ∙ ap value_within (ap (λ z. a +ℤ z) (reads_back c.requires.1) ∙ ring (var a ⊕ (lit 0 ⊖ var b)) (var a ⊖ var b) (omega arith))
