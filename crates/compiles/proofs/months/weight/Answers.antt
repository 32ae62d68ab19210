use borrow.Author.Rules.{rules}
use Prim.Native.Nat.{◌<◌, ◌^◌, ◌≤◌, suc, ℕ}
use lib.Arith.{lt_of_le-ne}
use lib.IntN.{pos, ℤ}
use mathlib.Core.Path.{◌≡◌, ap, sym}
use native.Mathlib.Omega.{arith}
use Rattle.compiles.proofs.months.weight.Goals as goal

abbrev power : ℕ → ℤ
power s = pos (32 ^ s)

up : (k s : ℕ) → k ≤ s → (s ≡ k → ⊥) → suc k ≤ s
up k s h n = lt_of_le-ne h (λ e. n (sym e))

seven : (s : ℕ) → s < 8 → (s ≡ 0 → ⊥) → (s ≡ 1 → ⊥) → (s ≡ 2 → ⊥) → (s ≡ 3 → ⊥) → (s ≡ 4 → ⊥) → (s ≡ 5 → ⊥) → (s ≡ 6 → ⊥) → s ≡ 7
seven s h n0 n1 n2 n3 n4 n5 n6 =
    let l = up 6 s (up 5 s (up 4 s (up 3 s (up 2 s (up 1 s (up 0 s (omega arith) n0) n1) n2) n3) n4) n5) n6 in
    omega (arith, l)

pub returns-in-0 : goal.returns-in-0
returns-in-0 c =
    sym (ap power c.in-0.is)

pub returns-in-1 : goal.returns-in-1
returns-in-1 c =
    sym (ap power c.in-1.is)

pub returns-in-2 : goal.returns-in-2
returns-in-2 c =
    sym (ap power c.in-2.is)

pub returns-in-3 : goal.returns-in-3
returns-in-3 c =
    sym (ap power c.in-3.is)

pub returns-in-4 : goal.returns-in-4
returns-in-4 c =
    sym (ap power c.in-4.is)

pub returns-in-5 : goal.returns-in-5
returns-in-5 c =
    sym (ap power c.in-5.is)

pub returns-in-6 : goal.returns-in-6
returns-in-6 c =
    sym (ap power c.in-6.is)

pub returns-in_default : goal.returns-in_default
returns-in_default c =
    sym (ap power (seven c.args.s c.requires (search rules) (search rules) (search rules) (search rules) (search rules) (search rules) (search rules)))
