-- The months of a span as the code adds them.
use lib.IntN.{◌+ℤ◌, nat_abs, pos, ℤ}
use mathlib.Core.Path.{◌∙◌, ◌≡◌, ap, ap₂}
use mir.Facts.{to_z-of_z}
use mir.Syntax.{w64}
use mir.Val.{SFits}
use native.Mathlib.Omega.{arith}
use Rattle.integers.proofs.Laws.{nat_abs_add, sfits64}
use Rattle.integers.proofs.Locals.{rd}
use Rattle.integers.specs.Bounded.{Small}

module _ {f : ℤ} (g : SFits w64 f) (s : Small f) where
  pub one_fits : SFits w64 (rd f +ℤ pos 1)
  one_fits = rw (to_z-of_z g) (sfits64 9_000_000_000_001 (omega (arith, nat_abs_add f (pos 1), s.small)) tt)

  pub one_is : rd (rd f +ℤ pos 1) ≡ f +ℤ pos 1
  one_is = to_z-of_z one_fits ∙ ap (λ z. z +ℤ pos 1) (to_z-of_z g)

module _ {h f : ℤ} (gh : SFits w64 h) (gf : SFits w64 f) (sh : Small h) (sf : Small f) where
  pub two_fit : SFits w64 (rd h +ℤ rd f)
  two_fit = rw (to_z-of_z gh, to_z-of_z gf) (sfits64 18_000_000_000_000 (omega (arith, nat_abs_add h f, sh.small, sf.small)) tt)

  two_is : rd (rd h +ℤ rd f) ≡ h +ℤ f
  two_is = to_z-of_z two_fit ∙ ap₂ ◌+ℤ◌ (to_z-of_z gh) (to_z-of_z gf)

  pub all_fit : SFits w64 (rd (rd h +ℤ rd f) +ℤ pos 1)
  all_fit = rw two_is (sfits64 18_000_000_000_001 (omega (arith, nat_abs_add (h +ℤ f) (pos 1), nat_abs_add h f, sh.small, sf.small)) tt)

  pub all_is : rd (rd (rd h +ℤ rd f) +ℤ pos 1) ≡ (h +ℤ f) +ℤ pos 1
  all_is = to_z-of_z all_fit ∙ ap (λ z. z +ℤ pos 1) two_is
