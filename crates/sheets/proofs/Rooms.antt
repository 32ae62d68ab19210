-- Lists that a sheet's table is read into: what it says that they hold it.
use Prim.Native.Nat.{◌≤◌, ℕ}
use borrow.Author.Tests.{le-leb, leb-true}
use lib.Dec.{leb}
use mathlib.Core.Bool.{Bool, ◌&&◌, ◌||◌, false, or-true, true, true≢false}
use mathlib.Core.Path.{◌∙◌, ◌≡◌, ap₂, refl, sym}
use native.Mathlib.Omega.{arith}
use Rattle.language.proofs.Truth.{and_e}

-- n numbers in a list of so many places, or of as many as are ever needed
one : (n places most : ℕ) → (a b : Bool) → leb n places ≡ a → leb most places ≡ b → a || b ≡ true → n ≤ most → n ≤ places
one n places most true b e f h k = leb-true n places e
one n places most false true e f h k = omega (arith, leb-true most places f)
one n places most false false e f h k = absurd (true≢false (sym h))

module _ (n months m places : ℕ) where
  pub held : ((leb n months || leb 601 months) && (leb m places || leb 5288 places)) ≡ true → (n ≤ 601 → n ≤ months) × (m ≤ 5288 → m ≤ places)
  held h =
      let a = and_e (leb n months || leb 601 months) (leb m places || leb 5288 places) h in
      (one n months 601 _ _ refl refl a.0, one m places 5288 _ _ refl refl a.1)

  pub crowded : ((leb n months || leb 601 months) && (leb m places || leb 5288 places)) ≡ false → (601 ≤ months) × (5288 ≤ places) → ⊥
  crowded h k =
      true≢false (sym (ap₂ (λ a b. (leb n months || a) && (leb m places || b)) (le-leb 601 months k.0) (le-leb 5288 places k.1) ∙ ap₂ ◌&&◌ (or-true (leb n months)) (or-true (leb m places))) ∙ h)
