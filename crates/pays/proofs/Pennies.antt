-- What one penny counts for a pair, by tests of whole numbers, and how code finds it.
use Prim.Native.Nat.{◌<◌}
use borrow.Author.Tests.{eq-eqb, ne_eqb}
use lib.Dec.{T, eqb}
use lib.IntN.{*ℤ-zero, ◌*ℤ◌, nat_abs, negsuc, pos, ℤ}
use lib.Signed.{non_neg}
use mathlib.Core.Bool.{Bool, ◌&&◌, cond, false, true}
use mathlib.Core.Path.{◌∙◌, ◌≡◌, ap, ap₂, refl, sym}
use mir.Facts.{to_z-of_z}
use mir.Syntax.{w64}
use mir.Val.{SFits, of_z, to_z}
use native.Mathlib.Omega.{arith}
use Rattle.amounts.specs.Fine.{MonthIn}
use Rattle.integers.proofs.Bits.{same_bits}
use Rattle.integers.specs.Equal.{eq_z}
use Rattle.language.specs.Payments.Pays.{sign_for}
use Rattle.nodes.specs.Table.{nat_of}
use Rattle.pays.specs.Parties.{PairIn}

-- ---- equal bits

bits_equal : {a b : ℤ} → SFits w64 a → SFits w64 b → of_z w64 a ≡ of_z w64 b → eq_z a b ≡ true
bits_equal {a} {b} f g e = sym (same_bits a b f g) ∙ eq-eqb _ _ e

bits_differ : {a b : ℤ} → SFits w64 a → SFits w64 b → (of_z w64 a ≡ of_z w64 b → ⊥) → eq_z a b ≡ false
bits_differ {a} {b} f g e = sym (same_bits a b f g) ∙ ne_eqb _ _ e

-- what is nothing makes nothing of an amount
pub nothing_of_nothing : {x : ℤ} → SFits w64 x → of_z w64 x ≡ of_z w64 (pos 0) → (a : ℤ) → pos 0 ≡ a *ℤ x
nothing_of_nothing f e a = sym (ap (λ x. a *ℤ x) (sym (to_z-of_z f) ∙ ap (to_z w64) e) ∙ *ℤ-zero a)

-- ---- parties

-- a number x is the party p: one below zero counts as 0, which is no party
is_party : (x p : ℤ) → 0 < nat_of p → eqb (nat_of x) (nat_abs p) ≡ eq_z x p
is_party (pos n) (pos m) h = refl
is_party (pos n) (negsuc m) h = absurd (omega arith)
is_party (negsuc n) (pos m) h = ne_eqb 0 m (λ e. omega arith)
is_party (negsuc n) (negsuc m) h = absurd (omega arith)

same_party : (p q : ℤ) → 0 < nat_of p → 0 < nat_of q → eqb (nat_abs p) (nat_abs q) ≡ eq_z p q
same_party (pos n) (pos m) h k = refl
same_party (pos n) (negsuc m) h k = absurd (omega arith)
same_party (negsuc n) q h k = absurd (omega arith)

-- months
same_month : (r m : ℤ) → T (non_neg r) → T (non_neg m) → eqb (nat_of r) (nat_of m) ≡ eq_z r m
same_month (pos n) (pos m) h k = refl
same_month (pos n) (negsuc m) h k = absurd k
same_month (negsuc n) m h k = absurd h

-- a penny y in the month of the plan's root
module _ {r m : ℤ} (f : SFits w64 r) (g : SFits w64 m) (h : MonthIn r) (k : MonthIn m) where
  pub in_root : of_z w64 r ≡ of_z w64 m → {x y : ℤ} → x ≡ y → x ≡ cond (eqb (nat_of r) (nat_of m)) y (pos 0)
  in_root e ex = rw (same_month r m h.known k.known, bits_equal f g e) ex

  pub not_in_root : (y : ℤ) → (of_z w64 r ≡ of_z w64 m → ⊥) → pos 0 ≡ cond (eqb (nat_of r) (nat_of m)) y (pos 0)
  not_in_root y e = rw (same_month r m h.known k.known, bits_differ f g e)

-- ---- the sign, by tests s of p and q, t of both in order, u of both turned round
abbrev sign_by : Bool → Bool → Bool → ℤ
sign_by s t u = cond s (pos 0) (cond t (pos 1) (cond u (negsuc 0) (pos 0)))

-- a penny from party u to party v
module _ {p q u v : ℤ} (h : PairIn p q) (fp : SFits w64 p) (fq : SFits w64 q) (fu : SFits w64 u) (fv : SFits w64 v) where
  abbrev sign : ℤ
  sign = sign_for (nat_abs p) (nat_abs q) (nat_of u) (nat_of v)

  sign_is : sign ≡ sign_by (eq_z p q) (eq_z u p && eq_z v q) (eq_z u q && eq_z v p)
  unfolding sign_for
  sign_is = rw (same_party p q h.first h.second, is_party u p h.first, is_party v q h.second, is_party u q h.second, is_party v p h.first)

  abbrev bits : ℤ → ℤ → Bool
  bits a b = eqb (of_z w64 a) (of_z w64 b)

  here_bits : bits u p && bits v q ≡ eq_z u p && eq_z v q
  here_bits = ap₂ ◌&&◌ (same_bits u p fu fp) (same_bits v q fv fq)

  round_bits : bits u q && bits v p ≡ eq_z u q && eq_z v p
  round_bits = ap₂ ◌&&◌ (same_bits u q fu fq) (same_bits v p fv fp)

  pub one_party : of_z w64 p ≡ of_z w64 q → pos 0 ≡ sign
  one_party e = sym (sign_is ∙ ap (λ s. sign_by s (eq_z u p && eq_z v q) (eq_z u q && eq_z v p)) (bits_equal fp fq e))

  module _ (d : of_z w64 p ≡ of_z w64 q → ⊥) where
    apart : sign ≡ sign_by false (eq_z u p && eq_z v q) (eq_z u q && eq_z v p)
    apart = sign_is ∙ ap (λ s. sign_by s (eq_z u p && eq_z v q) (eq_z u q && eq_z v p)) (bits_differ fp fq d)

    pub from_first : bits u p && bits v q ≡ true → pos 1 ≡ sign
    from_first e = sym (apart ∙ ap (λ t. sign_by false t (eq_z u q && eq_z v p)) (sym here_bits ∙ e))

    module _ (n : bits u p && bits v q ≡ false) where
      not_first : (b : Bool) → bits u q && bits v p ≡ b → sign ≡ sign_by false false b
      not_first b e = apart ∙ ap₂ (λ t s. sign_by false t s) (sym here_bits ∙ n) (sym round_bits ∙ e)

      pub from_second : bits u q && bits v p ≡ true → negsuc 0 ≡ sign
      from_second e = sym (not_first true e)

      pub between_others : bits u q && bits v p ≡ false → pos 0 ≡ sign
      between_others e = sym (not_first false e)

-- the same of the numbers x and y that stand in a row, read as u and v
pub of_row : (p q : ℤ) {u v x y r : ℤ} → SFits w64 u → SFits w64 v → u ≡ x → v ≡ y
    → r ≡ sign_for (nat_abs p) (nat_abs q) (nat_of (to_z w64 (of_z w64 u))) (nat_of (to_z w64 (of_z w64 v))) → r ≡ sign_for (nat_abs p) (nat_abs q) (nat_of x) (nat_of y)
of_row p q fu fv eu ev e = e ∙ ap₂ (λ x y. sign_for (nat_abs p) (nat_abs q) (nat_of x) (nat_of y)) (to_z-of_z fu ∙ eu) (to_z-of_z fv ∙ ev)
