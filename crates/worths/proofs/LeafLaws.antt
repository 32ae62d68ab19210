-- What a leaf is worth, as the code finds it.
use Prim.Native.Nat.{◌+◌, ◌<◌, ◌≤◌}
use borrow.Author.Tests.{leb-true}
use lib.Dec.{T, leb}
use lib.IntN.{◌*ℤ◌, ◌+ℤ◌, nat_abs, negsuc, pos, ℤ}
use lib.ListN.{get_or, length}
use lib.Signed.{lt_z, non_neg}
use mathlib.Core.Bool.{Bool, false, false≢true, true}
use mathlib.Core.List.{List}
use mathlib.Core.Path.{◌∙◌, ◌≡◌, ap, ap₂, refl, sym}
use mir.Facts.{to_z-of_z}
use mir.Syntax.{w64}
use mir.Val.{SFits}
use native.Mathlib.Nat.{mul-le-mul}
use native.Mathlib.Omega.{arith}
use Rattle.amounts.proofs.RowReads.{month_is}
use Rattle.checked.specs.Ranges.{Near, Waited}
use Rattle.integers.proofs.Laws.{nat_abs_add, nat_abs_mul, sfits64}
use Rattle.integers.proofs.Locals.{rd}
use Rattle.integers.proofs.Solver.{◌⊗◌, ring, var}
use Rattle.integers.specs.Bounded.{SmallValue}
use Rattle.language.proofs.Payoff.Evaluate.{in_range_lem}
use Rattle.language.proofs.Truth.{and_e}
use Rattle.language.specs.Answer.{got, refused}
use Rattle.language.specs.Limits.{max_value, one_factor}
use Rattle.language.specs.Text.Number.{between}
use Rattle.nodes.specs.Table.{nat_of}
use Rattle.worths.specs.Leaf.{leaf_in}
use Rattle.worths.specs.Ranges.{Payable}

-- the leaf's number i and w months waited, as the code adds them
pub code_month : {x w m i : ℤ} → m ≡ x +ℤ w → x ≡ i → Waited w → m ≡ i +ℤ pos (nat_of w)
code_month {x} {w} em ex h = em ∙ ap₂ ◌+ℤ◌ ex (month_is w h.known)

pub month_fits : {w m i : ℤ} → m ≡ i +ℤ pos (nat_of w) → Near i → Waited w → SFits w64 m
month_fits {w} {m} {i} e n h = sfits64 57_000 (rw e (omega (arith, nat_abs_add i (pos (nat_of w)), n.near, h.within))) tt

-- the test of a month, as the code makes it
pub month_tested : {f c m : ℤ} {r b : Bool} → SFits w64 f → SFits w64 c → c ≡ m → r ≡ between (pos 0) (rd f) (rd c) → r ≡ b → between (pos 0) f m ≡ b
month_tested {f} {c} {m} ff fc e er eb = ap₂ (λ x y. between (pos 0) x y) (sym (to_z-of_z ff)) (sym (to_z-of_z fc ∙ e)) ∙ sym er ∙ eb

in-months : (f m : ℤ) (factors : List ℤ) → T (non_neg f) → length factors ≡ nat_abs f + 1 → between (pos 0) f m ≡ true → T (non_neg m) × (nat_abs m < length factors)
in-months (pos a) (pos n) factors h c e = (tt, omega (arith, leb-true n a (and_e (leb 0 n) (leb n a) e).1))
in-months (pos a) (negsuc n) factors h c e = absurd (false≢true e)
in-months (negsuc a) m factors h c e = absurd h

module _ (f : ℤ) (factors : List ℤ) (h : Payable f factors) (start m sign : ℤ) where
  -- c is the month as the code has it
  pub factor_in : between (pos 0) f m ≡ true → {c : ℤ} → c ≡ m → T (non_neg c) × (nat_abs c < length factors)
  factor_in b e = rw e (in-months f m factors h.known h.count b)

  abbrev value : ℤ
  value = get_or factors (nat_abs m) (pos 0) *ℤ sign

  module _ (one : nat_abs sign ≤ 1) where
    value_near : nat_abs value ≤ max_value
    value_near =
        let g : ℤ = get_or factors (nat_abs m) (pos 0) in
        let b = mul-le-mul {n₁ = nat_abs g} {m₁ = nat_abs sign} {n₂ = one_factor} {m₂ = 1} (h.small (nat_abs m)) one in
        omega (arith, nat_abs_mul g sign)

    module _ {c s v : ℤ} (ec : c ≡ m) (es : s ≡ sign) (ev : v ≡ get_or factors (nat_abs c) (pos 0)) where
      product_is : s *ℤ v ≡ value
      product_is = ap₂ ◌*ℤ◌ es (ev ∙ ap (λ z. get_or factors (nat_abs z) (pos 0)) ec) ∙ ring (var sign ⊗ var (get_or factors (nat_abs m) (pos 0))) (var (get_or factors (nat_abs m) (pos 0)) ⊗ var sign) (omega arith)

      pub product_small : SmallValue (s *ℤ v)
      product_small = record { small = rw product_is value_near }

      pub paid : between (pos 0) f m ≡ true → lt_z m start ≡ false → {r : ℤ} → r ≡ s *ℤ v → got r ≡ leaf_in f factors start m sign
      unfolding leaf_in
      paid b l er = rw (b, l) (ap got (er ∙ product_is) ∙ sym (in_range_lem max_value value value_near))

  pub cut_off : between (pos 0) f m ≡ true → lt_z m start ≡ true → got (pos 0) ≡ leaf_in f factors start m sign
  unfolding leaf_in
  cut_off b l = rw (b, l) (sym (in_range_lem max_value (pos 0) (omega arith)))

  pub out_of_table : between (pos 0) f m ≡ false → refused 11 ≡ leaf_in f factors start m sign
  unfolding leaf_in
  out_of_table b = rw b refl
