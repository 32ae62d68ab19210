-- The sums from each month on, formed from the last month back.
use Prim.Native.Nat.{◌+◌, ◌-◌, ◌<◌, ◌≤◌, suc, zero, ℕ}
use lib.Dec.{T, eqb, eqb_refl, eqb→eq}
use lib.IntN.{◌*ℤ◌, ◌+ℤ◌, pos, ℤ}
use lib.ListN.{get_or, length, length-set, set}
use lib.Seq.{get_or-set_other, get_or-set_same}
use mathlib.Core.Bool.{Bool, false, true}
use mathlib.Core.List.{List}
use mathlib.Core.Logic.{◌≢◌}
use mathlib.Core.Path.{◌∙◌, ◌≡◌, ap, ap₂, refl, subst, sym}
use native.Mathlib.Omega.{arith}
use Rattle.columns.specs.Remaining.{SumsFit, due_of, rest_from}
use Rattle.integers.proofs.Solver.{◌⊕◌, lit, ring, var}
use Rattle.integers.specs.Bounded.{SmallValue}
use Rattle.language.proofs.Payments.Sums.{sum_cong, sum_split}
use Rattle.language.specs.Payments.Pays.{sum_over}

module _ (factors column : List ℤ) where
  one : (m : ℕ) → sum_over 1 (λ j. due_of factors column (m + j)) ≡ due_of factors column m
  unfolding sum_over
  one m =
      let e : m + 0 ≡ m = omega arith in
      ring (lit 0 ⊕ var (due_of factors column (m + 0))) (var (due_of factors column (m + 0))) (omega arith) ∙ ap (due_of factors column) e

  pub nothing_left : (months : ℕ) → pos 0 ≡ rest_from factors column months months
  unfolding sum_over
  nothing_left months = let e : months - months ≡ zero = omega arith in rw e refl

  pub rest_first : (months m : ℕ) → m < months → rest_from factors column months m ≡ due_of factors column m +ℤ rest_from factors column months (suc m)
  rest_first months m h =
      let e : months - m ≡ 1 + (months - suc m) = omega arith in
      ap (λ n. sum_over n (λ j. due_of factors column (m + j))) e
      ∙ sum_split 1 (months - suc m) (λ j. due_of factors column (m + j))
      ∙ ap₂ ◌+ℤ◌ (one m) (sum_cong (months - suc m) _ _ (λ j l. let k : m + (1 + j) ≡ suc m + j = omega arith in ap (due_of factors column) k))

  pub due_fits : {months : ℕ} → SumsFit factors column months → (m : ℕ) → m < months → SmallValue (due_of factors column m)
  due_fits s m h =
      let e : suc m - m ≡ 1 = omega arith in
      rw (ap (λ n. sum_over n (λ j. due_of factors column (m + j))) e ∙ one m) at (s.fit (suc m) m (omega arith))

  -- the months from m on are done
  pub record Backed (months : ℕ) (before rest : List ℤ) (sum : ℤ) (m : ℕ) : Type 0 where
    pub size : length rest ≡ length before
    pub inside : m ≤ months
    pub is : sum ≡ rest_from factors column months m
    pub each : (k : ℕ) → m ≤ k → k < months → get_or rest k (pos 0) ≡ rest_from factors column months k

  pub backed_start : (months : ℕ) (rest : List ℤ) → Backed months rest rest (pos 0) months
  backed_start months rest = record { size = refl; inside = omega arith; is = nothing_left months; each = λ k h l. absurd (omega arith) }

  module _ {months : ℕ} {before rest : List ℤ} {sum : ℤ} {m : ℕ} (b : Backed months before rest sum m) (some : 0 < m) where
    -- the month that comes next
    grown : {next due : ℤ} → due ≡ due_of factors column (m - 1) → next ≡ due +ℤ sum → next ≡ rest_from factors column months (m - 1)
    grown {next} {due} ed en =
        let e : suc (m - 1) ≡ m = omega arith in
        en ∙ ap₂ ◌+ℤ◌ ed (b.is ∙ ap (rest_from factors column months) (sym e)) ∙ sym (rest_first months (m - 1) (omega (arith, b.inside)))

    pub sum_in : SumsFit factors column months → {due : ℤ} → due ≡ due_of factors column (m - 1) → SmallValue (due +ℤ sum)
    sum_in s {due} ed = rw (grown {due = due} ed refl) (s.fit months (m - 1) (omega arith))

    pub backed_next : months ≤ length before → {next due : ℤ} → due ≡ due_of factors column (m - 1) → next ≡ due +ℤ sum → {x : ℤ} → x ≡ next
        → Backed months before (set rest (m - 1) x) next (m - 1)
    backed_next room {next} {due} ed en {x} ex = record {
      size = length-set rest (m - 1) x ∙ b.size;
      inside = omega (arith, b.inside);
      is = grown ed en;
      each = λ k h l. by k h l (eqb k (m - 1)) refl;
    }
      where
        by : (k : ℕ) → m - 1 ≤ k → k < months → (t : Bool) → eqb k (m - 1) ≡ t → get_or (set rest (m - 1) x) k (pos 0) ≡ rest_from factors column months k
        by k h l true c =
            let e : k ≡ m - 1 = eqb→eq k (m - 1) (subst T (sym c) tt) in
            ap (λ i. get_or (set rest (m - 1) x) i (pos 0)) e ∙ get_or-set_same rest (m - 1) x (pos 0) (omega (arith, b.size, b.inside, room)) ∙ ex ∙ grown ed en
            ∙ ap (rest_from factors column months) (sym e)
        by k h l false c =
            let n : k ≢ (m - 1) = λ e. subst T c (subst (λ i. T (eqb i (m - 1))) (sym e) (eqb_refl (m - 1))) in
            get_or-set_other rest (m - 1) k x (pos 0) n ∙ b.each k (omega (arith, n)) l
