-- A wait four months at a time: what the four tell of it.
use Prim.Native.Nat.{◌+◌, ◌-◌, ◌<◌, ◌≤◌, suc, zero, ℕ}
use lib.Dec.{T}
use lib.IntN.{◌+ℤ◌, ◌-ℤ◌, negsuc, pos, ℤ}
use lib.Signed.{lt_z, non_neg}
use mathlib.Core.Bool.{Bool, false, true}
use mathlib.Core.List.{List}
use mathlib.Core.Path.{◌∙◌, ◌≡◌, ap, refl, subst, sym}
use mir.Facts.{to_z-of_z}
use mir.Syntax.{w64}
use mir.Val.{SFits}
use native.Mathlib.Omega.{arith}
use Rattle.integers.proofs.Locals.{rd}
use Rattle.integers.proofs.Solver.{◌⊖◌, lit, ring}
use Rattle.integers.proofs.Tests.{lt_false, lt_true}
use Rattle.integers.specs.Bounded.{Small}
use Rattle.language.specs.Payments.Amounts.{holds}
use Rattle.language.specs.Payments.Pays.{hit, tried}
use Rattle.language.specs.Text.Trees.{Test}
use Rattle.nodes.specs.Table.{nat_of}
use Rattle.amounts.proofs.RowReads.{month_is}
use Rattle.amounts.proofs.Waiting.{Later, Waiting, all, later_is, not_order, order, small_month, tried_next, tried_now, until}
use Rattle.amounts.specs.FourMonths.{FourIn, first_that_holds, held_in}
use Rattle.amounts.specs.Fine.{FineTest}
use Rattle.amounts.specs.Flat.{flat}
use Rattle.amounts.specs.Waits.{FineMonths, MonthsIn, wait_of}
use Rattle.amounts.specs.declared.four.Held as four
use Rattle.amounts.specs.declared.wait.Wait.{Wait}
use Rattle.amounts.specs.declared.wait.Wait.TheVariants.{Held}

-- ---- the first of four

pub none_of_four : (h : four.Held) → 4 ≤ first_that_holds h → (j : ℕ) → j < 4 → held_in h j ≡ false
unfolding first_that_holds held_in
none_of_four h l = go h.a h.b h.c h.d l
  where
    go : (a b c d : Bool) → 4 ≤ first_that_holds (record { a = a; b = b; c = c; d = d }) → (j : ℕ) → j < 4 → held_in (record { a = a; b = b; c = c; d = d }) j ≡ false
    go true b c d l j m = absurd (omega arith)
    go false true c d l j m = absurd (omega arith)
    go false false true d l j m = absurd (omega arith)
    go false false false true l j m = absurd (omega arith)
    go false false false false l zero m = refl
    go false false false false l (suc zero) m = refl
    go false false false false l (suc (suc zero)) m = refl
    go false false false false l (suc (suc (suc j))) m = refl

pub first_of_four : (h : four.Held) → first_that_holds h < 4 → (held_in h (first_that_holds h) ≡ true) × ((j : ℕ) → j < first_that_holds h → held_in h j ≡ false)
unfolding first_that_holds held_in
first_of_four h l = go h.a h.b h.c h.d l
  where
    go : (a b c d : Bool) → first_that_holds (record { a = a; b = b; c = c; d = d }) < 4
        → (held_in (record { a = a; b = b; c = c; d = d }) (first_that_holds (record { a = a; b = b; c = c; d = d })) ≡ true)
        × ((j : ℕ) → j < first_that_holds (record { a = a; b = b; c = c; d = d }) → held_in (record { a = a; b = b; c = c; d = d }) j ≡ false)
    go true b c d l = (refl, λ j m. absurd (omega arith))
    go false true c d l = (refl, λ j m. one j m)
      where
        one : (j : ℕ) → j < 1 → held_in (record { a = false; b = true; c = c; d = d }) j ≡ false
        one zero m = refl
        one (suc j) m = absurd (omega arith)
    go false false true d l = (refl, λ j m. two j m)
      where
        two : (j : ℕ) → j < 2 → held_in (record { a = false; b = false; c = true; d = d }) j ≡ false
        two zero m = refl
        two (suc zero) m = refl
        two (suc (suc j)) m = absurd (omega arith)
    go false false false true l = (refl, λ j m. three j m)
      where
        three : (j : ℕ) → j < 3 → held_in (record { a = false; b = false; c = false; d = true }) j ≡ false
        three zero m = refl
        three (suc zero) m = refl
        three (suc (suc zero)) m = refl
        three (suc (suc (suc j))) m = absurd (omega arith)
    go false false false false l = absurd (omega arith)

-- ---- the months from one to a later one

pub months_left : (a b rest : ℤ) → T (non_neg a) → T (non_neg b) → nat_of b ≤ nat_of a → rest ≡ a -ℤ b → T (non_neg rest) × (nat_of rest ≡ nat_of a - nat_of b)
months_left (pos x) (pos y) rest ha hb l q =
    let z : rest ≡ pos (x - y) = q ∙ ring (lit x ⊖ lit y) (lit (x - y)) (omega arith) in
    rw z (tt, refl)
months_left (pos x) (negsuc y) rest ha hb l q = absurd hb
months_left (negsuc x) b rest ha hb l q = absurd ha

-- ---- months in which the test fails are passed

module _ (t : ℕ → Bool) where
  pub tried_past : (k n m : ℕ) → k ≤ n → ((j : ℕ) → j < k → t (m + j) ≡ false) → tried t n m ≡ tried t (n - k) (m + k)
  tried_past zero n m l h =
      let a : n - 0 ≡ n = omega arith in
      let b : m + 0 ≡ m = omega arith in
      rw (a, b) refl
  tried_past (suc k) n m l h =
      let a : n - suc k ≡ n - k - 1 = omega arith in
      let b : m + suc k ≡ m + k + 1 = omega arith in
      tried_past k n m (omega arith) (λ j g. h j (omega arith)) ∙ tried_next t (m + k) (n - k) (omega arith) (h k (omega arith)) ∙ rw (a, b) refl

-- ---- the loop: before the four months from `month` on, `next` the month behind them

module _ (t : ℕ → Bool) (first d last : ℤ) (h : MonthsIn first d) (e : last ≡ first +ℤ d) (month : ℤ) (w : Waiting t first last month)
    (next : ℤ) (en : next ≡ month +ℤ pos 4) (fl : SFits w64 last) (fn : SFits w64 next) where
  after : Later month (pos 4) next
  after = later_is month (pos 4) next w.known tt en

  end : Later first d last
  end = until t first d last h e

  pub last_small : Small last
  last_small = small_month last end.known (omega (arith, end.is, h.within))

  -- fewer than five months are left
  module _ (rest : ℤ) (er : rest ≡ last -ℤ month) where
    pub rest_is : T (non_neg rest) × (nat_of rest ≡ nat_of last - nat_of month)
    rest_is = months_left last month rest end.known w.known w.within er

    pub rest_small : Small (last -ℤ month)
    rest_small = subst Small er (small_month rest rest_is.0 (omega (arith, rest_is.1, end.is, h.within)))

    pub rest_months : MonthsIn month rest
    rest_months = record { first_known = w.known; delay_known = rest_is.0; within = omega (arith, rest_is.1, w.within, end.is, h.within) }

    pub rest_fine : (values : List ℤ) (s : Test ℤ) → FineMonths values (nat_of first) (nat_of d) s → FineMonths values (nat_of month) (nat_of rest) s
    rest_fine values s f = record { fine = λ r l m. f.fine r (omega (arith, w.begun)) (omega (arith, rest_is.1, w.within, end.is)) }

    pub rest_waits : (r : Wait) → r ≡ wait_of (tried t (nat_of rest) (nat_of month)) → r ≡ wait_of (tried t (nat_of d) (nat_of first))
    rest_waits r q = q ∙ ap wait_of (ap (λ n. tried t n (nat_of month)) rest_is.1 ∙ sym (all t first d last h e month w))

  -- four months and one behind them are left
  module _ (el : lt_z (rd last) (rd next) ≡ false) where
    before : nat_of next ≤ nat_of last
    before = not_order last next end.known after.known (rw (to_z-of_z fl, to_z-of_z fn) at el)

    pub four_in : FourIn month
    four_in = record { known = w.known; within = omega (arith, before, after.is, end.is, h.within) }

    pub four_fine : (values : List ℤ) (s : Test ℤ) → FineMonths values (nat_of first) (nat_of d) s → (k : ℕ) → k < 4 → FineTest values (nat_of month + k) s
    four_fine values s f k l = f.fine (nat_of month + k) (omega (arith, w.begun)) (omega (arith, before, after.is, end.is))

    pub falls : nat_of last - nat_of next < nat_of last - nat_of month
    falls = omega (arith, before, after.is)

    -- x is what the four months told, k its first
    module _ (x : four.Held) (hx : (j : ℕ) → j < 4 → held_in x j ≡ t (nat_of month + j)) (k : ℤ) (ek : k ≡ pos (first_that_holds x)) (fk : SFits w64 k) where
      pub again : lt_z (rd k) (pos 4) ≡ false → Waiting t first last next
      again q =
          let l : 4 ≤ first_that_holds x = omega (arith, lt_false (pos (first_that_holds x)) (pos 4) (rw (to_z-of_z fk, ek) at q)) in
          let z : nat_of last - nat_of next ≡ nat_of last - nat_of month - 4 = omega (arith, after.is) in
          record {
            known = after.known;
            begun = omega (arith, w.begun, after.is);
            within = before;
            same = w.same ∙ tried_past t 4 (nat_of last - nat_of month) (nat_of month) (omega (arith, before, after.is)) (λ j m. sym (hx j m) ∙ none_of_four x l j m) ∙ rw (z, after.is) refl;
          }

      module _ (q : lt_z (rd k) (pos 4) ≡ true) where
        fourth : first_that_holds x < 4
        fourth = omega (arith, lt_true (pos (first_that_holds x)) (pos 4) (rw (to_z-of_z fk, ek) at q))

        pub first_small : Small k
        first_small = rw ek (small_month (pos (first_that_holds x)) tt (omega (arith, fourth)))

        pub held : (m : ℤ) → m ≡ month +ℤ k → Held (record { 0 = m }) ≡ wait_of (tried t (nat_of d) (nat_of first))
        held m em =
            let u = first_of_four x fourth in
            let a = later_is month (pos (first_that_holds x)) m w.known tt (em ∙ ap (λ z. month +ℤ z) ek) in
            let v : t (nat_of month + first_that_holds x) ≡ true = sym (hx (first_that_holds x) fourth) ∙ u.0 in
            let p = tried_past t (first_that_holds x) (nat_of last - nat_of month) (nat_of month) (omega (arith, before, after.is, fourth)) (λ j g. sym (hx j (omega (arith, fourth))) ∙ u.1 j g) in
            let r = all t first d last h e month w ∙ p ∙ tried_now t (nat_of month + first_that_holds x) (nat_of last - nat_of month - first_that_holds x) v in
            sym (ap wait_of r ∙ ap (λ z. Held (record { 0 = z })) (ap pos (sym a.is) ∙ sym (month_is m a.known)))
