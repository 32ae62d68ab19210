-- The loop of a wait: what holds before each try.
use Prim.Native.Nat.{◌+◌, ◌-◌, ◌<◌, ◌≤◌, suc, zero, ℕ}
use lib.Dec.{T}
use lib.IntN.{◌+ℤ◌, negsuc, pos, ℤ}
use lib.Signed.{lt_z, non_neg}
use mathlib.Core.Bool.{Bool, false, true}
use mathlib.Core.Path.{◌∙◌, ◌≡◌, ap, refl, sym}
use native.Mathlib.Numerals.{add-one}
use native.Mathlib.Omega.{arith}
use Rattle.integers.proofs.Tests.{lt_false, lt_true}
use Rattle.integers.specs.Bounded.{Small}
use Rattle.language.specs.Payments.Pays.{hit, miss, tried}
use Rattle.nodes.proofs.Signed.{nat_of_known}
use Rattle.nodes.specs.Table.{nat_of}
use Rattle.amounts.proofs.RowReads.{month_is}
use Rattle.amounts.specs.Fine.{MonthIn}
use Rattle.amounts.specs.Waits.{MonthsIn, wait_of}
use Rattle.amounts.specs.declared.wait.Wait.TheVariants.{Held, Missed}

-- ---- one step of the definition

module _ (t : ℕ → Bool) (r : ℕ) where
  pub tried_now : (d : ℕ) → t r ≡ true → tried t d r ≡ hit r
  unfolding tried
  tried_now zero e = rw e
  tried_now (suc d) e = rw e

  tried_last : (d : ℕ) → d ≡ 0 → t r ≡ false → tried t d r ≡ miss r
  unfolding tried
  tried_last d z e = rw (z, e)

  pub tried_next : (d : ℕ) → 0 < d → t r ≡ false → tried t d r ≡ tried t (d - 1) (r + 1)
  unfolding tried
  tried_next zero h e = absurd (omega arith)
  tried_next (suc d) h e =
      let z : suc d - 1 ≡ d = omega arith in
      rw (e, z, add-one)

-- ---- months

pub order : (a b : ℤ) → T (non_neg a) → T (non_neg b) → lt_z a b ≡ true → nat_of a < nat_of b
order (pos a) (pos b) h k e = omega (arith, lt_true (pos a) (pos b) e)
order (pos a) (negsuc b) h k e = absurd k
order (negsuc a) b h k e = absurd h

pub not_order : (a b : ℤ) → T (non_neg a) → T (non_neg b) → lt_z a b ≡ false → nat_of b ≤ nat_of a
not_order (pos a) (pos b) h k e = omega (arith, lt_false (pos a) (pos b) e)
not_order (pos a) (negsuc b) h k e = absurd k
not_order (negsuc a) b h k e = absurd h

pub record Later (first d last : ℤ) : Type 0 where
  pub known : T (non_neg last)
  pub is : nat_of last ≡ nat_of first + nat_of d

pub later_is : (first d last : ℤ) → T (non_neg first) → T (non_neg d) → last ≡ first +ℤ d → Later first d last
later_is (pos a) (pos b) last h k e = rw e (record { known = tt; is = refl })
later_is (pos a) (negsuc b) last h k e = absurd k
later_is (negsuc a) d last h k e = absurd h

pub small_month : (m : ℤ) → T (non_neg m) → nat_of m ≤ 600 → Small m
small_month m h l = record { small = omega (arith, nat_of_known m h) }

-- ---- the loop

-- before the try in `month`
pub record Waiting (t : ℕ → Bool) (first last month : ℤ) : Type 0 where
  pub known : T (non_neg month)
  pub begun : nat_of first ≤ nat_of month
  pub within : nat_of month ≤ nat_of last
  pub same : tried t (nat_of last - nat_of first) (nat_of first) ≡ tried t (nat_of last - nat_of month) (nat_of month)

module _ (t : ℕ → Bool) (first d last : ℤ) (h : MonthsIn first d) (e : last ≡ first +ℤ d) where
  pub until : Later first d last
  until = later_is first d last h.first_known h.delay_known e

  pub start : Waiting t first last first
  start = record { known = h.first_known; begun = omega arith; within = omega (arith, until.is); same = refl }

  module _ (month : ℤ) (w : Waiting t first last month) where
    pub all : tried t (nat_of d) (nat_of first) ≡ tried t (nat_of last - nat_of month) (nat_of month)
    all =
        let z : nat_of d ≡ nat_of last - nat_of first = omega (arith, until.is) in
        rw z w.same

    pub month_in_lem : MonthIn month
    month_in_lem = record { known = w.known; within = omega (arith, nat_of_known month w.known, w.within, until.is, h.within) }

    pub tried_month : nat_of month ≤ nat_of first + nat_of d
    tried_month = omega (arith, w.within, until.is)

    pub month_small : Small month
    month_small = small_month month w.known (omega (arith, tried_month, h.within))

    pub held : t (nat_of month) ≡ true → Held (record { 0 = month }) ≡ wait_of (tried t (nat_of d) (nat_of first))
    held eh =
        let m = month_is month w.known in
        sym (ap wait_of (all ∙ tried_now t (nat_of month) (nat_of last - nat_of month) eh) ∙ ap (λ z. Held (record { 0 = z })) (sym m))

    -- the test fails
    module _ (em : t (nat_of month) ≡ false) where
      pub missed : lt_z month last ≡ false → Missed (record { 0 = last }) ≡ wait_of (tried t (nat_of d) (nat_of first))
      missed el =
          let o = not_order month last w.known until.known el in
          let z : nat_of last - nat_of month ≡ 0 = omega (arith, o) in
          let m : nat_of month ≡ nat_of last = omega (arith, o, w.within) in
          let l : pos (nat_of month) ≡ last = ap pos m ∙ sym (month_is last until.known) in
          sym (ap wait_of (all ∙ tried_last t (nat_of month) (nat_of last - nat_of month) z em) ∙ ap (λ x. Missed (record { 0 = x })) l)

      module _ (el : lt_z month last ≡ true) where
        before : nat_of month < nat_of last
        before = order month last w.known until.known el

        after : Later month (pos 1) (month +ℤ pos 1)
        after = later_is month (pos 1) (month +ℤ pos 1) w.known tt refl

        pub next_small : Small (month +ℤ pos 1)
        next_small = small_month (month +ℤ pos 1) after.known (omega (arith, after.is, before, until.is, h.within))

        pub again : Waiting t first last (month +ℤ pos 1)
        again =
            let z : nat_of last - nat_of (month +ℤ pos 1) ≡ nat_of last - nat_of month - 1 = omega (arith, after.is) in
            record {
              known = after.known;
              begun = omega (arith, w.begun, after.is);
              within = omega (arith, before, after.is);
              same = w.same ∙ tried_next t (nat_of month) (nat_of last - nat_of month) (omega (arith, before)) em ∙ rw (z, after.is);
            }
