-- Sorted settings come back from their digits in base 32.
use Prim.Native.Nat.{◌%◌, ◌*◌, ◌+◌, ◌-◌, ◌/◌, ◌<◌, ◌^◌, ◌≤◌, suc, zero, ℕ}
use lib.ListN.{length, length-append, length-replicate, replicate}
use mathlib.Core.List.{List, [], ◌++◌, ◌∷◌}
use mathlib.Core.Path.{◌∙◌, ◌≡◌, ap, refl, sym}
use native.Mathlib.Decide.{dec_lt}
use native.Mathlib.Nat.{pow-suc}
use native.Mathlib.Omega.{arith}
use Rattle.language.specs.Text.PayoffForm.{Sorted, none_below}
use Rattle.nodes.specs.Rows.{settings_from, settings_in, settings_slot}

-- the digits, that of Pk the last
digits_from : ℕ → List ℕ → ℕ
digits_from k [] = 0
digits_from k (j ∷ js) = 32 ^ (j - k) + digits_from k js

from_zero : (ks : List ℕ) → settings_slot ks ≡ digits_from 0 ks
unfolding settings_slot digits_from
from_zero [] = refl
from_zero (j ∷ js) = let e : j - 0 ≡ j = omega arith in rw (e, from_zero js)

none_below_less : (s t : ℕ) (ks : List ℕ) → s ≤ t → none_below t ks → none_below s ks
unfolding none_below
none_below_less s t [] h b = tt
none_below_less s t (j ∷ js) h b = (omega (arith, b.0), none_below_less s t js h b.1)

none_below_zero : (ks : List ℕ) → none_below 0 ks
unfolding none_below
none_below_zero [] = tt
none_below_zero (j ∷ js) = (omega arith, none_below_zero js)

-- without the last digit
lifted : (k : ℕ) (ks : List ℕ) → none_below (suc k) ks → digits_from k ks ≡ 32 * digits_from (suc k) ks
unfolding digits_from none_below
lifted k [] b = omega arith
lifted k (j ∷ js) b =
    let e : j - k ≡ suc (j - suc k) = omega (arith, b.0) in
    let p : 32 ^ (j - k) ≡ 32 ^ (j - suc k) * 32 = ap (λ (i : ℕ). 32 ^ i) e ∙ pow-suc 32 (j - suc k) in
    omega (arith, lifted k js b.1)

-- the settings Pk in front, and the others
record Front (k : ℕ) (ks : List ℕ) : Type 0 where
  count : ℕ
  rest : List ℕ
  is : ks ≡ replicate count k ++ rest
  above : none_below (suc k) rest
  sorted : Sorted rest
  digits : digits_from k ks ≡ count + 32 * digits_from (suc k) rest

front : (k : ℕ) (ks : List ℕ) → none_below k ks → Sorted ks → Front k ks
unfolding none_below Sorted digits_from
front k [] b s = record { count = 0; rest = []; is = refl; above = tt; sorted = tt; digits = omega arith }
front k (j ∷ js) b s = by (dec_lt k j) (front k js b.1 s.2)
  where
    by : Dec (k < j) → Front k js → Front k (j ∷ js)
    by (yes l) f =
        let a : none_below (suc k) (j ∷ js) = (omega arith, none_below_less (suc k) j js (omega arith) s.1) in
        record { count = 0; rest = j ∷ js; is = refl; above = a; sorted = s; digits = omega (arith, lifted k (j ∷ js) a) }
    by (no l) f =
        let e : j ≡ k = omega (arith, b.0) in
        record {
          count = suc f.count;
          rest = f.rest;
          is = rw e (ap (λ (t : List ℕ). k ∷ t) f.is);
          above = f.above;
          sorted = f.sorted;
          digits = (let z : j - k ≡ 0 = omega arith in rw z (omega (arith, f.digits)));
        }

back : (n k : ℕ) (ks : List ℕ) → k + n ≡ 8 → none_below k ks → Sorted ks → length ks ≤ 31 → settings_from n k (digits_from k ks) ≡ ks
unfolding settings_from none_below Sorted
back zero k [] e b s l = refl
back zero k (j ∷ js) e b s l = absurd (omega (arith, b.0, s.0))
back (suc n) k ks e b s l = by (front k ks b s) (λ js g m. back n (suc k) js (omega arith) g.0 g.1 m)
  where
    by : Front k ks → ((js : List ℕ) → none_below (suc k) js × Sorted js → length js ≤ 31 → settings_from n (suc k) (digits_from (suc k) js) ≡ js) → settings_from (suc n) k (digits_from k ks) ≡ ks
    by f ih =
        let c = ap length f.is in
        let m = length-append (replicate f.count k) f.rest in
        let r = length-replicate f.count k in
        let p : digits_from k ks % 32 ≡ f.count = omega (arith, f.digits) in
        let q : digits_from k ks / 32 ≡ digits_from (suc k) f.rest = omega (arith, f.digits) in
        rw (p, q, ih f.rest (f.above, f.sorted) (omega arith)) (sym f.is)

pub settings_back : (ks : List ℕ) → Sorted ks → length ks ≤ 31 → settings_in (settings_slot ks) ≡ ks
settings_back ks s l = rw (from_zero ks) (back 8 0 ks refl (none_below_zero ks) s l)
