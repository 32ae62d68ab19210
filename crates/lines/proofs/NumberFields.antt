-- The numbers of a line, field by field.
use Prim.Native.Nat.{◌+◌, ◌<◌, ◌≤◌, suc, zero, ℕ}
use borrow.Author.Tests.{le-leb, lt-leb}
use lib.IntN.{nat_abs, pos, ℤ}
use lib.ListN.{drop, length, length-append, length-set, set, take}
use mathlib.Core.List.{List, [], ◌++◌, ◌∷◌, append_assoc, append-nil}
use mathlib.Core.Option.{Option, none, some}
use mathlib.Core.Path.{◌∙◌, ◌≡◌, ap, refl, sym}
use native.Mathlib.Omega.{arith}
use Rattle.fields.proofs.Positions.{first_field, from_behind, up_fits}
use Rattle.fields.specs.Numbers.{BeyondZ, Signed}
use Rattle.fields.specs.Positions.{fields_from, up_to}
use Rattle.language.specs.Answer.{Answer, ◌>>=◌, got, refused}
use Rattle.language.specs.Limits.{max_amount}
use Rattle.language.specs.Sheet.{numbers, sheet_number}
use Rattle.language.specs.Text.Number.{read_number}
use Rattle.lines.specs.Numbers.{First, Short, Stored}

-- ---- one field
module _ (line : List ℕ) (place : ℕ) (h : place ≤ length line) where
  abbrev field : List ℕ
  field = up_to 44 (drop place line)

  pub number_is : {z : ℤ} {end : ℕ} → Signed field place z end → numbers (fields_from line place) ≡ (numbers (fields_from line (end + 1)) >>= λ more. got (z ∷ more))
  unfolding numbers
  number_is {z} {end} s =
      let e : place + (length field + 1) ≡ end + 1 = omega (arith, s.ends) in
      ap numbers (first_field line place h) ∙ ap (λ k. numbers (field ∷ fields_from line k)) e ∙ rw (s.is, le-leb (nat_abs z) max_amount s.small) refl

  pub number_inside : {z : ℤ} {end : ℕ} → Signed field place z end → (place ≤ end) × (end ≤ length line)
  number_inside s = (omega (arith, s.ends), omega (arith, s.ends, up_fits 44 line place h))

  pub number_bad : BeyondZ (read_number field) → numbers (fields_from line place) ≡ refused 2
  unfolding numbers
  number_bad b = ap numbers (first_field line place h) ∙ go (read_number field) (numbers (fields_from line (place + (length field + 1)))) b
    where
      go : (o : Option ℤ) (A : Answer (List ℤ)) → BeyondZ o → (sheet_number o >>= λ z. A >>= λ more. got (z ∷ more)) ≡ refused 2
      go none A b = refl
      go (some z) A b = rw (lt-leb (nat_abs z) max_amount b) refl

pub no_numbers : (line : List ℕ) (place : ℕ) → length line < place → numbers (fields_from line place) ≡ got []
unfolding numbers
no_numbers line place h = ap numbers (from_behind line place h)

-- ---- all of them

-- a number behind those that are there
pub take_next : (l : List ℤ) (k : ℕ) (v : ℤ) → k < length l → take (suc k) (set l k v) ≡ take k l ++ (v ∷ [])
take_next [] k v h = absurd (omega arith)
take_next (x ∷ xs) zero v h = refl
take_next (x ∷ xs) (suc k) v h = ap (λ l. x ∷ l) (take_next xs k v (omega arith))

pub record Going (line : List ℕ) (at : ℕ) (before : List ℤ) (from : ℕ) (into : List ℤ) (place n : ℕ) : Type 0 where
  pub done : List ℤ
  pub is : numbers (fields_from line at) ≡ (numbers (fields_from line place) >>= λ more. got (done ++ more))
  pub count : length done ≡ n
  pub size : length into ≡ length before
  pub holds : from + n ≤ length before → take (from + n) into ≡ take from before ++ done
  pub inside : place ≤ length line + 1
  pub few : n ≤ place

module _ {line : List ℕ} {at : ℕ} {before : List ℤ} {from : ℕ} where
  pub going_start : at ≤ length line + 1 → Going line at before from before at 0
  going_start h = record {
    done = [];
    is = go (numbers (fields_from line at));
    count = refl;
    size = refl;
    holds = λ r. let e : from + 0 ≡ from = omega arith in rw e (sym (append-nil (take from before)));
    inside = h;
    few = omega arith;
  }
    where
      go : (A : Answer (List ℤ)) → A ≡ (A >>= λ more. got more)
      go (got l) = refl
      go (refused k) = refl

  module _ {into : List ℤ} {place n : ℕ} (g : Going line at before from into place n) where
    pub going_bad : numbers (fields_from line place) ≡ refused 2 → numbers (fields_from line at) ≡ refused 2
    going_bad e = g.is ∙ rw e refl

    pub going_over : length line < place → Stored line at before into from n
    going_over h = record {
      read = g.done;
      is = g.is ∙ rw (no_numbers line place h) (ap got (append-nil g.done));
      count = g.count;
      holds = g.holds;
      bounded = omega (arith, g.inside, g.few);
    }

    module _ {z : ℤ} {end : ℕ} (h : place ≤ length line) (s : Signed (up_to 44 (drop place line)) place z end) where
      now_is : numbers (fields_from line at) ≡ (numbers (fields_from line (end + 1)) >>= λ more. got ((g.done ++ (z ∷ [])) ++ more))
      now_is = g.is ∙ rw (number_is line place h s) (go (numbers (fields_from line (end + 1))))
        where
          go : (A : Answer (List ℤ)) → ((A >>= λ more. got (z ∷ more)) >>= λ more. got (g.done ++ more)) ≡ (A >>= λ more. got ((g.done ++ (z ∷ [])) ++ more))
          go (got l) = ap got (sym (append_assoc g.done (z ∷ []) l))
          go (refused k) = refl

      longer : length (g.done ++ (z ∷ [])) ≡ n + 1
      longer = length-append g.done (z ∷ []) ∙ omega (arith, g.count)

      pub going_kept : {v : ℤ} → v ≡ z → from + n < length into → Going line at before from (set into (from + n) v) (end + 1) (n + 1)
      going_kept {v} ev l = record {
        done = g.done ++ (z ∷ []);
        is = now_is;
        count = longer;
        size = length-set into (from + n) v ∙ g.size;
        holds = λ r.
            let e : from + (n + 1) ≡ suc (from + n) = omega arith in
            rw e (take_next into (from + n) v l ∙ ap (λ w. take (from + n) into ++ (w ∷ [])) ev ∙ ap (λ t. t ++ (z ∷ [])) (g.holds (omega arith)) ∙ append_assoc (take from before) g.done (z ∷ []));
        inside = omega (arith, (number_inside line place h s).1);
        few = omega (arith, g.few, (number_inside line place h s).0);
      }

      pub going_full : length into ≤ from + n → Going line at before from into (end + 1) (n + 1)
      going_full l = record {
        done = g.done ++ (z ∷ []);
        is = now_is;
        count = longer;
        size = g.size;
        holds = λ r. absurd (omega (arith, g.size));
        inside = omega (arith, (number_inside line place h s).1);
        few = omega (arith, g.few, (number_inside line place h s).0);
      }

-- ---- the first two
module _ (line : List ℕ) (at : ℕ) where
  pub none_there : length line < at → Short (numbers (fields_from line at))
  none_there h = rw (no_numbers line at h) tt

  module _ (h : at ≤ length line) where
    pub first_bad : BeyondZ (read_number (up_to 44 (drop at line))) → Short (numbers (fields_from line at))
    first_bad b = rw (number_bad line at h b) refl

    module _ {a : ℤ} {end : ℕ} (s : Signed (up_to 44 (drop at line)) at a end) where
      pub one_alone : length line < end + 1 → Short (numbers (fields_from line at))
      one_alone l = rw (number_is line at h s, no_numbers line (end + 1) l) tt

      module _ (i : end + 1 ≤ length line) where
        pub second_bad : BeyondZ (read_number (up_to 44 (drop (end + 1) line))) → Short (numbers (fields_from line at))
        second_bad b = rw (number_is line at h s, number_bad line (end + 1) i b) refl

        pub both_there : {b : ℤ} {stop : ℕ} → Signed (up_to 44 (drop (end + 1) line)) (end + 1) b stop → {x y : ℤ} → x ≡ a → y ≡ b → First line at x y (stop + 1)
        both_there {b} {stop} t {x} {y} ex ey = record {
          is = number_is line at h s ∙ rw (number_is line (end + 1) i t, ex, ey) (go (numbers (fields_from line (stop + 1))));
          inside = omega (arith, (number_inside line (end + 1) i t).1);
          first_small = rw ex s.small;
          second_small = rw ey t.small;
        }
          where
            go : (A : Answer (List ℤ)) → ((A >>= λ more. got (b ∷ more)) >>= λ more. got (a ∷ more)) ≡ (A >>= λ more. got (a ∷ b ∷ more))
            go (got l) = refl
            go (refused k) = refl
