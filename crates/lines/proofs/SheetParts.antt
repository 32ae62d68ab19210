-- A sheet from the code's answers about its lines.
use Prim.Native.Nat.{◌≤◌, ℕ}
use lib.Dec.{ltb}
use lib.IntN.{◌+ℤ◌, pos, ℤ}
use lib.ListN.{drop, length}
use mathlib.Core.Bool.{Bool, ◌&&◌, false, not, true, true≢false}
use mathlib.Core.List.{List, [], ◌∷◌}
use mathlib.Core.Path.{◌∙◌, ◌≡◌, ap, refl, subst, sym}
use Rattle.integers.specs.Equal.{eq_z}
use Rattle.language.specs.Answer.{Answer, ◌>>=◌, got, refused}
use Rattle.language.specs.Sheet.{index_lines, number_line, sheet_of, two_of, worded}
use Rattle.language.specs.Text.Fields.{bytes, split}
use Rattle.lines.proofs.SheetLaws as laws
use Rattle.lines.proofs.SheetLaws.{line_numbers, whole}
use Rattle.lines.specs.Indexes.{LabelsAt}
use Rattle.lines.specs.Lines.{ends_well, lines_in}
use Rattle.lines.specs.Parts.{ListAt, Missing, PairAt, PlanAt, numbers_behind}
use Rattle.lines.specs.Sheets.{Holds, Kept, SheetRead}
use Rattle.lines.specs.declared.Sheet.{Sheet}

abbrev pub days_word : List ℕ
days_word = 100 ∷ 97 ∷ 121 ∷ 115 ∷ []

abbrev pub span_word : List ℕ
span_word = 115 ∷ 112 ∷ 97 ∷ 110 ∷ []

abbrev pub factors_word : List ℕ
factors_word = 102 ∷ 97 ∷ 99 ∷ 116 ∷ 111 ∷ 114 ∷ 115 ∷ []

abbrev pub pair_word : List ℕ
pair_word = 112 ∷ 97 ∷ 105 ∷ 114 ∷ []

days_are : (line : List ℕ) → numbers_behind days_word line ≡ number_line "days" line
unfolding bytes
days_are = line_numbers "days" days_word refl

span_are : (line : List ℕ) → numbers_behind span_word line ≡ number_line "span" line
unfolding bytes
span_are = line_numbers "span" span_word refl

factors_are : (line : List ℕ) → numbers_behind factors_word line ≡ number_line "factors" line
unfolding bytes
factors_are = line_numbers "factors" factors_word refl

pair_are : (line : List ℕ) → numbers_behind pair_word line ≡ number_line "pair" line
unfolding bytes
pair_are = line_numbers "pair" pair_word refl

missing_as : {A : Type 0} (part other : List ℕ → Answer A) → ((line : List ℕ) → part line ≡ other line) → (ls : List (List ℕ)) → Missing ls part → Missing ls other
missing_as part other e [] h = tt
missing_as part other e (l ∷ ls) h = sym (e l) ∙ h

-- a test turned round
pub ended_is : (b : Bool) → not b ≡ false → b ≡ true
ended_is true e = refl
ended_is false e = absurd (true≢false e)

pub ended_not : (b : Bool) → not b ≡ true → b ≡ false
ended_not true e = absurd (true≢false (sym e))
ended_not false e = refl

module _ (input : List ℕ) (w : true ≡ ends_well input) where
  pub first_fault : Missing (lines_in input) (λ line. worded "plan" (split line)) → whole input ≡ refused 2
  first_fault m = laws.by_lines input w ∙ laws.plan_fault (lines_in input) m

  module _ {from to n1 : ℕ} (pl : PlanAt input from to n1) where
    pub second_fault : Missing (lines_in (drop n1 input)) (numbers_behind days_word) → whole input ≡ refused 2
    second_fault m =
        laws.by_lines input w ∙ ap sheet_of pl.is.lines
        ∙ laws.days_fault pl.line pl.word (lines_in (drop n1 input)) (missing_as (numbers_behind days_word) (number_line "days") days_are (lines_in (drop n1 input)) m)

    module _ {days₀ days : List ℤ} {days# n2 : ℕ} (dl : ListAt input n1 days_word days₀ days days# n2) where
      two : sheet_of (lines_in input) ≡ sheet_of (pl.line ∷ dl.line ∷ lines_in (drop n2 input))
      two = ap sheet_of pl.is.lines ∙ ap (λ ls. sheet_of (pl.line ∷ ls)) dl.is.lines

      eb : number_line "days" dl.line ≡ got dl.read
      eb = sym (days_are dl.line) ∙ dl.numbers

      pub third_fault : Missing (lines_in (drop n2 input)) (λ line. numbers_behind span_word line >>= λ zs. two_of zs) → whole input ≡ refused 2
      third_fault m =
          laws.by_lines input w ∙ two
          ∙ laws.span_fault pl.line pl.word dl.line eb (lines_in (drop n2 input))
          (missing_as (λ line. numbers_behind span_word line >>= λ zs. two_of zs) (λ line. number_line "span" line >>= λ zs. two_of zs) (λ line. ap (λ A. A >>= λ zs. two_of zs) (span_are line)) (lines_in (drop n2 input)) m)

      module _ {h f : ℤ} {n3 : ℕ} (sl : PairAt input n2 span_word h f n3) where
        three : sheet_of (lines_in input) ≡ sheet_of (pl.line ∷ dl.line ∷ sl.line ∷ lines_in (drop n3 input))
        three = two ∙ ap (λ ls. sheet_of (pl.line ∷ dl.line ∷ ls)) sl.is.lines

        ec : number_line "span" sl.line ≡ got (h ∷ f ∷ [])
        ec = sym (span_are sl.line) ∙ sl.numbers

        pub fourth_fault : Missing (lines_in (drop n3 input)) (numbers_behind factors_word) → whole input ≡ refused 2
        fourth_fault m =
            laws.by_lines input w ∙ three
            ∙ laws.factors_fault pl.line pl.word dl.line eb sl.line ec (lines_in (drop n3 input)) (missing_as (numbers_behind factors_word) (number_line "factors") factors_are (lines_in (drop n3 input)) m)

        module _ {factors₀ factors : List ℤ} {factors# n4 : ℕ} (fl : ListAt input n3 factors_word factors₀ factors factors# n4) where
          four : sheet_of (lines_in input) ≡ sheet_of (pl.line ∷ dl.line ∷ sl.line ∷ fl.line ∷ lines_in (drop n4 input))
          four = three ∙ ap (λ ls. sheet_of (pl.line ∷ dl.line ∷ sl.line ∷ ls)) fl.is.lines

          ed : number_line "factors" fl.line ≡ got fl.read
          ed = sym (factors_are fl.line) ∙ fl.numbers

          pub count_fault : (ltb 0 factors# && eq_z (f +ℤ pos 1) (pos factors#)) ≡ false → whole input ≡ refused 2
          count_fault m =
              laws.by_lines input w ∙ four
              ∙ laws.count_fault pl.line pl.word dl.line eb sl.line ec fl.line ed (rw fl.counted m) (lines_in (drop n4 input))

          module _ (fit : (ltb 0 factors# && eq_z (f +ℤ pos 1) (pos factors#)) ≡ true) where
            count : (ltb 0 (length fl.read) && eq_z (f +ℤ pos 1) (pos (length fl.read))) ≡ true
            count = rw fl.counted fit

            pub fifth_fault : Missing (lines_in (drop n4 input)) (λ line. numbers_behind pair_word line >>= λ zs. two_of zs) → whole input ≡ refused 2
            fifth_fault m =
                laws.by_lines input w ∙ four
                ∙ laws.pair_fault pl.line pl.word dl.line eb sl.line ec fl.line ed count (lines_in (drop n4 input))
                (missing_as (λ line. numbers_behind pair_word line >>= λ zs. two_of zs) (λ line. number_line "pair" line >>= λ zs. two_of zs) (λ line. ap (λ A. A >>= λ zs. two_of zs) (pair_are line)) (lines_in (drop n4 input)) m)

            module _ {p q : ℤ} {n5 : ℕ} (ql : PairAt input n4 pair_word p q n5) where
              five : sheet_of (lines_in input) ≡ sheet_of (pl.line ∷ dl.line ∷ sl.line ∷ fl.line ∷ ql.line ∷ lines_in (drop n5 input))
              five = four ∙ ap (λ ls. sheet_of (pl.line ∷ dl.line ∷ sl.line ∷ fl.line ∷ ls)) ql.is.lines

              ee : number_line "pair" ql.line ≡ got (p ∷ q ∷ [])
              ee = sym (pair_are ql.line) ∙ ql.numbers

              pub sixth_fault : index_lines 0 ((h +ℤ f) +ℤ pos 1) (lines_in (drop n5 input)) ≡ refused 2 → whole input ≡ refused 2
              sixth_fault m =
                  laws.by_lines input w ∙ five
                  ∙ laws.index_fault pl.line pl.word dl.line eb sl.line ec fl.line ed count ql.line ee (lines_in (drop n5 input)) m

              module _ {bounds values : List ℤ} {labels# values# : ℕ} (il : LabelsAt input n5 ((h +ℤ f) +ℤ pos 1) bounds values labels# values#)
                  (same-days : length days ≡ length days₀) (same-factors : length factors ≡ length factors₀) where
                pub sheet_read : (code : Sheet) → code.from ≡ from → code.to ≡ to → code.days ≡ days# → code.h ≡ h → code.f ≡ f → code.factors ≡ factors# → code.p ≡ p → code.q ≡ q → code.labels ≡ labels# → code.values ≡ values#
                    → SheetRead input days factors bounds values code
                sheet_read code e1 e2 e3 e4 e5 e6 e7 e8 e9 e10 = record {
                  sheet = laws.read pl.line pl.word dl.line eb sl.line ec fl.line ed count ql.line ee il.all;
                  is = laws.by_lines input w ∙ five ∙ laws.sheet_is pl.line pl.word dl.line eb sl.line ec fl.line ed count ql.line ee (lines_in (drop n5 input)) il.all il.is;
                  held = record {
                    plan_is = rw (e1, e2) pl.text;
                    order = rw (e1, e2) pl.order;
                    inside = rw e2 pl.inside;
                    days_kept = rw e3 (record { count = dl.counted; holds = λ r. dl.holds (rw (sym same-days) r) });
                    h_is = sym e4;
                    f_is = sym e5;
                    factors_kept = rw e6 (record { count = fl.counted; holds = λ r. fl.holds (rw (sym same-factors) r) });
                    bounds_kept = rw e9 (record { count = il.counted; holds = il.holds_bounds });
                    values_kept = rw e10 (record { count = il.summed; holds = il.holds_values });
                    from_is = sym e7;
                    to_is = sym e8;
                  };
                }
