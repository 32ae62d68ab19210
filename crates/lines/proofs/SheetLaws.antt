-- A whole sheet from its lines: what is refused, and what is held.
use Prim.Native.Nat.{◌≤◌, suc, ℕ}
use Prim.Native.String.{String}
use lib.Dec.{ltb}
use lib.IntN.{◌+ℤ◌, pos, ℤ}
use lib.ListN.{drop, length, take}
use mathlib.Core.Bool.{Bool, ◌&&◌, cond, false, true}
use mathlib.Core.List.{List, [], ◌∷◌}
use mathlib.Core.Path.{◌∙◌, ◌≡◌, ap, refl, subst, sym}
use Rattle.integers.specs.Equal.{eq_z}
use Rattle.language.specs.Answer.{Answer, ◌>>=◌, ◌>>◌, got, refused, require}
use Rattle.language.specs.Sheet.{Indexes, Sheet, counted, index_lines, lines_of, number_line, numbers, sheet_of, two_of, worded}
use Rattle.language.specs.Text.Fields.{bytes, join, split, split_at}
use Rattle.lines.proofs.LineLaws.{lines_ended}
use Rattle.lines.specs.Lines.{ends_well, lines_in}
use Rattle.lines.specs.Parts.{Missing, numbers_behind, worded_by}

-- ---- a word by its bytes
pub line_numbers : (w : String) (word : List ℕ) → bytes w ≡ word → (line : List ℕ) → numbers_behind word line ≡ number_line w line
unfolding number_line worded
line_numbers w word e line = rw (sym e) (go (split line))
  where
    go : (fs : List (List ℕ)) → (worded_by (bytes w) fs >>= λ gs. numbers gs) ≡ (worded w fs >>= λ gs. numbers gs)
    go [] = refl
    go (f ∷ fs) = refl

-- ---- the lines
module _ (input : List ℕ) where
  abbrev pub whole : Answer Sheet
  whole = lines_of (split_at 10 input) >>= λ ls. sheet_of ls

  pub by_lines : true ≡ ends_well input → whole ≡ sheet_of (lines_in input)
  by_lines e = rw (lines_ended input, sym e) refl

  pub unended : false ≡ ends_well input → whole ≡ refused 2
  unended e = rw (lines_ended input, sym e) refl

-- two numbers that are refused, whatever would come next
two_fault : {B : Type 0} (k : ℤ × ℤ → Answer B) (A : Answer (List ℤ)) → (A >>= λ zs. two_of zs) ≡ refused 2 → (A >>= λ zs. two_of zs >>= k) ≡ refused 2
two_fault k (refused n) e = let z : n ≡ 2 = cc in ap refused z
two_fault k (got zs) e = rw e refl

-- ---- a fault in the first, second, .. line, whatever stands behind it
pub plan_fault : (ls : List (List ℕ)) → Missing ls (λ line. worded "plan" (split line)) → sheet_of ls ≡ refused 2
unfolding sheet_of
plan_fault [] h = refl
plan_fault (a ∷ []) h = refl
plan_fault (a ∷ b ∷ []) h = refl
plan_fault (a ∷ b ∷ c ∷ []) h = refl
plan_fault (a ∷ b ∷ c ∷ d ∷ []) h = refl
plan_fault (a ∷ b ∷ c ∷ d ∷ e ∷ more) h = rw h refl

module _ (a : List ℕ) {fields : List (List ℕ)} (ea : worded "plan" (split a) ≡ got fields) where
  pub days_fault : (ls : List (List ℕ)) → Missing ls (number_line "days") → sheet_of (a ∷ ls) ≡ refused 2
  unfolding sheet_of
  days_fault [] h = refl
  days_fault (b ∷ []) h = refl
  days_fault (b ∷ c ∷ []) h = refl
  days_fault (b ∷ c ∷ d ∷ []) h = refl
  days_fault (b ∷ c ∷ d ∷ e ∷ more) h = rw (ea, h) refl

  module _ (b : List ℕ) {days : List ℤ} (eb : number_line "days" b ≡ got days) where
    pub span_fault : (ls : List (List ℕ)) → Missing ls (λ line. number_line "span" line >>= λ zs. two_of zs) → sheet_of (a ∷ b ∷ ls) ≡ refused 2
    unfolding sheet_of
    span_fault [] h = refl
    span_fault (c ∷ []) h = refl
    span_fault (c ∷ d ∷ []) h = refl
    span_fault (c ∷ d ∷ e ∷ more) h = rw (ea, eb) (two_fault _ (number_line "span" c) h)

    module _ (c : List ℕ) {h f : ℤ} (ec : number_line "span" c ≡ got (h ∷ f ∷ [])) where
      pub factors_fault : (ls : List (List ℕ)) → Missing ls (number_line "factors") → sheet_of (a ∷ b ∷ c ∷ ls) ≡ refused 2
      unfolding sheet_of two_of
      factors_fault [] m = refl
      factors_fault (d ∷ []) m = refl
      factors_fault (d ∷ e ∷ more) m = rw (ea, eb, ec, m) refl

      module _ (d : List ℕ) {factors : List ℤ} (ed : number_line "factors" d ≡ got factors) where
        pub count_fault : (ltb 0 (length factors) && eq_z (f +ℤ pos 1) (pos (length factors))) ≡ false → (ls : List (List ℕ)) → sheet_of (a ∷ b ∷ c ∷ d ∷ ls) ≡ refused 2
        unfolding sheet_of two_of
        count_fault m [] = refl
        count_fault m (e ∷ more) = rw (ea, eb, ec, ed, m) refl

        module _ (count : (ltb 0 (length factors) && eq_z (f +ℤ pos 1) (pos (length factors))) ≡ true) where
          pub pair_fault : (ls : List (List ℕ)) → Missing ls (λ line. number_line "pair" line >>= λ zs. two_of zs) → sheet_of (a ∷ b ∷ c ∷ d ∷ ls) ≡ refused 2
          unfolding sheet_of two_of
          pair_fault [] m = refl
          pair_fault (e ∷ more) m = rw (ea, eb, ec, ed, count) (two_fault _ (number_line "pair" e) m)

          module _ (e : List ℕ) {p q : ℤ} (ee : number_line "pair" e ≡ got (p ∷ q ∷ [])) where
            pub index_fault : (ls : List (List ℕ)) → index_lines 0 ((h +ℤ f) +ℤ pos 1) ls ≡ refused 2 → sheet_of (a ∷ b ∷ c ∷ d ∷ e ∷ ls) ≡ refused 2
            unfolding sheet_of two_of
            index_fault ls m = rw (ea, eb, ec, ed, count, ee, m) refl

            abbrev pub read : Indexes → Sheet
            read all = record {
              plan = join fields;
              given = record { settings = days; table = record { h = h; f = f; factors = factors; bounds = all.bounds; values = all.values } };
              from = p;
              to = q;
            }

            pub sheet_is : (ls : List (List ℕ)) (all : Indexes) → index_lines 0 ((h +ℤ f) +ℤ pos 1) ls ≡ got all → sheet_of (a ∷ b ∷ c ∷ d ∷ e ∷ ls) ≡ got (read all)
            unfolding sheet_of two_of
            sheet_is ls all m = rw (ea, eb, ec, ed, count, ee, m) refl
