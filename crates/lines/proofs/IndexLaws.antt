-- Index lines: one, by its numbers, and all of them in order.
use Prim.Native.Nat.{◌+◌, ◌<◌, ◌≤◌, suc, zero, ℕ}
use borrow.Author.Tests.{eq-eqb, lt-ltb, ne_eqb}
use lib.Dec.{eqb, eqb→eq, ltb}
use lib.IntN.{negsuc, pos, ℤ}
use lib.ListN.{drop, length, length-append, length-set, set, take}
use mathlib.Core.Bool.{Bool, ◌&&◌, false, true, true≢false}
use mathlib.Core.List.{List, [], ◌++◌, ◌∷◌, append_assoc, append-nil}
use mathlib.Core.Path.{◌∙◌, ◌≡◌, ap, ap₂, refl, subst, sym}
use mir.Syntax.{w64}
use mir.Val.{SFits, of_z}
use native.Mathlib.Omega.{arith}
use Rattle.fields.specs.Positions.{fields_from, up_to}
use Rattle.integers.proofs.Bits.{same_bits}
use Rattle.integers.specs.Equal.{eq_z}
use Rattle.language.proofs.Truth.{truth}
use Rattle.language.specs.Answer.{Answer, ◌>>=◌, ◌>>◌, got, refused, require}
use Rattle.language.specs.Sheet.{Indexes, counted, index_line, index_lines, numbers, same_bytes, worded}
use Rattle.language.specs.Text.Fields.{bytes, split}
use Rattle.lines.proofs.LineParts.{OnlyTwo, behind_word, only_two, other_word}
use Rattle.lines.specs.Indexes.{IndexAt, index_numbers}
use Rattle.lines.specs.Numbers.{First, Short, Stored}
use Rattle.lines.specs.Parts.{worded_by}

abbrev pub index_word : List ℕ
index_word = 105 ∷ 110 ∷ 100 ∷ 101 ∷ 120 ∷ []

word_is : (fs : List (List ℕ)) → worded "index" fs ≡ worded_by index_word fs
unfolding worded bytes
word_is [] = refl
word_is (f ∷ fs) = refl

-- ---- whole numbers compared by their bits
pub equal_bits : {a b : ℤ} → SFits w64 a → SFits w64 b → of_z w64 a ≡ of_z w64 b → eq_z a b ≡ true
equal_bits {a} {b} f g e = sym (same_bits a b f g) ∙ eq-eqb _ _ e

pub other_bits : {a b : ℤ} → SFits w64 a → SFits w64 b → (of_z w64 a ≡ of_z w64 b → ⊥) → eq_z a b ≡ false
other_bits {a} {b} f g e = sym (same_bits a b f g) ∙ ne_eqb _ _ e

pub equal_are : (a b : ℤ) → eq_z a b ≡ true → a ≡ b
equal_are (pos a) (pos b) e = ap pos (eqb→eq a b (truth (eqb a b) e))
equal_are (pos a) (negsuc b) e = absurd (true≢false (sym e))
equal_are (negsuc a) (pos b) e = absurd (true≢false (sym e))
equal_are (negsuc a) (negsuc b) e = ap negsuc (eqb→eq a b (truth (eqb a b) e))

-- ---- one line
module _ (line : List ℕ) (label : ℕ) (months : ℤ) where
  -- the line is refused, whatever the others hold
  abbrev pub Refused : Type 0
  Refused = (rest : Indexes) → (index_numbers line >>= λ zs. index_line label months zs rest) ≡ refused 2

  pub other_line : false ≡ same_bytes (up_to 44 line) index_word → Refused
  other_line e rest = rw (word_is (split line), other_word line index_word e) refl

  module _ (w : true ≡ same_bytes (up_to 44 line) index_word) where
    numbers_are : index_numbers line ≡ numbers (fields_from line 6)
    numbers_are = rw (word_is (split line), behind_word line index_word w) refl

    by_numbers : ((rest : Indexes) → (numbers (fields_from line 6) >>= λ zs. index_line label months zs rest) ≡ refused 2) → Refused
    by_numbers h rest = rw numbers_are (h rest)

    pub no_bound : Short (numbers (fields_from line 6)) → Refused
    no_bound s = by_numbers (λ rest. go (numbers (fields_from line 6)) s rest)
      where
        go : (A : Answer (List ℤ)) → Short A → (rest : Indexes) → (A >>= λ zs. index_line label months zs rest) ≡ refused 2
        go (refused k) h rest = ap refused h
        go (got []) h rest = refl
        go (got (a ∷ [])) h rest = refl
        go (got (a ∷ b ∷ r)) h rest = absurd h

    module _ {a b : ℤ} {next : ℕ} (f : First line 6 a b next) where
      pub other_label : eq_z a (pos label) ≡ false → Refused
      other_label e = by_numbers (λ rest. rw f.is (go (numbers (fields_from line next)) (only_two (fields_from line next)) rest))
        where
          go : (A : Answer (List ℤ)) → OnlyTwo A → (rest : Indexes) → ((A >>= λ more. got (a ∷ b ∷ more)) >>= λ zs. index_line label months zs rest) ≡ refused 2
          go (refused k) h rest = ap refused h
          go (got vs) h rest = rw e refl

      pub bad_values : numbers (fields_from line next) ≡ refused 2 → Refused
      bad_values e = by_numbers (λ rest. rw (f.is, e) refl)

      module _ {before after : List ℤ} {from n : ℕ} (s : Stored line next before after from n) where
        -- the line's numbers, and what is asked of their count
        all : numbers (fields_from line 6) ≡ got (a ∷ b ∷ s.read)
        all = f.is ∙ rw s.is refl

        -- the others behind this one
        joined : Indexes → Indexes
        joined rest = record { bounds = b ∷ rest.bounds; values = s.read ++ rest.values }

        asked : (t u : Bool) (rest : Indexes) → Answer Indexes
        asked t u rest = require 2 t >> (require 2 u >> got (joined rest))

        never : (t : Bool) (rest : Indexes) → asked t false rest ≡ refused 2
        unfolding asked
        never true rest = refl
        never false rest = refl

        miscounted : (ltb 0 (length s.read) && eq_z months (pos (length s.read))) ≡ false → Refused
        unfolding asked joined
        miscounted e = by_numbers (λ rest. rw all (ap (λ t. asked (eq_z a (pos label)) t rest) e ∙ never (eq_z a (pos label)) rest))

        pub no_values : n ≤ 0 → Refused
        no_values h = miscounted (let e : length s.read ≡ 0 = omega (arith, s.count) in rw e refl)

        pub other_count : eq_z months (pos n) ≡ false → Refused
        other_count e = miscounted (rw s.count (rw e (and_false (ltb 0 n))))
          where
            and_false : (t : Bool) → t && false ≡ false
            and_false true = refl
            and_false false = refl

        pub index_is : eq_z a (pos label) ≡ true → 0 < n → eq_z months (pos n) ≡ true → {x : ℤ} → x ≡ b → IndexAt line label months before after from x n
        index_is ea h em {x} ex = record {
          values = s.read;
          is = numbers_are ∙ all ∙ ap₂ (λ p q. got (p ∷ q ∷ s.read)) (equal_are a (pos label) ea) (sym ex);
          counted = s.count;
          some = h;
          fits = equal_are months (pos n) em;
          holds = s.holds;
          bounded = s.bounded;
        }
