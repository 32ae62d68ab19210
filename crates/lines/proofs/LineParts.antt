-- A line by its place in the input: its bytes, its word, and what stands behind the word.
use Prim.Native.Nat.{◌+◌, ◌-◌, ◌<◌, ◌≤◌, suc, zero, ℕ}
use lib.Dec.{eqb, eqb→eq, leb}
use lib.IntN.{nat_abs, ℤ}
use lib.ListN.{drop, length, length-drop, length-take, take}
use mathlib.Core.Bool.{Bool, cond, false, true, true≢false}
use mathlib.Core.List.{List, [], ◌∷◌}
use mathlib.Core.Option.{Option, none, some}
use mathlib.Core.Path.{◌∙◌, ◌≡◌, ap, ap₂, refl, subst, sym}
use native.Mathlib.Omega.{arith}
use Rattle.fields.proofs.Positions.{at_start, first_field, from_behind, from_inside, up_length}
use Rattle.fields.specs.Positions.{fields_from, up_to}
use Rattle.language.proofs.Truth.{and_e, truth}
use Rattle.language.specs.Answer.{Answer, ◌>>=◌, got, refused}
use Rattle.language.specs.Sheet.{numbers, same_bytes, sheet_number, two_of, worded}
use Rattle.language.specs.Text.Fields.{behind, bytes, in_front, join, join_with, split, split_at}
use Rattle.language.specs.Limits.{max_amount}
use Rattle.language.specs.Text.Number.{read_number}
use Rattle.lines.proofs.LineLaws.{next_line, no_lines, some_field}
use Rattle.lines.proofs.NumberFields.{no_numbers}
use Rattle.lines.specs.Lines.{line_of, lines_in}
use Rattle.lines.specs.Numbers.{First, Short, Stored}
use Rattle.lines.specs.Parts.{LineIs, ListAt, Missing, PairAt, PlanAt, numbers_behind, worded_by}

-- ---- its bytes
line_length : (l : List ℕ) → length (line_of l) ≤ length l
unfolding line_of
line_length [] = omega arith
line_length (b ∷ bs) = go (eqb b 10) (line_length bs)
  where
    go : (t : Bool) → length (line_of bs) ≤ length bs → length (cond t [] (b ∷ line_of bs)) ≤ suc (length bs)
    go true h = omega arith
    go false h = omega arith

take_line : (l : List ℕ) → take (length (line_of l)) l ≡ line_of l
unfolding line_of
take_line [] = refl
take_line (b ∷ bs) = go (eqb b 10) (take_line bs)
  where
    go : (t : Bool) → take (length (line_of bs)) bs ≡ line_of bs → take (length (cond t [] (b ∷ line_of bs))) (b ∷ bs) ≡ cond t [] (b ∷ line_of bs)
    go true h = refl
    go false h = ap (λ l. b ∷ l) h

module _ (input : List ℕ) (at : ℕ) (h : at ≤ length input) {end : ℕ} (e : end ≡ at + length (line_of (drop at input))) where
  pub line_inside : end ≤ length input
  line_inside = omega (arith, e, line_length (drop at input), length-drop at input)

  pub line_short : length (take (end - at) (drop at input)) ≤ length input
  line_short = omega (arith, length-take (end - at) (drop at input), length-drop at input)

  pub line_bytes : take (end - at) (drop at input) ≡ line_of (drop at input)
  line_bytes = let k : end - at ≡ length (line_of (drop at input)) = omega (arith, e) in rw k (take_line (drop at input))

  pub line_is : at < length input → LineIs input at (take (end - at) (drop at input)) (end + 1)
  line_is l = record {
    lines = next_line input at l ∙ ap₂ (λ x k. x ∷ lines_in (drop k input)) (sym line_bytes) (let k : at + length (line_of (drop at input)) + 1 ≡ end + 1 = omega (arith, e) in k);
    inside = omega (arith, line_inside);
    short = line_short;
  }

-- ---- a part that is missing or refused
module _ {A : Type 0} (part : List ℕ → Answer A) (input : List ℕ) (at : ℕ) where
  pub none_left : length input ≤ at → Missing (lines_in (drop at input)) part
  none_left h = rw (no_lines input at h) tt

  pub part_refused : {line : List ℕ} {next : ℕ} → LineIs input at line next → part line ≡ refused 2 → Missing (lines_in (drop at input)) part
  part_refused k e = rw k.lines e

-- ---- its word
same_eq : (a b : List ℕ) → same_bytes a b ≡ true → a ≡ b
same_eq [] [] e = refl
same_eq [] (y ∷ ys) e = absurd (true≢false (sym e))
same_eq (x ∷ xs) [] e = absurd (true≢false (sym e))
same_eq (x ∷ xs) (y ∷ ys) e =
    let p = and_e (eqb x y) (same_bytes xs ys) e in
    ap₂ (λ z l. z ∷ l) (eqb→eq x y (truth (eqb x y) p.0)) (same_eq xs ys p.1)

first_of : (line : List ℕ) → split line ≡ up_to 44 line ∷ fields_from line (length (up_to 44 line) + 1)
first_of line = sym (at_start line) ∙ first_field line 0 (omega arith) ∙ ap (λ k. up_to 44 line ∷ fields_from line k) (omega arith)

module _ (line word : List ℕ) where
  module _ (e : true ≡ same_bytes (up_to 44 line) word) where
    field_is : up_to 44 line ≡ word
    field_is = same_eq (up_to 44 line) word (sym e)

    pub behind_word : worded_by word (split line) ≡ got (fields_from line (length word + 1))
    behind_word = rw (first_of line, sym e) (ap (λ f. got (fields_from line (length f + 1))) field_is)

    pub word_inside : length word ≤ length line
    word_inside = omega (arith, ap length field_is, up_length 44 line)

    pub numbers_behind_lem : numbers_behind word line ≡ numbers (fields_from line (length word + 1))
    numbers_behind_lem = rw behind_word refl

  pub other_word : false ≡ same_bytes (up_to 44 line) word → worded_by word (split line) ≡ refused 2
  other_word e = rw (first_of line, sym e) refl

  pub no_numbers_behind : false ≡ same_bytes (up_to 44 line) word → numbers_behind word line ≡ refused 2
  no_numbers_behind e = rw (other_word e) refl

-- ---- two numbers

-- numbers are refused with 2 alone
abbrev pub OnlyTwo : Answer (List ℤ) → Type 0
OnlyTwo (refused k) = k ≡ 2
OnlyTwo (got zs) = Unit {0}

pub only_two : (fs : List (List ℕ)) → OnlyTwo (numbers fs)
unfolding numbers
only_two [] = tt
only_two (f ∷ fs) = go (read_number f) (numbers fs) (only_two fs)
  where
    in_range_lem : (z : ℤ) (b : Bool) (A : Answer (List ℤ)) → OnlyTwo A → OnlyTwo (cond b (got z) (refused 2) >>= λ y. A >>= λ more. got (y ∷ more))
    in_range_lem z true (got l) h = tt
    in_range_lem z true (refused k) h = h
    in_range_lem z false A h = refl

    go : (o : Option ℤ) (A : Answer (List ℤ)) → OnlyTwo A → OnlyTwo (sheet_number o >>= λ z. A >>= λ more. got (z ∷ more))
    go none A h = refl
    go (some z) A h = in_range_lem z (leb (nat_abs z) max_amount) A h

-- a field more: two numbers are not all
module _ (f : List ℕ) (fs : List (List ℕ)) (a b : ℤ) where
  one_more : ((numbers (f ∷ fs) >>= λ more. got (a ∷ b ∷ more)) >>= λ zs. two_of zs) ≡ refused 2
  unfolding numbers two_of
  one_more = go (read_number f) (numbers fs) (only_two fs)
    where
      in_range_lem : (z : ℤ) (t : Bool) (A : Answer (List ℤ)) → OnlyTwo A → (((cond t (got z) (refused 2) >>= λ y. A >>= λ more. got (y ∷ more)) >>= λ more. got (a ∷ b ∷ more)) >>= λ zs. two_of zs) ≡ refused 2
      in_range_lem z true (got l) h = refl
      in_range_lem z true (refused k) h = ap refused h
      in_range_lem z false A h = refl

      go : (o : Option ℤ) (A : Answer (List ℤ)) → OnlyTwo A → (((sheet_number o >>= λ z. A >>= λ more. got (z ∷ more)) >>= λ more. got (a ∷ b ∷ more)) >>= λ zs. two_of zs) ≡ refused 2
      go none A h = refl
      go (some z) A h = in_range_lem z (leb (nat_abs z) max_amount) A h

module _ (line : List ℕ) (at : ℕ) where
  pub too_few : Short (numbers (fields_from line at)) → (numbers (fields_from line at) >>= λ zs. two_of zs) ≡ refused 2
  unfolding two_of
  too_few s = go (numbers (fields_from line at)) s
    where
      go : (A : Answer (List ℤ)) → Short A → (A >>= λ zs. two_of zs) ≡ refused 2
      go (refused k) h = ap refused h
      go (got []) h = refl
      go (got (a ∷ [])) h = refl
      go (got (a ∷ b ∷ r)) h = absurd h

  module _ {a b : ℤ} {next : ℕ} (f : First line at a b next) where
    pub just_two : length line < next → numbers (fields_from line at) ≡ got (a ∷ b ∷ [])
    just_two h = f.is ∙ rw (no_numbers line next h) refl

    pub too_many : next ≤ length line → (numbers (fields_from line at) >>= λ zs. two_of zs) ≡ refused 2
    too_many h = rw (f.is, first_field line next h) (one_more (up_to 44 (drop next line)) (fields_from line (next + (length (up_to 44 (drop next line)) + 1))) a b)

-- ---- the plan's text
join_in_front : (c : ℕ) (fs : List (List ℕ)) → join (in_front c fs) ≡ c ∷ join fs
unfolding join_with behind
join_in_front c [] = refl
join_in_front c (f ∷ fs) = refl

join_split : (l : List ℕ) → join (split l) ≡ l
unfolding split_at join_with behind
join_split [] = refl
join_split (c ∷ cs) = go (eqb c 44) refl (join_split cs)
  where
    again : (X : List (List ℕ)) → join_with 44 X ≡ cs → (X ≡ [] → ⊥) → join_with 44 ([] ∷ X) ≡ 44 ∷ cs
    again [] e n = absurd (n refl)
    again (f ∷ fs) e n = ap (λ l. 44 ∷ l) e

    go : (b : Bool) → eqb c 44 ≡ b → join_with 44 (split_at 44 cs) ≡ cs → join_with 44 (cond b ([] ∷ split_at 44 cs) (in_front c (split_at 44 cs))) ≡ c ∷ cs
    go true e h = again (split_at 44 cs) h (some_field 44 cs) ∙ ap (λ d. d ∷ cs) (sym (eqb→eq c 44 (truth (eqb c 44) e)))
    go false e h = join_in_front c (split_at 44 cs) ∙ ap (λ l. c ∷ l) h

no_take : (n : ℕ) → take {A = ℕ} n [] ≡ []
no_take zero = refl
no_take (suc n) = refl

drop_taken : (k n : ℕ) (l : List ℕ) → drop k (take (k + n) l) ≡ take n (drop k l)
drop_taken zero n l = let e : 0 + n ≡ n = omega arith in rw e refl
drop_taken (suc k) n [] = let e : suc k + n ≡ suc (k + n) = omega arith in rw e (sym (no_take n))
drop_taken (suc k) n (x ∷ xs) = let e : suc k + n ≡ suc (k + n) = omega arith in rw e (drop_taken k n xs)

module _ (input : List ℕ) (end : ℕ) where
  abbrev first : List ℕ
  first = take (end - 0) (drop 0 input)

  pub plan_text : 5 ≤ end → end ≤ length input → join (fields_from first 5) ≡ take (end - 5) (drop 5 input)
  plan_text h k =
      let e : end - 0 ≡ 5 + (end - 5) = omega arith in
      let l : length first ≡ end = length-take (end - 0) input ∙ omega arith in
      ap join (from_inside first 5 (omega (arith, l))) ∙ join_split (drop 5 first) ∙ ap (λ n. drop 5 (take n input)) e ∙ drop_taken 5 (end - 5) input

  pub no_plan : end < 5 → end ≤ length input → join (fields_from first 5) ≡ take (end - end) (drop end input)
  unfolding join_with
  no_plan h k =
      let e : end - end ≡ 0 = omega arith in
      let l : length first ≤ end = omega (arith, length-take (end - 0) input) in
      rw (e, from_behind first 5 (omega (arith, l))) refl

-- ---- what the code's answers come to
module _ (word : List ℕ) {input : List ℕ} {at : ℕ} {line : List ℕ} {next : ℕ} (k : LineIs input at line next) where
  pub listed_fault : false ≡ same_bytes (up_to 44 line) word → Missing (lines_in (drop at input)) (numbers_behind word)
  listed_fault e = part_refused (numbers_behind word) input at k (no_numbers_behind line word e)

  pub paired_fault : false ≡ same_bytes (up_to 44 line) word → Missing (lines_in (drop at input)) (λ line. numbers_behind word line >>= λ zs. two_of zs)
  paired_fault e = part_refused (λ line. numbers_behind word line >>= λ zs. two_of zs) input at k (rw (no_numbers_behind line word e) refl)

  module _ (w : true ≡ same_bytes (up_to 44 line) word) where
    pub listed_bad : numbers (fields_from line (length word + 1)) ≡ refused 2 → Missing (lines_in (drop at input)) (numbers_behind word)
    listed_bad e = part_refused (numbers_behind word) input at k (numbers_behind_lem line word w ∙ e)

    pub listed : {before after : List ℤ} {n : ℕ} → Stored line (length word + 1) before after 0 n → ListAt input at word before after n next
    listed {before} {after} {n} s = record {
      line = line;
      is = k;
      read = s.read;
      numbers = numbers_behind_lem line word w ∙ s.is;
      counted = s.count;
      holds = λ r. let e : 0 + n ≡ n = omega arith in subst (λ m. take m after ≡ s.read) e (s.holds (omega arith));
      bounded = s.bounded;
    }

    pub paired_bad : (numbers (fields_from line (length word + 1)) >>= λ zs. two_of zs) ≡ refused 2 → Missing (lines_in (drop at input)) (λ line. numbers_behind word line >>= λ zs. two_of zs)
    paired_bad e = part_refused (λ line. numbers_behind word line >>= λ zs. two_of zs) input at k (rw (numbers_behind_lem line word w) e)

    pub paired : {a b x y : ℤ} {m : ℕ} → First line (length word + 1) a b m → length line < m → x ≡ a → y ≡ b → PairAt input at word x y next
    paired f h ex ey = record { line = line; is = k; numbers = numbers_behind_lem line word w ∙ just_two line (length word + 1) f h ∙ ap₂ (λ p q. got (p ∷ q ∷ [])) (sym ex) (sym ey); first_small = rw ex f.first_small; second_small = rw ey f.second_small }

-- the first line is the plan's
module _ (input : List ℕ) where
  worded_is : (fs : List (List ℕ)) → worded "plan" fs ≡ worded_by (112 ∷ 108 ∷ 97 ∷ 110 ∷ []) fs
  unfolding worded bytes
  worded_is [] = refl
  worded_is (f ∷ fs) = refl

  pub no_first : length input ≡ 0 → Missing (lines_in input) (λ line. worded "plan" (split line))
  no_first e = none_left (λ line. worded "plan" (split line)) input 0 (omega arith)

  module _ {line : List ℕ} {next : ℕ} (k : LineIs input 0 line next) where
    pub plan_fault : false ≡ same_bytes (up_to 44 line) (112 ∷ 108 ∷ 97 ∷ 110 ∷ []) → Missing (lines_in input) (λ line. worded "plan" (split line))
    plan_fault e = part_refused (λ line. worded "plan" (split line)) input 0 k (worded_is (split line) ∙ other_word line (112 ∷ 108 ∷ 97 ∷ 110 ∷ []) e)

    pub plan_is : true ≡ same_bytes (up_to 44 line) (112 ∷ 108 ∷ 97 ∷ 110 ∷ []) → (from to : ℕ) → from ≤ to → to ≤ length input → join (fields_from line 5) ≡ take (to - from) (drop from input) → PlanAt input from to next
    plan_is w from to h l e = record {
      line = line;
      is = k;
      fields = fields_from line 5;
      word = worded_is (split line) ∙ behind_word line (112 ∷ 108 ∷ 97 ∷ 110 ∷ []) w;
      text = e;
      order = h;
      inside = l;
    }
