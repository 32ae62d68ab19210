-- A sheet that was read: the call is the answer for its plan, with the table and settings that the code holds.
use Prim.Native.Nat.{◌+◌, ◌-◌, ◌<◌, ◌≤◌, min, suc, zero, ℕ}
use borrow.Author.Tests.{le-leb, leb-false, leb-true, lt-leb}
use lib.Dec.{leb}
use lib.IntN.{nat_abs, pos, ℤ}
use lib.ListN.{drop, length, length-take, take}
use mathlib.Core.Bool.{Bool, ◌&&◌, false, true, true≢false}
use mathlib.Core.List.{List, [], ◌++◌, ◌∷◌}
use mathlib.Core.Path.{◌∙◌, ◌≡◌, ap, ap₂, refl, sym}
use native.Mathlib.Nat.{mul-le-mul}
use native.Mathlib.Omega.{arith}
use Rattle.language.proofs.Text.Plans.{plan_trees_lem}
use Rattle.language.proofs.Truth.{and_e}
use Rattle.language.specs.Answer.{Answer, ◌>>=◌, ◌>>◌, got, refused, require}
use Rattle.language.specs.Calls.{Given, accept_plan, pair_ok}
use Rattle.language.specs.Limits.{max_settings, sheet_bytes}
use Rattle.language.specs.Rules.Measures.{length_of, magnitude_of}
use Rattle.language.specs.Rules.Table.{Table, bound_at, is_month, are_settings, is_table}
use Rattle.language.specs.Sheet as paper
use Rattle.language.specs.Sheet.{line, lines_of, month_line, month_lines, printed, read_sheet, sheet_answer, sheet_call, sheet_text}
use Rattle.language.specs.Text.Fields.{bytes, split_at}
use Rattle.language.specs.Text.Letters.{plan_form}
use Rattle.language.specs.Text.Number.{byte, print_nat}
use Rattle.language.specs.Text.Plans.{read_plan}
use Rattle.language.specs.Text.Reader.{text_as_read}
use Rattle.language.specs.Text.Trees.{Delay, Plan}
use Rattle.lines.specs.Sheets.{Holds}
use Rattle.lines.specs.declared.Sheet.{Sheet}
use Rattle.payoff.proofs.TableFacts.{table_pays, table_read}
use Rattle.rules.proofs.Checks.{read_standing}
use Rattle.rules.specs.Standing.{Standing}
use Rattle.sheets.specs.Answers.{answer_into, answer_of, refusal_into, sheet_of, text_into}
use Rattle.sheets.specs.Held.{SheetHeld}
use Rattle.tables.specs.Given.{given_of, table_of}
use Rattle.text.specs.ReadInto as read
use Rattle.text.specs.Refusals.{number_of}
use Rattle.text.specs.declared.Refusal.{Refusal}

-- what comes next, where it is the same for every answer
bind_same : {A B : Type 0} (x : Answer A) {k l : A → Answer B} → ((a : A) → k a ≡ l a) → (x >>= k) ≡ (x >>= l)
bind_same (got a) e = e a
bind_same (refused n) e = refl

-- ---- a sheet's lines depend on its table, settings and pair alone
module _ (s : paper.Sheet) (plan : Plan Delay) (c : Plan ℕ) where
  same_lines : (n m : ℕ) → month_lines s plan c m n ≡ month_lines (sheet_of s.given s.from s.to) plan c m n
  unfolding month_lines month_line
  same_lines zero m = refl
  same_lines (suc n) m = bind_same (month_line s plan c m) (λ t. ap (λ (r : Answer (List ℕ)). r >>= λ rest. got (t ++ rest)) (same_lines n (suc m)))

-- ---- the whole answer
planned : paper.Sheet → Answer (List ℕ)
planned s = read_plan s.plan >>= λ plan. answer_of s.given s.from s.to plan

module _ (input : List ℕ) (short : length input ≤ sheet_bytes) where
  module _ (s : paper.Sheet) (is : (lines_of (split_at (byte "\n") input) >>= λ ls. paper.sheet_of ls) ≡ got s) where
    whole : sheet_answer input ≡ planned s
    unfolding sheet_answer read_sheet planned answer_of
    whole =
        rw (le-leb (length input) sheet_bytes short, is)
        (bind_same (read_plan s.plan) (λ plan. bind_same (accept_plan s.given (pos 0) (pair_ok s.from s.to) plan) (λ c. ap (λ (r : Answer (List ℕ)). r >>= λ lines. got (line (bytes "accepted" ∷ print_nat (length_of c) ∷ print_nat (magnitude_of (bound_at s.given.table) c) ∷ []) ++ lines)) (same_lines s plan c (nat_abs s.given.table.f + 1) 0))))

-- ---- settings beyond eight are refused, whatever they are
many_settings : (s : List ℤ) → max_settings < length s → are_settings s ≡ false
unfolding are_settings
many_settings s h = rw (lt-leb (length s) max_settings h) refl

-- what comes of a plan that was accepted
abbrev after : Given → ℤ → ℤ → Plan Delay → Plan ℕ → Answer (List ℕ)
after g p q x c = month_lines (sheet_of g p q) x c 0 (nat_abs g.table.f + 1) >>= λ lines. got (line (bytes "accepted" ∷ print_nat (length_of c) ∷ print_nat (magnitude_of (bound_at g.table) c) ∷ []) ++ lines)

-- 9 and 12, else 8
early : Bool → Bool → Answer (Plan ℕ)
early a b = require 9 a >> (require 12 b >> refused 8)

never : (a b : Bool) (k l : Plan ℕ → Answer (List ℕ)) → (early a b >>= k) ≡ (early a b >>= l)
unfolding early
never false b k l = refl
never true false k l = refl
never true true k l = refl

refused_early : (g : Given) → are_settings g.settings ≡ false → (ok : Bool) (x : Plan Delay) → accept_plan g (pos 0) ok x ≡ early (is_table g.table) (is_month g.table (pos 0) && ok)
unfolding accept_plan early
refused_early g e ok x = rw e refl

module _ (t : Table) (s s' : List ℤ) (e : are_settings s ≡ false) (e' : are_settings s' ≡ false) (p q : ℤ) (x : Plan Delay) where
  abbrev one : Given
  one = record { settings = s; table = t }

  abbrev other : Given
  other = record { settings = s'; table = t }

  pub both_refused : answer_of one p q x ≡ answer_of other p q x
  unfolding answer_of
  both_refused =
      ap (λ A. A >>= after one p q x) (refused_early one e (pair_ok p q) x)
      ∙ never (is_table t) (is_month t (pos 0) && pair_ok p q) (after one p q x) (after other p q x)
      ∙ sym (ap (λ A. A >>= after other p q x) (refused_early other e' (pair_ok p q) x))

same_table : {h h' f f' : ℤ} {a a' b b' c c' : List ℤ} → h ≡ h' → f ≡ f' → a ≡ a' → b ≡ b' → c ≡ c' → table_of h f a b c ≡ table_of h' f' a' b' c'
same_table eh ef ea eb ec = rw (eh, ef, ea, eb, ec) refl

-- the call is the answer's text
by_answer : (input : List ℕ) (t : Answer (List ℕ)) → sheet_answer input ≡ t → (out : List ℕ) → text_into (printed t) out ≡ sheet_call input out
unfolding sheet_call sheet_text
by_answer input t e out = rw e refl

-- ---- a table that breaks a rule
pub broken_refused : (g : Given) → is_table g.table ≡ false → (p q : ℤ) (x : Plan Delay) → answer_of g p q x ≡ refused 9
unfolding answer_of accept_plan
broken_refused g e p q x = rw e refl

module _ {input : List ℕ} {days factors bounds values : List ℤ} {sheet : Sheet} (s : SheetHeld input days factors bounds values sheet) where
  abbrev S : paper.Sheet
  S = s.read.sheet

  abbrev H : Holds input days factors bounds values sheet S
  H = s.read.held

  abbrev T : Table
  T = S.given.table

  -- a table that keeps the rules is held whole
  holds_all : is_table T ≡ true → (sheet.factors ≤ 601) × (sheet.labels ≤ 8) × (sheet.values ≤ 5288)
  holds_all e =
      let k = (table_read T.h T.f T.factors T.bounds T.values e).kept in
      let n = (table_pays T.h T.f T.factors T.bounds T.values e).count in
      let m = mul-le-mul {n₁ = length T.bounds} {m₁ = nat_abs T.h + nat_abs T.f + 1} {n₂ = 8} {m₂ = 661} k.labels (omega (arith, k.span.h_to, k.span.f_to)) in
      (omega (arith, n, H.factors_kept.count, k.span.f_to), omega (arith, k.labels, H.bounds_kept.count), omega (arith, k.count, H.values_kept.count, m))

  pub not_held : (leb sheet.factors 601 && (leb sheet.labels 8 && leb sheet.values 5288)) ≡ false → is_table T ≡ false
  not_held e = go (is_table T) refl
    where
      go : (b : Bool) → is_table T ≡ b → is_table T ≡ false
      go false r = r
      go true r =
          let a = holds_all r in
          absurd (true≢false (sym (rw (le-leb sheet.factors 601 a.0, le-leb sheet.labels 8 a.1, le-leb sheet.values 5288 a.2) refl) ∙ e))

  -- ---- what the code holds
  module _ (h : (leb sheet.factors 601 && (leb sheet.labels 8 && leb sheet.values 5288)) ≡ true) where
    fit : (sheet.factors ≤ 601) × (sheet.labels ≤ 8) × (sheet.values ≤ 5288)
    fit =
        let a = and_e (leb sheet.factors 601) (leb sheet.labels 8 && leb sheet.values 5288) h in
        let b = and_e (leb sheet.labels 8) (leb sheet.values 5288) a.1 in
        (leb-true sheet.factors 601 a.0, leb-true sheet.labels 8 b.0, leb-true sheet.values 5288 b.1)

    pub months_few : sheet.factors ≤ 601
    months_few = fit.0

    pub part_factors : sheet.factors ≤ length factors
    part_factors = s.months fit.0

    pub part_bounds : sheet.labels ≤ length bounds
    part_bounds = omega (arith, fit.1, s.labels)

    pub part_values : sheet.values ≤ length values
    part_values = s.places fit.2

    table_is : table_of sheet.h sheet.f (take (sheet.factors - 0) (drop 0 factors)) (take (sheet.labels - 0) (drop 0 bounds)) (take (sheet.values - 0) (drop 0 values)) ≡ T
    table_is =
        let a : sheet.factors - 0 ≡ sheet.factors = omega arith in
        let b : sheet.labels - 0 ≡ sheet.labels = omega arith in
        let c : sheet.values - 0 ≡ sheet.values = omega arith in
        same_table (sym H.h_is) (sym H.f_is)
        (ap (λ i. take i factors) a ∙ H.factors_kept.holds part_factors) (ap (λ i. take i bounds) b ∙ H.bounds_kept.holds part_bounds) (ap (λ i. take i values) c ∙ H.values_kept.holds part_values)

    module _ {n : ℕ} (en : n ≡ min sheet.days 9) where
      pub part_days : n ≤ length days
      part_days = omega (arith, en, s.settings)

      abbrev given : Given
      given = given_of (take (n - 0) (drop 0 days)) sheet.h sheet.f (take (sheet.factors - 0) (drop 0 factors)) (take (sheet.labels - 0) (drop 0 bounds)) (take (sheet.values - 0) (drop 0 values))

      same_answer : (x : Plan Delay) → answer_of given sheet.p sheet.q x ≡ answer_of S.given S.from S.to x
      same_answer x =
          ap (λ t. answer_of (record { settings = take (n - 0) (drop 0 days); table = t }) sheet.p sheet.q x) table_is
          ∙ by_count (leb sheet.days 9) refl
          ∙ ap₂ (λ a b. answer_of S.given a b x) (sym H.from_is) (sym H.to_is)
        where
          by_count : (b : Bool) → leb sheet.days 9 ≡ b → answer_of (record { settings = take (n - 0) (drop 0 days); table = T }) sheet.p sheet.q x ≡ answer_of S.given sheet.p sheet.q x
          by_count true r =
              let l : sheet.days ≤ 9 = leb-true sheet.days 9 r in
              let k : n - 0 ≡ sheet.days = omega (arith, en, l) in
              ap (λ d. answer_of (record { settings = d; table = T }) sheet.p sheet.q x) (ap (λ i. take i days) k ∙ H.days_kept.holds (omega (arith, l, s.settings)))
          by_count false r =
              let l : 9 < sheet.days = leb-false sheet.days 9 r in
              both_refused T (take (n - 0) (drop 0 days)) S.given.settings
              (many_settings (take (n - 0) (drop 0 days)) (omega (arith, length-take (n - 0) days, en, l, s.settings)))
              (many_settings S.given.settings (omega (arith, H.days_kept.count, l)))
              sheet.p sheet.q x

      -- the call, for the plan that was read
      pub answer_is : (plan : Plan Delay) → read_plan S.plan ≡ got plan → (out : List ℕ) → answer_into given sheet.p sheet.q plan out ≡ sheet_call input out
      unfolding answer_into planned
      answer_is plan e out = by_answer input (answer_of given sheet.p sheet.q plan) (whole input s.short S s.read.is ∙ rw e (sym (same_answer plan))) out

  -- ---- refusals
  pub table_refused : is_table T ≡ false → (plan : Plan Delay) → read_plan S.plan ≡ got plan → (out : List ℕ) → refusal_into 9 out ≡ sheet_call input out
  unfolding refusal_into planned
  table_refused e plan k out = by_answer input (refused 9) (whole input s.short S s.read.is ∙ rw k (broken_refused S.given e S.from S.to plan)) out

  pub plan_refused : (n : ℕ) → read_plan S.plan ≡ refused n → (out : List ℕ) → refusal_into n out ≡ sheet_call input out
  unfolding refusal_into planned
  plan_refused n k out = by_answer input (refused n) (whole input s.short S s.read.is ∙ rw k refl) out

  -- ---- the plan's text
  pub plan_part : (sheet.from ≤ sheet.to) × (sheet.to ≤ length input)
  plan_part = (H.order, H.inside)

  abbrev text : List ℕ
  text = take (sheet.to - sheet.from) (drop sheet.from input)

  pub record PlanRead (nodes : List ℤ) (n : ℕ) : Type 0 where
    pub plan : Plan Delay
    pub stands : Standing nodes n plan
    pub is : read_plan S.plan ≡ got plan

  pub plan_read : (nodes : List ℤ) (n : ℕ) → read.Stands plan_form (text_as_read plan_form text) nodes n → PlanRead nodes n
  plan_read nodes n k = record {
    plan = (plan_trees_lem text k.tree k.is).plan;
    stands = read_standing text nodes n k;
    is = ap read_plan H.plan_is ∙ (plan_trees_lem text k.tree k.is).is;
  }

  pub plan_not_read : (k : Refusal) → text_as_read plan_form text ≡ refused (number_of k) → read_plan S.plan ≡ refused (number_of k)
  unfolding read_plan
  plan_not_read k e = ap read_plan H.plan_is ∙ rw e refl

-- ---- faults of the sheet itself
pub too_long : (input : List ℕ) → sheet_bytes < length input → (out : List ℕ) → refusal_into 1 out ≡ sheet_call input out
unfolding refusal_into sheet_answer read_sheet
too_long input h out = by_answer input (refused 1) (rw (lt-leb (length input) sheet_bytes h) refl) out

pub faulty : (input : List ℕ) → length input ≤ sheet_bytes → (lines_of (split_at (byte "\n") input) >>= λ ls. paper.sheet_of ls) ≡ refused 2 → (out : List ℕ) → refusal_into 2 out ≡ sheet_call input out
unfolding refusal_into sheet_answer read_sheet
faulty input h e out = by_answer input (refused 2) (rw (le-leb (length input) sheet_bytes h, e) refl) out
