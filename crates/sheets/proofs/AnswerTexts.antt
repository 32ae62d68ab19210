-- The lines of an answer, from the lists that they are printed from.
use Prim.Native.Nat.{◌+◌, ◌≤◌, suc, zero, ℕ}
use lib.IntN.{pos, ℤ}
use mathlib.Core.List.{List, [], ◌++◌, ◌∷◌, append_assoc, append-nil}
use mathlib.Core.Path.{◌∙◌, ◌≡◌, ap, ap₂, refl, sym}
use native.Mathlib.Omega.{arith}
use Rattle.language.specs.Answer.{got, refused}
use Rattle.language.specs.Calls.{evaluate, lookup_of, sign_of}
use Rattle.language.specs.Payments.Pays.{pays}
use Rattle.language.specs.Payoff.Compile.{compiled_plan, cut_payoff}
use Rattle.language.specs.Sheet.{Sheet, line, month_line, month_lines, printed}
use Rattle.language.specs.Text.Fields.{behind, bytes, join_with}
use Rattle.language.specs.Text.Number.{print_nat, print_number}
use Rattle.language.specs.Text.Trees.{Delay, Plan, start}
use Rattle.printing.specs.Lines.{head_text, month_text, months_text, new_line, numbers_text, refusal_text}
use Rattle.writer.specs.Shapes.{number_field}
use Rattle.writer.specs.Written.{slot}

three_fields : (a b c : List ℕ) → line (a ∷ b ∷ c ∷ []) ≡ a ++ ((44 ∷ b) ++ ((44 ∷ c) ++ new_line))
unfolding join_with behind
three_fields a b c =
    append_assoc a (44 ∷ (b ++ (44 ∷ (c ++ [])))) new_line
    ∙ ap (λ t. a ++ (44 ∷ t)) (append_assoc b (44 ∷ (c ++ [])) new_line ∙ ap (λ t. b ++ (44 ∷ (t ++ new_line))) (append-nil c))

two_fields : (a b : List ℕ) → line (a ∷ b ∷ []) ≡ a ++ ((44 ∷ b) ++ new_line)
unfolding join_with behind
two_fields a b = append_assoc a (44 ∷ (b ++ [])) new_line ∙ ap (λ t. a ++ (44 ∷ (t ++ new_line))) (append-nil b)

-- ---- a refusal
pub refusal_line : (n : ℕ) (numbers : List ℤ) → slot numbers 0 ≡ pos n → refusal_text numbers ≡ printed (refused n)
unfolding refusal_text print_number
refusal_line n numbers e = ap (λ z. bytes "refused" ++ (number_field z ++ new_line)) e ∙ sym (two_fields (bytes "refused") (print_nat n))

-- ---- the first line
pub head_line : (l m : ℕ) (head : List ℤ) → slot head 0 ≡ pos l → slot head 1 ≡ pos m → head_text head ≡ line (bytes "accepted" ∷ print_nat l ∷ print_nat m ∷ [])
unfolding head_text print_number
head_line l m head el em =
    ap₂ (λ y z. bytes "accepted" ++ (number_field y ++ (number_field z ++ new_line))) el em
    ∙ sym (three_fields (bytes "accepted") (print_nat l) (print_nat m))

-- ---- a month's line
module _ (s : Sheet) (plan : Plan Delay) (c : Plan ℕ) (column rest : List ℤ) (f : ℕ)
    (paid : (m : ℕ) → m ≤ f → slot column m ≡ pays (lookup_of s.given.table) (sign_of s.from s.to) c 0 m)
    (left : (m : ℕ) → m ≤ f → evaluate (cut_payoff (compiled_plan start plan)) s.given s.from s.to (pos m) ≡ got (slot rest m)) where
  month_line_lem : (m : ℕ) → m ≤ f → month_line s plan c m ≡ got (month_text column rest m)
  unfolding month_line month_text numbers_text
  month_line_lem m h = rw (left m h, sym (paid m h)) (ap got (three_fields (print_nat m) (print_number (slot column m)) (print_number (slot rest m))))

  pub month_lines_lem : (n m : ℕ) → m + n ≤ suc f → month_lines s plan c m n ≡ got (months_text column rest m n)
  unfolding month_lines months_text
  month_lines_lem zero m h = refl
  month_lines_lem (suc n) m h = rw (month_line_lem m (omega arith), month_lines_lem n (suc m) (omega arith)) refl
