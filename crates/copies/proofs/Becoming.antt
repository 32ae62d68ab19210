-- What rows become that are each changed: the rows of trees become the plain rows of other trees.
use Prim.Native.Nat.{◌*◌, ◌+◌, ◌-◌, suc, ℕ}
use lib.IntN.{pos, ℤ}
use lib.ListN.{drop, get_or, length}
use lib.Seq.{drop_at, take_at}
use mathlib.Core.Bool.{false}
use mathlib.Core.List.{List, [], ◌++◌, ◌∷◌, append_assoc, append-nil}
use mathlib.Core.Path.{◌∙◌, ◌≡◌, ap, ap₂, sym}
use native.Mathlib.Omega.{arith}
use Rattle.copies.proofs.Shapes.{plain_last_lem}
use Rattle.copies.specs.Copied.{changed_rows, copy_row}
use Rattle.copies.specs.Lies.{Lies}
use Rattle.copies.specs.Plain.{plain_row, plain_rows}
use Rattle.integers.specs.Equal.{eq_z}
use Rattle.language.specs.Text.Classes.{Field}
use Rattle.language.specs.Text.Letters.{Form, Letter, PlanLetter, plan_form, row_of}
use Rattle.language.specs.Text.Number.{byte}
use Rattle.language.specs.Text.Reader.{Trees, end, node}
use Rattle.nodes.proofs.Laid.{row_length}
use Rattle.nodes.specs.Rows.{count_of, row_for, rows, slots_of}

module _ (f : List ℤ → List ℤ) where
  -- n rows become these numbers, whatever stands behind them
  pub record Becomes (n : ℕ) (src out : List ℤ) : Type 0 where
    pub becomes : (k : ℕ) (rest : List ℤ) → changed_rows f (n + k) (src ++ rest) ≡ out ++ changed_rows f k rest

  none : Becomes 0 [] []
  none = record { becomes = λ k rest. let e : 0 + k ≡ k = omega arith in ap (λ n. changed_rows f n rest) e }

  one : (src out : List ℤ) → length src ≡ 5 → f src ≡ out → Becomes 1 src out
  unfolding changed_rows
  one src out five e = record {
    becomes = λ k rest. let s : 1 + k ≡ suc k = omega arith in rw s (ap₂ (λ x y. x ++ changed_rows f k y) (ap f (take_at src rest 5 five) ∙ e) (drop_at src rest 5 five));
  }

  then : {m n : ℕ} {s t o p : List ℤ} → Becomes m s o → Becomes n t p → Becomes (m + n) (s ++ t) (o ++ p)
  then {m} {n} {s} {t} {o} {p} a b = record {
    becomes = λ k rest.
        let e : m + n + k ≡ m + (n + k) = omega arith in
        ap₂ (changed_rows f) e (append_assoc s t rest) ∙ a.becomes (n + k) (t ++ rest) ∙ ap (λ x. o ++ x) (b.becomes k rest) ∙ sym (append_assoc o p (changed_rows f k rest));
  }

  -- the rows from one node up to another
  -- ---- trees
  module _ {Q : Type 0} (form : Form Q) where
    pub record TreesBecome (t : Trees PlanLetter) (u : Trees Q) : Type 0 where
      pub is : Becomes (count_of t) (rows plan_form t) (plain_rows form u)

    pub end_becomes : TreesBecome end end
    unfolding count_of rows plain_rows
    end_becomes = record { is = none }

    -- a node whose row becomes these numbers
    pub row_becomes : (l : Letter PlanLetter) (fs : List Field) {c t : Trees PlanLetter} {row : List ℤ} {d u : Trees Q}
        → f (row_for (row_of plan_form l).letter (slots_of fs) c) ≡ row → TreesBecome c d → TreesBecome t u
        → Becomes (count_of (node l fs c t)) (rows plan_form (node l fs c t)) (row ++ (plain_rows form d ++ plain_rows form u))
    unfolding count_of rows
    row_becomes l fs {c} e below beside = then (one _ _ (row_length (row_of plan_form l).letter (slots_of fs) c) e) (then below.is beside.is)

    pub node_becomes : (l : Letter PlanLetter) (fs : List Field) (m : Letter Q) (gs : List Field) {c t : Trees PlanLetter} {d u : Trees Q}
        → f (row_for (row_of plan_form l).letter (slots_of fs) c) ≡ plain_row (row_of form m).letter (slots_of gs) d → TreesBecome c d → TreesBecome t u
        → TreesBecome (node l fs c t) (node m gs d u)
    unfolding plain_rows
    node_becomes l fs m gs e below beside = record { is = row_becomes l fs e below beside }

    -- the rows from one node up to another
    pub lying_becomes : {nodes : List ℤ} {from to : ℕ} {t : Trees PlanLetter} {u : Trees Q} → Lies nodes from to t → TreesBecome t u
        → changed_rows f (to - from) (drop (from * 5) nodes) ≡ plain_rows form u
    unfolding changed_rows
    lying_becomes {nodes} {from} {to} {t} {u} l b =
        let n : to - from ≡ count_of t + 0 = omega (arith, l.ends) in
        ap₂ (changed_rows f) n l.is ∙ b.is.becomes 0 l.rest ∙ append-nil (plain_rows form u)

-- ---- a row that is no `O` keeps its letter and its fields

pub row_kept : {P Q : Type 0} (index : ℤ → ℤ → List ℤ) (letter : ℕ) (slots : List ℤ) (c : Trees P) (d : Trees Q) → eq_z (pos letter) (pos (byte "O")) ≡ false
    → get_or slots 2 (pos 0) ≡ pos 0 → get_or slots 3 (pos 0) ≡ pos 0 → copy_row index (row_for letter slots c) ≡ plain_row letter slots d
unfolding copy_row
row_kept index letter slots c d o e h = rw o (sym (ap (λ x. pos letter ∷ get_or slots 0 (pos 0) ∷ get_or slots 1 (pos 0) ∷ x) (plain_last_lem slots d e h)))
