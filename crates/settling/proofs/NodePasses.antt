-- A pass over the rows of trees is a change of their nodes' fields; here a node's children are known too.
use Prim.Native.Nat.{◌+◌, suc, ℕ}
use lib.IntN.{ℤ}
use lib.ListN.{drop, take}
use lib.Seq.{drop_at, take_at}
use mathlib.Core.Bool.{Bool, ◌&&◌, true}
use mathlib.Core.List.{List, ◌++◌, append_assoc}
use mathlib.Core.Path.{◌∙◌, ◌≡◌, ap, ap₂, refl, sym}
use native.Mathlib.Omega.{arith}
use Rattle.language.specs.Text.Classes.{Field}
use Rattle.language.specs.Text.Letters.{Form, Letter, row_of}
use Rattle.language.specs.Text.Reader.{Trees, end, node}
use Rattle.nodes.proofs.Laid.{row_length}
use Rattle.nodes.proofs.TreePasses.{all_nodes, and_assoc, changed, changed_row}
use Rattle.nodes.specs.Pass.{all_rows, map_rows}
use Rattle.nodes.specs.Rows.{count_of, row_for, rows, slots_of}

module _ {P : Type 0} (form : Form P) where
  -- the row of a node with children c
  abbrev pub row_with : Letter P → List Field → Trees P → List ℤ
  row_with l fs c = row_for (row_of form l).letter (slots_of fs) c

  -- what is said of each node and its children
  unfoldable pub OnTrees : (Letter P → List Field → Trees P → Type 0) → Trees P → Type 0
  OnTrees Q end = Unit {0}
  OnTrees Q (node l fs c t) = Q l fs c × OnTrees Q c × OnTrees Q t

  -- the first row, and what stands behind it
  module _ (l : Letter P) (fs : List Field) (c t : Trees P) (rest : List ℤ) where
    split : rows form (node l fs c t) ++ rest ≡ row_with l fs c ++ (rows form c ++ (rows form t ++ rest))
    unfolding rows
    split = append_assoc (row_with l fs c) (rows form c ++ rows form t) rest ∙ ap (λ x. row_with l fs c ++ x) (append_assoc (rows form c) (rows form t) rest)

    head : take 5 (rows form (node l fs c t) ++ rest) ≡ row_with l fs c
    head = ap (take 5) split ∙ take_at (row_with l fs c) (rows form c ++ (rows form t ++ rest)) 5 (row_length (row_of form l).letter (slots_of fs) c)

    tail : drop 5 (rows form (node l fs c t) ++ rest) ≡ rows form c ++ (rows form t ++ rest)
    tail = ap (drop 5) split ∙ drop_at (row_with l fs c) (rows form c ++ (rows form t ++ rest)) 5 (row_length (row_of form l).letter (slots_of fs) c)

  -- f changes a node's row as g its fields
  module _ (f : List ℤ → List ℤ) (g : Letter P → List Field → List Field) where
    abbrev pub Changes : Letter P → List Field → Trees P → Type 0
    Changes l fs c = f (row_with l fs c) ≡ row_with l (g l fs) c

    pub map_nodes : (t : Trees P) (k : ℕ) (rest : List ℤ) → OnTrees Changes t → map_rows f (count_of t + k) (rows form t ++ rest) ≡ rows form (changed g t) ++ map_rows f k rest
    unfolding map_rows count_of rows changed OnTrees
    map_nodes end k rest h = let e : 0 + k ≡ k = omega arith in rw e refl
    map_nodes (node l fs c t) k rest h =
        let n : 1 + (count_of c + count_of t) + k ≡ suc (count_of c + (count_of t + k)) = omega arith in
        ap (λ m. map_rows f m (rows form (node l fs c t) ++ rest)) n
        ∙ ap₂ (λ x y. f x ++ map_rows f (count_of c + (count_of t + k)) y) (head l fs c t rest) (tail l fs c t rest)
        ∙ ap₂ ◌++◌ (h.0 ∙ sym (changed_row g (row_of form l).letter (slots_of (g l fs)) c)) (map_nodes c (count_of t + k) (rows form t ++ rest) h.1 ∙ ap (λ x. rows form (changed g c) ++ x) (map_nodes t k rest h.2))
        ∙ sym (split l (g l fs) (changed g c) (changed g t) (map_rows f k rest))

  -- p tests a node's row as q its fields
  module _ (p : List ℤ → Bool) (q : Letter P → List Field → Bool) where
    abbrev pub Tests : Letter P → List Field → Trees P → Type 0
    Tests l fs c = p (row_with l fs c) ≡ q l fs

    pub test_nodes : (t : Trees P) (k : ℕ) (rest : List ℤ) → OnTrees Tests t → all_rows p (count_of t + k) (rows form t ++ rest) ≡ all_nodes q t && all_rows p k rest
    unfolding all_rows count_of rows all_nodes OnTrees
    test_nodes end k rest h = let e : 0 + k ≡ k = omega arith in rw e refl
    test_nodes (node l fs c t) k rest h =
        let n : 1 + (count_of c + count_of t) + k ≡ suc (count_of c + (count_of t + k)) = omega arith in
        ap (λ m. all_rows p m (rows form (node l fs c t) ++ rest)) n
        ∙ ap₂ (λ x y. p x && all_rows p (count_of c + (count_of t + k)) y) (head l fs c t rest) (tail l fs c t rest)
        ∙ ap₂ ◌&&◌ h.0 (test_nodes c (count_of t + k) (rows form t ++ rest) h.1 ∙ ap (λ x. all_nodes q c && x) (test_nodes t k rest h.2) ∙ and_assoc (all_nodes q c) (all_nodes q t) (all_rows p k rest))
        ∙ and_assoc (q l fs) (all_nodes q c && all_nodes q t) (all_rows p k rest)

-- a test that every node passes
pub all_pass : {P : Type 0} (t : Trees P) → all_nodes (λ l fs. true) t ≡ true
unfolding all_nodes
all_pass end = refl
all_pass (node l fs c t) = rw (all_pass c, all_pass t) refl
