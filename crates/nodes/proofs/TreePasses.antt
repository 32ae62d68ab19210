-- A pass over the rows of trees is a change of their nodes' fields.
use Prim.Native.Nat.{◌+◌, suc, ℕ}
use lib.IntN.{pos, ℤ}
use lib.ListN.{drop, get_or, take}
use lib.Seq.{drop_at, take_at}
use mathlib.Core.Bool.{Bool, ◌&&◌, false, true}
use mathlib.Core.List.{List, [], ◌++◌, ◌∷◌, append_assoc}
use mathlib.Core.Path.{◌∙◌, ◌≡◌, ap, ap₂, refl, sym}
use native.Mathlib.Omega.{arith}
use Rattle.language.specs.Text.Classes.{Field}
use Rattle.language.specs.Text.Letters.{Form, Letter, row_of}
use Rattle.language.specs.Text.Reader.{Trees, end, node}
use Rattle.nodes.proofs.Laid.{row_length}
use Rattle.nodes.specs.Pass.{all_rows, map_rows}
use Rattle.nodes.specs.Rows.{behind_first, count_of, first_count, last_slots, link_to, row_for, rows, second_link, slots_of, third_link}

pub and_assoc : (a b c : Bool) → a && (b && c) ≡ (a && b) && c
and_assoc true b c = refl
and_assoc false b c = refl

module _ {P : Type 0} where
  -- trees with each node's fields changed
  unfoldable pub changed : (Letter P → List Field → List Field) → Trees P → Trees P
  changed g end = end
  changed g (node l fs c t) = node l (g l fs) (changed g c) (changed g t)

  -- a test of each node
  unfoldable pub all_nodes : (Letter P → List Field → Bool) → Trees P → Bool
  all_nodes q end = true
  all_nodes q (node l fs c t) = q l fs && (all_nodes q c && all_nodes q t)

  -- what is said of each node
  unfoldable pub OnNodes : (Letter P → List Field → Type 0) → Trees P → Type 0
  OnNodes Q end = Unit {0}
  OnNodes Q (node l fs c t) = Q l fs × OnNodes Q c × OnNodes Q t

  module _ (g : Letter P → List Field → List Field) where
    pub changed_count : (t : Trees P) → count_of (changed g t) ≡ count_of t
    unfolding changed count_of
    changed_count end = refl
    changed_count (node l fs c t) = rw (changed_count c, changed_count t) refl

    changed_first : (t : Trees P) → first_count (changed g t) ≡ first_count t
    unfolding changed first_count
    changed_first end = refl
    changed_first (node l fs c t) = rw (changed_count c) refl

    changed_behind : (t : Trees P) → behind_first (changed g t) ≡ changed g (behind_first t)
    unfolding changed behind_first
    changed_behind end = refl
    changed_behind (node l fs c t) = refl

    changed_link : (t : Trees P) (n : ℕ) → link_to (changed g t) n ≡ link_to t n
    unfolding changed link_to
    changed_link end n = refl
    changed_link (node l fs c t) n = refl

    changed_second : (c : Trees P) → second_link (changed g c) ≡ second_link c
    changed_second c =
        ap (λ t. link_to t (1 + first_count (changed g c))) (changed_behind c) ∙ changed_link (behind_first c) (1 + first_count (changed g c))
        ∙ ap (λ n. link_to (behind_first c) (1 + n)) (changed_first c)

    changed_third : (c : Trees P) → third_link (changed g c) ≡ third_link c
    changed_third c =
        let two : behind_first (behind_first (changed g c)) ≡ changed g (behind_first (behind_first c)) = ap behind_first (changed_behind c) ∙ changed_behind (behind_first c) in
        let one : first_count (behind_first (changed g c)) ≡ first_count (behind_first c) = ap first_count (changed_behind c) ∙ changed_first (behind_first c) in
        ap (λ t. link_to t (1 + (first_count (changed g c) + first_count (behind_first (changed g c))))) two
        ∙ changed_link (behind_first (behind_first c)) (1 + (first_count (changed g c) + first_count (behind_first (changed g c))))
        ∙ ap₂ (λ m n. link_to (behind_first (behind_first c)) (1 + (m + n))) (changed_first c) one

    pub changed_row : (letter : ℕ) (slots : List ℤ) (c : Trees P) → row_for letter slots (changed g c) ≡ row_for letter slots c
    unfolding last_slots changed
    changed_row letter slots end = refl
    changed_row letter slots (node l fs c t) =
        ap₂ (λ m n. pos letter ∷ get_or slots 0 (pos 0) ∷ get_or slots 1 (pos 0) ∷ pos m ∷ pos n ∷ []) (changed_second (node l fs c t)) (changed_third (node l fs c t))

  module _ (form : Form P) where
    -- the first row, and what stands behind it
    module _ (l : Letter P) (fs : List Field) (c t : Trees P) (rest : List ℤ) where
      abbrev first : List ℤ
      first = row_for (row_of form l).letter (slots_of fs) c

      split : rows form (node l fs c t) ++ rest ≡ first ++ (rows form c ++ (rows form t ++ rest))
      unfolding rows
      split = append_assoc first (rows form c ++ rows form t) rest ∙ ap (λ x. first ++ x) (append_assoc (rows form c) (rows form t) rest)

      pub head : take 5 (rows form (node l fs c t) ++ rest) ≡ first
      head = ap (take 5) split ∙ take_at first (rows form c ++ (rows form t ++ rest)) 5 (row_length (row_of form l).letter (slots_of fs) c)

      pub tail : drop 5 (rows form (node l fs c t) ++ rest) ≡ rows form c ++ (rows form t ++ rest)
      tail = ap (drop 5) split ∙ drop_at first (rows form c ++ (rows form t ++ rest)) 5 (row_length (row_of form l).letter (slots_of fs) c)

    -- f changes a node's row as g its fields
    module _ (f : List ℤ → List ℤ) (g : Letter P → List Field → List Field) where
      abbrev pub Changes : Letter P → List Field → Type 0
      Changes l fs = (c : Trees P) → f (row_for (row_of form l).letter (slots_of fs) c) ≡ row_for (row_of form l).letter (slots_of (g l fs)) c

      pub map_trees : (t : Trees P) (k : ℕ) (rest : List ℤ) → OnNodes Changes t → map_rows f (count_of t + k) (rows form t ++ rest) ≡ rows form (changed g t) ++ map_rows f k rest
      unfolding map_rows count_of rows changed OnNodes
      map_trees end k rest h = let e : 0 + k ≡ k = omega arith in rw e refl
      map_trees (node l fs c t) k rest h =
          let n : 1 + (count_of c + count_of t) + k ≡ suc (count_of c + (count_of t + k)) = omega arith in
          ap (λ m. map_rows f m (rows form (node l fs c t) ++ rest)) n
          ∙ ap₂ (λ x y. f x ++ map_rows f (count_of c + (count_of t + k)) y) (head l fs c t rest) (tail l fs c t rest)
          ∙ ap₂ ◌++◌ (h.0 c ∙ sym (changed_row g (row_of form l).letter (slots_of (g l fs)) c)) (map_trees c (count_of t + k) (rows form t ++ rest) h.1 ∙ ap (λ x. rows form (changed g c) ++ x) (map_trees t k rest h.2))
          ∙ sym (split l (g l fs) (changed g c) (changed g t) (map_rows f k rest))

    -- p tests a node's row as q its fields
    module _ (p : List ℤ → Bool) (q : Letter P → List Field → Bool) where
      abbrev pub Tests : Letter P → List Field → Type 0
      Tests l fs = (c : Trees P) → p (row_for (row_of form l).letter (slots_of fs) c) ≡ q l fs

      pub test_trees : (t : Trees P) (k : ℕ) (rest : List ℤ) → OnNodes Tests t → all_rows p (count_of t + k) (rows form t ++ rest) ≡ all_nodes q t && all_rows p k rest
      unfolding all_rows count_of rows all_nodes OnNodes
      test_trees end k rest h = let e : 0 + k ≡ k = omega arith in rw e refl
      test_trees (node l fs c t) k rest h =
          let n : 1 + (count_of c + count_of t) + k ≡ suc (count_of c + (count_of t + k)) = omega arith in
          ap (λ m. all_rows p m (rows form (node l fs c t) ++ rest)) n
          ∙ ap₂ (λ x y. p x && all_rows p (count_of c + (count_of t + k)) y) (head l fs c t rest) (tail l fs c t rest)
          ∙ ap₂ ◌&&◌ (h.0 c) (test_trees c (count_of t + k) (rows form t ++ rest) h.1 ∙ ap (λ x. all_nodes q c && x) (test_trees t k rest h.2) ∙ and_assoc (all_nodes q c) (all_nodes q t) (all_rows p k rest))
          ∙ and_assoc (q l fs) (all_nodes q c && all_nodes q t) (all_rows p k rest)
