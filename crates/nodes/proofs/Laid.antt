-- Trees that lie in the table from a node on: what their rows hold, and where their children and the trees behind them lie.
use Prim.Native.Nat.{◌*◌, ◌+◌, ◌<◌, ◌≤◌, ℕ}
use lib.Dec.{T}
use lib.IntN.{pos, ℤ}
use lib.ListN.{get_or-append, drop, get_or, length, length-append}
use lib.Seq.{drop_at, drop-drop, get_or-drop}
use lib.Signed.{non_neg}
use mathlib.Core.List.{List, [], ◌++◌, ◌∷◌, append_assoc}
use mathlib.Core.Path.{◌∙◌, ◌≡◌, ap, refl, subst, sym}
use native.Mathlib.Omega.{arith}
use Rattle.language.specs.Limits.{max_nodes}
use Rattle.language.specs.Text.Letters.{Form, row_of}
use Rattle.language.specs.Text.Reader.{Trees, end, node}
use Rattle.nodes.specs.Rows.{behind_first, count_of, first_count, last_slots, link_to, row_for, rows, second_link, slots_of, third_link}
use Rattle.nodes.specs.Table.{link_at, slot_at}

module _ {P : Type 0} where
  pub row_length : (letter : ℕ) (slots : List ℤ) (c : Trees P) → length (row_for letter slots c) ≡ 5
  unfolding last_slots
  row_length letter slots end = refl
  row_length letter slots (node l fs c t) = refl

  pub rows_length : (form : Form P) (t : Trees P) → length (rows form t) ≡ 5 * count_of t
  unfolding rows count_of
  rows_length form end = refl
  rows_length form (node l fs c t) =
      length-append (row_for (row_of form l).letter (slots_of fs) c) (rows form c ++ rows form t)
      ∙ omega (arith, row_length (row_of form l).letter (slots_of fs) c, length-append (rows form c) (rows form t), rows_length form c, rows_length form t)

  -- there is a first tree
  abbrev pub IsNode : Trees P → Type 0
  IsNode end = ⊥
  IsNode (node l fs c t) = Unit {0}

  pub link_is : (t : Trees P) (n : ℕ) → IsNode t → link_to t n ≡ n
  unfolding link_to
  link_is end n h = absurd h
  link_is (node l fs c t) n h = refl

  -- the trees t lie in the table from node `at` on
  pub record Laid (form : Form P) (nodes : List ℤ) (at : ℕ) (t : Trees P) : Type 0 where
    pub rest : List ℤ
    pub is : drop (at * 5) nodes ≡ rows form t ++ rest
    pub room : at + count_of t ≤ max_nodes

  module _ (form : Form P) (nodes : List ℤ) where
    pub laid_slot : {at : ℕ} {c t : Trees P} (l : _) (fs : _) → Laid form nodes at (node l fs c t) → (k : ℕ) → k < 5
        → slot_at nodes at k ≡ get_or (row_for (row_of form l).letter (slots_of fs) c) k (pos 0)
    unfolding slot_at rows
    laid_slot {at} {c} {t} l fs h k b =
        sym (get_or-drop (at * 5) nodes k (pos 0)) ∙ ap (λ x. get_or x k (pos 0)) h.is
        ∙ ap (λ x. get_or x k (pos 0)) (append_assoc (row_for (row_of form l).letter (slots_of fs) c) (rows form c ++ rows form t) h.rest)
        ∙ get_or-append (row_for (row_of form l).letter (slots_of fs) c) ((rows form c ++ rows form t) ++ h.rest) (pos 0) k (omega (arith, row_length (row_of form l).letter (slots_of fs) c))

    pub laid_child : {at : ℕ} {c t : Trees P} (l : _) (fs : _) → Laid form nodes at (node l fs c t) → Laid form nodes (at + 1) c
    unfolding rows count_of
    laid_child {at} {c} {t} l fs h = let e : (at + 1) * 5 ≡ at * 5 + 5 = omega arith in record {
      rest = rows form t ++ h.rest;
      is =
          ap (λ n. drop n nodes) e ∙ sym (drop-drop 5 (at * 5) nodes) ∙ ap (drop 5) h.is
          ∙ ap (drop 5) (append_assoc (row_for (row_of form l).letter (slots_of fs) c) (rows form c ++ rows form t) h.rest)
          ∙ drop_at (row_for (row_of form l).letter (slots_of fs) c) ((rows form c ++ rows form t) ++ h.rest) 5 (row_length (row_of form l).letter (slots_of fs) c)
          ∙ append_assoc (rows form c) (rows form t) h.rest;
      room = omega (arith, h.room);
    }

    pub laid_behind : {at : ℕ} {c t : Trees P} (l : _) (fs : _) → Laid form nodes at (node l fs c t) → Laid form nodes (at + (1 + count_of c)) t
    unfolding count_of rows laid_child
    laid_behind {at} {c} {t} l fs h =
        let below : Laid form nodes (at + 1) c = laid_child l fs h in
        let e : (at + (1 + count_of c)) * 5 ≡ (at + 1) * 5 + 5 * count_of c = omega arith in
        record {
          rest = h.rest;
          is =
              ap (λ n. drop n nodes) e ∙ sym (drop-drop (5 * count_of c) ((at + 1) * 5) nodes) ∙ ap (drop (5 * count_of c)) below.is
              ∙ drop_at (rows form c) below.rest (5 * count_of c) (rows_length form c);
          room = omega (arith, h.room);
        }

    -- the first of some trees, and those behind it
    pub laid_rest : {at : ℕ} (t : Trees P) → Laid form nodes at t → Laid form nodes (at + first_count t) (behind_first t)
    unfolding first_count behind_first
    laid_rest {at} end h = let e : at ≡ at + 0 = omega arith in subst (λ n. Laid form nodes n end) e h
    laid_rest {at} (node l fs c t) h = laid_behind l fs h

    -- ---- a node with children: its links

    links : (slots : List ℤ) (c : Trees P) → IsNode c → last_slots slots c ≡ pos (second_link c) ∷ pos (third_link c) ∷ []
    unfolding last_slots
    links slots end h = absurd h
    links slots (node l fs c t) h = refl

    -- no trees lie anywhere; others lie where the link leads
    linked : (at n : ℕ) (t : Trees P) → at ≤ max_nodes → Laid form nodes (at + n) t → Laid form nodes (at + link_to t n) t
    unfolding link_to rows count_of
    linked at n end r h = record { rest = drop ((at + 0) * 5) nodes; is = refl; room = omega arith }
    linked at n (node l fs c t) r h = h

    -- what a walk learns at a node whose children are c
    pub record Inner (at : ℕ) (c : Trees P) : Type 0 where
      pub first : Laid form nodes (at + 1) c
      pub second : Laid form nodes (link_at nodes at 3) (behind_first c)
      pub third : Laid form nodes (link_at nodes at 4) (behind_first (behind_first c))
      pub forward : T (non_neg (slot_at nodes at 3))
      pub forward_again : T (non_neg (slot_at nodes at 4))

    pub inner : {at : ℕ} {c t : Trees P} (l : _) (fs : _) → Laid form nodes at (node l fs c t) → IsNode c → Inner at c
    unfolding link_at
    inner {at} {c} {t} l fs h n =
        let below : Laid form nodes (at + 1) c = laid_child l fs h in
        let last = links (slots_of fs) c n in
        let e₃ : slot_at nodes at 3 ≡ pos (second_link c) = laid_slot l fs h 3 (omega arith) ∙ ap (λ x. get_or x 0 (pos 0)) last in
        let e₄ : slot_at nodes at 4 ≡ pos (third_link c) = laid_slot l fs h 4 (omega arith) ∙ ap (λ x. get_or x 1 (pos 0)) last in
        let p₃ : (at + 1) + first_count c ≡ at + (1 + first_count c) = omega arith in
        let p₄ : ((at + 1) + first_count c) + first_count (behind_first c) ≡ at + (1 + (first_count c + first_count (behind_first c))) = omega arith in
        let r : at ≤ max_nodes = omega (arith, h.room) in
        record {
          first = below;
          second = rw e₃ (linked at (1 + first_count c) (behind_first c) r (subst (λ i. Laid form nodes i (behind_first c)) p₃ (laid_rest c below)));
          third = rw e₄ (linked at (1 + (first_count c + first_count (behind_first c))) (behind_first (behind_first c)) r
              (subst (λ i. Laid form nodes i (behind_first (behind_first c))) p₄ (laid_rest (behind_first c) (laid_rest c below))));
          forward = rw e₃ tt;
          forward_again = rw e₄ tt;
        }
