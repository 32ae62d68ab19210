-- The children of a node that lies in the table: each lies from one of the node's places up to the next.
use Prim.Native.Nat.{◌*◌, ◌+◌, ◌<◌, ◌≤◌, ℕ}
use lib.IntN.{pos, ℤ}
use lib.ListN.{drop, length, length-append, length-drop}
use mathlib.Core.List.{List, [], ◌++◌, append_assoc, append-nil}
use mathlib.Core.Path.{◌∙◌, ◌≡◌, ap, refl, subst, sym}
use native.Mathlib.Omega.{arith}
use Rattle.copies.proofs.Shapes.{Shape, is_node}
use Rattle.copies.specs.Lies.{Lies}
use Rattle.language.specs.Text.Classes.{Field}
use Rattle.language.specs.Text.Letters.{Letter, PlanLetter, plan_form, row_of}
use Rattle.language.specs.Text.Reader.{Trees, end, node}
use Rattle.nodes.proofs.Laid.{IsNode, Laid, laid_behind, laid_child, laid_slot, link_is, rows_length}
use Rattle.nodes.specs.Rows.{behind_first, count_of, first_count, last_slots, link_to, row_for, rows, slots_of}
use Rattle.nodes.specs.Stands.{Forward}
use Rattle.nodes.specs.Table.{link_at, slot_at}

pub laid : {nodes : List ℤ} {from to : ℕ} {t : Trees PlanLetter} → Lies nodes from to t → Laid plan_form nodes from t
laid h = record { rest = h.rest; is = h.is; room = omega (arith, h.ends, h.room) }

-- they lie in any table that is alike from there on
pub lies_kept : {nodes other : List ℤ} {from to : ℕ} {t : Trees PlanLetter} → drop (from * 5) other ≡ drop (from * 5) nodes → Lies nodes from to t → Lies other from to t
lies_kept e h = record { rest = h.rest; is = e ∙ h.is; ends = h.ends; room = h.room }

-- the table reaches as far as they lie
pub lying_length : {nodes : List ℤ} {from to : ℕ} {t : Trees PlanLetter} → from < to → Lies nodes from to t → 5 * to ≤ length nodes
lying_length {nodes} {from} {t = t} s h =
    let n : length (drop (from * 5) nodes) ≡ length (rows plan_form t ++ h.rest) = ap length h.is in
    omega (arith, n, length-drop (from * 5) nodes, length-append (rows plan_form t) h.rest, rows_length plan_form t, h.ends)

nothing_left : count_of {P = PlanLetter} end ≡ 0
unfolding count_of
nothing_left = refl

count_node : (l : Letter PlanLetter) (fs : List Field) (c t : Trees PlanLetter) → count_of (node l fs c t) ≡ 1 + (count_of c + count_of t)
unfolding count_of
count_node l fs c t = refl

-- a node with two children
pub record Two (nodes : List ℤ) (at to : ℕ) (one : Trees PlanLetter → Trees PlanLetter) (two : Trees PlanLetter) : Type 0 where
  pub below : Lies nodes (at + 1) to (one two)
  pub first : Lies nodes (at + 1) (link_at nodes at 3) (one end)
  pub second : Lies nodes (link_at nodes at 3) to two
  pub forward : Forward nodes at 3

-- and one with three
pub record Three (nodes : List ℤ) (at to : ℕ) (one two : Trees PlanLetter → Trees PlanLetter) (three : Trees PlanLetter) : Type 0 where
  pub below : Lies nodes (at + 1) to (one (two three))
  pub first : Lies nodes (at + 1) (link_at nodes at 3) (one end)
  pub second : Lies nodes (link_at nodes at 3) (link_at nodes at 4) (two end)
  pub third : Lies nodes (link_at nodes at 4) to three
  pub forward : Forward nodes at 3
  pub forward_again : Forward nodes at 4

module _ {nodes : List ℤ} where
  lies : {from to : ℕ} {t : Trees PlanLetter} → Laid plan_form nodes from t → to ≡ from + count_of t → Lies nodes from to t
  lies h e = record { rest = h.rest; is = h.is; ends = e; room = omega (arith, h.room) }

  -- the trees below a node
  pub lying_below : {at to : ℕ} {c : Trees PlanLetter} (l : Letter PlanLetter) (fs : List Field) → Lies nodes at to (node l fs c end) → Lies nodes (at + 1) to c
  lying_below {at} {to} {c} l fs h = lies (laid_child plan_form nodes l fs (laid h)) (omega (arith, h.ends, count_node l fs c end, nothing_left))

  -- the first of some trees, and the others
  first_lies : {from to : ℕ} (l : Letter PlanLetter) (fs : List Field) (c t : Trees PlanLetter) → Lies nodes from to (node l fs c t) → {mid : ℕ} → mid ≡ from + (1 + count_of c) → Lies nodes from mid (node l fs c end)
  unfolding rows
  first_lies l fs c t h e = record {
    rest = rows plan_form t ++ h.rest;
    is =
        h.is ∙ append_assoc (row_for (row_of plan_form l).letter (slots_of fs) c) (rows plan_form c ++ rows plan_form t) h.rest
        ∙ ap (λ x. row_for (row_of plan_form l).letter (slots_of fs) c ++ x) (append_assoc (rows plan_form c) (rows plan_form t) h.rest ∙ ap (λ x. x ++ (rows plan_form t ++ h.rest)) (sym (append-nil (rows plan_form c))))
        ∙ sym (append_assoc (row_for (row_of plan_form l).letter (slots_of fs) c) (rows plan_form c ++ []) (rows plan_form t ++ h.rest));
    ends = omega (arith, e, count_node l fs c end, nothing_left);
    room = omega (arith, e, h.ends, h.room, count_node l fs c t);
  }

  others_lie : {from to : ℕ} (l : Letter PlanLetter) (fs : List Field) (c t : Trees PlanLetter) → Lies nodes from to (node l fs c t) → {mid : ℕ} → mid ≡ from + (1 + count_of c) → Lies nodes mid to t
  others_lie {from} {to} l fs c t h e =
      let b : Laid plan_form nodes (from + (1 + count_of c)) t = laid_behind plan_form nodes l fs (laid h) in
      lies (subst (λ i. Laid plan_form nodes i t) (sym e) b) (omega (arith, h.ends, e, count_node l fs c t))

  -- ---- links
  module _ {at to : ℕ} (l : Letter PlanLetter) (fs : List Field) (m : Letter PlanLetter) (gs : List Field) (c t : Trees PlanLetter) (h : Lies nodes at to (node l fs (node m gs c t) end)) where
    to_second : slot_at nodes at 3 ≡ pos (link_to t (1 + (1 + count_of c)))
    unfolding last_slots first_count behind_first
    to_second = laid_slot plan_form nodes l fs (laid h) 3 (omega arith)

    to_third : slot_at nodes at 4 ≡ pos (link_to (behind_first t) (1 + (1 + count_of c + first_count t)))
    unfolding last_slots first_count behind_first
    to_third = laid_slot plan_form nodes l fs (laid h) 4 (omega arith)

    second : IsNode t → link_at nodes at 3 ≡ at + 1 + (1 + count_of c)
    unfolding link_at
    second n = rw (to_second, link_is t (1 + (1 + count_of c)) n) (omega arith)

    third : IsNode (behind_first t) → link_at nodes at 4 ≡ at + 1 + (1 + count_of c) + first_count t
    unfolding link_at
    third n = rw (to_third, link_is (behind_first t) (1 + (1 + count_of c + first_count t)) n) (omega arith)

    forward : Forward nodes at 3
    forward = rw to_second tt

    forward_again_lem : Forward nodes at 4
    forward_again_lem = rw to_third tt

  pub two_lie : {at to : ℕ} (l : Letter PlanLetter) (fs : List Field) {one : Trees PlanLetter → Trees PlanLetter} {two : Trees PlanLetter} → Shape one → IsNode two → Lies nodes at to (node l fs (one two) end) → Two nodes at to one two
  two_lie {at} {to} l fs {one} {two} s n h =
      let g : Lies nodes at to (node l fs (node s.letter s.fields s.below two) end) = subst (λ c. Lies nodes at to (node l fs c end)) (s.is two) h in
      let b = lying_below l fs g in
      let e = second l fs s.letter s.fields s.below two g n in
      record {
        below = lying_below l fs h;
        first = rw (s.is end) (first_lies s.letter s.fields s.below two b e);
        second = others_lie s.letter s.fields s.below two b e;
        forward = forward l fs s.letter s.fields s.below two g;
      }

  pub three_lie : {at to : ℕ} (l : Letter PlanLetter) (fs : List Field) {one two : Trees PlanLetter → Trees PlanLetter} {three : Trees PlanLetter} → Shape one → Shape two → IsNode three
      → Lies nodes at to (node l fs (one (two three)) end) → Three nodes at to one two three
  unfolding first_count behind_first
  three_lie {at} {to} l fs {one} {two} {three} s u n h =
      let p = two_lie l fs s (is_node u three) h in
      let b : Lies nodes (link_at nodes at 3) to (node u.letter u.fields u.below three) = subst (Lies nodes (link_at nodes at 3) to) (u.is three) p.second in
      let g : Lies nodes at to (node l fs (node s.letter s.fields s.below (node u.letter u.fields u.below three)) end) =
      subst (λ c. Lies nodes at to (node l fs c end)) (s.is (two three) ∙ ap (node s.letter s.fields s.below) (u.is three)) h in
      let i = second l fs s.letter s.fields s.below (node u.letter u.fields u.below three) g tt in
      let j = third l fs s.letter s.fields s.below (node u.letter u.fields u.below three) g n in
      let e : link_at nodes at 4 ≡ link_at nodes at 3 + (1 + count_of u.below) = omega (arith, i, j) in
      record {
        below = p.below;
        first = p.first;
        second = rw (u.is end) (first_lies u.letter u.fields u.below three b e);
        third = others_lie u.letter u.fields u.below three b e;
        forward = p.forward;
        forward_again = forward_again_lem l fs s.letter s.fields s.below (node u.letter u.fields u.below three) g;
      }
