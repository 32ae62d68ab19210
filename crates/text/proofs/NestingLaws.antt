-- Laws of open nodes, as the loop over a text goes: a node is opened, is complete, or is followed by the next child of one that waits.
use Prim.Native.Nat.{◌%◌, ◌*◌, ◌+◌, ◌-◌, ◌/◌, ◌<◌, ◌≤◌, suc, zero, ℕ}
use borrow.Author.Tests.{eq-eqb, eqb-false, eqb-true, ne_eqb}
use lib.Dec.{eqb}
use lib.IntN.{pos, ℤ}
use lib.ListN.{get_or, length, length-append, set, take}
use lib.Seq.{get_or-set_other, get_or-set_same, set-append_left, take-set-lt}
use mathlib.Core.Bool.{Bool, false, true}
use mathlib.Core.List.{List, [], ◌++◌, ◌∷◌, append_assoc, append-nil}
use mathlib.Core.Path.{◌∙◌, ◌≡◌, ap, ap₂, refl, sym}
use native.Mathlib.Omega.{arith}
use Rattle.fields.specs.Positions.{rest_at}
use Rattle.language.specs.Answer.{Answer, got, refused}
use Rattle.language.specs.Text.Classes.{Field}
use Rattle.language.specs.Text.Letters.{Form, Kind, Letter, row_of}
use Rattle.language.specs.Text.Reader.{Read, Rest, Trees, end, give, node, read_beside, read_trees, then_read}
use Rattle.nodes.proofs.Laid.{row_length, rows_length}
use Rattle.nodes.specs.Rows.{behind_first, count_of, first_count, last_slots, link_to, row_for, rows, slots_of}
use Rattle.text.specs.Letters.{kind_at, kinds}
use Rattle.text.specs.Rows.{RowBegun, open_row}
use Rattle.text.specs.Trees.{Begun}
use Rattle.text.specs.Whole.{Grown}
use Rattle.text.specs.declared.trees.Head.{Head}
use Rattle.text.proofs.Nesting.{AllSized, Complete, Frame, Going, Kept, Sized, beside, closed, entry_of, frame_row, held, held_count, to_come, waits, width}
use Rattle.text.proofs.RowLaws.{row_behind, row_leaf, row_over}

-- ---- kinds of children

pub kinds_none : (x y z : ℕ) → x ≡ 0 → kinds x y z ≡ []
unfolding kinds
kinds_none x y z e = simp (eq-eqb x 0 e)

pub kinds_some : (x y z : ℕ) → (x ≡ 0 → ⊥) → kinds x y z ≡ kind_at x ∷ kinds y z 0
unfolding kinds
kinds_some x y z e = simp (ne_eqb x 0 e)

-- ---- trees beside each other

module _ {P : Type 0} where
  beside_beside : (t u v : Trees P) → beside (beside t u) v ≡ beside t (beside u v)
  unfolding beside
  beside_beside end u v = refl
  beside_beside (node l fs c t) u v = ap (node l fs c) (beside_beside t u v)

  count_beside : (t u : Trees P) → count_of (beside t u) ≡ count_of t + count_of u
  unfolding beside count_of
  count_beside end u = omega arith
  count_beside (node l fs c t) u = omega (arith, count_beside t u)

  width_beside : (t u : Trees P) → width (beside t u) ≡ width t + width u
  unfolding beside width
  width_beside end u = omega arith
  width_beside (node l fs c t) u = omega (arith, width_beside t u)

  -- one more tree
  one_count : (t : Trees P) (l : Letter P) (fs : List Field) (c : Trees P) → count_of (beside t (node l fs c end)) ≡ count_of t + (1 + count_of c)
  unfolding count_of
  one_count t l fs c = omega (arith, count_beside t (node l fs c end))

  one_width : (t : Trees P) (l : Letter P) (fs : List Field) (c : Trees P) → width (beside t (node l fs c end)) ≡ suc (width t)
  unfolding width
  one_width t l fs c = omega (arith, width_beside t (node l fs c end))

  one_beside : (t : Trees P) (l : Letter P) (fs : List Field) (c u : Trees P) → beside (beside t (node l fs c end)) u ≡ beside t (node l fs c u)
  unfolding beside
  one_beside t l fs c u = beside_beside t (node l fs c end) u

  -- links lead to trees in front of the last only
  last_any : (letter : ℕ) (slots : List ℤ) (t : Trees P) (l m : Letter P) (fs gs : List Field) (c d : Trees P)
      → row_for letter slots (beside t (node l fs c end)) ≡ row_for letter slots (beside t (node m gs d end))
  unfolding beside last_slots link_to first_count behind_first
  last_any letter slots end l m fs gs c d = refl
  last_any letter slots (node a b e end) l m fs gs c d = refl
  last_any letter slots (node a b e (node a' b' e' end)) l m fs gs c d = refl
  last_any letter slots (node a b e (node a' b' e' (node a'' b'' e'' t))) l m fs gs c d = refl

  -- the next child begins: one more link
  link_row : (letter : ℕ) (slots : List ℤ) (t : Trees P) (l m : Letter P) (fs gs : List Field) (c : Trees P) (k v : ℕ) → k ≡ width t → width t ≤ 1 → v ≡ 1 + (count_of t + (1 + count_of c))
      → set (row_for letter slots (beside t (node m gs end end))) (3 + k) (pos v) ≡ row_for letter slots (beside (beside t (node l fs c end)) (node m gs end end))
  unfolding beside last_slots link_to first_count behind_first width count_of
  link_row letter slots end l m fs gs c k v e h q = let r : v ≡ 1 + (1 + count_of c) = omega arith in rw (e, r) refl
  link_row letter slots (node a b d end) l m fs gs c k v e h q = let r : v ≡ 1 + (1 + count_of d + (1 + count_of c)) = omega arith in rw (e, r) refl
  link_row letter slots (node a b d (node a' b' d' t)) l m fs gs c k v e h q = absurd (omega arith)

  module _ (form : Form P) where
    rows_beside : (t u : Trees P) → rows form (beside t u) ≡ rows form t ++ rows form u
    unfolding beside rows
    rows_beside end u = refl
    rows_beside (node l fs c t) u =
        let row : List ℤ = row_for (row_of form l).letter (slots_of fs) c in
        ap (λ (x : List ℤ). row ++ (rows form c ++ x)) (rows_beside t u)
        ∙ ap (λ (x : List ℤ). row ++ x) (sym (append_assoc (rows form c) (rows form t) (rows form u)))
        ∙ sym (append_assoc row (rows form c ++ rows form t) (rows form u))

    rows_one : (t : Trees P) (l : Letter P) (fs : List Field) (c : Trees P) → rows form (beside t (node l fs c end)) ≡ rows form t ++ (row_for (row_of form l).letter (slots_of fs) c ++ rows form c)
    unfolding rows
    rows_one t l fs c =
        rows_beside t (node l fs c end)
        ∙ ap (λ (x : List ℤ). rows form t ++ (row_for (row_of form l).letter (slots_of fs) c ++ x)) (append-nil (rows form c))

-- ---- what the code keeps

module _ {P : Type 0} where
  waits_none : (f : Frame P) (fs : List (Frame P)) → f.next ≡ 0 → waits (f ∷ fs) ≡ waits fs
  unfolding waits
  waits_none f fs e = rw (eq-eqb f.next 0 e) refl

  waits_some : (f : Frame P) (fs : List (Frame P)) → (f.next ≡ 0 → ⊥) → waits (f ∷ fs) ≡ suc (waits fs)
  unfolding waits
  waits_some f fs n = rw (ne_eqb f.next 0 n) refl

  pub waits_few : (fs : List (Frame P)) → waits fs ≤ length fs
  unfolding waits
  waits_few [] = omega arith
  waits_few (f ∷ fs) = go (eqb f.next 0) refl (waits_few fs)
    where
      go : (b : Bool) → eqb f.next 0 ≡ b → waits fs ≤ length fs → waits (f ∷ fs) ≤ suc (length fs)
      go true e few = omega (arith, waits_none f fs (eqb-true f.next 0 e), few)
      go false e few = omega (arith, waits_some f fs (eqb-false f.next 0 e), few)

  -- a store behind all entries
  kept_set : (fs : List (Frame P)) (stack : List ℕ) (i v : ℕ) → waits fs ≤ i → Kept fs stack → Kept fs (set stack i v)
  unfolding Kept
  kept_set [] stack i v h k = tt
  kept_set (f ∷ fs) stack i v h k = go (eqb f.next 0) refl (λ l. kept_set fs stack i v l k.1)
    where
      go : (b : Bool) → eqb f.next 0 ≡ b → (waits fs ≤ i → Kept fs (set stack i v)) → Kept (f ∷ fs) (set stack i v)
      go true e below =
          let z : f.next ≡ 0 = eqb-true f.next 0 e in
          (λ n. absurd (n z), below (omega (arith, waits_none f fs z)))
      go false e below =
          let w = waits_some f fs (eqb-false f.next 0 e) in
          (λ q. get_or-set_other stack i (waits fs) v 0 (λ s. omega (arith, s, w)) ∙ k.0 q, below (omega (arith, w)))

-- ---- rows

set_behind : (xs ys : List ℤ) (i : ℕ) (a : ℤ) → set (xs ++ ys) (length xs + i) a ≡ xs ++ set ys i a
set_behind [] ys i a = let e : 0 + i ≡ i = omega arith in rw e refl
set_behind (x ∷ xs) ys i a =
    let e : length (x ∷ xs) + i ≡ suc (length xs + i) = omega arith in
    ap (λ (k : ℕ). set (x ∷ (xs ++ ys)) k a) e ∙ ap (λ (l : List ℤ). x ∷ l) (set_behind xs ys i a)

module _ {P : Type 0} (form : Form P) where
  held_length : (fs : List (Frame P)) → length (held form fs) ≡ 5 * held_count fs
  unfolding held held_count
  held_length [] = refl
  held_length (f ∷ fs) =
      omega (
        arith,
        length-append (held form fs) (frame_row form f ++ rows form f.done),
        length-append (frame_row form f) (rows form f.done),
        held_length fs,
        row_length (row_of form f.sort).letter (slots_of f.values) (beside f.done (node f.sort [] end end)),
        rows_length form f.done,
      )

  no_kinds : (d : ℕ) (s : Rest) → read_trees form d [] s ≡ give end s
  unfolding read_trees read_beside
  no_kinds zero s = refl
  no_kinds (suc d) s = refl

  -- a tree in front of those that are read
  shifted : (a : Answer (Read (Trees P))) (f : Trees P → Rest → Answer (Read (Trees P))) (g : Trees P → Trees P) → then_read (then_read a (λ u. give (g u))) f ≡ then_read a (λ u. f (g u))
  shifted (refused n) f g = refl
  shifted (got r) f g = refl

  alike : (a : Answer (Read (Trees P))) (f g : Trees P → Rest → Answer (Read (Trees P))) → ((u : Trees P) (s : Rest) → f u s ≡ g u s) → then_read a f ≡ then_read a g
  alike (refused n) f g e = refl
  alike (got r) f g e = e r.value r.rest

  pub closed_refused : (fs : List (Frame P)) (n : ℕ) → closed form fs (refused n) ≡ refused n
  unfolding closed
  closed_refused [] n = refl
  closed_refused (f ∷ fs) n = closed_refused fs n

  module _ (text : List ℕ) (nodes : List ℤ) (stack : List ℕ) where
    -- ---- a node is complete

    module _ (sort : Letter P) (values : List Field) (below : Trees P) (at count waiting : ℕ) where
      abbrev new_row : List ℤ
      new_row = row_for (row_of form sort).letter (slots_of values) below

      all_done : Complete form text nodes stack [] sort values below at count waiting → Grown form text nodes at count
      unfolding held held_count count_of rows closed
      all_done c = record {
        tree = node sort values below end;
        is = c.is ∙ ap (λ (a : Answer (Read (Trees P))). then_read a (λ u. give (node sort values below u))) (no_kinds 32 (rest_at text at count));
        counted = omega (arith, c.counted);
        holds = c.holds ∙ ap (λ (l : List ℤ). new_row ++ l) (sym (append-nil (rows form below)));
      }

      -- and so is the one above it, where no child of that is to come
      above_done : (f : Frame P) (fs : List (Frame P)) → f.next ≡ 0 → Complete form text nodes stack (f ∷ fs) sort values below at count waiting
          → Complete form text nodes stack fs f.sort f.values (beside f.done (node sort values below end)) at count waiting
      unfolding held held_count AllSized Kept closed
      above_done f fs e c =
          let letter : ℕ = (row_of form f.sort).letter in
          record {
            deep = omega (arith, c.deep);
            wait = c.wait ∙ waits_none f fs e;
            kept = c.kept.1;
            sized = c.sized.1;
            counted = omega (arith, c.counted, one_count f.done sort values below);
            holds =
                c.holds ∙ append_assoc (held form fs) (frame_row form f ++ rows form f.done) (new_row ++ rows form below)
                ∙ ap (λ (l : List ℤ). held form fs ++ l) (append_assoc (frame_row form f) (rows form f.done) (new_row ++ rows form below))
                ∙ ap₂ (λ (x y : List ℤ). held form fs ++ (x ++ y)) (last_any letter (slots_of f.values) f.done f.sort sort [] values end below) (sym (rows_one form f.done sort values below));
            is =
                c.is
                ∙ ap (λ (a : Answer (Read (Trees P))). closed form fs (then_read (then_read a (λ u. give (node sort values below u)))
                (λ t s. then_read (read_trees form (32 - length fs) (to_come fs) s) (λ u. give (node f.sort f.values (beside f.done t) u)))))
                (ap (λ (ks : List Kind). read_trees form (32 - length (f ∷ fs)) ks (rest_at text at count)) (kinds_none f.next f.later 0 e) ∙ no_kinds (32 - length (f ∷ fs)) (rest_at text at count));
          }

    -- the innermost node that waits, with its child that is complete
    pub record Waiter (at count waiting : ℕ) : Type 0 where
      pub frame : Frame P
      pub frames : List (Frame P)
      pub some_kind : frame.next ≡ 0 → ⊥
      pub sort : Letter P
      pub values : List Field
      pub below : Trees P
      pub complete : Complete form text nodes stack (frame ∷ frames) sort values below at count waiting

    pub finished : (fs : List (Frame P)) (sort : Letter P) (values : List Field) (below : Trees P) (at count waiting : ℕ)
        → Complete form text nodes stack fs sort values below at count waiting → waiting ≡ 0 → Grown form text nodes at count
    finished [] sort values below at count waiting c z = all_done sort values below at count waiting c
    finished (f ∷ fs) sort values below at count waiting c z =
        go (eqb f.next 0) refl (λ a. finished fs f.sort f.values (beside f.done (node sort values below end)) at count waiting a z)
      where
        go : (b : Bool) → eqb f.next 0 ≡ b → (Complete form text nodes stack fs f.sort f.values (beside f.done (node sort values below end)) at count waiting → Grown form text nodes at count)
            → Grown form text nodes at count
        go true e above = above (above_done sort values below at count waiting f fs (eqb-true f.next 0 e) c)
        go false e above = absurd (omega (arith, c.wait, z, waits_some f fs (eqb-false f.next 0 e)))

    pub waiter : (fs : List (Frame P)) (sort : Letter P) (values : List Field) (below : Trees P) (at count waiting : ℕ)
        → Complete form text nodes stack fs sort values below at count waiting → (waiting ≡ 0 → ⊥) → Waiter at count waiting
    unfolding waits
    waiter [] sort values below at count waiting c n = absurd (n c.wait)
    waiter (f ∷ fs) sort values below at count waiting c n =
        go (eqb f.next 0) refl (λ a. waiter fs f.sort f.values (beside f.done (node sort values below end)) at count waiting a n)
      where
        go : (b : Bool) → eqb f.next 0 ≡ b → (Complete form text nodes stack fs f.sort f.values (beside f.done (node sort values below end)) at count waiting → Waiter at count waiting)
            → Waiter at count waiting
        go true e above = above (above_done sort values below at count waiting f fs (eqb-true f.next 0 e) c)
        go false e above = record { frame = f; frames = fs; some_kind = eqb-false f.next 0 e; sort = sort; values = values; below = below; complete = c }

-- ---- what an entry says

module _ (own left w x y e : ℕ) (a : left < 64) (b : w ≤ 1) (c : x ≤ 3) (d : y ≤ 3) (is : e ≡ own * 2048 + left * 32 + w * 16 + x + 4 * y) where
  entry_own : e / 2048 ≡ own
  entry_own = omega (arith, is)

  entry_left : e / 32 % 64 ≡ left
  entry_left = omega (arith, is)

  entry_third : e / 16 % 2 ≡ w
  entry_third = omega (arith, is)

  entry_kind : e % 4 ≡ x
  entry_kind = omega (arith, is)

  entry_rest : e % 16 ≡ x + 4 * y
  entry_rest = omega (arith, is)

module _ {P : Type 0} (form : Form P) (text : List ℕ) where
  -- ---- a node is opened

  module _ (old new : List ℤ) (stack : List ℕ) (at kind count left waiting next kids : ℕ) (fits : 5 * count + 5 ≤ length old)
      (g : Going form text old stack at kind count left waiting) (r : RowBegun form left (kind_at kind) text at old new count next kids) where
    abbrev h : Head
    h = r.head

    abbrev b : Begun form left (kind_at kind) text at count h
    b = r.begun

    first_kind : kids % 4 ≡ h.kid1
    first_kind = omega (arith, r.children, b.small.0)

    second_kind : kids / 4 % 4 ≡ h.kid2
    second_kind = omega (arith, r.children, b.small.0, b.small.1)

    opened_rows : (row : List ℤ) → open_row h ≡ row → take (5 * (count + 1)) new ≡ held form g.frames ++ row
    opened_rows row e =
        ap (take (5 * (count + 1))) r.row ∙ row_behind old (open_row h) count refl fits
        ∙ ap₂ (λ (x y : List ℤ). x ++ y) g.holds e

    plus_nothing : (own d x y : ℕ) → own * 2048 + d * 32 + (x + 4 * y) ≡ own * 2048 + d * 32 + 0 * 16 + x + 4 * y
    plus_nothing own d x y = omega arith

    -- it has no children
    pub leaf_done : kids % 4 ≡ 0 → Complete form text new stack g.frames b.sort b.values end next (count + 1) waiting
    unfolding count_of rows
    leaf_done z =
        let none : h.kid1 ≡ 0 = sym first_kind ∙ z in
        record {
          deep = g.deep;
          wait = g.wait;
          kept = g.kept;
          sized = g.sized;
          counted = omega (arith, g.counted);
          holds = opened_rows _ (row_leaf h b.values (row_of form b.sort).letter b.byte b.first b.second P b.third b.fourth none) ∙ ap (λ (l : List ℤ). held form g.frames ++ l) (sym (append-nil _));
          is =
              g.is
              ∙ ap (closed form g.frames) (b.is (to_come g.frames)
              ∙ ap (λ (a : Answer (Read (Trees P))). then_read a (λ t s. then_read (read_trees form left (to_come g.frames) s) (λ u. give (node b.sort b.values t u))))
              (ap (λ (ks : List Kind). read_trees form (left - 1) ks (rest_at text h.next (count + 1))) (kinds_none h.kid1 h.kid2 h.kid3 none) ∙ no_kinds form (left - 1) (rest_at text h.next (count + 1)))
              ∙ ap₂ (λ (n d : ℕ). then_read (read_trees form d (to_come g.frames) (rest_at text n (count + 1))) (λ u. give (node b.sort b.values end u))) r.behind g.level);
        }

    -- it has some
    abbrev frame : Frame P
    frame = record { sort = b.sort; values = b.values; done = end; next = h.kid2; later = h.kid3 }

    module _ (some_kind : kids % 4 ≡ 0 → ⊥) where
      inside : (stack' : List ℕ) (waiting' : ℕ) → waiting' ≡ waits (frame ∷ g.frames) → Kept (frame ∷ g.frames) stack' → Going form text new stack' next (kids % 4) (count + 1) (left - 1) waiting'
      unfolding held_count held AllSized count_of rows closed beside width
      inside stack' waiting' w k =
          let n : h.kid1 ≡ 0 → ⊥ = λ e. some_kind (first_kind ∙ e) in
          record {
            frames = frame ∷ g.frames;
            deep = omega (arith, g.level, b.level);
            level = omega (arith, g.level);
            wait = w;
            kept = k;
            sized = (record { next = b.small.1; later = b.small.2; second = λ e. omega arith; third = λ e. refl }, g.sized);
            counted = omega (arith, g.counted);
            holds = opened_rows _ (row_over h b.values (row_of form b.sort).letter b.byte b.first b.second n b.sort) ∙ ap (λ (l : List ℤ). held form g.frames ++ l) (sym (append-nil _));
            is =
                g.is
                ∙ ap (closed form g.frames) (b.is (to_come g.frames)
                ∙ ap₂ (λ (ks : List Kind) (m : ℕ). then_read (read_trees form (left - 1) ks (rest_at text m (count + 1))) (λ t s. then_read (read_trees form left (to_come g.frames) s) (λ u. give (node b.sort b.values t u))))
                (kinds_some h.kid1 h.kid2 h.kid3 n ∙ ap (λ (x : ℕ). kind_at x ∷ kinds h.kid2 h.kid3 0) (sym first_kind)) r.behind
                ∙ ap (λ (d : ℕ). then_read (read_trees form (left - 1) (kind_at (kids % 4) ∷ kinds h.kid2 h.kid3 0) (rest_at text next (count + 1))) (λ t s. then_read (read_trees form d (to_come g.frames) s) (λ u. give (node b.sort b.values t u)))) g.level);
          }

      -- one child only
      pub inside_last : kids / 4 % 4 ≡ 0 → Going form text new stack next (kids % 4) (count + 1) (left - 1) waiting
      unfolding Kept
      inside_last z =
          let none : h.kid2 ≡ 0 = sym second_kind ∙ z in
          inside stack waiting (g.wait ∙ sym (waits_none frame g.frames none)) (λ n. absurd (n none), g.kept)

      -- more to come
      pub inside_waits : (kids / 4 % 4 ≡ 0 → ⊥) → length stack ≡ 32 → (v : ℕ) → v ≡ count * 2048 + (left - 1) * 32 + kids / 4
          → Going form text new (set stack waiting v) next (kids % 4) (count + 1) (left - 1) (waiting + 1)
      unfolding Kept width
      inside_waits m s v e =
          let n : h.kid2 ≡ 0 → ⊥ = λ z. m (second_kind ∙ z) in
          let q : kids / 4 ≡ h.kid2 + 4 * h.kid3 = omega (arith, r.children, b.small.0) in
          let few : waiting < 32 = omega (arith, g.wait, waits_few g.frames, g.level, b.level) in
          let l : left - 1 ≡ 31 - length g.frames = omega (arith, g.level, b.level) in
          let own : ℕ = held_count g.frames in
          inside (set stack waiting v) (waiting + 1) (omega (arith, g.wait, waits_some frame g.frames n)) (
            λ k. ap (λ (i : ℕ). get_or (set stack waiting v) i 0) (sym g.wait) ∙ get_or-set_same stack waiting v 0 (omega (arith, s, few))
                ∙ e ∙ ap (λ (n : ℕ). n * 2048 + (left - 1) * 32 + kids / 4) g.counted ∙ ap₂ (λ (d m : ℕ). own * 2048 + d * 32 + m) l q ∙ plus_nothing own (31 - length g.frames) h.kid2 h.kid3,
            kept_set g.frames stack waiting v (omega (arith, g.wait)) g.kept,
          )

  -- ---- the next child of a node that waits

  module _ (nodes : List ℤ) (stack : List ℕ) (at count waiting : ℕ) (w : Waiter form text nodes stack at count waiting) where
    abbrev f : Frame P
    f = w.frame

    abbrev c : Complete form text nodes stack (f ∷ w.frames) w.sort w.values w.below at count waiting
    c = w.complete

    abbrev entry : ℕ
    entry = get_or stack (waiting - 1) 0

    place : waiting ≡ suc (waits w.frames)
    place = c.wait ∙ waits_some f w.frames w.some_kind

    entry_is : entry ≡ entry_of (held_count w.frames) (31 - length w.frames) f
    unfolding Kept
    entry_is = let q : waiting - 1 ≡ waits w.frames = omega (arith, place) in ap (λ (i : ℕ). get_or stack i 0) q ∙ c.kept.0 w.some_kind

    size : Sized f
    unfolding AllSized
    size = c.sized.0

    one : width f.done ≤ 1
    one = size.second w.some_kind

    level : 31 - length w.frames < 64
    level = omega arith

    pub own_is : entry / 2048 ≡ held_count w.frames
    own_is = entry_own _ _ (width f.done) f.next f.later entry level one size.next size.later entry_is

    left_is : entry / 32 % 64 ≡ 31 - length w.frames
    left_is = entry_left (held_count w.frames) _ (width f.done) f.next f.later entry level one size.next size.later entry_is

    third_is : entry / 16 % 2 ≡ width f.done
    third_is = entry_third (held_count w.frames) (31 - length w.frames) _ f.next f.later entry level one size.next size.later entry_is

    kind_is : entry % 4 ≡ f.next
    kind_is = entry_kind (held_count w.frames) (31 - length w.frames) (width f.done) _ f.later entry level one size.next size.later entry_is

    rest_is : entry % 16 ≡ f.next + 4 * f.later
    rest_is = entry_rest (held_count w.frames) (31 - length w.frames) (width f.done) _ _ entry level one size.next size.later entry_is

    count_is : count ≡ held_count w.frames + (1 + count_of f.done) + (1 + count_of w.below)
    unfolding held_count
    count_is = c.counted

    -- what the loop asks for
    pub few_waiting : waiting ≤ 32
    few_waiting = omega (arith, place, waits_few w.frames, c.deep)

    pub kind_some : (entry % 4 ≡ 0 → ⊥)
    kind_some e = w.some_kind (sym kind_is ∙ e)

    pub own_before : entry / 2048 < count
    own_before = omega (arith, own_is, count_is)

    abbrev next : Frame P
    next = record { sort = f.sort; values = f.values; done = beside f.done (node w.sort w.values w.below end); next = f.later; later = 0 }

    linked_rows : take (5 * count) (set nodes (5 * (entry / 2048) + 3 + entry / 16 % 2) (pos (count - entry / 2048))) ≡ held form w.frames ++ (frame_row form next ++ rows form next.done)
    unfolding held
    linked_rows =
        let own : ℕ = held_count w.frames in
        let k : ℕ = entry / 16 % 2 in
        let v : ℕ = count - entry / 2048 in
        let A : List ℤ = held form w.frames in
        let R : List ℤ = frame_row form f in
        let S : List ℤ = rows form f.done in
        let X : List ℤ = row_for (row_of form w.sort).letter (slots_of w.values) w.below ++ rows form w.below in
        let five : length R ≡ 5 = row_length (row_of form f.sort).letter (slots_of f.values) (beside f.done (node f.sort [] end end)) in
        let i : 5 * (entry / 2048) + 3 + k ≡ length A + (3 + k) = omega (arith, own_is, held_length form w.frames) in
        let vv : v ≡ 1 + (count_of f.done + (1 + count_of w.below)) = omega (arith, own_is, count_is) in
        take-set-lt (5 * count) nodes (5 * (entry / 2048) + 3 + k) (pos v) (omega (arith, own_is, count_is, third_is, one))
        ∙ ap₂ (λ (l : List ℤ) (j : ℕ). set l j (pos v)) (c.holds ∙ append_assoc A (R ++ S) X ∙ ap (λ (l : List ℤ). A ++ l) (append_assoc R S X)) i
        ∙ set_behind A (R ++ (S ++ X)) (3 + k) (pos v)
        ∙ ap (λ (l : List ℤ). A ++ l) (set-append_left R (S ++ X) (3 + k) (pos v) (omega (arith, five, third_is, one))
        ∙ ap₂ (λ (x y : List ℤ). x ++ y) (link_row (row_of form f.sort).letter (slots_of f.values) f.done w.sort f.sort w.values [] w.below k v third_is one vv)
        (sym (rows_one form f.done w.sort w.values w.below)))

    follows : (stack' : List ℕ) (waiting' : ℕ) → waiting' ≡ waits (next ∷ w.frames) → Kept (next ∷ w.frames) stack'
        → Going form text (set nodes (5 * (entry / 2048) + 3 + entry / 16 % 2) (pos (count - entry / 2048))) stack' at (entry % 4) count (entry / 32 % 64) waiting'
    unfolding held_count held AllSized closed
    follows stack' waiting' q k = let lv : 32 - length (f ∷ w.frames) ≡ entry / 32 % 64 = omega (arith, left_is, c.deep) in record {
      frames = next ∷ w.frames;
      deep = c.deep;
      level = omega (arith, left_is, c.deep);
      wait = q;
      kept = k;
      sized = (
        record {
          next = size.later;
          later = omega arith;
          second = λ e. omega (arith, size.third e, one_width f.done w.sort w.values w.below);
          third = λ e. absurd (e refl);
        },
        c.sized.1,
      );
      counted = omega (arith, count_is, one_count f.done w.sort w.values w.below);
      holds = linked_rows;
      is =
          c.is
          ∙ ap (closed form w.frames) (shifted form (read_trees form (32 - length (f ∷ w.frames)) (kinds f.next f.later 0) (rest_at text at count))
          (λ t s. then_read (read_trees form (32 - length w.frames) (to_come w.frames) s) (λ u. give (node f.sort f.values (beside f.done t) u))) (node w.sort w.values w.below)
          ∙ alike form (read_trees form (32 - length (f ∷ w.frames)) (kinds f.next f.later 0) (rest_at text at count)) _ _
          (λ t s. ap (λ (x : Trees P). then_read (read_trees form (32 - length w.frames) (to_come w.frames) s) (λ u. give (node f.sort f.values x u))) (sym (one_beside f.done w.sort w.values w.below t)))
          ∙ ap₂ (λ (d : ℕ) (ks : List Kind). then_read (read_trees form d ks (rest_at text at count))
          (λ t s. then_read (read_trees form (32 - length w.frames) (to_come w.frames) s) (λ u. give (node f.sort f.values (beside next.done t) u))))
          lv (kinds_some f.next f.later 0 w.some_kind ∙ ap (λ (x : ℕ). kind_at x ∷ kinds f.later 0 0) (sym kind_is)));
    }

    -- it was the last to come
    pub follows_last : entry % 16 < 4
        → Going form text (set nodes (5 * (entry / 2048) + 3 + entry / 16 % 2) (pos (count - entry / 2048))) stack at (entry % 4) count (entry / 32 % 64) (waiting - 1)
    unfolding Kept
    follows_last h =
        let none : f.later ≡ 0 = omega (arith, rest_is, h) in
        follows stack (waiting - 1) (omega (arith, place, waits_none next w.frames none)) (λ n. absurd (n none), c.kept.1)

    -- a third comes after it
    pub follows_waits : (entry % 16 < 4 → ⊥) → length stack ≡ 32 → (v : ℕ) → v ≡ entry - entry % 16 + 16 + entry % 16 / 4
        → Going form text (set nodes (5 * (entry / 2048) + 3 + entry / 16 % 2) (pos (count - entry / 2048))) (set stack (waiting - 1) v) at (entry % 4) count (entry / 32 % 64) waiting
    unfolding Kept
    follows_waits m s v e =
        let n : f.later ≡ 0 → ⊥ = λ z. m (omega (arith, rest_is, z, size.next)) in
        let zero-width : width f.done ≡ 0 = size.third n in
        let q : waiting - 1 ≡ waits w.frames = omega (arith, place) in
        follows (set stack (waiting - 1) v) waiting (omega (arith, place, waits_some next w.frames n)) (
          λ k. ap (λ (i : ℕ). get_or (set stack (waiting - 1) v) i 0) (sym q) ∙ get_or-set_same stack (waiting - 1) v 0 (omega (arith, s, few_waiting, place))
              ∙ omega (arith, e, rest_is, entry_is, zero-width, size.next, one_width f.done w.sort w.values w.below),
          kept_set w.frames stack (waiting - 1) v (omega (arith, q)) c.kept.1,
        )
