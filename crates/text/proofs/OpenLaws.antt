-- Laws of a node's letter and fields: each says what one way through the code comes to.
use Prim.Native.Nat.{◌+◌, ◌-◌, ◌<◌, ◌≤◌, suc, zero, ℕ}
use borrow.Author.Tests.{eqb-false, eqb-true}
use lib.Dec.{eqb}
use lib.IntN.{ℤ}
use lib.ListN.{drop, length}
use mathlib.Core.Bool.{Bool, cond, false, true}
use mathlib.Core.List.{List, [], ◌∷◌}
use mathlib.Core.Option.{Option, none, some}
use mathlib.Core.Path.{◌∙◌, ◌≡◌, ap, refl, sym}
use native.Mathlib.Numerals.{sub-one}
use native.Mathlib.Omega.{arith}
use Rattle.fields.proofs.Positions.{first_field, from_behind}
use Rattle.fields.specs.Fields.{Four, Malformed, classes_of_three}
use Rattle.fields.specs.Positions.{fields_from, rest_at, up_to}
use Rattle.language.specs.Answer.{got, refused}
use Rattle.language.specs.Text.Classes.{Field}
use Rattle.language.specs.Text.Letters.{Form, Kind, Letter, amount, kind_of, letter_among, letter_in, root, roots_then, row_of, of_same_kind, test}
use Rattle.language.specs.Text.Reader.{Rest, give, node, node_letter, read_beside, read_fields, read_trees, then_read}
use Rattle.text.specs.Letters.{ShapeFor, ShapeIs, Shaped, kind_at, kind_number}
use Rattle.text.specs.Trees.{Begun, Refuses}
use Rattle.text.specs.declared.letters.Shape.{Shape}

-- ---- kinds

pub same_kind : (k : ℕ) (j : Kind) → kind_number j ≡ k → of_same_kind (kind_at k) j ≡ true
unfolding kind_at
same_kind k root e = rw (sym e) refl
same_kind k amount e = rw (sym e) refl
same_kind k test e = rw (sym e) refl

pub other_kind : (k : ℕ) (j : Kind) → 0 < k → k ≤ 3 → (kind_number j ≡ k → ⊥) → of_same_kind (kind_at k) j ≡ false
unfolding kind_at
other_kind k j p q n = go (eqb k 1) (eqb k 2) refl refl j n
  where
    go : (a b : Bool) → eqb k 1 ≡ a → eqb k 2 ≡ b → (j : Kind) → (kind_number j ≡ k → ⊥) → of_same_kind (cond a root (cond b amount test)) j ≡ false
    go true b e f root n = absurd (n (sym (eqb-true k 1 e)))
    go true b e f amount n = refl
    go true b e f test n = refl
    go false true e f root n = refl
    go false true e f amount n = absurd (n (sym (eqb-true k 2 f)))
    go false true e f test n = refl
    go false false e f root n = refl
    go false false e f amount n = refl
    go false false e f test n = let a = eqb-false k 1 e in let b = eqb-false k 2 f in absurd (n (three a b))
      where
        three : (k ≡ 1 → ⊥) → (k ≡ 2 → ⊥) → 3 ≡ k
        three a b = omega arith

pub positive_level : (left : ℕ) → (left ≡ 0 → ⊥) → 0 < left
positive_level left n = omega arith

module _ {P : Type 0} (form : Form P) where
  abbrev find : ℕ → Option (Letter P)
  find b = letter_among form (roots_then form form.letters) b

  number_some : (j : Kind) → kind_number j ≡ 0 → ⊥
  number_some root e = omega arith
  number_some amount e = omega arith
  number_some test e = omega arith

  shape_none : (b : ℕ) (s : Shape) → ShapeIs form b s → s.kind ≡ 0 → find b ≡ none
  shape_none b s h e = go (find b) h
    where
      go : (o : Option (Letter P)) → ShapeFor form b o s → o ≡ none
      go none h = refl
      go (some l) h = absurd (number_some (kind_of form l) (sym h.sort ∙ e))

  pub record Found (b : ℕ) (s : Shape) : Type 0 where
    pub letter : Letter P
    pub is : find b ≡ some letter
    pub shape : Shaped form b letter s

  found : (b : ℕ) (s : Shape) → ShapeIs form b s → (s.kind ≡ 0 → ⊥) → Found b s
  found b s h n = go (find b) refl h
    where
      go : (o : Option (Letter P)) → find b ≡ o → ShapeFor form b o s → Found b s
      go none e h = absurd (n h)
      go (some l) e h = record { letter = l; is = e; shape = h }

  -- ---- the letter of a node

  module _ (k : Kind) (n : ℕ) (fs : List (List ℕ)) where
    letter_missing : fs ≡ [] → node_letter form k (record { nodes = n; fields = fs }) ≡ refused 2
    unfolding node_letter
    letter_missing e = rw e refl

    module _ (f : List ℕ) (rest : List (List ℕ)) (e : fs ≡ f ∷ rest) where
      letter_unknown : letter_in form f ≡ none → node_letter form k (record { nodes = n; fields = fs }) ≡ refused 2
      unfolding node_letter
      letter_unknown h = rw (e, h) refl

      module _ (l : Letter P) (h : letter_in form f ≡ some l) where
        letter_kind : of_same_kind k (kind_of form l) ≡ false → node_letter form k (record { nodes = n; fields = fs }) ≡ refused 5
        unfolding node_letter
        letter_kind q = rw (e, h, q) refl

        letter_full : of_same_kind k (kind_of form l) ≡ true → n ≡ 0 → node_letter form k (record { nodes = n; fields = fs }) ≡ refused 3
        unfolding node_letter
        letter_full q z = rw (e, h, q, z) refl

        pub letter_got : (m : ℕ) → of_same_kind k (kind_of form l) ≡ true → n ≡ suc m
            → node_letter form k (record { nodes = n; fields = fs }) ≡ got (record { value = l; rest = record { nodes = m; fields = rest } })
        unfolding node_letter
        letter_got m q z = rw (e, h, q, z) refl

  -- ---- the node, and others of the kinds ks beside it

  module _ (k : Kind) (ks : List Kind) (s : Rest) where
    letter_refused : (left n : ℕ) → node_letter form k s ≡ refused n → read_trees form left (k ∷ ks) s ≡ refused n
    unfolding read_trees read_beside
    letter_refused zero n e = rw e refl
    letter_refused (suc d) n e = rw e refl

    module _ (l : Letter P) (s' : Rest) (e : node_letter form k s ≡ got (record { value = l; rest = s' })) where
      too_deep : (left : ℕ) → left ≡ 0 → read_trees form left (k ∷ ks) s ≡ refused 4
      unfolding read_trees
      too_deep left z = rw (z, e) refl

      fields_refused : (left n : ℕ) → 0 < left → read_fields (row_of form l).fields s' ≡ refused n → read_trees form left (k ∷ ks) s ≡ refused n
      unfolding read_trees read_beside
      fields_refused zero n p h = absurd (omega arith)
      fields_refused (suc d) n p h = rw (e, h) refl

      pub fields_read : (left : ℕ) (vs : List Field) (s'' : Rest) → 0 < left → read_fields (row_of form l).fields s' ≡ got (record { value = vs; rest = s'' })
          → read_trees form left (k ∷ ks) s ≡ then_read (read_trees form (left - 1) (row_of form l).children s'') (λ t r. then_read (read_trees form left ks r) (λ u. give (node l vs t u)))
      unfolding read_trees read_beside
      fields_read zero vs s'' p h = absurd (omega arith)
      fields_read (suc d) vs s'' p h = rw (e, h, sub-one (suc d)) refl

  -- ---- in a text

  no_letter : (f : List ℕ) → (length f ≡ 1 → ⊥) → letter_in form f ≡ none
  unfolding letter_in
  no_letter [] n = refl
  no_letter (b ∷ []) n = absurd (n refl)
  no_letter (b ∷ c ∷ r) n = refl

  module _ (left k : ℕ) (text : List ℕ) (at count : ℕ) where
    pub open_behind : length text < at → Refuses form left (kind_at k) text at count 2
    open_behind h = record { is = λ ks. letter_refused (kind_at k) ks _ left 2 (letter_missing (kind_at k) _ (fields_from text at) (from_behind text at h)) }

    module _ (h : at ≤ length text) where
      pub open_other : (length (up_to 44 (drop at text)) ≡ 1 → ⊥) → Refuses form left (kind_at k) text at count 2
      open_other n = record {
        is = λ ks. letter_refused (kind_at k) ks _ left 2
            (letter_unknown (kind_at k) _ (fields_from text at) _ _ (first_field text at h) (no_letter (up_to 44 (drop at text)) n));
      }

      module _ (b : ℕ) (s : Shape) (sole : up_to 44 (drop at text) ≡ b ∷ []) (sh : ShapeIs form b s) where
        first : fields_from text at ≡ (b ∷ []) ∷ fields_from text (at + 2)
        first =
            let k : length (up_to 44 (drop at text)) ≡ 1 = ap length sole in
            let e : at + (length (up_to 44 (drop at text)) + 1) ≡ at + 2 = omega arith in
            first_field text at h ∙ ap (λ (n : ℕ). up_to 44 (drop at text) ∷ fields_from text n) e ∙ ap (λ (f : List ℕ). f ∷ fields_from text (at + 2)) sole

        pub open_unknown : s.kind ≡ 0 → Refuses form left (kind_at k) text at count 2
        unfolding letter_in
        open_unknown e = record {
          is = λ ks. letter_refused (kind_at k) ks _ left 2 (letter_unknown (kind_at k) _ (fields_from text at) _ _ first (shape_none b s sh e));
        }

        module _ (some_kind : s.kind ≡ 0 → ⊥) where
          one : Found b s
          one = found b s sh some_kind

          pub open_kind : 0 < k → k ≤ 3 → (s.kind ≡ k → ⊥) → Refuses form left (kind_at k) text at count 5
          unfolding letter_in
          open_kind p q n = record {
            is = λ ks. letter_refused (kind_at k) ks _ left 5
                (letter_kind (kind_at k) _ (fields_from text at) _ _ first one.letter one.is (other_kind k (kind_of form one.letter) p q (λ e. n (one.shape.sort ∙ e))));
          }

          module _ (same : s.kind ≡ k) where
            kind_is : of_same_kind (kind_at k) (kind_of form one.letter) ≡ true
            kind_is = same_kind k (kind_of form one.letter) (sym one.shape.sort ∙ same)

            pub open_full : 512 ≤ count → Refuses form left (kind_at k) text at count 3
            unfolding letter_in
            open_full q = record {
              is = λ ks. letter_refused (kind_at k) ks _ left 3 (letter_full (kind_at k) _ (fields_from text at) _ _ first one.letter one.is kind_is (omega arith));
            }

            module _ (room : count < 512) where
              letter : node_letter form (kind_at k) (rest_at text at count) ≡ got (record { value = one.letter; rest = rest_at text (at + 2) (count + 1) })
              unfolding letter_in
              letter = letter_got (kind_at k) (512 - count) (fields_from text at) _ _ first one.letter one.is (512 - (count + 1)) kind_is (omega arith)

              pub open_deep : left ≡ 0 → Refuses form left (kind_at k) text at count 4
              open_deep z = record { is = λ ks. too_deep (kind_at k) ks _ one.letter _ letter left z }

              module _ (level : 0 < left) where
                pub open_bad : Malformed (classes_of_three s.first s.second s.third) text (at + 2) → Refuses form left (kind_at k) text at count 2
                open_bad m = record {
                  is = λ ks. fields_refused (kind_at k) ks _ one.letter _ letter left 2 level (rw one.shape.classes (m.is (512 - (count + 1))));
                }

                pub open_done : (c1 c2 c3 c4 a1 a2 a3 a4 : ℤ) (next : ℕ) → Four (classes_of_three s.first s.second s.third) text (at + 2) c1 c2 c3 c4 next
                    → a1 ≡ c1 → a2 ≡ c2 → a3 ≡ c3 → a4 ≡ c4
                    → Begun form left (kind_at k) text at count (record { letter = b; a = a1; b = a2; c = a3; d = a4; next = next; kid1 = s.kid1; kid2 = s.kid2; kid3 = s.kid3 })
                open_done c1 c2 c3 c4 a1 a2 a3 a4 next f p1 p2 p3 p4 = record {
                  sort = one.letter;
                  values = f.values;
                  is = λ ks. fields_read (kind_at k) ks _ one.letter _ letter left f.values _ level (rw one.shape.classes (f.all.is (512 - (count + 1))))
                      ∙ ap (λ (j : List Kind). then_read (read_trees form (left - 1) j (rest_at text next (count + 1)))
                      (λ t r. then_read (read_trees form left ks r) (λ u. give (node one.letter f.values t u)))) one.shape.below;
                  byte = one.shape.is;
                  first = f.first ∙ sym p1;
                  second = f.second ∙ sym p2;
                  third = f.third ∙ sym p3;
                  fourth = f.fourth ∙ sym p4;
                  alone = sole;
                  onward = f.all.onward;
                  within = f.all.within;
                  room = room;
                  level = level;
                  small = one.shape.small;
                }
