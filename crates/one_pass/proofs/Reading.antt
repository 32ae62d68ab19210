-- A node that is read, from its letter, its fields and its children.
use Prim.Native.Nat.{◌*◌, ◌+◌, ◌-◌, ◌<◌, ◌≤◌, suc, zero, ℕ}
use lib.ListN.{drop, length}
use mathlib.Core.Bool.{true}
use mathlib.Core.List.{List, [], ◌∷◌}
use mathlib.Core.Option.{some}
use mathlib.Core.Path.{◌∙◌, ◌≡◌, ap, refl, sym}
use native.Mathlib.Omega.{arith}
use Rattle.fields.proofs.Positions.{first_field}
use Rattle.fields.specs.Fields.{ReadUpTo}
use Rattle.fields.specs.Positions.{fields_from, rest_at, up_to}
use Rattle.language.specs.Answer.{Answer, got, refused}
use Rattle.language.specs.Limits.{max_nodes}
use Rattle.language.specs.Text.Classes.{Field}
use Rattle.language.specs.Text.Letters.{Class, Kind, Letter, PlanLetter, kind_of, letter_in, plan_form, row_of, of_same_kind}
use Rattle.language.specs.Text.Reader.{Read, Reader, Rest, Trees, end, give, node, read_beside, read_trees, then_read, too_deep}
use Rattle.text.proofs.OpenLaws.{fields_read, letter_got}
use Rattle.one_pass.specs.Reads.{Reads, Short}

-- ---- one reader after the other

then_then : {A B C : Type 0} (m : Answer (Read A)) (f : A → Reader B) (g : B → Reader C) → then_read (then_read m f) g ≡ then_read m (λ a s. then_read (f a s) g)
then_then (refused n) f g = refl
then_then (got r) f g = refl

-- no kind is left to read
none_left : (left : ℕ) (s : Rest) → read_trees plan_form left [] s ≡ got (record { value = end; rest = s })
unfolding read_trees read_beside
none_left zero s = refl
none_left (suc d) s = refl

-- ---- a node's letter, its fields and some of its children were read; `top` makes the node of the children of kinds js, in front of others
pub record Opened (left : ℕ) (kind : Kind) (text : List ℕ) (at next : ℕ) (js : List Kind) (top : Trees PlanLetter → Trees PlanLetter → Trees PlanLetter) : Type 0 where
  pub nodes : ℕ
  pub is : (ks : List Kind) (count : ℕ) → 2 * count ≤ at
      → read_trees plan_form left (kind ∷ ks) (rest_at text at count)
      ≡ then_read (read_trees plan_form (left - 1) js (rest_at text next (count + nodes))) (λ t s. then_read (read_trees plan_form left ks s) (λ u. give (top t u)))
  pub onward : at + 2 * nodes ≤ next
  pub within : next ≤ length text + 1

module _ (text : List ℕ) (short : Short text) (left at : ℕ) (level : 0 < left) (inside : at < length text) where
  pub opened : (b : ℕ) → up_to 44 (drop at text) ≡ b ∷ [] → (l : Letter PlanLetter) → letter_in plan_form (b ∷ []) ≡ some l → (k : Kind) → of_same_kind k (kind_of plan_form l) ≡ true
      → {vs : List Field} {next : ℕ} (cs : List Class) → (row_of plan_form l).fields ≡ cs → ReadUpTo cs text (at + 2) vs next
      → (js : List Kind) → (row_of plan_form l).children ≡ js → Opened left k text at next js (node l vs)
  opened b alone l find k same {vs} {next} cs ec f js ej = record {
    nodes = 1;
    is = λ ks count few.
        let h : count < max_nodes = omega (arith, few, inside, short.short) in
        let got-letter = letter_got plan_form k (max_nodes - count) (fields_from text at) _ _ first l find (max_nodes - (count + 1)) same (omega (arith, h)) in
        fields_read plan_form k ks (rest_at text at count) l _ got-letter left vs _ level (rw ec (f.is (max_nodes - (count + 1))))
        ∙ ap (λ (j : List Kind). then_read (read_trees plan_form (left - 1) j (rest_at text next (count + 1))) (λ t s. then_read (read_trees plan_form left ks s) (λ u. give (node l vs t u)))) ej;
    onward = f.onward;
    within = f.within;
  }
    where
      first : fields_from text at ≡ (b ∷ []) ∷ fields_from text (at + 2)
      first =
          let n : length (up_to 44 (drop at text)) ≡ 1 = ap length alone in
          let e : at + (length (up_to 44 (drop at text)) + 1) ≡ at + 2 = omega (arith, n) in
          first_field text at (omega (arith, inside)) ∙ ap (λ (m : ℕ). up_to 44 (drop at text) ∷ fields_from text m) e ∙ ap (λ (g : List ℕ). g ∷ fields_from text (at + 2)) alone

-- ---- with its children

module _ {left : ℕ} {kind : Kind} {text : List ℕ} {at next : ℕ} {top : Trees PlanLetter → Trees PlanLetter → Trees PlanLetter} where
  -- one child more
  pub child : {j : Kind} {js : List Kind} {after : ℕ} {tree : Trees PlanLetter → Trees PlanLetter} → Opened left kind text at next (j ∷ js) top
      → Reads (left - 1) j text next after tree → Opened left kind text at after js (λ t. top (tree t))
  child {j} {js} {after} {tree} o x = record {
    nodes = o.nodes + x.nodes;
    is = λ ks count few.
        let e : count + o.nodes + x.nodes ≡ count + (o.nodes + x.nodes) = omega arith in
        o.is ks count few
        ∙ ap (λ m. then_read m (λ t s. then_read (read_trees plan_form left ks s) (λ u. give (top t u)))) (x.is js (count + o.nodes) (omega (arith, few, o.onward)))
        ∙ then_then (read_trees plan_form (left - 1) js (rest_at text after (count + o.nodes + x.nodes))) (λ u. give (tree u)) (λ t s. then_read (read_trees plan_form left ks s) (λ u. give (top t u)))
        ∙ ap (λ n. then_read (read_trees plan_form (left - 1) js (rest_at text after n)) (λ t s. then_read (read_trees plan_form left ks s) (λ u. give (top (tree t) u)))) e;
    onward = omega (arith, o.onward, x.onward);
    within = x.within;
  }

  -- no child is left
  pub whole : Opened left kind text at next [] top → Reads left kind text at next (top end)
  whole o = record {
    nodes = o.nodes;
    is = λ ks count few. o.is ks count few
        ∙ ap (λ m. then_read m (λ t s. then_read (read_trees plan_form left ks s) (λ u. give (top t u)))) (none_left (left - 1) (rest_at text next (count + o.nodes)));
    onward = o.onward;
    within = o.within;
  }
