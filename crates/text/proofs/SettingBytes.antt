-- A text without a `P` has no field with one, and no open setting.
use Prim.Native.Nat.{ℕ}
use lib.Dec.{eqb}
use mathlib.Core.Bool.{Bool, ◌||◌, false, true, true≢false}
use mathlib.Core.List.{List, [], ◌++◌, ◌∷◌}
use mathlib.Core.Path.{◌∙◌, ◌≡◌, ap, refl, sym}
use Rattle.language.specs.Rules.Settings.{closed, delay_of, fill, map_plan}
use Rattle.language.specs.Text.Classes.{Field, a_number, print_delay, print_field, print_setting}
use Rattle.language.specs.Text.Fields.{behind, join_with}
use Rattle.language.specs.Text.Letters.{Form, Letter, PlanLetter, plan_form}
use Rattle.language.specs.Text.Plans.{plan_trees, print_plan}
use Rattle.language.specs.Text.Reader.{Trees, end, node, print_fields, print_text, print_trees}
use Rattle.language.specs.Text.Trees.{Amount, Delay, Plan, Test, both, choose, conjunction, difference, disjunction, equal, index, later, less, months, negation, nothing, number, product, quotient, scale, setting, sum, transfer, within}
use Rattle.language.specs.Text.Typed.{amount_tree, test_tree}
use Rattle.text.specs.Opens.{opens}

-- ---- bytes and fields that were joined

neither : (a b : Bool) → a || b ≡ false → (a ≡ false) × (b ≡ false)
neither true b e = absurd (true≢false e)
neither false b e = (refl, e)

apart : (xs ys : List ℕ) → opens (xs ++ ys) ≡ false → (opens xs ≡ false) × (opens ys ≡ false)
unfolding opens
apart [] ys e = (refl, e)
apart (x ∷ xs) ys e =
    let h = neither (eqb x 80) (opens (xs ++ ys)) e in
    let k = apart xs ys h.1 in
    (rw h.0 k.0, k.1)

-- no field has one
unfoldable pub NoneOpen : List (List ℕ) → Type 0
NoneOpen [] = Unit {0}
NoneOpen (f ∷ fs) = (opens f ≡ false) × NoneOpen fs

behind_none : (sep : ℕ) (fs : List (List ℕ)) → opens (behind sep fs) ≡ false → NoneOpen fs
unfolding behind opens NoneOpen
behind_none sep [] e = tt
behind_none sep (f ∷ fs) e =
    let h = apart f (behind sep fs) (neither (eqb sep 80) (opens (f ++ behind sep fs)) e).1 in
    (h.0, behind_none sep fs h.1)

pub join_none : (sep : ℕ) (fs : List (List ℕ)) → opens (join_with sep fs) ≡ false → NoneOpen fs
unfolding join_with NoneOpen
join_none sep [] e = tt
join_none sep (f ∷ fs) e = let h = apart f (behind sep fs) e in (h.0, behind_none sep fs h.1)

-- ---- a setting begins with one

pub setting_opens : (k : ℕ) → opens (print_setting k) ≡ true
unfolding print_setting opens
setting_opens k = refl

delay_plain : (σ : ℕ → ℕ) (d : Delay) → opens (print_delay d) ≡ false → months (delay_of σ d) ≡ d
unfolding print_delay delay_of
delay_plain σ (months n) e = refl
delay_plain σ (setting k) e = absurd (true≢false (sym (setting_opens k) ∙ e))

-- ---- trees, in front of other fields

fields_behind : (vs : List Field) (r : List (List ℕ)) → NoneOpen (print_fields vs r) → NoneOpen r
unfolding print_fields NoneOpen
fields_behind [] r h = h
fields_behind (v ∷ vs) r h = fields_behind vs r h.1

module _ {P : Type 0} (form : Form P) where
  trees_behind : (t : Trees P) (r : List (List ℕ)) → NoneOpen (print_trees form t r) → NoneOpen r
  unfolding print_trees NoneOpen
  trees_behind end r h = h
  trees_behind (node l vs c t) r h = trees_behind t r (trees_behind c (print_trees form t r) (fields_behind vs (print_trees form c (print_trees form t r)) h.1))

  -- behind the first tree
  node_behind : (l : Letter P) (vs : List Field) (c t : Trees P) (r : List (List ℕ)) → NoneOpen (print_trees form (node l vs c t) r) → NoneOpen (print_trees form t r)
  unfolding print_trees NoneOpen
  node_behind l vs c t r h = trees_behind c (print_trees form t r) (fields_behind vs (print_trees form c (print_trees form t r)) h.1)

  amount_behind : {M : Type 0} (when : M → Field) (a : Amount M) (t : Trees P) (r : List (List ℕ)) → NoneOpen (print_trees form (amount_tree when a t) r) → NoneOpen (print_trees form t r)
  unfolding amount_tree
  amount_behind when (number n) t r h = node_behind _ _ _ t r h
  amount_behind when (index l i) t r h = node_behind _ _ _ t r h
  amount_behind when (sum a b) t r h = node_behind _ _ _ t r h
  amount_behind when (difference a b) t r h = node_behind _ _ _ t r h
  amount_behind when (product a b) t r h = node_behind _ _ _ t r h
  amount_behind when (quotient n a) t r h = node_behind _ _ _ t r h
  amount_behind when (choose c a b) t r h = node_behind _ _ _ t r h

  test_behind : {M : Type 0} (when : M → Field) (c : Test M) (t : Trees P) (r : List (List ℕ)) → NoneOpen (print_trees form (test_tree when c t) r) → NoneOpen (print_trees form t r)
  unfolding test_tree
  test_behind when (less a b) t r h = node_behind _ _ _ t r h
  test_behind when (equal a b) t r h = node_behind _ _ _ t r h
  test_behind when (conjunction c d) t r h = node_behind _ _ _ t r h
  test_behind when (disjunction c d) t r h = node_behind _ _ _ t r h
  test_behind when (negation c) t r h = node_behind _ _ _ t r h

-- ---- plans

plan_behind : (x : Plan Delay) (t : Trees PlanLetter) (r : List (List ℕ)) → NoneOpen (print_trees plan_form (plan_trees x t) r) → NoneOpen (print_trees plan_form t r)
unfolding plan_trees
plan_behind nothing t r h = node_behind plan_form _ _ _ t r h
plan_behind (transfer p q) t r h = node_behind plan_form _ _ _ t r h
plan_behind (scale a x) t r h = node_behind plan_form _ _ _ t r h
plan_behind (later d x) t r h = node_behind plan_form _ _ _ t r h
plan_behind (both x y) t r h = node_behind plan_form _ _ _ t r h
plan_behind (within d c x y) t r h = node_behind plan_form _ _ _ t r h

module _ (σ : ℕ → ℕ) where
  same_plan : (x : Plan Delay) (t : Trees PlanLetter) (r : List (List ℕ)) → NoneOpen (print_trees plan_form (plan_trees x t) r) → closed (fill σ x) ≡ x
  unfolding plan_trees print_trees print_fields print_field NoneOpen map_plan
  same_plan nothing t r h = refl
  same_plan (transfer p q) t r h = refl
  same_plan (scale a x) t r h = ap (scale a) (same_plan x end (print_trees plan_form t r) (amount_behind plan_form a_number a (plan_trees x end) (print_trees plan_form t r) h.1))
  same_plan (later d x) t r h = rw (delay_plain σ d h.1.0, same_plan x end (print_trees plan_form t r) h.1.1) refl
  same_plan (both x y) t r h =
      rw (same_plan x (plan_trees y end) (print_trees plan_form t r) h.1, same_plan y end (print_trees plan_form t r) (plan_behind x (plan_trees y end) (print_trees plan_form t r) h.1)) refl
  same_plan (within d c x y) t r h =
      let k = test_behind plan_form a_number c (plan_trees x (plan_trees y end)) (print_trees plan_form t r) h.1.1 in
      rw (delay_plain σ d h.1.0, same_plan x (plan_trees y end) (print_trees plan_form t r) k, same_plan y end (print_trees plan_form t r) (plan_behind x (plan_trees y end) (print_trees plan_form t r) k)) refl

  -- filling a plan whose text has none changes nothing
  pub none_open : (x : Plan Delay) → opens (print_plan x) ≡ false → closed (fill σ x) ≡ x
  unfolding print_plan print_text
  none_open x e = same_plan x end [] (join_none 44 (print_trees plan_form (plan_trees x end) []) e)
