-- A payoff whose text has no `P` has no open setting.
use Prim.Native.Nat.{ℕ}
use mathlib.Core.Bool.{false, true≢false}
use mathlib.Core.List.{List, [], ◌∷◌}
use mathlib.Core.Path.{◌∙◌, ◌≡◌, refl, sym}
use Rattle.language.specs.Text.Classes.{Field, a_delay, a_month, a_number, print_delay, print_field, print_month, setting_fields}
use Rattle.language.specs.Text.Letters.{PayoffLetter, payoff_form}
use Rattle.language.specs.Text.Number.{print_number}
use Rattle.language.specs.Text.Plans.{Written, payoff_trees, print_payoff}
use Rattle.language.specs.Text.Reader.{Trees, end, node, print_fields, print_text, print_trees}
use Rattle.language.specs.Text.Trees.{Month, months, setting}
use Rattle.settling.proofs.PlainRows.{PlainField, PlainFields, PlainTrees}
use Rattle.text.proofs.SettingBytes.{NoneOpen, join_none, setting_opens}
use Rattle.text.specs.Opens.{opens}

-- ---- fields

month_plain : (m : Month) → opens (print_month m) ≡ false → m.settings ≡ []
unfolding print_month NoneOpen setting_fields
month_plain m e = go m.settings refl (join_none 43 (print_number m.plain ∷ setting_fields m.settings) e)
  where
    go : (ks : List ℕ) → m.settings ≡ ks → NoneOpen (print_number m.plain ∷ setting_fields m.settings) → m.settings ≡ []
    go [] q h = q
    go (k ∷ ks) q h = let n = rw q at h.1 in absurd (true≢false (sym (setting_opens k) ∙ n.0))

field_plain : (v : Field) → opens (print_field v) ≡ false → PlainField v
unfolding print_field print_delay
field_plain (a_number z) e = tt
field_plain (a_delay (months n)) e = tt
field_plain (a_delay (setting k)) e = absurd (true≢false (sym (setting_opens k) ∙ e))
field_plain (a_month m) e = month_plain m e

-- ---- trees, in front of other fields

fields_plain : (vs : List Field) (r : List (List ℕ)) → NoneOpen (print_fields vs r) → PlainFields vs × NoneOpen r
unfolding print_fields NoneOpen PlainFields
fields_plain [] r h = (tt, h)
fields_plain (v ∷ vs) r h = let k = fields_plain vs r h.1 in ((field_plain v h.0, k.0), k.1)

trees_plain : (t : Trees PayoffLetter) (r : List (List ℕ)) → NoneOpen (print_trees payoff_form t r) → PlainTrees t × NoneOpen r
unfolding print_trees NoneOpen PlainTrees
trees_plain end r h = (tt, h)
trees_plain (node l vs c t) r h =
    let f = fields_plain vs (print_trees payoff_form c (print_trees payoff_form t r)) h.1 in
    let a = trees_plain c (print_trees payoff_form t r) f.1 in
    let b = trees_plain t r a.1 in
    ((f.0, a.0, b.0), b.1)

pub none_open : (x : Written) → opens (print_payoff x) ≡ false → PlainTrees (payoff_trees x end)
unfolding print_payoff print_text
none_open x e = (trees_plain (payoff_trees x end) [] (join_none 44 (print_trees payoff_form (payoff_trees x end) []) e)).0
