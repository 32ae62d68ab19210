-- A cut payoff's text is the payoff's, byte by byte: none is an `F` but the letter of an uncut leaf.
use Prim.Native.Nat.{◌%◌, ◌+◌, ◌/◌, ◌<◌, suc, zero, ℕ}
use borrow.Author.Tests.{ltb-true, ne_eqb}
use lib.Dec.{ltb}
use lib.IntN.{negsuc, pos, ℤ}
use mathlib.Core.Bool.{Bool, cond, false, true}
use mathlib.Core.List.{List, [], ◌++◌, ◌∷◌, map, map-append}
use mathlib.Core.Path.{◌∙◌, ◌≡◌, ap, ap₂, refl}
use native.Mathlib.Omega.{arith}
use Rattle.language.specs.Payoff.Compile.{cut_payoff}
use Rattle.language.specs.Text.Classes.{Field, a_delay, a_month, a_number, print_delay, print_field, print_month, print_setting, setting_fields}
use Rattle.language.specs.Text.Fields.{behind, join_with}
use Rattle.language.specs.Text.Form.{delay_in_form, fields_of_amount, fields_of_test}
use Rattle.language.specs.Text.Letters.{AmountLetter, Letter, PayoffLetter, TestLetter, amount_row, of_amount, of_root, of_test, payoff_form, payoff_row, row_of, test_row}
use Rattle.language.specs.Text.Number.{digits_of, print_nat, print_number}
use Rattle.language.specs.Text.PayoffForm.{MonthField, Sorted, fields_of_payoff}
use Rattle.language.specs.Text.Plans.{Written, payoff_trees, print_payoff}
use Rattle.language.specs.Text.Reader.{Trees, end, node, print_fields, print_text, print_trees}
use Rattle.language.specs.Text.Trees.{Amount, Delay, Month, Test, await, choose, conjunction, cut, difference, disjunction, equal, index, leaf, less, months, negation, nil, number, plus, product, quotient, setting, sum, times, uncut}
use Rattle.language.specs.Text.Typed.{amount_tree, test_tree}
use Rattle.payoff.specs.Cut.{byte_of_cut}

-- ---- fields that were joined

behind_cut : (sep : ℕ) (fs : List (List ℕ)) → map byte_of_cut (behind sep fs) ≡ behind (byte_of_cut sep) (map (map byte_of_cut) fs)
unfolding behind
behind_cut sep [] = refl
behind_cut sep (f ∷ fs) = ap (λ r. byte_of_cut sep ∷ r) (map-append byte_of_cut f (behind sep fs) ∙ ap (λ r. map byte_of_cut f ++ r) (behind_cut sep fs))

join_cut : (sep : ℕ) (fs : List (List ℕ)) → map byte_of_cut (join_with sep fs) ≡ join_with (byte_of_cut sep) (map (map byte_of_cut) fs)
unfolding join_with
join_cut sep [] = refl
join_cut sep (f ∷ fs) = map-append byte_of_cut f (behind sep fs) ∙ ap (λ r. map byte_of_cut f ++ r) (behind_cut sep fs)

-- ---- a field has no `F`

low_kept : (b : ℕ) → b < 70 → byte_of_cut b ≡ b
unfolding byte_of_cut
low_kept b h = rw (ne_eqb b 70 (λ e. omega arith)) refl

digits_kept : (k n : ℕ) → map byte_of_cut (digits_of k n) ≡ digits_of k n
unfolding digits_of
digits_kept zero n = refl
digits_kept (suc k) n = go (ltb n 10) refl (digits_kept k (n / 10))
  where
    go : (b : Bool) → ltb n 10 ≡ b → map byte_of_cut (digits_of k (n / 10)) ≡ digits_of k (n / 10) →
        map byte_of_cut (cond b ((48 + n) ∷ []) (digits_of k (n / 10) ++ ((48 + n % 10) ∷ []))) ≡ cond b ((48 + n) ∷ []) (digits_of k (n / 10) ++ ((48 + n % 10) ∷ []))
    go true e h = ap (λ b. b ∷ []) (low_kept (48 + n) (omega (arith, ltb-true n 10 e)))
    go false e h = map-append byte_of_cut (digits_of k (n / 10)) ((48 + n % 10) ∷ []) ∙ ap₂ ◌++◌ h (ap (λ b. b ∷ []) (low_kept (48 + n % 10) (omega arith)))

number_kept : (z : ℤ) → map byte_of_cut (print_number z) ≡ print_number z
unfolding print_number print_nat byte_of_cut
number_kept (pos n) = digits_kept 20 n
number_kept (negsuc n) = ap (λ r. 45 ∷ r) (digits_kept 20 (suc n))

letter : byte_of_cut 80 ≡ 80
unfolding byte_of_cut
letter = refl

setting_kept : (k : ℕ) → k < 8 → map byte_of_cut (print_setting k) ≡ print_setting k
unfolding print_setting
setting_kept k h = ap₂ (λ a b. a ∷ b ∷ []) letter (low_kept (48 + k) (omega arith))

delay_kept : (d : Delay) → delay_in_form d → map byte_of_cut (print_delay d) ≡ print_delay d
unfolding print_delay print_nat
delay_kept (months n) h = digits_kept 20 n
delay_kept (setting k) h = setting_kept k h

settings_kept : (ks : List ℕ) → Sorted ks → map (map byte_of_cut) (setting_fields ks) ≡ setting_fields ks
unfolding setting_fields Sorted
settings_kept [] h = refl
settings_kept (k ∷ ks) h = ap₂ ◌∷◌ (setting_kept k h.0) (settings_kept ks h.2)

month_kept : (m : Month) → MonthField m → map byte_of_cut (print_month m) ≡ print_month m
unfolding print_month byte_of_cut
month_kept m h = join_cut 43 (print_number m.plain ∷ setting_fields m.settings) ∙ ap (join_with 43) (ap₂ ◌∷◌ (number_kept m.plain) (settings_kept m.settings h.sorted))

-- ---- trees

-- the second trees' fields are the first's, cut, in front of any others
record CutTo (t u : Trees PayoffLetter) : Type 0 where
  cuts : (r : List (List ℕ)) → map (map byte_of_cut) (print_trees payoff_form t r) ≡ print_trees payoff_form u (map (map byte_of_cut) r)

none_cut : CutTo end end
unfolding print_trees
none_cut = record { cuts = λ r. refl }

unfoldable Kept : List Field → Type 0
Kept [] = Unit {0}
Kept (v ∷ vs) = (map byte_of_cut (print_field v) ≡ print_field v) × Kept vs

fields_kept : (vs : List Field) → Kept vs → (r : List (List ℕ)) → map (map byte_of_cut) (print_fields vs r) ≡ print_fields vs (map (map byte_of_cut) r)
unfolding Kept print_fields
fields_kept [] h r = refl
fields_kept (v ∷ vs) h r = ap₂ ◌∷◌ h.0 (fields_kept vs h.1 r)

node_cut : (l k : Letter PayoffLetter) → byte_of_cut (row_of payoff_form l).letter ≡ (row_of payoff_form k).letter → (vs : List Field) → Kept vs → {c d t u : Trees PayoffLetter} → CutTo c d → CutTo t u →
    CutTo (node l vs c t) (node k vs d u)
unfolding print_trees
node_cut l k e vs h {c} {d} {t} {u} below beside =
    record {
      cuts = λ r. ap₂ ◌∷◌ (ap (λ b. b ∷ []) e)
          (fields_kept vs h (print_trees payoff_form c (print_trees payoff_form t r)) ∙ ap (print_fields vs) (below.cuts (print_trees payoff_form t r) ∙ ap (print_trees payoff_form d) (beside.cuts r)));
    }

mutual
  unfolding amount_tree test_tree fields_of_amount fields_of_test byte_of_cut row_of amount_row test_row Kept print_field

  amount_kept : (a : Amount Month) → fields_of_amount MonthField a → {t u : Trees PayoffLetter} → CutTo t u → CutTo (amount_tree a_month a t) (amount_tree a_month a u)
  amount_kept (number n) h w = node_cut (of_amount AmountLetter.N) (of_amount AmountLetter.N) refl (a_number n ∷ []) (number_kept n, tt) none_cut w
  amount_kept (index l m) h w = node_cut (of_amount AmountLetter.O) (of_amount AmountLetter.O) refl (a_number (pos l) ∷ a_month m ∷ []) (number_kept (pos l), (month_kept m h.1, tt)) none_cut w
  amount_kept (sum a b) h w = node_cut (of_amount AmountLetter.A) (of_amount AmountLetter.A) refl [] tt (amount_kept a h.0 (amount_kept b h.1 none_cut)) w
  amount_kept (difference a b) h w = node_cut (of_amount AmountLetter.U) (of_amount AmountLetter.U) refl [] tt (amount_kept a h.0 (amount_kept b h.1 none_cut)) w
  amount_kept (product a b) h w = node_cut (of_amount AmountLetter.K) (of_amount AmountLetter.K) refl [] tt (amount_kept a h.0 (amount_kept b h.1 none_cut)) w
  amount_kept (quotient n a) h w = node_cut (of_amount AmountLetter.Q) (of_amount AmountLetter.Q) refl (a_number (pos n) ∷ []) (number_kept (pos n), tt) (amount_kept a h.2 none_cut) w
  amount_kept (choose t a b) h w = node_cut (of_amount AmountLetter.I) (of_amount AmountLetter.I) refl [] tt (test_kept t h.0 (amount_kept a h.1 (amount_kept b h.2 none_cut))) w

  test_kept : (t : Test Month) → fields_of_test MonthField t → {r u : Trees PayoffLetter} → CutTo r u → CutTo (test_tree a_month t r) (test_tree a_month t u)
  test_kept (less a b) h w = node_cut (of_test TestLetter.G) (of_test TestLetter.G) refl [] tt (amount_kept a h.0 (amount_kept b h.1 none_cut)) w
  test_kept (equal a b) h w = node_cut (of_test TestLetter.E) (of_test TestLetter.E) refl [] tt (amount_kept a h.0 (amount_kept b h.1 none_cut)) w
  test_kept (conjunction s t) h w = node_cut (of_test TestLetter.Y) (of_test TestLetter.Y) refl [] tt (test_kept s h.0 (test_kept t h.1 none_cut)) w
  test_kept (disjunction s t) h w = node_cut (of_test TestLetter.«V») (of_test TestLetter.«V») refl [] tt (test_kept s h.0 (test_kept t h.1 none_cut)) w
  test_kept (negation t) h w = node_cut (of_test TestLetter.R) (of_test TestLetter.R) refl [] tt (test_kept t h none_cut) w

payoff_cut : (x : Written) → fields_of_payoff x → {t u : Trees PayoffLetter} → CutTo t u → CutTo (payoff_trees x t) (payoff_trees (cut_payoff x) u)
unfolding payoff_trees fields_of_payoff cut_payoff byte_of_cut row_of payoff_row Kept print_field
payoff_cut nil h w = node_cut (of_root PayoffLetter.Z) (of_root PayoffLetter.Z) refl [] tt none_cut w
payoff_cut (leaf uncut m p q) h w = node_cut (of_root PayoffLetter.F) (of_root PayoffLetter.H) refl (a_month m ∷ a_number (pos p) ∷ a_number (pos q) ∷ []) (month_kept m h.0, (number_kept (pos p), (number_kept (pos q), tt))) none_cut w
payoff_cut (leaf cut m p q) h w = node_cut (of_root PayoffLetter.H) (of_root PayoffLetter.H) refl (a_month m ∷ a_number (pos p) ∷ a_number (pos q) ∷ []) (month_kept m h.0, (number_kept (pos p), (number_kept (pos q), tt))) none_cut w
payoff_cut (times a x) h w = node_cut (of_root PayoffLetter.S) (of_root PayoffLetter.S) refl [] tt (amount_kept a h.0 (payoff_cut x h.1 none_cut)) w
payoff_cut (plus x y) h w = node_cut (of_root PayoffLetter.B) (of_root PayoffLetter.B) refl [] tt (payoff_cut x h.0 (payoff_cut y h.1 none_cut)) w
payoff_cut (await d t x y) h w = node_cut (of_root PayoffLetter.W) (of_root PayoffLetter.W) refl (a_delay d ∷ []) (delay_kept d h.0, tt) (test_kept t h.1 (payoff_cut x h.2 (payoff_cut y h.3 none_cut))) w

pub text_cut : (x : Written) → fields_of_payoff x → map byte_of_cut (print_payoff x) ≡ print_payoff (cut_payoff x)
unfolding print_payoff print_text byte_of_cut
text_cut x h = join_cut 44 (print_trees payoff_form (payoff_trees x end) []) ∙ ap (join_with 44) ((payoff_cut x h none_cut).cuts [])
