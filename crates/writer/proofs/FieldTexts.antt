-- Fields of a row: a month as a number and settings, and how long a field can be.
use Prim.Native.Nat.{◌+◌, ◌≤◌, suc, ℕ}
use lib.IntN.{nat_abs, negsuc, pos, ℤ}
use lib.ListN.{length, length-append}
use mathlib.Core.List.{◌++◌, ◌∷◌, append-nil}
use mathlib.Core.Path.{◌∙◌, ◌≡◌, ap, refl}
use native.Mathlib.Omega.{arith}
use Rattle.language.specs.Text.Classes.{print_delay, print_month, print_setting}
use Rattle.language.specs.Text.Fields.{join_with}
use Rattle.language.specs.Text.Letters.{delay, month}
use Rattle.language.specs.Text.Number.{print_number}
use Rattle.writer.proofs.Decimal.{digits_most}
use Rattle.writer.proofs.SettingTexts.{no_settings, settings_most}
use Rattle.writer.specs.Shapes.{month_field, number_field, settings_text}
use Rattle.writer.specs.Written.{delay_of, field_text}

pub month_is : (a b : ℤ) (m : ℕ) → m ≡ nat_abs b → field_text month a b ≡ print_number a ++ settings_text m
unfolding print_month join_with
month_is a b m q = rw q

-- with no settings it is the number alone
pub plain_month : (a b : ℤ) (m : ℕ) → m ≡ nat_abs b → m ≡ 0 → month_field a b ≡ number_field a
plain_month a b m q e = ap (λ t. 44 ∷ t) (month_is a b m q ∙ ap (λ t. print_number a ++ t) (no_settings m e) ∙ append-nil (print_number a))

number_most : (z : ℤ) → length (print_number z) ≤ 21
unfolding print_number
number_most (pos n) = omega (arith, digits_most n)
number_most (negsuc n) = omega (arith, digits_most (suc n))

delay_most : (z : ℤ) → length (print_delay (delay_of z)) ≤ 21
unfolding print_delay print_setting
delay_most (pos n) = omega (arith, digits_most n)
delay_most (negsuc n) = omega arith

month_most : (a b : ℤ) → length (field_text month a b) ≤ 800
month_most a b =
    omega (
      arith,
      ap length (month_is a b (nat_abs b) refl),
      length-append (print_number a) (settings_text (nat_abs b)),
      number_most a,
      settings_most (nat_abs b),
    )

-- of a count in the code
pub number_small : (z : ℤ) (r : ℕ) → r ≡ length (print_number z) → r ≤ 21
number_small z r e = omega (arith, number_most z)

pub delay_small : (z : ℤ) (r : ℕ) → r ≡ length (field_text delay z z) → r ≤ 21
delay_small z r e = omega (arith, delay_most z)

pub month_small : (a b : ℤ) (r : ℕ) → r ≡ length (field_text month a b) → r ≤ 800
month_small a b r e = omega (arith, month_most a b)

pub month_length : (a b : ℤ) (m x y : ℕ) → m ≡ nat_abs b → x ≡ length (print_number a) → y ≡ length (settings_text m) → x + y ≡ length (field_text month a b)
month_length a b m x y q e f = omega (arith, ap length (month_is a b m q), length-append (print_number a) (settings_text m))
