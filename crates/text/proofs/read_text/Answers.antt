use Prim.Native.Nat.{◌<◌, ◌≤◌, ℕ}
use lib.ListN.{length}
use mathlib.Core.Path.{refl, subst}
use native.Mathlib.Omega.{arith}
use Rattle.text.specs.Letters.{form_of}
use Rattle.integers.proofs.Passed.{handed_up}
use Rattle.text.proofs.PackedLaws.{longest_small}
use Rattle.text.proofs.TextLaws.{text_left, text_long, text_read, text_refused}
use Rattle.text.proofs.read_text.Goals as goal

pub returns-then-longest-text : goal.returns-then-longest-text
returns-then-longest-text c =
    let a = c.args in
    record { is = text_long (form_of a.form) a.text.now (subst (λ (n : ℕ). n < length a.text.now) c.longest.ensures c.if-longest-text.true); kept = refl }

pub read_rows-requires : goal.read_rows-requires
read_rows-requires c =
    let a = c.args in
    (omega (arith, c.longest.ensures, c.if-longest-text.false, longest_small a.form), c.requires)

pub returns-then-read-text : goal.returns-then-read-text
returns-then-read-text c =
    let a = c.args in
    record { is = text_left (form_of a.form) a.text.now (subst (λ (n : ℕ). length a.text.now ≤ n) c.longest.ensures c.if-longest-text.false) _ _ _ c.in_ok-read.ensures.is c.if-read-text.true; kept = c.read_rows.ensures.kept }

pub returns-clause-is : goal.returns-clause-is
returns-clause-is c =
    let a = c.args in
    text_read (form_of a.form) a.text.now (subst (λ (n : ℕ). length a.text.now ≤ n) c.longest.ensures c.if-longest-text.false) _ _ _ c.in_ok-read.ensures.is c.if-read-text.false

pub returns-in_err-read-clause-is : goal.returns-in_err-read-clause-is
returns-in_err-read-clause-is c =
    let a = c.args in
    rw (handed_up _ c.from_residual.ensures.1) (text_refused (form_of a.form) a.text.now (subst (λ (n : ℕ). length a.text.now ≤ n) c.longest.ensures c.if-longest-text.false) _ c.in_err-read.ensures.is)
