use lib.ListN.{drop}
use mathlib.Core.List.{[]}
use mir.Syntax.{w64}
use mir.ValLaws.{to_z-of_z}
use native.Mathlib.Omega.{arith}
use Rattle.language.specs.Text.Letters.{figure}
use Rattle.fields.specs.Positions.{up_to}
use Rattle.fields.proofs.ClassLaws.{figure_fails, figure_reads, small_fits}
use Rattle.fields.proofs.FieldLaws.{bad_first, failed_at, four_one, taken_at}
use Rattle.fields.proofs.Positions.{up_fits}
use Rattle.fields.proofs.slots.read_figure.Goals as goal

pub returns-in_err-a : goal.returns-in_err-a
returns-in_err-a c =
    let a = c.args in
    let t = a.text.now in
    rw c.from_residual.ensures (bad_first t a.at figure [] (failed_at figure t a.at c.requires (figure_fails (up_to 44 (drop a.at t)) c.in_err-a.ensures)))

pub overflow_add-result : goal.overflow_add-result
overflow_add-result c = omega (arith, c.in_ok-a.ensures.ends, up_fits 44 c.args.text.now c.args.at c.requires)

pub returns : goal.returns
returns c =
    let a = c.args in
    let t = a.text.now in
    let w = c.in_ok-a.ensures in
    let v = c.in_ok-a.a.value in
    four_one t a.at figure v _ (taken_at figure t a.at _ _ c.requires (omega (arith, w.ends))
    (figure_reads _ v w.small w.is)) _ (to_z-of_z w64 v (small_fits v w.small))
