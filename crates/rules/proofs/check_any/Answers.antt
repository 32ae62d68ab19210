use mathlib.Core.Path.{subst}
use Rattle.rules.specs.Quick.{ReadIs}
use Rattle.tables.specs.Given.{given_in}
use Rattle.rules.proofs.check_any.Goals as goal

pub returns-in-Some : goal.returns-in-Some
returns-in-Some c =
    let a = c.args in subst (ReadIs a.text.now (given_in a.given.now) a.today.0) c.in-Some.is c.check_read-found.ensures
