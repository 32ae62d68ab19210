use Rattle.std.proofs.Common.{length, refl, ◌∙◌, arith, le-leb}
use borrow.Author.Tests.{lt-leb}
use Rattle.language.specs.Rules.Table.{are_settings}
use Rattle.tables.proofs.settings_ok.Goals as goal

pub returns-then-days-gt8 : goal.returns-then-days-gt8
unfolding are_settings
returns-then-days-gt8 c = rw (lt-leb (length c.args.days.now) 8 (omega arith))

pub returns : goal.returns
unfolding are_settings
returns c = c.all_between.ensures ∙ rw (le-leb (length c.args.days.now) 8 (omega arith)) refl
