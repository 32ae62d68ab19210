use Rattle.std.proofs.Common.{length, sym, ap, ◌∙◌, subst, rules}
use Rattle.language.specs.Answer.{got}
use Rattle.tables.specs.Lookup.{Inside, found_answer, standing}
use Rattle.tables.proofs.lookup.lookup.Goals as goal

pub value_at-requires : goal.value_at-requires
unfolding Inside
value_at-requires c = subst (Inside (length c.args.values.now)) c.in-Some.is c.requires

pub returns-in-Some : goal.returns-in-Some
unfolding found_answer standing
returns-in-Some c = ap got c.value_at.ensures ∙ ap (standing c.args.values.now) (sym c.in-Some.is)

pub returns-in-None : goal.returns-in-None
unfolding found_answer standing
returns-in-None c = ap (standing c.args.values.now) (sym c.in-None.is)
