-- Every plan and every payoff has one text, proved.
use Rattle.language.proofs.Text.Compiled.{compiled_formed, cut_formed}
use Rattle.language.proofs.Text.Payoffs.{payoff_read, payoff_round_trip, payoff_short}
use Rattle.language.proofs.Text.Plans.{plan_read, plan_round_trip, plan_short}
use Rattle.language.specs.OneText.{Texts}
use Rattle.language.specs.Payoff.Compile.{compiled_plan}
use Rattle.language.specs.Text.Trees.{start}

pub texts : Texts
texts = record {
  plans = record { short = plan_short; back = plan_round_trip; only = plan_read };
  payoffs = record { short = payoff_short; back = payoff_round_trip; only = payoff_read };
  compiled = compiled_formed;
  cut_too = λ x h. cut_formed (compiled_plan start x) (compiled_formed x h);
}
