use Rattle.writer.proofs.SettingTexts.{Settling}
use Rattle.writer.proofs.parts.put_settings.Given as goal

-- what was written and the settings of the digits left are all
abbrev pub invariant-loop-k : goal.invariant-loop-k
invariant-loop-k l = Settling l.digits l.initial.out l.out l.at l.place l.left l.k
