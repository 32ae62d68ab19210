use Rattle.writer.proofs.SettingTexts.{Summing}
use Rattle.writer.proofs.parts.settings_length.Given as goal

-- what was counted and the settings of the digits left are all
abbrev pub invariant-loop : goal.invariant-loop
invariant-loop l = Summing l.digits l.sum l.left l.counter
