use Rattle.writer.proofs.SettingTexts.{Copying}
use Rattle.writer.proofs.parts.put_setting.Given as goal

-- so many settings are written
abbrev pub invariant-loop : goal.invariant-loop
invariant-loop l = Copying l.k l.initial.out l.out l.at l.place l.counter
