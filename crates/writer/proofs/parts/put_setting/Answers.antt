use Rattle.writer.proofs.SettingTexts.{copying_on, copying_starts}
use Rattle.writer.proofs.parts.put_setting.Goals as goal

pub loop-init : goal.loop-init
loop-init c = copying_starts _ _ _

pub loop-preserved : goal.loop-preserved
loop-preserved c = copying_on c.loop.invariant
