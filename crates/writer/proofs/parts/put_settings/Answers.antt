use Rattle.std.proofs.Common.{sym}
use Rattle.writer.proofs.Puts.{none, said}
use Rattle.writer.proofs.SettingTexts.{no_settings, settling_ends, settling_on, settling_room, settling_starts}
use Rattle.writer.proofs.parts.put_settings.Goals as goal

pub returns-then-digits-eq0 : goal.returns-then-digits-eq0
returns-then-digits-eq0 c = said (sym (no_settings _ c.if-digits-eq0.true)) none

pub put_setting-place-requires : goal.put_setting-place-requires
put_setting-place-requires c = (c.loop-k-test.true, settling_room c.loop-k.invariant c.loop-k-test.true c.requires)

pub loop-k-preserved : goal.loop-k-preserved
loop-k-preserved c = settling_on c.loop-k.invariant c.loop-k-test.true c.put_setting-place.ensures

pub returns : goal.returns
returns c = settling_ends c.loop-k.invariant c.loop-k-test.false
