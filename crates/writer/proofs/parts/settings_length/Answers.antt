use Rattle.std.proofs.Common.{ap, arith, length, sym}
use Rattle.writer.proofs.SettingTexts.{no_settings, sum_most, summing_ends, summing_on, summing_starts}
use Rattle.writer.proofs.parts.settings_length.Goals as goal

pub returns-then-digits-eq0 : goal.returns-then-digits-eq0
returns-then-digits-eq0 c = sym (ap length (no_settings _ c.if-digits-eq0.true))

pub loop-init : goal.loop-init
loop-init c = summing_starts _

pub overflow_add-sum : goal.overflow_add-sum
overflow_add-sum c = omega (arith, sum_most c.loop.invariant)

pub loop-preserved : goal.loop-preserved
loop-preserved c = summing_on c.loop.invariant c.loop-test.true

pub returns : goal.returns
returns c = summing_ends c.loop.invariant c.loop-test.false
