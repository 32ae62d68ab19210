use Rattle.text.specs.Opens.{opens}
use Rattle.payments.proofs.RootWaits.{waits_not, waits_then}
use Rattle.payments.proofs.waits.text_waits.Goals as goal

pub returns-then-root_waits : goal.returns-then-root_waits
returns-then-root_waits c = waits_then c.root_waits.ensures c.if-root_waits.true c.has_open.ensures

pub returns-else-root_waits : goal.returns-else-root_waits
returns-else-root_waits c = waits_not (opens c.args.text.now) c.root_waits.ensures c.if-root_waits.false
