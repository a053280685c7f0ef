-- A total closes as the contributions do that it counts.
use Rattle.std.proofs.Common.{Ok, Err}
use Rattle.gm_totals.proofs.Joining.{closes-one}
use Rattle.gm_totals.proofs.entries.closed_total.Goals as goal

pub returns-in-Ok : goal.returns-in-Ok
returns-in-Ok c = closes-one c.args.reduce c.args.total c.args.held (Ok c.in-Ok.value) c.number-number.ensures.in_range c.in-Ok.ensures.exact

pub returns-in-Err : goal.returns-in-Err
returns-in-Err c = closes-one c.args.reduce c.args.total c.args.held (Err c.in-Err.field-0) c.number-number.ensures.in_range c.in-Err.ensures.exact
