-- The header of what was added.
use Rattle.gm_machine.proofs.batches.push_message.Goals as goal

pub returns-clause-added : goal.returns-clause-added
returns-clause-added c = record {
  header = record { to = c.args.to; sort = c.in_ok-sort.sort; start = c.in_ok-sort.start };
  behind = c.in_ok-push.ensures.items;
  is = c.in_ok-sort.ensures.added.is c.args.to;
  within = c.in_ok-sort.ensures.added.within c.args.to;
}
