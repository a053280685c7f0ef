use Rattle.std.proofs.Common.{◌≡◌, ◌++◌, ◌≤◌, All}
use Rattle.gm_mailbox.proofs.Mailbox.collect.Given as goal

abbrev pub invariant-loop : goal.invariant-loop
invariant-loop g l = record {
  grown : l.post ≡ record l.fn.post { taken = l.fn.post.taken ++ l.batches.items };
  numbers : All (λ x. x.0 ≤ l.fn.post.splits) l.batches.items;
}
