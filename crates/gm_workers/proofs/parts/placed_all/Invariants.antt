use Rattle.std.proofs.Common.{◌≡◌, ◌++◌, map}
use Rattle.gm_workers.specs.Dealings.{placed}
use Rattle.gm_workers.specs.Parts.{messages_in}
use Rattle.gm_workers.proofs.parts.placed_all.Given as goal

abbrev pub invariant-loop-mail : goal.invariant-loop-mail
invariant-loop-mail l = l.joining ++ map (placed l.dealing l.worker) (messages_in l.mail-iterator.rest.items) ≡ map (placed l.dealing l.worker) (messages_in l.fn.waiting.items)
