-- The nodes of the first messages have their places.
use Rattle.std.proofs.Common.{◌≡◌, map, take}
use Rattle.gm_workers.specs.Dealings.{place_for}
use Rattle.gm_workers.proofs.parts.placed_nodes.Given as goal

abbrev pub invariant-loop-i : goal.invariant-loop-i
invariant-loop-i l = l.places.items ≡ map (λ m. place_for l.dealing l.worker m.to) (take l.i l.mail.messages)
