-- What goes to the first workers has gathered.
use Rattle.gm_posting.specs.Gathering.{Gathers}
use Rattle.gm_core.specs.Cores.{for_worker}
use Rattle.gm_workers.specs.Parts.{items_of}
use Rattle.gm_workers.proofs.PostLemmas.{to_first}
use Rattle.gm_workers.proofs.parts.post_all.Given as goal

abbrev pub invariant-loop-to : goal.invariant-loop-to
invariant-loop-to g l = Gathers items_of (to_first l.to (λ w. for_worker l.owners w l.mail.messages)) l.initial.posts l.posts l.initial.gathered l.gathered
