use Rattle.std.specs.Prelude.{All}
use Rattle.gm_push_pull.specs.Locals.{is_known}
use Rattle.gm_push_pull.specs.Webs.{Drives, Follows, to_do}
use Rattle.gm_push_pull.proofs.locals.Locals.drain.Given as goal

-- what is spread so far is no more than what the links let through
abbrev pub invariant-loop-node : goal.invariant-loop-node
invariant-loop-node l = Drives l.fn.self l.self l.fn.sites l.sites l.fn.work.items l.work.items (λ t B C. All (Follows (is_known l.fn.self) B C) l.web.links.items)

-- how much may still become known, and the nodes that are to be visited
abbrev pub decreases-loop-node : goal.decreases-loop-node
decreases-loop-node l = to_do l.self l.sites l.work.items
