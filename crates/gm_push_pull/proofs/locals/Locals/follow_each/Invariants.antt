use Rattle.std.specs.Prelude.{All}
use Rattle.gm_push_pull.specs.Locals.{is_known}
use Rattle.gm_push_pull.specs.Webs.{Drives, Follows}
use Rattle.gm_push_pull.proofs.locals.Locals.follow_each.Given as goal

-- what is spread so far is no more than what the links let through
abbrev pub invariant-loop-index : goal.invariant-loop-index
invariant-loop-index l = Drives l.fn.self l.self l.fn.sites l.sites l.fn.work.items l.work.items (λ t B C. All (Follows (is_known l.fn.self) B C) l.links)
