use Rattle.std.proofs.Common.{drop}
use Rattle.std.specs.Prelude.{flat_map}
use Rattle.gm_push_pull.specs.declared.web.Web.{Web}
use Rattle.gm_push_pull.specs.Webs.{Adds, fed}
use Rattle.gm_push_pull.proofs.web.Web.feed_each.Given as goal

-- what is linked so far, with what is left, is all that is linked
abbrev pub invariant-loop-target : goal.invariant-loop-target
invariant-loop-target l = (new : Web) → Adds l.self new (flat_map (fed l.site) (drop l.target-index l.targets)) → Adds l.fn.self new (flat_map (fed l.site) l.targets)
