use Rattle.std.proofs.Common.{drop, map}
use Rattle.std.specs.Prelude.{flat_map}
use Rattle.gm_ast.specs.Ways.{held_of}
use Rattle.gm_push_pull.specs.declared.web.Web.{Web}
use Rattle.gm_push_pull.specs.Webs.{Adds, link_from}
use Rattle.gm_push_pull.proofs.web.Web.link_held.Given as goal

-- what is linked so far, with what is left, is all that is linked
abbrev pub invariant-loop-target : goal.invariant-loop-target
invariant-loop-target l = (new : Web) → Adds l.self new (map (link_from l.site) (flat_map held_of (drop l.target-index l.targets))) → Adds l.fn.self new (map (link_from l.site) (flat_map held_of l.targets))
