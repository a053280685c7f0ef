use Rattle.std.proofs.Common.{drop, map}
use Rattle.std.specs.Prelude.{flat_map}
use Rattle.gm_ast.specs.Tree.{expr_of}
use Rattle.gm_ast.specs.Ways.{mentions}
use Rattle.gm_push_pull.specs.declared.web.Web.{Web}
use Rattle.gm_push_pull.specs.Webs.{Adds, link_from}
use Rattle.gm_push_pull.proofs.web.Web.link_values.Given as goal

-- what is linked so far, with what is left, is all that is linked
abbrev pub invariant-loop-value : goal.invariant-loop-value
invariant-loop-value l = (new : Web) → Adds l.self new (map (link_from l.site) (flat_map mentions (map expr_of (drop l.value-index l.values)))) → Adds l.fn.self new (map (link_from l.site) (flat_map mentions (map expr_of l.values)))
