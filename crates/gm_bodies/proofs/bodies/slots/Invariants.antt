use Rattle.std.proofs.Common.{◌≡◌, ◌++◌, drop, map}
use Rattle.gm_ast.specs.Tree.{expr_of}
use Rattle.gm_image.specs.Views.{target}
use Rattle.gm_lowering.specs.Bodies.{image_targets}
use Rattle.gm_lowering.specs.Terms as Terms
use Rattle.gm_terms.specs.Environments.{env_of}
use Rattle.gm_layouts.specs.Where.{where_of}
use Rattle.gm_bodies.proofs.bodies.slots.Given as goal

-- what is there and what is left make the whole
abbrev pub invariant-loop-value : goal.invariant-loop-value
invariant-loop-value l =
    map target l.out.items ++ image_targets (where_of l.fn.env.layout.now) l.rest (map (Terms.term (env_of l.fn.env) l.fn.key) (map expr_of (drop l.value-index l.values)))
    ≡ image_targets (where_of l.fn.env.layout.now) l.fn.targets (map (Terms.term (env_of l.fn.env) l.fn.key) (map expr_of l.values))
