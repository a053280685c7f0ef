use Rattle.std.proofs.Common.{◌≡◌, drop}
use Rattle.gm_lowering.specs.Bodies.{target_node}
use Rattle.gm_bodies.specs.Sites.{site_of}
use Rattle.gm_bodies.proofs.bodies.target_node.Given as goal

-- the targets that are left give the node
abbrev pub invariant-loop-target : goal.invariant-loop-target
invariant-loop-target l = target_node (site_of l.fn.site) l.fn.key (drop l.target-index l.targets) ≡ target_node (site_of l.fn.site) l.fn.key l.targets
