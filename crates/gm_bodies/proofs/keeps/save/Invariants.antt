use Rattle.std.proofs.Common.{◌≡◌, ◌++◌, drop, map}
use Rattle.gm_ast.specs.Tree.{expr_of}
use Rattle.gm_bodies.specs.Keeps.{saves, settings}
use Rattle.gm_bodies.proofs.keeps.save.Given as goal

-- what is there and what is left make the whole
abbrev pub invariant-loop-value : goal.invariant-loop-value
invariant-loop-value l =
    settings l.out.items ++ saves l.fn.keeper l.fn.key l.position l.rest (map expr_of (drop l.value-index l.values))
    ≡ settings l.initial.out.items ++ saves l.fn.keeper l.fn.key 0 l.fn.targets (map expr_of l.values)
