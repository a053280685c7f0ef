use Rattle.std.proofs.Common.{◌≡◌, ◌++◌}
use Rattle.gm_parting.specs.Nodes.{node_locals}
use Rattle.gm_prepare.proofs.nodes.declare.Given as goal

-- so many locals are added
abbrev pub invariant-loop-i : goal.invariant-loop-i
invariant-loop-i l = l.declarations.items ≡ l.initial.declarations.items ++ node_locals l.depth l._i
