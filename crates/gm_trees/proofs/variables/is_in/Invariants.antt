use Rattle.std.proofs.Common.{◌≡◌, drop}
use Rattle.gm_ast.specs.Ways.{is_in}
use Rattle.gm_trees.proofs.variables.is_in.Given as goal

-- the variables that are left give the answer
abbrev pub invariant-loop-other : goal.invariant-loop-other
invariant-loop-other l = is_in (drop l.other-index l.variables) l.fn.variable ≡ is_in l.variables l.fn.variable
