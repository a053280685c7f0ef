use Rattle.std.proofs.Common.{◌≡◌, ◌+◌, drop, map}
use Rattle.gm_ast.specs.Program.{sequence}
use Rattle.gm_ast.specs.Tree.{stmt_of}
use Rattle.gm_parting.specs.Nodes.{all_nodes_in}
use Rattle.gm_prepare.proofs.nodes.+summing.Given as goal

-- what is counted and what is left make the whole
abbrev pub invariant-count_phases-loop-stmt : goal.invariant-count_phases-loop-stmt
invariant-count_phases-loop-stmt l = l.count + all_nodes_in l.declarations (sequence (map stmt_of (drop l.stmt-index l.stmts.items))) ≡ all_nodes_in l.declarations (sequence (map stmt_of l.stmts.items))
