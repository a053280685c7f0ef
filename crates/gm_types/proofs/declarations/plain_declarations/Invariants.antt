use Rattle.std.proofs.Common.{◌≡◌, ◌++◌, map, drop}
use Rattle.gm_ast.specs.Tree.{stmt_of}
use Rattle.gm_types.proofs.Plain.{declared_plain}
use Rattle.gm_types.proofs.declarations.plain_declarations.Given as goal

-- the declarations so far and those of the indices that are left are all
abbrev pub invariant-loop-variable : goal.invariant-loop-variable
invariant-loop-variable l = map stmt_of l.stmts.items ++ map (declared_plain l.key) (drop l.variable-index l.indices) ≡ map (declared_plain l.key) l.indices
