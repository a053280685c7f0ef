use Rattle.std.proofs.Common.{◌≡◌, ◌++◌, drop}
use Rattle.std.specs.Prelude.{filter}
use Rattle.gm_ast.specs.Tree.{stmt_of}
use Rattle.gm_parting.specs.Declared.{is_undeclared}
use Rattle.gm_prepare.proofs.declared.those_undeclared.Given as goal

-- what is there and what is left make the whole
abbrev pub invariant-loop-name : goal.invariant-loop-name
invariant-loop-name l = l.undeclared.items ++ filter (is_undeclared l.fn.declarations (stmt_of l.fn.body)) (drop l.name-index l.names) ≡ filter (is_undeclared l.fn.declarations (stmt_of l.fn.body)) l.names
