use Rattle.std.proofs.Common.{◌≡◌, ◌+◌, ◌++◌, length, map}
use Rattle.gm_ast.specs.Tree.{stmt_of}
use Rattle.gm_locals.specs.AllGroups.{groups_in, with_groups}
use Rattle.gm_locals.proofs.Partly.{partly, gathered_before}
use Rattle.gm_locals.proofs.locals.+keeping.Given as goal

-- the loops of the statements before an index keep their locals, which are gathered
abbrev pub invariant-keep_block-loop-i : goal.invariant-keep_block-loop-i
invariant-keep_block-loop-i l = goal.unvisited-keep_block-loop-i l
    × (map stmt_of l.stmts.items ≡ partly (with_groups l.declarations.items) (groups_in l.declarations.items) l.i (length l.declarations.items + length l.initial.kept.items) (map stmt_of l.initial.stmts.items))
    × (l.kept.items ≡ l.initial.kept.items ++ gathered_before (with_groups l.declarations.items) (groups_in l.declarations.items) l.i (map stmt_of l.initial.stmts.items))
