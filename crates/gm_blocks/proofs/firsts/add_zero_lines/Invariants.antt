use Rattle.std.proofs.Common.{◌≡◌, ◌++◌, drop, map}
use Rattle.gm_ast.specs.Tree.{stmt_of}
use Rattle.gm_image.specs.Views.{line}
use Rattle.gm_layouts.specs.Where.{where_of}
use Rattle.gm_blocks.specs.Firsts.{zero_lines_from}
use Rattle.gm_blocks.proofs.firsts.add_zero_lines.Given as goal

-- what is there and what is left make the whole
abbrev pub invariant-loop : goal.invariant-loop
invariant-loop l =
    map line l.out.items ++ zero_lines_from (where_of l.fn.layout) (stmt_of l.fn.body) l.variable (drop l.index l.declarations)
    ≡ map line l.initial.out.items ++ zero_lines_from (where_of l.fn.layout) (stmt_of l.fn.body) 0 l.declarations
