use Rattle.std.proofs.Common.{map, arith}
use Rattle.gm_ast.specs.Tree.{stmt_of}
use Rattle.gm_image.specs.Views.{line}
use Rattle.gm_layouts.specs.Where.{where_of}
use Rattle.gm_blocks.proofs.ZeroLines.{zero_lines_end}
use Rattle.gm_blocks.proofs.firsts.add_zero_lines.Goals as goal

pub returns : goal.returns
returns c =
    zero_lines_end (where_of c.args.layout.now) (stmt_of c.args.body.now) c.loop.variable c.loop.index c.declarations-declarations.result.now
    (map line c.args.out.now.items) (map line c.loop.out.items) c.loop.invariant (omega arith) c.declarations-declarations.ensures
