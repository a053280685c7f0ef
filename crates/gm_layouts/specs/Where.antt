-- Where the variables of a tree's program lie.
use Rattle.gm_ast.specs.declared.tree.Tree.{Tree}
use Rattle.gm_ast.specs.Tree.{program_of}
use Rattle.gm_lowering.specs.Layouts.{Layout, layout}

abbrev pub where_of : Tree → Layout
where_of t = layout (program_of t)
