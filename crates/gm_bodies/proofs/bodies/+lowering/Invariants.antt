use Rattle.std.proofs.Common.{◌≡◌, ◌++◌, drop, map}
use Rattle.std.specs.Prelude.{◌+◌}
use Rattle.gm_ast.specs.Program.{sequence}
use Rattle.gm_ast.specs.Tree.{stmt_of}
use Rattle.gm_image.specs.Views.{line}
use Rattle.gm_lowering.specs.Bodies.{lines_of}
use Rattle.gm_bodies.specs.Sites.{sends, site_of}
use Rattle.gm_bodies.proofs.bodies.+lowering.Given as goal

-- what is there and what is left make the whole
abbrev pub invariant-add_block-loop-stmt : goal.invariant-add_block-loop-stmt
invariant-add_block-loop-stmt l =
    (map line l.out.items ++ lines_of (site_of l.fn.site) l.kind (sequence (map stmt_of (drop l.stmt-index l.stmts.items)))
    ≡ map line l.initial.out.items ++ lines_of (site_of l.fn.site) l.initial.kind (sequence (map stmt_of l.stmts.items)))
    × (l.kind + sends (site_of l.fn.site) (sequence (map stmt_of (drop l.stmt-index l.stmts.items))) ≡ l.initial.kind + sends (site_of l.fn.site) (sequence (map stmt_of l.stmts.items)))
