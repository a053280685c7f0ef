use Rattle.std.proofs.Common.{◌≡◌, ◌++◌, drop, map}
use Rattle.gm_ast.specs.Program.{sequence}
use Rattle.gm_ast.specs.Tree.{stmt_of}
use Rattle.gm_places.specs.Sites.{spots_at}
use Rattle.gm_places.specs.Spots.{as_spot}
use Rattle.gm_places.proofs.spreads.+spreading.Given as goal

-- what is there and what is left make the whole
abbrev pub invariant-add_block_spots-loop-stmt : goal.invariant-add_block_spots-loop-stmt
invariant-add_block_spots-loop-stmt l =
    map as_spot l.spots.items ++ spots_at l.fn.site (sequence (map stmt_of (drop l.stmt-index l.stmts.items)))
    ≡ map as_spot l.initial.spots.items ++ spots_at l.fn.site (sequence (map stmt_of l.stmts.items))
