use Rattle.std.proofs.Common.{◌≡◌, map, take}
use Rattle.gm_bfs.specs.Variables.{copy_declaration}
use Rattle.gm_bfs.proofs.fresh.copies_of.Given as goal

abbrev pub invariant-loop-declaration : goal.invariant-loop-declaration
invariant-loop-declaration l = l.copies.items ≡ map copy_declaration (take l.declaration-index l.declarations)
