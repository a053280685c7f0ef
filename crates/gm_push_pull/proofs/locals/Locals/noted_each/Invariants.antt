use Rattle.std.proofs.Common.{◌≡◌, map, drop}
use Rattle.std.specs.Prelude.{flat_map}
use Rattle.gm_ast.specs.Tree.{expr_of}
use Rattle.gm_ast.specs.Ways.{mentions}
use Rattle.gm_push_pull.specs.Locals.{noted_all}
use Rattle.gm_push_pull.proofs.locals.Locals.noted_each.Given as goal

-- what is read so far, with what is left, is all that is read
abbrev pub invariant-loop-value : goal.invariant-loop-value
invariant-loop-value l = noted_all l.self l.all (flat_map mentions (map expr_of (drop l.value-index l.values))) ≡ noted_all l.self l.fn.reads (flat_map mentions (map expr_of l.initial.values))
