use Rattle.std.proofs.Common.{◌≡◌, drop}
use Rattle.std.specs.Prelude.{flat_map}
use Rattle.gm_ast.specs.Ways.{held_of}
use Rattle.gm_push_pull.specs.Locals.{noted_all}
use Rattle.gm_push_pull.proofs.locals.Locals.noted_held.Given as goal

-- what is read so far, with what is left, is all that is read
abbrev pub invariant-loop-target : goal.invariant-loop-target
invariant-loop-target l = noted_all l.self l.all (flat_map held_of (drop l.target-index l.targets)) ≡ noted_all l.self l.fn.reads (flat_map held_of l.targets)
