use Rattle.std.proofs.Common.{◌≡◌, take}
use Rattle.gm_semantics.specs.Iterations as iterations
use Rattle.gm_semantics.specs.Iterations.{wrote_all}
use Rattle.gm_store.specs.Held.{shape_of}
use Rattle.gm_loops.specs.declared.sights.Setting.{Setting}
use Rattle.gm_loops.specs.Goings.{Does}
use Rattle.gm_loops.proofs.goings.Going.write_tuple.Given as goal

-- the first values are written to the first slots
abbrev pub invariant-loop-k : goal.invariant-loop-k
invariant-loop-k l =
    (shape_of l.self.store ≡ shape_of l.fn.self.store) × ((f : Setting) (m : iterations.Mode) → Does f m l.fn.self l.self (λ it. wrote_all it (take l.k l.slots, take l.k l.values)))
