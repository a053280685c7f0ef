use Rattle.std.proofs.Common.{ℕ, List, ◌++◌, take}
use Rattle.gm_loader.specs.Sets.{IsSetOf}
use Rattle.gm_loader.proofs.sets.NumberSet.insert_all.Given as goal

abbrev pub invariant-loop-place : goal.invariant-loop-place
invariant-loop-place l = (before : List ℕ) → IsSetOf before l.initial.self → IsSetOf (before ++ take l.place l.numbers) l.self
