use Rattle.std.proofs.Common.{◌≡◌, ◌++◌, take}
use Rattle.std.specs.Prelude.{All}
use Rattle.gm_store.specs.Held.{HasSlot, shape_of}
use Rattle.gm_loops.specs.Own.{kept}
use Rattle.gm_loops.proofs.own.keep_own.Given as goal

-- of the logged writes so far those at the node are kept
abbrev pub invariant-loop-write : goal.invariant-loop-write
invariant-loop-write l = record {
  kept : l.own.items ≡ l.fn.own.items ++ kept l.node l.store (take l.write-index l.store.undo);
  slots : All (λ w. HasSlot (shape_of l.store) w.slot) l.own.items;
}
