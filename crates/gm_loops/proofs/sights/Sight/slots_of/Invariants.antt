use Rattle.std.proofs.Common.{◌≡◌, drop}
use Rattle.std.specs.Prelude.{All}
use Rattle.gm_model.specs.Graphs.{node_count}
use Rattle.gm_semantics.specs.Iterations.{slots_of}
use Rattle.gm_store.specs.Held.{HasSlot}
use Rattle.gm_loops.specs.Bounds.{targets_bound}
use Rattle.gm_loops.specs.Scopes.{no_scope}
use Rattle.gm_loops.specs.Sights.{view_of}
use Rattle.gm_loops.specs.Targets.{room}
use Rattle.gm_loops.proofs.Together.{behind}
use Rattle.gm_loops.proofs.sights.Sight.slots_of.Given as goal

-- the slots so far, with those of the targets that are left, are all
abbrev pub invariant-loop-target : goal.invariant-loop-target
invariant-loop-target l =
    (behind l.slots.items (slots_of (view_of l.self no_scope l.store) (drop l.target-index l.targets)) ≡ slots_of (view_of l.self no_scope l.store) l.targets)
    × All (HasSlot (room (node_count l.self.setting.now.graph.now) (targets_bound l.targets))) l.slots.items
