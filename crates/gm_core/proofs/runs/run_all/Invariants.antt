-- What is left of the events goes on from here.
use Rattle.std.proofs.Common.{◌≡◌, drop}
use Rattle.gm_model.specs.Graphs.{node_count}
use Rattle.gm_image.specs.Views.{program}
use Rattle.gm_core.specs.Cores.{effects, first_illegal}
use Rattle.gm_core.specs.CoreViews.{core_of, IsWide}
use Rattle.gm_core.proofs.runs.run_all.Given as goal

abbrev pub invariant-loop-index : goal.invariant-loop-index
invariant-loop-index l = record {
  wide : IsWide (node_count l.setting.graph.now) l.setting.workers l.core;
  core : effects (program l.setting.image.now) l.setting.graph.now l.setting.owners.now l.setting.workers (core_of l.core) (drop l.index l.events)
      ≡ effects (program l.setting.image.now) l.setting.graph.now l.setting.owners.now l.setting.workers (core_of l.fn.core) l.events;
  legal : first_illegal (program l.setting.image.now) l.setting.graph.now l.setting.owners.now l.setting.workers l.index (core_of l.core) (drop l.index l.events)
      ≡ first_illegal (program l.setting.image.now) l.setting.graph.now l.setting.owners.now l.setting.workers 0 (core_of l.fn.core) l.events;
}
