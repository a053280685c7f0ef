use Rattle.std.proofs.Common.{◌+◌, length}
use Rattle.gm_levels.specs.Searches.{open_count}
use Rattle.gm_levels.proofs.Searching.{IsSearched}
use Rattle.gm_levels.proofs.searches.searched.Given as goal

abbrev pub invariant-loop-alloc : goal.invariant-loop-alloc
invariant-loop-alloc l = IsSearched l.graph l.root l.count l.search

abbrev pub decreases-loop-alloc : goal.decreases-loop-alloc
decreases-loop-alloc l = length l.search.found.items + open_count l.search.cells.items
