use Rattle.gm_levels.proofs.Walking.{level_is_a_walk, level_is_least}
use Rattle.gm_levels.proofs.Trails.{no_level_no_walk}
use Rattle.gm_levels.proofs.laws.levels_are_least_walks.Goals as goal

pub returns : goal.returns
returns c = record {
  walk = level_is_a_walk;
  least = level_is_least;
  none = no_level_no_walk;
}
