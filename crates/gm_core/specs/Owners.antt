-- The owners of all nodes.
use Rattle.std.specs.Prelude.{ℕ, List, map}
use Rattle.std.specs.List.{range_with_len}
use Rattle.gm_partition.specs.declared.Owner.{Owner}
use Rattle.gm_partition.specs.Owners.{owner_is}

-- the owner of each node by a formula, in ascending order
abbrev pub owners_by : Owner → ℕ → ℕ → List ℕ
owners_by owner workers nodes = map (owner_is owner workers nodes) (range_with_len 0 nodes)
