-- Who owns which node, and where it stands among its owner's nodes.
use Rattle.std.specs.Prelude.{◌≡◌, ◌≤◌, ℕ, nat_eq, if◌then◌else◌, List, length, map, slice_index_or}
use Rattle.gm_machine.specs.Vertex.{Message}
use Rattle.gm_core.specs.Cores.{owner, below}
use Rattle.gm_core.specs.Laws.{AreOwners}
use Rattle.gm_core.specs.Supersteps.{own}
use Rattle.gm_workers.specs.declared.dealing.Dealing.{Dealing}

-- the place of a node among its owner's nodes: how many of them are below it
abbrev pub place_in : List ℕ → ℕ → ℕ
place_in owners node = length (own owners (owner owners node) node)

-- no worker has so many nodes
abbrev pub no_place : ℕ
no_place = 4294967295

-- the place of a node among a worker's nodes, or what is no place
abbrev pub place_for : Dealing → ℕ → ℕ → ℕ
place_for d w node = if nat_eq (owner d.owners.items node) w then slice_index_or d.places.items node no_place else no_place

-- a message to a worker's node by the place of the node
abbrev pub placed : Dealing → ℕ → Message → Message
placed d w m = record m { to = place_for d w m.to }

-- So many nodes are dealt out among so many workers. There are so few of them that each has a place
pub record IsDealt (nodes workers : ℕ) (d : Dealing) : Type 0 where
  pub few : nodes ≤ no_place
  pub owners : AreOwners d.owners.items nodes workers
  pub places : d.places.items ≡ map (place_in d.owners.items) (below nodes)
