-- The formulas by which workers own nodes.
use Rattle.std.specs.Prelude.{ℕ, ◌+◌, ◌*◌, ◌/◌, ◌%◌}
use Rattle.std.specs.Int.{div_ceil}
use Rattle.gm_partition.specs.declared.Owner.{Owner}
use Rattle.gm_partition.specs.declared.Owner.TheVariants.{Mod, Block, Spread}

-- the length of a block: the quotient of the nodes by the workers, rounded up. It is the least number c for
-- which c times the workers is at least the number of nodes
abbrev pub block_len : ℕ → ℕ → ℕ
block_len workers nodes = div_ceil nodes workers

-- the worker that owns a node. Mod: the remainder by the number of workers. Block: the number of the block in
-- which the node lies. Spread: the node times a large prime, plus the shift, without its sixteen low bits, and
-- of that the remainder by the number of workers
abbrev pub owner_is : Owner → ℕ → ℕ → ℕ → ℕ
owner_is Mod workers nodes node = node % workers
owner_is Block workers nodes node = node / block_len workers nodes
owner_is (Spread shift) workers nodes node = (node * 2654435761 + shift) / 65536 % workers
