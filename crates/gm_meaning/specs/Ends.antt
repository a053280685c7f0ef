-- What a run leaves behind, as the code has it.
use Rattle.std.specs.Prelude.{ℕ, List, map}
use Rattle.gm_value.specs.declared.values.Value.{Value}
use Rattle.gm_semantics.specs.Levels.{numbers_from}
use Rattle.gm_store.specs.Held.{Held, node_of}

-- the values of a property at all nodes below a count
abbrev pub values_below : Held → ℕ → ℕ → List Value
values_below h x nodes = map (node_of h x) (numbers_from 0 nodes)
