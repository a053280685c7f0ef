use Rattle.std.proofs.Common.{◌≡◌, ℕ, nat_eq, [], ◌&&◌, if◌then◌else◌}
use Rattle.std.specs.Prelude.{nat_lt, slice_index_or}
use Rattle.gm_store.specs.Held.{node_of, shape_of}
use Rattle.gm_meaning.proofs.first_stores.fill_from.Given as goal

-- the nodes below have their values
abbrev pub invariant-loop-node : goal.invariant-loop-node
invariant-loop-node l = record {
  values : (p n : ℕ) → node_of l.store p n ≡ (if nat_eq l.x p && nat_lt n l.node then slice_index_or (slice_index_or l.graph.node_columns l.column []) n (node_of l.fn.store p n) else node_of l.fn.store p n);
  shape : shape_of l.store ≡ shape_of l.fn.store;
  undo : l.store.undo ≡ l.fn.store.undo;
}
