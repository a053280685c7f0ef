use Rattle.std.proofs.Common.{◌≡◌, ℕ, take}
use Rattle.gm_value.specs.declared.values.Value.{Value}
use Rattle.gm_semantics.specs.Stores.{write_all}
use Rattle.gm_store.specs.Held.{shape_of, store_of}
use Rattle.gm_meaning.proofs.phases.set_each.Given as goal

-- the first values are written to the first slots
abbrev pub invariant-loop-k : goal.invariant-loop-k
invariant-loop-k l = record {
  store : (edge : ℕ → ℕ → Value) → store_of edge l.store ≡ write_all (store_of edge l.fn.store) (take l.k l.slots) (take l.k l.values);
  undo : l.store.undo ≡ l.fn.store.undo;
  shape : shape_of l.store ≡ shape_of l.fn.store;
}
