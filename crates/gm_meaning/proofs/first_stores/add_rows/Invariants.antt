use Rattle.std.proofs.Common.{◌≡◌, ◌<◌, ℕ}
use Rattle.gm_ast.specs.Tree.{program_of}
use Rattle.gm_ast.specs.declared.tree.Sort.TheVariants as Sorts
use Rattle.gm_semantics.specs.Outcomes.{count_before, column_value}
use Rattle.gm_store.specs.Held.{node_of, shape_of}
use Rattle.gm_meaning.proofs.first_stores.add_rows.Given as goal

-- the properties below x are there
abbrev pub invariant-loop-x : goal.invariant-loop-x
invariant-loop-x l = record {
  passed : l.passed ≡ count_before l.tree.declarations.items Sorts.NodeProperty l.x;
  values : (p n : ℕ) → p < l.x → node_of l.store p n ≡ column_value (program_of l.tree) Sorts.NodeProperty l.graph.node_columns p n;
  shape : shape_of l.store ≡ record (shape_of l.fn.store) { rows = l.x };
  undo : l.store.undo ≡ l.fn.store.undo;
}
