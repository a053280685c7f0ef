use Rattle.std.proofs.Common.{◌≡◌}
use Rattle.gm_ast.specs.Tree.{program_of}
use Rattle.gm_ast.specs.declared.tree.Sort.TheVariants as Sorts
use Rattle.gm_semantics.specs.Outcomes.{count_before}
use Rattle.gm_meaning.specs.Inputs.{first_columns}
use Rattle.gm_meaning.proofs.first_stores.edge_columns.Given as goal

-- the columns of the variables below x are there
abbrev pub invariant-loop-x : goal.invariant-loop-x
invariant-loop-x l = record {
  passed : l.passed ≡ count_before l.tree.declarations.items Sorts.EdgeProperty l.x;
  columns : l.columns.items ≡ first_columns (program_of l.tree) l.graph l.x;
}
