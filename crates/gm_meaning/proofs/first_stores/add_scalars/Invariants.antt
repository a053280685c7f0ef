use Rattle.std.proofs.Common.{◌≡◌}
use Rattle.gm_ast.specs.Tree.{program_of}
use Rattle.gm_ast.specs.declared.tree.Sort.TheVariants as Sorts
use Rattle.gm_semantics.specs.Outcomes.{count_before}
use Rattle.gm_meaning.specs.Inputs.{first_scalars}
use Rattle.gm_meaning.proofs.first_stores.add_scalars.Given as goal

-- the scalars below x are there
abbrev pub invariant-loop-x : goal.invariant-loop-x
invariant-loop-x l = record {
  passed : l.passed ≡ count_before l.tree.declarations.items Sorts.Scalar l.x;
  store : l.store ≡ record l.fn.store { scalars = first_scalars (program_of l.tree) l.args l.x };
}
