use Rattle.std.proofs.Common.{◌≡◌, ◌+◌, ◌-◌, ◌++◌, map}
use Rattle.std.specs.Prelude.{filter}
use Rattle.gm_ast.specs.Tree.{program_of}
use Rattle.gm_ast.specs.declared.tree.Sort.TheVariants as Sorts
use Rattle.gm_semantics.specs.Levels.{numbers_from}
use Rattle.gm_semantics.specs.Outcomes.{is_of, outputs_of}
use Rattle.gm_store.specs.Held.{scalar_of}
use Rattle.gm_meaning.proofs.outcomes.scalar_outputs.Given as goal

-- the values so far, with those of the variables that are left, are all
abbrev pub invariant-loop-x : goal.invariant-loop-x
invariant-loop-x l =
    l.values.items ++ map (scalar_of l.store) (filter (is_of l.tree.declarations.items Sorts.Scalar) (numbers_from l.x ((l.tree.inputs + l.tree.outputs) - l.x)))
    ≡ map (scalar_of l.store) (outputs_of (program_of l.tree) Sorts.Scalar)
