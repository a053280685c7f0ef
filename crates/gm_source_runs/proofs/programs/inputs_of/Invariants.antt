use Rattle.std.proofs.Common.{◌≡◌, map, take}
use Rattle.gm_ast.specs.declared.tree.Sort.TheVariants.{Scalar}
use Rattle.gm_source_runs.specs.Programs.{input_of, of_sort}
use Rattle.gm_source_runs.proofs.programs.inputs_of.Given as goal

abbrev pub invariant-loop-declaration : goal.invariant-loop-declaration
invariant-loop-declaration l = l.inputs.items ≡ map input_of (of_sort Scalar (take l.declaration-index l.declarations))
