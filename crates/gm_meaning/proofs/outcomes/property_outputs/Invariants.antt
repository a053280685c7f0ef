use Rattle.std.proofs.Common.{◌≡◌, ◌+◌, ◌-◌, ◌++◌, map}
use Rattle.std.specs.Prelude.{filter}
use Rattle.gm_ast.specs.Tree.{program_of}
use Rattle.gm_ast.specs.declared.tree.Sort.TheVariants as Sorts
use Rattle.gm_semantics.specs.Levels.{numbers_from, nodes}
use Rattle.gm_semantics.specs.Outcomes.{is_of, outputs_of}
use Rattle.gm_store.specs.Held.{node_of}
use Rattle.gm_meaning.proofs.outcomes.property_outputs.Given as goal

-- the lists so far, with those of the variables that are left, are all
abbrev pub invariant-loop-x : goal.invariant-loop-x
invariant-loop-x l =
    l.lists.items ++ map (λ x. map (node_of l.store x) (nodes l.graph)) (filter (is_of l.tree.declarations.items Sorts.NodeProperty) (numbers_from l.x ((l.tree.inputs + l.tree.outputs) - l.x)))
    ≡ map (λ x. map (node_of l.store x) (nodes l.graph)) (outputs_of (program_of l.tree) Sorts.NodeProperty)
