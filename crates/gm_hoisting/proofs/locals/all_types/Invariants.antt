use Rattle.std.proofs.Common.{◌≡◌, ◌++◌, map, drop}
use Rattle.gm_ast.specs.Tree.{expr_of}
use Rattle.gm_hoisting.specs.Hoisting.{all_types}
use Rattle.gm_hoisting.proofs.locals.all_types.Given as goal

-- the types so far and those of the values that are left are all
abbrev pub invariant-loop-value : goal.invariant-loop-value
invariant-loop-value l = l.types.items ++ all_types (map expr_of (drop l.value-index l.values.items)) ≡ l.initial.types.items ++ all_types (map expr_of l.values.items)
