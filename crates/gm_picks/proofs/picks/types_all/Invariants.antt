use Rattle.std.proofs.Common.{◌≡◌, ◌++◌, map, drop}
use Rattle.gm_ast.specs.Tree.{expr_of}
use Rattle.gm_picks.specs.Picks.{types_all}
use Rattle.gm_picks.proofs.picks.types_all.Given as goal

-- the types so far and those of the values that are left are all
abbrev pub invariant-loop-value : goal.invariant-loop-value
invariant-loop-value l = l.types.items ++ types_all l.declarations (map expr_of (drop l.value-index l.values)) ≡ l.initial.types.items ++ types_all l.declarations (map expr_of l.values)
