use Rattle.std.proofs.Common.{◌≡◌, ◌++◌, drop, map}
use Rattle.gm_ast.specs.Tree.{expr_of}
use Rattle.gm_layouts.specs.Named.{names_in_all}
use Rattle.gm_layouts.proofs.names.add_in_all.Given as goal

-- what is there and what is left make the whole
abbrev pub invariant-loop-value : goal.invariant-loop-value
invariant-loop-value l =
    l.names.items ++ names_in_all (map expr_of (drop l.value-index l.values)) ≡ l.initial.names.items ++ names_in_all (map expr_of l.values)
