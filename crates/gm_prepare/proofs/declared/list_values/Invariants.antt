use Rattle.std.proofs.Common.{◌≡◌, ◌++◌, drop, map}
use Rattle.gm_ast.specs.Tree.{expr_of}
use Rattle.gm_forms.specs.Sharing.{sights_in_all}
use Rattle.gm_prepare.proofs.declared.list_values.Given as goal

-- what is there and what is left make the whole
abbrev pub invariant-loop-value : goal.invariant-loop-value
invariant-loop-value l = l.names.items ++ (sights_in_all (map expr_of (drop l.value-index l.values.items))).scalars ≡ l.initial.names.items ++ (sights_in_all (map expr_of l.values.items)).scalars
