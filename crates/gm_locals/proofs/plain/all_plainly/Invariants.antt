use Rattle.std.proofs.Common.{◌≡◌, drop, map}
use Rattle.std.specs.List.{list_all}
use Rattle.gm_ast.specs.Tree.{expr_of}
use Rattle.gm_loop_laws.specs.Localised.{names_plainly}
use Rattle.gm_locals.proofs.plain.all_plainly.Given as goal

-- the values that are left give the answer
abbrev pub invariant-loop-value : goal.invariant-loop-value
invariant-loop-value l = list_all (names_plainly l.variable) (map expr_of (drop l.value-index l.values)) ≡ list_all (names_plainly l.variable) (map expr_of l.values)
