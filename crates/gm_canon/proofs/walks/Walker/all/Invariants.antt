use Rattle.std.proofs.Common.{map, drop}
use Rattle.gm_ast.specs.Canonical.{all_broken}
use Rattle.gm_ast.specs.Tree.{expr_of}
use Rattle.gm_canon.proofs.Parts.{Walks}
use Rattle.gm_canon.proofs.walks.Walker.all.Given as goal

-- the expressions so far are judged
abbrev pub invariant-loop-value : goal.invariant-loop-value
invariant-loop-value l = Walks l.initial.self l.self (all_broken (map expr_of l.values)) (all_broken (map expr_of (drop l.value-index l.values)))
