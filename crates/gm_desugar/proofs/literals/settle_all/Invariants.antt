use Rattle.std.proofs.Common.{◌≡◌, map, length}
use Rattle.gm_ast.specs.Tree.{expr_of}
use Rattle.gm_desugar.specs.Literals.{with_literals}
use Rattle.gm_desugar.proofs.Partly.{partly}
use Rattle.gm_desugar.proofs.literals.settle_all.Given as goal

abbrev pub invariant-loop-i : goal.invariant-loop-i
invariant-loop-i l = (length l.values.items ≡ length l.initial.values.items) × (map expr_of l.values.items ≡ partly with_literals l.i (map expr_of l.initial.values.items))
