use Rattle.std.proofs.Common.{map, drop, option_map}
use Rattle.gm_ast.specs.SurfaceTree.{expr_of}
use Rattle.gm_ast.specs.Typing.{typed}
use Rattle.gm_types.specs.Parts.{part_of}
use Rattle.gm_types.specs.Shapes.{Walks}
use Rattle.gm_types.proofs.names.Checker.typed_all.Given as goal

-- the expressions so far are judged
abbrev pub invariant-loop-value : goal.invariant-loop-value
invariant-loop-value l = Walks typed l.initial.self l.self (option_map (λ v. map part_of v.items) l.held) (map expr_of l.values) (map expr_of (drop l.value-index l.values))
