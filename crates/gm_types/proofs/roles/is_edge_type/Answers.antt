use Rattle.std.proofs.Common.{◌<◌, ◌∙◌, sym, arith, option_map, length}
use Rattle.std.proofs.lemmas.Bool.Decides.{nat_tests}
use Rattle.gm_ast.specs.Surface.{Plain}
use Rattle.gm_ast.specs.SurfaceTree.{name_of}
use Rattle.gm_types.proofs.Types.{no-edge-layered}
use Rattle.gm_types.proofs.roles.is_edge_type.Goals as goal

pub returns-else-is_empty : goal.returns-else-is_empty
returns-else-is_empty c =
    let t = c.args.vtype.now in
    let tested = sym c.is_empty.ensures ∙ c.if-is_empty.false in
    let some : 0 < length t.layers.items = grind (arith, nat_tests, tested) in
    c.if-is_empty.false ∙ sym (no-edge-layered (Plain t.place t.word (option_map name_of t.graph)) t.layers.items some)
