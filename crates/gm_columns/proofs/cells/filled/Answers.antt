use Rattle.std.proofs.Common.{◌≡◌, rules, sym, ap, ◌∙◌, map, replicate, w32, w64, to_z, of_z}
use Rattle.gm_columns.specs.Cells.{node_in}
use Rattle.gm_value.specs.declared.values.Value.TheVariants.{I32, I64, Flag}
use Rattle.gm_columns.proofs.Copies.{map-replicate}
use Rattle.gm_columns.proofs.cells.filled.Goals as goal

pub returns-in_ok-ints-in-I32 : goal.returns-in_ok-ints-in-I32
returns-in_ok-ints-in-I32 c =
    let same : to_z w32 (of_z w32 c.in-I32.cell) ≡ c.in-I32.cell = search rules in
    ap (map (λ z. I32 z)) (c.in_ok-ints-in-I32.ensures ∙ ap (replicate c.args.nodes) same)
    ∙ map-replicate (λ z. I32 z) c.args.nodes c.in-I32.cell
    ∙ ap (replicate c.args.nodes) (sym c.in-I32.is)

pub returns-in_ok-longs-in-I64 : goal.returns-in_ok-longs-in-I64
returns-in_ok-longs-in-I64 c =
    let same : to_z w64 (of_z w64 c.in-I64.cell) ≡ c.in-I64.cell = search rules in
    ap (map (λ z. I64 z)) (c.in_ok-longs-in-I64.ensures ∙ ap (replicate c.args.nodes) same)
    ∙ map-replicate (λ z. I64 z) c.args.nodes c.in-I64.cell
    ∙ ap (replicate c.args.nodes) (sym c.in-I64.is)

pub returns-in_ok-flags-in-Flag : goal.returns-in_ok-flags-in-Flag
returns-in_ok-flags-in-Flag c =
    ap (map (λ b. Flag b)) c.in_ok-flags-in-Flag.ensures
    ∙ map-replicate (λ b. Flag b) c.args.nodes c.in-Flag.cell
    ∙ ap (replicate c.args.nodes) (sym c.in-Flag.is)

pub returns-in_ok-vec-in-At : goal.returns-in_ok-vec-in-At
returns-in_ok-vec-in-At c =
    ap (map node_in) (c.in_ok-vec-in-At.ensures.items_if_clones_equal (λ y e. e))
    ∙ map-replicate node_in c.args.nodes c.cell_of.result
    ∙ ap (replicate c.args.nodes) (c.cell_of.ensures ∙ sym c.in-At.is)
