use Rattle.std.proofs.Common.{◌≡◌, rules, sym, ap, ◌∙◌, map, replicate, w32, w64, to_z, of_z}
use Rattle.gm_columns.specs.Cells.{node_in}
use Rattle.gm_columns.specs.Columns.{TypedRow}
use Rattle.gm_value.specs.declared.values.Value.TheVariants.{I32, I64, Flag}
use Rattle.gm_kernels.proofs.Copies.{map-replicate}
use Rattle.gm_kernels.proofs.constants.constant.Goals as goal

pub returns-in_ok-ints-in-I32-clause-values : goal.returns-in_ok-ints-in-I32-clause-values
returns-in_ok-ints-in-I32-clause-values c =
    let same : to_z w32 (of_z w32 c.in-I32.cell) ≡ c.in-I32.cell = search rules in
    ap (λ (r : TypedRow). r.values) c.of.ensures
    ∙ ap (map (λ z. I32 z)) (c.in_ok-ints-in-I32.ensures ∙ ap (replicate c.args.rows) same)
    ∙ map-replicate (λ z. I32 z) c.args.rows c.in-I32.cell
    ∙ ap (replicate c.args.rows) (sym c.in-I32.is)

pub returns-in_ok-longs-in-I64-clause-values : goal.returns-in_ok-longs-in-I64-clause-values
returns-in_ok-longs-in-I64-clause-values c =
    let same : to_z w64 (of_z w64 c.in-I64.cell) ≡ c.in-I64.cell = search rules in
    ap (λ (r : TypedRow). r.values) c.of-in-I64.ensures
    ∙ ap (map (λ z. I64 z)) (c.in_ok-longs-in-I64.ensures ∙ ap (replicate c.args.rows) same)
    ∙ map-replicate (λ z. I64 z) c.args.rows c.in-I64.cell
    ∙ ap (replicate c.args.rows) (sym c.in-I64.is)

pub returns-in_ok-flags-in-Flag-clause-values : goal.returns-in_ok-flags-in-Flag-clause-values
returns-in_ok-flags-in-Flag-clause-values c =
    ap (λ (r : TypedRow). r.values) c.of-in-Flag.ensures
    ∙ ap (map (λ b. Flag b)) c.in_ok-flags-in-Flag.ensures
    ∙ map-replicate (λ b. Flag b) c.args.rows c.in-Flag.cell
    ∙ ap (replicate c.args.rows) (sym c.in-Flag.is)

pub returns-in_ok-nodes-in-At-clause-values : goal.returns-in_ok-nodes-in-At-clause-values
returns-in_ok-nodes-in-At-clause-values c =
    ap (λ (r : TypedRow). r.values) c.of-in-At.ensures
    ∙ ap (map node_in) c.in_ok-nodes-in-At.ensures
    ∙ map-replicate node_in c.args.rows c.cell_of.result
    ∙ ap (replicate c.args.rows) (c.cell_of.ensures ∙ sym c.in-At.is)
