use Rattle.std.proofs.Common.{◌≡◌, ◌∙◌, ap, sym, map, pos, false, length, List, ◌<◌, ℕ, get_or, arith}
use Rattle.std.proofs.lemmas.List.{length-replicate}
use Rattle.gm_value.specs.declared.values.Value.TheVariants.{I32, I64, Flag}
use Rattle.gm_columns.specs.Cells.{node_in, values_of}
use Rattle.gm_columns.specs.Columns.{TypedRow}
use Rattle.gm_kernels.proofs.Reading.{read-values, if_found}
use Rattle.gm_kernels.proofs.Copies.{copies_at}
use Rattle.gm_kernels.proofs.gathering.gather.Goals as goal

pub returns-in-Uniform-clause-values : goal.returns-in-Uniform-clause-values
returns-in-Uniform-clause-values c =
    let value = c.in-Uniform.value in
    let nodes = c.args.nodes.now in
    let held = ap values_of c.in-Uniform.is in
    let few : length (values_of c.args.cells.now) ≡ c.in-Uniform.nodes = ap length held ∙ length-replicate c.in-Uniform.nodes value in
    if_found c.constant_if.result
    (λ column here. λ d. here ∙ copies_at c.in-Uniform.nodes value d nodes (λ k e h. let row = c.requires k e h in omega arith)
    ∙ ap (λ vs. map (λ node. get_or vs node d) nodes) (sym held))
    c.constant_if.ensures.values

pub returns-in_ok-cells_at-in-Ints-clause-values : goal.returns-in_ok-cells_at-in-Ints-clause-values
returns-in_ok-cells_at-in-Ints-clause-values c = λ d.
    ap (λ (r : TypedRow). r.values) c.of.ensures
    ∙ read-values (λ z. I32 z) _ c.in-Ints.cells.items _ _ _ (pos 0) d (ap values_of c.in-Ints.is) c.deref.ensures.value c.requires (c.in_ok-cells_at-in-Ints.ensures (pos 0))

pub returns-in_ok-cells_at-in-Longs-clause-values : goal.returns-in_ok-cells_at-in-Longs-clause-values
returns-in_ok-cells_at-in-Longs-clause-values c = λ d.
    ap (λ (r : TypedRow). r.values) c.of-in-Longs.ensures
    ∙ read-values (λ z. I64 z) _ c.in-Longs.cells.items _ _ _ (pos 0) d (ap values_of c.in-Longs.is) c.deref-in-Longs.ensures.value c.requires (c.in_ok-cells_at-in-Longs.ensures (pos 0))

pub returns-in_ok-cells_at-in-Flags-clause-values : goal.returns-in_ok-cells_at-in-Flags-clause-values
returns-in_ok-cells_at-in-Flags-clause-values c = λ d.
    ap (λ (r : TypedRow). r.values) c.of-in-Flags.ensures
    ∙ read-values (λ b. Flag b) _ c.in-Flags.cells.items _ _ _ false d (ap values_of c.in-Flags.is) c.deref-in-Flags.ensures.value c.requires (c.in_ok-cells_at-in-Flags.ensures false)

pub returns-in_ok-cells_at-in-Nodes-clause-values : goal.returns-in_ok-cells_at-in-Nodes-clause-values
returns-in_ok-cells_at-in-Nodes-clause-values c = λ d.
    ap (λ (r : TypedRow). r.values) c.of-in-Nodes.ensures
    ∙ read-values (node_in) _ c.in-Nodes.cells.items _ _ _ 0 d (ap values_of c.in-Nodes.is) c.deref-in-Nodes.ensures.value c.requires (c.in_ok-cells_at-in-Nodes.ensures 0)
