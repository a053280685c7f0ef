use Rattle.std.proofs.Common.{◌≡◌, ◌∙◌, ap, sym, map, pos, false, length, List, ◌<◌, ℕ, arith}
use Rattle.std.specs.Prelude.{slice_range}
use Rattle.std.proofs.lemmas.List.{length-replicate}
use Rattle.gm_value.specs.declared.values.Value.TheVariants.{I32, I64, Flag}
use Rattle.gm_columns.specs.Cells.{node_in, values_of}
use Rattle.gm_columns.specs.Columns.{TypedRow}
use Rattle.gm_kernels.proofs.Reading.{between-values, if_found}
use Rattle.gm_kernels.proofs.Copies.{copies_between}
use Rattle.gm_kernels.proofs.gathering.gather_between.Goals as goal

pub returns-in-Uniform-clause-values : goal.returns-in-Uniform-clause-values
returns-in-Uniform-clause-values c =
    let value = c.in-Uniform.value in
    let held = ap values_of c.in-Uniform.is in
    let few : length (values_of c.args.cells.now) ≡ c.in-Uniform.nodes = ap length held ∙ length-replicate c.in-Uniform.nodes value in
    if_found c.constant_if.result
    (λ column here. here ∙ copies_between c.in-Uniform.nodes c.args.from c.args.to value c.requires.ordered (omega (arith, few, c.requires.within))
    ∙ ap (λ vs. slice_range vs c.args.from c.args.to) (sym held))
    c.constant_if.ensures.values

pub returns-in_ok-cells_between-in-Ints-clause-values : goal.returns-in_ok-cells_between-in-Ints-clause-values
returns-in_ok-cells_between-in-Ints-clause-values c =
    ap (λ (r : TypedRow). r.values) c.of.ensures
    ∙ between-values (λ z. I32 z) _ c.in-Ints.cells.items _ _ _ _ (ap values_of c.in-Ints.is) c.deref.ensures.value c.in_ok-cells_between-in-Ints.ensures

pub returns-in_ok-cells_between-in-Longs-clause-values : goal.returns-in_ok-cells_between-in-Longs-clause-values
returns-in_ok-cells_between-in-Longs-clause-values c =
    ap (λ (r : TypedRow). r.values) c.of-in-Longs.ensures
    ∙ between-values (λ z. I64 z) _ c.in-Longs.cells.items _ _ _ _ (ap values_of c.in-Longs.is) c.deref-in-Longs.ensures.value c.in_ok-cells_between-in-Longs.ensures

pub returns-in_ok-cells_between-in-Flags-clause-values : goal.returns-in_ok-cells_between-in-Flags-clause-values
returns-in_ok-cells_between-in-Flags-clause-values c =
    ap (λ (r : TypedRow). r.values) c.of-in-Flags.ensures
    ∙ between-values (λ b. Flag b) _ c.in-Flags.cells.items _ _ _ _ (ap values_of c.in-Flags.is) c.deref-in-Flags.ensures.value c.in_ok-cells_between-in-Flags.ensures

pub returns-in_ok-cells_between-in-Nodes-clause-values : goal.returns-in_ok-cells_between-in-Nodes-clause-values
returns-in_ok-cells_between-in-Nodes-clause-values c =
    ap (λ (r : TypedRow). r.values) c.of-in-Nodes.ensures
    ∙ between-values (node_in) _ c.in-Nodes.cells.items _ _ _ _ (ap values_of c.in-Nodes.is) c.deref-in-Nodes.ensures.value c.in_ok-cells_between-in-Nodes.ensures
