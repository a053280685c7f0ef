use Rattle.std.proofs.Common.{◌≡◌, ◌∙◌, ap, arith, length, sym}
use Rattle.std.specs.Prelude.{slice_range}
use Rattle.std.proofs.lemmas.List.{length-replicate}
use Rattle.gm_value.specs.declared.values.Value.TheVariants.{I32, I64, Flag}
use Rattle.gm_columns.specs.Cells.{node_in, values_of}
use Rattle.gm_kernels.proofs.Reading.{between-values}
use Rattle.gm_kernels.proofs.Copies.{copies_between}
use Rattle.gm_batch_steps.proofs.parts.part_of.Goals as goal

pub returns-in-Uniform : goal.returns-in-Uniform
returns-in-Uniform c =
    let value = c.in-Uniform.value in
    let held = ap values_of c.in-Uniform.is in
    let few : length (values_of c.args.cells.now) ≡ c.in-Uniform.nodes = ap length held ∙ length-replicate c.in-Uniform.nodes value in
    copies_between c.in-Uniform.nodes c.args.from c.args.to value c.requires.ordered (omega (arith, few, c.requires.within))
    ∙ ap (λ vs. slice_range vs c.args.from c.args.to) (sym held)

pub returns-in_ok-from_slice-in-Ints : goal.returns-in_ok-from_slice-in-Ints
returns-in_ok-from_slice-in-Ints c =
    between-values (λ z. I32 z) _ c.in-Ints.cells.items _ _ _ _ (ap values_of c.in-Ints.is) c.deref.ensures.value c.in_ok-from_slice-in-Ints.ensures.items

pub returns-in_ok-from_slice-in-Longs : goal.returns-in_ok-from_slice-in-Longs
returns-in_ok-from_slice-in-Longs c =
    between-values (λ z. I64 z) _ c.in-Longs.cells.items _ _ _ _ (ap values_of c.in-Longs.is) c.deref-in-Longs.ensures.value c.in_ok-from_slice-in-Longs.ensures.items

pub returns-in_ok-from_slice-in-Flags : goal.returns-in_ok-from_slice-in-Flags
returns-in_ok-from_slice-in-Flags c =
    between-values (λ b. Flag b) _ c.in-Flags.cells.items _ _ _ _ (ap values_of c.in-Flags.is) c.deref-in-Flags.ensures.value c.in_ok-from_slice-in-Flags.ensures.items

pub returns-in_ok-from_slice-in-Nodes : goal.returns-in_ok-from_slice-in-Nodes
returns-in_ok-from_slice-in-Nodes c =
    between-values node_in _ c.in-Nodes.cells.items _ _ _ _ (ap values_of c.in-Nodes.is) c.deref-in-Nodes.ensures.value c.in_ok-from_slice-in-Nodes.ensures.items
