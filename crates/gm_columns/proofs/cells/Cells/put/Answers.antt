use Rattle.std.proofs.Common.{◌≡◌, rules, refl, subst, ap, sym, ◌∙◌, map, set, w32, w64, to_z, of_z}
use Rattle.std.proofs.lemmas.List.{map-set}
use Rattle.gm_value.specs.declared.values.Value.TheVariants.{I32, I64, Flag}
use Rattle.gm_columns.specs.Cells.{node_in}
use Rattle.gm_columns.specs.Cells.{Takes}
use Rattle.gm_columns.specs.declared.cells.Cells.{Cells}
use Rattle.gm_columns.proofs.Copies.{set-replicate}
use Rattle.gm_columns.proofs.cells.Cells.put.Goals as goal
use Rattle.gm_columns.proofs.cells.Cells.put.Goals.{in-Uniform-default, in-Ints-I32, in-Longs-I64, in-Flags-Flag, in-Nodes-At, in-Mixed-default}

pub returns : goal.returns
returns c = elim c.match-self.branch [
  | in-Uniform-default w ↦
      let P : Cells → Type 0 = λ cells. Takes cells c.args.value in
      let taken : w.in-Uniform-default.value-0 ≡ c.args.value = subst P w.in-Uniform-default.is-0 c.requires.taken in
      rw (w.self-is, w.in-Uniform-default.is-0, ← taken) (sym (set-replicate w.in-Uniform-default.nodes-0 w.in-Uniform-default.value-0 c.args.node))
  | in-Ints-I32 w ↦
      let same : to_z w32 (of_z w32 w.in-Ints-I32.cell) ≡ w.in-Ints-I32.cell = search rules in
      rw (w.self-is, w.in-Ints-I32.is-0, w.in-Ints-I32.is-1, same) (map-set (λ z. I32 z) w.in-Ints-I32.cells.items c.args.node w.in-Ints-I32.cell)
  | in-Longs-I64 w ↦
      let same : to_z w64 (of_z w64 w.in-Longs-I64.cell) ≡ w.in-Longs-I64.cell = search rules in
      rw (w.self-is, w.in-Longs-I64.is-0, w.in-Longs-I64.is-1, same) (map-set (λ z. I64 z) w.in-Longs-I64.cells.items c.args.node w.in-Longs-I64.cell)
  | in-Flags-Flag w ↦ rw (w.self-is, w.in-Flags-Flag.is-0, w.in-Flags-Flag.is-1) (map-set (λ b. Flag b) w.in-Flags-Flag.cells.items c.args.node w.in-Flags-Flag.cell)
  | in-Nodes-At w ↦ rw (w.self-is, w.in-Nodes-At.is-0, w.in-Nodes-At.is-1) (map-set node_in w.in-Nodes-At.cells.items c.args.node w.cell_of.result ∙ ap (set (map node_in w.in-Nodes-At.cells.items) c.args.node) w.cell_of.ensures)
  | in-Mixed-default w ↦ rw (w.self-is, w.in-Mixed-default.is-0) refl
]
