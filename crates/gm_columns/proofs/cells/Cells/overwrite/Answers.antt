-- A cell of the value's type is written.
use Rattle.std.proofs.Common.{◌≡◌, rules, refl, sym, ◌∙◌, w32, w64, to_z, of_z}
use Rattle.std.specs.Prelude.{true, false}
use Rattle.std.proofs.lemmas.List.{map-set}
use Rattle.gm_value.specs.declared.values.Value.TheVariants.{I32, I64, Flag}
use Rattle.gm_columns.proofs.cells.Cells.overwrite.Goals as goal
use Rattle.gm_columns.proofs.cells.Cells.overwrite.Goals.{in-Ints-I32, in-Longs-I64, in-Flags-Flag, in-Mixed-default, in_default, in_default-2, in_default-3, in_default-4}

true_false : true ≡ false → ⊥
true_false e = cc

pub returns-clause-written : goal.returns-clause-written
returns-clause-written c = λ took. elim c.match-self.branch [
  | in-Ints-I32 w ↦
      let same : to_z w32 (of_z w32 w.in-Ints-I32.cell) ≡ w.in-Ints-I32.cell = search rules in
      rw (w.self-is, w.in-Ints-I32.is-0, w.in-Ints-I32.is-1, same) (map-set (λ z. I32 z) w.in-Ints-I32.cells.items c.args.node w.in-Ints-I32.cell)
  | in-Longs-I64 w ↦
      let same : to_z w64 (of_z w64 w.in-Longs-I64.cell) ≡ w.in-Longs-I64.cell = search rules in
      rw (w.self-is, w.in-Longs-I64.is-0, w.in-Longs-I64.is-1, same) (map-set (λ z. I64 z) w.in-Longs-I64.cells.items c.args.node w.in-Longs-I64.cell)
  | in-Flags-Flag w ↦ rw (w.self-is, w.in-Flags-Flag.is-0, w.in-Flags-Flag.is-1) (map-set (λ b. Flag b) w.in-Flags-Flag.cells.items c.args.node w.in-Flags-Flag.cell)
  | in-Mixed-default w ↦ rw (w.self-is, w.in-Mixed-default.is-0) refl
  | in_default w ↦ absurd (true_false (sym took ∙ w.result-is))
  | in_default-2 w ↦ absurd (true_false (sym took ∙ w.result-is))
  | in_default-3 w ↦ absurd (true_false (sym took ∙ w.result-is))
  | in_default-4 w ↦ absurd (true_false (sym took ∙ w.result-is))
]
