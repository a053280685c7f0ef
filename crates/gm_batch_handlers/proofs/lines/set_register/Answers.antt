use Rattle.std.proofs.Common.{◌≡◌, ◌∙◌, ◌<◌, ℕ, List, [], Option, Some, ap, arith, get_or, length, map, refl, set, subst, sym}
use Rattle.std.specs.Prelude.{All, IfSome}
use Rattle.std.proofs.lemmas.List.{length-map, map-set, set_past}
use Rattle.std.proofs.lemmas.List.Elements.{All-map, recursion_from_All}
use Rattle.gm_value.specs.declared.values.Value.{Value}
use Rattle.gm_columns.specs.Columns.{TypedRow}
use Rattle.gm_image.specs.Views.{term}
use Rattle.gm_kernels.specs.Pointwise.{written_at}
use Rattle.gm_batches.specs.ValuesIn.{values_in}
use Rattle.gm_batch_steps.proofs.BatchLaws.{values-found, values-long}
use Rattle.gm_batch_steps.proofs.LineLaws.{get-map}
use Rattle.gm_batch_handlers.specs.Handling.{all_values}
use Rattle.gm_batch_handlers.specs.RowStates.{view_in}
use Rattle.gm_batch_handlers.proofs.BatchLaws.{full-after}
use Rattle.gm_batch_handlers.proofs.LineLaws.{register-runs}
use Rattle.gm_batch_handlers.proofs.lines.set_register.Goals as goal

abbrev values-of : TypedRow → List Value
values-of column = column.values

-- a register's column after its rows are written
changed : (registers : List TypedRow) (r : ℕ) (old new : TypedRow) (rows : List ℕ) (ys : List Value) (o : Option TypedRow) → r < length registers
    → old ≡ get_or registers r old → o ≡ Some new → IfSome o (λ new. new.values ≡ written_at old.values rows ys)
    → all_values (set registers r new) ≡ set (all_values registers) r (written_at (get_or (all_values registers) r []) rows ys)
changed registers r old new rows ys o lt at is h =
    map-set values-of registers r new
    ∙ ap (set (map values-of registers) r) (
    subst (λ (o : Option TypedRow). IfSome o (λ new. new.values ≡ written_at old.values rows ys)) is h
    ∙ ap (λ xs. written_at xs rows ys) (ap values-of at ∙ sym (get-map values-of registers r old [] lt)))

pub returns-then-register-len-clause-runs : goal.returns-then-register-len-clause-runs
returns-then-register-len-clause-runs c done =
    let registers = c.args.state.now.registers.items in
    let view = view_in c.args.context.now registers in
    let rows = c.args.chosen.rows.now in
    register-runs c.args.places (length c.args.context.now.nodes.now) c.args.register (term c.args.a.now) c.args.context.now rows c.in-Some.column.values c.args.state.now c.args.state.now
    (subst (λ (regs : List TypedRow). values_in (map (view_in c.args.context.now regs) rows) (term c.args.a.now) ≡ Some c.in-Some.column.values) c.deref.ensures.value
    (values-found (map (view_in c.args.context.now c.deref.result.now) rows) (term c.args.a.now) c.in_ok-column.field-0 c.in-Some.column c.in-Some.is c.in_ok-column.ensures))
    (All-map (λ values. length values ≡ length c.args.context.now.nodes.now) values-of registers c.requires.ready.registers)
    (recursion_from_All _ rows c.requires.chosen.rows_within) c.requires.chosen.distinct
    (sym (set_past (all_values registers) c.args.register _
    (omega (arith, c.if-register-len.true, c.len.ensures, c.args.state.now.registers.ok, length-map registers values-of)))) refl

pub written-requires-clause-within : goal.written-requires-clause-within
written-requires-clause-within c k d lt =
    let registers = c.args.state.now.registers.items in
    omega (
      arith,
      c.requires.chosen.rows_within k d lt,
      ap (λ (r : TypedRow). length r.values) c.index.ensures,
      c.requires.ready.registers c.args.register c.index.result.now (omega (arith, c.if-register-len.false, c.len.ensures, c.args.state.now.registers.ok)),
    )

pub written-requires-clause-rows : goal.written-requires-clause-rows
written-requires-clause-rows c =
    let rows = c.args.chosen.rows.now in
    values-long (view_in c.args.context.now c.deref.result.now) (term c.args.a.now) rows c.in-Some.column.values
    (values-found (map (view_in c.args.context.now c.deref.result.now) rows) (term c.args.a.now) c.in_ok-column.field-0 c.in-Some.column c.in-Some.is c.in_ok-column.ensures)

pub returns-clause-ready : goal.returns-clause-ready
returns-clause-ready c done =
    let registers = c.args.state.now.registers.items in
    record {
      registers = full-after (length c.args.context.now.nodes.now) c.args.register registers _ c.args.chosen.rows.now c.in-Some.column.values c.requires.ready.registers
          (changed registers c.args.register c.index.result.now c.in-Some-2.new c.args.chosen.rows.now c.in-Some.column.values c.in_ok-new.field-0
          (omega (arith, c.if-register-len.false, c.len.ensures, c.args.state.now.registers.ok)) c.index.ensures c.in-Some-2.is c.in_ok-new.ensures);
      totals = c.requires.ready.totals;
    }

pub returns-clause-runs : goal.returns-clause-runs
returns-clause-runs c done =
    let registers = c.args.state.now.registers.items in
    let rows = c.args.chosen.rows.now in
    register-runs c.args.places (length c.args.context.now.nodes.now) c.args.register (term c.args.a.now) c.args.context.now rows c.in-Some.column.values c.args.state.now _
    (subst (λ (regs : List TypedRow). values_in (map (view_in c.args.context.now regs) rows) (term c.args.a.now) ≡ Some c.in-Some.column.values) c.deref.ensures.value
    (values-found (map (view_in c.args.context.now c.deref.result.now) rows) (term c.args.a.now) c.in_ok-column.field-0 c.in-Some.column c.in-Some.is c.in_ok-column.ensures))
    (All-map (λ values. length values ≡ length c.args.context.now.nodes.now) values-of registers c.requires.ready.registers)
    (recursion_from_All _ rows c.requires.chosen.rows_within) c.requires.chosen.distinct
    (changed registers c.args.register c.index.result.now c.in-Some-2.new rows c.in-Some.column.values c.in_ok-new.field-0
    (omega (arith, c.if-register-len.false, c.len.ensures, c.args.state.now.registers.ok)) c.index.ensures c.in-Some-2.is c.in_ok-new.ensures) refl
