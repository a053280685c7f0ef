-- Rows of messages as expressions see them.
use Rattle.std.proofs.Common.{◌≡◌, ◌≢◌, ◌∙◌, ◌<◌, ℕ, List, [], ◌∷◌, Option, Some, None, ap, sym, subst, map, length, get_or, set, arith, length-set, ⊎_elim}
use Rattle.std.specs.Prelude.{Result, Ok, Err, All, IfOk, IfSome}
use Rattle.std.specs.List.{AllByRecursion}
use Rattle.std.proofs.lemmas.Bool.{cases_eq}
use Rattle.std.proofs.lemmas.List.{get_or-set_other, get_or-set_same, length-map}
use Rattle.std.proofs.lemmas.List.Elements.{All-map}
use Rattle.gm_value.specs.declared.values.Value.{Value}
use Rattle.gm_value.specs.declared.values.Value.TheVariants.{At}
use Rattle.gm_value.specs.declared.reductions.Reduce.{Reduce}
use Rattle.gm_columns.specs.declared.cells.Cells.{Cells}
use Rattle.gm_columns.specs.Cells.{values_of}
use Rattle.gm_columns.specs.Columns.{TypedRow, IsStorable}
use Rattle.gm_image.specs.Term.{Term}
use Rattle.gm_kernels.specs.Folding.{folded}
use Rattle.gm_kernels.specs.Pointwise.{written_at}
use Rattle.gm_machine.specs.Expressions.{value_at}
use Rattle.gm_machine.specs.Machine.{nowhere, row_at}
use Rattle.gm_batches.specs.declared.node_batches.NodeBatch.{NodeBatch}
use Rattle.gm_batches.specs.declared.node_batches.Places.TheVariants as places
use Rattle.gm_batches.specs.NodeBatches.{AreWithin, HasPlaces, HasRows, IsBatch, place_at, row_count as batch_count, row_view}
use Rattle.gm_batches.specs.ValuesIn.{values_in, IsColumnAt}
use Rattle.gm_batch_steps.proofs.BatchLaws.{all-of-map, map-map, map-same, still-full}
use Rattle.gm_batch_steps.proofs.LineLaws.{get-map}
use Rattle.gm_batch_handlers.specs.declared.row_states.RowContext.{RowContext}
use Rattle.gm_batch_handlers.specs.declared.row_states.SlotTotal.{SlotTotal}
use Rattle.gm_batch_handlers.specs.Gifts.{Adds, AreLong, held_in}
use Rattle.gm_batch_handlers.specs.Handling.{all_values}
use Rattle.gm_batch_handlers.specs.RowStates.{IsBatchOf, IsContext, IsFull, field_columns, place_of, row_count, view_in}
use Rattle.gm_batch_handlers.proofs.GiftLaws.{folded-long}

-- what a row sees
row-same : (b : NodeBatch) (c : RowContext) (registers : List TypedRow) (row : ℕ) → IsBatchOf b c registers → row_view b row ≡ view_in c registers row
row-same b c registers row is = λ i. record {
  graph = is.graph i;
  globals = is.globals i;
  node = get_or (is.nodes i) row 0;
  fields = fields i;
  registers = held i;
  message = message i;
  near = nowhere;
} where
  fields : map (λ cells. value_at (values_of cells) (place_at b.places row)) b.fields.now ≡ row_at (field_columns c) (place_of c row)
  fields =
      (λ i. map (λ cells. value_at (values_of cells) (place_at (is.places i) row)) (is.fields i))
      ∙ sym (map-map (λ values. value_at values (place_of c row)) values_of c.fields.now)

  held : map (λ (column : TypedRow). value_at column.values row) b.registers.now ≡ row_at (all_values registers) row
  held =
      ap (map (λ (column : TypedRow). value_at column.values row)) is.registers
      ∙ sym (map-map (λ values. value_at values row) (λ (column : TypedRow). column.values) registers)

  message : map (λ (column : TypedRow). value_at column.values row) b.message.now ≡ row_at (all_values c.message.now) row
  message =
      ap (map (λ (column : TypedRow). value_at column.values row)) is.message
      ∙ sym (map-map (λ values. value_at values row) (λ (column : TypedRow). column.values) c.message.now)

-- the batch is one
pub batch-is : (b : NodeBatch) (c : RowContext) (registers : List TypedRow) → IsBatchOf b c registers → IsContext c → IsFull (row_count c) registers → IsBatch b
batch-is b c registers is context full = record {
  count = omega (arith, context.count, rows);
  nodes = subst (λ ns. All (λ node. IsStorable (At (Some node))) ns) (sym is.nodes) context.nodes;
  places = subst (λ p. HasPlaces (batch_count b) p) (sym is.places) (omega (arith, context.places, rows));
  fields = subst (λ p. All (AreWithin p) b.fields.now) (sym is.places) (subst (λ fs. All (AreWithin (places.At c.places)) fs) (sym is.fields) context.fields);
  registers = subst (λ n. All (HasRows n) b.registers.now) (sym rows) (subst (λ rs. All (HasRows (row_count c)) rs) (sym is.registers) full);
  message = subst (λ n. All (HasRows n) b.message.now) (sym rows) (subst (λ ms. All (HasRows (row_count c)) ms) (sym is.message) context.message);
} where
  rows : batch_count b ≡ row_count c
  rows = ap length is.nodes

-- the values of a column that is found
pub column-values : {E : Type 0} (found : Result (Option TypedRow) E) (b : NodeBatch) (c : RowContext) (registers : List TypedRow) (rs rows : List ℕ) (e : Term)
    → IsBatchOf b c registers → rs ≡ rows → IfOk found (IsColumnAt b rs e)
    → IfOk found (λ got. IfSome got (λ column. values_in (map (view_in c registers) rows) e ≡ Some column.values))
column-values (Ok (Some column)) b c registers rs rows e is same h =
    ap (λ views. values_in views e) (ap (map (view_in c registers)) (sym same) ∙ sym (map-same (row_view b) (view_in c registers) (λ row. row-same b c registers row is) rs)) ∙ h.1
column-values (Ok None) b c registers rs rows e is same h = tt
column-values (Err x) b c registers rs rows e is same h = tt

-- registers of which one is written
pub full-after : (n f : ℕ) (old new : List TypedRow) (rows : List ℕ) (ys : List Value) → All (λ column. length column.values ≡ n) old
    → all_values new ≡ set (all_values old) f (written_at (get_or (all_values old) f []) rows ys) → IsFull n new
full-after n f old new rows ys full is =
    all-of-map (λ values. length values ≡ n) (λ (column : TypedRow). column.values) new
    (still-full n f (all_values old) (all_values new) rows ys (All-map (λ values. length values ≡ n) (λ (column : TypedRow). column.values) old full) is)

-- slots of which one is given to
pub long-after : (r : Reduce) (place slot : ℕ) (columns : List (List Value)) (old new : List (Option SlotTotal)) (t : Option SlotTotal) (at : List ℕ) (vs : List Value)
    → AreLong columns old → Adds r place (get_or columns slot []) (get_or old slot None) at vs t → new ≡ set old slot t → slot < length columns → AreLong columns new
long-after r place slot columns old new t at vs long adds is there = subst (λ l. AreLong columns l) (sym is) (record {
  wide = length-set old slot t ∙ long.wide;
  each = λ k below.
      ⊎_elim
      (λ (here : slot ≡ k).
      subst (λ j. length (held_in (get_or columns j []) (get_or (set old slot t) j None)) ≡ length (get_or columns j [])) here
      (ap (λ o. length (held_in (get_or columns slot []) o)) (get_or-set_same old slot t None (omega (arith, there, long.wide)) ∙ adds.is)
      ∙ folded-long r (held_in (get_or columns slot []) (get_or old slot None)) at vs _ adds.folded ∙ long.each slot there))
      (λ (other : slot ≢ k).
      ap (λ o. length (held_in (get_or columns k []) o)) (get_or-set_other old slot k t None (λ e. other (sym e))) ∙ long.each k below)
      (cases_eq slot k);
})

-- the places of rows are places of a field
pub places-within : (c : RowContext) (rows : List ℕ) (slot : ℕ) → IsContext c → slot < length (field_columns c) → AllByRecursion (λ row. row < row_count c) rows
    → AllByRecursion (λ k. k < length (get_or (field_columns c) slot [])) (map (place_of c) rows)
places-within c [] slot context there within = tt
places-within c (row ∷ rows) slot context there within =
    let below : slot < length c.fields.now = omega (arith, there, length-map c.fields.now values_of) in
    let cells : Cells = first-of c.fields.now below in (
      omega (
        arith,
        context.fields slot cells below row 0 (omega (arith, within.0, context.places)),
        ap length (get-map values_of c.fields.now slot cells [] below),
      ),
      places-within c rows slot context there within.1,
    )
  where
    first-of : (cells : List Cells) {k : ℕ} → k < length cells → Cells
    first-of [] lt = absurd (omega (arith, lt))
    first-of (c ∷ cells) lt = c
