-- Nodes whose handlers leave nothing but new fields go on as nodes without messages.
use Rattle.std.proofs.Common.{◌≡◌, ◌∙◌, ◌<◌, ◌+◌, ℕ, zero, suc, Bool, true, false, List, [], length, map, replicate, get_or, refl, sym, ap, subst, arith}
use Rattle.std.specs.Prelude.{All}
use Rattle.std.proofs.lemmas.List.{get_or-map, length-map}
use Rattle.std.proofs.lemmas.List.FromFn.{get_or-map-range_with_len}
use Rattle.gm_value.specs.declared.values.Value.{Value}
use Rattle.gm_columns.specs.declared.cells.Cells.{Cells}
use Rattle.gm_columns.specs.Cells.{values_of}
use Rattle.gm_columns.specs.Columns.{TypedRow}
use Rattle.gm_image.specs.Program.{Program, Block}
use Rattle.gm_image.specs.Views.{program}
use Rattle.gm_machine.specs.declared.node_steps.Duty.{Duty}
use Rattle.gm_machine.specs.Fields.{AreFull, by_node}
use Rattle.gm_machine.specs.Machine.{block_at, context_at, inbox, row_at}
use Rattle.gm_machine.specs.Vertex.{Message, VertexContext, vertex_after}
use Rattle.gm_machine.proofs.FieldRows.{get_or-by_node}
use Rattle.gm_message_columns.specs.MessageTables.{MessageTable, message_rows}
use Rattle.gm_batch_handlers.specs.Handling.{Handles, all_values, messages_in}
use Rattle.gm_batch_handlers.proofs.StepLaws.{step-left}
use Rattle.gm_node_batches.specs.Inboxes.{AllEmpty}
use Rattle.gm_node_batches.proofs.ColumnFields.{as-full}
use Rattle.gm_node_batches.specs.Openings.{AreSameSteps, boxes_of}

-- nodes whose handlers left columns for columns have the steps of nodes for which no messages wait
pub handled-steps : (d : Duty) (nodes : List ℕ) (messages : List Message) (boxes : List (List Message)) (fields fields' columns columns' : List (List Value)) (count : ℕ)
    → Handles d nodes messages columns columns' → AllEmpty boxes → length fields ≡ length nodes → count ≡ length fields
    → fields ≡ by_node (length fields) columns → fields' ≡ by_node count columns'
    → AreSameSteps d nodes boxes fields' (boxes_of messages (length nodes)) fields
handled-steps d nodes messages boxes fields fields' columns columns' count handles none long counted is is' place lt =
    let node : ℕ = get_or nodes place 0 in
    let p : Program = program d.image.now in
    let b : Block = block_at p d.block in
    let s : VertexContext = context_at d.graph.now d.globals.now node in
    let below : place < length fields = omega (arith, lt, long) in
    let below' : place < count = omega (arith, below, counted) in
    let here : 0 + place ≡ place = omega arith in
    ap (λ ms. vertex_after p b s ms (get_or fields' place [])) (none place)
    ∙ ap (vertex_after p b s []) (ap (λ rows. get_or rows place []) is' ∙ get_or-by_node count columns' place [] below')
    ∙ sym (step-left d nodes messages columns columns' place handles lt)
    ∙ ap (vertex_after p b s (inbox messages place)) (sym (get_or-by_node (length fields) columns place [] below) ∙ ap (λ rows. get_or rows place []) (sym is))
    ∙ ap (λ ms. vertex_after p b s ms (get_or fields place [])) (sym (get_or-map-range_with_len (inbox messages) 0 (length nodes) place place [] lt here))

-- columns that are as long as another number, and columns that are as long as others
pub all-long : (cells : List Cells) (n m : ℕ) → AreFull n (map values_of cells) → n ≡ m → All (λ (c : Cells). length (values_of c) ≡ m) cells
all-long cells n m full is k d lt = ap length (sym (get_or-map values_of cells k d [] lt)) ∙ full k [] (omega (arith, lt, length-map cells values_of)) ∙ is

pub handled-full : (done : Bool) (d : Duty) (nodes : List ℕ) (messages : List Message) (cells cells' : List Cells) (held count : ℕ)
    → (done ≡ true → Handles d nodes messages (map values_of cells) (map values_of cells')) → (done ≡ false → cells' ≡ cells)
    → AreFull held (map values_of cells) → count ≡ held → AreFull count (map values_of cells')
handled-full true d nodes messages cells cells' held count handles kept full counted =
    subst (λ k. AreFull k (map values_of cells')) (sym counted) (as-full held (map values_of cells) (map values_of cells') (handles refl).long full)
handled-full false d nodes messages cells cells' held count handles kept full counted =
    subst (λ k. AreFull k (map values_of cells')) (sym counted) (subst (λ (l : List Cells). AreFull held (map values_of l)) (sym (kept refl)) full)

-- messages in columns, part by part
pub rows-are : (t : MessageTable) (kind : ℕ) (to : List ℕ) (columns : List TypedRow) → kind ≡ t.kind → to ≡ t.to → columns ≡ t.columns → messages_in kind to (all_values columns) ≡ message_rows t
rows-are t kind to columns kind_is to_is columns_is = λ i. messages_in (kind_is i) (to_is i) (all_values (columns_is i))

-- where nothing waits for so many places
pub nothing-waits : (boxes : List (List Message)) (places : ℕ) → boxes ≡ replicate places [] → AllEmpty boxes
nothing-waits boxes places are place = ap (λ bs. get_or bs place []) are ∙ each places place where
  each : (n k : ℕ) → get_or (replicate n (let none : List Message = [] in none)) k [] ≡ []
  each zero k = refl
  each (suc n) zero = refl
  each (suc n) (suc k) = each n k
