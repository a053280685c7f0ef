-- The fields of nodes, as the columns that hold them.
use Rattle.std.proofs.Common.{◌≡◌, ◌∙◌, ◌<◌, ◌≤◌, ◌+◌, ◌-◌, ℕ, Bool, true, false, List, [], ◌++◌, length, map, drop, get_or, refl, sym, ap, subst, arith, length-drop}
use Rattle.std.specs.Prelude.{All, slice_range}
use Rattle.std.proofs.lemmas.List.{get_or-drop, get_or-map, get_or-take, length-map, length-take-le}
use Rattle.gm_value.specs.declared.values.Value.{Value}
use Rattle.gm_columns.specs.declared.cells.Cells.{Cells}
use Rattle.gm_columns.specs.Cells.{values_of}
use Rattle.gm_machine.specs.declared.node_steps.Duty.{Duty}
use Rattle.gm_machine.specs.declared.node_steps.Nodes.{Nodes}
use Rattle.gm_node_batches.specs.declared.steps.Sent.{Sent}
use Rattle.gm_machine.specs.Duties.{node_of, place_after}
use Rattle.gm_machine.specs.Fields.{AreFull, HeldFields, by_node}
use Rattle.gm_machine.specs.Taking.{Contribution}
use Rattle.gm_machine.specs.Vertex.{Message}
use Rattle.gm_batch_steps.specs.BatchSteps.{BatchSteps, row_after}
use Rattle.gm_node_batches.specs.Inboxes.{AllEmpty}
use Rattle.gm_node_batches.specs.Taken.{StepsTaken}
use Rattle.gm_node_batches.proofs.BatchLaws.{batch-steps}

-- columns that are long enough
pub long-enough : (cells : List Cells) (n m : ℕ) → AreFull n (map values_of cells) → m ≤ n → All (λ (c : Cells). m ≤ length (values_of c)) cells
long-enough cells n m full le k d lt = omega (arith, le, full k [] (omega (arith, lt, length-map cells values_of)), ap length (get_or-map values_of cells k d [] lt))

-- columns as long as others
pub as-full : (n : ℕ) (columns columns' : List (List Value)) → map length columns' ≡ map length columns → AreFull n columns → AreFull n columns'
as-full n columns columns' same full k d lt =
    let below : k < length columns = omega (arith, lt, ap length same, length-map columns' length, length-map columns length) in
    sym (get_or-map length columns' k d 0 lt) ∙ ap (λ l. get_or l k 0) same ∙ get_or-map length columns k d 0 below ∙ full k d below

-- some nodes of a list
pub length-some : (nodes : List ℕ) (from to : ℕ) → to ≤ length nodes → length (slice_range nodes from to) ≡ to - from
length-some nodes from to within = length-take-le (to - from) (drop from nodes) (omega (arith, within, length-drop from nodes))

pub some-at : (nodes : List ℕ) (from to row : ℕ) (d : ℕ) → row < to - from → get_or (slice_range nodes from to) row d ≡ get_or nodes (from + row) d
some-at nodes from to row d lt = get_or-take (to - from) (drop from nodes) row d lt ∙ get_or-drop from nodes row d

-- the steps of a batch, by the columns before and after
pub columns-steps : (d : Duty) (ns : Nodes) (boxes : List (List Message)) (slice : List ℕ) (from to count : ℕ) (cells cells' : List Cells) (held old new : HeldFields) (made : List Message) (sent sent' : Sent)
    → from < to → to ≤ length old.rows → length slice ≡ to - from
    → ((row : ℕ) → row < to - from → get_or slice row 0 ≡ node_of ns (from + row))
    → AllEmpty boxes
    → held ≡ old → count ≡ length old.rows
    → length cells ≡ held.width → held.rows ≡ by_node (length held.rows) (map values_of cells)
    → new.width ≡ length cells' → new.rows ≡ by_node count (map values_of cells')
    → sent'.messages ≡ sent.messages ++ made → sent'.fault ≡ sent.fault
    → BatchSteps (row_after d slice from (map values_of cells)) from (length slice) (map values_of cells) (map values_of cells') [] made sent.puts sent'.puts
    → StepsTaken (place_after d ns boxes old.rows) from to old new sent sent'
columns-steps d ns boxes slice from to count cells cells' held old new made sent sent' ahead within long nodes none is counted width rows new_width new_rows messages fault steps =
    let columns : List (List Value) = map values_of cells in
    let columns' : List (List Value) = map values_of cells' in
    let wide : length cells' ≡ length cells =
    omega (arith, ap length steps.long, length-map columns' length, length-map columns length, length-map cells' values_of, length-map cells values_of) in
    batch-steps d ns boxes slice from to columns columns' old new made sent sent' ahead within nodes none
    (subst (λ (h : HeldFields). h.rows ≡ by_node (length h.rows) columns) is rows)
    (new_rows ∙ ap (λ n. by_node n columns') counted)
    (new_width ∙ wide ∙ width ∙ ap (λ (h : HeldFields). h.width) is)
    messages fault
    (subst (λ n. BatchSteps (row_after d slice from columns) from n columns columns' [] made sent.puts sent'.puts) long steps)

-- the columns are as long as they were, whether or not the steps could be taken
pub still-full : (done : Bool) (d : Duty) (slice : List ℕ) (from n held count : ℕ) (cells cells' : List Cells) (messages messages' : List Message) (puts puts' : List Contribution)
    → (done ≡ true → BatchSteps (row_after d slice from (map values_of cells)) from n (map values_of cells) (map values_of cells') messages messages' puts puts') → (done ≡ false → cells' ≡ cells)
    → AreFull held (map values_of cells) → count ≡ held → AreFull count (map values_of cells')
still-full true d slice from n held count cells cells' messages messages' puts puts' steps kept full counted =
    subst (λ k. AreFull k (map values_of cells')) (sym counted) (as-full held (map values_of cells) (map values_of cells') (steps refl).long full)
still-full false d slice from n held count cells cells' messages messages' puts puts' steps kept full counted =
    subst (λ k. AreFull k (map values_of cells')) (sym counted) (subst (λ (l : List Cells). AreFull held (map values_of l)) (sym (kept refl)) full)
