-- The steps of the nodes of a batch, from the lines that its rows run.
use Rattle.std.proofs.Common.{◌≡◌, ◌∙◌, ◌<◌, ◌≤◌, ◌+◌, ◌-◌, ◌⊎◌, inl, inr, ℕ, List, [], ◌∷◌, ◌++◌, None, refl, ap, sym, subst, map, length, drop, get_or, replicate, arith, length-drop}
use Rattle.std.specs.Prelude.{All, slice_range}
use Rattle.std.specs.List.{AllByRecursion, flat_map, range_with_len}
use Rattle.std.proofs.lemmas.List.{get_or-drop, get_or-replicate, get_or-take, length-map, length-replicate, length-take}
use Rattle.std.proofs.lemmas.List.Elements.{All-map, recursion_from_All}
use Rattle.gm_value.specs.declared.values.VType.{VType}
use Rattle.gm_value.specs.declared.values.Value.{Value}
use Rattle.gm_value.specs.declared.values.Value.TheVariants.{At}
use Rattle.gm_value.specs.Numbers.{zero_of}
use Rattle.gm_columns.specs.declared.cells.Cells.{Cells}
use Rattle.gm_columns.specs.Cells.{values_of}
use Rattle.gm_image.specs.Program.{Program, Block, Line}
use Rattle.gm_image.specs.Views.{program}
use Rattle.gm_machine.specs.declared.node_steps.Duty.{Duty}
use Rattle.gm_machine.specs.Expressions.{value_at}
use Rattle.gm_machine.specs.Faults.{lesser}
use Rattle.gm_machine.specs.Machine.{block_at, context_at, row_at}
use Rattle.gm_machine.specs.Taking.{Contribution, Settled}
use Rattle.gm_machine.specs.Vertex.{Message, VertexContext, After, begun, body_after, ended, gathered, goes_on, leaves, vertex_after}
use Rattle.gm_put_totals.specs.Settling.{SettleAs}
use Rattle.gm_machine.proofs.SlotSteps.{settled-nothing}
use Rattle.gm_batch_steps.specs.declared.batch_states.BatchContext.{BatchContext}
use Rattle.gm_batch_steps.specs.declared.batch_states.BatchState.{BatchState}
use Rattle.gm_batch_steps.specs.BatchStates.{IsFull, field_columns, register_columns, row_state, sent_in}
use Rattle.gm_batch_steps.specs.BatchSteps.{BatchSteps, row_after}
use Rattle.gm_batch_steps.specs.LineRuns.{LinesRun}
use Rattle.gm_batch_steps.specs.Parts.{with_parts}
use Rattle.gm_batch_steps.proofs.BatchLaws.{all-to-map, map-map, map-same}
use Rattle.gm_batch_steps.proofs.LineLaws.{state-with}
use Rattle.gm_batch_steps.proofs.PartLaws.{length-part, part-before, part-behind, part-inside}
use Rattle.gm_batch_steps.proofs.RowLemmas.{each-both, range-at, range-below}

-- a vertex without messages runs its body
pub no-messages : (p : Program) (b : Block) (s : VertexContext) (fields : List Value) → vertex_after p b s [] fields ≡ body_after (length p.places) s b.body 0 (begun p.registers fields)
no-messages p b s fields =
    ap (λ (x : Settled). goes_on (ended (record (gathered (begun p.registers fields) []).state { folds = []; fields = x.values }) (lesser None x.fault) 0) (λ k w. body_after (length p.places) s b.body 0 w))
    (settled-nothing (length p.places) fields)

-- parts that stand in columns, as a row sees them
pub parts-inside : (from n row : ℕ) (columns parts : List (List Value)) → length parts ≡ length columns → AllByRecursion (λ values. from + n ≤ length values) columns
    → AllByRecursion (λ values. length values ≡ n) parts → row < n → row_at (with_parts from columns parts) (from + row) ≡ row_at parts row
parts-inside from n row [] [] wide within long lt = refl
parts-inside from n row [] (ys ∷ parts) wide within long lt = absurd (omega (arith, wide))
parts-inside from n row (xs ∷ columns) [] wide within long lt = absurd (omega (arith, wide))
parts-inside from n row (xs ∷ columns) (ys ∷ parts) wide within long lt =
    λ i. part-inside xs ys from row (At None) (omega (arith, within.0, long.0)) (omega (arith, lt, long.0)) i
    ∷ parts-inside from n row columns parts (omega (arith, wide)) within.1 long.1 lt i

pub parts-outside : (from n place : ℕ) (columns parts : List (List Value)) → length parts ≡ length columns → AllByRecursion (λ values. from + n ≤ length values) columns
    → AllByRecursion (λ values. length values ≡ n) parts → (place < from) ⊎ (from + n ≤ place) → row_at (with_parts from columns parts) place ≡ row_at columns place
parts-outside from n place [] [] wide within long out = refl
parts-outside from n place [] (ys ∷ parts) wide within long out = absurd (omega (arith, wide))
parts-outside from n place (xs ∷ columns) [] wide within long out = absurd (omega (arith, wide))
parts-outside from n place (xs ∷ columns) (ys ∷ parts) wide within long (inl lt) =
    λ i. part-before xs ys from place (At None) (omega (arith, within.0, long.0)) lt i
    ∷ parts-outside from n place columns parts (omega (arith, wide)) within.1 long.1 (inl lt) i
parts-outside from n place (xs ∷ columns) (ys ∷ parts) wide within long (inr ge) =
    λ i. part-behind xs ys from place (At None) (omega (arith, within.0, long.0)) (omega (arith, ge, long.0)) i
    ∷ parts-outside from n place columns parts (omega (arith, wide)) within.1 long.1 (inr ge) i

pub parts-long : (from n : ℕ) (columns parts : List (List Value)) → length parts ≡ length columns → AllByRecursion (λ values. from + n ≤ length values) columns
    → AllByRecursion (λ values. length values ≡ n) parts → map length (with_parts from columns parts) ≡ map length columns
parts-long from n [] parts wide within long = refl
parts-long from n (xs ∷ columns) [] wide within long = absurd (omega (arith, wide))
parts-long from n (xs ∷ columns) (ys ∷ parts) wide within long =
    λ i. length-part xs ys from (omega (arith, within.0, long.0)) i ∷ parts-long from n columns parts (omega (arith, wide)) within.1 long.1 i

-- the start of a row
pub row-begins : (from to n row : ℕ) (types : List VType) (columns : List (List Value)) (s : BatchState) → from + n ≡ to → row < n
    → field_columns s ≡ map (λ values. slice_range values from to) columns → register_columns s ≡ map (λ t. replicate n (zero_of t)) types
    → row_state s [] [] row ≡ begun types (row_at columns (from + row))
row-begins from to n row types columns s end lt fields registers =
    λ i. state-with (fields-are i) (registers-are i) [] []
  where
    fields-are : row_at (field_columns s) row ≡ row_at columns (from + row)
    fields-are =
        ap (λ l. row_at l row) fields
        ∙ map-map (λ values. value_at values row) (λ values. slice_range values from to) columns
        ∙ map-same (λ values. value_at (slice_range values from to) row) (λ values. value_at values (from + row))
        (λ values. get_or-take (to - from) (drop from values) row (At None) (omega (arith, end, lt)) ∙ get_or-drop from values row (At None)) columns

    registers-are : row_at (register_columns s) row ≡ map zero_of types
    registers-are =
        ap (λ l. row_at l row) registers
        ∙ map-map (λ values. value_at values row) (λ t. replicate n (zero_of t)) types
        ∙ map-same (λ t. value_at (replicate n (zero_of t)) row) zero_of (λ t. get_or-replicate n row (zero_of t) (At None) lt) types

flat-same : {A B : Type 0} (f g : A → List B) (xs : List A) → AllByRecursion (λ x. f x ≡ g x) xs → flat_map f xs ≡ flat_map g xs
flat-same f g [] h = refl
flat-same f g (x ∷ xs) h = λ i. h.0 i ++ flat-same f g xs h.1 i

-- the steps of the rows
pub steps-are : (d : Duty) (c : BatchContext) (nodes : List ℕ) (from to : ℕ) (columns new : List (List Value)) (start end : BatchState) (body : List Line) (messages messages' : List Message) (puts puts' : List Contribution)
    → c.graph.now ≡ d.graph.now → c.globals.now ≡ d.globals.now → c.nodes.now ≡ nodes → from + length nodes ≡ to
    → body ≡ (block_at (program d.image.now) d.block).body
    → field_columns start ≡ map (λ values. slice_range values from to) columns
    → register_columns start ≡ map (λ t. replicate (length nodes) (zero_of t)) (program d.image.now).registers
    → sent_in start ≡ [] → start.puts ≡ []
    → LinesRun (length (program d.image.now).places) body c (range_with_len 0 (length nodes)) start end
    → IsFull (length nodes) end
    → All (λ values. to ≤ length values) columns
    → new ≡ with_parts from columns (field_columns end) → messages' ≡ messages ++ sent_in end → puts' ≡ puts ++ end.puts
    → BatchSteps (row_after d nodes from columns) from (length nodes) columns new messages messages' puts puts'
steps-are d c nodes from to columns new start end body messages messages' puts puts' graph globals rows ends is fields registers silent none run full within stored sent put = record {
  long = ap (map length) stored ∙ parts-long from n columns (field_columns end) wide inside long;
  inside = λ row lt. ap (λ l. row_at l (from + row)) stored ∙ parts-inside from n row columns (field_columns end) wide inside long lt ∙ sym (ap (λ a. a.state.fields) (at row lt));
  outside = λ place out. ap (λ l. row_at l place) stored ∙ parts-outside from n place columns (field_columns end) wide inside long out;
  faultless = λ row lt. ap (λ a. a.fault) (at row lt);
  sent = sent ∙ ap (λ l. messages ++ l) (run.messages ∙ ap (λ l. l ++ flat_map run.sent (range_with_len 0 n)) silent
      ∙ flat-same run.sent (λ row. (after row).state.messages) (range_with_len 0 n) (sent-of (range_with_len 0 n) all));
  more = run.more;
  put = put ∙ ap (λ l. puts ++ l) (run.puts ∙ ap (λ l. l ++ run.more) none);
  settle = subst (λ l. SettleAs l run.more) (flat-same run.given (λ row. (after row).state.puts) (range_with_len 0 n) (puts-of (range_with_len 0 n) all)) run.settle;
} where
  n : ℕ
  n = length nodes

  after : ℕ → After
  after row = row_after d nodes from columns row

  all : AllByRecursion (λ row. row_after d nodes from columns row ≡ leaves (row_state end (run.sent row) (run.given row) row)) (range_with_len 0 (length nodes))
  all = each-both
      (λ row runs lt.
      no-messages (program d.image.now) (block_at (program d.image.now) d.block) (context_at d.graph.now d.globals.now (get_or nodes row 0)) (row_at columns (from + row))
      ∙ (λ i. body_after (length (program d.image.now).places) (context_at (sym graph i) (sym globals i) (get_or (sym rows i) row 0)) (sym is i) 0
      (sym (row-begins from to (length nodes) row (program d.image.now).registers columns start ends lt fields registers) i))
      ∙ runs [] [])
      (range_with_len 0 (length nodes)) run.runs (range-below 0 (length nodes) (length nodes) (omega arith))

  at : (row : ℕ) → row < length nodes → row_after d nodes from columns row ≡ leaves (row_state end (run.sent row) (run.given row) row)
  at row lt =
      subst (λ k. row_after d nodes from columns k ≡ leaves (row_state end (run.sent k) (run.given k) k)) (omega arith)
      (range-at (λ k. row_after d nodes from columns k ≡ leaves (row_state end (run.sent k) (run.given k) k)) 0 (length nodes) row lt all)

  sent-of : (ks : List ℕ) → AllByRecursion (λ row. row_after d nodes from columns row ≡ leaves (row_state end (run.sent row) (run.given row) row)) ks
      → AllByRecursion (λ row. run.sent row ≡ (row_after d nodes from columns row).state.messages) ks
  sent-of [] h = tt
  sent-of (k ∷ ks) h = (sym (ap (λ a. a.state.messages) h.0), sent-of ks h.1)

  puts-of : (ks : List ℕ) → AllByRecursion (λ row. row_after d nodes from columns row ≡ leaves (row_state end (run.sent row) (run.given row) row)) ks
      → AllByRecursion (λ row. run.given row ≡ (row_after d nodes from columns row).state.puts) ks
  puts-of [] h = tt
  puts-of (k ∷ ks) h = (sym (ap (λ a. a.state.puts) h.0), puts-of ks h.1)

  inside : AllByRecursion (λ values. from + length nodes ≤ length values) columns
  inside = subst (λ k. AllByRecursion (λ values. k ≤ length values) columns) (sym ends) (recursion_from_All (λ values. to ≤ length values) columns within)

  long : AllByRecursion (λ values. length values ≡ length nodes) (field_columns end)
  long = recursion_from_All (λ values. length values ≡ length nodes) (field_columns end) full.fields

  wide : length (field_columns end) ≡ length columns
  wide = length-map end.fields.items _ ∙ run.width ∙ sym (length-map start.fields.items _) ∙ ap length fields ∙ length-map columns _

-- the parts of cells, and registers at zero, have a value for each row
long-part : (xs : List Value) (from n : ℕ) → from + n ≤ length xs → length (slice_range xs from (from + n)) ≡ n
long-part xs from n le = omega (arith, le, length-take (from + n - from) (drop from xs), length-drop from xs)

pub parts-full : (fields : List Cells) (from n : ℕ) → All (λ cells. from + n ≤ length (values_of cells)) fields
    → All (λ values. length values ≡ n) (map (λ cells. slice_range (values_of cells) from (from + n)) fields)
parts-full fields from n within =
    All-map (λ values. length values ≡ n) (λ cells. slice_range (values_of cells) from (from + n)) fields (λ k d lt. long-part (values_of (get_or fields k d)) from n (within k d lt))

pub zeros-full : (types : List VType) (n : ℕ) → All (λ values. length values ≡ n) (map (λ t. replicate n (zero_of t)) types)
zeros-full types n = all-to-map (λ values. length values ≡ n) (λ t. replicate n (zero_of t)) types (λ t. length-replicate n (zero_of t))
