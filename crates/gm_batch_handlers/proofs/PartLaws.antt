-- Parts of messages, from the lines that their rows run.
use Rattle.std.proofs.Common.{◌≡◌, ◌∙◌, ◌<◌, ◌≤◌, ◌+◌, ◌-◌, ℕ, zero, suc, List, [], ◌∷◌, ◌++◌, Option, Some, None, refl, ap, sym, subst, map, length, get_or, replicate, take, drop, arith, length-drop}
use Rattle.std.specs.Prelude.{All, slice_index, slice_range}
use Rattle.std.specs.List.{AllByRecursion, AllZip, flat_map, range_with_len}
use Rattle.std.proofs.lemmas.Grind.{flat_map-append}
use Rattle.std.proofs.lemmas.List.{get_or-drop, get_or-replicate, length-map, length-replicate, map-append}
use Rattle.std.proofs.lemmas.List.Elements.{All-from_recursion, All-map}
use Rattle.gm_value.specs.declared.values.Value.{Value}
use Rattle.gm_value.specs.declared.values.Value.TheVariants.{At}
use Rattle.gm_value.specs.Numbers.{zero_of}
use Rattle.gm_columns.specs.declared.cells.Cells.{Cells}
use Rattle.gm_columns.specs.Cells.{values_of}
use Rattle.gm_columns.specs.Columns.{TypedRow, IsStorable}
use Rattle.gm_image.specs.Program.{Line}
use Rattle.gm_image.specs.Views.{program}
use Rattle.gm_machine.specs.declared.node_steps.Duty.{Duty}
use Rattle.gm_machine.specs.Expressions.{value_at}
use Rattle.gm_machine.specs.Machine.{block_at, context_at, row_at}
use Rattle.gm_machine.specs.Vertex.{Message, VertexContext, handler_lines, leaves, lines_after}
use Rattle.gm_machine.proofs.BagLemmas.{flat_map-map, same_as}
use Rattle.gm_batch_steps.proofs.BatchLaws.{all-of-map, map-map, map-same}
use Rattle.gm_batch_steps.proofs.LineLaws.{get-map}
use Rattle.gm_batch_steps.proofs.RowLemmas.{range-at, range-below, range-distinct}
use Rattle.gm_batch_steps.proofs.StepLaws.{zeros-full}
use Rattle.gm_batch_steps.specs.BatchStates.{AreDistinct}
use Rattle.gm_batch_handlers.specs.declared.row_states.Chosen.{Chosen}
use Rattle.gm_batch_handlers.specs.declared.row_states.RowContext.{RowContext}
use Rattle.gm_batch_handlers.specs.declared.row_states.RowState.{RowState}
use Rattle.gm_batch_handlers.specs.declared.row_states.SlotTotal.{SlotTotal}
use Rattle.gm_batch_handlers.specs.Gathering.{Gathers, Gives, run_of}
use Rattle.gm_batch_handlers.specs.Gifts.{Gift, AreLong, AreTotals, IsTotal, held_in}
use Rattle.gm_batch_handlers.specs.Handling.{all_values, message_in}
use Rattle.gm_batch_handlers.specs.RowRuns.{LinesRun, RowRuns}
use Rattle.gm_batch_handlers.specs.RowStates.{AreChosen, IsContext, IsFull, context_in, field_columns, place_of, row_count, row_state}
use Rattle.gm_batch_handlers.proofs.LineLaws.{state-with}

-- messages and then others
zip-both : {A B : Type 0} (P : A → B → Type 0) (xs : List A) (ys : List B) (more : List A) (others : List B) → AllZip P xs ys → AllZip P more others → AllZip P (xs ++ more) (ys ++ others)
zip-both P [] [] more others h k = k
zip-both P [] (y ∷ ys) more others h k = absurd h
zip-both P (x ∷ xs) [] more others h k = absurd h
zip-both P (x ∷ xs) (y ∷ ys) more others h k = (h.0, zip-both P xs ys more others h.1 k)

zip-range : {A B : Type 0} (P : A → B → Type 0) (f : ℕ → A) (g : ℕ → B) (rows : List ℕ) (a : ℕ) → ((k : ℕ) → k < length rows → P (f (get_or rows k 0)) (g (a + k)))
    → AllZip P (map f rows) (map g (range_with_len a (length rows)))
zip-range P f g [] a h = tt
zip-range P f g (row ∷ rows) a h = (
  subst (λ j. P (f row) (g j)) (omega arith) (h 0 (omega arith)),
  zip-range P f g rows (a + 1) (λ k lt. subst (λ j. P (f (get_or rows k 0)) (g j)) (omega arith) (h (suc k) (omega (arith, lt)))),
)

-- the rows of a part: their messages, in the columns of all messages
pub record IsPart (d : Duty) (nodes : List ℕ) (to : List ℕ) (values : List TypedRow) (fields : List Cells) (rows : List ℕ) (c : RowContext) (registers : List TypedRow) : Type 0 where
  pub graph : c.graph.now ≡ d.graph.now
  pub globals : c.globals.now ≡ d.globals.now
  pub places : c.places.now ≡ map (λ row. get_or to row 0) rows
  pub nodes_are : c.nodes.now ≡ map (λ place. get_or nodes place 0) c.places.now
  pub fields_are : c.fields.now ≡ fields
  pub message : all_values c.message.now ≡ map (λ (column : TypedRow). map (λ row. value_at column.values row) rows) values
  pub zeros : all_values registers ≡ map (λ t. replicate (length rows) (zero_of t)) (program d.image.now).registers

-- as many rows as messages
pub part-count : (d : Duty) (nodes to : List ℕ) (values : List TypedRow) (fields : List Cells) (rows : List ℕ) (c : RowContext) (registers : List TypedRow)
    → IsPart d nodes to values fields rows c registers → row_count c ≡ length rows
part-count d nodes to values fields rows c registers part =
    ap length part.nodes_are ∙ length-map c.places.now (λ place. get_or nodes place 0) ∙ ap length part.places ∙ length-map rows (λ row. get_or to row 0)

-- registers at zero are full
pub part-full : (d : Duty) (nodes to : List ℕ) (values : List TypedRow) (fields : List Cells) (rows : List ℕ) (c : RowContext) (registers : List TypedRow)
    → IsPart d nodes to values fields rows c registers → IsFull (row_count c) registers
part-full d nodes to values fields rows c registers part =
    subst (λ n. IsFull n registers) (sym (part-count d nodes to values fields rows c registers part))
    (all-of-map (λ xs. length xs ≡ length rows) (λ (column : TypedRow). column.values) registers
    (subst (λ l. All (λ xs. length xs ≡ length rows) l) (sym part.zeros) (zeros-full (program d.image.now).registers (length rows))))

-- all rows are chosen
pub all-chosen : (n : ℕ) (c : Chosen) → c.rows.now ≡ range_with_len 0 n → AreChosen n c
all-chosen n c is = record {
  rows_within = subst (λ ks. All (λ row. row < n) ks) (sym is) (All-from_recursion (λ row. row < n) (range_with_len 0 n) (range-below 0 n n (omega arith)));
  distinct = subst (λ ks. AreDistinct ks) (sym is) (range-distinct 0 n);
  all_rows = λ e. is;
}

-- each field has a value for each node
pub columns-full : (fields : List Cells) (n : ℕ) → All (λ cells. length (values_of cells) ≡ n) fields
    → (slot : ℕ) → slot < length (map values_of fields) → length (get_or (map values_of fields) slot []) ≡ n
columns-full fields n full slot lt = All-map (λ xs. length xs ≡ n) values_of fields full slot [] lt

-- the rows of a part are rows of messages
pub part-context : (d : Duty) (nodes to : List ℕ) (values : List TypedRow) (fields : List Cells) (rows : List ℕ) (c : RowContext) (registers : List TypedRow)
    → IsPart d nodes to values fields rows c registers
    → All (λ node. IsStorable (At (Some node))) nodes → All (λ place. place < length nodes) to → All (λ cells. length (values_of cells) ≡ length nodes) fields
    → All (λ row. row < length to) rows → length rows < 4294967296 → IsContext c
part-context d nodes to values fields rows c registers part storable below full within count = record {
  count = omega (arith, rows-count, count);
  nodes = subst (λ ns. All (λ node. IsStorable (At (Some node))) ns) (sym part.nodes_are)
      (All-map (λ node. IsStorable (At (Some node))) (λ place. get_or nodes place 0) c.places.now (λ k d lt. storable (get_or c.places.now k d) 0 (places-below k d lt)));
  places = omega (arith, places-count, rows-count);
  fields = subst (λ fs. All (λ cells. All (λ place. place < length (values_of cells)) c.places.now) fs) (sym part.fields_are)
      (λ k d lt j e there. omega (arith, places-below j e there, full k d lt));
  message = all-of-map (λ xs. length xs ≡ row_count c) (λ (column : TypedRow). column.values) c.message.now
      (subst (λ l. All (λ xs. length xs ≡ row_count c) l) (sym part.message)
      (All-map (λ xs. length xs ≡ row_count c) (λ (column : TypedRow). map (λ row. value_at column.values row) rows) values
      (λ k d lt. length-map rows (λ row. value_at (get_or values k d).values row) ∙ sym rows-count)));
} where
  places-count : length c.places.now ≡ length rows
  places-count = ap length part.places ∙ length-map rows (λ row. get_or to row 0)

  rows-count : row_count c ≡ length rows
  rows-count = ap length part.nodes_are ∙ length-map c.places.now (λ place. get_or nodes place 0) ∙ ap length part.places ∙ length-map rows (λ row. get_or to row 0)

  places-below : All (λ place. place < length nodes) c.places.now
  places-below = subst (λ ps. All (λ place. place < length nodes) ps) (sym part.places)
      (All-map (λ place. place < length nodes) (λ row. get_or to row 0) rows (λ k d lt. below (get_or rows k d) 0 (within k d lt)))

abbrev message-context : Duty → List ℕ → List Value → ℕ → VertexContext
message-context d nodes values to = record (context_at d.graph.now d.globals.now (get_or nodes to 0)) { message = values }

-- a row of a part runs the handler of its message
row-runs : (d : Duty) (nodes to : List ℕ) (values : List TypedRow) (fields : List Cells) (rows : List ℕ) (c : RowContext) (registers : List TypedRow) (kind k : ℕ) → k < length rows
    → IsPart d nodes to values fields rows c registers
    → run_of d nodes (map values_of fields) (message_in kind to (all_values values) (get_or rows k 0))
    ≡ lines_after (context_in c k) (handler_lines (block_at (program d.image.now) d.block).handlers kind) 0 (row_state c registers [] k)
row-runs d nodes to values fields rows c registers kind k lt part =
    λ i. lines_after
    (record (context_at (sym part.graph i) (sym part.globals i) (sym node i)) { message = sym message i })
    (handler_lines (block_at (program d.image.now) d.block).handlers kind) 0
    (state-with (row_at (map values_of (sym part.fields_are i)) (sym place i)) (sym zeros i) [])
  where
    row : ℕ
    row = get_or rows k 0

    place : place_of c k ≡ get_or to (get_or rows k 0) 0
    place = ap (λ ps. get_or ps k 0) part.places ∙ get-map (λ row. get_or to row 0) rows k 0 0 lt

    node : get_or c.nodes.now k 0 ≡ get_or nodes (get_or to (get_or rows k 0) 0) 0
    node =
        ap (λ ns. get_or ns k 0) part.nodes_are
        ∙ get-map (λ place. get_or nodes place 0) c.places.now k 0 0 (omega (arith, lt, ap length part.places, length-map rows (λ row. get_or to row 0)))
        ∙ ap (λ p. get_or nodes p 0) (ap (λ ps. get_or ps k 0) part.places ∙ get-map (λ row. get_or to row 0) rows k 0 0 lt)

    message : row_at (all_values c.message.now) k ≡ row_at (all_values values) (get_or rows k 0)
    message =
        ap (λ l. row_at l k) part.message
        ∙ map-map (λ xs. value_at xs k) (λ (column : TypedRow). map (λ row. value_at column.values row) rows) values
        ∙ map-same (λ (column : TypedRow). value_at (map (λ row. value_at column.values row) rows) k) (λ (column : TypedRow). value_at column.values (get_or rows k 0))
        (λ (column : TypedRow). get-map (λ row. value_at column.values row) rows k 0 (At None) lt) values
        ∙ sym (map-map (λ xs. value_at xs (get_or rows k 0)) (λ (column : TypedRow). column.values) values)

    zeros : row_at (all_values registers) k ≡ map zero_of (program d.image.now).registers
    zeros =
        ap (λ l. row_at l k) part.zeros
        ∙ map-map (λ xs. value_at xs k) (λ t. replicate (length rows) (zero_of t)) (program d.image.now).registers
        ∙ map-same (λ t. value_at (replicate (length rows) (zero_of t)) k) zero_of (λ t. get_or-replicate (length rows) k (zero_of t) (At None) lt) (program d.image.now).registers

start : (k : ℕ) → k ≡ 0 + k
start k = omega arith

all-run : (lines : List Line) (c : RowContext) (old new : List TypedRow) (given : ℕ → List Gift) (ks : List ℕ) → AllByRecursion (RowRuns lines c old new given) ks
    → AllByRecursion (λ row. lines_after (context_in c row) lines 0 (row_state c old [] row) ≡ leaves (row_state c new (given row) row)) ks
all-run lines c old new given [] h = tt
all-run lines c old new given (k ∷ ks) h = (h.0 [], all-run lines c old new given ks h.1)

-- a part more
pub part-gathers : (d : Duty) (nodes to : List ℕ) (values : List TypedRow) (fields : List Cells) (rows : List ℕ) (c : RowContext) (old new : RowState) (kind : ℕ) (lines : List Line)
    (before : List Message) (totals : List (Option SlotTotal)) → old.totals.items ≡ totals
    → IsPart d nodes to values fields rows c old.registers.items
    → lines ≡ handler_lines (block_at (program d.image.now) d.block).handlers kind
    → LinesRun (length (program d.image.now).places) lines c (range_with_len 0 (length rows)) old new
    → Gathers d nodes (map values_of fields) before totals
    → Gathers d nodes (map values_of fields) (before ++ map (message_in kind to (all_values values)) rows) new.totals.items
part-gathers d nodes to values fields rows c old new kind lines before totals same part are run g = record {
  gifts = g.gifts ++ map run.given (range_with_len 0 (length rows));
  given = zip-both (Gives d nodes columns) before g.gifts (map (message_in kind to (all_values values)) rows) (map run.given (range_with_len 0 (length rows))) g.given
      (zip-range (Gives d nodes columns) (message_in kind to (all_values values)) run.given rows 0 gives);
  total = subst (λ l. AreTotals (length (program d.image.now).places) l (flat_map (λ gs. gs) (g.gifts ++ map run.given (range_with_len 0 (length rows)))) new.totals.items) columns-are
      (run.totals (flat_map (λ gs. gs) g.gifts) (flat_map (λ gs. gs) (g.gifts ++ map run.given (range_with_len 0 (length rows))))
      (subst (λ l. AreTotals (length (program d.image.now).places) l (flat_map (λ gs. gs) g.gifts) old.totals.items) (sym columns-are)
      (subst (λ ts. AreTotals (length (program d.image.now).places) columns (flat_map (λ gs. gs) g.gifts) ts) (sym same) g.total))
      (same_as (flat_map-append (λ gs. gs) g.gifts (map run.given (range_with_len 0 (length rows)))
      ∙ ap (λ l. flat_map (λ gs. gs) g.gifts ++ l) (flat_map-map run.given (λ gs. gs) (range_with_len 0 (length rows))))));
} where
  columns : List (List Value)
  columns = map values_of fields

  columns-are : field_columns c ≡ map values_of fields
  columns-are = ap (map values_of) part.fields_are

  at-is : (k : ℕ) → k < length rows → place_of c (0 + k) ≡ slice_index to (get_or rows k 0)
  at-is k lt = ap (place_of c) (sym (start k)) ∙ ap (λ ps. get_or ps k 0) part.places ∙ get-map (λ row. get_or to row 0) rows k 0 0 lt

  whole : (k : ℕ) → k < length rows
      → run_of d nodes (map values_of fields) (message_in kind to (all_values values) (get_or rows k 0)) ≡ leaves (row_state c new.registers.items (run.given (0 + k)) (0 + k))
  whole k lt =
      row-runs d nodes to values fields rows c old.registers.items kind k lt part
      ∙ (λ i. lines_after (context_in c (start k i)) (sym are i) 0 (row_state c old.registers.items [] (start k i)))
      ∙ range-at (λ row. lines_after (context_in c row) lines 0 (row_state c old.registers.items [] row) ≡ leaves (row_state c new.registers.items (run.given row) row))
      0 (length rows) k lt (all-run lines c old.registers.items new.registers.items run.given (range_with_len 0 (length rows)) run.runs)

  gives : (k : ℕ) → k < length rows → Gives d nodes (map values_of fields) (message_in kind to (all_values values) (get_or rows k 0)) (run.given (0 + k))
  gives k lt = record {
    fault = ap (λ a. a.fault) (whole k lt);
    messages = ap (λ a. a.state.messages) (whole k lt);
    puts = ap (λ a. a.state.puts) (whole k lt);
    folds = ap (λ a. a.state.folds) (whole k lt);
    theirs = subst (λ to. AllByRecursion (λ g. g.at ≡ to) (run.given (0 + k))) (at-is k lt) (run.theirs (0 + k));
  }

-- no message so far
abbrev no-total : Option SlotTotal
no-total = None

none-at : (n k : ℕ) → get_or (replicate n no-total) k None ≡ None
none-at zero k = refl
none-at (suc n) zero = refl
none-at (suc n) (suc k) = none-at n k

pub gathers-none : (d : Duty) (nodes : List ℕ) (fields : List Cells) (totals : List (Option SlotTotal)) → totals ≡ replicate (length fields) None → Gathers d nodes (map values_of fields) [] totals
gathers-none d nodes fields totals is = record {
  gifts = [];
  given = tt;
  total = record {
    wide = ap length is ∙ length-replicate (length fields) None ∙ sym (length-map fields values_of);
    each = λ slot lt. subst (λ t. IsTotal (length (program d.image.now).places) (get_or (map values_of fields) slot []) [] t) (sym (ap (λ ts. get_or ts slot None) is ∙ none-at (length fields) slot)) refl;
  };
}

pub long-none : (fields : List Cells) (totals : List (Option SlotTotal)) → totals ≡ replicate (length fields) None → AreLong (map values_of fields) totals
long-none fields totals is = record {
  wide = ap length is ∙ length-replicate (length fields) None ∙ sym (length-map fields values_of);
  each = λ slot lt. ap (λ t. length (held_in (get_or (map values_of fields) slot []) t)) (ap (λ ts. get_or ts slot None) is ∙ none-at (length fields) slot);
}

-- numbers from one on, and then others
range-both : (a n m : ℕ) → range_with_len a n ++ range_with_len (a + n) m ≡ range_with_len a (n + m)
range-both a zero m = ap (λ b. range_with_len b m) (let e : a + 0 ≡ a = omega arith in e) ∙ ap (range_with_len a) (let e : m ≡ 0 + m = omega arith in e)
range-both a (suc n) m =
    ap (λ b. a ∷ (range_with_len (a + 1) n ++ range_with_len b m)) (let e : a + suc n ≡ (a + 1) + n = omega arith in e)
    ∙ ap (λ l. a ∷ l) (range-both (a + 1) n m)
    ∙ ap (range_with_len a) (let e : suc (n + m) ≡ suc n + m = omega arith in e)

pub messages-more : (f : ℕ → Message) (from end : ℕ) → from ≤ end
    → map f (range_with_len 0 from) ++ map f (range_with_len from (end - from)) ≡ map f (range_with_len 0 end)
messages-more f from end le =
    sym (map-append f (range_with_len 0 from) (range_with_len from (end - from)))
    ∙ ap (λ l. map f (range_with_len 0 from ++ l)) (ap (λ a. range_with_len a (end - from)) (let e : from ≡ 0 + from = omega arith in e))
    ∙ ap (map f) (range-both 0 from (end - from) ∙ ap (range_with_len 0) (let e : from + (end - from) ≡ end = omega (arith, le) in e))

-- a part of a list, number by number
suc-is : (a : ℕ) → suc a ≡ a + 1
suc-is a = omega arith

shifted : {A : Type 0} (y : A) (ys : List A) (d : A) (a n : ℕ) → map (λ row. get_or ys row d) (range_with_len a n) ≡ map (λ row. get_or (y ∷ ys) row d) (range_with_len (a + 1) n)
shifted y ys d a zero = refl
shifted y ys d a (suc n) = λ i. get_or (y ∷ ys) (suc-is a i) d ∷ shifted y ys d (a + 1) n i

taken : {A : Type 0} (d : A) (n : ℕ) (ys : List A) → n ≤ length ys → take n ys ≡ map (λ row. get_or ys row d) (range_with_len 0 n)
taken d zero ys h = refl
taken d (suc n) [] h = absurd (omega (arith, h))
taken d (suc n) (y ∷ ys) h = ap (λ l. y ∷ l) (taken d n ys (omega (arith, h)) ∙ shifted y ys d 0 n)

from-there : {A : Type 0} (xs : List A) (d : A) (from a n : ℕ) → map (λ row. get_or (drop from xs) row d) (range_with_len a n) ≡ map (λ row. get_or xs row d) (range_with_len (from + a) n)
from-there xs d from a zero = refl
from-there xs d from a (suc n) =
    let next : from + (a + 1) ≡ (from + a) + 1 = omega arith in
    λ i. get_or-drop from xs a d i ∷ (from-there xs d from (a + 1) n ∙ ap (λ b. map (λ row. get_or xs row d) (range_with_len b n)) next) i

pub range-part : {A : Type 0} (xs : List A) (d : A) (from end : ℕ) → from ≤ end → end ≤ length xs → slice_range xs from end ≡ map (λ row. get_or xs row d) (range_with_len from (end - from))
range-part xs d from end le within =
    let start : from + 0 ≡ from = omega arith in
    taken d (end - from) (drop from xs) (omega (arith, length-drop from xs, le, within))
    ∙ from-there xs d from 0 (end - from)
    ∙ ap (λ b. map (λ row. get_or xs row d) (range_with_len b (end - from))) start

-- parts of columns, row by row
pub columns-part : (values : List TypedRow) (from end : ℕ) → from ≤ end → All (λ column. end ≤ length column.values) values
    → map (λ (column : TypedRow). slice_range column.values from end) values ≡ map (λ (column : TypedRow). map (λ row. value_at column.values row) (range_with_len from (end - from))) values
columns-part [] from end le within = refl
columns-part (column ∷ values) from end le within = λ i.
    range-part column.values (At None) from end le (within 0 column (omega arith)) i
    ∷ columns-part values from end le (λ k d lt. within (suc k) d (omega (arith, lt))) i

-- its rows are rows of all
pub part-within : (from end n : ℕ) → from ≤ end → end ≤ n → All (λ row. row < n) (range_with_len from (end - from))
part-within from end n le within =
    All-from_recursion (λ row. row < n) (range_with_len from (end - from)) (range-below from (end - from) n (omega (arith, le, within)))
