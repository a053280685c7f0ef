-- Turns of eaches: those of a row are run one after another, and what they send stands in their order.
use Rattle.std.proofs.Common.{◌≡◌, ◌∙◌, ◌<◌, ◌≤◌, ◌+◌, inl, ℕ, zero, suc, Bool, true, false, List, [], ◌∷◌, ◌++◌, Some, None, refl, ap, sym, subst, map, length, get_or, arith, append_assoc, if◌then◌else◌}
use Rattle.std.specs.Prelude.{Result, Ok, Err, nat_le}
use Rattle.std.specs.List.{AllByRecursion, AllZip, flat_map, range_with_len}
use Rattle.std.proofs.lemmas.Bool.{and_from, le-leb}
use Rattle.std.proofs.lemmas.Grind.{flat_map-append}
use Rattle.std.proofs.lemmas.List.{append-nil, length-map, take_all}
use Rattle.gm_value.specs.declared.values.Value.{Value}
use Rattle.gm_value.specs.declared.values.Value.TheVariants.{At, Flag}
use Rattle.gm_value.specs.Operations.{is_true}
use Rattle.gm_columns.specs.Cells.{values_of}
use Rattle.gm_columns.specs.Columns.{TypedRow}
use Rattle.gm_model.specs.Graphs.{Step, out_steps}
use Rattle.gm_image.specs.Program.{Line, Send, Skip, Each, Out}
use Rattle.gm_image.specs.Term as T
use Rattle.gm_image.specs.Term.{Term}
use Rattle.gm_kernels.specs.Pointwise.{held}
use Rattle.gm_machine.specs.declared.faults.Fault.{Fault}
use Rattle.gm_machine.specs.Expressions.{value, values}
use Rattle.gm_machine.specs.Faults.{lesser, then_go}
use Rattle.gm_machine.specs.Machine.{row_at}
use Rattle.gm_machine.specs.Taking.{Contribution, Settled}
use Rattle.gm_machine.specs.Vertex.{Message, VertexContext, VertexState, After, body_after, ended, folded, goes_on, leaves, line_ends, lines_after, messages_to, turns_after}
use Rattle.gm_machine.proofs.SlotSteps.{settled-nothing}
use Rattle.gm_message_columns.specs.MessageTables.{MessageTable, message_at, message_rows, row_values}
use Rattle.gm_batches.specs.ValuesIn.{values_in}
use Rattle.gm_batch_steps.specs.declared.batch_states.BatchContext.{BatchContext}
use Rattle.gm_batch_steps.specs.declared.batch_states.BatchState.{BatchState}
use Rattle.gm_batch_steps.specs.BatchStates.{context_in, row_state, sent_in}
use Rattle.gm_batch_steps.specs.LineRuns.{LinesRun, RowRuns, stays}
use Rattle.gm_batch_steps.specs.Turns.{ArePartedTurns, Turn, TurnRuns, TurnsSend, turn_context, turn_view, turns_of}
use Rattle.gm_batch_steps.proofs.LineLaws.{both-run, get-map, nothing-settles, state-with}
use Rattle.gm_batch_steps.proofs.RowLemmas.{row-values, zip-at}
use Rattle.gm_batch_steps.proofs.Splits.{past}

-- what holds of all of several lists put together
each-append : {A : Type 0} (P : A → Type 0) (xs ys : List A) → AllByRecursion P (xs ++ ys) → AllByRecursion P xs × AllByRecursion P ys
each-append P [] ys h = (tt, h)
each-append P (x ∷ xs) ys h = let rest = each-append P xs ys h.1 in ((h.0, rest.0), rest.1)

each-flat : {A B : Type 0} (P : B → Type 0) (f : A → List B) (xs : List A) → AllByRecursion P (flat_map f xs) → AllByRecursion (λ x. AllByRecursion P (f x)) xs
each-flat P f [] h = tt
each-flat P f (x ∷ xs) h = let parts = each-append P (f x) (flat_map f xs) h in (parts.0, each-flat P f xs parts.1)

each-map : {A B : Type 0} (P : B → Type 0) (f : A → B) (xs : List A) → AllByRecursion P (map f xs) → AllByRecursion (λ x. P (f x)) xs
each-map P f [] h = tt
each-map P f (x ∷ xs) h = (h.0, each-map P f xs h.1)

flat-map-map : {A B C : Type 0} (g : B → List C) (f : A → B) (xs : List A) → flat_map g (map f xs) ≡ flat_map (λ x. g (f x)) xs
flat-map-map g f [] = refl
flat-map-map g f (x ∷ xs) = ap (λ l. g (f x) ++ l) (flat-map-map g f xs)

flat-flat : {A B C : Type 0} (g : B → List C) (f : A → List B) (xs : List A) → flat_map g (flat_map f xs) ≡ flat_map (λ x. flat_map g (f x)) xs
flat-flat g f [] = refl
flat-flat g f (x ∷ xs) = flat_map-append g (f x) (flat_map f xs) ∙ ap (λ l. flat_map g (f x) ++ l) (flat-flat g f xs)

flat-pointwise : {A B : Type 0} (f g : A → List B) → ((x : A) → f x ≡ g x) → (xs : List A) → flat_map f xs ≡ flat_map g xs
flat-pointwise f g same [] = refl
flat-pointwise f g same (x ∷ xs) = λ i. same x i ++ flat-pointwise f g same xs i

-- the turns of a row
abbrev along : ℕ → Step → Turn
along row e = record { row = row; step = e }

turns-run : (ls : List Line) (c : BatchContext) (s : BatchState) (sent : Turn → List Message) (row : ℕ) (es : List Step) (ms : List Message) (ps : List Contribution)
    → AllByRecursion (λ e. TurnRuns ls c s sent (along row e)) es
    → turns_after (context_in c row) ls es (row_state s ms ps row) None
    ≡ leaves (row_state s (ms ++ flat_map (λ e. sent (along row e)) es) ps row)
turns-run ls c s sent row [] ms ps h = ap (λ l. leaves (row_state s l ps row)) (sym (append-nil ms))
turns-run ls c s sent row (e ∷ es) ms ps h =
    ap (λ (a : After). turns_after (context_in c row) ls es a.state (lesser None a.fault)) (h.0 ms ps)
    ∙ turns-run ls c s sent row es (ms ++ sent (along row e)) ps h.1
    ∙ ap (λ l. leaves (row_state s l ps row)) (append_assoc ms (sent (along row e)) (flat_map (λ e. sent (along row e)) es))

-- an each whose turns all run
each-row : (places n : ℕ) (ls : List Line) (c : BatchContext) (s : BatchState) (sent : Turn → List Message) (row : ℕ) (ms : List Message) (ps : List Contribution) → length ls ≡ n
    → AllByRecursion (λ e. TurnRuns ls c s sent (along row e)) (out_steps c.graph.now (get_or c.nodes.now row 0))
    → body_after places (context_in c row) (Each Out n ∷ ls) 0 (row_state s ms ps row)
    ≡ leaves (row_state s (ms ++ flat_map (λ e. sent (along row e)) (out_steps c.graph.now (get_or c.nodes.now row 0))) ps row)
each-row places n ls c s sent row ms ps long h =
    let es : List Step = out_steps c.graph.now (get_or c.nodes.now row 0) in
    let go : After → After = λ a. goes_on a (λ k w'. body_after places (context_in c row) ls k w') in
    let end : VertexState = row_state s (ms ++ flat_map (λ e. sent (along row e)) es) ps row in
    ap (λ l. go (folded places (record (turns_after (context_in c row) l es (row_state s ms ps row) None) { skip = n }))) (take_all n ls (omega (arith, long)))
    ∙ ap (λ (a : After). go (folded places (record a { skip = n }))) (turns-run ls c s sent row es ms ps h)
    ∙ ap (λ (x : Settled). go (ended (record end { folds = []; fields = x.values }) (lesser None x.fault) n)) (settled-nothing places end.fields)
    ∙ past places (context_in c row) ls n end (omega (arith, long))

abbrev row-sent : BatchContext → (Turn → List Message) → ℕ → List Message
row-sent c sent row = flat_map (λ e. sent (along row e)) (out_steps c.graph.now (get_or c.nodes.now row 0))

rows-sent : (c : BatchContext) (sent : Turn → List Message) (rows : List ℕ) → flat_map sent (turns_of c rows) ≡ flat_map (row-sent c sent) rows
rows-sent c sent rows =
    flat-flat sent (λ row. map (along row) (out_steps c.graph.now (get_or c.nodes.now row 0))) rows
    ∙ flat-pointwise _ (row-sent c sent) (λ row. flat-map-map sent (along row) (out_steps c.graph.now (get_or c.nodes.now row 0))) rows

pub each-runs : (places n : ℕ) (ls : List Line) (c : BatchContext) (rows : List ℕ) (old new : BatchState) (messages : List Message) → length ls ≡ n
    → TurnsSend ls c old (turns_of c rows) messages → sent_in old ≡ []
    → sent_in new ≡ messages → new.fields ≡ old.fields → new.registers ≡ old.registers → new.puts ≡ old.puts
    → LinesRun places (Each Out n ∷ ls) c rows old new
each-runs places n ls c rows old new messages long turns none sent fields registers puts = record {
  sent = row-sent c turns.sent;
  given = λ row. [];
  more = [];
  runs = all rows (each-flat (TurnRuns ls c old turns.sent) (λ row. map (along row) (out_steps c.graph.now (get_or c.nodes.now row 0))) rows turns.runs);
  others = λ row other ms ps. same ms ps row;
  width = ap (λ fs. length fs.items) fields;
  messages = sent ∙ turns.are ∙ rows-sent c turns.sent rows ∙ ap (λ l. l ++ flat_map (row-sent c turns.sent) rows) (sym none);
  puts = puts ∙ sym (append-nil old.puts);
  settle = nothing-settles rows;
  sends_once = inl none;
} where
  same : (ms : List Message) (ps : List Contribution) (row : ℕ) → row_state new ms ps row ≡ row_state old ms ps row
  same ms ps row = λ i. state-with (row_at (map values_of (fields i).items) row) (row_at (map (λ (column : TypedRow). column.values) (registers i).items) row) ms ps

  all : (rows : List ℕ) → AllByRecursion (λ row. AllByRecursion (TurnRuns ls c old turns.sent) (map (along row) (out_steps c.graph.now (get_or c.nodes.now row 0)))) rows
      → AllByRecursion (RowRuns places (Each Out n ∷ ls) c old new (row-sent c turns.sent) (λ row. [])) rows
  all [] h = tt
  all (r ∷ rows) h = (
    (λ ms ps.
        each-row places n ls c old turns.sent r ms ps long
        (each-map (TurnRuns ls c old turns.sent) (along r) (out_steps c.graph.now (get_or c.nodes.now r 0)) h.0)
        ∙ ap leaves (sym (same (ms ++ row-sent c turns.sent r) ps r))
        ∙ ap (λ l. leaves (row_state new (ms ++ row-sent c turns.sent r) l r)) (sym (append-nil ps))),
    all rows h.1,
  )

-- an each, and the lines behind it
pub each-then : (places n : ℕ) (ls inner more : List Line) (c : BatchContext) (rows : List ℕ) (old mid new : BatchState)
    → ls ≡ inner ++ more → length inner ≡ n → stays inner ≡ true
    → LinesRun places (Each Out n ∷ inner) c rows old mid → LinesRun places more c rows mid new → LinesRun places (Each Out n ∷ ls) c rows old new
each-then places n ls inner more c rows old mid new is long st run rest =
    subst (λ l. LinesRun places (Each Out n ∷ l) c rows old new) (sym is)
    (both-run places (Each Out n ∷ inner) more c rows old mid new (and_from (nat_le n (length inner)) (stays inner) (le-leb n (length inner) (omega (arith, long))) st) run rest)

-- no turns
pub no-turns : (ls : List Line) (c : BatchContext) (s : BatchState) → TurnsSend ls c s [] []
no-turns ls c s = record { sent = λ t. []; runs = tt; are = refl }

-- turns that leave lines out
abbrev flag-of : Result Value Fault → Bool
flag-of (Ok v) = is_true v
flag-of (Err f) = false

abbrev sent-by : Term → BatchContext → BatchState → (Turn → List Message) → Turn → List Message
sent-by a c s sent t = if flag-of (value (turn_view c s t) a) then sent t else []

abbrev skip-turn : ℕ → List Line → VertexContext → VertexState → Result Value Fault → After
skip-turn n ls s w r = goes_on (line_ends w r (λ v. record { state = w; fault = None; skip = if is_true v then 0 else n })) (λ k w'. lines_after s ls k w')

past-lines : (s : VertexContext) (ls : List Line) (k : ℕ) (w : VertexState) → length ls ≤ k → lines_after s ls k w ≡ leaves w
past-lines s [] k w h = refl
past-lines s (l ∷ ls) zero w h = absurd (omega (arith, h))
past-lines s (l ∷ ls) (suc k) w h = past-lines s ls k w (omega (arith, h))

pub skip-turns : (n : ℕ) (a : Term) (ls : List Line) (c : BatchContext) (s : BatchState) (turns inside : List Turn) (messages : List Message) → length ls ≤ n
    → ArePartedTurns a c s turns inside → TurnsSend ls c s inside messages → TurnsSend (Skip n a ∷ ls) c s turns messages
skip-turns n a ls c s turns inside messages le parted run = record {
  sent = sent-by a c s run.sent;
  runs = go turns parted.flags parted.truths (subst (λ l. AllByRecursion (TurnRuns ls c s run.sent) l) parted.are run.runs);
  are = run.are ∙ ap (flat_map run.sent) parted.are ∙ same turns parted.flags parted.truths;
} where
  same : (turns : List Turn) (flags : List Bool) → AllZip (λ t flag. value (turn_view c s t) a ≡ Ok (Flag flag)) turns flags
      → flat_map run.sent (held flags turns) ≡ flat_map (sent-by a c s run.sent) turns
  same [] [] h = refl
  same [] (b ∷ flags) h = absurd h
  same (t ∷ turns) [] h = absurd h
  same (t ∷ turns) (true ∷ flags) h = λ i. (if flag-of (sym h.0 i) then run.sent t else []) ++ same turns flags h.1 i
  same (t ∷ turns) (false ∷ flags) h = λ i. (if flag-of (sym h.0 i) then run.sent t else []) ++ same turns flags h.1 i

  go : (turns : List Turn) (flags : List Bool) → AllZip (λ t flag. value (turn_view c s t) a ≡ Ok (Flag flag)) turns flags
      → AllByRecursion (TurnRuns ls c s run.sent) (held flags turns) → AllByRecursion (TurnRuns (Skip n a ∷ ls) c s (sent-by a c s run.sent)) turns
  go [] [] h runs = tt
  go [] (b ∷ flags) h runs = absurd h
  go (t ∷ turns) [] h runs = absurd h
  go (t ∷ turns) (true ∷ flags) h runs = (
    (λ ms ps. ap (skip-turn n ls (turn_context c t) (row_state s ms ps t.row)) h.0 ∙ runs.0 ms ps
        ∙ (λ i. leaves (row_state s (ms ++ (if flag-of (sym h.0 i) then run.sent t else [])) ps t.row))),
    go turns flags h.1 runs.1,
  )
  go (t ∷ turns) (false ∷ flags) h runs = (
    (λ ms ps. ap (skip-turn n ls (turn_context c t) (row_state s ms ps t.row)) h.0 ∙ past-lines (turn_context c t) ls n (row_state s ms ps t.row) le
        ∙ (λ i. leaves (row_state s (sym (append-nil ms) i) ps t.row))
        ∙ (λ i. leaves (row_state s (ms ++ (if flag-of (sym h.0 i) then run.sent t else [])) ps t.row))),
    go turns flags h.1 runs,
  )

-- turns that send a message each
abbrev message-of : ℕ → ℕ → Result (List Value) Fault → List Message
message-of to kind (Ok vs) = record { to = to; kind = kind; values = vs } ∷ []
message-of to kind (Err f) = []

abbrev send-with : ℕ → ℕ → VertexContext → VertexState → Result (List Value) Fault → After
send-with to kind s w r =
    goes_on (line_ends w r (λ vs. leaves (record w { messages = w.messages ++ messages_to (At (Some to)) kind vs }))) (λ k w'. lines_after s [] k w')

-- the values of a list of terms in a turn, from the columns of all turns
row-at : (c : BatchContext) (s : BatchState) (turns : List Turn) (ts : List Term) (columns : List TypedRow) (k : ℕ) (t : Turn) → k < length turns
    → AllZip (λ a column. values_in (map (turn_view c s) turns) a ≡ Some column.values) ts columns
    → values (turn_view c s (get_or turns k t)) ts ≡ Ok (row_values columns k)
row-at c s turns [] [] k t lt h = refl
row-at c s turns [] (x ∷ columns) k t lt h = absurd h
row-at c s turns (a ∷ ts) [] k t lt h = absurd h
row-at c s turns (a ∷ ts) (x ∷ columns) k t lt h =
    (λ i. then_go (zip-at _ turns x.values k t (At None) (row-values (turn_view c s) a turns x.values h.0) lt i)
    (λ v. then_go (row-at c s turns ts columns k t lt h.1 i) (λ vs. Ok (v ∷ vs))))

same-message : (to to' kind kind' : ℕ) (vs : List Value) → to ≡ to' → kind ≡ kind' → message-of to kind (Ok vs) ≡ message-of to' kind' (Ok vs)
same-message to to' kind kind' vs e f = λ i. message-of (e i) (f i) (Ok vs)

rows-flat : (f : Turn → List Message) (g : ℕ → Message) (k : ℕ) (turns : List Turn) → ((i : ℕ) (t : Turn) → i < length turns → f (get_or turns i t) ≡ g (k + i) ∷ [])
    → map g (range_with_len k (length turns)) ≡ flat_map f turns
rows-flat f g k [] h = refl
rows-flat f g k (t ∷ turns) h =
    let zero-more : k + 0 ≡ k = omega arith in
    (λ i. g (sym zero-more i) ∷ map g (range_with_len (k + 1) (length turns)))
    ∙ ap (λ l. l ++ map g (range_with_len (k + 1) (length turns))) (sym (h 0 t (omega arith)))
    ∙ ap (λ l. f t ++ l) (rows-flat f g (k + 1) turns (λ i u lt. let more : k + suc i ≡ (k + 1) + i = omega arith in h (suc i) u (omega (arith, lt)) ∙ ap (λ j. g j ∷ []) more))

each-at : {A : Type 0} (P : A → Type 0) (xs : List A) → ((k : ℕ) (x : A) → k < length xs → P (get_or xs k x)) → AllByRecursion P xs
each-at P [] h = tt
each-at P (x ∷ xs) h = (h 0 x (omega arith), each-at P xs (λ k y lt. h (suc k) y (omega (arith, lt))))

pub send-turns : (kind : ℕ) (ts : List Term) (c : BatchContext) (s : BatchState) (turns : List Turn) (table : MessageTable)
    → table.kind ≡ kind → table.to ≡ map (λ t. t.step.node) turns
    → AllZip (λ a column. values_in (map (turn_view c s) turns) a ≡ Some column.values) ts table.columns
    → TurnsSend (Send kind T.Neighbour ts ∷ []) c s turns (message_rows table)
send-turns kind ts c s turns table is to columns = record {
  sent = sent;
  runs = each-at _ turns (λ k t lt ms ps. runs (get_or turns k t) (row_values table.columns k) (row-at c s turns ts table.columns k t lt columns) ms ps);
  are = ap (λ n. map (message_at table) (range_with_len 0 n)) (ap length to ∙ length-map turns (λ t. t.step.node))
      ∙ rows-flat sent (message_at table) 0 turns (λ k t lt.
      ap (message-of (get_or turns k t).step.node kind) (row-at c s turns ts table.columns k t lt columns)
      ∙ same-message (get_or turns k t).step.node (get_or table.to k 0) kind table.kind (row_values table.columns k)
      (sym (get-map (λ u. u.step.node) turns k t 0 lt) ∙ ap (λ l. get_or l k 0) (sym to)) (sym is)
      ∙ (let start : k ≡ 0 + k = omega arith in ap (λ j. message_at table j ∷ []) start));
} where
  sent : Turn → List Message
  sent t = message-of t.step.node kind (values (turn_view c s t) ts)

  runs : (t : Turn) (vs : List Value) → values (turn_view c s t) ts ≡ Ok vs → TurnRuns (Send kind T.Neighbour ts ∷ []) c s sent t
  runs t vs e ms ps =
      ap (send-with t.step.node kind (turn_context c t) (row_state s ms ps t.row)) e
      ∙ ap (λ r. leaves (row_state s (ms ++ message-of t.step.node kind r) ps t.row)) (sym e)
