-- The steps of many nodes, one after another.
use Rattle.std.proofs.Common.{◌≡◌, ◌<◌, ◌≤◌, ◌+◌, ◌-◌, ℕ, zero, suc, Option, None, List, [], ◌∷◌, ◌++◌, map, length, take, drop, set, get_or, sym, ap, ◌∙◌, arith, append_assoc, refl, subst, ⊎_elim, ◌⊎◌, inl, inr}
use Rattle.std.specs.Prelude.{All}
use Rattle.std.specs.List.{flat_map, range_with_len}
use Rattle.std.proofs.lemmas.List.{length-append, length-drop, length-take-le, take-append-drop, append-nil, drop_more, drop_all, set_at, get_or_at, map_push}
use Rattle.std.proofs.lemmas.List.Concat.{flat_map-append}
use Rattle.std.proofs.lemmas.List.Elements.{All-same}
use Rattle.std.proofs.lemmas.List.FromFn.{length-map-range_with_len, get_or-map-range_with_len}
use Rattle.gm_value.specs.declared.values.Value.{Value}
use Rattle.gm_model.specs.Graphs.{NumberedGraph}
use Rattle.gm_image.specs.Program.{Program, Block}
use Rattle.gm_image.specs.Views.{program}
use Rattle.gm_machine.specs.declared.batches.MessageHeader.{MessageHeader}
use Rattle.gm_machine.specs.declared.faults.Fault.{Fault}
use Rattle.gm_machine.specs.declared.fields.FieldColumns.{FieldColumns}
use Rattle.gm_machine.specs.declared.message_values.MessageValues.{MessageValues}
use Rattle.gm_machine.specs.declared.node_steps.Nodes.{Nodes}
use Rattle.gm_machine.specs.declared.node_steps.Round.{Round}
use Rattle.gm_machine.specs.declared.steps.Sent.{Sent}
use Rattle.gm_machine.specs.Batches.{IsWithin}
use Rattle.gm_machine.specs.Duties.{node_of, between, Steps, StepsTo}
use Rattle.gm_machine.specs.Faults.{lesser, least_from, least_fault}
use Rattle.gm_machine.specs.Fields.{HeldFields, fields_of, columns_of, held}
use Rattle.gm_machine.specs.Inboxes.{headers_at, messages_at, AreByPlace}
use Rattle.gm_machine.specs.Machine as machine
use Rattle.gm_machine.specs.Machine.{Stepped, inbox, context_at, block_at, step_of, all_steps, superstep}
use Rattle.gm_machine.specs.NodeSteps.{round_after, RunsTo}
use Rattle.gm_machine.specs.Taking.{Contribution, Settled, settled}
use Rattle.gm_machine.specs.Vertex.{Message, After, vertex_after}
use Rattle.gm_machine.specs.VertexViews.{code_of}
use Rattle.gm_machine.proofs.BagLemmas.{enumerated, map-map, flat_map-map}
use Rattle.gm_machine.proofs.FieldRows.{length-by_node}
use Rattle.gm_machine.proofs.LeastLaws.{lesser-none, lesser-assoc}

-- The places between two.

range-last : (a n j : ℕ) → a + n ≡ j → range_with_len a (suc n) ≡ range_with_len a n ++ j ∷ []
range-last a zero j e = let same : a ≡ j = omega arith in ap (λ k. k ∷ []) same
range-last a (suc n) j e = ap (λ l. a ∷ l) (range-last (a + 1) n j (omega arith))

between-more : (from k : ℕ) → from ≤ k → between from (k + 1) ≡ between from k ++ k ∷ []
between-more from k le =
    ap (range_with_len from) (let e : (k + 1) - from ≡ suc (k - from) = omega arith in e) ∙ range-last from (k - from) k (omega arith)

between-none : (from : ℕ) → between from from ≡ []
between-none from = ap (range_with_len from) (let e : from - from ≡ 0 = omega arith in e)

least-push : (f : Option Fault) (gs : List (Option Fault)) (g : Option Fault) → least_from f (gs ++ g ∷ []) ≡ lesser (least_from f gs) g
least-push f [] g = refl
least-push f (h ∷ gs) g = least-push (lesser f h) gs g

map-range : {A : Type 0} (f f' : ℕ → A) (a n : ℕ) → ((i : ℕ) → a ≤ i → i < a + n → f i ≡ f' i) → map f (range_with_len a n) ≡ map f' (range_with_len a n)
map-range f f' a zero same = refl
map-range f f' a (suc n) same =
    ap (λ x. x ∷ map f (range_with_len (a + 1) n)) (same a (omega arith) (omega arith))
    ∙ ap (λ l. f' a ∷ l) (map-range f f' (a + 1) n (λ i low high. same i (omega arith) (omega arith)))

flat-range : {A : Type 0} (f f' : ℕ → List A) (a n : ℕ) → ((i : ℕ) → a ≤ i → i < a + n → f i ≡ f' i) → flat_map f (range_with_len a n) ≡ flat_map f' (range_with_len a n)
flat-range f f' a zero same = refl
flat-range f f' a (suc n) same =
    ap (λ x. x ++ flat_map f (range_with_len (a + 1) n)) (same a (omega arith) (omega arith))
    ∙ ap (λ l. f' a ++ l) (flat-range f f' (a + 1) n (λ i low high. same i (omega arith) (omega arith)))

-- The steps from a place on.
module _ (after : ℕ → After) (from : ℕ) (old : List (List Value)) where
  abbrev fields_at : ℕ → List Value
  fields_at place = (after place).state.fields

  -- none was taken yet
  pub runs-none : (messages : List Message) (puts : List Contribution) (fault : Option Fault) → RunsTo after from from old old messages messages puts puts fault fault
  runs-none messages puts fault = record {
    fields = sym (ap (λ l. take from old ++ (map fields_at l ++ drop from old)) (between-none from) ∙ take-append-drop from old);
    sent = sym (ap (λ l. messages ++ flat_map (λ place. (after place).state.messages) l) (between-none from) ∙ append-nil messages);
    put = sym (ap (λ l. puts ++ flat_map (λ place. (after place).state.puts) l) (between-none from) ∙ append-nil puts);
    least = sym (ap (λ l. lesser fault (least_fault (map (λ place. (after place).fault) l))) (between-none from) ∙ lesser-none fault);
  }

  -- the fields before a place, some of which are new
  abbrev front : ℕ → List (List Value)
  front k = take from old ++ map fields_at (between from k)

  length-front : (k : ℕ) → from ≤ k → k < length old → length (front k) ≡ k
  length-front k le within =
      let room : from ≤ length old = omega arith in
      omega (arith, length-append (take from old) (map fields_at (between from k)), length-take-le from old room, length-map-range_with_len fields_at from (k - from))

  split : (k : ℕ) (now : List (List Value)) → k < length old → now ≡ take from old ++ (map fields_at (between from k) ++ drop k old) →
      now ≡ front k ++ get_or old k [] ∷ drop (k + 1) old
  split k now within is =
      is
      ∙ sym (append_assoc (take from old) (map fields_at (between from k)) (drop k old))
      ∙ ap (λ l. front k ++ l) (drop_more old k [] within)

  -- a node that has not taken its step has its old fields
  pub runs-kept : (k : ℕ) (now : List (List Value)) (messages messages' : List Message) (puts puts' : List Contribution) (fault fault' : Option Fault) → from ≤ k → k < length old →
      RunsTo after from k old now messages messages' puts puts' fault fault' → get_or now k [] ≡ get_or old k []
  runs-kept k now messages messages' puts puts' fault fault' le within so_far =
      ap (λ l. get_or l k []) (split k now within so_far.fields)
      ∙ get_or_at (front k) (get_or old k []) (drop (k + 1) old) [] k (length-front k le within)

  -- one more step
  pub runs-more : (k : ℕ) (now new : List (List Value)) (messages held messages' : List Message) (puts given puts' : List Contribution) (fault least fault' : Option Fault) → from ≤ k → k < length old →
      new ≡ set now k (after k).state.fields → messages' ≡ held ++ (after k).state.messages → puts' ≡ given ++ (after k).state.puts → fault' ≡ lesser least (after k).fault →
      RunsTo after from k old now messages held puts given fault least → RunsTo after from (k + 1) old new messages messages' puts puts' fault fault'
  runs-more k now new messages held messages' puts given puts' fault least fault' le within new_is messages_is puts_is fault_is so_far =
      let one : After = after k in
      let done : List (List Value) = map fields_at (between from k) in
      let rest : List (List Value) = drop (k + 1) old in
      let faults : List (Option Fault) = map (λ place. (after place).fault) (between from k) in
      let more : between from (k + 1) ≡ between from k ++ k ∷ [] = between-more from k le in
      record {
        fields =
            new_is
            ∙ ap (λ l. set l k one.state.fields) (split k now within so_far.fields)
            ∙ set_at (front k) (get_or old k []) rest one.state.fields k (length-front k le within)
            ∙ append_assoc (take from old) done (one.state.fields ∷ rest)
            ∙ ap (λ l. take from old ++ l) (
            sym (append_assoc done (one.state.fields ∷ []) rest)
            ∙ ap (λ l. l ++ rest) (sym (map_push fields_at (between from k) k) ∙ ap (map fields_at) (sym more)));
        sent =
            messages_is
            ∙ ap (λ l. l ++ one.state.messages) so_far.sent
            ∙ append_assoc messages (flat_map (λ place. (after place).state.messages) (between from k)) one.state.messages
            ∙ ap (λ l. messages ++ l) (pushed (λ place. (after place).state.messages));
        put =
            puts_is
            ∙ ap (λ l. l ++ one.state.puts) so_far.put
            ∙ append_assoc puts (flat_map (λ place. (after place).state.puts) (between from k)) one.state.puts
            ∙ ap (λ l. puts ++ l) (pushed (λ place. (after place).state.puts));
        least =
            fault_is
            ∙ ap (λ f. lesser f one.fault) so_far.least
            ∙ lesser-assoc fault (least_fault faults) one.fault
            ∙ ap (lesser fault) (sym (least-push None faults one.fault) ∙ ap least_fault (sym (map_push (λ place. (after place).fault) (between from k) k) ∙ ap (map (λ place. (after place).fault)) (sym more)));
      }
    where
      pushed : {A : Type 0} (f : ℕ → List A) → flat_map f (between from k) ++ f k ≡ flat_map f (between from (k + 1))
      pushed f =
          ap (λ l. flat_map f (between from k) ++ l) (sym (append-nil (f k)))
          ∙ sym (flat_map-append f (between from k) (k ∷ []))
          ∙ ap (flat_map f) (sym (between-more from k le))

-- the step of a node that has not taken it is one from the old fields
pub round-kept : (r : Round) (from place : ℕ) (old now : List (List Value)) (messages messages' : List Message) (puts puts' : List Contribution) (fault fault' : Option Fault) → from ≤ place → place < length old →
    RunsTo (round_after r old) from place old now messages messages' puts puts' fault fault' → round_after r now place ≡ round_after r old place
round-kept r from place old now messages messages' puts puts' fault fault' le within so_far =
    ap (λ fields. vertex_after (program r.image.now) (code_of r.code) (context_at r.graph.now r.globals.now (node_of r.nodes place)) (messages_at r.values.now r.sorted.now r.starts.now place) fields)
    (runs-kept (round_after r old) from old place now messages messages' puts puts' fault fault' le within so_far)

-- one more step, from the fields as they are now
pub round-more : (r : Round) (from place : ℕ) (old now new : List (List Value)) (messages held messages' : List Message) (puts given puts' : List Contribution) (fault least one fault' : Option Fault) → from ≤ place → place < length old →
    new ≡ set now place (round_after r now place).state.fields → messages' ≡ held ++ (round_after r now place).state.messages → puts' ≡ given ++ (round_after r now place).state.puts → one ≡ (round_after r now place).fault → fault' ≡ lesser least one →
    RunsTo (round_after r old) from place old now messages held puts given fault least → RunsTo (round_after r old) from (place + 1) old new messages messages' puts puts' fault fault'
round-more r from place old now new messages held messages' puts given puts' fault least one fault' le within new_is messages_is puts_is one_is fault_is so_far =
    let same : round_after r now place ≡ round_after r old place = round-kept r from place old now messages held puts given fault least le within so_far in
    runs-more (round_after r old) from old place now new messages held messages' puts given puts' fault least fault' le within
    (new_is ∙ ap (λ (a : After). set now place a.state.fields) same)
    (messages_is ∙ ap (λ (a : After). held ++ a.state.messages) same)
    (puts_is ∙ ap (λ (a : After). given ++ a.state.puts) same)
    (fault_is ∙ ap (lesser least) (one_is ∙ ap (λ (a : After). a.fault) same))
    so_far

-- what a place's headers ask of headers by place, and that their values are there
pub place-known : (places place : ℕ) (values : MessageValues) (sorted : List MessageHeader) (starts : List ℕ) → AreByPlace places values sorted starts → place < places → (starts ≡ []) ⊎ (place + 1 < length starts)
place-known places place values sorted starts are below = ⊎_elim
    (λ (none : starts ≡ []). inl none)
    (λ (long : length starts ≡ places + 1). inr (let e : place + 1 < length starts = omega arith in e))
    are.long

pub place-within : (places place : ℕ) (values : MessageValues) (sorted headers : List MessageHeader) (starts : List ℕ) → AreByPlace places values sorted starts → place < places → headers ≡ headers_at sorted starts place → All (IsWithin values) headers
place-within places place values sorted headers starts are below is = All-same (IsWithin values) headers (headers_at sorted starts place) is (are.within place below)

-- the same steps, one by one
pub runs-same : (after after' : ℕ → After) (from to : ℕ) (old new : List (List Value)) (messages messages' : List Message) (puts puts' : List Contribution) (fault fault' : Option Fault) →
    ((place : ℕ) → from ≤ place → place < to → after place ≡ after' place) →
    RunsTo after from to old new messages messages' puts puts' fault fault' → RunsTo after' from to old new messages messages' puts puts' fault fault'
runs-same after after' from to old new messages messages' puts puts' fault fault' same runs =
    let each : (i : ℕ) → from ≤ i → i < from + (to - from) → after i ≡ after' i = λ i low high. same i low (omega (arith, low, high)) in
    record {
      fields = runs.fields ∙ ap (λ l. take from old ++ (l ++ drop to old)) (map-range (λ i. (after i).state.fields) (λ i. (after' i).state.fields) from (to - from) (λ i low high. ap (λ (a : After). a.state.fields) (each i low high)));
      sent = runs.sent ∙ ap (λ l. messages ++ l) (flat-range (λ i. (after i).state.messages) (λ i. (after' i).state.messages) from (to - from) (λ i low high. ap (λ (a : After). a.state.messages) (each i low high)));
      put = runs.put ∙ ap (λ l. puts ++ l) (flat-range (λ i. (after i).state.puts) (λ i. (after' i).state.puts) from (to - from) (λ i low high. ap (λ (a : After). a.state.puts) (each i low high)));
      least = runs.least ∙ ap (λ l. lesser fault (least_fault l)) (map-range (λ i. (after i).fault) (λ i. (after' i).fault) from (to - from) (λ i low high. ap (λ (a : After). a.fault) (each i low high)));
    }

-- the steps from fields and behind lists that were read
pub runs-read : (after : List (List Value) → ℕ → After) (from to : ℕ) (read old new : List (List Value)) (held messages messages' : List Message) (given puts puts' : List Contribution) (fault fault' : Option Fault) → read ≡ old → held ≡ messages → given ≡ puts →
    RunsTo (after read) from to read new held messages' given puts' fault fault' → RunsTo (after old) from to old new messages messages' puts puts' fault fault'
runs-read after from to read old new held messages messages' given puts puts' fault fault' old_is messages_are puts_are runs =
    subst (λ fields. RunsTo (after fields) from to fields new messages messages' puts puts' fault fault') old_is
    (subst (λ ms. RunsTo (after read) from to read new ms messages' puts puts' fault fault') messages_are
    (subst (λ ps. RunsTo (after read) from to read new held messages' ps puts' fault fault') puts_are runs))

-- the step of a node by its place, with the block and the messages that the code found
pub place-same : (p : Program) (g : NumberedGraph) (globals : List Value) (nodes : Nodes) (b b' : Block) (place : ℕ) (some waiting : List Message) (fields : List Value) → b ≡ b' → some ≡ waiting →
    vertex_after p b (context_at g globals (node_of nodes place)) some fields ≡ vertex_after p b' (context_at g globals (node_of nodes place)) waiting fields
place-same p g globals nodes b b' place some waiting fields b_is waiting_is =
    ap (λ (c : Block). vertex_after p c (context_at g globals (node_of nodes place)) some fields) b_is
    ∙ ap (λ ms. vertex_after p b' (context_at g globals (node_of nodes place)) ms fields) waiting_is

-- they are the steps that a call answers for
pub runs-steps : (after : List (List Value) → ℕ → After) (from to width : ℕ) (old new : List (List Value)) (held held' : HeldFields) (sent sent' : Sent) →
    record { width = width; rows = old } ≡ held → held' ≡ record { width = width; rows = new } → from < to → to ≤ length old →
    RunsTo (after old) from to old new sent.messages sent'.messages sent.puts sent'.puts sent.fault sent'.fault →
    StepsTo (after held.rows) from to held held' sent sent'
runs-steps after from to width old new held held' sent sent' held_is new_is ahead within runs =
    subst (λ (h : HeldFields). StepsTo (after h.rows) from to h held' sent sent') held_is (record {
      ahead = ahead;
      within = within;
      taken = record {
        width = ap (λ (h : HeldFields). h.width) new_is;
        fields = ap (λ (h : HeldFields). h.rows) new_is ∙ runs.fields;
        messages = runs.sent;
        puts = runs.put;
        fault = runs.least;
      };
    })

-- they leave as many nodes
pub steps-long : (after : ℕ → After) (from to : ℕ) (old new : HeldFields) (sent sent' : Sent) → StepsTo after from to old new sent sent' → length new.rows ≡ length old.rows
steps-long after from to old new sent sent' steps =
    let done : List (List Value) = map (λ place. (after place).state.fields) (between from to) in
    let front : length (take from old.rows) ≡ from = length-take-le from old.rows (omega (arith, steps.ahead, steps.within)) in
    let middle : length done ≡ to - from = length-map-range_with_len (λ place. (after place).state.fields) from (to - from) in
    let rest : length (drop to old.rows) ≡ length old.rows - to = length-drop to old.rows in
    ap length steps.taken.fields
    ∙ length-append (take from old.rows) (done ++ drop to old.rows)
    ∙ omega (arith, front, middle, rest, length-append done (drop to old.rows), steps.ahead, steps.within)

-- the steps at all places of columns
pub steps-whole : (after : List (List Value) → ℕ → After) (to count : ℕ) (read old new : FieldColumns) (given : HeldFields) (sent sent' : Sent) → read ≡ old → held new ≡ given → count ≤ to → old.nodes ≡ count →
    StepsTo (after (fields_of read)) 0 to (held read) given sent sent' → Steps (after (fields_of old)) 0 old.nodes (held old) (held new) sent sent'
steps-whole after to count read old new given sent sent' read_is given_is all nodes_are steps =
    let at : StepsTo (after (fields_of old)) 0 to (held old) given sent sent' = subst (λ (f : FieldColumns). StepsTo (after (fields_of f)) 0 to (held f) given sent sent') read_is steps in
    let size : to ≡ old.nodes = omega (arith, at.within, all, nodes_are, length-by_node old.nodes (columns_of old)) in
    subst (λ (n : ℕ). Steps (after (fields_of old)) 0 n (held old) (held new) sent sent') size
    (subst (λ (h : HeldFields). Steps (after (fields_of old)) 0 to (held old) h sent sent') (sym given_is) at.taken)

-- and as many nodes of columns
pub nodes-whole : (after : ℕ → After) (to : ℕ) (read old new : FieldColumns) (given : HeldFields) (sent sent' : Sent) → read ≡ old → held new ≡ given →
    StepsTo after 0 to (held read) given sent sent' → new.nodes ≡ old.nodes
nodes-whole after to read old new given sent sent' read_is given_is steps =
    sym (length-by_node new.nodes (columns_of new))
    ∙ ap (λ (h : HeldFields). length h.rows) given_is
    ∙ steps-long after 0 to (held read) given sent sent' steps
    ∙ length-by_node read.nodes (columns_of read)
    ∙ ap (λ (f : FieldColumns). f.nodes) read_is

-- Supersteps.

-- the steps at all places are the steps of all nodes
pub all-places : (p : Program) (g : NumberedGraph) (b : Block) (globals : List Value) (waiting : List (List Message)) (sent : List Message) (fields : List (List Value)) (count : ℕ) → count ≡ length fields →
    waiting ≡ map (inbox sent) (range_with_len 0 count) →
    map (λ node. vertex_after p b (context_at g globals node) (get_or waiting node []) (get_or fields node [])) (between 0 count) ≡ all_steps p g b globals sent fields
all-places p g b globals waiting sent fields count long is =
    let step : (ℕ × List Value) → After = step_of p g b globals sent in
    let size : count - 0 ≡ length fields = omega arith in
    map-range (λ node. vertex_after p b (context_at g globals node) (get_or waiting node []) (get_or fields node [])) (λ node. step (node, get_or fields node [])) 0 (count - 0)
    (λ node low high. ap (λ ms. vertex_after p b (context_at g globals node) ms (get_or fields node []))
    (ap (λ l. get_or l node []) is ∙ get_or-map-range_with_len (inbox sent) 0 count node node [] (omega arith) (let e : 0 + node ≡ node = omega arith in e)))
    ∙ sym (map-map (λ node. (node, get_or fields node [])) step (range_with_len 0 (count - 0)))
    ∙ ap (map step) (ap (λ n. map (λ node. (node, get_or fields node [])) (range_with_len 0 n)) size
    ∙ sym (enumerated [] fields 0 fields (λ k. ap (λ n. get_or fields n []) (let e : 0 + k ≡ k = omega arith in e))))

-- a superstep, with its parts as the code finds them
pub superstep-is : (p : Program) (g : NumberedGraph) (q count : ℕ) (globals new : List Value) (s : machine.Nodes) (after : ℕ → After) (held held' : HeldFields) (sent sent' : Sent) (put fault : Option Fault) (supersteps messages : ℕ) →
    held.rows ≡ s.fields → count ≡ length held.rows → sent.messages ≡ [] → sent.puts ≡ [] → sent.fault ≡ None →
    map after (between 0 count) ≡ all_steps p g (block_at p q) globals s.sent s.fields →
    Steps after 0 count held held' sent sent' →
    record { values = new; fault = put } ≡ settled (length p.places) sent'.puts globals →
    supersteps ≡ s.supersteps + 1 → messages ≡ s.messages + length sent'.messages → fault ≡ lesser sent'.fault put →
    record { nodes = record { fields = held'.rows; sent = sent'.messages; supersteps = supersteps; messages = messages }; globals = new; fault = fault } ≡ superstep p g q globals s
superstep-is p g q count globals new s after held held' sent sent' put fault supersteps messages rows_are long no_messages no_puts no_fault all_is steps put_is supersteps_is messages_is fault_is =
    let all : List After = all_steps p g (block_at p q) globals s.sent s.fields in
    let made : List (List Value) → List Message → ℕ → ℕ → Settled → Option Fault → Stepped = λ fs ms k m t f. record { nodes = record { fields = fs; sent = ms; supersteps = k; messages = m }; globals = t.values; fault = f } in
    let fields_are : held'.rows ≡ map (λ a. a.state.fields) all =
    steps.fields
    ∙ ap (λ l. map (λ place. (after place).state.fields) (between 0 count) ++ l) (drop_all count held.rows (omega arith))
    ∙ append-nil (map (λ place. (after place).state.fields) (between 0 count))
    ∙ sym (map-map after (λ a. a.state.fields) (between 0 count))
    ∙ ap (map (λ a. a.state.fields)) all_is in
    let sent_is : sent'.messages ≡ flat_map (λ a. a.state.messages) all =
    steps.messages
    ∙ ap (λ l. l ++ flat_map (λ place. (after place).state.messages) (between 0 count)) no_messages
    ∙ sym (flat_map-map after (λ a. a.state.messages) (between 0 count))
    ∙ ap (flat_map (λ a. a.state.messages)) all_is in
    let puts_are : sent'.puts ≡ flat_map (λ a. a.state.puts) all =
    steps.puts
    ∙ ap (λ l. l ++ flat_map (λ place. (after place).state.puts) (between 0 count)) no_puts
    ∙ sym (flat_map-map after (λ a. a.state.puts) (between 0 count))
    ∙ ap (flat_map (λ a. a.state.puts)) all_is in
    let least_is : sent'.fault ≡ least_fault (map (λ a. a.fault) all) =
    steps.fault
    ∙ ap (λ f. lesser f (least_fault (map (λ place. (after place).fault) (between 0 count)))) no_fault
    ∙ ap least_fault (sym (map-map after (λ a. a.fault) (between 0 count)))
    ∙ ap (λ l. least_fault (map (λ a. a.fault) l)) all_is in
    let settles : record { values = new; fault = put } ≡ settled (length p.places) (flat_map (λ a. a.state.puts) all) globals = put_is ∙ ap (λ ps. settled (length p.places) ps globals) puts_are in
    let t : Settled = record { values = new; fault = put } in
    let last : Settled = settled (length p.places) (flat_map (λ a. a.state.puts) all) globals in
    ap (λ fs. made fs sent'.messages supersteps messages t fault) fields_are
    ∙ ap (λ k. made (map (λ a. a.state.fields) all) sent'.messages k messages t fault) supersteps_is
    ∙ ap (λ m. made (map (λ a. a.state.fields) all) sent'.messages (s.supersteps + 1) m t fault) messages_is
    ∙ ap (λ f. made (map (λ a. a.state.fields) all) sent'.messages (s.supersteps + 1) (s.messages + length sent'.messages) t f) fault_is
    ∙ ap (λ ms. made (map (λ a. a.state.fields) all) ms (s.supersteps + 1) (s.messages + length ms) t (lesser sent'.fault put)) sent_is
    ∙ ap (λ f. made (map (λ a. a.state.fields) all) (flat_map (λ a. a.state.messages) all) (s.supersteps + 1) (s.messages + length (flat_map (λ a. a.state.messages) all)) t (lesser f put)) least_is
    ∙ ap (λ (x : Settled). made (map (λ a. a.state.fields) all) (flat_map (λ a. a.state.messages) all) (s.supersteps + 1) (s.messages + length (flat_map (λ a. a.state.messages) all)) x (lesser (least_fault (map (λ a. a.fault) all)) x.fault)) settles
