-- A superstep of a crew: what its workers did, and the events and the step of the run on one thread for which it stands.
use Rattle.std.proofs.Common.{◌≡◌, ◌≢◌, ◌<◌, ◌≤◌, ◌+◌, ◌-◌, ℕ, zero, suc, Bool, true, false, cond, nat_eq, List, [], ◌∷◌, ◌++◌, length, map, refl, sym, ap, ◌∙◌, subst, arith, ⊎_elim}
use Rattle.std.specs.Prelude.{filter, slice_index, slice_index_or}
use Rattle.std.specs.List.{flat_map, range_with_len}
use Rattle.std.proofs.lemmas.Bool.{cases_eq, cases_lt, eq-eqb, ne_eqb}
use Rattle.std.proofs.lemmas.List.{get_or-map, get_or_default, get_or_append_left, get_or_push, length_push}
use Rattle.std.proofs.lemmas.List.FromFn.{get_or-map-range_with_len, length-map-range_with_len}
use Rattle.gm_value.specs.declared.values.Value.{Value}
use Rattle.gm_model.specs.Graphs.{NumberedGraph, HasNode, node_count}
use Rattle.gm_image.specs.Program.{Program, Block}
use Rattle.gm_image.specs.Views.{program}
use Rattle.gm_machine.specs.declared.node_steps.Duty.{Duty}
use Rattle.gm_node_batches.specs.declared.steps.Sent.{Sent}
use Rattle.gm_machine.specs.Machine.{Control, inbox, block_at, context_at}
use Rattle.gm_machine.specs.Steps.{step_after}
use Rattle.gm_machine.specs.Vertex.{Message, VertexContext, After, vertex_after, goes_on, folded, gathered, begun, handler_run, body_after}
use Rattle.gm_machine.proofs.BagLemmas.{flat_map-map, map-map}
use Rattle.gm_base.specs.Merge.{of}
use Rattle.gm_posting.specs.Gathering.{AreSized}
use Rattle.gm_posting.proofs.WorkerLemmas.{some-of}
use Rattle.gm_posting.proofs.NumberLemmas.{pass-of_worker, worker-of_pass}
use Rattle.gm_core.specs.declared.events.Event.{Event}
use Rattle.gm_core.specs.declared.events.Event.TheVariants.{Deliver}
use Rattle.gm_core.specs.Mails.{flat, pass_worker, worker_pass, AreFull}
use Rattle.gm_core.specs.Cores.{Core, owner, for_worker, below, effects}
use Rattle.gm_core.specs.Supersteps.{own, step, deliveries, all_deliveries, superstep_events, TakeAll, IsReady, Supersteps}
use Rattle.gm_core.proofs.NodeLists.{filter-none}
use Rattle.gm_core.proofs.SuperstepLemmas.{supersteps}
use Rattle.gm_workers.specs.declared.dealing.Dealing.{Dealing}
use Rattle.gm_workers.specs.declared.mail.Mail.{Mail}
use Rattle.gm_workers.specs.declared.crews.Slot.{Slot}
use Rattle.gm_workers.specs.Dealings.{place_in, no_place, placed}
use Rattle.gm_workers.specs.Parts.{items_of, messages_in, boxes_of, slot_step, places_of}
use Rattle.gm_workers.specs.Threads.{CanWork, Worked}
use Rattle.gm_workers.specs.Crews.{nodes_at, rows_at, batches_at, fields_at, IsCrew, Shows, deliveries_to, deliveries_from, AreSmall, GoByEvents}
use Rattle.gm_workers.proofs.DealingLemmas.{own-at, own-place, place-test}
use Rattle.gm_workers.proofs.WorkerBags.{flat-equal, flat-places, box-moved}

-- the step of a vertex does not ask to whom its messages are
vertex-moved : (p : Program) (b : Block) (s : VertexContext) (move : Message → Message) → ((m : Message) → (move m).kind ≡ m.kind) → ((m : Message) → (move m).values ≡ m.values) →
    (ms : List Message) (fields : List Value) → vertex_after p b s (map move ms) fields ≡ vertex_after p b s ms fields
vertex-moved p b s move kinds values ms fields =
    ap (λ runs. goes_on (folded (length p.places) (gathered (begun p.registers fields) runs)) (λ k w. body_after (length p.places) s b.body 0 w))
    (map-map move (handler_run s b.handlers (begun p.registers fields)) ms
    ∙ ap (λ (f : Message → After). map f ms) (λ i m. run (kinds m i) (values m i)))
  where
    run : ℕ → List Value → After
    run kind values' = handler_run s b.handlers (begun p.registers fields) (record { to = 0; kind = kind; values = values' })

-- what passes a test among numbers, each with lists that are equal
flat-kept : {A : Type 0} (keep : ℕ → Bool) (f f' : ℕ → List A) (a k : ℕ) → ((n : ℕ) → a ≤ n → n < a + k → f n ≡ f' n) → flat_map f (filter keep (range_with_len a k)) ≡ flat_map f' (filter keep (range_with_len a k))
flat-kept keep f f' a zero same = refl
flat-kept {A} keep f f' a (suc k) same = one (keep a) (filter keep (range_with_len (a + 1) k)) (same a (omega arith) (omega arith)) (flat-kept keep f f' (a + 1) k (λ n low high. same n (omega arith) (omega arith))) where
  one : (b : Bool) (ns : List ℕ) → f a ≡ f' a → flat_map f ns ≡ flat_map f' ns → flat_map f (cond b (a ∷ ns) ns) ≡ flat_map f' (cond b (a ∷ ns) ns)
  one true ns here rest = ap (λ l. l ++ flat_map f ns) here ∙ ap (λ l. f' a ++ l) rest
  one false ns here rest = rest

-- the batches of a pass are those of its worker
of-passes : (to : ℕ) (xs : List (ℕ × Mail)) (number : ℕ) →
    flat (of (map (λ b. let y : ℕ × List Message = (worker_pass to b.0, b.1.messages) in y) xs) number) ≡ flat_map items_of (of xs (pass_worker to number))
of-passes to [] number = refl
of-passes to (x ∷ xs) number =
    let rest : List (List Message) = of (map (λ b. let y : ℕ × List Message = (worker_pass to b.0, b.1.messages) in y) xs) number in
    let rest' : List Mail = of xs (pass_worker to number) in
    ⊎_elim
    (λ (here : x.0 ≡ pass_worker to number).
    let there : worker_pass to x.0 ≡ number = ap (worker_pass to) here ∙ worker-of_pass to number in
    ap (λ b. flat (cond b (x.1.messages ∷ rest) rest)) (eq-eqb (worker_pass to x.0) number there)
    ∙ ap (λ l. x.1.messages ++ l) (of-passes to xs number)
    ∙ sym (ap (λ b. flat_map items_of (cond b (x.1 ∷ rest') rest')) (eq-eqb x.0 (pass_worker to number) here)))
    (λ (other : x.0 ≡ pass_worker to number → ⊥).
    let apart : worker_pass to x.0 ≢ number = λ e. other (sym (pass-of_worker to x.0) ∙ ap (pass_worker to) e) in
    ap (λ b. flat (cond b (x.1.messages ∷ rest) rest)) (ne_eqb (worker_pass to x.0) number apart)
    ∙ of-passes to xs number
    ∙ sym (ap (λ b. flat_map items_of (cond b (x.1 ∷ rest') rest')) (ne_eqb x.0 (pass_worker to number) other)))
    (cases_eq x.0 (pass_worker to number))

-- where the batches of each sender are of 1 to 1,024 messages, all are
abbrev AllSized : List (ℕ × Mail) → Type 0
AllSized [] = Unit {0}
AllSized (x ∷ xs) = ((1 ≤ length x.1.messages) × (length x.1.messages ≤ 1024)) × AllSized xs

all-sized : (xs : List (ℕ × Mail)) → ((from : ℕ) → AreSized items_of (of xs from)) → AllSized xs
all-sized [] each = tt
all-sized (x ∷ xs) each =
    let first : AreSized items_of (x.1 ∷ of xs x.0) = subst (λ b. AreSized items_of (cond b (x.1 ∷ of xs x.0) (of xs x.0))) (eq-eqb x.0 x.0 refl) (each x.0) in (
      (first.0.some, first.0.few),
      all-sized xs (λ from. rest (nat_eq x.0 from) (of xs from) (each from)),
    )
  where
    rest : (b : Bool) (ys : List Mail) → AreSized items_of (cond b (x.1 ∷ ys) ys) → AreSized items_of ys
    rest true ys s = s.1
    rest false ys s = s

full-sized : (to : ℕ) (xs : List (ℕ × Mail)) → AllSized xs → AreFull (map (λ b. let y : ℕ × List Message = (worker_pass to b.0, b.1.messages) in y) xs)
full-sized to [] all = tt
full-sized to (x ∷ xs) all = (all.0.0, full-sized to xs all.1)

small-append : (es fs : List Event) → AreSmall es → AreSmall fs → AreSmall (es ++ fs)
small-append [] fs a b = b
small-append (e ∷ es) fs a b = (a.0, small-append es fs a.1 b)

small-sized : (to : ℕ) (xs : List (ℕ × Mail)) → AllSized xs → AreSmall (map (λ b. Deliver b.0 to (length b.1.messages)) xs)
small-sized to [] all = tt
small-sized to (x ∷ xs) all = (all.0, small-sized to xs all.1)

-- one more worker of a list
pub at-pushed : {A B : Type 0} (f : A → B) (xs : List A) (x : A) (k : ℕ) (e : B) → length xs ≡ k → slice_index_or (map f (xs ++ x ∷ [])) k e ≡ f x
at-pushed f xs x k e long = get_or-map f (xs ++ x ∷ []) k x e (omega (arith, length_push xs x)) ∙ ap f (get_or_push xs x x k long)

pub at-before : {A B : Type 0} (f : A → B) (xs : List A) (x : A) (k : ℕ) (e : B) → k < length xs → slice_index_or (map f (xs ++ x ∷ [])) k e ≡ slice_index_or (map f xs) k e
at-before f xs x k e low =
    get_or-map f (xs ++ x ∷ []) k x e (omega (arith, length_push xs x)) ∙ ap f (get_or_append_left xs (x ∷ []) x k low) ∙ sym (get_or-map f xs k x e low)

module _ (p : Program) (g : NumberedGraph) (q : ℕ) (vs : List Value) (dealing : Dealing) (workers : ℕ) (old : List Slot) (crew : IsCrew (node_count g) workers dealing old) where
  abbrev owners : List ℕ
  owners = dealing.owners.items

  few : (n : ℕ) → owner owners n < workers
  few = crew.dealt.owners.each

  -- the step of a node with what its owner has
  abbrev pub crew_step : ℕ → After
  crew_step n = step_after p q vs g n (inbox (messages_in (batches_at old (owner owners n))) n) (fields_at owners old n)

  own-none : (w : ℕ) → workers ≤ w → own owners w (node_count g) ≡ []
  own-none w past = filter-none (λ n. nat_eq (owner owners n) w) (below (node_count g)) (λ n. ne_eqb (owner owners n) w (λ e. let l = few n in omega arith))

  module _ (d : Duty) (image_is : program d.image.now ≡ p) (block_is : d.block ≡ q) (graph_is : d.graph.now ≡ g) (globals_is : d.globals.now ≡ vs) where
    nodes-is : (w : ℕ) (x : Slot) → w < workers → (slice_index_or old w x).nodes.items ≡ own owners w (node_count g)
    nodes-is w x low = sym (get_or-map (λ z. z.nodes.items) old w x [] (omega (arith, crew.count))) ∙ crew.nodes_are w low

    slot-step : (w k : ℕ) (x : Slot) → w < workers → k < length (own owners w (node_count g)) →
        slot_step d dealing w (slice_index_or old w x) k ≡ crew_step (slice_index (own owners w (node_count g)) k)
    slot-step w k x low under =
        let y : Slot = slice_index_or old w x in
        let here : w < length old = omega (arith, low, crew.count) in
        let mine : List ℕ = own owners w (node_count g) in
        let n : ℕ = slice_index mine k in
        let at = own-at owners w (node_count g) k under in
        let ms : List Message = messages_in y.waiting.items in
        let nodes_are : y.nodes.items ≡ mine = nodes-is w x low in
        let box : List Message = slice_index_or (boxes_of dealing w y) k [] in
        let row : List Value = slice_index_or y.fields.rows k [] in
        let box_is : box ≡ map (placed dealing w) (inbox ms n) =
        get_or-map-range_with_len (inbox (map (placed dealing w) ms)) 0 (length y.nodes.items) k k [] (subst (λ (l : List ℕ). k < length l) (sym nodes_are) under) (let e : 0 + k ≡ k = omega arith in e)
        ∙ box-moved (λ (m : Message). m.to) (placed dealing w) k n (λ m. place-test owners dealing.places.items (node_count g) no_place w k m.to crew.dealt.places crew.dealt.few under) ms in
        let place_is : place_in owners n ≡ k = ap (λ v. length (own owners v n)) at.owned ∙ at.place in
        let row_is : row ≡ fields_at owners old n =
        ap (λ rs. slice_index_or rs k []) (sym (get_or-map (λ z. z.fields.rows) old w x [] here))
        ∙ ap (λ v. slice_index_or (rows_at old v) k []) (sym at.owned)
        ∙ ap (λ j. slice_index_or (rows_at old (owner owners n)) j []) (sym place_is) in
        let waits : ms ≡ messages_in (batches_at old (owner owners n)) =
        ap messages_in (sym (get_or-map (λ z. z.waiting.items) old w x [] here)) ∙ ap (λ v. messages_in (batches_at old v)) (sym at.owned) in
        ap (λ r. step_after r d.block d.globals.now d.graph.now (slice_index y.nodes.items k) box row) image_is
        ∙ ap (λ b. step_after p b d.globals.now d.graph.now (slice_index y.nodes.items k) box row) block_is
        ∙ ap (λ v. step_after p q v d.graph.now (slice_index y.nodes.items k) box row) globals_is
        ∙ ap (λ h. step_after p q vs h (slice_index y.nodes.items k) box row) graph_is
        ∙ ap (λ ns. step_after p q vs g (slice_index ns k) box row) nodes_are
        ∙ ap (λ b. step_after p q vs g n b row) box_is
        ∙ vertex-moved p (block_at p q) (context_at g vs n) (placed dealing w) (λ m. refl) (λ m. refl) (inbox ms n) row
        ∙ ap (λ l. step_after p q vs g n (inbox l n) row) waits
        ∙ ap (λ r. step_after p q vs g n (inbox (messages_in (batches_at old (owner owners n))) n) r) row_is

    -- they can do their parts
    pub can-work : CanWork d dealing old
    can-work = record {
      nodes = λ w place x here under.
          let low : w < workers = omega (arith, here, crew.count) in
          let mine : List ℕ = own owners w (node_count g) in
          let are = nodes-is w x low in
          let at = own-at owners w (node_count g) place (subst (λ (l : List ℕ). place < length l) are under) in
          subst (λ h. HasNode h (slice_index (slice_index_or old w x).nodes.items place)) (sym graph_is)
          (subst (λ (l : List ℕ). HasNode g (slice_index l place)) (sym are) at.low);
      fields = λ w x here.
          let low : w < workers = omega (arith, here, crew.count) in
          ap length (sym (get_or-map (λ z. z.fields.rows) old w x [] here)) ∙ crew.wide w low ∙ ap length (get_or-map (λ z. z.nodes.items) old w x [] here);
      owned = λ n. omega (arith, few n, crew.count);
    }

    -- what the steps of a worker's nodes leave, node by node
    pub worker-flat : {A : Type 0} (h : After → List A) (w : ℕ) (x : Slot) → w < workers →
        flat_map (λ k. h (slot_step d dealing w (slice_index_or old w x) k)) (places_of (slice_index_or old w x)) ≡ flat_map (λ n. h (crew_step n)) (own owners w (node_count g))
    worker-flat h w x low =
        let y : Slot = slice_index_or old w x in
        let mine : List ℕ = own owners w (node_count g) in
        let long : length y.nodes.items - 0 ≡ length mine = omega (arith, ap length (nodes-is w x low)) in
        ap (λ m. flat_map (λ k. h (slot_step d dealing w y k)) (range_with_len 0 m)) long
        ∙ flat-equal (λ k. h (slot_step d dealing w y k)) (λ k. h (crew_step (slice_index mine k))) 0 (length mine) (λ k from under. ap h (slot-step w k x low (omega arith)))
        ∙ sym (flat-places (λ n. h (crew_step n)) mine (λ k. h (crew_step (slice_index mine k))) (λ k e under. ap (λ n. h (crew_step n)) (get_or_default mine k e 0 under)))

    module _ (new : List Slot) (sent : List Sent) (worked : Worked d dealing old new sent) where
      -- the fields of each node are those that its step leaves
      fields-after : (n : ℕ) → n < node_count g → fields_at owners new n ≡ (crew_step n).state.fields
      fields-after n low =
          let w : ℕ = owner owners n in
          let here : w < workers = few n in
          let there : w < length old = omega (arith, here, crew.count) in
          let x : Slot = some-of old (omega (arith, there)) in
          let y : Slot = slice_index_or old w x in
          let mine : List ℕ = own owners w (node_count g) in
          let has = own-place owners w (node_count g) n low refl in
          let k : ℕ = length (own owners w n) in
          let long : k < length y.nodes.items - 0 = omega (arith, has.within, ap length (nodes-is w x here)) in
          ap (λ rs. slice_index_or rs k []) (get_or-map (λ z. z.fields.rows) new w x [] (omega (arith, there, worked.long)) ∙ (worked.computed w x (some-sent w there) there).fields)
          ∙ get_or-map-range_with_len (λ j. (slot_step d dealing w y j).state.fields) 0 (length y.nodes.items - 0) k k [] long (let e : 0 + k ≡ k = omega arith in e)
          ∙ ap (λ a. a.state.fields) (slot-step w k x here has.within)
          ∙ ap (λ m. (crew_step m).state.fields) has.there
        where
          some-sent : (w : ℕ) → w < length old → Sent
          some-sent w low' = some-of sent (omega (arith, low', worked.many))

      -- they are a crew still
      pub still-crew : IsCrew (node_count g) workers dealing new
      still-crew =
          let nodes-now : (w : ℕ) → w < workers → nodes_at new w ≡ own owners w (node_count g) =
          λ w low.
          let there : w < length old = omega (arith, low, crew.count) in
          let x : Slot = some-of old (omega (arith, there)) in
          let s : Sent = some-of sent (omega (arith, there, worked.many)) in
          get_or-map (λ z. z.nodes.items) new w x [] (omega (arith, there, worked.long)) ∙ ap (λ v. v.items) (worked.computed w x s there).nodes ∙ nodes-is w x low in
          record {
            dealt = crew.dealt;
            few = crew.few;
            count = worked.long ∙ crew.count;
            nodes_are = nodes-now;
            wide = λ w low.
                let there : w < length old = omega (arith, low, crew.count) in
                let x : Slot = some-of old (omega (arith, there)) in
                let s : Sent = some-of sent (omega (arith, there, worked.many)) in
                let y : Slot = slice_index_or old w x in
                ap length (get_or-map (λ z. z.fields.rows) new w x [] (omega (arith, there, worked.long)) ∙ (worked.computed w x s there).fields)
                ∙ length-map-range_with_len (λ j. (slot_step d dealing w y j).state.fields) 0 (length y.nodes.items - 0)
                ∙ (let e : length y.nodes.items - 0 ≡ length y.nodes.items = omega arith in e)
                ∙ ap length (nodes-is w x low ∙ sym (nodes-now w low));
          }

      -- what waits from a worker are the messages that its nodes sent, in order
      came : (from to : ℕ) → to < workers → flat_map items_of (of (batches_at new to) from) ≡ for_worker owners to (flat_map (λ n. (crew_step n).state.messages) (own owners from (node_count g)))
      came from to low =
          let there : to < length old = omega (arith, low, crew.count) in
          let x : Slot = some-of old (omega (arith, there)) in
          let batches : batches_at new to ≡ (slice_index_or new to x).waiting.items = get_or-map (λ z. z.waiting.items) new to x [] (omega (arith, there, worked.long)) in
          ap (λ l. flat_map items_of (of l from)) batches
          ∙ ⊎_elim
          (λ (some : from < workers).
          (worked.came from to x (omega (arith, some, crew.count)) there).messages ∙ ap (for_worker owners to) (worker-flat (λ a. a.state.messages) from x some))
          (λ (past : workers ≤ from).
          ap (flat_map items_of) (worked.nobody from to x (omega (arith, past, crew.count)) there)
          ∙ sym (ap (λ ns. for_worker owners to (flat_map (λ n. (crew_step n).state.messages) ns)) (own-none from past)))
          (cases_lt from workers)

      sized : (to : ℕ) → to < workers → AllSized (batches_at new to)
      sized to low =
          let there : to < length old = omega (arith, low, crew.count) in
          let x : Slot = some-of old (omega (arith, there)) in
          let batches : batches_at new to ≡ (slice_index_or new to x).waiting.items = get_or-map (λ z. z.waiting.items) new to x [] (omega (arith, there, worked.long)) in
          subst AllSized (sym batches) (all-sized (slice_index_or new to x).waiting.items (λ from.
          ⊎_elim
          (λ (some : from < workers). (worked.came from to x (omega (arith, some, crew.count)) there).sized)
          (λ (past : workers ≤ from). subst (AreSized items_of) (sym (worked.nobody from to x (omega (arith, past, crew.count)) there)) tt)
          (cases_lt from workers)))

      -- the batches that each worker took, with the numbers of their passes
      abbrev pub taken : ℕ → List (ℕ × List Message)
      taken to = map (λ b. let y : ℕ × List Message = (worker_pass to b.0, b.1.messages) in y) (batches_at new to)

      -- as events, one for each batch
      delivered-from : (a : ℕ) (ys : List Slot) → ((k : ℕ) → k < length ys → batches_at ys k ≡ batches_at new (a + k)) → all_deliveries taken (range_with_len a (length ys)) ≡ deliveries_from a ys
      delivered-from a [] same = refl
      delivered-from a (y ∷ ys) same =
          let here : batches_at new a ≡ y.waiting.items = sym (same 0 (omega arith) ∙ ap (batches_at new) (let e : a + 0 ≡ a = omega arith in e)) in
          let made : ℕ → Mail → Event = λ from m. Deliver from a (length m.messages) in
          let one : deliveries a (taken a) ≡ deliveries_to a y =
          map-map (λ (b : ℕ × Mail). let z : ℕ × List Message = (worker_pass a b.0, b.1.messages) in z) (λ (z : ℕ × List Message). Deliver (pass_worker a z.0) a (length z.1)) (batches_at new a)
          ∙ ap (λ (f : ℕ × Mail → Event). map f (batches_at new a)) (λ i b. made (pass-of_worker a b.0 i) b.1)
          ∙ ap (λ (l : List (ℕ × Mail)). map (λ (b : ℕ × Mail). made b.0 b.1) l) here in
          ap (λ l. l ++ all_deliveries taken (range_with_len (a + 1) (length ys))) one
          ∙ ap (λ l. deliveries_to a y ++ l) (delivered-from (a + 1) ys (λ k low. same (suc k) (omega arith) ∙ ap (batches_at new) (let e : a + suc k ≡ (a + 1) + k = omega arith in e)))

      pub delivered-all : all_deliveries taken (below workers) ≡ deliveries_from 0 new
      delivered-all =
          ap (λ n. all_deliveries taken (below n)) (sym (worked.long ∙ crew.count))
          ∙ delivered-from 0 new (λ k low. ap (batches_at new) (let e : k ≡ 0 + k = omega arith in e))

      pub delivered-small : AreSmall (deliveries_from 0 new)
      delivered-small = at 0 new (λ k low. sized k (omega (arith, low, worked.long, crew.count))) where
        at : (a : ℕ) (ys : List Slot) → ((k : ℕ) → k < length ys → AllSized (batches_at ys k)) → AreSmall (deliveries_from a ys)
        at a [] each = tt
        at a (y ∷ ys) each = small-append (deliveries_to a y) (deliveries_from (a + 1) ys) (small-sized a y.waiting.items (each 0 (omega arith))) (at (a + 1) ys (λ k low. each (suc k) (omega arith)))

      -- from a core that the workers show
      module _ (left line : ℕ) (c : Control) (s : Core) (seen : c.globals ≡ vs) (shows : Shows (node_count g) owners old s) where
        step-same : (n : ℕ) → n < node_count g → step p g owners workers q c s n ≡ crew_step n
        step-same n low =
            let here : owner owners n < length old = omega (arith, few n, crew.count) in
            ap (λ v. step_after p q v g n (inbox (s.waiting (owner owners n)) n) (slice_index_or s.fields n [])) seen
            ∙ ap (λ l. step_after p q vs g n (inbox l n) (slice_index_or s.fields n [])) (sym (shows.waiting (owner owners n) here))
            ∙ ap (step_after p q vs g n (inbox (messages_in (batches_at old (owner owners n))) n)) (sym (shows.fields n low))

        pub take-all : TakeAll p g owners workers q c s taken
        take-all = record {
          full = λ to low. full-sized to (batches_at new to) (sized to low);
          all = λ to low number.
              of-passes to (batches_at new to) number
              ∙ came (pass_worker to number) to low
              ∙ ap (for_worker owners to)
              (flat-kept (λ n. nat_eq (owner owners n) (pass_worker to number)) (λ n. (crew_step n).state.messages) (λ n. (step p g owners workers q c s n).state.messages) 0 (node_count g)
              (λ n from under. ap (λ a. a.state.messages) (sym (step-same n (omega arith)))));
        }

        -- they show the core that the superstep's events reach
        pub show-after : (es : List Event) → Supersteps p g owners workers q c s taken es → Shows (node_count g) owners new (effects p g owners workers s es)
        show-after es by = record {
          fields = λ n low. fields-after n low ∙ ap (λ a. a.state.fields) (sym (step-same n low)) ∙ sym (by.fields n low);
          waiting = λ w low.
              sym (flat_map-map (λ (b : ℕ × Mail). let z : ℕ × List Message = (worker_pass w b.0, b.1.messages) in z) (λ (z : ℕ × List Message). z.1) (batches_at new w))
              ∙ sym (by.waiting w (omega (arith, low, worked.long, crew.count)));
        }

        pub goes-by-events : IsReady p g owners workers left q line c s → GoByEvents p g owners workers (superstep_events owners (node_count g) workers (deliveries_from 0 new)) old new s
        goes-by-events ready =
            let by : Supersteps p g owners workers q c s taken (superstep_events owners (node_count g) workers (all_deliveries taken (below workers))) =
            supersteps p g owners workers left q line c s crew.dealt.owners ready taken take-all in
            subst (λ l. GoByEvents p g owners workers (superstep_events owners (node_count g) workers l) old new s) delivered-all
            (record { legal = by.legal; show = show-after (superstep_events owners (node_count g) workers (all_deliveries taken (below workers))) by })
