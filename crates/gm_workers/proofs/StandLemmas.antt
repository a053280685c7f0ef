-- A superstep of a crew stands for the superstep of the run on one thread.
use Rattle.std.proofs.Common.{◌≡◌, ◌<◌, ◌+◌, ℕ, Bool, true, false, cond, nat_eq, Option, None, List, [], ◌∷◌, ◌++◌, length, map, refl, sym, ap, ◌∙◌, subst, arith, ⊎_elim}
use Rattle.std.specs.Prelude.{IsTrue, slice_index_or}
use Rattle.std.specs.List.{flat_map}
use Rattle.std.proofs.lemmas.Bool.{cases_eq, eq-eqb, ne_eqb}
use Rattle.std.proofs.lemmas.List.{get_or-map, length-map}
use Rattle.gm_value.specs.declared.values.Value.{Value}
use Rattle.gm_value.specs.Bag.{SameBag, same_trans}
use Rattle.gm_value.proofs.BagLaws.{SameBag-sym, SameBag-filter}
use Rattle.gm_model.specs.Graphs.{NumberedGraph, node_count}
use Rattle.gm_image.specs.Program.{Program}
use Rattle.gm_image.specs.Rows.{handled_lines}
use Rattle.gm_image.specs.Soundness.{is_sound}
use Rattle.gm_image.specs.Views.{program}
use Rattle.gm_machine.specs.declared.faults.Fault.{Fault}
use Rattle.gm_machine.specs.declared.node_steps.Duty.{Duty}
use Rattle.gm_machine.specs.Faults.{lesser, least_fault}
use Rattle.gm_machine.specs.Laws.{SameStep}
use Rattle.gm_machine.specs.Machine.{Control, Nodes, Stepped, Steps, inbox, context_at, block_at, step_of, all_steps, superstep}
use Rattle.gm_machine.specs.Taking.{Contribution, Settled, settled}
use Rattle.gm_machine.specs.Vertex.{Message, After, vertex_after}
use Rattle.gm_machine.proofs.BagLemmas.{same_as, SameBag-length, flat_map-map, map-map, enumerated}
use Rattle.gm_machine.proofs.LeastLaws.{least_right, lesser-assoc, least_from-right, least-permuted}
use Rattle.gm_machine.proofs.OrderLaws.{vertex-permuted}
use Rattle.gm_machine.proofs.SoundFolds.{reduction_in, sound-folds}
use Rattle.gm_put_totals.specs.Settling.{SettleAs}
use Rattle.gm_node_batches.specs.declared.steps.Sent.{Sent}
use Rattle.gm_posting.proofs.WorkerLemmas.{some-of}
use Rattle.gm_core.specs.declared.events.Event.{Event}
use Rattle.gm_core.specs.Cores.{Core, owner, for_worker, below, rested, effects}
use Rattle.gm_core.specs.Laws.{StandsFor}
use Rattle.gm_core.specs.Supersteps.{own, all_deliveries, superstep_events, IsReady, Supersteps}
use Rattle.gm_machine.specs.States.{next_by}
use Rattle.gm_core.proofs.SuperstepLemmas.{supersteps, supersteps-stand}
use Rattle.gm_workers.specs.declared.dealing.Dealing.{Dealing}
use Rattle.gm_workers.specs.declared.crews.Slot.{Slot}
use Rattle.gm_workers.specs.Parts.{messages_in, slot_step, places_of}
use Rattle.gm_workers.specs.Threads.{Worked}
use Rattle.gm_workers.specs.Crews.{batches_at, IsCrew, Shows, StandFor, StandForStep}
use Rattle.gm_workers.proofs.DealingLemmas.{length-below}
use Rattle.gm_workers.proofs.WorkerBags.{flat-equal, flat-bags, flat-places, dealt-bag, dealt-messages}
use Rattle.gm_workers.proofs.SettledPuts.{settle-places, settled-as}
use Rattle.gm_workers.proofs.CrewLemmas.{crew_step, worker-flat, taken, take-all, show-after}

-- the messages to a node are among those to its owner's nodes
inbox-owned : (owners : List ℕ) (w n : ℕ) → owner owners n ≡ w → (ms : List Message) → inbox (for_worker owners w ms) n ≡ inbox ms n
inbox-owned owners w n own [] = refl
inbox-owned owners w n own (m ∷ ms) =
    ⊎_elim
    (λ (here : m.to ≡ n).
    let goes : nat_eq (owner owners m.to) w ≡ true = eq-eqb (owner owners m.to) w (ap (owner owners) here ∙ own) in
    ap (λ b. inbox (cond b (m ∷ for_worker owners w ms) (for_worker owners w ms)) n) goes
    ∙ ap (λ l. cond (nat_eq m.to n) (m ∷ l) l) (inbox-owned owners w n own ms))
    (λ (elsewhere : m.to ≡ n → ⊥).
    left_out (nat_eq (owner owners m.to) w) elsewhere
    ∙ inbox-owned owners w n own ms
    ∙ sym (ap (λ b. cond b (m ∷ inbox ms n) (inbox ms n)) (ne_eqb m.to n elsewhere)))
    (cases_eq m.to n)
  where
    left_out : (b : Bool) → (m.to ≡ n → ⊥) → inbox (cond b (m ∷ for_worker owners w ms) (for_worker owners w ms)) n ≡ inbox (for_worker owners w ms) n
    left_out true away = ap (λ b. cond b (m ∷ inbox (for_worker owners w ms) n) (inbox (for_worker owners w ms) n)) (ne_eqb m.to n away)
    left_out false away = refl

-- a list as lists of one
singles : {A B : Type 0} (f : A → B) (xs : List A) → map f xs ≡ flat_map (λ x. f x ∷ []) xs
singles f [] = refl
singles f (x ∷ xs) = ap (λ l. f x ∷ l) (singles f xs)

-- the least fault of lists is the least of their least
least-append : (xs ys : List (Option Fault)) → least_right (xs ++ ys) ≡ lesser (least_right xs) (least_right ys)
least-append [] ys = refl
least-append (x ∷ xs) ys = ap (lesser x) (least-append xs ys) ∙ sym (lesser-assoc x (least_right xs) (least_right ys))

least-flat : {A : Type 0} (lists : A → List (Option Fault)) (ws : List A) → least_fault (flat_map (λ w. least_fault (lists w) ∷ []) ws) ≡ least_fault (flat_map lists ws)
least-flat {A} lists ws = least_from-right None (flat_map (λ w. least_fault (lists w) ∷ []) ws) ∙ at ws ∙ sym (least_from-right None (flat_map lists ws)) where
  at : (vs : List A) → least_right (flat_map (λ w. least_fault (lists w) ∷ []) vs) ≡ least_right (flat_map lists vs)
  at [] = refl
  at (v ∷ vs) =
      ap (λ f. lesser f (least_right (flat_map (λ w. least_fault (lists w) ∷ []) vs))) (least_from-right None (lists v))
      ∙ ap (lesser (least_right (lists v))) (at vs)
      ∙ sym (least-append (lists v) (flat_map lists vs))

module _ (p : Program) (g : NumberedGraph) (q : ℕ) (vs : List Value) (dealing : Dealing) (workers : ℕ) (old : List Slot) (crew : IsCrew (node_count g) workers dealing old)
    (sound : IsTrue (is_sound p)) (d : Nodes) (stand : StandFor (node_count g) dealing.owners.items old d) where
  abbrev owners : List ℕ
  owners = dealing.owners.items

  few : (n : ℕ) → owner owners n < workers
  few = crew.dealt.owners.each

  -- the step of a node with what its owner has, and in the machine
  abbrev crew' : ℕ → After
  crew' = crew_step p g q vs dealing workers old crew

  abbrev own_step : ℕ → After
  own_step n = step_of p g (block_at p q) vs d.sent (n, slice_index_or d.fields n [])

  same-step : (n : ℕ) → n < node_count g → SameStep (crew' n) (own_step n)
  same-step n low =
      let w : ℕ = owner owners n in
      let box : List Message = inbox (messages_in (batches_at old w)) n in
      let boxes : SameBag box (inbox d.sent n) =
      same_trans (SameBag-filter (λ m. nat_eq m.to n) (stand.waiting w (omega (arith, few n, crew.count)))) (same_as (inbox-owned owners w n refl d.sent)) in
      subst (λ fields. SameStep (vertex_after p (block_at p q) (context_at g vs n) box fields) (own_step n)) (sym (stand.fields n low))
      (vertex-permuted p (block_at p q) (context_at g vs n) box (inbox d.sent n) (slice_index_or d.fields n []) (reduction_in (handled_lines (block_at p q))) (sound-folds p sound q) boxes)

  abbrev all : List After
  all = all_steps p g (block_at p q) vs d.sent d.fields

  all-are : all ≡ map own_step (below (node_count g))
  all-are =
      ap (map (step_of p g (block_at p q) vs d.sent)) (enumerated [] d.fields 0 d.fields (λ k. ap (λ n. slice_index_or d.fields n []) (let e : 0 + k ≡ k = omega arith in e)))
      ∙ map-map (λ n. (n, slice_index_or d.fields n [])) (step_of p g (block_at p q) vs d.sent) (below (length d.fields))
      ∙ ap (λ n. map own_step (below n)) stand.long

  module _ (u : Duty) (image_is : program u.image.now ≡ p) (block_is : u.block ≡ q) (graph_is : u.graph.now ≡ g) (globals_is : u.globals.now ≡ vs) (new : List Slot) (sent : List Sent) (worked : Worked u dealing old new sent) where
    some-slot : (w : ℕ) → w < length sent → Slot
    some-slot w low = some-of old (omega (arith, low, worked.many))

    -- what all put
    abbrev put_by_all : List Contribution
    put_by_all = flat_map (λ w. flat_map (λ n. (crew' n).state.puts) (own owners w (node_count g))) (below workers)

    puts-settle : SettleAs put_by_all (flat_map (λ (s : Sent). s.puts) sent)
    puts-settle =
        subst (λ n. SettleAs (flat_map (λ w. flat_map (λ n. (crew' n).state.puts) (own owners w (node_count g))) (below n)) (flat_map (λ (s : Sent). s.puts) sent)) (worked.many ∙ crew.count)
        (settle-places (λ (s : Sent). s.puts) sent (λ w. flat_map (λ n. (crew' n).state.puts) (own owners w (node_count g)))
        (λ w s low.
        let t : Sent = slice_index_or sent w s in
        subst (λ l. SettleAs l t.puts)
        (worker-flat p g q vs dealing workers old crew u image_is block_is graph_is globals_is (λ a. a.state.puts) w (some-slot w low) (omega (arith, low, worked.many, crew.count)))
        (worked.computed w (some-slot w low) s (omega (arith, low, worked.many))).puts))

    puts-bag : SameBag put_by_all (flat_map (λ n. (own_step n).state.puts) (below (node_count g)))
    puts-bag =
        same_trans (SameBag-sym (dealt-bag owners workers few (λ n. (crew' n).state.puts) (node_count g)))
        (flat-bags (λ n. (crew' n).state.puts) (λ n. (own_step n).state.puts) 0 (node_count g) (λ n low high. (same-step n (omega arith)).puts))

    settled-same : settled (length p.places) (flat_map (λ (s : Sent). s.puts) sent) vs ≡ settled (length p.places) (flat_map (λ a. a.state.puts) all) vs
    settled-same =
        settled-as p q sound (λ n. context_at g vs n) (λ n. inbox d.sent n) (λ n. slice_index_or d.fields n []) (below (node_count g)) put_by_all (flat_map (λ (s : Sent). s.puts) sent) vs puts-bag puts-settle
        ∙ ap (λ ps. settled (length p.places) ps vs) (sym (ap (flat_map (λ a. a.state.puts)) all-are ∙ flat_map-map own_step (λ a. a.state.puts) (below (node_count g))))

    -- the least fault of all
    abbrev faults : ℕ → List (Option Fault)
    faults w = flat_map (λ n. (crew' n).fault ∷ []) (own owners w (node_count g))

    faults-are : map (λ (s : Sent). s.fault) sent ≡ flat_map (λ w. least_fault (faults w) ∷ []) (below workers)
    faults-are =
        singles (λ (s : Sent). s.fault) sent
        ∙ flat-places (λ (s : Sent). s.fault ∷ []) sent (λ w. least_fault (faults w) ∷ [])
        (λ w s low.
        let x : Slot = some-slot w low in
        let y : Slot = slice_index_or old w x in
        ap (λ f. f ∷ [])
        ((worked.computed w x s (omega (arith, low, worked.many))).fault
        ∙ ap least_fault
        (singles (λ k. (slot_step u dealing w y k).fault) (places_of y)
        ∙ worker-flat p g q vs dealing workers old crew u image_is block_is graph_is globals_is (λ a. a.fault ∷ []) w x (omega (arith, low, worked.many, crew.count)))))
        ∙ ap (λ n. flat_map (λ w. least_fault (faults w) ∷ []) (below n)) (worked.many ∙ crew.count)

    least-is : least_fault (map (λ (s : Sent). s.fault) sent) ≡ least_fault (map (λ a. a.fault) all)
    least-is =
        ap least_fault faults-are
        ∙ least-flat faults (below workers)
        ∙ sym (least-permuted (dealt-bag owners workers few (λ n. (crew' n).fault ∷ []) (node_count g)))
        ∙ ap least_fault
        (flat-equal (λ n. (crew' n).fault ∷ []) (λ n. (own_step n).fault ∷ []) 0 (node_count g) (λ n low high. ap (λ f. f ∷ []) (same-step n (omega arith)).fault)
        ∙ sym (singles (λ n. (own_step n).fault) (below (node_count g)))
        ∙ sym (map-map own_step (λ a. a.fault) (below (node_count g)))
        ∙ sym (ap (map (λ a. a.fault)) all-are))

    -- by way of a core that the workers show
    abbrev c : Control
    c = record { globals = vs; turns = 0 }

    abbrev s : Core
    s = rested p g owners workers (Steps 0 q 0 c) d.fields (λ w. messages_in (batches_at old w)) d.supersteps d.messages

    abbrev es : List Event
    es = superstep_events owners (node_count g) workers (all_deliveries (taken p g q vs dealing workers old crew u image_is block_is graph_is globals_is new sent worked) (below workers))

    abbrev t : Stepped
    t = superstep p g q vs d

    stand-after : StandFor (node_count g) owners new t.nodes
    stand-after =
        let shows : Shows (node_count g) owners old s = record { fields = stand.fields; waiting = λ w low. refl } in
        let stands : StandsFor p g owners workers s (record { next = Steps 0 q 0 c; nodes = d }) = record {
          next = refl;
          fields = refl;
          supersteps = refl;
          messages = refl;
          waiting = λ w low. stand.waiting w (omega (arith, low, crew.count));
          rests = refl;
        } in
        let ready : IsReady p g owners workers 0 q 0 c s = record { next = refl; rests = refl; long = stand.long } in
        let passes = taken p g q vs dealing workers old crew u image_is block_is graph_is globals_is new sent worked in
        let take = take-all p g q vs dealing workers old crew u image_is block_is graph_is globals_is new sent worked 0 0 c s refl shows in
        let by : Supersteps p g owners workers q c s passes es = supersteps p g owners workers 0 q 0 c s crew.dealt.owners ready passes take in
        let after : StandsFor p g owners workers (effects p g owners workers s es) (next_by p g (Steps 0 q 0 c) d) =
        supersteps-stand p g owners workers 0 q 0 c s d passes sound crew.dealt.owners stand.long stands take in
        let now : Shows (node_count g) owners new (effects p g owners workers s es) =
        show-after p g q vs dealing workers old crew u image_is block_is graph_is globals_is new sent worked 0 0 c s refl shows es by in
        record {
          long = length-map all (λ a. a.state.fields) ∙ ap length all-are ∙ length-map (below (node_count g)) own_step ∙ length-below (node_count g);
          fields = λ n low. now.fields n low ∙ ap (λ fs. slice_index_or fs n []) after.fields;
          waiting = λ w low. subst (λ l. SameBag l (for_worker owners w t.nodes.sent)) (sym (now.waiting w low)) (after.waiting w (omega (arith, low, worked.long, crew.count)));
        }

    count-is : length (flat_map (λ (x : Slot). messages_in x.waiting.items) new) ≡ length t.nodes.sent
    count-is =
        ap length (flat-places (λ (x : Slot). messages_in x.waiting.items) new (λ w. messages_in (batches_at new w)) (λ w x low. ap messages_in (sym (get_or-map (λ (z : Slot). z.waiting.items) new w x [] low))))
        ∙ ap (λ n. length (flat_map (λ w. messages_in (batches_at new w)) (below n))) (worked.long ∙ crew.count)
        ∙ SameBag-length (same_trans
        (flat-bags (λ w. messages_in (batches_at new w)) (λ w. for_worker owners w t.nodes.sent) 0 workers (λ w low high. stand-after.waiting w (omega (arith, high, worked.long, crew.count))))
        (SameBag-sym (dealt-messages owners workers few (λ (m : Message). m.to) t.nodes.sent)))

    pub stands-for-step : (puts : List Contribution) (least put fault : Option Fault) (globals : List Value) (messages : ℕ) → puts ≡ flat_map (λ (s : Sent). s.puts) sent → least ≡ least_fault (map (λ (s : Sent). s.fault) sent)
        → (let r : Settled = record { values = globals; fault = put } in r ≡ settled (length p.places) puts vs) → messages ≡ length (flat_map (λ (x : Slot). messages_in x.waiting.items) new) → fault ≡ lesser least put
        → StandForStep (node_count g) owners new globals messages fault t
    stands-for-step puts least put fault globals messages puts_are least_are put_is counted fault_is =
        let taken_is = put_is ∙ ap (λ ps. settled (length p.places) ps vs) puts_are ∙ settled-same in
        record {
          stand = stand-after;
          globals_are = ap (λ (r : Settled). r.values) taken_is;
          messages_are = counted ∙ count-is;
          fault_is = fault_is ∙ ap (λ f. lesser f put) (least_are ∙ least-is) ∙ ap (λ (r : Settled). lesser (least_fault (map (λ a. a.fault) all)) r.fault) taken_is;
        }
