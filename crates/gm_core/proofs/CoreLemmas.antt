-- Events between two releases, and a release.
use Rattle.std.proofs.Common.{◌≡◌, ◌≢◌, ◌<◌, ◌≤◌, ◌+◌, ℕ, Bool, true, false, cond, nat_eq, Option, None, List, [], ◌∷◌, ◌++◌, length, map, take, drop, refl, sym, ap, ◌∙◌, subst, arith, append_assoc, length-append, ⊎_elim}
use Rattle.std.specs.Prelude.{filter, slice_index_or, slice_set, IsTrue}
use Rattle.std.specs.List.{flat_map, range_with_len}
use Rattle.std.proofs.lemmas.Bool.{cases_eq, eq-eqb, ne_eqb, true≢false}
use Rattle.std.proofs.lemmas.List.{append-nil, get_or-set_same, get_or-set_other, length-set, take-append-drop}
use Rattle.std.proofs.lemmas.List.Elements.{filter-append}
use Rattle.std.proofs.lemmas.List.FromFn.{fill_by_all}
use Rattle.gm_value.specs.Bag.{SameBag, same_nil, same_cons, same_trans}
use Rattle.gm_value.proofs.BagLaws.{SameBag-sym, SameBag-last, SameBag-append_left, SameBag-filter, SameBag-map}
use Rattle.gm_model.specs.Graphs.{NumberedGraph, node_count}
use Rattle.gm_image.specs.Program.{Program}
use Rattle.gm_image.specs.Rows.{handled_lines}
use Rattle.gm_image.specs.Soundness.{is_sound}
use Rattle.gm_machine.specs.declared.faults.Fault.{Fault}
use Rattle.gm_machine.specs.Taking.{Contribution}
use Rattle.gm_machine.specs.Faults.{lesser, least_from, least_fault}
use Rattle.gm_machine.specs.Taking.{settled, Settled}
use Rattle.gm_machine.specs.Laws.{SameStep}
use Rattle.gm_machine.specs.Vertex.{Message, After, vertex_after}
use Rattle.gm_machine.specs.Machine.{Control, Nodes, Pause, Steps, context_at, inbox, block_at, step_of, all_steps}
use Rattle.gm_machine.proofs.LeastLaws.{least-permuted}
use Rattle.gm_machine.proofs.OrderLaws.{vertex-permuted}
use Rattle.gm_machine.proofs.SoundFolds.{reduction_in, sound-folds}
use Rattle.gm_machine.specs.States.{pause_after, next_by}
use Rattle.gm_core.specs.Mails.{Mail, with_at, delivered}
use Rattle.gm_core.specs.Cores.{Core, owner, for_worker, is_in, below, sends, rested, node_step, computes, releases}
use Rattle.gm_core.specs.Laws.{AreOwners, StandsFor}
use Rattle.gm_core.proofs.MailLemmas.{with-same, with-other}
use Rattle.gm_machine.proofs.SoundPuts.{steps-settle}
use Rattle.gm_machine.proofs.BagLemmas.{same_as, SameBag-length, SameBag-both, flat_map-permuted, flat_map-push, flat_map-map, map-map, map-push, flat-loses, flat-gains, flat-none, enumerated}
use Rattle.gm_core.proofs.NodeLists.{in-push_same, in-push_other, filter-none, filter-all, filter-gains}

-- the messages to a node are among those to its owner's nodes
inbox-owned : (owners : List ℕ) (w n : ℕ) → owner owners n ≡ w → (ms : List Message) → inbox (for_worker owners w ms) n ≡ inbox ms n
inbox-owned owners w n own [] = refl
inbox-owned owners w n own (m ∷ ms) =
    ⊎_elim
    (λ (here : m.to ≡ n).
    let goes : nat_eq (owner owners m.to) w ≡ true = eq-eqb (owner owners m.to) w (ap (owner owners) here ∙ own) in
    ap (λ b. inbox (cond b (m ∷ for_worker owners w ms) (for_worker owners w ms)) n) goes
    ∙ ap (λ l. cond (nat_eq m.to n) (m ∷ l) l) (inbox-owned owners w n own ms))
    (λ (elsewhere : m.to ≡ n → ⊥).
    left_out (nat_eq (owner owners m.to) w) elsewhere
    ∙ inbox-owned owners w n own ms
    ∙ sym (ap (λ b. cond b (m ∷ inbox ms n) (inbox ms n)) (ne_eqb m.to n elsewhere)))
    (cases_eq m.to n)
  where
    left_out : (b : Bool) → (m.to ≡ n → ⊥) → inbox (cond b (m ∷ for_worker owners w ms) (for_worker owners w ms)) n ≡ inbox (for_worker owners w ms) n
    left_out true away = ap (λ b. cond b (m ∷ inbox (for_worker owners w ms) n) (inbox (for_worker owners w ms) n)) (ne_eqb m.to n away)
    left_out false away = refl

least-push : (f : Option Fault) (fs : List (Option Fault)) (h : Option Fault) → least_from f (fs ++ h ∷ []) ≡ lesser (least_from f fs) h
least-push f [] h = refl
least-push f (g ∷ fs) h = least-push (lesser f g) fs h

module _ (p : Program) (g : NumberedGraph) (owners : List ℕ) (workers : ℕ) (left q line : ℕ) (c : Control) (d : Nodes) where
  -- the step of a node in the machine
  abbrev pub own_step : ℕ → After
  own_step n = step_of p g (block_at p q) c.globals d.sent (n, slice_index_or d.fields n [])

  abbrev pub own_puts : List ℕ → List Contribution
  own_puts ns = flat_map (λ n. (own_step n).state.puts) ns

  abbrev pub own_messages : List ℕ → List Message
  own_messages ns = flat_map (λ n. (own_step n).state.messages) ns

  abbrev pub own_faults : List ℕ → List (Option Fault)
  own_faults ns = map (λ n. (own_step n).fault) ns

  -- a core in the midst of the machine's superstep from these nodes
  pub record Within (s : Core) : Type 0 where
    pub next : s.next ≡ Steps left q line c
    pub supersteps : s.supersteps ≡ d.supersteps
    pub messages : s.messages ≡ d.messages
    pub waiting : (w : ℕ) → w < workers → SameBag (s.waiting w) (for_worker owners w d.sent)
    pub long : length s.fields ≡ length d.fields
    pub new : (n : ℕ) → is_in n s.computed ≡ true → slice_index_or s.fields n [] ≡ (own_step n).state.fields
    pub old : (n : ℕ) → is_in n s.computed ≡ false → slice_index_or s.fields n [] ≡ slice_index_or d.fields n []
    pub once : SameBag s.computed (filter (λ n. is_in n s.computed) (below (node_count g)))
    pub puts : SameBag s.puts (own_puts s.computed)
    pub fault : s.fault ≡ least_fault (own_faults s.computed)
    pub sent : s.sent ≡ length (own_messages s.computed)
    pub mail : (to : ℕ) → to < workers → SameBag (s.mail.incoming to ++ flat_map (λ f. s.mail.unsent f to) (below workers)) (for_worker owners to (own_messages s.computed))
    pub all_computed : (w : ℕ) → s.arrived w ≡ true → (n : ℕ) → n < node_count g → owner owners n ≡ w → is_in n s.computed ≡ true
    pub all_delivered : (w : ℕ) → s.arrived w ≡ true → (to : ℕ) → to < workers → s.mail.unsent w to ≡ []

  -- a core that rests begins
  pub begins : (s : Core) → StandsFor p g owners workers s (record { next = Steps left q line c; nodes = d }) → Within s
  begins s stands =
      let r : Core = rested p g owners workers s.next s.fields s.waiting s.supersteps s.messages in
      let begun : Within r = record {
        next = stands.next;
        supersteps = stands.supersteps;
        messages = stands.messages;
        waiting = stands.waiting;
        long = ap length stands.fields;
        new = λ n is. absurd (true≢false (sym is));
        old = λ n is. ap (λ l. slice_index_or l n []) stands.fields;
        once = same_as (sym (filter-none (λ n. is_in n []) (below (node_count g)) (λ n. refl)));
        puts = same_nil;
        fault = refl;
        sent = refl;
        mail = λ to in_range. same_as (flat-none (λ f. []) 0 workers (λ f low high. refl));
        all_computed = λ w is. absurd (true≢false (sym is));
        all_delivered = λ w is. absurd (true≢false (sym is));
      } in
      subst Within (sym stands.rests) begun

  module _ (sound : IsTrue (is_sound p)) (s : Core) (now : Within s) where
    -- a node computes what it computes in the machine
    step-same : (w n : ℕ) → w < workers → owner owners n ≡ w → is_in n s.computed ≡ false → SameStep (node_step p g owners workers q c s w n) (own_step n)
    step-same w n some own not_yet =
        let boxes : SameBag (inbox (s.waiting w) n) (inbox d.sent n) =
        same_trans (SameBag-filter (λ m. nat_eq m.to n) (now.waiting w some)) (same_as (inbox-owned owners w n own d.sent)) in
        subst (λ fields. SameStep (vertex_after p (block_at p q) (context_at g c.globals n) (inbox (s.waiting w) n) fields) (own_step n))
        (sym (now.old n not_yet))
        (vertex-permuted p (block_at p q) (context_at g c.globals n) (inbox (s.waiting w) n) (inbox d.sent n) (slice_index_or d.fields n [])
        (reduction_in (handled_lines (block_at p q))) (sound-folds p sound q) boxes)

    pub compute-kept : (w n : ℕ) → w < workers → n < node_count g → owner owners n ≡ w → is_in n s.computed ≡ false → length d.fields ≡ node_count g →
        Within (computes p g owners workers q c w n s)
    compute-kept w n some here own not_yet full =
        let a : After = node_step p g owners workers q c s w n in
        let same : SameStep a (own_step n) = step-same w n some own not_yet in
        let within : n < length s.fields = omega (arith, now.long, full, here) in
        record {
          next = now.next;
          supersteps = now.supersteps;
          messages = now.messages;
          waiting = now.waiting;
          long = length-set s.fields n a.state.fields ∙ now.long;
          new = λ m is.
              ⊎_elim
              (λ (at : m ≡ n).
              ap (λ k. slice_index_or (slice_set s.fields n a.state.fields) k []) at
              ∙ get_or-set_same s.fields n a.state.fields [] within
              ∙ same.fields
              ∙ ap (λ k. (own_step k).state.fields) (sym at))
              (λ (other : m ≡ n → ⊥).
              get_or-set_other s.fields n m a.state.fields [] other
              ∙ now.new m (sym (in-push_other m n s.computed other) ∙ is))
              (cases_eq m n);
          old = λ m is.
              ⊎_elim
              (λ (at : m ≡ n). absurd (true≢false (sym (ap (λ k. is_in k (s.computed ++ n ∷ [])) at ∙ in-push_same n s.computed) ∙ is)))
              (λ (other : m ≡ n → ⊥).
              get_or-set_other s.fields n m a.state.fields [] other
              ∙ now.old m (sym (in-push_other m n s.computed other) ∙ is))
              (cases_eq m n);
          once =
              same_trans
              (SameBag-last s.computed n)
              (same_trans
              (same_cons n now.once)
              (filter-gains (λ m. is_in m s.computed) (λ m. is_in m (s.computed ++ n ∷ [])) n 0 (node_count g) not_yet (in-push_same n s.computed) (λ m other. in-push_other m n s.computed other) (omega arith) (omega (arith, here))));
          puts =
              same_trans
              (SameBag-both now.puts same.puts)
              (same_as (sym (flat_map-push (λ k. (own_step k).state.puts) s.computed n)));
          fault =
              ap (λ f. lesser f a.fault) now.fault
              ∙ ap (λ f. lesser (least_fault (own_faults s.computed)) f) same.fault
              ∙ sym (ap least_fault (map-push (λ k. (own_step k).fault) s.computed n) ∙ least-push None (own_faults s.computed) (own_step n).fault);
          sent =
              ap (λ k. k + length a.state.messages) now.sent
              ∙ ap (λ k. length (own_messages s.computed) + k) (SameBag-length same.messages)
              ∙ sym (ap length (flat_map-push (λ k. (own_step k).state.messages) s.computed n) ∙ length-append (own_messages s.computed) (own_step n).state.messages);
          mail = λ to in_range.
              let u : ℕ → List Message = λ f. s.mail.unsent f to in
              let u' : ℕ → List Message = λ f. (sends owners w a.state.messages s.mail).unsent f to in
              let own_row : u' w ≡ u w ++ for_worker owners to a.state.messages = ap (λ row. row to) (with-same s.mail.unsent w (λ t. s.mail.unsent w t ++ for_worker owners t a.state.messages)) in
              let other_rows : (f : ℕ) → f ≢ w → u' f ≡ u f = λ f other. ap (λ row. row to) (with-other s.mail.unsent w (λ t. s.mail.unsent w t ++ for_worker owners t a.state.messages) f other) in
              same_trans
              (SameBag-append_left (s.mail.incoming to) (SameBag-sym (flat-gains u u' w other_rows (for_worker owners to a.state.messages) 0 workers own_row (omega arith) (omega (arith, some)))))
              (same_trans
              (same_as (sym (append_assoc (s.mail.incoming to) (flat_map u (below workers)) (for_worker owners to a.state.messages))))
              (same_trans
              (SameBag-both (now.mail to in_range) (SameBag-filter (λ m. nat_eq (owner owners m.to) to) same.messages))
              (same_as (sym (
              ap (for_worker owners to) (flat_map-push (λ k. (own_step k).state.messages) s.computed n)
              ∙ filter-append (λ m. nat_eq (owner owners m.to) to) (own_messages s.computed) (own_step n).state.messages)))));
          all_computed = λ v has m in_range owned.
              ⊎_elim
              (λ (at : m ≡ n). ap (λ k. is_in k (s.computed ++ n ∷ [])) at ∙ in-push_same n s.computed)
              (λ (other : m ≡ n → ⊥). in-push_other m n s.computed other ∙ now.all_computed v has m in_range owned)
              (cases_eq m n);
          all_delivered = λ v has to in_range.
              ⊎_elim
              (λ (at : v ≡ w). absurd (true≢false (sym (now.all_computed v has n here (own ∙ sym at)) ∙ not_yet)))
              (λ (other : v ≡ w → ⊥).
              ap (λ row. row to) (with-other s.mail.unsent w (λ t. s.mail.unsent w t ++ for_worker owners t a.state.messages) v other) ∙ now.all_delivered v has to in_range)
              (cases_eq v w);
        }

    pub deliver-kept : (from to count : ℕ) → from < workers → to < workers → 1 ≤ count → count ≤ length (s.mail.unsent from to) →
        Within (record s { mail = delivered from to count s.mail })
    deliver-kept from to count from_some to_some some fits =
        let m : Mail Message = s.mail in
        let row : ℕ → List Message = with_at (m.unsent from) to (drop count (m.unsent from to)) in
        let not_arrived : (v : ℕ) → s.arrived v ≡ true → v ≢ from = λ v has is.
        (let none : length (m.unsent from to) ≡ 0 = ap (λ k. length (m.unsent k to)) (sym is) ∙ ap length (now.all_delivered v has to to_some) in
        absurd (omega (arith, none, some, fits))) in
        record {
          next = now.next;
          supersteps = now.supersteps;
          messages = now.messages;
          waiting = now.waiting;
          long = now.long;
          new = now.new;
          old = now.old;
          once = now.once;
          puts = now.puts;
          fault = now.fault;
          sent = now.sent;
          mail = λ t in_range.
              ⊎_elim
              (λ (at : t ≡ to).
              let P : ℕ → Type 0 = λ k. SameBag ((delivered from to count m).incoming k ++ flat_map (λ f. (delivered from to count m).unsent f k) (below workers)) (for_worker owners k (own_messages s.computed)) in
              let u : ℕ → List Message = λ f. m.unsent f to in
              let u' : ℕ → List Message = λ f. (delivered from to count m).unsent f to in
              let here : u' from ≡ drop count (m.unsent from to) = ap (λ r. r to) (with-same m.unsent from row) ∙ with-same (m.unsent from) to (drop count (m.unsent from to)) in
              let others : (f : ℕ) → f ≢ from → u' f ≡ u f = λ f other. ap (λ r. r to) (with-other m.unsent from row f other) in
              let whole : take count (m.unsent from to) ++ u' from ≡ u from = ap (λ l. take count (m.unsent from to) ++ l) here ∙ take-append-drop count (m.unsent from to) in
              let moved : P to =
              same_trans
              (same_as (ap (λ l. l ++ flat_map u' (below workers)) (with-same m.incoming to (m.incoming to ++ take count (m.unsent from to))) ∙ append_assoc (m.incoming to) (take count (m.unsent from to)) (flat_map u' (below workers))))
              (same_trans
              (SameBag-append_left (m.incoming to) (flat-loses u u' from others (take count (m.unsent from to)) 0 workers whole (omega arith) (omega (arith, from_some))))
              (now.mail to to_some)) in
              subst P (sym at) moved)
              (λ (other : t ≡ to → ⊥).
              let kept : (f : ℕ) → (delivered from to count m).unsent f t ≡ m.unsent f t = λ f.
              ⊎_elim
              (λ (at : f ≡ from).
              ap (λ k. (delivered from to count m).unsent k t) at
              ∙ ap (λ r. r t) (with-same m.unsent from row)
              ∙ with-other (m.unsent from) to (drop count (m.unsent from to)) t other
              ∙ ap (λ k. m.unsent k t) (sym at))
              (λ (away : f ≡ from → ⊥). ap (λ r. r t) (with-other m.unsent from row f away))
              (cases_eq f from) in
              same_trans
              (same_as (
              ap (λ l. l ++ flat_map (λ f. (delivered from to count m).unsent f t) (below workers)) (with-other m.incoming to (m.incoming to ++ take count (m.unsent from to)) t other)
              ∙ ap (λ v. m.incoming t ++ flat_map v (below workers)) (λ i f. kept f i)))
              (now.mail t in_range))
              (cases_eq t to);
          all_computed = now.all_computed;
          all_delivered = λ v has t in_range. ap (λ r. r t) (with-other m.unsent from row v (not_arrived v has)) ∙ now.all_delivered v has t in_range;
        }

    pub arrive-kept : (w : ℕ) → ((n : ℕ) → n < node_count g → owner owners n ≡ w → is_in n s.computed ≡ true) → ((to : ℕ) → to < workers → s.mail.unsent w to ≡ []) →
        Within (record s { arrived = with_at s.arrived w true })
    arrive-kept w computed_all delivered_all = record {
      next = now.next;
      supersteps = now.supersteps;
      messages = now.messages;
      waiting = now.waiting;
      long = now.long;
      new = now.new;
      old = now.old;
      once = now.once;
      puts = now.puts;
      fault = now.fault;
      sent = now.sent;
      mail = now.mail;
      all_computed = λ v has.
          ⊎_elim
          (λ (at : v ≡ w). λ n in_range owned. computed_all n in_range (owned ∙ at))
          (λ (other : v ≡ w → ⊥). now.all_computed v (sym (with-other s.arrived w true v other) ∙ has))
          (cases_eq v w);
      all_delivered = λ v has.
          ⊎_elim
          (λ (at : v ≡ w). λ to in_range. ap (λ k. s.mail.unsent k to) at ∙ delivered_all to in_range)
          (λ (other : v ≡ w → ⊥). now.all_delivered v (sym (with-other s.arrived w true v other) ∙ has))
          (cases_eq v w);
    }

    -- where all have arrived, a release comes to the machine's next state
    pub release-stands : AreOwners owners (node_count g) workers → ((w : ℕ) → w < workers → s.arrived w ≡ true) → length d.fields ≡ node_count g →
        StandsFor p g owners workers (releases p g owners workers left line c s) (next_by p g (Steps left q line c) d)
    release-stands dealt arrived full =
        let nodes : List ℕ = below (node_count g) in
        let done : (n : ℕ) → n < node_count g → is_in n s.computed ≡ true = λ n in_range. now.all_computed (owner owners n) (arrived (owner owners n) (dealt.each n)) n in_range refl in
        let all : SameBag s.computed nodes = same_trans now.once (same_as (filter-all (λ n. is_in n s.computed) 0 (node_count g) (λ n low high. done n (omega (arith, high))))) in
        let steps : all_steps p g (block_at p q) c.globals d.sent d.fields ≡ map own_step nodes =
        ap (map (step_of p g (block_at p q) c.globals d.sent)) (enumerated [] d.fields 0 d.fields (λ k. ap (λ n. slice_index_or d.fields n []) (let e : 0 + k ≡ k = omega arith in e)))
        ∙ map-map (λ n. (n, slice_index_or d.fields n [])) (step_of p g (block_at p q) c.globals d.sent) (range_with_len 0 (length d.fields))
        ∙ ap (λ k. map own_step (range_with_len 0 k)) full in
        let messages : flat_map (λ a. a.state.messages) (all_steps p g (block_at p q) c.globals d.sent d.fields) ≡ own_messages nodes =
        ap (flat_map (λ a. a.state.messages)) steps ∙ flat_map-map own_step (λ a. a.state.messages) nodes in
        let puts : flat_map (λ a. a.state.puts) (all_steps p g (block_at p q) c.globals d.sent d.fields) ≡ own_puts nodes =
        ap (flat_map (λ a. a.state.puts)) steps ∙ flat_map-map own_step (λ a. a.state.puts) nodes in
        let faults : least_fault (map (λ a. a.fault) (all_steps p g (block_at p q) c.globals d.sent d.fields)) ≡ least_fault (own_faults nodes) =
        ap least_fault (ap (map (λ a. a.fault)) steps ∙ map-map own_step (λ a. a.fault) nodes) in
        let put : settled (length p.places) s.puts c.globals ≡ settled (length p.places) (flat_map (λ a. a.state.puts) (all_steps p g (block_at p q) c.globals d.sent d.fields)) c.globals =
        steps-settle p q sound (context_at g c.globals) (inbox d.sent) (λ n. slice_index_or d.fields n []) nodes s.puts c.globals (same_trans now.puts (flat_map-permuted (λ n. (own_step n).state.puts) all)) ∙ ap (λ ps. settled (length p.places) ps c.globals) (sym puts) in
        let fault : s.fault ≡ least_fault (map (λ a. a.fault) (all_steps p g (block_at p q) c.globals d.sent d.fields)) =
        now.fault ∙ least-permuted (SameBag-map (λ n. (own_step n).fault) all) ∙ sym faults in
        let paused : Settled → Option Fault → Pause = λ t f. pause_after p g left line (record c { globals = t.values }) (lesser f t.fault) in
        let count : s.sent ≡ length (flat_map (λ a. a.state.messages) (all_steps p g (block_at p q) c.globals d.sent d.fields)) =
        now.sent ∙ SameBag-length (flat_map-permuted (λ n. (own_step n).state.messages) all) ∙ ap length (sym messages) in
        record {
          next =
              ap (λ t. paused t s.fault) put
              ∙ ap (paused (settled (length p.places) (flat_map (λ a. a.state.puts) (all_steps p g (block_at p q) c.globals d.sent d.fields)) c.globals)) fault;
          fields =
              fill_by_all (λ n. (own_step n).state.fields) s.fields (node_count g) [] (now.long ∙ full) (λ n h. now.new n (done n h))
              ∙ sym (ap (map (λ a. a.state.fields)) steps ∙ map-map own_step (λ a. a.state.fields) nodes);
          supersteps = ap (λ k. k + 1) now.supersteps;
          messages = ap (λ k. k + s.sent) now.messages ∙ ap (λ k. d.messages + k) count;
          waiting = λ w some.
              let none : flat_map (λ f. s.mail.unsent f w) (below workers) ≡ [] = flat-none (λ f. s.mail.unsent f w) 0 workers (λ f low high. now.all_delivered f (arrived f (omega (arith, high))) w some) in
              same_trans
              (same_as (sym (append-nil (s.mail.incoming w)) ∙ ap (λ l. s.mail.incoming w ++ l) (sym none)))
              (same_trans
              (now.mail w some)
              (same_trans
              (SameBag-filter (λ m. nat_eq (owner owners m.to) w) (flat_map-permuted (λ n. (own_step n).state.messages) all))
              (same_as (ap (for_worker owners w) (sym messages)))));
          rests = refl;
        }
