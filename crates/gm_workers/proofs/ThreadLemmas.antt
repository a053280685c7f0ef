-- The workers of a superstep.
use Rattle.std.proofs.Common.{◌≡◌, ◌<◌, ◌+◌, ℕ, List, [], ◌∷◌, ◌++◌, All, length, map, drop, set, refl, sym, ap, ◌∙◌, subst, arith, append_assoc, ⊎_elim}
use Rattle.std.specs.Prelude.{slice_index, slice_index_or, Vec}
use Rattle.std.specs.List.{flat_map}
use Rattle.std.specs.declared.alloc.Global.{Global}
use Rattle.std.proofs.lemmas.Bool.{cases_eq}
use Rattle.std.proofs.lemmas.List.{get_or-set_same, get_or-set_other, length-set, length-map, map-append, append-nil, get_or-map, get_or_past, get_or_default}
use Rattle.gm_base.specs.Merge.{of}
use Rattle.gm_model.specs.Graphs.{HasNode}
use Rattle.gm_machine.specs.declared.node_steps.Duty.{Duty}
use Rattle.gm_node_batches.specs.declared.steps.Sent.{Sent}
use Rattle.gm_machine.specs.Duties.{IsDuty}
use Rattle.gm_mailbox.specs.Sender.{MailboxId}
use Rattle.gm_posting.specs.Traffic.{Traffic, unused, AreOpen, AreWorkers, ArriveAll, sent_to, taken_by}
use Rattle.gm_posting.specs.Gathering.{sent_by_worker, AreSized}
use Rattle.gm_posting.proofs.WorkerLemmas.{some-of, next-within, next-is, index-none}
use Rattle.gm_core.specs.Cores.{owner}
use Rattle.gm_workers.specs.declared.dealing.Dealing.{Dealing}
use Rattle.gm_workers.specs.Parts.{items_of, slot_step, places_of, PutsStand, IsReady, Did}
use Rattle.gm_workers.specs.declared.mail.Mail.{Mail}
use Rattle.gm_workers.specs.declared.crews.Slot.{Slot}
use Rattle.gm_workers.specs.Threads.{Shares, CanWork, WaitsMore, AddsLate, Worked}

pub adds-none : (late : List (Vec (ℕ × Mail) Global)) (old : List Slot) → AddsLate 0 late old old
adds-none late old = record { long = refl; each = λ w x d low here. absurd (omega arith); others = λ w x low. refl }

pub adds-one : (k : ℕ) (late : List (Vec (ℕ × Mail) Global)) (old now : List Slot) (x x' : Slot) (batches : Vec (ℕ × Mail) Global) (rest : List (Vec (ℕ × Mail) Global)) → k < length now → drop k late ≡ batches ∷ rest →
    AddsLate k late old now → WaitsMore (slice_index_or now k x) x' batches.items → AddsLate (k + 1) late old (set now k x')
adds-one k late old now x x' batches rest low e added more = record {
  long = length-set now k x' ∙ added.long;
  each = λ w y d under here.
      ⊎_elim
      (λ (own : w ≡ k).
      let new_is : slice_index_or (set now k x') w y ≡ x' = ap (λ n. slice_index_or (set now k x') n y) own ∙ get_or-set_same now k x' y low in
      let old_is : slice_index_or now k x ≡ slice_index_or old w y = get_or_default now k x y low ∙ added.others k y (omega arith) ∙ ap (λ n. slice_index_or old n y) (sym own) in
      let there : k < length late = next-within k late batches rest e in
      let late_is : batches ≡ slice_index_or late w d = sym (next-is k late batches rest e) ∙ get_or_default late k batches d there ∙ ap (λ n. slice_index_or late n d) (sym own) in
      subst (λ z. WaitsMore (slice_index_or old w y) z (slice_index_or late w d).items) (sym new_is)
      (subst (λ z. WaitsMore z x' (slice_index_or late w d).items) old_is
      (subst (λ (z : Vec (ℕ × Mail) Global). WaitsMore (slice_index_or now k x) x' z.items) late_is more)))
      (λ (other : w ≡ k → ⊥).
      subst (λ z. WaitsMore (slice_index_or old w y) z (slice_index_or late w d).items) (sym (get_or-set_other now k w x' y other)) (added.each w y d (omega arith) here))
      (cases_eq w k);
  others = λ w y above. get_or-set_other now k w x' y (λ e. omega arith) ∙ added.others w y (omega arith);
}

-- one more of a list that is walked has its counterpart
pub pushed : {A B : Type 0} (f : A → B) (ts ts' : List A) (x : A) (own : B) (rest more all : List B) → ts' ≡ ts ++ x ∷ [] → f x ≡ own → more ≡ own ∷ rest → map f ts ++ more ≡ all → map f ts' ++ rest ≡ all
pushed f ts ts' x own rest more all grown is e before =
    ap (λ l. map f l ++ rest) grown
    ∙ ap (λ l. l ++ rest) (map-append f ts (x ∷ []))
    ∙ append_assoc (map f ts) (f x ∷ []) rest
    ∙ ap (λ y. map f ts ++ y ∷ rest) is
    ∙ ap (λ l. map f ts ++ l) (sym e)
    ∙ before

-- workers by what each has
module _ {A : Type 0} (slot : A → Slot) (posts : A → Traffic Mail) (sent : A → Sent) (duty : A → Duty) (dealt : A → Dealing) (boxes : A → List MailboxId)
    (d : Duty) (dealing : Dealing) (ids : List MailboxId) (old : List Slot) (opened : List (Traffic Mail)) (ts : List A)
    (are_open : AreOpen (length old) ids opened) (slots_are : map slot ts ≡ old) (posts_are : map posts ts ≡ opened)
    (shared : All (λ t. Shares d dealing ids (duty t) (dealt t) (boxes t) (sent t)) ts) where
  long : length ts ≡ length old
  long = sym (length-map ts slot) ∙ ap length slots_are

  slot-at : (k : ℕ) (a : A) (x : Slot) → k < length ts → slice_index_or old k x ≡ slot (slice_index_or ts k a)
  slot-at k a x low = ap (λ l. slice_index_or l k x) (sym slots_are) ∙ get_or-map slot ts k a x low

  posts-at : (k : ℕ) (a : A) → k < length ts → posts (slice_index_or ts k a) ≡ unused ids k
  posts-at k a low =
      sym (get_or-map posts ts k a (unused ids k) low) ∙ ap (λ l. slice_index_or l k (unused ids k)) posts_are ∙ are_open.none_used k (unused ids k) (omega (arith, low, long))

  pub all-ready : IsDuty d → CanWork d dealing old → All (λ t. IsReady (duty t) (dealt t) (boxes t) (slot t) (posts t) (sent t)) ts
  all-ready is can = λ k a low.
      let t : A = slice_index_or ts k a in
      let share = shared k a low in
      let here : k < length old = omega (arith, low, long) in
      let slot_is : slice_index_or old k (slot a) ≡ slot t = slot-at k a (slot a) low in
      record {
        duty = subst IsDuty (sym share.duty) is;
        nodes = λ place under.
            subst (λ (e : Duty). HasNode e.graph.now (slice_index (slot t).nodes.items place)) (sym share.duty)
            (subst (λ (x : Slot). HasNode d.graph.now (slice_index x.nodes.items place)) slot_is
            (can.nodes k place (slot a) here (subst (λ (x : Slot). place < length x.nodes.items) (sym slot_is) under)));
        fields = subst (λ (x : Slot). length x.fields.rows ≡ length x.nodes.items) slot_is (can.fields k (slot a) here);
        mailboxes = ap (λ (p : Traffic Mail). p.mailboxes) (posts-at k a low) ∙ sym share.mailboxes;
        owned = λ n.
            subst (λ (e : Dealing). owner e.owners.items n < length (boxes t)) (sym share.dealing_is)
            (subst (λ (l : List MailboxId). owner dealing.owners.items n < length l) (sym share.mailboxes) (omega (arith, can.owned n, are_open.count_is)));
        messages = share.messages;
        puts = share.puts;
        fault = share.fault;
      }

  module _ (ts' : List A) (kept : length ts' ≡ length ts)
      (done : (i : ℕ) (a : A) → i < length ts → Did (duty (slice_index_or ts i a)) (dealt (slice_index_or ts i a)) (slot (slice_index_or ts i a)) (slot (slice_index_or ts' i a)) (posts (slice_index_or ts i a)) (posts (slice_index_or ts' i a)) (sent (slice_index_or ts' i a))) where
    -- what a worker did
    did-at : (i : ℕ) (a : A) (x : Slot) → i < length ts → Did d dealing (slice_index_or old i x) (slot (slice_index_or ts' i a)) (unused ids i) (posts (slice_index_or ts' i a)) (sent (slice_index_or ts' i a))
    did-at i a x low =
        let t : A = slice_index_or ts i a in
        let t' : A = slice_index_or ts' i a in
        let share = shared i a low in
        subst (λ e. Did e dealing (slice_index_or old i x) (slot t') (unused ids i) (posts t') (sent t')) share.duty
        (subst (λ e. Did (duty t) e (slice_index_or old i x) (slot t') (unused ids i) (posts t') (sent t')) share.dealing_is
        (subst (λ y. Did (duty t) (dealt t) y (slot t') (unused ids i) (posts t') (sent t')) (sym (slot-at i a x low))
        (subst (λ p. Did (duty t) (dealt t) (slot t) (slot t') p (posts t') (sent t')) (posts-at i a low) (done i a low))))

    pub still-workers : AreWorkers ids (map posts ts')
    still-workers =
        let many : length (map posts ts') ≡ length ts' = length-map ts' posts in
        record {
          count = omega (arith, many, kept, long, are_open.count_is);
          places = λ w p low.
              let here : w < length ts = omega (arith, low, many, kept) in
              let a : A = some-of ts (omega (arith, here)) in
              ap (λ (q : Traffic Mail). q.worker) (get_or-map posts ts' w a p (omega (arith, low, many))) ∙ (did-at w a (slot a) here).worker;
          mailboxes = λ w p low.
              let here : w < length ts = omega (arith, low, many, kept) in
              let a : A = some-of ts (omega (arith, here)) in
              ap (λ (q : Traffic Mail). q.mailboxes) (get_or-map posts ts' w a p (omega (arith, low, many))) ∙ (did-at w a (slot a) here).mailboxes;
        }

    module _ (late : List (Vec (ℕ × Mail) Global)) (new : List Slot) (arrive : ArriveAll (map posts ts') late) (added : AddsLate (length (map slot ts')) late (map slot ts') new) where
      -- what waits in a slot is what its worker had taken, and then the late batches
      waits : (w : ℕ) (a : A) (x : Slot) (e : Vec (ℕ × Mail) Global) → w < length ts → WaitsMore (slot (slice_index_or ts' w a)) (slice_index_or new w x) (slice_index_or late w e).items
      waits w a x e low =
          let many : length (map slot ts') ≡ length ts' = length-map ts' slot in
          subst (λ y. WaitsMore y (slice_index_or new w x) (slice_index_or late w e).items) (get_or-map slot ts' w a x (omega (arith, low, kept)))
          (added.each w x e (omega (arith, low, kept, many)) (omega (arith, low, kept, many)))

      came-from : (from to : ℕ) (a : A) (x : Slot) → to < length ts → of (slice_index_or new to x).waiting.items from ≡ sent_to (map posts ts') to from
      came-from from to a x low =
          let e : Vec (ℕ × Mail) Global = (slice_index_or new to x).waiting in
          let w = waits to a x e low in
          let own = did-at to a x low in
          let many : length (map posts ts') ≡ length ts' = length-map ts' posts in
          let taken : taken_by (map posts ts') to ≡ (slot (slice_index_or ts' to a)).waiting.items =
          get_or-map (λ (q : Traffic Mail). q.taken) (map posts ts') to (unused ids to) [] (omega (arith, low, kept, many))
          ∙ ap (λ (q : Traffic Mail). q.taken) (get_or-map posts ts' to a (unused ids to) (omega (arith, low, kept)))
          ∙ own.taken in
          ap (λ l. of l from) (w.waiting ∙ ap (λ l. l ++ (slice_index_or late to e).items) (sym taken))
          ∙ arrive.merged to e (omega (arith, low, kept, many)) from

      sent-at : (from to : ℕ) (a : A) → from < length ts → sent_to (map posts ts') to from ≡ sent_by_worker (posts (slice_index_or ts' from a)) to
      sent-at from to a low =
          let many : length (map posts ts') ≡ length ts' = length-map ts' posts in
          get_or-map (λ (q : Traffic Mail). slice_index_or q.sent to []) (map posts ts') from (unused ids from) [] (omega (arith, low, kept, many))
          ∙ ap (λ (q : Traffic Mail). sent_by_worker q to) (get_or-map posts ts' from a (unused ids from) (omega (arith, low, kept)))

      pub worked : Worked d dealing old new (map sent ts')
      worked = record {
        long = added.long ∙ length-map ts' slot ∙ kept ∙ long;
        many = length-map ts' sent ∙ kept ∙ long;
        computed = λ w x s low.
            let here : w < length ts = omega (arith, low, long) in
            let a : A = some-of ts (omega (arith, here)) in
            let own = did-at w a x here in
            let more = waits w a x (slice_index_or new w x).waiting here in
            let sent_is : slice_index_or (map sent ts') w s ≡ sent (slice_index_or ts' w a) = get_or-map sent ts' w a s (omega (arith, here, kept)) in
            record {
              nodes = more.nodes ∙ own.nodes;
              fields = ap (λ f. f.rows) more.fields ∙ own.fields;
              puts = subst (PutsStand (slot_step d dealing w (slice_index_or old w x)) (places_of (slice_index_or old w x))) (sym sent_is) own.puts;
              fault = ap (λ (z : Sent). z.fault) sent_is ∙ own.fault;
            };
        came = λ from to x low here.
            let from_low : from < length ts = omega (arith, low, long) in
            let to_low : to < length ts = omega (arith, here, long) in
            let a : A = some-of ts (omega (arith, from_low)) in
            let own = did-at from a x from_low in
            let goes = own.sent to (omega (arith, here, are_open.count_is)) in
            let batches_are : of (slice_index_or new to x).waiting.items from ≡ goes.batches =
            came-from from to a x to_low ∙ sent-at from to a from_low ∙ goes.sent ∙ ap (λ l. l ++ goes.batches) (index-none ids to) in
            record {
              messages = ap (flat_map items_of) batches_are ∙ sym (append-nil (flat_map items_of goes.batches)) ∙ goes.whole;
              sized = subst (AreSized items_of) (sym batches_are) goes.sized;
            };
        nobody = λ from to x high here.
            let to_low : to < length ts = omega (arith, here, long) in
            let a : A = some-of ts (omega (arith, to_low)) in
            let many : length (map (λ (q : Traffic Mail). slice_index_or q.sent to []) (map posts ts')) ≡ length ts' = length-map (map posts ts') (λ (q : Traffic Mail). slice_index_or q.sent to []) ∙ length-map ts' posts in
            came-from from to a x to_low
            ∙ get_or_past (map (λ (q : Traffic Mail). slice_index_or q.sent to []) (map posts ts')) from [] (omega (arith, high, kept, long, many));
      }
