-- A worker's part, some nodes after others.
use Rattle.std.proofs.Common.{◌≡◌, ◌<◌, ◌≤◌, ◌+◌, ◌-◌, ℕ, zero, suc, nat_eq, Option, None, List, [], ◌∷◌, ◌++◌, length, map, take, drop, refl, sym, ap, ◌∙◌, subst, arith, append_assoc}
use Rattle.std.specs.Prelude.{slice_index, slice_index_or}
use Rattle.std.specs.List.{flat_map, range_with_len}
use Rattle.std.proofs.lemmas.List.{append-nil, map-append, length-map, drop_all}
use Rattle.std.proofs.lemmas.List.Concat.{flat_map-append}
use Rattle.std.proofs.lemmas.List.Elements.{filter-append}
use Rattle.gm_value.specs.declared.values.Value.{Value}
use Rattle.gm_image.specs.Views.{program}
use Rattle.gm_machine.specs.declared.faults.Fault.{Fault}
use Rattle.gm_machine.specs.declared.node_steps.Duty.{Duty}
use Rattle.gm_machine.specs.Duties.{between}
use Rattle.gm_machine.specs.Faults.{lesser, least_fault}
use Rattle.gm_machine.specs.Fields.{HeldFields}
use Rattle.gm_machine.specs.Steps.{step_after}
use Rattle.gm_machine.specs.Taking.{Contribution}
use Rattle.gm_machine.specs.Vertex.{Message, After}
use Rattle.gm_machine.proofs.LeastLaws.{lesser-assoc, least_right, least_from-right}
use Rattle.gm_put_totals.specs.Settling.{SettleAs}
use Rattle.gm_put_totals.proofs.SettlingLemmas.{settles-itself, settles-through, settles-together}
use Rattle.gm_node_batches.specs.declared.steps.Sent.{Sent}
use Rattle.gm_node_batches.specs.Taken.{StepsTaken}
use Rattle.gm_posting.specs.Traffic.{Traffic}
use Rattle.gm_posting.specs.Gathering.{AreFew, GoesOn, held, sent_by_worker}
use Rattle.gm_core.specs.Cores.{owner, for_worker}
use Rattle.gm_workers.specs.declared.mail.Mail.{Mail}
use Rattle.gm_workers.specs.Parts.{items_of, messages_in, Hands, step_at, slot_step, boxes_of, places_of, messages_of, PartTo, IsDone, Did}
use Rattle.gm_workers.specs.declared.dealing.Dealing.{Dealing}
use Rattle.gm_workers.specs.declared.crews.Slot.{Slot}
use Rattle.gm_workers.specs.Dealings.{placed}
use Rattle.gm_machine.specs.Machine.{inbox}
use Rattle.gm_workers.proofs.PostLemmas.{hands-none, hands-then}

-- ranges
range-split : (a m n : ℕ) → range_with_len a (m + n) ≡ range_with_len a m ++ range_with_len (a + m) n
range-split a zero n = ap (λ k. range_with_len a k) (let e : 0 + n ≡ n = omega arith in e) ∙ ap (λ k. range_with_len k n) (let e : a ≡ a + 0 = omega arith in e)
range-split a (suc m) n =
    ap (range_with_len a) (let e : suc m + n ≡ suc (m + n) = omega arith in e)
    ∙ ap (λ l. a ∷ l) (range-split (a + 1) m n ∙ ap (λ k. range_with_len (a + 1) m ++ range_with_len k n) (let e : (a + 1) + m ≡ a + suc m = omega arith in e))

pub between-split : (from to : ℕ) → from ≤ to → between 0 to ≡ between 0 from ++ between from to
between-split from to le =
    ap (range_with_len 0) (let e : to - 0 ≡ (from - 0) + (to - from) = omega arith in e)
    ∙ range-split 0 (from - 0) (to - from)
    ∙ ap (λ k. range_with_len 0 (from - 0) ++ range_with_len k (to - from)) (let e : 0 + (from - 0) ≡ from = omega arith in e)

pub length-range : (a n : ℕ) → length (range_with_len a n) ≡ n
length-range a zero = refl
length-range a (suc n) = ap suc (length-range (a + 1) n)

pub length-between : {A : Type 0} (f : ℕ → A) (k : ℕ) → length (map f (between 0 k)) ≡ k
length-between f k = length-map (between 0 k) f ∙ length-range 0 (k - 0) ∙ (let e : k - 0 ≡ k = omega arith in e)

pub map-range : {A : Type 0} (f f' : ℕ → A) (a n : ℕ) → ((i : ℕ) → a ≤ i → i < a + n → f i ≡ f' i) → map f (range_with_len a n) ≡ map f' (range_with_len a n)
map-range f f' a zero same = refl
map-range f f' a (suc n) same =
    ap (λ x. x ∷ map f (range_with_len (a + 1) n)) (same a (omega arith) (omega arith))
    ∙ ap (λ l. f' a ∷ l) (map-range f f' (a + 1) n (λ i low high. same i (omega arith) (omega arith)))

flat-range : {A : Type 0} (f f' : ℕ → List A) (a n : ℕ) → ((i : ℕ) → a ≤ i → i < a + n → f i ≡ f' i) → flat_map f (range_with_len a n) ≡ flat_map f' (range_with_len a n)
flat-range f f' a zero same = refl
flat-range f f' a (suc n) same =
    ap (λ x. x ++ flat_map f (range_with_len (a + 1) n)) (same a (omega arith) (omega arith))
    ∙ ap (λ l. f' a ++ l) (flat-range f f' (a + 1) n (λ i low high. same i (omega arith) (omega arith)))

pub least-append : (fs gs : List (Option Fault)) → least_fault (fs ++ gs) ≡ lesser (least_fault fs) (least_fault gs)
least-append fs gs =
    least_from-right None (fs ++ gs)
    ∙ both fs
    ∙ ap (λ f. lesser f (least_right gs)) (sym (least_from-right None fs))
    ∙ ap (lesser (least_fault fs)) (sym (least_from-right None gs))
  where
    both : (fs : List (Option Fault)) → least_right (fs ++ gs) ≡ lesser (least_right fs) (least_right gs)
    both [] = refl
    both (f ∷ fs) = ap (lesser f) (both fs) ∙ sym (lesser-assoc f (least_right fs) (least_right gs))

-- lists whose front is new
drop-nil : {A : Type 0} (k : ℕ) → (let l : List A = [] in drop k l) ≡ []
drop-nil zero = refl
drop-nil (suc k) = refl

behind : {A : Type 0} (xs ys : List A) (d : A) (i : ℕ) → length xs ≤ i → slice_index_or (xs ++ drop (length xs) ys) i d ≡ slice_index_or ys i d
behind [] ys d i low = refl
behind (x ∷ xs) ys d zero low = absurd (omega arith)
behind {A} (x ∷ xs) [] d (suc i) low = ap (λ l. slice_index_or (xs ++ l) i d) (sym (drop-nil {A = A} (length xs))) ∙ behind xs [] d i (omega arith)
behind (x ∷ xs) (y ∷ ys) d (suc i) low = behind xs ys d i (omega arith)

front : {A : Type 0} (xs zs : List A) → take (length xs) (xs ++ zs) ≡ xs
front [] zs = refl
front (x ∷ xs) zs = ap (λ l. x ∷ l) (front xs zs)

past : {A : Type 0} (xs ys : List A) (k : ℕ) → length xs ≤ k → drop k (xs ++ drop (length xs) ys) ≡ drop k ys
past [] ys k low = refl
past (x ∷ xs) ys zero low = absurd (omega arith)
past {A} (x ∷ xs) [] (suc k) low = ap (λ l. drop k (xs ++ l)) (sym (drop-nil {A = A} (length xs))) ∙ past xs [] k (omega arith) ∙ drop-nil k
past (x ∷ xs) (y ∷ ys) (suc k) low = past xs ys k (omega arith)

-- nothing is done yet
pub part-none : (d : Duty) (owners nodes : List ℕ) (boxes : List (List Message)) (fields : List (List Value)) (t : Traffic Mail) (gathered : List Mail) (came : List (ℕ × Mail)) (s : Sent) → AreFew items_of gathered →
    s.messages ≡ [] → s.puts ≡ [] → s.fault ≡ None → PartTo d owners nodes boxes 0 fields fields t t gathered gathered came came s
part-none d owners nodes boxes fields t gathered came s few none puts fault = record {
  within = omega arith;
  fields_are = refl;
  hands = hands-none t gathered came few;
  none = none;
  puts = subst (SettleAs []) (sym puts) (settles-itself []);
  fault = fault;
}

-- some more nodes have computed
pub part-more : (d : Duty) (owners nodes : List ℕ) (boxes : List (List Message)) (from to : ℕ) (fields : List (List Value)) (now new : HeldFields) (t t' t'' : Traffic Mail) (before middle after : List Mail) (came came' came'' : List (ℕ × Mail)) (s s' s'' : Sent) →
    PartTo d owners nodes boxes from fields now.rows t t' before middle came came' s →
    StepsTaken (step_at d nodes boxes now.rows) from to now new s s' → Hands (λ w. for_worker owners w s'.messages) t' t'' middle after came' came'' →
    length fields ≡ length now.rows → s''.messages ≡ [] → s''.puts ≡ s'.puts → s''.fault ≡ s'.fault →
    PartTo d owners nodes boxes to fields new.rows t t'' before after came came'' s''
part-more d owners nodes boxes from to fields now new t t' t'' before middle after came came' came'' s s' s'' part steps hands long none puts_is fault_is =
    let f : ℕ → After = step_at d nodes boxes fields in
    let f' : ℕ → After = step_at d nodes boxes now.rows in
    let done : List (List Value) = map (λ i. (f i).state.fields) (between 0 from) in
    let many : length done ≡ from = length-between (λ i. (f i).state.fields) from in
    let rows : now.rows ≡ done ++ drop (length done) fields = part.fields_are ∙ ap (λ k. done ++ drop k fields) (sym many) in
    let same : (i : ℕ) → from ≤ i → f' i ≡ f i =
    λ i low. ap (λ l. step_after (program d.image.now) d.block d.globals.now d.graph.now (slice_index nodes i) (slice_index_or boxes i []) l)
    (ap (λ l. slice_index_or l i []) rows ∙ behind done fields [] i (omega (arith, many, low))) in
    let split : between 0 to ≡ between 0 from ++ between from to = between-split from to (omega (arith, steps.steps.ahead)) in
    let sent : s'.messages ≡ messages_of f (between from to) =
    steps.steps.taken.messages ∙ ap (λ l. l ++ messages_of f' (between from to)) part.none
    ∙ flat-range (λ i. (f' i).state.messages) (λ i. (f i).state.messages) from (to - from) (λ i low high. ap (λ (a : After). a.state.messages) (same i low)) in
    let put : (ℕ → After) → List ℕ → List Contribution = λ g is. flat_map (λ i. (g i).state.puts) is in
    let given : steps.puts ≡ s.puts ++ put f (between from to) =
    steps.steps.taken.puts
    ∙ ap (λ l. s.puts ++ l) (flat-range (λ i. (f' i).state.puts) (λ i. (f i).state.puts) from (to - from) (λ i low high. ap (λ (a : After). a.state.puts) (same i low))) in
    let all : messages_of f (between 0 from) ++ s'.messages ≡ messages_of f (between 0 to) =
    ap (λ l. messages_of f (between 0 from) ++ l) sent
    ∙ sym (ap (messages_of f) split ∙ flat_map-append (λ i. (f i).state.messages) (between 0 from) (between from to)) in
    record {
      within = omega (arith, steps.steps.within, long);
      fields_are =
          steps.steps.taken.fields
          ∙ ap (λ l. l ++ (map (λ i. (f' i).state.fields) (between from to) ++ drop to now.rows)) (ap (take from) rows ∙ ap (λ k. take k (done ++ drop (length done) fields)) (sym many) ∙ front done (drop (length done) fields))
          ∙ ap (λ l. done ++ (l ++ drop to now.rows)) (map-range (λ i. (f' i).state.fields) (λ i. (f i).state.fields) from (to - from) (λ i low high. ap (λ (a : After). a.state.fields) (same i low)))
          ∙ ap (λ l. done ++ (map (λ i. (f i).state.fields) (between from to) ++ l)) (ap (drop to) rows ∙ past done fields to (omega (arith, many, steps.steps.ahead)))
          ∙ sym (append_assoc done (map (λ i. (f i).state.fields) (between from to)) (drop to fields))
          ∙ ap (λ l. l ++ drop to fields) (sym (ap (map (λ i. (f i).state.fields)) split ∙ map-append (λ i. (f i).state.fields) (between 0 from) (between from to)));
      hands =
          hands-then (λ w. for_worker owners w (messages_of f (between 0 from))) (λ w. for_worker owners w s'.messages) (λ w. for_worker owners w (messages_of f (between 0 to))) t t' t'' before middle after came came' came''
          (λ w. sym (filter-append (λ m. nat_eq (owner owners m.to) w) (messages_of f (between 0 from)) s'.messages) ∙ ap (for_worker owners w) all)
          part.hands hands;
      none = none;
      puts =
          subst (SettleAs (put f (between 0 to))) (sym puts_is)
          (settles-through (put f (between 0 to)) (s.puts ++ put f (between from to)) s'.puts
          (subst (λ l. SettleAs l (s.puts ++ put f (between from to))) (sym (ap (put f) split ∙ flat_map-append (λ i. (f i).state.puts) (between 0 from) (between from to)))
          (settles-together (put f (between 0 from)) s.puts (put f (between from to)) (put f (between from to)) part.puts (settles-itself (put f (between from to)))))
          (subst (λ l. SettleAs l s'.puts) given steps.settle));
      fault =
          fault_is
          ∙ steps.steps.taken.fault
          ∙ ap (λ x. lesser x (least_fault (map (λ i. (f' i).fault) (between from to)))) part.fault
          ∙ ap (λ xs. lesser (least_fault (map (λ i. (f i).fault) (between 0 from))) (least_fault xs))
          (map-range (λ i. (f' i).fault) (λ i. (f i).fault) from (to - from) (λ i low high. ap (λ (a : After). a.fault) (same i low)))
          ∙ sym (least-append (map (λ i. (f i).fault) (between 0 from)) (map (λ i. (f i).fault) (between from to)))
          ∙ ap least_fault (sym (ap (map (λ i. (f i).fault)) split ∙ map-append (λ i. (f i).fault) (between 0 from) (between from to)));
    }

-- all nodes have computed, and the rest was sent
pub part-done : (d : Duty) (owners nodes : List ℕ) (boxes : List (List Message)) (fields fields' : List (List Value)) (t t' t'' : Traffic Mail) (before middle after : List Mail) (came came' came'' : List (ℕ × Mail)) (s : Sent) → length fields ≡ length nodes →
    PartTo d owners nodes boxes (length nodes) fields fields' t t' before middle came came' s → Hands (λ w. []) t' t'' middle after came' came'' → ((to : ℕ) → held items_of after to ≡ []) →
    IsDone d owners nodes boxes fields fields' t t'' before came came'' s
part-done d owners nodes boxes fields fields' t t' t'' before middle after came came' came'' s long part rest none =
    let f : ℕ → After = step_at d nodes boxes fields in
    let posted : ℕ → List Message = λ w. for_worker owners w (messages_of f (between 0 (length nodes))) in
    let all : Hands posted t t'' before after came came'' = hands-then posted (λ w. []) posted t t' t'' before middle after came came' came'' (λ w. append-nil (posted w)) part.hands rest in
    record {
      fields_are =
          part.fields_are
          ∙ ap (λ l. map (λ i. (f i).state.fields) (between 0 (length nodes)) ++ l) (drop_all (length nodes) fields (omega (arith, long)))
          ∙ append-nil (map (λ i. (f i).state.fields) (between 0 (length nodes)));
      mailboxes = all.mailboxes;
      worker = all.worker;
      each = λ to low.
          subst (λ l. GoesOn items_of (held items_of before to) (posted to) (sent_by_worker t to) (sent_by_worker t'' to) l) (none to) (all.each to low);
      batches = all.batches;
      taken = all.taken;
      kept = all.kept;
      puts = part.puts;
      fault = part.fault;
    }

-- so a worker did its part
pub did : (d : Duty) (dealing : Dealing) (x x' : Slot) (t t' : Traffic Mail) (s' : Sent) (owners nodes : List ℕ) (boxes : List (List Message)) (w places : ℕ) (waiting : List (ℕ × Mail)) (gathered : List Mail) (came : List (ℕ × Mail)) →
    owners ≡ dealing.owners.items → nodes ≡ x.nodes.items → boxes ≡ map (inbox (map (placed dealing w) (messages_in waiting))) (range_with_len 0 places) → w ≡ t.worker → places ≡ length x.nodes.items → waiting ≡ x.waiting.items →
    ((to : ℕ) → held items_of gathered to ≡ []) → length gathered ≡ length t.mailboxes → came ≡ [] → x'.nodes ≡ x.nodes →
    IsDone d owners nodes boxes x.fields.rows x'.fields.rows t t' gathered came x'.waiting.items s' → Did d dealing x x' t t' s'
did d dealing x x' t t' s' owners nodes boxes w places waiting gathered came owners_are nodes_are boxes_are w_is places_are waiting_is none wide new kept done =
    let are : boxes ≡ boxes_of dealing t.worker x =
    boxes_are
    ∙ ap (λ v. map (inbox (map (placed dealing v) (messages_in waiting))) (range_with_len 0 places)) w_is
    ∙ ap (λ l. map (inbox (map (placed dealing t.worker) (messages_in l))) (range_with_len 0 places)) waiting_is
    ∙ ap (λ n. map (inbox (map (placed dealing t.worker) (messages_in x.waiting.items))) (range_with_len 0 n)) places_are in
    let one : IsDone d dealing.owners.items nodes boxes x.fields.rows x'.fields.rows t t' gathered came x'.waiting.items s' =
    subst (λ l. IsDone d l nodes boxes x.fields.rows x'.fields.rows t t' gathered came x'.waiting.items s') owners_are done in
    let two : IsDone d dealing.owners.items x.nodes.items boxes x.fields.rows x'.fields.rows t t' gathered came x'.waiting.items s' =
    subst (λ l. IsDone d dealing.owners.items l boxes x.fields.rows x'.fields.rows t t' gathered came x'.waiting.items s') nodes_are one in
    let all : IsDone d dealing.owners.items x.nodes.items (boxes_of dealing t.worker x) x.fields.rows x'.fields.rows t t' gathered came x'.waiting.items s' =
    subst (λ l. IsDone d dealing.owners.items x.nodes.items l x.fields.rows x'.fields.rows t t' gathered came x'.waiting.items s') are two in
    record {
      nodes = kept;
      fields = all.fields_are;
      mailboxes = all.mailboxes;
      worker = all.worker;
      sent = λ to low.
          subst (λ l. GoesOn items_of l (for_worker dealing.owners.items to (messages_of (slot_step d dealing t.worker x) (places_of x))) (sent_by_worker t to) (sent_by_worker t' to) []) (none to)
          (all.each to (omega (arith, low, wide)));
      taken = all.taken ∙ ap (λ l. t.taken ++ l) (sym (all.kept ∙ ap (λ l. l ++ all.batches) new));
      puts = all.puts;
      fault = all.fault;
    }
