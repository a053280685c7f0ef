-- A superstep of workers that hand over batches is legal events of the core.
use Rattle.std.proofs.Common.{◌≡◌, ◌≢◌, ◌<◌, ◌≤◌, ◌+◌, ℕ, zero, suc, Bool, true, false, cond, not, ◌&&◌, nat_eq, List, [], ◌∷◌, ◌++◌, length, refl, sym, ap, ◌∙◌, subst, arith, append_assoc, ⊎_elim}
use Rattle.std.specs.Prelude.{IsTrue, filter, slice_index_or, slice_set, if◌then◌else◌}
use Rattle.std.specs.List.{flat_map, list_all, range_with_len}
use Rattle.std.proofs.lemmas.Bool.{cases_eq, cases_lt, eq-eqb, ne_eqb, lt-ltb, le-leb}
use Rattle.std.proofs.lemmas.List.{append-nil, get_or-set_same, get_or-set_other, length-set}
use Rattle.std.proofs.lemmas.List.Elements.{filter-append}
use Rattle.gm_model.specs.Graphs.{NumberedGraph, node_count}
use Rattle.gm_image.specs.Program.{Program}
use Rattle.gm_machine.specs.Vertex.{Message, After}
use Rattle.gm_image.specs.Soundness.{is_sound}
use Rattle.gm_machine.specs.Machine.{Control, Nodes, Steps, step_of, block_at}
use Rattle.gm_core.specs.declared.events.Event.{Event}
use Rattle.gm_core.specs.declared.events.Event.TheVariants.{Compute, Deliver, Arrive, Release}
use Rattle.gm_core.specs.Mails.{Mail, with_at, pass_worker, delivered, all_delivered, AreLegal, HasAll}
use Rattle.gm_core.specs.Cores.{Core, owner, for_worker, is_in, below, sends, rested, node_step, is_legal_by, is_legal, computes, releases, effect_by, effect, effects, AllLegal}
use Rattle.gm_machine.specs.States.{next_by}
use Rattle.gm_core.specs.Laws.{AreOwners, StandsFor, Delivers, released}
use Rattle.gm_core.specs.Supersteps.{computes_all, deliveries, all_deliveries, arrives_all, superstep_events, own, step, TakeAll, IsReady, Supersteps}
use Rattle.gm_core.proofs.RunLemmas.{one-release}
use Rattle.gm_core.proofs.MailLemmas.{with-same, with-other, delivers}
use Rattle.gm_machine.proofs.BagLemmas.{flat_map-push}
use Rattle.gm_core.proofs.NodeLists.{range-push, in-push_same, in-push_other}

both : {a b : Bool} → a ≡ true → b ≡ true → a && b ≡ true
both {a} {b} x y = ap (λ c. c && b) x ∙ y

not-is : (b : Bool) → b ≡ false → not b ≡ true
not-is b e = ap not e

below-push : (n : ℕ) → below (n + 1) ≡ below n ++ n ∷ []
below-push n =
    ap (range_with_len 0) (let e : n + 1 ≡ suc n = omega arith in e)
    ∙ range-push 0 n
    ∙ ap (λ k. range_with_len 0 n ++ k ∷ []) (let e : 0 + n ≡ n = omega arith in e)

all-pass : (test : ℕ → Bool) (a k : ℕ) → ((n : ℕ) → a ≤ n → n < a + k → test n ≡ true) → list_all test (range_with_len a k) ≡ true
all-pass test a zero each = refl
all-pass test a (suc k) each = both (each a (omega arith) (omega arith)) (all-pass test (a + 1) k (λ n low high. each n (omega arith) (omega arith)))

module _ (p : Program) (g : NumberedGraph) (owners : List ℕ) (workers : ℕ) where
  legal-append : (xs ys : List Event) (s : Core) → AllLegal p g owners workers s xs → AllLegal p g owners workers (effects p g owners workers s xs) ys → AllLegal p g owners workers s (xs ++ ys)
  legal-append [] ys s a b = b
  legal-append (e ∷ xs) ys s a b = (a.0, legal-append xs ys (effect p g owners workers s e) a.1 b)

  effects-append : (xs ys : List Event) (s : Core) → effects p g owners workers s (xs ++ ys) ≡ effects p g owners workers (effects p g owners workers s xs) ys
  effects-append [] ys s = refl
  effects-append (e ∷ xs) ys s = effects-append xs ys (effect p g owners workers s e)

  module _ (left q line : ℕ) (c : Control) (s : Core) (dealt : AreOwners owners (node_count g) workers) (ready : IsReady p g owners workers left q line c s) where
    abbrev pub sent_to : ℕ → ℕ → ℕ → List Message
    sent_to from to a = for_worker owners to (flat_map (λ n. (step p g owners workers q c s n).state.messages) (own owners from a))

    -- the nodes below a number have computed
    pub record Mid (a : ℕ) (t : Core) : Type 0 where
      pub next : t.next ≡ Steps left q line c
      pub waiting : t.waiting ≡ s.waiting
      pub old : (n : ℕ) → a ≤ n → slice_index_or t.fields n [] ≡ slice_index_or s.fields n []
      pub new : (n : ℕ) → n < a → slice_index_or t.fields n [] ≡ (step p g owners workers q c s n).state.fields
      pub long : length t.fields ≡ node_count g
      pub done : (n : ℕ) → n < a → is_in n t.computed ≡ true
      pub not_done : (n : ℕ) → a ≤ n → is_in n t.computed ≡ false
      pub unsent : (from to : ℕ) → t.mail.unsent from to ≡ sent_to from to a
      pub incoming : (to : ℕ) → t.mail.incoming to ≡ []
      pub arrived : (w : ℕ) → t.arrived w ≡ false

    begun : Mid 0 s
    begun =
        let r : Core = rested p g owners workers s.next s.fields s.waiting s.supersteps s.messages in
        let at : Mid 0 r = record {
          next = ready.next;
          waiting = refl;
          old = λ n low. refl;
          new = λ n low. absurd (omega arith);
          long = ready.long;
          done = λ n low. absurd (omega arith);
          not_done = λ n low. refl;
          unsent = λ from to. refl;
          incoming = λ to. refl;
          arrived = λ w. refl;
        } in
        subst (Mid 0) (sym ready.rests) at

    step-is : (a : ℕ) (t : Core) → Mid a t → node_step p g owners workers q c t (owner owners a) a ≡ step p g owners workers q c s a
    step-is a t at =
        ap (λ w. step_of p g (block_at p q) c.globals (w (owner owners a)) (a, slice_index_or t.fields a [])) at.waiting
        ∙ ap (λ fs. step_of p g (block_at p q) c.globals (s.waiting (owner owners a)) (a, fs)) (at.old a (omega arith))

    own-push_same : (a : ℕ) → own owners (owner owners a) (a + 1) ≡ own owners (owner owners a) a ++ a ∷ []
    own-push_same a =
        ap (filter (λ n. nat_eq (owner owners n) (owner owners a))) (below-push a)
        ∙ filter-append (λ n. nat_eq (owner owners n) (owner owners a)) (below a) (a ∷ [])
        ∙ ap (λ b. own owners (owner owners a) a ++ cond b (a ∷ []) []) (eq-eqb (owner owners a) (owner owners a) refl)

    own-push_other : (w a : ℕ) → w ≢ owner owners a → own owners w (a + 1) ≡ own owners w a
    own-push_other w a other =
        ap (filter (λ n. nat_eq (owner owners n) w)) (below-push a)
        ∙ filter-append (λ n. nat_eq (owner owners n) w) (below a) (a ∷ [])
        ∙ ap (λ b. own owners w a ++ cond b (a ∷ []) []) (ne_eqb (owner owners a) w (λ e. other (sym e)))
        ∙ append-nil (own owners w a)

    sent-push : (a to : ℕ) → sent_to (owner owners a) to (a + 1) ≡ sent_to (owner owners a) to a ++ for_worker owners to (step p g owners workers q c s a).state.messages
    sent-push a to =
        ap (λ ns. for_worker owners to (flat_map (λ n. (step p g owners workers q c s n).state.messages) ns)) (own-push_same a)
        ∙ ap (for_worker owners to) (flat_map-push (λ n. (step p g owners workers q c s n).state.messages) (own owners (owner owners a) a) a)
        ∙ filter-append (λ m. nat_eq (owner owners m.to) to) (flat_map (λ n. (step p g owners workers q c s n).state.messages) (own owners (owner owners a) a)) (step p g owners workers q c s a).state.messages

    one-compute : (a : ℕ) (t : Core) → a < node_count g → Mid a t → Mid (a + 1) (computes p g owners workers q c (owner owners a) a t)
    one-compute a t some at =
        let w : ℕ = owner owners a in
        let one : After = node_step p g owners workers q c t w a in
        let is : one ≡ step p g owners workers q c s a = step-is a t at in
        let within : a < length t.fields = omega (arith, some, at.long) in
        record {
          next = at.next;
          waiting = at.waiting;
          old = λ n low. get_or-set_other t.fields a n one.state.fields [] (λ e. omega arith) ∙ at.old n (omega arith);
          new = λ n low.
              ⊎_elim
              (λ (here : n ≡ a).
              ap (λ k. slice_index_or (slice_set t.fields a one.state.fields) k []) here
              ∙ get_or-set_same t.fields a one.state.fields [] within
              ∙ ap (λ x. x.state.fields) is
              ∙ ap (λ k. (step p g owners workers q c s k).state.fields) (sym here))
              (λ (other : n ≡ a → ⊥). get_or-set_other t.fields a n one.state.fields [] other ∙ at.new n (omega arith))
              (cases_eq n a);
          long = length-set t.fields a one.state.fields ∙ at.long;
          done = λ n low.
              ⊎_elim
              (λ (here : n ≡ a). ap (λ k. is_in k (t.computed ++ a ∷ [])) here ∙ in-push_same a t.computed)
              (λ (other : n ≡ a → ⊥). in-push_other n a t.computed other ∙ at.done n (omega arith))
              (cases_eq n a);
          not_done = λ n low. in-push_other n a t.computed (λ e. omega arith) ∙ at.not_done n (omega arith);
          unsent = λ from to.
              ⊎_elim
              (λ (here : from ≡ w).
              ap (λ f. (sends owners w one.state.messages t.mail).unsent f to) here
              ∙ ap (λ row. row to) (with-same t.mail.unsent w (λ k. t.mail.unsent w k ++ for_worker owners k one.state.messages))
              ∙ ap (λ l. l ++ for_worker owners to one.state.messages) (at.unsent w to)
              ∙ ap (λ x. sent_to w to a ++ for_worker owners to x.state.messages) is
              ∙ sym (sent-push a to)
              ∙ ap (λ f. sent_to f to (a + 1)) (sym here))
              (λ (other : from ≡ w → ⊥).
              ap (λ row. row to) (with-other t.mail.unsent w (λ k. t.mail.unsent w k ++ for_worker owners k one.state.messages) from other)
              ∙ at.unsent from to
              ∙ sym (ap (λ ns. for_worker owners to (flat_map (λ n. (step p g owners workers q c s n).state.messages) ns)) (own-push_other from a other)))
              (cases_eq from w);
          incoming = at.incoming;
          arrived = at.arrived;
        }

    compute-legal : (a : ℕ) (t : Core) → a < node_count g → Mid a t → is_legal p g owners workers t (Compute (owner owners a) a) ≡ true
    compute-legal a t some at =
        ap (λ n. is_legal_by p g owners workers n t (Compute (owner owners a) a)) at.next
        ∙ both (both (both (lt-ltb (owner owners a) workers (dealt.each a)) (lt-ltb a (node_count g) some)) (eq-eqb (owner owners a) (owner owners a) refl)) (not-is (is_in a t.computed) (at.not_done a (omega arith)))

    compute-is : (a : ℕ) (t : Core) → Mid a t → effect p g owners workers t (Compute (owner owners a) a) ≡ computes p g owners workers q c (owner owners a) a t
    compute-is a t at = ap (λ n. effect_by p g owners workers n t (Compute (owner owners a) a)) at.next

    all-compute : (m a : ℕ) (t : Core) → a + m ≡ node_count g → Mid a t →
        AllLegal p g owners workers t (computes_all owners (range_with_len a m)) × Mid (node_count g) (effects p g owners workers t (computes_all owners (range_with_len a m)))
    all-compute zero a t long at = (tt, subst (λ k. Mid k t) (let e : a ≡ node_count g = omega arith in e) at)
    all-compute (suc m) a t long at =
        let some : a < node_count g = omega arith in
        let next : Mid (a + 1) (effect p g owners workers t (Compute (owner owners a) a)) = subst (Mid (a + 1)) (sym (compute-is a t at)) (one-compute a t some at) in
        let rest = all-compute m (a + 1) (effect p g owners workers t (Compute (owner owners a) a)) (omega arith) next in
        ((compute-legal a t some at, rest.0), rest.1)

    -- deliveries change the mail alone
    module _ (t : Core) (here : t.next ≡ Steps left q line c) where
      abbrev pub with_mail : Mail Message → Core
      with_mail m = record t { mail = m }

      deliver-is : (from to count : ℕ) (m : Mail Message) → effect p g owners workers (with_mail m) (Deliver from to count) ≡ with_mail (delivered from to count m)
      deliver-is from to count m = ap (λ n. effect_by p g owners workers n (with_mail m) (Deliver from to count)) here

      -- only workers have something unsent
      module _ (to : ℕ) (to_some : to < workers) where
        one-legal : (x : ℕ × List Message) (m : Mail Message) → ((from : ℕ) → workers ≤ from → m.unsent from to ≡ []) → 1 ≤ length x.1 → length x.1 ≤ length (m.unsent (pass_worker to x.0) to) →
            is_legal p g owners workers (with_mail m) (Deliver (pass_worker to x.0) to (length x.1)) ≡ true
        one-legal x m nothing some fits =
            let from : ℕ = pass_worker to x.0 in
            let from_some : from < workers =
            ⊎_elim
            (λ (l : from < workers). l)
            (λ (h : workers ≤ from). let none : length (m.unsent from to) ≡ 0 = ap length (nothing from h) in absurd (omega (arith, none, some, fits)))
            (cases_lt from workers) in
            ap (λ n. is_legal_by p g owners workers n (with_mail m) (Deliver from to (length x.1))) here
            ∙ both (both (both (lt-ltb from workers from_some) (lt-ltb to workers to_some)) (le-leb 1 (length x.1) some)) (le-leb (length x.1) (length (m.unsent from to)) fits)

        still-nothing : (from count : ℕ) (m : Mail Message) → from < workers → ((f : ℕ) → workers ≤ f → m.unsent f to ≡ []) → (f : ℕ) → workers ≤ f → (delivered from to count m).unsent f to ≡ []
        still-nothing from count m some nothing f high = ap (λ row. row to) (with-other m.unsent from _ f (λ e. omega arith)) ∙ nothing f high

        deliver-all : (xs : List (ℕ × List Message)) (m : Mail Message) → ((f : ℕ) → workers ≤ f → m.unsent f to ≡ []) → AreLegal to xs m →
            AllLegal p g owners workers (with_mail m) (deliveries to xs) × (effects p g owners workers (with_mail m) (deliveries to xs) ≡ with_mail (all_delivered to xs m))
        deliver-all [] m nothing legal = (tt, refl)
        deliver-all (x ∷ xs) m nothing legal =
            let from : ℕ = pass_worker to x.0 in
            let from_some : from < workers =
            ⊎_elim
            (λ (l : from < workers). l)
            (λ (h : workers ≤ from). let none : length (m.unsent from to) ≡ 0 = ap length (nothing from h) in absurd (omega (arith, none, legal.0, legal.1)))
            (cases_lt from workers) in
            let is : effect p g owners workers (with_mail m) (Deliver from to (length x.1)) ≡ with_mail (delivered from to (length x.1) m) = deliver-is from to (length x.1) m in
            let rest = deliver-all xs (delivered from to (length x.1) m) (still-nothing from (length x.1) m from_some nothing) legal.2 in (
              (one-legal x m nothing legal.0 legal.1, subst (λ u. AllLegal p g owners workers u (deliveries to xs)) (sym is) rest.0),
              ap (λ u. effects p g owners workers u (deliveries to xs)) is ∙ rest.1,
            )

    cond-true : (b x : Bool) → x ≡ true → cond b x true ≡ true
    cond-true true x is = is
    cond-true false x is = refl

    -- no one has something unsent but workers
    nothing-sent : (from to : ℕ) → workers ≤ from → sent_to from to (node_count g) ≡ []
    nothing-sent from to high = ap (λ ns. for_worker owners to (flat_map (λ n. (step p g owners workers q c s n).state.messages) ns)) (none-own (below (node_count g))) where
      none-own : (ns : List ℕ) → filter (λ n. nat_eq (owner owners n) from) ns ≡ []
      none-own [] = refl
      none-own (n ∷ ns) =
          let some : owner owners n < workers = dealt.each n in
          ap (λ b. cond b (n ∷ filter (λ n. nat_eq (owner owners n) from) ns) (filter (λ n. nat_eq (owner owners n) from) ns)) (ne_eqb (owner owners n) from (λ e. omega arith))
          ∙ none-own ns

    module _ (taken : ℕ → List (ℕ × List Message)) (take : TakeAll p g owners workers q c s taken) (t : Core) (at : Mid (node_count g) t) where
      -- the workers below a number have their batches
      pub record Handed (a : ℕ) (m : Mail Message) : Type 0 where
        pub rest : (from to : ℕ) → a ≤ to → m.unsent from to ≡ sent_to from to (node_count g)
        pub none : (from to : ℕ) → to < a → m.unsent from to ≡ []
        pub got : (to : ℕ) → to < a → m.incoming to ≡ flat_map (λ x. x.1) (taken to)
        pub not_yet : (to : ℕ) → a ≤ to → m.incoming to ≡ []

      one-hands : (a : ℕ) (m : Mail Message) → a < workers → Handed a m → AreLegal a (taken a) m × Handed (a + 1) (all_delivered a (taken a) m)
      one-hands a m some h =
          let has : HasAll a (taken a) m = λ number. take.all a some number ∙ sym (h.rest (pass_worker a number) a (omega arith)) in
          let d : Delivers a (taken a) m = delivers a (taken a) m (take.full a some) has in (
            d.legal,
            record {
              rest = λ from to low. d.kept from to (λ e. omega arith) ∙ h.rest from to (omega arith);
              none = λ from to low.
                  ⊎_elim
                  (λ (here : to ≡ a). ap (λ k. (all_delivered a (taken a) m).unsent from k) here ∙ d.none_left from)
                  (λ (other : to ≡ a → ⊥). d.kept from to other ∙ h.none from to (omega arith))
                  (cases_eq to a);
              got = λ to low.
                  ⊎_elim
                  (λ (here : to ≡ a).
                  ap (λ k. (all_delivered a (taken a) m).incoming k) here
                  ∙ d.incoming
                  ∙ ap (λ l. l ++ flat_map (λ x. x.1) (taken a)) (h.not_yet a (omega arith))
                  ∙ ap (λ k. flat_map (λ x. x.1) (taken k)) (sym here))
                  (λ (other : to ≡ a → ⊥). d.others to other ∙ h.got to (omega arith))
                  (cases_eq to a);
              not_yet = λ to low. d.others to (λ e. omega arith) ∙ h.not_yet to (omega arith);
            },
          )

      pub record Gives (m : Mail Message) (es : List Event) (P : Core → Type 0) : Type 0 where
        pub legal : AllLegal p g owners workers (with_mail t at.next m) es
        pub leads : P (effects p g owners workers (with_mail t at.next m) es)

      -- mail that is handed out, in the core
      pub record Out (u : Core) : Type 0 where
        pub mail : Mail Message
        pub handed : Handed workers mail
        pub is : u ≡ with_mail t at.next mail

      all-hand : (k a : ℕ) (m : Mail Message) → a + k ≡ workers → Handed a m → Gives m (all_deliveries taken (range_with_len a k)) Out
      all-hand zero a m long h = record {
        legal = tt;
        leads = record { mail = m; handed = subst (λ n. Handed n m) (let e : a ≡ workers = omega arith in e) h; is = refl };
      }
      all-hand (suc k) a m long h =
          let some : a < workers = omega arith in
          let one = one-hands a m some h in
          let nothing : (f : ℕ) → workers ≤ f → m.unsent f a ≡ [] = λ f high. h.rest f a (omega arith) ∙ nothing-sent f a high in
          let first = deliver-all t at.next a some (taken a) m nothing one.0 in
          let rest = all-hand k (a + 1) (all_delivered a (taken a) m) (omega arith) one.1 in
          let more : List Event = all_deliveries taken (range_with_len (a + 1) k) in
          record {
            legal = legal-append (deliveries a (taken a)) more (with_mail t at.next m) first.0 (subst (λ u. AllLegal p g owners workers u more) (sym first.1) rest.legal);
            leads =
                subst Out
                (sym (effects-append (deliveries a (taken a)) more (with_mail t at.next m) ∙ ap (λ u. effects p g owners workers u more) first.1))
                rest.leads;
          }

      -- all arrive
      module _ (m : Mail Message) (handed : Handed workers m) where
        abbrev pub with_arrived : (ℕ → Bool) → Core
        with_arrived r = record t { mail = m; arrived = r }

        arrive-legal : (a : ℕ) (r : ℕ → Bool) → a < workers → r a ≡ false → is_legal p g owners workers (with_arrived r) (Arrive a) ≡ true
        arrive-legal a r some not_yet =
            ap (λ n. is_legal_by p g owners workers n (with_arrived r) (Arrive a)) at.next
            ∙ both
            (both (both (lt-ltb a workers some) (not-is (r a) not_yet))
            (all-pass (λ n. if nat_eq (owner owners n) a then is_in n t.computed else true) 0 (node_count g) (λ n low high. cond-true (nat_eq (owner owners n) a) (is_in n t.computed) (at.done n (omega arith)))))
            (all-pass (λ to. nat_eq (length (m.unsent a to)) 0) 0 workers (λ to low high. eq-eqb (length (m.unsent a to)) 0 (ap length (handed.none a to (omega arith)))))

        pub record Here (u : Core) : Type 0 where
          pub arrived : ℕ → Bool
          pub all : (w : ℕ) → w < workers → arrived w ≡ true
          pub is : u ≡ with_arrived arrived

        all-arrive : (k a : ℕ) (r : ℕ → Bool) → a + k ≡ workers → ((v : ℕ) → a ≤ v → r v ≡ false) → ((v : ℕ) → v < a → r v ≡ true) →
            AllLegal p g owners workers (with_arrived r) (arrives_all (range_with_len a k)) × Here (effects p g owners workers (with_arrived r) (arrives_all (range_with_len a k)))
        all-arrive zero a r long rest first = (tt, record { arrived = r; all = λ w low. first w (omega arith); is = refl })
        all-arrive (suc k) a r long rest first =
            let some : a < workers = omega arith in
            let is : effect p g owners workers (with_arrived r) (Arrive a) ≡ with_arrived (with_at r a true) = ap (λ n. effect_by p g owners workers n (with_arrived r) (Arrive a)) at.next in
            let more = all-arrive k (a + 1) (with_at r a true) (omega arith)
            (λ v low. with-other r a true v (λ e. omega arith) ∙ rest v (omega arith))
            (λ v low.
            ⊎_elim
            (λ (here : v ≡ a). ap (with_at r a true) here ∙ with-same r a true)
            (λ (other : v ≡ a → ⊥). with-other r a true v other ∙ first v (omega arith))
            (cases_eq v a)) in (
              (arrive-legal a r some (rest a (omega arith)), subst (λ u. AllLegal p g owners workers u (arrives_all (range_with_len (a + 1) k))) (sym is) more.0),
              subst (λ u. Here (effects p g owners workers u (arrives_all (range_with_len (a + 1) k)))) (sym is) more.1,
            )

        pub record Done (u : Core) : Type 0 where
          pub fields : u.fields ≡ t.fields
          pub waiting : u.waiting ≡ m.incoming

        -- and the release
        all-end : AllLegal p g owners workers (with_arrived t.arrived) (arrives_all (below workers) ++ Release ∷ []) × Done (effects p g owners workers (with_arrived t.arrived) (arrives_all (below workers) ++ Release ∷ []))
        all-end =
            let arrive = all-arrive workers 0 t.arrived (omega arith) (λ v low. at.arrived v) (λ v low. absurd (omega arith)) in
            let u : Core = effects p g owners workers (with_arrived t.arrived) (arrives_all (below workers)) in
            let v : Core = with_arrived arrive.1.arrived in
            let released : effect p g owners workers u Release ≡ releases p g owners workers left line c v =
            ap (λ x. effect p g owners workers x Release) arrive.1.is ∙ ap (λ n. effect_by p g owners workers n v Release) at.next in
            let legal : is_legal p g owners workers u Release ≡ true =
            ap (λ x. is_legal p g owners workers x Release) arrive.1.is
            ∙ ap (λ n. is_legal_by p g owners workers n v Release) at.next
            ∙ all-pass arrive.1.arrived 0 workers (λ w low high. arrive.1.all w (omega arith)) in
            let last : effects p g owners workers (with_arrived t.arrived) (arrives_all (below workers) ++ Release ∷ []) ≡ releases p g owners workers left line c v =
            effects-append (arrives_all (below workers)) (Release ∷ []) (with_arrived t.arrived) ∙ released in (
              legal-append (arrives_all (below workers)) (Release ∷ []) (with_arrived t.arrived) arrive.0 (legal, tt),
              record { fields = ap (λ x. x.fields) last; waiting = ap (λ x. x.waiting) last },
            )

    -- the whole superstep
    pub supersteps : (taken : ℕ → List (ℕ × List Message)) → TakeAll p g owners workers q c s taken →
        Supersteps p g owners workers q c s taken (superstep_events owners (node_count g) workers (all_deliveries taken (below workers)))
    supersteps taken take =
        let computing : List Event = computes_all owners (below (node_count g)) in
        let delivering : List Event = all_deliveries taken (below workers) in
        let ending : List Event = arrives_all (below workers) ++ Release ∷ [] in
        let all = all-compute (node_count g) 0 s (omega arith) begun in
        let t : Core = effects p g owners workers s computing in
        let at : Mid (node_count g) t = all.1 in
        let none : Handed taken take t at 0 t.mail = record {
          rest = λ from to low. at.unsent from to;
          none = λ from to low. absurd (omega arith);
          got = λ to low. absurd (omega arith);
          not_yet = λ to low. at.incoming to;
        } in
        let hand : Gives taken take t at t.mail delivering (Out taken take t at) = all-hand taken take t at workers 0 t.mail (omega arith) none in
        let out : Out taken take t at (effects p g owners workers t delivering) = hand.leads in
        let end = all-end taken take t at out.mail out.handed in
        let u : Core = with_mail t at.next out.mail in
        let whole : effects p g owners workers s (computing ++ (delivering ++ ending)) ≡ effects p g owners workers u ending =
        effects-append computing (delivering ++ ending) s ∙ effects-append delivering ending t ∙ ap (λ x. effects p g owners workers x ending) out.is in
        record {
          legal = legal-append computing (delivering ++ ending) s all.0 (legal-append delivering ending t hand.legal (subst (λ x. AllLegal p g owners workers x ending) (sym out.is) end.0));
          fields = λ n some. ap (λ x. slice_index_or x.fields n []) whole ∙ ap (λ fs. slice_index_or fs n []) end.1.fields ∙ at.new n some;
          waiting = λ to some. ap (λ x. x.waiting to) whole ∙ ap (λ w. w to) end.1.waiting ∙ out.handed.got to some;
        }

-- a core that stands for a state is ready
pub stands-ready : (p : Program) (g : NumberedGraph) (owners : List ℕ) (workers left q line : ℕ) (c : Control) (s : Core) (d : Nodes) → length d.fields ≡ node_count g →
    StandsFor p g owners workers s (record { next = Steps left q line c; nodes = d }) → IsReady p g owners workers left q line c s
stands-ready p g owners workers left q line c s d full stands = record { next = stands.next; rests = stands.rests; long = ap length stands.fields ∙ full }

none-released : (xs ys : List Event) → released xs ≡ 0 → released ys ≡ 0 → released (xs ++ ys) ≡ 0
none-released [] ys a b = b
none-released (Compute w n ∷ xs) ys a b = none-released xs ys a b
none-released (Deliver from to count ∷ xs) ys a b = none-released xs ys a b
none-released (Arrive w ∷ xs) ys a b = none-released xs ys a b
none-released (Release ∷ xs) ys a b = absurd (omega arith)

no-computes : (owners : List ℕ) (ns : List ℕ) → released (computes_all owners ns) ≡ 0
no-computes owners [] = refl
no-computes owners (n ∷ ns) = no-computes owners ns

no-deliveries : (to : ℕ) (xs : List (ℕ × List Message)) → released (deliveries to xs) ≡ 0
no-deliveries to [] = refl
no-deliveries to (x ∷ xs) = no-deliveries to xs

no-more : (taken : ℕ → List (ℕ × List Message)) (ws : List ℕ) → released (all_deliveries taken ws) ≡ 0
no-more taken [] = refl
no-more taken (w ∷ ws) = none-released (deliveries w (taken w)) (all_deliveries taken ws) (no-deliveries w (taken w)) (no-more taken ws)

no-arrivals : (ws : List ℕ) → released (arrives_all ws) ≡ 0
no-arrivals [] = refl
no-arrivals (w ∷ ws) = no-arrivals ws

module _ (p : Program) (g : NumberedGraph) (owners : List ℕ) (workers : ℕ) where
  last-legal : (es : List Event) (s : Core) → AllLegal p g owners workers s (es ++ Release ∷ []) → AllLegal p g owners workers s es × (is_legal p g owners workers (effects p g owners workers s es) Release ≡ true)
  last-legal [] s legal = (tt, legal.0)
  last-legal (e ∷ es) s legal = let rest = last-legal es (effect p g owners workers s e) legal.1 in ((legal.0, rest.0), rest.1)

  last-effect : (es : List Event) (s : Core) → effects p g owners workers s (es ++ Release ∷ []) ≡ effect p g owners workers (effects p g owners workers s es) Release
  last-effect [] s = refl
  last-effect (e ∷ es) s = last-effect es (effect p g owners workers s e)

-- and the superstep's events take it to the next state
pub supersteps-stand : (p : Program) (g : NumberedGraph) (owners : List ℕ) (workers left q line : ℕ) (c : Control) (s : Core) (d : Nodes) (taken : ℕ → List (ℕ × List Message)) →
    IsTrue (is_sound p) → AreOwners owners (node_count g) workers → length d.fields ≡ node_count g →
    StandsFor p g owners workers s (record { next = Steps left q line c; nodes = d }) → TakeAll p g owners workers q c s taken →
    StandsFor p g owners workers (effects p g owners workers s (superstep_events owners (node_count g) workers (all_deliveries taken (below workers)))) (next_by p g (Steps left q line c) d)
supersteps-stand p g owners workers left q line c s d taken sound dealt full stands take =
    let computing : List Event = computes_all owners (below (node_count g)) in
    let delivering : List Event = all_deliveries taken (below workers) in
    let arriving : List Event = arrives_all (below workers) in
    let before : List Event = computing ++ (delivering ++ arriving) in
    let all : List Event = superstep_events owners (node_count g) workers delivering in
    let parted : all ≡ before ++ Release ∷ [] =
    ap (λ l. computing ++ l) (sym (append_assoc delivering arriving (Release ∷ []))) ∙ sym (append_assoc computing (delivering ++ arriving) (Release ∷ [])) in
    let whole : Supersteps p g owners workers q c s taken all = supersteps p g owners workers left q line c s dealt (stands-ready p g owners workers left q line c s d full stands) taken take in
    let legal = last-legal p g owners workers before s (subst (AllLegal p g owners workers s) parted whole.legal) in
    let none : released before ≡ 0 = none-released computing (delivering ++ arriving) (no-computes owners (below (node_count g))) (none-released delivering arriving (no-more taken (below workers)) (no-arrivals (below workers))) in
    subst (λ t. StandsFor p g owners workers t (next_by p g (Steps left q line c) d)) (sym (ap (effects p g owners workers s) parted ∙ last-effect p g owners workers before s))
    (one-release p g owners workers sound dealt before (Steps left q line c) d full s stands none legal.0 legal.1)
