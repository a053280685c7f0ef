-- A message loop whose receivers send is three supersteps.
use Rattle.std.proofs.Common.{◌≡◌, ◌<◌, ◌≤◌, ◌⊎◌, inl, inr, ℕ, suc, Bool, true, false, cond, Option, Some, None, Result, Ok, List, [], ◌∷◌, ◌++◌, length, map, refl, ap, ◌∙◌, sym, subst, ⊎_elim}
use Rattle.std.specs.Prelude.{◌+◌, not, filter, slice_index_or}
use Rattle.std.proofs.lemmas.Bool.{not-true}
use Rattle.gm_base.specs.declared.places.Place.{Place}
use Rattle.gm_value.specs.declared.values.VType.{VType}
use Rattle.gm_value.specs.declared.values.Value.{Value}
use Rattle.gm_value.specs.Bag.{IsIn, SameBag, same_nil, same_cons, same_trans}
use Rattle.gm_value.proofs.BagLaws.{SameBag-sym, SameBag-middle}
use Rattle.gm_model.specs.Graphs.{NumberedGraph, Step, node_count}
use Rattle.gm_ast.specs.declared.tree.Head.{Head}
use Rattle.gm_ast.specs.declared.tree.Key.{Key}
use Rattle.gm_ast.specs.Program as P
use Rattle.gm_ast.specs.Program.{Expr, Stmt}
use Rattle.gm_forms.proofs.Takings.{Before}
use Rattle.gm_semantics.specs.declared.faults.Fault.{Fault}
use Rattle.gm_semantics.specs.declared.slots.Slot.{Slot}
use Rattle.gm_semantics.specs.declared.slots.Slot.TheVariants as slots
use Rattle.gm_semantics.specs.Contributions.{Contribution, statement_of, to_target, settled_store, total_faults, value_after}
use Rattle.gm_semantics.specs.Faults.{least, lower, somes, joined, unless_fault}
use Rattle.gm_semantics.specs.Laws.{OneReduction, Distinct}
use Rattle.gm_semantics.specs.Loops.{parallel}
use Rattle.gm_semantics.proofs.ContributionLaws.{IsIn-filter, IsIn-same, slots_eq-true, settled_store-same, total_faults-same}
use Rattle.gm_semantics.proofs.Leasts.{lesser_of, least-append}
use Rattle.gm_semantics.specs.Iterations.{Loop, Iteration}
use Rattle.gm_semantics.specs.Levels.{nodes}
use Rattle.gm_semantics.specs.Stores.{Store, slots_eq}
use Rattle.gm_typed_stores.specs.Tells.{TypeTable}
use Rattle.gm_image.specs.Program as image
use Rattle.gm_machine.specs.Machine.{Nodes, Stepped, block_at, superstep}
use Rattle.gm_machine.specs.Vertex.{Message}
use Rattle.gm_lowering.specs.Layouts.{Layout}
use Rattle.gm_lowering.specs.Places.{Spot, segment, spots_in}
use Rattle.gm_lowering.specs.Terms.{Env}
use Rattle.gm_lowering.specs.Plans.{Load, Away, aways}
use Rattle.gm_lowering.specs.Blocks.{receiver_env}
use Rattle.gm_lowering.specs.Sends.{send_block}
use Rattle.gm_lowering.specs.Receiving.{receive_block, given_by, faults_by, inner_spots}
use Rattle.gm_lowering.specs.Phases.{GlobalsApart, NodesInGraph, EdgesShown, Shown, Leaves, StepIs, GivesApart, given_in}
use Rattle.gm_lowering.specs.Settles.{HasSpot, spot_of_fault, fault_or_none, HaveRoom}
use Rattle.gm_lowering.specs.TwoSupersteps.{StepsWithin, HasSender}
use Rattle.gm_lowering.specs.Sent.{AreSent}
use Rattle.gm_lowering.specs.SenderLoops.{TwoStepsAre}
use Rattle.gm_lowering.specs.TakingSteps.{taking_block, Carried, IsTaken, contributions_of}
use Rattle.gm_lowering.specs.MessageLoops.{TurnsAreTyped}
use Rattle.gm_lowering.specs.ReceiverSends.{is_sent, is_received, IsSendingMessageLoop}
use Rattle.gm_lowering.specs.SentBehind.{SentBehind}
use Rattle.gm_lowering.specs.ReceiverSendLoops.{SentLast, ThreeStepsAre, SendingMessageLoopsAreThreeSupersteps}
use Rattle.gm_lowering.proofs.InOrder as I
use Rattle.gm_lowering.proofs.Received.{by_nodes, TookAll, took-all}
use Rattle.gm_lowering.proofs.ReceiverSendSteps.{gave-of, ran, joined-filter, SentFor, sent-joins}
use Rattle.gm_lowering.proofs.Regions.{least-members, in-front, in-back, in-parts}
use Rattle.gm_lowering.proofs.Settles.{least-is}
use Rattle.gm_lowering.proofs.TakingSteps.{taking-blocks}
use Rattle.gm_lowering.proofs.TwoSupersteps.{same-given, apart-given}
use Rattle.gm_lowering.proofs.MessageTurns as T
use Rattle.gm_lowering.proofs.MessageTurns.{MessageLoop}

-- some of what gives apart does so
filtered-apart : (t : Contribution → Bool) (xs : List Contribution) → GivesApart xs → GivesApart (filter t xs)
filtered-apart t xs apart = record {
  one = λ x y slot o w e f. apart.one x y slot (IsIn-filter t x xs o).0 (IsIn-filter t y xs w).0 e f;
  one_total = λ x y o w e f. apart.one_total x y (IsIn-filter t x xs o).0 (IsIn-filter t y xs w).0 e f;
}

-- contributions are those that are received, and those that are sent
parts-bag : (out : List (ℕ × ℕ)) (xs : List Contribution) → SameBag xs (filter (is_received out) xs ++ filter (is_sent out) xs)
parts-bag out [] = same_nil
parts-bag out (x ∷ xs) = by (is_sent out x) (parts-bag out xs) where
  kept : List Contribution
  kept = filter (is_received out) xs

  sent : List Contribution
  sent = filter (is_sent out) xs

  by : (b : Bool) → SameBag xs (kept ++ sent) → SameBag (x ∷ xs) (cond (not b) (x ∷ kept) kept ++ cond b (x ∷ sent) sent)
  by false h = same_cons x h
  by true h = same_trans (same_cons x h) (SameBag-sym (SameBag-middle kept x sent))

none-in : (fs : List Fault) (f : Fault) → least fs ≡ None → IsIn f fs → ⊥
none-in [] f e i = i
none-in (g ∷ gs) f e i = some (least gs) e where
  some : (o : Option Fault) → lesser_of (Some g) o ≡ None → ⊥
  some None k = cc
  some (Some z) k = cc

-- contributions with the messages that carry them
abbrev Pairs : ℕ → List Away → NumberedGraph → List Contribution → List Message → Type 0
Pairs kind sends g cs ms =
    (xs : List (Contribution × Message)) × (contributions_of xs ≡ cs) × (map (λ x. x.1) xs ≡ ms) × ((x : Contribution × Message) → IsIn x xs → Carried kind sends x.0 x.1 × (x.1.to < node_count g))

pairs-of : (kind : ℕ) (sends : List Away) (g : NumberedGraph) (cs : List Contribution) (ms : List Message) → AreSent kind sends g cs ms → Pairs kind sends g cs ms
pairs-of kind sends g [] [] o = ([], refl, refl, λ x i. absurd i)
pairs-of kind sends g [] (m ∷ ms) o = absurd o
pairs-of kind sends g (y ∷ cs) [] o = absurd o
pairs-of kind sends g (y ∷ cs) (m ∷ ms) o =
    let rest = pairs-of kind sends g cs ms o.2 in (
      (y, m) ∷ rest.0,
      ap (λ l. y ∷ l) rest.1,
      ap (λ l. m ∷ l) rest.2,
      λ x i. ⊎_elim (λ (e : x ≡ (y, m)). subst (λ z. Carried kind sends z.0 z.1 × (z.1.to < node_count g)) (sym e) (o.0, o.1)) (λ (w : IsIn x rest.0). rest.3 x w) i,
    )

module _ (c : Layout) (p : image.Program) (fields base q q2 q3 kind : ℕ) (all : List Spot) (loop : Loop) (mask_key : Key) (mask : Expr) (key : Key) (place : Place) (h : Head) (test : Expr) (body : Stmt) (loads : List Load) (out : List (ℕ × ℕ))
    (globals : List Value) (s : Nodes) (r : Store) (table : TypeTable) (around : List ℕ) (result : Option VType)
    (sender : HasSender c loop mask_key mask h loads)
    (able : IsSendingMessageLoop c p.registers fields loop h.iterator loads out test body)
    (typed : TurnsAreTyped c table around result loop h.iterator body r)
    (limit : table.limit ≤ node_count loop.graph)
    (gs : GlobalsApart c (length globals))
    (all_is : all ≡ spots_in mask mask_key ++ inner_spots c loop.outer h.iterator key test body)
    (fit : HaveRoom base all (length p.places))
    (block : block_at p q ≡ send_block c (segment base all) loop.outer mask_key mask h.domain kind loads)
    (block2 : block_at p q2 ≡ receive_block c (segment base all) loop.outer h.iterator loads kind key test body)
    (block3 : block_at p q3 ≡ taking_block c (segment base all) (suc kind) (aways c.declarations h.iterator body))
    (takes : (a : Away) → IsIn a (aways c.declarations h.iterator body) → IsTaken c all a)
    (shown : Shown c p.registers fields loop.graph globals s r)
    (edges : EdgesShown c loop.graph r)
    (in_graph : NodesInGraph c loop.graph r)
    (within : StepsWithin loop.graph h.domain)
    (apart : GivesApart (given_in loop mask_key mask (P.Foreach key place h test body) r))
    (behind : SentBehind out (given_in loop mask_key mask (P.Foreach key place h test body) r)) where
  abbrev g : NumberedGraph
  g = loop.graph

  abbrev sends : List Away
  sends = aways c.declarations h.iterator body

  abbrev first_step : MessageLoop
  first_step = record {
    c = c;
    p = p;
    fields = fields;
    base = base;
    q = q;
    kind = kind;
    all = all;
    loop = loop;
    mask_key = mask_key;
    mask = mask;
    key = key;
    place = place;
    h = h;
    test = test;
    body = body;
    loads = loads;
    globals = globals;
    s = s;
    r = r;
    sender = sender;
    rows = able.apart;
    outer = able.outer;
    types = able.types;
    depths = able.depths;
    all_is = all_is;
    block = block;
    shown = shown;
    edges = edges;
    in_graph = in_graph;
    within = within;
  }

  abbrev v : Env
  v = T.v first_step

  abbrev turns : List (ℕ × Step)
  turns = T.all_turns first_step

  abbrev turn : ℕ × Step → Iteration
  turn = T.turn first_step

  abbrev first : Stepped
  first = T.first first_step

  abbrev second : Stepped
  second = superstep p g q2 first.globals first.nodes

  abbrev third : Stepped
  third = superstep p g q3 second.globals second.nodes

  abbrev inner : Stmt
  inner = T.inner first_step

  inside : (x : ℕ × Step) → IsIn x turns → x.1.node < node_count g
  inside x o = (T.turn-inside first_step x o).1

  turn-gave : (x : ℕ × Step) → IsIn x turns → ((turn x).with_inner ≡ []) × ((turn x).deferred ≡ [])
  turn-gave x o =
      let q =
      gave-of c p fields base all loop h.iterator loads out kind key test body globals (slice_index_or s.fields x.1.node []) x.1.node r (T.msg first_step) table around result able typed limit (T.incl first_step) fit
      (T.node-shows first_step x.1.node (inside x o)) x (T.message-of first_step x.1.node x o refl) in
      (q.inner, q.deferred)

  -- contributions, in the order of the senders and in that of the receivers
  abbrev given_at : ℕ × Step → List Contribution
  given_at x = (turn x).with_outermost

  abbrev sent_order : List Contribution
  sent_order = given_by turn turns

  abbrev given_order : List Contribution
  given_order = given_by turn (by_nodes g turns)

  same-bag : SameBag sent_order given_order
  same-bag = same-given g turns given_at inside

  apart-sent : GivesApart sent_order
  apart-sent = subst GivesApart (T.given-is first_step turn-gave) apart

  apart-order : GivesApart given_order
  apart-order = apart-given sent_order given_order same-bag apart-sent

  -- a part of them in both orders
  part-bag : (t : Contribution → Bool) → SameBag (filter t sent_order) (filter t given_order)
  part-bag t =
      subst (λ l. SameBag l (filter t given_order)) (joined-filter t given_at turns)
      (subst (λ l. SameBag (joined (map (λ x. filter t (given_at x)) turns)) l) (joined-filter t given_at (by_nodes g turns)) (same-given g turns (λ x. filter t (given_at x)) inside))

  -- the two parts
  abbrev kept_part : List Contribution
  kept_part = filter (is_received out) given_order

  abbrev pub sent_part : List Contribution
  sent_part = filter (is_sent out) given_order

  abbrev between : Store
  between = settled_store r kept_part

  -- one after the other
  abbrev whole : List Contribution
  whole = kept_part ++ sent_part

  whole-bag : SameBag given_order whole
  whole-bag = parts-bag out given_order

  one-whole : OneReduction whole
  one-whole = (apart-given given_order whole whole-bag apart-order).one

  in-given : (x : Contribution) → IsIn x given_order → IsIn x (given_in loop mask_key mask (P.Foreach key place h test body) r)
  in-given x i = subst (IsIn x) (sym (T.given-is first_step turn-gave)) (IsIn-same x (SameBag-sym same-bag) i)

  in-kept : (x : Contribution) → IsIn x kept_part → IsIn x given_order × (is_sent out x ≡ false)
  in-kept x i = let w = IsIn-filter (is_received out) x given_order i in (w.0, not-true (is_sent out x) w.1)

  -- to each target, what is sent comes behind the rest
  stands : (slots : List Slot) → Before (to_target slots kept_part) (to_target slots sent_part)
  stands slots = record { numbers = λ x y i j. (by x y i j).0; reduces = λ x y i j. (by x y i j).1 } where
    by : (x y : Contribution) → IsIn x (to_target slots kept_part) → IsIn y (to_target slots sent_part) → (statement_of x < statement_of y) × (x.reduce ≡ y.reduce)
    by x y i j =
        let a = IsIn-filter (λ (z : Contribution). slots_eq slots z.slots) x kept_part i in
        let b = IsIn-filter (λ (z : Contribution). slots_eq slots z.slots) y sent_part j in
        let d = in-kept x a.0 in
        let e = IsIn-filter (is_sent out) y given_order b.0 in
        behind.later x y (in-given x d.0) (in-given y e.0) d.1 e.1 (sym (slots_eq-true slots x.slots a.1) ∙ slots_eq-true slots y.slots b.1)

  distinct : (x : Contribution) → IsIn x kept_part → Distinct x.slots
  distinct x i = behind.distinct x (in-given x (in-kept x i).0)

  -- the second superstep
  took : TookAll c v all p.registers fields g globals r kept_part (faults_by turn turns) (λ ms. AreSent (suc kind) sends g sent_part ms) second
  took =
      subst (λ l. TookAll c v all p.registers fields g globals r l (faults_by turn turns) (λ ms. AreSent (suc kind) sends g sent_part ms) second) (joined-filter (is_received out) given_at (by_nodes g turns))
      (took-all c v p fields base q2 all g globals s r (receive_block c (segment base all) loop.outer h.iterator loads kind key test body).handlers turns (T.msg first_step) (λ x. filter (is_received out) (given_at x)) (λ x. (turn x).fault)
      (SentFor (suc kind) sends g out turn) (sent-joins (suc kind) sends g out turn) able.apart gs refl fit block2 shown (λ x. refl) inside
      (λ x o.
      ran c p fields base all loop h.iterator loads out kind key test body globals (slice_index_or s.fields x.1.node []) x.1.node r (T.msg first_step) table around result able typed limit (T.incl first_step) fit
      (T.node-shows first_step x.1.node (inside x o)) x (T.message-of first_step x.1.node x o refl))
      first (T.first-globals first_step) (T.first-sent first_step) (T.first-fields first_step)
      (subst GivesApart (sym (joined-filter (is_received out) given_at (by_nodes g turns))) (filtered-apart (is_received out) given_order apart-order)))

  pairs : Pairs (suc kind) sends g sent_part second.nodes.sent
  pairs = pairs-of (suc kind) sends g sent_part second.nodes.sent took.sent

  -- the third superstep takes what was sent
  taken : StepIs c v all p.registers fields g second.globals (unless_fault (least (total_faults between sent_part)) (Ok (settled_store between sent_part))) third
  taken =
      subst (λ cs. StepIs c v all p.registers fields g second.globals (unless_fault (least (total_faults between cs)) (Ok (settled_store between cs))) third) pairs.1
      (taking-blocks c p fields base q3 (suc kind) all v g sends second.globals second.nodes between pairs.0 refl able.apart fit block3 takes took.shown (sym pairs.2) pairs.3
      (subst GivesApart (sym pairs.1) (filtered-apart (is_sent out) given_order apart-order)))

  -- faults
  abbrev pub firsts : List Fault
  firsts = faults_by turn turns ++ total_faults r kept_part

  abbrev pub seconds : List Fault
  seconds = total_faults between sent_part

  abbrev taken_faults : List Fault
  taken_faults = faults_by turn turns ++ total_faults r whole

  abbrev its_faults : List Fault
  its_faults = somes (map (λ x. x.fault) (T.its first_step))

  abbrev meant_faults : List Fault
  meant_faults = its_faults ++ total_faults r sent_order

  to-parts : (f : Fault) → IsIn f taken_faults → IsIn f (firsts ++ seconds)
  to-parts f i =
      ⊎_elim
      (λ (w : IsIn f (faults_by turn turns)). in-front f firsts seconds (in-front f (faults_by turn turns) (total_faults r kept_part) w))
      (λ (w : IsIn f (total_faults r whole)).
      ⊎_elim
      (λ (u : IsIn f (total_faults r kept_part)). in-front f firsts seconds (in-back f (faults_by turn turns) (total_faults r kept_part) u))
      (λ (u : IsIn f seconds). in-back f firsts seconds u)
      (I.to-parts r kept_part sent_part stands distinct one-whole f w))
      (in-parts f (faults_by turn turns) (total_faults r whole) i)

  from-firsts : (f : Fault) → IsIn f firsts → IsIn f taken_faults
  from-firsts f i =
      ⊎_elim
      (λ (u : IsIn f (faults_by turn turns)). in-front f (faults_by turn turns) (total_faults r whole) u)
      (λ (u : IsIn f (total_faults r kept_part)). in-back f (faults_by turn turns) (total_faults r whole) (I.from-first r kept_part sent_part stands distinct one-whole f u))
      (in-parts f (faults_by turn turns) (total_faults r kept_part) i)

  -- where the first part has no fault, the totals of what is sent are the second superstep's
  first-fine : least firsts ≡ None → (f : Fault) → IsIn f (total_faults r kept_part) → ⊥
  first-fine e f i = none-in firsts f e (in-back f (faults_by turn turns) (total_faults r kept_part) i)

  taken-none : least firsts ≡ None → least taken_faults ≡ least seconds
  taken-none e =
      least-members taken_faults (firsts ++ seconds) to-parts
      (λ f i. ⊎_elim (λ (w : IsIn f firsts). from-firsts f w)
      (λ (w : IsIn f seconds). in-back f (faults_by turn turns) (total_faults r whole) (I.from-second r kept_part sent_part stands distinct one-whole (first-fine e) f w)) (in-parts f firsts seconds i))
      ∙ least-append firsts seconds
      ∙ ap (λ o. lesser_of o (least seconds)) e
      ∙ none-first (least seconds) where
        none-first : (o : Option Fault) → lesser_of None o ≡ o
        none-first None = refl
        none-first (Some z) = refl

  with-its : (xs ys : List Contribution) → least (total_faults r xs) ≡ least (total_faults r ys) → least (its_faults ++ total_faults r xs) ≡ least (faults_by turn turns ++ total_faults r ys)
  with-its xs ys e =
      least-append its_faults (total_faults r xs)
      ∙ ap (λ o. lesser_of o (least (total_faults r xs))) (T.faults-are first_step turn-gave)
      ∙ ap (lesser_of (least (faults_by turn turns))) e
      ∙ sym (least-append (faults_by turn turns) (total_faults r ys))

  meant-is : least meant_faults ≡ least taken_faults
  meant-is = with-its sent_order whole (total_faults-same r apart-sent.one (same_trans same-bag whole-bag))

  -- the first of both parts, in the order of the senders
  abbrev firsts_sent : List Fault
  firsts_sent = its_faults ++ total_faults r (filter (is_received out) sent_order)

  abbrev seconds_sent : List Fault
  seconds_sent = total_faults (settled_store r (filter (is_received out) sent_order)) (filter (is_sent out) sent_order)

  firsts-same : least firsts_sent ≡ least firsts
  firsts-same = with-its (filter (is_received out) sent_order) kept_part (total_faults-same r (filtered-apart (is_received out) sent_order apart-sent).one (part-bag (is_received out)))

  seconds-same : least seconds_sent ≡ least seconds
  seconds-same =
      ap (λ st. least (total_faults st (filter (is_sent out) sent_order))) (settled_store-same r (filtered-apart (is_received out) sent_order apart-sent).one (part-bag (is_received out)))
      ∙ total_faults-same between (filtered-apart (is_sent out) sent_order apart-sent).one (part-bag (is_sent out))

  abbrev left : Store
  left = settled_store r sent_order

  left-is : settled_store r whole ≡ left
  left-is = sym (settled_store-same r apart-sent.one (same_trans same-bag whole-bag))

  -- where no part has a fault, the third superstep leaves what the loop leaves
  moved : least firsts ≡ None → least seconds ≡ None → Leaves c p.registers fields g second.globals (settled_store between sent_part) third → Leaves c p.registers fields g globals (settled_store r whole) third
  moved e f l = record {
    fine = l.fine;
    shown = record {
      scalars = λ x lt d o. l.shown.scalars x lt d o ∙ value-is (slots.Scalar x);
      locals = λ x lt d. l.shown.locals x lt d ∙ value-is (slots.Scalar x);
      properties = λ k lt y o. l.shown.properties k lt y o ∙ value-is (slots.Node y k);
      widths = l.shown.widths;
      all_nodes = l.shown.all_nodes;
      idle = l.shown.idle;
    };
    others = λ i none. l.others i none ∙ took.others i none;
    count = l.count ∙ took.count;
  } where
    value-is : (slot : Slot) → value_after between sent_part slot ≡ value_after r whole slot
    value-is = I.value-is r kept_part sent_part stands distinct one-whole (first-fine e) (λ x i. none-in seconds x f i)

  finish : (o : Option Fault) → least firsts ≡ None → least seconds ≡ o → StepIs c v all p.registers fields g second.globals (unless_fault o (Ok (settled_store between sent_part))) third → StepIs c v all p.registers fields g globals (unless_fault o (Ok left)) third
  finish None e f l = subst (λ st. Leaves c p.registers fields g globals st third) left-is (moved e f l)
  finish (Some z) e f l = l

  abbrev looped : Result Store Fault
  looped = parallel loop mask_key mask (P.Foreach key place h test body) (nodes g) r

  -- what is asked of the faults: those of the totals of what is sent come last
  abbrev pub AreLast : Type 0
  AreLast = (x y : Fault) → least firsts ≡ Some x → least seconds ≡ Some y → lower x y ≡ x

  -- then the least fault of all is that of the first part, if there is one
  first-leads : AreLast → (x : Fault) → least firsts ≡ Some x → least taken_faults ≡ Some x
  first-leads last x e =
      least-members taken_faults (firsts ++ taken_faults) (λ f i. in-back f firsts taken_faults i)
      (λ f i. ⊎_elim (λ (w : IsIn f firsts). from-firsts f w) (λ (w : IsIn f taken_faults). w) (in-parts f firsts taken_faults i))
      ∙ least-append firsts taken_faults
      ∙ ap (λ o. lesser_of o (least taken_faults)) e
      ∙ by (least taken_faults) refl where
        lead : (o : Option Fault) → least seconds ≡ o → lesser_of (Some x) (least seconds) ≡ Some x
        lead None o = ap (lesser_of (Some x)) o
        lead (Some y) o = ap (lesser_of (Some x)) o ∙ ap Some (last x y e o)

        both : least (firsts ++ seconds) ≡ Some x
        both = least-append firsts seconds ∙ ap (λ o. lesser_of o (least seconds)) e ∙ lead (least seconds) refl

        by : (o : Option Fault) → least taken_faults ≡ o → lesser_of (Some x) (least taken_faults) ≡ Some x
        by None o = ap (lesser_of (Some x)) o
        by (Some y) o = ap (lesser_of (Some x)) o ∙ ap Some ((least-is (firsts ++ seconds) x both).lowest y (to-parts y (least-is taken_faults y o).is_in))

  pub three-steps-by : AreLast → ThreeStepsAre c v all p.registers fields g globals looped first second third
  three-steps-by last = (T.first-fault first_step, T.first-globals first_step, (by (least firsts) (least seconds) refl refl)) where
    result-by : (o : Option Fault) → least meant_faults ≡ o → looped ≡ unless_fault o (Ok left)
    result-by o e = T.loop-is first_step turn-gave ∙ ap (λ z. unless_fault z (Ok left)) e

    by : (a b : Option Fault) → least firsts ≡ a → least seconds ≡ b → TwoStepsAre c v all p.registers fields g globals looped second third
    by None b e f = inl (
      took.fault ∙ ap (fault_or_none v) e,
      subst (λ z. StepIs c v all p.registers fields g globals z third) (sym (result-by b (meant-is ∙ taken-none e ∙ f)))
          (finish b e f (subst (λ z. StepIs c v all p.registers fields g second.globals (unless_fault z (Ok (settled_store between sent_part))) third) f taken)),
    )
    by (Some x) b e f = inr (
      x,
      result-by (Some x) (meant-is ∙ first-leads last x e),
      took.fault ∙ ap (fault_or_none v) e,
      took.spotted x (least-is firsts x e).is_in,
    )

  -- so they do where each fault that has a spot comes before those of the totals of what messages carry
  pub last-by-spots : ((f : Fault) (part cs : List Contribution) (ms : List Message) → HasSpot (spot_of_fault f) all → AreSent (suc kind) sends g cs ms
      → ((y : Contribution) → IsIn y part → IsIn y (given_in loop mask_key mask (P.Foreach key place h test body) r)) → ((y : Contribution) → IsIn y cs → IsIn y (given_in loop mask_key mask (P.Foreach key place h test body) r))
      → (x : Fault) → IsIn x (total_faults (settled_store r part) cs) → lower f x ≡ f) → AreLast
  last-by-spots ends x y e f =
      ends x kept_part sent_part second.nodes.sent (took.spotted x (least-is firsts x e).is_in) took.sent
      (λ z i. in-given z (in-kept z i).0) (λ z i. in-given z (IsIn-filter (is_sent out) z given_order i).0)
      y (least-is seconds y f).is_in

  pub are-last : SentLast out its_faults r (given_in loop mask_key mask (P.Foreach key place h test body) r) → AreLast
  are-last last x y e f =
      subst (λ l. SentLast out its_faults r l) (T.given-is first_step turn-gave) last x y (least-is firsts_sent x (firsts-same ∙ e)).is_in (least-is seconds_sent y (seconds-same ∙ f)).is_in

pub sending-message-loops : SendingMessageLoopsAreThreeSupersteps
sending-message-loops c p fields base q q2 q3 kind all loop mask_key mask key place h test body loads out globals s r table around result sender able typed limit gs all_is fit block block2 block3 takes shown edges in_graph within apart behind last =
    three-steps-by c p fields base q q2 q3 kind all loop mask_key mask key place h test body loads out globals s r table around result sender able typed limit gs all_is fit block block2 block3 takes shown edges in_graph within apart behind
    (are-last c p fields base q q2 q3 kind all loop mask_key mask key place h test body loads out globals s r table around result sender able typed limit gs all_is fit block block2 block3 takes shown edges in_graph within apart behind last)

-- the same where each fault that has a spot comes before those of the totals of what messages carry
pub message-loops-by-spots : (c : Layout) (p : image.Program) (fields base q q2 q3 kind : ℕ) (all : List Spot) (loop : Loop) (mask_key : Key) (mask : Expr) (key : Key) (place : Place) (h : Head) (test : Expr) (body : Stmt) (loads : List Load) (out : List (ℕ × ℕ))
    (globals : List Value) (s : Nodes) (r : Store) (table : TypeTable) (around : List ℕ) (result : Option VType)
    → let inner = P.Foreach key place h test body in
    let seg = segment base all in
    let sends = aways c.declarations h.iterator body in
    let first = superstep p loop.graph q globals s in
    let second = superstep p loop.graph q2 first.globals first.nodes in
    let third = superstep p loop.graph q3 second.globals second.nodes in
    HasSender c loop mask_key mask h loads
    → IsSendingMessageLoop c p.registers fields loop h.iterator loads out test body
    → TurnsAreTyped c table around result loop h.iterator body r
    → table.limit ≤ node_count loop.graph
    → GlobalsApart c (length globals)
    → all ≡ spots_in mask mask_key ++ inner_spots c loop.outer h.iterator key test body
    → HaveRoom base all (length p.places)
    → block_at p q ≡ send_block c seg loop.outer mask_key mask h.domain kind loads
    → block_at p q2 ≡ receive_block c seg loop.outer h.iterator loads kind key test body
    → block_at p q3 ≡ taking_block c seg (suc kind) sends
    → ((a : Away) → IsIn a sends → IsTaken c all a)
    → Shown c p.registers fields loop.graph globals s r
    → EdgesShown c loop.graph r
    → NodesInGraph c loop.graph r
    → StepsWithin loop.graph h.domain
    → GivesApart (given_in loop mask_key mask inner r)
    → SentBehind out (given_in loop mask_key mask inner r)
    → ((f : Fault) (part cs : List Contribution) (ms : List Message) → HasSpot (spot_of_fault f) all → AreSent (suc kind) sends loop.graph cs ms
    → ((y : Contribution) → IsIn y part → IsIn y (given_in loop mask_key mask inner r)) → ((y : Contribution) → IsIn y cs → IsIn y (given_in loop mask_key mask inner r))
    → (x : Fault) → IsIn x (total_faults (settled_store r part) cs) → lower f x ≡ f)
    → ThreeStepsAre c (receiver_env c seg loop.outer h.iterator loads) all p.registers fields loop.graph globals (parallel loop mask_key mask inner (nodes loop.graph) r) first second third
message-loops-by-spots c p fields base q q2 q3 kind all loop mask_key mask key place h test body loads out globals s r table around result sender able typed limit gs all_is fit block block2 block3 takes shown edges in_graph within apart behind ends =
    three-steps-by c p fields base q q2 q3 kind all loop mask_key mask key place h test body loads out globals s r table around result sender able typed limit gs all_is fit block block2 block3 takes shown edges in_graph within apart behind
    (last-by-spots c p fields base q q2 q3 kind all loop mask_key mask key place h test body loads out globals s r table around result sender able typed limit gs all_is fit block block2 block3 takes shown edges in_graph within apart behind ends)
