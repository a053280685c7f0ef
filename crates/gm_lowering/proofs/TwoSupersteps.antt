-- A message loop is two supersteps.
use Rattle.std.proofs.Common.{◌≡◌, ◌<◌, ℕ, Option, Some, None, Ok, List, [], ◌++◌, length, map, refl, ap, ◌∙◌, sym, subst}
use Rattle.std.specs.Prelude.{◌+◌, slice_index_or}
use Rattle.gm_base.specs.declared.places.Place.{Place}
use Rattle.gm_value.specs.declared.values.VType.{VType}
use Rattle.gm_value.specs.declared.values.Value.{Value}
use Rattle.gm_value.specs.Bag.{IsIn, SameBag, same_nil, same_cons, same_swap, same_trans}
use Rattle.gm_model.specs.Graphs.{NumberedGraph, Step, node_count}
use Rattle.gm_ast.specs.declared.tree.Head.{Head}
use Rattle.gm_ast.specs.declared.tree.Key.{Key}
use Rattle.gm_ast.specs.Program as P
use Rattle.gm_ast.specs.Program.{Expr, Stmt}
use Rattle.gm_semantics.specs.declared.faults.Fault.{Fault}
use Rattle.gm_semantics.specs.Contributions.{Contribution, settled_store, total_faults}
use Rattle.gm_semantics.specs.Faults.{least, somes, joined, unless_fault}
use Rattle.gm_semantics.specs.Loops.{parallel}
use Rattle.gm_semantics.proofs.ContributionLaws.{IsIn-same, settled_store-same, total_faults-same}
use Rattle.gm_semantics.proofs.Leasts.{lesser_of, least-append}
use Rattle.gm_semantics.proofs.OrderLaws.{joined-same}
use Rattle.gm_semantics.specs.Iterations.{Loop, Iteration}
use Rattle.gm_semantics.specs.Levels.{nodes}
use Rattle.gm_semantics.specs.Stores.{Store}
use Rattle.gm_typed_stores.specs.Tells.{TypeTable}
use Rattle.gm_image.specs.Program as image
use Rattle.gm_machine.specs.Machine.{Nodes, Stepped, block_at, superstep}
use Rattle.gm_lowering.specs.Layouts.{Layout}
use Rattle.gm_lowering.specs.Places.{Spot, segment, spots_in}
use Rattle.gm_lowering.specs.Terms.{Env}
use Rattle.gm_lowering.specs.Plans.{Load}
use Rattle.gm_lowering.specs.MessageLoops.{IsMessageLoop, TurnsTyped}
use Rattle.gm_lowering.specs.Sends.{send_block}
use Rattle.gm_lowering.specs.Receiving.{receive_block, given_by, faults_by, inner_spots}
use Rattle.gm_lowering.specs.Phases.{GlobalsApart, NodesInGraph, EdgesShown, Shown, Leaves, StepIs, GivesApart, given_in}
use Rattle.gm_lowering.specs.Settles.{fault_or_none, HaveRoom}
use Rattle.gm_lowering.specs.TwoSupersteps.{StepsWithin, HasSender, MessageLoopsAreTwoSupersteps}
use Rattle.gm_lowering.proofs.Receiving.{gave-of, nothing-joins, ran}
use Rattle.gm_lowering.proofs.Received.{node_of, by_nodes, TookAll, took-all}
use Rattle.gm_lowering.proofs.Regions.{by-parts}
use Rattle.gm_lowering.proofs.Settles.{least-is}
use Rattle.gm_lowering.proofs.MessageTurns as T
use Rattle.gm_lowering.proofs.MessageTurns.{MessageLoop}

-- turns in the order of the nodes that they reach give the same in another order
pub same-given : {A : Type 0} (g : NumberedGraph) (turns : List (ℕ × Step)) (f : ℕ × Step → List A) → ((x : ℕ × Step) → IsIn x turns → x.1.node < node_count g)
    → SameBag (joined (map f turns)) (joined (map f (by_nodes g turns)))
same-given g turns f inside = joined-same f (by-parts node_of turns (node_count g) inside)

-- so they give apart alike
pub apart-given : (xs ys : List Contribution) → SameBag xs ys → GivesApart xs → GivesApart ys
apart-given xs ys same apart = record {
  one = λ x y slot o w e f. apart.one x y slot (back x o) (back y w) e f;
  one_total = λ x y o w e f. apart.one_total x y (back x o) (back y w) e f;
} where
  turned : {A : Type 0} {xs ys : List A} → SameBag xs ys → SameBag ys xs
  turned same_nil = same_nil
  turned (same_cons x w) = same_cons x (turned w)
  turned (same_swap x y xs) = same_swap y x xs
  turned (same_trans w u) = same_trans (turned u) (turned w)

  back : (y : Contribution) → IsIn y ys → IsIn y xs
  back y o = IsIn-same y (turned same) o

module _ (c : Layout) (p : image.Program) (fields base q q2 kind : ℕ) (all : List Spot) (loop : Loop) (mask_key : Key) (mask : Expr) (key : Key) (place : Place) (h : Head) (test : Expr) (body : Stmt) (loads : List Load)
    (globals : List Value) (s : Nodes) (r : Store) (table : TypeTable) (around : List ℕ) (result : Option VType)
    (sender : HasSender c loop mask_key mask h loads)
    (able : IsMessageLoop c p.registers fields loop h.iterator loads test body)
    (typed : TurnsTyped c table around result loop h.iterator body r)
    (gs : GlobalsApart c (length globals))
    (all_is : all ≡ spots_in mask mask_key ++ inner_spots c loop.outer h.iterator key test body)
    (fit : HaveRoom base all (length p.places))
    (block : block_at p q ≡ send_block c (segment base all) loop.outer mask_key mask h.domain kind loads)
    (block2 : block_at p q2 ≡ receive_block c (segment base all) loop.outer h.iterator loads kind key test body)
    (shown : Shown c p.registers fields loop.graph globals s r)
    (edges : EdgesShown c loop.graph r)
    (in_graph : NodesInGraph c loop.graph r)
    (within : StepsWithin loop.graph h.domain)
    (apart : GivesApart (given_in loop mask_key mask (P.Foreach key place h test body) r)) where
  abbrev g : NumberedGraph
  g = loop.graph

  abbrev first_step : MessageLoop
  first_step = record {
    c = c;
    p = p;
    fields = fields;
    base = base;
    q = q;
    kind = kind;
    all = all;
    loop = loop;
    mask_key = mask_key;
    mask = mask;
    key = key;
    place = place;
    h = h;
    test = test;
    body = body;
    loads = loads;
    globals = globals;
    s = s;
    r = r;
    sender = sender;
    rows = able.apart;
    outer = able.outer;
    types = able.types;
    depths = able.depths;
    all_is = all_is;
    block = block;
    shown = shown;
    edges = edges;
    in_graph = in_graph;
    within = within;
  }

  abbrev v : Env
  v = T.v first_step

  abbrev turns : List (ℕ × Step)
  turns = T.all_turns first_step

  abbrev turn : ℕ × Step → Iteration
  turn = T.turn first_step

  abbrev first : Stepped
  first = T.first first_step

  abbrev second : Stepped
  second = superstep p g q2 first.globals first.nodes

  abbrev inner : Stmt
  inner = T.inner first_step

  inside : (x : ℕ × Step) → IsIn x turns → x.1.node < node_count g
  inside x o = (T.turn-inside first_step x o).1

  turn-gave : (x : ℕ × Step) → IsIn x turns → ((turn x).with_inner ≡ []) × ((turn x).deferred ≡ [])
  turn-gave x o =
      let q =
      gave-of c p fields base all loop h.iterator loads kind key test body globals (slice_index_or s.fields x.1.node []) x.1.node r (T.msg first_step) table around result able typed (T.incl first_step) fit
      (T.node-shows first_step x.1.node (inside x o)) x (T.message-of first_step x.1.node x o refl) in
      (q.inner, q.deferred)

  -- contributions, in the order of the senders and in that of the receivers
  abbrev sent_order : List Contribution
  sent_order = given_by turn turns

  abbrev given_order : List Contribution
  given_order = given_by turn (by_nodes g turns)

  same-bag : SameBag sent_order given_order
  same-bag = same-given g turns (λ x. (turn x).with_outermost) inside

  apart-sent : GivesApart sent_order
  apart-sent = subst GivesApart (T.given-is first_step turn-gave) apart

  -- the second superstep
  took : TookAll c v all p.registers fields g globals r given_order (faults_by turn turns) (λ ms. ms ≡ []) second
  took =
      took-all c v p fields base q2 all g globals s r (receive_block c (segment base all) loop.outer h.iterator loads kind key test body).handlers turns (T.msg first_step) (λ x. (turn x).with_outermost) (λ x. (turn x).fault)
      (λ xs ms. ms ≡ []) nothing-joins able.apart gs refl fit block2 shown (λ x. refl) inside
      (λ x o.
      ran c p fields base all loop h.iterator loads kind key test body globals (slice_index_or s.fields x.1.node []) x.1.node r (T.msg first_step) table around result able typed (T.incl first_step) fit
      (T.node-shows first_step x.1.node (inside x o)) x (T.message-of first_step x.1.node x o refl))
      first (T.first-globals first_step) (T.first-sent first_step) (T.first-fields first_step) (apart-given sent_order given_order same-bag apart-sent)

  abbrev meant_faults : List Fault
  meant_faults = somes (map (λ x. x.fault) (T.its first_step)) ++ total_faults r sent_order

  abbrev taken_faults : List Fault
  taken_faults = faults_by turn turns ++ total_faults r given_order

  faults-same : least meant_faults ≡ least taken_faults
  faults-same =
      least-append (somes (map (λ x. x.fault) (T.its first_step))) (total_faults r sent_order)
      ∙ ap (λ o. lesser_of o (least (total_faults r sent_order))) (T.faults-are first_step turn-gave)
      ∙ ap (lesser_of (least (faults_by turn turns))) (total_faults-same r apart-sent.one same-bag)
      ∙ sym (least-append (faults_by turn turns) (total_faults r given_order))

  abbrev left : Store
  left = settled_store r sent_order

  left-is : settled_store r given_order ≡ left
  left-is = sym (settled_store-same r apart-sent.one same-bag)

  leaves-store : least meant_faults ≡ None → Leaves c p.registers fields g globals left second
  leaves-store fine = record {
    fine = took.fault ∙ ap (fault_or_none v) (sym faults-same ∙ fine);
    shown = record {
      scalars = now.scalars;
      locals = now.locals;
      properties = now.properties;
      widths = now.widths;
      all_nodes = now.all_nodes;
      idle = took.sent;
    };
    others = took.others;
    count = took.count;
  } where
    now : Shown c p.registers fields g second.globals (record (second.nodes) { sent = [] }) left
    now = subst (λ st. Shown c p.registers fields g second.globals (record (second.nodes) { sent = [] }) st) left-is took.shown

  pub message-loop : (first.fault ≡ None) × (first.globals ≡ globals) × StepIs c v all p.registers fields g globals (parallel loop mask_key mask inner (nodes g) r) second
  message-loop = (
    T.first-fault first_step,
    T.first-globals first_step,
    subst (λ a. StepIs c v all p.registers fields g globals a second) (sym (T.loop-is first_step turn-gave)) (by (least meant_faults) refl),
  ) where
    by : (o : Option Fault) → least meant_faults ≡ o → StepIs c v all p.registers fields g globals (unless_fault o (Ok left)) second
    by None e = leaves-store e
    by (Some f) e = (took.fault ∙ ap (fault_or_none v) (sym faults-same ∙ e), took.spotted f (least-is taken_faults f (sym faults-same ∙ e)).is_in)

pub message-loops : MessageLoopsAreTwoSupersteps
message-loops c p fields base q q2 kind all loop mask_key mask key place h test body loads globals s r table around result sender able typed gs all_is fit block block2 shown edges in_graph within apart =
    message-loop c p fields base q q2 kind all loop mask_key mask key place h test body loads globals s r table around result sender able typed gs all_is fit block block2 shown edges in_graph within apart
