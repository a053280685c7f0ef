-- Two supersteps are an own loop that sends through node variables.
use Rattle.std.proofs.Common.{◌≡◌, ◌<◌, ◌≤◌, ℕ, Bool, true, false, Option, Some, None, Result, Ok, Err, List, [], ◌∷◌, ◌++◌, length, map, refl, ap, ◌∙◌, sym, subst}
use Rattle.std.specs.Prelude.{◌&&◌, ◌||◌, not, nat_eq, if◌then◌else◌, slice_index_or, filter}
use Rattle.std.specs.List.{list_all}
use Rattle.std.proofs.lemmas.Bool.{both_ways, eq-eqb, eqb-true, not-true}
use Rattle.gm_value.specs.declared.values.VType.{VType}
use Rattle.gm_value.specs.declared.values.Value.{Value}
use Rattle.gm_value.specs.declared.values.Value.TheVariants.{At}
use Rattle.gm_value.specs.declared.reductions.Reduce.{Reduce}
use Rattle.gm_value.specs.Bag.{IsIn}
use Rattle.gm_value.specs.Operations.{is_true}
use Rattle.gm_model.specs.Graphs.{NumberedGraph, node_count}
use Rattle.gm_ast.specs.declared.tree.Key.{Key}
use Rattle.gm_ast.specs.declared.tree.Target.{Target}
use Rattle.gm_ast.specs.declared.tree.Target.TheVariants as T
use Rattle.gm_ast.specs.declared.tree.TotalKey.{TotalKey}
use Rattle.gm_ast.specs.Program as S
use Rattle.gm_ast.specs.Program.{Expr, Stmt}
use Rattle.gm_ast.specs.Ways.{is_in}
use Rattle.gm_forms.proofs.Named.{both-true}
use Rattle.gm_semantics.specs.declared.faults.Fault.{Fault}
use Rattle.gm_semantics.specs.declared.slots.Slot.TheVariants as slots
use Rattle.gm_semantics.specs.Contributions.{Contribution, total_faults}
use Rattle.gm_semantics.specs.Expressions.{value}
use Rattle.gm_semantics.specs.Faults.{somes}
use Rattle.gm_semantics.specs.Iterations.{Loop, Outermost, Iteration, begun, view_in, with_ok, one_way, as_it_is, does}
use Rattle.gm_semantics.specs.Levels.{nodes}
use Rattle.gm_semantics.specs.Loops.{iteration, own_left, parallel}
use Rattle.gm_semantics.specs.Statements.{variable_at}
use Rattle.gm_semantics.specs.Stores.{Store, write}
use Rattle.gm_typed_stores.specs.Tells.{TypeTable}
use Rattle.gm_image.specs.Program as image
use Rattle.gm_machine.specs.Machine.{Nodes, context_at, block_at, superstep}
use Rattle.gm_machine.specs.Vertex.{After, vertex_after}
use Rattle.gm_lowering.specs.Layouts.{Layout, is_register}
use Rattle.gm_lowering.specs.Places.{Spot, Segment, segment, spots_in, spots_in_all, spot_at}
use Rattle.gm_lowering.specs.Terms.{Env, own_env}
use Rattle.gm_lowering.specs.Plans.{Away, aways, way_of, is_property_of}
use Rattle.gm_lowering.specs.Bodies.{spots_of, reduce_spots}
use Rattle.gm_lowering.specs.Sites.{is_body, are_of_scalars}
use Rattle.gm_lowering.specs.OwnLoops.{own_finds, own_sets, own_gives, fold_spots, HaveIndices, own_block, AreTyped, NodeShows}
use Rattle.gm_lowering.specs.MessageLoops.{is_to_scalars, is_to_nodes}
use Rattle.gm_lowering.specs.Sent.{sends_through, AreSent}
use Rattle.gm_lowering.specs.Phases.{GlobalsApart, NodesInGraph, Shown, GivesApart, given_in, own_spots}
use Rattle.gm_lowering.specs.Settles.{HasSpot, spot_of_fault, HaveRoom}
use Rattle.gm_lowering.specs.TakingSteps.{taking_block, IsTaken}
use Rattle.gm_lowering.specs.SenderLoops.{TotalsLast, TwoStepsAre}
use Rattle.gm_lowering.specs.OwnSends.{sending_gives, IsSendingOwnLoop, OwnSends}
use Rattle.gm_lowering.specs.OwnSendLoops.{SendingOwnLoopsAreTwoSupersteps}
use Rattle.gm_lowering.proofs.Givens.{node_slots}
use Rattle.gm_lowering.proofs.Kept.{Gives, body-gives}
use Rattle.gm_lowering.proofs.Orders.{index-within}
use Rattle.gm_lowering.proofs.OwnFacts.{own-left, own-puts-at, own-fold-spotted, folds-spotted-by}
use Rattle.gm_lowering.proofs.OwnSends.{sending-own-steps}
use Rattle.gm_lowering.proofs.Picks.{parts-are}
use Rattle.gm_lowering.proofs.PutFacts.{IsPut}
use Rattle.gm_lowering.proofs.Receiving.{or-cases}
use Rattle.gm_lowering.proofs.Sendings.{off-one, sent-of-nodes, send-left, send-gives}
use Rattle.gm_lowering.proofs.SendSteps.{two-steps, either-spotted, sent-is}
use Rattle.gm_lowering.proofs.Spots.{Has, HoldNodes, Left, Within, spot-left, spot-right, has-right, reads, value-within, body-left}

module _ (c : Layout) (p : image.Program) (fields base q kind : ℕ) (loop : Loop) (key : Key) (test : Expr) (body : Stmt) (globals : List Value) (s : Nodes) (r : Store) (table : TypeTable) (around : List ℕ) (result : Option VType)
    (able : IsSendingOwnLoop c p.registers fields loop test body)
    (typed : (k : ℕ) → k < node_count loop.graph → AreTyped c table around result loop body (begun (write r (slots.Scalar loop.outer) (At (Some k)))))
    (limit : table.limit ≤ node_count loop.graph)
    (gs : GlobalsApart c (length globals))
    (fit : HaveRoom base (own_spots c loop.outer key test body) (length p.places))
    (block : block_at p q ≡ own_block c (segment base (own_spots c loop.outer key test body)) loop.outer kind key test body)
    (shown : Shown c p.registers fields loop.graph globals s r)
    (in_graph : NodesInGraph c loop.graph r)
    (apart : GivesApart (given_in loop key test body r)) where
  abbrev n : ℕ
  n = loop.outer

  abbrev g : NumberedGraph
  g = loop.graph

  abbrev all : List Spot
  all = own_spots c n key test body

  abbrev seg : Segment
  seg = segment base all

  abbrev v : Env
  v = own_env c seg n

  abbrev it : ℕ → Iteration
  it k = iteration loop key test body r k

  -- each node begins as it should
  node-shows : (k : ℕ) → k < node_count g → NodeShows c g p.registers fields globals (slice_index_or s.fields k []) k r
  node-shows k lt = record {
    phase = record { scalar = shown.scalars; in_graph = in_graph };
    locals = shown.locals;
    properties = shown.properties k lt;
    field_count = shown.widths k lt;
    inside = lt;
  }

  -- what sends has no fold
  one-spotted : (k : Key) (total : TotalKey) (r' : Reduce) (ts : List Target) (es : List Expr) → sending_gives c n (own_finds c n) r' ts es ≡ true → (z : Spot)
      → HasSpot z (fold_spots c n (S.Combine k total r' ts es)) → HasSpot z (spots_of c n (n ∷ []) true (S.Combine k total r' ts es))
  one-spotted k total r' ts es o z h = or-cases (own_gives c n (own_finds c n) r' ts es) (sends_through c (n ∷ []) (own_finds c n) r' ts es) o (λ i. own-fold-spotted c n k total r' ts es i z h) (λ i. absurd (none ts i h)) where
    none : (us : List Target) → sends_through c (n ∷ []) (own_finds c n) r' us es ≡ true → HasSpot z (fold_spots c n (S.Combine k total r' us es)) → ⊥
    none [] i h = absurd (both_ways false refl i)
    none (T.Scalar x at ∷ us) i h = absurd (both_ways false refl i)
    none (T.Property x y at ∷ us) i h =
        subst (λ b. HasSpot z (if b && list_all (is_property_of n) us then spot_at k total.place ∷ [] else [])) (off-one x n (not-true (is_in (n ∷ []) x) (both-true (not (is_in (n ∷ []) x)) _ i).0)) h

  -- the places of the body's folds have indices
  indexed : HaveIndices seg (length p.places) (fold_spots c n body)
  indexed z h = index-within base all (length p.places) fit z (spot-right z (spots_in test key) (spots_of c n (n ∷ []) true body) (folds-spotted-by c n (sending_gives c n (own_finds c n)) (λ k total r' ts es g' y i. one-spotted k total r' ts es g' y i) body able.fits z h))

  abbrev one_step : ℕ × List Value → After
  one_step x = vertex_after p (own_block c seg n kind key test body) (context_at g globals x.0) [] x.1

  steps-send : (k : ℕ) → k < node_count g → OwnSends c v kind (aways c.declarations n body) g fields k (it k) (one_step (k, slice_index_or s.fields k []))
  steps-send k lt = sending-own-steps c seg p fields loop kind key test body globals (slice_index_or s.fields k []) k r table around result able indexed (typed k lt) limit (node-shows k lt)

  -- the iterations' faults and contributions
  starts : (k : ℕ) → k < node_count g → HoldNodes g (n ∷ []) (λ x. k) (begun (write r (slots.Scalar n) (At (Some k))))
  starts k lt x o = (ap (λ b. if b then At (Some k) else r.scalar x) (eq-eqb n x (sym (eqb-one x o))), lt) where
    eqb-one : (x : ℕ) → is_in (n ∷ []) x ≡ true → x ≡ n
    eqb-one x o = eqb-true x n (or-none (nat_eq x n) o) where
      or-none : (b : Bool) → b || false ≡ true → b ≡ true
      or-none true h = refl
      or-none false h = h

  no_locals : (x : ℕ) → is_in (n ∷ []) x ≡ true → is_register (variable_at c.declarations x) ≡ false
  no_locals x o = ap (λ y. is_register (variable_at c.declarations y)) (eqb-true x n (or-none (nat_eq x n) o)) ∙ able.iterator where
    or-none : (b : Bool) → b || false ≡ true → b ≡ true
    or-none true h = refl
    or-none false h = h

  set_at_node : (x y : ℕ) → own_sets c n x y ≡ true → is_in (n ∷ []) x ≡ true
  set_at_node x y o = ap (λ b. b || false) (both-true (nat_eq x n) (c.is_kept y) o).0

  abbrev body_spots : List Spot
  body_spots = spots_of c n (n ∷ []) true body

  abbrev Ready : Stmt → Iteration → Type 0
  Ready = AreTyped c table around result loop

  abbrev its : List ℕ
  its = n ∷ []

  abbrev gives : Reduce → List Target → List Expr → Bool
  gives = sending_gives c n (own_finds c n)

  -- what goes to scalars is put
  abbrev Good : Contribution → Type 0
  Good y = is_to_scalars y ≡ true → IsPut c all y

  module _ (home : ℕ → ℕ) where
    abbrev Holding : Iteration → Type 0
    Holding = HoldNodes g its home

    off : (x : ℕ) → is_in its x ≡ false → (nat_eq x n ≡ false) × (nat_eq x n ≡ false)
    off x h = let e = off-one x n h in (e, e)

    reductions-left : (k : Key) (total : TotalKey) (r' : Reduce) (ts : List Target) (es : List Expr) (i : Iteration) → gives r' ts es ≡ true → Ready (S.Combine k total r' ts es) i → i.fault ≡ None → Holding i
        → Left c its false loop Outermost home (does (S.Combine k total r' ts es) Outermost loop i) (spots_in_all es k ++ reduce_spots true its (way_of c.declarations n ts) k total ts)
    reductions-left k total r' ts es i o y e h =
        or-cases (own_gives c n (own_finds c n) r' ts es) (sends_through c (n ∷ []) (own_finds c n) r' ts es) o
        (λ z. own-left c loop home able.depths table around result able.iterator k total r' ts es i z (λ a. y) e h)
        (λ z. send-left c its false true n loop Outermost home off k total r' ts es i z e h)

    left-body : (st : Stmt) → is_body c (own_finds c n) (own_sets c n) gives st ≡ true → (i : Iteration) → Ready st i → i.fault ≡ None → Holding i → Left c its false loop Outermost home (does st Outermost loop i) (spots_of c n its true st)
    left-body st o i y e h =
        body-left c its false loop Outermost home n true (own_sets c n) gives Ready (parts-are c table around result loop Outermost) no_locals set_at_node
        (λ k total r' ts es j o' y' e' h'. reductions-left k total r' ts es j o' y' e' h') st o i y e h

    body-puts : (i : Iteration) → Ready body i → i.fault ≡ None → Holding i → Gives Good i → Gives Good (does body Outermost loop i)
    body-puts i y e h a =
        body-gives c n its true loop Outermost (own_finds c n) (own_sets c n) gives Good all Holding Ready (parts-are c table around result loop Outermost)
        (λ st fits j y' e' h'. (left-body st fits j y' e' h').1)
        (λ k total r' ts es j o y' h' i' g'.
        or-cases (own_gives c n (own_finds c n) r' ts es) (sends_through c (n ∷ []) (own_finds c n) r' ts es) o
        (λ z. own-puts-at c loop home able.depths table around result able.iterator all Good (λ x w m. w) k total r' ts es j z (λ a. y') h' i' g')
        (λ z. send-gives c its false true n loop Outermost home off Good k total r' ts es j z h' (λ k' ys w. absurd (both_ways (are_of_scalars (node_slots k' ts)) (sent-of-nodes c (n ∷ []) (own_finds c n) r' ts es k' z) w)) g'))
        body able.fits (λ f j. spot-right f (spots_in test key) body_spots j) i y e h a

  -- an iteration's fault has a spot, and what it gives to scalars of the procedure is put
  iteration-left : (k : ℕ) → k < node_count g → Has (it k).fault all × Gives Good (it k)
  iteration-left k lt = by (value test (view_in loop Outermost start key)) (value-within (view_in loop Outermost start key) test refl (reads c (n ∷ []) false loop Outermost (λ x. k) start key test able.found (starts k lt))) where
    start : Iteration
    start = begun (write r (slots.Scalar n) (At (Some k)))

    nothing : Gives Good start
    nothing = record { outermost = λ x i. absurd i; inner = λ x i. absurd i }

    way : (b : Bool) → Has (one_way b (does body Outermost loop) as_it_is start).fault all × Gives Good (one_way b (does body Outermost loop) as_it_is start)
    way true = (has-right (does body Outermost loop start).fault (spots_in test key) body_spots (left-body (λ x. k) body able.fits start (typed k lt) refl (starts k lt)).0, body-puts (λ x. k) start (typed k lt) refl (starts k lt) nothing)
    way false = (tt, nothing)

    by : (a : Result Value Fault) → Within a (spots_in test key)
        → Has (with_ok start a (λ z. one_way (is_true z) (does body Outermost loop) as_it_is start)).fault all × Gives Good (with_ok start a (λ z. one_way (is_true z) (does body Outermost loop) as_it_is start))
    by (Ok z) w = way (is_true z)
    by (Err f) w = (spot-left (spot_of_fault f) (spots_in test key) body_spots w, record { outermost = λ x i. absurd i; inner = λ x i. absurd i })

  -- what its first superstep sends, and where its faults stand
  abbrev own_store : Store
  own_store = own_left r (nodes g) (map it (nodes g))

  pub first-spotted : (f : Fault) → IsIn f (somes (map (λ i. i.fault) (map it (nodes g))) ++ total_faults own_store (filter is_to_scalars (given_in loop key test body r))) → HasSpot (spot_of_fault f) all
  first-spotted =
      either-spotted c p fields base q kind (aways c.declarations n body) loop all (own_block c seg n kind key test body) key test body globals s r able.apart gs fit block shown apart steps-send
      (λ k lt. let t = iteration-left k lt in (t.0, λ y o i. t.1.outermost y i o))

  pub first-sent : AreSent kind (aways c.declarations n body) g (filter is_to_nodes (given_in loop key test body r)) (superstep p g q globals s).nodes.sent
  first-sent =
      sent-is c p fields base q kind (aways c.declarations n body) loop all (own_block c seg n kind key test body) key test body globals s r able.apart gs fit block shown apart steps-send
      (λ k lt. let t = iteration-left k lt in (t.0, λ y o i. t.1.outermost y i o))

  pub sending-own-loop : (q2 : ℕ) → block_at p q2 ≡ taking_block c seg kind (aways c.declarations n body) → ((a : Away) → IsIn a (aways c.declarations n body) → IsTaken c all a)
      → TotalsLast (somes (map (λ i. i.fault) (map it (nodes g)))) (own_left r (nodes g) (map it (nodes g))) (given_in loop key test body r)
      → TwoStepsAre c v all p.registers fields g globals (parallel loop key test body (nodes g) r) (superstep p g q globals s) (superstep p g q2 (superstep p g q globals s).globals (superstep p g q globals s).nodes)
  sending-own-loop q2 block2 takes last =
      two-steps c p fields base q kind (aways c.declarations n body) loop all (own_block c seg n kind key test body) key test body globals s r able.apart gs fit block shown apart steps-send
      (λ k lt. let t = iteration-left k lt in (t.0, λ y o i. t.1.outermost y i o)) q2 block2 takes last

pub sending-own-loops : SendingOwnLoopsAreTwoSupersteps
sending-own-loops c p fields base q q2 kind loop key test body globals s r table around result able typed limit gs fit block shown in_graph apart block2 takes last =
    sending-own-loop c p fields base q kind loop key test body globals s r table around result able typed limit gs fit block shown in_graph apart q2 block2 takes last
