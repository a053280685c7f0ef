-- Loops of each kind go in the master list.
use Rattle.std.proofs.Common.{◌≡◌, ◌<◌, ◌≤◌, inl, inr, ℕ, suc, Bool, true, false, cond, Option, Some, None, Result, Ok, Err, List, [], ◌∷◌, ◌++◌, length, map, refl, ap, ◌∙◌, sym, subst, arith, ⊎_elim}
use Rattle.std.specs.Prelude.{◌+◌, ◌&&◌, ◌||◌, nat_eq, not, filter, if◌then◌else◌}
use Rattle.std.specs.List.{list_all, list_any, enumerate_from, AllByRecursion}
use Rattle.std.proofs.lemmas.Bool.{both_ways, lt-ltb}
use Rattle.std.proofs.lemmas.List.{length-map}
use Rattle.std.proofs.lemmas.List.Elements.{recursion_from_All}
use Rattle.gm_base.specs.declared.places.Place.{Place}
use Rattle.gm_value.specs.declared.values.Value.{Value}
use Rattle.gm_value.specs.declared.reductions.Reduce.{Reduce}
use Rattle.gm_value.specs.Bag.{IsIn}
use Rattle.gm_model.specs.Graphs.{NumberedGraph, Edge, IsGraph, IsWithin, node_count}
use Rattle.gm_ast.specs.declared.tree.Domain.{Domain}
use Rattle.gm_ast.specs.declared.tree.Head.{Head}
use Rattle.gm_ast.specs.declared.tree.Key.{Key}
use Rattle.gm_ast.specs.declared.tree.Target.{Target}
use Rattle.gm_ast.specs.declared.tree.Target.TheVariants as T
use Rattle.gm_ast.specs.declared.tree.TotalKey.{TotalKey}
use Rattle.gm_ast.specs.Program as S
use Rattle.gm_ast.specs.Program.{Expr, Stmt}
use Rattle.gm_forms.proofs.Named.{both-true}
use Rattle.gm_semantics.specs.declared.faults.Fault.{Fault}
use Rattle.gm_semantics.specs.declared.slots.Slot.{Slot}
use Rattle.gm_semantics.specs.declared.slots.Slot.TheVariants as slots
use Rattle.gm_semantics.specs.declared.slots.Write.{Write}
use Rattle.gm_semantics.specs.Contributions.{settled_store, total_faults, Contribution}
use Rattle.gm_semantics.specs.Faults.{least, somes, joined, unless_fault}
use Rattle.gm_semantics.specs.Iterations.{Loop, Iteration, begun}
use Rattle.gm_semantics.specs.Levels.{nodes, numbers_from}
use Rattle.gm_semantics.specs.Loops.{iteration, is_elsewhere, pushes, own_left, parallel}
use Rattle.gm_semantics.specs.Statements.{State, variable_at}
use Rattle.gm_semantics.specs.Stores.{Store, write, overlaid}
use Rattle.gm_semantics.proofs.ContributionLaws.{IsIn-filter}
use Rattle.gm_image.specs.Program as image
use Rattle.gm_image.specs.Program.{Block}
use Rattle.gm_machine.specs.Machine.{Nodes, Stepped, block_at, place_at, superstep, step_ends}
use Rattle.gm_machine.specs.Vertex.{steps}
use Rattle.gm_lowering.specs.Layouts.{Layout, is_global, is_scalar_of}
use Rattle.gm_lowering.specs.Places.{Spot, segment, ascending, place_index, shown_places, spots_in, Segment, spot_lt, spot_of_total}
use Rattle.gm_lowering.specs.Terms.{Env, own_env}
use Rattle.gm_lowering.specs.Plans.{way_of, away_by, aways, carried, Load, Away}
use Rattle.gm_lowering.specs.Blocks.{Lowered, loop, own_loop, each_loop, message_loop, direction_of, taking_blocks, receiver_env}
use Rattle.gm_lowering.specs.Showing.{fault_of}
use Rattle.gm_lowering.specs.Sites.{is_body}
use Rattle.gm_lowering.specs.OwnSends.{sending_gives, IsSendingOwnLoop}
use Rattle.gm_lowering.specs.Sent.{AreSent}
use Rattle.gm_lowering.proofs.OwnSendLoops.{sending-own-loops, first-spotted, first-sent}
use Rattle.gm_lowering.specs.OwnLoops.{AreTyped, IsOwnLoop, own_block, own_finds, own_sets, own_gives, puts_to_scalars, folds_at_once, are_any, is_kept_property, folds_to, keeps_at_once, PicksTyped}
use Rattle.gm_lowering.specs.Phases.{GlobalsApart, EdgesShown, StepIs, own_spots, GivesApart, given_in}
use Rattle.gm_lowering.specs.Settles.{HasSpot, HaveRoom, spot_of_fault}
use Rattle.gm_lowering.specs.Shown.{ShowOne}
use Rattle.gm_lowering.specs.MessageLoops.{is_to_scalars, is_to_nodes, IsMessageLoop, sets_nothing, receiver_finds, receiver_gives, is_inner_target, inner_gives, picks_inside, TurnsTyped, tuples_inside, TurnsAreTyped}
use Rattle.gm_lowering.specs.Sends.{send_block}
use Rattle.gm_lowering.specs.Receiving.{receive_block, inner_spots}
use Rattle.gm_lowering.specs.TwoSupersteps.{IsInside, StepsWithin}
use Rattle.gm_lowering.specs.HomeTurns.{IsHomeLoop, home_finds}
use Rattle.gm_lowering.specs.HomeSteps.{home_block, home_turns, given_inside, HasEach}
use Rattle.gm_lowering.specs.HomeLoops.{home_spots}
use Rattle.gm_lowering.specs.Lowered as L
use Rattle.gm_lowering.specs.SenderLoops.{TotalsLast}
use Rattle.gm_lowering.specs.SenderSupersteps.{Sends}
use Rattle.gm_lowering.specs.SenderTurns.{IsSenderLoop}
use Rattle.gm_lowering.specs.TakingSteps.{taking_block}
use Rattle.gm_lowering.proofs.Receiving.{or-cases}
use Rattle.gm_lowering.proofs.HomeLoops.{home-loops}
use Rattle.gm_lowering.proofs.Orders.{HasFault, fault-has, ascending-has}
use Rattle.gm_lowering.proofs.OwnLoops.{own-loops}
use Rattle.gm_lowering.proofs.PutFacts.{puts-way}
use Rattle.gm_lowering.proofs.Givens.{folds-way}
use Rattle.gm_lowering.proofs.TwoSupersteps.{message-loops}
use Rattle.gm_lowering.proofs.SenderSupersteps.{sending-loops, sending-supersteps}
use Rattle.gm_lowering_master.specs.Runs.{supersteps, StandsAt}
use Rattle.gm_lowering_master.specs.Cells.{Cell, OfScalar, OfResult, CounterOf, FlagOf, is_scalar, Setting, IsSetting, Between}
use Rattle.gm_lowering_master.specs.Follows.{IsFault, StepsAre, IsPoint, LoopGoes}
use Rattle.gm_lowering_master.specs.Going.{phase_loop, GiveApart, OwnLoopsGo, IsOwnSending, OwnSendingLoopsGo, IsMessage, MessageLoopsGo, IsHome, HomeLoopsGo, IsSending, SendingLoopsGo, HasBodySpares}
use Rattle.gm_lowering_master.proofs.Indices.{place-found}
use Rattle.gm_lowering_master.proofs.Ranks.{get-within}
use Rattle.gm_lowering_master.proofs.OwnLast.{own-totals-last, received-behind}
use Rattle.gm_lowering_master.proofs.Standing.{get-is-index_or}
use Rattle.gm_lowering.proofs.OwnFolds.{fold-way}
use Rattle.gm_lowering.proofs.OwnFacts.{keep-way}
use Rattle.gm_semantics.specs.declared.slots.Slot.TheVariants.{Scalar}
use Rattle.gm_value.specs.declared.values.Value.TheVariants.{At}
use Rattle.gm_forms.specs.Cut.{can_overflow}
use Rattle.gm_forms.specs.Typing.{is_typed_in, keeps_tuples}
use Rattle.gm_forms.specs.Uses.{uses_in, uses_of, uses_of_head}
use Rattle.gm_typed_stores.specs.Tells.{takes_nodes, tells, tells_in}
use Rattle.gm_typed_stores.specs.Stores.{IsGraphBelow}
use Rattle.gm_typed_stores.proofs.Expressions.{split}
use Rattle.gm_typed_stores.proofs.Kept.{enter}
use Rattle.gm_lowering.proofs.InnerPicks.{pick-way, inside-way}

-- a spot that is found is a member
has-member : (z : Spot) (spots : List Spot) → HasSpot z spots → IsIn z spots
has-member z [] h = h
has-member z (s ∷ ss) h = ⊎_elim (λ (e : s ≡ z). inl (sym e)) (λ (j : HasSpot z ss). inr (has-member z ss j)) h

-- a loop leaves the values of edges
written-edges : (s : Store) (slot : Slot) (v : Value) → (write s slot v).edge ≡ s.edge
written-edges s (slots.Scalar x) v = refl
written-edges s (slots.Node p n) v = refl

overlaid-edges : (s : Store) (ws : List Write) → (overlaid s ws).edge ≡ s.edge
overlaid-edges s [] = refl
overlaid-edges s (w ∷ ws) = overlaid-edges (write s w.slot w.value) ws ∙ written-edges s w.slot w.value

abbrev is_ok : {A B : Type 0} → Result A B → Bool
is_ok (Ok a) = true
is_ok (Err b) = false

abbrev edges_or : Store → Result Store Fault → ℕ → ℕ → Value
edges_or s (Ok q) = q.edge
edges_or s (Err f) = s.edge

loop-edges : (l : Loop) (key : Key) (test : Expr) (body : Stmt) (ks : List ℕ) (s r : Store) → parallel l key test body ks s ≡ Ok r → r.edge ≡ s.edge
loop-edges l key test body ks s r e = by (least (somes (map (λ it. it.fault) its) ++ total_faults own given)) (overlaid (settled_store own given) ds) (overlaid-edges (settled_store own given) ds) e where
  its : List Iteration
  its = map (iteration l key test body s) ks

  own : Store
  own = own_left s ks its

  given : List Contribution
  given = joined (map (λ it. it.with_outermost) its)

  ds : List Write
  ds = joined (map (λ it. it.deferred) its)

  by : (o : Option Fault) (q : Store) → q.edge ≡ s.edge → unless_fault o (Ok q) ≡ Ok r → r.edge ≡ s.edge
  by None q h e = ap (edges_or s) (sym e) ∙ h
  by (Some f) q h e = absurd (both_ways false refl (ap is_ok e))

-- what stands in a list ends in it
stands-long : {A : Type 0} (all : List A) (i : ℕ) (x : A) (xs : List A) → StandsAt all i (x ∷ xs) → i + suc (length xs) ≤ length all
stands-long all i x [] h = let l = get-within all i x h.0 in omega (arith, l)
stands-long all i x (y ∷ ys) h = let l = stands-long all (suc i) y ys h.1 in omega (arith, l)

pub have-room : (places : List Place) (base : ℕ) (spots : List Spot) → StandsAt places base (shown_places (segment base spots)) → HaveRoom base spots (length places)
have-room places base spots stands z h = by (ascending spots) (ascending-has z.fault spots (fault-has z spots h)) stands where
  by : (xs : List Spot) → HasFault z.fault xs → StandsAt places base (map (λ s. s.shown) xs) → base + length xs ≤ length places
  by [] f st = absurd f
  by (x ∷ xs) f st =
      let l = stands-long places base x.shown (map (λ s. s.shown) xs) st in
      let m : length (map (λ s. s.shown) xs) ≡ length xs = length-map xs (λ s. s.shown) in
      omega (arith, l, m)

-- the block of a line
block-found : (p : image.Program) (q : ℕ) (b : Block) → StandsAt p.blocks q (b ∷ []) → block_at p q ≡ b
block-found p q b h = get-is-index_or p.blocks q b _ h.0

-- steps of a graph
in-filtered : {B : Type 0} (f : ℕ × Edge → B) (p : ℕ × Edge → Bool) (n a : ℕ) (es : List Edge) (y : B) → AllByRecursion (IsWithin n) es → IsIn y (map f (filter p (enumerate_from a es)))
    → (j : ℕ) × (e : Edge) × (y ≡ f (j, e)) × (j < a + length es) × IsWithin n e
in-filtered f p n a [] y h i = absurd i
in-filtered f p n a (e ∷ es) y h i = by (p (a, e)) i (λ j. later (in-filtered f p n (a + 1) es y h.1 j)) where
  later : (j : ℕ) × (d : Edge) × (y ≡ f (j, d)) × (j < (a + 1) + length es) × IsWithin n d → (j : ℕ) × (d : Edge) × (y ≡ f (j, d)) × (j < a + length (e ∷ es)) × IsWithin n d
  later q = (q.0, q.1, q.2, (let lt : q.0 < (a + 1) + length es = q.3 in omega (arith, lt)), q.4)

  by : (b : Bool) → IsIn y (map f (cond b ((a, e) ∷ filter p (enumerate_from (a + 1) es)) (filter p (enumerate_from (a + 1) es))))
      → (IsIn y (map f (filter p (enumerate_from (a + 1) es))) → (j : ℕ) × (d : Edge) × (y ≡ f (j, d)) × (j < a + length (e ∷ es)) × IsWithin n d)
      → (j : ℕ) × (d : Edge) × (y ≡ f (j, d)) × (j < a + length (e ∷ es)) × IsWithin n d
  by true i go = ⊎_elim (λ (w : y ≡ f (a, e)). (a, e, w, (omega arith), h.0)) go i
  by false i go = go i

pub steps-inside : (g : NumberedGraph) (d : Domain) → IsGraph g → StepsWithin g d
steps-inside g d is' k e i = by (direction_of d) i where
  within : AllByRecursion (IsWithin (node_count g)) g.edges
  within = recursion_from_All (IsWithin (node_count g)) g.edges is'.within

  by : (o : image.Direction) → IsIn e (steps o g k) → IsInside g e
  by image.Out i =
      let q = in-filtered (λ x. record { node = x.1.to; edge = x.0 }) (λ x. nat_eq x.1.from k) (node_count g) 0 g.edges e within i in
      let lt : q.0 < 0 + length g.edges = q.3 in
      let inside : IsInside g (record { node = q.1.to; edge = q.0 }) = (q.4.to_node, (omega (arith, lt))) in
      subst (IsInside g) (sym q.2) inside
  by image.In i =
      let q = in-filtered (λ x. record { node = x.1.from; edge = x.0 }) (λ x. nat_eq x.1.to k) (node_count g) 0 g.edges e within i in
      let lt : q.0 < 0 + length g.edges = q.3 in
      let inside : IsInside g (record { node = q.1.from; edge = q.0 }) = (q.4.from_node, (omega (arith, lt))) in
      subst (IsInside g) (sym q.2) inside

-- a body sends nothing whose reductions do not
sends-nothing : (c : Layout) (n : ℕ) (found : Expr → Bool) (sets : ℕ → ℕ → Bool) (gives : Reduce → List Target → List Expr → Bool)
    → ((r : Reduce) (ts : List Target) (es : List Expr) (total : TotalKey) → gives r ts es ≡ true → away_by (way_of c.declarations n ts) total r ts ≡ [])
    → (st : Stmt) → is_body c found sets gives st ≡ true → aways c.declarations n st ≡ []
sends-nothing c n found sets gives none (S.Then a b) h =
    let q = both-true (is_body c found sets gives a) (is_body c found sets gives b) h in
    ap (λ xs. xs ++ aways c.declarations n b) (sends-nothing c n found sets gives none a q.0) ∙ sends-nothing c n found sets gives none b q.1
sends-nothing c n found sets gives none (S.Combine k total r ts es) h = none r ts es total h
sends-nothing c n found sets gives none (S.If k e a b) h =
    let q = both-true (found e) (is_body c found sets gives a && is_body c found sets gives b) h in
    let u = both-true (is_body c found sets gives a) (is_body c found sets gives b) q.1 in
    ap (λ xs. xs ++ aways c.declarations n b) (sends-nothing c n found sets gives none a u.0) ∙ sends-nothing c n found sets gives none b u.1
sends-nothing c n found sets gives none _ h = refl

puts-nothing-away : (c : Layout) (n : ℕ) (found : Expr → Bool) (r : Reduce) (ts : List Target) (es : List Expr) (total : TotalKey) → puts_to_scalars c found r ts es ≡ true → away_by (way_of c.declarations n ts) total r ts ≡ []
puts-nothing-away c n found r [] es total h = absurd (both_ways false refl h)
puts-nothing-away c n found r (t ∷ ts) es total h = ap (λ w. away_by w total r (t ∷ ts)) (puts-way c n (t ∷ ts) (both-true _ _ h).0)

folds-nothing-away : (c : Layout) (i : ℕ) (found : Expr → Bool) (r : Reduce) (ts : List Target) (es : List Expr) (total : TotalKey) → folds_to c i found r ts es ≡ true → away_by (way_of c.declarations i ts) total r ts ≡ []
folds-nothing-away c i found r [] es total h = absurd (both_ways false refl h)
folds-nothing-away c i found r (t ∷ ts) es total h = ap (λ w. away_by w total r (t ∷ ts)) (folds-way c i t ts (both-true _ _ h).0)

gives-nothing-away : (c : Layout) (i : ℕ) (found : Expr → Bool) (r : Reduce) (ts : List Target) (es : List Expr) (total : TotalKey) → receiver_gives c i found r ts es ≡ true → away_by (way_of c.declarations i ts) total r ts ≡ []
gives-nothing-away c i found r ts es total h =
    or-cases (puts_to_scalars c found r ts es) (folds_to c i found r ts es) h (puts-nothing-away c i found r ts es total) (folds-nothing-away c i found r ts es total)

inner-nothing-away : (c : Layout) (loop : Loop) (depth_is : (x : ℕ) → loop.depth x ≡ (variable_at c.declarations x).depth) (i : ℕ) (found : Expr → Bool) (r : Reduce) (ts : List Target) (es : List Expr) (total : TotalKey) → inner_gives c i found r ts es ≡ true → away_by (way_of c.declarations i ts) total r ts ≡ []
inner-nothing-away c loop depth_is i found r ts es total h =
    or-cases (receiver_gives c i found r ts es) (picks_inside c found r ts es || tuples_inside c found r ts es) h (gives-nothing-away c i found r ts es total) (λ q.
    or-cases (picks_inside c found r ts es) (tuples_inside c found r ts es) q (λ p. ap (λ w. away_by w total r ts) (pick-way c i found r ts es p)) (λ p. ap (λ w. away_by w total r ts) (inside-way c loop depth_is i found r ts es p)))

own-nothing-away : (c : Layout) (n : ℕ) (r : Reduce) (ts : List Target) (es : List Expr) (total : TotalKey) → own_gives c n (own_finds c n) r ts es ≡ true → away_by (way_of c.declarations n ts) total r ts ≡ []
own-nothing-away c n r ts es total h =
    or-cases (puts_to_scalars c (own_finds c n) r ts es) (folds_at_once c n (own_finds c n) r ts es || keeps_at_once c n (own_finds c n) r ts es) h (puts-nothing-away c n (own_finds c n) r ts es total) (λ i.
    or-cases (folds_at_once c n (own_finds c n) r ts es) (keeps_at_once c n (own_finds c n) r ts es) i (λ f. ap (λ w. away_by w total r ts) (fold-way c n r ts es f)) (λ f. ap (λ w. away_by w total r ts) (keep-way c n r ts es f)))

-- a body that is no loop is lowered as one of own statements
own-is : (c : Layout) (base kind n : ℕ) (k : Key) (test : Expr) (found : Expr → Bool) (sets : ℕ → ℕ → Bool) (gives : Reduce → List Target → List Expr → Bool) (st : Stmt) → is_body c found sets gives st ≡ true
    → loop c base kind n k test st ≡ own_loop c base kind n k test st
own-is c base kind n k test found sets gives (S.Foreach j at h e body) o = absurd (both_ways false refl o)
own-is c base kind n k test found sets gives _ o = refl

-- a loop whose body reduces nothing through other nodes
not-elsewhere : (c : Layout) (n p : ℕ) (ts : List Target) → list_all (is_kept_property c n) ts ≡ true → list_any (is_elsewhere n p) ts ≡ false
not-elsewhere c n p [] h = refl
not-elsewhere c n p (T.Scalar x at ∷ ts) h = absurd (both_ways false refl h)
not-elsewhere c n p (T.Property x q at ∷ ts) h =
    let t = both-true (nat_eq x n && c.is_kept q) (list_all (is_kept_property c n) ts) h in
    ap (λ b. (not b && nat_eq q p) || list_any (is_elsewhere n p) ts) (both-true (nat_eq x n) (c.is_kept q) t.0).0 ∙ not-elsewhere c n p ts t.1

scalars-not-elsewhere : (c : Layout) (n p : ℕ) (ts : List Target) → list_all (is_scalar_of is_global c.declarations) ts ≡ true → list_any (is_elsewhere n p) ts ≡ false
scalars-not-elsewhere c n p [] h = refl
scalars-not-elsewhere c n p (T.Scalar x at ∷ ts) h = scalars-not-elsewhere c n p ts (both-true (is_global (variable_at c.declarations x)) _ h).1
scalars-not-elsewhere c n p (T.Property x q at ∷ ts) h = absurd (both_ways false refl h)

inner-not-elsewhere : (c : Layout) (n p : ℕ) (ts : List Target) → list_all (is_inner_target c) ts ≡ true → list_any (is_elsewhere n p) ts ≡ false
inner-not-elsewhere c n p [] h = refl
inner-not-elsewhere c n p (T.Property x q at ∷ ts) h = absurd (both_ways false refl h)
inner-not-elsewhere c n p (T.Scalar x at ∷ ts) h = inner-not-elsewhere c n p ts (both-true (is_inner_target c (T.Scalar x at)) (list_all (is_inner_target c) ts) h).1

picked-not-elsewhere : (c : Layout) (n p : ℕ) (found : Expr → Bool) (r : Reduce) (ts : List Target) (es : List Expr) → picks_inside c found r ts es ≡ true → list_any (is_elsewhere n p) ts ≡ false
picked-not-elsewhere c n p found r [] es h = refl
picked-not-elsewhere c n p found r (T.Scalar x at ∷ []) es h = refl
picked-not-elsewhere c n p found r (T.Property x q at ∷ ts) es h = absurd (both_ways false refl h)
picked-not-elsewhere c n p found r (T.Scalar x at ∷ (t ∷ ts)) es h = absurd (both_ways false refl h)

kept-not-elsewhere : (c : Layout) (n p : ℕ) (found : Expr → Bool) (r : Reduce) (ts : List Target) (es : List Expr) → tuples_inside c found r ts es ≡ true → list_any (is_elsewhere n p) ts ≡ false
kept-not-elsewhere c n p found r [] es h = refl
kept-not-elsewhere c n p found r (t ∷ []) es h = absurd (both_ways false refl h)
kept-not-elsewhere c n p found r (t ∷ (u ∷ ts)) es h = inner-not-elsewhere c n p (t ∷ (u ∷ ts)) (both-true (list_all (is_inner_target c) (t ∷ (u ∷ ts))) _ (both-true (keeps_tuples r) _ h).1).0

pushes-nothing : (c : Layout) (n p : ℕ) (found : Expr → Bool) (sets : ℕ → ℕ → Bool) (st : Stmt) → is_body c found sets (inner_gives c n found) st ≡ true → pushes st n p ≡ false
pushes-nothing c n p found sets (S.Then a b) h =
    let gives = inner_gives c n found in
    let q = both-true (is_body c found sets gives a) (is_body c found sets gives b) h in
    ap (λ x. x || pushes b n p) (pushes-nothing c n p found sets a q.0) ∙ pushes-nothing c n p found sets b q.1
pushes-nothing c n p found sets (S.Combine k total r ts es) h =
    or-cases (receiver_gives c n found r ts es) (picks_inside c found r ts es || tuples_inside c found r ts es) h
    (λ g.
    or-cases (puts_to_scalars c found r ts es) (folds_to c n found r ts es) g
    (λ z. scalars-not-elsewhere c n p ts (both-true (list_all (is_scalar_of is_global c.declarations) ts) _ (both-true (are_any ts) _ z).1).0)
    (λ z. not-elsewhere c n p ts (both-true (list_all (is_kept_property c n) ts) _ (both-true (are_any ts) _ z).1).0))
    (λ g. or-cases (picks_inside c found r ts es) (tuples_inside c found r ts es) g (picked-not-elsewhere c n p found r ts es) (kept-not-elsewhere c n p found r ts es))
pushes-nothing c n p found sets (S.If k e a b) h =
    let gives = inner_gives c n found in
    let q = both-true (found e) (is_body c found sets gives a && is_body c found sets gives b) h in
    let u = both-true (is_body c found sets gives a) (is_body c found sets gives b) q.1 in
    ap (λ x. x || pushes b n p) (pushes-nothing c n p found sets a u.0) ∙ pushes-nothing c n p found sets b u.1
pushes-nothing c n p found sets (S.Foreach j at h e body) o = absurd (both_ways false refl o)
pushes-nothing c n p found sets _ h = refl

-- globals of scalars are apart
pub globals-apart : (s : Setting) → IsSetting s → (globals : List Value) → length globals ≡ length s.image.globals → GlobalsApart s.frame.layout (length globals)
globals-apart s is' globals e = record {
  within = λ x lt o. subst (λ m. s.frame.layout.global x < m) (sym e) (is'.cells.within (OfScalar x) (scalar x lt o));
  apart = λ x y lx ly ox oy same. ap number (is'.cells.apart (OfScalar x) (OfScalar y) (scalar x lx ox) (scalar y ly oy) same);
} where
  scalar : (x : ℕ) → x < length s.frame.layout.declarations → is_global (variable_at s.frame.layout.declarations x) ≡ true → is_scalar s.frame.layout x ≡ true
  scalar x lt o = ap (λ b. b && is_global (variable_at s.frame.layout.declarations x)) (lt-ltb x (length s.frame.layout.declarations) lt) ∙ o

  number : Cell → ℕ
  number (OfScalar x) = x
  number OfResult = 0
  number (CounterOf d) = 0
  number (FlagOf d) = 0

-- the machine after supersteps without a fault
abbrev pub rest_of : Stepped → Stepped
rest_of t = record { nodes = t.nodes; globals = t.globals; fault = None }

module _ (s : Setting) (v : Env) (base : ℕ) (spots : List Spot) (places : v.place ≡ place_index (segment base spots)) (stands : StandsAt s.image.places base (shown_places (segment base spots))) (one : ShowOne spots) where
  pub fault-shown : (f : Fault) → HasSpot (spot_of_fault f) spots → IsFault s.image (fault_of v f) f
  fault-shown f h = (
    refl,
    ap (λ p. place_at s.image (p f.key f.place)) places
        ∙ place-found s.image base spots (spot_of_fault f) stands h (λ z i e. one z (spot_of_fault f) i (has-member (spot_of_fault f) spots h) e),
  )

  pub step-is : (globals : List Value) (result : Result Store Fault) (t : Stepped) → length globals ≡ length s.image.globals
      → ((r : Store) → result ≡ Ok r → EdgesShown s.frame.layout s.run.graph r)
      → StepIs s.frame.layout v spots s.image.registers (length s.image.fields) s.run.graph globals result t
      → StepsAre s globals result (step_ends t.fault (λ f. t) (rest_of t))
  step-is globals (Ok r) t count edges h =
      subst (λ o. StepsAre s globals (Ok r) (step_ends o (λ f. t) (rest_of t))) (sym h.fine)
      (refl, record { shown = h.shown; edges = edges r refl; count = h.count ∙ count }, h.others)
  step-is globals (Err f) t count edges h =
      subst (λ o. StepsAre s globals (Err f) (step_ends o (λ g. t) (rest_of t))) (sym h.0) (fault_of v f, h.0, fault-shown f h.1)

-- what is asked of a loop whose blocks and places are these
abbrev pub GoesAs : Setting → L.At → Lowered → Key → Place → Head → Expr → Stmt → Type 0
GoesAs s at l k place h test body =
    StandsAt s.image.blocks at.block l.blocks → StandsAt s.image.places at.place (shown_places l.segment)
    → (globals : List Value) (held : Nodes) (its : List ℕ) (state : State) → Between s globals held state.store → IsPoint s its (S.Foreach k place h test body) state
    → StepsAre s globals (parallel (phase_loop s h.iterator body) k test body (nodes s.run.graph) state.store) (supersteps s.image s.run.graph (numbers_from at.block (length l.blocks)) globals held)

module _ (s : Setting) (is' : IsSetting s) where
  abbrev c : Layout
  c = s.frame.layout

  pub depth-is : (x : ℕ) → (variable_at s.run.declarations x).depth ≡ (variable_at c.declarations x).depth
  depth-is x = ap (λ ds. (variable_at ds x).depth) is'.declarations

  pub type-is : (x : ℕ) → (variable_at s.run.declarations x).vtype ≡ (variable_at c.declarations x).vtype
  type-is x = ap (λ ds. (variable_at ds x).vtype) is'.declarations

  pub edges-stay : (l : Loop) (key : Key) (test : Expr) (body : Stmt) (ks : List ℕ) (globals : List Value) (held : Nodes) (r q : Store) → Between s globals held r → parallel l key test body ks r ≡ Ok q → EdgesShown c s.run.graph q
  edges-stay l key test body ks globals held r q between e p d lt o less = between.edges p d lt o less ∙ ap (λ f. f p d) (sym (loop-edges l key test body ks r q e))

-- the body of a loop has types where each of its iterations begins
are-typed-start : (s : Setting) (is' : IsSetting s) (its : List ℕ) (k : Key) (place : Place) (h : Head) (test : Expr) (body : Stmt) (state : State) → IsPoint s its (S.Foreach k place h test body) state
    → (i : ℕ) → i < node_count s.run.graph → AreTyped s.frame.layout s.table (h.iterator ∷ its) s.result (phase_loop s h.iterator body) body (begun (write state.store (Scalar h.iterator) (At (Some i))))
are-typed-start s is' its k place h test body state point i lt =
    let table = s.table in
    let is = point.typed.statement in
    let graph : IsGraphBelow table.limit s.run.graph = record { graph = is'.graph; nodes = is'.below } in
    let t = both-true _ (is_typed_in table.declarations s.result body) is.typed in
    let u = split table.declarations (uses_in test) (uses_of body) (split table.declarations (uses_of_head h) (uses_in test ++ uses_of body) is.named).1 in
    let w = both-true (takes_nodes table h.iterator) (tells table (h.iterator ∷ its) test && tells_in table (h.iterator ∷ its) body) is.tells in
    record {
      declarations = is'.types;
      around = record { graph = graph; types = λ x. type-is s is' x ∙ ap (λ ds. (variable_at ds x).vtype) (sym is'.types) };
      statement = record { typed = t.1; named = u.1; tells = (both-true (tells table (h.iterator ∷ its) test) (tells_in table (h.iterator ∷ its) body) w.1).1 };
      iteration = record { store = enter table its h.iterator i s.run.graph state.store graph w.0 lt point.typed.store; with_inner = tt; with_outermost = tt; deferred = tt };
    }

typed-start : (s : Setting) (is' : IsSetting s) (its : List ℕ) (k : Key) (place : Place) (h : Head) (test : Expr) (body : Stmt) (state : State) → IsPoint s its (S.Foreach k place h test body) state
    → (i : ℕ) → i < node_count s.run.graph → PicksTyped s.frame.layout s.table (h.iterator ∷ its) s.result (phase_loop s h.iterator body) body (begun (write state.store (Scalar h.iterator) (At (Some i))))
typed-start s is' its k place h test body state point i lt picks = are-typed-start s is' its k place h test body state point i lt

-- and so has the body of an inner loop where each of its turns begins
pub are-typed-turns : (s : Setting) (is' : IsSetting s) (its : List ℕ) (k : Key) (place : Place) (outer : Head) (mask : Expr) (j : Key) (inner_place : Place) (h : Head) (test : Expr) (body : Stmt) (state : State)
    → IsPoint s its (S.Foreach k place outer mask (S.Foreach j inner_place h test body)) state
    → TurnsAreTyped s.frame.layout s.table (h.iterator ∷ (outer.iterator ∷ its)) s.result (phase_loop s outer.iterator (S.Foreach j inner_place h test body)) h.iterator body state.store
are-typed-turns s is' its k place outer mask j inner_place h test body state point a b from to =
    let table = s.table in
    let inner = S.Foreach j inner_place h test body in
    let around = outer.iterator ∷ its in
    let is = point.typed.statement in
    let graph : IsGraphBelow table.limit s.run.graph = record { graph = is'.graph; nodes = is'.below } in
    let t = both-true _ (is_typed_in table.declarations s.result body) (both-true _ (is_typed_in table.declarations s.result inner) is.typed).1 in
    let named = (split table.declarations (uses_in mask) (uses_of inner) (split table.declarations (uses_of_head outer) (uses_in mask ++ uses_of inner) is.named).1).1 in
    let u = split table.declarations (uses_in test) (uses_of body) (split table.declarations (uses_of_head h) (uses_in test ++ uses_of body) named).1 in
    let w = both-true (takes_nodes table outer.iterator) (tells table around mask && tells_in table around inner) is.tells in
    let told = (both-true (tells table around mask) (tells_in table around inner) w.1).1 in
    let w2 = both-true (takes_nodes table h.iterator) (tells table (h.iterator ∷ around) test && tells_in table (h.iterator ∷ around) body) told in
    let entered = enter table its outer.iterator a s.run.graph state.store graph w.0 from point.typed.store in
    record {
      declarations = is'.types;
      around = record { graph = graph; types = λ x. type-is s is' x ∙ ap (λ ds. (variable_at ds x).vtype) (sym is'.types) };
      statement = record { typed = t.1; named = u.1; tells = (both-true (tells table (h.iterator ∷ around) test) (tells_in table (h.iterator ∷ around) body) w2.1).1 };
      iteration = record {
        store = enter table around h.iterator b s.run.graph (write state.store (Scalar outer.iterator) (At (Some a))) graph w2.0 to entered;
        with_inner = tt;
        with_outermost = tt;
        deferred = tt;
      };
    }

typed-turns : (s : Setting) (is' : IsSetting s) (its : List ℕ) (k : Key) (place : Place) (outer : Head) (mask : Expr) (j : Key) (inner_place : Place) (h : Head) (test : Expr) (body : Stmt) (state : State)
    → IsPoint s its (S.Foreach k place outer mask (S.Foreach j inner_place h test body)) state
    → TurnsTyped s.frame.layout s.table (h.iterator ∷ (outer.iterator ∷ its)) s.result (phase_loop s outer.iterator (S.Foreach j inner_place h test body)) h.iterator body state.store
typed-turns s is' its k place outer mask j inner_place h test body state point a b from to picks = are-typed-turns s is' its k place outer mask j inner_place h test body state point a b from to

pub own-loops-go : OwnLoopsGo
own-loops-go s at k place h test body is' own spares apart =
    subst (λ l. GoesAs s at l k place h test body) (sym lowered-is) (λ blocks places globals held its state between point.
    step-is s (own_env c seg n) at.place spots refl places own.shows globals (parallel loop' k test body (nodes s.run.graph) state.store) (superstep s.image s.run.graph at.block globals held)
    between.count (λ r e. edges-stay s is' loop' k test body (nodes s.run.graph) globals held state.store r between e)
    (own-loops c s.image (length s.image.fields) at.place at.block at.kind loop' k test body globals held state.store s.table (n ∷ its) s.result able (λ i lt. typed-start s is' its k place h test body state point i lt) (globals-apart s is' globals between.count) (have-room s.image.places at.place spots places)
    (block-found s.image at.block (own_block c seg n at.kind k test body) blocks) between.shown point.in_graph (apart its state point))) where
      c : Layout
      c = s.frame.layout

      n : ℕ
      n = h.iterator

      loop' : Loop
      loop' = phase_loop s n body

      spots : List Spot
      spots = own_spots c n k test body

      seg : Segment
      seg = segment at.place spots

      able : IsOwnLoop c s.image.registers (length s.image.fields) loop' test body
      able = record { apart = is'.rows; iterator = own.iterator; types = type-is s is'; depths = depth-is s is'; found = own.found; fits = own.fits; spares = spares }

      lowered-is : loop c at.place at.kind n k test body ≡ record { blocks = own_block c seg n at.kind k test body ∷ []; segment = seg }
      lowered-is =
          own-is c at.place at.kind n k test (own_finds c n) (own_sets c n) (own_gives c n (own_finds c n)) body own.fits
          ∙ ap (λ ys. record { blocks = own_block c seg n at.kind k test body ∷ taking_blocks c seg at.kind ys; segment = seg })
          (sends-nothing c n (own_finds c n) (own_sets c n) (own_gives c n (own_finds c n)) (own-nothing-away c n) body own.fits)

-- a loop of own statements that sends
module _ (s : Setting) (at : L.At) (k : Key) (place : Place) (h : Head) (test : Expr) (body : Stmt) (is' : IsSetting s) (own : IsOwnSending s.frame.layout h.iterator k test body) (spares : HasBodySpares s body)
    (apart : GiveApart s k place h test body) where
  abbrev co : Layout
  co = s.frame.layout

  abbrev nn : ℕ
  nn = h.iterator

  abbrev own_loop' : Loop
  own_loop' = phase_loop s nn body

  abbrev own_all : List Spot
  own_all = own_spots co nn k test body

  abbrev own_seg : Segment
  own_seg = segment at.place own_all

  abbrev own_sends : List Away
  own_sends = aways co.declarations nn body

  abbrev turns_of : State → List Iteration
  turns_of state = map (iteration own_loop' k test body state.store) (nodes s.run.graph)

  able-own : IsSendingOwnLoop co s.image.registers (length s.image.fields) own_loop' test body
  able-own = record { apart = is'.rows; iterator = own.iterator; types = type-is s is'; depths = depth-is s is'; found = own.found; fits = own.fits; spares = spares }

  one-taking : (xs : List Away) → are_any xs ≡ true → taking_blocks co own_seg at.kind xs ≡ taking_block co own_seg at.kind xs ∷ []
  one-taking [] o = absurd (both_ways false refl o)
  one-taking (x ∷ xs) o = refl

  own-lowered : loop co at.place at.kind nn k test body ≡ record { blocks = own_block co own_seg nn at.kind k test body ∷ taking_block co own_seg at.kind own_sends ∷ []; segment = own_seg }
  own-lowered =
      own-is co at.place at.kind nn k test (own_finds co nn) (own_sets co nn) (sending_gives co nn (own_finds co nn)) body own.fits
      ∙ ap (λ bs. record { blocks = own_block co own_seg nn at.kind k test body ∷ bs; segment = own_seg }) (one-taking own_sends own.sends)

  own-sending-goes : ((its : List ℕ) (state : State) (globals : List Value) (held : Nodes) → IsPoint s its (S.Foreach k place h test body) state
      → ((f : Fault) → IsIn f (somes (map (λ it. it.fault) (turns_of state)) ++ total_faults (own_left state.store (nodes s.run.graph) (turns_of state)) (filter is_to_scalars (given_in own_loop' k test body state.store))) → HasSpot (spot_of_fault f) own_all)
      → AreSent at.kind own_sends s.run.graph (filter is_to_nodes (given_in own_loop' k test body state.store)) (superstep s.image s.run.graph at.block globals held).nodes.sent
      → TotalsLast (somes (map (λ it. it.fault) (turns_of state))) (own_left state.store (nodes s.run.graph) (turns_of state)) (given_in own_loop' k test body state.store))
      → LoopGoes s at k place h test body
  own-sending-goes last =
      subst (λ l. GoesAs s at l k place h test body) (sym own-lowered) (λ blocks places globals held its state between point.
      let first = superstep s.image s.run.graph at.block globals held in
      let second = superstep s.image s.run.graph (suc at.block) first.globals first.nodes in
      let meant = parallel own_loop' k test body (nodes s.run.graph) state.store in
      let typed = λ (i : ℕ) (lt : i < node_count s.run.graph). are-typed-start s is' its k place h test body state point i lt in
      let room = have-room s.image.places at.place own_all places in
      let begins = get-is-index_or s.image.blocks at.block (own_block co own_seg nn at.kind k test body) _ blocks.0 in
      let apart-globals = globals-apart s is' globals between.count in
      let law =
      sending-own-loops co s.image (length s.image.fields) at.place at.block (suc at.block) at.kind own_loop' k test body globals held state.store s.table (nn ∷ its) s.result
      able-own typed is'.limit apart-globals room begins between.shown point.in_graph (apart its state point)
      (get-is-index_or s.image.blocks (suc at.block) (taking_block co own_seg at.kind own_sends) _ blocks.1.0) own.taken
      (last its state globals held point
      (first-spotted co s.image (length s.image.fields) at.place at.block at.kind own_loop' k test body globals held state.store s.table (nn ∷ its) s.result able-own typed is'.limit apart-globals room begins between.shown point.in_graph (apart its state point))
      (first-sent co s.image (length s.image.fields) at.place at.block at.kind own_loop' k test body globals held state.store s.table (nn ∷ its) s.result able-own typed is'.limit apart-globals room begins between.shown point.in_graph (apart its state point))) in
      ⊎_elim
      (λ (o : (first.fault ≡ None) × StepIs co (own_env co own_seg nn) own_all s.image.registers (length s.image.fields) s.run.graph globals meant second).
      subst (λ o. StepsAre s globals meant (step_ends o (λ f. first) (step_ends second.fault (λ f. second) (rest_of second)))) (sym o.0)
      (step-is s (own_env co own_seg nn) at.place own_all refl places own.shows globals meant second between.count (λ r e. edges-stay s is' own_loop' k test body (nodes s.run.graph) globals held state.store r between e) o.1))
      (λ (o : (f : Fault) × (meant ≡ Err f) × (first.fault ≡ Some (fault_of (own_env co own_seg nn) f)) × HasSpot (spot_of_fault f) own_all).
      subst (λ a. StepsAre s globals a (step_ends first.fault (λ f. first) (step_ends second.fault (λ f. second) (rest_of second)))) (sym o.1)
      (subst (λ z. StepsAre s globals (Err o.0) (step_ends z (λ f. first) (step_ends second.fault (λ f. second) (rest_of second)))) (sym o.2)
      (fault_of (own_env co own_seg nn) o.0, o.2, fault-shown s (own_env co own_seg nn) at.place own_all refl places own.shows o.0 o.3)))
      law)

module _ (s : Setting) (at : L.At) (k : Key) (place : Place) (outer : Head) (mask : Expr) (j : Key) (inner_place : Place) (h : Head) (test : Expr) (body : Stmt) (is' : IsSetting s) where
  abbrev c' : Layout
  c' = s.frame.layout

  abbrev n : ℕ
  n = outer.iterator

  abbrev inner : Stmt
  inner = S.Foreach j inner_place h test body

  abbrev loops : Loop
  loops = phase_loop s n inner

  abbrev g : NumberedGraph
  g = s.run.graph

  abbrev AsLoop : Lowered → Type 0
  AsLoop l = GoesAs s at l k place outer mask inner

  abbrev meant : State → Result Store Fault
  meant state = parallel loops k mask inner (nodes g) state.store

  message-goes : IsMessage c' n k mask j h test body → HasBodySpares s body → ((its : List ℕ) (state : State) → IsPoint s its (S.Foreach k place outer mask inner) state → GivesApart (given_in loops k mask inner state.store))
      → LoopGoes s at k place outer mask inner
  message-goes m spares apart =
      subst AsLoop (sym lowered-is) (λ blocks places globals held its state between point.
      let first = superstep s.image g at.block globals held in
      let second = superstep s.image g (suc at.block) first.globals first.nodes in
      let law =
      message-loops c' s.image (length s.image.fields) at.place at.block (suc at.block) at.kind spots loops k mask j inner_place h test body loads globals held state.store s.table (h.iterator ∷ (outer.iterator ∷ its)) s.result
      (record { neighbours = m.nested.neighbours; owner = m.nested.owner; found = m.masked; quiet = m.quiet; readable = m.readable }) able (typed-turns s is' its k place outer mask j inner_place h test body state point) (globals-apart s is' globals between.count) refl (have-room s.image.places at.place spots places)
      (get-is-index_or s.image.blocks at.block send _ blocks.0) (get-is-index_or s.image.blocks (suc at.block) receive _ blocks.1.0) between.shown between.edges point.in_graph (steps-inside g h.domain is'.graph) (apart its state point) in
      subst (λ o. StepsAre s globals (meant state) (step_ends o (λ f. first) (step_ends second.fault (λ f. second) (rest_of second)))) (sym law.0)
      (step-is s (receiver_env c' seg n h.iterator loads) at.place spots refl places m.shows globals (meant state) second between.count (λ r e. edges-stay s is' loops k mask inner (nodes g) globals held state.store r between e) law.2)) where
        loads : List Load
        loads = carried n test body

        spots : List Spot
        spots = spots_in mask k ++ inner_spots c' n h.iterator j test body

        seg : Segment
        seg = segment at.place spots

        send : Block
        send = send_block c' seg n k mask h.domain at.kind loads

        receive : Block
        receive = receive_block c' seg n h.iterator loads at.kind j test body

        able : IsMessageLoop c' s.image.registers (length s.image.fields) loops h.iterator loads test body
        able = record { apart = is'.rows; outer = m.nested.outer; inner = m.nested.inner; two = m.nested.two; types = type-is s is'; depths = depth-is s is'; found = m.found; fits = m.fits; spares = spares }

        lowered-is : loop c' at.place at.kind n k mask inner ≡ record { blocks = send ∷ receive ∷ []; segment = seg }
        lowered-is =
            ap (λ b. if b then each_loop c' at.place at.kind n k mask j h test body else message_loop c' at.place at.kind n k mask j h test body) m.away
            ∙ ap (λ ys. record { blocks = send ∷ (receive ∷ taking_blocks c' seg (suc at.kind) ys); segment = seg })
            (sends-nothing c' h.iterator (receiver_finds c' n h.iterator loads) sets_nothing (inner_gives c' h.iterator (receiver_finds c' n h.iterator loads)) (inner-nothing-away c' loops (depth-is s is') h.iterator (receiver_finds c' n h.iterator loads)) body m.fits)

  home-goes : IsHome c' n k mask j h test body → HasBodySpares s body → ((its : List ℕ) (state : State) → IsPoint s its (S.Foreach k place outer mask inner) state → GivesApart (given_in loops k mask inner state.store))
      → ((its : List ℕ) (state : State) (i : ℕ) → IsPoint s its (S.Foreach k place outer mask inner) state → i < node_count g → GivesApart (given_inside (home_turns loops h j test body state.store i)))
      → LoopGoes s at k place outer mask inner
  home-goes m spares apart apart_inside =
      subst AsLoop (sym lowered-is) (λ blocks places globals held its state between point.
      step-is s (own_env c' seg n) at.place spots refl places m.shows globals (meant state) (superstep s.image g at.block globals held)
      between.count (λ r e. edges-stay s is' loops k mask inner (nodes g) globals held state.store r between e)
      (home-loops c' s.image (length s.image.fields) at.place at.block at.kind loops k mask j inner_place h test body globals held state.store s.table (h.iterator ∷ (outer.iterator ∷ its)) s.result
      (record { neighbours = m.nested.neighbours; owner = m.nested.owner; found = m.masked }) able (typed-turns s is' its k place outer mask j inner_place h test body state point) (globals-apart s is' globals between.count) (have-room s.image.places at.place spots places)
      (block-found s.image at.block block blocks) between.shown between.edges point.in_graph (steps-inside g h.domain is'.graph) (apart its state point) (λ i lt. apart_inside its state i point lt))) where
        spots : List Spot
        spots = home_spots c' n h.iterator k mask j test body

        seg : Segment
        seg = segment at.place spots

        block : Block
        block = home_block c' seg n at.kind k mask h j test body

        able : IsHomeLoop c' s.image.registers (length s.image.fields) loops h.iterator test body
        able = record {
          apart = is'.rows;
          outer = m.nested.outer;
          inner = m.nested.inner;
          two = m.nested.two;
          types = type-is s is';
          depths = depth-is s is';
          own = λ p. pushes-nothing c' n p (home_finds c' n h.iterator) sets_nothing body m.fits;
          firsts = is'.firsts;
          plain = m.plain;
          found = m.found;
          fits = m.fits;
          spares = spares;
        }

        lowered-is : loop c' at.place at.kind n k mask inner ≡ record { blocks = block ∷ []; segment = seg }
        lowered-is =
            ap (λ b. if b then each_loop c' at.place at.kind n k mask j h test body else message_loop c' at.place at.kind n k mask j h test body) m.here
            ∙ ap (λ ys. record { blocks = block ∷ taking_blocks c' seg at.kind ys; segment = seg })
            (sends-nothing c' n (home_finds c' n h.iterator) sets_nothing (inner_gives c' n (home_finds c' n h.iterator)) (inner-nothing-away c' loops (depth-is s is') n (home_finds c' n h.iterator)) body m.fits)

  -- what the first superstep of a loop that sends does
  abbrev AreSending : List Value → Nodes → State → Type 0
  AreSending globals held state =
      let spots = home_spots c' n h.iterator k mask j test body in
      Sends c' (own_env c' (segment at.place spots) n) at.kind (aways c'.declarations n body) spots s.image.registers (length s.image.fields) g globals state.store
      (somes (map (λ it. it.fault) (map (iteration loops k mask inner state.store) (nodes g)))) (given_in loops k mask inner state.store) (superstep s.image g at.block globals held)

  sending-goes : IsSending c' n k mask j h test body → HasBodySpares s body → ((its : List ℕ) (state : State) → IsPoint s its (S.Foreach k place outer mask inner) state → GivesApart (given_in loops k mask inner state.store))
      → ((its : List ℕ) (state : State) (globals : List Value) (held : Nodes) → IsPoint s its (S.Foreach k place outer mask inner) state → AreSending globals held state
      → TotalsLast (somes (map (λ it. it.fault) (map (iteration loops k mask inner state.store) (nodes g)))) state.store (given_in loops k mask inner state.store))
      → LoopGoes s at k place outer mask inner
  sending-goes m spares apart last =
      subst AsLoop (sym lowered-is) (λ blocks places globals held its state between point.
      let first = superstep s.image g at.block globals held in
      let second = superstep s.image g (suc at.block) first.globals first.nodes in
      let each : HasEach c' loops mask h = record { neighbours = m.nested.neighbours; owner = m.nested.owner; found = m.masked } in
      let typed = are-typed-turns s is' its k place outer mask j inner_place h test body state point in
      let room = have-room s.image.places at.place spots places in
      let begins = get-is-index_or s.image.blocks at.block block _ blocks.0 in
      let sends =
      sending-supersteps c' s.image (length s.image.fields) at.place at.block at.kind loops k mask j inner_place h test body globals held state.store s.table (h.iterator ∷ (outer.iterator ∷ its)) s.result
      each able typed is'.limit (globals-apart s is' globals between.count) room begins between.shown between.edges point.in_graph (steps-inside g h.domain is'.graph) (apart its state point) in
      let law =
      sending-loops c' s.image (length s.image.fields) at.place at.block (suc at.block) at.kind loops k mask j inner_place h test body globals held state.store s.table (h.iterator ∷ (outer.iterator ∷ its)) s.result
      each able typed is'.limit (globals-apart s is' globals between.count) room begins between.shown between.edges point.in_graph (steps-inside g h.domain is'.graph) (apart its state point)
      (get-is-index_or s.image.blocks (suc at.block) takes _ blocks.1.0) m.taken (last its state globals held point sends) in
      ⊎_elim
      (λ (o : (first.fault ≡ None) × StepIs c' (own_env c' seg n) spots s.image.registers (length s.image.fields) g globals (meant state) second).
      subst (λ o. StepsAre s globals (meant state) (step_ends o (λ f. first) (step_ends second.fault (λ f. second) (rest_of second)))) (sym o.0)
      (step-is s (own_env c' seg n) at.place spots refl places m.shows globals (meant state) second between.count (λ r e. edges-stay s is' loops k mask inner (nodes g) globals held state.store r between e) o.1))
      (λ (o : (f : Fault) × (meant state ≡ Err f) × (first.fault ≡ Some (fault_of (own_env c' seg n) f)) × HasSpot (spot_of_fault f) spots).
      subst (λ a. StepsAre s globals a (step_ends first.fault (λ f. first) (step_ends second.fault (λ f. second) (rest_of second)))) (sym o.1)
      (subst (λ z. StepsAre s globals (Err o.0) (step_ends z (λ f. first) (step_ends second.fault (λ f. second) (rest_of second)))) (sym o.2)
      (fault_of (own_env c' seg n) o.0, o.2, fault-shown s (own_env c' seg n) at.place spots refl places m.shows o.0 o.3)))
      law) where
        spots : List Spot
        spots = home_spots c' n h.iterator k mask j test body

        seg : Segment
        seg = segment at.place spots

        block : Block
        block = home_block c' seg n at.kind k mask h j test body

        takes : Block
        takes = taking_block c' seg at.kind (aways c'.declarations n body)

        able : IsSenderLoop c' s.image.registers (length s.image.fields) loops h.iterator test body
        able = record {
          apart = is'.rows;
          outer = m.nested.outer;
          inner = m.nested.inner;
          two = m.nested.two;
          types = type-is s is';
          depths = depth-is s is';
          firsts = is'.firsts;
          plain = m.plain;
          found = m.found;
          fits = m.fits;
          spares = spares;
        }

        one-taking : (xs : List Away) → are_any xs ≡ true → taking_blocks c' seg at.kind xs ≡ taking_block c' seg at.kind xs ∷ []
        one-taking [] o = absurd (both_ways false refl o)
        one-taking (x ∷ xs) o = refl

        lowered-is : loop c' at.place at.kind n k mask inner ≡ record { blocks = block ∷ takes ∷ []; segment = seg }
        lowered-is =
            ap (λ b. if b then each_loop c' at.place at.kind n k mask j h test body else message_loop c' at.place at.kind n k mask j h test body) m.each
            ∙ ap (λ bs. record { blocks = block ∷ bs; segment = seg }) (one-taking (aways c'.declarations n body) m.sends)

pub message-loops-go : MessageLoopsGo
message-loops-go s at k place outer mask j inner_place h test body is' m spares apart = message-goes s at k place outer mask j inner_place h test body is' m spares apart

pub home-loops-go : HomeLoopsGo
home-loops-go s at k place outer mask j inner_place h test body is' m spares apart inside = home-goes s at k place outer mask j inner_place h test body is' m spares apart inside

pub own-sending-loops-go : OwnSendingLoopsGo
own-sending-loops-go s at k place h test body is' own spares apart last = own-sending-goes s at k place h test body is' own spares apart (λ its state globals held point spotted sent. last its state point)

-- totals of what is sent come last where none of the loop's spots comes behind those of Sums and Products
pub last-own-sending-loops-go : (s : Setting) (at : L.At) (k : Key) (place : Place) (h : Head) (test : Expr) (body : Stmt)
    → IsSetting s → IsOwnSending s.frame.layout h.iterator k test body → HasBodySpares s body → GiveApart s k place h test body
    → ((a : Away) → IsIn a (aways s.frame.layout.declarations h.iterator body) → can_overflow a.reduce ≡ true → (z : Spot) → IsIn z (own_spots s.frame.layout h.iterator k test body) → spot_lt (spot_of_total a.total) z ≡ false)
    → LoopGoes s at k place h test body
last-own-sending-loops-go s at k place h test body is' own spares apart ends =
    own-sending-goes s at k place h test body is' own spares apart (λ its state globals held point spotted sent.
    own-totals-last s is' its k place h test body state point at.kind (aways s.frame.layout.declarations h.iterator body) (own_spots s.frame.layout h.iterator k test body)
    own.shows (apart its state point) (λ a i. ((own.taken a i).spotted, ends a i)) (superstep s.image s.run.graph at.block globals held).nodes.sent spotted sent)

pub sending-loops-go : SendingLoopsGo
sending-loops-go s at k place outer mask j inner_place h test body is' m spares apart last =
    sending-goes s at k place outer mask j inner_place h test body is' m spares apart (λ its state globals held point sends. last its state point)

-- and so where eaches send
pub last-sending-loops-go : (s : Setting) (at : L.At) (k : Key) (place : Place) (outer : Head) (mask : Expr) (j : Key) (inner_place : Place) (h : Head) (test : Expr) (body : Stmt)
    → IsSetting s → IsSending s.frame.layout outer.iterator k mask j h test body → HasBodySpares s body → GiveApart s k place outer mask (S.Foreach j inner_place h test body)
    → ((a : Away) → IsIn a (aways s.frame.layout.declarations outer.iterator body) → can_overflow a.reduce ≡ true → (z : Spot) → IsIn z (home_spots s.frame.layout outer.iterator h.iterator k mask j test body) → spot_lt (spot_of_total a.total) z ≡ false)
    → LoopGoes s at k place outer mask (S.Foreach j inner_place h test body)
last-sending-loops-go s at k place outer mask j inner_place h test body is' m spares apart ends =
    sending-goes s at k place outer mask j inner_place h test body is' m spares apart (λ its state globals held point sends.
    let given = given_in (phase_loop s outer.iterator (S.Foreach j inner_place h test body)) k mask (S.Foreach j inner_place h test body) state.store in
    λ f x i l.
    received-behind s is' its k place outer mask (S.Foreach j inner_place h test body) state point at.kind (aways s.frame.layout.declarations outer.iterator body) (home_spots s.frame.layout outer.iterator h.iterator k mask j test body)
    m.shows (apart its state point) (λ a w. ((m.taken a w).spotted, ends a w)) f (filter is_to_nodes given) (superstep s.image s.run.graph at.block globals held).nodes.sent
    (sends.spotted f i) sends.sent (λ y w. (IsIn-filter is_to_nodes y given w).0) x l)
