-- Steps that send, together over all nodes, and the superstep that takes what they sent: with the own writes of nodes between them.
use Rattle.std.proofs.Common.{◌≡◌, ◌≢◌, ◌<◌, ◌≤◌, ℕ, zero, suc, Bool, true, false, Option, Some, None, List, [], ◌∷◌, ◌++◌, length, map, refl, ap, ◌∙◌, sym, subst, arith, add-one, ⊎_elim, cond, inl, inr, ◌⊎◌, Ok}
use Rattle.std.specs.Prelude.{◌+◌, ◌&&◌, ◌||◌, nat_lt, if◌then◌else◌, slice_index_or, filter, not}
use Rattle.std.specs.List.{list_all, flat_map, enumerate_from}
use Rattle.std.proofs.lemmas.Bool.{both_ways, ne_eqb, eq-eqb, ltb-true, lt-ltb, cases_lt}
use Rattle.gm_value.specs.declared.values.Value.{Value}
use Rattle.gm_value.specs.Bag.{IsIn}
use Rattle.gm_value.specs.Numbers.{zero_of}
use Rattle.gm_model.specs.Graphs.{NumberedGraph, node_count}
use Rattle.gm_ast.specs.declared.tree.Key.{Key}
use Rattle.gm_ast.specs.Program.{Expr, Stmt}
use Rattle.gm_ast.specs.declared.tree.Target.{Target}
use Rattle.gm_ast.specs.declared.tree.Target.TheVariants as T
use Rattle.gm_forms.proofs.Named.{both-true}
use Rattle.gm_semantics.specs.declared.faults.Fault.{Fault}
use Rattle.gm_semantics.specs.declared.slots.Slot.{Slot}
use Rattle.gm_semantics.specs.declared.slots.Slot.TheVariants as slots
use Rattle.gm_semantics.specs.Contributions as S
use Rattle.gm_semantics.specs.Stores as St
use Rattle.gm_semantics.specs.Contributions.{Contribution, total_faults, settled_store}
use Rattle.gm_semantics.specs.Faults.{least, somes, joined, unless_fault}
use Rattle.gm_semantics.specs.Faults as F
use Rattle.gm_semantics.specs.Iterations.{Loop, Iteration}
use Rattle.gm_semantics.specs.Levels.{numbers_from, nodes}
use Rattle.gm_semantics.specs.Loops.{iteration, own_left, left_at, parallel}
use Rattle.gm_semantics.specs.Statements.{variable_at}
use Rattle.gm_semantics.specs.Stores.{Store, read, has_slot, overlaid}
use Rattle.gm_semantics.proofs.ContributionLaws.{IsIn-filter, slots_eq-true}
use Rattle.gm_semantics.proofs.TargetLaws.{value-away}
use Rattle.gm_semantics.proofs.Leasts.{lesser_of, least-append}
use Rattle.gm_image.specs.Parts.{is_among}
use Rattle.gm_image.specs.Program as image
use Rattle.gm_machine.specs.declared.faults.Fault as M
use Rattle.gm_machine.specs.Expressions.{value_at}
use Rattle.gm_machine.specs.Faults.{lesser, least_fault}
use Rattle.gm_machine.specs.Machine.{Nodes, Stepped, context_at, block_at, all_steps, stepped, superstep}
use Rattle.gm_machine.specs.Taking.{settled}
use Rattle.gm_machine.specs.Vertex.{After, vertex_after, Message}
use Rattle.gm_machine.proofs.LeastLaws.{least_right, least_from-right}
use Rattle.gm_lowering.specs.Layouts.{Layout, is_global, is_register, has_value}
use Rattle.gm_lowering.specs.Places.{Spot, Segment, segment}
use Rattle.gm_lowering.specs.Terms.{Env, own_env}
use Rattle.gm_lowering.specs.Showing.{fault_of}
use Rattle.gm_lowering.specs.Sites.{slot_at, given, phase_value, are_of_scalars, IsApart}
use Rattle.gm_lowering.specs.Phases.{GlobalsApart, Shown, GivesApart, given_in, OthersKept, Leaves, StepIs}
use Rattle.gm_lowering.specs.Settles.{HasSpot, fault_or_none, AreHeld, AreGiven, SettlesAlike, spot_of_fault, HaveRoom}
use Rattle.gm_lowering.specs.Sent.{AreSent}
use Rattle.gm_lowering.specs.OwnSends.{OwnSends}
use Rattle.gm_lowering.specs.SenderSupersteps.{with_scalars}
use Rattle.gm_lowering.specs.Plans.{Away}
use Rattle.gm_lowering.specs.MessageLoops.{is_to_scalars, is_to_nodes}
use Rattle.gm_lowering.specs.SenderLoops.{TotalsLast, TwoStepsAre}
use Rattle.gm_lowering.specs.TakingSteps.{taking_block, Carried, IsTaken, contributions_of}
use Rattle.gm_lowering.specs.Takings.{slots_at}
use Rattle.gm_lowering.proofs.Orders.{lesser-lower}
use Rattle.gm_lowering.proofs.Own.{global-has_value, global-no_register}
use Rattle.gm_lowering.proofs.PutFacts.{here, IsPut}
use Rattle.gm_lowering.proofs.Settles.{least-none, total-spot, reductions-settle, somes-in, in-somes, filter-in, least-is}
use Rattle.gm_lowering.proofs.Spots.{Has}
use Rattle.gm_lowering.proofs.Supersteps.{not-here, least-parts, least-two}
use Rattle.gm_lowering.proofs.Regions.{in-parts, value-filtered, fault-filtered, least-members, in-front, in-back}
use Rattle.gm_lowering.proofs.Sent.{sent-both}
use Rattle.gm_lowering.proofs.TakingSteps.{taking-blocks}

filter-both : {A : Type 0} (t : A → Bool) (xs ys : List A) → filter t (xs ++ ys) ≡ filter t xs ++ filter t ys
filter-both t [] ys = refl
filter-both t (x ∷ xs) ys = by (t x) (filter-both t xs ys) where
  by : (b : Bool) → filter t (xs ++ ys) ≡ filter t xs ++ filter t ys → cond b (x ∷ filter t (xs ++ ys)) (filter t (xs ++ ys)) ≡ cond b (x ∷ filter t xs) (filter t xs) ++ filter t ys
  by true e = ap (λ l. x ∷ l) e
  by false e = e

map-append : {A B : Type 0} (f : A → B) (xs ys : List A) → map f (xs ++ ys) ≡ map f xs ++ map f ys
map-append f [] ys = refl
map-append f (x ∷ xs) ys = ap (λ l. f x ∷ l) (map-append f xs ys)

module _ (c : Layout) (p : image.Program) (fields base q kind : ℕ) (sends : List Away) (loop : Loop) (all : List Spot) (part : image.Block) (key : Key) (test : Expr) (body : Stmt) (globals : List Value) (s : Nodes) (r : Store)
    (rows : IsApart c (length p.registers) fields)
    (gs : GlobalsApart c (length globals))
    (fit : HaveRoom base all (length p.places))
    (block : block_at p q ≡ part)
    (shown : Shown c p.registers fields loop.graph globals s r)
    (apart : GivesApart (given_in loop key test body r))
    (sends-at : (k : ℕ) → k < node_count loop.graph
    → OwnSends c (own_env c (segment base all) loop.outer) kind sends loop.graph fields k (iteration loop key test body r k) (vertex_after p part (context_at loop.graph globals k) [] (slice_index_or s.fields k [])))
    (spotted-at : (k : ℕ) → k < node_count loop.graph
    → Has (iteration loop key test body r k).fault all × ((y : Contribution) → is_to_scalars y ≡ true → IsIn y (iteration loop key test body r k).with_outermost → IsPut c all y)) where
  abbrev n : ℕ
  n = loop.outer

  abbrev g : NumberedGraph
  g = loop.graph

  abbrev seg : Segment
  seg = segment base all

  abbrev v : Env
  v = own_env c seg n

  abbrev it : ℕ → Iteration
  it k = iteration loop key test body r k

  abbrev fields_at : ℕ → List Value
  fields_at k = slice_index_or s.fields k []

  abbrev one_step : ℕ × List Value → After
  one_step x = vertex_after p part (context_at g globals x.0) [] x.1

  -- all nodes from one on
  abbrev AllSend : ℕ → List (List Value) → Type 0
  AllSend k [] = Unit {0}
  AllSend k (fs ∷ fss) = OwnSends c v kind sends g fields k (it k) (one_step (k, fs)) × AllSend (suc k) fss

  all-send : (k : ℕ) (fss : List (List Value)) → k + length fss ≤ node_count g → ((j : ℕ) → slice_index_or s.fields (k + j) [] ≡ slice_index_or fss j []) → AllSend k fss
  all-send k [] le e = tt
  all-send k (fs ∷ fss) le e = (
    subst (λ x. OwnSends c v kind sends g fields k (it k) (one_step (k, x))) (ap (λ j. slice_index_or s.fields j []) (let z : k ≡ k + 0 = omega arith in z) ∙ e 0) (sends-at k (omega arith)),
    all-send (suc k) fss (omega arith) (λ j. ap (λ i. slice_index_or s.fields i []) (let z : suc k + j ≡ k + suc j = omega arith in z) ∙ e (suc j)),
  )

  abbrev steps_from : ℕ → List (List Value) → List After
  steps_from k fss = map one_step (enumerate_from k fss)

  abbrev its_from : ℕ → ℕ → List Iteration
  its_from k m = map it (numbers_from k m)

  abbrev given_from : ℕ → ℕ → List Contribution
  given_from k m = joined (map (λ i. i.with_outermost) (its_from k m))

  next-steps : (k : ℕ) (fss : List (List Value)) → steps_from (k + 1) fss ≡ steps_from (suc k) fss
  next-steps k fss = ap (λ j. steps_from j fss) (add-one k)

  faults-all : (k : ℕ) (fss : List (List Value)) → AllSend k fss → map (λ a. a.fault) (steps_from k fss) ≡ map (fault_or_none v) (map (λ i. i.fault) (its_from k (length fss)))
  faults-all k [] h = refl
  faults-all k (fs ∷ fss) h =
      ap (λ as'. (one_step (k, fs)).fault ∷ map (λ a. a.fault) as') (next-steps k fss)
      ∙ ap (λ o. o ∷ map (λ a. a.fault) (steps_from (suc k) fss)) h.0.fault
      ∙ ap (λ os. fault_or_none v (it k).fault ∷ os) (faults-all (suc k) fss h.1)

  puts-all : (k : ℕ) (fss : List (List Value)) → AllSend k fss → flat_map (λ a. a.state.puts) (steps_from k fss) ≡ map (given c v) (filter is_to_scalars (given_from k (length fss)))
  puts-all k [] h = refl
  puts-all k (fs ∷ fss) h =
      ap (λ as'. (one_step (k, fs)).state.puts ++ flat_map (λ a. a.state.puts) as') (next-steps k fss)
      ∙ ap (λ ps. ps ++ flat_map (λ a. a.state.puts) (steps_from (suc k) fss)) h.0.sent.puts
      ∙ ap (λ ps. map (given c v) (filter is_to_scalars (it k).with_outermost) ++ ps) (puts-all (suc k) fss h.1)
      ∙ sym (map-append (given c v) (filter is_to_scalars (it k).with_outermost) (filter is_to_scalars (given_from (suc k) (length fss))))
      ∙ ap (map (given c v)) (sym (filter-both is_to_scalars (it k).with_outermost (given_from (suc k) (length fss))))

  sent-all : (k : ℕ) (fss : List (List Value)) → AllSend k fss → AreSent kind sends g (filter is_to_nodes (given_from k (length fss))) (flat_map (λ a. a.state.messages) (steps_from k fss))
  sent-all k [] h = tt
  sent-all k (fs ∷ fss) h =
      subst (λ as'. AreSent kind sends g (filter is_to_nodes (given_from k (suc (length fss)))) ((one_step (k, fs)).state.messages ++ flat_map (λ a. a.state.messages) as')) (sym (next-steps k fss))
      (subst (λ cs. AreSent kind sends g cs ((one_step (k, fs)).state.messages ++ flat_map (λ a. a.state.messages) (steps_from (suc k) fss))) (sym (filter-both is_to_nodes (it k).with_outermost (given_from (suc k) (length fss))))
      (sent-both kind sends g (filter is_to_nodes (it k).with_outermost) (filter is_to_nodes (given_from (suc k) (length fss))) (one_step (k, fs)).state.messages (flat_map (λ a. a.state.messages) (steps_from (suc k) fss)) h.0.sent.carried (sent-all (suc k) fss h.1)))

  steps-length : (k : ℕ) (fss : List (List Value)) → length (map (λ a. a.state.fields) (steps_from k fss)) ≡ length fss
  steps-length k [] = refl
  steps-length k (fs ∷ fss) = ap suc (steps-length (k + 1) fss)

  -- the fields of a node after the step
  left-fields : (k : ℕ) (fss : List (List Value)) (j : ℕ) → j < length fss → slice_index_or (map (λ a. a.state.fields) (steps_from k fss)) j [] ≡ (one_step (k + j, slice_index_or fss j [])).state.fields
  left-fields k [] j lt = absurd (omega arith)
  left-fields k (fs ∷ fss) zero lt = ap (λ i. (one_step (i, fs)).state.fields) (let z : k ≡ k + 0 = omega arith in z)
  left-fields k (fs ∷ fss) (suc j) lt =
      left-fields (k + 1) fss j (omega arith) ∙ ap (λ i. (one_step (i, slice_index_or fss j [])).state.fields) (let z : (k + 1) + j ≡ k + suc j = omega arith in z)

  abbrev its : List Iteration
  its = map it (nodes g)

  -- what each node holds after its own iteration
  own-at : (a m k x : ℕ) → a ≤ k → k < a + m → left_at (numbers_from a m) (its_from a m) r x k ≡ (it k).store.node x k
  own-at a zero k x le lt = absurd (omega arith)
  own-at a (suc m) k x le lt =
      ⊎_elim
      (λ (l : a < k). ap (λ b. if b then (it a).store.node x k else left_at (numbers_from (suc a) m) (its_from (suc a) m) r x k) (ne_eqb a k (λ e. omega arith)) ∙ own-at (suc a) m k x (omega arith) (omega arith))
      (λ (l : k ≤ a).
      let same : a ≡ k = omega arith in
      ap (λ b. if b then (it a).store.node x k else left_at (numbers_from (suc a) m) (its_from (suc a) m) r x k) (eq-eqb a k same) ∙ ap (λ z. (it z).store.node x k) same)
      (cases_lt a k)

  abbrev own : Store
  own = own_left r (nodes g) its

  abbrev own_faults : List Fault
  own_faults = somes (map (λ i. i.fault) its)

  abbrev given_all : List Contribution
  given_all = given_in loop key test body r

  abbrev scalar_part : List Contribution
  scalar_part = filter is_to_scalars given_all

  put-of : (m a : ℕ) (x : Contribution) → a + m ≤ node_count g → is_to_scalars x ≡ true → IsIn x (given_from a m) → IsPut c all x
  put-of zero a x le o i = absurd i
  put-of (suc m) a x le o i =
      ⊎_elim (λ (w : IsIn x (it a).with_outermost). (spotted-at a (omega arith)).1 x o w) (λ (w : IsIn x (given_from (suc a) m)). put-of m (suc a) x (omega arith) o w)
      (in-parts x (it a).with_outermost (given_from (suc a) m) i)

  put-all : (x : Contribution) → IsIn x scalar_part → IsPut c all x
  put-all x i = let t = IsIn-filter is_to_scalars x given_all i in put-of (node_count g) 0 x (omega arith) t.1 t.0

  fault-spots : (m a : ℕ) (f : Fault) → a + m ≤ node_count g → IsIn f (somes (map (λ i. i.fault) (its_from a m))) → HasSpot (spot_of_fault f) all
  fault-spots zero a f le i = absurd i
  fault-spots (suc m) a f le i = by (it a).fault (spotted-at a (omega arith)).0 (λ j. fault-spots m (suc a) f (omega arith) j) i where
    by : (o : Option Fault) → Has o all → (IsIn f (somes (map (λ i. i.fault) (its_from (suc a) m))) → HasSpot (spot_of_fault f) all) → IsIn f (somes (o ∷ map (λ i. i.fault) (its_from (suc a) m))) → HasSpot (spot_of_fault f) all
    by None h go i = go i
    by (Some y) h go i = ⊎_elim (λ (e : f ≡ y). subst (λ z. HasSpot (spot_of_fault z) all) (sym e) h) (λ (j : IsIn f (somes (map (λ i. i.fault) (its_from (suc a) m)))). go j) i

  held-globals : AreHeld c own globals (here c)
  held-globals = record { holds = holds; within = low-enough; apart = unlike } where
    holds : (slot : Slot) → here c slot ≡ true → value_at globals (slot_at c slot) ≡ read own slot
    holds (slots.Scalar x) o =
        let t = both-true (nat_lt x (length c.declarations)) (is_global (variable_at c.declarations x)) o in
        sym (ap (λ b. if b then value_at globals (c.global x) else zero_of (variable_at c.declarations x).vtype) t.1)
        ∙ shown.scalars x (ltb-true x (length c.declarations) t.0) (global-no_register (variable_at c.declarations x) t.1) (global-has_value (variable_at c.declarations x) t.1)
    holds (slots.Node y k) o = absurd (both_ways false refl o)

    low-enough : (slot : Slot) → here c slot ≡ true → slot_at c slot < length globals
    low-enough (slots.Scalar x) o =
        let t = both-true (nat_lt x (length c.declarations)) (is_global (variable_at c.declarations x)) o in gs.within x (ltb-true x (length c.declarations) t.0) t.1
    low-enough (slots.Node y k) o = absurd (both_ways false refl o)

    unlike : (a b : Slot) → here c a ≡ true → here c b ≡ true → slot_at c a ≡ slot_at c b → a ≡ b
    unlike (slots.Scalar x) (slots.Scalar y) o o' e =
        let t = both-true (nat_lt x (length c.declarations)) (is_global (variable_at c.declarations x)) o in
        let u = both-true (nat_lt y (length c.declarations)) (is_global (variable_at c.declarations y)) o' in
        ap slots.Scalar (gs.apart x y (ltb-true x (length c.declarations) t.0) (ltb-true y (length c.declarations) u.0) t.1 u.1 e)
    unlike (slots.Scalar x) (slots.Node y k) o o' e = absurd (both_ways false refl o')
    unlike (slots.Node y k) b o o' e = absurd (both_ways false refl o)

  good : AreGiven scalar_part (here c) all
  good = record {
    one = λ x y slot i j e f. apart.one x y slot (IsIn-filter is_to_scalars x given_all i).0 (IsIn-filter is_to_scalars y given_all j).0 e f;
    here_all = λ x i. (put-all x i).here_all;
    not_empty = λ x i. (put-all x i).not_empty;
    one_total = λ x y i j e f. apart.one_total x y (IsIn-filter is_to_scalars x given_all i).0 (IsIn-filter is_to_scalars y given_all j).0 e f;
    spotted = λ x i. (put-all x i).spotted;
  }

  settles : SettlesAlike c v (length p.places) own globals (here c) scalar_part
  settles = reductions-settle c v base (length p.places) all own globals (here c) scalar_part refl fit held-globals good

  low : (f d : Fault) → HasSpot (spot_of_fault f) all → HasSpot (spot_of_fault d) all → lesser (Some (fault_of v f)) (Some (fault_of v d)) ≡ Some (fault_of v (F.lower f d))
  low f d a b = lesser-lower v base all refl f d a b

  -- the superstep
  abbrev t : Stepped
  t = superstep p g q globals s

  every : AllSend 0 s.fields
  every = all-send 0 s.fields (subst (λ m. 0 + m ≤ node_count g) (sym shown.all_nodes) (omega arith)) (λ j. ap fields_at (let z : 0 + j ≡ j = omega arith in z))

  t-is : t ≡ stepped (length p.places) globals s (steps_from 0 s.fields)
  t-is =
      ap (λ b. stepped (length p.places) globals s (all_steps p g b globals s.sent s.fields)) block
      ∙ ap (λ m. stepped (length p.places) globals s (all_steps p g part globals m s.fields)) shown.idle

  puts-are : flat_map (λ a. a.state.puts) (steps_from 0 s.fields) ≡ map (given c v) scalar_part
  puts-are = puts-all 0 s.fields every ∙ ap (λ m. map (given c v) (filter is_to_scalars (given_from 0 m))) shown.all_nodes

  own-spotted : (f : Fault) → IsIn f own_faults → HasSpot (spot_of_fault f) all
  own-spotted f i = fault-spots (node_count g) 0 f (omega arith) i

  total-spotted : (f : Fault) → IsIn f (total_faults own scalar_part) → HasSpot (spot_of_fault f) all
  total-spotted f i = total-spot c v base (length p.places) all own globals (here c) scalar_part refl fit held-globals good f i

  fault-is : t.fault ≡ fault_or_none v (least (own_faults ++ total_faults own scalar_part))
  fault-is =
      ap (λ u. u.fault) t-is
      ∙ ap (λ os. lesser (least_fault os) (settled (length p.places) (flat_map (λ a. a.state.puts) (steps_from 0 s.fields)) globals).fault)
      (faults-all 0 s.fields every ∙ ap (λ m. map (fault_or_none v) (map (λ i. i.fault) (its_from 0 m))) shown.all_nodes)
      ∙ ap (λ o. lesser o (settled (length p.places) (flat_map (λ a. a.state.puts) (steps_from 0 s.fields)) globals).fault)
      (least_from-right None (map (fault_or_none v) (map (λ i. i.fault) its)) ∙ none-first (least_right (map (fault_or_none v) (map (λ i. i.fault) its))) ∙ least-parts v all low (map (λ i. i.fault) its) own-spotted)
      ∙ ap (λ ps. lesser (fault_or_none v (least own_faults)) (settled (length p.places) ps globals).fault) puts-are
      ∙ ap (lesser (fault_or_none v (least own_faults))) settles.fault
      ∙ least-two v all low own_faults (total_faults own scalar_part) own-spotted total-spotted where
        none-first : (o : Option M.Fault) → lesser None o ≡ o
        none-first o = refl

  pub either-spotted : (f : Fault) → IsIn f (own_faults ++ total_faults own scalar_part) → HasSpot (spot_of_fault f) all
  either-spotted f i = ⊎_elim (λ (w : IsIn f own_faults). own-spotted f w) (λ (w : IsIn f (total_faults own scalar_part)). total-spotted f w) (in-parts f own_faults (total_faults own scalar_part) i)

  globals-are : t.globals ≡ (settled (length p.places) (map (given c v) scalar_part) globals).values
  globals-are = ap (λ u. u.globals) t-is ∙ ap (λ ps. (settled (length p.places) ps globals).values) puts-are

  fields-are : t.nodes.fields ≡ map (λ a. a.state.fields) (steps_from 0 s.fields)
  fields-are = ap (λ u. u.nodes.fields) t-is

  node-at : (k : ℕ) → k < node_count g → slice_index_or t.nodes.fields k [] ≡ (one_step (k, fields_at k)).state.fields
  node-at k lt =
      ap (λ fss. slice_index_or fss k []) fields-are
      ∙ left-fields 0 s.fields k (subst (λ m. k < m) (sym shown.all_nodes) lt)
      ∙ ap (λ i. (one_step (i, fields_at k)).state.fields) (let z : 0 + k ≡ k = omega arith in z)

  pub sent-is : AreSent kind sends g (filter is_to_nodes given_all) t.nodes.sent
  sent-is =
      subst (λ u. AreSent kind sends g (filter is_to_nodes given_all) u.nodes.sent) (sym t-is)
      (subst (λ m. AreSent kind sends g (filter is_to_nodes (given_from 0 m)) (flat_map (λ a. a.state.messages) (steps_from 0 s.fields))) shown.all_nodes (sent-all 0 s.fields every))

  away : (x : ℕ) → here c (slots.Scalar x) ≡ false → S.value_after own scalar_part (slots.Scalar x) ≡ own.scalar x
  away x e = value-away own (slots.Scalar x) scalar_part (λ y i. not-here (here c) (slots.Scalar x) y.slots (put-all y i).here_all e)

  and-false : (a b : Bool) → b ≡ false → a && b ≡ false
  and-false true b e = e
  and-false false b e = refl

  register-no_global : (x : ℕ) → is_register (variable_at c.declarations x) ≡ true → is_global (variable_at c.declarations x) ≡ false
  register-no_global x e = by (is_global (variable_at c.declarations x)) refl where
    by : (b : Bool) → is_global (variable_at c.declarations x) ≡ b → b ≡ false
    by true f = absurd (both_ways (is_register (variable_at c.declarations x)) (global-no_register (variable_at c.declarations x) f) e)
    by false f = refl

  not-here-scalar : (x : ℕ) → is_global (variable_at c.declarations x) ≡ false → here c (slots.Scalar x) ≡ false
  not-here-scalar x e = and-false (nat_lt x (length c.declarations)) (is_global (variable_at c.declarations x)) e

  -- what it leaves where it has no fault
  module _ (fine : least (own_faults ++ total_faults own scalar_part) ≡ None) where
    no-fault : (k : ℕ) → k < node_count g → (it k).fault ≡ None
    no-fault k lt = by (it k).fault refl where
      in-own : (a m : ℕ) (f : Fault) → a ≤ k → k < a + m → (it k).fault ≡ Some f → IsIn f (somes (map (λ i. i.fault) (its_from a m)))
      in-own a zero f le l e = absurd (omega arith)
      in-own a (suc m) f le l e =
          ⊎_elim
          (λ (less : a < k). past (it a).fault (in-own (suc a) m f (omega arith) (omega arith) e))
          (λ (more : k ≤ a). let same : a ≡ k = omega arith in subst (λ o. IsIn f (somes (o ∷ map (λ i. i.fault) (its_from (suc a) m)))) (sym (ap (λ z. (it z).fault) same ∙ e)) (inl refl))
          (cases_lt a k) where
            past : (o : Option Fault) → IsIn f (somes (map (λ i. i.fault) (its_from (suc a) m))) → IsIn f (somes (o ∷ map (λ i. i.fault) (its_from (suc a) m)))
            past None i = i
            past (Some y) i = inr i

      front : (f : Fault) (xs ys : List Fault) → IsIn f xs → IsIn f (xs ++ ys)
      front f [] ys i = absurd i
      front f (x ∷ xs) ys i = ⊎_elim (λ (e : f ≡ x). inl e) (λ (j : IsIn f xs). inr (front f xs ys j)) i

      by : (o : Option Fault) → (it k).fault ≡ o → o ≡ None
      by None e = refl
      by (Some f) e = absurd (least-none (own_faults ++ total_faults own scalar_part) fine f (front f own_faults (total_faults own scalar_part) (in-own 0 (node_count g) f (omega arith) (omega arith) e)))

    shown-between : Shown c p.registers fields g t.globals (record (t.nodes) { sent = [] }) (with_scalars own scalar_part)
    shown-between = record {
      scalars = scalars;
      locals = λ x lt e. shown.locals x lt e ∙ sym (away x (not-here-scalar x (register-no_global x e)));
      properties = λ k lt x o.
          ap (λ fs. value_at fs (c.field x)) (node-at k lt)
          ∙ (sends-at k lt).properties (no-fault k lt) x o
          ∙ sym (own-at 0 (node_count g) k x (omega arith) (omega arith));
      widths = λ k lt. ap length (node-at k lt) ∙ (sends-at k lt).field_count (no-fault k lt);
      all_nodes = ap length fields-are ∙ steps-length 0 s.fields ∙ shown.all_nodes;
      idle = refl;
    } where
      scalars : (x : ℕ) → x < length c.declarations → is_register (variable_at c.declarations x) ≡ false → has_value (variable_at c.declarations x) ≡ true → phase_value c t.globals x ≡ S.value_after own scalar_part (slots.Scalar x)
      scalars x lt e f = by (is_global (variable_at c.declarations x)) refl where
        by : (b : Bool) → is_global (variable_at c.declarations x) ≡ b → (if b then value_at t.globals (c.global x) else zero_of (variable_at c.declarations x).vtype) ≡ S.value_after own scalar_part (slots.Scalar x)
        by true o =
            ap (λ vs. value_at vs (c.global x)) globals-are
            ∙ settles.values (slots.Scalar x) (ap (λ b. b && is_global (variable_at c.declarations x)) (lt-ltb x (length c.declarations) lt) ∙ o)
        by false o =
            sym (ap (λ b. if b then value_at globals (c.global x) else zero_of (variable_at c.declarations x).vtype) o)
            ∙ shown.scalars x lt e f ∙ sym (away x (not-here-scalar x o))

  others-kept : OthersKept c globals t.globals
  others-kept i none = ap (λ vs. value_at vs i) globals-are ∙ settles.others i (λ x j. none-has i none x.slots (put-all x j).here_all) where
    none-has : (i : ℕ) → ((x : ℕ) → x < length c.declarations → is_global (variable_at c.declarations x) ≡ true → c.global x ≢ i) → (xs : List Slot) → list_all (here c) xs ≡ true → is_among i (map (slot_at c) xs) ≡ false
    none-has i none [] h = refl
    none-has i none (slots.Scalar x ∷ xs) h =
        let t = both-true (here c (slots.Scalar x)) (list_all (here c) xs) h in
        let u = both-true (nat_lt x (length c.declarations)) (is_global (variable_at c.declarations x)) t.0 in
        ap (λ b. b || is_among i (map (slot_at c) xs)) (ne_eqb (c.global x) i (none x (ltb-true x (length c.declarations) u.0) u.1)) ∙ none-has i none xs t.1
    none-has i none (slots.Node x k ∷ xs) h = absurd (both_ways false refl h)

  count-kept : length t.globals ≡ length globals
  count-kept = ap length globals-are ∙ settles.count

  -- the second superstep takes what was sent
  module _ (q2 : ℕ) (block2 : block_at p q2 ≡ taking_block c (segment base all) kind sends)
      (takes : (a : Away) → IsIn a sends → IsTaken c all a)
      (last : TotalsLast (somes (map (λ it'. it'.fault) (map (iteration loop key test body r) (nodes loop.graph)))) (own_left r (nodes loop.graph) (map (iteration loop key test body r) (nodes loop.graph))) (given_in loop key test body r)) where
    abbrev node_part : List Contribution
    node_part = filter is_to_nodes given_all

    abbrev between : Store
    between = with_scalars own scalar_part

    abbrev Pairs : List Contribution → List Message → Type 0
    Pairs cs ms = (xs : List (Contribution × Message)) × (contributions_of xs ≡ cs) × (map (λ x. x.1) xs ≡ ms) × ((x : Contribution × Message) → IsIn x xs → Carried kind sends x.0 x.1 × (x.1.to < node_count g))

    pairs-of : (cs : List Contribution) (ms : List Message) → AreSent kind sends g cs ms → Pairs cs ms
    pairs-of [] [] o = ([], refl, refl, λ x i. absurd i)
    pairs-of [] (m ∷ ms) o = absurd o
    pairs-of (y ∷ cs) [] o = absurd o
    pairs-of (y ∷ cs) (m ∷ ms) o =
        let rest = pairs-of cs ms o.2 in (
          (y, m) ∷ rest.0,
          ap (λ l. y ∷ l) rest.1,
          ap (λ l. m ∷ l) rest.2,
          λ x i. ⊎_elim (λ (e : x ≡ (y, m)). subst (λ z. Carried kind sends z.0 z.1 × (z.1.to < node_count g)) (sym e) (o.0, o.1)) (λ (w : IsIn x rest.0). rest.3 x w) i,
        )

    pairs : Pairs node_part t.nodes.sent
    pairs = pairs-of node_part t.nodes.sent sent-is

    in-map : {A B : Type 0} (f : A → B) (xs : List A) (y : B) → IsIn y (map f xs) → (x : A) × IsIn x xs × (y ≡ f x)
    in-map f [] y o = absurd o
    in-map f (x ∷ xs) y o = ⊎_elim (λ (e : y ≡ f x). (x, inl refl, e)) (λ (w : IsIn y (map f xs)). let z = in-map f xs y w in (z.0, inr z.1, z.2)) o

    -- the slots of what is sent are of nodes
    slots-of : (y : Contribution) → IsIn y node_part → (j : ℕ) × (ts : List Target) × (y.slots ≡ slots_at j ts)
    slots-of y i =
        let x = in-map (λ (z : Contribution × Message). z.0) pairs.0 y (subst (IsIn y) (sym pairs.1) i) in
        let k = (pairs.3 x.0 x.1).0 in
        (x.0.1.to, k.away.targets, ap (λ z. z.slots) (x.2 ∙ k.made))

    no-scalar : (x k : ℕ) (ts : List Target) → has_slot (slots.Scalar x) (slots_at k ts) ≡ false
    no-scalar x k [] = refl
    no-scalar x k (T.Scalar y at ∷ ts) = no-scalar x k ts
    no-scalar x k (T.Property y z at ∷ ts) = no-scalar x k ts

    reads-at : (j : ℕ) (ts : List Target) → St.reads between (slots_at j ts) ≡ St.reads own (slots_at j ts)
    reads-at j [] = refl
    reads-at j (T.Scalar y at ∷ ts) = reads-at j ts
    reads-at j (T.Property y z at ∷ ts) = ap (λ l. own.node z j ∷ l) (reads-at j ts)

    reads-same : (y : Contribution) → IsIn y node_part → St.reads between y.slots ≡ St.reads own y.slots
    reads-same y i = let w = slots-of y i in ap (St.reads between) w.2 ∙ reads-at w.0 w.1 ∙ ap (St.reads own) (sym w.2)

    map-same : {A B : Type 0} (f f' : A → B) (xs : List A) → ((x : A) → IsIn x xs → f x ≡ f' x) → map f xs ≡ map f' xs
    map-same f f' [] e = refl
    map-same f f' (x ∷ xs) e = ap (λ y. y ∷ map f xs) (e x (inl refl)) ∙ ap (λ l. f' x ∷ l) (map-same f f' xs (λ y i. e y (inr i)))

    totals-same : total_faults between node_part ≡ total_faults own node_part
    totals-same =
        ap somes (map-same (λ (y : Contribution). S.target_fault between node_part y.slots) (λ y. S.target_fault own node_part y.slots) node_part
        (λ y i. ap (λ rs. S.fault_in (S.to_target y.slots node_part) (S.taken_onto rs (S.to_target y.slots node_part))) (reads-same y i)))

    target-reads : (y k : ℕ) (cs : List Contribution) → ((x : Contribution) → IsIn x cs → St.reads between x.slots ≡ St.reads own x.slots) → St.reads between (S.target_of (slots.Node y k) cs) ≡ St.reads own (S.target_of (slots.Node y k) cs)
    target-reads y k [] e = refl
    target-reads y k (x ∷ cs) e = by (has_slot (slots.Node y k) x.slots) (target-reads y k cs (λ z i. e z (inr i))) where
      by : (b : Bool) → St.reads between (S.target_of (slots.Node y k) cs) ≡ St.reads own (S.target_of (slots.Node y k) cs)
          → St.reads between (if b then x.slots else S.target_of (slots.Node y k) cs) ≡ St.reads own (if b then x.slots else S.target_of (slots.Node y k) cs)
      by true rest = e x (inl refl)
      by false rest = rest

    node-same : (y k : ℕ) → S.value_after between node_part (slots.Node y k) ≡ S.value_after own node_part (slots.Node y k)
    node-same y k =
        let tgt = S.target_of (slots.Node y k) node_part in
        ap (λ rs. S.value_among (slots.Node y k) tgt (S.values_or rs (S.taken_onto rs (S.to_target tgt node_part))) (own.node y k)) (target-reads y k node_part reads-same)

    -- parts of what is given
    in-part : (y : Contribution) → IsIn y given_all → (IsIn y scalar_part × (is_to_scalars y ≡ true)) ⊎ (IsIn y node_part × (is_to_nodes y ≡ true))
    in-part y i = by (is_to_scalars y) refl where
      by : (b : Bool) → is_to_scalars y ≡ b → (IsIn y scalar_part × (is_to_scalars y ≡ true)) ⊎ (IsIn y node_part × (is_to_nodes y ≡ true))
      by true e = inl (filter-in is_to_scalars given_all y i e, e)
      by false e = inr (filter-in is_to_nodes given_all y i (ap not e), ap not e)

    scalar-is : (x : ℕ) → S.value_after own scalar_part (slots.Scalar x) ≡ S.value_after own given_all (slots.Scalar x)
    scalar-is x = value-filtered is_to_scalars own (slots.Scalar x) given_all (λ y i has. ⊎_elim (λ (o : IsIn y scalar_part × (is_to_scalars y ≡ true)). o.1)
        (λ (o : IsIn y node_part × (is_to_nodes y ≡ true)). let w = slots-of y o.0 in absurd (both_ways (has_slot (slots.Scalar x) y.slots) (ap (has_slot (slots.Scalar x)) w.2 ∙ no-scalar x w.0 w.1) has)) (in-part y i))

    node-is : (y k : ℕ) → S.value_after own node_part (slots.Node y k) ≡ S.value_after own given_all (slots.Node y k)
    node-is y k = value-filtered is_to_nodes own (slots.Node y k) given_all (λ z i has. ⊎_elim (λ (o : IsIn z scalar_part × (is_to_scalars z ≡ true)). absurd (both_ways (has_slot (slots.Node y k) z.slots) (not-here (here c) (slots.Node y k) z.slots (put-all z o.0).here_all refl) has))
        (λ (o : IsIn z node_part × (is_to_nodes z ≡ true)). o.1) (in-part z i))

    -- the faults
    scalar-target : (y : Contribution) → is_to_scalars y ≡ true → S.target_fault own scalar_part y.slots ≡ S.target_fault own given_all y.slots
    scalar-target y e = fault-filtered is_to_scalars own y.slots given_all (λ z i f. ap are_of_scalars (sym (slots_eq-true y.slots z.slots f)) ∙ e)

    node-target : (y : Contribution) → is_to_nodes y ≡ true → S.target_fault own node_part y.slots ≡ S.target_fault own given_all y.slots
    node-target y e = fault-filtered is_to_nodes own y.slots given_all (λ z i f. ap (λ ss. not (are_of_scalars ss)) (sym (slots_eq-true y.slots z.slots f)) ∙ e)

    abbrev firsts : List Fault
    firsts = own_faults ++ total_faults own scalar_part

    abbrev seconds : List Fault
    seconds = total_faults own node_part

    abbrev meant : List Fault
    meant = own_faults ++ total_faults own given_all

    to-parts : (f : Fault) → IsIn f meant → IsIn f (firsts ++ seconds)
    to-parts f i =
        ⊎_elim
        (λ (w : IsIn f own_faults). in-front f firsts seconds (in-front f own_faults (total_faults own scalar_part) w))
        (λ (w : IsIn f (total_faults own given_all)).
        let y = somes-in (λ (z : Contribution). S.target_fault own given_all z.slots) given_all f w in
        ⊎_elim
        (λ (o : IsIn y.0 scalar_part × (is_to_scalars y.0 ≡ true)). in-front f firsts seconds (in-back f own_faults (total_faults own scalar_part) (in-somes (λ (z : Contribution). S.target_fault own scalar_part z.slots) scalar_part y.0 f o.0 (scalar-target y.0 o.1 ∙ y.2))))
        (λ (o : IsIn y.0 node_part × (is_to_nodes y.0 ≡ true)). in-back f firsts seconds (in-somes (λ (z : Contribution). S.target_fault own node_part z.slots) node_part y.0 f o.0 (node-target y.0 o.1 ∙ y.2)))
        (in-part y.0 y.1))
        (in-parts f own_faults (total_faults own given_all) i)

    from-parts : (f : Fault) → IsIn f (firsts ++ seconds) → IsIn f meant
    from-parts f i =
        ⊎_elim
        (λ (w : IsIn f firsts).
        ⊎_elim
        (λ (u : IsIn f own_faults). in-front f own_faults (total_faults own given_all) u)
        (λ (u : IsIn f (total_faults own scalar_part)).
        let y = somes-in (λ (z : Contribution). S.target_fault own scalar_part z.slots) scalar_part f u in
        let o = IsIn-filter is_to_scalars y.0 given_all y.1 in
        in-back f own_faults (total_faults own given_all) (in-somes (λ (z : Contribution). S.target_fault own given_all z.slots) given_all y.0 f o.0 (sym (scalar-target y.0 o.1) ∙ y.2)))
        (in-parts f own_faults (total_faults own scalar_part) w))
        (λ (w : IsIn f seconds).
        let y = somes-in (λ (z : Contribution). S.target_fault own node_part z.slots) node_part f w in
        let o = IsIn-filter is_to_nodes y.0 given_all y.1 in
        in-back f own_faults (total_faults own given_all) (in-somes (λ (z : Contribution). S.target_fault own given_all z.slots) given_all y.0 f o.0 (sym (node-target y.0 o.1) ∙ y.2)))
        (in-parts f firsts seconds i)

    meant-is : least meant ≡ lesser_of (least firsts) (least seconds)
    meant-is = least-members meant (firsts ++ seconds) to-parts from-parts ∙ least-append firsts seconds

    -- the loop
    deferred-none : (m a : ℕ) → a + m ≤ node_count g → joined (map (λ i. i.deferred) (its_from a m)) ≡ []
    deferred-none zero a le = refl
    deferred-none (suc m) a le =
        ap (λ ds. ds ++ joined (map (λ i. i.deferred) (its_from (suc a) m))) (sends-at a (omega arith)).sent.deferred ∙ deferred-none m (suc a) (omega arith)

    loop-is : parallel loop key test body (nodes g) r ≡ unless_fault (least meant) (Ok (settled_store own given_all))
    loop-is = ap (λ ds. unless_fault (least meant) (Ok (overlaid (settled_store own given_all) ds))) (deferred-none (node_count g) 0 (omega arith))

    abbrev second : Stepped
    second = superstep p g q2 t.globals t.nodes

    -- what the second superstep does
    taken : least firsts ≡ None → StepIs c v all p.registers fields g t.globals (unless_fault (least (total_faults between node_part)) (Ok (settled_store between node_part))) second
    taken fine =
        subst (λ cs. StepIs c v all p.registers fields g t.globals (unless_fault (least (total_faults between cs)) (Ok (settled_store between cs))) second) pairs.1
        (taking-blocks c p fields base q2 kind all v g sends t.globals t.nodes between pairs.0 refl rows fit block2 takes (shown-between fine) (sym pairs.2) pairs.3
        (record {
          one = λ x y slot i j e f. apart.one x y slot (back x i) (back y j) e f;
          one_total = λ x y i j e f. apart.one_total x y (back x i) (back y j) e f;
        })) where
          back : (y : Contribution) → IsIn y (contributions_of pairs.0) → IsIn y given_all
          back y i = (IsIn-filter is_to_nodes y given_all (subst (IsIn y) pairs.1 i)).0

    moved : Leaves c p.registers fields g t.globals (settled_store between node_part) second → Leaves c p.registers fields g globals (settled_store own given_all) second
    moved l = record {
      fine = l.fine;
      shown = record {
        scalars = λ x lt e f. l.shown.scalars x lt e f ∙ at_scalar x;
        locals = λ x lt e. l.shown.locals x lt e ∙ at_scalar x;
        properties = λ k lt y o. l.shown.properties k lt y o ∙ node-same y k ∙ node-is y k;
        widths = l.shown.widths;
        all_nodes = l.shown.all_nodes;
        idle = l.shown.idle;
      };
      others = λ i none. l.others i none ∙ others-kept i none;
      count = l.count ∙ count-kept;
    } where
      at_scalar : (x : ℕ) → S.value_after between node_part (slots.Scalar x) ≡ S.value_after own given_all (slots.Scalar x)
      at_scalar x =
          value-away between (slots.Scalar x) node_part (λ y i. let w = slots-of y i in ap (has_slot (slots.Scalar x)) w.2 ∙ no-scalar x w.0 w.1)
          ∙ scalar-is x

    finish : (o : Option Fault) → least seconds ≡ o → StepIs c v all p.registers fields g t.globals (unless_fault o (Ok (settled_store between node_part))) second → StepIs c v all p.registers fields g globals (unless_fault o (Ok (settled_store own given_all))) second
    finish None e l = moved l
    finish (Some f) e l = l

    pub two-steps : TwoStepsAre c v all p.registers fields g globals (parallel loop key test body (nodes g) r) t second
    two-steps = by (least firsts) (least seconds) refl refl where
      result-by : (o : Option Fault) → least meant ≡ o → parallel loop key test body (nodes g) r ≡ unless_fault o (Ok (settled_store own given_all))
      result-by o e = loop-is ∙ ap (λ z. unless_fault z (Ok (settled_store own given_all))) e

      by : (a b : Option Fault) → least firsts ≡ a → least seconds ≡ b → TwoStepsAre c v all p.registers fields g globals (parallel loop key test body (nodes g) r) t second
      by None b e f = inl (
        fault-is ∙ ap (fault_or_none v) e,
        subst (λ z. StepIs c v all p.registers fields g globals z second) (sym (result-by b (meant-is ∙ ap (λ z. lesser_of z (least seconds)) e ∙ none-first (least seconds) ∙ f)))
            (finish b f (subst (λ z. StepIs c v all p.registers fields g t.globals (unless_fault z (Ok (settled_store between node_part))) second) (ap least totals-same ∙ f) (taken e))),
      ) where
        none-first : (o : Option Fault) → lesser_of None o ≡ o
        none-first None = refl
        none-first (Some z) = refl
      by (Some x) b e f = inr (
        x,
        result-by (Some x) (meant-is ∙ ap (λ z. lesser_of z (least seconds)) e ∙ lead b f),
        fault-is ∙ ap (fault_or_none v) e,
        either-spotted x (least-is firsts x e).is_in,
      ) where
        lead : (o : Option Fault) → least seconds ≡ o → lesser_of (Some x) (least seconds) ≡ Some x
        lead None o = ap (lesser_of (Some x)) o
        lead (Some y) o = ap (lesser_of (Some x)) o ∙ ap Some (last x y (least-is firsts x e).is_in (least-is seconds y o).is_in)
