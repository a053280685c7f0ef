-- A superstep in which nodes take what turns that reach them give.
use Rattle.std.proofs.Common.{◌≡◌, ◌≢◌, ◌<◌, ◌≤◌, inl, inr, ℕ, zero, suc, Bool, true, false, cond, Option, Some, None, List, [], ◌∷◌, ◌++◌, length, map, refl, ap, ◌∙◌, sym, subst, arith, add-one, append_assoc, ⊎_elim}
use Rattle.std.specs.Prelude.{◌+◌, ◌&&◌, ◌||◌, nat_lt, nat_eq, not, filter, slice_index_or, if◌then◌else◌}
use Rattle.std.specs.List.{list_all, flat_map, enumerate_from}
use Rattle.std.proofs.lemmas.List.{append-nil}
use Rattle.std.proofs.lemmas.Bool.{both_ways, ne_eqb, eq-eqb, eqb-true, ltb-true, lt-ltb, cases_lt}
use Rattle.gm_value.specs.declared.values.VType.{VType}
use Rattle.gm_value.specs.declared.values.Value.{Value}
use Rattle.gm_value.specs.Bag.{IsIn}
use Rattle.gm_value.specs.Numbers.{zero_of}
use Rattle.gm_model.specs.Graphs.{NumberedGraph, Step, node_count}
use Rattle.gm_forms.proofs.Named.{both-true}
use Rattle.gm_semantics.specs.declared.faults.Fault.{Fault}
use Rattle.gm_semantics.specs.declared.slots.Slot.{Slot}
use Rattle.gm_semantics.specs.declared.slots.Slot.TheVariants as slots
use Rattle.gm_semantics.specs.Contributions as S
use Rattle.gm_semantics.specs.Contributions.{Contribution, settled_store, total_faults}
use Rattle.gm_semantics.specs.Faults.{least, somes, joined}
use Rattle.gm_semantics.specs.Faults as F
use Rattle.gm_semantics.specs.Levels.{numbers_from}
use Rattle.gm_semantics.specs.Statements.{variable_at}
use Rattle.gm_semantics.specs.Stores.{Store, has_slot, read}
use Rattle.gm_semantics.proofs.ContributionLaws.{IsIn-filter, slots_eq-true}
use Rattle.gm_semantics.proofs.TargetLaws.{value-away}
use Rattle.gm_image.specs.Parts.{is_among}
use Rattle.gm_image.specs.Program as image
use Rattle.gm_machine.specs.declared.faults.Fault as M
use Rattle.gm_machine.specs.Expressions.{value_at}
use Rattle.gm_machine.specs.Faults.{lesser}
use Rattle.gm_machine.specs.Machine.{Nodes, Stepped, context_at, block_at, inbox, all_steps, stepped, superstep}
use Rattle.gm_machine.specs.Taking.{settled}
use Rattle.gm_machine.specs.Vertex.{Message, After, handler_run, begun as begin, vertex_after}
use Rattle.gm_machine.proofs.LeastLaws.{least_right, least_from-right}
use Rattle.gm_lowering.specs.Layouts.{Layout, is_global, is_register, has_value}
use Rattle.gm_lowering.specs.Places.{Spot, segment, place_index}
use Rattle.gm_lowering.specs.Terms.{Env}
use Rattle.gm_lowering.specs.Showing.{fault_of}
use Rattle.gm_lowering.specs.MessageLoops.{is_to_scalars, is_to_nodes}
use Rattle.gm_lowering.specs.Phases.{GlobalsApart, Shown, OthersKept, GivesApart}
use Rattle.gm_lowering.specs.Settles.{HasSpot, fault_or_none, is_some_list, AreHeld, AreGiven, SettlesAlike, spot_of_fault, HaveRoom}
use Rattle.gm_lowering.specs.Sites.{are_of_scalars, slot_at, given, phase_value, IsApart}
use Rattle.gm_lowering.proofs.Own.{global-has_value, global-no_register}
use Rattle.gm_lowering.proofs.FoldFacts.{IsReceived}
use Rattle.gm_lowering.proofs.Givens.{here_at}
use Rattle.gm_lowering.proofs.Handled.{filter-both, Joins, Ran, Takes, received, spots-at, takes}
use Rattle.gm_lowering.proofs.Orders.{lesser-lower}
use Rattle.gm_lowering.proofs.Supersteps.{not-here, least-two}
use Rattle.gm_lowering.proofs.PutFacts.{here}
use Rattle.gm_lowering.proofs.Regions.{value-filtered, fault-filtered, least-members, in-front, in-back, in-parts, part_of, parts_from}
use Rattle.gm_lowering.proofs.Settles.{somes-in, in-somes, filter-in, filter-map, total-spot, reductions-settle}

map-both : {A B : Type 0} (f : A → B) (xs ys : List A) → map f (xs ++ ys) ≡ map f xs ++ map f ys
map-both f [] ys = refl
map-both f (x ∷ xs) ys = ap (λ l. f x ∷ l) (map-both f xs ys)

pub joined-both : {A : Type 0} (xs ys : List (ℕ × Step)) (f : ℕ × Step → List A) → joined (map f (xs ++ ys)) ≡ joined (map f xs) ++ joined (map f ys)
joined-both [] ys f = refl
joined-both (x ∷ xs) ys f = ap (λ l. f x ++ l) (joined-both xs ys f) ∙ sym (append_assoc (f x) (joined (map f xs)) (joined (map f ys)))

-- where a turn arrives
abbrev pub node_of : ℕ × Step → ℕ
node_of x = x.1.node

-- all turns, node by node
abbrev pub by_nodes : NumberedGraph → List (ℕ × Step) → List (ℕ × Step)
by_nodes g turns = parts_from node_of turns 0 (node_count g)

-- what such a superstep leaves: globals and nodes show what is taken, its fault is the least of the turns' and of the totals, all of which have spots, and what nodes send is told
pub record TookAll (c : Layout) (v : Env) (all : List Spot) (registers : List VType) (fields : ℕ) (g : NumberedGraph) (globals : List Value) (r : Store) (contributions : List Contribution) (faults : List Fault) (Sends : List Message → Type 0) (t : Stepped) : Type 0 where
  pub fault : t.fault ≡ fault_or_none v (least (faults ++ total_faults r contributions))
  pub spotted : (f : Fault) → IsIn f (faults ++ total_faults r contributions) → HasSpot (spot_of_fault f) all
  pub shown : Shown c registers fields g t.globals (record (t.nodes) { sent = [] }) (settled_store r contributions)
  pub sent : Sends t.nodes.sent
  pub others : OthersKept c globals t.globals
  pub count : length t.globals ≡ length globals

module _ (c : Layout) (v : Env) (p : image.Program) (fields base q2 : ℕ) (all : List Spot) (g : NumberedGraph) (globals : List Value) (s : Nodes) (r : Store) (hs : List image.Handler)
    (all_turns : List (ℕ × Step)) (msg : ℕ × Step → Message) (given_at : ℕ × Step → List Contribution) (fault_at : ℕ × Step → Option Fault) (Sent : List (ℕ × Step) → List Message → Type 0) (join : Joins Sent)
    (rows : IsApart c (length p.registers) fields)
    (gs : GlobalsApart c (length globals))
    (place : v.place ≡ place_index (segment base all))
    (fit : HaveRoom base all (length p.places))
    (block2 : block_at p q2 ≡ record { handlers = hs; body = [] })
    (shown : Shown c p.registers fields g globals s r)
    (to_node : (x : ℕ × Step) → (msg x).to ≡ x.1.node)
    (inside : (x : ℕ × Step) → IsIn x all_turns → x.1.node < node_count g)
    (ran : (x : ℕ × Step) → IsIn x all_turns
    → Ran c v all x.1.node (given_at x) (fault_at x) (λ ms. Sent (x ∷ []) ms) (handler_run (context_at g globals x.1.node) hs (begin p.registers (slice_index_or s.fields x.1.node [])) (msg x)))
    (first : Stepped)
    (first-globals : first.globals ≡ globals)
    (first-sent : first.nodes.sent ≡ map msg all_turns)
    (first-fields : first.nodes.fields ≡ s.fields)
    (apart : GivesApart (joined (map given_at (by_nodes g all_turns)))) where
  abbrev given_by : List (ℕ × Step) → List Contribution
  given_by xs = joined (map given_at xs)

  abbrev faults_by : List (ℕ × Step) → List Fault
  faults_by xs = somes (map fault_at xs)

  abbrev fields_at : ℕ → List Value
  fields_at k = slice_index_or s.fields k []

  -- turns by the nodes that they reach
  abbrev part : ℕ → List (ℕ × Step)
  part j = part_of node_of all_turns j

  abbrev parts : ℕ → ℕ → List (ℕ × Step)
  parts a m = parts_from node_of all_turns a m

  abbrev given_order : List Contribution
  given_order = given_by (parts 0 (node_count g))

  part-in : (j : ℕ) (x : ℕ × Step) → IsIn x (part j) → IsIn x all_turns × (x.1.node ≡ j)
  part-in j x o = let t = IsIn-filter (λ y. nat_eq (node_of y) j) x all_turns o in (t.0, eqb-true x.1.node j t.1)

  -- what is given by a turn in a part
  in-given : (xs : List (ℕ × Step)) (y : Contribution) → IsIn y (given_by xs) → (x : ℕ × Step) × IsIn x xs × IsIn y (given_at x)
  in-given [] y o = absurd o
  in-given (x ∷ xs) y o =
      ⊎_elim (λ (w : IsIn y (given_at x)). (x, inl refl, w)) (λ (w : IsIn y (given_by xs)). let t = in-given xs y w in (t.0, inr t.1, t.2)) (in-parts y (given_at x) (given_by xs) o)

  in-some-part : (a m : ℕ) (y : Contribution) → a + m ≤ node_count g → IsIn y (given_by (parts a m)) → (j : ℕ) × (j < node_count g) × (a ≤ j) × (j < a + m) × IsIn y (given_by (part j))
  in-some-part a zero y le o = absurd o
  in-some-part a (suc m) y le o =
      ⊎_elim
      (λ (w : IsIn y (given_by (part a))). (a, omega arith, omega arith, omega arith, w))
      (λ (w : IsIn y (given_by (parts (suc a) m))). let t = in-some-part (suc a) m y (omega arith) w in (t.0, t.1, omega arith, omega arith, t.4))
      (in-parts y (given_by (part a)) (given_by (parts (suc a) m)) (subst (IsIn y) (joined-both (part a) (parts (suc a) m) given_at) o))

  part-given : (a m j : ℕ) (y : Contribution) → a ≤ j → j < a + m → IsIn y (given_by (part j)) → IsIn y (given_by (parts a m))
  part-given a zero j y le lt o = absurd (omega arith)
  part-given a (suc m) j y le lt o =
      subst (IsIn y) (sym (joined-both (part a) (parts (suc a) m) given_at))
      (⊎_elim
      (λ (less : a < j). in-back y (given_by (part a)) (given_by (parts (suc a) m)) (part-given (suc a) m j y (omega arith) (omega arith) o))
      (λ (more : j ≤ a). let same : j ≡ a = omega arith in in-front y (given_by (part a)) (given_by (parts (suc a) m)) (subst (λ z. IsIn y (given_by (part z))) same o))
      (cases_lt a j))

  ran-at : (j : ℕ) (x : ℕ × Step) → IsIn x (part j) → Ran c v all j (given_at x) (fault_at x) (λ ms. Sent (x ∷ []) ms) (handler_run (context_at g globals j) hs (begin p.registers (fields_at j)) (msg x))
  ran-at j x o =
      let t = part-in j x o in
      subst (λ k. Ran c v all k (given_at x) (fault_at x) (λ ms. Sent (x ∷ []) ms) (handler_run (context_at g globals k) hs (begin p.registers (fields_at k)) (msg x))) t.1 (ran x t.0)

  received-at : (j : ℕ) → j < node_count g → (y : Contribution) → IsIn y (given_by (part j)) → IsReceived c j all y
  received-at j lt y o =
      received c v p fields base all (context_at g globals j) hs (fields_at j) j r msg given_at fault_at Sent join rows place fit (shown.properties j lt) (shown.widths j lt) (part j) (ran-at j) y o

  abbrev to_nodes : ℕ → List Contribution
  to_nodes j = filter is_to_nodes (given_by (part j))

  to-node : (j : ℕ) → j < node_count g → (y : Contribution) → IsIn y (to_nodes j) → IsIn y given_order
  to-node j lt y o = part-given 0 (node_count g) j y (omega arith) (omega arith) (IsIn-filter is_to_nodes y (given_by (part j)) o).0

  apart-at : (j : ℕ) → j < node_count g → GivesApart (to_nodes j)
  apart-at j lt = record {
    one = λ x y slot o w e f. apart.one x y slot (to-node j lt x o) (to-node j lt y w) e f;
    one_total = λ x y o w e f. apart.one_total x y (to-node j lt x o) (to-node j lt y w) e f;
  }

  -- the step of a vertex
  abbrev two_step : ℕ × List Value → After
  two_step x = vertex_after p (record { handlers = hs; body = [] }) (context_at g globals x.0) (inbox (map msg all_turns) x.0) x.1

  abbrev faults_at : ℕ → List Fault
  faults_at j = faults_by (part j) ++ total_faults r (to_nodes j)

  inbox-is : (j : ℕ) → inbox (map msg all_turns) j ≡ map msg (part j)
  inbox-is j = filter-map msg (λ m. nat_eq m.to j) all_turns ∙ ap (map msg) (same all_turns) where
    same : (xs : List (ℕ × Step)) → filter (λ x. nat_eq (msg x).to j) xs ≡ filter (λ x. nat_eq (node_of x) j) xs
    same [] = refl
    same (x ∷ xs) = ap (λ z. cond (nat_eq z j) (x ∷ filter (λ y. nat_eq (msg y).to j) xs) (filter (λ y. nat_eq (msg y).to j) xs)) (to_node x) ∙ ap (λ l. cond (nat_eq (node_of x) j) (x ∷ l) l) (same xs)

  receives-at : (j : ℕ) → j < node_count g → Takes c v fields j r (given_by (part j)) (faults_by (part j)) (Sent (part j)) (two_step (j, fields_at j))
  receives-at j lt =
      subst (λ ms. Takes c v fields j r (given_by (part j)) (faults_by (part j)) (Sent (part j)) (vertex_after p (record { handlers = hs; body = [] }) (context_at g globals j) ms (fields_at j))) (sym (inbox-is j))
      (takes c v p fields base all (context_at g globals j) hs (fields_at j) j r msg given_at fault_at Sent join rows place fit (shown.properties j lt) (shown.widths j lt) (part j) (ran-at j) (apart-at j lt))

  spots-of : (j : ℕ) → j < node_count g → (f : Fault) → IsIn f (faults_at j) → HasSpot (spot_of_fault f) all
  spots-of j lt f o =
      spots-at c v p fields base all (context_at g globals j) hs (fields_at j) j r msg given_at fault_at Sent join rows place fit (shown.properties j lt) (shown.widths j lt) (part j) (ran-at j) (apart-at j lt) f o

  abbrev AllReceive : ℕ → List (List Value) → Type 0
  AllReceive a [] = Unit {0}
  AllReceive a (fs ∷ fss) = (a < node_count g) × Takes c v fields a r (given_by (part a)) (faults_by (part a)) (Sent (part a)) (two_step (a, fs)) × AllReceive (suc a) fss

  all-receive : (a : ℕ) (fss : List (List Value)) → a + length fss ≤ node_count g → ((j : ℕ) → slice_index_or s.fields (a + j) [] ≡ slice_index_or fss j []) → AllReceive a fss
  all-receive a [] le e = tt
  all-receive a (fs ∷ fss) le e =
      let same : fields_at a ≡ fs = ap fields_at (let z : a ≡ a + 0 = omega arith in z) ∙ e 0 in
      let lt : a < node_count g = omega arith in (
        lt,
        subst (λ x. Takes c v fields a r (given_by (part a)) (faults_by (part a)) (Sent (part a)) (two_step (a, x))) same (receives-at a lt),
        all-receive (suc a) fss (omega arith) (λ j. ap (λ z. slice_index_or s.fields z []) (let z : suc a + j ≡ a + suc j = omega arith in z) ∙ e (suc j)),
      )

  abbrev twos : ℕ → List (List Value) → List After
  twos a fss = map two_step (enumerate_from a fss)

  next-twos : (a : ℕ) (fss : List (List Value)) → twos (a + 1) fss ≡ twos (suc a) fss
  next-twos a fss = ap (λ j. twos j fss) (add-one a)

  abbrev faults_between : ℕ → ℕ → List Fault
  faults_between a m = flat_map faults_at (numbers_from a m)

  spots-between : (a m : ℕ) → a + m ≤ node_count g → (f : Fault) → IsIn f (faults_between a m) → HasSpot (spot_of_fault f) all
  spots-between a zero le f o = absurd o
  spots-between a (suc m) le f o =
      ⊎_elim (λ (w : IsIn f (faults_at a)). spots-of a (omega arith) f w) (λ (w : IsIn f (faults_between (suc a) m)). spots-between (suc a) m (omega arith) f w) (in-parts f (faults_at a) (faults_between (suc a) m) o)

  low : (f k : Fault) → HasSpot (spot_of_fault f) all → HasSpot (spot_of_fault k) all → lesser (Some (fault_of v f)) (Some (fault_of v k)) ≡ Some (fault_of v (F.lower f k))
  low f k a b = lesser-lower v base all place f k a b

  two-faults : (a : ℕ) (fss : List (List Value)) → a + length fss ≤ node_count g → AllReceive a fss → least_right (map (λ x. x.fault) (twos a fss)) ≡ fault_or_none v (least (faults_between a (length fss)))
  two-faults a [] le e = refl
  two-faults a (fs ∷ fss) le e =
      ap (λ l. lesser (two_step (a, fs)).fault (least_right (map (λ x. x.fault) l))) (next-twos a fss)
      ∙ ap (λ o. lesser o (least_right (map (λ x. x.fault) (twos (suc a) fss)))) e.1.fault
      ∙ ap (lesser (fault_or_none v (least (faults_at a)))) (two-faults (suc a) fss (omega arith) e.2)
      ∙ least-two v all low (faults_at a) (faults_between (suc a) (length fss)) (λ f o. spots-of a e.0 f o) (λ f o. spots-between (suc a) (length fss) (omega arith) f o)

  parts-given : (t : Contribution → Bool) (a m : ℕ) → filter t (given_by (parts a (suc m))) ≡ filter t (given_by (part a)) ++ filter t (given_by (parts (suc a) m))
  parts-given t a m =
      ap (filter t) (joined-both (part a) (parts (suc a) m) given_at) ∙ filter-both t (given_by (part a)) (given_by (parts (suc a) m))

  two-puts : (a : ℕ) (fss : List (List Value)) → AllReceive a fss → flat_map (λ x. x.state.puts) (twos a fss) ≡ map (given c v) (filter is_to_scalars (given_by (parts a (length fss))))
  two-puts a [] e = refl
  two-puts a (fs ∷ fss) e =
      ap (λ l. (two_step (a, fs)).state.puts ++ flat_map (λ x. x.state.puts) l) (next-twos a fss)
      ∙ ap (λ l. l ++ flat_map (λ x. x.state.puts) (twos (suc a) fss)) e.1.puts
      ∙ ap (λ l. map (given c v) (filter is_to_scalars (given_by (part a))) ++ l) (two-puts (suc a) fss e.2)
      ∙ sym (map-both (given c v) (filter is_to_scalars (given_by (part a))) (filter is_to_scalars (given_by (parts (suc a) (length fss)))))
      ∙ ap (map (given c v)) (sym (parts-given is_to_scalars a (length fss)))

  two-sent : (a : ℕ) (fss : List (List Value)) → AllReceive a fss → Sent (parts a (length fss)) (flat_map (λ x. x.state.messages) (twos a fss))
  two-sent a [] e = join.nothing
  two-sent a (fs ∷ fss) e =
      subst (λ l. Sent (parts a (suc (length fss))) ((two_step (a, fs)).state.messages ++ flat_map (λ x. x.state.messages) l)) (sym (next-twos a fss))
      (join.both (part a) (parts (suc a) (length fss)) (two_step (a, fs)).state.messages (flat_map (λ x. x.state.messages) (twos (suc a) fss)) e.1.messages (two-sent (suc a) fss e.2))

  two-length : (a : ℕ) (fss : List (List Value)) → length (map (λ x. x.state.fields) (twos a fss)) ≡ length fss
  two-length a [] = refl
  two-length a (fs ∷ fss) = ap suc (two-length (a + 1) fss)

  two-fields : (a : ℕ) (fss : List (List Value)) (j : ℕ) → j < length fss → slice_index_or (map (λ x. x.state.fields) (twos a fss)) j [] ≡ (two_step (a + j, slice_index_or fss j [])).state.fields
  two-fields a [] j lt = absurd (omega arith)
  two-fields a (fs ∷ fss) zero lt = ap (λ z. (two_step (z, fs)).state.fields) (let z : a ≡ a + 0 = omega arith in z)
  two-fields a (fs ∷ fss) (suc j) lt =
      two-fields (a + 1) fss j (omega arith) ∙ ap (λ z. (two_step (z, slice_index_or fss j [])).state.fields) (let z : (a + 1) + j ≡ a + suc j = omega arith in z)

  -- the contributions to one node's properties
  abbrev at_node : ℕ → List Slot → Bool
  at_node j [] = false
  at_node j (slots.Scalar x ∷ xs) = false
  at_node j (slots.Node y k ∷ xs) = nat_eq k j

  abbrev goes_to : ℕ → Contribution → Bool
  goes_to j x = at_node j x.slots

  abbrev goes_to_scalars : Contribution → Bool
  goes_to_scalars x = is_to_scalars x

  -- of what is received at a node, what goes to a node
  goes-here : (j k : ℕ) (xs : List Slot) → are_of_scalars xs ≡ false → list_all (here_at c k) xs ≡ true → is_some_list xs ≡ true → at_node j xs ≡ nat_eq k j
  goes-here j k [] e o w = absurd (both_ways false refl w)
  goes-here j k (slots.Scalar x ∷ xs) e o w = absurd (both_ways false refl (sym e))
  goes-here j k (slots.Node y z ∷ xs) e o w =
      let t = both-true (nat_eq z k && c.is_kept y) (list_all (here_at c k) xs) o in ap (λ u. nat_eq u j) (eqb-true z k (both-true (nat_eq z k) (c.is_kept y) t.0).0)

  goes-not : (j : ℕ) (xs : List Slot) → are_of_scalars xs ≡ true → at_node j xs ≡ false
  goes-not j [] e = refl
  goes-not j (slots.Scalar x ∷ xs) e = refl
  goes-not j (slots.Node y z ∷ xs) e = absurd (both_ways false refl e)

  goes-of : (j k : ℕ) (x : Contribution) → IsReceived c k all x → goes_to j x ≡ (if is_to_scalars x then false else nat_eq k j)
  goes-of j k x o = by (is_to_scalars x) refl where
    by : (b : Bool) → is_to_scalars x ≡ b → goes_to j x ≡ (if b then false else nat_eq k j)
    by true e = goes-not j x.slots e
    by false e = goes-here j k x.slots e (o.nodes e) o.not_empty

  filter-all : (t u : Contribution → Bool) (xs : List Contribution) → ((x : Contribution) → IsIn x xs → t x ≡ u x) → filter t xs ≡ filter u xs
  filter-all t u [] e = refl
  filter-all t u (x ∷ xs) e = ap (λ b. cond b (x ∷ filter t xs) (filter t xs)) (e x (inl refl)) ∙ ap (λ l. cond (u x) (x ∷ l) l) (filter-all t u xs (λ y o. e y (inr o)))

  filter-no : (xs : List Contribution) → filter (λ x. false) xs ≡ []
  filter-no [] = refl
  filter-no (x ∷ xs) = filter-no xs

  part-goes : (j k : ℕ) → k < node_count g → filter (goes_to j) (given_by (part k)) ≡ (if nat_eq k j then to_nodes k else [])
  part-goes j k lt =
      filter-all (goes_to j) (λ x. if is_to_scalars x then false else nat_eq k j) (given_by (part k)) (λ x o. goes-of j k x (received-at k lt x o)) ∙ by (nat_eq k j) where
        by : (b : Bool) → filter (λ x. if is_to_scalars x then false else b) (given_by (part k)) ≡ (if b then to_nodes k else [])
        by true = filter-all (λ x. if is_to_scalars x then false else true) is_to_nodes (given_by (part k)) (λ x o. either (is_to_scalars x)) where
          either : (b : Bool) → (if b then false else true) ≡ not b
          either true = refl
          either false = refl
        by false = filter-all (λ x. if is_to_scalars x then false else false) (λ x. false) (given_by (part k)) (λ x o. none (is_to_scalars x)) ∙ filter-no (given_by (part k)) where
          none : (b : Bool) → (if b then false else false) ≡ false
          none true = refl
          none false = refl

  parts-none : (j a m : ℕ) → a + m ≤ node_count g → j < a → filter (goes_to j) (given_by (parts a m)) ≡ []
  parts-none j a zero le lt = refl
  parts-none j a (suc m) le lt =
      parts-given (goes_to j) a m
      ∙ ap (λ l. l ++ filter (goes_to j) (given_by (parts (suc a) m))) (part-goes j a (omega arith) ∙ ap (λ b. if b then to_nodes a else []) (ne_eqb a j (λ e. omega arith)))
      ∙ parts-none j (suc a) m (omega arith) (omega arith)

  parts-goes : (j a m : ℕ) → a + m ≤ node_count g → a ≤ j → j < a + m → filter (goes_to j) (given_by (parts a m)) ≡ to_nodes j
  parts-goes j a zero le l lt = absurd (omega arith)
  parts-goes j a (suc m) le l lt =
      parts-given (goes_to j) a m
      ∙ ap (λ xs. xs ++ filter (goes_to j) (given_by (parts (suc a) m))) (part-goes j a (omega arith))
      ∙ ⊎_elim
      (λ (less : a < j). ap (λ b. (if b then to_nodes a else []) ++ filter (goes_to j) (given_by (parts (suc a) m))) (ne_eqb a j (λ e. omega arith)) ∙ parts-goes j (suc a) m (omega arith) (omega arith) (omega arith))
      (λ (more : j ≤ a).
      let same : a ≡ j = omega arith in
      ap (λ b. (if b then to_nodes a else []) ++ filter (goes_to j) (given_by (parts (suc a) m))) (eq-eqb a j same)
      ∙ ap (λ xs. to_nodes a ++ xs) (parts-none j (suc a) m (omega arith) (omega arith))
      ∙ append-nil (to_nodes a) ∙ ap to_nodes same)
      (cases_lt a j)

  node-region : (j : ℕ) → j < node_count g → filter (goes_to j) given_order ≡ to_nodes j
  node-region j lt = parts-goes j 0 (node_count g) (omega arith) (omega arith) (omega arith)

  -- where a contribution is received
  where-received : (x : Contribution) → IsIn x given_order → (j : ℕ) × (j < node_count g) × IsReceived c j all x × IsIn x (given_by (part j))
  where-received x o = let t = in-some-part 0 (node_count g) x (omega arith) o in (t.0, t.1, received-at t.0 t.1 x t.4, t.4)

  abbrev scalar_part : List Contribution
  scalar_part = filter is_to_scalars given_order

  -- the values of slots
  value-at-node : (y j : ℕ) → j < node_count g → S.value_after r given_order (slots.Node y j) ≡ S.value_after r (to_nodes j) (slots.Node y j)
  value-at-node y j lt =
      sym (value-filtered (goes_to j) r (slots.Node y j) given_order goes)
      ∙ ap (λ cs. S.value_after r cs (slots.Node y j)) (node-region j lt) where
        goes : (x : Contribution) → IsIn x given_order → has_slot (slots.Node y j) x.slots ≡ true → goes_to j x ≡ true
        goes x o has =
            let t = where-received x o in
            by (is_to_scalars x) refl t.0 t.2 where
              by : (b : Bool) → is_to_scalars x ≡ b → (k : ℕ) → IsReceived c k all x → goes_to j x ≡ true
              by true e k q = absurd (both_ways (has_slot (slots.Node y j) x.slots) (not-here (here c) (slots.Node y j) x.slots (q.scalars e) refl) has)
              by false e k q = other (here_at c k (slots.Node y j)) refl where
                other : (b : Bool) → here_at c k (slots.Node y j) ≡ b → goes_to j x ≡ true
                other true f = goes-of j k x q ∙ ap (λ z. if z then false else nat_eq k j) e ∙ eq-eqb k j (sym (eqb-true j k (both-true (nat_eq j k) (c.is_kept y) f).0))
                other false f = absurd (both_ways (has_slot (slots.Node y j) x.slots) (not-here (here_at c k) (slots.Node y j) x.slots (q.nodes e) f) has)

  value-of-scalar : (x : ℕ) → S.value_after r given_order (slots.Scalar x) ≡ S.value_after r scalar_part (slots.Scalar x)
  value-of-scalar x =
      sym (value-filtered is_to_scalars r (slots.Scalar x) given_order goes) where
        goes : (y : Contribution) → IsIn y given_order → has_slot (slots.Scalar x) y.slots ≡ true → is_to_scalars y ≡ true
        goes y o has = by (is_to_scalars y) refl (where-received y o) where
          by : (b : Bool) → is_to_scalars y ≡ b → (j : ℕ) × (j < node_count g) × IsReceived c j all y × IsIn y (given_by (part j)) → b ≡ true
          by true e t = refl
          by false e t = absurd (both_ways (has_slot (slots.Scalar x) y.slots) (not-here (here_at c t.0) (slots.Scalar x) y.slots (t.2.nodes e) refl) has)

  -- the totals of what is put
  held-globals : AreHeld c r globals (here c)
  held-globals = record { holds = holds; within = low-enough; apart = unlike } where
    holds : (slot : Slot) → here c slot ≡ true → value_at globals (slot_at c slot) ≡ read r slot
    holds (slots.Scalar x) o =
        let t = both-true (nat_lt x (length c.declarations)) (is_global (variable_at c.declarations x)) o in
        sym (ap (λ b. if b then value_at globals (c.global x) else zero_of (variable_at c.declarations x).vtype) t.1)
        ∙ shown.scalars x (ltb-true x (length c.declarations) t.0) (global-no_register (variable_at c.declarations x) t.1) (global-has_value (variable_at c.declarations x) t.1)
    holds (slots.Node y k) o = absurd (both_ways false refl o)

    low-enough : (slot : Slot) → here c slot ≡ true → slot_at c slot < length globals
    low-enough (slots.Scalar x) o =
        let t = both-true (nat_lt x (length c.declarations)) (is_global (variable_at c.declarations x)) o in gs.within x (ltb-true x (length c.declarations) t.0) t.1
    low-enough (slots.Node y k) o = absurd (both_ways false refl o)

    unlike : (a b : Slot) → here c a ≡ true → here c b ≡ true → slot_at c a ≡ slot_at c b → a ≡ b
    unlike (slots.Scalar x) (slots.Scalar y) o o2 e =
        let t = both-true (nat_lt x (length c.declarations)) (is_global (variable_at c.declarations x)) o in
        let u = both-true (nat_lt y (length c.declarations)) (is_global (variable_at c.declarations y)) o2 in
        ap slots.Scalar (gs.apart x y (ltb-true x (length c.declarations) t.0) (ltb-true y (length c.declarations) u.0) t.1 u.1 e)
    unlike (slots.Scalar x) (slots.Node y k) o o2 e = absurd (both_ways false refl o2)
    unlike (slots.Node y k) b o o2 e = absurd (both_ways false refl o)

  scalar-given : (x : Contribution) → IsIn x scalar_part → IsIn x given_order × (is_to_scalars x ≡ true)
  scalar-given x o = IsIn-filter is_to_scalars x given_order o

  good-scalars : AreGiven scalar_part (here c) all
  good-scalars = record {
    one = λ x y slot o w e f. apart.one x y slot (scalar-given x o).0 (scalar-given y w).0 e f;
    here_all = λ x o. let t = scalar-given x o in (where-received x t.0).2.scalars t.1;
    not_empty = λ x o. (where-received x (scalar-given x o).0).2.not_empty;
    one_total = λ x y o w e f. apart.one_total x y (scalar-given x o).0 (scalar-given y w).0 e f;
    spotted = λ x o. (where-received x (scalar-given x o).0).2.spotted;
  }

  settles : SettlesAlike c v (length p.places) r globals (here c) scalar_part
  settles = reductions-settle c v base (length p.places) all r globals (here c) scalar_part place fit held-globals good-scalars

  -- the second superstep
  abbrev second : Stepped
  second = superstep p g q2 first.globals first.nodes

  every-two : AllReceive 0 s.fields
  every-two = all-receive 0 s.fields (subst (λ m. 0 + m ≤ node_count g) (sym shown.all_nodes) (omega arith)) (λ j. ap fields_at (let z : 0 + j ≡ j = omega arith in z))

  two-steps : all_steps p g (block_at p q2) first.globals first.nodes.sent first.nodes.fields ≡ twos 0 s.fields
  two-steps =
      ap (λ b. all_steps p g b first.globals first.nodes.sent first.nodes.fields) block2
      ∙ ap (λ vs. all_steps p g (record { handlers = hs; body = [] }) vs first.nodes.sent first.nodes.fields) first-globals
      ∙ ap (λ ms. all_steps p g (record { handlers = hs; body = [] }) globals ms first.nodes.fields) first-sent
      ∙ ap (λ fss. all_steps p g (record { handlers = hs; body = [] }) globals (map msg all_turns) fss) first-fields

  second-is : second ≡ stepped (length p.places) globals first.nodes (twos 0 s.fields)
  second-is = ap (stepped (length p.places) first.globals first.nodes) two-steps ∙ ap (λ vs. stepped (length p.places) vs first.nodes (twos 0 s.fields)) first-globals

  puts-are : flat_map (λ x. x.state.puts) (twos 0 s.fields) ≡ map (given c v) scalar_part
  puts-are = two-puts 0 s.fields every-two ∙ ap (λ m. map (given c v) (filter is_to_scalars (given_by (parts 0 m)))) shown.all_nodes

  globals-are : second.globals ≡ (settled (length p.places) (map (given c v) scalar_part) globals).values
  globals-are = ap (λ t. t.globals) second-is ∙ ap (λ ps. (settled (length p.places) ps globals).values) puts-are

  abbrev machine_faults : List Fault
  machine_faults = faults_between 0 (node_count g) ++ total_faults r scalar_part

  -- they are among the spots
  scalars-spotted : (f : Fault) → IsIn f (total_faults r scalar_part) → HasSpot (spot_of_fault f) all
  scalars-spotted f o = total-spot c v base (length p.places) all r globals (here c) scalar_part place fit held-globals good-scalars f o

  machine-spotted : (f : Fault) → IsIn f machine_faults → HasSpot (spot_of_fault f) all
  machine-spotted f o =
      ⊎_elim
      (λ (w : IsIn f (faults_between 0 (node_count g))). spots-between 0 (node_count g) (omega arith) f w)
      (λ (w : IsIn f (total_faults r scalar_part)). scalars-spotted f w)
      (in-parts f (faults_between 0 (node_count g)) (total_faults r scalar_part) o)

  second-fault : second.fault ≡ fault_or_none v (least machine_faults)
  second-fault =
      ap (λ t. t.fault) second-is
      ∙ ap (λ o. lesser o (settled (length p.places) (flat_map (λ x. x.state.puts) (twos 0 s.fields)) globals).fault)
      (least_from-right None (map (λ x. x.fault) (twos 0 s.fields)) ∙ none-first (least_right (map (λ x. x.fault) (twos 0 s.fields)))
      ∙ two-faults 0 s.fields (subst (λ m. 0 + m ≤ node_count g) (sym shown.all_nodes) (omega arith)) every-two ∙ ap (λ m. fault_or_none v (least (faults_between 0 m))) shown.all_nodes)
      ∙ ap (λ ps. lesser (fault_or_none v (least (faults_between 0 (node_count g)))) (settled (length p.places) ps globals).fault) puts-are
      ∙ ap (lesser (fault_or_none v (least (faults_between 0 (node_count g))))) settles.fault
      ∙ least-two v all low (faults_between 0 (node_count g)) (total_faults r scalar_part) (λ f o. spots-between 0 (node_count g) (omega arith) f o)
      scalars-spotted where
        none-first : (o : Option M.Fault) → lesser None o ≡ o
        none-first o = refl

  -- the faults of the loop
  abbrev loop_faults : List Fault
  loop_faults = faults_by all_turns ++ total_faults r given_order

  target-of : (j : ℕ) → j < node_count g → (x : Contribution) → IsIn x (to_nodes j) → S.target_fault r given_order x.slots ≡ S.target_fault r (to_nodes j) x.slots
  target-of j lt x o =
      sym (fault-filtered (goes_to j) r x.slots given_order (λ y w e. ap (at_node j) (sym (slots_eq-true x.slots y.slots e)) ∙ goes)) ∙ ap (λ cs. S.target_fault r cs x.slots) (node-region j lt) where
        goes : goes_to j x ≡ true
        goes = (IsIn-filter (goes_to j) x given_order (subst (IsIn x) (sym (node-region j lt)) o)).1

  target-of-scalars : (x : Contribution) → is_to_scalars x ≡ true → S.target_fault r given_order x.slots ≡ S.target_fault r scalar_part x.slots
  target-of-scalars x e = sym (fault-filtered is_to_scalars r x.slots given_order (λ y w f. ap are_of_scalars (sym (slots_eq-true x.slots y.slots f)) ∙ e))

  in-given-order : (j : ℕ) → j < node_count g → (x : Contribution) → IsIn x (to_nodes j) → IsIn x given_order
  in-given-order j lt x o = (IsIn-filter (goes_to j) x given_order (subst (IsIn x) (sym (node-region j lt)) o)).0

  in-between : (a m j : ℕ) (f : Fault) → a ≤ j → j < a + m → IsIn f (faults_at j) → IsIn f (faults_between a m)
  in-between a zero j f le lt o = absurd (omega arith)
  in-between a (suc m) j f le lt o =
      ⊎_elim
      (λ (less : a < j). in-back f (faults_at a) (faults_between (suc a) m) (in-between (suc a) m j f (omega arith) (omega arith) o))
      (λ (more : j ≤ a). let same : j ≡ a = omega arith in in-front f (faults_at a) (faults_between (suc a) m) (subst (λ z. IsIn f (faults_at z)) same o))
      (cases_lt a j)

  some-between : (a m : ℕ) (f : Fault) → a + m ≤ node_count g → IsIn f (faults_between a m) → (j : ℕ) × (j < node_count g) × IsIn f (faults_at j)
  some-between a zero f le o = absurd o
  some-between a (suc m) f le o =
      ⊎_elim (λ (w : IsIn f (faults_at a)). (a, omega arith, w)) (λ (w : IsIn f (faults_between (suc a) m)). some-between (suc a) m f (omega arith) w) (in-parts f (faults_at a) (faults_between (suc a) m) o)

  to-loop : (f : Fault) → IsIn f machine_faults → IsIn f loop_faults
  to-loop f o = ⊎_elim at_nodes at_globals (in-parts f (faults_between 0 (node_count g)) (total_faults r scalar_part) o) where
    at_globals : IsIn f (total_faults r scalar_part) → IsIn f loop_faults
    at_globals w =
        let t = somes-in (λ (x : Contribution). S.target_fault r scalar_part x.slots) scalar_part f w in
        let u = scalar-given t.0 t.1 in
        in-back f (faults_by all_turns) (total_faults r given_order) (in-somes (λ (x : Contribution). S.target_fault r given_order x.slots) given_order t.0 f u.0 (target-of-scalars t.0 u.1 ∙ t.2))

    at_nodes : IsIn f (faults_between 0 (node_count g)) → IsIn f loop_faults
    at_nodes w =
        let t = some-between 0 (node_count g) f (omega arith) w in
        ⊎_elim
        (λ (u : IsIn f (faults_by (part t.0))).
        let x = somes-in fault_at (part t.0) f u in
        in-front f (faults_by all_turns) (total_faults r given_order) (in-somes fault_at all_turns x.0 f (part-in t.0 x.0 x.1).0 x.2))
        (λ (u : IsIn f (total_faults r (to_nodes t.0))).
        let x = somes-in (λ (y : Contribution). S.target_fault r (to_nodes t.0) y.slots) (to_nodes t.0) f u in
        in-back f (faults_by all_turns) (total_faults r given_order)
        (in-somes (λ (y : Contribution). S.target_fault r given_order y.slots) given_order x.0 f (in-given-order t.0 t.1 x.0 x.1) (target-of t.0 t.1 x.0 x.1 ∙ x.2)))
        (in-parts f (faults_by (part t.0)) (total_faults r (to_nodes t.0)) t.2)

  to-machine : (f : Fault) → IsIn f loop_faults → IsIn f machine_faults
  to-machine f o = ⊎_elim of_turn of_total (in-parts f (faults_by all_turns) (total_faults r given_order) o) where
    of_turn : IsIn f (faults_by all_turns) → IsIn f machine_faults
    of_turn w =
        let x = somes-in fault_at all_turns f w in
        let j = x.0.1.node in
        let lt = inside x.0 x.1 in
        in-front f (faults_between 0 (node_count g)) (total_faults r scalar_part) (in-between 0 (node_count g) j f (omega arith) (omega arith)
        (in-front f (faults_by (part j)) (total_faults r (to_nodes j)) (in-somes fault_at (part j) x.0 f (filter-in (λ y. nat_eq (node_of y) j) all_turns x.0 x.1 (eq-eqb j j refl)) x.2)))

    of_total : IsIn f (total_faults r given_order) → IsIn f machine_faults
    of_total w =
        let x = somes-in (λ (y : Contribution). S.target_fault r given_order y.slots) given_order f w in
        by (is_to_scalars x.0) x.0 x.1 x.2 (where-received x.0 x.1) refl where
          by : (b : Bool) (x : Contribution) → IsIn x given_order → S.target_fault r given_order x.slots ≡ Some f
              → (j : ℕ) × (j < node_count g) × IsReceived c j all x × IsIn x (given_by (part j)) → is_to_scalars x ≡ b → IsIn f machine_faults
          by true x u e t k =
              in-back f (faults_between 0 (node_count g)) (total_faults r scalar_part)
              (in-somes (λ (y : Contribution). S.target_fault r scalar_part y.slots) scalar_part x f (filter-in is_to_scalars given_order x u k) (sym (target-of-scalars x k) ∙ e))
          by false x u e t k =
              let at_j : IsIn x (to_nodes t.0) = filter-in is_to_nodes (given_by (part t.0)) x t.3 (ap not k) in
              in-front f (faults_between 0 (node_count g)) (total_faults r scalar_part) (in-between 0 (node_count g) t.0 f (omega arith) (omega arith)
              (in-back f (faults_by (part t.0)) (total_faults r (to_nodes t.0))
              (in-somes (λ (y : Contribution). S.target_fault r (to_nodes t.0) y.slots) (to_nodes t.0) x f at_j (sym (target-of t.0 t.1 x at_j) ∙ e))))

  faults-same : least loop_faults ≡ least machine_faults
  faults-same = least-members loop_faults machine_faults to-machine to-loop

  second-fields : second.nodes.fields ≡ map (λ x. x.state.fields) (twos 0 s.fields)
  second-fields = ap (λ t. t.nodes.fields) second-is

  node-after : (j : ℕ) → j < node_count g → slice_index_or second.nodes.fields j [] ≡ (two_step (j, fields_at j)).state.fields
  node-after j lt =
      ap (λ fss. slice_index_or fss j []) second-fields
      ∙ two-fields 0 s.fields j (subst (λ m. j < m) (sym shown.all_nodes) lt)
      ∙ ap (λ z. (two_step (z, fields_at j)).state.fields) (let z : 0 + j ≡ j = omega arith in z)

  -- the store that the loop leaves
  abbrev left : Store
  left = settled_store r given_order

  away : (x : ℕ) → here c (slots.Scalar x) ≡ false → left.scalar x ≡ r.scalar x
  away x e = value-of-scalar x ∙ value-away r (slots.Scalar x) scalar_part (λ y o. let t = scalar-given y o in not-here (here c) (slots.Scalar x) y.slots ((where-received y t.0).2.scalars t.1) e)

  and-false : (a b : Bool) → b ≡ false → a && b ≡ false
  and-false true b e = e
  and-false false b e = refl

  register-no_global : (x : ℕ) → is_register (variable_at c.declarations x) ≡ true → is_global (variable_at c.declarations x) ≡ false
  register-no_global x e = by (is_global (variable_at c.declarations x)) refl where
    by : (b : Bool) → is_global (variable_at c.declarations x) ≡ b → b ≡ false
    by true f = absurd (both_ways (is_register (variable_at c.declarations x)) (global-no_register (variable_at c.declarations x) f) e)
    by false f = refl

  pub took-all : TookAll c v all p.registers fields g globals r given_order (faults_by all_turns) (Sent (by_nodes g all_turns)) second
  took-all = record {
    fault = second-fault ∙ ap (fault_or_none v) (sym faults-same);
    spotted = λ f o. machine-spotted f (to-machine f o);
    shown = record {
      scalars = scalars;
      locals = λ x lt e. shown.locals x lt e ∙ sym (away x (and-false (nat_lt x (length c.declarations)) (is_global (variable_at c.declarations x)) (register-no_global x e)));
      properties = λ j lt y o. ap (λ fs. value_at fs (c.field y)) (node-after j lt) ∙ (receives-at j lt).properties y o ∙ sym (value-at-node y j lt);
      widths = λ j lt. ap length (node-after j lt) ∙ (receives-at j lt).field_count;
      all_nodes = ap length second-fields ∙ two-length 0 s.fields ∙ shown.all_nodes;
      idle = refl;
    };
    sent = subst (λ t. Sent (by_nodes g all_turns) t.nodes.sent) (sym second-is) (subst (λ m. Sent (parts 0 m) (flat_map (λ x. x.state.messages) (twos 0 s.fields))) shown.all_nodes (two-sent 0 s.fields every-two));
    others = λ z none. ap (λ vs. value_at vs z) globals-are ∙ settles.others z (λ x o. none-has z none x.slots (let t = scalar-given x o in (where-received x t.0).2.scalars t.1));
    count = ap length globals-are ∙ settles.count;
  } where
    scalars : (x : ℕ) → x < length c.declarations → is_register (variable_at c.declarations x) ≡ false → has_value (variable_at c.declarations x) ≡ true → phase_value c second.globals x ≡ left.scalar x
    scalars x lt e f = by (is_global (variable_at c.declarations x)) refl where
      by : (b : Bool) → is_global (variable_at c.declarations x) ≡ b → (if b then value_at second.globals (c.global x) else zero_of (variable_at c.declarations x).vtype) ≡ left.scalar x
      by true o =
          ap (λ vs. value_at vs (c.global x)) globals-are
          ∙ settles.values (slots.Scalar x) (ap (λ b. b && is_global (variable_at c.declarations x)) (lt-ltb x (length c.declarations) lt) ∙ o)
          ∙ sym (value-of-scalar x)
      by false o =
          sym (ap (λ b. if b then value_at globals (c.global x) else zero_of (variable_at c.declarations x).vtype) o)
          ∙ shown.scalars x lt e f ∙ sym (away x (and-false (nat_lt x (length c.declarations)) (is_global (variable_at c.declarations x)) o))

    none-has : (z : ℕ) → ((x : ℕ) → x < length c.declarations → is_global (variable_at c.declarations x) ≡ true → c.global x ≢ z) → (xs : List Slot) → list_all (here c) xs ≡ true → is_among z (map (slot_at c) xs) ≡ false
    none-has z none [] o = refl
    none-has z none (slots.Scalar x ∷ xs) o =
        let t = both-true (here c (slots.Scalar x)) (list_all (here c) xs) o in
        let u = both-true (nat_lt x (length c.declarations)) (is_global (variable_at c.declarations x)) t.0 in
        ap (λ b. b || is_among z (map (slot_at c) xs)) (ne_eqb (c.global x) z (none x (ltb-true x (length c.declarations) u.0) u.1)) ∙ none-has z none xs t.1
    none-has z none (slots.Node x k ∷ xs) o = absurd (both_ways false refl o)
