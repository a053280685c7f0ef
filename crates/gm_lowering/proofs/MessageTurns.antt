-- The turns of a message loop: what its first superstep sends, and what its iterations are by them.
use Rattle.std.proofs.Common.{◌≡◌, ◌<◌, ◌≤◌, inl, inr, ℕ, zero, suc, Bool, true, false, Option, Some, None, Result, Ok, Err, List, [], ◌∷◌, ◌++◌, length, map, refl, ap, ◌∙◌, sym, subst, arith, add-one, append_assoc, ⊎_elim}
use Rattle.std.specs.Prelude.{◌+◌, ◌||◌, nat_lt, nat_eq, slice_index_or, if◌then◌else◌}
use Rattle.std.specs.List.{list_all, flat_map, enumerate_from}
use Rattle.std.proofs.Math.Path.{fun_ext}
use Rattle.std.proofs.lemmas.List.{append-nil}
use Rattle.std.proofs.lemmas.Bool.{both_ways, eq-eqb, eqb-true, ltb-true, cases_lt}
use Rattle.gm_base.specs.declared.places.Place.{Place}
use Rattle.gm_value.specs.declared.values.Value.{Value}
use Rattle.gm_value.specs.declared.values.Value.TheVariants.{At}
use Rattle.gm_value.specs.Bag.{IsIn}
use Rattle.gm_value.specs.Operations.{is_true}
use Rattle.gm_model.specs.Graphs.{NumberedGraph, Step, node_count, edge_count}
use Rattle.gm_ast.specs.declared.tree.Direction.TheVariants.{Out, In}
use Rattle.gm_ast.specs.declared.tree.Domain.TheVariants.{OutNbrs, InNbrs}
use Rattle.gm_ast.specs.declared.tree.Head.{Head}
use Rattle.gm_ast.specs.declared.tree.Key.{Key}
use Rattle.gm_ast.specs.declared.tree.Sort.TheVariants as Sorts
use Rattle.gm_ast.specs.Names.{is}
use Rattle.gm_ast.specs.Program as P
use Rattle.gm_ast.specs.Program.{Expr, Stmt}
use Rattle.gm_ast.specs.Ways.{is_in}
use Rattle.gm_forms.proofs.Named.{both-true}
use Rattle.gm_semantics.specs.declared.faults.Fault.{Fault}
use Rattle.gm_semantics.specs.declared.slots.Slot.TheVariants as slots
use Rattle.gm_semantics.specs.Contributions as S
use Rattle.gm_semantics.specs.Contributions.{Contribution, total_faults, settled_store}
use Rattle.gm_semantics.specs.Faults.{least, somes, joined, unless_fault}
use Rattle.gm_semantics.specs.Loops.{iteration, left_at, own_left, parallel}
use Rattle.gm_semantics.proofs.Leasts.{lesser_of, least-append}
use Rattle.gm_semantics.proofs.TargetLaws.{value-away}
use Rattle.gm_semantics.specs.Expressions.{value, steps_in, steps_of}
use Rattle.gm_semantics.specs.Iterations.{Loop, Outermost, AtEdge, Iteration, begun, view_in, with_ok, one_way, as_it_is, inner_done, does}
use Rattle.gm_semantics.specs.Levels.{node_in, numbers_from, nodes}
use Rattle.gm_semantics.specs.Statements.{variable_at}
use Rattle.gm_semantics.specs.Stores.{Store, write, overlaid}
use Rattle.gm_image.specs.Program as image
use Rattle.gm_machine.specs.Expressions.{value as term_value, value_at}
use Rattle.gm_machine.specs.Faults.{lesser, least_fault}
use Rattle.gm_machine.specs.Machine.{Nodes, Stepped, context_at, block_at, all_steps, stepped, superstep}
use Rattle.gm_machine.specs.Taking.{settled}
use Rattle.gm_machine.specs.Vertex.{Message, After, view, steps, leaves, begun as begin, vertex_after}
use Rattle.gm_machine.proofs.LeastLaws.{least_right, least_from-right}
use Rattle.gm_machine.proofs.SlotSteps.{settled-nothing}
use Rattle.gm_lowering.specs.Layouts.{Layout, is_register}
use Rattle.gm_lowering.specs.Places.{Spot, Segment, segment, spots_in}
use Rattle.gm_lowering.specs.Terms.{Env, own_env, term}
use Rattle.gm_lowering.specs.Plans.{Load, SenderItself, SenderProperty, SenderDegree, EdgeValue, same_load}
use Rattle.gm_lowering.specs.Blocks.{load_index, direction_of, receiver_env, own_site}
use Rattle.gm_lowering.specs.Showing.{answer_of}
use Rattle.gm_lowering.specs.OwnLoops.{own_finds, own_sets, own_gives, IsOwnLoop, NodeShows}
use Rattle.gm_lowering.specs.MessageLoops.{has_load, load_value}
use Rattle.gm_lowering.specs.Sends.{send_block, load_at, message_along}
use Rattle.gm_lowering.specs.Receiving.{turn_of, given_by, faults_by, IsMessageOf, inner_spots}
use Rattle.gm_lowering.specs.Phases.{NodesInGraph, EdgesShown, Shown, given_in}
use Rattle.gm_lowering.specs.Settles.{HasSpot}
use Rattle.gm_lowering.specs.Sites.{OwnGave, IsApart}
use Rattle.gm_lowering.specs.TwoSupersteps.{is_readable, StepsWithin, HasSender}
use Rattle.gm_lowering.proofs.Bodies.{value-of}
use Rattle.gm_lowering.proofs.Own.{Shows, own-giving}
use Rattle.gm_lowering.proofs.OwnGives.{own-holds}
use Rattle.gm_lowering.proofs.Givens.{node-in}
use Rattle.gm_lowering.proofs.OwnSteps.{begins}
use Rattle.gm_lowering.proofs.Regions.{in-front, in-back, in-parts}
use Rattle.gm_lowering.proofs.Sends.{send-blocks-send}
use Rattle.gm_lowering.proofs.Spots.{HoldNodes, Within, spot-right, reads, value-within}
use Rattle.gm_lowering.proofs.TupleFacts.{no-spares}

same-load : (x y : Load) → same_load x y ≡ true → x ≡ y
same-load SenderItself SenderItself h = refl
same-load SenderItself (SenderProperty q) h = absurd (both_ways false refl h)
same-load SenderItself (SenderDegree d) h = absurd (both_ways false refl h)
same-load SenderItself (EdgeValue q) h = absurd (both_ways false refl h)
same-load (SenderProperty p) SenderItself h = absurd (both_ways false refl h)
same-load (SenderProperty p) (SenderProperty q) h = ap SenderProperty (eqb-true p q h)
same-load (SenderProperty p) (SenderDegree d) h = absurd (both_ways false refl h)
same-load (SenderProperty p) (EdgeValue q) h = absurd (both_ways false refl h)
same-load (SenderDegree d) SenderItself h = absurd (both_ways false refl h)
same-load (SenderDegree d) (SenderProperty q) h = absurd (both_ways false refl h)
same-load (SenderDegree Out) (SenderDegree Out) h = refl
same-load (SenderDegree Out) (SenderDegree In) h = absurd (both_ways false refl h)
same-load (SenderDegree In) (SenderDegree Out) h = absurd (both_ways false refl h)
same-load (SenderDegree In) (SenderDegree In) h = refl
same-load (SenderDegree d) (EdgeValue q) h = absurd (both_ways false refl h)
same-load (EdgeValue p) SenderItself h = absurd (both_ways false refl h)
same-load (EdgeValue p) (SenderProperty q) h = absurd (both_ways false refl h)
same-load (EdgeValue p) (SenderDegree d) h = absurd (both_ways false refl h)
same-load (EdgeValue p) (EdgeValue q) h = ap EdgeValue (eqb-true p q h)

-- a value of a message is found at its load's index
found-load : (f : Load → Value) (loads : List Load) (x : Load) → has_load loads x ≡ true → value_at (map f loads) (load_index x loads) ≡ f x
found-load f [] x h = absurd (both_ways false refl h)
found-load f (y ∷ ys) x h = by (same_load x y) refl h (λ k. found-load f ys x k) where
  by : (b : Bool) → same_load x y ≡ b → b || has_load ys x ≡ true → (has_load ys x ≡ true → value_at (map f ys) (load_index x ys) ≡ f x) → value_at (map f (y ∷ ys)) (if b then 0 else suc (load_index x ys)) ≡ f x
  by true e k go = ap f (sym (same-load x y e))
  by false e k go = go k

readable-one : (c : Layout) (loads : List Load) (x : Load) → list_all (is_readable c) loads ≡ true → has_load loads x ≡ true → is_readable c x ≡ true
readable-one c [] x o h = absurd (both_ways false refl h)
readable-one c (y ∷ ys) x o h =
    let q = both-true (is_readable c y) (list_all (is_readable c) ys) o in
    by (same_load x y) refl h q.0 (λ k. readable-one c ys x q.1 k) where
      by : (b : Bool) → same_load x y ≡ b → b || has_load ys x ≡ true → is_readable c y ≡ true → (has_load ys x ≡ true → is_readable c x ≡ true) → is_readable c x ≡ true
      by true e k o go = ap (is_readable c) (same-load x y e) ∙ o
      by false e k o go = go k

joined-both : {A : Type 0} (xs ys : List (ℕ × Step)) (f : ℕ × Step → List A) → joined (map f (xs ++ ys)) ≡ joined (map f xs) ++ joined (map f ys)
joined-both [] ys f = refl
joined-both (x ∷ xs) ys f = ap (λ l. f x ++ l) (joined-both xs ys f) ∙ sym (append_assoc (f x) (joined (map f xs)) (joined (map f ys)))

map-map : {A B C : Type 0} (h : A → B) (f : B → C) (xs : List A) → map f (map h xs) ≡ map (λ x. f (h x)) xs
map-map h f [] = refl
map-map h f (x ∷ xs) = ap (λ l. f (h x) ∷ l) (map-map h f xs)

pub map-both : {A B : Type 0} (f : A → B) (xs ys : List A) → map f (xs ++ ys) ≡ map f xs ++ map f ys
map-both f [] ys = refl
map-both f (x ∷ xs) ys = ap (λ l. f x ∷ l) (map-both f xs ys)

-- whether an answer is True
abbrev truth : Result Value Fault → Bool
truth (Ok z) = is_true z
truth (Err f) = false

-- a message loop, and what is given where its first superstep begins
pub record MessageLoop : Type 0 where
  pub c : Layout
  pub p : image.Program
  pub fields : ℕ
  pub base : ℕ
  pub q : ℕ
  pub kind : ℕ
  pub all : List Spot
  pub loop : Loop
  pub mask_key : Key
  pub mask : Expr
  pub key : Key
  pub place : Place
  pub h : Head
  pub test : Expr
  pub body : Stmt
  pub loads : List Load
  pub globals : List Value
  pub s : Nodes
  pub r : Store
  pub sender : HasSender c loop mask_key mask h loads
  pub rows : IsApart c (length p.registers) fields
  pub outer : is_register (variable_at c.declarations loop.outer) ≡ false
  pub types : (x : ℕ) → loop.vtype x ≡ (variable_at c.declarations x).vtype
  pub depths : (x : ℕ) → loop.depth x ≡ (variable_at c.declarations x).depth
  pub all_is : all ≡ spots_in mask mask_key ++ inner_spots c loop.outer h.iterator key test body
  pub block : block_at p q ≡ send_block c (segment base all) loop.outer mask_key mask h.domain kind loads
  pub shown : Shown c p.registers fields loop.graph globals s r
  pub edges : EdgesShown c loop.graph r
  pub in_graph : NodesInGraph c loop.graph r
  pub within : StepsWithin loop.graph h.domain

module _ (start_of : MessageLoop) where
  abbrev c : Layout
  c = start_of.c

  abbrev p : image.Program
  p = start_of.p

  abbrev fields : ℕ
  fields = start_of.fields

  abbrev base : ℕ
  base = start_of.base

  abbrev q : ℕ
  q = start_of.q

  abbrev kind : ℕ
  kind = start_of.kind

  abbrev all : List Spot
  all = start_of.all

  abbrev loop : Loop
  loop = start_of.loop

  abbrev mask_key : Key
  mask_key = start_of.mask_key

  abbrev mask : Expr
  mask = start_of.mask

  abbrev key : Key
  key = start_of.key

  abbrev place : Place
  place = start_of.place

  abbrev h : Head
  h = start_of.h

  abbrev test : Expr
  test = start_of.test

  abbrev body : Stmt
  body = start_of.body

  abbrev loads : List Load
  loads = start_of.loads

  abbrev globals : List Value
  globals = start_of.globals

  abbrev s : Nodes
  s = start_of.s

  abbrev r : Store
  r = start_of.r

  abbrev sender : HasSender c loop mask_key mask h loads
  sender = start_of.sender

  abbrev all_is : all ≡ spots_in mask mask_key ++ inner_spots c loop.outer h.iterator key test body
  all_is = start_of.all_is

  abbrev block : block_at p q ≡ send_block c (segment base all) loop.outer mask_key mask h.domain kind loads
  block = start_of.block

  abbrev shown : Shown c p.registers fields loop.graph globals s r
  shown = start_of.shown

  abbrev edges : EdgesShown c loop.graph r
  edges = start_of.edges

  abbrev in_graph : NodesInGraph c loop.graph r
  in_graph = start_of.in_graph

  abbrev within : StepsWithin loop.graph h.domain
  within = start_of.within

  abbrev pub n : ℕ
  n = loop.outer

  abbrev pub i : ℕ
  i = h.iterator

  abbrev pub g : NumberedGraph
  g = loop.graph

  abbrev pub seg : Segment
  seg = segment base all

  abbrev pub v : Env
  v = receiver_env c seg n i loads

  abbrev pub fields_at : ℕ → List Value
  fields_at k = slice_index_or s.fields k []

  abbrev from : ℕ → Store
  from k = write r (slots.Scalar n) (At (Some k))

  abbrev start : ℕ → Iteration
  start k = begun (from k)

  abbrev mask_value : ℕ → Result Value Fault
  mask_value k = value mask (view_in loop Outermost (start k) mask_key)

  abbrev masked : ℕ → Bool
  masked k = truth (mask_value k)

  abbrev along : ℕ → List Step
  along k = steps (direction_of h.domain) g k

  -- the turns of a node, and of all nodes from one on
  abbrev pub turns_of : ℕ → List (ℕ × Step)
  turns_of k = if masked k then map (λ e. (k, e)) (along k) else []

  abbrev pub turns_from : ℕ → ℕ → List (ℕ × Step)
  turns_from a m = flat_map turns_of (numbers_from a m)

  abbrev pub all_turns : List (ℕ × Step)
  all_turns = turns_from 0 (node_count g)

  abbrev pub msg : ℕ × Step → Message
  msg x = message_along c g kind loads x.0 (fields_at x.0) x.1

  pub node-shows : (k : ℕ) → k < node_count g → NodeShows c g p.registers fields globals (fields_at k) k r
  node-shows k lt = record {
    phase = record { scalar = shown.scalars; in_graph = in_graph };
    locals = shown.locals;
    properties = shown.properties k lt;
    field_count = shown.widths k lt;
    inside = lt;
  }

  one-in : (x : ℕ) → is_in (n ∷ []) x ≡ true → x ≡ n
  one-in x o = eqb-true x n (or-none (nat_eq x n) o) where
    or-none : (b : Bool) → b || false ≡ true → b ≡ true
    or-none true e = refl
    or-none false e = e

  starts : (k : ℕ) → k < node_count g → HoldNodes g (n ∷ []) (λ x. k) (start k)
  starts k lt x o = (ap (λ b. if b then At (Some k) else r.scalar x) (eq-eqb n x (sym (one-in x o))), lt)

  -- a mask has a value
  mask-is : (k : ℕ) → k < node_count g → (z : Value) × (mask_value k ≡ Ok z)
  mask-is k lt = by (mask_value k) refl (subst (Within (mask_value k)) sender.quiet (value-within (view_in loop Outermost (start k) mask_key) mask refl (reads c (n ∷ []) false loop Outermost (λ x. k) (start k) mask_key mask sender.found (starts k lt)))) where
    by : (a : Result Value Fault) → mask_value k ≡ a → Within a [] → (z : Value) × (mask_value k ≡ Ok z)
    by (Ok z) e w = (z, e)
    by (Err f) e w = absurd w

  -- the outer loop as one of its mask alone
  only-mask : IsOwnLoop c p.registers fields loop mask P.Skip
  only-mask = record { apart = start_of.rows; iterator = start_of.outer; types = start_of.types; depths = start_of.depths; found = sender.found; fits = refl; spares = no-spares c (length p.registers) }

  mask-term : (k : ℕ) → k < node_count g → (z : Value) → mask_value k ≡ Ok z → term_value (view (context_at g globals k) (begin p.registers (fields_at k))) (term (own_env c seg n) mask_key mask) ≡ Ok z
  mask-term k lt z e =
      value-of (own_site c seg n) loop Outermost (context_at g globals k) _ (Shows c seg loop k (length p.registers) fields (length p.places) (context_at g globals k) start_of.rows start_of.outer start_of.types start_of.depths (λ it' w'. OwnGave c (own_env c seg n) it' w') (own-giving c (own_env c seg n)))
      (OwnGave c (own_env c seg n)) (own_finds c n) (own_sets c n) (own_gives c n (own_finds c n))
      (own-holds c seg loop k (length p.registers) fields (length p.places) (context_at g globals k) start_of.rows start_of.outer start_of.types start_of.depths (λ it' w'. OwnGave c (own_env c seg n) it' w') (own-giving c (own_env c seg n)) (record { limit = 0; declarations = []; inputs = 0 }) [] None)
      (start k) (begin p.registers (fields_at k)) mask_key mask sender.found
      (begins c seg p fields loop 0 mask_key mask P.Skip globals (fields_at k) k r only-mask (node-shows k lt))
      ∙ ap (answer_of (own_env c seg n)) e

  -- the first step of a vertex
  abbrev one_step : ℕ × List Value → After
  one_step x = vertex_after p (send_block c seg n mask_key mask h.domain kind loads) (context_at g globals x.0) [] x.1

  abbrev sends : ℕ → After
  sends k = leaves (record (begin p.registers (fields_at k)) { messages = map msg (turns_of k) })

  step-sends : (k : ℕ) → k < node_count g → one_step (k, fields_at k) ≡ sends k
  step-sends k lt =
      let z = mask-is k lt in
      send-blocks-send c seg p g n kind mask_key mask h.domain loads globals (fields_at k) k z.0 (mask-term k lt z.0 z.1)
      ∙ ap (λ ms. leaves (record (begin p.registers (fields_at k)) { messages = ms })) (by (is_true z.0) ∙ ap (λ a. map msg (if truth a then map (λ e. (k, e)) (along k) else [])) (sym z.1)) where
        by : (b : Bool) → (if b then map (message_along c g kind loads k (fields_at k)) (along k) else []) ≡ map msg (if b then map (λ e. (k, e)) (along k) else [])
        by true = sym (map-map (λ e. (k, e)) msg (along k))
        by false = refl

  -- all first steps
  abbrev AllSend : ℕ → List (List Value) → Type 0
  AllSend a [] = Unit {0}
  AllSend a (fs ∷ fss) = (one_step (a, fs) ≡ sends a) × (fields_at a ≡ fs) × AllSend (suc a) fss

  all-send : (a : ℕ) (fss : List (List Value)) → a + length fss ≤ node_count g → ((j : ℕ) → slice_index_or s.fields (a + j) [] ≡ slice_index_or fss j []) → AllSend a fss
  all-send a [] le e = tt
  all-send a (fs ∷ fss) le e =
      let same : fields_at a ≡ fs = ap fields_at (let z : a ≡ a + 0 = omega arith in z) ∙ e 0 in (
        ap (λ x. one_step (a, x)) (sym same) ∙ step-sends a (omega arith),
        same,
        all-send (suc a) fss (omega arith) (λ j. ap (λ z. slice_index_or s.fields z []) (let z : suc a + j ≡ a + suc j = omega arith in z) ∙ e (suc j)),
      )

  abbrev steps_of_all : ℕ → List (List Value) → List After
  steps_of_all a fss = map one_step (enumerate_from a fss)

  next-steps : (a : ℕ) (fss : List (List Value)) → steps_of_all (a + 1) fss ≡ steps_of_all (suc a) fss
  next-steps a fss = ap (λ j. steps_of_all j fss) (add-one a)

  messages-all : (a : ℕ) (fss : List (List Value)) → AllSend a fss → flat_map (λ x. x.state.messages) (steps_of_all a fss) ≡ map msg (turns_from a (length fss))
  messages-all a [] e = refl
  messages-all a (fs ∷ fss) e =
      ap (λ l. (one_step (a, fs)).state.messages ++ flat_map (λ x. x.state.messages) l) (next-steps a fss)
      ∙ ap (λ x. x.state.messages ++ flat_map (λ x. x.state.messages) (steps_of_all (suc a) fss)) e.0
      ∙ ap (λ l. map msg (turns_of a) ++ l) (messages-all (suc a) fss e.2)
      ∙ sym (map-both msg (turns_of a) (turns_from (suc a) (length fss)))

  fields-all : (a : ℕ) (fss : List (List Value)) → AllSend a fss → map (λ x. x.state.fields) (steps_of_all a fss) ≡ fss
  fields-all a [] e = refl
  fields-all a (fs ∷ fss) e =
      ap (λ l. (one_step (a, fs)).state.fields ∷ map (λ x. x.state.fields) l) (next-steps a fss)
      ∙ ap (λ x. x.state.fields ∷ map (λ x. x.state.fields) (steps_of_all (suc a) fss)) e.0
      ∙ ap (λ l. fields_at a ∷ l) (fields-all (suc a) fss e.2) ∙ ap (λ l. l ∷ fss) e.1

  puts-all : (a : ℕ) (fss : List (List Value)) → AllSend a fss → flat_map (λ x. x.state.puts) (steps_of_all a fss) ≡ []
  puts-all a [] e = refl
  puts-all a (fs ∷ fss) e =
      ap (λ l. (one_step (a, fs)).state.puts ++ flat_map (λ x. x.state.puts) l) (next-steps a fss)
      ∙ ap (λ x. x.state.puts ++ flat_map (λ x. x.state.puts) (steps_of_all (suc a) fss)) e.0
      ∙ puts-all (suc a) fss e.2

  faults-all : (a : ℕ) (fss : List (List Value)) → AllSend a fss → least_right (map (λ x. x.fault) (steps_of_all a fss)) ≡ None
  faults-all a [] e = refl
  faults-all a (fs ∷ fss) e =
      ap (λ l. lesser (one_step (a, fs)).fault (least_right (map (λ x. x.fault) l))) (next-steps a fss)
      ∙ ap (λ x. lesser x.fault (least_right (map (λ x. x.fault) (steps_of_all (suc a) fss)))) e.0
      ∙ faults-all (suc a) fss e.2

  -- the first superstep
  abbrev pub first : Stepped
  first = superstep p g q globals s

  every : AllSend 0 s.fields
  every = all-send 0 s.fields (subst (λ m. 0 + m ≤ node_count g) (sym shown.all_nodes) (omega arith)) (λ j. ap fields_at (let z : 0 + j ≡ j = omega arith in z))

  first-is : first ≡ stepped (length p.places) globals s (steps_of_all 0 s.fields)
  first-is =
      ap (λ b. stepped (length p.places) globals s (all_steps p g b globals s.sent s.fields)) block
      ∙ ap (λ m. stepped (length p.places) globals s (all_steps p g (send_block c seg n mask_key mask h.domain kind loads) globals m s.fields)) shown.idle

  puts-none : settled (length p.places) (flat_map (λ x. x.state.puts) (steps_of_all 0 s.fields)) globals ≡ record { values = globals; fault = None }
  puts-none = ap (λ ps. settled (length p.places) ps globals) (puts-all 0 s.fields every) ∙ settled-nothing (length p.places) globals

  pub first-fault : first.fault ≡ None
  first-fault =
      ap (λ t. t.fault) first-is
      ∙ ap (λ t. lesser (least_fault (map (λ x. x.fault) (steps_of_all 0 s.fields))) t.fault) puts-none
      ∙ ap (λ o. lesser o None) (least_from-right None (map (λ x. x.fault) (steps_of_all 0 s.fields)) ∙ ap (lesser None) (faults-all 0 s.fields every))

  pub first-globals : first.globals ≡ globals
  first-globals = ap (λ t. t.globals) first-is ∙ ap (λ t. t.values) puts-none

  pub first-fields : first.nodes.fields ≡ s.fields
  first-fields = ap (λ t. t.nodes.fields) first-is ∙ fields-all 0 s.fields every

  pub first-sent : first.nodes.sent ≡ map msg all_turns
  first-sent = ap (λ t. t.nodes.sent) first-is ∙ messages-all 0 s.fields every ∙ ap (λ m. map msg (turns_from 0 m)) shown.all_nodes

  -- turns are from nodes, along their edges
  in-map : {A B : Type 0} (f : A → B) (xs : List A) (y : B) → IsIn y (map f xs) → (x : A) × IsIn x xs × (y ≡ f x)
  in-map f [] y o = absurd o
  in-map f (x ∷ xs) y o = ⊎_elim (λ (e : y ≡ f x). (x, inl refl, e)) (λ (w : IsIn y (map f xs)). let t = in-map f xs y w in (t.0, inr t.1, t.2)) o

  in-turns-of : (k : ℕ) (x : ℕ × Step) → IsIn x (turns_of k) → (x.0 ≡ k) × IsIn x.1 (along k)
  in-turns-of k x o = by (masked k) o where
    by : (b : Bool) → IsIn x (if b then map (λ e. (k, e)) (along k) else []) → (x.0 ≡ k) × IsIn x.1 (along k)
    by true o = let t = in-map (λ e. (k, e)) (along k) x o in (ap (λ y. y.0) t.2, subst (λ e. IsIn e (along k)) (sym (ap (λ y. y.1) t.2)) t.1)
    by false o = absurd o

  in-turns : (a m : ℕ) (x : ℕ × Step) → a + m ≤ node_count g → IsIn x (turns_from a m) → (x.0 < node_count g) × IsIn x.1 (along x.0)
  in-turns a zero x le o = absurd o
  in-turns a (suc m) x le o =
      ⊎_elim
      (λ (w : IsIn x (turns_of a)).
      let t = in-turns-of a x w in
      let lt : a < node_count g = omega arith in
      (subst (λ z. z < node_count g) (sym t.0) lt, subst (λ z. IsIn x.1 (along z)) (sym t.0) t.1))
      (λ (w : IsIn x (turns_from (suc a) m)). in-turns (suc a) m x (omega arith) w)
      (in-parts x (turns_of a) (turns_from (suc a) m) o)

  pub turn-inside : (x : ℕ × Step) → IsIn x all_turns → (x.0 < node_count g) × (x.1.node < node_count g) × (x.1.edge < edge_count g)
  turn-inside x o = let t = in-turns 0 (node_count g) x (omega arith) o in let w = within x.0 x.1 t.1 in (t.0, w.0, w.1)

  -- what a message carries
  load-is : (k : ℕ) → k < node_count g → (e : Step) → e.edge < edge_count g → (x : Load) → is_readable c x ≡ true → load_at c g k (fields_at k) e x ≡ load_value (view_in loop (AtEdge e.edge) (start k) key) k x
  load-is k lt e less SenderItself o = refl
  load-is k lt e less (SenderProperty y) o = shown.properties k lt y o
  load-is k lt e less (SenderDegree Out) o = refl
  load-is k lt e less (SenderDegree In) o = refl
  load-is k lt e less (EdgeValue y) o =
      let t = both-true (nat_lt y (length c.declarations)) (is Sorts.EdgeProperty (variable_at c.declarations y)) o in
      edges y e.edge (ltb-true y (length c.declarations) t.0) t.1 less

  abbrev pub node_of : ℕ × Step → ℕ
  node_of x = x.1.node

  pub message-of : (j : ℕ) (x : ℕ × Step) → IsIn x all_turns → x.1.node ≡ j → IsMessageOf loop loads kind key r j x (msg x)
  message-of j x o e = record {
    arrives = e;
    of_kind = refl;
    from_inside = (turn-inside x o).0;
    carries = λ y has. found-load (load_at c g x.0 (fields_at x.0) x.1) loads y has ∙ load-is x.0 (turn-inside x o).0 x.1 (turn-inside x o).2 y (readable-one c loads y sender.readable has);
  }

  abbrev pub turn : ℕ × Step → Iteration
  turn = turn_of loop i key test body r

  pub incl : (f : Spot) → HasSpot f (inner_spots c n i key test body) → HasSpot f all
  incl f o = subst (HasSpot f) (sym all_is) (spot-right f (spots_in mask mask_key) (inner_spots c n i key test body) o)

  -- the outer iteration
  abbrev pub inner : Stmt
  inner = P.Foreach key place h test body

  abbrev pub it : ℕ → Iteration
  it k = iteration loop mask_key mask inner r k

  steps-are : (k : ℕ) → k < node_count g → steps_in (view_in loop Outermost (start k) key) h ≡ along k
  steps-are k lt =
      ap (λ y. steps_of (view_in loop Outermost (start k) key) h.domain (node_in g ((from k).scalar y))) sender.owner
      ∙ ap (λ a. steps_of (view_in loop Outermost (start k) key) h.domain (node_in g a)) (ap (λ b. if b then At (Some k) else r.scalar n) (eq-eqb n n refl))
      ∙ ap (steps_of (view_in loop Outermost (start k) key) h.domain) (node-in g k lt)
      ∙ ⊎_elim
      (λ (e : h.domain ≡ OutNbrs). ap (λ d. steps_of (view_in loop Outermost (start k) key) d (Some k)) e ∙ sym (ap (λ d. steps (direction_of d) g k) e))
      (λ (e : h.domain ≡ InNbrs). ap (λ d. steps_of (view_in loop Outermost (start k) key) d (Some k)) e ∙ sym (ap (λ d. steps (direction_of d) g k) e))
      sender.neighbours

  -- what an iteration is
  pub record IterationIs (k : ℕ) (a : Iteration) : Type 0 where
    pub given : a.with_outermost ≡ given_by turn (turns_of k)
    pub fault : a.fault ≡ least (faults_by turn (turns_of k))
    pub node : (y m : ℕ) → a.store.node y m ≡ r.node y m
    pub deferred : a.deferred ≡ []

  in-all : (k : ℕ) (x : ℕ × Step) → k < node_count g → IsIn x (turns_of k) → IsIn x all_turns
  in-all k x lt o = go 0 (node_count g) (omega arith) (omega arith) where
    go : (a m : ℕ) → a ≤ k → k < a + m → IsIn x (turns_from a m)
    go a zero le l = absurd (omega arith)
    go a (suc m) le l =
        ⊎_elim
        (λ (less : a < k). in-back x (turns_of a) (turns_from (suc a) m) (go (suc a) m (omega arith) (omega arith)))
        (λ (more : k ≤ a). let same : k ≡ a = omega arith in in-front x (turns_of a) (turns_from (suc a) m) (subst (λ z. IsIn x (turns_of z)) same o))
        (cases_lt a k)

  abbrev pub its : List Iteration
  its = map it (nodes g)

  -- where turns give nothing to their inner loops and defer nothing
  module _ (turn-gave : (x : ℕ × Step) → IsIn x (all_turns) → ((turn x).with_inner ≡ []) × ((turn x).deferred ≡ [])) where
    inner-none : (xs : List (ℕ × Step)) → ((x : ℕ × Step) → IsIn x xs → IsIn x all_turns) → joined (map (λ x. (turn x).with_inner) xs) ≡ []
    inner-none [] o = refl
    inner-none (x ∷ xs) o = ap (λ l. l ++ joined (map (λ x. (turn x).with_inner) xs)) (turn-gave x (o x (inl refl))).0 ∙ inner-none xs (λ y w. o y (inr w))

    done-is : (k : ℕ) (es : List Step) → ((x : ℕ × Step) → IsIn x (map (λ e. (k, e)) es) → IsIn x all_turns) → masked k ≡ true → es ≡ along k
        → IterationIs k (inner_done (start k) (map (λ e. turn (k, e)) es))
    done-is k es o mk same =
        let turns = map (λ e. turn (k, e)) es in
        let pairs = map (λ e. (k, e)) es in
        let none : joined (map (λ t. t.with_inner) turns) ≡ [] =
        ap joined (map-map (λ e. turn (k, e)) (λ t. t.with_inner) es ∙ sym (map-map (λ e. (k, e)) (λ x. (turn x).with_inner) es)) ∙ inner-none pairs o in
        let pairs_are : pairs ≡ turns_of k = ap (map (λ e. (k, e))) same ∙ sym (ap (λ b. if b then map (λ e. (k, e)) (along k) else []) mk) in
        record {
          given = ap joined (map-map (λ e. turn (k, e)) (λ t. t.with_outermost) es ∙ sym (map-map (λ e. (k, e)) (λ x. (turn x).with_outermost) es)) ∙ ap (given_by turn) pairs_are;
          fault =
              ap (λ l. least (somes (map (λ t. t.fault) turns) ++ total_faults (from k) l)) none
              ∙ ap least (append-nil (somes (map (λ t. t.fault) turns)))
              ∙ ap (λ l. least (somes l)) (map-map (λ e. turn (k, e)) (λ t. t.fault) es ∙ sym (map-map (λ e. (k, e)) (λ x. (turn x).fault) es))
              ∙ ap (λ xs. least (faults_by turn xs)) pairs_are;
          node = λ y m. ap (λ l. S.value_after (from k) l (slots.Node y m)) none ∙ value-away (from k) (slots.Node y m) [] (λ x w. absurd w);
          deferred = refl;
        }

    pub iteration-is : (k : ℕ) → k < node_count g → IterationIs k (it k)
    iteration-is k lt = by (mask-is k lt) where
      by : (z : Value) × (mask_value k ≡ Ok z) → IterationIs k (it k)
      by z =
          subst (λ a. IterationIs k (with_ok (start k) a (λ y. one_way (is_true y) (does inner Outermost loop) as_it_is (start k)))) (sym z.1)
          (way (is_true z.0) (ap truth z.1)) where
            way : (b : Bool) → masked k ≡ b → IterationIs k (one_way b (does inner Outermost loop) as_it_is (start k))
            way true e =
                subst (λ es. IterationIs k (inner_done (start k) (map (λ e. turn (k, e)) es))) (sym (steps-are k lt))
                (done-is k (along k) (λ x o. in-all k x lt (subst (IsIn x) (sym (ap (λ b. if b then map (λ e. (k, e)) (along k) else []) e)) o)) e refl)
            way false e = record {
              given = sym (ap (λ b. given_by turn (if b then map (λ e. (k, e)) (along k) else [])) e);
              fault = sym (ap (λ b. least (faults_by turn (if b then map (λ e. (k, e)) (along k) else []))) e);
              node = λ y m. refl;
              deferred = refl;
            }

    given-from : (a m : ℕ) → a + m ≤ node_count g → joined (map (λ x. x.with_outermost) (map it (numbers_from a m))) ≡ given_by turn (turns_from a m)
    given-from a zero le = refl
    given-from a (suc m) le =
        ap (λ l. l ++ joined (map (λ x. x.with_outermost) (map it (numbers_from (suc a) m)))) (iteration-is a (omega arith)).given
        ∙ ap (λ l. given_by turn (turns_of a) ++ l) (given-from (suc a) m (omega arith))
        ∙ sym (joined-both (turns_of a) (turns_from (suc a) m) (λ x. (turn x).with_outermost))

    deferred-from : (a m : ℕ) → a + m ≤ node_count g → joined (map (λ x. x.deferred) (map it (numbers_from a m))) ≡ []
    deferred-from a zero le = refl
    deferred-from a (suc m) le =
        ap (λ l. l ++ joined (map (λ x. x.deferred) (map it (numbers_from (suc a) m)))) (iteration-is a (omega arith)).deferred ∙ deferred-from (suc a) m (omega arith)

    somes-both : (xs ys : List (Option Fault)) → somes (xs ++ ys) ≡ somes xs ++ somes ys
    somes-both [] ys = refl
    somes-both (None ∷ xs) ys = somes-both xs ys
    somes-both (Some f ∷ xs) ys = ap (λ l. f ∷ l) (somes-both xs ys)

    faults-both : (xs ys : List (ℕ × Step)) → faults_by turn (xs ++ ys) ≡ faults_by turn xs ++ faults_by turn ys
    faults-both xs ys = ap somes (map-both (λ x. (turn x).fault) xs ys) ∙ somes-both (map (λ x. (turn x).fault) xs) (map (λ x. (turn x).fault) ys)

    faults-from : (a m : ℕ) → a + m ≤ node_count g → least (somes (map (λ x. x.fault) (map it (numbers_from a m)))) ≡ least (faults_by turn (turns_from a m))
    faults-from a zero le = refl
    faults-from a (suc m) le =
        ap (λ o. least (somes (o ∷ map (λ x. x.fault) (map it (numbers_from (suc a) m))))) (iteration-is a (omega arith)).fault
        ∙ one (least (faults_by turn (turns_of a))) (map (λ x. x.fault) (map it (numbers_from (suc a) m)))
        ∙ ap (lesser_of (least (faults_by turn (turns_of a)))) (faults-from (suc a) m (omega arith))
        ∙ sym (least-append (faults_by turn (turns_of a)) (faults_by turn (turns_from (suc a) m)))
        ∙ ap least (sym (faults-both (turns_of a) (turns_from (suc a) m))) where
          one : (o : Option Fault) (os : List (Option Fault)) → least (somes (o ∷ os)) ≡ lesser_of o (least (somes os))
          one None os = refl
          one (Some f) os = refl

    -- the store between the own writes and the contributions is the first one
    left-same : (a m y k : ℕ) → a + m ≤ node_count g → left_at (numbers_from a m) (map it (numbers_from a m)) r y k ≡ r.node y k
    left-same a zero y k le = refl
    left-same a (suc m) y k le = by (nat_eq a k) ((iteration-is a (omega arith)).node y k) (left-same (suc a) m y k (omega arith)) where
      by : (b : Bool) {x z : Value} → x ≡ r.node y k → z ≡ r.node y k → (if b then x else z) ≡ r.node y k
      by true e f = e
      by false e f = f

    own-is : own_left r (nodes g) its ≡ r
    own-is = ap (λ f. record r { node = f }) (fun_ext (λ y. fun_ext (λ k. left-same 0 (node_count g) y k (omega arith))))

    pub given-is : given_in loop mask_key mask inner r ≡ given_by turn all_turns
    given-is = given-from 0 (node_count g) (omega arith)

    abbrev meant_faults : List Fault
    meant_faults = somes (map (λ x. x.fault) its) ++ total_faults r (given_by turn all_turns)

    pub faults-are : least (somes (map (λ x. x.fault) its)) ≡ least (faults_by turn all_turns)
    faults-are = faults-from 0 (node_count g) (omega arith)

    -- the loop, on the first store
    pub loop-is : parallel loop mask_key mask inner (nodes g) r ≡ unless_fault (least meant_faults) (Ok (settled_store r (given_by turn all_turns)))
    loop-is =
        ap (λ st. unless_fault (least (somes (map (λ x. x.fault) its) ++ total_faults st given_all)) (Ok (overlaid (settled_store st given_all) (joined (map (λ x. x.deferred) its))))) own-is
        ∙ ap (λ cs. unless_fault (least (somes (map (λ x. x.fault) its) ++ total_faults r cs)) (Ok (overlaid (settled_store r cs) (joined (map (λ x. x.deferred) its))))) given-is
        ∙ ap (λ ds. unless_fault (least meant_faults) (Ok (overlaid (settled_store r (given_by turn all_turns)) ds))) (deferred-from 0 (node_count g) (omega arith)) where
          given_all : List Contribution
          given_all = given_in loop mask_key mask inner r
