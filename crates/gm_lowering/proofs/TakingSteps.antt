-- One superstep takes what messages carry for reductions.
use Rattle.std.proofs.Common.{◌≡◌, ◌<◌, ◌≤◌, inl, inr, ℕ, zero, suc, Bool, true, false, cond, Option, Some, None, Ok, List, [], ◌∷◌, length, map, refl, ap, ◌∙◌, sym, subst, arith, add-one, ⊎_elim}
use Rattle.std.specs.Prelude.{◌+◌, ◌&&◌, ◌||◌, nat_eq, filter, find, if◌then◌else◌, slice_get, slice_index_or}
use Rattle.std.specs.List.{list_all, flat_map, enumerate_from}
use Rattle.std.proofs.lemmas.Bool.{both_ways, eqb-true, ne_eqb, eq-eqb, cases_lt}
use Rattle.gm_value.specs.declared.values.Value.{Value}
use Rattle.gm_value.specs.Bag.{IsIn}
use Rattle.gm_model.specs.Graphs.{NumberedGraph, node_count}
use Rattle.gm_ast.specs.declared.tree.Target.{Target}
use Rattle.gm_ast.specs.declared.tree.Target.TheVariants as T
use Rattle.gm_forms.proofs.Named.{both-true}
use Rattle.gm_semantics.specs.declared.faults.Fault.{Fault}
use Rattle.gm_semantics.specs.declared.slots.Slot.{Slot}
use Rattle.gm_semantics.specs.declared.slots.Slot.TheVariants as slots
use Rattle.gm_semantics.specs.Contributions.{Contribution, settled_store, total_faults}
use Rattle.gm_semantics.specs.Contributions as S
use Rattle.gm_semantics.specs.Faults.{least, unless_fault}
use Rattle.gm_semantics.specs.Faults as F
use Rattle.gm_semantics.specs.Iterations.{contribution}
use Rattle.gm_semantics.specs.Levels.{numbers_from}
use Rattle.gm_semantics.specs.Stores.{Store, read, has_slot}
use Rattle.gm_semantics.proofs.ContributionLaws.{IsIn-filter, slots_eq-true}
use Rattle.gm_semantics.proofs.TargetLaws.{value-away}
use Rattle.gm_image.specs.Program as image
use Rattle.gm_image.specs.Program.{Handler}
use Rattle.gm_machine.specs.declared.faults.Fault as M
use Rattle.gm_machine.specs.Expressions.{value_at}
use Rattle.gm_machine.specs.Faults.{lesser, least_fault}
use Rattle.gm_machine.specs.Machine.{Nodes, Stepped, inbox, context_at, stepped, all_steps, block_at, superstep}
use Rattle.gm_machine.specs.Taking.{settled}
use Rattle.gm_machine.specs.Vertex.{Message, VertexContext, VertexState, After, leaves, begun, lines_after, goes_on, ended, body_after, gathered, lines_of, handler_lines, handler_run, vertex_after}
use Rattle.gm_machine.proofs.LeastLaws.{least_right, least_from-right}
use Rattle.gm_machine.proofs.SlotSteps.{settled-nothing}
use Rattle.gm_lowering.specs.Layouts.{Layout}
use Rattle.gm_lowering.specs.Places.{Spot, Segment, segment, place_index, spot_of_total}
use Rattle.gm_lowering.specs.Terms.{Env}
use Rattle.gm_lowering.specs.Plans.{Away}
use Rattle.gm_lowering.specs.Blocks.{taking_handler, taking_handlers}
use Rattle.gm_lowering.specs.Showing.{fault_of}
use Rattle.gm_lowering.specs.Sites.{slot_at, given, IsApart, phase_value}
use Rattle.gm_lowering.specs.OwnLoops.{are_any, is_kept_property}
use Rattle.gm_lowering.specs.Phases.{Shown, Leaves, StepIs, GivesApart}
use Rattle.gm_lowering.specs.Settles.{HasSpot, HaveRoom, spot_of_fault, fault_or_none, is_some_list, AreHeld, AreGiven, SettlesAlike}
use Rattle.gm_lowering.specs.Takings.{slots_at}
use Rattle.gm_lowering.specs.TakingSteps.{taking_block, Carried, IsTaken, contributions_of, TakingBlocksTake}
use Rattle.gm_lowering.proofs.Givens.{here_at}
use Rattle.gm_lowering.proofs.Orders.{lesser-lower}
use Rattle.gm_lowering.proofs.Regions.{value-filtered, fault-filtered, least-members, in-front, in-back, in-parts}
use Rattle.gm_lowering.proofs.Settles.{somes-in, in-somes, filter-in, filter-map, least-is, total-spot, reductions-settle}
use Rattle.gm_lowering.proofs.Supersteps.{least-two}
use Rattle.gm_lowering.proofs.Takings.{takings-take}

-- the handler of a kind
handler-found : (c : Layout) (seg : Segment) (aways : List Away) (kind i n : ℕ) (a : Away) → slice_get aways i ≡ Some a → n ≡ kind + i
    → handler_lines (taking_handlers c seg kind aways) n ≡ (taking_handler c seg 0 a).lines
handler-found c seg [] kind i n a e same = cc
handler-found c seg (b ∷ aways) kind zero n a e same =
    ap (λ t. lines_of (if t then Some (taking_handler c seg kind b) else find (λ h. nat_eq h.kind n) (taking_handlers c seg (suc kind) aways))) (eq-eqb kind n (let z : kind ≡ n = omega (arith, same) in z))
    ∙ ap (λ z. (taking_handler c seg 0 z).lines) (first-some b a e) where
      first-some : (x y : Away) → Some x ≡ Some y → x ≡ y
      first-some x y e = cc
handler-found c seg (b ∷ aways) kind (suc i) n a e same =
    ap (λ t. lines_of (if t then Some (taking_handler c seg kind b) else find (λ h. nat_eq h.kind n) (taking_handlers c seg (suc kind) aways))) (ne_eqb kind n (λ f. omega (arith, f, same)))
    ∙ handler-found c seg aways (suc kind) i n a e (omega (arith, same))

found-in : {A : Type 0} (xs : List A) (i : ℕ) (x : A) → slice_get xs i ≡ Some x → IsIn x xs
found-in [] i x e = cc
found-in (y ∷ ys) zero x e = inl (first-some y x e) where
  first-some : {A : Type 0} (a b : A) → Some a ≡ Some b → b ≡ a
  first-some a b e = cc
found-in (y ∷ ys) (suc i) x e = inr (found-in ys i x e)

-- the node at whose properties slots are
abbrev at_node : ℕ → List Slot → Bool
at_node j [] = false
at_node j (slots.Scalar x ∷ ss) = false
at_node j (slots.Node y k ∷ ss) = nat_eq k j

slots-node : (c : Layout) (n j k : ℕ) (ts : List Target) → are_any ts ≡ true → list_all (is_kept_property c n) ts ≡ true → at_node j (slots_at k ts) ≡ nat_eq k j
slots-node c n j k [] o h = absurd (both_ways false refl o)
slots-node c n j k (T.Scalar x at ∷ ts) o h = absurd (both_ways false refl h)
slots-node c n j k (T.Property x p at ∷ ts) o h = refl

slots-kept : (c : Layout) (n k : ℕ) (ts : List Target) → list_all (is_kept_property c n) ts ≡ true → list_all (here_at c k) (slots_at k ts) ≡ true
slots-kept c n k [] h = refl
slots-kept c n k (T.Scalar x at ∷ ts) h = absurd (both_ways false refl h)
slots-kept c n k (T.Property x p at ∷ ts) h =
    let q = both-true (nat_eq x n && c.is_kept p) (list_all (is_kept_property c n) ts) h in
    ap (λ b. (b && c.is_kept p) && list_all (here_at c k) (slots_at k ts)) (eq-eqb k k refl)
    ∙ ap (λ b. b && list_all (here_at c k) (slots_at k ts)) (both-true (nat_eq x n) (c.is_kept p) q.0).1
    ∙ slots-kept c n k ts q.1

slots-some : (c : Layout) (n k : ℕ) (ts : List Target) → are_any ts ≡ true → list_all (is_kept_property c n) ts ≡ true → is_some_list (slots_at k ts) ≡ true
slots-some c n k [] o h = absurd (both_ways false refl o)
slots-some c n k (T.Scalar x at ∷ ts) o h = absurd (both_ways false refl h)
slots-some c n k (T.Property x p at ∷ ts) o h = refl

no-scalar : (x k : ℕ) (ts : List Target) → has_slot (slots.Scalar x) (slots_at k ts) ≡ false
no-scalar x k [] = refl
no-scalar x k (T.Scalar y at ∷ ts) = no-scalar x k ts
no-scalar x k (T.Property y p at ∷ ts) = no-scalar x k ts

node-of : (y j k : ℕ) (ts : List Target) → has_slot (slots.Node y j) (slots_at k ts) ≡ true → k ≡ j
node-of y j k [] h = absurd (both_ways false refl h)
node-of y j k (T.Scalar z at ∷ ts) h = node-of y j k ts h
node-of y j k (T.Property z p at ∷ ts) h = by (nat_eq y p && nat_eq j k) refl h (λ r. node-of y j k ts r) where
  by : (b : Bool) → nat_eq y p && nat_eq j k ≡ b → b || has_slot (slots.Node y j) (slots_at k ts) ≡ true → (has_slot (slots.Node y j) (slots_at k ts) ≡ true → k ≡ j) → k ≡ j
  by true e h rest = sym (eqb-true j k (both-true (nat_eq y p) (nat_eq j k) e).1)
  by false e h rest = rest h

filter-same : {A : Type 0} (t u : A → Bool) (xs : List A) → ((x : A) → IsIn x xs → t x ≡ u x) → filter t xs ≡ filter u xs
filter-same t u [] e = refl
filter-same t u (x ∷ xs) e = ap (λ b. cond b (x ∷ filter t xs) (filter t xs)) (e x (inl refl)) ∙ ap (λ l. cond (u x) (x ∷ l) l) (filter-same t u xs (λ y i. e y (inr i)))

in-map : {A B : Type 0} (f : A → B) (xs : List A) (y : B) → IsIn y (map f xs) → (x : A) × IsIn x xs × (y ≡ f x)
in-map f [] y o = absurd o
in-map f (x ∷ xs) y o = ⊎_elim (λ (e : y ≡ f x). (x, inl refl, e)) (λ (w : IsIn y (map f xs)). let t = in-map f xs y w in (t.0, inr t.1, t.2)) o

module _ (c : Layout) (p : image.Program) (fields base q kind : ℕ) (all : List Spot) (v : Env) (g : NumberedGraph) (aways : List Away) (globals : List Value) (s : Nodes) (r : Store) (xs : List (Contribution × Message))
    (places : v.place ≡ place_index (segment base all))
    (rows : IsApart c (length p.registers) fields)
    (fit : HaveRoom base all (length p.places))
    (block : block_at p q ≡ taking_block c (segment base all) kind aways)
    (takes : (a : Away) → IsIn a aways → IsTaken c all a)
    (shown : Shown c p.registers fields g globals (record s { sent = [] }) r)
    (sent : s.sent ≡ map (λ x. x.1) xs)
    (carried : (x : Contribution × Message) → IsIn x xs → Carried kind aways x.0 x.1 × (x.1.to < node_count g))
    (apart : GivesApart (contributions_of xs)) where
  abbrev seg : Segment
  seg = segment base all

  abbrev handlers : List Handler
  handlers = taking_handlers c seg kind aways

  abbrev fields_at : ℕ → List Value
  fields_at k = slice_index_or s.fields k []

  abbrev cs : List Contribution
  cs = contributions_of xs

  -- those that go to a node
  abbrev part : ℕ → List (Contribution × Message)
  part j = filter (λ x. nat_eq x.1.to j) xs

  abbrev cs_of : ℕ → List Contribution
  cs_of j = contributions_of (part j)

  part-in : (j : ℕ) (x : Contribution × Message) → IsIn x (part j) → IsIn x xs × (x.1.to ≡ j)
  part-in j x i = let t = IsIn-filter (λ x. nat_eq x.1.to j) x xs i in (t.0, eqb-true x.1.to j t.1)

  -- what is carried
  taken-as : (x : Contribution × Message) (i : IsIn x xs) → IsTaken c all ((carried x i).0.away)
  taken-as x i = takes (carried x i).0.away (found-in aways (carried x i).0.index (carried x i).0.away (carried x i).0.found)

  slots-are : (x : Contribution × Message) (i : IsIn x xs) → x.0.slots ≡ slots_at x.1.to (carried x i).0.away.targets
  slots-are x i = ap (λ y. y.slots) (carried x i).0.made

  -- the run of a handler
  module _ (j : ℕ) where
    abbrev first : VertexState
    first = begun p.registers (fields_at j)

    abbrev context : VertexContext
    context = context_at g globals j

    abbrev ran : Contribution × Message → After
    ran x = leaves (record first { folds = given c v x.0 ∷ [] })

    run-is : (x : Contribution × Message) → IsIn x xs → x.1.to ≡ j → handler_run context handlers first x.1 ≡ ran x
    run-is x i e =
        let k = (carried x i).0 in
        let t = taken-as x i in
        ap (λ ls. lines_after (record context { message = x.1.values }) ls 0 first) (handler-found c seg aways kind k.index x.1.kind k.away k.found k.of_kind)
        ∙ takings-take c seg v 0 t.owner j k.away (record context { message = x.1.values }) first places t.some t.kept k.long
        ∙ ap (λ y. leaves (record first { folds = given c v y ∷ [] })) (ap (λ n. contribution k.away.total k.away.reduce (slots_at n k.away.targets, x.1.values)) (sym e) ∙ sym k.made)

    runs-are : (ys : List (Contribution × Message)) → ((x : Contribution × Message) → IsIn x ys → IsIn x xs × (x.1.to ≡ j)) → map (handler_run context handlers first) (map (λ x. x.1) ys) ≡ map ran ys
    runs-are [] h = refl
    runs-are (y ∷ ys) h =
        ap (λ a. a ∷ map (handler_run context handlers first) (map (λ x. x.1) ys)) (let t = h y (inl refl) in run-is y t.0 t.1)
        ∙ ap (λ l. ran y ∷ l) (runs-are ys (λ x i. h x (inr i)))

    ran-folds : (ys : List (Contribution × Message)) → flat_map (λ a. a.state.folds) (map ran ys) ≡ map (given c v) (contributions_of ys)
    ran-folds [] = refl
    ran-folds (y ∷ ys) = ap (λ l. given c v y.0 ∷ l) (ran-folds ys)

    ran-puts : (ys : List (Contribution × Message)) → flat_map (λ a. a.state.puts) (map ran ys) ≡ []
    ran-puts [] = refl
    ran-puts (y ∷ ys) = ran-puts ys

    ran-messages : (ys : List (Contribution × Message)) → flat_map (λ a. a.state.messages) (map ran ys) ≡ []
    ran-messages [] = refl
    ran-messages (y ∷ ys) = ran-messages ys

    ran-fault : (ys : List (Contribution × Message)) → least_fault (map (λ a. a.fault) (map ran ys)) ≡ None
    ran-fault [] = refl
    ran-fault (y ∷ ys) = ran-fault ys

    -- the step of the vertex
    abbrev step : After
    step = vertex_after p (taking_block c seg kind aways) context (inbox (map (λ x. x.1) xs) j) (fields_at j)

    abbrev left : List Value
    left = (settled (length p.places) (map (given c v) (cs_of j)) (fields_at j)).values

    abbrev fault_at : Option M.Fault
    fault_at = (settled (length p.places) (map (given c v) (cs_of j)) (fields_at j)).fault

    ends : (w : VertexState) (f : Option M.Fault) → goes_on (ended w f 0) (λ k u. body_after (length p.places) context [] k u) ≡ record { state = w; fault = f; skip = 0 }
    ends w None = refl
    ends w (Some f) = refl

    abbrev of_runs : List After → After
    of_runs runs =
        let a = gathered first runs in
        let after = settled (length p.places) a.state.folds a.state.fields in
        goes_on (ended (record (a.state) { folds = []; fields = after.values }) (lesser a.fault after.fault) a.skip) (λ k u. body_after (length p.places) context [] k u)

    step-is : step ≡ record { state = record first { fields = left }; fault = fault_at; skip = 0 }
    step-is =
        ap (λ ms. of_runs (map (handler_run context handlers first) ms)) (filter-map (λ (x : Contribution × Message). x.1) (λ m. nat_eq m.to j) xs)
        ∙ ap of_runs (runs-are (part j) (part-in j))
        ∙ ends (record ((gathered first (map ran (part j))).state) { folds = []; fields = (settled (length p.places) (gathered first (map ran (part j))).state.folds (fields_at j)).values })
        (lesser (gathered first (map ran (part j))).fault (settled (length p.places) (gathered first (map ran (part j))).state.folds (fields_at j)).fault)
        ∙ ap (λ fs. record { state = record first { messages = (gathered first (map ran (part j))).state.messages; puts = (gathered first (map ran (part j))).state.puts; folds = []; fields = (settled (length p.places) fs (fields_at j)).values }; fault = lesser (gathered first (map ran (part j))).fault (settled (length p.places) fs (fields_at j)).fault; skip = 0 }) (ran-folds (part j))
        ∙ ap (λ ms. record { state = record first { messages = ms; puts = (gathered first (map ran (part j))).state.puts; folds = []; fields = left }; fault = lesser (gathered first (map ran (part j))).fault fault_at; skip = 0 }) (ran-messages (part j))
        ∙ ap (λ ps. record { state = record first { messages = []; puts = ps; folds = []; fields = left }; fault = lesser (gathered first (map ran (part j))).fault fault_at; skip = 0 }) (ran-puts (part j))
        ∙ ap (λ f. record { state = record first { fields = left }; fault = lesser f fault_at; skip = 0 }) (ran-fault (part j))

    module _ (lt : j < node_count g) where
      held-fields : AreHeld c r (fields_at j) (here_at c j)
      held-fields = record { holds = holds; within = within; apart = unlike } where
        at-node : (k y : ℕ) → nat_eq k j && c.is_kept y ≡ true → (k ≡ j) × (c.is_kept y ≡ true)
        at-node k y o = let t = both-true (nat_eq k j) (c.is_kept y) o in (eqb-true k j t.0, t.1)

        holds : (slot : Slot) → here_at c j slot ≡ true → value_at (fields_at j) (slot_at c slot) ≡ read r slot
        holds (slots.Scalar x) o = absurd (both_ways false refl o)
        holds (slots.Node y k) o = let t = at-node k y o in shown.properties j lt y t.1 ∙ ap (r.node y) (sym t.0)

        within : (slot : Slot) → here_at c j slot ≡ true → slot_at c slot < length (fields_at j)
        within (slots.Scalar x) o = absurd (both_ways false refl o)
        within (slots.Node y k) o = let t = at-node k y o in subst (λ m. c.field y < m) (sym (shown.widths j lt)) (rows.field_within y t.1)

        unlike : (a b : Slot) → here_at c j a ≡ true → here_at c j b ≡ true → slot_at c a ≡ slot_at c b → a ≡ b
        unlike (slots.Scalar x) b o o2 e = absurd (both_ways false refl o)
        unlike (slots.Node y k) (slots.Scalar x) o o2 e = absurd (both_ways false refl o2)
        unlike (slots.Node y k) (slots.Node y2 k2) o o2 e =
            let t = at-node k y o in
            let u = at-node k2 y2 o2 in
            ap (λ z. slots.Node z k) (rows.fields_apart y y2 t.1 u.1 e) ∙ ap (slots.Node y2) (t.0 ∙ sym u.0)

      -- what is received at the node
      from-part : (y : Contribution) → IsIn y (cs_of j) → (x : Contribution × Message) × IsIn x xs × (x.1.to ≡ j) × (y ≡ x.0)
      from-part y i = let t = in-map (λ (x : Contribution × Message). x.0) (part j) y i in let u = part-in j t.0 t.1 in (t.0, u.0, u.1, t.2)

      back : (y : Contribution) → IsIn y (cs_of j) → IsIn y cs
      back y i = let t = from-part y i in subst (λ z. IsIn z cs) (sym t.3) (into (λ (x : Contribution × Message). x.0) xs t.0 t.1) where
        into : {A B : Type 0} (f : A → B) (zs : List A) (x : A) → IsIn x zs → IsIn (f x) (map f zs)
        into f [] x i = i
        into f (z ∷ zs) x i = ⊎_elim (λ (e : x ≡ z). inl (ap f e)) (λ (w : IsIn x zs). inr (into f zs x w)) i

      good : AreGiven (cs_of j) (here_at c j) all
      good = record {
        one = λ x y slot i k e f. apart.one x y slot (back x i) (back y k) e f;
        here_all = λ y i.
            let t = from-part y i in
            let w = taken-as t.0 t.1 in
            ap (λ z. list_all (here_at c j) z.slots) t.3 ∙ ap (list_all (here_at c j)) (slots-are t.0 t.1 ∙ ap (λ n. slots_at n (carried t.0 t.1).0.away.targets) t.2) ∙ slots-kept c w.owner j (carried t.0 t.1).0.away.targets w.kept;
        not_empty = λ y i.
            let t = from-part y i in
            let w = taken-as t.0 t.1 in
            ap (λ z. is_some_list z.slots) t.3 ∙ ap is_some_list (slots-are t.0 t.1) ∙ slots-some c w.owner t.0.1.to (carried t.0 t.1).0.away.targets w.some w.kept;
        one_total = λ x y i k e f. apart.one_total x y (back x i) (back y k) e f;
        spotted = λ y i.
            let t = from-part y i in
            subst (λ z. HasSpot (spot_of_total z) all) (sym (ap (λ z. z.total) t.3 ∙ ap (λ z. z.total) (carried t.0 t.1).0.made)) (taken-as t.0 t.1).spotted;
      }

      pub settles : SettlesAlike c v (length p.places) r (fields_at j) (here_at c j) (cs_of j)
      settles = reductions-settle c v base (length p.places) all r (fields_at j) (here_at c j) (cs_of j) places fit held-fields good

      pub spotted-at : (f : Fault) → IsIn f (total_faults r (cs_of j)) → HasSpot (spot_of_fault f) all
      spotted-at f i = total-spot c v base (length p.places) all r (fields_at j) (here_at c j) (cs_of j) places fit held-fields good f i

  -- the steps of all vertices
  abbrev one_step : ℕ × List Value → After
  one_step x = vertex_after p (taking_block c seg kind aways) (context_at g globals x.0) (inbox (map (λ x. x.1) xs) x.0) x.1

  abbrev after : ℕ → After
  after j = record { state = record (first j) { fields = left j }; fault = fault_at j; skip = 0 }

  steps-are : (a : ℕ) (fss : List (List Value)) → ((j : ℕ) → slice_index_or s.fields (a + j) [] ≡ slice_index_or fss j []) → map one_step (enumerate_from a fss) ≡ map after (numbers_from a (length fss))
  steps-are a [] e = refl
  steps-are a (fs ∷ fss) e =
      let same : fields_at a ≡ fs = ap fields_at (let z : a ≡ a + 0 = omega arith in z) ∙ e 0 in
      ap (λ n. one_step (a, fs) ∷ map one_step (enumerate_from n fss)) (add-one a)
      ∙ ap (λ o. o ∷ map one_step (enumerate_from (suc a) fss)) (ap (λ x. one_step (a, x)) (sym same) ∙ step-is a)
      ∙ ap (λ l. after a ∷ l) (steps-are (suc a) fss (λ j. ap (λ z. slice_index_or s.fields z []) (let z : suc a + j ≡ a + suc j = omega arith in z) ∙ e (suc j)))

  abbrev numbers : List ℕ
  numbers = numbers_from 0 (node_count g)

  abbrev t : Stepped
  t = superstep p g q globals s

  t-is : t ≡ stepped (length p.places) globals s (map after numbers)
  t-is =
      ap (λ b. stepped (length p.places) globals s (all_steps p g b globals s.sent s.fields)) block
      ∙ ap (λ ms. stepped (length p.places) globals s (all_steps p g (taking_block c seg kind aways) globals ms s.fields)) sent
      ∙ ap (stepped (length p.places) globals s) (steps-are 0 s.fields (λ j. ap fields_at (let z : 0 + j ≡ j = omega arith in z)) ∙ ap (λ m. map after (numbers_from 0 m)) shown.all_nodes)

  none-put : (js : List ℕ) → flat_map (λ a. a.state.puts) (map after js) ≡ []
  none-put [] = refl
  none-put (j ∷ js) = none-put js

  none-sent : (js : List ℕ) → flat_map (λ a. a.state.messages) (map after js) ≡ []
  none-sent [] = refl
  none-sent (j ∷ js) = none-sent js

  globals-are : t.globals ≡ globals
  globals-are = ap (λ u. u.globals) t-is ∙ ap (λ ps. (settled (length p.places) ps globals).values) (none-put numbers) ∙ ap (λ u. u.values) (settled-nothing (length p.places) globals)

  sent-are : t.nodes.sent ≡ []
  sent-are = ap (λ u. u.nodes.sent) t-is ∙ none-sent numbers

  map-map : {A B C : Type 0} (h : A → B) (f : B → C) (ys : List A) → map f (map h ys) ≡ map (λ y. f (h y)) ys
  map-map h f [] = refl
  map-map h f (y ∷ ys) = ap (λ l. f (h y) ∷ l) (map-map h f ys)

  fields-are : t.nodes.fields ≡ map left numbers
  fields-are = ap (λ u. u.nodes.fields) t-is ∙ map-map after (λ a. a.state.fields) numbers

  at-number : {A : Type 0} (f : ℕ → A) (d : A) (m a k : ℕ) → k < m → slice_index_or (map f (numbers_from a m)) k d ≡ f (a + k)
  at-number f d zero a k lt = absurd (omega arith)
  at-number f d (suc m) a zero lt = ap f (let z : a ≡ a + 0 = omega arith in z)
  at-number f d (suc m) a (suc k) lt = at-number f d m (suc a) k (omega arith) ∙ ap f (let z : suc a + k ≡ a + suc k = omega arith in z)

  node-after : (k : ℕ) → k < node_count g → slice_index_or t.nodes.fields k [] ≡ left k
  node-after k lt = ap (λ fss. slice_index_or fss k []) fields-are ∙ at-number left [] (node_count g) 0 k lt ∙ ap left (let z : 0 + k ≡ k = omega arith in z)

  -- the contributions to one node
  abbrev goes_to : ℕ → Contribution → Bool
  goes_to j x = at_node j x.slots

  goes-is : (j : ℕ) (x : Contribution × Message) → IsIn x xs → goes_to j x.0 ≡ nat_eq x.1.to j
  goes-is j x i =
      let w = taken-as x i in
      ap (at_node j) (slots-are x i) ∙ slots-node c w.owner j x.1.to (carried x i).0.away.targets w.some w.kept

  region : (j : ℕ) → cs_of j ≡ filter (goes_to j) cs
  region j =
      ap contributions_of (filter-same (λ (x : Contribution × Message). nat_eq x.1.to j) (λ x. goes_to j x.0) xs (λ x i. sym (goes-is j x i)))
      ∙ sym (filter-map (λ (x : Contribution × Message). x.0) (goes_to j) xs)

  given-as : (y : Contribution) → IsIn y cs → (x : Contribution × Message) × IsIn x xs × (y ≡ x.0)
  given-as y i = in-map (λ (x : Contribution × Message). x.0) xs y i

  value-at : (y j : ℕ) → S.value_after r (cs_of j) (slots.Node y j) ≡ S.value_after r cs (slots.Node y j)
  value-at y j = ap (λ ds. S.value_after r ds (slots.Node y j)) (region j) ∙ value-filtered (goes_to j) r (slots.Node y j) cs goes where
    goes : (z : Contribution) → IsIn z cs → has_slot (slots.Node y j) z.slots ≡ true → goes_to j z ≡ true
    goes z i has =
        let x = given-as z i in
        let to : x.0.1.to ≡ j = node-of y j x.0.1.to (carried x.0 x.1).0.away.targets (ap (has_slot (slots.Node y j)) (sym (ap (λ u. u.slots) x.2 ∙ slots-are x.0 x.1)) ∙ has) in
        ap (goes_to j) x.2 ∙ goes-is j x.0 x.1 ∙ eq-eqb x.0.1.to j to

  scalar-stays : (x : ℕ) → S.value_after r cs (slots.Scalar x) ≡ r.scalar x
  scalar-stays x =
      value-away r (slots.Scalar x) cs (λ y i. let z = given-as y i in ap (λ u. has_slot (slots.Scalar x) u.slots) z.2 ∙ ap (has_slot (slots.Scalar x)) (slots-are z.0 z.1) ∙ no-scalar x z.0.1.to (carried z.0 z.1).0.away.targets)

  -- the faults
  abbrev faults_between : ℕ → ℕ → List Fault
  faults_between a m = flat_map (λ j. total_faults r (cs_of j)) (numbers_from a m)

  low : (f h : Fault) → HasSpot (spot_of_fault f) all → HasSpot (spot_of_fault h) all → lesser (Some (fault_of v f)) (Some (fault_of v h)) ≡ Some (fault_of v (F.lower f h))
  low f h a b = lesser-lower v base all places f h a b

  between-spotted : (m a : ℕ) → a + m ≤ node_count g → (f : Fault) → IsIn f (faults_between a m) → HasSpot (spot_of_fault f) all
  between-spotted zero a le f i = absurd i
  between-spotted (suc m) a le f i =
      ⊎_elim
      (λ (w : IsIn f (total_faults r (cs_of a))). spotted-at a (omega arith) f w)
      (λ (w : IsIn f (faults_between (suc a) m)). between-spotted m (suc a) (omega arith) f w)
      (in-parts f (total_faults r (cs_of a)) (faults_between (suc a) m) i)

  faults-right : (m a : ℕ) → a + m ≤ node_count g → least_right (map (λ x. x.fault) (map after (numbers_from a m))) ≡ fault_or_none v (least (faults_between a m))
  faults-right zero a le = refl
  faults-right (suc m) a le =
      ap (λ o. lesser o (least_right (map (λ x. x.fault) (map after (numbers_from (suc a) m))))) (settles a (omega arith)).fault
      ∙ ap (lesser (fault_or_none v (least (total_faults r (cs_of a))))) (faults-right m (suc a) (omega arith))
      ∙ least-two v all low (total_faults r (cs_of a)) (faults_between (suc a) m) (λ f i. spotted-at a (omega arith) f i) (λ f i. between-spotted m (suc a) (omega arith) f i)

  -- the fault of a target is the same among the contributions to its node
  target-at : (j : ℕ) (x : Contribution × Message) → IsIn x xs → x.1.to ≡ j → S.target_fault r (cs_of j) x.0.slots ≡ S.target_fault r cs x.0.slots
  target-at j x i e =
      ap (λ ds. S.target_fault r ds x.0.slots) (region j)
      ∙ fault-filtered (goes_to j) r x.0.slots cs (λ y k f. ap (at_node j) (sym (slots_eq-true x.0.slots y.slots f)) ∙ goes-is j x i ∙ eq-eqb x.1.to j e)

  in-between : (m a j : ℕ) (f : Fault) → a ≤ j → j < a + m → IsIn f (total_faults r (cs_of j)) → IsIn f (faults_between a m)
  in-between zero a j f le lt i = absurd (omega arith)
  in-between (suc m) a j f le lt i =
      ⊎_elim
      (λ (less : a < j). in-back f (total_faults r (cs_of a)) (faults_between (suc a) m) (in-between m (suc a) j f (omega arith) (omega arith) i))
      (λ (more : j ≤ a). let same : j ≡ a = omega arith in in-front f (total_faults r (cs_of a)) (faults_between (suc a) m) (subst (λ z. IsIn f (total_faults r (cs_of z))) same i))
      (cases_lt a j)

  some-between : (m a : ℕ) (f : Fault) → a + m ≤ node_count g → IsIn f (faults_between a m) → (j : ℕ) × (j < node_count g) × IsIn f (total_faults r (cs_of j))
  some-between zero a f le i = absurd i
  some-between (suc m) a f le i =
      ⊎_elim
      (λ (w : IsIn f (total_faults r (cs_of a))). (a, omega arith, w))
      (λ (w : IsIn f (faults_between (suc a) m)). some-between m (suc a) f (omega arith) w)
      (in-parts f (total_faults r (cs_of a)) (faults_between (suc a) m) i)

  to-whole : (f : Fault) → IsIn f (faults_between 0 (node_count g)) → IsIn f (total_faults r cs)
  to-whole f i =
      let j = some-between (node_count g) 0 f (omega arith) i in
      let x = somes-in (λ (y : Contribution). S.target_fault r (cs_of j.0) y.slots) (cs_of j.0) f j.2 in
      let w = from-part j.0 j.1 x.0 x.1 in
      in-somes (λ (y : Contribution). S.target_fault r cs y.slots) cs x.0 f (back j.0 j.1 x.0 x.1)
      (ap (λ y. S.target_fault r cs y.slots) w.3 ∙ sym (target-at j.0 w.0 w.1 w.2) ∙ ap (λ y. S.target_fault r (cs_of j.0) y.slots) (sym w.3) ∙ x.2)

  to-parts : (f : Fault) → IsIn f (total_faults r cs) → IsIn f (faults_between 0 (node_count g))
  to-parts f i =
      let x = somes-in (λ (y : Contribution). S.target_fault r cs y.slots) cs f i in
      let w = given-as x.0 x.1 in
      let lt : w.0.1.to < node_count g = (carried w.0 w.1).1 in
      in-between (node_count g) 0 w.0.1.to f (omega arith) (omega arith)
      (in-somes (λ (y : Contribution). S.target_fault r (cs_of w.0.1.to) y.slots) (cs_of w.0.1.to) w.0.0 f
      (subst (IsIn w.0.0) (sym (region w.0.1.to)) (filter-in (goes_to w.0.1.to) cs w.0.0 (subst (λ z. IsIn z cs) w.2 x.1) (goes-is w.0.1.to w.0 w.1 ∙ eq-eqb w.0.1.to w.0.1.to refl)))
      (target-at w.0.1.to w.0 w.1 refl ∙ ap (λ y. S.target_fault r cs y.slots) (sym w.2) ∙ x.2))

  fault-is : t.fault ≡ fault_or_none v (least (total_faults r cs))
  fault-is =
      ap (λ u. u.fault) t-is
      ∙ ap (λ ps. lesser (least_fault (map (λ a. a.fault) (map after numbers))) (settled (length p.places) ps globals).fault) (none-put numbers)
      ∙ ap (λ u. lesser (least_fault (map (λ a. a.fault) (map after numbers))) u.fault) (settled-nothing (length p.places) globals)
      ∙ ap (λ o. lesser o None) (least_from-right None (map (λ a. a.fault) (map after numbers)) ∙ ap (lesser None) (faults-right (node_count g) 0 (omega arith)))
      ∙ ap (λ fs. lesser (lesser None (fault_or_none v fs)) None) (least-members (faults_between 0 (node_count g)) (total_faults r cs) to-whole to-parts)
      ∙ plain (least (total_faults r cs)) where
        plain : (o : Option Fault) → lesser (lesser None (fault_or_none v o)) None ≡ fault_or_none v o
        plain None = refl
        plain (Some f) = refl

  whole-spotted : (f : Fault) → IsIn f (total_faults r cs) → HasSpot (spot_of_fault f) all
  whole-spotted f i = between-spotted (node_count g) 0 (omega arith) f (to-parts f i)

  leaves-store : least (total_faults r cs) ≡ None → Leaves c p.registers fields g globals (settled_store r cs) t
  leaves-store fine = record {
    fine = fault-is ∙ ap (fault_or_none v) fine;
    shown = record {
      scalars = λ x lt e f. ap (λ gs. phase_value c gs x) globals-are ∙ shown.scalars x lt e f ∙ sym (scalar-stays x);
      locals = λ x lt e. shown.locals x lt e ∙ sym (scalar-stays x);
      properties = λ k lt y o. ap (λ fs. value_at fs (c.field y)) (node-after k lt) ∙ (settles k lt).values (slots.Node y k) (ap (λ b. b && c.is_kept y) (eq-eqb k k refl) ∙ o) ∙ value-at y k;
      widths = λ k lt. ap length (node-after k lt) ∙ (settles k lt).count ∙ shown.widths k lt;
      all_nodes = ap length fields-are ∙ numbers-long left (node_count g) 0;
      idle = sent-are;
    };
    others = λ i none. ap (λ gs. value_at gs i) globals-are;
    count = ap length globals-are;
  } where
    numbers-long : {A : Type 0} (f : ℕ → A) (m a : ℕ) → length (map f (numbers_from a m)) ≡ m
    numbers-long f zero a = refl
    numbers-long f (suc m) a = ap suc (numbers-long f m (suc a))

  pub takes-all : StepIs c v all p.registers fields g globals (unless_fault (least (total_faults r cs)) (Ok (settled_store r cs))) t
  takes-all = by (least (total_faults r cs)) refl where
    by : (o : Option Fault) → least (total_faults r cs) ≡ o → StepIs c v all p.registers fields g globals (unless_fault o (Ok (settled_store r cs))) t
    by None e = leaves-store e
    by (Some f) e = (fault-is ∙ ap (fault_or_none v) e, whole-spotted f (least-is (total_faults r cs) f e).is_in)

pub taking-blocks : TakingBlocksTake
taking-blocks c p fields base q kind all v g aways globals s r xs places rows fit block takes shown sent carried apart =
    takes-all c p fields base q kind all v g aways globals s r xs places rows fit block takes shown sent carried apart
