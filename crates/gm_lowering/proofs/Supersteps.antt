-- Where the steps of all vertices are the loop's iterations, one superstep of them is the loop.
use Rattle.std.proofs.Common.{◌≡◌, ◌≢◌, ◌<◌, ◌≤◌, inl, inr, ℕ, zero, suc, Bool, true, false, Option, Some, None, Ok, List, [], ◌∷◌, ◌++◌, length, map, refl, ap, ◌∙◌, sym, subst, arith, add-one, ⊎_elim}
use Rattle.std.specs.Prelude.{◌+◌, ◌&&◌, ◌||◌, nat_lt, if◌then◌else◌, slice_index_or}
use Rattle.std.specs.List.{list_all, flat_map, enumerate_from}
use Rattle.std.proofs.lemmas.Bool.{both_ways, ne_eqb, eq-eqb, ltb-true, lt-ltb, cases_lt}
use Rattle.gm_value.specs.declared.values.Value.{Value}
use Rattle.gm_value.specs.Bag.{IsIn}
use Rattle.gm_value.specs.Numbers.{zero_of}
use Rattle.gm_model.specs.Graphs.{NumberedGraph, node_count}
use Rattle.gm_ast.specs.declared.tree.Key.{Key}
use Rattle.gm_ast.specs.Program.{Expr, Stmt}
use Rattle.gm_forms.proofs.Named.{both-true}
use Rattle.gm_semantics.specs.declared.faults.Fault.{Fault}
use Rattle.gm_semantics.specs.declared.slots.Slot.{Slot}
use Rattle.gm_semantics.specs.declared.slots.Slot.TheVariants as slots
use Rattle.gm_semantics.specs.Contributions as S
use Rattle.gm_semantics.specs.Contributions.{Contribution, settled_store, total_faults}
use Rattle.gm_semantics.specs.Faults.{least, somes, joined, unless_fault}
use Rattle.gm_semantics.specs.Faults as F
use Rattle.gm_semantics.specs.Iterations.{Loop, Iteration}
use Rattle.gm_semantics.specs.Levels.{numbers_from, nodes}
use Rattle.gm_semantics.specs.Loops.{iteration, left_at, own_left, parallel}
use Rattle.gm_semantics.specs.Statements.{variable_at}
use Rattle.gm_semantics.specs.Stores.{Store, slot_eq, has_slot, read, overlaid}
use Rattle.gm_semantics.proofs.ContributionLaws.{slot_eq-true}
use Rattle.gm_semantics.proofs.Leasts.{lesser_of, least-append}
use Rattle.gm_semantics.proofs.TargetLaws.{value-away}
use Rattle.gm_image.specs.Parts.{is_among}
use Rattle.gm_image.specs.Program as image
use Rattle.gm_machine.specs.declared.faults.Fault as M
use Rattle.gm_machine.specs.Expressions.{value_at}
use Rattle.gm_machine.specs.Faults.{lesser, least_fault}
use Rattle.gm_machine.specs.Machine.{Nodes, Stepped, context_at, block_at, all_steps, stepped, superstep}
use Rattle.gm_machine.specs.Taking.{settled}
use Rattle.gm_machine.specs.Vertex.{After, vertex_after}
use Rattle.gm_machine.proofs.LeastLaws.{least_right, least_from-right}
use Rattle.gm_lowering.specs.Layouts.{Layout, is_global, is_register, has_value}
use Rattle.gm_lowering.specs.Places.{Spot, Segment, segment}
use Rattle.gm_lowering.specs.Terms.{Env, own_env}
use Rattle.gm_lowering.specs.Showing.{fault_of}
use Rattle.gm_lowering.specs.Sites.{slot_at, given, phase_value, OwnGave}
use Rattle.gm_lowering.specs.OwnLoops.{StepEnds}
use Rattle.gm_lowering.specs.Phases.{GlobalsApart, Shown, Leaves, StepIs, GivesApart, given_in}
use Rattle.gm_lowering.specs.Settles.{HasSpot, fault_or_none, AreHeld, AreGiven, SettlesAlike, spot_of_fault, HaveRoom}
use Rattle.gm_lowering.proofs.Orders.{lesser-lower}
use Rattle.gm_lowering.proofs.Own.{global-has_value, global-no_register}
use Rattle.gm_lowering.proofs.PutFacts.{here, IsPut}
use Rattle.gm_lowering.proofs.Settles.{least-is, least-none, total-spot, reductions-settle}
use Rattle.gm_lowering.proofs.Spots.{Has}

-- the least of faults that have spots, each of a part
pub least-parts : (v : Env) (spots : List Spot) → ((f g : Fault) → HasSpot (spot_of_fault f) spots → HasSpot (spot_of_fault g) spots → lesser (Some (fault_of v f)) (Some (fault_of v g)) ≡ Some (fault_of v (F.lower f g)))
    → (fs : List (Option Fault)) → ((f : Fault) → IsIn f (somes fs) → HasSpot (spot_of_fault f) spots)
    → least_right (map (fault_or_none v) fs) ≡ fault_or_none v (least (somes fs))
least-parts v spots low [] h = refl
least-parts v spots low (None ∷ fs) h =
    ap (lesser None) (least-parts v spots low fs h) ∙ none-first (least (somes fs)) where
      none-first : (o : Option Fault) → lesser None (fault_or_none v o) ≡ fault_or_none v o
      none-first None = refl
      none-first (Some f) = refl
least-parts v spots low (Some f ∷ fs) h =
    ap (lesser (Some (fault_of v f))) (least-parts v spots low fs (λ g i. h g (inr i))) ∙ by (least (somes fs)) refl where
      by : (o : Option Fault) → least (somes fs) ≡ o → lesser (Some (fault_of v f)) (fault_or_none v o) ≡ fault_or_none v (F.lesser f o)
      by None e = refl
      by (Some g) e = low f g (h f (inl refl)) (h g (inr (least-is (somes fs) g e).is_in))

-- of two parts
pub least-two : (v : Env) (spots : List Spot) → ((f g : Fault) → HasSpot (spot_of_fault f) spots → HasSpot (spot_of_fault g) spots → lesser (Some (fault_of v f)) (Some (fault_of v g)) ≡ Some (fault_of v (F.lower f g)))
    → (xs ys : List Fault) → ((f : Fault) → IsIn f xs → HasSpot (spot_of_fault f) spots) → ((f : Fault) → IsIn f ys → HasSpot (spot_of_fault f) spots)
    → lesser (fault_or_none v (least xs)) (fault_or_none v (least ys)) ≡ fault_or_none v (least (xs ++ ys))
least-two v spots low xs ys h k = by (least xs) (least ys) refl refl ∙ ap (fault_or_none v) (sym (least-append xs ys)) where
  by : (a b : Option Fault) → least xs ≡ a → least ys ≡ b → lesser (fault_or_none v a) (fault_or_none v b) ≡ fault_or_none v (lesser_of a b)
  by None None e f = refl
  by None (Some y) e f = refl
  by (Some x) None e f = refl
  by (Some x) (Some y) e f = low x y (h x (least-is xs x e).is_in) (k y (least-is ys y f).is_in)

-- what no list of such slots has
pub not-here : (p : Slot → Bool) (slot : Slot) (xs : List Slot) → list_all p xs ≡ true → p slot ≡ false → has_slot slot xs ≡ false
not-here p slot [] h e = refl
not-here p slot (x ∷ xs) h e =
    let q = both-true (p x) (list_all p xs) h in
    by (slot_eq slot x) refl (not-here p slot xs q.1 e) q.0 where
      by : (b : Bool) → slot_eq slot x ≡ b → has_slot slot xs ≡ false → p x ≡ true → b || has_slot slot xs ≡ false
      by true f rest o = absurd (both_ways (p slot) e (ap p (slot_eq-true slot x f) ∙ o))
      by false f rest o = rest

module _ (c : Layout) (p : image.Program) (fields base q : ℕ) (loop : Loop) (all : List Spot) (part : image.Block) (key : Key) (test : Expr) (body : Stmt) (globals : List Value) (s : Nodes) (r : Store)
    (gs : GlobalsApart c (length globals))
    (fit : HaveRoom base all (length p.places))
    (block : block_at p q ≡ part)
    (shown : Shown c p.registers fields loop.graph globals s r)
    (apart : GivesApart (given_in loop key test body r))
    (ends : (k : ℕ) → k < node_count loop.graph
    → StepEnds c (own_env c (segment base all) loop.outer) fields k (iteration loop key test body r k) (vertex_after p part (context_at loop.graph globals k) [] (slice_index_or s.fields k [])) (iteration loop key test body r k).fault)
    (iteration-left : (k : ℕ) → k < node_count loop.graph → Has (iteration loop key test body r k).fault all × ((x : Contribution) → IsIn x (iteration loop key test body r k).with_outermost → IsPut c all x)) where
  abbrev n : ℕ
  n = loop.outer

  abbrev g : NumberedGraph
  g = loop.graph

  abbrev seg : Segment
  seg = segment base all

  abbrev v : Env
  v = own_env c seg n

  abbrev it : ℕ → Iteration
  it k = iteration loop key test body r k

  abbrev one_step : ℕ × List Value → After
  one_step x = vertex_after p (part) (context_at g globals x.0) [] x.1

  abbrev Ends : ℕ → After → Type 0
  Ends k a = StepEnds c v fields k (it k) a (it k).fault

  -- the parts of an ending
  fault-part : (k : ℕ) (a : After) (o : Option Fault) → StepEnds c v fields k (it k) a o → a.fault ≡ fault_or_none v o
  fault-part k a None e = e.0
  fault-part k a (Some f) e = e.0

  gave-part : (k : ℕ) (a : After) (o : Option Fault) → StepEnds c v fields k (it k) a o → OwnGave c v (it k) a.state
  gave-part k a None e = e.3
  gave-part k a (Some f) e = e.1

  -- all nodes from one on end as they should
  abbrev AllEnd : ℕ → List (List Value) → Type 0
  AllEnd k [] = Unit {0}
  AllEnd k (fs ∷ fss) = Ends k (one_step (k, fs)) × AllEnd (suc k) fss

  all-end : (k : ℕ) (fss : List (List Value)) → k + length fss ≤ node_count g → ((j : ℕ) → slice_index_or s.fields (k + j) [] ≡ slice_index_or fss j []) → AllEnd k fss
  all-end k [] le e = tt
  all-end k (fs ∷ fss) le e = (
    subst (λ x. Ends k (one_step (k, x))) (ap (λ j. slice_index_or s.fields j []) (let z : k ≡ k + 0 = omega arith in z) ∙ e 0) (ends k (omega arith)),
    all-end (suc k) fss (omega arith) (λ j. ap (λ i. slice_index_or s.fields i []) (let z : suc k + j ≡ k + suc j = omega arith in z) ∙ e (suc j)),
  )

  abbrev steps_from : ℕ → List (List Value) → List After
  steps_from k fss = map one_step (enumerate_from k fss)

  abbrev its_from : ℕ → ℕ → List Iteration
  its_from k m = map it (numbers_from k m)

  next-steps : (k : ℕ) (fss : List (List Value)) → steps_from (k + 1) fss ≡ steps_from (suc k) fss
  next-steps k fss = ap (λ j. steps_from j fss) (add-one k)

  faults-all : (k : ℕ) (fss : List (List Value)) → AllEnd k fss → map (λ a. a.fault) (steps_from k fss) ≡ map (fault_or_none v) (map (λ i. i.fault) (its_from k (length fss)))
  faults-all k [] h = refl
  faults-all k (fs ∷ fss) h =
      ap (λ as'. (one_step (k, fs)).fault ∷ map (λ a. a.fault) as') (next-steps k fss)
      ∙ ap (λ o. o ∷ map (λ a. a.fault) (steps_from (suc k) fss)) (fault-part k (one_step (k, fs)) (it k).fault h.0)
      ∙ ap (λ os. fault_or_none v (it k).fault ∷ os) (faults-all (suc k) fss h.1)

  map-append : {A B : Type 0} (f : A → B) (xs ys : List A) → map f (xs ++ ys) ≡ map f xs ++ map f ys
  map-append f [] ys = refl
  map-append f (x ∷ xs) ys = ap (λ l. f x ∷ l) (map-append f xs ys)

  puts-all : (k : ℕ) (fss : List (List Value)) → AllEnd k fss → flat_map (λ a. a.state.puts) (steps_from k fss) ≡ map (given c v) (joined (map (λ i. i.with_outermost) (its_from k (length fss))))
  puts-all k [] h = refl
  puts-all k (fs ∷ fss) h =
      ap (λ as'. (one_step (k, fs)).state.puts ++ flat_map (λ a. a.state.puts) as') (next-steps k fss)
      ∙ ap (λ ps. ps ++ flat_map (λ a. a.state.puts) (steps_from (suc k) fss)) (gave-part k (one_step (k, fs)) (it k).fault h.0).puts
      ∙ ap (λ ps. map (given c v) (it k).with_outermost ++ ps) (puts-all (suc k) fss h.1)
      ∙ sym (map-append (given c v) (it k).with_outermost (joined (map (λ i. i.with_outermost) (its_from (suc k) (length fss)))))

  sent-all : (k : ℕ) (fss : List (List Value)) → AllEnd k fss → flat_map (λ a. a.state.messages) (steps_from k fss) ≡ []
  sent-all k [] h = refl
  sent-all k (fs ∷ fss) h =
      ap (λ as'. (one_step (k, fs)).state.messages ++ flat_map (λ a. a.state.messages) as') (next-steps k fss)
      ∙ ap (λ ps. ps ++ flat_map (λ a. a.state.messages) (steps_from (suc k) fss)) (gave-part k (one_step (k, fs)) (it k).fault h.0).messages
      ∙ sent-all (suc k) fss h.1

  deferred-all : (k : ℕ) (fss : List (List Value)) → AllEnd k fss → joined (map (λ i. i.deferred) (its_from k (length fss))) ≡ []
  deferred-all k [] h = refl
  deferred-all k (fs ∷ fss) h =
      ap (λ ds. ds ++ joined (map (λ i. i.deferred) (its_from (suc k) (length fss)))) (gave-part k (one_step (k, fs)) (it k).fault h.0).deferred ∙ deferred-all (suc k) fss h.1

  steps-length : (k : ℕ) (fss : List (List Value)) → length (map (λ a. a.state.fields) (steps_from k fss)) ≡ length fss
  steps-length k [] = refl
  steps-length k (fs ∷ fss) = ap suc (steps-length (k + 1) fss)

  -- the fields of a node after the step
  fields-at : (k : ℕ) (fss : List (List Value)) (j : ℕ) → j < length fss → slice_index_or (map (λ a. a.state.fields) (steps_from k fss)) j [] ≡ (one_step (k + j, slice_index_or fss j [])).state.fields
  fields-at k [] j lt = absurd (omega arith)
  fields-at k (fs ∷ fss) zero lt = ap (λ i. (one_step (i, fs)).state.fields) (let z : k ≡ k + 0 = omega arith in z)
  fields-at k (fs ∷ fss) (suc j) lt =
      fields-at (k + 1) fss j (omega arith) ∙ ap (λ i. (one_step (i, slice_index_or fss j [])).state.fields) (let z : (k + 1) + j ≡ k + suc j = omega arith in z)

  -- all iterations
  abbrev its : List Iteration
  its = map it (nodes g)

  abbrev contributions : List Contribution
  contributions = joined (map (λ i. i.with_outermost) its)

  in-joined : (a m : ℕ) (x : Contribution) → a + m ≤ node_count g → IsIn x (joined (map (λ i. i.with_outermost) (its_from a m))) → IsPut c all x
  in-joined a zero x le i = absurd i
  in-joined a (suc m) x le i = split (it a).with_outermost (iteration-left a (omega arith)).1 (λ j. in-joined (suc a) m x (omega arith) j) i where
    split : (xs : List Contribution) → ((y : Contribution) → IsIn y xs → IsPut c all y)
        → (IsIn x (joined (map (λ i. i.with_outermost) (its_from (suc a) m))) → IsPut c all x) → IsIn x (xs ++ joined (map (λ i. i.with_outermost) (its_from (suc a) m))) → IsPut c all x
    split [] h go i = go i
    split (y ∷ xs) h go i = ⊎_elim (λ (e : x ≡ y). h x (inl e)) (λ (j : IsIn x (xs ++ joined (map (λ i. i.with_outermost) (its_from (suc a) m)))). split xs (λ z k. h z (inr k)) go j) i

  put-all : (x : Contribution) → IsIn x contributions → IsPut c all x
  put-all x i = in-joined 0 (node_count g) x (omega arith) i

  fault-spots : (a m : ℕ) (f : Fault) → a + m ≤ node_count g → IsIn f (somes (map (λ i. i.fault) (its_from a m))) → HasSpot (spot_of_fault f) all
  fault-spots a zero f le i = absurd i
  fault-spots a (suc m) f le i = by (it a).fault (iteration-left a (omega arith)).0 (λ j. fault-spots (suc a) m f (omega arith) j) i where
    by : (o : Option Fault) → Has o all → (IsIn f (somes (map (λ i. i.fault) (its_from (suc a) m))) → HasSpot (spot_of_fault f) all) → IsIn f (somes (o ∷ map (λ i. i.fault) (its_from (suc a) m))) → HasSpot (spot_of_fault f) all
    by None h go i = go i
    by (Some y) h go i = ⊎_elim (λ (e : f ≡ y). subst (λ z. HasSpot (spot_of_fault z) all) (sym e) h) (λ (j : IsIn f (somes (map (λ i. i.fault) (its_from (suc a) m)))). go j) i

  -- what each node holds after its own iteration
  own-at : (a m k x : ℕ) → a ≤ k → k < a + m → left_at (numbers_from a m) (its_from a m) r x k ≡ (it k).store.node x k
  own-at a zero k x le lt = absurd (omega arith)
  own-at a (suc m) k x le lt =
      ⊎_elim
      (λ (l : a < k). ap (λ b. if b then (it a).store.node x k else left_at (numbers_from (suc a) m) (its_from (suc a) m) r x k) (ne_eqb a k (λ e. omega arith)) ∙ own-at (suc a) m k x (omega arith) (omega arith))
      (λ (l : k ≤ a).
      let same : a ≡ k = omega arith in
      ap (λ b. if b then (it a).store.node x k else left_at (numbers_from (suc a) m) (its_from (suc a) m) r x k) (eq-eqb a k same) ∙ ap (λ z. (it z).store.node x k) same)
      (cases_lt a k)

  abbrev own : Store
  own = own_left r (nodes g) its

  -- the superstep
  abbrev after : Stepped
  after = superstep p g q globals s

  every : AllEnd 0 s.fields
  every = all-end 0 s.fields (subst (λ m. 0 + m ≤ node_count g) (sym shown.all_nodes) (omega arith)) (λ j. ap (λ i. slice_index_or s.fields i []) (let z : 0 + j ≡ j = omega arith in z))

  steps-are : all_steps p g (block_at p q) globals s.sent s.fields ≡ steps_from 0 s.fields
  steps-are = ap (λ b. all_steps p g b globals s.sent s.fields) block ∙ ap (λ m. all_steps p g part globals m s.fields) shown.idle

  after-is : after ≡ stepped (length p.places) globals s (steps_from 0 s.fields)
  after-is = ap (stepped (length p.places) globals s) steps-are

  its-are : its_from 0 (length s.fields) ≡ its
  its-are = ap (its_from 0) shown.all_nodes

  puts-are : flat_map (λ a. a.state.puts) (steps_from 0 s.fields) ≡ map (given c v) contributions
  puts-are = puts-all 0 s.fields every ∙ ap (λ is'. map (given c v) (joined (map (λ i. i.with_outermost) is'))) its-are

  held-globals : AreHeld c own globals (here c)
  held-globals = record { holds = holds; within = within; apart = unlike } where
    holds : (slot : Slot) → here c slot ≡ true → value_at globals (slot_at c slot) ≡ read own slot
    holds (slots.Scalar x) o =
        let t = both-true (nat_lt x (length c.declarations)) (is_global (variable_at c.declarations x)) o in
        sym (ap (λ b. if b then value_at globals (c.global x) else zero_of (variable_at c.declarations x).vtype) t.1)
        ∙ shown.scalars x (ltb-true x (length c.declarations) t.0) (global-no_register (variable_at c.declarations x) t.1) (global-has_value (variable_at c.declarations x) t.1)
    holds (slots.Node y k) o = absurd (both_ways false refl o)

    within : (slot : Slot) → here c slot ≡ true → slot_at c slot < length globals
    within (slots.Scalar x) o =
        let t = both-true (nat_lt x (length c.declarations)) (is_global (variable_at c.declarations x)) o in gs.within x (ltb-true x (length c.declarations) t.0) t.1
    within (slots.Node y k) o = absurd (both_ways false refl o)

    unlike : (a b : Slot) → here c a ≡ true → here c b ≡ true → slot_at c a ≡ slot_at c b → a ≡ b
    unlike (slots.Scalar x) (slots.Scalar y) o o' e =
        let t = both-true (nat_lt x (length c.declarations)) (is_global (variable_at c.declarations x)) o in
        let u = both-true (nat_lt y (length c.declarations)) (is_global (variable_at c.declarations y)) o' in
        ap slots.Scalar (gs.apart x y (ltb-true x (length c.declarations) t.0) (ltb-true y (length c.declarations) u.0) t.1 u.1 e)
    unlike (slots.Scalar x) (slots.Node y k) o o' e = absurd (both_ways false refl o')
    unlike (slots.Node y k) b o o' e = absurd (both_ways false refl o)

  given-good : AreGiven contributions (here c) all
  given-good = record {
    one = apart.one;
    here_all = λ x i. (put-all x i).here_all;
    not_empty = λ x i. (put-all x i).not_empty;
    one_total = apart.one_total;
    spotted = λ x i. (put-all x i).spotted;
  }

  settles : SettlesAlike c v (length p.places) own globals (here c) contributions
  settles = reductions-settle c v base (length p.places) all own globals (here c) contributions refl fit held-globals given-good

  low : (f h : Fault) → HasSpot (spot_of_fault f) all → HasSpot (spot_of_fault h) all → lesser (Some (fault_of v f)) (Some (fault_of v h)) ≡ Some (fault_of v (F.lower f h))
  low f h a b = lesser-lower v base all refl f h a b

  abbrev own_faults : List Fault
  own_faults = somes (map (λ i. i.fault) its)

  abbrev totals : List Fault
  totals = total_faults own contributions

  put-fault : (settled (length p.places) (flat_map (λ a. a.state.puts) (steps_from 0 s.fields)) globals).fault ≡ fault_or_none v (least totals)
  put-fault = ap (λ ps. (settled (length p.places) ps globals).fault) puts-are ∙ settles.fault

  vertex-fault : least_fault (map (λ a. a.fault) (steps_from 0 s.fields)) ≡ fault_or_none v (least own_faults)
  vertex-fault =
      ap least_fault (faults-all 0 s.fields every ∙ ap (λ is'. map (fault_or_none v) (map (λ i. i.fault) is')) its-are)
      ∙ least_from-right None (map (fault_or_none v) (map (λ i. i.fault) its))
      ∙ none-first (least_right (map (fault_or_none v) (map (λ i. i.fault) its)))
      ∙ least-parts v all low (map (λ i. i.fault) its) (λ f i. fault-spots 0 (node_count g) f (omega arith) i) where
        none-first : (o : Option M.Fault) → lesser None o ≡ o
        none-first o = refl

  -- the faults are among the spots
  own-spotted : (f : Fault) → IsIn f own_faults → HasSpot (spot_of_fault f) all
  own-spotted f i = fault-spots 0 (node_count g) f (omega arith) i

  total-spotted : (f : Fault) → IsIn f totals → HasSpot (spot_of_fault f) all
  total-spotted f i = total-spot c v base (length p.places) all own globals (here c) contributions refl fit held-globals given-good f i

  either-spotted : (f : Fault) (xs : List Fault) → ((g : Fault) → IsIn g xs → HasSpot (spot_of_fault g) all) → IsIn f (xs ++ totals) → HasSpot (spot_of_fault f) all
  either-spotted f [] h i = total-spotted f i
  either-spotted f (x ∷ xs) h i = ⊎_elim (λ (e : f ≡ x). h f (inl e)) (λ (j : IsIn f (xs ++ totals)). either-spotted f xs (λ g k. h g (inr k)) j) i

  fault-is : after.fault ≡ fault_or_none v (least (own_faults ++ totals))
  fault-is =
      ap (λ t. t.fault) after-is
      ∙ ap (λ o. lesser o (settled (length p.places) (flat_map (λ a. a.state.puts) (steps_from 0 s.fields)) globals).fault) vertex-fault
      ∙ ap (lesser (fault_or_none v (least own_faults))) put-fault
      ∙ least-two v all low own_faults totals own-spotted total-spotted

  -- the globals after it
  globals-are : after.globals ≡ (settled (length p.places) (map (given c v) contributions) globals).values
  globals-are = ap (λ t. t.globals) after-is ∙ ap (λ ps. (settled (length p.places) ps globals).values) puts-are

  fields-are : after.nodes.fields ≡ map (λ a. a.state.fields) (steps_from 0 s.fields)
  fields-are = ap (λ t. t.nodes.fields) after-is

  sent-are : after.nodes.sent ≡ []
  sent-are = ap (λ t. t.nodes.sent) after-is ∙ sent-all 0 s.fields every

  node-at : (k : ℕ) → k < node_count g → slice_index_or after.nodes.fields k [] ≡ (one_step (k, slice_index_or s.fields k [])).state.fields
  node-at k lt =
      ap (λ fss. slice_index_or fss k []) fields-are
      ∙ fields-at 0 s.fields k (subst (λ m. k < m) (sym shown.all_nodes) lt)
      ∙ ap (λ i. (one_step (i, slice_index_or s.fields k [])).state.fields) (let z : 0 + k ≡ k = omega arith in z)

  -- the store that the loop leaves
  abbrev left : Store
  left = settled_store own contributions

  away : (slot : Slot) → here c slot ≡ false → S.value_after own contributions slot ≡ read own slot
  away slot e = value-away own slot contributions (λ x i. not-here (here c) slot x.slots (put-all x i).here_all e)

  and-false : (a b : Bool) → b ≡ false → a && b ≡ false
  and-false true b e = e
  and-false false b e = refl

  register-no_global : (x : ℕ) → is_register (variable_at c.declarations x) ≡ true → is_global (variable_at c.declarations x) ≡ false
  register-no_global x e = by (is_global (variable_at c.declarations x)) refl where
    by : (b : Bool) → is_global (variable_at c.declarations x) ≡ b → b ≡ false
    by true f = absurd (both_ways (is_register (variable_at c.declarations x)) (global-no_register (variable_at c.declarations x) f) e)
    by false f = refl

  not-here-scalar : (x : ℕ) → is_global (variable_at c.declarations x) ≡ false → here c (slots.Scalar x) ≡ false
  not-here-scalar x e = and-false (nat_lt x (length c.declarations)) (is_global (variable_at c.declarations x)) e

  module _ (fine : least (own_faults ++ totals) ≡ None) where
    no-fault : (k : ℕ) → k < node_count g → (it k).fault ≡ None
    no-fault k lt = by (it k).fault refl where
      in-own : (a m : ℕ) (f : Fault) → a ≤ k → k < a + m → (it k).fault ≡ Some f → IsIn f (somes (map (λ i. i.fault) (its_from a m)))
      in-own a zero f le l e = absurd (omega arith)
      in-own a (suc m) f le l e =
          ⊎_elim
          (λ (less : a < k). past (it a).fault (in-own (suc a) m f (omega arith) (omega arith) e))
          (λ (more : k ≤ a). let same : a ≡ k = omega arith in subst (λ o. IsIn f (somes (o ∷ map (λ i. i.fault) (its_from (suc a) m)))) (sym (ap (λ z. (it z).fault) same ∙ e)) (inl refl))
          (cases_lt a k) where
            past : (o : Option Fault) → IsIn f (somes (map (λ i. i.fault) (its_from (suc a) m))) → IsIn f (somes (o ∷ map (λ i. i.fault) (its_from (suc a) m)))
            past None i = i
            past (Some y) i = inr i

      front : (f : Fault) (xs ys : List Fault) → IsIn f xs → IsIn f (xs ++ ys)
      front f [] ys i = absurd i
      front f (x ∷ xs) ys i = ⊎_elim (λ (e : f ≡ x). inl e) (λ (j : IsIn f xs). inr (front f xs ys j)) i

      by : (o : Option Fault) → (it k).fault ≡ o → o ≡ None
      by None e = refl
      by (Some f) e = absurd (least-none (own_faults ++ totals) fine f (front f own_faults totals (in-own 0 (node_count g) f (omega arith) (omega arith) e)))

    end-at : (k : ℕ) → k < node_count g → StepEnds c v fields k (it k) (one_step (k, slice_index_or s.fields k [])) None
    end-at k lt = subst (StepEnds c v fields k (it k) (one_step (k, slice_index_or s.fields k []))) (no-fault k lt) (ends k lt)

    leaves : Leaves c p.registers fields g globals left after
    leaves = record {
      fine = fault-is ∙ ap (fault_or_none v) fine;
      shown = record {
        scalars = scalars;
        locals = λ x lt e. shown.locals x lt e ∙ sym (away (slots.Scalar x) (not-here-scalar x (register-no_global x e)));
        properties = λ k lt x o.
            ap (λ fs. value_at fs (c.field x)) (node-at k lt)
            ∙ (end-at k lt).1 x o
            ∙ sym (own-at 0 (node_count g) k x (omega arith) (omega arith))
            ∙ sym (away (slots.Node x k) refl);
        widths = λ k lt. ap length (node-at k lt) ∙ (end-at k lt).2;
        all_nodes = ap length fields-are ∙ steps-length 0 s.fields ∙ shown.all_nodes;
        idle = sent-are;
      };
      others = λ i none. ap (λ vs. value_at vs i) globals-are ∙ settles.others i (λ x j. none-has i none x.slots (put-all x j).here_all);
      count = ap length globals-are ∙ settles.count;
    } where
      scalars : (x : ℕ) → x < length c.declarations → is_register (variable_at c.declarations x) ≡ false → has_value (variable_at c.declarations x) ≡ true → phase_value c after.globals x ≡ left.scalar x
      scalars x lt e f = by (is_global (variable_at c.declarations x)) refl where
        by : (b : Bool) → is_global (variable_at c.declarations x) ≡ b → (if b then value_at after.globals (c.global x) else zero_of (variable_at c.declarations x).vtype) ≡ left.scalar x
        by true o =
            ap (λ vs. value_at vs (c.global x)) globals-are
            ∙ settles.values (slots.Scalar x) (ap (λ b. b && is_global (variable_at c.declarations x)) (lt-ltb x (length c.declarations) lt) ∙ o)
        by false o =
            sym (ap (λ b. if b then value_at globals (c.global x) else zero_of (variable_at c.declarations x).vtype) o)
            ∙ shown.scalars x lt e f ∙ sym (away (slots.Scalar x) (not-here-scalar x o))

      none-has : (i : ℕ) → ((x : ℕ) → x < length c.declarations → is_global (variable_at c.declarations x) ≡ true → c.global x ≢ i) → (xs : List Slot) → list_all (here c) xs ≡ true → is_among i (map (slot_at c) xs) ≡ false
      none-has i none [] h = refl
      none-has i none (slots.Scalar x ∷ xs) h =
          let t = both-true (here c (slots.Scalar x)) (list_all (here c) xs) h in
          let u = both-true (nat_lt x (length c.declarations)) (is_global (variable_at c.declarations x)) t.0 in
          ap (λ b. b || is_among i (map (slot_at c) xs)) (ne_eqb (c.global x) i (none x (ltb-true x (length c.declarations) u.0) u.1)) ∙ none-has i none xs t.1
      none-has i none (slots.Node x k ∷ xs) h = absurd (both_ways false refl h)

  pub loop-of-steps : StepIs c v all p.registers fields g globals (parallel loop key test body (nodes g) r) after
  loop-of-steps = by (least (own_faults ++ totals)) refl where
    deferred : joined (map (λ i. i.deferred) its) ≡ []
    deferred = ap (λ is'. joined (map (λ i. i.deferred) is')) (sym its-are) ∙ deferred-all 0 s.fields every

    by : (o : Option Fault) → least (own_faults ++ totals) ≡ o → StepIs c v all p.registers fields g globals (parallel loop key test body (nodes g) r) after
    by None e =
        subst (λ q. StepIs c v all p.registers fields g globals q after)
        (sym (ap (λ o. unless_fault o (Ok (overlaid left (joined (map (λ i. i.deferred) its))))) e ∙ ap (λ ds. Ok (overlaid left ds)) deferred)) (leaves e)
    by (Some f) e =
        subst (λ q. StepIs c v all p.registers fields g globals q after)
        (sym (ap (λ o. unless_fault o (Ok (overlaid left (joined (map (λ i. i.deferred) its))))) e))
        (fault-is ∙ ap (fault_or_none v) e, either-spotted f own_faults own-spotted (least-is (own_faults ++ totals) f e).is_in)
