-- The step of a vertex whose handlers do what turns do takes what these give.
use Rattle.std.proofs.Common.{◌≡◌, ◌<◌, inl, inr, ℕ, Bool, true, false, cond, Option, Some, None, List, [], ◌∷◌, ◌++◌, length, map, refl, ap, ◌∙◌, sym, subst, ⊎_elim}
use Rattle.std.specs.Prelude.{◌&&◌, nat_eq, not, filter}
use Rattle.std.specs.List.{flat_map}
use Rattle.std.proofs.lemmas.Bool.{both_ways, eq-eqb, eqb-true}
use Rattle.gm_value.specs.declared.values.Value.{Value}
use Rattle.gm_value.specs.Bag.{IsIn}
use Rattle.gm_model.specs.Graphs.{Step}
use Rattle.gm_forms.proofs.Named.{both-true}
use Rattle.gm_semantics.specs.declared.faults.Fault.{Fault}
use Rattle.gm_semantics.specs.declared.slots.Slot.{Slot}
use Rattle.gm_semantics.specs.declared.slots.Slot.TheVariants as slots
use Rattle.gm_semantics.specs.Contributions.{Contribution, value_after, total_faults}
use Rattle.gm_semantics.specs.Faults.{least, somes, joined}
use Rattle.gm_semantics.specs.Faults as F
use Rattle.gm_semantics.specs.Stores.{Store, read}
use Rattle.gm_semantics.proofs.ContributionLaws.{IsIn-filter}
use Rattle.gm_image.specs.Program as image
use Rattle.gm_machine.specs.declared.faults.Fault as M
use Rattle.gm_machine.specs.Expressions.{value_at}
use Rattle.gm_machine.specs.Faults.{lesser, least_fault}
use Rattle.gm_machine.specs.Taking.{settled}
use Rattle.gm_machine.specs.Vertex.{Message, VertexContext, VertexState, After, goes_on, ended, body_after, handler_run, gathered, begun as begin, vertex_after}
use Rattle.gm_machine.proofs.LeastLaws.{least_right, least_from-right}
use Rattle.gm_lowering.specs.Layouts.{Layout}
use Rattle.gm_lowering.specs.Places.{Spot, segment, place_index}
use Rattle.gm_lowering.specs.Terms.{Env}
use Rattle.gm_lowering.specs.Showing.{fault_of}
use Rattle.gm_lowering.specs.Sites.{slot_at, given, HoldProperties, IsApart}
use Rattle.gm_lowering.specs.MessageLoops.{is_to_scalars, is_to_nodes}
use Rattle.gm_lowering.specs.Phases.{GivesApart}
use Rattle.gm_lowering.specs.Settles.{HasSpot, fault_or_none, AreHeld, AreGiven, SettlesAlike, spot_of_fault, HaveRoom}
use Rattle.gm_lowering.proofs.FoldFacts.{IsReceived}
use Rattle.gm_lowering.proofs.Givens.{here_at}
use Rattle.gm_lowering.proofs.Orders.{lesser-lower}
use Rattle.gm_lowering.proofs.Supersteps.{least-parts, least-two}
use Rattle.gm_lowering.proofs.Settles.{total-spot, reductions-settle}
use Rattle.gm_lowering.proofs.Spots.{Has}

map-both : {A B : Type 0} (f : A → B) (xs ys : List A) → map f (xs ++ ys) ≡ map f xs ++ map f ys
map-both f [] ys = refl
map-both f (x ∷ xs) ys = ap (λ l. f x ∷ l) (map-both f xs ys)

pub filter-both : {A : Type 0} (p : A → Bool) (xs ys : List A) → filter p (xs ++ ys) ≡ filter p xs ++ filter p ys
filter-both p [] ys = refl
filter-both p (x ∷ xs) ys = by (p x) (filter-both p xs ys) where
  by : (b : Bool) → filter p (xs ++ ys) ≡ filter p xs ++ filter p ys → cond b (x ∷ filter p (xs ++ ys)) (filter p (xs ++ ys)) ≡ cond b (x ∷ filter p xs) (filter p xs) ++ filter p ys
  by true e = ap (λ l. x ∷ l) e
  by false e = e

-- what a step takes: its fields hold what is left at its node, it has put what goes to scalars, its fault is the least of the turns' and of the totals at its node, and what it sends is told
pub record Takes (c : Layout) (v : Env) (fields j : ℕ) (r : Store) (contributions : List Contribution) (faults : List Fault) (Sends : List Message → Type 0) (a : After) : Type 0 where
  pub fault : a.fault ≡ fault_or_none v (least (faults ++ total_faults r (filter is_to_nodes contributions)))
  pub puts : a.state.puts ≡ map (given c v) (filter is_to_scalars contributions)
  pub messages : Sends a.state.messages
  pub properties : (p : ℕ) → c.is_kept p ≡ true → value_at a.state.fields (c.field p) ≡ value_after r (filter is_to_nodes contributions) (slots.Node p j)
  pub field_count : length a.state.fields ≡ fields

-- the run of a handler has put and folded what its turn gives, has sent what is told, and has its fault; which has a spot, and what it gives is received
pub record Ran (c : Layout) (v : Env) (all : List Spot) (j : ℕ) (contributions : List Contribution) (fault_is : Option Fault) (Sends : List Message → Type 0) (a : After) : Type 0 where
  pub fault : a.fault ≡ fault_or_none v fault_is
  pub puts : a.state.puts ≡ map (given c v) (filter is_to_scalars contributions)
  pub folds : a.state.folds ≡ map (given c v) (filter is_to_nodes contributions)
  pub messages : Sends a.state.messages
  pub spotted : Has fault_is all
  pub received : (y : Contribution) → IsIn y contributions → IsReceived c j all y

-- what is sent for turns is told turn by turn
pub record Joins (Sent : List (ℕ × Step) → List Message → Type 0) : Type 0 where
  pub nothing : Sent [] []
  pub both : (xs ys : List (ℕ × Step)) (ms ns : List Message) → Sent xs ms → Sent ys ns → Sent (xs ++ ys) (ms ++ ns)

module _ (c : Layout) (v : Env) (p : image.Program) (fields base : ℕ) (all : List Spot) (s : VertexContext) (hs : List image.Handler) (fs : List Value) (j : ℕ) (r : Store)
    (message : ℕ × Step → Message) (given_at : ℕ × Step → List Contribution) (fault_at : ℕ × Step → Option Fault) (Sent : List (ℕ × Step) → List Message → Type 0) (join : Joins Sent)
    (rows : IsApart c (length p.registers) fields)
    (place : v.place ≡ place_index (segment base all))
    (fit : HaveRoom base all (length p.places))
    (properties : HoldProperties c fs j r)
    (count : length fs ≡ fields) where
  abbrev first : VertexState
  first = begin p.registers fs

  abbrev run : ℕ × Step → After
  run x = handler_run s hs first (message x)

  abbrev pub RanAt : ℕ × Step → Type 0
  RanAt x = Ran c v all j (given_at x) (fault_at x) (λ ms. Sent (x ∷ []) ms) (run x)

  abbrev pub AllRan : List (ℕ × Step) → Type 0
  AllRan xs = (x : ℕ × Step) → IsIn x xs → RanAt x

  abbrev given_by : List (ℕ × Step) → List Contribution
  given_by xs = joined (map given_at xs)

  abbrev faults_by : List (ℕ × Step) → List Fault
  faults_by xs = somes (map fault_at xs)

  abbrev runs : List (ℕ × Step) → List After
  runs xs = map (handler_run s hs first) (map message xs)

  faults-all : (xs : List (ℕ × Step)) → AllRan xs → map (λ a. a.fault) (runs xs) ≡ map (fault_or_none v) (map fault_at xs)
  faults-all [] h = refl
  faults-all (x ∷ xs) h =
      ap (λ o. o ∷ map (λ a. a.fault) (runs xs)) (h x (inl refl)).fault ∙ ap (λ os. fault_or_none v (fault_at x) ∷ os) (faults-all xs (λ y k. h y (inr k)))

  parts-all : (test' : Contribution → Bool) (x : ℕ × Step) (xs : List (ℕ × Step)) → map (given c v) (filter test' (given_at x)) ++ map (given c v) (filter test' (given_by xs)) ≡ map (given c v) (filter test' (given_by (x ∷ xs)))
  parts-all test' x xs = sym (map-both (given c v) (filter test' (given_at x)) (filter test' (given_by xs))) ∙ ap (map (given c v)) (sym (filter-both test' (given_at x) (given_by xs)))

  puts-all : (xs : List (ℕ × Step)) → AllRan xs → flat_map (λ a. a.state.puts) (runs xs) ≡ map (given c v) (filter is_to_scalars (given_by xs))
  puts-all [] h = refl
  puts-all (x ∷ xs) h =
      ap (λ ps. ps ++ flat_map (λ a. a.state.puts) (runs xs)) (h x (inl refl)).puts
      ∙ ap (λ ps. map (given c v) (filter is_to_scalars (given_at x)) ++ ps) (puts-all xs (λ y k. h y (inr k)))
      ∙ parts-all is_to_scalars x xs

  folds-all : (xs : List (ℕ × Step)) → AllRan xs → flat_map (λ a. a.state.folds) (runs xs) ≡ map (given c v) (filter is_to_nodes (given_by xs))
  folds-all [] h = refl
  folds-all (x ∷ xs) h =
      ap (λ ps. ps ++ flat_map (λ a. a.state.folds) (runs xs)) (h x (inl refl)).folds
      ∙ ap (λ ps. map (given c v) (filter is_to_nodes (given_at x)) ++ ps) (folds-all xs (λ y k. h y (inr k)))
      ∙ parts-all is_to_nodes x xs

  sent-all : (xs : List (ℕ × Step)) → AllRan xs → Sent xs (flat_map (λ a. a.state.messages) (runs xs))
  sent-all [] h = join.nothing
  sent-all (x ∷ xs) h = join.both (x ∷ []) xs (run x).state.messages (flat_map (λ a. a.state.messages) (runs xs)) (h x (inl refl)).messages (sent-all xs (λ y k. h y (inr k)))

  -- what turns give is received
  pub received : (xs : List (ℕ × Step)) → AllRan xs → (y : Contribution) → IsIn y (given_by xs) → IsReceived c j all y
  received [] h y z = absurd z
  received (x ∷ xs) h y z = split (given_at x) (h x (inl refl)).received (λ w. received xs (λ a b. h a (inr b)) y w) z where
    split : (ys : List Contribution) → ((a : Contribution) → IsIn a ys → IsReceived c j all a) → (IsIn y (given_by xs) → IsReceived c j all y) → IsIn y (ys ++ given_by xs) → IsReceived c j all y
    split [] q go z = go z
    split (a ∷ ys) q go z = ⊎_elim (λ (e : y ≡ a). q y (inl e)) (λ (w : IsIn y (ys ++ given_by xs)). split ys (λ b d. q b (inr d)) go w) z

  fault-spots : (xs : List (ℕ × Step)) → AllRan xs → (f : Fault) → IsIn f (faults_by xs) → HasSpot (spot_of_fault f) all
  fault-spots [] h f z = absurd z
  fault-spots (x ∷ xs) h f z = by (fault_at x) (h x (inl refl)).spotted (λ w. fault-spots xs (λ a b. h a (inr b)) f w) z where
    by : (o : Option Fault) → Has o all → (IsIn f (faults_by xs) → HasSpot (spot_of_fault f) all) → IsIn f (somes (o ∷ map fault_at xs)) → HasSpot (spot_of_fault f) all
    by None q go z = go z
    by (Some a) q go z = ⊎_elim (λ (e : f ≡ a). subst (λ b. HasSpot (spot_of_fault b) all) (sym e) q) (λ (w : IsIn f (faults_by xs)). go w) z

  -- the properties of the node are in its fields
  held-fields : AreHeld c r fs (here_at c j)
  held-fields = record { holds = holds; within = within; apart = unlike } where
    at-node : (k p' : ℕ) → nat_eq k j && c.is_kept p' ≡ true → (k ≡ j) × (c.is_kept p' ≡ true)
    at-node k p' o = let t = both-true (nat_eq k j) (c.is_kept p') o in (eqb-true k j t.0, t.1)

    holds : (slot : Slot) → here_at c j slot ≡ true → value_at fs (slot_at c slot) ≡ read r slot
    holds (slots.Scalar x) o = absurd (both_ways false refl o)
    holds (slots.Node q k) o = let t = at-node k q o in properties q t.1 ∙ ap (r.node q) (sym t.0)

    within : (slot : Slot) → here_at c j slot ≡ true → slot_at c slot < length fs
    within (slots.Scalar x) o = absurd (both_ways false refl o)
    within (slots.Node q k) o = let t = at-node k q o in subst (λ m. c.field q < m) (sym count) (rows.field_within q t.1)

    unlike : (a b : Slot) → here_at c j a ≡ true → here_at c j b ≡ true → slot_at c a ≡ slot_at c b → a ≡ b
    unlike (slots.Scalar x) b o o2 e = absurd (both_ways false refl o)
    unlike (slots.Node q k) (slots.Scalar x) o o2 e = absurd (both_ways false refl o2)
    unlike (slots.Node q k) (slots.Node q2 k2) o o2 e =
        let t = at-node k q o in
        let u = at-node k2 q2 o2 in
        ap (λ z. slots.Node z k) (rows.fields_apart q q2 t.1 u.1 e) ∙ ap (slots.Node q2) (t.0 ∙ sym u.0)

  module _ (xs : List (ℕ × Step)) (h : AllRan xs) (apart : GivesApart (filter is_to_nodes (given_by xs))) where
    abbrev to_nodes : List Contribution
    to_nodes = filter is_to_nodes (given_by xs)

    not-first : (b : Bool) → not b ≡ true → b ≡ false
    not-first true e = sym e
    not-first false e = refl

    good : AreGiven to_nodes (here_at c j) all
    good = record {
      one = apart.one;
      here_all = λ y z. let q = IsIn-filter is_to_nodes y (given_by xs) z in (received xs h y q.0).nodes (not-first (is_to_scalars y) q.1);
      not_empty = λ y z. (received xs h y (IsIn-filter is_to_nodes y (given_by xs) z).0).not_empty;
      one_total = apart.one_total;
      spotted = λ y z. (received xs h y (IsIn-filter is_to_nodes y (given_by xs) z).0).spotted;
    }

    settles : SettlesAlike c v (length p.places) r fs (here_at c j) to_nodes
    settles = reductions-settle c v base (length p.places) all r fs (here_at c j) to_nodes place fit held-fields good

    low : (f k : Fault) → HasSpot (spot_of_fault f) all → HasSpot (spot_of_fault k) all → lesser (Some (fault_of v f)) (Some (fault_of v k)) ≡ Some (fault_of v (F.lower f k))
    low f k a b = lesser-lower v base all place f k a b

    abbrev whole : After
    whole = gathered first (runs xs)

    -- the vertex's state and fault after its handlers
    abbrev state_after : VertexState
    state_after = record (whole.state) { folds = []; fields = (settled (length p.places) whole.state.folds whole.state.fields).values }

    abbrev fault_after : Option M.Fault
    fault_after = lesser whole.fault (settled (length p.places) whole.state.folds whole.state.fields).fault

    ends : (w : VertexState) (f : Option M.Fault) → goes_on (ended w f 0) (λ k u. body_after (length p.places) s [] k u) ≡ record { state = w; fault = f; skip = 0 }
    ends w None = refl
    ends w (Some f) = refl

    after-is : vertex_after p (record { handlers = hs; body = [] }) s (map message xs) fs ≡ record { state = state_after; fault = fault_after; skip = 0 }
    after-is = ends state_after fault_after

    settled-are : settled (length p.places) whole.state.folds whole.state.fields ≡ settled (length p.places) (map (given c v) to_nodes) fs
    settled-are = ap (λ ds. settled (length p.places) ds fs) (folds-all xs h)

    runs-fault : whole.fault ≡ fault_or_none v (least (faults_by xs))
    runs-fault =
        ap least_fault (faults-all xs h)
        ∙ least_from-right None (map (fault_or_none v) (map fault_at xs))
        ∙ none-first (least_right (map (fault_or_none v) (map fault_at xs)))
        ∙ least-parts v all low (map fault_at xs) (λ f z. fault-spots xs h f z) where
          none-first : (o : Option M.Fault) → lesser None o ≡ o
          none-first o = refl

    totals-spotted : (f : Fault) → IsIn f (total_faults r to_nodes) → HasSpot (spot_of_fault f) all
    totals-spotted f z = total-spot c v base (length p.places) all r fs (here_at c j) to_nodes place fit held-fields good f z

    -- the faults at the node have spots
    pub spots-at : (f : Fault) → IsIn f (faults_by xs ++ total_faults r to_nodes) → HasSpot (spot_of_fault f) all
    spots-at f z = split (faults_by xs) (λ g w. fault-spots xs h g w) z where
      split : (ds : List Fault) → ((g : Fault) → IsIn g ds → HasSpot (spot_of_fault g) all) → IsIn f (ds ++ total_faults r to_nodes) → HasSpot (spot_of_fault f) all
      split [] k z = totals-spotted f z
      split (g ∷ gs) k z = ⊎_elim (λ (e : f ≡ g). k f (inl e)) (λ (w : IsIn f (gs ++ total_faults r to_nodes)). split gs (λ a b. k a (inr b)) w) z

    pub takes : Takes c v fields j r (given_by xs) (faults_by xs) (Sent xs) (vertex_after p (record { handlers = hs; body = [] }) s (map message xs) fs)
    takes = subst (Takes c v fields j r (given_by xs) (faults_by xs) (Sent xs)) (sym after-is) (record {
      fault =
          ap (λ o. lesser o (settled (length p.places) whole.state.folds whole.state.fields).fault) runs-fault
          ∙ ap (λ t. lesser (fault_or_none v (least (faults_by xs))) t.fault) settled-are
          ∙ ap (lesser (fault_or_none v (least (faults_by xs)))) settles.fault
          ∙ least-two v all low (faults_by xs) (total_faults r to_nodes) (λ f z. fault-spots xs h f z) totals-spotted;
      puts = puts-all xs h;
      messages = sent-all xs h;
      properties = λ q o. ap (λ t. value_at t.values (c.field q)) settled-are ∙ settles.values (slots.Node q j) (ap (λ b. b && c.is_kept q) (eq-eqb j j refl) ∙ o);
      field_count = ap (λ t. length t.values) settled-are ∙ settles.count ∙ count;
    })
