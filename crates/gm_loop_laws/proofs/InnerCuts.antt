-- The law of inner loops that are cut in two.
use Rattle.std.proofs.Common.{arith, ◌≡◌, ◌≢◌, ℕ, Bool, true, false, cond, List, [], ◌∷◌, ◌++◌, map, refl, sym, ap, subst, ◌∙◌, append-nil, append_assoc, Option, Some, None, Result, Ok, Err, ⊎_elim, inr, inl, ◌⊎◌}
use Rattle.std.specs.Prelude.{◌<◌, ◌&&◌, ◌||◌, not, nat_eq, nat_lt}
use Rattle.std.specs.List.{list_any}
use Rattle.std.proofs.lemmas.Bool.{cases_Bool, eq-eqb, ltb-true, both_ways, eqb-true}
use Rattle.gm_base.specs.declared.places.Place.{Place}
use Rattle.gm_value.specs.declared.values.Value.TheVariants.{At}
use Rattle.gm_value.specs.declared.values.Value.{Value}
use Rattle.gm_value.specs.Bag.{IsIn, SameBag}
use Rattle.gm_value.proofs.BagLaws.{SameBag-sym, SameBag-append_left}
use Rattle.gm_value.specs.Operations.{is_true}
use Rattle.gm_model.specs.Graphs.{Step, IsGraph, node_count}
use Rattle.gm_ast.specs.declared.tree.Declaration.{Declaration}
use Rattle.gm_ast.specs.declared.tree.Domain.{Domain}
use Rattle.gm_ast.specs.declared.tree.Domain.TheVariants as D
use Rattle.gm_ast.specs.declared.tree.Head.{Head}
use Rattle.gm_ast.specs.declared.tree.Key.{Key}
use Rattle.gm_ast.specs.Keys as K
use Rattle.gm_ast.specs.Ways.{is_in}
use Rattle.gm_ast.specs.Program.{Expr, Property, Both, Stmt, Skip, Then, Declare, DeclareEdge, Assign, Defer, Combine, Group, Foreach, For, If, While, Do, InBfs, InBfsBoth, Return}
use Rattle.gm_semantics.specs.declared.faults.Fault.{Fault}
use Rattle.gm_semantics.specs.declared.slots.Slot.{Slot}
use Rattle.gm_semantics.specs.declared.slots.Slot.TheVariants.{Scalar, Node}
use Rattle.gm_semantics.specs.Stores.{Store, slot_eq, slots_eq, has_slot, write}
use Rattle.gm_semantics.specs.Faults.{rank_of, comes_before, least, somes, joined, unless_fault, then_with, total_fault}
use Rattle.gm_semantics.specs.Levels.{nodes}
use Rattle.gm_semantics.specs.Expressions.{Answer, value}
use Rattle.gm_semantics.specs.Contributions.{Contribution, statement_of, to_target, settled_store, total_faults}
use Rattle.gm_semantics.specs.Iterations.{Loop, Iteration, begun, unless_failed, with_ok, one_way, as_it_is, Outermost, AtEdge, view_in, does}
use Rattle.gm_semantics.specs.Loops.{parallel}
use Rattle.gm_semantics.specs.Laws.{OneReduction, Distinct}
use Rattle.gm_semantics.proofs.LeastLaws.{least-same}
use Rattle.gm_semantics.proofs.Leasts.{least-of_first}
use Rattle.gm_semantics.specs.Faults.{lesser}
use Rattle.gm_semantics.proofs.ContributionLaws.{IsIn-same, IsIn-filter, slots_eq-true, has_first, settled_store-same, total_faults-same}
use Rattle.gm_semantics.proofs.TargetLaws.{value-away, read-settled}
use Rattle.gm_forms.specs.Cut.{touched, spares_locals}
use Rattle.gm_forms.specs.Forms.{depth_at, is_range, is_flat, is_inner_body, is_outer_body}
use Rattle.gm_forms.specs.Order.{lie_before, rest_in, hoisted_in, faults_in, faults_of}
use Rattle.gm_forms.specs.Sharing.{Reduced, reduced, reduced_by, are_at_once, are_alike, are_distinct, targets_alike, variables_of, disjoint, Read, read_anywhere, sights_of}
use Rattle.gm_forms.specs.Doing.{named, IsFlat, EachSlot, Anywhere, Did, Sure}
use Rattle.gm_forms.specs.Reading.{Agrees}
use Rattle.gm_forms.proofs.Named.{both-true}
use Rattle.gm_forms.proofs.Doings.{in-left, in-right, in-either, least-in, value-fails, does-did, each-in, gave-from, total_faults-of}
use Rattle.gm_forms.proofs.Steps.{nodes-below, step-within}
use Rattle.gm_forms.proofs.Held.{in-append, stays, edge-sure}
use Rattle.gm_forms.proofs.CutTests.{not-true, Covers, turned, flat-beside}
use Rattle.gm_forms.proofs.CutLaws.{lies-in}
use Rattle.gm_forms.proofs.Takings.{Before}
use Rattle.gm_forms.proofs.ReadingFrames.{read-write}
use Rattle.gm_loop_laws.specs.Alone.{stands_alone}
use Rattle.gm_loop_laws.specs.Inner.{quiet, given_by, stands_before, all_stand_before, reads_none, InnerLoopsCut}
use Rattle.gm_loop_laws.proofs.Joins.{map-append, map-each, filter-whole, filter-nothing, exchanged}
use Rattle.gm_loop_laws.proofs.InTurn.{fault-of_first, fault-of_second, store-of_both}
use Rattle.gm_loop_laws.proofs.LoopEnds.{in-joined}
use Rattle.gm_loop_laws.proofs.Locals.{least-parts}
use Rattle.gm_loop_laws.proofs.Splits.{ends_late, is_late_slot}
use Rattle.gm_loop_laws.proofs.Givens.{ToOne, ToNodes, scalar-member, node-member}
use Rattle.gm_loop_laws.proofs.Alone.{along, Stands, stands}
use Rattle.gm_loop_laws.proofs.Masked.{at_outer, By, RD, out_gives, out_faults, out_kept, out_kept_faults, is_kept, out-by, out-one, turn_at_edge, pulled}
use Rattle.gm_loop_laws.proofs.MaskValues.{saved-held}
use Rattle.gm_loop_laws.proofs.Flips.{given-all, faults-all, lone}
use Rattle.gm_loop_laws.proofs.Saves.{fault-order, all-after}
use Rattle.gm_loop_laws.proofs.Kept.{Untouched}
use Rattle.gm_loop_laws.proofs.Chosen.{disjoint-apart}
use Rattle.gm_loop_laws.proofs.Masks.{not-in}
use Rattle.gm_loop_laws.specs.Masks.{spares}
use Rattle.gm_loop_laws.specs.Saved.{never_writes}
use Rattle.gm_loop_laws.proofs.Mays.{OffTotal, TotalIn, FaultIn, inner-faults}
use Rattle.gm_loop_laws.proofs.Slices.{reads-kept}
use Rattle.gm_loop_laws.proofs.Quiet.{behind-quieter}
use Rattle.gm_loop_laws.specs.Resumed.{serves, needs, kept, resumed, InnerLoopsResume, InnerLoopsTrim}
use Rattle.gm_loop_laws.proofs.Resumed.{behind-resumed, kept-alike}
use Rattle.gm_forms.proofs.ReadingFrames.{evaluated-good}
use Rattle.gm_semantics.specs.Expressions.{settled}
use Rattle.gm_loop_laws.proofs.Triples.{Triple, Triples, triples-append, Parted, parted}

abbrev fails : List Iteration → List Fault
fails its = somes (map (λ (it : Iteration). it.fault) its)

abbrev given : List Iteration → List Contribution
given its = joined (map (λ (it : Iteration). it.with_outermost) its)

-- the variable of a slot
abbrev variable : Slot → ℕ
variable (Scalar y) = y
variable (Node p k) = p

-- what reductions of a body give goes to the variables that they name
given-member : (ds : List Declaration) (n : ℕ) (s : Stmt) (r : Reduced) (y : ℕ) → IsIn r (reduced ds n true s) → IsIn y r.variables → IsIn y (given_by ds n s)
given-member ds n Skip r y i m = absurd i
given-member ds n (Then a b) r y i m =
    ⊎_elim (λ l. in-left y (given_by ds n a) (given_by ds n b) (given-member ds n a r y l m)) (λ q. in-right y (given_by ds n a) (given_by ds n b) (given-member ds n b r y q m)) (in-either r (reduced ds n true a) (reduced ds n true b) i)
given-member ds n (Declare k x e) r y i m = absurd i
given-member ds n (DeclareEdge x z at) r y i m = absurd i
given-member ds n (Assign k t e) r y i m = absurd i
given-member ds n (Defer k t e) r y i m = absurd i
given-member ds n (Combine k total op ts es) r y i m = by (are_at_once ds n true ts) i
  where
    by : (c : Bool) → IsIn r (cond c [] (reduced_by ds n total.key.statement op ts ∷ [])) → IsIn y (cond c [] (variables_of ts))
    by true i = absurd i
    by false i = ⊎_elim (λ (e : r ≡ reduced_by ds n total.key.statement op ts). subst (λ (q : Reduced). IsIn y q.variables) e m) (λ z. absurd z) i
given-member ds n (Group k at g p e) r y i m = absurd i
given-member ds n (Foreach k at h test body) r y i m = given-member ds n body r y i m
given-member ds n (For k at h test body) r y i m = absurd i
given-member ds n (If k c a b) r y i m =
    ⊎_elim (λ l. in-left y (given_by ds n a) (given_by ds n b) (given-member ds n a r y l m)) (λ q. in-right y (given_by ds n a) (given_by ds n b) (given-member ds n b r y q m)) (in-either r (reduced ds n true a) (reduced ds n true b) i)
given-member ds n (While k at c body) r y i m = absurd i
given-member ds n (Do k at body c) r y i m = absurd i
given-member ds n (InBfs k at h c body) r y i m = absurd i
given-member ds n (InBfsBoth k at h c body back_key d back) r y i m = absurd i
given-member ds n (Return k at e) r y i m = absurd i

-- the variables of a reduction of alike targets stand once
distinct-variables : (ds : List Declaration) (n : ℕ) (s : Stmt) (r : Reduced) → targets_alike s ≡ true → IsIn r (reduced ds n true s) → are_distinct r.variables ≡ true
distinct-variables ds n Skip r a i = absurd i
distinct-variables ds n (Then s t) r a i =
    let o = both-true (targets_alike s) (targets_alike t) a in
    ⊎_elim (λ l. distinct-variables ds n s r o.0 l) (λ q. distinct-variables ds n t r o.1 q) (in-either r (reduced ds n true s) (reduced ds n true t) i)
distinct-variables ds n (Declare k x e) r a i = absurd i
distinct-variables ds n (DeclareEdge x z at) r a i = absurd i
distinct-variables ds n (Assign k t e) r a i = absurd i
distinct-variables ds n (Defer k t e) r a i = absurd i
distinct-variables ds n (Combine k total op ts es) r a i = by (are_at_once ds n true ts) i
  where
    by : (c : Bool) → IsIn r (cond c [] (reduced_by ds n total.key.statement op ts ∷ [])) → are_distinct r.variables ≡ true
    by true i = absurd i
    by false i =
        ⊎_elim (λ (e : r ≡ reduced_by ds n total.key.statement op ts). ap (λ (q : Reduced). are_distinct q.variables) e ∙ (both-true (are_alike ts) (are_distinct (variables_of ts)) a).1) (λ z. absurd z) i
distinct-variables ds n (Group k at g p e) r a i = absurd i
distinct-variables ds n (Foreach k at h test body) r a i = distinct-variables ds n body r a i
distinct-variables ds n (For k at h test body) r a i = absurd i
distinct-variables ds n (If k c s t) r a i =
    let o = both-true (targets_alike s) (targets_alike t) a in
    ⊎_elim (λ l. distinct-variables ds n s r o.0 l) (λ q. distinct-variables ds n t r o.1 q) (in-either r (reduced ds n true s) (reduced ds n true t) i)
distinct-variables ds n (While k at c body) r a i = absurd i
distinct-variables ds n (Do k at body c) r a i = absurd i
distinct-variables ds n (InBfs k at h c body) r a i = absurd i
distinct-variables ds n (InBfsBoth k at h c body back_key d back) r a i = absurd i
distinct-variables ds n (Return k at e) r a i = absurd i

has-scalar : (y : ℕ) (vs : List ℕ) → has_slot (Scalar y) (map Scalar vs) ≡ is_in vs y
has-scalar y [] = refl
has-scalar y (z ∷ vs) = ap (λ b. nat_eq y z || b) (has-scalar y vs)

and-same : (b : Bool) → b && true ≡ b
and-same true = refl
and-same false = refl

has-node : (k p : ℕ) (vs : List ℕ) → has_slot (Node p k) (map (λ q. Node q k) vs) ≡ is_in vs p
has-node k p [] = refl
has-node k p (q ∷ vs) = ap (λ b. (nat_eq p q && b) || has_slot (Node p k) (map (λ q. Node q k) vs)) (eq-eqb k k refl) ∙ ap (λ b. b || has_slot (Node p k) (map (λ q. Node q k) vs)) (and-same (nat_eq p q)) ∙ ap (λ b. nat_eq p q || b) (has-node k p vs)

scalars-distinct : (vs : List ℕ) → are_distinct vs ≡ true → Distinct (map Scalar vs)
scalars-distinct [] h = tt
scalars-distinct (y ∷ vs) h = let r = both-true (not (is_in vs y)) (are_distinct vs) h in (has-scalar y vs ∙ not-true (is_in vs y) r.0, scalars-distinct vs r.1)

nodes-distinct : (k : ℕ) (vs : List ℕ) → are_distinct vs ≡ true → Distinct (map (λ p. Node p k) vs)
nodes-distinct k [] h = tt
nodes-distinct k (p ∷ vs) h = let r = both-true (not (is_in vs p)) (are_distinct vs) h in (has-node k p vs ∙ not-true (is_in vs p) r.0, nodes-distinct k vs r.1)

no-node : (p k : ℕ) (vs : List ℕ) → has_slot (Node p k) (map Scalar vs) ≡ false
no-node p k [] = refl
no-node p k (v ∷ vs) = no-node p k vs

no-scalar : (y l : ℕ) (vs : List ℕ) → has_slot (Scalar y) (map (λ p. Node p l) vs) ≡ false
no-scalar y l [] = refl
no-scalar y l (v ∷ vs) = no-scalar y l vs

slot-variable : (ds : List Declaration) (loop : Loop) (depths : (y : ℕ) → loop.depth y ≡ depth_at ds y) (some : List ℕ) (pp : ℕ → Bool) (known : (p : ℕ) → is_in some p ≡ true → pp p ≡ true) (RD' : List Reduced) (sp : Type 0) (r : Reduced) (slots : List Slot) → ToOne ds loop depths some pp known RD' sp r slots → (slot : Slot) → has_slot slot slots ≡ true → IsIn (variable slot) r.variables
slot-variable ds loop depths some pp known RD' sp r slots o (Scalar y) has =
    ⊎_elim (λ (f : slots ≡ map Scalar r.variables). scalar-member y r.variables (sym (ap (has_slot (Scalar y)) f) ∙ has))
    (λ (f : ToNodes ds loop depths some pp known RD' sp r slots). absurd (both_ways false refl (sym (no-scalar y f.node r.variables) ∙ sym (ap (has_slot (Scalar y)) f.are) ∙ has))) o
slot-variable ds loop depths some pp known RD' sp r slots o (Node p k) has =
    ⊎_elim (λ (f : slots ≡ map Scalar r.variables). absurd (both_ways false refl (sym (no-node p k r.variables) ∙ sym (ap (has_slot (Node p k)) f) ∙ has)))
    (λ (f : ToNodes ds loop depths some pp known RD' sp r slots). (node-member p k f.node r.variables (sym (ap (has_slot (Node p k)) f.are) ∙ has)).0) o

slots-distinct : (ds : List Declaration) (loop : Loop) (depths : (y : ℕ) → loop.depth y ≡ depth_at ds y) (some : List ℕ) (pp : ℕ → Bool) (known : (p : ℕ) → is_in some p ≡ true → pp p ≡ true) (RD' : List Reduced) (sp : Type 0) (r : Reduced) (slots : List Slot) → ToOne ds loop depths some pp known RD' sp r slots → are_distinct r.variables ≡ true → Distinct slots
slots-distinct ds loop depths some pp known RD' sp r slots o d =
    ⊎_elim (λ (f : slots ≡ map Scalar r.variables). subst Distinct (sym f) (scalars-distinct r.variables d))
    (λ (f : ToNodes ds loop depths some pp known RD' sp r slots). subst Distinct (sym f.are) (nodes-distinct f.node r.variables d)) o

-- of two reductions to one variable the first part's has the lesser number
before-one : (a b : Reduced) (bs : List Reduced) (y : ℕ) → stands_before a bs ≡ true → IsIn b bs → IsIn y a.variables → IsIn y b.variables → a.number < b.number
before-one a b [] y h i p q = absurd i
before-one a b (c ∷ bs) y h i p q =
    let r = both-true (disjoint a.variables c.variables || nat_lt a.number c.number) (stands_before a bs) h in
    ⊎_elim (λ (e : b ≡ c). subst (λ (z : Reduced). a.number < z.number) (sym e) (by (disjoint a.variables c.variables) refl r.0 (subst (λ (z : Reduced). IsIn y z.variables) e q))) (λ j. before-one a b bs y r.1 j p q) i
  where
    by : (d : Bool) → disjoint a.variables c.variables ≡ d → d || nat_lt a.number c.number ≡ true → IsIn y c.variables → a.number < c.number
    by true e o q = absurd (disjoint-apart a.variables c.variables y e p q)
    by false e o q = ltb-true a.number c.number o

before-all : (as' bs : List Reduced) (a b : Reduced) (y : ℕ) → all_stand_before as' bs ≡ true → IsIn a as' → IsIn b bs → IsIn y a.variables → IsIn y b.variables → a.number < b.number
before-all [] bs a b y h i j p q = absurd i
before-all (c ∷ as') bs a b y h i j p q =
    let r = both-true (stands_before c bs) (all_stand_before as' bs) h in
    ⊎_elim (λ (e : a ≡ c). before-one a b bs y (ap (λ z. stands_before z bs) e ∙ r.0) j p q) (λ k. before-all as' bs a b y r.1 k j p q) i

-- a loop by its turns
module _ (ds : List Declaration) (some : List ℕ) (loop : Loop) (depths : (y : ℕ) → loop.depth y ≡ depth_at ds y) (known : (p : ℕ) → is_in some p ≡ true → loop.pushed p ≡ true)
    (m : ℕ) (key k : Key) (at here : Place) (h : Head) (test : Expr) (body : Stmt) (s : Store) (apart : nat_eq h.iterator loop.outer ≡ false) (owner : h.owner ≡ loop.outer) (range : is_range false h.domain ≡ true)
    (flat-test : IsFlat test) (its : List ℕ) (inner-body : is_inner_body ds its true body ≡ true) (alone : Stands ds some loop.outer body) (spares : spares_locals ds body ≡ true) where
  abbrev ks : List ℕ
  ks = nodes loop.graph

  -- the saved filter, and what it is worth
  abbrev P : Expr
  P = Property loop.outer m at

  abbrev worth : ℕ → Value
  worth = s.node m

  abbrev turn : ℕ → Step → Iteration
  turn x e = turn_at_edge ds some loop depths known P worth key k here h test body s (saved-held loop h.iterator m at s) apart owner range flat-test its inner-body alone x e.node e.edge

  abbrev turns : List Iteration
  turns = joined (map (λ x. map (turn x) (along h.domain loop.graph x)) ks)

  abbrev outs_gives : ℕ → List Contribution
  outs_gives x = out_gives ds some loop depths known P worth key k here h test body s (saved-held loop h.iterator m at s) apart owner range flat-test its inner-body alone x

  abbrev outs_faults : ℕ → List Fault
  outs_faults x = out_faults ds some loop depths known P worth key k here h test body s (saved-held loop h.iterator m at s) apart owner range flat-test its inner-body alone x

  abbrev kept? : Contribution → Bool
  kept? = is_kept ds some loop depths known P worth key k here h test body s (saved-held loop h.iterator m at s) apart owner range flat-test its inner-body alone

  abbrev By' : ℕ → Contribution → Type 0
  By' x c = By ds some loop depths known P worth key k here h test body s (saved-held loop h.iterator m at s) apart owner range flat-test its inner-body alone x c

  kept-all : (x : ℕ) (c : Contribution) → IsIn c (outs_gives x) → kept? c ≡ true
  kept-all x c i = (out-by ds some loop depths known P worth key k here h test body s (saved-held loop h.iterator m at s) apart owner range flat-test its inner-body alone x c i).late spares

  given-turns : joined (map outs_gives ks) ≡ given turns
  given-turns = given-all (λ it. it.with_outermost) (λ x e. turn x e) (along h.domain loop.graph) ks

  faults-turns : joined (map outs_faults ks) ≡ fails turns
  faults-turns = faults-all (λ it. it.fault) (λ x e. turn x e) (along h.domain loop.graph) ks

  by-turns : parallel loop key (Property loop.outer m at) (Foreach k here h test body) ks s ≡ unless_fault (least (fails turns ++ total_faults s (given turns))) (Ok (settled_store s (given turns)))
  by-turns =
      pulled ds some loop depths known P worth key k here h test body s (saved-held loop h.iterator m at s) apart owner range flat-test its inner-body alone
      ∙ ap (λ l. unless_fault (least (joined l ++ total_faults s (joined (map (out_kept ds some loop depths known P worth key k here h test body s (saved-held loop h.iterator m at s) apart owner range flat-test its inner-body alone) ks)))) (Ok (settled_store s (joined (map (out_kept ds some loop depths known P worth key k here h test body s (saved-held loop h.iterator m at s) apart owner range flat-test its inner-body alone) ks)))))
      (map-each (out_kept_faults ds some loop depths known P worth key k here h test body s (saved-held loop h.iterator m at s) apart owner range flat-test its inner-body alone) outs_faults ks
      (λ x i. ap (λ l. outs_faults x ++ total_faults (at_outer loop P worth key k h test body s (saved-held loop h.iterator m at s) apart x) l) (filter-nothing (λ c. not (kept? c)) (outs_gives x) (λ c j. ap not (kept-all x c j))) ∙ append-nil (outs_faults x)))
      ∙ ap (λ l. unless_fault (least (joined (map outs_faults ks) ++ total_faults s (joined l))) (Ok (settled_store s (joined l))))
      (map-each (out_kept ds some loop depths known P worth key k here h test body s (saved-held loop h.iterator m at s) apart owner range flat-test its inner-body alone) outs_gives ks (λ x i. filter-whole kept? (outs_gives x) (kept-all x)))
      ∙ ap (λ l. unless_fault (least (joined (map outs_faults ks) ++ total_faults s l)) (Ok (settled_store s l))) given-turns
      ∙ ap (λ l. unless_fault (least (l ++ total_faults s (given turns))) (Ok (settled_store s (given turns)))) faults-turns

  gives-by : (c : Contribution) → IsIn c (given turns) → (x : ℕ) × By' x c
  gives-by c i =
      let r = in-joined c outs_gives ks (subst (IsIn c) (sym given-turns) i) in
      (r.0, out-by ds some loop depths known P worth key k here h test body s (saved-held loop h.iterator m at s) apart owner range flat-test its inner-body alone r.0 c r.2)

  one-turns : OneReduction (given turns)
  one-turns c d slot i j a b =
      let p = in-joined c outs_gives ks (subst (IsIn c) (sym given-turns) i) in
      let q = in-joined d outs_gives ks (subst (IsIn d) (sym given-turns) j) in
      out-one ds some loop depths known P worth key k here h test body s (saved-held loop h.iterator m at s) apart owner range flat-test its inner-body alone c d p.0 q.0 p.2 q.2 slot a b

  -- a contribution goes to variables that the body gives to, and to one at least
  gives-to : (c : Contribution) → IsIn c (given turns) → (slot : Slot) → has_slot slot c.slots ≡ true → IsIn (variable slot) (given_by ds loop.outer body)
  gives-to c i slot has =
      let r = (gives-by c i).1 in
      given-member ds loop.outer body r.reduced (variable slot) r.member
      (slot-variable ds loop depths some loop.pushed known (RD ds some loop depths known P worth key k here h test body s (saved-held loop h.iterator m at s) apart owner range flat-test its inner-body alone) (spares_locals ds body ≡ true) r.reduced c.slots r.slots slot has)

  -- by a reduction of the body, under its number
  gives-one : (c : Contribution) → IsIn c (given turns) → (slot : Slot) → has_slot slot c.slots ≡ true → (r : Reduced) × IsIn r (reduced ds loop.outer true body) × IsIn (variable slot) r.variables × (r.number ≡ statement_of c)
  gives-one c i slot has =
      let r = (gives-by c i).1 in
      (r.reduced, r.member, slot-variable ds loop depths some loop.pushed known (RD ds some loop depths known P worth key k here h test body s (saved-held loop h.iterator m at s) apart owner range flat-test its inner-body alone) (spares_locals ds body ≡ true) r.reduced c.slots r.slots slot has, r.number)

  distinct-slots : (c : Contribution) → IsIn c (given turns) → Distinct c.slots
  distinct-slots c i =
      let r = (gives-by c i).1 in
      slots-distinct ds loop depths some loop.pushed known (RD ds some loop depths known P worth key k here h test body s (saved-held loop h.iterator m at s) apart owner range flat-test its inner-body alone) (spares_locals ds body ≡ true) r.reduced c.slots r.slots
      (distinct-variables ds loop.outer body r.reduced alone.alike r.member)

  some-slot : (c : Contribution) → IsIn c (given turns) → c.slots ≢ []
  some-slot c i e = let r = (gives-by c i).1.late spares in both_ways false refl (sym (ap (list_any (is_late_slot loop.depth (λ p. true))) e) ∙ r)

append-same : {A : Type 0} (xs ys zs : List A) → xs ++ ys ≡ xs ++ zs → ys ≡ zs
append-same [] ys zs e = e
append-same (x ∷ xs) ys zs e = append-same xs ys zs (cc)

-- a turn begins at two nodes
abbrev both-at : ℕ → ℕ → Store → ℕ → ℕ → Store
both-at n t s x y = write (write s (Scalar n) (At (Some x))) (Scalar t) (At (Some y))

-- stores agree where a turn begins that agreed before
begun-agree : (Good : Slot → Type 0) (n t : ℕ) (s u : Store) (x y : ℕ) → Agrees Good s u → Agrees Good (both-at n t s x y) (both-at n t u x y)
begun-agree Good n t s u x y agree = record {
  at = λ slot good.
      read-write (write u (Scalar n) (At (Some x))) (Scalar t) slot (At (Some y))
      ∙ ap (λ v. cond (slot_eq (Scalar t) slot) (At (Some y)) v) (read-write u (Scalar n) slot (At (Some x)) ∙ ap (λ v. cond (slot_eq (Scalar n) slot) (At (Some x)) v) (agree.at slot good) ∙ sym (read-write s (Scalar n) slot (At (Some x))))
      ∙ sym (read-write (write s (Scalar n) (At (Some x))) (Scalar t) slot (At (Some y)));
  edge = agree.edge;
}

-- what a body r does from the store u where a did not fault from s: it goes on as b does behind a, and gives the rest
abbrev Resumes : Loop → ℕ → Stmt → Stmt → Stmt → Store → Store → Type 0
Resumes loop t a b r s u = (x y e : ℕ) → x < node_count loop.graph → y < node_count loop.graph → (does a (AtEdge e) (ends_late loop) (begun (both-at loop.outer t s x y))).fault ≡ None →
    ((does (Then a b) (AtEdge e) (ends_late loop) (begun (both-at loop.outer t s x y))).fault ≡ (does r (AtEdge e) (ends_late loop) (begun (both-at loop.outer t u x y))).fault)
    × ((does (Then a b) (AtEdge e) (ends_late loop) (begun (both-at loop.outer t s x y))).with_outermost ≡ (does a (AtEdge e) (ends_late loop) (begun (both-at loop.outer t s x y))).with_outermost ++ (does r (AtEdge e) (ends_late loop) (begun (both-at loop.outer t u x y))).with_outermost)

-- one turn of all three
module _ (ds : List Declaration) (loop : Loop) (m : ℕ) (key k : Key) (at : Place) (h : Head) (test : Expr) (a b r : Stmt) (s u : Store) (apart : nat_eq h.iterator loop.outer ≡ false) (its : List ℕ)
    (inner-a : is_inner_body ds its true a ≡ true) (inner-b : is_inner_body ds its true b ≡ true) (off-a : never_writes loop.outer a ≡ true) (off-b : never_writes loop.outer b ≡ true) (gone : List ℕ)
    (agree : Agrees (Untouched gone) s u) (reads : spares gone (Both (Property loop.outer m at) test) ≡ true) (resumes : Resumes loop h.iterator a b r s u)
    (graph : IsGraph loop.graph) (keeps-a : is_in (touched a) h.iterator ≡ false) (keeps-b : is_in (touched b) h.iterator ≡ false) (sub : Covers its (h.iterator ∷ loop.outer ∷ [])) where
  abbrev n : ℕ
  n = loop.outer

  abbrev around : List ℕ
  around = h.iterator ∷ n ∷ []

  abbrev FS : List K.Fault
  FS = faults_of around b

  abbrev filter' : Expr
  filter' = Both (Property n m at) test

  abbrev at-both : Store → ℕ → ℕ → Store
  at-both t x y = both-at n h.iterator t x y

  abbrev turn-of : Stmt → Store → ℕ → ℕ → ℕ → Iteration
  turn-of body t x y e = with_ok (begun (at-both t x y)) (value filter' (view_in loop (AtEdge e) (begun (at-both t x y)) k)) (λ v. one_way (is_true v) (does body (AtEdge e) (ends_late loop)) as_it_is (begun (at-both t x y)))

  held : (x y : ℕ) → (at-both s x y).scalar n ≡ At (Some x)
  held x y = ap (λ c. cond c (At (Some y)) ((write s (Scalar n) (At (Some x))).scalar n)) apart ∙ ap (λ c. cond c (At (Some x)) (s.scalar n)) (eq-eqb n n refl)

  at-inner : (x y : ℕ) → (at-both s x y).scalar h.iterator ≡ At (Some y)
  at-inner x y = ap (λ c. cond c (At (Some y)) ((write s (Scalar n) (At (Some x))).scalar h.iterator)) (eq-eqb h.iterator h.iterator refl)

  at-agree : (x y : ℕ) → Agrees (Untouched gone) (at-both s x y) (at-both u x y)
  at-agree x y = begun-agree (Untouched gone) n h.iterator s u x y agree

  abbrev One : Iteration → Iteration → Iteration → Type 0
  One p w q = Triple (λ f. IsIn (named f) FS) (λ c. IsIn (named (total_fault c.total)) FS) p w q

  anywhere : (fs : List K.Fault) (x : ℕ) (slots : List Slot) → EachSlot (Anywhere (OffTotal ds (ends_late loop) x fs) (TotalIn ds (ends_late loop) x fs) (FaultIn ds (ends_late loop) x fs) n x) slots
  anywhere fs x [] = tt
  anywhere fs x (slot ∷ slots) = (tt, anywhere fs x slots)

  -- where the filter passes
  passes : (x y e : ℕ) → x < node_count loop.graph → y < node_count loop.graph → One (does a (AtEdge e) (ends_late loop) (begun (at-both s x y))) (does (Then a b) (AtEdge e) (ends_late loop) (begun (at-both s x y))) (does r (AtEdge e) (ends_late loop) (begun (at-both u x y)))
  passes x y e xb yb = record {
    failed = λ f d. let same = ap (λ z. unless_failed z A (does b (AtEdge e) (ends_late loop))) d in (ap (λ (it : Iteration). it.fault) same ∙ d, ap (λ (it : Iteration). it.with_outermost) same);
    fault = λ d. (resumes x y e xb yb d).0;
    gives = λ d. (resumes x y e xb yb d).1;
    late = λ d f c. ⊎_elim (λ (z : A.fault ≡ Some f). let bad : None ≡ Some f = sym d ∙ z in absurd (cc)) (λ q. q) ((b-did d).fault f (sym (ap (λ (it : Iteration). it.fault) (w-is d)) ∙ (resumes x y e xb yb d).0 ∙ c));
    total = λ d c i.
        let gave = (b-did d).outermost in
        each-in (TotalIn ds (ends_late loop) x FS) gave.more c gave.each
        (subst (IsIn c) (append-same A.with_outermost (does r (AtEdge e) (ends_late loop) (begun (at-both u x y))).with_outermost gave.more (sym (resumes x y e xb yb d).1 ∙ ap (λ (it : Iteration). it.with_outermost) (w-is d) ∙ gave.is)) i);
  }
    where
      A : Iteration
      A = does a (AtEdge e) (ends_late loop) (begun (at-both s x y))

      w-is : A.fault ≡ None → does (Then a b) (AtEdge e) (ends_late loop) (begun (at-both s x y)) ≡ does b (AtEdge e) (ends_late loop) A
      w-is d = ap (λ z. unless_failed z A (does b (AtEdge e) (ends_late loop))) d

      a-held : A.store.scalar n ≡ At (Some x)
      a-held =
          let fs = faults_of around a in
          (does-did (OffTotal ds (ends_late loop) x fs) (TotalIn ds (ends_late loop) x fs) (FaultIn ds (ends_late loop) x fs) n x (λ c o. o.0) (λ c o. o.1) around a _ (λ c o. anywhere fs x c.slots) (AtEdge e) (ends_late loop) (begun (at-both s x y))
          (inr (edge-sure loop.graph n h.iterator a e (at-both s x y) x y graph (held x y) xb (at-inner x y) yb keeps-a)) (inner-faults ds (ends_late loop) x fs a e its around sub inner-a (λ f i. i) off-a) (held x y) refl).1

      b-did : A.fault ≡ None → Did (Anywhere (OffTotal ds (ends_late loop) x FS) (TotalIn ds (ends_late loop) x FS) (FaultIn ds (ends_late loop) x FS) n x) (OffTotal ds (ends_late loop) x FS) (TotalIn ds (ends_late loop) x FS) (FaultIn ds (ends_late loop) x FS) n x A (does b (AtEdge e) (ends_late loop) A)
      b-did d =
          (does-did (OffTotal ds (ends_late loop) x FS) (TotalIn ds (ends_late loop) x FS) (FaultIn ds (ends_late loop) x FS) n x (λ c o. o.0) (λ c o. o.1) around b _ (λ c o. anywhere FS x c.slots) (AtEdge e) (ends_late loop) A
          (inr (edge-sure loop.graph n h.iterator b e A.store x y graph a-held xb (stays h.iterator y a (ends_late loop) e (begun (at-both s x y)) keeps-a (at-inner x y)) yb keeps-b))
          (inner-faults ds (ends_late loop) x FS b e its around sub inner-b (λ f i. i) off-b) a-held d).0

  one-turn : (x y e : ℕ) → x < node_count loop.graph → y < node_count loop.graph → One (turn-of a s x y e) (turn-of (Then a b) s x y e) (turn-of r u x y e)
  one-turn x y e xb yb =
      subst (λ z. One (turn-of a s x y e) (turn-of (Then a b) s x y e) (with_ok j z (λ v. one_way (is_true v) (does r (AtEdge e) (ends_late loop)) as_it_is j))) (sym same) (by (value filter' (view_in loop (AtEdge e) i k)))
    where
      i : Iteration
      i = begun (at-both s x y)

      j : Iteration
      j = begun (at-both u x y)

      same : value filter' (view_in loop (AtEdge e) (begun (at-both u x y)) k) ≡ value filter' (view_in loop (AtEdge e) (begun (at-both s x y)) k)
      same = ap settled (evaluated-good (Untouched gone) n x (view_in loop (AtEdge e) (begun (at-both s x y)) k) (at-both u x y) (at-agree x y) (held x y) filter' (reads-kept gone (Untouched gone) (λ slot h. h) n x filter' reads))

      by : (v : Answer) → One (with_ok (begun (at-both s x y)) v (λ v. one_way (is_true v) (does a (AtEdge e) (ends_late loop)) as_it_is (begun (at-both s x y)))) (with_ok (begun (at-both s x y)) v (λ v. one_way (is_true v) (does (Then a b) (AtEdge e) (ends_late loop)) as_it_is (begun (at-both s x y))))
          (with_ok (begun (at-both u x y)) v (λ v. one_way (is_true v) (does r (AtEdge e) (ends_late loop)) as_it_is (begun (at-both u x y))))
      by (Err f) = record { failed = λ g d. (d, refl); fault = λ d. let bad : Some f ≡ None = d in absurd (cc); gives = λ d. refl; late = λ d g c. let bad : Some f ≡ None = d in absurd (cc); total = λ d c i. absurd i }
      by (Ok v) = way (is_true v)
        where
          way : (o : Bool) → One (one_way o (does a (AtEdge e) (ends_late loop)) as_it_is (begun (at-both s x y))) (one_way o (does (Then a b) (AtEdge e) (ends_late loop)) as_it_is (begun (at-both s x y))) (one_way o (does r (AtEdge e) (ends_late loop)) as_it_is (begun (at-both u x y)))
          way false = record { failed = λ g d. let bad : None ≡ Some g = d in absurd (cc); fault = λ d. refl; gives = λ d. refl; late = λ d g c. let bad : None ≡ Some g = c in absurd (cc); total = λ d c i. absurd i }
          way true = passes x y e xb yb

-- all of some turns
abbrev AllIts : (Iteration → Type 0) → List Iteration → Type 0
AllIts Q [] = Unit {0}
AllIts Q (it ∷ its) = Q it × AllIts Q its

all-append : (Q : Iteration → Type 0) (xs ys : List Iteration) → AllIts Q xs → AllIts Q ys → AllIts Q (xs ++ ys)
all-append Q [] ys p q = q
all-append Q (x ∷ xs) ys p q = (p.0, all-append Q xs ys p.1 q)

fails-all : (S : Fault → Type 0) (its : List Iteration) → AllIts (λ it. (f : Fault) → it.fault ≡ Some f → S f) its → (f : Fault) → IsIn f (fails its) → S f
fails-all S [] a f i = absurd i
fails-all S (it ∷ its) a f i = by it.fault refl (fails-all S its a.1 f) i
  where
    by : (o : Option Fault) → it.fault ≡ o → (IsIn f (fails its) → S f) → IsIn f (somes (o ∷ map (λ (z : Iteration). z.fault) its)) → S f
    by None e h i = h i
    by (Some g) e h i = ⊎_elim (λ (d : f ≡ g). a.0 f (e ∙ ap Some (sym d))) (λ r. h r) i

gives-all : (S : Contribution → Type 0) (its : List Iteration) → AllIts (λ it. (c : Contribution) → IsIn c it.with_outermost → S c) its → (c : Contribution) → IsIn c (given its) → S c
gives-all S [] a c i = absurd i
gives-all S (it ∷ its) a c i = ⊎_elim (λ l. a.0 c l) (λ r. gives-all S its a.1 c r) (in-either c it.with_outermost (given its) i)

given-left : (c : Contribution) (xs ys : List Iteration) → IsIn c (given xs) → IsIn c (given (xs ++ ys))
given-left c [] ys i = absurd i
given-left c (x ∷ xs) ys i = ⊎_elim (λ l. in-left c x.with_outermost (given (xs ++ ys)) l) (λ r. in-right c x.with_outermost (given (xs ++ ys)) (given-left c xs ys r)) (in-either c x.with_outermost (given xs) i)

given-right : (c : Contribution) (xs ys : List Iteration) → IsIn c (given ys) → IsIn c (given (xs ++ ys))
given-right c [] ys i = i
given-right c (x ∷ xs) ys i = in-right c x.with_outermost (given (xs ++ ys)) (given-right c xs ys i)

-- a quiet body gives nothing
quiet-reduces : (ds : List Declaration) (n : ℕ) (s : Stmt) (its : List ℕ) → is_inner_body ds its true s ≡ true → reduced ds n true (quiet ds n s) ≡ []
quiet-reduces ds n Skip its h = refl
quiet-reduces ds n (Then a b) its h =
    let r = both-true (is_inner_body ds its true a) (is_inner_body ds its true b) h in
    ap (λ l. l ++ reduced ds n true (quiet ds n b)) (quiet-reduces ds n a its r.0) ∙ quiet-reduces ds n b its r.1
quiet-reduces ds n (Declare k x e) its h = refl
quiet-reduces ds n (DeclareEdge x y at) its h = refl
quiet-reduces ds n (Assign k t e) its h = refl
quiet-reduces ds n (Defer k t e) its h = refl
quiet-reduces ds n (Combine k total r ts es) its h = by (are_at_once ds n true ts) refl
  where
    by : (b : Bool) → are_at_once ds n true ts ≡ b → reduced ds n true (cond b (Combine k total r ts es) Skip) ≡ []
    by true e = ap (λ b. cond b [] (reduced_by ds n total.key.statement r ts ∷ [])) e
    by false e = refl
quiet-reduces ds n (Group k at g p e) its h = refl
quiet-reduces ds n (Foreach k at head test body) its h = absurd (both_ways false refl h)
quiet-reduces ds n (For k at head test body) its h = refl
quiet-reduces ds n (If k c a b) its h =
    let o = both-true _ (is_inner_body ds its true a && is_inner_body ds its true b) h in
    let r = both-true (is_inner_body ds its true a) (is_inner_body ds its true b) o.1 in
    ap (λ l. l ++ reduced ds n true (quiet ds n b)) (quiet-reduces ds n a its r.0) ∙ quiet-reduces ds n b its r.1
quiet-reduces ds n (While k at c body) its h = refl
quiet-reduces ds n (Do k at body c) its h = refl
quiet-reduces ds n (InBfs k at head c body) its h = refl
quiet-reduces ds n (InBfsBoth k at head c body back_key d back) its h = refl
quiet-reduces ds n (Return k at e) its h = refl

least-nothing : (fs : List Fault) → least fs ≡ None → fs ≡ []
least-nothing [] e = refl
least-nothing (f ∷ fs) e = by (least fs) e
  where
    by : (o : Option Fault) → lesser f o ≡ None → f ∷ fs ≡ []
    by None e = absurd (cc)
    by (Some g) e = absurd (cc)

nil-both : {A : Type 0} (xs ys : List A) → xs ++ ys ≡ [] → (xs ≡ []) × (ys ≡ [])
nil-both [] ys e = (refl, e)
nil-both (x ∷ xs) ys e = absurd (cc)

-- steps along edges lead to nodes of the graph
along-within : (loop : Loop) (s : Store) (k : Key) → IsGraph loop.graph → (d : Domain) (x : ℕ) (e : Step) → IsIn e (along d loop.graph x) → e.node < node_count loop.graph
along-within loop s k is D.Nodes x e i = absurd i
along-within loop s k is D.OutNbrs x e i = step-within (view_in loop Outermost (begun s) k) is D.OutNbrs (Some x) e i
along-within loop s k is D.InNbrs x e i = step-within (view_in loop Outermost (begun s) k) is D.InNbrs (Some x) e i
along-within loop s k is D.UpNbrs x e i = absurd i
along-within loop s k is D.DownNbrs x e i = absurd i

-- the law, by its conditions
module _ (ds : List Declaration) (some : List ℕ) (loop : Loop) (depths : (y : ℕ) → loop.depth y ≡ depth_at ds y) (known : (p : ℕ) → is_in some p ≡ true → loop.pushed p ≡ true)
    (m : ℕ) (key k : Key) (at here : Place) (h : Head) (test : Expr) (a b rest : Stmt) (s : Store) (apart : nat_eq h.iterator loop.outer ≡ false) (owner : h.owner ≡ loop.outer) (range : is_range false h.domain ≡ true)
    (flat-test : IsFlat test) (its : List ℕ) (own : is_in its loop.outer ≡ true) (inner-w : is_inner_body ds its true (Then a b) ≡ true) (inner-r : is_inner_body ds its true rest ≡ true)
    (alone-w : Stands ds some loop.outer (Then a b)) (alone-a : Stands ds some loop.outer a) (alone-r : Stands ds some loop.outer rest)
    (spares-w : spares_locals ds (Then a b) ≡ true) (spares-r : spares_locals ds rest ≡ true) (off : never_writes loop.outer (Then a b) ≡ true)
    (order : lie_before (faults_in (Both (Property loop.outer m at) test) k ++ faults_of (h.iterator ∷ loop.outer ∷ []) a) (faults_of (h.iterator ∷ loop.outer ∷ []) b) ≡ true) (others : all_stand_before (reduced ds loop.outer true a) (reduced ds loop.outer true b) ≡ true)
    (reads : spares (given_by ds loop.outer a) (Both (Property loop.outer m at) test) ≡ true)
    (gives-rest : (q : Reduced) → IsIn q (reduced ds loop.outer true rest) → IsIn q (reduced ds loop.outer true b)) (resumes : (u : Store) → Agrees (Untouched (given_by ds loop.outer a)) s u → Resumes loop h.iterator a b rest s u)
    (graph : IsGraph loop.graph) (keeps : is_in (touched (Then a b)) h.iterator ≡ false) (sub : Covers its (h.iterator ∷ loop.outer ∷ [])) (test-reads : is_flat its true test ≡ true) where
  abbrev js : List ℕ
  js = h.iterator ∷ loop.outer ∷ []

  keeps-parts : (is_in (touched a) h.iterator ≡ false) × (is_in (touched b) h.iterator ≡ false)
  keeps-parts = in-append h.iterator (touched a) (touched b) keeps

  abbrev gone : List ℕ
  gone = given_by ds loop.outer a

  inner-a : is_inner_body ds its true a ≡ true
  inner-a = (both-true (is_inner_body ds its true a) (is_inner_body ds its true b) inner-w).0

  inner-b : is_inner_body ds its true b ≡ true
  inner-b = (both-true (is_inner_body ds its true a) (is_inner_body ds its true b) inner-w).1

  spares-a : spares_locals ds a ≡ true
  spares-a = (both-true (spares_locals ds a) (spares_locals ds b) spares-w).0

  abbrev TA : List Iteration
  TA = turns ds some loop depths known m key k at here h test a s apart owner range flat-test its inner-a alone-a spares-a

  abbrev TW : List Iteration
  TW = turns ds some loop depths known m key k at here h test (Then a b) s apart owner range flat-test its inner-w alone-w spares-w

  abbrev s1 : Store
  s1 = settled_store s (given TA)

  abbrev TR : List Iteration
  TR = turns ds some loop depths known m key k at here h test rest s1 apart owner range flat-test its inner-r alone-r spares-r

  -- what the first part leaves untouched
  between : Agrees (Untouched gone) s s1
  between = record { at = λ slot good. read-settled s (given TA) slot ∙ value-away s slot (given TA) (λ c i. clear slot good c i); edge = refl }
    where
      clear : (slot : Slot) → Untouched gone slot → (c : Contribution) → IsIn c (given TA) → has_slot slot c.slots ≡ false
      clear slot good c i = ⊎_elim (λ (has : has_slot slot c.slots ≡ true). absurd (bad slot good (gives-to ds some loop depths known m key k at here h test a s apart owner range flat-test its inner-a alone-a spares-a c i slot has))) (λ e. e) (cases_Bool (has_slot slot c.slots))
        where
          bad : (slot : Slot) → Untouched gone slot → IsIn (variable slot) gone → ⊥
          bad (Scalar y) g i = g i
          bad (Node p l) g i = g i

  abbrev Second : Contribution → Type 0
  Second c = IsIn (named (total_fault c.total)) (faults_of js b) × IsIn c (given TR)

  abbrev LateFault : Fault → Type 0
  LateFault f = IsIn (named f) (faults_of js b)

  abbrev tA : ℕ → Step → Iteration
  tA x e = turn ds some loop depths known m key k at here h test a s apart owner range flat-test its inner-a alone-a spares-a x e

  abbrev tW : ℕ → Step → Iteration
  tW x e = turn ds some loop depths known m key k at here h test (Then a b) s apart owner range flat-test its inner-w alone-w spares-w x e

  abbrev tR : ℕ → Step → Iteration
  tR x e = turn ds some loop depths known m key k at here h test rest s1 apart owner range flat-test its inner-r alone-r spares-r x e

  one : (x : ℕ) (e : Step) → x < node_count loop.graph → e.node < node_count loop.graph → ((c : Contribution) → IsIn c (tR x e).with_outermost → IsIn c (given TR)) → Triple LateFault Second (tA x e) (tW x e) (tR x e)
  one x e xb eb into =
      let never = both-true (never_writes loop.outer a) (never_writes loop.outer b) off in
      let t = one-turn ds loop m key k at h test a b rest s s1 apart its inner-a inner-b never.0 never.1 gone between reads (resumes s1 between) graph keeps-parts.0 keeps-parts.1 sub x e.node e.edge xb eb in
      record { failed = t.failed; fault = t.fault; gives = t.gives; late = t.late; total = λ d c i. (t.total d c i, into c i) }

  of-steps : (x : ℕ) → x < node_count loop.graph → (l : List Step) → ((e : Step) → IsIn e l → e.node < node_count loop.graph) → ((c : Contribution) → IsIn c (given (map (tR x) l)) → IsIn c (given TR)) → Triples LateFault Second (map (tA x) l) (map (tW x) l) (map (tR x) l)
  of-steps x xb [] lb into = tt
  of-steps x xb (e ∷ l) lb into =
      (one x e xb (lb e (inl refl)) (λ c i. into c (in-left c (tR x e).with_outermost (given (map (tR x) l)) i)), of-steps x xb l (λ d i. lb d (inr i)) (λ c i. into c (in-right c (tR x e).with_outermost (given (map (tR x) l)) i)))

  of-nodes : (zs : List ℕ) → ((z : ℕ) → IsIn z zs → IsIn z (nodes loop.graph)) → ((c : Contribution) → IsIn c (given (joined (map (λ x. map (tR x) (along h.domain loop.graph x)) zs))) → IsIn c (given TR)) →
      Triples LateFault Second (joined (map (λ x. map (tA x) (along h.domain loop.graph x)) zs)) (joined (map (λ x. map (tW x) (along h.domain loop.graph x)) zs)) (joined (map (λ x. map (tR x) (along h.domain loop.graph x)) zs))
  of-nodes [] zb into = tt
  of-nodes (z ∷ zs) zb into =
      let l = along h.domain loop.graph z in
      triples-append LateFault Second (map (tA z) l) (map (tW z) l) (map (tR z) l) _ _ _
      (of-steps z (nodes-below loop.graph z (zb z (inl refl))) l (along-within loop s k graph h.domain z) (λ c i. into c (given-left c (map (tR z) l) (joined (map (λ x. map (tR x) (along h.domain loop.graph x)) zs)) i)))
      (of-nodes zs (λ y i. zb y (inr i)) (λ c i. into c (given-right c (map (tR z) l) (joined (map (λ x. map (tR x) (along h.domain loop.graph x)) zs)) i)))

  parts : Parted LateFault Second TA TW TR
  parts = parted LateFault Second TA TW TR (of-nodes (nodes loop.graph) (λ z i. i) (λ c i. i))

  -- the faults of the filter and of the first part
  abbrev early : List K.Fault
  early = faults_in (Both (Property loop.outer m at) test) k ++ faults_of js a

  abbrev Early : Iteration → Type 0
  Early it = ((f : Fault) → it.fault ≡ Some f → IsIn (named f) early) × ((c : Contribution) → IsIn c it.with_outermost → IsIn (named (total_fault c.total)) early)

  early-turn : (x : ℕ) (e : Step) → x < node_count loop.graph → e.node < node_count loop.graph → Early (tA x e)
  early-turn x e xb eb = by (value filter'' (view_in loop (AtEdge e.edge) (begun (start x e.node)) k)) refl
    where
      filter'' : Expr
      filter'' = Both (Property loop.outer m at) test

      start : ℕ → ℕ → Store
      start x y = write (write s (Scalar loop.outer) (At (Some x))) (Scalar h.iterator) (At (Some y))

      anywhere : (slots : List Slot) → EachSlot (Anywhere (OffTotal ds (ends_late loop) x early) (TotalIn ds (ends_late loop) x early) (FaultIn ds (ends_late loop) x early) loop.outer x) slots
      anywhere [] = tt
      anywhere (slot ∷ slots) = (tt, anywhere slots)

      holds : (start x e.node).scalar loop.outer ≡ At (Some x)
      holds = ap (λ c. cond c (At (Some e.node)) ((write s (Scalar loop.outer) (At (Some x))).scalar loop.outer)) apart ∙ ap (λ c. cond c (At (Some x)) (s.scalar loop.outer)) (eq-eqb loop.outer loop.outer refl)

      sure : Sure loop.outer js a (AtEdge e.edge) loop.graph (start x e.node)
      sure =
          edge-sure loop.graph loop.outer h.iterator a e.edge (start x e.node) x e.node graph holds xb
          (ap (λ c. cond c (At (Some e.node)) ((write s (Scalar loop.outer) (At (Some x))).scalar h.iterator)) (eq-eqb h.iterator h.iterator refl)) eb keeps-parts.0

      way : (o : Bool) → Early (one_way o (does a (AtEdge e.edge) (ends_late loop)) as_it_is (begun (start x e.node)))
      way false = ((λ f d. let bad : None ≡ Some f = d in absurd (cc)), λ c i. absurd i)
      way true =
          let d = (does-did (OffTotal ds (ends_late loop) x early) (TotalIn ds (ends_late loop) x early) (FaultIn ds (ends_late loop) x early) loop.outer x (λ c o. o.0) (λ c o. o.1) js a _ (λ c o. anywhere c.slots) (AtEdge e.edge) (ends_late loop) (begun (start x e.node)) (inr sure)
          (inner-faults ds (ends_late loop) x early a e.edge its js sub inner-a (λ f i. in-right f (faults_in filter'' k) (faults_of js a) i) (both-true (never_writes loop.outer a) (never_writes loop.outer b) off).0) holds refl).0 in (
            (λ f c. ⊎_elim (λ (z : None ≡ Some f). absurd (cc)) (λ r. r) (d.fault f c)),
            λ c i. each-in (TotalIn ds (ends_late loop) x early) (does a (AtEdge e.edge) (ends_late loop) (begun (start x e.node))).with_outermost c (gave-from (TotalIn ds (ends_late loop) x early) _ d.outermost) i,
          )

      by : (v : Answer) → value filter'' (view_in loop (AtEdge e.edge) (begun (start x e.node)) k) ≡ v → Early (with_ok (begun (start x e.node)) v (λ v. one_way (is_true v) (does a (AtEdge e.edge) (ends_late loop)) as_it_is (begun (start x e.node))))
      by (Ok v) q = way (is_true v)
      by (Err g) q = (
        (λ f d.
            let same : g ≡ f = cc in
            in-left (named f) (faults_in filter'' k) (faults_of js a) (in-right (named f) (hoisted_in filter'') (rest_in filter'' k)
            (subst (IsIn (named f)) (flat-beside its js true filter'' k sub (ap (λ o. o && is_flat its true test) own ∙ test-reads)) (value-fails (view_in loop (AtEdge e.edge) (begun (start x e.node)) k) refl js sure.held filter'' (tt, flat-test) f (q ∙ ap Err same))))),
        λ c i. absurd i,
      )

  early-steps : (x : ℕ) → x < node_count loop.graph → (l : List Step) → ((e : Step) → IsIn e l → e.node < node_count loop.graph) → AllIts Early (map (tA x) l)
  early-steps x xb [] lb = tt
  early-steps x xb (e ∷ l) lb = (early-turn x e xb (lb e (inl refl)), early-steps x xb l (λ d i. lb d (inr i)))

  early-nodes : (zs : List ℕ) → ((z : ℕ) → IsIn z zs → IsIn z (nodes loop.graph)) → AllIts Early (joined (map (λ x. map (tA x) (along h.domain loop.graph x)) zs))
  early-nodes [] zb = tt
  early-nodes (z ∷ zs) zb = all-append Early (map (tA z) (along h.domain loop.graph z)) (joined (map (λ x. map (tA x) (along h.domain loop.graph x)) zs)) (early-steps z (nodes-below loop.graph z (zb z (inl refl))) (along h.domain loop.graph z) (along-within loop s k graph h.domain z)) (early-nodes zs (λ y i. zb y (inr i)))

  all-with : (Q S : Iteration → Type 0) (xs : List Iteration) → ((it : Iteration) → Q it → S it) → AllIts Q xs → AllIts S xs
  all-with Q S [] f p = tt
  all-with Q S (x ∷ xs) f p = (f x p.0, all-with Q S xs f p.1)

  first-faults : (f : Fault) → IsIn f (fails TA ++ total_faults s (given TA)) → IsIn (named f) early
  first-faults f i =
      ⊎_elim (λ l. fails-all (λ f. IsIn (named f) early) TA (all-with Early _ TA (λ it q. q.0) (early-nodes (nodes loop.graph) (λ z i. i))) f l)
      (λ r. total_faults-of (λ f. IsIn (named f) early) (given TA) (λ c q. gives-all (λ c. IsIn (named (total_fault c.total)) early) TA (all-with Early _ TA (λ it q. q.1) (early-nodes (nodes loop.graph) (λ z i. i))) c q) s f r)
      (in-either f (fails TA) (total_faults s (given TA)) i)

  abbrev M : List Contribution
  M = parts.gives

  one-w : OneReduction (given TW)
  one-w = one-turns ds some loop depths known m key k at here h test (Then a b) s apart owner range flat-test its inner-w alone-w spares-w

  -- each slot has one target among those of both parts
  one-both : OneReduction (given TA ++ M)
  one-both c d slot i j = one-w c d slot (IsIn-same c (SameBag-sym parts.same_gives) i) (IsIn-same d (SameBag-sym parts.same_gives) j)

  -- where both give to one slot, the first part does so under a lesser number
  numbers : (c d : Contribution) (slot : Slot) → IsIn c (given TA) → IsIn d M → has_slot slot c.slots ≡ true → has_slot slot d.slots ≡ true → statement_of c < statement_of d
  numbers c d slot i q p r =
      let first = gives-one ds some loop depths known m key k at here h test a s apart owner range flat-test its inner-a alone-a spares-a c i slot p in
      let second = gives-one ds some loop depths known m key k at here h test rest s1 apart owner range flat-test its inner-r alone-r spares-r d (parts.total d q).1 slot r in
      let member = gives-rest second.0 second.1 in
      let less = before-all (reduced ds loop.outer true a) (reduced ds loop.outer true b) first.0 second.0 (variable slot) others first.1 member first.2 second.2 in
      let x = first.3 in
      let y = second.3 in
      omega arith

  in-target : (slots : List Slot) (cs : List Contribution) (c : Contribution) → IsIn c (to_target slots cs) → IsIn c cs × (slots ≡ c.slots)
  in-target slots cs c i = let r = IsIn-filter (λ (c : Contribution). slots_eq slots c.slots) c cs i in (r.0, slots_eq-true slots c.slots r.1)

  -- a slot of a target to which both give
  one-slot : (slots : List Slot) (c d : Contribution) → IsIn c (to_target slots (given TA)) → IsIn d (to_target slots M) → (slot : Slot) × (has_slot slot c.slots ≡ true) × (has_slot slot d.slots ≡ true)
  one-slot slots c d i j =
      let p = in-target slots (given TA) c i in
      let q = in-target slots M d j in
      by slots p.1 q.1 p.0
    where
      by : (slots : List Slot) → slots ≡ c.slots → slots ≡ d.slots → IsIn c (given TA) → (slot : Slot) × (has_slot slot c.slots ≡ true) × (has_slot slot d.slots ≡ true)
      by [] e f l = absurd (some-slot ds some loop depths known m key k at here h test a s apart owner range flat-test its inner-a alone-a spares-a c l (sym e))
      by (slot ∷ slots) e f l = (slot, ap (has_slot slot) (sym e) ∙ has_first slot slots, ap (has_slot slot) (sym f) ∙ has_first slot slots)

  in-turn : (slots : List Slot) → Before (to_target slots (given TA)) (to_target slots M)
  in-turn slots = record {
    numbers = λ c d i j. let o = one-slot slots c d i j in numbers c d o.0 (in-target slots (given TA) c i).0 (in-target slots M d j).0 o.1 o.2;
    reduces = λ c d i j. let o = one-slot slots c d i j in (one-both c d o.0 (in-left c (given TA) M (in-target slots (given TA) c i).0) (in-right d (given TA) M (in-target slots M d j).0) o.1 o.2).0;
  }

  abbrev InEarly : Fault → Type 0
  InEarly f = IsIn (named f) early

  ordered : (f g : Fault) → InEarly f → LateFault g → comes_before (rank_of g) (rank_of f) ≡ false
  ordered f g i j = fault-order f g (lies-in early (faults_of js b) (named f) (named g) order i j)

  early-totals : (c : Contribution) → IsIn c (given TA) → InEarly (total_fault c.total)
  early-totals c i = gives-all (λ c. InEarly (total_fault c.total)) TA (all-with Early _ TA (λ it q. q.1) (early-nodes (nodes loop.graph) (λ z i. i))) c i

  late-totals : (c : Contribution) → IsIn c M → LateFault (total_fault c.total)
  late-totals c i = (parts.total c i).0

  distinct : (c : Contribution) → IsIn c (given TA) → Distinct c.slots
  distinct = distinct-slots ds some loop depths known m key k at here h test a s apart owner range flat-test its inner-a alone-a spares-a

  abbrev FA : List Fault
  FA = fails TA

  abbrev XA : List Fault
  XA = total_faults s (given TA)

  abbrev XW : List Fault
  XW = total_faults s (given TA ++ M)

  abbrev X1 : List Fault
  X1 = total_faults s1 M

  second-totals : (f : Fault) → IsIn f X1 → LateFault f
  second-totals f i = total_faults-of LateFault M late-totals s1 f i

  -- the totals' faults are those of the first part, and late ones
  totals-by : (o : Option Fault) → least XA ≡ o → (zs : List Fault) × ((f : Fault) → IsIn f zs → LateFault f) × (least XW ≡ least (XA ++ zs))
  totals-by (Some f) e = ([], λ g i. absurd i, fault-of_first s (given TA) M InEarly LateFault ordered early-totals late-totals in-turn distinct one-both f e ∙ sym e ∙ ap least (sym (append-nil XA)))
  totals-by None e = (X1, second-totals, fault-of_second s (given TA) M InEarly LateFault ordered early-totals late-totals in-turn distinct one-both e ∙ ap (λ l. least (l ++ X1)) (sym (least-nothing XA e)))

  swapped : {A : Type 0} (xs ys us vs : List A) → SameBag ((xs ++ ys) ++ (us ++ vs)) ((xs ++ us) ++ (ys ++ vs))
  swapped xs ys us vs =
      subst (λ l. SameBag l ((xs ++ us) ++ (ys ++ vs))) (sym (append_assoc xs ys (us ++ vs)))
      (subst (λ l. SameBag (xs ++ (ys ++ (us ++ vs))) l) (sym (append_assoc xs us (ys ++ vs))) (SameBag-append_left xs (exchanged ys us vs)))

  abbrev next : Store → Result Store Fault
  next t = parallel loop key (Property loop.outer m at) (Foreach k here h test rest) (nodes loop.graph) t

  whole-totals : least (total_faults s (given TW)) ≡ least XW
  whole-totals = total_faults-same s one-w parts.same_gives

  -- the first part's least fault is that of the whole
  whole-first : (f : Fault) → least (FA ++ XA) ≡ Some f → least (fails TW ++ total_faults s (given TW)) ≡ Some f
  whole-first f e =
      let t = totals-by (least XA) refl in
      least-parts (fails TW) (total_faults s (given TW)) (FA ++ parts.faults) (XA ++ t.0) (least-same parts.same_faults) (whole-totals ∙ t.2)
      ∙ least-same (swapped FA parts.faults XA t.0)
      ∙ least-of_first (FA ++ XA) (parts.faults ++ t.0) f e
      (all-after f (parts.faults ++ t.0) (λ g i. ordered f g (first-faults f (least-in (FA ++ XA) f e)) (⊎_elim (λ l. parts.late g l) (λ r. t.1 g r) (in-either g parts.faults t.0 i))))

  inner-cut : parallel loop key (Property loop.outer m at) (Foreach k here h test (Then a b)) (nodes loop.graph) s ≡ then_with (parallel loop key (Property loop.outer m at) (Foreach k here h test a) (nodes loop.graph) s) next
  inner-cut =
      by-turns ds some loop depths known m key k at here h test (Then a b) s apart owner range flat-test its inner-w alone-w spares-w
      ∙ by (least (FA ++ XA)) refl
      ∙ sym (ap (λ r. then_with r next) (by-turns ds some loop depths known m key k at here h test a s apart owner range flat-test its inner-a alone-a spares-a))
    where
      by : (o : Option Fault) → least (FA ++ XA) ≡ o → unless_fault (least (fails TW ++ total_faults s (given TW))) (Ok (settled_store s (given TW))) ≡ then_with (unless_fault (least (FA ++ XA)) (Ok s1)) next
      by (Some f) e = ap (λ o. unless_fault o (Ok (settled_store s (given TW)))) (whole-first f e) ∙ sym (ap (λ o. then_with (unless_fault o (Ok s1)) next) e)
      by None e =
          ap (λ o. unless_fault o (Ok (settled_store s (given TW)))) faults ∙ ended (least (fails TR ++ total_faults s1 (given TR))) refl
          ∙ sym (by-turns ds some loop depths known m key k at here h test rest s1 apart owner range flat-test its inner-r alone-r spares-r)
          ∙ sym (ap (λ o. then_with (unless_fault o (Ok s1)) next) e)
        where
          nothing : (FA ≡ []) × (XA ≡ [])
          nothing = nil-both FA XA (least-nothing (FA ++ XA) e)

          all : (parts.faults ≡ fails TR) × (M ≡ given TR)
          all = parts.all nothing.0

          none : least XA ≡ None
          none = ap least nothing.1

          faults : least (fails TW ++ total_faults s (given TW)) ≡ least (fails TR ++ total_faults s1 (given TR))
          faults =
              least-parts (fails TW) (total_faults s (given TW)) (fails TR) (total_faults s1 (given TR))
              (least-same parts.same_faults ∙ ap (λ l. least (l ++ parts.faults)) nothing.0 ∙ ap least all.0)
              (whole-totals ∙ fault-of_second s (given TA) M InEarly LateFault ordered early-totals late-totals in-turn distinct one-both none ∙ ap (λ l. least (total_faults s1 l)) all.1)

          ended : (o : Option Fault) → least (fails TR ++ total_faults s1 (given TR)) ≡ o → unless_fault (least (fails TR ++ total_faults s1 (given TR))) (Ok (settled_store s (given TW))) ≡ unless_fault (least (fails TR ++ total_faults s1 (given TR))) (Ok (settled_store s1 (given TR)))
          ended (Some f) q = ap (λ o. unless_fault o (Ok (settled_store s (given TW)))) q ∙ sym (ap (λ o. unless_fault o (Ok (settled_store s1 (given TR)))) q)
          ended None q =
              let fine : total_faults s1 (given TR) ≡ [] = (nil-both (fails TR) (total_faults s1 (given TR)) (least-nothing (fails TR ++ total_faults s1 (given TR)) q)).1 in
              let well : least X1 ≡ None = ap (λ l. least (total_faults s1 l)) all.1 ∙ ap least fine in
              ap (λ t. unless_fault (least (fails TR ++ total_faults s1 (given TR))) (Ok t))
              (settled_store-same s one-w parts.same_gives ∙ store-of_both s (given TA) M InEarly LateFault ordered early-totals late-totals in-turn distinct one-both none well ∙ ap (settled_store s1) all.1)

-- the law of inner loops that are cut
pub inner-loops-cut : InnerLoopsCut
inner-loops-cut = λ ds some loop m key k at here h test a b s knows cut.
    let n = loop.outer in
    let its = n ∷ h.iterator ∷ [] in
    let given = given_by ds n a in
    let rest = Then (quiet ds n a) b in
    let c1 = both-true (is_outer_body ds false n (Foreach k here h test (Then a b))) _ cut in
    let c2 = both-true (is_outer_body ds false n (Foreach k here h test rest)) _ c1.1 in
    let c3 = both-true (stands_alone ds some n (Then a b)) _ c2.1 in
    let c4 = both-true (stands_alone ds some n a) _ c3.1 in
    let c5 = both-true (stands_alone ds some n rest) _ c4.1 in
    let c6 = both-true (spares_locals ds (Then a b)) _ c5.1 in
    let c7 = both-true (spares_locals ds rest) _ c6.1 in
    let c8 = both-true (never_writes n (Then a b)) _ c7.1 in
    let c9 = both-true (lie_before (faults_in (Both (Property n m at) test) k ++ faults_of (h.iterator ∷ n ∷ []) a) (faults_of (h.iterator ∷ n ∷ []) b)) _ c8.1 in
    let c10 = both-true (all_stand_before (reduced ds n true a) (reduced ds n true b)) _ c9.1 in
    let c11 = both-true (not (is_in given n)) _ c10.1 in
    let c12 = both-true (spares given (Both (Property n m at) test)) (reads_none ds n given its rest && not (is_in (touched (Then a b)) h.iterator)) c11.1 in
    let c13 = both-true (reads_none ds n given its rest) (not (is_in (touched (Then a b)) h.iterator)) c12.1 in
    let w = lone ds n k here h test (Then a b) c1.0 in
    let r = lone ds n k here h test rest c2.0 in
    let own : is_in its n ≡ true = ap (λ o. o || is_in (h.iterator ∷ []) n) (eq-eqb n n refl) in
    let inner = both-true (is_inner_body ds its true a) (is_inner_body ds its true b) w.inner in
    let kn = both-true (reads_none ds n given its (quiet ds n a)) (reads_none ds n given its b) c13.0 in
    let out = not-in given n c11.0 in
    let held : (x y : ℕ) → (both-at n h.iterator s x y).scalar n ≡ At (Some x) = λ x y. ap (λ c. cond c (At (Some y)) ((write s (Scalar n) (At (Some x))).scalar n)) w.apart ∙ ap (λ c. cond c (At (Some x)) (s.scalar n)) (eq-eqb n n refl) in
    inner-cut ds some loop knows.depth (λ p e. knows.pushed_is p ∙ e) m key k at here h test a b rest s w.apart w.owner w.range w.test_flat its own w.inner r.inner
    (stands ds some n (Then a b) c3.0) (stands ds some n a c4.0) (stands ds some n rest c5.0) c6.0 c7.0 c8.0 c9.0 c10.0 c12.0
    (λ q i. subst (λ l. IsIn q (l ++ reduced ds n true b)) (quiet-reduces ds n a its inner.0) i)
    (λ u agree x y e xb yb d.
    behind-quieter ds loop knows.depth given its x e own a b (begun (both-at n h.iterator s x y)) (begun (both-at n h.iterator u x y)) inner.0 inner.1 kn.0 kn.1 d refl
    (record {
      agree = begun-agree (Untouched given) n h.iterator s u x y agree;
      nothing = refl;
      follows = record { slots = λ slot. inr (refl, refl); edge = agree.edge; iterator = held x y; with_inner = refl; with_outermost = refl; deferred = refl; fault = refl; inner_good = tt };
    }))
    knows.graph (not-true (is_in (touched (Then a b)) h.iterator) c13.1) (turned n h.iterator) w.test_reads

-- a leaf that gives nothing
gives-none : (d : Bool) (q : Reduced) (s : Stmt) (ds : List Declaration) (n : ℕ) → reduced ds n true s ≡ [] → IsIn q (reduced ds n true (cond d s Skip)) → ⊥
gives-none true q s ds n e i = subst (IsIn q) e i
gives-none false q s ds n e i = i

-- what is evaluated of a body gives what that gives, or nothing where it is evaluated again
kept-gives : (ds : List Declaration) (its : List ℕ) (n : ℕ) (new : Bool) (s : Stmt) (xs : List ℕ) (q : Reduced) → is_inner_body ds its true s ≡ true → IsIn q (reduced ds n true (kept ds its n new s xs)) → (new ≡ true) × IsIn q (reduced ds n true s)
kept-gives ds its n new Skip xs q g i = absurd i
kept-gives ds its n new (Then a b) xs q g i =
    let ys = needs ds its n new b xs in
    let o = both-true (is_inner_body ds its true a) (is_inner_body ds its true b) g in
    ⊎_elim (λ l. let r = kept-gives ds its n new a ys q o.0 l in (r.0, in-left q (reduced ds n true a) (reduced ds n true b) r.1)) (λ l. let r = kept-gives ds its n new b xs q o.1 l in (r.0, in-right q (reduced ds n true a) (reduced ds n true b) r.1))
    (in-either q (reduced ds n true (kept ds its n new a ys)) (reduced ds n true (kept ds its n new b xs)) i)
kept-gives ds its n new (Declare k x e) xs q g i = absurd (gives-none (serves ds its n new xs (Declare k x e)) q (Declare k x e) ds n refl i)
kept-gives ds its n new (DeclareEdge x z at) xs q g i = absurd i
kept-gives ds its n new (Assign k t e) xs q g i = absurd (gives-none (serves ds its n new xs (Assign k t e)) q (Assign k t e) ds n refl i)
kept-gives ds its n new (Defer k t e) xs q g i = absurd (both_ways false refl g)
kept-gives ds its n new (Combine k total op ts es) xs q g i = by (are_at_once ds n true ts) refl new refl (serves ds its n new xs (Combine k total op ts es)) refl i
  where
    s : Stmt
    s = Combine k total op ts es

    by : (b : Bool) → are_at_once ds n true ts ≡ b → (o : Bool) → new ≡ o → (d : Bool) → serves ds its n new xs s ≡ d → IsIn q (reduced ds n true (cond d s Skip)) → (new ≡ true) × IsIn q (reduced ds n true s)
    by b e o is false f i = absurd i
    by true e o is true f i = absurd (subst (λ b. IsIn q (cond b [] (reduced_by ds n total.key.statement op ts ∷ []))) e i)
    by false e true is true f i = (is, i)
    by false e false is true f i =
        absurd (both_ways (serves ds its n new xs s) (ap (λ b. serves ds its n b xs s) is ∙ ap (λ b. list_any (is_in xs) (cond b (variables_of ts) []) || false) e) f)
kept-gives ds its n new (Group k at x p e) xs q g i = absurd (both_ways false refl g)
kept-gives ds its n new (Foreach k at h test body) xs q g i = absurd (both_ways false refl g)
kept-gives ds its n new (For k at h test body) xs q g i = absurd (both_ways false refl g)
kept-gives ds its n new (If k c a b) xs q g i = by (λ l. kept-gives ds its n new a xs q forms.0 l) (λ l. kept-gives ds its n new b xs q forms.1 l) (serves ds its n new xs (If k c a b)) i
  where
    forms : (is_inner_body ds its true a ≡ true) × (is_inner_body ds its true b ≡ true)
    forms = both-true (is_inner_body ds its true a) (is_inner_body ds its true b) (both-true _ (is_inner_body ds its true a && is_inner_body ds its true b) g).1

    by : (IsIn q (reduced ds n true (kept ds its n new a xs)) → (new ≡ true) × IsIn q (reduced ds n true a)) → (IsIn q (reduced ds n true (kept ds its n new b xs)) → (new ≡ true) × IsIn q (reduced ds n true b)) →
        (d : Bool) → IsIn q (reduced ds n true (cond d (If k c (kept ds its n new a xs) (kept ds its n new b xs)) Skip)) → (new ≡ true) × IsIn q (reduced ds n true a ++ reduced ds n true b)
    by go stop false i = absurd i
    by go stop true i =
        ⊎_elim (λ l. let r = go l in (r.0, in-left q (reduced ds n true a) (reduced ds n true b) r.1)) (λ l. let r = stop l in (r.0, in-right q (reduced ds n true a) (reduced ds n true b) r.1))
        (in-either q (reduced ds n true (kept ds its n new a xs)) (reduced ds n true (kept ds its n new b xs)) i)
kept-gives ds its n new (While k at c body) xs q g i = absurd (both_ways false refl g)
kept-gives ds its n new (Do k at body c) xs q g i = absurd (both_ways false refl g)
kept-gives ds its n new (InBfs k at h c body) xs q g i = absurd (both_ways false refl g)
kept-gives ds its n new (InBfsBoth k at h c body back_key d back) xs q g i = absurd (both_ways false refl g)
kept-gives ds its n new (Return k at e) xs q g i = absurd (both_ways false refl g)

around-two : (n t v : ℕ) → is_in (n ∷ t ∷ []) v ≡ true → (v ≡ n) ⊎ (v ≡ t)
around-two n t v h = by (nat_eq v n) (nat_eq v t) refl refl h
  where
    by : (b c : Bool) → nat_eq v n ≡ b → nat_eq v t ≡ c → b || (c || false) ≡ true → (v ≡ n) ⊎ (v ≡ t)
    by true c e f h = inl (eqb-true v n e)
    by false true e f h = inr (eqb-true v t f)
    by false false e f h = absurd (both_ways false refl h)

read-any : (rs : List Read) (r : Read) → IsIn r rs → IsIn r.property (read_anywhere rs)
read-any [] r i = absurd i
read-any (q ∷ rs) r i = ⊎_elim (λ (e : r ≡ q). inl (ap (λ (z : Read). z.property) e)) (λ j. inr (read-any rs r j)) i

-- the law of inner loops that go on behind others
pub inner-loops-resume : InnerLoopsResume
inner-loops-resume = λ ds some loop m key k at here h test a b s knows cut.
    let n = loop.outer in
    let its = n ∷ h.iterator ∷ [] in
    let given = given_by ds n a in
    let rest = resumed ds its n a b in
    let xs = needs ds its n false a (needs ds its n true b []) in
    let ps = read_anywhere (sights_of ds n true rest).properties in
    let c1 = both-true (is_outer_body ds false n (Foreach k here h test (Then a b))) _ cut in
    let c2 = both-true (is_outer_body ds false n (Foreach k here h test rest)) _ c1.1 in
    let c3 = both-true (stands_alone ds some n (Then a b)) _ c2.1 in
    let c4 = both-true (stands_alone ds some n a) _ c3.1 in
    let c5 = both-true (stands_alone ds some n rest) _ c4.1 in
    let c6 = both-true (spares_locals ds (Then a b)) _ c5.1 in
    let c7 = both-true (spares_locals ds rest) _ c6.1 in
    let c8 = both-true (never_writes n (Then a b)) _ c7.1 in
    let c9 = both-true (lie_before (faults_in (Both (Property n m at) test) k ++ faults_of (h.iterator ∷ n ∷ []) a) (faults_of (h.iterator ∷ n ∷ []) b)) _ c8.1 in
    let c10 = both-true (all_stand_before (reduced ds n true a) (reduced ds n true b)) _ c9.1 in
    let c11 = both-true (spares given (Both (Property n m at) test)) (disjoint given (xs ++ ps) && not (is_in (touched (Then a b)) h.iterator)) c10.1 in
    let c12 = both-true (disjoint given (xs ++ ps)) (not (is_in (touched (Then a b)) h.iterator)) c11.1 in
    let w = lone ds n k here h test (Then a b) c1.0 in
    let r = lone ds n k here h test rest c2.0 in
    let own : is_in its n ≡ true = ap (λ o. o || is_in (h.iterator ∷ []) n) (eq-eqb n n refl) in
    let inner = both-true (is_inner_body ds its true a) (is_inner_body ds its true b) w.inner in
    let never = both-true (never_writes n a) (never_writes n b) c8.0 in
    let off = not-true (is_in (touched (Then a b)) h.iterator) c12.1 in
    let offs = in-append h.iterator (touched a) (touched b) off in
    let ka = kept ds its n false a (needs ds its n true b []) in
    let kb = kept ds its n true b [] in
    inner-cut ds some loop knows.depth (λ p e. knows.pushed_is p ∙ e) m key k at here h test a b rest s w.apart w.owner w.range w.test_flat its own w.inner r.inner
    (stands ds some n (Then a b) c3.0) (stands ds some n a c4.0) (stands ds some n rest c5.0) c6.0 c7.0 c8.0 c9.0 c10.0 c11.0
    (λ q i.
    ⊎_elim (λ l. let bad : false ≡ true = (kept-gives ds its n false a (needs ds its n true b []) q inner.0 l).0 in absurd (cc)) (λ l. (kept-gives ds its n true b [] q inner.1 l).1) (in-either q (reduced ds n true ka) (reduced ds n true kb) i))
    (λ u agree x y e xb yb d.
    behind-resumed ds loop knows.depth given its h.iterator x y e xb yb (around-two n h.iterator) own a b (begun (both-at n h.iterator s x y)) (begun (both-at n h.iterator u x y)) inner.0 inner.1 never.0 never.1 offs.0 offs.1
    (λ q i g. disjoint-apart given (xs ++ ps) q.property c12.0 g (in-right q.property xs ps (read-any (sights_of ds n true rest).properties q i))) d refl
    (record {
      agree = begun-agree (Needed given xs) n h.iterator s u x y (record { at = λ slot good. agree.at slot (free given xs ps c12.0 slot good); edge = agree.edge });
      outer = ap (λ c. cond c (At (Some y)) ((write s (Scalar n) (At (Some x))).scalar n)) w.apart ∙ ap (λ c. cond c (At (Some x)) (s.scalar n)) (eq-eqb n n refl);
      inner = ap (λ c. cond c (At (Some y)) ((write s (Scalar n) (At (Some x))).scalar h.iterator)) (eq-eqb h.iterator h.iterator refl);
      nothing = refl;
      nothing_then = refl;
      gives = refl;
      deferred = refl;
      fault = refl;
    }))
    knows.graph off (turned n h.iterator) w.test_reads
  where
    Needed : List ℕ → List ℕ → Slot → Type 0
    Needed given xs (Scalar v) = IsIn v xs
    Needed given xs (Node p k) = IsIn p given → ⊥

    free : (given xs ps : List ℕ) → disjoint given (xs ++ ps) ≡ true → (slot : Slot) → Needed given xs slot → Untouched given slot
    free given xs ps h (Scalar v) i = λ g. disjoint-apart given (xs ++ ps) v h g (in-left v xs ps i)
    free given xs ps h (Node p k) o = o

-- ---- an inner loop alone

module _ (ds : List Declaration) (some : List ℕ) (loop : Loop) (depths : (y : ℕ) → loop.depth y ≡ depth_at ds y) (known : (p : ℕ) → is_in some p ≡ true → loop.pushed p ≡ true)
    (m : ℕ) (key k : Key) (at here : Place) (h : Head) (test : Expr) (a r : Stmt) (s : Store) (apart : nat_eq h.iterator loop.outer ≡ false) (owner : h.owner ≡ loop.outer) (range : is_range false h.domain ≡ true)
    (flat-test : IsFlat test) (its : List ℕ) (inner-a : is_inner_body ds its true a ≡ true) (inner-r : is_inner_body ds its true r ≡ true) (alone-a : Stands ds some loop.outer a) (alone-r : Stands ds some loop.outer r)
    (spares-a : spares_locals ds a ≡ true) (spares-r : spares_locals ds r ≡ true) (graph : IsGraph loop.graph)
    (alike : (x y e : ℕ) → x < node_count loop.graph → y < node_count loop.graph →
    ((does a (AtEdge e) (ends_late loop) (begun (both-at loop.outer h.iterator s x y))).fault ≡ (does r (AtEdge e) (ends_late loop) (begun (both-at loop.outer h.iterator s x y))).fault)
    × ((does a (AtEdge e) (ends_late loop) (begun (both-at loop.outer h.iterator s x y))).with_outermost ≡ (does r (AtEdge e) (ends_late loop) (begun (both-at loop.outer h.iterator s x y))).with_outermost)) where
  abbrev turn-a : ℕ → Step → Iteration
  turn-a x e = turn ds some loop depths known m key k at here h test a s apart owner range flat-test its inner-a alone-a spares-a x e

  abbrev turn-r : ℕ → Step → Iteration
  turn-r x e = turn ds some loop depths known m key k at here h test r s apart owner range flat-test its inner-r alone-r spares-r x e

  abbrev SameTurn : Iteration → Iteration → Type 0
  SameTurn i j = (i.fault ≡ j.fault) × (i.with_outermost ≡ j.with_outermost)

  turn-alike : (x : ℕ) (e : Step) → x < node_count loop.graph → e.node < node_count loop.graph → SameTurn (turn-a x e) (turn-r x e)
  turn-alike x e xb eb = by (value (Both (Property loop.outer m at) test) (view_in loop (AtEdge e.edge) i k))
    where
      i : Iteration
      i = begun (both-at loop.outer h.iterator s x e.node)

      by : (v : Answer) → SameTurn (with_ok i v (λ v. one_way (is_true v) (does a (AtEdge e.edge) (ends_late loop)) as_it_is i)) (with_ok i v (λ v. one_way (is_true v) (does r (AtEdge e.edge) (ends_late loop)) as_it_is i))
      by (Err f) = (refl, refl)
      by (Ok v) = way (is_true v)
        where
          way : (o : Bool) → SameTurn (one_way o (does a (AtEdge e.edge) (ends_late loop)) as_it_is i) (one_way o (does r (AtEdge e.edge) (ends_late loop)) as_it_is i)
          way true = alike x e.node e.edge xb eb
          way false = (refl, refl)

  steps-alike : {A : Type 0} (F : Iteration → A) (x : ℕ) (l : List Step) → ((e : Step) → IsIn e l → F (turn-a x e) ≡ F (turn-r x e)) → map F (map (turn-a x) l) ≡ map F (map (turn-r x) l)
  steps-alike F x [] h = refl
  steps-alike F x (e ∷ l) h = ap (λ v. v ∷ map F (map (turn-a x) l)) (h e (inl refl)) ∙ ap (λ vs. F (turn-r x e) ∷ vs) (steps-alike F x l (λ d i. h d (inr i)))

  nodes-alike : {A : Type 0} (F : Iteration → A) (zs : List ℕ) → ((x : ℕ) (e : Step) → IsIn x zs → IsIn e (along h.domain loop.graph x) → F (turn-a x e) ≡ F (turn-r x e)) →
      map F (joined (map (λ x. map (turn-a x) (along h.domain loop.graph x)) zs)) ≡ map F (joined (map (λ x. map (turn-r x) (along h.domain loop.graph x)) zs))
  nodes-alike F [] f = refl
  nodes-alike F (z ∷ zs) f =
      let l = along h.domain loop.graph z in
      map-append F (map (turn-a z) l) (joined (map (λ x. map (turn-a x) (along h.domain loop.graph x)) zs))
      ∙ ap (λ vs. vs ++ map F (joined (map (λ x. map (turn-a x) (along h.domain loop.graph x)) zs))) (steps-alike F z l (λ e i. f z e (inl refl) i))
      ∙ ap (λ vs. map F (map (turn-r z) l) ++ vs) (nodes-alike F zs (λ x e i. f x e (inr i)))
      ∙ sym (map-append F (map (turn-r z) l) (joined (map (λ x. map (turn-r x) (along h.domain loop.graph x)) zs)))

  all-alike : {A : Type 0} (F : Iteration → A) → ((i j : Iteration) → SameTurn i j → F i ≡ F j) →
      map F (turns ds some loop depths known m key k at here h test a s apart owner range flat-test its inner-a alone-a spares-a) ≡ map F (turns ds some loop depths known m key k at here h test r s apart owner range flat-test its inner-r alone-r spares-r)
  all-alike F f = nodes-alike F (nodes loop.graph) (λ x e i j. f (turn-a x e) (turn-r x e) (turn-alike x e (nodes-below loop.graph x i) (along-within loop s k graph h.domain x e j)))

  same-loop : parallel loop key (Property loop.outer m at) (Foreach k here h test a) (nodes loop.graph) s ≡ parallel loop key (Property loop.outer m at) (Foreach k here h test r) (nodes loop.graph) s
  same-loop =
      by-turns ds some loop depths known m key k at here h test a s apart owner range flat-test its inner-a alone-a spares-a
      ∙ ap (λ l. unless_fault (least (somes l ++ total_faults s gave-a)) (Ok (settled_store s gave-a))) (all-alike (λ it. it.fault) (λ i j q. q.0))
      ∙ ap (λ l. unless_fault (least (failed-r ++ total_faults s (joined l))) (Ok (settled_store s (joined l)))) (all-alike (λ it. it.with_outermost) (λ i j q. q.1))
      ∙ sym (by-turns ds some loop depths known m key k at here h test r s apart owner range flat-test its inner-r alone-r spares-r)
    where
      gave-a : List Contribution
      gave-a = given (turns ds some loop depths known m key k at here h test a s apart owner range flat-test its inner-a alone-a spares-a)

      failed-r : List Fault
      failed-r = fails (turns ds some loop depths known m key k at here h test r s apart owner range flat-test its inner-r alone-r spares-r)

-- the law of inner loops without what nothing needs
pub inner-loops-trim : InnerLoopsTrim
inner-loops-trim = λ ds some loop m key k at here h test body s knows may.
    let n = loop.outer in
    let its = n ∷ h.iterator ∷ [] in
    let rest = kept ds its n true body [] in
    let c1 = both-true (is_outer_body ds false n (Foreach k here h test body)) _ may in
    let c2 = both-true (is_outer_body ds false n (Foreach k here h test rest)) _ c1.1 in
    let c3 = both-true (stands_alone ds some n body) _ c2.1 in
    let c4 = both-true (stands_alone ds some n rest) _ c3.1 in
    let c5 = both-true (spares_locals ds body) _ c4.1 in
    let c6 = both-true (spares_locals ds rest) _ c5.1 in
    let c7 = both-true (never_writes n body) (not (is_in (touched body) h.iterator)) c6.1 in
    let w = lone ds n k here h test body c1.0 in
    let r = lone ds n k here h test rest c2.0 in
    let own : is_in its n ≡ true = ap (λ o. o || is_in (h.iterator ∷ []) n) (eq-eqb n n refl) in
    same-loop ds some loop knows.depth (λ p e. knows.pushed_is p ∙ e) m key k at here h test body rest s w.apart w.owner w.range w.test_flat its w.inner r.inner (stands ds some n body c3.0) (stands ds some n rest c4.0) c5.0 c6.0 knows.graph
    (λ x y e xb yb.
    kept-alike ds loop knows.depth [] its h.iterator x y e xb yb (around-two n h.iterator) own body (begun (both-at n h.iterator s x y)) w.inner c7.0 (not-true (is_in (touched body) h.iterator) c7.1) (λ q i o. o) refl refl refl
    (ap (λ c. cond c (At (Some y)) ((write s (Scalar n) (At (Some x))).scalar n)) w.apart ∙ ap (λ c. cond c (At (Some x)) (s.scalar n)) (eq-eqb n n refl))
    (ap (λ c. cond c (At (Some y)) ((write s (Scalar n) (At (Some x))).scalar h.iterator)) (eq-eqb h.iterator h.iterator refl)))
