-- The loop of an inner loop that stands alone is what all its edges give.
use Rattle.std.proofs.Common.{◌≡◌, ◌≢◌, ◌<◌, ◌+◌, arith, ℕ, zero, suc, Bool, true, false, cond, List, [], ◌∷◌, ◌++◌, map, filter, refl, sym, ap, ◌∙◌, Some, None, Result, Ok, Err, ⊎_elim}
use Rattle.std.specs.Prelude.{◌&&◌, ◌||◌, not, nat_eq}
use Rattle.std.specs.List.{list_all, list_any}
use Rattle.std.proofs.lemmas.Bool.{cases_Bool, eq-eqb, lt-ltb, both_ways}
use Rattle.gm_base.specs.declared.places.Place.{Place}
use Rattle.gm_value.specs.declared.values.Value.{Value}
use Rattle.gm_value.specs.declared.values.Value.TheVariants.{At}
use Rattle.gm_value.specs.Bag.{IsIn}
use Rattle.gm_value.specs.Operations.{is_true}
use Rattle.gm_model.specs.Graphs.{NumberedGraph, Step, node_count, out_steps, in_steps}
use Rattle.gm_ast.specs.declared.tree.Declaration.{Declaration}
use Rattle.gm_ast.specs.declared.tree.Domain.{Domain}
use Rattle.gm_ast.specs.declared.tree.Domain.TheVariants.{Nodes, OutNbrs, InNbrs, UpNbrs, DownNbrs}
use Rattle.gm_ast.specs.declared.tree.Head.{Head}
use Rattle.gm_ast.specs.declared.tree.Key.{Key}
use Rattle.gm_ast.specs.declared.tree.Target.{Target}
use Rattle.gm_ast.specs.declared.tree.Target.TheVariants as T
use Rattle.gm_ast.specs.Program.{Expr, Const, Var, Property, EdgeProperty, Degree, NodeCount, EdgeCount, Live, Unary, Binary, Both, Either, Choose, Folded, Stmt, Then, Combine, Foreach, If}
use Rattle.gm_ast.specs.Ways.{is_in}
use Rattle.gm_semantics.specs.declared.faults.Fault.{Fault}
use Rattle.gm_semantics.specs.declared.slots.Slot.{Slot}
use Rattle.gm_semantics.specs.declared.slots.Slot.TheVariants.{Scalar, Node}
use Rattle.gm_semantics.specs.Stores.{Store, has_slot, write}
use Rattle.gm_semantics.specs.Levels.{numbers_from, nodes, node_in}
use Rattle.gm_semantics.specs.Faults.{first, least, somes, joined, then_with, unless_fault}
use Rattle.gm_semantics.specs.Expressions.{View, evaluated, value, settled, plain, both, node_held, steps_of, steps_in}
use Rattle.gm_semantics.specs.Contributions.{Contribution, settled_store, total_faults}
use Rattle.gm_semantics.specs.Iterations.{Loop, Iteration, begun, with_ok, one_way, as_it_is, Mode, Outermost, AtEdge, view_in, own_ends, WithOutermost, inner_done, turn_at, does}
use Rattle.gm_semantics.specs.Loops.{iteration, parallel}
use Rattle.gm_semantics.proofs.ContributionLaws.{IsIn-filter}
use Rattle.gm_semantics.proofs.TargetLaws.{never, value-away, read-settled}
use Rattle.gm_forms.specs.Cut.{spares_locals}
use Rattle.gm_forms.specs.Forms.{depth_at, is_range, is_inner_body, is_off, avoids}
use Rattle.gm_forms.specs.Sharing.{Reduced, written, reduced, all_one, targets_alike}
use Rattle.gm_forms.specs.Fission.{elsewhere_of, pushed_properties}
use Rattle.gm_forms.specs.Doing.{EachGiven, IsFlat}
use Rattle.gm_forms.proofs.Named.{both-true, all-append}
use Rattle.gm_forms.proofs.CutTests.{finds, not-true}
use Rattle.gm_forms.proofs.Doings.{does-did, each-append, each-in, gave-from}
use Rattle.gm_loop_laws.specs.Alone.{stands_alone}
use Rattle.gm_loop_laws.proofs.Joins.{map-compose, map-each, filter-joined}
use Rattle.gm_loop_laws.proofs.Settling.{store-same}
use Rattle.gm_loop_laws.proofs.LoopEnds.{in-joined, loop-ends}
use Rattle.gm_loop_laws.proofs.Locals.{without-locals}
use Rattle.gm_loop_laws.proofs.Splits.{ends_late, is_top, is_late_slot, end_by, compared, outer_given, inner_given, split, AllEndSo, BodyEndsSo, split-ok, split-one_way, split-does}
use Rattle.gm_loop_laws.proofs.Givens.{GivenBy, one-given, Free, body-may}

-- the nodes of a graph are below their count
numbers-below : (x k n : ℕ) → IsIn x (numbers_from k n) → x < n + k
numbers-below x k zero i = absurd i
numbers-below x k (suc n) i =
    ⊎_elim (λ (e : x ≡ k). omega arith) (λ r. let b = numbers-below x (suc k) n r in omega arith) i

pub nodes-below : (g : NumberedGraph) (x : ℕ) → IsIn x (nodes g) → x < node_count g
nodes-below g x i = let b = numbers-below x 0 (node_count g) i in omega arith

-- an expression of parallel code without reductions hoists nothing
pub hoists-nothing : (loop : Loop) (m : Mode) (it : Iteration) (k : Key) (e : Expr) → IsFlat e → (evaluated e (view_in loop m it k)).hoisted ≡ None
hoists-nothing loop m it k (Const v) g = refl
hoists-nothing loop m it k (Var x at) g = refl
hoists-nothing loop m it k (Property x p at) g = refl
hoists-nothing loop m it k (EdgeProperty x p at) g = refl
hoists-nothing loop m it k (Degree d x at) g = refl
hoists-nothing loop m it k NodeCount g = refl
hoists-nothing loop m it k EdgeCount g = refl
hoists-nothing loop m it k (Live x at) g = refl
hoists-nothing loop m it k (Unary op at e) g = hoists-nothing loop m it k e g
hoists-nothing loop m it k (Binary op at a b) g = ap (λ o. first o (evaluated b (view_in loop m it k)).hoisted) (hoists-nothing loop m it k a g.0) ∙ hoists-nothing loop m it k b g.1
hoists-nothing loop m it k (Both a b) g = ap (λ o. first o (evaluated b (view_in loop m it k)).hoisted) (hoists-nothing loop m it k a g.0) ∙ hoists-nothing loop m it k b g.1
hoists-nothing loop m it k (Either a b) g = ap (λ o. first o (evaluated b (view_in loop m it k)).hoisted) (hoists-nothing loop m it k a g.0) ∙ hoists-nothing loop m it k b g.1
hoists-nothing loop m it k (Choose c a b) g =
    ap (λ o. first o (first (evaluated a (view_in loop m it k)).hoisted (evaluated b (view_in loop m it k)).hoisted)) (hoists-nothing loop m it k c g.0)
    ∙ ap (λ o. first o (evaluated b (view_in loop m it k)).hoisted) (hoists-nothing loop m it k a g.1) ∙ hoists-nothing loop m it k b g.2
hoists-nothing loop m it k (Folded f head test e) g = absurd g

-- a store is what nothing leaves of it
pub settled-nothing : (s : Store) → settled_store s [] ≡ s
settled-nothing s = store-same (settled_store s []) s (λ slot. read-settled s [] slot ∙ value-away s slot [] (λ c i. absurd i)) refl

-- the steps of a range from a node
abbrev pub along : Domain → NumberedGraph → ℕ → List Step
along OutNbrs g n = out_steps g n
along InNbrs g n = in_steps g n
along Nodes g n = []
along UpNbrs g n = []
along DownNbrs g n = []

steps-along : (d : Domain) (w : View) (x : ℕ) → is_range false d ≡ true → steps_of w d (Some x) ≡ along d w.graph x
steps-along Nodes w x h = absurd (both_ways false refl h)
steps-along OutNbrs w x h = refl
steps-along InNbrs w x h = refl
steps-along UpNbrs w x h = absurd (both_ways false refl h)
steps-along DownNbrs w x h = absurd (both_ways false refl h)

pub steps-at : (h : Head) (w : View) (n x : ℕ) → h.owner ≡ n → w.store.scalar n ≡ At (Some x) → x < node_count w.graph → is_range false h.domain ≡ true → steps_in w h ≡ along h.domain w.graph x
steps-at h w n x e holds less range =
    ap (λ y. steps_of w h.domain (node_in w.graph (w.store.scalar y))) e
    ∙ ap (λ v. steps_of w h.domain (node_in w.graph v)) holds
    ∙ ap (λ c. steps_of w h.domain (cond c (Some x) None)) (lt-ltb x (node_count w.graph) less)
    ∙ steps-along h.domain w x range

-- what turns along steps give, and how they fault
abbrev pub gives : (Step → Iteration) → List Step → List Contribution
gives turn steps = joined (map (λ e. (turn e).with_outermost) steps)

abbrev pub faults : (Step → Iteration) → List Step → List Fault
faults turn steps = somes (map (λ e. (turn e).fault) steps)

-- turns that do nothing
idle-inner : (f : Step → Store) (steps : List Step) → joined (map (λ t. t.with_inner) (map (λ e. begun (f e)) steps)) ≡ []
idle-inner f [] = refl
idle-inner f (e ∷ steps) = idle-inner f steps

idle-outermost : (f : Step → Store) (steps : List Step) → joined (map (λ t. t.with_outermost) (map (λ e. begun (f e)) steps)) ≡ []
idle-outermost f [] = refl
idle-outermost f (e ∷ steps) = idle-outermost f steps

idle-fault : (f : Step → Store) (steps : List Step) → somes (map (λ t. t.fault) (map (λ e. begun (f e)) steps)) ≡ []
idle-fault f [] = refl
idle-fault f (e ∷ steps) = idle-fault f steps

pub idle : (s : Store) (f : Step → Store) (steps : List Step) → inner_done (begun s) (map (λ e. begun (f e)) steps) ≡ begun s
idle s f steps =
    let its = map (λ e. begun (f e)) steps in
    ap (λ cs. record (begun s) { store = settled_store s cs; with_outermost = joined (map (λ t. t.with_outermost) its); fault = least (somes (map (λ t. t.fault) its) ++ total_faults s cs) }) (idle-inner f steps)
    ∙ ap (λ cs. record (begun s) { store = settled_store s []; with_outermost = cs; fault = least (somes (map (λ t. t.fault) its) ++ total_faults s []) }) (idle-outermost f steps)
    ∙ ap (λ fs. record (begun s) { store = settled_store s []; fault = least (fs ++ total_faults s []) }) (idle-fault f steps)
    ∙ ap begun (settled-nothing s)

-- the end of an inner loop by what its turns give
module _ (loop : Loop) (outer : ℕ) (pushed pp : ℕ → Bool) (s : Store) (turn : Step → Iteration) (steps : List Step) where
  abbrev inner : Contribution → Bool
  inner = inner_given loop outer pushed pp

  abbrev pub ended : Iteration
  ended = inner_done (begun s) (map (λ e. split loop outer pushed pp (turn e)) steps)

  ended-inner : joined (map (λ t. t.with_inner) (map (λ e. split loop outer pushed pp (turn e)) steps)) ≡ filter inner (gives turn steps)
  ended-inner =
      ap joined (map-compose (λ t. t.with_inner) (λ e. split loop outer pushed pp (turn e)) steps)
      ∙ sym (filter-joined inner (map (λ e. (turn e).with_outermost) steps) ∙ ap joined (map-compose (filter inner) (λ e. (turn e).with_outermost) steps))

  pub ended-outermost : ended.with_outermost ≡ filter (outer_given loop outer pushed pp) (gives turn steps)
  ended-outermost =
      ap joined (map-compose (λ t. t.with_outermost) (λ e. split loop outer pushed pp (turn e)) steps)
      ∙ sym (filter-joined (outer_given loop outer pushed pp) (map (λ e. (turn e).with_outermost) steps) ∙ ap joined (map-compose (filter (outer_given loop outer pushed pp)) (λ e. (turn e).with_outermost) steps))

  pub ended-store : ended.store ≡ settled_store s (filter inner (gives turn steps))
  ended-store = ap (settled_store s) ended-inner

  pub ended-fault : ended.fault ≡ least (faults turn steps ++ total_faults s (filter inner (gives turn steps)))
  ended-fault =
      ap (λ cs. least (somes (map (λ t. t.fault) (map (λ e. split loop outer pushed pp (turn e)) steps)) ++ total_faults s cs)) ended-inner
      ∙ ap (λ fs. least (somes fs ++ total_faults s (filter inner (gives turn steps)))) (map-compose (λ t. t.fault) (λ e. split loop outer pushed pp (turn e)) steps)

-- what is known of a body that stands alone
pub record Stands (ds : List Declaration) (some : List ℕ) (n : ℕ) (body : Stmt) : Type 0 where
  pub pushes : list_all (is_in some) (pushed_properties n body) ≡ true
  pub one : all_one (reduced ds n true body) ≡ true
  pub alike : targets_alike body ≡ true
  pub iterator : is_in (written ds n true body) n ≡ false

pub stands : (ds : List Declaration) (some : List ℕ) (n : ℕ) (body : Stmt) → stands_alone ds some n body ≡ true → Stands ds some n body
stands ds some n body h =
    let last = not (is_in (written ds n true body) n) in
    let a = both-true (list_all (is_in some) (pushed_properties n body)) (all_one (reduced ds n true body) && (targets_alike body && last)) h in
    let b = both-true (all_one (reduced ds n true body)) (targets_alike body && last) a.1 in
    let c = both-true (targets_alike body) last b.1 in
    record { pushes = a.0; one = b.0; alike = c.0; iterator = not-true (is_in (written ds n true body) n) c.1 }

-- those of an inner body that avoids the outer node end with the outermost loop
pub avoided-ends-so : (loop : Loop) (outer : ℕ) (pushed : ℕ → Bool) (s : Stmt) → avoids outer s ≡ true → BodyEndsSo loop outer pushed (λ p. true) s
avoided-ends-so loop outer pushed (Then a b) h = let r = both-true (avoids outer a) (avoids outer b) h in (avoided-ends-so loop outer pushed a r.0, avoided-ends-so loop outer pushed b r.1)
avoided-ends-so loop outer pushed (If k c a b) h = let r = both-true (avoids outer a) (avoids outer b) h in (avoided-ends-so loop outer pushed a r.0, avoided-ends-so loop outer pushed b r.1)
avoided-ends-so loop outer pushed (Combine k total r ts es) h = each ts h
  where
    each : (ts : List Target) → list_all (is_off outer) ts ≡ true → AllEndSo loop outer pushed (λ p. true) ts
    each [] h = tt
    each (T.Scalar y at ∷ ts) h = (tt, each ts h)
    each (T.Property y q at ∷ ts) h =
        let r = both-true (not (nat_eq y outer)) (list_all (is_off outer) ts) h in
        ((λ e. ap (λ b. cond b (own_ends (AtEdge e) (pushed q)) WithOutermost) (not-true (nat_eq y outer) r.0)), each ts r.1)
avoided-ends-so loop outer pushed _ h = tt
