-- Totals of what is sent through node variables come behind all other faults of a loop where none of its spots comes behind those of Sums and Products.
use Rattle.std.proofs.Common.{◌≡◌, ◌<◌, ℕ, true, false, List, [], ◌∷◌, ◌++◌, map, refl, ap, ◌∙◌, sym, subst, inl, inr, ⊎_elim}
use Rattle.std.specs.Prelude.{◌&&◌, filter, nat_eq, if◌then◌else◌}
use Rattle.gm_base.specs.declared.places.Place.{Place}
use Rattle.gm_value.specs.declared.values.VType.TheVariants as V
use Rattle.gm_value.specs.Bag.{IsIn}
use Rattle.gm_model.specs.Graphs.{NumberedGraph, node_count}
use Rattle.gm_ast.specs.declared.tree.Head.{Head}
use Rattle.gm_ast.specs.declared.tree.Key.{Key}
use Rattle.gm_ast.specs.declared.tree.Sort.TheVariants as Sorts
use Rattle.gm_ast.specs.Program as S
use Rattle.gm_ast.specs.Program.{Expr, Stmt}
use Rattle.gm_forms.proofs.Named.{both-true}
use Rattle.gm_forms.specs.Cut.{can_overflow}
use Rattle.gm_forms.specs.Typing.{type_at, has_type, is_typed_in}
use Rattle.gm_forms.specs.Uses.{uses_in, uses_of, uses_of_head}
use Rattle.gm_semantics.specs.declared.faults.Fault.{Fault}
use Rattle.gm_semantics.specs.Contributions.{Contribution, total_faults, settled_store}
use Rattle.gm_semantics.specs.Faults as F
use Rattle.gm_semantics.specs.Faults.{lower, joined}
use Rattle.gm_semantics.specs.Iterations.{Iteration, Outermost, does}
use Rattle.gm_semantics.specs.Laws.{OneReduction}
use Rattle.gm_semantics.specs.Levels.{nodes}
use Rattle.gm_semantics.specs.Loops.{iteration, left_at, own_left}
use Rattle.gm_semantics.specs.Outcomes.{is_of}
use Rattle.gm_semantics.specs.Statements.{State, variable_at}
use Rattle.gm_semantics.specs.Stores.{Store}
use Rattle.gm_semantics.proofs.ContributionLaws.{IsIn-filter}
use Rattle.gm_machine.specs.Vertex.{Message}
use Rattle.gm_lowering.specs.MessageLoops.{is_to_scalars, is_to_nodes}
use Rattle.gm_lowering.specs.Phases.{GivesApart, given_in}
use Rattle.gm_lowering.specs.Places.{Spot, spot_lt, spot_of_total}
use Rattle.gm_lowering.specs.Plans.{Away}
use Rattle.gm_lowering.specs.SenderLoops.{TotalsLast}
use Rattle.gm_lowering.specs.Sent.{AreSent}
use Rattle.gm_lowering.specs.Settles.{HasSpot, spot_of_fault}
use Rattle.gm_lowering.specs.Shown.{ShowOne}
use Rattle.gm_typed_stores.proofs.Settling.{settled-values}
use Rattle.gm_typed_stores.specs.Stores.{IsTypedStore, IsGraphBelow, IsTypedContribution, IsTypedIteration, IsTypedLoop}
use Rattle.gm_typed_stores.specs.Tells.{TypeTable, takes_nodes, tells, tells_in}
use Rattle.gm_typed_stores.specs.Values.{IsValue, Each}
use Rattle.gm_typed_stores.proofs.Bodies.{turn-keeps, does-keeps}
use Rattle.gm_typed_stores.proofs.Eaches.{each-map, each-weaker, each-joined, if-value}
use Rattle.gm_typed_stores.proofs.Expressions.{split}
use Rattle.gm_typed_stores.proofs.Kept.{nodes-within}
use Rattle.gm_lowering_master.specs.Cells.{Setting, IsSetting}
use Rattle.gm_lowering_master.specs.Follows.{IsPoint}
use Rattle.gm_lowering_master.specs.Going.{phase_loop}
use Rattle.gm_lowering_master.proofs.SentLast.{behind, sent-by}
use Rattle.gm_lowering_master.proofs.TotalsFit.{out-of-range}

-- what is sent for a reduction is among some spots, none of which comes behind a Sum's or a Product's
abbrev pub SpottedLast : List Spot → Away → Type 0
SpottedLast spots a = HasSpot (spot_of_total a.total) spots × (can_overflow a.reduce ≡ true → (s : Spot) → IsIn s spots → spot_lt (spot_of_total a.total) s ≡ false)

-- where contributions have types a fault that has a spot comes before those of the totals of what messages carry
typed-behind : (table : TypeTable) (its : List ℕ) (kind : ℕ) (sends : List Away) (g : NumberedGraph) (spots : List Spot) (r : Store) (cs : List Contribution) (ms : List Message)
    → ShowOne spots
    → IsTypedStore table its r → Each (IsTypedContribution table) cs → OneReduction cs
    → AreSent kind sends g cs ms
    → ((a : Away) → IsIn a sends → SpottedLast spots a)
    → (f : Fault) → HasSpot (spot_of_fault f) spots → (x : Fault) → IsIn x (total_faults r cs) → lower f x ≡ f
typed-behind table its kind sends g spots r cs ms shows h each one sent ends f has x j =
    let y = out-of-range table its r cs x h each one j in
    let a = sent-by kind sends g cs ms sent y.0 y.1 in
    let e = ends a.0 a.1 in
    subst (λ z. lower f z ≡ f) (sym (y.2 ∙ ap F.total_fault a.2)) (behind spots shows f a.0.total has e.0 (e.1 (ap can_overflow (sym a.3) ∙ y.3)))

-- members of what has types and is by one reduction each have types, and are so
each-of : {A : Type 0} (P : A → Type 0) (xs : List A) → ((x : A) → IsIn x xs → P x) → Each P xs
each-of P [] h = tt
each-of P (x ∷ xs) h = (h x (inl refl), each-of P xs (λ y i. h y (inr i)))

in-each : {A : Type 0} (P : A → Type 0) (xs : List A) (x : A) → Each P xs → IsIn x xs → P x
in-each P [] x h i = absurd i
in-each P (y ∷ ys) x h i = ⊎_elim (λ (e : x ≡ y). subst P (sym e) h.0) (λ (j : IsIn x ys). in-each P ys x h.1 j) i

-- ---- what own statements leave and give has types

module _ (table : TypeTable) (its : List ℕ) (i : ℕ) where
  left-value : (ks : List ℕ) (turns : List Iteration) (s : Store) (p n : ℕ) → Each (IsTypedIteration table (i ∷ its)) turns → IsTypedStore table its s → is_of table.declarations Sorts.NodeProperty p ≡ true
      → IsValue table.limit (type_at table.declarations p) (left_at ks turns s p n)
  left-value [] turns s p n each h e = h.node p n e
  left-value (k ∷ ks) [] s p n each h e = h.node p n e
  left-value (k ∷ ks) (t ∷ turns) s p n each h e =
      if-value (IsValue table.limit (type_at table.declarations p)) (nat_eq k n) (t.store.node p n) (left_at ks turns s p n) (λ here. each.0.store.node p n e) (λ apart. left-value ks turns s p n each.1 h e)

  left-typed : (ks : List ℕ) (turns : List Iteration) (s : Store) → Each (IsTypedIteration table (i ∷ its)) turns → IsTypedStore table its s → IsTypedStore table its (own_left s ks turns)
  left-typed ks turns s each h = record { scalar = h.scalar; node = λ p n e. left-value ks turns s p n each h e; edge = h.edge }

  given-typed : (turns : List Iteration) → Each (IsTypedIteration table (i ∷ its)) turns → Each (IsTypedContribution table) (joined (map (λ (t : Iteration). t.with_outermost) turns))
  given-typed turns each =
      each-joined (IsTypedContribution table) (map (λ (t : Iteration). t.with_outermost) turns)
      (each-map (Each (IsTypedContribution table)) (λ (t : Iteration). t.with_outermost) turns (each-weaker (IsTypedIteration table (i ∷ its)) (λ (t : Iteration). Each (IsTypedContribution table) t.with_outermost) turns (λ t g. g.with_outermost) each))

-- the iterations of a loop at a point where it begins
iterations-typed : (s : Setting) (is' : IsSetting s) (its : List ℕ) (k : Key) (place : Place) (h : Head) (test : Expr) (body : Stmt) (state : State) → IsPoint s its (S.Foreach k place h test body) state
    → Each (IsTypedIteration s.table (h.iterator ∷ its)) (map (iteration (phase_loop s h.iterator body) k test body state.store) (nodes s.run.graph))
iterations-typed s is' its k place h test body state point =
    let table = s.table in
    let loop = phase_loop s h.iterator body in
    let is = point.typed.statement in
    let graph : IsGraphBelow table.limit s.run.graph = record { graph = is'.graph; nodes = is'.below } in
    let l : IsTypedLoop table loop = record { graph = graph; types = λ x. ap (λ ds. (variable_at ds x).vtype) is'.declarations ∙ ap (λ ds. (variable_at ds x).vtype) (sym is'.types) } in
    let t = both-true (has_type table.declarations V.Flag test) (is_typed_in table.declarations s.result body) is.typed in
    let u = split table.declarations (uses_in test) (uses_of body) (split table.declarations (uses_of_head h) (uses_in test ++ uses_of body) is.named).1 in
    let w = both-true (takes_nodes table h.iterator) (tells table (h.iterator ∷ its) test && tells_in table (h.iterator ∷ its) body) is.tells in
    let v = both-true (tells table (h.iterator ∷ its) test) (tells_in table (h.iterator ∷ its) body) w.1 in
    each-map (IsTypedIteration table (h.iterator ∷ its)) (iteration loop k test body state.store) (nodes s.run.graph)
    (each-weaker (λ n. n < node_count s.run.graph) (λ n. IsTypedIteration table (h.iterator ∷ its) (iteration loop k test body state.store n)) (nodes s.run.graph)
    (λ n in_graph. turn-keeps table its h.iterator loop Outermost k test (does body Outermost loop) n state.store l w.0 in_graph t.0 u.0 v.0 (λ it g. does-keeps table body (h.iterator ∷ its) s.result Outermost loop it l t.1 u.1 v.1 g) point.typed.store)
    (nodes-within s.run.graph))

module _ (s : Setting) (is' : IsSetting s) (its : List ℕ) (k : Key) (place : Place) (h : Head) (test : Expr) (body : Stmt) (state : State) (point : IsPoint s its (S.Foreach k place h test body) state)
    (kind : ℕ) (sends : List Away) (spots : List Spot) (shows : ShowOne spots) (apart : GivesApart (given_in (phase_loop s h.iterator body) k test body state.store))
    (ends : (a : Away) → IsIn a sends → SpottedLast spots a) where
  abbrev turns : List Iteration
  turns = map (iteration (phase_loop s h.iterator body) k test body state.store) (nodes s.run.graph)

  abbrev given : List Contribution
  given = given_in (phase_loop s h.iterator body) k test body state.store

  each-turn : Each (IsTypedIteration s.table (h.iterator ∷ its)) turns
  each-turn = iterations-typed s is' its k place h test body state point

  -- what a part of the contributions carries, onto a store that has types
  part-behind : (r : Store) → IsTypedStore s.table its r → (cs : List Contribution) (ms : List Message) → ((y : Contribution) → IsIn y cs → IsIn y given) → AreSent kind sends s.run.graph cs ms
      → (f : Fault) → HasSpot (spot_of_fault f) spots → (x : Fault) → IsIn x (total_faults r cs) → lower f x ≡ f
  part-behind r typed cs ms part sent =
      typed-behind s.table its kind sends s.run.graph spots r cs ms shows typed
      (each-of (IsTypedContribution s.table) cs (λ y i. in-each (IsTypedContribution s.table) given y (given-typed s.table its h.iterator turns each-turn) (part y i)))
      (λ y z slot i j. apart.one y z slot (part y i) (part z j)) sent ends

  -- what is sent by nodes that have set what they set
  pub own-totals-last : (ms : List Message)
      → ((f : Fault) → IsIn f (F.somes (map (λ it. it.fault) turns) ++ total_faults (own_left state.store (nodes s.run.graph) turns) (filter is_to_scalars given)) → HasSpot (spot_of_fault f) spots)
      → AreSent kind sends s.run.graph (filter is_to_nodes given) ms
      → TotalsLast (F.somes (map (λ it. it.fault) turns)) (own_left state.store (nodes s.run.graph) turns) given
  own-totals-last ms spotted sent f x i j =
      part-behind (own_left state.store (nodes s.run.graph) turns) (left-typed s.table its h.iterator (nodes s.run.graph) turns state.store each-turn point.typed.store)
      (filter is_to_nodes given) ms (λ y l. (IsIn-filter is_to_nodes y given l).0) sent f (spotted f i) x j

  -- what is sent when nothing is set before
  pub received-behind : (f : Fault) (cs : List Contribution) (ms : List Message) → HasSpot (spot_of_fault f) spots → AreSent kind sends s.run.graph cs ms → ((y : Contribution) → IsIn y cs → IsIn y given)
      → (x : Fault) → IsIn x (total_faults state.store cs) → lower f x ≡ f
  received-behind f cs ms has sent part x j = part-behind state.store point.typed.store cs ms part sent f has x j

  -- and when a part of what is given was taken before
  pub taken-behind : (f : Fault) (before cs : List Contribution) (ms : List Message) → HasSpot (spot_of_fault f) spots → AreSent kind sends s.run.graph cs ms → ((y : Contribution) → IsIn y before → IsIn y given)
      → ((y : Contribution) → IsIn y cs → IsIn y given) → (x : Fault) → IsIn x (total_faults (settled_store state.store before) cs) → lower f x ≡ f
  taken-behind f before cs ms has sent first part x j =
      part-behind (settled_store state.store before)
      (settled-values s.table its state.store before (each-of (IsTypedContribution s.table) before (λ y i. in-each (IsTypedContribution s.table) given y (given-typed s.table its h.iterator turns each-turn) (first y i))) point.typed.store)
      cs ms part sent f has x j
