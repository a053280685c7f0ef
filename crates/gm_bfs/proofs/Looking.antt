-- The loop that finds out whether there is a next level.
use Rattle.std.proofs.Common.{◌≡◌, ◌<◌, ℕ, Bool, true, false, cond, List, [], ◌∷◌, map, refl, sym, ap, subst, ◌∙◌, arith, Some, Ok, ⊎_elim, inl}
use Rattle.std.specs.Prelude.{◌≢◌, ◌&&◌, ◌||◌}
use Rattle.std.specs.List.{list_any}
use Rattle.std.proofs.lemmas.Bool.{eq-eqb}
use Rattle.gm_value.specs.declared.operations.Op2.TheVariants.{Eq}
use Rattle.gm_value.specs.declared.reductions.Reduce.TheVariants.{Or}
use Rattle.gm_value.specs.declared.values.Value.{Value}
use Rattle.gm_value.specs.declared.values.Value.TheVariants.{Flag, At}
use Rattle.gm_value.specs.Bag.{IsIn}
use Rattle.gm_value.specs.Operations.{is_true, result2}
use Rattle.gm_value.specs.Taking.{taken_bag}
use Rattle.gm_model.specs.Graphs.{node_count}
use Rattle.gm_ast.specs.declared.tree.Target.TheVariants as T
use Rattle.gm_ast.specs.Program.{Expr, always, Stmt, Combine}
use Rattle.gm_semantics.specs.declared.slots.Slot.{Slot}
use Rattle.gm_semantics.specs.declared.slots.Slot.TheVariants.{Scalar, Node}
use Rattle.gm_semantics.specs.Faults.{joined}
use Rattle.gm_semantics.specs.Levels.{nodes, no_levels}
use Rattle.gm_semantics.specs.Stores.{Store, slot_eq, slots_eq, has_slot, read, write}
use Rattle.gm_semantics.specs.Contributions.{Contribution, to_target, settled_store}
use Rattle.gm_semantics.specs.Expressions.{and_all, evaluated_all}
use Rattle.gm_semantics.specs.Iterations.{AtOnce, Loop, Iteration, begun, with_ok, Outermost, view_in, assigned_all, later, scalar_ends, contribution, gave_outermost, reduced}
use Rattle.gm_semantics.specs.Laws.{Away}
use Rattle.gm_semantics.specs.Loops.{iteration, parallel}
use Rattle.gm_semantics.specs.Singles.{close_one, value_or}
use Rattle.gm_semantics.specs.Statements.{Run, variable_at, loop_of}
use Rattle.gm_semantics.proofs.ContributionLaws.{IsIn-filter, slot_eq-refl, slots_eq-true}
use Rattle.gm_semantics.proofs.TargetLaws.{value-away}
use Rattle.gm_forms.proofs.ReadingFrames.{nat_eq-apart}
use Rattle.gm_forms.specs.Order.{first_key}
use Rattle.gm_bfs.specs.declared.fresh.Fresh.{Fresh}
use Rattle.gm_bfs.specs.declared.fresh.Site.{Site}
use Rattle.gm_bfs.specs.Variables.{fresh_from, body_key, total_of}
use Rattle.gm_bfs.specs.Searches.{equal, scalar, along_edges}
use Rattle.gm_bfs.specs.Searches as Searches
use Rattle.gm_bfs.proofs.Totals.{gift, Gifts, gifts-value, gifts-faultless, IsFlag, some-true, taken-flags}
use Rattle.gm_bfs.proofs.Reaching.{joined-in}
use Rattle.gm_bfs.proofs.SimpleLoops.{equal-told, Simple, own, own-same, simple-loop}

-- whether a node is on the next level
module _ (s : Site) (k : ℕ) (run : Run) (plain-found : (variable_at run.declarations (fresh_from k).found).depth ≡ 0) (t : Store) (hit : ℕ → Bool) where
  abbrev fr : Fresh
  fr = fresh_from k

  abbrev compare : Expr
  compare = equal s (Searches.at_node s fr.node fr.level) (scalar s fr.down)

  abbrev pub look-body : Stmt
  look-body = Combine (body_key s) (total_of s) Or (T.Scalar fr.found s.place ∷ []) (compare ∷ [])

  abbrev pub look-loop : Loop
  look-loop = loop_of run no_levels fr.node look-body

  abbrev one : ℕ → List Contribution
  one n = gift (total_of s) Or (Scalar fr.found) (Flag (hit n)) ∷ []

  module _ (told : (n : ℕ) → n < node_count run.graph → result2 Eq (t.node fr.level n) (t.scalar fr.down) ≡ Ok (Flag (hit n))) (unset : t.scalar fr.found ≡ Flag false) where
    look-turn : (n : ℕ) → n < node_count run.graph → iteration look-loop first_key always look-body t n ≡ gave_outermost (begun (write t (Scalar fr.node) (At (Some n)))) (gift (total_of s) Or (Scalar fr.found) (Flag (hit n)))
    look-turn n b =
        let u = begun (write t (Scalar fr.node) (At (Some n))) in
        let w = view_in look-loop Outermost u (body_key s) in
        let holds : u.store.scalar fr.node ≡ At (Some n) = ap (λ c. cond c (At (Some n)) (t.scalar fr.node)) (eq-eqb fr.node fr.node refl) in
        let down : u.store.scalar fr.down ≡ t.scalar fr.down = ap (λ c. cond c (At (Some n)) (t.scalar fr.down)) (nat_eq-apart fr.node fr.down (λ h. omega arith)) in
        ap (λ d. reduced (later (scalar_ends Outermost d) AtOnce) w u (total_of s) Or (T.Scalar fr.found s.place ∷ []) (compare ∷ [])) plain-found
        ∙ ap (λ v. with_ok u (assigned_all w (T.Scalar fr.found s.place ∷ []) (and_all v (evaluated_all [] w))) (λ p. gave_outermost u (contribution (total_of s) Or p)))
        (equal-told s w fr.node n fr.level fr.down (hit n) refl b holds (ap (result2 Eq (t.node fr.level n)) down ∙ told n b))

    looks : List Contribution
    looks = joined (map one (nodes run.graph))

    look-simple : (n : ℕ) → n < node_count run.graph → Simple (one n) (iteration look-loop first_key always look-body t n)
    look-simple n b = subst (Simple (one n)) (sym (look-turn n b)) (record { outermost = refl; deferred = refl; fault = refl })

    look-own : (q m : ℕ) → (own look-loop first_key always look-body t).node q m ≡ t.node q m
    look-own q m = own-same look-loop first_key always look-body t q m (λ n b. ap (λ (it : Iteration). it.store.node q m) (look-turn n b))

    look-is : (c : Contribution) → IsIn c (joined (map one (nodes run.graph))) → (n : ℕ) × IsIn n (nodes run.graph) × (c ≡ gift (total_of s) Or (Scalar fr.found) (Flag (hit n)))
    look-is c i = let n = joined-in one c (nodes run.graph) i in (n.0, n.1, ⊎_elim (λ (e : c ≡ gift (total_of s) Or (Scalar fr.found) (Flag (hit n.0))). e) (λ none. absurd none) n.2)

    look-gifts : Gifts (total_of s) Or (IsFlag (total_of s)) (joined (map one (nodes run.graph)))
    look-gifts c i = let n = look-is c i in record { slot = Scalar fr.found; value = Flag (hit n.0); good = (hit n.0, refl); is = n.2 }

    some-hit : (ks : List ℕ) → some-true (total_of s) (joined (map one ks)) ≡ list_any hit ks
    some-hit [] = refl
    some-hit (n ∷ ks) = ap (λ b. is_true (Flag (hit n)) || b) (some-hit ks) ∙ ap (λ b. b || list_any hit ks) (flag-true (hit n))
      where
        flag-true : (b : Bool) → is_true (Flag b) ≡ b
        flag-true true = refl
        flag-true false = refl

    all-looks : (ks : List ℕ) → to_target (Scalar fr.found ∷ []) (joined (map one ks)) ≡ joined (map one ks)
    all-looks [] = refl
    all-looks (n ∷ ks) =
        ap (λ b. cond (b && true) (gift (total_of s) Or (Scalar fr.found) (Flag (hit n)) ∷ to_target (Scalar fr.found ∷ []) (joined (map one ks))) (to_target (Scalar fr.found ∷ []) (joined (map one ks)))) (slot_eq-refl (Scalar fr.found))
        ∙ ap (λ cs. gift (total_of s) Or (Scalar fr.found) (Flag (hit n)) ∷ cs) (all-looks ks)

    taken-looks : taken_bag (close_one Or) (total_of s).key.statement (t.scalar fr.found) (to_target (Scalar fr.found ∷ []) (joined (map one (nodes run.graph)))) ≡ Ok (Flag (list_any hit (nodes run.graph)))
    taken-looks =
        ap (λ v. taken_bag (close_one Or) (total_of s).key.statement v (to_target (Scalar fr.found ∷ []) (joined (map one (nodes run.graph))))) unset
        ∙ ap (taken_bag (close_one Or) (total_of s).key.statement (Flag false)) (all-looks (nodes run.graph))
        ∙ taken-flags (total_of s) (joined (map one (nodes run.graph))) look-gifts
        ∙ ap (λ b. Ok (Flag b)) (some-hit (nodes run.graph))

    look-away : (slot : Slot) → slot_eq slot (Scalar fr.found) ≡ false → Away slot (joined (map one (nodes run.graph)))
    look-away slot off c i = let n = look-is c i in ap (λ (z : Contribution). has_slot slot z.slots) n.2 ∙ ap (λ b. b || false) off

    look-fine : (slot : Slot) → (v : Value) × (taken_bag (close_one Or) (total_of s).key.statement (read (own look-loop first_key always look-body t) slot) (to_target (slot ∷ []) (joined (map one (nodes run.graph)))) ≡ Ok v)
    look-fine slot = by (to_target (slot ∷ []) (joined (map one (nodes run.graph)))) refl
      where
        cs' : List Contribution
        cs' = joined (map one (nodes run.graph))

        held : Value
        held = read (own look-loop first_key always look-body t) slot

        by : (bag : List Contribution) → to_target (slot ∷ []) (joined (map one (nodes run.graph))) ≡ bag → (v : Value) × (taken_bag (close_one Or) (total_of s).key.statement held (to_target (slot ∷ []) (joined (map one (nodes run.graph)))) ≡ Ok v)
        by [] e = (held, ap (taken_bag (close_one Or) (total_of s).key.statement held) e)
        by (c ∷ bag) e =
            let p = IsIn-filter (λ (c : Contribution). slots_eq (slot ∷ []) c.slots) c (joined (map one (nodes run.graph))) (subst (IsIn c) (sym e) (inl refl)) in
            let n = look-is c p.0 in
            let same : slot ∷ [] ≡ Scalar fr.found ∷ [] = slots_eq-true (slot ∷ []) c.slots p.1 ∙ ap (λ (z : Contribution). z.slots) n.2 in
            let at : slot ≡ Scalar fr.found = cc in (
              Flag (list_any hit (nodes run.graph)),
              ap (λ (z : Slot). taken_bag (close_one Or) (total_of s).key.statement (read (own look-loop first_key always look-body t) z) (to_target (z ∷ []) (joined (map one (nodes run.graph))))) at
                  ∙ taken-looks,
            )

    -- what the loop leaves
    pub record Looked (u : Store) : Type 0 where
      pub found : u.scalar fr.found ≡ Flag (list_any hit (nodes run.graph))
      pub scalar : (y : ℕ) → y ≢ fr.found → u.scalar y ≡ t.scalar y
      pub node : (q m : ℕ) → u.node q m ≡ t.node q m
      pub edge : u.edge ≡ t.edge

    pub look-looks : (u : Store) × (parallel look-loop first_key always look-body (nodes run.graph) t ≡ Ok u) × Looked u
    look-looks =
        let before = own look-loop first_key always look-body t in
        let key = total_of s in
        let cs = joined (map one (nodes run.graph)) in (
          settled_store before cs,
          simple-loop look-loop first_key always look-body t one look-simple (gifts-faultless key Or (IsFlag key) before cs look-gifts look-fine),
          record {
            found = gifts-value key Or (IsFlag key) before (Scalar fr.found) cs look-gifts ∙ ap (value_or (t.scalar fr.found)) taken-looks;
            scalar = λ y off. value-away before (Scalar y) cs (look-away (Scalar y) (nat_eq-apart y fr.found off));
            node = λ q m. value-away before (Node q m) cs (look-away (Node q m) refl) ∙ look-own q m;
            edge = refl;
          },
        )
