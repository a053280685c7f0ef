-- The loops that find the next level.
use Rattle.std.proofs.Common.{◌≡◌, ◌<◌, ◌≤◌, ℕ, suc, Bool, true, false, cond, List, [], ◌∷◌, ◌++◌, map, refl, sym, ap, subst, ◌∙◌, arith, Option, Some, None, Ok, ⊎_elim, inl, inr}
use Rattle.std.specs.Prelude.{◌≢◌, ◌&&◌, ◌||◌, pos, nat_eq, nat_lt}
use Rattle.std.proofs.lemmas.Bool.{lt-ltb, eqb-true, eq-eqb, cases_Bool, cases_lt}
use Rattle.gm_value.specs.declared.reductions.Reduce.TheVariants.{Min}
use Rattle.gm_value.specs.declared.values.Value.{Value}
use Rattle.gm_value.specs.declared.values.Value.TheVariants.{I32, Flag, At}
use Rattle.gm_value.specs.Bag.{IsIn}
use Rattle.gm_value.specs.Operations.{is_true}
use Rattle.gm_value.specs.Taking.{taken_bag}
use Rattle.gm_model.specs.Graphs.{Step, IsGraph, node_count, out_steps}
use Rattle.gm_ast.specs.declared.tree.Target.TheVariants as T
use Rattle.gm_ast.specs.Program.{Expr, always, Stmt, Combine, Foreach}
use Rattle.gm_semantics.specs.declared.slots.Slot.{Slot}
use Rattle.gm_semantics.specs.declared.slots.Slot.TheVariants.{Scalar, Node}
use Rattle.gm_semantics.specs.Faults.{then_with, least, somes, joined}
use Rattle.gm_semantics.specs.Levels.{nodes, node_in, no_levels, level_of, is_level}
use Rattle.gm_semantics.specs.Stores.{Store, slot_eq, slots_eq, has_slot, read, write}
use Rattle.gm_semantics.specs.Contributions.{Contribution, to_target, settled_store, total_faults}
use Rattle.gm_semantics.specs.Expressions.{settled, value, steps_of, steps_in}
use Rattle.gm_semantics.specs.Iterations.{AtOnce, WithOutermost, Loop, Iteration, begun, with_ok, one_way, as_it_is, Outermost, AtEdge, view_in, later, own_ends, contribution, gave_outermost, reduced, inner_done, turn_at, does}
use Rattle.gm_semantics.specs.Laws.{Away}
use Rattle.gm_semantics.specs.Loops.{iteration, parallel}
use Rattle.gm_semantics.specs.Singles.{close_one, value_or}
use Rattle.gm_semantics.specs.Statements.{Run, loop_of}
use Rattle.gm_semantics.proofs.ContributionLaws.{IsIn-filter, slot_eq-refl, slots_eq-true}
use Rattle.gm_semantics.proofs.TargetLaws.{never, value-away}
use Rattle.gm_forms.proofs.ReadingFrames.{nat_eq-apart}
use Rattle.gm_forms.specs.Order.{first_key}
use Rattle.gm_bfs.specs.declared.fresh.Fresh.{Fresh}
use Rattle.gm_bfs.specs.declared.fresh.Site.{Site}
use Rattle.gm_bfs.specs.Variables.{fresh_from, filter_key, body_key, total_of}
use Rattle.gm_bfs.specs.Searches.{equal, scalar, along_edges}
use Rattle.gm_bfs.specs.Searches as Searches
use Rattle.gm_bfs.proofs.LevelFacts.{in-filter, in-map, map-in, node-in, in-node, out-within, in-out, out-in, level-below, level-node, from-above, level-next}
use Rattle.gm_bfs.proofs.Cells.{not-less, cell, cell-same, cell-found, cell-far}
use Rattle.gm_bfs.proofs.Totals.{gift, Gifts, gifts-value, gifts-faultless, lesser-of, IsLevel, taken-levels}
use Rattle.gm_bfs.proofs.SimpleLoops.{node-own, read-own, Simple, own, own-same, simple-loop}

-- what several lists joined have
pub joined-in : {A B : Type 0} (f : A → List B) (c : B) (xs : List A) → IsIn c (joined (map f xs)) → (x : A) × IsIn x xs × IsIn c (f x)
joined-in f c [] i = absurd i
joined-in {A} {B} f c (x ∷ xs) i = by (f x) i (λ c i. i) (joined-in f c xs)
  where
    by : (ys : List B) → IsIn c (ys ++ joined (map f xs)) → ((d : B) → IsIn d ys → IsIn d (f x)) → (IsIn c (joined (map f xs)) → (y : A) × IsIn y xs × IsIn c (f y)) → (y : A) × IsIn y (x ∷ xs) × IsIn c (f y)
    by [] i sub rest = let r = rest i in (r.0, inr r.1, r.2)
    by (y ∷ ys) i sub rest = ⊎_elim (λ (e : c ≡ y). (x, inl refl, sub c (inl e))) (λ r. by ys r (λ d j. sub d (inr j)) rest) i

in-joined : {A B : Type 0} (f : A → List B) (c : B) (x : A) (xs : List A) → IsIn x xs → IsIn c (f x) → IsIn c (joined (map f xs))
in-joined f c x [] i h = absurd i
in-joined {B = B} f c x (y ∷ ys) i h = ⊎_elim (λ (e : x ≡ y). left (f y) (subst (λ z. IsIn c (f z)) e h)) (λ r. right (f y) (in-joined f c x ys r h)) i
  where
    left : (zs : List B) → IsIn c zs → IsIn c (zs ++ joined (map f ys))
    left [] i = absurd i
    left (z ∷ zs) i = ⊎_elim (λ (e : c ≡ z). inl e) (λ r. inr (left zs r)) i

    right : (zs : List B) → IsIn c (joined (map f ys)) → IsIn c (zs ++ joined (map f ys))
    right [] i = i
    right (z ∷ zs) i = inr (right zs i)

module _ (s : Site) (k : ℕ) (run : Run) (ok : IsGraph run.graph) (r : ℕ) (root : r < node_count run.graph) (j : ℕ) (small : suc j ≤ 2147483647) (t : Store) where
  abbrev f : Fresh
  f = fresh_from k

  abbrev level : ℕ → Option ℕ
  level = level_of run.graph r

  abbrev active : ℕ → Bool
  active n = is_level (level n) j

  abbrev give : Stmt
  give = Combine (body_key s) (total_of s) Min (T.Property f.neighbour f.level s.place ∷ []) (scalar s f.down ∷ [])

  abbrev pub reach-body : Stmt
  reach-body = Foreach (filter_key s) s.place (along_edges s f) always give

  abbrev pub reach-loop : Loop
  reach-loop = loop_of run no_levels f.node reach-body

  abbrev test' : Expr
  test' = Searches.at_node s f.node f.active

  abbrev gift-to : ℕ → Contribution
  gift-to m = gift (total_of s) Min (Node f.level m) (I32 (pos (suc j)))

  abbrev given : ℕ → List Contribution
  given n = cond (active n) (map (λ (e : Step). gift-to e.node) (out_steps run.graph n)) []

  module _ (marked : (n : ℕ) → n < node_count run.graph → t.node f.active n ≡ Flag (active n)) (down : t.scalar f.down ≡ I32 (pos (suc j))) where
    module _ (n : ℕ) (within : n < node_count run.graph) where
      abbrev start : Iteration
      start = begun (write t (Scalar f.node) (At (Some n)))

      start-holds : start.store.scalar f.node ≡ At (Some n)
      start-holds = ap (λ c. cond c (At (Some n)) (t.scalar f.node)) (eq-eqb f.node f.node refl)

      abbrev start-at : Step → Iteration
      start-at e = begun (write start.store (Scalar f.neighbour) (At (Some e.node)))

      abbrev edge-turn : Step → Iteration
      edge-turn e = turn_at reach-loop (AtEdge e.edge) (filter_key s) always (does give (AtEdge e.edge) reach-loop) f.neighbour e.node start.store

      down-stays : (e : Step) → (start-at e).store.scalar f.down ≡ I32 (pos (suc j))
      down-stays e =
          ap (λ c. cond c (At (Some e.node)) (start.store.scalar f.down)) (nat_eq-apart f.neighbour f.down (λ h. omega arith))
          ∙ ap (λ c. cond c (At (Some n)) (t.scalar f.down)) (nat_eq-apart f.node f.down (λ h. omega arith))
          ∙ down

      gives : (e : Step) → e.node < node_count run.graph → edge-turn e ≡ gave_outermost (start-at e) (gift-to e.node)
      gives e inside =
          let u = start-at e in
          let w = view_in reach-loop (AtEdge e.edge) u (body_key s) in
          let ts = T.Property f.neighbour f.level s.place ∷ [] in
          ap (λ c. reduced (later (cond c (own_ends (AtEdge e.edge) (reach-loop.pushed f.level)) WithOutermost) AtOnce) w u (total_of s) Min ts (scalar s f.down ∷ [])) (nat_eq-apart f.neighbour f.node (λ h. omega arith))
          ∙ ap (λ r. with_ok u (then_with (then_with (then_with r (λ i. Ok (Node f.level i))) (λ a. Ok (a ∷ []))) (λ ss. Ok (ss, u.store.scalar f.down ∷ []))) (λ p. gave_outermost u (contribution (total_of s) Min p)))
          (node-own w f.neighbour e.node s.place inside (ap (λ c. cond c (At (Some e.node)) (start.store.scalar f.neighbour)) (eq-eqb f.neighbour f.neighbour refl)))
          ∙ ap (λ v. gave_outermost u (gift (total_of s) Min (Node f.level e.node) v)) (down-stays e)

      -- the turns of all edges
      inner-nothing : (es : List Step) → ((e : Step) → IsIn e es → e.node < node_count run.graph) → joined (map (λ (it : Iteration). it.with_inner) (map edge-turn es)) ≡ []
      inner-nothing [] h = refl
      inner-nothing (e ∷ es) h = ap (λ (it : Iteration). it.with_inner ++ joined (map (λ (it : Iteration). it.with_inner) (map edge-turn es))) (gives e (h e (inl refl))) ∙ inner-nothing es (λ d i. h d (inr i))

      outermost-gifts : (es : List Step) → ((e : Step) → IsIn e es → e.node < node_count run.graph) → joined (map (λ (it : Iteration). it.with_outermost) (map edge-turn es)) ≡ map (λ (e : Step). gift-to e.node) es
      outermost-gifts [] h = refl
      outermost-gifts (e ∷ es) h =
          ap (λ (it : Iteration). it.with_outermost ++ joined (map (λ (it : Iteration). it.with_outermost) (map edge-turn es))) (gives e (h e (inl refl))) ∙ ap (λ cs. gift-to e.node ∷ cs) (outermost-gifts es (λ d i. h d (inr i)))

      no-faults : (es : List Step) → ((e : Step) → IsIn e es → e.node < node_count run.graph) → somes (map (λ (it : Iteration). it.fault) (map edge-turn es)) ≡ []
      no-faults [] h = refl
      no-faults (e ∷ es) h = ap (λ (it : Iteration). somes (it.fault ∷ map (λ (it : Iteration). it.fault) (map edge-turn es))) (gives e (h e (inl refl))) ∙ no-faults es (λ d i. h d (inr i))

      -- an iteration gives the next level along each edge, where its node is active
      abbrev Shape : List Contribution → Iteration → Type 0
      Shape cs it = Simple cs it × ((q m : ℕ) → it.store.node q m ≡ t.node q m)

      shape : Shape (given n) (iteration reach-loop first_key test' reach-body t n)
      shape =
          let w = view_in reach-loop Outermost start first_key in
          let told : value test' w ≡ Ok (Flag (active n)) = ap settled (read-own w f.node n f.active s.place refl within start-holds) ∙ ap Ok (marked n within) in
          subst (λ r. Shape (given n) (with_ok start r (λ v. one_way (is_true v) (does reach-body Outermost reach-loop) as_it_is start))) (sym told) (by (active n))
        where
          steps : steps_in (view_in reach-loop Outermost start (filter_key s)) (along_edges s f) ≡ out_steps run.graph n
          steps =
              ap (λ v. steps_of (view_in reach-loop Outermost start (filter_key s)) (along_edges s f).domain (node_in run.graph v)) start-holds
              ∙ ap (λ c. steps_of (view_in reach-loop Outermost start (filter_key s)) (along_edges s f).domain (cond c (Some n) None)) (lt-ltb n (node_count run.graph) within)

          all : (es : List Step) → ((e : Step) → IsIn e es → e.node < node_count run.graph) → Shape (map (λ (e : Step). gift-to e.node) es) (inner_done start (map edge-turn es))
          all es h = (
            record {
              outermost = outermost-gifts es h;
              deferred = refl;
              fault = ap (λ fs. least (fs ++ total_faults start.store (joined (map (λ (it : Iteration). it.with_inner) (map edge-turn es))))) (no-faults es h) ∙ ap (λ cs. least (total_faults start.store cs)) (inner-nothing es h);
            },
            λ q m. ap (λ cs. (settled_store start.store cs).node q m) (inner-nothing es h) ∙ value-away start.store (Node q m) [] (λ c i. absurd i),
          )

          by : (b : Bool) → Shape (cond b (map (λ (e : Step). gift-to e.node) (out_steps run.graph n)) []) (one_way (is_true (Flag b)) (does reach-body Outermost reach-loop) as_it_is start)
          by true = subst (λ es. Shape (map (λ (e : Step). gift-to e.node) (out_steps run.graph n)) (inner_done start (map edge-turn es))) (sym steps) (all (out_steps run.graph n) (out-within run.graph ok n))
          by false = (record { outermost = refl; deferred = refl; fault = refl }, λ q m. refl)

    abbrev cs : List Contribution
    cs = joined (map given (nodes run.graph))

    -- where a contribution comes from
    record Origin (c : Contribution) : Type 0 where
      node : ℕ
      within : node < node_count run.graph
      on : level node ≡ Some j
      step : Step
      among : IsIn step (out_steps run.graph node)
      is : c ≡ gift-to step.node

    level-is : (o : Option ℕ) → is_level o j ≡ true → o ≡ Some j
    level-is None e = never e refl
    level-is (Some l) e = ap Some (eqb-true l j e)

    origin : (c : Contribution) → IsIn c cs → Origin c
    origin c i = let n = joined-in given c (nodes run.graph) i in by n.0 (in-node run.graph n.0 n.1) (active n.0) refl n.2
      where
        by : (n : ℕ) → n < node_count run.graph → (b : Bool) → active n ≡ b → IsIn c (cond b (map (λ (e : Step). gift-to e.node) (out_steps run.graph n)) []) → Origin c
        by n less true e i = let p = map-in (λ (e : Step). gift-to e.node) c (out_steps run.graph n) i in record { node = n; within = less; on = level-is (level n) e; step = p.item; among = p.within; is = p.is }
        by n less false e i = absurd i

    gifts : Gifts (total_of s) Min (IsLevel (total_of s) (suc j) small) cs
    gifts c i = let o = origin c i in record { slot = Node f.level o.step.node; value = I32 (pos (suc j)); good = refl; is = o.is }

    own-node : (q m : ℕ) → (own reach-loop first_key test' reach-body t).node q m ≡ t.node q m
    own-node q m = own-same reach-loop first_key test' reach-body t q m (λ n b. (shape n b).1 q m)

    -- no contribution is to anything but a level
    elsewhere : (slot : Slot) → ((m : ℕ) → slot_eq slot (Node f.level m) ≡ false) → Away slot cs
    elsewhere slot off c i = let o = origin c i in ap (λ (z : Contribution). has_slot slot z.slots) o.is ∙ ap (λ b. b || false) (off o.step.node)

    -- a node of the next level has a contribution, and no other has that is not found yet
    to-next : (m : ℕ) → level m ≡ Some (suc j) → IsIn (gift-to m) cs
    to-next m e =
        let a = from-above run.graph r root m j e in
        let o = in-out run.graph m a.0 a.1 in
        let inside = level-node run.graph r root a.0.node j a.2 in
        let on : active a.0.node ≡ true = ap (λ l. is_level l j) a.2 ∙ eq-eqb j j refl in
        in-joined given (gift-to m) a.0.node (nodes run.graph) (node-in run.graph a.0.node inside)
        (subst (λ b. IsIn (gift-to m) (cond b (map (λ (e : Step). gift-to e.node) (out_steps run.graph a.0.node)) [])) (sym on)
        (subst (λ i. IsIn (gift-to i) (map (λ (e : Step). gift-to e.node) (out_steps run.graph a.0.node))) o.2 (in-map (λ (e : Step). gift-to e.node) o.0 (out_steps run.graph a.0.node) o.1)))

    reached-level : (m : ℕ) (c : Contribution) → m < node_count run.graph → IsIn c cs → slots_eq (Node f.level m ∷ []) c.slots ≡ true → (l : ℕ) × (level m ≡ Some l) × (l ≤ suc j)
    reached-level m c b i e =
        let o = origin c i in
        let same : Node f.level m ∷ [] ≡ Node f.level o.step.node ∷ [] = slots_eq-true (Node f.level m ∷ []) c.slots e ∙ ap (λ (z : Contribution). z.slots) o.is in
        let at : m ≡ o.step.node = cc in
        let back = out-in run.graph o.node o.step o.among in
        let there : o.step.node < node_count run.graph = omega arith in
        let l = level-next run.graph r root o.step.node j back.0 there back.1 (ap level back.2 ∙ o.on) in
        (l.0, ap level at ∙ l.1, l.2)

    -- what is taken at a node
    module _ (known : (m : ℕ) → m < node_count run.graph → t.node f.level m ≡ cell j (level m)) where
      to-one : (m : ℕ) → List Contribution
      to-one m = to_target (Node f.level m ∷ []) cs

      bag-of : (m : ℕ) → (bag : List Contribution) → to_target (Node f.level m ∷ []) cs ≡ bag → (c : Contribution) → IsIn c bag → IsIn c cs × (slots_eq (Node f.level m ∷ []) c.slots ≡ true)
      bag-of m bag e c i = IsIn-filter (λ (c : Contribution). slots_eq (Node f.level m ∷ []) c.slots) c cs (subst (IsIn c) (sym e) i)

      taken-at : (m : ℕ) → m < node_count run.graph → taken_bag (close_one Min) (total_of s).key.statement (t.node f.level m) (to_target (Node f.level m ∷ []) cs) ≡ Ok (cell (suc j) (level m))
      taken-at m b = by (to_target (Node f.level m ∷ []) cs) refl
        where
          by : (bag : List Contribution) → to_target (Node f.level m ∷ []) cs ≡ bag → taken_bag (close_one Min) (total_of s).key.statement (t.node f.level m) bag ≡ Ok (cell (suc j) (level m))
          by [] e = ap Ok (known m b ∙ sym (cell-same j (level m) (off (level m) refl)))
            where
              self : slots_eq (Node f.level m ∷ []) (gift-to m).slots ≡ true
              self = ap (λ c. c && true) (slot_eq-refl (Node f.level m))

              off : (o : Option ℕ) → level m ≡ o → is_level o (suc j) ≡ false
              off None h = refl
              off (Some l) h =
                  ⊎_elim
                  (λ (is : nat_eq l (suc j) ≡ true).
                  let i = in-filter (λ (c : Contribution). slots_eq (Node f.level m ∷ []) c.slots) (gift-to m) cs (to-next m (h ∙ ap Some (eqb-true l (suc j) is))) self in
                  absurd (subst (IsIn (gift-to m)) e i))
                  (λ (is : nat_eq l (suc j) ≡ false). is)
                  (cases_Bool (nat_eq l (suc j)))
          by (c ∷ bag) e =
              let among = bag-of m (c ∷ bag) e in
              let l = reached-level m c b (among c (inl refl)).0 (among c (inl refl)).1 in
              let all : Gifts (total_of s) Min (IsLevel (total_of s) (suc j) small) (c ∷ bag) = λ d i. gifts d (among d i).0 in
              ap (λ v. taken_bag (close_one Min) (total_of s).key.statement v (c ∷ bag)) (known m b ∙ ap (cell j) l.1)
              ∙ least l.0 l.2 (level-below run.graph r root m l.0 l.1) all
              ∙ ap (λ o. Ok (cell (suc j) o)) (sym l.1)
            where
              least : (l : ℕ) → l ≤ suc j → l < node_count run.graph → Gifts (total_of s) Min (IsLevel (total_of s) (suc j) small) (c ∷ bag) → taken_bag (close_one Min) (total_of s).key.statement (cell j (Some l)) (c ∷ bag) ≡ Ok (cell (suc j) (Some l))
              least l le below all =
                  ⊎_elim
                  (λ (late : j < l).
                  let is : l ≡ suc j = omega arith in
                  ap (λ v. taken_bag (close_one Min) (total_of s).key.statement v (c ∷ bag)) (cell-far j l late)
                  ∙ taken-levels (total_of s) (suc j) small 2147483647 c bag (omega arith) all ∙ ap (λ i. Ok (I32 (pos i))) (take (suc j) small ∙ sym is) ∙ ap Ok (sym (cell-found (suc j) l le)))
                  (λ (early : l ≤ j).
                  let keep : lesser-of (suc j) l ≡ l = ap (λ c. cond c (suc j) l) (not-less (suc j) l (omega arith)) in
                  ap (λ v. taken_bag (close_one Min) (total_of s).key.statement v (c ∷ bag)) (cell-found j l early)
                  ∙ taken-levels (total_of s) (suc j) small l c bag (omega arith) all ∙ ap (λ i. Ok (I32 (pos i))) keep ∙ ap Ok (sym (cell-found (suc j) l le)))
                  (cases_lt j l)
                where
                  take : (v : ℕ) → v ≤ 2147483647 → lesser-of v 2147483647 ≡ v
                  take v h = ⊎_elim (λ (e : nat_lt v 2147483647 ≡ true). ap (λ c. cond c v 2147483647) e) (λ (e : nat_lt v 2147483647 ≡ false). ap (λ c. cond c v 2147483647) e ∙ top v h e) (cases_Bool (nat_lt v 2147483647))
                    where
                      top : (v : ℕ) → v ≤ 2147483647 → nat_lt v 2147483647 ≡ false → 2147483647 ≡ v
                      top v h e = ⊎_elim (λ (l : v < 2147483647). never (lt-ltb v 2147483647 l) e) (λ (l : 2147483647 ≤ v). omega arith) (cases_lt v 2147483647)

      fine : (slot : Slot) → (v : Value) × (taken_bag (close_one Min) (total_of s).key.statement (read (own reach-loop first_key test' reach-body t) slot) (to_target (slot ∷ []) cs) ≡ Ok v)
      fine slot = by (to_target (slot ∷ []) cs) refl
        where
          held : Value
          held = read (own reach-loop first_key test' reach-body t) slot

          by : (bag : List Contribution) → to_target (slot ∷ []) cs ≡ bag → (v : Value) × (taken_bag (close_one Min) (total_of s).key.statement held (to_target (slot ∷ []) cs) ≡ Ok v)
          by [] e = (held, ap (taken_bag (close_one Min) (total_of s).key.statement held) e)
          by (c ∷ bag) e =
              let p = IsIn-filter (λ (c : Contribution). slots_eq (slot ∷ []) c.slots) c cs (subst (IsIn c) (sym e) (inl refl)) in
              let o = origin c p.0 in
              let same : slot ∷ [] ≡ Node f.level o.step.node ∷ [] = slots_eq-true (slot ∷ []) c.slots p.1 ∙ ap (λ (z : Contribution). z.slots) o.is in
              let at : slot ≡ Node f.level o.step.node = cc in (
                cell (suc j) (level o.step.node),
                ap (λ (z : Slot). taken_bag (close_one Min) (total_of s).key.statement (read (own reach-loop first_key test' reach-body t) z) (to_target (z ∷ []) cs)) at
                    ∙ ap (λ v. taken_bag (close_one Min) (total_of s).key.statement v (to_target (Node f.level o.step.node ∷ []) cs)) (own-node f.level o.step.node)
                    ∙ taken-at o.step.node (out-within run.graph ok o.node o.step o.among),
              )

      -- what the loop leaves
      pub record Reached (u : Store) : Type 0 where
        pub scalar : (y : ℕ) → u.scalar y ≡ t.scalar y
        pub others : (q m : ℕ) → q ≢ f.level → u.node q m ≡ t.node q m
        pub found : (m : ℕ) → m < node_count run.graph → u.node f.level m ≡ cell (suc j) (level m)
        pub edge : u.edge ≡ t.edge

      pub reaches : (u : Store) × (parallel reach-loop first_key test' reach-body (nodes run.graph) t ≡ Ok u) × Reached u
      reaches =
          let before = own reach-loop first_key test' reach-body t in
          let key = total_of s in (
            settled_store before cs,
            simple-loop reach-loop first_key test' reach-body t given (λ n b. (shape n b).0) (gifts-faultless key Min (IsLevel key (suc j) small) before cs gifts fine),
            record {
              scalar = λ y. value-away before (Scalar y) cs (elsewhere (Scalar y) (λ m. refl));
              others = λ q m off. value-away before (Node q m) cs (elsewhere (Node q m) (λ i. ap (λ c. c && nat_eq m i) (nat_eq-apart q f.level off))) ∙ own-node q m;
              found = λ m b.
                  gifts-value key Min (IsLevel key (suc j) small) before (Node f.level m) cs gifts
                  ∙ ap (λ v. value_or v (taken_bag (close_one Min) key.key.statement v (to_target (Node f.level m ∷ []) cs))) (own-node f.level m)
                  ∙ ap (value_or (t.node f.level m)) (taken-at m b);
              edge = refl;
            },
          )
