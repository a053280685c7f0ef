-- The turn of a level does what the search does on it, and finds the next level.
use Rattle.std.proofs.Common.{◌≡◌, ◌<◌, ◌≤◌, ℕ, suc, Bool, true, false, cond, List, length, refl, sym, ap, subst, ◌∙◌, arith, Option, Some, None, Result, Ok, Err, ⊎_elim}
use Rattle.std.specs.Prelude.{◌&&◌, pos, filter}
use Rattle.std.proofs.lemmas.Bool.{eqb-true, cases_lt, le-leb}
use Rattle.gm_value.specs.declared.operations.Op2.TheVariants.{Eq}
use Rattle.gm_value.specs.declared.values.Value.TheVariants.{I32, Flag}
use Rattle.gm_value.specs.Bag.{IsIn}
use Rattle.gm_value.specs.Operations.{result2}
use Rattle.gm_model.specs.Graphs.{IsGraph, node_count}
use Rattle.gm_ast.specs.declared.tree.Key.{Key}
use Rattle.gm_ast.specs.Program.{Expr, Property, Stmt, Skip, Then, Foreach}
use Rattle.gm_semantics.specs.declared.faults.Fault.{Fault}
use Rattle.gm_semantics.specs.declared.slots.Slot.{Slot}
use Rattle.gm_semantics.specs.Levels.{nodes, no_levels, level_of, is_level, is_next}
use Rattle.gm_semantics.specs.Stores.{Store, read}
use Rattle.gm_semantics.specs.Iterations.{Loop}
use Rattle.gm_semantics.specs.Loops.{parallel}
use Rattle.gm_semantics.specs.Statements.{Run, State, Course, Goes, Returns, Faults, Stops, variable_at, loop_of, with_value, with_store, then_do, loops, sequential}
use Rattle.gm_semantics.specs.Frames.{Agree, AlikeStores, AlikeStates, AlikeCourses}
use Rattle.gm_semantics.proofs.ContributionLaws.{IsIn-filter}
use Rattle.gm_semantics.proofs.TargetLaws.{never}
use Rattle.gm_forms.proofs.Named.{both-true}
use Rattle.gm_bfs.specs.declared.fresh.Fresh.{Fresh}
use Rattle.gm_bfs.specs.declared.fresh.Site.{Site}
use Rattle.gm_bfs.specs.Variables.{fresh_from}
use Rattle.gm_bfs.specs.Copies.{is_upward, is_downward, has_range, asks_up, asks_down}
use Rattle.gm_bfs.specs.Searches.{over_nodes, conjunction, by_levels, is_idle, is_safe, activate, copy, visit}
use Rattle.gm_bfs.proofs.LevelFacts.{in-node, level-below, levels-few}
use Rattle.gm_bfs.proofs.Cells.{before, cell, is_found, cell-is, cell-above, cell-below}
use Rattle.gm_bfs.proofs.Expressions.{Copied}
use Rattle.gm_bfs.proofs.Ranges.{High}
use Rattle.gm_bfs.proofs.Idle.{idle-loop}
use Rattle.gm_bfs.proofs.Visits.{Part, visit-alike, visit-stays, Beyond}
use Rattle.gm_bfs.proofs.Steps.{then-to, activate-to, copy-to}

-- two courses follow one another: to states in a relation, or both to the same fault, or both to the cut
abbrev pub Follow : (State → State → Type 0) → Course → Course → Type 0
Follow R (Goes s) (Goes t) = R s t
Follow R (Faults f) (Faults g) = g ≡ f
Follow R Stops Stops = Unit {0}
Follow R _ _ = ⊥

pub follow-then : (R S : State → State → Type 0) (c d : Course) (f g : State → Course) → Follow R c d → ((s t : State) → R s t → Follow S (f s) (g t)) → Follow S (then_do c f) (then_do d g)
follow-then R S (Goes s) (Goes t) f g h each = each s t h
follow-then R S (Goes s) (Returns u t) f g h each = absurd h
follow-then R S (Goes s) (Faults e) f g h each = absurd h
follow-then R S (Goes s) Stops f g h each = absurd h
follow-then R S (Returns v s) d f g h each = absurd h
follow-then R S (Faults e) (Goes t) f g h each = absurd h
follow-then R S (Faults e) (Returns u t) f g h each = absurd h
follow-then R S (Faults e) (Faults e') f g h each = h
follow-then R S (Faults e) Stops f g h each = absurd h
follow-then R S Stops (Goes t) f g h each = absurd h
follow-then R S Stops (Returns u t) f g h each = absurd h
follow-then R S Stops (Faults e) f g h each = absurd h
follow-then R S Stops Stops f g h each = tt

then-goes : (c : Course) → then_do c Goes ≡ c
then-goes (Goes s) = refl
then-goes (Returns v s) = refl
then-goes (Faults f) = refl
then-goes Stops = refl

-- the second of them goes on
pub follow-after : (R S : State → State → Type 0) (c d : Course) (g : State → Course) → Follow R c d → ((s t : State) → R s t → Follow S (Goes s) (g t)) → Follow S c (then_do d g)
follow-after R S c d g h each = subst (λ z. Follow S z (then_do d g)) (then-goes c) (follow-then R S c d Goes g h each)

pub follow-alike : (k : ℕ) (R : State → State → Type 0) (c d : Course) → Follow R c d → ((s t : State) → R s t → AlikeStates k s t) → AlikeCourses k c d
follow-alike k R (Goes s) (Goes t) h each = each s t h
follow-alike k R (Goes s) (Returns u t) h each = absurd h
follow-alike k R (Goes s) (Faults e) h each = absurd h
follow-alike k R (Goes s) Stops h each = absurd h
follow-alike k R (Returns v s) d h each = absurd h
follow-alike k R (Faults e) (Goes t) h each = absurd h
follow-alike k R (Faults e) (Returns u t) h each = absurd h
follow-alike k R (Faults e) (Faults e') h each = h
follow-alike k R (Faults e) Stops h each = absurd h
follow-alike k R Stops (Goes t) h each = absurd h
follow-alike k R Stops (Returns u t) h each = absurd h
follow-alike k R Stops (Faults e) h each = absurd h
follow-alike k R Stops Stops h each = tt

-- a part of a search, in the loops of a site
module _ (P Q : ℕ → Type 0) (k : ℕ) (P-below : (y : ℕ) → P y → y < k) (Q-below : (p : ℕ) → Q p → p < k) (run : Run) (ok : IsGraph run.graph) (r : ℕ) (root : r < node_count run.graph)
    (plain-found : (variable_at run.declarations (fresh_from k).found).depth ≡ 0) (s : Site) (key : Key) (x : ℕ) (test : Expr) (body : Stmt) (part : Part P Q k x test body) (marks : List Bool) (short : length marks ≤ k) where
  abbrev pub fresh : Fresh
  fresh = fresh_from k

  abbrev pub level : ℕ → Option ℕ
  level = level_of run.graph r

  abbrev pub on-level : ℕ → ℕ → Bool
  on-level j n = is_level (level n) j

  pub high : High k fresh
  high = record { up = omega arith; down = omega arith; level = omega arith; copies = omega arith }

  pub few-nodes : node_count run.graph ≤ 2147483647
  few-nodes = ok.few_nodes

  -- where a node is on a level, the next one is no number of those that are not reached
  pub few : (a j c m : ℕ) → level a ≡ Some j → suc j ≤ c → m < node_count run.graph → is_found c (level m) ≡ false → suc j < 2147483647
  few a j c m e le b out = by (level m) refl out
    where
      by : (o : Option ℕ) → level m ≡ o → is_found c o ≡ false → suc j < 2147483647
      by None h out = let l = levels-few run.graph r root a j m e b h in let n = few-nodes in omega arith
      by (Some l) h out =
          let below = level-below run.graph r root m l h in
          let n = few-nodes in
          ⊎_elim (λ (far : c < l). omega arith) (λ (near : l ≤ c). never (le-leb l c near) out) (cases_lt c l)

  -- the levels up to one are found
  abbrev pub Found : ℕ → Store → Type 0
  Found c t = (m : ℕ) → m < node_count run.graph → t.node fresh.level m ≡ cell c (level m)

  -- all is ready for the part on a level
  pub record Ready (c j : ℕ) (t : Store) : Type 0 where
    pub found : Found c t
    pub active : (n : ℕ) → n < node_count run.graph → t.node fresh.active n ≡ Flag (on-level j n)
    pub copied : (m : ℕ) → m < node_count run.graph → Copied fresh marks k t m
    pub up : asks_up body ≡ true → t.scalar fresh.up ≡ I32 (before j)
    pub down : asks_down body ≡ true → t.scalar fresh.down ≡ I32 (pos (suc j))

  -- what the part leaves
  pub record Visited (us : State) (t : Store) (us' ts' : State) : Type 0 where
    pub agree : Agree k us'.store ts'.store
    pub turns : us'.turns ≡ us.turns
    pub turns' : ts'.turns ≡ us.turns
    pub stays : (slot : Slot) → Beyond P Q k P-below Q-below fresh high marks run ok level x key test body part slot → read ts'.store slot ≡ read t slot

  pub level-some : (j n : ℕ) → on-level j n ≡ true → level n ≡ Some j
  level-some j n e = by (level n) e
    where
      by : (o : Option ℕ) → is_level o j ≡ true → o ≡ Some j
      by None e = never e refl
      by (Some l) e = ap Some (eqb-true l j e)

  -- the search's loop on a level, and the loop over the active nodes
  pub visit-follow : (a c j : ℕ) → level a ≡ Some j → j ≤ c → (asks_down body ≡ true → suc j ≤ c) → (us ts : State) → Ready c j ts.store → Agree k us.store ts.store → ts.turns ≡ us.turns →
      Follow (Visited us ts.store) (loops run level x key test body (filter (on-level j) (nodes run.graph)) us) (sequential (visit s fresh marks key x test body) run ts)
  visit-follow a c j some near far us ts ready agree turns = by (is_idle body && is_safe x test) refl
    where
      ups : has_range is_upward body ≡ true → (n : ℕ) → n < node_count run.graph → on-level j n ≡ true → (m : ℕ) → m < node_count run.graph → result2 Eq (ts.store.node fresh.level m) (ts.store.scalar fresh.up) ≡ Ok (Flag (is_next (level m) (level n)))
      ups e n b on m l =
          let below = level-below run.graph r root a j some in
          let limit = few-nodes in
          ap (λ v. result2 Eq v (ts.store.scalar fresh.up)) (ready.found m l) ∙ ap (result2 Eq (cell c (level m))) (ready.up e)
          ∙ cell-above c j (level m) (omega arith) (λ out. omega arith)
          ∙ ap (λ o. Ok (Flag (is_next (level m) o))) (sym (level-some j n on))

      downs : has_range is_downward body ≡ true → (n : ℕ) → n < node_count run.graph → on-level j n ≡ true → (m : ℕ) → m < node_count run.graph → result2 Eq (ts.store.node fresh.level m) (ts.store.scalar fresh.down) ≡ Ok (Flag (is_next (level n) (level m)))
      downs e n b on m l =
          ap (λ v. result2 Eq v (ts.store.scalar fresh.down)) (ready.found m l) ∙ ap (result2 Eq (cell c (level m))) (ready.down e)
          ∙ cell-below c j (level m) (far e) (few a j c m some (far e) l)
          ∙ ap (λ o. Ok (Flag (is_next o (level m)))) (sym (level-some j n on))

      inside : (n : ℕ) → IsIn n (filter (on-level j) (nodes run.graph)) → n < node_count run.graph
      inside n i = in-node run.graph n (IsIn-filter (on-level j) n (nodes run.graph) i).0

      lp : Loop
      lp = loop_of run no_levels x (by_levels fresh marks body)

      conj : Expr
      conj = conjunction (Property x fresh.active s.place) test

      both : (p q : Result Store Fault) → AlikeStores k p q → ((u : Store) → q ≡ Ok u → (slot : Slot) → Beyond P Q k P-below Q-below fresh high marks run ok level x key test body part slot → read u slot ≡ read ts.store slot) →
          Follow (Visited us ts.store) (with_value p (with_store us)) (with_value q (with_store ts))
      both (Ok u) (Ok v) h stays = record { agree = h; turns = refl; turns' = turns; stays = stays v refl }
      both (Ok u) (Err g) h stays = absurd h
      both (Err e) (Ok v) h stays = absurd h
      both (Err e) (Err g) h stays = h

      skips : (p : Result Store Fault) → AlikeStores k p (Ok ts.store) → Follow (Visited us ts.store) (with_value p (with_store us)) (Goes ts)
      skips (Ok u) h = record { agree = h; turns = refl; turns' = turns; stays = λ slot b. refl }
      skips (Err e) h = absurd h

      by : (b : Bool) → is_idle body && is_safe x test ≡ b → Follow (Visited us ts.store) (loops run level x key test body (filter (on-level j) (nodes run.graph)) us)
          (sequential (cond b Skip (Foreach key s.place (over_nodes s x) conj (by_levels fresh marks body))) run ts)
      by true e =
          let h = both-true (is_idle body) (is_safe x test) e in
          skips (parallel (loop_of run level x body) key test body (filter (on-level j) (nodes run.graph)) us.store)
          (idle-loop k (loop_of run level x body) key test body (filter (on-level j) (nodes run.graph)) us.store ts.store h.0 h.1 inside agree)
      by false e =
          both (parallel (loop_of run level x body) key test body (filter (on-level j) (nodes run.graph)) us.store) (parallel lp key conj (by_levels fresh marks body) (nodes run.graph) ts.store)
          (visit-alike P Q k P-below Q-below fresh high marks run ok level x key test body part s.place ts.store (on-level j) ready.active ready.copied ups downs us.store agree)
          (visit-stays P Q k P-below Q-below fresh high marks run ok level x key test body part s.place ts.store (on-level j) ready.active ready.copied ups downs)

  -- active nodes and copies
  pub record Prepared (j : ℕ) (t u : Store) : Type 0 where
    pub scalar : (y : ℕ) → u.scalar y ≡ t.scalar y
    pub low : (p m : ℕ) → p < k → u.node p m ≡ t.node p m
    pub level : (m : ℕ) → u.node fresh.level m ≡ t.node fresh.level m
    pub active : (n : ℕ) → n < node_count run.graph → u.node fresh.active n ≡ Flag (on-level j n)
    pub copied : (m : ℕ) → m < node_count run.graph → Copied fresh marks k u m
    pub edge : u.edge ≡ t.edge

  pub prepare : (c j : ℕ) (ts : State) → j ≤ c → j < 2147483647 → Found c ts.store → ts.store.scalar fresh.current ≡ I32 (pos j) →
      (u : Store) × ((rest : Stmt) → sequential (Then (activate s fresh) (Then (copy s fresh marks) rest)) run ts ≡ sequential rest run (record ts { store = u })) × Prepared j ts.store u
  prepare c j ts near small found current =
      let a = activate-to s k run ts (on-level j) (λ n b. ap (λ v. result2 Eq v (ts.store.scalar fresh.current)) (found n b) ∙ ap (result2 Eq (cell c (level n))) current ∙ cell-is c j (level n) near (λ out. small)) in
      let mid : State = record ts { store = a.0 } in
      let b = copy-to s k run marks mid short in (
        b.0,
        λ rest. then-to run (activate s fresh) (Then (copy s fresh marks) rest) ts a.0 a.1 ∙ then-to run (copy s fresh marks) rest mid b.0 b.1,
        record {
          scalar = λ y. b.2.scalar y ∙ a.2.scalar y;
          low = λ p m l. b.2.below p m (omega arith) ∙ a.2.others p m (λ e. omega arith);
          level = λ m. b.2.below fresh.level m (omega arith) ∙ a.2.others fresh.level m (λ e. omega arith);
          active = λ n l. b.2.below fresh.active n (omega arith) ∙ a.2.value n l;
          copied = b.2.copied;
          edge = b.2.edge ∙ a.2.edge;
        },
      )
