-- A loop that writes a variable's value at one node alone.
use Rattle.std.proofs.Common.{◌≡◌, ◌≤◌, ◌<◌, ◌+◌, ℕ, pos, zero, suc, Bool, true, false, cond, List, [], ◌∷◌, ◌++◌, map, refl, sym, ap, ◌∙◌, arith, ⊎_elim, inl, inr, Some, None, Result, Ok}
use Rattle.std.specs.Prelude.{◌≢◌, ◌&&◌, nat_eq, if◌then◌else◌}
use Rattle.std.specs.Ordering.{int_eq}
use Rattle.std.proofs.Math.Path.{fun_ext}
use Rattle.std.proofs.lemmas.Bool.{both_ways, eq-eqb, eqb-true, ne_eqb, lt-ltb}
use Rattle.std.proofs.lemmas.Bool.Decides.{Decides-int_eq}
use Rattle.gm_value.specs.declared.values.Value.{Value}
use Rattle.gm_value.specs.declared.values.Value.TheVariants.{Flag, At}
use Rattle.gm_value.specs.Bag.{IsIn}
use Rattle.gm_value.specs.Operations.{is_true}
use Rattle.gm_model.specs.Graphs.{node_count}
use Rattle.gm_ast.specs.declared.tree.Target.TheVariants as T
use Rattle.gm_ast.specs.Program.{Var, Stmt, Assign}
use Rattle.gm_semantics.specs.declared.faults.Fault.{Fault}
use Rattle.gm_semantics.specs.declared.slots.Slot.TheVariants.{Scalar, Node}
use Rattle.gm_semantics.specs.Levels.{numbers_from, nodes, no_levels, node_in}
use Rattle.gm_semantics.specs.Stores.{Store, write, overlaid}
use Rattle.gm_semantics.specs.Faults.{least, then_with, unless_fault, somes, joined}
use Rattle.gm_semantics.specs.Expressions.{Answer, View, node_held}
use Rattle.gm_semantics.specs.Contributions.{settled_store, total_faults}
use Rattle.gm_semantics.specs.Iterations.{Loop, Iteration, Outermost, begun, with_ok, wrote, one_way, as_it_is, view_in, does}
use Rattle.gm_semantics.specs.Loops.{iteration, left_at, own_left, loop_done, parallel}
use Rattle.gm_semantics.specs.Statements.{Run, State, Goes, loop_of, view_of, with_value, with_store, sequential}
use Rattle.gm_semantics.proofs.TargetLaws.{value-away}
use Rattle.gm_desugar.specs.Conditions.{nowhere}
use Rattle.gm_forms.specs.Order.{first_key, second_key}
use Rattle.gm_reductions.specs.declared.accesses.Fresh.{Fresh}
use Rattle.gm_reductions.specs.Accesses.{is_there, write_there}
use Rattle.gm_reductions.proofs.OneNode.{filter-is}

-- all nodes are among them
pub among-numbers : (n i m : ℕ) → i ≤ m → m < i + n → IsIn m (numbers_from i n)
among-numbers zero i m l h = absurd (omega arith)
among-numbers (suc n) i m l h = by (nat_eq i m) refl (λ low. among-numbers n (suc i) m low (omega arith))
  where
    by : (b : Bool) → nat_eq i m ≡ b → (suc i ≤ m → IsIn m (numbers_from (suc i) n)) → IsIn m (numbers_from i (suc n))
    by true e next = inl (sym (eqb-true i m e))
    by false e next = inr (let other : i ≢ m = (λ s. both_ways (nat_eq i m) e (eq-eqb i m s)) in next (omega arith))

-- a store after a write of a value to a property at a node
pub record WrittenAt (p m : ℕ) (v : Value) (s t : Store) : Type 0 where
  pub scalar : (y : ℕ) → t.scalar y ≡ s.scalar y
  pub node : (q j : ℕ) → t.node q j ≡ (if nat_eq p q && nat_eq m j then v else s.node q j)
  pub edge : t.edge ≡ s.edge

module _ (run : Run) (f : Fresh) (c : ℕ) (apart : nat_eq f.iterator c ≡ false) (p x : ℕ) (beside : nat_eq f.iterator x ≡ false) (u : State) (m : ℕ) (low : m < node_count run.graph) (holds : u.store.scalar c ≡ At (Some m)) where
  abbrev body : Stmt
  body = Assign second_key (T.Property f.iterator p nowhere) (Var x nowhere)

  abbrev loop : Loop
  loop = loop_of run no_levels f.iterator body

  abbrev s : Store
  s = u.store

  abbrev v : Value
  v = s.scalar x

  abbrev begins : ℕ → Iteration
  begins n = begun (write s (Scalar f.iterator) (At (Some n)))

  abbrev turned : ℕ → Iteration
  turned n = if int_eq (pos n) (pos m) then wrote (begins n) (Node p m, v) else begins n

  abbrev seen : View
  seen = view_in loop Outermost (begins m) second_key

  -- the write at the node
  body-is : does body Outermost loop (begins m) ≡ wrote (begins m) (Node p m, v)
  body-is =
      ap (λ (b : Bool). with_ok (begins m) (then_with (then_with (node_held seen nowhere (node_in run.graph (cond b (At (Some m)) (s.scalar f.iterator)))) (λ n. Ok (Node p n))) (λ slot. Ok (slot, cond (nat_eq f.iterator x) (At (Some m)) v))) (wrote (begins m))) (eq-eqb f.iterator f.iterator refl)
      ∙ ap (λ (b : Bool). with_ok (begins m) (then_with (then_with (node_held seen nowhere (cond b (Some m) None)) (λ n. Ok (Node p n))) (λ slot. Ok (slot, cond (nat_eq f.iterator x) (At (Some m)) v))) (wrote (begins m))) (lt-ltb m (node_count run.graph) low)
      ∙ ap (λ (b : Bool). wrote (begins m) (Node p m, cond b (At (Some m)) v)) beside

  iteration-is : (n : ℕ) → iteration loop first_key (is_there f c) body s n ≡ turned n
  iteration-is n =
      ap (λ (a : Answer). with_ok (begins n) a (λ w. one_way (is_true w) (does body Outermost loop) as_it_is (begins n))) (filter-is f c apart (view_of run u first_key) m holds n first_key)
      ∙ by (int_eq (pos n) (pos m)) refl
    where
      by : (b : Bool) → int_eq (pos n) (pos m) ≡ b → one_way (is_true (Flag b)) (does body Outermost loop) as_it_is (begins n) ≡ (if b then wrote (begins n) (Node p m, v) else begins n)
      by true e =
          let pos_same : pos n ≡ pos m = (Decides-int_eq (pos n) (pos m)).0 e in
          let same : n ≡ m = cc in
          ap (λ k. does body Outermost loop (begins k)) same ∙ body-is ∙ ap (λ k. wrote (begins k) (Node p m, v)) (sym same)
      by false e = refl

  -- what a node holds after the loop
  abbrev there : ℕ → ℕ → Value
  there q j = if nat_eq p q && nat_eq m j then v else s.node q j

  turned-node : (q j : ℕ) → (turned j).store.node q j ≡ there q j
  turned-node q j = by (int_eq (pos j) (pos m)) refl
    where
      and-false : (b : Bool) → b && false ≡ false
      and-false true = refl
      and-false false = refl

      by : (b : Bool) → int_eq (pos j) (pos m) ≡ b → (let it : Iteration = (if b then wrote (begins j) (Node p m, v) else begins j) in it.store.node q j) ≡ there q j
      by true e = refl
      by false e =
          let other : m ≢ j = (λ same. both_ways (int_eq (pos j) (pos m)) e ((Decides-int_eq (pos j) (pos m)).1 (ap pos (sym same)))) in
          sym (ap (λ b. if nat_eq p q && b then v else s.node q j) (ne_eqb m j other) ∙ ap (λ b. if b then v else s.node q j) (and-false (nat_eq p q)))

  left-is : (js : List ℕ) (q j : ℕ) → (m ≡ j → IsIn m js) → left_at js (map turned js) s q j ≡ there q j
  left-is [] q j has = by (nat_eq m j) refl
    where
      and-false : (b : Bool) → b && false ≡ false
      and-false true = refl
      and-false false = refl

      by : (b : Bool) → nat_eq m j ≡ b → s.node q j ≡ there q j
      by true e = absurd (has (eqb-true m j e))
      by false e = sym (ap (λ b. if nat_eq p q && b then v else s.node q j) e ∙ ap (λ b. if b then v else s.node q j) (and-false (nat_eq p q)))
  left-is (k ∷ js) q j has = by (nat_eq k j) refl (left-is js q j)
    where
      by : (b : Bool) → nat_eq k j ≡ b → ((m ≡ j → IsIn m js) → left_at js (map turned js) s q j ≡ there q j) → (if b then (turned k).store.node q j else left_at js (map turned js) s q j) ≡ there q j
      by true e rest = let same : k ≡ j = eqb-true k j e in ap (λ (n : ℕ). (turned n).store.node q j) same ∙ turned-node q j
      by false e rest = rest (λ same. ⊎_elim (λ (here : m ≡ k). absurd (both_ways (nat_eq k j) e (eq-eqb k j (sym here ∙ same)))) (λ i. i) (has same))

  quiet : (n : ℕ) → ((turned n).with_outermost ≡ []) × ((turned n).fault ≡ None) × ((turned n).deferred ≡ [])
  quiet n = by (int_eq (pos n) (pos m))
    where
      by : (b : Bool) → let it : Iteration = (if b then wrote (begins n) (Node p m, v) else begins n) in (it.with_outermost ≡ []) × (it.fault ≡ None) × (it.deferred ≡ [])
      by true = (refl, refl, refl)
      by false = (refl, refl, refl)

  none-given : (js : List ℕ) → joined (map (λ (t : Iteration). t.with_outermost) (map turned js)) ≡ []
  none-given [] = refl
  none-given (j ∷ js) = ap (λ l. l ++ joined (map (λ (t : Iteration). t.with_outermost) (map turned js))) (quiet j).0 ∙ none-given js

  none-faults : (js : List ℕ) → somes (map (λ (t : Iteration). t.fault) (map turned js)) ≡ []
  none-faults [] = refl
  none-faults (j ∷ js) = ap (λ o. somes (o ∷ map (λ (t : Iteration). t.fault) (map turned js))) (quiet j).1 ∙ none-faults js

  none-deferred : (js : List ℕ) → joined (map (λ (t : Iteration). t.deferred) (map turned js)) ≡ []
  none-deferred [] = refl
  none-deferred (j ∷ js) = ap (λ l. l ++ joined (map (λ (t : Iteration). t.deferred) (map turned js))) (quiet j).2 ∙ none-deferred js

  abbrev own : List ℕ → Store
  own ks = own_left s ks (map turned ks)

  parallel-is : (ks : List ℕ) → parallel loop first_key (is_there f c) body ks s ≡ Ok (settled_store (own ks) [])
  parallel-is ks =
      ap (λ (g : ℕ → Iteration). loop_done s ks (map g ks)) (fun_ext iteration-is)
      ∙ ap (λ cs. unless_fault (least (somes (map (λ (t : Iteration). t.fault) (map turned ks)) ++ total_faults (own ks) cs)) (Ok (overlaid (settled_store (own ks) cs) (joined (map (λ (t : Iteration). t.deferred) (map turned ks)))))) (none-given ks)
      ∙ ap (λ fs. unless_fault (least (fs ++ [])) (Ok (overlaid (settled_store (own ks) []) (joined (map (λ (t : Iteration). t.deferred) (map turned ks)))))) (none-faults ks)
      ∙ ap (λ ws. let r : Result Store Fault = Ok (overlaid (settled_store (own ks) []) ws) in r) (none-deferred ks)

  -- the loop leaves the store with the write
  pub write-there : (t : Store) × (sequential (write_there f c p x) run u ≡ Goes (record u { store = t })) × WrittenAt p m v s t
  write-there =
      let ks = nodes run.graph in
      let within : m < 0 + node_count run.graph = omega arith in (
        settled_store (own ks) [],
        ap (λ (r : Result Store Fault). with_value r (with_store u)) (parallel-is ks),
        record {
          scalar = λ y. value-away (own ks) (Scalar y) [] (λ c i. absurd i);
          node = λ q j. value-away (own ks) (Node q j) [] (λ c i. absurd i) ∙ left-is ks q j (λ same. among-numbers (node_count run.graph) 0 m (omega arith) within);
          edge = refl;
        },
      )
