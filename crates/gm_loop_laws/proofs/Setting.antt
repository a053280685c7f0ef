-- A loop that sets a property at every node.
use Rattle.std.proofs.Common.{◌≡◌, ℕ, false, cond, List, [], ◌∷◌, ◌++◌, map, refl, sym, ap, ◌∙◌, Some, Result, Ok, Err, ⊎_elim}
use Rattle.std.specs.Prelude.{◌&&◌, nat_eq}
use Rattle.std.proofs.lemmas.Bool.{eq-eqb}
use Rattle.gm_base.specs.declared.places.Place.{Place}
use Rattle.gm_value.specs.declared.values.Value.{Value}
use Rattle.gm_value.specs.declared.values.Value.TheVariants.{At}
use Rattle.gm_value.specs.Bag.{IsIn}
use Rattle.gm_ast.specs.declared.tree.Key.{Key}
use Rattle.gm_ast.specs.declared.tree.Target.TheVariants as T
use Rattle.gm_ast.specs.Program.{Expr, always, Assign}
use Rattle.gm_semantics.specs.declared.faults.Fault.{Fault}
use Rattle.gm_semantics.specs.declared.slots.Slot.{Slot}
use Rattle.gm_semantics.specs.declared.slots.Slot.TheVariants.{Node}
use Rattle.gm_semantics.specs.declared.slots.Write.{Write}
use Rattle.gm_semantics.specs.Stores.{Store, overlaid}
use Rattle.gm_semantics.specs.Faults.{least, then_with, unless_fault, somes, joined}
use Rattle.gm_semantics.specs.Levels.{nodes}
use Rattle.gm_semantics.specs.Expressions.{evaluated, plain, node_of}
use Rattle.gm_semantics.specs.Contributions.{Contribution, settled_store, total_faults}
use Rattle.gm_semantics.specs.Iterations.{Loop, Iteration, begun, with_ok, Outermost, assigned, wrote}
use Rattle.gm_semantics.specs.Loops.{iteration, left_at, own_left, loop_done}
use Rattle.gm_forms.proofs.Cuts.{left_at-in, placed}
use Rattle.gm_loop_laws.specs.Masks.{looped}
use Rattle.gm_loop_laws.proofs.Joins.{map-each}
use Rattle.gm_loop_laws.proofs.Alone.{nodes-below, settled-nothing}
use Rattle.gm_loop_laws.proofs.Masks.{start, seen, start-held, outer-held}

module _ (loop : Loop) (key : Key) (q : ℕ) (at : Place) (e : Expr) (t : Store) (val : ℕ → Value) (is : (x : ℕ) → IsIn x (nodes loop.graph) → evaluated e (seen loop key t x) ≡ plain (Ok (val x))) where
  abbrev n : ℕ
  n = loop.outer

  abbrev ks : List ℕ
  ks = nodes loop.graph

  -- the iteration at a node
  abbrev setter : ℕ → Iteration
  setter x = wrote (begun (start loop key t x)) (Node q x, val x)

  -- the store with the property set
  abbrev pub put : Store
  put = own_left t ks (map setter ks)

  setter-is : (x : ℕ) → IsIn x ks → iteration loop key always (Assign key (T.Property n q at) e) t x ≡ setter x
  setter-is x i =
      let w = seen loop key t x in
      let begin = begun (start loop key t x) in
      ap (λ v. with_ok begin (assigned w (T.Property n q at) v) (wrote begin)) (is x i)
      ∙ ap (λ (r : Result ℕ Fault). with_ok begin (then_with (then_with r (λ k. Ok (Node q k))) (λ s. let p : Slot × Value = (s, val x) in let o : Result (Slot × Value) Fault = Ok p in o)) (wrote begin)) (node x i)
    where
      node : (x : ℕ) → IsIn x ks → node_of (seen loop key t x) n at ≡ Ok x
      node x i = by (node_of (seen loop key t x) n at) (outer-held loop Outermost (begun (start loop key t x)) key x (nodes-below loop.graph x i) (start-held loop key t x) n at (λ k. At (Some k)) (eq-eqb n n refl))
        where
          by : (r : Result ℕ Fault) → then_with r (λ k. Ok (At (Some k))) ≡ Ok (At (Some x)) → r ≡ Ok x
          by (Ok k) h = let same : k ≡ x = cc in ap Ok same
          by (Err f) h = absurd (cc)

  faultless : (zs : List ℕ) → somes (map (λ (it : Iteration). it.fault) (map setter zs)) ≡ []
  faultless [] = refl
  faultless (z ∷ zs) = faultless zs

  giftless : (zs : List ℕ) → joined (map (λ (it : Iteration). it.with_outermost) (map setter zs)) ≡ []
  giftless [] = refl
  giftless (z ∷ zs) = giftless zs

  writeless : (zs : List ℕ) → joined (map (λ (it : Iteration). it.deferred) (map setter zs)) ≡ []
  writeless [] = refl
  writeless (z ∷ zs) = writeless zs

  pub sets : looped loop key always (Assign key (T.Property n q at) e) t ≡ Ok put
  sets =
      ap (loop_done t ks) (map-each (iteration loop key always (Assign key (T.Property n q at) e) t) setter ks setter-is)
      ∙ ap (λ (cs : List Contribution). unless_fault (least (somes (map (λ it. it.fault) (map setter ks)) ++ total_faults put cs)) (Ok (overlaid (settled_store put cs) (joined (map (λ it. it.deferred) (map setter ks)))))) (giftless ks)
      ∙ ap (λ (ws : List Write). unless_fault (least (somes (map (λ it. it.fault) (map setter ks)) ++ [])) (Ok (overlaid (settled_store put []) ws))) (writeless ks)
      ∙ ap (λ (fs : List Fault). unless_fault (least (fs ++ [])) (Ok (settled_store put []))) (faultless ks)
      ∙ ap Ok (settled-nothing put)

  pub put-there : (x : ℕ) → IsIn x ks → put.node q x ≡ val x
  put-there x i = left_at-in setter t q x ks i ∙ ap (λ c. cond (c && nat_eq x x) (val x) (t.node q x)) (eq-eqb q q refl) ∙ ap (λ c. cond c (val x) (t.node q x)) (eq-eqb x x refl)

  pub put-other : (p x : ℕ) → nat_eq q p ≡ false → put.node p x ≡ t.node p x
  put-other p x h = ⊎_elim (λ i. left_at-in setter t p x ks i ∙ ap (λ c. cond (c && nat_eq x x) (val x) (t.node p x)) h) (λ (out : (F : ℕ → Iteration) (s : Store) (r : ℕ) → left_at ks (map F ks) s r x ≡ s.node r x). out setter t p) (placed x ks)

  pub put-outside : (p x : ℕ) → ((F : ℕ → Iteration) (s : Store) (r : ℕ) → left_at ks (map F ks) s r x ≡ s.node r x) → put.node p x ≡ t.node p x
  put-outside p x out = out setter t p

-- a loop that sets a property to what cannot fault does the same under any keys
pub any-keys : (loop : Loop) (first next key : Key) (q : ℕ) (at : Place) (e : Expr) (t : Store) (val : ℕ → Value) → ((k : Key) (x : ℕ) → IsIn x (nodes loop.graph) → evaluated e (seen loop k t x) ≡ plain (Ok (val x)))
    → looped loop first always (Assign next (T.Property loop.outer q at) e) t ≡ looped loop key always (Assign key (T.Property loop.outer q at) e) t
any-keys loop first next key q at e t val is = sets loop next q at e t val (is next) ∙ sym (sets loop key q at e t val (is key))
