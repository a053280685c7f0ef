-- What the iterations of a parallel loop leave at their own nodes.
use Rattle.std.proofs.Common.{◌≡◌, ◌∙◌, ℕ, zero, suc, Bool, true, false, nat_eq, ◌&&◌, if◌then◌else◌, ◌⊎◌, inl, inr, ⊎_elim, List, [], ◌∷◌, ◌++◌, map, refl, ap, sym, subst, append_assoc, arith}
use Rattle.std.proofs.Math.Path.{fun_ext}
use Rattle.std.specs.Prelude.{All}
use Rattle.std.proofs.lemmas.Bool.{eqb-true}
use Rattle.std.proofs.lemmas.Bool.Decides.{nat_tests}
use Rattle.std.proofs.lemmas.List.{append-nil}
use Rattle.gm_value.specs.declared.values.Value.{Value}
use Rattle.gm_semantics.specs.declared.slots.Slot.{Slot}
use Rattle.gm_semantics.specs.declared.slots.Slot.TheVariants.{Scalar, Node}
use Rattle.gm_semantics.specs.declared.slots.Write.{Write}
use Rattle.gm_semantics.specs.Iterations.{Iteration}
use Rattle.gm_semantics.specs.Loops.{left_at, own_left}
use Rattle.gm_semantics.specs.Contributions.{settled_store}
use Rattle.gm_semantics.specs.Stores.{Store, slot_eq, write, overlaid}
use Rattle.gm_store.specs.Held.{Held, held_at, shape_of, store_of, undone}
use Rattle.gm_loops.specs.Own.{is_at, kept, Sets}
use Rattle.gm_loops.specs.Turns.{KeepsOwn}

nat_eq-same : (n : ℕ) → nat_eq n n ≡ true
nat_eq-same n = grind (arith, nat_tests)

pub overlaid-append : (s : Store) (ws us : List Write) → overlaid s (ws ++ us) ≡ overlaid (overlaid s ws) us
overlaid-append s [] us = refl
overlaid-append s (w ∷ ws) us = overlaid-append (write s w.slot w.value) ws us

-- a kept write, and the others
kept_by : (n : ℕ) (h : Held) (w : Write) (ws : List Write) (b : Bool) → is_at n w.slot ≡ b → kept n h (w ∷ ws) ≡ (if b then record { slot = w.slot; value = held_at h w.slot } ∷ kept n h ws else kept n h ws)
kept_by n h w ws b e = ap (λ (c : Bool). if c then record { slot = w.slot; value = held_at h w.slot } ∷ kept n h ws else kept n h ws) e

-- what holds of a store holds after the kept writes, if it holds after each
kept-keeps : {X : Type 0} (n : ℕ) (h : Held) (part : Store → X) → ((t : Store) (slot : Slot) → is_at n slot ≡ true → part (write t slot (held_at h slot)) ≡ part t)
    → (t : Store) (ws : List Write) → part (overlaid t (kept n h ws)) ≡ part t
kept-keeps n h part each t [] = refl
kept-keeps n h part each t (w ∷ ws) =
    by (is_at n w.slot) refl (kept-keeps n h part each (write t w.slot (held_at h w.slot)) ws) (kept-keeps n h part each t ws)
  where
    by : (b : Bool) → is_at n w.slot ≡ b
        → part (overlaid (write t w.slot (held_at h w.slot)) (kept n h ws)) ≡ part (write t w.slot (held_at h w.slot)) → part (overlaid t (kept n h ws)) ≡ part t
        → part (overlaid t (if b then record { slot = w.slot; value = held_at h w.slot } ∷ kept n h ws else kept n h ws)) ≡ part t
    by true e with_it without = with_it ∙ each t w.slot e
    by false e with_it without = without

-- the kept writes leave scalars and edges
scalar-write : (n : ℕ) (h : Held) (t : Store) (slot : Slot) → is_at n slot ≡ true → (write t slot (held_at h slot)).scalar ≡ t.scalar
scalar-write n h t (Scalar x) e = cc
scalar-write n h t (Node p m) e = refl

edge-write : (n : ℕ) (h : Held) (t : Store) (slot : Slot) → is_at n slot ≡ true → (write t slot (held_at h slot)).edge ≡ t.edge
edge-write n h t (Scalar x) e = refl
edge-write n h t (Node p m) e = refl

-- they leave what other nodes have
other-write : (n : ℕ) (h : Held) (q m : ℕ) → nat_eq n m ≡ false → (t : Store) (slot : Slot) → is_at n slot ≡ true → (write t slot (held_at h slot)).node q m ≡ t.node q m
other-write n h q m other t (Scalar x) e = cc
other-write n h q m other t (Node p k) e =
    let same : k ≡ n = eqb-true k n e in
    by (nat_eq p q) (nat_eq k m) (ap (λ (j : ℕ). nat_eq j m) same ∙ other)
  where
    by : (a b : Bool) → b ≡ false → (if a && b then held_at h (Node p k) else t.node q m) ≡ t.node q m
    by true true f = cc
    by true false f = refl
    by false b f = refl

-- what the node has after a write: what was held, if it was written, and else what it had
own-write : (h : Held) (q n : ℕ) (t : Store) (slot : Slot) → t.node q n ≡ held_at h (Node q n) → (write t slot (held_at h slot)).node q n ≡ held_at h (Node q n)
own-write h q n t (Scalar x) e = e
own-write h q n t (Node p k) e = by (nat_eq p q) (nat_eq k n) refl refl where
  by : (a b : Bool) → nat_eq p q ≡ a → nat_eq k n ≡ b → (if a && b then held_at h (Node p k) else t.node q n) ≡ held_at h (Node q n)
  by true true f g = ap (λ (j : ℕ). held_at h (Node j k)) (eqb-true p q f) ∙ ap (λ (j : ℕ). held_at h (Node q j)) (eqb-true k n g)
  by true false f g = e
  by false b f g = e

own-stays : (h : Held) (q n : ℕ) (t : Store) (ws : List Write) → t.node q n ≡ held_at h (Node q n) → (overlaid t (kept n h ws)).node q n ≡ held_at h (Node q n)
own-stays h q n t [] e = e
own-stays h q n t (w ∷ ws) e =
    by (is_at n w.slot) (own-stays h q n (write t w.slot (held_at h w.slot)) ws (own-write h q n t w.slot e)) (own-stays h q n t ws e)
  where
    by : (b : Bool) → (overlaid (write t w.slot (held_at h w.slot)) (kept n h ws)).node q n ≡ held_at h (Node q n) → (overlaid t (kept n h ws)).node q n ≡ held_at h (Node q n)
        → (overlaid t (if b then record { slot = w.slot; value = held_at h w.slot } ∷ kept n h ws else kept n h ws)).node q n ≡ held_at h (Node q n)
    by true with_it without = with_it
    by false with_it without = without

-- where the node has what it had before the writes, it has what is held after them
own-hit : (h : Held) (q n p k : ℕ) (t : Store) → nat_eq p q ≡ true → nat_eq k n ≡ true → (write t (Node p k) (held_at h (Node p k))).node q n ≡ held_at h (Node q n)
own-hit h q n p k t f d =
    ap (λ (c : Bool). if c && nat_eq k n then held_at h (Node p k) else t.node q n) f
    ∙ ap (λ (c : Bool). if c then held_at h (Node p k) else t.node q n) d
    ∙ ap (λ (j : ℕ). held_at h (Node j k)) (eqb-true p q f)
    ∙ ap (λ (j : ℕ). held_at h (Node q j)) (eqb-true k n d)

own-missed : (h : Held) (q n p k : ℕ) (t : Store) → nat_eq p q ≡ false → (write t (Node p k) (held_at h (Node p k))).node q n ≡ t.node q n
own-missed h q n p k t f = ap (λ (c : Bool). if c && nat_eq k n then held_at h (Node p k) else t.node q n) f

written-by : (h : Held) (q n p k : ℕ) (v : Value) (u t : Store) (ws : List Write)
    → ((t : Store) → u.node q n ≡ t.node q n → (overlaid t (kept n h ws)).node q n ≡ held_at h (Node q n))
    → (a b : Bool) → nat_eq p q ≡ a → nat_eq k n ≡ b → (if a && b then v else u.node q n) ≡ t.node q n
    → (overlaid t (if b then record { slot = Node p k; value = held_at h (Node p k) } ∷ kept n h ws else kept n h ws)).node q n ≡ held_at h (Node q n)
written-by h q n p k v u t ws others true true f d g = own-stays h q n (write t (Node p k) (held_at h (Node p k))) ws (own-hit h q n p k t f d)
written-by h q n p k v u t ws others true false f d g = others t g
written-by h q n p k v u t ws others false true f d g = others (write t (Node p k) (held_at h (Node p k))) (g ∙ sym (own-missed h q n p k t f))
written-by h q n p k v u t ws others false false f d g = others t g

written-at : (h : Held) (q n : ℕ) (w : Write) (u t : Store) (ws : List Write)
    → ((t : Store) → u.node q n ≡ t.node q n → (overlaid t (kept n h ws)).node q n ≡ held_at h (Node q n))
    → (slot : Slot) → w.slot ≡ slot → (write u slot w.value).node q n ≡ t.node q n
    → (overlaid t (if is_at n slot then record { slot = slot; value = held_at h slot } ∷ kept n h ws else kept n h ws)).node q n ≡ held_at h (Node q n)
written-at h q n w u t ws others (Scalar y) e g = others t g
written-at h q n w u t ws others (Node p k) e g = written-by h q n p k w.value u t ws others (nat_eq p q) (nat_eq k n) refl refl g

own-written : (x : Store) (h : Held) (q n : ℕ) → x.node q n ≡ held_at h (Node q n) → (ws : List Write) (t : Store) → (undone x ws).node q n ≡ t.node q n
    → (overlaid t (kept n h ws)).node q n ≡ held_at h (Node q n)
own-written x h q n top [] t e = sym e ∙ top
own-written x h q n top (w ∷ ws) t e = written-at h q n w (undone x ws) t ws (own-written x h q n top ws) w.slot refl e

-- what nodes hold after one more iteration
pub left-other : (turn : ℕ → Iteration) (s : Store) (n q m : ℕ) → nat_eq n m ≡ false → (ks : List ℕ) → left_at (ks ++ n ∷ []) (map turn (ks ++ n ∷ [])) s q m ≡ left_at ks (map turn ks) s q m
left-other turn s n q m other [] = ap (λ (b : Bool). if b then (turn n).store.node q m else s.node q m) other
left-other turn s n q m other (k ∷ ks) = ap (λ (v : Value). if nat_eq k m then (turn k).store.node q m else v) (left-other turn s n q m other ks)

pub left-own : (turn : ℕ → Iteration) (s : Store) (n q : ℕ) (ks : List ℕ) → left_at (ks ++ n ∷ []) (map turn (ks ++ n ∷ [])) s q n ≡ (turn n).store.node q n
left-own turn s n q [] = ap (λ (b : Bool). if b then (turn n).store.node q n else s.node q n) (nat_eq-same n)
left-own turn s n q (k ∷ ks) = by (nat_eq k n) refl (left-own turn s n q ks) where
  by : (b : Bool) → nat_eq k n ≡ b → left_at (ks ++ n ∷ []) (map turn (ks ++ n ∷ [])) s q n ≡ (turn n).store.node q n → (if b then (turn k).store.node q n else left_at (ks ++ n ∷ []) (map turn (ks ++ n ∷ [])) s q n) ≡ (turn n).store.node q n
  by true e rest = ap (λ (j : ℕ). (turn j).store.node q n) (eqb-true k n e)
  by false e rest = rest

-- before it the node held what its own iteration left, if there was one, and else what it had
pub left-before : (turn : ℕ → Iteration) (s : Store) (n q : ℕ) (ks : List ℕ) → (left_at ks (map turn ks) s q n ≡ (turn n).store.node q n) ⊎ (left_at ks (map turn ks) s q n ≡ s.node q n)
left-before turn s n q [] = inr refl
left-before turn s n q (k ∷ ks) = by (nat_eq k n) refl (left-before turn s n q ks) where
  by : (b : Bool) → nat_eq k n ≡ b → (left_at ks (map turn ks) s q n ≡ (turn n).store.node q n) ⊎ (left_at ks (map turn ks) s q n ≡ s.node q n)
      → ((if b then (turn k).store.node q n else left_at ks (map turn ks) s q n) ≡ (turn n).store.node q n) ⊎ ((if b then (turn k).store.node q n else left_at ks (map turn ks) s q n) ≡ s.node q n)
  by true e rest = inl (ap (λ (j : ℕ). (turn j).store.node q n) (eqb-true k n e))
  by false e rest = rest

pub same-store : (a b : Store) → a.scalar ≡ b.scalar → a.node ≡ b.node → a.edge ≡ b.edge → a ≡ b
same-store a b p q r =
    ap (λ (f : ℕ → Value). let u : Store = record { scalar = f; node = a.node; edge = a.edge } in u) p
    ∙ ap (λ (f : ℕ → ℕ → Value). let u : Store = record { scalar = b.scalar; node = f; edge = a.edge } in u) q
    ∙ ap (λ (f : ℕ → ℕ → Value). let u : Store = record { scalar = b.scalar; node = b.node; edge = f } in u) r

-- what was kept of an iteration, behind what was kept of others
pub keeps-more : (edge : ℕ → ℕ → Value) (s : Store) (h : Held) (n : ℕ) (ws own : List Write) (ks : List ℕ) (turn : ℕ → Iteration)
    → store_of edge h ≡ (turn n).store → undone (store_of edge h) ws ≡ s → KeepsOwn s own ks turn → KeepsOwn s (own ++ kept n h ws) (ks ++ n ∷ []) turn
keeps-more edge s h n ws own ks turn top back before =
    overlaid-append s own (kept n h ws) ∙ ap (λ (t : Store). overlaid t (kept n h ws)) before
    ∙ same-store (overlaid t (kept n h ws)) (own_left s (ks ++ n ∷ []) (map turn (ks ++ n ∷ [])))
    (kept-keeps n h (λ (u : Store). u.scalar) (scalar-write n h) t ws)
    (fun_ext (λ q. fun_ext (λ m. by q m (nat_eq n m) refl)))
    (kept-keeps n h (λ (u : Store). u.edge) (edge-write n h) t ws)
  where
    t : Store
    t = own_left s ks (map turn ks)

    held : (q : ℕ) → (turn n).store.node q n ≡ held_at h (Node q n)
    held q = ap (λ (u : Store). u.node q n) (sym top)

    own_node : (q : ℕ) → (overlaid t (kept n h ws)).node q n ≡ (turn n).store.node q n
    own_node q =
        ⊎_elim
        (λ (e : left_at ks (map turn ks) s q n ≡ (turn n).store.node q n). own-stays h q n t ws (e ∙ held q))
        (λ (e : left_at ks (map turn ks) s q n ≡ s.node q n). own-written (store_of edge h) h q n refl ws t (ap (λ (u : Store). u.node q n) back ∙ sym e))
        (left-before turn s n q ks)
        ∙ sym (held q)

    by : (q m : ℕ) (b : Bool) → nat_eq n m ≡ b → (overlaid t (kept n h ws)).node q m ≡ left_at (ks ++ n ∷ []) (map turn (ks ++ n ∷ [])) s q m
    by q m true e = subst (λ (j : ℕ). (overlaid t (kept n h ws)).node q j ≡ left_at (ks ++ n ∷ []) (map turn (ks ++ n ∷ [])) s q j) (eqb-true n m e) (own_node q ∙ sym (left-own turn s n q ks))
    by q m false e = kept-keeps n h (λ (u : Store). u.node q m) (other-write n h q m e) t ws ∙ sym (left-other turn s n q m e ks)

-- nothing is kept of no iteration
pub keeps-none : (s : Store) (turn : ℕ → Iteration) → KeepsOwn s [] [] turn
keeps-none s turn = refl

pub kept-append : (n : ℕ) (h : Held) (ws us : List Write) → kept n h (ws ++ us) ≡ kept n h ws ++ kept n h us
kept-append n h [] us = refl
kept-append n h (w ∷ ws) us = by (is_at n w.slot) (kept-append n h ws us) where
  by : (b : Bool) → kept n h (ws ++ us) ≡ kept n h ws ++ kept n h us → (if b then record { slot = w.slot; value = held_at h w.slot } ∷ kept n h (ws ++ us) else kept n h (ws ++ us))
      ≡ (if b then record { slot = w.slot; value = held_at h w.slot } ∷ kept n h ws else kept n h ws) ++ kept n h us
  by true rest = ap (λ l. record { slot = w.slot; value = held_at h w.slot } ∷ l) rest
  by false rest = rest

-- a logged write that is at the node, and one that is not
pub kept-one : (n : ℕ) (h : Held) (w : Write) → is_at n w.slot ≡ true → kept n h (w ∷ []) ≡ record { slot = w.slot; value = held_at h w.slot } ∷ []
kept-one n h w e = kept_by n h w [] true e

pub kept-left : (n : ℕ) (h : Held) (w : Write) → is_at n w.slot ≡ false → kept n h (w ∷ []) ≡ []
kept-left n h w e = kept_by n h w [] false e

-- no write is set, and one more is
pub overlaid-last : (s : Store) (ws : List Write) (w : Write) → overlaid s (ws ++ w ∷ []) ≡ write (overlaid s ws) w.slot w.value
overlaid-last s ws w = overlaid-append s ws (w ∷ [])

pub sets-none : (h : Held) → Sets h h []
sets-none h = record { store = λ edge. refl; undo = refl; shape = refl }

pub sets-more : (old mid new : Held) (ws : List Write) (w : Write) → Sets old mid ws → ((edge : ℕ → ℕ → Value) → store_of edge new ≡ write (store_of edge mid) w.slot w.value)
    → new.undo ≡ mid.undo → shape_of new ≡ shape_of mid → Sets old new (ws ++ w ∷ [])
sets-more old mid new ws w first written undo shape = record {
  store = λ edge. written edge ∙ ap (λ (s : Store). write s w.slot w.value) (first.store edge) ∙ sym (overlaid-last (store_of edge old) ws w);
  undo = undo ∙ first.undo;
  shape = shape ∙ first.shape;
}

-- of one more logged write what its slot holds is kept, if it is at the node
pub kept-more : (n : ℕ) (h : Held) (own ws : List Write) (w : Write) (now : List Write) → now ≡ own ++ kept n h ws → is_at n w.slot ≡ true
    → now ++ record { slot = w.slot; value = held_at h w.slot } ∷ [] ≡ own ++ kept n h (ws ++ w ∷ [])
kept-more n h own ws w now e at =
    ap (λ (l : List Write). l ++ record { slot = w.slot; value = held_at h w.slot } ∷ []) e
    ∙ append_assoc own (kept n h ws) (record { slot = w.slot; value = held_at h w.slot } ∷ [])
    ∙ ap (λ (l : List Write). own ++ l) (ap (λ (l : List Write). kept n h ws ++ l) (sym (kept-one n h w at)) ∙ sym (kept-append n h ws (w ∷ [])))

pub kept-same : (n : ℕ) (h : Held) (own ws : List Write) (w : Write) (now : List Write) → now ≡ own ++ kept n h ws → is_at n w.slot ≡ false → now ≡ own ++ kept n h (ws ++ w ∷ [])
kept-same n h own ws w now e away =
    e ∙ ap (λ (l : List Write). own ++ l) (sym (append-nil (kept n h ws)) ∙ ap (λ (l : List Write). kept n h ws ++ l) (sym (kept-left n h w away)) ∙ sym (kept-append n h ws (w ∷ [])))

-- what holds of all and of one more
pub all-push : {A : Type 0} (P : A → Type 0) (xs : List A) (x : A) → All P xs → P x → All P (xs ++ x ∷ [])
all-push P [] x h p zero d lt = p
all-push P [] x h p (suc k) d lt = absurd (omega arith)
all-push P (y ∷ ys) x h p zero d lt = h zero d (omega arith)
all-push P (y ∷ ys) x h p (suc k) d lt = all-push P ys x (λ j e l. h (suc j) e (omega arith)) p k d (omega arith)

-- without contributions slots hold what they held
same-either : (b : Bool) (v : Value) → (if b then v else v) ≡ v
same-either true v = refl
same-either false v = refl

pub settled-nothing : (s : Store) → settled_store s [] ≡ s
settled-nothing s =
    same-store (settled_store s []) s (fun_ext (λ x. same-either (slot_eq (Scalar x) (Scalar x)) (s.scalar x)))
    (fun_ext (λ p. fun_ext (λ n. same-either (slot_eq (Node p n) (Node p n)) (s.node p n)))) refl
