-- Iterations that do one thing.
use Rattle.std.proofs.Common.{◌≡◌, ◌∙◌, ℕ, Bool, true, false, nat_eq, ◌&&◌, if◌then◌else◌, ⊎_elim, List, [], ◌∷◌, ◌++◌, map, Option, Some, Ok, refl, ap, sym, subst}
use Rattle.std.proofs.Math.Path.{fun_ext}
use Rattle.std.proofs.lemmas.Bool.{eqb-true}
use Rattle.std.proofs.lemmas.List.{append-nil}
use Rattle.std.proofs.lemmas.Option.{IfSome_then}
use Rattle.std.specs.Prelude.{All, IfSome}
use Rattle.gm_value.specs.declared.values.Value.{Value}
use Rattle.gm_value.specs.declared.values.Value.TheVariants.{At}
use Rattle.gm_value.specs.Operations.{is_true}
use Rattle.gm_ast.specs.declared.tree.Key.{Key}
use Rattle.gm_ast.specs.Program.{Expr, Stmt}
use Rattle.gm_semantics.specs.declared.slots.Slot.{Slot}
use Rattle.gm_semantics.specs.declared.slots.Slot.TheVariants.{Scalar, Node}
use Rattle.gm_semantics.specs.declared.slots.Write.{Write}
use Rattle.gm_semantics.specs.Expressions.{evaluated, plain, settled, value}
use Rattle.gm_semantics.specs.Iterations.{Iteration, Loop, Mode, as_it_is, begun, does, one_way, turn_at, view_in, with_ok}
use Rattle.gm_semantics.specs.Loops.{left_at, own_left}
use Rattle.gm_semantics.specs.Stores.{Store, overlaid, write}
use Rattle.gm_store.specs.Held.{Held, Shape, HasSlot, scalar_of, store_of}
use Rattle.gm_loops.specs.declared.around.Around.{Around}
use Rattle.gm_loops.specs.declared.scopes.Scope.{Scope}
use Rattle.gm_loops.specs.declared.sights.Sight.{Sight}
use Rattle.gm_loops.specs.declared.shorts.Deed.{Deed}
use Rattle.gm_loops.specs.declared.shorts.Deed.TheVariants.{Nothing, Writes, Gives}
use Rattle.gm_loops.specs.declared.around.Mode as C
use Rattle.gm_loops.specs.Around.{loop_of, mode_in, sight_of}
use Rattle.gm_loops.specs.Own.{is_at}
use Rattle.gm_loops.specs.Scopes.{inside, no_scope, scalar_in}
use Rattle.gm_loops.specs.Sights.{edges_in, view_of}
use Rattle.gm_loops.specs.Shorts.{after_deed, own_of, IsOwn, IsWithin}
use Rattle.gm_loops.specs.Turns.{KeepsOwn}
use Rattle.gm_loops.proofs.Effects.{inside-none, view-inside}
use Rattle.gm_loops.proofs.Keeping.{all-push, left-before, left-other, left-own, overlaid-last, same-store}

-- an iteration whose filter has a value
pub turn-filtered : (loop : Loop) (m : Mode) (key : Key) (test : Expr) (body : Iteration → Iteration) (i n : ℕ) (s : Store) (v : Value)
    → value test (view_in loop m (begun (write s (Scalar i) (At (Some n)))) key) ≡ Ok v
    → turn_at loop m key test body i n s ≡ one_way (is_true v) body as_it_is (begun (write s (Scalar i) (At (Some n))))
turn-filtered loop m key test body i n s v e =
    let start = begun (write s (Scalar i) (At (Some n))) in
    ap (λ a. with_ok start a (λ x. one_way (is_true x) body as_it_is start)) e

-- what one iteration of one deed leaves at other nodes and at its own
stays-left : (s : Store) (n : ℕ) (ks : List ℕ) (turn : ℕ → Iteration) → ((q : ℕ) → (turn n).store.node q n ≡ s.node q n)
    → own_left s ks (map turn ks) ≡ own_left s (ks ++ n ∷ []) (map turn (ks ++ n ∷ []))
stays-left s n ks turn same =
    same-store (own_left s ks (map turn ks)) (own_left s (ks ++ n ∷ []) (map turn (ks ++ n ∷ []))) refl (fun_ext (λ q. fun_ext (λ m. by q m (nat_eq n m) refl))) refl
  where
    by : (q m : ℕ) (b : Bool) → nat_eq n m ≡ b → left_at ks (map turn ks) s q m ≡ left_at (ks ++ n ∷ []) (map turn (ks ++ n ∷ [])) s q m
    by q m true e =
        subst (λ (j : ℕ). left_at ks (map turn ks) s q j ≡ left_at (ks ++ n ∷ []) (map turn (ks ++ n ∷ [])) s q j) (eqb-true n m e)
        (⊎_elim
        (λ (g : left_at ks (map turn ks) s q n ≡ (turn n).store.node q n). g)
        (λ (g : left_at ks (map turn ks) s q n ≡ s.node q n). g ∙ sym (same q))
        (left-before turn s n q ks)
        ∙ sym (left-own turn s n q ks))
    by q m false e = sym (left-other turn s n q m e ks)

writes-left : (s : Store) (n p k : ℕ) (v : Value) (ks : List ℕ) (turn : ℕ → Iteration) → nat_eq k n ≡ true
    → ((q : ℕ) → (turn n).store.node q n ≡ (if nat_eq p q && nat_eq k n then v else s.node q n))
    → write (own_left s ks (map turn ks)) (Node p k) v ≡ own_left s (ks ++ n ∷ []) (map turn (ks ++ n ∷ []))
writes-left s n p k v ks turn at same =
    same-store (write (own_left s ks (map turn ks)) (Node p k) v) (own_left s (ks ++ n ∷ []) (map turn (ks ++ n ∷ []))) refl (fun_ext (λ q. fun_ext (λ m. by q m (nat_eq n m) refl))) refl
  where
    own : (q : ℕ) (b : Bool) → nat_eq p q ≡ b → (if nat_eq p q && nat_eq k n then v else left_at ks (map turn ks) s q n) ≡ (turn n).store.node q n
    own q true e =
        ap (λ (c : Bool). if c && nat_eq k n then v else left_at ks (map turn ks) s q n) e
        ∙ ap (λ (c : Bool). if c then v else left_at ks (map turn ks) s q n) at
        ∙ sym (same q ∙ ap (λ (c : Bool). if c && nat_eq k n then v else s.node q n) e ∙ ap (λ (c : Bool). if c then v else s.node q n) at)
    own q false e =
        let held : (turn n).store.node q n ≡ s.node q n = same q ∙ ap (λ (c : Bool). if c && nat_eq k n then v else s.node q n) e in
        ap (λ (c : Bool). if c && nat_eq k n then v else left_at ks (map turn ks) s q n) e
        ∙ ⊎_elim
        (λ (g : left_at ks (map turn ks) s q n ≡ (turn n).store.node q n). g)
        (λ (g : left_at ks (map turn ks) s q n ≡ s.node q n). g ∙ sym held)
        (left-before turn s n q ks)

    away : (q m : ℕ) (a : Bool) → nat_eq k m ≡ false → nat_eq p q ≡ a → (if nat_eq p q && nat_eq k m then v else left_at ks (map turn ks) s q m) ≡ left_at ks (map turn ks) s q m
    away q m true f e = ap (λ (c : Bool). if c && nat_eq k m then v else left_at ks (map turn ks) s q m) e ∙ ap (λ (c : Bool). if c then v else left_at ks (map turn ks) s q m) f
    away q m false f e = ap (λ (c : Bool). if c && nat_eq k m then v else left_at ks (map turn ks) s q m) e

    by : (q m : ℕ) (b : Bool) → nat_eq n m ≡ b → (if nat_eq p q && nat_eq k m then v else left_at ks (map turn ks) s q m) ≡ left_at (ks ++ n ∷ []) (map turn (ks ++ n ∷ [])) s q m
    by q m true e =
        subst (λ (j : ℕ). (if nat_eq p q && nat_eq k j then v else left_at ks (map turn ks) s q j) ≡ left_at (ks ++ n ∷ []) (map turn (ks ++ n ∷ [])) s q j) (eqb-true n m e)
        (own q (nat_eq p q) refl ∙ sym (left-own turn s n q ks))
    by q m false e =
        away q m (nat_eq p q) (ap (λ (j : ℕ). nat_eq j m) (eqb-true k n at) ∙ e) refl
        ∙ sym (left-other turn s n q m e ks)

-- what the deed leaves there is kept, behind what was kept of others
pub keeps-deed : (s : Store) (n o : ℕ) (v : Value) (deed : Deed) (own : List Write) (ks : List ℕ) (turn : ℕ → Iteration)
    → turn n ≡ after_deed deed (begun (write s (Scalar o) v)) → IsOwn n deed → KeepsOwn s own ks turn → KeepsOwn s (own ++ own_of deed) (ks ++ n ∷ []) turn
keeps-deed s n o v Nothing own ks turn e at before =
    ap (overlaid s) (append-nil own) ∙ before ∙ stays-left s n ks turn (λ q. ap (λ (it : Iteration). it.store.node q n) e)
keeps-deed s n o v (Gives c) own ks turn e at before =
    ap (overlaid s) (append-nil own) ∙ before ∙ stays-left s n ks turn (λ q. ap (λ (it : Iteration). it.store.node q n) e)
keeps-deed s n o v (Writes w) own ks turn e at before =
    overlaid-last s own w ∙ ap (λ (t : Store). write t w.slot w.value) before ∙ by w.slot refl
  where
    by : (slot : Slot) → w.slot ≡ slot → write (own_left s ks (map turn ks)) w.slot w.value ≡ own_left s (ks ++ n ∷ []) (map turn (ks ++ n ∷ []))
    by (Scalar x) g = absurd (let h : is_at n (Scalar x) ≡ true = subst (λ (l : Slot). is_at n l ≡ true) g at in cc)
    by (Node p k) g =
        ap (λ (l : Slot). write (own_left s ks (map turn ks)) l w.value) g
        ∙ writes-left s n p k w.value ks turn (subst (λ (l : Slot). is_at n l ≡ true) g at)
        (λ q. ap (λ (it : Iteration). it.store.node q n) e ∙ ap (λ (l : Slot). (write (write s (Scalar o) v) l w.value).node q n) g)

-- what is kept is to slots that there are
pub slots-deed : (shape : Shape) (own : List Write) (deed : Deed) → All (λ (w : Write). HasSlot shape w.slot) own → IsWithin shape deed → All (λ (w : Write). HasSlot shape w.slot) (own ++ own_of deed)
slots-deed shape own Nothing all within = subst (λ (ws : List Write). All (λ (w : Write). HasSlot shape w.slot) ws) (sym (append-nil own)) all
slots-deed shape own (Gives c) all within = subst (λ (ws : List Write). All (λ (w : Write). HasSlot shape w.slot) ws) (sym (append-nil own)) all
slots-deed shape own (Writes w) all within = all-push (λ (w : Write). HasSlot shape w.slot) own w all within

-- what a filter has for its value inside a scope that holds the iterator
filter-inside : (a : Around) (m : C.Mode) (key : Key) (test : Expr) (i n : ℕ) (h : Held) (scope : Scope) (v : Value) (sight : Sight)
    → evaluated test (view_of sight scope h) ≡ plain (Ok v)
    → sight ≡ sight_of a m key
    → inside scope (store_of (edges_in a.setting.now) h) ≡ write (store_of (edges_in a.setting.now) h) (Scalar i) (At (Some n))
    → value test (view_in (loop_of a) (mode_in a m) (begun (write (store_of (edges_in a.setting.now) h) (Scalar i) (At (Some n)))) key) ≡ Ok v
filter-inside a m key test i n h scope v sight found seen_by written =
    ap (λ (s : Store). value test (view_in (loop_of a) (mode_in a m) (begun s) key)) (sym written)
    ∙ ap (value test) (sym (view-inside a m key scope h))
    ∙ ap (λ (g : Sight). value test (view_of g scope h)) (sym seen_by)
    ∙ ap settled found

-- an iteration whose filter passes its node does what its body does
pub deed-passed : (a : Around) (m : C.Mode) (key : Key) (test : Expr) (body : Stmt) (i n : ℕ) (h : Held) (scope : Scope) (v : Value) (sight : Sight) (found : Option Deed)
    → evaluated test (view_of sight scope h) ≡ plain (Ok v)
    → sight ≡ sight_of a m key
    → is_true v ≡ true
    → IfSome found (λ deed. does body (mode_in a m) (loop_of a) (begun (inside scope (store_of (edges_in a.setting.now) h))) ≡ after_deed deed (begun (inside scope (store_of (edges_in a.setting.now) h))))
    → scalar_in scope (scalar_of h) ≡ (λ y. if nat_eq i y then At (Some n) else scalar_in no_scope (scalar_of h) y)
    → IfSome found (λ deed. turn_at (loop_of a) (mode_in a m) key test (does body (mode_in a m) (loop_of a)) i n (store_of (edges_in a.setting.now) h) ≡ after_deed deed (begun (write (store_of (edges_in a.setting.now) h) (Scalar i) (At (Some n)))))
deed-passed a m key test body i n h scope v sight found sees seen_by holds done bound =
    let s : Store = store_of (edges_in a.setting.now) h in
    let written : inside scope s ≡ write s (Scalar i) (At (Some n)) =
    ap (λ (f : ℕ → Value). let t : Store = record { scalar = f; node = s.node; edge = s.edge } in t) bound ∙ ap (λ (t : Store). write t (Scalar i) (At (Some n))) (inside-none s) in
    let start : Iteration = begun (write s (Scalar i) (At (Some n))) in
    let filtered : turn_at (loop_of a) (mode_in a m) key test (does body (mode_in a m) (loop_of a)) i n s ≡ does body (mode_in a m) (loop_of a) start =
    turn-filtered (loop_of a) (mode_in a m) key test (does body (mode_in a m) (loop_of a)) i n s v (filter-inside a m key test i n h scope v sight sees seen_by written)
    ∙ ap (λ (b : Bool). one_way b (does body (mode_in a m) (loop_of a)) as_it_is start) holds in
    IfSome_then found done (λ deed e. filtered ∙ subst (λ (t : Store). does body (mode_in a m) (loop_of a) (begun t) ≡ after_deed deed (begun t)) written e)

-- an iteration whose filter does not pass its node does nothing
pub deed-over : (a : Around) (m : C.Mode) (key : Key) (test : Expr) (body : Stmt) (i n : ℕ) (h : Held) (scope : Scope) (v : Value) (sight : Sight)
    → evaluated test (view_of sight scope h) ≡ plain (Ok v)
    → sight ≡ sight_of a m key
    → is_true v ≡ false
    → scalar_in scope (scalar_of h) ≡ (λ y. if nat_eq i y then At (Some n) else scalar_in no_scope (scalar_of h) y)
    → turn_at (loop_of a) (mode_in a m) key test (does body (mode_in a m) (loop_of a)) i n (store_of (edges_in a.setting.now) h) ≡ begun (write (store_of (edges_in a.setting.now) h) (Scalar i) (At (Some n)))
deed-over a m key test body i n h scope v sight sees seen_by fails bound =
    let s : Store = store_of (edges_in a.setting.now) h in
    let written : inside scope s ≡ write s (Scalar i) (At (Some n)) =
    ap (λ (f : ℕ → Value). let t : Store = record { scalar = f; node = s.node; edge = s.edge } in t) bound ∙ ap (λ (t : Store). write t (Scalar i) (At (Some n))) (inside-none s) in
    let start : Iteration = begun (write s (Scalar i) (At (Some n))) in
    turn-filtered (loop_of a) (mode_in a m) key test (does body (mode_in a m) (loop_of a)) i n s v (filter-inside a m key test i n h scope v sight sees seen_by written)
    ∙ ap (λ (b : Bool). one_way b (does body (mode_in a m) (loop_of a)) as_it_is start) fails
