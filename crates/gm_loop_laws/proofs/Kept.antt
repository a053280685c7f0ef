-- A loop leaves what its body does not name as a target.
use Rattle.std.proofs.Common.{◌≡◌, ◌≢◌, ◌<◌, arith, ℕ, Bool, true, false, cond, List, [], ◌∷◌, ◌++◌, map, refl, sym, ap, subst, ◌∙◌, Option, Some, None, Result, Ok, Err, ⊎_elim, inl, inr}
use Rattle.std.specs.Prelude.{◌||◌, nat_eq}
use Rattle.std.proofs.lemmas.Bool.{cases_Bool, eq-eqb, both_ways}
use Rattle.gm_value.specs.declared.values.Value.{Value}
use Rattle.gm_value.specs.declared.values.Value.TheVariants.{At}
use Rattle.gm_value.specs.declared.reductions.Reduce.{Reduce}
use Rattle.gm_value.specs.Bag.{IsIn}
use Rattle.gm_value.specs.Operations.{is_true}
use Rattle.gm_ast.specs.declared.tree.Declaration.{Declaration}
use Rattle.gm_ast.specs.declared.tree.Key.{Key}
use Rattle.gm_ast.specs.declared.tree.TotalKey.{TotalKey}
use Rattle.gm_ast.specs.declared.tree.Target.{Target}
use Rattle.gm_ast.specs.declared.tree.Target.TheVariants as T
use Rattle.gm_ast.specs.Program.{Expr, Stmt, Skip, Then, Declare, DeclareEdge, Assign, Defer, Combine, Group, Foreach, For, If, While, Do, InBfs, InBfsBoth, Return}
use Rattle.gm_semantics.specs.declared.faults.Fault.{Fault}
use Rattle.gm_semantics.specs.declared.slots.Slot.{Slot}
use Rattle.gm_semantics.specs.declared.slots.Slot.TheVariants.{Scalar, Node}
use Rattle.gm_semantics.specs.declared.slots.Write.{Write}
use Rattle.gm_semantics.specs.Stores.{Store, has_slot, read, write, overlaid}
use Rattle.gm_semantics.specs.Levels.{nodes}
use Rattle.gm_semantics.specs.Faults.{least, unless_fault, somes, joined}
use Rattle.gm_semantics.specs.Expressions.{value}
use Rattle.gm_semantics.specs.Contributions.{Contribution, settled_store, total_faults}
use Rattle.gm_semantics.specs.Iterations.{Ends, AtOnce, WithInner, WithOutermost, Loop, Iteration, begun, with_ok, one_way, as_it_is, Outermost, AtEdge, view_in, ends_of_all, does}
use Rattle.gm_semantics.specs.Loops.{iteration, left_at, own_left}
use Rattle.gm_semantics.specs.Laws.{Away}
use Rattle.gm_semantics.specs.Frames.{TargetBelow, TargetsBelow, NamesBelow}
use Rattle.gm_semantics.proofs.TargetLaws.{value-away}
use Rattle.gm_forms.specs.Cut.{touched}
use Rattle.gm_forms.specs.Forms.{is_inner_body, is_outer_body}
use Rattle.gm_forms.specs.Sharing.{written_by, variables_of, deferred}
use Rattle.gm_forms.specs.Fission.{is_nil}
use Rattle.gm_forms.specs.Doing.{AreFlat, EachGiven, EachSlot, slots_at, OffAnd, MayReduce, Anywhere, MayDo, Did}
use Rattle.gm_forms.proofs.Named.{both-true}
use Rattle.gm_forms.proofs.Doings.{in-left, in-right, in-either, does-did, did-refl, each-in, gave-from}
use Rattle.gm_forms.proofs.Fissions.{each-joined}
use Rattle.gm_forms.proofs.Targets.{each-slot}
use Rattle.gm_forms.proofs.CutTests.{not-true}
use Rattle.gm_forms.proofs.ReadingFrames.{nat_eq-apart}
use Rattle.gm_forms.proofs.Cuts.{left_at-in, placed}
use Rattle.gm_loop_laws.specs.Masks.{looped}
use Rattle.gm_loop_laws.proofs.Joins.{map-compose, joined-none}
use Rattle.gm_loop_laws.proofs.Givens.{flat, all-flat}
use Rattle.gm_loop_laws.proofs.Mays.{nil-parts}

-- what a body with all its names below a number touches is below it
pub variables-below : (j : ℕ) (ts : List Target) → TargetsBelow j ts → (y : ℕ) → IsIn y (variables_of ts) → y < j
variables-below j [] h y i = absurd i
variables-below j (T.Scalar x at ∷ ts) h y i = ⊎_elim (λ (e : y ≡ x). let b = h.0 in omega arith) (λ r. variables-below j ts h.1 y r) i
variables-below j (T.Property x p at ∷ ts) h y i = ⊎_elim (λ (e : y ≡ p). let b = h.0.1 in omega arith) (λ r. variables-below j ts h.1 y r) i

target-below : (j : ℕ) (t : Target) → TargetBelow j t → (y : ℕ) → IsIn y (written_by t) → y < j
target-below j (T.Scalar x at) h y i = ⊎_elim (λ (e : y ≡ x). omega arith) (λ r. absurd r) i
target-below j (T.Property x p at) h y i = ⊎_elim (λ (e : y ≡ p). let b = h.1 in omega arith) (λ r. absurd r) i

pub touched-below : (j : ℕ) (s : Stmt) → NamesBelow j s → (y : ℕ) → IsIn y (touched s) → y < j
touched-below j Skip h y i = absurd i
touched-below j (Then a b) h y i = ⊎_elim (λ l. touched-below j a h.0 y l) (λ r. touched-below j b h.1 y r) (in-either y (touched a) (touched b) i)
touched-below j (Declare k x e) h y i = ⊎_elim (λ (e : y ≡ x). let b = h.0 in omega arith) (λ r. absurd r) i
touched-below j (DeclareEdge x z at) h y i = absurd i
touched-below j (Assign k t e) h y i = target-below j t h.0 y i
touched-below j (Defer k t e) h y i = target-below j t h.0 y i
touched-below j (Combine k total r ts es) h y i = variables-below j ts h.0 y i
touched-below j (Group k at g p e) h y i = absurd i
touched-below j (Foreach k at head test body) h y i = touched-below j body h.3 y i
touched-below j (For k at head test body) h y i = absurd i
touched-below j (If k c a b) h y i = ⊎_elim (λ l. touched-below j a h.1 y l) (λ r. touched-below j b h.2 y r) (in-either y (touched a) (touched b) i)
touched-below j (While k at c body) h y i = absurd i
touched-below j (Do k at body c) h y i = absurd i
touched-below j (InBfs k at head test body) h y i = absurd i
touched-below j (InBfsBoth k at head test body back_key back_test back) h y i = absurd i
touched-below j (Return k at e) h y i = absurd i

-- a slot of a variable that is not in a list
abbrev pub Untouched : List ℕ → Slot → Type 0
Untouched xs (Scalar y) = IsIn y xs → ⊥
Untouched xs (Node p k) = IsIn p xs → ⊥

module _ (ds : List Declaration) (loop : Loop) (x : ℕ) (L : List ℕ) (out : IsIn loop.outer L → ⊥) where
  abbrev n : ℕ
  n = loop.outer

  -- a slot of a variable that is touched
  abbrev pub Touch : Slot → Type 0
  Touch (Scalar y) = IsIn y L
  Touch (Node p k) = IsIn p L

  abbrev pub Gives : Contribution → Type 0
  Gives c = EachSlot Touch c.slots

  abbrev pub GivesOff : Contribution → Type 0
  GivesOff c = Gives c × (has_slot (Scalar n) c.slots ≡ false)

  abbrev pub Any : Fault → Type 0
  Any f = Unit {0}

  abbrev Within : List ℕ → Type 0
  Within xs = (y : ℕ) → IsIn y xs → IsIn y L

  off : (y : ℕ) → IsIn y L → y ≢ n
  off y i e = out (subst (λ z. IsIn z L) e i)

  slots-touch : (node : ℕ → ℕ) (ts : List Target) → Within (variables_of ts) → EachSlot Touch (slots_at node ts)
  slots-touch node [] w = tt
  slots-touch node (T.Scalar y at ∷ ts) w = (w y (inl refl), slots-touch node ts (λ z i. w z (inr i)))
  slots-touch node (T.Property y p at ∷ ts) w = (w p (inl refl), slots-touch node ts (λ z i. w z (inr i)))

  slots-off : (node : ℕ → ℕ) (ts : List Target) → Within (variables_of ts) → has_slot (Scalar n) (slots_at node ts) ≡ false
  slots-off node [] w = refl
  slots-off node (T.Scalar y at ∷ ts) w = ap (λ b. b || has_slot (Scalar n) (slots_at node ts)) (nat_eq-apart n y (λ e. off y (w y (inl refl)) (sym e))) ∙ slots-off node ts (λ z i. w z (inr i))
  slots-off node (T.Property y p at ∷ ts) w = slots-off node ts (λ z i. w z (inr i))

  module _ (P : Slot → Type 0) (lift : (slot : Slot) → Touch slot → P slot) where
    slots-both : (node : ℕ → ℕ) (ts : List Target) → Within (variables_of ts) → EachSlot (OffAnd GivesOff Gives Any n x P) (slots_at node ts)
    slots-both node [] w = tt
    slots-both node (T.Scalar y at ∷ ts) w = ((lift (Scalar y) (w y (inl refl)), nat_eq-apart y n (off y (w y (inl refl)))), slots-both node ts (λ z i. w z (inr i)))
    slots-both node (T.Property y p at ∷ ts) w = ((lift (Node p (node y)) (w p (inl refl)), refl), slots-both node ts (λ z i. w z (inr i)))

    may-reduce : (js : List ℕ) (ends : Ends) (k : Key) (total : TotalKey) (r : Reduce) (ts : List Target) (es : List Expr) → Within (variables_of ts) → AreFlat es → MayReduce GivesOff Gives Any n x js P ends k total r ts es
    may-reduce js AtOnce k total r ts es w fl = ((λ node e. slots-both node ts w), fl, λ f i. tt)
    may-reduce js WithInner k total r ts es w fl = ((λ node e vs. (slots-touch node ts w, slots-off node ts w)), fl, λ f i. tt)
    may-reduce js WithOutermost k total r ts es w fl = ((λ node e vs. slots-touch node ts w), fl, λ f i. tt)

  abbrev Places : Slot → Type 0
  Places = Anywhere GivesOff Gives Any n x

  inner-may : (s : Stmt) (e : ℕ) (its js : List ℕ) → is_inner_body ds its true s ≡ true → Within (touched s) → MayDo GivesOff Gives Any n x js s Places (AtEdge e) loop
  inner-may Skip e its js g w = tt
  inner-may (Then a b) e its js g w = let r = both-true _ _ g in (inner-may a e its js r.0 (λ y i. w y (in-left y (touched a) (touched b) i)), inner-may b e its js r.1 (λ y i. w y (in-right y (touched a) (touched b) i)))
  inner-may (Declare k y None) e its js g w = (tt, off y (w y (inl refl)), tt)
  inner-may (Declare k y (Some v)) e its js g w = let r = both-true _ _ g in (tt, off y (w y (inl refl)), (flat its true v r.1, λ f i. tt))
  inner-may (DeclareEdge y z at) e its js g w = tt
  inner-may (Assign k (T.Scalar y at) v) e its js g w = let r = both-true _ _ g in (tt, off y (w y (inl refl)), flat its true v r.1, λ f i. tt)
  inner-may (Assign k (T.Property y q at) v) e its js g w = absurd (both_ways false refl g)
  inner-may (Defer k t v) e its js g w = absurd (both_ways false refl g)
  inner-may (Combine k total r ts es) e its js g w = let q = both-true _ _ g in may-reduce Places (λ slot t. tt) js (ends_of_all (AtEdge e) loop ts) k total r ts es w (all-flat its true es q.1)
  inner-may (Group k at y q v) e its js g w = absurd (both_ways false refl g)
  inner-may (Foreach k at h test body) e its js g w = absurd (both_ways false refl g)
  inner-may (For k at h test body) e its js g w = absurd (both_ways false refl g)
  inner-may (If k c a b) e its js g w =
      let r = both-true _ _ g in
      let s = both-true _ _ r.1 in
      ((flat its true c r.0, λ f i. tt), inner-may a e its js s.0 (λ y i. w y (in-left y (touched a) (touched b) i)), inner-may b e its js s.1 (λ y i. w y (in-right y (touched a) (touched b) i)))
  inner-may (While k at c body) e its js g w = absurd (both_ways false refl g)
  inner-may (Do k at body c) e its js g w = absurd (both_ways false refl g)
  inner-may (InBfs k at h test body) e its js g w = absurd (both_ways false refl g)
  inner-may (InBfsBoth k at h test body back_key back_test back) e its js g w = absurd (both_ways false refl g)
  inner-may (Return k at v) e its js g w = absurd (both_ways false refl g)

  pub outer-may : (s : Stmt) → is_outer_body ds false n s ≡ true → is_nil (deferred s) ≡ true → Within (touched s) → MayDo GivesOff Gives Any n x (n ∷ []) s Touch Outermost loop
  outer-may Skip g d w = tt
  outer-may (Then a b) g d w =
      let r = both-true _ _ g in
      let p = nil-parts (deferred a) (deferred b) d in
      (outer-may a r.0 p.0 (λ y i. w y (in-left y (touched a) (touched b) i)), outer-may b r.1 p.1 (λ y i. w y (in-right y (touched a) (touched b) i)))
  outer-may (Declare k y None) g d w = (w y (inl refl), off y (w y (inl refl)), tt)
  outer-may (Declare k y (Some v)) g d w = let r = both-true _ _ g in (w y (inl refl), off y (w y (inl refl)), (flat (n ∷ []) false v r.1, λ f i. tt))
  outer-may (DeclareEdge y z at) g d w = tt
  outer-may (Assign k (T.Scalar y at) v) g d w = let r = both-true _ _ g in (w y (inl refl), off y (w y (inl refl)), flat (n ∷ []) false v r.1, λ f i. tt)
  outer-may (Assign k (T.Property y q at) v) g d w = let r = both-true _ _ g in ((λ i a. w q (inl refl)), tt, flat (n ∷ []) false v r.1, λ f i. tt)
  outer-may (Defer k (T.Scalar y at) v) g d w = absurd (both_ways false refl g)
  outer-may (Defer k (T.Property y q at) v) g d w = absurd (both_ways false refl d)
  outer-may (Combine k total r ts es) g d w = let q = both-true _ _ g in may-reduce Touch (λ slot t. t) (n ∷ []) (ends_of_all Outermost loop ts) k total r ts es w (all-flat (n ∷ []) false es q.1)
  outer-may (Group k at y q v) g d w = absurd (both_ways false refl g)
  outer-may (Foreach k at h test body) g d w =
      let r = both-true _ _ g in
      let s = both-true _ _ r.1 in
      let head = both-true _ _ (both-true _ _ r.0).1 in
      ((flat (n ∷ h.iterator ∷ []) true test s.0, λ f i. tt), (λ e. both_ways (nat_eq h.iterator n) (not-true (nat_eq h.iterator n) head.1) (eq-eqb h.iterator n e)), λ e. inner-may body e (n ∷ h.iterator ∷ []) (h.iterator ∷ n ∷ []) s.1 w)
  outer-may (For k at h test body) g d w = absurd (both_ways false refl g)
  outer-may (If k c a b) g d w =
      let r = both-true _ _ g in
      let s = both-true _ _ r.1 in
      let p = nil-parts (deferred a) (deferred b) d in
      ((flat (n ∷ []) false c r.0, λ f i. tt), outer-may a s.0 p.0 (λ y i. w y (in-left y (touched a) (touched b) i)), outer-may b s.1 p.1 (λ y i. w y (in-right y (touched a) (touched b) i)))
  outer-may (While k at c body) g d w = absurd (both_ways false refl g)
  outer-may (Do k at body c) g d w = absurd (both_ways false refl g)
  outer-may (InBfs k at h test body) g d w = absurd (both_ways false refl g)
  outer-may (InBfsBoth k at h test body back_key back_test back) g d w = absurd (both_ways false refl g)
  outer-may (Return k at v) g d w = absurd (both_ways false refl g)

  -- what a body did to an iteration that holds the node
  pub body-did : (s : Stmt) (it : Iteration) → is_outer_body ds false n s ≡ true → is_nil (deferred s) ≡ true → Within (touched s) → it.store.scalar n ≡ At (Some x) → it.fault ≡ None →
      Did Touch GivesOff Gives Any n x it (does s Outermost loop it) × ((does s Outermost loop it).store.scalar n ≡ At (Some x))
  body-did s it g d w holds fine = does-did GivesOff Gives Any n x (λ c o. o.1) (λ c o. tt) (n ∷ []) s Touch (λ c o. o.0) Outermost loop it (inl (λ f. tt)) (outer-may s g d w) holds fine

-- the slots that a body does not touch
module _ (ds : List Declaration) (loop : Loop) (key : Key) (test : Expr) (body : Stmt) (flat-body : is_outer_body ds false loop.outer body ≡ true) (none : is_nil (deferred body) ≡ true) (out : IsIn loop.outer (touched body) → ⊥) where
  abbrev Free : Slot → Type 0
  Free = Untouched (touched body)

  abbrev started : Store → ℕ → Iteration
  started s x = begun (write s (Scalar loop.outer) (At (Some x)))

  abbrev DidHere : ℕ → Iteration → Iteration → Type 0
  DidHere x i j = Did (Touch ds loop x (touched body) out) (GivesOff ds loop x (touched body) out) (Gives ds loop x (touched body) out) (Any ds loop x (touched body) out) loop.outer x i j

  turn-did : (s : Store) (x : ℕ) → DidHere x (started s x) (iteration loop key test body s x)
  turn-did s x = by (value test (view_in loop Outermost (started s x) key))
    where
      held : (started s x).store.scalar loop.outer ≡ At (Some x)
      held = ap (λ b. cond b (At (Some x)) (s.scalar loop.outer)) (eq-eqb loop.outer loop.outer refl)

      way : (b : Bool) → DidHere x (started s x) (one_way b (does body Outermost loop) as_it_is (started s x))
      way true = (body-did ds loop x (touched body) out body (started s x) flat-body none (λ y i. i) held refl).0
      way false = did-refl _ _ _ _ loop.outer x (started s x)

      by : (r : Result Value Fault) → DidHere x (started s x) (with_ok (started s x) r (λ v. one_way (is_true v) (does body Outermost loop) as_it_is (started s x)))
      by (Ok v) = way (is_true v)
      by (Err f) = record { slots = λ slot. inl refl; edge = refl; inner = (did-refl (Touch ds loop x (touched body) out) (GivesOff ds loop x (touched body) out) (Gives ds loop x (touched body) out) (Any ds loop x (touched body) out) loop.outer x (started s x)).inner; outermost = (did-refl (Touch ds loop x (touched body) out) (GivesOff ds loop x (touched body) out) (Gives ds loop x (touched body) out) (Any ds loop x (touched body) out) loop.outer x (started s x)).outermost; deferred = refl; fault = λ g e. inr tt }

  module _ (s : Store) where
    abbrev ks : List ℕ
    ks = nodes loop.graph

    abbrev run : ℕ → Iteration
    run = iteration loop key test body s

    abbrev its : List Iteration
    its = map run ks

    abbrev own : Store
    own = own_left s ks its

    abbrev given : List Contribution
    given = joined (map (λ it. it.with_outermost) its)

    abbrev after : List Write
    after = joined (map (λ it. it.deferred) its)

    abbrev Touched : Slot → Type 0
    Touched = Touch ds loop 0 (touched body) out

    defers : after ≡ []
    defers = ap joined (map-compose (λ it. it.deferred) run ks) ∙ joined-none (λ x. (run x).deferred) ks (λ x i. (turn-did s x).deferred)

    each : EachGiven (λ c. EachSlot Touched c.slots) given
    each = subst (λ l. EachGiven (λ c. EachSlot Touched c.slots) (joined l)) (sym (map-compose (λ it. it.with_outermost) run ks))
        (each-joined (λ c. EachSlot Touched c.slots) (λ x. (run x).with_outermost) ks (λ x j. gave-from (λ c. EachSlot Touched c.slots) (run x).with_outermost (turn-did s x).outermost))

    reached : (slots : List Slot) (slot : Slot) → Free slot → EachSlot Touched slots → has_slot slot slots ≡ true → ⊥
    reached slots (Scalar y) free touch has = free (each-slot Touched slots touch (Scalar y) has)
    reached slots (Node p k) free touch has = free (each-slot Touched slots touch (Node p k) has)

    away : (slot : Slot) → Free slot → Away slot given
    away slot free c i = ⊎_elim (λ (has : has_slot slot c.slots ≡ true). absurd (reached c.slots slot free (each-in (λ c. EachSlot Touched c.slots) given c each i) has)) (λ h. h) (cases_Bool (has_slot slot c.slots))

    at_node : (p k : ℕ) → (IsIn p (touched body) → ⊥) → own.node p k ≡ s.node p k
    at_node p k free =
        ⊎_elim
        (λ (i : IsIn k ks). left_at-in run s p k ks i ∙ ⊎_elim (λ (same : (run k).store.node p k ≡ s.node p k). same) (λ t. absurd (free t)) ((turn-did s k).slots (Node p k)))
        (λ (out : (F : ℕ → Iteration) (s : Store) (p : ℕ) → left_at ks (map F ks) s p k ≡ s.node p k). out run s p)
        (placed k ks)

    unless-fine : (o : Option Fault) (u t : Store) → unless_fault o (Ok u) ≡ Ok t → u ≡ t
    unless-fine None u t h = cc
    unless-fine (Some f) u t h = absurd (cc)

    module _ (t : Store) (e : looped loop key test body s ≡ Ok t) where
      left : settled_store own given ≡ t
      left =
          unless-fine (least (somes (map (λ it. it.fault) its) ++ total_faults own given)) (settled_store own given) t
          (sym (ap (λ (ws : List Write). unless_fault (least (somes (map (λ it. it.fault) its) ++ total_faults own given)) (Ok (overlaid (settled_store own given) ws))) defers) ∙ e)

      -- what the loop leaves in them is what they held
      pub loop-keeps : (slot : Slot) → Free slot → read t slot ≡ read s slot
      loop-keeps (Scalar y) free = ap (λ (u : Store). u.scalar y) (sym left) ∙ value-away own (Scalar y) given (away (Scalar y) free)
      loop-keeps (Node p k) free = ap (λ (u : Store). u.node p k) (sym left) ∙ value-away own (Node p k) given (away (Node p k) free) ∙ at_node p k free

      pub loop-edges : t.edge ≡ s.edge
      loop-edges = sym (ap (λ (u : Store). u.edge) left)
