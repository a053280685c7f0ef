-- Bodies that keep a local in a property do what they did, also where it is reduced together with others that are the iteration's own.
use Rattle.std.proofs.Common.{◌≡◌, ◌≢◌, ◌<◌, ◌≤◌, ℕ, Bool, true, false, cond, List, [], ◌∷◌, ◌++◌, map, refl, sym, ap, subst, ◌∙◌, Option, Some, None, Result, Ok, Err, ⊎_elim}
use Rattle.std.specs.Prelude.{◌&&◌, ◌||◌, not, nat_eq, IfOk}
use Rattle.std.specs.List.{list_all}
use Rattle.std.proofs.lemmas.Bool.{eq-eqb, eqb-true, ne_eqb, both_ways}
use Rattle.gm_base.specs.declared.places.Place.{Place}
use Rattle.gm_value.specs.declared.values.Value.{Value}
use Rattle.gm_value.specs.declared.values.Value.TheVariants.{At}
use Rattle.gm_value.specs.declared.reductions.Reduce.{Reduce}
use Rattle.gm_value.specs.Numbers.{zero_of}
use Rattle.gm_value.specs.Operations.{is_true}
use Rattle.gm_model.specs.Graphs.{Step, node_count}
use Rattle.gm_ast.specs.declared.tree.Key.{Key}
use Rattle.gm_ast.specs.declared.tree.TotalKey.{TotalKey}
use Rattle.gm_ast.specs.declared.tree.Target.{Target}
use Rattle.gm_ast.specs.declared.tree.Target.TheVariants as T
use Rattle.gm_ast.specs.Program.{Expr, Const, Stmt, Skip, Then, Declare, DeclareEdge, Assign, Defer, Combine, Group, Foreach, For, If, While, Do, InBfs, InBfsBoth, Return}
use Rattle.gm_semantics.specs.declared.faults.Fault.{Fault}
use Rattle.gm_semantics.specs.declared.slots.Slot.{Slot}
use Rattle.gm_semantics.specs.declared.slots.Slot.TheVariants.{Scalar, Node}
use Rattle.gm_semantics.specs.Stores.{Store, slot_eq, has_slot, read, write, write_all}
use Rattle.gm_semantics.specs.Faults.{least, then_with, unless_fault, somes, joined}
use Rattle.gm_semantics.specs.Expressions.{View, Answer, Evaluated, node_of, settled, evaluated, evaluated_all, value, steps_in}
use Rattle.gm_semantics.specs.Contributions.{Contribution, settled_store, total_faults}
use Rattle.gm_semantics.specs.Iterations.{Ends, AtOnce, WithInner, WithOutermost, Loop, Mode, Outermost, AtEdge, Iteration, begun, failed, unless_failed, go_on, with_ok, one_way, as_it_is, view_in, slot_of, slots_of, assigned, assigned_all, target_value, combined_by, alone, at_once, wrote, wrote_all, contribution, gave_inner, gave_outermost, deferred_to, later, scalar_ends, own_ends, ends_of, ends_of_all, reduced, inner_done, turn_at, does}
use Rattle.gm_semantics.specs.Loops.{iteration}
use Rattle.gm_semantics.specs.Laws.{Away}
use Rattle.gm_semantics.specs.Frames.{Agree, ReadsBelow, AllReadBelow, TargetBelow, TargetsBelow, NamesBelow, SlotBelow, SlotsBelow, GivesBelow}
use Rattle.gm_semantics.proofs.TargetLaws.{value-away}
use Rattle.gm_forms.proofs.Named.{both-true}
use Rattle.gm_forms.proofs.CutTests.{not-true}
use Rattle.gm_forms.proofs.ReadingFrames.{read-write, edge-write, edge-write_all}
use Rattle.gm_loop_laws.specs.Localised.{moved_declared, names_plainly, is_apart, is_it}
use Rattle.gm_loop_laws.proofs.Splits.{assigned-slots}
use Rattle.gm_loop_laws.proofs.Renamed.{Shows, shows-write, shows-write_all, shows-settled, totals-ren}
use Rattle.gm_locals.specs.Beside.{is_mine, may_move_beside}
use Rattle.gm_loop_laws.proofs.Localised.{first_value, mi, mt, mv, R, RC, node_of-held, node_of-same, moved-value, moved-values, Reached, AllReached, assigned-moved, assigned_all-moved, at_once-moved, slots-kept, steps-moved}

-- no contribution reaches the scalar of a number
abbrev pub OffScalar : ℕ → List Contribution → Type 0
OffScalar n [] = Unit {0}
OffScalar n (c ∷ cs) = (has_slot (Scalar n) c.slots ≡ false) × OffScalar n cs

off-away : (n : ℕ) (cs : List Contribution) → OffScalar n cs → Away (Scalar n) cs
off-away n [] h c i = absurd i
off-away n (d ∷ cs) h c i = ⊎_elim (λ (e : c ≡ d). ap (λ (z : Contribution). has_slot (Scalar n) z.slots) e ∙ h.0) (λ r. off-away n cs h.1 c r) i

off-append : (n : ℕ) (cs ds : List Contribution) → OffScalar n cs → OffScalar n ds → OffScalar n (cs ++ ds)
off-append n [] ds h g = g
off-append n (c ∷ cs) ds h g = (h.0, off-append n cs ds h.1 g)

below-append : (j : ℕ) (cs ds : List Contribution) → GivesBelow j cs → GivesBelow j ds → GivesBelow j (cs ++ ds)
below-append j [] ds h g = g
below-append j (c ∷ cs) ds h g = (h.0, below-append j cs ds h.1 g)

map-both : {A B : Type 0} (f : A → B) (xs ys : List A) → map f (xs ++ ys) ≡ map f xs ++ map f ys
map-both f [] ys = refl
map-both f (x ∷ xs) ys = ap (λ l. f x ∷ l) (map-both f xs ys)

module _ (j : ℕ) (loop : Loop) (x q k : ℕ) (at : Place) (local : x < j) (iterates : loop.outer < j) (apart : x ≢ loop.outer) (fresh : j ≤ q) (deep : loop.depth x ≡ 1) (quiet : loop.pushed q ≡ false) (less : k < node_count loop.graph) where
  abbrev n : ℕ
  n = loop.outer

  abbrev Name : Slot → Slot
  Name = R j loop x q k at local iterates apart fresh deep quiet less

  abbrev Given : Contribution → Contribution
  Given = RC j loop x q k at local iterates apart fresh deep quiet less

  abbrev in_expr : Expr → Expr
  in_expr = mi j loop x q k at local iterates apart fresh deep quiet less

  abbrev in_target : Target → Target
  in_target = mt j loop x q k at local iterates apart fresh deep quiet less

  abbrev zero_is : Value
  zero_is = first_value j loop x q k at local iterates apart fresh deep quiet less

  abbrev pub in_stmt : Stmt → Stmt
  in_stmt = mv j loop x q k at local iterates apart fresh deep quiet less

  -- two iterations, of which the second keeps the local in the property
  pub record Linked (a b : Iteration) : Type 0 where
    pub shows : Shows j x q k fresh a.store b.store
    pub edge : (p e : ℕ) → p < j → b.store.edge p e ≡ a.store.edge p e
    pub held : a.store.scalar n ≡ At (Some k)
    pub with_inner : b.with_inner ≡ map Given a.with_inner
    pub with_outermost : b.with_outermost ≡ a.with_outermost
    pub deferred : b.deferred ≡ a.deferred
    pub fault : b.fault ≡ a.fault
    pub inner_below : GivesBelow j a.with_inner
    pub inner_off : OffScalar n a.with_inner
    pub outer_below : GivesBelow j a.with_outermost

  linked-failed : (a b : Iteration) (f : Fault) → Linked a b → Linked (failed a f) (failed b f)
  linked-failed a b f l = record { shows = l.shows; edge = l.edge; held = l.held; with_inner = l.with_inner; with_outermost = l.with_outermost; deferred = l.deferred; fault = refl; inner_below = l.inner_below; inner_off = l.inner_off; outer_below = l.outer_below }

  linked-ok : {A B : Type 0} (P : A → Type 0) (a b : Iteration) (r : Result A Fault) (s : Result B Fault) (f : A → B) (g : A → Iteration) (h : B → Iteration) → Linked a b → s ≡ then_with r (λ z. Ok (f z)) → IfOk r P → ((z : A) → P z → Linked (g z) (h (f z))) → Linked (with_ok a r g) (with_ok b s h)
  linked-ok {A = A} {B = B} P a b r s f g h l e p each = subst (λ s. Linked (with_ok a r g) (with_ok b s h)) (sym e) (by r p)
    where
      by : (r : Result A Fault) → IfOk r P → Linked (with_ok a r g) (with_ok b (then_with r (λ z. Ok (f z))) h)
      by (Ok z) p = each z p
      by (Err f) p = linked-failed a b f l

  any-ok : {A : Type 0} (r : Result A Fault) → IfOk r (λ z. Unit {0})
  any-ok (Ok z) = tt
  any-ok (Err f) = tt

  same-ok : {A : Type 0} (r : Result A Fault) → r ≡ then_with r (λ z. Ok z)
  same-ok (Ok z) = refl
  same-ok (Err f) = refl

  linked-go_on : (a b : Iteration) (f g : Iteration → Iteration) → Linked a b → (Linked a b → Linked (f a) (g b)) → Linked (go_on a f) (go_on b g)
  linked-go_on a b f g l each = subst (λ o. Linked (go_on a f) (unless_failed o b g)) (sym l.fault) (by a.fault)
    where
      by : (o : Option Fault) → Linked (unless_failed o a f) (unless_failed o b g)
      by None = each l
      by (Some e) = l

  -- what is written: to slots below, and not to the iterator
  abbrev Fine : Slot → Type 0
  Fine slot = SlotBelow j slot × (slot_eq slot (Scalar n) ≡ false)

  abbrev AllFine : List Slot → Type 0
  AllFine [] = Unit {0}
  AllFine (slot ∷ slots) = Fine slot × AllFine slots

  all-below : (slots : List Slot) → AllFine slots → SlotsBelow j slots
  all-below [] h = tt
  all-below (slot ∷ slots) h = (h.0.0, all-below slots h.1)

  flipped : (slot : Slot) → slot_eq slot (Scalar n) ≡ false → slot_eq (Scalar n) slot ≡ false
  flipped (Scalar y) e = ne_eqb n y (λ h. both_ways (nat_eq y n) e (eq-eqb y n (sym h)))
  flipped (Node p m) e = refl

  all-off : (slots : List Slot) → AllFine slots → has_slot (Scalar n) slots ≡ false
  all-off [] h = refl
  all-off (slot ∷ slots) h = ap (λ c. c || has_slot (Scalar n) slots) (flipped slot h.0.1) ∙ all-off slots h.1

  linked-wrote : (a b : Iteration) (slot : Slot) (v : Value) → Fine slot → Linked a b → Linked (wrote a (slot, v)) (wrote b (Name slot, v))
  linked-wrote a b slot v f l = record {
    shows = shows-write j x q k fresh a.store b.store slot v f.0 l.shows;
    edge = λ p e c. ap (λ g. g p e) (edge-write b.store (Name slot) v) ∙ l.edge p e c ∙ sym (ap (λ g. g p e) (edge-write a.store slot v));
    held = read-write a.store slot (Scalar n) v ∙ ap (λ c. cond c v (a.store.scalar n)) f.1 ∙ l.held;
    with_inner = l.with_inner;
    with_outermost = l.with_outermost;
    deferred = l.deferred;
    fault = l.fault;
    inner_below = l.inner_below;
    inner_off = l.inner_off;
    outer_below = l.outer_below;
  }

  held-all : (s : Store) (slots : List Slot) (vs : List Value) → AllFine slots → (write_all s slots vs).scalar n ≡ s.scalar n
  held-all s [] vs f = refl
  held-all s (slot ∷ slots) [] f = refl
  held-all s (slot ∷ slots) (v ∷ vs) f = held-all (write s slot v) slots vs f.1 ∙ read-write s slot (Scalar n) v ∙ ap (λ c. cond c v (s.scalar n)) f.0.1

  linked-wrote_all : (a b : Iteration) (slots : List Slot) (vs : List Value) → AllFine slots → Linked a b → Linked (wrote_all a (slots, vs)) (wrote_all b (map Name slots, vs))
  linked-wrote_all a b slots vs f l = record {
    shows = shows-write_all j x q k fresh a.store b.store slots vs (all-below slots f) l.shows;
    edge = λ p e c. ap (λ g. g p e) (edge-write_all b.store (map Name slots) vs) ∙ l.edge p e c ∙ sym (ap (λ g. g p e) (edge-write_all a.store slots vs));
    held = held-all a.store slots vs f ∙ l.held;
    with_inner = l.with_inner;
    with_outermost = l.with_outermost;
    deferred = l.deferred;
    fault = l.fault;
    inner_below = l.inner_below;
    inner_off = l.inner_off;
    outer_below = l.outer_below;
  }

  linked-inner : (a b : Iteration) (total : TotalKey) (r : Reduce) (slots : List Slot) (vs : List Value) → AllFine slots → Linked a b → Linked (gave_inner a (contribution total r (slots, vs))) (gave_inner b (contribution total r (map Name slots, vs)))
  linked-inner a b total r slots vs f l = record {
    shows = l.shows;
    edge = l.edge;
    held = l.held;
    with_inner = ap (λ cs. cs ++ contribution total r (map Name slots, vs) ∷ []) l.with_inner ∙ sym (map-both Given a.with_inner (contribution total r (slots, vs) ∷ []));
    with_outermost = l.with_outermost;
    deferred = l.deferred;
    fault = l.fault;
    inner_below = below-append j a.with_inner (contribution total r (slots, vs) ∷ []) l.inner_below (all-below slots f, tt);
    inner_off = off-append n a.with_inner (contribution total r (slots, vs) ∷ []) l.inner_off (all-off slots f, tt);
    outer_below = l.outer_below;
  }

  linked-outermost : (a b : Iteration) (total : TotalKey) (r : Reduce) (p : List Slot × List Value) → AllFine p.0 → Linked a b → Linked (gave_outermost a (contribution total r p)) (gave_outermost b (contribution total r p))
  linked-outermost a b total r p f l = record {
    shows = l.shows;
    edge = l.edge;
    held = l.held;
    with_inner = l.with_inner;
    with_outermost = ap (λ cs. cs ++ contribution total r p ∷ []) l.with_outermost;
    deferred = l.deferred;
    fault = l.fault;
    inner_below = l.inner_below;
    inner_off = l.inner_off;
    outer_below = below-append j a.with_outermost (contribution total r p ∷ []) l.outer_below (all-below p.0 f, tt);
  }

  linked-deferred : (a b : Iteration) (p : Slot × Value) → Linked a b → Linked (deferred_to a p) (deferred_to b p)
  linked-deferred a b p l = record {
    shows = l.shows;
    edge = l.edge;
    held = l.held;
    with_inner = l.with_inner;
    with_outermost = l.with_outermost;
    deferred = ap (λ ws. ws ++ record { slot = p.0; value = p.1 } ∷ []) l.deferred;
    fault = l.fault;
    inner_below = l.inner_below;
    inner_off = l.inner_off;
    outer_below = l.outer_below;
  }

  -- targets that are not the iterator
  abbrev Aims : Target → Type 0
  Aims (T.Scalar y place) = nat_eq y n ≡ false
  Aims (T.Property y p place) = nat_eq y x ≡ false

  abbrev AllAim : List Target → Type 0
  AllAim [] = Unit {0}
  AllAim (t ∷ ts) = Aims t × AllAim ts

  apart-aims : (t : Target) → is_apart x n t ≡ true → Aims t
  apart-aims (T.Scalar y place) h = not-true (nat_eq y n) (both-true (not (nat_eq y x)) (not (nat_eq y n)) h).1
  apart-aims (T.Property y p place) h = not-true (nat_eq y x) h

  all-apart : (ts : List Target) → list_all (is_apart x n) ts ≡ true → AllAim ts
  all-apart [] h = tt
  all-apart (t ∷ ts) h = let r = both-true (is_apart x n t) (list_all (is_apart x n) ts) h in (apart-aims t r.0, all-apart ts r.1)

  local-aims : (y : ℕ) → nat_eq y x ≡ true → nat_eq y n ≡ false
  local-aims y e = ne_eqb y n (λ h. apart (sym (eqb-true y x e) ∙ h))

  it-aims : (ts : List Target) → is_it x ts ≡ true → AllAim ts
  it-aims [] h = absurd (both_ways false refl h)
  it-aims (T.Scalar y place ∷ []) h = (local-aims y h, tt)
  it-aims (T.Scalar y place ∷ (t ∷ ts)) h = absurd (both_ways false refl h)
  it-aims (T.Property y p place ∷ ts) h = absurd (both_ways false refl h)

  mine-aims : (t : Target) → is_mine loop t ≡ true → Aims t
  mine-aims (T.Scalar y place) h = not-true (nat_eq y n) (both-true (nat_eq (loop.depth y) 1) (not (nat_eq y n)) h).1
  mine-aims (T.Property y p place) h = subst (λ z. nat_eq z x ≡ false) (sym (eqb-true y n (both-true (nat_eq y n) (not (loop.pushed p)) h).0)) (ne_eqb n x (λ e. apart (sym e)))

  all-mine : (ts : List Target) → list_all (is_mine loop) ts ≡ true → AllAim ts
  all-mine [] h = tt
  all-mine (t ∷ ts) h = let r = both-true (is_mine loop t) (list_all (is_mine loop) ts) h in (mine-aims t r.0, all-mine ts r.1)

  module _ (a b : Iteration) (l : Linked a b) (m : Mode) (key : Key) where
    abbrev w : View
    w = view_in loop m a key

    abbrev u : View
    u = view_in loop m b key

    reached : (t : Target) → Aims t → Reached j loop x q k at local iterates apart fresh deep quiet less a.store b.store l.shows l.edge l.held m key t
    reached (T.Scalar y place) h = tt
    reached (T.Property y p place) h = h

    all-reached : (ts : List Target) → AllAim ts → AllReached j loop x q k at local iterates apart fresh deep quiet less a.store b.store l.shows l.edge l.held m key ts
    all-reached [] h = tt
    all-reached (t ∷ ts) h = (reached t h.0, all-reached ts h.1)

    expr-same : (e : Expr) → names_plainly x e ≡ true → ReadsBelow j e → evaluated (in_expr e) u ≡ evaluated e w
    expr-same e h c = moved-value j loop x q k at local iterates apart fresh deep quiet less a.store b.store l.shows l.edge l.held m key e h c

    exprs-same : (es : List Expr) → list_all (names_plainly x) es ≡ true → AllReadBelow j es → evaluated_all (map in_expr es) u ≡ evaluated_all es w
    exprs-same es h c = moved-values j loop x q k at local iterates apart fresh deep quiet less a.store b.store l.shows l.edge l.held m key es h c

    slot-fine : (t : Target) → Aims t → TargetBelow j t → IfOk (slot_of w t) Fine
    slot-fine (T.Scalar y place) h c = (c, h)
    slot-fine (T.Property y p place) h c = by (node_of w y place)
      where
        by : (r : Result ℕ Fault) → IfOk (then_with r (λ z. Ok (Node p z))) Fine
        by (Ok z) = (c.1, refl)
        by (Err f) = tt

    slots-fine : (ts : List Target) → AllAim ts → TargetsBelow j ts → IfOk (slots_of w ts) AllFine
    slots-fine [] h c = tt
    slots-fine (t ∷ ts) h c = by (slot_of w t) (slots_of w ts) (slot-fine t h.0 c.0) (slots-fine ts h.1 c.1)
      where
        by : (r : Result Slot Fault) (s : Result (List Slot) Fault) → IfOk r Fine → IfOk s AllFine → IfOk {T = List Slot} (then_with r (λ z. then_with s (λ zs. Ok (z ∷ zs)))) AllFine
        by (Ok z) (Ok zs) p q = (p, q)
        by (Ok z) (Err f) p q = tt
        by (Err f) s p q = tt

    assigned-fine : (t : Target) (v : Evaluated) → Aims t → TargetBelow j t → IfOk (assigned w t v) (λ p. Fine p.0)
    assigned-fine t v h c = by v.hoisted (slot_of w t) v.rest (slot-fine t h c)
      where
        by : (o : Option Fault) (r : Result Slot Fault) (s : Answer) → IfOk r Fine → IfOk {T = Slot × Value} (unless_fault o (then_with r (λ z. then_with s (λ y. Ok (z, y))))) (λ p. Fine p.0)
        by (Some f) r s p = tt
        by None (Ok z) (Ok y) p = p
        by None (Ok z) (Err f) p = tt
        by None (Err f) s p = tt

    once-fine : (place : Place) (r : Reduce) (ts : List Target) (es : List Expr) → AllAim ts → TargetsBelow j ts → IfOk (at_once w place r ts es) (λ p. AllFine p.0)
    once-fine place r [] es h c = assigned-slots AllFine w [] _ (slots-fine [] h c)
    once-fine place r (t ∷ []) [] h c = assigned-slots AllFine w (t ∷ []) _ (slots-fine (t ∷ []) h c)
    once-fine place r (t ∷ []) (e ∷ []) h c =
        by (assigned w t (combined_by r w place (evaluated (target_value t) w) (evaluated e w))) (assigned-fine t (combined_by r w place (evaluated (target_value t) w) (evaluated e w)) h.0 c.0)
      where
        by : (z : Result (Slot × Value) Fault) → IfOk z (λ p. Fine p.0) → IfOk (alone z) (λ p. AllFine p.0)
        by (Ok p) f = (f, tt)
        by (Err e) f = tt
    once-fine place r (t ∷ []) (e ∷ (d ∷ es)) h c = assigned-slots AllFine w (t ∷ []) _ (slots-fine (t ∷ []) h c)
    once-fine place r (t ∷ (s ∷ ts)) es h c = assigned-slots AllFine w (t ∷ (s ∷ ts)) _ (slots-fine (t ∷ (s ∷ ts)) h c)

    -- a reduction of each kind
    once-linked : (total : TotalKey) (r : Reduce) (ts : List Target) (es : List Expr) → AllAim ts → TargetsBelow j ts → list_all (names_plainly x) es ≡ true → AllReadBelow j es →
        Linked (reduced AtOnce w a total r ts es) (reduced AtOnce u b total r (map in_target ts) (map in_expr es))
    once-linked total r ts es h c g d =
        linked-ok (λ p. AllFine p.0) a b (at_once w total.place r ts es) (at_once u total.place r (map in_target ts) (map in_expr es)) (λ p. (map Name p.0, p.1)) (wrote_all a) (wrote_all b) l
        (at_once-moved j loop x q k at local iterates apart fresh deep quiet less a.store b.store l.shows l.edge l.held m key total.place r ts es (all-reached ts h) c g d)
        (once-fine total.place r ts es h c) (λ p f. linked-wrote_all a b p.0 p.1 f l)

    inner-linked : (total : TotalKey) (r : Reduce) (ts : List Target) (es : List Expr) → AllAim ts → TargetsBelow j ts → list_all (names_plainly x) es ≡ true → AllReadBelow j es →
        Linked (reduced WithInner w a total r ts es) (reduced WithInner u b total r (map in_target ts) (map in_expr es))
    inner-linked total r ts es h c g d =
        linked-ok (λ p. AllFine p.0) a b (assigned_all w ts (evaluated_all es w)) (assigned_all u (map in_target ts) (evaluated_all (map in_expr es) u)) (λ p. (map Name p.0, p.1))
        (λ p. gave_inner a (contribution total r p)) (λ p. gave_inner b (contribution total r p)) l
        (ap (assigned_all u (map in_target ts)) (exprs-same es g d)
        ∙ assigned_all-moved j loop x q k at local iterates apart fresh deep quiet less a.store b.store l.shows l.edge l.held m key ts (evaluated_all es w) (all-reached ts h) c)
        (assigned-slots AllFine w ts (evaluated_all es w) (slots-fine ts h c)) (λ p f. linked-inner a b total r p.0 p.1 f l)

    outer-linked : (total : TotalKey) (r : Reduce) (ts : List Target) (es : List Expr) → list_all (is_apart x n) ts ≡ true → TargetsBelow j ts → list_all (names_plainly x) es ≡ true → AllReadBelow j es →
        Linked (reduced WithOutermost w a total r ts es) (reduced WithOutermost u b total r ts (map in_expr es))
    outer-linked total r ts es h c g d =
        linked-ok (λ p. AllFine p.0) a b (assigned_all w ts (evaluated_all es w)) (assigned_all u ts (evaluated_all (map in_expr es) u)) (λ p. p)
        (λ p. gave_outermost a (contribution total r p)) (λ p. gave_outermost b (contribution total r p)) l
        (ap (assigned_all u ts) (exprs-same es g d)
        ∙ ap (λ z. unless_fault (evaluated_all es w).hoisted (then_with z (λ ss. then_with (evaluated_all es w).rest (λ xs. Ok (ss, xs)))))
        (slots-kept j loop x q k at local iterates apart fresh deep quiet less a.store b.store l.shows l.edge l.held m key ts h c)
        ∙ same-ok (assigned_all w ts (evaluated_all es w)))
        (assigned-slots AllFine w ts (evaluated_all es w) (slots-fine ts (all-apart ts h) c)) (λ p f. linked-outermost a b total r p f l)

    -- targets that are not the local are the same
    targets-same : (ts : List Target) → list_all (is_apart x n) ts ≡ true → map in_target ts ≡ ts
    targets-same [] h = refl
    targets-same (T.Scalar y place ∷ ts) h =
        let r = both-true (not (nat_eq y x) && not (nat_eq y n)) (list_all (is_apart x n) ts) h in
        ap (λ c. cond c (T.Property n q place) (T.Scalar y place) ∷ map in_target ts) (not-true (nat_eq y x) (both-true (not (nat_eq y x)) (not (nat_eq y n)) r.0).0) ∙ ap (λ l. T.Scalar y place ∷ l) (targets-same ts r.1)
    targets-same (T.Property y p place ∷ ts) h = ap (λ l. T.Property y p place ∷ l) (targets-same ts (both-true (not (nat_eq y x)) (list_all (is_apart x n) ts) h).1)

    -- when one to the local alone ends
    abbrev it_ends : Mode → Ends
    it_ends Outermost = AtOnce
    it_ends (AtEdge e) = WithInner

    -- it is the later of itself and what one at once ends with, and of itself and itself
    later-none : (mode : Mode) → later (it_ends mode) AtOnce ≡ it_ends mode
    later-none Outermost = refl
    later-none (AtEdge z) = refl

    later-same : (mode : Mode) → later (it_ends mode) (it_ends mode) ≡ it_ends mode
    later-same Outermost = refl
    later-same (AtEdge z) = refl

    scalar-mine : (mode : Mode) (d : ℕ) → nat_eq d 1 ≡ true → scalar_ends mode d ≡ it_ends mode
    scalar-mine Outermost d e = ap (scalar_ends Outermost) (eqb-true d 1 e)
    scalar-mine (AtEdge z) d e = ap (scalar_ends (AtEdge z)) (eqb-true d 1 e)

    own-mine : (mode : Mode) (c : Bool) → not c ≡ true → own_ends mode c ≡ it_ends mode
    own-mine Outermost c e = refl
    own-mine (AtEdge z) true e = absurd (both_ways false refl e)
    own-mine (AtEdge z) false e = refl

    ends-mine : (mode : Mode) (t : Target) → is_mine loop t ≡ true → ends_of mode loop t ≡ it_ends mode
    ends-mine mode (T.Scalar y place) h = scalar-mine mode (loop.depth y) (both-true (nat_eq (loop.depth y) 1) (not (nat_eq y n)) h).0
    ends-mine mode (T.Property y p place) h =
        let r = both-true (nat_eq y n) (not (loop.pushed p)) h in
        ap (λ c. cond c (own_ends mode (loop.pushed p)) WithOutermost) r.0 ∙ own-mine mode (loop.pushed p) r.1

    -- one of the iteration's own stays so
    mine-moved : (t : Target) → is_mine loop t ≡ true → is_mine loop (in_target t) ≡ true
    mine-moved (T.Scalar y place) h = by (nat_eq y x)
      where
        by : (c : Bool) → is_mine loop (cond c (T.Property n q place) (T.Scalar y place)) ≡ true
        by true = ap (λ c. c && not (loop.pushed q)) (eq-eqb n n refl) ∙ ap not quiet
        by false = h
    mine-moved (T.Property y p place) h = h

    all-mine-moved : (ts : List Target) → list_all (is_mine loop) ts ≡ true → list_all (is_mine loop) (map in_target ts) ≡ true
    all-mine-moved [] h = refl
    all-mine-moved (t ∷ ts) h =
        let r = both-true (is_mine loop t) (list_all (is_mine loop) ts) h in
        ap (λ c. c && list_all (is_mine loop) (map in_target ts)) (mine-moved t r.0) ∙ all-mine-moved ts r.1

    -- where there are some, and all are the iteration's own
    ends-all : (mode : Mode) (t : Target) (ts : List Target) → is_mine loop t ≡ true → list_all (is_mine loop) ts ≡ true → ends_of_all mode loop (t ∷ ts) ≡ it_ends mode
    ends-all mode t [] h g = ap (λ e. later e AtOnce) (ends-mine mode t h) ∙ later-none mode
    ends-all mode t (s ∷ ts) h g =
        let r = both-true (is_mine loop s) (list_all (is_mine loop) ts) g in
        ap (λ e. later e (ends_of_all mode loop (s ∷ ts))) (ends-mine mode t h) ∙ ap (later (it_ends mode)) (ends-all mode s ts r.0 r.1) ∙ later-same mode

    combine-linked : (total : TotalKey) (r : Reduce) (ts : List Target) (es : List Expr) → list_all (is_apart x n) ts || list_all (is_mine loop) ts ≡ true → TargetsBelow j ts → list_all (names_plainly x) es ≡ true → AllReadBelow j es →
        Linked (reduced (ends_of_all m loop ts) w a total r ts es) (reduced (ends_of_all m loop (map in_target ts)) u b total r (map in_target ts) (map in_expr es))
    combine-linked total r ts es h c g d = by (list_all (is_apart x n) ts) refl h
      where
        kinds : (e : Ends) → list_all (is_apart x n) ts ≡ true → Linked (reduced e w a total r ts es) (reduced e u b total r (map in_target ts) (map in_expr es))
        kinds AtOnce o = once-linked total r ts es (all-apart ts o) c g d
        kinds WithInner o = inner-linked total r ts es (all-apart ts o) c g d
        kinds WithOutermost o = subst (λ l. Linked (reduced WithOutermost w a total r ts es) (reduced WithOutermost u b total r l (map in_expr es))) (sym (targets-same ts o)) (outer-linked total r ts es o c g d)

        both : (mode : Mode) → AllAim ts → Linked (reduced (it_ends mode) w a total r ts es) (reduced (it_ends mode) u b total r (map in_target ts) (map in_expr es))
        both Outermost o = once-linked total r ts es o c g d
        both (AtEdge z) o = inner-linked total r ts es o c g d

        one : (os : List Target) → list_all (is_apart x n) os ≡ false → list_all (is_mine loop) os ≡ true → (ends_of_all m loop os ≡ it_ends m) × (ends_of_all m loop (map in_target os) ≡ it_ends m)
        one [] e o = absurd (both_ways true e refl)
        one (t ∷ os) e o =
            let r = both-true (is_mine loop t) (list_all (is_mine loop) os) o in
            (ends-all m t os r.0 r.1, ends-all m (in_target t) (map in_target os) (mine-moved t r.0) (all-mine-moved os r.1))

        by : (o : Bool) → list_all (is_apart x n) ts ≡ o → o || list_all (is_mine loop) ts ≡ true → Linked (reduced (ends_of_all m loop ts) w a total r ts es) (reduced (ends_of_all m loop (map in_target ts)) u b total r (map in_target ts) (map in_expr es))
        by true o h = subst (λ e. Linked (reduced (ends_of_all m loop ts) w a total r ts es) (reduced e u b total r (map in_target ts) (map in_expr es))) (sym (ap (ends_of_all m loop) (targets-same ts o))) (kinds (ends_of_all m loop ts) o)
        by false o h =
            let e = one ts o h in
            subst (λ e. Linked (reduced (ends_of_all m loop ts) w a total r ts es) (reduced e u b total r (map in_target ts) (map in_expr es))) (sym e.1)
            (subst (λ f. Linked (reduced f w a total r ts es) (reduced (it_ends m) u b total r (map in_target ts) (map in_expr es))) (sym e.0) (both m (all-mine ts h)))

    -- a declaration
    settled-pair : (slot : Slot) (v : Evaluated) → unless_fault v.hoisted (then_with v.rest (λ y. let p : Slot × Value = (slot, y) in let r : Result (Slot × Value) Fault = Ok p in r)) ≡ then_with (settled v) (λ y. Ok (slot, y))
    settled-pair slot v = by v.hoisted v.rest
      where
        by : (h : Option Fault) (r : Answer) → unless_fault h (then_with r (λ y. let p : Slot × Value = (slot, y) in let r : Result (Slot × Value) Fault = Ok p in r)) ≡ then_with (unless_fault h r) (λ y. Ok (slot, y))
        by (Some f) r = refl
        by None (Ok y) = refl
        by None (Err f) = refl

    property-assigned : (v : Evaluated) → assigned u (T.Property n q at) v ≡ then_with (settled v) (λ y. Ok (Node q k, y))
    property-assigned v =
        ap (λ o. unless_fault v.hoisted (then_with (then_with o (λ z. Ok (Node q z))) (λ z. then_with v.rest (λ y. Ok (z, y)))))
        (node_of-held j loop x q k at local iterates apart fresh deep quiet less a.store b.store l.shows l.edge l.held m key at)
        ∙ settled-pair (Node q k) v

    named : (y : ℕ) (c : Bool) → nat_eq y x ≡ c → Name (Scalar y) ≡ cond c (Node q k) (Scalar y)
    named y c e = ap (λ o. cond o (Node q k) (Scalar y)) e

    declared-linked : (y : ℕ) (e : Expr) → y < j → nat_eq y n ≡ false → names_plainly x e ≡ true → ReadsBelow j e →
        Linked (does (Declare key y (Some e)) m loop a) (does (moved_declared x q n at zero_is key y (Some e)) m loop b)
    declared-linked y e c o h d = by (nat_eq y x) refl
      where
        by : (c' : Bool) → nat_eq y x ≡ c' → Linked (does (Declare key y (Some e)) m loop a) (does (cond c' (Assign key (T.Property n q at) (in_expr e)) (Declare key y (Some (in_expr e)))) m loop b)
        by true is =
            linked-ok (λ v. Unit {0}) a b (value e w) (assigned u (T.Property n q at) (evaluated (in_expr e) u)) (λ v. (Node q k, v)) (λ v. wrote a (Scalar y, v)) (wrote b) l
            (ap (assigned u (T.Property n q at)) (expr-same e h d) ∙ property-assigned (evaluated e w)) (any-ok (value e w))
            (λ v t. subst (λ z. Linked (wrote a (Scalar y, v)) (wrote b (z, v))) (named y true is) (linked-wrote a b (Scalar y) v (c, o) l))
        by false is =
            linked-ok (λ v. Unit {0}) a b (value e w) (value (in_expr e) u) (λ v. v) (λ v. wrote a (Scalar y, v)) (λ v. wrote b (Scalar y, v)) l
            (ap settled (expr-same e h d) ∙ same-ok (value e w)) (any-ok (value e w))
            (λ v t. subst (λ z. Linked (wrote a (Scalar y, v)) (wrote b (z, v))) (named y false is) (linked-wrote a b (Scalar y) v (c, o) l))

    zero-linked : (y : ℕ) → y < j → nat_eq y n ≡ false → Linked (does (Declare key y None) m loop a) (does (moved_declared x q n at zero_is key y None) m loop b)
    zero-linked y c o = by (nat_eq y x) refl
      where
        by : (c' : Bool) → nat_eq y x ≡ c' → Linked (wrote a (Scalar y, zero_of (loop.vtype y))) (does (cond c' (Assign key (T.Property n q at) (Const zero_is)) (Declare key y None)) m loop b)
        by true is =
            subst (λ r. Linked (wrote a (Scalar y, zero_of (loop.vtype y))) (with_ok b r (wrote b))) (sym (property-assigned (evaluated (Const zero_is) u)))
            (subst (λ v. Linked (wrote a (Scalar y, zero_of (loop.vtype y))) (wrote b (Node q k, v))) (ap (λ z. zero_of (loop.vtype z)) (eqb-true y x is))
            (subst (λ z. Linked (wrote a (Scalar y, zero_of (loop.vtype y))) (wrote b (z, zero_of (loop.vtype y)))) (named y true is) (linked-wrote a b (Scalar y) (zero_of (loop.vtype y)) (c, o) l)))
        by false is = subst (λ z. Linked (wrote a (Scalar y, zero_of (loop.vtype y))) (wrote b (z, zero_of (loop.vtype y)))) (named y false is) (linked-wrote a b (Scalar y) (zero_of (loop.vtype y)) (c, o) l)

    assign-linked : (t : Target) (e : Expr) → Aims t → TargetBelow j t → names_plainly x e ≡ true → ReadsBelow j e → Linked (does (Assign key t e) m loop a) (does (Assign key (in_target t) (in_expr e)) m loop b)
    assign-linked t e o c h d =
        linked-ok (λ p. Fine p.0) a b (assigned w t (evaluated e w)) (assigned u (in_target t) (evaluated (in_expr e) u)) (λ p. (Name p.0, p.1)) (wrote a) (wrote b) l
        (ap (assigned u (in_target t)) (expr-same e h d) ∙ assigned-moved j loop x q k at local iterates apart fresh deep quiet less a.store b.store l.shows l.edge l.held m key t (evaluated e w) (reached t o) c)
        (assigned-fine t (evaluated e w) o c) (λ p f. linked-wrote a b p.0 p.1 f l)

    defer-linked : (t : Target) (e : Expr) → is_apart x n t ≡ true → TargetBelow j t → names_plainly x e ≡ true → ReadsBelow j e →
        Linked (with_ok a (assigned w t (evaluated e w)) (deferred_to a)) (with_ok b (assigned u t (evaluated (in_expr e) u)) (deferred_to b))
    defer-linked t e o c h d =
        linked-ok (λ p. Unit {0}) a b (assigned w t (evaluated e w)) (assigned u t (evaluated (in_expr e) u)) (λ p. p) (deferred_to a) (deferred_to b) l
        (ap (assigned u t) (expr-same e h d) ∙ same-target t o c (evaluated e w) ∙ same-ok (assigned w t (evaluated e w))) (any-ok (assigned w t (evaluated e w))) (λ p f. linked-deferred a b p l)
      where
        same-target : (t : Target) → is_apart x n t ≡ true → TargetBelow j t → (v : Evaluated) → assigned u t v ≡ assigned w t v
        same-target (T.Scalar y place) o c v = refl
        same-target (T.Property y p place) o c v =
            ap (λ z. unless_fault v.hoisted (then_with (then_with z (λ k. Ok (Node p k))) (λ s. then_with v.rest (λ y. Ok (s, y)))))
            (node_of-same j loop x q k at local iterates apart fresh deep quiet less a.store b.store l.shows l.edge l.held m key y place c.0 (not-true (nat_eq y x) o))

  -- an inner loop, whose turns are linked
  module _ (a b : Iteration) (l : Linked a b) (f g : Step → Iteration) (each : (step : Step) → Linked (f step) (g step)) where
    inner-given : (steps : List Step) → joined (map (λ (z : Iteration). z.with_inner) (map g steps)) ≡ map Given (joined (map (λ (z : Iteration). z.with_inner) (map f steps)))
    inner-given [] = refl
    inner-given (s ∷ steps) =
        ap (λ cs. cs ++ joined (map (λ (z : Iteration). z.with_inner) (map g steps))) (each s).with_inner ∙ ap (λ cs. map Given (f s).with_inner ++ cs) (inner-given steps)
        ∙ sym (map-both Given (f s).with_inner (joined (map (λ (z : Iteration). z.with_inner) (map f steps))))

    outer-given : (steps : List Step) → joined (map (λ (z : Iteration). z.with_outermost) (map g steps)) ≡ joined (map (λ (z : Iteration). z.with_outermost) (map f steps))
    outer-given [] = refl
    outer-given (s ∷ steps) = ap (λ cs. cs ++ joined (map (λ (z : Iteration). z.with_outermost) (map g steps))) (each s).with_outermost ∙ ap (λ cs. (f s).with_outermost ++ cs) (outer-given steps)

    faults-given : (steps : List Step) → map (λ (z : Iteration). z.fault) (map g steps) ≡ map (λ (z : Iteration). z.fault) (map f steps)
    faults-given [] = refl
    faults-given (s ∷ steps) = ap (λ o. o ∷ map (λ (z : Iteration). z.fault) (map g steps)) (each s).fault ∙ ap (λ os. (f s).fault ∷ os) (faults-given steps)

    given-below : (steps : List Step) → GivesBelow j (joined (map (λ (z : Iteration). z.with_inner) (map f steps)))
    given-below [] = tt
    given-below (s ∷ steps) = below-append j (f s).with_inner _ (each s).inner_below (given-below steps)

    given-off : (steps : List Step) → OffScalar n (joined (map (λ (z : Iteration). z.with_inner) (map f steps)))
    given-off [] = tt
    given-off (s ∷ steps) = off-append n (f s).with_inner _ (each s).inner_off (given-off steps)

    late-below : (steps : List Step) → GivesBelow j (joined (map (λ (z : Iteration). z.with_outermost) (map f steps)))
    late-below [] = tt
    late-below (s ∷ steps) = below-append j (f s).with_outermost _ (each s).outer_below (late-below steps)

    linked-done : (steps : List Step) → Linked (inner_done a (map f steps)) (inner_done b (map g steps))
    linked-done steps =
        let cs = joined (map (λ (z : Iteration). z.with_inner) (map f steps)) in
        record {
          shows = subst (λ ds. Shows j x q k fresh (settled_store a.store cs) (settled_store b.store ds)) (sym (inner-given steps)) (shows-settled j x q k fresh a.store b.store l.shows cs (given-below steps));
          edge = l.edge;
          held = value-away a.store (Scalar n) cs (off-away n cs (given-off steps)) ∙ l.held;
          with_inner = l.with_inner;
          with_outermost = ap (λ ds. ds ++ joined (map (λ (z : Iteration). z.with_outermost) (map g steps))) l.with_outermost ∙ ap (λ ds. a.with_outermost ++ ds) (outer-given steps);
          deferred = l.deferred;
          fault = ap (λ os. least (somes os ++ total_faults b.store (joined (map (λ (z : Iteration). z.with_inner) (map g steps))))) (faults-given steps)
              ∙ ap (λ ds. least (somes (map (λ (z : Iteration). z.fault) (map f steps)) ++ total_faults b.store ds)) (inner-given steps)
              ∙ ap (λ fs. least (somes (map (λ (z : Iteration). z.fault) (map f steps)) ++ fs)) (totals-ren j x q k fresh a.store b.store l.shows cs (given-below steps));
          inner_below = l.inner_below;
          inner_off = l.inner_off;
          outer_below = below-append j a.with_outermost _ l.outer_below (late-below steps);
        }

  linked-begun : (s t : Store) → Shows j x q k fresh s t → ((p e : ℕ) → p < j → t.edge p e ≡ s.edge p e) → s.scalar n ≡ At (Some k) → Linked (begun s) (begun t)
  linked-begun s t h e held = record { shows = h; edge = e; held = held; with_inner = refl; with_outermost = refl; deferred = refl; fault = refl; inner_below = tt; inner_off = tt; outer_below = tt }

  linked-one_way : (v : Bool) (f g f' g' : Iteration → Iteration) (a b : Iteration) → Linked (f a) (f' b) → Linked (g a) (g' b) → Linked (one_way v f g a) (one_way v f' g' b)
  linked-one_way true f g f' g' a b h i = h
  linked-one_way false f g f' g' a b h i = i

  -- a turn of an inner loop
  linked-turn : (m : Mode) (key : Key) (test : Expr) (f g : Iteration → Iteration) (iterator y : ℕ) (s t : Store) → Shows j x q k fresh s t → ((p e : ℕ) → p < j → t.edge p e ≡ s.edge p e) → s.scalar n ≡ At (Some k) →
      iterator < j → nat_eq iterator x ≡ false → nat_eq iterator n ≡ false → names_plainly x test ≡ true → ReadsBelow j test → ((a b : Iteration) → Linked a b → Linked (f a) (g b)) →
      Linked (turn_at loop m key test f iterator y s) (turn_at loop m key (in_expr test) g iterator y t)
  linked-turn m key test f g iterator y s t h e held below off other plain reads each =
      let u = write s (Scalar iterator) (At (Some y)) in
      let v = write t (Scalar iterator) (At (Some y)) in
      let shows : Shows j x q k fresh u v = subst (λ z. Shows j x q k fresh u (write t z (At (Some y)))) (ap (λ c. cond c (Node q k) (Scalar iterator)) off) (shows-write j x q k fresh s t (Scalar iterator) (At (Some y)) below h) in
      let start = linked-begun u v shows e (ap (λ c. cond c (At (Some y)) (s.scalar n)) other ∙ held) in
      linked-ok (λ z. Unit {0}) (begun u) (begun v) (value test (view_in loop m (begun u) key)) (value (in_expr test) (view_in loop m (begun v) key)) (λ z. z)
      (λ z. one_way (is_true z) f as_it_is (begun u)) (λ z. one_way (is_true z) g as_it_is (begun v)) start
      (ap settled (expr-same (begun u) (begun v) start m key test plain reads) ∙ same-ok (value test (view_in loop m (begun u) key))) (any-ok (value test (view_in loop m (begun u) key)))
      (λ z o. linked-one_way (is_true z) f as_it_is g as_it_is (begun u) (begun v) (each (begun u) (begun v) start) start)

  -- a body does the same under the other name
  pub linked : (s : Stmt) (m : Mode) (a b : Iteration) → NamesBelow j s → may_move_beside loop x s ≡ true → Linked a b → Linked (does s m loop a) (does (in_stmt s) m loop b)
  linked Skip m a b c h l = l
  linked (Then s r) m a b c h l =
      let o = both-true (may_move_beside loop x s) (may_move_beside loop x r) h in
      linked-go_on (does s m loop a) (does (in_stmt s) m loop b) (does r m loop) (does (in_stmt r) m loop) (linked s m a b c.0 o.0 l) (λ i. linked r m _ _ c.1 o.1 i)
  linked (Declare key y None) m a b c h l = let o = both-true (not (nat_eq y n)) true h in zero-linked a b l m key y c.0 (not-true (nat_eq y n) o.0)
  linked (Declare key y (Some e)) m a b c h l = let o = both-true (not (nat_eq y n)) (names_plainly x e) h in declared-linked a b l m key y e c.0 (not-true (nat_eq y n) o.0) o.1 c.1
  linked (DeclareEdge y z place) m a b c h l = l
  linked (Assign key t e) m a b c h l =
      let o = both-true (is_apart x n t || is_it x (t ∷ [])) (names_plainly x e) h in
      assign-linked a b l m key t e (one t o.0) c.0 o.1 c.1
    where
      one : (t : Target) → is_apart x n t || is_it x (t ∷ []) ≡ true → Aims t
      one t h = by (is_apart x n t) refl h
        where
          by : (o : Bool) → is_apart x n t ≡ o → o || is_it x (t ∷ []) ≡ true → Aims t
          by true e h = apart-aims t e
          by false e h = (it-aims (t ∷ []) h).0
  linked (Defer key t e) Outermost a b c h l = let o = both-true (is_apart x n t) (names_plainly x e) h in defer-linked a b l Outermost key t e o.0 c.0 o.1 c.1
  linked (Defer key t e) (AtEdge z) a b c h l = l
  linked (Combine key total r ts es) m a b c h l =
      let o = both-true (list_all (is_apart x n) ts || list_all (is_mine loop) ts) (list_all (names_plainly x) es) h in
      combine-linked a b l m key total r ts es o.0 c.0 o.1 c.1
  linked (Group key place g p e) m a b c h l = l
  linked (Foreach key place head test body) Outermost a b c h l =
      let o1 = both-true (not (nat_eq head.owner x)) (not (nat_eq head.iterator x) && (not (nat_eq head.iterator n) && (names_plainly x test && may_move_beside loop x body))) h in
      let o2 = both-true (not (nat_eq head.iterator x)) (not (nat_eq head.iterator n) && (names_plainly x test && may_move_beside loop x body)) o1.1 in
      let o3 = both-true (not (nat_eq head.iterator n)) (names_plainly x test && may_move_beside loop x body) o2.1 in
      let o4 = both-true (names_plainly x test) (may_move_beside loop x body) o3.1 in
      let turn : Stmt → Expr → Store → Step → Iteration = λ s e st step. turn_at loop (AtEdge step.edge) key e (does s (AtEdge step.edge) loop) head.iterator step.node st in
      subst (λ steps. Linked (inner_done a (map (turn body test a.store) (steps_in (view_in loop Outermost a key) head))) (inner_done b (map (turn (in_stmt body) (in_expr test) b.store) steps)))
      (sym (steps-moved j loop x q k at local iterates apart fresh deep quiet less a.store b.store l.shows l.edge l.held Outermost key head c.1 (not-true (nat_eq head.owner x) o1.0)))
      (linked-done a b l (turn body test a.store) (turn (in_stmt body) (in_expr test) b.store)
      (λ step.
      linked-turn (AtEdge step.edge) key test (does body (AtEdge step.edge) loop) (does (in_stmt body) (AtEdge step.edge) loop) head.iterator step.node a.store b.store l.shows l.edge l.held c.0
      (not-true (nat_eq head.iterator x) o2.0) (not-true (nat_eq head.iterator n) o3.0) o4.0 c.2 (λ i d z. linked body (AtEdge step.edge) i d c.3 o4.1 z))
      (steps_in (view_in loop Outermost a key) head))
  linked (Foreach key place head test body) (AtEdge z) a b c h l = l
  linked (For key place head test body) m a b c h l = l
  linked (If key e s r) m a b c h l =
      let o = both-true (names_plainly x e) (may_move_beside loop x s && may_move_beside loop x r) h in
      let p = both-true (may_move_beside loop x s) (may_move_beside loop x r) o.1 in
      linked-ok (λ v. Unit {0}) a b (value e (view_in loop m a key)) (value (in_expr e) (view_in loop m b key)) (λ v. v)
      (λ v. one_way (is_true v) (does s m loop) (does r m loop) a) (λ v. one_way (is_true v) (does (in_stmt s) m loop) (does (in_stmt r) m loop) b) l
      (ap settled (expr-same a b l m key e o.0 c.0) ∙ same-ok (value e (view_in loop m a key))) (any-ok (value e (view_in loop m a key)))
      (λ v t. linked-one_way (is_true v) (does s m loop) (does r m loop) (does (in_stmt s) m loop) (does (in_stmt r) m loop) a b (linked s m a b c.1 p.0 l) (linked r m a b c.2 p.1 l))
  linked (While key place e body) m a b c h l = l
  linked (Do key place body e) m a b c h l = l
  linked (InBfs key place head e body) m a b c h l = l
  linked (InBfsBoth key place head e body back_key d back) m a b c h l = l
  linked (Return key place e) m a b c h l = l

  -- an iteration at the node
  pub linked-iteration : (key : Key) (test : Expr) (body : Stmt) (s t : Store) → names_plainly x test ≡ true → ReadsBelow j test → may_move_beside loop x body ≡ true → NamesBelow j body → Agree j s t → t.node q k ≡ s.scalar x →
      Linked (iteration loop key test body s k) (iteration loop key (in_expr test) (in_stmt body) t k)
  linked-iteration key test body s t h r g c agree there =
      let u = write s (Scalar n) (At (Some k)) in
      let v = write t (Scalar n) (At (Some k)) in
      let start = linked-begun u v shows agree.edge (ap (λ o. cond o (At (Some k)) (s.scalar n)) (eq-eqb n n refl)) in
      linked-ok (λ z. Unit {0}) (begun u) (begun v) (value test (view_in loop Outermost (begun u) key)) (value (in_expr test) (view_in loop Outermost (begun v) key)) (λ z. z)
      (λ z. one_way (is_true z) (does body Outermost loop) as_it_is (begun u)) (λ z. one_way (is_true z) (does (in_stmt body) Outermost loop) as_it_is (begun v)) start
      (ap settled (expr-same (begun u) (begun v) start Outermost key test h r) ∙ same-ok (value test (view_in loop Outermost (begun u) key))) (any-ok (value test (view_in loop Outermost (begun u) key)))
      (λ z o. linked-one_way (is_true z) (does body Outermost loop) as_it_is (does (in_stmt body) Outermost loop) as_it_is (begun u) (begun v) (linked body Outermost (begun u) (begun v) c g start) start)
    where
      shows : Shows j x q k fresh (write s (Scalar n) (At (Some k))) (write t (Scalar n) (At (Some k)))
      shows (Scalar y) b = by (nat_eq y x) refl
        where
          by : (o : Bool) → nat_eq y x ≡ o → read (write t (Scalar n) (At (Some k))) (cond o (Node q k) (Scalar y)) ≡ (write s (Scalar n) (At (Some k))).scalar y
          by true e = there ∙ sym (ap s.scalar (eqb-true y x e)) ∙ sym (ap (λ o. cond o (At (Some k)) (s.scalar y)) (ne_eqb n y (λ h. apart (sym (eqb-true y x e) ∙ sym h))))
          by false e = ap (λ z. cond (nat_eq n y) (At (Some k)) z) (agree.scalar y b)
      shows (Node p y) b = agree.node p y b
