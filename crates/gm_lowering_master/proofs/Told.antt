-- Expressions of scalars and counts in the master list.
use Rattle.std.proofs.Common.{◌≡◌, inl, inr, ℕ, Bool, true, false, Option, Some, None, Result, Ok, Err, List, [], ◌∷◌, ◌++◌, map, length, refl, ap, ◌∙◌, sym, subst, ⊎_elim}
use Rattle.std.specs.Prelude.{◌&&◌, not, nat_lt, nat_eq, if◌then◌else◌}
use Rattle.std.proofs.lemmas.Bool.{both_ways, ltb-true, not-true}
use Rattle.gm_base.specs.declared.places.Place.{Place}
use Rattle.gm_value.specs.declared.values.Value.{Value}
use Rattle.gm_value.specs.declared.values.Value.TheVariants.{At}
use Rattle.gm_value.specs.declared.faults.FaultKind.{FaultKind}
use Rattle.gm_value.specs.Bag.{IsIn}
use Rattle.gm_value.specs.Numbers.{zero_of}
use Rattle.gm_value.specs.Operations.{is_true, result1, result2}
use Rattle.gm_ast.specs.declared.tree.Key.{Key}
use Rattle.gm_ast.specs.Keys as K
use Rattle.gm_ast.specs.Program as S
use Rattle.gm_ast.specs.Program.{Expr}
use Rattle.gm_forms.proofs.Named.{both-true}
use Rattle.gm_forms.specs.Forms.{is_told}
use Rattle.gm_forms.specs.Order.{can_fail1, can_fail2, fault_if}
use Rattle.gm_semantics.specs.declared.faults.Fault.{Fault}
use Rattle.gm_semantics.specs.Expressions.{View, Answer, Evaluated, evaluated, value, settled, plain, early, located, at_node, node_held}
use Rattle.gm_semantics.specs.Faults.{then_with}
use Rattle.gm_semantics.specs.Levels.{node_in}
use Rattle.gm_semantics.specs.Statements.{State, view_of, variable_at}
use Rattle.gm_image.specs.Term as M
use Rattle.gm_machine.specs.Expressions.{value as term_value, value_at}
use Rattle.gm_machine.specs.Machine.{Nodes, master_view}
use Rattle.gm_lowering.specs.Layouts.{Layout, is_global, is_register, has_value}
use Rattle.gm_lowering.specs.Phases.{NodesInGraph}
use Rattle.gm_lowering.specs.Places.{Spot, Segment, segment, spot_of, spot_at, spots_in, spots_in_all, shown_places}
use Rattle.gm_lowering.specs.Settles.{HasSpot, spot_of_fault}
use Rattle.gm_lowering.specs.Showing.{Tells, answer_of, fault_of}
use Rattle.gm_lowering.specs.Sites.{phase_value}
use Rattle.gm_lowering.specs.Terms.{Env, master_env, phase_scalar, term}
use Rattle.gm_lowering.proofs.Own.{live-same, global-no_register}
use Rattle.gm_lowering.proofs.Spots.{Reads, Within, rest-within}
use Rattle.gm_lowering.proofs.Terms.{terms-have-values, live-has-its-value, hoisted-told}
use Rattle.gm_lowering_master.specs.Runs.{StandsAt}
use Rattle.gm_lowering_master.specs.Cells.{Setting, Between, is_scalar}
use Rattle.gm_lowering_master.specs.Follows.{tells, is_told_value, IsFault}
use Rattle.gm_lowering_master.proofs.Indices.{place-found}

-- an expression that is told is one of scalars and counts
pub told-is_told : (c : Layout) (e : Expr) → tells c e ≡ true → is_told e ≡ true
told-is_told c (S.Const v) h = refl
told-is_told c (S.Var x at) h = refl
told-is_told c (S.Property x q at) h = absurd (both_ways false refl h)
told-is_told c (S.EdgeProperty x q at) h = absurd (both_ways false refl h)
told-is_told c (S.Degree d x at) h = absurd (both_ways false refl h)
told-is_told c S.NodeCount h = refl
told-is_told c S.EdgeCount h = refl
told-is_told c (S.Live x at) h = absurd (both_ways false refl h)
told-is_told c (S.Unary op at a) h = told-is_told c a h
told-is_told c (S.Binary op at a b) h =
    let q = both-true (tells c a) (tells c b) h in ap (λ x. x && is_told b) (told-is_told c a q.0) ∙ told-is_told c b q.1
told-is_told c (S.Both a b) h =
    let q = both-true (tells c a) (tells c b) h in ap (λ x. x && is_told b) (told-is_told c a q.0) ∙ told-is_told c b q.1
told-is_told c (S.Either a b) h =
    let q = both-true (tells c a) (tells c b) h in ap (λ x. x && is_told b) (told-is_told c a q.0) ∙ told-is_told c b q.1
told-is_told c (S.Choose e a b) h =
    let q = both-true (tells c e) (tells c a && tells c b) h in
    let r = both-true (tells c a) (tells c b) q.1 in
    ap (λ x. x && (is_told a && is_told b)) (told-is_told c e q.0) ∙ ap (λ x. x && is_told b) (told-is_told c a r.0) ∙ told-is_told c b r.1
told-is_told c (S.Folded f k t a) h = absurd (both_ways false refl h)

-- it reads no node
told-reads : (c : Layout) (w : View) (e : Expr) → tells c e ≡ true → Reads w e
told-reads c w (S.Const v) h = tt
told-reads c w (S.Var x at) h = tt
told-reads c w (S.Property x q at) h = absurd (both_ways false refl h)
told-reads c w (S.EdgeProperty x q at) h = absurd (both_ways false refl h)
told-reads c w (S.Degree d x at) h = absurd (both_ways false refl h)
told-reads c w S.NodeCount h = tt
told-reads c w S.EdgeCount h = tt
told-reads c w (S.Live x at) h = absurd (both_ways false refl h)
told-reads c w (S.Unary op at a) h = told-reads c w a h
told-reads c w (S.Binary op at a b) h = let q = both-true (tells c a) (tells c b) h in (told-reads c w a q.0, told-reads c w b q.1)
told-reads c w (S.Both a b) h = let q = both-true (tells c a) (tells c b) h in (told-reads c w a q.0, told-reads c w b q.1)
told-reads c w (S.Either a b) h = let q = both-true (tells c a) (tells c b) h in (told-reads c w a q.0, told-reads c w b q.1)
told-reads c w (S.Choose e a b) h =
    let q = both-true (tells c e) (tells c a && tells c b) h in
    let r = both-true (tells c a) (tells c b) q.1 in
    (told-reads c w e q.0, told-reads c w a r.0, told-reads c w b r.1)
told-reads c w (S.Folded f k t a) h = absurd (both_ways false refl h)

-- a fault shows the place where it stands
abbrev Own : {A : Type 0} → Result A Fault → Type 0
Own (Ok a) = Unit {0}
Own (Err f) = f.shown ≡ f.place

then-own : {A B : Type 0} (r : Result A Fault) (next : A → Result B Fault) → Own r → ((a : A) → Own (next a)) → Own (then_with r next)
then-own (Ok a) next h k = k a
then-own (Err f) next h k = h

if-own : {A : Type 0} (b : Bool) (r q : Result A Fault) → Own r → Own q → Own (if b then r else q)
if-own true r q h k = h
if-own false r q h k = k

located-own : (w : View) (at : Place) (r : Result Value FaultKind) → Own (located w at r)
located-own w at (Ok v) = tt
located-own w at (Err k) = refl

told-own : (c : Layout) (w : View) (e : Expr) → tells c e ≡ true → Own (evaluated e w).rest
told-own c w (S.Const v) h = tt
told-own c w (S.Var x at) h = tt
told-own c w (S.Property x q at) h = absurd (both_ways false refl h)
told-own c w (S.EdgeProperty x q at) h = absurd (both_ways false refl h)
told-own c w (S.Degree d x at) h = absurd (both_ways false refl h)
told-own c w S.NodeCount h = tt
told-own c w S.EdgeCount h = tt
told-own c w (S.Live x at) h = absurd (both_ways false refl h)
told-own c w (S.Unary op at a) h = then-own (evaluated a w).rest _ (told-own c w a h) (λ x. located-own w at (result1 op x))
told-own c w (S.Binary op at a b) h =
    let q = both-true (tells c a) (tells c b) h in
    then-own (evaluated a w).rest _ (told-own c w a q.0) (λ x. then-own (evaluated b w).rest _ (told-own c w b q.1) (λ y. located-own w at (result2 op x y)))
told-own c w (S.Both a b) h =
    let q = both-true (tells c a) (tells c b) h in
    then-own (evaluated a w).rest _ (told-own c w a q.0) (λ x. if-own (is_true x) (evaluated b w).rest (Ok x) (told-own c w b q.1) tt)
told-own c w (S.Either a b) h =
    let q = both-true (tells c a) (tells c b) h in
    then-own (evaluated a w).rest _ (told-own c w a q.0) (λ x. if-own (is_true x) (Ok x) (evaluated b w).rest tt (told-own c w b q.1))
told-own c w (S.Choose e a b) h =
    let q = both-true (tells c e) (tells c a && tells c b) h in
    let r = both-true (tells c a) (tells c b) q.1 in
    then-own (evaluated e w).rest _ (told-own c w e q.0) (λ x. if-own (is_true x) (evaluated a w).rest (evaluated b w).rest (told-own c w a r.0) (told-own c w b r.1))
told-own c w (S.Folded f k t a) h = absurd (both_ways false refl h)

-- and so do the spots of an expression
abbrev pub AreOwn : List Spot → Type 0
AreOwn xs = (z : Spot) → IsIn z xs → z.shown ≡ z.fault.place

own-both : (xs ys : List Spot) → AreOwn xs → AreOwn ys → AreOwn (xs ++ ys)
own-both [] ys h k z i = k z i
own-both (x ∷ xs) ys h k z i = ⊎_elim (λ (e : z ≡ x). h z (inl e)) (λ (j : IsIn z (xs ++ ys)). own-both xs ys (λ y l. h y (inr l)) k z j) i

own-of : (fs : List K.Fault) → AreOwn (map spot_of fs)
own-of [] z i = absurd i
own-of (f ∷ fs) z i = ⊎_elim (λ (e : z ≡ spot_of f). ap (λ y. y.shown) e ∙ ap (λ y. y.fault.place) (sym e)) (λ (j : IsIn z (map spot_of fs)). own-of fs z j) i

pub own-spots : (e : Expr) (k : Key) → AreOwn (spots_in e k)
own-spots (S.Live x at) k = λ z i. ⊎_elim (λ (e : z ≡ spot_at k at). ap (λ y. y.shown) e ∙ ap (λ y. y.fault.place) (sym e)) (λ (j : ⊥). absurd j) i
own-spots (S.Unary op at a) k = own-both (map spot_of (fault_if (can_fail1 op) k at)) (spots_in a k) (own-of (fault_if (can_fail1 op) k at)) (own-spots a k)
own-spots (S.Binary op at a b) k =
    own-both (map spot_of (fault_if (can_fail2 op) k at)) (spots_in a k ++ spots_in b k) (own-of (fault_if (can_fail2 op) k at)) (own-both (spots_in a k) (spots_in b k) (own-spots a k) (own-spots b k))
own-spots (S.Both a b) k = own-both (spots_in a k) (spots_in b k) (own-spots a k) (own-spots b k)
own-spots (S.Either a b) k = own-both (spots_in a k) (spots_in b k) (own-spots a k) (own-spots b k)
own-spots (S.Choose e a b) k =
    own-both (spots_in e k) (spots_in a k ++ spots_in b k) (own-spots e k) (own-both (spots_in a k) (spots_in b k) (own-spots a k) (own-spots b k))
own-spots _ k = λ z i. absurd i

-- those of several expressions too
pub own-all : (es : List Expr) (k : Key) → AreOwn (spots_in_all es k)
own-all [] k = λ z i. absurd i
own-all (e ∷ es) k = own-both (spots_in e k) (spots_in_all es k) (own-spots e k) (own-all es k)

pub settled-none : (e : Evaluated) → e.hoisted ≡ None → settled e ≡ e.rest
settled-none e h = ap (λ x. settled (record e { hoisted = x })) h

live-alone : (b : Bool) (a : Answer) → settled (if b then plain a else early a) ≡ a
live-alone true a = refl
live-alone false (Ok x) = refl
live-alone false (Err f) = refl

-- what the term of an expression has in the master list is what the expression has; a fault of it is the expression's
pub record Told (s : Setting) (v : Env) (globals : List Value) (a : M.Term) (answer : Answer) : Type 0 where
  pub value : term_value (master_view s.run.graph globals) a ≡ answer_of v answer
  pub fault : (f : Fault) → answer ≡ Err f → IsFault s.image (fault_of v f) f

module _ (s : Setting) (globals : List Value) (held : Nodes) (state : State) (between : Between s globals held state.store) where
  abbrev c : Layout
  c = s.frame.layout

  phase-is : (x : ℕ) → term_value (master_view s.run.graph globals) (phase_scalar c x) ≡ Ok (phase_value c globals x)
  phase-is x = by (is_global (variable_at c.declarations x)) where
    by : (b : Bool) → term_value (master_view s.run.graph globals) (if b then M.Global (c.global x) else M.Const (zero_of (variable_at c.declarations x).vtype)) ≡ Ok (if b then value_at globals (c.global x) else zero_of (variable_at c.declarations x).vtype)
    by true = refl
    by false = refl

  pub scalar-is : (x : ℕ) → nat_lt x (length c.declarations) ≡ true → is_register (variable_at c.declarations x) ≡ false → has_value (variable_at c.declarations x) ≡ true
      → term_value (master_view s.run.graph globals) (phase_scalar c x) ≡ Ok (state.store.scalar x)
  scalar-is x lt r g = phase-is x ∙ ap Ok (between.shown.scalars x (ltb-true x (length c.declarations) lt) r g)

  tell : (seg : Segment) (k : Key) (e : Expr) → tells c e ≡ true → Tells (master_env c seg) (view_of s.run state k) (master_view s.run.graph globals) e
  tell seg k (S.Const v) h = tt
  tell seg k (S.Var x at) h =
      let q = both-true (nat_lt x (length c.declarations)) (not (is_register (variable_at c.declarations x)) && has_value (variable_at c.declarations x)) h in
      let r = both-true (not (is_register (variable_at c.declarations x))) (has_value (variable_at c.declarations x)) q.1 in
      scalar-is x q.0 (not-true (is_register (variable_at c.declarations x)) r.0) r.1
  tell seg k (S.Property x q at) h = absurd (both_ways false refl h)
  tell seg k (S.EdgeProperty x q at) h = absurd (both_ways false refl h)
  tell seg k (S.Degree d x at) h = absurd (both_ways false refl h)
  tell seg k S.NodeCount h = refl
  tell seg k S.EdgeCount h = refl
  tell seg k (S.Live x at) h = absurd (both_ways false refl h)
  tell seg k (S.Unary op at a) h = tell seg k a h
  tell seg k (S.Binary op at a b) h = let q = both-true (tells c a) (tells c b) h in (tell seg k a q.0, tell seg k b q.1)
  tell seg k (S.Both a b) h = let q = both-true (tells c a) (tells c b) h in (tell seg k a q.0, tell seg k b q.1)
  tell seg k (S.Either a b) h = let q = both-true (tells c a) (tells c b) h in (tell seg k a q.0, tell seg k b q.1)
  tell seg k (S.Choose e a b) h =
      let q = both-true (tells c e) (tells c a && tells c b) h in
      let r = both-true (tells c a) (tells c b) q.1 in
      (tell seg k e q.0, tell seg k a r.0, tell seg k b r.1)
  tell seg k (S.Folded f l t a) h = absurd (both_ways false refl h)

  module _ (base : ℕ) (spots : List Spot) (stands : StandsAt s.image.places base (shown_places (segment base spots))) (own : AreOwn spots) where
    abbrev v : Env
    v = master_env c (segment base spots)

    -- a fault that has a spot is the machine's
    fault-by : {A : Type 0} (r : Result A Fault) → Within r spots → Own r → (f : Fault) → r ≡ Err f → IsFault s.image (fault_of v f) f
    fault-by r within shows f e =
        let named_spot : HasSpot (spot_of_fault f) spots = subst (λ x. Within x spots) e within in
        let shown : f.shown ≡ f.place = subst (λ x. Own x) e shows in
        (refl, place-found s.image base spots (spot_of_fault f) stands named_spot (λ z i h. own z i ∙ ap (λ y. y.place) h ∙ sym shown))

    within-by : {A : Type 0} (r : Result A Fault) (xs : List Spot) → ((f : Spot) → HasSpot f xs → HasSpot f spots) → Within r xs → Within r spots
    within-by (Ok a) xs h w = tt
    within-by (Err f) xs h w = h (spot_of_fault f) w

    -- a told expression
    pub told : (k : Key) (e : Expr) → tells c e ≡ true → ((f : Spot) → HasSpot f (spots_in e k) → HasSpot f spots)
        → Told s v globals (term v k e) (value e (view_of s.run state k))
    told k e h has =
        let w = view_of s.run state k in
        let rest : value e w ≡ (evaluated e w).rest = settled-none (evaluated e w) (hoisted-told w e (told-is_told c e h)) in
        record {
          value = terms-have-values v w (master_view s.run.graph globals) e (inr (told-is_told c e h)) (tell (segment base spots) k e h);
          fault = λ f a. fault-by (evaluated e w).rest (within-by (evaluated e w).rest (spots_in e k) has (rest-within w e (told-reads c w e h))) (told-own c w e h) f (sym rest ∙ a);
        }

    -- the node of a scalar
    told-live : (k : Key) (x : ℕ) (at : Place) → is_scalar c x ≡ true → NodesInGraph c s.run.graph state.store → HasSpot (spot_at k at) spots
        → Told s v globals (term v k (S.Live x at)) (value (S.Live x at) (view_of s.run state k))
    told-live k x at h inside has =
        let w = view_of s.run state k in
        let q = both-true (nat_lt x (length c.declarations)) (is_global (variable_at c.declarations x)) h in
        let held = node_in s.run.graph (state.store.scalar x) in
        record {
          value = live-has-its-value v w (master_view s.run.graph globals) x at (
            scalar-is x q.0 (global-no_register (variable_at c.declarations x) q.1) (both-true (nat_eq (variable_at c.declarations x).depth 0) (has_value (variable_at c.declarations x)) q.1).1,
            live-same v w at (state.store.scalar x) (inside x (ltb-true x (length c.declarations) q.0) q.1),
          );
          fault = λ f a. fault-by (at_node w x at (λ n. At (Some n))) (within held) (shows held) f (sym (live-alone w.parallel (at_node w x at (λ n. At (Some n)))) ∙ a);
        } where
          within : (o : Option ℕ) → Within (then_with (node_held (view_of s.run state k) at o) (λ n. Ok (At (Some n)))) spots
          within (Some n) = tt
          within None = has

          shows : (o : Option ℕ) → Own (then_with (node_held (view_of s.run state k) at o) (λ n. Ok (At (Some n))))
          shows (Some n) = tt
          shows None = refl

    -- what a scalar is set to
    pub told-value : (k : Key) (e : Expr) → is_told_value c e ≡ true → NodesInGraph c s.run.graph state.store → ((f : Spot) → HasSpot f (spots_in e k) → HasSpot f spots)
        → Told s v globals (term v k e) (value e (view_of s.run state k))
    told-value k (S.Live x at) h inside has = told-live k x at h inside (has (spot_at k at) (inl refl))
    told-value k e h inside has = told k e h has
