-- What an inner body gives that stands alone.
use Rattle.std.proofs.Common.{◌≡◌, ◌≢◌, arith, ℕ, zero, suc, Bool, true, false, cond, List, [], ◌∷◌, map, refl, sym, ap, subst, ◌∙◌, Some, None, ⊎_elim, inl, inr}
use Rattle.std.specs.Prelude.{◌⊎◌, ◌||◌, ◌&&◌, not, nat_eq, nat_lt}
use Rattle.std.specs.List.{list_all, list_any}
use Rattle.std.proofs.lemmas.Bool.{cases_Bool, eqb-true, eq-eqb, lt-ltb, both_ways}
use Rattle.gm_value.specs.declared.values.Value.{Value}
use Rattle.gm_value.specs.declared.reductions.Reduce.{Reduce}
use Rattle.gm_value.specs.declared.reductions.Reduce.TheVariants.{Sum, Product, Min, Max, And, Or}
use Rattle.gm_value.specs.Bag.{IsIn}
use Rattle.gm_ast.specs.declared.tree.Declaration.{Declaration}
use Rattle.gm_ast.specs.declared.tree.Key.{Key}
use Rattle.gm_ast.specs.declared.tree.TotalKey.{TotalKey}
use Rattle.gm_ast.specs.declared.tree.Target.{Target}
use Rattle.gm_ast.specs.declared.tree.Target.TheVariants as T
use Rattle.gm_ast.specs.Races.{reduce_eq, variables_eq}
use Rattle.gm_ast.specs.Ways.{is_in}
use Rattle.gm_ast.specs.Program.{Expr, Const, Var, Property, EdgeProperty, Degree, NodeCount, EdgeCount, Live, Unary, Binary, Both, Either, Choose, Folded, Stmt, Skip, Then, Declare, DeclareEdge, Assign, Defer, Combine, Group, Foreach, For, If, While, Do, InBfs, InBfsBoth, Return}
use Rattle.gm_semantics.specs.declared.faults.Fault.{Fault}
use Rattle.gm_semantics.specs.declared.slots.Slot.{Slot}
use Rattle.gm_semantics.specs.declared.slots.Slot.TheVariants.{Scalar, Node}
use Rattle.gm_semantics.specs.Stores.{has_slot}
use Rattle.gm_semantics.specs.Contributions.{Contribution, statement_of}
use Rattle.gm_semantics.specs.Iterations.{Loop, AtEdge, contribution, ends_of_all}
use Rattle.gm_semantics.specs.Laws.{IsAt}
use Rattle.gm_semantics.proofs.ContributionLaws.{has_first}
use Rattle.gm_semantics.proofs.TargetLaws.{never}
use Rattle.gm_forms.specs.Cut.{is_outer_local, spares_locals}
use Rattle.gm_forms.specs.Forms.{depth_at, is_flat, is_inner_body}
use Rattle.gm_forms.specs.Sharing.{Reduced, does_same, are_at_once, variables_of, written_at_once, written, reduced_by, all_reduced_by, reduced, disjoint, is_one, all_one, is_scalar, is_through, are_alike, targets_alike}
use Rattle.gm_forms.specs.Fission.{elsewhere_of, pushed_properties}
use Rattle.gm_forms.specs.Doing.{IsFlat, AreFlat, EachSlot, slots_at, OffAnd, MayReduce, Anywhere, MayDo}
use Rattle.gm_forms.proofs.Named.{both-true, all-append}
use Rattle.gm_forms.proofs.Doings.{in-left, in-right}
use Rattle.gm_forms.proofs.CutTests.{finds, not-true}
use Rattle.gm_forms.proofs.ReadingFrames.{nat_eq-apart}
use Rattle.gm_loop_laws.proofs.LoopEnds.{IsOwn}
use Rattle.gm_loop_laws.proofs.Splits.{ends_late, is_deep, is_top, is_once, is_late_slot, ends_by, late-ends}

-- an expression that passes is flat
pub flat : (its : List ℕ) (edge : Bool) (e : Expr) → is_flat its edge e ≡ true → IsFlat e
flat its edge (Const v) h = tt
flat its edge (Var x at) h = tt
flat its edge (Property x p at) h = tt
flat its edge (EdgeProperty x p at) h = tt
flat its edge (Degree d x at) h = tt
flat its edge NodeCount h = tt
flat its edge EdgeCount h = tt
flat its edge (Live x at) h = tt
flat its edge (Unary op at e) h = flat its edge e h
flat its edge (Binary op at a b) h = let r = both-true _ _ h in (flat its edge a r.0, flat its edge b r.1)
flat its edge (Both a b) h = let r = both-true _ _ h in (flat its edge a r.0, flat its edge b r.1)
flat its edge (Either a b) h = let r = both-true _ _ h in (flat its edge a r.0, flat its edge b r.1)
flat its edge (Choose c a b) h = let r = both-true _ _ h in let s = both-true _ _ r.1 in (flat its edge c r.0, flat its edge a s.0, flat its edge b s.1)
flat its edge (Folded f head test e) h = absurd (both_ways false refl h)

pub all-flat : (its : List ℕ) (edge : Bool) (es : List Expr) → list_all (is_flat its edge) es ≡ true → AreFlat es
all-flat its edge [] h = tt
all-flat its edge (e ∷ es) h = let r = both-true _ _ h in (flat its edge e r.0, all-flat its edge es r.1)

reduce-same : (a b : Reduce) → reduce_eq a b ≡ true → a ≡ b
reduce-same Sum Sum h = refl
reduce-same Sum Product h = absurd (both_ways false refl h)
reduce-same Sum Min h = absurd (both_ways false refl h)
reduce-same Sum Max h = absurd (both_ways false refl h)
reduce-same Sum And h = absurd (both_ways false refl h)
reduce-same Sum Or h = absurd (both_ways false refl h)
reduce-same Product Sum h = absurd (both_ways false refl h)
reduce-same Product Product h = refl
reduce-same Product Min h = absurd (both_ways false refl h)
reduce-same Product Max h = absurd (both_ways false refl h)
reduce-same Product And h = absurd (both_ways false refl h)
reduce-same Product Or h = absurd (both_ways false refl h)
reduce-same Min Sum h = absurd (both_ways false refl h)
reduce-same Min Product h = absurd (both_ways false refl h)
reduce-same Min Min h = refl
reduce-same Min Max h = absurd (both_ways false refl h)
reduce-same Min And h = absurd (both_ways false refl h)
reduce-same Min Or h = absurd (both_ways false refl h)
reduce-same Max Sum h = absurd (both_ways false refl h)
reduce-same Max Product h = absurd (both_ways false refl h)
reduce-same Max Min h = absurd (both_ways false refl h)
reduce-same Max Max h = refl
reduce-same Max And h = absurd (both_ways false refl h)
reduce-same Max Or h = absurd (both_ways false refl h)
reduce-same And Sum h = absurd (both_ways false refl h)
reduce-same And Product h = absurd (both_ways false refl h)
reduce-same And Min h = absurd (both_ways false refl h)
reduce-same And Max h = absurd (both_ways false refl h)
reduce-same And And h = refl
reduce-same And Or h = absurd (both_ways false refl h)
reduce-same Or Sum h = absurd (both_ways false refl h)
reduce-same Or Product h = absurd (both_ways false refl h)
reduce-same Or Min h = absurd (both_ways false refl h)
reduce-same Or Max h = absurd (both_ways false refl h)
reduce-same Or And h = absurd (both_ways false refl h)
reduce-same Or Or h = refl

variables-same : (xs ys : List ℕ) → variables_eq xs ys ≡ true → xs ≡ ys
variables-same [] [] h = refl
variables-same [] (y ∷ ys) h = absurd (both_ways false refl h)
variables-same (x ∷ xs) [] h = absurd (both_ways false refl h)
variables-same (x ∷ xs) (y ∷ ys) h = let r = both-true _ _ h in ap (λ z. z ∷ xs) (eqb-true x y r.0) ∙ ap (λ zs. y ∷ zs) (variables-same xs ys r.1)

-- disjoint lists have no member in common
apart-out : (xs ys : List ℕ) (x : ℕ) → disjoint xs ys ≡ true → IsIn x xs → IsIn x ys → ⊥
apart-out [] ys x h i j = i
apart-out (z ∷ xs) ys x h i j =
    let r = both-true _ _ h in
    ⊎_elim
    (λ (e : x ≡ z). both_ways (is_in ys z) (not-true (is_in ys z) r.0) (ap (is_in ys) (sym e) ∙ finds ys x j))
    (λ k. apart-out xs ys x r.1 k j) i

meet-false : (xs ys : List ℕ) (x : ℕ) → IsIn x xs → IsIn x ys → disjoint xs ys ≡ false
meet-false xs ys x i j = ⊎_elim (λ (h : disjoint xs ys ≡ true). absurd (apart-out xs ys x h i j)) (λ h. h) (cases_Bool (disjoint xs ys))

-- reductions that do the same
record Same (a b : Reduced) : Type 0 where
  reduce : a.reduce ≡ b.reduce
  variables : a.variables ≡ b.variables

same-sym : (a b : Reduced) → Same a b → Same b a
same-sym a b s = record { reduce = sym s.reduce; variables = sym s.variables }

one-with : (a b : Reduced) (bs : List Reduced) (y : ℕ) → is_one a bs ≡ true → IsIn b bs → IsIn y a.variables → IsIn y b.variables → Same a b
one-with a b [] y h i p q = absurd i
one-with a b (c ∷ bs) y h i p q =
    let r = both-true _ _ h in
    ⊎_elim
    (λ (k : b ≡ c).
    let meets : disjoint a.variables c.variables ≡ false = meet-false a.variables c.variables y p (subst (λ (z : Reduced). IsIn y z.variables) k q) in
    let u = both-true _ _ (sym (ap (λ z. z || does_same a c) meets) ∙ r.0) in
    let one : Same a c = record { reduce = reduce-same a.reduce c.reduce u.0; variables = variables-same a.variables c.variables u.1 } in
    subst (Same a) (sym k) one)
    (λ k. one-with a b bs y r.1 k p q) i

-- two reductions to one variable do the same
one-any : (rs : List Reduced) (a b : Reduced) (y : ℕ) → all_one rs ≡ true → IsIn a rs → IsIn b rs → IsIn y a.variables → IsIn y b.variables → Same a b
one-any [] a b y h i j p q = absurd i
one-any (r ∷ rs) a b y h i j p q =
    let t = both-true _ _ h in
    ⊎_elim
    (λ (k : a ≡ r).
    ⊎_elim
    (λ (l : b ≡ r). let is : a ≡ b = k ∙ sym l in record { reduce = ap (λ (z : Reduced). z.reduce) is; variables = ap (λ (z : Reduced). z.variables) is })
    (λ l. one-with a b rs y (ap (λ z. is_one z rs) k ∙ t.0) l p q) j)
    (λ k.
    ⊎_elim
    (λ (l : b ≡ r). same-sym b a (one-with b a rs y (ap (λ z. is_one z rs) l ∙ t.0) k q p))
    (λ l. one-any rs a b y t.1 k l p q) j) i

-- targets that are alike are scalars, or properties at one node
scalars-at : (node : ℕ → ℕ) (ts : List Target) → list_all is_scalar ts ≡ true → slots_at node ts ≡ map Scalar (variables_of ts)
scalars-at node [] h = refl
scalars-at node (T.Scalar y at ∷ ts) h = ap (λ l. Scalar y ∷ l) (scalars-at node ts h)
scalars-at node (T.Property y p at ∷ ts) h = never refl (sym h)

nodes-at : (node : ℕ → ℕ) (y : ℕ) (ts : List Target) → list_all (is_through y) ts ≡ true → slots_at node ts ≡ map (λ p. Node p (node y)) (variables_of ts)
nodes-at node y [] h = refl
nodes-at node y (T.Scalar z at ∷ ts) h = never refl (sym h)
nodes-at node y (T.Property z p at ∷ ts) h =
    let r = both-true _ _ h in ap (λ k. Node p (node k) ∷ slots_at node ts) (eqb-true z y r.0) ∙ ap (λ l. Node p (node y) ∷ l) (nodes-at node y ts r.1)

-- where slots of one variable each are
scalar-in : (y l : ℕ) (vs : List ℕ) → has_slot (Scalar y) (map (λ q. Node q l) vs) ≡ false
scalar-in y l [] = refl
scalar-in y l (q ∷ vs) = scalar-in y l vs

node-in : (p k : ℕ) (vs : List ℕ) → has_slot (Node p k) (map Scalar vs) ≡ false
node-in p k [] = refl
node-in p k (y ∷ vs) = node-in p k vs

pub scalar-member : (y : ℕ) (vs : List ℕ) → has_slot (Scalar y) (map Scalar vs) ≡ true → IsIn y vs
scalar-member y [] h = never h refl
scalar-member y (z ∷ vs) h = by (nat_eq y z) refl (scalar-member y vs) h
  where
    by : (b : Bool) → nat_eq y z ≡ b → (has_slot (Scalar y) (map Scalar vs) ≡ true → IsIn y vs) → b || has_slot (Scalar y) (map Scalar vs) ≡ true → IsIn y (z ∷ vs)
    by true e rest h = inl (eqb-true y z e)
    by false e rest h = inr (rest h)

pub node-member : (p k l : ℕ) (vs : List ℕ) → has_slot (Node p k) (map (λ q. Node q l) vs) ≡ true → IsIn p vs × (k ≡ l)
node-member p k l [] h = never h refl
node-member p k l (q ∷ vs) h = by (nat_eq p q) (nat_eq k l) refl refl (node-member p k l vs) h
  where
    by : (b c : Bool) → nat_eq p q ≡ b → nat_eq k l ≡ c → (has_slot (Node p k) (map (λ q. Node q l) vs) ≡ true → IsIn p vs × (k ≡ l)) → (b && c) || has_slot (Node p k) (map (λ q. Node q l) vs) ≡ true → IsIn p (q ∷ vs) × (k ≡ l)
    by true true d e rest h = (inl (eqb-true p q d), eqb-true k l e)
    by true false d e rest h = let r = rest h in (inr r.0, r.1)
    by false c d e rest h = let r = rest h in (inr r.0, r.1)

module _ (ds : List Declaration) (loop : Loop) (depths : (y : ℕ) → loop.depth y ≡ depth_at ds y) (some : List ℕ) (pp : ℕ → Bool) (known : (p : ℕ) → is_in some p ≡ true → pp p ≡ true) (RD : List Reduced) (sp : Type 0) where
  abbrev n : ℕ
  n = loop.outer

  -- slots that are properties of one node
  pub record ToNodes (r : Reduced) (slots : List Slot) : Type 0 where
    pub node : ℕ
    pub are : slots ≡ map (λ p. Node p node) r.variables

  abbrev pub ToOne : Reduced → List Slot → Type 0
  ToOne r slots = (slots ≡ map Scalar r.variables) ⊎ ToNodes r slots

  -- what the body gives in the iteration at a node
  pub record GivenBy (x : ℕ) (c : Contribution) : Type 0 where
    pub reduced : Reduced
    pub member : IsIn reduced RD
    pub reduce : reduced.reduce ≡ c.reduce
    pub number : reduced.number ≡ statement_of c
    pub slots : ToOne reduced c.slots
    -- it ends with the outermost loop where all properties do, but for what goes to locals of the outer body, if any does; and else it goes to the iteration's own node
    pub late : sp → list_any (is_late_slot loop.depth (λ p. true)) c.slots ≡ true
    pub own : list_any (is_late_slot loop.depth (λ p. true)) c.slots ≡ true → list_any (is_late_slot loop.depth pp) c.slots ≡ false → IsOwn x c.slots

  -- two that are given to one slot are by one word to the same slots
  pub one-given : all_one RD ≡ true → (x z : ℕ) (c d : Contribution) (slot : Slot) → GivenBy x c → GivenBy z d → has_slot slot c.slots ≡ true → has_slot slot d.slots ≡ true → (c.reduce ≡ d.reduce) × (c.slots ≡ d.slots)
  one-given one x z c d (Scalar y) o q h k =
      ⊎_elim
      (λ (f : c.slots ≡ map Scalar o.reduced.variables).
      ⊎_elim
      (λ (g : d.slots ≡ map Scalar q.reduced.variables).
      let same = one-any RD o.reduced q.reduced y one o.member q.member (scalar-member y o.reduced.variables (sym (ap (has_slot (Scalar y)) f) ∙ h)) (scalar-member y q.reduced.variables (sym (ap (has_slot (Scalar y)) g) ∙ k)) in
      (sym o.reduce ∙ same.reduce ∙ q.reduce, f ∙ ap (map Scalar) same.variables ∙ sym g))
      (λ (g : ToNodes q.reduced d.slots). never (sym (ap (has_slot (Scalar y)) g.are) ∙ k) (scalar-in y g.node q.reduced.variables))
      q.slots)
      (λ (f : ToNodes o.reduced c.slots). never (sym (ap (has_slot (Scalar y)) f.are) ∙ h) (scalar-in y f.node o.reduced.variables))
      o.slots
  one-given one x z c d (Node p l) o q h k =
      ⊎_elim
      (λ (f : c.slots ≡ map Scalar o.reduced.variables). never (sym (ap (has_slot (Node p l)) f) ∙ h) (node-in p l o.reduced.variables))
      (λ (f : ToNodes o.reduced c.slots).
      ⊎_elim
      (λ (g : d.slots ≡ map Scalar q.reduced.variables). never (sym (ap (has_slot (Node p l)) g) ∙ k) (node-in p l q.reduced.variables))
      (λ (g : ToNodes q.reduced d.slots).
      let a = node-member p l f.node o.reduced.variables (sym (ap (has_slot (Node p l)) f.are) ∙ h) in
      let b = node-member p l g.node q.reduced.variables (sym (ap (has_slot (Node p l)) g.are) ∙ k) in
      let same = one-any RD o.reduced q.reduced p one o.member q.member a.0 b.0 in
      (sym o.reduce ∙ same.reduce ∙ q.reduce, f.are ∙ ap (λ m. map (λ p. Node p m) o.reduced.variables) (sym a.1 ∙ b.1) ∙ ap (map (λ p. Node p g.node)) same.variables ∙ sym g.are))
      q.slots)
      o.slots

  once-same : (ts : List Target) → list_all (is_once loop.depth) ts ≡ are_at_once ds n true ts
  once-same [] = refl
  once-same (T.Scalar y at ∷ ts) = ap (λ d. is_deep d && list_all (is_once loop.depth) ts) (depths y) ∙ ap (λ b. b && list_all (is_once loop.depth) ts) (deep (depth_at ds y)) ∙ ap (λ b. nat_lt 1 (depth_at ds y) && b) (once-same ts)
    where
      deep : (d : ℕ) → is_deep d ≡ nat_lt 1 d
      deep zero = refl
      deep (suc zero) = refl
      deep (suc (suc d)) = sym (lt-ltb 1 (suc (suc d)) (omega arith))
  once-same (T.Property y p at ∷ ts) = refl

  -- scalars of which not all are done at once, and none is a local of the outer body, end with the outermost loop
  late-scalars : (q : ℕ → Bool) (node : ℕ → ℕ) (ts : List Target) → list_all is_scalar ts ≡ true → list_all (is_once loop.depth) ts ≡ false → list_all (λ t. not (is_outer_local ds t)) ts ≡ true → list_any (is_late_slot loop.depth q) (slots_at node ts) ≡ true
  late-scalars q node [] a o l = never refl o
  late-scalars q node (T.Property y p at ∷ ts) a o l = never refl (sym a)
  late-scalars q node (T.Scalar y at ∷ ts) a o l =
      let r = both-true _ _ l in by (loop.depth y) (ap (λ d. not (nat_eq d 1)) (depths y) ∙ r.0) (late-scalars q node ts a) o r.1
    where
      by : (d : ℕ) → not (nat_eq d 1) ≡ true → (list_all (is_once loop.depth) ts ≡ false → list_all (λ t. not (is_outer_local ds t)) ts ≡ true → list_any (is_late_slot loop.depth q) (slots_at node ts) ≡ true) →
          is_deep d && list_all (is_once loop.depth) ts ≡ false → list_all (λ t. not (is_outer_local ds t)) ts ≡ true → is_top d || list_any (is_late_slot loop.depth q) (slots_at node ts) ≡ true
      by zero e rest o l = refl
      by (suc zero) e rest o l = never refl (sym e)
      by (suc (suc d)) e rest o l = rest o l

  -- scalars end together, whichever properties are late
  scalars-late : (q r : ℕ → Bool) (node : ℕ → ℕ) (ts : List Target) → list_all is_scalar ts ≡ true → list_any (is_late_slot loop.depth q) (slots_at node ts) ≡ list_any (is_late_slot loop.depth r) (slots_at node ts)
  scalars-late q r node [] a = refl
  scalars-late q r node (T.Scalar y at ∷ ts) a = ap (λ b. is_top (loop.depth y) || b) (scalars-late q r node ts a)
  scalars-late q r node (T.Property y p at ∷ ts) a = never refl (sym a)

  at-home : (x k : ℕ) (vs : List ℕ) → k ≡ x → (slot : Slot) → has_slot slot (map (λ q. Node q k) vs) ≡ true → IsAt x slot
  at-home x k vs e (Scalar y) h = never h (scalar-in y k vs)
  at-home x k vs e (Node p l) h = (node-member p l k vs h).1 ∙ e

  or-false : (a b : Bool) → a || b ≡ false → a ≡ false
  or-false true b h = h
  or-false false b h = refl

  module _ (x : ℕ) where
    abbrev Never : Contribution → Type 0
    Never c = ⊥

    abbrev pub Free : Fault → Type 0
    Free f = Unit {0}

    abbrev May : Stmt → ℕ → Type 0
    May s e = MayDo Never (GivenBy x) Free n x [] s (Anywhere Never (GivenBy x) Free n x) (AtEdge e) (ends_late loop)

    abbrev Among : List Reduced → Type 0
    Among rs = (r : Reduced) → IsIn r rs → IsIn r RD

    abbrev Off : List ℕ → Type 0
    Off ys = (y : ℕ) → IsIn y ys → y ≢ n

    -- targets that are done at once are not the iterator
    once-slots : (node : ℕ → ℕ) (ts : List Target) → list_all (is_once loop.depth) ts ≡ true → Off (variables_of ts) → EachSlot (OffAnd Never (GivenBy x) Free n x (Anywhere Never (GivenBy x) Free n x)) (slots_at node ts)
    once-slots node [] h off = tt
    once-slots node (T.Scalar y at ∷ ts) h off = let r = both-true _ _ h in ((tt, nat_eq-apart y n (off y (inl refl))), once-slots node ts r.1 (λ z i. off z (inr i)))
    once-slots node (T.Property y p at ∷ ts) h off = never refl (sym h)

    given : (total : TotalKey) (r : Reduce) (ts : List Target) (node : ℕ → ℕ) (vs : List Value) → node n ≡ x → list_all (is_once loop.depth) ts ≡ false → are_alike ts ≡ true → (sp → list_all (λ t. not (is_outer_local ds t)) ts ≡ true) →
        list_all (is_in some) (elsewhere_of n ts) ≡ true → IsIn (reduced_by ds n total.key.statement r ts) RD → GivenBy x (contribution total r (slots_at node ts, vs))
    given total r [] node vs e o a l p i = never refl o
    given total r (T.Scalar y at ∷ ts) node vs e o a l p i =
        record {
          reduced = reduced_by ds n total.key.statement r (T.Scalar y at ∷ ts);
          member = i;
          reduce = refl;
          number = refl;
          slots = inl (scalars-at node (T.Scalar y at ∷ ts) a);
          late = λ u. late-scalars (λ p. true) node (T.Scalar y at ∷ ts) a o (l u);
          own = λ u h. never (sym (scalars-late (λ p. true) pp node (T.Scalar y at ∷ ts) a) ∙ u) h;
        }
    given total r (T.Property z q at ∷ ts) node vs e o a l p i =
        let through : list_all (is_through z) (T.Property z q at ∷ ts) ≡ true = ap (λ b. b && list_all (is_through z) ts) (eq-eqb z z refl) ∙ a in
        let are = nodes-at node z (T.Property z q at ∷ ts) through in
        record {
          reduced = reduced_by ds n total.key.statement r (T.Property z q at ∷ ts);
          member = i;
          reduce = refl;
          number = refl;
          slots = inr (record { node = node z; are = are });
          late = λ u. refl;
          own = λ u h. let home = by (nat_eq z n) refl (or-false (pp q) _ h) p in record {
            first = Node q (node z);
            has = has_first (Node q (node z)) (slots_at node ts);
            all = λ slot has. at-home x (node z) (variables_of (T.Property z q at ∷ ts)) home slot (sym (ap (has_slot slot) are) ∙ has);
          };
        }
      where
        by : (b : Bool) → nat_eq z n ≡ b → pp q ≡ false → list_all (is_in some) (cond b (elsewhere_of n ts) (q ∷ elsewhere_of n ts)) ≡ true → node z ≡ x
        by true is f ps = ap node (eqb-true z n is) ∙ e
        by false is f ps = let r = both-true _ _ ps in never (known q r.0) f

    may-reduce : (e : ℕ) (k : Key) (total : TotalKey) (r : Reduce) (ts : List Target) (es : List Expr) → AreFlat es → are_alike ts ≡ true → (sp → list_all (λ t. not (is_outer_local ds t)) ts ≡ true) → list_all (is_in some) (elsewhere_of n ts) ≡ true →
        Off (written_at_once ds n true ts) → Among (all_reduced_by ds n true total.key.statement r ts) →
        MayReduce Never (GivenBy x) Free n x [] (Anywhere Never (GivenBy x) Free n x) (ends_of_all (AtEdge e) (ends_late loop) ts) k total r ts es
    may-reduce e k total r ts es fl a l p off among =
        subst (λ f. MayReduce Never (GivenBy x) Free n x [] (Anywhere Never (GivenBy x) Free n x) f k total r ts es) (sym (late-ends loop n (λ p. true) pp e ts)) (by (list_all (is_once loop.depth) ts) refl)
      where
        by : (b : Bool) → list_all (is_once loop.depth) ts ≡ b → MayReduce Never (GivenBy x) Free n x [] (Anywhere Never (GivenBy x) Free n x) (ends_by b true) k total r ts es
        by true o =
            let at : are_at_once ds n true ts ≡ true = sym (once-same ts) ∙ o in
            ((λ node h. once-slots node ts o (λ y i. off y (subst (λ b. IsIn y (cond b (variables_of ts) [])) (sym at) i))), fl, λ f i. tt)
        by false o =
            let at : are_at_once ds n true ts ≡ false = sym (once-same ts) ∙ o in
            let i = among (reduced_by ds n total.key.statement r ts) (subst (λ b. IsIn (reduced_by ds n total.key.statement r ts) (cond b [] (reduced_by ds n total.key.statement r ts ∷ []))) (sym at) (inl refl)) in
            ((λ node h vs. given total r ts node vs h o a l p i), fl, λ f i. tt)

    -- what the body may do
    pub body-may : (s : Stmt) (e : ℕ) (its : List ℕ) → is_inner_body ds its true s ≡ true → Off (written ds n true s) → Among (reduced ds n true s) → list_all (is_in some) (pushed_properties n s) ≡ true → targets_alike s ≡ true → (sp → spares_locals ds s ≡ true) → May s e
    body-may Skip e its g off am p a l = tt
    body-may (Then s t) e its g off am p a l =
        let r = both-true _ _ g in
        let q = all-append (is_in some) (pushed_properties n s) (pushed_properties n t) p in
        let u = both-true (targets_alike s) (targets_alike t) a in
        let v = λ (u : sp). both-true (spares_locals ds s) (spares_locals ds t) (l u) in (
          body-may s e its r.0 (λ y i. off y (in-left y (written ds n true s) (written ds n true t) i)) (λ d i. am d (in-left d (reduced ds n true s) (reduced ds n true t) i)) q.0 u.0 (λ w. (v w).0),
          body-may t e its r.1 (λ y i. off y (in-right y (written ds n true s) (written ds n true t) i)) (λ d i. am d (in-right d (reduced ds n true s) (reduced ds n true t) i)) q.1 u.1 (λ w. (v w).1),
        )
    body-may (Declare k y None) e its g off am p a l = (tt, off y (inl refl), tt)
    body-may (Declare k y (Some v)) e its g off am p a l = let r = both-true _ _ g in (tt, off y (inl refl), (flat its true v r.1, λ f i. tt))
    body-may (DeclareEdge y z at) e its g off am p a l = tt
    body-may (Assign k (T.Scalar y at) v) e its g off am p a l = let r = both-true _ _ g in (tt, off y (inl refl), flat its true v r.1, λ f i. tt)
    body-may (Assign k (T.Property y q at) v) e its g off am p a l = absurd (both_ways false refl g)
    body-may (Defer k t v) e its g off am p a l = absurd (both_ways false refl g)
    body-may (Combine k total r ts es) e its g off am p a l =
        let q = both-true _ _ g in
        may-reduce e k total r ts es (all-flat its true es q.1) (both-true (are_alike ts) _ a).0 l p off am
    body-may (Group k at y q v) e its g off am p a l = absurd (both_ways false refl g)
    body-may (Foreach k at h test body) e its g off am p a l = absurd (both_ways false refl g)
    body-may (For k at h test body) e its g off am p a l = absurd (both_ways false refl g)
    body-may (If k c s t) e its g off am p a l =
        let r = both-true _ _ g in
        let z = both-true _ _ r.1 in
        let q = all-append (is_in some) (pushed_properties n s) (pushed_properties n t) p in
        let u = both-true (targets_alike s) (targets_alike t) a in
        let v = λ (u : sp). both-true (spares_locals ds s) (spares_locals ds t) (l u) in (
          (flat its true c r.0, λ f i. tt),
          body-may s e its z.0 (λ y i. off y (in-left y (written ds n true s) (written ds n true t) i)) (λ d i. am d (in-left d (reduced ds n true s) (reduced ds n true t) i)) q.0 u.0 (λ w. (v w).0),
          body-may t e its z.1 (λ y i. off y (in-right y (written ds n true s) (written ds n true t) i)) (λ d i. am d (in-right d (reduced ds n true s) (reduced ds n true t) i)) q.1 u.1 (λ w. (v w).1),
        )
    body-may (While k at c body) e its g off am p a l = absurd (both_ways false refl g)
    body-may (Do k at body c) e its g off am p a l = absurd (both_ways false refl g)
    body-may (InBfs k at h test body) e its g off am p a l = absurd (both_ways false refl g)
    body-may (InBfsBoth k at h test body back_key back_test back) e its g off am p a l = absurd (both_ways false refl g)
    body-may (Return k at v) e its g off am p a l = absurd (both_ways false refl g)
