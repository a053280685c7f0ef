-- What typing makes of the expressions of a text stands in order.
use Rattle.std.proofs.Common.{◌≡◌, ◌+◌, ◌<◌, ℕ, Bool, true, false, ◌∷◌, ◌++◌, refl, sym, ap, subst, ◌∙◌, arith}
use Rattle.std.specs.Prelude.{if◌then◌else◌, ◌&&◌, nat_eq}
use Rattle.std.proofs.lemmas.Bool.{false≢true, eqb-true, eq-eqb}
use Rattle.gm_base.specs.declared.places.Place.{Place}
use Rattle.gm_base.specs.declared.rules.Rule.TheVariants.{T8, T10}
use Rattle.gm_base.specs.Places.{place_eq}
use Rattle.gm_value.specs.Reductions.{reduces}
use Rattle.gm_value.specs.declared.values.VType.{VType}
use Rattle.gm_value.specs.declared.values.VType.TheVariants.{I32, I64, Flag}
use Rattle.gm_ast.specs.declared.tree.Head.{Head}
use Rattle.gm_ast.specs.declared.tree.Key.{Key}
use Rattle.gm_ast.specs.declared.tree.Stage.{Stage}
use Rattle.gm_ast.specs.declared.tree.Stage.TheVariants.{Operator, Total}
use Rattle.gm_ast.specs.declared.kinds.Kind.{Kind}
use Rattle.gm_ast.specs.declared.kinds.Kind.TheVariants as Kinds
use Rattle.gm_ast.specs.declared.kinds.Reducer.{Reducer}
use Rattle.gm_ast.specs.declared.surface.ReductionWord.{ReductionWord}
use Rattle.gm_ast.specs.declared.surface.ReductionWord.TheVariants.{Sum, Product, Min, Max, Count, Exist, All}
use Rattle.gm_ast.specs.Surface.{SurfaceHead, SurfaceExpr, Reduction}
use Rattle.gm_ast.specs.Program as P
use Rattle.gm_ast.specs.Program.{Expr}
use Rattle.gm_ast.specs.Judged.{ok_of}
use Rattle.gm_ast.specs.Names.{Env, both, iterated, inside, keyed, counted, later, declared_as, an_iterator}
use Rattle.gm_ast.specs.Kinds.{Part, part_of, narrowed, is_empty, settled, settled_as, is_number, is_flag}
use Rattle.gm_ast.specs.Typing.{typed, condition, start_of, ranged, fold_of, folded, of_numbers_as, of_conditions, reduction_part, reduction_rule, reducer_at, fold_numbers, head_with, is_sequential, inner_key, fold_key}
use Rattle.gm_ready.proofs.Judging.{IfPart, if-by, if-both, if-good}
use Rattle.gm_semantics.specs.Expressions.{reduce_of}
use Rattle.gm_forms.proofs.Named.{both-true}
use Rattle.gm_forms.specs.Order.{takes_conditions}
use Rattle.gm_order.specs.Places.{ascend, may_be_bare, is_absent, closing, right_behind, places_in}
use Rattle.gm_order.proofs.Parts.{anything}
use Rattle.gm_order.proofs.Befores.{inner, ascend-tail, ascend-left, ascend-right}
use Rattle.gm_order.proofs.Keeping.{KeptPart, Keeps, AbsentIsTrue, absent-core, if-and, settled-kept, condition-kept, typed-kept}
use Rattle.gm_order.proofs.OrderedExpressions.{InParallel, parallel-kept, folded-parallel, InSequence, sequence-kept, folded-sequence}

-- ---- a reduction by its word

-- where a reduction may be without braces, a type is that of its total
abbrev BareFits : ReductionWord → VType → Type 0
BareFits w t = may_be_bare w ≡ true → takes_conditions w && reduces (reduce_of w) t ≡ true

module _ (Q1 Q2 Q3 : Expr → Type 0) (r : Reducer) (head : Head) (fold : (t : VType) (c e : Expr) → BareFits r.word t → Q1 c → Q2 e → Q3 (P.Folded (fold_of r t) head c e)) (settle : (p : Part) → Q2 p.core → Q2 (settled p).core) where
  abbrev Is3 : Part → Type 0
  Is3 p = Q3 p.core

  numbers-kept : (k : Kind) (filter e : Expr) → may_be_bare r.word ≡ false → Q1 filter → Q2 e → IfPart Is3 (ok_of (of_numbers_as k r head filter e))
  numbers-kept (Kinds.Of t) filter e never f g = if-good Is3 (is_number (Kinds.Of t)) T8 r.place (folded r t head filter e) (λ _. fold t filter e (λ b. absurd (false≢true (sym never ∙ b))) f g)
  numbers-kept Kinds.Flexible filter e never f g = tt
  numbers-kept Kinds.Edge filter e never f g = tt

  conditions-kept : (start : Place) (t : VType) (filter : Expr) (p : Part) → BareFits r.word t → Q1 filter → Q2 p.core → IfPart Is3 (ok_of (of_conditions start t r head filter p))
  conditions-kept start t filter p fits f g = if-good Is3 (is_flag p.kind) T10 start (folded r t head filter p.core) (λ _. fold t filter p.core fits f g)

  reduction-kept : (word : ReductionWord) → word ≡ r.word → (start : Place) (filter : Expr) (p : Part) → Q1 filter → Q2 p.core → IfPart Is3 (ok_of (reduction_part word start r head filter p))
  reduction-kept Sum e start filter p f g = numbers-kept (settled p).kind filter (settled p).core (ap may_be_bare (sym e)) f (settle p g)
  reduction-kept Product e start filter p f g = numbers-kept (settled p).kind filter (settled p).core (ap may_be_bare (sym e)) f (settle p g)
  reduction-kept Min e start filter p f g = numbers-kept (settled p).kind filter (settled p).core (ap may_be_bare (sym e)) f (settle p g)
  reduction-kept Max e start filter p f g = numbers-kept (settled p).kind filter (settled p).core (ap may_be_bare (sym e)) f (settle p g)
  reduction-kept Count e start filter p f g = conditions-kept start I32 filter p (subst (λ w. BareFits w I32) e (λ _. refl)) f g
  reduction-kept Exist e start filter p f g = conditions-kept start Flag filter p (subst (λ w. BareFits w Flag) e (λ _. refl)) f g
  reduction-kept All e start filter p f g = conditions-kept start Flag filter p (subst (λ w. BareFits w Flag) e (λ b. absurd (false≢true b))) f g

-- True stays as it is where it is settled
settled-true : (k : Kind) (p : Part) → p.core ≡ P.always → (settled_as k p).core ≡ P.always
settled-true Kinds.Flexible p h = by (is_empty p.large)
  where
    by : (none : Bool) → (if none then part_of (Kinds.Of I32) (narrowed p.core) else part_of (Kinds.Of I64) p.core).core ≡ P.always
    by true = ap narrowed h
    by false = h
settled-true (Kinds.Of t) p h = h
settled-true Kinds.Edge p h = h

pub not-zero : (d : ℕ) → nat_eq (d + 1) 0 ≡ false
not-zero d = by (nat_eq (d + 1) 0) refl
  where
    by : (b : Bool) → nat_eq (d + 1) 0 ≡ b → b ≡ false
    by true e = absurd (let z : d + 1 ≡ 0 = eqb-true (d + 1) 0 e in omega (arith, z))
    by false e = refl

-- ---- parallel code

abbrev pub Parallel : ℕ → Key → ℕ → Type 0
Parallel n k d = (k.statement ≡ n) × (nat_eq d 0 ≡ false)

-- parallel code around a part
abbrev Around : ℕ → Env → Type 0
Around n env = Parallel n env.key env.depth

module _ (n : ℕ) where
  fold-parallel : (at : Place) (word : ReductionWord) (h : SurfaceHead) (filter body : SurfaceExpr) (close : Place) → ascend (places_in (Reduction at word h filter body close)) ≡ true
      → Keeps (InParallel n) (parallel-kept n) (Around n) filter → Keeps (InParallel n) (parallel-kept n) (Around n) body → Keeps (InParallel n) (parallel-kept n) (Around n) (Reduction at word h filter body close)
  fold-parallel at word h filter body close up kf kb env m =
      let Q = InParallel n in
      let kept = parallel-kept n in
      let ps = places_in filter in
      let qs = places_in body in
      let x = h.iterator.place in
      let o = h.owner.place in
      let ends = closing word body at close in
      let rest = right_behind o ∷ (ps ++ (qs ++ ends)) in
      let bare = (may_be_bare word && is_absent body) && place_eq at close in
      let r = reducer_at env at word close in
      let key : (k : ℕ) (s : Stage) → fold_key env k s ≡ inner n = λ k s. ap (λ b. if b then record { statement = env.number + k; stage = s } else inner_key env) m.1 ∙ ap inner m.0 in
      let test = keyed r.filter (condition (start_of filter) (typed filter)) in
      let braces = keyed r.body (typed body) in
      let inner' = both test braces in
      let owner = ranged h env in
      let env1 = later env owner in
      let env2 : Env = record env1 { number = env1.number + fold_numbers env } in
      let env3 = inside env2 h.iterator 1 in
      let a = test env3 in
      let Braces : Part → Type 0 = λ p. KeptPart Q kept qs p × AbsentIsTrue body p in
      let env4 : Env = record (later env3 a) { key = r.body } in
      if-by (λ xs. Unit {0} × (Unit {0} × (Q ps xs.1.1.0 × Braces xs.1.1.1))) (KeptPart Q kept (at ∷ (x ∷ (o ∷ rest)))) (both (ranged h) (counted (fold_numbers env) (iterated h.iterator 1 inner')) env).part (reduction_rule r (start_of body) h)
      (if-both (λ b. Unit {0}) (λ xs. Unit {0} × (Q ps xs.1.0 × Braces xs.1.1)) owner.part (counted (fold_numbers env) (iterated h.iterator 1 inner') env1).part (anything owner.part)
      (if-both (λ i. Unit {0}) (λ xs. Q ps xs.0 × Braces xs.1) (declared_as env2 h.iterator (an_iterator (env2.depth + 1))).part (inner' env3).part tt
      (if-both (Q ps) Braces a.part (braces (later env3 a)).part
      (condition-kept Q kept ps (start_of filter) (typed filter (record env3 { key = r.filter })) (kf (record env3 { key = r.filter }) (ap (λ (j : Key). j.statement) (key 0 Operator), not-zero env.depth)))
      (if-and (KeptPart Q kept qs) (AbsentIsTrue body) (braces (later env3 a)).part (kb env4 (ap (λ (j : Key). j.statement) (key 1 Operator), not-zero env.depth)) (absent-core body env4)))))
      (λ xs k. reduction-kept (Q ps) (λ e. Q qs e × (is_absent body ≡ true → e ≡ P.always)) (Q (at ∷ (x ∷ (o ∷ rest)))) r (head_with h xs.0 xs.1.0)
      (λ t c e fits hc he. folded-parallel n (fold_of r t) (head_with h xs.0 xs.1.0) c e ps qs x (key 0 Operator) (key 1 Operator) (key 1 Total) hc he.0 bare
      (λ b.
      let w = both-true (may_be_bare word && is_absent body) (place_eq at close) b in
      let v = both-true (may_be_bare word) (is_absent body) w.0 in
      (v.0, (fits v.0, he.1 v.1)))
      (ascend-tail x (o ∷ rest) (ascend-tail at (x ∷ (o ∷ rest)) up)))
      (λ p hp. (settled-kept Q kept qs p.kind p hp.0, λ b. settled-true p.kind p (hp.1 b))) word refl (start_of body) xs.1.1.0 xs.1.1.1 k.1.1.0 k.1.1.1)

  pub parallel-typed : (e : SurfaceExpr) → ascend (places_in e) ≡ true → Keeps (InParallel n) (parallel-kept n) (Around n) e
  parallel-typed e up = typed-kept (InParallel n) (parallel-kept n) (Around n) (λ A env x m. m) fold-parallel e up

-- ---- a sequential phase

abbrev pub Sequence : Env → Type 0
Sequence env = (0 < env.number) × (env.depth ≡ 0)

fold-sequence : (at : Place) (word : ReductionWord) (h : SurfaceHead) (filter body : SurfaceExpr) (close : Place) → ascend (places_in (Reduction at word h filter body close)) ≡ true
    → Keeps InSequence sequence-kept Sequence filter → Keeps InSequence sequence-kept Sequence body → Keeps InSequence sequence-kept Sequence (Reduction at word h filter body close)
fold-sequence at word h filter body close up kf kb env m =
    let ps = places_in filter in
    let qs = places_in body in
    let x = h.iterator.place in
    let o = h.owner.place in
    let ends = closing word body at close in
    let inner-rest = ps ++ (qs ++ ends) in
    let rest = right_behind o ∷ inner-rest in
    let bare = (may_be_bare word && is_absent body) && place_eq at close in
    let back : ascend inner-rest ≡ true = ascend-tail (right_behind o) inner-rest (ascend-tail o rest (ascend-tail x (o ∷ rest) (ascend-tail at (x ∷ (o ∷ rest)) up))) in
    let r = reducer_at env at word close in
    let n0 = env.number + 0 in
    let n1 = env.number + 1 in
    let Q1 = InParallel n0 ps in
    let Q2 = InParallel n1 qs in
    let sequential : is_sequential env ≡ true = eq-eqb env.depth 0 m.1 in
    let positive = m.0 in
    let key : (k : ℕ) (s : Stage) → fold_key env k s ≡ record { statement = env.number + k; stage = s } = λ k s. ap (λ b. if b then record { statement = env.number + k; stage = s } else inner_key env) sequential in
    let test = keyed r.filter (condition (start_of filter) (typed filter)) in
    let braces = keyed r.body (typed body) in
    let inner' = both test braces in
    let owner = ranged h env in
    let env1 = later env owner in
    let env2 : Env = record env1 { number = env1.number + fold_numbers env } in
    let env3 = inside env2 h.iterator 1 in
    let a = test env3 in
    if-by (λ xs. Unit {0} × (Unit {0} × (Q1 xs.1.1.0 × Q2 xs.1.1.1.core))) (KeptPart InSequence sequence-kept (at ∷ (x ∷ (o ∷ rest)))) (both (ranged h) (counted (fold_numbers env) (iterated h.iterator 1 inner')) env).part (reduction_rule r (start_of body) h)
    (if-both (λ b. Unit {0}) (λ xs. Unit {0} × (Q1 xs.1.0 × Q2 xs.1.1.core)) owner.part (counted (fold_numbers env) (iterated h.iterator 1 inner') env1).part (anything owner.part)
    (if-both (λ i. Unit {0}) (λ xs. Q1 xs.0 × Q2 xs.1.core) (declared_as env2 h.iterator (an_iterator (env2.depth + 1))).part (inner' env3).part tt
    (if-both Q1 (λ p. Q2 p.core) a.part (braces (later env3 a)).part
    (condition-kept (InParallel n0) (parallel-kept n0) ps (start_of filter) (typed filter (record env3 { key = r.filter })) (parallel-typed n0 filter (ascend-left ps (qs ++ ends) back) (record env3 { key = r.filter }) (ap (λ (j : Key). j.statement) (key 0 Operator), not-zero env.depth)))
    (parallel-typed n1 body (ascend-left qs ends (ascend-right ps (qs ++ ends) back)) (record (later env3 a) { key = r.body }) (ap (λ (j : Key). j.statement) (key 1 Operator), not-zero env.depth)))))
    (λ xs k. reduction-kept Q1 Q2 (InSequence (at ∷ (x ∷ (o ∷ rest)))) r (head_with h xs.0 xs.1.0)
    (λ t c e fits hc he. folded-sequence (fold_of r t) (head_with h xs.0 xs.1.0) c e ps qs (at ∷ (x ∷ (o ∷ rest))) n0 n1 (omega (arith, positive)) (omega arith) (key 0 Operator) (key 1 Operator) (key 1 Total) hc he bare
    (λ b. (both-true (may_be_bare word) (is_absent body) (both-true (may_be_bare word && is_absent body) (place_eq at close) b).0).0) back)
    (λ p hp. settled-kept (InParallel n1) (parallel-kept n1) qs p.kind p hp) word refl (start_of body) xs.1.1.0 xs.1.1.1 k.1.1.0 k.1.1.1)

pub sequence-typed : (e : SurfaceExpr) → ascend (places_in e) ≡ true → Keeps InSequence sequence-kept Sequence e
sequence-typed e up = typed-kept InSequence sequence-kept Sequence (λ A env x m. let p = m.0 in (omega (arith, p), m.1)) fold-sequence e up
