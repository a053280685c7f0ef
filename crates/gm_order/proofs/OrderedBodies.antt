-- Faults in the bodies of parallel loops of a text stand in order.
use Rattle.std.proofs.Common.{◌≡◌, ◌+◌, ◌<◌, ◌≤◌, ℕ, pos, Bool, true, false, List, [], ◌∷◌, ◌++◌, map, refl, sym, ap, subst, ◌∙◌, arith, Option, Some, None}
use Rattle.std.specs.Prelude.{nat_eq, nat_lt, not, is_none, Ok}
use Rattle.std.specs.Cmp.Derive.{both_true}
use Rattle.std.proofs.lemmas.Bool.{false≢true, lt-ltb, or_left}
use Rattle.gm_base.specs.declared.places.Place.{Place}
use Rattle.gm_base.specs.declared.rules.Rule.{Rule}
use Rattle.gm_base.specs.declared.rules.Rule.TheVariants.{T9, T11, T14}
use Rattle.gm_value.specs.declared.values.VType.{VType}
use Rattle.gm_value.specs.declared.values.VType.TheVariants.{I32, I64, Flag, Node}
use Rattle.gm_value.specs.declared.values.Value.{Value}
use Rattle.gm_value.specs.declared.values.Value.TheVariants as V
use Rattle.gm_value.specs.declared.reductions.Reduce.{Reduce}
use Rattle.gm_value.specs.declared.reductions.Reduce.TheVariants as R
use Rattle.gm_ast.specs.declared.tree.Head.{Head}
use Rattle.gm_ast.specs.declared.tree.Key.{Key}
use Rattle.gm_ast.specs.declared.tree.Sort.{Sort}
use Rattle.gm_ast.specs.declared.tree.Sort.TheVariants as Sorts
use Rattle.gm_ast.specs.declared.tree.Target.{Target}
use Rattle.gm_ast.specs.declared.tree.Target.TheVariants as T
use Rattle.gm_ast.specs.declared.kinds.Goal.{Goal}
use Rattle.gm_ast.specs.declared.kinds.Role.TheVariants.{Local}
use Rattle.gm_ast.specs.declared.surface.LoopWord.TheVariants as Loop
use Rattle.gm_ast.specs.Surface.{SurfaceName, SurfaceType, SurfaceTarget, SurfaceExpr, SurfaceStmt}
use Rattle.gm_ast.specs.Surface as S
use Rattle.gm_ast.specs.Program as P
use Rattle.gm_ast.specs.Program.{Expr, Stmt}
use Rattle.gm_ast.specs.Canonical as C
use Rattle.gm_ast.specs.Canonical.{Around, is_parallel, within, reads_broken, all_broken, option_broken, forms_broken, assignment_broken, parallel_only, not_inner, range_broken}
use Rattle.gm_ast.specs.Loops.{target_place}
use Rattle.gm_ast.specs.Judged.{Judged, judge, beside, noted, ok_of, refused_unless, then_answer}
use Rattle.gm_ast.specs.Keys.{Fault, fault_lt, total_fault}
use Rattle.gm_ast.specs.Names.{Env, known_as, both, iterated, inside, later, operators_of, numbered, declared_as, an_iterator}
use Rattle.gm_ast.specs.Kinds.{Part, fitted}
use Rattle.gm_ast.specs.Typing.{typed, start_of, ranged, head_with}
use Rattle.gm_ast.specs.Statements.{group_target, in_group, goal, fits_goal, reduces, first_wanted, total_at, fits_each, all_answers, combined, one_of, incremented, typed_all, goals_together, reduced, names_graph, grouped, assigned, deferred, assignment, returned, at_iterator, type_broken, sort_of, vtype_of, variable_of, declared_all, plain_declarations, declarations_as, edge_declared, edge_owner, declared_value, declared_typed, declared_with, following, loop_of, test, graph_searched, rooted, search_of, searched, checked}
use Rattle.gm_forms.proofs.Named.{both-true}
use Rattle.gm_ast.specs.Ways.{is_in}
use Rattle.gm_forms.specs.Order.{lie_before, rest_in, hoisted_in, hoists_in_order, faults_in, in_order, faults_in_all, hoisted_in_all, all_in_order, fault_of, fault_if, are_numbered, cannot_fail, target_faults, targets_faults, faults_of, leads, body_in_order, loop_in_order, begins, search_in_order}
use Rattle.gm_desugar.specs.Literals.{with_literals, each_expr_in}
use Rattle.gm_hoisting.specs.Totals.{as_sums, body_as_sums, hoists_follow, rest_in_all, values_in_order, values_stand}
use Rattle.gm_ready.proofs.Judging.{IfPart, if-by, if-both, if-good, if-then, append-empty}
use Rattle.gm_order.specs.Places.{ascend, places_of_each, places_in, places_of_target, place_of_option, places_of}
use Rattle.gm_order.proofs.Parts.{anything, if-with, if-judged}
use Rattle.gm_order.proofs.Befores.{Each, each-append, each-map, lie, nothing-before, inner, operators, KeyBefore, stage-before, statement-before, among-left, among-right, inside-across, At, wider, lie-keys, lie-places, ascend-tail, ascend-left, ascend-right}
use Rattle.gm_order.proofs.Keeping.{KeptPart, fitted-kept, condition-kept}
use Rattle.gm_order.proofs.ExpressionFaults.{sums-read, literals-read}
use Rattle.gm_order.proofs.OrderedExpressions.{Lies, LiesBoth, InParallel, parallel-kept}
use Rattle.gm_order.proofs.OrderedTyping.{not-zero, Parallel, parallel-typed}
use Rattle.gm_order.proofs.Shapes.{shaped}

-- ---- faults under the numbers of a statement

abbrev pub In : ℕ → ℕ → Fault → Type 0
In lo hi f = (lo ≤ f.key.statement) × (f.key.statement < hi)

under : (n hi : ℕ) (k : Key) (ps : List Place) (xs : List Fault) → k.statement ≡ n → n < hi → Each (At k ps) xs → Each (In n hi) xs
under n hi k ps xs e lt h = each-map (At k ps) (In n hi) xs (λ f a. let s : f.key.statement ≡ k.statement = ap (λ (j : Key). j.statement) a.0 in (omega (arith, e, s), omega (arith, e, s, lt))) h

wider-in : (lo hi a b : ℕ) (xs : List Fault) → a ≤ lo → hi ≤ b → Each (In lo hi) xs → Each (In a b) xs
wider-in lo hi a b xs l h each = each-map (In lo hi) (In a b) xs (λ f k. let k0 = k.0 in let k1 = k.1 in (omega (arith, l, k0), omega (arith, h, k1))) each

pub in-apart : (a b c d : ℕ) (xs ys : List Fault) → b ≤ c → Each (In a b) xs → Each (In c d) ys → lie_before xs ys ≡ true
in-apart a b c d xs ys le h g = lie (In a b) (In c d) xs ys h g (λ f e x y. let p = x.1 in let q = y.0 in statement-before f.key e.key (omega (arith, p, q, le)) f.place e.place)

pub numbered-in : (lo hi : ℕ) → 0 < lo → (xs : List Fault) → Each (In lo hi) xs → are_numbered xs ≡ true
numbered-in lo hi lt [] h = refl
numbered-in lo hi lt (f ∷ fs) h = let l = h.0.0 in both_true (lt-ltb 0 f.key.statement (omega (arith, lt, l))) (numbered-in lo hi lt fs h.1)

-- what stands in a statement that is seen as another: as itself, or with its reductions as sums
abbrev pub Seen : ℕ → ℕ → List ℕ → Stmt → Stmt → Type 0
Seen lo hi its s t = Each (In lo hi) (faults_of its t) × ((w : Around) → is_parallel w.loops ≡ true → forms_broken s w ≡ [] → body_in_order its t ≡ true)

-- as another, and this with its reductions as sums
abbrev pub SeenBoth : ℕ → ℕ → List ℕ → Stmt → Stmt → Type 0
SeenBoth lo hi its s t = Seen lo hi its s t × Seen lo hi its s (body_as_sums t) × (values_stand t ≡ true)

-- as itself, and with negative literals
abbrev pub literal : Stmt → Stmt
literal s = each_expr_in with_literals s

abbrev pub InBody : ℕ → ℕ → Stmt → Type 0
InBody lo hi s = (its : List ℕ) → SeenBoth lo hi its s s × SeenBoth lo hi its s (literal s)

wider-seen : (lo hi a b : ℕ) (its : List ℕ) (s t : Stmt) → a ≤ lo → hi ≤ b → Seen lo hi its s t → Seen a b its s t
wider-seen lo hi a b its s t l h k = (wider-in lo hi a b (faults_of its t) l h k.0, k.1)

wider-body : (lo hi a b : ℕ) (s : Stmt) → a ≤ lo → hi ≤ b → InBody lo hi s → InBody a b s
wider-body lo hi a b s l h k its = let x = k its in (both s x.0, both (literal s) x.1)
  where
    both : (t : Stmt) → SeenBoth lo hi its s t → SeenBoth a b its s t
    both t x = (wider-seen lo hi a b its s t l h x.0, wider-seen lo hi a b its s (body_as_sums t) l h x.1, x.2)

-- one expression reads no more than another
abbrev pub Sees : Expr → Expr → Type 0
Sees e d = (w : Around) → reads_broken e w ≡ [] → reads_broken d w ≡ []

pub sees-self : (e : Expr) → Sees e e
sees-self e w r = r

pub sees-sums : (e : Expr) → Sees e (as_sums e)
sees-sums e w r = sums-read e w ∙ r

pub sees-literals : (e : Expr) → Sees e (with_literals e)
sees-literals e w r = literals-read e w ∙ r

pub sees-both : (e d : Expr) → Sees e d → Sees e (as_sums d)
sees-both e d sees w r = sees-sums d w (sees w r)

AllSee : List Expr → List Expr → Type 0
AllSee es ds = (w : Around) → all_broken es w ≡ [] → all_broken ds w ≡ []

all-seen : (f : Expr → Expr) → ((e : Expr) → Sees e (f e)) → (es : List Expr) → AllSee es (map f es)
unfolding AllSee
all-seen f one [] w r = refl
all-seen f one (e ∷ es) w r =
    let s = append-empty (reads_broken e w) (all_broken es w) r in
    ap (λ xs. xs ++ all_broken (map f es) w) (one e w s.0) ∙ all-seen f one es w s.1

-- ---- an expression of a statement

module _ (n : ℕ) (k : Key) (key : k ≡ operators n) where
  pub inner-before : KeyBefore (inner n) k
  inner-before = subst (KeyBefore (inner n)) (sym key) (stage-before (inner n) (operators n) refl refl)

  pub statement : k.statement ≡ n
  statement = ap (λ (j : Key). j.statement) key

  pub expr-faults : (hi : ℕ) (ps : List Place) (e : Expr) → n < hi → Lies n ps e → Each (In n hi) (faults_in e k)
  expr-faults hi ps e lt h = each-append (In n hi) (hoisted_in e) (rest_in e k) (under n hi (inner n) ps (hoisted_in e) refl lt h.0) (under n hi k ps (rest_in e k) statement lt (h.1 k))

  pub expr-order : (ps : List Place) (e : Expr) → Lies n ps e → hoists_in_order e ≡ true → in_order e k ≡ true
  expr-order ps e h o = both_true o (lie-keys (inner n) k ps ps (hoisted_in e) (rest_in e k) inner-before h.0 (h.1 k))

  -- what is under the statement's key
  abbrev Under : Fault → Type 0
  Under f = f.key ≡ k

  target-under : (its : List ℕ) (t : Target) → Each Under (target_faults its t k)
  target-under its (T.Scalar x at) = tt
  target-under its (T.Property x p at) = by (is_in its x)
    where
      by : (b : Bool) → Each Under (fault_if (not b) k at)
      by true = tt
      by false = (refl, tt)

  targets-under : (its : List ℕ) (ts : List Target) → Each Under (targets_faults its ts k)
  targets-under its [] = tt
  targets-under its (t ∷ ts) = each-append Under (target_faults its t k) (targets_faults its ts k) (target-under its t) (targets-under its ts)

  under-in : (hi : ℕ) (xs : List Fault) → n < hi → Each Under xs → Each (In n hi) xs
  under-in hi xs lt h = each-map Under (In n hi) xs (λ f e. let s : f.key.statement ≡ n = ap (λ (j : Key). j.statement) e ∙ statement in (omega (arith, s), omega (arith, s, lt))) h

  hoisted-under : (ps : List Place) (xs ys : List Fault) → Each (At (inner n) ps) xs → Each Under ys → lie_before xs ys ≡ true
  hoisted-under ps xs ys h g = lie (At (inner n) ps) Under xs ys h g
      (λ a b x y. subst (λ i. fault_lt (record { key = i; place = a.place }) b ≡ true) (sym x.0) (subst (λ i. fault_lt (record { key = inner n; place = a.place }) (record { key = i; place = b.place }) ≡ true) (sym y) (inner-before a.place b.place)))

  targeted : (its : List ℕ) (hi : ℕ) (ps : List Place) (t : Target) (e : Expr) → n < hi → Lies n ps e → Each (In n hi) (target_faults its t k ++ faults_in e k)
  targeted its hi ps t e lt h = each-append (In n hi) (target_faults its t k) (faults_in e k) (under-in hi (target_faults its t k) lt (target-under its t)) (expr-faults hi ps e lt h)

  assign-seen : (its : List ℕ) (hi : ℕ) (ps : List Place) (t : Target) (e d : Expr) → n < hi → Lies n ps d → Sees e d → Seen n hi its (P.Assign k t e) (P.Assign k t d)
  assign-seen its hi ps t e d lt h sees = (
    targeted its hi ps t d lt h,
    λ w p r.
        let s = append-empty (assignment_broken w t) (reads_broken e w) r in
        both_true (expr-order ps d h (h.2 w p (sees w s.1))) (hoisted-under ps (hoisted_in d) (target_faults its t k) h.0 (target-under its t)),
  )

  assign-body : (hi : ℕ) (ps : List Place) (t : Target) (e : Expr) → n < hi → InParallel n ps e → InBody n hi (P.Assign k t e)
  assign-body hi ps t e lt h its = (both e h.0 (sees-self e), both (with_literals e) h.1 (sees-literals e))
    where
      both : (d : Expr) → LiesBoth n ps d → Sees e d → SeenBoth n hi its (P.Assign k t e) (P.Assign k t d)
      both d x sees = (assign-seen its hi ps t e d lt x.0 sees, assign-seen its hi ps t e (as_sums d) lt x.1 (sees-both e d sees), refl)

  defer-seen : (its : List ℕ) (hi : ℕ) (ps : List Place) (t : Target) (e d : Expr) → n < hi → Lies n ps d → Sees e d → Seen n hi its (P.Defer k t e) (P.Defer k t d)
  defer-seen its hi ps t e d lt h sees = (
    targeted its hi ps t d lt h,
    λ w p r.
        let s = append-empty (parallel_only w.loops (target_place t)) (not_inner w.loops (target_place t) ++ reads_broken e w) r in
        let u = append-empty (not_inner w.loops (target_place t)) (reads_broken e w) s.1 in
        both_true (expr-order ps d h (h.2 w p (sees w u.1))) (hoisted-under ps (hoisted_in d) (target_faults its t k) h.0 (target-under its t)),
  )

  defer-body : (hi : ℕ) (ps : List Place) (t : Target) (e : Expr) → n < hi → InParallel n ps e → InBody n hi (P.Defer k t e)
  defer-body hi ps t e lt h its = (both e h.0 (sees-self e), both (with_literals e) h.1 (sees-literals e))
    where
      both : (d : Expr) → LiesBoth n ps d → Sees e d → SeenBoth n hi its (P.Defer k t e) (P.Defer k t d)
      both d x sees = (defer-seen its hi ps t e d lt x.0 sees, defer-seen its hi ps t e (as_sums d) lt x.1 (sees-both e d sees), refl)

  declare-seen : (its : List ℕ) (hi : ℕ) (ps : List Place) (x : ℕ) (e d : Expr) → n < hi → Lies n ps d → Sees e d → Seen n hi its (P.Declare k x (Some e)) (P.Declare k x (Some d))
  declare-seen its hi ps x e d lt h sees = (expr-faults hi ps d lt h, λ w p r. expr-order ps d h (h.2 w p (sees w r)))

  declare-body : (hi : ℕ) (ps : List Place) (x : ℕ) (e : Expr) → n < hi → InParallel n ps e → InBody n hi (P.Declare k x (Some e))
  declare-body hi ps x e lt h its = (both e h.0 (sees-self e), both (with_literals e) h.1 (sees-literals e))
    where
      both : (d : Expr) → LiesBoth n ps d → Sees e d → SeenBoth n hi its (P.Declare k x (Some e)) (P.Declare k x (Some d))
      both d y sees = (declare-seen its hi ps x e d lt y.0 sees, declare-seen its hi ps x e (as_sums d) lt y.1 (sees-both e d sees), refl)

  -- ---- several expressions, at places one after another

  abbrev AllLie : List Place → List Expr → Type 0
  AllLie all [] = Unit {0}
  AllLie all (e ∷ es) = (qs : List Place) × ((rs : List Place) × ((all ≡ qs ++ rs) × (Lies n qs e × AllLie rs es)))

  abbrev AllIn : List Place → List Expr → Type 0
  AllIn all [] = Unit {0}
  AllIn all (e ∷ es) = (qs : List Place) × ((rs : List Place) × ((all ≡ qs ++ rs) × (InParallel n qs e × AllIn rs es)))

  -- each of them as another
  all-lie : (f : Expr → Expr) → ((qs : List Place) (e : Expr) → InParallel n qs e → Lies n qs (f e)) → (all : List Place) (es : List Expr) → AllIn all es → AllLie all (map f es)
  all-lie f one all [] h = tt
  all-lie f one all (e ∷ es) h = (h.0, (h.1.0, (h.1.1.0, (one h.0 e h.1.1.1.0, all-lie f one h.1.0 es h.1.1.1.1))))

  itself-lies : (all : List Place) (es : List Expr) → AllIn all es → AllLie all es
  itself-lies all [] h = tt
  itself-lies all (e ∷ es) h = (h.0, (h.1.0, (h.1.1.0, (h.1.1.1.0.0.0, itself-lies h.1.0 es h.1.1.1.1))))

  all-hoisted : (all : List Place) (es : List Expr) → AllLie all es → Each (At (inner n) all) (hoisted_in_all es)
  all-hoisted all [] h = tt
  all-hoisted all (e ∷ es) h =
      let qs = h.0 in
      let rs = h.1.0 in
      subst (λ ps. Each (At (inner n) ps) (hoisted_in e ++ hoisted_in_all es)) (sym h.1.1.0)
      (each-append (At (inner n) (qs ++ rs)) (hoisted_in e) (hoisted_in_all es) (wider (inner n) qs (qs ++ rs) (hoisted_in e) (λ p a. among-left qs rs p a) h.1.1.1.0.0)
      (wider (inner n) rs (qs ++ rs) (hoisted_in_all es) (λ p a. among-right qs rs p a) (all-hoisted rs es h.1.1.1.1)))

  all-rest : (all : List Place) (es : List Expr) → AllLie all es → Each Under (rest_in_all es k)
  all-rest all [] h = tt
  all-rest all (e ∷ es) h = each-append Under (rest_in e k) (rest_in_all es k) (each-map (At k h.0) Under (rest_in e k) (λ f a. a.0) (h.1.1.1.0.1 k)) (all-rest h.1.0 es h.1.1.1.1)

  all-follow : (all : List Place) (es : List Expr) → ascend all ≡ true → AllLie all es → hoists_follow es ≡ true
  all-follow all [] up h = refl
  all-follow all (e ∷ es) up h =
      let qs = h.0 in
      let rs = h.1.0 in
      let up' = subst (λ ps. ascend ps ≡ true) h.1.1.0 up in
      both_true (lie-places (inner n) qs rs (hoisted_in e) (hoisted_in_all es) (inside-across qs rs up') h.1.1.1.0.0 (all-hoisted rs es h.1.1.1.1)) (all-follow rs es (ascend-right qs rs up') h.1.1.1.1)

  all-values : (all : List Place) (es : List Expr) → ascend all ≡ true → AllLie all es → values_in_order es k ≡ true
  all-values all es up h = both_true (all-follow all es up h) (hoisted-under all (hoisted_in_all es) (rest_in_all es k) (all-hoisted all es h) (all-rest all es h))

  all-faults : (hi : ℕ) (all : List Place) (es : List Expr) → n < hi → AllLie all es → Each (In n hi) (faults_in_all es k)
  all-faults hi all [] lt h = tt
  all-faults hi all (e ∷ es) lt h = each-append (In n hi) (faults_in e k) (faults_in_all es k) (expr-faults hi h.0 e lt h.1.1.1.0) (all-faults hi h.1.0 es lt h.1.1.1.1)

  all-order : (all : List Place) (es : List Expr) → AllLie all es → (w : Around) → is_parallel w.loops ≡ true → all_broken es w ≡ [] → all_in_order es k ≡ true
  all-order all [] h w p r = refl
  all-order all (e ∷ es) h w p r =
      let s = append-empty (reads_broken e w) (all_broken es w) r in
      both_true (expr-order h.0 e h.1.1.1.0 (h.1.1.1.0.2 w p s.0)) (all-order h.1.0 es h.1.1.1.1 w p s.1)

  -- a fault of the statement that is not of an inner reduction
  abbrev Later : Fault → Type 0
  Later f = KeyBefore (inner n) f.key × (f.key.statement ≡ n)

  combine-seen : (its : List ℕ) (hi : ℕ) (at : Place) (op : Reduce) (ts : List Target) (all : List Place) (es ds : List Expr) → n < hi → AllLie all ds → ((w : Around) → all_broken es w ≡ [] → all_broken ds w ≡ [])
      → Seen n hi its (P.Combine k (total_at k at) op ts es) (P.Combine k (total_at k at) op ts ds)
  combine-seen its hi at op ts all es ds lt h sees =
      let total = total_at k at in
      let own : List Fault = record { key = k; place = total.place } ∷ (total_fault total ∷ []) in
      let own-later : Each Later own = ((inner-before, statement), ((stage-before (inner n) total.key (sym statement) refl, statement), tt)) in
      let ends : Each Later (targets_faults its ts k ++ own) = each-append Later (targets_faults its ts k) own (each-map Under Later (targets_faults its ts k) (λ f e. (subst (KeyBefore (inner n)) (sym e) inner-before, ap (λ (j : Key). j.statement) e ∙ statement)) (targets-under its ts)) own-later in (
        each-append (In n hi) (targets_faults its ts k) (faults_in_all ds k ++ own) (under-in hi (targets_faults its ts k) lt (targets-under its ts))
            (each-append (In n hi) (faults_in_all ds k) own (all-faults hi all ds lt h) (each-map Later (In n hi) own (λ f l. let s = l.1 in (omega (arith, s), omega (arith, s, lt))) own-later)),
        λ w p r. both_true (all-order all ds h w p (sees w r)) (lie (At (inner n) all) Later (hoisted_in_all ds) (targets_faults its ts k ++ own) (all-hoisted all ds h) ends
            (λ x y e l. subst (λ i. fault_lt (record { key = i; place = x.place }) y ≡ true) (sym e.0) (l.0 x.place y.place))),
      )

  combine-body : (hi : ℕ) (at : Place) (op : Reduce) (ts : List Target) (all : List Place) (es : List Expr) → n < hi → ascend all ≡ true → AllIn all es → InBody n hi (P.Combine k (total_at k at) op ts es)
  unfolding AllSee
  combine-body hi at op ts all es lt up h its = (
    (
      combine-seen its hi at op ts all es es lt (itself-lies all es h) (λ w r. r),
      combine-seen its hi at op ts all es (map as_sums es) lt sums (all-seen as_sums sees-sums es),
      all-values all (map as_sums es) up sums,
    ),
    (
      combine-seen its hi at op ts all es (map with_literals es) lt (all-lie with_literals (λ qs e x. x.1.0) all es h) (all-seen with_literals sees-literals es),
      combine-seen its hi at op ts all es (map as_sums (map with_literals es)) lt literals (λ w r. all-seen as_sums sees-sums (map with_literals es) w (all-seen with_literals sees-literals es w r)),
      all-values all (map as_sums (map with_literals es)) up literals,
    ),
  )
    where
      sums : AllLie all (map as_sums es)
      sums = all-lie as_sums (λ qs e x. x.0.1) all es h

      literals : AllLie all (map as_sums (map with_literals es))
      literals = twice all es h
        where
          twice : (all : List Place) (es : List Expr) → AllIn all es → AllLie all (map as_sums (map with_literals es))
          twice all [] h = tt
          twice all (e ∷ es) h = (h.0, (h.1.0, (h.1.1.0, (h.1.1.1.0.1.1, twice h.1.0 es h.1.1.1.1))))

-- ---- statements without expressions

plain-body : (lo hi : ℕ) (k : Key) (ns : List ℕ) → InBody lo hi (plain_declarations k ns)
plain-body lo hi k [] its = (((tt, λ w p r. refl), (tt, λ w p r. refl), refl), ((tt, λ w p r. refl), (tt, λ w p r. refl), refl))
plain-body lo hi k (m ∷ ns) its = let rest = plain-body lo hi k ns its in (both (plain_declarations k ns) rest.0, both (literal (plain_declarations k ns)) rest.1)
  where
    one : (t : Stmt) → Seen lo hi its (plain_declarations k ns) t → Seen lo hi its (plain_declarations k (m ∷ ns)) (P.Then (P.Declare k m None) t)
    one t x = (x.0, λ w p r. both_true (x.1 w p r) (nothing-before [] (faults_of its t) refl))

    both : (t : Stmt) → SeenBoth lo hi its (plain_declarations k ns) t → SeenBoth lo hi its (plain_declarations k (m ∷ ns)) (P.Then (P.Declare k m None) t)
    both t x = (one t x.0, one (body_as_sums t) x.1, x.2)

declarations-body : (lo hi : ℕ) (s : Sort) (k : Key) (xs : List SurfaceName) (ns : List ℕ) → IfPart (InBody lo hi) (ok_of (declarations_as s k xs ns))
declarations-body lo hi Sorts.Edge k xs ns = tt
declarations-body lo hi Sorts.Graph k xs ns = plain-body lo hi k ns
declarations-body lo hi Sorts.Iterator k xs ns = plain-body lo hi k ns
declarations-body lo hi Sorts.Scalar k xs ns = plain-body lo hi k ns
declarations-body lo hi Sorts.NodeProperty k xs ns = plain-body lo hi k ns
declarations-body lo hi Sorts.EdgeProperty k xs ns = plain-body lo hi k ns

-- ---- statements of statements

then-seen : (lo mid top hi : ℕ) (its : List ℕ) (a b s t : Stmt) → mid ≤ top → lo ≤ top → mid ≤ hi → Seen lo mid its a s → Seen top hi its b t → Seen lo hi its (P.Then a b) (P.Then s t)
then-seen lo mid top hi its a b s t le down up x y = (
  each-append (In lo hi) (faults_of its s) (faults_of its t) (wider-in lo mid lo hi (faults_of its s) (omega arith) up x.0) (wider-in top hi lo hi (faults_of its t) down (omega arith) y.0),
  λ w p r.
      let u = append-empty (forms_broken a w) (forms_broken b w) r in
      both_true (x.1 w p u.0) (both_true (y.1 w p u.1) (in-apart lo mid top hi (faults_of its s) (faults_of its t) le x.0 y.0)),
)

then-body : (lo mid top hi : ℕ) (a b : Stmt) → mid ≤ top → lo ≤ top → mid ≤ hi → InBody lo mid a → InBody top hi b → InBody lo hi (P.Then a b)
then-body lo mid top hi a b le down up x y its =
    let l = x its in
    let r = y its in
    (both a b l.0 r.0, both (literal a) (literal b) l.1 r.1)
  where
    both : (s t : Stmt) → SeenBoth lo mid its a s → SeenBoth top hi its b t → SeenBoth lo hi its (P.Then a b) (P.Then s t)
    both s t l r = (
      then-seen lo mid top hi its a b s t le down up l.0 r.0,
      then-seen lo mid top hi its a b (body_as_sums s) (body_as_sums t) le down up l.1 r.1,
      both_true l.2 r.2,
    )

pub loop-order : (its : List ℕ) (n : ℕ) (k : Key) → k ≡ operators n → (ps : List Place) (c d : Expr) (body t : Stmt) (lo hi : ℕ) → n < lo → Lies n ps d → Sees c d → Seen lo hi its body t → (v u : Around) → is_parallel v.loops ≡ true → is_parallel u.loops ≡ true
    → reads_broken c v ≡ [] → forms_broken body u ≡ [] → loop_in_order its k d t ≡ true
loop-order its n k key ps c d body t lo hi lt x sees y v u pv pu rc rb =
    both_true (expr-order n k key ps d x (x.2 v pv (sees v rc))) (both_true (y.1 u pu rb)
    (in-apart n (n + 1) lo hi (faults_in d k) (faults_of its t) (omega (arith, lt)) (expr-faults n k key (n + 1) ps d (omega arith) x) y.0))

module _ (its : List ℕ) (n : ℕ) (k : Key) (key : k ≡ operators n) (at : Place) (body : Stmt) (lo hi : ℕ) (lt : n < lo) (y : Each (In lo hi) (faults_of its body)) where
  start : Each (In n (n + 1)) (fault_of k at ∷ [])
  start = let e = statement n k key in ((omega (arith, e), omega (arith, e)), tt)

  pub leads-order : leads its k at body ≡ true
  leads-order = in-apart n (n + 1) lo hi (fault_of k at ∷ []) (faults_of its body) (omega (arith, lt)) start y

  pub begins-order : (ps : List Place) (c : Expr) → Lies n ps c → 0 < n → begins its k at c body ≡ true
  begins-order ps c x positive =
      let e = statement n k key in
      both_true leads-order (both_true (numbered-in n (n + 1 + hi) positive (hoisted_in c ++ faults_of its body)
      (each-append (In n (n + 1 + hi)) (hoisted_in c) (faults_of its body) (under n (n + 1 + hi) (inner n) ps (hoisted_in c) refl (omega arith) x.0) (wider-in lo hi n (n + 1 + hi) (faults_of its body) (omega (arith, lt)) (omega arith) y)))
      (or_left (nat_lt 0 k.statement) (cannot_fail c) (lt-ltb 0 k.statement (omega (arith, e, positive)))))

  pub search-order : (ps : List Place) (c : Expr) → Lies n ps c → 0 < n → loop_in_order its k c body ≡ true → search_in_order its k at c body ≡ true
  search-order ps c x positive h = both_true (numbered-in n (n + 1) positive (fault_of k at ∷ []) start) (both_true (begins-order ps c x positive) h)

module _ (n : ℕ) (k : Key) (key : k ≡ operators n) (ps : List Place) (lo mid top hi : ℕ) (lt : n < lo) (le : mid ≤ top) (down : lo ≤ top) (up : mid ≤ hi) (high : n < hi) where
  if-seen : (its : List ℕ) (c d : Expr) (a b s t : Stmt) → Lies n ps d → Sees c d → Seen lo mid its a s → Seen top hi its b t → Seen n hi its (P.If k c a b) (P.If k d s t)
  if-seen its c d a b s t x sees y z =
      let branches : Each (In lo hi) (faults_of its s ++ faults_of its t) = each-append (In lo hi) (faults_of its s) (faults_of its t) (wider-in lo mid lo hi (faults_of its s) (omega arith) up y.0) (wider-in top hi lo hi (faults_of its t) down (omega arith) z.0) in (
        each-append (In n hi) (faults_in d k) (faults_of its s ++ faults_of its t) (expr-faults n k key hi ps d high x) (wider-in lo hi n hi (faults_of its s ++ faults_of its t) (omega (arith, lt)) (omega arith) branches),
        λ w p r.
            let e = append-empty (reads_broken c w) (forms_broken a w ++ forms_broken b w) r in
            let u = append-empty (forms_broken a w) (forms_broken b w) e.1 in
            both_true (expr-order n k key ps d x (x.2 w p (sees w e.0))) (both_true (y.1 w p u.0) (both_true (z.1 w p u.1) (both_true
            (in-apart n (n + 1) lo hi (faults_in d k) (faults_of its s ++ faults_of its t) (omega (arith, lt)) (expr-faults n k key (n + 1) ps d (omega arith) x) branches)
            (in-apart lo mid top hi (faults_of its s) (faults_of its t) le y.0 z.0)))),
      )

  if-body : (c : Expr) (a b : Stmt) → InParallel n ps c → InBody lo mid a → InBody top hi b → InBody n hi (P.If k c a b)
  if-body c a b x y z its =
      let l = y its in
      let r = z its in
      (both c a b x.0 (sees-self c) l.0 r.0, both (with_literals c) (literal a) (literal b) x.1 (sees-literals c) l.1 r.1)
    where
      both : (d : Expr) (s t : Stmt) → LiesBoth n ps d → Sees c d → SeenBoth lo mid its a s → SeenBoth top hi its b t → SeenBoth n hi its (P.If k c a b) (P.If k d s t)
      both d s t x sees l r = (
        if-seen its c d a b s t x.0 sees l.0 r.0,
        if-seen its c (as_sums d) a b (body_as_sums s) (body_as_sums t) x.1 (sees-both c d sees) l.1 r.1,
        both_true l.2 r.2,
      )

parallel-within : (ls : List C.Loop) (l : C.Loop) → is_parallel (ls ++ (l ∷ [])) ≡ true
parallel-within [] l = refl
parallel-within (m ∷ ls) l = refl

-- an inner loop has no reductions: it is seen as itself
foreach-body : (n : ℕ) (k : Key) → k ≡ operators n → (at : Place) (h : Head) (ps : List Place) (c : Expr) (body : Stmt) (lo hi : ℕ) → n < lo → n < hi → InParallel n ps c → InBody lo hi body → InBody n hi (P.Foreach k at h c body)
foreach-body n k key at h ps c body lo hi lt high x y its =
    let z = y (h.iterator ∷ its) in
    let plain = seen c body x.0.0 (sees-self c) z.0.0 in
    let literals = seen (with_literals c) (literal body) x.1.0 (sees-literals c) z.1.0 in
    ((plain, plain, refl), (literals, literals, refl))
  where
    seen : (d : Expr) (t : Stmt) → Lies n ps d → Sees c d → Seen lo hi (h.iterator ∷ its) body t → Seen n hi its (P.Foreach k at h c body) (P.Foreach k at h d t)
    seen d t x sees y = (
      (let e = statement n k key in (omega (arith, e), omega (arith, e, high)), each-append (In n hi) (faults_in d k) (faults_of (h.iterator ∷ its) t) (expr-faults n k key hi ps d high x) (wider-in lo hi n hi (faults_of (h.iterator ∷ its) t) (omega (arith, lt)) (omega arith) y.0)),
      λ w p r.
          let v = within w C.Body h.iterator in
          let here = parallel-within w.loops (record { code = C.Body; iterator = h.iterator }) in
          let s = append-empty (not_inner w.loops at) (range_broken w.loops h ++ (reads_broken c v ++ (forms_broken body v ++ C.ways_broken w.loops h c body))) r in
          let u = append-empty (range_broken w.loops h) (reads_broken c v ++ (forms_broken body v ++ C.ways_broken w.loops h c body)) s.1 in
          let q = append-empty (reads_broken c v) (forms_broken body v ++ C.ways_broken w.loops h c body) u.1 in
          let e = append-empty (forms_broken body v) (C.ways_broken w.loops h c body) q.1 in
          both_true (leads-order (h.iterator ∷ its) n k key h.place t lo hi lt y.0) (loop-order (h.iterator ∷ its) n k key ps c d body t lo hi lt x sees y v v here here q.0 e.0),
    )

-- ---- what typing makes of statements

-- a statement with a number, in parallel code
abbrev pub Stands : ℕ → Env → Type 0
Stands n env = (env.key ≡ operators n) × (n < env.number) × (nat_eq env.depth 0 ≡ false)

mode : (n : ℕ) (env : Env) → Stands n env → Parallel n env.key env.depth
mode n env st = (ap (λ (j : Key). j.statement) st.0, st.2)

pub test-kept : (n : ℕ) (e : SurfaceExpr) → ascend (places_in e) ≡ true → (env : Env) → Parallel n env.key env.depth → IfPart (InParallel n (places_in e)) (test e env).part
test-kept n e up env m = condition-kept (InParallel n) (parallel-kept n) (places_in e) (start_of e) (typed e env) (parallel-typed n e up env m)

fits-goal : (n : ℕ) (ps : List Place) (w : Option VType) (rule : Rule) (at : Place) (p : Part) → InParallel n ps p.core → IfPart (InParallel n ps) (ok_of (fits_goal w rule at p))
fits-goal n ps None rule at p h = tt
fits-goal n ps (Some t) rule at p h = fitted-kept (InParallel n) (parallel-kept n) ps t rule at p h

-- the numbers that a statement may use: of the rest of a block those that follow
abbrev low : Bool → ℕ → Env → ℕ
low true n env = env.number
low false n env = n

module _ (n : ℕ) (env : Env) (st : Stands n env) (hi : ℕ) (lt : n < hi) (e : SurfaceExpr) (up : ascend (places_in e) ≡ true) where
  abbrev Part-kept : Part → Type 0
  Part-kept p = InParallel n (places_in e) p.core

  beside-kept : {A : Type 0} (o : Judged A) → IfPart (λ p. Unit {0} × Part-kept p.1) (beside o (typed e (later env o))).part
  beside-kept o = if-both (λ a. Unit {0}) Part-kept o.part (typed e (later env o)).part (anything o.part) (parallel-typed n e up (later env o) (mode n env st))

  assigned-body : (t : SurfaceTarget) (at : Place) → IfPart (InBody n hi) (assigned t at e env).part
  assigned-body t at =
      if-by (λ p. Unit {0} × Part-kept p.1) (InBody n hi) (both (goal false t) (typed e) env).part (λ p. then_answer (fits_goal p.0.wanted T9 at p.1) (P.Assign env.key p.0.target)) (beside-kept (goal false t env))
      (λ p k. if-then (InParallel n (places_in e)) (InBody n hi) (fits_goal p.0.wanted T9 at p.1) (P.Assign env.key p.0.target) (fits-goal n (places_in e) p.0.wanted T9 at p.1 k.1)
      (λ a m. assign-body n env.key st.0 hi (places_in e) p.0.target a lt m))

  deferred-body : (t : SurfaceTarget) (at : Place) → IfPart (InBody n hi) (deferred t at e env).part
  deferred-body t at =
      if-by (λ p. Unit {0} × Part-kept p.1) (InBody n hi) (both (goal true t) (typed e) env).part (λ p. then_answer (fits_goal p.0.wanted T9 at p.1) (P.Defer env.key p.0.target)) (beside-kept (goal true t env))
      (λ p k. if-then (InParallel n (places_in e)) (InBody n hi) (fits_goal p.0.wanted T9 at p.1) (P.Defer env.key p.0.target) (fits-goal n (places_in e) p.0.wanted T9 at p.1 k.1)
      (λ a m. defer-body n env.key st.0 hi (places_in e) p.0.target a lt m))

  -- a group assignment does not stand in parallel code
  grouped-body : (x p : SurfaceName) (at : Place) → IfPart (InBody n hi) (grouped x p at e env).part
  grouped-body x p at =
      let parts = both (group_target x p) (in_group (typed e)) env in
      if-by (λ ps. Unit {0}) (InBody n hi) parts.part (λ ps. then_answer (fitted ps.0.1.1 T9 at ps.1) (P.Group env.key x.place ps.0.0 ps.0.1.0)) (anything parts.part)
      (λ ps _. if-then (λ a. Unit {0}) (InBody n hi) (fitted ps.0.1.1 T9 at ps.1) (P.Group env.key x.place ps.0.0 ps.0.1.0) (anything (ok_of (fitted ps.0.1.1 T9 at ps.1))) (λ a _. (λ its. (((tt, λ w q r. refl), (tt, λ w q r. refl), refl), ((tt, λ w q r. refl), (tt, λ w q r. refl), refl)))))

  assignment-body : (o : Option SurfaceName) (t : SurfaceTarget) (at : Place) → IfPart (InBody n hi) (assignment o t at e env).part
  assignment-body None t at = assigned-body t at
  assignment-body (Some p) t at = if-judged (InBody n hi) (names_graph (known_as env.known t.owner.text)) (grouped t.owner p at e env) (assigned t at e env) (grouped-body t.owner p at) (assigned-body t at)

  value-body : (s : Sort) (x : SurfaceName) (at : Place) (t : VType) (p : ℕ × Part) → Part-kept p.1 → IfPart (InBody n hi) (ok_of (declared_value env.key x at t s p))
  value-body Sorts.Scalar x at t p k = if-then (InParallel n (places_in e)) (InBody n hi) (fitted t T9 at p.1) (λ a. P.Declare env.key p.0 (Some a)) (fitted-kept (InParallel n) (parallel-kept n) (places_in e) t T9 at p.1 k)
      (λ a m. declare-body n env.key st.0 hi (places_in e) p.0 a lt m)
  value-body Sorts.Edge x at t p k = tt
  value-body Sorts.Graph x at t p k = tt
  value-body Sorts.Iterator x at t p k = tt
  value-body Sorts.NodeProperty x at t p k = tt
  value-body Sorts.EdgeProperty x at t p k = tt

  with-body : (o : Option SurfaceName) (t : SurfaceType) (x : SurfaceName) (at : Place) → IfPart (InBody n hi) (declared_with o t x at e env).part
  with-body (Some y) t x at =
      let parts = both (declared_typed t x) (edge_owner y) env in
      if-by (λ p. Unit {0}) (InBody n hi) parts.part (λ p. Ok (P.DeclareEdge p.0 p.1.index y.place)) (anything parts.part) (λ p _. (λ its. (((tt, λ w q r. refl), (tt, λ w q r. refl), refl), ((tt, λ w q r. refl), (tt, λ w q r. refl), refl))))
  with-body None t x at =
      if-by (λ p. Unit {0} × Part-kept p.1) (InBody n hi) (both (declared_typed t x) (typed e) env).part (declared_value env.key x at (vtype_of t) (sort_of t))
      (beside-kept (declared_typed t x env)) (λ p k. value-body (sort_of t) x at (vtype_of t) p k.1)

-- ---- reductions

abbrev AllParts : ℕ → List Place → List Part → Type 0
AllParts n all [] = Unit {0}
AllParts n all (p ∷ ps) = (qs : List Place) × ((rs : List Place) × ((all ≡ qs ++ rs) × (InParallel n qs p.core × AllParts n rs ps)))

all-kept : (n : ℕ) (es : List SurfaceExpr) → ascend (places_of_each places_in es) ≡ true → (env : Env) → Parallel n env.key env.depth → IfPart (AllParts n (places_of_each places_in es)) (typed_all es env).part
all-kept n [] up env m = tt
all-kept n (e ∷ es) up env m =
    let ps = places_in e in
    let qs = places_of_each places_in es in
    let p = typed e env in
    let rest = typed_all es (later env p) in
    if-by (λ q. InParallel n ps q.0.core × AllParts n qs q.1) (AllParts n (ps ++ qs)) (beside p rest).part (λ q. Ok (q.0 ∷ q.1))
    (if-both (KeptPart (InParallel n) (parallel-kept n) ps) (AllParts n qs) p.part rest.part (parallel-typed n e (ascend-left ps qs up) env m) (all-kept n es (ascend-right ps qs up) (later env p) m))
    (λ q k. (ps, (qs, (refl, (k.0, k.1)))))

fits-all : (n : ℕ) (k : Key) (key : k ≡ operators n) (at : Place) (all : List Place) (gs : List Goal) (ps : List Part) → AllParts n all ps → IfPart (AllIn n k key all) (ok_of (all_answers (fits_each at gs ps)))
fits-all n k key at all [] [] h = tt
fits-all n k key at all [] (p ∷ ps) h = tt
fits-all n k key at all (g ∷ gs) [] h = tt
fits-all n k key at all (g ∷ gs) (p ∷ ps) h =
    if-with (InParallel n h.0) (AllIn n k key h.1.0) (AllIn n k key all) (λ x xs. x ∷ xs) (fits_goal g.wanted T9 at p) (all_answers (fits_each at gs ps))
    (fits-goal n h.0 g.wanted T9 at p h.1.1.1.0) (fits-all n k key at h.1.0 gs ps h.1.1.1.1) (λ a rest m s. (h.0, (h.1.0, (h.1.1.0, (m, s)))))

reduced-body : (n : ℕ) (env : Env) (st : Stands n env) (hi : ℕ) → n < hi → (ts : List SurfaceTarget) (r : Reduce) (at : Place) (es : List SurfaceExpr) → ascend (places_of_each places_in es) ≡ true → IfPart (InBody n hi) (reduced ts r at es env).part
reduced-body n env st hi lt ts r at es up =
    let together = goals_together ts env in
    let values = typed_all es (later env together) in
    let all = places_of_each places_in es in
    if-by (λ ps. Unit {0} × AllParts n all ps.1) (InBody n hi) (both (goals_together ts) (typed_all es) env).part (combined env.key at r)
    (if-both (λ g. Unit {0}) (AllParts n all) together.part values.part (anything together.part) (all-kept n es up (later env together) (mode n env st)))
    (λ ps k. if-with (λ u. Unit {0}) (AllIn n env.key st.0 all) (InBody n hi) (λ u xs. P.Combine env.key (total_at env.key at) r (map (λ g. g.target) ps.0) xs)
    (refused_unless (reduces r (first_wanted ps.0)) T11 at (tt {0})) (all_answers (fits_each at ps.0 ps.1))
    (anything (ok_of (refused_unless (reduces r (first_wanted ps.0)) T11 at (tt {0})))) (fits-all n env.key st.0 at all ps.0 ps.1 k.1)
    (λ u xs _ m. combine-body n env.key st.0 hi at r (map (λ g. g.target) ps.0) all xs lt up m))

one-in : (n : ℕ) (k : Key) (key : k ≡ operators n) (v : Value) → AllIn n k key [] (P.Const v ∷ [])
one-in n k key v = ([], ([], (refl, ((parallel-kept n).constant [] v, tt))))

incremented-body : (n : ℕ) (k : Key) (key : k ≡ operators n) (hi : ℕ) → n < hi → (at : Place) (g : Goal) (w : Option VType) → IfPart (InBody n hi) (ok_of (then_answer (one_of w at) (λ e. P.Combine k (total_at k at) R.Sum (g.target ∷ []) (e ∷ []))))
incremented-body n k key hi lt at g None = tt
incremented-body n k key hi lt at g (Some I32) = combine-body n k key hi at R.Sum (g.target ∷ []) [] (P.Const (V.I32 (pos 1)) ∷ []) lt refl (one-in n k key (V.I32 (pos 1)))
incremented-body n k key hi lt at g (Some I64) = combine-body n k key hi at R.Sum (g.target ∷ []) [] (P.Const (V.I64 (pos 1)) ∷ []) lt refl (one-in n k key (V.I64 (pos 1)))
incremented-body n k key hi lt at g (Some Flag) = tt
incremented-body n k key hi lt at g (Some Node) = tt

pub beside-iterator : (Q : Stmt → Type 0) (part : Env → Judged Stmt) (x : Option SurfaceName) (env : Env) → IfPart Q (part env).part → IfPart Q (judge (both part (at_iterator x) env) (λ p. Ok p.0)).part
beside-iterator Q part x env h =
    let i = at_iterator x (later env (part env)) in
    if-by (λ p. Q p.0 × Unit {0}) Q (both part (at_iterator x) env).part (λ p. Ok p.0) (if-both Q (λ n. Unit {0}) (part env).part i.part h (anything i.part)) (λ p k. k.0)

abbrev pub numbered_env : Env → Env
numbered_env env = record env { number = env.number + 1; key = operators_of env.number }

numbered-stands : (env : Env) → nat_eq env.depth 0 ≡ false → Stands env.number (numbered_env env)
numbered-stands env d = (refl, omega arith, d)

pub body-ordered : (rest : Bool) (s : SurfaceStmt) → ascend (places_of s) ≡ true → shaped rest s ≡ true → (n : ℕ) (env : Env) → Stands n env → IfPart (InBody (low rest n env) (env.number + (checked s env).numbers)) (checked s env).part
body-ordered rest S.Skip up sh n env st = λ its. (((tt, λ w q r. refl), (tt, λ w q r. refl), refl), ((tt, λ w q r. refl), (tt, λ w q r. refl), refl))
body-ordered rest (S.Then a b) up sh n env st =
    let ps = places_of a in
    let qs = places_of b in
    let h = both-true (shaped false a) (shaped true b) sh in
    let x = numbered (checked a) env in
    let env2 = following a env x in
    let y = checked b env2 in
    let hi = env.number + (x.numbers + y.numbers) in
    let l = st.1 in
    if-by (λ p. InBody env.number (env.number + x.numbers) p.0 × InBody env2.number (env2.number + y.numbers) p.1) (InBody (low rest n env) hi) (beside x y).part (λ p. Ok (P.Then p.0 p.1))
    (if-both (InBody env.number (env.number + x.numbers)) (InBody env2.number (env2.number + y.numbers)) x.part y.part
    (raised (env.number) (env.number + 1 + (checked a (numbered_env env)).numbers) (env.number + x.numbers) (omega arith) x.part (body-ordered false a (ascend-left ps qs up) h.0 env.number (numbered_env env) (numbered-stands env st.2)))
    (after (env2.number + y.numbers) y.part (body-ordered true b (ascend-right ps qs up) h.1 n env2 (st.0, omega (arith, l), st.2))))
    (λ p k. lowered rest hi (P.Then p.0 p.1) (then-body env.number (env.number + x.numbers) env2.number hi p.0 p.1 (omega arith) (omega arith) (omega arith) k.0 (wider-body env2.number (env2.number + y.numbers) env2.number hi p.1 (omega arith) (omega arith) k.1)))
  where
    raised : (lo hi up : ℕ) → hi ≤ up → (o : Option Stmt) → IfPart (InBody lo hi) o → IfPart (InBody lo up) o
    raised lo hi up le None h = tt
    raised lo hi up le (Some s) h = wider-body lo hi lo up s (omega arith) le h

    after : (hi : ℕ) (o : Option Stmt) → IfPart (InBody (env.number + (numbered (checked a) env).numbers) hi) o → IfPart (InBody (env.number + (numbered (checked a) env).numbers) hi) o
    after hi o h = h

    lowered : (rest : Bool) (hi : ℕ) (s : Stmt) → InBody env.number hi s → InBody (low rest n env) hi s
    lowered true hi s h = h
    lowered false hi s h = let l = st.1 in wider-body env.number hi n hi s (omega (arith, l)) (omega arith) h
body-ordered true _ up sh n env st = absurd (false≢true sh)
body-ordered false (S.Declare t xs) up sh n env st =
    let parts = beside (noted (tt {0}) (type_broken t Local env)) (declared_all (variable_of t env.depth) xs env) in
    let hi = env.number + parts.numbers in
    if-by (λ p. Unit {0}) (InBody n hi) parts.part (λ p. declarations_as (sort_of t) env.key xs p.1) (anything parts.part) (λ p _. declarations-body n hi (sort_of t) env.key xs p.1)
body-ordered false (S.DeclareAs t x at e) up sh n env st =
    let l = st.1 in
    with-body n env st (env.number + (checked (S.DeclareAs t x at e) env).numbers) (omega (arith, l)) e (ascend-tail at (places_in e) (ascend-tail x.place (at ∷ places_in e) up)) (edge_declared t e) t x at
body-ordered false (S.Assign t at e) up sh n env st =
    let l = st.1 in
    assignment-body n env st (env.number + (checked (S.Assign t at e) env).numbers) (omega (arith, l)) e (ascend-tail at (places_in e) (ascend-right (places_of_target t) (at ∷ places_in e) up)) t.property t at
body-ordered false (S.Defer t at e iterator) up sh n env st =
    let l = st.1 in
    let hi = env.number + (checked (S.Defer t at e iterator) env).numbers in
    let back = places_in e ++ place_of_option iterator in
    beside-iterator (InBody n hi) (deferred t at e) iterator env (deferred-body n env st hi (omega (arith, l)) e (ascend-left (places_in e) (place_of_option iterator) (ascend-tail at back (ascend-right (places_of_target t) (at ∷ back) up))) t at)
body-ordered false (S.Combine ts r at es iterator) up sh n env st =
    let l = st.1 in
    let hi = env.number + (checked (S.Combine ts r at es iterator) env).numbers in
    let back = places_of_each places_in es ++ place_of_option iterator in
    beside-iterator (InBody n hi) (reduced ts r at es) iterator env (reduced-body n env st hi (omega (arith, l)) ts r at es (ascend-left (places_of_each places_in es) (place_of_option iterator) (ascend-tail at back (ascend-right (places_of_each places_of_target ts) (at ∷ back) up))))
body-ordered false (S.Increment t at) up sh n env st =
    let l = st.1 in
    let hi = env.number + (checked (S.Increment t at) env).numbers in
    if-by (λ g. Unit {0}) (InBody n hi) (goal false t env).part (incremented env.key at) (anything (goal false t env).part) (λ g _. incremented-body n env.key st.0 hi (omega (arith, l)) at g g.wanted)
body-ordered false (S.Call r f es xs) up sh n env st = tt
body-ordered false (S.Loop at Loop.For head filter body) up sh n env st =
    let parts = both (ranged head) (iterated head.iterator 0 (both (test filter) (numbered (checked body)))) env in
    if-by (λ p. Unit {0}) (InBody n (env.number + parts.numbers)) parts.part (λ p. Ok (loop_of Loop.For env.key at (head_with head p.0 p.1.0) p.1.1.0 p.1.1.1)) (anything parts.part) (λ p _. (λ its. (((tt, λ w q r. refl), (tt, λ w q r. refl), refl), ((tt, λ w q r. refl), (tt, λ w q r. refl), refl))))
body-ordered false (S.Loop at Loop.Foreach head filter body) up sh n env st =
    let l = st.1 in
    let ps = places_in filter in
    let qs = places_of body in
    let back = ascend-tail head.owner.place (ps ++ qs) (ascend-tail head.iterator.place (head.owner.place ∷ (ps ++ qs)) (ascend-tail at (head.iterator.place ∷ (head.owner.place ∷ (ps ++ qs))) up)) in
    let inner' = both (test filter) (numbered (checked body)) in
    let x = ranged head env in
    let env1 = later env x in
    let i = declared_as env1 head.iterator (an_iterator (env1.depth + 1)) in
    let env2 = inside env1 head.iterator 1 in
    let c = test filter env2 in
    let env3 = later env2 c in
    let m = env3.number in
    let env4 = numbered_env env3 in
    let b = checked body env4 in
    let hi = env.number + (both (ranged head) (iterated head.iterator 1 inner') env).numbers in
    if-by (λ p. Unit {0} × (Unit {0} × (InParallel n ps p.1.1.0 × InBody m (env4.number + b.numbers) p.1.1.1))) (InBody n hi) (both (ranged head) (iterated head.iterator 1 inner') env).part
    (λ p. Ok (loop_of Loop.Foreach env.key at (head_with head p.0 p.1.0) p.1.1.0 p.1.1.1))
    (if-both (λ o. Unit {0}) (λ p. Unit {0} × (InParallel n ps p.1.0 × InBody m (env4.number + b.numbers) p.1.1)) x.part (iterated head.iterator 1 inner' env1).part (anything x.part)
    (if-both (λ j. Unit {0}) (λ p. InParallel n ps p.0 × InBody m (env4.number + b.numbers) p.1) i.part (inner' env2).part tt
    (if-both (InParallel n ps) (InBody m (env4.number + b.numbers)) c.part (numbered (checked body) env3).part (test-kept n filter (ascend-left ps qs back) env2 (ap (λ (j : Key). j.statement) st.0, not-zero env.depth))
    (body-ordered false body (ascend-right ps qs back) sh m env4 (numbered-stands env3 (not-zero env.depth))))))
    (λ p k. foreach-body n env.key st.0 at (head_with head p.0 p.1.0) ps p.1.1.0 p.1.1.1 m hi (omega (arith, l)) (omega (arith, l)) k.1.1.0 (wider-body m (env4.number + b.numbers) m hi p.1.1.1 (omega arith) (omega arith) k.1.1.1))
body-ordered false (S.If at c a b) up sh n env st =
    let l = st.1 in
    let ps = places_in c in
    let qs = places_of a in
    let rs = places_of b in
    let h = both-true (shaped false a) (shaped false b) sh in
    let back = ascend-tail at (ps ++ (qs ++ rs)) up in
    let branches = ascend-right ps (qs ++ rs) back in
    let x = test c env in
    let env1 = later env x in
    let m1 = env1.number in
    let y = numbered (checked a) env1 in
    let env2 = later env1 y in
    let m2 = env2.number in
    let z = numbered (checked b) env2 in
    let top1 = env1.number + 1 + (checked a (numbered_env env1)).numbers in
    let top2 = env2.number + 1 + (checked b (numbered_env env2)).numbers in
    let hi = env.number + (x.numbers + (y.numbers + z.numbers)) in
    if-by (λ p. InParallel n ps p.0 × (InBody m1 top1 p.1.0 × InBody m2 top2 p.1.1)) (InBody n hi) (beside x (beside y z)).part (λ p. Ok (P.If env.key p.0 p.1.0 p.1.1))
    (if-both (InParallel n ps) (λ p. InBody m1 top1 p.0 × InBody m2 top2 p.1) x.part (beside y z).part (test-kept n c (ascend-left ps (qs ++ rs) back) env (mode n env st))
    (if-both (InBody m1 top1) (InBody m2 top2) y.part z.part
    (body-ordered false a (ascend-left qs rs branches) h.0 m1 (numbered_env env1) (numbered-stands env1 st.2))
    (body-ordered false b (ascend-right qs rs branches) h.1 m2 (numbered_env env2) (numbered-stands env2 st.2))))
    (λ p k. if-body n env.key st.0 ps m1 top1 m2 hi (omega (arith, l)) (omega arith) (omega arith) (omega arith) (omega (arith, l)) p.0 p.1.0 p.1.1 k.0 k.1.0 (wider-body m2 top2 m2 hi p.1.1 (omega arith) (omega arith) k.1.1))
body-ordered false (S.While at c body) up sh n env st =
    let parts = both (test c) (numbered (checked body)) env in
    if-by (λ p. Unit {0}) (InBody n (env.number + parts.numbers)) parts.part (λ p. Ok (P.While env.key at p.0 p.1)) (anything parts.part) (λ p _. (λ its. (((tt, λ w q r. refl), (tt, λ w q r. refl), refl), ((tt, λ w q r. refl), (tt, λ w q r. refl), refl))))
body-ordered false (S.Do at body c) up sh n env st =
    let parts = both (numbered (checked body)) (test c) env in
    if-by (λ p. Unit {0}) (InBody n (env.number + parts.numbers)) parts.part (λ p. Ok (P.Do env.key at p.0 p.1)) (anything parts.part) (λ p _. (λ its. (((tt, λ w q r. refl), (tt, λ w q r. refl), refl), ((tt, λ w q r. refl), (tt, λ w q r. refl), refl))))
body-ordered false (S.InBfs at v g root filter body) up sh n env st =
    let parts = both (both (graph_searched g) (rooted root)) (iterated v 1 (both (test filter) (numbered (checked body)))) env in
    if-by (λ p. Unit {0}) (InBody n (env.number + parts.numbers)) parts.part (λ p. Ok (P.InBfs env.key at (search_of root p.0 p.1.0) p.1.1.0 p.1.1.1)) (anything parts.part) (λ p _. (λ its. (((tt, λ w q r. refl), (tt, λ w q r. refl), refl), ((tt, λ w q r. refl), (tt, λ w q r. refl), refl))))
body-ordered false (S.InBfsBoth at v g root filter body reverse back_filter back) up sh n env st =
    let parts = both (both (graph_searched g) (rooted root)) (iterated v 1 (both (both (test filter) (numbered (checked body))) (numbered (searched (test back_filter) (numbered (checked back)))))) env in
    if-by (λ p. Unit {0}) (InBody n (env.number + parts.numbers)) parts.part (λ p. Ok (P.InBfsBoth env.key at (search_of root p.0 p.1.0) p.1.1.0.0 p.1.1.0.1 p.1.1.1.0 p.1.1.1.1.0 p.1.1.1.1.1)) (anything parts.part) (λ p _. (λ its. (((tt, λ w q r. refl), (tt, λ w q r. refl), refl), ((tt, λ w q r. refl), (tt, λ w q r. refl), refl))))
body-ordered false (S.Return at None) up sh n env st = if-good (InBody n (env.number + 0)) (is_none env.result) T14 at (P.Return env.key at None) (λ _. (λ its. (((tt, λ w q r. refl), (tt, λ w q r. refl), refl), ((tt, λ w q r. refl), (tt, λ w q r. refl), refl))))
body-ordered false (S.Return at (Some e)) up sh n env st =
    let hi = env.number + (typed e env).numbers in
    if-by (λ p. Unit {0}) (InBody n hi) (typed e env).part (returned env.key at env.result) (anything (typed e env).part) (λ p _. by hi env.result p)
  where
    by : (hi : ℕ) (o : Option VType) (p : Part) → IfPart (InBody n hi) (ok_of (returned env.key at o p))
    by hi None p = tt
    by hi (Some t) p = if-then (λ a. Unit {0}) (InBody n hi) (fitted t T14 at p) (λ a. P.Return env.key at (Some a)) (anything (ok_of (fitted t T14 at p))) (λ a _. (λ its. (((tt, λ w q r. refl), (tt, λ w q r. refl), refl), ((tt, λ w q r. refl), (tt, λ w q r. refl), refl))))
