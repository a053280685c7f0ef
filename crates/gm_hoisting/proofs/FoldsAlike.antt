-- The reductions of an expression of an outer body, each as a loop before what follows.
use Rattle.std.proofs.Common.{◌≡◌, ◌≤◌, ◌<◌, ◌+◌, ◌++◌, ℕ, cond, Bool, true, false, List, [], ◌∷◌, map, refl, sym, ap, subst, ◌∙◌, arith, Option, Some, None, Ok, Err}
use Rattle.std.specs.Prelude.{◌&&◌, if◌then◌else◌}
use Rattle.std.specs.List.{list_all}
use Rattle.std.proofs.lemmas.Bool.{eq-eqb}
use Rattle.gm_value.specs.Operations.{is_true, result1, result2}
use Rattle.gm_value.specs.Bag.{IsIn}
use Rattle.gm_model.specs.Graphs.{Step}
use Rattle.gm_ast.specs.declared.tree.Key.{Key}
use Rattle.gm_ast.specs.Program.{Expr, Const, Var, Property, EdgeProperty, Degree, NodeCount, EdgeCount, Live, Unary, Binary, Both, Either, Choose, Folded, Stmt, sequence}
use Rattle.gm_semantics.specs.declared.faults.Fault.{Fault}
use Rattle.gm_semantics.specs.declared.slots.Slot.TheVariants.{Scalar}
use Rattle.gm_semantics.specs.Stores.{write}
use Rattle.gm_semantics.specs.Faults.{rank_of, comes_before, first, then_with, total_fault}
use Rattle.gm_semantics.specs.Expressions.{Answer, View, Evaluated, entered, element, evaluated, value, early, located, steps_in}
use Rattle.gm_semantics.specs.Frames.{Agree, ReadsBelow, AllReadBelow, Alike}
use Rattle.gm_semantics.specs.Iterations.{Loop, Iteration, Outermost, failed, go_on, view_in, does}
use Rattle.gm_semantics.proofs.ExpressionFrames.{evaluated-frame}
use Rattle.gm_forms.specs.Forms.{is_flat, is_inner_head}
use Rattle.gm_forms.specs.Ready.{is_outer_expr}
use Rattle.gm_forms.proofs.Named.{both-true}
use Rattle.gm_desugar.specs.Conditions.{asked}
use Rattle.gm_hoisting.specs.Hoisting.{count_folds, count_all, placed, folds_set, all_set, told_from, all_told}
use Rattle.gm_hoisting.proofs.OneFold.{agree-itself, agree-on, agree-less, agree-set, going, stopped, Strict, told, fold-alike}

-- ---- statements one after another

pub then-then : (i : Iteration) (f g : Iteration → Iteration) → go_on (go_on i f) g ≡ go_on i (λ u. go_on (f u) g)
then-then i f g = by i.fault refl
  where
    by : (o : Option Fault) → i.fault ≡ o → go_on (go_on i f) g ≡ go_on i (λ u. go_on (f u) g)
    by None e = ap (λ j. go_on j g) (going i f e) ∙ sym (going i (λ u. go_on (f u) g) e)
    by (Some x) e = ap (λ j. go_on j g) (stopped i x f e) ∙ stopped i x g e ∙ sym (stopped i x (λ u. go_on (f u) g) e)

in-turn : (one : Iteration) (f g h : Iteration → Iteration) → (one.fault ≡ None → f one ≡ go_on (g one) h) → go_on one f ≡ go_on (go_on one g) h
in-turn one f g h rest = by one.fault refl
  where
    by : (o : Option Fault) → one.fault ≡ o → go_on one f ≡ go_on (go_on one g) h
    by None e = going one f e ∙ rest e ∙ sym (ap (λ j. go_on j h) (going one g e))
    by (Some x) e = stopped one x f e ∙ sym (ap (λ j. go_on j h) (stopped one x g e) ∙ stopped one x h e)

-- in two parts
pub sequence-both : (xs ys : List Stmt) (loop : Loop) (i : Iteration) → i.fault ≡ None →
    does (sequence (xs ++ ys)) Outermost loop i ≡ go_on (does (sequence xs) Outermost loop i) (does (sequence ys) Outermost loop)
sequence-both [] ys loop i none = sym (going i (does (sequence ys) Outermost loop) none)
sequence-both (x ∷ xs) ys loop i none =
    in-turn (does x Outermost loop i) (does (sequence (xs ++ ys)) Outermost loop) (does (sequence xs) Outermost loop) (does (sequence ys) Outermost loop) (sequence-both xs ys loop (does x Outermost loop i))

-- ---- variables below a number

pub below-more : (m n : ℕ) (e : Expr) → m ≤ n → ReadsBelow m e → ReadsBelow n e
below-more m n (Const v) l b = tt
below-more m n (Var x at) l b = omega arith
below-more m n (Property x p at) l b = (let q = b.0 in omega arith, let q = b.1 in omega arith)
below-more m n (EdgeProperty x p at) l b = omega arith
below-more m n (Degree d x at) l b = omega arith
below-more m n NodeCount l b = tt
below-more m n EdgeCount l b = tt
below-more m n (Live x at) l b = omega arith
below-more m n (Unary op at e) l b = below-more m n e l b
below-more m n (Binary op at a c) l b = (below-more m n a l b.0, below-more m n c l b.1)
below-more m n (Both a c) l b = (below-more m n a l b.0, below-more m n c l b.1)
below-more m n (Either a c) l b = (below-more m n a l b.0, below-more m n c l b.1)
below-more m n (Choose a c d) l b = (below-more m n a l b.0, below-more m n c l b.1, below-more m n d l b.2)
below-more m n (Folded f h test e) l b = (let q = b.0 in omega arith, below-more m n test l b.1, below-more m n e l b.2)

pub told-below : (k n : ℕ) (e : Expr) → k ≤ n → ReadsBelow k e → ReadsBelow (n + count_folds e) (told_from n e)
told-below k n (Const v) l b = tt
told-below k n (Var x at) l b = omega arith
told-below k n (Property x p at) l b = (let q = b.0 in omega arith, let q = b.1 in omega arith)
told-below k n (EdgeProperty x p at) l b = omega arith
told-below k n (Degree d x at) l b = omega arith
told-below k n NodeCount l b = tt
told-below k n EdgeCount l b = tt
told-below k n (Live x at) l b = omega arith
told-below k n (Unary op at e) l b = told-below k n e l b
told-below k n (Binary op at a c) l b = (
  below-more (n + count_folds a) (n + (count_folds a + count_folds c)) (told_from n a) (omega arith) (told-below k n a l b.0),
  below-more ((n + count_folds a) + count_folds c) (n + (count_folds a + count_folds c)) (told_from (n + count_folds a) c) (omega arith) (told-below k (n + count_folds a) c (omega arith) b.1),
)
told-below k n (Both a c) l b = (
  below-more (n + count_folds a) (n + (count_folds a + count_folds c)) (told_from n a) (omega arith) (told-below k n a l b.0),
  below-more ((n + count_folds a) + count_folds c) (n + (count_folds a + count_folds c)) (told_from (n + count_folds a) c) (omega arith) (told-below k (n + count_folds a) c (omega arith) b.1),
)
told-below k n (Either a c) l b = (
  below-more (n + count_folds a) (n + (count_folds a + count_folds c)) (told_from n a) (omega arith) (told-below k n a l b.0),
  below-more ((n + count_folds a) + count_folds c) (n + (count_folds a + count_folds c)) (told_from (n + count_folds a) c) (omega arith) (told-below k (n + count_folds a) c (omega arith) b.1),
)
told-below k n (Choose c a d) l b =
    let m = n + (count_folds c + (count_folds a + count_folds d)) in
    let n1 = n + count_folds c in
    let n2 = (n + count_folds c) + count_folds a in (
      below-more n1 m (told_from n c) (omega arith) (told-below k n c l b.0),
      below-more n2 m (told_from n1 a) (omega arith) (told-below k n1 a (omega arith) b.1),
      below-more (n2 + count_folds d) m (told_from n2 d) (omega arith) (told-below k n2 d (omega arith) b.2),
    )
told-below k n (Folded f h test e) l b = omega arith

-- ---- the locals

-- so many variables from a number on are locals of the outer body
abbrev pub AreLocals : Loop → ℕ → ℕ → Type 0
AreLocals loop n c = (i : ℕ) → n ≤ i → i < n + c → loop.depth i ≡ 1

pub locals-left : (loop : Loop) (n c d : ℕ) → AreLocals loop n (c + d) → AreLocals loop n c
locals-left loop n c d h i l b = h i l (omega arith)

pub locals-right : (loop : Loop) (n c d : ℕ) → AreLocals loop n (c + d) → AreLocals loop (n + c) d
locals-right loop n c d h i l b = h i (omega arith) (omega arith)

-- ---- the total of each reduction faults behind its elements

abbrev pub IsLate : Loop → Iteration → Expr → Type 0
IsLate loop a (Folded f h test e) =
    let g = placed f h test e in
    (key : Key) → (evaluated (Folded f h test e) (view_in loop Outermost a key) ≡ evaluated (Folded g h test e) (view_in loop Outermost a key))
    × ((s : Step) (x : Fault) → IsIn s (steps_in (view_in loop Outermost a key) h) →
    element g.word (value test (entered (view_in loop Outermost a key) h s g.filter)) (value e (entered (view_in loop Outermost a key) h s g.body)) ≡ Err x → comes_before (rank_of (total_fault g.total)) (rank_of x) ≡ false)
IsLate loop a (Unary op at e) = IsLate loop a e
IsLate loop a (Binary op at e d) = IsLate loop a e × IsLate loop a d
IsLate loop a (Both e d) = IsLate loop a e × IsLate loop a d
IsLate loop a (Either e d) = IsLate loop a e × IsLate loop a d
IsLate loop a (Choose c e d) = IsLate loop a c × IsLate loop a e × IsLate loop a d
IsLate loop a e = Unit {0}

abbrev pub AreLate : Loop → Iteration → List Expr → Type 0
AreLate loop a [] = Unit {0}
AreLate loop a (e ∷ es) = IsLate loop a e × AreLate loop a es

-- two parts, of which the first is hoisted first
abbrev pair : (Answer → Answer → Answer) → Evaluated → Evaluated → Evaluated
pair g a b = record { hoisted = first a.hoisted b.hoisted; rest = g a.rest b.rest }

abbrev triple : (Answer → Answer → Answer → Answer) → Evaluated → Evaluated → Evaluated → Evaluated
triple g c a b = record { hoisted = first c.hoisted (first a.hoisted b.hoisted); rest = g c.rest a.rest b.rest }

-- what is hoisted first of several meanings, and these with nothing hoisted any more
abbrev pub hoisted_of : List Evaluated → Option Fault
hoisted_of [] = None
hoisted_of (ev ∷ evs) = first ev.hoisted (hoisted_of evs)

abbrev pub rests : List Evaluated → List Evaluated
rests evs = map (λ (ev : Evaluated). told ev.rest) evs

module _ (k : ℕ) (loop : Loop) (levels : Bool) (outer : ℕ) (key : Key) where
  abbrev pub seen : Iteration → View
  seen u = view_in loop Outermost u key

  abbrev pub ran : List Stmt → Iteration → Iteration
  ran ss = does (sequence ss) Outermost loop

  -- after its reductions were done, nothing of the expression is hoisted, and the rest is the same
  abbrev pub IsTold : ℕ → Expr → Iteration → Type 0
  IsTold n e u = evaluated (told_from n e) (seen u) ≡ told (evaluated e (seen u)).rest

  -- what is asked of an expression at an iteration
  pub record Ready (n : ℕ) (e : Expr) (a : Iteration) : Type 0 where
    pub below : ReadsBelow k e
    pub form : is_outer_expr levels outer e ≡ true
    pub locals : AreLocals loop n (count_folds e)
    pub late : IsLate loop a e

  -- an expression before what follows, and its reductions before what follows them
  abbrev pub FoldsAlike : ℕ → Expr → Type 0
  FoldsAlike n e = (a b : Iteration) → Alike k a b → b.fault ≡ None → k ≤ n → Ready n e a → (f : Evaluated → Iteration) → Strict a f → (g : Iteration → Iteration) →
      ((u : Iteration) → Alike k a u → u.fault ≡ None → Agree n b.store u.store → IsTold n e u → Alike k (f (told (evaluated e (seen a)).rest)) (g u)) →
      Alike k (f (evaluated e (seen a))) (go_on (ran (folds_set n key e) b) g)

  -- nothing to hoist
  nothing-alike : (n : ℕ) (e : Expr) (a b : Iteration) → Alike k a b → b.fault ≡ None → evaluated e (seen a) ≡ told (evaluated e (seen a)).rest → evaluated e (seen b) ≡ told (evaluated e (seen b)).rest →
      (f : Evaluated → Iteration) (g : Iteration → Iteration) →
      ((u : Iteration) → Alike k a u → u.fault ≡ None → Agree n b.store u.store → evaluated e (seen u) ≡ told (evaluated e (seen u)).rest → Alike k (f (told (evaluated e (seen a)).rest)) (g u)) →
      Alike k (f (evaluated e (seen a))) (go_on b g)
  nothing-alike n e a b h none p q f g each =
      subst (Alike k (f (evaluated e (seen a)))) (sym (going b g none))
      (subst (λ ev. Alike k (f ev) (g b)) (sym p) (each b h none (agree-itself n b.store) q))

  keep-told : (n m : ℕ) (e : Expr) (u w : Iteration) → Agree m u.store w.store → ReadsBelow m (told_from n e) → ReadsBelow m e → IsTold n e u → IsTold n e w
  keep-told n m e u w h b c p =
      evaluated-frame m (told_from n e) (seen u) w.store b h ∙ p ∙ sym (ap (λ (ev : Evaluated). told ev.rest) (evaluated-frame m e (seen u) w.store c h))

  -- two expressions, of which the first is hoisted first
  pair-alike : (n : ℕ) (e d : Expr) → FoldsAlike n e → FoldsAlike (n + count_folds e) d → (join : Answer → Answer → Answer) → (a b : Iteration) → Alike k a b → b.fault ≡ None → k ≤ n → Ready n e a → Ready (n + count_folds e) d a → (f : Evaluated → Iteration) → Strict a f → (g : Iteration → Iteration) →
      ((u : Iteration) → Alike k a u → u.fault ≡ None → Agree n b.store u.store → IsTold n e u → IsTold (n + count_folds e) d u → Alike k (f (told (join (evaluated e (seen a)).rest (evaluated d (seen a)).rest))) (g u)) →
      Alike k (f (pair join (evaluated e (seen a)) (evaluated d (seen a)))) (go_on (ran (folds_set n key e ++ folds_set (n + count_folds e) key d) b) g)
  pair-alike n e d p q join a b h none l r s f strict g each =
      let m = n + count_folds e in
      let more : k ≤ m = omega arith in
      let on : n ≤ m = omega arith in
      let x = evaluated e (seen a) in
      let y = evaluated d (seen a) in
      subst (λ c. Alike k (f (pair join x y)) (go_on c g)) (sym (sequence-both (folds_set n key e) (folds_set m key d) loop b none))
      (subst (Alike k (f (pair join x y))) (sym (then-then (ran (folds_set n key e) b) (ran (folds_set m key d)) g))
      (p a b h none l r (λ ev. f (pair join ev y)) (λ e r. strict e (join r y.rest)) (λ u. go_on (ran (folds_set m key d) u) g)
      (λ u i nu j t. q a u i nu more s (λ ev. f (pair join (told x.rest) ev)) (λ e r. strict e (join x.rest r)) g
      (λ w v nw o z. each w v nw (agree-on n b.store u.store w.store j (agree-less n m u.store w.store on o)) (keep-told n m e u w o (told-below k n e l r.below) (below-more k m e more r.below) t) z))))

  -- three of them
  triple-alike : (n : ℕ) (c e d : Expr) → FoldsAlike n c → FoldsAlike (n + count_folds c) e → FoldsAlike ((n + count_folds c) + count_folds e) d → (join : Answer → Answer → Answer → Answer) → (a b : Iteration) → Alike k a b → b.fault ≡ None → k ≤ n → Ready n c a → Ready (n + count_folds c) e a → Ready ((n + count_folds c) + count_folds e) d a → (f : Evaluated → Iteration) → Strict a f → (g : Iteration → Iteration) →
      ((u : Iteration) → Alike k a u → u.fault ≡ None → Agree n b.store u.store → IsTold n c u → IsTold (n + count_folds c) e u → IsTold ((n + count_folds c) + count_folds e) d u → Alike k (f (told (join (evaluated c (seen a)).rest (evaluated e (seen a)).rest (evaluated d (seen a)).rest))) (g u)) →
      Alike k (f (triple join (evaluated c (seen a)) (evaluated e (seen a)) (evaluated d (seen a)))) (go_on (ran (folds_set n key c ++ (folds_set (n + count_folds c) key e ++ folds_set ((n + count_folds c) + count_folds e) key d)) b) g)
  triple-alike n c e d o p q join a b h none l s t v f strict g each =
      let m = n + count_folds c in
      let others = folds_set m key e ++ folds_set (m + count_folds e) key d in
      let more : k ≤ m = omega arith in
      let on : n ≤ m = omega arith in
      let z = evaluated c (seen a) in
      let x = evaluated e (seen a) in
      let y = evaluated d (seen a) in
      subst (λ i. Alike k (f (triple join z x y)) (go_on i g)) (sym (sequence-both (folds_set n key c) others loop b none))
      (subst (Alike k (f (triple join z x y))) (sym (then-then (ran (folds_set n key c) b) (ran others) g))
      (o a b h none l s (λ ev. f (triple join ev x y)) (λ e r. strict e (join r x.rest y.rest)) (λ u. go_on (ran others u) g)
      (λ u i nu j w. pair-alike m e d p q (join z.rest) a u i nu more t v f strict g
      (λ r i' nr j' w1 w2. each r i' nr (agree-on n b.store u.store r.store j (agree-less n m u.store r.store on j')) (keep-told n m c u r j' (told-below k n c l s.below) (below-more k m c more s.below) w) w1 w2))))

  -- parts are as ready as the whole
  ready-two : (n : ℕ) (e d : Expr) (a : Iteration) → (ReadsBelow k e × ReadsBelow k d) → is_outer_expr levels outer e && is_outer_expr levels outer d ≡ true → AreLocals loop n (count_folds e + count_folds d) → IsLate loop a e × IsLate loop a d →
      Ready n e a × Ready (n + count_folds e) d a
  ready-two n e d a below form locals late =
      let q = both-true (is_outer_expr levels outer e) (is_outer_expr levels outer d) form in (
        record { below = below.0; form = q.0; locals = locals-left loop n (count_folds e) (count_folds d) locals; late = late.0 },
        record { below = below.1; form = q.1; locals = locals-right loop n (count_folds e) (count_folds d) locals; late = late.1 },
      )

  pub folds-alike : (e : Expr) (n : ℕ) → FoldsAlike n e
  folds-alike (Const v) n a b h none l s f strict g each = nothing-alike n (Const v) a b h none refl refl f g each
  folds-alike (Var x at) n a b h none l s f strict g each = nothing-alike n (Var x at) a b h none refl refl f g each
  folds-alike (Property x p at) n a b h none l s f strict g each = nothing-alike n (Property x p at) a b h none refl refl f g each
  folds-alike (EdgeProperty x p at) n a b h none l s f strict g each = nothing-alike n (EdgeProperty x p at) a b h none refl refl f g each
  folds-alike (Degree d x at) n a b h none l s f strict g each = nothing-alike n (Degree d x at) a b h none refl refl f g each
  folds-alike NodeCount n a b h none l s f strict g each = nothing-alike n NodeCount a b h none refl refl f g each
  folds-alike EdgeCount n a b h none l s f strict g each = nothing-alike n EdgeCount a b h none refl refl f g each
  folds-alike (Live x at) n a b h none l s f strict g each = nothing-alike n (Live x at) a b h none refl refl f g each
  folds-alike (Unary op at e) n a b h none l s f strict g each =
      let join : Iteration → Answer → Answer = λ u r. then_with r (λ v. located (seen u) at (result1 op v)) in
      folds-alike e n a b h none l (record { below = s.below; form = s.form; locals = s.locals; late = s.late }) (λ ev. f (record { hoisted = ev.hoisted; rest = join a ev.rest })) (λ x r. strict x (join a r)) g
      (λ u i nu j t. each u i nu j (ap (λ (ev : Evaluated). record { hoisted = ev.hoisted; rest = join u ev.rest }) t))
  folds-alike (Binary op at e d) n a b h none l s f strict g each =
      let join : Iteration → Answer → Answer → Answer = λ u r q. then_with r (λ v. then_with q (λ w. located (seen u) at (result2 op v w))) in
      let parts = ready-two n e d a s.below s.form s.locals s.late in
      pair-alike n e d (folds-alike e n) (folds-alike d (n + count_folds e)) (join a) a b h none l parts.0 parts.1 f strict g
      (λ u i nu j t q. each u i nu j (ap (λ ev. pair (join u) ev (evaluated (told_from (n + count_folds e) d) (seen u))) t ∙ ap (pair (join u) (told (evaluated e (seen u)).rest)) q))
  folds-alike (Both e d) n a b h none l s f strict g each =
      let join : Answer → Answer → Answer = λ r q. then_with r (λ x. if is_true x then q else Ok x) in
      let parts = ready-two n e d a s.below s.form s.locals s.late in
      pair-alike n e d (folds-alike e n) (folds-alike d (n + count_folds e)) join a b h none l parts.0 parts.1 f strict g
      (λ u i nu j t q. each u i nu j (ap (λ ev. pair join ev (evaluated (told_from (n + count_folds e) d) (seen u))) t ∙ ap (pair join (told (evaluated e (seen u)).rest)) q))
  folds-alike (Either e d) n a b h none l s f strict g each =
      let join : Answer → Answer → Answer = λ r q. then_with r (λ x. if is_true x then Ok x else q) in
      let parts = ready-two n e d a s.below s.form s.locals s.late in
      pair-alike n e d (folds-alike e n) (folds-alike d (n + count_folds e)) join a b h none l parts.0 parts.1 f strict g
      (λ u i nu j t q. each u i nu j (ap (λ ev. pair join ev (evaluated (told_from (n + count_folds e) d) (seen u))) t ∙ ap (pair join (told (evaluated e (seen u)).rest)) q))
  folds-alike (Choose c e d) n a b h none l s f strict g each =
      let join : Answer → Answer → Answer → Answer = λ o r q. then_with o (λ x. if is_true x then r else q) in
      let m = n + count_folds c in
      let forms = both-true (is_outer_expr levels outer c) (is_outer_expr levels outer e && is_outer_expr levels outer d) s.form in
      let one : Ready n c a = record { below = s.below.0; form = forms.0; locals = locals-left loop n (count_folds c) (count_folds e + count_folds d) s.locals; late = s.late.0 } in
      let parts = ready-two m e d a (s.below.1, s.below.2) forms.1 (locals-right loop n (count_folds c) (count_folds e + count_folds d) s.locals) (s.late.1, s.late.2) in
      triple-alike n c e d (folds-alike c n) (folds-alike e m) (folds-alike d (m + count_folds e)) join a b h none l one parts.0 parts.1 f strict g
      (λ u i nu j t q o. each u i nu j
      (ap (λ ev. triple join ev (evaluated (told_from m e) (seen u)) (evaluated (told_from (m + count_folds e) d) (seen u))) t
      ∙ ap (λ ev. triple join (told (evaluated c (seen u)).rest) ev (evaluated (told_from (m + count_folds e) d) (seen u))) q
      ∙ ap (triple join (told (evaluated c (seen u)).rest) (told (evaluated e (seen u)).rest)) o))
  folds-alike (Folded fold head test e) n a b h none l s f strict g each =
      let whole : Expr = Folded fold head test e in
      let fold' = placed fold head test e in
      let both = s.late key in
      let form = both-true (is_inner_head levels outer head) _ s.form in
      let flats = both-true (is_flat (outer ∷ head.iterator ∷ []) false test) (is_flat (outer ∷ head.iterator ∷ []) false e) form.1 in
      let least : n ≤ n = omega arith in
      subst (λ ev. Alike k (f ev) (go_on (ran (folds_set n key whole) b) g)) (sym both.0)
      (fold-alike k loop n l (s.locals n least (omega arith)) (outer ∷ head.iterator ∷ []) fold' head test e flats.0 flats.1 s.below.0 s.below.1 s.below.2 a b key h none both.1 f strict g
      (λ v is.
      let u : Iteration = record b { store = write b.store (Scalar n) v } in
      let i : Alike k a u = record {
        store = agree-set k n a.store b.store v l h.store;
        with_inner = h.with_inner;
        with_outermost = h.with_outermost;
        deferred = h.deferred;
        fault = h.fault;
        inner_below = h.inner_below;
        outermost_below = h.outermost_below;
      } in
      let here : evaluated (asked n) (seen u) ≡ told (Ok v) = ap (λ w. told (Ok w)) (ap (λ c. cond c v (b.store.scalar n)) (eq-eqb n n refl)) in
      let now : evaluated whole (seen a) ≡ early (Ok v) = both.0 ∙ ap early is in
      let there : evaluated whole (seen u) ≡ early (Ok v) = evaluated-frame k whole (seen a) u.store s.below i.store ∙ now in
      subst (λ (ev : Evaluated). Alike k (f (told ev.rest)) (g u)) now
      (each u i none (agree-set n n b.store b.store v least (agree-itself n b.store)) (here ∙ sym (ap (λ (ev : Evaluated). told ev.rest) there)))))

  -- ---- several expressions

  abbrev pub all_evaluated : List Expr → Iteration → List Evaluated
  all_evaluated es u = map (λ e. evaluated e (seen u)) es

  abbrev pub StrictAll : Iteration → (List Evaluated → Iteration) → Type 0
  StrictAll a f = (evs : List Evaluated) (x : Fault) → hoisted_of evs ≡ Some x → f evs ≡ failed a x

  pub record ReadyAll (n : ℕ) (es : List Expr) (a : Iteration) : Type 0 where
    pub below : AllReadBelow k es
    pub form : list_all (is_outer_expr levels outer) es ≡ true
    pub locals : AreLocals loop n (count_all es)
    pub late : AreLate loop a es

  abbrev pub AreTold : ℕ → List Expr → Iteration → Type 0
  AreTold n es u = all_evaluated (all_told n es) u ≡ rests (all_evaluated es u)

  all-told-below : (n : ℕ) (es : List Expr) → k ≤ n → AllReadBelow k es → AllReadBelow (n + count_all es) (all_told n es)
  all-told-below n [] l b = tt
  all-told-below n (e ∷ es) l b = (
    below-more (n + count_folds e) (n + (count_folds e + count_all es)) (told_from n e) (omega arith) (told-below k n e l b.0),
    subst (λ m. AllReadBelow m (all_told (n + count_folds e) es)) (let q : (n + count_folds e) + count_all es ≡ n + (count_folds e + count_all es) = omega arith in q) (all-told-below (n + count_folds e) es (omega arith) b.1),
  )

  pub all-alike : (es : List Expr) (n : ℕ) (a b : Iteration) → Alike k a b → b.fault ≡ None → k ≤ n → ReadyAll n es a → (f : List Evaluated → Iteration) → StrictAll a f → (g : Iteration → Iteration) →
      ((u : Iteration) → Alike k a u → u.fault ≡ None → Agree n b.store u.store → AreTold n es u → Alike k (f (rests (all_evaluated es a))) (g u)) →
      Alike k (f (all_evaluated es a)) (go_on (ran (all_set n key es) b) g)
  all-alike [] n a b h none l s f strict g each = subst (Alike k (f [])) (sym (going b g none)) (each b h none (agree-itself n b.store) refl)
  all-alike (e ∷ es) n a b h none l s f strict g each =
      let m = n + count_folds e in
      let more : k ≤ m = omega arith in
      let on : n ≤ m = omega arith in
      let x = evaluated e (seen a) in
      let ys = all_evaluated es a in
      let forms = both-true (is_outer_expr levels outer e) (list_all (is_outer_expr levels outer) es) s.form in
      let one : Ready n e a = record { below = s.below.0; form = forms.0; locals = locals-left loop n (count_folds e) (count_all es) s.locals; late = s.late.0 } in
      let others : ReadyAll m es a = record { below = s.below.1; form = forms.1; locals = locals-right loop n (count_folds e) (count_all es) s.locals; late = s.late.1 } in
      subst (λ c. Alike k (f (x ∷ ys)) (go_on c g)) (sym (sequence-both (folds_set n key e) (all_set m key es) loop b none))
      (subst (Alike k (f (x ∷ ys))) (sym (then-then (ran (folds_set n key e) b) (ran (all_set m key es)) g))
      (folds-alike e n a b h none l one (λ ev. f (ev ∷ ys)) (λ y r. strict (record { hoisted = Some y; rest = r } ∷ ys) y refl) (λ u. go_on (ran (all_set m key es) u) g)
      (λ u i nu j t. all-alike es m a u i nu more others (λ evs. f (told x.rest ∷ evs)) (λ evs y is. strict (told x.rest ∷ evs) y is) g
      (λ w v nw o z. each w v nw (agree-on n b.store u.store w.store j (agree-less n m u.store w.store on o))
      (ap (λ ev. ev ∷ all_evaluated (all_told m es) w) (keep-told n m e u w o (told-below k n e l s.below.0) (below-more k m e more s.below.0) t) ∙ ap (λ evs. told (evaluated e (seen w)).rest ∷ evs) z)))))
