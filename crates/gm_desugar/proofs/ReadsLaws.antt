-- The reads of an expression, each set to a variable before what follows.
use Rattle.std.proofs.Common.{◌≡◌, ◌≤◌, ◌+◌, ◌++◌, ℕ, cond, List, [], ◌∷◌, refl, sym, ap, subst, ◌∙◌, arith, Some, None, Ok, Err}
use Rattle.std.specs.Prelude.{if◌then◌else◌}
use Rattle.std.proofs.lemmas.Bool.{eq-eqb}
use Rattle.std.proofs.Math.Path.{fun_ext}
use Rattle.gm_value.specs.declared.values.Value.{Value}
use Rattle.gm_value.specs.Operations.{is_true, result1, result2}
use Rattle.gm_ast.specs.declared.tree.Key.{Key}
use Rattle.gm_ast.specs.Program.{Expr, Const, Var, Property, EdgeProperty, Degree, NodeCount, EdgeCount, Live, Unary, Binary, Both, Either, Choose, Folded, Stmt, sequence}
use Rattle.gm_semantics.specs.declared.faults.Fault.{Fault}
use Rattle.gm_semantics.specs.declared.slots.Slot.TheVariants.{Scalar}
use Rattle.gm_semantics.specs.Stores.{write}
use Rattle.gm_semantics.specs.Faults.{first, then_with}
use Rattle.gm_semantics.specs.Expressions.{Answer, View, Evaluated, settled, evaluated, early, located}
use Rattle.gm_semantics.specs.Frames.{ReadsBelow, AlikeStates, AlikeCourses}
use Rattle.gm_semantics.specs.Statements.{Run, State, Course, Faults, view_of, with_value, with_store, then_do, sequential}
use Rattle.gm_semantics.proofs.ExpressionFrames.{evaluated-frame}
use Rattle.gm_desugar.specs.Conditions.{set_to, asked}
use Rattle.gm_desugar.specs.Reads.{count_read, reads_set, told_from}
use Rattle.gm_desugar.proofs.Alike.{then-goes, then-then}
use Rattle.gm_desugar.proofs.ConditionsLaws.{written-scalar, set-alike}

-- statements one after another, in two parts
pub sequence-both : (xs ys : List Stmt) (run : Run) (t : State) → sequential (sequence (xs ++ ys)) run t ≡ then_do (sequential (sequence xs) run t) (sequential (sequence ys) run)
sequence-both [] ys run t = refl
sequence-both (x ∷ xs) ys run t =
    ap (then_do (sequential x run t)) (fun_ext (λ u. sequence-both xs ys run u)) ∙ sym (then-then (sequential x run t) (sequential (sequence xs) run) (sequential (sequence ys) run))

-- with nothing hoisted any more
abbrev pub told : Answer → Evaluated
told r = record { hoisted = None; rest = r }

-- what follows an expression faults as it does where it is hoisted
abbrev pub Strict : (Evaluated → Course) → Type 0
Strict f = (e : Fault) (r : Answer) → f (record { hoisted = Some e; rest = r }) ≡ Faults e

-- two parts, of which the first is hoisted first
abbrev pair : (Answer → Answer → Answer) → Evaluated → Evaluated → Evaluated
pair g a b = record { hoisted = first a.hoisted b.hoisted; rest = g a.rest b.rest }

abbrev triple : (Answer → Answer → Answer → Answer) → Evaluated → Evaluated → Evaluated → Evaluated
triple g c a b = record { hoisted = first c.hoisted (first a.hoisted b.hoisted); rest = g c.rest a.rest b.rest }

-- variables of an expression whose reads are set from a number on are below the next
below-more : (m n : ℕ) (e : Expr) → m ≤ n → ReadsBelow m e → ReadsBelow n e
below-more m n (Const v) l b = tt
below-more m n (Var x at) l b = omega arith
below-more m n (Property x p at) l b = (let q = b.0 in omega arith, let q = b.1 in omega arith)
below-more m n (EdgeProperty x p at) l b = omega arith
below-more m n (Degree d x at) l b = omega arith
below-more m n NodeCount l b = tt
below-more m n EdgeCount l b = tt
below-more m n (Live x at) l b = omega arith
below-more m n (Unary op at e) l b = below-more m n e l b
below-more m n (Binary op at a c) l b = (below-more m n a l b.0, below-more m n c l b.1)
below-more m n (Both a c) l b = (below-more m n a l b.0, below-more m n c l b.1)
below-more m n (Either a c) l b = (below-more m n a l b.0, below-more m n c l b.1)
below-more m n (Choose a c d) l b = (below-more m n a l b.0, below-more m n c l b.1, below-more m n d l b.2)
below-more m n (Folded f h test e) l b = (let q = b.0 in omega arith, below-more m n test l b.1, below-more m n e l b.2)

told-below : (k n : ℕ) (e : Expr) → k ≤ n → ReadsBelow k e → ReadsBelow (n + count_read e) (told_from n e)
told-below k n (Const v) l b = tt
told-below k n (Var x at) l b = omega arith
told-below k n (Property x p at) l b = omega arith
told-below k n (EdgeProperty x p at) l b = omega arith
told-below k n (Degree d x at) l b = omega arith
told-below k n NodeCount l b = tt
told-below k n EdgeCount l b = tt
told-below k n (Live x at) l b = omega arith
told-below k n (Unary op at e) l b = told-below k n e l b
told-below k n (Binary op at a c) l b = (
  below-more (n + count_read a) (n + (count_read a + count_read c)) (told_from n a) (omega arith) (told-below k n a l b.0),
  below-more ((n + count_read a) + count_read c) (n + (count_read a + count_read c)) (told_from (n + count_read a) c) (omega arith) (told-below k (n + count_read a) c (omega arith) b.1),
)
told-below k n (Both a c) l b = (
  below-more (n + count_read a) (n + (count_read a + count_read c)) (told_from n a) (omega arith) (told-below k n a l b.0),
  below-more ((n + count_read a) + count_read c) (n + (count_read a + count_read c)) (told_from (n + count_read a) c) (omega arith) (told-below k (n + count_read a) c (omega arith) b.1),
)
told-below k n (Either a c) l b = (
  below-more (n + count_read a) (n + (count_read a + count_read c)) (told_from n a) (omega arith) (told-below k n a l b.0),
  below-more ((n + count_read a) + count_read c) (n + (count_read a + count_read c)) (told_from (n + count_read a) c) (omega arith) (told-below k (n + count_read a) c (omega arith) b.1),
)
told-below k n (Choose c a d) l b =
    let m = n + (count_read c + (count_read a + count_read d)) in
    let n1 = n + count_read c in
    let n2 = (n + count_read c) + count_read a in (
      below-more n1 m (told_from n c) (omega arith) (told-below k n c l b.0),
      below-more n2 m (told_from n1 a) (omega arith) (told-below k n1 a (omega arith) b.1),
      below-more (n2 + count_read d) m (told_from n2 d) (omega arith) (told-below k n2 d (omega arith) b.2),
    )
told-below k n (Folded f h test e) l b = omega arith

-- stores that agree below a number agree below a lesser one, and agreement goes on
agree-less : (m n : ℕ) (s t : State) → m ≤ n → AlikeStates n s t → AlikeStates m s t
agree-less m n s t l h = record {
  store = record { scalar = λ x b. h.store.scalar x (omega arith); node = λ p i b. h.store.node p i (omega arith); edge = λ p e b. h.store.edge p e (omega arith) };
  turns = h.turns;
}

agree-on : (n : ℕ) (s t u : State) → AlikeStates n s t → AlikeStates n t u → AlikeStates n s u
agree-on n s t u h i = record {
  store = record { scalar = λ x b. i.store.scalar x b ∙ h.store.scalar x b; node = λ p m b. i.store.node p m b ∙ h.store.node p m b; edge = λ p e b. i.store.edge p e b ∙ h.store.edge p e b };
  turns = i.turns ∙ h.turns;
}

pub agree-itself : (n : ℕ) (s : State) → AlikeStates n s s
agree-itself n s = record { store = record { scalar = λ x b. refl; node = λ x m b. refl; edge = λ x e b. refl }; turns = refl }

module _ (k : ℕ) (run : Run) (key : Key) where
  abbrev pub seen : State → View
  seen u = view_of run u key

  -- after its reads were set, nothing of the expression is hoisted, and the rest is the same
  abbrev pub IsTold : ℕ → Expr → State → Type 0
  IsTold n e u = evaluated (told_from n e) (seen u) ≡ told (evaluated e (seen u)).rest

  -- an expression before what follows, and its reads set before what follows them
  abbrev pub ReadsAlike : ℕ → Expr → Type 0
  ReadsAlike n e = (a b : State) → AlikeStates k a b → k ≤ n → ReadsBelow k e → (f : Evaluated → Course) → Strict f → (g : State → Course) →
      ((u : State) → AlikeStates k a u → AlikeStates n b u → IsTold n e u → AlikeCourses k (f (told (evaluated e (seen a)).rest)) (g u)) →
      AlikeCourses k (f (evaluated e (seen a))) (then_do (sequential (sequence (reads_set n key e)) run b) g)

  -- one read
  one-alike : (n : ℕ) (e : Expr) (read : Answer) (a b : State) → evaluated e (seen a) ≡ early read → AlikeStates k a b → k ≤ n → ReadsBelow k e → (f : Evaluated → Course) → Strict f → (g : State → Course) →
      ((u : State) → AlikeStates k a u → AlikeStates n b u → evaluated (asked n) (seen u) ≡ told (evaluated e (seen u)).rest → AlikeCourses k (f (told (evaluated e (seen a)).rest)) (g u)) →
      AlikeCourses k (f (evaluated e (seen a))) (then_do (sequential (sequence (set_to n key e ∷ [])) run b) g)
  one-alike n e read a b shape h l below f strict g each =
      subst (λ d. AlikeCourses k (f (evaluated e (seen a))) (then_do d g)) (sym (then-goes (sequential (set_to n key e) run b)))
      (subst (λ d. AlikeCourses k (f (evaluated e (seen a))) (then_do d g)) (sym (written-scalar n b (evaluated e (seen b)).hoisted (evaluated e (seen b)).rest))
      (subst (λ ev. AlikeCourses k (f (evaluated e (seen a))) (then_do (with_value (settled ev) put) g)) (sym (evaluated-frame k e (seen a) b.store below h.store))
      (subst both (sym shape) (by read shape))))
    where
      put : Value → Course
      put v = with_store b (write b.store (Scalar n) v)

      both : Evaluated → Type 0
      both ev = AlikeCourses k (f ev) (then_do (with_value (settled ev) put) g)

      by : (r : Answer) → evaluated e (seen a) ≡ early r → AlikeCourses k (f (early r)) (then_do (with_value (settled (early r)) put) g)
      by (Ok v) eq =
          let u : State = record b { store = write b.store (Scalar n) v } in
          let i : AlikeStates k a u = set-alike k n l run a b v h in
          let least : n ≤ n = omega arith in
          let there : evaluated e (seen u) ≡ early (Ok v) = evaluated-frame k e (seen a) u.store below i.store ∙ eq in
          let here : evaluated (asked n) (seen u) ≡ told (Ok v) = ap (λ w. told (Ok w)) (ap (λ c. cond c v (b.store.scalar n)) (eq-eqb n n refl)) in
          subst (λ ev. AlikeCourses k (f (told ev.rest)) (g u)) eq (each u i (set-alike n n least run b b v (agree-itself n b)) (here ∙ sym (ap (λ (ev : Evaluated). told ev.rest) there)))
      by (Err x) eq = subst (λ c. AlikeCourses k c (Faults x)) (sym (strict x (Err x))) refl

  keep-told : (n m : ℕ) (e : Expr) (u w : State) → AlikeStates m u w → ReadsBelow m (told_from n e) → ReadsBelow m e → IsTold n e u → IsTold n e w
  keep-told n m e u w h b c p =
      evaluated-frame m (told_from n e) (seen u) w.store b h.store ∙ p ∙ sym (ap (λ (ev : Evaluated). told ev.rest) (evaluated-frame m e (seen u) w.store c h.store))

  -- two expressions, of which the first is hoisted first
  pair-alike : (n : ℕ) (e d : Expr) → ReadsAlike n e → ReadsAlike (n + count_read e) d → (join : Answer → Answer → Answer) → (a b : State) → AlikeStates k a b → k ≤ n → ReadsBelow k e → ReadsBelow k d → (f : Evaluated → Course) → Strict f → (g : State → Course) →
      ((u : State) → AlikeStates k a u → AlikeStates n b u → IsTold n e u → IsTold (n + count_read e) d u → AlikeCourses k (f (told (join (evaluated e (seen a)).rest (evaluated d (seen a)).rest))) (g u)) →
      AlikeCourses k (f (pair join (evaluated e (seen a)) (evaluated d (seen a)))) (then_do (sequential (sequence (reads_set n key e ++ reads_set (n + count_read e) key d)) run b) g)
  pair-alike n e d p q join a b h l r s f strict g each =
      let m = n + count_read e in
      let more : k ≤ m = omega arith in
      let on : n ≤ m = omega arith in
      let x = evaluated e (seen a) in
      let y = evaluated d (seen a) in
      subst (λ c. AlikeCourses k (f (pair join x y)) (then_do c g)) (sym (sequence-both (reads_set n key e) (reads_set m key d) run b))
      (subst (AlikeCourses k (f (pair join x y))) (sym (then-then (sequential (sequence (reads_set n key e)) run b) (sequential (sequence (reads_set m key d)) run) g))
      (p a b h l r (λ ev. f (pair join ev y)) (λ e r. strict e (join r y.rest)) (λ u. then_do (sequential (sequence (reads_set m key d)) run u) g)
      (λ u i j t. q a u i more s (λ ev. f (pair join (told x.rest) ev)) (λ e r. strict e (join x.rest r)) g
      (λ w v o z. each w v (agree-on n b u w j (agree-less n m u w on o)) (keep-told n m e u w o (told-below k n e l r) (below-more k m e more r) t) z))))

  -- three of them
  triple-alike : (n : ℕ) (c e d : Expr) → ReadsAlike n c → ReadsAlike (n + count_read c) e → ReadsAlike ((n + count_read c) + count_read e) d → (join : Answer → Answer → Answer → Answer) → (a b : State) → AlikeStates k a b → k ≤ n → ReadsBelow k c → ReadsBelow k e → ReadsBelow k d → (f : Evaluated → Course) → Strict f → (g : State → Course) →
      ((u : State) → AlikeStates k a u → AlikeStates n b u → IsTold n c u → IsTold (n + count_read c) e u → IsTold ((n + count_read c) + count_read e) d u → AlikeCourses k (f (told (join (evaluated c (seen a)).rest (evaluated e (seen a)).rest (evaluated d (seen a)).rest))) (g u)) →
      AlikeCourses k (f (triple join (evaluated c (seen a)) (evaluated e (seen a)) (evaluated d (seen a)))) (then_do (sequential (sequence (reads_set n key c ++ (reads_set (n + count_read c) key e ++ reads_set ((n + count_read c) + count_read e) key d))) run b) g)
  triple-alike n c e d o p q join a b h l s t v f strict g each =
      let m = n + count_read c in
      let others = reads_set m key e ++ reads_set (m + count_read e) key d in
      let more : k ≤ m = omega arith in
      let on : n ≤ m = omega arith in
      let z = evaluated c (seen a) in
      let x = evaluated e (seen a) in
      let y = evaluated d (seen a) in
      subst (λ i. AlikeCourses k (f (triple join z x y)) (then_do i g)) (sym (sequence-both (reads_set n key c) others run b))
      (subst (AlikeCourses k (f (triple join z x y))) (sym (then-then (sequential (sequence (reads_set n key c)) run b) (sequential (sequence others) run) g))
      (o a b h l s (λ ev. f (triple join ev x y)) (λ e r. strict e (join r x.rest y.rest)) (λ u. then_do (sequential (sequence others) run u) g)
      (λ u i j w. pair-alike m e d p q (join z.rest) a u i more t v f strict g
      (λ r i' j' w1 w2. each r i' (agree-on n b u r j (agree-less n m u r on j')) (keep-told n m c u r j' (told-below k n c l s) (below-more k m c more s) w) w1 w2))))

  pub reads-alike : (e : Expr) (n : ℕ) → ReadsAlike n e
  reads-alike (Const v) n a b h l s f strict g each = each b h (agree-itself n b) refl
  reads-alike (Var x at) n a b h l s f strict g each = each b h (agree-itself n b) refl
  reads-alike (Property x p at) n a b h l s f strict g each = one-alike n (Property x p at) _ a b refl h l s f strict g each
  reads-alike (EdgeProperty x p at) n a b h l s f strict g each = each b h (agree-itself n b) refl
  reads-alike (Degree d x at) n a b h l s f strict g each = one-alike n (Degree d x at) _ a b refl h l s f strict g each
  reads-alike NodeCount n a b h l s f strict g each = each b h (agree-itself n b) refl
  reads-alike EdgeCount n a b h l s f strict g each = each b h (agree-itself n b) refl
  reads-alike (Live x at) n a b h l s f strict g each = one-alike n (Live x at) _ a b refl h l s f strict g each
  reads-alike (Unary op at e) n a b h l s f strict g each =
      let join : State → Answer → Answer = λ u r. then_with r (λ v. located (seen u) at (result1 op v)) in
      reads-alike e n a b h l s (λ ev. f (record { hoisted = ev.hoisted; rest = join a ev.rest })) (λ x r. strict x (join a r)) g
      (λ u i j t. each u i j (ap (λ (ev : Evaluated). record { hoisted = ev.hoisted; rest = join u ev.rest }) t))
  reads-alike (Binary op at e d) n a b h l s f strict g each =
      let join : State → Answer → Answer → Answer = λ u r q. then_with r (λ v. then_with q (λ w. located (seen u) at (result2 op v w))) in
      pair-alike n e d (reads-alike e n) (reads-alike d (n + count_read e)) (join a) a b h l s.0 s.1 f strict g
      (λ u i j t q. each u i j (ap (λ ev. pair (join u) ev (evaluated (told_from (n + count_read e) d) (seen u))) t ∙ ap (pair (join u) (told (evaluated e (seen u)).rest)) q))
  reads-alike (Both e d) n a b h l s f strict g each =
      let join : Answer → Answer → Answer = λ r q. then_with r (λ x. if is_true x then q else Ok x) in
      pair-alike n e d (reads-alike e n) (reads-alike d (n + count_read e)) join a b h l s.0 s.1 f strict g
      (λ u i j t q. each u i j (ap (λ ev. pair join ev (evaluated (told_from (n + count_read e) d) (seen u))) t ∙ ap (pair join (told (evaluated e (seen u)).rest)) q))
  reads-alike (Either e d) n a b h l s f strict g each =
      let join : Answer → Answer → Answer = λ r q. then_with r (λ x. if is_true x then Ok x else q) in
      pair-alike n e d (reads-alike e n) (reads-alike d (n + count_read e)) join a b h l s.0 s.1 f strict g
      (λ u i j t q. each u i j (ap (λ ev. pair join ev (evaluated (told_from (n + count_read e) d) (seen u))) t ∙ ap (pair join (told (evaluated e (seen u)).rest)) q))
  reads-alike (Choose c e d) n a b h l s f strict g each =
      let join : Answer → Answer → Answer → Answer = λ o r q. then_with o (λ x. if is_true x then r else q) in
      let m = n + count_read c in
      triple-alike n c e d (reads-alike c n) (reads-alike e m) (reads-alike d (m + count_read e)) join a b h l s.0 s.1 s.2 f strict g
      (λ u i j t q o. each u i j
      (ap (λ ev. triple join ev (evaluated (told_from m e) (seen u)) (evaluated (told_from (m + count_read e) d) (seen u))) t
      ∙ ap (λ ev. triple join (told (evaluated c (seen u)).rest) ev (evaluated (told_from (m + count_read e) d) (seen u))) q
      ∙ ap (triple join (told (evaluated c (seen u)).rest) (told (evaluated e (seen u)).rest)) o))
  reads-alike (Folded fold head test e) n a b h l s f strict g each = one-alike n (Folded fold head test e) _ a b refl h l s f strict g each
