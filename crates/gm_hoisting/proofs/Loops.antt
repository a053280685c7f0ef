-- A loop over nodes with the reductions of its filter and its body as inner loops goes alike.
use Rattle.std.proofs.Common.{◌≡◌, ◌≤◌, ◌<◌, ◌+◌, ◌++◌, ℕ, Bool, true, false, List, [], ◌∷◌, map, refl, sym, ap, subst, ◌∙◌, arith, Option, Some, None, Result, Ok, Err}
use Rattle.std.specs.Prelude.{◌&&◌, ◌||◌, nat_eq, if◌then◌else◌}
use Rattle.std.proofs.Math.Path.{fun_ext}
use Rattle.std.proofs.lemmas.Bool.{eqb-true}
use Rattle.gm_value.specs.declared.values.Value.TheVariants.{At}
use Rattle.gm_ast.specs.declared.surface.ReductionWord.{ReductionWord}
use Rattle.gm_ast.specs.declared.surface.ReductionWord.TheVariants as W
use Rattle.gm_ast.specs.declared.tree.Fold.{Fold}
use Rattle.gm_ast.specs.declared.tree.Key.{Key}
use Rattle.gm_ast.specs.Program.{Expr, Const, Var, Property, EdgeProperty, Degree, NodeCount, EdgeCount, Live, Unary, Binary, Both, Either, Choose, Folded, Stmt, Skip, Then, Declare, Assign, Defer, Combine, If, sequence}
use Rattle.gm_semantics.specs.declared.faults.Fault.{Fault}
use Rattle.gm_semantics.specs.declared.slots.Slot.TheVariants.{Scalar}
use Rattle.gm_semantics.specs.declared.slots.Write.{Write}
use Rattle.gm_semantics.specs.Stores.{Store, write, overlaid}
use Rattle.gm_semantics.specs.Faults.{least, unless_fault, somes, joined}
use Rattle.gm_semantics.specs.Contributions.{settled_store, total_faults}
use Rattle.gm_semantics.specs.Frames.{Agree, ReadsBelow, NamesBelow, Alike, AlikeStores, AlikeStates, AlikeCourses}
use Rattle.gm_semantics.specs.Iterations.{Loop, Iteration, Outermost, begun, does}
use Rattle.gm_semantics.specs.Loops.{pushes, iteration, left_at, own_left, loop_done, parallel}
use Rattle.gm_semantics.specs.Statements.{Run, State, loop_of, with_value, with_store, loops}
use Rattle.gm_semantics.proofs.ExpressionFrames.{agree-write}
use Rattle.gm_semantics.proofs.BodyFrames.{settled-agree, total_faults-agree, EachAlike, each-mapped, outermost-joined, deferred-joined, faults-mapped, outermost-all_below}
use Rattle.gm_forms.specs.Ready.{is_outer_expr, is_outer_code, is_outer_loop}
use Rattle.gm_forms.proofs.Named.{both-true}
use Rattle.gm_forms.proofs.Weaker.{and-true}
use Rattle.gm_hoisting.specs.Hoisting.{count_folds, count_body, has_none, joins, giving, placed, folds_set, all_set, told_from, all_told, behind, body_out, filter_left, under, opened}
use Rattle.gm_hoisting.proofs.Bodies.{BodyLate, body-alike}
use Rattle.gm_hoisting.proofs.FoldsAlike.{AreLocals}

-- ---- where there are no reductions

sum-zero : (a b : ℕ) → a + b ≡ 0 → (a ≡ 0) × (b ≡ 0)
sum-zero a b h = (omega (arith, h), omega (arith, h))

append-none : {A : Type 0} (xs ys : List A) → xs ≡ [] → ys ≡ [] → xs ++ ys ≡ []
append-none xs ys p q = ap (λ z. z ++ ys) p ∙ q

pub none-set : (e : Expr) (n : ℕ) (k : Key) → count_folds e ≡ 0 → folds_set n k e ≡ []
none-set (Const v) n k h = refl
none-set (Var x at) n k h = refl
none-set (Property x p at) n k h = refl
none-set (EdgeProperty x p at) n k h = refl
none-set (Degree d x at) n k h = refl
none-set NodeCount n k h = refl
none-set EdgeCount n k h = refl
none-set (Live x at) n k h = refl
none-set (Unary op at e) n k h = none-set e n k h
none-set (Binary op at a b) n k h = let q = sum-zero (count_folds a) (count_folds b) h in append-none _ _ (none-set a n k q.0) (none-set b (n + count_folds a) k q.1)
none-set (Both a b) n k h = let q = sum-zero (count_folds a) (count_folds b) h in append-none _ _ (none-set a n k q.0) (none-set b (n + count_folds a) k q.1)
none-set (Either a b) n k h = let q = sum-zero (count_folds a) (count_folds b) h in append-none _ _ (none-set a n k q.0) (none-set b (n + count_folds a) k q.1)
none-set (Choose c a b) n k h =
    let q = sum-zero (count_folds c) (count_folds a + count_folds b) h in
    let r = sum-zero (count_folds a) (count_folds b) q.1 in
    append-none _ _ (none-set c n k q.0) (append-none _ _ (none-set a (n + count_folds c) k r.0) (none-set b ((n + count_folds c) + count_folds a) k r.1))
none-set (Folded f hd test e) n k h = absurd (omega (arith, h))

pub none-told : (e : Expr) (n : ℕ) → count_folds e ≡ 0 → told_from n e ≡ e
none-told (Const v) n h = refl
none-told (Var x at) n h = refl
none-told (Property x p at) n h = refl
none-told (EdgeProperty x p at) n h = refl
none-told (Degree d x at) n h = refl
none-told NodeCount n h = refl
none-told EdgeCount n h = refl
none-told (Live x at) n h = refl
none-told (Unary op at e) n h = ap (Unary op at) (none-told e n h)
none-told (Binary op at a b) n h = let q = sum-zero (count_folds a) (count_folds b) h in ap (λ z. Binary op at z (told_from (n + count_folds a) b)) (none-told a n q.0) ∙ ap (Binary op at a) (none-told b (n + count_folds a) q.1)
none-told (Both a b) n h = let q = sum-zero (count_folds a) (count_folds b) h in ap (λ z. Both z (told_from (n + count_folds a) b)) (none-told a n q.0) ∙ ap (Both a) (none-told b (n + count_folds a) q.1)
none-told (Either a b) n h = let q = sum-zero (count_folds a) (count_folds b) h in ap (λ z. Either z (told_from (n + count_folds a) b)) (none-told a n q.0) ∙ ap (Either a) (none-told b (n + count_folds a) q.1)
none-told (Choose c a b) n h =
    let q = sum-zero (count_folds c) (count_folds a + count_folds b) h in
    let r = sum-zero (count_folds a) (count_folds b) q.1 in
    let n1 = n + count_folds c in
    ap (λ z. Choose z (told_from n1 a) (told_from (n1 + count_folds a) b)) (none-told c n q.0)
    ∙ ap (λ z. Choose c z (told_from (n1 + count_folds a) b)) (none-told a n1 r.0) ∙ ap (Choose c a) (none-told b (n1 + count_folds a) r.1)
none-told (Folded f hd test e) n h = absurd (omega (arith, h))

-- ---- what is hoisted pushes nothing

module _ (o p : ℕ) where
  pushes-sequence : (xs ys : List Stmt) → pushes (sequence (xs ++ ys)) o p ≡ pushes (sequence xs) o p || pushes (sequence ys) o p
  pushes-sequence [] ys = refl
  pushes-sequence (x ∷ xs) ys = ap (λ b. pushes x o p || b) (pushes-sequence xs ys) ∙ either-assoc (pushes x o p) (pushes (sequence xs) o p) (pushes (sequence ys) o p)
    where
      either-assoc : (a b c : Bool) → a || (b || c) ≡ (a || b) || c
      either-assoc true b c = refl
      either-assoc false b c = refl

  giving-quiet : (j : Bool) (word : ReductionWord) (x : ℕ) (f : Fold) (e : Expr) → pushes (giving j word x f e) o p ≡ false
  giving-quiet true word x f e = refl
  giving-quiet false W.Count x f e = refl
  giving-quiet false W.Sum x f e = refl
  giving-quiet false W.Product x f e = refl
  giving-quiet false W.Min x f e = refl
  giving-quiet false W.Max x f e = refl
  giving-quiet false W.Exist x f e = refl
  giving-quiet false W.All x f e = refl

  quiet-both : (xs ys : List Stmt) → pushes (sequence xs) o p ≡ false → pushes (sequence ys) o p ≡ false → pushes (sequence (xs ++ ys)) o p ≡ false
  quiet-both xs ys h k = pushes-sequence xs ys ∙ ap (λ b. b || pushes (sequence ys) o p) h ∙ k

  folds-quiet : (e : Expr) (n : ℕ) (k : Key) → pushes (sequence (folds_set n k e)) o p ≡ false
  folds-quiet (Const v) n k = refl
  folds-quiet (Var x at) n k = refl
  folds-quiet (Property x q at) n k = refl
  folds-quiet (EdgeProperty x q at) n k = refl
  folds-quiet (Degree d x at) n k = refl
  folds-quiet NodeCount n k = refl
  folds-quiet EdgeCount n k = refl
  folds-quiet (Live x at) n k = refl
  folds-quiet (Unary op at e) n k = folds-quiet e n k
  folds-quiet (Binary op at a b) n k = quiet-both (folds_set n k a) (folds_set (n + count_folds a) k b) (folds-quiet a n k) (folds-quiet b (n + count_folds a) k)
  folds-quiet (Both a b) n k = quiet-both (folds_set n k a) (folds_set (n + count_folds a) k b) (folds-quiet a n k) (folds-quiet b (n + count_folds a) k)
  folds-quiet (Either a b) n k = quiet-both (folds_set n k a) (folds_set (n + count_folds a) k b) (folds-quiet a n k) (folds-quiet b (n + count_folds a) k)
  folds-quiet (Choose c a b) n k =
      quiet-both (folds_set n k c) (folds_set (n + count_folds c) k a ++ folds_set ((n + count_folds c) + count_folds a) k b) (folds-quiet c n k)
      (quiet-both (folds_set (n + count_folds c) k a) (folds_set ((n + count_folds c) + count_folds a) k b) (folds-quiet a (n + count_folds c) k) (folds-quiet b ((n + count_folds c) + count_folds a) k))
  folds-quiet (Folded f h test e) n k = let g = placed f h test e in ap (λ b. b || false) (giving-quiet (joins g.word g) g.word n g e)

  all-quiet : (es : List Expr) (n : ℕ) (k : Key) → pushes (sequence (all_set n k es)) o p ≡ false
  all-quiet [] n k = refl
  all-quiet (e ∷ es) n k = quiet-both (folds_set n k e) (all_set (n + count_folds e) k es) (folds-quiet e n k) (all-quiet es (n + count_folds e) k)

  behind-quiet : (xs : List Stmt) (t : Stmt) → pushes (sequence xs) o p ≡ false → pushes (behind xs t) o p ≡ pushes t o p
  behind-quiet [] t h = refl
  behind-quiet (x ∷ xs) t h = pushes-sequence (x ∷ xs) (t ∷ []) ∙ ap (λ b. b || (pushes t o p || false)) h ∙ no-more (pushes t o p)
    where
      no-more : (b : Bool) → b || false ≡ b
      no-more true = refl
      no-more false = refl

  pub pushes-same : (s : Stmt) (n : ℕ) → pushes (body_out n s) o p ≡ pushes s o p
  pushes-same (Then a b) n = ap (λ c. c || pushes (body_out (n + count_body a) b) o p) (pushes-same a n) ∙ ap (λ c. pushes a o p || c) (pushes-same b (n + count_body a))
  pushes-same (Declare k x (Some e)) n = behind-quiet (folds_set n k e) (Declare k x (Some (told_from n e))) (folds-quiet e n k)
  pushes-same (Assign k t e) n = behind-quiet (folds_set n k e) (Assign k t (told_from n e)) (folds-quiet e n k)
  pushes-same (Defer k t e) n = behind-quiet (folds_set n k e) (Defer k t (told_from n e)) (folds-quiet e n k)
  pushes-same (Combine k total r ts es) n = behind-quiet (all_set n k es) (Combine k total r ts (all_told n es)) (all-quiet es n k)
  pushes-same (If k c a b) n =
      behind-quiet (folds_set n k c) (If k (told_from n c) (body_out (n + count_folds c) a) (body_out ((n + count_folds c) + count_body a) b)) (folds-quiet c n k)
      ∙ ap (λ d. d || pushes (body_out ((n + count_folds c) + count_body a) b) o p) (pushes-same a (n + count_folds c)) ∙ ap (λ d. pushes a o p || d) (pushes-same b ((n + count_folds c) + count_body a))
  pushes-same s n = refl

-- ---- the body behind its filter

-- a loop's body under its filter
abbrev pub guarded : Key → Expr → Stmt → Stmt
guarded k test body = If k test body Skip

zero-count : (e : Expr) → has_none e ≡ true → count_folds e ≡ 0
zero-count e h = eqb-true (count_folds e) 0 h

-- ---- loops

module _ (k : ℕ) where
  left-agree : (ks : List ℕ) (xs ys : List Iteration) (s t : Store) → EachAlike k xs ys → Agree k s t → (p n : ℕ) → p < k → left_at ks ys t p n ≡ left_at ks xs s p n
  left-agree [] xs ys s t each h p n b = h.node p n b
  left-agree (i ∷ ks) [] [] s t each h p n b = h.node p n b
  left-agree (i ∷ ks) [] (y ∷ ys) s t each h p n b = absurd each
  left-agree (i ∷ ks) (x ∷ xs) [] s t each h p n b = absurd each
  left-agree (i ∷ ks) (x ∷ xs) (y ∷ ys) s t each h p n b =
      ap (λ v. if nat_eq i n then v else left_at ks ys t p n) (each.0.store.node p n b) ∙ ap (λ v. if nat_eq i n then x.store.node p n else v) (left-agree ks xs ys s t each.1 h p n b)

  overlaid-agree : (ws : List Write) (s t : Store) → Agree k s t → Agree k (overlaid s ws) (overlaid t ws)
  overlaid-agree [] s t h = h
  overlaid-agree (w ∷ ws) s t h = overlaid-agree ws _ _ (agree-write k s t w.slot w.value h)

  stores-alike : (o : Option Fault) (s t : Store) → Agree k s t → AlikeStores k (unless_fault o (Ok s)) (unless_fault o (Ok t))
  stores-alike None s t h = h
  stores-alike (Some f) s t h = refl

  done-alike : (ks : List ℕ) (xs ys : List Iteration) (s t : Store) → EachAlike k xs ys → Agree k s t → AlikeStores k (loop_done s ks xs) (loop_done t ks ys)
  done-alike ks xs ys s t each h =
      let own = own_left s ks xs in
      let own' = own_left t ks ys in
      let cs = joined (map (λ (it : Iteration). it.with_outermost) xs) in
      let ds = joined (map (λ (it : Iteration). it.with_outermost) ys) in
      let ws = joined (map (λ (it : Iteration). it.deferred) xs) in
      let us = joined (map (λ (it : Iteration). it.deferred) ys) in
      let o = least (somes (map (λ (it : Iteration). it.fault) xs) ++ total_faults own cs) in
      let agree : Agree k own own' = record { scalar = h.scalar; node = left-agree ks xs ys s t each h; edge = h.edge } in
      let faults : least (somes (map (λ (it : Iteration). it.fault) ys) ++ total_faults own' ds) ≡ o =
      ap (λ os. least (somes os ++ total_faults own' ds)) (faults-mapped k xs ys each)
      ∙ ap (λ ds. least (somes (map (λ (it : Iteration). it.fault) xs) ++ total_faults own' ds)) (outermost-joined k xs ys each)
      ∙ ap (λ fs. least (somes (map (λ (it : Iteration). it.fault) xs) ++ fs)) (total_faults-agree k own own' cs (outermost-all_below k xs ys each) agree) in
      subst (λ q. AlikeStores k (unless_fault o (Ok (overlaid (settled_store own cs) ws))) (unless_fault q (Ok (overlaid (settled_store own' ds) us)))) (sym faults)
      (subst (λ ds. AlikeStores k (unless_fault o (Ok (overlaid (settled_store own cs) ws))) (unless_fault o (Ok (overlaid (settled_store own' ds) us)))) (sym (outermost-joined k xs ys each))
      (subst (λ us. AlikeStores k (unless_fault o (Ok (overlaid (settled_store own cs) ws))) (unless_fault o (Ok (overlaid (settled_store own' cs) us)))) (sym (deferred-joined k xs ys each))
      (stores-alike o _ _ (overlaid-agree ws _ _ (settled-agree k own own' cs (outermost-all_below k xs ys each) agree)))))

  begun-alike : (s t : Store) → Agree k s t → Alike k (begun s) (begun t)
  begun-alike s t h = record { store = h; with_inner = refl; with_outermost = refl; deferred = refl; fault = refl; inner_below = tt; outermost_below = tt }

  -- the loop's body opened is the guarded body hoisted
  opened-iterates : (loop : Loop) (j key : Key) (test : Expr) (body : Stmt) (n : ℕ) (t : Store) (i : ℕ) (b : Bool) → has_none test ≡ b → (b ≡ true → j ≡ key) →
      let start = begun (write t (Scalar loop.outer) (At (Some i))) in
      iteration loop j (filter_left (has_none test) test) (opened n key test body) t i ≡ does (body_out n (guarded key test body)) Outermost loop start
  opened-iterates loop j key test body n t i true none keys =
      let start = begun (write t (Scalar loop.outer) (At (Some i))) in
      let zero = zero-count test none in
      let hoisted = body_out (n + count_folds test) body in
      ap (λ c. iteration loop j (filter_left c test) (opened_by c) t i) none
      ∙ ap (λ m. iteration loop m test hoisted t i) (keys refl)
      ∙ sym (ap (λ c. does (behind (folds_set n key test) (If key c hoisted Skip)) Outermost loop start) (none-told test n zero) ∙ ap (λ xs. does (behind xs (If key test hoisted Skip)) Outermost loop start) (none-set test n key zero))
    where
      opened_by : Bool → Stmt
      opened_by c = under c n key test (body_out (n + count_folds test) body)
  opened-iterates loop j key test body n t i false some keys =
      ap (λ c. iteration loop j (filter_left c test) (opened_by c) t i) some
    where
      opened_by : Bool → Stmt
      opened_by c = under c n key test (body_out (n + count_folds test) body)

module _ (k : ℕ) (run : Run) (ls : ℕ → Option ℕ) (levels : Bool) (x : ℕ) where
  -- the totals of the reductions of a loop's filter and body fault behind their elements
  abbrev pub LoopLate : Key → Expr → Stmt → Type 0
  LoopLate key test body = BodyLate k run.declarations (loop_of run ls x body) levels x (guarded key test body)

  loop-same : (key : Key) (test : Expr) (body : Stmt) (n : ℕ) → loop_of run ls x (opened n key test body) ≡ loop_of run ls x body
  loop-same key test body n = ap (λ (f : ℕ → Bool). let l : Loop = record (loop_of run ls x body) { pushed = f } in l) (fun_ext (λ p. by p (has_none test)))
    where
      by : (p : ℕ) (b : Bool) → pushes (under b n key test (body_out (n + count_folds test) body)) x p ≡ pushes body x p
      by p true = pushes-same x p body (n + count_folds test)
      by p false =
          behind-quiet x p (folds_set n key test) (If key (told_from n test) (body_out (n + count_folds test) body) Skip) (folds-quiet x p test n key)
          ∙ no-more (pushes (body_out (n + count_folds test) body) x p) ∙ pushes-same x p body (n + count_folds test)
        where
          no-more : (b : Bool) → b || false ≡ b
          no-more true = refl
          no-more false = refl

  pub loop-alike : (j key : Key) (test : Expr) (body : Stmt) (n : ℕ) → (has_none test ≡ true → j ≡ key) → k ≤ n → ReadsBelow k test → NamesBelow k body → is_outer_loop run.declarations levels x test body ≡ true →
      AreLocals (loop_of run ls x body) n (count_folds test + count_body body) → LoopLate key test body → (ks : List ℕ) (s t : State) → AlikeStates k s t →
      AlikeCourses k (loops run ls x key test body ks s) (loops run ls x j (filter_left (has_none test) test) (opened n key test body) ks t)
  loop-alike j key test body n keys l reads names form locals late ks s t h =
      stores-go (parallel loop key test body ks s.store) (parallel (loop_of run ls x (opened n key test body)) j (filter_left (has_none test) test) (opened n key test body) ks t.store)
      (subst (λ (o : Loop). AlikeStores k (parallel loop key test body ks s.store) (parallel o j (filter_left (has_none test) test) (opened n key test body) ks t.store)) (sym (loop-same key test body n))
      (done-alike k ks _ _ s.store t.store (each-mapped k (iteration loop key test body s.store) (iteration loop j (filter_left (has_none test) test) (opened n key test body) t.store) ks each) h.store))
    where
      loop : Loop
      loop = loop_of run ls x body

      stores-go : (r q : Result Store Fault) → AlikeStores k r q → AlikeCourses k (with_value r (with_store s)) (with_value q (with_store t))
      stores-go (Ok u) (Ok v) a = record { store = a; turns = h.turns }
      stores-go (Ok u) (Err f) a = absurd a
      stores-go (Err f) (Ok v) a = absurd a
      stores-go (Err f) (Err g) a = a

      whole : AreLocals loop n (count_body (guarded key test body))
      whole i lo hi = locals i lo (omega (arith, hi))

      each : (i : ℕ) → Alike k (iteration loop key test body s.store i) (iteration loop j (filter_left (has_none test) test) (opened n key test body) t.store i)
      each i =
          let a = begun (write s.store (Scalar x) (At (Some i))) in
          let b = begun (write t.store (Scalar x) (At (Some i))) in
          let start : Alike k a b = begun-alike k _ _ (agree-write k s.store t.store (Scalar x) (At (Some i)) h.store) in
          let forms = both-true (is_outer_expr levels x test) (is_outer_code run.declarations levels x body) form in
          subst (Alike k (iteration loop key test body s.store i)) (sym (opened-iterates k loop j key test body n t.store i (has_none test) refl (λ e. keys e)))
          (body-alike k run.declarations loop levels x (guarded key test body) n l (reads, names, tt)
          (and-true (is_outer_expr levels x test) (is_outer_code run.declarations levels x body && true) forms.0 (and-true (is_outer_code run.declarations levels x body) true forms.1 refl))
          whole late a b refl start)
