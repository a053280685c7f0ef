-- Faults of loops and searches with their reductions as inner loops stand in order.
use Rattle.std.proofs.Common.{◌≡◌, ◌+◌, ◌++◌, ℕ, Bool, true, false, List, [], ◌∷◌, refl, sym, ap, subst, ◌∙◌, arith, ⊎_elim, inl}
use Rattle.std.specs.Prelude.{◌&&◌, ◌||◌, not, nat_eq, nat_lt}
use Rattle.std.proofs.lemmas.Bool.{both_ways, eqb-true}
use Rattle.std.proofs.lemmas.Bool.Decides.{nat_tests}
use Rattle.gm_base.specs.declared.places.Place.{Place}
use Rattle.gm_base.specs.Places.{place_lt}
use Rattle.gm_ast.specs.declared.tree.Declaration.{Declaration}
use Rattle.gm_ast.specs.declared.tree.Key.{Key}
use Rattle.gm_ast.specs.declared.tree.Search.{Search}
use Rattle.gm_ast.specs.Keys as K
use Rattle.gm_ast.specs.Keys.{stage_rank, fault_lt}
use Rattle.gm_ast.specs.Loops.{is_nodes}
use Rattle.gm_ast.specs.Program.{Expr, always, Const, Var, Property, EdgeProperty, Degree, NodeCount, EdgeCount, Live, Unary, Binary, Both, Either, Choose, Folded, Stmt, Skip, Then, Foreach, For, If, While, Do, InBfs, InBfsBoth}
use Rattle.gm_forms.specs.Order.{lie_before, fault_of, first_key, are_numbered, cannot_fail, can_fail1, can_fail2, rest_in, hoisted_in, faults_in, in_order, faults_of, body_in_order, leads, begins, loop_in_order, search_in_order, folds_in_order, loops_in_order}
use Rattle.gm_forms.specs.Ready.{is_outer_expr, is_outer_code, is_outer_loop, is_phase_expr, is_phase_code}
use Rattle.gm_forms.proofs.CutLaws.{lies-in}
use Rattle.gm_forms.proofs.Doings.{in-either}
use Rattle.gm_forms.proofs.Leading.{numbered-both, numbered-first, numbered-second, rest-under, under-numbered, first-stands}
use Rattle.gm_forms.proofs.Named.{both-true}
use Rattle.gm_forms.proofs.Weaker.{and-true}
use Rattle.gm_desugar.proofs.Fewer.{Fewer, lie-from, lie-fewer, fewer-both, numbered-fewer, nothing-before}
use Rattle.gm_hoisting.specs.Hoisting.{count_folds, is_sure, has_none, folds_set, told_from, behind, body_out, filter_left, loop_key, search_key, under, opened, root_checked, count_check, count_loop, count_phase, phase_out}
use Rattle.gm_hoisting.specs.Totals.{as_sums, body_as_sums, loops_as_sums, values_stand, search_stands, loops_stand}
use Rattle.gm_hoisting.proofs.OrderKept.{InOrder, body-ordered, if-behind}
use Rattle.gm_hoisting.proofs.Phases.{outer-again}

-- ---- expressions with and without reductions

sum-zero : (a b : ℕ) → a + b ≡ 0 → (a ≡ 0) × (b ≡ 0)
sum-zero a b h = (omega (arith, h), omega (arith, h))

-- without reductions there is nothing to change
none-sums : (e : Expr) → count_folds e ≡ 0 → as_sums e ≡ e
none-sums (Const v) h = refl
none-sums (Var x at) h = refl
none-sums (Property x p at) h = refl
none-sums (EdgeProperty x p at) h = refl
none-sums (Degree d x at) h = refl
none-sums NodeCount h = refl
none-sums EdgeCount h = refl
none-sums (Live x at) h = refl
none-sums (Unary op at e) h = ap (Unary op at) (none-sums e h)
none-sums (Binary op at a b) h = let q = sum-zero (count_folds a) (count_folds b) h in ap (λ z. Binary op at z (as_sums b)) (none-sums a q.0) ∙ ap (Binary op at a) (none-sums b q.1)
none-sums (Both a b) h = let q = sum-zero (count_folds a) (count_folds b) h in ap (λ z. Both z (as_sums b)) (none-sums a q.0) ∙ ap (Both a) (none-sums b q.1)
none-sums (Either a b) h = let q = sum-zero (count_folds a) (count_folds b) h in ap (λ z. Either z (as_sums b)) (none-sums a q.0) ∙ ap (Either a) (none-sums b q.1)
none-sums (Choose c a b) h =
    let q = sum-zero (count_folds c) (count_folds a + count_folds b) h in
    let r = sum-zero (count_folds a) (count_folds b) q.1 in
    ap (λ z. Choose z (as_sums a) (as_sums b)) (none-sums c q.0) ∙ ap (λ z. Choose c z (as_sums b)) (none-sums a r.0) ∙ ap (Choose c a) (none-sums b r.1)
none-sums (Folded f h test e) z = absurd (omega (arith, z))

-- what cannot fault has no reduction
both-zero : (a b : ℕ) → a ≡ 0 → b ≡ 0 → a + b ≡ 0
both-zero a b p q = omega (arith, p, q)

safe-none : (e : Expr) → cannot_fail (as_sums e) ≡ true → count_folds e ≡ 0
safe-none (Const v) h = refl
safe-none (Var x at) h = refl
safe-none (Property x p at) h = refl
safe-none (EdgeProperty x p at) h = refl
safe-none (Degree d x at) h = refl
safe-none NodeCount h = refl
safe-none EdgeCount h = refl
safe-none (Live x at) h = refl
safe-none (Unary op at e) h = safe-none e (both-true (not (can_fail1 op)) (cannot_fail (as_sums e)) h).1
safe-none (Binary op at a b) h =
    let q = both-true (cannot_fail (as_sums a)) (cannot_fail (as_sums b)) (both-true (not (can_fail2 op)) (cannot_fail (as_sums a) && cannot_fail (as_sums b)) h).1 in
    both-zero (count_folds a) (count_folds b) (safe-none a q.0) (safe-none b q.1)
safe-none (Both a b) h = let q = both-true (cannot_fail (as_sums a)) (cannot_fail (as_sums b)) h in both-zero (count_folds a) (count_folds b) (safe-none a q.0) (safe-none b q.1)
safe-none (Either a b) h = let q = both-true (cannot_fail (as_sums a)) (cannot_fail (as_sums b)) h in both-zero (count_folds a) (count_folds b) (safe-none a q.0) (safe-none b q.1)
safe-none (Choose c a b) h =
    let q = both-true (cannot_fail (as_sums c)) (cannot_fail (as_sums a) && cannot_fail (as_sums b)) h in
    let r = both-true (cannot_fail (as_sums a)) (cannot_fail (as_sums b)) q.1 in
    both-zero (count_folds c) (count_folds a + count_folds b) (safe-none c q.0) (both-zero (count_folds a) (count_folds b) (safe-none a r.0) (safe-none b r.1))
safe-none (Folded f hd test e) h = absurd (both_ways false refl h)

-- ---- keys

-- what comes before a fault of a statement's operators comes so where it is one of its reductions'
inner-first : (s t r q : ℕ) (p : Bool) → nat_lt s t || (nat_eq s t && (nat_lt r q || (nat_eq r q && p))) ≡ true → nat_lt s t || (nat_eq s t && (nat_lt 0 q || (nat_eq 0 q && p))) ≡ true
inner-first s t r q true h = grind (arith, nat_tests)
inner-first s t r q false h = grind (arith, nat_tests)

inner-before : (k : Key) (at : Place) (g : K.Fault) → fault_lt (fault_of k at) g ≡ true → fault_lt (fault_of (search_key false k) at) g ≡ true
inner-before k at g h = inner-first k.statement g.key.statement (stage_rank k.stage) (stage_rank g.key.stage) (place_lt at g.place) h

-- ---- a loop's body behind its filter

module _ (ds : List Declaration) (levels : Bool) (outer : ℕ) where
  abbrev around : List ℕ
  around = outer ∷ []

  -- what is asked of a loop
  record Asked (k : Key) (at : Place) (test : Expr) (body : Stmt) : Type 0 where
    form : is_outer_loop ds levels outer test body ≡ true
    begin : begins around k at (as_sums test) (body_as_sums body) ≡ true
    order : loop_in_order around k (as_sums test) (body_as_sums body) ≡ true
    stand : values_stand body ≡ true

  module _ (n : ℕ) (k : Key) (at : Place) (test : Expr) (body : Stmt) (h : Asked k at test body) where
    abbrev C : Expr
    C = as_sums test

    abbrev B : Stmt
    B = body_as_sums body

    abbrev inside : Stmt
    inside = body_out (n + count_folds test) body

    forms : (is_outer_expr levels outer test ≡ true) × (is_outer_code ds levels outer body ≡ true)
    forms = both-true (is_outer_expr levels outer test) (is_outer_code ds levels outer body) h.form

    orders : (in_order C k ≡ true) × (body_in_order around B ≡ true) × (lie_before (faults_in C k) (faults_of around B) ≡ true)
    orders =
        let o = both-true (in_order C k) _ h.order in
        let p = both-true (body_in_order around B) (lie_before (faults_in C k) (faults_of around B)) o.1 in
        (o.0, p.0, p.1)

    starts : (leads around k at B ≡ true) × (are_numbered (hoisted_in C ++ faults_of around B) ≡ true) × (nat_lt 0 k.statement || cannot_fail C ≡ true)
    starts =
        let o = both-true (leads around k at B) _ h.begin in
        let p = both-true (are_numbered (hoisted_in C ++ faults_of around B)) (nat_lt 0 k.statement || cannot_fail C) o.1 in
        (o.0, p.0, p.1)

    hoisted : InOrder ds levels outer B inside
    hoisted = body-ordered ds levels outer body (n + count_folds test) forms.1 orders.1 h.stand

    -- the filter stays
    stays : count_folds test ≡ 0 → (begins around k at test inside ≡ true) × (loop_in_order around k test inside ≡ true)
    stays none =
        let same = none-sums test none in (
          and-true (leads around k at inside) _ (lie-fewer (fault_of k at ∷ []) (faults_of around B) (fault_of k at ∷ []) (faults_of around inside) (λ f i. i) hoisted.few starts.0)
              (and-true (are_numbered (hoisted_in test ++ faults_of around inside)) (nat_lt 0 k.statement || cannot_fail test)
              (subst (λ e. are_numbered (hoisted_in e ++ faults_of around inside) ≡ true) same (numbered-fewer (hoisted_in C ++ faults_of around B) (hoisted_in C ++ faults_of around inside) (fewer-both (hoisted_in C) (faults_of around B) (hoisted_in C) (faults_of around inside) (λ f i. i) hoisted.few) starts.1))
              (subst (λ e. nat_lt 0 k.statement || cannot_fail e ≡ true) same starts.2)),
          and-true (in_order test k) _ (subst (λ e. in_order e k ≡ true) same orders.0)
              (and-true (body_in_order around inside) (lie_before (faults_in test k) (faults_of around inside)) hoisted.order
              (subst (λ e. lie_before (faults_in e k) (faults_of around inside) ≡ true) same (lie-fewer (faults_in C k) (faults_of around B) (faults_in C k) (faults_of around inside) (λ f i. i) hoisted.few orders.2))),
        )

    -- the filter goes inside
    abbrev guard : Stmt
    guard = behind (folds_set n k test) (If k (told_from n test) inside Skip)

    skip-ordered : InOrder ds levels outer Skip Skip
    skip-ordered = record { order = refl; few = λ f i. i }

    all-before : Fewer (faults_of around B ++ []) (faults_of around B)
    all-before f i = ⊎_elim (λ l. l) (λ r. absurd r) (in-either f (faults_of around B) [] i)

    guarded : InOrder ds levels outer (If k C B Skip) guard
    guarded =
        if-behind ds levels outer k test n B Skip inside Skip forms.0 orders.0 hoisted skip-ordered
        (lie-fewer (faults_in C k) (faults_of around B) (faults_in C k) (faults_of around B ++ []) (λ f i. i) all-before orders.2) refl

    guard-numbered : nat_lt 0 k.statement ≡ true → are_numbered (faults_of around guard) ≡ true
    guard-numbered own =
        numbered-fewer ((hoisted_in C ++ rest_in C k) ++ (faults_of around B ++ [])) (faults_of around guard) guarded.few
        (numbered-both (hoisted_in C ++ rest_in C k) (faults_of around B ++ [])
        (numbered-both (hoisted_in C) (rest_in C k) (numbered-first (hoisted_in C) (faults_of around B) starts.1) (under-numbered k (rest_in C k) own (rest-under C k)))
        (numbered-both (faults_of around B) [] (numbered-second (hoisted_in C) (faults_of around B) starts.1) refl))

    own-number : has_none test ≡ false → nat_lt 0 k.statement ≡ true
    own-number some = by (nat_lt 0 k.statement) refl starts.2
      where
        by : (b : Bool) → nat_lt 0 k.statement ≡ b → b || cannot_fail C ≡ true → b ≡ true
        by true e q = refl
        by false e q = absurd (both_ways (has_none test) some (ap (λ c. nat_eq c 0) (safe-none test q)))

    first : has_none test ≡ false → begins around first_key at always guard && loop_in_order around first_key always guard ≡ true
    first some = first-stands around [] false at always guard refl refl guarded.order (guard-numbered (own-number some))

    -- a search that begins with the key of its reductions
    leads-inner : lie_before (fault_of (search_key false k) at ∷ []) (faults_in C k) ≡ true → leads around (search_key false k) at guard ≡ true
    leads-inner ahead =
        lie-fewer (fault_of (search_key false k) at ∷ []) (faults_in C k ++ (faults_of around B ++ [])) (fault_of (search_key false k) at ∷ []) (faults_of around guard) (λ f i. i) guarded.few
        (lie-from (fault_of (search_key false k) at ∷ []) (faults_in C k ++ (faults_of around B ++ []))
        (λ f g i j. ⊎_elim (λ l. lies-in (fault_of (search_key false k) at ∷ []) (faults_in C k) f g ahead i l)
        (λ r. ⊎_elim (λ (e : f ≡ fault_of (search_key false k) at). subst (λ z. fault_lt z g ≡ true) (sym e) (inner-before k at g (lies-in (fault_of k at ∷ []) (faults_of around B) (fault_of k at) g starts.0 (inl refl) (all-before g r)))) (λ m. absurd m) i)
        (in-either g (faults_in C k) (faults_of around B ++ []) j)))

    inner : lie_before (fault_of (search_key false k) at ∷ []) (faults_in C k) ≡ true → nat_lt 0 k.statement ≡ true → (begins around (search_key false k) at always guard ≡ true) × (loop_in_order around (search_key false k) always guard ≡ true)
    inner ahead own = (
      and-true (leads around (search_key false k) at guard) _ (leads-inner ahead) (and-true (are_numbered (faults_of around guard)) (nat_lt 0 k.statement || true) (guard-numbered own) (or-true (nat_lt 0 k.statement))),
      and-true (body_in_order around guard) (lie_before [] (faults_of around guard)) guarded.order (nothing-before (faults_of around guard)),
    )
      where
        or-true : (b : Bool) → b || true ≡ true
        or-true true = refl
        or-true false = refl

    -- a loop over nodes
    loop-ordered : begins around (loop_key (has_none test) k) at (filter_left (has_none test) test) (opened n k test body) && loop_in_order around (loop_key (has_none test) k) (filter_left (has_none test) test) (opened n k test body) ≡ true
    loop-ordered = by (has_none test) refl
      where
        by : (b : Bool) → has_none test ≡ b → begins around (loop_key b k) at (filter_left b test) (under b n k test inside) && loop_in_order around (loop_key b k) (filter_left b test) (under b n k test inside) ≡ true
        by true none = let q = stays (eqb-true (count_folds test) 0 none) in and-true (begins around k at test inside) (loop_in_order around k test inside) q.0 q.1
        by false some = first some

    -- a search, or its way back
    search-ordered : are_numbered (fault_of k at ∷ []) ≡ true → search_stands k at test ≡ true → search_in_order around (search_key (has_none test) k) at (filter_left (has_none test) test) (opened n k test body) ≡ true
    search-ordered numbered ahead = by (has_none test) refl ahead
      where
        own : nat_lt 0 k.statement ≡ true
        own = (both-true (nat_lt 0 k.statement) true numbered).0

        by : (b : Bool) → has_none test ≡ b → b || lie_before (fault_of (search_key false k) at ∷ []) (faults_in C k) ≡ true → search_in_order around (search_key b k) at (filter_left b test) (under b n k test inside) ≡ true
        by true none z =
            let q = stays (eqb-true (count_folds test) 0 none) in
            and-true (are_numbered (fault_of k at ∷ [])) _ numbered (and-true (begins around k at test inside) (loop_in_order around k test inside) q.0 q.1)
        by false some z =
            let q = inner z own in
            and-true (are_numbered (fault_of (search_key false k) at ∷ [])) _ numbered (and-true (begins around (search_key false k) at always guard) (loop_in_order around (search_key false k) always guard) q.0 q.1)

-- ---- a sequential phase

module _ (ds : List Declaration) where
  checked-ordered : (b : Bool) (n : ℕ) (k : Key) (s : Search) (t : Stmt) → loops_in_order t ≡ true → loops_in_order (root_checked b n k s t) ≡ true
  checked-ordered true n k s t h = h
  checked-ordered false n k s t h = and-true (loops_in_order t) true h refl

  pub phase-ordered : (s : Stmt) (its : List ℕ) (n : ℕ) → is_phase_code ds s ≡ true → loops_in_order (loops_as_sums s) ≡ true → loops_stand s ≡ true → loops_in_order (phase_out its n s) ≡ true
  phase-ordered (Then a b) its n form order stand =
      let f = both-true (is_phase_code ds a) (is_phase_code ds b) form in
      let o = both-true (loops_in_order (loops_as_sums a)) (loops_in_order (loops_as_sums b)) order in
      let z = both-true (loops_stand a) (loops_stand b) stand in
      and-true (loops_in_order (phase_out its n a)) (loops_in_order (phase_out its (n + count_phase its a) b)) (phase-ordered a its n f.0 o.0 z.0) (phase-ordered b its (n + count_phase its a) f.1 o.1 z.1)
  phase-ordered (Foreach k at hd test body) its n form order stand =
      let f = both-true (is_nodes hd.domain) (is_outer_loop ds false hd.iterator test body) form in
      let o = both-true (begins (hd.iterator ∷ []) k hd.place (as_sums test) (body_as_sums body)) (loop_in_order (hd.iterator ∷ []) k (as_sums test) (body_as_sums body)) order in
      loop-ordered ds false hd.iterator n k hd.place test body (record { form = f.1; begin = o.0; order = o.1; stand = stand })
  phase-ordered (For k at hd test body) its n form order stand =
      let f = both-true (is_nodes hd.domain) (is_phase_expr test && is_phase_code ds body) form in
      let o = both-true (folds_in_order test) (loops_in_order (loops_as_sums body)) order in
      and-true (folds_in_order test) (loops_in_order (phase_out (hd.iterator ∷ its) n body)) o.0 (phase-ordered body (hd.iterator ∷ its) n (both-true (is_phase_expr test) (is_phase_code ds body) f.1).1 o.1 stand)
  phase-ordered (If k c a b) its n form order stand =
      let f = both-true (is_phase_code ds a) (is_phase_code ds b) (both-true (is_phase_expr c) (is_phase_code ds a && is_phase_code ds b) form).1 in
      let o = both-true (folds_in_order c) (loops_in_order (loops_as_sums a) && loops_in_order (loops_as_sums b)) order in
      let p = both-true (loops_in_order (loops_as_sums a)) (loops_in_order (loops_as_sums b)) o.1 in
      let z = both-true (loops_stand a) (loops_stand b) stand in
      and-true (folds_in_order c) _ o.0 (and-true (loops_in_order (phase_out its n a)) (loops_in_order (phase_out its (n + count_phase its a) b)) (phase-ordered a its n f.0 p.0 z.0) (phase-ordered b its (n + count_phase its a) f.1 p.1 z.1))
  phase-ordered (While k at c body) its n form order stand =
      let f = both-true (is_phase_expr c) (is_phase_code ds body) form in
      let o = both-true (folds_in_order c) (loops_in_order (loops_as_sums body)) order in
      and-true (folds_in_order c) (loops_in_order (phase_out its n body)) o.0 (phase-ordered body its n f.1 o.1 stand)
  phase-ordered (Do k at body c) its n form order stand =
      let f = both-true (is_phase_code ds body) (is_phase_expr c) form in
      let o = both-true (loops_in_order (loops_as_sums body)) (folds_in_order c) order in
      and-true (loops_in_order (phase_out its n body)) (folds_in_order c) (phase-ordered body its n f.0 o.0 stand) o.1
  phase-ordered (InBfs k at s test body) its n form order stand =
      let m = n + count_check (is_sure its s test) in
      let o = both-true (are_numbered (fault_of k s.place ∷ [])) _ order in
      let p = both-true (begins (s.iterator ∷ []) k s.place (as_sums test) (body_as_sums body)) (loop_in_order (s.iterator ∷ []) k (as_sums test) (body_as_sums body)) o.1 in
      let z = both-true (search_stands k s.place test) (values_stand body) stand in
      checked-ordered (is_sure its s test) n k s (InBfs (search_key (has_none test) k) at s (filter_left (has_none test) test) (opened m k test body))
      (search-ordered ds true s.iterator m k s.place test body (record { form = outer-again ds s.iterator test body form; begin = p.0; order = p.1; stand = z.1 }) o.0 z.0)
  phase-ordered (InBfsBoth k at s test body back_key back_test back) its n form order stand =
      let m = n + count_check (is_sure its s test) in
      let m2 = m + count_loop test body in
      let o = both-true (search_in_order (s.iterator ∷ []) k s.place (as_sums test) (body_as_sums body)) (search_in_order (s.iterator ∷ []) back_key s.place (as_sums back_test) (body_as_sums back)) order in
      let o1 = both-true (are_numbered (fault_of k s.place ∷ [])) _ o.0 in
      let o2 = both-true (are_numbered (fault_of back_key s.place ∷ [])) _ o.1 in
      let p1 = both-true (begins (s.iterator ∷ []) k s.place (as_sums test) (body_as_sums body)) (loop_in_order (s.iterator ∷ []) k (as_sums test) (body_as_sums body)) o1.1 in
      let p2 = both-true (begins (s.iterator ∷ []) back_key s.place (as_sums back_test) (body_as_sums back)) (loop_in_order (s.iterator ∷ []) back_key (as_sums back_test) (body_as_sums back)) o2.1 in
      let z1 = both-true (search_stands k s.place test) (values_stand body && (search_stands back_key s.place back_test && values_stand back)) stand in
      let z2 = both-true (values_stand body) (search_stands back_key s.place back_test && values_stand back) z1.1 in
      let z3 = both-true (search_stands back_key s.place back_test) (values_stand back) z2.1 in
      let f1 = both-true (is_outer_expr false s.iterator test) (is_outer_code ds true s.iterator body && (is_outer_expr false s.iterator back_test && is_outer_code ds true s.iterator back)) form in
      let f2 = both-true (is_outer_code ds true s.iterator body) (is_outer_expr false s.iterator back_test && is_outer_code ds true s.iterator back) f1.1 in
      let front = outer-again ds s.iterator test body (and-true (is_outer_expr false s.iterator test) (is_outer_code ds true s.iterator body) f1.0 f2.0) in
      let forward = search_in_order (s.iterator ∷ []) (search_key (has_none test) k) s.place (filter_left (has_none test) test) (opened m k test body) in
      let backward = search_in_order (s.iterator ∷ []) (search_key (has_none back_test) back_key) s.place (filter_left (has_none back_test) back_test) (opened m2 back_key back_test back) in
      checked-ordered (is_sure its s test) n k s
      (InBfsBoth (search_key (has_none test) k) at s (filter_left (has_none test) test) (opened m k test body) (search_key (has_none back_test) back_key) (filter_left (has_none back_test) back_test) (opened m2 back_key back_test back))
      (and-true forward backward
      (search-ordered ds true s.iterator m k s.place test body (record { form = front; begin = p1.0; order = p1.1; stand = z2.0 }) o1.0 z1.0)
      (search-ordered ds true s.iterator m2 back_key s.place back_test back (record { form = outer-again ds s.iterator back_test back f2.1; begin = p2.0; order = p2.1; stand = z3.1 }) o2.0 z3.0))
  phase-ordered s its n form order stand = order
