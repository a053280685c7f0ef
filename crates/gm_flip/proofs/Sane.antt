-- A turned loop keeps what every pass keeps of its loops: its faults stand in order, and its iterations share what ends with it alone.
use Rattle.std.proofs.Common.{◌≡◌, ℕ, Bool, true, false, cond, List, [], ◌∷◌, ◌++◌, refl, sym, ap, subst, ◌∙◌, ⊎_elim, inl, inr}
use Rattle.std.specs.Prelude.{◌&&◌, ◌||◌, ◌⊎◌, not, nat_eq, nat_lt}
use Rattle.std.specs.List.{list_all}
use Rattle.std.proofs.lemmas.Bool.{cases_Bool, eqb-true}
use Rattle.gm_base.specs.declared.places.Place.{Place}
use Rattle.gm_value.specs.Bag.{IsIn}
use Rattle.gm_ast.specs.declared.tree.Declaration.{Declaration}
use Rattle.gm_ast.specs.declared.tree.Head.{Head}
use Rattle.gm_ast.specs.declared.tree.Key.{Key}
use Rattle.gm_ast.specs.Keys as K
use Rattle.gm_ast.specs.Keys.{fault_lt, all_before}
use Rattle.gm_ast.specs.Ways.{is_in}
use Rattle.gm_ast.specs.Program.{Expr, Const, Var, Property, EdgeProperty, Degree, NodeCount, EdgeCount, Live, Unary, Binary, Both, Either, Choose, Folded, always, Stmt, Foreach}
use Rattle.gm_forms.specs.Cut.{touched, adds_last, spares_locals, is_no_local, knows_no_locals, mask_stays, has_plain_locals, is_edge_loop}
use Rattle.gm_forms.specs.Doing.{IsFlat}
use Rattle.gm_forms.specs.Fission.{pushed_properties}
use Rattle.gm_forms.specs.Flip.{flipped_head}
use Rattle.gm_forms.specs.Forms.{depth_at, is_inner_body, avoids}
use Rattle.gm_forms.specs.Order.{lie_before, rest_in, hoisted_in, hoists_in_order, faults_in, in_order, faults_of, body_in_order, loop_in_order, first_key, are_numbered, cannot_fail, leads, begins, fault_of}
use Rattle.gm_forms.specs.Sharing.{Read, Sights, reads_in, told_in, sights_of, read_at, read_elsewhere, read_anywhere, written, Reduced, reduced, shared_in, kept_in, disjoint, all_agree, all_one, all_last_one_way, targets_alike, inner_shares, shares}
use Rattle.gm_forms.proofs.CutReads.{anywhere-member, elsewhere-member}
use Rattle.gm_forms.proofs.CutTests.{found, finds, not-true}
use Rattle.gm_forms.proofs.Doings.{in-left, in-right, in-either}
use Rattle.gm_forms.proofs.Leading.{faults-same, order-same, iterators-turned, safe-rest, numbered-both, numbered-first, numbered-second, rest-under, under-numbered, first-stands}
use Rattle.gm_forms.proofs.Named.{both-true}
use Rattle.gm_forms.proofs.Weaker.{and-true}
use Rattle.gm_loop_laws.specs.Alone.{stands_alone}
use Rattle.gm_loop_laws.proofs.Chosen.{disjoint-apart, apart-disjoint}
use Rattle.gm_flip.specs.Flipped.{is_always, joined}
use Rattle.gm_flip.proofs.Basics.{none}
use Rattle.gm_flip.proofs.Reductions.{one-like, adds-same, shared-out, kept-out, written-same, sights-same, like, Comes, comes, written-touched, agree-like, last-like}

-- nothing is hoisted of an expression without reductions
pub flat-hoists : (e : Expr) → IsFlat e → hoisted_in e ≡ []
flat-hoists (Const v) f = refl
flat-hoists (Var x at) f = refl
flat-hoists (Property x p at) f = refl
flat-hoists (EdgeProperty x p at) f = refl
flat-hoists (Degree d x at) f = refl
flat-hoists NodeCount f = refl
flat-hoists EdgeCount f = refl
flat-hoists (Live x at) f = refl
flat-hoists (Unary op at e) f = flat-hoists e f
flat-hoists (Binary op at a b) f = ap (λ l. l ++ hoisted_in b) (flat-hoists a f.0) ∙ flat-hoists b f.1
flat-hoists (Both a b) f = ap (λ l. l ++ hoisted_in b) (flat-hoists a f.0) ∙ flat-hoists b f.1
flat-hoists (Either a b) f = ap (λ l. l ++ hoisted_in b) (flat-hoists a f.0) ∙ flat-hoists b f.1
flat-hoists (Choose c a b) f = ap (λ l. l ++ (hoisted_in a ++ hoisted_in b)) (flat-hoists c f.0) ∙ ap (λ l. l ++ hoisted_in b) (flat-hoists a f.1) ∙ flat-hoists b f.2
flat-hoists (Folded fold h c e) f = absurd f

pub nothing-before : (ys : List K.Fault) → lie_before [] ys ≡ true
nothing-before [] = refl
nothing-before (y ∷ ys) = nothing-before ys

before-append : (xs ys : List K.Fault) (z : K.Fault) → all_before xs z ≡ true → all_before ys z ≡ true → all_before (xs ++ ys) z ≡ true
before-append [] ys z h k = k
before-append (x ∷ xs) ys z h k = let q = both-true (fault_lt x z) (all_before xs z) h in and-true (fault_lt x z) (all_before (xs ++ ys) z) q.0 (before-append xs ys z q.1 k)

lie-append : (xs ys zs : List K.Fault) → lie_before xs zs ≡ true → lie_before ys zs ≡ true → lie_before (xs ++ ys) zs ≡ true
lie-append xs ys [] h k = refl
lie-append xs ys (z ∷ zs) h k =
    let p = both-true (all_before xs z) (lie_before xs zs) h in
    let q = both-true (all_before ys z) (lie_before ys zs) k in
    and-true (all_before (xs ++ ys) z) (lie_before (xs ++ ys) zs) (before-append xs ys z p.0 q.0) (lie-append xs ys zs p.1 q.1)

-- a read of a property
pub anywhere-out : (rs : List Read) (y : ℕ) → IsIn y (read_anywhere rs) → (r : Read) × IsIn r rs × (y ≡ r.property)
anywhere-out [] y i = absurd i
anywhere-out (r ∷ rs) y i = ⊎_elim (λ (e : y ≡ r.property). (r, inl refl, e)) (λ j. let q = anywhere-out rs y j in (q.0, inr q.1, q.2)) i

pub elsewhere-out : (n : ℕ) (rs : List Read) (y : ℕ) → IsIn y (read_elsewhere n rs) → IsIn y (read_anywhere rs)
elsewhere-out n [] y i = absurd i
elsewhere-out n (r ∷ rs) y i = by (nat_eq r.owner n) (elsewhere-out n rs y) i
  where
    by : (b : Bool) → (IsIn y (read_elsewhere n rs) → IsIn y (read_anywhere rs)) → IsIn y (cond b (read_elsewhere n rs) (r.property ∷ read_elsewhere n rs)) → (y ≡ r.property) ⊎ IsIn y (read_anywhere rs)
    by true f i = inr (f i)
    by false f i = ⊎_elim (λ e. inl e) (λ j. inr (f j)) i

pub at-member : (n : ℕ) (rs : List Read) (r : Read) → IsIn r rs → nat_eq r.owner n ≡ true → IsIn r.property (read_at n rs)
at-member n [] r i e = absurd i
at-member n (q ∷ rs) r i e =
    ⊎_elim
    (λ (s : r ≡ q). subst (IsIn r.property) (sym (ap (λ b. cond b (q.property ∷ read_at n rs) (read_at n rs)) (ap (λ (z : Read). nat_eq z.owner n) (sym s) ∙ e))) (inl (ap (λ (z : Read). z.property) s)))
    (λ j. by (nat_eq q.owner n) (at-member n rs r j e)) i
  where
    by : (b : Bool) → IsIn r.property (read_at n rs) → IsIn r.property (cond b (q.property ∷ read_at n rs) (read_at n rs))
    by true j = inr j
    by false j = j

-- the filter of a turned loop reads what both filters do
joined-reads : (mask test : Expr) (r : Read) → IsIn r (reads_in (joined mask test)) → IsIn r (reads_in mask) ⊎ IsIn r (reads_in test)
joined-reads mask test r i = by (is_always mask) i
  where
    by : (b : Bool) → IsIn r (reads_in (cond b test (Both mask test))) → IsIn r (reads_in mask) ⊎ IsIn r (reads_in test)
    by true i = inr i
    by false i = in-either r (reads_in mask) (reads_in test) i

joined-told : (mask test : Expr) (y : ℕ) → IsIn y (told_in (joined mask test)) → IsIn y (told_in mask) ⊎ IsIn y (told_in test)
joined-told mask test y i = by (is_always mask) i
  where
    by : (b : Bool) → IsIn y (told_in (cond b test (Both mask test))) → IsIn y (told_in mask) ⊎ IsIn y (told_in test)
    by true i = inr i
    by false i = in-either y (told_in mask) (told_in test) i

-- a test of all members
pub passes-in : (f : ℕ → Bool) (xs : List ℕ) (y : ℕ) → list_all f xs ≡ true → IsIn y xs → f y ≡ true
passes-in f [] y h i = absurd i
passes-in f (x ∷ xs) y h i = let q = both-true (f x) (list_all f xs) h in ⊎_elim (λ (e : y ≡ x). ap f e ∙ q.0) (λ r. passes-in f xs y q.1 r) i

pub all-passes : {f : ℕ → Bool} (xs : List ℕ) → ((y : ℕ) → IsIn y xs → f y ≡ true) → list_all f xs ≡ true
all-passes [] h = refl
all-passes {f} (x ∷ xs) h = and-true (f x) (list_all f xs) (h x (inl refl)) (all-passes xs (λ y i. h y (inr i)))

-- all members of a list are in it
itself : (xs : List ℕ) → list_all (is_in xs) xs ≡ true
itself xs = each xs (λ y i. finds xs y i)
  where
    each : (ys : List ℕ) → ((y : ℕ) → IsIn y ys → is_in xs y ≡ true) → list_all (is_in xs) ys ≡ true
    each [] f = refl
    each (y ∷ ys) f = and-true (is_in xs y) (list_all (is_in xs) ys) (f y (inl refl)) (each ys (λ z i. f z (inr i)))

module _ (ds : List Declaration) (n : ℕ) (k : Key) (mask : Expr) (j : Key) (here : Place) (i : Head) (test : Expr) (body : Stmt) where
  abbrev t : ℕ
  t = i.iterator

  abbrev inner : Stmt
  inner = Foreach j here i test body

  abbrev filter : Expr
  filter = joined mask test

  abbrev other : Stmt
  other = Foreach j here (flipped_head n i) filter body

  abbrev S : Sights
  S = sights_of ds n true body

  abbrev RN : List Reduced
  RN = reduced ds n true body

  abbrev RT : List Reduced
  RT = reduced ds t true body

  abbrev own : List ℕ
  own = written ds n true body

  -- what an edge loop keeps
  pub record May : Type 0 where
    pub told : list_all (is_no_local ds (n ∷ t ∷ [])) (told_in mask ++ (told_in test ++ S.scalars)) ≡ true
    pub spares : spares_locals ds body ≡ true
    pub kept : disjoint (touched body) (n ∷ (t ∷ (read_anywhere (reads_in mask) ++ told_in mask))) ≡ true
    pub out : is_in (told_in mask) t ≡ false
    pub locals : has_plain_locals ds n test body ≡ true
    pub one : all_one RN ≡ true
    pub last : adds_last (n ∷ t ∷ []) body ≡ true

  pub kept-parts : is_edge_loop ds n mask i test body ≡ true → May
  kept-parts h =
      let a = both-true (knows_no_locals ds n t mask test body) (mask_stays n mask i body && (has_plain_locals ds n test body && (all_one RN && adds_last (n ∷ t ∷ []) body))) h in
      let b = both-true (mask_stays n mask i body) (has_plain_locals ds n test body && (all_one RN && adds_last (n ∷ t ∷ []) body)) a.1 in
      let c = both-true (has_plain_locals ds n test body) (all_one RN && adds_last (n ∷ t ∷ []) body) b.1 in
      let d = both-true (all_one RN) (adds_last (n ∷ t ∷ []) body) c.1 in
      let k = both-true (list_all (is_no_local ds (n ∷ t ∷ [])) (told_in mask ++ (told_in test ++ S.scalars))) (spares_locals ds body) a.0 in
      let m = both-true (disjoint (touched body) (n ∷ (t ∷ (read_anywhere (reads_in mask) ++ told_in mask)))) (not (is_in (told_in mask) t)) b.0 in
      record { told = k.0; spares = k.1; kept = m.0; out = not-true (is_in (told_in mask) t) m.1; locals = c.0; one = d.0; last = d.1 }

  -- both iterators hold nodes, from either end
  abbrev its : List ℕ
  its = t ∷ n ∷ []

  abbrev ends : List ℕ
  ends = n ∷ t ∷ []

  same-faults : faults_of its body ≡ faults_of ends body
  same-faults = faults-same its ends (iterators-turned t n) body

  same-order : body_in_order its body ≡ body_in_order ends body
  same-order = order-same its ends (iterators-turned t n) body

  -- the inner loop of the other end stands in order, as the inner loop does
  inner-turned : IsFlat mask → cannot_fail mask ≡ true → hoists_in_order mask ≡ true → IsFlat test → body_in_order (n ∷ []) inner ≡ true → body_in_order (t ∷ []) other ≡ true
  inner-turned flat-mask safe o flat-test h =
      let b = both-true (leads its j i.place body) (loop_in_order its j test body) h in
      let c = both-true (in_order test j) (body_in_order its body && lie_before (faults_in test j) (faults_of its body)) b.1 in
      let d = both-true (body_in_order its body) (lie_before (faults_in test j) (faults_of its body)) c.1 in
      let p = both-true (hoists_in_order test) (lie_before (hoisted_in test) (rest_in test j)) c.0 in
      let q = by (is_always mask) c.0 d.1 p.0 in
      sym (λ r. lie_before (fault_of j i.place ∷ []) (same-faults r) && (in_order filter j && (same-order r && lie_before (faults_in filter j) (same-faults r))))
      ∙ and-true (leads its j i.place body) (loop_in_order its j filter body) b.0
      (and-true (in_order filter j) (body_in_order its body && lie_before (faults_in filter j) (faults_of its body)) q.0 (and-true (body_in_order its body) (lie_before (faults_in filter j) (faults_of its body)) d.0 q.1))
    where
      fine : in_order test j ≡ true → lie_before (faults_in test j) (faults_of its body) ≡ true → hoists_in_order test ≡ true → (in_order (Both mask test) j ≡ true) × (lie_before (faults_in (Both mask test) j) (faults_of its body) ≡ true)
      fine f g p =
          let none-hoisted : hoisted_in (Both mask test) ≡ [] = flat-hoists (Both mask test) (flat-mask, flat-test) in
          let rests = rest_in mask j ++ rest_in test j in (
            and-true (hoists_in_order (Both mask test)) (lie_before (hoisted_in (Both mask test)) rests)
                (and-true (hoists_in_order mask) (hoists_in_order test && lie_before (hoisted_in mask) (hoisted_in test)) o (and-true (hoists_in_order test) (lie_before (hoisted_in mask) (hoisted_in test)) p (ap (λ l. lie_before l (hoisted_in test)) (flat-hoists mask flat-mask) ∙ nothing-before (hoisted_in test))))
                (ap (λ l. lie_before l rests) none-hoisted ∙ nothing-before rests),
            ap (λ l. lie_before (l ++ rests) (faults_of its body)) none-hoisted
                ∙ (ap (λ l. lie_before (l ++ rest_in test j) (faults_of its body)) (safe-rest mask j safe)
                ∙ (sym (ap (λ l. lie_before (l ++ rest_in test j) (faults_of its body)) (flat-hoists test flat-test)) ∙ g)),
          )

      by : (b : Bool) → in_order test j ≡ true → lie_before (faults_in test j) (faults_of its body) ≡ true → hoists_in_order test ≡ true → (in_order (cond b test (Both mask test)) j ≡ true) × (lie_before (faults_in (cond b test (Both mask test)) j) (faults_of its body) ≡ true)
      by true f g p = (f, g)
      by false f g p = fine f g p

  -- what it may fault in is numbered
  numbered-turned : IsFlat mask → IsFlat test → are_numbered (faults_of (n ∷ []) inner) ≡ true → are_numbered (faults_of (t ∷ []) other) ≡ true
  numbered-turned flat-mask flat-test h =
      let a = both-true (nat_lt 0 j.statement) (are_numbered (faults_in test j ++ faults_of its body)) h in
      sym (ap (λ fs. are_numbered (fault_of j i.place ∷ (faults_in filter j ++ fs))) same-faults)
      ∙ and-true (nat_lt 0 j.statement) (are_numbered (faults_in filter j ++ faults_of its body)) a.0
      (numbered-both (faults_in filter j) (faults_of its body) (by (is_always mask) a.0 (numbered-first (faults_in test j) (faults_of its body) a.1)) (numbered-second (faults_in test j) (faults_of its body) a.1))
    where
      by : (b : Bool) → nat_lt 0 j.statement ≡ true → are_numbered (faults_in test j) ≡ true → are_numbered (faults_in (cond b test (Both mask test)) j) ≡ true
      by true l g = g
      by false l g = subst (λ xs. are_numbered (xs ++ (rest_in mask j ++ rest_in test j)) ≡ true) (sym (flat-hoists (Both mask test) (flat-mask, flat-test)))
          (numbered-both (rest_in mask j) (rest_in test j) (under-numbered j (rest_in mask j) l (rest-under mask j)) (under-numbered j (rest_in test j) l (rest-under test j)))

  pub order-turned : IsFlat mask → cannot_fail mask ≡ true → IsFlat test → (place : Place) → begins (n ∷ []) k place mask inner && loop_in_order (n ∷ []) k mask inner ≡ true → begins (t ∷ []) first_key place always other && loop_in_order (t ∷ []) first_key always other ≡ true
  order-turned flat-mask safe flat-test place h =
      let out = n ∷ [] in
      let a = both-true (begins out k place mask inner) (loop_in_order out k mask inner) h in
      let b = both-true (leads out k place inner) (are_numbered (hoisted_in mask ++ faults_of out inner) && (nat_lt 0 k.statement || cannot_fail mask)) a.0 in
      let c = both-true (are_numbered (hoisted_in mask ++ faults_of out inner)) (nat_lt 0 k.statement || cannot_fail mask) b.1 in
      let d = both-true (in_order mask k) (body_in_order out inner && lie_before (faults_in mask k) (faults_of out inner)) a.1 in
      let e = both-true (body_in_order out inner) (lie_before (faults_in mask k) (faults_of out inner)) d.1 in
      first-stands (t ∷ []) [] false place always other refl refl (inner-turned flat-mask safe (both-true (hoists_in_order mask) (lie_before (hoisted_in mask) (rest_in mask k)) d.0).0 flat-test e.0) (numbered-turned flat-mask flat-test (numbered-second (hoisted_in mask) (faults_of out inner) c.0))

  -- the inner loop stands alone
  pub alone : May → shares ds n mask inner ≡ true → stands_alone ds (pushed_properties n body) n body ≡ true
  alone f h =
      let a = both-true _ _ h in
      let b = both-true _ _ a.1 in
      let d = both-true (all_agree RN) (inner_shares ds n test body && targets_alike body) b.1 in
      let e = both-true (inner_shares ds n test body) (targets_alike body) d.1 in
      and-true (list_all (is_in (pushed_properties n body)) (pushed_properties n body)) (all_one RN && (targets_alike body && not (is_in own n))) (itself (pushed_properties n body))
      (and-true (all_one RN) (targets_alike body && not (is_in own n)) f.one (and-true (targets_alike body) (not (is_in own n)) e.1 (off (is_in own n) refl f)))
    where
      off : (b : Bool) → is_in own n ≡ b → May → not b ≡ true
      off true e f = absurd (disjoint-apart (touched body) (n ∷ (t ∷ (read_anywhere (reads_in mask) ++ told_in mask))) n f.kept (written-touched ds n t body n (found own n e)) (inl refl))
      off false e f = refl

  -- the iterations of the turned loop share what ends with it alone
  pub share-turned : (its : List ℕ) (edge : Bool) → is_inner_body ds its edge body ≡ true → avoids t body ≡ true → May → shares ds n mask inner ≡ true → shares ds t always other ≡ true
  share-turned its edge inner-body away f h =
      and-true (disjoint (shared_in RT) (read_anywhere (reads_in filter ++ (sights_of ds t true body).properties) ++ ((t ∷ (told_in filter ++ (sights_of ds t true body).scalars)) ++ written ds t true body))) _
      (apart-disjoint _ _ quiet)
      (and-true (disjoint (written ds t true body ++ kept_in RT) (read_elsewhere t (reads_in filter ++ (sights_of ds t true body).properties))) _
      (apart-disjoint _ _ alone-read)
      (and-true (all_agree RT) (inner_shares ds t filter body && targets_alike body) (agree-like RN RT (like ds n t body) d.0 f.one)
      (and-true (inner_shares ds t filter body) (targets_alike body)
      (and-true (disjoint (kept_in RT) (read_at t (reads_in filter ++ (sights_of ds t true body).properties) ++ (told_in filter ++ (sights_of ds t true body).scalars))) (all_last_one_way RT) (apart-disjoint _ _ (λ y i l. keeps-nothing y i)) (last-like RN RT (like ds n t body) f.one)) e.1)))
    where
      a : (disjoint (shared_in RN) (read_anywhere (reads_in mask ++ (reads_in test ++ S.properties)) ++ ((told_in mask ++ (i.owner ∷ (told_in test ++ S.scalars))) ++ own)) ≡ true)
          × (disjoint (own ++ kept_in RN) (read_elsewhere n (reads_in mask ++ (reads_in test ++ S.properties))) && (all_agree RN && (inner_shares ds n test body && targets_alike body)) ≡ true)
      a = both-true _ _ h

      b : (disjoint (own ++ kept_in RN) (read_elsewhere n (reads_in mask ++ (reads_in test ++ S.properties))) ≡ true) × (all_agree RN && (inner_shares ds n test body && targets_alike body) ≡ true)
      b = both-true _ _ a.1

      d : (all_agree RN ≡ true) × (inner_shares ds n test body && targets_alike body ≡ true)
      d = both-true _ _ b.1

      e : (inner_shares ds n test body ≡ true) × (targets_alike body ≡ true)
      e = both-true _ _ d.1

      g : (disjoint (kept_in RN) (read_at n (reads_in test ++ S.properties) ++ (told_in test ++ S.scalars)) ≡ true) × (all_last_one_way RN ≡ true)
      g = both-true _ _ e.0

      comes-of : (r : Reduced) → IsIn r RT → Comes ds n t body r
      comes-of r q = comes ds n t its edge body inner-body away f.spares r q

      keeps-nothing : (y : ℕ) → IsIn y (kept_in RT) → ⊥
      keeps-nothing y q = let r = kept-out RT y q in (comes-of r.0 r.1).none_kept y r.2

      -- what is touched is no iterator, and not read by the saved filter
      untouched : (y : ℕ) → IsIn y (touched body) → (y ≡ n) ⊎ ((y ≡ t) ⊎ IsIn y (read_anywhere (reads_in mask) ++ told_in mask)) → ⊥
      untouched y q c = disjoint-apart (touched body) (n ∷ (t ∷ (read_anywhere (reads_in mask) ++ told_in mask))) y f.kept q c

      by-mask : (y : ℕ) (r : Read) → IsIn y (touched body) → IsIn r (reads_in mask) → y ≡ r.property → ⊥
      by-mask y r q l s = untouched y q (inr (inr (in-left y (read_anywhere (reads_in mask)) (told_in mask) (subst (λ z. IsIn z (read_anywhere (reads_in mask))) (sym s) (anywhere-member (reads_in mask) r l)))))

      plain : (r : Read) → IsIn r (sights_of ds t true body).properties → IsIn r S.properties
      plain r l = subst (λ (z : Sights). IsIn r z.properties) (sights-same ds n t body) l

      -- a read of the turned loop
      read-from : (r : Read) → IsIn r (reads_in filter ++ (sights_of ds t true body).properties) → IsIn r (reads_in mask) ⊎ IsIn r (reads_in test ++ S.properties)
      read-from r l =
          ⊎_elim (λ p. ⊎_elim (λ u. inl u) (λ u. inr (in-left r (reads_in test) S.properties u)) (joined-reads mask test r p)) (λ p. inr (in-right r (reads_in test) S.properties (plain r p))) (in-either r (reads_in filter) (sights_of ds t true body).properties l)

      -- what is reduced through the outer node is read by no other part
      kept-read : (y : ℕ) → IsIn y (kept_in RN) → (r : Read) → IsIn r (reads_in test ++ S.properties) → y ≡ r.property → ⊥
      kept-read y q r l s =
          ⊎_elim
          (λ (o : nat_eq r.owner n ≡ true).
          disjoint-apart (kept_in RN) (read_at n (reads_in test ++ S.properties) ++ (told_in test ++ S.scalars)) y g.0 q (in-left y (read_at n (reads_in test ++ S.properties)) (told_in test ++ S.scalars) (subst (λ z. IsIn z (read_at n (reads_in test ++ S.properties))) (sym s) (at-member n (reads_in test ++ S.properties) r l o))))
          (λ (o : nat_eq r.owner n ≡ false).
          disjoint-apart (own ++ kept_in RN) (read_elsewhere n (reads_in mask ++ (reads_in test ++ S.properties))) y b.0 (in-right y own (kept_in RN) q)
          (subst (λ z. IsIn z (read_elsewhere n (reads_in mask ++ (reads_in test ++ S.properties)))) (sym s) (elsewhere-member n (reads_in mask ++ (reads_in test ++ S.properties)) r (in-right r (reads_in mask) (reads_in test ++ S.properties) l) o)))
          (cases_Bool (nat_eq r.owner n))

      -- neither is what is shared
      shared-seen : (y : ℕ) → IsIn y (shared_in RN) → IsIn y (read_anywhere (reads_in mask ++ (reads_in test ++ S.properties)) ++ ((told_in mask ++ (i.owner ∷ (told_in test ++ S.scalars))) ++ own)) → ⊥
      shared-seen y q l = disjoint-apart (shared_in RN) (read_anywhere (reads_in mask ++ (reads_in test ++ S.properties)) ++ ((told_in mask ++ (i.owner ∷ (told_in test ++ S.scalars))) ++ own)) y a.0 q l

      to-reads : (y : ℕ) (r : Read) → IsIn r (reads_in test ++ S.properties) → y ≡ r.property → IsIn y (read_anywhere (reads_in mask ++ (reads_in test ++ S.properties)))
      to-reads y r l s = subst (λ z. IsIn z (read_anywhere (reads_in mask ++ (reads_in test ++ S.properties)))) (sym s) (anywhere-member (reads_in mask ++ (reads_in test ++ S.properties)) r (in-right r (reads_in mask) (reads_in test ++ S.properties) l))

      read-off : (y : ℕ) → IsIn y (touched body) → IsIn y (shared_in RN) ⊎ IsIn y (kept_in RN) → (r : Read) → IsIn r (reads_in filter ++ (sights_of ds t true body).properties) → y ≡ r.property → ⊥
      read-off y q c r l s =
          ⊎_elim (λ u. by-mask y r q u s)
          (λ u. ⊎_elim (λ p. shared-seen y p (in-left y (read_anywhere (reads_in mask ++ (reads_in test ++ S.properties))) ((told_in mask ++ (i.owner ∷ (told_in test ++ S.scalars))) ++ own) (to-reads y r u s))) (λ p. kept-read y p r u s) c) (read-from r l)

      told-off : (y : ℕ) → IsIn y (touched body) → IsIn y (shared_in RN) ⊎ IsIn y (kept_in RN) → IsIn y (told_in test ++ S.scalars) → ⊥
      told-off y q c l =
          ⊎_elim
          (λ p. shared-seen y p
          (in-right y (read_anywhere (reads_in mask ++ (reads_in test ++ S.properties))) ((told_in mask ++ (i.owner ∷ (told_in test ++ S.scalars))) ++ own)
          (in-left y (told_in mask ++ (i.owner ∷ (told_in test ++ S.scalars))) own (in-right y (told_in mask) (i.owner ∷ (told_in test ++ S.scalars)) (inr l)))))
          (λ p. disjoint-apart (kept_in RN) (read_at n (reads_in test ++ S.properties) ++ (told_in test ++ S.scalars)) y g.0 p (in-right y (read_at n (reads_in test ++ S.properties)) (told_in test ++ S.scalars) l)) c

      own-off : (y : ℕ) → IsIn y (shared_in RN) ⊎ IsIn y (kept_in RN) → IsIn y own → ⊥
      own-off y c l =
          ⊎_elim
          (λ p. shared-seen y p
          (in-right y (read_anywhere (reads_in mask ++ (reads_in test ++ S.properties))) ((told_in mask ++ (i.owner ∷ (told_in test ++ S.scalars))) ++ own)
          (in-right y (told_in mask ++ (i.owner ∷ (told_in test ++ S.scalars))) own l)))
          (λ p. disjoint-apart own (read_anywhere (reads_in test ++ S.properties) ++ kept_in RN) y f.locals l (in-right y (read_anywhere (reads_in test ++ S.properties)) (kept_in RN) p)) c

      names-off : (y : ℕ) → IsIn y (touched body) → IsIn y (shared_in RN) ⊎ IsIn y (kept_in RN) → IsIn y (told_in filter ++ (sights_of ds t true body).scalars) → ⊥
      names-off y q c l =
          ⊎_elim
          (λ p. ⊎_elim (λ u. untouched y q (inr (inr (in-right y (read_anywhere (reads_in mask)) (told_in mask) u)))) (λ u. told-off y q c (in-left y (told_in test) S.scalars u)) (joined-told mask test y p))
          (λ p. told-off y q c (in-right y (told_in test) S.scalars (subst (λ (z : Sights). IsIn y z.scalars) (sights-same ds n t body) p))) (in-either y (told_in filter) (sights_of ds t true body).scalars l)

      quiet : (y : ℕ) → IsIn y (shared_in RT) → IsIn y (read_anywhere (reads_in filter ++ (sights_of ds t true body).properties) ++ ((t ∷ (told_in filter ++ (sights_of ds t true body).scalars)) ++ written ds t true body)) → ⊥
      quiet y q l =
          let r = shared-out RT y q in
          let c = (comes-of r.0 r.1).shared_from y r.2 in
          ⊎_elim
          (λ p. let s = anywhere-out (reads_in filter ++ (sights_of ds t true body).properties) y p in read-off y c.0 c.1 s.0 s.1 s.2)
          (λ p.
          ⊎_elim
          (λ u. ⊎_elim (λ (s : y ≡ t). untouched y c.0 (inr (inl s))) (λ s. names-off y c.0 c.1 s) u)
          (λ u. own-off y c.1 (subst (IsIn y) (written-same ds n t body) u)) (in-either y (t ∷ (told_in filter ++ (sights_of ds t true body).scalars)) (written ds t true body) p))
          (in-either y (read_anywhere (reads_in filter ++ (sights_of ds t true body).properties)) ((t ∷ (told_in filter ++ (sights_of ds t true body).scalars)) ++ written ds t true body) l)

      alone-read : (y : ℕ) → IsIn y (written ds t true body ++ kept_in RT) → IsIn y (read_elsewhere t (reads_in filter ++ (sights_of ds t true body).properties)) → ⊥
      alone-read y q l =
          ⊎_elim
          (λ p.
          let w = subst (IsIn y) (written-same ds n t body) p in
          let s = anywhere-out (reads_in filter ++ (sights_of ds t true body).properties) y (elsewhere-out t (reads_in filter ++ (sights_of ds t true body).properties) y l) in
          ⊎_elim (λ u. by-mask y s.0 (written-touched ds n t body y w) u s.2)
          (λ u. disjoint-apart own (read_anywhere (reads_in test ++ S.properties) ++ kept_in RN) y f.locals w
          (in-left y (read_anywhere (reads_in test ++ S.properties)) (kept_in RN) (subst (λ z. IsIn z (read_anywhere (reads_in test ++ S.properties))) (sym s.2) (anywhere-member (reads_in test ++ S.properties) s.0 u)))) (read-from s.0 s.1))
          (λ p. keeps-nothing y p) (in-either y (written ds t true body) (kept_in RT) q)

  -- the turned inner loop is one along edges too
  pub edge-turned : (its : List ℕ) (edge : Bool) → is_inner_body ds its edge body ≡ true → avoids t body ≡ true → May → is_edge_loop ds t always (flipped_head n i) filter body ≡ true
  edge-turned its edge inner-body away f =
      and-true (knows_no_locals ds t n always filter body) _
      (and-true (list_all (is_no_local ds (t ∷ n ∷ [])) (told_in filter ++ (sights_of ds t true body).scalars)) (spares_locals ds body) (all-passes (told_in filter ++ (sights_of ds t true body).scalars) (λ y i. no-local y (from y i))) f.spares)
      (and-true (mask_stays t always (flipped_head n i) body) _
      (and-true (disjoint (touched body) (t ∷ (n ∷ []))) true (apart-disjoint (touched body) (t ∷ (n ∷ [])) (λ y q c. ⊎_elim (λ (e : y ≡ t). ends y q (inr (inl e))) (λ o. ⊎_elim (λ (e : y ≡ n). ends y q (inl e)) (λ z. absurd z) o) c)) refl)
      (and-true (has_plain_locals ds t filter body) (all_one RT && adds_last (t ∷ n ∷ []) body) (apart-disjoint (written ds t true body) (read_anywhere (reads_in filter ++ (sights_of ds t true body).properties) ++ kept_in RT) plain-locals)
      (and-true (all_one RT) (adds_last (t ∷ n ∷ []) body) (one-like RN RT (like ds n t body) f.one) (adds-same (n ∷ t ∷ []) (t ∷ n ∷ []) swapped body ∙ f.last))))
    where
      ends : (y : ℕ) → IsIn y (touched body) → (y ≡ n) ⊎ ((y ≡ t) ⊎ IsIn y (read_anywhere (reads_in mask) ++ told_in mask)) → ⊥
      ends y q c = disjoint-apart (touched body) (n ∷ (t ∷ (read_anywhere (reads_in mask) ++ told_in mask))) y f.kept q c

      swapped : (x : ℕ) → is_in (t ∷ n ∷ []) x ≡ is_in (n ∷ t ∷ []) x
      swapped x = by (nat_eq x t) (nat_eq x n)
        where
          by : (a b : Bool) → a || (b || false) ≡ b || (a || false)
          by true true = refl
          by true false = refl
          by false true = refl
          by false false = refl

      from : (y : ℕ) → IsIn y (told_in filter ++ (sights_of ds t true body).scalars) → IsIn y (told_in mask ++ (told_in test ++ S.scalars))
      from y l =
          ⊎_elim
          (λ p. ⊎_elim (λ u. in-left y (told_in mask) (told_in test ++ S.scalars) u) (λ u. in-right y (told_in mask) (told_in test ++ S.scalars) (in-left y (told_in test) S.scalars u)) (joined-told mask test y p))
          (λ p. in-right y (told_in mask) (told_in test ++ S.scalars) (in-right y (told_in test) S.scalars (subst (λ (z : Sights). IsIn y z.scalars) (sights-same ds n t body) p))) (in-either y (told_in filter) (sights_of ds t true body).scalars l)

      no-local : (y : ℕ) → IsIn y (told_in mask ++ (told_in test ++ S.scalars)) → is_no_local ds (t ∷ n ∷ []) y ≡ true
      no-local y l = ap (λ b. b || not (nat_eq (depth_at ds y) 1)) (swapped y) ∙ passes-in (is_no_local ds (n ∷ t ∷ [])) (told_in mask ++ (told_in test ++ S.scalars)) y f.told l

      plain-locals : (y : ℕ) → IsIn y (written ds t true body) → IsIn y (read_anywhere (reads_in filter ++ (sights_of ds t true body).properties) ++ kept_in RT) → ⊥
      plain-locals y p l =
          let w = subst (IsIn y) (written-same ds n t body) p in
          ⊎_elim
          (λ q.
          let s = anywhere-out (reads_in filter ++ (sights_of ds t true body).properties) y q in
          ⊎_elim
          (λ m. ⊎_elim
          (λ u. ends y (written-touched ds n t body y w) (inr (inr (in-left y (read_anywhere (reads_in mask)) (told_in mask) (subst (λ z. IsIn z (read_anywhere (reads_in mask))) (sym s.2) (anywhere-member (reads_in mask) s.0 u))))))
          (λ u. off y w (subst (λ z. IsIn z (read_anywhere (reads_in test ++ S.properties))) (sym s.2) (anywhere-member (reads_in test ++ S.properties) s.0 (in-left s.0 (reads_in test) S.properties u)))) (joined-reads mask test s.0 m))
          (λ m. off y w (subst (λ z. IsIn z (read_anywhere (reads_in test ++ S.properties))) (sym s.2) (anywhere-member (reads_in test ++ S.properties) s.0 (in-right s.0 (reads_in test) S.properties (subst (λ (z : Sights). IsIn s.0 z.properties) (sights-same ds n t body) m)))))
          (in-either s.0 (reads_in filter) (sights_of ds t true body).properties s.1))
          (λ q. let r = kept-out RT y q in (comes ds n t its edge body inner-body away f.spares r.0 r.1).none_kept y r.2)
          (in-either y (read_anywhere (reads_in filter ++ (sights_of ds t true body).properties)) (kept_in RT) l)
        where
          off : (y : ℕ) → IsIn y own → IsIn y (read_anywhere (reads_in test ++ S.properties)) → ⊥
          off y w q = disjoint-apart own (read_anywhere (reads_in test ++ S.properties) ++ kept_in RN) y f.locals w (in-left y (read_anywhere (reads_in test ++ S.properties)) (kept_in RN) q)
