-- A loop that asks at its node first keeps its form, and what every pass keeps of loops: its faults stand in order, and its iterations share what ends with it alone.
use Rattle.std.proofs.Common.{◌≡◌, ℕ, Bool, true, false, cond, List, [], ◌∷◌, ◌++◌, refl, sym, ap, subst, ◌∙◌, ⊎_elim, inl, inr}
use Rattle.std.specs.Prelude.{◌&&◌, ◌||◌, ◌⊎◌, not, nat_eq, nat_lt}
use Rattle.std.specs.List.{list_all}
use Rattle.std.proofs.lemmas.Bool.{both_ways}
use Rattle.gm_base.specs.declared.places.Place.{Place}
use Rattle.gm_value.specs.Bag.{IsIn}
use Rattle.gm_ast.specs.declared.tree.Declaration.{Declaration}
use Rattle.gm_ast.specs.declared.tree.Head.{Head}
use Rattle.gm_ast.specs.declared.tree.Key.{Key}
use Rattle.gm_ast.specs.Keys as K
use Rattle.gm_ast.specs.Keys.{fault_lt, all_before}
use Rattle.gm_ast.specs.Program.{Expr, Both, always, Stmt, Foreach}
use Rattle.gm_forms.specs.Cut.{is_mask, mask_stays, touched, adds_last, spares_locals, is_no_local, knows_no_locals, has_plain_locals, is_edge_loop, is_along_edges, is_own_loop, is_cut}
use Rattle.gm_forms.specs.Forms.{is_along, is_flat, is_range, is_flat_loop, is_inner_body, is_inner_head, is_outer_body, avoids, is_home, is_push, goes_out}
use Rattle.gm_forms.specs.Order.{lie_before, rest_in, hoisted_in, hoists_in_order, faults_in, in_order, faults_of, body_in_order, loop_in_order, are_numbered, cannot_fail, leads, begins, fault_of}
use Rattle.gm_forms.specs.Sharing.{Read, Sights, reads_in, told_in, sights_of, read_at, read_elsewhere, read_anywhere, written, Reduced, reduced, shared_in, kept_in, disjoint, all_agree, all_one, all_last_one_way, targets_alike, inner_shares, shares}
use Rattle.gm_forms.proofs.CutLaws.{lies-in}
use Rattle.gm_forms.proofs.CutReads.{anywhere-member, elsewhere-member}
use Rattle.gm_forms.proofs.CutTests.{not-true}
use Rattle.gm_forms.proofs.Doings.{in-left, in-right, in-either}
use Rattle.gm_forms.proofs.Leading.{flat-in-order, flat-hoisted, safe-faults, safe-hoisted, safe-rest}
use Rattle.gm_forms.proofs.Named.{both-true}
use Rattle.gm_forms.proofs.Weaker.{and-true}
use Rattle.gm_loop_laws.proofs.Chosen.{disjoint-apart, apart-disjoint}
use Rattle.gm_flip.proofs.Sane.{anywhere-out, at-member, passes-in, all-passes}
use Rattle.gm_flip.proofs.Turns.{Lone, lone}
use Rattle.gm_outward.specs.Gathered.{together}
use Rattle.gm_outward.specs.Outward.{is_outer, chosen, left}
use Rattle.gm_outward.proofs.Masks.{together-has, left-has, mask-together, mask-chosen, Reads, reads-together, reads-left, reads-chosen, Tells, tells-together, tells-left, tells-chosen, Stays, stays-from, stays-to, stays-together, stays-chosen}
use Rattle.gm_outward.proofs.Turns.{Askable}

-- ---- lists of faults by their members

before-from : (xs : List K.Fault) (z : K.Fault) → ((f : K.Fault) → IsIn f xs → fault_lt f z ≡ true) → all_before xs z ≡ true
before-from [] z h = refl
before-from (x ∷ xs) z h = and-true (fault_lt x z) (all_before xs z) (h x (inl refl)) (before-from xs z (λ f i. h f (inr i)))

pub lies-from : (xs ys : List K.Fault) → ((f g : K.Fault) → IsIn f xs → IsIn g ys → fault_lt f g ≡ true) → lie_before xs ys ≡ true
lies-from xs [] h = refl
lies-from xs (y ∷ ys) h = and-true (all_before xs y) (lie_before xs ys) (before-from xs y (λ f i. h f y i (inl refl))) (lies-from xs ys (λ f g i j. h f g i (inr j)))

pub numbered-in : (xs : List K.Fault) (f : K.Fault) → are_numbered xs ≡ true → IsIn f xs → nat_lt 0 f.key.statement ≡ true
numbered-in [] f h i = absurd i
numbered-in (x ∷ xs) f h i = let q = both-true (nat_lt 0 x.key.statement) (are_numbered xs) h in ⊎_elim (λ (e : f ≡ x). ap (λ (z : K.Fault). nat_lt 0 z.key.statement) e ∙ q.0) (λ j. numbered-in xs f q.1 j) i

pub numbered-from : (xs : List K.Fault) → ((f : K.Fault) → IsIn f xs → nat_lt 0 f.key.statement ≡ true) → are_numbered xs ≡ true
numbered-from [] h = refl
numbered-from (x ∷ xs) h = and-true (nat_lt 0 x.key.statement) (are_numbered xs) (h x (inl refl)) (numbered-from xs (λ f i. h f (inr i)))

-- ---- lists of reads by their members

elsewhere-from : (n : ℕ) (rs : List Read) (y : ℕ) → IsIn y (read_elsewhere n rs) → (r : Read) × IsIn r rs × (nat_eq r.owner n ≡ false) × (y ≡ r.property)
elsewhere-from n [] y i = absurd i
elsewhere-from n (r ∷ rs) y i = by (elsewhere-from n rs y) (nat_eq r.owner n) refl i
  where
    more : (q : Read) × IsIn q rs × (nat_eq q.owner n ≡ false) × (y ≡ q.property) → (q : Read) × IsIn q (r ∷ rs) × (nat_eq q.owner n ≡ false) × (y ≡ q.property)
    more p = (p.0, inr p.1, p.2, p.3)

    by : (IsIn y (read_elsewhere n rs) → (q : Read) × IsIn q rs × (nat_eq q.owner n ≡ false) × (y ≡ q.property)) → (b : Bool) → nat_eq r.owner n ≡ b →
        IsIn y (cond b (read_elsewhere n rs) (r.property ∷ read_elsewhere n rs)) → (q : Read) × IsIn q (r ∷ rs) × (nat_eq q.owner n ≡ false) × (y ≡ q.property)
    by f true e i = more (f i)
    by f false e i = ⊎_elim (λ (o : y ≡ r.property). (r, inl refl, e, o)) (λ j. more (f j)) i

at-from : (n : ℕ) (rs : List Read) (y : ℕ) → IsIn y (read_at n rs) → (r : Read) × IsIn r rs × (nat_eq r.owner n ≡ true) × (y ≡ r.property)
at-from n [] y i = absurd i
at-from n (r ∷ rs) y i = by (at-from n rs y) (nat_eq r.owner n) refl i
  where
    more : (q : Read) × IsIn q rs × (nat_eq q.owner n ≡ true) × (y ≡ q.property) → (q : Read) × IsIn q (r ∷ rs) × (nat_eq q.owner n ≡ true) × (y ≡ q.property)
    more p = (p.0, inr p.1, p.2, p.3)

    by : (IsIn y (read_at n rs) → (q : Read) × IsIn q rs × (nat_eq q.owner n ≡ true) × (y ≡ q.property)) → (b : Bool) → nat_eq r.owner n ≡ b →
        IsIn y (cond b (r.property ∷ read_at n rs) (read_at n rs)) → (q : Read) × IsIn q (r ∷ rs) × (nat_eq q.owner n ≡ true) × (y ≡ q.property)
    by f true e i = ⊎_elim (λ (o : y ≡ r.property). (r, inl refl, e, o)) (λ j. more (f j)) i
    by f false e i = more (f i)

abbrev pub AreIn : List Read → List Read → Type 0
AreIn xs ys = (r : Read) → IsIn r xs → IsIn r ys

pub anywhere-more : (xs ys : List Read) → AreIn xs ys → (y : ℕ) → IsIn y (read_anywhere xs) → IsIn y (read_anywhere ys)
anywhere-more xs ys h y i = let r = anywhere-out xs y i in subst (λ z. IsIn z (read_anywhere ys)) (sym r.2) (anywhere-member ys r.0 (h r.0 r.1))

pub elsewhere-more : (n : ℕ) (xs ys : List Read) → AreIn xs ys → (y : ℕ) → IsIn y (read_elsewhere n xs) → IsIn y (read_elsewhere n ys)
elsewhere-more n xs ys h y i = let r = elsewhere-from n xs y i in subst (λ z. IsIn z (read_elsewhere n ys)) (sym r.3) (elsewhere-member n ys r.0 (h r.0 r.1) r.2)

pub at-more : (n : ℕ) (xs ys : List Read) → AreIn xs ys → (y : ℕ) → IsIn y (read_at n xs) → IsIn y (read_at n ys)
at-more n xs ys h y i = let r = at-from n xs y i in subst (λ z. IsIn z (read_at n ys)) (sym r.3) (at-member n ys r.0 (h r.0 r.1) r.2)

-- lists without a common number, of which one loses some
pub fewer : (xs ys zs : List ℕ) → disjoint xs ys ≡ true → ((y : ℕ) → IsIn y zs → IsIn y ys) → disjoint xs zs ≡ true
fewer xs ys zs h f = apart-disjoint xs zs (λ y i j. disjoint-apart xs ys y h i (f y j))

-- ---- expressions

flat-both : (its : List ℕ) (edge : Bool) (a b : Expr) → is_flat its edge a ≡ true → is_flat its edge b ≡ true → is_flat its edge (Both a b) ≡ true
flat-both its edge a b p q = and-true (is_flat its edge a) (is_flat its edge b) p q

flat-halves : (its : List ℕ) (edge : Bool) (a b : Expr) → is_flat its edge (Both a b) ≡ true → (is_flat its edge a ≡ true) × (is_flat its edge b ≡ true)
flat-halves its edge a b h = both-true (is_flat its edge a) (is_flat its edge b) h

pub flat-left : (its : List ℕ) (edge : Bool) (test : Expr → Bool) (e : Expr) → is_flat its edge e ≡ true → is_flat its edge (left test e) ≡ true
flat-left its edge test = left-has (λ e. is_flat its edge e ≡ true) refl (flat-both its edge) (flat-halves its edge) test

-- the faults of what is left are among those of the filter
abbrev Faulting : List K.Fault → Key → Expr → Type 0
Faulting l k e = (f : K.Fault) → IsIn f (rest_in e k) → IsIn f l

rest-left : (l : List K.Fault) (k : Key) (test : Expr → Bool) (e : Expr) → Faulting l k e → Faulting l k (left test e)
rest-left l k test =
    left-has (Faulting l k) (λ f i. absurd i) (λ a b p q f i. ⊎_elim (λ j. p f j) (λ j. q f j) (in-either f (rest_in a k) (rest_in b k) i))
    (λ a b h. (λ f i. h f (in-left f (rest_in a k) (rest_in b k) i), λ f i. h f (in-right f (rest_in a k) (rest_in b k) i))) test

module _ (ds : List Declaration) (n : ℕ) (k : Key) (mask : Expr) (j : Key) (here : Place) (i : Head) (test : Expr) (body : Stmt) where
  abbrev t : ℕ
  t = i.iterator

  abbrev outer : Expr → Bool
  outer = is_outer n i body

  abbrev both : Expr
  both = together mask (chosen outer test)

  abbrev rest : Expr
  rest = left outer test

  abbrev inner : Stmt
  inner = Foreach j here i test body

  abbrev asked : Stmt
  asked = Foreach j here i rest body

  abbrev S : Sights
  S = sights_of ds n true body

  abbrev RN : List Reduced
  RN = reduced ds n true body

  abbrev own : List ℕ
  own = written ds n true body

  -- what the form says of the loop
  pub record Formed : Type 0 where
    pub askable : Askable ds n mask i test body
    pub mask_flat : is_flat (n ∷ []) false mask ≡ true
    pub head : is_inner_head false n i ≡ true
    pub flat : is_flat (n ∷ t ∷ []) true test ≡ true
    pub inner_body : is_inner_body ds (n ∷ t ∷ []) true body ≡ true
    pub out : goes_out ds n i test body ≡ true
    pub told : list_all (is_no_local ds (n ∷ t ∷ [])) (told_in mask ++ (told_in test ++ S.scalars)) ≡ true
    pub spares : spares_locals ds body ≡ true
    pub plain : has_plain_locals ds n test body ≡ true
    pub one : all_one RN ≡ true
    pub last : adds_last (n ∷ t ∷ []) body ≡ true

  pub formed-of : is_cut goes_out ds n mask inner ≡ true → Formed
  formed-of cut =
      let c = both-true (is_flat_loop ds false n mask inner) (is_own_loop n inner || (is_mask n mask && is_along_edges (goes_out ds) ds n mask inner)) cut in
      let f = both-true (is_flat (n ∷ []) false mask) (is_outer_body ds false n inner) c.0 in
      let m = both-true (is_mask n mask) (goes_out ds n i test body && is_edge_loop ds n mask i test body) c.1 in
      let w = both-true (goes_out ds n i test body) (is_edge_loop ds n mask i test body) m.1 in
      let o = both-true (is_inner_head false n i) (is_flat (n ∷ t ∷ []) true test && is_inner_body ds (n ∷ t ∷ []) true body) f.1 in
      let p = both-true (is_flat (n ∷ t ∷ []) true test) (is_inner_body ds (n ∷ t ∷ []) true body) o.1 in
      let a = both-true (knows_no_locals ds n t mask test body) (mask_stays n mask i body && (has_plain_locals ds n test body && (all_one RN && adds_last (n ∷ t ∷ []) body))) w.1 in
      let b = both-true (mask_stays n mask i body) (has_plain_locals ds n test body && (all_one RN && adds_last (n ∷ t ∷ []) body)) a.1 in
      let d = both-true (has_plain_locals ds n test body) (all_one RN && adds_last (n ∷ t ∷ []) body) b.1 in
      let e = both-true (all_one RN) (adds_last (n ∷ t ∷ []) body) d.1 in
      let q = both-true (list_all (is_no_local ds (n ∷ t ∷ [])) (told_in mask ++ (told_in test ++ S.scalars))) (spares_locals ds body) a.0 in
      record {
        askable = record { apart = (lone ds n j here i test body f.1).apart; test_flat = p.0; mask_is = m.0; stays = b.0 };
        mask_flat = f.0;
        head = o.0;
        flat = p.0;
        inner_body = p.1;
        out = w.0;
        told = q.0;
        spares = q.1;
        plain = d.0;
        one = e.0;
        last = e.1;
      }

  module _ (f : Formed) where
    mask-stays : Stays n i body mask
    mask-stays = stays-from n i body mask f.askable.stays

    both-mask : is_mask n both ≡ true
    both-mask = mask-together n mask (chosen outer test) f.askable.mask_is (mask-chosen n i body test)

    both-stays : mask_stays n both i body ≡ true
    both-stays = stays-to n i body both (stays-together n i body mask mask-stays mask (chosen outer test) mask-stays (stays-chosen n i body mask mask-stays test))

    -- what both parts read is what the mask and the filter do
    abbrev seen : List Read
    seen = reads_in mask ++ (reads_in test ++ S.properties)

    abbrev named : List ℕ
    named = told_in mask ++ (told_in test ++ S.scalars)

    reads-rest : (l : List Read) → AreIn (reads_in test) l → AreIn (reads_in rest) l
    reads-rest l h = reads-left l outer test h

    tells-rest : (l : List ℕ) → Tells l test → Tells l rest
    tells-rest l h = tells-left l outer test h

    reads-mask : AreIn (reads_in mask) seen
    reads-mask r q = in-left r (reads_in mask) (reads_in test ++ S.properties) q

    reads-test : AreIn (reads_in test) seen
    reads-test r q = in-right r (reads_in mask) (reads_in test ++ S.properties) (in-left r (reads_in test) S.properties q)

    reads-both : AreIn (reads_in both) seen
    reads-both = reads-together seen mask (chosen outer test) reads-mask (reads-chosen seen outer test reads-test)

    all-reads : AreIn (reads_in both ++ (reads_in rest ++ S.properties)) seen
    all-reads r q =
        ⊎_elim (λ a. reads-both r a) (λ o. ⊎_elim (λ b. reads-rest seen reads-test r b) (λ c. in-right r (reads_in mask) (reads_in test ++ S.properties) (in-right r (reads_in test) S.properties c)) (in-either r (reads_in rest) S.properties o))
        (in-either r (reads_in both) (reads_in rest ++ S.properties) q)

    inner-reads : AreIn (reads_in rest ++ S.properties) (reads_in test ++ S.properties)
    inner-reads r q =
        ⊎_elim (λ b. reads-rest (reads_in test ++ S.properties) (λ z k. in-left z (reads_in test) S.properties k) r b) (λ c. in-right r (reads_in test) S.properties c) (in-either r (reads_in rest) S.properties q)

    tells-both : (l : List ℕ) → Tells l mask → Tells l test → Tells l both
    tells-both l p q = tells-together l mask (chosen outer test) p (tells-chosen l outer test q)

    -- ---- the form

    goes-rest : goes_out ds n i rest body ≡ true
    goes-rest = by (is_home ds n i test body) refl f.out
      where
        edge : Bool
        edge = is_along i.domain

        home : is_home ds n i test body ≡ true → is_home ds n i rest body ≡ true
        home h = let q = both-true (is_flat (n ∷ []) edge test) (is_inner_body ds (n ∷ []) edge body && avoids t body) h in and-true (is_flat (n ∷ []) edge rest) (is_inner_body ds (n ∷ []) edge body && avoids t body) (flat-left (n ∷ []) edge outer test q.0) q.1

        push : is_push ds n i test body ≡ true → is_push ds n i rest body ≡ true
        push h = let q = both-true (is_flat (n ∷ t ∷ []) edge test) (is_inner_body ds (n ∷ t ∷ []) edge body && avoids n body) h in and-true (is_flat (n ∷ t ∷ []) edge rest) (is_inner_body ds (n ∷ t ∷ []) edge body && avoids n body) (flat-left (n ∷ t ∷ []) edge outer test q.0) q.1

        either : (a b : Bool) → a ≡ true → a || b ≡ true
        either true b e = refl
        either false b e = absurd (both_ways false refl e)

        other : (a b : Bool) → b ≡ true → a || b ≡ true
        other true b e = refl
        other false b e = e

        by : (b : Bool) → is_home ds n i test body ≡ b → b || is_push ds n i test body ≡ true → goes_out ds n i rest body ≡ true
        by true e h = either (is_home ds n i rest body) (is_push ds n i rest body) (home e)
        by false e h = other (is_home ds n i rest body) (is_push ds n i rest body) (push h)

    edge-asked : is_edge_loop ds n both i rest body ≡ true
    edge-asked =
        and-true (knows_no_locals ds n t both rest body) _
        (and-true (list_all (is_no_local ds (n ∷ t ∷ [])) (told_in both ++ (told_in rest ++ S.scalars))) (spares_locals ds body)
        (all-passes (told_in both ++ (told_in rest ++ S.scalars)) (λ y q. passes-in (is_no_local ds (n ∷ t ∷ [])) named y f.told (from y q))) f.spares)
        (and-true (mask_stays n both i body) _ both-stays
        (and-true (has_plain_locals ds n rest body) (all_one RN && adds_last (n ∷ t ∷ []) body) plain
        (and-true (all_one RN) (adds_last (n ∷ t ∷ []) body) f.one f.last)))
      where
        from : (y : ℕ) → IsIn y (told_in both ++ (told_in rest ++ S.scalars)) → IsIn y named
        from y q =
            ⊎_elim (λ a. tells-both named (λ z k. in-left z (told_in mask) (told_in test ++ S.scalars) k) (λ z k. in-right z (told_in mask) (told_in test ++ S.scalars) (in-left z (told_in test) S.scalars k)) y a)
            (λ o. in-right y (told_in mask) (told_in test ++ S.scalars)
            (⊎_elim (λ b. tells-rest (told_in test ++ S.scalars) (λ z k. in-left z (told_in test) S.scalars k) y b) (λ c. in-right y (told_in test) S.scalars c) (in-either y (told_in rest) S.scalars o)))
            (in-either y (told_in both) (told_in rest ++ S.scalars) q)

        plain : has_plain_locals ds n rest body ≡ true
        plain = fewer own (read_anywhere (reads_in test ++ S.properties) ++ kept_in RN) (read_anywhere (reads_in rest ++ S.properties) ++ kept_in RN) f.plain
            (λ y q. ⊎_elim (λ a. in-left y (read_anywhere (reads_in test ++ S.properties)) (kept_in RN) (anywhere-more (reads_in rest ++ S.properties) (reads_in test ++ S.properties) inner-reads y a))
            (λ b. in-right y (read_anywhere (reads_in test ++ S.properties)) (kept_in RN) b) (in-either y (read_anywhere (reads_in rest ++ S.properties)) (kept_in RN) q))

    both-flat : is_flat (n ∷ []) false both ≡ true
    both-flat = (both-true (cannot_fail both) (is_flat (n ∷ []) false both) both-mask).1

    both-safe : cannot_fail both ≡ true
    both-safe = (both-true (cannot_fail both) (is_flat (n ∷ []) false both) both-mask).0

    rest-flat : is_flat (n ∷ t ∷ []) true rest ≡ true
    rest-flat = flat-left (n ∷ t ∷ []) true outer test f.flat

    pub cut-asked : is_cut goes_out ds n both asked ≡ true
    cut-asked =
        and-true (is_flat_loop ds false n both asked) (is_mask n both && is_along_edges (goes_out ds) ds n both asked)
        (and-true (is_flat (n ∷ []) false both) (is_outer_body ds false n asked) both-flat
        (and-true (is_inner_head false n i) (is_flat (n ∷ t ∷ []) true rest && is_inner_body ds (n ∷ t ∷ []) true body) f.head
        (and-true (is_flat (n ∷ t ∷ []) true rest) (is_inner_body ds (n ∷ t ∷ []) true body) rest-flat f.inner_body)))
        (and-true (is_mask n both) (goes_out ds n i rest body && is_edge_loop ds n both i rest body) both-mask (and-true (goes_out ds n i rest body) (is_edge_loop ds n both i rest body) goes-rest edge-asked))

    -- ---- the order of faults

    rest-faults : (g : K.Fault) → IsIn g (faults_in rest j) → IsIn g (faults_in test j)
    rest-faults g q =
        subst (λ l. IsIn g (l ++ rest_in test j)) (sym (flat-hoisted (n ∷ t ∷ []) true test f.flat))
        (rest-left (rest_in test j) j outer test (λ z o. o) g (subst (λ l. IsIn g (l ++ rest_in rest j)) (flat-hoisted (n ∷ t ∷ []) true rest rest-flat) q))

    abbrev its : List ℕ
    its = t ∷ n ∷ []

    abbrev inside : List K.Fault
    inside = faults_of its body

    asked-faults : (g : K.Fault) → IsIn g (faults_of (n ∷ []) asked) → IsIn g (faults_of (n ∷ []) inner)
    asked-faults g q = ⊎_elim (λ e. inl e) (λ o. inr (⊎_elim (λ a. in-left g (faults_in test j) inside (rest-faults g a)) (λ b. in-right g (faults_in test j) inside b) (in-either g (faults_in rest j) inside o))) q

    pub order-asked : (place : Place) → begins (n ∷ []) k place mask inner && loop_in_order (n ∷ []) k mask inner ≡ true → begins (n ∷ []) k place both asked && loop_in_order (n ∷ []) k both asked ≡ true
    order-asked place h =
        let out = n ∷ [] in
        let a = both-true (begins out k place mask inner) (loop_in_order out k mask inner) h in
        let b = both-true (leads out k place inner) (are_numbered (hoisted_in mask ++ faults_of out inner) && (nat_lt 0 k.statement || cannot_fail mask)) a.0 in
        let c = both-true (are_numbered (hoisted_in mask ++ faults_of out inner)) (nat_lt 0 k.statement || cannot_fail mask) b.1 in
        let d = both-true (in_order mask k) (body_in_order out inner && lie_before (faults_in mask k) (faults_of out inner)) a.1 in
        let e = both-true (body_in_order out inner) (lie_before (faults_in mask k) (faults_of out inner)) d.1 in
        let g = both-true (leads its j i.place body) (in_order test j && (body_in_order its body && lie_before (faults_in test j) inside)) e.0 in
        let m = both-true (in_order test j) (body_in_order its body && lie_before (faults_in test j) inside) g.1 in
        let q = both-true (body_in_order its body) (lie_before (faults_in test j) inside) m.1 in
        and-true (begins out k place both asked) (loop_in_order out k both asked)
        (and-true (leads out k place asked) (are_numbered (hoisted_in both ++ faults_of out asked) && (nat_lt 0 k.statement || cannot_fail both))
        (lies-from (fault_of k place ∷ []) (faults_of out asked) (λ x y u v. lies-in (fault_of k place ∷ []) (faults_of out inner) x y b.0 u (asked-faults y v)))
        (and-true (are_numbered (hoisted_in both ++ faults_of out asked)) (nat_lt 0 k.statement || cannot_fail both)
        (ap (λ l. are_numbered (l ++ faults_of out asked)) (safe-hoisted both both-safe)
        ∙ numbered-from (faults_of out asked) (λ y v. numbered-in (hoisted_in mask ++ faults_of out inner) y c.0 (in-right y (hoisted_in mask) (faults_of out inner) (asked-faults y v))))
        (safe (nat_lt 0 k.statement) both-safe)))
        (and-true (in_order both k) (body_in_order out asked && lie_before (faults_in both k) (faults_of out asked))
        (flat-in-order (n ∷ []) false both k both-flat)
        (and-true (body_in_order out asked) (lie_before (faults_in both k) (faults_of out asked))
        (and-true (leads its j i.place body) (in_order rest j && (body_in_order its body && lie_before (faults_in rest j) inside)) g.0
        (and-true (in_order rest j) (body_in_order its body && lie_before (faults_in rest j) inside) (flat-in-order (n ∷ t ∷ []) true rest j rest-flat)
        (and-true (body_in_order its body) (lie_before (faults_in rest j) inside) q.0 (lies-from (faults_in rest j) inside (λ x y u v. lies-in (faults_in test j) inside x y q.1 (rest-faults x u) v)))))
        (ap (λ l. lie_before l (faults_of out asked)) (safe-faults both k both-safe) ∙ lies-from [] (faults_of out asked) (λ x y u v. absurd u))))
      where
        safe : (b : Bool) → cannot_fail both ≡ true → b || cannot_fail both ≡ true
        safe true e = refl
        safe false e = e

    -- ---- what iterations share

    pub share-asked : shares ds n mask inner ≡ true → shares ds n both asked ≡ true
    share-asked h =
        let a = both-true (disjoint (shared_in RN) (read_anywhere seen ++ ((told_in mask ++ (i.owner ∷ (told_in test ++ S.scalars))) ++ own))) _ h in
        let b = both-true (disjoint (own ++ kept_in RN) (read_elsewhere n seen)) _ a.1 in
        let d = both-true (all_agree RN) (inner_shares ds n test body && targets_alike body) b.1 in
        let e = both-true (inner_shares ds n test body) (targets_alike body) d.1 in
        let g = both-true (disjoint (kept_in RN) (read_at n (reads_in test ++ S.properties) ++ (told_in test ++ S.scalars))) (all_last_one_way RN) e.0 in
        and-true (disjoint (shared_in RN) (read_anywhere (reads_in both ++ (reads_in rest ++ S.properties)) ++ ((told_in both ++ (i.owner ∷ (told_in rest ++ S.scalars))) ++ own))) _
        (fewer (shared_in RN) (read_anywhere seen ++ (scalars ++ own)) _ a.0 (λ y q.
        ⊎_elim (λ u. in-left y (read_anywhere seen) (scalars ++ own) (anywhere-more (reads_in both ++ (reads_in rest ++ S.properties)) seen all-reads y u))
        (λ u. in-right y (read_anywhere seen) (scalars ++ own) (⊎_elim (λ v. in-left y scalars own (from y v)) (λ v. in-right y scalars own v) (in-either y (told_in both ++ (i.owner ∷ (told_in rest ++ S.scalars))) own u)))
        (in-either y (read_anywhere (reads_in both ++ (reads_in rest ++ S.properties))) ((told_in both ++ (i.owner ∷ (told_in rest ++ S.scalars))) ++ own) q)))
        (and-true (disjoint (own ++ kept_in RN) (read_elsewhere n (reads_in both ++ (reads_in rest ++ S.properties)))) _
        (fewer (own ++ kept_in RN) (read_elsewhere n seen) _ b.0 (elsewhere-more n (reads_in both ++ (reads_in rest ++ S.properties)) seen all-reads))
        (and-true (all_agree RN) (inner_shares ds n rest body && targets_alike body) d.0
        (and-true (inner_shares ds n rest body) (targets_alike body)
        (and-true (disjoint (kept_in RN) (read_at n (reads_in rest ++ S.properties) ++ (told_in rest ++ S.scalars))) (all_last_one_way RN)
        (fewer (kept_in RN) (read_at n (reads_in test ++ S.properties) ++ (told_in test ++ S.scalars)) _ g.0 (λ y q.
        ⊎_elim (λ u. in-left y (read_at n (reads_in test ++ S.properties)) (told_in test ++ S.scalars) (at-more n (reads_in rest ++ S.properties) (reads_in test ++ S.properties) inner-reads y u))
        (λ u. in-right y (read_at n (reads_in test ++ S.properties)) (told_in test ++ S.scalars)
        (⊎_elim (λ v. tells-rest (told_in test ++ S.scalars) (λ z k. in-left z (told_in test) S.scalars k) y v) (λ v. in-right y (told_in test) S.scalars v) (in-either y (told_in rest) S.scalars u)))
        (in-either y (read_at n (reads_in rest ++ S.properties)) (told_in rest ++ S.scalars) q)))
        g.1)
        e.1)))
      where
        scalars : List ℕ
        scalars = told_in mask ++ (i.owner ∷ (told_in test ++ S.scalars))

        more : (y : ℕ) → IsIn y (told_in test ++ S.scalars) → IsIn y scalars
        more y q = in-right y (told_in mask) (i.owner ∷ (told_in test ++ S.scalars)) (inr q)

        from : (y : ℕ) → IsIn y (told_in both ++ (i.owner ∷ (told_in rest ++ S.scalars))) → IsIn y scalars
        from y q =
            ⊎_elim (λ a. tells-both scalars (λ z k. in-left z (told_in mask) (i.owner ∷ (told_in test ++ S.scalars)) k) (λ z k. more z (in-left z (told_in test) S.scalars k)) y a)
            (λ o. ⊎_elim (λ u. in-right y (told_in mask) (i.owner ∷ (told_in test ++ S.scalars)) (inl u))
            (λ u. ⊎_elim (λ v. tells-rest scalars (λ z k. more z (in-left z (told_in test) S.scalars k)) y v) (λ v. more y (in-right y (told_in test) S.scalars v)) (in-either y (told_in rest) S.scalars u)) o)
            (in-either y (told_in both) (i.owner ∷ (told_in rest ++ S.scalars)) q)
