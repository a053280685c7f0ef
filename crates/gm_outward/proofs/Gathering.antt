-- A loop whose inner body's conditions are gathered keeps its form, and what every pass keeps of loops.
use Rattle.std.proofs.Common.{◌≡◌, ℕ, Bool, true, false, cond, List, [], ◌∷◌, ◌++◌, refl, sym, ap, subst, ◌∙◌, ⊎_elim, inl, inr}
use Rattle.std.specs.Prelude.{◌&&◌, ◌||◌, ◌⊎◌, not, nat_eq, nat_lt}
use Rattle.std.specs.List.{list_all}
use Rattle.std.proofs.lemmas.Bool.{both_ways}
use Rattle.gm_base.specs.declared.places.Place.{Place}
use Rattle.gm_value.specs.Bag.{IsIn}
use Rattle.gm_ast.specs.declared.tree.Declaration.{Declaration}
use Rattle.gm_ast.specs.declared.tree.Head.{Head}
use Rattle.gm_ast.specs.declared.tree.Key.{Key}
use Rattle.gm_ast.specs.Keys as K
use Rattle.gm_ast.specs.Ways.{is_in}
use Rattle.gm_ast.specs.Program.{Expr, Both, always, Stmt, Foreach}
use Rattle.gm_forms.specs.Cut.{is_mask, mask_stays, touched, adds_last, spares_locals, is_no_local, knows_no_locals, has_plain_locals, is_edge_loop, is_along_edges, is_cut}
use Rattle.gm_forms.specs.Forms.{is_along, is_flat, is_flat_loop, is_inner_body, is_inner_head, is_outer_body, avoids, is_home, is_push, goes_out}
use Rattle.gm_forms.specs.Order.{lie_before, rest_in, hoisted_in, faults_in, in_order, faults_of, body_in_order, loop_in_order, are_numbered, cannot_fail, leads, begins, fault_of}
use Rattle.gm_forms.specs.Sharing.{Read, Sights, reads_in, told_in, sights_of, read_at, read_elsewhere, read_anywhere, written, Reduced, reduced, shared_in, kept_in, disjoint, all_agree, all_one, all_last_one_way, targets_alike, inner_shares, shares}
use Rattle.gm_forms.proofs.CutLaws.{lies-in}
use Rattle.gm_forms.proofs.Doings.{in-left, in-right, in-either}
use Rattle.gm_forms.proofs.Leading.{flat-in-order, flat-hoisted, safe-rest}
use Rattle.gm_forms.proofs.Named.{both-true}
use Rattle.gm_forms.proofs.Weaker.{and-true}
use Rattle.gm_flip.proofs.Sane.{passes-in, all-passes}
use Rattle.gm_outward.specs.Gathered.{together, is_one_reduction, conditions, reduction}
use Rattle.gm_outward.proofs.Lone.{touched-same, reduced-same, written-same, reduction-reads, conditions-read, reduction-tells, conditions-tell, reduction-inner, conditions-flat, conditions-safe, reduction-avoids, reduction-spares, reduction-alike, reduction-last, reduction-order, reduction-faults}
use Rattle.gm_outward.proofs.Masks.{together-has, reads-together, tells-together}
use Rattle.gm_outward.proofs.Sane.{Formed, lies-from, numbered-in, numbered-from, AreIn, anywhere-more, elsewhere-more, at-more, fewer}

module _ (ds : List Declaration) (n : ℕ) (k : Key) (mask : Expr) (j : Key) (here : Place) (i : Head) (test : Expr) (body : Stmt) (lone : is_one_reduction body ≡ true) where
  abbrev t : ℕ
  t = i.iterator

  abbrev c : Expr
  c = conditions body

  abbrev core : Stmt
  core = reduction body

  abbrev filter : Expr
  filter = together test c

  abbrev old : Stmt
  old = Foreach j here i test body

  abbrev new : Stmt
  new = Foreach j here i filter core

  abbrev S : Sights
  S = sights_of ds n true body

  abbrev T : Sights
  T = sights_of ds n true core

  abbrev RN : List Reduced
  RN = reduced ds n true body

  abbrev own : List ℕ
  own = written ds n true body

  -- what the filter and the reduction read is what the filter and the body did
  abbrev reads : List Read
  reads = reads_in test ++ S.properties

  abbrev tells : List ℕ
  tells = told_in test ++ S.scalars

  all-reads : AreIn (reads_in filter ++ T.properties) reads
  all-reads r q =
      ⊎_elim (λ a. reads-together reads test c (λ z p. in-left z (reads_in test) S.properties p) (λ z p. in-right z (reads_in test) S.properties (conditions-read ds n S.properties body lone (λ y o. o) z p)) r a)
      (λ b. in-right r (reads_in test) S.properties (reduction-reads ds n S.properties body lone (λ y o. o) r b)) (in-either r (reads_in filter) T.properties q)

  all-tells : (y : ℕ) → IsIn y (told_in filter ++ T.scalars) → IsIn y tells
  all-tells y q =
      ⊎_elim (λ a. tells-together tells test c (λ z p. in-left z (told_in test) S.scalars p) (λ z p. in-right z (told_in test) S.scalars (conditions-tell ds n S.scalars body lone (λ x o. o) z p)) y a)
      (λ b. in-right y (told_in test) S.scalars (reduction-tells ds n S.scalars body lone (λ x o. o) y b)) (in-either y (told_in filter) T.scalars q)

  filter-flat : (its : List ℕ) (edge : Bool) → is_flat its edge test ≡ true → is_inner_body ds its edge body ≡ true → is_flat its edge filter ≡ true
  filter-flat its edge p q = together-has (λ e. is_flat its edge e ≡ true) refl (λ a b f g. and-true (is_flat its edge a) (is_flat its edge b) f g) test c p (conditions-flat ds its edge body lone q)

  module _ (f : Formed ds n k mask j here i test body) where
    abbrev ends : List ℕ
    ends = n ∷ t ∷ []

    flat-filter : is_flat ends true filter ≡ true
    flat-filter = filter-flat ends true f.flat f.inner_body

    goes-new : goes_out ds n i filter core ≡ true
    goes-new = by (is_home ds n i test body) refl f.out
      where
        edge : Bool
        edge = is_along i.domain

        moved : (its : List ℕ) (x : ℕ) → is_flat its edge test && (is_inner_body ds its edge body && avoids x body) ≡ true → is_flat its edge filter && (is_inner_body ds its edge core && avoids x core) ≡ true
        moved its x h =
            let q = both-true (is_flat its edge test) (is_inner_body ds its edge body && avoids x body) h in
            let r = both-true (is_inner_body ds its edge body) (avoids x body) q.1 in
            and-true (is_flat its edge filter) (is_inner_body ds its edge core && avoids x core) (filter-flat its edge q.0 r.0) (and-true (is_inner_body ds its edge core) (avoids x core) (reduction-inner ds its edge body lone r.0) (reduction-avoids x body lone r.1))

        either : (a b : Bool) → a ≡ true → a || b ≡ true
        either true b e = refl
        either false b e = absurd (both_ways false refl e)

        other : (a b : Bool) → b ≡ true → a || b ≡ true
        other true b e = refl
        other false b e = e

        by : (b : Bool) → is_home ds n i test body ≡ b → b || is_push ds n i test body ≡ true → goes_out ds n i filter core ≡ true
        by true e h = either (is_home ds n i filter core) (is_push ds n i filter core) (moved (n ∷ []) t e)
        by false e h = other (is_home ds n i filter core) (is_push ds n i filter core) (moved ends n h)

    edge-new : is_edge_loop ds n mask i filter core ≡ true
    edge-new =
        and-true (knows_no_locals ds n t mask filter core) _
        (and-true (list_all (is_no_local ds ends) (told_in mask ++ (told_in filter ++ T.scalars))) (spares_locals ds core)
        (all-passes (told_in mask ++ (told_in filter ++ T.scalars)) (λ y q. passes-in (is_no_local ds ends) (told_in mask ++ tells) y f.told
        (⊎_elim (λ a. in-left y (told_in mask) tells a) (λ b. in-right y (told_in mask) tells (all-tells y b)) (in-either y (told_in mask) (told_in filter ++ T.scalars) q))))
        (reduction-spares ds body lone f.spares))
        (and-true (mask_stays n mask i core) _ (ap (λ l. disjoint l (n ∷ (t ∷ (read_anywhere (reads_in mask) ++ told_in mask))) && not (is_in (told_in mask) t)) (touched-same body lone) ∙ f.askable.stays)
        (and-true (has_plain_locals ds n filter core) _ plain
        (and-true (all_one (reduced ds n true core)) (adds_last ends core) (ap all_one (reduced-same ds n body lone) ∙ f.one) (reduction-last ends body lone f.last))))
      where
        plain : has_plain_locals ds n filter core ≡ true
        plain =
            ap (λ l. disjoint l (read_anywhere (reads_in filter ++ T.properties) ++ kept_in (reduced ds n true core))) (written-same ds n body lone)
            ∙ ap (λ l. disjoint own (read_anywhere (reads_in filter ++ T.properties) ++ kept_in l)) (reduced-same ds n body lone)
            ∙ fewer own (read_anywhere reads ++ kept_in RN) (read_anywhere (reads_in filter ++ T.properties) ++ kept_in RN) f.plain
            (λ y q. ⊎_elim (λ a. in-left y (read_anywhere reads) (kept_in RN) (anywhere-more (reads_in filter ++ T.properties) reads all-reads y a)) (λ b. in-right y (read_anywhere reads) (kept_in RN) b)
            (in-either y (read_anywhere (reads_in filter ++ T.properties)) (kept_in RN) q))

    pub cut-new : is_cut goes_out ds n mask new ≡ true
    cut-new =
        and-true (is_flat_loop ds false n mask new) (is_mask n mask && is_along_edges (goes_out ds) ds n mask new)
        (and-true (is_flat (n ∷ []) false mask) (is_outer_body ds false n new) f.mask_flat
        (and-true (is_inner_head false n i) (is_flat ends true filter && is_inner_body ds ends true core) f.head (and-true (is_flat ends true filter) (is_inner_body ds ends true core) flat-filter (reduction-inner ds ends true body lone f.inner_body))))
        (and-true (is_mask n mask) (goes_out ds n i filter core && is_edge_loop ds n mask i filter core) f.askable.mask_is (and-true (goes_out ds n i filter core) (is_edge_loop ds n mask i filter core) goes-new edge-new))

    -- ---- the order of faults

    abbrev its : List ℕ
    its = t ∷ n ∷ []

    rest-filter : (g : K.Fault) → IsIn g (rest_in filter j) → IsIn g (rest_in test j)
    rest-filter = together-has (λ e. (g : K.Fault) → IsIn g (rest_in e j) → IsIn g (rest_in test j)) (λ g q. absurd q) (λ a b p q g z. ⊎_elim (λ o. p g o) (λ o. q g o) (in-either g (rest_in a j) (rest_in b j) z)) test c (λ g q. q)
        (λ g q. absurd (subst (λ l. IsIn g l) (safe-rest c j (conditions-safe body lone)) q))

    filter-faults : (g : K.Fault) → IsIn g (faults_in filter j) → IsIn g (faults_in test j)
    filter-faults g q =
        subst (λ l. IsIn g (l ++ rest_in test j)) (sym (flat-hoisted ends true test f.flat))
        (rest-filter g (subst (λ l. IsIn g (l ++ rest_in filter j)) (flat-hoisted ends true filter flat-filter) q))

    core-faults : (g : K.Fault) → IsIn g (faults_of its core) → IsIn g (faults_of its body)
    core-faults = reduction-faults its (faults_of its body) body lone (λ g q. q)

    new-faults : (g : K.Fault) → IsIn g (faults_of (n ∷ []) new) → IsIn g (faults_of (n ∷ []) old)
    new-faults g q =
        ⊎_elim (λ e. inl e)
        (λ o. inr (⊎_elim (λ a. in-left g (faults_in test j) (faults_of its body) (filter-faults g a)) (λ b. in-right g (faults_in test j) (faults_of its body) (core-faults g b)) (in-either g (faults_in filter j) (faults_of its core) o))) q

    pub order-new : (place : Place) → begins (n ∷ []) k place mask old && loop_in_order (n ∷ []) k mask old ≡ true → begins (n ∷ []) k place mask new && loop_in_order (n ∷ []) k mask new ≡ true
    order-new place h =
        let out = n ∷ [] in
        let a = both-true (begins out k place mask old) (loop_in_order out k mask old) h in
        let b = both-true (leads out k place old) (are_numbered (hoisted_in mask ++ faults_of out old) && (nat_lt 0 k.statement || cannot_fail mask)) a.0 in
        let d = both-true (are_numbered (hoisted_in mask ++ faults_of out old)) (nat_lt 0 k.statement || cannot_fail mask) b.1 in
        let e = both-true (in_order mask k) (body_in_order out old && lie_before (faults_in mask k) (faults_of out old)) a.1 in
        let g = both-true (body_in_order out old) (lie_before (faults_in mask k) (faults_of out old)) e.1 in
        let m = both-true (leads its j i.place body) (in_order test j && (body_in_order its body && lie_before (faults_in test j) (faults_of its body))) g.0 in
        let p = both-true (in_order test j) (body_in_order its body && lie_before (faults_in test j) (faults_of its body)) m.1 in
        let q = both-true (body_in_order its body) (lie_before (faults_in test j) (faults_of its body)) p.1 in
        and-true (begins out k place mask new) (loop_in_order out k mask new)
        (and-true (leads out k place new) (are_numbered (hoisted_in mask ++ faults_of out new) && (nat_lt 0 k.statement || cannot_fail mask))
        (lies-from (fault_of k place ∷ []) (faults_of out new) (λ x y u v. lies-in (fault_of k place ∷ []) (faults_of out old) x y b.0 u (new-faults y v)))
        (and-true (are_numbered (hoisted_in mask ++ faults_of out new)) (nat_lt 0 k.statement || cannot_fail mask)
        (numbered-from (hoisted_in mask ++ faults_of out new) (λ y v. numbered-in (hoisted_in mask ++ faults_of out old) y d.0
        (⊎_elim (λ o. in-left y (hoisted_in mask) (faults_of out old) o) (λ o. in-right y (hoisted_in mask) (faults_of out old) (new-faults y o)) (in-either y (hoisted_in mask) (faults_of out new) v))))
        d.1))
        (and-true (in_order mask k) (body_in_order out new && lie_before (faults_in mask k) (faults_of out new)) e.0
        (and-true (body_in_order out new) (lie_before (faults_in mask k) (faults_of out new))
        (and-true (leads its j i.place core) (in_order filter j && (body_in_order its core && lie_before (faults_in filter j) (faults_of its core)))
        (lies-from (fault_of j i.place ∷ []) (faults_of its core) (λ x y u v. lies-in (fault_of j i.place ∷ []) (faults_of its body) x y m.0 u (core-faults y v)))
        (and-true (in_order filter j) (body_in_order its core && lie_before (faults_in filter j) (faults_of its core)) (flat-in-order ends true filter j flat-filter)
        (and-true (body_in_order its core) (lie_before (faults_in filter j) (faults_of its core)) (reduction-order its body lone q.0)
        (lies-from (faults_in filter j) (faults_of its core) (λ x y u v. lies-in (faults_in test j) (faults_of its body) x y q.1 (filter-faults x u) (core-faults y v))))))
        (lies-from (faults_in mask k) (faults_of out new) (λ x y u v. lies-in (faults_in mask k) (faults_of out old) x y g.1 u (new-faults y v)))))

    -- ---- what iterations share

    pub share-new : shares ds n mask old ≡ true → shares ds n mask new ≡ true
    share-new h =
        let a = both-true (disjoint (shared_in RN) (read_anywhere (reads_in mask ++ reads) ++ ((told_in mask ++ (i.owner ∷ tells)) ++ own))) _ h in
        let b = both-true (disjoint (own ++ kept_in RN) (read_elsewhere n (reads_in mask ++ reads))) _ a.1 in
        let d = both-true (all_agree RN) (inner_shares ds n test body && targets_alike body) b.1 in
        let e = both-true (inner_shares ds n test body) (targets_alike body) d.1 in
        let g = both-true (disjoint (kept_in RN) (read_at n reads ++ tells)) (all_last_one_way RN) e.0 in
        subst (λ l. disjoint (shared_in l) (read_anywhere (reads_in mask ++ (reads_in filter ++ T.properties)) ++ ((told_in mask ++ (i.owner ∷ (told_in filter ++ T.scalars))) ++ written ds n true core))
        && (disjoint (written ds n true core ++ kept_in l) (read_elsewhere n (reads_in mask ++ (reads_in filter ++ T.properties)))
        && (all_agree l && ((disjoint (kept_in l) (read_at n (reads_in filter ++ T.properties) ++ (told_in filter ++ T.scalars)) && all_last_one_way l) && targets_alike core))) ≡ true) (sym (reduced-same ds n body lone))
        (subst (λ o. disjoint (shared_in RN) (read_anywhere (reads_in mask ++ (reads_in filter ++ T.properties)) ++ ((told_in mask ++ (i.owner ∷ (told_in filter ++ T.scalars))) ++ o))
        && (disjoint (o ++ kept_in RN) (read_elsewhere n (reads_in mask ++ (reads_in filter ++ T.properties)))
        && (all_agree RN && ((disjoint (kept_in RN) (read_at n (reads_in filter ++ T.properties) ++ (told_in filter ++ T.scalars)) && all_last_one_way RN) && targets_alike core))) ≡ true) (sym (written-same ds n body lone))
        (and-true (disjoint (shared_in RN) (read_anywhere (reads_in mask ++ (reads_in filter ++ T.properties)) ++ ((told_in mask ++ (i.owner ∷ (told_in filter ++ T.scalars))) ++ own))) _
        (fewer (shared_in RN) (read_anywhere (reads_in mask ++ reads) ++ ((told_in mask ++ (i.owner ∷ tells)) ++ own)) _ a.0 (λ y q.
        ⊎_elim (λ u. in-left y (read_anywhere (reads_in mask ++ reads)) ((told_in mask ++ (i.owner ∷ tells)) ++ own) (anywhere-more (reads_in mask ++ (reads_in filter ++ T.properties)) (reads_in mask ++ reads) mask-reads y u))
        (λ u. in-right y (read_anywhere (reads_in mask ++ reads)) ((told_in mask ++ (i.owner ∷ tells)) ++ own)
        (⊎_elim (λ v. in-left y (told_in mask ++ (i.owner ∷ tells)) own (from y v)) (λ v. in-right y (told_in mask ++ (i.owner ∷ tells)) own v) (in-either y (told_in mask ++ (i.owner ∷ (told_in filter ++ T.scalars))) own u)))
        (in-either y (read_anywhere (reads_in mask ++ (reads_in filter ++ T.properties))) ((told_in mask ++ (i.owner ∷ (told_in filter ++ T.scalars))) ++ own) q)))
        (and-true (disjoint (own ++ kept_in RN) (read_elsewhere n (reads_in mask ++ (reads_in filter ++ T.properties)))) _
        (fewer (own ++ kept_in RN) (read_elsewhere n (reads_in mask ++ reads)) _ b.0 (elsewhere-more n (reads_in mask ++ (reads_in filter ++ T.properties)) (reads_in mask ++ reads) mask-reads))
        (and-true (all_agree RN) _ d.0
        (and-true (disjoint (kept_in RN) (read_at n (reads_in filter ++ T.properties) ++ (told_in filter ++ T.scalars)) && all_last_one_way RN) (targets_alike core)
        (and-true (disjoint (kept_in RN) (read_at n (reads_in filter ++ T.properties) ++ (told_in filter ++ T.scalars))) (all_last_one_way RN)
        (fewer (kept_in RN) (read_at n reads ++ tells) _ g.0 (λ y q.
        ⊎_elim (λ u. in-left y (read_at n reads) tells (at-more n (reads_in filter ++ T.properties) reads all-reads y u)) (λ u. in-right y (read_at n reads) tells (all-tells y u)) (in-either y (read_at n (reads_in filter ++ T.properties)) (told_in filter ++ T.scalars) q)))
        g.1)
        (reduction-alike body lone e.1))))))
      where
        mask-reads : AreIn (reads_in mask ++ (reads_in filter ++ T.properties)) (reads_in mask ++ reads)
        mask-reads r q = ⊎_elim (λ a. in-left r (reads_in mask) reads a) (λ b. in-right r (reads_in mask) reads (all-reads r b)) (in-either r (reads_in mask) (reads_in filter ++ T.properties) q)

        from : (y : ℕ) → IsIn y (told_in mask ++ (i.owner ∷ (told_in filter ++ T.scalars))) → IsIn y (told_in mask ++ (i.owner ∷ tells))
        from y q =
            ⊎_elim (λ a. in-left y (told_in mask) (i.owner ∷ tells) a) (λ o. in-right y (told_in mask) (i.owner ∷ tells) (⊎_elim (λ u. inl u) (λ u. inr (all-tells y u)) o)) (in-either y (told_in mask) (i.owner ∷ (told_in filter ++ T.scalars)) q)
