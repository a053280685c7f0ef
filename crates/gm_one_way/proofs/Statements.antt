-- Programs whose inner loops read no edge against the way of a message, and whose statements stand alone there: each statement goes one way.
use Rattle.std.proofs.Common.{◌≡◌, ℕ, Bool, true, false, List, [], ◌∷◌, refl}
use Rattle.std.specs.Prelude.{◌&&◌, ◌||◌, not, nat_eq}
use Rattle.std.specs.List.{list_all}
use Rattle.gm_base.specs.declared.places.Place.{Place}
use Rattle.gm_ast.specs.Loops.{any, is_nodes}
use Rattle.gm_ast.specs.Ways.{Mention, mentions, reads_through, is_edge_read}
use Rattle.gm_ast.specs.declared.tree.Declaration.{Declaration}
use Rattle.gm_ast.specs.declared.tree.Head.{Head}
use Rattle.gm_ast.specs.declared.tree.Key.{Key}
use Rattle.gm_ast.specs.Program.{Expr, Stmt, Skip, Then, Foreach, For, If, While, Do, Program, sequence}
use Rattle.gm_forms.specs.Cut.{is_own_loop, is_mask}
use Rattle.gm_forms.specs.Forms.{is_flat, is_inner_body, is_inner_head, is_outer_body, is_range, is_phase, is_told, no_loop}
use Rattle.gm_forms.specs.Sharing.{targets_alike, shares, loops_share}
use Rattle.gm_forms.proofs.Named.{both-true}
use Rattle.gm_forms.proofs.Weaker.{and-true}
use Rattle.gm_cut.specs.Lean.{leaves_go, statements_go, has_statements_that_go}
use Rattle.gm_cut.specs.Parts.{goes_any_way, is_parted, stands_along, IsPartedBy, each_passes}
use Rattle.gm_cut.specs.Slices.{statements_of, goes_one_way}
use Rattle.gm_cut.proofs.Shared.{shares-alike}
use Rattle.gm_cut.proofs.SlicesKept as Kept
use Rattle.gm_one_way.specs.Along.{marks, told_of, goes_along, AllAlong, EachAlong, ReadsAlong, is_lone, statements_alone, has_statements_alone}
use Rattle.gm_one_way.proofs.Silent.{no-true}
use Rattle.gm_one_way.proofs.Slices.{joined, one, of-all, leaves}

-- ---- blocks within blocks are opened

module _ (ds : List Declaration) (n : ℕ) where
  -- what is marked
  marks-opened : (reads : Mention → Bool) (marked : ℕ → Bool) (b : Bool) (s : Stmt) → marks ds n reads marked b s ≡ true → marks ds n reads marked b (sequence (statements_of s)) ≡ true
  marks-opened reads marked b Skip m = refl
  marks-opened reads marked b (Then x y) m =
      let r = both-true (marks ds n reads marked b x) (marks ds n reads marked b y) m in
      joined (marks ds n reads marked b) refl (λ x y. refl) (statements_of x) (statements_of y) (marks-opened reads marked b x r.0) (marks-opened reads marked b y r.1)
  marks-opened reads marked b (If k c x y) m =
      let f = b || told_of ds n reads marked c in
      let r = both-true (marks ds n reads marked f x) (marks ds n reads marked f y) m in
      one (marks ds n reads marked b) refl (λ x y. refl) (If k c (sequence (statements_of x)) (sequence (statements_of y)))
      (and-true (marks ds n reads marked f (sequence (statements_of x))) (marks ds n reads marked f (sequence (statements_of y))) (marks-opened reads marked f x r.0) (marks-opened reads marked f y r.1))
  marks-opened reads marked b s m = one (marks ds n reads marked b) refl (λ x y. refl) s m

  -- what goes along
  along-opened : (h : Head) (edges ends : ℕ → Bool) (end edge : Bool) (s : Stmt) → goes_along ds n h edges ends end edge s ≡ true → goes_along ds n h edges ends end edge (sequence (statements_of s)) ≡ true
  along-opened h edges ends end edge Skip m = refl
  along-opened h edges ends end edge (Then x y) m =
      let r = both-true (goes_along ds n h edges ends end edge x) (goes_along ds n h edges ends end edge y) m in
      joined (goes_along ds n h edges ends end edge) refl (λ x y. refl) (statements_of x) (statements_of y) (along-opened h edges ends end edge x r.0) (along-opened h edges ends end edge y r.1)
  along-opened h edges ends end edge (If k c x y) m =
      let f = end || told_of ds n (reads_through h.iterator) ends c in
      let e = edge || told_of ds n is_edge_read edges c in
      let r = both-true (goes_along ds n h edges ends f e x) (goes_along ds n h edges ends f e y) m in
      one (goes_along ds n h edges ends end edge) refl (λ x y. refl) (If k c (sequence (statements_of x)) (sequence (statements_of y)))
      (and-true (goes_along ds n h edges ends f e (sequence (statements_of x))) (goes_along ds n h edges ends f e (sequence (statements_of y))) (along-opened h edges ends f e x r.0) (along-opened h edges ends f e y r.1))
  along-opened h edges ends end edge s m = one (goes_along ds n h edges ends end edge) refl (λ x y. refl) s m

-- tests that all pass together
all-three : (f g h : Stmt → Bool) (ss : List Stmt) → list_all f ss ≡ true → list_all g ss ≡ true → list_all h ss ≡ true → list_all (λ s. f s && (g s && h s)) ss ≡ true
all-three f g h [] a b c = refl
all-three f g h (s ∷ ss) a b c =
    let p = both-true (f s) (list_all f ss) a in
    let q = both-true (g s) (list_all g ss) b in
    let r = both-true (h s) (list_all h ss) c in
    and-true (f s && (g s && h s)) (list_all (λ s. f s && (g s && h s)) ss) (and-true (f s) (g s && h s) p.0 (and-true (g s) (h s) q.0 r.0)) (all-three f g h ss p.1 q.1 r.1)

-- ---- loops

loop-goes : (ds : List Declaration) (k : Key) (at : Place) (hd : Head) (mask : Expr) (body : Stmt) → is_parted goes_any_way ds hd.iterator mask body ≡ true → shares ds hd.iterator mask body ≡ true → AllAlong ds hd.iterator body → statements_alone ds k at hd mask body ≡ true → statements_go ds k at hd mask body ≡ true
loop-goes ds k at hd mask (Foreach j here inner test body) form share along alone = by (goes_one_way ds hd.iterator inner test body) alone
  where
    n : ℕ
    n = hd.iterator

    its : List ℕ
    its = hd.iterator ∷ inner.iterator ∷ []

    flat : is_inner_head false hd.iterator inner && (is_flat (hd.iterator ∷ inner.iterator ∷ []) true test && is_inner_body ds (hd.iterator ∷ inner.iterator ∷ []) true body) ≡ true
    flat =
        (both-true (is_flat (hd.iterator ∷ []) false mask) (is_outer_body ds false hd.iterator (Foreach j here inner test body))
        (both-true (is_flat (hd.iterator ∷ []) false mask && is_outer_body ds false hd.iterator (Foreach j here inner test body)) (is_own_loop hd.iterator (Foreach j here inner test body) || (is_mask hd.iterator mask && stands_along goes_any_way ds hd.iterator mask (Foreach j here inner test body))) form).0).1

    parts : (is_inner_head false hd.iterator inner ≡ true) × (is_flat (hd.iterator ∷ inner.iterator ∷ []) true test && is_inner_body ds (hd.iterator ∷ inner.iterator ∷ []) true body ≡ true)
    parts = both-true (is_inner_head false hd.iterator inner) (is_flat its true test && is_inner_body ds its true body) flat

    codes : (is_flat (hd.iterator ∷ inner.iterator ∷ []) true test ≡ true) × (is_inner_body ds (hd.iterator ∷ inner.iterator ∷ []) true body ≡ true)
    codes = both-true (is_flat its true test) (is_inner_body ds its true body) parts.1

    head : (is_range false inner.domain ≡ true) × (nat_eq inner.owner hd.iterator && not (nat_eq inner.iterator hd.iterator) ≡ true)
    head = both-true (is_range false inner.domain) (nat_eq inner.owner hd.iterator && not (nat_eq inner.iterator hd.iterator)) parts.0

    other : nat_eq inner.iterator hd.iterator ≡ false
    other = no-true (nat_eq inner.iterator hd.iterator) (both-true (nat_eq inner.owner hd.iterator) (not (nat_eq inner.iterator hd.iterator)) head.1).1

    by : (o : Bool) → o || list_all is_lone (statements_of body) ≡ true → o || leaves_go ds hd.iterator inner.iterator (goes_one_way ds hd.iterator inner test) [] [] (statements_of body) ≡ true
    by true l = refl
    by false l =
        let end = any (reads_through inner.iterator) (mentions test) in
        let edge = any is_edge_read (mentions test) in
        let ss = statements_of body in
        leaves ds n inner test along.edges along.ends head.0 other codes.0 [] [] ss (record {
          form = Kept.opened (is_inner_body ds its true) (is_flat its true) refl (λ a b. refl) (λ k c a b. refl) (λ k at h test a b f e. e) body codes.1;
          edges_marked = marks-opened ds n is_edge_read along.edges false body along.edges_marked;
          ends_marked = marks-opened ds n (reads_through inner.iterator) along.ends false body along.ends_marked;
        }) refl
        (all-three is_lone targets_alike (goes_along ds n inner along.edges along.ends end edge) ss l
        (of-all targets_alike refl (λ a b. refl) ss (Kept.opened targets_alike (λ c. true) refl (λ a b. refl) (λ k c a b. refl) (λ k at h test a b f e. f e) body (shares-alike ds n mask (Foreach j here inner test body) share)))
        (of-all (goes_along ds n inner along.edges along.ends end edge) refl (λ a b. refl) ss (along-opened ds n inner along.edges along.ends end edge body along.along)))
loop-goes ds k at hd mask body form share along alone = refl

phase-goes : (ds : List Declaration) (s : Stmt) → is_phase (is_parted goes_any_way ds) no_loop ds s ≡ true → loops_share ds s ≡ true → EachAlong ds s → each_passes (statements_alone ds) s ≡ true → each_passes (statements_go ds) s ≡ true
phase-goes ds (Then a b) f s e l =
    let p = both-true (is_phase (is_parted goes_any_way ds) no_loop ds a) (is_phase (is_parted goes_any_way ds) no_loop ds b) f in
    let q = both-true (loops_share ds a) (loops_share ds b) s in
    let r = both-true (each_passes (statements_alone ds) a) (each_passes (statements_alone ds) b) l in
    and-true (each_passes (statements_go ds) a) (each_passes (statements_go ds) b) (phase-goes ds a p.0 q.0 e.0 r.0) (phase-goes ds b p.1 q.1 e.1 r.1)
phase-goes ds (Foreach k at h mask body) f s e l = loop-goes ds k at h mask body (both-true (is_nodes h.domain) (is_parted goes_any_way ds h.iterator mask body) f).1 s e l
phase-goes ds (For k at h test body) f s e l = phase-goes ds body (both-true (is_told test) (is_phase (is_parted goes_any_way ds) no_loop ds body) f).1 s e l
phase-goes ds (If k c a b) f s e l =
    let o = both-true (is_told c) (is_phase (is_parted goes_any_way ds) no_loop ds a && is_phase (is_parted goes_any_way ds) no_loop ds b) f in
    let p = both-true (is_phase (is_parted goes_any_way ds) no_loop ds a) (is_phase (is_parted goes_any_way ds) no_loop ds b) o.1 in
    let q = both-true (loops_share ds a) (loops_share ds b) s in
    let r = both-true (each_passes (statements_alone ds) a) (each_passes (statements_alone ds) b) l in
    and-true (each_passes (statements_go ds) a) (each_passes (statements_go ds) b) (phase-goes ds a p.0 q.0 e.0 r.0) (phase-goes ds b p.1 q.1 e.1 r.1)
phase-goes ds (While k at c body) f s e l = phase-goes ds body (both-true (is_told c) (is_phase (is_parted goes_any_way ds) no_loop ds body) f).1 s e l
phase-goes ds (Do k at body c) f s e l = phase-goes ds body (both-true (is_phase (is_parted goes_any_way ds) no_loop ds body) (is_told c) f).0 s e l
phase-goes ds s f h e l = refl

-- each statement of a parted program that stands alone in an inner loop, and reads no edge against its way, goes one way
pub statements-go : (p : Program) → IsPartedBy goes_any_way p → ReadsAlong p → has_statements_alone p ≡ true → has_statements_that_go p ≡ true
statements-go p r e l = phase-goes p.declarations p.body r.form r.sane.race_free e l
