-- The names of a body whose conditions are saved in fresh locals, which may go to properties.
use Rattle.std.proofs.Common.{◌≡◌, ◌<◌, ◌≤◌, arith, ℕ, Bool, true, false, List, [], ◌∷◌, refl, sym, ap, Option, Some, None, ⊎_elim, inl}
use Rattle.std.specs.Prelude.{◌&&◌, ◌||◌, not, nat_eq}
use Rattle.std.specs.List.{list_all}
use Rattle.std.proofs.lemmas.Bool.{both_ways, eq-eqb, ne_eqb}
use Rattle.gm_base.specs.declared.places.Place.{Place}
use Rattle.gm_value.specs.Bag.{IsIn}
use Rattle.gm_ast.specs.declared.tree.Declaration.{Declaration}
use Rattle.gm_ast.specs.declared.tree.Key.{Key}
use Rattle.gm_ast.specs.declared.tree.Target.{Target}
use Rattle.gm_ast.specs.declared.tree.Target.TheVariants as T
use Rattle.gm_ast.specs.Program.{Expr, Const, Var, Property, EdgeProperty, Degree, NodeCount, EdgeCount, Live, Unary, Binary, Both, Either, Choose, Folded, Stmt, Skip, Then, Declare, DeclareEdge, Assign, Defer, Combine, Foreach, If}
use Rattle.gm_semantics.specs.Frames.{ReadsBelow, AllReadBelow, TargetBelow, TargetsBelow, NamesBelow}
use Rattle.gm_forms.specs.Cut.{touched}
use Rattle.gm_forms.specs.Forms.{depth_at, is_flat, is_own, is_range, is_inner_head, is_inner_local, is_inner_body, is_outer_body, are_reduced, is_given, is_inner_given, is_within}
use Rattle.gm_forms.specs.Sharing.{told_in, written_by, variables_of}
use Rattle.gm_forms.proofs.Doings.{in-left, in-right}
use Rattle.gm_forms.proofs.Named.{both-true}
use Rattle.gm_forms.proofs.Weaker.{and-true}
use Rattle.gm_loop_laws.specs.Localised.{names_plainly, is_apart, is_it, may_move}
use Rattle.gm_dissect.specs.Conditions.{saved_first, with_saved}
use Rattle.gm_dissect.specs.Locals.{declares}
use Rattle.gm_dissect.proofs.DeferredLoops.{either-true}
use Rattle.gm_parting.specs.Locals.{names_pass}
use Rattle.gm_parting.proofs.Loops.{told-below}
use Rattle.gm_parting.proofs.MovedPrograms.{names-more, all-more}

differ : (z y : ℕ) → (z ≡ y → ⊥) → not (nat_eq z y) ≡ true
differ z y h = ap not (ne_eqb z y h)

-- ---- a fresh local is named nowhere

module _ (q y : ℕ) (high : q ≤ y) where
  apart : (z : ℕ) → z < q → not (nat_eq z y) ≡ true
  apart z l = differ z y (λ e. omega (arith, e, l, high))

  pub plain-fresh : (its : List ℕ) (edge : Bool) (e : Expr) → is_flat its edge e ≡ true → ReadsBelow q e → names_plainly y e ≡ true
  plain-fresh its edge (Const v) f l = refl
  plain-fresh its edge (Var z p) f l = refl
  plain-fresh its edge (Property z p place) f l = apart z l.0
  plain-fresh its edge (EdgeProperty z p place) f l = refl
  plain-fresh its edge (Degree d z place) f l = apart z l
  plain-fresh its edge NodeCount f l = refl
  plain-fresh its edge EdgeCount f l = refl
  plain-fresh its edge (Live z place) f l = apart z l
  plain-fresh its edge (Unary op p e) f l = plain-fresh its edge e f l
  plain-fresh its edge (Binary op p a b) f l =
      let r = both-true (is_flat its edge a) (is_flat its edge b) f in and-true (names_plainly y a) (names_plainly y b) (plain-fresh its edge a r.0 l.0) (plain-fresh its edge b r.1 l.1)
  plain-fresh its edge (Both a b) f l =
      let r = both-true (is_flat its edge a) (is_flat its edge b) f in and-true (names_plainly y a) (names_plainly y b) (plain-fresh its edge a r.0 l.0) (plain-fresh its edge b r.1 l.1)
  plain-fresh its edge (Either a b) f l =
      let r = both-true (is_flat its edge a) (is_flat its edge b) f in and-true (names_plainly y a) (names_plainly y b) (plain-fresh its edge a r.0 l.0) (plain-fresh its edge b r.1 l.1)
  plain-fresh its edge (Choose c a b) f l =
      let s = both-true (is_flat its edge c) (is_flat its edge a && is_flat its edge b) f in
      let r = both-true (is_flat its edge a) (is_flat its edge b) s.1 in
      and-true (names_plainly y c) (names_plainly y a && names_plainly y b) (plain-fresh its edge c s.0 l.0) (and-true (names_plainly y a) (names_plainly y b) (plain-fresh its edge a r.0 l.1) (plain-fresh its edge b r.1 l.2))
  plain-fresh its edge (Folded o hd test e) f l = absurd (both_ways false refl f)

  all-plain : (its : List ℕ) (edge : Bool) (es : List Expr) → list_all (is_flat its edge) es ≡ true → AllReadBelow q es → list_all (names_plainly y) es ≡ true
  all-plain its edge [] f l = refl
  all-plain its edge (e ∷ es) f l =
      let r = both-true (is_flat its edge e) (list_all (is_flat its edge) es) f in and-true (names_plainly y e) (list_all (names_plainly y) es) (plain-fresh its edge e r.0 l.0) (all-plain its edge es r.1 l.1)

  -- n: the iterator
  module _ (ds : List Declaration) (n : ℕ) where
    target-fresh : (t : Target) → TargetBelow q t → (IsIn n (written_by t) → ⊥) → is_apart y n t ≡ true
    target-fresh (T.Scalar z p) l off = and-true (not (nat_eq z y)) (not (nat_eq z n)) (apart z l) (differ z n (λ e. off (inl (sym e))))
    target-fresh (T.Property z r p) l off = apart z l.0

    targets-fresh : (ts : List Target) → TargetsBelow q ts → (IsIn n (variables_of ts) → ⊥) → list_all (is_apart y n) ts ≡ true
    targets-fresh [] l off = refl
    targets-fresh (t ∷ ts) l off =
        and-true (is_apart y n t) (list_all (is_apart y n) ts) (target-fresh t l.0 (λ i. off (in-left n (written_by t) (variables_of ts) i))) (targets-fresh ts l.1 (λ i. off (in-right n (written_by t) (variables_of ts) i)))

    either-first : (a b : Bool) → a ≡ true → a || b ≡ true
    either-first a b h = ap (λ x. x || b) h

    inner-fresh : (its : List ℕ) (s : Stmt) → is_inner_body ds its true s ≡ true → NamesBelow q s → (IsIn n (touched s) → ⊥) → may_move y n s ≡ true
    inner-fresh its (Then a b) f l off =
        let g = both-true (is_inner_body ds its true a) (is_inner_body ds its true b) f in
        and-true (may_move y n a) (may_move y n b) (inner-fresh its a g.0 l.0 (λ i. off (in-left n (touched a) (touched b) i))) (inner-fresh its b g.1 l.1 (λ i. off (in-right n (touched a) (touched b) i)))
    inner-fresh its (If k c a b) f l off =
        let h = both-true (is_flat its true c) (is_inner_body ds its true a && is_inner_body ds its true b) f in
        let g = both-true (is_inner_body ds its true a) (is_inner_body ds its true b) h.1 in
        and-true (names_plainly y c) (may_move y n a && may_move y n b) (plain-fresh its true c h.0 l.0)
        (and-true (may_move y n a) (may_move y n b) (inner-fresh its a g.0 l.1 (λ i. off (in-left n (touched a) (touched b) i))) (inner-fresh its b g.1 l.2 (λ i. off (in-right n (touched a) (touched b) i))))
    inner-fresh its (Declare k z None) f l off = and-true (not (nat_eq z n)) true (differ z n (λ e. off (inl (sym e)))) refl
    inner-fresh its (Declare k z (Some e)) f l off =
        and-true (not (nat_eq z n)) (names_plainly y e) (differ z n (λ e. off (inl (sym e)))) (plain-fresh its true e (both-true (nat_eq (depth_at ds z) 2) (is_flat its true e) f).1 l.1)
    inner-fresh its (Assign k t e) f l off =
        and-true (is_apart y n t || is_it y (t ∷ [])) (names_plainly y e) (either-first (is_apart y n t) (is_it y (t ∷ [])) (target-fresh t l.0 off)) (plain-fresh its true e (both-true (is_inner_local ds t) (is_flat its true e) f).1 l.1)
    inner-fresh its (Combine k total o ts es) f l off =
        and-true (list_all (is_apart y n) ts || is_it y ts) (list_all (names_plainly y) es) (either-first (list_all (is_apart y n) ts) (is_it y ts) (targets-fresh ts l.0 off))
        (all-plain its true es (both-true (are_reduced (is_inner_given ds) (is_within ds 2) o ts) (list_all (is_flat its true) es) f).1 l.1)
    inner-fresh its Skip f l off = refl
    inner-fresh its (DeclareEdge a b p) f l off = refl
    inner-fresh its s f l off = absurd (both_ways false refl f)

    -- with conditions that are saved, also in it
    module _ (local : Key → Option ℕ) (at : Place) (beyond : (k : Key) (z : ℕ) → local k ≡ Some z → q ≤ z) (iterator : n < q) where
      abbrev sv : Stmt → Stmt
      sv s = with_saved local at s

      if-moves : (w : ℕ) (k : Key) (c : Expr) (a b : Stmt) → names_plainly w c ≡ true → may_move w n (sv a) && may_move w n (sv b) ≡ true → may_move w n (sv (If k c a b)) ≡ true
      if-moves w k c a b p h = by (local k) refl
        where
          by : (o : Option ℕ) → local k ≡ o → may_move w n (saved_first o at k c (sv a) (sv b)) ≡ true
          by None e = and-true (names_plainly w c) (may_move w n (sv a) && may_move w n (sv b)) p h
          by (Some z) e =
              and-true (not (nat_eq z n) && names_plainly w c) ((may_move w n (sv a) && may_move w n (sv b)) && true)
              (and-true (not (nat_eq z n)) (names_plainly w c) (differ z n (λ f. let g = beyond k z e in omega (arith, f, g, iterator))) p) (and-true (may_move w n (sv a) && may_move w n (sv b)) true h refl)

      pub outer-fresh : (s : Stmt) → is_outer_body ds false n s ≡ true → NamesBelow q s → (IsIn n (touched s) → ⊥) → may_move y n (sv s) ≡ true
      outer-fresh (Then a b) f l off =
          let g = both-true (is_outer_body ds false n a) (is_outer_body ds false n b) f in
          and-true (may_move y n (sv a)) (may_move y n (sv b)) (outer-fresh a g.0 l.0 (λ i. off (in-left n (touched a) (touched b) i))) (outer-fresh b g.1 l.1 (λ i. off (in-right n (touched a) (touched b) i)))
      outer-fresh (If k c a b) f l off =
          let h = both-true (is_flat (n ∷ []) false c) (is_outer_body ds false n a && is_outer_body ds false n b) f in
          let g = both-true (is_outer_body ds false n a) (is_outer_body ds false n b) h.1 in
          if-moves y k c a b (plain-fresh (n ∷ []) false c h.0 l.0)
          (and-true (may_move y n (sv a)) (may_move y n (sv b)) (outer-fresh a g.0 l.1 (λ i. off (in-left n (touched a) (touched b) i))) (outer-fresh b g.1 l.2 (λ i. off (in-right n (touched a) (touched b) i))))
      outer-fresh (Declare k z None) f l off = and-true (not (nat_eq z n)) true (differ z n (λ e. off (inl (sym e)))) refl
      outer-fresh (Declare k z (Some e)) f l off =
          and-true (not (nat_eq z n)) (names_plainly y e) (differ z n (λ e. off (inl (sym e)))) (plain-fresh (n ∷ []) false e (both-true (nat_eq (depth_at ds z) 1) (is_flat (n ∷ []) false e) f).1 l.1)
      outer-fresh (Assign k t e) f l off =
          and-true (is_apart y n t || is_it y (t ∷ [])) (names_plainly y e) (either-first (is_apart y n t) (is_it y (t ∷ [])) (target-fresh t l.0 off)) (plain-fresh (n ∷ []) false e (both-true (is_own ds n t) (is_flat (n ∷ []) false e) f).1 l.1)
      outer-fresh (Defer k (T.Scalar z p) e) f l off = absurd (both_ways false refl f)
      outer-fresh (Defer k (T.Property z r p) e) f l off =
          and-true (not (nat_eq z y)) (names_plainly y e) (apart z l.0.0) (plain-fresh (n ∷ []) false e (both-true (nat_eq z n) (is_flat (n ∷ []) false e) f).1 l.1)
      outer-fresh (Combine k total o ts es) f l off =
          and-true (list_all (is_apart y n) ts || is_it y ts) (list_all (names_plainly y) es) (either-first (list_all (is_apart y n) ts) (is_it y ts) (targets-fresh ts l.0 off))
          (all-plain (n ∷ []) false es (both-true (are_reduced (is_given ds n) (is_within ds 1) o ts) (list_all (is_flat (n ∷ []) false) es) f).1 l.1)
      outer-fresh (Foreach k p hd test body) f l off =
          let its = n ∷ (hd.iterator ∷ []) in
          let g = both-true (is_inner_head false n hd) (is_flat its true test && is_inner_body ds its true body) f in
          let i = both-true (is_range false hd.domain) (nat_eq hd.owner n && not (nat_eq hd.iterator n)) g.0 in
          let o = both-true (nat_eq hd.owner n) (not (nat_eq hd.iterator n)) i.1 in
          let j = both-true (is_flat its true test) (is_inner_body ds its true body) g.1 in
          and-true (not (nat_eq hd.owner y)) (not (nat_eq hd.iterator y) && (not (nat_eq hd.iterator n) && (names_plainly y test && may_move y n body))) (apart hd.owner l.1)
          (and-true (not (nat_eq hd.iterator y)) (not (nat_eq hd.iterator n) && (names_plainly y test && may_move y n body)) (apart hd.iterator l.0)
          (and-true (not (nat_eq hd.iterator n)) (names_plainly y test && may_move y n body) o.1
          (and-true (names_plainly y test) (may_move y n body) (plain-fresh its true test j.0 l.2) (inner-fresh its body j.1 l.3 off))))
      outer-fresh Skip f l off = refl
      outer-fresh s f l off = absurd (both_ways false refl f)

-- ---- the locals that were before

module _ (local : Key → Option ℕ) (at : Place) (n q : ℕ) (beyond : (k : Key) (z : ℕ) → local k ≡ Some z → q ≤ z) (iterator : n < q) where
  abbrev sw : Stmt → Stmt
  sw s = with_saved local at s

  pub may-still : (w : ℕ) (s : Stmt) → may_move w n s ≡ true → may_move w n (sw s) ≡ true
  may-still w (Then a b) h = let r = both-true (may_move w n a) (may_move w n b) h in and-true (may_move w n (sw a)) (may_move w n (sw b)) (may-still w a r.0) (may-still w b r.1)
  may-still w (If k c a b) h =
      let r = both-true (names_plainly w c) (may_move w n a && may_move w n b) h in
      let p = both-true (may_move w n a) (may_move w n b) r.1 in
      by (local k) refl r.0 (and-true (may_move w n (sw a)) (may_move w n (sw b)) (may-still w a p.0) (may-still w b p.1))
    where
      by : (o : Option ℕ) → local k ≡ o → names_plainly w c ≡ true → may_move w n (sw a) && may_move w n (sw b) ≡ true → may_move w n (saved_first o at k c (sw a) (sw b)) ≡ true
      by None e p h = and-true (names_plainly w c) (may_move w n (sw a) && may_move w n (sw b)) p h
      by (Some z) e p h =
          and-true (not (nat_eq z n) && names_plainly w c) ((may_move w n (sw a) && may_move w n (sw b)) && true)
          (and-true (not (nat_eq z n)) (names_plainly w c) (differ z n (λ f. let g = beyond k z e in omega (arith, f, g, iterator))) p) (and-true (may_move w n (sw a) && may_move w n (sw b)) true h refl)
  may-still w s h = h

  or-left : (a b : Bool) → a ≡ true → a || b ≡ true
  or-left a b h = ap (λ x. x || b) h

  or-right : (a b : Bool) → b ≡ true → a || b ≡ true
  or-right true b h = refl
  or-right false b h = h

  pub declared-still : (w : ℕ) (s : Stmt) → declares w s ≡ true → declares w (sw s) ≡ true
  declared-still w (Then a b) h =
      ⊎_elim (λ l. or-left (declares w (sw a)) (declares w (sw b)) (declared-still w a l)) (λ l. or-right (declares w (sw a)) (declares w (sw b)) (declared-still w b l)) (either-true (declares w a) (declares w b) h)
  declared-still w (If k c a b) h =
      by (local k) (⊎_elim (λ l. or-left (declares w (sw a)) (declares w (sw b)) (declared-still w a l)) (λ l. or-right (declares w (sw a)) (declares w (sw b)) (declared-still w b l)) (either-true (declares w a) (declares w b) h))
    where
      by : (o : Option ℕ) → declares w (sw a) || declares w (sw b) ≡ true → declares w (saved_first o at k c (sw a) (sw b)) ≡ true
      by None h = h
      by (Some z) h = or-right (nat_eq z w) ((declares w (sw a) || declares w (sw b)) || false) (or-left (declares w (sw a) || declares w (sw b)) false h)
  declared-still w s h = h

  -- ---- names

  -- G: what may be named before; H: what may be named then; D: what is declared
  module _ (G H : List ℕ → ℕ → Bool) (D : ℕ → Type 0) (other : (its : List ℕ) (z : ℕ) → z < q → G its z ≡ true → H its z ≡ true) (flag : (its : List ℕ) (k : Key) (z : ℕ) → local k ≡ Some z → D z → H its z ≡ true) where
    pub names-still : (its : List ℕ) (s : Stmt) → NamesBelow q s → ((z : ℕ) → declares z (sw s) ≡ true → D z) → names_pass G its s ≡ true → names_pass H its (sw s) ≡ true
    names-still its (Then a b) l d h =
        let r = both-true (names_pass G its a) (names_pass G its b) h in
        and-true (names_pass H its (sw a)) (names_pass H its (sw b)) (names-still its a l.0 (λ z e. d z (or-left (declares z (sw a)) (declares z (sw b)) e)) r.0) (names-still its b l.1 (λ z e. d z (or-right (declares z (sw a)) (declares z (sw b)) e)) r.1)
    names-still its (If k c a b) l d h =
        let p = both-true (list_all (G its) (told_in c)) (names_pass G its a && names_pass G its b) h in
        let r = both-true (names_pass G its a) (names_pass G its b) p.1 in
        by (local k) refl d (all-more q G H other its (told_in c) (told-below q c l.0) p.0)
        (λ e. names-still its a l.1 e r.0) (λ e. names-still its b l.2 e r.1)
      where
        by : (o : Option ℕ) → local k ≡ o → ((z : ℕ) → declares z (saved_first o at k c (sw a) (sw b)) ≡ true → D z) → list_all (H its) (told_in c) ≡ true →
            (((z : ℕ) → declares z (sw a) ≡ true → D z) → names_pass H its (sw a) ≡ true) → (((z : ℕ) → declares z (sw b) ≡ true → D z) → names_pass H its (sw b) ≡ true) → names_pass H its (saved_first o at k c (sw a) (sw b)) ≡ true
        by None e d t first second =
            and-true (list_all (H its) (told_in c)) (names_pass H its (sw a) && names_pass H its (sw b)) t
            (and-true (names_pass H its (sw a)) (names_pass H its (sw b)) (first (λ z f. d z (or-left (declares z (sw a)) (declares z (sw b)) f))) (second (λ z f. d z (or-right (declares z (sw a)) (declares z (sw b)) f))))
        by (Some y) e d t first second =
            let mine : H its y ≡ true = flag its k y e (d y (or-left (nat_eq y y) ((declares y (sw a) || declares y (sw b)) || false) (eq-eqb y y refl))) in
            let inside : (z : ℕ) → declares z (sw a) || declares z (sw b) ≡ true → D z = λ z f. d z (or-right (nat_eq y z) ((declares z (sw a) || declares z (sw b)) || false) (or-left (declares z (sw a) || declares z (sw b)) false f)) in
            and-true (H its y && list_all (H its) (told_in c)) (((H its y && true) && (names_pass H its (sw a) && names_pass H its (sw b))) && true) (and-true (H its y) (list_all (H its) (told_in c)) mine t)
            (and-true ((H its y && true) && (names_pass H its (sw a) && names_pass H its (sw b))) true
            (and-true (H its y && true) (names_pass H its (sw a) && names_pass H its (sw b)) (and-true (H its y) true mine refl)
            (and-true (names_pass H its (sw a)) (names_pass H its (sw b)) (first (λ z f. inside z (or-left (declares z (sw a)) (declares z (sw b)) f))) (second (λ z f. inside z (or-right (declares z (sw a)) (declares z (sw b)) f))))) refl)
    names-still its (Declare k z e) l d h = names-more q G H other its (Declare k z e) l h
    names-still its (Assign k t e) l d h = names-more q G H other its (Assign k t e) l h
    names-still its (Defer k t e) l d h = names-more q G H other its (Defer k t e) l h
    names-still its (Combine k total o ts es) l d h = names-more q G H other its (Combine k total o ts es) l h
    names-still its (Foreach k p hd test body) l d h = names-more q G H other its (Foreach k p hd test body) l h
    names-still its s l d h = h
