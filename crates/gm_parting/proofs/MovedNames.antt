-- The names and tuples of a body, where one of its locals goes to a property.
use Rattle.std.proofs.Common.{◌≡◌, ◌<◌, ◌≤◌, ℕ, Bool, true, false, cond, List, [], ◌∷◌, ◌++◌, length, map, refl, sym, ap, subst, ◌∙◌, Some, None, ⊎_elim}
use Rattle.std.specs.Prelude.{◌&&◌, ◌||◌, not, nat_eq}
use Rattle.std.specs.List.{list_all}
use Rattle.std.proofs.lemmas.Bool.{both_ways, eq-eqb, eqb-true}
use Rattle.gm_base.specs.declared.places.Place.{Place}
use Rattle.gm_value.specs.declared.values.VType.{VType}
use Rattle.gm_value.specs.Numbers.{zero_of}
use Rattle.gm_ast.specs.declared.tree.Declaration.{Declaration}
use Rattle.gm_ast.specs.declared.tree.Target.{Target}
use Rattle.gm_ast.specs.declared.tree.Target.TheVariants as T
use Rattle.gm_ast.specs.Program.{Expr, Const, Var, Property, EdgeProperty, Degree, NodeCount, EdgeCount, Live, Unary, Binary, Both, Either, Choose, Folded, Stmt, Skip, Then, Declare, DeclareEdge, Assign, Defer, Combine, Foreach, If}
use Rattle.gm_ast.specs.Ways.{is_in}
use Rattle.gm_semantics.specs.Frames.{ReadsBelow, AllReadBelow, TargetBelow, TargetsBelow, NamesBelow}
use Rattle.gm_semantics.specs.Statements.{variable_at}
use Rattle.gm_forms.specs.Forms.{depth_at}
use Rattle.gm_forms.specs.Sharing.{told_in, sights_in_all}
use Rattle.gm_forms.proofs.Named.{both-true, all-append}
use Rattle.gm_forms.proofs.Weaker.{and-true}
use Rattle.gm_loop_laws.specs.Localised.{moved_in, moved_target, moved, names_plainly, is_apart, is_it, may_move}
use Rattle.gm_dissect.specs.Locals.{declares}
use Rattle.gm_dissect.proofs.DeferredLoops.{either-true}
use Rattle.gm_dissect.proofs.Longer.{depth-same}
use Rattle.gm_dissect.proofs.Undeferred.{append-true}
use Rattle.gm_parting.specs.InnerLoops.{inner_iterators_deep}
use Rattle.gm_parting.specs.Locals.{target_passes, names_pass}
use Rattle.gm_parting.specs.Tuples.{is_scalar_at, are_even, reduces_evenly}

-- x: the local; q: its property; n: the iterator; t: the local's type
module _ (x q n : ℕ) (at : Place) (t : VType) where
  abbrev mi : Expr → Expr
  mi e = moved_in x q n at (zero_of t) e

  abbrev mt : Target → Target
  mt o = moved_target x q n at (zero_of t) o

  abbrev mv : Stmt → Stmt
  mv s = moved x q n at (zero_of t) s

  -- where all targets are others than the local, they stay
  apart-stay : (ts : List Target) → list_all (is_apart x n) ts ≡ true → map mt ts ≡ ts
  apart-stay [] h = refl
  apart-stay (T.Scalar z p ∷ ts) h =
      let r = both-true (not (nat_eq z x) && not (nat_eq z n)) (list_all (is_apart x n) ts) h in
      by (nat_eq z x) (both-true (not (nat_eq z x)) (not (nat_eq z n)) r.0).0 (apart-stay ts r.1)
    where
      by : (b : Bool) → not b ≡ true → map mt ts ≡ ts → cond b (T.Property n q p) (T.Scalar z p) ∷ map mt ts ≡ T.Scalar z p ∷ ts
      by true e h = absurd (both_ways false refl e)
      by false e h = ap (λ l. T.Scalar z p ∷ l) h
  apart-stay (T.Property z r p ∷ ts) h = ap (λ l. T.Property z r p ∷ l) (apart-stay ts (both-true (not (nat_eq z x)) (list_all (is_apart x n) ts) h).1)

  -- the local alone becomes its property
  it-goes : (ts : List Target) → is_it x ts ≡ true → (place : Place) → (f : List Target → Bool) → ((p : Place) → f (T.Property n q p ∷ []) ≡ true) → f (map mt ts) ≡ true
  it-goes [] h place f g = absurd (both_ways false refl h)
  it-goes (T.Scalar z p ∷ []) h place f g = ap (λ b. f (cond b (T.Property n q p) (T.Scalar z p) ∷ [])) h ∙ g p
  it-goes (T.Scalar z p ∷ (o ∷ ts)) h place f g = absurd (both_ways false refl h)
  it-goes (T.Property z r p ∷ ts) h place f g = absurd (both_ways false refl h)

  -- ---- another local y may still go

  module _ (y : ℕ) (other : nat_eq n y ≡ false) where
    pub plain-on : (e : Expr) → names_plainly y e ≡ true → names_plainly y (mi e) ≡ true
    plain-on (Var z p) h = by (nat_eq z x)
      where
        by : (b : Bool) → names_plainly y (cond b (Property n q p) (Var z p)) ≡ true
        by true = ap not other
        by false = refl
    plain-on (Unary op p e) h = plain-on e h
    plain-on (Binary op p a b) h = let r = both-true (names_plainly y a) (names_plainly y b) h in and-true (names_plainly y (mi a)) (names_plainly y (mi b)) (plain-on a r.0) (plain-on b r.1)
    plain-on (Both a b) h = let r = both-true (names_plainly y a) (names_plainly y b) h in and-true (names_plainly y (mi a)) (names_plainly y (mi b)) (plain-on a r.0) (plain-on b r.1)
    plain-on (Either a b) h = let r = both-true (names_plainly y a) (names_plainly y b) h in and-true (names_plainly y (mi a)) (names_plainly y (mi b)) (plain-on a r.0) (plain-on b r.1)
    plain-on (Choose c a b) h =
        let r = both-true (names_plainly y c) (names_plainly y a && names_plainly y b) h in
        let s = both-true (names_plainly y a) (names_plainly y b) r.1 in
        and-true (names_plainly y (mi c)) (names_plainly y (mi a) && names_plainly y (mi b)) (plain-on c r.0) (and-true (names_plainly y (mi a)) (names_plainly y (mi b)) (plain-on a s.0) (plain-on b s.1))
    plain-on e h = h

    all-plain-on : (es : List Expr) → list_all (names_plainly y) es ≡ true → list_all (names_plainly y) (map mi es) ≡ true
    all-plain-on [] h = refl
    all-plain-on (e ∷ es) h = let r = both-true (names_plainly y e) (list_all (names_plainly y) es) h in and-true (names_plainly y (mi e)) (list_all (names_plainly y) (map mi es)) (plain-on e r.0) (all-plain-on es r.1)

    target-on : (o : Target) → is_apart y n o || is_it y (o ∷ []) ≡ true → is_apart y n (mt o) || is_it y (mt o ∷ []) ≡ true
    target-on (T.Scalar z p) h = by (nat_eq z x)
      where
        by : (b : Bool) → is_apart y n (cond b (T.Property n q p) (T.Scalar z p)) || is_it y (cond b (T.Property n q p) (T.Scalar z p) ∷ []) ≡ true
        by true = ap (λ c. not c || false) other
        by false = h
    target-on (T.Property z r p) h = h

    targets-on : (place : Place) (ts : List Target) → list_all (is_apart x n) ts || is_it x ts ≡ true → list_all (is_apart y n) ts || is_it y ts ≡ true → list_all (is_apart y n) (map mt ts) || is_it y (map mt ts) ≡ true
    targets-on place ts m h =
        ⊎_elim (λ (l : list_all (is_apart x n) ts ≡ true). subst (λ l. list_all (is_apart y n) l || is_it y l ≡ true) (sym (apart-stay ts l)) h)
        (λ (r : is_it x ts ≡ true). it-goes ts r place (λ l. list_all (is_apart y n) l || is_it y l) (λ p. ap (λ c. (not c && true) || false) other))
        (either-true (list_all (is_apart x n) ts) (is_it x ts) m)

    pub may-on : (s : Stmt) → may_move x n s ≡ true → may_move y n s ≡ true → may_move y n (mv s) ≡ true
    may-on (Then a b) m h =
        let p = both-true (may_move x n a) (may_move x n b) m in
        let r = both-true (may_move y n a) (may_move y n b) h in
        and-true (may_move y n (mv a)) (may_move y n (mv b)) (may-on a p.0 r.0) (may-on b p.1 r.1)
    may-on (Declare k z None) m h = by (nat_eq z x)
      where
        by : (b : Bool) → may_move y n (cond b (Assign k (T.Property n q at) (Const (zero_of t))) (Declare k z None)) ≡ true
        by true = ap (λ c. (not c || false) && true) other
        by false = h
    may-on (Declare k z (Some e)) m h = by (nat_eq z x) (both-true (not (nat_eq z n)) (names_plainly y e) h)
      where
        by : (b : Bool) → (not (nat_eq z n) ≡ true) × (names_plainly y e ≡ true) → may_move y n (cond b (Assign k (T.Property n q at) (mi e)) (Declare k z (Some (mi e)))) ≡ true
        by true r = ap (λ c. (not c || false) && names_plainly y (mi e)) other ∙ plain-on e r.1
        by false r = and-true (not (nat_eq z n)) (names_plainly y (mi e)) r.0 (plain-on e r.1)
    may-on (Assign k o e) m h =
        let r = both-true (is_apart y n o || is_it y (o ∷ [])) (names_plainly y e) h in
        and-true (is_apart y n (mt o) || is_it y (mt o ∷ [])) (names_plainly y (mi e)) (target-on o r.0) (plain-on e r.1)
    may-on (Defer k o e) m h =
        let r = both-true (is_apart y n o) (names_plainly y e) h in
        and-true (is_apart y n o) (names_plainly y (mi e)) r.0 (plain-on e r.1)
    may-on (Combine k total op ts es) m h =
        let p = both-true (list_all (is_apart x n) ts || is_it x ts) (list_all (names_plainly x) es) m in
        let r = both-true (list_all (is_apart y n) ts || is_it y ts) (list_all (names_plainly y) es) h in
        and-true (list_all (is_apart y n) (map mt ts) || is_it y (map mt ts)) (list_all (names_plainly y) (map mi es)) (targets-on at ts p.0 r.0) (all-plain-on es r.1)
    may-on (If k c a b) m h =
        let p = both-true (may_move x n a) (may_move x n b) (both-true (names_plainly x c) (may_move x n a && may_move x n b) m).1 in
        let r = both-true (names_plainly y c) (may_move y n a && may_move y n b) h in
        let s = both-true (may_move y n a) (may_move y n b) r.1 in
        and-true (names_plainly y (mi c)) (may_move y n (mv a) && may_move y n (mv b)) (plain-on c r.0) (and-true (may_move y n (mv a)) (may_move y n (mv b)) (may-on a p.0 s.0) (may-on b p.1 s.1))
    may-on (Foreach k p h test body) m f =
        let a = both-true (not (nat_eq h.owner x)) (not (nat_eq h.iterator x) && (not (nat_eq h.iterator n) && (names_plainly x test && may_move x n body))) m in
        let b = both-true (not (nat_eq h.iterator x)) (not (nat_eq h.iterator n) && (names_plainly x test && may_move x n body)) a.1 in
        let c = both-true (not (nat_eq h.iterator n)) (names_plainly x test && may_move x n body) b.1 in
        let d = both-true (names_plainly x test) (may_move x n body) c.1 in
        let u = both-true (not (nat_eq h.owner y)) (not (nat_eq h.iterator y) && (not (nat_eq h.iterator n) && (names_plainly y test && may_move y n body))) f in
        let v = both-true (not (nat_eq h.iterator y)) (not (nat_eq h.iterator n) && (names_plainly y test && may_move y n body)) u.1 in
        let w = both-true (not (nat_eq h.iterator n)) (names_plainly y test && may_move y n body) v.1 in
        let z = both-true (names_plainly y test) (may_move y n body) w.1 in
        and-true (not (nat_eq h.owner y)) (not (nat_eq h.iterator y) && (not (nat_eq h.iterator n) && (names_plainly y (mi test) && may_move y n (mv body)))) u.0
        (and-true (not (nat_eq h.iterator y)) (not (nat_eq h.iterator n) && (names_plainly y (mi test) && may_move y n (mv body))) v.0
        (and-true (not (nat_eq h.iterator n)) (names_plainly y (mi test) && may_move y n (mv body)) w.0
        (and-true (names_plainly y (mi test)) (may_move y n (mv body)) (plain-on test z.0) (may-on body d.1 z.1))))
    may-on s m h = h

  or-left : (a b : Bool) → a ≡ true → a || b ≡ true
  or-left a b h = ap (λ c. c || b) h

  or-right : (a b : Bool) → b ≡ true → a || b ≡ true
  or-right true b h = refl
  or-right false b h = h

  -- it is still declared
  pub declared-on : (y : ℕ) → (y ≡ x → ⊥) → (s : Stmt) → declares y s ≡ true → declares y (mv s) ≡ true
  declared-on y other (Then a b) h =
      ⊎_elim (λ l. or-left (declares y (mv a)) (declares y (mv b)) (declared-on y other a l)) (λ l. or-right (declares y (mv a)) (declares y (mv b)) (declared-on y other b l)) (either-true (declares y a) (declares y b) h)
  declared-on y other (If k c a b) h =
      ⊎_elim (λ l. or-left (declares y (mv a)) (declares y (mv b)) (declared-on y other a l)) (λ l. or-right (declares y (mv a)) (declares y (mv b)) (declared-on y other b l)) (either-true (declares y a) (declares y b) h)
  declared-on y other (Declare k z None) h = by (nat_eq z x) refl
    where
      by : (b : Bool) → nat_eq z x ≡ b → declares y (cond b (Assign k (T.Property n q at) (Const (zero_of t))) (Declare k z None)) ≡ true
      by true e = absurd (other (sym (eqb-true z y h) ∙ eqb-true z x e))
      by false e = h
  declared-on y other (Declare k z (Some e)) h = by (nat_eq z x) refl
    where
      by : (b : Bool) → nat_eq z x ≡ b → declares y (cond b (Assign k (T.Property n q at) (mi e)) (Declare k z (Some (mi e)))) ≡ true
      by true f = absurd (other (sym (eqb-true z y h) ∙ eqb-true z x f))
      by false f = h
  declared-on y other s h = absurd (both_ways false refl h)

  -- ---- names

  -- G: what may be named before; H: what may be named then
  module _ (G H : List ℕ → ℕ → Bool) (iterator : (its : List ℕ) → is_in its n ≡ true → H its n ≡ true) (other : (its : List ℕ) (z : ℕ) → z < q → (z ≡ x → ⊥) → G its z ≡ true → H its z ≡ true) where
    one-on : (its : List ℕ) (z : ℕ) → z < q → not (nat_eq z x) ≡ true → G its z ≡ true → H its z ≡ true
    one-on its z l o g = other its z l (λ e. by (nat_eq z x) (eq-eqb z x e) o) g
      where
        by : (b : Bool) → b ≡ true → not b ≡ true → ⊥
        by b e o = both_ways false refl (ap not (sym e) ∙ o)

    told-on : (its : List ℕ) → is_in its n ≡ true → (e : Expr) → ReadsBelow q e → names_plainly x e ≡ true → list_all (G its) (told_in e) ≡ true → list_all (H its) (told_in (mi e)) ≡ true
    told-on its inside (Var z p) l m h = by (nat_eq z x) refl
      where
        by : (b : Bool) → nat_eq z x ≡ b → list_all (H its) (told_in (cond b (Property n q p) (Var z p))) ≡ true
        by true e = and-true (H its n) true (iterator its inside) refl
        by false e = and-true (H its z) true (one-on its z l (ap not e) (both-true (G its z) true h).0) refl
    told-on its inside (Property z p place) l m h = and-true (H its z) true (one-on its z l.0 m (both-true (G its z) true h).0) refl
    told-on its inside (Degree d z place) l m h = and-true (H its z) true (one-on its z l m (both-true (G its z) true h).0) refl
    told-on its inside (Live z place) l m h = and-true (H its z) true (one-on its z l m (both-true (G its z) true h).0) refl
    told-on its inside (Unary op p e) l m h = told-on its inside e l m h
    told-on its inside (Binary op p a b) l m h =
        let r = all-append (G its) (told_in a) (told_in b) h in
        let u = both-true (names_plainly x a) (names_plainly x b) m in
        append-true (H its) (told_in (mi a)) (told_in (mi b)) (told-on its inside a l.0 u.0 r.0) (told-on its inside b l.1 u.1 r.1)
    told-on its inside (Both a b) l m h =
        let r = all-append (G its) (told_in a) (told_in b) h in
        let u = both-true (names_plainly x a) (names_plainly x b) m in
        append-true (H its) (told_in (mi a)) (told_in (mi b)) (told-on its inside a l.0 u.0 r.0) (told-on its inside b l.1 u.1 r.1)
    told-on its inside (Either a b) l m h =
        let r = all-append (G its) (told_in a) (told_in b) h in
        let u = both-true (names_plainly x a) (names_plainly x b) m in
        append-true (H its) (told_in (mi a)) (told_in (mi b)) (told-on its inside a l.0 u.0 r.0) (told-on its inside b l.1 u.1 r.1)
    told-on its inside (Choose c a b) l m h =
        let r = all-append (G its) (told_in c) (told_in a ++ told_in b) h in
        let s = all-append (G its) (told_in a) (told_in b) r.1 in
        let u = both-true (names_plainly x c) (names_plainly x a && names_plainly x b) m in
        let v = both-true (names_plainly x a) (names_plainly x b) u.1 in
        append-true (H its) (told_in (mi c)) (told_in (mi a) ++ told_in (mi b)) (told-on its inside c l.0 u.0 r.0)
        (append-true (H its) (told_in (mi a)) (told_in (mi b)) (told-on its inside a l.1 v.0 s.0) (told-on its inside b l.2 v.1 s.1))
    told-on its inside (Folded f hd test e) l m h = absurd (both_ways false refl m)
    told-on its inside (Const v) l m h = refl
    told-on its inside (EdgeProperty z p place) l m h = refl
    told-on its inside NodeCount l m h = refl
    told-on its inside EdgeCount l m h = refl

    all-told-on : (its : List ℕ) → is_in its n ≡ true → (es : List Expr) → AllReadBelow q es → list_all (names_plainly x) es ≡ true → list_all (G its) (sights_in_all es).scalars ≡ true → list_all (H its) (sights_in_all (map mi es)).scalars ≡ true
    all-told-on its inside [] l m h = refl
    all-told-on its inside (e ∷ es) l m h =
        let r = all-append (G its) (told_in e) (sights_in_all es).scalars h in
        let u = both-true (names_plainly x e) (list_all (names_plainly x) es) m in
        append-true (H its) (told_in (mi e)) (sights_in_all (map mi es)).scalars (told-on its inside e l.0 u.0 r.0) (all-told-on its inside es l.1 u.1 r.1)

    target-passes-on : (its : List ℕ) → is_in its n ≡ true → (o : Target) → TargetBelow q o → is_apart x n o || is_it x (o ∷ []) ≡ true → target_passes G its o ≡ true → target_passes H its (mt o) ≡ true
    target-passes-on its inside (T.Scalar z p) l m h = by (nat_eq z x) refl
      where
        by : (b : Bool) → nat_eq z x ≡ b → target_passes H its (cond b (T.Property n q p) (T.Scalar z p)) ≡ true
        by true e = iterator its inside
        by false e = one-on its z l (ap not e) h
    target-passes-on its inside (T.Property z r p) l m h = one-on its z l.0 (no (nat_eq z x) m) h
      where
        no : (b : Bool) → not b || false ≡ true → not b ≡ true
        no true m = absurd (both_ways false refl m)
        no false m = refl

    apart-pass : (its : List ℕ) (ts : List Target) → TargetsBelow q ts → list_all (is_apart x n) ts ≡ true → list_all (target_passes G its) ts ≡ true → list_all (target_passes H its) ts ≡ true
    apart-pass its [] l m h = refl
    apart-pass its (T.Scalar z p ∷ ts) l m h =
        let r = both-true (not (nat_eq z x) && not (nat_eq z n)) (list_all (is_apart x n) ts) m in
        let s = both-true (G its z) (list_all (target_passes G its) ts) h in
        and-true (H its z) (list_all (target_passes H its) ts) (one-on its z l.0 (both-true (not (nat_eq z x)) (not (nat_eq z n)) r.0).0 s.0) (apart-pass its ts l.1 r.1 s.1)
    apart-pass its (T.Property z r p ∷ ts) l m h =
        let u = both-true (not (nat_eq z x)) (list_all (is_apart x n) ts) m in
        let s = both-true (G its z) (list_all (target_passes G its) ts) h in
        and-true (H its z) (list_all (target_passes H its) ts) (one-on its z l.0.0 u.0 s.0) (apart-pass its ts l.1 u.1 s.1)

    targets-pass-on : (its : List ℕ) → is_in its n ≡ true → (ts : List Target) → TargetsBelow q ts → list_all (is_apart x n) ts || is_it x ts ≡ true → list_all (target_passes G its) ts ≡ true → list_all (target_passes H its) (map mt ts) ≡ true
    targets-pass-on its inside ts l m h =
        ⊎_elim (λ (a : list_all (is_apart x n) ts ≡ true). subst (λ us. list_all (target_passes H its) us ≡ true) (sym (apart-stay ts a)) (apart-pass its ts l a h))
        (λ (r : is_it x ts ≡ true). it-goes ts r at (λ us. list_all (target_passes H its) us) (λ p. and-true (H its n) true (iterator its inside) refl))
        (either-true (list_all (is_apart x n) ts) (is_it x ts) m)

    pub names-on : (its : List ℕ) → is_in its n ≡ true → (s : Stmt) → NamesBelow q s → may_move x n s ≡ true → names_pass G its s ≡ true → names_pass H its (mv s) ≡ true
    names-on its inside (Then a b) l m h =
        let u = both-true (may_move x n a) (may_move x n b) m in
        let r = both-true (names_pass G its a) (names_pass G its b) h in
        and-true (names_pass H its (mv a)) (names_pass H its (mv b)) (names-on its inside a l.0 u.0 r.0) (names-on its inside b l.1 u.1 r.1)
    names-on its inside (If k c a b) l m h =
        let u = both-true (names_plainly x c) (may_move x n a && may_move x n b) m in
        let v = both-true (may_move x n a) (may_move x n b) u.1 in
        let q = both-true (list_all (G its) (told_in c)) (names_pass G its a && names_pass G its b) h in
        let r = both-true (names_pass G its a) (names_pass G its b) q.1 in
        and-true (list_all (H its) (told_in (mi c))) (names_pass H its (mv a) && names_pass H its (mv b)) (told-on its inside c l.0 u.0 q.0)
        (and-true (names_pass H its (mv a)) (names_pass H its (mv b)) (names-on its inside a l.1 v.0 r.0) (names-on its inside b l.2 v.1 r.1))
    names-on its inside (Declare k z None) l m h = by (nat_eq z x) refl
      where
        by : (b : Bool) → nat_eq z x ≡ b → names_pass H its (cond b (Assign k (T.Property n q at) (Const (zero_of t))) (Declare k z None)) ≡ true
        by true e = and-true (H its n) true (iterator its inside) refl
        by false e = and-true (H its z) true (one-on its z l.0 (ap not e) (both-true (G its z) true h).0) refl
    names-on its inside (Declare k z (Some e)) l m h =
        let r = both-true (G its z) (list_all (G its) (told_in e)) h in
        let u = both-true (not (nat_eq z n)) (names_plainly x e) m in
        by (nat_eq z x) refl r.0 (told-on its inside e l.1 u.1 r.1)
      where
        by : (b : Bool) → nat_eq z x ≡ b → G its z ≡ true → list_all (H its) (told_in (mi e)) ≡ true → names_pass H its (cond b (Assign k (T.Property n q at) (mi e)) (Declare k z (Some (mi e)))) ≡ true
        by true f g r = and-true (H its n) (list_all (H its) (told_in (mi e))) (iterator its inside) r
        by false f g r = and-true (H its z) (list_all (H its) (told_in (mi e))) (one-on its z l.0 (ap not f) g) r
    names-on its inside (Assign k o e) l m h =
        let r = both-true (target_passes G its o) (list_all (G its) (told_in e)) h in
        let u = both-true (is_apart x n o || is_it x (o ∷ [])) (names_plainly x e) m in
        and-true (target_passes H its (mt o)) (list_all (H its) (told_in (mi e))) (target-passes-on its inside o l.0 u.0 r.0) (told-on its inside e l.1 u.1 r.1)
    names-on its inside (Defer k o e) l m h =
        let r = both-true (target_passes G its o) (list_all (G its) (told_in e)) h in
        let u = both-true (is_apart x n o) (names_plainly x e) m in
        and-true (target_passes H its o) (list_all (H its) (told_in (mi e))) (same o l.0 u.0 r.0) (told-on its inside e l.1 u.1 r.1)
      where
        same : (o : Target) → TargetBelow q o → is_apart x n o ≡ true → target_passes G its o ≡ true → target_passes H its o ≡ true
        same (T.Scalar z p) l m h = one-on its z l (both-true (not (nat_eq z x)) (not (nat_eq z n)) m).0 h
        same (T.Property z r p) l m h = one-on its z l.0 m h
    names-on its inside (Combine k total op ts es) l m h =
        let r = both-true (list_all (target_passes G its) ts) (list_all (G its) (sights_in_all es).scalars) h in
        let u = both-true (list_all (is_apart x n) ts || is_it x ts) (list_all (names_plainly x) es) m in
        and-true (list_all (target_passes H its) (map mt ts)) (list_all (H its) (sights_in_all (map mi es)).scalars) (targets-pass-on its inside ts l.0 u.0 r.0) (all-told-on its inside es l.1 u.1 r.1)
    names-on its inside (Foreach k p hd test body) l m h =
        let js = its ++ (hd.iterator ∷ []) in
        let a = both-true (not (nat_eq hd.owner x)) (not (nat_eq hd.iterator x) && (not (nat_eq hd.iterator n) && (names_plainly x test && may_move x n body))) m in
        let b = both-true (not (nat_eq hd.iterator x)) (not (nat_eq hd.iterator n) && (names_plainly x test && may_move x n body)) a.1 in
        let c = both-true (not (nat_eq hd.iterator n)) (names_plainly x test && may_move x n body) b.1 in
        let d = both-true (names_plainly x test) (may_move x n body) c.1 in
        let u = both-true (G its hd.owner) (list_all (G js) (told_in test) && names_pass G js body) h in
        let r = both-true (list_all (G js) (told_in test)) (names_pass G js body) u.1 in
        let within = more its inside in
        and-true (H its hd.owner) (list_all (H js) (told_in (mi test)) && names_pass H js (mv body)) (one-on its hd.owner l.1 a.0 u.0)
        (and-true (list_all (H js) (told_in (mi test))) (names_pass H js (mv body)) (told-on js within test l.2 d.0 r.0) (names-on js within body l.3 d.1 r.1))
      where
        more : (its : List ℕ) → is_in its n ≡ true → is_in (its ++ (hd.iterator ∷ [])) n ≡ true
        more [] e = absurd (both_ways false refl e)
        more (z ∷ its) e = by (nat_eq n z) e (more its)
          where
            by : (b : Bool) → b || is_in its n ≡ true → (is_in its n ≡ true → is_in (its ++ (hd.iterator ∷ [])) n ≡ true) → b || is_in (its ++ (hd.iterator ∷ [])) n ≡ true
            by true e f = refl
            by false e f = f e
    names-on its inside Skip l m h = refl
    names-on its inside (DeclareEdge z w place) l m h = refl
    names-on its inside s l m h = h

  -- ---- tuples and iterators

  -- ds: the table; dt: a longer one
  module _ (ds dt : List Declaration) (same : (y : ℕ) → y < length ds → variable_at dt y ≡ variable_at ds y) (more : length ds ≤ length dt) (fresh : q ≡ length ds) where
    depths : (y : ℕ) → y < q → depth_at dt y ≡ depth_at ds y
    depths y l = depth-same ds dt same more y (subst (λ k. y < k) fresh l)

    scalars-longer : (d e : ℕ) → e ≡ d → (ts : List Target) → TargetsBelow q ts → list_all (is_scalar_at ds d) ts ≡ true → list_all (is_scalar_at dt e) ts ≡ true
    scalars-longer d e f [] l h = refl
    scalars-longer d e f (T.Scalar z p ∷ ts) l h =
        let r = both-true (nat_eq (depth_at ds z) d) (list_all (is_scalar_at ds d) ts) h in
        and-true (nat_eq (depth_at dt z) e) (list_all (is_scalar_at dt e) ts) (ap (λ a. nat_eq a e) (depths z l.0) ∙ ap (nat_eq (depth_at ds z)) f ∙ r.0) (scalars-longer d e f ts l.1 r.1)
    scalars-longer d e f (T.Property z r p ∷ ts) l h = absurd (both_ways false refl h)

    even-longer : (ts : List Target) → TargetsBelow q ts → are_even ds ts ≡ true → are_even dt ts ≡ true
    even-longer [] l h = refl
    even-longer (T.Scalar z p ∷ ts) l h = scalars-longer (depth_at ds z) (depth_at dt z) (depths z l.0) ts l.1 h
    even-longer (T.Property z r p ∷ ts) l h = refl

    pub evenly-longer : (s : Stmt) → NamesBelow q s → reduces_evenly ds s ≡ true → reduces_evenly dt s ≡ true
    evenly-longer (Then a b) l h = let r = both-true (reduces_evenly ds a) (reduces_evenly ds b) h in and-true (reduces_evenly dt a) (reduces_evenly dt b) (evenly-longer a l.0 r.0) (evenly-longer b l.1 r.1)
    evenly-longer (If k c a b) l h = let r = both-true (reduces_evenly ds a) (reduces_evenly ds b) h in and-true (reduces_evenly dt a) (reduces_evenly dt b) (evenly-longer a l.1 r.0) (evenly-longer b l.2 r.1)
    evenly-longer (Foreach k p hd test body) l h = evenly-longer body l.3 h
    evenly-longer (Combine k total op ts es) l h = even-longer ts l.0 h
    evenly-longer s l h = refl

    pub evenly-on : (s : Stmt) → NamesBelow q s → may_move x n s ≡ true → reduces_evenly ds s ≡ true → reduces_evenly dt (mv s) ≡ true
    evenly-on (Then a b) l m h =
        let u = both-true (may_move x n a) (may_move x n b) m in
        let r = both-true (reduces_evenly ds a) (reduces_evenly ds b) h in
        and-true (reduces_evenly dt (mv a)) (reduces_evenly dt (mv b)) (evenly-on a l.0 u.0 r.0) (evenly-on b l.1 u.1 r.1)
    evenly-on (If k c a b) l m h =
        let u = both-true (may_move x n a) (may_move x n b) (both-true (names_plainly x c) (may_move x n a && may_move x n b) m).1 in
        let r = both-true (reduces_evenly ds a) (reduces_evenly ds b) h in
        and-true (reduces_evenly dt (mv a)) (reduces_evenly dt (mv b)) (evenly-on a l.1 u.0 r.0) (evenly-on b l.2 u.1 r.1)
    evenly-on (Foreach k p hd test body) l m h =
        let a = both-true (not (nat_eq hd.owner x)) (not (nat_eq hd.iterator x) && (not (nat_eq hd.iterator n) && (names_plainly x test && may_move x n body))) m in
        let b = both-true (not (nat_eq hd.iterator x)) (not (nat_eq hd.iterator n) && (names_plainly x test && may_move x n body)) a.1 in
        let c = both-true (not (nat_eq hd.iterator n)) (names_plainly x test && may_move x n body) b.1 in
        evenly-on body l.3 (both-true (names_plainly x test) (may_move x n body) c.1).1 h
    evenly-on (Combine k total op ts es) l m h =
        ⊎_elim (λ (a : list_all (is_apart x n) ts ≡ true). subst (λ us. are_even dt us ≡ true) (sym (apart-stay ts a)) (even-longer ts l.0 h)) (λ (r : is_it x ts ≡ true). it-goes ts r at (are_even dt) (λ p. refl))
        (either-true (list_all (is_apart x n) ts) (is_it x ts) (both-true (list_all (is_apart x n) ts || is_it x ts) (list_all (names_plainly x) es) m).0)
    evenly-on (Declare k z None) l m h = by (nat_eq z x)
      where
        by : (b : Bool) → reduces_evenly dt (cond b (Assign k (T.Property n q at) (Const (zero_of t))) (Declare k z None)) ≡ true
        by true = refl
        by false = refl
    evenly-on (Declare k z (Some e)) l m h = by (nat_eq z x)
      where
        by : (b : Bool) → reduces_evenly dt (cond b (Assign k (T.Property n q at) (mi e)) (Declare k z (Some (mi e)))) ≡ true
        by true = refl
        by false = refl
    evenly-on s l m h = refl

    pub deep-longer : (s : Stmt) → NamesBelow q s → inner_iterators_deep ds s ≡ true → inner_iterators_deep dt s ≡ true
    deep-longer (Then a b) l h = let r = both-true (inner_iterators_deep ds a) (inner_iterators_deep ds b) h in and-true (inner_iterators_deep dt a) (inner_iterators_deep dt b) (deep-longer a l.0 r.0) (deep-longer b l.1 r.1)
    deep-longer (If k c a b) l h = let r = both-true (inner_iterators_deep ds a) (inner_iterators_deep ds b) h in and-true (inner_iterators_deep dt a) (inner_iterators_deep dt b) (deep-longer a l.1 r.0) (deep-longer b l.2 r.1)
    deep-longer (Foreach k p hd test body) l h = ap (λ d. not (nat_eq d 0)) (depths hd.iterator l.0) ∙ h
    deep-longer s l h = refl

    pub deep-on : (s : Stmt) → NamesBelow q s → inner_iterators_deep ds s ≡ true → inner_iterators_deep dt (mv s) ≡ true
    deep-on (Then a b) l h = let r = both-true (inner_iterators_deep ds a) (inner_iterators_deep ds b) h in and-true (inner_iterators_deep dt (mv a)) (inner_iterators_deep dt (mv b)) (deep-on a l.0 r.0) (deep-on b l.1 r.1)
    deep-on (If k c a b) l h = let r = both-true (inner_iterators_deep ds a) (inner_iterators_deep ds b) h in and-true (inner_iterators_deep dt (mv a)) (inner_iterators_deep dt (mv b)) (deep-on a l.1 r.0) (deep-on b l.2 r.1)
    deep-on (Foreach k p hd test body) l h = ap (λ d. not (nat_eq d 0)) (depths hd.iterator l.0) ∙ h
    deep-on (Declare k z None) l h = by (nat_eq z x)
      where
        by : (b : Bool) → inner_iterators_deep dt (cond b (Assign k (T.Property n q at) (Const (zero_of t))) (Declare k z None)) ≡ true
        by true = refl
        by false = refl
    deep-on (Declare k z (Some e)) l h = by (nat_eq z x)
      where
        by : (b : Bool) → inner_iterators_deep dt (cond b (Assign k (T.Property n q at) (mi e)) (Declare k z (Some (mi e)))) ≡ true
        by true = refl
        by false = refl
    deep-on s l h = refl
