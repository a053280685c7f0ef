-- What is known of a body stays where one of its locals goes to a property.
use Rattle.std.proofs.Common.{◌≡◌, ◌<◌, arith, ℕ, suc, Bool, true, false, cond, List, [], ◌∷◌, map, refl, sym, ap, subst, ◌∙◌, Option, Some, None, ⊎_elim}
use Rattle.std.specs.Prelude.{◌&&◌, ◌||◌, not, nat_eq}
use Rattle.std.specs.List.{list_all}
use Rattle.std.proofs.lemmas.Bool.{eq-eqb}
use Rattle.gm_base.specs.declared.places.Place.{Place}
use Rattle.gm_value.specs.declared.values.Value.{Value}
use Rattle.gm_ast.specs.declared.tree.Target.{Target}
use Rattle.gm_ast.specs.declared.tree.Target.TheVariants as T
use Rattle.gm_ast.specs.Program.{Expr, Const, Var, Property, EdgeProperty, Degree, NodeCount, EdgeCount, Live, Unary, Binary, Both, Either, Choose, Folded, Stmt, Skip, Then, Declare, DeclareEdge, Assign, Defer, Combine, Group, Foreach, For, If, While, Do, InBfs, InBfsBoth, Return}
use Rattle.gm_semantics.specs.Iterations.{Loop}
use Rattle.gm_semantics.specs.Frames.{ReadsBelow, MayReadBelow, AllReadBelow, TargetBelow, TargetsBelow, NamesBelow}
use Rattle.gm_forms.proofs.Named.{both-true}
use Rattle.gm_forms.proofs.Weaker.{and-true}
use Rattle.gm_loop_laws.specs.Localised.{moved_in, moved_target, moved, names_plainly, is_apart, is_it}
use Rattle.gm_dissect.proofs.DeferredLoops.{either-true}
use Rattle.gm_locals.specs.Beside.{is_mine, may_move_beside}

-- what is below a number is below the next
pub read-up : (k : ℕ) (e : Expr) → ReadsBelow k e → ReadsBelow (suc k) e
read-up k (Const v) h = tt
read-up k (Var x at) h = omega (arith, h)
read-up k (Property x p at) h = (let a = h.0 in omega (arith, a), let a = h.1 in omega (arith, a))
read-up k (EdgeProperty x p at) h = omega (arith, h)
read-up k (Degree d x at) h = omega (arith, h)
read-up k NodeCount h = tt
read-up k EdgeCount h = tt
read-up k (Live x at) h = omega (arith, h)
read-up k (Unary op at e) h = read-up k e h
read-up k (Binary op at a b) h = (read-up k a h.0, read-up k b h.1)
read-up k (Both a b) h = (read-up k a h.0, read-up k b h.1)
read-up k (Either a b) h = (read-up k a h.0, read-up k b h.1)
read-up k (Choose c a b) h = (read-up k c h.0, read-up k a h.1, read-up k b h.2)
read-up k (Folded f hd test e) h = (let a = h.0 in omega (arith, a), read-up k test h.1, read-up k e h.2)

all-read-up : (k : ℕ) (es : List Expr) → AllReadBelow k es → AllReadBelow (suc k) es
all-read-up k [] h = tt
all-read-up k (e ∷ es) h = (read-up k e h.0, all-read-up k es h.1)

may-read-up : (k : ℕ) (e : Option Expr) → MayReadBelow k e → MayReadBelow (suc k) e
may-read-up k None h = tt
may-read-up k (Some e) h = read-up k e h

target-up : (k : ℕ) (t : Target) → TargetBelow k t → TargetBelow (suc k) t
target-up k (T.Scalar x at) h = omega (arith, h)
target-up k (T.Property x p at) h = (let a = h.0 in omega (arith, a), let a = h.1 in omega (arith, a))

pub names-up : (k : ℕ) (s : Stmt) → NamesBelow k s → NamesBelow (suc k) s
names-up k Skip h = tt
names-up k (Then a b) h = (names-up k a h.0, names-up k b h.1)
names-up k (Declare key x e) h = (let a = h.0 in omega (arith, a), may-read-up k e h.1)
names-up k (DeclareEdge x y at) h = tt
names-up k (Assign key t e) h = (target-up k t h.0, read-up k e h.1)
names-up k (Defer key t e) h = (target-up k t h.0, read-up k e h.1)
names-up k (Combine key total r ts es) h = (all-up ts h.0, all-read-up k es h.1)
  where
    all-up : (ts : List Target) → TargetsBelow k ts → TargetsBelow (suc k) ts
    all-up [] h = tt
    all-up (t ∷ ts) h = (target-up k t h.0, all-up ts h.1)
names-up k (Group key at g p e) h = (let a = h.0 in omega (arith, a), let a = h.1 in omega (arith, a), read-up k e h.2)
names-up k (Foreach key at hd test body) h = (let a = h.0 in omega (arith, a), let a = h.1 in omega (arith, a), read-up k test h.2, names-up k body h.3)
names-up k (For key at hd test body) h = (let a = h.0 in omega (arith, a), let a = h.1 in omega (arith, a), read-up k test h.2, names-up k body h.3)
names-up k (If key c a b) h = (read-up k c h.0, names-up k a h.1, names-up k b h.2)
names-up k (While key at c body) h = (read-up k c h.0, names-up k body h.1)
names-up k (Do key at body c) h = (names-up k body h.0, read-up k c h.1)
names-up k (InBfs key at s c body) h = (let a = h.0 in omega (arith, a), let a = h.1 in omega (arith, a), read-up k c h.2, names-up k body h.3)
names-up k (InBfsBoth key at s c body back_key d back) h = (let a = h.0 in omega (arith, a), let a = h.1 in omega (arith, a), read-up k c h.2, names-up k body h.3, read-up k d h.4, names-up k back h.5)
names-up k (Return key at e) h = may-read-up k e h

-- x: the local; q: its property, which no name reaches; n: the iterator
module _ (x q n : ℕ) (at : Place) (zero : Value) (iterates : n < q) where
  abbrev mi : Expr → Expr
  mi e = moved_in x q n at zero e

  abbrev mt : Target → Target
  mt t = moved_target x q n at zero t

  abbrev mv : Stmt → Stmt
  mv s = moved x q n at zero s

  more : n < suc q
  more = omega (arith, iterates)

  last : q < suc q
  last = omega arith

  pub reads-below : (e : Expr) → ReadsBelow q e → ReadsBelow (suc q) (mi e)
  reads-below (Var y place) h = by (nat_eq y x)
    where
      by : (c : Bool) → ReadsBelow (suc q) (cond c (Property n q place) (Var y place))
      by true = (more, last)
      by false = omega (arith, h)
  reads-below (Unary op place e) h = reads-below e h
  reads-below (Binary op place a b) h = (reads-below a h.0, reads-below b h.1)
  reads-below (Both a b) h = (reads-below a h.0, reads-below b h.1)
  reads-below (Either a b) h = (reads-below a h.0, reads-below b h.1)
  reads-below (Choose c a b) h = (reads-below c h.0, reads-below a h.1, reads-below b h.2)
  reads-below e h = read-up q e h

  all-reads-below : (es : List Expr) → AllReadBelow q es → AllReadBelow (suc q) (map mi es)
  all-reads-below [] h = tt
  all-reads-below (e ∷ es) h = (reads-below e h.0, all-reads-below es h.1)

  target-below : (t : Target) → TargetBelow q t → TargetBelow (suc q) (mt t)
  target-below (T.Scalar y place) h = by (nat_eq y x)
    where
      by : (c : Bool) → TargetBelow (suc q) (cond c (T.Property n q place) (T.Scalar y place))
      by true = (more, last)
      by false = omega (arith, h)
  target-below (T.Property y p place) h = target-up q (T.Property y p place) h

  targets-below : (ts : List Target) → TargetsBelow q ts → TargetsBelow (suc q) (map mt ts)
  targets-below [] h = tt
  targets-below (t ∷ ts) h = (target-below t h.0, targets-below ts h.1)

  pub names-below-moved : (s : Stmt) → NamesBelow q s → NamesBelow (suc q) (mv s)
  names-below-moved (Then a b) h = (names-below-moved a h.0, names-below-moved b h.1)
  names-below-moved (Declare k y None) h = by (nat_eq y x)
    where
      by : (c : Bool) → NamesBelow (suc q) (cond c (Assign k (T.Property n q at) (Const zero)) (Declare k y None))
      by true = ((more, last), tt)
      by false = (let a = h.0 in omega (arith, a), tt)
  names-below-moved (Declare k y (Some e)) h = by (nat_eq y x)
    where
      by : (c : Bool) → NamesBelow (suc q) (cond c (Assign k (T.Property n q at) (mi e)) (Declare k y (Some (mi e))))
      by true = ((more, last), reads-below e h.1)
      by false = (let a = h.0 in omega (arith, a), reads-below e h.1)
  names-below-moved (Assign k t e) h = (target-below t h.0, reads-below e h.1)
  names-below-moved (Defer k t e) h = (target-up q t h.0, reads-below e h.1)
  names-below-moved (Combine k total r ts es) h = (targets-below ts h.0, all-reads-below es h.1)
  names-below-moved (If k c a b) h = (reads-below c h.0, names-below-moved a h.1, names-below-moved b h.2)
  names-below-moved (Foreach k place hd test body) h = (let a = h.0 in omega (arith, a), let a = h.1 in omega (arith, a), reads-below test h.2, names-below-moved body h.3)
  names-below-moved s h = names-up q s h

  -- y: another local, which is not the iterator
  module _ (y : ℕ) (other : nat_eq n y ≡ false) where
    pub plain-stays : (e : Expr) → names_plainly y e ≡ true → names_plainly y (mi e) ≡ true
    plain-stays (Var z place) h = by (nat_eq z x)
      where
        by : (c : Bool) → names_plainly y (cond c (Property n q place) (Var z place)) ≡ true
        by true = ap not other
        by false = refl
    plain-stays (Unary op place e) h = plain-stays e h
    plain-stays (Binary op place a b) h =
        let r = both-true (names_plainly y a) (names_plainly y b) h in and-true (names_plainly y (mi a)) (names_plainly y (mi b)) (plain-stays a r.0) (plain-stays b r.1)
    plain-stays (Both a b) h =
        let r = both-true (names_plainly y a) (names_plainly y b) h in and-true (names_plainly y (mi a)) (names_plainly y (mi b)) (plain-stays a r.0) (plain-stays b r.1)
    plain-stays (Either a b) h =
        let r = both-true (names_plainly y a) (names_plainly y b) h in and-true (names_plainly y (mi a)) (names_plainly y (mi b)) (plain-stays a r.0) (plain-stays b r.1)
    plain-stays (Choose c a b) h =
        let r = both-true (names_plainly y c) (names_plainly y a && names_plainly y b) h in
        let s = both-true (names_plainly y a) (names_plainly y b) r.1 in
        and-true (names_plainly y (mi c)) (names_plainly y (mi a) && names_plainly y (mi b)) (plain-stays c r.0) (and-true (names_plainly y (mi a)) (names_plainly y (mi b)) (plain-stays a s.0) (plain-stays b s.1))
    plain-stays e h = h

    all-plain-stay : (es : List Expr) → list_all (names_plainly y) es ≡ true → list_all (names_plainly y) (map mi es) ≡ true
    all-plain-stay [] h = refl
    all-plain-stay (e ∷ es) h =
        let r = both-true (names_plainly y e) (list_all (names_plainly y) es) h in and-true (names_plainly y (mi e)) (list_all (names_plainly y) (map mi es)) (plain-stays e r.0) (all-plain-stay es r.1)

    apart-stays : (t : Target) → is_apart y n t ≡ true → is_apart y n (mt t) ≡ true
    apart-stays (T.Scalar z place) h = by (nat_eq z x)
      where
        by : (c : Bool) → is_apart y n (cond c (T.Property n q place) (T.Scalar z place)) ≡ true
        by true = ap not other
        by false = h
    apart-stays (T.Property z p place) h = h

    all-apart-stay : (ts : List Target) → list_all (is_apart y n) ts ≡ true → list_all (is_apart y n) (map mt ts) ≡ true
    all-apart-stay [] h = refl
    all-apart-stay (t ∷ ts) h =
        let r = both-true (is_apart y n t) (list_all (is_apart y n) ts) h in and-true (is_apart y n (mt t)) (list_all (is_apart y n) (map mt ts)) (apart-stays t r.0) (all-apart-stay ts r.1)

    one-stays : (t : Target) → is_apart y n t || is_it y (t ∷ []) ≡ true → is_apart y n (mt t) || is_it y (mt t ∷ []) ≡ true
    one-stays (T.Scalar z place) h = by (nat_eq z x)
      where
        by : (c : Bool) → is_apart y n (cond c (T.Property n q place) (T.Scalar z place)) || is_it y (cond c (T.Property n q place) (T.Scalar z place) ∷ []) ≡ true
        by true = ap (λ c. not c || false) other
        by false = h
    one-stays (T.Property z p place) h = h

    -- loop: a loop over that iterator, which does not push the property
    module _ (loop : Loop) (outer : loop.outer ≡ n) (quiet : loop.pushed q ≡ false) where
      mine-stays : (t : Target) → is_mine loop t ≡ true → is_mine loop (mt t) ≡ true
      mine-stays (T.Scalar z place) h = by (nat_eq z x)
        where
          by : (c : Bool) → is_mine loop (cond c (T.Property n q place) (T.Scalar z place)) ≡ true
          by true = ap (λ c. c && not (loop.pushed q)) (eq-eqb n loop.outer (sym outer)) ∙ ap not quiet
          by false = h
      mine-stays (T.Property z p place) h = h

      all-mine-stay : (ts : List Target) → list_all (is_mine loop) ts ≡ true → list_all (is_mine loop) (map mt ts) ≡ true
      all-mine-stay [] h = refl
      all-mine-stay (t ∷ ts) h =
          let r = both-true (is_mine loop t) (list_all (is_mine loop) ts) h in and-true (is_mine loop (mt t)) (list_all (is_mine loop) (map mt ts)) (mine-stays t r.0) (all-mine-stay ts r.1)

      pub beside-stays : (s : Stmt) → may_move_beside loop y s ≡ true → may_move_beside loop y (mv s) ≡ true
      beside-stays (Then a b) h =
          let r = both-true (may_move_beside loop y a) (may_move_beside loop y b) h in and-true (may_move_beside loop y (mv a)) (may_move_beside loop y (mv b)) (beside-stays a r.0) (beside-stays b r.1)
      beside-stays (Declare k z None) h = by (nat_eq z x)
        where
          by : (c : Bool) → may_move_beside loop y (cond c (Assign k (T.Property n q at) (Const zero)) (Declare k z None)) ≡ true
          by true = ap (λ c. (not c || false) && true) other
          by false = h
      beside-stays (Declare k z (Some e)) h = by (nat_eq z x)
        where
          r : (not (nat_eq z loop.outer) ≡ true) × (names_plainly y e ≡ true)
          r = both-true (not (nat_eq z loop.outer)) (names_plainly y e) h

          by : (c : Bool) → may_move_beside loop y (cond c (Assign k (T.Property n q at) (mi e)) (Declare k z (Some (mi e)))) ≡ true
          by true = and-true (not (nat_eq n y) || false) (names_plainly y (mi e)) (ap (λ c. not c || false) other) (plain-stays e r.1)
          by false = and-true (not (nat_eq z loop.outer)) (names_plainly y (mi e)) r.0 (plain-stays e r.1)
      beside-stays (Assign k t e) h =
          let r = both-true (is_apart y loop.outer t || is_it y (t ∷ [])) (names_plainly y e) h in
          and-true (is_apart y loop.outer (mt t) || is_it y (mt t ∷ [])) (names_plainly y (mi e))
          (subst (λ m. is_apart y m (mt t) || is_it y (mt t ∷ []) ≡ true) (sym outer) (one-stays t (subst (λ m. is_apart y m t || is_it y (t ∷ []) ≡ true) outer r.0))) (plain-stays e r.1)
      beside-stays (Defer k t e) h =
          let r = both-true (is_apart y loop.outer t) (names_plainly y e) h in and-true (is_apart y loop.outer t) (names_plainly y (mi e)) r.0 (plain-stays e r.1)
      beside-stays (Combine k total o ts es) h =
          let r = both-true (list_all (is_apart y loop.outer) ts || list_all (is_mine loop) ts) (list_all (names_plainly y) es) h in
          and-true (list_all (is_apart y loop.outer) (map mt ts) || list_all (is_mine loop) (map mt ts)) (list_all (names_plainly y) (map mi es)) (targets r.0) (all-plain-stay es r.1)
        where
          left : (a b : Bool) → a ≡ true → a || b ≡ true
          left a b e = ap (λ c. c || b) e

          right : (a b : Bool) → b ≡ true → a || b ≡ true
          right true b e = refl
          right false b e = e

          targets : list_all (is_apart y loop.outer) ts || list_all (is_mine loop) ts ≡ true → list_all (is_apart y loop.outer) (map mt ts) || list_all (is_mine loop) (map mt ts) ≡ true
          targets g =
              ⊎_elim
              (λ (a : list_all (is_apart y loop.outer) ts ≡ true). left (list_all (is_apart y loop.outer) (map mt ts)) (list_all (is_mine loop) (map mt ts))
              (subst (λ m. list_all (is_apart y m) (map mt ts) ≡ true) (sym outer) (all-apart-stay ts (subst (λ m. list_all (is_apart y m) ts ≡ true) outer a))))
              (λ (a : list_all (is_mine loop) ts ≡ true). right (list_all (is_apart y loop.outer) (map mt ts)) (list_all (is_mine loop) (map mt ts)) (all-mine-stay ts a))
              (either-true (list_all (is_apart y loop.outer) ts) (list_all (is_mine loop) ts) g)
      beside-stays (If k c a b) h =
          let r = both-true (names_plainly y c) (may_move_beside loop y a && may_move_beside loop y b) h in
          let s = both-true (may_move_beside loop y a) (may_move_beside loop y b) r.1 in
          and-true (names_plainly y (mi c)) (may_move_beside loop y (mv a) && may_move_beside loop y (mv b)) (plain-stays c r.0)
          (and-true (may_move_beside loop y (mv a)) (may_move_beside loop y (mv b)) (beside-stays a s.0) (beside-stays b s.1))
      beside-stays (Foreach k place hd test body) h =
          let rest = names_plainly y test && may_move_beside loop y body in
          let more = names_plainly y (mi test) && may_move_beside loop y (mv body) in
          let a = both-true (not (nat_eq hd.owner y)) (not (nat_eq hd.iterator y) && (not (nat_eq hd.iterator loop.outer) && rest)) h in
          let b = both-true (not (nat_eq hd.iterator y)) (not (nat_eq hd.iterator loop.outer) && rest) a.1 in
          let c = both-true (not (nat_eq hd.iterator loop.outer)) rest b.1 in
          let d = both-true (names_plainly y test) (may_move_beside loop y body) c.1 in
          and-true (not (nat_eq hd.owner y)) (not (nat_eq hd.iterator y) && (not (nat_eq hd.iterator loop.outer) && more)) a.0
          (and-true (not (nat_eq hd.iterator y)) (not (nat_eq hd.iterator loop.outer) && more) b.0
          (and-true (not (nat_eq hd.iterator loop.outer)) more c.0
          (and-true (names_plainly y (mi test)) (may_move_beside loop y (mv body)) (plain-stays test d.0) (beside-stays body d.1))))
      beside-stays s h = h
