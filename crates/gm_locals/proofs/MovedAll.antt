-- Each local of a cut body that can be kept in a property is.
use Rattle.std.proofs.Common.{◌≡◌, ℕ, zero, suc, Bool, true, false, cond, List, [], ◌∷◌, ◌++◌, length, map, refl, sym, ap, subst, ◌∙◌, Some, None, ⊎_elim, inl, inr}
use Rattle.std.specs.Prelude.{◌&&◌, ◌||◌, not, nat_eq}
use Rattle.std.specs.List.{list_all, list_any}
use Rattle.std.proofs.lemmas.Bool.{both_ways, not-true, eq-eqb, eqb-true}
use Rattle.gm_base.specs.declared.places.Place.{Place}
use Rattle.gm_value.specs.Bag.{IsIn}
use Rattle.gm_value.specs.declared.values.Value.{Value}
use Rattle.gm_value.specs.Numbers.{zero_of}
use Rattle.gm_ast.specs.declared.tree.Declaration.{Declaration}
use Rattle.gm_ast.specs.declared.tree.Head.{Head}
use Rattle.gm_ast.specs.declared.tree.Key.{Key}
use Rattle.gm_ast.specs.declared.tree.Sort.TheVariants as Sorts
use Rattle.gm_ast.specs.declared.tree.Target.{Target}
use Rattle.gm_ast.specs.declared.tree.Target.TheVariants as T
use Rattle.gm_ast.specs.Names.{sort_eq}
use Rattle.gm_ast.specs.Program.{Expr, Const, Var, Unary, Binary, Both, Either, Choose, Stmt, Then, Declare, Assign, Defer, Combine, Foreach, For, If, While, Do, Program, sequence}
use Rattle.gm_semantics.specs.Statements.{variable_at}
use Rattle.gm_forms.proofs.Doings.{in-left, in-right, in-either}
use Rattle.gm_forms.proofs.Named.{both-true}
use Rattle.gm_forms.proofs.Weaker.{and-true}
use Rattle.gm_loop_laws.specs.Localised.{moved_in, moved_target, moved, names_plainly, option_plainly, is_apart, is_it, may_move}
use Rattle.gm_locals.specs.AllLocals.{keeps_none_in, has_moved_locals}
use Rattle.gm_dissect.specs.Conditions.{holds_cut, is_random}
use Rattle.gm_dissect.specs.Deferred.{copy_of}
use Rattle.gm_dissect.specs.Locals.{declares, keeps_local, set_to, local_loop, with_kept_local, some_keeps, locals_of, locals_in, with_each_kept, with_kept_locals}
use Rattle.gm_dissect.specs.Loops.{each_loop}
use Rattle.gm_dissect.proofs.DeferredLoops.{either-true}
use Rattle.gm_dissect.proofs.Undeferred.{two-same}

or-left : (a b : Bool) → a ≡ true → a || b ≡ true
or-left a b h = ap (λ x. x || b) h

or-right : (a b : Bool) → b ≡ true → a || b ≡ true
or-right true b h = refl
or-right false b h = h

-- x: the local that is kept; y: another
module _ (x q n : ℕ) (at : Place) (first : Value) where
  abbrev mi : Expr → Expr
  mi e = moved_in x q n at first e

  abbrev mt : Target → Target
  mt t = moved_target x q n at first t

  abbrev mv : Stmt → Stmt
  mv s = moved x q n at first s

  -- what is cut stays cut
  random-moved : (ts : List Target) → list_any (is_random n) (map mt ts) ≡ list_any (is_random n) ts
  random-moved [] = refl
  random-moved (T.Scalar z p ∷ ts) = by (nat_eq z x) (random-moved ts)
    where
      by : (b : Bool) → list_any (is_random n) (map mt ts) ≡ list_any (is_random n) ts → is_random n (cond b (T.Property n q p) (T.Scalar z p)) || list_any (is_random n) (map mt ts) ≡ list_any (is_random n) ts
      by true rest = ap (λ c. not c || list_any (is_random n) (map mt ts)) (eq-eqb n n refl) ∙ rest
      by false rest = rest
  random-moved (T.Property z r p ∷ ts) = ap (λ c. not (nat_eq z n) || c) (random-moved ts)

  pub holds-moved : (s : Stmt) → holds_cut n (mv s) ≡ holds_cut n s
  holds-moved (Then a b) = two-same (λ c d. c || d) (holds_cut n (mv a)) (holds_cut n (mv b)) (holds_cut n a) (holds_cut n b) (holds-moved a) (holds-moved b)
  holds-moved (Declare k z None) = by (nat_eq z x)
    where
      by : (b : Bool) → holds_cut n (cond b (Assign k (T.Property n q at) (Const first)) (Declare k z None)) ≡ false
      by true = refl
      by false = refl
  holds-moved (Declare k z (Some e)) = by (nat_eq z x)
    where
      by : (b : Bool) → holds_cut n (cond b (Assign k (T.Property n q at) (mi e)) (Declare k z (Some (mi e)))) ≡ false
      by true = refl
      by false = refl
  holds-moved (Combine k total r ts es) = random-moved ts
  holds-moved (If k c a b) = two-same (λ c d. c || d) (holds_cut n (mv a)) (holds_cut n (mv b)) (holds_cut n a) (holds_cut n b) (holds-moved a) (holds-moved b)
  holds-moved s = refl

  -- what is declared then was declared before, and is not the local
  locals-moved : (s : Stmt) (y : ℕ) → IsIn y (locals_of (mv s)) → IsIn y (locals_of s)
  locals-moved (Then a b) y i =
      ⊎_elim (λ l. in-left y (locals_of a) (locals_of b) (locals-moved a y l)) (λ r. in-right y (locals_of a) (locals_of b) (locals-moved b y r)) (in-either y (locals_of (mv a)) (locals_of (mv b)) i)
  locals-moved (Declare k z None) y i = by (nat_eq z x) i
    where
      by : (b : Bool) → IsIn y (locals_of (cond b (Assign k (T.Property n q at) (Const first)) (Declare k z None))) → IsIn y (z ∷ [])
      by true i = absurd i
      by false i = i
  locals-moved (Declare k z (Some e)) y i = by (nat_eq z x) i
    where
      by : (b : Bool) → IsIn y (locals_of (cond b (Assign k (T.Property n q at) (mi e)) (Declare k z (Some (mi e))))) → IsIn y (z ∷ [])
      by true i = absurd i
      by false i = i
  locals-moved (If k c a b) y i =
      ⊎_elim (λ l. in-left y (locals_of a) (locals_of b) (locals-moved a y l)) (λ r. in-right y (locals_of a) (locals_of b) (locals-moved b y r)) (in-either y (locals_of (mv a)) (locals_of (mv b)) i)
  locals-moved s y i = i

  abbrev Less : ℕ → Stmt → Type 0
  Less y s = (declares y s ≡ true) × (y ≡ x → ⊥)

  declared-less : (s : Stmt) (y : ℕ) → declares y (mv s) ≡ true → Less y s
  declared-less (Then a b) y h =
      ⊎_elim (λ l. let r = declared-less a y l in (or-left (declares y a) (declares y b) r.0, r.1)) (λ l. let r = declared-less b y l in (or-right (declares y a) (declares y b) r.0, r.1))
      (either-true (declares y (mv a)) (declares y (mv b)) h)
  declared-less (Declare k z None) y h = by (nat_eq z x) refl h
    where
      by : (b : Bool) → nat_eq z x ≡ b → declares y (cond b (Assign k (T.Property n q at) (Const first)) (Declare k z None)) ≡ true → (nat_eq z y ≡ true) × (y ≡ x → ⊥)
      by true e h = absurd (both_ways false refl h)
      by false e h = (h, λ (f : y ≡ x). both_ways (nat_eq z x) e (subst (λ v. nat_eq z v ≡ true) f h))
  declared-less (Declare k z (Some e)) y h = by (nat_eq z x) refl h
    where
      by : (b : Bool) → nat_eq z x ≡ b → declares y (cond b (Assign k (T.Property n q at) (mi e)) (Declare k z (Some (mi e)))) ≡ true → (nat_eq z y ≡ true) × (y ≡ x → ⊥)
      by true e h = absurd (both_ways false refl h)
      by false e h = (h, λ (f : y ≡ x). both_ways (nat_eq z x) e (subst (λ v. nat_eq z v ≡ true) f h))
  declared-less (If k c a b) y h =
      ⊎_elim (λ l. let r = declared-less a y l in (or-left (declares y a) (declares y b) r.0, r.1)) (λ l. let r = declared-less b y l in (or-right (declares y a) (declares y b) r.0, r.1))
      (either-true (declares y (mv a)) (declares y (mv b)) h)
  declared-less s y h = absurd (both_ways false refl h)

  -- nothing else may move that might not before
  plain-back : (y : ℕ) (e : Expr) → names_plainly y (mi e) ≡ true → names_plainly y e ≡ true
  plain-back y (Var z p) h = refl
  plain-back y (Unary op p e) h = plain-back y e h
  plain-back y (Binary op p a b) h =
      let r = both-true (names_plainly y (mi a)) (names_plainly y (mi b)) h in
      and-true (names_plainly y a) (names_plainly y b) (plain-back y a r.0) (plain-back y b r.1)
  plain-back y (Both a b) h =
      let r = both-true (names_plainly y (mi a)) (names_plainly y (mi b)) h in
      and-true (names_plainly y a) (names_plainly y b) (plain-back y a r.0) (plain-back y b r.1)
  plain-back y (Either a b) h =
      let r = both-true (names_plainly y (mi a)) (names_plainly y (mi b)) h in
      and-true (names_plainly y a) (names_plainly y b) (plain-back y a r.0) (plain-back y b r.1)
  plain-back y (Choose c a b) h =
      let r = both-true (names_plainly y (mi c)) (names_plainly y (mi a) && names_plainly y (mi b)) h in
      let s = both-true (names_plainly y (mi a)) (names_plainly y (mi b)) r.1 in
      and-true (names_plainly y c) (names_plainly y a && names_plainly y b) (plain-back y c r.0) (and-true (names_plainly y a) (names_plainly y b) (plain-back y a s.0) (plain-back y b s.1))
  plain-back y e h = h

  all-plain-back : (y : ℕ) (es : List Expr) → list_all (names_plainly y) (map mi es) ≡ true → list_all (names_plainly y) es ≡ true
  all-plain-back y [] h = refl
  all-plain-back y (e ∷ es) h =
      let r = both-true (names_plainly y (mi e)) (list_all (names_plainly y) (map mi es)) h in
      and-true (names_plainly y e) (list_all (names_plainly y) es) (plain-back y e r.0) (all-plain-back y es r.1)

  -- the local is not the iterator
  module _ (apart : nat_eq x n ≡ false) (y : ℕ) where
    -- a scalar that is the local may be reduced alone, or is another
    it-back : (z : ℕ) → nat_eq z x ≡ true → (not (nat_eq z y) && not (nat_eq z n)) || nat_eq z y ≡ true
    it-back z e = by (nat_eq z y) (nat_eq z n) (subst (λ v. nat_eq v n ≡ false) (sym (eqb-true z x e)) apart)
      where
        by : (a b : Bool) → b ≡ false → (not a && not b) || a ≡ true
        by true b f = refl
        by false b f = ap (λ c. not c || false) f

    target-back : (t : Target) → is_apart y n (mt t) || is_it y (mt t ∷ []) ≡ true → is_apart y n t || is_it y (t ∷ []) ≡ true
    target-back (T.Scalar z p) h = by (nat_eq z x) refl h
      where
        by : (b : Bool) → nat_eq z x ≡ b → is_apart y n (cond b (T.Property n q p) (T.Scalar z p)) || is_it y (cond b (T.Property n q p) (T.Scalar z p) ∷ []) ≡ true → is_apart y n (T.Scalar z p) || is_it y (T.Scalar z p ∷ []) ≡ true
        by true e h = it-back z e
        by false e h = h
    target-back (T.Property z r p) h = h

    apart-stays : (ts : List Target) → list_all (is_apart x n) ts ≡ true → map mt ts ≡ ts
    apart-stays [] h = refl
    apart-stays (T.Scalar z p ∷ ts) h =
        let r = both-true (not (nat_eq z x) && not (nat_eq z n)) (list_all (is_apart x n) ts) h in
        let s = both-true (not (nat_eq z x)) (not (nat_eq z n)) r.0 in
        ap (λ b. cond b (T.Property n q p) (T.Scalar z p) ∷ map mt ts) (not-true (nat_eq z x) s.0) ∙ ap (λ l. T.Scalar z p ∷ l) (apart-stays ts r.1)
    apart-stays (T.Property z r p ∷ ts) h = ap (λ l. T.Property z r p ∷ l) (apart-stays ts (both-true (not (nat_eq z x)) (list_all (is_apart x n) ts) h).1)

    alone-back : (ts : List Target) → is_it x ts ≡ true → list_all (is_apart y n) ts || is_it y ts ≡ true
    alone-back [] h = absurd (both_ways false refl h)
    alone-back (T.Scalar z p ∷ []) h = by (not (nat_eq z y) && not (nat_eq z n)) (nat_eq z y) (it-back z h)
      where
        by : (a b : Bool) → a || b ≡ true → (a && true) || b ≡ true
        by true b h = refl
        by false b h = h
    alone-back (T.Scalar z p ∷ (t ∷ ts)) h = absurd (both_ways false refl h)
    alone-back (T.Property z r p ∷ ts) h = absurd (both_ways false refl h)

    targets-back : (ts : List Target) → list_all (is_apart x n) ts || is_it x ts ≡ true → list_all (is_apart y n) (map mt ts) || is_it y (map mt ts) ≡ true → list_all (is_apart y n) ts || is_it y ts ≡ true
    targets-back ts m h =
        ⊎_elim (λ (l : list_all (is_apart x n) ts ≡ true). subst (λ l. list_all (is_apart y n) l || is_it y l ≡ true) (apart-stays ts l) h) (λ (r : is_it x ts ≡ true). alone-back ts r)
        (either-true (list_all (is_apart x n) ts) (is_it x ts) m)

    may-back : (s : Stmt) → may_move x n s ≡ true → may_move y n (mv s) ≡ true → may_move y n s ≡ true
    may-back (Then a b) m h =
        let p = both-true (may_move x n a) (may_move x n b) m in
        let r = both-true (may_move y n (mv a)) (may_move y n (mv b)) h in
        and-true (may_move y n a) (may_move y n b) (may-back a p.0 r.0) (may-back b p.1 r.1)
    may-back (Declare k z None) m h = and-true (not (nat_eq z n)) true (both-true (not (nat_eq z n)) true m).0 refl
    may-back (Declare k z (Some e)) m h =
        and-true (not (nat_eq z n)) (names_plainly y e) (both-true (not (nat_eq z n)) (names_plainly x e) m).0 (plain-back y e (by (nat_eq z x) h))
      where
        by : (b : Bool) → may_move y n (cond b (Assign k (T.Property n q at) (mi e)) (Declare k z (Some (mi e)))) ≡ true → names_plainly y (mi e) ≡ true
        by true h = (both-true (is_apart y n (T.Property n q at) || is_it y (T.Property n q at ∷ [])) (names_plainly y (mi e)) h).1
        by false h = (both-true (not (nat_eq z n)) (names_plainly y (mi e)) h).1
    may-back (Assign k t e) m h =
        let r = both-true (is_apart y n (mt t) || is_it y (mt t ∷ [])) (names_plainly y (mi e)) h in
        and-true (is_apart y n t || is_it y (t ∷ [])) (names_plainly y e) (target-back t r.0) (plain-back y e r.1)
    may-back (Defer k t e) m h =
        let r = both-true (is_apart y n t) (names_plainly y (mi e)) h in
        and-true (is_apart y n t) (names_plainly y e) r.0 (plain-back y e r.1)
    may-back (Combine k total o ts es) m h =
        let p = both-true (list_all (is_apart x n) ts || is_it x ts) (list_all (names_plainly x) es) m in
        let r = both-true (list_all (is_apart y n) (map mt ts) || is_it y (map mt ts)) (list_all (names_plainly y) (map mi es)) h in
        and-true (list_all (is_apart y n) ts || is_it y ts) (list_all (names_plainly y) es) (targets-back ts p.0 r.0) (all-plain-back y es r.1)
    may-back (If k c a b) m h =
        let p = both-true (names_plainly x c) (may_move x n a && may_move x n b) m in
        let o = both-true (may_move x n a) (may_move x n b) p.1 in
        let r = both-true (names_plainly y (mi c)) (may_move y n (mv a) && may_move y n (mv b)) h in
        let s = both-true (may_move y n (mv a)) (may_move y n (mv b)) r.1 in
        and-true (names_plainly y c) (may_move y n a && may_move y n b) (plain-back y c r.0) (and-true (may_move y n a) (may_move y n b) (may-back a o.0 s.0) (may-back b o.1 s.1))
    may-back (Foreach k p h test body) m f =
        let inside = mv body in
        let a = both-true (not (nat_eq h.owner x)) (not (nat_eq h.iterator x) && (not (nat_eq h.iterator n) && (names_plainly x test && may_move x n body))) m in
        let b = both-true (not (nat_eq h.iterator x)) (not (nat_eq h.iterator n) && (names_plainly x test && may_move x n body)) a.1 in
        let c = both-true (not (nat_eq h.iterator n)) (names_plainly x test && may_move x n body) b.1 in
        let d = both-true (names_plainly x test) (may_move x n body) c.1 in
        let u = both-true (not (nat_eq h.owner y)) (not (nat_eq h.iterator y) && (not (nat_eq h.iterator n) && (names_plainly y (mi test) && may_move y n inside))) f in
        let v = both-true (not (nat_eq h.iterator y)) (not (nat_eq h.iterator n) && (names_plainly y (mi test) && may_move y n inside)) u.1 in
        let w = both-true (not (nat_eq h.iterator n)) (names_plainly y (mi test) && may_move y n inside) v.1 in
        let z = both-true (names_plainly y (mi test)) (may_move y n inside) w.1 in
        and-true (not (nat_eq h.owner y)) (not (nat_eq h.iterator y) && (not (nat_eq h.iterator n) && (names_plainly y test && may_move y n body))) u.0
        (and-true (not (nat_eq h.iterator y)) (not (nat_eq h.iterator n) && (names_plainly y test && may_move y n body)) v.0
        (and-true (not (nat_eq h.iterator n)) (names_plainly y test && may_move y n body) w.0
        (and-true (names_plainly y test) (may_move y n body) (plain-back y test z.0) (may-back body d.1 z.1))))
    may-back s m h = h

-- a local that may move is not the iterator
declared-apart : (x n : ℕ) (s : Stmt) → declares x s ≡ true → may_move x n s ≡ true → nat_eq x n ≡ false
declared-apart x n (Then a b) d m =
    let p = both-true (may_move x n a) (may_move x n b) m in
    ⊎_elim (λ l. declared-apart x n a l p.0) (λ r. declared-apart x n b r p.1) (either-true (declares x a) (declares x b) d)
declared-apart x n (Declare k z e) d m =
    subst (λ v. nat_eq v n ≡ false) (eqb-true z x d) (not-true (nat_eq z n) (both-true (not (nat_eq z n)) (option_plainly x e) m).0)
declared-apart x n (If k c a b) d m =
    let p = both-true (may_move x n a) (may_move x n b) (both-true (names_plainly x c) (may_move x n a && may_move x n b) m).1 in
    ⊎_elim (λ l. declared-apart x n a l p.0) (λ r. declared-apart x n b r p.1) (either-true (declares x a) (declares x b) d)
declared-apart x n s d m = absurd (both_ways false refl d)

-- the parts of what a loop that keeps a local says
record Keeps (ds : List Declaration) (x n : ℕ) (test : Expr) (body : Stmt) : Type 0 where
  scalar : sort_eq Sorts.Scalar (variable_at ds x).sort ≡ true
  declared : declares x body ≡ true
  cut : holds_cut n body ≡ true
  plain : names_plainly x test ≡ true
  moves : may_move x n body ≡ true

parts : (ds : List Declaration) (x n : ℕ) (test : Expr) (body : Stmt) → keeps_local ds x n test body ≡ true → Keeps ds x n test body
parts ds x n test body h =
    let a = both-true (sort_eq Sorts.Scalar (variable_at ds x).sort) (declares x body && (holds_cut n body && (names_plainly x test && may_move x n body))) h in
    let b = both-true (declares x body) (holds_cut n body && (names_plainly x test && may_move x n body)) a.1 in
    let c = both-true (holds_cut n body) (names_plainly x test && may_move x n body) b.1 in
    let d = both-true (names_plainly x test) (may_move x n body) c.1 in
    record { scalar = a.0; declared = b.0; cut = c.0; plain = d.0; moves = d.1 }

whole : (ds : List Declaration) (x n : ℕ) (test : Expr) (body : Stmt) → Keeps ds x n test body → keeps_local ds x n test body ≡ true
whole ds x n test body k =
    and-true (sort_eq Sorts.Scalar (variable_at ds x).sort) (declares x body && (holds_cut n body && (names_plainly x test && may_move x n body))) k.scalar
    (and-true (declares x body) (holds_cut n body && (names_plainly x test && may_move x n body)) k.declared
    (and-true (holds_cut n body) (names_plainly x test && may_move x n body) k.cut (and-true (names_plainly x test) (may_move x n body) k.plain k.moves)))

-- a variable behind a table makes none a scalar that was not: what is not declared counts as one
scalar-back : (ds : List Declaration) (d : Declaration) (y : ℕ) → sort_eq Sorts.Scalar (variable_at (ds ++ (d ∷ [])) y).sort ≡ true → sort_eq Sorts.Scalar (variable_at ds y).sort ≡ true
scalar-back [] d zero h = refl
scalar-back [] d (suc y) h = refl
scalar-back (c ∷ ds) d zero h = h
scalar-back (c ∷ ds) d (suc y) h = scalar-back ds d y h

-- one local is kept: no loop keeps it then, nor keeps another that it did not before
module _ (ds : List Declaration) (x : ℕ) where
  abbrev q : ℕ
  q = length ds

  abbrev dt : List Declaration
  dt = ds ++ (copy_of ds x ∷ [])

  abbrev Fewer : ℕ → Bool → Type 0
  Fewer y b = (b ≡ true) × (y ≡ x → ⊥)

  loop-fewer : (key : Key) (at : Place) (h : Head) (test : Expr) (body : Stmt) (y : ℕ) → some_keeps dt y (local_loop ds x q key at h test body) ≡ true → Fewer y (keeps_local ds y h.iterator test body)
  loop-fewer key at h test body y s = by (keeps_local ds x h.iterator test body) refl s
    where
      asked : Expr
      asked = moved_in x q h.iterator at (zero_of (variable_at ds x).vtype) test

      inside : Stmt
      inside = moved x q h.iterator at (zero_of (variable_at ds x).vtype) body

      by : (b : Bool) → keeps_local ds x h.iterator test body ≡ b →
          some_keeps dt y (cond b (sequence (set_to q x at h ∷ Foreach key at h (moved_in x q h.iterator at (zero_of (variable_at ds x).vtype) test) (moved x q h.iterator at (zero_of (variable_at ds x).vtype) body) ∷ [])) (Foreach key at h test body)) ≡ true
          → Fewer y (keeps_local ds y h.iterator test body)
      by true e s =
          let kept = parts ds x h.iterator test body e in
          ⊎_elim (λ l. absurd (both_ways false refl (both-true (sort_eq Sorts.Scalar (variable_at dt y).sort) false l).1))
          (λ r. ⊎_elim (λ (m : keeps_local dt y h.iterator asked inside ≡ true).
          let k = parts dt y h.iterator asked inside m in
          let less = declared-less x q h.iterator at (zero_of (variable_at ds x).vtype) body y k.declared in (
            whole ds y h.iterator test body (record {
              scalar = scalar-back ds (copy_of ds x) y k.scalar;
              declared = less.0;
              cut = kept.cut;
              plain = plain-back x q h.iterator at (zero_of (variable_at ds x).vtype) y test k.plain;
              moves = may-back x q h.iterator at (zero_of (variable_at ds x).vtype) (declared-apart x h.iterator body kept.declared kept.moves) y body kept.moves k.moves;
            }),
            less.1,
          ))
          (λ r. absurd (both_ways false refl r)) (either-true (keeps_local dt y h.iterator asked inside) false r))
          (either-true (sort_eq Sorts.Scalar (variable_at dt y).sort && false) (keeps_local dt y h.iterator asked inside || false) s)
      by false e s =
          let k = parts dt y h.iterator test body s in
          let before = whole ds y h.iterator test body (record { scalar = scalar-back ds (copy_of ds x) y k.scalar; declared = k.declared; cut = k.cut; plain = k.plain; moves = k.moves }) in
          (before, λ (f : y ≡ x). both_ways (keeps_local ds x h.iterator test body) e (subst (λ z. keeps_local ds z h.iterator test body ≡ true) f before))

  phase-fewer : (s : Stmt) (y : ℕ) → some_keeps dt y (each_loop (local_loop ds x q) s) ≡ true → Fewer y (some_keeps ds y s)
  phase-fewer (Then a b) y h =
      ⊎_elim (λ l. let r = phase-fewer a y l in (or-left (some_keeps ds y a) (some_keeps ds y b) r.0, r.1)) (λ l. let r = phase-fewer b y l in (or-right (some_keeps ds y a) (some_keeps ds y b) r.0, r.1))
      (either-true (some_keeps dt y (each_loop (local_loop ds x q) a)) (some_keeps dt y (each_loop (local_loop ds x q) b)) h)
  phase-fewer (Foreach key at h test body) y s = loop-fewer key at h test body y s
  phase-fewer (For k at h test body) y s = phase-fewer body y s
  phase-fewer (If k c a b) y h =
      ⊎_elim (λ l. let r = phase-fewer a y l in (or-left (some_keeps ds y a) (some_keeps ds y b) r.0, r.1)) (λ l. let r = phase-fewer b y l in (or-right (some_keeps ds y a) (some_keeps ds y b) r.0, r.1))
      (either-true (some_keeps dt y (each_loop (local_loop ds x q) a)) (some_keeps dt y (each_loop (local_loop ds x q) b)) h)
  phase-fewer (While k at c body) y s = phase-fewer body y s
  phase-fewer (Do k at body c) y s = phase-fewer body y s
  phase-fewer s y h = absurd (both_ways false refl h)

  -- no body declares what none did
  loop-lists : (key : Key) (at : Place) (h : Head) (test : Expr) (body : Stmt) (y : ℕ) → IsIn y (locals_in (local_loop ds x q key at h test body)) → IsIn y (locals_in (Foreach key at h test body))
  loop-lists key at h test body y i = by (keeps_local ds x h.iterator test body) i
    where
      asked : Expr
      asked = moved_in x q h.iterator at (zero_of (variable_at ds x).vtype) test

      inside : Stmt
      inside = moved x q h.iterator at (zero_of (variable_at ds x).vtype) body

      lists : (b : Bool) → IsIn y (cond b (locals_of inside) []) → IsIn y (cond b (locals_of body) [])
      lists true i = locals-moved x q h.iterator at (zero_of (variable_at ds x).vtype) body y i
      lists false i = i

      by : (b : Bool) → IsIn y (locals_in (cond b (sequence (set_to q x at h ∷ Foreach key at h (moved_in x q h.iterator at (zero_of (variable_at ds x).vtype) test) (moved x q h.iterator at (zero_of (variable_at ds x).vtype) body) ∷ [])) (Foreach key at h test body)))
          → IsIn y (cond (holds_cut h.iterator body) (locals_of body) [])
      by true i =
          ⊎_elim (λ j. lists (holds_cut h.iterator body) (subst (λ b. IsIn y (cond b (locals_of inside) [])) (holds-moved x q h.iterator at (zero_of (variable_at ds x).vtype) body) j)) (λ j. absurd j)
          (in-either y (cond (holds_cut h.iterator inside) (locals_of inside) []) [] i)
      by false i = i

  phase-lists : (s : Stmt) (y : ℕ) → IsIn y (locals_in (each_loop (local_loop ds x q) s)) → IsIn y (locals_in s)
  phase-lists (Then a b) y i =
      ⊎_elim (λ l. in-left y (locals_in a) (locals_in b) (phase-lists a y l)) (λ r. in-right y (locals_in a) (locals_in b) (phase-lists b y r))
      (in-either y (locals_in (each_loop (local_loop ds x q) a)) (locals_in (each_loop (local_loop ds x q) b)) i)
  phase-lists (Foreach key at h test body) y i = loop-lists key at h test body y i
  phase-lists (For k at h test body) y i = phase-lists body y i
  phase-lists (If k c a b) y i =
      ⊎_elim (λ l. in-left y (locals_in a) (locals_in b) (phase-lists a y l)) (λ r. in-right y (locals_in a) (locals_in b) (phase-lists b y r))
      (in-either y (locals_in (each_loop (local_loop ds x q) a)) (locals_in (each_loop (local_loop ds x q) b)) i)
  phase-lists (While k at c body) y i = phase-lists body y i
  phase-lists (Do k at body c) y i = phase-lists body y i
  phase-lists s y i = i

-- one step of several
abbrev step : ℕ → Program → Program
step x p = cond (some_keeps p.declarations x p.body) (with_kept_local x p) p

step-fewer : (x : ℕ) (p : Program) (y : ℕ) → some_keeps (step x p).declarations y (step x p).body ≡ true → (some_keeps p.declarations y p.body ≡ true) × (y ≡ x → ⊥)
step-fewer x p y h = by (some_keeps p.declarations x p.body) refl h
  where
    by : (b : Bool) → some_keeps p.declarations x p.body ≡ b → some_keeps (cond b (with_kept_local x p) p).declarations y (cond b (with_kept_local x p) p).body ≡ true → (some_keeps p.declarations y p.body ≡ true) × (y ≡ x → ⊥)
    by true e h = phase-fewer p.declarations x p.body y h
    by false e h = (h, λ (f : y ≡ x). both_ways (some_keeps p.declarations x p.body) e (subst (λ z. some_keeps p.declarations z p.body ≡ true) f h))

step-lists : (x : ℕ) (p : Program) (y : ℕ) → IsIn y (locals_in (step x p).body) → IsIn y (locals_in p.body)
step-lists x p y i = by (some_keeps p.declarations x p.body) i
  where
    by : (b : Bool) → IsIn y (locals_in (cond b (with_kept_local x p) p).body) → IsIn y (locals_in p.body)
    by true i = phase-lists p.declarations x p.body y i
    by false i = i

-- what a loop still keeps was not listed
each-fewer : (xs : List ℕ) (p : Program) (y : ℕ) → some_keeps (with_each_kept xs p).declarations y (with_each_kept xs p).body ≡ true → (some_keeps p.declarations y p.body ≡ true) × (IsIn y xs → ⊥)
each-fewer [] p y h = (h, λ i. i)
each-fewer (x ∷ xs) p y h =
    let r = each-fewer xs (step x p) y h in
    let l = step-fewer x p y r.0 in
    (l.0, λ (i : IsIn y (x ∷ xs)). ⊎_elim (λ (e : y ≡ x). l.1 e) (λ j. r.1 j) i)

each-lists : (xs : List ℕ) (p : Program) (y : ℕ) → IsIn y (locals_in (with_each_kept xs p).body) → IsIn y (locals_in p.body)
each-lists [] p y i = i
each-lists (x ∷ xs) p y i = step-lists x p y (each-lists xs (step x p) y i)

all-not : (f : ℕ → Bool) (xs : List ℕ) → ((y : ℕ) → IsIn y xs → f y ≡ true → ⊥) → list_all (λ y. not (f y)) xs ≡ true
all-not f [] fails = refl
all-not f (x ∷ xs) fails = by (f x) refl (all-not f xs (λ y i. fails y (inr i)))
  where
    by : (b : Bool) → f x ≡ b → list_all (λ y. not (f y)) xs ≡ true → list_all (λ y. not (f y)) (x ∷ xs) ≡ true
    by true e rest = absurd (fails x (inl refl) e)
    by false e rest = and-true (not (f x)) (list_all (λ y. not (f y)) xs) (ap not e) rest

-- where no loop keeps what a cut body declares
phase-none : (ds : List Declaration) (s : Stmt) → ((y : ℕ) → IsIn y (locals_in s) → some_keeps ds y s ≡ true → ⊥) → keeps_none_in ds s ≡ true
phase-none ds (Then a b) fails =
    and-true (keeps_none_in ds a) (keeps_none_in ds b) (phase-none ds a (λ y i h. fails y (in-left y (locals_in a) (locals_in b) i) (or-left (some_keeps ds y a) (some_keeps ds y b) h)))
    (phase-none ds b (λ y i h. fails y (in-right y (locals_in a) (locals_in b) i) (or-right (some_keeps ds y a) (some_keeps ds y b) h)))
phase-none ds (Foreach k at h test body) fails =
    all-not (λ y. keeps_local ds y h.iterator test body) (locals_of body)
    (λ y i e. fails y (subst (λ b. IsIn y (cond b (locals_of body) [])) (sym (parts ds y h.iterator test body e).cut) i) e)
phase-none ds (For k at h test body) fails = phase-none ds body fails
phase-none ds (If k c a b) fails =
    and-true (keeps_none_in ds a) (keeps_none_in ds b) (phase-none ds a (λ y i h. fails y (in-left y (locals_in a) (locals_in b) i) (or-left (some_keeps ds y a) (some_keeps ds y b) h)))
    (phase-none ds b (λ y i h. fails y (in-right y (locals_in a) (locals_in b) i) (or-right (some_keeps ds y a) (some_keeps ds y b) h)))
phase-none ds (While k at c body) fails = phase-none ds body fails
phase-none ds (Do k at body c) fails = phase-none ds body fails
phase-none ds s fails = refl

pub locals-moved-out : (p : Program) → has_moved_locals (with_kept_locals p) ≡ true
locals-moved-out p =
    let r = with_kept_locals p in
    phase-none r.declarations r.body (λ y i h. (each-fewer (locals_in p.body) p y h).1 (each-lists (locals_in p.body) p y i))
