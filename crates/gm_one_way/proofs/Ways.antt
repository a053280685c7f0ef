-- A slice of which one statement does more than set locals goes one way, where that reads no edge against the way of its message.
use Rattle.std.proofs.Common.{◌≡◌, ◌⊎◌, ℕ, Bool, true, false, cond, List, [], ◌∷◌, ◌++◌, refl, sym, ap, subst, ◌∙◌, Some, None, ⊎_elim, inl, inr}
use Rattle.std.specs.Prelude.{◌&&◌, ◌||◌, not, nat_eq, flat_map}
use Rattle.std.specs.List.{list_all, list_any}
use Rattle.std.proofs.lemmas.Bool.{both_ways, eqb-true, eq-eqb}
use Rattle.gm_base.specs.declared.places.Place.{Place}
use Rattle.gm_value.specs.declared.reductions.Reduce.{Reduce}
use Rattle.gm_ast.specs.Loops.{any}
use Rattle.gm_ast.specs.Ways.{Mention, mentions, variable_of, reads_through, is_edge_read, is_in, is_through, owner_of, way_by, is_against, pulls_by_range}
use Rattle.gm_ast.specs.declared.ways.Way.{Way}
use Rattle.gm_ast.specs.declared.ways.Way.TheVariants.{Push, Pull, Home}
use Rattle.gm_ast.specs.Ways
use Rattle.gm_ast.specs.declared.tree.Declaration.{Declaration}
use Rattle.gm_ast.specs.declared.tree.Domain.{Domain}
use Rattle.gm_ast.specs.declared.tree.Domain.TheVariants.{Nodes, OutNbrs, InNbrs, UpNbrs, DownNbrs}
use Rattle.gm_ast.specs.declared.tree.Head.{Head}
use Rattle.gm_ast.specs.declared.tree.Key.{Key}
use Rattle.gm_ast.specs.declared.tree.Target.{Target}
use Rattle.gm_ast.specs.declared.tree.Target.TheVariants as T
use Rattle.gm_ast.specs.declared.tree.TotalKey.{TotalKey}
use Rattle.gm_ast.specs.Program.{Expr, Const, Var, Property, EdgeProperty, Degree, NodeCount, EdgeCount, Live, Unary, Binary, Both, Either, Choose, Folded, Stmt, Skip, Then, Declare, DeclareEdge, Assign, Defer, Combine, Group, Foreach, For, If, While, Do, InBfs, InBfsBoth, Return}
use Rattle.gm_forms.specs.Forms as Forms
use Rattle.gm_forms.specs.Forms.{is_range, is_flat, is_inner_body, may, is_off, avoids, is_home, is_push, is_pull, is_along, has_a_way}
use Rattle.gm_forms.specs.Sharing as Sharing
use Rattle.gm_forms.specs.Sharing.{are_at_once, are_alike, are_distinct, variables_of, targets_alike, told_in, sights_of, sights_of_targets, sights_by, sights_of_target, sights_at_target, sights_in_all}
use Rattle.gm_loop_laws.specs.Resumed.{serves, needs, kept}
use Rattle.gm_forms.proofs.Named.{both-true}
use Rattle.gm_forms.proofs.Weaker.{and-true}
use Rattle.gm_one_way.specs.Along.{is_lone, goes_along, stands, parts_tell, tells, told_of}
use Rattle.gm_one_way.proofs.Late.{off-once}
use Rattle.gm_one_way.proofs.Silent.{quiet, silent, any-none, none-either, no-true, no-false, clear, clear-both, or-cases, quiet-told, clear-told, all-quiet, all-clear}

-- ---- what reads nothing of a kind may stand where that may not be read

-- r: the kind; its, edge: where it stands; js, e: where it may stand so
module _ (r : Mention → Bool) (its : List ℕ) (edge : Bool) (js : List ℕ) (e : Bool)
    (property : (x p : ℕ) (at : Place) → is_in its x ≡ true → r (Ways.Through x) || false ≡ false → is_in js x ≡ true) (on-edge : (x : ℕ) (at : Place) → edge ≡ true → r (Ways.OfEdge x at) || false ≡ false → e ≡ true) where
  flat-moved : (x : Expr) → is_flat its edge x ≡ true → any r (mentions x) ≡ false → is_flat js e x ≡ true
  flat-moved (Const v) f q = refl
  flat-moved (Var x at) f q = refl
  flat-moved (Property x p at) f q = property x p at f q
  flat-moved (EdgeProperty x p at) f q = on-edge x at f q
  flat-moved (Degree d x at) f q = property x 0 at f q
  flat-moved NodeCount f q = refl
  flat-moved EdgeCount f q = refl
  flat-moved (Live x at) f q = refl
  flat-moved (Unary op at x) f q = flat-moved x f q
  flat-moved (Binary op at x y) f q =
      let p = both-true (is_flat its edge x) (is_flat its edge y) f in
      let o = any-none r (mentions x) (mentions y) q in
      and-true (is_flat js e x) (is_flat js e y) (flat-moved x p.0 o.0) (flat-moved y p.1 o.1)
  flat-moved (Both x y) f q =
      let p = both-true (is_flat its edge x) (is_flat its edge y) f in
      let o = any-none r (mentions x) (mentions y) q in
      and-true (is_flat js e x) (is_flat js e y) (flat-moved x p.0 o.0) (flat-moved y p.1 o.1)
  flat-moved (Either x y) f q =
      let p = both-true (is_flat its edge x) (is_flat its edge y) f in
      let o = any-none r (mentions x) (mentions y) q in
      and-true (is_flat js e x) (is_flat js e y) (flat-moved x p.0 o.0) (flat-moved y p.1 o.1)
  flat-moved (Choose c x y) f q =
      let p = both-true (is_flat its edge c) (is_flat its edge x && is_flat its edge y) f in
      let u = both-true (is_flat its edge x) (is_flat its edge y) p.1 in
      let o = any-none r (mentions c) (mentions x ++ mentions y) q in
      let v = any-none r (mentions x) (mentions y) o.1 in
      and-true (is_flat js e c) (is_flat js e x && is_flat js e y) (flat-moved c p.0 o.0) (and-true (is_flat js e x) (is_flat js e y) (flat-moved x u.0 v.0) (flat-moved y u.1 v.1))
  flat-moved (Folded g hd test x) f q = absurd (both_ways false refl f)

  quiet-flat : (x : Expr) → is_flat its edge x ≡ true → quiet r x ≡ true → is_flat js e x ≡ true
  quiet-flat x f q = flat-moved x f (no-true (any r (mentions x)) q)

  all-flat : (xs : List Expr) → list_all (is_flat its edge) xs ≡ true → list_all (quiet r) xs ≡ true → list_all (is_flat js e) xs ≡ true
  all-flat [] f q = refl
  all-flat (x ∷ xs) f q =
      let p = both-true (is_flat its edge x) (list_all (is_flat its edge) xs) f in
      let o = both-true (quiet r x) (list_all (quiet r) xs) q in
      and-true (is_flat js e x) (list_all (is_flat js e) xs) (quiet-flat x p.0 o.0) (all-flat xs p.1 o.1)

  body-moved : (ds : List Declaration) (s : Stmt) → is_inner_body ds its edge s ≡ true → silent r s ≡ true → is_inner_body ds js e s ≡ true
  body-moved ds Skip g q = refl
  body-moved ds (Then x y) g q =
      let p = both-true (is_inner_body ds its edge x) (is_inner_body ds its edge y) g in
      let o = both-true (silent r x) (silent r y) q in
      and-true (is_inner_body ds js e x) (is_inner_body ds js e y) (body-moved ds x p.0 o.0) (body-moved ds y p.1 o.1)
  body-moved ds (Declare k x None) g q = g
  body-moved ds (Declare k x (Some v)) g q = let p = both-true _ (is_flat its edge v) g in and-true _ (is_flat js e v) p.0 (quiet-flat v p.1 q)
  body-moved ds (DeclareEdge x y at) g q = refl
  body-moved ds (Assign k u v) g q = let p = both-true _ (is_flat its edge v) g in and-true _ (is_flat js e v) p.0 (quiet-flat v p.1 q)
  body-moved ds (Defer k u v) g q = absurd (both_ways false refl g)
  body-moved ds (Combine k total o ts vs) g q = let p = both-true _ (list_all (is_flat its edge) vs) g in and-true _ (list_all (is_flat js e) vs) p.0 (all-flat vs p.1 q)
  body-moved ds (Group k at u p v) g q = absurd (both_ways false refl g)
  body-moved ds (Foreach k at hd test body) g q = absurd (both_ways false refl g)
  body-moved ds (For k at hd test body) g q = absurd (both_ways false refl g)
  body-moved ds (If k c x y) g q =
      let p = both-true (is_flat its edge c) (is_inner_body ds its edge x && is_inner_body ds its edge y) g in
      let u = both-true (is_inner_body ds its edge x) (is_inner_body ds its edge y) p.1 in
      let o = both-true (quiet r c) (silent r x && silent r y) q in
      let v = both-true (silent r x) (silent r y) o.1 in
      and-true (is_flat js e c) (is_inner_body ds js e x && is_inner_body ds js e y) (quiet-flat c p.0 o.0) (and-true (is_inner_body ds js e x) (is_inner_body ds js e y) (body-moved ds x u.0 v.0) (body-moved ds y u.1 v.1))
  body-moved ds (While k at c body) g q = absurd (both_ways false refl g)
  body-moved ds (Do k at body c) g q = absurd (both_ways false refl g)
  body-moved ds (InBfs k at hd c body) g q = absurd (both_ways false refl g)
  body-moved ds (InBfsBoth k at hd c body bk d back) g q = absurd (both_ways false refl g)
  body-moved ds (Return k at v) g q = absurd (both_ways false refl g)

-- what reads no edge may stand where none may be read
module _ (its : List ℕ) (edge : Bool) where
  no-edge-property : (x p : ℕ) (at : Place) → is_in its x ≡ true → is_edge_read (Ways.Through x) || false ≡ false → is_in its x ≡ true
  no-edge-property x p at i q = i

  no-edge-read : (x : ℕ) (at : Place) → true ≡ true → is_edge_read (Ways.OfEdge x at) || false ≡ false → edge ≡ true
  no-edge-read x at o q = absurd (both_ways true q refl)

  pub flat-edges : (e : Expr) → is_flat its true e ≡ true → quiet is_edge_read e ≡ true → is_flat its edge e ≡ true
  flat-edges e f q = quiet-flat is_edge_read its true its edge no-edge-property no-edge-read e f q

  pub body-edges : (ds : List Declaration) (s : Stmt) → is_inner_body ds its true s ≡ true → silent is_edge_read s ≡ true → is_inner_body ds its edge s ≡ true
  body-edges ds s g q = body-moved is_edge_read its true its edge no-edge-property no-edge-read ds s g q

-- what reads nothing at the inner node may stand at the outer one
module _ (n t : ℕ) where
  here : (x p : ℕ) (at : Place) → is_in (n ∷ t ∷ []) x ≡ true → reads_through t (Ways.Through x) || false ≡ false → is_in (n ∷ []) x ≡ true
  here x p at i q = ap (λ b. nat_eq x n || b) (sym q) ∙ i

  same-edge : (x : ℕ) (at : Place) → true ≡ true → reads_through t (Ways.OfEdge x at) || false ≡ false → true ≡ true
  same-edge x at o q = refl

  pub flat-home : (e : Expr) → is_flat (n ∷ t ∷ []) true e ≡ true → quiet (reads_through t) e ≡ true → is_flat (n ∷ []) true e ≡ true
  flat-home e f q = quiet-flat (reads_through t) (n ∷ t ∷ []) true (n ∷ []) true here same-edge e f q

  pub body-home : (ds : List Declaration) (s : Stmt) → is_inner_body ds (n ∷ t ∷ []) true s ≡ true → silent (reads_through t) s ≡ true → is_inner_body ds (n ∷ []) true s ≡ true
  body-home ds s g q = body-moved (reads_through t) (n ∷ t ∷ []) true (n ∷ []) true here same-edge ds s g q

-- ---- ends of edges

-- of an inner loop over neighbours: out of the node, or into it
abbrev IsOut : Domain → Type 0
IsOut d = d ≡ OutNbrs

abbrev IsIn : Domain → Type 0
IsIn d = d ≡ InNbrs

out-or-in : (d : Domain) → Forms.is_range false d ≡ true → (d ≡ OutNbrs) ⊎ (d ≡ InNbrs)
out-or-in Nodes r = absurd (both_ways false refl r)
out-or-in OutNbrs r = inl refl
out-or-in InNbrs r = inr refl
out-or-in UpNbrs r = absurd (both_ways false refl r)
out-or-in DownNbrs r = absurd (both_ways false refl r)

-- the way of a reduction, by whether it goes to the inner node
abbrev pub way : Domain → Bool → Bool → Bool → Way
way d push end edge = cond push Push (cond (end || pulls_by_range d edge) Pull Home)

-- a push against an edge reads none
push-against : (ts : List Target) (end edge : Bool) (h : Head) → h.domain ≡ InNbrs → any (is_through h.iterator) ts ≡ true → not (edge && is_against h.domain (way_by h ts end edge)) ≡ true → edge ≡ false
push-against ts end edge h d p s =
    by edge (subst (λ o. not (edge && is_against InNbrs (way InNbrs o end edge)) ≡ true) p (subst (λ d. not (edge && is_against d (way d (any (is_through h.iterator) ts) end edge)) ≡ true) d s))
  where
    by : (e : Bool) → not (e && is_against InNbrs (way InNbrs true end e)) ≡ true → e ≡ false
    by true q = absurd (both_ways false refl q)
    by false q = refl

-- a pull against one reads none, or is none
pull-against : (ts : List Target) (end edge : Bool) (h : Head) → h.domain ≡ OutNbrs → any (is_through h.iterator) ts ≡ false → not (edge && is_against h.domain (way_by h ts end edge)) ≡ true → (edge ≡ false) ⊎ (end ≡ false)
pull-against ts end edge h d p s =
    by edge end (subst (λ o. not (edge && is_against OutNbrs (way OutNbrs o end edge)) ≡ true) p (subst (λ d. not (edge && is_against d (way d (any (is_through h.iterator) ts) end edge)) ≡ true) d s))
  where
    by : (e f : Bool) → not (e && is_against OutNbrs (way OutNbrs false f e)) ≡ true → (e ≡ false) ⊎ (f ≡ false)
    by true true q = absurd (both_ways false refl q)
    by true false q = inr refl
    by false f q = inl refl

-- targets that are alike go to the inner node, or none of them does
some-through : (x t : ℕ) (ts : List Target) → list_all (Sharing.is_through x) ts ≡ true → any (is_through t) ts ≡ true → x ≡ t
some-through x t [] a h = absurd (both_ways false refl h)
some-through x t (T.Scalar y at ∷ ts) a h = absurd (both_ways false refl a)
some-through x t (T.Property y p at ∷ ts) a h =
    let r = both-true (nat_eq y x) (list_all (Sharing.is_through x) ts) a in ⊎_elim (λ e. sym (eqb-true y x r.0) ∙ eqb-true y t e) (λ e. some-through x t ts r.1 e) (or-cases (nat_eq y t) (any (is_through t) ts) h)

scalars-off : (n : ℕ) (ts : List Target) → list_all Sharing.is_scalar ts ≡ true → list_all (is_off n) ts ≡ true
scalars-off n [] h = refl
scalars-off n (T.Scalar x at ∷ ts) h = scalars-off n ts h
scalars-off n (T.Property x p at ∷ ts) h = absurd (both_ways false refl h)

others-off : (x n : ℕ) (ts : List Target) → nat_eq x n ≡ false → list_all (Sharing.is_through x) ts ≡ true → list_all (is_off n) ts ≡ true
others-off x n [] o h = refl
others-off x n (T.Scalar y at ∷ ts) o h = absurd (both_ways false refl h)
others-off x n (T.Property y p at ∷ ts) o h =
    let r = both-true (nat_eq y x) (list_all (Sharing.is_through x) ts) h in and-true (not (nat_eq y n)) (list_all (is_off n) ts) (no-false (nat_eq y n) (ap (λ z. nat_eq z n) (eqb-true y x r.0) ∙ o)) (others-off x n ts o r.1)

all-through : (n t : ℕ) (ts : List Target) → nat_eq t n ≡ false → are_alike ts ≡ true → any (is_through t) ts ≡ true → list_all (is_off n) ts ≡ true
all-through n t [] o a h = refl
all-through n t (T.Scalar x at ∷ ts) o a h = scalars-off n ts a
all-through n t (T.Property x p at ∷ ts) o a h =
    let all : list_all (Sharing.is_through x) (T.Property x p at ∷ ts) ≡ true = and-true (nat_eq x x) (list_all (Sharing.is_through x) ts) (eq-eqb x x refl) a in
    others-off x n (T.Property x p at ∷ ts) (ap (λ z. nat_eq z n) (some-through x t (T.Property x p at ∷ ts) all h) ∙ o) all

none-through : (t : ℕ) (ts : List Target) → any (is_through t) ts ≡ false → list_all (is_off t) ts ≡ true
none-through t [] h = refl
none-through t (T.Scalar x at ∷ ts) h = none-through t ts h
none-through t (T.Property x p at ∷ ts) h = let r = none-either (nat_eq x t) (any (is_through t) ts) h in and-true (not (nat_eq x t)) (list_all (is_off t) ts) (no-false (nat_eq x t) r.0) (none-through t ts r.1)

-- ---- a statement that stands alone

-- n: the outer iterator; h: the inner loop; edges, ends: the variables that rest on reads of an edge, and on those at the inner node
module _ (ds : List Declaration) (n : ℕ) (h : Head) (edges ends : ℕ → Bool) where
  abbrev t : ℕ
  t = h.iterator

  abbrev its : List ℕ
  its = n ∷ h.iterator ∷ []

  -- nothing around tells of such a read, and what is kept neither reads so nor needs a variable that rests on such a read
  pub record Untold (reads : Mention → Bool) (marked : ℕ → Bool) (around : Bool) (s : Stmt) : Type 0 where
    pub none : around ≡ false
    pub reads_none : silent reads (kept ds (n ∷ h.iterator ∷ []) n true s []) ≡ true
    pub needs_none : clear marked (needs ds (n ∷ h.iterator ∷ []) n true s []) ≡ true

  -- where a statement gives, and what it reads then
  pub data Outcome (end edge : Bool) (s : Stmt) : Type 0 where
    gives : avoids n s ≡ true → avoids h.iterator s ≡ true → Outcome end edge s
    pushes : avoids n s ≡ true → (h.domain ≡ OutNbrs) ⊎ Untold is_edge_read edges edge s → Outcome end edge s
    pulls : avoids h.iterator s ≡ true → (h.domain ≡ InNbrs) ⊎ (Untold is_edge_read edges edge s ⊎ ((h.domain ≡ OutNbrs) × Untold (reads_through h.iterator) ends end s)) → Outcome end edge s

  -- under a condition
  untold-if : (reads : Mention → Bool) (marked : ℕ → Bool) (around : Bool) (k : Key) (c : Expr) (a : Stmt) → is_flat (n ∷ h.iterator ∷ []) true c ≡ true → Untold reads marked (around || told_of ds n reads marked c) a → Untold reads marked around (If k c a Skip)
  untold-if reads marked around k c a f u =
      let r = none-either around (told_of ds n reads marked c) u.none in
      let ka = kept ds its n true a [] in
      let na = needs ds its n true a [] in
      let q = by (serves ds its n true [] (If k c a Skip)) (and-true (quiet reads c) (silent reads ka && true) (quiet-told ds n reads marked c r.1) (and-true (silent reads ka) true u.reads_none refl))
      (clear-both marked (told_in c) (na ++ []) (clear-told ds n reads marked its c f r.1) (clear-both marked na [] u.needs_none refl)) in
      record { none = r.0; reads_none = q.0; needs_none = q.1 }
    where
      by : (o : Bool) → silent reads (If k c (kept ds (n ∷ h.iterator ∷ []) n true a []) Skip) ≡ true → clear marked (told_in c ++ (needs ds (n ∷ h.iterator ∷ []) n true a [] ++ [])) ≡ true →
          (silent reads (cond o (If k c (kept ds (n ∷ h.iterator ∷ []) n true a []) Skip) Skip) ≡ true) × (clear marked (cond o (told_in c ++ (needs ds (n ∷ h.iterator ∷ []) n true a [] ++ [])) []) ≡ true)
      by true p q = (p, q)
      by false p q = (refl, refl)

  -- before nothing
  untold-then : (reads : Mention → Bool) (marked : ℕ → Bool) (around : Bool) (a : Stmt) → Untold reads marked around a → Untold reads marked around (Then a Skip)
  untold-then reads marked around a u = record { none = u.none; reads_none = and-true (silent reads (kept ds its n true a [])) true u.reads_none refl; needs_none = u.needs_none }

  -- the node variables of targets
  owners-clear : (reads : Mention → Bool) (marked : ℕ → Bool) (ts : List Target) → any (tells ds n reads marked) (flat_map owner_of ts) ≡ false → clear marked (sights_by sights_of_target ts).scalars ≡ true
  owners-clear reads marked [] q = refl
  owners-clear reads marked (T.Scalar x at ∷ ts) q = owners-clear reads marked ts q
  owners-clear reads marked (T.Property x p at ∷ ts) q =
      let r = none-either (tells ds n reads marked (Ways.Alone x)) (any (tells ds n reads marked) (flat_map owner_of ts)) q in
      and-true (not (marked x)) (clear marked (sights_by sights_of_target ts).scalars) (no-false (marked x) (none-either (reads (Ways.Alone x)) (marked x) r.0).1) (owners-clear reads marked ts r.1)

  -- a reduction that ends with the loop
  untold-combine : (reads : Mention → Bool) (marked : ℕ → Bool) (around : Bool) (k : Key) (total : TotalKey) (r : Reduce) (ts : List Target) (es : List Expr) → are_at_once ds n true ts ≡ false → list_all (is_flat (n ∷ h.iterator ∷ []) true) es ≡ true →
      around || parts_tell ds n h edges ends reads marked ts es ≡ false → Untold reads marked around (Combine k total r ts es)
  untold-combine reads marked around k total r ts es o f u =
      let v = none-either around (parts_tell ds n h edges ends reads marked ts es) u in
      let w = none-either (any (tells ds n reads marked) (flat_map owner_of ts)) (list_any (told_of ds n reads marked) es) v.1 in
      let own : clear marked (sights_of_targets ds n true ts).scalars ≡ true = ap (λ o. clear marked (sights_by (cond o sights_at_target sights_of_target) ts).scalars) o ∙ owners-clear reads marked ts w.0 in
      let said = clear-both marked (sights_of_targets ds n true ts).scalars (sights_in_all es).scalars own (all-clear ds n reads marked its es f w.1) in
      let q = by (serves ds its n true [] (Combine k total r ts es)) (all-quiet ds n reads marked es w.1) (clear-both marked (sights_of ds n true (Combine k total r ts es)).scalars [] said refl) in
      record { none = v.0; reads_none = q.0; needs_none = q.1 }
    where
      by : (o : Bool) → list_all (quiet reads) es ≡ true → clear marked ((sights_of ds n true (Combine k total r ts es)).scalars ++ []) ≡ true →
          (silent reads (cond o (Combine k total r ts es) Skip) ≡ true) × (clear marked (cond o ((sights_of ds n true (Combine k total r ts es)).scalars ++ []) []) ≡ true)
      by true p q = (p, q)
      by false p q = (refl, refl)

  avoids-if : (y : ℕ) (k : Key) (c : Expr) (a : Stmt) → avoids y a ≡ true → avoids y (If k c a Skip) ≡ true
  avoids-if y k c a p = and-true (avoids y a) true p refl

  outcome-if : (end edge : Bool) (k : Key) (c : Expr) (a : Stmt) → is_flat (n ∷ h.iterator ∷ []) true c ≡ true → Outcome (end || told_of ds n (reads_through h.iterator) ends c) (edge || told_of ds n is_edge_read edges c) a → Outcome end edge (If k c a Skip)
  outcome-if end edge k c a f (gives p q) = gives (avoids-if n k c a p) (avoids-if h.iterator k c a q)
  outcome-if end edge k c a f (pushes p o) = pushes (avoids-if n k c a p) (⊎_elim (λ d. inl d) (λ u. inr (untold-if is_edge_read edges edge k c a f u)) o)
  outcome-if end edge k c a f (pulls p o) =
      pulls (avoids-if h.iterator k c a p)
      (⊎_elim (λ d. inl d) (λ o. inr (⊎_elim (λ u. inl (untold-if is_edge_read edges edge k c a f u)) (λ (u : (h.domain ≡ OutNbrs) × Untold (reads_through h.iterator) ends (end || told_of ds n (reads_through h.iterator) ends c) a). inr (u.0, untold-if (reads_through h.iterator) ends end k c a f u.1)) o)) o)

  outcome-then : (end edge : Bool) (a : Stmt) → Outcome end edge a → Outcome end edge (Then a Skip)
  outcome-then end edge a (gives p q) = gives (and-true (avoids n a) true p refl) (and-true (avoids h.iterator a) true q refl)
  outcome-then end edge a (pushes p o) = pushes (and-true (avoids n a) true p refl) (⊎_elim (λ d. inl d) (λ u. inr (untold-then is_edge_read edges edge a u)) o)
  outcome-then end edge a (pulls p o) =
      pulls (and-true (avoids h.iterator a) true p refl)
      (⊎_elim (λ d. inl d) (λ o. inr (⊎_elim (λ u. inl (untold-then is_edge_read edges edge a u)) (λ (u : (h.domain ≡ OutNbrs) × Untold (reads_through h.iterator) ends end a). inr (u.0, untold-then (reads_through h.iterator) ends end a u.1)) o)) o)

  -- t: it is no outer node
  pub outcome : is_range false h.domain ≡ true → nat_eq h.iterator n ≡ false → (s : Stmt) (end edge : Bool) → is_lone s ≡ true → targets_alike s ≡ true → is_inner_body ds (n ∷ h.iterator ∷ []) true s ≡ true → goes_along ds n h edges ends end edge s ≡ true → Outcome end edge s
  outcome rg ne (Then a Skip) end edge l k g o =
      outcome-then end edge a
      (outcome rg ne a end edge l (both-true (targets_alike a) true k).0 (both-true (is_inner_body ds its true a) true g).0 (both-true (goes_along ds n h edges ends end edge a) true o).0)
  outcome rg ne (Then a b) end edge l k g o = absurd (both_ways false refl l)
  outcome rg ne (If key c a Skip) end edge l k g o =
      let p = both-true (is_flat its true c) (is_inner_body ds its true a && true) g in
      let e = edge || told_of ds n is_edge_read edges c in
      let f = end || told_of ds n (reads_through h.iterator) ends c in
      outcome-if end edge key c a p.0
      (outcome rg ne a f e l (both-true (targets_alike a) true k).0 (both-true (is_inner_body ds its true a) true p.1).0 (both-true (goes_along ds n h edges ends f e a) true o).0)
  outcome rg ne (If key c a b) end edge l k g o = absurd (both_ways false refl l)
  outcome rg ne (Combine key total r ts es) end edge l k g o = by (are_at_once ds n true ts) refl (any (is_through h.iterator) ts) refl (out-or-in h.domain rg) o
    where
      f : Bool
      f = end || parts_tell ds n h edges ends (reads_through h.iterator) ends ts es

      e : Bool
      e = edge || parts_tell ds n h edges ends is_edge_read edges ts es

      alike : are_alike ts ≡ true
      alike = (both-true (are_alike ts) (are_distinct (variables_of ts)) k).0

      flat : list_all (is_flat (n ∷ h.iterator ∷ []) true) es ≡ true
      flat = (both-true (Forms.are_reduced (Forms.is_inner_given ds) (Forms.is_within ds 2) r ts) (list_all (is_flat (n ∷ h.iterator ∷ []) true) es) g).1

      by : (b : Bool) → are_at_once ds n true ts ≡ b → (p : Bool) → any (is_through h.iterator) ts ≡ p → ((h.domain ≡ OutNbrs) ⊎ (h.domain ≡ InNbrs)) → are_at_once ds n true ts || stands ds n h edges ends ts f e ≡ true → Outcome end edge (Combine key total r ts es)
      by true a p q d o = gives (off-once ds n n ts a) (off-once ds n h.iterator ts a)
      by false a true q (inl d) o = pushes (all-through n h.iterator ts ne alike q) (inl d)
      by false a true q (inr d) o =
          pushes (all-through n h.iterator ts ne alike q) (inr (untold-combine is_edge_read edges edge key total r ts es a flat (push-against ts f e h d q (sym (ap (λ b. b || stands ds n h edges ends ts f e) a) ∙ o))))
      by false a false q (inr d) o = pulls (none-through h.iterator ts q) (inl d)
      by false a false q (inl d) o =
          pulls (none-through h.iterator ts q)
          (inr (⊎_elim (λ u. inl (untold-combine is_edge_read edges edge key total r ts es a flat u)) (λ u. inr (d, untold-combine (reads_through h.iterator) ends end key total r ts es a flat u))
          (pull-against ts f e h d q (sym (ap (λ b. b || stands ds n h edges ends ts f e) a) ∙ o))))
  outcome rg ne s end edge l k g o = gives refl refl
