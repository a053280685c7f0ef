-- What is known of a body whose local is kept in a property of the loop's node.
use Rattle.std.proofs.Common.{◌≡◌, ◌<◌, ◌≤◌, arith, ℕ, Bool, true, false, cond, List, [], ◌∷◌, ◌++◌, map, refl, sym, ap, subst, ◌∙◌, Option, Some, None, ◌⊎◌, ⊎_elim, inl, inr}
use Rattle.std.specs.Prelude.{◌&&◌, ◌||◌, not, nat_eq, nat_lt, nat_le}
use Rattle.std.specs.List.{list_all}
use Rattle.std.proofs.lemmas.Bool.{both_ways, eq-eqb, eqb-true}
use Rattle.gm_base.specs.declared.places.Place.{Place}
use Rattle.gm_value.specs.declared.values.Value.{Value}
use Rattle.gm_value.specs.declared.values.VType.{VType}
use Rattle.gm_value.specs.declared.values.VType.TheVariants as V
use Rattle.gm_value.specs.declared.reductions.Reduce.{Reduce}
use Rattle.gm_value.specs.Numbers.{zero_of}
use Rattle.gm_value.specs.Operations.{is_numeric, same_type, fits2, type1, type2}
use Rattle.gm_value.specs.Reductions.{reduces}
use Rattle.gm_ast.specs.declared.tree.Declaration.{Declaration}
use Rattle.gm_ast.specs.declared.tree.Key.{Key}
use Rattle.gm_ast.specs.declared.tree.Target.{Target}
use Rattle.gm_ast.specs.declared.tree.Target.TheVariants as T
use Rattle.gm_ast.specs.Ways.{is_in}
use Rattle.gm_ast.specs.Program.{Expr, Const, Var, Property, Unary, Binary, Both, Either, Choose, Stmt, Then, Declare, Assign, Defer, Combine, Foreach, If}
use Rattle.gm_forms.specs.Forms.{depth_at, may, is_flat, is_within, is_own, is_given, is_inner_local, is_inner_given, is_inner_head, are_reduced, is_inner_body, is_outer_body}
use Rattle.gm_forms.specs.Typing.{type_at, type_if, by_one, is_type, type_in, has_type, target_type, all_have_types, keeps_tuples, fits_targets, is_typed_in, takes1}
use Rattle.gm_forms.specs.Uses.{Owner, NodeValue, Told, Written, Use, use_as, suits, uses_in, uses_in_option, uses_in_all, uses_of_head, uses_of_target, uses_of_targets, uses_of_declared, uses_of}
use Rattle.gm_forms.proofs.Named.{both-true, all-append}
use Rattle.gm_loop_laws.specs.Localised.{moved_in, moved_target, moved_declared, moved}
use Rattle.gm_dissect.proofs.Undeferred.{append-true, two-same}

-- a first value has its type
zero-typed : (ds : List Declaration) (t : VType) → has_type ds t (Const (zero_of t)) ≡ true
zero-typed ds V.I32 = refl
zero-typed ds V.I64 = refl
zero-typed ds V.Flag = refl
zero-typed ds V.Node = refl

-- dt: the table; x: the local; q: its property; n: the iterator; t: the local's type
module _ (dt : List Declaration) (x q n : ℕ) (at : Place) (t : VType) where
  abbrev mi : Expr → Expr
  mi e = moved_in x q n at (zero_of t) e

  abbrev mt : Target → Target
  mt o = moved_target x q n at (zero_of t) o

  abbrev mv : Stmt → Stmt
  mv s = moved x q n at (zero_of t) s

  abbrev Suit : List Use → Type 0
  Suit us = list_all (suits dt) us ≡ true

  -- names
  module _ (owner : Suit (use_as Owner n)) (property : Suit (use_as NodeValue q)) where
    reads : Suit (use_as Owner n ++ use_as NodeValue q)
    reads = append-true (suits dt) (use_as Owner n) (use_as NodeValue q) owner property

    pub named-in : (e : Expr) → Suit (uses_in e) → Suit (uses_in (mi e))
    named-in (Var y p) h = by (nat_eq y x)
      where
        by : (c : Bool) → Suit (uses_in (cond c (Property n q p) (Var y p)))
        by true = reads
        by false = h
    named-in (Unary op p e) h = named-in e h
    named-in (Binary op p a b) h = let r = all-append (suits dt) (uses_in a) (uses_in b) h in append-true (suits dt) (uses_in (mi a)) (uses_in (mi b)) (named-in a r.0) (named-in b r.1)
    named-in (Both a b) h = let r = all-append (suits dt) (uses_in a) (uses_in b) h in append-true (suits dt) (uses_in (mi a)) (uses_in (mi b)) (named-in a r.0) (named-in b r.1)
    named-in (Either a b) h = let r = all-append (suits dt) (uses_in a) (uses_in b) h in append-true (suits dt) (uses_in (mi a)) (uses_in (mi b)) (named-in a r.0) (named-in b r.1)
    named-in (Choose c a b) h =
        let r = all-append (suits dt) (uses_in c) (uses_in a ++ uses_in b) h in
        let s = all-append (suits dt) (uses_in a) (uses_in b) r.1 in
        append-true (suits dt) (uses_in (mi c)) (uses_in (mi a) ++ uses_in (mi b)) (named-in c r.0) (append-true (suits dt) (uses_in (mi a)) (uses_in (mi b)) (named-in a s.0) (named-in b s.1))
    named-in e h = h

    named-all : (es : List Expr) → Suit (uses_in_all es) → Suit (uses_in_all (map mi es))
    named-all [] h = refl
    named-all (e ∷ es) h = let r = all-append (suits dt) (uses_in e) (uses_in_all es) h in append-true (suits dt) (uses_in (mi e)) (uses_in_all (map mi es)) (named-in e r.0) (named-all es r.1)

    named-target : (o : Target) → Suit (uses_of_target o) → Suit (uses_of_target (mt o))
    named-target (T.Scalar y p) h = by (nat_eq y x)
      where
        by : (c : Bool) → Suit (uses_of_target (cond c (T.Property n q p) (T.Scalar y p)))
        by true = reads
        by false = h
    named-target (T.Property y r p) h = h

    named-targets : (os : List Target) → Suit (uses_of_targets os) → Suit (uses_of_targets (map mt os))
    named-targets [] h = refl
    named-targets (o ∷ os) h = let r = all-append (suits dt) (uses_of_target o) (uses_of_targets os) h in append-true (suits dt) (uses_of_target (mt o)) (uses_of_targets (map mt os)) (named-target o r.0) (named-targets os r.1)

    named-declared : (k : Key) (y : ℕ) (e : Option Expr) → Suit (uses_of_declared y e) → Suit (uses_of (moved_declared x q n at (zero_of t) k y e))
    named-declared k y None h = by (nat_eq y x)
      where
        by : (c : Bool) → Suit (uses_of (cond c (Assign k (T.Property n q at) (Const (zero_of t))) (Declare k y None)))
        by true = append-true (suits dt) (use_as Owner n ++ use_as NodeValue q) [] reads refl
        by false = h
    named-declared k y (Some e) h = by (nat_eq y x) (all-append (suits dt) (use_as Written y) (uses_in e) h)
      where
        by : (c : Bool) → Suit (use_as Written y) × Suit (uses_in e) → Suit (uses_of (cond c (Assign k (T.Property n q at) (mi e)) (Declare k y (Some (mi e)))))
        by true r = append-true (suits dt) (use_as Owner n ++ use_as NodeValue q) (uses_in (mi e)) reads (named-in e r.1)
        by false r = append-true (suits dt) (use_as Written y) (uses_in (mi e)) r.0 (named-in e r.1)

    pub named-moved : (s : Stmt) → Suit (uses_of s) → Suit (uses_of (mv s))
    named-moved (Then a b) h = let r = all-append (suits dt) (uses_of a) (uses_of b) h in append-true (suits dt) (uses_of (mv a)) (uses_of (mv b)) (named-moved a r.0) (named-moved b r.1)
    named-moved (Declare k y e) h = named-declared k y e h
    named-moved (Assign k o e) h = let r = all-append (suits dt) (uses_of_target o) (uses_in e) h in append-true (suits dt) (uses_of_target (mt o)) (uses_in (mi e)) (named-target o r.0) (named-in e r.1)
    named-moved (Defer k o e) h = let r = all-append (suits dt) (uses_of_target o) (uses_in e) h in append-true (suits dt) (uses_of_target o) (uses_in (mi e)) r.0 (named-in e r.1)
    named-moved (Combine k total op os es) h =
        let r = all-append (suits dt) (uses_of_targets os) (uses_in_all es) h in append-true (suits dt) (uses_of_targets (map mt os)) (uses_in_all (map mi es)) (named-targets os r.0) (named-all es r.1)
    named-moved (If k c a b) h =
        let r = all-append (suits dt) (uses_in c) (uses_of a ++ uses_of b) h in
        let s = all-append (suits dt) (uses_of a) (uses_of b) r.1 in
        append-true (suits dt) (uses_in (mi c)) (uses_of (mv a) ++ uses_of (mv b)) (named-in c r.0) (append-true (suits dt) (uses_of (mv a)) (uses_of (mv b)) (named-moved a s.0) (named-moved b s.1))
    named-moved (Foreach k p hd test body) h =
        let r = all-append (suits dt) (uses_of_head hd) (uses_in test ++ uses_of body) h in
        let s = all-append (suits dt) (uses_in test) (uses_of body) r.1 in
        append-true (suits dt) (uses_of_head hd) (uses_in (mi test) ++ uses_of (mv body)) r.0 (append-true (suits dt) (uses_in (mi test)) (uses_of (mv body)) (named-in test s.0) (named-moved body s.1))
    named-moved s h = h

  -- types
  module _ (types : type_at dt q ≡ type_at dt x) (is : type_at dt x ≡ t) where
    same-at : (y : ℕ) → nat_eq y x ≡ true → type_at dt q ≡ type_at dt y
    same-at y e = types ∙ ap (type_at dt) (sym (eqb-true y x e))

    pub type-moved : (e : Expr) → type_in dt (mi e) ≡ type_in dt e
    type-moved (Var y p) = by (nat_eq y x) refl
      where
        by : (c : Bool) → nat_eq y x ≡ c → type_in dt (cond c (Property n q p) (Var y p)) ≡ Some (type_at dt y)
        by true e = ap Some (same-at y e)
        by false e = refl
    type-moved (Unary op p e) = ap (λ u. by_one u (λ v. type_if (takes1 op v) (type1 op v))) (type-moved e)
    type-moved (Binary op p a b) = two-same (λ u w. by_one u (λ v. by_one w (λ y. type_if (fits2 op v y) (type2 op v)))) (type_in dt (mi a)) (type_in dt (mi b)) (type_in dt a) (type_in dt b) (type-moved a) (type-moved b)
    type-moved (Both a b) = two-same (λ u w. type_if (is_type V.Flag u && is_type V.Flag w) V.Flag) (type_in dt (mi a)) (type_in dt (mi b)) (type_in dt a) (type_in dt b) (type-moved a) (type-moved b)
    type-moved (Either a b) = two-same (λ u w. type_if (is_type V.Flag u && is_type V.Flag w) V.Flag) (type_in dt (mi a)) (type_in dt (mi b)) (type_in dt a) (type_in dt b) (type-moved a) (type-moved b)
    type-moved (Choose c a b) =
        ap (λ z. by_one (type_in dt (mi a)) (λ v. type_if (is_type V.Flag z && is_type v (type_in dt (mi b))) v)) (type-moved c)
        ∙ two-same (λ u w. by_one u (λ v. type_if (is_type V.Flag (type_in dt c) && is_type v w) v)) (type_in dt (mi a)) (type_in dt (mi b)) (type_in dt a) (type_in dt b) (type-moved a) (type-moved b)
    type-moved e = refl

    pub has-type-moved : (u : VType) (e : Expr) → has_type dt u (mi e) ≡ has_type dt u e
    has-type-moved u e = ap (is_type u) (type-moved e)

    target-type-moved : (o : Target) → target_type dt (mt o) ≡ target_type dt o
    target-type-moved (T.Scalar y p) = by (nat_eq y x) refl
      where
        by : (c : Bool) → nat_eq y x ≡ c → target_type dt (cond c (T.Property n q p) (T.Scalar y p)) ≡ type_at dt y
        by true e = same-at y e
        by false e = refl
    target-type-moved (T.Property y r p) = refl

    values-moved : (os : List Target) (es : List Expr) → all_have_types dt (map mt os) (map mi es) ≡ all_have_types dt os es
    values-moved [] [] = refl
    values-moved [] (e ∷ es) = refl
    values-moved (o ∷ os) [] = refl
    values-moved (o ∷ os) (e ∷ es) =
        two-same (λ a b. a && b) (has_type dt (target_type dt (mt o)) (mi e)) (all_have_types dt (map mt os) (map mi es)) (has_type dt (target_type dt o) e) (all_have_types dt os es)
        (ap (λ u. has_type dt u (mi e)) (target-type-moved o) ∙ has-type-moved (target_type dt o) e) (values-moved os es)

    fits-moved : (r : Reduce) (os : List Target) → fits_targets dt r (map mt os) ≡ fits_targets dt r os
    fits-moved r [] = refl
    fits-moved r (o ∷ []) = ap (reduces r) (target-type-moved o)
    fits-moved r (o ∷ (u ∷ os)) = ap (λ v. keeps_tuples r && is_numeric v) (target-type-moved o)

    declared-typed : (res : Option VType) (k : Key) (y : ℕ) (e : Option Expr) → is_typed_in dt res (moved_declared x q n at (zero_of t) k y e) ≡ is_typed_in dt res (Declare k y e)
    declared-typed res k y None = by (nat_eq y x)
      where
        by : (c : Bool) → is_typed_in dt res (cond c (Assign k (T.Property n q at) (Const (zero_of t))) (Declare k y None)) ≡ true
        by true = ap (λ u. has_type dt u (Const (zero_of t))) (types ∙ is) ∙ zero-typed dt t
        by false = refl
    declared-typed res k y (Some e) = by (nat_eq y x) refl
      where
        by : (c : Bool) → nat_eq y x ≡ c → is_typed_in dt res (cond c (Assign k (T.Property n q at) (mi e)) (Declare k y (Some (mi e)))) ≡ has_type dt (type_at dt y) e
        by true i = ap (λ u. has_type dt u (mi e)) (same-at y i) ∙ has-type-moved (type_at dt y) e
        by false i = has-type-moved (type_at dt y) e

    pub typed-moved : (res : Option VType) (s : Stmt) → is_typed_in dt res (mv s) ≡ is_typed_in dt res s
    typed-moved res (Then a b) = two-same (λ y z. y && z) (is_typed_in dt res (mv a)) (is_typed_in dt res (mv b)) (is_typed_in dt res a) (is_typed_in dt res b) (typed-moved res a) (typed-moved res b)
    typed-moved res (Declare k y e) = declared-typed res k y e
    typed-moved res (Assign k o e) = ap (λ u. has_type dt u (mi e)) (target-type-moved o) ∙ has-type-moved (target_type dt o) e
    typed-moved res (Defer k o e) = has-type-moved (target_type dt o) e
    typed-moved res (Combine k total op os es) = two-same (λ y z. y && z) (all_have_types dt (map mt os) (map mi es)) (fits_targets dt op (map mt os)) (all_have_types dt os es) (fits_targets dt op os) (values-moved os es) (fits-moved op os)
    typed-moved res (If k c a b) =
        two-same (λ y z. y && z) (has_type dt V.Flag (mi c)) (is_typed_in dt res (mv a) && is_typed_in dt res (mv b)) (has_type dt V.Flag c) (is_typed_in dt res a && is_typed_in dt res b) (has-type-moved V.Flag c)
        (two-same (λ y z. y && z) (is_typed_in dt res (mv a)) (is_typed_in dt res (mv b)) (is_typed_in dt res a) (is_typed_in dt res b) (typed-moved res a) (typed-moved res b))
    typed-moved res (Foreach k p hd test body) =
        two-same (λ y z. y && z) (has_type dt V.Flag (mi test)) (is_typed_in dt res (mv body)) (has_type dt V.Flag test) (is_typed_in dt res body) (has-type-moved V.Flag test) (typed-moved res body)
    typed-moved res s = refl

  -- a test of targets that takes the local and its property for the same
  pub target-moved : (f : Target → Bool) (b : Bool) → ((p : Place) → f (T.Property n q p) ≡ b) → ((y : ℕ) (p : Place) → nat_eq y x ≡ true → f (T.Scalar y p) ≡ b) → (o : Target) → f (mt o) ≡ f o
  target-moved f b g h (T.Scalar y p) = by (nat_eq y x) refl
    where
      by : (c : Bool) → nat_eq y x ≡ c → f (cond c (T.Property n q p) (T.Scalar y p)) ≡ f (T.Scalar y p)
      by true e = g p ∙ sym (h y p e)
      by false e = refl
  target-moved f b g h (T.Property y r p) = refl

  pub all-targets : (f : Target → Bool) → ((o : Target) → f (mt o) ≡ f o) → (os : List Target) → list_all f (map mt os) ≡ list_all f os
  all-targets f e [] = refl
  all-targets f e (o ∷ os) = two-same (λ a b. a && b) (f (mt o)) (list_all f (map mt os)) (f o) (list_all f os) (e o) (all-targets f e os)

  -- forms
  module _ (deep : nat_eq (depth_at dt x) 1 ≡ true) where
    pub at-depth : {A : Type 0} (f : ℕ → A) (y : ℕ) → nat_eq y x ≡ true → f (depth_at dt y) ≡ f 1
    at-depth f y e = ap (λ z. f (depth_at dt z)) (eqb-true y x e) ∙ ap f (eqb-true (depth_at dt x) 1 deep)

    pub itself : nat_eq n n ≡ true
    itself = eq-eqb n n refl

    pub flat-moved : (its : List ℕ) (edge : Bool) → is_in its n ≡ true → (e : Expr) → is_flat its edge (mi e) ≡ is_flat its edge e
    flat-moved its edge i (Var y p) = by (nat_eq y x)
      where
        by : (c : Bool) → is_flat its edge (cond c (Property n q p) (Var y p)) ≡ true
        by true = i
        by false = refl
    flat-moved its edge i (Unary op p e) = flat-moved its edge i e
    flat-moved its edge i (Binary op p a b) = two-same (λ y z. y && z) (is_flat its edge (mi a)) (is_flat its edge (mi b)) (is_flat its edge a) (is_flat its edge b) (flat-moved its edge i a) (flat-moved its edge i b)
    flat-moved its edge i (Both a b) = two-same (λ y z. y && z) (is_flat its edge (mi a)) (is_flat its edge (mi b)) (is_flat its edge a) (is_flat its edge b) (flat-moved its edge i a) (flat-moved its edge i b)
    flat-moved its edge i (Either a b) = two-same (λ y z. y && z) (is_flat its edge (mi a)) (is_flat its edge (mi b)) (is_flat its edge a) (is_flat its edge b) (flat-moved its edge i a) (flat-moved its edge i b)
    flat-moved its edge i (Choose c a b) =
        two-same (λ y z. y && z) (is_flat its edge (mi c)) (is_flat its edge (mi a) && is_flat its edge (mi b)) (is_flat its edge c) (is_flat its edge a && is_flat its edge b) (flat-moved its edge i c)
        (two-same (λ y z. y && z) (is_flat its edge (mi a)) (is_flat its edge (mi b)) (is_flat its edge a) (is_flat its edge b) (flat-moved its edge i a) (flat-moved its edge i b))
    flat-moved its edge i e = refl

    all-flat : (its : List ℕ) (edge : Bool) → is_in its n ≡ true → (es : List Expr) → list_all (is_flat its edge) (map mi es) ≡ list_all (is_flat its edge) es
    all-flat its edge i [] = refl
    all-flat its edge i (e ∷ es) = two-same (λ y z. y && z) (is_flat its edge (mi e)) (list_all (is_flat its edge) (map mi es)) (is_flat its edge e) (list_all (is_flat its edge) es) (flat-moved its edge i e) (all-flat its edge i es)

    own-moved : (o : Target) → is_own dt n (mt o) ≡ is_own dt n o
    own-moved = target-moved (is_own dt n) true (λ p. itself) (λ y p e. at-depth (λ d. nat_eq d 1) y e)

    given-moved : (o : Target) → is_given dt n (mt o) ≡ is_given dt n o
    given-moved = target-moved (is_given dt n) false (λ p. ap not itself) (λ y p e. at-depth (λ d. nat_eq d 0) y e)

    within-moved : (w : ℕ) → nat_le 1 w ≡ true → (o : Target) → is_within dt w (mt o) ≡ is_within dt w o
    within-moved w l = target-moved (is_within dt w) true (λ p. refl) (λ y p e. at-depth (λ d. nat_le d w) y e ∙ l)

    local-moved : (o : Target) → is_inner_local dt (mt o) ≡ is_inner_local dt o
    local-moved = target-moved (is_inner_local dt) false (λ p. refl) (λ y p e. at-depth (λ d. nat_eq d 2) y e)

    inner-given-moved : (o : Target) → is_inner_given dt (mt o) ≡ is_inner_given dt o
    inner-given-moved = target-moved (is_inner_given dt) true (λ p. refl) (λ y p e. at-depth (λ d. nat_lt d 2) y e)

    reduced-to-moved : (f : Target → Bool) (w : ℕ) (r : Reduce) (os : List Target) → ((o : Target) → f (mt o) ≡ f o) → nat_le 1 w ≡ true → are_reduced f (is_within dt w) r (map mt os) ≡ are_reduced f (is_within dt w) r os
    reduced-to-moved f w r os e l =
        ap (λ b. b || (keeps_tuples r && list_all (is_within dt w) (map mt os))) (all-targets f e os) ∙ ap (λ b. list_all f os || (keeps_tuples r && b)) (all-targets (is_within dt w) (within-moved w l) os)

    inner-declared : (its : List ℕ) (edge : Bool) → is_in its n ≡ true → (k : Key) (y : ℕ) (e : Option Expr) → is_inner_body dt its edge (moved_declared x q n at (zero_of t) k y e) ≡ is_inner_body dt its edge (Declare k y e)
    inner-declared its edge i k y None = by (nat_eq y x) refl
      where
        by : (c : Bool) → nat_eq y x ≡ c → is_inner_body dt its edge (cond c (Assign k (T.Property n q at) (Const (zero_of t))) (Declare k y None)) ≡ nat_eq (depth_at dt y) 2 && true
        by true e = sym (at-depth (λ d. nat_eq d 2 && true) y e)
        by false e = refl
    inner-declared its edge i k y (Some e) = by (nat_eq y x) refl
      where
        by : (c : Bool) → nat_eq y x ≡ c → is_inner_body dt its edge (cond c (Assign k (T.Property n q at) (mi e)) (Declare k y (Some (mi e)))) ≡ nat_eq (depth_at dt y) 2 && is_flat its edge e
        by true j = sym (at-depth (λ d. nat_eq d 2 && is_flat its edge e) y j)
        by false j = ap (λ b. nat_eq (depth_at dt y) 2 && b) (flat-moved its edge i e)

    pub inner-moved : (its : List ℕ) (edge : Bool) → is_in its n ≡ true → (s : Stmt) → is_inner_body dt its edge (mv s) ≡ is_inner_body dt its edge s
    inner-moved its edge i (Then a b) = two-same (λ y z. y && z) (is_inner_body dt its edge (mv a)) (is_inner_body dt its edge (mv b)) (is_inner_body dt its edge a) (is_inner_body dt its edge b) (inner-moved its edge i a) (inner-moved its edge i b)
    inner-moved its edge i (Declare k y e) = inner-declared its edge i k y e
    inner-moved its edge i (Assign k o e) = two-same (λ y z. y && z) (is_inner_local dt (mt o)) (is_flat its edge (mi e)) (is_inner_local dt o) (is_flat its edge e) (local-moved o) (flat-moved its edge i e)
    inner-moved its edge i (Combine k total r os es) =
        two-same (λ y z. y && z) (are_reduced (is_inner_given dt) (is_within dt 2) r (map mt os)) (list_all (is_flat its edge) (map mi es)) (are_reduced (is_inner_given dt) (is_within dt 2) r os) (list_all (is_flat its edge) es)
        (reduced-to-moved (is_inner_given dt) 2 r os inner-given-moved refl) (all-flat its edge i es)
    inner-moved its edge i (If k c a b) =
        two-same (λ y z. y && z) (is_flat its edge (mi c)) (is_inner_body dt its edge (mv a) && is_inner_body dt its edge (mv b)) (is_flat its edge c) (is_inner_body dt its edge a && is_inner_body dt its edge b) (flat-moved its edge i c)
        (two-same (λ y z. y && z) (is_inner_body dt its edge (mv a)) (is_inner_body dt its edge (mv b)) (is_inner_body dt its edge a) (is_inner_body dt its edge b) (inner-moved its edge i a) (inner-moved its edge i b))
    inner-moved its edge i s = refl

    here : (ys : List ℕ) → is_in (n ∷ ys) n ≡ true
    here ys = ap (λ b. b || is_in ys n) itself

    outer-declared : (k : Key) (y : ℕ) (e : Option Expr) → is_outer_body dt false n (moved_declared x q n at (zero_of t) k y e) ≡ is_outer_body dt false n (Declare k y e)
    outer-declared k y None = by (nat_eq y x) refl
      where
        by : (c : Bool) → nat_eq y x ≡ c → is_outer_body dt false n (cond c (Assign k (T.Property n q at) (Const (zero_of t))) (Declare k y None)) ≡ nat_eq (depth_at dt y) 1 && true
        by true e = ap (λ b. b && true) itself ∙ sym (at-depth (λ d. nat_eq d 1 && true) y e)
        by false e = refl
    outer-declared k y (Some e) = by (nat_eq y x) refl
      where
        by : (c : Bool) → nat_eq y x ≡ c → is_outer_body dt false n (cond c (Assign k (T.Property n q at) (mi e)) (Declare k y (Some (mi e)))) ≡ nat_eq (depth_at dt y) 1 && is_flat (n ∷ []) false e
        by true j = ap (λ b. b && is_flat (n ∷ []) false (mi e)) itself ∙ flat-moved (n ∷ []) false (here []) e ∙ sym (at-depth (λ d. nat_eq d 1 && is_flat (n ∷ []) false e) y j)
        by false j = ap (λ b. nat_eq (depth_at dt y) 1 && b) (flat-moved (n ∷ []) false (here []) e)

    pub outer-moved : (s : Stmt) → is_outer_body dt false n (mv s) ≡ is_outer_body dt false n s
    outer-moved (Then a b) = two-same (λ y z. y && z) (is_outer_body dt false n (mv a)) (is_outer_body dt false n (mv b)) (is_outer_body dt false n a) (is_outer_body dt false n b) (outer-moved a) (outer-moved b)
    outer-moved (Declare k y e) = outer-declared k y e
    outer-moved (Assign k o e) = two-same (λ y z. y && z) (is_own dt n (mt o)) (is_flat (n ∷ []) false (mi e)) (is_own dt n o) (is_flat (n ∷ []) false e) (own-moved o) (flat-moved (n ∷ []) false (here []) e)
    outer-moved (Defer k (T.Scalar y p) e) = refl
    outer-moved (Defer k (T.Property y r p) e) = ap (λ b. nat_eq y n && b) (flat-moved (n ∷ []) false (here []) e)
    outer-moved (Combine k total r os es) =
        two-same (λ y z. y && z) (are_reduced (is_given dt n) (is_within dt 1) r (map mt os)) (list_all (is_flat (n ∷ []) false) (map mi es)) (are_reduced (is_given dt n) (is_within dt 1) r os) (list_all (is_flat (n ∷ []) false) es)
        (reduced-to-moved (is_given dt n) 1 r os given-moved refl) (all-flat (n ∷ []) false (here []) es)
    outer-moved (If k c a b) =
        two-same (λ y z. y && z) (is_flat (n ∷ []) false (mi c)) (is_outer_body dt false n (mv a) && is_outer_body dt false n (mv b)) (is_flat (n ∷ []) false c) (is_outer_body dt false n a && is_outer_body dt false n b)
        (flat-moved (n ∷ []) false (here []) c)
        (two-same (λ y z. y && z) (is_outer_body dt false n (mv a)) (is_outer_body dt false n (mv b)) (is_outer_body dt false n a) (is_outer_body dt false n b) (outer-moved a) (outer-moved b))
    outer-moved (Foreach k p hd test body) =
        let its = n ∷ hd.iterator ∷ [] in
        ap (λ b. is_inner_head false n hd && b)
        (two-same (λ y z. y && z) (is_flat its true (mi test)) (is_inner_body dt its true (mv body)) (is_flat its true test) (is_inner_body dt its true body) (flat-moved its true (here (hd.iterator ∷ [])) test) (inner-moved its true (here (hd.iterator ∷ [])) body))
    outer-moved s = refl
