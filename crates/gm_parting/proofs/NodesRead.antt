-- Bodies that read nodes first: what is known of the parts.
use Rattle.std.proofs.Common.{◌⊎◌, ◌≡◌, ◌<◌, ◌≤◌, ◌+◌, arith, ℕ, Bool, true, false, cond, List, [], ◌∷◌, ◌++◌, length, map, refl, sym, ap, subst, ◌∙◌, Option, Some, None}
use Rattle.std.specs.Prelude.{◌&&◌, ◌||◌, nat_eq, nat_lt}
use Rattle.std.specs.List.{list_all}
use Rattle.std.proofs.lemmas.Bool.{both_ways, eq-eqb, eqb-true, lt-ltb, ltb-true}
use Rattle.gm_base.specs.declared.places.Place.{Place}
use Rattle.gm_value.specs.Bag.{IsIn}
use Rattle.gm_value.specs.declared.reductions.Reduce.{Reduce}
use Rattle.gm_value.specs.declared.values.VType.{VType}
use Rattle.gm_value.specs.declared.values.VType.TheVariants as V
use Rattle.gm_value.specs.Operations.{is_numeric}
use Rattle.gm_value.specs.Reductions.{reduces}
use Rattle.gm_ast.specs.declared.tree.Declaration.{Declaration}
use Rattle.gm_ast.specs.declared.tree.Head.{Head}
use Rattle.gm_ast.specs.declared.tree.Key.{Key}
use Rattle.gm_ast.specs.declared.tree.Sort.{Sort}
use Rattle.gm_ast.specs.declared.tree.Sort.TheVariants as Sorts
use Rattle.gm_ast.specs.declared.tree.Target.{Target}
use Rattle.gm_ast.specs.declared.tree.Target.TheVariants as T
use Rattle.gm_ast.specs.declared.tree.TotalKey.{TotalKey}
use Rattle.gm_ast.specs.declared.tree.Variable.{Variable}
use Rattle.gm_ast.specs.Names.{sort_eq, is_node_type}
use Rattle.gm_ast.specs.Program.{Expr, Var, always, Stmt, Skip, Then, Declare, Combine, Foreach, If, sequence}
use Rattle.gm_semantics.specs.Statements.{variable_at}
use Rattle.gm_forms.specs.Forms.{depth_at, is_inner_body}
use Rattle.gm_forms.specs.Order.{faults_of, body_in_order}
use Rattle.gm_forms.specs.Sharing.{sights_of, written, reduced, deferred, inners_share, is_through, are_alike, are_distinct, variables_of, targets_alike}
use Rattle.gm_forms.specs.Typing.{type_at, is_type, has_type, target_type, all_have_types, fits_targets, keeps_tuples, is_typed_in}
use Rattle.gm_forms.specs.Uses.{Role, Written, Told, Owner, NodeValue, has_role, use_as, suits, uses_in, uses_in_all, uses_of_head, uses_of_targets, uses_of}
use Rattle.gm_forms.proofs.Named.{both-true, all-append}
use Rattle.gm_forms.proofs.Weaker.{and-true}
use Rattle.gm_dissect.proofs.Undeferred.{append-true}
use Rattle.gm_parting.specs.Nodes.{separate, is_body_local, node_before, through, read_first, one_if, nodes_in, nodes_read, node_local}

-- ds: the table; dt: a longer one. A fresh local that holds a node, inside so many loops
pub record Row (ds dt : List Declaration) (d y : ℕ) : Type 0 where
  pub high : length ds ≤ y
  pub inside : y < length dt
  pub is : variable_at dt y ≡ (node_local d).variable

-- a local of the outer body
pub record Local (ds : List Declaration) (x : ℕ) : Type 0 where
  pub low : x < length ds
  pub local : is_body_local ds x ≡ true

-- a part of an inner body, and another that may stand for it: it has the same faults in the same order, and reads, writes and reduces the same, but for what is new
pub record Replaces (ds dt : List Declaration) (s t : Stmt) : Type 0 where
  pub named : list_all (suits dt) (uses_of s) ≡ true → list_all (suits dt) (uses_of t) ≡ true
  pub typed : (res : Option VType) → is_typed_in dt res s ≡ true → is_typed_in dt res t ≡ true
  pub faults : (its : List ℕ) → faults_of its t ≡ faults_of its s
  pub order : (its : List ℕ) → body_in_order its s ≡ true → body_in_order its t ≡ true
  pub form : (its : List ℕ) → is_inner_body dt its true s ≡ true → is_inner_body dt its true t ≡ true
  pub told : (n : ℕ) (inner : Bool) (z : ℕ) → IsIn z (sights_of dt n inner t).scalars → IsIn z (sights_of dt n inner s).scalars ⊎ (length ds ≤ z)
  pub properties : (n : ℕ) (inner : Bool) → (sights_of dt n inner t).properties ≡ (sights_of dt n inner s).properties
  pub written : (n : ℕ) (inner : Bool) (z : ℕ) → IsIn z (written dt n inner t) → IsIn z (written dt n inner s) ⊎ (length ds ≤ z)
  pub reduced : (n : ℕ) (inner : Bool) → reduced dt n inner t ≡ reduced dt n inner s
  pub deferred : deferred t ≡ deferred s
  pub alike : targets_alike t ≡ targets_alike s
  pub inners : (n : ℕ) → inners_share dt n t ≡ inners_share dt n s

-- a part of a body, and the same where nodes are read first, or where parts of inner bodies are replaced
pub data Reads (ds dt : List Declaration) : ℕ → Stmt → Stmt → Type 0 where
  as_it_is : (d : ℕ) (s : Stmt) → Reads ds dt d s s
  in_turn : (d : ℕ) (a a' b b' : Stmt) → Reads ds dt d a a' → Reads ds dt d b b' → Reads ds dt d (Then a b) (Then a' b')
  branches : (d : ℕ) (k : Key) (c : Expr) (a a' b b' : Stmt) → Reads ds dt d a a' → Reads ds dt d b b' → Reads ds dt d (If k c a b) (If k c a' b')
  within : (d : ℕ) (k : Key) (at : Place) (h : Head) (test : Expr) (body body' : Stmt) → Reads ds dt 2 body body' → Reads ds dt d (Foreach k at h test body) (Foreach k at h test body')
  set_apart : (d : ℕ) (k : Key) (s s' : Stmt) → Reads ds dt d s s' → Reads ds dt d s (If k always s' Skip)
  replaced : (d : ℕ) (s s' : Stmt) → (d ≡ 1 → ⊥) → Replaces ds dt s s' → Reads ds dt d s s'
  first : (d y x : ℕ) (k : Key) (at : Place) (total : TotalKey) (o : Reduce) (ts : List Target) (es : List Expr) → Row ds dt d y → Local ds x → list_all (is_through x) ts ≡ true → (ts ≡ [] → ⊥) →
      Reads ds dt d (Combine k total o ts es) (sequence (Declare k y (Some (Var x at)) ∷ Combine k total o (map (through y) ts) es ∷ []))

abbrev is_some : List Target → Bool
is_some [] = false
is_some (t ∷ ts) = true

-- what bodies are
module _ (ds dt : List Declaration) (count : ℕ) where
  reads-first : (outer : Bool) (d y : ℕ) (k : Key) (total : TotalKey) (o : Reduce) (ts : List Target) (es : List Expr) → Row ds dt d y → list_all (suits ds) (uses_of_targets ts) ≡ true → are_alike ts ≡ true →
      Reads ds dt d (Combine k total o ts es) (read_first outer (node_before ds ts) y k total o ts es)
  reads-first outer d y k total o [] es row u a = as_it_is d (Combine k total o [] es)
  reads-first outer d y k total o (T.Scalar x at ∷ ts) es row u a = as_it_is d (Combine k total o (T.Scalar x at ∷ ts) es)
  reads-first outer d y k total o (T.Property x p at ∷ ts) es row u a = by (is_body_local ds x) refl
    where
      by : (b : Bool) → is_body_local ds x ≡ b → Reads ds dt d (Combine k total o (T.Property x p at ∷ ts) es) (read_first outer (cond b (Some (Var x at)) None) y k total o (T.Property x p at ∷ ts) es)
      by false e = as_it_is d (Combine k total o (T.Property x p at ∷ ts) es)
      by true e = wrapped outer (
          first d y x k at total o (T.Property x p at ∷ ts) es row
          (record { low = ltb-true x (length ds) (both-true (nat_lt x (length ds)) (has_role (variable_at ds x) Owner) (both-true (suits ds (record { variable = x; role = Owner })) true (all-append (suits ds) (use_as Owner x) (use_as NodeValue p ++ uses_of_targets ts) (reassoc u)).0).0).0; local = e })
          (ap (λ c. c && list_all (is_through x) ts) (eq-eqb x x refl) ∙ a) (λ n. both_ways false refl (sym (ap is_some n))))
        where
          wrapped : (w : Bool) → Reads ds dt d (Combine k total o (T.Property x p at ∷ ts) es) (sequence (Declare k y (Some (Var x at)) ∷ Combine k total o (map (through y) (T.Property x p at ∷ ts)) es ∷ [])) →
              Reads ds dt d (Combine k total o (T.Property x p at ∷ ts) es) (separate w k (sequence (Declare k y (Some (Var x at)) ∷ Combine k total o (map (through y) (T.Property x p at ∷ ts)) es ∷ [])))
          wrapped true r = set_apart d k (Combine k total o (T.Property x p at ∷ ts) es) (sequence (Declare k y (Some (Var x at)) ∷ Combine k total o (map (through y) (T.Property x p at ∷ ts)) es ∷ [])) r
          wrapped false r = r

          reassoc : list_all (suits ds) ((use_as Owner x ++ use_as NodeValue p) ++ uses_of_targets ts) ≡ true → list_all (suits ds) (use_as Owner x ++ (use_as NodeValue p ++ uses_of_targets ts)) ≡ true
          reassoc h = h

  -- first: the first local, inside so many loops; deep: that of inner bodies
  pub body-reads : (outer : Bool) (d base deep i : ℕ) (s : Stmt) → ((j : ℕ) → j < count → Row ds dt d (base + j)) → ((j : ℕ) → j < count → Row ds dt 2 (deep + j)) → i + nodes_in ds s ≤ count →
      list_all (suits ds) (uses_of s) ≡ true → targets_alike s ≡ true → Reads ds dt d s (nodes_read ds outer base deep i s)
  body-reads outer d base deep i (Then a b) rows inner l u t =
      let v = all-append (suits ds) (uses_of a) (uses_of b) u in
      let r = both-true (targets_alike a) (targets_alike b) t in
      in_turn d a (nodes_read ds outer base deep i a) b (nodes_read ds outer base deep (i + nodes_in ds a) b) (body-reads outer d base deep i a rows inner (omega (arith, l)) v.0 r.0)
      (body-reads outer d base deep (i + nodes_in ds a) b rows inner (omega (arith, l)) v.1 r.1)
  body-reads outer d base deep i (If k c a b) rows inner l u t =
      let v = all-append (suits ds) (uses_of a) (uses_of b) (all-append (suits ds) (uses_in c) (uses_of a ++ uses_of b) u).1 in
      let r = both-true (targets_alike a) (targets_alike b) t in
      branches d k c a (nodes_read ds outer base deep i a) b (nodes_read ds outer base deep (i + nodes_in ds a) b) (body-reads outer d base deep i a rows inner (omega (arith, l)) v.0 r.0)
      (body-reads outer d base deep (i + nodes_in ds a) b rows inner (omega (arith, l)) v.1 r.1)
  body-reads outer d base deep i (Foreach k at h test body) rows inner l u t =
      within d k at h test body (nodes_read ds false deep deep i body)
      (body-reads false 2 deep deep i body inner inner l (all-append (suits ds) (uses_in test) (uses_of body) (all-append (suits ds) (uses_of_head h) (uses_in test ++ uses_of body) u).1).1 t)
  body-reads outer d base deep i (Combine k total o ts es) rows inner l u t =
      by (node_before ds ts) refl l
    where
      alike : are_alike ts ≡ true
      alike = (both-true (are_alike ts) (are_distinct (variables_of ts)) t).0

      named : list_all (suits ds) (uses_of_targets ts) ≡ true
      named = (all-append (suits ds) (uses_of_targets ts) (uses_in_all es) u).0

      by : (n : Option Expr) → node_before ds ts ≡ n → i + one_if n ≤ count → Reads ds dt d (Combine k total o ts es) (read_first outer (node_before ds ts) (base + i) k total o ts es)
      by None e l = subst (λ n. Reads ds dt d (Combine k total o ts es) (read_first outer n (base + i) k total o ts es)) (sym e) (as_it_is d (Combine k total o ts es))
      by (Some x) e l = reads-first outer d (base + i) k total o ts es (rows i (omega (arith, l))) named alike
  body-reads outer d base deep i s rows inner l u t = as_it_is d s

-- ---- what is kept

module _ (ds dt : List Declaration) (same : (x : ℕ) → x < length ds → variable_at dt x ≡ variable_at ds x) (more : length ds ≤ length dt) where
  abbrev Named : Stmt → Type 0
  Named s = list_all (suits dt) (uses_of s) ≡ true

  row-use : (role : Role) (d y : ℕ) → Row ds dt d y → has_role (node_local d).variable role ≡ true → list_all (suits dt) (use_as role y) ≡ true
  row-use role d y row h =
      and-true (nat_lt y (length dt) && has_role (variable_at dt y) role) true (and-true (nat_lt y (length dt)) (has_role (variable_at dt y) role) (lt-ltb y (length dt) row.inside) (ap (λ (v : Variable). has_role v role) row.is ∙ h)) refl

  scalar-of : (x : ℕ) → Local ds x → sort_eq Sorts.Scalar (variable_at dt x).sort ≡ true
  scalar-of x l = ap (λ (v : Variable). sort_eq Sorts.Scalar v.sort) (same x l.low) ∙ (both-true (sort_eq Sorts.Scalar (variable_at ds x).sort) (nat_eq (depth_at ds x) 1) l.local).0

  local-told : (x : ℕ) → Local ds x → list_all (suits dt) (use_as Told x) ≡ true
  local-told x l =
      let low = l.low in
      and-true (nat_lt x (length dt) && has_role (variable_at dt x) Told) true (and-true (nat_lt x (length dt)) (has_role (variable_at dt x) Told) (lt-ltb x (length dt) (omega (arith, low, more))) (told (variable_at dt x) (scalar-of x l))) refl
    where
      told : (v : Variable) → sort_eq Sorts.Scalar v.sort ≡ true → has_role v Told ≡ true
      told v h = ap (λ b. b || (sort_eq Sorts.Iterator v.sort || sort_eq Sorts.Graph v.sort)) h

  targets-named : (d y : ℕ) → Row ds dt d y → (ts : List Target) → list_all (suits dt) (uses_of_targets ts) ≡ true → list_all (suits dt) (uses_of_targets (map (through y) ts)) ≡ true
  targets-named d y row [] h = refl
  targets-named d y row (T.Scalar x at ∷ ts) h =
      let r = all-append (suits dt) (use_as Written x) (uses_of_targets ts) h in append-true (suits dt) (use_as Written x) (uses_of_targets (map (through y) ts)) r.0 (targets-named d y row ts r.1)
  targets-named d y row (T.Property x p at ∷ ts) h =
      let r = all-append (suits dt) (use_as Owner x ++ use_as NodeValue p) (uses_of_targets ts) h in
      let q = all-append (suits dt) (use_as Owner x) (use_as NodeValue p) r.0 in
      append-true (suits dt) (use_as Owner y ++ use_as NodeValue p) (uses_of_targets (map (through y) ts)) (append-true (suits dt) (use_as Owner y) (use_as NodeValue p) (row-use Owner d y row refl) q.1) (targets-named d y row ts r.1)

  pub named-read : (d : ℕ) (s s' : Stmt) → Reads ds dt d s s' → Named s → Named s'
  named-read d s s' (as_it_is e t) h = h
  named-read d s s' (in_turn e a a' b b' f g) h =
      let r = all-append (suits dt) (uses_of a) (uses_of b) h in append-true (suits dt) (uses_of a') (uses_of b') (named-read d a a' f r.0) (named-read d b b' g r.1)
  named-read d s s' (branches e k c a a' b b' f g) h =
      let q = all-append (suits dt) (uses_in c) (uses_of a ++ uses_of b) h in
      let r = all-append (suits dt) (uses_of a) (uses_of b) q.1 in
      append-true (suits dt) (uses_in c) (uses_of a' ++ uses_of b') q.0 (append-true (suits dt) (uses_of a') (uses_of b') (named-read d a a' f r.0) (named-read d b b' g r.1))
  named-read d s s' (within e k at hd test body body' f) h =
      let q = all-append (suits dt) (uses_of_head hd) (uses_in test ++ uses_of body) h in
      let r = all-append (suits dt) (uses_in test) (uses_of body) q.1 in
      append-true (suits dt) (uses_of_head hd) (uses_in test ++ uses_of body') q.0 (append-true (suits dt) (uses_in test) (uses_of body') r.0 (named-read 2 body body' f r.1))
  named-read d s s' (set_apart e k t t' f) h =
      append-true (suits dt) (uses_of t') [] (named-read d t t' f h) refl
  named-read d s s' (replaced e t t' off f) h = f.named h
  named-read d s s' (first e y x k at total o ts es row local all some) h =
      let r = all-append (suits dt) (uses_of_targets ts) (uses_in_all es) h in
      append-true (suits dt) (use_as Written y ++ use_as Told x) ((uses_of_targets (map (through y) ts) ++ uses_in_all es) ++ []) (append-true (suits dt) (use_as Written y) (use_as Told x) (row-use Written e y row refl) (local-told x local))
      (append-true (suits dt) (uses_of_targets (map (through y) ts) ++ uses_in_all es) [] (append-true (suits dt) (uses_of_targets (map (through y) ts)) (uses_in_all es) (targets-named e y row ts r.0) r.1) refl)

  -- ---- types

  types-through : (y : ℕ) (ts : List Target) (es : List Expr) → all_have_types dt (map (through y) ts) es ≡ all_have_types dt ts es
  types-through y [] [] = refl
  types-through y [] (e ∷ es) = refl
  types-through y (T.Scalar x at ∷ ts) [] = refl
  types-through y (T.Property x p at ∷ ts) [] = refl
  types-through y (T.Scalar x at ∷ ts) (e ∷ es) = ap (λ b. has_type dt (type_at dt x) e && b) (types-through y ts es)
  types-through y (T.Property x p at ∷ ts) (e ∷ es) = ap (λ b. has_type dt (type_at dt p) e && b) (types-through y ts es)

  type-through : (y : ℕ) (t : Target) → target_type dt (through y t) ≡ target_type dt t
  type-through y (T.Scalar x at) = refl
  type-through y (T.Property x p at) = refl

  fits-through : (y : ℕ) (o : Reduce) (ts : List Target) → fits_targets dt o (map (through y) ts) ≡ fits_targets dt o ts
  fits-through y o [] = refl
  fits-through y o (t ∷ []) = ap (reduces o) (type-through y t)
  fits-through y o (t ∷ (u ∷ ts)) = ap (λ v. keeps_tuples o && is_numeric v) (type-through y t)

  node-type : (v : Variable) → sort_eq Sorts.Scalar v.sort ≡ true → has_role v Owner ≡ true → v.vtype ≡ V.Node
  node-type v h r = by v.sort v.vtype h r
    where
      is-node : (t : VType) → (is_node_type t || false ≡ true) → t ≡ V.Node
      is-node V.Node h = refl
      is-node V.I32 h = absurd (both_ways false refl h)
      is-node V.I64 h = absurd (both_ways false refl h)
      is-node V.Flag h = absurd (both_ways false refl h)

      by : (s : Sort) (t : VType) → sort_eq Sorts.Scalar s ≡ true → has_role (record { sort = s; vtype = t; depth = v.depth }) Owner ≡ true → t ≡ V.Node
      by Sorts.Scalar t h r = is-node t r
      by Sorts.Graph t h r = absurd (both_ways false refl h)
      by Sorts.Iterator t h r = absurd (both_ways false refl h)
      by Sorts.Edge t h r = absurd (both_ways false refl h)
      by Sorts.NodeProperty t h r = absurd (both_ways false refl h)
      by Sorts.EdgeProperty t h r = absurd (both_ways false refl h)

  -- a node variable through which targets are reached
  owner-role : (x : ℕ) (ts : List Target) → list_all (is_through x) ts ≡ true → list_all (suits dt) (uses_of_targets ts) ≡ true → (ts ≡ [] → ⊥) → has_role (variable_at dt x) Owner ≡ true
  owner-role x [] a u some = absurd (some refl)
  owner-role x (T.Scalar z at ∷ ts) a u some = absurd (both_ways false refl a)
  owner-role x (T.Property z p at ∷ ts) a u some =
      let r = all-append (suits dt) (use_as Owner z ++ use_as NodeValue p) (uses_of_targets ts) u in
      let q = all-append (suits dt) (use_as Owner z) (use_as NodeValue p) r.0 in
      subst (λ w. has_role (variable_at dt w) Owner ≡ true) (eqb-true z x (both-true (nat_eq z x) (list_all (is_through x) ts) a).0)
      (both-true (nat_lt z (length dt)) (has_role (variable_at dt z) Owner) (both-true (suits dt (record { variable = z; role = Owner })) true q.0).0).1

  pub typed-read : (res : Option VType) (d : ℕ) (s s' : Stmt) → Reads ds dt d s s' → Named s → is_typed_in dt res s ≡ true → is_typed_in dt res s' ≡ true
  typed-read res d s s' (as_it_is e t) u h = h
  typed-read res d s s' (in_turn e a a' b b' f g) u h =
      let v = all-append (suits dt) (uses_of a) (uses_of b) u in
      let r = both-true (is_typed_in dt res a) (is_typed_in dt res b) h in
      and-true (is_typed_in dt res a') (is_typed_in dt res b') (typed-read res d a a' f v.0 r.0) (typed-read res d b b' g v.1 r.1)
  typed-read res d s s' (branches e k c a a' b b' f g) u h =
      let v = all-append (suits dt) (uses_of a) (uses_of b) (all-append (suits dt) (uses_in c) (uses_of a ++ uses_of b) u).1 in
      let q = both-true (has_type dt V.Flag c) (is_typed_in dt res a && is_typed_in dt res b) h in
      let r = both-true (is_typed_in dt res a) (is_typed_in dt res b) q.1 in
      and-true (has_type dt V.Flag c) (is_typed_in dt res a' && is_typed_in dt res b') q.0 (and-true (is_typed_in dt res a') (is_typed_in dt res b') (typed-read res d a a' f v.0 r.0) (typed-read res d b b' g v.1 r.1))
  typed-read res d s s' (within e k at hd test body body' f) u h =
      let v = all-append (suits dt) (uses_in test) (uses_of body) (all-append (suits dt) (uses_of_head hd) (uses_in test ++ uses_of body) u).1 in
      let q = both-true (has_type dt V.Flag test) (is_typed_in dt res body) h in
      and-true (has_type dt V.Flag test) (is_typed_in dt res body') q.0 (typed-read res 2 body body' f v.1 q.1)
  typed-read res d s s' (set_apart e k t t' f) u h = and-true (is_typed_in dt res t') true (typed-read res d t t' f u h) refl
  typed-read res d s s' (replaced e t t' off f) u h = f.typed res h
  typed-read res d s s' (first e y x k at total o ts es row local all some) u h =
      let v = all-append (suits dt) (uses_of_targets ts) (uses_in_all es) u in
      let r = both-true (all_have_types dt ts es) (fits_targets dt o ts) h in
      let t : type_at dt x ≡ V.Node = node-type (variable_at dt x) (scalar-of x local) (owner-role x ts all v.0 (λ n. both_ways false refl (ap (fits_targets dt o) (sym n) ∙ r.1))) in
      and-true (is_type (type_at dt y) (Some (type_at dt x))) ((all_have_types dt (map (through y) ts) es && fits_targets dt o (map (through y) ts)) && true)
      (ap (λ (w : Variable). is_type w.vtype (Some (type_at dt x))) row.is ∙ ap (λ w. is_type V.Node (Some w)) t)
      (and-true (all_have_types dt (map (through y) ts) es && fits_targets dt o (map (through y) ts)) true
      (and-true (all_have_types dt (map (through y) ts) es) (fits_targets dt o (map (through y) ts)) (types-through y ts es ∙ r.0) (fits-through y o ts ∙ r.1)) refl)
