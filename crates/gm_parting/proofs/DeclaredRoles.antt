-- A local of a body is no property, and nothing that a loop's iterations share.
use Rattle.std.proofs.Common.{◌≡◌, ℕ, Bool, true, false, cond, List, [], ◌∷◌, ◌++◌, append-nil, length, refl, sym, ap, subst, Option, Some, None, ◌⊎◌, ⊎_elim, inl, inr}
use Rattle.std.specs.Prelude.{◌&&◌, not, nat_eq, nat_lt}
use Rattle.std.specs.List.{list_all}
use Rattle.std.proofs.lemmas.Bool.{both_ways, eqb-true}
use Rattle.gm_value.specs.Bag.{IsIn}
use Rattle.gm_ast.specs.declared.tree.Declaration.{Declaration}
use Rattle.gm_ast.specs.declared.tree.Sort.{Sort}
use Rattle.gm_ast.specs.declared.tree.Sort.TheVariants as Sorts
use Rattle.gm_ast.specs.declared.tree.Target.{Target}
use Rattle.gm_ast.specs.declared.tree.Target.TheVariants as T
use Rattle.gm_ast.specs.declared.tree.Variable.{Variable}
use Rattle.gm_ast.specs.Names.{sort_eq}
use Rattle.gm_ast.specs.Program.{Expr, Const, Var, Property, EdgeProperty, Degree, NodeCount, EdgeCount, Live, Unary, Binary, Both, Either, Choose, Folded, Stmt, Then, Declare, Assign, Defer, Combine, Foreach, If}
use Rattle.gm_semantics.specs.Statements.{variable_at}
use Rattle.gm_forms.specs.Forms.{depth_at, is_outer_body}
use Rattle.gm_forms.specs.Sharing.{Read, Reduced, reads_in, sights_in_option, sights_in_all, sights_of_target, sights_at_target, sights_by, sights_of, are_at_once, variables_where, is_owned, reduced_by, reduced, deferred, shared_in, read_anywhere, read_elsewhere}
use Rattle.gm_forms.specs.Uses.{Use, Written, Owner, NodeValue, has_role, use_as, suits, uses_in, uses_in_option, uses_in_all, uses_of_head, uses_of_target, uses_of_targets, uses_of_declared, uses_of}
use Rattle.gm_forms.proofs.Doings.{in-left, in-right, in-either}
use Rattle.gm_forms.proofs.Named.{both-true, all-append}
use Rattle.gm_parting.specs.Nodes.{is_body_local}

property-apart : (v : Variable) → sort_eq Sorts.Scalar v.sort ≡ true → has_role v NodeValue ≡ true → ⊥
property-apart v h w = by v.sort h w
  where
    by : (s : Sort) → sort_eq Sorts.Scalar s ≡ true → sort_eq Sorts.NodeProperty s ≡ true → ⊥
    by Sorts.Graph h w = both_ways false refl h
    by Sorts.Iterator h w = both_ways false refl h
    by Sorts.Scalar h w = both_ways false refl w
    by Sorts.Edge h w = both_ways false refl h
    by Sorts.NodeProperty h w = both_ways false refl h
    by Sorts.EdgeProperty h w = both_ways false refl h

-- x: a local of a body
module _ (ds : List Declaration) (n x : ℕ) (local : is_body_local ds x ≡ true) where
  abbrev Suit : Stmt → Type 0
  Suit s = list_all (suits ds) (uses_of s) ≡ true

  parts : (sort_eq Sorts.Scalar (variable_at ds x).sort ≡ true) × (nat_eq (depth_at ds x) 1 ≡ true)
  parts = both-true (sort_eq Sorts.Scalar (variable_at ds x).sort) (nat_eq (depth_at ds x) 1) local

  no-property : (p : ℕ) → list_all (suits ds) (use_as NodeValue p) ≡ true → x ≡ p → ⊥
  no-property p h e =
      property-apart (variable_at ds x) parts.0
      (subst (λ z. has_role (variable_at ds z) NodeValue ≡ true) (sym e) (both-true (nat_lt p (length ds)) (has_role (variable_at ds p) NodeValue) (both-true (suits ds (record { variable = p; role = NodeValue })) true h).0).1)

  -- ---- what is shared

  shared-either : (xs ys : List Reduced) → IsIn x (shared_in (xs ++ ys)) → IsIn x (shared_in xs) ⊎ IsIn x (shared_in ys)
  shared-either [] ys i = inr i
  shared-either (r ∷ xs) ys i =
      ⊎_elim (λ l. inl (in-left x r.shared (shared_in xs) l)) (λ m. ⊎_elim (λ l. inl (in-right x r.shared (shared_in xs) l)) (λ l. inr l) (shared-either xs ys m)) (in-either x r.shared (shared_in (xs ++ ys)) i)

  where-apart : (ts : List Target) → list_all (suits ds) (uses_of_targets ts) ≡ true → IsIn x (variables_where (λ t. not (is_owned ds n t)) ts) → ⊥
  where-apart [] h i = i
  where-apart (T.Scalar z at ∷ ts) h i = by (is_owned ds n (T.Scalar z at)) refl (where-apart ts (all-append (suits ds) (use_as Written z) (uses_of_targets ts) h).1) i
    where
      rest : List ℕ
      rest = variables_where (λ t. not (is_owned ds n t)) ts

      by : (b : Bool) → is_owned ds n (T.Scalar z at) ≡ b → (IsIn x rest → ⊥) → IsIn x (cond (not b) (z ∷ rest) rest) → ⊥
      by true e more i = more i
      by false e more i =
          ⊎_elim (λ (s : x ≡ z). both_ways (not (nat_eq (depth_at ds z) 0)) e (ap (λ d. not (nat_eq d 0)) (subst (λ w. depth_at ds w ≡ 1) s (eqb-true (depth_at ds x) 1 parts.1)))) more i
  where-apart (T.Property z p at ∷ ts) h i = by (is_owned ds n (T.Property z p at)) (where-apart ts r.1) i
    where
      rest : List ℕ
      rest = variables_where (λ t. not (is_owned ds n t)) ts

      r : (list_all (suits ds) (use_as Owner z ++ use_as NodeValue p) ≡ true) × (list_all (suits ds) (uses_of_targets ts) ≡ true)
      r = all-append (suits ds) (use_as Owner z ++ use_as NodeValue p) (uses_of_targets ts) h

      by : (b : Bool) → (IsIn x rest → ⊥) → IsIn x (cond (not b) (p ∷ rest) rest) → ⊥
      by true more i = more i
      by false more i = ⊎_elim (no-property p (all-append (suits ds) (use_as Owner z) (use_as NodeValue p) r.0).1) more i

  pub shared-apart : (inner : Bool) (s : Stmt) → Suit s → IsIn x (shared_in (reduced ds n inner s)) → ⊥
  shared-apart inner (Then a b) u i =
      let r = all-append (suits ds) (uses_of a) (uses_of b) u in ⊎_elim (shared-apart inner a r.0) (shared-apart inner b r.1) (shared-either (reduced ds n inner a) (reduced ds n inner b) i)
  shared-apart inner (If k c a b) u i =
      let r = all-append (suits ds) (uses_of a) (uses_of b) (all-append (suits ds) (uses_in c) (uses_of a ++ uses_of b) u).1 in
      ⊎_elim (shared-apart inner a r.0) (shared-apart inner b r.1) (shared-either (reduced ds n inner a) (reduced ds n inner b) i)
  shared-apart inner (Foreach k at hd test body) u i = shared-apart true body (all-append (suits ds) (uses_in test) (uses_of body) (all-append (suits ds) (uses_of_head hd) (uses_in test ++ uses_of body) u).1).1 i
  shared-apart inner (Combine k total o ts es) u i = by (are_at_once ds n inner ts) i
    where
      by : (b : Bool) → IsIn x (shared_in (cond b [] (reduced_by ds n total.key.statement o ts ∷ []))) → ⊥
      by true i = i
      by false i = where-apart ts (all-append (suits ds) (uses_of_targets ts) (uses_in_all es) u).0 (subst (IsIn x) (append-nil (variables_where (λ t. not (is_owned ds n t)) ts)) i)
  shared-apart inner s u i = i

  -- ---- what is deferred

  pub deferred-apart : (s : Stmt) → Suit s → is_outer_body ds false n s ≡ true → IsIn x (deferred s) → ⊥
  deferred-apart (Then a b) u h i =
      let r = all-append (suits ds) (uses_of a) (uses_of b) u in
      let q = both-true (is_outer_body ds false n a) (is_outer_body ds false n b) h in
      ⊎_elim (deferred-apart a r.0 q.0) (deferred-apart b r.1 q.1) (in-either x (deferred a) (deferred b) i)
  deferred-apart (If k c a b) u h i =
      let r = all-append (suits ds) (uses_of a) (uses_of b) (all-append (suits ds) (uses_in c) (uses_of a ++ uses_of b) u).1 in
      let q = both-true (is_outer_body ds false n a) (is_outer_body ds false n b) (both-true _ (is_outer_body ds false n a && is_outer_body ds false n b) h).1 in
      ⊎_elim (deferred-apart a r.0 q.0) (deferred-apart b r.1 q.1) (in-either x (deferred a) (deferred b) i)
  deferred-apart (Defer k (T.Scalar z at) e) u h i = both_ways false refl h
  deferred-apart (Defer k (T.Property z p at) e) u h i =
      ⊎_elim (no-property p (all-append (suits ds) (use_as Owner z) (use_as NodeValue p) (all-append (suits ds) (use_as Owner z ++ use_as NodeValue p) (uses_in e) u).0).1) (λ j. j) i
  deferred-apart s u h i = i

  -- ---- what is read

  abbrev Unread : List Read → Type 0
  Unread rs = IsIn x (read_anywhere rs) → ⊥

  pub unread-both : (rs qs : List Read) → Unread rs → Unread qs → Unread (rs ++ qs)
  unread-both [] qs f g i = g i
  unread-both (r ∷ rs) qs f g i = ⊎_elim (λ e. f (inl e)) (λ m. unread-both rs qs (λ j. f (inr j)) g m) i

  pub unread-elsewhere : (rs : List Read) → Unread rs → IsIn x (read_elsewhere n rs) → ⊥
  unread-elsewhere [] f i = i
  unread-elsewhere (r ∷ rs) f i = by (nat_eq r.owner n) (unread-elsewhere rs (λ j. f (inr j))) i
    where
      by : (b : Bool) → (IsIn x (read_elsewhere n rs) → ⊥) → IsIn x (cond b (read_elsewhere n rs) (r.property ∷ read_elsewhere n rs)) → ⊥
      by true more i = more i
      by false more i = ⊎_elim (λ e. f (inl e)) more i

  unread-two : (rs qs : List Read) (us vs : List Use) → (list_all (suits ds) us ≡ true → Unread rs) → (list_all (suits ds) vs ≡ true → Unread qs) → list_all (suits ds) (us ++ vs) ≡ true → Unread (rs ++ qs)
  unread-two rs qs us vs f g h = let r = all-append (suits ds) us vs h in unread-both rs qs (f r.0) (g r.1)

  pub expr-unread : (e : Expr) → list_all (suits ds) (uses_in e) ≡ true → Unread (reads_in e)
  expr-unread (Const v) h i = i
  expr-unread (Var y at) h i = i
  expr-unread (Property y p at) h i = ⊎_elim (no-property p (all-append (suits ds) (use_as Owner y) (use_as NodeValue p) h).1) (λ j. j) i
  expr-unread (EdgeProperty y p at) h i = i
  expr-unread (Degree d y at) h i = i
  expr-unread NodeCount h i = i
  expr-unread EdgeCount h i = i
  expr-unread (Live y at) h i = i
  expr-unread (Unary op at e) h i = expr-unread e h i
  expr-unread (Binary op at a b) h i = unread-two (reads_in a) (reads_in b) (uses_in a) (uses_in b) (expr-unread a) (expr-unread b) h i
  expr-unread (Both a b) h i = unread-two (reads_in a) (reads_in b) (uses_in a) (uses_in b) (expr-unread a) (expr-unread b) h i
  expr-unread (Either a b) h i = unread-two (reads_in a) (reads_in b) (uses_in a) (uses_in b) (expr-unread a) (expr-unread b) h i
  expr-unread (Choose c a b) h i = unread-two (reads_in c) (reads_in a ++ reads_in b) (uses_in c) (uses_in a ++ uses_in b) (expr-unread c) (unread-two (reads_in a) (reads_in b) (uses_in a) (uses_in b) (expr-unread a) (expr-unread b)) h i
  expr-unread (Folded f hd test e) h i =
      unread-two (reads_in test) (reads_in e) (uses_in test) (uses_in e) (expr-unread test) (expr-unread e) (all-append (suits ds) (uses_of_head hd) (uses_in test ++ uses_in e) h).1 i

  option-unread : (e : Option Expr) → list_all (suits ds) (uses_in_option e) ≡ true → Unread (sights_in_option e).properties
  option-unread None h i = i
  option-unread (Some e) h i = expr-unread e h i

  all-unread : (es : List Expr) → list_all (suits ds) (uses_in_all es) ≡ true → Unread (sights_in_all es).properties
  all-unread [] h i = i
  all-unread (e ∷ es) h i = unread-two (reads_in e) (sights_in_all es).properties (uses_in e) (uses_in_all es) (expr-unread e) (all-unread es) h i

  target-unread : (t : Target) → list_all (suits ds) (uses_of_target t) ≡ true → Unread (sights_at_target t).properties
  target-unread (T.Scalar y at) h i = i
  target-unread (T.Property y p at) h i = ⊎_elim (no-property p (all-append (suits ds) (use_as Owner y) (use_as NodeValue p) h).1) (λ j. j) i

  node-unread : (t : Target) → Unread (sights_of_target t).properties
  node-unread (T.Scalar y at) i = i
  node-unread (T.Property y p at) i = i

  targets-unread : (o : Bool) (ts : List Target) → list_all (suits ds) (uses_of_targets ts) ≡ true → Unread (sights_by (cond o sights_at_target sights_of_target) ts).properties
  targets-unread o [] h i = i
  targets-unread true (t ∷ ts) h i = unread-two (sights_at_target t).properties (sights_by sights_at_target ts).properties (uses_of_target t) (uses_of_targets ts) (target-unread t) (targets-unread true ts) h i
  targets-unread false (t ∷ ts) h i = unread-two (sights_of_target t).properties (sights_by sights_of_target ts).properties (uses_of_target t) (uses_of_targets ts) (λ u. node-unread t) (targets-unread false ts) h i

  declared-unread : (y : ℕ) (e : Option Expr) → list_all (suits ds) (uses_of_declared y e) ≡ true → Unread (sights_in_option e).properties
  declared-unread y None h i = i
  declared-unread y (Some e) h i = expr-unread e (all-append (suits ds) (use_as Written y) (uses_in e) h).1 i

  pub body-unread : (inner : Bool) (s : Stmt) → Suit s → Unread (sights_of ds n inner s).properties
  body-unread inner (Then a b) u i = unread-two (sights_of ds n inner a).properties (sights_of ds n inner b).properties (uses_of a) (uses_of b) (body-unread inner a) (body-unread inner b) u i
  body-unread inner (Declare k y e) u i = declared-unread y e u i
  body-unread inner (Assign k t e) u i = unread-two (sights_of_target t).properties (reads_in e) (uses_of_target t) (uses_in e) (λ v. node-unread t) (expr-unread e) u i
  body-unread inner (Defer k t e) u i = unread-two (sights_of_target t).properties (reads_in e) (uses_of_target t) (uses_in e) (λ v. node-unread t) (expr-unread e) u i
  body-unread inner (Combine k total o ts es) u i =
      unread-two (sights_by (cond (are_at_once ds n inner ts) sights_at_target sights_of_target) ts).properties (sights_in_all es).properties (uses_of_targets ts) (uses_in_all es) (targets-unread (are_at_once ds n inner ts) ts) (all-unread es) u i
  body-unread inner (If k c a b) u i =
      unread-two (reads_in c) ((sights_of ds n inner a).properties ++ (sights_of ds n inner b).properties) (uses_in c) (uses_of a ++ uses_of b) (expr-unread c)
      (unread-two (sights_of ds n inner a).properties (sights_of ds n inner b).properties (uses_of a) (uses_of b) (body-unread inner a) (body-unread inner b)) u i
  body-unread inner (Foreach k at hd test body) u i =
      unread-two (reads_in test) (sights_of ds n true body).properties (uses_in test) (uses_of body) (expr-unread test) (body-unread true body) (all-append (suits ds) (uses_of_head hd) (uses_in test ++ uses_of body) u).1 i
  body-unread inner s u i = i
