-- What is asked of a program rests on the table of declarations only where it names variables.
use Rattle.std.proofs.Common.{◌≡◌, ◌<◌, ℕ, Bool, true, false, List, [], ◌∷◌, ◌++◌, refl, ap, ◌∙◌, Option, Some, None}
use Rattle.std.specs.Prelude.{◌&&◌, not, nat_eq, nat_le, nat_lt, if◌then◌else◌}
use Rattle.std.specs.List.{list_all}
use Rattle.gm_value.specs.declared.values.VType.{VType}
use Rattle.gm_value.specs.declared.values.VType.TheVariants.{Flag}
use Rattle.gm_value.specs.declared.reductions.Reduce.{Reduce}
use Rattle.gm_value.specs.Operations.{is_numeric, fits2, type1, type2}
use Rattle.gm_value.specs.Reductions.{reduces}
use Rattle.gm_ast.specs.declared.tree.Declaration.{Declaration}
use Rattle.gm_ast.specs.declared.tree.Target.{Target}
use Rattle.gm_ast.specs.declared.tree.Target.TheVariants as T
use Rattle.gm_ast.specs.declared.tree.Variable.{Variable}
use Rattle.gm_ast.specs.Loops.{is_nodes}
use Rattle.gm_ast.specs.Program.{Expr, always, Const, Var, Property, EdgeProperty, Degree, NodeCount, EdgeCount, Live, Unary, Binary, Both, Either, Choose, Folded, Stmt, Skip, Then, Declare, DeclareEdge, Assign, Defer, Combine, Group, Foreach, For, If, While, Do, InBfs, InBfsBoth, Return}
use Rattle.gm_semantics.specs.Expressions.{reduce_of}
use Rattle.gm_semantics.specs.Frames.{ReadsBelow, MayReadBelow, AllReadBelow, TargetBelow, TargetsBelow, NamesBelow}
use Rattle.gm_semantics.specs.Statements.{variable_at}
use Rattle.gm_forms.specs.Forms.{depth_at, may, is_flat, is_inner_head, is_within}
use Rattle.gm_forms.specs.Ready.{is_outer_expr, is_phase_expr, is_at_depth, is_inner_code, is_outer_code, is_phase_code}
use Rattle.gm_forms.specs.Sharing.{Read, Sights, with_reads, reads_in, sights_in, sights_in_all, is_at_once, are_at_once, sights_of_target, sights_at_target, sights_by, sights_of, variables_of, written, is_owned, is_kept, variables_where, Reduced, reduced_by, reduced, inner_shares, inners_share, shares, at_level, level_reads_in, level_reads_in_all, level_reads_of, search_shares, loops_share}
use Rattle.gm_forms.specs.Typing.{type_at, type_if, by_one, is_type, takes, type_in, has_type, may_have_type, target_type, all_have_types, keeps_tuples, fits_targets, returns_type, is_typed_in, takes1}

-- equal parts make equal wholes
pub two : {A B C : Type 0} (f : A → B → C) (a a' : A) (b b' : B) → a ≡ a' → b ≡ b' → f a b ≡ f a' b'
two f a a' b b' p q = ap (λ x. f x b) p ∙ ap (f a') q

pub both : (a a' b b' : Bool) → a ≡ a' → b ≡ b' → a && b ≡ a' && b'
both a a' b b' p q = ap (λ x. x && b) p ∙ ap (λ x. a' && x) q

joined : {A : Type 0} (a a' b b' : List A) → a ≡ a' → b ≡ b' → a ++ b ≡ a' ++ b'
joined a a' b b' p q = ap (λ x. x ++ b) p ∙ ap (λ x. a' ++ x) q

reads-both : (a a' b b' : Sights) → a ≡ a' → b ≡ b' → with_reads a b ≡ with_reads a' b'
reads-both a a' b b' p q = ap (λ x. with_reads x b) p ∙ ap (with_reads a') q

module _ (ds es : List Declaration) (k : ℕ) (same : (x : ℕ) → x < k → variable_at es x ≡ variable_at ds x) where
  depth-longer : (x : ℕ) → x < k → depth_at es x ≡ depth_at ds x
  depth-longer x b = ap (λ (v : Variable). v.depth) (same x b)

  type_at-longer : (x : ℕ) → x < k → type_at es x ≡ type_at ds x
  type_at-longer x b = ap (λ (v : Variable). v.vtype) (same x b)

  -- types
  pub type-longer : (e : Expr) → ReadsBelow k e → type_in es e ≡ type_in ds e
  type-longer (Const v) b = refl
  type-longer (Var x at) b = ap Some (type_at-longer x b)
  type-longer (Property x p at) b = ap Some (type_at-longer p b.1)
  type-longer (EdgeProperty x p at) b = ap Some (type_at-longer p b)
  type-longer (Degree d x at) b = refl
  type-longer NodeCount b = refl
  type-longer EdgeCount b = refl
  type-longer (Live x at) b = refl
  type-longer (Unary op at e) b = ap (λ o. by_one o (λ t. type_if (takes1 op t) (type1 op t))) (type-longer e b)
  type-longer (Binary op at l r) b = two (λ o u. by_one o (λ t. by_one u (λ v. type_if (fits2 op t v) (type2 op t)))) (type_in es l) (type_in ds l) (type_in es r) (type_in ds r) (type-longer l b.0) (type-longer r b.1)
  type-longer (Both l r) b = two (λ o u. type_if (is_type Flag o && is_type Flag u) Flag) (type_in es l) (type_in ds l) (type_in es r) (type_in ds r) (type-longer l b.0) (type-longer r b.1)
  type-longer (Either l r) b = two (λ o u. type_if (is_type Flag o && is_type Flag u) Flag) (type_in es l) (type_in ds l) (type_in es r) (type_in ds r) (type-longer l b.0) (type-longer r b.1)
  type-longer (Choose c l r) b =
      ap (λ o. by_one (type_in es l) (λ t. type_if (is_type Flag o && is_type t (type_in es r)) t)) (type-longer c b.0)
      ∙ two (λ o u. by_one o (λ t. type_if (is_type Flag (type_in ds c) && is_type t u) t)) (type_in es l) (type_in ds l) (type_in es r) (type_in ds r) (type-longer l b.1) (type-longer r b.2)
  type-longer (Folded f h test e) b =
      two (λ o u. type_if (is_type Flag o && (is_type (takes f.word f.vtype) u && reduces (reduce_of f.word) f.vtype)) f.vtype) (type_in es test) (type_in ds test) (type_in es e) (type_in ds e) (type-longer test b.1) (type-longer e b.2)

  has-longer : (t : VType) (e : Expr) → ReadsBelow k e → has_type es t e ≡ has_type ds t e
  has-longer t e b = ap (is_type t) (type-longer e b)

  may-longer : (t u : VType) (e : Option Expr) → t ≡ u → MayReadBelow k e → may_have_type es t e ≡ may_have_type ds u e
  may-longer t u None p b = refl
  may-longer t u (Some e) p b = ap (λ v. has_type es v e) p ∙ has-longer u e b

  target-longer : (t : Target) → TargetBelow k t → target_type es t ≡ target_type ds t
  target-longer (T.Scalar x at) b = type_at-longer x b
  target-longer (T.Property x p at) b = type_at-longer p b.1

  all-longer : (ts : List Target) (vs : List Expr) → TargetsBelow k ts → AllReadBelow k vs → all_have_types es ts vs ≡ all_have_types ds ts vs
  all-longer [] [] b c = refl
  all-longer [] (v ∷ vs) b c = refl
  all-longer (t ∷ ts) [] b c = refl
  all-longer (t ∷ ts) (v ∷ vs) b c =
      both (has_type es (target_type es t) v) (has_type ds (target_type ds t) v) (all_have_types es ts vs) (all_have_types ds ts vs)
      (ap (λ u. has_type es u v) (target-longer t b.0) ∙ has-longer (target_type ds t) v c.0) (all-longer ts vs b.1 c.1)

  fits-longer : (r : Reduce) (ts : List Target) → TargetsBelow k ts → fits_targets es r ts ≡ fits_targets ds r ts
  fits-longer r [] b = refl
  fits-longer r (t ∷ []) b = ap (reduces r) (target-longer t b.0)
  fits-longer r (t ∷ (u ∷ ts)) b = ap (λ x. keeps_tuples r && is_numeric x) (target-longer t b.0)

  returns-longer : (res : Option VType) (e : Option Expr) → MayReadBelow k e → returns_type es res e ≡ returns_type ds res e
  returns-longer None None b = refl
  returns-longer None (Some e) b = refl
  returns-longer (Some t) None b = refl
  returns-longer (Some t) (Some e) b = has-longer t e b

  pub typed-longer : (res : Option VType) (s : Stmt) → NamesBelow k s → is_typed_in es res s ≡ is_typed_in ds res s
  typed-longer res Skip b = refl
  typed-longer res (Then s t) b = both (is_typed_in es res s) (is_typed_in ds res s) (is_typed_in es res t) (is_typed_in ds res t) (typed-longer res s b.0) (typed-longer res t b.1)
  typed-longer res (Declare key x e) b = may-longer (type_at es x) (type_at ds x) e (type_at-longer x b.0) b.1
  typed-longer res (DeclareEdge x y at) b = refl
  typed-longer res (Assign key t e) b = ap (λ u. has_type es u e) (target-longer t b.0) ∙ has-longer (target_type ds t) e b.1
  typed-longer res (Defer key t e) b = ap (λ u. has_type es u e) (target-longer t b.0) ∙ has-longer (target_type ds t) e b.1
  typed-longer res (Combine key total op ts vs) b = both (all_have_types es ts vs) (all_have_types ds ts vs) (fits_targets es op ts) (fits_targets ds op ts) (all-longer ts vs b.0 b.1) (fits-longer op ts b.0)
  typed-longer res (Group key at g p e) b = ap (λ u. has_type es u e) (type_at-longer p b.1) ∙ has-longer (type_at ds p) e b.2
  typed-longer res (Foreach key at h test body) b = both (has_type es Flag test) (has_type ds Flag test) (is_typed_in es res body) (is_typed_in ds res body) (has-longer Flag test b.2) (typed-longer res body b.3)
  typed-longer res (For key at h test body) b = both (has_type es Flag test) (has_type ds Flag test) (is_typed_in es res body) (is_typed_in ds res body) (has-longer Flag test b.2) (typed-longer res body b.3)
  typed-longer res (If key c s t) b =
      both (has_type es Flag c) (has_type ds Flag c) (is_typed_in es res s && is_typed_in es res t) (is_typed_in ds res s && is_typed_in ds res t) (has-longer Flag c b.0)
      (both (is_typed_in es res s) (is_typed_in ds res s) (is_typed_in es res t) (is_typed_in ds res t) (typed-longer res s b.1) (typed-longer res t b.2))
  typed-longer res (While key at c body) b = both (has_type es Flag c) (has_type ds Flag c) (is_typed_in es res body) (is_typed_in ds res body) (has-longer Flag c b.0) (typed-longer res body b.1)
  typed-longer res (Do key at body c) b = both (is_typed_in es res body) (is_typed_in ds res body) (has_type es Flag c) (has_type ds Flag c) (typed-longer res body b.0) (has-longer Flag c b.1)
  typed-longer res (InBfs key at s test body) b = both (has_type es Flag test) (has_type ds Flag test) (is_typed_in es res body) (is_typed_in ds res body) (has-longer Flag test b.2) (typed-longer res body b.3)
  typed-longer res (InBfsBoth key at s test body back_key back_test back) b =
      both (has_type es Flag test) (has_type ds Flag test) (is_typed_in es res body && (has_type es Flag back_test && is_typed_in es res back)) (is_typed_in ds res body && (has_type ds Flag back_test && is_typed_in ds res back)) (has-longer Flag test b.2)
      (both (is_typed_in es res body) (is_typed_in ds res body) (has_type es Flag back_test && is_typed_in es res back) (has_type ds Flag back_test && is_typed_in ds res back) (typed-longer res body b.3)
      (both (has_type es Flag back_test) (has_type ds Flag back_test) (is_typed_in es res back) (is_typed_in ds res back) (has-longer Flag back_test b.4) (typed-longer res back b.5)))
  typed-longer res (Return key at e) b = returns-longer res e b

  -- reads, writes and reductions
  once-longer : (n : ℕ) (inner : Bool) (t : Target) → TargetBelow k t → is_at_once es n inner t ≡ is_at_once ds n inner t
  once-longer n false (T.Scalar x at) b = ap (λ d. not (nat_eq d 0)) (depth-longer x b)
  once-longer n false (T.Property x p at) b = refl
  once-longer n true (T.Scalar x at) b = ap (λ d. nat_lt 1 d) (depth-longer x b)
  once-longer n true (T.Property x p at) b = refl

  pub all-once-longer : (n : ℕ) (inner : Bool) (ts : List Target) → TargetsBelow k ts → are_at_once es n inner ts ≡ are_at_once ds n inner ts
  all-once-longer n inner [] b = refl
  all-once-longer n inner (t ∷ ts) b = both (is_at_once es n inner t) (is_at_once ds n inner t) (are_at_once es n inner ts) (are_at_once ds n inner ts) (once-longer n inner t b.0) (all-once-longer n inner ts b.1)

  pub sights-longer : (n : ℕ) (inner : Bool) (s : Stmt) → NamesBelow k s → sights_of es n inner s ≡ sights_of ds n inner s
  sights-longer n inner (Then s t) b = reads-both (sights_of es n inner s) (sights_of ds n inner s) (sights_of es n inner t) (sights_of ds n inner t) (sights-longer n inner s b.0) (sights-longer n inner t b.1)
  sights-longer n inner (Combine key total r ts vs) b = ap (λ c. with_reads (sights_by (if c then sights_at_target else sights_of_target) ts) (sights_in_all vs)) (all-once-longer n inner ts b.0)
  sights-longer n inner (If key c s t) b = ap (with_reads (sights_in c)) (reads-both (sights_of es n inner s) (sights_of ds n inner s) (sights_of es n inner t) (sights_of ds n inner t) (sights-longer n inner s b.1) (sights-longer n inner t b.2))
  sights-longer n inner (Foreach key at h test body) b = ap (λ z. with_reads (record { properties = []; scalars = h.owner ∷ [] }) (with_reads (sights_in test) z)) (sights-longer n true body b.3)
  sights-longer n inner s b = refl

  pub written-longer : (n : ℕ) (inner : Bool) (s : Stmt) → NamesBelow k s → written es n inner s ≡ written ds n inner s
  written-longer n inner (Then s t) b = joined (written es n inner s) (written ds n inner s) (written es n inner t) (written ds n inner t) (written-longer n inner s b.0) (written-longer n inner t b.1)
  written-longer n inner (Combine key total r ts vs) b = ap (λ c. if c then variables_of ts else []) (all-once-longer n inner ts b.0)
  written-longer n inner (If key c s t) b = joined (written es n inner s) (written ds n inner s) (written es n inner t) (written ds n inner t) (written-longer n inner s b.1) (written-longer n inner t b.2)
  written-longer n inner (Foreach key at h test body) b = written-longer n true body b.3
  written-longer n inner s b = refl

  owned-longer : (n : ℕ) (ts : List Target) → TargetsBelow k ts → list_all (is_owned es n) ts ≡ list_all (is_owned ds n) ts
  owned-longer n [] b = refl
  owned-longer n (T.Scalar x at ∷ ts) b = both (not (nat_eq (depth_at es x) 0)) (not (nat_eq (depth_at ds x) 0)) (list_all (is_owned es n) ts) (list_all (is_owned ds n) ts) (ap (λ d. not (nat_eq d 0)) (depth-longer x b.0)) (owned-longer n ts b.1)
  owned-longer n (T.Property x p at ∷ ts) b = ap (λ z. nat_eq x n && z) (owned-longer n ts b.1)

  where-longer : (f g : Target → Bool) → ((t : Target) → TargetBelow k t → f t ≡ g t) → (ts : List Target) → TargetsBelow k ts → variables_where f ts ≡ variables_where g ts
  where-longer f g same [] b = refl
  where-longer f g same (t ∷ ts) b = rw (same t b.0, where-longer f g same ts b.1) refl

  not-owned-longer : (n : ℕ) (t : Target) → TargetBelow k t → not (is_owned es n t) ≡ not (is_owned ds n t)
  not-owned-longer n (T.Scalar x at) b = ap (λ d. not (not (nat_eq d 0))) (depth-longer x b)
  not-owned-longer n (T.Property x p at) b = refl

  kept-longer : (n : ℕ) (t : Target) → TargetBelow k t → is_kept es n t ≡ is_kept ds n t
  kept-longer n (T.Scalar x at) b = ap (λ d. nat_eq d 1) (depth-longer x b)
  kept-longer n (T.Property x p at) b = refl

  by-longer : (n number : ℕ) (r : Reduce) (ts : List Target) → TargetsBelow k ts → reduced_by es n number r ts ≡ reduced_by ds n number r ts
  by-longer n number r ts b =
      rw (owned-longer n ts b, where-longer (λ t. not (is_owned es n t)) (λ t. not (is_owned ds n t)) (not-owned-longer n) ts b, where-longer (is_kept es n) (is_kept ds n) (kept-longer n) ts b) refl

  pub reduced-longer : (n : ℕ) (inner : Bool) (s : Stmt) → NamesBelow k s → reduced es n inner s ≡ reduced ds n inner s
  reduced-longer n inner (Then s t) b = joined (reduced es n inner s) (reduced ds n inner s) (reduced es n inner t) (reduced ds n inner t) (reduced-longer n inner s b.0) (reduced-longer n inner t b.1)
  reduced-longer n inner (Combine key total r ts vs) b =
      ap (λ c. if c then [] else reduced_by es n total.key.statement r ts ∷ []) (all-once-longer n inner ts b.0)
      ∙ ap (λ (one : Reduced). if are_at_once ds n inner ts then [] else one ∷ []) (by-longer n total.key.statement r ts b.0)
  reduced-longer n inner (If key c s t) b = joined (reduced es n inner s) (reduced ds n inner s) (reduced es n inner t) (reduced ds n inner t) (reduced-longer n inner s b.1) (reduced-longer n inner t b.2)
  reduced-longer n inner (Foreach key at h test body) b = reduced-longer n true body b.3
  reduced-longer n inner s b = refl

  inner-longer : (n : ℕ) (test : Expr) (s : Stmt) → NamesBelow k s → inner_shares es n test s ≡ inner_shares ds n test s
  inner-longer n test s b = rw (sights-longer n true s b) (rw (reduced-longer n true s b) refl)

  inners-longer : (n : ℕ) (s : Stmt) → NamesBelow k s → inners_share es n s ≡ inners_share ds n s
  inners-longer n (Then s t) b = both (inners_share es n s) (inners_share ds n s) (inners_share es n t) (inners_share ds n t) (inners-longer n s b.0) (inners-longer n t b.1)
  inners-longer n (If key c s t) b = both (inners_share es n s) (inners_share ds n s) (inners_share es n t) (inners_share ds n t) (inners-longer n s b.1) (inners-longer n t b.2)
  inners-longer n (Foreach key at h test body) b = inner-longer n test body b.3
  inners-longer n s b = refl

  pub shares-longer : (n : ℕ) (test : Expr) (s : Stmt) → NamesBelow k s → shares es n test s ≡ shares ds n test s
  shares-longer n test s b = rw (sights-longer n false s b) (rw (written-longer n false s b) (rw (reduced-longer n false s b) (rw (inners-longer n s b) refl)))

  level-longer : (n : ℕ) (s : Stmt) → NamesBelow k s → level_reads_of es n s ≡ level_reads_of ds n s
  level-longer n (Then s t) b = joined (level_reads_of es n s) (level_reads_of ds n s) (level_reads_of es n t) (level_reads_of ds n t) (level-longer n s b.0) (level-longer n t b.1)
  level-longer n (Combine key total r ts vs) b = ap (λ c. (sights_by (if c then sights_at_target else sights_of_target) ts).properties ++ level_reads_in_all vs) (all-once-longer n false ts b.0)
  level-longer n (If key c s t) b = ap (λ z. level_reads_in c ++ z) (joined (level_reads_of es n s) (level_reads_of ds n s) (level_reads_of es n t) (level_reads_of ds n t) (level-longer n s b.1) (level-longer n t b.2))
  level-longer n (Foreach key at h test body) b = ap (λ (z : Sights). at_level h (reads_in test ++ z.properties)) (sights-longer n true body b.3)
  level-longer n s b = refl

  pub search-longer : (n : ℕ) (test : Expr) (s : Stmt) → NamesBelow k s → search_shares es n test s ≡ search_shares ds n test s
  search-longer n test s b = rw (level-longer n s b) (rw (sights-longer n false s b) (rw (written-longer n false s b) (rw (reduced-longer n false s b) (rw (inners-longer n s b) refl))))

  pub loops-longer : (s : Stmt) → NamesBelow k s → loops_share es s ≡ loops_share ds s
  loops-longer (Then s t) b = both (loops_share es s) (loops_share ds s) (loops_share es t) (loops_share ds t) (loops-longer s b.0) (loops-longer t b.1)
  loops-longer (Group key at g p e) b = shares-longer g always (Assign key (T.Property g p at) e) ((b.0, b.1), b.2)
  loops-longer (Foreach key at h test body) b = shares-longer h.iterator test body b.3
  loops-longer (For key at h test body) b = loops-longer body b.3
  loops-longer (If key c s t) b = both (loops_share es s) (loops_share ds s) (loops_share es t) (loops_share ds t) (loops-longer s b.1) (loops-longer t b.2)
  loops-longer (While key at c body) b = loops-longer body b.1
  loops-longer (Do key at body c) b = loops-longer body b.0
  loops-longer (InBfs key at s test body) b = search-longer s.iterator test body b.3
  loops-longer (InBfsBoth key at s test body back_key back_test back) b =
      both (search_shares es s.iterator test body) (search_shares ds s.iterator test body) (search_shares es s.iterator back_test back) (search_shares ds s.iterator back_test back) (search-longer s.iterator test body b.3) (search-longer s.iterator back_test back b.5)
  loops-longer s b = refl

  -- forms
  within-longer : (depth : ℕ) (ts : List Target) → TargetsBelow k ts → list_all (is_within es depth) ts ≡ list_all (is_within ds depth) ts
  within-longer depth [] b = refl
  within-longer depth (T.Scalar x at ∷ ts) b = both (nat_le (depth_at es x) depth) (nat_le (depth_at ds x) depth) (list_all (is_within es depth) ts) (list_all (is_within ds depth) ts) (ap (λ d. nat_le d depth) (depth-longer x b.0)) (within-longer depth ts b.1)
  within-longer depth (T.Property x p at ∷ ts) b = within-longer depth ts b.1

  at-depth-longer : (depth n : ℕ) (t : Target) → TargetBelow k t → is_at_depth es depth n t ≡ is_at_depth ds depth n t
  at-depth-longer depth n (T.Scalar x at) b = ap (λ d. nat_eq d depth) (depth-longer x b)
  at-depth-longer depth n (T.Property x p at) b = refl

  inner-form-longer : (its : List ℕ) (s : Stmt) → NamesBelow k s → is_inner_code es its s ≡ is_inner_code ds its s
  inner-form-longer its (Then s t) b = both (is_inner_code es its s) (is_inner_code ds its s) (is_inner_code es its t) (is_inner_code ds its t) (inner-form-longer its s b.0) (inner-form-longer its t b.1)
  inner-form-longer its (Declare key x e) b = ap (λ d. nat_eq d 2 && may (is_flat its true) e) (depth-longer x b.0)
  inner-form-longer its (Assign key (T.Scalar x at) e) b = ap (λ d. nat_eq d 2 && is_flat its true e) (depth-longer x b.0)
  inner-form-longer its (Assign key (T.Property x p at) e) b = refl
  inner-form-longer its (Combine key total r ts vs) b = ap (λ w. w && list_all (is_flat its true) vs) (within-longer 2 ts b.0)
  inner-form-longer its (If key c s t) b = ap (λ z. is_flat its true c && z) (both (is_inner_code es its s) (is_inner_code ds its s) (is_inner_code es its t) (is_inner_code ds its t) (inner-form-longer its s b.1) (inner-form-longer its t b.2))
  inner-form-longer its s b = refl

  outer-form-longer : (levels : Bool) (n : ℕ) (s : Stmt) → NamesBelow k s → is_outer_code es levels n s ≡ is_outer_code ds levels n s
  outer-form-longer levels n (Then s t) b = both (is_outer_code es levels n s) (is_outer_code ds levels n s) (is_outer_code es levels n t) (is_outer_code ds levels n t) (outer-form-longer levels n s b.0) (outer-form-longer levels n t b.1)
  outer-form-longer levels n (Declare key x e) b = ap (λ d. nat_eq d 1 && may (is_outer_expr levels n) e) (depth-longer x b.0)
  outer-form-longer levels n (Assign key t e) b = ap (λ z. z && is_outer_expr levels n e) (at-depth-longer 1 n t b.0)
  outer-form-longer levels n (Defer key (T.Scalar x at) e) b = refl
  outer-form-longer levels n (Defer key (T.Property x p at) e) b = refl
  outer-form-longer levels n (Combine key total r ts vs) b = ap (λ w. w && list_all (is_outer_expr levels n) vs) (within-longer 1 ts b.0)
  outer-form-longer levels n (If key c s t) b = ap (λ z. is_outer_expr levels n c && z) (both (is_outer_code es levels n s) (is_outer_code ds levels n s) (is_outer_code es levels n t) (is_outer_code ds levels n t) (outer-form-longer levels n s b.1) (outer-form-longer levels n t b.2))
  outer-form-longer levels n (Foreach key at h test body) b = ap (λ z. is_inner_head levels n h && (is_flat (n ∷ h.iterator ∷ []) true test && z)) (inner-form-longer (n ∷ h.iterator ∷ []) body b.3)
  outer-form-longer levels n s b = refl

  pub phase-form-longer : (s : Stmt) → NamesBelow k s → is_phase_code es s ≡ is_phase_code ds s
  phase-form-longer (Then s t) b = both (is_phase_code es s) (is_phase_code ds s) (is_phase_code es t) (is_phase_code ds t) (phase-form-longer s b.0) (phase-form-longer t b.1)
  phase-form-longer (Declare key x e) b = ap (λ d. nat_eq d 0 && may is_phase_expr e) (depth-longer x b.0)
  phase-form-longer (Assign key (T.Scalar x at) e) b = ap (λ d. nat_le d 0 && is_phase_expr e) (depth-longer x b.0)
  phase-form-longer (Assign key (T.Property x p at) e) b = refl
  phase-form-longer (Combine key total r ts vs) b = ap (λ w. w && list_all is_phase_expr vs) (within-longer 0 ts b.0)
  phase-form-longer (Foreach key at h test body) b = ap (λ z. is_nodes h.domain && (is_outer_expr false h.iterator test && z)) (outer-form-longer false h.iterator body b.3)
  phase-form-longer (For key at h test body) b = ap (λ z. is_nodes h.domain && (is_phase_expr test && z)) (phase-form-longer body b.3)
  phase-form-longer (If key c s t) b = ap (λ z. is_phase_expr c && z) (both (is_phase_code es s) (is_phase_code ds s) (is_phase_code es t) (is_phase_code ds t) (phase-form-longer s b.1) (phase-form-longer t b.2))
  phase-form-longer (While key at c body) b = ap (λ z. is_phase_expr c && z) (phase-form-longer body b.1)
  phase-form-longer (Do key at body c) b = ap (λ z. z && is_phase_expr c) (phase-form-longer body b.0)
  phase-form-longer (InBfs key at s test body) b = ap (λ z. is_outer_expr false s.iterator test && z) (outer-form-longer true s.iterator body b.3)
  phase-form-longer (InBfsBoth key at s test body back_key back_test back) b =
      ap (λ z. is_outer_expr false s.iterator test && z)
      (both (is_outer_code es true s.iterator body) (is_outer_code ds true s.iterator body) (is_outer_expr false s.iterator back_test && is_outer_code es true s.iterator back) (is_outer_expr false s.iterator back_test && is_outer_code ds true s.iterator back) (outer-form-longer true s.iterator body b.3)
      (ap (λ z. is_outer_expr false s.iterator back_test && z) (outer-form-longer true s.iterator back b.5)))
  phase-form-longer s b = refl
