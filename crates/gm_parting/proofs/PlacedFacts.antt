-- A table that differs from another in the depths of iterators alone: what is known of a body is the same.
use Rattle.std.proofs.Common.{◌≡◌, ◌<◌, ℕ, Bool, true, false, cond, List, [], ◌∷◌, ◌++◌, refl, ap, ◌∙◌, Option, Some, None}
use Rattle.std.specs.Prelude.{◌&&◌, ◌||◌, not, nat_eq, nat_lt, nat_le}
use Rattle.std.specs.List.{list_all}
use Rattle.gm_value.specs.declared.values.VType.{VType}
use Rattle.gm_value.specs.declared.values.VType.TheVariants.{Flag}
use Rattle.gm_value.specs.declared.reductions.Reduce.{Reduce}
use Rattle.gm_value.specs.Operations.{is_numeric, fits2, type1, type2}
use Rattle.gm_value.specs.Reductions.{reduces}
use Rattle.gm_ast.specs.declared.tree.Declaration.{Declaration}
use Rattle.gm_ast.specs.declared.tree.Target.{Target}
use Rattle.gm_ast.specs.declared.tree.Target.TheVariants as T
use Rattle.gm_ast.specs.Program.{Expr, Const, Var, Property, EdgeProperty, Degree, NodeCount, EdgeCount, Live, Unary, Binary, Both, Either, Choose, Folded, Stmt, Skip, Then, Declare, DeclareEdge, Assign, Defer, Combine, Group, Foreach, For, If, While, Do, InBfs, InBfsBoth, Return}
use Rattle.gm_semantics.specs.Expressions.{reduce_of}
use Rattle.gm_semantics.specs.Frames.{ReadsBelow, MayReadBelow, AllReadBelow, TargetBelow, TargetsBelow, NamesBelow}
use Rattle.gm_forms.specs.Forms.{depth_at, may, is_flat, is_inner_head, is_within, is_own, is_given, is_inner_local, is_inner_given, are_reduced, is_inner_body, is_outer_body, is_plain}
use Rattle.gm_forms.specs.Sharing.{Sights, with_reads, sights_in, sights_in_all, sights_of, sights_of_target, sights_at_target, sights_by, sights_of_targets, is_at_once, are_at_once, is_owned, is_kept, variables_of, written_by, variables_where, Reduced, reduced_by, written, reduced, deferred, inner_shares, inners_share, shares, disjoint, shared_in, kept_in, read_at, read_anywhere, read_elsewhere, reads_in, all_agree, all_last_one_way, targets_alike}
use Rattle.gm_forms.specs.Typing.{type_at, type_if, by_one, is_type, takes, type_in, has_type, may_have_type, target_type, all_have_types, keeps_tuples, fits_targets, returns_type, is_typed_in, takes1}

both-same : {A : Type 0} (f : A → A → A) (a b c d : A) → a ≡ c → b ≡ d → f a b ≡ f c d
both-same f a b c d p q = ap (λ x. f x b) p ∙ ap (f c) q

and-same : (a b c d : Bool) → a ≡ c → b ≡ d → a && b ≡ c && d
and-same a b c d p q = ap (λ x. x && b) p ∙ ap (λ x. c && x) q

-- what a body writes, reduces to and declares is declared inside of as many loops
module _ (ds dt : List Declaration) where
  abbrev pub Same : ℕ → Type 0
  Same x = depth_at dt x ≡ depth_at ds x

  abbrev pub FitAt : Target → Type 0
  FitAt (T.Scalar x at) = Same x
  FitAt (T.Property x p at) = Unit {0}

  abbrev pub FitAll : List Target → Type 0
  FitAll [] = Unit {0}
  FitAll (t ∷ ts) = FitAt t × FitAll ts

  abbrev pub Fit : Stmt → Type 0
  Fit Skip = Unit {0}
  Fit (Then a b) = Fit a × Fit b
  Fit (Declare key x e) = Same x × Unit {0}
  Fit (DeclareEdge x y at) = Unit {0}
  Fit (Assign key t e) = FitAt t × Unit {0}
  Fit (Defer key t e) = FitAt t × Unit {0}
  Fit (Combine key total r ts es) = FitAll ts × Unit {0}
  Fit (Group key at g p e) = ⊥
  Fit (Foreach key at h test body) = Unit {0} × Unit {0} × Unit {0} × Fit body
  Fit (For key at h test body) = Unit {0} × Unit {0} × Unit {0} × Fit body
  Fit (If key c a b) = Unit {0} × Fit a × Fit b
  Fit (While key at c body) = Unit {0} × Fit body
  Fit (Do key at body c) = Fit body × Unit {0}
  Fit (InBfs key at search c body) = ⊥
  Fit (InBfsBoth key at search c body back_key d back) = ⊥
  Fit (Return key at e) = Unit {0}

module _ (ds dt : List Declaration) (k : ℕ) (types : (x : ℕ) → type_at dt x ≡ type_at ds x) where
  vtype-same : (x : ℕ) → x < k → type_at dt x ≡ type_at ds x
  vtype-same x h = types x

  -- types
  type-same : (e : Expr) → ReadsBelow k e → type_in dt e ≡ type_in ds e
  type-same (Const v) h = refl
  type-same (Var x at) h = ap Some (vtype-same x h)
  type-same (Property x p at) h = ap Some (vtype-same p h.1)
  type-same (EdgeProperty x p at) h = ap Some (vtype-same p h)
  type-same (Degree d x at) h = refl
  type-same NodeCount h = refl
  type-same EdgeCount h = refl
  type-same (Live x at) h = refl
  type-same (Unary op at e) h = ap (λ t. by_one t (λ t. type_if (takes1 op t) (type1 op t))) (type-same e h)
  type-same (Binary op at a b) h =
      both-same (λ x y. by_one x (λ t. by_one y (λ u. type_if (fits2 op t u) (type2 op t)))) (type_in dt a) (type_in dt b) (type_in ds a) (type_in ds b) (type-same a h.0) (type-same b h.1)
  type-same (Both a b) h = both-same (λ x y. type_if (is_type Flag x && is_type Flag y) Flag) (type_in dt a) (type_in dt b) (type_in ds a) (type_in ds b) (type-same a h.0) (type-same b h.1)
  type-same (Either a b) h = both-same (λ x y. type_if (is_type Flag x && is_type Flag y) Flag) (type_in dt a) (type_in dt b) (type_in ds a) (type_in ds b) (type-same a h.0) (type-same b h.1)
  type-same (Choose c a b) h =
      ap (λ z. by_one (type_in dt a) (λ t. type_if (is_type Flag z && is_type t (type_in dt b)) t)) (type-same c h.0)
      ∙ both-same (λ x y. by_one x (λ t. type_if (is_type Flag (type_in ds c) && is_type t y) t)) (type_in dt a) (type_in dt b) (type_in ds a) (type_in ds b) (type-same a h.1) (type-same b h.2)
  type-same (Folded f hd test e) h =
      both-same (λ x y. type_if (is_type Flag x && (is_type (takes f.word f.vtype) y && reduces (reduce_of f.word) f.vtype)) f.vtype) (type_in dt test) (type_in dt e) (type_in ds test) (type_in ds e) (type-same test h.1) (type-same e h.2)

  pub has-type-same : (t : VType) (e : Expr) → ReadsBelow k e → has_type dt t e ≡ has_type ds t e
  has-type-same t e h = ap (is_type t) (type-same e h)

  may-type-same : (t : VType) (e : Option Expr) → MayReadBelow k e → may_have_type dt t e ≡ may_have_type ds t e
  may-type-same t None h = refl
  may-type-same t (Some e) h = has-type-same t e h

  target-type-same : (t : Target) → TargetBelow k t → target_type dt t ≡ target_type ds t
  target-type-same (T.Scalar x at) h = vtype-same x h
  target-type-same (T.Property x p at) h = vtype-same p h.1

  values-same : (ts : List Target) (es : List Expr) → TargetsBelow k ts → AllReadBelow k es → all_have_types dt ts es ≡ all_have_types ds ts es
  values-same [] [] h i = refl
  values-same [] (e ∷ es) h i = refl
  values-same (t ∷ ts) [] h i = refl
  values-same (t ∷ ts) (e ∷ es) h i =
      and-same (has_type dt (target_type dt t) e) (all_have_types dt ts es) (has_type ds (target_type ds t) e) (all_have_types ds ts es)
      (ap (λ u. has_type dt u e) (target-type-same t h.0) ∙ has-type-same (target_type ds t) e i.0) (values-same ts es h.1 i.1)

  fits-same : (r : Reduce) (ts : List Target) → TargetsBelow k ts → fits_targets dt r ts ≡ fits_targets ds r ts
  fits-same r [] h = refl
  fits-same r (t ∷ []) h = ap (reduces r) (target-type-same t h.0)
  fits-same r (t ∷ (u ∷ ts)) h = ap (λ v. keeps_tuples r && is_numeric v) (target-type-same t h.0)

  returns-same : (r : Option VType) (e : Option Expr) → MayReadBelow k e → returns_type dt r e ≡ returns_type ds r e
  returns-same None None h = refl
  returns-same (Some t) (Some e) h = has-type-same t e h
  returns-same None (Some e) h = refl
  returns-same (Some t) None h = refl

  pub typed-same : (r : Option VType) (s : Stmt) → NamesBelow k s → is_typed_in dt r s ≡ is_typed_in ds r s
  typed-same r Skip h = refl
  typed-same r (Then a b) h = and-same (is_typed_in dt r a) (is_typed_in dt r b) (is_typed_in ds r a) (is_typed_in ds r b) (typed-same r a h.0) (typed-same r b h.1)
  typed-same r (Declare key x e) h = ap (λ t. may_have_type dt t e) (vtype-same x h.0) ∙ may-type-same (type_at ds x) e h.1
  typed-same r (DeclareEdge x y at) h = refl
  typed-same r (Assign key t e) h = ap (λ u. has_type dt u e) (target-type-same t h.0) ∙ has-type-same (target_type ds t) e h.1
  typed-same r (Defer key t e) h = ap (λ u. has_type dt u e) (target-type-same t h.0) ∙ has-type-same (target_type ds t) e h.1
  typed-same r (Combine key total op ts es) h = and-same (all_have_types dt ts es) (fits_targets dt op ts) (all_have_types ds ts es) (fits_targets ds op ts) (values-same ts es h.0 h.1) (fits-same op ts h.0)
  typed-same r (Group key at g p e) h = ap (λ u. has_type dt u e) (vtype-same p h.1) ∙ has-type-same (type_at ds p) e h.2
  typed-same r (Foreach key at hd test body) h = and-same (has_type dt Flag test) (is_typed_in dt r body) (has_type ds Flag test) (is_typed_in ds r body) (has-type-same Flag test h.2) (typed-same r body h.3)
  typed-same r (For key at hd test body) h = and-same (has_type dt Flag test) (is_typed_in dt r body) (has_type ds Flag test) (is_typed_in ds r body) (has-type-same Flag test h.2) (typed-same r body h.3)
  typed-same r (If key c a b) h =
      and-same (has_type dt Flag c) (is_typed_in dt r a && is_typed_in dt r b) (has_type ds Flag c) (is_typed_in ds r a && is_typed_in ds r b) (has-type-same Flag c h.0)
      (and-same (is_typed_in dt r a) (is_typed_in dt r b) (is_typed_in ds r a) (is_typed_in ds r b) (typed-same r a h.1) (typed-same r b h.2))
  typed-same r (While key at c body) h = and-same (has_type dt Flag c) (is_typed_in dt r body) (has_type ds Flag c) (is_typed_in ds r body) (has-type-same Flag c h.0) (typed-same r body h.1)
  typed-same r (Do key at body c) h = and-same (is_typed_in dt r body) (has_type dt Flag c) (is_typed_in ds r body) (has_type ds Flag c) (typed-same r body h.0) (has-type-same Flag c h.1)
  typed-same r (InBfs key at hd c body) h = and-same (has_type dt Flag c) (is_typed_in dt r body) (has_type ds Flag c) (is_typed_in ds r body) (has-type-same Flag c h.2) (typed-same r body h.3)
  typed-same r (InBfsBoth key at hd c body back_key d back) h =
      and-same (has_type dt Flag c) (is_typed_in dt r body && (has_type dt Flag d && is_typed_in dt r back)) (has_type ds Flag c) (is_typed_in ds r body && (has_type ds Flag d && is_typed_in ds r back)) (has-type-same Flag c h.2)
      (and-same (is_typed_in dt r body) (has_type dt Flag d && is_typed_in dt r back) (is_typed_in ds r body) (has_type ds Flag d && is_typed_in ds r back) (typed-same r body h.3)
      (and-same (has_type dt Flag d) (is_typed_in dt r back) (has_type ds Flag d) (is_typed_in ds r back) (has-type-same Flag d h.4) (typed-same r back h.5)))
  typed-same r (Return key at e) h = returns-same r e h

module _ (ds dt : List Declaration) where
  depth-same : (x : ℕ) → Same ds dt x → depth_at dt x ≡ depth_at ds x
  depth-same x h = h

  -- tests of targets
  targets-same : (f g : Target → Bool) → ((t : Target) → FitAt ds dt t → f t ≡ g t) → (ts : List Target) → FitAll ds dt ts → list_all f ts ≡ list_all g ts
  targets-same f g e [] h = refl
  targets-same f g e (t ∷ ts) h = and-same (f t) (list_all f ts) (g t) (list_all g ts) (e t h.0) (targets-same f g e ts h.1)

  where-same : (f g : Target → Bool) → ((t : Target) → FitAt ds dt t → f t ≡ g t) → (ts : List Target) → FitAll ds dt ts → variables_where f ts ≡ variables_where g ts
  where-same f g e [] h = refl
  where-same f g e (t ∷ ts) h =
      ap (λ b. cond b (written_by t ++ variables_where f ts) (variables_where f ts)) (e t h.0) ∙ ap (λ xs. cond (g t) (written_by t ++ xs) xs) (where-same f g e ts h.1)

  owned-same : (n : ℕ) (t : Target) → FitAt ds dt t → is_owned dt n t ≡ is_owned ds n t
  owned-same n (T.Scalar x at) h = ap (λ d. not (nat_eq d 0)) (depth-same x h)
  owned-same n (T.Property x p at) h = refl

  kept-same : (n : ℕ) (t : Target) → FitAt ds dt t → is_kept dt n t ≡ is_kept ds n t
  kept-same n (T.Scalar x at) h = ap (λ d. nat_eq d 1) (depth-same x h)
  kept-same n (T.Property x p at) h = refl

  once-same : (n : ℕ) (inner : Bool) (t : Target) → FitAt ds dt t → is_at_once dt n inner t ≡ is_at_once ds n inner t
  once-same n false (T.Scalar x at) h = ap (λ d. not (nat_eq d 0)) (depth-same x h)
  once-same n false (T.Property x p at) h = refl
  once-same n true (T.Scalar x at) h = ap (nat_lt 1) (depth-same x h)
  once-same n true (T.Property x p at) h = refl

  all-once : (n : ℕ) (inner : Bool) (ts : List Target) → FitAll ds dt ts → are_at_once dt n inner ts ≡ are_at_once ds n inner ts
  all-once n inner ts h = targets-same (is_at_once dt n inner) (is_at_once ds n inner) (once-same n inner) ts h

  reads-same : (n : ℕ) (inner : Bool) (ts : List Target) → FitAll ds dt ts → sights_of_targets dt n inner ts ≡ sights_of_targets ds n inner ts
  reads-same n inner ts h = ap (λ b. sights_by (cond b sights_at_target sights_of_target) ts) (all-once n inner ts h)

  by-same : (n number : ℕ) (r : Reduce) (ts : List Target) → FitAll ds dt ts → reduced_by dt n number r ts ≡ reduced_by ds n number r ts
  by-same n number r ts h =
      ap (λ b. record { variables = variables_of ts; reduce = r; number = number; own = b; shared = variables_where (λ t. not (is_owned dt n t)) ts; kept = variables_where (is_kept dt n) ts }) (targets-same (is_owned dt n) (is_owned ds n) (owned-same n) ts h)
      ∙ ap (λ xs. record { variables = variables_of ts; reduce = r; number = number; own = list_all (is_owned ds n) ts; shared = xs; kept = variables_where (is_kept dt n) ts })
      (where-same (λ t. not (is_owned dt n t)) (λ t. not (is_owned ds n t)) (λ t b. ap not (owned-same n t b)) ts h)
      ∙ ap (λ xs. record { variables = variables_of ts; reduce = r; number = number; own = list_all (is_owned ds n) ts; shared = variables_where (λ t. not (is_owned ds n t)) ts; kept = xs })
      (where-same (is_kept dt n) (is_kept ds n) (kept-same n) ts h)

  -- what a body reads, writes and reduces
  pub sights-same : (n : ℕ) (inner : Bool) (s : Stmt) → Fit ds dt s → sights_of dt n inner s ≡ sights_of ds n inner s
  sights-same n inner (Then a b) h = both-same with_reads (sights_of dt n inner a) (sights_of dt n inner b) (sights_of ds n inner a) (sights_of ds n inner b) (sights-same n inner a h.0) (sights-same n inner b h.1)
  sights-same n inner (Combine key total r ts es) h = ap (λ x. with_reads x (sights_in_all es)) (reads-same n inner ts h.0)
  sights-same n inner (If key c a b) h =
      ap (with_reads (sights_in c)) (both-same with_reads (sights_of dt n inner a) (sights_of dt n inner b) (sights_of ds n inner a) (sights_of ds n inner b) (sights-same n inner a h.1) (sights-same n inner b h.2))
  sights-same n inner (Foreach key at hd test body) h = ap (λ x. with_reads (record { properties = []; scalars = hd.owner ∷ [] }) (with_reads (sights_in test) x)) (sights-same n true body h.3)
  sights-same n inner s h = refl

  pub written-same : (n : ℕ) (inner : Bool) (s : Stmt) → Fit ds dt s → written dt n inner s ≡ written ds n inner s
  written-same n inner (Then a b) h = both-same (λ x y. x ++ y) (written dt n inner a) (written dt n inner b) (written ds n inner a) (written ds n inner b) (written-same n inner a h.0) (written-same n inner b h.1)
  written-same n inner (Combine key total r ts es) h = ap (λ b. cond b (variables_of ts) []) (all-once n inner ts h.0)
  written-same n inner (If key c a b) h = both-same (λ x y. x ++ y) (written dt n inner a) (written dt n inner b) (written ds n inner a) (written ds n inner b) (written-same n inner a h.1) (written-same n inner b h.2)
  written-same n inner (Foreach key at hd test body) h = written-same n true body h.3
  written-same n inner s h = refl

  pub reduced-same : (n : ℕ) (inner : Bool) (s : Stmt) → Fit ds dt s → reduced dt n inner s ≡ reduced ds n inner s
  reduced-same n inner (Then a b) h = both-same (λ x y. x ++ y) (reduced dt n inner a) (reduced dt n inner b) (reduced ds n inner a) (reduced ds n inner b) (reduced-same n inner a h.0) (reduced-same n inner b h.1)
  reduced-same n inner (Combine key total r ts es) h =
      ap (λ b. cond b [] (reduced_by dt n total.key.statement r ts ∷ [])) (all-once n inner ts h.0) ∙ ap (λ x. cond (are_at_once ds n inner ts) [] (x ∷ [])) (by-same n total.key.statement r ts h.0)
  reduced-same n inner (If key c a b) h = both-same (λ x y. x ++ y) (reduced dt n inner a) (reduced dt n inner b) (reduced ds n inner a) (reduced ds n inner b) (reduced-same n inner a h.1) (reduced-same n inner b h.2)
  reduced-same n inner (Foreach key at hd test body) h = reduced-same n true body h.3
  reduced-same n inner s h = refl

  inner-same : (n : ℕ) (test : Expr) (body : Stmt) → Fit ds dt body → inner_shares dt n test body ≡ inner_shares ds n test body
  inner-same n test body h =
      ap (λ (x : Sights). let seen = with_reads (sights_in test) x in disjoint (kept_in (reduced dt n true body)) (read_at n seen.properties ++ seen.scalars) && all_last_one_way (reduced dt n true body)) (sights-same n true body h)
      ∙ ap (λ (rs : List Reduced). let seen = with_reads (sights_in test) (sights_of ds n true body) in disjoint (kept_in rs) (read_at n seen.properties ++ seen.scalars) && all_last_one_way rs) (reduced-same n true body h)

  pub inners-same : (n : ℕ) (s : Stmt) → Fit ds dt s → inners_share dt n s ≡ inners_share ds n s
  inners-same n (Then a b) h = and-same (inners_share dt n a) (inners_share dt n b) (inners_share ds n a) (inners_share ds n b) (inners-same n a h.0) (inners-same n b h.1)
  inners-same n (If key c a b) h = and-same (inners_share dt n a) (inners_share dt n b) (inners_share ds n a) (inners_share ds n b) (inners-same n a h.1) (inners-same n b h.2)
  inners-same n (Foreach key at hd test body) h = inner-same n test body h.3
  inners-same n s h = refl

  abbrev shares-by : ℕ → Expr → Stmt → Sights → List ℕ → List Reduced → Bool → Bool
  shares-by n test body own_sights own all inners =
      let seen = with_reads (sights_in test) own_sights in
      disjoint (shared_in all) (read_anywhere seen.properties ++ (seen.scalars ++ own))
      && (disjoint (own ++ kept_in all) (read_elsewhere n (reads_in test ++ own_sights.properties))
      && (disjoint (deferred body) (own ++ (shared_in all ++ kept_in all))
      && (all_agree all && (inners && targets_alike body))))

  pub shares-same : (n : ℕ) (test : Expr) (body : Stmt) → Fit ds dt body → shares dt n test body ≡ shares ds n test body
  shares-same n test body h =
      ap (λ x. shares-by n test body x (written dt n false body) (reduced dt n false body) (inners_share dt n body)) (sights-same n false body h)
      ∙ ap (λ x. shares-by n test body (sights_of ds n false body) x (reduced dt n false body) (inners_share dt n body)) (written-same n false body h)
      ∙ ap (λ x. shares-by n test body (sights_of ds n false body) (written ds n false body) x (inners_share dt n body)) (reduced-same n false body h)
      ∙ ap (λ x. shares-by n test body (sights_of ds n false body) (written ds n false body) (reduced ds n false body) x) (inners-same n body h)

  -- forms
  depth-is : (d x : ℕ) → Same ds dt x → nat_eq (depth_at dt x) d ≡ nat_eq (depth_at ds x) d
  depth-is d x h = ap (λ y. nat_eq y d) (depth-same x h)

  within-same : (d : ℕ) (t : Target) → FitAt ds dt t → is_within dt d t ≡ is_within ds d t
  within-same d (T.Scalar x at) h = ap (λ y. nat_le y d) (depth-same x h)
  within-same d (T.Property x p at) h = refl

  own-same : (n : ℕ) (t : Target) → FitAt ds dt t → is_own dt n t ≡ is_own ds n t
  own-same n (T.Scalar x at) h = depth-is 1 x h
  own-same n (T.Property x p at) h = refl

  given-same : (n : ℕ) (t : Target) → FitAt ds dt t → is_given dt n t ≡ is_given ds n t
  given-same n (T.Scalar x at) h = depth-is 0 x h
  given-same n (T.Property x p at) h = refl

  local-same : (t : Target) → FitAt ds dt t → is_inner_local dt t ≡ is_inner_local ds t
  local-same (T.Scalar x at) h = depth-is 2 x h
  local-same (T.Property x p at) h = refl

  inner-given-same : (t : Target) → FitAt ds dt t → is_inner_given dt t ≡ is_inner_given ds t
  inner-given-same (T.Scalar x at) h = ap (λ y. nat_lt y 2) (depth-same x h)
  inner-given-same (T.Property x p at) h = refl

  plain-same : (t : Target) → FitAt ds dt t → is_plain dt t ≡ is_plain ds t
  plain-same (T.Scalar x at) h = depth-is 0 x h
  plain-same (T.Property x p at) h = refl

  pub all-plain : (ts : List Target) → FitAll ds dt ts → list_all (is_plain dt) ts ≡ list_all (is_plain ds) ts
  all-plain = targets-same (is_plain dt) (is_plain ds) plain-same

  reduced-to : (f g : Target → Bool) (d : ℕ) (r : Reduce) (ts : List Target) → ((t : Target) → FitAt ds dt t → f t ≡ g t) → FitAll ds dt ts → are_reduced f (is_within dt d) r ts ≡ are_reduced g (is_within ds d) r ts
  reduced-to f g d r ts e h =
      ap (λ b. b || (keeps_tuples r && list_all (is_within dt d) ts)) (targets-same f g e ts h) ∙ ap (λ b. list_all g ts || (keeps_tuples r && b)) (targets-same (is_within dt d) (is_within ds d) (within-same d) ts h)

  inner-body-same : (its : List ℕ) (edge : Bool) (s : Stmt) → Fit ds dt s → is_inner_body dt its edge s ≡ is_inner_body ds its edge s
  inner-body-same its edge (Then a b) h = and-same (is_inner_body dt its edge a) (is_inner_body dt its edge b) (is_inner_body ds its edge a) (is_inner_body ds its edge b) (inner-body-same its edge a h.0) (inner-body-same its edge b h.1)
  inner-body-same its edge (Declare key x e) h = ap (λ b. b && may (is_flat its edge) e) (depth-is 2 x h.0)
  inner-body-same its edge (Assign key t e) h = ap (λ b. b && is_flat its edge e) (local-same t h.0)
  inner-body-same its edge (Combine key total r ts es) h = ap (λ b. b && list_all (is_flat its edge) es) (reduced-to (is_inner_given dt) (is_inner_given ds) 2 r ts inner-given-same h.0)
  inner-body-same its edge (If key c a b) h =
      ap (λ x. is_flat its edge c && x) (and-same (is_inner_body dt its edge a) (is_inner_body dt its edge b) (is_inner_body ds its edge a) (is_inner_body ds its edge b) (inner-body-same its edge a h.1) (inner-body-same its edge b h.2))
  inner-body-same its edge s h = refl

  pub outer-body-same : (n : ℕ) (s : Stmt) → Fit ds dt s → is_outer_body dt false n s ≡ is_outer_body ds false n s
  outer-body-same n (Then a b) h = and-same (is_outer_body dt false n a) (is_outer_body dt false n b) (is_outer_body ds false n a) (is_outer_body ds false n b) (outer-body-same n a h.0) (outer-body-same n b h.1)
  outer-body-same n (Declare key x e) h = ap (λ b. b && may (is_flat (n ∷ []) false) e) (depth-is 1 x h.0)
  outer-body-same n (Assign key t e) h = ap (λ b. b && is_flat (n ∷ []) false e) (own-same n t h.0)
  outer-body-same n (Defer key (T.Scalar x at) e) h = refl
  outer-body-same n (Defer key (T.Property x p at) e) h = refl
  outer-body-same n (Combine key total r ts es) h = ap (λ b. b && list_all (is_flat (n ∷ []) false) es) (reduced-to (is_given dt n) (is_given ds n) 1 r ts (given-same n) h.0)
  outer-body-same n (If key c a b) h =
      ap (λ x. is_flat (n ∷ []) false c && x) (and-same (is_outer_body dt false n a) (is_outer_body dt false n b) (is_outer_body ds false n a) (is_outer_body ds false n b) (outer-body-same n a h.1) (outer-body-same n b h.2))
  outer-body-same n (Foreach key at hd test body) h =
      let its = n ∷ hd.iterator ∷ [] in ap (λ b. is_inner_head false n hd && (is_flat its true test && b)) (inner-body-same its true body h.3)
  outer-body-same n s h = refl
