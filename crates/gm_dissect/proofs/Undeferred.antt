-- What a body keeps whose deferred writes to a property go to a copy.
use Rattle.std.proofs.Common.{◌≡◌, ◌<◌, ◌≤◌, arith, ℕ, Bool, true, false, cond, List, [], ◌∷◌, ◌++◌, refl, sym, ap, subst, ◌∙◌, Option, Some, None, ◌⊎◌, ⊎_elim, inl, inr}
use Rattle.std.specs.Prelude.{◌&&◌, not, nat_eq}
use Rattle.std.specs.List.{list_all}
use Rattle.std.proofs.lemmas.Bool.{both_ways, eqb-true}
use Rattle.gm_value.specs.Bag.{IsIn}
use Rattle.gm_value.specs.declared.values.VType.{VType}
use Rattle.gm_value.specs.declared.values.VType.TheVariants.{Flag}
use Rattle.gm_value.specs.declared.reductions.Reduce.{Reduce}
use Rattle.gm_ast.specs.declared.tree.Declaration.{Declaration}
use Rattle.gm_ast.specs.declared.tree.Key.{Key}
use Rattle.gm_ast.specs.Keys.{Fault}
use Rattle.gm_ast.specs.declared.tree.Target.{Target}
use Rattle.gm_ast.specs.declared.tree.Target.TheVariants as T
use Rattle.gm_ast.specs.Program.{Expr, Const, Var, Property, EdgeProperty, Degree, NodeCount, EdgeCount, Live, Unary, Binary, Both, Either, Choose, Folded, Stmt, Then, Declare, Assign, Defer, Combine, Foreach, If}
use Rattle.gm_semantics.specs.Frames.{ReadsBelow, MayReadBelow, AllReadBelow, TargetBelow, TargetsBelow, NamesBelow}
use Rattle.gm_forms.specs.Forms.{is_flat, is_outer_body}
use Rattle.gm_forms.specs.Order.{lie_before, faults_in, faults_of, in_order, body_in_order, loop_in_order}
use Rattle.gm_forms.specs.Sharing.{Read, Sights, with_reads, reads_in, sights_in, sights_in_option, sights_in_all, sights_of, sights_of_target, sights_at_target, sights_by, are_at_once, variables_of, variables_where, is_owned, is_kept, written_by, Reduced, written, reduced, deferred, inners_share, shares, disjoint, shared_in, kept_in, read_anywhere, read_elsewhere, all_agree, targets_alike}
use Rattle.gm_forms.specs.Typing.{type_at, has_type, is_typed_in}
use Rattle.gm_forms.specs.Uses.{Owner, NodeValue, Use, use_as, suits, uses_in, uses_of}
use Rattle.gm_forms.proofs.Doings.{in-left, in-right, in-either}
use Rattle.gm_forms.proofs.Named.{both-true, all-append}
use Rattle.gm_forms.proofs.Weaker.{and-true}
use Rattle.gm_loop_laws.specs.Deferring.{undeferred}
use Rattle.gm_loop_laws.proofs.Chosen.{disjoint-apart, apart-disjoint}

pub append-true : {A : Type 0} (f : A → Bool) (xs ys : List A) → list_all f xs ≡ true → list_all f ys ≡ true → list_all f (xs ++ ys) ≡ true
append-true f [] ys h i = i
append-true f (x ∷ xs) ys h i = let b = both-true (f x) (list_all f xs) h in and-true (f x) (list_all f (xs ++ ys)) b.0 (append-true f xs ys b.1 i)

pub two-same : {A : Type 0} (f : A → A → A) (a b c d : A) → a ≡ c → b ≡ d → f a b ≡ f c d
two-same f a b c d p q = ap (λ x. f x b) p ∙ ap (f c) q

-- what is named is below a number
module _ (k : ℕ) where
  one-below : (x y : ℕ) → x < k → IsIn y (x ∷ []) → y < k
  one-below x y h i = ⊎_elim (λ (e : y ≡ x). subst (λ z. z < k) (sym e) h) (λ j. absurd j) i

  target-below : (t : Target) (y : ℕ) → TargetBelow k t → IsIn y (written_by t) → y < k
  target-below (T.Scalar x at) y h i = one-below x y h i
  target-below (T.Property x p at) y h i = one-below p y h.1 i

  where-below : (f : Target → Bool) (ts : List Target) (y : ℕ) → TargetsBelow k ts → IsIn y (variables_where f ts) → y < k
  where-below f [] y h i = absurd i
  where-below f (t ∷ ts) y h i = by (f t) (where-below f ts y h.1) i
    where
      by : (b : Bool) → (IsIn y (variables_where f ts) → y < k) → IsIn y (cond b (written_by t ++ variables_where f ts) (variables_where f ts)) → y < k
      by true rest i = ⊎_elim (target-below t y h.0) rest (in-either y (written_by t) (variables_where f ts) i)
      by false rest i = rest i

  pub deferred-below : (s : Stmt) (y : ℕ) → NamesBelow k s → IsIn y (deferred s) → y < k
  deferred-below (Then a b) y h i = ⊎_elim (deferred-below a y h.0) (deferred-below b y h.1) (in-either y (deferred a) (deferred b) i)
  deferred-below (Defer key t e) y h i = target-below t y h.0 i
  deferred-below (If key c a b) y h i = ⊎_elim (deferred-below a y h.1) (deferred-below b y h.2) (in-either y (deferred a) (deferred b) i)
  deferred-below s y h i = absurd i

  shared-either : (xs ys : List Reduced) (y : ℕ) → IsIn y (shared_in (xs ++ ys)) → IsIn y (shared_in xs) ⊎ IsIn y (shared_in ys)
  shared-either [] ys y i = inr i
  shared-either (x ∷ xs) ys y i =
      ⊎_elim (λ l. inl (in-left y x.shared (shared_in xs) l)) (λ r. ⊎_elim (λ m. inl (in-right y x.shared (shared_in xs) m)) (λ m. inr m) (shared-either xs ys y r)) (in-either y x.shared (shared_in (xs ++ ys)) i)

  pub shared-below : (ds : List Declaration) (n : ℕ) (inner : Bool) (s : Stmt) (y : ℕ) → NamesBelow k s → IsIn y (shared_in (reduced ds n inner s)) → y < k
  shared-below ds n inner (Then a b) y h i = ⊎_elim (shared-below ds n inner a y h.0) (shared-below ds n inner b y h.1) (shared-either (reduced ds n inner a) (reduced ds n inner b) y i)
  shared-below ds n inner (Combine key total r ts es) y h i = by (are_at_once ds n inner ts) i
    where
      one : Reduced
      one = record { variables = variables_of ts; reduce = r; number = total.key.statement; own = list_all (is_owned ds n) ts; shared = variables_where (λ t. not (is_owned ds n t)) ts; kept = variables_where (is_kept ds n) ts }

      by : (b : Bool) → IsIn y (shared_in (cond b [] (one ∷ []))) → y < k
      by true i = absurd i
      by false i = ⊎_elim (where-below (λ t. not (is_owned ds n t)) ts y h.0) (λ j. absurd j) (in-either y one.shared [] i)
  shared-below ds n inner (If key c a b) y h i = ⊎_elim (shared-below ds n inner a y h.1) (shared-below ds n inner b y h.2) (shared-either (reduced ds n inner a) (reduced ds n inner b) y i)
  shared-below ds n inner (Foreach key at hd test body) y h i = shared-below ds n true body y h.3 i
  shared-below ds n inner s y h i = absurd i

  -- what is read
  abbrev pub Low : List Read → Type 0
  Low rs = (r : Read) → IsIn r rs → r.property < k

  pub low-both : (xs ys : List Read) → Low xs → Low ys → Low (xs ++ ys)
  low-both xs ys p q r i = ⊎_elim (p r) (q r) (in-either r xs ys i)

  pub reads-low : (e : Expr) → ReadsBelow k e → Low (reads_in e)
  reads-low (Property x p at) h = λ r i. ⊎_elim (λ (e : r ≡ record { owner = x; property = p }). subst (λ (z : Read). z.property < k) (sym e) h.1) (λ j. absurd j) i
  reads-low (Unary op at e) h = reads-low e h
  reads-low (Binary op at a b) h = low-both (reads_in a) (reads_in b) (reads-low a h.0) (reads-low b h.1)
  reads-low (Both a b) h = low-both (reads_in a) (reads_in b) (reads-low a h.0) (reads-low b h.1)
  reads-low (Either a b) h = low-both (reads_in a) (reads_in b) (reads-low a h.0) (reads-low b h.1)
  reads-low (Choose c a b) h = low-both (reads_in c) (reads_in a ++ reads_in b) (reads-low c h.0) (low-both (reads_in a) (reads_in b) (reads-low a h.1) (reads-low b h.2))
  reads-low (Folded f hd test e) h = low-both (reads_in test) (reads_in e) (reads-low test h.1) (reads-low e h.2)
  reads-low e h = λ r i. absurd i

  option-low : (e : Option Expr) → MayReadBelow k e → Low (sights_in_option e).properties
  option-low None h = λ r i. absurd i
  option-low (Some e) h = reads-low e h

  all-low : (es : List Expr) → AllReadBelow k es → Low (sights_in_all es).properties
  all-low [] h = λ r i. absurd i
  all-low (e ∷ es) h = low-both (reads_in e) (sights_in_all es).properties (reads-low e h.0) (all-low es h.1)

  target-low : (t : Target) → Low (sights_of_target t).properties
  target-low (T.Scalar x at) r i = absurd i
  target-low (T.Property x p at) r i = absurd i

  held-low : (t : Target) → TargetBelow k t → Low (sights_at_target t).properties
  held-low (T.Scalar x at) h r i = absurd i
  held-low (T.Property x p at) h r i = ⊎_elim (λ (e : r ≡ record { owner = x; property = p }). subst (λ (z : Read). z.property < k) (sym e) h.1) (λ j. absurd j) i

  targets-low : (f : Target → Sights) → ((t : Target) → TargetBelow k t → Low (f t).properties) → (ts : List Target) → TargetsBelow k ts → Low (sights_by f ts).properties
  targets-low f each [] h = λ r i. absurd i
  targets-low f each (t ∷ ts) h = low-both (f t).properties (sights_by f ts).properties (each t h.0) (targets-low f each ts h.1)

  pub sights-low : (ds : List Declaration) (n : ℕ) (inner : Bool) (s : Stmt) → NamesBelow k s → Low (sights_of ds n inner s).properties
  sights-low ds n inner (Then a b) h = low-both (sights_of ds n inner a).properties (sights_of ds n inner b).properties (sights-low ds n inner a h.0) (sights-low ds n inner b h.1)
  sights-low ds n inner (Declare key x e) h = option-low e h.1
  sights-low ds n inner (Assign key t e) h = low-both (sights_of_target t).properties (reads_in e) (target-low t) (reads-low e h.1)
  sights-low ds n inner (Defer key t e) h = low-both (sights_of_target t).properties (reads_in e) (target-low t) (reads-low e h.1)
  sights-low ds n inner (Combine key total r ts es) h = by (are_at_once ds n inner ts)
    where
      by : (b : Bool) → Low ((sights_by (cond b sights_at_target sights_of_target) ts).properties ++ (sights_in_all es).properties)
      by true = low-both (sights_by sights_at_target ts).properties (sights_in_all es).properties (targets-low sights_at_target held-low ts h.0) (all-low es h.1)
      by false = low-both (sights_by sights_of_target ts).properties (sights_in_all es).properties (targets-low sights_of_target (λ t l. target-low t) ts h.0) (all-low es h.1)
  sights-low ds n inner (If key c a b) h =
      low-both (reads_in c) ((sights_of ds n inner a).properties ++ (sights_of ds n inner b).properties) (reads-low c h.0)
      (low-both (sights_of ds n inner a).properties (sights_of ds n inner b).properties (sights-low ds n inner a h.1) (sights-low ds n inner b h.2))
  sights-low ds n inner (Foreach key at hd test body) h = low-both (reads_in test) (sights_of ds n true body).properties (reads-low test h.2) (sights-low ds n true body h.3)
  sights-low ds n inner s h = λ r i. absurd i

  pub elsewhere-low : (n : ℕ) (rs : List Read) (y : ℕ) → Low rs → IsIn y (read_elsewhere n rs) → y < k
  elsewhere-low n [] y low i = absurd i
  elsewhere-low n (r ∷ rs) y low i = by (nat_eq r.owner n) (elsewhere-low n rs y (λ q m. low q (inr m))) i
    where
      by : (b : Bool) → (IsIn y (read_elsewhere n rs) → y < k) → IsIn y (cond b (read_elsewhere n rs) (r.property ∷ read_elsewhere n rs)) → y < k
      by true rest j = rest j
      by false rest j = ⊎_elim (λ (e : y ≡ r.property). subst (λ z. z < k) (sym e) (low r (inl refl))) rest j

  pub anywhere-low : (rs : List Read) (y : ℕ) → Low rs → IsIn y (read_anywhere rs) → y < k
  anywhere-low [] y low i = absurd i
  anywhere-low (r ∷ rs) y low i = ⊎_elim (λ (e : y ≡ r.property). subst (λ z. z < k) (sym e) (low r (inl refl))) (anywhere-low rs y (λ q m. low q (inr m))) i

-- dt: a table; p: the property; q: its copy; n: the loop's iterator
module _ (dt : List Declaration) (n p q : ℕ) where
  pub sights-undeferred : (s : Stmt) → sights_of dt n false (undeferred p q s) ≡ sights_of dt n false s
  sights-undeferred (Then a b) = two-same with_reads (sights_of dt n false (undeferred p q a)) (sights_of dt n false (undeferred p q b)) (sights_of dt n false a) (sights_of dt n false b) (sights-undeferred a) (sights-undeferred b)
  sights-undeferred (Defer k (T.Scalar y at) e) = refl
  sights-undeferred (Defer k (T.Property y r at) e) = by (nat_eq r p)
    where
      by : (b : Bool) → sights_of dt n false (cond b (Assign k (T.Property y q at) e) (Defer k (T.Property y r at) e)) ≡ sights_of dt n false (Defer k (T.Property y r at) e)
      by true = refl
      by false = refl
  sights-undeferred (If k c a b) =
      ap (with_reads (sights_in c)) (two-same with_reads (sights_of dt n false (undeferred p q a)) (sights_of dt n false (undeferred p q b)) (sights_of dt n false a) (sights_of dt n false b) (sights-undeferred a) (sights-undeferred b))
  sights-undeferred s = refl

  pub reduced-undeferred : (s : Stmt) → reduced dt n false (undeferred p q s) ≡ reduced dt n false s
  reduced-undeferred (Then a b) = two-same (λ x y. x ++ y) (reduced dt n false (undeferred p q a)) (reduced dt n false (undeferred p q b)) (reduced dt n false a) (reduced dt n false b) (reduced-undeferred a) (reduced-undeferred b)
  reduced-undeferred (Defer k (T.Scalar y at) e) = refl
  reduced-undeferred (Defer k (T.Property y r at) e) = by (nat_eq r p)
    where
      by : (b : Bool) → reduced dt n false (cond b (Assign k (T.Property y q at) e) (Defer k (T.Property y r at) e)) ≡ []
      by true = refl
      by false = refl
  reduced-undeferred (If k c a b) = two-same (λ x y. x ++ y) (reduced dt n false (undeferred p q a)) (reduced dt n false (undeferred p q b)) (reduced dt n false a) (reduced dt n false b) (reduced-undeferred a) (reduced-undeferred b)
  reduced-undeferred s = refl

  pub inners-undeferred : (s : Stmt) → inners_share dt n (undeferred p q s) ≡ inners_share dt n s
  inners-undeferred (Then a b) = two-same (λ x y. x && y) (inners_share dt n (undeferred p q a)) (inners_share dt n (undeferred p q b)) (inners_share dt n a) (inners_share dt n b) (inners-undeferred a) (inners-undeferred b)
  inners-undeferred (Defer k (T.Scalar y at) e) = refl
  inners-undeferred (Defer k (T.Property y r at) e) = by (nat_eq r p)
    where
      by : (b : Bool) → inners_share dt n (cond b (Assign k (T.Property y q at) e) (Defer k (T.Property y r at) e)) ≡ true
      by true = refl
      by false = refl
  inners-undeferred (If k c a b) = two-same (λ x y. x && y) (inners_share dt n (undeferred p q a)) (inners_share dt n (undeferred p q b)) (inners_share dt n a) (inners_share dt n b) (inners-undeferred a) (inners-undeferred b)
  inners-undeferred s = refl

  pub alike-undeferred : (s : Stmt) → targets_alike (undeferred p q s) ≡ targets_alike s
  alike-undeferred (Then a b) = two-same (λ x y. x && y) (targets_alike (undeferred p q a)) (targets_alike (undeferred p q b)) (targets_alike a) (targets_alike b) (alike-undeferred a) (alike-undeferred b)
  alike-undeferred (Defer k (T.Scalar y at) e) = refl
  alike-undeferred (Defer k (T.Property y r at) e) = by (nat_eq r p)
    where
      by : (b : Bool) → targets_alike (cond b (Assign k (T.Property y q at) e) (Defer k (T.Property y r at) e)) ≡ true
      by true = refl
      by false = refl
  alike-undeferred (If k c a b) = two-same (λ x y. x && y) (targets_alike (undeferred p q a)) (targets_alike (undeferred p q b)) (targets_alike a) (targets_alike b) (alike-undeferred a) (alike-undeferred b)
  alike-undeferred s = refl

  pub faults-undeferred : (its : List ℕ) (s : Stmt) → faults_of its (undeferred p q s) ≡ faults_of its s
  faults-undeferred its (Then a b) = two-same (λ x y. x ++ y) (faults_of its (undeferred p q a)) (faults_of its (undeferred p q b)) (faults_of its a) (faults_of its b) (faults-undeferred its a) (faults-undeferred its b)
  faults-undeferred its (Defer k (T.Scalar y at) e) = refl
  faults-undeferred its (Defer k (T.Property y r at) e) = by (nat_eq r p)
    where
      by : (b : Bool) → faults_of its (cond b (Assign k (T.Property y q at) e) (Defer k (T.Property y r at) e)) ≡ faults_of its (Defer k (T.Property y r at) e)
      by true = refl
      by false = refl
  faults-undeferred its (If k c a b) =
      ap (λ x. faults_in c k ++ x) (two-same (λ x y. x ++ y) (faults_of its (undeferred p q a)) (faults_of its (undeferred p q b)) (faults_of its a) (faults_of its b) (faults-undeferred its a) (faults-undeferred its b))
  faults-undeferred its s = refl

  pub order-undeferred : (its : List ℕ) (s : Stmt) → body_in_order its (undeferred p q s) ≡ body_in_order its s
  order-undeferred its (Then a b) =
      two-same (λ x y. x && y) (body_in_order its (undeferred p q a)) (body_in_order its (undeferred p q b) && lie_before (faults_of its (undeferred p q a)) (faults_of its (undeferred p q b))) (body_in_order its a) (body_in_order its b && lie_before (faults_of its a) (faults_of its b)) (order-undeferred its a)
      (two-same (λ x y. x && y) (body_in_order its (undeferred p q b)) (lie_before (faults_of its (undeferred p q a)) (faults_of its (undeferred p q b))) (body_in_order its b) (lie_before (faults_of its a) (faults_of its b)) (order-undeferred its b)
      (ap (λ x. lie_before x (faults_of its (undeferred p q b))) (faults-undeferred its a) ∙ ap (lie_before (faults_of its a)) (faults-undeferred its b)))
  order-undeferred its (Defer k (T.Scalar y at) e) = refl
  order-undeferred its (Defer k (T.Property y r at) e) = by (nat_eq r p)
    where
      by : (b : Bool) → body_in_order its (cond b (Assign k (T.Property y q at) e) (Defer k (T.Property y r at) e)) ≡ body_in_order its (Defer k (T.Property y r at) e)
      by true = refl
      by false = refl
  order-undeferred its (If k c a b) =
      let a' = undeferred p q a in
      let b' = undeferred p q b in
      ap (λ x. in_order c k && (x && (body_in_order its b' && (lie_before (faults_in c k) (faults_of its a' ++ faults_of its b') && lie_before (faults_of its a') (faults_of its b'))))) (order-undeferred its a)
      ∙ ap (λ x. in_order c k && (body_in_order its a && (x && (lie_before (faults_in c k) (faults_of its a' ++ faults_of its b') && lie_before (faults_of its a') (faults_of its b'))))) (order-undeferred its b)
      ∙ ap (λ x. in_order c k && (body_in_order its a && (body_in_order its b && (lie_before (faults_in c k) (x ++ faults_of its b') && lie_before x (faults_of its b'))))) (faults-undeferred its a)
      ∙ ap (λ x. in_order c k && (body_in_order its a && (body_in_order its b && (lie_before (faults_in c k) (faults_of its a ++ x) && lie_before (faults_of its a) x)))) (faults-undeferred its b)
  order-undeferred its s = refl

  pub form-undeferred : (s : Stmt) → is_outer_body dt false n (undeferred p q s) ≡ is_outer_body dt false n s
  form-undeferred (Then a b) = two-same (λ x y. x && y) (is_outer_body dt false n (undeferred p q a)) (is_outer_body dt false n (undeferred p q b)) (is_outer_body dt false n a) (is_outer_body dt false n b) (form-undeferred a) (form-undeferred b)
  form-undeferred (Defer k (T.Scalar y at) e) = refl
  form-undeferred (Defer k (T.Property y r at) e) = by (nat_eq r p)
    where
      by : (b : Bool) → is_outer_body dt false n (cond b (Assign k (T.Property y q at) e) (Defer k (T.Property y r at) e)) ≡ is_outer_body dt false n (Defer k (T.Property y r at) e)
      by true = refl
      by false = refl
  form-undeferred (If k c a b) =
      ap (λ x. is_flat (n ∷ []) false c && x) (two-same (λ x y. x && y) (is_outer_body dt false n (undeferred p q a)) (is_outer_body dt false n (undeferred p q b)) (is_outer_body dt false n a) (is_outer_body dt false n b) (form-undeferred a) (form-undeferred b))
  form-undeferred s = refl

  pub typed-undeferred : (res : Option VType) (s : Stmt) → type_at dt q ≡ type_at dt p → is_typed_in dt res (undeferred p q s) ≡ is_typed_in dt res s
  typed-undeferred res (Then a b) t = two-same (λ x y. x && y) (is_typed_in dt res (undeferred p q a)) (is_typed_in dt res (undeferred p q b)) (is_typed_in dt res a) (is_typed_in dt res b) (typed-undeferred res a t) (typed-undeferred res b t)
  typed-undeferred res (Defer k (T.Scalar y at) e) t = refl
  typed-undeferred res (Defer k (T.Property y r at) e) t = by (nat_eq r p) refl
    where
      by : (b : Bool) → nat_eq r p ≡ b → is_typed_in dt res (cond b (Assign k (T.Property y q at) e) (Defer k (T.Property y r at) e)) ≡ has_type dt (type_at dt r) e
      by true i = ap (λ u. has_type dt u e) (t ∙ ap (type_at dt) (sym (eqb-true r p i)))
      by false i = refl
  typed-undeferred res (If k c a b) t =
      ap (λ x. has_type dt Flag c && x) (two-same (λ x y. x && y) (is_typed_in dt res (undeferred p q a)) (is_typed_in dt res (undeferred p q b)) (is_typed_in dt res a) (is_typed_in dt res b) (typed-undeferred res a t) (typed-undeferred res b t))
  typed-undeferred res s t = refl

  pub named-undeferred : (s : Stmt) → list_all (suits dt) (use_as NodeValue q) ≡ true → list_all (suits dt) (uses_of s) ≡ true → list_all (suits dt) (uses_of (undeferred p q s)) ≡ true
  named-undeferred (Then a b) u h =
      let r = all-append (suits dt) (uses_of a) (uses_of b) h in append-true (suits dt) (uses_of (undeferred p q a)) (uses_of (undeferred p q b)) (named-undeferred a u r.0) (named-undeferred b u r.1)
  named-undeferred (Defer k (T.Scalar y at) e) u h = h
  named-undeferred (Defer k (T.Property y r at) e) u h = by (nat_eq r p)
    where
      by : (b : Bool) → list_all (suits dt) (uses_of (cond b (Assign k (T.Property y q at) e) (Defer k (T.Property y r at) e))) ≡ true
      by true =
          let w = all-append (suits dt) (use_as Owner y ++ use_as NodeValue r) (uses_in e) h in
          let v = all-append (suits dt) (use_as Owner y) (use_as NodeValue r) w.0 in
          append-true (suits dt) (use_as Owner y ++ use_as NodeValue q) (uses_in e) (append-true (suits dt) (use_as Owner y) (use_as NodeValue q) v.0 u) w.1
      by false = h
  named-undeferred (If k c a b) u h =
      let r = all-append (suits dt) (uses_in c) (uses_of a ++ uses_of b) h in
      let v = all-append (suits dt) (uses_of a) (uses_of b) r.1 in
      append-true (suits dt) (uses_in c) (uses_of (undeferred p q a) ++ uses_of (undeferred p q b)) r.0
      (append-true (suits dt) (uses_of (undeferred p q a)) (uses_of (undeferred p q b)) (named-undeferred a u v.0) (named-undeferred b u v.1))
  named-undeferred s u h = h

  pub written-undeferred : (s : Stmt) (y : ℕ) → IsIn y (written dt n false (undeferred p q s)) → IsIn y (written dt n false s) ⊎ (y ≡ q)
  written-undeferred (Then a b) y i =
      let w = written dt n false a in
      let z = written dt n false b in
      ⊎_elim (λ l. ⊎_elim (λ m. inl (in-left y w z m)) (λ e. inr e) (written-undeferred a y l)) (λ r. ⊎_elim (λ m. inl (in-right y w z m)) (λ e. inr e) (written-undeferred b y r))
      (in-either y (written dt n false (undeferred p q a)) (written dt n false (undeferred p q b)) i)
  written-undeferred (Defer k (T.Scalar x at) e) y i = absurd i
  written-undeferred (Defer k (T.Property x r at) e) y i = by (nat_eq r p) i
    where
      by : (b : Bool) → IsIn y (written dt n false (cond b (Assign k (T.Property x q at) e) (Defer k (T.Property x r at) e))) → IsIn y [] ⊎ (y ≡ q)
      by true i = ⊎_elim (λ (e : y ≡ q). inr e) (λ j. absurd j) i
      by false i = absurd i
  written-undeferred (If k c a b) y i =
      let w = written dt n false a in
      let z = written dt n false b in
      ⊎_elim (λ l. ⊎_elim (λ m. inl (in-left y w z m)) (λ e. inr e) (written-undeferred a y l)) (λ r. ⊎_elim (λ m. inl (in-right y w z m)) (λ e. inr e) (written-undeferred b y r))
      (in-either y (written dt n false (undeferred p q a)) (written dt n false (undeferred p q b)) i)
  written-undeferred s y i = inl i

  pub deferred-undeferred : (s : Stmt) (y : ℕ) → IsIn y (deferred (undeferred p q s)) → IsIn y (deferred s)
  deferred-undeferred (Then a b) y i =
      ⊎_elim (λ l. in-left y (deferred a) (deferred b) (deferred-undeferred a y l)) (λ r. in-right y (deferred a) (deferred b) (deferred-undeferred b y r)) (in-either y (deferred (undeferred p q a)) (deferred (undeferred p q b)) i)
  deferred-undeferred (Defer k (T.Scalar x at) e) y i = i
  deferred-undeferred (Defer k (T.Property x r at) e) y i = by (nat_eq r p) i
    where
      by : (b : Bool) → IsIn y (deferred (cond b (Assign k (T.Property x q at) e) (Defer k (T.Property x r at) e))) → IsIn y (r ∷ [])
      by true i = absurd i
      by false i = i
  deferred-undeferred (If k c a b) y i =
      ⊎_elim (λ l. in-left y (deferred a) (deferred b) (deferred-undeferred a y l)) (λ r. in-right y (deferred a) (deferred b) (deferred-undeferred b y r)) (in-either y (deferred (undeferred p q a)) (deferred (undeferred p q b)) i)
  deferred-undeferred s y i = i
