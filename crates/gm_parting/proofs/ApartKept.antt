-- An inner body whose statements stand alone may stand for the body: it keeps what every pass keeps.
use Rattle.std.proofs.Common.{◌≡◌, ◌<◌, ◌≤◌, ◌+◌, arith, ℕ, suc, Bool, true, false, List, [], ◌∷◌, ◌++◌, append-nil, length, refl, sym, ap, subst, ◌∙◌, Option, Some, ◌⊎◌, ⊎_elim, inl, inr}
use Rattle.std.specs.Prelude.{◌&&◌, nat_eq, nat_lt}
use Rattle.std.specs.List.{list_all}
use Rattle.std.proofs.lemmas.Bool.{lt-ltb}
use Rattle.gm_base.specs.declared.places.Place.{Place}
use Rattle.gm_value.specs.Bag.{IsIn}
use Rattle.gm_value.specs.declared.operations.Op1.TheVariants.{Not}
use Rattle.gm_value.specs.Operations.{fits1, type1}
use Rattle.gm_value.specs.declared.values.VType.{VType}
use Rattle.gm_value.specs.declared.values.VType.TheVariants as V
use Rattle.gm_ast.specs.declared.tree.Declaration.{Declaration}
use Rattle.gm_ast.specs.declared.tree.Key.{Key}
use Rattle.gm_ast.specs.declared.tree.Variable.{Variable}
use Rattle.gm_ast.specs.Keys.{Fault}
use Rattle.gm_ast.specs.Program.{Expr, Var, Unary, Stmt, Skip, Then, If}
use Rattle.gm_semantics.specs.Statements.{variable_at}
use Rattle.gm_forms.specs.Cut.{touched, spares_locals}
use Rattle.gm_forms.specs.Forms.{depth_at, is_flat, is_inner_body}
use Rattle.gm_forms.specs.Order.{lie_before, in_order, faults_in, faults_of, body_in_order}
use Rattle.gm_forms.specs.Sharing.{told_in, reads_in, sights_of, written, reduced, deferred, inners_share, targets_alike}
use Rattle.gm_forms.specs.Typing.{type_if, by_one, is_type, has_type, is_typed_in}
use Rattle.gm_forms.specs.Uses.{Role, Written, Told, has_role, use_as, suits, uses_in, uses_of}
use Rattle.gm_forms.proofs.Named.{both-true, all-append}
use Rattle.gm_forms.proofs.Weaker.{and-true}
use Rattle.gm_dissect.proofs.Undeferred.{append-true, two-same}
use Rattle.gm_parting.specs.Numbers.{count_ifs}
use Rattle.gm_parting.specs.Apart.{under, apart, inner_flag}
use Rattle.gm_parting.proofs.ApartParts.{same-apart, in-apart, gathered-under, gathered-apart, holds-apart}
use Rattle.gm_parting.proofs.NodesRead.{Replaces}

-- nothing comes before all faults
nothing-before : (ys : List Fault) → lie_before [] ys ≡ true
nothing-before [] = refl
nothing-before (y ∷ ys) = nothing-before ys

and-one : (x : Bool) → x && true ≡ x
and-one true = refl
and-one false = refl

-- a local that holds a condition, in a table
pub record Flagged (dt : List Declaration) (y : ℕ) : Type 0 where
  pub inside : y < length dt
  pub is : variable_at dt y ≡ inner_flag.variable

-- what is not in a table, and declared in an inner body of a longer one
pub record New (ds dt : List Declaration) (z : ℕ) : Type 0 where
  pub high : length ds ≤ z
  pub deep : depth_at dt z ≡ 2

-- ---- the order of faults

abbrev fs : List ℕ → Stmt → List Fault
fs its s = faults_of its s

faults-under : (its : List ℕ) (k : Key) (c : Expr) (s : Stmt) → faults_in c k ≡ [] → faults_of its (under k c s) ≡ faults_of its s
faults-under its k c s e = gathered-under (λ s. faults_of its s) (λ k c. faults_in c k) refl (λ a b. refl) (λ k c a b. refl) (λ k y c. refl) k c s e

pub faults-apart : (its : List ℕ) (at : Place) (y : ℕ) (s : Stmt) → faults_of its (apart at y s) ≡ faults_of its s
faults-apart its at y s = gathered-apart (λ s. faults_of its s) (λ k c. faults_in c k) refl (λ a b. refl) (λ k c a b. refl) (λ k y c. refl) (λ k y at. refl) (λ k y at. refl) at y s

order-alone : (its : List ℕ) (k : Key) (c : Expr) (s : Stmt) → in_order c k ≡ true → faults_in c k ≡ [] → body_in_order its s ≡ true → body_in_order its (If k c s Skip) ≡ true
order-alone its k c s o e h =
    let l = lie_before (faults_in c k) (faults_of its s ++ []) in
    let m = lie_before (faults_of its s) [] in
    and-true (in_order c k) (body_in_order its s && (true && (l && m))) o
    (and-true (body_in_order its s) (true && (l && m)) h (and-true l m (ap (λ x. lie_before x (faults_of its s ++ [])) e ∙ nothing-before (faults_of its s ++ [])) refl))

order-under : (its : List ℕ) (k : Key) (c : Expr) (s : Stmt) → in_order c k ≡ true → faults_in c k ≡ [] → body_in_order its s ≡ true → body_in_order its (under k c s) ≡ true
order-under its k c Skip o e h = h
order-under its k c (Then a b) o e h =
    let r = both-true (body_in_order its a) (body_in_order its b && lie_before (fs its a) (fs its b)) h in
    let q = both-true (body_in_order its b) (lie_before (fs its a) (fs its b)) r.1 in
    and-true (body_in_order its (under k c a)) (body_in_order its (under k c b) && lie_before (fs its (under k c a)) (fs its (under k c b))) (order-under its k c a o e r.0)
    (and-true (body_in_order its (under k c b)) (lie_before (fs its (under k c a)) (fs its (under k c b))) (order-under its k c b o e q.0)
    (ap (λ x. lie_before x (fs its (under k c b))) (faults-under its k c a e) ∙ ap (lie_before (fs its a)) (faults-under its k c b e) ∙ q.1))
order-under its k c s o e h = order-alone its k c s o e h

pub order-apart : (its : List ℕ) (at : Place) (y : ℕ) (s : Stmt) → body_in_order its s ≡ true → body_in_order its (apart at y s) ≡ true
order-apart its at y (Then a b) h =
    let a' = apart at y a in
    let b' = apart at (y + count_ifs a) b in
    let r = both-true (body_in_order its a) (body_in_order its b && lie_before (fs its a) (fs its b)) h in
    let q = both-true (body_in_order its b) (lie_before (fs its a) (fs its b)) r.1 in
    and-true (body_in_order its a') (body_in_order its b' && lie_before (fs its a') (fs its b')) (order-apart its at y a r.0)
    (and-true (body_in_order its b') (lie_before (fs its a') (fs its b')) (order-apart its at (y + count_ifs a) b q.0)
    (ap (λ x. lie_before x (fs its b')) (faults-apart its at y a) ∙ ap (lie_before (fs its a)) (faults-apart its at (y + count_ifs a) b) ∙ q.1))
order-apart its at y (If k c a b) h =
    let a' = apart at (suc y) a in
    let b' = apart at (suc y + count_ifs a) b in
    let u = under k (Var y at) a' in
    let v = under k (Unary Not at (Var y at)) b' in
    let l = lie_before (faults_in c k) (fs its a ++ fs its b) in
    let m = lie_before (fs its a) (fs its b) in
    let r = both-true (in_order c k) (body_in_order its a && (body_in_order its b && (l && m))) h in
    let q = both-true (body_in_order its a) (body_in_order its b && (l && m)) r.1 in
    let p = both-true (body_in_order its b) (l && m) q.1 in
    let w = both-true l m p.1 in
    let fu : fs its u ≡ fs its a = faults-under its k (Var y at) a' refl ∙ faults-apart its at (suc y) a in
    let fv : fs its v ++ [] ≡ fs its b = append-nil (fs its v) ∙ faults-under its k (Unary Not at (Var y at)) b' refl ∙ faults-apart its at (suc y + count_ifs a) b in
    let ov = body_in_order its v && (true && lie_before (fs its v) []) in
    let inside = body_in_order its u && (ov && lie_before (fs its u) (fs its v ++ [])) in
    and-true (in_order c k) (inside && lie_before (faults_in c k) (fs its u ++ (fs its v ++ []))) r.0
    (and-true inside (lie_before (faults_in c k) (fs its u ++ (fs its v ++ [])))
    (and-true (body_in_order its u) (ov && lie_before (fs its u) (fs its v ++ [])) (order-under its k (Var y at) a' refl refl (order-apart its at (suc y) a q.0))
    (and-true ov (lie_before (fs its u) (fs its v ++ []))
    (and-true (body_in_order its v) (true && lie_before (fs its v) []) (order-under its k (Unary Not at (Var y at)) b' refl refl (order-apart its at (suc y + count_ifs a) b p.0)) refl)
    (ap (λ x. lie_before x (fs its v ++ [])) fu ∙ ap (lie_before (fs its a)) fv ∙ w.1)))
    (ap (lie_before (faults_in c k)) (two-same (λ x y. x ++ y) (fs its u) (fs its v ++ []) (fs its a) (fs its b) fu fv) ∙ w.0))
order-apart its at y s h = h

-- ---- all of it

-- ds: the table; dt: a longer one, with the locals from base to top
module _ (ds dt : List Declaration) (base top : ℕ) (low : length ds ≤ base) (rows : (y : ℕ) → base ≤ y → y < top → Flagged dt y) (at : Place) where
  new-of : (y : ℕ) → base ≤ y → y < top → New ds dt y
  new-of y l h = record { high = omega (arith, low, l); deep = ap (λ (v : Variable). v.depth) (rows y l h).is }

  same-new : (z y : ℕ) → base ≤ y → y < top → z ≡ y → New ds dt z
  same-new z y l h e = subst (New ds dt) (sym e) (new-of y l h)

  listed : (z y : ℕ) → base ≤ y → y < top → IsIn z (y ∷ []) → New ds dt z
  listed z y l h i = ⊎_elim (same-new z y l h) (λ m. absurd m) i

  flag-use : (role : Role) (y : ℕ) → base ≤ y → y < top → has_role inner_flag.variable role ≡ true → list_all (suits dt) (use_as role y) ≡ true
  flag-use role y l h e =
      let row = rows y l h in
      and-true (nat_lt y (length dt) && has_role (variable_at dt y) role) true (and-true (nat_lt y (length dt)) (has_role (variable_at dt y) role) (lt-ltb y (length dt) row.inside) (ap (λ (v : Variable). has_role v role) row.is ∙ e)) refl

  named-apart : (y : ℕ) (s : Stmt) → base ≤ y → y + count_ifs s ≤ top → list_all (suits dt) (uses_of s) ≡ true → list_all (suits dt) (uses_of (apart at y s)) ≡ true
  named-apart y s l h =
      holds-apart (λ s. list_all (suits dt) (uses_of s)) (λ c. list_all (suits dt) (uses_in c)) refl
      (λ a b. all-append (suits dt) (uses_of a) (uses_of b)) (λ a b. append-true (suits dt) (uses_of a) (uses_of b))
      (λ k c a b u. let r = all-append (suits dt) (uses_in c) (uses_of a ++ uses_of b) u in (r.0, all-append (suits dt) (uses_of a) (uses_of b) r.1))
      (λ k c a b u p q. append-true (suits dt) (uses_in c) (uses_of a ++ uses_of b) u (append-true (suits dt) (uses_of a) (uses_of b) p q))
      base top (λ y l h at. flag-use Told y l h refl) (λ y l h at. flag-use Told y l h refl)
      (λ k y l h c u. append-true (suits dt) (use_as Written y) (uses_in c) (flag-use Written y l h refl) u) at y s l h

  flag-typed : (y : ℕ) → base ≤ y → y < top → (at : Place) → has_type dt V.Flag (Var y at) ≡ true
  flag-typed y l h at = ap (λ (v : Variable). has_type_by v.vtype) (rows y l h).is
    where
      has_type_by : VType → Bool
      has_type_by t = is_type V.Flag (Some t)

  typed-apart : (res : Option VType) (y : ℕ) (s : Stmt) → base ≤ y → y + count_ifs s ≤ top → is_typed_in dt res s ≡ true → is_typed_in dt res (apart at y s) ≡ true
  typed-apart res y s l h =
      holds-apart (λ s. is_typed_in dt res s) (λ c. has_type dt V.Flag c) refl
      (λ a b. both-true (is_typed_in dt res a) (is_typed_in dt res b)) (λ a b. and-true (is_typed_in dt res a) (is_typed_in dt res b))
      (λ k c a b u. let r = both-true (has_type dt V.Flag c) (is_typed_in dt res a && is_typed_in dt res b) u in (r.0, both-true (is_typed_in dt res a) (is_typed_in dt res b) r.1))
      (λ k c a b u p q. and-true (has_type dt V.Flag c) (is_typed_in dt res a && is_typed_in dt res b) u (and-true (is_typed_in dt res a) (is_typed_in dt res b) p q))
      base top flag-typed (λ y l h at. ap (λ (v : Variable). is_type V.Flag (by_one (Some v.vtype) (λ t. type_if (fits1 Not t) (type1 Not t)))) (rows y l h).is)
      (λ k y l h c u. ap (λ (v : Variable). has_type dt v.vtype c) (rows y l h).is ∙ u) at y s l h

  form-apart : (its : List ℕ) (y : ℕ) (s : Stmt) → base ≤ y → y + count_ifs s ≤ top → is_inner_body dt its true s ≡ true → is_inner_body dt its true (apart at y s) ≡ true
  form-apart its y s l h =
      let P = is_inner_body dt its true in
      holds-apart P (λ c. is_flat its true c) refl
      (λ a b. both-true (P a) (P b)) (λ a b. and-true (P a) (P b))
      (λ k c a b u. let r = both-true (is_flat its true c) (P a && P b) u in (r.0, both-true (P a) (P b) r.1))
      (λ k c a b u p q. and-true (is_flat its true c) (P a && P b) u (and-true (P a) (P b) p q))
      base top (λ y l h at. refl) (λ y l h at. refl)
      (λ k y l h c u. and-true (nat_eq (depth_at dt y) 2) (is_flat its true c) (ap (λ d. nat_eq d 2) (new-of y l h).deep) u) at y s l h

  pub told-apart : (n : ℕ) (inner : Bool) (y : ℕ) (s : Stmt) → base ≤ y → y + count_ifs s ≤ top → (z : ℕ) → IsIn z (sights_of dt n inner (apart at y s)).scalars → IsIn z (sights_of dt n inner s).scalars ⊎ New ds dt z
  told-apart n inner y s l h z =
      in-apart (λ s. (sights_of dt n inner s).scalars) told_in (λ y c. told_in c) refl (λ a b. refl) (λ k c a b. refl) (λ k y c. refl) base top (New ds dt) z
      (λ y l h at i. listed z y l h i) (λ y l h at i. listed z y l h i) (λ y l h c i. inl i) at y s l h

  pub written-apart : (n : ℕ) (inner : Bool) (y : ℕ) (s : Stmt) → base ≤ y → y + count_ifs s ≤ top → (z : ℕ) → IsIn z (written dt n inner (apart at y s)) → IsIn z (written dt n inner s) ⊎ New ds dt z
  written-apart n inner y s l h z =
      in-apart (λ s. written dt n inner s) (λ c. []) (λ y c. y ∷ []) refl (λ a b. refl) (λ k c a b. refl) (λ k y c. refl) base top (New ds dt) z
      (λ y l h at i. absurd i) (λ y l h at i. absurd i) (λ y l h c i. inr (listed z y l h i)) at y s l h

  pub touched-apart : (y : ℕ) (s : Stmt) → base ≤ y → y + count_ifs s ≤ top → (z : ℕ) → IsIn z (touched (apart at y s)) → IsIn z (touched s) ⊎ New ds dt z
  touched-apart y s l h z =
      in-apart (λ s. touched s) (λ c. []) (λ y c. y ∷ []) refl (λ a b. refl) (λ k c a b. refl) (λ k y c. refl) base top (New ds dt) z
      (λ y l h at i. absurd i) (λ y l h at i. absurd i) (λ y l h c i. inr (listed z y l h i)) at y s l h

  pub properties-apart : (n : ℕ) (inner : Bool) (y : ℕ) (s : Stmt) → (sights_of dt n inner (apart at y s)).properties ≡ (sights_of dt n inner s).properties
  properties-apart n inner y s = gathered-apart (λ s. (sights_of dt n inner s).properties) (λ k c. reads_in c) refl (λ a b. refl) (λ k c a b. refl) (λ k y c. refl) (λ k y at. refl) (λ k y at. refl) at y s

  pub reduced-apart : (n : ℕ) (inner : Bool) (y : ℕ) (s : Stmt) → reduced dt n inner (apart at y s) ≡ reduced dt n inner s
  reduced-apart n inner y s = same-apart (λ a b. a ++ b) [] (λ x. refl) append-nil (λ s. reduced dt n inner s) refl (λ a b. refl) (λ k c a b. refl) (λ k y c. refl) at y s

  pub spares-apart : (y : ℕ) (s : Stmt) → spares_locals dt (apart at y s) ≡ spares_locals dt s
  spares-apart y s = same-apart (λ a b. a && b) true (λ x. refl) and-one (spares_locals dt) refl (λ a b. refl) (λ k c a b. refl) (λ k y c. refl) at y s

  -- the body may be replaced
  pub apart-replaces : (y : ℕ) (s : Stmt) → base ≤ y → y + count_ifs s ≤ top → Replaces ds dt s (apart at y s)
  apart-replaces y s l h = record {
    named = named-apart y s l h;
    typed = λ res. typed-apart res y s l h;
    faults = λ its. faults-apart its at y s;
    order = λ its. order-apart its at y s;
    form = λ its. form-apart its y s l h;
    told = λ n inner z i. ⊎_elim (λ m. inl m) (λ (e : New ds dt z). inr e.high) (told-apart n inner y s l h z i);
    properties = λ n inner. properties-apart n inner y s;
    written = λ n inner z i. ⊎_elim (λ m. inl m) (λ (e : New ds dt z). inr e.high) (written-apart n inner y s l h z i);
    reduced = λ n inner. reduced-apart n inner y s;
    deferred = same-apart (λ a b. a ++ b) [] (λ x. refl) append-nil deferred refl (λ a b. refl) (λ k c a b. refl) (λ k y c. refl) at y s;
    alike = same-apart (λ a b. a && b) true (λ x. refl) and-one targets_alike refl (λ a b. refl) (λ k c a b. refl) (λ k y c. refl) at y s;
    inners = λ n. same-apart (λ a b. a && b) true (λ x. refl) and-one (inners_share dt n) refl (λ a b. refl) (λ k c a b. refl) (λ k y c. refl) at y s;
  }
