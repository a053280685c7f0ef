-- Reductions of a sequential phase as loops keep the totals of a program in order.
use Rattle.std.proofs.Common.{◌≡◌, ℕ, Bool, true, false, List, [], ◌∷◌, ◌++◌, refl, sym, ap, subst, ◌∙◌, Option, Some, None}
use Rattle.std.specs.Prelude.{◌&&◌, ◌||◌, not, nat_eq, if◌then◌else◌}
use Rattle.std.specs.Cmp.Derive.{both_true}
use Rattle.std.specs.List.{list_all}
use Rattle.gm_base.specs.declared.places.Place.{Place}
use Rattle.gm_ast.specs.declared.surface.ReductionWord.{ReductionWord}
use Rattle.gm_ast.specs.declared.surface.ReductionWord.TheVariants as W
use Rattle.gm_ast.specs.declared.tree.Declaration.{Declaration}
use Rattle.gm_ast.specs.declared.tree.Fold.{Fold}
use Rattle.gm_ast.specs.declared.tree.Head.{Head}
use Rattle.gm_ast.specs.declared.tree.Key.{Key}
use Rattle.gm_ast.specs.declared.tree.Target.{Target}
use Rattle.gm_ast.specs.declared.tree.Target.TheVariants as T
use Rattle.gm_ast.specs.Keys.{Fault, fault_lt}
use Rattle.gm_ast.specs.Loops.{is_nodes}
use Rattle.gm_ast.specs.Program.{Expr, Const, Var, Property, EdgeProperty, Degree, NodeCount, EdgeCount, Live, Unary, Binary, Both, Either, Choose, Folded, Stmt, Then, Declare, Assign, Foreach, For, If, While, Do, Program, sequence}
use Rattle.gm_forms.specs.Forms.{depth_at}
use Rattle.gm_forms.specs.Order.{lie_before, fault_of, can_fail1, can_fail2, fault_if, fold_fault, rest_in, hoisted_in, hoists_in_order, faults_in, are_numbered, loops_in_order}
use Rattle.gm_forms.specs.Ready.{is_outer_expr, is_phase_expr, is_phase_code, is_checked}
use Rattle.gm_forms.proofs.Named.{both-true, all-append}
use Rattle.gm_desugar.specs.Reads.{names, has_reads_apart}
use Rattle.gm_desugar.proofs.Replacing.{append-true}
use Rattle.gm_reductions.specs.Folds.{unit_for, given, looped, assigned_out, declared_out, folds_out, without_folds}
use Rattle.gm_reductions.specs.Keys.{key_lt, keys_in, all_under, all_over, rises, all_rise}
use Rattle.gm_reductions.proofs.FoldsOut.{for-out}
use Rattle.gm_hoisting.specs.Hoisting.{later_of, latest_of, is_bare, placed_if}
use Rattle.gm_hoisting.specs.Throughout.{stands_throughout}
use Rattle.gm_hoisting.specs.Totals.{as_sums, body_as_sums, values_stand}
use Rattle.gm_desugaring.proofs.TotalsReads.{StandsIn, FoldsStand, then-stands, parts-stand, for-parts, if-parts, while-parts, do-parts, body-stands}

ap2 : {A B C : Type 0} (f : A → B → C) {a a' : A} {b b' : B} → a ≡ a' → b ≡ b' → f a b ≡ f a' b'
ap2 f {a'} {b} p q = ap (λ x. f x b) p ∙ ap (λ y. f a' y) q

-- ---- the keys of reductions as sums

abbrev Keyed : Key → List Fault → Type 0
Keyed k [] = Unit {0}
Keyed k (f ∷ fs) = (f.key ≡ k) × Keyed k fs

keyed-both : (k : Key) (xs ys : List Fault) → Keyed k xs → Keyed k ys → Keyed k (xs ++ ys)
keyed-both k [] ys h g = g
keyed-both k (x ∷ xs) ys h g = (h.0, keyed-both k xs ys h.1 g)

keyed-if : (b : Bool) (k : Key) (at : Place) → Keyed k (fault_if b k at)
keyed-if true k at = (refl, tt)
keyed-if false k at = tt

rest-keyed : (e : Expr) (k : Key) → Keyed k (rest_in e k)
rest-keyed (Const v) k = tt
rest-keyed (Var x at) k = tt
rest-keyed (Property x p at) k = tt
rest-keyed (EdgeProperty x p at) k = tt
rest-keyed (Degree d x at) k = tt
rest-keyed NodeCount k = tt
rest-keyed EdgeCount k = tt
rest-keyed (Live x at) k = (refl, tt)
rest-keyed (Unary op at e) k = keyed-both k (fault_if (can_fail1 op) k at) (rest_in e k) (keyed-if (can_fail1 op) k at) (rest-keyed e k)
rest-keyed (Binary op at a b) k = keyed-both k (fault_if (can_fail2 op) k at) (rest_in a k ++ rest_in b k) (keyed-if (can_fail2 op) k at) (keyed-both k (rest_in a k) (rest_in b k) (rest-keyed a k) (rest-keyed b k))
rest-keyed (Both a b) k = keyed-both k (rest_in a k) (rest_in b k) (rest-keyed a k) (rest-keyed b k)
rest-keyed (Either a b) k = keyed-both k (rest_in a k) (rest_in b k) (rest-keyed a k) (rest-keyed b k)
rest-keyed (Choose c a b) k = keyed-both k (rest_in c k) (rest_in a k ++ rest_in b k) (rest-keyed c k) (keyed-both k (rest_in a k) (rest_in b k) (rest-keyed a k) (rest-keyed b k))
rest-keyed (Folded f h test e) k = tt

latest-keyed : (k : Key) (f : Fault) (fs : List Fault) → f.key ≡ k → Keyed k fs → (latest_of f fs).key ≡ k
latest-keyed k f [] e h = e
latest-keyed k f (g ∷ gs) e h = latest-keyed k (later_of f g) gs (by (fault_lt f g)) h.1
  where
    by : (b : Bool) → (if b then g else f).key ≡ k
    by true = h.0
    by false = e

-- what holds of the keys of an expression does with its reductions as sums
module _ (holds : Key → Bool) where
  two-keys : (a b : Expr) → (list_all holds (keys_in a) ≡ true → list_all holds (keys_in (as_sums a)) ≡ true) → (list_all holds (keys_in b) ≡ true → list_all holds (keys_in (as_sums b)) ≡ true)
      → list_all holds (keys_in a ++ keys_in b) ≡ true → list_all holds (keys_in (as_sums a) ++ keys_in (as_sums b)) ≡ true
  two-keys a b x y h = let q = all-append holds (keys_in a) (keys_in b) h in append-true holds (keys_in (as_sums a)) (keys_in (as_sums b)) (x q.0) (y q.1)

  fold-keys : (f : Fold) (h : Head) (test e : Expr) (b : Bool) → list_all holds (keys_in (Folded f h test e)) ≡ true → list_all holds (keys_in (Folded (record (placed_if b f h test) { word = W.Sum }) h test e)) ≡ true
  fold-keys f h test e false k = k
  fold-keys f h test e true k =
      let q = all-append holds (f.filter ∷ keys_in test) ((f.body ∷ keys_in e) ++ (f.total.key ∷ [])) k in
      let r = all-append holds (f.body ∷ keys_in e) (f.total.key ∷ []) q.1 in
      let filter = both-true (holds f.filter) (list_all holds (keys_in test)) q.0 in
      let latest = latest_of (fault_of f.filter h.place) (rest_in test f.filter) in
      let same : latest.key ≡ f.filter = latest-keyed f.filter (fault_of f.filter h.place) (rest_in test f.filter) refl (rest-keyed test f.filter) in
      append-true holds (f.filter ∷ keys_in test) ((f.body ∷ keys_in e) ++ (latest.key ∷ [])) q.0
      (append-true holds (f.body ∷ keys_in e) (latest.key ∷ []) r.0 (both_true (ap holds same ∙ filter.0) refl))

  sums-keys : (e : Expr) → list_all holds (keys_in e) ≡ true → list_all holds (keys_in (as_sums e)) ≡ true
  sums-keys (Const v) h = h
  sums-keys (Var x at) h = h
  sums-keys (Property x p at) h = h
  sums-keys (EdgeProperty x p at) h = h
  sums-keys (Degree d x at) h = h
  sums-keys NodeCount h = h
  sums-keys EdgeCount h = h
  sums-keys (Live x at) h = h
  sums-keys (Unary op at e) h = sums-keys e h
  sums-keys (Binary op at a b) h = two-keys a b (sums-keys a) (sums-keys b) h
  sums-keys (Both a b) h = two-keys a b (sums-keys a) (sums-keys b) h
  sums-keys (Either a b) h = two-keys a b (sums-keys a) (sums-keys b) h
  sums-keys (Choose c a b) h =
      let q = all-append holds (keys_in c) (keys_in a ++ keys_in b) h in
      append-true holds (keys_in (as_sums c)) (keys_in (as_sums a) ++ keys_in (as_sums b)) (sums-keys c q.0) (two-keys a b (sums-keys a) (sums-keys b) q.1)
  sums-keys (Folded f k test e) h = fold-keys f k test e (is_bare f e) h

sums-rise : (f : Fold) (h : Head) (test e : Expr) → rises (Folded f h test e) ≡ true → rises (Folded f h (as_sums test) (as_sums e)) ≡ true
sums-rise f h test e r =
    let a = both-true (all_under f.filter (keys_in test)) _ r in
    let b = both-true (all_over f.filter (keys_in e)) _ a.1 in
    let c = both-true (all_under f.body (keys_in e)) _ b.1 in
    both_true (sums-keys (λ j. key_lt j f.filter) test a.0) (both_true (sums-keys (key_lt f.filter) e b.0) (both_true (sums-keys (λ j. key_lt j f.body) e c.0) c.1))

-- ---- they name the same variables, and have the same form

names-sums : (x : ℕ) (e : Expr) → names x (as_sums e) ≡ names x e
names-sums x (Const v) = refl
names-sums x (Var y at) = refl
names-sums x (Property y p at) = refl
names-sums x (EdgeProperty y p at) = refl
names-sums x (Degree d y at) = refl
names-sums x NodeCount = refl
names-sums x EdgeCount = refl
names-sums x (Live y at) = refl
names-sums x (Unary op at e) = names-sums x e
names-sums x (Binary op at a b) = ap2 (λ p q. p || q) (names-sums x a) (names-sums x b)
names-sums x (Both a b) = ap2 (λ p q. p || q) (names-sums x a) (names-sums x b)
names-sums x (Either a b) = ap2 (λ p q. p || q) (names-sums x a) (names-sums x b)
names-sums x (Choose c a b) = ap2 (λ p q. p || q) (names-sums x c) (ap2 (λ p q. p || q) (names-sums x a) (names-sums x b))
names-sums x (Folded f h test e) = refl

outer-sums : (levels : Bool) (n : ℕ) (e : Expr) → is_outer_expr levels n (as_sums e) ≡ is_outer_expr levels n e
outer-sums levels n (Const v) = refl
outer-sums levels n (Var y at) = refl
outer-sums levels n (Property y p at) = refl
outer-sums levels n (EdgeProperty y p at) = refl
outer-sums levels n (Degree d y at) = refl
outer-sums levels n NodeCount = refl
outer-sums levels n EdgeCount = refl
outer-sums levels n (Live y at) = refl
outer-sums levels n (Unary op at e) = outer-sums levels n e
outer-sums levels n (Binary op at a b) = ap2 (λ p q. p && q) (outer-sums levels n a) (outer-sums levels n b)
outer-sums levels n (Both a b) = ap2 (λ p q. p && q) (outer-sums levels n a) (outer-sums levels n b)
outer-sums levels n (Either a b) = ap2 (λ p q. p && q) (outer-sums levels n a) (outer-sums levels n b)
outer-sums levels n (Choose c a b) = ap2 (λ p q. p && q) (outer-sums levels n c) (ap2 (λ p q. p && q) (outer-sums levels n a) (outer-sums levels n b))
outer-sums levels n (Folded f h test e) = refl

-- ---- one reduction as a loop

append-nil : (xs : List Fault) → xs ++ [] ≡ xs
append-nil [] = refl
append-nil (x ∷ xs) = ap (λ ys. x ∷ ys) (append-nil xs)

given-sums : (word : ReductionWord) (f : Fold) (x : ℕ) (e : Expr) → body_as_sums (given word f x e) ≡ given word f x (as_sums e)
given-sums W.Count f x e = refl
given-sums W.Sum f x e = refl
given-sums W.Product f x e = refl
given-sums W.Min f x e = refl
given-sums W.Max f x e = refl
given-sums W.Exist f x e = refl
given-sums W.All f x e = refl

module _ (ds : List Declaration) (x : ℕ) (f : Fold) (h : Head) (test e : Expr) (stands : FoldsStand (Folded f h test e)) where
  inside : lie_before (hoisted_in (as_sums e)) (rest_in (as_sums e) f.body) ≡ true
  inside =
      let a = as_sums test in
      let b = as_sums e in
      let w = both-true (hoists_in_order (Folded f h a b)) (are_numbered (hoisted_in (Folded f h a b))) stands in
      let v = both-true (lie_before (fault_of f.filter h.place ∷ []) (faults_in b f.body ++ fold_fault f)) _ w.0 in
      let t = both-true (hoists_in_order a) _ v.1 in
      let u = both-true (hoists_in_order b) _ t.1 in
      let c = both-true (lie_before (hoisted_in a) (rest_in a f.filter)) _ u.1 in
      (both-true (lie_before (hoisted_in b) (rest_in b f.body)) _ c.1).0

  value-stands : lie_before (hoisted_in (as_sums e) ++ []) (rest_in (as_sums e) f.body ++ []) ≡ true
  value-stands =
      subst (λ xs. lie_before xs (rest_in (as_sums e) f.body ++ []) ≡ true) (sym (append-nil (hoisted_in (as_sums e))))
      (subst (λ ys. lie_before (hoisted_in (as_sums e)) ys ≡ true) (sym (append-nil (rest_in (as_sums e) f.body))) inside)

  given-values : (word : ReductionWord) → values_stand (given word f x e) ≡ true
  given-values W.Count = refl
  given-values W.Sum = value-stands
  given-values W.Product = value-stands
  given-values W.Min = value-stands
  given-values W.Max = value-stands
  given-values W.Exist = value-stands
  given-values W.All = value-stands

  abbrev Loop : Expr → Stmt → Stmt
  Loop c body = Foreach f.filter f.total.shown h c body

  phase-sums : is_phase_expr (Folded f h test e) ≡ true → is_phase_expr (Folded f h (as_sums test) (as_sums e)) ≡ true
  phase-sums p =
      let a = both-true (is_nodes h.domain) _ p in
      let b = both-true (is_outer_expr false h.iterator test) (is_outer_expr false h.iterator e) a.1 in
      both_true a.0 (both_true (outer-sums false h.iterator test ∙ b.0) (outer-sums false h.iterator e ∙ b.1))

  apart-sums : not (names x (Folded f h test e)) ≡ true → not (names x (Folded f h (as_sums test) (as_sums e))) ≡ true
  apart-sums a = ap (λ b. not (nat_eq h.owner x || b)) (ap2 (λ p q. p || q) (names-sums x test) (names-sums x e)) ∙ a

  assign-out : (k : Key) (at : Place) → is_phase_code ds (Assign k (T.Scalar x at) (Folded f h test e)) ≡ true → has_reads_apart (Assign k (T.Scalar x at) (Folded f h test e)) ≡ true → rises (Folded f h test e) ≡ true
      → StandsIn (looped (Assign k (T.Scalar x at) (Const (unit_for f))) x f h test e)
  assign-out k at form apart rising =
      let first = Assign k (T.Scalar x at) (Const (unit_for f)) in
      let seen = Assign k (T.Scalar x at) (Folded f h (as_sums test) (as_sums e)) in
      let a = both-true _ (is_phase_expr (Folded f h test e)) form in
      let order = (for-out ds None seen (both_true a.0 (phase-sums a.1)) (apart-sums apart) (sums-rise f h test e rising)).order stands in (
        ap (λ b. loops_in_order (sequence (first ∷ Loop (as_sums test) b ∷ []))) (given-sums f.word f x e) ∙ order,
        both_true (given-values f.word) refl,
      )

  declare-out : (k : Key) → is_phase_code ds (Declare k x (Some (Folded f h test e))) ≡ true → has_reads_apart (Declare k x (Some (Folded f h test e))) ≡ true → rises (Folded f h test e) ≡ true
      → StandsIn (looped (Declare k x (Some (Const (unit_for f)))) x f h test e)
  declare-out k form apart rising =
      let first = Declare k x (Some (Const (unit_for f))) in
      let seen = Declare k x (Some (Folded f h (as_sums test) (as_sums e))) in
      let a = both-true (nat_eq (depth_at ds x) 0) (is_phase_expr (Folded f h test e)) form in
      let order = (for-out ds None seen (both_true a.0 (phase-sums a.1)) (apart-sums apart) (sums-rise f h test e rising)).order stands in (
        ap (λ b. loops_in_order (sequence (first ∷ Loop (as_sums test) b ∷ []))) (given-sums f.word f x e) ∙ order,
        both_true (given-values f.word) refl,
      )

-- ---- a sequential phase

module _ (ds : List Declaration) where
  assigned-stands : (k : Key) (t : Target) (e : Expr) → is_phase_code ds (Assign k t e) ≡ true → has_reads_apart (Assign k t e) ≡ true → rises e ≡ true → StandsIn (Assign k t e) → StandsIn (assigned_out k t e)
  assigned-stands k (T.Scalar x at) (Folded f h test e) form apart rising s = assign-out ds x f h test e s.0 k at form apart rising
  assigned-stands k t e form apart rising s = s

  declared-stands : (k : Key) (x : ℕ) (e : Option Expr) → is_phase_code ds (Declare k x e) ≡ true → has_reads_apart (Declare k x e) ≡ true → all_rise (Declare k x e) ≡ true → StandsIn (Declare k x e) → StandsIn (declared_out k x e)
  declared-stands k x (Some (Folded f h test e)) form apart rising s = declare-out ds x f h test e s.0 k form apart rising
  declared-stands k x e form apart rising s = s

  folds-stand : (s : Stmt) → is_phase_code ds s ≡ true → has_reads_apart s ≡ true → all_rise s ≡ true → StandsIn s → StandsIn (folds_out s)
  folds-stand (Then a b) form apart rising h =
      let p = both-true (is_phase_code ds a) (is_phase_code ds b) form in
      let q = both-true (has_reads_apart a) (has_reads_apart b) apart in
      let r = both-true (all_rise a) (all_rise b) rising in
      let t = parts-stand a b h in
      then-stands (folds_out a) (folds_out b) (folds-stand a p.0 q.0 r.0 t.0) (folds-stand b p.1 q.1 r.1 t.1)
  folds-stand (Declare k x e) form apart rising h = declared-stands k x e form apart rising h
  folds-stand (Assign k t e) form apart rising h = assigned-stands k t e form apart rising h
  folds-stand (For k at hd c s) form apart rising h =
      let p = both-true (is_nodes hd.domain) (is_phase_expr c && is_phase_code ds s) form in
      let t = for-parts k at hd c s h in
      let x = folds-stand s (both-true (is_phase_expr c) (is_phase_code ds s) p.1).1 apart (both-true (rises c) (all_rise s) rising).1 t.1 in
      (both_true t.0 x.0, x.1)
  folds-stand (If k c a b) form apart rising h =
      let p = both-true (is_phase_code ds a) (is_phase_code ds b) (both-true (is_phase_expr c) (is_phase_code ds a && is_phase_code ds b) form).1 in
      let q = both-true (has_reads_apart a) (has_reads_apart b) apart in
      let r = both-true (all_rise a) (all_rise b) (both-true (rises c) (all_rise a && all_rise b) rising).1 in
      let t = if-parts k c a b h in
      let x = folds-stand a p.0 q.0 r.0 t.1.0 in
      let y = folds-stand b p.1 q.1 r.1 t.1.1 in
      (both_true t.0 (both_true x.0 y.0), both_true x.1 y.1)
  folds-stand (While k at c s) form apart rising h =
      let t = while-parts k at c s h in
      let x = folds-stand s (both-true (is_phase_expr c) (is_phase_code ds s) form).1 apart (both-true (rises c) (all_rise s) rising).1 t.1 in
      (both_true t.0 x.0, x.1)
  folds-stand (Do k at s c) form apart rising h =
      let t = do-parts k at s c h in
      let x = folds-stand s (both-true (is_phase_code ds s) (is_phase_expr c) form).0 apart (both-true (all_rise s) (rises c) rising).0 t.1 in
      (both_true x.0 t.0, x.1)
  folds-stand s form apart rising h = h

pub folds-keep : (p : Program) → is_checked p ≡ true → has_reads_apart p.body ≡ true → all_rise p.body ≡ true → stands_throughout p ≡ true → stands_throughout (without_folds p) ≡ true
folds-keep p form apart rising h = let x = folds-stand p.declarations p.body form apart rising (body-stands p h) in both_true x.0 x.1
