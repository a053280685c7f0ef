-- Faults of a body with its reductions as loops stand in order.
use Rattle.std.proofs.Common.{◌≡◌, ◌+◌, ◌++◌, ℕ, Bool, true, false, List, [], ◌∷◌, map, refl, sym, ap, subst, ◌∙◌, ⊎_elim, inl, inr, Some}
use Rattle.std.specs.Prelude.{◌&&◌, nat_eq}
use Rattle.std.specs.List.{list_all}
use Rattle.std.proofs.lemmas.Bool.{both_ways}
use Rattle.gm_value.specs.declared.reductions.Reduce.{Reduce}
use Rattle.gm_value.specs.Bag.{IsIn}
use Rattle.gm_ast.specs.declared.surface.ReductionWord.{ReductionWord}
use Rattle.gm_ast.specs.declared.surface.ReductionWord.TheVariants as W
use Rattle.gm_ast.specs.declared.tree.Declaration.{Declaration}
use Rattle.gm_ast.specs.declared.tree.Fold.{Fold}
use Rattle.gm_ast.specs.declared.tree.Head.{Head}
use Rattle.gm_ast.specs.declared.tree.Key.{Key}
use Rattle.gm_ast.specs.declared.tree.Target.TheVariants as T
use Rattle.gm_ast.specs.Keys as K
use Rattle.gm_ast.specs.Keys.{fault_lt}
use Rattle.gm_ast.specs.Program.{Expr, Const, Var, Property, EdgeProperty, Degree, NodeCount, EdgeCount, Live, Unary, Binary, Both, Either, Choose, Folded, Stmt, Skip, Then, Declare, Assign, Defer, Combine, Foreach, If, sequence}
use Rattle.gm_semantics.specs.Expressions.{reduce_of}
use Rattle.gm_desugar.specs.Conditions.{nowhere}
use Rattle.gm_forms.specs.Forms.{depth_at, is_flat, is_inner_head, is_within}
use Rattle.gm_forms.specs.Order.{lie_before, fault_of, fault_if, can_fail1, can_fail2, rest_in, hoisted_in, hoisted_in_all, hoists_in_order, faults_in, faults_in_all, in_order, all_in_order, target_faults, targets_faults, faults_of, body_in_order, leads}
use Rattle.gm_forms.specs.Ready.{is_outer_expr, is_at_depth, is_outer_code}
use Rattle.gm_forms.proofs.CutLaws.{lies-in}
use Rattle.gm_forms.proofs.Doings.{in-left, in-right, in-either}
use Rattle.gm_forms.proofs.Leading.{flat-hoisted, flat-in-order}
use Rattle.gm_forms.proofs.Named.{both-true}
use Rattle.gm_forms.proofs.Weaker.{and-true}
use Rattle.gm_desugar.proofs.Fewer.{Fewer, lie-from, lie-fewer, fewer-both, nothing-before}
use Rattle.gm_hoisting.specs.Hoisting.{key_eq, joins, passing, adds, giving, looped, placed, count_folds, count_body, folds_set, all_set, told_from, all_told, behind, body_out}
use Rattle.gm_hoisting.specs.Totals.{as_sums, body_as_sums, hoists_follow, rest_in_all, values_stand}
use Rattle.gm_hoisting.proofs.TextKept.{told-flat}
use Rattle.gm_hoisting.proofs.Turns.{keys-one}

-- ---- lists of faults

abbrev Before : List K.Fault → List K.Fault → Type 0
Before xs ys = (f g : K.Fault) → IsIn f xs → IsIn g ys → fault_lt f g ≡ true

lies : (xs ys : List K.Fault) → lie_before xs ys ≡ true → Before xs ys
lies xs ys h f g i j = lies-in xs ys f g h i j

before-both : (xs ys zs : List K.Fault) → Before xs ys → Before xs zs → Before xs (ys ++ zs)
before-both xs ys zs p q f g i j = ⊎_elim (λ l. p f g i l) (λ r. q f g i r) (in-either g ys zs j)

both-before : (xs ys zs : List K.Fault) → Before xs zs → Before ys zs → Before (xs ++ ys) zs
both-before xs ys zs p q f g i j = ⊎_elim (λ l. p f g l j) (λ r. q f g r j) (in-either f xs ys i)

before-fewer : (xs ys us vs : List K.Fault) → Fewer us xs → Fewer vs ys → Before xs ys → Before us vs
before-fewer xs ys us vs p q h f g i j = h f g (p f i) (q g j)

fewer-none : (xs ys : List K.Fault) → Fewer xs ys → Fewer (xs ++ []) ys
fewer-none xs ys h f i = ⊎_elim (λ l. h f l) (λ r. absurd r) (in-either f xs [] i)

fewer-left : (xs ys : List K.Fault) → Fewer xs (xs ++ ys)
fewer-left xs ys f i = in-left f xs ys i

fewer-right : (xs ys : List K.Fault) → Fewer ys (xs ++ ys)
fewer-right xs ys f i = in-right f xs ys i

fewer-on : (xs ys zs : List K.Fault) → Fewer xs ys → Fewer ys zs → Fewer xs zs
fewer-on xs ys zs p q f i = q f (p f i)

fewer-of : (xs ys zs : List K.Fault) → Fewer xs zs → Fewer ys zs → Fewer (xs ++ ys) zs
fewer-of xs ys zs p q f i = ⊎_elim (λ l. p f l) (λ r. q f r) (in-either f xs ys i)

nothing-in : (xs ys : List K.Fault) → xs ≡ [] → Fewer xs ys
nothing-in xs ys e f i = absurd (subst (IsIn f) e i)

-- ---- statements one after another

module _ (js : List ℕ) where
  faults-both : (xs ys : List Stmt) → Fewer (faults_of js (sequence (xs ++ ys))) (faults_of js (sequence xs) ++ faults_of js (sequence ys))
  faults-both [] ys f i = i
  faults-both (x ∷ xs) ys f i =
      ⊎_elim (λ l. in-left f (faults_of js x ++ faults_of js (sequence xs)) (faults_of js (sequence ys)) (in-left f (faults_of js x) (faults_of js (sequence xs)) l))
      (λ r. ⊎_elim (λ l. in-left f (faults_of js x ++ faults_of js (sequence xs)) (faults_of js (sequence ys)) (in-right f (faults_of js x) (faults_of js (sequence xs)) l)) (λ m. in-right f (faults_of js x ++ faults_of js (sequence xs)) (faults_of js (sequence ys)) m)
      (in-either f (faults_of js (sequence xs)) (faults_of js (sequence ys)) (faults-both xs ys f r)))
      (in-either f (faults_of js x) (faults_of js (sequence (xs ++ ys))) i)

  order-both : (xs ys : List Stmt) → body_in_order js (sequence xs) ≡ true → body_in_order js (sequence ys) ≡ true → Before (faults_of js (sequence xs)) (faults_of js (sequence ys)) → body_in_order js (sequence (xs ++ ys)) ≡ true
  order-both [] ys p q h = q
  order-both (x ∷ xs) ys p q h =
      let a = both-true (body_in_order js x) (body_in_order js (sequence xs) && lie_before (faults_of js x) (faults_of js (sequence xs))) p in
      let b = both-true (body_in_order js (sequence xs)) (lie_before (faults_of js x) (faults_of js (sequence xs))) a.1 in
      and-true (body_in_order js x) _ a.0
      (and-true (body_in_order js (sequence (xs ++ ys))) (lie_before (faults_of js x) (faults_of js (sequence (xs ++ ys))))
      (order-both xs ys b.0 q (λ f g i j. h f g (in-right f (faults_of js x) (faults_of js (sequence xs)) i) j))
      (lie-from (faults_of js x) (faults_of js (sequence (xs ++ ys)))
      (before-fewer (faults_of js x) (faults_of js (sequence xs) ++ faults_of js (sequence ys)) (faults_of js x) (faults_of js (sequence (xs ++ ys))) (λ f i. i) (faults-both xs ys)
      (before-both (faults_of js x) (faults_of js (sequence xs)) (faults_of js (sequence ys)) (lies (faults_of js x) (faults_of js (sequence xs)) b.1) (λ f g i j. h f g (in-left f (faults_of js x) (faults_of js (sequence xs)) i) j)))))

  -- one statement alone
  alone-order : (t : Stmt) → body_in_order js t ≡ true → body_in_order js (sequence (t ∷ [])) ≡ true
  alone-order t h = and-true (body_in_order js t) (true && lie_before (faults_of js t) []) h refl

  -- a statement behind others
  behind-order : (xs : List Stmt) (t : Stmt) → body_in_order js (sequence xs) ≡ true → body_in_order js t ≡ true → Before (faults_of js (sequence xs)) (faults_of js t) → body_in_order js (behind xs t) ≡ true
  behind-order [] t p q h = q
  behind-order (x ∷ xs) t p q h = order-both (x ∷ xs) (t ∷ []) p (alone-order t q) (λ f g i j. h f g i (fewer-none (faults_of js t) (faults_of js t) (λ f i. i) g j))

  behind-faults : (xs : List Stmt) (t : Stmt) → Fewer (faults_of js (behind xs t)) (faults_of js (sequence xs) ++ faults_of js t)
  behind-faults [] t f i = i
  behind-faults (x ∷ xs) t f i =
      let all = faults_of js (sequence (x ∷ xs)) in
      ⊎_elim (λ l. in-left f all (faults_of js t) l) (λ r. in-right f all (faults_of js t) (fewer-none (faults_of js t) (faults_of js t) (λ f i. i) f r)) (in-either f all (faults_of js t ++ []) (faults-both (x ∷ xs) (t ∷ []) f i))

-- ---- the loop of a reduction

module _ (x : ℕ) (f : Fold) (h : Head) (test e : Expr) (its : List ℕ) (flat-test : is_flat its false test ≡ true) (flat-body : is_flat its false e ≡ true) (js : List ℕ) where
  abbrev ks : List ℕ
  ks = h.iterator ∷ js

  abbrev lead : List K.Fault
  lead = fault_of f.filter h.place ∷ []

  abbrev xs : List K.Fault
  xs = hoisted_in test ++ rest_in test f.filter

  abbrev ys : List K.Fault
  ys = hoisted_in e ++ rest_in e f.body

  abbrev totals : List K.Fault
  totals = fault_of f.body f.total.place ∷ K.total_fault f.total ∷ []

  abbrev Whole : Type 0
  Whole = hoists_in_order (Folded (record f { word = W.Sum }) h test e) ≡ true

  parts : Whole → Before lead (ys ++ totals) × Before xs ys × Before (xs ++ ys) totals
  parts w =
      let a = both-true (lie_before lead (ys ++ totals)) _ w in
      let b = both-true (hoists_in_order test) _ a.1 in
      let c = both-true (hoists_in_order e) _ b.1 in
      let d = both-true (lie_before (hoisted_in test) (rest_in test f.filter)) _ c.1 in
      let g = both-true (lie_before (hoisted_in e) (rest_in e f.body)) _ d.1 in
      let i = both-true (lie_before xs ys) (lie_before (xs ++ ys) totals) g.1 in
      (lies lead (ys ++ totals) a.0, lies xs ys i.0, lies (xs ++ ys) totals i.1)

  both-flat : is_flat its false (Both test e) ≡ true
  both-flat = and-true (is_flat its false test) (is_flat its false e) flat-test flat-body

  adds-faults : Fewer (faults_of ks (adds x f)) totals
  adds-faults g i = i

  value-faults : (r : Reduce) → Fewer (faults_of ks (Combine f.body f.total r (T.Scalar x nowhere ∷ []) (e ∷ []))) (ys ++ totals)
  value-faults r = fewer-both ys totals (ys ++ []) totals (fewer-none ys ys (λ g i. i)) (λ g i. i)

  count-faults : Fewer (faults_of ks (If f.body e (adds x f) Skip)) (ys ++ totals)
  count-faults = fewer-both ys totals ys (faults_of ks (adds x f) ++ []) (λ g i. i) (fewer-none (faults_of ks (adds x f)) totals adds-faults)

  adds-order : body_in_order ks (adds x f) ≡ true
  adds-order = nothing-before (record { key = f.body; place = f.total.place } ∷ K.total_fault f.total ∷ [])

  value-order : (r : Reduce) → body_in_order ks (Combine f.body f.total r (T.Scalar x nowhere ∷ []) (e ∷ [])) ≡ true
  value-order r =
      and-true (in_order e f.body && true) _ (and-true (in_order e f.body) true (flat-in-order its false e f.body flat-body) refl)
      (subst (λ hs. lie_before (hs ++ []) (record { key = f.body; place = f.total.place } ∷ K.total_fault f.total ∷ []) ≡ true) (sym (flat-hoisted its false e flat-body)) (nothing-before (record { key = f.body; place = f.total.place } ∷ K.total_fault f.total ∷ [])))

  count-order : Before (xs ++ ys) totals → body_in_order ks (If f.body e (adds x f) Skip) ≡ true
  count-order last =
      and-true (in_order e f.body) _ (flat-in-order its false e f.body flat-body)
      (and-true (body_in_order ks (adds x f)) _ adds-order
      (and-true (lie_before (faults_in e f.body) (faults_of ks (adds x f) ++ [])) true
      (lie-from (faults_in e f.body) (faults_of ks (adds x f) ++ []) (before-fewer (xs ++ ys) totals ys (faults_of ks (adds x f) ++ []) (fewer-right xs ys) (fewer-none (faults_of ks (adds x f)) totals adds-faults) last)) refl))

  -- the loop, by what it gives
  loop-order : (d : Expr) (s : Stmt) → is_flat its false d ≡ true → body_in_order ks s ≡ true → Before lead (faults_of ks s) → Before (faults_in d f.filter) (faults_of ks s) → body_in_order js (Foreach f.filter f.total.shown h d s) ≡ true
  loop-order d s flat order first next =
      and-true (leads ks f.filter h.place s) _ (lie-from lead (faults_of ks s) first)
      (and-true (in_order d f.filter) _ (flat-in-order its false d f.filter flat) (and-true (body_in_order ks s) (lie_before (faults_in d f.filter) (faults_of ks s)) order (lie-from (faults_in d f.filter) (faults_of ks s) next)))

  abbrev Ordered : Bool → ReductionWord → Type 0
  Ordered j word = body_in_order js (Foreach f.filter f.total.shown h (passing j test e) (giving j word x f e)) ≡ true

  abbrev all : List K.Fault
  all = fault_of f.filter h.place ∷ (xs ++ (ys ++ totals))

  abbrev Few : Bool → ReductionWord → Type 0
  Few j word = Fewer (faults_of js (Foreach f.filter f.total.shown h (passing j test e) (giving j word x f e))) all

  by-filter : (w : Whole) (s : Stmt) → body_in_order ks s ≡ true → Fewer (faults_of ks s) (ys ++ totals) → body_in_order js (Foreach f.filter f.total.shown h test s) ≡ true
  by-filter w s order few =
      let p = parts w in
      loop-order test s flat-test order (before-fewer lead (ys ++ totals) lead (faults_of ks s) (λ g i. i) few p.0)
      (before-fewer xs (ys ++ totals) xs (faults_of ks s) (λ g i. i) few (before-both xs ys totals p.1 (before-fewer (xs ++ ys) totals xs totals (fewer-left xs ys) (λ g i. i) p.2)))

  few-filter : (s : Stmt) → Fewer (faults_of ks s) (ys ++ totals) → Fewer (faults_of js (Foreach f.filter f.total.shown h test s)) all
  few-filter s few g (inl q) = inl q
  few-filter s few g (inr m) = inr (fewer-both xs (ys ++ totals) xs (faults_of ks s) (λ g i. i) few g m)

  -- a filter with the braces in it
  joined-faults : key_eq f.filter f.body ≡ true → Fewer (faults_in (Both test e) f.filter) (xs ++ ys)
  joined-faults same g i =
      ⊎_elim (λ l. fewer-both xs ys (hoisted_in test) (hoisted_in e) (fewer-left (hoisted_in test) (rest_in test f.filter)) (fewer-left (hoisted_in e) (rest_in e f.body)) g l)
      (λ r. fewer-both xs ys (rest_in test f.filter) (rest_in e f.filter) (fewer-right (hoisted_in test) (rest_in test f.filter))
      (λ g j. in-right g (hoisted_in e) (rest_in e f.body) (subst (λ k. IsIn g (rest_in e k)) (keys-one f.filter f.body same) j)) g r)
      (in-either g (hoisted_in test ++ hoisted_in e) (rest_in test f.filter ++ rest_in e f.filter) i)

  looped-ordered : Whole → (word : ReductionWord) (j : Bool) → joins word f ≡ j → Ordered j word
  looped-ordered w W.Count true same =
      let p = parts w in
      loop-order (Both test e) (adds x f) both-flat adds-order (before-fewer lead (ys ++ totals) lead totals (λ g i. i) (fewer-right ys totals) p.0)
      (before-fewer (xs ++ ys) totals (faults_in (Both test e) f.filter) totals (joined-faults same) (λ g i. i) p.2)
  looped-ordered w W.Count false i = by-filter w (giving false W.Count x f e) (count-order (parts w).2) count-faults
  looped-ordered w W.Sum false i = by-filter w (giving false W.Sum x f e) (value-order (reduce_of W.Sum)) (value-faults (reduce_of W.Sum))
  looped-ordered w W.Product false i = by-filter w (giving false W.Product x f e) (value-order (reduce_of W.Product)) (value-faults (reduce_of W.Product))
  looped-ordered w W.Min false i = by-filter w (giving false W.Min x f e) (value-order (reduce_of W.Min)) (value-faults (reduce_of W.Min))
  looped-ordered w W.Max false i = by-filter w (giving false W.Max x f e) (value-order (reduce_of W.Max)) (value-faults (reduce_of W.Max))
  looped-ordered w W.Exist false i = by-filter w (giving false W.Exist x f e) (value-order (reduce_of W.Exist)) (value-faults (reduce_of W.Exist))
  looped-ordered w W.All false i = by-filter w (giving false W.All x f e) (value-order (reduce_of W.All)) (value-faults (reduce_of W.All))
  looped-ordered w W.Sum true i = absurd (both_ways false refl i)
  looped-ordered w W.Product true i = absurd (both_ways false refl i)
  looped-ordered w W.Min true i = absurd (both_ways false refl i)
  looped-ordered w W.Max true i = absurd (both_ways false refl i)
  looped-ordered w W.Exist true i = absurd (both_ways false refl i)
  looped-ordered w W.All true i = absurd (both_ways false refl i)

  looped-few : (word : ReductionWord) (j : Bool) → joins word f ≡ j → Few j word
  looped-few W.Count true same g (inl q) = inl q
  looped-few W.Count true same g (inr m) =
      inr (⊎_elim (λ l. ⊎_elim (λ a. in-left g xs (ys ++ totals) a) (λ b. in-right g xs (ys ++ totals) (in-left g ys totals b)) (in-either g xs ys (joined-faults same g l)))
      (λ r. in-right g xs (ys ++ totals) (in-right g ys totals r)) (in-either g (faults_in (Both test e) f.filter) totals m))
  looped-few W.Count false i g m = few-filter (giving false W.Count x f e) count-faults g m
  looped-few W.Sum false i g m = few-filter (giving false W.Sum x f e) (value-faults (reduce_of W.Sum)) g m
  looped-few W.Product false i g m = few-filter (giving false W.Product x f e) (value-faults (reduce_of W.Product)) g m
  looped-few W.Min false i g m = few-filter (giving false W.Min x f e) (value-faults (reduce_of W.Min)) g m
  looped-few W.Max false i g m = few-filter (giving false W.Max x f e) (value-faults (reduce_of W.Max)) g m
  looped-few W.Exist false i g m = few-filter (giving false W.Exist x f e) (value-faults (reduce_of W.Exist)) g m
  looped-few W.All false i g m = few-filter (giving false W.All x f e) (value-faults (reduce_of W.All)) g m
  looped-few W.Sum true i g m = absurd (both_ways false refl i)
  looped-few W.Product true i g m = absurd (both_ways false refl i)
  looped-few W.Min true i g m = absurd (both_ways false refl i)
  looped-few W.Max true i g m = absurd (both_ways false refl i)
  looped-few W.Exist true i g m = absurd (both_ways false refl i)
  looped-few W.All true i g m = absurd (both_ways false refl i)

-- ---- expressions

-- what is left of an expression has the faults of its rest
pub told-rest : (e : Expr) (n : ℕ) (k : Key) → rest_in (told_from n e) k ≡ rest_in (as_sums e) k
told-rest (Const v) n k = refl
told-rest (Var x at) n k = refl
told-rest (Property x p at) n k = refl
told-rest (EdgeProperty x p at) n k = refl
told-rest (Degree d x at) n k = refl
told-rest NodeCount n k = refl
told-rest EdgeCount n k = refl
told-rest (Live x at) n k = refl
told-rest (Unary op at e) n k = ap (λ fs. fault_if (can_fail1 op) k at ++ fs) (told-rest e n k)
told-rest (Binary op at a b) n k =
    ap (λ fs. fault_if (can_fail2 op) k at ++ (fs ++ rest_in (told_from (n + count_folds a) b) k)) (told-rest a n k) ∙ ap (λ fs. fault_if (can_fail2 op) k at ++ (rest_in (as_sums a) k ++ fs)) (told-rest b (n + count_folds a) k)
told-rest (Both a b) n k = ap (λ fs. fs ++ rest_in (told_from (n + count_folds a) b) k) (told-rest a n k) ∙ ap (λ fs. rest_in (as_sums a) k ++ fs) (told-rest b (n + count_folds a) k)
told-rest (Either a b) n k = ap (λ fs. fs ++ rest_in (told_from (n + count_folds a) b) k) (told-rest a n k) ∙ ap (λ fs. rest_in (as_sums a) k ++ fs) (told-rest b (n + count_folds a) k)
told-rest (Choose c a b) n k =
    let n1 = n + count_folds c in
    ap (λ fs. fs ++ (rest_in (told_from n1 a) k ++ rest_in (told_from (n1 + count_folds a) b) k)) (told-rest c n k)
    ∙ ap (λ fs. rest_in (as_sums c) k ++ (fs ++ rest_in (told_from (n1 + count_folds a) b) k)) (told-rest a n1 k)
    ∙ ap (λ fs. rest_in (as_sums c) k ++ (rest_in (as_sums a) k ++ fs)) (told-rest b (n1 + count_folds a) k)
told-rest (Folded f h test e) n k = refl

module _ (levels : Bool) (outer : ℕ) where
  abbrev its : List ℕ
  its = outer ∷ []

  -- the reductions of an expression, one after another
  pub record FoldsOrdered (n : ℕ) (k : Key) (e : Expr) : Type 0 where
    pub order : body_in_order its (sequence (folds_set n k e)) ≡ true
    pub few : Fewer (faults_of its (sequence (folds_set n k e))) (hoisted_in (as_sums e))

  nothing-ordered : (n : ℕ) (k : Key) (e : Expr) → folds_set n k e ≡ [] → FoldsOrdered n k e
  nothing-ordered n k e none = record { order = ap (λ xs. body_in_order its (sequence xs)) none; few = nothing-in (faults_of its (sequence (folds_set n k e))) (hoisted_in (as_sums e)) (ap (λ xs. faults_of its (sequence xs)) none) }

  two-ordered : (us vs : List Stmt) (as' bs : List K.Fault) → body_in_order its (sequence us) ≡ true → Fewer (faults_of its (sequence us)) as' → body_in_order its (sequence vs) ≡ true → Fewer (faults_of its (sequence vs)) bs → Before as' bs →
      (body_in_order its (sequence (us ++ vs)) ≡ true) × Fewer (faults_of its (sequence (us ++ vs))) (as' ++ bs)
  two-ordered us vs as' bs p q r s h = (
    order-both its us vs p r (before-fewer as' bs (faults_of its (sequence us)) (faults_of its (sequence vs)) q s h),
    fewer-on (faults_of its (sequence (us ++ vs))) (faults_of its (sequence us) ++ faults_of its (sequence vs)) (as' ++ bs) (faults-both its us vs) (fewer-both as' bs (faults_of its (sequence us)) (faults_of its (sequence vs)) q s),
  )

  pair-ordered : (n : ℕ) (k : Key) (a b : Expr) → FoldsOrdered n k a → FoldsOrdered (n + count_folds a) k b → Before (hoisted_in (as_sums a)) (hoisted_in (as_sums b)) →
      (body_in_order its (sequence (folds_set n k a ++ folds_set (n + count_folds a) k b)) ≡ true) × Fewer (faults_of its (sequence (folds_set n k a ++ folds_set (n + count_folds a) k b))) (hoisted_in (as_sums a) ++ hoisted_in (as_sums b))
  pair-ordered n k a b p q h = two-ordered (folds_set n k a) (folds_set (n + count_folds a) k b) (hoisted_in (as_sums a)) (hoisted_in (as_sums b)) p.order p.few q.order q.few h

  pub folds-order : (e : Expr) (n : ℕ) (k : Key) → is_outer_expr levels outer e ≡ true → hoists_in_order (as_sums e) ≡ true → FoldsOrdered n k e
  folds-order (Const v) n k form order = nothing-ordered n k (Const v) refl
  folds-order (Var x at) n k form order = nothing-ordered n k (Var x at) refl
  folds-order (Property x p at) n k form order = nothing-ordered n k (Property x p at) refl
  folds-order (EdgeProperty x p at) n k form order = nothing-ordered n k (EdgeProperty x p at) refl
  folds-order (Degree d x at) n k form order = nothing-ordered n k (Degree d x at) refl
  folds-order NodeCount n k form order = nothing-ordered n k NodeCount refl
  folds-order EdgeCount n k form order = nothing-ordered n k EdgeCount refl
  folds-order (Live x at) n k form order = nothing-ordered n k (Live x at) refl
  folds-order (Unary op at e) n k form order = let q = folds-order e n k form order in record { order = q.order; few = q.few }
  folds-order (Binary op at a b) n k form order =
      let f = both-true (is_outer_expr levels outer a) (is_outer_expr levels outer b) form in
      let o = both-true (hoists_in_order (as_sums a)) _ order in
      let p = both-true (hoists_in_order (as_sums b)) (lie_before (hoisted_in (as_sums a)) (hoisted_in (as_sums b))) o.1 in
      let r = pair-ordered n k a b (folds-order a n k f.0 o.0) (folds-order b (n + count_folds a) k f.1 p.0) (lies (hoisted_in (as_sums a)) (hoisted_in (as_sums b)) p.1) in
      record { order = r.0; few = r.1 }
  folds-order (Both a b) n k form order =
      let f = both-true (is_outer_expr levels outer a) (is_outer_expr levels outer b) form in
      let o = both-true (hoists_in_order (as_sums a)) _ order in
      let p = both-true (hoists_in_order (as_sums b)) (lie_before (hoisted_in (as_sums a)) (hoisted_in (as_sums b))) o.1 in
      let r = pair-ordered n k a b (folds-order a n k f.0 o.0) (folds-order b (n + count_folds a) k f.1 p.0) (lies (hoisted_in (as_sums a)) (hoisted_in (as_sums b)) p.1) in
      record { order = r.0; few = r.1 }
  folds-order (Either a b) n k form order =
      let f = both-true (is_outer_expr levels outer a) (is_outer_expr levels outer b) form in
      let o = both-true (hoists_in_order (as_sums a)) _ order in
      let p = both-true (hoists_in_order (as_sums b)) (lie_before (hoisted_in (as_sums a)) (hoisted_in (as_sums b))) o.1 in
      let r = pair-ordered n k a b (folds-order a n k f.0 o.0) (folds-order b (n + count_folds a) k f.1 p.0) (lies (hoisted_in (as_sums a)) (hoisted_in (as_sums b)) p.1) in
      record { order = r.0; few = r.1 }
  folds-order (Choose c a b) n k form order =
      let n1 = n + count_folds c in
      let f = both-true (is_outer_expr levels outer c) (is_outer_expr levels outer a && is_outer_expr levels outer b) form in
      let g = both-true (is_outer_expr levels outer a) (is_outer_expr levels outer b) f.1 in
      let o = both-true (hoists_in_order (as_sums c)) _ order in
      let p = both-true (hoists_in_order (as_sums a)) _ o.1 in
      let q = both-true (hoists_in_order (as_sums b)) _ p.1 in
      let z = both-true (lie_before (hoisted_in (as_sums c)) (hoisted_in (as_sums a) ++ hoisted_in (as_sums b))) (lie_before (hoisted_in (as_sums a)) (hoisted_in (as_sums b))) q.1 in
      let one = folds-order c n k f.0 o.0 in
      let r = pair-ordered n1 k a b (folds-order a n1 k g.0 p.0) (folds-order b (n1 + count_folds a) k g.1 q.0) (lies (hoisted_in (as_sums a)) (hoisted_in (as_sums b)) z.1) in
      let s = two-ordered (folds_set n k c) (folds_set n1 k a ++ folds_set (n1 + count_folds a) k b) (hoisted_in (as_sums c)) (hoisted_in (as_sums a) ++ hoisted_in (as_sums b)) one.order one.few r.0 r.1 (lies (hoisted_in (as_sums c)) (hoisted_in (as_sums a) ++ hoisted_in (as_sums b)) z.0) in
      record { order = s.0; few = s.1 }
  folds-order (Folded f0 h test e) n k form order =
      let f = placed f0 h test e in
      let both = outer ∷ h.iterator ∷ [] in
      let flats = both-true (is_flat both false test) (is_flat both false e) (both-true (is_inner_head levels outer h) _ form).1 in
      let one = looped-ordered n f h test e both flats.0 flats.1 its order f.word (joins f.word f) refl in
      let few = looped-few n f h test e both flats.0 flats.1 its f.word (joins f.word f) refl in
      let rest = sequence (looped n f h test e ∷ []) in
      record { order = and-true (body_in_order its rest) (lie_before [] (faults_of its rest)) (alone-order its (looped n f h test e) one) (nothing-before (faults_of its rest)); few = fewer-none (faults_of its (looped n f h test e)) (hoisted_in (as_sums (Folded f0 h test e))) few }

-- ---- statements

module _ (ds : List Declaration) (levels : Bool) (outer : ℕ) where
  abbrev around : List ℕ
  around = outer ∷ []

  -- a body in place of another
  pub record InOrder (s t : Stmt) : Type 0 where
    pub order : body_in_order around t ≡ true
    pub few : Fewer (faults_of around t) (faults_of around s)

  -- a statement that stands behind the reductions of what it asks, with faults of around own beside
  behind-ordered : (xs : List Stmt) (t : Stmt) (hoisted all : List K.Fault) → body_in_order around (sequence xs) ≡ true → Fewer (faults_of around (sequence xs)) hoisted → body_in_order around t ≡ true → Before hoisted (faults_of around t) → Fewer hoisted all → Fewer (faults_of around t) all →
      (body_in_order around (behind xs t) ≡ true) × Fewer (faults_of around (behind xs t)) all
  behind-ordered xs t hoisted all p few q h one two = (
    behind-order around xs t p q (before-fewer hoisted (faults_of around t) (faults_of around (sequence xs)) (faults_of around t) few (λ f i. i) h),
    fewer-on (faults_of around (behind xs t)) (faults_of around (sequence xs) ++ faults_of around t) all (behind-faults around xs t) (fewer-of (faults_of around (sequence xs)) (faults_of around t) all (fewer-on (faults_of around (sequence xs)) hoisted all few one) two),
  )

  -- what is left of an expression
  left-few : (e : Expr) (n : ℕ) (k : Key) → is_outer_expr levels outer e ≡ true → Fewer (faults_in (told_from n e) k) (rest_in (as_sums e) k)
  left-few e n k form f i =
      ⊎_elim (λ l. absurd (subst (IsIn f) (flat-hoisted (outer ∷ []) false (told_from n e) (told-flat levels outer e n form)) l)) (λ r. subst (IsIn f) (told-rest e n k) r) (in-either f (hoisted_in (told_from n e)) (rest_in (told_from n e) k) i)

  left-order : (e : Expr) (n : ℕ) (k : Key) → is_outer_expr levels outer e ≡ true → in_order (told_from n e) k ≡ true
  left-order e n k form = flat-in-order (outer ∷ []) false (told_from n e) k (told-flat levels outer e n form)

  left-hoists : (e : Expr) (n : ℕ) → is_outer_expr levels outer e ≡ true → hoisted_in (told_from n e) ≡ []
  left-hoists e n form = flat-hoisted (outer ∷ []) false (told_from n e) (told-flat levels outer e n form)

  -- a statement with a target and a value
  target-ordered : (e : Expr) (n : ℕ) (k : Key) (ts : List K.Fault) (t : Stmt) → is_outer_expr levels outer e ≡ true → in_order (as_sums e) k ≡ true → lie_before (hoisted_in (as_sums e)) ts ≡ true →
      body_in_order around t ≡ true → faults_of around t ≡ ts ++ faults_in (told_from n e) k →
      (body_in_order around (behind (folds_set n k e) t) ≡ true) × Fewer (faults_of around (behind (folds_set n k e) t)) (ts ++ faults_in (as_sums e) k)
  target-ordered e n k ts t form order first alone is =
      let o = both-true (hoists_in_order (as_sums e)) (lie_before (hoisted_in (as_sums e)) (rest_in (as_sums e) k)) order in
      let folds = folds-order levels outer e n k form o.0 in
      let hs = hoisted_in (as_sums e) in
      let few : Fewer (faults_of around t) (ts ++ rest_in (as_sums e) k) = (λ f i. fewer-both ts (rest_in (as_sums e) k) ts (faults_in (told_from n e) k) (λ f i. i) (left-few e n k form) f (subst (IsIn f) is i)) in
      behind-ordered (folds_set n k e) t hs (ts ++ faults_in (as_sums e) k) folds.order folds.few alone
      (before-fewer hs (ts ++ rest_in (as_sums e) k) hs (faults_of around t) (λ f i. i) few (before-both hs ts (rest_in (as_sums e) k) (lies hs ts first) (lies hs (rest_in (as_sums e) k) o.1)))
      (λ f i. in-right f ts (faults_in (as_sums e) k) (in-left f hs (rest_in (as_sums e) k) i))
      (λ f i. fewer-both ts (faults_in (as_sums e) k) ts (rest_in (as_sums e) k) (λ f i. i) (fewer-right hs (rest_in (as_sums e) k)) f (few f i))

  left-target : (e : Expr) (n : ℕ) (k : Key) (ts : List K.Fault) → is_outer_expr levels outer e ≡ true → in_order (told_from n e) k && lie_before (hoisted_in (told_from n e)) ts ≡ true
  left-target e n k ts form = and-true (in_order (told_from n e) k) (lie_before (hoisted_in (told_from n e)) ts) (left-order e n k form) (subst (λ hs. lie_before hs ts ≡ true) (sym (left-hoists e n form)) (nothing-before ts))

  -- an If behind the reductions of around condition
  pub if-behind : (k : Key) (c : Expr) (n : ℕ) (A B a' b' : Stmt) → is_outer_expr levels outer c ≡ true → in_order (as_sums c) k ≡ true → InOrder A a' → InOrder B b' → lie_before (faults_in (as_sums c) k) (faults_of around A ++ faults_of around B) ≡ true → lie_before (faults_of around A) (faults_of around B) ≡ true →
      InOrder (If k (as_sums c) A B) (behind (folds_set n k c) (If k (told_from n c) a' b'))
  if-behind k c n A B a' b' form order x y first next =
      let C = as_sums c in
      let hs = hoisted_in C in
      let rs = rest_in C k in
      let bodies = faults_of around A ++ faults_of around B in
      let o = both-true (hoists_in_order C) (lie_before hs rs) order in
      let folds = folds-order levels outer c n k form o.0 in
      let last = If k (told_from n c) a' b' in
      let inner : Fewer (faults_of around a' ++ faults_of around b') bodies = fewer-both (faults_of around A) (faults_of around B) (faults_of around a') (faults_of around b') x.few y.few in
      let few : Fewer (faults_of around last) (rs ++ bodies) = fewer-both rs bodies (faults_in (told_from n c) k) (faults_of around a' ++ faults_of around b') (left-few c n k form) inner in
      let before = lies (faults_in C k) bodies first in
      let alone : body_in_order around last ≡ true =
      and-true (in_order (told_from n c) k) _ (left-order c n k form)
      (and-true (body_in_order around a') _ x.order
      (and-true (body_in_order around b') _ y.order
      (and-true (lie_before (faults_in (told_from n c) k) (faults_of around a' ++ faults_of around b')) (lie_before (faults_of around a') (faults_of around b'))
      (lie-from (faults_in (told_from n c) k) (faults_of around a' ++ faults_of around b') (before-fewer (faults_in C k) bodies (faults_in (told_from n c) k) (faults_of around a' ++ faults_of around b') (fewer-on (faults_in (told_from n c) k) rs (faults_in C k) (left-few c n k form) (fewer-right hs rs)) inner before))
      (lie-fewer (faults_of around A) (faults_of around B) (faults_of around a') (faults_of around b') x.few y.few next)))) in
      let r = behind-ordered (folds_set n k c) last hs (faults_in C k ++ bodies) folds.order folds.few alone
      (before-fewer hs (rs ++ bodies) hs (faults_of around last) (λ f i. i) few (before-both hs rs bodies (lies hs rs o.1) (λ f g i j. before f g (in-left f hs rs i) j)))
      (λ f i. in-left f (faults_in C k) bodies (in-left f hs rs i)) (λ f i. fewer-both (faults_in C k) bodies rs bodies (fewer-right hs rs) (λ f i. i) f (few f i)) in
      record { order = r.0; few = r.1 }

  -- several values
  all-left-few : (es : List Expr) (n : ℕ) (k : Key) → list_all (is_outer_expr levels outer) es ≡ true → Fewer (faults_in_all (all_told n es) k) (rest_in_all (map as_sums es) k)
  all-left-few [] n k form = λ f i. i
  all-left-few (e ∷ es) n k form =
      let q = both-true (is_outer_expr levels outer e) (list_all (is_outer_expr levels outer) es) form in
      fewer-both (rest_in (as_sums e) k) (rest_in_all (map as_sums es) k) (faults_in (told_from n e) k) (faults_in_all (all_told (n + count_folds e) es) k) (left-few e n k q.0) (all-left-few es (n + count_folds e) k q.1)

  all-left-order : (es : List Expr) (n : ℕ) (k : Key) → list_all (is_outer_expr levels outer) es ≡ true → all_in_order (all_told n es) k ≡ true
  all-left-order [] n k form = refl
  all-left-order (e ∷ es) n k form =
      let q = both-true (is_outer_expr levels outer e) (list_all (is_outer_expr levels outer) es) form in
      and-true (in_order (told_from n e) k) (all_in_order (all_told (n + count_folds e) es) k) (left-order e n k q.0) (all-left-order es (n + count_folds e) k q.1)

  all-left-hoists : (es : List Expr) (n : ℕ) → list_all (is_outer_expr levels outer) es ≡ true → hoisted_in_all (all_told n es) ≡ []
  all-left-hoists [] n form = refl
  all-left-hoists (e ∷ es) n form =
      let q = both-true (is_outer_expr levels outer e) (list_all (is_outer_expr levels outer) es) form in
      ap (λ hs. hs ++ hoisted_in_all (all_told (n + count_folds e) es)) (left-hoists e n q.0) ∙ all-left-hoists es (n + count_folds e) q.1

  all-folds-order : (es : List Expr) (n : ℕ) (k : Key) → list_all (is_outer_expr levels outer) es ≡ true → all_in_order (map as_sums es) k ≡ true → hoists_follow (map as_sums es) ≡ true →
      (body_in_order around (sequence (all_set n k es)) ≡ true) × Fewer (faults_of around (sequence (all_set n k es))) (hoisted_in_all (map as_sums es))
  all-folds-order [] n k form order follow = (refl, λ f i. i)
  all-folds-order (e ∷ es) n k form order follow =
      let q = both-true (is_outer_expr levels outer e) (list_all (is_outer_expr levels outer) es) form in
      let o = both-true (in_order (as_sums e) k) (all_in_order (map as_sums es) k) order in
      let z = both-true (lie_before (hoisted_in (as_sums e)) (hoisted_in_all (map as_sums es))) (hoists_follow (map as_sums es)) follow in
      let one = folds-order levels outer e n k q.0 (both-true (hoists_in_order (as_sums e)) _ o.0).0 in
      let rest = all-folds-order es (n + count_folds e) k q.1 o.1 z.1 in
      two-ordered levels outer (folds_set n k e) (all_set (n + count_folds e) k es) (hoisted_in (as_sums e)) (hoisted_in_all (map as_sums es)) one.order one.few rest.0 rest.1 (lies (hoisted_in (as_sums e)) (hoisted_in_all (map as_sums es)) z.0)

  rest-all-few : (es : List Expr) (k : Key) → Fewer (rest_in_all es k) (faults_in_all es k)
  rest-all-few [] k = λ f i. i
  rest-all-few (e ∷ es) k = fewer-both (faults_in e k) (faults_in_all es k) (rest_in e k) (rest_in_all es k) (fewer-right (hoisted_in e) (rest_in e k)) (rest-all-few es k)

  hoisted-all-few : (es : List Expr) (k : Key) → Fewer (hoisted_in_all es) (faults_in_all es k)
  hoisted-all-few [] k = λ f i. i
  hoisted-all-few (e ∷ es) k = fewer-both (faults_in e k) (faults_in_all es k) (hoisted_in e) (hoisted_in_all es) (fewer-left (hoisted_in e) (rest_in e k)) (hoisted-all-few es k)

  pub body-ordered : (s : Stmt) (n : ℕ) → is_outer_code ds levels outer s ≡ true → body_in_order around (body_as_sums s) ≡ true → values_stand s ≡ true → InOrder (body_as_sums s) (body_out n s)
  body-ordered (Then a b) n form order stand =
      let f = both-true (is_outer_code ds levels outer a) (is_outer_code ds levels outer b) form in
      let o = both-true (body_in_order around (body_as_sums a)) _ order in
      let p = both-true (body_in_order around (body_as_sums b)) (lie_before (faults_of around (body_as_sums a)) (faults_of around (body_as_sums b))) o.1 in
      let z = both-true (values_stand a) (values_stand b) stand in
      let q = body-ordered a n f.0 o.0 z.0 in
      let r = body-ordered b (n + count_body a) f.1 p.0 z.1 in
      let a' = body_out n a in
      let b' = body_out (n + count_body a) b in
      record {
        order = and-true (body_in_order around a') _ q.order (and-true (body_in_order around b') (lie_before (faults_of around a') (faults_of around b')) r.order (lie-fewer (faults_of around (body_as_sums a)) (faults_of around (body_as_sums b)) (faults_of around a') (faults_of around b') q.few r.few p.1));
        few = fewer-both (faults_of around (body_as_sums a)) (faults_of around (body_as_sums b)) (faults_of around a') (faults_of around b') q.few r.few;
      }
  body-ordered (Declare k x (Some e)) n form order stand =
      let f = both-true (nat_eq (depth_at ds x) 1) (is_outer_expr levels outer e) form in
      let r = target-ordered e n k [] (Declare k x (Some (told_from n e))) f.1 order refl (left-order e n k f.1) refl in
      record { order = r.0; few = r.1 }
  body-ordered (Assign k t e) n form order stand =
      let f = both-true (is_at_depth ds 1 outer t) (is_outer_expr levels outer e) form in
      let o = both-true (in_order (as_sums e) k) (lie_before (hoisted_in (as_sums e)) (target_faults around t k)) order in
      let r = target-ordered e n k (target_faults around t k) (Assign k t (told_from n e)) f.1 o.0 o.1 (left-target e n k (target_faults around t k) f.1) refl in
      record { order = r.0; few = r.1 }
  body-ordered (Defer k (T.Scalar x at) e) n form order stand = absurd (both_ways false refl form)
  body-ordered (Defer k (T.Property x p at) e) n form order stand =
      let t = T.Property x p at in
      let f = both-true (nat_eq x outer) (is_outer_expr levels outer e) form in
      let o = both-true (in_order (as_sums e) k) (lie_before (hoisted_in (as_sums e)) (target_faults around t k)) order in
      let r = target-ordered e n k (target_faults around t k) (Defer k t (told_from n e)) f.1 o.0 o.1 (left-target e n k (target_faults around t k) f.1) refl in
      record { order = r.0; few = r.1 }
  body-ordered (Combine k total r ts es) n form order stand =
      let f = both-true (list_all (is_within ds 1) ts) (list_all (is_outer_expr levels outer) es) form in
      let own : List K.Fault = record { key = k; place = total.place } ∷ K.total_fault total ∷ [] in
      let targets = targets_faults around ts k ++ own in
      let Es = map as_sums es in
      let hs = hoisted_in_all Es in
      let rs = rest_in_all Es k in
      let o = both-true (all_in_order Es k) (lie_before hs targets) order in
      let z = both-true (hoists_follow Es) (lie_before hs rs) stand in
      let folds = all-folds-order es n k f.1 o.0 z.0 in
      let last = Combine k total r ts (all_told n es) in
      let few : Fewer (faults_of around last) (targets_faults around ts k ++ (rs ++ own)) = fewer-both (targets_faults around ts k) (rs ++ own) (targets_faults around ts k) (faults_in_all (all_told n es) k ++ own) (λ f i. i) (fewer-both rs own (faults_in_all (all_told n es) k) own (all-left-few es n k f.1) (λ f i. i)) in
      let alone : body_in_order around last ≡ true =
      and-true (all_in_order (all_told n es) k) (lie_before (hoisted_in_all (all_told n es)) targets) (all-left-order es n k f.1) (subst (λ l. lie_before l targets ≡ true) (sym (all-left-hoists es n f.1)) (nothing-before targets)) in
      let one = lies hs targets o.1 in
      let before : Before hs (targets_faults around ts k ++ (rs ++ own)) =
      before-both hs (targets_faults around ts k) (rs ++ own) (λ f g i j. one f g i (in-left g (targets_faults around ts k) own j)) (before-both hs rs own (lies hs rs z.1) (λ f g i j. one f g i (in-right g (targets_faults around ts k) own j))) in
      let q = behind-ordered (all_set n k es) last hs (targets_faults around ts k ++ (faults_in_all Es k ++ own)) folds.0 folds.1 alone (before-fewer hs (targets_faults around ts k ++ (rs ++ own)) hs (faults_of around last) (λ f i. i) few before)
      (λ f i. in-right f (targets_faults around ts k) (faults_in_all Es k ++ own) (in-left f (faults_in_all Es k) own (hoisted-all-few Es k f i)))
      (λ f i. fewer-both (targets_faults around ts k) (faults_in_all Es k ++ own) (targets_faults around ts k) (rs ++ own) (λ f i. i) (fewer-both (faults_in_all Es k) own rs own (rest-all-few Es k) (λ f i. i)) f (few f i)) in
      record { order = q.0; few = q.1 }
  body-ordered (If k c a b) n form order stand =
      let f = both-true (is_outer_expr levels outer c) (is_outer_code ds levels outer a && is_outer_code ds levels outer b) form in
      let g = both-true (is_outer_code ds levels outer a) (is_outer_code ds levels outer b) f.1 in
      let C = as_sums c in
      let A = body_as_sums a in
      let B = body_as_sums b in
      let o = both-true (in_order C k) _ order in
      let p = both-true (body_in_order around A) _ o.1 in
      let q = both-true (body_in_order around B) _ p.1 in
      let s = both-true (lie_before (faults_in C k) (faults_of around A ++ faults_of around B)) (lie_before (faults_of around A) (faults_of around B)) q.1 in
      let z = both-true (values_stand a) (values_stand b) stand in
      let n1 = n + count_folds c in
      let a' = body_out n1 a in
      let b' = body_out (n1 + count_body a) b in
      let x = body-ordered a n1 g.0 p.0 z.0 in
      let y = body-ordered b (n1 + count_body a) g.1 q.0 z.1 in
      if-behind k c n A B a' b' f.0 o.0 x y s.0 s.1
  body-ordered s n form order stand = record { order = order; few = λ f i. i }
