-- Variables as a tree uses them, in the layout of its program: what expressions read is found, and what sequential phases compute with is told.
use Rattle.std.proofs.Common.{◌≡◌, inl, inr, ℕ, ◌+◌, Bool, true, false, Option, Some, None, List, [], ◌∷◌, ◌++◌, length, refl, ap, ◌∙◌, sym, ⊎_elim}
use Rattle.std.specs.Prelude.{◌&&◌, ◌||◌, not, nat_eq, nat_lt}
use Rattle.std.specs.List.{list_all, list_any}
use Rattle.std.proofs.lemmas.Bool.{both_ways, and_from, or_left, or_right, eq-eqb}
use Rattle.gm_value.specs.Bag.{IsIn}
use Rattle.gm_ast.specs.declared.tree.Declaration.{Declaration}
use Rattle.gm_ast.specs.declared.tree.Sort.TheVariants as Sorts
use Rattle.gm_ast.specs.declared.tree.Variable.{Variable}
use Rattle.gm_ast.specs.Names.{is}
use Rattle.gm_ast.specs.Program as S
use Rattle.gm_ast.specs.Program.{Expr, Program}
use Rattle.gm_ast.specs.Ways.{is_in}
use Rattle.gm_forms.proofs.Named.{both-true, all-append}
use Rattle.gm_forms.specs.Forms.{may, is_flat, is_told}
use Rattle.gm_forms.specs.Uses.{Role, Iterates, Written, Declared, Told, Owner, NodeValue, EdgeValue, EdgeName, Anything, Use, use_as, has_role, suits, uses_in, uses_in_option, uses_in_all, uses_of}
use Rattle.gm_semantics.specs.Statements.{variable_at}
use Rattle.gm_lowering.specs.Layouts.{Layout, layout, is_global, is_register, has_value, is_node_value, names_property, has_field}
use Rattle.gm_lowering.specs.Sites.{finds, is_local}
use Rattle.gm_lowering_master.specs.Cells.{is_scalar}
use Rattle.gm_lowering_master.specs.Follows.{tells}
use Rattle.gm_plain_loops.specs.Tests.{names_pass, is_around, asks_around, asks_inside}
use Rattle.gm_plain_loops.specs.Tests as test

-- ---- tests

or-both : (a t b : Bool) → a || b ≡ true → t ≡ true → a || (t && b) ≡ true
or-both true t b h k = refl
or-both false true b h k = h
or-both false false b h k = absurd (both_ways false refl k)

pub or-split : {C : Type 0} (a b : Bool) → a || b ≡ true → (a ≡ true → C) → (b ≡ true → C) → C
or-split true b h f g = f refl
or-split false b h f g = g h

global-has : (d s i : Bool) → d && (s || i) ≡ true → (d ≡ true) × (s || i ≡ true)
global-has true s i h = (refl, h)
global-has false s i h = absurd (both_ways false refl h)

-- a scalar or a node of the procedure has a value, and is no local
pub global-value : (v : Variable) → is_global v ≡ true → has_value v ≡ true
global-value v h = (global-has (nat_eq v.depth 0) (is Sorts.Scalar v) (is Sorts.Iterator v) h).1

pub global-no-local : (v : Variable) → is_global v ≡ true → not (is_register v) ≡ true
global-no-local v h = by (is Sorts.Scalar v) (nat_eq v.depth 0) (global-has (nat_eq v.depth 0) (is Sorts.Scalar v) (is Sorts.Iterator v) h).0 where
  by : (s d : Bool) → d ≡ true → not (s && not d) ≡ true
  by s false e = absurd (both_ways false refl e)
  by true true e = refl
  by false true e = refl

names-more : (f g k : ℕ → Bool) → ((x : ℕ) → f x ≡ true → g x ≡ true) → (e : Expr) → names_pass f k e ≡ true → names_pass g k e ≡ true
names-more f g k m (S.Var x at) h = m x h
names-more f g k m (S.Live x at) h = h
names-more f g k m (S.Unary op at e) h = names-more f g k m e h
names-more f g k m (S.Binary op at a b) h = let q = both-true (names_pass f k a) (names_pass f k b) h in and_from (names_pass g k a) (names_pass g k b) (names-more f g k m a q.0) (names-more f g k m b q.1)
names-more f g k m (S.Both a b) h = let q = both-true (names_pass f k a) (names_pass f k b) h in and_from (names_pass g k a) (names_pass g k b) (names-more f g k m a q.0) (names-more f g k m b q.1)
names-more f g k m (S.Either a b) h = let q = both-true (names_pass f k a) (names_pass f k b) h in and_from (names_pass g k a) (names_pass g k b) (names-more f g k m a q.0) (names-more f g k m b q.1)
names-more f g k m (S.Choose c a b) h =
    let q = both-true (names_pass f k c) (names_pass f k a && names_pass f k b) h in
    let r = both-true (names_pass f k a) (names_pass f k b) q.1 in
    and_from (names_pass g k c) (names_pass g k a && names_pass g k b) (names-more f g k m c q.0)
    (and_from (names_pass g k a) (names_pass g k b) (names-more f g k m a r.0) (names-more f g k m b r.1))
names-more f g k m (S.Const v) h = refl
names-more f g k m (S.Property x q at) h = refl
names-more f g k m (S.EdgeProperty x q at) h = refl
names-more f g k m (S.Degree d x at) h = refl
names-more f g k m S.NodeCount h = refl
names-more f g k m S.EdgeCount h = refl
names-more f g k m (S.Folded w hd t e) h = refl

-- what may be asked around a body may be asked in it
pub around-inside : (ds : List Declaration) (its : List ℕ) (e : Expr) → asks_around ds its e ≡ true → asks_inside ds its e ≡ true
around-inside ds its e h = names-more (is_around ds its) (test.is_told ds its) (is_around ds its) more e h where
  more : (x : ℕ) → is_around ds its x ≡ true → test.is_told ds its x ≡ true
  more x k = or-split (is_in its x) (is_global (variable_at ds x)) k (λ i. or_left (is_in its x) (has_value (variable_at ds x)) i) (λ g. or_right (is_in its x) (has_value (variable_at ds x)) (global-value (variable_at ds x) g))

-- ---- uses

any-here : (f : Use → Bool) (us : List Use) (u : Use) → IsIn u us → f u ≡ true → list_any f us ≡ true
any-here f [] u i h = absurd i
any-here f (v ∷ us) u i h = ⊎_elim (λ (e : u ≡ v). or_left (f v) (list_any f us) (ap f (sym e) ∙ h)) (λ (j : IsIn u us). or_right (f v) (list_any f us) (any-here f us u j h)) i

module _ (p : Program) where
  abbrev ds : List Declaration
  ds = p.declarations

  abbrev c : Layout
  c = layout p

  -- whether a use suits the table, and a node property in it has a field
  abbrev pub fits_use : Use → Bool
  fits_use u = suits ds u && (not (is_node_value u.role) || has_field p u.variable)

  abbrev pub Fine : List Use → Type 0
  Fine us = list_all fits_use us ≡ true

  kept-by : (x : ℕ) (r : Role) → has_role (variable_at ds x) r ≡ true → IsIn (record { variable = x; role = r }) (uses_of p.body) → not (is_node_value r) || has_field p x ≡ true
  kept-by x NodeValue h i =
      let u : Use = record { variable = x; role = NodeValue } in
      and_from (is Sorts.NodeProperty (variable_at ds x)) (nat_lt x (p.inputs + p.outputs) || list_any (names_property x) (uses_of p.body)) h
      (or_right (nat_lt x (p.inputs + p.outputs)) (list_any (names_property x) (uses_of p.body))
      (any-here (names_property x) (uses_of p.body) u i (and_from (nat_eq x x) true (eq-eqb x x refl) refl)))
  kept-by x Iterates h i = refl
  kept-by x Written h i = refl
  kept-by x Declared h i = refl
  kept-by x Told h i = refl
  kept-by x Owner h i = refl
  kept-by x EdgeValue h i = refl
  kept-by x EdgeName h i = refl
  kept-by x Anything h i = refl

  fine-among : (us : List Use) → ((u : Use) → IsIn u us → IsIn u (uses_of p.body)) → list_all (suits ds) us ≡ true → Fine us
  fine-among [] k h = refl
  fine-among (u ∷ us) k h =
      let q = both-true (suits ds u) (list_all (suits ds) us) h in
      let r = both-true (nat_lt u.variable (length ds)) (has_role (variable_at ds u.variable) u.role) q.0 in
      and_from (fits_use u) (list_all fits_use us)
      (and_from (suits ds u) (not (is_node_value u.role) || has_field p u.variable) q.0 (kept-by u.variable u.role r.1 (k u (inl refl))))
      (fine-among us (λ v i. k v (inr i)) q.1)

  pub fine-body : list_all (suits ds) (uses_of p.body) ≡ true → Fine (uses_of p.body)
  fine-body h = fine-among (uses_of p.body) (λ u i. i) h

  pub split : (us vs : List Use) → Fine (us ++ vs) → Fine us × Fine vs
  split us vs h = all-append fits_use us vs h

  one : (r : Role) (x : ℕ) → Fine (use_as r x) → (suits ds (record { variable = x; role = r }) ≡ true) × (not (is_node_value r) || has_field p x ≡ true)
  one r x h =
      let u : Use = record { variable = x; role = r } in
      let q = both-true (fits_use u) true h in
      both-true (suits ds u) (not (is_node_value r) || has_field p x) q.0

  pub role-of : (r : Role) (x : ℕ) → Fine (use_as r x) → has_role (variable_at ds x) r ≡ true
  role-of r x h = (both-true (nat_lt x (length ds)) (has_role (variable_at ds x) r) (one r x h).0).1

  pub below : (r : Role) (x : ℕ) → Fine (use_as r x) → nat_lt x (length ds) ≡ true
  below r x h = (both-true (nat_lt x (length ds)) (has_role (variable_at ds x) r) (one r x h).0).0

  pub has-field : (x : ℕ) → Fine (use_as NodeValue x) → has_field p x ≡ true
  has-field x h = (one NodeValue x h).1

  -- what an expression reads is found
  pub found : (its : List ℕ) (edge : Bool) (e : Expr) → is_flat its edge e ≡ true → Fine (uses_in e) → asks_inside ds its e ≡ true → finds c its edge e ≡ true
  found its edge (S.Const v) f u h = refl
  found its edge (S.Var x at) f u h = or-both (is_in its x) (nat_lt x (length ds)) (has_value (variable_at ds x)) h (below Told x u)
  found its edge (S.Property x q at) f u h = and_from (is_in its x) (has_field p q) f (has-field q (split (use_as Owner x) (use_as NodeValue q) u).1)
  found its edge (S.EdgeProperty x q at) f u h =
      let v = (split (use_as EdgeName x) (use_as EdgeValue q) u).1 in
      and_from edge (nat_lt q (length ds) && is Sorts.EdgeProperty (variable_at ds q)) f (and_from (nat_lt q (length ds)) (is Sorts.EdgeProperty (variable_at ds q)) (below EdgeValue q v) (role-of EdgeValue q v))
  found its edge (S.Degree d x at) f u h = f
  found its edge S.NodeCount f u h = refl
  found its edge S.EdgeCount f u h = refl
  found its edge (S.Live x at) f u h = or-both (is_in its x) (nat_lt x (length ds)) (is_global (variable_at ds x)) h (below Owner x u)
  found its edge (S.Unary op at e) f u h = found its edge e f u h
  found its edge (S.Binary op at a b) f u h =
      let f2 = both-true (is_flat its edge a) (is_flat its edge b) f in
      let u2 = split (uses_in a) (uses_in b) u in
      let h2 = both-true (asks_inside ds its a) (asks_inside ds its b) h in
      and_from (finds c its edge a) (finds c its edge b) (found its edge a f2.0 u2.0 h2.0) (found its edge b f2.1 u2.1 h2.1)
  found its edge (S.Both a b) f u h =
      let f2 = both-true (is_flat its edge a) (is_flat its edge b) f in
      let u2 = split (uses_in a) (uses_in b) u in
      let h2 = both-true (asks_inside ds its a) (asks_inside ds its b) h in
      and_from (finds c its edge a) (finds c its edge b) (found its edge a f2.0 u2.0 h2.0) (found its edge b f2.1 u2.1 h2.1)
  found its edge (S.Either a b) f u h =
      let f2 = both-true (is_flat its edge a) (is_flat its edge b) f in
      let u2 = split (uses_in a) (uses_in b) u in
      let h2 = both-true (asks_inside ds its a) (asks_inside ds its b) h in
      and_from (finds c its edge a) (finds c its edge b) (found its edge a f2.0 u2.0 h2.0) (found its edge b f2.1 u2.1 h2.1)
  found its edge (S.Choose e a b) f u h =
      let f1 = both-true (is_flat its edge e) (is_flat its edge a && is_flat its edge b) f in
      let f2 = both-true (is_flat its edge a) (is_flat its edge b) f1.1 in
      let u1 = split (uses_in e) (uses_in a ++ uses_in b) u in
      let u2 = split (uses_in a) (uses_in b) u1.1 in
      let h1 = both-true (asks_inside ds its e) (asks_inside ds its a && asks_inside ds its b) h in
      let h2 = both-true (asks_inside ds its a) (asks_inside ds its b) h1.1 in
      and_from (finds c its edge e) (finds c its edge a && finds c its edge b) (found its edge e f1.0 u1.0 h1.0)
      (and_from (finds c its edge a) (finds c its edge b) (found its edge a f2.0 u2.0 h2.0) (found its edge b f2.1 u2.1 h2.1))
  found its edge (S.Folded w hd t e) f u h = absurd (both_ways false refl f)

  pub may-found : (its : List ℕ) (edge : Bool) (e : Option Expr) → may (is_flat its edge) e ≡ true → Fine (uses_in_option e) → may (asks_inside ds its) e ≡ true → may (finds c its edge) e ≡ true
  may-found its edge None f u h = refl
  may-found its edge (Some e) f u h = found its edge e f u h

  pub all-found : (its : List ℕ) (edge : Bool) (es : List Expr) → list_all (is_flat its edge) es ≡ true → Fine (uses_in_all es) → list_all (asks_inside ds its) es ≡ true → list_all (finds c its edge) es ≡ true
  all-found its edge [] f u h = refl
  all-found its edge (e ∷ es) f u h =
      let f2 = both-true (is_flat its edge e) (list_all (is_flat its edge) es) f in
      let u2 = split (uses_in e) (uses_in_all es) u in
      let h2 = both-true (asks_inside ds its e) (list_all (asks_inside ds its) es) h in
      and_from (finds c its edge e) (list_all (finds c its edge) es) (found its edge e f2.0 u2.0 h2.0) (all-found its edge es f2.1 u2.1 h2.1)

  -- what a sequential phase computes with is told
  pub told : (e : Expr) → is_told e ≡ true → Fine (uses_in e) → asks_around ds [] e ≡ true → tells c e ≡ true
  told (S.Const v) f u h = refl
  told (S.Var x at) f u h =
      let v = variable_at ds x in
      and_from (nat_lt x (length ds)) (not (is_register v) && has_value v) (below Told x u) (and_from (not (is_register v)) (has_value v) (global-no-local v h) (global-value v h))
  told S.NodeCount f u h = refl
  told S.EdgeCount f u h = refl
  told (S.Unary op at e) f u h = told e f u h
  told (S.Binary op at a b) f u h =
      let f2 = both-true (is_told a) (is_told b) f in
      let u2 = split (uses_in a) (uses_in b) u in
      let h2 = both-true (asks_around ds [] a) (asks_around ds [] b) h in
      and_from (tells c a) (tells c b) (told a f2.0 u2.0 h2.0) (told b f2.1 u2.1 h2.1)
  told (S.Both a b) f u h =
      let f2 = both-true (is_told a) (is_told b) f in
      let u2 = split (uses_in a) (uses_in b) u in
      let h2 = both-true (asks_around ds [] a) (asks_around ds [] b) h in
      and_from (tells c a) (tells c b) (told a f2.0 u2.0 h2.0) (told b f2.1 u2.1 h2.1)
  told (S.Either a b) f u h =
      let f2 = both-true (is_told a) (is_told b) f in
      let u2 = split (uses_in a) (uses_in b) u in
      let h2 = both-true (asks_around ds [] a) (asks_around ds [] b) h in
      and_from (tells c a) (tells c b) (told a f2.0 u2.0 h2.0) (told b f2.1 u2.1 h2.1)
  told (S.Choose e a b) f u h =
      let f1 = both-true (is_told e) (is_told a && is_told b) f in
      let f2 = both-true (is_told a) (is_told b) f1.1 in
      let u1 = split (uses_in e) (uses_in a ++ uses_in b) u in
      let u2 = split (uses_in a) (uses_in b) u1.1 in
      let h1 = both-true (asks_around ds [] e) (asks_around ds [] a && asks_around ds [] b) h in
      let h2 = both-true (asks_around ds [] a) (asks_around ds [] b) h1.1 in
      and_from (tells c e) (tells c a && tells c b) (told e f1.0 u1.0 h1.0) (and_from (tells c a) (tells c b) (told a f2.0 u2.0 h2.0) (told b f2.1 u2.1 h2.1))
  told (S.Property x q at) f u h = absurd (both_ways false refl f)
  told (S.EdgeProperty x q at) f u h = absurd (both_ways false refl f)
  told (S.Degree d x at) f u h = absurd (both_ways false refl f)
  told (S.Live x at) f u h = absurd (both_ways false refl f)
  told (S.Folded w hd t e) f u h = absurd (both_ways false refl f)

  -- a scalar is one of the procedure by its depth, or a local
  pub a-scalar : (r : Role) (x : ℕ) → Fine (use_as r x) → is_global (variable_at ds x) ≡ true → is_scalar c x ≡ true
  a-scalar r x u h = and_from (nat_lt x (length ds)) (is_global (variable_at ds x)) (below r x u) h

  pub declared-scalar : (x : ℕ) → Fine (use_as Written x) → nat_eq (variable_at ds x).depth 0 ≡ true → is_global (variable_at ds x) ≡ true
  declared-scalar x u d = and_from (nat_eq (variable_at ds x).depth 0) (is Sorts.Scalar (variable_at ds x) || is Sorts.Iterator (variable_at ds x)) d (or_left (is Sorts.Scalar (variable_at ds x)) (is Sorts.Iterator (variable_at ds x)) (role-of Written x u))

  pub a-local : (r : Role) (x : ℕ) → Fine (use_as r x) → is Sorts.Scalar (variable_at ds x) ≡ true → nat_eq (variable_at ds x).depth 0 ≡ false → is_local c x ≡ true
  a-local r x u s d =
      and_from (nat_lt x (length ds)) (is_register (variable_at ds x)) (below r x u)
      (and_from (is Sorts.Scalar (variable_at ds x)) (not (nat_eq (variable_at ds x).depth 0)) s (ap not d))
