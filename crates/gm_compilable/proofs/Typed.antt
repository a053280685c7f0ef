-- What types say of operations and reductions.
use Rattle.std.proofs.Common.{◌≡◌, Bool, true, false, List, [], ◌∷◌, refl, Option, Some, None}
use Rattle.std.specs.Prelude.{◌&&◌}
use Rattle.std.proofs.lemmas.Bool.{both_ways}
use Rattle.std.proofs.lemmas.Option.{none-some}
use Rattle.gm_value.specs.declared.values.VType.{VType}
use Rattle.gm_value.specs.declared.values.VType.TheVariants as V
use Rattle.gm_value.specs.Operations.{fits2, type1, type2}
use Rattle.gm_value.specs.Reductions.{reduces}
use Rattle.gm_ast.specs.declared.tree.Declaration.{Declaration}
use Rattle.gm_ast.specs.declared.tree.Target.{Target}
use Rattle.gm_ast.specs.Program.{Expr, Unary, Binary, Both, Either, Choose, Folded, Stmt, Then, Declare, Assign, Defer, Combine, Group, Foreach, For, If, While, Do, InBfs, InBfsBoth, Return}
use Rattle.gm_semantics.specs.Expressions.{reduce_of}
use Rattle.gm_forms.specs.Typing.{type_at, type_if, by_one, is_type, takes, takes1, type_in, has_type, may_have_type, target_type, all_have_types, fits_targets, returns_type, is_typed_in}
use Rattle.gm_forms.proofs.Named.{both-true}
use Rattle.gm_typed_stores.proofs.Expressions.{is-type}

if-some : (b : Bool) (t u : VType) → type_if b t ≡ Some u → b ≡ true
if-some true t u h = refl
if-some false t u h = absurd (none-some u h)

pub if-type : (b : Bool) (t u : VType) → type_if b t ≡ Some u → t ≡ u
if-type true t u h = cc
if-type false t u h = absurd (none-some u h)

pub one-some : (o : Option VType) (f : VType → Option VType) (u : VType) → by_one o f ≡ Some u → (t : VType) × (o ≡ Some t) × (f t ≡ Some u)
one-some None f u h = absurd (none-some u h)
one-some (Some t) f u h = (t, refl, h)

module _ (ds : List Declaration) where
  -- an expression's operations take the types of their operands, and its reductions fit theirs
  abbrev pub Has : Expr → Type 0
  Has (Unary op at e) = (u : VType) × (type_in ds e ≡ Some u) × (takes1 op u ≡ true) × Has e
  Has (Binary op at a b) = Has a × Has b
  Has (Both a b) = Has a × Has b
  Has (Either a b) = Has a × Has b
  Has (Choose c a b) = Has c × (Has a × Has b)
  Has (Folded f h test e) = (reduces (reduce_of f.word) f.vtype ≡ true) × (Has test × Has e)
  Has e = Unit {0}

  flags : (a b : Expr) (t : VType) → type_if (is_type V.Flag (type_in ds a) && is_type V.Flag (type_in ds b)) V.Flag ≡ Some t → (type_in ds a ≡ Some V.Flag) × (type_in ds b ≡ Some V.Flag)
  flags a b t h =
      let q = both-true (is_type V.Flag (type_in ds a)) (is_type V.Flag (type_in ds b)) (if-some (is_type V.Flag (type_in ds a) && is_type V.Flag (type_in ds b)) V.Flag t h) in
      (is-type V.Flag (type_in ds a) q.0, is-type V.Flag (type_in ds b) q.1)

  has : (e : Expr) (t : VType) → type_in ds e ≡ Some t → Has e
  has (Unary op at e) t h =
      let p = one-some (type_in ds e) (λ u. type_if (takes1 op u) (type1 op u)) t h in (p.0, p.1, if-some (takes1 op p.0) (type1 op p.0) t p.2, has e p.0 p.1)
  has (Binary op at a b) t h =
      let p = one-some (type_in ds a) (λ u. by_one (type_in ds b) (λ v. type_if (fits2 op u v) (type2 op u))) t h in
      let q = one-some (type_in ds b) (λ v. type_if (fits2 op p.0 v) (type2 op p.0)) t p.2 in
      (has a p.0 p.1, has b q.0 q.1)
  has (Both a b) t h = let q = flags a b t h in (has a V.Flag q.0, has b V.Flag q.1)
  has (Either a b) t h = let q = flags a b t h in (has a V.Flag q.0, has b V.Flag q.1)
  has (Choose c a b) t h =
      let p = one-some (type_in ds a) (λ u. type_if (is_type V.Flag (type_in ds c) && is_type u (type_in ds b)) u) t h in
      let q = both-true (is_type V.Flag (type_in ds c)) (is_type p.0 (type_in ds b)) (if-some (is_type V.Flag (type_in ds c) && is_type p.0 (type_in ds b)) p.0 t p.2) in
      (has c V.Flag (is-type V.Flag (type_in ds c) q.0), (has a p.0 p.1, has b p.0 (is-type p.0 (type_in ds b) q.1)))
  has (Folded f hd test e) t h =
      let q = if-some (is_type V.Flag (type_in ds test) && (is_type (takes f.word f.vtype) (type_in ds e) && reduces (reduce_of f.word) f.vtype)) f.vtype t h in
      let p = both-true (is_type V.Flag (type_in ds test)) (is_type (takes f.word f.vtype) (type_in ds e) && reduces (reduce_of f.word) f.vtype) q in
      let r = both-true (is_type (takes f.word f.vtype) (type_in ds e)) (reduces (reduce_of f.word) f.vtype) p.1 in
      (r.1, (has test V.Flag (is-type V.Flag (type_in ds test) p.0), has e (takes f.word f.vtype) (is-type (takes f.word f.vtype) (type_in ds e) r.0)))
  has e t h = tt

  typed : (t : VType) (e : Expr) → has_type ds t e ≡ true → Has e
  typed t e h = has e t (is-type t (type_in ds e) h)

  abbrev pub MayHave : Option Expr → Type 0
  MayHave None = Unit {0}
  MayHave (Some e) = Has e

  abbrev pub AllHave : List Expr → Type 0
  AllHave [] = Unit {0}
  AllHave (e ∷ es) = Has e × AllHave es

  -- so do those of a statement
  abbrev pub HasIn : Stmt → Type 0
  HasIn (Then a b) = HasIn a × HasIn b
  HasIn (Declare k x e) = MayHave e
  HasIn (Assign k t e) = Has e
  HasIn (Defer k t e) = Has e
  HasIn (Combine k total r ts es) = AllHave es
  HasIn (Group k at g p e) = Has e
  HasIn (Foreach k at h test body) = Has test × HasIn body
  HasIn (For k at h test body) = Has test × HasIn body
  HasIn (If k c a b) = Has c × (HasIn a × HasIn b)
  HasIn (While k at c body) = Has c × HasIn body
  HasIn (Do k at body c) = HasIn body × Has c
  HasIn (InBfs k at s test body) = Has test × HasIn body
  HasIn (InBfsBoth k at s test body back_key back_test back) = (Has test × HasIn body) × (Has back_test × HasIn back)
  HasIn (Return k at e) = MayHave e
  HasIn s = Unit {0}

  may : (t : VType) (o : Option Expr) → may_have_type ds t o ≡ true → MayHave o
  may t None h = tt
  may t (Some e) h = typed t e h

  all : (ts : List Target) (es : List Expr) → all_have_types ds ts es ≡ true → AllHave es
  all [] [] h = tt
  all [] (e ∷ es) h = absurd (both_ways false refl h)
  all (t ∷ ts) [] h = tt
  all (t ∷ ts) (e ∷ es) h = let q = both-true (has_type ds (target_type ds t) e) (all_have_types ds ts es) h in (typed (target_type ds t) e q.0, all ts es q.1)

  returned : (r : Option VType) (o : Option Expr) → returns_type ds r o ≡ true → MayHave o
  returned r None h = tt
  returned None (Some e) h = absurd (both_ways false refl h)
  returned (Some t) (Some e) h = typed t e h

  pub has-in : (r : Option VType) (s : Stmt) → is_typed_in ds r s ≡ true → HasIn s
  has-in r (Then a b) h = let q = both-true (is_typed_in ds r a) (is_typed_in ds r b) h in (has-in r a q.0, has-in r b q.1)
  has-in r (Declare k x e) h = may (type_at ds x) e h
  has-in r (Assign k t e) h = typed (target_type ds t) e h
  has-in r (Defer k t e) h = typed (target_type ds t) e h
  has-in r (Combine k total op ts es) h = all ts es (both-true (all_have_types ds ts es) (fits_targets ds op ts) h).0
  has-in r (Group k at g p e) h = typed (type_at ds p) e h
  has-in r (Foreach k at hd test body) h = let q = both-true (has_type ds V.Flag test) (is_typed_in ds r body) h in (typed V.Flag test q.0, has-in r body q.1)
  has-in r (For k at hd test body) h = let q = both-true (has_type ds V.Flag test) (is_typed_in ds r body) h in (typed V.Flag test q.0, has-in r body q.1)
  has-in r (If k c a b) h =
      let q = both-true (has_type ds V.Flag c) (is_typed_in ds r a && is_typed_in ds r b) h in
      let p = both-true (is_typed_in ds r a) (is_typed_in ds r b) q.1 in
      (typed V.Flag c q.0, (has-in r a p.0, has-in r b p.1))
  has-in r (While k at c body) h = let q = both-true (has_type ds V.Flag c) (is_typed_in ds r body) h in (typed V.Flag c q.0, has-in r body q.1)
  has-in r (Do k at body c) h = let q = both-true (is_typed_in ds r body) (has_type ds V.Flag c) h in (has-in r body q.0, typed V.Flag c q.1)
  has-in r (InBfs k at s test body) h = let q = both-true (has_type ds V.Flag test) (is_typed_in ds r body) h in (typed V.Flag test q.0, has-in r body q.1)
  has-in r (InBfsBoth k at s test body back_key back_test back) h =
      let q = both-true (has_type ds V.Flag test) (is_typed_in ds r body && (has_type ds V.Flag back_test && is_typed_in ds r back)) h in
      let p = both-true (is_typed_in ds r body) (has_type ds V.Flag back_test && is_typed_in ds r back) q.1 in
      let o = both-true (has_type ds V.Flag back_test) (is_typed_in ds r back) p.1 in
      ((typed V.Flag test q.0, has-in r body p.0), (typed V.Flag back_test o.0, has-in r back o.1))
  has-in r (Return k at e) h = returned r e h
  has-in r s h = tt
