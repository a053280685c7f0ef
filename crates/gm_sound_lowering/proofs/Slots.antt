-- The globals, registers, fields and columns of variables have their types.
use Rattle.std.proofs.Common.{◌≡◌, ◌<◌, ℕ, zero, suc, Bool, true, Some, List, [], ◌∷◌, ◌++◌, length, map, refl, ap, ◌∙◌, arith}
use Rattle.std.specs.Prelude.{◌+◌, ◌*◌, slice_get}
use Rattle.std.proofs.lemmas.Bool.{lt-ltb}
use Rattle.gm_value.specs.declared.values.VType.{VType}
use Rattle.gm_value.specs.declared.values.VType.TheVariants as V
use Rattle.gm_ast.specs.declared.tree.Sort.TheVariants as Sorts
use Rattle.gm_ast.specs.Names.{is}
use Rattle.gm_ast.specs.Program.{Program}
use Rattle.gm_forms.proofs.Named.{both-true}
use Rattle.gm_forms.specs.Typing.{type_at}
use Rattle.gm_semantics.specs.Statements.{variable_at}
use Rattle.gm_image.specs.Indices.{in_range}
use Rattle.gm_lowering.specs.Layouts.{Layout, layout, those, rank, tested, is_global, is_register, has_field, type_number, types_of, all_those, optional, nesting, loop_types, spare_types, phase_positions, body_positions, named_globals, kept_globals, counted_globals, global_types, local_types, register_types, field_types, column_types}
use Rattle.gm_lowering_master.proofs.Ranks.{rank-found, get-within, property-declared}

pub get-map : {A B : Type 0} (f : A → B) (xs : List A) (i : ℕ) (x : A) → slice_get xs i ≡ Some x → slice_get (map f xs) i ≡ Some (f x)
get-map f [] i x e = cc
get-map f (y ∷ ys) zero x e = cc
get-map f (y ∷ ys) (suc i) x e = get-map f ys i x e

pub get-front : {A : Type 0} (xs ys : List A) (i : ℕ) (x : A) → slice_get xs i ≡ Some x → slice_get (xs ++ ys) i ≡ Some x
get-front [] ys i x e = cc
get-front (z ∷ xs) ys zero x e = e
get-front (z ∷ xs) ys (suc i) x e = get-front xs ys i x e

pub get-behind : {A : Type 0} (xs ys : List A) (i : ℕ) (x : A) → slice_get ys i ≡ Some x → slice_get (xs ++ ys) (length xs + i) ≡ Some x
get-behind [] ys i x e = let z : 0 + i ≡ i = omega arith in ap (slice_get ys) z ∙ e
get-behind (y ∷ xs) ys i x e = let z : suc (length xs) + i ≡ suc (length xs + i) = omega arith in ap (slice_get (y ∷ (xs ++ ys))) z ∙ get-behind xs ys i x e

-- what is found is in range
pub get-in : {A : Type 0} (xs : List A) (i : ℕ) (x : A) → slice_get xs i ≡ Some x → in_range xs i ≡ true
get-in xs i x e = lt-ltb i (length xs) (get-within xs i x e)

-- the counters and flags of loops, and spare slots
loop-counter : (n d : ℕ) → d < n → slice_get (loop_types n) (2 * d) ≡ Some V.I64
loop-counter zero d lt = absurd (omega arith)
loop-counter (suc n) zero lt = refl
loop-counter (suc n) (suc d) lt =
    let z : 2 * suc d ≡ suc (suc (2 * d)) = omega arith in ap (slice_get (loop_types (suc n))) z ∙ loop-counter n d (omega (arith, lt))

loop-flag : (n d : ℕ) → d < n → slice_get (loop_types n) (2 * d + 1) ≡ Some V.Flag
loop-flag zero d lt = absurd (omega arith)
loop-flag (suc n) zero lt = refl
loop-flag (suc n) (suc d) lt =
    let z : 2 * suc d + 1 ≡ suc (suc (2 * d + 1)) = omega arith in ap (slice_get (loop_types (suc n))) z ∙ loop-flag n d (omega (arith, lt))

spare-type : (n i : ℕ) (t : VType) → i < n → slice_get (spare_types n) (4 * i + type_number t) ≡ Some t
spare-type zero i t lt = absurd (omega arith)
spare-type (suc n) zero V.I32 lt = refl
spare-type (suc n) zero V.I64 lt = refl
spare-type (suc n) zero V.Flag lt = refl
spare-type (suc n) zero V.Node lt = refl
spare-type (suc n) (suc i) t lt =
    let z : 4 * suc i + type_number t ≡ suc (suc (suc (suc (4 * i + type_number t)))) = omega arith in ap (slice_get (spare_types (suc n))) z ∙ spare-type n i t (omega (arith, lt))

module _ (p : Program) where
  abbrev c : Layout
  c = layout p

  abbrev n : ℕ
  n = length p.declarations

  -- the type of a variable at its rank
  rank-type : (test : ℕ → Bool) (x : ℕ) → x < n → test x ≡ true → slice_get (types_of p (all_those p test)) (rank test x) ≡ Some (type_at p.declarations x)
  rank-type test x lt e = get-map (λ y. (variable_at p.declarations y).vtype) (those test n) (rank test x) x (rank-found test n x lt e)

  global-front : (i : ℕ) (t : VType) → slice_get (counted_globals p) i ≡ Some t → slice_get (global_types p) i ≡ Some t
  global-front i t e = get-front (counted_globals p) (spare_types (phase_positions p.declarations p.body)) i t e

  kept-front : (i : ℕ) (t : VType) → slice_get (kept_globals p) i ≡ Some t → slice_get (global_types p) i ≡ Some t
  kept-front i t e = global-front i t (get-front (kept_globals p) (loop_types (nesting p.body)) i t e)

  pub global-type : (x : ℕ) → x < n → is_global (variable_at p.declarations x) ≡ true → slice_get (global_types p) (c.global x) ≡ Some (type_at p.declarations x)
  global-type x lt e = kept-front (c.global x) (type_at p.declarations x) (get-front (named_globals p) (optional p.result) (c.global x) (type_at p.declarations x) (rank-type (tested p is_global) x lt e))

  pub result-type : (t : VType) → p.result ≡ Some t → slice_get (global_types p) c.result ≡ Some t
  result-type t e =
      let z : length (named_globals p) ≡ length (named_globals p) + 0 = omega arith in
      kept-front c.result t (ap (slice_get (kept_globals p)) z ∙ get-behind (named_globals p) (optional p.result) 0 t (ap (λ o. slice_get (optional o) 0) e))

  pub counter-type : (d : ℕ) → d < nesting p.body → slice_get (global_types p) (c.counter d) ≡ Some V.I64
  counter-type d lt = global-front (c.counter d) V.I64 (get-behind (kept_globals p) (loop_types (nesting p.body)) (2 * d) V.I64 (loop-counter (nesting p.body) d lt))

  pub flag-type : (d : ℕ) → d < nesting p.body → slice_get (global_types p) (c.flag d) ≡ Some V.Flag
  flag-type d lt =
      let z : c.flag d ≡ length (kept_globals p) + (2 * d + 1) = omega arith in
      global-front (c.flag d) V.Flag (ap (slice_get (counted_globals p)) z ∙ get-behind (kept_globals p) (loop_types (nesting p.body)) (2 * d + 1) V.Flag (loop-flag (nesting p.body) d lt))

  pub spare-global-type : (i : ℕ) (t : VType) → i < phase_positions p.declarations p.body → slice_get (global_types p) (c.spare_global i t) ≡ Some t
  spare-global-type i t lt =
      let z : c.spare_global i t ≡ length (counted_globals p) + (4 * i + type_number t) = omega arith in
      ap (slice_get (global_types p)) z ∙ get-behind (counted_globals p) (spare_types (phase_positions p.declarations p.body)) (4 * i + type_number t) t (spare-type (phase_positions p.declarations p.body) i t lt)

  pub register-type : (x : ℕ) → x < n → is_register (variable_at p.declarations x) ≡ true → slice_get (register_types p) (c.register x) ≡ Some (type_at p.declarations x)
  register-type x lt e = get-front (local_types p) (spare_types (body_positions p.declarations p.body)) (c.register x) (type_at p.declarations x) (rank-type (tested p is_register) x lt e)

  pub spare-register-type : (i : ℕ) (t : VType) → i < body_positions p.declarations p.body → slice_get (register_types p) (c.spare_register i t) ≡ Some t
  spare-register-type i t lt =
      let z : c.spare_register i t ≡ length (local_types p) + (4 * i + type_number t) = omega arith in
      ap (slice_get (register_types p)) z ∙ get-behind (local_types p) (spare_types (body_positions p.declarations p.body)) (4 * i + type_number t) t (spare-type (body_positions p.declarations p.body) i t lt)

  pub field-type : (x : ℕ) → has_field p x ≡ true → slice_get (field_types p) (c.field x) ≡ Some (type_at p.declarations x)
  field-type x e = rank-type (has_field p) x (property-declared p.declarations x (both-true (is Sorts.NodeProperty (variable_at p.declarations x)) _ e).0) e

  pub column-type : (x : ℕ) → x < n → is Sorts.EdgeProperty (variable_at p.declarations x) ≡ true → slice_get (column_types p) (c.column x) ≡ Some (type_at p.declarations x)
  column-type x lt e = rank-type (tested p (is Sorts.EdgeProperty)) x lt e
