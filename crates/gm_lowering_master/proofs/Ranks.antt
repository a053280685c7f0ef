-- Ranks are apart from each other, and so a program's layout is a setting.
use Rattle.std.proofs.Common.{◌≡◌, ◌≢◌, ◌<◌, ◌≤◌, ℕ, zero, suc, Bool, true, false, cond, Option, Some, None, List, [], ◌∷◌, length, refl, ap, ◌∙◌, sym, subst, arith, length-append, ⊎_elim}
use Rattle.std.specs.Prelude.{◌+◌, ◌*◌, nat_lt, filter, option_map, slice_get}
use Rattle.std.proofs.lemmas.Bool.{both_ways, ltb-true, cases_lt}
use Rattle.std.proofs.lemmas.List.{length-map}
use Rattle.gm_value.specs.declared.values.VType.{VType}
use Rattle.gm_value.specs.declared.values.VType.TheVariants as V
use Rattle.gm_ast.specs.declared.tree.Declaration.{Declaration}
use Rattle.gm_ast.specs.declared.tree.Sort.TheVariants as Sorts
use Rattle.gm_ast.specs.Names.{is}
use Rattle.gm_ast.specs.Program.{Program}
use Rattle.gm_forms.proofs.Named.{both-true}
use Rattle.gm_semantics.specs.Levels.{numbers_from}
use Rattle.gm_semantics.specs.Statements.{variable_at, variable_or}
use Rattle.gm_lowering.specs.Layouts.{Layout, those, rank, is_global, is_register, has_field, nesting, loop_types, type_number, spare_types, types_of, all_those, tested, optional, named_globals, kept_globals, counted_globals, global_types, local_types, register_types, field_types, phase_positions, body_positions, layout}
use Rattle.gm_lowering.specs.Sites.{IsApart}
use Rattle.gm_lowering_master.specs.Cells.{Cell, OfScalar, OfResult, CounterOf, FlagOf, cell_number, is_cell, AreCells, HasSpareGlobals}
use Rattle.gm_lowering_master.specs.Whole.{has_result, LayoutsAreSettings}
use Rattle.gm_lowering.proofs.Registers.{registers-begin}
use Rattle.gm_model.specs.Graphs.{node_count}

-- the member at the rank of a number
found : (test : ℕ → Bool) (k n j : ℕ) → j < n → test (k + j) ≡ true → slice_get (filter test (numbers_from k n)) (length (filter test (numbers_from k j))) ≡ Some (k + j)
found test k zero j lt e = absurd (omega arith)
found test k (suc n) zero lt e =
    let z : k + 0 ≡ k = omega arith in
    let h : test k ≡ true = ap test (sym z) ∙ e in
    ap (λ b. slice_get (cond b (k ∷ filter test (numbers_from (suc k) n)) (filter test (numbers_from (suc k) n))) 0) h ∙ ap Some (sym z)
found test k (suc n) (suc j) lt e =
    let z : suc k + j ≡ k + suc j = omega arith in
    by (test k) (found test (suc k) n j (omega arith) (ap test z ∙ e) ∙ ap Some z) where
      by : (b : Bool) → slice_get (filter test (numbers_from (suc k) n)) (length (filter test (numbers_from (suc k) j))) ≡ Some (k + suc j)
          → slice_get (cond b (k ∷ filter test (numbers_from (suc k) n)) (filter test (numbers_from (suc k) n))) (length (cond b (k ∷ filter test (numbers_from (suc k) j)) (filter test (numbers_from (suc k) j)))) ≡ Some (k + suc j)
      by true rest = rest
      by false rest = rest

pub rank-found : (test : ℕ → Bool) (n x : ℕ) → x < n → test x ≡ true → slice_get (those test n) (rank test x) ≡ Some x
rank-found test n x lt e =
    let z : 0 + x ≡ x = omega arith in
    ap (λ y. slice_get (those test n) (length (filter test (numbers_from 0 x)))) z ∙ found test 0 n x lt (ap test z ∙ e) ∙ ap Some z

pub get-within : {A : Type 0} (xs : List A) (i : ℕ) (x : A) → slice_get xs i ≡ Some x → i < length xs
get-within [] i x e = cc
get-within (y ∷ ys) zero x e = omega arith
get-within (y ∷ ys) (suc i) x e = let rest = get-within ys i x e in omega (arith, rest)

some-same : {A : Type 0} (x y : A) → Some x ≡ Some y → x ≡ y
some-same x y e = cc

pub rank-within : (test : ℕ → Bool) (n x : ℕ) → x < n → test x ≡ true → rank test x < length (those test n)
rank-within test n x lt e = get-within (those test n) (rank test x) x (rank-found test n x lt e)

pub rank-apart : (test : ℕ → Bool) (n x y : ℕ) → x < n → y < n → test x ≡ true → test y ≡ true → rank test x ≡ rank test y → x ≡ y
rank-apart test n x y lt less e h same = some-same x y (sym (rank-found test n x lt e) ∙ ap (slice_get (those test n)) same ∙ rank-found test n y less h)

get-past : {A : Type 0} (xs : List A) (i : ℕ) → length xs ≤ i → slice_get xs i ≡ None
get-past [] i le = refl
get-past (x ∷ xs) zero le = absurd (omega arith)
get-past (x ∷ xs) (suc i) le = get-past xs i (omega arith)

-- a variable that is a property is declared
pub property-declared : (ds : List Declaration) (x : ℕ) → is Sorts.NodeProperty (variable_at ds x) ≡ true → x < length ds
property-declared ds x e = ⊎_elim (λ (lt : x < length ds). lt) (λ (le : length ds ≤ x). absurd (both_ways (is Sorts.NodeProperty (variable_at ds x)) (undeclared-none le) e)) (cases_lt x (length ds)) where
  undeclared-none : length ds ≤ x → is Sorts.NodeProperty (variable_at ds x) ≡ false
  undeclared-none le = ap (λ o. is Sorts.NodeProperty (variable_or (option_map (λ d. d.variable) o))) (get-past ds x le)

loops-long : (n : ℕ) → length (loop_types n) ≡ 2 * n
loops-long zero = refl
loops-long (suc n) = let rest = loops-long n in omega (arith, rest)

module _ (p : Program) where
  abbrev c : Layout
  c = layout p

  abbrev n : ℕ
  n = length p.declarations

  types-long : (test : ℕ → Bool) → length (types_of p (all_those p test)) ≡ length (those test n)
  types-long test = length-map (those test n) (λ x. (variable_at p.declarations x).vtype)

  pub field-declared : (x : ℕ) → has_field p x ≡ true → x < n
  field-declared x e = property-declared p.declarations x (both-true (is Sorts.NodeProperty (variable_at p.declarations x)) _ e).0

  rows-apart : IsApart c (length (register_types p)) (length (field_types p))
  rows-apart = record {
    register_within = λ x lt e.
        let r : rank (tested p is_register) x < length (those (tested p is_register) n) = rank-within (tested p is_register) n x lt e in
        let l : length (local_types p) ≡ length (those (tested p is_register) n) = types-long (tested p is_register) in
        let a : length (register_types p) ≡ length (local_types p) + length (spare_types (body_positions p.declarations p.body)) = length-append (local_types p) (spare_types (body_positions p.declarations p.body)) in
        omega (arith, r, l, a);
    registers_apart = λ x y lt less e h same. rank-apart (tested p is_register) n x y lt less e h same;
    field_within = λ x e. subst (λ m. rank (has_field p) x < m) (sym (types-long (has_field p))) (rank-within (has_field p) n x (field-declared x e) e);
    fields_apart = λ x y e h same. rank-apart (has_field p) n x y (field-declared x e) (field-declared y h) e h same;
  }

  abbrev named : ℕ
  named = length (named_globals p)

  abbrev kept : ℕ
  kept = length (kept_globals p)

  scalar-low : (x : ℕ) → is_cell c (has_result p.result) (nesting p.body) (OfScalar x) ≡ true → c.global x < named
  scalar-low x e =
      let q = both-true (nat_lt x n) (is_global (variable_at p.declarations x)) e in
      subst (λ m. c.global x < m) (sym (types-long (tested p is_global))) (rank-within (tested p is_global) n x (ltb-true x n q.0) q.1)

  result-long : has_result p.result ≡ true → kept ≡ named + 1
  result-long h = length-append (named_globals p) (optional p.result) ∙ ap (λ m. named + m) (by p.result h) where
    by : (o : Option VType) → has_result o ≡ true → length (optional o) ≡ 1
    by None h = absurd (both_ways false refl h)
    by (Some t) h = refl

  kept-long : named ≤ kept
  kept-long = let l = length-append (named_globals p) (optional p.result) in omega (arith, l)

  globals-long : kept + 2 * nesting p.body ≤ length (global_types p)
  globals-long =
      let a : length (counted_globals p) ≡ kept + length (loop_types (nesting p.body)) = length-append (kept_globals p) (loop_types (nesting p.body)) in
      let b : length (global_types p) ≡ length (counted_globals p) + length (spare_types (phase_positions p.declarations p.body)) = length-append (counted_globals p) (spare_types (phase_positions p.declarations p.body)) in
      let l = loops-long (nesting p.body) in
      omega (arith, a, b, l)

  abbrev used : Cell → Bool
  used = is_cell c (has_result p.result) (nesting p.body)

  cells-apart : AreCells c (has_result p.result) (nesting p.body) (length (global_types p))
  cells-apart = record { within = within; apart = apart } where
    within : (a : Cell) → used a ≡ true → cell_number c a < length (global_types p)
    within (OfScalar x) e = let l = scalar-low x e in let k = kept-long in let a = globals-long in omega (arith, l, k, a)
    within OfResult e = let l = result-long e in let a = globals-long in omega (arith, l, a)
    within (CounterOf d) e = let lt = ltb-true d (nesting p.body) e in let a = globals-long in omega (arith, lt, a)
    within (FlagOf d) e = let lt = ltb-true d (nesting p.body) e in let a = globals-long in omega (arith, lt, a)

    apart : (a b : Cell) → used a ≡ true → used b ≡ true → cell_number c a ≡ cell_number c b → a ≡ b
    apart (OfScalar x) (OfScalar y) e h same =
        let q = both-true (nat_lt x n) (is_global (variable_at p.declarations x)) e in
        let r = both-true (nat_lt y n) (is_global (variable_at p.declarations y)) h in
        ap OfScalar (rank-apart (tested p is_global) n x y (ltb-true x n q.0) (ltb-true y n r.0) q.1 r.1 same)
    apart (OfScalar x) OfResult e h same = let l = scalar-low x e in absurd (omega (arith, l, same))
    apart (OfScalar x) (CounterOf d) e h same = let l = scalar-low x e in let k = kept-long in absurd (omega (arith, l, k, same))
    apart (OfScalar x) (FlagOf d) e h same = let l = scalar-low x e in let k = kept-long in absurd (omega (arith, l, k, same))
    apart OfResult (OfScalar x) e h same = let l = scalar-low x h in absurd (omega (arith, l, same))
    apart OfResult OfResult e h same = refl
    apart OfResult (CounterOf d) e h same = let l = result-long e in absurd (omega (arith, l, same))
    apart OfResult (FlagOf d) e h same = let l = result-long e in absurd (omega (arith, l, same))
    apart (CounterOf d) (OfScalar x) e h same = let l = scalar-low x h in let k = kept-long in absurd (omega (arith, l, k, same))
    apart (CounterOf d) OfResult e h same = let l = result-long h in absurd (omega (arith, l, same))
    apart (CounterOf d) (CounterOf i) e h same = ap CounterOf (let z : d ≡ i = omega (arith, same) in z)
    apart (CounterOf d) (FlagOf i) e h same = absurd (omega (arith, same))
    apart (FlagOf d) (OfScalar x) e h same = let l = scalar-low x h in let k = kept-long in absurd (omega (arith, l, k, same))
    apart (FlagOf d) OfResult e h same = let l = result-long h in absurd (omega (arith, l, same))
    apart (FlagOf d) (CounterOf i) e h same = absurd (omega (arith, same))
    apart (FlagOf d) (FlagOf i) e h same = ap FlagOf (let z : d ≡ i = omega (arith, same) in z)

pub layouts-are-settings : LayoutsAreSettings
layouts-are-settings p g bound graph = record { cells = cells-apart p; rows = rows-apart p; declarations = refl; firsts = registers-begin p; graph = graph; types = refl; below = (let z : node_count g ≤ node_count g = omega arith in z); limit = (let z : node_count g ≤ node_count g = omega arith in z) }

-- a position has four spare globals
spares-long : (n : ℕ) → length (spare_types n) ≡ 4 * n
spares-long zero = refl
spares-long (suc n) = let rest = spares-long n in omega (arith, rest)

few-types : (t : VType) → type_number t ≤ 3
few-types V.I32 = omega arith
few-types V.I64 = omega arith
few-types V.Flag = omega arith
few-types V.Node = omega arith

-- spare globals stand behind the cells in use
pub layouts-have-globals : (p : Program) → HasSpareGlobals (layout p) (has_result p.result) (nesting p.body) (length (global_types p)) (phase_positions p.declarations p.body)
layouts-have-globals p = record {
  within = λ i t lt.
      let few = few-types t in
      let more : length (global_types p) ≡ length (counted_globals p) + length (spare_types (phase_positions p.declarations p.body)) = length-append (counted_globals p) (spare_types (phase_positions p.declarations p.body)) in
      let spare = spares-long (phase_positions p.declarations p.body) in
      omega (arith, few, more, spare, lt);
  apart = λ i j t u l m e. let few = few-types t in let few2 = few-types u in omega (arith, few, few2, e);
  others = others;
} where
  c : Layout
  c = layout p

  counted-long : length (counted_globals p) ≡ length (kept_globals p) + 2 * nesting p.body
  counted-long = length-append (kept_globals p) (loop_types (nesting p.body)) ∙ ap (λ n. length (kept_globals p) + n) (loops-long (nesting p.body))

  others : (i : ℕ) (t : VType) (a : Cell) → i < phase_positions p.declarations p.body → is_cell c (has_result p.result) (nesting p.body) a ≡ true → cell_number c a ≢ c.spare_global i t
  others i t (OfScalar x) lt e same = let l = scalar-low p x e in let k = kept-long p in let n = counted-long in absurd (omega (arith, l, k, n, same))
  others i t OfResult lt e same = let l = result-long p e in let n = counted-long in absurd (omega (arith, l, n, same))
  others i t (CounterOf d) lt e same = let less = ltb-true d (nesting p.body) e in let n = counted-long in absurd (omega (arith, less, n, same))
  others i t (FlagOf d) lt e same = let less = ltb-true d (nesting p.body) e in let n = counted-long in absurd (omega (arith, less, n, same))
