-- Ranks are in range and apart.
use Rattle.std.proofs.Common.{◌≡◌, ◌<◌, ◌≤◌, ℕ, zero, suc, Bool, true, false, cond, List, [], ◌∷◌, ◌++◌, length, map, refl, ap, ◌∙◌, sym, subst, arith, ⊎_elim}
use Rattle.std.specs.Prelude.{◌+◌, ◌-◌, ◌||◌, nat_lt, filter, ◌*◌}
use Rattle.std.specs.List.{list_any}
use Rattle.std.proofs.lemmas.Bool.{both_ways, cases_lt}
use Rattle.gm_ast.specs.declared.tree.Declaration.{Declaration}
use Rattle.gm_ast.specs.declared.tree.Sort.TheVariants as Sorts
use Rattle.gm_ast.specs.Names.{is}
use Rattle.gm_forms.proofs.Named.{both-true}
use Rattle.gm_forms.specs.Uses.{uses_of}
use Rattle.gm_semantics.specs.Levels.{numbers_from}
use Rattle.gm_semantics.specs.Statements.{variable_at}
use Rattle.gm_lowering.specs.Layouts.{rank, optional, nesting, loop_types, spare_types, body_positions, phase_positions, is_global, is_register, names_property, has_field, all_those, tested, named_globals, kept_globals, counted_globals, local_types, field_types, type_number}
use Rattle.gm_lowering.specs.Shapes.{LayoutsAreApart}
use Rattle.gm_value.specs.declared.values.VType.{VType}
use Rattle.gm_value.specs.declared.values.VType.TheVariants as V
use Rattle.gm_lowering.specs.TupleLines.{LayoutsHaveSpares}

-- how many of some numbers pass a test
abbrev count : (ℕ → Bool) → ℕ → ℕ → ℕ
count test a m = length (filter test (numbers_from a m))

count-parts : (test : ℕ → Bool) (a m k : ℕ) → count test a (m + k) ≡ count test a m + count test (a + m) k
count-parts test a zero k = ap (λ z. count test a z) (let e : 0 + k ≡ k = omega arith in e) ∙ ap (λ z. count test z k) (let e : a ≡ a + 0 = omega arith in e) ∙ (let e : count test (a + 0) k ≡ 0 + count test (a + 0) k = omega arith in e)
count-parts test a (suc m) k =
    ap (λ z. count test a z) (let e : suc m + k ≡ suc (m + k) = omega arith in e)
    ∙ by (test a) (count-parts test (suc a) m k ∙ ap (λ z. count test (suc a) m + count test z k) (let e : suc a + m ≡ a + suc m = omega arith in e)) where
      by : (b : Bool) → count test (suc a) (m + k) ≡ count test (suc a) m + count test (a + suc m) k
          → length (cond b (a ∷ filter test (numbers_from (suc a) (m + k))) (filter test (numbers_from (suc a) (m + k)))) ≡ length (cond b (a ∷ filter test (numbers_from (suc a) m)) (filter test (numbers_from (suc a) m))) + count test (a + suc m) k
      by true e = omega arith
      by false e = e

-- a number that passes has a lesser rank than the numbers behind it
pub rank-up : (test : ℕ → Bool) (x y : ℕ) → test x ≡ true → x < y → rank test x < rank test y
rank-up test x y e lt =
    let parts : count test 0 (x + suc (y - suc x)) ≡ count test 0 x + count test (0 + x) (suc (y - suc x)) = count-parts test 0 x (suc (y - suc x)) in
    let whole : x + suc (y - suc x) ≡ y = omega arith in
    let here : count test (0 + x) (suc (y - suc x)) ≡ suc (count test (suc (0 + x)) (y - suc x)) =
    ap (λ b. length (cond b ((0 + x) ∷ filter test (numbers_from (suc (0 + x)) (y - suc x))) (filter test (numbers_from (suc (0 + x)) (y - suc x))))) (ap test (let z : 0 + x ≡ x = omega arith in z) ∙ e) in
    let all : rank test y ≡ count test 0 x + suc (count test (suc (0 + x)) (y - suc x)) = sym (ap (count test 0) whole) ∙ parts ∙ ap (λ z. count test 0 x + z) here in
    subst (λ z. rank test x < z) (sym all) (omega arith)

rank-apart : (test : ℕ → Bool) (x y : ℕ) → test x ≡ true → test y ≡ true → rank test x ≡ rank test y → x ≡ y
rank-apart test x y e f same =
    ⊎_elim
    (λ (l : x < y). let u = rank-up test x y e l in absurd (omega arith))
    (λ (l : y ≤ x). ⊎_elim (λ (m : y < x). let u = rank-up test y x f m in absurd (omega arith)) (λ (m : x ≤ y). omega arith) (cases_lt y x))
    (cases_lt x y)

length-map : {A B : Type 0} (f : A → B) (xs : List A) → length (map f xs) ≡ length xs
length-map f [] = refl
length-map f (x ∷ xs) = ap suc (length-map f xs)

length-both : {A : Type 0} (xs ys : List A) → length (xs ++ ys) ≡ length xs + length ys
length-both [] ys = omega arith
length-both (x ∷ xs) ys = let e = length-both xs ys in omega arith

-- a property with a field is declared
declared : (ds : List Declaration) (x : ℕ) → is Sorts.NodeProperty (variable_at ds x) ≡ true → x < length ds
declared [] x h = absurd (both_ways false refl h)
declared (d ∷ ds) zero h = omega arith
declared (d ∷ ds) (suc x) h = let e = declared ds x h in omega arith

pub layouts-are-apart : LayoutsAreApart
layouts-are-apart p = (
  record {
    register_within = λ x lt e.
        let up = rank-up (tested p is_register) x (length p.declarations) e lt in
        let same : length (local_types p) ≡ rank (tested p is_register) (length p.declarations) = length-map (λ y. (variable_at p.declarations y).vtype) (all_those p (tested p is_register)) in
        let more = length-both (local_types p) (spare_types (body_positions p.declarations p.body)) in
        omega arith;
    registers_apart = λ x y l m e f same. rank-apart (tested p is_register) x y e f same;
    field_within = λ x e.
        let up = rank-up (has_field p) x (length p.declarations) e (declared p.declarations x (both-true (is Sorts.NodeProperty (variable_at p.declarations x)) (nat_lt x (p.inputs + p.outputs) || list_any (names_property x) (uses_of p.body)) e).0) in
        let same : length (field_types p) ≡ rank (has_field p) (length p.declarations) = length-map (λ y. (variable_at p.declarations y).vtype) (all_those p (has_field p)) in
        omega arith;
    fields_apart = λ x y e f same. rank-apart (has_field p) x y e f same;
  },
  record {
    within = λ x lt e.
        let up = rank-up (tested p is_global) x (length p.declarations) e lt in
        let same : length (named_globals p) ≡ rank (tested p is_global) (length p.declarations) = length-map (λ y. (variable_at p.declarations y).vtype) (all_those p (tested p is_global)) in
        let more = length-both (named_globals p) (optional p.result) in
        let more2 = length-both (kept_globals p) (loop_types (nesting p.body)) in
        let more3 = length-both (counted_globals p) (spare_types (phase_positions p.declarations p.body)) in
        omega arith;
    apart = λ x y l m e f same. rank-apart (tested p is_global) x y e f same;
  },
)

-- four spare registers stand at each position
spare-length : (m : ℕ) → length (spare_types m) ≡ 4 * m
spare-length zero = omega arith
spare-length (suc m) = let e = spare-length m in omega (arith, e)

few-types : (t : VType) → type_number t ≤ 3
few-types V.I32 = omega arith
few-types V.I64 = omega arith
few-types V.Flag = omega arith
few-types V.Node = omega arith

pub layouts-have-spares : LayoutsHaveSpares
layouts-have-spares p = record {
  within = λ i t lt.
      let few = few-types t in
      let more = length-both (local_types p) (spare_types (body_positions p.declarations p.body)) in
      let spare = spare-length (body_positions p.declarations p.body) in
      omega (arith, few, more, spare, lt);
  apart = λ i j t u l m e. let few = few-types t in let few2 = few-types u in omega (arith, few, few2, e);
  others = λ i x t lt l e same.
      let up = rank-up (tested p is_register) x (length p.declarations) e l in
      let all : length (local_types p) ≡ rank (tested p is_register) (length p.declarations) = length-map (λ y. (variable_at p.declarations y).vtype) (all_those p (tested p is_register)) in
      absurd (omega (arith, up, all, same));
}
