-- Whole runs keep types, and so do their outcomes.
use Rattle.std.proofs.Common.{◌≡◌, ◌≤◌, ◌+◌, ℕ, zero, suc, Bool, true, false, List, [], ◌∷◌, length, map, refl, sym, ap, subst, ◌∙◌, arith, Option, Some, None}
use Rattle.std.specs.Prelude.{◌||◌, nat_lt, nat_le, slice_index_or, IsTrue, if◌then◌else◌}
use Rattle.std.specs.List.{list_all}
use Rattle.std.proofs.lemmas.Bool.{both_ways, ltb-true, leb-true}
use Rattle.gm_value.specs.declared.values.VType.{VType}
use Rattle.gm_value.specs.declared.values.Value.{Value}
use Rattle.gm_value.specs.declared.values.Value.TheVariants.{I32, I64, Flag, At}
use Rattle.gm_value.specs.Numbers.{type_of, number_of, fits, zero_of, IsOf}
use Rattle.gm_model.specs.Graphs.{NumberedGraph, node_count}
use Rattle.gm_ast.specs.declared.tree.Sort.{Sort}
use Rattle.gm_ast.specs.declared.tree.Sort.TheVariants as Sorts
use Rattle.gm_ast.specs.Program.{Program}
use Rattle.gm_semantics.specs.Levels.{numbers_from, nodes}
use Rattle.gm_semantics.specs.Stores.{Store}
use Rattle.gm_semantics.specs.Outcomes.{is_of, count_before, outputs_of, result_of, first_store, done, outcome_of, mean}
use Rattle.gm_semantics.specs.Statements.{State, Course, Goes, Returns, Faults, Stops, sequential}
use Rattle.gm_forms.specs.Meanings.{Fits}
use Rattle.gm_forms.specs.Extends.{run_of, start_of}
use Rattle.gm_forms.specs.Typing.{type_at}
use Rattle.gm_forms.specs.Uses.{suits, uses_of}
use Rattle.gm_forms.proofs.Named.{both-true}
use Rattle.gm_typed_stores.specs.Values.{NodeBelow, IsValue, AreValues, Each}
use Rattle.gm_typed_stores.specs.Tells.{TypeTable, table_of, holds}
use Rattle.gm_typed_stores.specs.Stores.{IsTypedStore, IsTypedResult, IsTypedCourse, AreRows, IsTypedOutcome}
use Rattle.gm_typed_stores.specs.Laws.{IsWellTyped, FitsBelow}
use Rattle.gm_typed_stores.proofs.Eaches.{each-map, each-weaker, each-any, each-filter}
use Rattle.gm_typed_stores.proofs.Values.{zero-value}
use Rattle.gm_typed_stores.proofs.Kept.{holds-scalar}
use Rattle.gm_typed_stores.proofs.Phases.{sequential-keeps}

module _ (limit : ℕ) (p : Program) (g : NumberedGraph) (args : List Value) where
  abbrev table : TypeTable
  table = table_of limit p

  -- what holds a value outside of all iterators is a scalar, or no input
  outside : (x : ℕ) → holds table [] x ≡ true → nat_lt x p.inputs ≡ true → is_of p.declarations Sorts.Scalar x ≡ true
  outside x h low = by (is_of p.declarations Sorts.Scalar x) (nat_le p.inputs x) refl h
    where
      by : (a b : Bool) → nat_le p.inputs x ≡ b → a || (b || false) ≡ true → a ≡ true
      by true b e h = refl
      by false true e h = let m = leb-true p.inputs x e in let n = ltb-true x p.inputs low in absurd (omega arith)
      by false false e h = absurd (both_ways false refl h)

  pub first-typed : FitsBelow limit p g args → IsTypedStore table [] (first_store p g args)
  first-typed fits = record { scalar = scalar; node = node; edge = edge }
    where
      scalar : (x : ℕ) → holds table [] x ≡ true → IsValue limit (type_at p.declarations x) ((first_store p g args).scalar x)
      scalar x h = by (nat_lt x p.inputs) refl
        where
          by : (b : Bool) → nat_lt x p.inputs ≡ b → IsValue limit (type_at p.declarations x) ((first_store p g args).scalar x)
          by true e = fits.scalars x (ltb-true x p.inputs e) (outside x h e)
          by false e =
              subst (λ b. IsValue limit (type_at p.declarations x) (if b then slice_index_or args (count_before p.declarations Sorts.Scalar x) (zero_of (type_at p.declarations x)) else zero_of (type_at p.declarations x))) (sym e)
              (zero-value limit (type_at p.declarations x))

      node : (x n : ℕ) → is_of p.declarations Sorts.NodeProperty x ≡ true → IsValue limit (type_at p.declarations x) ((first_store p g args).node x n)
      node x n h = by (nat_lt x p.inputs) refl
        where
          by : (b : Bool) → nat_lt x p.inputs ≡ b → IsValue limit (type_at p.declarations x) ((first_store p g args).node x n)
          by true e = fits.nodes x n (ltb-true x p.inputs e) h
          by false e =
              subst (λ b. IsValue limit (type_at p.declarations x) (if b then slice_index_or (slice_index_or g.node_columns (count_before p.declarations Sorts.NodeProperty x) []) n (zero_of (type_at p.declarations x)) else zero_of (type_at p.declarations x))) (sym e)
              (zero-value limit (type_at p.declarations x))

      edge : (x n : ℕ) → is_of p.declarations Sorts.EdgeProperty x ≡ true → IsValue limit (type_at p.declarations x) ((first_store p g args).edge x n)
      edge x n h = by (nat_lt x p.inputs) refl
        where
          by : (b : Bool) → nat_lt x p.inputs ≡ b → IsValue limit (type_at p.declarations x) ((first_store p g args).edge x n)
          by true e = fits.edges x n (ltb-true x p.inputs e) h
          by false e =
              subst (λ b. IsValue limit (type_at p.declarations x) (if b then slice_index_or (slice_index_or g.edge_columns (count_before p.declarations Sorts.EdgeProperty x) []) n (zero_of (type_at p.declarations x)) else zero_of (type_at p.declarations x))) (sym e)
              (zero-value limit (type_at p.declarations x))

  pub run-typed : (bound : ℕ) → IsWellTyped limit p → FitsBelow limit p g args → IsTypedCourse table p.result [] (sequential p.body (run_of p g bound) (start_of p g args))
  run-typed bound well fits =
      let named = both-true (nat_le (p.inputs + p.outputs) (length p.declarations)) (list_all (suits p.declarations) (uses_of p.body)) well.named in
      sequential-keeps table p.result (run_of p g bound) fits.graph refl p.body [] (start_of p g args) well.typed named.1 well.tells (first-typed fits)

  -- ---- outcomes

  scalars-typed : (s : Store) (xs : List ℕ) → IsTypedStore table [] s → Each (λ x. is_of p.declarations Sorts.Scalar x ≡ true) xs → AreValues limit (map (type_at p.declarations) xs) (map s.scalar xs)
  scalars-typed s [] h each = tt
  scalars-typed s (x ∷ xs) h each = (h.scalar x (holds-scalar table [] x each.0), scalars-typed s xs h each.1)

  length-mapped : {A B : Type 0} (f : A → B) (xs : List A) → length (map f xs) ≡ length xs
  length-mapped f [] = refl
  length-mapped f (x ∷ xs) = ap suc (length-mapped f xs)

  length-numbers : (k n : ℕ) → length (numbers_from k n) ≡ n
  length-numbers k zero = refl
  length-numbers k (suc n) = ap suc (length-numbers (suc k) n)

  rows-typed : (s : Store) (xs : List ℕ) → IsTypedStore table [] s → Each (λ x. is_of p.declarations Sorts.NodeProperty x ≡ true) xs →
      AreRows limit (node_count g) (map (type_at p.declarations) xs) (map (λ x. map (s.node x) (nodes g)) xs)
  rows-typed s [] h each = tt
  rows-typed s (x ∷ xs) h each = (
    (
      length-mapped (s.node x) (nodes g) ∙ length-numbers 0 (node_count g),
      each-map (IsValue limit (type_at p.declarations x)) (s.node x) (nodes g) (each-weaker (λ n. Unit {0}) (λ n. IsValue limit (type_at p.declarations x) (s.node x n)) (nodes g) (λ n u. h.node x n each.0) (each-any (nodes g))),
    ),
    rows-typed s xs h each.1,
  )

  result-typed : (t : Option VType) (v : Option Value) → IsTypedResult limit t v → IsTypedResult limit t (result_of t v)
  result-typed None None h = tt
  result-typed None (Some v) h = absurd h
  result-typed (Some t) None h = absurd h
  result-typed (Some t) (Some v) h = h

  no-result-typed : (t : Option VType) → IsTypedResult limit t (result_of t None)
  no-result-typed None = tt
  no-result-typed (Some t) = zero-value limit t

  outputs-sorted : (sort : Sort) → Each (λ x. is_of p.declarations sort x ≡ true) (outputs_of p sort)
  outputs-sorted sort =
      let xs = numbers_from p.inputs p.outputs in
      each-weaker (λ (x : ℕ). Unit {0} × (is_of p.declarations sort x ≡ true)) (λ x. is_of p.declarations sort x ≡ true) (outputs_of p sort) (λ x h. h.1)
      (each-filter (λ x. Unit {0}) (is_of p.declarations sort) xs (each-any xs))

  done-typed : (v : Option Value) (s : State) → IsTypedResult limit p.result (result_of p.result v) → IsTypedStore table [] s.store → IsTypedOutcome limit p g (done p g v s)
  done-typed v s r h =
      (scalars-typed s.store (outputs_of p Sorts.Scalar) h (outputs-sorted Sorts.Scalar), r, rows-typed s.store (outputs_of p Sorts.NodeProperty) h (outputs-sorted Sorts.NodeProperty))

  course-typed : (bound : ℕ) (c : Course) → IsTypedCourse table p.result [] c → IsTypedOutcome limit p g (outcome_of p g bound c)
  course-typed bound (Goes s) h = done-typed None s (no-result-typed p.result) h
  course-typed bound (Returns v s) h = done-typed v s (result-typed p.result v h.0) h.1
  course-typed bound (Faults f) h = tt
  course-typed bound Stops h = tt

  pub outcome-typed : (bound : ℕ) → IsWellTyped limit p → FitsBelow limit p g args → IsTypedOutcome limit p g (mean p g args bound)
  outcome-typed bound well fits = course-typed bound (sequential p.body (run_of p g bound) (start_of p g args)) (run-typed bound well fits)

-- ---- what fits a program fits it below 2 ^ 32

any-below : (v : Value) → IsTrue (fits (type_of v) (number_of v)) → NodeBelow 4294967296 v
any-below (I32 z) h = tt
any-below (I64 z) h = tt
any-below (Flag b) h = tt
any-below (At None) h = tt
any-below (At (Some k)) h = grind arith

of-below : (t : VType) (v : Value) → IsOf t v → IsValue 4294967296 t v
of-below t v is = record { of_type = is; below = any-below v (subst (λ (u : VType). IsTrue (fits u (number_of v))) (sym is.0) is.1) }

pub fits-below : (p : Program) (g : NumberedGraph) (args : List Value) → Fits p g args → FitsBelow 4294967296 p g args
fits-below p g args fit =
    let few : node_count g ≤ 2147483647 = fit.graph.few_nodes in
    record {
      graph = record { graph = fit.graph; nodes = omega arith };
      scalars = λ x low h. of-below (type_at p.declarations x) ((first_store p g args).scalar x) (fit.scalars x low h);
      nodes = λ x n low h. of-below (type_at p.declarations x) ((first_store p g args).node x n) (fit.nodes x n low h);
      edges = λ x n low h. of-below (type_at p.declarations x) ((first_store p g args).edge x n) (fit.edges x n low h);
    }
