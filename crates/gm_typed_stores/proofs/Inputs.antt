-- What a program asks for fits it: an input has the value that stands for it among those of its sort.
use Rattle.std.proofs.Common.{◌≡◌, ◌<◌, ◌+◌, ℕ, zero, suc, Bool, true, false, cond, List, [], ◌∷◌, length, map, sym, ap, subst, ◌∙◌, arith}
use Rattle.std.specs.Prelude.{filter, slice_index_or, if◌then◌else◌}
use Rattle.std.proofs.lemmas.Bool.{lt-ltb}
use Rattle.gm_value.specs.declared.values.VType.{VType}
use Rattle.gm_value.specs.declared.values.Value.{Value}
use Rattle.gm_value.specs.Numbers.{zero_of}
use Rattle.gm_model.specs.Graphs.{NumberedGraph}
use Rattle.gm_ast.specs.declared.tree.Declaration.{Declaration}
use Rattle.gm_ast.specs.declared.tree.Sort.{Sort}
use Rattle.gm_ast.specs.declared.tree.Sort.TheVariants as Sorts
use Rattle.gm_ast.specs.Program.{Program}
use Rattle.gm_semantics.specs.Levels.{numbers_from}
use Rattle.gm_semantics.specs.Outcomes.{is_of, count_before}
use Rattle.gm_forms.specs.Typing.{type_at}
use Rattle.gm_typed_stores.specs.Values.{IsValue, Along, Each}
use Rattle.gm_typed_stores.specs.Laws.{HasInputs, FitsBelow}
use Rattle.gm_typed_stores.proofs.Values.{zero-value}

module _ {A : Type 0} (P : VType → A → Type 0) (ds : List Declaration) (sort : Sort) where
  abbrev kept : ℕ → ℕ → List ℕ
  kept k n = filter (is_of ds sort) (numbers_from k n)

  -- of the members for variables of a sort from a number on, that of a variable stands behind those of the variables before it
  among : (n k j x : ℕ) (xs : List A) (other : A) → x ≡ k + j → j < n → is_of ds sort x ≡ true → Along P (map (type_at ds) (kept k n)) xs → P (type_at ds x) (slice_index_or xs (length (kept k j)) other)
  among zero k j x xs other e low h along = absurd (omega arith)
  among (suc n) k zero x xs other e low h along =
      let here : x ≡ k = omega arith in
      subst (λ y. P (type_at ds y) (slice_index_or xs 0 other)) (sym here)
      (first xs (subst (λ b. Along P (map (type_at ds) (cond b (k ∷ kept (suc k) n) (kept (suc k) n))) xs) (ap (is_of ds sort) (sym here) ∙ h) along))
    where
      first : (xs : List A) → Along P (type_at ds k ∷ map (type_at ds) (kept (suc k) n)) xs → P (type_at ds k) (slice_index_or xs 0 other)
      first [] a = absurd a
      first (y ∷ ys) a = a.0
  among (suc n) k (suc j) x xs other e low h along =
      let next : x ≡ suc k + j = omega arith in
      let less : j < n = omega arith in
      by (is_of ds sort k) xs (λ ys a. among n (suc k) j x ys other next less h a) along
    where
      by : (b : Bool) (xs : List A) → ((ys : List A) → Along P (map (type_at ds) (kept (suc k) n)) ys → P (type_at ds x) (slice_index_or ys (length (kept (suc k) j)) other)) →
          Along P (map (type_at ds) (cond b (k ∷ kept (suc k) n) (kept (suc k) n))) xs → P (type_at ds x) (slice_index_or xs (length (cond b (k ∷ kept (suc k) j) (kept (suc k) j))) other)
      by true [] rest a = absurd a
      by true (y ∷ ys) rest a = rest ys a.1
      by false xs rest a = rest xs a

-- a value of a column, or another value
column-value : (P : Value → Type 0) (column : List Value) (row : ℕ) (other : Value) → Each P column → P other → P (slice_index_or column row other)
column-value P [] row other h k = k
column-value P (v ∷ column) zero other h k = h.0
column-value P (v ∷ column) (suc row) other h k = column-value P column row other h.1 k

pub asked-fits : (limit : ℕ) (p : Program) (g : NumberedGraph) (args : List Value) → HasInputs limit p g args → FitsBelow limit p g args
asked-fits limit p g args has = record {
  graph = has.graph;
  scalars = λ x low is.
      subst (λ b. IsValue limit (type_at p.declarations x) (if b then slice_index_or args (count_before p.declarations Sorts.Scalar x) (zero_of (type_at p.declarations x)) else zero_of (type_at p.declarations x))) (sym (lt-ltb x p.inputs low))
      (among (IsValue limit) p.declarations Sorts.Scalar p.inputs 0 x x args (zero_of (type_at p.declarations x)) (omega arith) low is has.scalars);
  nodes = λ x n low is.
      subst (λ b. IsValue limit (type_at p.declarations x) (if b then slice_index_or (slice_index_or g.node_columns (count_before p.declarations Sorts.NodeProperty x) []) n (zero_of (type_at p.declarations x)) else zero_of (type_at p.declarations x))) (sym (lt-ltb x p.inputs low))
      (column-value (IsValue limit (type_at p.declarations x)) (slice_index_or g.node_columns (count_before p.declarations Sorts.NodeProperty x) []) n (zero_of (type_at p.declarations x))
      (among (λ u column. Each (IsValue limit u) column) p.declarations Sorts.NodeProperty p.inputs 0 x x g.node_columns [] (omega arith) low is has.nodes) (zero-value limit (type_at p.declarations x)));
  edges = λ x n low is.
      subst (λ b. IsValue limit (type_at p.declarations x) (if b then slice_index_or (slice_index_or g.edge_columns (count_before p.declarations Sorts.EdgeProperty x) []) n (zero_of (type_at p.declarations x)) else zero_of (type_at p.declarations x))) (sym (lt-ltb x p.inputs low))
      (column-value (IsValue limit (type_at p.declarations x)) (slice_index_or g.edge_columns (count_before p.declarations Sorts.EdgeProperty x) []) n (zero_of (type_at p.declarations x))
      (among (λ u column. Each (IsValue limit u) column) p.declarations Sorts.EdgeProperty p.inputs 0 x x g.edge_columns [] (omega arith) low is has.edges) (zero-value limit (type_at p.declarations x)));
}
