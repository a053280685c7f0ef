-- Placed iterators keep their names, sorts and types.
use Rattle.std.proofs.Common.{◌≡◌, ◌<◌, ◌≤◌, ℕ, zero, suc, Bool, true, false, List, [], ◌∷◌, length, refl, ap, ◌∙◌, sym, subst, arith}
use Rattle.std.specs.Prelude.{◌+◌, ◌||◌, if◌then◌else◌}
use Rattle.gm_ast.specs.declared.tree.Declaration.{Declaration}
use Rattle.gm_ast.specs.declared.tree.Sort.TheVariants as Sorts
use Rattle.gm_ast.specs.declared.tree.Variable.{Variable}
use Rattle.gm_ast.specs.Names.{sort_eq}
use Rattle.gm_ast.specs.Program.{Program}
use Rattle.gm_ast.specs.Ways.{is_in}
use Rattle.gm_semantics.specs.Statements.{variable_at}
use Rattle.gm_parting.specs.Iterators.{all_inner_iterators, iterates, iterator_depth, placed_variable, placed_from, with_iterators_placed}
use Rattle.gm_sound_lowering.specs.Asked.{name_at, HasNames}
use Rattle.gm_interface.specs.Tables.{HasTable, IteratesNoParameter, HasParametersOf}
use Rattle.gm_interface.proofs.Widened.{names-kept}

same-length : (inners : List ℕ) (i : ℕ) (ds : List Declaration) → length (placed_from inners i ds) ≡ length ds
same-length inners i [] = refl
same-length inners i (d ∷ ds) = ap suc (same-length inners (suc i) ds)

placed-at : (inners : List ℕ) (i : ℕ) (ds : List Declaration) (x : ℕ) → variable_at (placed_from inners i ds) x ≡ placed_variable (is_in inners (i + x)) (variable_at ds x)
placed-at inners i [] x = refl
placed-at inners i (d ∷ ds) zero = ap (λ n. placed_variable (is_in inners n) d.variable) (let e : i ≡ i + 0 = omega arith in e)
placed-at inners i (d ∷ ds) (suc x) = placed-at inners (suc i) ds x ∙ ap (λ n. placed_variable (is_in inners n) (variable_at ds x)) (let e : suc i + x ≡ i + suc x = omega arith in e)

placed-name : (inners : List ℕ) (i : ℕ) (ds : List Declaration) (x : ℕ) → name_at (placed_from inners i ds) x ≡ name_at ds x
placed-name inners i [] x = refl
placed-name inners i (d ∷ ds) zero = refl
placed-name inners i (d ∷ ds) (suc x) = placed-name inners (suc i) ds x

placed-sort : (b : Bool) (v : Variable) → (placed_variable b v).sort ≡ v.sort
placed-sort b v = by (iterates v) where
  by : (c : Bool) → (if c then record v { depth = iterator_depth b } else v).sort ≡ v.sort
  by true = refl
  by false = refl

placed-type : (b : Bool) (v : Variable) → (placed_variable b v).vtype ≡ v.vtype
placed-type b v = by (iterates v) where
  by : (c : Bool) → (if c then record v { depth = iterator_depth b } else v).vtype ≡ v.vtype
  by true = refl
  by false = refl

placed-depth : (v : Variable) → v.depth ≡ 0 → (placed_variable false v).depth ≡ 0
placed-depth v h = by (iterates v) where
  by : (c : Bool) → (if c then record v { depth = iterator_depth false } else v).depth ≡ 0
  by true = refl
  by false = h

module _ (p : Program) where
  abbrev inners : List ℕ
  inners = all_inner_iterators p.body

  abbrev q : Program
  q = with_iterators_placed p

  sort-same : (x : ℕ) → (variable_at q.declarations x).sort ≡ (variable_at p.declarations x).sort
  sort-same x = ap (λ v. v.sort) (placed-at inners 0 p.declarations x) ∙ placed-sort (is_in inners (0 + x)) (variable_at p.declarations x)

  type-same : (x : ℕ) → (variable_at q.declarations x).vtype ≡ (variable_at p.declarations x).vtype
  type-same x = ap (λ v. v.vtype) (placed-at inners 0 p.declarations x) ∙ placed-type (is_in inners (0 + x)) (variable_at p.declarations x)

  pub placed-table : IteratesNoParameter p → HasTable p → HasTable q
  placed-table apart h = record {
    nodes = λ x lt e. type-same x ∙ h.nodes x (subst (λ n. x < n) (same-length inners 0 p.declarations) lt) (sym (ap (λ s. sort_eq Sorts.Iterator s || sort_eq Sorts.Graph s) (sort-same x)) ∙ e);
    interface = record {
      declared = subst (λ n. p.inputs + p.outputs ≤ n) (sym (same-length inners 0 p.declarations)) h.interface.declared;
      outside = λ x lt. ap (λ v. v.depth) (placed-at inners 0 p.declarations x) ∙ ap (λ b. (placed_variable b (variable_at p.declarations x)).depth) (ap (is_in inners) (let e : 0 + x ≡ x = omega arith in e) ∙ apart x lt)
          ∙ placed-depth (variable_at p.declarations x) (h.interface.outside x lt);
      no_iterator = λ x lt. ap (sort_eq Sorts.Iterator) (sort-same x) ∙ h.interface.no_iterator x lt;
      edges = λ x e. h.interface.edges x (sym (ap (sort_eq Sorts.EdgeProperty) (sort-same x)) ∙ e);
    };
  }

  pub placed-parameters : HasParametersOf p q
  placed-parameters = record { name = refl; inputs = refl; outputs = refl; result = refl; like = λ x lt. record { name = placed-name inners 0 p.declarations x; sort = sort-same x; vtype = type-same x } }

  pub placed-names : HasNames p → HasNames q
  placed-names h = names-kept p q refl refl refl placed-parameters.like h

  pub placed-declared : p.inputs + p.outputs ≤ length p.declarations → q.inputs + q.outputs ≤ length q.declarations
  placed-declared d = subst (λ n. p.inputs + p.outputs ≤ n) (sym (same-length inners 0 p.declarations)) d
