-- A program whose table has more declarations than another's, with the same ones before them.
use Rattle.std.proofs.Common.{◌≡◌, ◌<◌, ◌≤◌, inl, inr, ℕ, zero, suc, Bool, true, false, List, [], ◌∷◌, ◌++◌, length, refl, ap, ◌∙◌, sym, subst, arith, ⊎_elim}
use Rattle.std.specs.Prelude.{◌+◌, ◌⊎◌, ◌&&◌, ◌||◌, not, nat_lt, slice_get, option_map}
use Rattle.std.specs.List.{list_all}
use Rattle.std.specs.Str.{bytes_eq}
use Rattle.std.proofs.lemmas.Bool.{both_ways, ltb-true, ltb-false, not-true}
use Rattle.gm_value.specs.declared.values.VType.{VType}
use Rattle.gm_value.specs.declared.values.VType.TheVariants as V
use Rattle.gm_value.specs.Operations.{same_type}
use Rattle.gm_ast.specs.declared.tree.Declaration.{Declaration}
use Rattle.gm_ast.specs.declared.tree.Sort.TheVariants as Sorts
use Rattle.gm_ast.specs.declared.tree.Variable.{Variable}
use Rattle.gm_ast.specs.Names.{is, sort_eq, is_node_type}
use Rattle.gm_ast.specs.Program.{Program}
use Rattle.gm_forms.proofs.Named.{both-true}
use Rattle.gm_semantics.specs.Statements.{variable_at, variable_or}
use Rattle.gm_image.specs.Names.{is_name}
use Rattle.gm_lowering.specs.Lowered.{name_or}
use Rattle.gm_sound_lowering.specs.Asked.{name_at, HasNames}
use Rattle.gm_interface.specs.Tables.{HasTable, IsLike, HasParametersOf}

-- a variable that passes may add: no property of edges, and a node where it iterates
abbrev pub is_added : Variable → Bool
is_added v = not (is Sorts.EdgeProperty v) && (not (is Sorts.Iterator v || is Sorts.Graph v) || is_node_type v.vtype)

pub record Widens (p q : Program) : Type 0 where
  pub name : q.name ≡ p.name
  pub inputs : q.inputs ≡ p.inputs
  pub outputs : q.outputs ≡ p.outputs
  pub result : q.result ≡ p.result
  pub longer : length p.declarations ≤ length q.declarations
  pub like : (x : ℕ) → x < length p.declarations → slice_get q.declarations x ≡ slice_get p.declarations x
  pub added : (x : ℕ) → length p.declarations ≤ x → is_added (variable_at q.declarations x) ≡ true

pub node-type : (t : VType) → is_node_type t ≡ true → t ≡ V.Node
node-type V.Node e = refl
node-type V.I32 e = absurd (both_ways false refl e)
node-type V.I64 e = absurd (both_ways false refl e)
node-type V.Flag e = absurd (both_ways false refl e)

pub added-node : (v : Variable) → is_added v ≡ true → is Sorts.Iterator v || is Sorts.Graph v ≡ true → v.vtype ≡ V.Node
added-node v h e =
    let b = both-true (not (is Sorts.EdgeProperty v)) (not (is Sorts.Iterator v || is Sorts.Graph v) || is_node_type v.vtype) h in node-type v.vtype (by (is Sorts.Iterator v || is Sorts.Graph v) (is_node_type v.vtype) e b.1) where
      by : (a b : Bool) → a ≡ true → not a || b ≡ true → b ≡ true
      by true b e h = h
      by false b e h = absurd (both_ways false refl e)

pub added-inside : (v : Variable) → is_added v ≡ true → is Sorts.EdgeProperty v ≡ false
added-inside v h = not-true (is Sorts.EdgeProperty v) (both-true (not (is Sorts.EdgeProperty v)) _ h).0

below-or : (x n : ℕ) → (x < n) ⊎ (n ≤ x)
below-or x n = by (nat_lt x n) refl where
  by : (b : Bool) → nat_lt x n ≡ b → (x < n) ⊎ (n ≤ x)
  by true e = inl (ltb-true x n e)
  by false e = inr (ltb-false x n e)

-- a program has names where one with the same inputs and outputs has
pub names-kept : (p q : Program) → q.name ≡ p.name → q.inputs ≡ p.inputs → q.outputs ≡ p.outputs → ((x : ℕ) → x < p.inputs + p.outputs → IsLike p q x) → HasNames p → HasNames q
names-kept p q n i o like h = record {
  name = ap is_name n ∙ h.name;
  names = λ x lt. ap is_name (like x (both x lt)).name ∙ h.names x (both x lt);
  inputs_differ = λ x y lt m.
      let k : y < p.inputs = subst (λ z. y < z) i m in
      let a : x < p.inputs + p.outputs = omega (arith, lt, k) in
      let b : y < p.inputs + p.outputs = omega (arith, k) in
      ap (λ z. bytes_eq z (name_at q.declarations y)) (like x a).name ∙ ap (bytes_eq (name_at p.declarations x)) (like y b).name ∙ h.inputs_differ x y lt k;
  outputs_differ = λ x y le lt m.
      let k = both y m in
      let l : p.inputs ≤ x = subst (λ z. z ≤ x) i le in
      let a : x < p.inputs + p.outputs = omega (arith, lt, k) in
      ap (λ z. bytes_eq z (name_at q.declarations y)) (like x a).name ∙ ap (bytes_eq (name_at p.declarations x)) (like y k).name ∙ h.outputs_differ x y l lt k;
  no_nodes = λ x lt e.
      let k : x < p.inputs = subst (λ z. x < z) i lt in
      let a : x < p.inputs + p.outputs = omega (arith, k) in
      let s = (like x a).sort in
      ap (λ t. same_type t V.Node) (like x a).vtype ∙ h.no_nodes x k (sym (ap (λ z. sort_eq Sorts.NodeProperty z || sort_eq Sorts.EdgeProperty z) s) ∙ e);
} where
  both : (x : ℕ) → x < q.inputs + q.outputs → x < p.inputs + p.outputs
  both x lt = subst (λ z. x < z) (ap (λ a. a + q.outputs) i ∙ ap (λ b. p.inputs + b) o) lt

-- parameters of a program that has those of another are those of a third, where the other has these
pub both-parameters : (p q r : Program) → HasParametersOf p q → HasParametersOf q r → HasParametersOf p r
both-parameters p q r a b = record {
  name = b.name ∙ a.name;
  inputs = b.inputs ∙ a.inputs;
  outputs = b.outputs ∙ a.outputs;
  result = b.result ∙ a.result;
  like = λ x lt.
      let i = a.inputs in
      let o = a.outputs in
      let k : x < q.inputs + q.outputs = omega (arith, lt, i, o) in
      let l = a.like x lt in
      let m = b.like x k in
      record { name = m.name ∙ l.name; sort = m.sort ∙ l.sort; vtype = m.vtype ∙ l.vtype };
}

module _ (p q : Program) (w : Widens p q) where
  same : (x : ℕ) → x < length p.declarations → variable_at q.declarations x ≡ variable_at p.declarations x
  same x h = ap (λ o. variable_or (option_map (λ (d : Declaration). d.variable) o)) (w.like x h)

  parameters : (x : ℕ) → x < q.inputs + q.outputs → x < p.inputs + p.outputs
  parameters x h = subst (λ n. x < n) (ap (λ i. i + q.outputs) w.inputs ∙ ap (λ o. p.inputs + o) w.outputs) h

  -- its table is in order, where the other's is
  pub widened-table : HasTable p → HasTable q
  widened-table h = record {
    nodes = λ x lt e. ⊎_elim (λ (k : x < length p.declarations). ap (λ v. v.vtype) (same x k) ∙ h.nodes x k (sym (ap (λ v. is Sorts.Iterator v || is Sorts.Graph v) (same x k)) ∙ e))
        (λ (k : length p.declarations ≤ x). added-node (variable_at q.declarations x) (w.added x k) e) (below-or x (length p.declarations));
    interface = record {
      declared = let a = h.interface.declared in let b = w.longer in let i = w.inputs in let o = w.outputs in omega (arith, a, b, i, o);
      outside = λ x lt. let k = inside x lt in ap (λ v. v.depth) (same x k) ∙ h.interface.outside x (parameters x lt);
      no_iterator = λ x lt. let m : x < p.inputs = subst (λ n. x < n) w.inputs lt in ap (is Sorts.Iterator) (same x (first x m)) ∙ h.interface.no_iterator x m;
      edges = λ x e. ⊎_elim (λ (k : x < length p.declarations). subst (λ n. x < n) (sym w.inputs) (h.interface.edges x (sym (ap (is Sorts.EdgeProperty) (same x k)) ∙ e)))
          (λ (k : length p.declarations ≤ x). absurd (both_ways (is Sorts.EdgeProperty (variable_at q.declarations x)) (added-inside (variable_at q.declarations x) (w.added x k)) e)) (below-or x (length p.declarations));
    };
  } where
    inside : (x : ℕ) → x < q.inputs + q.outputs → x < length p.declarations
    inside x lt = let k = parameters x lt in let d = h.interface.declared in omega (arith, k, d)

    first : (x : ℕ) → x < p.inputs → x < length p.declarations
    first x lt = let d = h.interface.declared in omega (arith, lt, d)

  inside-names : p.inputs + p.outputs ≤ length p.declarations → (x : ℕ) → x < p.inputs + p.outputs → IsLike p q x
  inside-names d x lt =
      let k : x < length p.declarations = omega (arith, lt, d) in
      record { name = ap name_or (w.like x k); sort = ap (λ v. v.sort) (same x k); vtype = ap (λ v. v.vtype) (same x k) }

  -- it has the other's inputs and outputs, where these are declared
  pub widened-parameters : p.inputs + p.outputs ≤ length p.declarations → HasParametersOf p q
  widened-parameters d = record { name = w.name; inputs = w.inputs; outputs = w.outputs; result = w.result; like = inside-names d }

  -- and it has names, where the other has
  pub widened-names : p.inputs + p.outputs ≤ length p.declarations → HasNames p → HasNames q
  widened-names d h = names-kept p q w.name w.inputs w.outputs (inside-names d) h

-- ---- tables with declarations behind them

get-longer : (xs ys : List Declaration) (x : ℕ) → x < length xs → slice_get (xs ++ ys) x ≡ slice_get xs x
get-longer [] ys x h = absurd (omega (arith, h))
get-longer (d ∷ xs) ys zero h = refl
get-longer (d ∷ xs) ys (suc x) h = get-longer xs ys x (omega (arith, h))

abbrev pub all_added : List Declaration → Bool
all_added xs = list_all (λ d. is_added d.variable) xs

added-at : (xs : List Declaration) (i : ℕ) → all_added xs ≡ true → is_added (variable_at xs i) ≡ true
added-at [] i h = refl
added-at (d ∷ xs) zero h = (both-true (is_added d.variable) (all_added xs) h).0
added-at (d ∷ xs) (suc i) h = added-at xs i (both-true (is_added d.variable) (all_added xs) h).1

pub appended : (p q : Program) (xs : List Declaration) → q.name ≡ p.name → q.inputs ≡ p.inputs → q.outputs ≡ p.outputs → q.result ≡ p.result → q.declarations ≡ p.declarations ++ xs → all_added xs ≡ true → Widens p q
appended p q xs n i o r e h = record {
  name = n;
  inputs = i;
  outputs = o;
  result = r;
  longer = subst (λ ds. length p.declarations ≤ length ds) (sym e) (more p.declarations xs);
  like = λ x lt. ap (λ ds. slice_get ds x) e ∙ get-longer p.declarations xs x lt;
  added = λ x le. subst (λ ds. is_added (variable_at ds x) ≡ true) (sym e) (behind p.declarations x le);
} where
  more : (ds xs : List Declaration) → length ds ≤ length (ds ++ xs)
  more [] xs = omega arith
  more (d ∷ ds) xs = let r = more ds xs in omega (arith, r)

  behind : (ds : List Declaration) (x : ℕ) → length ds ≤ x → is_added (variable_at (ds ++ xs) x) ≡ true
  behind [] x le = added-at xs x h
  behind (d ∷ ds) zero le = absurd (omega (arith, le))
  behind (d ∷ ds) (suc x) le = behind ds x (omega (arith, le))

-- no declaration more
pub unchanged : (p q : Program) → q.name ≡ p.name → q.inputs ≡ p.inputs → q.outputs ≡ p.outputs → q.result ≡ p.result → q.declarations ≡ p.declarations → Widens p q
unchanged p q n i o r e = appended p q [] n i o r (e ∙ sym (nothing p.declarations)) refl where
  nothing : (ds : List Declaration) → ds ++ [] ≡ ds
  nothing [] = refl
  nothing (d ∷ ds) = ap (λ xs. d ∷ xs) (nothing ds)

-- one after another
pub further : (p q r : Program) → Widens p q → Widens q r → Widens p r
further p q r a b = record {
  name = b.name ∙ a.name;
  inputs = b.inputs ∙ a.inputs;
  outputs = b.outputs ∙ a.outputs;
  result = b.result ∙ a.result;
  longer = let x = a.longer in let y = b.longer in omega (arith, x, y);
  like = λ x lt. let l = a.longer in b.like x (omega (arith, lt, l)) ∙ a.like x lt;
  added = λ x le. ⊎_elim (λ (k : x < length q.declarations). ap is_added (ap (λ o. variable_or (option_map (λ (d : Declaration). d.variable) o)) (b.like x k)) ∙ a.added x le)
      (λ (k : length q.declarations ≤ x). b.added x k) (below-or x (length q.declarations));
}
