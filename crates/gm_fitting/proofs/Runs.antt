-- What a run has is what its program asks for.
use Rattle.std.proofs.Common.{◌≡◌, ◌≤◌, suc, List, [], ◌∷◌, length, map, filter, take, refl, ap, ◌∙◌, sym, subst, arith}
use Rattle.std.specs.Prelude.{IfOk}
use Rattle.gm_value.specs.declared.values.VType.{VType}
use Rattle.gm_ast.specs.declared.tree.Declaration.{Declaration}
use Rattle.gm_ast.specs.declared.tree.Sort.{Sort}
use Rattle.gm_ast.specs.declared.tree.Sort.TheVariants as Sorts
use Rattle.gm_ast.specs.Names.{is}
use Rattle.gm_ast.specs.Program.{Program}
use Rattle.gm_semantics.specs.Levels.{numbers_from}
use Rattle.gm_semantics.specs.Outcomes.{is_of}
use Rattle.gm_forms.specs.Typing.{type_at}
use Rattle.gm_typed_stores.specs.Laws.{HasInputs, input_types}
use Rattle.gm_typed_stores.specs.Values.{Along, AreValues, AreColumns}
use Rattle.gm_typed_stores.proofs.Inputs.{asked-fits}
use Rattle.gm_words.specs.declared.arguments.Input.{Input}
use Rattle.gm_sound_lowering.specs.Asked.{name_at}
use Rattle.gm_interface.proofs.Source.{typed-table}
use Rattle.gm_interface.proofs.Spelled.{typed-names}
use Rattle.gm_compilable.specs.Parameters.{Named, named}
use Rattle.gm_compilable.proofs.Arguments.{columns-first}
use Rattle.gm_compilable.proofs.Items.{of-rows, from-front, map-twice}
use Rattle.gm_compilable.proofs.Texts.{accepted-of-text}
use Rattle.gm_fitting.specs.Laws.{inputs_asked, types_asked, BoundValuesHaveTypes, RunsFit}
use Rattle.gm_fitting.proofs.Bound.{bound-good}
use Rattle.gm_fitting.proofs.Inputs.{as_input, sorted-typed}

types-of : (ds : List Declaration) → map (λ (n : Named). n.1) (map (λ d. named d.name d.variable.vtype) ds) ≡ map (λ (d : Declaration). d.variable.vtype) ds
types-of [] = refl
types-of (d ∷ ds) = ap (λ ts. d.variable.vtype ∷ ts) (types-of ds)

inputs-of : (ds : List Declaration) → map (λ (d : Declaration). d.variable.vtype) ds ≡ map (λ (i : Input). i.vtype) (map as_input ds)
inputs-of [] = refl
inputs-of (d ∷ ds) = ap (λ ts. d.variable.vtype ∷ ts) (inputs-of ds)

-- the types of the inputs in the order of their numbers are those in the order of their declarations
pub same-types : (sort : Sort) (p : Program) → p.inputs ≤ length p.declarations → input_types p sort ≡ types_asked sort p
same-types sort p le =
    let ds = p.declarations in
    map-twice (λ (n : Named). n.1) (λ x. named (name_at ds x) (type_at ds x)) (filter (is_of ds sort) (numbers_from 0 p.inputs))
    ∙ ap (map (λ (n : Named). n.1)) (of-rows ds sort p.inputs 0 ds le (from-front ds)) ∙ types-of (filter (λ d. is sort d.variable) (take p.inputs ds))

pub values-typed : BoundValuesHaveTypes
values-typed text p words numbers args h few e =
    let t = accepted-of-text text p h in
    let d = (typed-table p t.typed).interface.declared in
    let a = typed-names p t.typed in
    let ds = p.declarations in
    let n = length numbers in
    let asked = inputs_asked p in
    let good =
    bound-good asked words numbers few
    (sorted-typed ds p.inputs (λ x lt. t.named.names x (omega (arith, lt))) (λ x y l m. a.inputs_differ x y l m) (λ d. is Sorts.Scalar d.variable)) in
    let typed : AreValues n (map (λ (i : Input). i.vtype) asked) args = subst (λ r. IfOk r (AreValues n (map (λ (i : Input). i.vtype) asked))) e good in
    subst (λ ts. AreValues n ts args) (sym (same-types Sorts.Scalar p (omega (arith, d)) ∙ inputs-of (filter (λ d. is Sorts.Scalar d.variable) (take p.inputs ds)))) typed

along-length : {A : Type 0} (P : VType → A → Type 0) (ts : List VType) (xs : List A) → Along P ts xs → length ts ≡ length xs
along-length P [] [] h = refl
along-length P [] (x ∷ xs) h = absurd h
along-length P (t ∷ ts) [] h = absurd h
along-length P (t ∷ ts) (x ∷ xs) h = ap suc (along-length P ts xs h.1)

pub runs-fit : RunsFit
runs-fit text p words g args r =
    let t = accepted-of-text text p r.stands in
    let table = typed-table p t.typed in
    let scalars = values-typed text p words g.numbers args r.stands r.graph.few_nodes r.bound in
    let d = table.interface.declared in
    let n = length g.numbers in
    let le : p.inputs ≤ length p.declarations = omega (arith, d) in
    let nodes = subst (λ ts. AreColumns n ts g.node_columns) (sym (same-types Sorts.NodeProperty p le)) r.nodes in
    let edges = subst (λ ts. AreColumns n ts g.edge_columns) (sym (same-types Sorts.EdgeProperty p le)) r.edges in
    let has : HasInputs n p g args = record { graph = record { graph = r.graph; nodes = omega arith }; scalars = scalars; nodes = nodes; edges = edges } in
    record {
      has = has;
      fits = asked-fits n p g args has;
      columns = ap length (columns-first p table) ∙ along-length _ (input_types p Sorts.EdgeProperty) g.edge_columns edges;
    }
