-- The whole run has the outcome of the program's course.
use Rattle.std.proofs.Common.{◌≡◌, ◌<◌, ◌≤◌, inl, inr, ℕ, zero, suc, true, false, cond, Option, Some, None, List, [], ◌∷◌, ◌++◌, length, map, refl, ap, ◌∙◌, sym, subst, arith, ⊎_elim}
use Rattle.std.specs.Prelude.{◌+◌, ◌&&◌, ◌||◌, nat_lt, filter, option_map, slice_get, slice_index_or, if◌then◌else◌}
use Rattle.std.specs.List.{flat_map, list_any}
use Rattle.std.proofs.lemmas.Bool.{both_ways, lt-ltb, eq-eqb}
use Rattle.gm_value.specs.declared.values.VType.{VType}
use Rattle.gm_value.specs.declared.values.Value.{Value}
use Rattle.gm_value.specs.Numbers.{zero_of}
use Rattle.gm_value.specs.Bag.{IsIn}
use Rattle.gm_model.specs.Graphs.{NumberedGraph}
use Rattle.gm_model.specs.declared.outcomes.Outcome.TheVariants as outcomes
use Rattle.gm_model.specs.declared.outcomes.RunEnd.{RunEnd}
use Rattle.gm_ast.specs.declared.tree.Sort.{Sort}
use Rattle.gm_ast.specs.declared.tree.Sort.TheVariants as Sorts
use Rattle.gm_ast.specs.declared.tree.Variable.{Variable}
use Rattle.gm_ast.specs.Names.{is}
use Rattle.gm_ast.specs.Program as S
use Rattle.gm_forms.specs.Extends.{run_of, start_of}
use Rattle.gm_forms.specs.Uses.{uses_of}
use Rattle.gm_semantics.specs.Levels.{numbers_from, nodes}
use Rattle.gm_semantics.specs.Outcomes as meaning
use Rattle.gm_semantics.specs.Outcomes.{is_of, outputs_of, outcome_of, result_of, mean}
use Rattle.gm_semantics.specs.Statements.{State, Course, Goes, Returns, Faults, Stops, variable_at, sequential}
use Rattle.gm_image.specs.Program as image
use Rattle.gm_image.specs.Program.{Command, Item, Finish}
use Rattle.gm_machine.specs.Expressions.{value_at}
use Rattle.gm_machine.specs.Machine.{scalars, properties, column_of, done, machine}
use Rattle.gm_lowering.specs.Layouts.{Layout, layout, is_global, nesting, has_field, names_property}
use Rattle.gm_lowering.specs.Lowered.{lowered, items_by, result_at, body_part, whole, start}
use Rattle.gm_lowering.proofs.Own.{global-no_register}
use Rattle.gm_lowering_master.specs.Runs.{Moment, ends_from, StandsAt}
use Rattle.gm_lowering_master.specs.Cells.{Setting, IsSetting, OfResult, IsAt}
use Rattle.gm_lowering_master.specs.Follows.{is_followed, CourseIs, Stands, LoopsGo, ArePoints}
use Rattle.gm_lowering_master.specs.Whole.{has_result, zero_of_result, setting, first_moment, HasInterface, Starts}
use Rattle.gm_lowering_master.proofs.Lines.{lines-lead}
use Rattle.gm_lowering_master.proofs.Shapes.{shape}
use Rattle.gm_lowering_master.proofs.Statements.{follow}

stands-shift : {A : Type 0} (x : A) (all : List A) (i : ℕ) (xs : List A) → StandsAt all i xs → StandsAt (x ∷ all) (suc i) xs
stands-shift x all i [] h = tt
stands-shift x all i (y ∷ ys) h = (h.0, stands-shift x all (suc i) ys h.1)

-- the front of a list stands in it
pub stands-front : {A : Type 0} (xs ys : List A) → StandsAt (xs ++ ys) 0 xs
stands-front [] ys = tt
stands-front (x ∷ xs) ys = (refl, stands-shift x (xs ++ ys) 0 xs (stands-front xs ys))

stands-all : {A : Type 0} (xs : List A) → StandsAt xs 0 xs
stands-all [] = tt
stands-all (x ∷ xs) = (refl, stands-shift x xs 0 xs (stands-all xs))

pub behind-get : {A : Type 0} (xs : List A) (y : A) → slice_get (xs ++ y ∷ []) (length xs) ≡ Some y
behind-get [] y = refl
behind-get (x ∷ xs) y = behind-get xs y

-- a column of fields is what a property has at the nodes
column-is : (f : ℕ → Value) (slot k : ℕ) (fields : List (List Value)) → ((j : ℕ) → j < length fields → value_at (slice_index_or fields j []) slot ≡ f (k + j)) → column_of fields slot ≡ map f (numbers_from k (length fields))
column-is f slot k [] h = refl
column-is f slot k (vs ∷ fields) h =
    ap (λ v. v ∷ column_of fields slot) (h 0 (omega arith) ∙ ap f (let z : k + 0 ≡ k = omega arith in z))
    ∙ ap (λ vs. f k ∷ vs) (column-is f slot (suc k) fields (λ j lt. h (suc j) (omega arith) ∙ ap f (let z : k + suc j ≡ suc k + j = omega arith in z)))

module _ (p : S.Program) where
  abbrev c : Layout
  c = layout p

  abbrev items_of : ℕ → List Item
  items_of x = items_by p (variable_at p.declarations x).sort x

  -- what outputs show of a sort
  outputs-scalars : (globals : List Value) (f : ℕ → Value) (xs : List ℕ) → ((x : ℕ) → IsIn x xs → is Sorts.Scalar (variable_at p.declarations x) ≡ true → value_at globals (c.global x) ≡ f x)
      → map (λ i. value_at globals i.slot) (scalars (flat_map items_of xs)) ≡ map f (filter (is_of p.declarations Sorts.Scalar) xs)
  outputs-scalars globals f [] h = refl
  outputs-scalars globals f (x ∷ xs) h = by (variable_at p.declarations x).sort refl (outputs-scalars globals f xs (λ y i. h y (inr i))) where
    by : (sort : Sort) → (variable_at p.declarations x).sort ≡ sort → map (λ i. value_at globals i.slot) (scalars (flat_map items_of xs)) ≡ map f (filter (is_of p.declarations Sorts.Scalar) xs)
        → map (λ i. value_at globals i.slot) (scalars (items_by p sort x ++ flat_map items_of xs)) ≡ map f (cond (is Sorts.Scalar (record (variable_at p.declarations x) { sort = sort })) (x ∷ filter (is_of p.declarations Sorts.Scalar) xs) (filter (is_of p.declarations Sorts.Scalar) xs))
    by Sorts.Scalar e rest = ap (λ v. v ∷ map (λ i. value_at globals i.slot) (scalars (flat_map items_of xs))) (h x (inl refl) (ap (λ z. is Sorts.Scalar (record (variable_at p.declarations x) { sort = z })) e)) ∙ ap (λ vs. f x ∷ vs) rest
    by Sorts.NodeProperty e rest = rest
    by Sorts.EdgeProperty e rest = rest
    by Sorts.Graph e rest = rest
    by Sorts.Iterator e rest = rest
    by Sorts.Edge e rest = rest

  outputs-columns : (fields : List (List Value)) (f : ℕ → List Value) (xs : List ℕ) → ((x : ℕ) → IsIn x xs → is Sorts.NodeProperty (variable_at p.declarations x) ≡ true → column_of fields (c.field x) ≡ f x)
      → map (λ i. column_of fields i.slot) (properties (flat_map items_of xs)) ≡ map f (filter (is_of p.declarations Sorts.NodeProperty) xs)
  outputs-columns fields f [] h = refl
  outputs-columns fields f (x ∷ xs) h = by (variable_at p.declarations x).sort refl (outputs-columns fields f xs (λ y i. h y (inr i))) where
    by : (sort : Sort) → (variable_at p.declarations x).sort ≡ sort → map (λ i. column_of fields i.slot) (properties (flat_map items_of xs)) ≡ map f (filter (is_of p.declarations Sorts.NodeProperty) xs)
        → map (λ i. column_of fields i.slot) (properties (items_by p sort x ++ flat_map items_of xs)) ≡ map f (cond (is Sorts.NodeProperty (record (variable_at p.declarations x) { sort = sort })) (x ∷ filter (is_of p.declarations Sorts.NodeProperty) xs) (filter (is_of p.declarations Sorts.NodeProperty) xs))
    by Sorts.NodeProperty e rest = ap (λ v. v ∷ map (λ i. column_of fields i.slot) (properties (flat_map items_of xs))) (h x (inl refl) (ap (λ z. is Sorts.NodeProperty (record (variable_at p.declarations x) { sort = z })) e)) ∙ ap (λ vs. f x ∷ vs) rest
    by Sorts.Scalar e rest = rest
    by Sorts.EdgeProperty e rest = rest
    by Sorts.Graph e rest = rest
    by Sorts.Iterator e rest = rest
    by Sorts.Edge e rest = rest

in-numbers : (k n x : ℕ) → IsIn x (numbers_from k n) → (k ≤ x) × (x < k + n)
in-numbers k zero x i = absurd i
in-numbers k (suc n) x i = ⊎_elim
    (λ (e : x ≡ k). (omega (arith, e), omega (arith, e)))
    (λ (j : IsIn x (numbers_from (suc k) n)). let q = in-numbers (suc k) n x j in let a : suc k ≤ x = q.0 in let b : x < suc k + n = q.1 in (omega (arith, a), omega (arith, b)))
    i

-- a variable outside of loops that is a scalar is one of the procedure
pub outside-global : (v : Variable) → v.depth ≡ 0 → is Sorts.Scalar v ≡ true → is_global v ≡ true
outside-global v e h = ap (λ b. b && (is Sorts.Scalar v || is Sorts.Iterator v)) (eq-eqb v.depth 0 e) ∙ ap (λ b. b || is Sorts.Iterator v) h

module _ (p : S.Program) (g : NumberedGraph) (args : List Value) (bound : ℕ) (face : HasInterface p) (is' : IsSetting (setting p g bound)) (starts : Starts p g args bound) where
  abbrev s : Setting
  s = setting p g bound

  abbrev program : image.Program
  program = lowered p

  finish-is : (setting p g bound).frame.finish ≡ length (whole p).commands
  finish-is = (shape (layout p) 0 (length (body_part p 0).commands) p.body start).commands

  -- the outputs of a moment at the end
  done-is : (m : Moment) (state : State) (v : Option Value) → IsAt s m state → option_map (λ r. value_at m.control.globals r.1) program.result ≡ result_of p.result v
      → done program m.control m.nodes.fields ≡ meaning.done p g v state
  done-is m state v at result =
      ap (λ a. outcomes.Done a (option_map (λ r. value_at m.control.globals r.1) program.result) (map (λ i. column_of m.nodes.fields i.slot) (properties program.outputs)) m.control.turns)
      (outputs-scalars p m.control.globals state.store.scalar (numbers_from p.inputs p.outputs) scalar-at)
      ∙ ap (λ a. outcomes.Done (map state.store.scalar (outputs_of p Sorts.Scalar)) a (map (λ i. column_of m.nodes.fields i.slot) (properties program.outputs)) m.control.turns) result
      ∙ ap (λ a. outcomes.Done (map state.store.scalar (outputs_of p Sorts.Scalar)) (result_of p.result v) a m.control.turns)
      (outputs-columns p m.nodes.fields (λ x. map (state.store.node x) (nodes g)) (numbers_from p.inputs p.outputs) column-at)
      ∙ ap (λ a. outcomes.Done (map state.store.scalar (outputs_of p Sorts.Scalar)) (result_of p.result v) (map (λ x. map (state.store.node x) (nodes g)) (outputs_of p Sorts.NodeProperty)) a) at.turns
    where
      scalar-at : (x : ℕ) → IsIn x (numbers_from p.inputs p.outputs) → is Sorts.Scalar (variable_at p.declarations x) ≡ true → value_at m.control.globals ((layout p).global x) ≡ state.store.scalar x
      scalar-at x i h =
          let q = in-numbers p.inputs p.outputs x i in
          let low : x < p.inputs + p.outputs = q.1 in
          let few : p.inputs + p.outputs ≤ length p.declarations = face.declared in
          let v = variable_at p.declarations x in
          let o : is_global v ≡ true = outside-global v (face.outside x low) h in
          sym (ap (λ b. if b then value_at m.control.globals ((layout p).global x) else zero_of v.vtype) o)
          ∙ at.between.shown.scalars x (omega (arith, low, few)) (global-no_register v o) (ap (λ b. b || is Sorts.Iterator v) h)

      column-at : (x : ℕ) → IsIn x (numbers_from p.inputs p.outputs) → is Sorts.NodeProperty (variable_at p.declarations x) ≡ true → column_of m.nodes.fields ((layout p).field x) ≡ map (state.store.node x) (nodes g)
      column-at x i h =
          let q = in-numbers p.inputs p.outputs x i in
          let kept : has_field p x ≡ true = ap (λ b. b && (nat_lt x (p.inputs + p.outputs) || list_any (names_property x) (uses_of p.body))) h ∙ ap (λ b. b || list_any (names_property x) (uses_of p.body)) (lt-ltb x (p.inputs + p.outputs) q.1) in
          column-is (state.store.node x) ((layout p).field x) 0 m.nodes.fields
          (λ j lt. at.between.shown.properties j (subst (λ n. j < n) at.between.shown.all_nodes lt) x kept ∙ ap (state.store.node x) (let z : j ≡ 0 + j = omega arith in z))
          ∙ ap (λ n. map (state.store.node x) (numbers_from 0 n)) at.between.shown.all_nodes

  -- the result that was kept, or set
  result-kept : (globals : List Value) → (has_result p.result ≡ true → value_at globals (layout p).result ≡ zero_of_result p.result) → option_map (λ r. value_at globals r.1) program.result ≡ result_of p.result None
  result-kept globals h = by p.result h where
    by : (o : Option VType) → (has_result o ≡ true → value_at globals (layout p).result ≡ zero_of_result o) → option_map (λ r. value_at globals r.1) (result_at (layout p).result o) ≡ result_of o None
    by None h = refl
    by (Some t) h = ap Some (h refl)

  result-set : (globals : List Value) (v : Value) → has_result p.result ≡ true → value_at globals (layout p).result ≡ v → option_map (λ r. value_at globals r.1) program.result ≡ result_of p.result (Some v)
  result-set globals v h e = by p.result h where
    by : (o : Option VType) → has_result o ≡ true → option_map (λ r. value_at globals r.1) (result_at (layout p).result o) ≡ result_of o (Some v)
    by None h = absurd (both_ways false refl h)
    by (Some t) h = ap Some e

  -- a run at the last line ends
  at-finish : (m : Moment) → (ends_from program g (length (whole p).commands) m).outcome ≡ done program m.control m.nodes.fields
  at-finish m = ap (λ e. e.outcome) (lines-lead program g (length (whole p).commands) Finish m (behind-get (whole p).commands Finish))

  course-ends : (e : RunEnd) (course : Course) → CourseIs s 0 (0 + length (whole p).commands) (first_moment p g args bound) e course → e.outcome ≡ outcome_of p g bound course
  course-ends e (Goes state) h =
      ap (λ x. x.outcome) h.1 ∙ ap (λ i. (ends_from program g i h.0).outcome) (let z : 0 + length (whole p).commands ≡ length (whole p).commands = omega arith in z)
      ∙ at-finish h.0 ∙ done-is h.0 state None h.2 (result-kept h.0.control.globals (λ o. h.3 OfResult refl o ∙ starts.result o))
  course-ends e (Returns None state) h =
      ap (λ x. x.outcome) h.1 ∙ ap (λ i. (ends_from program g i h.0).outcome) finish-is ∙ at-finish h.0 ∙ done-is h.0 state None h.2 (result-kept h.0.control.globals (λ o. h.3 o ∙ starts.result o))
  course-ends e (Returns (Some v) state) h =
      ap (λ x. x.outcome) h.1 ∙ ap (λ i. (ends_from program g i h.0).outcome) finish-is ∙ at-finish h.0 ∙ done-is h.0 state (Some v) h.2 (result-set h.0.control.globals v h.3.0 h.3.1)
  course-ends e (Faults f) h = h
  course-ends e Stops h = h

  whole-stands : Stands s start (whole p)
  whole-stands = record {
    within = subst (λ n. 0 + length (whole p).commands ≤ n) (sym finish-is) (omega arith);
    commands = stands-front (whole p).commands (Finish ∷ []);
    blocks = stands-all (whole p).blocks;
    places = stands-all (whole p).places;
  }

-- a run from a first moment that shows the first state
pub run-followed : (p : S.Program) (g : NumberedGraph) (args : List Value) (bound : ℕ) → HasInterface p → IsSetting (setting p g bound) → Starts p g args bound
    → is_followed (layout p) (has_result p.result) p.body ≡ true → LoopsGo (setting p g bound) p.body start → ArePoints (setting p g bound) [] p.body (start_of p g args)
    → (machine (lowered p) g args bound).outcome ≡ mean p g args bound
run-followed p g args bound face is' starts h loops reach =
    course-ends p g args bound face is' starts (ends_from (lowered p) g 0 (first_moment p g args bound)) (sequential p.body (run_of p g bound) (start_of p g args))
    (follow (setting p g bound) is' p.body start [] (first_moment p g args bound) (start_of p g args) h (let z : 0 + nesting p.body ≤ nesting p.body = omega arith in z) (whole-stands p g args bound face is' starts) loops reach starts.at)
