-- A table that differs from another in the depths of iterators alone: programs mean the same with it.
use Rattle.std.proofs.Common.{◌≡◌, ℕ, zero, suc, cond, List, [], ◌∷◌, map, filter, length, refl, sym, ap, subst, ◌∙◌, Option, Some, None}
use Rattle.std.proofs.Math.Path.{fun_ext}
use Rattle.std.specs.Prelude.{nat_lt, slice_index_or}
use Rattle.gm_value.specs.declared.values.VType.{VType}
use Rattle.gm_value.specs.declared.values.Value.{Value}
use Rattle.gm_value.specs.declared.values.Value.TheVariants.{At}
use Rattle.gm_value.specs.Numbers.{zero_of, IsOf}
use Rattle.gm_value.specs.Operations.{is_true}
use Rattle.gm_model.specs.Graphs.{NumberedGraph}
use Rattle.gm_model.specs.declared.outcomes.Outcome.TheVariants.{Done}
use Rattle.gm_ast.specs.declared.tree.Declaration.{Declaration}
use Rattle.gm_ast.specs.declared.tree.Key.{Key}
use Rattle.gm_ast.specs.declared.tree.Sort.{Sort}
use Rattle.gm_ast.specs.declared.tree.Sort.TheVariants as Sorts
use Rattle.gm_ast.specs.declared.tree.Target.{Target}
use Rattle.gm_ast.specs.declared.tree.Target.TheVariants as T
use Rattle.gm_ast.specs.Names.{sort_eq}
use Rattle.gm_ast.specs.Program.{Expr, Stmt, Skip, Then, Declare, DeclareEdge, Assign, Defer, Combine, Group, Foreach, For, If, While, Do, InBfs, InBfsBoth, Return, Program}
use Rattle.gm_semantics.specs.declared.slots.Slot.TheVariants.{Scalar}
use Rattle.gm_semantics.specs.Levels.{numbers_from, nodes, no_levels}
use Rattle.gm_semantics.specs.Stores.{Store, write}
use Rattle.gm_semantics.specs.Expressions.{Answer, value, steps_in}
use Rattle.gm_semantics.specs.Iterations.{Loop, Iteration, Mode, Outermost, AtEdge, view_in, later, ends_of, ends_of_all, scalar_ends, wrote, with_ok, go_on, one_way, reduced, inner_done, turn_at, does}
use Rattle.gm_semantics.specs.Loops.{loop_done, parallel}
use Rattle.gm_semantics.specs.Statements.{Run, State, Course, Goes, Returns, Faults, Stops, variable_at, loop_of, view_of, with_value, then_do, either_way, begin_turn, repeated, in_turns, with_store, declared, loops, sequential}
use Rattle.gm_semantics.specs.Outcomes.{is_of, count_before, input_value, column_value, first_store, outputs_of, result_of, done, outcome_of}
use Rattle.gm_forms.specs.Meanings.{Fits, SameMeaning}
use Rattle.gm_forms.specs.Extends.{run_of, start_of}
use Rattle.gm_forms.proofs.Courses.{then_do-both, with_value-each, either_way-each, begin_turn-each, repeated-each, in_turns-each}
use Rattle.gm_forms.specs.Forms.{depth_at}
use Rattle.gm_forms.specs.Typing.{type_at}
use Rattle.gm_parting.proofs.PlacedFacts.{FitAt, FitAll, Fit}

module _ (ds dt : List Declaration) (types : (x : ℕ) → type_at dt x ≡ type_at ds x) where
  module _ (l : Loop) (depth : ℕ → ℕ) (vtype : ℕ → VType) (same_depth : (x : ℕ) → depth_at dt x ≡ depth_at ds x → depth x ≡ l.depth x) (same_type : (x : ℕ) → vtype x ≡ l.vtype x) where
    abbrev other : Loop
    other = record l { depth = depth; vtype = vtype }

    ends-table : (m : Mode) (t : Target) → FitAt ds dt t → ends_of m other t ≡ ends_of m l t
    ends-table m (T.Scalar x at) b = ap (scalar_ends m) (same_depth x b)
    ends-table m (T.Property x p at) b = refl

    all-ends-table : (m : Mode) (ts : List Target) → FitAll ds dt ts → ends_of_all m other ts ≡ ends_of_all m l ts
    all-ends-table m [] b = refl
    all-ends-table m (t ∷ ts) b = ap (λ e. later e (ends_of_all m other ts)) (ends-table m t b.0) ∙ ap (later (ends_of m l t)) (all-ends-table m ts b.1)

    does-table : (s : Stmt) (m : Mode) (it : Iteration) → Fit ds dt s → does s m other it ≡ does s m l it
    does-table Skip m it b = refl
    does-table (Then s u) m it b = ap (λ i. go_on i (does u m other)) (does-table s m it b.0) ∙ ap (go_on (does s m l it)) (fun_ext (λ i. does-table u m i b.1))
    does-table (Declare key x None) m it b = ap (λ t. wrote it (Scalar x, zero_of t)) (same_type x)
    does-table (Declare key x (Some e)) m it b = refl
    does-table (DeclareEdge x y at) m it b = refl
    does-table (Assign key t e) m it b = refl
    does-table (Defer key t e) Outermost it b = refl
    does-table (Defer key t e) (AtEdge e') it b = refl
    does-table (Combine key total r ts es) m it b = ap (λ x. reduced x (view_in l m it key) it total r ts es) (all-ends-table m ts b.0)
    does-table (Group key at g p e) m it b = refl
    does-table (Foreach key at head test body) Outermost it b =
        ap (λ (f : Mode → Iteration → Iteration). inner_done it (map (λ step. turn_at l (AtEdge step.edge) key test (f (AtEdge step.edge)) head.iterator step.node it.store) (steps_in (view_in l Outermost it key) head)))
        (fun_ext (λ m. fun_ext (λ i. does-table body m i b.3)))
    does-table (Foreach key at head test body) (AtEdge e) it b = refl
    does-table (For key at head test body) m it b = refl
    does-table (If key c s u) m it b =
        ap (λ (f : Iteration → Iteration). with_ok it (value c (view_in l m it key)) (λ v. one_way (is_true v) f (does u m other) it)) (fun_ext (λ i. does-table s m i b.1))
        ∙ ap (λ (f : Iteration → Iteration). with_ok it (value c (view_in l m it key)) (λ v. one_way (is_true v) (does s m l) f it)) (fun_ext (λ i. does-table u m i b.2))
    does-table (While key at c body) m it b = refl
    does-table (Do key at body c) m it b = refl
    does-table (InBfs key at search c body) m it b = refl
    does-table (InBfsBoth key at search c body back_key d back) m it b = refl
    does-table (Return key at e) m it b = refl

    parallel-table : (key : Key) (test : Expr) (body : Stmt) (ks : List ℕ) (s : Store) → Fit ds dt body → parallel other key test body ks s ≡ parallel l key test body ks s
    parallel-table key test body ks s b =
        ap (λ (f : Iteration → Iteration). loop_done s ks (map (λ n. turn_at l Outermost key test f l.outer n s) ks)) (fun_ext (λ i. does-table body Outermost i b))

  -- a run with the other table
  module _ (graph : NumberedGraph) (bound : ℕ) (sorts : (x : ℕ) → (variable_at dt x).sort ≡ (variable_at ds x).sort) where
    abbrev run : Run
    run = record { graph = graph; declarations = ds; bound = bound }

    abbrev moved : Run
    moved = record run { declarations = dt }

    -- turns are counted alike
    repeated-table : (n : ℕ) (test : State → Answer) (f : State → Course) (t : State) → repeated n moved test f t ≡ repeated n run test f t
    repeated-table zero test f t = refl
    repeated-table (suc n) test f t =
        ap (λ (g : State → Course). with_value (test t) (λ v. either_way (is_true v) (begin_turn run (λ u. then_do (f u) g)) Goes t)) (fun_ext (repeated-table n test f))

    in_turns-table : {A : Type 0} (xs : List A) (f : A → State → Course) (t : State) → in_turns moved xs f t ≡ in_turns run xs f t
    in_turns-table [] f t = refl
    in_turns-table (x ∷ xs) f t = ap (λ (g : State → Course). begin_turn run (λ u. then_do (f x u) g) t) (fun_ext (in_turns-table xs f))

    loops-table : (ls : ℕ → Option ℕ) (x : ℕ) (key : Key) (test : Expr) (body : Stmt) (ks : List ℕ) (s : State) → Fit ds dt body → loops moved ls x key test body ks s ≡ loops run ls x key test body ks s
    loops-table ls x key test body ks s b =
        ap (λ r. with_value r (with_store s))
        (parallel-table (loop_of run ls x body) (λ y. depth_at dt y) (λ y. type_at dt y) (λ y e. e) types key test body ks s.store b)

    pub sequential-table : (s : Stmt) (t : State) → Fit ds dt s → sequential s moved t ≡ sequential s run t
    sequential-table Skip t b = refl
    sequential-table (Then a c) t b = then_do-both (sequential a moved t) (sequential a run t) (sequential c moved) (sequential c run) (sequential-table a t b.0) (λ u. sequential-table c u b.1)
    sequential-table (Declare key x None) t b = ap (λ z. with_store t (declared z (type_at dt x) x t.store)) (sorts x) ∙ ap (λ y. with_store t (declared (variable_at ds x).sort y x t.store)) (types x)
    sequential-table (Declare key x (Some e)) t b = refl
    sequential-table (DeclareEdge x y at) t b = refl
    sequential-table (Assign key g e) t b = refl
    sequential-table (Defer key g e) t b = refl
    sequential-table (Combine key total r ts es) t b = refl
    sequential-table (Group key at g p e) t b = absurd b
    sequential-table (Foreach key at head test body) t b = loops-table no_levels head.iterator key test body (nodes run.graph) t b.3
    sequential-table (For key at head test body) t b =
        in_turns-table (nodes run.graph) _ t ∙ in_turns-each run (nodes run.graph) _ _ (λ n u.
        let at : State = record u { store = write u.store (Scalar head.iterator) (At (Some n)) } in
        with_value-each (value test (view_of run at key)) _ _ (λ v. either_way-each (is_true v) (sequential body moved) (sequential body run) Goes Goes at (λ w. sequential-table body w b.3) (λ w. refl))) t
    sequential-table (If key c a d) t b =
        with_value-each (value c (view_of run t key)) _ _ (λ v. either_way-each (is_true v) (sequential a moved) (sequential a run) (sequential d moved) (sequential d run) t (λ u. sequential-table a u b.1) (λ u. sequential-table d u b.2))
    sequential-table (While key at c body) t b =
        repeated-table (suc run.bound) (λ u. value c (view_of run u key)) (sequential body moved) t ∙ repeated-each (suc run.bound) run (λ u. value c (view_of run u key)) (sequential body moved) (sequential body run) (λ u. sequential-table body u b.1) t
    sequential-table (Do key at body c) t b =
        begin_turn-each run _ _ (λ u. then_do-both (sequential body moved u) (sequential body run u) _ _ (sequential-table body u b.0)
        (λ w. repeated-table (suc run.bound) (λ u. value c (view_of run u key)) (sequential body moved) w ∙ repeated-each (suc run.bound) run (λ w. value c (view_of run w key)) (sequential body moved) (sequential body run) (λ w. sequential-table body w b.0) w)) t
    sequential-table (InBfs key at h c body) t b = absurd b
    sequential-table (InBfsBoth key at h c body back_key d back) t b = absurd b
    sequential-table (Return key at None) t b = refl
    sequential-table (Return key at (Some e)) t b = refl

-- ---- programs

-- a program with the other table
module _ (p : Program) (dt : List Declaration) (types : (x : ℕ) → type_at dt x ≡ type_at p.declarations x) (sorts : (x : ℕ) → (variable_at dt x).sort ≡ (variable_at p.declarations x).sort) (fit : Fit p.declarations dt p.body) where
  abbrev ds : List Declaration
  ds = p.declarations

  abbrev q : Program
  q = record p { declarations = dt }

  same-sorts : (sort : Sort) → is_of dt sort ≡ is_of ds sort
  same-sorts sort = fun_ext (λ x. ap (sort_eq sort) (sorts x))

  same-count : (sort : Sort) (x : ℕ) → count_before dt sort x ≡ count_before ds sort x
  same-count sort x = ap (λ f. length (filter f (numbers_from 0 x))) (same-sorts sort)

  same-inputs : (sort : Sort) (values : List Value) → input_value q sort values ≡ input_value p sort values
  same-inputs sort values = fun_ext (λ x.
      ap (λ t. cond (nat_lt x p.inputs) (slice_index_or values (count_before dt sort x) (zero_of t)) (zero_of t)) (types x)
      ∙ ap (λ n. cond (nat_lt x p.inputs) (slice_index_or values n (zero_of (type_at ds x))) (zero_of (type_at ds x))) (same-count sort x))

  same-columns : (sort : Sort) (columns : List (List Value)) → column_value q sort columns ≡ column_value p sort columns
  same-columns sort columns = fun_ext (λ x. fun_ext (λ row.
      ap (λ t. cond (nat_lt x p.inputs) (slice_index_or (slice_index_or columns (count_before dt sort x) []) row (zero_of t)) (zero_of t)) (types x)
      ∙ ap (λ n. cond (nat_lt x p.inputs) (slice_index_or (slice_index_or columns n []) row (zero_of (type_at ds x))) (zero_of (type_at ds x))) (same-count sort x)))

  same-store : (g : NumberedGraph) (args : List Value) → first_store q g args ≡ first_store p g args
  same-store g args =
      ap (λ f. record { scalar = f; node = column_value q Sorts.NodeProperty g.node_columns; edge = column_value q Sorts.EdgeProperty g.edge_columns }) (same-inputs Sorts.Scalar args)
      ∙ ap (λ f. record { scalar = input_value p Sorts.Scalar args; node = f; edge = column_value q Sorts.EdgeProperty g.edge_columns }) (same-columns Sorts.NodeProperty g.node_columns)
      ∙ ap (λ f. record { scalar = input_value p Sorts.Scalar args; node = column_value p Sorts.NodeProperty g.node_columns; edge = f }) (same-columns Sorts.EdgeProperty g.edge_columns)

  of-type : (x : ℕ) (u v : Value) → v ≡ u → IsOf (type_at ds x) u → IsOf (type_at dt x) v
  of-type x u v e h = subst (λ t. IsOf t v) (sym (types x)) (subst (IsOf (type_at ds x)) (sym e) h)

  same-fits : (g : NumberedGraph) (args : List Value) → Fits p g args → Fits q g args
  same-fits g args h =
      let e = same-store g args in
      record {
        graph = h.graph;
        scalars = λ x b sort. of-type x ((first_store p g args).scalar x) ((first_store q g args).scalar x) (ap (λ (s : Store). s.scalar x) e) (h.scalars x b (sym (ap (λ f. f x) (same-sorts Sorts.Scalar)) ∙ sort));
        nodes = λ x n b sort. of-type x ((first_store p g args).node x n) ((first_store q g args).node x n) (ap (λ (s : Store). s.node x n) e) (h.nodes x n b (sym (ap (λ f. f x) (same-sorts Sorts.NodeProperty)) ∙ sort));
        edges = λ x n b sort. of-type x ((first_store p g args).edge x n) ((first_store q g args).edge x n) (ap (λ (s : Store). s.edge x n) e) (h.edges x n b (sym (ap (λ f. f x) (same-sorts Sorts.EdgeProperty)) ∙ sort));
      }

  same-outputs : (sort : Sort) → outputs_of q sort ≡ outputs_of p sort
  same-outputs sort = ap (λ f. filter f (numbers_from p.inputs p.outputs)) (same-sorts sort)

  same-done : (g : NumberedGraph) (v : Option Value) (s : State) → done q g v s ≡ done p g v s
  same-done g v s =
      ap (λ xs. Done (map s.store.scalar xs) (result_of p.result v) (map (λ x. map (s.store.node x) (nodes g)) (outputs_of q Sorts.NodeProperty)) s.turns) (same-outputs Sorts.Scalar)
      ∙ ap (λ xs. Done (map s.store.scalar (outputs_of p Sorts.Scalar)) (result_of p.result v) (map (λ x. map (s.store.node x) (nodes g)) xs) s.turns) (same-outputs Sorts.NodeProperty)

  same-outcome : (g : NumberedGraph) (bound : ℕ) (c : Course) → outcome_of q g bound c ≡ outcome_of p g bound c
  same-outcome g bound (Goes s) = same-done g None s
  same-outcome g bound (Returns v s) = same-done g v s
  same-outcome g bound (Faults f) = refl
  same-outcome g bound Stops = refl

  pub same-placed : SameMeaning p (record p { declarations = dt })
  same-placed = record {
    fits = same-fits;
    same = λ g args bound h.
        same-outcome g bound (sequential p.body (run_of q g bound) (start_of q g args))
        ∙ ap (λ st. outcome_of p g bound (sequential p.body (run_of q g bound) (record { store = st; turns = 0 }))) (same-store g args)
        ∙ ap (outcome_of p g bound) (sequential-table ds dt types g bound sorts p.body (start_of p g args) fit);
  }
