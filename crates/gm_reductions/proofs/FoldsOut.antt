-- A program with its reductions as loops: it means the same, and is ready for the next pass.
use Rattle.std.proofs.Common.{◌≡◌, ◌≤◌, ℕ, Bool, true, false, List, [], ◌∷◌, ◌++◌, map, refl, sym, ap, subst, ◌∙◌, arith, ⊎_elim, inl, inr, Option, Some, None}
use Rattle.std.specs.Prelude.{◌⊎◌, ◌&&◌, ◌||◌, nat_eq, nat_le, nat_lt}
use Rattle.std.specs.List.{list_all}
use Rattle.std.proofs.lemmas.Bool.{both_ways, or_left, eqb-true, leb-true}
use Rattle.gm_base.specs.declared.places.Place.{Place}
use Rattle.gm_value.specs.declared.values.VType.{VType}
use Rattle.gm_value.specs.declared.values.VType.TheVariants as V
use Rattle.gm_value.specs.declared.values.Value.{Value}
use Rattle.gm_value.specs.Bag.{IsIn}
use Rattle.gm_value.specs.Reductions.{reduces}
use Rattle.gm_model.specs.Graphs.{NumberedGraph}
use Rattle.gm_ast.specs.declared.tree.Declaration.{Declaration}
use Rattle.gm_ast.specs.declared.tree.Domain.TheVariants.{Nodes}
use Rattle.gm_ast.specs.declared.tree.Fold.{Fold}
use Rattle.gm_ast.specs.declared.tree.Head.{Head}
use Rattle.gm_ast.specs.declared.tree.Key.{Key}
use Rattle.gm_ast.specs.declared.tree.Target.{Target}
use Rattle.gm_ast.specs.declared.tree.Target.TheVariants as T
use Rattle.gm_ast.specs.Keys as K
use Rattle.gm_ast.specs.Keys.{fault_lt}
use Rattle.gm_ast.specs.Loops.{is_nodes}
use Rattle.gm_ast.specs.Program.{Expr, Const, Folded, Stmt, Skip, Then, Declare, Assign, Foreach, For, If, While, Do, Program, sequence}
use Rattle.gm_semantics.specs.declared.slots.Slot.TheVariants.{Scalar}
use Rattle.gm_semantics.specs.Stores.{write}
use Rattle.gm_semantics.specs.Expressions.{reduce_of, evaluated, value}
use Rattle.gm_semantics.specs.Statements.{Run, State, Goes, view_of, with_value, with_store, then_do, sequential}
use Rattle.gm_forms.specs.Forms.{depth_at, is_within, is_told, may}
use Rattle.gm_forms.specs.Meanings.{SameMeaning}
use Rattle.gm_forms.specs.Order.{fault_of, are_numbered, cannot_fail, leads, begins, rest_in, hoisted_in, hoists_in_order, faults_in, fold_fault, in_order, lie_before, body_in_order, faults_of, loop_in_order, folds_in_order}
use Rattle.gm_forms.specs.Ready.{is_outer_expr, is_outer_code, is_phase_expr, is_phase_code, is_checked}
use Rattle.gm_forms.specs.Typing.{type_at, type_if, is_type, takes, type_in, has_type, is_typed_in}
use Rattle.gm_forms.specs.Uses.{Written, suits, use_as, uses_in, uses_of_head, uses_of, is_named}
use Rattle.gm_forms.specs.Sharing.{shares}
use Rattle.gm_forms.proofs.CutLaws.{lies-in}
use Rattle.gm_forms.proofs.CutTests.{not-true}
use Rattle.gm_forms.proofs.Doings.{in-left, in-right}
use Rattle.gm_forms.proofs.Leading.{numbered-both}
use Rattle.gm_forms.proofs.Named.{both-true, all-append}
use Rattle.gm_forms.proofs.Weaker.{and-true}
use Rattle.gm_desugar.specs.Compounds.{has_no_compounds_in, has_no_compounds}
use Rattle.gm_desugar.specs.Conditions.{has_told_conditions}
use Rattle.gm_desugar.specs.Groups.{has_no_groups}
use Rattle.gm_desugar.specs.Literals.{has_literals, all_exprs_in, all_exprs}
use Rattle.gm_desugar.specs.Reads.{names, is_read, is_single, stays_alone, has_reads_apart}
use Rattle.gm_desugar.specs.Stages.{WithoutGroups, WithoutCompounds, WithLiterals, WithConditions, WithReadsApart}
use Rattle.gm_desugar.proofs.Alike.{then-goes}
use Rattle.gm_desugar.proofs.ConditionsLaws.{written-scalar}
use Rattle.gm_desugar.proofs.Fewer.{lie-from, numbered-in}
use Rattle.gm_desugar.proofs.Replacing.{append-true, is-type, type-itself, expr-same, ForPhase, phase-same, phase-then, phase-for, phase-if, phase-while, phase-do, means-same, ready-same}
use Rattle.gm_reductions.specs.Accesses.{has_no_accesses}
use Rattle.gm_reductions.specs.Folds.{unit_for, given, looped, assigned_out, declared_out, folds_out, without_folds, has_no_folds}
use Rattle.gm_reductions.specs.Keys.{key_lt, keys_in, all_under, all_over, rises, all_rise}
use Rattle.gm_reductions.specs.Phases.{has_no_picks, KeepsNoPicks}
use Rattle.gm_reductions.specs.Stages.{WithRisingKeys, WithoutAccesses, WithoutFolds, WithLoopsAlone}
use Rattle.gm_reductions.proofs.FaultKeys.{under-key, keys-rise, all-under, numbered-after, numbered-from}
use Rattle.gm_reductions.proofs.FoldsLaws.{faults-key, unit-typed, all-nodes, given-named, given-typed, given-form, given-compounds, given-literals, given-order, given-faults, given-shares}
use Rattle.gm_reductions.proofs.Looping.{loop-alike}
use Rattle.gm_reductions.proofs.Unnamed.{neither-named}

if-typed : (b : Bool) (u t : VType) → type_if b u ≡ Some t → (b ≡ true) × (u ≡ t)
if-typed true u t h = (refl, let same : Some u ≡ Some t = h in cc)
if-typed false u t h = absurd (let bad : None ≡ Some t = h in cc)

-- a scalar that is set to a reduction which does not name it
module _ (ds : List Declaration) (res : Option VType) (x : ℕ) (f : Fold) (h : Head) (test e : Expr) (outside : depth_at ds x ≡ 0) (unnamed : names x (Folded f h test e) ≡ false) (rising : rises (Folded f h test e) ≡ true) where
  abbrev at_end : Stmt
  at_end = Foreach f.filter f.total.shown h test (given f.word f x e)

  names-parts : (names x test ≡ false) × (names x e ≡ false)
  names-parts = neither-named (names x test) (names x e) (neither-named (nat_eq h.owner x) (names x test || names x e) unnamed).1

  rise : (all_under f.filter (keys_in test) ≡ true) × (all_over f.filter (keys_in e) ≡ true) × (all_under f.body (keys_in e) ≡ true) × (key_lt f.filter f.body ≡ true) × (key_lt f.body f.total.key ≡ true)
  rise =
      let a = both-true (all_under f.filter (keys_in test)) _ rising in
      let b = both-true (all_over f.filter (keys_in e)) _ a.1 in
      let c = both-true (all_under f.body (keys_in e)) _ b.1 in
      let d = both-true (key_lt f.filter f.body) (key_lt f.body f.total.key) c.1 in
      (a.0, b.0, c.0, d.0, d.1)

  loop-named : list_all (suits ds) (use_as Written x) ≡ true → list_all (suits ds) (uses_of_head h ++ (uses_in test ++ uses_in e)) ≡ true → list_all (suits ds) (uses_of at_end ++ []) ≡ true
  loop-named s n =
      let a = all-append (suits ds) (uses_of_head h) (uses_in test ++ uses_in e) n in
      let b = all-append (suits ds) (uses_in test) (uses_in e) a.1 in
      append-true (suits ds) (uses_of at_end) []
      (append-true (suits ds) (uses_of_head h) (uses_in test ++ uses_of (given f.word f x e)) a.0
      (append-true (suits ds) (uses_in test) (uses_of (given f.word f x e)) b.0 (given-named ds res x outside f e f.word s b.1))) refl

  -- the types of what the scalar is set to
  typed-parts : has_type ds (type_at ds x) (Folded f h test e) ≡ true →
      (is_type V.Flag (type_in ds test) ≡ true) × (is_type (takes f.word f.vtype) (type_in ds e) ≡ true) × (reduces (reduce_of f.word) f.vtype ≡ true) × (type_at ds x ≡ f.vtype)
  typed-parts t =
      let a = if-typed (is_type V.Flag (type_in ds test) && (is_type (takes f.word f.vtype) (type_in ds e) && reduces (reduce_of f.word) f.vtype)) f.vtype (type_at ds x) (is-type (type_at ds x) (type_in ds (Folded f h test e)) t) in
      let b = both-true (is_type V.Flag (type_in ds test)) _ a.0 in
      let c = both-true (is_type (takes f.word f.vtype) (type_in ds e)) _ b.1 in
      (b.0, c.0, c.1, sym a.1)

  unit-has : type_at ds x ≡ f.vtype → has_type ds (type_at ds x) (Const (unit_for f)) ≡ true
  unit-has s = ap (is_type (type_at ds x)) (unit-typed ds (reduce_of f.word) f.vtype ∙ ap Some (sym s)) ∙ type-itself (type_at ds x)

  loop-typed : has_type ds (type_at ds x) (Folded f h test e) ≡ true → (has_type ds (type_at ds x) (Const (unit_for f)) ≡ true) × (is_typed_in ds res at_end && true ≡ true)
  loop-typed t =
      let q = typed-parts t in (
        unit-has q.3,
        and-true (is_typed_in ds res at_end) true (and-true (has_type ds V.Flag test) (is_typed_in ds res (given f.word f x e)) q.0 (given-typed ds res x outside f e f.word q.3 q.1 q.2)) refl,
      )

  abbrev own_loop : Bool
  own_loop = begins (h.iterator ∷ []) f.filter h.place test (given f.word f x e) && loop_in_order (h.iterator ∷ []) f.filter test (given f.word f x e)

  loop-order : folds_in_order (Folded f h test e) ≡ true → own_loop && true ≡ true
  loop-order o =
      let w = both-true (hoists_in_order (Folded f h test e)) (are_numbered (hoisted_in (Folded f h test e))) o in
      let v = both-true (lie_before (fault_of f.filter h.place ∷ []) (faults_in e f.body ++ fold_fault f)) _ w.0 in
      let a = both-true (hoists_in_order test) _ v.1 in
      let b = both-true (hoists_in_order e) _ a.1 in
      let c = both-true (lie_before (hoisted_in test) (rest_in test f.filter)) _ b.1 in
      let d = both-true (lie_before (hoisted_in e) (rest_in e f.body)) _ c.1 in
      let g = both-true (lie_before (faults_in test f.filter) (faults_in e f.body)) _ d.1 in
      let inside : in_order e f.body ≡ true = and-true (hoists_in_order e) (lie_before (hoisted_in e) (rest_in e f.body)) b.0 d.0 in
      let of-body : (q : K.Fault) → IsIn q (faults_of (h.iterator ∷ []) (given f.word f x e)) → IsIn q (faults_in e f.body) ⊎ ((q.key ≡ f.body) ⊎ (q.key ≡ f.total.key)) = given-faults ds res x outside f e rise.2 rise.4 inside (h.iterator ∷ []) f.word in
      and-true own_loop true
      (and-true (begins (h.iterator ∷ []) f.filter h.place test (given f.word f x e)) (loop_in_order (h.iterator ∷ []) f.filter test (given f.word f x e))
      (and-true (leads (h.iterator ∷ []) f.filter h.place (given f.word f x e)) _
      (lie-from (fault_of f.filter h.place ∷ []) (faults_of (h.iterator ∷ []) (given f.word f x e)) (λ p q i j. ⊎_elim (λ (s : p ≡ fault_of f.filter h.place). subst (λ r. fault_lt r q ≡ true) (sym s) (ahead v.0 q (of-body q j))) (λ n. absurd n) i))
      (and-true (are_numbered (hoisted_in test ++ faults_of (h.iterator ∷ []) (given f.word f x e))) _ (all-numbered w.1 of-body)
      (or_left (nat_lt 0 f.filter.statement) (cannot_fail test) (own-numbered w.1))))
      (and-true (in_order test f.filter) _ (and-true (hoists_in_order test) (lie_before (hoisted_in test) (rest_in test f.filter)) a.0 c.0)
      (and-true (body_in_order (h.iterator ∷ []) (given f.word f x e)) (lie_before (faults_in test f.filter) (faults_of (h.iterator ∷ []) (given f.word f x e))) (given-order ds res x outside f e rise.2 rise.4 inside (h.iterator ∷ []) f.word)
      (lie-from (faults_in test f.filter) (faults_of (h.iterator ∷ []) (given f.word f x e)) (λ p q i j. behind g.0 p q i (of-body q j)))))) refl
    where
      before-body : (p : K.Fault) → IsIn p (faults_in test f.filter) → key_lt p.key f.body ≡ true
      before-body p i =
          ⊎_elim (λ (s : p.key ≡ f.filter). ap (λ k. key_lt k f.body) s ∙ rise.3)
          (λ m. keys-rise p.key f.filter f.body (all-under f.filter (keys_in test) p.key rise.0 m) rise.3) (faults-key test f.filter p i)

      -- the range comes before the faults of the body
      ahead : lie_before (fault_of f.filter h.place ∷ []) (faults_in e f.body ++ fold_fault f) ≡ true → (q : K.Fault) → IsIn q (faults_in e f.body) ⊎ ((q.key ≡ f.body) ⊎ (q.key ≡ f.total.key)) → fault_lt (fault_of f.filter h.place) q ≡ true
      ahead l q j =
          ⊎_elim (λ m. lies-in (fault_of f.filter h.place ∷ []) (faults_in e f.body ++ fold_fault f) (fault_of f.filter h.place) q l (inl refl) (in-left q (faults_in e f.body) (fold_fault f) m))
          (λ m. ⊎_elim (λ (s : q.key ≡ f.body). under-key (fault_of f.filter h.place) q (ap (key_lt f.filter) s ∙ rise.3))
          (λ (s : q.key ≡ f.total.key). under-key (fault_of f.filter h.place) q (ap (key_lt f.filter) s ∙ keys-rise f.filter f.body f.total.key rise.3 rise.4)) m) j

      own-numbered : are_numbered (hoisted_in (Folded f h test e)) ≡ true → nat_lt 0 f.filter.statement ≡ true
      own-numbered n = numbered-in (hoisted_in (Folded f h test e)) (fault_of f.filter h.place) n (inl refl)

      all-numbered : are_numbered (hoisted_in (Folded f h test e)) ≡ true → ((q : K.Fault) → IsIn q (faults_of (h.iterator ∷ []) (given f.word f x e)) → IsIn q (faults_in e f.body) ⊎ ((q.key ≡ f.body) ⊎ (q.key ≡ f.total.key)))
          → are_numbered (hoisted_in test ++ faults_of (h.iterator ∷ []) (given f.word f x e)) ≡ true
      all-numbered n of-body =
          let braces : nat_lt 0 f.body.statement ≡ true = numbered-after f.filter f.body rise.3 (own-numbered n) in
          numbered-both (hoisted_in test) (faults_of (h.iterator ∷ []) (given f.word f x e))
          (numbered-from (hoisted_in test)
          (λ q i. numbered-in (hoisted_in (Folded f h test e)) q n (inr (in-left q (faults_in test f.filter) (faults_in e f.body ++ fold_fault f) (in-left q (hoisted_in test) (rest_in test f.filter) i)))))
          (numbered-from (faults_of (h.iterator ∷ []) (given f.word f x e))
          (λ q i. ⊎_elim (λ m. numbered-in (hoisted_in (Folded f h test e)) q n (inr (in-right q (faults_in test f.filter) (faults_in e f.body ++ fold_fault f) (in-left q (faults_in e f.body) (fold_fault f) m))))
          (λ m. ⊎_elim (λ (s : q.key ≡ f.body). ap (λ (k : Key). nat_lt 0 k.statement) s ∙ braces)
          (λ (s : q.key ≡ f.total.key). ap (λ (k : Key). nat_lt 0 k.statement) s ∙ numbered-after f.body f.total.key rise.4 braces) m) (of-body q i)))

      behind : lie_before (faults_in test f.filter) (faults_in e f.body) ≡ true → (p q : K.Fault) → IsIn p (faults_in test f.filter) → IsIn q (faults_in e f.body) ⊎ ((q.key ≡ f.body) ⊎ (q.key ≡ f.total.key)) → fault_lt p q ≡ true
      behind l p q i j =
          ⊎_elim (λ m. lies-in (faults_in test f.filter) (faults_in e f.body) p q l i m)
          (λ m. ⊎_elim (λ (s : q.key ≡ f.body). under-key p q (ap (key_lt p.key) s ∙ before-body p i))
          (λ (s : q.key ≡ f.total.key). under-key p q (ap (key_lt p.key) s ∙ keys-rise p.key f.body f.total.key (before-body p i) rise.4)) m) j

  loop-form : is_nodes h.domain && (is_outer_expr false h.iterator test && is_outer_expr false h.iterator e) ≡ true →
      (is_nodes h.domain && (is_outer_expr false h.iterator test && is_outer_code ds false h.iterator (given f.word f x e))) && true ≡ true
  loop-form p =
      let a = both-true (is_nodes h.domain) _ p in
      let b = both-true (is_outer_expr false h.iterator test) (is_outer_expr false h.iterator e) a.1 in
      and-true (is_nodes h.domain && (is_outer_expr false h.iterator test && is_outer_code ds false h.iterator (given f.word f x e))) true
      (and-true (is_nodes h.domain) _ a.0 (and-true (is_outer_expr false h.iterator test) (is_outer_code ds false h.iterator (given f.word f x e)) b.0 (given-form ds res x outside f e h.iterator f.word b.1))) refl

  loop-shares : shares ds h.iterator test (given f.word f x e) && true ≡ true
  loop-shares = and-true (shares ds h.iterator test (given f.word f x e)) true (given-shares ds res x outside f e h.iterator test names-parts.0 names-parts.1 f.word) refl

  -- the scalar set to the unit, and the loop, against the scalar set to the reduction
  looped-alike : (over : h.domain ≡ Nodes) (g : NumberedGraph) (bound : ℕ) (k : Key) (u : State) →
      let run : Run = record { graph = g; declarations = ds; bound = bound } in
      then_do (with_store u (write u.store (Scalar x) (unit_for f))) (λ s. then_do (sequential at_end run s) Goes)
      ≡ with_value (value (Folded f h test e) (view_of run u k)) (λ v. with_store u (write u.store (Scalar x) v))
  looped-alike over g bound k u =
      let run : Run = record { graph = g; declarations = ds; bound = bound } in
      then-goes (sequential at_end run (record u { store = write u.store (Scalar x) (unit_for f) }))
      ∙ loop-alike run x f h test e outside over unnamed rising u k f.total.shown

  for-assign : (k : Key) (at : Place) → h.domain ≡ Nodes → ForPhase ds res (Assign k (T.Scalar x at) (Folded f h test e)) (looped (Assign k (T.Scalar x at) (Const (unit_for f))) x f h test e)
  for-assign k at over = record {
    same = λ g bound u.
        let run : Run = record { graph = g; declarations = ds; bound = bound } in
        let v = evaluated (Folded f h test e) (view_of run u k) in
        looped-alike over g bound k u ∙ sym (written-scalar x u v.hoisted v.rest);
    named = λ n.
        let q = all-append (suits ds) (use_as Written x) (uses_of_head h ++ (uses_in test ++ uses_in e)) n in
        append-true (suits ds) (use_as Written x) (uses_of at_end ++ []) q.0 (loop-named q.0 q.1);
    typed = λ t. let q = loop-typed t in and-true (has_type ds (type_at ds x) (Const (unit_for f))) (is_typed_in ds res at_end && true) q.0 q.1;
    order = λ o. loop-order o;
    share = λ s. loop-shares;
    form = λ p.
        let q = both-true (nat_le (depth_at ds x) 0) _ p in
        and-true (nat_le (depth_at ds x) 0 && true) _ (and-true (nat_le (depth_at ds x) 0) true q.0 refl) (loop-form q.1);
  }

  for-declare : (k : Key) → h.domain ≡ Nodes → ForPhase ds res (Declare k x (Some (Folded f h test e))) (looped (Declare k x (Some (Const (unit_for f)))) x f h test e)
  for-declare k over = record {
    same = λ g bound u. looped-alike over g bound k u;
    named = λ n.
        let q = all-append (suits ds) (use_as Written x) (uses_of_head h ++ (uses_in test ++ uses_in e)) n in
        append-true (suits ds) (use_as Written x) (uses_of at_end ++ []) q.0 (loop-named q.0 q.1);
    typed = λ t. let q = loop-typed t in and-true (has_type ds (type_at ds x) (Const (unit_for f))) (is_typed_in ds res at_end && true) q.0 q.1;
    order = λ o. loop-order o;
    share = λ s. loop-shares;
    form = λ p.
        let q = both-true (nat_eq (depth_at ds x) 0) _ p in
        and-true (nat_eq (depth_at ds x) 0 && true) _ (and-true (nat_eq (depth_at ds x) 0) true q.0 refl) (loop-form q.1);
  }

-- ---- a sequential phase

depth-zero : (d : ℕ) → nat_le d 0 ≡ true → d ≡ 0
depth-zero d h = let l = leb-true d 0 h in omega arith

module _ (ds : List Declaration) (res : Option VType) where
  for-assigned : (k : Key) (t : Target) (e : Expr) → is_phase_code ds (Assign k t e) ≡ true → stays_alone t e ≡ true → rises e ≡ true → ForPhase ds res (Assign k t e) (assigned_out k t e)
  for-assigned k (T.Scalar x at) (Folded f h test e) form alone rising =
      let a = both-true (nat_le (depth_at ds x) 0) _ form in
      let b = both-true (is_nodes h.domain) _ a.1 in
      for-assign ds res x f h test e (depth-zero (depth_at ds x) a.0) (not-true (names x (Folded f h test e)) alone) rising k at (all-nodes h.domain b.0)
  for-assigned k t e form alone rising = phase-same ds res (Assign k t e)

  for-declared : (k : Key) (x : ℕ) (e : Option Expr) → is_phase_code ds (Declare k x e) ≡ true → has_reads_apart (Declare k x e) ≡ true → all_rise (Declare k x e) ≡ true → ForPhase ds res (Declare k x e) (declared_out k x e)
  for-declared k x (Some (Folded f h test e)) form alone rising =
      let a = both-true (nat_eq (depth_at ds x) 0) _ form in
      let b = both-true (is_nodes h.domain) _ a.1 in
      for-declare ds res x f h test e (eqb-true (depth_at ds x) 0 a.0) (not-true (names x (Folded f h test e)) alone) rising k (all-nodes h.domain b.0)
  for-declared k x e form alone rising = phase-same ds res (Declare k x e)

  pub for-out : (s : Stmt) → is_phase_code ds s ≡ true → has_reads_apart s ≡ true → all_rise s ≡ true → ForPhase ds res s (folds_out s)
  for-out (Then a b) form apart rising =
      let p = both-true (is_phase_code ds a) (is_phase_code ds b) form in
      let q = both-true (has_reads_apart a) (has_reads_apart b) apart in
      let r = both-true (all_rise a) (all_rise b) rising in
      phase-then ds res a (folds_out a) b (folds_out b) (for-out a p.0 q.0 r.0) (for-out b p.1 q.1 r.1)
  for-out (Declare k x e) form apart rising = for-declared k x e form apart rising
  for-out (Assign k t e) form apart rising = for-assigned k t e form apart rising
  for-out (For k at h c s) form apart rising =
      let p = both-true (is_nodes h.domain) (is_phase_expr c && is_phase_code ds s) form in
      phase-for ds res k at h c c s (folds_out s) (expr-same ds c) (for-out s (both-true (is_phase_expr c) (is_phase_code ds s) p.1).1 apart (both-true (rises c) (all_rise s) rising).1)
  for-out (If k c a b) form apart rising =
      let p = both-true (is_phase_expr c) (is_phase_code ds a && is_phase_code ds b) form in
      let p2 = both-true (is_phase_code ds a) (is_phase_code ds b) p.1 in
      let q = both-true (has_reads_apart a) (has_reads_apart b) apart in
      let r = both-true (rises c) (all_rise a && all_rise b) rising in
      let r2 = both-true (all_rise a) (all_rise b) r.1 in
      phase-if ds res k c c a (folds_out a) b (folds_out b) (expr-same ds c) (for-out a p2.0 q.0 r2.0) (for-out b p2.1 q.1 r2.1)
  for-out (While k at c s) form apart rising =
      phase-while ds res k at c c s (folds_out s) (expr-same ds c) (for-out s (both-true (is_phase_expr c) (is_phase_code ds s) form).1 apart (both-true (rises c) (all_rise s) rising).1)
  for-out (Do k at s c) form apart rising =
      phase-do ds res k at c c s (folds_out s) (expr-same ds c) (for-out s (both-true (is_phase_code ds s) (is_phase_expr c) form).0 apart (both-true (all_rise s) (rises c) rising).0)
  for-out s form apart rising = phase-same ds res s

  -- what was out before stays out
  groups-stay : (s : Stmt) → has_no_groups s ≡ true → has_no_groups (folds_out s) ≡ true
  groups-stay (Then a b) h = let q = both-true (has_no_groups a) (has_no_groups b) h in and-true (has_no_groups (folds_out a)) (has_no_groups (folds_out b)) (groups-stay a q.0) (groups-stay b q.1)
  groups-stay (Declare k x (Some (Folded f hd test e))) h = refl
  groups-stay (Assign k (T.Scalar x at) (Folded f hd test e)) h = refl
  groups-stay (For k at hd c s) h = groups-stay s h
  groups-stay (If k c a b) h = let q = both-true (has_no_groups a) (has_no_groups b) h in and-true (has_no_groups (folds_out a)) (has_no_groups (folds_out b)) (groups-stay a q.0) (groups-stay b q.1)
  groups-stay (While k at c s) h = groups-stay s h
  groups-stay (Do k at s c) h = groups-stay s h
  groups-stay s h = h

  compounds-stay : (s : Stmt) → is_phase_code ds s ≡ true → has_no_compounds ds s ≡ true → has_no_compounds ds (folds_out s) ≡ true
  compounds-stay (Then a b) form h =
      let p = both-true (is_phase_code ds a) (is_phase_code ds b) form in
      let q = both-true (has_no_compounds ds a) (has_no_compounds ds b) h in
      and-true (has_no_compounds ds (folds_out a)) (has_no_compounds ds (folds_out b)) (compounds-stay a p.0 q.0) (compounds-stay b p.1 q.1)
  compounds-stay (Declare k x (Some (Folded f hd test e))) form h =
      and-true (has_no_compounds_in ds hd.iterator false (given f.word f x e)) true (given-compounds ds res x (eqb-true (depth_at ds x) 0 (both-true (nat_eq (depth_at ds x) 0) _ form).0) f e hd.iterator f.word) refl
  compounds-stay (Assign k (T.Scalar x at) (Folded f hd test e)) form h =
      and-true (has_no_compounds_in ds hd.iterator false (given f.word f x e)) true (given-compounds ds res x (depth-zero (depth_at ds x) (both-true (nat_le (depth_at ds x) 0) _ form).0) f e hd.iterator f.word) refl
  compounds-stay (For k at hd c s) form h = compounds-stay s (both-true (is_phase_expr c) (is_phase_code ds s) (both-true (is_nodes hd.domain) (is_phase_expr c && is_phase_code ds s) form).1).1 h
  compounds-stay (If k c a b) form h =
      let p = both-true (is_phase_code ds a) (is_phase_code ds b) (both-true (is_phase_expr c) (is_phase_code ds a && is_phase_code ds b) form).1 in
      let q = both-true (has_no_compounds ds a) (has_no_compounds ds b) h in
      and-true (has_no_compounds ds (folds_out a)) (has_no_compounds ds (folds_out b)) (compounds-stay a p.0 q.0) (compounds-stay b p.1 q.1)
  compounds-stay (While k at c s) form h = compounds-stay s (both-true (is_phase_expr c) (is_phase_code ds s) form).1 h
  compounds-stay (Do k at s c) form h = compounds-stay s (both-true (is_phase_code ds s) (is_phase_expr c) form).0 h
  compounds-stay s form h = h

  given-loop : (x : ℕ) (f : Fold) (test e : Expr) → has_literals test && has_literals e ≡ true → (has_literals test && all_exprs_in has_literals (given f.word f x e)) && true ≡ true
  given-loop x f test e h =
      let q = both-true (has_literals test) (has_literals e) h in
      and-true (has_literals test && all_exprs_in has_literals (given f.word f x e)) true (and-true (has_literals test) (all_exprs_in has_literals (given f.word f x e)) q.0 (given-literals x f e f.word q.1)) refl

  literals-stay : (s : Stmt) → all_exprs has_literals s ≡ true → all_exprs has_literals (folds_out s) ≡ true
  literals-stay (Then a b) h = let q = both-true (all_exprs has_literals a) (all_exprs has_literals b) h in and-true (all_exprs has_literals (folds_out a)) (all_exprs has_literals (folds_out b)) (literals-stay a q.0) (literals-stay b q.1)
  literals-stay (Declare k x (Some (Folded f hd test e))) h = given-loop x f test e h
  literals-stay (Assign k (T.Scalar x at) (Folded f hd test e)) h = given-loop x f test e h
  literals-stay (For k at hd c s) h = let q = both-true (has_literals c) (all_exprs has_literals s) h in and-true (has_literals c) (all_exprs has_literals (folds_out s)) q.0 (literals-stay s q.1)
  literals-stay (If k c a b) h =
      let p = both-true (has_literals c) (all_exprs has_literals a && all_exprs has_literals b) h in
      let q = both-true (all_exprs has_literals a) (all_exprs has_literals b) p.1 in
      and-true (has_literals c) (all_exprs has_literals (folds_out a) && all_exprs has_literals (folds_out b)) p.0 (and-true (all_exprs has_literals (folds_out a)) (all_exprs has_literals (folds_out b)) (literals-stay a q.0) (literals-stay b q.1))
  literals-stay (While k at c s) h = let q = both-true (has_literals c) (all_exprs has_literals s) h in and-true (has_literals c) (all_exprs has_literals (folds_out s)) q.0 (literals-stay s q.1)
  literals-stay (Do k at s c) h = let q = both-true (all_exprs has_literals s) (has_literals c) h in and-true (all_exprs has_literals (folds_out s)) (has_literals c) (literals-stay s q.0) q.1
  literals-stay s h = h

  conditions-stay : (s : Stmt) → has_told_conditions s ≡ true → has_told_conditions (folds_out s) ≡ true
  conditions-stay (Then a b) h = let q = both-true (has_told_conditions a) (has_told_conditions b) h in and-true (has_told_conditions (folds_out a)) (has_told_conditions (folds_out b)) (conditions-stay a q.0) (conditions-stay b q.1)
  conditions-stay (Declare k x (Some (Folded f hd test e))) h = refl
  conditions-stay (Assign k (T.Scalar x at) (Folded f hd test e)) h = refl
  conditions-stay (For k at hd c s) h = let q = both-true (is_told c) (has_told_conditions s) h in and-true (is_told c) (has_told_conditions (folds_out s)) q.0 (conditions-stay s q.1)
  conditions-stay (If k c a b) h =
      let p = both-true (is_told c) (has_told_conditions a && has_told_conditions b) h in
      let q = both-true (has_told_conditions a) (has_told_conditions b) p.1 in
      and-true (is_told c) (has_told_conditions (folds_out a) && has_told_conditions (folds_out b)) p.0 (and-true (has_told_conditions (folds_out a)) (has_told_conditions (folds_out b)) (conditions-stay a q.0) (conditions-stay b q.1))
  conditions-stay (While k at c s) h = let q = both-true (is_told c) (has_told_conditions s) h in and-true (is_told c) (has_told_conditions (folds_out s)) q.0 (conditions-stay s q.1)
  conditions-stay (Do k at s c) h = let q = both-true (has_told_conditions s) (is_told c) h in and-true (has_told_conditions (folds_out s)) (is_told c) (conditions-stay s q.0) q.1
  conditions-stay s h = h

  apart-stays : (s : Stmt) → has_reads_apart s ≡ true → has_reads_apart (folds_out s) ≡ true
  apart-stays (Then a b) h = let q = both-true (has_reads_apart a) (has_reads_apart b) h in and-true (has_reads_apart (folds_out a)) (has_reads_apart (folds_out b)) (apart-stays a q.0) (apart-stays b q.1)
  apart-stays (Declare k x (Some (Folded f hd test e))) h = refl
  apart-stays (Assign k (T.Scalar x at) (Folded f hd test e)) h = refl
  apart-stays (For k at hd c s) h = apart-stays s h
  apart-stays (If k c a b) h = let q = both-true (has_reads_apart a) (has_reads_apart b) h in and-true (has_reads_apart (folds_out a)) (has_reads_apart (folds_out b)) (apart-stays a q.0) (apart-stays b q.1)
  apart-stays (While k at c s) h = apart-stays s h
  apart-stays (Do k at s c) h = apart-stays s h
  apart-stays s h = h

  accesses-stay : (s : Stmt) → has_no_accesses s ≡ true → has_no_accesses (folds_out s) ≡ true
  accesses-stay (Then a b) h = let q = both-true (has_no_accesses a) (has_no_accesses b) h in and-true (has_no_accesses (folds_out a)) (has_no_accesses (folds_out b)) (accesses-stay a q.0) (accesses-stay b q.1)
  accesses-stay (Declare k x (Some (Folded f hd test e))) h = refl
  accesses-stay (Assign k (T.Scalar x at) (Folded f hd test e)) h = refl
  accesses-stay (For k at hd c s) h = accesses-stay s h
  accesses-stay (If k c a b) h = let q = both-true (has_no_accesses a) (has_no_accesses b) h in and-true (has_no_accesses (folds_out a)) (has_no_accesses (folds_out b)) (accesses-stay a q.0) (accesses-stay b q.1)
  accesses-stay (While k at c s) h = accesses-stay s h
  accesses-stay (Do k at s c) h = accesses-stay s h
  accesses-stay s h = h

  picks-stay : (s : Stmt) → has_no_picks s ≡ true → has_no_picks (folds_out s) ≡ true
  picks-stay (Then a b) h = let q = both-true (has_no_picks a) (has_no_picks b) h in and-true (has_no_picks (folds_out a)) (has_no_picks (folds_out b)) (picks-stay a q.0) (picks-stay b q.1)
  picks-stay (Declare k x (Some (Folded f hd test e))) h = refl
  picks-stay (Assign k (T.Scalar x at) (Folded f hd test e)) h = refl
  picks-stay (For k at hd c s) h = picks-stay s h
  picks-stay (If k c a b) h = let q = both-true (has_no_picks a) (has_no_picks b) h in and-true (has_no_picks (folds_out a)) (has_no_picks (folds_out b)) (picks-stay a q.0) (picks-stay b q.1)
  picks-stay (While k at c s) h = picks-stay s h
  picks-stay (Do k at s c) h = picks-stay s h
  picks-stay s h = h

  -- no reduction is left
  none-left : (s : Stmt) → has_reads_apart s ≡ true → has_no_folds (folds_out s) ≡ true
  none-left (Then a b) h = let q = both-true (has_reads_apart a) (has_reads_apart b) h in and-true (has_no_folds (folds_out a)) (has_no_folds (folds_out b)) (none-left a q.0) (none-left b q.1)
  none-left (Declare k x (Some (Folded f hd test e))) h = refl
  none-left (Assign k (T.Scalar x at) (Folded f hd test e)) h = refl
  none-left (Assign k (T.Property x p at) (Folded f hd test e)) h = absurd (both_ways false refl h)
  none-left (For k at hd c s) h = none-left s h
  none-left (If k c a b) h = let q = both-true (has_reads_apart a) (has_reads_apart b) h in and-true (has_no_folds (folds_out a)) (has_no_folds (folds_out b)) (none-left a q.0) (none-left b q.1)
  none-left (While k at c s) h = none-left s h
  none-left (Do k at s c) h = none-left s h
  none-left s h = refl

pub same-without_folds : (p : Program) → is_checked p ≡ true → has_reads_apart p.body ≡ true → all_rise p.body ≡ true → SameMeaning p (without_folds p)
same-without_folds p form apart rising = means-same p (folds_out p.body) (for-out p.declarations p.result p.body form apart rising)

pub kept : (p : Program) → WithRisingKeys p → WithoutFolds (without_folds p)
kept p r =
    let ds = p.declarations in
    let conditions = r.with_reads_apart.with_conditions in
    let compounds = conditions.with_literals.without_compounds in
    let ready = compounds.without_groups.ready in
    record {
      with_reads_apart = record {
        with_conditions = record {
          with_literals = record {
            without_compounds = record {
              without_groups = record {
                ready = ready-same p (folds_out p.body) (for-out ds p.result p.body ready.form r.with_reads_apart.apart r.rising) ready;
                no_groups = groups-stay ds p.result p.body compounds.without_groups.no_groups;
              };
              no_compounds = compounds-stay ds p.result p.body ready.form compounds.no_compounds;
            };
            literals = literals-stay ds p.result p.body conditions.with_literals.literals;
          };
          conditions = conditions-stay ds p.result p.body conditions.conditions;
        };
        apart = apart-stays ds p.result p.body r.with_reads_apart.apart;
      };
      no_folds = none-left ds p.result p.body r.with_reads_apart.apart;
    }

-- where no access was left, neither is left
pub alone : (p : Program) → WithoutAccesses p → WithLoopsAlone (without_folds p)
alone p r = record { without_folds = kept p r.with_typed_runs.with_rising_keys; no_accesses = accesses-stay p.declarations p.result p.body r.no_accesses }

pub no-picks : (p : Program) → KeepsNoPicks p (without_folds p)
no-picks p h = picks-stay p.declarations p.result p.body h

-- statements one after another
pub folds-sequence : {A : Type 0} (g : A → Stmt) (xs : List A) → folds_out (sequence (map g xs)) ≡ sequence (map (λ x. folds_out (g x)) xs)
folds-sequence g [] = refl
folds-sequence g (x ∷ xs) = ap (Then (folds_out (g x))) (folds-sequence g xs)
