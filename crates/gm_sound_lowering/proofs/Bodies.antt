-- The lines of a body have the types that they ask for, where its terms have their types.
use Rattle.std.proofs.Common.{◌≡◌, ◌<◌, ℕ, Bool, true, false, Option, Some, List, [], ◌∷◌, map, length, refl, ap, sym, subst, ⊎_elim}
use Rattle.std.specs.Prelude.{◌+◌, slice_get}
use Rattle.std.proofs.lemmas.Bool.{both_ways}
use Rattle.gm_value.specs.declared.values.VType.{VType}
use Rattle.gm_value.specs.declared.values.VType.TheVariants as V
use Rattle.gm_value.specs.declared.values.Value.{Value}
use Rattle.gm_value.specs.declared.values.Value.TheVariants.{Flag}
use Rattle.gm_value.specs.declared.reductions.Reduce.{Reduce}
use Rattle.gm_ast.specs.declared.tree.Declaration.{Declaration}
use Rattle.gm_ast.specs.declared.tree.Key.{Key}
use Rattle.gm_ast.specs.declared.tree.Target.{Target}
use Rattle.gm_ast.specs.declared.tree.Target.TheVariants as T
use Rattle.gm_ast.specs.declared.tree.TotalKey.{TotalKey}
use Rattle.gm_ast.specs.Program as S
use Rattle.gm_ast.specs.Program.{Stmt, Program}
use Rattle.gm_forms.specs.Sharing.{are_distinct, variables_of}
use Rattle.gm_forms.specs.Typing.{type_at, target_type, fits_targets}
use Rattle.gm_semantics.specs.Statements.{variable_at}
use Rattle.gm_typed_stores.specs.Values.{Each}
use Rattle.gm_image.specs.Indices.{in_range}
use Rattle.gm_image.specs.Program as image
use Rattle.gm_image.specs.Program.{Line, Skip}
use Rattle.gm_image.specs.Term as M
use Rattle.gm_image.specs.Term.{Term}
use Rattle.gm_lowering.specs.Bodies as B
use Rattle.gm_lowering.specs.Bodies.{set_line, else_lines, choice_by, under, fold_place, target_node, reduce_lines, lines_of, with_types, image_targets}
use Rattle.gm_lowering.specs.Layouts.{Layout, layout, is_register, has_field, body_positions}
use Rattle.gm_lowering.specs.Lowered.{lowered, kind_of}
use Rattle.gm_lowering.specs.Plans.{Way, Puts, Folds, Sends, Picks, way_of, aways, kind_of_away}
use Rattle.gm_lowering.specs.Terms.{Env, term, term_or_zero}
use Rattle.gm_sound_lowering.specs.Types.{IsTerm}
use Rattle.gm_sound_lowering.proofs.BlockRows.{under-cases}
use Rattle.gm_sound_lowering.proofs.Environments.{register-is}
use Rattle.gm_sound_lowering.proofs.Leaves.{each-join}
use Rattle.gm_sound_lowering.proofs.Lines.{LineIs, ValuesAre}
use Rattle.gm_sound_lowering.proofs.Reductions.{AreTargets, targets-are, reduction-is, IsScalarSlot, IsPropertySlot, scalars-differ, properties-differ}
use Rattle.gm_sound_lowering.proofs.Slots.{global-type, register-type, field-type, spare-register-type}
use Rattle.gm_sound_lowering.proofs.Terms.{const-is}
use Rattle.gm_sound_lowering.proofs.Tuples.{Keeps, IsNumber, AreValues, kept-good}

module _ (p : Program) (kind : Option ℕ) (stands : Term → Bool) (consts : (v : Value) → stands (M.Const v) ≡ true) (nodes : stands M.NodeCount ≡ true) (edges : stands M.EdgeCount ≡ true)
    (registers : (r : ℕ) → stands (M.Register r) ≡ true) (env : Env) (node : ℕ) (iterators : List ℕ) (at_once : Bool) where
  abbrev ds : List Declaration
  ds = p.declarations

  abbrev c : Layout
  c = layout p

  abbrev i : image.Program
  i = lowered p

  abbrev s : B.Site
  s = record { layout = c; env = env; node = node; iterators = iterators; at_once = at_once }

  abbrev Is : VType → Term → Type 0
  Is = IsTerm i kind stands

  abbrev Good : Line → Type 0
  Good = LineIs i kind stands

  abbrev room : ℕ
  room = body_positions ds p.body

  -- a target that a line may set: a local, or a property with a field
  abbrev pub IsSet : Target → Type 0
  IsSet (T.Scalar x at) = (x < length ds) × (is_register (variable_at ds x) ≡ true)
  IsSet (T.Property x q at) = has_field p q ≡ true

  -- a local that keeps the better of two values
  abbrev pub IsKept : Target → Type 0
  IsKept (T.Scalar x at) = (x < length ds) × (is_register (variable_at ds x) ≡ true) × Is (type_at ds x) (env.scalar x)
  IsKept (T.Property x q at) = ⊥

  abbrev Values : List Target → List Term → Type 0
  Values = AreValues i kind stands consts nodes edges c (B.keeping s) Good IsKept room

  -- a reduction whose values have their types, by its way
  abbrev pub ReductionIs : ℕ → Way → Key → TotalKey → Reduce → List Target → List Term → Type 0
  ReductionIs m Puts k total r ts values =
      (in_range i.places (env.place total.key total.place) ≡ true) × (fits_targets ds r ts ≡ true) × Each (IsScalarSlot p) ts × (are_distinct (variables_of ts) ≡ true) × Values ts values
  ReductionIs m Folds k total r ts values =
      (in_range i.places (fold_place s k total) ≡ true) × (fits_targets ds r ts ≡ true) × Each (IsPropertySlot p) ts × (are_distinct (variables_of ts) ≡ true) × Values ts values
  ReductionIs m Sends k total r ts values =
      Is V.Node (target_node s k ts) × (slice_get i.kinds m ≡ Some (kind_of (kind_of_away ds (record { total = total; reduce = r; targets = ts })))) × Values ts values
  ReductionIs m Picks k total r ts values =
      (fits_targets ds r ts ≡ true) × Each (IsNumber i kind stands consts nodes edges c (B.keeping s) Good IsKept room) ts
      × ((t u : Target) (us : List Target) → ts ≡ t ∷ (u ∷ us) → length ts < room) × Values ts values

  -- a statement whose terms have their types, and whose messages begin at a kind
  abbrev pub StmtIs : ℕ → Stmt → Type 0
  StmtIs m (S.Then a b) = StmtIs m a × StmtIs (m + length (aways ds node a)) b
  StmtIs m (S.Declare k x e) = (x < length ds) × (is_register (variable_at ds x) ≡ true) × Is (type_at ds x) (term_or_zero env k (type_at ds x) e)
  StmtIs m (S.Assign k t e) = IsSet t × Is (target_type ds t) (term env k e)
  StmtIs m (S.Combine k total r ts es) = ReductionIs m (way_of ds node ts) k total r ts (map (term env k) es)
  StmtIs m (S.If k e a b) = Is V.Flag (term env k e) × StmtIs m a × StmtIs (m + length (aways ds node a)) b
  StmtIs m _ = Unit {0}

  set-good : (t : Target) (a : Term) → IsSet t → Is (target_type ds t) a → Good (set_line c t a)
  set-good (T.Scalar x at) a h k = (type_at ds x, register-type p x h.0 h.1, k)
  set-good (T.Property x q at) a h k = (type_at ds q, field-type p q h, k)

  keeps : Keeps i kind stands consts nodes edges c (B.keeping s) Good IsKept room
  keeps = record { set = set; held = held; save = save; saved = saved } where
    set : (t : Target) (a : Term) → IsKept t → Is (target_type ds t) a → Good (set_line c t a)
    set (T.Scalar x at) a h k = (type_at ds x, register-type p x h.0 h.1, k)
    set (T.Property x q at) a h k = absurd h

    held : (t : Target) → IsKept t → Is (target_type ds t) (B.held_term env t)
    held (T.Scalar x at) h = h.2
    held (T.Property x q at) h = absurd h

    save : (j : ℕ) (t : VType) (a : Term) → j < room → Is t a → Good (image.SetRegister (c.spare_register j t) a)
    save j t a lt h = (t, spare-register-type p j t lt, h)

    saved : (j : ℕ) (t : VType) → j < room → Is t (M.Register (c.spare_register j t))
    saved j t lt = register-is p kind stands (c.spare_register j t) t (registers (c.spare_register j t)) (spare-register-type p j t lt)

  scalar-targets : (ts : List Target) (values : List Term) → Each (IsScalarSlot p) ts → Values ts values → AreTargets p kind stands i.globals ts values
  scalar-targets [] [] h v = tt
  scalar-targets (T.Scalar x at ∷ ts) (a ∷ more) h v = (global-type p x h.0.0 h.0.1, v.0, scalar-targets ts more h.1 v.1)
  scalar-targets (T.Property x q at ∷ ts) (a ∷ more) h v = absurd h.0
  scalar-targets [] (a ∷ more) h v = absurd v
  scalar-targets (t ∷ ts) [] h v = absurd v

  property-targets : (ts : List Target) (values : List Term) → Each (IsPropertySlot p) ts → Values ts values → AreTargets p kind stands i.fields ts values
  property-targets [] [] h v = tt
  property-targets (T.Scalar x at ∷ ts) (a ∷ more) h v = absurd h.0
  property-targets (T.Property x q at ∷ ts) (a ∷ more) h v = (field-type p q h.0, v.0, property-targets ts more h.1 v.1)
  property-targets [] (a ∷ more) h v = absurd v
  property-targets (t ∷ ts) [] h v = absurd v

  values-are : (ts : List Target) (values : List Term) → Values ts values → ValuesAre i kind stands (map (target_type ds) ts) values
  values-are [] [] v = tt
  values-are (t ∷ ts) (a ∷ more) v = (v.0, values-are ts more v.1)
  values-are [] (a ∷ more) v = absurd v
  values-are (t ∷ ts) [] v = absurd v

  reduction-good : (m : ℕ) (way : Way) (k : Key) (total : TotalKey) (r : Reduce) (ts : List Target) (values : List Term) → ReductionIs m way k total r ts values → Each Good (reduce_lines s m way k total r ts values)
  reduction-good m Puts k total r ts values h =
      let ts' = scalar-targets ts values h.2 h.4 in ((h.0, reduction-is p kind stands i.globals r ts values h.1 ts' (scalars-differ p ts h.2 h.3), targets-are p kind stands i.globals ts values ts'), tt)
  reduction-good m Folds k total r ts values h =
      let ts' = property-targets ts values h.2 h.4 in ((h.0, reduction-is p kind stands i.fields r ts values h.1 ts' (properties-differ p ts h.2 h.3), targets-are p kind stands i.fields ts values ts'), tt)
  reduction-good m Sends k total r ts values h = ((h.0, kind_of (kind_of_away ds (record { total = total; reduce = r; targets = ts })), h.1, values-are ts values h.2), tt)
  reduction-good m Picks k total r [] values h = absurd (both_ways false refl h.0)
  reduction-good m Picks k total r (t ∷ ts) values h =
      kept-good i kind stands consts nodes edges c (B.keeping s) Good IsKept room keeps r t ts values (λ u us e. h.2 t u us (ap (λ xs. t ∷ xs) e)) h.1 h.3

  choice-good : (t : Term) (xs ys : List Line) → Is V.Flag t → Each Good xs → Each Good ys → Each Good (choice_by t xs ys)
  choice-good t xs [] h x y = (h, x)
  choice-good t xs (l ∷ ls) h x y = (h, each-join Good xs (else_lines (l ∷ ls)) x (const-is i kind stands consts nodes edges (Flag false) refl, y))

  pub lines-good : (m : ℕ) (st : Stmt) → StmtIs m st → Each Good (lines_of s m st)
  lines-good m (S.Then a b) h =
      let next = m + length (aways ds node a) in each-join Good (lines_of s m a) (lines_of s next b) (lines-good m a h.0) (lines-good next b h.1)
  lines-good m (S.Declare k x e) h = ((type_at ds x, register-type p x h.0 h.1, h.2), tt)
  lines-good m (S.Assign k t e) h = (set-good t (term env k e) h.0 h.1, tt)
  lines-good m (S.Combine k total r ts es) h = reduction-good m (way_of ds node ts) k total r ts (map (term env k) es) h
  lines-good m (S.If k e a b) h =
      let next = m + length (aways ds node a) in choice-good (term env k e) (lines_of s m a) (lines_of s next b) h.0 (lines-good m a h.1) (lines-good next b h.2)
  lines-good m _ h = tt

  pub under-good : (t : Term) (ls : List Line) → Is V.Flag t → Each Good ls → Each Good (under t ls)
  under-good t ls h k = ⊎_elim (λ (e : under t ls ≡ ls). subst (Each Good) (sym e) k) (λ (e : under t ls ≡ Skip (length ls) t ∷ ls). subst (Each Good) (sym e) (h, k)) (under-cases t ls)
