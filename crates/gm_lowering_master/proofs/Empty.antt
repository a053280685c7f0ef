-- A statement without lines does nothing.
use Rattle.std.proofs.Common.{◌≡◌, ℕ, suc, Bool, true, false, Some, None, List, [], ◌∷◌, ◌++◌, length, map, refl, ap, ◌∙◌, sym}
use Rattle.std.specs.Prelude.{if◌then◌else◌}
use Rattle.std.proofs.lemmas.Bool.{both_ways}
use Rattle.gm_value.specs.declared.values.VType.{VType}
use Rattle.gm_value.specs.declared.values.VType.TheVariants as V
use Rattle.gm_value.specs.Numbers.{zero_of}
use Rattle.gm_value.specs.declared.reductions.Reduce.{Reduce}
use Rattle.gm_ast.specs.declared.tree.Key.{Key}
use Rattle.gm_ast.specs.declared.tree.Sort.{Sort}
use Rattle.gm_ast.specs.declared.tree.Sort.TheVariants as Sorts
use Rattle.gm_ast.specs.declared.tree.Target.{Target}
use Rattle.gm_ast.specs.declared.tree.Target.TheVariants as T
use Rattle.gm_ast.specs.Program as S
use Rattle.gm_ast.specs.Program.{Expr, Stmt}
use Rattle.gm_forms.proofs.Named.{both-true}
use Rattle.gm_semantics.specs.Statements.{State, Course, Goes, with_store, then_do, declared, variable_at, sequential}
use Rattle.gm_semantics.specs.Stores.{fill}
use Rattle.gm_image.specs.Program.{Command, Step, SetField}
use Rattle.gm_image.specs.Term as M
use Rattle.gm_image.specs.Term.{Term}
use Rattle.gm_lowering.specs.Blocks.{body_block, loop, each_loop, message_loop}
use Rattle.gm_lowering.specs.Bodies.{Keeping, kept_lines, save_lines, take_lines, paired, saved_pairs, replacing, better, with_types}
use Rattle.gm_lowering.specs.Layouts.{Layout}
use Rattle.gm_lowering.specs.Lowered as L
use Rattle.gm_lowering.specs.Lowered.{part, past, declared_part, steps_from, choice}
use Rattle.gm_lowering.specs.Places.{segment, spots_in_all}
use Rattle.gm_lowering.specs.Plans.{is_here}
use Rattle.gm_lowering.specs.Terms.{master_env, term}
use Rattle.gm_lowering_master.specs.Runs.{Moment}
use Rattle.gm_lowering_master.specs.Cells.{Setting, IsSetting, IsAt}
use Rattle.gm_lowering_master.specs.Follows.{is_followed}
use Rattle.gm_lowering_master.proofs.Singles.{unkept-between}

not-empty : {A : Type 0} (x : A) (xs : List A) → x ∷ xs ≡ [] → ⊥
not-empty x xs e = cc

not-empty_last : {A : Type 0} (xs : List A) (y : A) (ys : List A) → xs ++ (y ∷ ys) ≡ [] → ⊥
not-empty_last [] y ys e = cc
not-empty_last (x ∷ xs) y ys e = not-empty x (xs ++ (y ∷ ys)) e

both-empty : {A : Type 0} (xs ys : List A) → xs ++ ys ≡ [] → (xs ≡ []) × (ys ≡ [])
both-empty [] ys e = (refl, e)
both-empty (x ∷ xs) ys e = absurd (not-empty x (xs ++ ys) e)

tuple-some : {L : Type 0} (s : Keeping L) (r : Reduce) (ts : List (VType × Target)) (values : List Term)
    → save_lines s 0 (paired (map (λ t. t.0) ts) values) ++ (s.save (length ts) V.Flag (replacing (better r) (saved_pairs s 0 ts)) ∷ take_lines s (s.saved (length ts) V.Flag) 0 ts) ≡ [] → ⊥
tuple-some s r ts values e =
    not-empty_last (save_lines s 0 (paired (map (λ t. t.0) ts) values)) (s.save (length ts) V.Flag (replacing (better r) (saved_pairs s 0 ts))) (take_lines s (s.saved (length ts) V.Flag) 0 ts) e

kept-some : {L : Type 0} (s : Keeping L) (r : Reduce) (ts : List (VType × Target)) (values : List Term) → kept_lines s r ts values ≡ [] → ⊥
kept-some s r [] values e = tuple-some s r [] values e
kept-some s r (t ∷ []) [] e = tuple-some s r (t ∷ []) [] e
kept-some s r (t ∷ []) (a ∷ []) e = not-empty _ _ e
kept-some s r (t ∷ []) (a ∷ (b ∷ values)) e = tuple-some s r (t ∷ []) (a ∷ (b ∷ values)) e
kept-some s r (t ∷ (u ∷ ts)) values e = tuple-some s r (t ∷ (u ∷ ts)) values e

steps-some : (block n : ℕ) → steps_from block (suc n) ≡ [] → ⊥
steps-some block n e = not-empty _ _ e

-- a loop has blocks
loop-some : (c : Layout) (base kind n : ℕ) (k : Key) (test : Expr) (body : Stmt) → (q : ℕ) × (length (loop c base kind n k test body).blocks ≡ suc q)
loop-some c base kind n k mask (S.Foreach j at h test body) = by (is_here c.declarations n h test body) where
  by : (b : Bool) → (q : ℕ) × (length (if b then each_loop c base kind n k mask j h test body else message_loop c base kind n k mask j h test body).blocks ≡ suc q)
  by true = (_, refl)
  by false = (_, refl)
loop-some c base kind n k test body = (_, refl)

choice-some : (t : Term) (behind : ℕ) (xs ys : List Command) → choice t behind xs ys ≡ [] → ⊥
choice-some t behind xs [] e = not-empty _ _ e
choice-some t behind xs (m ∷ ms) e = not-empty _ _ e

module _ (s : Setting) (is' : IsSetting s) where
  abbrev c : Layout
  c = s.frame.layout

  -- what a statement leads to that does nothing
  abbrev pub Stays : Moment → Course → Type 0
  Stays m course = (state : State) × (course ≡ Goes state) × IsAt s m state

  declare-empty : (at : L.At) (x : ℕ) (t : VType) (sort : Sort) (m : Moment) (state : State) → IsAt s m state → (declared_part s.frame at sort t x).commands ≡ [] → Stays m (with_store state (declared sort t x state.store))
  declare-empty at x t Sorts.Scalar m state here e = absurd (not-empty _ _ e)
  declare-empty at x t Sorts.NodeProperty m state here e = by (c.is_kept x) refl e where
    by : (b : Bool) → c.is_kept x ≡ b
        → (if b then record {
          commands = Step at.block ∷ [];
          blocks = body_block (SetField (c.field x) (M.Const (zero_of t)) ∷ []) ∷ [];
          places = [];
        } else L.no_part).commands ≡ []
        → Stays m (Goes (record state { store = fill state.store x (zero_of t) }))
    by true o e = absurd (not-empty _ _ e)
    by false o e = (
      record state { store = fill state.store x (zero_of t) },
      refl,
      record { between = unkept-between s is' m.control.globals m.nodes state.store x (zero_of t) o here.between; turns = here.turns; left = here.left },
    )
  declare-empty at x t Sorts.Graph m state here e = (state, refl, here)
  declare-empty at x t Sorts.Iterator m state here e = (state, refl, here)
  declare-empty at x t Sorts.Edge m state here e = (state, refl, here)
  declare-empty at x t Sorts.EdgeProperty m state here e = (state, refl, here)

  pub empty-stays : (st : Stmt) (at : L.At) (m : Moment) (state : State) → is_followed c s.returns st ≡ true → (part s.frame st at).commands ≡ [] → IsAt s m state → Stays m (sequential st s.run state)
  empty-stays S.Skip at m state h e here = (state, refl, here)
  empty-stays (S.Then a b) at m state h e here =
      let q = both-true (is_followed c s.returns a) (is_followed c s.returns b) h in
      let x = part s.frame a at in
      let n = both-empty x.commands (part s.frame b (past s.frame at a x)).commands e in
      let one = empty-stays a at m state q.0 n.0 here in
      let two = empty-stays b (past s.frame at a x) m one.0 q.1 n.1 one.2 in
      (two.0, ap (λ course. then_do course (sequential b s.run)) one.1 ∙ two.1, two.2)
  empty-stays (S.Declare k x None) at m state h e here =
      let v = variable_at c.declarations x in
      let z = declare-empty at x v.vtype v.sort m state here e in
      (z.0, ap (λ ds. with_store state (declared (variable_at ds x).sort (variable_at ds x).vtype x state.store)) is'.declarations ∙ z.1, z.2)
  empty-stays (S.Declare k x (Some e')) at m state h e here = absurd (not-empty _ _ e)
  empty-stays (S.DeclareEdge x y place) at m state h e here = absurd (both_ways false refl h)
  empty-stays (S.Assign k (T.Scalar x place) e') at m state h e here = absurd (not-empty _ _ e)
  empty-stays (S.Assign k (T.Property x p place) e') at m state h e here = absurd (both_ways false refl h)
  empty-stays (S.Combine k total r ts es) at m state h e here =
      let v = master_env c (segment at.place (spots_in_all es k)) in absurd (kept-some (L.keeping c v) r (with_types c ts) (map (term v k) es) e)
  empty-stays (S.Foreach k place f test body) at m state h e here =
      let q = loop-some c at.place at.kind f.iterator k test body in absurd (steps-some at.block q.0 (ap (steps_from at.block) (sym q.1) ∙ e))
  empty-stays (S.For k place f test body) at m state h e here = absurd (not-empty _ _ e)
  empty-stays (S.If k test a b) at m state h e here = absurd (choice-some _ _ _ _ e)
  empty-stays (S.While k place test body) at m state h e here = absurd (not-empty _ _ e)
  empty-stays (S.Do k place body test) at m state h e here = absurd (not-empty _ _ e)
  empty-stays (S.Return k place None) at m state h e here = absurd (not-empty _ _ e)
  empty-stays (S.Return k place (Some e')) at m state h e here = absurd (not-empty _ _ e)
  empty-stays _ at m state h e here = absurd (both_ways false refl h)
