-- The lines that keep a tuple in locals and properties of a vertex: values are saved in spare registers, compared, and taken where they are better.
use Rattle.std.proofs.Common.{◌≡◌, ◌<◌, ◌≤◌, ℕ, suc, Bool, true, false, Option, Some, None, Result, Ok, Err, List, [], ◌∷◌, ◌++◌, length, map, refl, ap, ◌∙◌, sym, subst, arith, append_assoc}
use Rattle.std.specs.Prelude.{◌+◌, ◌&&◌, ◌||◌, if◌then◌else◌, not, nat_eq, nat_lt, slice_set}
use Rattle.std.specs.List.{list_all}
use Rattle.std.proofs.lemmas.Bool.{both_ways, ne_eqb, eq-eqb, ltb-true}
use Rattle.std.proofs.lemmas.List.{length-set}
use Rattle.gm_value.specs.declared.values.VType.{VType}
use Rattle.gm_value.specs.declared.values.VType.TheVariants as V
use Rattle.gm_value.specs.declared.values.Value.{Value}
use Rattle.gm_value.specs.declared.values.Value.TheVariants.{Flag}
use Rattle.gm_value.specs.Operations.{is_true}
use Rattle.gm_ast.specs.declared.tree.Key.{Key}
use Rattle.gm_ast.specs.declared.tree.Target.{Target}
use Rattle.gm_ast.specs.declared.tree.Target.TheVariants as T
use Rattle.gm_ast.specs.Program as S
use Rattle.gm_ast.specs.Program.{Expr}
use Rattle.gm_forms.specs.Typing.{target_type, keeps_tuples}
use Rattle.gm_forms.proofs.Named.{both-true}
use Rattle.gm_semantics.specs.declared.faults.Fault.{Fault}
use Rattle.gm_semantics.specs.declared.slots.Slot.{Slot}
use Rattle.gm_semantics.specs.declared.slots.Slot.TheVariants.{Scalar, Node}
use Rattle.gm_semantics.specs.Expressions.{View, Answer, evaluated, evaluated_all}
use Rattle.gm_semantics.specs.Faults.{then_with}
use Rattle.gm_semantics.specs.Iterations.{Loop, Outermost, Iteration, view_in, failed, wrote, wrote_all, with_ok, tuple_held, does, Mode}
use Rattle.gm_semantics.specs.Statements.{variable_at}
use Rattle.gm_ast.specs.declared.tree.Sort.TheVariants as Sorts
use Rattle.gm_ast.specs.Names.{is}
use Rattle.gm_semantics.specs.Stores.{read, reads, Store, write, has_slot, slot_eq}
use Rattle.gm_image.specs.Term as M
use Rattle.gm_image.specs.Term.{Term}
use Rattle.gm_image.specs.Program.{Line, SetRegister, SetField}
use Rattle.gm_machine.specs.declared.faults.Fault as MF
use Rattle.gm_machine.specs.Expressions.{value as term_value, value_at}
use Rattle.gm_machine.specs.Vertex.{VertexContext, VertexState, After, view, line_ends, leaves, goes_on, body_after}
use Rattle.gm_lowering.specs.Layouts.{Layout, is_register, has_value}
use Rattle.gm_lowering.specs.Places.{Segment}
use Rattle.gm_lowering.specs.Terms.{Env, term, own_env}
use Rattle.gm_lowering.specs.Bodies.{Keeping, keeping, save_lines, saved_pairs, paired, with_types, take_lines, replacing, better, kept_lines, Site}
use Rattle.gm_lowering.specs.Blocks.{own_site}
use Rattle.gm_lowering.specs.OwnLoops.{own_finds, is_own_target, HasSpares}
use Rattle.gm_lowering.specs.TupleLines.{own_slots, LinesEnd, TupleLinesKeep}
use Rattle.gm_lowering.specs.Showing.{fault_of, answer_of, Tells}
use Rattle.gm_lowering.specs.Sites.{finds_scalar, same_length, is_local, IsApart, OwnGave}
use Rattle.gm_lowering.specs.Tuples.{Have}
use Rattle.gm_lowering.proofs.Bodies.{Ends as Ending}
use Rattle.gm_lowering.proofs.Own as O
use Rattle.gm_lowering.proofs.Own.{after-set}
use Rattle.gm_lowering.proofs.OwnTuples.{are_own, tuple-now, two-held}
use Rattle.gm_lowering.proofs.Terms.{rest-term}
use Rattle.gm_semantics.specs.Laws.{Distinct}
use Rattle.gm_machine.specs.Faults.{then_go}
use Rattle.gm_lowering.proofs.OwnFolds.{read-write}
use Rattle.gm_value.specs.declared.reductions.Reduce.{Reduce}
use Rattle.gm_value.specs.Numbers.{number_of}
use Rattle.gm_value.specs.Laws.{AreOf}
use Rattle.gm_value.specs.Tuples.{replaces, close_slots}
use Rattle.gm_ast.specs.declared.tree.TotalKey.{TotalKey}
use Rattle.gm_semantics.specs.Levels.{node_in}
use Rattle.gm_lowering.proofs.Givens.{node-in, none-hoisted}
use Rattle.gm_lowering.proofs.Tuples.{replacing-tells, tuples-kept}
use Rattle.gm_base.specs.declared.places.Place.{Place}

-- what is asked of a site whose bodies keep tuples in some targets: how its lines run, that its states tell what the targets hold and what is found, and show what is set; spare registers may be set
pub record Tupled (site : Site) (loop : Loop) (m : Mode) (k registers positions : ℕ) (s : VertexContext) (run : List Line → ℕ → VertexState → After) (Shows Gave : Iteration → VertexState → Type 0) (found : Expr → Bool) (mine : Target → Bool) : Type 0 where
  pub register_runs : (x : ℕ) (t : Term) (ls : List Line) (w : VertexState) → run (SetRegister x t ∷ ls) 0 w ≡ goes_on (line_ends w (term_value (view s w) t) (λ y. leaves (record w { registers = slice_set w.registers x y }))) (λ j u. run ls j u)
  pub field_runs : (x : ℕ) (t : Term) (ls : List Line) (w : VertexState) → run (SetField x t ∷ ls) 0 w ≡ goes_on (line_ends w (term_value (view s w) t) (λ y. leaves (record w { fields = slice_set w.fields x y }))) (λ j u. run ls j u)
  pub fine : (it : Iteration) (w : VertexState) → Shows it w → it.fault ≡ None
  pub gave_failed : (it : Iteration) (w : VertexState) (f : Fault) → Shows it w → Gave (failed it f) w
  pub tells : (it : Iteration) (w : VertexState) (key : Key) (e : Expr) → found e ≡ true → Shows it w → Tells site.env (view_in loop m it key) (view s w) e
  pub local_is : (it : Iteration) (w : VertexState) (x : ℕ) (at : Place) → mine (T.Scalar x at) ≡ true → Shows it w → term_value (view s w) (site.env.scalar x) ≡ Ok (it.store.scalar x)
  pub property_is : (it : Iteration) (w : VertexState) (x p : ℕ) (at : Place) → mine (T.Property x p at) ≡ true → Shows it w → term_value (view s w) (site.env.property x p) ≡ Ok (it.store.node p k)
  pub count : (it : Iteration) (w : VertexState) → Shows it w → length w.registers ≡ registers
  pub spared : (it : Iteration) (w : VertexState) (i : ℕ) (t : VType) (a : Value) → i < positions → Shows it w → Shows it (record w { registers = slice_set w.registers (site.layout.spare_register i t) a })
  pub is_local_of : (x : ℕ) (at : Place) → mine (T.Scalar x at) ≡ true → is_local site.layout x ≡ true
  pub within : (x : ℕ) (at : Place) → mine (T.Scalar x at) ≡ true → site.layout.register x < registers
  pub local : (it : Iteration) (w : VertexState) (x : ℕ) (at : Place) (a : Value) → mine (T.Scalar x at) ≡ true → Shows it w → Shows (wrote it (Scalar x, a)) (record w { registers = slice_set w.registers (site.layout.register x) a })
  pub field : (it : Iteration) (w : VertexState) (x p : ℕ) (at : Place) (a : Value) → mine (T.Property x p at) ≡ true → Shows it w → Shows (wrote it (Node p k, a)) (record w { fields = slice_set w.fields (site.layout.field p) a })
  pub now : (it : Iteration) (w : VertexState) (key : Key) (total : TotalKey) (r : Reduce) (t u : Target) (ts : List Target) (es : List Expr) → list_all mine (t ∷ (u ∷ ts)) ≡ true → list_all found es ≡ true → Shows it w
      → does (S.Combine key total r (t ∷ (u ∷ ts)) es) m loop it
      ≡ with_ok it (then_with (evaluated_all es (view_in loop m it key)).rest (λ ys. then_with (tuple_held (view_in loop m it key) total.place (close_slots r (reads it.store (own_slots k (t ∷ (u ∷ ts)))) (ys ∷ []))) (λ vs. Ok (own_slots k (t ∷ (u ∷ ts)), vs)))) (wrote_all it)

module _ (site : Site) (loop : Loop) (m' : Mode) (k registers positions : ℕ) (s : VertexContext) (run : List Line → ℕ → VertexState → After) (Shows Gave : Iteration → VertexState → Type 0) (found : Expr → Bool) (mine : Target → Bool)
    (tupled : Tupled site loop m' k registers positions s run Shows Gave found mine) (spares : HasSpares site.layout registers positions) where
  abbrev c : Layout
  c = site.layout

  abbrev v : Env
  v = site.env

  abbrev keep : Keeping Line
  keep = keeping site

  abbrev spare_at : VertexState → ℕ → VType → Value
  spare_at w i t = value_at w.registers (c.spare_register i t)

  abbrev with_spare : VertexState → ℕ → VType → Value → VertexState
  with_spare w i t a = record w { registers = slice_set w.registers (c.spare_register i t) a }

  -- a spare register that is set
  spare-shows : (it : Iteration) (w : VertexState) (i : ℕ) (t : VType) (a : Value) → i < positions → Shows it w → Shows it (with_spare w i t a)
  spare-shows = tupled.spared

  spare-is : (it : Iteration) (w : VertexState) (i : ℕ) (t : VType) (a : Value) → i < positions → Shows it w → spare_at (with_spare w i t a) i t ≡ a
  spare-is it w i t a lt q =
      after-set w.registers (c.spare_register i t) a (c.spare_register i t) (subst (λ j. c.spare_register i t < j) (sym (tupled.count it w q)) (spares.within i t lt))
      ∙ ap (λ b. if b then a else spare_at w i t) (eq-eqb (c.spare_register i t) (c.spare_register i t) refl)

  spare-other : (it : Iteration) (w : VertexState) (i : ℕ) (t : VType) (a : Value) (j : ℕ) (u : VType) → i < positions → j < i → Shows it w → spare_at (with_spare w i t a) j u ≡ spare_at w j u
  spare-other it w i t a j u lt less q =
      after-set w.registers (c.spare_register i t) a (c.spare_register j u) (subst (λ m. c.spare_register i t < m) (sym (tupled.count it w q)) (spares.within i t lt))
      ∙ ap (λ b. if b then a else spare_at w j u) (ne_eqb (c.spare_register i t) (c.spare_register j u) (λ e. let z = spares.apart i j t u lt (omega (arith, less, lt)) e in absurd (omega (arith, z, less))))

  -- what is saved from a position on
  abbrev Saved : ℕ → List Target → List Value → VertexState → Type 0
  Saved i [] [] w = Unit {0}
  Saved i (t ∷ ts) (y ∷ ys) w = (spare_at w i (target_type c.declarations t) ≡ y) × Saved (suc i) ts ys w
  Saved i _ _ w = ⊥

  -- how the lines end that save values: the values are saved, and what stands before them stays; or the first fault
  abbrev Saves : ℕ → List Target → Iteration → VertexState → List Line → List Line → Result (List Value) Fault → Type 0
  Saves i ts it w ls rest (Ok ys) = (u : VertexState) × Shows it u × Saved i ts ys u × ((j : ℕ) (t : VType) → j < i → spare_at u j t ≡ spare_at w j t) × (run (ls ++ rest) 0 w ≡ run rest 0 u)
  Saves i ts it w ls rest (Err f) = (u : VertexState) × Gave (failed it f) u × (run (ls ++ rest) 0 w ≡ record { state = u; fault = Some (fault_of v f); skip = 0 })

  abbrev lines_for : ℕ → Key → List Target → List Expr → List Line
  lines_for i key ts es = save_lines keep i (paired (map (λ t. t.0) (with_types c ts)) (map (term v key) es))

  register-runs : (w : VertexState) (x : ℕ) (t : Term) (ls : List Line) (a : Value) → term_value (view s w) t ≡ Ok a → run (SetRegister x t ∷ ls) 0 w ≡ run ls 0 (record w { registers = slice_set w.registers x a })
  register-runs w x t ls a e = tupled.register_runs x t ls w ∙ ap (λ u. goes_on (line_ends w u (λ y. leaves (record w { registers = slice_set w.registers x y }))) (λ j z. run ls j z)) e

  register-faults : (w : VertexState) (x : ℕ) (t : Term) (ls : List Line) (f : Fault) → term_value (view s w) t ≡ Err (fault_of v f) → run (SetRegister x t ∷ ls) 0 w ≡ record { state = w; fault = Some (fault_of v f); skip = 0 }
  register-faults w x t ls f e = tupled.register_runs x t ls w ∙ ap (λ u. goes_on (line_ends w u (λ y. leaves (record w { registers = slice_set w.registers x y }))) (λ j z. run ls j z)) e

  save-ends : (ts : List Target) (es : List Expr) (i : ℕ) (key : Key) (it : Iteration) (w : VertexState) (rest : List Line) → same_length ts es ≡ true → list_all found es ≡ true → i + length ts ≤ positions → Shows it w
      → Saves i ts it w (lines_for i key ts es) rest (evaluated_all es (view_in loop m' it key)).rest
  save-ends [] [] i key it w rest l o le q = (w, q, tt, (λ j t lt. refl), refl)
  save-ends [] (e ∷ es) i key it w rest l o le q = absurd (both_ways false refl l)
  save-ends (t ∷ ts) [] i key it w rest l o le q = absurd (both_ways false refl l)
  save-ends (t ∷ ts) (e ∷ es) i key it w rest l o le q =
      by (evaluated e u).rest (rest-term v u (view s w) e (tupled.tells it w key e b.0 q))
      (λ y. save-ends ts es (suc i) key it (with_spare w i ty y) rest l b.1 (omega (arith, le)) (spare-shows it w i ty y lt q)) where
        u : View
        u = view_in loop m' it key

        b : (found e ≡ true) × (list_all found es ≡ true)
        b = both-true (found e) (list_all found es) o

        ty : VType
        ty = target_type c.declarations t

        more : List Line
        more = lines_for (suc i) key ts es

        lt : i < positions
        lt = omega (arith, le)

        then-rest : (y : Value) (a : Result (List Value) Fault) → term_value (view s w) (term v key e) ≡ Ok y → Saves (suc i) ts it (with_spare w i ty y) more rest a
            → Saves i (t ∷ ts) it w (SetRegister (c.spare_register i ty) (term v key e) ∷ more) rest (then_with a (λ xs. Ok (y ∷ xs)))
        then-rest y (Ok ys) f r = (
          r.0,
          r.1,
          (r.3 i ty (omega arith) ∙ spare-is it w i ty y lt q, r.2),
          (λ j t' less. r.3 j t' (omega (arith, less)) ∙ spare-other it w i ty y j t' lt less q),
          register-runs w (c.spare_register i ty) (term v key e) (more ++ rest) y f ∙ r.4,
        )
        then-rest y (Err g) f r = (r.0, r.1, register-runs w (c.spare_register i ty) (term v key e) (more ++ rest) y f ∙ r.2)

        by : (a : Answer) → term_value (view s w) (term v key e) ≡ answer_of v a → ((y : Value) → Saves (suc i) ts it (with_spare w i ty y) more rest (evaluated_all es u).rest)
            → Saves i (t ∷ ts) it w (SetRegister (c.spare_register i ty) (term v key e) ∷ more) rest (then_with a (λ x. then_with (evaluated_all es u).rest (λ xs. Ok (x ∷ xs))))
        by (Ok y) f go = then-rest y (evaluated_all es u).rest f (go y)
        by (Err g) f go = (w, tupled.gave_failed it w g q, register-faults w (c.spare_register i ty) (term v key e) (more ++ rest) g f)

  -- saved values stand beside the held ones
  pairs-have : (ts : List Target) (i : ℕ) (ys : List Value) (it : Iteration) (w : VertexState) → list_all mine ts ≡ true → Shows it w → Saved i ts ys w
      → Have (view s w) (saved_pairs keep i (with_types c ts)) ys (reads it.store (own_slots k ts))
  pairs-have [] i [] it w o q h = tt
  pairs-have [] i (y ∷ ys) it w o q h = absurd h
  pairs-have (t ∷ ts) i [] it w o q h = absurd h
  pairs-have (T.Scalar x at ∷ ts) i (y ∷ ys) it w o q h =
      let d = both-true (mine (T.Scalar x at)) (list_all mine ts) o in (ap Ok h.0, tupled.local_is it w x at d.0 q, pairs-have ts (suc i) ys it w d.1 q h.1)
  pairs-have (T.Property x p at ∷ ts) i (y ∷ ys) it w o q h =
      let d = both-true (mine (T.Property x p at)) (list_all mine ts) o in (ap Ok h.0, tupled.property_is it w x p at d.0 q, pairs-have ts (suc i) ys it w d.1 q h.1)

  saved-below : (ts : List Target) (i m : ℕ) (ys : List Value) (w u : VertexState) → i + length ts ≤ m → ((j : ℕ) (t : VType) → j < m → spare_at u j t ≡ spare_at w j t) → Saved i ts ys w → Saved i ts ys u
  saved-below [] i m [] w u le h z = tt
  saved-below [] i m (y ∷ ys) w u le h z = absurd z
  saved-below (t ∷ ts) i m [] w u le h z = absurd z
  saved-below (t ∷ ts) i m (y ∷ ys) w u le h z = (h i (target_type c.declarations t) (omega (arith, le)) ∙ z.0, saved-below ts (suc i) m ys w u (omega (arith, le)) h z.1)

  -- the tuple that is kept
  abbrev pub kept_of : Bool → List Value → List Value → List Value
  kept_of b ys held = if b then ys else held

  choice-value : (w : VertexState) (flag saved held : Term) (b : Bool) (y h : Value) → term_value (view s w) flag ≡ Ok (Flag b) → term_value (view s w) saved ≡ Ok y → term_value (view s w) held ≡ Ok h
      → term_value (view s w) (M.Choose flag saved held) ≡ Ok (if b then y else h)
  choice-value w flag saved held b y h e f g =
      ap (λ u. then_go u (λ z. if is_true z then term_value (view s w) saved else term_value (view s w) held)) e
      ∙ ap (λ u. if is_true (Flag b) then u else term_value (view s w) held) f
      ∙ ap (λ u. if is_true (Flag b) then Ok y else u) g
      ∙ by b where
        by : (b : Bool) → ◌≡◌ {A = Result Value MF.Fault} (if is_true (Flag b) then Ok y else Ok h) (Ok (if b then y else h))
        by true = refl
        by false = refl

  reads-away : (r : Store) (slot : Slot) (a : Value) (ss : List Slot) → has_slot slot ss ≡ false → reads (write r slot a) ss ≡ reads r ss
  reads-away r slot a [] h = refl
  reads-away r slot a (z ∷ ss) h =
      let t = neither (slot_eq slot z) (has_slot slot ss) h in
      ap (λ x. x ∷ reads (write r slot a) ss) (read-write r slot a z ∙ ap (λ b. if b then a else read r z) t.0) ∙ ap (λ l. read r z ∷ l) (reads-away r slot a ss t.1) where
        neither : (a b : Bool) → a || b ≡ false → (a ≡ false) × (b ≡ false)
        neither true b h = absurd (both_ways true h refl)
        neither false b h = (refl, h)

  -- the state after a target is set
  abbrev Sets : Iteration → VertexState → Slot → Value → (List Line → List Line) → Type 0
  Sets it w slot a line = (u : VertexState) × Shows (wrote it (slot, a)) u × ((j : ℕ) (t : VType) → j < positions → spare_at u j t ≡ spare_at w j t) × ((ls : List Line) → run (line ls) 0 w ≡ run ls 0 u)

  sets-local : (it : Iteration) (w : VertexState) (x : ℕ) (at : Place) (a : Value) (t : Term) → mine (T.Scalar x at) ≡ true → Shows it w → term_value (view s w) t ≡ Ok a → Sets it w (Scalar x) a (λ ls. SetRegister (c.register x) t ∷ ls)
  sets-local it w x at a t o q e =
      let d = both-true (nat_lt x (length c.declarations)) (is_register (variable_at c.declarations x)) (tupled.is_local_of x at o) in
      let lt = ltb-true x (length c.declarations) d.0 in (
        record w { registers = slice_set w.registers (c.register x) a },
        tupled.local it w x at a o q,
        (λ j u less.
            after-set w.registers (c.register x) a (c.spare_register j u) (subst (λ p. c.register x < p) (sym (tupled.count it w q)) (tupled.within x at o))
            ∙ ap (λ g. if g then a else spare_at w j u) (ne_eqb (c.register x) (c.spare_register j u) (spares.others j x u less lt d.1))),
        (λ ls. register-runs w (c.register x) t ls a e),
      )

  sets-field : (it : Iteration) (w : VertexState) (x p : ℕ) (at : Place) (a : Value) (t : Term) → mine (T.Property x p at) ≡ true → Shows it w → term_value (view s w) t ≡ Ok a → Sets it w (Node p k) a (λ ls. SetField (c.field p) t ∷ ls)
  sets-field it w x p at a t o q e = (
    record w { fields = slice_set w.fields (c.field p) a },
    tupled.field it w x p at a o q,
    (λ j u less. refl),
    (λ ls. tupled.field_runs (c.field p) t ls w ∙ ap (λ u. goes_on (line_ends w u (λ y. leaves (record w { fields = slice_set w.fields (c.field p) y }))) (λ j z. run ls j z)) e),
  )

  abbrev Takes : List Slot → List Value → Bool → Iteration → VertexState → List Line → List Line → Type 0
  Takes ss ys b it w ls rest = (u : VertexState) × Shows (wrote_all it (ss, kept_of b ys (reads it.store ss))) u × (run (ls ++ rest) 0 w ≡ run rest 0 u)

  finish : (it : Iteration) (slot : Slot) (ss : List Slot) (y : Value) (ys : List Value) (u : VertexState) (b : Bool) → has_slot slot ss ≡ false
      → Shows (wrote_all (wrote it (slot, if b then y else read it.store slot)) (ss, kept_of b ys (reads (write it.store slot (if b then y else read it.store slot)) ss))) u
      → Shows (wrote_all it (slot ∷ ss, kept_of b (y ∷ ys) (reads it.store (slot ∷ ss)))) u
  finish it slot ss y ys u true away h = h
  finish it slot ss y ys u false away h = subst (λ hs. Shows (wrote_all (wrote it (slot, read it.store slot)) (ss, hs)) u) (reads-away it.store slot (read it.store slot) ss away) h

  -- the lines that take what is saved where it is better
  take-ends : (ts : List Target) (i m : ℕ) (ys : List Value) (b : Bool) (it : Iteration) (w : VertexState) (rest : List Line) → list_all mine ts ≡ true → Distinct (own_slots k ts) → m < positions → i + length ts ≤ m → Shows it w
      → spare_at w m V.Flag ≡ Flag b → Saved i ts ys w → Takes (own_slots k ts) ys b it w (take_lines keep (keep.saved m V.Flag) i (with_types c ts)) rest
  take-ends [] i m [] b it w rest o d lt le q f z = (w, by b, refl) where
    by : (b : Bool) → Shows (wrote_all it ([], kept_of b [] [])) w
    by true = q
    by false = q
  take-ends [] i m (y ∷ ys) b it w rest o d lt le q f z = absurd z
  take-ends (t ∷ ts) i m [] b it w rest o d lt le q f z = absurd z
  take-ends (T.Scalar x at ∷ ts) i m (y ∷ ys) b it w rest o d lt le q f z =
      let l = both-true (mine (T.Scalar x at)) (list_all mine ts) o in
      let a = (if b then y else it.store.scalar x) in
      let one =
      sets-local it w x at a (M.Choose (keep.saved m V.Flag) (keep.saved i (target_type c.declarations (T.Scalar x at))) (keep.held (T.Scalar x at))) l.0 q
      (choice-value w (keep.saved m V.Flag) (keep.saved i (target_type c.declarations (T.Scalar x at))) (keep.held (T.Scalar x at)) b y (it.store.scalar x) (ap Ok f) (ap Ok z.0) (tupled.local_is it w x at l.0 q)) in
      let r =
      take-ends ts (suc i) m ys b (wrote it (Scalar x, a)) one.0 rest l.1 d.1 lt (omega (arith, le)) one.1 (one.2 m V.Flag lt ∙ f)
      (saved-below ts (suc i) m ys w one.0 (omega (arith, le)) (λ j u less. one.2 j u (omega (arith, less, lt))) z.1) in
      (r.0, finish it (Scalar x) (own_slots k ts) y ys r.0 b d.0 r.1, one.3 (take_lines keep (keep.saved m V.Flag) (suc i) (with_types c ts) ++ rest) ∙ r.2)
  take-ends (T.Property x p at ∷ ts) i m (y ∷ ys) b it w rest o d lt le q f z =
      let l = both-true (mine (T.Property x p at)) (list_all mine ts) o in
      let a = (if b then y else it.store.node p k) in
      let one =
      sets-field it w x p at a (M.Choose (keep.saved m V.Flag) (keep.saved i (target_type c.declarations (T.Property x p at))) (keep.held (T.Property x p at))) l.0 q
      (choice-value w (keep.saved m V.Flag) (keep.saved i (target_type c.declarations (T.Property x p at))) (keep.held (T.Property x p at)) b y (it.store.node p k) (ap Ok f) (ap Ok z.0) (tupled.property_is it w x p at l.0 q)) in
      let r =
      take-ends ts (suc i) m ys b (wrote it (Node p k, a)) one.0 rest l.1 d.1 lt (omega (arith, le)) one.1 (one.2 m V.Flag lt ∙ f)
      (saved-below ts (suc i) m ys w one.0 (omega (arith, le)) (λ j u less. one.2 j u (omega (arith, less, lt))) z.1) in
      (r.0, finish it (Node p k) (own_slots k ts) y ys r.0 b d.0 r.1, one.3 (take_lines keep (keep.saved m V.Flag) (suc i) (with_types c ts) ++ rest) ∙ r.2)

  -- the lines that keep a tuple do what the reduction does
  module _ (key : Key) (total : TotalKey) (r : Reduce) (t u : Target) (ts : List Target) (es : List Expr) (types : List VType) (it : Iteration) (w : VertexState) (rest : List Line)
      (keeps : keeps_tuples r ≡ true) (own : list_all mine (t ∷ (u ∷ ts)) ≡ true) (distinct : Distinct (own_slots k (t ∷ (u ∷ ts)))) (long : same_length (t ∷ (u ∷ ts)) es ≡ true) (found_all : list_all found es ≡ true)
      (room : length (t ∷ (u ∷ ts)) < positions) (q : Shows it w)
      (held_typed : AreOf types (reads it.store (own_slots k (t ∷ (u ∷ ts)))))
      (new_typed : (ys : List Value) → (evaluated_all es (view_in loop m' it key)).rest ≡ Ok ys → AreOf types ys) where
    abbrev all : List Target
    all = t ∷ (u ∷ ts)

    abbrev m : ℕ
    m = length (with_types c all)

    long-as : (us : List Target) → length (with_types c us) ≡ length us
    long-as [] = refl
    long-as (z ∷ us) = ap suc (long-as us)

    abbrev held : List Value
    held = reads it.store (own_slots k all)

    abbrev flag : Line
    flag = SetRegister (c.spare_register m V.Flag) (replacing (better r) (saved_pairs keep 0 (with_types c all)))

    abbrev takes : List Line
    takes = take_lines keep (keep.saved m V.Flag) 0 (with_types c all)

    abbrev saves : List Line
    saves = lines_for 0 key all es

    abbrev Ends' : List Line → Iteration → Option Fault → Type 0
    Ends' ls out f = Ending v run Shows Gave ls rest w out f

    abbrev out_of : Result (List Value) Fault → Iteration
    out_of a = with_ok it (then_with a (λ ys. then_with (tuple_held (view_in loop m' it key) total.place (close_slots r held (ys ∷ []))) (λ vs. Ok (own_slots k all, vs)))) (wrote_all it)

    by-values : (a : Result (List Value) Fault) → (evaluated_all es (view_in loop m' it key)).rest ≡ a → Saves 0 all it w saves ((flag ∷ takes) ++ rest) a → Ends' (saves ++ (flag ∷ takes)) (out_of a) (out_of a).fault
    by-values (Err f) e z = (z.0, z.1, ap (λ ls. run ls 0 w) (append_assoc saves (flag ∷ takes) rest) ∙ z.2)
    by-values (Ok ys) e z =
        let b = replaces r (map number_of held) (map number_of ys) in
        let fit : m < positions = subst (λ j. j < positions) (sym (long-as all)) room in
        let told = replacing-tells (view s z.0) r (saved_pairs keep 0 (with_types c all)) ys held keeps (pairs-have all 0 ys it z.0 own z.1 z.2) in
        let w2 = with_spare z.0 m V.Flag (Flag b) in
        let le : 0 + length all ≤ m = (let same = long-as all in omega (arith, same)) in
        let taken =
        take-ends all 0 m ys b it w2 rest own distinct fit le (spare-shows it z.0 m V.Flag (Flag b) fit z.1) (spare-is it z.0 m V.Flag (Flag b) fit z.1)
        (saved-below all 0 m ys z.0 w2 le (λ j t' less. spare-other it z.0 m V.Flag (Flag b) j t' fit less z.1) z.2) in
        let kept : close_slots r held (ys ∷ []) ≡ Some (kept_of b ys held) = tuples-kept r types held ys (two-held k it.store t u ts) held_typed (new_typed ys e) in
        subst (λ o. Ends' (saves ++ (flag ∷ takes)) (with_ok it (then_with (tuple_held (view_in loop m' it key) total.place o) (λ vs. Ok (own_slots k all, vs))) (wrote_all it)) (with_ok it (then_with (tuple_held (view_in loop m' it key) total.place o) (λ vs. Ok (own_slots k all, vs))) (wrote_all it)).fault)
        (sym kept)
        (subst (Ends' (saves ++ (flag ∷ takes)) (wrote_all it (own_slots k all, kept_of b ys held))) (sym (tupled.fine it w q)) (
          taken.0,
          taken.1,
          ap (λ ls. run ls 0 w) (append_assoc saves (flag ∷ takes) rest) ∙ z.4 ∙ register-runs z.0 (c.spare_register m V.Flag) (replacing (better r) (saved_pairs keep 0 (with_types c all))) (takes ++ rest) (Flag b) told ∙ taken.2,
        ))

    pub tuple-goes : let out = does (S.Combine key total r all es) m' loop it in Ends' (kept_lines keep r (with_types c all) (map (term v key) es)) out out.fault
    tuple-goes =
        subst (λ out. Ends' (kept_lines keep r (with_types c all) (map (term v key) es)) out out.fault)
        (sym (tupled.now it w key total r t u ts es own found_all q))
        (by-values (evaluated_all es (view_in loop m' it key)).rest refl (save-ends all es 0 key it w ((flag ∷ takes) ++ rest) long found_all (omega (arith, room)) q))

-- an own site keeps tuples
module _ (c : Layout) (seg : Segment) (loop : Loop) (k registers fields places : ℕ) (s : VertexContext)
    (apart : IsApart c registers fields)
    (unlike : is_register (variable_at c.declarations loop.outer) ≡ false)
    (type_is : (x : ℕ) → loop.vtype x ≡ (variable_at c.declarations x).vtype)
    (depth_is : (x : ℕ) → loop.depth x ≡ (variable_at c.declarations x).depth)
    (Gave : Iteration → VertexState → Type 0) (giving : O.Giving c (own_env c seg loop.outer) Gave)
    (positions : ℕ) (spares : HasSpares c registers positions) where
  abbrev n' : ℕ
  n' = loop.outer

  abbrev v' : Env
  v' = own_env c seg n'

  abbrev OwnShown : Iteration → VertexState → Type 0
  OwnShown = O.Shows c seg loop k registers fields places s apart unlike type_is depth_is Gave giving

  found-local : (x : ℕ) → is_local c x ≡ true → finds_scalar c (n' ∷ []) x ≡ true
  found-local x o =
      let d = both-true (nat_lt x (length c.declarations)) (is_register (variable_at c.declarations x)) o in
      by d.0 (ap (λ b. b || is Sorts.Iterator (variable_at c.declarations x)) (both-true (is Sorts.Scalar (variable_at c.declarations x)) (not (nat_eq (variable_at c.declarations x).depth 0)) d.1).0) (nat_eq x n' || false) where
        by : nat_lt x (length c.declarations) ≡ true → has_value (variable_at c.declarations x) ≡ true → (b : Bool) → b || (nat_lt x (length c.declarations) && has_value (variable_at c.declarations x)) ≡ true
        by e f true = refl
        by e f false = ap (λ b. b && has_value (variable_at c.declarations x)) e ∙ f

  own-spared : (it : Iteration) (w : VertexState) (i : ℕ) (t : VType) (a : Value) → i < positions → OwnShown it w → OwnShown it (record w { registers = slice_set w.registers (c.spare_register i t) a })
  own-spared it w i t a lt q = (
    record {
      fine = q.0.fine;
      node = q.0.node;
      graph = q.0.graph;
      inside = q.0.inside;
      at_node = q.0.at_node;
      phase = q.0.phase;
      in_graph = q.0.in_graph;
      locals = λ x l e.
          after-set w.registers (c.spare_register i t) a (c.register x) (subst (λ j. c.spare_register i t < j) (sym q.0.register_count) (spares.within i t lt))
          ∙ ap (λ b. if b then a else value_at w.registers (c.register x)) (ne_eqb (c.spare_register i t) (c.register x) (λ e'. spares.others i x t lt l e (sym e')))
          ∙ q.0.locals x l e;
      properties = q.0.properties;
      register_count = length-set w.registers (c.spare_register i t) a ∙ q.0.register_count;
      field_count = q.0.field_count;
    },
    giving.stays it it w (record w { registers = slice_set w.registers (c.spare_register i t) a }) refl refl refl refl (giving.folds it w q.1) refl q.1,
  )

  own-tupled : Tupled (own_site c seg n') loop Outermost k registers positions s (body_after places s) OwnShown Gave (own_finds c n') (is_own_target c n')
  own-tupled = record {
    register_runs = λ x t ls w. refl;
    field_runs = λ x t ls w. refl;
    fine = λ it w q. q.0.fine;
    gave_failed = λ it w f q. O.gave-failed c seg loop k registers fields places s apart unlike type_is depth_is Gave giving it w f q.1;
    tells = O.tells c seg loop k registers fields places s apart unlike type_is depth_is Gave giving;
    local_is = λ it w x at o q. O.scalar-is c seg loop k registers fields places s apart unlike type_is depth_is Gave giving it w x (found-local x o) q;
    property_is = λ it w x p at o q. ap Ok (q.0.properties p (both-true (nat_eq x n') (c.is_kept p) o).1);
    count = λ it w q. q.0.register_count;
    spared = own-spared;
    is_local_of = λ x at o. o;
    within = λ x at o. let d = both-true (nat_lt x (length c.declarations)) (is_register (variable_at c.declarations x)) o in apart.register_within x (ltb-true x (length c.declarations) d.0) d.1;
    local = λ it w x at a o q. O.local c seg loop k registers fields places s apart unlike type_is depth_is Gave giving it w x a o q;
    field = λ it w x p at a o q. O.field c seg loop k registers fields places s apart unlike type_is depth_is Gave giving it w p a (both-true (nat_eq x n') (c.is_kept p) o).1 q;
    now = λ it w key total r t u ts es o f q.
        tuple-now c loop k depth_is it key total r t u ts es o
        (none-hoisted v' (view_in loop Outermost it key) (view s w) es refl (O.all-tell c seg loop k registers fields places s apart unlike type_is depth_is Gave giving it w key es f q))
        (ap (node_in loop.graph) q.0.at_node ∙ node-in loop.graph k q.0.inside);
  }

  pub tuple-ends : (key : Key) (total : TotalKey) (r : Reduce) (t u : Target) (ts : List Target) (es : List Expr) (types : List VType) (it : Iteration) (w : VertexState) (rest : List Line)
      → keeps_tuples r ≡ true → are_own c n' (t ∷ (u ∷ ts)) ≡ true → Distinct (own_slots k (t ∷ (u ∷ ts))) → same_length (t ∷ (u ∷ ts)) es ≡ true → list_all (own_finds c n') es ≡ true
      → length (t ∷ (u ∷ ts)) < positions → OwnShown it w
      → AreOf types (reads it.store (own_slots k (t ∷ (u ∷ ts)))) → ((ys : List Value) → (evaluated_all es (view_in loop Outermost it key)).rest ≡ Ok ys → AreOf types ys)
      → let out = does (S.Combine key total r (t ∷ (u ∷ ts)) es) Outermost loop it in
      Ending v' (body_after places s) OwnShown Gave (kept_lines (keeping (own_site c seg n')) r (with_types c (t ∷ (u ∷ ts))) (map (term v' key) es)) rest w out out.fault
  tuple-ends key total r t u ts es types it w rest keeps own distinct long found room q held_typed new_typed =
      tuple-goes (own_site c seg n') loop Outermost k registers positions s (body_after places s) OwnShown Gave (own_finds c n') (is_own_target c n') own-tupled spares
      key total r t u ts es types it w rest keeps own distinct long found room q held_typed new_typed

pub tuple-lines : TupleLinesKeep
tuple-lines c seg registers fields places positions loop k s key total r t u ts es types it w rest apart spares unlike type_is depth_is keeps own distinct long found room shows gave held_typed new_typed =
    by (does (S.Combine key total r (t ∷ (u ∷ ts)) es) Outermost loop it).fault
    (tuple-ends c seg loop k registers fields places s apart unlike type_is depth_is (λ it' w'. OwnGave c (own_env c seg loop.outer) it' w') (O.own-giving c (own_env c seg loop.outer)) positions spares key total r t u ts es types it w rest keeps own distinct long found room (shows, gave) held_typed new_typed) where
      by : (o : Option Fault)
          → Ending (own_env c seg loop.outer) (body_after places s) (O.Shows c seg loop k registers fields places s apart unlike type_is depth_is (λ it' w'. OwnGave c (own_env c seg loop.outer) it' w') (O.own-giving c (own_env c seg loop.outer))) (OwnGave c (own_env c seg loop.outer)) (kept_lines (keeping (own_site c seg loop.outer)) r (with_types c (t ∷ (u ∷ ts))) (map (term (own_env c seg loop.outer) key) es)) rest w (does (S.Combine key total r (t ∷ (u ∷ ts)) es) Outermost loop it) o
          → LinesEnd c seg loop k registers fields places s (kept_lines (keeping (own_site c seg loop.outer)) r (with_types c (t ∷ (u ∷ ts))) (map (term (own_env c seg loop.outer) key) es)) rest w (does (S.Combine key total r (t ∷ (u ∷ ts)) es) Outermost loop it) o
      by None e = e
      by (Some f) e = e
