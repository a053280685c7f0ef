-- The step of a vertex with an own loop's block is the loop's iteration.
use Rattle.std.proofs.Common.{◌≡◌, ℕ, suc, Bool, true, false, Option, Some, None, Result, Ok, Err, List, [], ◌∷◌, ◌++◌, length, map, refl, ap, ◌∙◌, sym, subst}
use Rattle.std.specs.Prelude.{if◌then◌else◌, nat_eq}
use Rattle.std.proofs.lemmas.Bool.{both_ways, ne_eqb, eq-eqb, eqb-false}
use Rattle.std.proofs.lemmas.List.{append-nil}
use Rattle.gm_value.specs.declared.values.Value.{Value}
use Rattle.gm_value.specs.declared.values.Value.TheVariants.{Flag, At}
use Rattle.gm_value.specs.declared.reductions.Reduce.{Reduce}
use Rattle.gm_value.specs.Numbers.{zero_of}
use Rattle.gm_value.specs.Operations.{is_true}
use Rattle.gm_ast.specs.declared.tree.Key.{Key}
use Rattle.gm_ast.specs.declared.tree.Target.{Target}
use Rattle.gm_ast.specs.Program.{Expr, Stmt}
use Rattle.gm_semantics.specs.declared.faults.Fault.{Fault}
use Rattle.gm_semantics.specs.declared.slots.Slot.TheVariants.{Scalar}
use Rattle.gm_semantics.specs.Expressions.{Answer, value}
use Rattle.gm_semantics.specs.Statements.{variable_at}
use Rattle.gm_semantics.specs.Stores.{Store, write}
use Rattle.gm_semantics.specs.Iterations.{Loop, Mode, Outermost, Iteration, begun, view_in, with_ok, one_way, as_it_is, does}
use Rattle.gm_semantics.specs.Loops.{iteration}
use Rattle.gm_image.specs.Term as M
use Rattle.gm_image.specs.Term.{Term}
use Rattle.gm_image.specs.Program as image
use Rattle.gm_image.specs.Program.{Line, Block}
use Rattle.gm_machine.specs.declared.faults.Fault as MF
use Rattle.gm_machine.specs.Expressions.{value as term_value}
use Rattle.gm_machine.specs.Machine.{context_at}
use Rattle.gm_machine.specs.Vertex.{VertexContext, VertexState, After, view, goes_on, body_after, begun as begin, vertex_after}
use Rattle.gm_machine.proofs.SlotSteps.{folded-nothing}
use Rattle.gm_lowering.specs.Bodies.{Site, under, lines_of}
use Rattle.gm_lowering.specs.Layouts.{Layout, is_register}
use Rattle.gm_lowering.specs.Places.{Segment}
use Rattle.gm_lowering.specs.Terms.{term, own_env}
use Rattle.gm_lowering.specs.Blocks.{own_site}
use Rattle.gm_lowering.specs.Showing.{fault_of, answer_of}
use Rattle.gm_lowering.specs.Sites.{is_body, IsInGraph, OwnGave}
use Rattle.gm_lowering.specs.OwnLoops.{own_finds, own_sets, own_gives, fold_spots, HaveIndices, own_block, IsOwnLoop, NodeShows, StepEnds, OwnStepsAreIterations, PicksTyped}
use Rattle.gm_lowering.proofs.Own.{Shows, own-giving}
use Rattle.gm_lowering.proofs.OwnGives.{own-holds}
use Rattle.gm_lowering.proofs.Bodies.{Ends, Holds, past, skips, skip-faults, value-of, ends-by, body-ends}
use Rattle.gm_value.specs.declared.values.VType.{VType}
use Rattle.gm_typed_stores.specs.Tells.{TypeTable}

module _ (site : Site) (loop : Loop) (m : Mode) (s : VertexContext) (run : List Line → ℕ → VertexState → After) (Shows Gave : Iteration → VertexState → Type 0) (found : Expr → Bool) (sets : ℕ → ℕ → Bool) (gives : Reduce → List Target → List Expr → Bool) {Placed : ℕ → Stmt → Iteration → Type 0} (h : Holds site loop m s run Shows Gave found sets gives Placed) where
  abbrev Ending : List Line → List Line → VertexState → Iteration → Option Fault → Type 0
  Ending = Ends site.env run Shows Gave

  -- lines under a condition that has a value, where it stands at their head
  skipped-under : (ls rest : List Line) (w : VertexState) (t : Term) (z : Value) (x : Bool) (go : Iteration → Iteration) (it : Iteration)
      → term_value (view s w) t ≡ Ok z → is_true z ≡ x → Shows it w
      → Ending ls rest w (go it) (go it).fault
      → Ending (image.Skip (length ls) t ∷ ls) rest w (one_way x go as_it_is it) (one_way x go as_it_is it).fault
  skipped-under ls rest w t z true go it e i o q =
      ends-by site loop m s run Shows Gave found sets gives h (image.Skip (length ls) t ∷ ls) rest ls rest w w (go it) (go it).fault
      (skips site loop m s run Shows Gave found sets gives h (length ls) t (ls ++ rest) w z e ∙ ap (λ b. run (ls ++ rest) (if b then 0 else length ls) w) i)
      (λ u. refl) q
  skipped-under ls rest w t z false go it e i o q =
      subst (Ending (image.Skip (length ls) t ∷ ls) rest w it) (sym (h.fine it w o)) (
        w,
        o,
        skips site loop m s run Shows Gave found sets gives h (length ls) t (ls ++ rest) w z e
            ∙ ap (λ b. run (ls ++ rest) (if b then 0 else length ls) w) i
            ∙ past site loop m s run Shows Gave found sets gives h ls rest w,
      )

  -- the same where the condition may fault
  head-ends : (ls rest : List Line) (w : VertexState) (t : Term) (r : Answer) (go : Iteration → Iteration) (it : Iteration) → Shows it w
      → term_value (view s w) t ≡ answer_of site.env r
      → Ending ls rest w (go it) (go it).fault
      → let out = with_ok it r (λ z. one_way (is_true z) go as_it_is it) in Ending (image.Skip (length ls) t ∷ ls) rest w out out.fault
  head-ends ls rest w t (Ok z) go it o e q = skipped-under ls rest w t z (is_true z) go it e refl o q
  head-ends ls rest w t (Err f) go it o e q =
      (w, h.gave_failed it w f (h.gave it w o), skip-faults site loop m s run Shows Gave found sets gives h (length ls) t (ls ++ rest) w (fault_of site.env f) e)

  -- a condition that is a constant True is left out
  always-ends : (ls rest : List Line) (w : VertexState) (r : Answer) (go : Iteration → Iteration) (it : Iteration)
      → Ok (Flag true) ≡ answer_of site.env r
      → Ending ls rest w (go it) (go it).fault
      → let out = with_ok it r (λ z. one_way (is_true z) go as_it_is it) in Ending ls rest w out out.fault
  always-ends ls rest w (Ok z) go it e q = by (is_true z) (ap true_or e) where
    true_or : Result Value MF.Fault → Bool
    true_or (Ok y) = is_true y
    true_or (Err f) = true

    by : (x : Bool) → true ≡ x → Ending ls rest w (one_way x go as_it_is it) (one_way x go as_it_is it).fault
    by true i = q
    by false i = absurd (both_ways false refl (sym i))
  always-ends ls rest w (Err f) go it e q = absurd (both_ways false refl (ap is_ok e)) where
    is_ok : {A B : Type 0} → Result A B → Bool
    is_ok (Ok y) = false
    is_ok (Err g) = true

  -- lines under a filter
  pub under-ends : (ls rest : List Line) (w : VertexState) (t : Term) (r : Answer) (go : Iteration → Iteration) (it : Iteration) → Shows it w
      → term_value (view s w) t ≡ answer_of site.env r
      → Ending ls rest w (go it) (go it).fault
      → let out = with_ok it r (λ z. one_way (is_true z) go as_it_is it) in Ending (under t ls) rest w out out.fault
  under-ends ls rest w (M.Const (Flag true)) r go it o e q = always-ends ls rest w r go it e q
  under-ends ls rest w t r go it o e q = head-ends ls rest w t r go it o e q

  -- the lines of a body under its filter
  pub filtered-ends : (key : Key) (test : Expr) (body : Stmt) (kind : ℕ) → found test ≡ true → is_body site.layout found sets gives body ≡ true → (it : Iteration) → Placed kind body it → (w : VertexState) (rest : List Line) → Shows it w
      → let out = with_ok it (value test (view_in loop m it key)) (λ z. one_way (is_true z) (does body m loop) as_it_is it) in
      Ending (under (term site.env key test) (lines_of site kind body)) rest w out out.fault
  filtered-ends key test body kind o i it here w rest q =
      under-ends (lines_of site kind body) rest w (term site.env key test) (value test (view_in loop m it key)) (does body m loop) it q
      (value-of site loop m s run Shows Gave found sets gives h it w key test o q)
      (body-ends site loop m s run Shows Gave found sets gives h body kind i it here w rest q)

-- a vertex with no handlers and no messages begins with its body
pub body-alone : (p : image.Program) (s : VertexContext) (body : List Line) (fields : List Value)
    → vertex_after p (record { handlers = []; body = body }) s [] fields ≡ body_after (length p.places) s body 0 (begin p.registers fields)
body-alone p s body fields =
    ap (λ a. goes_on a (λ k w. body_after (length p.places) s body 0 w)) (folded-nothing (length p.places) (begin p.registers fields) None 0 refl)

-- an iteration begins as its vertex does
module _ (c : Layout) (seg : Segment) (p : image.Program) (fields : ℕ) (loop : Loop) (kind : ℕ) (key : Key) (test : Expr) (body : Stmt) (globals values : List Value) (k : ℕ) (r : Store)
    (is : IsOwnLoop c p.registers fields loop test body) (shows : NodeShows c loop.graph p.registers fields globals values k r) where
  abbrev n : ℕ
  n = loop.outer

  abbrev start : Iteration
  start = begun (write r (Scalar n) (At (Some k)))

  abbrev s : VertexContext
  s = context_at loop.graph globals k

  abbrev first : VertexState
  first = begin p.registers values

  abbrev out : Iteration
  out = iteration loop key test body r k

  turned : (x y : ℕ) → nat_eq x y ≡ false → nat_eq y x ≡ false
  turned x y e = ne_eqb y x (λ i. eqb-false x y e (sym i))

  pub begins : Shows c seg loop k (length p.registers) fields (length p.places) s is.apart is.iterator is.types is.depths (λ it' w'. OwnGave c (own_env c seg n) it' w') (own-giving c (own_env c seg n)) start first
  begins = (
    record {
      fine = refl;
      node = refl;
      graph = refl;
      inside = shows.inside;
      at_node = ap (λ b. if b then At (Some k) else r.scalar n) (eq-eqb n n refl);
      phase = λ x f lt e g. shows.phase.scalar x lt e g ∙ sym (ap (λ b. if b then At (Some k) else r.scalar x) (turned x n f));
      in_graph = λ x f lt e. subst (IsInGraph loop.graph) (sym (ap (λ b. if b then At (Some k) else r.scalar x) (turned x n f))) (shows.phase.in_graph x lt e);
      locals = λ x lt e. shows.locals x lt e ∙ sym (ap (λ b. if b then At (Some k) else r.scalar x) (unlike x e));
      properties = shows.properties;
      register_count = length-map zero_of p.registers;
      field_count = shows.field_count;
    },
    record { puts = refl; folds = refl; messages = refl; inner = refl; deferred = refl },
  ) where
    unlike : (x : ℕ) → is_register (variable_at c.declarations x) ≡ true → nat_eq n x ≡ false
    unlike x e = ne_eqb n x (λ i. both_ways (is_register (variable_at c.declarations x)) (ap (λ z. is_register (variable_at c.declarations z)) (sym i) ∙ is.iterator) e)

    length-map : {A B : Type 0} (f : A → B) (xs : List A) → length (map f xs) ≡ length xs
    length-map f [] = refl
    length-map f (x ∷ xs) = ap suc (length-map f xs)

  abbrev block_lines : List Line
  block_lines = under (term (own_env c seg n) key test) (lines_of (own_site c seg n) kind body)

  -- the step is the run of the body's lines
  step-is : vertex_after p (own_block c seg n kind key test body) s [] values ≡ body_after (length p.places) s (block_lines ++ []) 0 first
  step-is = body-alone p s block_lines values ∙ ap (λ ls. body_after (length p.places) s ls 0 first) (sym (append-nil block_lines))

  ends-as : (f : Option Fault) → Ends (own_env c seg n) (body_after (length p.places) s) (Shows c seg loop k (length p.registers) fields (length p.places) s is.apart is.iterator is.types is.depths (λ it' w'. OwnGave c (own_env c seg n) it' w') (own-giving c (own_env c seg n))) (OwnGave c (own_env c seg n)) block_lines [] first out f
      → StepEnds c (own_env c seg n) fields k out (vertex_after p (own_block c seg n kind key test body) s [] values) f
  ends-as None e =
      subst (λ a. StepEnds c (own_env c seg n) fields k out a None) (sym (step-is ∙ e.2)) (refl, e.1.0.properties, e.1.0.field_count, e.1.1)
  ends-as (Some f) e =
      subst (λ a. StepEnds c (own_env c seg n) fields k out a (Some f)) (sym (step-is ∙ e.2)) (refl, e.1)

  pub own-step : (table : TypeTable) (its : List ℕ) (result : Option VType) → HaveIndices seg (length p.places) (fold_spots c n body) → PicksTyped c table its result loop body start → StepEnds c (own_env c seg n) fields k out (vertex_after p (own_block c seg n kind key test body) s [] values) out.fault
  own-step table its result room typed =
      let v = own_env c seg n in
      let sh = Shows c seg loop k (length p.registers) fields (length p.places) s is.apart is.iterator is.types is.depths (λ it' w'. OwnGave c (own_env c seg n) it' w') (own-giving c (own_env c seg n)) in
      ends-as out.fault (
      filtered-ends (own_site c seg n) loop Outermost s (body_after (length p.places) s) sh (OwnGave c v) (own_finds c n) (own_sets c n) (own_gives c n (own_finds c n))
      (own-holds c seg loop k (length p.registers) fields (length p.places) s is.apart is.iterator is.types is.depths (λ it' w'. OwnGave c (own_env c seg n) it' w') (own-giving c (own_env c seg n)) table its result)
      key test body kind is.found is.fits start (room, typed, is.spares) first [] begins)

pub own-steps : OwnStepsAreIterations
own-steps c seg p fields loop kind key test body globals values k r table its result is room typed shows = own-step c seg p fields loop kind key test body globals values k r is shows table its result room typed
