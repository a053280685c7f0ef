-- What the body of an each keeps in its locals, whatever the registers held: what its turn keeps there, whose values have types.
use Rattle.std.proofs.Common.{◌≡◌, ◌⊎◌, inl, inr, ◌<◌, ℕ, suc, Bool, true, false, Option, None, Ok, Err, List, [], ◌∷◌, length, map, refl, ap, ◌∙◌, sym, subst, arith, ⊎_elim, IfOk}
use Rattle.std.specs.Prelude.{◌&&◌, ◌||◌, not, if◌then◌else◌, nat_eq, nat_lt, slice_set}
use Rattle.std.specs.List.{list_all, list_any}
use Rattle.std.proofs.lemmas.Bool.{both_ways, eqb-true, ne_eqb, eq-eqb, ltb-true}
use Rattle.std.proofs.lemmas.List.{length-set}
use Rattle.gm_base.specs.declared.places.Place.{Place}
use Rattle.gm_value.specs.declared.values.VType.{VType}
use Rattle.gm_value.specs.declared.values.Value.{Value}
use Rattle.gm_value.specs.declared.reductions.Reduce.{Reduce}
use Rattle.gm_value.specs.Laws.{AreOf}
use Rattle.gm_ast.specs.declared.tree.Key.{Key}
use Rattle.gm_ast.specs.declared.tree.Sort.TheVariants as Sorts
use Rattle.gm_ast.specs.declared.tree.Target.{Target}
use Rattle.gm_ast.specs.declared.tree.Target.TheVariants as T
use Rattle.gm_ast.specs.declared.tree.TotalKey.{TotalKey}
use Rattle.gm_ast.specs.Names.{is}
use Rattle.gm_ast.specs.Program as S
use Rattle.gm_ast.specs.Program.{Expr, Stmt}
use Rattle.gm_ast.specs.Ways.{is_in}
use Rattle.gm_forms.specs.Typing.{type_at, keeps_tuples}
use Rattle.gm_forms.proofs.Named.{both-true}
use Rattle.gm_semantics.specs.declared.faults.Fault.{Fault}
use Rattle.gm_semantics.specs.declared.slots.Slot.TheVariants.{Scalar}
use Rattle.gm_semantics.specs.Expressions.{Answer, evaluated, evaluated_all}
use Rattle.gm_semantics.specs.Iterations.{Loop, Mode, AtEdge, WithInner, WithOutermost, Iteration, ends_of_all, view_in, with_ok, wrote, does}
use Rattle.gm_semantics.specs.Levels.{node_in}
use Rattle.gm_semantics.specs.Statements.{variable_at}
use Rattle.gm_semantics.specs.Stores.{reads}
use Rattle.gm_typed_stores.specs.Tells.{TypeTable}
use Rattle.gm_typed_stores.specs.Values.{IsValue}
use Rattle.gm_image.specs.Program.{Line, SetRegister}
use Rattle.gm_image.specs.Term as M
use Rattle.gm_image.specs.Term.{Term}
use Rattle.gm_machine.specs.Expressions.{value as term_value, value_at}
use Rattle.gm_machine.specs.Vertex.{VertexContext, VertexState, After, view, line_ends, leaves, goes_on, lines_after}
use Rattle.gm_lowering.specs.Layouts.{Layout, is_register, has_value, body_positions}
use Rattle.gm_lowering.specs.Places.{Segment}
use Rattle.gm_lowering.specs.Terms.{Env, term, each_env}
use Rattle.gm_lowering.specs.Plans.{SenderItself, loads_in, way_of}
use Rattle.gm_lowering.specs.Bodies.{Site, reduce_lines, better, compared}
use Rattle.gm_lowering.specs.Blocks.{FirstUse, Unused, Set, Read, next_use, use_if, first_use, reads_scalar, names_scalar, each_site}
use Rattle.gm_lowering.specs.Showing.{answer_of}
use Rattle.gm_lowering.specs.Sites.{finds, is_local, is_body, IsApart}
use Rattle.gm_lowering.specs.OwnLoops.{HasSpares}
use Rattle.gm_lowering.specs.MessageLoops.{sets_nothing, is_inner_local, is_inner_target, picks_inside, tuples_inside}
use Rattle.gm_lowering.specs.TupleLines.{own_slots}
use Rattle.gm_lowering.specs.HomeTurns.{is_at_edge, home_finds}
use Rattle.gm_lowering.proofs.Bodies.{Ends as Ending, Holds}
use Rattle.gm_lowering.proofs.FirstUses.{SameGiven, Near, Known, EndsSo, weaker, eval-near, all-near, does-near, read-first, read-second, or-left, or-right}
use Rattle.gm_lowering.proofs.Givens.{AllTell, none-hoisted, node-in}
use Rattle.gm_lowering.proofs.Homes.{HomeShows}
use Rattle.gm_lowering.proofs.InnerPicks.{inner-now, is-inside, inside-way}
use Rattle.gm_lowering.proofs.Own.{after-set}
use Rattle.gm_lowering.proofs.OwnTuples.{all-inside, inner-tuple-now}
use Rattle.gm_lowering.proofs.Picks.{Typed, kept_value, pick-of, held-typed, value-typed, pick-term, picks-way}
use Rattle.gm_lowering.proofs.Spots.{PartsReady}
use Rattle.gm_lowering.proofs.Terms.{rest-term, hoisted-parallel}
use Rattle.gm_lowering.proofs.TupleFacts.{tuple-spares, own-distinct, types_of_all, held-typed as tuple-held-typed, new-typed as tuple-new-typed, spares-first, spares-second}
use Rattle.gm_lowering.proofs.TupleLines.{Tupled, tuple-goes}

or-cases : {A : Type 0} (a : Bool) {b : Bool} → a || b ≡ true → (a ≡ true → A) → (b ≡ true → A) → A
or-cases true h f g = f refl
or-cases false h f g = g h

-- what an each finds: edges through its two iterators, which are no locals
module _ (c : Layout) (n i : ℕ) where
  pub each-loosen : (e : Expr) → home_finds c n i e ≡ true → finds c (n ∷ i ∷ []) true e ≡ true
  each-loosen e h = (both-true (finds c (n ∷ i ∷ []) true e) (list_all is_at_edge (loads_in i e)) h).0

  not-local : (x : ℕ) → is_register (variable_at c.declarations x) ≡ false → is_local c x ≡ false
  not-local x e = by (nat_lt x (length c.declarations)) where
    by : (b : Bool) → b && is_register (variable_at c.declarations x) ≡ false
    by true = e
    by false = refl

  pub each-no-local : is_register (variable_at c.declarations n) ≡ false → is_register (variable_at c.declarations i) ≡ false → (x : ℕ) → is_in (n ∷ i ∷ []) x ≡ true → is_local c x ≡ false
  each-no-local outer inner x o = by (nat_eq x n) (nat_eq x i) refl refl o where
    by : (a b : Bool) → nat_eq x n ≡ a → nat_eq x i ≡ b → a || (b || false) ≡ true → is_local c x ≡ false
    by true b e f o = ap (is_local c) (eqb-true x n e) ∙ not-local n outer
    by false true e f o = ap (is_local c) (eqb-true x i f) ∙ not-local i inner
    by false false e f o = absurd (both_ways false refl o)

  pub each-apart : is_register (variable_at c.declarations n) ≡ false → (x : ℕ) → is_local c x ≡ true → nat_eq x n ≡ false
  each-apart outer x o =
      ne_eqb x n (λ z. both_ways (is_register (variable_at c.declarations x)) (ap (λ y. is_register (variable_at c.declarations y)) z ∙ outer) (both-true (nat_lt x (length c.declarations)) (is_register (variable_at c.declarations x)) o).1)

  -- it tells its locals
  pub each-local : (x : ℕ) (at : Place) → is_local c x ≡ true → home_finds c n i (S.Var x at) ≡ true
  each-local x at o =
      let d = both-true (nat_lt x (length c.declarations)) (is_register (variable_at c.declarations x)) o in
      ap (λ b. b && list_all is_at_edge (loads_in i (S.Var x at)))
      (known d.0 (ap (λ b. b || is Sorts.Iterator (variable_at c.declarations x)) (both-true (is Sorts.Scalar (variable_at c.declarations x)) (not (nat_eq (variable_at c.declarations x).depth 0)) d.1).0) (is_in (n ∷ i ∷ []) x))
      ∙ itself (nat_eq x i) where
        known : nat_lt x (length c.declarations) ≡ true → has_value (variable_at c.declarations x) ≡ true → (b : Bool) → b || (nat_lt x (length c.declarations) && has_value (variable_at c.declarations x)) ≡ true
        known e f true = refl
        known e f false = ap (λ b. b && has_value (variable_at c.declarations x)) e ∙ f

        itself : (b : Bool) → list_all is_at_edge (if b then SenderItself ∷ [] else []) ≡ true
        itself true = refl
        itself false = refl

-- a reduction that keeps what locals hold ends at once
pub kept-inside : (c : Layout) (loop : Loop) (edge : ℕ) (found : Expr → Bool) (r : Reduce) (ts : List Target) (es : List Expr) → ((x : ℕ) → loop.depth x ≡ (variable_at c.declarations x).depth)
    → picks_inside c found r ts es || tuples_inside c found r ts es ≡ true → EndsSo c loop (AtEdge edge) ts × (list_all found es ≡ true)
kept-inside c loop edge found r ts es depth_is o = or-cases (picks_inside c found r ts es) o (pick ts es) (keep ts es) where
  pick : (ts : List Target) (es : List Expr) → picks_inside c found r ts es ≡ true → EndsSo c loop (AtEdge edge) ts × (list_all found es ≡ true)
  pick [] es o = absurd (both_ways false refl o)
  pick (T.Property x p at ∷ ts) es o = absurd (both_ways false refl o)
  pick (T.Scalar x at ∷ (t ∷ ts)) es o = absurd (both_ways false refl o)
  pick (T.Scalar x at ∷ []) [] o = absurd (both_ways false refl o)
  pick (T.Scalar x at ∷ []) (e ∷ (d ∷ es)) o = absurd (both_ways false refl o)
  pick (T.Scalar x at ∷ []) (e ∷ []) o =
      let a = both-true (is_inner_local c x) (found e) (both-true (keeps_tuples r) (is_inner_local c x && found e) o).1 in
      (inr (inr (inner-now c loop depth_is edge x a.0, ap (λ b. b && true) a.0)), ap (λ b. b && true) a.1)

  keep : (ts : List Target) (es : List Expr) → tuples_inside c found r ts es ≡ true → EndsSo c loop (AtEdge edge) ts × (list_all found es ≡ true)
  keep [] es o = absurd (both_ways false refl o)
  keep (t ∷ []) es o = absurd (both_ways false refl o)
  keep (t ∷ (u ∷ ts)) es o =
      let i = is-inside c loop depth_is found r t u ts es o in
      (inr (inr (all-inside c loop 0 depth_is edge (t ∷ (u ∷ ts)) i.inner, i.inner)), i.found_all)

-- for any site of an each whose reductions end with a loop: one that also reduces by what a turn holds that has types, and that keeps what its locals hold
module _ (c : Layout) (seg : Segment) (loop : Loop) (i k j edge registers fields : ℕ) (s : VertexContext)
    (apart : IsApart c registers fields)
    (unlike_outer : is_register (variable_at c.declarations loop.outer) ≡ false)
    (unlike_inner : is_register (variable_at c.declarations i) ≡ false)
    (depth_is : (x : ℕ) → loop.depth x ≡ (variable_at c.declarations x).depth)
    (more base : Reduce → List Target → List Expr → Bool)
    (late : (r : Reduce) (ts : List Target) (es : List Expr) → more r ts es || base r ts es ≡ true
    → ((ends_of_all (AtEdge edge) loop ts ≡ WithInner) ⊎ (ends_of_all (AtEdge edge) loop ts ≡ WithOutermost)) × (list_all (home_finds c loop.outer i) es ≡ true))
    (Gave : Iteration → VertexState → Type 0)
    (gave_registers : (it : Iteration) (w : VertexState) (rs : List Value) → length rs ≡ length w.registers → Gave it w → Gave it (record w { registers = rs }))
    (Placed : ℕ → Stmt → Type 0)
    (holds : Holds (each_site c seg loop.outer i) loop (AtEdge edge) s (lines_after s) (λ it u. HomeShows c loop i k j edge registers fields s it u × Gave it u) Gave (home_finds c loop.outer i) sets_nothing base (λ kind st it. Placed kind st))
    (table : TypeTable) (around : List ℕ) (result : Option VType)
    (Types : Stmt → Iteration → Type 0) (parts : PartsReady loop (AtEdge edge) Types) (typed_of : (st : Stmt) (it : Iteration) → Types st it → Typed c table around result loop st it)
    (sends : (kind : ℕ) (key : Key) (total : TotalKey) (r : Reduce) (ts : List Target) (es : List Expr) (it : Iteration) (w : VertexState) (rest : List Line) (turn : Iteration)
    → more r ts es ≡ true → Placed kind (S.Combine key total r ts es) → Types (S.Combine key total r ts es) turn
    → ((x : ℕ) → list_any (names_scalar x) ts ≡ true → it.store.scalar x ≡ turn.store.scalar x)
    → HomeShows c loop i k j edge registers fields s it w × Gave it w
    → let out = does (S.Combine key total r ts es) (AtEdge edge) loop it in
    Ending (each_env c seg loop.outer i) (lines_after s) (λ it' u. HomeShows c loop i k j edge registers fields s it' u × Gave it' u) Gave
    (reduce_lines (each_site c seg loop.outer i) kind (way_of c.declarations loop.outer ts) key total r ts (map (term (each_env c seg loop.outer i) key) es)) rest w out out.fault) where
  abbrev n : ℕ
  n = loop.outer

  abbrev its : List ℕ
  its = n ∷ i ∷ []

  abbrev v : Env
  v = each_env c seg n i

  abbrev m : Mode
  m = AtEdge edge

  abbrev site : Site
  site = each_site c seg n i

  abbrev found : Expr → Bool
  found = home_finds c n i

  abbrev Shows : Iteration → VertexState → Type 0
  Shows it u = HomeShows c loop i k j edge registers fields s it u × Gave it u

  abbrev run : List Line → ℕ → VertexState → After
  run = lines_after s

  abbrev pub gives_all : Reduce → List Target → List Expr → Bool
  gives_all r ts es = (more r ts es || base r ts es) || (picks_inside c found r ts es || tuples_inside c found r ts es)

  pub late-all : (r : Reduce) (ts : List Target) (es : List Expr) → gives_all r ts es ≡ true → EndsSo c loop m ts × (list_all found es ≡ true)
  late-all r ts es o =
      or-cases (more r ts es || base r ts es) o
      (λ h. let l = late r ts es h in (⊎_elim (λ (e : ends_of_all m loop ts ≡ WithInner). inl e) (λ (e : ends_of_all m loop ts ≡ WithOutermost). inr (inl e)) l.0, l.1))
      (λ h. kept-inside c loop edge found r ts es depth_is h)

  abbrev loosen : (e : Expr) → found e ≡ true → finds c its true e ≡ true
  loosen = each-loosen c n i

  abbrev no_local : (x : ℕ) → is_in its x ≡ true → is_local c x ≡ false
  no_local = each-no-local c n i unlike_outer unlike_inner

  abbrev off : (x : ℕ) → is_local c x ≡ true → nat_eq x n ≡ false
  off = each-apart c n i unlike_outer

  abbrev NearTo : (ℕ → Type 0) → Iteration → Iteration → Type 0
  NearTo V a b = Near c its n k loop m found gives_all loosen no_local off late-all V a b

  -- what a statement needs: what is no local, and the locals that it reads before it sets them
  abbrev pub Needs : Stmt → ℕ → Type 0
  Needs st x = (is_local c x ≡ false) ⊎ (first_use x st ≡ Read)

  -- an iteration that knows what a turn knows that has types, as far as the statement needs it
  abbrev pub Alike : Stmt → Iteration → Type 0
  Alike st it = (turn : Iteration) × SameGiven turn it × NearTo (Needs st) turn it × Types st turn × (is_body c found sets_nothing gives_all st ≡ true)

  abbrev pub Ready : ℕ → Stmt → Iteration → Type 0
  Ready kind st it = Placed kind st × Alike st it × HasSpares c registers (body_positions c.declarations st)

  less : (V W : ℕ → Type 0) (a b : Iteration) → ((x : ℕ) → W x → V x) → NearTo V a b → NearTo W a b
  less V W a b f h = weaker c its n k loop m found gives_all loosen no_local off late-all V W a b f h

  needs-first : (a b : Stmt) (x : ℕ) → Needs a x → Needs (S.Then a b) x
  needs-first a b x h = ⊎_elim (λ (e : is_local c x ≡ false). inl e) (λ (e : first_use x a ≡ Read). inr (ap (λ z. next_use z (first_use x b)) e)) h

  alike-first : (a b : Stmt) (it : Iteration) → Alike (S.Then a b) it → Alike a it
  alike-first a b it h =
      (h.0, h.1, less (Needs (S.Then a b)) (Needs a) h.0 it (needs-first a b) h.2, parts.first a b h.0 h.3, (both-true (is_body c found sets_nothing gives_all a) _ h.4).0)

  alike-second : (a b : Stmt) (it : Iteration) → Alike (S.Then a b) it → (does a m loop it).fault ≡ None → Alike b (does a m loop it)
  alike-second a b it h fine =
      let V = Needs (S.Then a b) in
      let fits = both-true (is_body c found sets_nothing gives_all a) (is_body c found sets_nothing gives_all b) h.4 in
      let out = does-near c its n k loop m found gives_all loosen no_local off late-all a fits.0 V (λ x e. inl e) (λ x e. needs-first a b x (inr e)) h.0 it h.1 h.2 in (
        does a m loop h.0,
        out.0,
        less (Known c its n k loop m found gives_all loosen no_local off late-all a V) (Needs b) (does a m loop h.0) (does a m loop it) known (out.1 (sym out.0.fault ∙ fine)),
        parts.second a b h.0 h.3,
        fits.1,
      ) where
        known : (x : ℕ) → Needs b x → Known c its n k loop m found gives_all loosen no_local off late-all a (Needs (S.Then a b)) x
        known x q = ⊎_elim (λ (e : is_local c x ≡ false). inl (inl e)) (λ (e : first_use x b ≡ Read). by (first_use x a) refl e) q where
          by : (u : FirstUse) → first_use x a ≡ u → first_use x b ≡ Read → Known c its n k loop m found gives_all loosen no_local off late-all a (Needs (S.Then a b)) x
          by Unused e f = inl (inr (ap (λ z. next_use z (first_use x b)) e ∙ f))
          by Set e f = inr e
          by Read e f = inl (inr (ap (λ z. next_use z (first_use x b)) e))

  alike-yes : (key : Key) (e : Expr) (a b : Stmt) (it : Iteration) → Alike (S.If key e a b) it → Alike a it
  alike-yes key e a b it h = (
    h.0,
    h.1,
    less (Needs (S.If key e a b)) (Needs a) h.0 it (λ x q. ⊎_elim (λ (z : is_local c x ≡ false). inl z) (λ (z : first_use x a ≡ Read). inr (read-first (reads_scalar x e) (first_use x a) (first_use x b) z)) q) h.2,
    parts.yes key e a b h.0 h.3,
    (both-true (is_body c found sets_nothing gives_all a) _ (both-true (found e) _ h.4).1).0,
  )

  alike-no : (key : Key) (e : Expr) (a b : Stmt) (it : Iteration) → Alike (S.If key e a b) it → Alike b it
  alike-no key e a b it h = (
    h.0,
    h.1,
    less (Needs (S.If key e a b)) (Needs b) h.0 it (λ x q. ⊎_elim (λ (z : is_local c x ≡ false). inl z) (λ (z : first_use x b ≡ Read). inr (read-second (reads_scalar x e) (first_use x a) (first_use x b) z)) q) h.2,
    parts.no key e a b h.0 h.3,
    (both-true (is_body c found sets_nothing gives_all a) _ (both-true (found e) _ h.4).1).1,
  )

  all-tell : (it : Iteration) (w : VertexState) (key : Key) (es : List Expr) → list_all found es ≡ true → Shows it w → AllTell v (view_in loop m it key) (view s w) es
  all-tell it w key [] o q = tt
  all-tell it w key (e ∷ es) o q = let t = both-true (found e) (list_all found es) o in (holds.tells it w key e t.0 q, all-tell it w key es t.1 q)

  abbrev Ended : List Line → List Line → VertexState → Iteration → Option Fault → Type 0
  Ended = Ending v run Shows Gave

  abbrev Reduces : ℕ → Key → TotalKey → Reduce → List Target → List Expr → Iteration → VertexState → List Line → Type 0
  Reduces kind key total r ts es it w rest =
      let out = does (S.Combine key total r ts es) m loop it in
      Ended (reduce_lines site kind (way_of c.declarations n ts) key total r ts (map (term v key) es)) rest w out out.fault

  local-is : (it : Iteration) (w : VertexState) (x : ℕ) (at : Place) (key : Key) → is_local c x ≡ true → Shows it w → term_value (view s w) (v.scalar x) ≡ Ok (it.store.scalar x)
  local-is it w x at key o q = holds.tells it w key (S.Var x at) (each-local c n i x at o) q

  -- a line that sets a local
  set-register : (it : Iteration) (w : VertexState) (rest : List Line) (x : ℕ) (t : Term) (a : Answer) → is_local c x ≡ true → Shows it w → term_value (view s w) t ≡ answer_of v a
      → let out = with_ok it a (λ y. wrote it (Scalar x, y)) in Ended (SetRegister (c.register x) t ∷ []) rest w out out.fault
  set-register it w rest x t (Ok a) o q e =
      subst (Ended (SetRegister (c.register x) t ∷ []) rest w (wrote it (Scalar x, a))) (sym q.0.fine) (
        record w { registers = slice_set w.registers (c.register x) a },
        holds.local it w x a o q,
        ap (λ u. goes_on (line_ends w u (λ y. leaves (record w { registers = slice_set w.registers (c.register x) y }))) (λ k' z. lines_after s rest k' z)) e,
      )
  set-register it w rest x t (Err f) o q e = (
    w,
    holds.gave_failed it w f q.1,
    ap (λ u. goes_on (line_ends w u (λ y. leaves (record w { registers = slice_set w.registers (c.register x) y }))) (λ k' z. lines_after s rest k' z)) e,
  )

  -- a local that keeps the better of two values
  pick-case : (kind : ℕ) (key : Key) (total : TotalKey) (r : Reduce) (ts : List Target) (es : List Expr) (it : Iteration) (w : VertexState) (rest : List Line)
      → picks_inside c found r ts es ≡ true → Alike (S.Combine key total r ts es) it → Shows it w → Reduces kind key total r ts es it w rest
  pick-case kind key total r [] es it w rest o like q = absurd (both_ways false refl o)
  pick-case kind key total r (T.Property x p at ∷ ts) es it w rest o like q = absurd (both_ways false refl o)
  pick-case kind key total r (T.Scalar x at ∷ (t ∷ ts)) es it w rest o like q = absurd (both_ways false refl o)
  pick-case kind key total r (T.Scalar x at ∷ []) [] it w rest o like q = absurd (both_ways false refl o)
  pick-case kind key total r (T.Scalar x at ∷ []) (e ∷ (d ∷ es)) it w rest o like q = absurd (both_ways false refl o)
  pick-case kind key total r (T.Scalar x at ∷ []) (e ∷ []) it w rest o like q =
      let a = both-true (keeps_tuples r) (is_inner_local c x && found e) o in
      let b = both-true (is_inner_local c x) (found e) a.1 in
      let local = (both-true (is_local c x) (nat_lt 1 (variable_at c.declarations x).depth) b.0).0 in
      let st = S.Combine key total r (T.Scalar x at ∷ []) (e ∷ []) in
      let turn = like.0 in
      let typed = typed_of st turn like.3 in
      let u = view_in loop m it key in
      let told = holds.tells it w key e b.1 q in
      let held = v.scalar x in
      let value = term v key e in
      let ty = type_at table.declarations x in
      let here : Needs st x = inr (ap (λ z. use_if z Read) (or-right (list_any (reads_scalar x) (e ∷ [])) (or-left false (eq-eqb x x refl)))) in
      let same_held : it.store.scalar x ≡ turn.store.scalar x = like.2.0.at (Scalar x) here in
      let same_new : evaluated e u ≡ evaluated e (view_in loop m turn key) =
      eval-near c its n k loop m found gives_all loosen no_local off late-all (Needs st) (λ y z. inl z) e key turn it b.1
      (λ y z. inr (ap (λ f. use_if f Read) (or-left (list_any (names_scalar y) (T.Scalar x at ∷ [])) (or-left false z)))) like.2 in
      let held_of : IsValue table.limit ty (it.store.scalar x) = subst (IsValue table.limit ty) (sym same_held) (held-typed c table around result loop m key total r x at e turn local typed) in
      let new_of : IfOk (evaluated e u).rest (IsValue table.limit ty) = subst (λ z. IfOk z.rest (IsValue table.limit ty)) (sym same_new) (value-typed c table around result loop m key total r x at e turn local typed) in
      let out = does st m loop it in
      subst (λ way. Ended (reduce_lines site kind way key total r (T.Scalar x at ∷ []) (value ∷ [])) rest w out out.fault) (sym (picks-way c n x at local))
      (subst (λ z. Ended (SetRegister (c.register x) (M.Choose (compared (better r) value held) value held) ∷ []) rest w z z.fault)
      (sym (pick-of loop m key total r x at e it (inner-now c loop depth_is edge x b.0) a.0 table.limit ty held_of new_of (hoisted-parallel v u (view s w) e refl told)))
      (set-register it w rest x (M.Choose (compared (better r) value held) value held) (kept_value r (it.store.scalar x) (evaluated e u).rest) local q
      (pick-term r v (view s w) value held (it.store.scalar x) (evaluated e u).rest a.0 (rest-term v u (view s w) e told) (local-is it w x at key local q))))

  -- a spare register that is set
  spared : (positions : ℕ) → HasSpares c registers positions → (it : Iteration) (w : VertexState) (b : ℕ) (t : VType) (a : Value) → b < positions → Shows it w → Shows it (record w { registers = slice_set w.registers (c.spare_register b t) a })
  spared positions spares it w b t a lt q = (
    record {
      fine = q.0.fine;
      node = q.0.node;
      near = q.0.near;
      graph = q.0.graph;
      inside = q.0.inside;
      near_inside = q.0.near_inside;
      at_outer = q.0.at_outer;
      at_inner = q.0.at_inner;
      phase = q.0.phase;
      in_graph = q.0.in_graph;
      locals = λ x l e.
          after-set w.registers (c.spare_register b t) a (c.register x) (subst (λ z. c.spare_register b t < z) (sym q.0.register_count) (spares.within b t lt))
          ∙ ap (λ z. if z then a else value_at w.registers (c.register x)) (ne_eqb (c.spare_register b t) (c.register x) (λ e'. spares.others b x t lt l e (sym e')))
          ∙ q.0.locals x l e;
      properties = q.0.properties;
      edges = q.0.edges;
      register_count = length-set w.registers (c.spare_register b t) a ∙ q.0.register_count;
      field_count = q.0.field_count;
    },
    gave_registers it w (slice_set w.registers (c.spare_register b t) a) (length-set w.registers (c.spare_register b t) a) q.1,
  )

  local-of : (x : ℕ) → is_inner_local c x ≡ true → is_local c x ≡ true
  local-of x o = (both-true (is_local c x) (nat_lt 1 (variable_at c.declarations x).depth) o).0

  tupled : (key : Key) (positions : ℕ) → HasSpares c registers positions → Tupled site loop m k registers positions s run Shows Gave found (is_inner_target c)
  tupled any positions spares = record {
    register_runs = λ x t ls w. refl;
    field_runs = λ x t ls w. refl;
    fine = λ it w q. q.0.fine;
    gave_failed = λ it w f q. holds.gave_failed it w f q.1;
    tells = holds.tells;
    local_is = λ it w x at o q. local-is it w x at any (local-of x o) q;
    property_is = λ it w x p at o q. absurd (both_ways false refl o);
    count = λ it w q. q.0.register_count;
    spared = spared positions spares;
    is_local_of = λ x at o. local-of x o;
    within = λ x at o. let d = both-true (nat_lt x (length c.declarations)) (is_register (variable_at c.declarations x)) (local-of x o) in apart.register_within x (ltb-true x (length c.declarations) d.0) d.1;
    local = λ it w x at a o q. holds.local it w x a (local-of x o) q;
    field = λ it w x p at a o q. absurd (both_ways false refl o);
    now = λ it w key total r t u ts es o f q.
        inner-tuple-now c loop k depth_is edge it key total r t u ts es o (none-hoisted v (view_in loop m it key) (view s w) es refl (all-tell it w key es f q)) (ap (node_in loop.graph) q.0.at_outer ∙ node-in loop.graph k q.0.inside);
  }

  -- what locals hold is the same in the turn
  held-near : (V : ℕ → Type 0) (a b : Iteration) (ts : List Target) → list_all (is_inner_target c) ts ≡ true → ((x : ℕ) → list_any (names_scalar x) ts ≡ true → V x) → NearTo V a b
      → reads b.store (own_slots k ts) ≡ reads a.store (own_slots k ts)
  held-near V a b [] o h q = refl
  held-near V a b (T.Property x p at ∷ ts) o h q = absurd (both_ways false refl o)
  held-near V a b (T.Scalar x at ∷ ts) o h q =
      ap (λ z. z ∷ reads b.store (own_slots k ts)) (q.0.at (Scalar x) (h x (or-left (list_any (names_scalar x) ts) (eq-eqb x x refl))))
      ∙ ap (λ zs. a.store.scalar x ∷ zs) (held-near V a b ts (both-true (is_inner_local c x) (list_all (is_inner_target c) ts) o).1 (λ y f. h y (or-right (nat_eq y x) f)) q)

  -- locals that keep the better of two tuples
  tuple-case : (kind : ℕ) (key : Key) (total : TotalKey) (r : Reduce) (ts : List Target) (es : List Expr) (it : Iteration) (w : VertexState) (rest : List Line)
      → tuples_inside c found r ts es ≡ true → Ready kind (S.Combine key total r ts es) it → Shows it w → Reduces kind key total r ts es it w rest
  tuple-case kind key total r [] es it w rest o ready q = absurd (both_ways false refl o)
  tuple-case kind key total r (t ∷ []) es it w rest o ready q = absurd (both_ways false refl o)
  tuple-case kind key total r (t ∷ (u ∷ ts)) es it w rest o ready q =
      let all = t ∷ (u ∷ ts) in
      let st = S.Combine key total r all es in
      let positions = suc (suc (suc (length ts))) in
      let x = is-inside c loop depth_is found r t u ts es o in
      let spares = tuple-spares c registers key total r t u ts es x.some ready.2 in
      let turn = ready.1.0 in
      let typed = typed_of st turn ready.1.3 in
      let types = types_of_all c table around result loop m key total r t u ts es turn k x.some typed in
      let out = does st m loop it in
      let less' : length all < positions = omega arith in
      let same_held : reads it.store (own_slots k all) ≡ reads turn.store (own_slots k all) =
      held-near (Needs st) turn it all x.inner (λ y f. inr (ap (λ z. use_if z Read) (or-right (list_any (reads_scalar y) es) f))) ready.1.2 in
      let same_new : evaluated_all es (view_in loop m it key) ≡ evaluated_all es (view_in loop m turn key) =
      all-near c its n k loop m found gives_all loosen no_local off late-all (Needs st) (λ y z. inl z) es key turn it x.found_all (λ y f. inr (ap (λ z. use_if z Read) (or-left (list_any (names_scalar y) all) f))) ready.1.2 in
      subst (λ way. Ended (reduce_lines site kind way key total r all (map (term v key) es)) rest w out out.fault) (sym (inside-way c loop depth_is n found r all es o))
      (tuple-goes site loop m k registers positions s run Shows Gave found (is_inner_target c) (tupled key positions spares) spares
      key total r t u ts es types it w rest x.keeps x.inner (own-distinct k all x.distinct) x.long x.found_all less' q
      (subst (AreOf types) (sym same_held) (tuple-held-typed c table around result loop m key total r t u ts es turn k x.some typed))
      (λ ys e. tuple-new-typed c table around result loop m key total r t u ts es turn k x.some typed ys (ap (λ a. a.rest) (sym same_new) ∙ e)))

  pub keeping-holds : Holds site loop m s run (λ it u. HomeShows c loop i k j edge registers fields s it u × Gave it u) Gave found sets_nothing gives_all Ready
  keeping-holds = record {
    type_is = holds.type_is;
    skipped = holds.skipped;
    register_runs = holds.register_runs;
    skip_runs = holds.skip_runs;
    fine = holds.fine;
    gave = holds.gave;
    gave_failed = holds.gave_failed;
    tells = holds.tells;
    local = holds.local;
    property = holds.property;
    placed_first = λ kind a b it h. (holds.placed_first kind a b it h.0, alike-first a b it h.1, spares-first c registers (body_positions c.declarations a) (body_positions c.declarations b) h.2);
    placed_second = λ kind a b it h e. (holds.placed_second kind a b it h.0 e, alike-second a b it h.1 e, spares-second c registers (body_positions c.declarations a) (body_positions c.declarations b) h.2);
    placed_yes = λ kind key e a b it h. (holds.placed_yes kind key e a b it h.0, alike-yes key e a b it h.1, spares-first c registers (body_positions c.declarations a) (body_positions c.declarations b) h.2);
    placed_no = λ kind key e a b it h. (holds.placed_no kind key e a b it h.0, alike-no key e a b it h.1, spares-second c registers (body_positions c.declarations a) (body_positions c.declarations b) h.2);
    reduce = λ kind key total r ts es it w rest o h q.
        or-cases (more r ts es || base r ts es) o
        (λ z. or-cases (more r ts es) z
        (λ y. sends kind key total r ts es it w rest h.1.0 y h.0 h.1.3 (λ x f. h.1.2.0.at (Scalar x) (inr (ap (λ t. use_if t Read) (or-right (list_any (reads_scalar x) es) f)))) q)
        (λ y. holds.reduce kind key total r ts es it w rest y h.0 q))
        (λ z. or-cases (picks_inside c found r ts es) z (λ y. pick-case kind key total r ts es it w rest y h.1 q) (λ y. tuple-case kind key total r ts es it w rest y h q));
  }
