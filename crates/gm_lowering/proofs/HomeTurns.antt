-- The lines of an each do what the inner loop does at its edge, whatever the registers held.
use Rattle.std.proofs.Common.{◌≡◌, ◌<◌, ◌≤◌, ◌⊎◌, inl, inr, ℕ, zero, suc, Bool, true, false, cond, Option, Some, None, List, [], ◌∷◌, ◌++◌, length, map, refl, ap, ◌∙◌, sym, subst, append_assoc, arith, ⊎_elim}
use Rattle.std.specs.Prelude.{◌+◌, if◌then◌else◌, ◌&&◌, ◌||◌, nat_eq, nat_lt, slice_set, filter}
use Rattle.std.specs.List.{list_all, list_any}
use Rattle.std.proofs.lemmas.List.{append-nil}
use Rattle.std.proofs.lemmas.Bool.{both_ways, eqb-true, eqb-false, ne_eqb, eq-eqb, ltb-true, lt-ltb, cases_lt}
use Rattle.gm_value.specs.declared.values.VType.{VType}
use Rattle.gm_value.specs.declared.values.Value.{Value}
use Rattle.gm_value.specs.declared.values.Value.TheVariants.{At}
use Rattle.gm_value.specs.declared.reductions.Reduce.{Reduce}
use Rattle.gm_value.specs.Numbers.{zero_of}
use Rattle.gm_value.specs.Operations.{is_true}
use Rattle.gm_ast.specs.declared.tree.Key.{Key}
use Rattle.gm_ast.specs.declared.tree.Target.{Target}
use Rattle.gm_ast.specs.declared.tree.TotalKey.{TotalKey}
use Rattle.gm_ast.specs.Program as S
use Rattle.gm_ast.specs.Program.{Expr, Stmt}
use Rattle.gm_ast.specs.Ways.{is_in}
use Rattle.gm_forms.specs.Typing.{type_at}
use Rattle.gm_forms.proofs.Named.{both-true}
use Rattle.gm_semantics.specs.declared.faults.Fault.{Fault}
use Rattle.gm_semantics.specs.declared.slots.Slot.{Slot}
use Rattle.gm_semantics.specs.declared.slots.Slot.TheVariants.{Scalar, Node}
use Rattle.gm_semantics.specs.Expressions.{value}
use Rattle.gm_semantics.specs.Iterations.{Loop, Mode, AtEdge, WithInner, WithOutermost, Iteration, begun, ends_of_all, view_in, with_ok, one_way, as_it_is, wrote, turn_at, does}
use Rattle.gm_semantics.specs.Levels.{numbers_from}
use Rattle.gm_semantics.specs.Statements.{variable_at}
use Rattle.gm_semantics.specs.Stores.{Store, read, write}
use Rattle.gm_typed_stores.specs.Tells.{TypeTable}
use Rattle.gm_image.specs.Program.{Line}
use Rattle.gm_machine.specs.Expressions.{value_at, edge_value_at}
use Rattle.gm_machine.specs.Vertex.{VertexContext, VertexState, After, lines_after}
use Rattle.gm_lowering.specs.Layouts.{Layout, is_register, body_positions}
use Rattle.gm_lowering.specs.Places.{Segment}
use Rattle.gm_lowering.specs.Terms.{Env, term, each_env}
use Rattle.gm_lowering.specs.Plans.{way_of}
use Rattle.gm_lowering.specs.Bodies.{Site, lines_of, reduce_lines}
use Rattle.gm_lowering.specs.Blocks.{Read, first_use, is_read, is_read_first, reads_scalar, names_scalar, zero_line, zero_lines, each_site}
use Rattle.gm_lowering.specs.Sites.{finds, given, same_length, is_local, IsInGraph, IsApart, is_body}
use Rattle.gm_lowering.specs.OwnLoops.{is_declared, puts_to_scalars, folds_to, PicksTyped, HasSpares}
use Rattle.gm_lowering.specs.MessageLoops.{sets_nothing, receiver_gives, picks_inside, tuples_inside, is_to_scalars, is_to_nodes}
use Rattle.gm_lowering.specs.HomeTurns.{home_finds, home_lines, IsHomeLoop, HomeGave, EdgeShows, TurnEnds, EachLinesAreTurns}
use Rattle.gm_lowering.specs.Showing.{fault_of}
use Rattle.gm_lowering.proofs.Bodies.{Ends, Holds, value-of, ends-by, body-ends, Anywhere}
use Rattle.gm_lowering.proofs.FirstUses.{Good, SameGiven, Near, Out, Known, EndsSo, weaker, ok-near, value-near, does-near}
use Rattle.gm_lowering.proofs.Givens.{are_scalars, scalars-end, are_kept}
use Rattle.gm_lowering.proofs.HomePicks.{each-loosen, each-no-local, each-apart, late-all, Ready, keeping-holds}
use Rattle.gm_lowering.proofs.Homes.{own-end, home-holds, HomeShows}
use Rattle.gm_lowering.proofs.Own.{global-no_register}
use Rattle.gm_lowering.proofs.Picks.{Typed, parts-typed}
use Rattle.gm_lowering.proofs.Spots.{PartsReady}
use Rattle.gm_lowering.proofs.OwnSteps.{under-ends}

or-split : (a b : Bool) → a || b ≡ true → (a ≡ true) ⊎ (b ≡ true)
or-split true b e = inl refl
or-split false b e = inr e

and-false : (a b : Bool) → b ≡ false → a && b ≡ false
and-false true b e = e
and-false false b e = refl

zero-plus : (a b : ℕ) → a < b → a < 0 + b
zero-plus a b h = omega arith

-- an inner loop that is evaluated at the outer node: its iterators are two and no locals, and its filter reads no locals; registers begin with the first values of their locals
pub record IsEachLoop (c : Layout) (registers : List VType) (fields : ℕ) (loop : Loop) (i : ℕ) (test : Expr) : Type 0 where
  pub apart : IsApart c (length registers) fields
  pub outer : is_register (variable_at c.declarations loop.outer) ≡ false
  pub inner : is_register (variable_at c.declarations i) ≡ false
  pub two : nat_eq i loop.outer ≡ false
  pub types : (x : ℕ) → loop.vtype x ≡ (variable_at c.declarations x).vtype
  pub depths : (x : ℕ) → loop.depth x ≡ (variable_at c.declarations x).depth
  pub firsts : (x : ℕ) → is_local c x ≡ true → value_at (map zero_of registers) (c.register x) ≡ zero_of (type_at c.declarations x)
  pub plain : (x : ℕ) → is_local c x ≡ true → reads_scalar x test ≡ false
  pub found : home_finds c loop.outer i test ≡ true

-- how its lines end that stand for a turn, by what the turn has given
abbrev pub TurnAs : Env → (Iteration → VertexState → Type 0) → Iteration → After → Option Fault → Type 0
TurnAs v Gave it a None = (a.fault ≡ None) × Gave it a.state
TurnAs v Gave it a (Some f) = (a.fault ≡ Some (fault_of v f)) × Gave it a.state

-- for any site of an each: how it holds with what its locals keep, that nothing is given at first, and that what is given is the same for iterations that give the same
module _ (c : Layout) (seg : Segment) (registers : List VType) (fields : ℕ) (loop : Loop) (i : ℕ) (kind : ℕ) (key : Key) (test : Expr) (body : Stmt) (s : VertexContext) (w : VertexState) (r : Store)
    (able : IsEachLoop c registers fields loop i test) (shows : EdgeShows c loop registers fields s w r)
    (more base : Reduce → List Target → List Expr → Bool)
    (base_late : (r' : Reduce) (ts : List Target) (es : List Expr) → more r' ts es || base r' ts es ≡ true
    → ((ends_of_all (AtEdge s.near.edge) loop ts ≡ WithInner) ⊎ (ends_of_all (AtEdge s.near.edge) loop ts ≡ WithOutermost)) × (list_all (home_finds c loop.outer i) es ≡ true))
    (Gave : Iteration → VertexState → Type 0) (gave_registers : (it : Iteration) (u : VertexState) (rs : List Value) → length rs ≡ length u.registers → Gave it u → Gave it (record u { registers = rs }))
    (Placed : ℕ → Stmt → Type 0) (base_placed : Placed kind body)
    (base_holds : Holds (each_site c seg loop.outer i) loop (AtEdge s.near.edge) s (lines_after s) (λ it u. HomeShows c loop i s.node s.near.node s.near.edge (length registers) fields s it u × Gave it u) Gave (home_finds c loop.outer i) sets_nothing base (λ kind' st it. Placed kind' st))
    (at_first : (it : Iteration) → it.with_inner ≡ [] → it.with_outermost ≡ [] → it.deferred ≡ [] → Gave it w)
    (moved : (a b : Iteration) (u : VertexState) → SameGiven a b → Gave b u → Gave a u)
    (table : TypeTable) (around : List ℕ) (result : Option VType)
    (Types : Stmt → Iteration → Type 0) (parts : PartsReady loop (AtEdge s.near.edge) Types) (typed_of : (st : Stmt) (it : Iteration) → Types st it → Typed c table around result loop st it)
    (base_sends : (kind' : ℕ) (key' : Key) (total : TotalKey) (r' : Reduce) (ts : List Target) (es : List Expr) (it : Iteration) (u : VertexState) (rest : List Line) (typed_turn : Iteration)
    → more r' ts es ≡ true → Placed kind' (S.Combine key' total r' ts es) → Types (S.Combine key' total r' ts es) typed_turn
    → ((x : ℕ) → list_any (names_scalar x) ts ≡ true → it.store.scalar x ≡ typed_turn.store.scalar x)
    → HomeShows c loop i s.node s.near.node s.near.edge (length registers) fields s it u × Gave it u
    → let done = does (S.Combine key' total r' ts es) (AtEdge s.near.edge) loop it in
    Ends (each_env c seg loop.outer i) (lines_after s) (λ it' u'. HomeShows c loop i s.node s.near.node s.near.edge (length registers) fields s it' u' × Gave it' u') Gave
    (reduce_lines (each_site c seg loop.outer i) kind' (way_of c.declarations loop.outer ts) key' total r' ts (map (term (each_env c seg loop.outer i) key') es)) rest u done done.fault)
    (fits : is_body c (home_finds c loop.outer i) sets_nothing (λ r' ts es. (more r' ts es || base r' ts es) || (picks_inside c (home_finds c loop.outer i) r' ts es || tuples_inside c (home_finds c loop.outer i) r' ts es)) body ≡ true)
    (typed : Types body (begun (write r (Scalar i) (At (Some s.near.node)))))
    (spares : HasSpares c (length registers) (body_positions c.declarations body)) where
  abbrev n : ℕ
  n = loop.outer

  abbrev j : ℕ
  j = s.near.node

  abbrev edge : ℕ
  edge = s.near.edge

  abbrev m : Mode
  m = AtEdge edge

  abbrev its : List ℕ
  its = n ∷ i ∷ []

  abbrev v : Env
  v = each_env c seg n i

  abbrev site : Site
  site = each_site c seg n i

  abbrev found : Expr → Bool
  found = home_finds c n i

  abbrev run : List Line → ℕ → VertexState → After
  run = lines_after s

  abbrev sh : Iteration → VertexState → Type 0
  sh it u = HomeShows c loop i s.node j edge (length registers) fields s it u × Gave it u

  abbrev gives : Reduce → List Target → List Expr → Bool
  gives r' ts es = (more r' ts es || base r' ts es) || (picks_inside c found r' ts es || tuples_inside c found r' ts es)

  late : (r' : Reduce) (ts : List Target) (es : List Expr) → gives r' ts es ≡ true → EndsSo c loop m ts × (list_all found es ≡ true)
  late = late-all c seg loop i s.node j edge (length registers) fields s able.apart able.outer able.inner able.depths more base base_late Gave gave_registers Placed base_holds table around result Types parts typed_of base_sends

  abbrev Kept : ℕ → Stmt → Iteration → Type 0
  Kept = Ready c seg loop i s.node j edge (length registers) fields s able.apart able.outer able.inner able.depths more base base_late Gave gave_registers Placed base_holds table around result Types parts typed_of base_sends

  holds : Holds site loop m s run sh Gave found sets_nothing gives Kept
  holds = keeping-holds c seg loop i s.node j edge (length registers) fields s able.apart able.outer able.inner able.depths more base base_late Gave gave_registers Placed base_holds table around result Types parts typed_of base_sends

  loosen : (e : Expr) → found e ≡ true → finds c its true e ≡ true
  loosen = each-loosen c n i

  no_local : (x : ℕ) → is_in its x ≡ true → is_local c x ≡ false
  no_local = each-no-local c n i able.outer able.inner

  apart : (x : ℕ) → is_local c x ≡ true → nat_eq x n ≡ false
  apart = each-apart c n i able.outer

  -- the turn's beginning, and the same with the locals that the registers hold
  abbrev start : Iteration
  start = begun (write r (Scalar i) (At (Some j)))

  abbrev held_store : Store
  held_store = record (start.store) { scalar = λ x. if is_local c x then value_at w.registers (c.register x) else start.store.scalar x }

  abbrev held : Iteration
  held = begun held_store

  not-local : (x : ℕ) → is_register (variable_at c.declarations x) ≡ false → is_local c x ≡ false
  not-local x e = and-false (nat_lt x (length c.declarations)) (is_register (variable_at c.declarations x)) e

  unlike : (x y : ℕ) → is_local c x ≡ true → is_register (variable_at c.declarations y) ≡ false → nat_eq y x ≡ false
  unlike x y o e =
      ne_eqb y x (λ z. both_ways (is_register (variable_at c.declarations y)) e (ap (λ b. is_register (variable_at c.declarations b)) z ∙ (both-true (nat_lt x (length c.declarations)) (is_register (variable_at c.declarations x)) o).1))

  turned : (x y : ℕ) → nat_eq x y ≡ false → nat_eq y x ≡ false
  turned x y e = ne_eqb y x (λ z. eqb-false x y e (sym z))

  plain : (x : ℕ) → is_local c x ≡ false → held.store.scalar x ≡ start.store.scalar x
  plain x e = ap (λ b. if b then value_at w.registers (c.register x) else start.store.scalar x) e

  starts-at : start.store.scalar n ≡ At (Some s.node)
  starts-at = ap (λ b. if b then At (Some j) else r.scalar n) able.two ∙ shows.at_outer

  begins : sh held w
  begins = (
    record {
      fine = refl;
      node = refl;
      near = refl;
      graph = shows.graph;
      inside = shows.inside;
      near_inside = shows.near_inside;
      at_outer = plain n (not-local n able.outer) ∙ starts-at;
      at_inner = plain i (not-local i able.inner) ∙ ap (λ b. if b then At (Some j) else r.scalar i) (eq-eqb i i refl);
      phase = λ x f h lt e g. shows.scalar x f lt e g ∙ sym (plain x (not-local x e) ∙ ap (λ b. if b then At (Some j) else r.scalar x) (turned x i h));
      in_graph = λ x f h lt e. subst (IsInGraph loop.graph) (sym (plain x (not-local x (global-no_register (variable_at c.declarations x) e)) ∙ ap (λ b. if b then At (Some j) else r.scalar x) (turned x i h))) (shows.in_graph x f lt e);
      locals = λ x lt e. sym (ap (λ b. if b then value_at w.registers (c.register x) else start.store.scalar x) (ap (λ b. b && is_register (variable_at c.declarations x)) (lt-ltb x (length c.declarations) lt) ∙ e));
      properties = shows.properties;
      edges = λ p lt e. ap (λ g. edge_value_at g (c.column p) edge) shows.graph ∙ shows.edges p lt e;
      register_count = shows.register_count;
      field_count = shows.field_count;
    },
    at_first held refl refl refl,
  )

  -- the locals that begin anew
  abbrev first_value : ℕ → Value
  first_value x = zero_of (type_at c.declarations x)

  abbrev zeroed : List ℕ → Iteration → Iteration
  zeroed [] it = it
  zeroed (x ∷ xs) it = zeroed xs (wrote it (Scalar x, first_value x))

  zero-ends : (xs : List ℕ) → list_all (is_local c) xs ≡ true → (it : Iteration) (u : VertexState) → sh it u → (rest : List Line)
      → (u2 : VertexState) × sh (zeroed xs it) u2 × (run (map (zero_line c) xs ++ rest) 0 u ≡ run rest 0 u2)
  zero-ends [] o it u q rest = (u, q, refl)
  zero-ends (x ∷ xs) o it u q rest =
      let t = both-true (is_local c x) (list_all (is_local c) xs) o in
      zero-ends xs t.1 (wrote it (Scalar x, first_value x)) (record u { registers = slice_set u.registers (c.register x) (first_value x) }) (holds.local it u x (first_value x) t.0 q) rest

  abbrev news : List ℕ
  news = filter (is_read_first c body) (numbers_from 0 (length c.declarations))

  locals-of : (z k : ℕ) → z + k ≤ length c.declarations → list_all (is_local c) (filter (is_read_first c body) (numbers_from z k)) ≡ true
  locals-of z zero le = refl
  locals-of z (suc k) le = by (is_read_first c body z) refl (locals-of (suc z) k (omega arith)) where
    by : (b : Bool) → is_read_first c body z ≡ b → list_all (is_local c) (filter (is_read_first c body) (numbers_from (suc z) k)) ≡ true
        → list_all (is_local c) (cond b (z ∷ filter (is_read_first c body) (numbers_from (suc z) k)) (filter (is_read_first c body) (numbers_from (suc z) k))) ≡ true
    by true e h =
        ap (λ b. (b && is_register (variable_at c.declarations z)) && list_all (is_local c) (filter (is_read_first c body) (numbers_from (suc z) k))) (lt-ltb z (length c.declarations) (omega arith))
        ∙ ap (λ b. b && list_all (is_local c) (filter (is_read_first c body) (numbers_from (suc z) k))) (both-true (is_register (variable_at c.declarations z)) (is_read (first_use z body)) e).0
        ∙ h
    by false e h = h

  has-new : (x z k : ℕ) → is_read_first c body x ≡ true → z ≤ x → x < z + k → list_any (nat_eq x) (filter (is_read_first c body) (numbers_from z k)) ≡ true
  has-new x z zero e le lt = absurd (omega arith)
  has-new x z (suc k) e le lt =
      ⊎_elim
      (λ (l : z < x). skip (is_read_first c body z) (has-new x (suc z) k e (omega arith) (omega arith)))
      (λ (g : x ≤ z).
      let same : z ≡ x = omega arith in
      ap (λ b. list_any (nat_eq x) (cond b (z ∷ filter (is_read_first c body) (numbers_from (suc z) k)) (filter (is_read_first c body) (numbers_from (suc z) k)))) (ap (is_read_first c body) same ∙ e)
      ∙ ap (λ b. b || list_any (nat_eq x) (filter (is_read_first c body) (numbers_from (suc z) k))) (eq-eqb x z (sym same)))
      (cases_lt z x) where
        skip : (b : Bool) → list_any (nat_eq x) (filter (is_read_first c body) (numbers_from (suc z) k)) ≡ true
            → list_any (nat_eq x) (cond b (z ∷ filter (is_read_first c body) (numbers_from (suc z) k)) (filter (is_read_first c body) (numbers_from (suc z) k))) ≡ true
        skip true h = any_or (nat_eq x z) h where
          any_or : {t : Bool} (b : Bool) → t ≡ true → b || t ≡ true
          any_or true h = refl
          any_or false h = h
        skip false h = h

  -- the lines do what the body does with the locals of the registers
  abbrev go : Iteration → Iteration
  go it = does body m loop (zeroed news it)

  abbrev out_held : Iteration
  out_held = with_ok held (value test (view_in loop m held key)) (λ z. one_way (is_true z) go as_it_is held)

  abbrev lines : List Line
  lines = home_lines c seg n i kind key test body

  -- both turns give the same
  abbrev NearTo : (ℕ → Type 0) → Iteration → Type 0
  NearTo V b = Near c its n s.node loop m found gives loosen no_local apart late V start b

  abbrev Global : ℕ → Type 0
  Global x = is_local c x ≡ false

  near-held : NearTo Global held
  near-held = (record { at = at; edge = refl }, starts-at) where
    at : (slot : Slot) → Good Global slot → read held.store slot ≡ read start.store slot
    at (Scalar x) g = plain x g
    at (Node p k) g = refl

  first-is : (x : ℕ) → is_local c x ≡ true → start.store.scalar x ≡ first_value x
  first-is x o = ap (λ b. if b then At (Some j) else r.scalar x) (unlike x i o able.inner) ∙ sym (shows.locals x o) ∙ able.firsts x o

  zero-near : (xs : List ℕ) (V : ℕ → Type 0) (b : Iteration) → list_all (is_local c) xs ≡ true → NearTo V b → NearTo (λ y. V y ⊎ (list_any (nat_eq y) xs ≡ true)) (zeroed xs b)
  zero-near [] V b o h =
      weaker c its n s.node loop m found gives loosen no_local apart late V (λ y. V y ⊎ (false ≡ true)) start b (λ y z. ⊎_elim (λ (q : V y). q) (λ (e : false ≡ true). absurd (both_ways false refl e)) z) h
  zero-near (x ∷ xs) V b o h =
      weaker c its n s.node loop m found gives loosen no_local apart late (λ y. (V y ⊎ (nat_eq y x ≡ true)) ⊎ (list_any (nat_eq y) xs ≡ true)) (λ y. V y ⊎ (nat_eq y x || list_any (nat_eq y) xs ≡ true)) start (zeroed xs next)
      (λ y z. ⊎_elim (λ (q : V y). inl (inl q)) (λ (e : nat_eq y x || list_any (nat_eq y) xs ≡ true). ⊎_elim (λ (f : nat_eq y x ≡ true). inl (inr f)) (λ (f : list_any (nat_eq y) xs ≡ true). inr f) (or-split (nat_eq y x) (list_any (nat_eq y) xs) e)) z)
      (zero-near xs (λ y. V y ⊎ (nat_eq y x ≡ true)) next (both-true (is_local c x) (list_all (is_local c) xs) o).1 (record { at = at; edge = h.0.edge }, h.1)) where
        next : Iteration
        next = wrote b (Scalar x, first_value x)

        at : (slot : Slot) → Good (λ y. V y ⊎ (nat_eq y x ≡ true)) slot → read next.store slot ≡ read start.store slot
        at (Node p k) g = h.0.at (Node p k) tt
        at (Scalar y) g = by (nat_eq x y) refl where
          by : (t : Bool) → nat_eq x y ≡ t → (if t then first_value x else b.store.scalar y) ≡ start.store.scalar y
          by true e = sym (first-is x (both-true (is_local c x) (list_all (is_local c) xs) o).0) ∙ ap start.store.scalar (eqb-true x y e)
          by false e = ⊎_elim (λ (q : V y). h.0.at (Scalar y) q) (λ (f : nat_eq y x ≡ true). absurd (both_ways (nat_eq x y) e (eq-eqb x y (sym (eqb-true y x f))))) g

  abbrev None_known : ℕ → Type 0
  None_known x = ⊥

  abbrev out : Iteration
  out = turn_at loop m key test (does body m loop) i j r

  abbrev begun_same : SameGiven start held
  begun_same = record { inner = refl; outermost = refl; deferred = refl; fault = refl }

  -- what the body needs is known behind the lines by which locals begin anew
  abbrev known : ℕ → Type 0
  known x = Global x ⊎ (list_any (nat_eq x) news ≡ true)

  read_known : (x : ℕ) (b : Bool) → is_local c x ≡ b → first_use x body ≡ Read → known x
  read_known x false e f = inl e
  read_known x true e f =
      let t = both-true (nat_lt x (length c.declarations)) (is_register (variable_at c.declarations x)) e in
      inr (has-new x 0 (length c.declarations) (ap (λ b. b && is_read (first_use x body)) t.1 ∙ ap is_read f) (omega arith) (zero-plus x (length c.declarations) (ltb-true x (length c.declarations) t.0)))

  zero-same : (xs : List ℕ) (b : Iteration) → SameGiven start b → SameGiven start (zeroed xs b)
  zero-same [] b h = h
  zero-same (x ∷ xs) b h = zero-same xs (wrote b (Scalar x, first_value x)) (record { inner = h.inner; outermost = h.outermost; deferred = h.deferred; fault = h.fault })

  near-news : NearTo known (zeroed news held)
  near-news = zero-near news Global held (locals-of 0 (length c.declarations) (omega arith)) near-held

  placed : Kept kind body (zeroed news held)
  placed = (
    base_placed,
    (
      start,
      zero-same news held begun_same,
      weaker c its n s.node loop m found gives loosen no_local apart late known (λ x. (is_local c x ≡ false) ⊎ (first_use x body ≡ Read)) start (zeroed news held)
          (λ x q. ⊎_elim (λ (e : is_local c x ≡ false). inl e) (λ (e : first_use x body ≡ Read). read_known x (is_local c x) refl e) q) near-news,
      typed,
      fits,
    ),
    spares,
  )

  body-runs : Ends v run sh Gave (zero_lines c body ++ lines_of site kind body) [] w (go held) (go held).fault
  body-runs =
      let ls = lines_of site kind body in
      let z = zero-ends news (locals-of 0 (length c.declarations) (omega arith)) held w begins (ls ++ []) in
      ends-by site loop m s run sh Gave found sets_nothing gives holds (zero_lines c body ++ ls) [] ls [] w z.0 (go held) (go held).fault
      (ap (λ y. run y 0 w) (append_assoc (zero_lines c body) ls []) ∙ z.2) (λ t. refl)
      (body-ends site loop m s run sh Gave found sets_nothing gives holds body kind fits (zeroed news held) placed z.0 [] z.1)

  held-runs : Ends v run sh Gave lines [] w out_held out_held.fault
  held-runs =
      under-ends site loop m s run sh Gave found sets_nothing gives holds (zero_lines c body ++ lines_of site kind body) [] w (term v key test) (value test (view_in loop m held key)) go held begins
      (value-of site loop m s run sh Gave found sets_nothing gives holds held w key test able.found begins) body-runs

  alike : Out c its n s.node loop m found gives loosen no_local apart late None_known out out_held
  alike =
      ok-near c its n s.node loop m found gives loosen no_local apart late None_known start held (value test (view_in loop m start key)) (value test (view_in loop m held key))
      (λ z. one_way (is_true z) (does body m loop) as_it_is start) (λ z. one_way (is_true z) go as_it_is held)
      (value-near c its n s.node loop m found gives loosen no_local apart late Global (λ x e. e) test key start held able.found (λ x f. no_read x (is_local c x) refl f) near-held)
      begun_same (λ z. way (is_true z)) where
        no_read : (x : ℕ) (b : Bool) → is_local c x ≡ b → reads_scalar x test ≡ true → is_local c x ≡ false
        no_read x true e f = absurd (both_ways (reads_scalar x test) (able.plain x e) f)
        no_read x false e f = e

        way : (t : Bool) → Out c its n s.node loop m found gives loosen no_local apart late None_known (one_way t (does body m loop) as_it_is start) (one_way t go as_it_is held)
        way false = (begun_same, λ e. weaker c its n s.node loop m found gives loosen no_local apart late Global None_known start held (λ x z. absurd z) near-held)
        way true =
            let done = does-near c its n s.node loop m found gives loosen no_local apart late body fits known (λ x e. inl e) (λ x f. read_known x (is_local c x) refl f) start (zeroed news held)
            (zero-same news held begun_same) near-news in
            (done.0, λ e. weaker c its n s.node loop m found gives loosen no_local apart late (Known c its n s.node loop m found gives loosen no_local apart late body known) None_known (does body m loop start) (go held) (λ x z. absurd z) (done.1 e))

  ends-as : (f : Option Fault) → Ends v run sh Gave lines [] w out_held f → TurnAs v Gave out (run lines 0 w) f
  ends-as None e = subst (λ a. TurnAs v Gave out a None) (sym (ap (λ ls. run ls 0 w) (sym (append-nil lines)) ∙ e.2)) (refl, moved out out_held e.0 alike.0 e.1.1)
  ends-as (Some f) e = subst (λ a. TurnAs v Gave out a (Some f)) (sym (ap (λ ls. run ls 0 w) (sym (append-nil lines)) ∙ e.2)) (refl, moved out out_held e.0 alike.0 e.1)

  pub turn-ends : TurnAs v Gave out (run lines 0 w) out.fault
  turn-ends = subst (λ f. TurnAs v Gave out (run lines 0 w) f) alike.0.fault (ends-as out_held.fault held-runs)

-- home loops
module _ (c : Layout) (seg : Segment) (registers : List VType) (fields : ℕ) (loop : Loop) (i : ℕ) (kind : ℕ) (key : Key) (test : Expr) (body : Stmt) (s : VertexContext) (w : VertexState) (r : Store)
    (able : IsHomeLoop c registers fields loop i test body) (shows : EdgeShows c loop registers fields s w r)
    (table : TypeTable) (around : List ℕ) (result : Option VType) (typed : PicksTyped c table around result loop body (begun (write r (Scalar i) (At (Some s.near.node))))) where
  abbrev at_home : Env
  at_home = each_env c seg loop.outer i

  abbrev finds_here : Expr → Bool
  finds_here = home_finds c loop.outer i

  is-each : IsEachLoop c registers fields loop i test
  is-each = record { apart = able.apart; outer = able.outer; inner = able.inner; two = able.two; types = able.types; depths = able.depths; firsts = able.firsts; plain = able.plain; found = able.found }

  late-home : (r' : Reduce) (ts : List Target) (es : List Expr) → receiver_gives c loop.outer finds_here r' ts es ≡ true
      → ((ends_of_all (AtEdge s.near.edge) loop ts ≡ WithInner) ⊎ (ends_of_all (AtEdge s.near.edge) loop ts ≡ WithOutermost)) × (list_all finds_here es ≡ true)
  late-home r' [] es o = absurd (both_ways false refl o)
  late-home r' (t ∷ ts) es o =
      ⊎_elim
      (λ (h : puts_to_scalars c finds_here r' (t ∷ ts) es ≡ true).
      let x = both-true (are_scalars c (t ∷ ts)) (list_all (is_declared c) (t ∷ ts) && (same_length (t ∷ ts) es && list_all finds_here es)) h in
      let z = both-true (list_all (is_declared c) (t ∷ ts)) (same_length (t ∷ ts) es && list_all finds_here es) x.1 in
      (inr (scalars-end c loop (AtEdge s.near.edge) t ts able.depths x.0), (both-true (same_length (t ∷ ts) es) (list_all finds_here es) z.1).1))
      (λ (h : folds_to c loop.outer finds_here r' (t ∷ ts) es ≡ true).
      let x = both-true (are_kept c loop.outer (t ∷ ts)) (same_length (t ∷ ts) es && list_all finds_here es) h in
      (inl (own-end c loop s.near.edge t ts able.own x.0), (both-true (same_length (t ∷ ts) es) (list_all finds_here es) x.1).1))
      (or-split (puts_to_scalars c finds_here r' (t ∷ ts) es) (folds_to c loop.outer finds_here r' (t ∷ ts) es) o)

  none-given : (it : Iteration) → it.with_inner ≡ [] → it.with_outermost ≡ [] → it.deferred ≡ [] → HomeGave c at_home w it w
  none-given it e f g = record {
    puts = sym (append-nil w.puts) ∙ ap (λ l. w.puts ++ map (given c at_home) l) (sym f);
    folds = sym (append-nil w.folds) ∙ ap (λ l. w.folds ++ map (given c at_home) l) (sym e);
    scalars = ap (list_all is_to_scalars) f;
    nodes = ap (list_all is_to_nodes) e;
    messages = refl;
    fields = refl;
    count = refl;
    deferred = g;
  }

  gave-moved : (a b : Iteration) (u : VertexState) → SameGiven a b → HomeGave c at_home w b u → HomeGave c at_home w a u
  gave-moved a b u same g = record {
    puts = g.puts ∙ ap (λ l. w.puts ++ map (given c at_home) l) same.outermost;
    folds = g.folds ∙ ap (λ l. w.folds ++ map (given c at_home) l) same.inner;
    scalars = ap (list_all is_to_scalars) (sym same.outermost) ∙ g.scalars;
    nodes = ap (list_all is_to_nodes) (sym same.inner) ∙ g.nodes;
    messages = g.messages;
    fields = g.fields;
    count = g.count;
    deferred = sym same.deferred ∙ g.deferred;
  }

  gave-registers : (it : Iteration) (u : VertexState) (rs : List Value) → length rs ≡ length u.registers → HomeGave c at_home w it u → HomeGave c at_home w it (record u { registers = rs })
  gave-registers it u rs e g = record { puts = g.puts; folds = g.folds; scalars = g.scalars; nodes = g.nodes; messages = g.messages; fields = g.fields; count = e ∙ g.count; deferred = g.deferred }

  abbrev home_out : Iteration
  home_out = turn_at loop (AtEdge s.near.edge) key test (does body (AtEdge s.near.edge) loop) i s.near.node r

  by-fault : (it : Iteration) (a : After) (f : Option Fault) → TurnAs at_home (λ x u. HomeGave c at_home w x u) it a f → TurnEnds c at_home w it a f
  by-fault it a None e = e
  by-fault it a (Some f) e = e

  pub each-turn : TurnEnds c at_home w home_out (lines_after s (home_lines c seg loop.outer i kind key test body) 0 w) home_out.fault
  each-turn =
      by-fault home_out (lines_after s (home_lines c seg loop.outer i kind key test body) 0 w) home_out.fault
      (turn-ends c seg registers fields loop i kind key test body s w r is-each shows (λ r' ts es. false) (receiver_gives c loop.outer finds_here) late-home (λ x u. HomeGave c at_home w x u) gave-registers Anywhere tt
      (home-holds c seg loop i s.node s.near.node s.near.edge (length registers) fields s w able.apart able.outer able.inner able.two able.types able.depths able.own)
      none-given gave-moved table around result
      (Typed c table around result loop) (parts-typed c table around result loop (AtEdge s.near.edge)) (λ st it t. t) (λ kind' key' total r' ts es it u rest turn o placed types same q. absurd (both_ways false refl o))
      able.fits typed able.spares)

pub each-turns : EachLinesAreTurns
each-turns c seg registers fields loop i kind key test body s w r table around result able typed shows = each-turn c seg registers fields loop i kind key test body s w r able shows table around result typed
