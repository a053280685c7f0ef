-- What the step of a vertex keeps.
use Rattle.std.proofs.Common.{◌≡◌, ℕ, zero, suc, Bool, true, cond, not, nat_eq, Option, Some, None, Result, Ok, Err, List, [], ◌∷◌, ◌++◌, map, length, refl, ap, ◌∙◌}
use Rattle.std.specs.Prelude.{slice_set}
use Rattle.std.specs.List.{AllByRecursion, list_all, flat_map}
use Rattle.std.proofs.lemmas.Bool.{eq-eqb}
use Rattle.std.proofs.lemmas.List.{length-set}
use Rattle.gm_value.specs.declared.values.Value.{Value}
use Rattle.gm_value.specs.Operations.{is_true}
use Rattle.gm_image.specs.Program.{Program, Block, Handler, Line, SetField, Fold, SetRegister, Put, Send, Skip, Each}
use Rattle.gm_image.specs.Rows.{handled_lines}
use Rattle.gm_machine.specs.declared.faults.Fault.{Fault}
use Rattle.gm_machine.specs.Faults.{lesser}
use Rattle.gm_machine.specs.Expressions.{value, values, value_at}
use Rattle.gm_machine.specs.Taking.{Contribution, settled}
use Rattle.gm_machine.specs.Vertex.{Message, VertexContext, VertexState, After, view, gives, messages_to, line_ends, leaves, line_after, go_by, ended, folded, each_after, body_line_after, body_after, handler_lines, handler_run, gathered, begun, handled, vertex_after}
use Rattle.gm_merge_laws.specs.Joins.{block_lines, sends_nothing, sets_register}
use Rattle.gm_merge_laws.proofs.Invariants.{kind-passes, some-front, some-back, lines-keep, body-keeps, go-keeps}
use Rattle.gm_merge_laws.proofs.Kept.{Fine, FineLine, FineState, line-fine, fold-fine, least-fine, leasts-fine, every-append}

module _ (t u : ℕ → Bool) where
  run-fine : (s : VertexContext) (handlers : List Handler) → AllByRecursion (FineLine t u) (flat_map (λ h. h.lines) handlers) → (w : VertexState) → FineState t u w → (m : Message) →
      FineState t u (handler_run s handlers w m).state × Fine t (handler_run s handlers w m).fault
  run-fine s handlers h w q m =
      lines-keep (FineState t u) (Fine t) (FineLine t u) tt (least-fine t) (line-fine t u) (fold-fine t u)
      (record s { message = m.values }) (handler_lines handlers m.kind) (kind-passes (FineLine t u) handlers m.kind h) 0 w q

  runs-fine : (s : VertexContext) (handlers : List Handler) → AllByRecursion (FineLine t u) (flat_map (λ h. h.lines) handlers) → (w : VertexState) → FineState t u w → (inbox : List Message) →
      FineState t u (gathered w (map (handler_run s handlers w) inbox)).state × AllByRecursion (Fine t) (map (λ a. a.fault) (map (handler_run s handlers w) inbox))
  runs-fine s handlers h w q [] = ((tt, tt), tt)
  runs-fine s handlers h w q (m ∷ inbox) =
      let one = run-fine s handlers h w q m in
      let more = runs-fine s handlers h w q inbox in (
        (
          every-append t (λ (c : Contribution). (t c.place ≡ true) × (list_all u c.slots ≡ true)) (handler_run s handlers w m).state.puts (flat_map (λ a. a.state.puts) (map (handler_run s handlers w) inbox)) one.0.0 more.0.0,
          every-append t (λ (c : Contribution). t c.place ≡ true) (handler_run s handlers w m).state.folds (flat_map (λ a. a.state.folds) (map (handler_run s handlers w) inbox)) one.0.1 more.0.1,
        ),
        (one.1, more.1),
      )

  -- a body puts, and faults, as its lines may
  pub body-fine : (places : ℕ) (s : VertexContext) (ls : List Line) → AllByRecursion (FineLine t u) ls → (k : ℕ) (w : VertexState) → FineState t u w →
      FineState t u (body_after places s ls k w).state × Fine t (body_after places s ls k w).fault
  body-fine = body-keeps (FineState t u) (Fine t) (FineLine t u) tt (least-fine t) (line-fine t u) (fold-fine t u)

  pub vertex-fine : (p : Program) (b : Block) (s : VertexContext) (inbox : List Message) (fields : List Value) → AllByRecursion (FineLine t u) (block_lines b) →
      FineState t u (vertex_after p b s inbox fields).state × Fine t (vertex_after p b s inbox fields).fault
  vertex-fine p b s inbox fields h =
      let runs = runs-fine s b.handlers (some-front (FineLine t u) (handled_lines b) b.body h) (begun p.registers fields) (tt, tt) inbox in
      go-keeps (FineState t u) (Fine t) (FineLine t u) tt (least-fine t) (line-fine t u) (fold-fine t u)
      (handled (length p.places) p.registers s b.handlers inbox fields) (handled (length p.places) p.registers s b.handlers inbox fields).fault refl
      (fold-fine t u (length p.places) (gathered (begun p.registers fields) (map (handler_run s b.handlers (begun p.registers fields)) inbox)).state
      (gathered (begun p.registers fields) (map (handler_run s b.handlers (begun p.registers fields)) inbox)).fault 0 runs.0
      (leasts-fine t None (map (λ a. a.fault) (map (handler_run s b.handlers (begun p.registers fields)) inbox)) tt runs.1))
      (λ k w. body_after (length p.places) s b.body 0 w)
      (λ k w q. body-fine (length p.places) s b.body (some-back (FineLine t u) (handled_lines b) b.body h) 0 w q)

-- nothing is known of a fault
abbrev pub AnyFault : Option Fault → Type 0
AnyFault f = Unit {0}

-- lines that send nothing
abbrev pub Silent : Line → Type 0
Silent l = sends_nothing l ≡ true

abbrev pub HasSent : List Message → VertexState → Type 0
HasSent ms w = w.messages ≡ ms

ends-keep : {A : Type 0} (Q : VertexState → Type 0) (w : VertexState) (r : Result A Fault) (go : A → After) → Q w → ((x : A) → Q (go x).state × Unit {0}) → Q (line_ends w r go).state × Unit {0}
ends-keep Q w (Ok x) go q on = on x
ends-keep Q w (Err f) go q on = (q, tt)

line-silent : (ms : List Message) (s : VertexContext) (l : Line) (w : VertexState) → Silent l → HasSent ms w → HasSent ms (line_after s l w).state × Unit {0}
line-silent ms s (SetField f a) w h q = ends-keep (HasSent ms) w (value (view s w) a) (λ v. leaves (record w { fields = slice_set w.fields f v })) q (λ v. (q, tt))
line-silent ms s (Fold r place ts) w h q = ends-keep (HasSent ms) w (gives (view s w) r place ts) (λ given. leaves (record w { folds = w.folds ++ given })) q (λ v. (q, tt))
line-silent ms s (SetRegister r a) w h q = ends-keep (HasSent ms) w (value (view s w) a) (λ v. leaves (record w { registers = slice_set w.registers r v })) q (λ v. (q, tt))
line-silent ms s (Put r place ts) w h q = ends-keep (HasSent ms) w (gives (view s w) r place ts) (λ given. leaves (record w { puts = w.puts ++ given })) q (λ v. (q, tt))
line-silent ms s (Send kind to ts) w h q = cc
line-silent ms s (Skip n a) w h q = ends-keep (HasSent ms) w (value (view s w) a) (λ v. record { state = w; fault = None; skip = cond (is_true v) 0 n }) q (λ v. (q, tt))
line-silent ms s (Each d n) w h q = (q, tt)

ended-keep : (Q : VertexState → Type 0) (w : VertexState) (f : Option Fault) (n : ℕ) → Q w → Q (ended w f n).state × Unit {0}
ended-keep Q w None n q = (q, tt)
ended-keep Q w (Some f) n q = (q, tt)

fold-silent : (ms : List Message) (places : ℕ) (w : VertexState) (f : Option Fault) (skip : ℕ) → HasSent ms w → Unit {0} →
    HasSent ms (folded places (record { state = w; fault = f; skip = skip })).state × Unit {0}
fold-silent ms places w f skip q h =
    ended-keep (HasSent ms) (record w { folds = []; fields = (settled places w.folds w.fields).values }) (lesser f (settled places w.folds w.fields).fault) skip q

pub body-silent : (ms : List Message) (places : ℕ) (s : VertexContext) (ls : List Line) → AllByRecursion Silent ls → (k : ℕ) (w : VertexState) → HasSent ms w → HasSent ms (body_after places s ls k w).state
body-silent ms places s ls h k w q = (body-keeps (HasSent ms) AnyFault Silent tt (λ f g h k. tt) (line-silent ms) (fold-silent ms) places s ls h k w q).0

runs-silent : (s : VertexContext) (handlers : List Handler) → AllByRecursion Silent (flat_map (λ h. h.lines) handlers) → (w : VertexState) → HasSent [] w → (inbox : List Message) →
    flat_map (λ a. a.state.messages) (map (handler_run s handlers w) inbox) ≡ []
runs-silent s handlers h w q [] = refl
runs-silent s handlers h w q (m ∷ inbox) =
    let one = (lines-keep (HasSent []) AnyFault Silent tt (λ f g h k. tt) (line-silent []) (fold-silent []) (record s { message = m.values }) (handler_lines handlers m.kind) (kind-passes Silent handlers m.kind h) 0 w q).0 in
    ap (λ ms. ms ++ flat_map (λ a. a.state.messages) (map (handler_run s handlers w) inbox)) one ∙ runs-silent s handlers h w q inbox

-- a block that sends nothing sends nothing
pub vertex-silent : (p : Program) (b : Block) (s : VertexContext) (inbox : List Message) (fields : List Value) → AllByRecursion Silent (block_lines b) →
    (vertex_after p b s inbox fields).state.messages ≡ []
vertex-silent p b s inbox fields h =
    (go-keeps (HasSent []) AnyFault Silent tt (λ f g h k. tt) (line-silent []) (fold-silent [])
    (handled (length p.places) p.registers s b.handlers inbox fields) (handled (length p.places) p.registers s b.handlers inbox fields).fault refl
    (fold-silent [] (length p.places) (gathered (begun p.registers fields) (map (handler_run s b.handlers (begun p.registers fields)) inbox)).state
    (gathered (begun p.registers fields) (map (handler_run s b.handlers (begun p.registers fields)) inbox)).fault 0
    (runs-silent s b.handlers (some-front Silent (handled_lines b) b.body h) (begun p.registers fields) refl inbox) tt)
    (λ k w. body_after (length p.places) s b.body 0 w)
    (λ k w q. (body-silent [] (length p.places) s b.body (some-back Silent (handled_lines b) b.body h) 0 w q, tt))).0

-- lines that do not set a register leave it
abbrev pub Leaves : ℕ → Line → Type 0
Leaves r l = not (sets_register r l) ≡ true

-- a register holds a value, and there are so many registers
abbrev pub Holds : ℕ → Value → VertexState → Type 0
Holds r v w = value_at w.registers r ≡ v

differs : (x r : ℕ) → not (nat_eq x r) ≡ true → x ≡ r → ⊥
differs x r h e = let same = eq-eqb x r e in cc

pub set-other : (xs : List Value) (x r : ℕ) (v : Value) → (x ≡ r → ⊥) → value_at (slice_set xs x v) r ≡ value_at xs r
set-other [] x r v h = refl
set-other (y ∷ xs) zero zero v h = absurd (h refl)
set-other (y ∷ xs) zero (suc r) v h = refl
set-other (y ∷ xs) (suc x) zero v h = refl
set-other (y ∷ xs) (suc x) (suc r) v h = set-other xs x r v (λ e. h (ap suc e))

pub line-leaves : (r : ℕ) (v : Value) (s : VertexContext) (l : Line) (w : VertexState) → Leaves r l → Holds r v w → Holds r v (line_after s l w).state × Unit {0}
line-leaves r v s (SetField f a) w h q = ends-keep (Holds r v) w (value (view s w) a) (λ v. leaves (record w { fields = slice_set w.fields f v })) q (λ v. (q, tt))
line-leaves r v s (Fold op place ts) w h q = ends-keep (Holds r v) w (gives (view s w) op place ts) (λ given. leaves (record w { folds = w.folds ++ given })) q (λ v. (q, tt))
line-leaves r v s (SetRegister x a) w h q = ends-keep (Holds r v) w (value (view s w) a) (λ v. leaves (record w { registers = slice_set w.registers x v })) q (λ y. (set-other w.registers x r y (differs x r h) ∙ q, tt))
line-leaves r v s (Put op place ts) w h q = ends-keep (Holds r v) w (gives (view s w) op place ts) (λ given. leaves (record w { puts = w.puts ++ given })) q (λ v. (q, tt))
line-leaves r v s (Send kind to ts) w h q = ends-keep (Holds r v) w (value (view s w) to) (λ v. line_ends w (values (view s w) ts) (λ vs. leaves (record w { messages = w.messages ++ messages_to v kind vs }))) q
    (λ v'. ends-keep (Holds r v) w (values (view s w) ts) (λ vs. leaves (record w { messages = w.messages ++ messages_to v' kind vs })) q (λ vs. (q, tt)))
line-leaves r v s (Skip n a) w h q = ends-keep (Holds r v) w (value (view s w) a) (λ v. record { state = w; fault = None; skip = cond (is_true v) 0 n }) q (λ v. (q, tt))
line-leaves r v s (Each d n) w h q = (q, tt)

pub fold-leaves : (r : ℕ) (v : Value) (places : ℕ) (w : VertexState) (f : Option Fault) (skip : ℕ) → Holds r v w → Unit {0} →
    Holds r v (folded places (record { state = w; fault = f; skip = skip })).state × Unit {0}
fold-leaves r v places w f skip q h =
    ended-keep (Holds r v) (record w { folds = []; fields = (settled places w.folds w.fields).values }) (lesser f (settled places w.folds w.fields).fault) skip q

pub body-leaves : (r : ℕ) (v : Value) (places : ℕ) (s : VertexContext) (ls : List Line) → AllByRecursion (Leaves r) ls → (k : ℕ) (w : VertexState) → Holds r v w → Holds r v (body_after places s ls k w).state
body-leaves r v places s ls h k w q = (body-keeps (Holds r v) AnyFault (Leaves r) tt (λ f g h k. tt) (line-leaves r v) (fold-leaves r v) places s ls h k w q).0

-- no line changes how many registers there are
abbrev pub AnyLine : Line → Type 0
AnyLine l = Unit {0}

abbrev pub HasLong : ℕ → VertexState → Type 0
HasLong n w = length w.registers ≡ n

pub line-long : (n : ℕ) (s : VertexContext) (l : Line) (w : VertexState) → Unit {0} → HasLong n w → HasLong n (line_after s l w).state × Unit {0}
line-long n s (SetField f a) w h q = ends-keep (HasLong n) w (value (view s w) a) (λ v. leaves (record w { fields = slice_set w.fields f v })) q (λ v. (q, tt))
line-long n s (Fold op place ts) w h q = ends-keep (HasLong n) w (gives (view s w) op place ts) (λ given. leaves (record w { folds = w.folds ++ given })) q (λ v. (q, tt))
line-long n s (SetRegister x a) w h q = ends-keep (HasLong n) w (value (view s w) a) (λ v. leaves (record w { registers = slice_set w.registers x v })) q (λ y. (length-set w.registers x y ∙ q, tt))
line-long n s (Put op place ts) w h q = ends-keep (HasLong n) w (gives (view s w) op place ts) (λ given. leaves (record w { puts = w.puts ++ given })) q (λ v. (q, tt))
line-long n s (Send kind to ts) w h q = ends-keep (HasLong n) w (value (view s w) to) (λ v. line_ends w (values (view s w) ts) (λ vs. leaves (record w { messages = w.messages ++ messages_to v kind vs }))) q
    (λ v'. ends-keep (HasLong n) w (values (view s w) ts) (λ vs. leaves (record w { messages = w.messages ++ messages_to v' kind vs })) q (λ vs. (q, tt)))
line-long n s (Skip k a) w h q = ends-keep (HasLong n) w (value (view s w) a) (λ v. record { state = w; fault = None; skip = cond (is_true v) 0 k }) q (λ v. (q, tt))
line-long n s (Each d k) w h q = (q, tt)

pub fold-long : (n places : ℕ) (w : VertexState) (f : Option Fault) (skip : ℕ) → HasLong n w → Unit {0} → HasLong n (folded places (record { state = w; fault = f; skip = skip })).state × Unit {0}
fold-long n places w f skip q h =
    ended-keep (HasLong n) (record w { folds = []; fields = (settled places w.folds w.fields).values }) (lesser f (settled places w.folds w.fields).fault) skip q

any-lines : (ls : List Line) → AllByRecursion AnyLine ls
any-lines [] = tt
any-lines (l ∷ ls) = (tt, any-lines ls)

pub body-long : (n places : ℕ) (s : VertexContext) (ls : List Line) (k : ℕ) (w : VertexState) → HasLong n w → HasLong n (body_after places s ls k w).state
body-long n places s ls k w q = (body-keeps (HasLong n) AnyFault AnyLine tt (λ f g h k. tt) (line-long n) (fold-long n) places s ls (any-lines ls) k w q).0

-- after a body no folds are left to be taken
ended-taken : (w : VertexState) (f : Option Fault) (n : ℕ) → w.folds ≡ [] → (ended w f n).state.folds ≡ []
ended-taken w None n q = q
ended-taken w (Some f) n q = q

ends-taken : {A : Type 0} (w : VertexState) (r : Result A Fault) (go : A → After) → w.folds ≡ [] → ((x : A) → (go x).state.folds ≡ []) → (line_ends w r go).state.folds ≡ []
ends-taken w (Ok x) go q on = on x
ends-taken w (Err f) go q on = q

pub folded-taken : (places : ℕ) (a : After) → (folded places a).state.folds ≡ []
folded-taken places a =
    ended-taken (record (a.state) { folds = []; fields = (settled places a.state.folds a.state.fields).values }) (lesser a.fault (settled places a.state.folds a.state.fields).fault) a.skip refl

body-line-taken : (places : ℕ) (s : VertexContext) (l : Line) (ls : List Line) (w : VertexState) → w.folds ≡ [] → (body_line_after places s l ls w).state.folds ≡ []
body-line-taken places s (Each d n) ls w q = folded-taken places (each_after s d n ls w)
body-line-taken places s (Fold r place ts) ls w q = folded-taken places (line_after s (Fold r place ts) w)
body-line-taken places s (SetField f a) ls w q = ends-taken w (value (view s w) a) (λ v. leaves (record w { fields = slice_set w.fields f v })) q (λ v. q)
body-line-taken places s (SetRegister r a) ls w q = ends-taken w (value (view s w) a) (λ v. leaves (record w { registers = slice_set w.registers r v })) q (λ v. q)
body-line-taken places s (Put r place ts) ls w q = ends-taken w (gives (view s w) r place ts) (λ given. leaves (record w { puts = w.puts ++ given })) q (λ v. q)
body-line-taken places s (Send kind to ts) ls w q = ends-taken w (value (view s w) to) (λ v. line_ends w (values (view s w) ts) (λ vs. leaves (record w { messages = w.messages ++ messages_to v kind vs }))) q
    (λ v. ends-taken w (values (view s w) ts) (λ vs. leaves (record w { messages = w.messages ++ messages_to v kind vs })) q (λ vs. q))
body-line-taken places s (Skip n a) ls w q = ends-taken w (value (view s w) a) (λ v. record { state = w; fault = None; skip = cond (is_true v) 0 n }) q (λ v. q)

pub go-taken : (a : After) (o : Option Fault) (go : ℕ → VertexState → After) → a.state.folds ≡ [] → ((k : ℕ) (w : VertexState) → w.folds ≡ [] → (go k w).state.folds ≡ []) → (go_by o a go).state.folds ≡ []
go-taken a None go q on = on a.skip a.state q
go-taken a (Some f) go q on = q

pub body-taken : (places : ℕ) (s : VertexContext) (ls : List Line) (k : ℕ) (w : VertexState) → w.folds ≡ [] → (body_after places s ls k w).state.folds ≡ []
body-taken places s [] k w q = q
body-taken places s (l ∷ ls) (suc k) w q = body-taken places s ls k w q
body-taken places s (l ∷ ls) zero w q =
    go-taken (body_line_after places s l ls w) (body_line_after places s l ls w).fault (λ k w. body_after places s ls k w) (body-line-taken places s l ls w q) (λ k w q. body-taken places s ls k w q)
