-- A turn of the levels from the root's on.
use Rattle.std.proofs.Common.{◌≡◌, ◌<◌, ◌≤◌, ℕ, suc, Bool, true, false, cond, List, [], ◌∷◌, length, refl, sym, ap, subst, ◌∙◌, arith, Option, Some}
use Rattle.std.specs.Prelude.{◌≢◌, pos, filter}
use Rattle.std.specs.List.{list_any}
use Rattle.gm_value.specs.declared.operations.Op2.TheVariants.{Eq}
use Rattle.gm_value.specs.declared.values.Value.TheVariants.{I32, Flag}
use Rattle.gm_value.specs.Operations.{result2}
use Rattle.gm_model.specs.Graphs.{IsGraph, node_count}
use Rattle.gm_ast.specs.declared.tree.Key.{Key}
use Rattle.gm_ast.specs.Program.{Expr, Const, Stmt, Skip, Then, sequence}
use Rattle.gm_semantics.specs.declared.slots.Slot.TheVariants.{Scalar, Node}
use Rattle.gm_semantics.specs.Levels.{nodes, level_of, is_level}
use Rattle.gm_semantics.specs.Stores.{Store, write}
use Rattle.gm_semantics.specs.Statements.{Run, State, Course, Goes, variable_at, with_value, with_store, loops, sequential}
use Rattle.gm_semantics.specs.Frames.{Agree}
use Rattle.gm_semantics.proofs.TargetLaws.{never}
use Rattle.gm_bfs.specs.declared.fresh.Fresh.{Fresh}
use Rattle.gm_bfs.specs.declared.fresh.Site.{Site}
use Rattle.gm_bfs.specs.Variables.{fresh_from, copy_of}
use Rattle.gm_bfs.specs.Copies.{asks_up, asks_down}
use Rattle.gm_bfs.specs.Searches.{scalar, set, next_level, level_before, activate, reach, look, copy, visit, where_asked, first_where}
use Rattle.gm_bfs.proofs.LevelFacts.{level-below}
use Rattle.gm_bfs.proofs.Cells.{before, cell, cell-is}
use Rattle.gm_bfs.proofs.Expressions.{Copied}
use Rattle.gm_bfs.proofs.Visits.{Part}
use Rattle.gm_bfs.proofs.Reaching.{reaches}
use Rattle.gm_bfs.proofs.Looking.{look-looks}
use Rattle.gm_bfs.proofs.Steps.{To, then-to, set-to, written, unwritten, agree-step, next_level-to, level_before-to, asked-to, asked-scalar, asked-written, asked-node, asked-edge}
use Rattle.gm_bfs.proofs.Turns.{Follow, follow-after, few-nodes, few, Visited, visit-follow, Prepared, prepare}

module _ (P Q : ℕ → Type 0) (k : ℕ) (P-below : (y : ℕ) → P y → y < k) (Q-below : (p : ℕ) → Q p → p < k) (run : Run) (ok : IsGraph run.graph) (r : ℕ) (root : r < node_count run.graph)
    (plain-found : (variable_at run.declarations (fresh_from k).found).depth ≡ 0) (s : Site) (key : Key) (x : ℕ) (test : Expr) (body : Stmt) (part : Part P Q k x test body) (marks : List Bool) (short : length marks ≤ k) where
  abbrev f : Fresh
  f = fresh_from k

  abbrev lev : ℕ → Option ℕ
  lev = level_of run.graph r

  abbrev on : ℕ → ℕ → Bool
  on j n = is_level (lev n) j

  abbrev FoundTo : ℕ → Store → Type 0
  FoundTo c t = (m : ℕ) → m < node_count run.graph → t.node f.level m ≡ cell c (lev m)

  abbrev pub turn : Stmt
  turn = sequence (
      next_level s f ∷
      where_asked (asks_up body) (level_before s f f.up) ∷
      set s f.found (Const (Flag false)) ∷
      activate s f ∷
      copy s f marks ∷
      first_where (asks_down body) (reach s f) (visit s f marks key x test body) ∷
      look s f ∷
      set s f.more (scalar s f.found) ∷
      set s f.current (scalar s f.down) ∷ [])

  -- at the head of the While
  pub record Head (j : ℕ) (us ts : State) : Type 0 where
    pub agree : Agree k us.store ts.store
    pub turns : ts.turns ≡ us.turns
    pub found : FoundTo j ts.store
    pub current : ts.store.scalar f.current ≡ I32 (pos j)
    pub more : ts.store.scalar f.more ≡ Flag (list_any (on j) (nodes run.graph))

  -- behind a turn
  pub record Turned (j : ℕ) (before us ts : State) : Type 0 where
    pub head : Head j us ts
    pub turns : us.turns ≡ before.turns

  module _ (a j : ℕ) (some : lev a ≡ Some j) (us ts : State) (head : Head j us ts) where
    small : suc j ≤ 2147483647
    small = let b = level-below run.graph r root a j some in let n = few-nodes P Q k P-below Q-below run ok r root plain-found s key x test body part marks short in omega arith

    abbrev t1 : Store
    t1 = write ts.store (Scalar f.down) (I32 (pos (suc j)))

    abbrev t2 : Store
    t2 = cond (asks_up body) (write t1 (Scalar f.up) (I32 (before j))) t1

    abbrev t3 : Store
    t3 = write t2 (Scalar f.found) (Flag false)

    abbrev at : Store → State
    at t = record ts { store = t }

    scalar-stays : (y : ℕ) → f.down ≢ y → f.up ≢ y → f.found ≢ y → t3.scalar y ≡ ts.store.scalar y
    scalar-stays y a b c = unwritten t2 f.found y (Flag false) c ∙ asked-scalar s k run (asks_up body) t1 f.up y (I32 (before j)) b ∙ unwritten ts.store f.down y (I32 (pos (suc j))) a

    node-stays : (p m : ℕ) → t3.node p m ≡ ts.store.node p m
    node-stays p m = asked-node s k run (asks_up body) t1 f.up (I32 (before j)) p m

    ready3 : (u : Store) × ((rest : Stmt) → sequential (Then (activate s f) (Then (copy s f marks) rest)) run (at t3) ≡ sequential rest run (at u)) × Prepared P Q k P-below Q-below run ok r root plain-found s key x test body part marks short j t3 u
    ready3 = prepare P Q k P-below Q-below run ok r root plain-found s key x test body part marks short j j (at t3) (omega arith) (let b = small in omega arith)
        (λ m b. node-stays f.level m ∙ head.found m b) (scalar-stays f.current (λ e. omega arith) (λ e. omega arith) (λ e. omega arith) ∙ head.current)

    abbrev t4 : Store
    t4 = ready3.0

    down3 : t3.scalar f.down ≡ I32 (pos (suc j))
    down3 = unwritten t2 f.found f.down (Flag false) (λ e. omega arith) ∙ asked-scalar s k run (asks_up body) t1 f.up f.down (I32 (before j)) (λ e. omega arith) ∙ written ts.store f.down (I32 (pos (suc j)))

    down4 : t4.scalar f.down ≡ I32 (pos (suc j))
    down4 = ready3.2.scalar f.down ∙ down3

    found4 : FoundTo j t4
    found4 m b = ready3.2.level m ∙ node-stays f.level m ∙ head.found m b

    unset4 : t4.scalar f.found ≡ Flag false
    unset4 = ready3.2.scalar f.found ∙ written t2 f.found (Flag false)

    up4 : asks_up body ≡ true → t4.scalar f.up ≡ I32 (before j)
    up4 e = ready3.2.scalar f.up ∙ unwritten t2 f.found f.up (Flag false) (λ h. omega arith) ∙ asked-written s k run (asks_up body) t1 f.up (I32 (before j)) e

    agree4 : Agree k us.store t4
    agree4 =
        agree-step k us.store ts.store t4 head.agree
        (λ y b. ready3.2.scalar y ∙ scalar-stays y (λ e. omega arith) (λ e. omega arith) (λ e. omega arith))
        (λ p m b. ready3.2.low p m b ∙ node-stays p m)
        (ready3.2.edge ∙ asked-edge s k run (asks_up body) t1 f.up (I32 (before j)))

    rest : Stmt
    rest = sequence (look s f ∷ set s f.more (scalar s f.found) ∷ set s f.current (scalar s f.down) ∷ [])

    -- the first statements
    begins : sequential turn run ts ≡ sequential (Then (first_where (asks_down body) (reach s f) (visit s f marks key x test body)) (sequence (look s f ∷ set s f.more (scalar s f.found) ∷ set s f.current (scalar s f.down) ∷ []))) run (at t4)
    begins =
        let tail = Then (first_where (asks_down body) (reach s f) (visit s f marks key x test body)) (sequence (look s f ∷ set s f.more (scalar s f.found) ∷ set s f.current (scalar s f.down) ∷ [])) in
        let last = Then (activate s f) (Then (copy s f marks) tail) in
        let third = Then (set s f.found (Const (Flag false))) last in
        then-to run (next_level s f) (Then (where_asked (asks_up body) (level_before s f f.up)) third) ts t1 (next_level-to s k run ts j small head.current)
        ∙ then-to run (where_asked (asks_up body) (level_before s f f.up)) third (at t1) t2
        (asked-to s k run (asks_up body) (level_before s f f.up) f.up (I32 (before j)) (at t1) (level_before-to s k run (at t1) f.up j (let b = small in omega arith) (unwritten ts.store f.down f.current (I32 (pos (suc j))) (λ e. omega arith) ∙ head.current)))
        ∙ then-to run (set s f.found (Const (Flag false))) last (at t2) t3 (set-to run s f.found (Const (Flag false)) (Flag false) (at t2) refl)
        ∙ ready3.1 tail

    -- the part was visited, and the next level is found
    record Middle (us' ts' : State) : Type 0 where
      agree : Agree k us'.store ts'.store
      turns : us'.turns ≡ us.turns
      turns' : ts'.turns ≡ us.turns
      found : FoundTo (suc j) ts'.store
      down : ts'.store.scalar f.down ≡ I32 (pos (suc j))
      unset : ts'.store.scalar f.found ≡ Flag false

    abbrev old-loop : Course
    old-loop = loops run lev x key test body (filter (on j) (nodes run.graph)) us

    -- the loop that reaches
    abbrev Reach : Store → Store → Type 0
    Reach t u = (To run (reach s f) (at t) u) × ((y : ℕ) → u.scalar y ≡ t.scalar y) × ((q m : ℕ) → q ≢ f.level → u.node q m ≡ t.node q m) × FoundTo (suc j) u × (u.edge ≡ t.edge)

    reach-from : (t : Store) → ((n : ℕ) → n < node_count run.graph → t.node f.active n ≡ Flag (on j n)) → t.scalar f.down ≡ I32 (pos (suc j)) → FoundTo j t → (turns : ℕ) →
        (u : Store) × (sequential (reach s f) run (record { store = t; turns = turns }) ≡ Goes (record { store = u; turns = turns })) × ((y : ℕ) → u.scalar y ≡ t.scalar y) × ((q m : ℕ) → q ≢ f.level → u.node q m ≡ t.node q m) × FoundTo (suc j) u × (u.edge ≡ t.edge)
    reach-from t active down found turns =
        let q = reaches s k run ok r root j small t active down found in
        (q.0, ap (λ c. with_value c (with_store (record { store = t; turns = turns }))) q.1, q.2.scalar, q.2.others, q.2.found, q.2.edge)

    copied-stays : (t u : Store) → ((q m : ℕ) → q ≢ f.level → u.node q m ≡ t.node q m) → (m : ℕ) → Copied f marks k t m → Copied f marks k u m
    copied-stays t u same m h p b e = same (copy_of f p) m (λ i. omega arith) ∙ h p b e ∙ sym (same p m (λ i. omega arith))

    middle : (b : Bool) → asks_down body ≡ b → Follow Middle old-loop (sequential (first_where b (reach s f) (visit s f marks key x test body)) run (at t4))
    middle true asks =
        let q = reach-from t4 ready3.2.active down4 found4 ts.turns in
        let visited = visit-follow P Q k P-below Q-below run ok r root plain-found s key x test body part marks short a (suc j) j some (omega arith) (λ e. omega arith) us (at q.0)
        (record {
          found = q.4;
          active = λ n b. q.3 f.active n (λ e. omega arith) ∙ ready3.2.active n b;
          copied = λ m b. copied-stays t4 q.0 q.3 m (ready3.2.copied m b);
          up = λ e. q.2 f.up ∙ up4 e;
          down = λ e. q.2 f.down ∙ down4;
        })
        (agree-step k us.store t4 q.0 agree4 (λ y b. q.2 y) (λ p m b. q.3 p m (λ e. omega arith)) q.5) head.turns in
        subst (Follow Middle old-loop) (sym (then-to run (reach s f) (Then (visit s f marks key x test body) Skip) (at t4) q.0 q.1))
        (follow-after (Visited P Q k P-below Q-below run ok r root plain-found s key x test body part marks short us q.0) Middle old-loop (sequential (visit s f marks key x test body) run (at q.0)) (sequential Skip run) visited
        (λ us' ts' v. record {
          agree = v.agree;
          turns = v.turns;
          turns' = v.turns';
          found = λ m b. v.stays (Node f.level m) (omega arith) ∙ q.4 m b;
          down = v.stays (Scalar f.down) (omega arith) ∙ q.2 f.down ∙ down4;
          unset = v.stays (Scalar f.found) (omega arith) ∙ q.2 f.found ∙ unset4;
        }))
    middle false asks =
        let visited = visit-follow P Q k P-below Q-below run ok r root plain-found s key x test body part marks short a j j some (omega arith) (λ e. never e asks) us (at t4)
        (record { found = found4; active = ready3.2.active; copied = ready3.2.copied; up = up4; down = λ e. down4 }) agree4 head.turns in
        follow-after (Visited P Q k P-below Q-below run ok r root plain-found s key x test body part marks short us t4) Middle old-loop (sequential (visit s f marks key x test body) run (at t4)) (sequential (Then (reach s f) Skip) run) visited
        (λ us' ts' v.
        let down = v.stays (Scalar f.down) (omega arith) ∙ down4 in
        let q = reach-from ts'.store (λ n b. v.stays (Node f.active n) (omega arith) ∙ ready3.2.active n b) down (λ m b. v.stays (Node f.level m) (omega arith) ∙ found4 m b) ts'.turns in
        subst (Follow Middle (Goes us')) (sym (then-to run (reach s f) Skip ts' q.0 q.1)) (record {
          agree = agree-step k us'.store ts'.store q.0 v.agree (λ y b. q.2 y) (λ p m b. q.3 p m (λ e. omega arith)) q.5;
          turns = v.turns;
          turns' = v.turns';
          found = q.4;
          down = q.2 f.down ∙ down;
          unset = q.2 f.found ∙ v.stays (Scalar f.found) (omega arith) ∙ unset4;
        }))

    -- the last statements
    ends : (us' ts' : State) → Middle us' ts' → Follow (Turned (suc j) us) (Goes us') (sequential (sequence (look s f ∷ set s f.more (scalar s f.found) ∷ set s f.current (scalar s f.down) ∷ [])) run ts')
    ends us' ts' m =
        let q = look-looks s k run plain-found ts'.store (on (suc j))
        (λ n b. ap (λ v. result2 Eq v (ts'.store.scalar f.down)) (m.found n b) ∙ ap (result2 Eq (cell (suc j) (lev n))) m.down
        ∙ cell-is (suc j) (suc j) (lev n) (omega arith) (few P Q k P-below Q-below run ok r root plain-found s key x test body part marks short a j (suc j) n some (omega arith) b)) m.unset in
        let u1 = q.0 in
        let u2 = write u1 (Scalar f.more) (u1.scalar f.found) in
        let u3 = write u2 (Scalar f.current) (u2.scalar f.down) in
        let at' : Store → State = λ u. record ts' { store = u } in
        let down2 : u2.scalar f.down ≡ I32 (pos (suc j)) = unwritten u1 f.more f.down (u1.scalar f.found) (λ e. omega arith) ∙ q.2.scalar f.down (λ e. omega arith) ∙ m.down in
        subst (Follow (Turned (suc j) us) (Goes us'))
        (sym (then-to run (look s f) (sequence (set s f.more (scalar s f.found) ∷ set s f.current (scalar s f.down) ∷ [])) ts' u1 (ap (λ c. with_value c (with_store ts')) q.1)
        ∙ then-to run (set s f.more (scalar s f.found)) (sequence (set s f.current (scalar s f.down) ∷ [])) (at' u1) u2 (set-to run s f.more (scalar s f.found) (u1.scalar f.found) (at' u1) refl)
        ∙ then-to run (set s f.current (scalar s f.down)) Skip (at' u2) u3 (set-to run s f.current (scalar s f.down) (u2.scalar f.down) (at' u2) refl)))
        (record {
          turns = m.turns;
          head = record {
            agree = agree-step k us'.store ts'.store u3 m.agree
                (λ y b. unwritten u2 f.current y (u2.scalar f.down) (λ e. omega arith) ∙ unwritten u1 f.more y (u1.scalar f.found) (λ e. omega arith) ∙ q.2.scalar y (λ e. omega arith))
                (λ p i b. q.2.node p i) q.2.edge;
            turns = m.turns' ∙ sym m.turns;
            found = λ n b. q.2.node f.level n ∙ m.found n b;
            current = written u2 f.current (u2.scalar f.down) ∙ down2;
            more = unwritten u2 f.current f.more (u2.scalar f.down) (λ e. omega arith) ∙ written u1 f.more (u1.scalar f.found) ∙ q.2.found;
          };
        })

    -- a turn
    pub forward-turn : Follow (Turned (suc j) us) (loops run lev x key test body (filter (on j) (nodes run.graph)) us) (sequential turn run ts)
    forward-turn =
        subst (Follow (Turned (suc j) us) old-loop) (sym begins)
        (follow-after Middle (Turned (suc j) us) old-loop (sequential (first_where (asks_down body) (reach s f) (visit s f marks key x test body)) run (at t4))
        (sequential (sequence (look s f ∷ set s f.more (scalar s f.found) ∷ set s f.current (scalar s f.down) ∷ [])) run) (middle (asks_down body) refl) ends)
