-- The way back: a turn of each level, from the last one to the root's.
use Rattle.std.proofs.Common.{◌≡◌, ◌<◌, ◌≤◌, ◌+◌, ℕ, zero, suc, Bool, true, false, cond, List, [], ◌∷◌, ◌++◌, map, length, reverse, refl, sym, ap, subst, ◌∙◌, arith, Option, Some, Ok}
use Rattle.std.specs.Prelude.{◌≢◌, pos, filter, int_le}
use Rattle.std.proofs.lemmas.Bool.{le-leb}
use Rattle.std.proofs.lemmas.List.{map-append, reverse-append}
use Rattle.gm_value.specs.declared.operations.Op2.TheVariants.{Ge}
use Rattle.gm_value.specs.declared.values.Value.TheVariants.{I32, Flag}
use Rattle.gm_value.specs.Operations.{is_true, result2}
use Rattle.gm_model.specs.Graphs.{IsGraph, node_count}
use Rattle.gm_ast.specs.declared.tree.Key.{Key}
use Rattle.gm_ast.specs.Program.{Expr, Binary, Stmt, Skip, Then, sequence}
use Rattle.gm_semantics.specs.declared.slots.Slot.TheVariants.{Scalar, Node}
use Rattle.gm_semantics.specs.Levels.{numbers_from, nodes, level_of, is_level}
use Rattle.gm_semantics.specs.Stores.{Store, write}
use Rattle.gm_semantics.specs.Expressions.{Answer, plain, settled, two_of, located, value}
use Rattle.gm_semantics.specs.Statements.{Run, State, Course, Goes, variable_at, view_of, with_value, then_do, either_way, begin_turn, repeated, in_turns, loops, sequential}
use Rattle.gm_semantics.specs.Frames.{Agree}
use Rattle.gm_bfs.specs.declared.fresh.Fresh.{Fresh}
use Rattle.gm_bfs.specs.declared.fresh.Site.{Site}
use Rattle.gm_bfs.specs.Variables.{fresh_from, filter_key}
use Rattle.gm_bfs.specs.Copies.{asks_up, asks_down}
use Rattle.gm_bfs.specs.Searches.{number, scalar, next_level, level_before, activate, copy, visit, where_asked}
use Rattle.gm_bfs.proofs.LevelFacts.{level-below}
use Rattle.gm_bfs.proofs.Cells.{before, cell}
use Rattle.gm_bfs.proofs.Depths.{at-level, HasLevel}
use Rattle.gm_bfs.proofs.Visits.{Part}
use Rattle.gm_bfs.proofs.Steps.{then-to, written, unwritten, agree-step, next_level-to, level_before-to, asked-to, asked-scalar, asked-written, asked-node, asked-edge}
use Rattle.gm_bfs.proofs.Turns.{Follow, follow-then, follow-after, few-nodes, Visited, visit-follow, Prepared, prepare}
use Rattle.gm_bfs.proofs.Whiles.{follow-turn}

numbers-last : (a i : ℕ) → numbers_from a (suc i) ≡ numbers_from a i ++ (a + i) ∷ []
numbers-last a zero = let is : a ≡ a + 0 = omega arith in ap (λ n. n ∷ []) is
numbers-last a (suc i) = let is : suc a + i ≡ a + suc i = omega arith in ap (λ ns. a ∷ ns) (numbers-last (suc a) i ∙ ap (λ n. numbers_from (suc a) i ++ n ∷ []) is)

last-first : {A : Type 0} (g : ℕ → A) (i : ℕ) → reverse (map g (numbers_from 0 (suc i))) ≡ g i ∷ reverse (map g (numbers_from 0 i))
last-first g i =
    let is : 0 + i ≡ i = omega arith in
    ap (λ ns. reverse (map g ns)) (numbers-last 0 i ∙ ap (λ n. numbers_from 0 i ++ n ∷ []) is)
    ∙ ap reverse (map-append g (numbers_from 0 i) (i ∷ []))
    ∙ reverse-append (map g (numbers_from 0 i)) (g i ∷ [])

module _ (P Q : ℕ → Type 0) (k : ℕ) (P-below : (y : ℕ) → P y → y < k) (Q-below : (p : ℕ) → Q p → p < k) (run : Run) (ok : IsGraph run.graph) (r : ℕ) (root : r < node_count run.graph)
    (plain-found : (variable_at run.declarations (fresh_from k).found).depth ≡ 0) (s : Site) (key : Key) (x : ℕ) (test : Expr) (body : Stmt) (part : Part P Q k x test body) (marks : List Bool) (short : length marks ≤ k) (d : ℕ) where
  abbrev f : Fresh
  f = fresh_from k

  abbrev lev : ℕ → Option ℕ
  lev = level_of run.graph r

  abbrev on : ℕ → ℕ → Bool
  on j n = is_level (lev n) j

  abbrev pub back : Stmt
  back = sequence (
      where_asked (asks_down body) (next_level s f) ∷
      where_asked (asks_up body) (level_before s f f.up) ∷
      activate s f ∷
      copy s f marks ∷
      visit s f marks key x test body ∷
      level_before s f f.current ∷ [])

  -- so many levels are left
  pub record Left (i : ℕ) (us ts : State) : Type 0 where
    pub agree : Agree k us.store ts.store
    pub turns : ts.turns ≡ us.turns
    pub found : (m : ℕ) → m < node_count run.graph → ts.store.node f.level m ≡ cell d (lev m)
    pub current : ts.store.scalar f.current ≡ I32 (before i)

  pub record WentBack (i : ℕ) (earlier us ts : State) : Type 0 where
    pub left : Left i us ts
    pub turns : us.turns ≡ earlier.turns

  module _ (a j : ℕ) (some : lev a ≡ Some j) (low : j < d) (us ts : State) (left : Left (suc j) us ts) where
    small : suc j ≤ 2147483647
    small = let b = level-below run.graph r root a j some in let n = few-nodes P Q k P-below Q-below run ok r root plain-found s key x test body part marks short in omega arith

    abbrev t1 : Store
    t1 = cond (asks_down body) (write ts.store (Scalar f.down) (I32 (pos (suc j)))) ts.store

    abbrev t2 : Store
    t2 = cond (asks_up body) (write t1 (Scalar f.up) (I32 (before j))) t1

    abbrev at : Store → State
    at t = record ts { store = t }

    scalar-stays : (y : ℕ) → f.down ≢ y → f.up ≢ y → t2.scalar y ≡ ts.store.scalar y
    scalar-stays y a b = asked-scalar s k run (asks_up body) t1 f.up y (I32 (before j)) b ∙ asked-scalar s k run (asks_down body) ts.store f.down y (I32 (pos (suc j))) a

    node-stays : (p m : ℕ) → t2.node p m ≡ ts.store.node p m
    node-stays p m = asked-node s k run (asks_up body) t1 f.up (I32 (before j)) p m ∙ asked-node s k run (asks_down body) ts.store f.down (I32 (pos (suc j))) p m

    current2 : t2.scalar f.current ≡ I32 (pos j)
    current2 = scalar-stays f.current (λ e. omega arith) (λ e. omega arith) ∙ left.current

    ready : (u : Store) × ((rest : Stmt) → sequential (Then (activate s f) (Then (copy s f marks) rest)) run (at t2) ≡ sequential rest run (at u)) × Prepared P Q k P-below Q-below run ok r root plain-found s key x test body part marks short j t2 u
    ready = prepare P Q k P-below Q-below run ok r root plain-found s key x test body part marks short d j (at t2) (omega arith) (let b = small in omega arith) (λ m b. node-stays f.level m ∙ left.found m b) current2

    abbrev t3 : Store
    t3 = ready.0

    begins : sequential back run ts ≡ sequential (Then (visit s f marks key x test body) (sequence (level_before s f f.current ∷ []))) run (at t3)
    begins =
        let tail = Then (visit s f marks key x test body) (sequence (level_before s f f.current ∷ [])) in
        let last = Then (activate s f) (Then (copy s f marks) tail) in
        then-to run (where_asked (asks_down body) (next_level s f)) (Then (where_asked (asks_up body) (level_before s f f.up)) last) ts t1
        (asked-to s k run (asks_down body) (next_level s f) f.down (I32 (pos (suc j))) ts (next_level-to s k run ts j small left.current))
        ∙ then-to run (where_asked (asks_up body) (level_before s f f.up)) last (at t1) t2
        (asked-to s k run (asks_up body) (level_before s f f.up) f.up (I32 (before j)) (at t1) (level_before-to s k run (at t1) f.up j (let b = small in omega arith) (asked-scalar s k run (asks_down body) ts.store f.down f.current (I32 (pos (suc j))) (λ e. omega arith) ∙ left.current)))
        ∙ ready.1 tail

    visited : Follow (Visited P Q k P-below Q-below run ok r root plain-found s key x test body part marks short us t3) (loops run lev x key test body (filter (on j) (nodes run.graph)) us) (sequential (visit s f marks key x test body) run (at t3))
    visited =
        visit-follow P Q k P-below Q-below run ok r root plain-found s key x test body part marks short a d j some (omega arith) (λ e. omega arith) us (at t3)
        (record {
          found = λ m b. ready.2.level m ∙ node-stays f.level m ∙ left.found m b;
          active = ready.2.active;
          copied = ready.2.copied;
          up = λ e. ready.2.scalar f.up ∙ asked-written s k run (asks_up body) t1 f.up (I32 (before j)) e;
          down = λ e. ready.2.scalar f.down ∙ asked-scalar s k run (asks_up body) t1 f.up f.down (I32 (before j)) (λ h. omega arith) ∙ asked-written s k run (asks_down body) ts.store f.down (I32 (pos (suc j))) e;
        })
        (agree-step k us.store ts.store t3 left.agree (λ y b. ready.2.scalar y ∙ scalar-stays y (λ e. omega arith) (λ e. omega arith)) (λ p m b. ready.2.low p m b ∙ node-stays p m)
        (ready.2.edge ∙ asked-edge s k run (asks_up body) t1 f.up (I32 (before j)) ∙ asked-edge s k run (asks_down body) ts.store f.down (I32 (pos (suc j))))) left.turns

    back-turn : Follow (WentBack j us) (loops run lev x key test body (filter (on j) (nodes run.graph)) us) (sequential back run ts)
    back-turn =
        subst (Follow (WentBack j us) (loops run lev x key test body (filter (on j) (nodes run.graph)) us)) (sym begins)
        (follow-after (Visited P Q k P-below Q-below run ok r root plain-found s key x test body part marks short us t3) (WentBack j us) (loops run lev x key test body (filter (on j) (nodes run.graph)) us) (sequential (visit s f marks key x test body) run (at t3))
        (sequential (sequence (level_before s f f.current ∷ [])) run) visited
        (λ us' ts' v.
        let u = write ts'.store (Scalar f.current) (I32 (before j)) in
        subst (Follow (WentBack j us) (Goes us'))
        (sym (then-to run (level_before s f f.current) Skip ts' u (level_before-to s k run ts' f.current j (let b = small in omega arith) (v.stays (Scalar f.current) (omega arith) ∙ ready.2.scalar f.current ∙ current2))))
        (record {
          turns = v.turns;
          left = record {
            agree = agree-step k us'.store ts'.store u v.agree (λ y b. unwritten ts'.store f.current y (I32 (before j)) (λ e. omega arith)) (λ p m b. refl) refl;
            turns = v.turns' ∙ sym v.turns;
            found = λ m b. v.stays (Node f.level m) (omega arith) ∙ ready.2.level m ∙ node-stays f.level m ∙ left.found m b;
            current = written ts'.store f.current (I32 (before j));
          };
        })))

  -- whether a level is left
  abbrev ask : Expr
  ask = Binary Ge s.place (scalar s f.current) (number 0)

  abbrev asks : State → Answer
  asks t = value ask (view_of run t (filter_key s))

  abbrev on-each : List ℕ → State → Course
  on-each = loops run lev x key test body

  abbrev is-left : ℕ → Bool
  is-left zero = false
  is-left (suc j) = true

  asked : (i : ℕ) (ts : State) → ts.store.scalar f.current ≡ I32 (before i) → asks ts ≡ Ok (Flag (is-left i))
  asked i ts e =
      ap (λ v. settled (two_of (plain (Ok v)) (plain (Ok (I32 (pos 0)))) (λ a b. located (view_of run ts (filter_key s)) s.place (result2 Ge a b)))) e ∙ ap (λ b. Ok (Flag b)) (by i)
    where
      by : (i : ℕ) → int_le (pos 0) (before i) ≡ is-left i
      by zero = refl
      by (suc j) = le-leb 0 j (omega arith)

  turns-on : (n i : ℕ) (ts : State) → ts.store.scalar f.current ≡ I32 (before i) →
      repeated (suc n) run asks (sequential back run) ts ≡ either_way (is_true (Flag (is-left i))) (begin_turn run (λ t. then_do (sequential back run t) (repeated n run asks (sequential back run)))) Goes ts
  turns-on n i ts e = ap (λ a. with_value a (λ v. either_way (is_true v) (begin_turn run (λ t. then_do (sequential back run t) (repeated n run asks (sequential back run)))) Goes ts)) (asked i ts e)

  pub backward-levels : (full : (i : ℕ) → i < d → HasLevel run.graph r root i) (i n : ℕ) → i ≤ d → (us ts : State) → Left i us ts → run.bound < suc n + us.turns →
      Follow (Left 0) (in_turns run (reverse (map (at-level run.graph r root) (numbers_from 0 i))) on-each us) (repeated (suc n) run asks (sequential back run) ts)
  backward-levels full zero n le us ts left less = subst (Follow (Left 0) (Goes us)) (sym (turns-on n 0 ts left.current)) left
  backward-levels full (suc j) n le us ts left less =
      let here : HasLevel run.graph r root j = full j (omega arith) in
      subst (λ xs. Follow (Left 0) (in_turns run xs on-each us) (repeated (suc n) run asks (sequential back run) ts)) (sym (last-first (at-level run.graph r root) j))
      (subst (Follow (Left 0) (in_turns run (at-level run.graph r root j ∷ reverse (map (at-level run.graph r root) (numbers_from 0 j))) on-each us)) (sym (turns-on n (suc j) ts left.current))
      (follow-turn (Left 0) run (λ t. then_do (on-each (at-level run.graph r root j) t) (in_turns run (reverse (map (at-level run.graph r root) (numbers_from 0 j))) on-each)) (λ t. then_do (sequential back run t) (repeated n run asks (sequential back run))) us ts left.turns (λ within.
      let us1 : State = record us { turns = suc us.turns } in
      let ts1 : State = record ts { turns = suc us.turns } in
      follow-then (WentBack j us1) (Left 0) (on-each (at-level run.graph r root j) us1) (sequential back run ts1) (in_turns run (reverse (map (at-level run.graph r root) (numbers_from 0 j))) on-each) (repeated n run asks (sequential back run))
      (back-turn here.0 j here.1 (omega arith) us1 ts1 (record { agree = left.agree; turns = refl; found = left.found; current = left.current }))
      (next n less within (λ m us' ts' t l. backward-levels full j m (omega arith) us' ts' t.left l)))))
    where
      next : (n : ℕ) → run.bound < suc n + us.turns → us.turns < run.bound →
          ((m : ℕ) (us' ts' : State) → WentBack j (record us { turns = suc us.turns }) us' ts' → run.bound < suc m + us'.turns → Follow (Left 0) (in_turns run (reverse (map (at-level run.graph r root) (numbers_from 0 j))) on-each us') (repeated (suc m) run asks (sequential back run) ts')) →
          (us' ts' : State) → WentBack j (record us { turns = suc us.turns }) us' ts' → Follow (Left 0) (in_turns run (reverse (map (at-level run.graph r root) (numbers_from 0 j))) on-each us') (repeated n run asks (sequential back run) ts')
      next zero less within again us' ts' t = absurd (omega arith)
      next (suc m) less within again us' ts' t = let turns = t.turns in again m us' ts' t (omega arith)
