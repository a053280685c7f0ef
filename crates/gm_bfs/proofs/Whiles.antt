-- The loop of the levels from the root's on does what the search does on them in turn.
use Rattle.std.proofs.Common.{◌≡◌, ◌<◌, ◌≤◌, ◌+◌, ℕ, zero, suc, Bool, true, false, List, map, length, refl, sym, ap, subst, ◌∙◌, arith, Option}
use Rattle.std.specs.Prelude.{nat_lt}
use Rattle.std.proofs.lemmas.Bool.{ltb-true}
use Rattle.gm_value.specs.declared.values.Value.TheVariants.{Flag}
use Rattle.gm_value.specs.Operations.{is_true}
use Rattle.gm_model.specs.Graphs.{IsGraph, node_count}
use Rattle.gm_ast.specs.declared.tree.Key.{Key}
use Rattle.gm_ast.specs.Program.{Expr, Stmt}
use Rattle.gm_semantics.specs.Levels.{numbers_from, level_of}
use Rattle.gm_semantics.specs.Expressions.{Answer, value}
use Rattle.gm_semantics.specs.Statements.{Run, State, Course, Goes, variable_at, view_of, then_do, either_way, stopped, begin_turn, repeated, in_turns, loops, sequential}
use Rattle.gm_bfs.specs.declared.fresh.Fresh.{Fresh}
use Rattle.gm_bfs.specs.declared.fresh.Site.{Site}
use Rattle.gm_bfs.specs.Variables.{fresh_from, filter_key}
use Rattle.gm_bfs.specs.Searches.{scalar}
use Rattle.gm_bfs.proofs.Depths.{at-level, HasLevel, some-on, none-on, AllLevels}
use Rattle.gm_bfs.proofs.Visits.{Part}
use Rattle.gm_bfs.proofs.Turns.{Follow, follow-then}
use Rattle.gm_bfs.proofs.Forward.{turn, Head, Turned, forward-turn}

-- a turn begins alike in both, or both are cut
pub follow-turn : (R : State → State → Type 0) (run : Run) (f g : State → Course) (us ts : State) → ts.turns ≡ us.turns →
    (us.turns < run.bound → Follow R (f (record us { turns = suc us.turns })) (g (record ts { turns = suc us.turns }))) → Follow R (begin_turn run f us) (begin_turn run g ts)
follow-turn R run f g us ts same h = subst (λ n. Follow R (begin_turn run f us) (either_way (nat_lt n run.bound) g stopped (record ts { turns = suc n }))) (sym same) (by (nat_lt us.turns run.bound) refl)
  where
    by : (b : Bool) → nat_lt us.turns run.bound ≡ b → Follow R (either_way b f stopped (record us { turns = suc us.turns })) (either_way b g stopped (record ts { turns = suc us.turns }))
    by true e = h (ltb-true us.turns run.bound e)
    by false e = tt

module _ (P Q : ℕ → Type 0) (k : ℕ) (P-below : (y : ℕ) → P y → y < k) (Q-below : (p : ℕ) → Q p → p < k) (run : Run) (ok : IsGraph run.graph) (r : ℕ) (root : r < node_count run.graph)
    (plain-found : (variable_at run.declarations (fresh_from k).found).depth ≡ 0) (s : Site) (key : Key) (x : ℕ) (test : Expr) (body : Stmt) (part : Part P Q k x test body) (marks : List Bool) (short : length marks ≤ k) where
  abbrev f : Fresh
  f = fresh_from k

  abbrev lev : ℕ → Option ℕ
  lev = level_of run.graph r

  abbrev H : ℕ → State → State → Type 0
  H j us ts = Head P Q k P-below Q-below run ok r root plain-found s key x test body part marks short j us ts

  abbrev step : Stmt
  step = turn P Q k P-below Q-below run ok r root plain-found s key x test body part marks short

  abbrev asks : State → Answer
  asks t = value (scalar s f.more) (view_of run t (filter_key s))

  abbrev on-each : List ℕ → State → Course
  on-each = loops run lev x key test body

  -- the question whether there is another turn
  asked : (n : ℕ) (ts : State) (b : Bool) → ts.store.scalar f.more ≡ Flag b →
      repeated (suc n) run asks (sequential step run) ts ≡ either_way (is_true (Flag b)) (begin_turn run (λ t. then_do (sequential step run t) (repeated n run asks (sequential step run)))) Goes ts
  asked n ts b e = ap (λ v. either_way (is_true v) (begin_turn run (λ t. then_do (sequential step run t) (repeated n run asks (sequential step run)))) Goes ts) e

  pub forward-levels : (all : AllLevels run.graph r root) (e a n : ℕ) → a + e ≡ all.depth → (us ts : State) → H a us ts → run.bound < suc n + us.turns →
      Follow (H all.depth) (in_turns run (map (at-level run.graph r root) (numbers_from a e)) on-each us) (repeated (suc n) run asks (sequential step run) ts)
  forward-levels all zero a n is us ts head less =
      let here : a ≡ all.depth = omega arith in
      subst (Follow (H all.depth) (Goes us)) (sym (asked n ts false (head.more ∙ ap Flag (none-on run.graph r root a (λ h. all.last (subst (HasLevel run.graph r root) here h))))))
      (subst (λ j. H j us ts) here head)
  forward-levels all (suc e) a n is us ts head less =
      let here : HasLevel run.graph r root a = all.full a (omega arith) in
      subst (Follow (H all.depth) (in_turns run (map (at-level run.graph r root) (numbers_from a (suc e))) on-each us)) (sym (asked n ts true (head.more ∙ ap Flag (some-on run.graph r root a here))))
      (follow-turn (H all.depth) run (λ t. then_do (on-each (at-level run.graph r root a) t) (in_turns run (map (at-level run.graph r root) (numbers_from (suc a) e)) on-each)) (λ t. then_do (sequential step run t) (repeated n run asks (sequential step run))) us ts head.turns (λ within.
      let us1 : State = record us { turns = suc us.turns } in
      let ts1 : State = record ts { turns = suc us.turns } in
      follow-then (Turned P Q k P-below Q-below run ok r root plain-found s key x test body part marks short (suc a) us1) (H all.depth)
      (on-each (at-level run.graph r root a) us1) (sequential step run ts1) (in_turns run (map (at-level run.graph r root) (numbers_from (suc a) e)) on-each) (repeated n run asks (sequential step run))
      (forward-turn P Q k P-below Q-below run ok r root plain-found s key x test body part marks short here.0 a here.1 us1 ts1 (record { agree = head.agree; turns = refl; found = head.found; current = head.current; more = head.more }))
      (next n less within (λ m us' ts' t l. forward-levels all e (suc a) m (omega arith) us' ts' t.head l))))
    where
      next : (n : ℕ) → run.bound < suc n + us.turns → us.turns < run.bound →
          ((m : ℕ) → (us' ts' : State) → Turned P Q k P-below Q-below run ok r root plain-found s key x test body part marks short (suc a) (record us { turns = suc us.turns }) us' ts' → run.bound < suc m + us'.turns → Follow (H all.depth) (in_turns run (map (at-level run.graph r root) (numbers_from (suc a) e)) on-each us') (repeated (suc m) run asks (sequential step run) ts')) →
          (us' ts' : State) → Turned P Q k P-below Q-below run ok r root plain-found s key x test body part marks short (suc a) (record us { turns = suc us.turns }) us' ts' → Follow (H all.depth) (in_turns run (map (at-level run.graph r root) (numbers_from (suc a) e)) on-each us') (repeated n run asks (sequential step run) ts')
      next zero less within again us' ts' t = absurd (omega arith)
      next (suc m) less within again us' ts' t = let turns = t.turns in again m us' ts' t (omega arith)
