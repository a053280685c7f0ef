-- Loops of a phase that keep in properties all locals that they can go alike.
use Rattle.std.proofs.Common.{◌≡◌, ◌<◌, ◌≤◌, arith, ℕ, zero, suc, Bool, true, false, cond, List, [], ◌++◌, length, refl, ◌+◌, Some}
use Rattle.std.specs.Prelude.{◌&&◌, filter}
use Rattle.std.specs.List.{list_all}
use Rattle.gm_value.specs.declared.values.Value.TheVariants.{At}
use Rattle.gm_value.specs.Operations.{is_true}
use Rattle.gm_ast.specs.declared.tree.Declaration.{Declaration}
use Rattle.gm_ast.specs.Loops.{is_nodes}
use Rattle.gm_ast.specs.Program.{Expr, Stmt, Then, Foreach, For, If, While, Do}
use Rattle.gm_semantics.specs.declared.slots.Slot.TheVariants.{Scalar}
use Rattle.gm_semantics.specs.Levels.{nodes}
use Rattle.gm_semantics.specs.Stores.{write}
use Rattle.gm_semantics.specs.Statements.{Run, State, Goes, sequential, variable_at}
use Rattle.gm_semantics.specs.Frames.{AlikeStates, AlikeCourses}
use Rattle.gm_semantics.proofs.ExpressionFrames.{agree-write}
use Rattle.gm_semantics.proofs.StatementFrames.{sequential-alike}
use Rattle.gm_forms.specs.Forms.{is_flat_loop, is_phase, is_told, no_loop}
use Rattle.gm_forms.specs.Sharing.{loops_share}
use Rattle.gm_forms.specs.Uses.{suits, uses_in, uses_of_head, uses_of}
use Rattle.gm_forms.proofs.Named.{both-true, all-append, names-below}
use Rattle.gm_dissect.specs.Conditions.{holds_cut}
use Rattle.gm_dissect.specs.Locals.{locals_of}
use Rattle.gm_dissect.proofs.Phases.{KnownPhase}
use Rattle.gm_locals.specs.Groups.{may_keep}
use Rattle.gm_locals.specs.AllGroups.{most_of, group_of, groups_in, with_groups}
use Rattle.gm_locals.proofs.Courses.{courses-then, courses-with, courses-either, courses-turn, courses-repeated, courses-in_turns, value-same}
use Rattle.gm_locals.proofs.GroupLoops.{together-alike}

-- the most that may go together may
pub most-may : (rounds : ℕ) (ds : List Declaration) (n : ℕ) (test : Expr) (body : Stmt) (xs : List ℕ) →
    list_all (may_keep ds (most_of rounds ds n test body xs) n test body) (most_of rounds ds n test body xs) ≡ true
most-may zero ds n test body xs = refl
most-may (suc rounds) ds n test body xs = by (list_all (may_keep ds xs n test body) xs) refl (most-may rounds ds n test body (filter (may_keep ds xs n test body) xs))
  where
    rest : List ℕ
    rest = most_of rounds ds n test body (filter (may_keep ds xs n test body) xs)

    by : (b : Bool) → list_all (may_keep ds xs n test body) xs ≡ b → list_all (may_keep ds rest n test body) rest ≡ true → list_all (may_keep ds (cond b xs rest) n test body) (cond b xs rest) ≡ true
    by true e h = e
    by false e h = h

pub group-may : (ds : List Declaration) (n : ℕ) (test : Expr) (body : Stmt) → list_all (may_keep ds (group_of ds n test body) n test body) (group_of ds n test body) ≡ true
group-may ds n test body = by (holds_cut n body)
  where
    most : List ℕ
    most = most_of (length (locals_of body)) ds n test body (locals_of body)

    by : (b : Bool) → list_all (may_keep ds (cond b most []) n test body) (cond b most []) ≡ true
    by true = most-may (length (locals_of body)) ds n test body (locals_of body)
    by false = refl

-- ds: the table of the program; run: a run whose table is longer
module _ (ds : List Declaration) (run : Run) (same : (x : ℕ) → x < length ds → variable_at run.declarations x ≡ variable_at ds x) where
  abbrev k : ℕ
  k = length ds

  abbrev pub Goal : Stmt → Type 0
  Goal s = (q : ℕ) → k ≤ q → KnownPhase ds s → (u v : State) → AlikeStates k u v → AlikeCourses k (sequential s run u) (sequential (with_groups ds q s) run v)

  as-it-is : (s : Stmt) → KnownPhase ds s → (u v : State) → AlikeStates k u v → AlikeCourses k (sequential s run u) (sequential s run v)
  as-it-is s known u v h = sequential-alike k s run u v (names-below ds s known.named) h

  pub groups-alike : (s : Stmt) → Goal s
  groups-alike (Then a b) q least known u v h =
      let n = all-append (suits ds) (uses_of a) (uses_of b) known.named in
      let o = both-true (is_phase (is_flat_loop ds false) no_loop ds a) (is_phase (is_flat_loop ds false) no_loop ds b) known.form in
      let r = both-true (loops_share ds a) (loops_share ds b) known.share in
      courses-then k _ _ _ _ (groups-alike a q least (record { named = n.0; form = o.0; share = r.0 }) u v h)
      (λ c d i. groups-alike b (q + length (groups_in ds a)) (omega (arith, least)) (record { named = n.1; form = o.1; share = r.1 }) c d i)
  groups-alike (Foreach key at hd test body) q least known u v h =
      let o = both-true (is_nodes hd.domain) (is_flat_loop ds false hd.iterator test body) known.form in
      together-alike ds run same key at hd test body (record { named = known.named; range = o.0; form = o.1; share = known.share }) (group_of ds hd.iterator test body) q least (group-may ds hd.iterator test body) u v h
  groups-alike (For key at hd test body) q least known u v h =
      let below = names-below ds (For key at hd test body) known.named in
      let n = all-append (suits ds) (uses_of_head hd) (uses_in test ++ uses_of body) known.named in
      let m = all-append (suits ds) (uses_in test) (uses_of body) n.1 in
      let o = both-true (is_told test) (is_phase (is_flat_loop ds false) no_loop ds body) known.form in
      courses-in_turns k run (nodes run.graph) _ _ u v h (λ i c d g.
      let w : AlikeStates k (record c { store = write c.store (Scalar hd.iterator) (At (Some i)) }) (record d { store = write d.store (Scalar hd.iterator) (At (Some i)) }) =
      record { store = agree-write k c.store d.store (Scalar hd.iterator) (At (Some i)) g.store; turns = g.turns } in
      courses-with k _ _ _ _ (value-same k test run key _ _ below.2 w)
      (λ x. courses-either k (is_true x) _ Goes _ Goes _ _ (groups-alike body q least (record { named = m.1; form = o.1; share = known.share }) _ _ w) w))
  groups-alike (If key c a b) q least known u v h =
      let below = names-below ds (If key c a b) known.named in
      let n = all-append (suits ds) (uses_in c) (uses_of a ++ uses_of b) known.named in
      let m = all-append (suits ds) (uses_of a) (uses_of b) n.1 in
      let o = both-true (is_told c) (is_phase (is_flat_loop ds false) no_loop ds a && is_phase (is_flat_loop ds false) no_loop ds b) known.form in
      let p = both-true (is_phase (is_flat_loop ds false) no_loop ds a) (is_phase (is_flat_loop ds false) no_loop ds b) o.1 in
      let r = both-true (loops_share ds a) (loops_share ds b) known.share in
      courses-with k _ _ _ _ (value-same k c run key u v below.0 h)
      (λ x. courses-either k (is_true x) _ _ _ _ u v (groups-alike a q least (record { named = m.0; form = p.0; share = r.0 }) u v h) (groups-alike b (q + length (groups_in ds a)) (omega (arith, least)) (record { named = m.1; form = p.1; share = r.1 }) u v h))
  groups-alike (While key at c body) q least known u v h =
      let below = names-below ds (While key at c body) known.named in
      let n = all-append (suits ds) (uses_in c) (uses_of body) known.named in
      let o = both-true (is_told c) (is_phase (is_flat_loop ds false) no_loop ds body) known.form in
      courses-repeated k (suc run.bound) run _ _ _ u v h (λ s t g. value-same k c run key s t below.0 g) (groups-alike body q least (record { named = n.1; form = o.1; share = known.share }))
  groups-alike (Do key at body c) q least known u v h =
      let below = names-below ds (Do key at body c) known.named in
      let n = all-append (suits ds) (uses_of body) (uses_in c) known.named in
      let o = both-true (is_phase (is_flat_loop ds false) no_loop ds body) (is_told c) known.form in
      let inside : KnownPhase ds body = record { named = n.0; form = o.0; share = known.share } in
      courses-turn k run _ _ u v h (λ s t g. courses-then k _ _ _ _ (groups-alike body q least inside s t g)
      (λ a b i. courses-repeated k (suc run.bound) run _ _ _ a b i (λ s t g. value-same k c run key s t below.1 g) (groups-alike body q least inside)))
  groups-alike s q least known u v h = as-it-is s known u v h
