-- How many supersteps a run takes.
use Rattle.std.proofs.Common.{◌≡◌, ◌<◌, ◌≤◌, ◌+◌, ◌-◌, ◌*◌, ℕ, zero, suc, Bool, true, false, Option, Some, None, Result, Ok, Err, List, [], ◌∷◌, drop, refl, sym, ap, subst, ◌∙◌, arith}
use Rattle.std.specs.Prelude.{◌↔◌, IsSome, if◌then◌else◌, slice_get, slice_set}
use Rattle.std.proofs.lemmas.Bool.{true≢false}
use Rattle.gm_value.specs.declared.values.Value.{Value}
use Rattle.gm_value.specs.Operations.{is_true}
use Rattle.gm_model.specs.Graphs.{NumberedGraph}
use Rattle.gm_image.specs.Term.{Term}
use Rattle.gm_image.specs.Program.{Program, Command, SetGlobal, Step, Jump, Test, Turn, Back, Finish}
use Rattle.gm_machine.specs.declared.faults.Fault.{Fault}
use Rattle.gm_machine.specs.Expressions.{value}
use Rattle.gm_machine.specs.Machine.{Control, Nodes, Stop, Lead, On, ToStep, ToTurn, ToStop, lead_answer, forward, command_after, lead_by, master_view, at_head, back_to, MasterSegment, AtEnd, AtStep, AtTurn, segment, Pause, Stops, Steps, pause, superstep, machine, start_control}
use Rattle.gm_machine.specs.States.{State, pause_after, next_by, after, end_by, steps_in, step_lines, most_supersteps}
use Rattle.gm_machine.proofs.MasterLemmas.{tail_of, paused, pause_first, turn_first}
use Rattle.gm_machine.proofs.StateLemmas.{end_from, machine-from}

-- fewer lines have no more steps
fewer-steps : (k : ℕ) (ms : List Command) → step_lines (drop k ms) ≤ step_lines ms
fewer-steps zero ms = omega arith
fewer-steps (suc k) [] = omega arith
fewer-steps (suc k) (m ∷ ms) = let rest = fewer-steps k ms in omega (arith, rest)

-- a line that leads to a superstep is a step
abbrev Counts : ℕ → Lead → Type 0
Counts n (On k c) = Unit {0}
Counts n (ToStep q c) = n ≡ 1
Counts n (ToTurn j c) = Unit {0}
Counts n (ToStop s) = Unit {0}

module _ (p : Program) (g : NumberedGraph) where
  head-counts : (next below exit : ℕ) (a : Term) (c : Control) → Counts 0 (at_head g next below exit a c)
  head-counts next below exit a c = by (value (master_view g c.globals) a) where
    on : (b : Bool) → Counts 0 (if b then ToTurn below c else On (exit - next) c)
    on true = tt
    on false = tt

    by : (r : Result Value Fault) → Counts 0 (lead_by r c (λ v. if is_true v then ToTurn below c else On (exit - next) c))
    by (Ok v) = on (is_true v)
    by (Err f) = tt

  back-counts : (next h : ℕ) (o : Option Command) (c : Control) → Counts 0 (back_to g next h o c)
  back-counts next h None c = tt
  back-counts next h (Some (SetGlobal t a)) c = tt
  back-counts next h (Some (Step q)) c = tt
  back-counts next h (Some (Jump j)) c = tt
  back-counts next h (Some (Test j a)) c = tt
  back-counts next h (Some (Turn x a)) c = head-counts next (h + 1) x a c
  back-counts next h (Some (Back j)) c = tt
  back-counts next h (Some Finish) c = tt

  command-counts : (next : ℕ) (m : Command) (c : Control) → Counts (steps_in m) (command_after p.master g next m c)
  command-counts next (SetGlobal t a) c = by (value (master_view g c.globals) a) where
    by : (r : Result Value Fault) → Counts 0 (lead_by r c (λ v. On 0 (record c { globals = slice_set c.globals t v })))
    by (Ok v) = tt
    by (Err f) = tt
  command-counts next (Step q) c = refl
  command-counts next (Jump j) c = tt
  command-counts next (Test j a) c = by (value (master_view g c.globals) a) where
    on : (b : Bool) → Counts 0 (if b then On 0 c else On (j - next) c)
    on true = tt
    on false = tt

    by : (r : Result Value Fault) → Counts 0 (lead_by r c (λ v. if is_true v then On 0 c else On (j - next) c))
    by (Ok v) = on (is_true v)
    by (Err f) = tt
  command-counts next (Turn x a) c = head-counts next next x a c
  command-counts next (Back h) c = back-counts next h (slice_get p.master h) c
  command-counts next Finish c = tt

  -- a part of the run that ends at a superstep has passed a step
  module _ (q below : ℕ) (c' : Control) where
    abbrev segment_from : ℕ → List Command → ℕ → Control → MasterSegment
    segment_from i ms k c = forward p g AtEnd (λ q line c go. AtStep q line c) AtTurn i ms k c

    lead-steps : (i n : ℕ) (ms : List Command) → drop i p.master ≡ ms →
        ((k : ℕ) (c : Control) → segment_from i ms k c ≡ AtStep q below c' → step_lines (drop below p.master) < step_lines (drop k ms)) →
        (l : Lead) → Counts n l → lead_answer p g AtEnd (λ q line c go. AtStep q line c) AtTurn i (λ k c. segment_from i ms k c) l ≡ AtStep q below c' →
        step_lines (drop below p.master) < n + step_lines ms
    lead-steps i n ms at rest (On k c) counts e = let some = rest k c e in let fewer = fewer-steps k ms in omega (arith, some, fewer)
    lead-steps i n ms at rest (ToStep r c) counts e =
        let here : i ≡ below = cc in
        let same : step_lines (drop below p.master) ≡ step_lines ms = ap (λ j. step_lines (drop j p.master)) (sym here) ∙ ap step_lines at in
        omega (arith, same, counts)
    lead-steps i n ms at rest (ToTurn j c) counts e = cc
    lead-steps i n ms at rest (ToStop s) counts e = cc

    forward-steps : (i : ℕ) (ms : List Command) → drop i p.master ≡ ms → (k : ℕ) (c : Control) → segment_from i ms k c ≡ AtStep q below c' →
        step_lines (drop below p.master) < step_lines (drop k ms)
    forward-steps i [] at k c e = cc
    forward-steps i (m ∷ ms) at (suc k) c e = forward-steps (i + 1) ms (tail_of i p.master m ms at) k c e
    forward-steps i (m ∷ ms) at zero c e =
        lead-steps (i + 1) (steps_in m) ms (tail_of i p.master m ms at) (λ k d h. forward-steps (i + 1) ms (tail_of i p.master m ms at) k d h)
        (command_after p.master g (i + 1) m c) (command-counts (i + 1) m c) e

    segment-steps : (line : ℕ) (c : Control) → segment p g line c ≡ AtStep q below c' → step_lines (drop below p.master) < step_lines (drop line p.master)
    segment-steps line c e = forward-steps 0 p.master refl line c e

  -- how many supersteps are to come at most, with so many turns left
  abbrev to_come : ℕ → ℕ → ℕ
  to_come turns line = turns * step_lines p.master + step_lines (drop line p.master)

  paused-steps : (n j : ℕ) (c : Control) (left q line : ℕ) (c' : Control) (l : MasterSegment) → segment p g j c ≡ l → paused p g n l ≡ Steps left q line c' → to_come left line < to_come n j
  paused-steps n j c left q line c' (AtEnd s) is e = cc
  paused-steps n j c left q line c' (AtStep r below d) is e =
      let turns_same : n ≡ left = cc in
      let line_same : below ≡ line = cc in
      let passed = segment-steps r below d j c is in
      let same : to_come left line ≡ n * step_lines p.master + step_lines (drop below p.master) = ap (λ t. to_come t line) (sym turns_same) ∙ ap (to_come n) (sym line_same) in
      omega (arith, same, passed)
  paused-steps zero j c left q line c' (AtTurn below d) is e = cc
  paused-steps (suc n) j c left q line c' (AtTurn below d) is e =
      let next : Control = record d { turns = d.turns + 1 } in
      let turned : pause p g n below next ≡ Steps left q line c' = sym (turn_first p g (suc n) n below d (let z : suc n ≡ n + 1 = omega arith in z)) ∙ e in
      let rest = paused-steps n below next left q line c' (segment p g below next) refl (sym (pause_first p g n below next (segment p g below next) refl) ∙ turned) in
      let fewer = fewer-steps below p.master in
      omega (arith, rest, fewer)

  pause-steps : (n j : ℕ) (c : Control) (left q line : ℕ) (c' : Control) → pause p g n j c ≡ Steps left q line c' → to_come left line < to_come n j
  pause-steps n j c left q line c' e = paused-steps n j c left q line c' (segment p g j c) refl (sym (pause_first p g n j c (segment p g j c) refl) ∙ e)

  -- a state is within a bound
  abbrev FitsBound : ℕ → Pause → ℕ → Type 0
  FitsBound bound (Stops how) supersteps = supersteps ≤ bound
  FitsBound bound (Steps left q line c) supersteps = supersteps + to_come left line < bound

  pause-fits : (bound n j : ℕ) (c : Control) (supersteps : ℕ) → supersteps + to_come n j ≤ bound → FitsBound bound (pause p g n j c) supersteps
  pause-fits bound n j c supersteps all = by (pause p g n j c) refl where
    by : (next : Pause) → pause p g n j c ≡ next → FitsBound bound next supersteps
    by (Stops how) is = omega (arith, all)
    by (Steps left q line d) is = let fewer = pause-steps n j c left q line d is in omega (arith, all, fewer)

  next-fits : (bound : ℕ) (next : Pause) (s : Nodes) → FitsBound bound next s.supersteps → FitsBound bound (next_by p g next s).next (next_by p g next s).nodes.supersteps
  next-fits bound (Stops how) s fits = fits
  next-fits bound (Steps left q line c) s fits = by (superstep p g q c.globals s).fault where
    by : (fault : Option Fault) → FitsBound bound (pause_after p g left line (record c { globals = (superstep p g q c.globals s).globals }) fault) (s.supersteps + 1)
    by None = pause-fits bound left line (record c { globals = (superstep p g q c.globals s).globals }) (s.supersteps + 1) (omega (arith, fits))
    by (Some f) = omega (arith, fits)

  -- how many supersteps a state has taken: as many as there were, unless the run has ended
  abbrev HasTaken : ℕ → Pause → ℕ → Type 0
  HasTaken k (Stops how) supersteps = supersteps ≤ k
  HasTaken k (Steps left q line c) supersteps = supersteps ≡ k

  pause-takes : (k n j : ℕ) (c : Control) (supersteps : ℕ) → supersteps ≡ k → HasTaken k (pause p g n j c) supersteps
  pause-takes k n j c supersteps is = by (pause p g n j c) where
    by : (next : Pause) → HasTaken k next supersteps
    by (Stops how) = omega (arith, is)
    by (Steps left q line d) = is

  next-takes : (k : ℕ) (next : Pause) (s : Nodes) → HasTaken k next s.supersteps → HasTaken (suc k) (next_by p g next s).next (next_by p g next s).nodes.supersteps
  next-takes k (Stops how) s taken = omega (arith, taken)
  next-takes k (Steps left q line c) s taken = by (superstep p g q c.globals s).fault where
    by : (fault : Option Fault) → HasTaken (suc k) (pause_after p g left line (record c { globals = (superstep p g q c.globals s).globals }) fault) (s.supersteps + 1)
    by None = pause-takes (suc k) left line (record c { globals = (superstep p g q c.globals s).globals }) (s.supersteps + 1) (omega (arith, taken))
    by (Some f) = omega (arith, taken)

  -- no superstep is taken back
  next-keeps : (next : Pause) (s : Nodes) → s.supersteps ≤ (next_by p g next s).nodes.supersteps
  next-keeps (Stops how) s = omega arith
  next-keeps (Steps left q line c) s = omega arith

  module _ (args : List Value) (turns : ℕ) where
    abbrev At : ℕ → State
    At k = after p g args turns k

    fits-at : (k : ℕ) → FitsBound (most_supersteps p turns) (At k).next (At k).nodes.supersteps
    fits-at zero = pause-fits (most_supersteps p turns) turns 0 (start_control p args) 0 (omega arith)
    fits-at (suc k) = next-fits (most_supersteps p turns) (At k).next (At k).nodes (fits-at k)

    pub taken-at : (k : ℕ) → HasTaken k (At k).next (At k).nodes.supersteps
    taken-at zero = pause-takes 0 turns 0 (start_control p args) 0 refl
    taken-at (suc k) = next-takes k (At k).next (At k).nodes (taken-at k)

    keeps-at : (k more : ℕ) → (At k).nodes.supersteps ≤ (At (more + k)).nodes.supersteps
    keeps-at k zero = let e : (At (0 + k)).nodes.supersteps ≡ (At k).nodes.supersteps = ap (λ j. (At j).nodes.supersteps) (let z : 0 + k ≡ k = omega arith in z) in omega (arith, e)
    keeps-at k (suc more) =
        let rest = keeps-at k more in
        let one = next-keeps (At (more + k)).next (At (more + k)).nodes in
        let e : (At (suc more + k)).nodes.supersteps ≡ (At (suc (more + k))).nodes.supersteps = ap (λ j. (At j).nodes.supersteps) (let z : suc more + k ≡ suc (more + k) = omega arith in z) in
        omega (arith, rest, one, e)

    -- where a state has ended, the run took its supersteps
    ended-takes : (next : Pause) (s : Nodes) (how : Stop) → next ≡ Stops how → (end_from p g next s).supersteps ≡ s.supersteps
    ended-takes next s how is = ap (λ n. (end_from p g n s).supersteps) is

    -- a state that has taken as many supersteps as the bound has ended
    late-stops : (k : ℕ) (next : Pause) (supersteps : ℕ) → HasTaken k next supersteps → FitsBound (most_supersteps p turns) next supersteps → most_supersteps p turns ≤ k → (how : Stop) × (next ≡ Stops how)
    late-stops k (Stops how) supersteps taken fits late = (how, refl)
    late-stops k (Steps left q line c) supersteps taken fits late = absurd (omega (arith, taken, fits, late))

    -- so the run takes as many supersteps as any late state
    takes-late : (k : ℕ) → most_supersteps p turns ≤ k → (machine p g args turns).supersteps ≡ (At k).nodes.supersteps
    takes-late k late =
        let stops = late-stops k (At k).next (At k).nodes.supersteps (taken-at k) (fits-at k) late in
        ap (λ e. e.supersteps) (sym (machine-from p g args turns k)) ∙ ended-takes (At k).next (At k).nodes stops.0 stops.1

    pub supersteps-bounded : (machine p g args turns).supersteps ≤ most_supersteps p turns
    supersteps-bounded =
        let bound : ℕ = most_supersteps p turns in
        let stops = late-stops bound (At bound).next (At bound).nodes.supersteps (taken-at bound) (fits-at bound) (omega arith) in
        let taken = takes-late bound (omega arith) in
        let at_most : (At bound).nodes.supersteps ≤ bound = subst (λ n. FitsBound bound n (At bound).nodes.supersteps) stops.1 (fits-at bound) in
        omega (arith, taken, at_most)

    -- a state has ended exactly where the run takes no more supersteps
    in_time : (k : ℕ) (next : Pause) → (At k).next ≡ next → IsSome (end_by p next (At k).nodes) ↔ ((machine p g args turns).supersteps ≤ k)
    in_time k (Stops how) is = (
      λ some.
          let taken : (At k).nodes.supersteps ≤ k = subst (λ n. HasTaken k n (At k).nodes.supersteps) is (taken-at k) in
          let same : (machine p g args turns).supersteps ≡ (At k).nodes.supersteps = ap (λ e. e.supersteps) (sym (machine-from p g args turns k)) ∙ ended-takes (At k).next (At k).nodes how is in
          omega (arith, taken, same),
      λ few. refl,
    )
    in_time k (Steps left q line c) is = (
      λ some. absurd (true≢false (sym some)),
      λ few.
          let more : ℕ = most_supersteps p turns in
          let one : (At (suc k)).nodes.supersteps ≡ (At k).nodes.supersteps + 1 = ap (λ n. (next_by p g n (At k).nodes).nodes.supersteps) is in
          let taken : (At k).nodes.supersteps ≡ k = subst (λ n. HasTaken k n (At k).nodes.supersteps) is (taken-at k) in
          let kept : (At (suc k)).nodes.supersteps ≤ (At (more + suc k)).nodes.supersteps = keeps-at (suc k) more in
          let all : (machine p g args turns).supersteps ≡ (At (more + suc k)).nodes.supersteps = takes-late (more + suc k) (omega arith) in
          absurd (omega (arith, one, taken, kept, all, few)),
    )

    pub ends-in-time : (k : ℕ) → IsSome (end_by p (At k).next (At k).nodes) ↔ ((machine p g args turns).supersteps ≤ k)
    ends-in-time k = in_time k (At k).next refl
