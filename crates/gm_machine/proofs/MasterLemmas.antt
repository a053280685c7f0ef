-- The master list's run goes segment by segment, and from superstep to superstep.
use Rattle.std.proofs.Common.{◌≡◌, ◌<◌, ◌≤◌, ℕ, zero, suc, ◌+◌, ◌-◌, ◌*◌, List, [], ◌∷◌, length, drop, refl, ap, ◌∙◌, sym, arith, zero-add}
use mathlib.Core.Path.{fun_ext}
use Rattle.gm_image.specs.Program.{Program, Command}
use Rattle.gm_model.specs.Graphs.{NumberedGraph}
use Rattle.gm_machine.specs.Machine.{Control, Stop, Lead, On, ToStep, ToTurn, ToStop, MasterSegment, AtEnd, AtStep, AtTurn, segment, Pause, Stops, Steps, pause, lead_answer, forward, from_line, turn_at, run_from, command_after}

-- the lines below a line
pub tail_of : (i : ℕ) (xs : List Command) (m : Command) (ms : List Command) → drop i xs ≡ m ∷ ms → drop (i + 1) xs ≡ ms
tail_of zero xs m ms e = ap (drop 1) e
tail_of (suc i) [] m ms e = cc
tail_of (suc i) (x ∷ xs) m ms e =
    let a : suc i + 1 ≡ suc (i + 1) = omega arith in ap (λ n. drop n (x ∷ xs)) a ∙ tail_of i xs m ms e

module _ {R : Type 0} (p : Program) (g : NumberedGraph) (stop : Stop → R) (step : ℕ → ℕ → Control → (Control → R) → R) (turn : ℕ → Control → R) where
  -- what the run answers where a segment ends
  abbrev pub follow : MasterSegment → R
  follow (AtEnd s) = stop s
  follow (AtStep q line c) = step q line c (λ c'. from_line p g stop step turn line c')
  follow (AtTurn line c) = turn line c

  -- a list with lines to skip is the list below them
  pub forward-skip : (i : ℕ) (ms : List Command) (k : ℕ) (c : Control) →
      forward p g stop step turn i ms k c ≡ forward p g stop step turn (i + k) (drop k ms) 0 c
  forward-skip i [] zero c = refl
  forward-skip i [] (suc k) c = refl
  forward-skip i (m ∷ ms) zero c = let e : i ≡ i + 0 = omega arith in ap (λ j. forward p g stop step turn j (m ∷ ms) 0 c) e
  forward-skip i (m ∷ ms) (suc k) c =
      let e : (i + 1) + k ≡ i + suc k = omega arith in
      forward-skip (i + 1) ms k c ∙ ap (λ j. forward p g stop step turn j (drop k ms) 0 c) e

  -- a line leads to the same answer by way of the segment that it is in
  lead_first : (i : ℕ) (rest : ℕ → Control → R) (rest' : ℕ → Control → MasterSegment) →
      ((k : ℕ) (c : Control) → rest k c ≡ follow (rest' k c)) →
      ((c : Control) → rest 0 c ≡ from_line p g stop step turn i c) →
      (l : Lead) →
      lead_answer p g stop step turn i rest l ≡ follow (lead_answer p g AtEnd (λ q line c go. AtStep q line c) AtTurn i rest' l)
  lead_first i rest rest' same go (On k c) = same k c
  lead_first i rest rest' same go (ToStep q c) = ap (step q i c) (fun_ext go)
  lead_first i rest rest' same go (ToTurn j c) = refl
  lead_first i rest rest' same go (ToStop s) = refl

  forward_first : (i : ℕ) (ms : List Command) → drop i p.master ≡ ms → (k : ℕ) (c : Control) →
      forward p g stop step turn i ms k c ≡ follow (forward p g AtEnd (λ q line c' go. AtStep q line c') AtTurn i ms k c)
  forward_first i [] at k c = refl
  forward_first i (m ∷ ms) at (suc k) c = forward_first (i + 1) ms (tail_of i p.master m ms at) k c
  forward_first i (m ∷ ms) at zero c =
      lead_first
      (i + 1)
      (λ k c'. forward p g stop step turn (i + 1) ms k c')
      (λ k c'. forward p g AtEnd (λ q line c'' go. AtStep q line c'') AtTurn (i + 1) ms k c')
      (λ k c'. forward_first (i + 1) ms (tail_of i p.master m ms at) k c')
      (λ c'. sym (
      forward-skip 0 p.master (i + 1) c'
      ∙ ap (λ n. forward p g stop step turn n (drop (i + 1) p.master) 0 c') (zero-add (i + 1))
      ∙ ap (λ ls. forward p g stop step turn (i + 1) ls 0 c') (tail_of i p.master m ms at)))
      (command_after p.master g (i + 1) m c)

  -- the run from a line answers what follows its first segment
  pub segment_first : (j : ℕ) (c : Control) → from_line p g stop step turn j c ≡ follow (segment p g j c)
  segment_first j c = forward_first 0 p.master refl j c

-- what a run to the next superstep comes to where a segment ends, with so many turns left
abbrev pub paused : Program → NumberedGraph → ℕ → MasterSegment → Pause
paused p g n (AtEnd s) = Stops s
paused p g n (AtStep q line c) = Steps n q line c
paused p g n (AtTurn line c) = turn_at p g Stops (λ left q line c' go. Steps left q line c') n line c

pub pause_first : (p : Program) (g : NumberedGraph) (n j : ℕ) (c : Control) (l : MasterSegment) → l ≡ segment p g j c → pause p g n j c ≡ paused p g n l
pause_first p g n j c l e =
    segment_first p g Stops (λ q line c' go. Steps n q line c') (λ j' c'. turn_at p g Stops (λ left q line c'' go. Steps left q line c'') n j' c') j c
    ∙ same (segment p g j c)
    ∙ ap (paused p g n) (sym e)
  where
    same : (l : MasterSegment) → follow p g Stops (λ q line c' go. Steps n q line c') (λ j' c'. turn_at p g Stops (λ left q line c'' go. Steps left q line c'') n j' c') l ≡ paused p g n l
    same (AtEnd s) = refl
    same (AtStep q line c) = refl
    same (AtTurn line c) = refl

-- a turn is counted, and the run goes on from the line with one turn fewer left
pub turn_first : (p : Program) (g : NumberedGraph) (n m j : ℕ) (c : Control) → n ≡ m + 1 →
    paused p g n (AtTurn j c) ≡ pause p g m j (record c { turns = c.turns + 1 })
turn_first p g n m j c e = let e' : n ≡ suc m = omega arith in ap (λ k. paused p g k (AtTurn j c)) e'

module _ {R : Type 0} (p : Program) (g : NumberedGraph) (stop : Stop → R) (step : ℕ → ℕ → ℕ → Control → (Control → R) → R) where
  -- what the run answers where it pauses
  abbrev pub resume : Pause → R
  resume (Stops s) = stop s
  resume (Steps n q line c) = step n q line c (λ c'. run_from p g stop step n line c')

  segment_resumes : (n : ℕ) (l : MasterSegment) → follow p g stop (step n) (λ j' c'. turn_at p g stop step n j' c') l ≡ resume (paused p g n l)
  segment_resumes n (AtEnd s) = refl
  segment_resumes n (AtStep q line c) = refl
  segment_resumes zero (AtTurn line c) = refl
  segment_resumes (suc n) (AtTurn line c) =
      let next : Control = record c { turns = c.turns + 1 } in
      segment_first p g stop (step n) (λ j' c'. turn_at p g stop step n j' c') line next
      ∙ segment_resumes n (segment p g line next)
      ∙ ap resume (sym (pause_first p g n line next (segment p g line next) refl))

  -- the whole run answers what follows its first pause
  pub run_first : (n j : ℕ) (c : Control) → run_from p g stop step n j c ≡ resume (pause p g n j c)
  run_first n j c =
      segment_first p g stop (step n) (λ j' c'. turn_at p g stop step n j' c') j c
      ∙ segment_resumes n (segment p g j c)
      ∙ ap resume (sym (pause_first p g n j c (segment p g j c) refl))

-- a turn leaves no more of a run than there was before it
pub left-turn : (lines bound turns line below left : ℕ) → turns < bound → (bound - turns) * (lines + 1) + (lines - line) ≤ left →
    (bound - (turns + 1)) * (lines + 1) + (lines - below) ≤ left
left-turn lines bound turns line below left more held =
    let k : ℕ = bound - (turns + 1) in
    let one : bound - turns ≡ k + 1 = omega arith in
    let e : (bound - turns) * (lines + 1) ≡ (k + 1) * (lines + 1) = ap (λ n. n * (lines + 1)) one in
    let at_most : lines - below ≤ lines = omega arith in
    omega (arith, e, at_most, held)

-- nor does a superstep leave as much, which goes on below its line
pub nearer-step : (turns lines line below left : ℕ) → line < below → below ≤ lines → turns * (lines + 1) + (lines - line) ≤ left →
    turns * (lines + 1) + (lines - below) < left
nearer-step turns lines line below left ahead within held = omega (arith, ahead, within, held)

-- a segment that ends at a superstep goes on below the line that it began with, and no farther than behind the list
module _ (p : Program) (g : NumberedGraph) (q below : ℕ) (c' : Control) where
  abbrev segment_from : ℕ → List Command → ℕ → Control → MasterSegment
  segment_from i ms k c = forward p g AtEnd (λ q line c go. AtStep q line c) AtTurn i ms k c

  -- what follows a line's lead
  lead-ahead : (i lines : ℕ) (ms : List Command) → i + length ms ≡ lines →
      ((k : ℕ) (c : Control) → segment_from i ms k c ≡ AtStep q below c' → (i + k < below) × (below ≤ lines)) →
      (l : Lead) → lead_answer p g AtEnd (λ q line c go. AtStep q line c) AtTurn i (λ k c. segment_from i ms k c) l ≡ AtStep q below c' → (i ≤ below) × (below ≤ lines)
  lead-ahead i lines ms long rest (On k c) e = let at = rest k c e in (omega (arith, at.0), at.1)
  lead-ahead i lines ms long rest (ToStep r c) e = let at : i ≡ below = cc in (omega arith, omega arith)
  lead-ahead i lines ms long rest (ToTurn j c) e = cc
  lead-ahead i lines ms long rest (ToStop s) e = cc

  forward-ahead : (i lines : ℕ) (ms : List Command) → i + length ms ≡ lines → (k : ℕ) (c : Control) → segment_from i ms k c ≡ AtStep q below c' → (i + k < below) × (below ≤ lines)
  forward-ahead i lines [] long k c e = cc
  forward-ahead i lines (m ∷ ms) long (suc k) c e =
      let next : (i + 1) + length ms ≡ lines = omega arith in
      let at = forward-ahead (i + 1) lines ms next k c e in
      (omega (arith, at.0), at.1)
  forward-ahead i lines (m ∷ ms) long zero c e =
      let next : (i + 1) + length ms ≡ lines = omega arith in
      let at = lead-ahead (i + 1) lines ms next (λ k d h. forward-ahead (i + 1) lines ms next k d h) (command_after p.master g (i + 1) m c) e in
      (omega (arith, at.0), at.1)

pub segment-ahead : (p : Program) (g : NumberedGraph) (line q below : ℕ) (c c' : Control) → segment p g line c ≡ AtStep q below c' → (line < below) × (below ≤ length p.master)
segment-ahead p g line q below c c' e =
    let all : 0 + length p.master ≡ length p.master = omega arith in
    let at = forward-ahead p g q below c' 0 (length p.master) p.master all line c e in
    (omega (arith, at.0), at.1)
