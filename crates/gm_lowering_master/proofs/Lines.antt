-- A run from a line of the master list goes where that line leads.
use Rattle.std.proofs.Common.{◌≡◌, ℕ, zero, suc, ◌+◌, Some, List, [], ◌∷◌, drop, refl, ap, ◌∙◌, sym, arith, zero-add}
use Rattle.std.specs.Prelude.{slice_get}
use mathlib.Core.Path.{fun_ext}
use Rattle.gm_model.specs.declared.outcomes.RunEnd.{RunEnd}
use Rattle.gm_model.specs.Graphs.{NumberedGraph}
use Rattle.gm_image.specs.Program.{Program, Command}
use Rattle.gm_machine.specs.Machine.{Control, Nodes, Lead, On, ToStep, ToTurn, ToStop, command_after, forward, from_line, turn_at, run_step, ends, lead_answer}
use Rattle.gm_machine.proofs.MasterLemmas.{forward-skip}
use Rattle.gm_lowering_master.specs.Runs.{ends_by, LinesLead}

-- a line of a list, and the lines below it
at-line : (xs : List Command) (i : ℕ) (m : Command) → slice_get xs i ≡ Some m → drop i xs ≡ m ∷ drop (i + 1) xs
at-line [] i m e = cc
at-line (x ∷ xs) zero m e = cc
at-line (x ∷ xs) (suc i) m e =
    let a : suc (i + 1) ≡ suc i + 1 = omega arith in at-line xs i m e ∙ ap (λ n. m ∷ drop n (x ∷ xs)) a

none-left : (n : ℕ) → [] ≡ drop {A = Command} n []
none-left zero = refl
none-left (suc n) = refl

dropped : (xs : List Command) (i k : ℕ) → drop k (drop i xs) ≡ drop (i + k) xs
dropped xs zero k = ap (λ n. drop n xs) (sym (zero-add k))
dropped [] (suc i) k = sym (none-left k) ∙ none-left (suc i + k)
dropped (x ∷ xs) (suc i) k = let a : suc (i + k) ≡ suc i + k = omega arith in dropped xs i k ∙ ap (λ n. drop n (x ∷ xs)) a

module _ (p : Program) (g : NumberedGraph) (n : ℕ) where
  abbrev step : ℕ → ℕ → Control → (Control → Nodes → RunEnd) → Nodes → RunEnd
  step = run_step p g n

  abbrev turn : ℕ → Control → Nodes → RunEnd
  turn = λ j c. turn_at p g (ends p) (run_step p g) n j c

  -- the lines below a line, some of them skipped, are a run from a line below
  below : (i k : ℕ) (c : Control) → forward p g (ends p) step turn i (drop i p.master) k c ≡ from_line p g (ends p) step turn (i + k) c
  below i k c =
      forward-skip p g (ends p) step turn i (drop i p.master) k c
      ∙ ap (λ ms. forward p g (ends p) step turn (i + k) ms 0 c) (dropped p.master i k)
      ∙ ap (λ j. forward p g (ends p) step turn j (drop (i + k) p.master) 0 c) (sym (zero-add (i + k)))
      ∙ sym (forward-skip p g (ends p) step turn 0 p.master (i + k) c)

  leads : (i : ℕ) (s : Nodes) (l : Lead) → lead_answer p g (ends p) step turn i (λ k c. forward p g (ends p) step turn i (drop i p.master) k c) l s ≡ ends_by p g n i s l
  leads i s (On k c) = ap (λ f. f s) (below i k c)
  leads i s (ToStep q c) =
      ap (λ f. run_step p g n q i c f s) (fun_ext (λ c'. below i 0 c' ∙ ap (λ j. from_line p g (ends p) step turn j c') (let z : i + 0 ≡ i = omega arith in z)))
  leads i s (ToTurn j c) = by n where
    by : (k : ℕ) → turn_at p g (ends p) (run_step p g) k j c s ≡ ends_by p g k i s (ToTurn j c)
    by zero = refl
    by (suc k) = refl
  leads i s (ToStop stop) = refl

-- a run from a line goes where the line leads
pub lines-lead : LinesLead
lines-lead p g line command m e =
    ap (λ f. f m.nodes) (
    forward-skip p g (ends p) (step p g m.left) (turn p g m.left) 0 p.master line m.control
    ∙ ap (λ j. forward p g (ends p) (step p g m.left) (turn p g m.left) j (drop line p.master) 0 m.control) (zero-add line)
    ∙ ap (λ ms. forward p g (ends p) (step p g m.left) (turn p g m.left) line ms 0 m.control) (at-line p.master line command e))
    ∙ leads p g m.left (line + 1) m.nodes (command_after p.master g (line + 1) command m.control)
