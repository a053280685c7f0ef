-- The machine does not look at kinds.
use Rattle.std.proofs.Common.{◌≡◌, ℕ, zero, suc, ◌+◌, List, [], ◌∷◌, refl, ap, ◌∙◌}
use mathlib.Core.Path.{fun_ext}
use Rattle.gm_value.specs.declared.values.Value.{Value}
use Rattle.gm_model.specs.declared.outcomes.Outcome.{Outcome}
use Rattle.gm_model.specs.declared.outcomes.RunEnd.{RunEnd}
use Rattle.gm_model.specs.Graphs.{NumberedGraph}
use Rattle.gm_image.specs.declared.images.Kind.{Kind}
use Rattle.gm_image.specs.Program.{Program, Command}
use Rattle.gm_machine.specs.Machine.{Control, Nodes, Stop, Ended, Faulted, Cut, Lead, On, ToStep, ToTurn, ToStop, command_after, lead_answer, forward, from_line, turn_at, run_from, superstep, step_ends, run_step, outcome, ends, start_control, start_nodes, machine}

module _ (p : Program) (kinds : List Kind) (g : NumberedGraph) where
  -- the image with other kinds
  abbrev other : Program
  other = record p { kinds = kinds }

  -- a run, as far as it went
  abbrev Way : Type 0
  Way = Nodes → RunEnd

  abbrev end_with : Nodes → Outcome → RunEnd
  end_with s o = record { outcome = o; supersteps = s.supersteps; messages = s.messages }

  outcome-same : (stop : Stop) (fields : List (List Value)) → outcome other stop fields ≡ outcome p stop fields
  outcome-same (Ended c) fields = refl
  outcome-same (Faulted f c) fields = refl
  outcome-same (Cut c) fields = refl

  ends-same : ends other ≡ ends p
  ends-same = fun_ext (λ stop. fun_ext (λ s. ap (end_with s) (outcome-same stop s.fields)))

  -- a superstep of the run, given how the run ends
  abbrev step_by : (Stop → Way) → ℕ → ℕ → ℕ → Control → (Control → Way) → Way
  step_by end left q line c go s =
      let t = superstep p g q c.globals s in
      let c' : Control = record c { globals = t.globals } in
      step_ends t.fault (λ f. end (Faulted f c') t.nodes) (go c' t.nodes)

  steps-same : run_step other g ≡ run_step p g
  steps-same = ap step_by ends-same

  module _ (stop : Stop → Way) (step : ℕ → ℕ → Control → (Control → Way) → Way) (turn : ℕ → Control → Way) where
    lead-same : (i : ℕ) (rest : ℕ → Control → Way) (l : Lead) → lead_answer other g stop step turn i rest l ≡ lead_answer p g stop step turn i rest l
    lead-same i rest (On k c) = refl
    lead-same i rest (ToStep q c) = refl
    lead-same i rest (ToTurn j c) = refl
    lead-same i rest (ToStop s) = refl

    forward-same : (i : ℕ) (ms : List Command) (k : ℕ) (c : Control) → forward other g stop step turn i ms k c ≡ forward p g stop step turn i ms k c
    forward-same i [] k c = refl
    forward-same i (m ∷ ms) (suc k) c = forward-same (i + 1) ms k c
    forward-same i (m ∷ ms) zero c =
        let lead = command_after p.master g (i + 1) m c in
        ap (λ rest. lead_answer other g stop step turn (i + 1) rest lead) (fun_ext (λ k. fun_ext (λ c'. forward-same (i + 1) ms k c')))
        ∙ lead-same (i + 1) (λ k c'. forward p g stop step turn (i + 1) ms k c') lead

  module _ (stop : Stop → Way) (step : ℕ → ℕ → ℕ → Control → (Control → Way) → Way) where
    -- a run from a line on, where the turns are the same
    from-same : (n j : ℕ) (c : Control) → ((j' : ℕ) (c' : Control) → turn_at other g stop step n j' c' ≡ turn_at p g stop step n j' c') → run_from other g stop step n j c ≡ run_from p g stop step n j c
    from-same n j c turns =
        ap (λ turn. from_line other g stop (step n) turn j c) (fun_ext (λ j'. fun_ext (λ c'. turns j' c')))
        ∙ forward-same stop (step n) (λ j' c'. turn_at p g stop step n j' c') 0 p.master j c

    turn-same : (n j : ℕ) (c : Control) → turn_at other g stop step n j c ≡ turn_at p g stop step n j c
    turn-same zero j c = refl
    turn-same (suc n) j c = from-same n j (record c { turns = c.turns + 1 }) (turn-same n)

  pub machine-same : (args : List Value) (n : ℕ) → machine other g args n ≡ machine p g args n
  machine-same args n =
      let start = start_control p args in
      let nodes = start_nodes p g in
      ap (λ (way : Way). way nodes) (from-same (ends other) (run_step other g) n 0 start (turn-same (ends other) (run_step other g) n))
      ∙ ap (λ end. run_from p g end (run_step other g) n 0 start nodes) ends-same
      ∙ ap (λ step. run_from p g (ends p) step n 0 start nodes) steps-same
