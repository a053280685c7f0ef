-- An image runs as before when the blocks that no step runs are dropped.
use Rattle.std.proofs.Common.{◌≡◌, ◌<◌, ℕ, zero, suc, ◌+◌, ◌-◌, Bool, true, false, cond, Option, Some, None, Result, Ok, Err, List, [], ◌∷◌, map, length, refl, sym, ap, ◌∙◌, arith}
use Rattle.std.specs.Prelude.{IsTrue, slice_get}
use Rattle.std.specs.List.{list_all}
use Rattle.std.proofs.lemmas.Bool.{and_parts, and_from, ltb-true}
use Rattle.gm_value.specs.declared.values.Value.{Value}
use Rattle.gm_value.specs.Operations.{is_true}
use Rattle.gm_model.specs.declared.outcomes.RunEnd.{RunEnd}
use Rattle.gm_model.specs.Graphs.{NumberedGraph}
use Rattle.gm_image.specs.declared.rules.ImageRule.TheVariants.{I1}
use Rattle.gm_image.specs.Term.{Term}
use Rattle.gm_image.specs.Program.{Program, Command, SetGlobal, Step, Jump, Test, Turn, Back, Finish}
use Rattle.gm_image.specs.Parts.{command_terms}
use Rattle.gm_image.specs.Indices.{command_in_range, term_in_range}
use Rattle.gm_image.specs.Rows.{CommandRow, command_rows}
use Rattle.gm_image.specs.Soundness.{keeps, keeps_all, image_rules, is_sound}
use Rattle.gm_machine.specs.declared.faults.Fault.{Fault}
use Rattle.gm_machine.specs.Expressions.{value}
use Rattle.gm_machine.specs.Vertex.{After}
use Rattle.gm_machine.specs.Machine.{Control, Nodes, Ended, Faulted, Cut, no_block, block_at, all_steps, stepped, superstep, master_view, Lead, On, ToStep, ToTurn, ToStop, lead_by, at_head, back_to, command_after, lead_answer, forward, turn_at, ends, step_ends, run_step, start_control, start_nodes, machine}
use Rattle.gm_machine.proofs.SoundHandlers.{all_at, all_first, all_rest}
use Rattle.gm_merge_laws.proofs.Sounds.{commands-pass}
use Rattle.gm_merge.specs.Trimmed.{is_run, kept_count, renumbered, trimmed}
use Rattle.gm_merge.proofs.Trims.{kept-at, step_kept, steps-kept}

-- the steps of a sound image are those of its blocks
pub commands-inside : (p : Program) (j : ℕ) (ms : List Command) → list_all (keeps_all p) (command_rows j ms) ≡ true → list_all (command_in_range p) ms ≡ true
commands-inside p j [] h = refl
commands-inside p j (m ∷ ms) h =
    let at0 : 0 < length image_rules = omega arith in
    let one : keeps p (CommandRow j m) I1 ≡ true = all_at (keeps p (CommandRow j m)) image_rules 0 I1 at0 (all_first (keeps_all p) (CommandRow j m) (command_rows (suc j) ms) h) in
    and_from (command_in_range p m) (list_all (command_in_range p) ms) (and_parts (command_in_range p m) (list_all (term_in_range p None) (command_terms m)) one).0
    (commands-inside p (suc j) ms (all_rest (keeps_all p) (CommandRow j m) (command_rows (suc j) ms) h))

-- two ways on that end alike
abbrev Same : (Nodes → RunEnd) → (Nodes → RunEnd) → Type 0
Same h h' = (s : Nodes) → h s ≡ h' s

-- a master line that leads to no superstep
abbrev NoStep : Lead → Type 0
NoStep (On k c) = Unit {0}
NoStep (ToStep q c) = ⊥
NoStep (ToTurn j c) = Unit {0}
NoStep (ToStop s) = Unit {0}

lead-calm : (r : Result Value Fault) (c : Control) (go : Value → Lead) → ((v : Value) → NoStep (go v)) → NoStep (lead_by r c go)
lead-calm (Ok v) c go on = on v
lead-calm (Err f) c go on = tt

cond-calm : (x : Bool) (l m : Lead) → NoStep l → NoStep m → NoStep (cond x l m)
cond-calm true l m h k = h
cond-calm false l m h k = k

module _ (p : Program) (g : NumberedGraph) where
  abbrev keep : ℕ → Bool
  keep = is_run p.master

  abbrev trim : Program
  trim = trimmed p

  head-calm : (next below exit : ℕ) (a : Term) (c : Control) → NoStep (at_head g next below exit a c)
  head-calm next below exit a c =
      lead-calm (value (master_view g c.globals) a) c (λ v. cond (is_true v) (ToTurn below c) (On (exit - next) c)) (λ v. cond-calm (is_true v) (ToTurn below c) (On (exit - next) c) tt tt)

  back-calm : (next h : ℕ) (x : Option Command) (c : Control) → NoStep (back_to g next h x c)
  back-calm next h None c = tt
  back-calm next h (Some (SetGlobal t a)) c = tt
  back-calm next h (Some (Step q)) c = tt
  back-calm next h (Some (Jump j)) c = tt
  back-calm next h (Some (Test j a)) c = tt
  back-calm next h (Some (Turn x a)) c = head-calm next (h + 1) x a c
  back-calm next h (Some (Back j)) c = tt
  back-calm next h (Some Finish) c = tt

  -- a line goes back to the same head
  back-same : (next h k : ℕ) (ms : List Command) (c : Control) → back_to g next h (slice_get (map (renumbered keep) ms) k) c ≡ back_to g next h (slice_get ms k) c
  back-same next h k [] c = refl
  back-same next h zero (SetGlobal t a ∷ ms) c = refl
  back-same next h zero (Step q ∷ ms) c = refl
  back-same next h zero (Jump j ∷ ms) c = refl
  back-same next h zero (Test j a ∷ ms) c = refl
  back-same next h zero (Turn x a ∷ ms) c = refl
  back-same next h zero (Back j ∷ ms) c = refl
  back-same next h zero (Finish ∷ ms) c = refl
  back-same next h (suc k) (m ∷ ms) c = back-same next h k ms c

  -- a superstep
  step-same : (left q r line : ℕ) (c : Control) → block_at trim r ≡ block_at p q → (go go' : Control → Nodes → RunEnd) → ((d : Control) → Same (go d) (go' d)) →
      Same (run_step p g left q line c go) (run_step trim g left r line c go')
  step-same left q r line c e go go' on s =
      ap (step_ends (superstep p g q c.globals s).fault (λ f. ends p (Faulted f (record c { globals = (superstep p g q c.globals s).globals })) (superstep p g q c.globals s).nodes))
      (on (record c { globals = (superstep p g q c.globals s).globals }) (superstep p g q c.globals s).nodes)
      ∙ ap (λ b. behind (all_steps p g b c.globals s.sent s.fields)) (sym e)
    where
      behind : List After → RunEnd
      behind all =
          step_ends (stepped (length p.places) c.globals s all).fault
          (λ f. ends p (Faulted f (record c { globals = (stepped (length p.places) c.globals s all).globals })) (stepped (length p.places) c.globals s all).nodes)
          (go' (record c { globals = (stepped (length p.places) c.globals s all).globals }) (stepped (length p.places) c.globals s all).nodes)

  module _ (left : ℕ) (turn turn' : ℕ → Control → Nodes → RunEnd) (turns : (j : ℕ) (c : Control) → Same (turn j c) (turn' j c)) where
    lead-same : (next : ℕ) (rest rest' : ℕ → Control → Nodes → RunEnd) → ((k : ℕ) (c : Control) → Same (rest k c) (rest' k c)) → (l : Lead) → NoStep l →
        Same (lead_answer p g (ends p) (run_step p g left) turn next rest l) (lead_answer trim g (ends trim) (run_step trim g left) turn' next rest' l)
    lead-same next rest rest' on (On k c) h s = on k c s
    lead-same next rest rest' on (ToStep q c) h s = absurd h
    lead-same next rest rest' on (ToTurn j c) h s = turns j c s
    lead-same next rest rest' on (ToStop (Ended c)) h s = refl
    lead-same next rest rest' on (ToStop (Faulted f c)) h s = refl
    lead-same next rest rest' on (ToStop (Cut c)) h s = refl

    command-same : (next : ℕ) (rest rest' : ℕ → Control → Nodes → RunEnd) → ((k : ℕ) (c : Control) → Same (rest k c) (rest' k c)) → (m : Command) (c : Control) →
        command_in_range p m ≡ true → step_kept keep m ≡ true →
        Same (lead_answer p g (ends p) (run_step p g left) turn next rest (command_after p.master g next m c))
        (lead_answer trim g (ends trim) (run_step trim g left) turn' next rest' (command_after trim.master g next (renumbered keep m) c))
    command-same next rest rest' on (SetGlobal t a) c h k =
        lead-same next rest rest' on (command_after p.master g next (SetGlobal t a) c) (lead-calm (value (master_view g c.globals) a) c _ (λ v. tt))
    command-same next rest rest' on (Step q) c h k =
        step-same left q (kept_count keep 0 q) next c (kept-at keep 0 q p.blocks no_block (ltb-true q (length p.blocks) h) (let z : 0 + q ≡ q = omega arith in ap keep z ∙ k)) (λ c'. rest 0 c') (λ c'. rest' 0 c') (on 0)
    command-same next rest rest' on (Jump j) c h k = lead-same next rest rest' on (command_after p.master g next (Jump j) c) tt
    command-same next rest rest' on (Test j a) c h k =
        lead-same next rest rest' on (command_after p.master g next (Test j a) c)
        (lead-calm (value (master_view g c.globals) a) c (λ v. cond (is_true v) (On 0 c) (On (j - next) c)) (λ v. cond-calm (is_true v) (On 0 c) (On (j - next) c) tt tt))
    command-same next rest rest' on (Turn x a) c h k = lead-same next rest rest' on (command_after p.master g next (Turn x a) c) (head-calm next next x a c)
    command-same next rest rest' on (Back j) c h k = λ s.
        lead-same next rest rest' on (back_to g next j (slice_get p.master j) c) (back-calm next j (slice_get p.master j) c) s
        ∙ ap (λ l. lead_answer trim g (ends trim) (run_step trim g left) turn' next rest' l s) (sym (back-same next j j p.master c))
    command-same next rest rest' on Finish c h k = lead-same next rest rest' on (command_after p.master g next Finish c) tt

    forward-same : (i k : ℕ) (ms : List Command) (c : Control) → list_all (command_in_range p) ms ≡ true → list_all (step_kept keep) ms ≡ true →
        Same (forward p g (ends p) (run_step p g left) turn i ms k c) (forward trim g (ends trim) (run_step trim g left) turn' i (map (renumbered keep) ms) k c)
    forward-same i k [] c h e s = refl
    forward-same i (suc k) (m ∷ ms) c h e s = forward-same (i + 1) k ms c (and_parts (command_in_range p m) (list_all (command_in_range p) ms) h).1 (and_parts (step_kept keep m) (list_all (step_kept keep) ms) e).1 s
    forward-same i zero (m ∷ ms) c h e s =
        let ranges = and_parts (command_in_range p m) (list_all (command_in_range p) ms) h in
        let kept = and_parts (step_kept keep m) (list_all (step_kept keep) ms) e in
        command-same (i + 1) (λ k c'. forward p g (ends p) (run_step p g left) turn (i + 1) ms k c') (λ k c'. forward trim g (ends trim) (run_step trim g left) turn' (i + 1) (map (renumbered keep) ms) k c')
        (λ k c'. forward-same (i + 1) k ms c' ranges.1 kept.1) m c ranges.0 kept.0 s

  turn-same : list_all (command_in_range p) p.master ≡ true → list_all (step_kept keep) p.master ≡ true → (n j : ℕ) (c : Control) →
      Same (turn_at p g (ends p) (run_step p g) n j c) (turn_at trim g (ends trim) (run_step trim g) n j c)
  turn-same h e zero j c s = refl
  turn-same h e (suc n) j c s =
      forward-same n (λ j' c'. turn_at p g (ends p) (run_step p g) n j' c') (λ j' c'. turn_at trim g (ends trim) (run_step trim g) n j' c') (turn-same h e n) 0 j p.master (record c { turns = c.turns + 1 }) h e s

  pub trimmed-runs : IsTrue (is_sound p) → (args : List Value) (n : ℕ) → machine trim g args n ≡ machine p g args n
  trimmed-runs sound args n =
      let h = commands-inside p 0 p.master (commands-pass p sound) in
      let e = steps-kept p.master keep (λ q x. x) in
      sym (forward-same n (λ j' c'. turn_at p g (ends p) (run_step p g) n j' c') (λ j' c'. turn_at trim g (ends trim) (run_step trim g) n j' c') (turn-same h e n) 0 0 p.master (start_control p args) h e (start_nodes p g))
