-- Lines that are steps: a parallel loop, and the first values of a property.
use Rattle.std.proofs.Common.{◌≡◌, ℕ, zero, suc, Option, Some, None, List, [], ◌∷◌, length, map, refl, ap, ◌∙◌, sym, subst, arith}
use Rattle.std.specs.Prelude.{◌+◌, slice_set}
use Rattle.std.specs.List.{flat_map, enumerate_from}
use Rattle.gm_value.specs.declared.values.Value.{Value}
use Rattle.gm_value.specs.Numbers.{zero_of}
use Rattle.gm_model.specs.Graphs.{NumberedGraph}
use Rattle.gm_model.specs.declared.outcomes.RunEnd.{RunEnd}
use Rattle.gm_semantics.specs.Levels.{numbers_from}
use Rattle.gm_image.specs.Term.{Const}
use Rattle.gm_image.specs.Program.{Program, Block, Step, SetField}
use Rattle.gm_machine.specs.declared.faults.Fault as M
use Rattle.gm_machine.specs.Faults.{lesser, least_fault}
use Rattle.gm_machine.specs.Machine.{Nodes, Stepped, Faulted, block_at, step_of, all_steps, stepped, superstep, step_ends, context_at, ends}
use Rattle.gm_machine.specs.Taking.{Settled, settled}
use Rattle.gm_machine.specs.Vertex.{After, vertex_after, goes_on, ended, body_after, begun}
use Rattle.gm_machine.proofs.SlotSteps.{settled-nothing}
use Rattle.gm_lowering.specs.Blocks.{body_block}
use Rattle.gm_lowering.specs.Lowered.{steps_from}
use Rattle.gm_lowering_master.specs.Runs.{Moment, ends_from, supersteps, StandsAt}
use Rattle.gm_lowering_master.proofs.Lines.{lines-lead}

pub steps-long : (block n : ℕ) → length (steps_from block n) ≡ n
steps-long block zero = refl
steps-long block (suc n) = ap suc (steps-long (suc block) n)

-- a moment after supersteps
abbrev pub moment_after : Moment → Stepped → Moment
moment_after m t = record { left = m.left; control = record (m.control) { globals = t.globals }; nodes = t.nodes }

-- how a run ends whose supersteps come to this: with their fault, or from a line on
abbrev pub stepped_end : Program → NumberedGraph → ℕ → Moment → Stepped → RunEnd
stepped_end p g line m t = step_ends t.fault (λ f. ends p (Faulted f (record (m.control) { globals = t.globals })) t.nodes) (ends_from p g line (moment_after m t))

-- lines that are steps are supersteps
pub steps-run : (p : Program) (g : NumberedGraph) (n block line : ℕ) (m : Moment) → StandsAt p.master line (steps_from block n)
    → ends_from p g line m ≡ stepped_end p g (line + n) m (supersteps p g (numbers_from block n) m.control.globals m.nodes)
steps-run p g zero block line m h = let z : line ≡ line + 0 = omega arith in ap (λ i. ends_from p g i m) z
steps-run p g (suc n) block line m h =
    lines-lead p g line (Step block) m h.0
    ∙ by (superstep p g block m.control.globals m.nodes) (superstep p g block m.control.globals m.nodes).fault refl
    (let next : Moment = moment_after m (superstep p g block m.control.globals m.nodes) in
    subst (λ i. ends_from p g i next ≡ stepped_end p g (line + suc n) next (supersteps p g (numbers_from (suc block) n) next.control.globals next.nodes)) (let z : suc line ≡ line + 1 = omega arith in z)
    (let z : suc line + n ≡ line + suc n = omega arith in
    steps-run p g n (suc block) (suc line) next h.1 ∙ ap (λ i. stepped_end p g i next (supersteps p g (numbers_from (suc block) n) next.control.globals next.nodes)) z))
  where
    by : (t : Stepped) (o : Option M.Fault) → t.fault ≡ o
        → ends_from p g (line + 1) (moment_after m t) ≡ stepped_end p g (line + suc n) (moment_after m t) (supersteps p g (numbers_from (suc block) n) t.globals t.nodes)
        → step_ends t.fault (λ f. ends p (Faulted f (record (m.control) { globals = t.globals })) t.nodes) (ends_from p g (line + 1) (moment_after m t))
        ≡ stepped_end p g (line + suc n) m (step_ends t.fault (λ f. t) (supersteps p g (numbers_from (suc block) n) t.globals t.nodes))
    by t None e rest =
        ap (λ o. step_ends o (λ f. ends p (Faulted f (record (m.control) { globals = t.globals })) t.nodes) (ends_from p g (line + 1) (moment_after m t))) e
        ∙ rest
        ∙ sym (ap (λ o. stepped_end p g (line + suc n) m (step_ends o (λ f. t) (supersteps p g (numbers_from (suc block) n) t.globals t.nodes))) e)
    by t (Some f) e rest =
        ap (λ o. step_ends o (λ f. ends p (Faulted f (record (m.control) { globals = t.globals })) t.nodes) (ends_from p g (line + 1) (moment_after m t))) e
        ∙ sym (ap (λ o. step_ends o (λ f. ends p (Faulted f (record (m.control) { globals = t.globals })) t.nodes) (ends_from p g (line + suc n) (moment_after m t))) e)
        ∙ sym (ap (λ o. stepped_end p g (line + suc n) m (step_ends o (λ f. t) (supersteps p g (numbers_from (suc block) n) t.globals t.nodes))) e)

-- the superstep: each node's field is set, and nothing else happens
pub record Filled (f : ℕ) (z : Value) (globals : List Value) (s : Nodes) (t : Stepped) : Type 0 where
  pub fault : t.fault ≡ None
  pub globals_are : t.globals ≡ globals
  pub fields : t.nodes.fields ≡ map (λ vs. slice_set vs f z) s.fields
  pub sent : t.nodes.sent ≡ []

-- one step of all nodes that sets a field
module _ (p : Program) (g : NumberedGraph) (f : ℕ) (z : Value) (globals : List Value) where
  abbrev filling : Block
  filling = body_block (SetField f (Const z) ∷ [])

  abbrev filled : List Value → After
  filled vs = record {
    state = record { fields = slice_set vs f z; registers = map zero_of p.registers; messages = []; puts = []; folds = [] };
    fault = None;
    skip = 0;
  }

  fills : (k : ℕ) (vs : List Value) → vertex_after p filling (context_at g globals k) [] vs ≡ filled vs
  fills k vs =
      ap (λ (t : Settled).
      goes_on (ended (record (begun p.registers vs) { folds = []; fields = t.values }) (lesser None t.fault) 0) (λ k' w. body_after (length p.places) (context_at g globals k) (SetField f (Const z) ∷ []) 0 w))
      (settled-nothing (length p.places) vs)

  all-fill : (k : ℕ) (fields : List (List Value)) → map (step_of p g filling globals []) (enumerate_from k fields) ≡ map filled fields
  all-fill k [] = refl
  all-fill k (vs ∷ fields) = ap (λ a. a ∷ map (step_of p g filling globals []) (enumerate_from (k + 1) fields)) (fills k vs) ∙ ap (λ as'. filled vs ∷ as') (all-fill (k + 1) fields)

  no-messages : (fields : List (List Value)) → flat_map (λ a. a.state.messages) (map filled fields) ≡ []
  no-messages [] = refl
  no-messages (vs ∷ fields) = no-messages fields

  no-puts : (fields : List (List Value)) → flat_map (λ a. a.state.puts) (map filled fields) ≡ []
  no-puts [] = refl
  no-puts (vs ∷ fields) = no-puts fields

  no-fault : (fields : List (List Value)) → least_fault (map (λ a. a.fault) (map filled fields)) ≡ None
  no-fault [] = refl
  no-fault (vs ∷ fields) = no-fault fields

  fields-are : (fields : List (List Value)) → map (λ a. a.state.fields) (map filled fields) ≡ map (λ vs. slice_set vs f z) fields
  fields-are [] = refl
  fields-are (vs ∷ fields) = ap (λ fs. slice_set vs f z ∷ fs) (fields-are fields)

  pub filled-by : (q : ℕ) (s : Nodes) → block_at p q ≡ filling → s.sent ≡ [] → Filled f z globals s (superstep p g q globals s)
  filled-by q s block idle =
      let all : all_steps p g (block_at p q) globals s.sent s.fields ≡ map filled s.fields =
      ap (λ b. all_steps p g b globals s.sent s.fields) block ∙ ap (λ ms. all_steps p g filling globals ms s.fields) idle ∙ all-fill 0 s.fields in
      let is' : superstep p g q globals s ≡ stepped (length p.places) globals s (map filled s.fields) = ap (stepped (length p.places) globals s) all in
      record {
        fault = ap (λ t. t.fault) is' ∙ ap (λ o. lesser o (settled (length p.places) (flat_map (λ a. a.state.puts) (map filled s.fields)) globals).fault) (no-fault s.fields) ∙ ap (λ ps. lesser None (settled (length p.places) ps globals).fault) (no-puts s.fields) ∙ ap (λ t. lesser None t.fault) (settled-nothing (length p.places) globals);
        globals_are = ap (λ t. t.globals) is' ∙ ap (λ ps. (settled (length p.places) ps globals).values) (no-puts s.fields) ∙ ap (λ t. t.values) (settled-nothing (length p.places) globals);
        fields = ap (λ t. t.nodes.fields) is' ∙ fields-are s.fields;
        sent = ap (λ t. t.nodes.sent) is' ∙ no-messages s.fields;
      }
