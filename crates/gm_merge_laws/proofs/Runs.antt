-- Runs that are no worse: one superstep, and two joined ones.
use Rattle.std.proofs.Common.{◌≡◌, ◌<◌, ◌≤◌, ℕ, zero, suc, ◌+◌, Bool, true, nat_lt, Option, Some, None, List, [], ◌∷◌, ◌++◌, map, length, refl, sym, ap, subst, ◌∙◌, arith, ⊎_elim}
use Rattle.std.specs.Prelude.{slice_index_or}
use Rattle.std.specs.List.{AllByRecursion, list_all, flat_map}
use Rattle.std.proofs.lemmas.Bool.{ltb-true}
use Rattle.gm_value.specs.declared.values.Value.{Value}
use Rattle.gm_value.specs.declared.values.VType.{VType}
use Rattle.gm_model.specs.declared.outcomes.RunEnd.{RunEnd}
use Rattle.gm_model.specs.Graphs.{NumberedGraph}
use Rattle.gm_image.specs.Program.{Program, Block, Line}
use Rattle.gm_image.specs.Rows.{handled_lines}
use Rattle.gm_machine.specs.declared.faults.Fault.{Fault}
use Rattle.gm_machine.specs.Vertex.{Message, After}
use Rattle.gm_machine.specs.Machine.{Control, Nodes, Stop, Ended, Faulted, Cut, no_block, block_at, inbox, context_at, all_steps, stepped, superstep, outcome, ends, step_ends, run_step}
use Rattle.gm_merge_laws.specs.Joins.{block_lines, sends_nothing, restart, restarts, joined_block, joined_image}
use Rattle.gm_merge_laws.specs.Outcomes.{NoWorse}
use Rattle.gm_merge_laws.proofs.Invariants.{all-pass, some-front, some-back}
use Rattle.gm_merge_laws.proofs.Steps.{Silent, vertex-silent}
use Rattle.gm_merge_laws.proofs.Supersteps.{Fit, joints, seconds, all-silent, Two, two-clean, two-fault, fault-joint}

at-front : {A : Type 0} (xs ys : List A) (q : ℕ) (d : A) → q < length xs → slice_index_or (xs ++ ys) q d ≡ slice_index_or xs q d
at-front [] ys q d l = absurd (omega arith)
at-front (x ∷ xs) ys zero d l = refl
at-front (x ∷ xs) ys (suc q) d l = let l' : q < length xs = omega arith in at-front xs ys q d l'

at-last : {A : Type 0} (xs : List A) (y d : A) → slice_index_or (xs ++ y ∷ []) (length xs) d ≡ y
at-last [] y d = refl
at-last (x ∷ xs) y d = at-last xs y d

-- two states of the nodes: the same but for the counts, which are no greater in the second
pub record Close (s s' : Nodes) : Type 0 where
  pub fields : s.fields ≡ s'.fields
  pub sent : s.sent ≡ s'.sent
  pub supersteps : s'.supersteps ≤ s.supersteps
  pub messages : s'.messages ≤ s.messages

-- the second run is no worse from close states
abbrev pub Below : Bool → (Nodes → RunEnd) → (Nodes → RunEnd) → Type 0
Below quiet h h' = (s s' : Nodes) → Close s s' → NoWorse quiet (h s) (h' s')

silent-append : (xs ys : List Line) → AllByRecursion Silent xs → AllByRecursion Silent ys → AllByRecursion Silent (xs ++ ys)
silent-append [] ys h k = k
silent-append (x ∷ xs) ys h k = (h.0, silent-append xs ys h.1 k)

restarts-silent : (ats : List (ℕ × VType)) → AllByRecursion Silent (map restart ats)
restarts-silent [] = tt
restarts-silent (at ∷ ats) = (refl, restarts-silent ats)

module _ (p : Program) (i a b : ℕ) (g : NumberedGraph) where
  abbrev joined : Program
  joined = joined_image p i a b

  abbrev pub quiet : Bool
  quiet = list_all sends_nothing (block_lines (block_at p b))

  pub ends-close : (stop : Stop) → Below quiet (ends p stop) (ends joined stop)
  ends-close (Ended c) s s' k = record { outcome = ap (outcome p (Ended c)) k.fields; supersteps = k.supersteps; messages = λ h. k.messages }
  ends-close (Faulted f c) s s' k = record { outcome = refl; supersteps = k.supersteps; messages = λ h. k.messages }
  ends-close (Cut c) s s' k = record { outcome = refl; supersteps = k.supersteps; messages = λ h. k.messages }

  -- behind a superstep: a fault ends the run, or it goes on
  after-close : (c : Control) (globals globals' : List Value) → globals ≡ globals' → (o o' : Option Fault) → o ≡ o' → (n n' : Nodes) → Close n n' →
      (go go' : Control → Nodes → RunEnd) → ((d : Control) → Below quiet (go d) (go' d)) →
      NoWorse quiet
      (step_ends o (λ f. ends p (Faulted f (record c { globals = globals })) n) (go (record c { globals = globals }) n))
      (step_ends o' (λ f. ends joined (Faulted f (record c { globals = globals' })) n') (go' (record c { globals = globals' }) n'))
  after-close c globals globals' same o o' e n n' k go go' on =
      subst (λ x. NoWorse quiet (step_ends o (λ f. ends p (Faulted f (record c { globals = globals })) n) (go (record c { globals = globals }) n)) (step_ends x (λ f. ends joined (Faulted f (record c { globals = globals' })) n') (go' (record c { globals = globals' }) n'))) e (one o)
    where
      one : (x : Option Fault) → NoWorse quiet (step_ends x (λ f. ends p (Faulted f (record c { globals = globals })) n) (go (record c { globals = globals }) n)) (step_ends x (λ f. ends joined (Faulted f (record c { globals = globals' })) n') (go' (record c { globals = globals' }) n'))
      one None = subst (λ gl. NoWorse quiet (go (record c { globals = globals }) n) (go' (record c { globals = gl }) n')) same (on (record c { globals = globals }) n n' k)
      one (Some f) = record { outcome = refl; supersteps = k.supersteps; messages = λ h. k.messages }

  -- a superstep with a block of the image
  pub same-run : (left q line : ℕ) (c : Control) → nat_lt q (length p.blocks) ≡ true → (go go' : Control → Nodes → RunEnd) → ((d : Control) → Below quiet (go d) (go' d)) →
      Below quiet (run_step p g left q line c go) (run_step joined g left q line c go')
  same-run left q line c within go go' on s s' k =
      let block : block_at joined q ≡ block_at p q = at-front p.blocks (joined_block p.registers (block_at p a) (block_at p b) ∷ []) q no_block (ltb-true q (length p.blocks) within) in
      let all : all_steps p g (block_at p q) c.globals s.sent s.fields ≡ all_steps joined g (block_at joined q) c.globals s'.sent s'.fields =
      ap (λ ms. all_steps p g (block_at p q) c.globals ms s.fields) k.sent
      ∙ ap (all_steps p g (block_at p q) c.globals s'.sent) k.fields
      ∙ ap (λ x. all_steps p g x c.globals s'.sent s'.fields) (sym block) in
      let counted = ap (λ l. length (flat_map (λ (x : After). x.state.messages) l)) all in
      let m = k.messages in
      let n = k.supersteps in
      after-close c (superstep p g q c.globals s).globals (superstep joined g q c.globals s').globals (ap (λ l. (stepped (length p.places) c.globals s l).globals) all)
      (superstep p g q c.globals s).fault (superstep joined g q c.globals s').fault (ap (λ l. (stepped (length p.places) c.globals s l).fault) all)
      (superstep p g q c.globals s).nodes (superstep joined g q c.globals s').nodes
      (record {
        fields = ap (map (λ (x : After). x.state.fields)) all;
        sent = ap (flat_map (λ (x : After). x.state.messages)) all;
        supersteps = omega arith;
        messages = omega arith;
      })
      go go' on

  abbrev both : Block
  both = joined_block p.registers (block_at p a) (block_at p b)

  -- the joined block sends nothing where the second does not
  both-silent : (gs : List ℕ) → Fit (block_at p a) (block_at p b) gs → quiet ≡ true → AllByRecursion Silent (block_lines both)
  both-silent gs fit q =
      silent-append (handled_lines (block_at p a)) both.body (some-front Silent (handled_lines (block_at p a)) (block_at p a).body fit.silent)
      (silent-append (block_at p a).body (restarts p.registers (block_at p a).body (block_at p b).body ++ (block_at p b).body) (some-back Silent (handled_lines (block_at p a)) (block_at p a).body fit.silent)
      (silent-append (restarts p.registers (block_at p a).body (block_at p b).body) (block_at p b).body
      (restarts-silent _)
      (some-back Silent (handled_lines (block_at p b)) (block_at p b).body (all-pass sends_nothing (block_lines (block_at p b)) q))))

  joints-silent : (gs : List ℕ) → (fit : Fit (block_at p a) (block_at p b) gs) → quiet ≡ true → (globals : List Value) (sent : List Message) (k : ℕ) (rest : List (List Value)) →
      flat_map (λ (x : After). x.state.messages) (joints p g (block_at p a) (block_at p b) gs fit globals sent k rest) ≡ []
  joints-silent gs fit q globals sent k [] = refl
  joints-silent gs fit q globals sent k (f ∷ rest) =
      ap (λ ms. ms ++ flat_map (λ (x : After). x.state.messages) (joints p g (block_at p a) (block_at p b) gs fit globals sent (k + 1) rest))
      (vertex-silent p both (context_at g globals k) (inbox sent k) f (both-silent gs fit q))
      ∙ joints-silent gs fit q globals sent (k + 1) rest

  -- the two supersteps, and the joined one
  pub two-run : (gs : List ℕ) → Fit (block_at p a) (block_at p b) gs → (left line below line' : ℕ) (c : Control) (go go' : Control → Nodes → RunEnd) → ((d : Control) → Below quiet (go d) (go' d)) →
      Below quiet (run_step p g left a line c (λ d. run_step p g left b below d go)) (run_step joined g left (length p.blocks) line' c go')
  two-run gs fit left line below line' c go go' on s s' k = by (superstep p g a c.globals s).fault refl where
    block : block_at joined (length p.blocks) ≡ both
    block = at-last p.blocks both no_block

    all : joints p g (block_at p a) (block_at p b) gs fit c.globals s.sent 0 s.fields ≡ all_steps joined g (block_at joined (length p.blocks)) c.globals s'.sent s'.fields
    all =
        ap (λ ms. all_steps p g both c.globals ms s.fields) k.sent
        ∙ ap (all_steps p g both c.globals s'.sent) k.fields
        ∙ ap (λ x. all_steps p g x c.globals s'.sent s'.fields) (sym block)

    fault-is : fault-joint p g (block_at p a) (block_at p b) gs fit c.globals s.sent s.fields ≡ (superstep joined g (length p.blocks) c.globals s').fault
    fault-is = ap (λ l. (stepped (length p.places) c.globals s l).fault) all

    next : Control
    next = record c { globals = (superstep p g a c.globals s).globals }

    by : (o : Option Fault) → (superstep p g a c.globals s).fault ≡ o →
        NoWorse quiet
        (step_ends o (λ f. ends p (Faulted f (record c { globals = (superstep p g a c.globals s).globals })) (superstep p g a c.globals s).nodes) (run_step p g left b below (record c { globals = (superstep p g a c.globals s).globals }) go (superstep p g a c.globals s).nodes))
        (run_step joined g left (length p.blocks) line' c go' s')
    by (Some f) e =
        let faults : (superstep joined g (length p.blocks) c.globals s').fault ≡ Some f = sym fault-is ∙ two-fault p g (block_at p a) (block_at p b) gs fit c.globals s.sent s.fields f e in
        let m = k.messages in
        let n = k.supersteps in
        subst
        (λ x. NoWorse quiet (ends p (Faulted f next) (superstep p g a c.globals s).nodes)
        (step_ends x (λ f. ends joined (Faulted f (record c { globals = (superstep joined g (length p.blocks) c.globals s').globals })) (superstep joined g (length p.blocks) c.globals s').nodes)
        (go' (record c { globals = (superstep joined g (length p.blocks) c.globals s').globals }) (superstep joined g (length p.blocks) c.globals s').nodes)))
        (sym faults)
        (record {
          outcome = refl;
          supersteps = omega arith;
          messages = λ h. ⊎_elim
              (λ (away : ⊥). absurd away)
              (λ (q : quiet ≡ true).
              let counted : length (flat_map (λ (x : After). x.state.messages) (all_steps joined g (block_at joined (length p.blocks)) c.globals s'.sent s'.fields)) ≡ 0 =
              ap length (ap (flat_map (λ (x : After). x.state.messages)) (sym all) ∙ joints-silent gs fit q c.globals s.sent 0 s.fields) in
              omega arith)
              h;
        })
    by None e =
        let two : Two p g (block_at p a) (block_at p b) gs fit c.globals s.sent s.fields = two-clean p g (block_at p a) (block_at p b) gs fit c.globals s.sent s.fields e in
        let new : List Value = (superstep p g a c.globals s).globals in
        let all2 : all_steps p g (block_at p b) new (superstep p g a c.globals s).nodes.sent (superstep p g a c.globals s).nodes.fields ≡ seconds p g (block_at p a) (block_at p b) gs fit c.globals s.sent new 0 s.fields =
        ap (λ ms. all_steps p g (block_at p b) new ms (superstep p g a c.globals s).nodes.fields) (all-silent p g (block_at p a) (block_at p b) gs fit c.globals s.sent 0 s.fields) in
        let sent-same : (superstep p g b new (superstep p g a c.globals s).nodes).nodes.sent ≡ (superstep joined g (length p.blocks) c.globals s').nodes.sent =
        ap (flat_map (λ (x : After). x.state.messages)) all2 ∙ sym two.messages_same ∙ ap (flat_map (λ (x : After). x.state.messages)) all in
        let counted = ap length sent-same in
        let m = k.messages in
        let n = k.supersteps in
        after-close c (superstep p g b new (superstep p g a c.globals s).nodes).globals (superstep joined g (length p.blocks) c.globals s').globals
        (ap (λ l. (stepped (length p.places) new (superstep p g a c.globals s).nodes l).globals) all2 ∙ sym two.globals_same ∙ ap (λ l. (stepped (length p.places) c.globals s l).globals) all)
        (superstep p g b new (superstep p g a c.globals s).nodes).fault (superstep joined g (length p.blocks) c.globals s').fault
        (ap (λ l. (stepped (length p.places) new (superstep p g a c.globals s).nodes l).fault) all2 ∙ sym two.fault_same ∙ fault-is)
        (superstep p g b new (superstep p g a c.globals s).nodes).nodes (superstep joined g (length p.blocks) c.globals s').nodes
        (record {
          fields = ap (map (λ (x : After). x.state.fields)) all2 ∙ sym two.fields_same ∙ ap (map (λ (x : After). x.state.fields)) all;
          sent = sent-same;
          supersteps = omega arith;
          messages = omega arith;
        })
        go go' on
