-- A run of the workers goes from superstep to superstep beside the run on one thread.
use Rattle.std.proofs.Common.{◌≡◌, ◌<◌, ◌+◌, ℕ, Bool, true, false, cond, Option, Some, None, Ok, Err, List, [], ◌∷◌, length, map, refl, sym, ap, ◌∙◌, subst, arith}
use Rattle.std.specs.Prelude.{Result, OnErr, slice_index_or}
use Rattle.std.proofs.lemmas.Bool.{eq-eqb, true≢false}
use Rattle.std.proofs.lemmas.List.{get_or-map}
use Rattle.std.proofs.lemmas.List.FromFn.{fill_by_all}
use Rattle.gm_value.specs.declared.values.Value.{Value}
use Rattle.gm_model.specs.declared.outcomes.RunEnd.{RunEnd}
use Rattle.gm_model.specs.Graphs.{NumberedGraph, node_count}
use Rattle.gm_image.specs.Program.{Program}
use Rattle.gm_observe.specs.declared.notes.Note.{Note}
use Rattle.gm_observe.specs.Audience.{told_to_all, AreToldUpTo, IsToldInPart}
use Rattle.gm_observe.proofs.Telling.{up_to-start}
use Rattle.gm_machine.specs.declared.faults.Fault.{Fault}
use Rattle.gm_machine.specs.declared.masters.MasterStop.{MasterStop}
use Rattle.gm_machine.specs.declared.masters.MasterStop.TheVariants as stops
use Rattle.gm_machine.specs.Machine.{Control, Nodes, Stepped, Stop, Faulted, Stops, Steps, pause, machine, ends, run_step, superstep, start_control, start_nodes}
use Rattle.gm_machine.specs.Masters.{pause_of}
use Rattle.gm_machine.specs.Notes.{note_of, noted, noted_step}
use Rattle.gm_machine.proofs.RunSteps.{end_from, notes_from, rest-starts, rest-stops, end-goes, end-faults, told-goes, told-faults, told-stops, told-breaks}
use Rattle.gm_core.specs.Cores.{owner, below}
use Rattle.gm_workers.specs.declared.crews.Crew.{Crew}
use Rattle.gm_workers.specs.declared.crews.Slot.{Slot}
use Rattle.gm_workers.specs.declared.dealing.Dealing.{Dealing}
use Rattle.gm_workers.specs.declared.runs.Progress.{Progress}
use Rattle.gm_workers.specs.Dealings.{place_in, no_place}
use Rattle.gm_workers.specs.Crews.{fields_at, HasSlot, IsCrew, StandFor, StandForStep}
use Rattle.gm_workers.specs.Runs.{IsAt, ComesTo, IsOver, ended_by}
use Rattle.gm_workers.proofs.DealingLemmas.{own-place, length-below, below-at}

-- each node has its place
pub crew-slot : (nodes workers : ℕ) (dealing : Dealing) (slots : List Slot) (n : ℕ) → IsCrew nodes workers dealing slots → n < nodes → HasSlot dealing slots n
crew-slot nodes workers dealing slots n crew low =
    let owners : List ℕ = dealing.owners.items in
    let w : ℕ = owner owners n in
    let few : w < workers = crew.dealt.owners.each n in
    let has = own-place owners w nodes n low refl in
    record {
      worker = omega (arith, few, crew.count);
      place =
          ap (λ b. cond b (slice_index_or dealing.places.items n no_place) no_place) (eq-eqb w w refl)
          ∙ ap (λ l. slice_index_or l n no_place) crew.dealt.places
          ∙ get_or-map (place_in owners) (below nodes) n 0 no_place (omega (arith, length-below nodes, low))
          ∙ ap (place_in owners) (below-at nodes n 0 low);
      within = omega (arith, has.within, crew.wide w few, ap length (crew.nodes_are w few));
    }

-- a crew is one of as many workers as there are
pub recount : (nodes workers : ℕ) (dealing : Dealing) (slots : List Slot) → IsCrew nodes workers dealing slots → IsCrew nodes (length slots) dealing slots
recount nodes workers dealing slots crew = subst (λ n. IsCrew nodes n dealing slots) (sym crew.count) crew

-- the fields of all nodes
pub all-fields : (nodes : ℕ) (owners : List ℕ) (slots : List Slot) (d : Nodes) → StandFor nodes owners slots d → map (fields_at owners slots) (below nodes) ≡ d.fields
all-fields nodes owners slots d stand = sym (fill_by_all (fields_at owners slots) d.fields nodes [] stand.long (λ k low. sym (stand.fields k low)))

-- where the master list stopped for good it pauses no more
pub pause-over : (stop : MasterStop) (left line : ℕ) (c : Control) → IsOver stop → pause_of stop left line c ≡ Stops (ended_by stop c)
pause-over (stops.Step q) left line c over = absurd over
pause-over stops.Ended left line c over = refl
pause-over (stops.Faulted f) left line c over = refl
pause-over stops.Cut left line c over = refl

-- the end depends on the fields and the counts alone
pub ends-same : (p : Program) (how : Stop) (d : Nodes) (fields : List (List Value)) (supersteps messages : ℕ) → fields ≡ d.fields → supersteps ≡ d.supersteps → messages ≡ d.messages →
    (let s : Nodes = record { fields = fields; sent = []; supersteps = supersteps; messages = messages } in ends p how s ≡ ends p how d)
ends-same p how d fields supersteps messages f s m =
    let made : List (List Value) → ℕ → ℕ → Nodes = λ fs k n. record { fields = fs; sent = []; supersteps = k; messages = n } in
    ap (λ fs. ends p how (made fs supersteps messages)) f ∙ ap (λ k. ends p how (made d.fields k messages)) s ∙ ap (λ n. ends p how (made d.fields d.supersteps n)) m

pub some-same : (a b : RunEnd) → Some a ≡ Some b → a ≡ b
some-same a b e = ap from e where
  from : Option RunEnd → RunEnd
  from None = a
  from (Some end) = end

pub never-none : (a : RunEnd) → None ≡ Some a → ⊥
never-none a e = true≢false (sym (ap is_some e)) where
  is_some : Option RunEnd → Bool
  is_some None = false
  is_some (Some end) = true

-- a fact of an error
pub part-on-err : {T E : Type 0} (r : Result T E) (p : Program) (g : NumberedGraph) (q : ℕ) (vs : List Value) (progress : Progress) (old new : List (List Note)) →
    ((d : Nodes) → IsAt (node_count g) progress d → IsToldInPart (note_of g q (superstep p g q vs d).nodes ∷ []) old new) →
    OnErr r ((d : Nodes) → IsAt (node_count g) progress d → IsToldInPart (note_of g q (superstep p g q vs d).nodes ∷ []) old new)
part-on-err (Ok x) p g q vs progress old new part = tt
part-on-err (Err e) p g q vs progress old new part = part

-- all were told a note
pub told-note : (note note' : Note) (old new : List (List Note)) → new ≡ told_to_all (note ∷ []) old → note ≡ note' → new ≡ told_to_all (note' ∷ []) old
told-note note note' old new told is = told ∙ ap (λ (n : Note). told_to_all (n ∷ []) old) is

-- the note of a superstep
pub note-is : (g : NumberedGraph) (q : ℕ) (r : Progress) (globals : List Value) (messages : ℕ) (fault : Option Fault) (t : Stepped) (vertices : ℕ) → ComesTo (node_count g) r globals messages fault t → vertices ≡ node_count g →
    (let n : Note = record { step = r.supersteps; block = q; vertices = vertices; messages = messages } in n ≡ note_of g q t.nodes)
note-is g q r globals messages fault t vertices to count =
    let made : ℕ → ℕ → ℕ → Note = λ s v m. record { step = s; block = q; vertices = v; messages = m } in
    ap (λ s. made s vertices messages) to.at.supersteps_are ∙ ap (λ v. made t.nodes.supersteps v messages) count ∙ ap (made t.nodes.supersteps (node_count g)) to.messages_are

-- one more superstep
pub comes-to : (p : Program) (g : NumberedGraph) (q : ℕ) (vs : List Value) (r : Progress) (crew : Crew) (supersteps messages : ℕ) (globals : List Value) (sent : ℕ) (fault : Option Fault) →
    crew.dealing ≡ r.crew.dealing → supersteps ≡ r.supersteps + 1 → messages ≡ r.messages + sent →
    ((d : Nodes) → StandFor (node_count g) r.crew.dealing.owners.items r.crew.slots.items d → StandForStep (node_count g) r.crew.dealing.owners.items crew.slots.items globals sent fault (superstep p g q vs d)) →
    (d : Nodes) → IsAt (node_count g) r d →
    (let r' : Progress = record { crew = crew; supersteps = supersteps; messages = messages } in ComesTo (node_count g) r' globals sent fault (superstep p g q vs d))
comes-to p g q vs r crew supersteps messages globals sent fault dealt steps counted stands d at =
    let t : Stepped = superstep p g q vs d in
    let one = stands d at.stand in
    record {
      at = record {
        stand = subst (λ (h : Dealing). StandFor (node_count g) h.owners.items crew.slots.items t.nodes) (sym dealt) one.stand;
        supersteps_are = steps ∙ ap (λ n. n + 1) at.supersteps_are;
        messages_are = counted ∙ ap (λ n. n + sent) at.messages_are ∙ ap (λ n. d.messages + n) one.messages_are;
      };
      globals_are = one.globals_are;
      messages_are = one.messages_are;
      fault_is = one.fault_is;
    }

-- what is left of a run of the workers ends as the whole run on one thread does, and observers were told the notes in front of those that are left
pub record RunsOn (p : Program) (g : NumberedGraph) (args : List Value) (turns : ℕ) (r : Progress) (left line : ℕ) (c : Control) (before held : List (List Note)) : Type 0 where
  pub d : Nodes
  pub at : IsAt (node_count g) r d
  pub end : end_from p g left line c d ≡ machine p g args turns
  pub told : AreToldUpTo (noted p g args turns) (notes_from p g left line c d) before held

module _ (p : Program) (g : NumberedGraph) (args : List Value) (turns : ℕ) where
  pub on-starts : (r : Progress) (left line : ℕ) (c : Control) (held : List (List Note)) → left ≡ turns → line ≡ 0 → c ≡ start_control p args →
      StandFor (node_count g) r.crew.dealing.owners.items r.crew.slots.items (start_nodes p g) → r.supersteps ≡ 0 → r.messages ≡ 0 → RunsOn p g args turns r left line c held held
  on-starts r left line c held left_is line_is c_is stand none nothing = record {
    d = start_nodes p g;
    at = record { stand = stand; supersteps_are = none; messages_are = nothing };
    end = rest-starts p g (ends p) (run_step p g) args turns left line c (start_nodes p g) left_is line_is c_is refl;
    told = up_to-start (noted p g args turns) _ held (rest-starts p g (λ stop t. []) (noted_step p g) args turns left line c (start_nodes p g) left_is line_is c_is refl);
  }

  module _ (r : Progress) (left line : ℕ) (c : Control) (before held : List (List Note)) (on : RunsOn p g args turns r left line c before held) where
    -- at the end of the master list
    pub stops-end : (how : Stop) (end : RunEnd) → Stops how ≡ pause p g left line c → ((d : Nodes) → IsAt (node_count g) r d → end ≡ ends p how d) → end ≡ machine p g args turns
    stops-end how end is ended = ended on.d on.at ∙ rest-stops p g (ends p) (run_step p g) left line c on.d how is ∙ on.end

    pub stops-told : (how : Stop) → Stops how ≡ pause p g left line c → AreToldUpTo (noted p g args turns) [] before held
    stops-told how is = told-stops p g left line c on.d how before held (noted p g args turns) is on.told

    -- at a superstep
    module _ (left' q line' : ℕ) (c' : Control) (is : Steps left' q line' c' ≡ pause p g left line c) where
      pub breaks : (new : List (List Note)) → ((d : Nodes) → IsAt (node_count g) r d → IsToldInPart (note_of g q (superstep p g q c'.globals d).nodes ∷ []) held new) → IsToldInPart (noted p g args turns) before new
      breaks new part = told-breaks p g left line c on.d left' q line' c' before held new (noted p g args turns) is on.told (part on.d on.at)

      module _ (r' : Progress) (globals : List Value) (messages : ℕ) (fault : Option Fault) (new : List (List Note))
          (comes : (d : Nodes) → IsAt (node_count g) r d → ComesTo (node_count g) r' globals messages fault (superstep p g q c'.globals d))
          (tells : (d : Nodes) → IsAt (node_count g) r d → new ≡ told_to_all (note_of g q (superstep p g q c'.globals d).nodes ∷ []) held) where
        abbrev t : Stepped
        t = superstep p g q c'.globals on.d

        to : ComesTo (node_count g) r' globals messages fault t
        to = comes on.d on.at

        found : (let u : Stepped = record { nodes = t.nodes; globals = globals; fault = fault } in u ≡ t)
        found =
            let made : List Value → Option Fault → Stepped = λ vs f. record { nodes = t.nodes; globals = vs; fault = f } in
            ap (λ vs. made vs fault) to.globals_are ∙ ap (made t.globals) to.fault_is

        pub goes : fault ≡ None → RunsOn p g args turns r' left' line' (record c' { globals = globals }) before new
        goes none = record {
          d = t.nodes;
          at = to.at;
          end = end-goes p g left line c on.d left' q line' c' t.nodes globals fault is found none ∙ on.end;
          told = told-goes p g left line c on.d left' q line' c' t.nodes globals fault before held new (noted p g args turns) is found none on.told (tells on.d on.at);
        }

        pub faults-end : (f : Fault) (end : RunEnd) → fault ≡ Some f → (let c'' : Control = record c' { globals = globals } in (d : Nodes) → IsAt (node_count g) r' d → end ≡ ends p (Faulted f c'') d) → end ≡ machine p g args turns
        faults-end f end some ended =
            ended t.nodes to.at ∙ end-faults p g left line c on.d left' q line' c' t.nodes globals fault f is found some ∙ on.end

        pub faults-told : (f : Fault) → fault ≡ Some f → AreToldUpTo (noted p g args turns) [] before new
        faults-told f some =
            told-faults p g left line c on.d left' q line' c' t.nodes globals fault f before held new (noted p g args turns) is found some on.told (tells on.d on.at)
