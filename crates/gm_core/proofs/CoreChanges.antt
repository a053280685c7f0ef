-- A core, from its parts, after an event and at the start.
use Rattle.std.proofs.Common.{◌≡◌, ◌<◌, ◌≤◌, ◌+◌, ℕ, Bool, true, false, None, List, [], ◌∷◌, ◌++◌, length, sym, ap, ◌∙◌, map, take, arith, zero-add, ⊎_elim}
use Rattle.std.specs.Prelude.{slice_set, slice_index_or}
use Rattle.std.specs.List.{enumerate_from}
use Rattle.std.proofs.lemmas.Bool.{cases_eq}
use Rattle.std.proofs.lemmas.List.{get_or-set_same, get_or-set_other, get_or_default, get_or-map, length-map, take_more, take_all}
use Rattle.std.proofs.lemmas.List.FromFn.{length-enumerate_from, get_or-enumerate_from}
use Rattle.gm_value.specs.declared.values.Value.{Value}
use Rattle.gm_model.specs.Graphs.{NumberedGraph}
use Rattle.gm_image.specs.Program.{Program}
use Rattle.gm_machine.specs.Faults.{lesser}
use Rattle.gm_machine.specs.Machine.{Control, inbox, pause, start_control, start_fields}
use Rattle.gm_machine.specs.States.{pause_after}
use Rattle.gm_machine.specs.Steps.{step_after}
use Rattle.gm_machine.specs.Taking.{Settled, settled}
use Rattle.gm_machine.specs.Vertex.{Message, After}
use Rattle.gm_core.specs.Mails.{no_mail}
use Rattle.gm_core.specs.Cores.{Core, is_in, sends, computes, releases, start}
use Rattle.gm_core.proofs.NodeLists.{in-push_same, in-push_other}

-- what is read from a list, whatever stands for what is not there
pub read-is : {A : Type 0} (xs : List A) (i : ℕ) (x d : A) → i < length xs → x ≡ slice_index_or xs i x → x ≡ slice_index_or xs i d
read-is xs i x d within is = is ∙ get_or_default xs i x d within

-- one more node has a mark
pub marks-noted : (nodes node : ℕ) (computed now : List ℕ) (marks new : List Bool) → length marks ≡ nodes → node < nodes →
    ((n : ℕ) → n < nodes → slice_index_or marks n false ≡ is_in n computed) → now ≡ computed ++ node ∷ [] → new ≡ slice_set marks node true →
    (n : ℕ) → n < nodes → slice_index_or new n false ≡ is_in n now
marks-noted nodes node computed now marks new long here marked pushed set n in_range =
    ap (λ ms. slice_index_or ms n false) set
    ∙ ⊎_elim
    (λ (at : n ≡ node).
    ap (λ k. slice_index_or (slice_set marks node true) k false) at
    ∙ get_or-set_same marks node true false (omega (arith, long))
    ∙ sym (ap (λ k. is_in k (computed ++ node ∷ [])) at ∙ in-push_same node computed))
    (λ (other : n ≡ node → ⊥).
    get_or-set_other marks node n true false other
    ∙ marked n in_range
    ∙ sym (in-push_other n node computed other))
    (cases_eq n node)
    ∙ ap (is_in n) (sym pushed)

-- a core after a node's step on globals and with an inbox
pub computes-is : (p : Program) (g : NumberedGraph) (owners : List ℕ) (workers block : ℕ) (c : Control) (w n : ℕ) (s t : Core) (globals : List Value) (box : List Message) →
    globals ≡ c.globals →
    box ≡ inbox (s.waiting w) n →
    t.next ≡ s.next →
    t.fields ≡ slice_set s.fields n (step_after p block globals g n box (slice_index_or s.fields n [])).state.fields →
    t.waiting ≡ s.waiting → t.supersteps ≡ s.supersteps → t.messages ≡ s.messages →
    t.computed ≡ s.computed ++ n ∷ [] →
    t.puts ≡ s.puts ++ (step_after p block globals g n box (slice_index_or s.fields n [])).state.puts →
    t.fault ≡ lesser s.fault (step_after p block globals g n box (slice_index_or s.fields n [])).fault →
    t.sent ≡ s.sent + length (step_after p block globals g n box (slice_index_or s.fields n [])).state.messages →
    t.mail ≡ sends owners w (step_after p block globals g n box (slice_index_or s.fields n [])).state.messages s.mail →
    ((v : ℕ) → t.arrived v ≡ s.arrived v) →
    t ≡ computes p g owners workers block c w n s
computes-is p g owners workers block c w n s t globals box globals_are inbox_is next fields waiting supersteps messages computed puts fault sent mail arrived =
    let step : List Value → List Message → After = λ v b. step_after p block v g n b (slice_index_or s.fields n []) in
    let same : step globals box ≡ step c.globals (inbox (s.waiting w) n) = ap (step globals) inbox_is ∙ ap (λ v. step v (inbox (s.waiting w) n)) globals_are in
    let after : After = step c.globals (inbox (s.waiting w) n) in
    let fields_are : t.fields ≡ slice_set s.fields n after.state.fields = fields ∙ ap (λ (a : After). slice_set s.fields n a.state.fields) same in
    let puts_are : t.puts ≡ s.puts ++ after.state.puts = puts ∙ ap (λ (a : After). s.puts ++ a.state.puts) same in
    let fault_is : t.fault ≡ lesser s.fault after.fault = fault ∙ ap (λ (a : After). lesser s.fault a.fault) same in
    let sent_is : t.sent ≡ s.sent + length after.state.messages = sent ∙ ap (λ (a : After). s.sent + length a.state.messages) same in
    let mail_is : t.mail ≡ sends owners w after.state.messages s.mail = mail ∙ ap (λ (a : After). sends owners w a.state.messages s.mail) same in
    λ j. record {
      next = next j;
      fields = fields_are j;
      waiting = waiting j;
      supersteps = supersteps j;
      messages = messages j;
      computed = computed j;
      puts = puts_are j;
      fault = fault_is j;
      sent = sent_is j;
      mail = mail_is j;
      arrived = λ v. arrived v j;
    }

-- a core after a release
pub releases-is : (p : Program) (g : NumberedGraph) (owners : List ℕ) (workers left line : ℕ) (c : Control) (s t : Core) (put : Settled) →
    put ≡ settled (length p.places) s.puts c.globals →
    t.next ≡ pause_after p g left line (record c { globals = put.values }) (lesser s.fault put.fault) →
    t.fields ≡ s.fields → t.waiting ≡ s.mail.incoming → t.supersteps ≡ s.supersteps + 1 → t.messages ≡ s.messages + s.sent →
    t.computed ≡ [] → t.puts ≡ [] → t.fault ≡ None → t.sent ≡ 0 → t.mail ≡ no_mail → ((w : ℕ) → t.arrived w ≡ false) →
    t ≡ releases p g owners workers left line c s
releases-is p g owners workers left line c s t put settles next fields waiting supersteps messages computed puts fault sent mail arrived =
    let next_is : t.next ≡ pause_after p g left line (record c { globals = (settled (length p.places) s.puts c.globals).values }) (lesser s.fault (settled (length p.places) s.puts c.globals).fault) = next ∙ ap (λ (u : Settled). pause_after p g left line (record c { globals = u.values }) (lesser s.fault u.fault)) settles in
    λ j. record {
      next = next_is j;
      fields = fields j;
      waiting = waiting j;
      supersteps = supersteps j;
      messages = messages j;
      computed = computed j;
      puts = puts j;
      fault = fault j;
      sent = sent j;
      mail = mail j;
      arrived = λ v. arrived v j;
    }

-- the core before any event
pub starts-is : (p : Program) (g : NumberedGraph) (owners : List ℕ) (workers : ℕ) (args : List Value) (turns : ℕ) (t : Core) →
    t.next ≡ pause p g turns 0 (start_control p args) →
    t.fields ≡ map (start_fields p g) (enumerate_from 0 g.numbers) → ((w : ℕ) → t.waiting w ≡ []) → t.supersteps ≡ 0 → t.messages ≡ 0 →
    t.computed ≡ [] → t.puts ≡ [] → t.fault ≡ None → t.sent ≡ 0 → t.mail ≡ no_mail → ((w : ℕ) → t.arrived w ≡ false) →
    t ≡ start p g owners workers args turns
starts-is p g owners workers args turns t next fields waiting supersteps messages computed puts fault sent mail arrived =
    λ j. record {
      next = next j;
      fields = fields j;
      waiting = λ w. waiting w j;
      supersteps = supersteps j;
      messages = messages j;
      computed = computed j;
      puts = puts j;
      fault = fault j;
      sent = sent j;
      mail = mail j;
      arrived = λ v. arrived v j;
    }

-- what is read from a list of what is made of another
pub mapped-read : {X Y : Type 0} (f : X → Y) (xs : List X) (i : ℕ) (x : X) (d : Y) → i < length xs → x ≡ slice_index_or xs i x → f x ≡ slice_index_or (map f xs) i d
mapped-read f xs i x d within is = ap f is ∙ sym (get_or-map f xs i x d within)

-- one more node has its first fields
pub fields-more : (p : Program) (g : NumberedGraph) (i : ℕ) (old new : List (List Value)) (row : List Value) → i < length g.numbers → row ≡ start_fields p g (i, 0) →
    old ≡ take i (map (start_fields p g) (enumerate_from 0 g.numbers)) → new ≡ old ++ row ∷ [] →
    new ≡ take (i + 1) (map (start_fields p g) (enumerate_from 0 g.numbers))
fields-more p g i old new row within is before pushed =
    let first = map (start_fields p g) (enumerate_from 0 g.numbers) in
    let inside : i < length (enumerate_from 0 g.numbers) = omega (arith, within, length-enumerate_from 0 g.numbers) in
    let there : i < length first = omega (arith, inside, length-map (enumerate_from 0 g.numbers) (start_fields p g)) in
    let at : slice_index_or first i [] ≡ start_fields p g (i, 0) =
    get_or-map (start_fields p g) (enumerate_from 0 g.numbers) i (0, 0) [] inside
    ∙ ap (start_fields p g) (get_or-enumerate_from 0 g.numbers i (0, 0) within)
    ∙ ap (λ k. start_fields p g (k, 0)) (zero-add i) in
    pushed
    ∙ ap (λ rows. rows ++ row ∷ []) before
    ∙ ap (λ r. take i first ++ r ∷ []) (is ∙ sym at)
    ∙ sym (take_more first i [] there)

pub fields-all : (p : Program) (g : NumberedGraph) (i : ℕ) (now : List (List Value)) → length g.numbers ≤ i →
    now ≡ take i (map (start_fields p g) (enumerate_from 0 g.numbers)) → now ≡ map (start_fields p g) (enumerate_from 0 g.numbers)
fields-all p g i now end same =
    let first = map (start_fields p g) (enumerate_from 0 g.numbers) in
    same ∙ take_all i first (omega (arith, end, length-map (enumerate_from 0 g.numbers) (start_fields p g), length-enumerate_from 0 g.numbers))

-- the master list from its start
pub pause-starts : (p : Program) (g : NumberedGraph) (args : List Value) (turns left line : ℕ) (c : Control) → left ≡ turns → line ≡ 0 → c ≡ start_control p args →
    pause p g left line c ≡ pause p g turns 0 (start_control p args)
pause-starts p g args turns left line c left_is line_is c_is =
    ap (λ n. pause p g n line c) left_is ∙ ap (λ j. pause p g turns j c) line_is ∙ ap (pause p g turns 0) c_is
