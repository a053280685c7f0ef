-- One more handler's run behind those before it.
use Rattle.std.proofs.Common.{◌≡◌, ℕ, true, List, [], ◌∷◌, ◌++◌, Option, None, map, drop, get_or, length, ◌<◌, ◌+◌, refl, ap, ◌∙◌, sym, subst, append_assoc}
use Rattle.std.specs.List.{flat_map}
use Rattle.std.proofs.lemmas.List.{append-nil, drop_more}
use Rattle.gm_value.specs.declared.values.VType.{VType}
use Rattle.gm_value.specs.declared.values.Value.{Value}
use Rattle.gm_value.specs.Numbers.{zero_of}
use Rattle.gm_image.specs.Program.{Line, Handler}
use Rattle.gm_machine.specs.declared.faults.Fault.{Fault}
use Rattle.gm_machine.specs.Taking.{Contribution}
use Rattle.gm_machine.specs.declared.batches.MessageHeader.{MessageHeader}
use Rattle.gm_machine.specs.declared.message_values.MessageValues.{MessageValues}
use Rattle.gm_machine.specs.Faults.{lesser, least_from}
use Rattle.gm_machine.specs.Batches.{message_of}
use Rattle.gm_machine.specs.Vertex.{Message, VertexContext, VertexState, After, lines_after, never_sets, begun, handler_lines, handler_run}
use Rattle.gm_machine.specs.VertexViews.{behind, after_behind, after_lines}
use Rattle.gm_machine.proofs.Behind.{lines-behind, lines-keep}

-- the runs of some messages come behind those of others: `old` is the state before the first run, `now` that after the others
pub record IsBehind (old now : VertexState) (fault : Option Fault) (runs all : List After) : Type 0 where
  pub fields : now.fields ≡ old.fields
  pub messages : now.messages ++ flat_map (λ a. a.state.messages) runs ≡ old.messages ++ flat_map (λ a. a.state.messages) all
  pub puts : now.puts ++ flat_map (λ a. a.state.puts) runs ≡ old.puts ++ flat_map (λ a. a.state.puts) all
  pub folds : now.folds ++ flat_map (λ a. a.state.folds) runs ≡ flat_map (λ a. a.state.folds) all
  pub fault_is : least_from fault (map (λ a. a.fault) runs) ≡ least_from None (map (λ a. a.fault) all)

abbrev work_from : List Value → List Value → List Message → List Contribution → List Contribution → VertexState
work_from fs rs ms ps os = record { fields = fs; registers = rs; messages = ms; puts = ps; folds = os }

-- a state whose registers are at zero is a begun one behind what was sent, put and folded
begun-behind : (types : List VType) (fields : List Value) (w : VertexState) → w.registers ≡ map zero_of types → w.fields ≡ fields →
    w ≡ behind w.messages w.puts w.folds (begun types fields)
begun-behind types fields w r f =
    ap (λ fs. work_from fs w.registers w.messages w.puts w.folds) f
    ∙ ap (λ rs. work_from fields rs w.messages w.puts w.folds) r
    ∙ ap (λ ms. work_from fields (map zero_of types) ms w.puts w.folds) (sym (append-nil w.messages))
    ∙ ap (λ ps. work_from fields (map zero_of types) (w.messages ++ []) ps w.folds) (sym (append-nil w.puts))
    ∙ ap (λ os. work_from fields (map zero_of types) (w.messages ++ []) (w.puts ++ []) os) (sym (append-nil w.folds))

one_more : (s : VertexContext) (ls : List Line) (types : List VType) (old w w' : VertexState) (fault one : Option Fault) (runs all : List After) →
    never_sets ls ≡ true → w.registers ≡ map zero_of types →
    IsBehind old w fault (lines_after s ls 0 (begun types old.fields) ∷ runs) all →
    after_lines w' one ≡ lines_after s ls 0 w →
    IsBehind old w' (lesser fault one) runs all
one_more s ls types old w w' fault one runs all keeps reset inv ran =
    let start : VertexState = begun types old.fields in
    let r : After = lines_after s ls 0 start in
    let e : after_lines w' one ≡ after_behind w.messages w.puts w.folds r =
    ran ∙ ap (λ v. lines_after s ls 0 v) (begun-behind types old.fields w reset inv.fields) ∙ lines-behind w.messages w.puts w.folds s ls 0 start in
    record {
      fields = ap (λ a. a.state.fields) e ∙ lines-keep s ls 0 start keeps;
      messages = ap (λ a. a.state.messages ++ flat_map (λ b. b.state.messages) runs) e
          ∙ append_assoc w.messages r.state.messages (flat_map (λ b. b.state.messages) runs) ∙ inv.messages;
      puts = ap (λ a. a.state.puts ++ flat_map (λ b. b.state.puts) runs) e
          ∙ append_assoc w.puts r.state.puts (flat_map (λ b. b.state.puts) runs) ∙ inv.puts;
      folds = ap (λ a. a.state.folds ++ flat_map (λ b. b.state.folds) runs) e
          ∙ append_assoc w.folds r.state.folds (flat_map (λ b. b.state.folds) runs) ∙ inv.folds;
      fault_is = ap (λ a. least_from (lesser fault a.fault) (map (λ b. b.fault) runs)) e ∙ inv.fault_is;
    }

-- the runs of the messages of some headers
abbrev pub runs_of : VertexContext → List Handler → VertexState → MessageValues → List MessageHeader → List After
runs_of s hs start values headers = map (handler_run s hs start) (map (message_of values) headers)

-- the same for the header at an index
pub one_message : (s : VertexContext) (hs : List Handler) (types : List VType) (values : MessageValues) (headers : List MessageHeader) (i : ℕ) (d : MessageHeader) (old before w' : VertexState)
    (fault one f : Option Fault) →
    i < length headers →
    ((kind : ℕ) → never_sets (handler_lines hs kind) ≡ true) →
    f ≡ lesser fault one →
    IsBehind old before fault (runs_of s hs (begun types old.fields) values (drop i headers)) (runs_of s hs (begun types old.fields) values headers) →
    after_lines w' one ≡ lines_after (record s { message = (message_of values (get_or headers i d)).values }) (handler_lines hs (message_of values (get_or headers i d)).kind) 0 (record before { registers = map zero_of types }) →
    IsBehind old w' f (runs_of s hs (begun types old.fields) values (drop (i + 1) headers)) (runs_of s hs (begun types old.fields) values headers)
one_message s hs types values headers i d old before w' fault one f lt keeps least inv ran =
    let header : MessageHeader = get_or headers i d in
    let here : drop i headers ≡ header ∷ drop (i + 1) headers = drop_more headers i d lt in
    let all : List After = runs_of s hs (begun types old.fields) values headers in
    let inv' : IsBehind old before fault (runs_of s hs (begun types old.fields) values (header ∷ drop (i + 1) headers)) all =
    subst (λ l. IsBehind old before fault (runs_of s hs (begun types old.fields) values l) all) here inv in
    let next : IsBehind old w' (lesser fault one) (runs_of s hs (begun types old.fields) values (drop (i + 1) headers)) all =
    one_more
    (record s { message = (message_of values header).values })
    (handler_lines hs (message_of values header).kind)
    types
    old
    (record before { registers = map zero_of types })
    w'
    fault
    one
    (runs_of s hs (begun types old.fields) values (drop (i + 1) headers))
    all
    (keeps (message_of values header).kind)
    refl
    (record { fields = inv'.fields; messages = inv'.messages; puts = inv'.puts; folds = inv'.folds; fault_is = inv'.fault_is })
    ran in
    subst (λ g. IsBehind old w' g (runs_of s hs (begun types old.fields) values (drop (i + 1) headers)) all) (sym least) next
