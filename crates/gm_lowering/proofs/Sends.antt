-- A send block sends along the edges.
use Rattle.std.proofs.Common.{◌≡◌, ℕ, Bool, true, false, Option, Some, None, Result, Ok, Err, List, [], ◌∷◌, ◌++◌, length, map, refl, ap, ◌∙◌, sym, append_assoc}
use Rattle.std.specs.Prelude.{if◌then◌else◌}
use Rattle.std.proofs.lemmas.List.{append-nil}
use Rattle.gm_value.specs.declared.values.Value.{Value}
use Rattle.gm_value.specs.declared.values.Value.TheVariants.{Flag, At}
use Rattle.gm_value.specs.Operations.{is_true}
use Rattle.gm_model.specs.Graphs.{NumberedGraph, Step}
use Rattle.gm_ast.specs.declared.tree.Direction.TheVariants.{Out, In}
use Rattle.gm_ast.specs.declared.tree.Domain.{Domain}
use Rattle.gm_image.specs.Program as image
use Rattle.gm_image.specs.Program.{Line, Send, Each}
use Rattle.gm_image.specs.Term as M
use Rattle.gm_image.specs.Term.{Term, Neighbour}
use Rattle.gm_machine.specs.declared.faults.Fault as MF
use Rattle.gm_machine.specs.Expressions.{value, values}
use Rattle.gm_machine.specs.Faults.{then_go}
use Rattle.gm_machine.specs.Machine.{context_at}
use Rattle.gm_machine.specs.Vertex.{Message, VertexContext, VertexState, view, begun, messages_to, line_ends, leaves, goes_on, lines_after, steps, turns_after, folded, body_after}
use Rattle.gm_machine.proofs.SlotSteps.{folded-nothing}
use Rattle.gm_lowering.specs.Layouts.{Layout}
use Rattle.gm_lowering.specs.Terms.{own_env, term}
use Rattle.gm_lowering.specs.Plans.{Load, SenderItself, SenderProperty, SenderDegree, EdgeValue}
use Rattle.gm_lowering.specs.Bodies.{under}
use Rattle.gm_lowering.specs.Blocks.{load_term, direction_of, each_lines}
use Rattle.gm_lowering.specs.Sends.{load_at, message_along, SendBlocksSend}
use Rattle.gm_lowering.proofs.OwnSteps.{body-alone}

module _ (c : Layout) (p : image.Program) (g : NumberedGraph) (kind : ℕ) (d : Domain) (loads : List Load) (globals fields : List Value) (k : ℕ) where
  abbrev s : VertexContext
  s = context_at g globals k

  abbrev sent : List Message → VertexState
  sent ms = record (begun p.registers fields) { messages = ms }

  abbrev line : Line
  line = Send kind Neighbour (map (load_term c) loads)

  -- the value of a load
  load-value : (e : Step) (ms : List Message) (x : Load) → value (view (record s { near = e }) (sent ms)) (load_term c x) ≡ Ok (load_at c g k fields e x)
  load-value e ms SenderItself = refl
  load-value e ms (SenderProperty q) = refl
  load-value e ms (SenderDegree Out) = refl
  load-value e ms (SenderDegree In) = refl
  load-value e ms (EdgeValue q) = refl

  load-values : (e : Step) (ms : List Message) (xs : List Load) → values (view (record s { near = e }) (sent ms)) (map (load_term c) xs) ≡ Ok (map (load_at c g k fields e) xs)
  load-values e ms [] = refl
  load-values e ms (x ∷ xs) =
      ap (λ a. then_go a (λ v. then_go (values (view (record s { near = e }) (sent ms)) (map (load_term c) xs)) (λ vs. Ok (v ∷ vs)))) (load-value e ms x)
      ∙ ap (λ a. then_go a (λ vs. Ok (load_at c g k fields e x ∷ vs))) (load-values e ms xs)

  -- one edge
  turn-sends : (e : Step) (ms : List Message) → lines_after (record s { near = e }) (line ∷ []) 0 (sent ms) ≡ leaves (sent (ms ++ message_along c g kind loads k fields e ∷ []))
  turn-sends e ms =
      ap (λ a. goes_on (line_ends (sent ms) a (λ vs. leaves (sent (ms ++ messages_to (At (Some e.node)) kind vs)))) (λ j w. lines_after (record s { near = e }) [] j w)) (load-values e ms loads)

  -- all edges
  turns-send : (es : List Step) (ms : List Message) → turns_after s (line ∷ []) es (sent ms) None ≡ record { state = sent (ms ++ map (message_along c g kind loads k fields) es); fault = None; skip = 0 }
  turns-send [] ms = ap (λ l. leaves (sent l)) (sym (append-nil ms))
  turns-send (e ∷ es) ms =
      ap (λ a. turns_after s (line ∷ []) es a.state (next a.fault)) (turn-sends e ms)
      ∙ turns-send es (ms ++ message_along c g kind loads k fields e ∷ [])
      ∙ ap (λ l. leaves (sent l)) (append_assoc ms (message_along c g kind loads k fields e ∷ []) (map (message_along c g kind loads k fields) es)) where
        next : Option MF.Fault → Option MF.Fault
        next f = f

  abbrev all_sent : List Message
  all_sent = map (message_along c g kind loads k fields) (steps (direction_of d) g k)

  each-sends : body_after (length p.places) s (each_lines d (line ∷ [])) 0 (sent []) ≡ leaves (sent all_sent)
  each-sends =
      ap (λ a. goes_on (folded (length p.places) (record a { skip = 1 })) (λ j w. body_after (length p.places) s (line ∷ []) j w)) (turns-send (steps (direction_of d) g k) [])
      ∙ ap (λ a. goes_on a (λ j w. body_after (length p.places) s (line ∷ []) j w)) (folded-nothing (length p.places) (sent all_sent) None 1 refl)

  skip-sends : (t : Term) (z : Value) → value (view s (sent [])) t ≡ Ok z → (b : Bool) → is_true z ≡ b
      → body_after (length p.places) s (image.Skip (length (each_lines d (line ∷ []))) t ∷ each_lines d (line ∷ [])) 0 (sent []) ≡ leaves (sent (if b then all_sent else []))
  skip-sends t z e true i =
      ap (λ a. goes_on (line_ends (sent []) a (λ v. record { state = sent []; fault = None; skip = if is_true v then 0 else length (each_lines d (line ∷ [])) })) (λ j w. body_after (length p.places) s (each_lines d (line ∷ [])) j w)) e
      ∙ ap (λ b. body_after (length p.places) s (each_lines d (line ∷ [])) (if b then 0 else length (each_lines d (line ∷ []))) (sent [])) i
      ∙ each-sends
  skip-sends t z e false i =
      ap (λ a. goes_on (line_ends (sent []) a (λ v. record { state = sent []; fault = None; skip = if is_true v then 0 else length (each_lines d (line ∷ [])) })) (λ j w. body_after (length p.places) s (each_lines d (line ∷ [])) j w)) e
      ∙ ap (λ b. body_after (length p.places) s (each_lines d (line ∷ [])) (if b then 0 else length (each_lines d (line ∷ []))) (sent [])) i

  under-sends : (t : Term) (z : Value) → value (view s (sent [])) t ≡ Ok z
      → body_after (length p.places) s (under t (each_lines d (line ∷ []))) 0 (sent []) ≡ leaves (sent (if is_true z then all_sent else []))
  under-sends (M.Const (Flag true)) z e = each-sends ∙ ap (λ b. leaves (sent (if b then all_sent else []))) (ap truth e) where
    truth : Result Value MF.Fault → Bool
    truth (Ok v) = is_true v
    truth (Err f) = true
  under-sends t z e = skip-sends t z e (is_true z) refl

pub send-blocks-send : SendBlocksSend
send-blocks-send c seg p g n kind key mask d loads globals fields k z e =
    body-alone p (context_at g globals k) (under (term (own_env c seg n) key mask) (each_lines d (Send kind Neighbour (map (load_term c) loads) ∷ []))) fields
    ∙ under-sends c p g kind d loads globals fields k (term (own_env c seg n) key mask) z e
