-- The step of a vertex: its handlers, and then its body.
use Rattle.std.proofs.Common.{◌≡◌, ℕ, Option, Some, List, [], map, length, sym, ap, ◌∙◌}
use Rattle.gm_value.specs.declared.values.VType.{VType}
use Rattle.gm_value.specs.declared.values.Value.{Value}
use Rattle.gm_image.specs.Program.{Program, Block, Handler, Line}
use Rattle.gm_machine.specs.declared.faults.Fault.{Fault}
use Rattle.gm_machine.specs.Taking.{Contribution}
use Rattle.gm_machine.specs.declared.lines.LineEnd.{LineEnd}
use Rattle.gm_machine.specs.declared.lines.LineEnd.TheVariants.{Next, Faulted}
use Rattle.gm_machine.specs.Vertex.{Message, VertexContext, VertexState, After, go_by, folded, body_after, begun, handler_run, gathered, handled, vertex_after}
use Rattle.gm_machine.specs.VertexViews.{after_behind, after_line, after_lines}
use Rattle.gm_machine.proofs.Behind.{folded-behind, body-behind}

module _ (p : Program) (b : Block) (s : VertexContext) (inbox : List Message) (fields : List Value) (ms : List Message) (ps : List Contribution) where
  -- what the handlers come to, by a block's handlers and an image's registers
  abbrev pub handled_by : List Handler → List VType → After
  handled_by handlers types = gathered (begun types fields) (map (handler_run s handlers (begun types fields)) inbox)

  -- the end of the handlers' lines and folds
  handled-end : (places : ℕ) (handlers : List Handler) (types : List VType) → places ≡ length p.places → handlers ≡ b.handlers → types ≡ p.registers →
      (w1 w2 : VertexState) (fault : Option Fault) (end : LineEnd) →
      after_lines w1 fault ≡ after_behind ms ps [] (handled_by handlers types) →
      after_line w2 end ≡ folded places (after_lines w1 fault) →
      after_line w2 end ≡ after_behind ms ps [] (handled (length p.places) p.registers s b.handlers inbox fields)
  handled-end places handlers types places_are handlers_are types_are w1 w2 fault end ran taken =
      taken ∙ ap (folded places) ran
      ∙ folded-behind ms ps places (handled_by handlers types)
      ∙ ap (λ n. after_behind ms ps [] (folded n (handled_by handlers types))) places_are
      ∙ ap (λ hs. after_behind ms ps [] (folded (length p.places) (handled_by hs types))) handlers_are
      ∙ ap (λ ts. after_behind ms ps [] (folded (length p.places) (handled_by b.handlers ts))) types_are

  -- a fault of the handlers is the vertex's
  pub vertex-faulted : (places : ℕ) (handlers : List Handler) (types : List VType) → places ≡ length p.places → handlers ≡ b.handlers → types ≡ p.registers →
      (w1 w2 : VertexState) (fault : Option Fault) (end : LineEnd) (f : Fault) →
      after_lines w1 fault ≡ after_behind ms ps [] (handled_by handlers types) →
      after_line w2 end ≡ folded places (after_lines w1 fault) →
      end ≡ Faulted f →
      after_lines w2 (Some f) ≡ after_behind ms ps [] (vertex_after p b s inbox fields)
  vertex-faulted places handlers types places_are handlers_are types_are w1 w2 fault end f ran taken is =
      let h : After = handled (length p.places) p.registers s b.handlers inbox fields in
      let e : after_lines w2 (Some f) ≡ after_behind ms ps [] h =
      ap (after_line w2) (sym is) ∙ handled-end places handlers types places_are handlers_are types_are w1 w2 fault end ran taken in
      e ∙ ap (λ o. after_behind ms ps [] (go_by o h (λ k w. body_after (length p.places) s b.body 0 w))) (ap (λ a. a.fault) e)

  -- else the body follows
  pub vertex-goes : (places : ℕ) (handlers : List Handler) (types : List VType) (body : List Line) → places ≡ length p.places → handlers ≡ b.handlers → types ≡ p.registers → body ≡ b.body →
      (w1 w2 w3 : VertexState) (fault f : Option Fault) (end : LineEnd) (k : ℕ) →
      after_lines w1 fault ≡ after_behind ms ps [] (handled_by handlers types) →
      after_line w2 end ≡ folded places (after_lines w1 fault) →
      end ≡ Next k →
      after_lines w3 f ≡ body_after places s body 0 w2 →
      after_lines w3 f ≡ after_behind ms ps [] (vertex_after p b s inbox fields)
  vertex-goes places handlers types body places_are handlers_are types_are body_is w1 w2 w3 fault f end k ran taken is went =
      let h : After = handled (length p.places) p.registers s b.handlers inbox fields in
      let e : after_line w2 (Next k) ≡ after_behind ms ps [] h =
      ap (after_line w2) (sym is) ∙ handled-end places handlers types places_are handlers_are types_are w1 w2 fault end ran taken in
      went
      ∙ ap (λ n. body_after n s body 0 w2) places_are
      ∙ ap (λ ls. body_after (length p.places) s ls 0 w2) body_is
      ∙ ap (λ a. body_after (length p.places) s b.body 0 a.state) e
      ∙ body-behind ms ps (length p.places) s b.body 0 h.state
      ∙ ap (λ o. after_behind ms ps [] (go_by o h (λ j w. body_after (length p.places) s b.body 0 w))) (ap (λ a. a.fault) e)
