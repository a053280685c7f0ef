-- Message loops whose receivers send go in the master list.
use Rattle.std.proofs.Common.{◌≡◌, ◌⊎◌, inl, inr, ℕ, suc, true, false, Some, None, Result, Err, List, [], ◌∷◌, ◌++◌, length, refl, ap, ◌∙◌, sym, subst, ⊎_elim}
use Rattle.std.specs.Prelude.{if◌then◌else◌}
use Rattle.std.proofs.lemmas.Bool.{both_ways}
use Rattle.gm_base.specs.declared.places.Place.{Place}
use Rattle.gm_value.specs.declared.values.Value.{Value}
use Rattle.gm_value.specs.Bag.{IsIn}
use Rattle.gm_model.specs.Graphs.{NumberedGraph}
use Rattle.gm_ast.specs.declared.tree.Head.{Head}
use Rattle.gm_ast.specs.declared.tree.Key.{Key}
use Rattle.gm_ast.specs.Program as S
use Rattle.gm_ast.specs.Program.{Expr, Stmt}
use Rattle.gm_semantics.specs.declared.faults.Fault.{Fault}
use Rattle.gm_semantics.specs.Iterations.{Loop}
use Rattle.gm_semantics.specs.Levels.{nodes}
use Rattle.gm_semantics.specs.Loops.{parallel}
use Rattle.gm_semantics.specs.Statements.{State}
use Rattle.gm_semantics.specs.Stores.{Store}
use Rattle.gm_image.specs.Program.{Block}
use Rattle.gm_machine.specs.Machine.{Nodes, superstep, step_ends}
use Rattle.gm_lowering.specs.Layouts.{Layout}
use Rattle.gm_lowering.specs.Places.{Spot, Segment, segment, shown_places, spots_in, spot_lt, spot_of_total}
use Rattle.gm_lowering.specs.Terms.{Env}
use Rattle.gm_lowering.specs.Plans.{carried, Load, Away, aways}
use Rattle.gm_lowering.specs.Blocks.{loop, each_loop, message_loop, taking_blocks, receiver_env}
use Rattle.gm_lowering.specs.Showing.{fault_of}
use Rattle.gm_lowering.specs.OwnLoops.{are_any}
use Rattle.gm_lowering.specs.Phases.{StepIs}
use Rattle.gm_lowering.specs.Settles.{HasSpot, spot_of_fault}
use Rattle.gm_lowering.specs.Sends.{send_block}
use Rattle.gm_lowering.specs.Receiving.{receive_block, inner_spots}
use Rattle.gm_lowering.specs.TakingSteps.{taking_block}
use Rattle.gm_lowering.specs.TwoSupersteps.{HasSender}
use Rattle.gm_lowering.specs.ReceiverSends.{IsSendingMessageLoop}
use Rattle.gm_lowering.specs.ReceiverSendLoops.{ThreeStepsAre}
use Rattle.gm_lowering.specs.Lowered as L
use Rattle.gm_lowering.proofs.ReceiverSendLoops.{sending-message-loops, message-loops-by-spots}
use Rattle.gm_lowering_master.specs.Runs.{StandsAt}
use Rattle.gm_lowering_master.specs.Cells.{Setting, IsSetting, Between}
use Rattle.gm_forms.specs.Cut.{can_overflow}
use Rattle.gm_lowering_master.specs.Follows.{StepsAre, LoopGoes}
use Rattle.gm_lowering_master.specs.Going.{phase_loop, GiveApart, HasBodySpares, IsReceiverSending, ReceiversSendBehind, ReceiversTotalsLast, ReceiverSendingLoopsGo}
use Rattle.gm_lowering_master.proofs.Going.{have-room, globals-apart, are-typed-turns, fault-shown, step-is, depth-is, type-is, edges-stay, rest_of, GoesAs, steps-inside}
use Rattle.gm_lowering_master.proofs.OwnLast.{taken-behind}
use Rattle.gm_lowering_master.proofs.Standing.{get-is-index_or}

module _ (s : Setting) (at : L.At) (k : Key) (place : Place) (outer : Head) (mask : Expr) (j : Key) (inner_place : Place) (h : Head) (out : List (ℕ × ℕ)) (test : Expr) (body : Stmt) (is' : IsSetting s)
    (m : IsReceiverSending s.frame.layout outer.iterator k mask j h out test body) (spares : HasBodySpares s body) (apart : GiveApart s k place outer mask (S.Foreach j inner_place h test body))
    (behind : ReceiversSendBehind s k place outer mask j inner_place h out test body) where
  abbrev c : Layout
  c = s.frame.layout

  abbrev n : ℕ
  n = outer.iterator

  abbrev inner : Stmt
  inner = S.Foreach j inner_place h test body

  abbrev loops : Loop
  loops = phase_loop s n inner

  abbrev g : NumberedGraph
  g = s.run.graph

  abbrev loads : List Load
  loads = carried n test body

  abbrev spots : List Spot
  spots = spots_in mask k ++ inner_spots c n h.iterator j test body

  abbrev seg : Segment
  seg = segment at.place spots

  abbrev v : Env
  v = receiver_env c seg n h.iterator loads

  abbrev sends : List Away
  sends = aways c.declarations h.iterator body

  abbrev send : Block
  send = send_block c seg n k mask h.domain at.kind loads

  abbrev receive : Block
  receive = receive_block c seg n h.iterator loads at.kind j test body

  abbrev take : Block
  take = taking_block c seg (suc at.kind) sends

  abbrev meant : State → Result Store Fault
  meant state = parallel loops k mask inner (nodes g) state.store

  able : IsSendingMessageLoop c s.image.registers (length s.image.fields) loops h.iterator loads out test body
  able = record {
    apart = is'.rows;
    outer = m.nested.outer;
    inner = m.nested.inner;
    two = m.nested.two;
    types = type-is s is';
    depths = depth-is s is';
    found = m.found;
    fits = m.fits;
    told = m.told;
    spares = spares;
  }

  one-taking : (xs : List Away) → are_any xs ≡ true → taking_blocks c seg (suc at.kind) xs ≡ taking_block c seg (suc at.kind) xs ∷ []
  one-taking [] o = absurd (both_ways false refl o)
  one-taking (x ∷ xs) o = refl

  lowered-is : loop c at.place at.kind n k mask inner ≡ record { blocks = send ∷ (receive ∷ (take ∷ [])); segment = seg }
  lowered-is =
      ap (λ b. if b then each_loop c at.place at.kind n k mask j h test body else message_loop c at.place at.kind n k mask j h test body) m.away
      ∙ ap (λ bs. record { blocks = send ∷ (receive ∷ bs); segment = seg }) (one-taking sends m.sends)

  -- the three supersteps end as the loop does
  three-are : (globals : List Value) (held : Nodes) (state : State) → StandsAt s.image.places at.place (shown_places seg) → Between s globals held state.store
      → let first = superstep s.image g at.block globals held in
      let second = superstep s.image g (suc at.block) first.globals first.nodes in
      let third = superstep s.image g (suc (suc at.block)) second.globals second.nodes in
      ThreeStepsAre c v spots s.image.registers (length s.image.fields) g globals (meant state) first second third
      → StepsAre s globals (meant state) (step_ends first.fault (λ f. first) (step_ends second.fault (λ f. second) (step_ends third.fault (λ f. third) (rest_of third))))
  three-are globals held state places between law =
      let first = superstep s.image g at.block globals held in
      let second = superstep s.image g (suc at.block) first.globals first.nodes in
      let third = superstep s.image g (suc (suc at.block)) second.globals second.nodes in
      let last = step_ends third.fault (λ f. third) (rest_of third) in
      subst (λ o. StepsAre s globals (meant state) (step_ends o (λ f. first) (step_ends second.fault (λ f. second) last))) (sym law.0)
      (⊎_elim
      (λ (o : (second.fault ≡ None) × StepIs c v spots s.image.registers (length s.image.fields) g globals (meant state) third).
      subst (λ z. StepsAre s globals (meant state) (step_ends z (λ f. second) last)) (sym o.0)
      (step-is s v at.place spots refl places m.shows globals (meant state) third between.count (λ r e. edges-stay s is' loops k mask inner (nodes g) globals held state.store r between e) o.1))
      (λ (o : (f : Fault) × (meant state ≡ Err f) × (second.fault ≡ Some (fault_of v f)) × HasSpot (spot_of_fault f) spots).
      subst (λ a. StepsAre s globals a (step_ends second.fault (λ f. second) last)) (sym o.1)
      (subst (λ z. StepsAre s globals (Err o.0) (step_ends z (λ f. second) last)) (sym o.2)
      (fault_of v o.0, o.2, fault-shown s v at.place spots refl places m.shows o.0 o.3)))
      law.2)

  sender : HasSender c loops k mask h loads
  sender = record { neighbours = m.nested.neighbours; owner = m.nested.owner; found = m.masked; quiet = m.quiet; readable = m.readable }

  -- none of the loop's spots comes behind the totals of Sums and Products that are sent
  abbrev pub NoneBehind : Type 0
  NoneBehind = (a : Away) → IsIn a sends → can_overflow a.reduce ≡ true → (z : Spot) → IsIn z spots → spot_lt (spot_of_total a.total) z ≡ false

  receiver-sending-goes : ReceiversTotalsLast s k place outer mask j inner_place h out test body ⊎ NoneBehind → LoopGoes s at k place outer mask inner
  receiver-sending-goes last =
      subst (λ l. GoesAs s at l k place outer mask inner) (sym lowered-is) (λ blocks places globals held its state between point.
      let around = h.iterator ∷ (outer.iterator ∷ its) in
      let typed = are-typed-turns s is' its k place outer mask j inner_place h test body state point in
      let globals_are = globals-apart s is' globals between.count in
      let room = have-room s.image.places at.place spots places in
      let one = get-is-index_or s.image.blocks at.block send _ blocks.0 in
      let two = get-is-index_or s.image.blocks (suc at.block) receive _ blocks.1.0 in
      let three = get-is-index_or s.image.blocks (suc (suc at.block)) take _ blocks.1.1.0 in
      let steps = steps-inside g h.domain is'.graph in
      three-are globals held state places between
      (⊎_elim
      (λ (l : ReceiversTotalsLast s k place outer mask j inner_place h out test body).
      sending-message-loops c s.image (length s.image.fields) at.place at.block (suc at.block) (suc (suc at.block)) at.kind spots loops k mask j inner_place h test body loads out globals held state.store s.table around s.result
      sender able typed is'.limit globals_are refl room one two three m.taken between.shown between.edges point.in_graph steps (apart its state point) (behind its state point) (l its state point))
      (λ (l : NoneBehind).
      message-loops-by-spots c s.image (length s.image.fields) at.place at.block (suc at.block) (suc (suc at.block)) at.kind spots loops k mask j inner_place h test body loads out globals held state.store s.table around s.result
      sender able typed is'.limit globals_are refl room one two three m.taken between.shown between.edges point.in_graph steps (apart its state point) (behind its state point)
      (taken-behind s is' its k place outer mask inner state point (suc at.kind) sends spots m.shows (apart its state point) (λ a w. ((m.taken a w).spotted, l a w))))
      last))

pub receiver-sending-loops-go : ReceiverSendingLoopsGo
receiver-sending-loops-go s at k place outer mask j inner_place h out test body is' m spares apart behind last =
    receiver-sending-goes s at k place outer mask j inner_place h out test body is' m spares apart behind (inl last)

pub last-receiver-sending-loops-go : (s : Setting) (at : L.At) (k : Key) (place : Place) (outer : Head) (mask : Expr) (j : Key) (inner_place : Place) (h : Head) (out : List (ℕ × ℕ)) (test : Expr) (body : Stmt)
    → IsSetting s → IsReceiverSending s.frame.layout outer.iterator k mask j h out test body → HasBodySpares s body → GiveApart s k place outer mask (S.Foreach j inner_place h test body)
    → ReceiversSendBehind s k place outer mask j inner_place h out test body
    → ((a : Away) → IsIn a (aways s.frame.layout.declarations h.iterator body) → can_overflow a.reduce ≡ true → (z : Spot) → IsIn z (spots_in mask k ++ inner_spots s.frame.layout outer.iterator h.iterator j test body) → spot_lt (spot_of_total a.total) z ≡ false)
    → LoopGoes s at k place outer mask (S.Foreach j inner_place h test body)
last-receiver-sending-loops-go s at k place outer mask j inner_place h out test body is' m spares apart behind last =
    receiver-sending-goes s at k place outer mask j inner_place h out test body is' m spares apart behind (inr last)
