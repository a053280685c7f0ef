use Rattle.std.proofs.Common.{◌≡◌, ◌∙◌, ◌+◌, ◌∷◌, ◌++◌, [], List, Ok, drop, get_or, ap, sym, subst}
use Rattle.std.specs.Prelude.{All, IfOk}
use Rattle.std.proofs.lemmas.List.Elements.{All-push}
use Rattle.gm_model.specs.Graphs.{node_count}
use Rattle.gm_ast.specs.declared.tree.Target.{Target}
use Rattle.gm_ast.specs.declared.tree.Target.TheVariants as T
use Rattle.gm_semantics.specs.declared.slots.Slot.{Slot}
use Rattle.gm_semantics.specs.Expressions.{View}
use Rattle.gm_semantics.specs.Iterations.{slot_of, slots_of}
use Rattle.gm_store.specs.Held.{HasSlot}
use Rattle.gm_loops.specs.Bounds.{target_bound, targets_bound}
use Rattle.gm_loops.specs.Scopes.{no_scope}
use Rattle.gm_loops.specs.Sights.{view_of}
use Rattle.gm_loops.specs.Targets.{room}
use Rattle.gm_loops.proofs.Together.{behind, behind-next, bound-at, room-more}
use Rattle.gm_loops.proofs.sights.Sight.slots_of.Goals as goal

-- what stands where there is no target
abbrev none : Target
none = T.Scalar 0 (record { line = 0; col = 0 })

pub loop-target-preserved : goal.loop-target-preserved
loop-target-preserved c =
    let w : View = view_of c.args.self.now no_scope c.args.store.now in
    let ts = c.args.targets.now in
    let i = c.loop-target.target-index in
    let s = c.in-Ok.slot in
    let n = node_count c.args.self.now.setting.now.graph.now in
    let here : HasSlot (room n (target_bound (get_or ts i none))) s = subst (λ r. IfOk r (HasSlot (room n (target_bound (get_or ts i none))))) c.in-Ok.is c.slot_of.ensures.known in
    let known : HasSlot (room n (targets_bound ts)) s = room-more n (target_bound (get_or ts i none)) (targets_bound ts) s (bound-at ts i none c.loop-target-test.true) here in
    subst (λ (l : List Slot). (behind l (slots_of w (drop (i + 1) ts)) ≡ slots_of w ts) × All (HasSlot (room n (targets_bound ts))) l) (sym c.in_ok-push-in-Ok.ensures.items) (
      behind-next w ts i none c.loop-target.slots.items s (slots_of w ts) c.loop-target-test.true (sym c.slot_of.ensures.slot ∙ c.in-Ok.is) c.loop-target.invariant.0,
      All-push (HasSlot (room n (targets_bound ts))) c.loop-target.slots.items s c.loop-target.invariant.1 known,
    )
