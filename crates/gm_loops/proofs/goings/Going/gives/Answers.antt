use Rattle.std.proofs.Common.{◌≡◌, ◌∙◌, ◌∷◌, [], List, Ok, Result, ap, sym, subst}
use Rattle.gm_value.specs.declared.values.Value.{Value}
use Rattle.gm_ast.specs.Program as P
use Rattle.gm_ast.specs.Tree.{expr_of}
use Rattle.gm_semantics.specs.declared.faults.Fault.{Fault}
use Rattle.gm_semantics.specs.declared.slots.Slot.{Slot}
use Rattle.gm_semantics.specs.Expressions.{View, evaluated}
use Rattle.gm_semantics.specs.Iterations as I
use Rattle.gm_semantics.specs.Iterations.{Iteration, alone, assigned, begun, contribution, ends_of, gave_outermost, reduced, view_in, with_ok}
use Rattle.gm_semantics.proofs.SingleLaws.{assigned-alone}
use Rattle.gm_store.specs.Held.{store_of}
use Rattle.gm_totals.specs.declared.contributions.Contribution.{Contribution}
use Rattle.gm_totals.specs.Given.{single}
use Rattle.gm_loops.specs.declared.sights.Sight.{Sight}
use Rattle.gm_loops.specs.Around.{ends_as, loop_of, mode_in}
use Rattle.gm_loops.specs.Scopes.{inside}
use Rattle.gm_loops.specs.Sights.{edges_in, view_of}
use Rattle.gm_loops.proofs.Effects.{view-inside}
use Rattle.gm_loops.proofs.goings.Going.gives.Goals as goal

pub returns-in-WithOutermost-clause-does : goal.returns-in-WithOutermost-clause-does
returns-in-WithOutermost-clause-does c =
    let a = c.args.around.now in
    let m : I.Mode = mode_in a c.args.mode in
    let total = c.args.total in
    let op = c.args.reduce in
    let target = c.args.target.now in
    let e : P.Expr = expr_of c.args.value.now in
    let store = c.args.self.now.store in
    let scope = c.args.scope.now in
    let write = c.in_ok-write.write in
    let it : Iteration = begun (inside scope (store_of (edges_in a.setting.now) store)) in
    let w : View = view_in (loop_of a) m it c.args.key in
    let ends : ends_of m (loop_of a) target ≡ I.WithOutermost = sym c.ends_of.ensures ∙ ap ends_as c.in-WithOutermost.is in
    let sees : view_of c.sight.result scope store ≡ w =
    ap (λ (s : Sight). view_of s scope store) c.sight.ensures ∙ view-inside a c.args.mode c.args.key scope store in
    let pair : assigned w target (evaluated e w) ≡ Ok (write.slot, write.value) =
    subst (λ (v : View). assigned v target (evaluated e v) ≡ Ok (write.slot, write.value)) sees c.in_ok-write.ensures.pair in
    ap (λ (k : I.Ends). reduced k w it total op (target ∷ []) (e ∷ [])) ends
    ∙ ap (λ (r : Result (List Slot × List Value) Fault). with_ok it r (λ p. gave_outermost it (contribution total op p))) (assigned-alone w target e ∙ ap alone pair)
    ∙ ap (λ (k : Contribution). gave_outermost it (single k)) (sym c.contribution.ensures)
