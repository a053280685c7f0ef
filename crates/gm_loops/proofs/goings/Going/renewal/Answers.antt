use Rattle.std.proofs.Common.{◌≡◌, ◌∙◌, ℕ, refl, ap, subst, rules}
use Rattle.gm_ast.specs.declared.tree.Target.TheVariants as T
use Rattle.gm_ast.specs.Program.{Stmt, Assign}
use Rattle.gm_ast.specs.Tree.{expr_of}
use Rattle.gm_semantics.specs.Expressions.{View}
use Rattle.gm_semantics.specs.Iterations.{Iteration, Outermost, begun, does, view_in}
use Rattle.gm_loops.specs.declared.sights.Sight.{Sight}
use Rattle.gm_loops.specs.Around.{body_of, loop_of}
use Rattle.gm_loops.specs.Columns.{IsColumn}
use Rattle.gm_loops.specs.declared.around.Mode.TheVariants as modes
use Rattle.gm_loops.specs.Scopes.{no_scope}
use Rattle.gm_loops.specs.Sights.{view_of}
use Rattle.gm_loops.specs.Turns.{seen}
use Rattle.gm_loops.proofs.Effects.{view-same}
use Rattle.gm_loops.proofs.goings.Going.renewal.Goals as goal

pub returns-in-Some-clause-renews : goal.returns-in-Some-clause-renews
returns-in-Some-clause-renews c =
    let a = c.args.around.now in
    let b = c.in-Assignment-default-Property-default in
    let h = c.args.self.now.store in
    let own : b.owner ≡ a.outer = c.if-owner-around.true in
    let body : body_of a.body ≡ Assign b.key (T.Property b.owner b.property b.target-2) (expr_of b.value.now) = search rules in
    let same : body_of a.body ≡ Assign b.key (T.Property a.outer b.property b.target-2) (expr_of b.value.now) =
    body ∙ ap (λ (x : ℕ). let s : Stmt = Assign b.key (T.Property x b.property b.target-2) (expr_of b.value.now) in s) own in
    let column : IsColumn (expr_of b.value.now) (view_of c.sight-sight.result no_scope h) b.owner c.in-Some.cells = search rules in
    let start : Iteration = begun (seen a.setting.now c.args.self.now) in
    let sees : view_of c.sight-sight.result no_scope h ≡ view_in (loop_of a) Outermost start b.key =
    ap (λ (s : Sight). view_of s no_scope h) c.sight-sight.ensures ∙ view-same a modes.Outermost b.key h start refl in
    record {
      passes = c.if-passes_all.ensures refl;
      all = c.if-are_all.ensures refl;
      key = b.key;
      at = b.target-2;
      value = expr_of b.value.now;
      assigns = λ it e. ap (λ (s : Stmt). does s Outermost (loop_of a) it) same;
      column = subst (λ (x : ℕ). IsColumn (expr_of b.value.now) (view_in (loop_of a) Outermost start b.key) x c.in-Some.cells) own
          (subst (λ (w : View). IsColumn (expr_of b.value.now) w b.owner c.in-Some.cells) sees column);
    }
