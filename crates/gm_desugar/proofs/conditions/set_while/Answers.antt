use Rattle.std.proofs.Common.{◌≡◌, false, sym, ap, ◌∙◌, Some}
use Rattle.gm_ast.specs.Program.{While}
use Rattle.gm_ast.specs.Tree.{expr_of, stmt_of}
use Rattle.gm_forms.specs.Forms.{is_told}
use Rattle.gm_desugar.specs.Conditions.{set_to, asked}
use Rattle.gm_trees.specs.Places.{after, before}
use Rattle.gm_desugar.proofs.InPlace.{while-hoisted}
use Rattle.gm_desugar.proofs.conditions.set_while.Goals as goal

pub returns : goal.returns
returns c at =
    let k = c.args.key in
    let v = c.args.variable in
    let e = expr_of c.args.test.now in
    let s = stmt_of c.args.body.now.value in
    let told : is_told e ≡ false = sym c.is_told.ensures ∙ c.if-is_told.false in
    let set : stmt_of c.set_to.result ≡ set_to v k e = c.set_to.ensures ∙ ap (λ f. set_to v k (expr_of f)) c.replace-condition.ensures.value in
    let asks : expr_of c.replace-condition.new.dest ≡ asked v = ap expr_of c.replace-condition.ensures.after ∙ c.asked.ensures in
    let again : stmt_of c.set_to-set.result ≡ set_to v k e = c.set_to-set.ensures ∙ ap (set_to v k) c.in_ok-again.ensures in
    let turn : stmt_of c.end_turn.new.body.value ≡ before s (Some (set_to v k e)) = c.in_ok-end_turn.ensures ∙ ap (λ b. before s (Some b)) again in
    ap (λ b. after (Some b) (While k at (expr_of c.replace-condition.new.dest) (stmt_of c.end_turn.new.body.value))) set
    ∙ ap (λ f. after (Some (set_to v k e)) (While k at f (stmt_of c.end_turn.new.body.value))) asks
    ∙ ap (λ b. after (Some (set_to v k e)) (While k at (asked v) b)) turn ∙ while-hoisted v k at e s (is_told e) told
