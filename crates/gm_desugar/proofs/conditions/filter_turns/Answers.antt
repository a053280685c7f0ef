use Rattle.std.proofs.Common.{◌≡◌, false, sym, ap, ◌∙◌}
use Rattle.gm_ast.specs.Program.{always, For, Skip}
use Rattle.gm_ast.specs.Tree.{expr_of, stmt_of}
use Rattle.gm_forms.specs.Forms.{is_told}
use Rattle.gm_desugar.specs.Conditions.{if_hoisted}
use Rattle.gm_desugar.proofs.InPlace.{for-hoisted}
use Rattle.gm_desugar.proofs.Trees.{expr_of-Const}
use Rattle.gm_desugar.proofs.conditions.filter_turns.Goals as goal

pub returns : goal.returns
returns c at h =
    let k = c.args.key in
    let v = c.args.variable in
    let e = expr_of c.args.filter.now in
    let s = stmt_of c.args.body.now.value in
    let told : is_told e ≡ false = sym c.is_told.ensures ∙ c.if-is_told.false in
    let passes : expr_of c.replace-condition.new.dest ≡ always = ap expr_of c.replace-condition.ensures.after ∙ expr_of-Const _ in
    let every : stmt_of c.taken-every.result ≡ s = ap stmt_of (c.taken-every.ensures ∙ c.deref_mut.ensures.value) in
    let turn : stmt_of c.put.new.s ≡ if_hoisted false v k e s Skip =
    ap stmt_of c.put.ensures ∙ c.in_ok-turn.ensures ∙ ap (λ f. if_hoisted false v k (expr_of f) (stmt_of c.taken-every.result) Skip) c.replace-condition.ensures.value ∙ ap (λ b. if_hoisted false v k e b Skip) every in
    ap (λ f. For k at h f (stmt_of c.put.new.s)) passes ∙ ap (λ b. For k at h always b) turn ∙ for-hoisted v k at h e s (is_told e) told
