use Rattle.std.proofs.Common.{◌++◌, ap, sym, ◌∙◌}
use Rattle.gm_image.specs.Views.{term}
use Rattle.gm_image_text.specs.Lines.{led}
use Rattle.gm_image_text.specs.Spelling.{term_words}
use Rattle.gm_image_text.proofs.Writing.{writes_none, writes_on, writes_all, led_flat}
use Rattle.gm_image_text.proofs.put_expressions.put_exprs.Goals as goal

pub returns : goal.returns
returns c =
    writes_all (λ e. led (term_words (term e))) c.args.text.now.items c.loop-expr.text.items c.args.exprs.now c.loop-expr.expr-index c.loop-expr.invariant c.loop-expr-test.false
    ∙ ap (λ v. c.args.text.now.items ++ v) (sym (led_flat term term_words c.args.exprs.now))

pub loop-expr-init : goal.loop-expr-init
loop-expr-init c = writes_none (λ e. led (term_words (term e))) c.args.text.now.items c.args.exprs.now

pub loop-expr-preserved : goal.loop-expr-preserved
loop-expr-preserved c =
    writes_on (λ e. led (term_words (term e))) c.args.text.now.items c.loop-expr.text.items c.put_expr.new.text.items c.args.exprs.now c.loop-expr.expr-index c.expr-item.result
    c.loop-expr.invariant c.loop-expr-test.true c.expr-item.is c.in_ok-put_expr.ensures
