use Rattle.gm_image.specs.Views.{term}
use Rattle.gm_image_text.specs.Lines.{led}
use Rattle.gm_image_text.specs.Spelling.{term_words}
use Rattle.gm_image_text.proofs.Writing.{IsWriting}
use Rattle.gm_image_text.proofs.put_expressions.put_exprs.Given as goal

abbrev pub invariant-loop-expr : goal.invariant-loop-expr
invariant-loop-expr l = IsWriting (λ e. led (term_words (term e))) l.initial.text.items l.text.items l.exprs l.expr-index
