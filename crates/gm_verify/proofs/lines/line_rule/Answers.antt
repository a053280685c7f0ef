use Rattle.std.proofs.Common.{◌∙◌, true, false, sym, refl}
use Rattle.std.specs.Prelude.{option_map}
use Rattle.gm_image.specs.Views.{program, line}
use Rattle.gm_image.specs.Items.{direction_of}
use Rattle.gm_verify.proofs.LineRules.{line-least}
use Rattle.gm_verify.proofs.lines.line_rule.Goals as goal

pub returns-then-not-line_holds : goal.returns-then-not-line_holds
returns-then-not-line_holds c = λ s site scope puts.
    line-least (program c.args.image.now) s (line c.args.vertex_line.now) c.args.spot.kind (option_map direction_of c.args.scope.now.each) true true true false _ _ site.kind scope.each
    (sym c.if-not-line_keeps_range.ensures) (sym c.in_ok-fits.ensures ∙ c.if-not-fits.false) (sym (c.line_stays.ensures s site scope.left) ∙ c.if-not-line_stays.false)
    (sym c.line_holds.ensures ∙ c.if-not-line_holds.true) refl refl

pub returns-then-not-line_folds : goal.returns-then-not-line_folds
returns-then-not-line_folds c = λ s site scope puts.
    line-least (program c.args.image.now) s (line c.args.vertex_line.now) c.args.spot.kind (option_map direction_of c.args.scope.now.each) true true true true false _ site.kind scope.each
    (sym c.if-not-line_keeps_range.ensures) (sym c.in_ok-fits.ensures ∙ c.if-not-fits.false) (sym (c.line_stays.ensures s site scope.left) ∙ c.if-not-line_stays.false)
    (sym c.line_holds.ensures ∙ c.if-not-line_holds.false) (sym (c.line_folds.ensures s site.kind scope) ∙ c.if-not-line_folds.true) refl

pub returns-then-not-puts_one_way : goal.returns-then-not-puts_one_way
returns-then-not-puts_one_way c = λ s site scope puts.
    line-least (program c.args.image.now) s (line c.args.vertex_line.now) c.args.spot.kind (option_map direction_of c.args.scope.now.each) true true true true true false site.kind scope.each
    (sym c.if-not-line_keeps_range.ensures) (sym c.in_ok-fits.ensures ∙ c.if-not-fits.false) (sym (c.line_stays.ensures s site scope.left) ∙ c.if-not-line_stays.false)
    (sym c.line_holds.ensures ∙ c.if-not-line_holds.false) (sym (c.line_folds.ensures s site.kind scope) ∙ c.if-not-line_folds.false) (sym (c.puts_one_way.ensures s.earlier puts) ∙ c.if-not-puts_one_way.true)

pub returns : goal.returns
returns c = λ s site scope puts.
    line-least (program c.args.image.now) s (line c.args.vertex_line.now) c.args.spot.kind (option_map direction_of c.args.scope.now.each) true true true true true true site.kind scope.each
    (sym c.if-not-line_keeps_range.ensures) (sym c.in_ok-fits.ensures ∙ c.if-not-fits.false) (sym (c.line_stays.ensures s site scope.left) ∙ c.if-not-line_stays.false)
    (sym c.line_holds.ensures ∙ c.if-not-line_holds.false) (sym (c.line_folds.ensures s site.kind scope) ∙ c.if-not-line_folds.false) (sym (c.puts_one_way.ensures s.earlier puts) ∙ c.if-not-puts_one_way.false)
