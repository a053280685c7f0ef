use Rattle.std.proofs.Common.{◌≡◌, [], ◌∷◌, ◌++◌, codes, refl, ap, sym, ◌∙◌}
use Rattle.gm_image.specs.Views.{term}
use Rattle.gm_image_text.specs.Spelling.{term_words}
use Rattle.gm_image_text.specs.ShapeWords.{two_words}
use Rattle.gm_image_text.proofs.ShapeWords.{words_two}
use Rattle.gm_image_text.proofs.Writing.{after_led, after_two}
use Rattle.gm_image_text.proofs.put_expressions.+put_expr.Goals as goal

pub returns-in_ok-put_expr-in-Two : goal.returns-in_ok-put_expr-in-Two
returns-in_ok-put_expr-in-Two t c =
    let a = term c.in-Two.a.now in
    let b = term c.in-Two.b.now in
    let seen : term_words (term c.args.expr.now) ≡ two_words c.in-Two.op ++ (term_words a ++ term_words b) = ap term_words (sym c.in-Two.ensures.same) ∙ words_two c.in-Two.op a b in
    after_two c.put_expr-in-Two-2.result c.args.text.now.items c.put_two.new.text.items c.put_expr-in-Two.new.text.items c.put_expr-in-Two-2.new.text.items
    (two_words c.in-Two.op) (term_words a) (term_words b) (term_words (term c.args.expr.now)) seen c.in_ok-put_two-in-Two.ensures c.in_ok-put_expr-in-Two.ensures c.put_expr-in-Two-2.ensures

pub returns-in_ok-put_expr-in-Choose-2 : goal.returns-in_ok-put_expr-in-Choose-2
returns-in_ok-put_expr-in-Choose-2 t c =
    let x = term_words (term c.in-Choose.c.now) in
    let a = term_words (term c.in-Choose.a.now) in
    let b = term_words (term c.in-Choose.b.now) in
    let seen : term_words (term c.args.expr.now) ≡ codes "?" ∷ (x ++ (a ++ b)) = ap term_words (sym c.in-Choose.ensures.same) in
    let parts = after_two c.put_expr-in-Choose-3.result c.put_word.new.text.items c.put_expr-in-Choose.new.text.items c.put_expr-in-Choose-2.new.text.items c.put_expr-in-Choose-3.new.text.items
    x a b (x ++ (a ++ b)) refl c.in_ok-put_expr-in-Choose.ensures c.in_ok-put_expr-in-Choose-2.ensures c.put_expr-in-Choose-3.ensures in
    after_led c.put_expr-in-Choose-3.result c.args.text.now.items c.put_word.new.text.items c.put_expr-in-Choose-3.new.text.items (codes "?" ∷ []) (x ++ (a ++ b)) (term_words (term c.args.expr.now)) seen
    c.in_ok-put_word-in-Choose.ensures parts
