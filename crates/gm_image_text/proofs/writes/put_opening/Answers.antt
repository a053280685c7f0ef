use Rattle.std.proofs.Common.{List, ℕ, [], ◌∷◌, ◌++◌, map, ap, ◌∙◌}
use Rattle.std.specs.Prelude.{codes}
use Rattle.gm_image.specs.Views.{input, output}
use Rattle.gm_image_text.specs.declared.heads.Version.TheVariants as version
use Rattle.gm_image_text.specs.Lines.{led, spaced}
use Rattle.gm_image_text.specs.Spelling.{version_words, listed, one_line, item_words, result_words}
use Rattle.gm_image_text.proofs.Writing.{two_texts, text_seen, line_text, named_line}
use Rattle.gm_image_text.proofs.writes.put_opening.Goals as goal

pub returns : goal.returns
returns c =
    let i = c.args.image.now in
    let t0 = c.args.text.now.items in
    let t1 = c.put.new.text.items in
    let t2 = c.put-2.new.text.items in
    let t3 = c.put_word.new.text.items in
    let t7 = c.put-3.new.text.items in
    let t4 = c.put_listed.new.text.items in
    let t5 = c.put_listed-2.new.text.items in
    let t6 = c.put_result.new.text.items in
    let inputs = listed (codes "inputs") (one_line item_words) (map input i.inputs) in
    let outputs = listed (codes "outputs") (one_line item_words) (map output i.outputs) in
    let result = spaced (result_words i.result) in
    let first = spaced (version_words version.Two) in
    let named = spaced (codes "name" ∷ i.name ∷ []) in
    two_texts t0 t1 t6 (first ∷ []) (named ∷ (inputs ++ (outputs ++ result ∷ []))) (line_text t0 t1 first c.in_ok-put.ensures)
    (two_texts t1 t7 t6 (named ∷ []) (inputs ++ (outputs ++ result ∷ []))
    (line_text t1 t7 named (named_line t1 t2 t3 t7 (codes "name") i.name c.in_ok-put-2.ensures (c.in_ok-put_word.ensures ∙ ap (λ (name : List ℕ). t2 ++ led (name ∷ [])) c.as_slice.ensures) c.in_ok-put-3.ensures))
    (two_texts t7 t4 t6 inputs (outputs ++ result ∷ []) (text_seen (codes "inputs") input (one_line item_words) i.inputs t7 t4 c.in_ok-put_listed.ensures)
    (two_texts t4 t5 t6 outputs (result ∷ []) (text_seen (codes "outputs") output (one_line item_words) i.outputs t4 t5 c.in_ok-put_listed-2.ensures) (line_text t5 t6 result c.in_ok-put_result.ensures))))
