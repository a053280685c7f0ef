use Rattle.std.proofs.Common.{List, [], ◌∷◌, ◌++◌, map, length, ap, sym, ◌∙◌}
use Rattle.std.specs.Fmt.{decimal}
use Rattle.std.specs.List.{flat_map}
use Rattle.std.proofs.lemmas.List.{length-map}
use Rattle.std.proofs.lemmas.List.Folds.{flat_map-map}
use Rattle.gm_image.specs.declared.lines.VertexLine.{VertexLine}
use Rattle.gm_image.specs.Views.{line}
use Rattle.gm_image_text.specs.Lines.{led, text_of}
use Rattle.gm_image_text.specs.Spelling.{one_line, vertex_words}
use Rattle.gm_image_text.proofs.Writing.{on_lines}
use Rattle.gm_image_text.proofs.writes.HandlerSpelled.write.Goals as goal

pub returns : goal.returns
returns c =
    let lines = c.args.self.now.lines in
    on_lines c.args.text.now.items c.put.new.text.items c.put_number.new.text.items c.put_number-2.new.text.items c.put-2.new.text.items c.put_all.new.text.items (decimal c.args.self.now.kind) (decimal (length (map line lines))) (flat_map (one_line vertex_words) (map line lines))
    c.in_ok-put.ensures c.in_ok-put_number.ensures
    (c.in_ok-put_number-2.ensures ∙ ap (λ n. c.put_number.new.text.items ++ led (decimal n ∷ [])) (c.len.ensures ∙ sym (length-map lines line)))
    c.in_ok-put-2.ensures
    (c.in_ok-put_all.ensures ∙ ap (λ (ls : List VertexLine). c.put-2.new.text.items ++ text_of (flat_map (λ l. one_line vertex_words (line l)) ls)) c.as_slice.ensures
    ∙ ap (λ v. c.put-2.new.text.items ++ text_of v) (sym (flat_map-map (one_line vertex_words) line lines)))
