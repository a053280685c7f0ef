use Rattle.std.proofs.Common.{◌≡◌, ◌∙◌, ◌++◌, length, map, take, ap, sym}
use Rattle.std.proofs.lemmas.List.{length-map, take-map}
use Rattle.gm_listing.specs.Listing.{table}
use Rattle.gm_listing.proofs.tables.put_node_table.Goals as goal

pub returns : goal.returns
returns c =
    let names : map (λ name. name.now) c.first_names.result.now ≡ take (length c.args.properties.now) (map (λ name. name.now) c.args.names.now) =
    ap (map (λ name. name.now)) c.first_names.ensures ∙ sym (take-map (λ name. name.now) (length c.args.properties.now) c.args.names.now) in
    let properties : c.first_properties.result.now ≡ take (length (map (λ name. name.now) c.args.names.now)) c.args.properties.now =
    c.first_properties.ensures ∙ ap (λ n. take n c.args.properties.now) (sym (length-map c.args.names.now (λ name. name.now))) in
    c.in_ok-put_table.ensures ∙ (λ j. c.args.text.now.items ++ table c.args.graph.now.numbers (names j) (properties j))
