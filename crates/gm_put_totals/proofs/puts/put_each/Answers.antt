-- One value more is put.
use Rattle.std.proofs.Common.{◌∙◌, ◌++◌, ◌∷◌, [], ap, append_assoc, map, sym, take}
use Rattle.std.proofs.lemmas.List.{map-append, take_more}
use Rattle.std.proofs.lemmas.Option.{get_or_from_slice_get, slice_get_within}
use Rattle.gm_value.specs.declared.values.Value.{Value}
use Rattle.gm_machine.specs.Taking.{Contribution}
use Rattle.gm_put_totals.specs.PutTotals.{single_put}
use Rattle.gm_put_totals.proofs.puts.put_each.Goals as goal

pub loop-i-preserved : goal.loop-i-preserved
loop-i-preserved c =
    let i = c.loop-i.i in
    let vs = c.args.column.now.values in
    let put : Value → Contribution = single_put c.args.place c.args.reduce c.args.slot in
    let more = take_more vs i c.get.result (slice_get_within vs i c.get.result c.get.ensures.value)
    ∙ ap (λ v. take i vs ++ v ∷ []) (get_or_from_slice_get vs i c.get.result c.get.result c.get.ensures.value) in
    c.in_ok-add_one.ensures.added
    ∙ ap (λ l. l ++ put c.get.result ∷ []) c.loop-i.invariant
    ∙ append_assoc c.args.puts.now (map put (take i vs)) (put c.get.result ∷ [])
    ∙ ap (λ l. c.args.puts.now ++ l) (sym (ap (map put) more ∙ map-append put (take i vs) (c.get.result ∷ [])))
