-- One more node.
use Rattle.std.proofs.Common.{◌≡◌, ◌∙◌, ◌++◌, ◌∷◌, [], ℕ, List, Vec, Global, length, map, sym, ap, arith}
use Rattle.std.proofs.lemmas.List.{map-append}
use Rattle.gm_value.specs.declared.values.Value.{Value}
use Rattle.gm_machine.proofs.BagLemmas.{map-push}
use Rattle.gm_core.specs.Cores.{below}
use Rattle.gm_workers.specs.Crews.{fields_at}
use Rattle.gm_workers.proofs.DealingLemmas.{below-more}
use Rattle.gm_workers.proofs.RunLemmas.{crew-slot}
use Rattle.gm_workers.proofs.runs.all_fields.Goals as goal

pub fields_at-requires : goal.fields_at-requires
fields_at-requires c = crew-slot c.args.nodes (length c.args.crew.now.slots.items) c.args.crew.now.dealing c.args.crew.now.slots.items c.loop-node.node c.requires c.loop-node-test.true

pub loop-node-preserved : goal.loop-node-preserved
loop-node-preserved c =
    let f : ℕ → List Value = fields_at c.args.crew.now.dealing.owners.items c.args.crew.now.slots.items in
    let items : Vec Value Global → List Value = λ row. row.items in
    let n : ℕ = c.loop-node.node in
    ap (map items) c.in_ok-push.ensures.items
    ∙ map-push items c.loop-node.fields.items c.in_ok-one.one
    ∙ ap (λ (l : List (List Value)). l ++ items c.in_ok-one.one ∷ []) c.loop-node.invariant
    ∙ ap (λ (r : List Value). map f (below n) ++ r ∷ []) c.in_ok-one.ensures
    ∙ sym (ap (map f) (below-more n) ∙ map-append f (below n) (n ∷ []))

pub returns : goal.returns
returns c =
    let all : c.loop-node.node ≡ c.args.nodes = omega (arith, c.loop-node-test.false, c.loop-node.auto.node-end) in
    c.loop-node.invariant ∙ ap (λ n. map (fields_at c.args.crew.now.dealing.owners.items c.args.crew.now.slots.items) (below n)) all
