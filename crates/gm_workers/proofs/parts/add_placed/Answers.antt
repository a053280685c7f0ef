-- Each message goes to the place of its node.
use Rattle.std.proofs.Common.{◌∙◌, ◌++◌, ap, length}
use Rattle.std.proofs.lemmas.List.{length-map}
use Rattle.gm_message_columns.specs.MessageTables.{directed}
use Rattle.gm_workers.specs.Dealings.{place_for}
use Rattle.gm_workers.proofs.DealingLemmas.{directed-placed}
use Rattle.gm_workers.proofs.parts.add_placed.Goals as goal

pub with-requires : goal.with-requires
with-requires c = ap length (c.deref.ensures.value ∙ c.in_ok-places.ensures) ∙ length-map c.args.mail.now.messages (λ m. place_for c.args.dealing.now c.args.worker m.to)

pub returns : goal.returns
returns c =
    c.in_ok-all.ensures
    ∙ ap (λ l. c.args.joining ++ l)
    (ap (λ l. directed l c.args.mail.now.messages) (c.deref.ensures.value ∙ c.in_ok-places.ensures) ∙ directed-placed c.args.dealing.now c.args.worker c.args.mail.now.messages)
