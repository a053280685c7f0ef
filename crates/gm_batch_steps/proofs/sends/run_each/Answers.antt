use Rattle.std.proofs.Common.{◌≡◌, length, map, refl, subst}
use Rattle.std.proofs.lemmas.List.{length-map}
use Rattle.gm_image.specs.Views.{line}
use Rattle.gm_message_columns.specs.MessageTables.{rows_if_any}
use Rattle.gm_batch_steps.specs.declared.turns.Turns.{Turns}
use Rattle.gm_batch_steps.specs.Turns.{TurnsSend, turns_in, turns_of}
use Rattle.gm_batch_steps.proofs.TurnLaws.{each-runs}
use Rattle.gm_batch_steps.proofs.TurnLists.{some-is}
use Rattle.gm_batch_steps.proofs.sends.run_each.Goals as goal

pub returns-clause-runs : goal.returns-clause-runs
returns-clause-runs c done =
    let places = c.args.context.now.places in
    let context = c.args.context.now in
    let state = c.args.state.now in
    let lines = c.args.lines.now in
    let are : turns_in context c.in-Some.turns ≡ turns_of context c.args.chosen.rows.now =
    some-is (λ (turns : Turns). turns_in context turns ≡ turns_of context c.args.chosen.rows.now) c.in_ok-turns.field-0 c.in-Some.turns c.in-Some.is c.in_ok-turns.ensures.turns in
    each-runs places (length lines) (map line lines) context c.args.chosen.rows.now state _ (rows_if_any c.in-Some-2.sent) (length-map lines line)
    (subst (λ turns. TurnsSend (map line lines) context state turns (rows_if_any c.in-Some-2.sent)) are
    (some-is (λ sent. TurnsSend (map line lines) context state (turns_in context c.in-Some.turns) (rows_if_any sent)) c.in_ok-sent.field-0 c.in-Some-2.sent c.in-Some-2.is c.in_ok-sent.ensures))
    (c.sent_nothing.ensures c.if-not-sent_nothing.false) refl refl refl refl
