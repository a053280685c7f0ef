use Rattle.std.proofs.Common.{◌≡◌, ◌∙◌, ◌∷◌, [], List, arith, length, map, subst, sym}
use Rattle.std.proofs.lemmas.Bool.{eqb-true}
use Rattle.std.proofs.lemmas.List.{length-map, nil_from_length}
use Rattle.gm_image.specs.declared.lines.VertexLine.{VertexLine}
use Rattle.gm_image.specs.Program.{Skip}
use Rattle.gm_image.specs.Views.{line, term}
use Rattle.gm_message_columns.specs.MessageTables.{MessageTable, message_rows, rows_if_any}
use Rattle.gm_batches.proofs.ColumnLaws.{if_found}
use Rattle.gm_batch_steps.specs.Turns.{ArePartedTurns, TurnsSend, edges_at, turn_list, turns_in}
use Rattle.gm_batch_steps.proofs.TurnLaws.{no-turns, skip-turns}
use Rattle.gm_batch_steps.proofs.TurnLists.{some-is}
use Rattle.gm_batch_steps.proofs.sends.+run_turns.Goals as goal

pub run_some-returns : goal.run_some-returns
run_some-returns t c =
    let context = c.args.context.now in
    let state = c.args.state.now in
    let a = term c.args.a.now in
    let lines = c.args.lines.now in
    let parted : ArePartedTurns a context state (turns_in context c.args.turns.now) (turns_in context c.in-Some.some) =
    some-is (λ some. ArePartedTurns a context state (turns_in context c.args.turns.now) (turns_in context some)) c.in_ok-some.field-0 c.in-Some.some c.in-Some.is c.in_ok-some.ensures.parted in
    if_found c.run_turns.result
    (λ sent run. skip-turns (length lines) a (map line lines) context state (turns_in context c.args.turns.now) (turns_in context c.in-Some.some) (rows_if_any sent)
    (omega (arith, length-map lines line)) parted run)
    c.run_turns.ensures

pub run_turns-returns-then-are_none : goal.run_turns-returns-then-are_none
run_turns-returns-then-are_none t c =
    let context = c.args.context.now in
    let turns = c.args.turns.now in
    subst (λ ks. TurnsSend (map line c.args.lines.now) context c.args.state.now (turn_list turns.rows.items ks turns.targets.items (edges_at context.graph.now turns.edges.items)) [])
    (sym (c.are_none.ensures c.if-are_none.true)) (no-turns (map line c.args.lines.now) context c.args.state.now)

pub run_turns-returns-in-Skip : goal.run_turns-returns-in-Skip
run_turns-returns-in-Skip t c =
    let context = c.args.context.now in
    let state = c.args.state.now in
    let turns = turns_in context c.args.turns.now in
    let rest = c.in-Some.rest.now in
    let a = term c.in-Skip.a in
    if_found c.run_some.result
    (λ sent run. subst (λ (ls : List VertexLine). TurnsSend (map line ls) context state turns (rows_if_any sent)) (sym c.in-Some.ensures.cases.0)
    (subst (λ l. TurnsSend (line l ∷ map line rest) context state turns (rows_if_any sent)) (sym c.in-Skip.is)
    (subst (λ k. TurnsSend (Skip k a ∷ map line rest) context state turns (rows_if_any sent)) (sym c.if-n-rest.false) run)))
    c.run_some.ensures

pub run_turns-returns : goal.run_turns-returns
run_turns-returns t c =
    let context = c.args.context.now in
    let state = c.args.state.now in
    let turns = turns_in context c.args.turns.now in
    let first = c.in-Some.first.now in
    let none : c.in-Some.rest.now ≡ [] = nil_from_length c.in-Some.rest.now (eqb-true (length c.in-Some.rest.now) 0 (sym c.is_empty.ensures ∙ c.if-not-is_empty.false)) in
    subst (λ (ls : List VertexLine). TurnsSend (map line ls) context state turns (message_rows c.in-Some-2.sent)) (sym c.in-Some.ensures.cases.0)
    (subst (λ (ls : List VertexLine). TurnsSend (line first ∷ map line ls) context state turns (message_rows c.in-Some-2.sent)) (sym none)
    (some-is (λ (sent : MessageTable). TurnsSend (line first ∷ []) context state turns (message_rows sent)) c.in_ok-sent.field-0 c.in-Some-2.sent c.in-Some-2.is c.in_ok-sent.ensures))
