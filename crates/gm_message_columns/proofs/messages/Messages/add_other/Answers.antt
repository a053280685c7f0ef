-- One more message is still a number of messages.
use Rattle.std.proofs.Common.{◌≡◌, ◌<◌, ◌+◌, ◌^◌, ◌∙◌, ◌++◌, [], ap, length, rules, subst, sym, arith}
use Rattle.std.proofs.lemmas.List.{length-append, length_push}
use Rattle.gm_machine.specs.Vertex.{Message}
use Rattle.gm_message_columns.specs.MessageTables.{rows_if_any}
use Rattle.gm_message_columns.proofs.messages.Messages.add_other.Goals as goal

pub invariant_of-self-2 : goal.invariant_of-self-2
invariant_of-self-2 c =
    let d : Message = record { to = 0; kind = 0; values = [] } in
    let rows = rows_if_any c.self.inside.columns in
    let few : length c.args.self.now + 1 < 2 ^ 64 = search (rules, c.has_room.ensures, c.if-not-has_room.ensures) in
    let now : length c.args.self.now ≡ length rows + length c.self.inside.others = ap length (sym c.self.view_is) ∙ length-append rows c.self.inside.others in
    let more : length c.add_to.new.self ≡ length c.self.inside.others + 1 = ap length (c.in_ok-add_to.ensures.added d) ∙ length_push c.self.inside.others _ in
    let all : length c.args.self.now + 1 ≡ length (rows ++ c.add_to.new.self) = omega (arith, now, more, length-append rows c.add_to.new.self) in
    subst (λ n. n < 2 ^ 64) all few
