use Rattle.std.proofs.Common.{length, set, refl, ◌∙◌}
use Rattle.std.proofs.lemmas.Result.{on_ok_weaker}
use Rattle.gm_posting.proofs.NumberLemmas.{worker-own}
use Rattle.gm_posting.proofs.ClosingLemmas.{closes, is-alone, last-of}
use Rattle.gm_posting.proofs.closing.close_one.Goals as goal

pub drain-requires-clause-alone : goal.drain-requires-clause-alone
drain-requires-clause-alone g c =
    let mine =
    last-of (length c.args.rows.now) c.args.own c.args.own c.args.mailbox.now _ c.pop.new.self.items c.in-Some.zero
    (c.requires.lasts c.args.own c.index-rows-own.result c.requires.own) c.in-Some.ensures.items in
    is-alone (length c.args.rows.now) c.args.own c.in-Some.zero c.join_range.new.zero c.join_range-in-Some.new.zero (set c.args.rows.now c.args.own c.pop.new.self) c.join_range.new.rows c.join_range-in-Some.new.rows
    c.requires.own (mine.1.number ∙ worker-own c.args.own c.args.own refl) (mine.1.splits refl) (mine.1.ended refl) c.join_range.ensures c.join_range-in-Some.ensures

pub returns : goal.returns
returns g c =
    on_ok_weaker c.drain.result
    (λ empties.
    closes c.args.own (length c.args.rows.now) c.args.mailbox.now c.args.rows.now c.join_range.new.rows c.join_range-in-Some.new.rows c.index-rows-own.result c.pop.new.self
    c.in-Some.zero c.join_range.new.zero c.join_range-in-Some.new.zero c.drain.new.zero c.args.late.now.items c.drain.new.late.items c.requires.own refl c.requires.lasts c.in-Some.ensures.items
    c.join_range.ensures c.join_range-in-Some.ensures empties)
    c.drain.ensures
