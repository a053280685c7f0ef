-- A worker's mark changes, and nothing else.
use Rattle.std.proofs.Common.{◌≡◌, ◌<◌, ◌∙◌, ℕ, Bool, true, false, length, ap, arith}
use Rattle.std.specs.Prelude.{slice_index_or, slice_set}
use Rattle.std.proofs.lemmas.List.{length-set}
use Rattle.gm_core.specs.Mails.{with_at}
use Rattle.gm_core.specs.Cores.{Core}
use Rattle.gm_core.specs.CoreViews.{core_of}
use Rattle.gm_core.proofs.RowReads.{set-with}
use Rattle.gm_core.proofs.effects.arrive.Goals as goal

pub returns-clause-wide : goal.returns-clause-wide
returns-clause-wide c =
    let round = c.requires.wide.round in
    record {
      bounded = c.requires.wide.bounded;
      fields = c.requires.wide.fields;
      waiting = c.requires.wide.waiting;
      round = record {
        marks = round.marks;
        marked = round.marked;
        unsent = round.unsent;
        incoming = round.incoming;
        arrived = length-set c.args.core.now.round.arrived.items c.args.worker true ∙ round.arrived;
      };
    }

pub returns-clause-core : goal.returns-clause-core
returns-clause-core c =
    let s : Core = core_of c.args.core.now in
    let marks = c.args.core.now.round.arrived.items in
    let within : c.args.worker < length marks = omega (arith, c.requires.wide.round.arrived, c.requires.worker) in
    let same : ◌≡◌ {A = ℕ → Bool} (λ w. slice_index_or (slice_set marks c.args.worker true) w false) (with_at s.arrived c.args.worker true) = λ j w. set-with marks c.args.worker true false within w j in
    ap (λ (a : ℕ → Bool). record s { arrived = a }) same
