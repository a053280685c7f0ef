-- A contribution to one slot is put.
use Rattle.std.proofs.Common.{[]}
use Rattle.std.proofs.lemmas.List.Elements.{All-nil, All-push}
use Rattle.gm_store.specs.Held.{HasSlot}
use Rattle.gm_totals.proofs.totals.Totals.give.Goals as goal

pub returns-clause-within : goal.returns-clause-within
returns-clause-within c = λ shape has. c.in_ok-put.ensures.within shape (All-push (HasSlot shape) [] c.args.contribution.slot (All-nil (HasSlot shape)) has)
