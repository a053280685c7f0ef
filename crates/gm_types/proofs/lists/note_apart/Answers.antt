use Rattle.std.proofs.Common.{◌≡◌, List, subst}
use Rattle.std.specs.Prelude.{OnOk}
use Rattle.gm_base.specs.Rules.{least_from}
use Rattle.gm_base.specs.declared.rules.Refusal.{Refusal}
use Rattle.gm_types.proofs.OwnNames.{from-first}
use Rattle.gm_types.proofs.lists.note_apart.Goals as goal

pub returns-in-len1-up : goal.returns-in-len1-up
returns-in-len1-up c =
    subst (λ (rs : List Refusal). OnOk c.note_each.result (c.note_each.new.least ≡ least_from c.args.least.now rs))
    (from-first c.args.targets.now c.first-item.result c.in-len1-up.len_at_least c.first-item.is) c.note_each.ensures
