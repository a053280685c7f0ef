use Rattle.gm_store.specs.Held.{store_of}
use Rattle.gm_loops.specs.Scopes.{inside, no_scope}
use Rattle.gm_loops.specs.Sights.{edges_in}
use Rattle.gm_loops.proofs.Effects.{inside-none}
use Rattle.gm_meaning.proofs.Going.{seen-same}
use Rattle.gm_meaning.proofs.phases.sight.Goals as goal

pub returns-clause-seen : goal.returns-clause-seen
returns-clause-seen c = λ h turns.
    let f = c.args.setting.now in
    seen-same f c.args.key h (inside no_scope (store_of (edges_in f) h)) (inside-none (store_of (edges_in f) h))
