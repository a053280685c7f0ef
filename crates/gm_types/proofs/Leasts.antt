-- The least of violations that are noted one after another.
use Rattle.std.proofs.Common.{◌≡◌, List, [], ◌∷◌, ◌++◌, Option, refl}
use Rattle.gm_base.specs.declared.rules.Refusal.{Refusal}
use Rattle.gm_base.specs.Rules.{lesser, least_from}

-- the least of some violations and of more
pub least_from-append : (best : Option Refusal) (rs qs : List Refusal) → least_from best (rs ++ qs) ≡ least_from (least_from best rs) qs
least_from-append best [] qs = refl
least_from-append best (r ∷ rs) qs = least_from-append (lesser best r) rs qs
