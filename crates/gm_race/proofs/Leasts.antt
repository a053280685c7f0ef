-- The least of violations that are noted one after another.
use Rattle.std.proofs.Common.{◌≡◌, ℕ, ◌+◌, ◌<◌, Bool, true, false, List, [], ◌∷◌, ◌++◌, Option, Some, None, map, flat_map, drop, length, get_or, refl, ap, sym, ◌∙◌}
use Rattle.std.specs.Prelude.{if◌then◌else◌}
use Rattle.gm_base.specs.declared.rules.Refusal.{Refusal}
use Rattle.gm_base.specs.Rules.{refusal_lt, lesser, least_from, least}
use Rattle.gm_ast.specs.declared.accesses.Access.{Access}
use Rattle.gm_ast.specs.declared.tree.Declaration.{Declaration}
use Rattle.gm_ast.specs.Loops.{declared_at, is_property}
use Rattle.gm_ast.specs.declared.tree.Tree.{Tree}
use Rattle.gm_ast.specs.Accesses.{accesses}
use Rattle.gm_ast.specs.Races.{races, races_among, races_at}
use Rattle.gm_ast.specs.Tree.{program_of}
use Rattle.gm_race.specs.declared.found.Found.{Found}
use Rattle.gm_race.specs.declared.meetings.Meetings.{Meetings}
use Rattle.gm_race.specs.declared.uses.Uses.{Uses}
use Rattle.gm_race.specs.declared.uses.InnerUses.{InnerUses}
use Rattle.gm_race.specs.Views.{access_of}
use Rattle.gm_race.specs.Judging.{judged}
use Rattle.gm_race.specs.Meetings.{uses_at, inner_at, SumsUp}
use Rattle.gm_race.proofs.Items.{drop-first}
use Rattle.gm_race.proofs.Judged.{judged-races}
use Rattle.gm_race.proofs.Summed.{site_of, inner_site_of}

-- the least of some violations and of more
least_from-append : (best : Option Refusal) (rs qs : List Refusal) → least_from best (rs ++ qs) ≡ least_from (least_from best rs) qs
least_from-append best [] qs = refl
least_from-append best (r ∷ rs) qs = least_from-append (lesser best r) rs qs

-- the least of some refusals and more is one
some-stays : (a : Refusal) (rs : List Refusal) → (q : Refusal) × (least_from (Some a) rs ≡ Some q)
some-stays a [] = (a, refl)
some-stays a (r ∷ rs) = on (refusal_lt r a) (some-stays r rs) (some-stays a rs)
  where
    on : (b : Bool) → ((q : Refusal) × (least_from (Some r) rs ≡ Some q)) → ((q : Refusal) × (least_from (Some a) rs ≡ Some q)) → (q : Refusal) × (least_from (if b then Some r else Some a) rs ≡ Some q)
    on true x y = x
    on false x y = y

-- where there is no least, nothing is broken
pub nothing-least : (rs : List Refusal) → least rs ≡ None → rs ≡ []
nothing-least [] h = refl
nothing-least (r ∷ rs) h =
    let (q, k) = some-stays r rs in
    let bad = sym k ∙ h in
    cc

-- one access more is judged
pub race-next : (ds : List Declaration) (fs : List Found) (i : ℕ) (d : Found) (m : Meetings) (goal old : Option Refusal) {new : Option Refusal} {p : Bool} {u : Uses} {v : InnerUses}
    → i < length fs → SumsUp m fs → p ≡ is_property (declared_at ds (get_or fs i d).variable) → u ≡ uses_at m.loops.entries (site_of (get_or fs i d))
    → v ≡ inner_at m.inner.entries (inner_site_of (get_or fs i d)) → new ≡ least_from old (judged p u v (get_or fs i d))
    → least_from old (flat_map (races_at ds (map access_of fs)) (map access_of (drop i fs))) ≡ goal
    → least_from new (flat_map (races_at ds (map access_of fs)) (map access_of (drop (i + 1) fs))) ≡ goal
race-next ds fs i d m goal old {p = p} {u = u} {v = v} lt sums hp hu hv noted before =
    let f = get_or fs i d in
    let at : Access → List Refusal = races_at ds (map access_of fs) in
    let rest = flat_map at (map access_of (drop (i + 1) fs)) in
    let here = ap (λ q. judged q u v f) hp ∙ ap (λ w. judged (is_property (declared_at ds f.variable)) w v f) hu
    ∙ ap (λ w. judged (is_property (declared_at ds f.variable)) (uses_at m.loops.entries (site_of f)) w f) hv ∙ judged-races ds f fs m sums in
    ap (λ l. least_from l rest) (noted ∙ ap (least_from old) here) ∙ sym (least_from-append old (at (access_of f)) rest)
    ∙ ap (λ xs. least_from old (flat_map at (map access_of xs))) (sym (drop-first fs i d lt)) ∙ before

-- the least race among the accesses of a tree is that of its program
pub least-whole : {o : Option Refusal} (t : Tree) (ds : List Declaration) (fs found : List Found) → o ≡ least (races_among ds (map access_of fs)) → ds ≡ t.declarations.items → fs ≡ found
    → map access_of found ≡ accesses (program_of t) → o ≡ least (races (program_of t))
least-whole t ds fs found h d f a = h ∙ ap (λ es. least (races_among es (map access_of fs))) d ∙ ap (λ gs. least (races_among t.declarations.items (map access_of gs))) f ∙ ap (λ all. least (races_among t.declarations.items all)) a
