-- What accesses that meet do, as maps hold it by the variable and the loop.
use Rattle.std.specs.Prelude.{◌≡◌, nat_eq, Bool, ◌&&◌, if◌then◌else◌, List, filter, unwrap_or}
use Rattle.std.specs.Map.{lookup}
use Rattle.gm_race.specs.declared.found.Found.{Found}
use Rattle.gm_race.specs.declared.uses.Uses.{Uses}
use Rattle.gm_race.specs.declared.uses.InnerUses.{InnerUses}
use Rattle.gm_race.specs.declared.meetings.Site.{Site}
use Rattle.gm_race.specs.declared.meetings.InnerSite.{InnerSite}
use Rattle.gm_race.specs.declared.meetings.Meetings.{Meetings}
use Rattle.gm_race.specs.Uses.{with_use, with_inner, uses_of, inner_of, no_uses, no_inner}

-- whether an access is to a variable in a loop
abbrev pub at_site : Site → Found → Bool
at_site s f = nat_eq f.variable s.variable && nat_eq f.loop_id s.loop_id

-- whether an access is to a variable in a loop, within one of its inner loops
abbrev pub at_inner : InnerSite → Found → Bool
at_inner s f = (nat_eq f.variable s.variable && nat_eq f.loop_id s.loop_id) && nat_eq f.inner_id s.inner_id

-- whether two variables in loops are the same
abbrev pub site_eq : Site → Site → Bool
site_eq a b = nat_eq a.variable b.variable && nat_eq a.loop_id b.loop_id

-- whether two variables in inner loops are the same
abbrev pub inner_eq : InnerSite → InnerSite → Bool
inner_eq a b = nat_eq a.variable b.variable && (nat_eq a.loop_id b.loop_id && nat_eq a.inner_id b.inner_id)

-- what a map holds of a variable in a loop
abbrev pub uses_at : List (Site × Uses) → Site → Uses
uses_at entries s = unwrap_or (lookup (site_eq s) entries) no_uses

-- what a map holds of a variable in an inner loop
abbrev pub inner_at : List (InnerSite × InnerUses) → InnerSite → InnerUses
inner_at entries s = unwrap_or (lookup (inner_eq s) entries) no_inner

-- one more access is summed up, to its variable in its loop
abbrev pub AddsUse : List (Site × Uses) → List (Site × Uses) → Found → Type 0
AddsUse old new f = (s : Site) → uses_at new s ≡ (if at_site s f then with_use (uses_at old s) f else uses_at old s)

-- one more access is summed up, to its variable in its inner loop
abbrev pub AddsInner : List (InnerSite × InnerUses) → List (InnerSite × InnerUses) → Found → Type 0
AddsInner old new f = (s : InnerSite) → inner_at new s ≡ (if at_inner s f then with_inner (inner_at old s) f else inner_at old s)

-- some accesses are summed up
pub record SumsUp (m : Meetings) (fs : List Found) : Type 0 where
  pub loops : (s : Site) → uses_at m.loops.entries s ≡ uses_of (filter (at_site s) fs)
  pub inner : (s : InnerSite) → inner_at m.inner.entries s ≡ inner_of (filter (at_inner s) fs)
