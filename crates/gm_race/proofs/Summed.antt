-- How accesses are summed up one after another.
use Rattle.std.proofs.Common.{◌≡◌, ℕ, nat_eq, Bool, true, false, List, [], ◌∷◌, ◌++◌, Some, filter, fold, ap, refl, sym, ◌∙◌, cond, eqb-true}
use Rattle.std.specs.Prelude.{◌&&◌, if◌then◌else◌, unwrap_or}
use Rattle.std.specs.Map.{lookup}
use Rattle.std.proofs.lemmas.List.Elements.{filter-append}
use Rattle.std.proofs.lemmas.List.Sums.{fold-append}
use Rattle.gm_race.specs.declared.found.Found.{Found}
use Rattle.gm_race.specs.declared.uses.Uses.{Uses}
use Rattle.gm_race.specs.declared.uses.InnerUses.{InnerUses}
use Rattle.gm_race.specs.declared.meetings.Site.{Site}
use Rattle.gm_race.specs.declared.meetings.InnerSite.{InnerSite}
use Rattle.gm_race.specs.declared.meetings.Meetings.{Meetings}
use Rattle.gm_race.specs.Uses.{with_use, with_inner, no_uses, no_inner}
use Rattle.gm_race.specs.Meetings.{at_site, at_inner, site_eq, inner_eq, uses_at, inner_at, AddsUse, AddsInner, SumsUp}

-- both parts of a test
both-true : (a b : Bool) → (a && b) ≡ true → (a ≡ true) × (b ≡ true)
both-true true true h = (refl, refl)
both-true true false h = absurd cc
both-true false b h = absurd cc

-- the variable and the loop of an access
abbrev pub site_of : Found → Site
site_of f = record { variable = f.variable; loop_id = f.loop_id }

-- the variable and the inner loop of an access
abbrev pub inner_site_of : Found → InnerSite
inner_site_of f = record { variable = f.variable; loop_id = f.loop_id; inner_id = f.inner_id }

-- an access is at no other site than its own
own-site : (s : Site) (f : Found) → at_site s f ≡ true → site_of f ≡ s
own-site s f h =
    let parts = both-true (nat_eq f.variable s.variable) (nat_eq f.loop_id s.loop_id) h in
    let v : f.variable ≡ s.variable = eqb-true f.variable s.variable parts.0 in
    let l : f.loop_id ≡ s.loop_id = eqb-true f.loop_id s.loop_id parts.1 in
    ap (λ (x : ℕ). let t : Site = record { variable = x; loop_id = f.loop_id } in t) v ∙ ap (λ (x : ℕ). let t : Site = record { variable = s.variable; loop_id = x } in t) l

own-inner-site : (s : InnerSite) (f : Found) → at_inner s f ≡ true → inner_site_of f ≡ s
own-inner-site s f h =
    let outer = both-true (nat_eq f.variable s.variable && nat_eq f.loop_id s.loop_id) (nat_eq f.inner_id s.inner_id) h in
    let parts = both-true (nat_eq f.variable s.variable) (nat_eq f.loop_id s.loop_id) outer.0 in
    let v : f.variable ≡ s.variable = eqb-true f.variable s.variable parts.0 in
    let l : f.loop_id ≡ s.loop_id = eqb-true f.loop_id s.loop_id parts.1 in
    let i : f.inner_id ≡ s.inner_id = eqb-true f.inner_id s.inner_id outer.1 in
    ap (λ (x : ℕ). let t : InnerSite = record { variable = x; loop_id = f.loop_id; inner_id = f.inner_id } in t) v
    ∙ ap (λ (x : ℕ). let t : InnerSite = record { variable = s.variable; loop_id = x; inner_id = f.inner_id } in t) l
    ∙ ap (λ (x : ℕ). let t : InnerSite = record { variable = s.variable; loop_id = s.loop_id; inner_id = x } in t) i

-- three parts of a test
and-assoc : (a b c : Bool) → (a && (b && c)) ≡ ((a && b) && c)
and-assoc true b c = refl
and-assoc false b c = refl

-- the key of an access is that of a site where it is
pub at-inner-site : (s : InnerSite) (f : Found) → inner_eq (inner_site_of f) s ≡ at_inner s f
at-inner-site s f = and-assoc (nat_eq f.variable s.variable) (nat_eq f.loop_id s.loop_id) (nat_eq f.inner_id s.inner_id)

-- a map with the uses of one site renewed
pub adds-use : (old new : List (Site × Uses)) (f : Found) (u : Uses) → u ≡ with_use (uses_at old (site_of f)) f
    → ((s : Site) → lookup (site_eq s) new ≡ cond (at_site s f) (Some u) (lookup (site_eq s) old)) → AddsUse old new f
adds-use old new f u e h s = ap (λ o. unwrap_or o no_uses) (h s) ∙ by (at_site s f) refl
  where
    by : (b : Bool) → at_site s f ≡ b → unwrap_or (cond b (Some u) (lookup (site_eq s) old)) no_uses ≡ (if b then with_use (uses_at old s) f else uses_at old s)
    by true k = e ∙ ap (λ t. with_use (uses_at old t) f) (own-site s f k)
    by false k = refl

pub adds-inner : (old new : List (InnerSite × InnerUses)) (f : Found) (u : InnerUses) → u ≡ with_inner (inner_at old (inner_site_of f)) f
    → ((s : InnerSite) → lookup (inner_eq s) new ≡ cond (at_inner s f) (Some u) (lookup (inner_eq s) old)) → AddsInner old new f
adds-inner old new f u e h s = ap (λ o. unwrap_or o no_inner) (h s) ∙ by (at_inner s f) refl
  where
    by : (b : Bool) → at_inner s f ≡ b → unwrap_or (cond b (Some u) (lookup (inner_eq s) old)) no_inner ≡ (if b then with_inner (inner_at old s) f else inner_at old s)
    by true k = e ∙ ap (λ t. with_inner (inner_at old t) f) (own-inner-site s f k)
    by false k = refl

-- a fold over what passes a test, with one more item
pub fold-filter-more : {A B : Type 0} (step : B → A → B) (none : B) (p : A → Bool) (xs : List A) (x : A)
    → fold step none (filter p (xs ++ (x ∷ []))) ≡ (if p x then step (fold step none (filter p xs)) x else fold step none (filter p xs))
fold-filter-more step none p xs x =
    ap (fold step none) (filter-append p xs (x ∷ [])) ∙ fold-append step none (filter p xs) (filter p (x ∷ [])) ∙ by (p x)
  where
    by : (b : Bool) → fold step (fold step none (filter p xs)) (cond b (x ∷ []) []) ≡ (if b then step (fold step none (filter p xs)) x else fold step none (filter p xs))
    by true = refl
    by false = refl

-- one access more
pub sums-next : (m n : Meetings) (fs : List Found) (f : Found) → SumsUp m fs → AddsUse m.loops.entries n.loops.entries f → AddsInner m.inner.entries n.inner.entries f
    → SumsUp n (fs ++ (f ∷ []))
sums-next m n fs f h a b = record {
  loops = λ s. a s ∙ ap (λ u. if at_site s f then with_use u f else u) (h.loops s) ∙ sym (fold-filter-more with_use no_uses (at_site s) fs f);
  inner = λ s. b s ∙ ap (λ u. if at_inner s f then with_inner u f else u) (h.inner s) ∙ sym (fold-filter-more with_inner no_inner (at_inner s) fs f);
}
