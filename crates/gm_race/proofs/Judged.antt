-- What an access breaks by the sums of all accesses is what it breaks among them.
use Rattle.std.proofs.Common.{◌≡◌, Bool, true, false, List, ◌++◌, map, filter, ap, refl, sym, ◌∙◌}
use Rattle.std.specs.Prelude.{◌&&◌, ◌||◌, not}
use Rattle.gm_base.specs.declared.rules.Refusal.{Refusal}
use Rattle.gm_base.specs.declared.rules.Rule.TheVariants.{R1, R2, R3, R4, R5, R6}
use Rattle.gm_ast.specs.declared.accesses.Operation.{Operation}
use Rattle.gm_ast.specs.declared.accesses.Access.{Access}
use Rattle.gm_ast.specs.declared.accesses.AccessKind.{AccessKind}
use Rattle.gm_ast.specs.declared.accesses.AccessKind.TheVariants as A
use Rattle.gm_ast.specs.declared.tree.Declaration.{Declaration}
use Rattle.gm_ast.specs.Loops.{any, broken_if, declared_at, is_property}
use Rattle.gm_ast.specs.Races as Races
use Rattle.gm_ast.specs.Races.{is_read, is_own_read, is_other_read, is_own_write, is_stray, is_own_change, is_push_reduce, is_deferred, is_change, is_own_reduce, is_reduce, differ, meet, same_inner, not_behind, meets, races_at}
use Rattle.gm_race.specs.declared.found.Kind.{Kind}
use Rattle.gm_race.specs.declared.found.Kind.TheVariants.{OwnRead, OtherRead, LevelRead, OwnWrite, StrayWrite, OwnReduce, PushReduce, Deferred}
use Rattle.gm_race.specs.declared.found.Found.{Found}
use Rattle.gm_race.specs.declared.meetings.Meetings.{Meetings}
use Rattle.gm_race.specs.declared.uses.Uses.{Uses}
use Rattle.gm_race.specs.declared.uses.InnerUses.{InnerUses}
use Rattle.gm_race.specs.Views.{operation_of, kind_of, access_of}
use Rattle.gm_race.specs.Uses.{reaches, mixes_with, uses_of, inner_of}
use Rattle.gm_race.specs.Judging.{touches_reduced, mixes_reductions, mixes_deferred, judged}
use Rattle.gm_race.specs.Meetings.{at_site, at_inner, uses_at, inner_at, SumsUp}
use Rattle.gm_race.proofs.Summed.{site_of, inner_site_of}
use Rattle.gm_race.proofs.AnyOf.{any-map, any-filter, any-same, any-or, any-and, any-none, own-mix, push-mix, deferred-mix, inner-test, and-false}
use Rattle.gm_race.proofs.Told.{differs_from, changed-told, pushed-told, reduced-told, deferred-told, change-told, reductions-told, inner-told, pushes-told}

-- what the accesses that meet one do
abbrev uses_beside : List Found → Found → Uses
uses_beside fs b = uses_of (filter (at_site (site_of b)) fs)

-- what the accesses in the same inner loop do
abbrev inner_beside : List Found → Found → InnerUses
inner_beside fs b = inner_of (filter (at_inner (inner_site_of b)) fs)

-- a test of the accesses that meet one
among : (fs : List Found) (b : Found) (test : Access → Bool)
    → any (λ x. test (access_of x)) (filter (at_site (site_of b)) fs) ≡ any (λ a. meet a (access_of b) && test a) (map access_of fs)
among fs b test =
    any-filter (at_site (site_of b)) (λ x. test (access_of x)) fs ∙ sym (any-map (λ a. meet a (access_of b) && test a) access_of fs)

-- a test of the accesses in the same inner loop
within : (fs : List Found) (b : Found) (test : Access → Bool)
    → any (λ x. test (access_of x)) (filter (at_inner (inner_site_of b)) fs) ≡ any (λ a. (meet a (access_of b) && same_inner a (access_of b)) && test a) (map access_of fs)
within fs b test =
    any-filter (at_inner (inner_site_of b)) (λ x. test (access_of x)) fs ∙ sym (any-map (λ a. (meet a (access_of b) && same_inner a (access_of b)) && test a) access_of fs)

-- R1
changed-agrees : (fs : List Found) (b : Found) → (is_other_read (kind_of b.kind) && (uses_beside fs b).changed) ≡ Races.reads_changed (map access_of fs) (access_of b)
changed-agrees fs b = ap (λ t. is_other_read (kind_of b.kind) && t) (changed-told (filter (at_site (site_of b)) fs) ∙ among fs b (λ a. is_own_change a.kind))

-- R2
touches-agrees : (fs : List Found) (b : Found)
    → touches_reduced (uses_beside fs b) (inner_beside fs b) b.kind ≡ (Races.meets_push (map access_of fs) (access_of b) || Races.reads_reduced (map access_of fs) (access_of b))
touches-agrees fs b =
    let all = map access_of fs in
    let touches = is_read (kind_of b.kind) || is_own_write (kind_of b.kind) in
    let reads = is_own_read (kind_of b.kind) in
    let pushed = pushed-told (filter (at_site (site_of b)) fs) ∙ among fs b (λ a. is_push_reduce a.kind) in
    let reduced = reduced-told (filter (at_inner (inner_site_of b)) fs) ∙ within fs b (λ a. is_own_reduce a.kind)
    ∙ any-same (λ a. (meet a (access_of b) && same_inner a (access_of b)) && is_own_reduce a.kind) (λ a. meet a (access_of b) && (is_own_reduce a.kind && same_inner a (access_of b)))
    (λ a. inner-test (meet a (access_of b)) (same_inner a (access_of b)) (is_own_reduce a.kind)) all in
    ap (λ t. (touches && t) || (reads && (inner_beside fs b).reduced)) pushed
    ∙ ap (λ t. (touches && meets all (access_of b) (λ a. is_push_reduce a.kind)) || (reads && t)) reduced

differ-own : (k : AccessKind) (op : Operation) → differ k (A.OwnReduce op) ≡ differs_from k op
differ-own A.OwnRead op = refl
differ-own A.OtherRead op = refl
differ-own A.LevelRead op = refl
differ-own A.OwnWrite op = refl
differ-own A.StrayWrite op = refl
differ-own (A.OwnReduce a) op = refl
differ-own (A.PushReduce a) op = refl
differ-own A.Deferred op = refl

differ-push : (k : AccessKind) (op : Operation) → differ k (A.PushReduce op) ≡ differs_from k op
differ-push A.OwnRead op = refl
differ-push A.OtherRead op = refl
differ-push A.LevelRead op = refl
differ-push A.OwnWrite op = refl
differ-push A.StrayWrite op = refl
differ-push (A.OwnReduce a) op = refl
differ-push (A.PushReduce a) op = refl
differ-push A.Deferred op = refl

-- what does not reduce differs from nothing
differ-none : (k l : AccessKind) → is_reduce l ≡ false → differ k l ≡ false
differ-none A.OwnRead A.OwnRead h = refl
differ-none A.OtherRead A.OwnRead h = refl
differ-none A.LevelRead A.OwnRead h = refl
differ-none A.OwnWrite A.OwnRead h = refl
differ-none A.StrayWrite A.OwnRead h = refl
differ-none (A.OwnReduce a) A.OwnRead h = refl
differ-none (A.PushReduce a) A.OwnRead h = refl
differ-none A.Deferred A.OwnRead h = refl
differ-none A.OwnRead A.OtherRead h = refl
differ-none A.OtherRead A.OtherRead h = refl
differ-none A.LevelRead A.OtherRead h = refl
differ-none A.OwnWrite A.OtherRead h = refl
differ-none A.StrayWrite A.OtherRead h = refl
differ-none (A.OwnReduce a) A.OtherRead h = refl
differ-none (A.PushReduce a) A.OtherRead h = refl
differ-none A.Deferred A.OtherRead h = refl
differ-none A.OwnRead A.LevelRead h = refl
differ-none A.OtherRead A.LevelRead h = refl
differ-none A.LevelRead A.LevelRead h = refl
differ-none A.OwnWrite A.LevelRead h = refl
differ-none A.StrayWrite A.LevelRead h = refl
differ-none (A.OwnReduce a) A.LevelRead h = refl
differ-none (A.PushReduce a) A.LevelRead h = refl
differ-none A.Deferred A.LevelRead h = refl
differ-none A.OwnRead A.OwnWrite h = refl
differ-none A.OtherRead A.OwnWrite h = refl
differ-none A.LevelRead A.OwnWrite h = refl
differ-none A.OwnWrite A.OwnWrite h = refl
differ-none A.StrayWrite A.OwnWrite h = refl
differ-none (A.OwnReduce a) A.OwnWrite h = refl
differ-none (A.PushReduce a) A.OwnWrite h = refl
differ-none A.Deferred A.OwnWrite h = refl
differ-none A.OwnRead A.StrayWrite h = refl
differ-none A.OtherRead A.StrayWrite h = refl
differ-none A.LevelRead A.StrayWrite h = refl
differ-none A.OwnWrite A.StrayWrite h = refl
differ-none A.StrayWrite A.StrayWrite h = refl
differ-none (A.OwnReduce a) A.StrayWrite h = refl
differ-none (A.PushReduce a) A.StrayWrite h = refl
differ-none A.Deferred A.StrayWrite h = refl
differ-none A.OwnRead A.Deferred h = refl
differ-none A.OtherRead A.Deferred h = refl
differ-none A.LevelRead A.Deferred h = refl
differ-none A.OwnWrite A.Deferred h = refl
differ-none A.StrayWrite A.Deferred h = refl
differ-none (A.OwnReduce a) A.Deferred h = refl
differ-none (A.PushReduce a) A.Deferred h = refl
differ-none A.Deferred A.Deferred h = refl
differ-none k (A.OwnReduce op) h = absurd cc
differ-none k (A.PushReduce op) h = absurd cc

-- whether an access of a kind mixes with those that meet it
abbrev mixes_as : List Access → Access → AccessKind → Bool
mixes_as all b k = any (λ a. meet a b && (differ a.kind k && (not_behind a b && (is_push_reduce a.kind || (is_push_reduce k || same_inner a b))))) all

-- what does not reduce mixes with nothing
mixes-none : (all : List Access) (b : Access) (k : AccessKind) → is_reduce k ≡ false → mixes_as all b k ≡ false
mixes-none all b k h =
    any-none (λ a. meet a b && (differ a.kind k && (not_behind a b && (is_push_reduce a.kind || (is_push_reduce k || same_inner a b)))))
    (λ a. ap (λ t. meet a b && (t && (not_behind a b && (is_push_reduce a.kind || (is_push_reduce k || same_inner a b))))) (differ-none a.kind k h) ∙ and-false (meet a b)) all

-- R3
mixes-agrees : (fs : List Found) (b : Found) (k : Kind) → mixes_reductions (uses_beside fs b) (inner_beside fs b) k b.place ≡ mixes_as (map access_of fs) (access_of b) (kind_of k)
mixes-agrees fs b OwnRead = sym (mixes-none (map access_of fs) (access_of b) A.OwnRead refl)
mixes-agrees fs b OtherRead = sym (mixes-none (map access_of fs) (access_of b) A.OtherRead refl)
mixes-agrees fs b LevelRead = sym (mixes-none (map access_of fs) (access_of b) A.LevelRead refl)
mixes-agrees fs b OwnWrite = sym (mixes-none (map access_of fs) (access_of b) A.OwnWrite refl)
mixes-agrees fs b StrayWrite = sym (mixes-none (map access_of fs) (access_of b) A.StrayWrite refl)
mixes-agrees fs b Deferred = sym (mixes-none (map access_of fs) (access_of b) A.Deferred refl)
mixes-agrees fs b (PushReduce r) =
    let all = map access_of fs in
    let one = access_of b in
    let op = operation_of r in
    reductions-told op b.place (filter (at_site (site_of b)) fs) ∙ among fs b (λ a. differs_from a.kind op && not_behind a one)
    ∙ any-same (λ a. meet a one && (differs_from a.kind op && not_behind a one)) (λ a. meet a one && (differ a.kind (A.PushReduce op) && (not_behind a one && (is_push_reduce a.kind || (true || same_inner a one)))))
    (λ a. push-mix (meet a one) (differs_from a.kind op) (not_behind a one) (is_push_reduce a.kind) (same_inner a one)
    ∙ ap (λ t. meet a one && (t && (not_behind a one && (is_push_reduce a.kind || (true || same_inner a one))))) (sym (differ-push a.kind op))) all
mixes-agrees fs b (OwnReduce r) =
    let all = map access_of fs in
    let one = access_of b in
    let op = operation_of r in
    let pushes = pushes-told op b.place (filter (at_site (site_of b)) fs) ∙ among fs b (λ a. (is_push_reduce a.kind && differs_from a.kind op) && not_behind a one) in
    let inner = inner-told op b.place (filter (at_inner (inner_site_of b)) fs) ∙ within fs b (λ a. differs_from a.kind op && not_behind a one) in
    let far : Access → Bool = λ a. meet a one && ((is_push_reduce a.kind && differs_from a.kind op) && not_behind a one) in
    let near : Access → Bool = λ a. (meet a one && same_inner a one) && (differs_from a.kind op && not_behind a one) in
    ap (λ t. t || mixes_with (inner_beside fs b).reductions op b.place) pushes ∙ ap (λ t. any far all || t) inner
    ∙ sym (any-or far near all)
    ∙ any-same (λ a. far a || near a) (λ a. meet a one && (differ a.kind (A.OwnReduce op) && (not_behind a one && (is_push_reduce a.kind || (false || same_inner a one)))))
    (λ a. own-mix (meet a one) (is_push_reduce a.kind) (differs_from a.kind op) (not_behind a one) (same_inner a one)
    ∙ ap (λ t. meet a one && (t && (not_behind a one && (is_push_reduce a.kind || (false || same_inner a one))))) (sym (differ-own a.kind op))) all

-- R6
deferred-agrees : (fs : List Found) (b : Found) → mixes_deferred (uses_beside fs b) b.kind b.place ≡ Races.mixes_deferred (map access_of fs) (access_of b)
deferred-agrees fs b =
    let all = map access_of fs in
    let one = access_of b in
    let changes = is_change (kind_of b.kind) in
    let defers = is_deferred (kind_of b.kind) in
    let deferred : Access → Bool = λ a. meet a one && (is_deferred a.kind && not_behind a one) in
    let change : Access → Bool = λ a. meet a one && (is_change a.kind && not_behind a one) in
    let first = deferred-told b.place (filter (at_site (site_of b)) fs) ∙ among fs b (λ a. is_deferred a.kind && not_behind a one) in
    let second = change-told b.place (filter (at_site (site_of b)) fs) ∙ among fs b (λ a. is_change a.kind && not_behind a one) in
    ap (λ t. (changes && t) || (defers && reaches (uses_beside fs b).change b.place)) first ∙ ap (λ t. (changes && any deferred all) || (defers && t)) second
    ∙ ap (λ t. t || (defers && any change all)) (sym (any-and changes deferred all)) ∙ ap (λ t. any (λ a. changes && deferred a) all || t) (sym (any-and defers change all))
    ∙ sym (any-or (λ a. changes && deferred a) (λ a. defers && change a) all)
    ∙ any-same (λ a. (changes && deferred a) || (defers && change a)) (λ a. meet a one && (not_behind a one && ((is_deferred a.kind && changes) || (is_change a.kind && defers))))
    (λ a. deferred-mix (meet a one) (not_behind a one) (is_deferred a.kind) changes (is_change a.kind) defers) all

-- what an access breaks, by four tests of the accesses that meet it
abbrev breaks : Bool → Bool → Found → Bool → Bool → Bool → List Refusal
breaks stray property b r2 r3 r6 =
    broken_if r2 R2 b.place
    ++ (broken_if r3 R3 b.place
    ++ (broken_if (stray && property) R4 b.place
    ++ (broken_if (stray && not property) R5 b.place
    ++ broken_if r6 R6 b.place)))

-- all that an access breaks
pub judged-races : (ds : List Declaration) (b : Found) (fs : List Found) (m : Meetings) → SumsUp m fs
    → judged (is_property (declared_at ds b.variable)) (uses_at m.loops.entries (site_of b)) (inner_at m.inner.entries (inner_site_of b)) b ≡ races_at ds (map access_of fs) (access_of b)
judged-races ds b fs m h =
    let all = map access_of fs in
    let one = access_of b in
    let property = is_property (declared_at ds b.variable) in
    let stray = is_stray (kind_of b.kind) in
    let u = uses_beside fs b in
    let v = inner_beside fs b in
    let r1 = Races.reads_changed all one in
    let r2 = Races.meets_push all one || Races.reads_reduced all one in
    let r3 = Races.mixes all one in
    ap (λ w. judged property w (inner_at m.inner.entries (inner_site_of b)) b) (h.loops (site_of b)) ∙ ap (λ w. judged property u w b) (h.inner (inner_site_of b))
    ∙ ap (λ t. broken_if t R1 b.place ++ breaks stray property b (touches_reduced u v b.kind) (mixes_reductions u v b.kind b.place) (mixes_deferred u b.kind b.place)) (changed-agrees fs b)
    ∙ ap (λ t. broken_if r1 R1 b.place ++ breaks stray property b t (mixes_reductions u v b.kind b.place) (mixes_deferred u b.kind b.place)) (touches-agrees fs b)
    ∙ ap (λ t. broken_if r1 R1 b.place ++ breaks stray property b r2 t (mixes_deferred u b.kind b.place)) (mixes-agrees fs b b.kind)
    ∙ ap (λ t. broken_if r1 R1 b.place ++ breaks stray property b r2 r3 t) (deferred-agrees fs b)
