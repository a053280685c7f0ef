-- What the sums of some accesses tell of them.
use Rattle.std.proofs.Common.{◌≡◌, Bool, true, false, List, Option, refl, sym}
use Rattle.std.specs.Prelude.{◌&&◌, ◌||◌, not, if◌then◌else◌}
use Rattle.gm_base.specs.declared.places.Place.{Place}
use Rattle.gm_base.specs.Places.{place_lt}
use Rattle.gm_ast.specs.declared.accesses.Operation.{Operation}
use Rattle.gm_ast.specs.declared.accesses.AccessKind.{AccessKind}
use Rattle.gm_ast.specs.declared.accesses.AccessKind.TheVariants as A
use Rattle.gm_ast.specs.Loops.{any}
use Rattle.gm_ast.specs.Races.{is_own_change, is_push_reduce, is_deferred, is_change, is_own_reduce, operation_eq}
use Rattle.gm_race.specs.declared.found.Kind.{Kind}
use Rattle.gm_race.specs.declared.found.Kind.TheVariants.{OwnRead, OtherRead, LevelRead, OwnWrite, StrayWrite, OwnReduce, PushReduce, Deferred}
use Rattle.gm_race.specs.declared.found.Found.{Found}
use Rattle.gm_race.specs.declared.firsts.Firsts.{Firsts}
use Rattle.gm_race.specs.Views.{kind_of}
use Rattle.gm_race.specs.Uses.{earliest, reaches, mixes_with, with_reduce, with_push, with_use, with_inner, no_uses, no_inner, uses_of, inner_of}
use Rattle.gm_race.proofs.Places.{reaches-earliest}
use Rattle.gm_race.proofs.AnyOf.{or-false, fold-any}
use Rattle.gm_race.proofs.Mixed.{IsOrdered, mixes-more, ordered-more}

-- whether an access reduces, and does something else than an operation
abbrev pub differs_from : AccessKind → Operation → Bool
differs_from (A.OwnReduce a) op = not (operation_eq a op)
differs_from (A.PushReduce a) op = not (operation_eq a op)
differs_from _ op = false

pub changed-told : (fs : List Found) → (uses_of fs).changed ≡ any (λ x. is_own_change (kind_of x.kind)) fs
changed-told fs = fold-any with_use (λ u. u.changed) (λ x. is_own_change (kind_of x.kind)) (λ u. Unit {0}) (λ u x k. tt) (λ u x k. refl) no_uses tt fs

pub pushed-told : (fs : List Found) → (uses_of fs).pushed ≡ any (λ x. is_push_reduce (kind_of x.kind)) fs
pushed-told fs = fold-any with_use (λ u. u.pushed) (λ x. is_push_reduce (kind_of x.kind)) (λ u. Unit {0}) (λ u x k. tt) (λ u x k. refl) no_uses tt fs

pub reduced-told : (fs : List Found) → (inner_of fs).reduced ≡ any (λ x. is_own_reduce (kind_of x.kind)) fs
reduced-told fs = fold-any with_inner (λ u. u.reduced) (λ x. is_own_reduce (kind_of x.kind)) (λ u. Unit {0}) (λ u x k. tt) (λ u x k. refl) no_inner tt fs

-- one more place, if a test holds
reaches-more : (b : Bool) (o : Option Place) (p at : Place) → reaches (if b then earliest o p else o) at ≡ (reaches o at || (b && not (place_lt at p)))
reaches-more true o p at = reaches-earliest o p at
reaches-more false o p at = sym (or-false (reaches o at))

pub deferred-told : (at : Place) (fs : List Found) → reaches (uses_of fs).deferred at ≡ any (λ x. is_deferred (kind_of x.kind) && not (place_lt at x.place)) fs
deferred-told at fs =
    fold-any with_use (λ u. reaches u.deferred at) (λ x. is_deferred (kind_of x.kind) && not (place_lt at x.place)) (λ u. Unit {0}) (λ u x k. tt)
    (λ u x k. reaches-more (is_deferred (kind_of x.kind)) u.deferred x.place at) no_uses tt fs

pub change-told : (at : Place) (fs : List Found) → reaches (uses_of fs).change at ≡ any (λ x. is_change (kind_of x.kind) && not (place_lt at x.place)) fs
change-told at fs =
    fold-any with_use (λ u. reaches u.change at) (λ x. is_change (kind_of x.kind) && not (place_lt at x.place)) (λ u. Unit {0}) (λ u x k. tt)
    (λ u x k. reaches-more (is_change (kind_of x.kind)) u.change x.place at) no_uses tt fs

-- one more access, if that reduces
reduce-more : (fs : Option Firsts) (k : Kind) (p : Place) (op : Operation) (at : Place) → IsOrdered fs
    → mixes_with (with_reduce fs k p) op at ≡ (mixes_with fs op at || (differs_from (kind_of k) op && not (place_lt at p)))
reduce-more fs (OwnReduce r) p op at o = mixes-more fs r p op at o
reduce-more fs (PushReduce r) p op at o = mixes-more fs r p op at o
reduce-more fs OwnRead p op at o = sym (or-false (mixes_with fs op at))
reduce-more fs OtherRead p op at o = sym (or-false (mixes_with fs op at))
reduce-more fs LevelRead p op at o = sym (or-false (mixes_with fs op at))
reduce-more fs OwnWrite p op at o = sym (or-false (mixes_with fs op at))
reduce-more fs StrayWrite p op at o = sym (or-false (mixes_with fs op at))
reduce-more fs Deferred p op at o = sym (or-false (mixes_with fs op at))

reduce-ordered : (fs : Option Firsts) (k : Kind) (p : Place) → IsOrdered fs → IsOrdered (with_reduce fs k p)
reduce-ordered fs (OwnReduce r) p o = ordered-more fs r p o
reduce-ordered fs (PushReduce r) p o = ordered-more fs r p o
reduce-ordered fs OwnRead p o = o
reduce-ordered fs OtherRead p o = o
reduce-ordered fs LevelRead p o = o
reduce-ordered fs OwnWrite p o = o
reduce-ordered fs StrayWrite p o = o
reduce-ordered fs Deferred p o = o

-- one more access, if that reduces to other nodes
push-more : (fs : Option Firsts) (k : Kind) (p : Place) (op : Operation) (at : Place) → IsOrdered fs
    → mixes_with (with_push fs k p) op at ≡ (mixes_with fs op at || ((is_push_reduce (kind_of k) && differs_from (kind_of k) op) && not (place_lt at p)))
push-more fs (PushReduce r) p op at o = mixes-more fs r p op at o
push-more fs (OwnReduce r) p op at o = sym (or-false (mixes_with fs op at))
push-more fs OwnRead p op at o = sym (or-false (mixes_with fs op at))
push-more fs OtherRead p op at o = sym (or-false (mixes_with fs op at))
push-more fs LevelRead p op at o = sym (or-false (mixes_with fs op at))
push-more fs OwnWrite p op at o = sym (or-false (mixes_with fs op at))
push-more fs StrayWrite p op at o = sym (or-false (mixes_with fs op at))
push-more fs Deferred p op at o = sym (or-false (mixes_with fs op at))

push-ordered : (fs : Option Firsts) (k : Kind) (p : Place) → IsOrdered fs → IsOrdered (with_push fs k p)
push-ordered fs (PushReduce r) p o = ordered-more fs r p o
push-ordered fs (OwnReduce r) p o = o
push-ordered fs OwnRead p o = o
push-ordered fs OtherRead p o = o
push-ordered fs LevelRead p o = o
push-ordered fs OwnWrite p o = o
push-ordered fs StrayWrite p o = o
push-ordered fs Deferred p o = o

pub reductions-told : (op : Operation) (at : Place) (fs : List Found) → mixes_with (uses_of fs).reductions op at ≡ any (λ x. differs_from (kind_of x.kind) op && not (place_lt at x.place)) fs
reductions-told op at fs =
    fold-any with_use (λ u. mixes_with u.reductions op at) (λ x. differs_from (kind_of x.kind) op && not (place_lt at x.place)) (λ u. IsOrdered u.reductions)
    (λ u x k. reduce-ordered u.reductions x.kind x.place k) (λ u x k. reduce-more u.reductions x.kind x.place op at k) no_uses tt fs

pub inner-told : (op : Operation) (at : Place) (fs : List Found) → mixes_with (inner_of fs).reductions op at ≡ any (λ x. differs_from (kind_of x.kind) op && not (place_lt at x.place)) fs
inner-told op at fs =
    fold-any with_inner (λ u. mixes_with u.reductions op at) (λ x. differs_from (kind_of x.kind) op && not (place_lt at x.place)) (λ u. IsOrdered u.reductions)
    (λ u x k. reduce-ordered u.reductions x.kind x.place k) (λ u x k. reduce-more u.reductions x.kind x.place op at k) no_inner tt fs

pub pushes-told : (op : Operation) (at : Place) (fs : List Found)
    → mixes_with (uses_of fs).pushes op at ≡ any (λ x. (is_push_reduce (kind_of x.kind) && differs_from (kind_of x.kind) op) && not (place_lt at x.place)) fs
pushes-told op at fs =
    fold-any with_use (λ u. mixes_with u.pushes op at) (λ x. (is_push_reduce (kind_of x.kind) && differs_from (kind_of x.kind) op) && not (place_lt at x.place)) (λ u. IsOrdered u.pushes)
    (λ u x k. push-ordered u.pushes x.kind x.place k) (λ u x k. push-more u.pushes x.kind x.place op at k) no_uses tt fs
