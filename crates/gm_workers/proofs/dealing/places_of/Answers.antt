-- One more node has its place.
use Rattle.std.proofs.Common.{◌≡◌, ◌∙◌, ◌+◌, ℕ, List, [], length, map, drop, replicate, refl, sym, ap, subst, arith}
use Rattle.std.specs.Prelude.{slice_index, slice_set}
use Rattle.gm_core.specs.Cores.{below}
use Rattle.gm_posting.proofs.WorkerLemmas.{written-back}
use Rattle.gm_workers.specs.Dealings.{place_in}
use Rattle.gm_workers.proofs.DealingLemmas.{PlacedTo, placed-none, placed-more}
use Rattle.gm_workers.proofs.dealing.places_of.Goals as goal

pub loop-owner-init : goal.loop-owner-init
loop-owner-init c =
    let none : c.in_ok-counts.counts.items ≡ replicate c.args.workers 0 = c.in_ok-counts.ensures.items_if_clones_equal (λ y e. e) in
    subst (λ l. PlacedTo c.args.owners.now c.args.workers 0 l c.in_ok-counts.counts.items) (sym c.new-places.ensures.items)
    (subst (PlacedTo c.args.owners.now c.args.workers 0 []) (sym none) (placed-none c.args.owners.now c.args.workers))

pub place_next-requires : goal.place_next-requires
place_next-requires c =
    let long : length c.as_mut_slice.result.now ≡ c.args.workers = ap length c.as_mut_slice.ensures.value ∙ c.loop-owner.invariant.long in
    omega (arith, long, c.requires c.loop-owner.owner-index)

pub loop-owner-preserved : goal.loop-owner-preserved
loop-owner-preserved c =
    let owners : List ℕ = c.args.owners.now in
    let k : ℕ = c.loop-owner.owner-index in
    let o : ℕ = slice_index owners k in
    let counts : List ℕ = c.loop-owner.counts.items in
    let value = c.as_mut_slice.ensures.value in
    let back = written-back c.loop-owner.counts.len c.place_next.new.counts (drop (length c.place_next.new.counts) counts) (c.place_next.auto.counts ∙ c.as_mut_slice.ensures.len) in
    let counts_are : c.place_next.new.counts ≡ slice_set counts o (slice_index counts o + 1) =
    c.in_ok-place.ensures.counts ∙ ap (λ l. slice_set l o (slice_index l o + 1)) value in
    let place_is : c.in_ok-place.place ≡ slice_index counts o = c.in_ok-place.ensures.place ∙ ap (λ l. slice_index l o) value in
    subst (λ l. PlacedTo owners c.args.workers (k + 1) c.push.new.self.items l) (sym (back ∙ counts_are))
    (placed-more owners c.args.workers k c.loop-owner.places.items counts c.push.new.self.items o c.in_ok-place.place refl (c.requires k) place_is c.in_ok-push.ensures.items c.loop-owner.invariant)

pub returns : goal.returns
returns c =
    let all : c.loop-owner.owner-index ≡ length c.args.owners.now = omega (arith, c.loop-owner-test.false, c.loop-owner.auto.owner-index-end) in
    c.loop-owner.invariant.places_are ∙ ap (λ n. map (place_in c.args.owners.now) (below n)) all
