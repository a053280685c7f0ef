-- The nodes are dealt out.
use Rattle.std.proofs.Common.{◌<◌, ◌∙◌, List, ℕ, map, length, sym, ap, subst, arith}
use Rattle.std.specs.Prelude.{slice_index}
use Rattle.gm_core.specs.Cores.{below}
use Rattle.gm_workers.specs.Dealings.{place_in}
use Rattle.gm_workers.proofs.dealing.deal.Goals as goal

pub places_of-requires : goal.places_of-requires
places_of-requires c = λ n. subst (λ (l : List ℕ). slice_index l n < c.args.workers) (sym c.as_slice.ensures.value) (c.in_ok-owners.ensures.dealt.each n)

pub returns-clause-dealt : goal.returns-clause-dealt
returns-clause-dealt c = record {
  few = omega (arith, c.ranges.nodes.fits);
  owners = c.in_ok-owners.ensures.dealt;
  places =
      c.in_ok-places.ensures
      ∙ ap (λ l. map (place_in l) (below (length l))) c.as_slice.ensures.value
      ∙ ap (λ n. map (place_in c.in_ok-owners.owners.items) (below n)) c.in_ok-owners.ensures.dealt.long;
}
