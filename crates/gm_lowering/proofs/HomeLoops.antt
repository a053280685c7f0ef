-- One superstep of all vertices with a home loop's block is the loop.
use Rattle.std.proofs.Common.{◌<◌, ℕ, List, [], ◌∷◌, ap}
use Rattle.std.specs.Prelude.{slice_index_or}
use Rattle.gm_model.specs.Graphs.{node_count}
use Rattle.gm_ast.specs.Program.{Foreach}
use Rattle.gm_lowering.specs.Places.{Spot, segment, spots_in}
use Rattle.gm_lowering.specs.Blocks.{taking_blocks}
use Rattle.gm_lowering.specs.OwnLoops.{NodeShows}
use Rattle.gm_lowering.specs.Settles.{HasSpot}
use Rattle.gm_lowering.specs.HomeSteps.{home_block, each_spots}
use Rattle.gm_lowering.specs.HomeLoops.{home_spots, HomeLoopsAreSupersteps, HomeLoopsHaveOneBlock}
use Rattle.gm_lowering.proofs.HomeSteps.{home-steps, iteration-left}
use Rattle.gm_lowering.proofs.Spots.{spot-left, spot-right}
use Rattle.gm_lowering.proofs.Supersteps.{loop-of-steps}

pub home-loops : HomeLoopsAreSupersteps
home-loops c p fields base q kind loop mask_key mask key place h test body globals s r table around result outer able typed gs fit block shown edges in_graph within apart apart_inside =
    loop-of-steps c p fields base q loop all (home_block c (segment base all) loop.outer kind mask_key mask h key test body) mask_key mask (Foreach key place h test body) globals s r gs fit block shown apart
    (λ k lt. home-steps c p fields base all loop kind mask_key mask key place h test body globals (slice_index_or s.fields k []) k r table around result outer able typed incl fit (node-shows k lt) edges within (apart_inside k lt))
    (λ k lt. iteration-left c p fields base all loop kind mask_key mask key place h test body globals (slice_index_or s.fields k []) k r table around result outer able typed incl fit (node-shows k lt) edges within (apart_inside k lt) masks) where
      all : List Spot
      all = home_spots c loop.outer h.iterator mask_key mask key test body

      incl : (f : Spot) → HasSpot f (each_spots c loop.outer h.iterator key test body) → HasSpot f all
      incl f i = spot-right f (spots_in mask mask_key) (each_spots c loop.outer h.iterator key test body) i

      masks : (f : Spot) → HasSpot f (spots_in mask mask_key) → HasSpot f all
      masks f i = spot-left f (spots_in mask mask_key) (each_spots c loop.outer h.iterator key test body) i

      node-shows : (k : ℕ) → k < node_count loop.graph → NodeShows c loop.graph p.registers fields globals (slice_index_or s.fields k []) k r
      node-shows k lt = record {
        phase = record { scalar = shown.scalars; in_graph = in_graph };
        locals = shown.locals;
        properties = shown.properties k lt;
        field_count = shown.widths k lt;
        inside = lt;
      }

-- the blocks of such a loop
pub home-blocks : HomeLoopsHaveOneBlock
home-blocks c base kind n mask_key mask key h test body e =
    let seg = segment base (home_spots c n h.iterator mask_key mask key test body) in
    ap (λ xs. home_block c seg n kind mask_key mask h key test body ∷ taking_blocks c seg kind xs) e
