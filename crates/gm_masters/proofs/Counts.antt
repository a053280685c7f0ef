-- How much there is in parts.
use Rattle.std.proofs.Common.{◌≡◌, suc, List, [], ◌∷◌, length, map, refl, ap}
use Rattle.gm_image.specs.declared.images.Block.{Block}
use Rattle.gm_image.specs.declared.lines.MasterLine.{MasterLine}
use Rattle.gm_image.specs.Views.{block, command}
use Rattle.gm_lowering.specs.Places.{Segment, shown_places}

length-map : {A B : Type 0} (f : A → B) (xs : List A) → length (map f xs) ≡ length xs
length-map f [] = refl
length-map f (x ∷ xs) = ap suc (length-map f xs)

pub as_many_shown : (g : Segment) → length (shown_places g) ≡ length g.spots
as_many_shown g = length-map (λ s. s.shown) g.spots

pub as_many_commands : (cs : List MasterLine) → length (map command cs) ≡ length cs
as_many_commands cs = length-map command cs

pub as_many_blocks : (bs : List Block) → length (map block bs) ≡ length bs
as_many_blocks bs = length-map block bs
