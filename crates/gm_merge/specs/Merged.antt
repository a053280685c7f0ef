-- The merged image.
use Rattle.gm_image.specs.Program.{Program}
use Rattle.gm_merge.specs.Joining.{all_joined}
use Rattle.gm_merge.specs.Trimmed.{trimmed}

-- the image with its steps joined line by line, without the blocks that no step runs any more
abbrev pub merged : Program → Program
merged p = trimmed (all_joined p)
