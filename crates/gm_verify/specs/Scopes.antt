-- What the code knows of the lines around a line.
use Rattle.std.specs.Prelude.{◌≡◌, ℕ, nat_eq, Option, List, option_map}
use Rattle.std.specs.List.{flat_map}
use Rattle.std.specs.HashSet.{contains}
use Rattle.gm_image.specs.Program.{Line, Direction}
use Rattle.gm_image.specs.Items.{direction_of}
use Rattle.gm_image.specs.Items as items
use Rattle.gm_image.specs.Parts.{is_among}
use Rattle.gm_image.specs.Rows.{Around}
use Rattle.gm_image.specs.Folds.{folds_of, puts_of, folded_fields}
use Rattle.gm_verify.specs.declared.firsts.Firsts.{Firsts}
use Rattle.gm_verify.specs.declared.scopes.Scope.{Scope}
use Rattle.gm_verify.specs.Firsts.{ShowsFirsts}

-- the code shows the reductions of fields of some lines
abbrev pub ShowsFolds : Firsts → List Line → Type 0
ShowsFolds f before = ShowsFirsts f (flat_map folds_of before)

-- the code shows the reductions of globals of some lines
abbrev pub ShowsPuts : Firsts → List Line → Type 0
ShowsPuts f before = ShowsFirsts f (flat_map puts_of before)

-- the edges that an each goes over, where a line is one
abbrev pub each_of : Line → Option Direction
each_of l = option_map (λ e. e.0) (items.each_of l)

-- the code shows what is around a line
pub record ShowsScope (s : Scope) (a : Around) : Type 0 where
  pub each : a.each ≡ option_map direction_of s.each
  pub left : a.left ≡ s.left
  pub folded : (n : ℕ) → contains nat_eq s.folded n ≡ is_among n (folded_fields a.lines)
  pub before : ShowsFolds s.firsts a.before
