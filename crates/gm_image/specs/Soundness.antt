-- Sound images: each line of the text keeps each rule.
use Rattle.std.specs.Prelude.{ℕ, suc, nat_lt, Bool, not, ◌&&◌, Option, Some, None, List, [], ◌∷◌, find}
use Rattle.std.specs.List.{list_all}
use Rattle.gm_image.specs.declared.rules.ImageRule.{ImageRule}
use Rattle.gm_image.specs.declared.rules.ImageRule.TheVariants.{I1, I2, I3, I4, I5, I6, I7, I8, I9, I10}
use Rattle.gm_image.specs.declared.rules.Broken.{Broken}
use Rattle.gm_image.specs.Program.{Program}
use Rattle.gm_image.specs.Rows.{Row, rows, line_count}
use Rattle.gm_image.specs.Indices.{indices_in_range}
use Rattle.gm_image.specs.Fits.{types_fit}
use Rattle.gm_image.specs.Jumps.{all_jump_forward, all_go_back, ends_last}
use Rattle.gm_image.specs.Spans.{all_stay}
use Rattle.gm_image.specs.Leaves.{leaves_stand}
use Rattle.gm_image.specs.Folds.{all_fold, all_put}
use Rattle.gm_image.specs.Names.{names_keep}

-- whether a line of an image's text keeps a rule
abbrev pub keeps : Program → Row → ImageRule → Bool
keeps p row I1 = indices_in_range p row
keeps p row I2 = types_fit p row
keeps p row I3 = all_jump_forward p row
keeps p row I4 = all_go_back p row
keeps p row I5 = ends_last p row
keeps p row I6 = all_stay p row
keeps p row I7 = leaves_stand p row
keeps p row I8 = all_fold p row
keeps p row I9 = all_put p row
keeps p row I10 = names_keep p row

-- the rules in their order
abbrev pub image_rules : List ImageRule
image_rules = I1 ∷ I2 ∷ I3 ∷ I4 ∷ I5 ∷ I6 ∷ I7 ∷ I8 ∷ I9 ∷ I10 ∷ []

-- whether a line keeps every rule
abbrev pub keeps_all : Program → Row → Bool
keeps_all p row = list_all (keeps p row) image_rules

-- the line numbers of an image's text are below this one
abbrev pub line_limit : ℕ
line_limit = 4294967296

-- whether every line keeps every rule, and the text has fewer lines than 2 ^ 32
abbrev pub is_sound : Program → Bool
is_sound p = list_all (keeps_all p) (rows p) && nat_lt (line_count p) line_limit

-- the least rule that a line breaks
abbrev pub broken_rule : Program → Row → Option ImageRule
broken_rule p row = find (λ rule. not (keeps p row rule)) image_rules

-- a rule that is broken at a line, or what is broken after it
abbrev pub broken_or : Option ImageRule → ℕ → Option Broken → Option Broken
broken_or (Some rule) n later = Some (record { rule = rule; line = n })
broken_or None n later = later

-- the first of some lines that breaks a rule, with the least rule that it breaks, where the first of them has a number
abbrev pub broken_from : Program → ℕ → List Row → Option Broken
broken_from p n [] = None
broken_from p n (row ∷ more) = broken_or (broken_rule p row) n (broken_from p (suc n) more)

-- the least line of an image's text that breaks a rule, and the least rule that it breaks. Lines count from 1
abbrev pub first_broken : Program → Option Broken
first_broken p = broken_from p 1 (rows p)
