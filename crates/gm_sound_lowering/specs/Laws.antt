-- What it is that the image of a program is sound, rule by rule.
use Rattle.std.specs.Prelude.{◌≡◌, ◌<◌, ◌≤◌, ◌+◌, ℕ, Bool, true}
use Rattle.std.specs.List.{list_all}
use Rattle.gm_ast.specs.Program.{Program}
use Rattle.gm_depth.specs.Depths as Depths
use Rattle.gm_depth.specs.Depths.{all_within}
use Rattle.gm_forms.specs.Forms.{is_levelled}
use Rattle.gm_forms.specs.Ready.{Ready4}
use Rattle.gm_forms.specs.Sharing.{is_race_free}
use Rattle.gm_forms.specs.Typing.{has_types}
use Rattle.gm_forms.specs.Uses.{is_named}
use Rattle.gm_image.specs.declared.rules.ImageRule.{ImageRule}
use Rattle.gm_image.specs.declared.rules.ImageRule.TheVariants.{I1, I2, I3, I4, I5, I6, I7, I8, I9, I10}
use Rattle.gm_image.specs.Parts.{depth_limit, is_shallow, line_terms, command_terms}
use Rattle.gm_image.specs.Program as image
use Rattle.gm_image.specs.Rows.{Row, LineRow, CommandRow, rows, line_count}
use Rattle.gm_image.specs.Soundness.{keeps, is_sound, line_limit}
use Rattle.gm_lowering.specs.Lowered.{lowered}
use Rattle.gm_lowering_master.specs.Whole.{HasInterface}
use Rattle.gm_sound_lowering.specs.Asked.{NodesAreNodes, IsAskedProgram, HasNames}
use Rattle.gm_sound_lowering.specs.Entries.{has_few_entries}
use Rattle.gm_sound_lowering.specs.Ready.{is_lowerable}

-- each line of a program's image keeps a rule
abbrev pub KeepsRule : ImageRule → Program → Type 0
KeepsRule rule p = list_all (λ row. keeps (lowered p) row rule) (rows (lowered p)) ≡ true

-- an image that keeps each rule is sound, where its text has fewer lines than 2 ^ 32
abbrev pub RulesMakeSound : Type 0
RulesMakeSound = (p : Program) → ((rule : ImageRule) → KeepsRule rule p) → line_count (lowered p) < line_limit → is_sound (lowered p) ≡ true

-- the master list of each program goes forward, and back to the turns that lines belong to, and none of its lines but the last is its end
abbrev pub MasterListsLead : Type 0
MasterListsLead = (p : Program) → KeepsRule I3 p × KeepsRule I4 p × KeepsRule I5 p

-- in the image of each program `skip` and `each` stay within their lists
abbrev pub SpansStay : Type 0
SpansStay = (p : Program) → KeepsRule I6 p

-- whether no term of a line of an image's text is deeper than terms may be
abbrev pub is_shallow_row : Row → Bool
is_shallow_row (LineRow s l) = list_all is_shallow (line_terms l)
is_shallow_row (CommandRow j c) = list_all is_shallow (command_terms c)
is_shallow_row row = true

abbrev pub IsShallowImage : image.Program → Type 0
IsShallowImage i = list_all is_shallow_row (rows i) ≡ true

-- the image of a program of which this is asked keeps the rules of indices and of leaves, and that of types where no term is too deep
abbrev pub LinesHaveTypes : Type 0
LinesHaveTypes = (p : Program) → IsAskedProgram p → KeepsRule I1 p × KeepsRule I7 p × (IsShallowImage (lowered p) → KeepsRule I2 p)

-- the image of a program whose inputs and outputs have names keeps the rule of names
abbrev pub NamesKeep : Type 0
NamesKeep = (p : Program) → HasInterface p → HasNames p → KeepsRule I10 p

-- in each block of the image of a program with types, whose loops share what ends with them alone, each global is put by one reduction
abbrev pub PutsGoOneWay : Type 0
PutsGoOneWay = (p : Program) → has_types p ≡ true → is_named p ≡ true → is_race_free p ≡ true → KeepsRule I9 p

-- in the image of a program with types and without reductions in expressions and searches, as those in the last form are, whose loops share what ends with them alone, each field is folded by one reduction in an each and in the handlers of a block, and neither set nor read where it is folded
abbrev pub FoldsGoOneWay : Type 0
FoldsGoOneWay = (p : Program) → is_levelled p ≡ true → has_types p ≡ true → is_named p ≡ true → is_race_free p ≡ true → KeepsRule I8 p

-- no expression of a program's image is too deep, where none of the program has more levels than some limit, and no tuple that is kept at once has more than 511 entries. A node variable that is checked has a level more, and a value that is kept at once two more
abbrev pub ImagesAreShallow : Type 0
ImagesAreShallow = (limit : ℕ) (p : Program) → limit + 3 ≤ depth_limit → all_within limit p.body ≡ true → has_few_entries p ≡ true → IsShallowImage (lowered p)

-- the image of a program of which this is asked is sound, where its loops share what ends with them alone, no expression has more than 512 levels, no tuple that is kept at once has more than 511 entries, and the image's text has fewer lines than 2 ^ 32
abbrev pub ImagesAreSound : Type 0
ImagesAreSound =
    (p : Program) → IsAskedProgram p → HasNames p → is_race_free p ≡ true → Depths.is_shallow p ≡ true → has_few_entries p ≡ true → line_count (lowered p) < line_limit → is_sound (lowered p) ≡ true

-- of a program that the passes made ready all is asked that is asked, where its iterators and graphs are nodes, its inputs and outputs are declared outside of loops, and its expressions and what it keeps at once may be lowered
abbrev pub ReadyIsAsked : Type 0
ReadyIsAsked = (p : Program) → Ready4 p → NodesAreNodes p.declarations → HasInterface p → is_lowerable p ≡ true → IsAskedProgram p

-- so its image is sound
abbrev pub ReadyImagesAreSound : Type 0
ReadyImagesAreSound =
    (p : Program) → Ready4 p → NodesAreNodes p.declarations → HasInterface p → is_lowerable p ≡ true → HasNames p → Depths.is_shallow p ≡ true → has_few_entries p ≡ true → line_count (lowered p) < line_limit
    → is_sound (lowered p) ≡ true
