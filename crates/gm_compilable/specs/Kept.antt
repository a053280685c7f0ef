-- What is left to ask of a parted program so that its image can be made: what it keeps at once are numbers.
use Rattle.std.specs.Prelude.{◌≡◌, ◌<◌, ℕ, Bool, true, ◌&&◌, if◌then◌else◌, List}
use Rattle.std.specs.List.{list_all}
use Rattle.gm_ast.specs.declared.tree.Declaration.{Declaration}
use Rattle.gm_ast.specs.Procedures.{IsTyped}
use Rattle.gm_ast.specs.Program.{Stmt, Then, Combine, Foreach, For, If, While, Do, Program}
use Rattle.gm_depth.specs.Depths.{is_shallow}
use Rattle.gm_forms.specs.Ready.{Ready0, Ready4}
use Rattle.gm_image.specs.Rows.{line_count}
use Rattle.gm_image.specs.Soundness.{is_sound, line_limit}
use Rattle.gm_lowering.specs.Lowered.{lowered}
use Rattle.gm_lowering.specs.Plans.{way_of, is_here}
use Rattle.gm_sound_lowering.specs.Asked.{may_pick}
use Rattle.gm_sound_lowering.specs.Entries.{has_few_entries}
use Rattle.gm_sound_lowering.specs.Ready.{is_number, is_lowerable}
use Rattle.gm_compilable.specs.Laws.{IsOfText}
use Rattle.gm_compilable.specs.Parted.{parted}

-- whether what a body keeps at once at a node are numbers in locals
abbrev pub keeps_numbers_body : List Declaration → ℕ → Stmt → Bool
keeps_numbers_body ds n (Then a b) = keeps_numbers_body ds n a && keeps_numbers_body ds n b
keeps_numbers_body ds n (Combine k total r ts es) = may_pick (way_of ds n ts) ds ts
keeps_numbers_body ds n (If k c a b) = keeps_numbers_body ds n a && keeps_numbers_body ds n b
keeps_numbers_body ds n _ = true

-- the same of a parallel loop: an inner loop's body is one at the node where it is evaluated
abbrev pub keeps_numbers_loop : List Declaration → ℕ → Stmt → Bool
keeps_numbers_loop ds n (Foreach k at h test body) = keeps_numbers_body ds (if is_here ds n h test body then n else h.iterator) body
keeps_numbers_loop ds n body = keeps_numbers_body ds n body

-- and of a statement of a sequential phase, which keeps all at once
abbrev pub keeps_numbers_phase : List Declaration → Stmt → Bool
keeps_numbers_phase ds (Then a b) = keeps_numbers_phase ds a && keeps_numbers_phase ds b
keeps_numbers_phase ds (Combine k total r ts es) = list_all (is_number ds) ts
keeps_numbers_phase ds (Foreach k at h test body) = keeps_numbers_loop ds h.iterator body
keeps_numbers_phase ds (For k at h test body) = keeps_numbers_phase ds body
keeps_numbers_phase ds (If k c a b) = keeps_numbers_phase ds a && keeps_numbers_phase ds b
keeps_numbers_phase ds (While k at c body) = keeps_numbers_phase ds body
keeps_numbers_phase ds (Do k at body c) = keeps_numbers_phase ds body
keeps_numbers_phase ds _ = true

abbrev pub keeps_numbers : Program → Bool
keeps_numbers p = keeps_numbers_phase p.declarations p.body

-- a parted program may be lowered where what it keeps at once are numbers: its constants are no nodes but NIL, and its Fors iterate nodes of the procedure
abbrev pub PartedIsLowerable : Type 0
PartedIsLowerable = (p : Program) → IsTyped p → Ready0 p → keeps_numbers (parted p) ≡ true → is_lowerable (parted p) ≡ true

-- so its image is sound, in the program of a text, where besides no expression has more than 512 levels, no tuple that is kept at once has more than 511 entries, and the image's text has fewer lines than 2 ^ 32
abbrev pub PartedImagesAreSound : Type 0
PartedImagesAreSound =
    (p : Program) → IsOfText p → Ready0 p → let q = parted p in
    Ready4 q → keeps_numbers q ≡ true → is_shallow q ≡ true → has_few_entries q ≡ true → line_count (lowered q) < line_limit → is_sound (lowered q) ≡ true
