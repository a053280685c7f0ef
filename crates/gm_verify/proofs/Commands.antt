-- The lines of the master list from an index on.
use Rattle.std.proofs.Common.{◌≡◌, ◌+◌, ◌<◌, ◌≤◌, ℕ, suc, List, [], ◌∷◌, drop, length, map, get_or, ap, refl, ◌∙◌, arith}
use Rattle.gm_image.specs.declared.lines.MasterLine.{MasterLine}
use Rattle.gm_image.specs.Program.{Command}
use Rattle.gm_image.specs.Views.{command}
use Rattle.gm_image.specs.Rows.{CommandRow, command_rows}
use Rattle.gm_verify.proofs.Lists.{drop-item, nothing-left}

-- the next line, and those after it
pub commands-at : (cs : List MasterLine) (i : ℕ) (x : MasterLine) → i < length cs → x ≡ get_or cs i x
    → command_rows i (map command (drop i cs)) ≡ CommandRow i (command x) ∷ command_rows (i + 1) (map command (drop (i + 1) cs))
commands-at cs i x lt is =
    let next : suc i ≡ i + 1 = omega arith in
    ap (λ (ys : List MasterLine). command_rows i (map command ys)) (drop-item cs i x lt is)
    ∙ ap (λ (k : ℕ). CommandRow i (command x) ∷ command_rows k (map command (drop (i + 1) cs))) next

-- no line is left
pub commands-end : (cs : List MasterLine) (i : ℕ) → length cs ≤ i → command_rows i (map command (drop i cs)) ≡ []
commands-end cs i end = ap (λ (ys : List MasterLine). command_rows i (map command ys)) (nothing-left cs i end)

pub length-command_rows : (cs : List Command) (i : ℕ) → length (command_rows i cs) ≡ length cs
length-command_rows [] i = refl
length-command_rows (c ∷ cs) i = ap suc (length-command_rows cs (suc i))
