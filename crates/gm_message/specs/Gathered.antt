-- Loads one after another, each once.
use Rattle.std.specs.Prelude.{if◌then◌else◌, List, [], ◌∷◌, ◌++◌}
use Rattle.std.specs.List.{list_any}
use Rattle.gm_lowering.specs.Plans.{Load, same_load}

-- loads with more behind them, without those that are there
abbrev pub gathered : List Load → List Load → List Load
gathered found [] = found
gathered found (x ∷ xs) = if list_any (same_load x) found then gathered found xs else gathered (found ++ x ∷ []) xs
