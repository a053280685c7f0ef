use Rattle.std.proofs.lemmas.Str.{IsUtf8-from_ascii, utf8_lossy-IsUtf8}
use Rattle.gm_source_runs.proofs.laws.rows_are_worked.Goals as goal

pub returns-clause-names : goal.returns-clause-names
returns-clause-names c = λ d ascii. utf8_lossy-IsUtf8 d.name (IsUtf8-from_ascii d.name ascii)
