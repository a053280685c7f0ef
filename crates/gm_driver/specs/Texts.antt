-- The lines that the program writes where no graph is run.
use Rattle.std.specs.Prelude.{ℕ, List, ◌++◌, codes}
use Rattle.gm_base.specs.declared.rules.Refusal.{Refusal}
use Rattle.gm_base.specs.Rules.{refusal_text}
use Rattle.gm_listing.specs.Listing.{line_end}

abbrev pub usage_text : List ℕ
usage_text = codes "usage: gm run PROG GRAPH | check PROG | compile PROG | exec IMAGE GRAPH | demo N" ++ line_end

abbrev pub accepted_text : List ℕ
accepted_text = codes "accepted" ++ line_end

abbrev pub refused_text : Refusal → List ℕ
refused_text r = refusal_text r ++ line_end

abbrev pub no_image_text : List ℕ
no_image_text = codes "program NoImage" ++ line_end
