-- The rules of a vertex line, by what the code knows of its site.
use Rattle.std.proofs.Common.{◌≡◌, ℕ, Bool, true, Option, refl, ap, ◌∙◌}
use Rattle.std.specs.Prelude.{◌&&◌}
use Rattle.std.specs.List.{list_all}
use Rattle.gm_image.specs.Program.{Program, Line, Direction}
use Rattle.gm_image.specs.Parts.{all_leaves, line_terms}
use Rattle.gm_image.specs.Rows.{Site, LineRow}
use Rattle.gm_image.specs.Indices.{line_in_range, term_in_range}
use Rattle.gm_image.specs.Fits.{line_fits}
use Rattle.gm_image.specs.Spans.{line_stays}
use Rattle.gm_image.specs.Leaves.{stands_at_vertex}
use Rattle.gm_image.specs.Folds.{line_folds, puts_one_way}
use Rattle.gm_image.specs.Soundness.{broken_rule}
use Rattle.gm_verify.proofs.Leasts.{least, least_of}

-- the least rule that a line breaks, by which rules it keeps
pub line-least : (p : Program) (s : Site) (l : Line) (kind : Option ℕ) (each : Option Direction) (a b f g h i : Bool) → s.kind ≡ kind → s.around.each ≡ each
    → (line_in_range p l && list_all (term_in_range p kind) (line_terms l)) ≡ a → line_fits p kind l ≡ b → line_stays s l ≡ f
    → list_all (all_leaves (stands_at_vertex kind each)) (line_terms l) ≡ g → line_folds s l ≡ h → puts_one_way s.earlier l ≡ i
    → least_of a b true true true f g h i true ≡ broken_rule p (LineRow s l)
line-least p s l kind each a b f g h i kinds eachs ha hb hf hg hh hi =
    least p (LineRow s l) a b true true true f g h i true
    (ap (λ (k : Option ℕ). line_in_range p l && list_all (term_in_range p k) (line_terms l)) kinds ∙ ha)
    (ap (λ (k : Option ℕ). line_fits p k l) kinds ∙ hb) refl refl refl hf
    (ap (λ (k : Option ℕ). list_all (all_leaves (stands_at_vertex k s.around.each)) (line_terms l)) kinds
    ∙ ap (λ (e : Option Direction). list_all (all_leaves (stands_at_vertex kind e)) (line_terms l)) eachs ∙ hg)
    hh hi refl
