-- The least rule that a line breaks, by what is known of each rule in turn.
use Rattle.std.proofs.Common.{◌≡◌, Bool, cond, Option, Some, None, refl, sym, ap, ◌∙◌}
use Rattle.std.specs.Prelude.{not}
use Rattle.gm_image.specs.declared.rules.ImageRule.{ImageRule}
use Rattle.gm_image.specs.declared.rules.ImageRule.TheVariants.{I1, I2, I3, I4, I5, I6, I7, I8, I9, I10}
use Rattle.gm_image.specs.Program.{Program}
use Rattle.gm_image.specs.Rows.{Row}
use Rattle.gm_image.specs.Soundness.{keeps, broken_rule}

-- the least rule that is not kept, by which are
abbrev pub least_of : Bool → Bool → Bool → Bool → Bool → Bool → Bool → Bool → Bool → Bool → Option ImageRule
least_of a b c d e f g h i j =
    cond (not a) (Some I1) (cond (not b) (Some I2) (cond (not c) (Some I3) (cond (not d) (Some I4) (cond (not e) (Some I5)
    (cond (not f) (Some I6) (cond (not g) (Some I7) (cond (not h) (Some I8) (cond (not i) (Some I9) (cond (not j) (Some I10) None)))))))))

pub least : (p : Program) (row : Row) (a b c d e f g h i j : Bool)
    → keeps p row I1 ≡ a → keeps p row I2 ≡ b → keeps p row I3 ≡ c → keeps p row I4 ≡ d → keeps p row I5 ≡ e
    → keeps p row I6 ≡ f → keeps p row I7 ≡ g → keeps p row I8 ≡ h → keeps p row I9 ≡ i → keeps p row I10 ≡ j
    → least_of a b c d e f g h i j ≡ broken_rule p row
least p row a b c d e f g h i j ha hb hc hd he hf hg hh hi hj =
    let start : broken_rule p row ≡ least_of (keeps p row I1) (keeps p row I2) (keeps p row I3) (keeps p row I4) (keeps p row I5) (keeps p row I6) (keeps p row I7) (keeps p row I8) (keeps p row I9) (keeps p row I10) = refl in
    sym (start
    ∙ ap (λ (z : Bool). least_of z (keeps p row I2) (keeps p row I3) (keeps p row I4) (keeps p row I5) (keeps p row I6) (keeps p row I7) (keeps p row I8) (keeps p row I9) (keeps p row I10)) ha
    ∙ ap (λ (z : Bool). least_of a z (keeps p row I3) (keeps p row I4) (keeps p row I5) (keeps p row I6) (keeps p row I7) (keeps p row I8) (keeps p row I9) (keeps p row I10)) hb
    ∙ ap (λ (z : Bool). least_of a b z (keeps p row I4) (keeps p row I5) (keeps p row I6) (keeps p row I7) (keeps p row I8) (keeps p row I9) (keeps p row I10)) hc
    ∙ ap (λ (z : Bool). least_of a b c z (keeps p row I5) (keeps p row I6) (keeps p row I7) (keeps p row I8) (keeps p row I9) (keeps p row I10)) hd
    ∙ ap (λ (z : Bool). least_of a b c d z (keeps p row I6) (keeps p row I7) (keeps p row I8) (keeps p row I9) (keeps p row I10)) he
    ∙ ap (λ (z : Bool). least_of a b c d e z (keeps p row I7) (keeps p row I8) (keeps p row I9) (keeps p row I10)) hf
    ∙ ap (λ (z : Bool). least_of a b c d e f z (keeps p row I8) (keeps p row I9) (keeps p row I10)) hg
    ∙ ap (λ (z : Bool). least_of a b c d e f g z (keeps p row I9) (keeps p row I10)) hh
    ∙ ap (λ (z : Bool). least_of a b c d e f g h z (keeps p row I10)) hi
    ∙ ap (λ (z : Bool). least_of a b c d e f g h i z) hj)
