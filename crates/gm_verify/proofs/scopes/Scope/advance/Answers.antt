use Rattle.std.proofs.Common.{◌≡◌, ◌∙◌, ℕ, List, map, take, sym, ap}
use Rattle.std.specs.Prelude.{nat_eq, ◌||◌}
use Rattle.std.specs.List.{list_any}
use Rattle.gm_image.specs.Program.{Line}
use Rattle.gm_image.specs.Views.{line}
use Rattle.gm_image.specs.Parts.{is_among}
use Rattle.gm_image.specs.Rows.{left_after}
use Rattle.gm_image.specs.Folds.{folded_fields}
use Rattle.gm_verify.specs.declared.scopes.Scope.{Scope}
use Rattle.gm_verify.proofs.Moving.{take-some, moves-in}
use Rattle.gm_verify.proofs.scopes.Scope.advance.Goals.{else-before-ne0-via-then-before-ne0+else-self-ne0, else-before-ne0-via-else-before-ne0}
use Rattle.gm_verify.proofs.scopes.Scope.advance.Goals as goal

pub returns-in_ok-add_folded : goal.returns-in_ok-add_folded
returns-in_ok-add_folded c = λ a shown.
    let later = c.args.later.now in
    let l = line c.args.vertex_line.now in
    let left = c.left_after-self.result in
    let some = c.if-self-ne0-2.true in
    let none : c.args.self.now.left ≡ 0 = elim c.else-before-ne0.branch [
      | else-before-ne0-via-then-before-ne0+else-self-ne0 w ↦ absurd (some w.if-self-ne0.false)
      | else-before-ne0-via-else-before-ne0 w ↦ w.if-before-ne0.false
    ] in
    let new : Scope = record { each = c.each_of-self.result; left = left; folded = c.add_folded.new.set; firsts = c.new-2.result } in
    moves-in new a l (map line later) (shown.left ∙ none) (c.left_after-self.ensures ∙ ap (λ (k : ℕ). left_after k l) (sym shown.left)) some c.each_of-self.ensures
    (λ k.
    c.in_ok-add_folded.ensures k
    ∙ ap (λ (ks : List ℕ). list_any (nat_eq k) ks || is_among k (folded_fields (map line (take c.min-count.result later)))) c.new.ensures.empty
    ∙ ap (λ (ls : List Line). is_among k (folded_fields ls)) (take-some later left c.min-count.result c.min-count.ensures))
    c.new-2.ensures
