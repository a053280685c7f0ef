use Rattle.std.proofs.Common.{◌≡◌, ◌+◌, ◌<◌, ◌∙◌, ◌++◌, ◌∷◌, [], ℕ, suc, Bool, not, List, length, map, sym, ap, refl, arith}
use Rattle.std.specs.Prelude.{nat_eq, slice_get}
use Rattle.std.proofs.lemmas.List.{length-map}
use Rattle.gm_image.specs.Views.{line}
use Rattle.gm_image.specs.Rows.{left_after}
use Rattle.gm_verify.proofs.Adding.{length-push}
use Rattle.gm_verify.proofs.Insides.{insides-push, left_past-next}
use Rattle.gm_verify.proofs.lines.insides.Goals as goal

pub loop-vertex_line-preserved : goal.loop-vertex_line-preserved
loop-vertex_line-preserved c =
    let xs = c.args.lines.now in
    let ls = map line xs in
    let i = c.loop-vertex_line.vertex_line-index in
    let left = c.loop-vertex_line.left in
    let v = c.loop-vertex_line.insides.items in
    let inv = c.loop-vertex_line.invariant in
    let b = not (nat_eq left 0) in
    let more : c.push.new.self.items ≡ v ++ b ∷ [] = c.in_ok-push.ensures.items in
    let next : i + 1 ≡ suc i = omega arith in
    let count : length (v ++ b ∷ []) ≡ i + 1 = length-push v b ∙ ap (λ (n : ℕ). n + 1) inv.long in
    record {
      known = λ k lt. ap (λ (u : List Bool). slice_get u k) more ∙ insides-push v ls i left b inv refl k lt;
      long = ap length more ∙ count;
      now = c.left_after-left.ensures ∙ ap (λ (n : ℕ). left_after n (line c.vertex_line-item.result)) inv.now
          ∙ sym (left_past-next xs i (i + 1) 0 c.vertex_line-item.result next c.loop-vertex_line-test.true c.vertex_line-item.is);
    }

pub returns : goal.returns
returns c =
    let ls = map line c.args.lines.now in
    let i = c.loop-vertex_line.vertex_line-index in
    let left = c.loop-vertex_line.left in
    let v = c.loop-vertex_line.insides.items in
    let inv = c.loop-vertex_line.invariant in
    let b = not (nat_eq left 0) in
    let more : c.push-2.new.self.items ≡ v ++ b ∷ [] = c.in_ok-push-2.ensures.items in
    let whole : length c.args.lines.now ≡ i = omega (arith, c.loop-vertex_line-test.false) in
    let count : length (v ++ b ∷ []) ≡ length ls + 1 = length-push v b ∙ ap (λ (n : ℕ). n + 1) (inv.long ∙ sym whole ∙ sym (length-map c.args.lines.now line)) in
    record {
      long = ap length more ∙ count;
      known = λ k within.
          let low : k < i + 1 = omega (arith, within, whole, length-map c.args.lines.now line) in
          ap (λ (u : List Bool). slice_get u k) more ∙ insides-push v ls i left b inv refl k low;
    }
