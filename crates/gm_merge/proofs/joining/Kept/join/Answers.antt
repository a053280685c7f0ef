use Rattle.std.proofs.Common.{◌≡◌, ◌∙◌, ◌||◌, ◌++◌, ◌+◌, ℕ, Bool, List, min, map, length, sym, ap, subst}
use Rattle.std.proofs.lemmas.List.{length-map}
use Rattle.gm_image.specs.declared.lines.VertexLine.{VertexLine}
use Rattle.gm_image.specs.Program.{Line}
use Rattle.gm_image.specs.Views.{line, block}
use Rattle.gm_merge_laws.specs.Joins.{block_lines, restarts}
use Rattle.gm_merge.specs.Earlier.{Shows}
use Rattle.gm_merge.specs.Registers.{sets_some}
use Rattle.gm_merge.proofs.Restarting.{shows-joined, sets-joined, rows-joined}
use Rattle.gm_merge.proofs.joining.Kept.join.Goals as goal

pub returns-clause-between : goal.returns-clause-between
returns-clause-between c = λ a k.
    c.in_ok-between.ensures a.body k.set ∙ ap (λ (ls : List VertexLine). restarts c.args.registers.now a.body (map line ls)) c.as_slice-body.ensures

pub returns-clause-keeps : goal.returns-clause-keeps
returns-clause-keeps c = λ a k.
    let rs = c.args.registers.now in
    let b = block c.args.second.now in
    let between = c.in_ok-between.between.items in
    let body : map line c.as_slice-body.result.now ≡ b.body = ap (λ (ls : List VertexLine). map line ls) c.as_slice-body.ensures in
    let between-is = c.in_ok-between.ensures a.body k.set ∙ ap (λ (ls : List Line). restarts rs a.body ls) body in
    let between-long : c.len.result ≡ length (map line between) = c.len.ensures ∙ c.in_ok-between.between.ok.0 ∙ sym (length-map between line) in
    let body-long : length c.as_slice-body.result.now ≡ length b.body = sym (length-map c.as_slice-body.result.now line) ∙ ap (λ (ls : List Line). length ls) body in
    record {
      earlier = shows-joined _ rs a b (subst (λ (ls : List Line). Shows c.add.new.self (block_lines a ++ ls)) body (c.in_ok-add.ensures (block_lines a) k.earlier));
      set = λ r.
          c.in_ok-add_set.ensures r
          ∙ ap (λ (x : Bool). x || sets_some (map line c.as_slice-body.result.now) r) (k.set r)
          ∙ ap (λ (ls : List Line). sets_some a.body r || sets_some ls r) body
          ∙ sym (sets-joined rs a b r);
      rows = rows-joined rs a b c.args.self.now.rows c.with_lines.result c.with_lines-self.result (map line between) between-is k.rows
          (c.with_lines.ensures ∙ ap (λ (n : ℕ). min (c.args.self.now.rows + n) 4294967296) between-long)
          (c.with_lines-self.ensures ∙ ap (λ (n : ℕ). min (c.with_lines.result + n) 4294967296) body-long);
    }
