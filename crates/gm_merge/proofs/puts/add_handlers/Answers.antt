use Rattle.std.proofs.Common.{◌∙◌, ◌||◌, Bool, List, take, map, sym, ap}
use Rattle.std.specs.Prelude.{nat_eq}
use Rattle.std.specs.HashSet.{contains}
use Rattle.gm_image.specs.declared.lines.VertexLine.{VertexLine}
use Rattle.gm_image.specs.declared.images.Handler as H
use Rattle.gm_image.specs.Views.{line, handler}
use Rattle.gm_image.specs.Parts.{is_among}
use Rattle.gm_verify.proofs.Lists.{taken-all}
use Rattle.gm_verify.proofs.Slots.{or-assoc, or-none}
use Rattle.gm_merge_laws.specs.Joins.{put_globals}
use Rattle.gm_merge.specs.Tests.{lines_of}
use Rattle.gm_merge.proofs.Putting.{puts-handled}
use Rattle.gm_merge.proofs.puts.add_handlers.Goals as goal

pub loop-handled-init : goal.loop-handled-init
loop-handled-init c = λ n. or-none (contains nat_eq c.args.set.now n)

pub loop-handled-preserved : goal.loop-handled-preserved
loop-handled-preserved c = λ n.
    let hs = c.args.handlers.now in
    let i = c.loop-handled.handled-index in
    let x = c.handled-item.result in
    let before = is_among n (put_globals (lines_of (map handler (take i hs)))) in
    c.in_ok-add_puts.ensures n
    ∙ ap (λ (ls : List VertexLine). contains nat_eq c.loop-handled.set n || is_among n (put_globals (map line ls))) c.as_slice.ensures
    ∙ ap (λ (b : Bool). b || is_among n (put_globals (map line x.lines))) (c.loop-handled.invariant n)
    ∙ or-assoc (contains nat_eq c.args.set.now n) before (is_among n (put_globals (map line x.lines)))
    ∙ ap (λ (b : Bool). contains nat_eq c.args.set.now n || b) (sym (puts-handled hs i x n c.loop-handled-test.true c.handled-item.is))

pub returns : goal.returns
returns c = λ n.
    c.loop-handled.invariant n
    ∙ ap (λ (xs : List H.Handler). contains nat_eq c.args.set.now n || is_among n (put_globals (lines_of (map handler xs)))) (taken-all c.args.handlers.now c.loop-handled.handled-index c.loop-handled-test.false)
