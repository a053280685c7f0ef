use Rattle.std.proofs.Common.{◌≡◌, [], ◌∷◌, map, ap, sym, ◌∙◌}
use Rattle.gm_ast.specs.Program.{Skip, sequence}
use Rattle.gm_ast.specs.Tree.{stmt_of}
use Rattle.gm_dissect.proofs.Trees.{stmt_of-Block}
use Rattle.gm_slices.specs.Sets.{set_of}
use Rattle.gm_slices.proofs.SliceWalks.{on-then}
use Rattle.gm_slices.proofs.Wanted.{plain-kept, plain-needs, plain-gone, plain-rest}
use Rattle.gm_slices.proofs.keeping.keep_plain.Goals as goal

pub returns-then-wanted-clause-kept : goal.returns-then-wanted-clause-kept
returns-then-wanted-clause-kept c =
    let n = c.args.ends.outer in
    on-then c.read.result c.read.ensures (λ e.
    plain-kept c.args.declarations.now (n ∷ c.args.ends.inner ∷ []) n c.args.new (stmt_of c.args.s.now) (set_of c.args.needs.now) c.requires (sym c.is_wanted-wanted.ensures ∙ c.if-wanted.true))

pub returns-then-wanted-clause-needs : goal.returns-then-wanted-clause-needs
returns-then-wanted-clause-needs c =
    let n = c.args.ends.outer in
    on-then c.read.result c.read.ensures (λ e.
    e ∙ plain-needs c.args.declarations.now (n ∷ c.args.ends.inner ∷ []) n c.args.new (stmt_of c.args.s.now) (set_of c.args.needs.now) c.requires (sym c.is_wanted-wanted.ensures ∙ c.if-wanted.true))

pub returns-clause-kept : goal.returns-clause-kept
returns-clause-kept c =
    let n = c.args.ends.outer in
    let gone : stmt_of c.put.new.s ≡ Skip = ap stmt_of c.put.ensures ∙ stmt_of-Block c.new.result ∙ ap (λ l. sequence (map stmt_of l)) c.new.ensures.items in
    gone ∙ plain-gone c.args.declarations.now (n ∷ c.args.ends.inner ∷ []) n c.args.new (stmt_of c.args.s.now) (set_of c.args.needs.now) c.requires (sym c.is_wanted-wanted.ensures ∙ c.if-wanted.false)

pub returns-clause-needs : goal.returns-clause-needs
returns-clause-needs c =
    let n = c.args.ends.outer in
    plain-rest c.args.declarations.now (n ∷ c.args.ends.inner ∷ []) n c.args.new (stmt_of c.args.s.now) (set_of c.args.needs.now) c.requires (sym c.is_wanted-wanted.ensures ∙ c.if-wanted.false)
