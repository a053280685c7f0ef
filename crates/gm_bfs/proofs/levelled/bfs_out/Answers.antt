use Rattle.std.proofs.Common.{◌≡◌, ap, ◌∙◌, sym, subst, true}
use Rattle.gm_ast.specs.Tree.{program_of}
use Rattle.gm_ast.specs.Program.{Program}
use Rattle.gm_forms.specs.Forms.{is_levelled}
use Rattle.gm_forms.specs.Meanings.{SameMeaning}
use Rattle.gm_forms.specs.Order.{is_ordered}
use Rattle.gm_forms.specs.Sharing.{is_race_free}
use Rattle.gm_forms.specs.Typing.{has_types}
use Rattle.gm_forms.specs.Uses.{is_named}
use Rattle.gm_bfs.specs.Levelled.{levelled}
use Rattle.gm_bfs.proofs.Form.{levelled-form}
use Rattle.gm_bfs.proofs.Same.{levelled-same}
use Rattle.gm_bfs.proofs.Ordered.{levelled-ordered}
use Rattle.gm_bfs.proofs.RaceFree.{levelled-race_free}
use Rattle.gm_bfs.proofs.NamedKept.{levelled-named}
use Rattle.gm_bfs.proofs.TypedKept.{levelled-typed}
use Rattle.gm_bfs.proofs.levelled.bfs_out.Goals as goal

pub returns-clause-made : goal.returns-clause-made
returns-clause-made c = ap program_of c.new.ensures ∙ c.in_ok-without_searches.ensures ∙ ap (λ t. levelled (program_of t)) c.into_tree-tree.ensures

pub returns-clause-same : goal.returns-clause-same
returns-clause-same c named desugared =
    subst (SameMeaning (program_of c.args.program)) (sym (returns-clause-made c)) (levelled-same (program_of c.args.program) named desugared)

pub returns-clause-form : goal.returns-clause-form
returns-clause-form c named desugared =
    subst (λ (p : Program). is_levelled p ≡ true) (sym (returns-clause-made c)) (levelled-form (program_of c.args.program) named desugared)

pub returns-clause-named : goal.returns-clause-named
returns-clause-named c named =
    subst (λ (p : Program). is_named p ≡ true) (sym (returns-clause-made c)) (levelled-named (program_of c.args.program) named)

pub returns-clause-typed : goal.returns-clause-typed
returns-clause-typed c named typed =
    subst (λ (p : Program). has_types p ≡ true) (sym (returns-clause-made c)) (levelled-typed (program_of c.args.program) named typed)

pub returns-clause-ordered : goal.returns-clause-ordered
returns-clause-ordered c ordered =
    subst (λ (p : Program). is_ordered p ≡ true) (sym (returns-clause-made c)) (levelled-ordered (program_of c.args.program) ordered)

pub returns-clause-race_free : goal.returns-clause-race_free
returns-clause-race_free c named desugared shared =
    subst (λ (p : Program). is_race_free p ≡ true) (sym (returns-clause-made c)) (levelled-race_free (program_of c.args.program) named desugared shared)
