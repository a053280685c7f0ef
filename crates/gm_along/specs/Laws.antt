-- Programs of accepted texts read no edge against the way of a message, and so each slice of their inner loops goes one way.
use Rattle.std.specs.Prelude.{◌≡◌, [], true}
use Rattle.gm_ast.specs.Canonical.{uncanonical}
use Rattle.gm_ast.specs.Procedures.{IsTyped}
use Rattle.gm_ast.specs.Program.{Program}
use Rattle.gm_forms.specs.Ready.{Ready2}
use Rattle.gm_desugaring.specs.Desugaring.{CanBeDesugared, CanBecomeLoops, with_plain_loops}
use Rattle.gm_bfs.specs.Levelled.{levelled}
use Rattle.gm_cut.specs.Lean.{has_slices_that_go}
use Rattle.gm_cut.specs.Parts.{in_pieces}
use Rattle.gm_parting.specs.Apart.{with_statements_apart}
use Rattle.gm_parting.specs.Passes.{prepared}
use Rattle.gm_parting.specs.Tuples.{has_even_tuples}
use Rattle.gm_one_way.specs.Along.{ReadsAlong}
use Rattle.gm_along.specs.Scopes.{IsScoped}

-- a program that breaks no rule of types writes, of the locals of a parallel loop, those alone that its body declares
abbrev pub TypedAreScoped : Type 0
TypedAreScoped = (p : Program) → IsTyped p → IsScoped p

-- where it breaks no rule of canonical form either, each of its inner loops reads no edge against the way of a message
abbrev pub CanonicalReadAlong : Type 0
CanonicalReadAlong = (p : Program) → IsTyped p → uncanonical p ≡ [] → ReadsAlong p

-- the passes up to plain loops keep it
abbrev pub PlainLoopsReadAlong : Type 0
PlainLoopsReadAlong = (p : Program) → CanBeDesugared p → ReadsAlong p → ReadsAlong (with_plain_loops p)

-- and with the one that writes searches as loops over levels they do
abbrev pub LevelsReadAlong : Type 0
LevelsReadAlong = (p : Program) → CanBecomeLoops p → ReadsAlong p → ReadsAlong (levelled (with_plain_loops p))

-- so each slice goes one way once such a program is prepared and its bodies go to pieces, where no reduction of its loops has targets that are declared inside different loops
abbrev pub CanonicalGoOneWay : Type 0
CanonicalGoOneWay = (p : Program) → IsTyped p → uncanonical p ≡ [] → CanBecomeLoops p → Ready2 (levelled (with_plain_loops p)) → has_even_tuples (levelled (with_plain_loops p)) ≡ true
    → has_slices_that_go (with_statements_apart (in_pieces (prepared (levelled (with_plain_loops p))))) ≡ true
