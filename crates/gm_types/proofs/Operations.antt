-- Operations on numbers, and those that compare.
use Rattle.std.proofs.Common.{◌≡◌, true, false, ◌++◌}
use Rattle.std.specs.Prelude.{Bool, Ok, if◌then◌else◌, ◌||◌, ◌&&◌}
use Rattle.gm_base.specs.declared.places.Place.{Place}
use Rattle.gm_value.specs.declared.operations.Op2.{Op2}
use Rattle.gm_base.specs.declared.rules.Rule.TheVariants.{T8}
use Rattle.gm_value.specs.declared.values.VType.TheVariants.{Flag}
use Rattle.gm_ast.specs.declared.kinds.Kind.{Kind}
use Rattle.gm_ast.specs.declared.kinds.Kind.TheVariants.{Of}
use Rattle.gm_ast.specs.Program as P
use Rattle.gm_ast.specs.declared.surface.Infix.TheVariants.{And, Or}
use Rattle.gm_ast.specs.Judged.{then_answer, refused}
use Rattle.gm_ast.specs.Kinds.{Part, part_of, is_number, is_flag}
use Rattle.gm_ast.specs.Typing.{infix_part, operation, paired, compared_as, large_of, compares_any, is_value, is_arithmetic}

-- an operation that gives a number
pub operation-number : (at : Place) (op : Op2) (k : Kind) (a b : Part) → is_arithmetic op ≡ true → is_number k ≡ true
    → operation at op k a b ≡ then_answer (paired at k a b) (λ p. record { kind = k; core = P.Binary op at p.0 p.1; large = large_of k (a.large ++ b.large) })
operation-number at op k a b h n = rw (h, n)

-- an operation that compares
pub operation-compared : (at : Place) (op : Op2) (k : Kind) (a b : Part) → is_arithmetic op ≡ false → (is_number k || (compares_any op && is_value k)) ≡ true
    → operation at op k a b ≡ then_answer (paired at (compared_as k (large_of k (a.large ++ b.large))) a b) (λ p. part_of (Of Flag) (P.Binary op at p.0 p.1))
operation-compared at op k a b h n = rw (h, n)

-- `&&` or `||` between conditions
pub connected-flags : (at : Place) (both : Bool) (a b : Part) → (is_flag a.kind && is_flag b.kind) ≡ true
    → infix_part at (if both then And else Or) (a, b) ≡ Ok (part_of (Of Flag) (if both then P.Both a.core b.core else P.Either a.core b.core))
connected-flags at true a b h = rw h
connected-flags at false a b h = rw h

-- `&&` or `||` where an operand is none
pub unconnected : (at : Place) (both : Bool) (a b : Part) → (is_flag a.kind && is_flag b.kind) ≡ false
    → infix_part at (if both then And else Or) (a, b) ≡ refused T8 at
unconnected at true a b h = rw h
unconnected at false a b h = rw h
