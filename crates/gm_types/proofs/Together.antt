-- Parts that are judged with violations beside them.
use Rattle.std.proofs.Common.{◌≡◌, ◌+◌, List, [], ◌++◌, ap, sym, refl, ◌∙◌, Option, length, append-nil, arith}
use Rattle.std.specs.Prelude.{Some, None, Ok}
use Rattle.gm_base.specs.declared.rules.Refusal.{Refusal}
use Rattle.gm_base.specs.Rules.{least_from}
use Rattle.gm_ast.specs.Judged.{Judged, both_of, beside, part_by, judge, noted}
use Rattle.gm_types.specs.declared.names.Checker.{Checker}
use Rattle.gm_types.specs.Views.{env_of, Judges}
use Rattle.gm_types.proofs.Leasts.{least_from-append}
use Rattle.gm_types.proofs.Walks.{same_counts}
use Rattle.gm_types.proofs.Sequences.{nothing_broken}

-- the first of two parts, of which the second is always there
pub first-of : {A : Type 0} (o : Option A) → o ≡ part_by (both_of o (Some (tt {0}))) (λ q. Ok q.0)
first-of None = refl
first-of (Some a) = refl

-- a part with violations beside it
pub judges-noted : {A : Type 0} {old mid new : Checker} {x : Judged A} {p : Option A} (rs : List Refusal)
    → Judges old mid x p → new.least ≡ least_from mid.least rs → new.declarations.items ≡ mid.declarations.items → env_of new ≡ env_of mid
    → Judges old new (judge (beside x (noted (tt {0}) rs)) (λ q. Ok q.0)) p
judges-noted {old = old} {x = x} rs h noted_more same_declarations same_names =
    let declared : x.declared ++ [] ≡ x.declared = append-nil x.declared in
    let next : (env_of old).next + length x.declared ≡ (env_of old).next + length (x.declared ++ []) = ap (λ ds. (env_of old).next + length ds) (sym declared) in
    let number : (env_of old).number + x.numbers ≡ (env_of old).number + (x.numbers + 0) = omega arith in
    record {
      stands_for = h.stands_for ∙ first-of x.part;
      least = noted_more ∙ ap (λ l. least_from l rs) h.least ∙ sym (least_from-append old.least x.broken rs)
          ∙ ap (least_from old.least) (sym (append-nil (x.broken ++ rs)))
          ∙ ap (λ bs. least_from old.least ((x.broken ++ rs) ++ bs)) (sym (nothing_broken (both_of x.part (Some (tt {0}))) (λ q. q.0)));
      declared = same_declarations ∙ h.declared ∙ ap (λ ds. old.declarations.items ++ ds) (sym declared);
      names = same_names ∙ h.names ∙ same_counts (env_of old) _ _ _ _ next number;
    }
