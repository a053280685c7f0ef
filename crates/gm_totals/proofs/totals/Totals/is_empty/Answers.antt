-- Totals are empty where they stand for no contribution.
use Rattle.std.proofs.Common.{◌≡◌, ◌∙◌, List, [], ◌∷◌, length, sym, ap, arith, refl}
use Rattle.std.proofs.lemmas.Bool.{eqb-true, eq-eqb}
use Rattle.std.proofs.lemmas.List.{length-map}
use Rattle.gm_totals.specs.Standing.{keyed}
use Rattle.gm_totals.proofs.Closing.{no_pots}
use Rattle.gm_totals.proofs.Placing.{key_of}
use Rattle.gm_totals.proofs.totals.Totals.is_empty.Goals as goal

no_items : {A : Type 0} (xs : List A) → length xs ≡ 0 → xs ≡ []
no_items [] e = refl
no_items (x ∷ xs) e = absurd (omega arith)

pub returns : goal.returns
returns c = λ cs stands.
    let totals = c.args.self.now in
    let pots = totals.pots in
    let same = no_pots totals cs stands in
    let count = length-map pots.items key_of in (
      λ h. let none : pots.len ≡ 0 = eqb-true pots.len 0 (sym c.is_empty.ensures ∙ h) in same.0 (no_items (keyed totals) (omega (arith, none, count))),
      λ none. let no_keys = ap length (same.1 none) in let empty : pots.len ≡ 0 = omega (arith, no_keys, count) in c.is_empty.ensures ∙ eq-eqb pots.len 0 empty,
    )
