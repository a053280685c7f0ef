-- An image that keeps each rule is sound.
use Rattle.std.proofs.Common.{◌≡◌, true, List, [], ◌∷◌, refl}
use Rattle.std.specs.Prelude.{nat_lt}
use Rattle.std.specs.List.{list_all}
use Rattle.std.proofs.lemmas.Bool.{and_from, lt-ltb}
use Rattle.gm_forms.proofs.Named.{both-true}
use Rattle.gm_image.specs.declared.rules.ImageRule.{ImageRule}
use Rattle.gm_image.specs.Program.{Program}
use Rattle.gm_image.specs.Rows.{Row, rows, line_count}
use Rattle.gm_image.specs.Soundness.{keeps, keeps_all, image_rules, line_limit}
use Rattle.gm_lowering.specs.Lowered.{lowered}
use Rattle.gm_sound_lowering.specs.Laws.{RulesMakeSound}

-- each row keeps each of some rules, where the rows keep each of them
all-keep : (p : Program) (rules : List ImageRule) (rs : List Row) → ((rule : ImageRule) → list_all (λ row. keeps p row rule) rs ≡ true) → list_all (λ row. list_all (keeps p row) rules) rs ≡ true
all-keep p rules [] h = refl
all-keep p rules (r ∷ rs) h =
    and_from (list_all (keeps p r) rules) _ (here rules) (all-keep p rules rs (λ rule. (both-true (keeps p r rule) (list_all (λ row. keeps p row rule) rs) (h rule)).1)) where
      here : (xs : List ImageRule) → list_all (keeps p r) xs ≡ true
      here [] = refl
      here (x ∷ xs) = and_from (keeps p r x) (list_all (keeps p r) xs) (both-true (keeps p r x) (list_all (λ row. keeps p row x) rs) (h x)).0 (here xs)

pub rules-make-sound : RulesMakeSound
rules-make-sound p h lt =
    let i = lowered p in
    and_from (list_all (keeps_all i) (rows i)) (nat_lt (line_count i) line_limit) (all-keep i image_rules (rows i) h) (lt-ltb (line_count i) line_limit lt)
