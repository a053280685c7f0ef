-- The image with its combiners: it is sound, and no kind is left without a combiner that it may have.
use Rattle.std.proofs.Common.{◌≡◌, ◌<◌, ℕ, ◌+◌, Bool, true, false, ◌&&◌, not, nat_lt, Some, List, [], ◌∷◌, length, refl, sym, ap, ◌∙◌, arith}
use Rattle.std.specs.Prelude.{IsTrue, slice_get, is_none}
use Rattle.std.specs.List.{list_all}
use Rattle.std.proofs.lemmas.Bool.{and_parts, and_from}
use mathlib.Core.Path.{fun_ext}
use Rattle.gm_value.specs.declared.reductions.Reduce.{Reduce}
use Rattle.gm_image.specs.declared.images.Kind.{Kind}
use Rattle.gm_image.specs.declared.rules.ImageRule.TheVariants.{I1, I2, I3, I4, I5, I6, I7, I8, I9, I10}
use Rattle.gm_image.specs.Program.{Program, Handler}
use Rattle.gm_image.specs.Rows.{Row, KindRow, rows, line_count}
use Rattle.gm_image.specs.Folds.{combiner_fits, all_fold}
use Rattle.gm_image.specs.Soundness.{keeps, keeps_all, is_sound, line_limit}
use Rattle.gm_combiners.specs.Combiners.{reductions, handlers_of, all_let, combiner_for, kinds_with, combining}
use Rattle.gm_combiners.specs.Laws.{keeps_rule, kinds_by, combined_by, HasAllCombiners}
use Rattle.gm_combiners.proofs.Judging.{keeps_others, others-alike}
use Rattle.gm_combiners.proofs.Texts.{before_kinds, after_kinds, test-of, as-many, folds_besides, both-of, are_handled, fits_its_values, folds-text}
use Rattle.gm_combiners.proofs.Finding.{none-found, fits_and, all-fit, combiner_of, values-with, length-with, own-with, all-handled, fits-by, handled-by}

-- I8 last
last : (a b c d e f g h i j : Bool) → a && (b && (c && (d && (e && (f && (g && (h && (i && (j && true))))))))) ≡ (a && (b && (c && (d && (e && (f && (g && (i && (j && true))))))))) && h
last false b c d e f g h i j = refl
last true false c d e f g h i j = refl
last true true false d e f g h i j = refl
last true true true false e f g h i j = refl
last true true true true false f g h i j = refl
last true true true true true false g h i j = refl
last true true true true true true false h i j = refl
last true true true true true true true true true true = refl
last true true true true true true true true true false = refl
last true true true true true true true true false j = refl
last true true true true true true true false true true = refl
last true true true true true true true false true false = refl
last true true true true true true true false false j = refl

keeps-last : (p : Program) (row : Row) → keeps_all p row ≡ keeps_others p row && all_fold p row
keeps-last p row = last (keeps p row I1) (keeps p row I2) (keeps p row I3) (keeps p row I4) (keeps p row I5) (keeps p row I6) (keeps p row I7) (keeps p row I8) (keeps p row I9) (keeps p row I10)

-- a text keeps all rules where it keeps the others and I8
text-last : (p : Program) → list_all (keeps_all p) (rows p) ≡ list_all (keeps_others p) (rows p) && keeps_rule p I8
text-last p = ap (λ test. list_all test (rows p)) (fun_ext (keeps-last p)) ∙ both-of (keeps_others p) (all_fold p) (rows p)

-- the lines of kinds keep the other rules
kinds-keep : (p : Program) (kinds : List Kind) → list_all (λ k. keeps_others p (KindRow k)) kinds ≡ true
kinds-keep p [] = refl
kinds-keep p (k ∷ kinds) = kinds-keep p kinds

-- a text keeps the other rules with some kinds where it does so without
others-text : (p : Program) (kinds : List Kind) → list_all (keeps_others p) (rows (record p { kinds = kinds })) ≡ list_all (keeps_others p) (before_kinds p []) && list_all (keeps_others p) (after_kinds p)
others-text p kinds =
    test-of (keeps_others p) p kinds
    ∙ ap (λ b. list_all (keeps_others p) (before_kinds p []) && (b && list_all (keeps_others p) (after_kinds p))) (kinds-keep p kinds)

module _ (p : Program) (sound : IsTrue (is_sound p)) where
  abbrev hs : List Handler
  hs = handlers_of p.blocks

  abbrev given : List Kind
  given = kinds_with (combiner_for hs) 0 p.kinds

  abbrev made : Program
  made = combining p

  text-keeps : (list_all (keeps_others p) (rows p) ≡ true) × (keeps_rule p I8 ≡ true)
  text-keeps =
      and_parts (list_all (keeps_others p) (rows p)) (keeps_rule p I8)
      (sym (text-last p) ∙ (and_parts (list_all (keeps_all p) (rows p)) (nat_lt (line_count p) line_limit) sound).0)

  -- what I8 asks besides holds
  front : list_all folds_besides (before_kinds p []) ≡ true
  front = (and_parts (list_all folds_besides (before_kinds p [])) (list_all fits_its_values p.kinds && list_all folds_besides (after_kinds p))
      (and_parts (are_handled p.kinds hs) (list_all folds_besides (before_kinds p []) && (list_all fits_its_values p.kinds && list_all folds_besides (after_kinds p))) (sym (folds-text p p.kinds) ∙ text-keeps.1)).1).0

  back : list_all folds_besides (after_kinds p) ≡ true
  back = (and_parts (list_all fits_its_values p.kinds) (list_all folds_besides (after_kinds p))
      (and_parts (list_all folds_besides (before_kinds p [])) (list_all fits_its_values p.kinds && list_all folds_besides (after_kinds p))
      (and_parts (are_handled p.kinds hs) (list_all folds_besides (before_kinds p []) && (list_all fits_its_values p.kinds && list_all folds_besides (after_kinds p))) (sym (folds-text p p.kinds) ∙ text-keeps.1)).1).1).1

  shuffle : (a b : Bool) → a && (true && (b && true)) ≡ b && a
  shuffle true true = refl
  shuffle true false = refl
  shuffle false true = refl
  shuffle false false = refl

  -- so I8 holds with other kinds where their combiners fit, and the handlers are what they ask
  fold-rule : (kinds : List Kind) → keeps_rule (record p { kinds = kinds }) I8 ≡ list_all fits_its_values kinds && are_handled kinds hs
  fold-rule kinds =
      folds-text p kinds
      ∙ ap (λ b. are_handled kinds hs && (b && (list_all fits_its_values kinds && list_all folds_besides (after_kinds p)))) front
      ∙ ap (λ b. are_handled kinds hs && (true && (list_all fits_its_values kinds && b))) back
      ∙ shuffle (are_handled kinds hs) (list_all fits_its_values kinds)

  others-keep : list_all (keeps_others made) (rows made) ≡ true
  others-keep =
      ap (λ test. list_all test (rows made)) (others-alike p given (length-with (combiner_for hs) 0 p.kinds) (values-with (combiner_for hs) 0 p.kinds))
      ∙ others-text p given
      ∙ sym (others-text p p.kinds)
      ∙ text-keeps.0

  fold-keeps : keeps_rule made I8 ≡ true
  fold-keeps = fold-rule given ∙ and_from (list_all fits_its_values given) (are_handled given hs) (all-fit hs 0 p.kinds) (all-handled hs p.kinds)

  pub made-sound : IsTrue (is_sound made)
  made-sound =
      and_from (list_all (keeps_all made) (rows made)) (nat_lt (line_count made) line_limit)
      (text-last made ∙ and_from (list_all (keeps_others made) (rows made)) (keeps_rule made I8) others-keep fold-keeps)
      (ap (λ n. nat_lt n line_limit) (as-many p given (length-with (combiner_for hs) 0 p.kinds)) ∙ (and_parts (list_all (keeps_all p) (rows p)) (nat_lt (line_count p) line_limit) sound).1)

  -- with a reduction in the place of a kind's combiner I8 holds where the reduction fits and the handlers let the kind have it
  holds-by : (k : ℕ) (r : Reduce) (own : Kind) → slice_get given k ≡ Some own → keeps_rule (combined_by made k r) I8 ≡ combiner_fits (Some r) own.values && all_let hs k r
  holds-by k r own e =
      fold-rule (kinds_by r k given)
      ∙ ap (λ b. b && are_handled (kinds_by r k given) hs) (fits-by r k given own e (all-fit hs 0 p.kinds))
      ∙ ap (λ b. combiner_fits (Some r) own.values && b) (handled-by r k given own e hs (all-handled hs p.kinds))

  pub made-all : HasAllCombiners made
  made-all k l =
      let long = length-with (combiner_for hs) 0 p.kinds in
      let l' : k < length p.kinds = omega (arith, long, l) in
      let z : 0 + k ≡ k = omega arith in
      own-with (combiner_for hs) 0 p.kinds k l'
      (λ own e c.
      ap (λ o. is_none (combiner_of o)) e
      ∙ ap (λ o. is_none o) (c ∙ ap (λ m. combiner_for hs m own.values) z)
      ∙ none-found (fits_and (all_let hs k) own.values) reductions
      ∙ ap (λ test. list_all test reductions) (fun_ext (λ r. ap not (sym (holds-by k r own e)))))
