-- Reductions: of one slot with its value, or of several behind how many they are.
use Rattle.std.proofs.Common.{◌≡◌, ◌<◌, ℕ, Bool, true, false, cond, ◌&&◌, List, [], ◌∷◌, length, refl, ap, ◌∙◌, subst, arith}
use Rattle.std.specs.Prelude.{Option, Some, None, nat_lt, nat_eq}
use Rattle.std.specs.Fmt.{decimal}
use Rattle.std.specs.List.{flat_map, AllByRecursion}
use Rattle.std.proofs.lemmas.Bool.{eqb-true, eq-eqb}
use Rattle.std.proofs.lemmas.Bool.Decides.{nat_tests}
use Rattle.gm_value.specs.declared.reductions.Reduce.{Reduce}
use Rattle.gm_image.specs.Fits.{is_extreme}
use Rattle.gm_image.specs.Term.{Term}
use Rattle.gm_image.specs.Program.{Target}
use Rattle.gm_image.specs.Ranges.{IsIndex}
use Rattle.gm_image_text.specs.declared.heads.Version.{Version}
use Rattle.gm_image_text.specs.declared.heads.Version.TheVariants as version
use Rattle.gm_image_text.specs.Lines.{Word}
use Rattle.gm_image_text.specs.Fits.{TermFits, TargetFits, HasPicks, TargetsFit}
use Rattle.gm_image_text.specs.Spelling.{reduce_word, term_words, target_words, reduction_words}
use Rattle.gm_image_text.specs.Tables as tables
use Rattle.gm_image_text.specs.Tables.{row_in}
use Rattle.gm_image_text.specs.Reading.{◌>>=◌, word_at, then_at, last_at, index_at, reduce_at, expression_at, slot_in, reduced_in, extreme_from, extreme_in, target_of, target_at, all_in, counted, several_in, picked_in}
use Rattle.gm_image_text.proofs.LineBinds.{some_is, bind_some}
use Rattle.gm_image_text.proofs.Spelled.{AllPlain, plain_behind}
use Rattle.gm_image_text.proofs.LineLaw.{LineLaw}
use Rattle.gm_image_text.proofs.Fields.{WordLaw, FieldLaw, word_field, then_field, last_line, whole_line, made_field}
use Rattle.gm_image_text.proofs.ToTheEnd.{all_law}
use Rattle.gm_image_text.proofs.Terms.{index_field, expression_field}
use Rattle.gm_image_text.proofs.TableLaws.{Whatever, reductions_word}
use Rattle.gm_image_text.proofs.SoundTerms.{both}

-- a slot and its value, as two and as one
abbrev pub SlotFits : ℕ × Term → Type 0
SlotFits z = IsIndex z.0 × TermFits z.1

abbrev pub slot_words : ℕ × Term → List Word
slot_words z = decimal z.0 ∷ term_words z.1

slot_field : FieldLaw SlotFits slot_words (then_at index_at expression_at)
slot_field = then_field IsIndex (λ n. decimal n ∷ []) index_at index_field TermFits term_words expression_at expression_field

pub slot_law : LineLaw SlotFits slot_words slot_in
slot_law = whole_line SlotFits slot_words (then_at index_at expression_at) slot_field

target_field : FieldLaw TargetFits target_words target_at
target_field = made_field SlotFits slot_words (then_at index_at expression_at) slot_field TargetFits target_words target_of (λ t. (t.slot, t.term)) (record { there = λ z h. (h, refl); back = λ t h. (h, refl) })

-- one slot
abbrev pub ReducedFits : Reduce × (ℕ × (ℕ × Term)) → Type 0
ReducedFits z = Unit {0} × (IsIndex z.1.0 × SlotFits z.1.1)

abbrev pub reduced_words : Reduce × (ℕ × (ℕ × Term)) → List Word
reduced_words z = reduce_word z.0 ∷ decimal z.1.0 ∷ slot_words z.1.1

pub reduced_law : LineLaw ReducedFits reduced_words reduced_in
reduced_law =
    last_line Whatever (λ r. reduce_word r ∷ []) reduce_at (word_field Whatever reduce_word (row_in tables.reductions) reductions_word) (λ y. IsIndex y.0 × SlotFits y.1) (λ y. decimal y.0 ∷ slot_words y.1) (λ vs. last_at index_at slot_in vs)
    (last_line IsIndex (λ n. decimal n ∷ []) index_at index_field SlotFits slot_words slot_in slot_law)

-- the least and the greatest
abbrev pub IsExtreme : Reduce → Type 0
IsExtreme r = is_extreme r ≡ true

extreme_is : (o : Option Reduce) (r : Reduce) → extreme_from o ≡ Some r → (o ≡ Some r) × IsExtreme r
extreme_is None r e = cc
extreme_is (Some q) r e = by_test (is_extreme q) refl e where
  by_test : (b : Bool) → is_extreme q ≡ b → cond b (Some q) None ≡ Some r → (Some q ≡ Some r) × IsExtreme r
  by_test true is f = let P : Reduce → Type 0 = λ v. (Some q ≡ Some v) × IsExtreme v in subst P (some_is q r f) (refl, is)
  by_test false is f = cc

extreme_word : WordLaw IsExtreme reduce_word extreme_in
extreme_word = record {
  ok = λ w r p e. let it = extreme_is (row_in tables.reductions w) r e in (it.1, (reductions_word.ok w r p it.0).1);
  again = λ r h. ap extreme_from (reductions_word.again r tt) ∙ ap (λ b. cond b (Some r) None) h;
  plain = λ r h. reductions_word.plain r tt;
}

-- several slots behind how many they are
abbrev pub SeveralFit : List Target → Type 0
SeveralFit ts = (1 < length ts) × (IsIndex (length ts) × AllByRecursion TargetFits ts)

abbrev pub several_words : List Target → List Word
several_words ts = decimal (length ts) ∷ flat_map target_words ts

targets_law : LineLaw (AllByRecursion TargetFits) (flat_map target_words) (λ ws. all_in target_at ws)
targets_law = all_law TargetFits target_words target_at target_field (λ t. omega arith)

counted_is : {X : Type 0} (n : ℕ) (xs ys : List X) → counted n xs ≡ Some ys → (1 < n) × ((n ≡ length xs) × (xs ≡ ys))
counted_is n xs ys e = by_test (nat_lt 1 n && nat_eq n (length xs)) refl e where
  by_test : (b : Bool) → (nat_lt 1 n && nat_eq n (length xs)) ≡ b → cond b (Some xs) None ≡ Some ys → (1 < n) × ((n ≡ length xs) × (xs ≡ ys))
  by_test true is f =
      let it = both (nat_lt 1 n) (nat_eq n (length xs)) is in
      let more : nat_lt 1 n ≡ true = it.0 in
      (grind (arith, nat_tests, more), (eqb-true n (length xs) it.1, some_is xs ys f))
  by_test false is f = cc

counted_again : {X : Type 0} (xs : List X) → 1 < length xs → counted (length xs) xs ≡ Some xs
counted_again xs h =
    let more : nat_lt 1 (length xs) ≡ true = grind (arith, nat_tests, h) in
    ap (λ b. cond (b && nat_eq (length xs) (length xs)) (Some xs) None) more ∙ ap (λ b. cond b (Some xs) None) (eq-eqb (length xs) (length xs) refl)

several_ok : (ws : List Word) (ts : List Target) → AllPlain ws → several_in ws ≡ Some ts → SeveralFit ts × (ws ≡ several_words ts)
several_ok ws ts p e =
    let n = bind_some (index_at ws) (λ n. all_in target_at n.1 >>= λ ts. counted n.0 ts) ts e in
    let at : IsIndex n.0.0 × (ws ≡ decimal n.0.0 ∷ n.0.1) = index_field.ok ws n.0.1 n.0.0 p n.1 in
    let xs = bind_some (all_in target_at n.0.1) (λ ts. counted n.0.0 ts) ts n.2 in
    let P : List Word → Type 0 = AllPlain in
    let got : AllByRecursion TargetFits xs.0 × (n.0.1 ≡ flat_map target_words xs.0) = targets_law.ok n.0.1 xs.0 (plain_behind (decimal n.0.0 ∷ []) n.0.1 (subst P at.1 p)) xs.1 in
    let c = counted_is n.0.0 xs.0 ts xs.2 in
    let M : ℕ → Type 0 = λ m. 1 < m in
    let I : ℕ → Type 0 = IsIndex in
    let Q : List Target → Type 0 = λ v. SeveralFit v × (ws ≡ several_words v) in
    subst Q c.1.1 (
      (subst M c.1.0 c.0, (subst I c.1.0 at.0, got.0)),
      at.1 ∙ ap (λ m. decimal m ∷ n.0.1) c.1.0 ∙ ap (λ v. decimal (length xs.0) ∷ v) got.1,
    )

several_again : (ts : List Target) → SeveralFit ts → several_in (several_words ts) ≡ Some ts
several_again ts h =
    ap (λ o. o >>= λ n. all_in target_at n.1 >>= λ ts. counted n.0 ts) (index_field.again (length ts) (flat_map target_words ts) h.1.0)
    ∙ ap (λ o. o >>= λ ts'. counted (length ts) ts') (targets_law.again ts h.1.1)
    ∙ counted_again ts h.0

pub several_law : LineLaw SeveralFit several_words several_in
several_law = record {
  ok = several_ok;
  again = several_again;
  plain = λ ts h. ((index_field.plain (length ts) h.1.0).0, targets_law.plain ts h.1.1);
}

abbrev pub PickedFits : Version → Reduce × (ℕ × List Target) → Type 0
PickedFits v z = HasPicks v × (IsExtreme z.0 × (IsIndex z.1.0 × SeveralFit z.1.1))

abbrev pub picked_words : Reduce × (ℕ × List Target) → List Word
picked_words z = reduce_word z.0 ∷ decimal z.1.0 ∷ several_words z.1.1

picked_two : LineLaw (λ z. IsExtreme z.0 × (IsIndex z.1.0 × SeveralFit z.1.1)) picked_words (λ ws. last_at (word_at extreme_in) (λ vs. last_at index_at several_in vs) ws)
picked_two =
    last_line IsExtreme (λ r. reduce_word r ∷ []) (word_at extreme_in) (word_field IsExtreme reduce_word extreme_in extreme_word) (λ y. IsIndex y.0 × SeveralFit y.1) (λ y. decimal y.0 ∷ several_words y.1) (λ vs. last_at index_at several_in vs)
    (last_line IsIndex (λ n. decimal n ∷ []) index_at index_field SeveralFit several_words several_in several_law)

pub picked_law : (v : Version) → LineLaw (PickedFits v) picked_words (picked_in v)
picked_law version.One = record { ok = λ ws z p e. cc; again = λ z h. absurd h.0; plain = λ z h. absurd h.0 }
picked_law version.Two = record {
  ok = λ ws z p e. let it = picked_two.ok ws z p e in ((tt, it.0), it.1);
  again = λ z h. picked_two.again z h.1;
  plain = λ z h. picked_two.plain z h.1;
}

-- one slot, and several, as a list of slots
pub picked_fit : (v : Version) (r : Reduce) (ts : List Target) → HasPicks v → IsExtreme r → SeveralFit ts → TargetsFit v r ts
picked_fit v r [] p x h = absurd (omega (arith, h.0))
picked_fit v r (t ∷ []) p x h = absurd (omega (arith, h.0))
picked_fit v r (t ∷ (u ∷ us)) p x h = (p, (x, h.1))

pub picked_spelled : (one several : Word) (r : Reduce) (q : ℕ) (ts : List Target) → 1 < length ts → several ∷ picked_words (r, (q, ts)) ≡ reduction_words one several r q ts
picked_spelled one several r q [] h = absurd (omega (arith, h))
picked_spelled one several r q (t ∷ []) h = absurd (omega (arith, h))
picked_spelled one several r q (t ∷ (u ∷ us)) h = refl
