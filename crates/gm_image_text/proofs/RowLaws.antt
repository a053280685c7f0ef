-- Each line of an image's text is read from its words and from nothing else.
use Rattle.std.proofs.Common.{◌≡◌, ◌<◌, ℕ, true, false, cond, List, [], ◌∷◌, ◌++◌, length, map, refl, ap, sym, ◌∙◌, subst, arith}
use Rattle.std.specs.Prelude.{Option, Some, None, option_map, codes, bytes_eq}
use Rattle.std.specs.Fmt.{decimal}
use Rattle.std.specs.List.{flat_map, AllByRecursion}
use Rattle.std.proofs.lemmas.Slice.Eq.{bytes_eq-Decides}
use Rattle.gm_value.specs.declared.values.VType.{VType}
use Rattle.gm_value.specs.declared.values.VType.TheVariants as vtype
use Rattle.gm_value.specs.declared.reductions.Reduce.{Reduce}
use Rattle.gm_image.specs.Term.{Term}
use Rattle.gm_image.specs.Program as P
use Rattle.gm_image.specs.Program.{Direction, Holder, Item, Command, Target}
use Rattle.gm_image_text.specs.declared.heads.Version.{Version}
use Rattle.gm_image_text.specs.declared.heads.VertexHead.{VertexHead}
use Rattle.gm_image_text.specs.declared.heads.VertexHead.TheVariants as vertex
use Rattle.gm_image_text.specs.declared.heads.MasterHead.{MasterHead}
use Rattle.gm_image_text.specs.declared.heads.MasterHead.TheVariants as master
use Rattle.gm_image_text.specs.declared.heads.InputHead.{InputHead}
use Rattle.gm_image_text.specs.declared.heads.InputHead.TheVariants as input
use Rattle.gm_image_text.specs.declared.heads.OutputHead.{OutputHead}
use Rattle.gm_image_text.specs.declared.heads.OutputHead.TheVariants as output
use Rattle.gm_image.specs.declared.lines.Direction.{Direction as Way}
use Rattle.gm_image.specs.declared.lines.Direction.TheVariants as way
use Rattle.gm_image_text.specs.Lines.{Word}
use Rattle.gm_image.specs.Ranges.{IsIndex, IsOutputHolder, ResultFits, PlaceIsIndex}
use Rattle.gm_image_text.specs.Fits.{IsPlain, IsName, TermFits, TargetsFit, LineFits, CommandFits, InputFits, OutputFits}
use Rattle.gm_image_text.specs.Spelling.{version_words, type_word, combiner_word, direction_word, term_words, reduction_words, vertex_words, command_words, item_words, outcome_words, result_words, kind_words, place_pair}
use Rattle.gm_image_text.specs.Tables as tables
use Rattle.gm_image_text.specs.Tables.{row_in}
use Rattle.gm_image_text.specs.Reading.{◌>>=◌, word_at, then_at, last_at, whole_at, ended_at, index_at, type_at, name_in, name_at, expression_at, terms_in, types_in, first_row, name_row, count_row, on_row, result_in, result_row, type_row, item_at, item_of, input_holder, output_holder, input_row, output_row, kind_of, kind_row, place_of, place_row, slot_in, only_index, reduced_in, fold_of, put_of, picked_in, pick_of, pickput_of, vertex_behind, vertex_row, master_behind, master_row}
use Rattle.gm_image.specs.Items.{direction_of}
use Rattle.gm_image_text.proofs.LineBinds.{some_is, map_some, bind_some}
use Rattle.gm_image_text.proofs.Spelled.{AllPlain, plain_behind}
use Rattle.gm_image_text.proofs.LineLaw.{LineLaw}
use Rattle.gm_image_text.proofs.Fields.{WordLaw, FieldLaw, word_field, then_field, last_line, whole_line, after_line, made_line}
use Rattle.gm_image_text.proofs.ToTheEnd.{all_law}
use Rattle.gm_image_text.proofs.Terms.{index_field, expression_field, some_words}
use Rattle.gm_image_text.proofs.ReductionLaws.{SlotFits, slot_words, slot_law, ReducedFits, reduced_words, reduced_law, PickedFits, picked_words, picked_law, picked_fit, picked_spelled}
use Rattle.gm_image_text.proofs.TableLaws.{Whatever, version_word, versions_word, types_word, combiners_word, input_word, input_heads_word, output_word, output_heads_word, way_word, ways_word, vertex_word, vertex_heads_word, master_word, master_heads_word}

pub types_field : FieldLaw Whatever (λ t. type_word t ∷ []) (word_at (row_in tables.types))
types_field = word_field Whatever type_word (row_in tables.types) types_word

pub type_law : LineLaw Whatever (λ t. type_word t ∷ []) type_row
type_law = whole_line Whatever (λ t. type_word t ∷ []) type_at types_field

name_is : (w n : Word) → IsPlain w → name_in w ≡ Some n → IsName n × (w ≡ n)
name_is [] n p e = cc
name_is (b ∷ bs) n p e =
    let Q : Word → Type 0 = λ v. IsName v × (b ∷ bs ≡ v) in
    subst Q (some_is (b ∷ bs) n e) (record { nonempty = omega arith; plain = p }, refl)

name_again : (n : Word) → IsName n → name_in n ≡ Some n
name_again [] h = let none : 0 < 0 = h.nonempty in absurd (omega (arith, none))
name_again (b ∷ bs) h = refl

name_word : WordLaw IsName (λ n. n) name_in
name_word = record { ok = name_is; again = name_again; plain = λ n h. h.plain }

name_field : FieldLaw IsName (λ n. n ∷ []) name_at
name_field = word_field IsName (λ n. n) name_in name_word

ended_law : LineLaw {X = Unit {0}} Whatever (λ u. []) ended_at
ended_law = record { ok = is_end; again = λ u h. refl; plain = λ u h. tt } where
  is_end : (ws : List Word) (x : Unit {0}) → AllPlain ws → ended_at ws ≡ Some x → Whatever x × (ws ≡ [])
  is_end [] x p e = (tt, refl)
  is_end (w ∷ ws) x p e = cc

pub first_law : LineLaw Whatever version_words first_row
first_law =
    after_line Whatever (λ v. version_word v ∷ []) (λ ws. whole_at (word_at (row_in tables.versions)) ws)
    (whole_line Whatever (λ v. version_word v ∷ []) (word_at (row_in tables.versions)) (word_field Whatever version_word (row_in tables.versions) versions_word))
    (codes "gm-image") refl

pub name_law : LineLaw IsName (λ n. codes "name" ∷ n ∷ []) name_row
name_law = after_line IsName (λ n. n ∷ []) (λ vs. whole_at name_at vs) (whole_line IsName (λ n. n ∷ []) name_at name_field) (codes "name") refl

-- a header with a count
pub count_law : (word : Word) → IsPlain word → LineLaw IsIndex (λ n. word ∷ decimal n ∷ []) (λ ws. count_row word ws)
count_law word p = after_line IsIndex (λ n. decimal n ∷ []) (λ vs. whole_at index_at vs) (whole_line IsIndex (λ n. decimal n ∷ []) index_at index_field) word p

two_indices : FieldLaw (λ z. IsIndex z.0 × IsIndex z.1) (λ z. decimal z.0 ∷ decimal z.1 ∷ []) (then_at index_at index_at)
two_indices = then_field IsIndex (λ n. decimal n ∷ []) index_at index_field IsIndex (λ n. decimal n ∷ []) index_at index_field

abbrev pub OnFits : ℕ × ℕ → Type 0
OnFits z = IsIndex z.0 × IsIndex z.1

pub on_law : LineLaw OnFits (λ z. codes "on" ∷ decimal z.0 ∷ decimal z.1 ∷ []) on_row
on_law = after_line OnFits (λ z. decimal z.0 ∷ decimal z.1 ∷ []) (λ vs. whole_at (then_at index_at index_at) vs) (whole_line OnFits (λ z. decimal z.0 ∷ decimal z.1 ∷ []) (then_at index_at index_at) two_indices) (codes "on") refl

pub place_law : LineLaw PlaceIsIndex place_pair place_row
place_law = made_line OnFits (λ z. decimal z.0 ∷ decimal z.1 ∷ []) (λ ws. whole_at (then_at index_at index_at) ws) (whole_line OnFits (λ z. decimal z.0 ∷ decimal z.1 ∷ []) (then_at index_at index_at) two_indices)
    PlaceIsIndex place_pair place_of (λ p. (p.line, p.col)) (record { there = λ z h. (h, refl); back = λ p h. (h, refl) })

-- inputs and outputs
abbrev ItemParts : VType × (List ℕ × ℕ) → Type 0
ItemParts x = Unit {0} × (IsName x.1.0 × IsIndex x.1.1)

abbrev part_words : VType × (List ℕ × ℕ) → List Word
part_words x = type_word x.0 ∷ x.1.0 ∷ decimal x.1.1 ∷ []

item_field : FieldLaw ItemParts part_words item_at
item_field =
    let it = then_field Whatever (λ t. type_word t ∷ []) type_at types_field (λ y. IsName y.0 × IsIndex y.1) (λ y. y.0 ∷ decimal y.1 ∷ []) (then_at name_at index_at)
    (then_field IsName (λ n. n ∷ []) name_at name_field IsIndex (λ n. decimal n ∷ []) index_at index_field) in
    record { ok = it.ok; again = it.again; plain = it.plain }

input_head_of : Holder → InputHead
input_head_of P.Scalar = input.Scalar
input_head_of P.Node = input.Node
input_head_of P.Edge = input.Edge

input_back : (h : Holder) → input_holder (input_head_of h) ≡ h
unfolding input_head_of
input_back P.Scalar = refl
input_back P.Node = refl
input_back P.Edge = refl

pub input_law : LineLaw InputFits item_words input_row
input_law =
    made_line (λ z. Unit {0} × ItemParts z.1) (λ z. input_word z.0 ∷ part_words z.1) (λ ws. whole_at (then_at (word_at (row_in tables.input_heads)) item_at) ws)
    (whole_line (λ z. Unit {0} × ItemParts z.1) (λ z. input_word z.0 ∷ part_words z.1) (then_at (word_at (row_in tables.input_heads)) item_at)
    (then_field Whatever (λ h. input_word h ∷ []) (word_at (row_in tables.input_heads)) (word_field Whatever input_word (row_in tables.input_heads) input_heads_word) ItemParts part_words item_at item_field))
    InputFits item_words (λ x. item_of (input_holder x.0) x.1) (λ i. (input_head_of i.holder, (i.vtype, (i.name, i.slot))))
    (record {
      there = λ z h. (h.1.1, refl);
      back = λ i h. ((tt, (tt, h)), ap (λ v. item_of v (i.vtype, (i.name, i.slot))) (input_back i.holder));
    })

output_head_of : Holder → OutputHead
output_head_of P.Scalar = output.Scalar
output_head_of P.Node = output.Node
output_head_of P.Edge = output.Scalar

output_back : (h : Holder) → IsOutputHolder h → output_holder (output_head_of h) ≡ h
unfolding output_head_of
output_back P.Scalar k = refl
output_back P.Node k = refl
output_back P.Edge k = absurd k

output_fits : (h : OutputHead) → IsOutputHolder (output_holder h)
output_fits output.Scalar = tt
output_fits output.Node = tt

pub output_law : LineLaw OutputFits item_words output_row
output_law =
    made_line (λ z. Unit {0} × ItemParts z.1) (λ z. output_word z.0 ∷ part_words z.1) (λ ws. whole_at (then_at (word_at (row_in tables.output_heads)) item_at) ws)
    (whole_line (λ z. Unit {0} × ItemParts z.1) (λ z. output_word z.0 ∷ part_words z.1) (then_at (word_at (row_in tables.output_heads)) item_at)
    (then_field Whatever (λ h. output_word h ∷ []) (word_at (row_in tables.output_heads)) (word_field Whatever output_word (row_in tables.output_heads) output_heads_word) ItemParts part_words item_at item_field))
    OutputFits item_words (λ x. item_of (output_holder x.0) x.1) (λ i. (output_head_of i.holder, (i.vtype, (i.name, i.slot))))
    (record {
      there = λ z h. ((output_fits z.0, h.1.1.0, h.1.1.1), refl);
      back = λ i h. ((tt, (tt, (h.1, h.2))), ap (λ v. item_of v (i.vtype, (i.name, i.slot))) (output_back i.holder h.0));
    })

-- the result
abbrev ResultParts : VType × ℕ → Type 0
ResultParts r = Unit {0} × IsIndex r.1

result_parts : LineLaw ResultParts (λ r. type_word r.0 ∷ decimal r.1 ∷ []) (λ ws. whole_at (then_at type_at index_at) ws)
result_parts = whole_line ResultParts (λ r. type_word r.0 ∷ decimal r.1 ∷ []) (then_at type_at index_at) (then_field Whatever (λ t. type_word t ∷ []) type_at types_field IsIndex (λ n. decimal n ∷ []) index_at index_field)

result_is : (ws : List Word) (x : Option (VType × ℕ)) → AllPlain ws → result_in ws ≡ Some x → ResultFits x × (ws ≡ outcome_words x)
result_is [] x p e = cc
result_is (w ∷ ws) x p e =
    let Q : Option (VType × ℕ) → Type 0 = λ v. ResultFits v × (w ∷ ws ≡ outcome_words v) in
    elim (bytes_eq w (codes "-")) as (λ b. bytes_eq w (codes "-") ≡ b → cond b (option_map (λ u. None) (ended_at ws)) (option_map (λ r. Some r) (whole_at (then_at type_at index_at) (w ∷ ws))) ≡ Some x → Q x) [
      | true ↦ λ is h.
          let it = map_some {B = Option (VType × ℕ)} (ended_at ws) (λ u. None) x h in
          subst Q it.2 (tt, ap (λ v. v ∷ ws) ((bytes_eq-Decides w (codes "-")).0 is) ∙ ap (λ v. codes "-" ∷ v) (ended_law.ok ws it.0 p.1 it.1).1)
      | false ↦ λ is h.
          let it = map_some (whole_at (then_at type_at index_at) (w ∷ ws)) (λ r. Some r) x h in
          let got = result_parts.ok (w ∷ ws) it.0 p it.1 in
          subst Q it.2 (got.0.1, got.1)
    ] refl e

no_dash : (t : VType) → bytes_eq (type_word t) (codes "-") ≡ false
no_dash vtype.I32 = refl
no_dash vtype.I64 = refl
no_dash vtype.Flag = refl
no_dash vtype.Node = refl

result_again : (x : Option (VType × ℕ)) → ResultFits x → result_in (outcome_words x) ≡ Some x
result_again None h = refl
result_again (Some r) h =
    ap (λ b. cond b (option_map (λ u. None) (ended_at (decimal r.1 ∷ []))) (option_map (λ r. Some r) (whole_at (then_at type_at index_at) (type_word r.0 ∷ decimal r.1 ∷ [])))) (no_dash r.0)
    ∙ ap (option_map (λ r. Some r)) (result_parts.again r (tt, h))

result_plain : (x : Option (VType × ℕ)) → ResultFits x → AllPlain (outcome_words x)
result_plain None h = (refl, tt)
result_plain (Some r) h = result_parts.plain r (tt, h)

pub result_law : LineLaw ResultFits result_words result_row
result_law = after_line ResultFits outcome_words result_in (record { ok = result_is; again = result_again; plain = result_plain }) (codes "result") refl

-- kinds
types_is : (ws : List Word) (ts : List VType) → AllPlain ws → types_in ws ≡ Some ts → Whatever ts × (ws ≡ map type_word ts)
types_is [] ts p e = let Q : List VType → Type 0 = λ v. Whatever v × ([] ≡ map type_word v) in subst Q (some_is [] ts e) (tt, refl)
types_is (w ∷ ws) ts p e =
    let one = bind_some (row_in tables.types w) (λ t. types_in ws >>= λ more. Some (t ∷ more)) ts e in
    let two = bind_some (types_in ws) (λ more. Some (one.0 ∷ more)) ts one.2 in
    let more = types_is ws two.0 p.1 two.1 in
    let Q : List VType → Type 0 = λ v. Whatever v × (w ∷ ws ≡ map type_word v) in
    subst Q (some_is (one.0 ∷ two.0) ts two.2) (tt, ap (λ v. v ∷ ws) (types_word.ok w one.0 p.0 one.1).1 ∙ ap (λ v. type_word one.0 ∷ v) more.1)

types_again : (ts : List VType) → types_in (map type_word ts) ≡ Some ts
types_again [] = refl
types_again (t ∷ ts) = ap (λ o. o >>= λ t. types_in (map type_word ts) >>= λ more. Some (t ∷ more)) (types_word.again t tt) ∙ ap (λ o. o >>= λ more. Some (t ∷ more)) (types_again ts)

types_plain : (ts : List VType) → AllPlain (map type_word ts)
types_plain [] = tt
types_plain (t ∷ ts) = (types_word.plain t tt, types_plain ts)

types_law : LineLaw Whatever (map type_word) types_in
types_law = record { ok = types_is; again = λ ts h. types_again ts; plain = λ ts h. types_plain ts }

pub kind_law : LineLaw Whatever kind_words kind_row
kind_law =
    made_line (λ z. Unit {0} × Unit {0}) (λ z. combiner_word z.0 ∷ map type_word z.1) (λ ws. last_at (word_at (row_in tables.combiners)) types_in ws)
    (last_line Whatever (λ c. combiner_word c ∷ []) (word_at (row_in tables.combiners)) (word_field Whatever combiner_word (row_in tables.combiners) combiners_word) Whatever (map type_word) types_in types_law)
    Whatever kind_words kind_of (λ k. (k.combiner, k.values)) (record { there = λ z h. (tt, refl); back = λ k h. ((tt, tt), refl) })

-- expressions to the end of the line
index_plain : (n : ℕ) → IsIndex n → IsPlain (decimal n)
index_plain n h = (index_field.plain n h).0

terms_law : LineLaw (AllByRecursion TermFits) (flat_map term_words) terms_in
terms_law = all_law TermFits term_words expression_at expression_field some_words

-- lines by their first words: what is read behind the word, made into the line
module _ {X L : Type 0} (F : X → Type 0) (words : X → List Word) (read : List Word → Option X) (law : LineLaw F words read) (G : L → Type 0) (spelled : L → List Word) (word : Word) (make : X → L) (fits : (x : X) → F x → G (make x)) (same : (x : X) → F x → word ∷ words x ≡ spelled (make x)) where
  pub behind_is : (ws : List Word) (l : L) → AllPlain ws → option_map make (read ws) ≡ Some l → G l × (word ∷ ws ≡ spelled l)
  behind_is ws l p e =
      let it = map_some (read ws) make l e in
      let got : F it.0 × (ws ≡ words it.0) = law.ok ws it.0 p it.1 in
      let Q : L → Type 0 = λ v. G v × (word ∷ ws ≡ spelled v) in
      subst Q it.2 (fits it.0 got.0, ap (λ v. word ∷ v) got.1 ∙ same it.0 got.0)

only_law : LineLaw IsIndex (λ n. decimal n ∷ []) only_index
only_law = whole_line IsIndex (λ n. decimal n ∷ []) index_at index_field

abbrev SendFits : ℕ × (Term × List Term) → Type 0
SendFits z = IsIndex z.0 × (TermFits z.1.0 × AllByRecursion TermFits z.1.1)

abbrev send_words : ℕ × (Term × List Term) → List Word
send_words z = decimal z.0 ∷ (term_words z.1.0 ++ flat_map term_words z.1.1)

send_law : LineLaw SendFits send_words (λ ws. last_at index_at (λ vs. last_at expression_at terms_in vs) ws)
send_law =
    last_line IsIndex (λ n. decimal n ∷ []) index_at index_field (λ y. TermFits y.0 × AllByRecursion TermFits y.1) (λ y. term_words y.0 ++ flat_map term_words y.1) (λ vs. last_at expression_at terms_in vs)
    (last_line TermFits term_words expression_at expression_field (AllByRecursion TermFits) (flat_map term_words) terms_in terms_law)

abbrev EachFits : Way × ℕ → Type 0
EachFits z = Unit {0} × IsIndex z.1

each_law : LineLaw EachFits (λ z. way_word z.0 ∷ decimal z.1 ∷ []) (λ ws. last_at (word_at (row_in tables.ways)) only_index ws)
each_law = last_line Whatever (λ w. way_word w ∷ []) (word_at (row_in tables.ways)) (word_field Whatever way_word (row_in tables.ways) ways_word) IsIndex (λ n. decimal n ∷ []) only_index only_law

-- a vertex line of a version
module _ (v : Version) where
  vertex_rest : (h : VertexHead) (ws : List Word) (l : P.Line) → AllPlain ws → vertex_behind v h ws ≡ Some l → LineFits v l × (vertex_word h ∷ ws ≡ vertex_words l)
  vertex_rest vertex.SetField ws l p e = behind_is SlotFits slot_words slot_in slot_law (LineFits v) vertex_words (codes "set") (λ x. P.SetField x.0 x.1) (λ x h. h) (λ x h. refl) ws l p e
  vertex_rest vertex.Fold ws l p e = behind_is ReducedFits reduced_words reduced_in reduced_law (LineFits v) vertex_words (codes "fold") fold_of (λ x h. h.1) (λ x h. refl) ws l p e
  vertex_rest vertex.Pick ws l p e = behind_is (PickedFits v) picked_words (picked_in v) (picked_law v) (LineFits v) vertex_words (codes "pick") pick_of (λ x h. (h.1.1.0, picked_fit v x.0 x.1.1 h.0 h.1.0 h.1.1.1)) (λ x h. picked_spelled (codes "fold") (codes "pick") x.0 x.1.0 x.1.1 h.1.1.1.0) ws l p e
  vertex_rest vertex.SetRegister ws l p e = behind_is SlotFits slot_words slot_in slot_law (LineFits v) vertex_words (codes "reg") (λ x. P.SetRegister x.0 x.1) (λ x h. h) (λ x h. refl) ws l p e
  vertex_rest vertex.Put ws l p e = behind_is ReducedFits reduced_words reduced_in reduced_law (LineFits v) vertex_words (codes "put") put_of (λ x h. h.1) (λ x h. refl) ws l p e
  vertex_rest vertex.PickPut ws l p e = behind_is (PickedFits v) picked_words (picked_in v) (picked_law v) (LineFits v) vertex_words (codes "pickput") pickput_of (λ x h. (h.1.1.0, picked_fit v x.0 x.1.1 h.0 h.1.0 h.1.1.1)) (λ x h. picked_spelled (codes "put") (codes "pickput") x.0 x.1.0 x.1.1 h.1.1.1.0) ws l p e
  vertex_rest vertex.Send ws l p e = behind_is SendFits send_words (λ ws. last_at index_at (λ vs. last_at expression_at terms_in vs) ws) send_law (LineFits v) vertex_words (codes "send") (λ x. P.Send x.0 x.1.0 x.1.1) (λ x h. (h.0, h.1.0, h.1.1)) (λ x h. refl) ws l p e
  vertex_rest vertex.Skip ws l p e = behind_is SlotFits slot_words slot_in slot_law (LineFits v) vertex_words (codes "skip") (λ x. P.Skip x.0 x.1) (λ x h. h) (λ x h. refl) ws l p e
  vertex_rest vertex.Each ws l p e = behind_is EachFits (λ z. way_word z.0 ∷ decimal z.1 ∷ []) (λ ws. last_at (word_at (row_in tables.ways)) only_index ws) each_law (LineFits v) vertex_words (codes "each") (λ x. P.Each (direction_of x.0) x.1) (λ x h. h.1) (λ x h. refl) ws l p e

vertex_field : FieldLaw Whatever (λ h. vertex_word h ∷ []) (word_at (row_in tables.vertex_heads))
vertex_field = word_field Whatever vertex_word (row_in tables.vertex_heads) vertex_heads_word

way_of : Direction → Way
way_of P.Out = way.Out
way_of P.In = way.In

way_back : (d : Direction) → direction_of (way_of d) ≡ d
unfolding way_of
way_back P.Out = refl
way_back P.In = refl

module _ (v : Version) where
  vertex_is : (ws : List Word) (l : P.Line) → AllPlain ws → vertex_row v ws ≡ Some l → LineFits v l × (ws ≡ vertex_words l)
  vertex_is ws l p e =
      let h = bind_some (word_at (row_in tables.vertex_heads) ws) (λ h. vertex_behind v h.0 h.1) l e in
      let at = vertex_field.ok ws h.0.1 h.0.0 p h.1 in
      let Q : List Word → Type 0 = AllPlain in
      let got = vertex_rest v h.0.0 h.0.1 l (plain_behind (vertex_word h.0.0 ∷ []) h.0.1 (subst Q at.1 p)) h.2 in
      (got.0, at.1 ∙ got.1)

  vertex_step : (h : VertexHead) (ws : List Word) → vertex_row v (vertex_word h ∷ ws) ≡ vertex_behind v h ws
  vertex_step h ws = ap (λ o. o >>= λ h. vertex_behind v h.0 h.1) (vertex_field.again h ws tt)

  -- several slots
  pick_again : (h : VertexHead) (make : Reduce × (ℕ × List Target) → P.Line) → ((ws : List Word) → vertex_behind v h ws ≡ option_map make (picked_in v ws)) → (r : Reduce) (q : ℕ) (t u : Target) (us : List Target) → IsIndex q × TargetsFit v r (t ∷ (u ∷ us))
      → vertex_row v (vertex_word h ∷ picked_words (r, (q, t ∷ (u ∷ us)))) ≡ Some (make (r, (q, t ∷ (u ∷ us))))
  pick_again h make is r q t u us f =
      vertex_step h (picked_words (r, (q, t ∷ (u ∷ us)))) ∙ is (picked_words (r, (q, t ∷ (u ∷ us))))
      ∙ ap (option_map make) ((picked_law v).again (r, (q, t ∷ (u ∷ us))) (f.1.0, (f.1.1.0, (f.0, (omega arith, f.1.1.1)))))

  pick_plain : (r : Reduce) (q : ℕ) (ts : List Target) (one several : Word) → IsPlain one → IsPlain several → IsIndex q → TargetsFit v r ts → AllPlain (reduction_words one several r q ts)
  pick_plain r q [] one several a b i h = absurd h
  pick_plain r q (t ∷ []) one several a b i h = (a, reduced_law.plain (r, (q, (t.slot, t.term))) (tt, (i, h)))
  pick_plain r q (t ∷ (u ∷ us)) one several a b i h = (b, (picked_law v).plain (r, (q, t ∷ (u ∷ us))) (h.0, (h.1.0, (i, (omega arith, h.1.1)))))

  vertex_again : (l : P.Line) → LineFits v l → vertex_row v (vertex_words l) ≡ Some l
  vertex_again (P.SetField f a) h = vertex_step vertex.SetField (slot_words (f, a)) ∙ ap (option_map (λ x. P.SetField x.0 x.1)) (slot_law.again (f, a) h)
  vertex_again (P.Fold r q []) h = absurd h.1
  vertex_again (P.Fold r q (t ∷ [])) h = vertex_step vertex.Fold (reduced_words (r, (q, (t.slot, t.term)))) ∙ ap (option_map fold_of) (reduced_law.again (r, (q, (t.slot, t.term))) (tt, h))
  vertex_again (P.Fold r q (t ∷ (u ∷ us))) h = pick_again vertex.Pick pick_of (λ ws. refl) r q t u us h
  vertex_again (P.SetRegister i a) h = vertex_step vertex.SetRegister (slot_words (i, a)) ∙ ap (option_map (λ x. P.SetRegister x.0 x.1)) (slot_law.again (i, a) h)
  vertex_again (P.Put r q []) h = absurd h.1
  vertex_again (P.Put r q (t ∷ [])) h = vertex_step vertex.Put (reduced_words (r, (q, (t.slot, t.term)))) ∙ ap (option_map put_of) (reduced_law.again (r, (q, (t.slot, t.term))) (tt, h))
  vertex_again (P.Put r q (t ∷ (u ∷ us))) h = pick_again vertex.PickPut pickput_of (λ ws. refl) r q t u us h
  vertex_again (P.Send k to vs) h = vertex_step vertex.Send (send_words (k, (to, vs))) ∙ ap (option_map (λ x. P.Send x.0 x.1.0 x.1.1)) (send_law.again (k, (to, vs)) (h.0, (h.1, h.2)))
  vertex_again (P.Skip n a) h = vertex_step vertex.Skip (slot_words (n, a)) ∙ ap (option_map (λ x. P.Skip x.0 x.1)) (slot_law.again (n, a) h)
  vertex_again (P.Each d n) h =
      ap (λ w. vertex_row v (codes "each" ∷ direction_word w ∷ decimal n ∷ [])) (sym (way_back d))
      ∙ vertex_step vertex.Each (way_word (way_of d) ∷ decimal n ∷ []) ∙ ap (option_map (λ x. P.Each (direction_of x.0) x.1)) (each_law.again (way_of d, n) (tt, h))
      ∙ ap (λ w. Some (P.Each w n)) (way_back d)

  vertex_plain : (l : P.Line) → LineFits v l → AllPlain (vertex_words l)
  vertex_plain (P.SetField f a) h = (refl, slot_law.plain (f, a) h)
  vertex_plain (P.Fold r q ts) h = pick_plain r q ts (codes "fold") (codes "pick") refl refl h.0 h.1
  vertex_plain (P.SetRegister i a) h = (refl, slot_law.plain (i, a) h)
  vertex_plain (P.Put r q ts) h = pick_plain r q ts (codes "put") (codes "pickput") refl refl h.0 h.1
  vertex_plain (P.Send k to vs) h = (refl, send_law.plain (k, (to, vs)) (h.0, (h.1, h.2)))
  vertex_plain (P.Skip n a) h = (refl, slot_law.plain (n, a) h)
  vertex_plain (P.Each P.Out n) h = (refl, (refl, (index_plain n h, tt)))
  vertex_plain (P.Each P.In n) h = (refl, (refl, (index_plain n h, tt)))

  pub vertex_law : LineLaw (LineFits v) vertex_words (vertex_row v)
  vertex_law = record { ok = vertex_is; again = vertex_again; plain = vertex_plain }

reduction_nonempty : (one several : Word) (r : Reduce) (q : ℕ) (ts : List Target) → 0 < length (reduction_words one several r q ts)
reduction_nonempty one several r q [] = omega arith
reduction_nonempty one several r q (t ∷ []) = omega arith
reduction_nonempty one several r q (t ∷ (u ∷ us)) = omega arith

pub vertex_nonempty : (l : P.Line) → 0 < length (vertex_words l)
vertex_nonempty (P.SetField f a) = omega arith
vertex_nonempty (P.Fold r q ts) = reduction_nonempty (codes "fold") (codes "pick") r q ts
vertex_nonempty (P.SetRegister i a) = omega arith
vertex_nonempty (P.Put r q ts) = reduction_nonempty (codes "put") (codes "pickput") r q ts
vertex_nonempty (P.Send k to vs) = omega arith
vertex_nonempty (P.Skip n a) = omega arith
vertex_nonempty (P.Each d n) = omega arith

-- a master line
master_rest : (h : MasterHead) (ws : List Word) (l : Command) → AllPlain ws → master_behind h ws ≡ Some l → CommandFits l × (master_word h ∷ ws ≡ command_words l)
master_rest master.SetGlobal ws l p e = behind_is SlotFits slot_words slot_in slot_law CommandFits command_words (codes "set") (λ x. P.SetGlobal x.0 x.1) (λ x h. h) (λ x h. refl) ws l p e
master_rest master.Step ws l p e = behind_is IsIndex (λ n. decimal n ∷ []) only_index only_law CommandFits command_words (codes "step") (λ q. P.Step q) (λ x h. h) (λ x h. refl) ws l p e
master_rest master.Jump ws l p e = behind_is IsIndex (λ n. decimal n ∷ []) only_index only_law CommandFits command_words (codes "jump") (λ q. P.Jump q) (λ x h. h) (λ x h. refl) ws l p e
master_rest master.Test ws l p e = behind_is SlotFits slot_words slot_in slot_law CommandFits command_words (codes "test") (λ x. P.Test x.0 x.1) (λ x h. h) (λ x h. refl) ws l p e
master_rest master.Turn ws l p e = behind_is SlotFits slot_words slot_in slot_law CommandFits command_words (codes "loop") (λ x. P.Turn x.0 x.1) (λ x h. h) (λ x h. refl) ws l p e
master_rest master.Back ws l p e = behind_is IsIndex (λ n. decimal n ∷ []) only_index only_law CommandFits command_words (codes "back") (λ q. P.Back q) (λ x h. h) (λ x h. refl) ws l p e
master_rest master.Finish ws l p e = behind_is Whatever (λ u. []) ended_at ended_law CommandFits command_words (codes "end") (λ u. P.Finish) (λ x h. tt) (λ x h. refl) ws l p e

master_field : FieldLaw Whatever (λ h. master_word h ∷ []) (word_at (row_in tables.master_heads))
master_field = word_field Whatever master_word (row_in tables.master_heads) master_heads_word

master_is : (ws : List Word) (l : Command) → AllPlain ws → master_row ws ≡ Some l → CommandFits l × (ws ≡ command_words l)
master_is ws l p e =
    let h = bind_some (word_at (row_in tables.master_heads) ws) (λ h. master_behind h.0 h.1) l e in
    let at = master_field.ok ws h.0.1 h.0.0 p h.1 in
    let Q : List Word → Type 0 = AllPlain in
    let got = master_rest h.0.0 h.0.1 l (plain_behind (master_word h.0.0 ∷ []) h.0.1 (subst Q at.1 p)) h.2 in
    (got.0, at.1 ∙ got.1)

master_step : (h : MasterHead) (ws : List Word) → master_row (master_word h ∷ ws) ≡ master_behind h ws
master_step h ws = ap (λ o. o >>= λ h. master_behind h.0 h.1) (master_field.again h ws tt)

master_again : (l : Command) → CommandFits l → master_row (command_words l) ≡ Some l
master_again (P.SetGlobal g a) h = master_step master.SetGlobal (slot_words (g, a)) ∙ ap (option_map (λ x. P.SetGlobal x.0 x.1)) (slot_law.again (g, a) h)
master_again (P.Step q) h = master_step master.Step (decimal q ∷ []) ∙ ap (option_map (λ q. P.Step q)) (only_law.again q h)
master_again (P.Jump q) h = master_step master.Jump (decimal q ∷ []) ∙ ap (option_map (λ q. P.Jump q)) (only_law.again q h)
master_again (P.Test j a) h = master_step master.Test (slot_words (j, a)) ∙ ap (option_map (λ x. P.Test x.0 x.1)) (slot_law.again (j, a) h)
master_again (P.Turn j a) h = master_step master.Turn (slot_words (j, a)) ∙ ap (option_map (λ x. P.Turn x.0 x.1)) (slot_law.again (j, a) h)
master_again (P.Back q) h = master_step master.Back (decimal q ∷ []) ∙ ap (option_map (λ q. P.Back q)) (only_law.again q h)
master_again P.Finish h = master_step master.Finish []

master_plain : (l : Command) → CommandFits l → AllPlain (command_words l)
master_plain (P.SetGlobal g a) h = (refl, slot_law.plain (g, a) h)
master_plain (P.Step q) h = (refl, only_law.plain q h)
master_plain (P.Jump q) h = (refl, only_law.plain q h)
master_plain (P.Test j a) h = (refl, slot_law.plain (j, a) h)
master_plain (P.Turn j a) h = (refl, slot_law.plain (j, a) h)
master_plain (P.Back q) h = (refl, only_law.plain q h)
master_plain P.Finish h = (refl, tt)

pub master_law : LineLaw CommandFits command_words master_row
master_law = record { ok = master_is; again = master_again; plain = master_plain }

pub master_nonempty : (l : Command) → 0 < length (command_words l)
master_nonempty (P.SetGlobal g a) = omega arith
master_nonempty (P.Step q) = omega arith
master_nonempty (P.Jump q) = omega arith
master_nonempty (P.Test j a) = omega arith
master_nonempty (P.Turn j a) = omega arith
master_nonempty (P.Back q) = omega arith
master_nonempty P.Finish = omega arith
