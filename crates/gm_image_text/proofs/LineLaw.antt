-- A line of an image's text: its words spell it, and it is read from them and from no others.
use Rattle.std.proofs.Common.{◌≡◌, ◌<◌, List, [], ◌∷◌, ◌++◌, length, refl, ap, ◌∙◌, subst}
use Rattle.std.specs.Prelude.{Option, Some, None, option_map, Result, Ok, Err}
use Rattle.gm_image_text.specs.Lines.{Line, Word, spaced, line_words}
use Rattle.gm_image_text.specs.Spelling.{one_line}
use Rattle.gm_image_text.specs.Sections.{row_at, row_behind, judged}
use Rattle.gm_image_text.proofs.Binds.{ok_is, err_is}
use Rattle.gm_image_text.proofs.Parts.{PartLaw, IsStuck}
use Rattle.gm_image_text.proofs.Spelled.{AllPlain, spaced_words, words_spaced, spaced_is_line}

pub record LineLaw {X : Type 0} (F : X → Type 0) (words : X → List Word) (read : List Word → Option X) : Type 0 where
  pub ok : (ws : List Word) (x : X) → AllPlain ws → read ws ≡ Some x → F x × (ws ≡ words x)
  pub again : (x : X) → F x → read (words x) ≡ Some x
  pub plain : (x : X) → F x → AllPlain (words x)

module _ {X : Type 0} (F : X → Type 0) (words : X → List Word) (read : List Word → Option X) (law : LineLaw F words read) (nonempty : (x : X) → 0 < length (words x)) (some : X) (some_fits : F some) where
  -- how the first of some lines is read, by its words
  abbrev by_words : Line → List Line → Option (List Word) → Result (X × List Line) (List Line)
  by_words l ls o = row_behind read (l ∷ ls) (option_map (λ ws. (ws, ls)) o)

  judged_ok : (all rest ls : List Line) (x : X) (o : Option X) → judged all ls o ≡ Ok (x, rest) → (o ≡ Some x) × (ls ≡ rest)
  judged_ok all rest ls x None e = cc
  judged_ok all rest ls x (Some y) e =
      let pair : (y, ls) ≡ (x, rest) = ok_is (y, ls) (x, rest) e in
      (ap (λ v. Some v.0) pair, ap (λ v. v.1) pair)

  behind_ok : (l : Line) (ls rest : List Line) (x : X) (o : Option (List Word)) → line_words l ≡ o → by_words l ls o ≡ Ok (x, rest) → F x × (l ∷ ls ≡ spaced (words x) ∷ rest)
  behind_ok l ls rest x None is e = cc
  behind_ok l ls rest x (Some ws) is e =
      let line_is = words_spaced l ws is in
      let it : (read ws ≡ Some x) × (ls ≡ rest) = judged_ok (l ∷ ls) rest ls x (read ws) e in
      let got : F x × (ws ≡ words x) = law.ok ws x line_is.1 it.0 in
      (got.0, ap (λ v. v ∷ ls) (line_is.0 ∙ ap spaced got.1) ∙ ap (λ v. spaced (words x) ∷ v) it.1)

  row_ok : (ls rest : List Line) (x : X) → row_at read ls ≡ Ok (x, rest) → F x × (ls ≡ one_line words x ++ rest)
  row_ok [] rest x e = cc
  row_ok (l ∷ ls) rest x e = behind_ok l ls rest x (line_words l) refl e

  row_again : (x : X) (rest : List Line) → F x → row_at read (one_line words x ++ rest) ≡ Ok (x, rest)
  row_again x rest f =
      ap (by_words (spaced (words x)) rest) (spaced_words (words x) (nonempty x) (law.plain x f)) ∙ ap (judged (spaced (words x) ∷ rest) rest) (law.again x f)

  judged_err : (all rest ls : List Line) (o : Option X) → judged all ls o ≡ Err rest → (o ≡ None) × (all ≡ rest)
  judged_err all rest ls None e = (refl, err_is all rest e)
  judged_err all rest ls (Some y) e = cc

  -- a bad line is bad whatever follows
  behind_err : (l : Line) (ls rest : List Line) (o : Option (List Word)) → by_words l ls o ≡ Err rest → (l ∷ ls ≡ rest) × ((more : List Line) → by_words l more o ≡ Err (l ∷ more))
  behind_err l ls rest None e = (err_is (l ∷ ls) rest e, λ more. refl)
  behind_err l ls rest (Some ws) e =
      let it : (read ws ≡ None) × (l ∷ ls ≡ rest) = judged_err (l ∷ ls) rest ls (read ws) e in
      (it.1, λ more. ap (judged (l ∷ more) more) it.0)

  row_stops : (ls rest : List Line) → row_at read ls ≡ Err rest → (ls ≡ rest) × IsStuck (row_at read) [] ls
  row_stops [] rest e = (err_is [] rest e, tt)
  row_stops (l ∷ ls) rest e = behind_err l ls rest (line_words l) e

  pub row_law : PartLaw F (one_line words) (row_at read)
  row_law = record {
    some = some;
    some_fits = some_fits;
    ok = row_ok;
    again = row_again;
    fault = λ ls rest e.
        let it = row_stops ls rest e in
        let P : List Line → Type 0 = λ v. IsStuck (row_at read) [] v in
        record {
          front = [];
          split = it.0;
          whole = some;
          fits = some_fits;
          more = one_line words some;
          begins = refl;
          stuck = subst P it.0 it.1;
        };
    ended = λ x f. (spaced_is_line (words x) (law.plain x f), tt);
  }
