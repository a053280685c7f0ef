-- How many lines a statement has does not depend on where the run ends.
use Rattle.std.proofs.Common.{◌≡◌, ℕ, suc, Some, None, List, [], ◌∷◌, ◌++◌, length, refl, ap, ◌∙◌, sym, subst, arith, length-append}
use Rattle.std.specs.Prelude.{◌+◌}
use Rattle.gm_ast.specs.Program as S
use Rattle.gm_ast.specs.Program.{Stmt}
use Rattle.gm_image.specs.Term.{Term}
use Rattle.gm_image.specs.Program.{Command, Jump, Back}
use Rattle.gm_lowering.specs.Layouts.{Layout}
use Rattle.gm_lowering.specs.Lowered as L
use Rattle.gm_lowering.specs.Lowered.{Frame, Part, part, past, lines_on, places_on, deeper, choice, test_lines}
use Rattle.gm_lowering.specs.Places.{segment, spot_at, spots_in, shown_places}
use Rattle.gm_lowering.specs.Terms.{master_env, term}
use Rattle.gm_lowering_master.proofs.Counting.{tests-long}

pub record SameShape (x y : Part) : Type 0 where
  pub commands : length x.commands ≡ length y.commands
  pub blocks : x.blocks ≡ y.blocks
  pub places : x.places ≡ y.places

choice-same : (t : Term) (one two : ℕ) (xs ys xs' ys' : List Command) → length xs ≡ length xs' → length ys ≡ length ys' → length (choice t one xs ys) ≡ length (choice t two xs' ys')
choice-same t one two xs [] xs' [] e h = ap suc e
choice-same t one two xs [] xs' (y ∷ ys') e h = absurd (omega arith)
choice-same t one two xs (y ∷ ys) xs' [] e h = absurd (omega arith)
choice-same t one two xs (y ∷ ys) xs' (y' ∷ ys') e h =
    let l = length-append xs (Jump (suc one + length (y ∷ ys)) ∷ (y ∷ ys)) in
    let r = length-append xs' (Jump (suc two + length (y' ∷ ys')) ∷ (y' ∷ ys')) in
    let z : suc (length (xs ++ Jump (suc one + length (y ∷ ys)) ∷ (y ∷ ys))) ≡ suc (length (xs' ++ Jump (suc two + length (y' ∷ ys')) ∷ (y' ∷ ys'))) = omega (arith, l, r, e, h) in z

last-same : (xs xs' : List Command) (y : Command) → length xs ≡ length xs' → length (xs ++ y ∷ []) ≡ length (xs' ++ y ∷ [])
last-same xs xs' y e = length-append xs (y ∷ []) ∙ ap (λ n. n + 1) e ∙ sym (length-append xs' (y ∷ []))

abbrev same : (x : Part) → SameShape x x
same x = record { commands = refl; blocks = refl; places = refl }

module _ (c : Layout) (one two : ℕ) where
  abbrev w : Frame
  w = record { layout = c; finish = one }

  abbrev u : Frame
  u = record { layout = c; finish = two }

  past-same : (at : L.At) (st : Stmt) (x y : Part) → SameShape x y → past w at st x ≡ past u at st y
  past-same at st x y h =
      ap (λ n. record (past w at st x) { line = at.line + n }) h.commands
      ∙ ap (λ bs. record (past w at st x) { line = at.line + length y.commands; block = at.block + length bs }) h.blocks
      ∙ ap (λ ps. record (past w at st x) { line = at.line + length y.commands; block = at.block + length y.blocks; place = at.place + length ps }) h.places

  pub shape : (st : Stmt) (at : L.At) → SameShape (part w st at) (part u st at)
  shape (S.Then a b) at =
      let x = part w a at in
      let x' = part u a at in
      let h = shape a at in
      let k : SameShape (part w b (past w at a x)) (part u b (past u at a x')) = subst (λ z. SameShape (part w b (past w at a x)) (part u b z)) (past-same at a x x' h) (shape b (past w at a x)) in
      record {
        commands = length-append x.commands (part w b (past w at a x)).commands ∙ ap (λ n. n + length (part w b (past w at a x)).commands) h.commands ∙ ap (λ n. length x'.commands + n) k.commands
            ∙ sym (length-append x'.commands (part u b (past u at a x')).commands);
        blocks = ap (λ bs. bs ++ (part w b (past w at a x)).blocks) h.blocks ∙ ap (λ bs. x'.blocks ++ bs) k.blocks;
        places = ap (λ bs. bs ++ (part w b (past w at a x)).places) h.places ∙ ap (λ bs. x'.places ++ bs) k.places;
      }
  shape (S.If k test a b) at =
      let g = segment at.place (spots_in test k) in
      let t = term (master_env c g) k test in
      let start = lines_on 1 (places_on (shown_places g) at) in
      let x = part w a start in
      let x' = part u a start in
      let h = shape a start in
      let y = part w b (lines_on 1 (past w start a x)) in
      let y' = part u b (lines_on 1 (past u start a x')) in
      let q : SameShape y y' = subst (λ z. SameShape y (part u b (lines_on 1 z))) (past-same start a x x' h) (shape b (lines_on 1 (past w start a x))) in
      record {
        commands = choice-same t (past w start a x).line (past u start a x').line x.commands y.commands x'.commands y'.commands h.commands q.commands;
        blocks = ap (λ bs. bs ++ y.blocks) h.blocks ∙ ap (λ bs. x'.blocks ++ bs) q.blocks;
        places = ap (λ ps. shown_places g ++ (ps ++ y.places)) h.places ∙ ap (λ ps. shown_places g ++ (x'.places ++ ps)) q.places;
      }
  shape (S.While k place test body) at =
      let g = segment at.place (spots_in test k) in
      let start = lines_on 1 (places_on (shown_places g) at) in
      let h = shape body start in
      record {
        commands = ap suc (last-same (part w body start).commands (part u body start).commands (Back at.line) h.commands);
        blocks = h.blocks;
        places = ap (λ ps. shown_places g ++ ps) h.places;
      }
  shape (S.Do k place body test) at =
      let g = segment at.place (spots_in test k) in
      let start = lines_on 3 (deeper (places_on (shown_places g) at)) in
      let h = shape body start in
      record {
        commands = ap (λ n. suc (suc (suc n))) (last-same (part w body start).commands (part u body start).commands (Back (suc at.line)) h.commands);
        blocks = h.blocks;
        places = ap (λ ps. shown_places g ++ ps) h.places;
      }
  shape (S.For k place f test body) at =
      let g = segment at.place (spot_at k place ∷ spots_in test k) in
      let t = term (master_env c g) k test in
      let start = lines_on (4 + length (test_lines 0 t)) (deeper (places_on (shown_places g) at)) in
      let x = part w body start in
      let x' = part u body start in
      let h = shape body start in
      let back = Back (suc at.line) in
      record {
        commands = ap (λ n. suc (suc (suc (suc n)))) (
            length-append (test_lines (start.line + length x.commands) t) (x.commands ++ back ∷ [])
            ∙ ap (λ n. n + length (x.commands ++ back ∷ [])) (tests-long t (start.line + length x.commands) ∙ sym (tests-long t (start.line + length x'.commands)))
            ∙ ap (λ n. length (test_lines (start.line + length x'.commands) t) + n) (last-same x.commands x'.commands back h.commands)
            ∙ sym (length-append (test_lines (start.line + length x'.commands) t) (x'.commands ++ back ∷ [])));
        blocks = h.blocks;
        places = ap (λ ps. shown_places g ++ ps) h.places;
      }
  shape (S.Return k place None) at = record { commands = refl; blocks = refl; places = refl }
  shape (S.Return k place (Some e)) at = record { commands = refl; blocks = refl; places = refl }
  shape (S.Declare k x None) at = record { commands = refl; blocks = refl; places = refl }
  shape (S.Declare k x (Some e)) at = record { commands = refl; blocks = refl; places = refl }
  shape st at = record { commands = refl; blocks = refl; places = refl }
