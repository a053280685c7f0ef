-- In an accepted text no token of any derivation is too deep.
use Rattle.std.proofs.Common.{◌≡◌, ◌<◌, ◌+◌, ℕ, suc, min, Bool, true, false, List, [], ◌∷◌, ◌++◌, length, take, drop, refl, sym, ap, subst, ◌∙◌, arith, append_assoc, length-append, length-take, take-append-drop}
use Rattle.gm_token.specs.declared.words.Word.{Word}
use Rattle.gm_parse.specs.Grammar.{rule}
use Rattle.gm_parse.specs.Derivation.{Pending, Derives, program, IsTooDeepAt}
use Rattle.gm_parse.specs.Grammar.{Part, Rule}
use Rattle.gm_depth.proofs.Derivations.{Calm}

marks-each : {grammar : Part → Rule} {i : ℕ} {p : Pending} {ws : List Word} {ms : List Bool} → Derives grammar i p ws ms → length ms ≡ length ws
marks-each Derives.end = refl
marks-each (Derives.token f d) = ap suc (marks-each d)
marks-each (Derives.part d) = marks-each d
marks-each (Derives.both d) = marks-each d
marks-each (Derives.left d) = marks-each d
marks-each (Derives.right d) = marks-each d
marks-each (Derives.absent d) = marks-each d
marks-each (Derives.present d) = marks-each d
marks-each (Derives.stop d) = marks-each d
marks-each (Derives.more d) = marks-each d
marks-each (Derives.detached b d) = marks-each d
marks-each (Derives.attached d) = marks-each d
marks-each (Derives.within d) = marks-each d

module _ (ws : List Word) (shallow : (k : ℕ) → IsTooDeepAt rule ws k → ⊥) (marks : List Bool) (d : Derives rule 0 program ws marks) where
  -- a mark shows a token that is too deep
  deep-at : (before rest : List Bool) → before ++ true ∷ rest ≡ marks → IsTooDeepAt rule ws (length before)
  deep-at before rest e =
      let k = length before in
      let same : length marks ≡ length ws = marks-each d in
      let whole : length (before ++ true ∷ rest) ≡ length before + length (true ∷ rest) = length-append before (true ∷ rest) in
      let all : length (before ++ true ∷ rest) ≡ length marks = ap length e in
      let low : length before < length ws = omega arith in
      let front : length (take (suc k) ws) ≡ min (suc k) (length ws) = length-take (suc k) ws in
      let one : length (before ++ true ∷ []) ≡ length before + length (true ∷ []) = length-append before (true ∷ []) in (
        low,
        (
          before,
          record {
            later = drop (suc k) ws;
            later_marks = rest;
            whole =
                subst (λ (vs : List Word). Derives rule 0 program vs ((before ++ true ∷ []) ++ rest)) (sym (take-append-drop (suc k) ws))
                (subst (λ (ms : List Bool). Derives rule 0 program ws ms) (sym (append_assoc before (true ∷ []) rest ∙ e)) d);
            marks_each = omega arith;
          },
        ),
      )

  calm-from : (before rest : List Bool) → before ++ rest ≡ marks → Calm rest
  calm-from before [] e = tt
  calm-from before (true ∷ rest) e = absurd (shallow (length before) (deep-at before rest e))
  calm-from before (false ∷ rest) e = (refl, calm-from (before ++ false ∷ []) rest (append_assoc before (false ∷ []) rest ∙ e))

  pub calm : Calm marks
  calm = calm-from [] marks refl
