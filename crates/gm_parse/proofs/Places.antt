-- Where the moves stop is exactly the place of the refusal.
use Rattle.std.proofs.Common.{◌≡◌, ℕ, suc, ◌<◌, ◌≤◌, Bool, true, false, List, [], ◌∷◌, ◌++◌, length, take, drop, refl, sym, ap, subst, ◌∙◌, append_assoc, arith, length-append, length-take}
use Rattle.std.proofs.lemmas.Bool.{cases_lt}
use Rattle.std.proofs.lemmas.List.{append-nil, take-append-drop, take-append-le, take_at}
use Rattle.std.proofs.Common.{◌⊎◌, inl, inr}
use Rattle.gm_token.specs.declared.words.Word.{Word}
use Rattle.gm_parse.specs.declared.around.Around.{Around}
use Rattle.gm_parse.specs.Terminals.{Terminal, fits}
use Rattle.gm_parse.specs.Grammar.{Token}
use Rattle.gm_parse.specs.Factored.{factored}
use Rattle.gm_parse.specs.Derivation.{Pending, Nothing, Next, Derives, is_too_deep, program, Begins, BeginsProgram, IsSyntaxPlace, IsTooDeepAt, NoneTooDeepBefore, IsFirstSyntax, IsFirstTooDeep, IsShallowProgram}
use Rattle.gm_parse.specs.Foresight.{next, Turns, Moves}
use Rattle.gm_parse.proofs.Begin.{can_finish}
use Rattle.gm_parse.proofs.Steps.{IsOrderly, turn_orderly, turn_forth, turn_back}

-- the marks of words none of which is too deep
pub plain : List Word → List Bool
plain [] = []
plain (w ∷ ws) = false ∷ plain ws

pub length-plain : (ws : List Word) → length (plain ws) ≡ length ws
unfolding plain
length-plain [] = refl
length-plain (w ∷ ws) = ap suc (length-plain ws)

plain-append : (v ws : List Word) → plain (v ++ ws) ≡ plain v ++ plain ws
unfolding plain
plain-append [] ws = refl
plain-append (w ∷ v) ws = ap (λ (ms : List Bool). false ∷ ms) (plain-append v ws)

-- The words that were read begin a program, none of them is too deep in any program that they begin,
-- and whatever follows, as long as it begins with the same word, makes a program exactly if what is pending derives it.
pub record Reached (v : List Word) (i : ℕ) (p : Pending) (u : List Word) : Type 0 where
  pub place : length v ≡ i
  pub forth : (ws : List Word) (ms : List Bool) → next ws ≡ next u → Derives factored i p ws ms → Derives factored 0 program (v ++ ws) (plain v ++ ms)
  pub back : (ws : List Word) (ms : List Bool) → next ws ≡ next u → Derives factored 0 program (v ++ ws) ms → (ns : List Bool) × ((ms ≡ plain v ++ ns) × Derives factored i p ws ns)
  pub begun : Begins factored v (plain v)
  pub none_deep : (j : ℕ) (ms : List Bool) (ws : List Word) (ns : List Bool) → j < length v → length ms ≡ j → Derives factored 0 program (take (suc j) v ++ ws) ((ms ++ true ∷ []) ++ ns) → ⊥
  pub orderly : IsOrderly p

pub at_start : (u : List Word) → Reached [] 0 program u
unfolding plain
at_start u =
    let r = can_finish program 0 in
    record {
      place = refl;
      forth = λ ws ms e d. d;
      back = λ ws ms e d. (ms, (refl, d));
      begun = record { later = r.0; later_marks = r.1.0; whole = r.1.1; marks_each = refl };
      none_deep = λ j ms ws ns lt e d. absurd (omega arith);
      orderly = λ w. refl;
    }

after_turn : {v : List Word} {i : ℕ} {p q : Pending} {u : List Word} → Turns (next u) i p q → Reached v i p u → Reached v i q u
after_turn t r = record {
  place = r.place;
  forth = λ ws ms e d. r.forth ws ms e (turn_forth t e d);
  back = λ ws ms e d. let b = r.back ws ms e d in (b.0, (b.1.0, turn_back t e r.orderly b.1.1));
  begun = r.begun;
  none_deep = r.none_deep;
  orderly = turn_orderly t r.orderly;
}

token_back : {i : ℕ} {k : Terminal} {a : Around} {p : Pending} {w : Word} {ws : List Word} {ms : List Bool} → Derives factored i (Next (Token k) a p) (w ∷ ws) ms → (ns : List Bool) × ((ms ≡ is_too_deep a i ∷ ns) × Derives factored (suc i) p ws ns)
token_back (Derives.token {ms} f d) = (ms, (refl, d))

-- the mark after as many marks as there are words in v
mark_differs : (ms ns : List Bool) (v : List Word) (us : List Bool) → length ms ≡ length v → (ms ++ true ∷ ns) ≡ (plain v ++ false ∷ us) → ⊥
unfolding plain
mark_differs [] ns [] us e h = cc
mark_differs [] ns (w ∷ v) us e h = cc
mark_differs (m ∷ ms) ns [] us e h = cc
mark_differs (m ∷ ms) ns (w ∷ v) us e h = mark_differs ms ns v us (omega arith) (cc)

words_shift : (v : List Word) (w : Word) (ws : List Word) → (v ++ w ∷ []) ++ ws ≡ v ++ w ∷ ws
words_shift v w ws = append_assoc v (w ∷ []) ws

marks_shift : (v : List Word) (w : Word) (ms : List Bool) → plain (v ++ w ∷ []) ++ ms ≡ plain v ++ false ∷ ms
unfolding plain
marks_shift v w ms = ap (λ (x : List Bool). x ++ ms) (plain-append v (w ∷ [])) ∙ append_assoc (plain v) (false ∷ []) ms

module _ (v : List Word) (i : ℕ) (k : Terminal) (a : Around) (p : Pending) (w : Word) (u : List Word) (f : fits k w ≡ true) (s : is_too_deep a i ≡ false) (r : Reached v i (Next (Token k) a p) (w ∷ u)) where
  read_forth : (ws : List Word) (ms : List Bool) → Derives factored (suc i) p ws ms → Derives factored 0 program ((v ++ w ∷ []) ++ ws) (plain (v ++ w ∷ []) ++ ms)
  read_forth ws ms d =
      let d1 : Derives factored 0 program (v ++ w ∷ ws) (plain v ++ is_too_deep a i ∷ ms) = r.forth (w ∷ ws) (is_too_deep a i ∷ ms) refl (Derives.token f d) in
      let d2 : Derives factored 0 program (v ++ w ∷ ws) (plain v ++ false ∷ ms) = subst (λ (b : Bool). Derives factored 0 program (v ++ w ∷ ws) (plain v ++ b ∷ ms)) s d1 in
      let d3 : Derives factored 0 program (v ++ w ∷ ws) (plain (v ++ w ∷ []) ++ ms) = subst (λ (x : List Bool). Derives factored 0 program (v ++ w ∷ ws) x) (sym (marks_shift v w ms)) d2 in
      subst (λ (x : List Word). Derives factored 0 program x (plain (v ++ w ∷ []) ++ ms)) (sym (words_shift v w ws)) d3

  read_back : (ws : List Word) (ms : List Bool) → Derives factored 0 program ((v ++ w ∷ []) ++ ws) ms → (ns : List Bool) × ((ms ≡ plain (v ++ w ∷ []) ++ ns) × Derives factored (suc i) p ws ns)
  read_back ws ms d =
      let d1 : Derives factored 0 program (v ++ w ∷ ws) ms = subst (λ (x : List Word). Derives factored 0 program x ms) (words_shift v w ws) d in
      let b = r.back (w ∷ ws) ms refl d1 in
      let t = token_back b.1.1 in
      let e : ms ≡ plain v ++ false ∷ t.0 = b.1.0 ∙ ap (λ (x : List Bool). plain v ++ x) (t.1.0 ∙ ap (λ (x : Bool). x ∷ t.0) s) in
      (t.0, (e ∙ sym (marks_shift v w t.0), t.1.1))

  read_none_deep : (j : ℕ) (ms : List Bool) (ws : List Word) (ns : List Bool) → j < length (v ++ w ∷ []) → length ms ≡ j → Derives factored 0 program (take (suc j) (v ++ w ∷ []) ++ ws) ((ms ++ true ∷ []) ++ ns) → ⊥
  read_none_deep j ms ws ns lt e d = by_place (cases_lt j (length v))
    where
      by_place : (j < length v) ⊎ (length v ≤ j) → ⊥
      by_place (inl h) = r.none_deep j ms ws ns h e (subst (λ (x : List Word). Derives factored 0 program (x ++ ws) ((ms ++ true ∷ []) ++ ns)) (take-append-le (suc j) v (w ∷ []) h) d)
      by_place (inr h) =
          let long : length (v ++ w ∷ []) ≡ suc (length v) = length-append v (w ∷ []) ∙ omega arith in
          let whole : take (suc j) (v ++ w ∷ []) ≡ v ++ w ∷ [] = ap (take (suc j)) (sym (append-nil (v ++ w ∷ []))) ∙ take_at (v ++ w ∷ []) [] (suc j) (omega arith) in
          let b = read_back ws ((ms ++ true ∷ []) ++ ns) (subst (λ (x : List Word). Derives factored 0 program (x ++ ws) ((ms ++ true ∷ []) ++ ns)) whole d) in
          mark_differs ms ns v b.0 (omega arith) (sym (append_assoc ms (true ∷ []) ns) ∙ b.1.0 ∙ marks_shift v w b.0)

  after_read : Reached (v ++ w ∷ []) (suc i) p u
  after_read =
      let z = can_finish p (suc i) in
      record {
        place = length-append v (w ∷ []) ∙ omega (arith, r.place);
        forth = λ ws ms e d. read_forth ws ms d;
        back = λ ws ms e d. read_back ws ms d;
        begun = record { later = z.0; later_marks = z.1.0; whole = read_forth z.0 z.1.0 z.1.1; marks_each = length-plain (v ++ w ∷ []) };
        none_deep = read_none_deep;
        orderly = r.orderly;
      }

-- what the moves read is at the front of what was left
pub record Arrives (j : ℕ) (q : Pending) (whole us : List Word) : Type 0 where
  pub read_words : List Word
  pub parts : whole ≡ read_words ++ us
  pub reached : Reached read_words j q us

pub after_moves : (v : List Word) {i j : ℕ} {p q : Pending} {u us : List Word} → Moves i p u j q us → Reached v i p u → Arrives j q (v ++ u) us
after_moves v Moves.here r = record { read_words = v; parts = refl; reached = r }
after_moves v (Moves.turn t m) r = after_moves v m (after_turn t r)
after_moves v (Moves.read {i} {k} {a} {p} {w} {ws} f s m) r =
    let x = after_moves (v ++ w ∷ []) m (after_read v i k a p w ws f s r) in
    record { read_words = x.read_words; parts = sym (words_shift v w ws) ∙ x.parts; reached = x.reached }

-- ---- the places

none_too_deep : {v : List Word} {i : ℕ} {p : Pending} {u : List Word} → Reached v i p u → NoneTooDeepBefore factored (v ++ u) i
none_too_deep {v} {i} {u} r j lt deep =
    let b = deep.1.1 in
    let at : take (suc j) (v ++ u) ≡ take (suc j) v = take-append-le (suc j) v u (omega (arith, r.place)) in
    let long : length (take (suc j) v) ≡ suc j = length-take (suc j) v ∙ omega (arith, r.place) in
    let marks : length (deep.1.0 ++ true ∷ []) ≡ suc (length deep.1.0) = length-append deep.1.0 (true ∷ []) ∙ omega arith in
    r.none_deep j deep.1.0 b.later b.later_marks (omega (arith, r.place))
    (omega (arith, marks, b.marks_each, ap (λ (x : List Word). length x) at, long))
    (subst (λ (x : List Word). Derives factored 0 program (x ++ b.later) ((deep.1.0 ++ true ∷ []) ++ b.later_marks)) at b.whole)

-- Where no text that goes on with the next word is derived, Syntax stands.
pub syntax_place : {v : List Word} {i : ℕ} {p : Pending} {u : List Word} → Reached v i p u
    → ((ws : List Word) (ms : List Bool) → next ws ≡ next u → Derives factored i p ws ms → ⊥) → IsFirstSyntax factored (v ++ u) i
syntax_place {v} {i} {p} {u} r stuck = record {
  place = record {
    in_text = omega (arith, r.place, length-append v u);
    before = (plain v, subst (λ (x : List Word). Begins factored x (plain v)) (sym (take_at v u i r.place)) r.begun);
    not_beyond = beyond u stuck r;
    not_whole = λ e whole. stuck u (r.back u whole.0 refl whole.1).0 refl (r.back u whole.0 refl whole.1).1.1;
  };
  first = none_too_deep r;
}
  where
    beyond : (u : List Word) → ((ws : List Word) (ms : List Bool) → next ws ≡ next u → Derives factored i p ws ms → ⊥) → Reached v i p u → i < length (v ++ u) → BeginsProgram factored (take (suc i) (v ++ u)) → ⊥
    beyond [] stuck r lt b = let none : List Word = [] in absurd (omega (arith, r.place, length-append v none))
    beyond (w ∷ ws) stuck r lt b =
        let long : length (v ++ w ∷ []) ≡ suc i = length-append v (w ∷ []) ∙ omega (arith, r.place) in
        let at : take (suc i) (v ++ w ∷ ws) ≡ v ++ w ∷ [] = ap (take (suc i)) (sym (words_shift v w ws)) ∙ take_at (v ++ w ∷ []) ws (suc i) long in
        let x = b.1 in
        let d : Derives factored 0 program (v ++ w ∷ x.later) (b.0 ++ x.later_marks) = subst (λ (y : List Word). Derives factored 0 program y (b.0 ++ x.later_marks)) (ap (λ (y : List Word). y ++ x.later) at ∙ words_shift v w x.later) x.whole in
        let z = r.back (w ∷ x.later) (b.0 ++ x.later_marks) refl d in
        stuck (w ∷ x.later) z.0 refl z.1.1

-- the front of words that begin a program begins one
begins_front : (front rest : List Word) (ms : List Bool) → Begins factored (front ++ rest) ms → BeginsProgram factored front
begins_front front rest ms b =
    let n = length front in
    let parts : ms ≡ take n ms ++ drop n ms = sym (take-append-drop n ms) in
    let d1 : Derives factored 0 program (front ++ (rest ++ b.later)) (ms ++ b.later_marks) = subst (λ (x : List Word). Derives factored 0 program x (ms ++ b.later_marks)) (append_assoc front rest b.later) b.whole in
    let d2 : Derives factored 0 program (front ++ (rest ++ b.later)) (take n ms ++ (drop n ms ++ b.later_marks)) = subst (λ (x : List Bool). Derives factored 0 program (front ++ (rest ++ b.later)) x) (ap (λ (x : List Bool). x ++ b.later_marks) parts ∙ append_assoc (take n ms) (drop n ms) b.later_marks) d1 in
    (take n ms, record { later = rest ++ b.later; later_marks = drop n ms ++ b.later_marks; whole = d2; marks_each = length-take n ms ∙ omega (arith, b.marks_each, length-append front rest) })

-- Where a word that fits stands too deep, TooDeep stands.
pub too_deep_place : {v : List Word} {i : ℕ} {k : Terminal} {a : Around} {p : Pending} {w : Word} {u : List Word} → Reached v i (Next (Token k) a p) (w ∷ u)
    → fits k w ≡ true → is_too_deep a i ≡ true → IsFirstTooDeep factored (v ++ w ∷ u) i
too_deep_place {v} {i} {k} {a} {p} {w} {u} r f s = record {
  place = (omega (arith, r.place, length-append v (w ∷ u)), (plain v, subst (λ (x : List Word). Begins factored x (plain v ++ true ∷ [])) (sym (at u)) begun));
  first = none_too_deep r;
  no_syntax = after;
}
  where
    long : length (v ++ w ∷ []) ≡ suc i
    long = length-append v (w ∷ []) ∙ omega (arith, r.place)

    at : (u : List Word) → take (suc i) (v ++ w ∷ u) ≡ v ++ w ∷ []
    at u = ap (take (suc i)) (sym (words_shift v w u)) ∙ take_at (v ++ w ∷ []) u (suc i) long

    begun : Begins factored (v ++ w ∷ []) (plain v ++ true ∷ [])
    begun =
        let z = can_finish p (suc i) in
        let d1 : Derives factored 0 program (v ++ w ∷ z.0) (plain v ++ is_too_deep a i ∷ z.1.0) = r.forth (w ∷ z.0) (is_too_deep a i ∷ z.1.0) refl (Derives.token f z.1.1) in
        let d2 : Derives factored 0 program (v ++ w ∷ z.0) ((plain v ++ true ∷ []) ++ z.1.0) = subst (λ (x : List Bool). Derives factored 0 program (v ++ w ∷ z.0) x) (ap (λ (b : Bool). plain v ++ b ∷ z.1.0) s ∙ sym (append_assoc (plain v) (true ∷ []) z.1.0)) d1 in
        record {
          later = z.0;
          later_marks = z.1.0;
          whole = subst (λ (x : List Word). Derives factored 0 program x ((plain v ++ true ∷ []) ++ z.1.0)) (sym (words_shift v w z.0)) d2;
          marks_each = length-append (plain v) (true ∷ []) ∙ omega (arith, length-plain v, length-append v (w ∷ []));
        }

    after : (j : ℕ) → IsSyntaxPlace factored (v ++ w ∷ u) j → i < j
    after j h = by_place (cases_lt i j)
      where
        by_place : (i < j) ⊎ (j ≤ i) → i < j
        by_place (inl lt) = lt
        by_place (inr le) =
            let front : v ++ w ∷ [] ≡ take (suc j) (v ++ w ∷ []) ++ drop (suc j) (v ++ w ∷ []) = sym (take-append-drop (suc j) (v ++ w ∷ [])) in
            let same : take (suc j) (v ++ w ∷ u) ≡ take (suc j) (v ++ w ∷ []) = ap (take (suc j)) (sym (words_shift v w u)) ∙ take-append-le (suc j) (v ++ w ∷ []) u (omega (arith, long)) in
            let b = begins_front (take (suc j) (v ++ w ∷ [])) (drop (suc j) (v ++ w ∷ [])) (plain v ++ true ∷ []) (subst (λ (x : List Word). Begins factored x (plain v ++ true ∷ [])) front begun) in
            absurd (h.not_beyond (omega (arith, r.place, length-append v (w ∷ u))) (subst (λ (x : List Word). BeginsProgram factored x) (sym same) b))

-- Where all words are read and nothing is pending, the text is a program in which nothing is too deep.
pub done_place : {v : List Word} {i : ℕ} → Reached v i Nothing [] → IsShallowProgram factored v
done_place {v} {i} r = record {
  is_program = (plain v ++ [], subst (λ (x : List Word). Derives factored 0 program x (plain v ++ [])) (append-nil v) (r.forth [] [] refl Derives.end));
  shallow = λ k deep. none_too_deep r k (omega (arith, r.place, deep.0)) (subst (λ (x : List Word). IsTooDeepAt factored x k) (sym (append-nil v)) deep);
}
