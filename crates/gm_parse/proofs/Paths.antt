-- How a function's moves are put together from those of its parts: one lemma for each form of a rule.
use Rattle.std.proofs.Common.{◌≡◌, ℕ, zero, suc, ◌+◌, ◌<◌, ◌≤◌, Bool, true, false, nat_eq, ◌||◌, ◌&&◌, List, [], ◌∷◌, map, drop, length, Option, Some, None, is_some, Result, Ok, Err, refl, sym, ap, subst, ◌∙◌, add-one, arith}
use Rattle.std.specs.Prelude.{IsErrAnd, slice_get, unwrap_or}
use Rattle.std.specs.Option.{option_and_then}
use Rattle.std.proofs.lemmas.Result.{err_from_is_err_and}
use Rattle.std.proofs.lemmas.Bool.{and_parts}
use Rattle.gm_base.specs.declared.places.Place.{Place}
use Rattle.gm_token.specs.declared.words.Word.{Word}
use Rattle.gm_token.specs.declared.words.Word.TheVariants as words
use Rattle.gm_token.specs.Tokens.{Token, Listing, words_of, places_of, texts_of}
use Rattle.gm_parse.specs.declared.around.Around.{Around}
use Rattle.gm_parse.specs.declared.faults.Fault.{Fault}
use Rattle.gm_parse.specs.declared.faults.Fault.TheVariants.{Syntax, TooDeep, NoMemory}
use Rattle.gm_parse.specs.Terminals.{number_of, Terminal, The, AnyName, fits}
use Rattle.gm_parse.specs.Grammar.{Part, Nest, Rule, Token as TokenRule, Of, ◌▸◌, ◌∣◌, Maybe, Many, Attached, Within, rule}
use Rattle.gm_parse.specs.Factored.{factored}
use Rattle.gm_parse.specs.Derivation.{enter, BeginsOtherwise, Pending, Next, is_too_deep}
use Rattle.gm_parse.specs.Foresight.{is_among, begins, is_empty, starts, next, starts_next, Turns, Moves}
use Rattle.gm_parse.specs.Goes.{is_choice, IsFault, Stops, Goes, IsChoiceOf, Sees, end_of}
use Rattle.gm_parse.specs.Refused.{place_at}
use Rattle.gm_parse.specs.Trees.{ReadsWord, ReadsAs, ReadsName, ComesOtherwise}

pub moves_on : {i j k : ℕ} {p q r : Pending} {ws us vs : List Word} → Moves i p ws j q us → Moves j q us k r vs → Moves i p ws k r vs
moves_on Moves.here m = m
moves_on (Moves.turn t n) m = Moves.turn t (moves_on n m)
moves_on (Moves.read f s n) m = Moves.read f s (moves_on n m)

pub stops_after : {e : Fault} {i j : ℕ} {p q : Pending} {ws us : List Word} → Moves i p ws j q us → Stops e j q us → Stops e i p ws
stops_after m s = record { at = s.at; pending = s.pending; left = s.left; moves = moves_on m s.moves; fault = s.fault }

drop_next : (ws : List Word) (i : ℕ) (w : Word) → next (drop i ws) ≡ Some w → drop i ws ≡ w ∷ drop (suc i) ws
drop_next [] zero w e = absurd cc
drop_next [] (suc i) w e = absurd cc
drop_next (v ∷ ws) zero w e = let h : v ≡ w = cc in ap (λ (x : Word). x ∷ ws) h
drop_next (v ∷ ws) (suc i) w e = drop_next ws i w e

-- ---- one word

pub goes_word : (k : Terminal) (a : Around) (ws : List Word) (i : ℕ) (w : Word) → next (drop i ws) ≡ Some w → fits k w ≡ true → is_too_deep a i ≡ false → Goes (TokenRule k) a ws i (Ok (i + 1))
goes_word k a ws i w e f s = record {
  cases = λ p. rw add-one (subst (λ (us : List Word). Moves i (Next (TokenRule k) a p) us (suc i) p (drop (suc i) ws)) (sym (drop_next ws i w e)) (Moves.read f s Moves.here));
}

pub goes_too_deep : (k : Terminal) (a : Around) (ws : List Word) (i : ℕ) (w : Word) → next (drop i ws) ≡ Some w → fits k w ≡ true → is_too_deep a i ≡ true → Goes (TokenRule k) a ws i (Err (TooDeep i))
goes_too_deep k a ws i w e f s = record {
  cases = λ p. subst (λ (us : List Word). Stops (TooDeep i) i (Next (TokenRule k) a p) us) (sym (drop_next ws i w e))
      (record { at = i; pending = Next (TokenRule k) a p; left = w ∷ drop (suc i) ws; moves = Moves.here; fault = IsFault.too_deep f s });
}

pub goes_other : (x : Rule) (a : Around) (ws : List Word) (i : ℕ) (o : Option Word) → next (drop i ws) ≡ o → is_empty x ≡ false → starts_next o x ≡ false → Goes x a ws i (Err (Syntax i))
goes_other x a ws i o e n s = record {
  cases = λ p. record { at = i; pending = Next x a p; left = drop i ws; moves = Moves.here; fault = IsFault.other_word n (ap (λ (y : Option Word). starts_next y x) e ∙ s) };
}

-- ---- forms of rules

-- a turn first
turned : {x y : Rule} {a b : Around} {ws : List Word} {i : ℕ} {r : Result ℕ Fault} → ((p : Pending) → Turns (next (drop i ws)) i (Next x a p) (Next y b p)) → Goes y b ws i r → Goes x a ws i r
turned {r = Ok j} t g = record { cases = λ p. Moves.turn (t p) (g.cases p) }
turned {r = Err e} t g = record { cases = λ p. stops_after (Moves.turn (t p) Moves.here) (g.cases p) }

pub goes_part : (q : Part) {a : Around} {ws : List Word} {i : ℕ} {r : Result ℕ Fault} → Goes (factored q) a ws i r → Goes (Of q) a ws i r
goes_part q g = turned (λ p. Turns.part) g

pub goes_within : (n : Nest) {x : Rule} {a : Around} {ws : List Word} {i : ℕ} {r : Result ℕ Fault} → Goes x (enter n i a) ws i r → Goes (Within n x) a ws i r
goes_within n g = turned (λ p. Turns.within) g

pub goes_left : {x y : Rule} {a : Around} {ws : List Word} {i : ℕ} {r : Result ℕ Fault} → Sees ws i x true → Goes x a ws i r → Goes (x ∣ y) a ws i r
goes_left {x} e g = turned (λ p. Turns.left e.holds) g

pub goes_right : {x y : Rule} {a : Around} {ws : List Word} {i : ℕ} {r : Result ℕ Fault} → Sees ws i x false → Goes y a ws i r → Goes (x ∣ y) a ws i r
goes_right {x} e g = turned (λ p. Turns.right e.holds) g

pub goes_present : {x : Rule} {a : Around} {ws : List Word} {i : ℕ} {r : Result ℕ Fault} → Sees ws i x true → Goes x a ws i r → Goes (Maybe x) a ws i r
goes_present {x} e g = turned (λ p. Turns.present e.holds) g

-- nothing is read
pub goes_absent : {x : Rule} {a : Around} {ws : List Word} {i : ℕ} → Sees ws i x false → Goes (Maybe x) a ws i (Ok i)
goes_absent {x} e = record { cases = λ p. Moves.turn (Turns.absent e.holds) Moves.here }

pub goes_stop : {x : Rule} {a : Around} {ws : List Word} {i : ℕ} → Sees ws i x false → Goes (Many x) a ws i (Ok i)
goes_stop {x} e = record { cases = λ p. Moves.turn (Turns.stop e.holds) Moves.here }

pub goes_detached : {k : Terminal} {x : Rule} {a : Around} {ws : List Word} {i : ℕ} → Sees ws i (TokenRule k) false → Goes (Attached k x) a ws i (Ok i)
goes_detached {k} e = record { cases = λ p. Moves.turn (Turns.detached e.holds) Moves.here }

-- one after the other
pub goes_then : {x y : Rule} {a : Around} {ws : List Word} {i j : ℕ} {r : Result ℕ Fault} → Goes x a ws i (Ok j) → Goes y a ws j r → Goes (x ▸ y) a ws i r
goes_then {y} {a} {r = Ok k} g h = record { cases = λ p. Moves.turn Turns.both (moves_on (g.cases (Next y a p)) (h.cases p)) }
goes_then {y} {a} {r = Err e} g h = record { cases = λ p. stops_after (Moves.turn Turns.both (g.cases (Next y a p))) (h.cases p) }

pub goes_first : {x y : Rule} {a : Around} {ws : List Word} {i : ℕ} {e : Fault} → Goes x a ws i (Err e) → Goes (x ▸ y) a ws i (Err e)
goes_first {y} {a} g = record { cases = λ p. stops_after (Moves.turn Turns.both Moves.here) (g.cases (Next y a p)) }

-- one repetition, and the others
pub goes_more : {x : Rule} {a : Around} {ws : List Word} {i j : ℕ} {r : Result ℕ Fault} → Sees ws i x true → Goes x a ws i (Ok j) → Goes (Many x) a ws j r → Goes (Many x) a ws i r
goes_more {x} {a} {r = Ok k} e g h = record { cases = λ p. Moves.turn (Turns.more e.holds) (moves_on (g.cases (Next (Many x) a p)) (h.cases p)) }
goes_more {x} {a} {r = Err d} e g h = record { cases = λ p. stops_after (Moves.turn (Turns.more e.holds) (g.cases (Next (Many x) a p))) (h.cases p) }

pub goes_more_first : {x : Rule} {a : Around} {ws : List Word} {i : ℕ} {d : Fault} → Sees ws i x true → Goes x a ws i (Err d) → Goes (Many x) a ws i (Err d)
goes_more_first {x} {a} e g = record { cases = λ p. stops_after (Moves.turn (Turns.more e.holds) Moves.here) (g.cases (Next (Many x) a p)) }

pub goes_attached : {k : Terminal} {x : Rule} {a : Around} {ws : List Word} {i j : ℕ} {r : Result ℕ Fault} → Sees ws i (TokenRule k) true → Goes (TokenRule k) a ws i (Ok j) → Goes x a ws j r → Goes (Attached k x) a ws i r
goes_attached {k} {x} {a} {r = Ok l} e g h = record { cases = λ p. Moves.turn (Turns.attached e.holds) (moves_on (g.cases (Next x a p)) (h.cases p)) }
goes_attached {k} {x} {a} {r = Err d} e g h = record { cases = λ p. stops_after (Moves.turn (Turns.attached e.holds) (g.cases (Next x a p))) (h.cases p) }

pub goes_attached_first : {k : Terminal} {x : Rule} {a : Around} {ws : List Word} {i : ℕ} {d : Fault} → Sees ws i (TokenRule k) true → Goes (TokenRule k) a ws i (Err d) → Goes (Attached k x) a ws i (Err d)
goes_attached_first {k} {x} {a} e g = record { cases = λ p. stops_after (Moves.turn (Turns.attached e.holds) Moves.here) (g.cases (Next x a p)) }

-- memory may run out anywhere
pub goes_nowhere : (x : Rule) (a : Around) (ws : List Word) (i : ℕ) → Goes x a ws i (Err NoMemory)
goes_nowhere x a ws i = record { cases = λ p. record { at = i; pending = Next x a p; left = drop i ws; moves = Moves.here; fault = IsFault.no_memory } }

-- ---- the next word

pub sees : {ws : List Word} {i : ℕ} {x : Rule} {r b : Bool} → Sees ws i x r → r ≡ b → Sees ws i x b
sees s e = record { holds = s.holds ∙ e }

starts_then : (o : Option Word) (k : Terminal) (y : Rule) → starts_next o (TokenRule k ▸ y) ≡ starts_next o (TokenRule k)
starts_then None k y = refl
starts_then (Some w) k y = or_false (fits k w)
  where
    or_false : (b : Bool) → (b || false) ≡ b
    or_false true = refl
    or_false false = refl

-- a sequence begins as its first token
pub sees_then : {ws : List Word} {i : ℕ} {k : Terminal} {y : Rule} {r b : Bool} → Sees ws i (TokenRule k) r → r ≡ b → Sees ws i (TokenRule k ▸ y) b
sees_then {ws} {i} {k} {y} s e = record { holds = starts_then (next (drop i ws)) k y ∙ s.holds ∙ e }

pub sees_word : {ws : List Word} {i : ℕ} {x : Rule} {b : Bool} (o : Option Word) → next (drop i ws) ≡ o → starts_next o x ≡ b → Sees ws i x b
sees_word {x} o e h = record { holds = ap (λ (n : Option Word). starts_next n x) e ∙ h }

-- the exit of a `?`
pub at_exit : {X : Type 0} {x : Rule} {a : Around} {ws : List Word} {i : ℕ} (r : Result (X × ℕ) Fault) {e : Fault} → IsErrAnd r (λ d. d ≡ e) → Goes x a ws i (Err e) → Goes x a ws i (end_of r)
at_exit {x} {a} {ws} {i} r h g = let p = err_from_is_err_and r h in subst (λ (s : Result ℕ Fault). Goes x a ws i s) (sym (ap end_of p.1 ∙ ap (λ (d : Fault). Err d) p.2)) g

-- ---- one of several words

-- what reading one word at place i gives, if it is too deep and if it is not
abbrev pub one_word : Bool → ℕ → Result ℕ Fault
one_word true i = Err (TooDeep i)
one_word false i = Ok (i + 1)

pub goes_choice : (x : Rule) (a : Around) (ws : List Word) (i : ℕ) (w : Word) (b : Bool) → is_choice x ≡ true → next (drop i ws) ≡ Some w → starts w x ≡ true → is_too_deep a i ≡ b → Goes x a ws i (one_word b i)
goes_choice (TokenRule k) a ws i w true c e s d = goes_too_deep k a ws i w e s d
goes_choice (TokenRule k) a ws i w false c e s d = goes_word k a ws i w e s d
goes_choice (x ∣ y) a ws i w b c e s d =
    let both = and_parts (is_choice x) (is_choice y) c in
    pick (starts w x) refl s (λ h. goes_left (sees_word (Some w) e h) (goes_choice x a ws i w b both.0 e h d)) (λ h t. goes_right (sees_word (Some w) e h) (goes_choice y a ws i w b both.1 e t d))
  where
    pick : (t : Bool) → starts w x ≡ t → (t || starts w y) ≡ true → (starts w x ≡ true → Goes (x ∣ y) a ws i (one_word b i)) → (starts w x ≡ false → starts w y ≡ true → Goes (x ∣ y) a ws i (one_word b i)) → Goes (x ∣ y) a ws i (one_word b i)
    pick true h t l r = l h
    pick false h t l r = r h t
goes_choice (Of q) a ws i w b c e s d = absurd cc
goes_choice (x ▸ y) a ws i w b c e s d = absurd cc
goes_choice (Maybe x) a ws i w b c e s d = absurd cc
goes_choice (Many x) a ws i w b c e s d = absurd cc
goes_choice (Attached k x) a ws i w b c e s d = absurd cc
goes_choice (Within n x) a ws i w b c e s d = absurd cc

-- a choice of words reads one
pub choice_full : (x : Rule) → is_choice x ≡ true → is_empty x ≡ false
choice_full (TokenRule k) c = refl
choice_full (x ∣ y) c =
    let both = and_parts (is_choice x) (is_choice y) c in
    ap (λ (b : Bool). b || is_empty y) (choice_full x both.0) ∙ choice_full y both.1
choice_full (Of q) c = absurd cc
choice_full (x ▸ y) c = absurd cc
choice_full (Maybe x) c = absurd cc
choice_full (Many x) c = absurd cc
choice_full (Attached k x) c = absurd cc
choice_full (Within n x) c = absurd cc

-- ---- what the tokens are

-- the token whose word comes next
pub record Here (xs : List Token) (i : ℕ) (w : Word) : Type 0 where
  pub it : Token
  pub parts : drop i xs ≡ it ∷ drop (suc i) xs
  pub word : it.word ≡ w
  pub place : slice_get (map (λ (t : Token). t.place) xs) i ≡ Some it.place
  pub text : slice_get (map (λ (t : Token). t.text) xs) i ≡ Some it.text

pub token_here : (xs : List Token) (i : ℕ) (w : Word) → next (drop i (map (λ (t : Token). t.word) xs)) ≡ Some w → Here xs i w
token_here [] zero w e = absurd cc
token_here [] (suc i) w e = absurd cc
token_here (t ∷ xs) zero w e = record { it = t; parts = refl; word = cc; place = refl; text = refl }
token_here (t ∷ xs) (suc i) w e = let h = token_here xs i w e in record { it = h.it; parts = h.parts; word = h.word; place = h.place; text = h.text }

pub next_slice : (ws : List Word) (i : ℕ) (w : Word) → slice_get ws i ≡ Some w → next (drop i ws) ≡ Some w
next_slice [] zero w e = absurd cc
next_slice [] (suc i) w e = absurd cc
next_slice (v ∷ ws) zero w e = e
next_slice (v ∷ ws) (suc i) w e = next_slice ws i w e

pub next_past : (xs : List Token) (i : ℕ) → length xs ≤ i → next (drop i (map (λ (t : Token). t.word) xs)) ≡ None
next_past [] zero h = refl
next_past [] (suc i) h = refl
next_past (t ∷ xs) zero h = absurd (omega arith)
next_past (t ∷ xs) (suc i) h = next_past xs i (omega arith)

pub next_there : (xs : List Token) (i : ℕ) → i < length xs → (w : Word) × (next (drop i (map (λ (t : Token). t.word) xs)) ≡ Some w)
next_there [] zero h = absurd (omega arith)
next_there [] (suc i) h = absurd (omega arith)
next_there (t ∷ xs) zero h = (t.word, refl)
next_there (t ∷ xs) (suc i) h = next_there xs i (omega arith)

module _ (it : Listing) (i : ℕ) (w : Word) (e : next (drop i (words_of it)) ≡ Some w) where
  one_on : suc i ≡ i + 1
  one_on = omega arith

  placed : place_at it i ≡ (token_here it.tokens i w e).it.place
  placed = ap (λ (o : Option Place). unwrap_or o it.end) (token_here it.tokens i w e).place

  pub reads_word : (k : Terminal) → fits k w ≡ true → ReadsWord k (drop i it.tokens) (place_at it i) (drop (i + 1) it.tokens)
  reads_word k f =
      let h = token_here it.tokens i w e in
      subst (λ (p : Place). ReadsWord k (drop i it.tokens) p (drop (i + 1) it.tokens)) (sym placed)
      (subst (λ (us : List Token). ReadsWord k us h.it.place (drop (i + 1) it.tokens)) (sym h.parts)
      (subst (λ (n : ℕ). ReadsWord k (h.it ∷ drop (suc i) it.tokens) h.it.place (drop n it.tokens)) one_on (ReadsWord.word (ap (λ (v : Word). fits k v) h.word ∙ f))))

  pub reads_as : {A : Type 0} (meaning : Word → Option A) (x : A) → meaning w ≡ Some x → ReadsAs meaning (drop i it.tokens) x (place_at it i) (drop (i + 1) it.tokens)
  reads_as meaning x f =
      let h = token_here it.tokens i w e in
      subst (λ (p : Place). ReadsAs meaning (drop i it.tokens) x p (drop (i + 1) it.tokens)) (sym placed)
      (subst (λ (us : List Token). ReadsAs meaning us x h.it.place (drop (i + 1) it.tokens)) (sym h.parts)
      (subst (λ (n : ℕ). ReadsAs meaning (h.it ∷ drop (suc i) it.tokens) x h.it.place (drop n it.tokens)) one_on (ReadsAs.word (ap meaning h.word ∙ f))))

  pub reads_name : (text : List ℕ) (at : Place) → fits AnyName w ≡ true → slice_get (texts_of it) i ≡ Some text → at ≡ place_at it i
      → ReadsName (drop i it.tokens) (record { text = text; place = at }) (drop (i + 1) it.tokens)
  reads_name text at f g p =
      let h = token_here it.tokens i w e in
      let same : h.it.text ≡ text = some_is h.it.text text (sym h.text ∙ g) in
      subst (λ (q : Place). ReadsName (drop i it.tokens) (record { text = text; place = q }) (drop (i + 1) it.tokens)) (sym (p ∙ placed))
      (subst (λ (t : List ℕ). ReadsName (drop i it.tokens) (record { text = t; place = h.it.place }) (drop (i + 1) it.tokens)) same
      (subst (λ (us : List Token). ReadsName us (record { text = h.it.text; place = h.it.place }) (drop (i + 1) it.tokens)) (sym h.parts)
      (subst (λ (n : ℕ). ReadsName (h.it ∷ drop (suc i) it.tokens) (record { text = h.it.text; place = h.it.place }) (drop n it.tokens)) one_on (ReadsName.name (ap (λ (v : Word). fits AnyName v) h.word ∙ f)))))
    where
      some_is : {A : Type 0} (x y : A) → Some x ≡ Some y → x ≡ y
      some_is x y e = cc

-- a choice, one of whose words was found
pub goes_found : {A : Type 0} (x : Rule) (a : Around) (it : Listing) (i : ℕ) (b : Bool) (found : Option A) (v : A) → i < length it.tokens → found ≡ Some v → IsChoiceOf x (is_some found) (next (drop i (words_of it))) → is_too_deep a i ≡ b → Goes x a (words_of it) i (one_word b i)
goes_found x a it i b found v lt e s d =
    let n = next_there it.tokens i lt in
    goes_choice x a (words_of it) i n.0 b s.choice n.1 (sym (ap (λ (o : Option Word). starts_next o x) n.1) ∙ sym s.same ∙ ap is_some e) d

-- a choice, where no token is left
pub goes_past : {A : Type 0} (x : Rule) (a : Around) (it : Listing) (i : ℕ) (found : Option A) → length it.tokens ≤ i → IsChoiceOf x (is_some found) (next (drop i (words_of it))) → Goes x a (words_of it) i (Err (Syntax i))
goes_past x a it i found le s = goes_other x a (words_of it) i None (next_past it.tokens i le) (choice_full x s.choice) refl

-- a choice, none of whose words comes next
pub goes_not_found : {A : Type 0} (x : Rule) (a : Around) (it : Listing) (i : ℕ) (found : Option A) → found ≡ None → IsChoiceOf x (is_some found) (next (drop i (words_of it))) → Goes x a (words_of it) i (Err (Syntax i))
goes_not_found x a it i found e s = goes_other x a (words_of it) i (next (drop i (words_of it))) refl (choice_full x s.choice) (sym s.same ∙ ap is_some e)

pub reads_found : {A : Type 0} (meaning : Word → Option A) (it : Listing) (i : ℕ) (found : Option A) (v : A) → i < length it.tokens → found ≡ Some v → found ≡ option_and_then meaning (next (drop i (words_of it)))
    → ReadsAs meaning (drop i it.tokens) v (place_at it i) (drop (i + 1) it.tokens)
reads_found meaning it i found v lt e f =
    let n = next_there it.tokens i lt in
    reads_as it i n.0 n.1 meaning v (sym (ap (option_and_then meaning) n.1) ∙ sym f ∙ e)
