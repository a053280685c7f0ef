-- The moves of the parser go along every derivation: one turn, and one word.
use Rattle.std.proofs.Common.{◌≡◌, ℕ, Bool, true, false, not, ◌&&◌, ◌||◌, List, [], ◌∷◌, Option, refl, sym, ap, subst, ◌∙◌}
use Rattle.std.proofs.lemmas.Bool.{and_parts, and_from, not-true, false≢true}
use Rattle.gm_token.specs.declared.words.Word.{Word}
use Rattle.gm_parse.specs.declared.around.Around.{Around}
use Rattle.gm_token.specs.declared.words.Word.TheVariants.{Name}
use Rattle.gm_parse.specs.Terminals.{Terminal}
use Rattle.gm_parse.specs.Grammar.{Part, Nest, Rule, Token, Of, ◌▸◌, ◌∣◌, Maybe, Many, Attached, Within, rule}
use Rattle.gm_parse.specs.Factored.{factored}
use Rattle.gm_parse.specs.Derivation.{enter, Pending, Nothing, Next, Derives, BeginsOtherwise}
use Rattle.gm_parse.specs.Foresight.{is_among, follows, is_part_empty, is_empty, starts, implies, decides, next, starts_next, Turns}
use Rattle.gm_parse.proofs.Begin.{imply, part_decides, part_empty, opens, is_orderly, opens-derives}

-- every word decides every rule that is pending
abbrev pub IsOrderly : Pending → Type 0
IsOrderly p = (w : Word) → is_orderly w p ≡ true

-- ---- tests

pub implies-trans : (f g h : Bool) → (f ≡ true → g ≡ true) → implies g h ≡ true → implies f h ≡ true
implies-trans true g h fg e = subst (λ (b : Bool). implies b h ≡ true) (fg refl) e
implies-trans false g h fg e = refl

apart_fewer : (s f g : Bool) → (f ≡ true → g ≡ true) → not (s && g) ≡ true → not (s && f) ≡ true
apart_fewer false f g fg e = refl
apart_fewer true false g fg e = refl
apart_fewer true true g fg e = subst (λ (b : Bool). not b ≡ true) (fg refl) e

or_less : (s f g : Bool) → (f ≡ true → g ≡ true) → (s || f) ≡ true → (s || g) ≡ true
or_less true f g fg e = refl
or_less false f g fg e = fg e

both_false : (s t : Bool) → not (s && t) ≡ true → s ≡ true → t ≡ true → ⊥
both_false true true e s t = cc
both_false true false e s t = cc
both_false false t e s t' = cc

-- what may follow a rule decides it all the more where less may follow
pub decides-less : (w : Word) (x : Rule) (f g : Bool) → (f ≡ true → g ≡ true) → decides w x g ≡ true → decides w x f ≡ true
decides-less w (Token k) f g fg e = refl
decides-less w (Of q) f g fg e = implies-trans f g (is_among w (follows q)) fg e
decides-less w (x ▸ y) f g fg e =
    let h = and_parts (decides w y g) (decides w x (starts w y || (is_empty y && g))) e in
    and_from (decides w y f) (decides w x (starts w y || (is_empty y && f))) (decides-less w y f g fg h.0)
    (decides-less w x (starts w y || (is_empty y && f)) (starts w y || (is_empty y && g)) (after_less (starts w y) (is_empty y) f g fg) h.1)
  where
    after_less : (s n f g : Bool) → (f ≡ true → g ≡ true) → (s || (n && f)) ≡ true → (s || (n && g)) ≡ true
    after_less true n f g fg e = refl
    after_less false true f g fg e = fg e
    after_less false false f g fg e = e
decides-less w (x ∣ y) f g fg e =
    let h = and_parts (decides w x g && decides w y g) (not (is_empty x) && not (starts w x && (starts w y || (is_empty y && g)))) e in
    let h0 = and_parts (decides w x g) (decides w y g) h.0 in
    let h1 = and_parts (not (is_empty x)) (not (starts w x && (starts w y || (is_empty y && g)))) h.1 in
    and_from (decides w x f && decides w y f) (not (is_empty x) && not (starts w x && (starts w y || (is_empty y && f))))
    (and_from (decides w x f) (decides w y f) (decides-less w x f g fg h0.0) (decides-less w y f g fg h0.1))
    (and_from (not (is_empty x)) (not (starts w x && (starts w y || (is_empty y && f)))) h1.0 (apart_less (starts w x) (starts w y) (is_empty y) f g fg h1.1))
  where
    apart_less : (s t n f g : Bool) → (f ≡ true → g ≡ true) → not (s && (t || (n && g))) ≡ true → not (s && (t || (n && f))) ≡ true
    apart_less false t n f g fg e = refl
    apart_less true true n f g fg e = e
    apart_less true false false f g fg e = e
    apart_less true false true false g fg e = refl
    apart_less true false true true g fg e = subst (λ (b : Bool). not b ≡ true) (fg refl) e
decides-less w (Maybe x) f g fg e =
    let h = and_parts (decides w x g) (not (is_empty x) && not (starts w x && g)) e in
    let h1 = and_parts (not (is_empty x)) (not (starts w x && g)) h.1 in
    and_from (decides w x f) (not (is_empty x) && not (starts w x && f)) (decides-less w x f g fg h.0)
    (and_from (not (is_empty x)) (not (starts w x && f)) h1.0 (apart_fewer (starts w x) f g fg h1.1))
decides-less w (Many x) f g fg e =
    let h = and_parts (decides w x (starts w x || g)) (not (is_empty x) && not (starts w x && g)) e in
    let h1 = and_parts (not (is_empty x)) (not (starts w x && g)) h.1 in
    and_from (decides w x (starts w x || f)) (not (is_empty x) && not (starts w x && f)) (decides-less w x (starts w x || f) (starts w x || g) (or_less (starts w x) f g fg) h.0)
    (and_from (not (is_empty x)) (not (starts w x && f)) h1.0 (apart_fewer (starts w x) f g fg h1.1))
decides-less w (Attached k x) f g fg e = decides-less w x f g fg e
decides-less w (Within n x) f g fg e = decides-less w x f g fg e

-- ---- one turn

module _ (w : Word) (x : Rule) (o : Bool) where
  -- an optional part is decided: it may not be empty, and does not begin as what follows
  optional_parts : decides w (Maybe x) o ≡ true → (decides w x o ≡ true) × (is_empty x ≡ false) × (starts w x ≡ true → o ≡ true → ⊥)
  optional_parts e =
      let h = and_parts (decides w x o) (not (is_empty x) && not (starts w x && o)) e in
      let h1 = and_parts (not (is_empty x)) (not (starts w x && o)) h.1 in
      (h.0, not-true (is_empty x) h1.0, λ s t. both_false (starts w x) o h1.1 s t)

  repeated_parts : decides w (Many x) o ≡ true → (decides w x (starts w x || o) ≡ true) × (is_empty x ≡ false) × (starts w x ≡ true → o ≡ true → ⊥)
  repeated_parts e =
      let h = and_parts (decides w x (starts w x || o)) (not (is_empty x) && not (starts w x && o)) e in
      let h1 = and_parts (not (is_empty x)) (not (starts w x && o)) h.1 in
      (h.0, not-true (is_empty x) h1.0, λ s t. both_false (starts w x) o h1.1 s t)

module _ (w : Word) (x y : Rule) (o : Bool) where
  choice_parts : decides w (x ∣ y) o ≡ true → (decides w x o ≡ true) × (decides w y o ≡ true) × (is_empty x ≡ false) × (starts w x ≡ true → (starts w y || (is_empty y && o)) ≡ true → ⊥)
  choice_parts e =
      let h = and_parts (decides w x o && decides w y o) (not (is_empty x) && not (starts w x && (starts w y || (is_empty y && o)))) e in
      let h0 = and_parts (decides w x o) (decides w y o) h.0 in
      let h1 = and_parts (not (is_empty x)) (not (starts w x && (starts w y || (is_empty y && o)))) h.1 in
      (h0.0, h0.1, not-true (is_empty x) h1.0, λ s t. both_false (starts w x) (starts w y || (is_empty y && o)) h1.1 s t)

-- A turn keeps what is pending in order.
pub turn_orderly : {o : Option Word} {i : ℕ} {p q : Pending} → Turns o i p q → IsOrderly p → IsOrderly q
turn_orderly (Turns.part {q} {a} {p}) h w =
    let e = and_parts (decides w (Of q) (opens w p)) (is_orderly w p) (h w) in
    and_from (decides w (factored q) (opens w p)) (is_orderly w p) (decides-less w (factored q) (opens w p) (is_among w (follows q)) (imply (opens w p) (is_among w (follows q)) e.0) (part_decides w q)) e.1
turn_orderly (Turns.both {x} {y} {a} {p}) h w =
    let e = and_parts (decides w (x ▸ y) (opens w p)) (is_orderly w p) (h w) in
    let f = and_parts (decides w y (opens w p)) (decides w x (starts w y || (is_empty y && opens w p))) e.0 in
    and_from (decides w x (starts w y || (is_empty y && opens w p))) (decides w y (opens w p) && is_orderly w p) f.1 (and_from (decides w y (opens w p)) (is_orderly w p) f.0 e.1)
turn_orderly (Turns.left {x} {y} {a} {p} s) h w =
    let e = and_parts (decides w (x ∣ y) (opens w p)) (is_orderly w p) (h w) in
    and_from (decides w x (opens w p)) (is_orderly w p) (choice_parts w x y (opens w p) e.0).0 e.1
turn_orderly (Turns.right {x} {y} {a} {p} s) h w =
    let e = and_parts (decides w (x ∣ y) (opens w p)) (is_orderly w p) (h w) in
    and_from (decides w y (opens w p)) (is_orderly w p) (choice_parts w x y (opens w p) e.0).1 e.1
turn_orderly (Turns.absent {x} {a} {p} s) h w = (and_parts (decides w (Maybe x) (opens w p)) (is_orderly w p) (h w)).1
turn_orderly (Turns.present {x} {a} {p} s) h w =
    let e = and_parts (decides w (Maybe x) (opens w p)) (is_orderly w p) (h w) in
    and_from (decides w x (opens w p)) (is_orderly w p) (optional_parts w x (opens w p) e.0).0 e.1
turn_orderly (Turns.stop {x} {a} {p} s) h w = (and_parts (decides w (Many x) (opens w p)) (is_orderly w p) (h w)).1
turn_orderly (Turns.more {x} {a} {p} s) h w =
    let e = and_parts (decides w (Many x) (opens w p)) (is_orderly w p) (h w) in
    and_from (decides w x (starts w x || opens w p)) (decides w (Many x) (opens w p) && is_orderly w p) (repeated_parts w x (opens w p) e.0).0 (h w)
turn_orderly (Turns.detached {k} {x} {a} {p} s) h w = (and_parts (decides w (Attached k x) (opens w p)) (is_orderly w p) (h w)).1
turn_orderly (Turns.attached {k} {x} {a} {p} s) h w = h w
turn_orderly (Turns.within {x} {a} {p}) h w = h w

-- ---- derivations go on by the turn

-- what is pending may derive nothing
is_done : Pending → Bool
is_done Nothing = true
is_done (Next x a p) = is_empty x && is_done p

done_both : (nx ny d : Bool) → (nx && (ny && d)) ≡ true → ((nx && ny) && d) ≡ true
done_both true ny d h = h
done_both false ny d h = h

done_left : (nx ny d : Bool) → (nx && d) ≡ true → ((nx || ny) && d) ≡ true
done_left true ny d h = h
done_left false ny d h = absurd cc

done_right : (nx ny d : Bool) → (ny && d) ≡ true → ((nx || ny) && d) ≡ true
done_right true true d h = h
done_right true false d h = absurd cc
done_right false ny d h = h

done_part : (nx nq d : Bool) → (nx ≡ true → nq ≡ true) → (nx && d) ≡ true → (nq && d) ≡ true
done_part true nq d n h = subst (λ (b : Bool). (b && d) ≡ true) (sym (n refl)) h
done_part false nq d n h = absurd cc

done_more : (nx d : Bool) → (nx && d) ≡ true → d ≡ true
done_more true d h = h
done_more false d h = absurd cc

done-derives : {i : ℕ} {p : Pending} {ms : List Bool} → Derives factored i p [] ms → is_done p ≡ true
unfolding is_done
done-derives Derives.end = refl
done-derives (Derives.part {q} {p} d) = done_part (is_empty (factored q)) (is_part_empty q) (is_done p) (part_empty Name q) (done-derives d)
done-derives (Derives.both {x} {y} {p} d) = done_both (is_empty x) (is_empty y) (is_done p) (done-derives d)
done-derives (Derives.left {x} {y} {p} d) = done_left (is_empty x) (is_empty y) (is_done p) (done-derives d)
done-derives (Derives.right {x} {y} {p} d) = done_right (is_empty x) (is_empty y) (is_done p) (done-derives d)
done-derives (Derives.absent d) = done-derives d
done-derives (Derives.present {x} {p} d) = done_more (is_empty x) (is_done p) (done-derives d)
done-derives (Derives.stop d) = done-derives d
done-derives (Derives.more {x} {p} d) = done_more (is_empty x) (is_done p) (done-derives d)
done-derives (Derives.detached b d) = done-derives d
done-derives (Derives.attached d) = absurd (false≢true (done-derives d))
done-derives (Derives.within {x} {p} d) = done-derives d

-- Where a rule is not empty and does not begin with the next word, it derives no text that goes on with that word.
pub not_next : {i : ℕ} {x : Rule} {a : Around} {p : Pending} {ws : List Word} {ms : List Bool} → is_empty x ≡ false → starts_next (next ws) x ≡ false → Derives factored i (Next x a p) ws ms → ⊥
unfolding is_done
not_next {x} {p} {ws = []} n s d = false≢true (sym (ap (λ (b : Bool). b && is_done p) n) ∙ done-derives d)
not_next {x} {p} {ws = w ∷ ws} n s d = false≢true (sym (ap (λ (b : Bool). b || (is_empty x && opens w p)) s ∙ ap (λ (b : Bool). b && opens w p) n) ∙ opens-derives d)

-- What a turn leads to derives what the turn began with derives.
pub turn_forth : {o : Option Word} {i : ℕ} {p q : Pending} {ws : List Word} {ms : List Bool} → Turns o i p q → next ws ≡ o → Derives factored i q ws ms → Derives factored i p ws ms
turn_forth Turns.part e d = Derives.part d
turn_forth Turns.both e d = Derives.both d
turn_forth (Turns.left s) e d = Derives.left d
turn_forth (Turns.right s) e d = Derives.right d
turn_forth (Turns.absent s) e d = Derives.absent d
turn_forth (Turns.present s) e d = Derives.present d
turn_forth (Turns.stop s) e d = Derives.stop d
turn_forth (Turns.more s) e d = Derives.more d
turn_forth {ws} (Turns.detached {k} s) e d = Derives.detached (otherwise k ws (ap (λ (n : Option Word). starts_next n (Token k)) e ∙ s)) d
  where
    otherwise : (k : Terminal) (ws : List Word) → starts_next (next ws) (Token k) ≡ false → BeginsOtherwise k ws
    otherwise k [] h = tt
    otherwise k (w ∷ ws) h = h
turn_forth (Turns.attached s) e d = Derives.attached d
turn_forth Turns.within e d = Derives.within d

-- What the turn began with derives only what the turn leads to derives.
turn_back_choice : {i : ℕ} {x y : Rule} {a : Around} {p : Pending} {ws : List Word} {ms : List Bool} → IsOrderly (Next (x ∣ y) a p) → Derives factored i (Next (x ∣ y) a p) ws ms
    → (starts_next (next ws) x ≡ true → Derives factored i (Next x a p) ws ms) × (starts_next (next ws) x ≡ false → Derives factored i (Next y a p) ws ms)
turn_back_choice {x} {y} {p} h (Derives.left d) =
    let e = and_parts (decides Name (x ∣ y) (opens Name p)) (is_orderly Name p) (h Name) in
    (λ s. d, λ s. absurd (not_next (choice_parts Name x y (opens Name p) e.0).2 s d))
turn_back_choice {x} {y} {p} {ws = []} h (Derives.right d) = (λ s. absurd (false≢true s), λ s. d)
turn_back_choice {x} {y} {p} {ws = w ∷ ws} h (Derives.right d) =
    let e = and_parts (decides w (x ∣ y) (opens w p)) (is_orderly w p) (h w) in
    (λ s. absurd ((choice_parts w x y (opens w p) e.0).3 s (opens-derives d)), λ s. d)

turn_back_optional : {i : ℕ} {x : Rule} {a : Around} {p : Pending} {ws : List Word} {ms : List Bool} → IsOrderly (Next (Maybe x) a p) → Derives factored i (Next (Maybe x) a p) ws ms
    → (starts_next (next ws) x ≡ true → Derives factored i (Next x a p) ws ms) × (starts_next (next ws) x ≡ false → Derives factored i p ws ms)
turn_back_optional {x} {p} h (Derives.present d) =
    let e = and_parts (decides Name (Maybe x) (opens Name p)) (is_orderly Name p) (h Name) in
    (λ s. d, λ s. absurd (not_next (optional_parts Name x (opens Name p) e.0).1 s d))
turn_back_optional {x} {p} {ws = []} h (Derives.absent d) = (λ s. absurd (false≢true s), λ s. d)
turn_back_optional {x} {p} {ws = w ∷ ws} h (Derives.absent d) =
    let e = and_parts (decides w (Maybe x) (opens w p)) (is_orderly w p) (h w) in
    (λ s. absurd ((optional_parts w x (opens w p) e.0).2 s (opens-derives d)), λ s. d)

turn_back_repeated : {i : ℕ} {x : Rule} {a : Around} {p : Pending} {ws : List Word} {ms : List Bool} → IsOrderly (Next (Many x) a p) → Derives factored i (Next (Many x) a p) ws ms
    → (starts_next (next ws) x ≡ true → Derives factored i (Next x a (Next (Many x) a p)) ws ms) × (starts_next (next ws) x ≡ false → Derives factored i p ws ms)
turn_back_repeated {x} {p} h (Derives.more d) =
    let e = and_parts (decides Name (Many x) (opens Name p)) (is_orderly Name p) (h Name) in
    (λ s. d, λ s. absurd (not_next (repeated_parts Name x (opens Name p) e.0).1 s d))
turn_back_repeated {x} {p} {ws = []} h (Derives.stop d) = (λ s. absurd (false≢true s), λ s. d)
turn_back_repeated {x} {p} {ws = w ∷ ws} h (Derives.stop d) =
    let e = and_parts (decides w (Many x) (opens w p)) (is_orderly w p) (h w) in
    (λ s. absurd ((repeated_parts w x (opens w p) e.0).2 s (opens-derives d)), λ s. d)

turn_back_attached : {i : ℕ} {k : Terminal} {x : Rule} {a : Around} {p : Pending} {ws : List Word} {ms : List Bool} → Derives factored i (Next (Attached k x) a p) ws ms
    → (starts_next (next ws) (Token k) ≡ true → Derives factored i (Next (Token k) a (Next x a p)) ws ms) × (starts_next (next ws) (Token k) ≡ false → Derives factored i p ws ms)
turn_back_attached (Derives.attached d) = (λ s. d, λ s. absurd (not_next refl s d))
turn_back_attached {ws = []} (Derives.detached b d) = (λ s. absurd (false≢true s), λ s. d)
turn_back_attached {ws = w ∷ ws} (Derives.detached b d) = (λ s. absurd (false≢true (sym b ∙ s)), λ s. d)

turn_back_part : {i : ℕ} {q : Part} {a : Around} {p : Pending} {ws : List Word} {ms : List Bool} → Derives factored i (Next (Of q) a p) ws ms → Derives factored i (Next (factored q) a p) ws ms
turn_back_part (Derives.part d) = d

turn_back_both : {i : ℕ} {x y : Rule} {a : Around} {p : Pending} {ws : List Word} {ms : List Bool} → Derives factored i (Next (x ▸ y) a p) ws ms → Derives factored i (Next x a (Next y a p)) ws ms
turn_back_both (Derives.both d) = d

turn_back_within : {i : ℕ} {n : Nest} {x : Rule} {a : Around} {p : Pending} {ws : List Word} {ms : List Bool} → Derives factored i (Next (Within n x) a p) ws ms → Derives factored i (Next x (enter n i a) p) ws ms
turn_back_within (Derives.within d) = d

pub turn_back : {o : Option Word} {i : ℕ} {p q : Pending} {ws : List Word} {ms : List Bool} → Turns o i p q → next ws ≡ o → IsOrderly p → Derives factored i p ws ms → Derives factored i q ws ms
turn_back Turns.part e h d = turn_back_part d
turn_back Turns.both e h d = turn_back_both d
turn_back (Turns.left {x} s) e h d = (turn_back_choice h d).0 (ap (λ n. starts_next n x) e ∙ s)
turn_back (Turns.right {x} s) e h d = (turn_back_choice h d).1 (ap (λ n. starts_next n x) e ∙ s)
turn_back (Turns.absent {x} s) e h d = (turn_back_optional h d).1 (ap (λ n. starts_next n x) e ∙ s)
turn_back (Turns.present {x} s) e h d = (turn_back_optional h d).0 (ap (λ n. starts_next n x) e ∙ s)
turn_back (Turns.stop {x} s) e h d = (turn_back_repeated h d).1 (ap (λ n. starts_next n x) e ∙ s)
turn_back (Turns.more {x} s) e h d = (turn_back_repeated h d).0 (ap (λ n. starts_next n x) e ∙ s)
turn_back (Turns.detached {k} s) e h d = (turn_back_attached d).1 (ap (λ n. starts_next n (Token k)) e ∙ s)
turn_back (Turns.attached {k} s) e h d = (turn_back_attached d).0 (ap (λ n. starts_next n (Token k)) e ∙ s)
turn_back Turns.within e h d = turn_back_within d
