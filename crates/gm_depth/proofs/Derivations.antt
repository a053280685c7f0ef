-- Derivations of what is read, with the marks of its tokens.
use Rattle.std.proofs.Common.{◌≡◌, ◌≤◌, ◌+◌, ◌-◌, ℕ, suc, Bool, true, false, List, [], ◌∷◌, length, map, subst, arith}
use Rattle.gm_token.specs.declared.words.Word.{Word}
use Rattle.gm_token.specs.Tokens.{Token}
use Rattle.gm_parse.specs.declared.around.Around.{Around}
use Rattle.gm_parse.specs.Terminals.{Terminal, fits}
use Rattle.gm_parse.specs.Grammar.{Part, Rule, Of, ◌▸◌, ◌∣◌, Maybe, Many, Attached, rule}
use Rattle.gm_parse.specs.Grammar as G
use Rattle.gm_parse.specs.Derivation.{Pending, Next, Derives, BeginsOtherwise, is_too_deep}
use Rattle.gm_parse.specs.Trees.{ComesOtherwise}

abbrev pub words : List Token → List Word
words us = map (λ t. t.word) us

-- no token is too deep
abbrev pub Calm : List Bool → Type 0
Calm [] = Unit {0}
Calm (m ∷ ms) = (m ≡ false) × Calm ms

-- what is pending derives the tokens from here on; where none of them is too deep something holds, and none that comes later is
pub record Led (P : Type 0) (i : ℕ) (p : Pending) (us : List Token) (ms : List Bool) : Type 0 where
  pub marks : List Bool
  pub derives : Derives rule i p (words us) marks
  pub calm : Calm marks → P × Calm ms

-- a rule derives the tokens from here to there, whatever comes later; where none of them is too deep something holds of the place behind
pub record Derived (x : Rule) (a : Around) (us vs : List Token) (P : ℕ → Type 0) : Type 0 where
  pub fewer : length vs ≤ length us
  pub leads : (i j : ℕ) → i + length us ≡ j + length vs → (p : Pending) (ms : List Bool) → Derives rule j p (words vs) ms → Led (P j) i (Next x a p) us ms

-- a repetition goes on from here to there
pub record Onwards (x : Rule) (a : Around) (us vs : List Token) (P : Type 0) : Type 0 where
  pub fewer : length vs ≤ length us
  pub leads : (i j : ℕ) → i + length us ≡ j + length vs → (p : Pending) (ms : List Bool) → Derives rule j (Next (Many x) a p) (words vs) ms → Led P i (Next (Many x) a p) us ms

-- no token before a place is too deep
abbrev pub Last : Around → ℕ → Type 0
Last a j = (i : ℕ) → suc i ≡ j → is_too_deep a i ≡ false

-- ---- one token

pub token : {k : Terminal} {a : Around} {t : Token} {us : List Token} → fits k t.word ≡ true → Derived (G.Token k) a (t ∷ us) us (Last a)
token {k} {a} {t} {us} f = record {
  fewer = omega arith;
  leads = λ i j e p ms d.
      let behind : j ≡ suc i = omega arith in
      record {
        marks = is_too_deep a i ∷ ms;
        derives = Derives.token f (subst (λ (m : ℕ). Derives rule m p (words us) ms) behind d);
        calm = λ c. (λ m is. let here : i ≡ m = omega arith in subst (λ (n : ℕ). is_too_deep a n ≡ false) here c.0, c.1);
      };
}

otherwise : (k : Terminal) (us : List Token) → ComesOtherwise k us → BeginsOtherwise k (words us)
otherwise k [] h = tt
otherwise k (t ∷ us) h = h

-- ---- forms of rules

-- of two parts, one behind the other, both hold
pub both-led : {P R : Type 0} {i m : ℕ} {x y : Rule} {a : Around} {p q : Pending} {us vs : List Token} {ms : List Bool} (s : Led R m q vs ms) → Led P i (Next x a (Next y a p)) us s.marks → Led (P × R) i (Next (x ▸ y) a p) us ms
both-led s f = record { marks = f.marks; derives = Derives.both f.derives; calm = λ c. let r = f.calm c in let t = s.calm r.1 in ((r.0, t.0), t.1) }

pub more-led : {P R : Type 0} {i m : ℕ} {q : Pending} {p : Pending} {us vs : List Token} {ms : List Bool} (s : Led R m q vs ms) → Led P i p us s.marks → Led (P × R) i p us ms
more-led s f = record { marks = f.marks; derives = f.derives; calm = λ c. let r = f.calm c in let t = s.calm r.1 in ((r.0, t.0), t.1) }

module _ {a : Around} where
  pub weaker : {x : Rule} {us vs : List Token} {P R : ℕ → Type 0} → ((j : ℕ) → P j → R j) → Derived x a us vs P → Derived x a us vs R
  weaker f h = record {
    fewer = h.fewer;
    leads = λ i j e p ms d. let l = h.leads i j e p ms d in record { marks = l.marks; derives = l.derives; calm = λ c. let r = l.calm c in (f j r.0, r.1) };
  }

  pub pass : {x : Rule} {us vs : List Token} {P : ℕ → Type 0} → Derived x a us vs P → Derived x a us vs (λ j. Unit {0})
  pass h = weaker (λ j h. tt) h

  pub part : {q : Part} {us vs : List Token} {P : ℕ → Type 0} → Derived (rule q) a us vs P → Derived (Of q) a us vs P
  part h = record {
    fewer = h.fewer;
    leads = λ i j e p ms d. let l = h.leads i j e p ms d in record { marks = l.marks; derives = Derives.part l.derives; calm = l.calm };
  }

  pub left : {x y : Rule} {us vs : List Token} {P : ℕ → Type 0} → Derived x a us vs P → Derived (x ∣ y) a us vs P
  left h = record {
    fewer = h.fewer;
    leads = λ i j e p ms d. let l = h.leads i j e p ms d in record { marks = l.marks; derives = Derives.left l.derives; calm = l.calm };
  }

  pub right : {x y : Rule} {us vs : List Token} {P : ℕ → Type 0} → Derived y a us vs P → Derived (x ∣ y) a us vs P
  right h = record {
    fewer = h.fewer;
    leads = λ i j e p ms d. let l = h.leads i j e p ms d in record { marks = l.marks; derives = Derives.right l.derives; calm = l.calm };
  }

  pub absent : {x : Rule} {us : List Token} → Derived (Maybe x) a us us (λ j. Unit {0})
  absent {x} {us} = record {
    fewer = omega arith;
    leads = λ i j e p ms d. let same : j ≡ i = omega arith in record { marks = ms; derives = subst (λ (m : ℕ). Derives rule m (Next (Maybe x) a p) (words us) ms) same (Derives.absent d); calm = λ c. (tt, c) };
  }

  pub present : {x : Rule} {us vs : List Token} {P : ℕ → Type 0} → Derived x a us vs P → Derived (Maybe x) a us vs P
  present h = record {
    fewer = h.fewer;
    leads = λ i j e p ms d. let l = h.leads i j e p ms d in record { marks = l.marks; derives = Derives.present l.derives; calm = l.calm };
  }

  -- one behind the other, of which both or the last hold
  pub also : {x y : Rule} {us vs ws : List Token} {P : Type 0} {R : ℕ → Type 0} → Derived x a us vs (λ j. P) → Derived y a vs ws R → Derived (x ▸ y) a us ws (λ j. P × R j)
  also {x} {y} {us} {vs} {ws} h k = record {
    fewer = let f : length vs ≤ length us = h.fewer in let g : length ws ≤ length vs = k.fewer in omega arith;
    leads = λ i j e p ms d.
        let f : length vs ≤ length us = h.fewer in
        let mid : ℕ = (i + length us) - length vs in
        let second = k.leads mid j (omega arith) p ms d in
        both-led second (h.leads i mid (omega arith) (Next y a p) second.marks second.derives);
  }

  pub over : {x y : Rule} {us vs ws : List Token} {P R : ℕ → Type 0} → Derived x a us vs P → Derived y a vs ws R → Derived (x ▸ y) a us ws R
  over h k = weaker (λ j g. g.1) (also (pass h) k)

  -- ---- repetitions

  pub begun : {x : Rule} {us : List Token} → Onwards x a us us (Unit {0})
  begun {x} {us} = record {
    fewer = omega arith;
    leads = λ i j e p ms d. let same : j ≡ i = omega arith in record { marks = ms; derives = subst (λ (m : ℕ). Derives rule m (Next (Many x) a p) (words us) ms) same d; calm = λ c. (tt, c) };
  }

  pub goes_on : {x : Rule} {us vs ws : List Token} {P R : Type 0} → Onwards x a us vs P → Derived x a vs ws (λ j. R) → Onwards x a us ws (P × R)
  goes_on {x} {us} {vs} {ws} h k = record {
    fewer = let f : length vs ≤ length us = h.fewer in let g : length ws ≤ length vs = k.fewer in omega arith;
    leads = λ i j e p ms d.
        let f : length vs ≤ length us = h.fewer in
        let mid : ℕ = (i + length us) - length vs in
        let second = k.leads mid j (omega arith) (Next (Many x) a p) ms d in
        more-led second (h.leads i mid (omega arith) p second.marks (Derives.more second.derives));
  }

  pub many : {x : Rule} {us vs : List Token} {P : Type 0} → Onwards x a us vs P → Derived (Many x) a us vs (λ j. P)
  many h = record { fewer = h.fewer; leads = λ i j e p ms d. h.leads i j e p ms (Derives.stop d) }

  -- ---- an optional part that its first word tells

  pub detached : {k : Terminal} {x : Rule} {us : List Token} → ComesOtherwise k us → Derived (Attached k x) a us us (λ j. Unit {0})
  detached {k} {x} {us} h = record {
    fewer = omega arith;
    leads = λ i j e p ms d. let same : j ≡ i = omega arith in record { marks = ms; derives = subst (λ (m : ℕ). Derives rule m (Next (Attached k x) a p) (words us) ms) same (Derives.detached (otherwise k us h) d); calm = λ c. (tt, c) };
  }

  undo : {i : ℕ} {x y : Rule} {p : Pending} {ws : List Word} {ms : List Bool} → Derives rule i (Next (x ▸ y) a p) ws ms → Derives rule i (Next x a (Next y a p)) ws ms
  undo (Derives.both d) = d

  pub attached : {k : Terminal} {x : Rule} {us vs : List Token} {P : ℕ → Type 0} → Derived (G.Token k ▸ x) a us vs P → Derived (Attached k x) a us vs P
  attached h = record {
    fewer = h.fewer;
    leads = λ i j e p ms d. let l = h.leads i j e p ms d in record { marks = l.marks; derives = Derives.attached (undo l.derives); calm = l.calm };
  }
