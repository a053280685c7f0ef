-- What a derivation that begins with a word says, and that what is pending can always be finished.
use Rattle.std.proofs.Common.{◌≡◌, ℕ, zero, suc, Bool, true, false, ◌&&◌, ◌||◌, List, [], ◌∷◌, refl, sym, ap, subst}
use Rattle.std.proofs.lemmas.Bool.{and_parts, eq-eqb}
use Rattle.gm_token.specs.declared.words.Word.{Word}
use Rattle.gm_parse.specs.declared.around.Around.{Around}
use Rattle.gm_token.specs.declared.words.Word.TheVariants.{Name}
use Rattle.gm_parse.specs.Terminals.{number_of, Terminal, The, AnyName, fits}
use Rattle.gm_parse.specs.Grammar.{Part, Program, Rule, Token, Of, ◌▸◌, ◌∣◌, Maybe, Many, Attached, Within, rule}
use Rattle.gm_parse.specs.Factored.{factored}
use Rattle.gm_parse.specs.Derivation.{enter, Pending, Nothing, Next, Derives, end, token, part, both, left, right, absent, present, stop, more, detached, attached, within, is_too_deep}
use Rattle.gm_parse.specs.Foresight.{is_among, begins, follows, is_part_empty, is_empty, starts, implies, decides}
use Rattle.gm_parse.proofs.Certain.{certain}

-- what is pending may derive a text that begins with the word
abbrev pub opens : Word → Pending → Bool
opens w Nothing = false
opens w (Next x a p) = starts w x || (is_empty x && opens w p)

-- the word decides every rule that is pending
abbrev pub is_orderly : Word → Pending → Bool
is_orderly w Nothing = true
is_orderly w (Next x a p) = decides w x (opens w p) && is_orderly w p

-- ---- tests

pub imply : (x y : Bool) → implies x y ≡ true → x ≡ true → y ≡ true
imply true y h e = h
imply false y h e = absurd cc

or_r : (x y : Bool) → y ≡ true → (x || y) ≡ true
or_r true y h = refl
or_r false y h = h

opens-both : (sx nx sy ny o : Bool) → (sx || (nx && (sy || (ny && o)))) ≡ true → ((sx || (nx && sy)) || ((nx && ny) && o)) ≡ true
opens-both true nx sy ny o h = refl
opens-both false true sy ny o h = h
opens-both false false sy ny o h = h

opens-left : (sx nx sy ny o : Bool) → (sx || (nx && o)) ≡ true → ((sx || sy) || ((nx || ny) && o)) ≡ true
opens-left true nx sy ny o h = refl
opens-left false true sy ny o h = or_r sy o h
opens-left false false sy ny o h = absurd cc

opens-right : (sx nx sy ny o : Bool) → (sy || (ny && o)) ≡ true → ((sx || sy) || ((nx || ny) && o)) ≡ true
opens-right true nx sy ny o h = refl
opens-right false nx true ny o h = refl
opens-right false true false true o h = h
opens-right false true false false o h = absurd cc
opens-right false false false ny o h = h

opens-part : (sx nx sq nq o : Bool) → (sx ≡ true → sq ≡ true) → (nx ≡ true → nq ≡ true) → (sx || (nx && o)) ≡ true → (sq || (nq && o)) ≡ true
opens-part true nx sq nq o s n h = subst (λ (b : Bool). (b || (nq && o)) ≡ true) (sym (s refl)) refl
opens-part false true sq nq o s n h = subst (λ (b : Bool). (sq || (b && o)) ≡ true) (sym (n refl)) (or_r sq o h)
opens-part false false sq nq o s n h = absurd cc

opens-present : (sx nx o : Bool) → (sx || (nx && o)) ≡ true → (sx || o) ≡ true
opens-present true nx o h = refl
opens-present false true o h = h
opens-present false false o h = absurd cc

opens-more : (sx nx o : Bool) → (sx || (nx && (sx || o))) ≡ true → (sx || o) ≡ true
opens-more true nx o h = refl
opens-more false true o h = h
opens-more false false o h = absurd cc

opens-attached : (f o : Bool) → (f || false) ≡ true → (f || o) ≡ true
opens-attached true o h = refl
opens-attached false o h = absurd cc

seq_parts : (b c : Bool) → elim b [ true ↦ c | false ↦ false ] ≡ true → (b ≡ true) × (c ≡ true)
seq_parts true c h = (refl, h)
seq_parts false c h = absurd cc

part_starts : (w : Word) (q : Part) → starts w (factored q) ≡ true → is_among w (begins q) ≡ true
part_starts w q h = imply (starts w (factored q)) (is_among w (begins q)) (and_parts (implies (starts w (factored q)) (is_among w (begins q))) (implies (is_empty (factored q)) (is_part_empty q)) (and_parts (decides w (factored q) (is_among w (follows q))) (implies (starts w (factored q)) (is_among w (begins q)) && implies (is_empty (factored q)) (is_part_empty q)) (certain w q)).1).0 h

pub part_empty : (w : Word) (q : Part) → is_empty (factored q) ≡ true → is_part_empty q ≡ true
part_empty w q h = imply (is_empty (factored q)) (is_part_empty q) (and_parts (implies (starts w (factored q)) (is_among w (begins q))) (implies (is_empty (factored q)) (is_part_empty q)) (and_parts (decides w (factored q) (is_among w (follows q))) (implies (starts w (factored q)) (is_among w (begins q)) && implies (is_empty (factored q)) (is_part_empty q)) (certain w q)).1).1 h

pub part_decides : (w : Word) (q : Part) → decides w (factored q) (is_among w (follows q)) ≡ true
part_decides w q = (and_parts (decides w (factored q) (is_among w (follows q))) (implies (starts w (factored q)) (is_among w (begins q)) && implies (is_empty (factored q)) (is_part_empty q)) (certain w q)).0

-- A text that begins with a word is derived only where what is pending may begin with it.
pub opens-derives : {i : ℕ} {p : Pending} {w : Word} {ws : List Word} {ms : List Bool} → Derives factored i p (w ∷ ws) ms → opens w p ≡ true
opens-derives {w} (token {k} f d) = ap (λ (b : Bool). b || false) f
opens-derives {w} (part {q} {p} d) = opens-part (starts w (factored q)) (is_empty (factored q)) (is_among w (begins q)) (is_part_empty q) (opens w p) (part_starts w q) (part_empty w q) (opens-derives d)
opens-derives {w} (both {x} {y} {p} d) = opens-both (starts w x) (is_empty x) (starts w y) (is_empty y) (opens w p) (opens-derives d)
opens-derives {w} (left {x} {y} {p} d) = opens-left (starts w x) (is_empty x) (starts w y) (is_empty y) (opens w p) (opens-derives d)
opens-derives {w} (right {x} {y} {p} d) = opens-right (starts w x) (is_empty x) (starts w y) (is_empty y) (opens w p) (opens-derives d)
opens-derives {w} (absent {x} {p} d) = or_r (starts w x) (opens w p) (opens-derives d)
opens-derives {w} (present {x} {p} d) = opens-present (starts w x) (is_empty x) (opens w p) (opens-derives d)
opens-derives {w} (stop {x} {p} d) = or_r (starts w x) (opens w p) (opens-derives d)
opens-derives {w} (more {x} {p} d) = opens-more (starts w x) (is_empty x) (opens w p) (opens-derives d)
opens-derives {w} (detached {k} {x} {p} b d) = or_r (fits k w) (opens w p) (opens-derives d)
opens-derives {w} (attached {k} {x} {p} d) = opens-attached (fits k w) (opens w p) (opens-derives d)
opens-derives {w} (within {x} {p} d) = opens-derives d

-- ---- finishing

-- whatever place it begins at, what is pending derives some text
abbrev pub CanFinish : Pending → Type 0
CanFinish p = (i : ℕ) → (ws : List Word) × ((ms : List Bool) × Derives factored i p ws ms)

-- the rule derives some text, where the parts of which `known` tells do
abbrev pub finishes : (Part → Bool) → Rule → Bool
finishes known (Token k) = true
finishes known (Of q) = known q
finishes known (x ▸ y) = elim (finishes known x) [ true ↦ finishes known y | false ↦ false ]
finishes known (x ∣ y) = elim (finishes known x) [ true ↦ true | false ↦ finishes known y ]
finishes known (Maybe x) = true
finishes known (Many x) = true
finishes known (Attached k x) = finishes known x
finishes known (Within n x) = finishes known x

-- the part derives some text by a derivation of at most this depth
abbrev pub ends_within : ℕ → Part → Bool
ends_within zero q = false
ends_within (suc n) q = finishes (ends_within n) (factored q)

all_end : (q : Part) → ends_within 12 q ≡ true
unfolding rule factored
all_end Program = refl
all_end _ = refl

some_word : Terminal → Word
some_word (The w) = w
some_word AnyName = Name

some_word-fits : (k : Terminal) → fits k (some_word k) ≡ true
unfolding some_word
some_word-fits (The w) = eq-eqb (number_of w) (number_of w) refl
some_word-fits AnyName = refl

Finishes : Rule → Type 0
Finishes x = (p : Pending) (a : Around) → CanFinish p → CanFinish (Next x a p)

rule_finishes : (known : Part → Bool) → ((q : Part) → known q ≡ true → (p : Pending) (a : Around) → CanFinish p → CanFinish (Next (Of q) a p))
    → (x : Rule) → finishes known x ≡ true → (p : Pending) (a : Around) → CanFinish p → CanFinish (Next x a p)
rule_finishes known parts (Token k) h p a f i =
    let r = f (suc i) in
    (some_word k ∷ r.0, (is_too_deep a i ∷ r.1.0, token (some_word-fits k) r.1.1))
rule_finishes known parts (Of q) h p a f i = parts q h p a f i
rule_finishes known parts (x ▸ y) h p a f i =
    let e = seq_parts (finishes known x) (finishes known y) h in
    let r = rule_finishes known parts x e.0 (Next y a p) a (rule_finishes known parts y e.1 p a f) i in
    (r.0, (r.1.0, both r.1.1))
rule_finishes known parts (x ∣ y) h p a f i =
    choose (finishes known x) (finishes known y) h
    (λ e. let r = rule_finishes known parts x e p a f i in (r.0, (r.1.0, left r.1.1)))
    (λ e. let r = rule_finishes known parts y e p a f i in (r.0, (r.1.0, right r.1.1)))
  where
    choose : (b c : Bool) → elim b [ true ↦ true | false ↦ c ] ≡ true → (b ≡ true → (ws : List Word) × ((ms : List Bool) × Derives factored i (Next (x ∣ y) a p) ws ms)) → (c ≡ true → (ws : List Word) × ((ms : List Bool) × Derives factored i (Next (x ∣ y) a p) ws ms)) → (ws : List Word) × ((ms : List Bool) × Derives factored i (Next (x ∣ y) a p) ws ms)
    choose true c h l r = l refl
    choose false c h l r = r h
rule_finishes known parts (Maybe x) h p a f i = let r = f i in (r.0, (r.1.0, absent r.1.1))
rule_finishes known parts (Many x) h p a f i = let r = f i in (r.0, (r.1.0, stop r.1.1))
rule_finishes known parts (Attached k x) h p a f i =
    let r = rule_finishes known parts x h p a f (suc i) in
    (some_word k ∷ r.0, (is_too_deep a i ∷ r.1.0, attached (token (some_word-fits k) r.1.1)))
rule_finishes known parts (Within n x) h p a f i =
    let r = rule_finishes known parts x h p (enter n i a) f i in
    (r.0, (r.1.0, within r.1.1))

part_finishes : (n : ℕ) (q : Part) → ends_within n q ≡ true → (p : Pending) (a : Around) → CanFinish p → CanFinish (Next (Of q) a p)
part_finishes zero q h p a f i = absurd cc
part_finishes (suc n) q h p a f i =
    let r = rule_finishes (ends_within n) (part_finishes n) (factored q) h p a f i in
    (r.0, (r.1.0, part r.1.1))

all_finish : (x : Rule) → finishes (λ q. true) x ≡ true
all_finish (Token k) = refl
all_finish (Of q) = refl
all_finish (x ▸ y) = rw (all_finish x) (all_finish y)
all_finish (x ∣ y) = rw (all_finish x) refl
all_finish (Maybe x) = refl
all_finish (Many x) = refl
all_finish (Attached k x) = all_finish x
all_finish (Within n x) = all_finish x

-- Whatever is pending can be finished.
pub can_finish : (p : Pending) → CanFinish p
can_finish Nothing i = ([], ([], end))
can_finish (Next x a p) i = rule_finishes (λ q. true) (λ q e. part_finishes 12 q (all_end q)) x (all_finish x) p a (can_finish p) i
