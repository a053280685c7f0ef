-- Property types in one another, one beginning and one end at a time.
use Rattle.std.proofs.Common.{◌≡◌, ℕ, suc, ◌≤◌, Bool, true, false, not, ◌&&◌, List, [], ◌∷◌, ◌++◌, fold, length, drop, Option, Some, None, Result, Ok, Err, refl, sym, ap, subst, ◌∙◌, arith, length-append}
use Rattle.std.specs.Prelude.{IsErrAnd, IfErr}
use Rattle.std.proofs.lemmas.Result.{err_from_is_err_and}
use Rattle.gm_base.specs.declared.places.Place.{Place}
use Rattle.gm_token.specs.declared.words.Word.{Word}
use Rattle.gm_token.specs.declared.words.Word.TheVariants as words
use Rattle.gm_token.specs.Tokens.{Token, Listing, words_of}
use Rattle.gm_ast.specs.declared.surface.Bearer.{Bearer}
use Rattle.gm_ast.specs.declared.surface.PropertyLayer.{PropertyLayer}
use Rattle.gm_ast.specs.Surface as trees
use Rattle.gm_ast.specs.Surface.{SurfaceName, SurfaceType}
use Rattle.gm_ast.specs.SurfaceTree.{layer_over}
use Rattle.gm_parse.specs.declared.around.Around.{Around}
use Rattle.gm_parse.specs.declared.faults.Fault.{Fault}
use Rattle.gm_parse.specs.declared.faults.Fault.TheVariants.{Syntax, NoMemory}
use Rattle.gm_parse.specs.declared.reading.Placed.{Placed}
use Rattle.gm_parse.specs.Grammar.{Rule, Of, ◌▸◌, Maybe, the, TypeName, OfGraph, bare_sign, element_sign, bearer_sign, a_property, rule}
use Rattle.gm_parse.specs.Factored.{factored}
use Rattle.gm_parse.specs.Foresight.{implies, next, starts_next}
use Rattle.gm_parse.specs.Goes.{Goes, Sees, end_of}
use Rattle.gm_parse.specs.Trees.{Reads, ReadsOf, ReadsType}
use Rattle.gm_parse.specs.Nesting.{an_end, Closes, Encloses, ReadsOpenings}
use Rattle.gm_parse.proofs.Paths.{goes_first, goes_nowhere, goes_other, goes_part, goes_right, goes_then}
use Rattle.gm_parse.proofs.TypeLaws.{as_layered}

-- ---- beginnings

-- a bearer word begins a property type and no other type
bearer_alone : (o : Option Word) → implies (starts_next o bearer_sign) (not (starts_next o bare_sign) && not (starts_next o (element_sign ▸ Maybe (Of OfGraph)))) ≡ true
bearer_alone None = refl
bearer_alone (Some words.Name) = refl
bearer_alone (Some _) = refl

neither : (b c d : Bool) → implies b (not c && not d) ≡ true → b ≡ true → (c ≡ false) × (d ≡ false)
neither true false false h e = (refl, refl)
neither true true d h e = absurd cc
neither true false true h e = absurd cc
neither false c d h e = absurd cc

goes_property : {a : Around} {ws : List Word} {i : ℕ} {r : Result ℕ Fault} → Sees ws i bearer_sign true → Goes a_property a ws i r → Goes (Of TypeName) a ws i r
unfolding rule factored
goes_property {ws} {i} s g =
    let o : Option Word = next (drop i ws) in
    let n = neither (starts_next o bearer_sign) (starts_next o bare_sign) (starts_next o (element_sign ▸ Maybe (Of OfGraph))) (bearer_alone o) s.holds in
    goes_part TypeName (goes_right (record { holds = n.0 }) (goes_right (record { holds = n.1 }) g))

none_closed : {a : Around} {ws : List Word} {i : ℕ} {r s : Result ℕ Fault} → Goes (Of TypeName) a ws i r → Closes a ws 0 r s → Goes (Of TypeName) a ws i s
none_closed g Closes.none = g
none_closed g Closes.fault = g

pub encloses_none : (a : Around) (ws : List Word) (i : ℕ) → Encloses a ws i i 0
encloses_none a ws i = record { goes = λ r s g c. none_closed g c }

one_closed : {a : Around} {ws : List Word} {i j k l n : ℕ} {r s : Result ℕ Fault} → Encloses a ws i j n → Sees ws j bearer_sign true → Goes bearer_sign a ws j (Ok k) → Goes (the words.Less) a ws k (Ok l)
    → Goes (Of TypeName) a ws l r → Closes a ws (suc n) r s → Goes (Of TypeName) a ws i s
one_closed e t b l g Closes.fault = e.goes _ _ (goes_property t (goes_then b (goes_then l (goes_first g)))) Closes.fault
one_closed e t b l g (Closes.more h c) = e.goes _ _ (goes_property t (goes_then b (goes_then l (goes_then g h)))) c

-- one more beginning
pub encloses_more : {a : Around} {ws : List Word} {i j k l m n : ℕ} → m ≡ suc n → Encloses a ws i j n → Sees ws j bearer_sign true → Goes bearer_sign a ws j (Ok k) → Goes (the words.Less) a ws k (Ok l) → Encloses a ws i l m
encloses_more {a} {ws} {i} {l} h e t b g = subst (λ (n : ℕ). Encloses a ws i l n) (sym h) (record { goes = λ r s d c. one_closed e t b g d c })

-- a fault in a beginning is one of the whole type
pub encloses_fault : {a : Around} {ws : List Word} {i j n : ℕ} {e : Fault} → Encloses a ws i j n → Sees ws j bearer_sign true → Goes a_property a ws j (Err e) → Goes (Of TypeName) a ws i (Err e)
encloses_fault c t g = c.goes _ _ (goes_property t g) Closes.fault

-- no property type begins here
pub no_property : {a : Around} {ws : List Word} {i : ℕ} → Sees ws i bearer_sign false → Goes a_property a ws i (Err (Syntax i))
no_property {a} {ws} {i} s = goes_first (goes_other bearer_sign a ws i (next (drop i ws)) refl refl s.holds)

-- what is read from index i on is the beginnings of property types up to index k
pub record OpenedSoFar (a : Around) (it : Listing) (i k : ℕ) (bearers : List (Placed Bearer)) : Type 0 where
  pub goes : Encloses a (words_of it) i k (length bearers)
  pub tree : ReadsOpenings (drop i it.tokens) bearers (drop k it.tokens)
  pub begun : i ≤ k

-- no beginning yet
pub opened_none : {a : Around} {it : Listing} {i : ℕ} {bearers : List (Placed Bearer)} → bearers ≡ [] → OpenedSoFar a it i i bearers
opened_none {a} {it} {i} e = subst (λ (bs : List (Placed Bearer)). OpenedSoFar a it i i bs) (sym e) (record { goes = encloses_none a (words_of it) i; tree = ReadsOpenings.none; begun = omega arith })

-- the exit of a `?` of a call that gives what is no place
pub at_fault : {X : Type 0} {x : Rule} {a : Around} {ws : List Word} {i : ℕ} (r : Result X Fault) {e : Fault} → IsErrAnd r (λ d. d ≡ e) → Goes x a ws i (Err e) → IfErr r (λ d. Goes x a ws i (Err d))
at_fault {X} {x} {a} {ws} {i} r h g = let p = err_from_is_err_and r h in subst (λ (s : Result X Fault). IfErr s (λ d. Goes x a ws i (Err d))) (sym (p.1 ∙ ap (λ (d : Fault). Err d) p.2)) g

pub length_on : {X : Type 0} (xs : List X) (x : X) {ys : List X} → ys ≡ xs ++ x ∷ [] → length ys ≡ suc (length xs)
length_on xs x e = omega (arith, ap length e, length-append xs (x ∷ []))

-- ---- ends

-- a type within property types whose beginnings were read
pub record ReadsWithin (us : List Token) (bearers : List (Placed Bearer)) (t : SurfaceType) (zs : List Token) : Type 0 where
  pub middle : List Token
  pub openings : ReadsOpenings us bearers middle
  pub inner : ReadsType middle t zs

-- what the ends of the unclosed property types give from index k on, all ends give from index i on; and so for trees
pub record ClosedSoFar (a : Around) (it : Listing) (i k : ℕ) (bearers unclosed : List (Placed Bearer)) (inner t : SurfaceType) : Type 0 where
  pub goes : (r : Result ℕ Fault) → Closes a (words_of it) (length unclosed) (Ok k) r → Closes a (words_of it) (length bearers) (Ok i) r
  pub tree : (us vs : List Token) → ReadsOpenings us bearers vs → ReadsType vs inner (drop i it.tokens) → ReadsWithin us unclosed t (drop k it.tokens)
  pub begun : i ≤ k
  pub in_text : k ≤ length it.tokens

-- the ends of as many property types, given by an equation
pub closes_as : {a : Around} {ws : List Word} {m n : ℕ} {r s : Result ℕ Fault} → m ≡ n → Closes a ws n r s → Closes a ws m r s
closes_as {a} {ws} {r} {s} e c = subst (λ (n : ℕ). Closes a ws n r s) (sym e) c

-- memory may run out at any end
pub closes_nowhere : (a : Around) (ws : List Word) (n j : ℕ) → Closes a ws (suc n) (Ok j) (Err NoMemory)
closes_nowhere a ws n j = Closes.more (goes_nowhere an_end a ws j) Closes.fault

-- the exit of a `?` at an end
pub at_end : {X : Type 0} {a : Around} {ws : List Word} {n : ℕ} {s : Result ℕ Fault} (r : Result (X × ℕ) Fault) {e : Fault} → IsErrAnd r (λ d. d ≡ e) → Closes a ws n s (Err e) → Closes a ws n s (end_of r)
at_end {a} {ws} {n} {s} r h c = let p = err_from_is_err_and r h in subst (λ (q : Result ℕ Fault). Closes a ws n s q) (sym (ap end_of p.1 ∙ ap (λ (d : Fault). Err d) p.2)) c

-- two rows are the same where they are with an element after each
same_front : {X : Type 0} (xs ys : List X) (x y : X) → xs ++ x ∷ [] ≡ ys ++ y ∷ [] → (xs ≡ ys) × (x ≡ y)
same_front [] [] x y e = (refl, cc)
same_front [] (v ∷ []) x y e = absurd cc
same_front [] (v ∷ w ∷ ys) x y e = absurd cc
same_front (v ∷ []) [] x y e = absurd cc
same_front (v ∷ w ∷ xs) [] x y e = absurd cc
same_front {X} (v ∷ xs) (w ∷ ys) x y e =
    let tails : xs ++ x ∷ [] ≡ ys ++ y ∷ [] = cc in
    let parts = same_front xs ys x y tails in
    let heads : v ≡ w = cc in
    (ap (λ (z : X). z ∷ xs) heads ∙ ap (λ (zs : List X). w ∷ zs) parts.0, parts.1)

no_snoc : {X : Type 0} (xs : List X) (x : X) → [] ≡ xs ++ x ∷ [] → ⊥
no_snoc [] x e = cc
no_snoc (y ∷ xs) x e = cc

one_end : {us vs ys zs bs : List Token} {rows rest : List (Placed Bearer)} {b : Placed Bearer} {t : SurfaceType} {g : Option SurfaceName} {p : Place}
    → rows ≡ rest ++ b ∷ [] → ReadsOpenings us rows vs → ReadsType vs t ys → Reads words.Greater ys p zs → ReadsOf zs g bs → ReadsWithin us rest (trees.Property b.place b.value t g) bs
one_end {rest} {b} e ReadsOpenings.none r h o = absurd (no_snoc rest b e)
one_end {us} {bs} {rest} {b} {t} {g} e (ReadsOpenings.more {vs} {ws} {bs = front} {b = bearer} {p} {q} before bears less same) r h o =
    let parts = same_front rest front b (record { value = bearer; place = p }) (sym e ∙ same) in
    record {
      middle = vs;
      openings = subst (λ (xs : List (Placed Bearer)). ReadsOpenings us xs vs) (sym parts.0) before;
      inner = subst (λ (x : Placed Bearer). ReadsType vs (trees.Property x.place x.value t g) bs) (sym parts.1) (ReadsType.property bears less r h o);
    }

-- one more end
pub within_more : {us ys zs bs : List Token} {rows rest : List (Placed Bearer)} {b : Placed Bearer} {t : SurfaceType} {g : Option SurfaceName} {p : Place}
    → rows ≡ rest ++ b ∷ [] → ReadsWithin us rows t ys → Reads words.Greater ys p zs → ReadsOf zs g bs → ReadsWithin us rest (trees.Property b.place b.value t g) bs
within_more e w h o = one_end e w.openings w.inner h o

-- one more layer is one more property type
pub within_layered : {us zs : List Token} {rows : List (Placed Bearer)} (t : SurfaceType) (ls : List PropertyLayer) (l : PropertyLayer) {ms : List PropertyLayer}
    → ms ≡ ls ++ l ∷ [] → ReadsWithin us rows (layer_over (fold layer_over t ls) l) zs → ReadsWithin us rows (fold layer_over t ms) zs
within_layered t ls l e w = record { middle = w.middle; openings = w.openings; inner = as_layered t ls l e w.inner }

none_unclosed : {us vs zs : List Token} {rows : List (Placed Bearer)} {t : SurfaceType} → rows ≡ [] → ReadsOpenings us rows vs → ReadsType vs t zs → ReadsType us t zs
none_unclosed e ReadsOpenings.none r = r
none_unclosed e (ReadsOpenings.more {bs = front} {b = bearer} {p} before bears less same) r = absurd (no_snoc front (record { value = bearer; place = p }) (sym e ∙ same))

-- no property type is unclosed any more
pub within_none : {us zs : List Token} {rows : List (Placed Bearer)} {t : SurfaceType} → rows ≡ [] → ReadsWithin us rows t zs → ReadsType us t zs
within_none e w = none_unclosed e w.openings w.inner
