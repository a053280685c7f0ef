-- The combiners that are found: they fit, and the handlers let the kinds have them.
use Rattle.std.proofs.Common.{inl, inr, ◌⊎◌, ◌≡◌, ◌<◌, ℕ, zero, suc, ◌+◌, Bool, true, false, cond, ◌&&◌, ◌||◌, not, nat_eq, Option, Some, None, List, [], ◌∷◌, length, find, refl, sym, ap, ◌∙◌, arith, subst}
use Rattle.std.specs.Prelude.{slice_get, is_none}
use Rattle.std.specs.Option.{option_and_then}
use Rattle.std.specs.List.{list_all}
use Rattle.std.proofs.lemmas.Bool.{and_parts, and_from, eq-eqb, ne_eqb, cases_eq}
use Rattle.std.proofs.lemmas.Option.{none-some, same_Some}
use Rattle.gm_value.specs.declared.values.VType.{VType}
use Rattle.gm_value.specs.declared.reductions.Reduce.{Reduce}
use Rattle.gm_image.specs.declared.images.Kind.{Kind}
use Rattle.gm_image.specs.Program.{Handler, Line}
use Rattle.gm_image.specs.Folds.{is_combining, combiner_fits, combines, handles}
use Rattle.gm_combiners.specs.Combiners.{reductions, lets, all_let, first_fitting, combiner_for, kinds_with}
use Rattle.gm_combiners.specs.Laws.{kinds_by}
use Rattle.gm_combiners.proofs.Judging.{values_of}
use Rattle.gm_combiners.proofs.Texts.{are_handled, fits_its_values}

-- what is found passes the test
found-by : (b : Bool) (x r : Reduce) (o : Option Reduce) (P : Reduce → Type 0) → (b ≡ true → P x) → (o ≡ Some r → P r) → cond b (Some x) o ≡ Some r → P r
found-by true x r o P h k e = subst P (same_Some x r e) (h refl)
found-by false x r o P h k e = k e

pub found : (test : Reduce → Bool) (rs : List Reduce) (r : Reduce) → find test rs ≡ Some r → test r ≡ true
found test [] r e = absurd (none-some r e)
found test (x ∷ rs) r e = found-by (test x) x r (find test rs) (λ s. test s ≡ true) (λ h. h) (found test rs r) e

-- nothing is found where nothing passes
none-by : (b n : Bool) (x : Reduce) (o : Option Reduce) → is_none o ≡ n → is_none (cond b (Some x) o) ≡ not b && n
none-by true n x o h = refl
none-by false n x o h = h

pub none-found : (test : Reduce → Bool) (rs : List Reduce) → is_none (find test rs) ≡ list_all (λ r. not (test r)) rs
none-found test [] = refl
none-found test (x ∷ rs) = none-by (test x) (list_all (λ r. not (test r)) rs) x (find test rs) (none-found test rs)

-- whether a reduction is found for values of some types
abbrev pub fits_and : (Reduce → Bool) → List VType → Reduce → Bool
fits_and test types r = combiner_fits (Some r) types && test r

fits-found : (test : Reduce → Bool) (types : List VType) (o : Option Reduce) → first_fitting test types ≡ o → combiner_fits o types ≡ true
fits-found test types None e = refl
fits-found test types (Some r) e = (and_parts (combiner_fits (Some r) types) (test r) (found (fits_and test types) reductions r e)).0

-- each combiner that is found fits its kind's values
pub all-fit : (hs : List Handler) (n : ℕ) (kinds : List Kind) → list_all fits_its_values (kinds_with (combiner_for hs) n kinds) ≡ true
all-fit hs n [] = refl
all-fit hs n (kind ∷ kinds) =
    and_from (combiner_fits (combiner_for hs n kind.values) kind.values) (list_all fits_its_values (kinds_with (combiner_for hs) (suc n) kinds))
    (fits-found (all_let hs n) kind.values (combiner_for hs n kind.values) refl) (all-fit hs (suc n) kinds)

-- the combiner of a kind, if there is one
abbrev pub combiner_of : Option Kind → Option Reduce
combiner_of o = option_and_then (λ (k : Kind). k.combiner) o

-- kinds with other combiners have their values
pub values-with : (f : ℕ → List VType → Option Reduce) (n : ℕ) (kinds : List Kind) (k : ℕ) → values_of (slice_get (kinds_with f n kinds) k) ≡ values_of (slice_get kinds k)
values-with f n [] k = refl
values-with f n (x ∷ xs) zero = refl
values-with f n (x ∷ xs) (suc k) = values-with f (suc n) xs k

pub length-with : (f : ℕ → List VType → Option Reduce) (n : ℕ) (kinds : List Kind) → length (kinds_with f n kinds) ≡ length kinds
length-with f n [] = refl
length-with f n (x ∷ xs) = ap suc (length-with f (suc n) xs)

-- each kind has the combiner that is found for it
pub own-with : {P : Type 0} (f : ℕ → List VType → Option Reduce) (n : ℕ) (kinds : List Kind) (k : ℕ) → k < length kinds →
    ((own : Kind) → slice_get (kinds_with f n kinds) k ≡ Some own → own.combiner ≡ f (n + k) own.values → P) → P
own-with f n [] k l go = absurd (omega arith)
own-with f n (x ∷ xs) zero l go = let z : n ≡ n + 0 = omega arith in go (record x { combiner = f n x.values }) refl (ap (λ m. f m x.values) z)
own-with f n (x ∷ xs) (suc k) l go =
    let z : suc n + k ≡ n + suc k = omega arith in
    let l' : k < length xs = omega arith in
    own-with f (suc n) xs k l' (λ own e c. go own e (c ∙ ap (λ m. f m own.values) z))

-- what holds of all that is found holds of it
found-with : (f : ℕ → List VType → Option Reduce) (n : ℕ) (kinds : List Kind) (k : ℕ) (r : Reduce) (P : ℕ → Type 0) → ((m : ℕ) (types : List VType) → f m types ≡ Some r → P m) →
    combiner_of (slice_get (kinds_with f n kinds) k) ≡ Some r → P (n + k)
found-with f n [] k r P h e = absurd (none-some r e)
found-with f n (x ∷ xs) zero r P h e = let z : n ≡ n + 0 = omega arith in subst P z (h n x.values e)
found-with f n (x ∷ xs) (suc k) r P h e = let z : suc n + k ≡ n + suc k = omega arith in subst P z (found-with f (suc n) xs k r P h e)

-- a handler that lets its kind have a combiner is what the kind asks
own-lets : (h : Handler) (r : Reduce) → lets h.kind h r ≡ true → is_combining r h.lines ≡ true
own-lets h r e = ap (λ b. not b || is_combining r h.lines) (sym (eq-eqb h.kind h.kind refl)) ∙ e

combines-own : (h : Handler) (c : Option Reduce) → ((r : Reduce) → c ≡ Some r → lets h.kind h r ≡ true) → combines c h.lines ≡ true
combines-own h None f = refl
combines-own h (Some r) f = own-lets h r (f r refl)

handles-own : (h : Handler) (o : Option Kind) → ((r : Reduce) → combiner_of o ≡ Some r → lets h.kind h r ≡ true) → handles o h.lines ≡ true
handles-own h None f = refl
handles-own h (Some kind) f = combines-own h kind.combiner f

handled-own : (kinds : List Kind) (hs : List Handler) → ((k : ℕ) (r : Reduce) → combiner_of (slice_get kinds k) ≡ Some r → all_let hs k r ≡ true) → are_handled kinds hs ≡ true
handled-own kinds [] f = refl
handled-own kinds (h ∷ hs) f =
    and_from (handles (slice_get kinds h.kind) h.lines) (are_handled kinds hs)
    (handles-own h (slice_get kinds h.kind) (λ r e. (and_parts (lets h.kind h r) (all_let hs h.kind r) (f h.kind r e)).0))
    (handled-own kinds hs (λ k r e. (and_parts (lets k h r) (all_let hs k r) (f k r e)).1))

-- handlers are what the kinds ask whose combiners they let them have
pub all-handled : (hs : List Handler) (kinds : List Kind) → are_handled (kinds_with (combiner_for hs) 0 kinds) hs ≡ true
all-handled hs kinds =
    handled-own (kinds_with (combiner_for hs) 0 kinds) hs
    (λ k r e. let z : 0 + k ≡ k = omega arith in
    subst (λ m. all_let hs m r ≡ true) z
    (found-with (combiner_for hs) 0 kinds k r (λ m. all_let hs m r ≡ true)
    (λ m types f. (and_parts (combiner_fits (Some r) types) (all_let hs m r) (found (fits_and (all_let hs m) types) reductions r f)).1) e))

and-end : (b : Bool) → b && true ≡ b
and-end true = refl
and-end false = refl

-- where one of some kinds has a reduction, and all others are as they were, all combiners fit where it fits
pub fits-by : (r : Reduce) (k : ℕ) (kinds : List Kind) (kind : Kind) → slice_get kinds k ≡ Some kind → list_all fits_its_values kinds ≡ true →
    list_all fits_its_values (kinds_by r k kinds) ≡ combiner_fits (Some r) kind.values
fits-by r k [] kind e h = absurd (none-some kind e)
fits-by r zero (x ∷ xs) kind e h =
    ap (λ b. combiner_fits (Some r) x.values && b) (and_parts (fits_its_values x) (list_all fits_its_values xs) h).1
    ∙ and-end (combiner_fits (Some r) x.values)
    ∙ ap (λ (y : Kind). combiner_fits (Some r) y.values) (same_Some x kind e)
fits-by r (suc k) (x ∷ xs) kind e h =
    let parts = and_parts (fits_its_values x) (list_all fits_its_values xs) h in
    ap (λ b. b && list_all fits_its_values (kinds_by r k xs)) parts.0 ∙ fits-by r k xs kind e parts.1

one-more : (j k : ℕ) → (j ≡ k) ⊎ (j ≡ k → ⊥) → nat_eq (suc j) (suc k) ≡ nat_eq j k
one-more j k (inl q) = let q' : suc j ≡ suc k = omega (arith, q) in eq-eqb (suc j) (suc k) q' ∙ sym (eq-eqb j k q)
one-more j k (inr n) = ne_eqb (suc j) (suc k) (λ q. n (omega (arith, q))) ∙ sym (ne_eqb j k n)

-- and the handlers are what the kinds ask where they let the one have it
handles-by : (r : Reduce) (k : ℕ) (kinds : List Kind) (kind : Kind) → slice_get kinds k ≡ Some kind → (j : ℕ) (ls : List Line) → handles (slice_get kinds j) ls ≡ true →
    handles (slice_get (kinds_by r k kinds) j) ls ≡ not (nat_eq j k) || is_combining r ls
handles-by r k [] kind e j ls h = absurd (none-some kind e)
handles-by r zero (x ∷ xs) kind e zero ls h = refl
handles-by r zero (x ∷ xs) kind e (suc j) ls h = h ∙ ap (λ b. not b || is_combining r ls) (sym (ne_eqb (suc j) 0 (λ q. absurd (omega (arith, q)))))
handles-by r (suc k) (x ∷ xs) kind e zero ls h = h ∙ ap (λ b. not b || is_combining r ls) (sym (ne_eqb 0 (suc k) (λ q. absurd (omega (arith, q)))))
handles-by r (suc k) (x ∷ xs) kind e (suc j) ls h = handles-by r k xs kind e j ls h ∙ ap (λ b. not b || is_combining r ls) (sym (one-more j k (cases_eq j k)))

pub handled-by : (r : Reduce) (k : ℕ) (kinds : List Kind) (kind : Kind) → slice_get kinds k ≡ Some kind → (hs : List Handler) → are_handled kinds hs ≡ true →
    are_handled (kinds_by r k kinds) hs ≡ all_let hs k r
handled-by r k kinds kind e [] h = refl
handled-by r k kinds kind e (x ∷ xs) h =
    let parts = and_parts (handles (slice_get kinds x.kind) x.lines) (are_handled kinds xs) h in
    ap (λ b. b && are_handled (kinds_by r k kinds) xs) (handles-by r k kinds kind e x.kind x.lines parts.0)
    ∙ ap (λ b. lets k x r && b) (handled-by r k kinds kind e xs parts.1)
