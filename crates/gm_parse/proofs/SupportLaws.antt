-- The words that this version takes, along the text.
use Rattle.std.proofs.Common.{◌≡◌, ℕ, ◌+◌, ◌<◌, ◌≤◌, ◌⊎◌, inl, inr, List, map, length, take, get_or, Option, Some, None, refl, sym, ap, subst, ◌∙◌, arith}
use Rattle.std.specs.Prelude.{All, slice_get, option_map, unwrap_or}
use Rattle.std.proofs.lemmas.Bool.{cases_lt}
use Rattle.std.proofs.lemmas.List.{get_or-take, length-take-le, take_all, length-map}
use Rattle.std.proofs.lemmas.Option.{slice_get_within, get_or_from_slice_get}
use Rattle.gm_base.specs.declared.places.Place.{Place}
use Rattle.gm_base.specs.declared.rules.Rule.{Rule}
use Rattle.gm_base.specs.declared.rules.Refusal.{Refusal}
use Rattle.gm_base.specs.Rules.{broken_at}
use Rattle.gm_token.specs.declared.words.Word.{Word}
use Rattle.gm_token.specs.Words.{unsupported_rule}
use Rattle.gm_token.specs.Tokens.{Token, Listing, words_of}
use Rattle.gm_parse.specs.declared.faults.Fault.{Fault}
use Rattle.gm_parse.specs.declared.faults.Fault.TheVariants as FaultOf
use Rattle.gm_parse.specs.Refused.{AllSupported, IsRefusal, IsStopOf, IsFirstFault, place_at, stop_of}

all_more : {X : Type 0} (P : X → Type 0) (xs : List X) (i : ℕ) (x : X) → slice_get xs i ≡ Some x → P x → All P (take i xs) → All P (take (i + 1) xs)
all_more P xs i x e p h k d lt =
    let within = slice_get_within xs i x e in
    let long : length (take (i + 1) xs) ≡ i + 1 = length-take-le (i + 1) xs (omega (arith, within)) in
    by_place P xs i x e p h k d within (omega (arith, long)) (cases_lt k i)
  where
    by_place : {X : Type 0} (P : X → Type 0) (xs : List X) (i : ℕ) (x : X) → slice_get xs i ≡ Some x → P x → All P (take i xs) → (k : ℕ) (d : X) → i < length xs → k < i + 1 → (k < i) ⊎ (i ≤ k) → P (get_or (take (i + 1) xs) k d)
    by_place P xs i x e p h k d within lt (inl below) =
        let long : length (take i xs) ≡ i = length-take-le i xs (omega arith) in
        subst P (get_or-take i xs k d below ∙ sym (get_or-take (i + 1) xs k d lt)) (h k d (omega arith))
    by_place P xs i x e p h k d within lt (inr here) =
        let same : i ≡ k = omega arith in
        subst P (sym (get_or-take (i + 1) xs k d lt ∙ ap (λ (n : ℕ). get_or xs n d) (sym same) ∙ get_or_from_slice_get xs i x d e)) p

pub supported_more : (it : Listing) (i : ℕ) (w : Word) → slice_get (words_of it) i ≡ Some w → unsupported_rule w ≡ None → AllSupported (take i (words_of it)) → AllSupported (take (i + 1) (words_of it))
supported_more it i w e n h = all_more (λ w. unsupported_rule w ≡ None) (words_of it) i w e n h

pub supported_whole : (it : Listing) (i : ℕ) → length it.tokens ≤ i → AllSupported (take i (words_of it)) → AllSupported (words_of it)
supported_whole it i le h =
    let n = length-map it.tokens (λ (t : Token). t.word) in
    subst AllSupported (take_all i (words_of it) (omega (arith, n))) h

pub unsupported_at : (it : Listing) (i : ℕ) (w : Word) (u : Rule) (at : Place) → slice_get (words_of it) i ≡ Some w → unsupported_rule w ≡ Some u → at ≡ place_at it i → AllSupported (take i (words_of it)) → IsRefusal it (record { rule = u; place = at })
unsupported_at it i w u at e n p h =
    subst (λ (q : Place). IsRefusal it (record { rule = u; place = q })) (sym p)
    (IsRefusal.unsupported {u = u} i (ap (option_map unsupported_rule) e ∙ ap (λ (o : Option Rule). Some o) n) h)

pub stop_is : (it : Listing) (f : Fault) → AllSupported (words_of it) → IsFirstFault (words_of it) f → IsStopOf it (stop_of it f)
stop_is it (FaultOf.Syntax k) s h = IsRefusal.syntax k s h
stop_is it (FaultOf.TooDeep k) s h = IsRefusal.too_deep k s h
stop_is it FaultOf.NoMemory s h = tt
