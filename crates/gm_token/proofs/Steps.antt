-- A scan goes on at the end of what was scanned.
use Rattle.std.proofs.Common.{◌≡◌, ℕ, ◌+◌, ◌-◌, ◌≤◌, List, [], ◌∷◌, ◌++◌, map, length, take, drop, sym, ap, subst, ◌∙◌, arith}
use Rattle.std.specs.Prelude.{All}
use Rattle.std.proofs.lemmas.List.{append-nil, map-append, take-append-drop, take_rest, drop-drop, drop_all, length-drop, length-take-le}
use Rattle.std.proofs.lemmas.List.Elements.{All-nil, All-push}
use Rattle.gm_base.specs.declared.places.Place.{Place}
use Rattle.gm_token.specs.declared.words.Word.{Word}
use Rattle.gm_token.specs.declared.scanned.Row.{Row}
use Rattle.gm_token.specs.declared.scanner.Part.{Part}
use Rattle.gm_token.specs.declared.scanner.Part.TheVariants.{Gap, Token}
use Rattle.gm_token.specs.Places.{start, past}
use Rattle.gm_token.specs.Tokens.{Token as PlacedToken}
use Rattle.gm_token.specs.Scanning.{IsGap, IsLongestToken, IsTooLarge, Scans}
use Rattle.gm_token.specs.Rows.{token_of, IsSound}
use Rattle.gm_token.specs.Parts.{IsPart}
use Rattle.gm_token.proofs.Gaps.{as_longest, not_too_large}

pub scans_on : {at to on : Place} {xs ys zs : List ℕ} {ts us : List PlacedToken} → Scans at xs ts to ys → Scans to ys us on zs → Scans at xs (ts ++ us) on zs
scans_on Scans.here m = m
scans_on (Scans.gap g n) m = Scans.gap g (scans_on n m)
scans_on (Scans.token l s n) m = Scans.token l s (scans_on n m)

-- up to this byte, at this place, the text is gaps and the tokens of these rows
pub record SoFar (text : List ℕ) (rows : List Row) (at : ℕ) (place : Place) : Type 0 where
  pub scanned : Scans start text (map (token_of text) rows) place (drop at text)
  pub in_text : at ≤ length text
  pub line : place.line ≤ at + 1
  pub col : place.col ≤ at + 1
  pub sound : All (IsSound text) rows

pub at_start : (text : List ℕ) (rows : List Row) → rows ≡ [] → SoFar text rows 0 start
at_start text rows e = subst (λ (x : List Row). SoFar text x 0 start) (sym e) (record { scanned = Scans.here; in_text = omega arith; line = omega arith; col = omega arith; sound = All-nil (IsSound text) })

-- ---- one part more

-- the part's bytes and those after it are what was left
module _ (text : List ℕ) (at n : ℕ) where
  left_is : take n (drop at text) ++ drop (at + n) text ≡ drop at text
  left_is = ap (λ (x : List ℕ). take n (drop at text) ++ x) (sym (drop-drop n at text)) ∙ take-append-drop n (drop at text)

  pub slice_is : take (at + n - at) (drop at text) ≡ take n (drop at text)
  slice_is = ap (λ (k : ℕ). take k (drop at text)) (let k : at + n - at ≡ n = omega arith in k)

  pub slice_size : n ≤ length (drop at text) → length (take (at + n - at) (drop at text)) ≡ n
  slice_size le = ap (λ (x : List ℕ). length x) slice_is ∙ length-take-le n (drop at text) le

-- the part that was found stands at what is left
pub part_left : (text : List ℕ) (at : ℕ) (found part : Part) → found ≡ part → IsPart (take (length text - at) (drop at text)) found → IsPart (drop at text) part
part_left text at found part e p = subst (λ (x : List ℕ). IsPart x part) (take_rest text at) (subst (λ (q : Part). IsPart (take (length text - at) (drop at text)) q) e p)

pub after_gap : (text : List ℕ) (rows : List Row) (at n : ℕ) (place to : Place) → SoFar text rows at place → IsPart (drop at text) (Gap n)
    → to ≡ past place (take (at + n - at) (drop at text)) → to.line ≤ place.line + length (take (at + n - at) (drop at text)) → to.col ≤ place.col + length (take (at + n - at) (drop at text)) → SoFar text rows (at + n) to
after_gap text rows at n place to so part to_is line col =
    let bs = take n (drop at text) in
    let rest = drop (at + n) text in
    let gap : IsGap bs rest = subst (λ (x : List ℕ). IsGap bs x) (drop-drop n at text) part.2 in
    let there : past place bs ≡ to = ap (past place) (sym (slice_is text at n)) ∙ sym to_is in
    let one : Scans place (bs ++ rest) [] to rest = subst (λ (p : Place). Scans place (bs ++ rest) [] p rest) there (Scans.gap gap Scans.here) in
    let here : Scans place (drop at text) [] to rest = subst (λ (x : List ℕ). Scans place x [] to rest) (left_is text at n) one in
    record {
      scanned = subst (λ (x : List PlacedToken). Scans start text x to rest) (append-nil (map (token_of text) rows)) (scans_on so.scanned here);
      in_text = omega (arith, length-drop at text, so.in_text, part.1);
      line = omega (arith, slice_size text at n part.1, so.line, line);
      col = omega (arith, slice_size text at n part.1, so.col, col);
      sound = so.sound;
    }

pub after_token : (text : List ℕ) (rows more : List Row) (row : Row) (at n : ℕ) (w : Word) (place to : Place) → SoFar text rows at place → IsPart (drop at text) (Token w n)
    → row ≡ record { word = w; offset = at; length = n; place = place } → more ≡ rows ++ row ∷ []
    → to ≡ past place (take (at + n - at) (drop at text)) → to.line ≤ place.line + length (take (at + n - at) (drop at text)) → to.col ≤ place.col + length (take (at + n - at) (drop at text)) → SoFar text more (at + n) to
after_token text rows more row at n w place to so part row_is more_is to_is line col =
    let bs = take n (drop at text) in
    let rest = drop (at + n) text in
    let longest : IsLongestToken w bs rest = subst (λ (x : List ℕ). IsLongestToken w bs x) (drop-drop n at text) (as_longest w n (drop at text) part.1) in
    let small : ¬ IsTooLarge bs = not_too_large w bs (drop n (drop at text)) part.1.token part.2 in
    let there : past place bs ≡ to = ap (past place) (sym (slice_is text at n)) ∙ sym to_is in
    let token : PlacedToken = record { word = w; place = place; text = bs } in
    let one : Scans place (bs ++ rest) (token ∷ []) to rest = subst (λ (p : Place). Scans place (bs ++ rest) (token ∷ []) p rest) there (Scans.token longest small Scans.here) in
    let here : Scans place (drop at text) (token ∷ []) to rest = subst (λ (x : List ℕ). Scans place x (token ∷ []) to rest) (left_is text at n) one in
    let tokens : map (token_of text) rows ++ token ∷ [] ≡ map (token_of text) more =
    ap (λ (r : Row). map (token_of text) rows ++ token_of text r ∷ []) (sym row_is) ∙ sym (map-append (token_of text) rows (row ∷ [])) ∙ ap (map (token_of text)) (sym more_is) in
    let within : at + n ≤ length text = omega (arith, length-drop at text, so.in_text, part.1.in_text) in
    let sound : IsSound text (record { word = w; offset = at; length = n; place = place }) = record { in_text = within; number = part.2 } in
    record {
      scanned = subst (λ (x : List PlacedToken). Scans start text x to rest) tokens (scans_on so.scanned here);
      in_text = within;
      line = omega (arith, slice_size text at n part.1.in_text, so.line, line);
      col = omega (arith, slice_size text at n part.1.in_text, so.col, col);
      sound = subst (λ (x : List Row). All (IsSound text) x) (sym more_is) (All-push (IsSound text) rows row so.sound (subst (λ (r : Row). IsSound text r) (sym row_is) sound));
    }

-- nothing is left
pub at_end : (text : List ℕ) (rows : List Row) (at : ℕ) (place : Place) → SoFar text rows at place → length text ≤ at → Scans start text (map (token_of text) rows) place []
at_end text rows at place so le = subst (λ (x : List ℕ). Scans start text (map (token_of text) rows) place x) (drop_all at text le) so.scanned
