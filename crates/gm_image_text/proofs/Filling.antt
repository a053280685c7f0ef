-- Lists that are filled from a text, part by part.
use Rattle.std.proofs.Common.{◌≡◌, ◌<◌, ◌≤◌, ◌+◌, ◌-◌, ℕ, suc, List, [], ◌∷◌, ◌++◌, map, refl, ap, sym, ◌∙◌, append_assoc, arith}
use Rattle.std.specs.Prelude.{Result, Ok, Err}
use Rattle.gm_image_text.specs.declared.faults.TextStop.{TextStop}
use Rattle.gm_image_text.specs.declared.faults.TextStop.TheVariants as of_text
use Rattle.gm_image_text.specs.Lines.{Line, lines_of}
use Rattle.gm_image_text.specs.Sections.{◌>>=◌, Reads, times_at}
use Rattle.gm_image_text.specs.Giving.{RefusesText}

-- what was read in front of what reading gives
abbrev pub in_front : {X : Type 0} → List X → Result (List X × List Line) (List Line) → Result (List X × List Line) (List Line)
in_front front (Ok x) = Ok (front ++ x.0, x.1)
in_front front (Err e) = Err e

in_front_none : {X : Type 0} (r : Result (List X × List Line) (List Line)) → in_front [] r ≡ r
in_front_none (Ok x) = refl
in_front_none (Err e) = refl

in_front_more : {X : Type 0} (front : List X) (x : X) (r : Result (List X × List Line) (List Line)) → in_front front (in_front (x ∷ []) r) ≡ in_front (front ++ x ∷ []) r
in_front_more front x (Ok y) = ap (λ v. Ok (v, y.1)) (sym (append_assoc front (x ∷ []) y.0))
in_front_more front x (Err e) = refl

abbrev joined_head : {X : Type 0} → X → Result (List X × List Line) (List Line) → Result (List X × List Line) (List Line)
joined_head {X} x r = ◌>>=◌ {A = (X × List X) × List Line} {B = List X × List Line} (◌>>=◌ {A = List X × List Line} {B = (X × List X) × List Line} r (λ y. Ok ((x, y.0), y.1))) (λ z. Ok (z.0.0 ∷ z.0.1, z.1))

head_is : {X : Type 0} (x : X) (r : Result (List X × List Line) (List Line)) → joined_head x r ≡ in_front (x ∷ []) r
head_is x (Ok y) = refl
head_is x (Err e) = refl

module _ {T X : Type 0} (seen : T → X) (read : Reads X) where
  abbrev after_first : ℕ → Result (X × List Line) (List Line) → Result (List X × List Line) (List Line)
  after_first n r = ◌>>=◌ {A = (X × List X) × List Line} {B = List X × List Line} (◌>>=◌ {A = X × List Line} {B = (X × List X) × List Line} r (λ x. ◌>>=◌ {A = List X × List Line} {B = (X × List X) × List Line} (times_at read n x.1) (λ y. Ok ((x.0, y.0), y.1)))) (λ z. Ok (z.0.0 ∷ z.0.1, z.1))

  step_ok : (n : ℕ) (ls mid : List Line) (x : X) → read ls ≡ Ok (x, mid) → times_at read (suc n) ls ≡ in_front (x ∷ []) (times_at read n mid)
  step_ok n ls mid x e = ap (after_first n) e ∙ head_is x (times_at read n mid)

  step_err : (n : ℕ) (ls rest : List Line) → read ls ≡ Err rest → times_at read (suc n) ls ≡ Err rest
  step_err n ls rest e = ap (after_first n) e

  seen_more : (items : List T) (item : T) → map seen (items ++ item ∷ []) ≡ map seen items ++ seen item ∷ []
  seen_more [] item = refl
  seen_more (i ∷ is) item = ap (λ v. seen i ∷ v) (seen_more is item)

  -- the items so far, in front of what is still read, are all
  pub record Goes (count number : ℕ) (items : List T) (rest text : List ℕ) : Type 0 where
    pub all : in_front (map seen items) (times_at read (count - number) (lines_of rest)) ≡ times_at read count (lines_of text)

  pub goes_none : (count : ℕ) (text : List ℕ) → Goes count 0 [] text text
  goes_none count text =
      let whole : count - 0 ≡ count = omega arith in
      record { all = in_front_none (times_at read (count - 0) (lines_of text)) ∙ ap (λ n. times_at read n (lines_of text)) whole }

  pub goes_more : (count number : ℕ) (items new : List T) (item : T) (rest behind text : List ℕ) → number < count → Goes count number items rest text → read (lines_of rest) ≡ Ok (seen item, lines_of behind) → new ≡ items ++ item ∷ [] → Goes count (number + 1) new behind text
  goes_more count number items new item rest behind text lt h e push =
      let left : count - number ≡ suc (count - (number + 1)) = omega (arith, lt) in
      let step : times_at read (count - number) (lines_of rest) ≡ in_front (seen item ∷ []) (times_at read (count - (number + 1)) (lines_of behind)) =
      ap (λ n. times_at read n (lines_of rest)) left ∙ step_ok (count - (number + 1)) (lines_of rest) (lines_of behind) (seen item) e in
      record {
        all =
            ap (λ v. in_front v (times_at read (count - (number + 1)) (lines_of behind))) (ap (map seen) push ∙ seen_more items item)
            ∙ sym (in_front_more (map seen items) (seen item) (times_at read (count - (number + 1)) (lines_of behind)))
            ∙ ap (in_front (map seen items)) (sym step)
            ∙ h.all;
      }

  pub goes_err : (count number : ℕ) (items : List T) (rest text : List ℕ) (stop : TextStop) → number < count → Goes count number items rest text → RefusesText stop (read (lines_of rest)) → RefusesText stop (times_at read count (lines_of text))
  goes_err count number items rest text (of_text.Bad at) lt h e =
      let left : count - number ≡ suc (count - (number + 1)) = omega (arith, lt) in
      sym h.all ∙ ap (in_front (map seen items)) (ap (λ n. times_at read n (lines_of rest)) left ∙ step_err (count - (number + 1)) (lines_of rest) (lines_of at.now) e)
  goes_err count number items rest text of_text.NoMemory lt h e = tt

  none_behind : (xs : List X) → xs ++ [] ≡ xs
  none_behind [] = refl
  none_behind (x ∷ xs) = ap (λ v. x ∷ v) (none_behind xs)

  pub goes_end : (count number : ℕ) (items : List T) (rest text : List ℕ) → count ≤ number → Goes count number items rest text → times_at read count (lines_of text) ≡ Ok (map seen items, lines_of rest)
  goes_end count number items rest text le h =
      let left : count - number ≡ 0 = omega (arith, le) in
      sym h.all ∙ ap (λ n. in_front (map seen items) (times_at read n (lines_of rest))) left ∙ ap (λ v. Ok (v, lines_of rest)) (none_behind (map seen items))
