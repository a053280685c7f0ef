-- Things to the end of a line: what spells them, and how a list is filled with them.
use Rattle.std.proofs.Common.{◌≡◌, ◌<◌, ◌≤◌, ◌+◌, ℕ, zero, suc, List, [], ◌∷◌, ◌++◌, length, map, refl, ap, sym, ◌∙◌, subst, arith, append_assoc, length-append}
use Rattle.std.specs.Prelude.{Option, Some, None, option_map}
use Rattle.std.specs.List.{flat_map, AllByRecursion}
use Rattle.gm_image_text.specs.declared.faults.LineStop.{LineStop}
use Rattle.gm_image_text.specs.declared.faults.LineStop.TheVariants as of_line
use Rattle.gm_image_text.specs.Giving.{Refuses}
use Rattle.gm_image_text.specs.Lines.{Word}
use Rattle.gm_image_text.specs.Reading.{◌>>=◌, Reads, all_upto, all_in}
use Rattle.gm_image_text.proofs.LineBinds.{some_is, bind_some}
use Rattle.gm_image_text.proofs.Spelled.{AllPlain, plain_both, plain_behind}
use Rattle.gm_image_text.proofs.LineLaw.{LineLaw}
use Rattle.gm_image_text.proofs.Fields.{FieldLaw}

module _ {X : Type 0} (F : X → Type 0) (words : X → List Word) (read : Reads X) (law : FieldLaw F words read) (nonempty : (x : X) → 0 < length (words x)) where
  all_is : (k : ℕ) (ws : List Word) (xs : List X) → AllPlain ws → all_upto read k ws ≡ Some xs → AllByRecursion F xs × (ws ≡ flat_map words xs)
  all_is k [] xs p e = let Q : List X → Type 0 = λ v. AllByRecursion F v × ([] ≡ flat_map words v) in subst Q (some_is [] xs e) (tt, refl)
  all_is zero (w ∷ ws) xs p e = cc
  all_is (suc k) (w ∷ ws) xs p e =
      let one = bind_some (read (w ∷ ws)) (λ x. all_upto read k x.1 >>= λ more. Some (x.0 ∷ more)) xs e in
      let x : X = one.0.0 in
      let mid : List Word = one.0.1 in
      let two = bind_some (all_upto read k mid) (λ more. Some (x ∷ more)) xs one.2 in
      let got : F x × (w ∷ ws ≡ words x ++ mid) = law.ok (w ∷ ws) mid x p one.1 in
      let P : List Word → Type 0 = AllPlain in
      let more : AllByRecursion F two.0 × (mid ≡ flat_map words two.0) = all_is k mid two.0 (plain_behind (words x) mid (subst P got.1 p)) two.1 in
      let Q : List X → Type 0 = λ v. AllByRecursion F v × (w ∷ ws ≡ flat_map words v) in
      subst Q (some_is (x ∷ two.0) xs two.2) ((got.0, more.0), got.1 ∙ ap (λ v. words x ++ v) more.1)

  step : (k : ℕ) (ws : List Word) → 0 < length ws → all_upto read (suc k) ws ≡ (read ws >>= λ x. all_upto read k x.1 >>= λ more. Some (x.0 ∷ more))
  step k [] h = absurd (omega (arith, h))
  step k (w ∷ ws) h = refl

  all_again : (k : ℕ) (xs : List X) → AllByRecursion F xs → length (flat_map words xs) ≤ k → all_upto read k (flat_map words xs) ≡ Some xs
  all_again k [] h l = refl
  all_again zero (x ∷ xs) h l =
      let some : 0 < length (words x) = nonempty x in
      absurd (omega (arith, some, l, length-append (words x) (flat_map words xs)))
  all_again (suc k) (x ∷ xs) h l =
      let some : 0 < length (words x) = nonempty x in
      let sum : length (words x ++ flat_map words xs) ≡ length (words x) + length (flat_map words xs) = length-append (words x) (flat_map words xs) in
      step k (words x ++ flat_map words xs) (omega (arith, some, sum))
      ∙ ap (λ o. o >>= λ x. all_upto read k x.1 >>= λ more. Some (x.0 ∷ more)) (law.again x (flat_map words xs) h.0)
      ∙ ap (λ o. o >>= λ more. Some (x ∷ more)) (all_again k xs h.1 (omega (arith, some, sum, l)))

  all_plain : (xs : List X) → AllByRecursion F xs → AllPlain (flat_map words xs)
  all_plain [] h = tt
  all_plain (x ∷ xs) h = plain_both (words x) (flat_map words xs) (law.plain x h.0) (all_plain xs h.1)

  pub all_law : LineLaw (AllByRecursion F) (flat_map words) (λ ws. all_in read ws)
  all_law = record {
    ok = λ ws xs p e. all_is (length ws) ws xs p e;
    again = λ xs h. all_again (length (flat_map words xs)) xs h (omega arith);
    plain = all_plain;
  }

-- what was read in front of what reading gives
abbrev pub ahead : {X : Type 0} → List X → Option (List X) → Option (List X)
ahead front o = option_map (λ more. front ++ more) o

pub ahead_none : {X : Type 0} (o : Option (List X)) → ahead [] o ≡ o
ahead_none None = refl
ahead_none (Some xs) = refl

pub ahead_more : {X : Type 0} (front : List X) (x : X) (o : Option (List X)) → ahead front (o >>= λ more. Some (x ∷ more)) ≡ ahead (front ++ x ∷ []) o
ahead_more front x None = refl
ahead_more front x (Some xs) = ap (λ v. Some v) (sym (append_assoc front (x ∷ []) xs))

pub none_behind : {X : Type 0} (xs : List X) → xs ++ [] ≡ xs
none_behind [] = refl
none_behind (x ∷ xs) = ap (λ v. x ∷ v) (none_behind xs)

seen_more : {T X : Type 0} (seen : T → X) (items : List T) (item : T) → map seen (items ++ item ∷ []) ≡ map seen items ++ seen item ∷ []
seen_more seen [] item = refl
seen_more seen (i ∷ is) item = ap (λ v. seen i ∷ v) (seen_more seen is item)

-- what was read so far in front of what is still read is all; `bound` is no less than what is left
pub record Goes {X : Type 0} (read : Reads X) (values : List X) (left all : List Word) : Type 0 where
  pub bound : ℕ
  pub enough : length left ≤ bound
  pub same : ahead values (all_upto read bound left) ≡ all_in read all

pub goes_none : {X : Type 0} (read : Reads X) (all : List Word) → Goes read [] all all
goes_none read all = record { bound = length all; enough = omega arith; same = ahead_none (all_in read all) }

module _ {X : Type 0} (read : Reads X) where
  upto_step : (k : ℕ) (ws : List Word) (x : X × List Word) → 0 < length ws → read ws ≡ Some x → all_upto read (suc k) ws ≡ (all_upto read k x.1 >>= λ more. Some (x.0 ∷ more))
  upto_step k [] x h e = absurd (omega (arith, h))
  upto_step k (w ∷ ws) x h e = ap (λ o. o >>= λ a. all_upto read k a.1 >>= λ more. Some (a.0 ∷ more)) e

  upto_stop : (k : ℕ) (ws : List Word) → 0 < length ws → read ws ≡ None → all_upto read k ws ≡ None
  upto_stop k [] h e = absurd (omega (arith, h))
  upto_stop zero (w ∷ ws) h e = refl
  upto_stop (suc k) (w ∷ ws) h e = ap (λ o. o >>= λ a. all_upto read k a.1 >>= λ more. Some (a.0 ∷ more)) e

  one_more : (values new : List X) (left all : List Word) (x : X × List Word) → length x.1 < length left → Goes read values left all → read left ≡ Some x → new ≡ values ++ x.0 ∷ [] → Goes read new x.1 all
  one_more values new left all x less h e push = by_bound h.bound h.enough h.same where
    by_bound : (k : ℕ) → length left ≤ k → ahead values (all_upto read k left) ≡ all_in read all → Goes read new x.1 all
    by_bound zero l s = absurd (omega (arith, l, less))
    by_bound (suc k) l s = record {
      bound = k;
      enough = omega (arith, l, less);
      same = ap (λ v. ahead v (all_upto read k x.1)) push ∙ sym (ahead_more values x.0 (all_upto read k x.1)) ∙ ap (ahead values) (sym (upto_step k left x (omega (arith, less)) e)) ∙ s;
    }

  -- the next thing, of which a view is kept
  pub goes_more : {T : Type 0} (seen : T → X) (items new : List T) (item : T) (left rest all : List Word) → length rest < length left → Goes read (map seen items) left all → read left ≡ Some (seen item, rest) → new ≡ items ++ item ∷ []
      → Goes read (map seen new) rest all
  goes_more seen items new item left rest all less h e push = one_more (map seen items) (map seen new) left all (seen item, rest) less h e (ap (map seen) push ∙ seen_more seen items item)

  pub goes_refuse : (values : List X) (left all : List Word) (stop : LineStop) → 0 < length left → Goes read values left all → Refuses stop (read left) → Refuses stop (all_in read all)
  goes_refuse values left all of_line.Bad some h e = sym h.same ∙ ap (ahead values) (upto_stop h.bound left some e)
  goes_refuse values left all of_line.NoMemory some h e = tt

  pub goes_end : (values : List X) (left all : List Word) → left ≡ [] → Goes read values left all → all_in read all ≡ Some values
  goes_end values left all none h = sym h.same ∙ ap (λ v. ahead values (all_upto read h.bound v)) none ∙ end h.bound where
    end : (k : ℕ) → ahead values (all_upto read k []) ≡ Some values
    end k = ap (λ v. Some v) (none_behind values)
