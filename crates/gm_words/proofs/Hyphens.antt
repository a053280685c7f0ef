-- A parse takes `-` as the value of an option, which no option has: so the job is the same.
use Rattle.std.proofs.Common.{◌≡◌, ◌⊎◌, ◌∙◌, inl, inr, ap, ◌==◌, ℕ, Bool, cond, true, false, List, [], ◌∷◌, is_some, Option, Some, None, refl, sym, codes}
use Rattle.std.specs.Prelude.{IfSome, find, option_map}
use Rattle.std.specs.Option.{option_or}
use Rattle.std.specs.Str.{bytes_eq}
use Rattle.std.proofs.lemmas.List.Folds.{find-append}
use Rattle.std.proofs.lemmas.Slice.Eq.{bytes_eq-Decides}
use Rattle.gm_words.specs.Words.{Text, Known, Given, Form, Rest, end_of_options, named, refused, plain, begins_with_hyphen, form_of, given_after, is_used, option_met, put, word_met, with_option, with_positionals}
use Rattle.gm_words.specs.Jobs.{text_of}
use Rattle.gm_words.proofs.Walks.{known_as, used-find, use_of}
use Rattle.gm_words.proofs.Parses.{taken_after, value_met}

abbrev pub dash : Text
dash = 45 ∷ []

module _ (known : List Known) where
  -- an option has the value `-`
  abbrev pub Dashed : Given → Type 0
  Dashed g = (name : Text) × (k : Known) × (known_as name known ≡ Some k) × (k.has_value ≡ true) × (text_of k.name g ≡ Some dash)

  text_kept : (os : Option (Text × Text)) (o : Option (Text × Text)) (t : Text) → option_map (λ p. p.1) os ≡ Some t → option_map (λ p. p.1) (option_or os o) ≡ Some t
  text_kept None o t h = cc
  text_kept (Some p) o t h = h

  dashed_option : (name v : Text) (g : Given) → Dashed g → Dashed (with_option name v g)
  dashed_option name v g d = (
    d.0,
    d.1,
    d.2,
    d.3,
    ap (option_map (λ (p : Text × Text). p.1)) (find-append (λ o. bytes_eq o.0 d.1.name) g.options ((name, v) ∷ []))
        ∙ text_kept (use_of d.1.name g) (find (λ o. bytes_eq o.0 d.1.name) ((name, v) ∷ [])) dash d.4,
  )

  dashed_put : (name v : Text) (g : Given) (rest : Rest) → Dashed g → ((w : Option Text) (x : Given) → Dashed x → IfSome (rest w x) Dashed) → IfSome (put name v g rest) Dashed
  dashed_put name v g rest d keep = go (is_used name g)
    where
      go : (b : Bool) → IfSome (cond b None (rest None (with_option name v g))) Dashed
      go true = tt
      go false = keep None (with_option name v g) (dashed_option name v g d)

  dashed_met : (o : Option Known) (v : Option Text) (g : Given) (rest : Rest) → Dashed g → ((w : Option Text) (x : Given) → Dashed x → IfSome (rest w x) Dashed) → IfSome (option_met o v g rest) Dashed
  dashed_met None v g rest d keep = tt
  dashed_met (Some k) (Some v) g rest d keep = go k.has_value
    where
      go : (b : Bool) → IfSome (cond b (put k.name v g rest) None) Dashed
      go true = dashed_put k.name v g rest d keep
      go false = tt
  dashed_met (Some k) None g rest d keep = go k.has_value
    where
      go : (b : Bool) → IfSome (cond b (rest (Some k.name) g) (put k.name (codes "true") g rest)) Dashed
      go true = keep (Some k.name) g d
      go false = dashed_put k.name (codes "true") g rest d keep

  dashed_word : (f : Form) (word : Text) (words : List Text) (g : Given) (rest : Rest) → Dashed g → ((w : Option Text) (x : Given) → Dashed x → IfSome (rest w x) Dashed) → IfSome (word_met known f word words g rest) Dashed
  dashed_word end_of_options word words g rest d keep = d
  dashed_word (named name v) word words g rest d keep = dashed_met (known_as name known) v g rest d keep
  dashed_word refused word words g rest d keep = tt
  dashed_word plain word words g rest d keep = keep None (with_positionals (word ∷ []) g) d

  dashed_value : (f : Form) (name word : Text) (g : Given) (rest : Rest) → Dashed g → ((w : Option Text) (x : Given) → Dashed x → IfSome (rest w x) Dashed) → IfSome (value_met f name word g rest) Dashed
  dashed_value plain name word g rest d keep = dashed_put name word g rest d keep
  dashed_value f name word g rest d keep = tt

  dashed_stays : (words : List Text) (w : Option Text) (g : Given) → Dashed g → IfSome (taken_after known words w g) Dashed
  unfolding taken_after
  dashed_stays [] None g d = d
  dashed_stays [] (Some name) g d = tt
  dashed_stays (word ∷ words) (Some name) g d = dashed_value (form_of word) name word g (taken_after known words) d (dashed_stays words)
  dashed_stays (word ∷ words) None g d = dashed_word (form_of word) word words g (taken_after known words) d (dashed_stays words)

  -- the same, or none where the parse has `-` for a value
  abbrev pub Same : Option Given → Option Given → Type 0
  Same a b = (a ≡ b) ⊎ ((a ≡ None) × IfSome b Dashed)

  abbrev SameAfter : List Text → Type 0
  SameAfter words = ((g : Given) → Same (given_after known words None g) (taken_after known words None g))
      × ((name : Text) (k : Known) (g : Given) → known_as name known ≡ Some k → k.has_value ≡ true → Same (given_after known words (Some k.name) g) (taken_after known words (Some k.name) g))

  same_put : (words : List Text) (name v : Text) (g : Given) → SameAfter words → Same (put name v g (given_after known words)) (put name v g (taken_after known words))
  same_put words name v g rec = go (is_used name g)
    where
      go : (b : Bool) → Same (cond b None (given_after known words None (with_option name v g))) (cond b None (taken_after known words None (with_option name v g)))
      go true = inl refl
      go false = rec.0 (with_option name v g)

  same_met : (words : List Text) (name : Text) (o : Option Known) (v : Option Text) (g : Given) → known_as name known ≡ o → SameAfter words → Same (option_met o v g (given_after known words)) (option_met o v g (taken_after known words))
  same_met words name None v g found rec = inl refl
  same_met words name (Some k) (Some v) g found rec = go k.has_value
    where
      go : (b : Bool) → Same (cond b (put k.name v g (given_after known words)) None) (cond b (put k.name v g (taken_after known words)) None)
      go true = same_put words k.name v g rec
      go false = inl refl
  same_met words name (Some k) None g found rec = go k.has_value refl
    where
      go : (b : Bool) → k.has_value ≡ b → Same (cond b (given_after known words (Some k.name) g) (put k.name (codes "true") g (given_after known words)))
          (cond b (taken_after known words (Some k.name) g) (put k.name (codes "true") g (taken_after known words)))
      go true e = rec.1 name k g found e
      go false e = same_put words k.name (codes "true") g rec

  same_word : (f : Form) (word : Text) (words : List Text) (g : Given) → SameAfter words → Same (word_met known f word words g (given_after known words)) (word_met known f word words g (taken_after known words))
  same_word end_of_options word words g rec = inl refl
  same_word (named name v) word words g rec = same_met words name (known_as name known) v g refl rec
  same_word refused word words g rec = inl refl
  same_word plain word words g rec = rec.0 (with_positionals (word ∷ []) g)

  -- a word that begins with no hyphen is plain, and of the others only `-` is
  Hyphens : Text → Type 0
  Hyphens word = ((begins_with_hyphen word ≡ false) × (form_of word ≡ plain)) ⊎ ((word ≡ dash) ⊎ ((begins_with_hyphen word ≡ true) × (form_of word ≡ plain → ⊥)))

  hyphens : (word : Text) → Hyphens word
  unfolding Hyphens
  hyphens [] = inl (refl, refl)
  hyphens (b ∷ rest) = go (b == 45) refl rest
    where
      after_two : (e : (b == 45) ≡ true) (c : ℕ) (rest : Text) (u : Bool) → (c == 45) ≡ u → form_of (b ∷ c ∷ rest) ≡ plain → ⊥
      after_two e c rest false f h = let bad : refused ≡ plain = rw (e, f) at h in cc
      after_two e c [] true f h = let bad : end_of_options ≡ plain = rw (e, f) at h in cc
      after_two e c (d ∷ rest) true f h = let bad = rw (e, f) at h in cc

      go : (t : Bool) → (b == 45) ≡ t → (rest : Text) → Hyphens (b ∷ rest)
      go false e rest = inl (rw e refl, rw e refl)
      go true e [] = inr (inl ((bytes_eq-Decides (b ∷ []) dash).0 (rw e refl)))
      go true e (c ∷ rest) = inr (inr (rw e refl, after_two e c rest (c == 45) refl))

  new_text : (name : Text) (g : Given) → is_used name g ≡ false → text_of name (with_option name dash g) ≡ Some dash
  new_text name g free = ap (option_map (λ (p : Text × Text). p.1)) (find-append (λ o. bytes_eq o.0 name) g.options ((name, dash) ∷ []))
      ∙ ap (λ (b : Bool). option_map (λ p. p.1) (option_or (use_of name g) (cond b (Some (name, dash)) None))) ((bytes_eq-Decides name name).1 refl)
      ∙ none (use_of name g) (sym (used-find g.options name) ∙ free)
    where
      none : (o : Option (Text × Text)) → is_some o ≡ false → option_map (λ p. p.1) (option_or o (Some (name, dash))) ≡ Some dash
      none None e = refl
      none (Some p) e = cc

  same_value : (word : Text) (words : List Text) (name : Text) (k : Known) (g : Given) → known_as name known ≡ Some k → k.has_value ≡ true → SameAfter words → Hyphens word
      → Same (cond (begins_with_hyphen word) None (put k.name word g (given_after known words))) (value_met (form_of word) k.name word g (taken_after known words))
  unfolding Hyphens
  same_value word words name k g found valued rec (inl h) = rw (h.0, h.1) (same_put words k.name word g rec)
  same_value word words name k g found valued rec (inr (inl h)) = rw h (go (is_used k.name g) refl)
    where
      go : (b : Bool) → is_used k.name g ≡ b → Same None (cond b None (taken_after known words None (with_option k.name dash g)))
      go true e = inl refl
      go false e = inr (refl, dashed_stays words None (with_option k.name dash g) (name, k, found, valued, new_text k.name g e))
  same_value word words name k g found valued rec (inr (inr h)) = rw h.0 (go (form_of word) refl)
    where
      go : (f : Form) → form_of word ≡ f → Same None (value_met f k.name word g (taken_after known words))
      go plain e = absurd (h.1 e)
      go f e = inl refl

  pub same_after : (words : List Text) → SameAfter words
  unfolding given_after taken_after
  same_after [] = (λ g. inl refl, λ name k g found valued. inl refl)
  same_after (word ∷ words) = (
    λ g. same_word (form_of word) word words g (same_after words),
    λ name k g found valued. same_value word words name k g found valued (same_after words) (hyphens word),
  )
