-- Expressions are read from their spellings and from nothing else.
use Rattle.std.proofs.Common.{◌≡◌, ◌<◌, ◌≤◌, ℕ, zero, suc, max, Bool, true, false, List, [], ◌∷◌, ◌++◌, length, refl, ap, sym, ◌∙◌, subst, arith, append_assoc}
use Rattle.std.specs.Prelude.{Option, Some, None}
use Rattle.std.specs.Fmt.{decimal}
use Rattle.gm_value.specs.declared.operations.Op1.{Op1}
use Rattle.gm_value.specs.declared.operations.Op1.TheVariants as op1
use Rattle.gm_value.specs.declared.operations.Op2.{Op2}
use Rattle.gm_value.specs.declared.operations.Op2.TheVariants as op2
use Rattle.gm_image.specs.Term as T
use Rattle.gm_image.specs.Term.{Term}
use Rattle.gm_image_text.specs.declared.heads.Leaf.{Leaf}
use Rattle.gm_image_text.specs.declared.heads.Leaf.TheVariants as leaf
use Rattle.gm_image_text.specs.declared.heads.Indexed.{Indexed}
use Rattle.gm_image_text.specs.declared.heads.Indexed.TheVariants as indexed
use Rattle.gm_image_text.specs.declared.heads.One.{One}
use Rattle.gm_image_text.specs.declared.heads.One.TheVariants as one
use Rattle.gm_image_text.specs.declared.heads.PlacedOne.{PlacedOne}
use Rattle.gm_image_text.specs.declared.heads.PlacedOne.TheVariants as placed_one
use Rattle.gm_image_text.specs.declared.heads.Two.{Two}
use Rattle.gm_image_text.specs.declared.heads.Two.TheVariants as two
use Rattle.gm_image_text.specs.declared.heads.PlacedTwo.{PlacedTwo}
use Rattle.gm_image_text.specs.declared.heads.PlacedTwo.TheVariants as placed_two
use Rattle.gm_image_text.specs.declared.heads.Head.{Head}
use Rattle.gm_image_text.specs.declared.heads.Head.TheVariants as head
use Rattle.gm_image_text.specs.Lines.{Word}
use Rattle.gm_image.specs.Ranges.{IsIndex, PlaceFits, has_place1, has_place2}
use Rattle.gm_image_text.specs.Fits.{IsPlain, NumbersFit, TermFits, levels}
use Rattle.gm_image_text.specs.Spelling.{value_words, term_words, op1_word, op2_word, place_words}
use Rattle.gm_image_text.specs.Tables as tables
use Rattle.gm_image_text.specs.Tables.{row_in}
use Rattle.gm_image_text.specs.Numbers.{index_in}
use Rattle.gm_image_text.specs.Reading.{◌>>=◌, Reads, word_at, index_at, constant_at, leaf_term, indexed_term, one_term, placed_one_term, two_term, placed_two_term, choice_term, behind_head, term_at, expression_at}
use Rattle.gm_image_text.proofs.LineBinds.{some_is, bind_some}
use Rattle.gm_image_text.proofs.Spelled.{AllPlain, plain_both, plain_behind}
use Rattle.gm_image_text.proofs.Fields.{FieldLaw, word_field}
use Rattle.gm_image_text.proofs.Numerals.{index_word}
use Rattle.gm_image_text.proofs.Constants.{constant_field}
use Rattle.gm_image_text.proofs.TableLaws.{Whatever, head_word, leaf_word, indexed_word, one_word, placed_one_word, two_word, placed_two_word, heads_word}

pub index_field : FieldLaw IsIndex (λ n. decimal n ∷ []) index_at
index_field =
    let it : FieldLaw IsIndex (λ n. decimal n ∷ []) (word_at index_in) = word_field IsIndex decimal index_in index_word in
    record { ok = it.ok; again = it.again; plain = it.plain }

heads_field : FieldLaw Whatever (λ h. head_word h ∷ []) (word_at (row_in tables.heads))
heads_field = word_field Whatever head_word (row_in tables.heads) heads_word

-- an expression of at most so many levels whose numbers fit
pub record Within (n : ℕ) (a : Term) : Type 0 where
  pub numbers : NumbersFit a
  pub flat : levels a ≤ n

leaf_within : (n : ℕ) (l : Leaf) → Within (suc n) (leaf_term l)
leaf_within n leaf.NodeCount = record { numbers = tt; flat = omega arith }
leaf_within n leaf.EdgeCount = record { numbers = tt; flat = omega arith }
leaf_within n leaf.Id = record { numbers = tt; flat = omega arith }
leaf_within n leaf.OutDegree = record { numbers = tt; flat = omega arith }
leaf_within n leaf.InDegree = record { numbers = tt; flat = omega arith }
leaf_within n leaf.Neighbour = record { numbers = tt; flat = omega arith }

leaf_words : (l : Leaf) → term_words (leaf_term l) ≡ leaf_word l ∷ []
leaf_words leaf.NodeCount = refl
leaf_words leaf.EdgeCount = refl
leaf_words leaf.Id = refl
leaf_words leaf.OutDegree = refl
leaf_words leaf.InDegree = refl
leaf_words leaf.Neighbour = refl

indexed_within : (n : ℕ) (k : Indexed) (i : ℕ) → IsIndex i → Within (suc n) (indexed_term k i)
indexed_within n indexed.Global i h = record { numbers = h; flat = omega arith }
indexed_within n indexed.Field i h = record { numbers = h; flat = omega arith }
indexed_within n indexed.Register i h = record { numbers = h; flat = omega arith }
indexed_within n indexed.Message i h = record { numbers = h; flat = omega arith }
indexed_within n indexed.Column i h = record { numbers = h; flat = omega arith }

indexed_words : (k : Indexed) (i : ℕ) → term_words (indexed_term k i) ≡ indexed_word k ∷ decimal i ∷ []
indexed_words indexed.Global i = refl
indexed_words indexed.Field i = refl
indexed_words indexed.Register i = refl
indexed_words indexed.Message i = refl
indexed_words indexed.Column i = refl

one_within : (n : ℕ) (op : One) (a : Term) → Within n a → Within (suc n) (one_term op a)
one_within n one.NodeAt a h = let flat : levels a ≤ n = h.flat in record { numbers = h.numbers; flat = omega (arith, flat) }
one_within n one.ToLong a h = let flat : levels a ≤ n = h.flat in record { numbers = (tt, h.numbers); flat = omega (arith, flat) }
one_within n one.Not a h = let flat : levels a ≤ n = h.flat in record { numbers = (tt, h.numbers); flat = omega (arith, flat) }

one_words : (op : One) (a : Term) → term_words (one_term op a) ≡ one_word op ∷ term_words a
one_words one.NodeAt a = refl
one_words one.ToLong a = refl
one_words one.Not a = refl

placed_one_within : (n : ℕ) (op : PlacedOne) (p : ℕ) (a : Term) → IsIndex p → Within n a → Within (suc n) (placed_one_term op p a)
placed_one_within n placed_one.Live p a i h = let flat : levels a ≤ n = h.flat in record { numbers = (i, h.numbers); flat = omega (arith, flat) }
placed_one_within n placed_one.Neg p a i h = let flat : levels a ≤ n = h.flat in record { numbers = (i, h.numbers); flat = omega (arith, flat) }
placed_one_within n placed_one.ToInt p a i h = let flat : levels a ≤ n = h.flat in record { numbers = (i, h.numbers); flat = omega (arith, flat) }

placed_one_words : (op : PlacedOne) (p : ℕ) (a : Term) → term_words (placed_one_term op p a) ≡ placed_one_word op ∷ decimal p ∷ term_words a
placed_one_words placed_one.Live p a = refl
placed_one_words placed_one.Neg p a = refl
placed_one_words placed_one.ToInt p a = refl

two_levels : (n m k : ℕ) → m ≤ n → k ≤ n → suc (max m k) ≤ suc n
two_levels n m k h g = omega (arith, h, g)

two_within : (n : ℕ) (op : Two) (a b : Term) → Within n a → Within n b → Within (suc n) (two_term op a b)
two_within n two.Eq a b h g = record { numbers = (tt, h.numbers, g.numbers); flat = two_levels n (levels a) (levels b) h.flat g.flat }
two_within n two.Ne a b h g = record { numbers = (tt, h.numbers, g.numbers); flat = two_levels n (levels a) (levels b) h.flat g.flat }
two_within n two.Lt a b h g = record { numbers = (tt, h.numbers, g.numbers); flat = two_levels n (levels a) (levels b) h.flat g.flat }
two_within n two.Gt a b h g = record { numbers = (tt, h.numbers, g.numbers); flat = two_levels n (levels a) (levels b) h.flat g.flat }
two_within n two.Le a b h g = record { numbers = (tt, h.numbers, g.numbers); flat = two_levels n (levels a) (levels b) h.flat g.flat }
two_within n two.Ge a b h g = record { numbers = (tt, h.numbers, g.numbers); flat = two_levels n (levels a) (levels b) h.flat g.flat }
two_within n two.And a b h g = record { numbers = (h.numbers, g.numbers); flat = two_levels n (levels a) (levels b) h.flat g.flat }
two_within n two.Or a b h g = record { numbers = (h.numbers, g.numbers); flat = two_levels n (levels a) (levels b) h.flat g.flat }

two_words : (op : Two) (a b : Term) → term_words (two_term op a b) ≡ two_word op ∷ (term_words a ++ term_words b)
two_words two.Eq a b = refl
two_words two.Ne a b = refl
two_words two.Lt a b = refl
two_words two.Gt a b = refl
two_words two.Le a b = refl
two_words two.Ge a b = refl
two_words two.And a b = refl
two_words two.Or a b = refl

placed_two_within : (n : ℕ) (op : PlacedTwo) (p : ℕ) (a b : Term) → IsIndex p → Within n a → Within n b → Within (suc n) (placed_two_term op p a b)
placed_two_within n placed_two.Add p a b i h g = record { numbers = (i, h.numbers, g.numbers); flat = two_levels n (levels a) (levels b) h.flat g.flat }
placed_two_within n placed_two.Sub p a b i h g = record { numbers = (i, h.numbers, g.numbers); flat = two_levels n (levels a) (levels b) h.flat g.flat }
placed_two_within n placed_two.Mul p a b i h g = record { numbers = (i, h.numbers, g.numbers); flat = two_levels n (levels a) (levels b) h.flat g.flat }
placed_two_within n placed_two.Div p a b i h g = record { numbers = (i, h.numbers, g.numbers); flat = two_levels n (levels a) (levels b) h.flat g.flat }
placed_two_within n placed_two.Rem p a b i h g = record { numbers = (i, h.numbers, g.numbers); flat = two_levels n (levels a) (levels b) h.flat g.flat }

placed_two_words : (op : PlacedTwo) (p : ℕ) (a b : Term) → term_words (placed_two_term op p a b) ≡ placed_two_word op ∷ decimal p ∷ (term_words a ++ term_words b)
placed_two_words placed_two.Add p a b = refl
placed_two_words placed_two.Sub p a b = refl
placed_two_words placed_two.Mul p a b = refl
placed_two_words placed_two.Div p a b = refl
placed_two_words placed_two.Rem p a b = refl

choice_within : (n : ℕ) (c a b : Term) → Within n c → Within n a → Within n b → Within (suc n) (choice_term c a b)
choice_within n c a b k h g = record { numbers = (k.numbers, h.numbers, g.numbers); flat = three n (levels c) (levels a) (levels b) k.flat h.flat g.flat } where
  three : (n m k l : ℕ) → m ≤ n → k ≤ n → l ≤ n → suc (max m (max k l)) ≤ suc n
  three n m k l f h g = omega (arith, f, h, g)

-- behind the head of an expression: `read` reads its parts, of at most n levels
module _ (n : ℕ) (read : Reads Term) (law : FieldLaw (Within n) term_words read) where
  -- what was read behind a head is an expression that begins with the head's word
  abbrev Got : Head → List Word → Term × List Word → Type 0
  Got h ws x = Within (suc n) x.0 × (head_word h ∷ ws ≡ term_words x.0 ++ x.1)

  abbrev make_one : One → Term × List Word → Option (Term × List Word)
  make_one op a = Some (one_term op a.0, a.1)

  one_ok : (op : One) (ws : List Word) (x : Term × List Word) → AllPlain ws → behind_head read (head.One op) ws ≡ Some x → Got (head.One op) ws x
  one_ok op ws x p e =
      let a = bind_some (read ws) (make_one op) x e in
      let got : Within n a.0.0 × (ws ≡ term_words a.0.0 ++ a.0.1) = law.ok ws a.0.1 a.0.0 p a.1 in
      let P : Term × List Word → Type 0 = Got (head.One op) ws in
      subst P (some_is (one_term op a.0.0, a.0.1) x a.2) (one_within n op a.0.0 got.0, ap (λ v. one_word op ∷ v) got.1 ∙ ap (λ v. v ++ a.0.1) (sym (one_words op a.0.0)))

  abbrev make_placed_one : PlacedOne → ℕ → Term × List Word → Option (Term × List Word)
  make_placed_one op p a = Some (placed_one_term op p a.0, a.1)

  placed_one_ok : (op : PlacedOne) (ws : List Word) (x : Term × List Word) → AllPlain ws → behind_head read (head.PlacedOne op) ws ≡ Some x → Got (head.PlacedOne op) ws x
  placed_one_ok op ws x p e =
      let i = bind_some (index_at ws) (λ i. read i.1 >>= make_placed_one op i.0) x e in
      let at : IsIndex i.0.0 × (ws ≡ (decimal i.0.0 ∷ []) ++ i.0.1) = index_field.ok ws i.0.1 i.0.0 p i.1 in
      let P : List Word → Type 0 = AllPlain in
      let a = bind_some (read i.0.1) (make_placed_one op i.0.0) x i.2 in
      let got : Within n a.0.0 × (i.0.1 ≡ term_words a.0.0 ++ a.0.1) = law.ok i.0.1 a.0.1 a.0.0 (plain_behind (decimal i.0.0 ∷ []) i.0.1 (subst P at.1 p)) a.1 in
      let Q : Term × List Word → Type 0 = Got (head.PlacedOne op) ws in
      subst Q (some_is (placed_one_term op i.0.0 a.0.0, a.0.1) x a.2) (
        placed_one_within n op i.0.0 a.0.0 at.0 got.0,
        ap (λ v. placed_one_word op ∷ v) (at.1 ∙ ap (λ v. decimal i.0.0 ∷ v) got.1) ∙ ap (λ v. v ++ a.0.1) (sym (placed_one_words op i.0.0 a.0.0)),
      )

  -- two parts, one behind the other
  record TwoParts (ws : List Word) (a b : Term) (rest : List Word) : Type 0 where
    first : Within n a
    second : Within n b
    words : ws ≡ (term_words a ++ term_words b) ++ rest

  two_parts : (ws mid rest : List Word) (a b : Term) → AllPlain ws → read ws ≡ Some (a, mid) → read mid ≡ Some (b, rest) → TwoParts ws a b rest
  two_parts ws mid rest a b p e f =
      let one : Within n a × (ws ≡ term_words a ++ mid) = law.ok ws mid a p e in
      let P : List Word → Type 0 = AllPlain in
      let other : Within n b × (mid ≡ term_words b ++ rest) = law.ok mid rest b (plain_behind (term_words a) mid (subst P one.1 p)) f in
      record { first = one.0; second = other.0; words = one.1 ∙ ap (λ v. term_words a ++ v) other.1 ∙ sym (append_assoc (term_words a) (term_words b) rest) }

  abbrev make_two : Two → Term → Term × List Word → Option (Term × List Word)
  make_two op a b = Some (two_term op a b.0, b.1)

  two_ok : (op : Two) (ws : List Word) (x : Term × List Word) → AllPlain ws → behind_head read (head.Two op) ws ≡ Some x → Got (head.Two op) ws x
  two_ok op ws x p e =
      let a = bind_some (read ws) (λ a. read a.1 >>= make_two op a.0) x e in
      let b = bind_some (read a.0.1) (make_two op a.0.0) x a.2 in
      let got : TwoParts ws a.0.0 b.0.0 b.0.1 = two_parts ws a.0.1 b.0.1 a.0.0 b.0.0 p a.1 b.1 in
      let Q : Term × List Word → Type 0 = Got (head.Two op) ws in
      subst Q (some_is (two_term op a.0.0 b.0.0, b.0.1) x b.2) (
        two_within n op a.0.0 b.0.0 got.first got.second,
        ap (λ v. two_word op ∷ v) got.words ∙ ap (λ v. v ++ b.0.1) (sym (two_words op a.0.0 b.0.0)),
      )

  abbrev make_placed_two : PlacedTwo → ℕ → Term → Term × List Word → Option (Term × List Word)
  make_placed_two op p a b = Some (placed_two_term op p a b.0, b.1)

  placed_two_ok : (op : PlacedTwo) (ws : List Word) (x : Term × List Word) → AllPlain ws → behind_head read (head.PlacedTwo op) ws ≡ Some x → Got (head.PlacedTwo op) ws x
  placed_two_ok op ws x p e =
      let i = bind_some (index_at ws) (λ i. read i.1 >>= λ a. read a.1 >>= make_placed_two op i.0 a.0) x e in
      let at : IsIndex i.0.0 × (ws ≡ (decimal i.0.0 ∷ []) ++ i.0.1) = index_field.ok ws i.0.1 i.0.0 p i.1 in
      let P : List Word → Type 0 = AllPlain in
      let a = bind_some (read i.0.1) (λ a. read a.1 >>= make_placed_two op i.0.0 a.0) x i.2 in
      let b = bind_some (read a.0.1) (make_placed_two op i.0.0 a.0.0) x a.2 in
      let got : TwoParts i.0.1 a.0.0 b.0.0 b.0.1 = two_parts i.0.1 a.0.1 b.0.1 a.0.0 b.0.0 (plain_behind (decimal i.0.0 ∷ []) i.0.1 (subst P at.1 p)) a.1 b.1 in
      let Q : Term × List Word → Type 0 = Got (head.PlacedTwo op) ws in
      subst Q (some_is (placed_two_term op i.0.0 a.0.0 b.0.0, b.0.1) x b.2) (
        placed_two_within n op i.0.0 a.0.0 b.0.0 at.0 got.first got.second,
        ap (λ v. placed_two_word op ∷ v) (at.1 ∙ ap (λ v. decimal i.0.0 ∷ v) got.words) ∙ ap (λ v. v ++ b.0.1) (sym (placed_two_words op i.0.0 a.0.0 b.0.0)),
      )

  abbrev make_choice : Term → Term → Term × List Word → Option (Term × List Word)
  make_choice c a b = Some (choice_term c a b.0, b.1)

  choice_ok : (ws : List Word) (x : Term × List Word) → AllPlain ws → behind_head read head.Choice ws ≡ Some x → Got head.Choice ws x
  choice_ok ws x p e =
      let c = bind_some (read ws) (λ c. read c.1 >>= λ a. read a.1 >>= make_choice c.0 a.0) x e in
      let one : Within n c.0.0 × (ws ≡ term_words c.0.0 ++ c.0.1) = law.ok ws c.0.1 c.0.0 p c.1 in
      let P : List Word → Type 0 = AllPlain in
      let a = bind_some (read c.0.1) (λ a. read a.1 >>= make_choice c.0.0 a.0) x c.2 in
      let b = bind_some (read a.0.1) (make_choice c.0.0 a.0.0) x a.2 in
      let got : TwoParts c.0.1 a.0.0 b.0.0 b.0.1 = two_parts c.0.1 a.0.1 b.0.1 a.0.0 b.0.0 (plain_behind (term_words c.0.0) c.0.1 (subst P one.1 p)) a.1 b.1 in
      let Q : Term × List Word → Type 0 = Got head.Choice ws in
      subst Q (some_is (choice_term c.0.0 a.0.0 b.0.0, b.0.1) x b.2) (
        choice_within n c.0.0 a.0.0 b.0.0 one.0 got.first got.second,
        ap (λ v. head_word head.Choice ∷ v) (one.1 ∙ ap (λ v. term_words c.0.0 ++ v) got.words ∙ sym (append_assoc (term_words c.0.0) (term_words a.0.0 ++ term_words b.0.0) b.0.1)),
      )

  behind_ok : (h : Head) (ws : List Word) (x : Term × List Word) → AllPlain ws → behind_head read h ws ≡ Some x → Got h ws x
  behind_ok head.Constant ws x p e =
      let v = bind_some (constant_at ws) (λ v. Some (T.Const v.0, v.1)) x e in
      let got = constant_field.ok ws v.0.1 v.0.0 p v.1 in
      let P : Term × List Word → Type 0 = Got head.Constant ws in
      subst P (some_is (T.Const v.0.0, v.0.1) x v.2) (record { numbers = got.0; flat = omega arith }, ap (λ u. head_word head.Constant ∷ u) got.1)
  behind_ok (head.Leaf l) ws x p e =
      let P : Term × List Word → Type 0 = Got (head.Leaf l) ws in
      subst P (some_is (leaf_term l, ws) x e) (leaf_within n l, ap (λ v. v ++ ws) (sym (leaf_words l)))
  behind_ok (head.Indexed k) ws x p e =
      let i = bind_some (index_at ws) (λ i. Some (indexed_term k i.0, i.1)) x e in
      let at : IsIndex i.0.0 × (ws ≡ (decimal i.0.0 ∷ []) ++ i.0.1) = index_field.ok ws i.0.1 i.0.0 p i.1 in
      let P : Term × List Word → Type 0 = Got (head.Indexed k) ws in
      subst P (some_is (indexed_term k i.0.0, i.0.1) x i.2) (indexed_within n k i.0.0 at.0, ap (λ v. indexed_word k ∷ v) at.1 ∙ ap (λ v. v ++ i.0.1) (sym (indexed_words k i.0.0)))
  behind_ok (head.One op) ws x p e = one_ok op ws x p e
  behind_ok (head.PlacedOne op) ws x p e = placed_one_ok op ws x p e
  behind_ok (head.Two op) ws x p e = two_ok op ws x p e
  behind_ok (head.PlacedTwo op) ws x p e = placed_two_ok op ws x p e
  behind_ok head.Choice ws x p e = choice_ok ws x p e

  -- an expression, by its head and what is read behind that
  abbrev by_head : Reads Term
  by_head ws = word_at (row_in tables.heads) ws >>= λ h. behind_head read h.0 h.1

  by_head_ok : (ws rest : List Word) (a : Term) → AllPlain ws → by_head ws ≡ Some (a, rest) → Within (suc n) a × (ws ≡ term_words a ++ rest)
  by_head_ok ws rest a p e =
      let h = bind_some (word_at (row_in tables.heads) ws) (λ h. behind_head read h.0 h.1) (a, rest) e in
      let at = heads_field.ok ws h.0.1 h.0.0 p h.1 in
      let P : List Word → Type 0 = AllPlain in
      let got : Got h.0.0 h.0.1 (a, rest) = behind_ok h.0.0 h.0.1 (a, rest) (plain_behind (head_word h.0.0 ∷ []) h.0.1 (subst P at.1 p)) h.2 in
      (got.0, at.1 ∙ got.1)

  head_step : (h : Head) (ws : List Word) → by_head (head_word h ∷ ws) ≡ behind_head read h ws
  head_step h ws = ap (λ o. o >>= λ h. behind_head read h.0 h.1) (heads_field.again h ws tt)

  -- each shape is read again
  again_indexed : (k : Indexed) (i : ℕ) (rest : List Word) → IsIndex i → by_head (indexed_word k ∷ decimal i ∷ rest) ≡ Some (indexed_term k i, rest)
  again_indexed k i rest h = head_step (head.Indexed k) (decimal i ∷ rest) ∙ ap (λ o. o >>= λ i. Some (indexed_term k i.0, i.1)) (index_field.again i rest h)

  again_one : (op : One) (a : Term) (rest : List Word) → Within n a → by_head (one_word op ∷ (term_words a ++ rest)) ≡ Some (one_term op a, rest)
  again_one op a rest h = head_step (head.One op) (term_words a ++ rest) ∙ ap (λ o. o >>= make_one op) (law.again a rest h)

  again_placed_one : (op : PlacedOne) (p : ℕ) (a : Term) (rest : List Word) → IsIndex p → Within n a → by_head (placed_one_word op ∷ decimal p ∷ (term_words a ++ rest)) ≡ Some (placed_one_term op p a, rest)
  again_placed_one op p a rest i h =
      head_step (head.PlacedOne op) (decimal p ∷ (term_words a ++ rest))
      ∙ ap (λ o. o >>= λ i. read i.1 >>= make_placed_one op i.0) (index_field.again p (term_words a ++ rest) i)
      ∙ ap (λ o. o >>= make_placed_one op p) (law.again a rest h)

  again_two : (op : Two) (a b : Term) (rest : List Word) → Within n a → Within n b → by_head (two_word op ∷ ((term_words a ++ term_words b) ++ rest)) ≡ Some (two_term op a b, rest)
  again_two op a b rest h g =
      ap (λ v. by_head (two_word op ∷ v)) (append_assoc (term_words a) (term_words b) rest)
      ∙ head_step (head.Two op) (term_words a ++ (term_words b ++ rest))
      ∙ ap (λ o. o >>= λ a. read a.1 >>= make_two op a.0) (law.again a (term_words b ++ rest) h)
      ∙ ap (λ o. o >>= make_two op a) (law.again b rest g)

  again_placed_two : (op : PlacedTwo) (p : ℕ) (a b : Term) (rest : List Word) → IsIndex p → Within n a → Within n b → by_head (placed_two_word op ∷ decimal p ∷ ((term_words a ++ term_words b) ++ rest)) ≡ Some (placed_two_term op p a b, rest)
  again_placed_two op p a b rest i h g =
      ap (λ v. by_head (placed_two_word op ∷ decimal p ∷ v)) (append_assoc (term_words a) (term_words b) rest)
      ∙ head_step (head.PlacedTwo op) (decimal p ∷ (term_words a ++ (term_words b ++ rest)))
      ∙ ap (λ o. o >>= λ i. read i.1 >>= λ a. read a.1 >>= make_placed_two op i.0 a.0) (index_field.again p (term_words a ++ (term_words b ++ rest)) i)
      ∙ ap (λ o. o >>= λ a. read a.1 >>= make_placed_two op p a.0) (law.again a (term_words b ++ rest) h)
      ∙ ap (λ o. o >>= make_placed_two op p a) (law.again b rest g)

  again_choice : (c a b : Term) (rest : List Word) → Within n c → Within n a → Within n b → by_head (head_word head.Choice ∷ ((term_words c ++ (term_words a ++ term_words b)) ++ rest)) ≡ Some (choice_term c a b, rest)
  again_choice c a b rest k h g =
      ap (λ v. by_head (head_word head.Choice ∷ v)) (append_assoc (term_words c) (term_words a ++ term_words b) rest ∙ ap (λ v. term_words c ++ v) (append_assoc (term_words a) (term_words b) rest))
      ∙ head_step head.Choice (term_words c ++ (term_words a ++ (term_words b ++ rest)))
      ∙ ap (λ o. o >>= λ c. read c.1 >>= λ a. read a.1 >>= make_choice c.0 a.0) (law.again c (term_words a ++ (term_words b ++ rest)) k)
      ∙ ap (λ o. o >>= λ a. read a.1 >>= make_choice c a.0) (law.again a (term_words b ++ rest) h)
      ∙ ap (λ o. o >>= make_choice c a) (law.again b rest g)

  part : (a : Term) → NumbersFit a → levels a ≤ n → Within n a
  part a h l = record { numbers = h; flat = l }

  less : (m n : ℕ) → suc m ≤ suc n → m ≤ n
  less m n h = omega (arith, h)

  left : (m k n : ℕ) → suc (max m k) ≤ suc n → m ≤ n
  left m k n h = omega (arith, h)

  right : (m k n : ℕ) → suc (max m k) ≤ suc n → k ≤ n
  right m k n h = omega (arith, h)

  again_unary : (op : Op1) (p : Option ℕ) (a : Term) (rest : List Word) → NumbersFit (T.Unary op p a) → Within n a → by_head (term_words (T.Unary op p a) ++ rest) ≡ Some (T.Unary op p a, rest)
  again_unary op1.Neg None a rest h g = absurd h.0
  again_unary op1.Neg (Some p) a rest h g = again_placed_one placed_one.Neg p a rest h.0 g
  again_unary op1.Not None a rest h g = again_one one.Not a rest g
  again_unary op1.Not (Some p) a rest h g = absurd h.0
  again_unary op1.ToI32 None a rest h g = absurd h.0
  again_unary op1.ToI32 (Some p) a rest h g = again_placed_one placed_one.ToInt p a rest h.0 g
  again_unary op1.ToI64 None a rest h g = again_one one.ToLong a rest g
  again_unary op1.ToI64 (Some p) a rest h g = absurd h.0

  again_binary : (op : Op2) (p : Option ℕ) (a b : Term) (rest : List Word) → NumbersFit (T.Binary op p a b) → Within n a → Within n b → by_head (term_words (T.Binary op p a b) ++ rest) ≡ Some (T.Binary op p a b, rest)
  again_binary op2.Add None a b rest h g k = absurd h.0
  again_binary op2.Add (Some p) a b rest h g k = again_placed_two placed_two.Add p a b rest h.0 g k
  again_binary op2.Sub None a b rest h g k = absurd h.0
  again_binary op2.Sub (Some p) a b rest h g k = again_placed_two placed_two.Sub p a b rest h.0 g k
  again_binary op2.Mul None a b rest h g k = absurd h.0
  again_binary op2.Mul (Some p) a b rest h g k = again_placed_two placed_two.Mul p a b rest h.0 g k
  again_binary op2.Div None a b rest h g k = absurd h.0
  again_binary op2.Div (Some p) a b rest h g k = again_placed_two placed_two.Div p a b rest h.0 g k
  again_binary op2.Rem None a b rest h g k = absurd h.0
  again_binary op2.Rem (Some p) a b rest h g k = again_placed_two placed_two.Rem p a b rest h.0 g k
  again_binary op2.Eq None a b rest h g k = again_two two.Eq a b rest g k
  again_binary op2.Eq (Some p) a b rest h g k = absurd h.0
  again_binary op2.Ne None a b rest h g k = again_two two.Ne a b rest g k
  again_binary op2.Ne (Some p) a b rest h g k = absurd h.0
  again_binary op2.Lt None a b rest h g k = again_two two.Lt a b rest g k
  again_binary op2.Lt (Some p) a b rest h g k = absurd h.0
  again_binary op2.Gt None a b rest h g k = again_two two.Gt a b rest g k
  again_binary op2.Gt (Some p) a b rest h g k = absurd h.0
  again_binary op2.Le None a b rest h g k = again_two two.Le a b rest g k
  again_binary op2.Le (Some p) a b rest h g k = absurd h.0
  again_binary op2.Ge None a b rest h g k = again_two two.Ge a b rest g k
  again_binary op2.Ge (Some p) a b rest h g k = absurd h.0

  by_head_again : (a : Term) (rest : List Word) → Within (suc n) a → by_head (term_words a ++ rest) ≡ Some (a, rest)
  by_head_again (T.Const v) rest h = head_step head.Constant (value_words v ++ rest) ∙ ap (λ o. o >>= λ v. Some (T.Const v.0, v.1)) (constant_field.again v rest h.numbers)
  by_head_again (T.Global i) rest h = again_indexed indexed.Global i rest h.numbers
  by_head_again T.NodeCount rest h = head_step (head.Leaf leaf.NodeCount) rest
  by_head_again T.EdgeCount rest h = head_step (head.Leaf leaf.EdgeCount) rest
  by_head_again (T.Field i) rest h = again_indexed indexed.Field i rest h.numbers
  by_head_again T.Self rest h = head_step (head.Leaf leaf.Id) rest
  by_head_again T.OutDegree rest h = head_step (head.Leaf leaf.OutDegree) rest
  by_head_again T.InDegree rest h = head_step (head.Leaf leaf.InDegree) rest
  by_head_again (T.Register i) rest h = again_indexed indexed.Register i rest h.numbers
  by_head_again (T.Message i) rest h = again_indexed indexed.Message i rest h.numbers
  by_head_again T.Neighbour rest h = head_step (head.Leaf leaf.Neighbour) rest
  by_head_again (T.Column i) rest h = again_indexed indexed.Column i rest h.numbers
  by_head_again (T.NodeAt a) rest h = again_one one.NodeAt a rest (part a h.numbers (less (levels a) n h.flat))
  by_head_again (T.Live p a) rest h = again_placed_one placed_one.Live p a rest h.numbers.0 (part a h.numbers.1 (less (levels a) n h.flat))
  by_head_again (T.Unary op p a) rest h = again_unary op p a rest h.numbers (part a h.numbers.1 (less (levels a) n h.flat))
  by_head_again (T.Binary op p a b) rest h = again_binary op p a b rest h.numbers (part a h.numbers.1 (left (levels a) (levels b) n h.flat)) (part b h.numbers.2 (right (levels a) (levels b) n h.flat))
  by_head_again (T.And a b) rest h = again_two two.And a b rest (part a h.numbers.0 (left (levels a) (levels b) n h.flat)) (part b h.numbers.1 (right (levels a) (levels b) n h.flat))
  by_head_again (T.Or a b) rest h = again_two two.Or a b rest (part a h.numbers.0 (left (levels a) (levels b) n h.flat)) (part b h.numbers.1 (right (levels a) (levels b) n h.flat))
  by_head_again (T.Choose c a b) rest h =
      let both : max (levels a) (levels b) ≤ n = right (levels c) (max (levels a) (levels b)) n h.flat in
      again_choice c a b rest (part c h.numbers.0 (left (levels c) (max (levels a) (levels b)) n h.flat)) (part a h.numbers.1 (omega (arith, both))) (part b h.numbers.2 (omega (arith, both)))

-- the words of an expression are plain
place1_plain : (op : Op1) (p : Option ℕ) → PlaceFits (has_place1 op) p → IsPlain (op1_word op) × AllPlain (place_words p)
place1_plain op1.Neg None h = absurd h
place1_plain op1.Neg (Some p) h = (refl, (index_word.plain p h, tt))
place1_plain op1.Not None h = (refl, tt)
place1_plain op1.Not (Some p) h = absurd h
place1_plain op1.ToI32 None h = absurd h
place1_plain op1.ToI32 (Some p) h = (refl, (index_word.plain p h, tt))
place1_plain op1.ToI64 None h = (refl, tt)
place1_plain op1.ToI64 (Some p) h = absurd h

op2_plain : (op : Op2) → IsPlain (op2_word op)
op2_plain op2.Add = refl
op2_plain op2.Sub = refl
op2_plain op2.Mul = refl
op2_plain op2.Div = refl
op2_plain op2.Rem = refl
op2_plain op2.Eq = refl
op2_plain op2.Ne = refl
op2_plain op2.Lt = refl
op2_plain op2.Gt = refl
op2_plain op2.Le = refl
op2_plain op2.Ge = refl

place_plain : (b : Bool) (p : Option ℕ) → PlaceFits b p → AllPlain (place_words p)
place_plain true None h = absurd h
place_plain true (Some p) h = (index_word.plain p h, tt)
place_plain false None h = tt
place_plain false (Some p) h = absurd h

term_plain : (a : Term) → NumbersFit a → AllPlain (term_words a)
term_plain (T.Const v) h = (refl, constant_field.plain v h)
term_plain (T.Global i) h = (refl, (index_word.plain i h, tt))
term_plain T.NodeCount h = (refl, tt)
term_plain T.EdgeCount h = (refl, tt)
term_plain (T.Field i) h = (refl, (index_word.plain i h, tt))
term_plain T.Self h = (refl, tt)
term_plain T.OutDegree h = (refl, tt)
term_plain T.InDegree h = (refl, tt)
term_plain (T.Register i) h = (refl, (index_word.plain i h, tt))
term_plain (T.Message i) h = (refl, (index_word.plain i h, tt))
term_plain T.Neighbour h = (refl, tt)
term_plain (T.Column i) h = (refl, (index_word.plain i h, tt))
term_plain (T.NodeAt a) h = (refl, term_plain a h)
term_plain (T.Live p a) h = (refl, (index_word.plain p h.0, term_plain a h.1))
term_plain (T.Unary op p a) h = let it = place1_plain op p h.0 in (it.0, plain_both (place_words p) (term_words a) it.1 (term_plain a h.1))
term_plain (T.Binary op p a b) h = (op2_plain op, plain_both (place_words p) (term_words a ++ term_words b) (place_plain (has_place2 op) p h.0) (plain_both (term_words a) (term_words b) (term_plain a h.1) (term_plain b h.2)))
term_plain (T.And a b) h = (refl, plain_both (term_words a) (term_words b) (term_plain a h.0) (term_plain b h.1))
term_plain (T.Or a b) h = (refl, plain_both (term_words a) (term_words b) (term_plain a h.0) (term_plain b h.1))
term_plain (T.Choose c a b) h = (refl, plain_both (term_words c) (term_words a ++ term_words b) (term_plain c h.0) (plain_both (term_words a) (term_words b) (term_plain a h.1) (term_plain b h.2)))

-- and there is one
pub some_words : (a : Term) → 0 < length (term_words a)
some_words (T.Const v) = omega arith
some_words (T.Global i) = omega arith
some_words T.NodeCount = omega arith
some_words T.EdgeCount = omega arith
some_words (T.Field i) = omega arith
some_words T.Self = omega arith
some_words T.OutDegree = omega arith
some_words T.InDegree = omega arith
some_words (T.Register i) = omega arith
some_words (T.Message i) = omega arith
some_words T.Neighbour = omega arith
some_words (T.Column i) = omega arith
some_words (T.NodeAt a) = omega arith
some_words (T.Live p a) = omega arith
some_words (T.Unary op p a) = omega arith
some_words (T.Binary op p a b) = omega arith
some_words (T.And a b) = omega arith
some_words (T.Or a b) = omega arith
some_words (T.Choose c a b) = omega arith

pub none_behind : (ws : List Word) → ws ++ [] ≡ ws
none_behind [] = refl
none_behind (w ∷ ws) = ap (λ v. w ∷ v) (none_behind ws)

some_levels : (a : Term) → 0 < levels a
some_levels (T.Const v) = omega arith
some_levels (T.Global i) = omega arith
some_levels T.NodeCount = omega arith
some_levels T.EdgeCount = omega arith
some_levels (T.Field i) = omega arith
some_levels T.Self = omega arith
some_levels T.OutDegree = omega arith
some_levels T.InDegree = omega arith
some_levels (T.Register i) = omega arith
some_levels (T.Message i) = omega arith
some_levels T.Neighbour = omega arith
some_levels (T.Column i) = omega arith
some_levels (T.NodeAt a) = omega arith
some_levels (T.Live p a) = omega arith
some_levels (T.Unary op p a) = omega arith
some_levels (T.Binary op p a b) = omega arith
some_levels (T.And a b) = omega arith
some_levels (T.Or a b) = omega arith
some_levels (T.Choose c a b) = omega arith

pub term_law : (n : ℕ) → FieldLaw (Within n) term_words (λ ws. term_at n ws)
term_law zero = record {
  ok = λ ws rest a p e. cc;
  again = λ a rest h. let none : levels a ≤ 0 = h.flat in absurd (omega (arith, some_levels a, none));
  plain = λ a h. term_plain a h.numbers;
}
term_law (suc n) =
    let below : FieldLaw (Within n) term_words (λ ws. term_at n ws) = term_law n in
    record {
      ok = by_head_ok n (λ ws. term_at n ws) below;
      again = by_head_again n (λ ws. term_at n ws) below;
      plain = λ a h. term_plain a h.numbers;
    }

-- an expression of a line
pub expression_field : FieldLaw TermFits term_words expression_at
unfolding expression_at
expression_field =
    let it : FieldLaw (Within 1024) term_words (λ ws. term_at 1024 ws) = term_law 1024 in
    record {
      ok = λ ws rest a p e.
          let got = it.ok ws rest a p e in
          (record { numbers = got.0.numbers; flat = got.0.flat }, got.1);
      again = λ a rest h. it.again a rest (record { numbers = h.numbers; flat = h.flat });
      plain = λ a h. term_plain a h.numbers;
    }
