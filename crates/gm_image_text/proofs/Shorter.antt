-- Reading takes words: what is left behind an expression or a type is shorter.
use Rattle.std.proofs.Common.{◌≡◌, ◌<◌, ◌≤◌, ℕ, zero, suc, true, List, [], ◌∷◌, ◌++◌, length, refl, ap, sym, ◌∙◌, arith}
use Rattle.std.specs.Prelude.{Option, Some, None, is_some}
use Rattle.std.specs.Borrow.{Bor}
use Rattle.gm_image_text.specs.declared.faults.LineStop.{LineStop}
use Rattle.gm_image_text.specs.declared.faults.LineStop.TheVariants as of_line
use Rattle.gm_image_text.specs.Giving.{Refuses}
use Rattle.gm_image_text.proofs.Spelled.{some_words}
use Rattle.gm_value.specs.declared.values.VType.{VType}
use Rattle.gm_image.specs.Term as T
use Rattle.gm_image.specs.Term.{Term}
use Rattle.gm_image_text.specs.declared.heads.Head.{Head}
use Rattle.gm_image_text.specs.declared.heads.Head.TheVariants as head
use Rattle.gm_image_text.specs.Lines.{Word}
use Rattle.gm_image_text.specs.Numbers.{index_in, value_in}
use Rattle.gm_image_text.specs.Tables as tables
use Rattle.gm_image_text.specs.Tables.{row_in}
use Rattle.gm_image_text.specs.Reading.{◌>>=◌, Reads, word_at, index_at, type_at, constant_at, leaf_term, indexed_term, one_term, placed_one_term, two_term, placed_two_term, choice_term, behind_head, term_at, expression_at, then_at, target_of, target_at, types_in, words_left}
use Rattle.gm_image.specs.Program.{Target}
use Rattle.gm_image_text.proofs.LineBinds.{some_is, bind_some, map_some}
use Rattle.gm_image_text.proofs.ToTheEnd.{ahead, ahead_none, ahead_more, none_behind}

pub word_shorter : {X : Type 0} (meaning : Word → Option X) (ws : List Word) (x : X × List Word) → word_at meaning ws ≡ Some x → length ws ≡ suc (length x.1)
word_shorter meaning [] x e = cc
word_shorter meaning (w ∷ ws) x e =
    let it = bind_some (meaning w) (λ y. Some (y, ws)) x e in
    ap (λ v. suc (length v.1)) (some_is (it.0, ws) x it.2)

-- what is left is no longer
abbrev Shrinks : {X : Type 0} → Reads X → Type 0
Shrinks {X} read = (ws : List Word) (x : X × List Word) → read ws ≡ Some x → length x.1 ≤ length ws

end_of : {X Y : Type 0} (make : X → Y) (a : X × List Word) (x : Y × List Word) → ◌≡◌ {A = Option (Y × List Word)} (Some (make a.0, a.1)) (Some x) → length a.1 ≡ length x.1
end_of make a x e = ap (λ v. length v.1) (some_is (make a.0, a.1) x e)

constant_shrinks : Shrinks constant_at
constant_shrinks ws x e =
    let t = bind_some (type_at ws) (λ t. word_at (value_in t.0) t.1) x e in
    let one : length ws ≡ suc (length t.0.1) = word_shorter (row_in tables.types) ws t.0 t.1 in
    let two : length t.0.1 ≡ suc (length x.1) = word_shorter (value_in t.0.0) t.0.1 x t.2 in
    omega (arith, one, two)

module _ (read : Reads Term) (shrinks : Shrinks read) where
  behind_shrinks : (h : Head) → Shrinks (behind_head read h)
  behind_shrinks head.Constant ws x e =
      let v = bind_some (constant_at ws) (λ v. Some (T.Const v.0, v.1)) x e in
      omega (arith, constant_shrinks ws v.0 v.1, end_of (λ u. T.Const u) v.0 x v.2)
  behind_shrinks (head.Leaf l) ws x e = let same : length ws ≡ length x.1 = ap (λ v. length v.1) (some_is (leaf_term l, ws) x e) in omega (arith, same)
  behind_shrinks (head.Indexed k) ws x e =
      let i = bind_some (index_at ws) (λ i. Some (indexed_term k i.0, i.1)) x e in
      omega (arith, word_shorter index_in ws i.0 i.1, end_of (indexed_term k) i.0 x i.2)
  behind_shrinks (head.One op) ws x e =
      let a = bind_some (read ws) (λ a. Some (one_term op a.0, a.1)) x e in
      omega (arith, shrinks ws a.0 a.1, end_of (one_term op) a.0 x a.2)
  behind_shrinks (head.PlacedOne op) ws x e =
      let i = bind_some (index_at ws) (λ i. read i.1 >>= λ a. Some (placed_one_term op i.0 a.0, a.1)) x e in
      let a = bind_some (read i.0.1) (λ a. Some (placed_one_term op i.0.0 a.0, a.1)) x i.2 in
      omega (arith, word_shorter index_in ws i.0 i.1, shrinks i.0.1 a.0 a.1, end_of (placed_one_term op i.0.0) a.0 x a.2)
  behind_shrinks (head.Two op) ws x e =
      let a = bind_some (read ws) (λ a. read a.1 >>= λ b. Some (two_term op a.0 b.0, b.1)) x e in
      let b = bind_some (read a.0.1) (λ b. Some (two_term op a.0.0 b.0, b.1)) x a.2 in
      omega (arith, shrinks ws a.0 a.1, shrinks a.0.1 b.0 b.1, end_of (two_term op a.0.0) b.0 x b.2)
  behind_shrinks (head.PlacedTwo op) ws x e =
      let i = bind_some (index_at ws) (λ i. read i.1 >>= λ a. read a.1 >>= λ b. Some (placed_two_term op i.0 a.0 b.0, b.1)) x e in
      let a = bind_some (read i.0.1) (λ a. read a.1 >>= λ b. Some (placed_two_term op i.0.0 a.0 b.0, b.1)) x i.2 in
      let b = bind_some (read a.0.1) (λ b. Some (placed_two_term op i.0.0 a.0.0 b.0, b.1)) x a.2 in
      omega (arith, word_shorter index_in ws i.0 i.1, shrinks i.0.1 a.0 a.1, shrinks a.0.1 b.0 b.1, end_of (placed_two_term op i.0.0 a.0.0) b.0 x b.2)
  behind_shrinks head.Choice ws x e =
      let c = bind_some (read ws) (λ c. read c.1 >>= λ a. read a.1 >>= λ b. Some (choice_term c.0 a.0 b.0, b.1)) x e in
      let a = bind_some (read c.0.1) (λ a. read a.1 >>= λ b. Some (choice_term c.0.0 a.0 b.0, b.1)) x c.2 in
      let b = bind_some (read a.0.1) (λ b. Some (choice_term c.0.0 a.0.0 b.0, b.1)) x a.2 in
      omega (arith, shrinks ws c.0 c.1, shrinks c.0.1 a.0 a.1, shrinks a.0.1 b.0 b.1, end_of (choice_term c.0.0 a.0.0) b.0 x b.2)

term_shrinks : (n : ℕ) → Shrinks (λ ws. term_at n ws)
term_shrinks zero ws x e = cc
term_shrinks (suc n) ws x e =
    let h = bind_some (word_at (row_in tables.heads) ws) (λ h. behind_head (λ vs. term_at n vs) h.0 h.1) x e in
    omega (arith, word_shorter (row_in tables.heads) ws h.0 h.1, behind_shrinks (λ vs. term_at n vs) (term_shrinks n) h.0.0 h.0.1 x h.2)

-- an expression takes a word
pub expression_shorter : (ws : List Word) (x : Term × List Word) → expression_at ws ≡ Some x → length x.1 < length ws
unfolding expression_at
expression_shorter ws x e = shorter 1023 ws x e where
  shorter : (n : ℕ) (ws : List Word) (x : Term × List Word) → term_at (suc n) ws ≡ Some x → length x.1 < length ws
  shorter n ws x e =
      let h = bind_some (word_at (row_in tables.heads) ws) (λ h. behind_head (λ vs. term_at n vs) h.0 h.1) x e in
      omega (arith, word_shorter (row_in tables.heads) ws h.0 h.1, behind_shrinks (λ vs. term_at n vs) (term_shrinks n) h.0.0 h.0.1 x h.2)

-- a slot and its value take words
pub target_shorter : (ws : List Word) (x : Target × List Word) → target_at ws ≡ Some x → length x.1 < length ws
target_shorter ws x e =
    let it = map_some (then_at index_at expression_at ws) (λ z. (target_of z.0, z.1)) x e in
    let i = bind_some (index_at ws) (λ i. expression_at i.1 >>= λ a. Some ((i.0, a.0), a.1)) it.0 it.1 in
    let a = bind_some (expression_at i.0.1) (λ a. Some ((i.0.0, a.0), a.1)) it.0 i.2 in
    let last : length a.0.1 ≡ length it.0.1 = ap (λ v. length v.1) (some_is ((i.0.0, a.0.0), a.0.1) it.0 a.2) in
    let same : length it.0.1 ≡ length x.1 = ap (λ v. length v.1) it.2 in
    omega (arith, word_shorter index_in ws i.0 i.1, expression_shorter i.0.1 a.0 a.1, last, same)

-- types to the end of the line
pub record TypesGo (values : List VType) (left all : List Word) : Type 0 where
  pub same : ahead values (types_in left) ≡ types_in all

pub types_none : (all : List Word) → TypesGo [] all all
types_none all = record { same = ahead_none (types_in all) }

types_step : (ws : List Word) (x : VType × List Word) → word_at (row_in tables.types) ws ≡ Some x → types_in ws ≡ (types_in x.1 >>= λ more. Some (x.0 ∷ more))
types_step [] x e = cc
types_step (w ∷ ws) x e =
    let it = bind_some (row_in tables.types w) (λ t. Some (t, ws)) x e in
    ap (λ o. o >>= λ t. types_in ws >>= λ more. Some (t ∷ more)) it.1 ∙ ap (λ v. types_in v.1 >>= λ more. Some (v.0 ∷ more)) (some_is (it.0, ws) x it.2)

pub types_more : (values new : List VType) (left all : List Word) (x : VType × List Word) → TypesGo values left all → word_at (row_in tables.types) left ≡ Some x → new ≡ values ++ x.0 ∷ [] → TypesGo new x.1 all
types_more values new left all x h e push = record { same = ap (λ v. ahead v (types_in x.1)) push ∙ sym (ahead_more values x.0 (types_in x.1)) ∙ ap (ahead values) (sym (types_step left x e)) ∙ h.same }

types_stop : (ws : List Word) → 0 < length ws → word_at (row_in tables.types) ws ≡ None → types_in ws ≡ None
types_stop [] h e = absurd (omega (arith, h))
types_stop (w ∷ ws) h e = by_meaning (row_in tables.types w) e where
  by_meaning : (o : Option VType) → ◌>>=◌ {A = VType} {B = VType × List Word} o (λ t. Some (t, ws)) ≡ None → ◌>>=◌ {A = VType} {B = List VType} o (λ t. types_in ws >>= λ more. Some (t ∷ more)) ≡ None
  by_meaning None e = refl
  by_meaning (Some t) e = cc

pub types_bad : (values : List VType) (left all : List Word) → 0 < length left → TypesGo values left all → word_at (row_in tables.types) left ≡ None → types_in all ≡ None
types_bad values left all some h e = sym h.same ∙ ap (ahead values) (types_stop left some e)

pub types_end : (values : List VType) (left all : List Word) → left ≡ [] → TypesGo values left all → types_in all ≡ Some values
types_end values left all none h = sym h.same ∙ ap (λ v. ahead values (types_in v)) none ∙ ap (λ v. Some v) (none_behind values)

-- one more level
pub term_step : (n below : ℕ) (ws mid : List Word) (h : Head) → n ≡ suc below → word_at (row_in tables.heads) ws ≡ Some (h, mid) → term_at n ws ≡ behind_head (λ vs. term_at below vs) h mid
term_step n below ws mid h is e = ap (λ k. term_at k ws) is ∙ ap (λ o. o >>= λ h. behind_head (λ vs. term_at below vs) h.0 h.1) e

-- where a line is left there is a word
pub left_some : (o : Option (Bor (List ℕ))) → is_some o ≡ true → 0 < length (words_left o)
left_some None e = cc
left_some (Some text) e = some_words text.now

pub types_refuse : (values : List VType) (left all : List Word) (stop : LineStop) → 0 < length left → TypesGo values left all → Refuses stop (word_at (row_in tables.types) left) → Refuses stop (types_in all)
types_refuse values left all of_line.Bad some h e = types_bad values left all some h e
types_refuse values left all of_line.NoMemory some h e = tt
