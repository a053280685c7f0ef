-- The grammar and the one that the parser follows derive the same texts, with the same marks.
use Rattle.std.proofs.Common.{◌≡◌, ℕ, Bool, true, List, [], ◌∷◌, ◌++◌, ◌⊎◌, inl, inr}
use Rattle.gm_token.specs.declared.words.Word.{Word}
use Rattle.gm_parse.specs.declared.around.Around.{Around}
use Rattle.gm_parse.specs.Grammar.{Part, Program, Procedure, Statement, Expression, Unary, Disjunction, Conjunction, Equality, Relation, Sum, Product, Primary, Nest, Rule, Token, Of, ◌▸◌, ◌∣◌, Maybe, Many, Attached, Within, the, a_choice, product_sign, sum_sign, relation_sign, equality_sign, rule}
use Rattle.gm_parse.specs.Factored.{factored, rest, in_parentheses, simple}
use Rattle.gm_token.specs.declared.words.Word.TheVariants as words
use Rattle.gm_parse.specs.Derivation.{enter, Pending, Nothing, Next, Derives, Begins, BeginsProgram, IsProgram, IsSyntaxPlace, IsTooDeepAt, NoneTooDeepBefore, IsFirstSyntax, IsFirstTooDeep, IsShallowProgram}

-- what is pending is p, q or r beneath the same rules
data Beneath (p q r : Pending) : Pending → Pending → Pending → Type 0 where
  here : Beneath p q r p q r
  under : {x : Rule} {a : Around} {u v w : Pending} → Beneath p q r u v w → Beneath p q r (Next x a u) (Next x a v) (Next x a w)

module _ (g : Part → Rule) where
  -- what p derives is derived by q or by r
  abbrev Splits : Pending → Pending → Pending → Type 0
  Splits p q r = (i : ℕ) (ws : List Word) (ms : List Bool) → Derives g i p ws ms → Derives g i q ws ms ⊎ Derives g i r ws ms

  abbrev Either : Pending → Pending → ℕ → List Word → List Bool → Type 0
  Either q r i ws ms = Derives g i q ws ms ⊎ Derives g i r ws ms

  each : {q r q' r' : Pending} {i j : ℕ} {ws us : List Word} {ms ns : List Bool} → (Derives g i q ws ms → Derives g j q' us ns) → (Derives g i r ws ms → Derives g j r' us ns) → Either q r i ws ms → Either q' r' j us ns
  each f h (inl d) = inl (f d)
  each f h (inr d) = inr (h d)

  -- so it is beneath other rules
  beneath_either : {p q r u v w : Pending} {i : ℕ} {ws : List Word} {ms : List Bool} → Beneath p q r u v w → Splits p q r → Derives g i u ws ms → Either v w i ws ms
  beneath_either here f d = f _ _ _ d
  beneath_either (under b) f (Derives.token e d) = each (λ x. Derives.token e x) (λ x. Derives.token e x) (beneath_either b f d)
  beneath_either (under b) f (Derives.part d) = each (λ x. Derives.part x) (λ x. Derives.part x) (beneath_either (under b) f d)
  beneath_either (under b) f (Derives.both d) = each (λ x. Derives.both x) (λ x. Derives.both x) (beneath_either (under (under b)) f d)
  beneath_either (under b) f (Derives.left d) = each (λ x. Derives.left x) (λ x. Derives.left x) (beneath_either (under b) f d)
  beneath_either (under b) f (Derives.right d) = each (λ x. Derives.right x) (λ x. Derives.right x) (beneath_either (under b) f d)
  beneath_either (under b) f (Derives.absent d) = each (λ x. Derives.absent x) (λ x. Derives.absent x) (beneath_either b f d)
  beneath_either (under b) f (Derives.present d) = each (λ x. Derives.present x) (λ x. Derives.present x) (beneath_either (under b) f d)
  beneath_either (under b) f (Derives.stop d) = each (λ x. Derives.stop x) (λ x. Derives.stop x) (beneath_either b f d)
  beneath_either (under b) f (Derives.more d) = each (λ x. Derives.more x) (λ x. Derives.more x) (beneath_either (under (under b)) f d)
  beneath_either (under b) f (Derives.detached o d) = each (λ x. Derives.detached o x) (λ x. Derives.detached o x) (beneath_either b f d)
  beneath_either (under b) f (Derives.attached d) = each (λ x. Derives.attached x) (λ x. Derives.attached x) (beneath_either (under (under b)) f d)
  beneath_either (under b) f (Derives.within d) = each (λ x. Derives.within x) (λ x. Derives.within x) (beneath_either (under b) f d)

  beneath : {p q u v : Pending} {i : ℕ} {ws : List Word} {ms : List Bool} → Beneath p q q u v v → ((i : ℕ) (ws : List Word) (ms : List Bool) → Derives g i p ws ms → Derives g i q ws ms) → Derives g i u ws ms → Derives g i v ws ms
  beneath {v} {i} {ws} {ms} b f d = elim (beneath_either b (λ i ws ms x. inl (f i ws ms x)) d) as (λ _. Derives g i v ws ms) [ inl x ↦ x | inr x ↦ x ]

  of_part : {i : ℕ} {q : Part} {a : Around} {p : Pending} {ws : List Word} {ms : List Bool} → Derives g i (Next (Of q) a p) ws ms → Derives g i (Next (g q) a p) ws ms
  of_part (Derives.part d) = d

  of_both : {i : ℕ} {x y : Rule} {a : Around} {p : Pending} {ws : List Word} {ms : List Bool} → Derives g i (Next (x ▸ y) a p) ws ms → Derives g i (Next x a (Next y a p)) ws ms
  of_both (Derives.both d) = d

  of_choice : {i : ℕ} {x y : Rule} {a : Around} {p : Pending} {ws : List Word} {ms : List Bool} → Derives g i (Next (x ∣ y) a p) ws ms → Either (Next x a p) (Next y a p) i ws ms
  of_choice (Derives.left d) = inl d
  of_choice (Derives.right d) = inr d

  -- ---- statements that begin with a target

  module _ (b s c t v w r n z : Rule) {i : ℕ} {a : Around} {p : Pending} {ws : List Word} {ms : List Bool} where
    gathered : Derives g i (Next (b ∣ s ∣ c ∣ t ▸ v ∣ t ▸ w ∣ t ▸ r ∣ t ▸ n ∣ z) a p) ws ms → Derives g i (Next (b ∣ s ∣ c ∣ t ▸ (v ∣ w ∣ r ∣ n) ∣ z) a p) ws ms
    gathered (Derives.left d) = Derives.left d
    gathered (Derives.right (Derives.left d)) = Derives.right (Derives.left d)
    gathered (Derives.right (Derives.right (Derives.left d))) = Derives.right (Derives.right (Derives.left d))
    gathered (Derives.right (Derives.right (Derives.right (Derives.left (Derives.both d))))) = Derives.right (Derives.right (Derives.right (Derives.left (Derives.both (beneath (under here) (λ i ws ms x. Derives.left x) d)))))
    gathered (Derives.right (Derives.right (Derives.right (Derives.right (Derives.left (Derives.both d)))))) = Derives.right (Derives.right (Derives.right (Derives.left (Derives.both (beneath (under here) (λ i ws ms x. Derives.right (Derives.left x)) d)))))
    gathered (Derives.right (Derives.right (Derives.right (Derives.right (Derives.right (Derives.left (Derives.both d))))))) = Derives.right (Derives.right (Derives.right (Derives.left (Derives.both (beneath (under here) (λ i ws ms x. Derives.right (Derives.right (Derives.left x))) d)))))
    gathered (Derives.right (Derives.right (Derives.right (Derives.right (Derives.right (Derives.right (Derives.left (Derives.both d)))))))) = Derives.right (Derives.right (Derives.right (Derives.left (Derives.both (beneath (under here) (λ i ws ms x. Derives.right (Derives.right (Derives.right x))) d)))))
    gathered (Derives.right (Derives.right (Derives.right (Derives.right (Derives.right (Derives.right (Derives.right d))))))) = Derives.right (Derives.right (Derives.right (Derives.right d)))

    parted : Derives g i (Next (b ∣ s ∣ c ∣ t ▸ (v ∣ w ∣ r ∣ n) ∣ z) a p) ws ms → Derives g i (Next (b ∣ s ∣ c ∣ t ▸ v ∣ t ▸ w ∣ t ▸ r ∣ t ▸ n ∣ z) a p) ws ms
    parted (Derives.left d) = Derives.left d
    parted (Derives.right (Derives.left d)) = Derives.right (Derives.left d)
    parted (Derives.right (Derives.right (Derives.left d))) = Derives.right (Derives.right (Derives.left d))
    parted (Derives.right (Derives.right (Derives.right (Derives.left (Derives.both d))))) = Derives.right (Derives.right (Derives.right (first (beneath_either (under here) (λ i ws ms x. of_choice x) d))))
      where
        third : Either (Next t a (Next r a p)) (Next t a (Next n a p)) i ws ms → Derives g i (Next (t ▸ r ∣ t ▸ n ∣ z) a p) ws ms
        third (inl d) = Derives.left (Derives.both d)
        third (inr d) = Derives.right (Derives.left (Derives.both d))

        second : Either (Next t a (Next w a p)) (Next t a (Next (r ∣ n) a p)) i ws ms → Derives g i (Next (t ▸ w ∣ t ▸ r ∣ t ▸ n ∣ z) a p) ws ms
        second (inl d) = Derives.left (Derives.both d)
        second (inr d) = Derives.right (third (beneath_either (under here) (λ i ws ms x. of_choice x) d))

        first : Either (Next t a (Next v a p)) (Next t a (Next (w ∣ r ∣ n) a p)) i ws ms → Derives g i (Next (t ▸ v ∣ t ▸ w ∣ t ▸ r ∣ t ▸ n ∣ z) a p) ws ms
        first (inl d) = Derives.left (Derives.both d)
        first (inr d) = Derives.right (second (beneath_either (under here) (λ i ws ms x. of_choice x) d))
    parted (Derives.right (Derives.right (Derives.right (Derives.right d)))) = Derives.right (Derives.right (Derives.right (Derives.right (Derives.right (Derives.right (Derives.right d))))))

-- ---- an operand

primary_forth : {i : ℕ} {a : Around} {p : Pending} {ws : List Word} {ms : List Bool} → Derives factored i (Next (rule Primary) a p) ws ms → Derives factored i (Next (in_parentheses ∣ simple) a p) ws ms
unfolding rule factored
primary_forth (Derives.left d) = Derives.right (Derives.right (Derives.left d))
primary_forth (Derives.right (Derives.left d)) = Derives.right (Derives.right (Derives.right (Derives.left d)))
primary_forth (Derives.right (Derives.right (Derives.left d))) = Derives.right (Derives.right (Derives.right (Derives.right (Derives.left d))))
primary_forth (Derives.right (Derives.right (Derives.right (Derives.left d)))) = Derives.right (Derives.right (Derives.right (Derives.right (Derives.right (Derives.left d)))))
primary_forth (Derives.right (Derives.right (Derives.right (Derives.right (Derives.left d))))) = Derives.right (Derives.right (Derives.right (Derives.right (Derives.right (Derives.right (Derives.left d))))))
primary_forth (Derives.right (Derives.right (Derives.right (Derives.right (Derives.right (Derives.left d)))))) = Derives.right (Derives.left d)
primary_forth (Derives.right (Derives.right (Derives.right (Derives.right (Derives.right (Derives.right (Derives.left d))))))) = Derives.right (Derives.right (Derives.right (Derives.right (Derives.right (Derives.right (Derives.right d))))))
primary_forth (Derives.right (Derives.right (Derives.right (Derives.right (Derives.right (Derives.right (Derives.right (Derives.both (Derives.token e d))))))))) = Derives.left (Derives.both (Derives.token e (Derives.right d)))

unary_forth : {i : ℕ} {a : Around} {p : Pending} {ws : List Word} {ms : List Bool} → Derives factored i (Next (rule Unary) a p) ws ms → Derives factored i (Next (factored Unary) a p) ws ms
unfolding rule factored
unary_forth (Derives.left d) = Derives.left d
unary_forth (Derives.right (Derives.left d)) = Derives.right (Derives.left d)
unary_forth (Derives.right (Derives.right (Derives.left d))) = Derives.right (Derives.right (Derives.left d))
unary_forth (Derives.right (Derives.right (Derives.right (Derives.left (Derives.both (Derives.token e d)))))) = Derives.right (Derives.right (Derives.right (Derives.left (Derives.both (Derives.token e (Derives.left d))))))
unary_forth (Derives.right (Derives.right (Derives.right (Derives.right (Derives.part d))))) = Derives.right (Derives.right (Derives.right (primary_forth d)))

unary_back : {i : ℕ} {a : Around} {p : Pending} {ws : List Word} {ms : List Bool} → Derives rule i (Next (factored Unary) a p) ws ms → Derives rule i (Next (rule Unary) a p) ws ms
unfolding rule factored
unary_back (Derives.left d) = Derives.left d
unary_back (Derives.right (Derives.left d)) = Derives.right (Derives.left d)
unary_back (Derives.right (Derives.right (Derives.left d))) = Derives.right (Derives.right (Derives.left d))
unary_back (Derives.right (Derives.right (Derives.right (Derives.left (Derives.both (Derives.token e (Derives.left d))))))) = Derives.right (Derives.right (Derives.right (Derives.left (Derives.both (Derives.token e d)))))
unary_back (Derives.right (Derives.right (Derives.right (Derives.left (Derives.both (Derives.token e (Derives.right d))))))) = Derives.right (Derives.right (Derives.right (Derives.right (Derives.part (Derives.right (Derives.right (Derives.right (Derives.right (Derives.right (Derives.right (Derives.right (Derives.both (Derives.token e d)))))))))))))
unary_back (Derives.right (Derives.right (Derives.right (Derives.right (Derives.left d))))) = Derives.right (Derives.right (Derives.right (Derives.right (Derives.part (Derives.right (Derives.right (Derives.right (Derives.right (Derives.right (Derives.left d))))))))))
unary_back (Derives.right (Derives.right (Derives.right (Derives.right (Derives.right (Derives.left d)))))) = Derives.right (Derives.right (Derives.right (Derives.right (Derives.part (Derives.left d)))))
unary_back (Derives.right (Derives.right (Derives.right (Derives.right (Derives.right (Derives.right (Derives.left d))))))) = Derives.right (Derives.right (Derives.right (Derives.right (Derives.part (Derives.right (Derives.left d))))))
unary_back (Derives.right (Derives.right (Derives.right (Derives.right (Derives.right (Derives.right (Derives.right (Derives.left d)))))))) = Derives.right (Derives.right (Derives.right (Derives.right (Derives.part (Derives.right (Derives.right (Derives.left d)))))))
unary_back (Derives.right (Derives.right (Derives.right (Derives.right (Derives.right (Derives.right (Derives.right (Derives.right (Derives.left d))))))))) = Derives.right (Derives.right (Derives.right (Derives.right (Derives.part (Derives.right (Derives.right (Derives.right (Derives.left d))))))))
unary_back (Derives.right (Derives.right (Derives.right (Derives.right (Derives.right (Derives.right (Derives.right (Derives.right (Derives.right (Derives.left d)))))))))) = Derives.right (Derives.right (Derives.right (Derives.right (Derives.part (Derives.right (Derives.right (Derives.right (Derives.right (Derives.left d)))))))))
unary_back (Derives.right (Derives.right (Derives.right (Derives.right (Derives.right (Derives.right (Derives.right (Derives.right (Derives.right (Derives.right d)))))))))) = Derives.right (Derives.right (Derives.right (Derives.right (Derives.part (Derives.right (Derives.right (Derives.right (Derives.right (Derives.right (Derives.right (Derives.left d)))))))))))

-- ---- an expression

-- an operand and then all operators, one after the other
abbrev Flat : (Part → Rule) → ℕ → Around → Pending → List Word → List Bool → Type 0
Flat g i a p ws ms = Derives g i (Next (Of Unary) a (Next (Many (product_sign ▸ Of Unary)) a (Next (Many (sum_sign ▸ Of Product)) a (Next (Maybe (relation_sign ▸ Of Sum)) a (Next (Many (equality_sign ▸ Of Relation)) a (Next (Many (the words.AndAnd ▸ Of Equality)) a (Next (Many (the words.OrOr ▸ Of Conjunction)) a (Next (Maybe a_choice) a p)))))))) ws ms

module _ (g : Part → Rule) {i : ℕ} {a : Around} {p : Pending} {ws : List Word} {ms : List Bool} where
  flat_forth : Flat g i a p ws ms → Derives g i (Next (Of Unary) a (Next rest a p)) ws ms
  flat_forth d0 =
      beneath g (under here) (λ i ws ms x. Derives.both x) (beneath g (under (under here)) (λ i ws ms x. Derives.both x) (beneath g (under (under (under here))) (λ i ws ms x. Derives.both x) (beneath g (under (under (under (under here)))) (λ i ws ms x. Derives.both x) (beneath g (under (under (under (under (under here))))) (λ i ws ms x. Derives.both x) (beneath g (under (under (under (under (under (under here)))))) (λ i ws ms x. Derives.both x) (d0))))))

  flat_back : Derives g i (Next (Of Unary) a (Next rest a p)) ws ms → Flat g i a p ws ms
  flat_back d0 =
      beneath g (under (under (under (under (under (under here)))))) (λ i ws ms x. of_both g x) (beneath g (under (under (under (under (under here))))) (λ i ws ms x. of_both g x) (beneath g (under (under (under (under here)))) (λ i ws ms x. of_both g x) (beneath g (under (under (under here))) (λ i ws ms x. of_both g x) (beneath g (under (under here)) (λ i ws ms x. of_both g x) (beneath g (under here) (λ i ws ms x. of_both g x) (d0))))))

expression_forth : {i : ℕ} {a : Around} {p : Pending} {ws : List Word} {ms : List Bool} → Derives factored i (Next (rule Expression) a p) ws ms → Derives factored i (Next (factored Expression) a p) ws ms
unfolding rule factored
expression_forth (Derives.within d) =
    let d0 = of_both factored d in
    let d1 = of_both factored (of_part factored {q = Disjunction} d0) in
    let d2 = of_both factored (of_part factored {q = Conjunction} d1) in
    let d3 = of_both factored (of_part factored {q = Equality} d2) in
    let d4 = of_both factored (of_part factored {q = Relation} d3) in
    let d5 = of_both factored (of_part factored {q = Sum} d4) in
    let d6 = of_both factored (of_part factored {q = Product} d5) in
    Derives.within (Derives.both (flat_forth factored d6))

expression_back : {i : ℕ} {a : Around} {p : Pending} {ws : List Word} {ms : List Bool} → Derives rule i (Next (factored Expression) a p) ws ms → Derives rule i (Next (rule Expression) a p) ws ms
unfolding rule factored
expression_back (Derives.within d) =
    let d0 = flat_back rule (of_both rule d) in
    Derives.within (Derives.both (Derives.part (Derives.both (Derives.part (Derives.both (Derives.part (Derives.both (Derives.part (Derives.both (Derives.part (Derives.both (Derives.part (Derives.both (d0))))))))))))))

statement_forth : {i : ℕ} {a : Around} {p : Pending} {ws : List Word} {ms : List Bool} → Derives factored i (Next (rule Statement) a p) ws ms → Derives factored i (Next (factored Statement) a p) ws ms
unfolding rule factored
statement_forth (Derives.within d) = Derives.within (gathered factored _ _ _ _ _ _ _ _ _ d)

statement_back : {i : ℕ} {a : Around} {p : Pending} {ws : List Word} {ms : List Bool} → Derives rule i (Next (factored Statement) a p) ws ms → Derives rule i (Next (rule Statement) a p) ws ms
unfolding rule factored
statement_back (Derives.within d) = Derives.within (parted rule _ _ _ _ _ _ _ _ _ d)

-- ---- each part, and whole texts

part_forth : (q : Part) {i : ℕ} {a : Around} {p : Pending} {ws : List Word} {ms : List Bool} → Derives factored i (Next (rule q) a p) ws ms → Derives factored i (Next (Of q) a p) ws ms
unfolding rule factored
part_forth Statement d = Derives.part (statement_forth d)
part_forth Expression d = Derives.part (expression_forth d)
part_forth Unary d = Derives.part (unary_forth d)
part_forth _ d = Derives.part d

part_back : (q : Part) {i : ℕ} {a : Around} {p : Pending} {ws : List Word} {ms : List Bool} → Derives rule i (Next (factored q) a p) ws ms → Derives rule i (Next (Of q) a p) ws ms
unfolding rule factored
part_back Statement d = Derives.part (statement_back d)
part_back Expression d = Derives.part (expression_back d)
part_back Unary d = Derives.part (unary_back d)
part_back _ d = Derives.part d

pub derives_forth : {i : ℕ} {p : Pending} {ws : List Word} {ms : List Bool} → Derives rule i p ws ms → Derives factored i p ws ms
derives_forth Derives.end = Derives.end
derives_forth (Derives.token e d) = Derives.token e (derives_forth d)
derives_forth (Derives.part {q} d) = part_forth q (derives_forth d)
derives_forth (Derives.both d) = Derives.both (derives_forth d)
derives_forth (Derives.left d) = Derives.left (derives_forth d)
derives_forth (Derives.right d) = Derives.right (derives_forth d)
derives_forth (Derives.absent d) = Derives.absent (derives_forth d)
derives_forth (Derives.present d) = Derives.present (derives_forth d)
derives_forth (Derives.stop d) = Derives.stop (derives_forth d)
derives_forth (Derives.more d) = Derives.more (derives_forth d)
derives_forth (Derives.detached b d) = Derives.detached b (derives_forth d)
derives_forth (Derives.attached d) = Derives.attached (derives_forth d)
derives_forth (Derives.within d) = Derives.within (derives_forth d)

pub derives_back : {i : ℕ} {p : Pending} {ws : List Word} {ms : List Bool} → Derives factored i p ws ms → Derives rule i p ws ms
derives_back Derives.end = Derives.end
derives_back (Derives.token e d) = Derives.token e (derives_back d)
derives_back (Derives.part {q} d) = part_back q (derives_back d)
derives_back (Derives.both d) = Derives.both (derives_back d)
derives_back (Derives.left d) = Derives.left (derives_back d)
derives_back (Derives.right d) = Derives.right (derives_back d)
derives_back (Derives.absent d) = Derives.absent (derives_back d)
derives_back (Derives.present d) = Derives.present (derives_back d)
derives_back (Derives.stop d) = Derives.stop (derives_back d)
derives_back (Derives.more d) = Derives.more (derives_back d)
derives_back (Derives.detached b d) = Derives.detached b (derives_back d)
derives_back (Derives.attached d) = Derives.attached (derives_back d)
derives_back (Derives.within d) = Derives.within (derives_back d)

-- ---- the places are the same by both

begins_forth : {ws : List Word} {ms : List Bool} → Begins rule ws ms → Begins factored ws ms
begins_forth b = record { later = b.later; later_marks = b.later_marks; whole = derives_forth b.whole; marks_each = b.marks_each }

begins_back : {ws : List Word} {ms : List Bool} → Begins factored ws ms → Begins rule ws ms
begins_back b = record { later = b.later; later_marks = b.later_marks; whole = derives_back b.whole; marks_each = b.marks_each }

syntax_back : {ws : List Word} {k : ℕ} → IsSyntaxPlace factored ws k → IsSyntaxPlace rule ws k
syntax_back s = record {
  in_text = s.in_text;
  before = (s.before.0, begins_back s.before.1);
  not_beyond = λ lt b. s.not_beyond lt (b.0, begins_forth b.1);
  not_whole = λ e w. s.not_whole e (w.0, derives_forth w.1);
}

syntax_forth : {ws : List Word} {k : ℕ} → IsSyntaxPlace rule ws k → IsSyntaxPlace factored ws k
syntax_forth s = record {
  in_text = s.in_text;
  before = (s.before.0, begins_forth s.before.1);
  not_beyond = λ lt b. s.not_beyond lt (b.0, begins_back b.1);
  not_whole = λ e w. s.not_whole e (w.0, derives_back w.1);
}

deep_forth : (ws : List Word) (k : ℕ) → IsTooDeepAt rule ws k → IsTooDeepAt factored ws k
deep_forth ws k d = (d.0, (d.1.0, begins_forth d.1.1))

pub first_syntax : {ws : List Word} {k : ℕ} → IsFirstSyntax factored ws k → IsFirstSyntax rule ws k
first_syntax f = record { place = syntax_back f.place; first = λ j lt d. f.first j lt (deep_forth _ _ d) }

pub first_too_deep : {ws : List Word} {k : ℕ} → IsFirstTooDeep factored ws k → IsFirstTooDeep rule ws k
first_too_deep f = record {
  place = (f.place.0, (f.place.1.0, begins_back f.place.1.1));
  first = λ j lt d. f.first j lt (deep_forth _ _ d);
  no_syntax = λ j s. f.no_syntax j (syntax_forth s);
}

pub shallow_program : {ws : List Word} → IsShallowProgram factored ws → IsShallowProgram rule ws
shallow_program f = record {
  is_program = (f.is_program.0, derives_back f.is_program.1);
  shallow = λ k d. f.shallow k (deep_forth _ _ d);
}
