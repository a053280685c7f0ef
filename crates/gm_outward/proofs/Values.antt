-- What a filter is worth is what the chosen conditions and the others are worth together.
use Rattle.std.proofs.Common.{◌≡◌, ℕ, Bool, true, false, cond, refl, sym, ap, subst, ◌∙◌, Option, Some, None, Result, Ok, Err}
use Rattle.std.specs.Prelude.{◌&&◌}
use Rattle.gm_value.specs.declared.values.Value.{Value}
use Rattle.gm_value.specs.declared.values.Value.TheVariants.{I32, I64, Flag, At}
use Rattle.gm_value.specs.Operations.{is_true}
use Rattle.gm_ast.specs.Program.{Expr, Const, Var, Property, EdgeProperty, Degree, NodeCount, EdgeCount, Live, Unary, Binary, Both, Either, Choose, Folded, always}
use Rattle.gm_semantics.specs.declared.faults.Fault.{Fault}
use Rattle.gm_semantics.specs.Faults.{then_with, unless_fault, first}
use Rattle.gm_semantics.specs.Expressions.{View, Answer, Evaluated, settled, plain, both, evaluated, value}
use Rattle.gm_forms.specs.Order.{cannot_fail}
use Rattle.gm_flip.specs.Flipped.{is_flag, is_always}
use Rattle.gm_flip.proofs.Basics.{none}
use Rattle.gm_outward.specs.Gathered.{together}
use Rattle.gm_outward.specs.Outward.{chosen, left}
use Rattle.gm_outward.proofs.Parts.{Alone, by-parts}

-- whether an answer passes
abbrev pub Passing : Type 0
Passing = Result Bool Fault

abbrev pub passed : Answer → Passing
passed a = then_with a (λ v. Ok (is_true v))

-- one condition, and another where that passes
abbrev pub also : Passing → Passing → Passing
also (Ok true) b = b
also (Ok false) b = Ok false
also (Err f) b = Err f

also-true : (a : Passing) → a ≡ also a (Ok true)
also-true (Ok true) = refl
also-true (Ok false) = refl
also-true (Err f) = refl

-- what both of two expressions pass
both-passed : (x y : Evaluated) → y.hoisted ≡ None → passed (settled (both x y)) ≡ also (passed (settled x)) (passed (settled y))
both-passed x y h = by x.hoisted x.rest y.hoisted h
  where
    way : (b : Bool) (v : Value) → is_true v ≡ b → passed (cond b y.rest (Ok v)) ≡ also (Ok b) (passed y.rest)
    way true v e = refl
    way false v e = ap Ok e

    rests : (r : Answer) → passed (then_with r (λ v. cond (is_true v) y.rest (Ok v))) ≡ also (passed r) (passed y.rest)
    rests (Ok v) = way (is_true v) v refl
    rests (Err f) = refl

    by : (o : Option Fault) (r : Answer) (p : Option Fault) → p ≡ None →
        passed (unless_fault (first o p) (then_with r (λ v. cond (is_true v) y.rest (Ok v)))) ≡ also (passed (unless_fault o r)) (passed (unless_fault p y.rest))
    by (Some f) r p e = refl
    by None r None e = rests r
    by None r (Some g) e = cc

-- a condition that passes everything
always-is : (a : Expr) → is_always a ≡ true → a ≡ always
always-is (Const (Flag true)) h = refl
always-is (Const (Flag false)) h = none h
always-is (Const (I32 v)) h = none h
always-is (Const (I64 v)) h = none h
always-is (Const (At v)) h = none h
always-is (Var x at) h = none h
always-is (Property x p at) h = none h
always-is (EdgeProperty x p at) h = none h
always-is (Degree d x at) h = none h
always-is NodeCount h = none h
always-is EdgeCount h = none h
always-is (Live x at) h = none h
always-is (Unary op at e) h = none h
always-is (Binary op at a b) h = none h
always-is (Both a b) h = none h
always-is (Either a b) h = none h
always-is (Choose c a b) h = none h
always-is (Folded f hd c e) h = none h

module _ (w : View) where
  abbrev pub P : Expr → Passing
  P e = passed (value e w)

  abbrev Plain : Expr → Type 0
  Plain e = (evaluated e w).hoisted ≡ None

  pub both-is : (a b : Expr) → Plain b → P (Both a b) ≡ also (P a) (P b)
  both-is a b h = both-passed (evaluated a w) (evaluated b w) h

  pub together-is : (a b : Expr) → Plain b → P (together a b) ≡ also (P a) (P b)
  together-is a b h = by (is_always a) (is_always b) refl refl
    where
      by : (c d : Bool) → is_always a ≡ c → is_always b ≡ d → P (cond c b (cond d a (Both a b))) ≡ also (P a) (P b)
      by true d e f = sym (ap (λ z. also (P z) (P b)) (always-is a e))
      by false true e f = also-true (P a) ∙ sym (ap (λ z. also (P a) (P z)) (always-is b f))
      by false false e f = both-is a b h

  abbrev pub Known : Expr → Type 0
  Known e = (v : Bool) × (P e ≡ Ok v)

  -- the filter is what both parts of it are
  pub record Parted (test : Expr → Bool) (e : Expr) : Type 0 where
    pub known : Known (chosen test e)
    pub chosen_plain : Plain (chosen test e)
    pub left_plain : Plain (left test e)
    pub both : P e ≡ also (P (chosen test e)) (P (left test e))

  -- a filter of parts of which some facts are known: none hoists a fault, those that pass the test have values, and so has each that cannot fault
  module _ (test : Expr → Bool) (F : Expr → Type 0) (halves : (a b : Expr) → F (Both a b) → F a × F b) (plain-of : (e : Expr) → F e → Plain e)
      (safe-of : (e : Expr) → F e → cannot_fail e ≡ true → Known e) (outer-of : (e : Expr) → F e → test e ≡ true → Known e) where
    plain-together : (a b : Expr) → Plain a → Plain b → Plain (together a b)
    plain-together a b p q = by (is_always a) (is_always b)
      where
        by : (c d : Bool) → Plain (cond c b (cond d a (Both a b)))
        by true d = q
        by false true = p
        by false false = ap (λ o. first o (evaluated b w).hoisted) p ∙ q

    two-known : (a b : Expr) → Plain b → Known a → Known b → Known (together a b)
    two-known a b p x y = by x.0 y.0 x.1 y.1
      where
        by : (c d : Bool) → P a ≡ Ok c → P b ≡ Ok d → Known (together a b)
        by true d e f = (d, together-is a b p ∙ ap (λ z. also z (P b)) e ∙ f)
        by false d e f = (false, together-is a b p ∙ ap (λ z. also z (P b)) e)

    mixed : (x y z : Bool) (a b : Passing) → also (Ok x) a ≡ Ok z → also (also (Ok x) a) (also (Ok y) b) ≡ also (also (Ok x) (Ok y)) (also a b)
    mixed false y z a b e = refl
    mixed true true z a b e = refl
    mixed true false true a b e = ap (λ p. also p (Ok false)) e
    mixed true false false a b e = ap (λ p. also p (Ok false)) e

    opened : (x : Bool) (a b : Passing) → also (also (Ok x) a) b ≡ also (also (Ok x) (Ok true)) (also a b)
    opened true a b = refl
    opened false a b = refl

    -- what is made of two parts, where the first cannot fault, and where it may
    record Made (a b : Expr) (c : Bool) : Type 0 where
      known : Known (together (chosen test a) (cond c (chosen test b) always))
      chosen_plain : Plain (together (chosen test a) (cond c (chosen test b) always))
      left_plain : Plain (together (left test a) (cond c (left test b) b))
      both : P (Both a b) ≡ also (P (together (chosen test a) (cond c (chosen test b) always))) (P (together (left test a) (cond c (left test b) b)))

    made : (a b : Expr) → Parted test a → Parted test b → Plain b → (c : Bool) → (c ≡ true → Known a) → Made a b c
    made a b p q r true k =
        let ca = chosen test a in
        let cb = chosen test b in
        let la = left test a in
        let lb = left test b in
        record {
          known = two-known ca cb q.chosen_plain p.known q.known;
          chosen_plain = plain-together ca cb p.chosen_plain q.chosen_plain;
          left_plain = plain-together la lb p.left_plain q.left_plain;
          both =
              both-is a b r ∙ ap (λ z. also z (P b)) p.both ∙ ap (also (also (P ca) (P la))) q.both
              ∙ ap (λ z. also (also z (P la)) (also (P cb) (P lb))) p.known.1 ∙ ap (λ z. also (also (Ok p.known.0) (P la)) (also z (P lb))) q.known.1
              ∙ mixed p.known.0 q.known.0 (k refl).0 (P la) (P lb) (sym (ap (λ z. also z (P la)) p.known.1) ∙ sym p.both ∙ (k refl).1)
              ∙ sym (ap (λ z. also (also (Ok p.known.0) z) (also (P la) (P lb))) q.known.1) ∙ sym (ap (λ z. also (also z (P cb)) (also (P la) (P lb))) p.known.1)
              ∙ sym (ap (λ z. also z (also (P la) (P lb))) (together-is ca cb q.chosen_plain)) ∙ sym (ap (also (P (together ca cb))) (together-is la lb q.left_plain));
        }
    made a b p q r false k =
        let ca = chosen test a in
        let la = left test a in
        record {
          known = two-known ca always refl p.known (true, refl);
          chosen_plain = plain-together ca always p.chosen_plain refl;
          left_plain = plain-together la b p.left_plain r;
          both =
              both-is a b r ∙ ap (λ z. also z (P b)) p.both
              ∙ ap (λ z. also (also z (P la)) (P b)) p.known.1
              ∙ opened p.known.0 (P la) (P b)
              ∙ sym (ap (λ z. also (also z (Ok true)) (also (P la) (P b))) p.known.1)
              ∙ sym (ap (λ z. also z (also (P la) (P b))) (together-is ca always refl)) ∙ sym (ap (also (P (together ca always))) (together-is la b r));
        }

    two : (a b : Expr) → (F a → Parted test a) → (F b → Parted test b) → F (Both a b) → Parted test (Both a b)
    two a b f g h =
        let o = halves a b h in
        let p = f o.0 in
        let q = g o.1 in
        let m = made a b p q (plain-of b o.1) (cannot_fail a) (safe-of a o.0) in
        record { known = m.known; chosen_plain = m.chosen_plain; left_plain = m.left_plain; both = m.both }

    one : (e : Expr) → Alone test e → F e → Parted test e
    one e alone f = by (test e) refl
      where
        by : (b : Bool) → test e ≡ b → Parted test e
        by true t =
            let c : chosen test e ≡ e = alone.chosen_is ∙ ap (λ b. cond b e always) t in
            let l : left test e ≡ always = alone.left_is ∙ ap (λ b. cond b always e) t in
            record {
              known = subst Known (sym c) (outer-of e f t);
              chosen_plain = subst Plain (sym c) (plain-of e f);
              left_plain = subst Plain (sym l) refl;
              both = also-true (P e) ∙ sym (ap (λ z. also (P z) (Ok true)) c) ∙ sym (ap (λ z. also (P (chosen test e)) (P z)) l);
            }
        by false t =
            let c : chosen test e ≡ always = alone.chosen_is ∙ ap (λ b. cond b e always) t in
            let l : left test e ≡ e = alone.left_is ∙ ap (λ b. cond b always e) t in
            record {
              known = subst Known (sym c) (true, refl);
              chosen_plain = subst Plain (sym c) refl;
              left_plain = subst Plain (sym l) (plain-of e f);
              both = sym (ap (λ z. also (P z) (P e)) c) ∙ sym (ap (λ z. also (P (chosen test e)) (P z)) l);
            }

    pub parted : (e : Expr) → F e → Parted test e
    parted = by-parts test (λ e. F e → Parted test e) two one
