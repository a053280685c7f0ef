use Rattle.std.proofs.Common.{◌≡◌, ◌≤◌, ◌∙◌, refl, ap, sym, subst, List, ℕ}
use Rattle.std.specs.Prelude.{Some, None, Option, SomeIff, IsSome, option_map}
use Rattle.std.specs.List.{AllPass}
use Rattle.gm_token.specs.Limits.{greatest_number}
use Rattle.gm_token.specs.declared.words.Word.TheVariants.{Number}
use Rattle.gm_token.specs.Bytes.{is_digit}
use Rattle.gm_token.specs.Spellings.{decimal_value}
use Rattle.gm_token.proofs.Listings.{at_row, token_there, number_there, digits_of}
use Rattle.gm_token.proofs.scanned.Tokens.number.Goals as goal

some_of : (r : Option ℕ) (p : Type 0) (v : ℕ) → SomeIff r p v → p → IsSome r
some_of (Some x) p v h q = refl
some_of None p v h q = absurd (h q)

value_of : (r : Option ℕ) (p : Type 0) (v x : ℕ) → SomeIff r p v → r ≡ Some x → v ≡ x
value_of (Some y) p v x h e = let f = h.1 in cc
value_of None p v x h e = cc

pub number_value-requires : goal.number_value-requires
number_value-requires c =
    let there = number_there c.self.inside c.args.self.now c.args.i c.index.result.now c.self.view_is c.self.invariant c.requires c.index.ensures in
    subst (λ (x : List ℕ). AllPass is_digit x) (sym c.bytes_of.ensures) (digits_of _ there.0)

pub unwrap-requires : goal.unwrap-requires
unwrap-requires c =
    let there = number_there c.self.inside c.args.self.now c.args.i c.index.result.now c.self.view_is c.self.invariant c.requires c.index.ensures in
    some_of c.number_value.result _ _ c.number_value.ensures (subst (λ (x : List ℕ). decimal_value x ≤ greatest_number) (sym c.bytes_of.ensures) there.1)

pub returns-clause-value : goal.returns-clause-value
returns-clause-value c =
    ap (option_map decimal_value) (at_row (λ token. token.text) c.self.inside c.args.self.now c.args.i c.index.result.now c.self.view_is (token_there c.args.self.now c.args.i Number c.requires) c.index.ensures)
    ∙ ap (λ (x : List ℕ). Some (decimal_value x)) (sym c.bytes_of.ensures) ∙ ap Some (value_of c.number_value.result _ _ c.unwrap.result c.number_value.ensures c.unwrap.ensures)

pub returns-clause-limit : goal.returns-clause-limit
returns-clause-limit c =
    let there = number_there c.self.inside c.args.self.now c.args.i c.index.result.now c.self.view_is c.self.invariant c.requires c.index.ensures in
    subst (λ (n : ℕ). n ≤ greatest_number) (value_of c.number_value.result _ _ c.unwrap.result c.number_value.ensures c.unwrap.ensures)
    (subst (λ (x : List ℕ). decimal_value x ≤ greatest_number) (sym c.bytes_of.ensures) there.1)
