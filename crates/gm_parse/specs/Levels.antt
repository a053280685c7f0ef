-- The levels of operators between two operands: the part of each, what its operands are, and its operators.
use Rattle.std.specs.Prelude.{Option, Some, None}
use Rattle.gm_token.specs.declared.words.Word.TheVariants as words
use Rattle.gm_parse.specs.declared.levels.Level.{Level}
use Rattle.gm_parse.specs.declared.levels.Level.TheVariants as levels
use Rattle.gm_parse.specs.Grammar.{Part, Rule, Disjunction, Conjunction, Equality, Relation, Sum, Product, Unary, the, equality_sign, relation_sign, sum_sign, product_sign}

abbrev pub part_of : Level → Part
part_of levels.Or = Disjunction
part_of levels.And = Conjunction
part_of levels.Equality = Equality
part_of levels.Relation = Relation
part_of levels.Sum = Sum
part_of levels.Product = Product

abbrev pub operand_of : Level → Part
operand_of levels.Or = Conjunction
operand_of levels.And = Equality
operand_of levels.Equality = Relation
operand_of levels.Relation = Sum
operand_of levels.Sum = Product
operand_of levels.Product = Unary

abbrev pub signs_of : Level → Rule
signs_of levels.Or = the words.OrOr
signs_of levels.And = the words.AndAnd
signs_of levels.Equality = equality_sign
signs_of levels.Relation = relation_sign
signs_of levels.Sum = sum_sign
signs_of levels.Product = product_sign

-- the level of its operands, where these are of a level
abbrev pub tighter_of : Level → Option Level
tighter_of levels.Or = Some levels.And
tighter_of levels.And = Some levels.Equality
tighter_of levels.Equality = Some levels.Relation
tighter_of levels.Relation = Some levels.Sum
tighter_of levels.Sum = Some levels.Product
tighter_of levels.Product = None
