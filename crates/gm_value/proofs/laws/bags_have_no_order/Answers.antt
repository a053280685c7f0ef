-- Totals and closings of bags.
use Rattle.std.proofs.Common.{◌*ℤ◌, ap}
use Rattle.gm_value.specs.Numbers.{type_of, number_of, checked}
use Rattle.gm_value.proofs.ProductLaws.{*ℤ_one}
use Rattle.gm_value.proofs.MonoidLaws.{total-permuted, close-permuted}
use Rattle.gm_value.proofs.laws.bags_have_no_order.Goals as goal

pub returns-clause-total : goal.returns-clause-total
returns-clause-total c = λ r t bag other same. total-permuted r t same

pub returns-clause-close : goal.returns-clause-close
returns-clause-close c = λ r held bag other same. close-permuted r held same

pub returns-clause-product : goal.returns-clause-product
returns-clause-product c = λ held a. ap (λ z. checked (type_of held) (number_of held *ℤ z)) (*ℤ_one (number_of a))
