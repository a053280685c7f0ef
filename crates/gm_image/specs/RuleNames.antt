-- How the rules of images are written.
use Rattle.std.specs.Prelude.{ℕ, List, codes}
use Rattle.gm_image.specs.declared.rules.ImageRule.{ImageRule}
use Rattle.gm_image.specs.declared.rules.ImageRule.TheVariants.{I1, I2, I3, I4, I5, I6, I7, I8, I9, I10}

-- a rule's name
abbrev pub image_rule_text : ImageRule → List ℕ
image_rule_text I1 = codes "I1"
image_rule_text I2 = codes "I2"
image_rule_text I3 = codes "I3"
image_rule_text I4 = codes "I4"
image_rule_text I5 = codes "I5"
image_rule_text I6 = codes "I6"
image_rule_text I7 = codes "I7"
image_rule_text I8 = codes "I8"
image_rule_text I9 = codes "I9"
image_rule_text I10 = codes "I10"
