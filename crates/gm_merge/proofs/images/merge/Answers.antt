use Rattle.std.proofs.Common.{refl}
use Rattle.gm_image.specs.Views.{program}
use Rattle.gm_merge.proofs.Made.{joined-fits, result-sound, result-is}
use Rattle.gm_merge.proofs.images.merge.Goals as goal

pub join_image-requires : goal.join_image-requires
join_image-requires c = (refl, c.into_image.ensures.sound)

pub trim_image-requires : goal.trim_image-requires
trim_image-requires c =
    let fits = joined-fits (program c.into_image.result) (program c.in_ok-joined.joined) c.into_image.ensures.sound c.in_ok-joined.ensures in
    record { few = fits.few; inside = fits.inside }

pub new-requires : goal.new-requires
new-requires c =
    result-sound (program c.into_image.result) (program c.in_ok-joined.joined) (program c.in_ok-merged.merged) c.into_image.ensures.sound c.into_image.ensures.numbers c.in_ok-joined.ensures c.in_ok-merged.ensures

pub returns-clause-made : goal.returns-clause-made
returns-clause-made c = (result-is c.args.image c.into_image.result c.in_ok-joined.joined c.in_ok-merged.merged c.new.result c.into_image.ensures.same c.into_image.ensures.sound c.into_image.ensures.numbers c.in_ok-joined.ensures c.in_ok-merged.ensures c.new.ensures).made

pub returns-clause-same : goal.returns-clause-same
returns-clause-same c = (result-is c.args.image c.into_image.result c.in_ok-joined.joined c.in_ok-merged.merged c.new.result c.into_image.ensures.same c.into_image.ensures.sound c.into_image.ensures.numbers c.in_ok-joined.ensures c.in_ok-merged.ensures c.new.ensures).same

pub returns-clause-supersteps : goal.returns-clause-supersteps
returns-clause-supersteps c = (result-is c.args.image c.into_image.result c.in_ok-joined.joined c.in_ok-merged.merged c.new.result c.into_image.ensures.same c.into_image.ensures.sound c.into_image.ensures.numbers c.in_ok-joined.ensures c.in_ok-merged.ensures c.new.ensures).supersteps

pub returns-clause-messages : goal.returns-clause-messages
returns-clause-messages c = (result-is c.args.image c.into_image.result c.in_ok-joined.joined c.in_ok-merged.merged c.new.result c.into_image.ensures.same c.into_image.ensures.sound c.into_image.ensures.numbers c.in_ok-joined.ensures c.in_ok-merged.ensures c.new.ensures).messages

pub returns-clause-rest : goal.returns-clause-rest
returns-clause-rest c = (result-is c.args.image c.into_image.result c.in_ok-joined.joined c.in_ok-merged.merged c.new.result c.into_image.ensures.same c.into_image.ensures.sound c.into_image.ensures.numbers c.in_ok-joined.ensures c.in_ok-merged.ensures c.new.ensures).rest

pub returns-clause-none_left : goal.returns-clause-none_left
returns-clause-none_left c = (result-is c.args.image c.into_image.result c.in_ok-joined.joined c.in_ok-merged.merged c.new.result c.into_image.ensures.same c.into_image.ensures.sound c.into_image.ensures.numbers c.in_ok-joined.ensures c.in_ok-merged.ensures c.new.ensures).none_left
