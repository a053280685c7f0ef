-- What the parts of the reader hold, without where it lies in memory.
use Rattle.std.specs.Prelude.{map}
use Rattle.gm_image.specs.Views.{input, output, block, command}
use Rattle.gm_image_text.specs.declared.reads.Opening as O
use Rattle.gm_image_text.specs.declared.reads.Middle as M
use Rattle.gm_image_text.specs.declared.reads.Closing as C
use Rattle.gm_image_text.specs.Sections.{Opening, Middle, Closing}

abbrev pub opening_seen : O.Opening → Opening
opening_seen x = (x.version, (x.name, (map input x.inputs, (map output x.outputs, x.result))))

abbrev pub middle_seen : M.Middle → Middle
middle_seen x = (x.globals, (x.fields, (x.registers, (x.columns, (x.kinds, x.places)))))

abbrev pub closing_seen : C.Closing → Closing
closing_seen x = (map block x.blocks, map command x.master)
