use Rattle.std.proofs.Common.{arith}
use Rattle.route.proofs.SheetReading.{form_is}
use Rattle.route.proofs.sheet.read.Goals as goal

pub read_cost-requires : goal.read_cost-requires
read_cost-requires c = (form_is c.args.h.now c.requires).least

pub field-requires : goal.field-requires
field-requires c = (omega arith, (form_is c.args.h.now c.requires).least)
