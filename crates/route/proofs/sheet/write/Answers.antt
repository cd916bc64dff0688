use Rattle.std.proofs.Common.{◌≡◌, arith, length}
use Rattle.std.proofs.lemmas.Grind.{common_steps}
use Rattle.route.specs.Values.{ids_of}
use Rattle.route.proofs.SheetWriting.{written}
use Rattle.route.proofs.sheet.write.Goals as goal

pub returns : goal.returns
returns c =
    let v = c.args.sheet in
    let many : length (ids_of v.route) ≡ v.route.count = grind (arith, common_steps) in
    written c.args.out.now (ids_of v.route) _ _ v.route.count v.cost v.setting many c.requires.1 c.put_head.ensures c.put_steps.ensures
