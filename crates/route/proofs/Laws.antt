-- The laws of specs/Laws.antt hold, all of them. Assumes nothing.
use Rattle.route.specs.Laws.{Laws}
use Rattle.route.proofs.MaskChoices.{bit_law, masks_law}
use Rattle.route.proofs.RelaxAnswer.{answer_law}
use Rattle.route.proofs.SheetReading.{read_back}

pub laws : Laws
laws = record {
  bit = bit_law;
  masks = masks_law;
  answer = answer_law;
  read_back = read_back;
}
