-- Two images of one text are the same, since each line's bytes are determined by its address and the labels.
use Rattle.rv_asm.proofs.OneImage.{one_image}
use Rattle.rv_asm.proofs.laws.a_text_has_at_most_one_image.Goals as goal

pub returns : goal.returns
returns c = one_image
