-- A text without a fault has an image: each of its lines has bytes, since its numbers are in range.
use Rattle.asm_syntax.proofs.Facts.{in_range}
use Rattle.rv_asm.proofs.SomeImage.{some_image}
use Rattle.rv_asm.proofs.laws.a_text_without_a_fault_has_an_image.Goals as goal

pub returns : goal.returns
returns c = λ extensions. some_image extensions (in_range extensions)
