-- Four pieces that are appended one after another are the file header.
use Rattle.std.proofs.Common.{◌∙◌}
use Rattle.std.proofs.lemmas.Result.{on_ok_weaker}
use Rattle.elf_image.specs.Spelling.{spelled_file_header}
use Rattle.elf_image.proofs.Spelled.{four_appends}
use Rattle.elf_image.proofs.writer.put_file_header.Goals as goal

pub returns : goal.returns
unfolding spelled_file_header
returns g c =
    on_ok_weaker c.put_halves-2.result
    (λ e. e ∙ four_appends c.args.out.now.items _ _ _ _ _ _ _ c.in_ok-extend_from_slice.ensures.items c.in_ok-put_halves.ensures
    c.in_ok-put_words.ensures)
    c.put_halves-2.ensures
