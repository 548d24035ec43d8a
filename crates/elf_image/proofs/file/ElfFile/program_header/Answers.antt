-- An entry below e_phnum lies in the file, and the bytes there are the entry's.
use Rattle.std.proofs.Common.{◌≡◌, ℕ, ◌+◌, ◌*◌, ◌<◌, ◌≤◌, List, length, sym, ap, subst, ◌∙◌, arith, rules}
use Rattle.node_memory.specs.Bytes.{bytes_at}
use Rattle.elf_image.specs.Headers.{FileHeader, file_header, program_header, program_header_at}
use Rattle.elf_image.proofs.Table.{HasTable-from_none, entry_within, program_header_at-is}
use Rattle.elf_image.proofs.file.ElfFile.program_header.Goals as goal

pub slice_bounds-new-end : goal.slice_bounds-new-end
slice_bounds-new-end c =
    let bytes = c.self.inside.bytes.now in
    let header : c.header.result ≡ file_header bytes = c.header.ensures.value ∙ ap file_header (sym c.self.view_is) in
    let offset : c.e_phoff.result ≡ (file_header bytes).e_phoff = c.e_phoff.ensures ∙ ap (λ (h : FileHeader). h.e_phoff) header in
    let below : c.args.i < (file_header bytes).e_phnum =
    subst (λ (b : List ℕ). c.args.i < (file_header b).e_phnum) (sym c.self.view_is) c.requires in
    let within = entry_within (length bytes) c.args.i (file_header bytes) (HasTable-from_none bytes c.self.invariant) below in
    let fits : c.e_phoff.result + c.from.result * 32 + 32 ≤ length bytes = omega arith in
    search rules

pub returns : goal.returns
returns c =
    let bytes = c.self.inside.bytes.now in
    let header : c.header.result ≡ file_header bytes = c.header.ensures.value ∙ ap file_header (sym c.self.view_is) in
    let offset : c.e_phoff.result ≡ (file_header bytes).e_phoff = c.e_phoff.ensures ∙ ap (λ (h : FileHeader). h.e_phoff) header in
    let below : c.args.i < (file_header bytes).e_phnum =
    subst (λ (b : List ℕ). c.args.i < (file_header b).e_phnum) (sym c.self.view_is) c.requires in
    let entry = program_header_at-is bytes c.args.i (HasTable-from_none bytes c.self.invariant) below in
    let start : c.e_phoff.result + c.from.result * 32 ≡ (file_header bytes).e_phoff + c.args.i * 32 = omega arith in
    c.new.ensures ∙ ap (λ at. program_header (bytes_at bytes at 32)) start ∙ sym entry
    ∙ ap (λ (b : List ℕ). program_header_at b c.args.i) c.self.view_is
