-- The bytes so far are those of the lines that are over, and the first fault of the text is that of the lines that are left.
use Rattle.std.proofs.Common.{◌≡◌, ◌+◌, ◌^◌, ◌≤◌, length, vec_len}
use Rattle.asm_syntax.specs.Lines.{lines_of}
use Rattle.rv_asm.specs.Faults.{fault_of_uses, first_faulty_line}
use Rattle.rv_asm.specs.Labels.{symbols}
use Rattle.rv_asm.specs.Places.{places_of}
use Rattle.rv_asm.proofs.Laying.{uses_from, IsLaidUpTo}
use Rattle.rv_asm.proofs.Passes.{lines_in, left_in}
use Rattle.rv_asm.proofs.Sound.{AreSound}
use Rattle.rv_asm.proofs.second_pass.write_lines.Given as goal

abbrev pub invariant-lines : goal.invariant-lines
invariant-lines g l = record {
  sound : AreSound l.extensions (symbols l.labels) (vec_len l.program.bytes) (lines_in l.rest);
  judged : first_faulty_line (fault_of_uses (symbols l.labels)) (places_of l.extensions l.fn.text)
      ≡ uses_from l.extensions (symbols l.labels) l.number (vec_len l.program.bytes) (lines_in l.rest);
  laid : IsLaidUpTo l.extensions (symbols l.labels) (lines_of l.fn.text) (lines_in l.rest) l.program.bytes.items l.program.entry;
  within : vec_len l.program.bytes ≤ 2 ^ 24;
  counted : l.number + left_in l.rest ≤ length l.fn.text + 2;
}

abbrev pub decreases-lines : goal.decreases-lines
decreases-lines g l = left_in l.rest
