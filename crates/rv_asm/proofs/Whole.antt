-- The fault and the image of a whole text, from what the two passes answer.
use Rattle.std.proofs.Common.{◌≡◌, Bool, ℕ, List, Option, Some, None, sym, ◌∙◌, ap}
use Rattle.std.specs.Option.{option_or}
use Rattle.rv_atomics.specs.declared.extensions.Extensions.{Extensions}
use Rattle.node_memory.specs.Image.{Image, segments_from_0}
use Rattle.asm_syntax.specs.Lines.{lines_of}
use Rattle.rv_asm.specs.declared.errors.AsmKind.{AsmKind}
use Rattle.rv_asm.specs.Faults.{text_fault, fault_alone, fault_of_uses, first_faulty_line}
use Rattle.rv_asm.specs.Places.{places_of, symbols_of}
use Rattle.rv_asm.specs.Symbols.{Symbols}
use Rattle.rv_asm.specs.Text.{IsLaidOut, IsImageOfText}
use Rattle.rv_asm.proofs.OnlyLabels.{only_labels_of}

pub fault-first : (extensions : Extensions) (text : List ℕ) (fault : ℕ × AsmKind)
    → first_faulty_line fault_alone (places_of extensions text) ≡ Some fault
    → text_fault extensions text ≡ Some fault
unfolding text_fault
fault-first extensions text fault e =
    ap (λ o. option_or o (first_faulty_line (fault_of_uses (symbols_of (places_of extensions text))) (places_of extensions text))) e

pub fault-second : (extensions : Extensions) (text : List ℕ) (symbols : Symbols) (fault : Option (ℕ × AsmKind))
    → first_faulty_line fault_alone (places_of extensions text) ≡ None
    → ((q : List ℕ) → symbols q ≡ symbols_of (places_of extensions text) q)
    → first_faulty_line (fault_of_uses symbols) (places_of extensions text) ≡ fault → text_fault extensions text ≡ fault
unfolding text_fault
fault-second extensions text symbols fault none known e =
    ap (λ o. option_or o (first_faulty_line (fault_of_uses (symbols_of (places_of extensions text))) (places_of extensions text))) none
    ∙ (λ i. first_faulty_line (fault_of_uses (λ q. sym (known q) i)) (places_of extensions text)) ∙ e

pub image-laid : (extensions : Extensions) (text : List ℕ) (symbols : Symbols) (bytes : List ℕ) (image : Image)
    → ((q : List ℕ) → symbols q ≡ symbols_of (places_of extensions text) q)
    → IsLaidOut extensions symbols (lines_of text) bytes image.entry → image.segments ≡ segments_from_0 bytes
    → IsImageOfText extensions text image
image-laid extensions text symbols bytes image known out segments =
    record {
      symbols = symbols;
      bytes = bytes;
      out = out;
      only_labels = only_labels_of extensions symbols text out.lines known out.are_lines;
      segments_are = segments;
    }
