-- Entry by entry the segments are those of the PT_LOAD headers; since no entry has a fault, each is a segment, and all keep the limits.
use Rattle.std.proofs.Common.{◌≡◌, ◌<◌, true, subst, ap, ◌∙◌, arith}
use Rattle.elf_image.specs.Headers.{FileHeader, file_header, program_header_at, is_load}
use Rattle.elf_image.proofs.Table.{HasTable-from_none, phnum-is, loadable_at}
use Rattle.elf_image.proofs.Loads.{segments_of_push, segments_of_skip, segments_of_all, end_of_table, within_limits}
use Rattle.elf_image.proofs.loader.image_of.Goals as goal
use Rattle.elf_image.proofs.loader.image_of.Goals.{then-is_load+in_ok-segment+in_ok-push, else-is_load}

pub segment_of-requires-clause-holds_bytes : goal.segment_of-requires-clause-holds_bytes
segment_of-requires-clause-holds_bytes g c =
    let phnum =
    phnum-is c.args.file.now c.header-header.result c.e_phnum-phnum.result c.header-header.ensures.value c.e_phnum-phnum.ensures in
    let below : c.loop-i.i < (file_header c.args.file.now).e_phnum = subst (λ n. c.loop-i.i < n) phnum c.loop-i-test.true in
    let entry = c.program_header-header.ensures in
    let load : is_load (program_header_at c.args.file.now c.loop-i.i) ≡ true = rw (← entry, ← c.is_load.ensures) c.if-is_load.true in
    rw entry (loadable_at c.requires.0 c.args.file.now c.loop-i.i c.requires.1 below load).holds_bytes

pub segment_of-requires-clause-in_addresses : goal.segment_of-requires-clause-in_addresses
segment_of-requires-clause-in_addresses g c =
    let phnum =
    phnum-is c.args.file.now c.header-header.result c.e_phnum-phnum.result c.header-header.ensures.value c.e_phnum-phnum.ensures in
    let below : c.loop-i.i < (file_header c.args.file.now).e_phnum = subst (λ n. c.loop-i.i < n) phnum c.loop-i-test.true in
    let entry = c.program_header-header.ensures in
    let load : is_load (program_header_at c.args.file.now c.loop-i.i) ≡ true = rw (← entry, ← c.is_load.ensures) c.if-is_load.true in
    rw entry (loadable_at c.requires.0 c.args.file.now c.loop-i.i c.requires.1 below load).in_addresses

pub segment_of-requires-clause-in_file : goal.segment_of-requires-clause-in_file
segment_of-requires-clause-in_file g c =
    let phnum =
    phnum-is c.args.file.now c.header-header.result c.e_phnum-phnum.result c.header-header.ensures.value c.e_phnum-phnum.ensures in
    let below : c.loop-i.i < (file_header c.args.file.now).e_phnum = subst (λ n. c.loop-i.i < n) phnum c.loop-i-test.true in
    let entry = c.program_header-header.ensures in
    let load : is_load (program_header_at c.args.file.now c.loop-i.i) ≡ true = rw (← entry, ← c.is_load.ensures) c.if-is_load.true in
    rw entry (loadable_at c.requires.0 c.args.file.now c.loop-i.i c.requires.1 below load).in_file

pub loop-i-preserved : goal.loop-i-preserved
loop-i-preserved g c =
    let phnum =
    phnum-is c.args.file.now c.header-header.result c.e_phnum-phnum.result c.header-header.ensures.value c.e_phnum-phnum.ensures in
    let below : c.loop-i.i < (file_header c.args.file.now).e_phnum = subst (λ n. c.loop-i.i < n) phnum c.loop-i-test.true in
    let header = c.program_header-header in
    elim c.if-is_load.branch [
      | then-is_load+in_ok-segment+in_ok-push w ↦ rw w.segments-is
          (segments_of_push c.args.file.now c.loop-i.i header.result _ _ _ _ below header.ensures c.is_load.ensures w.if-is_load.true
          c.loop-i.invariant w.in_ok-segment.ensures w.in_ok-push.ensures.items)
      | else-is_load w ↦ rw w.segments-is
          (segments_of_skip c.args.file.now c.loop-i.i header.result _ _ below header.ensures c.is_load.ensures w.if-is_load.false
          c.loop-i.invariant)
    ]

pub invariant_of-result : goal.invariant_of-result
invariant_of-result g c =
    let phnum =
    phnum-is c.args.file.now c.header-header.result c.e_phnum-phnum.result c.header-header.ensures.value c.e_phnum-phnum.ensures in
    let few = (HasTable-from_none c.args.file.now c.header-header.ensures.valid).few in
    let all = end_of_table _ _ _ c.loop-i-test.false c.loop-i.auto.i-end phnum in
    let most = c.e_phnum-phnum.type_inv in
    within_limits c.requires.0 c.args.file.now c.e_entry.result c.loop-i.i c.from_vec.result _ c.requires.1 all
    (omega (arith, few, most)) c.loop-i.invariant c.from_vec.ensures

pub returns : goal.returns
returns g c =
    let phnum =
    phnum-is c.args.file.now c.header-header.result c.e_phnum-phnum.result c.header-header.ensures.value c.e_phnum-phnum.ensures in
    record {
      entry = c.e_entry.ensures ∙ ap (λ (h : FileHeader). h.e_entry) c.header-header.ensures.value;
      segments =
          segments_of_all c.args.file.now c.loop-i.i c.from_vec.result _
          (end_of_table _ _ _ c.loop-i-test.false c.loop-i.auto.i-end phnum) c.loop-i.invariant c.from_vec.ensures;
    }
