-- A file is short enough for its format to be read, since its bytes are no more than the format allows.
use Rattle.std.proofs.Common.{◌≤◌, ◌^◌, ℕ, true, false, arith, rules, ap, sym, ◌∙◌}
use Rattle.bsp_session.specs.declared.job.Format.{Format}
use Rattle.bsp_session.specs.declared.job.Format.TheVariants.{Elf, Raw, Asm}
use Rattle.bsp_session.specs.Images.{most_bytes}
use Rattle.bsp_session.proofs.images.image_of.Goals as goal

-- no format allows more than this
most_of : (format : Format) → most_bytes format ≤ 2 ^ 28
most_of (Elf true) = omega arith
most_of (Elf false) = omega arith
most_of (Raw true) = omega arith
most_of (Raw false) = omega arith
most_of (Asm extensions) = omega arith

pub load-requires : goal.load-requires
load-requires g c = omega (arith, c.requires, most_of c.args.format)

pub raw-requires : goal.raw-requires
raw-requires g c = omega (arith, c.requires, most_of c.args.format)
