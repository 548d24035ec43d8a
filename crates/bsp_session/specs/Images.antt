-- The image that the bytes of a file give, by their format, and what they are refused for where they give none.
use Rattle.std.specs.Prelude.{◌≡◌, ℕ, ◌^◌, Bool, if◌then◌else◌, List, Option, None, option_map}
use Rattle.rv_atomics.specs.declared.extensions.Extensions.{Extensions}
use Rattle.node_memory.specs.Image.{Image}
use Rattle.elf_image.specs.Presents.{Presents, raw_image}
use Rattle.elf_image.specs.Faults.{file_fault}
use Rattle.rv_asm.specs.Text.{IsImageOfText}
use Rattle.rv_asm.specs.Faults.{text_fault}
use Rattle.bsp_session.specs.declared.job.Format.{Format}
use Rattle.bsp_session.specs.declared.job.Format.TheVariants.{Elf, Raw, Asm}
use Rattle.bsp_session.specs.declared.errors.SessionError.{SessionError}
use Rattle.bsp_session.specs.declared.errors.SessionError.TheVariants.{BadImage, Text}

-- the most bytes that a file has (own limits)
abbrev pub most_bytes : Format → ℕ
most_bytes (Elf large) = if large then 2 ^ 28 else 2 ^ 25
most_bytes (Raw large) = if large then 2 ^ 28 else 2 ^ 24
most_bytes (Asm extensions) = 2 ^ 22

-- a text without a fault, and its image, in the language with statements of floating point or in that without them
pub record Assembles (extensions : Extensions) (text : List ℕ) (image : Image) : Type 0 where
  pub faultless : text_fault extensions text ≡ None
  pub is : IsImageOfText extensions text image

-- an ELF file without a fault, for a large machine or another, and the image that it presents
pub record Loads (large : Bool) (file : List ℕ) (image : Image) : Type 0 where
  pub faultless : file_fault large file ≡ None
  pub is : Presents file image

-- bytes give an image
abbrev pub Gives : Format → List ℕ → Image → Type 0
Gives (Elf large) bytes image = Loads large bytes image
Gives (Raw large) bytes image = image ≡ raw_image bytes
Gives (Asm extensions) bytes image = Assembles extensions bytes image

-- what a text is refused for
abbrev pub refused_text : (extensions : Extensions) → List ℕ → Option SessionError
refused_text extensions text = option_map (λ fault. Text (record { line = fault.0; kind = fault.1 })) (text_fault extensions text)

-- what bytes are refused for, if they are; a raw file gives an image whatever it holds
abbrev pub image_fault : Format → List ℕ → Option SessionError
image_fault (Elf large) bytes = option_map BadImage (file_fault large bytes)
image_fault (Raw large) bytes = None
image_fault (Asm extensions) bytes = refused_text extensions bytes
