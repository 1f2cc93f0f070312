-- The pixels that a driver was loaded with, as the reads of a journal have them: each cut or filled with zeros to the length that is asked for.
use Rattle.std.specs.Prelude.{ℕ, List, [], ◌∷◌, ◌++◌}
use Rattle.gl_plain.specs.declared.driver_calls.DriverCall.{DriverCall}
use Rattle.gl_plain.specs.declared.driver_calls.DriverCall.TheVariants.{Object, Image, Program, Draw}
use Rattle.gl_plain.specs.declared.driver_calls.DriverEntry.{DriverEntry}
use Rattle.gl_plain.specs.declared.driver_calls.ImageDriver.{ImageDriver}
use Rattle.gl_plain.specs.declared.driver_calls.ImageDriver.TheVariants.{TexImage, TexSubImage, ZeroLevel, TexParameter, CopyTexImage, CopyTexSubImage, GenerateMipmap, RenderbufferStorage, ZeroRenderbuffer, ReadPixels}
use Rattle.gl_plain.specs.Oracle.{Oracle, first, behind, led_by}
use Rattle.gl_plain.specs.Words.{natural}
use Rattle.gl_plain.specs.subjects.Copies.{read_count, fitted}

-- how many bytes a call on images reads, as a list of none or one
abbrev pub reads_of_image : ImageDriver → List ℕ
reads_of_image (TexImage target level format kind width height payload) = []
reads_of_image (TexSubImage part bytes) = []
reads_of_image (ZeroLevel place rect) = []
reads_of_image (TexParameter target pname value) = []
reads_of_image (CopyTexImage target level format x y width height) = []
reads_of_image (CopyTexSubImage copy) = []
reads_of_image (GenerateMipmap target) = []
reads_of_image (RenderbufferStorage format width height) = []
reads_of_image (ZeroRenderbuffer name) = []
reads_of_image (ReadPixels x y width height) = read_count (natural width) (natural height) ∷ []

-- and a call
abbrev pub reads_of : DriverCall → List ℕ
reads_of (Object call) = []
reads_of (Image call) = reads_of_image call
reads_of (Program call) = []
reads_of (Draw call) = []

-- how many bytes the reads of a journal give, in order
abbrev pub reads_in : List DriverEntry → List ℕ
reads_in [] = []
reads_in (e ∷ es) = reads_of e.call ++ reads_in es

-- the first of these have these lengths
abbrev pub as_read : List ℕ → (ℕ → List ℕ) → ℕ → List ℕ
as_read [] pixels = pixels
as_read (n ∷ ns) pixels = led_by (fitted n (first pixels)) (as_read ns (behind pixels))

-- the answers as the reads of this length have them
abbrev pub with_reads : List ℕ → Oracle → Oracle
with_reads ns o = record o { pixels = as_read ns o.pixels }
