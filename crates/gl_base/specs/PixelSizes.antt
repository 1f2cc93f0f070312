-- Images in client memory: how many bytes they have, and where their rows lie (OpenGL ES 2.0.25, sections 3.6.1 and 3.6.2). Numbers are whole
-- numbers without an end.
use Prim.Native.Nat.{zero, suc}
use Rattle.std.specs.Prelude.{ℕ, ◌+◌, ◌-◌, ◌*◌, ◌/◌, ◌==◌, ◌&&◌, ◌||◌, nat_le, if◌then◌else◌, List, [], ◌++◌, take, drop, replicate, Option, None, Some}
use Rattle.gl_base.specs.declared.gl_enum.GlEnum.{GlEnum}
use Rattle.gl_base.specs.declared.enums.TheConstants.{UNSIGNED_BYTE}
use Rattle.gl_base.specs.declared.limits.TheConstants.{DATA_LIMIT}
use Rattle.gl_base.specs.declared.texture_enums.TheConstants.{ALPHA, RGB, RGBA, LUMINANCE, LUMINANCE_ALPHA, UNSIGNED_SHORT_4_4_4_4, UNSIGNED_SHORT_5_5_5_1, UNSIGNED_SHORT_5_6_5}

-- the bytes of a pixel, where the format and the type make a pair (table 3.4)
abbrev pub pixel_bytes : GlEnum → GlEnum → Option ℕ
pixel_bytes format kind =
    if ((format.0 == ALPHA.0) || (format.0 == LUMINANCE.0)) && (kind.0 == UNSIGNED_BYTE.0) then Some 1
    else if (format.0 == LUMINANCE_ALPHA.0) && (kind.0 == UNSIGNED_BYTE.0) then Some 2
    else if (format.0 == RGB.0) && (kind.0 == UNSIGNED_BYTE.0) then Some 3
    else if (format.0 == RGB.0) && (kind.0 == UNSIGNED_SHORT_5_6_5.0) then Some 2
    else if (format.0 == RGBA.0) && (kind.0 == UNSIGNED_BYTE.0) then Some 4
    else if (format.0 == RGBA.0) && ((kind.0 == UNSIGNED_SHORT_4_4_4_4.0) || (kind.0 == UNSIGNED_SHORT_5_5_5_1.0)) then Some 2
    else None

-- those, or 0 of no pair
abbrev pub bytes_or_none : Option ℕ → ℕ
bytes_or_none None = 0
bytes_or_none (Some n) = n

abbrev pub pixel_size : GlEnum → GlEnum → ℕ
pixel_size format kind = bytes_or_none (pixel_bytes format kind)

-- from one row to the next: the least multiple of the alignment that is not below a row
abbrev pub row_step : ℕ → ℕ → ℕ
row_step row alignment = (row + (alignment - 1)) / alignment * alignment

-- the bytes of an image with pixels of so many bytes: rows begin at multiples of the alignment, and the last one is not padded
abbrev pub image_size : ℕ → ℕ → ℕ → ℕ → ℕ
image_size width height each alignment =
    if (width == 0) || (height == 0) then 0 else row_step (width * each) alignment * (height - 1) + width * each

-- a size within the limit
abbrev pub within_limit : ℕ → Option ℕ
within_limit n = if nat_le n DATA_LIMIT then Some n else None

-- so many rows of so many bytes, each so many bytes behind the one before, without what lies between them
abbrev pub rows_of : ℕ → ℕ → ℕ → List ℕ → List ℕ
rows_of zero row step bytes = []
rows_of (suc n) row step bytes = take row bytes ++ rows_of n row step (drop step bytes)

-- the pixels of an image in client memory, of so many bytes each, row by row, without padding
abbrev pub unpadded : ℕ → ℕ → ℕ → ℕ → List ℕ → List ℕ
unpadded width height each alignment bytes = rows_of height (width * each) (row_step (width * each) alignment) bytes

-- so many rows of so many bytes, which follow one another, as rows with so many zeros between them
abbrev pub with_padding : ℕ → ℕ → ℕ → List ℕ → List ℕ
with_padding zero row gap bytes = []
with_padding (suc n) row gap bytes = if n == 0 then take row bytes else take row bytes ++ replicate gap 0 ++ with_padding n row gap (drop row bytes)

-- the pixels of an image, of so many bytes each, as client memory has them: rows begin at multiples of the alignment, and the last one is not padded
abbrev pub padded : ℕ → ℕ → ℕ → ℕ → List ℕ → List ℕ
padded width height each alignment bytes = with_padding height (width * each) (row_step (width * each) alignment - width * each) bytes
