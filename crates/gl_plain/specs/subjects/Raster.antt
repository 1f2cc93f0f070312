-- The fixed state of rasterization and of fragments, and the alignments of pixels in memory (OpenGL ES 2.0.25, sections 2.12, 3.4, 3.5, 3.6.1,
-- 4.1, 4.2 and 5.2). One table says what each command takes; the words that it keeps are what is stored, asked for, and given to a driver.
use Rattle.std.specs.Prelude.{◌≡◌, ℕ, Bool, true, false, not, ◌==◌, ◌&&◌, ◌||◌, nat_le, min, if◌then◌else◌, List, [], ◌∷◌, length, slice_index, Option, None, Some}
use Rattle.std.specs.Int.{cast_signed, w32}
use Rattle.gl_base.specs.declared.gl_enum.GlEnum.{GlEnum}
use Rattle.gl_base.specs.declared.enums.TheConstants.{ONE}
use Rattle.gl_base.specs.declared.raster_enums.TheConstants as enums
use Rattle.gl_base.specs.declared.limits.TheConstants.{SIDE_LIMIT, LAST_STENCIL}
use Rattle.gl_base.specs.Floats.{clamped_pattern, is_negative_or_zero}
use Rattle.gl_plain.specs.declared.numbers.TheConstants.{ENABLE, DISABLE, BLEND_COLOR, BLEND_EQUATION_SEPARATE, BLEND_FUNC_SEPARATE, CLEAR_COLOR, CLEAR_DEPTHF, CLEAR_STENCIL, COLOR_MASK, CULL_FACE, DEPTH_FUNC, DEPTH_MASK, DEPTH_RANGEF, FRONT_FACE, HINT, LINE_WIDTH, PIXEL_STOREI, POLYGON_OFFSET, SAMPLE_COVERAGE, SCISSOR, STENCIL_FUNC_SEPARATE, STENCIL_MASK_SEPARATE, STENCIL_OP_SEPARATE, VIEWPORT}
use Rattle.gl_plain.specs.declared.errors.GlError.{GlError}
use Rattle.gl_plain.specs.declared.errors.GlError.TheVariants.{InvalidEnum, InvalidValue}
use Rattle.gl_plain.specs.declared.raster.WordRule.{WordRule}
use Rattle.gl_plain.specs.declared.raster.WordRule.TheVariants.{Any, Flag, Fraction, Width, Capability, BlendEquation, SourceFactor, DestinationFactor, Face, Function, StencilOperation, Winding, HintTarget, HintMode, AlignmentName, Alignment, Side, ViewportSide, Reference}
use Rattle.gl_plain.specs.declared.raster.Capabilities.{Capabilities}
use Rattle.gl_plain.specs.declared.raster.StencilSide.{StencilSide}
use Rattle.gl_plain.specs.declared.raster.RasterWords.{RasterWords}
use Rattle.gl_plain.specs.declared.raster.Alignments.{Alignments}
use Rattle.gl_plain.specs.Words.{is_negative}
use Rattle.gl_plain.specs.subjects.Links.{is_one_of}

-- Opening values

-- every value passes the stencil test, and stays
abbrev pub opening_side : StencilSide
opening_side = record {
  function = enums.ALWAYS.0;
  reference = 0;
  value_mask = 0xFFFFFFFF;
  write_mask = 0xFFFFFFFF;
  fail = enums.KEEP.0;
  depth_fail = enums.KEEP.0;
  depth_pass = enums.KEEP.0;
}

-- colours are dithered, and nothing else is enabled
abbrev pub opening_capabilities : Capabilities
opening_capabilities = record {
  cull_face = 0;
  blend = 0;
  dither = 1;
  stencil_test = 0;
  depth_test = 0;
  scissor_test = 0;
  polygon_offset_fill = 0;
  sample_alpha_to_coverage = 0;
  sample_coverage = 0;
}

-- for a default framebuffer of these sides
abbrev pub opening_raster : ℕ → ℕ → RasterWords
opening_raster width height = record {
  capabilities = opening_capabilities;
  blend_color = 0 ∷ 0 ∷ 0 ∷ 0 ∷ [];
  blend_equation = enums.FUNC_ADD.0 ∷ enums.FUNC_ADD.0 ∷ [];
  blend_factors = enums.ONE_FACTOR.0 ∷ enums.ZERO.0 ∷ enums.ONE_FACTOR.0 ∷ enums.ZERO.0 ∷ [];
  clear_color = 0 ∷ 0 ∷ 0 ∷ 0 ∷ [];
  clear_depth = ONE;
  clear_stencil = 0;
  color_mask = 1 ∷ 1 ∷ 1 ∷ 1 ∷ [];
  cull_face_mode = enums.BACK.0;
  depth_function = enums.LESS.0;
  depth_mask = 1;
  depth_range = 0 ∷ ONE ∷ [];
  front_face = enums.CCW.0;
  mipmap_hint = enums.DONT_CARE.0;
  line_width = ONE;
  polygon_offset = 0 ∷ 0 ∷ [];
  sample_coverage = ONE ∷ 0 ∷ [];
  scissor = 0 ∷ 0 ∷ width ∷ height ∷ [];
  stencil_front = opening_side;
  stencil_back = opening_side;
  viewport = 0 ∷ 0 ∷ width ∷ height ∷ [];
}

abbrev pub opening_alignments : Alignments
opening_alignments = record { unpack = 4; pack = 4 }

-- What each command takes

-- the rules of the words of a command, in order; no other number is that of such a command
abbrev pub rules_of : ℕ → List WordRule
rules_of number =
    if number == ENABLE then Capability ∷ []
    else if number == DISABLE then Capability ∷ []
    else if number == BLEND_COLOR then Fraction ∷ Fraction ∷ Fraction ∷ Fraction ∷ []
    else if number == BLEND_EQUATION_SEPARATE then BlendEquation ∷ BlendEquation ∷ []
    else if number == BLEND_FUNC_SEPARATE then SourceFactor ∷ DestinationFactor ∷ SourceFactor ∷ DestinationFactor ∷ []
    else if number == CLEAR_COLOR then Fraction ∷ Fraction ∷ Fraction ∷ Fraction ∷ []
    else if number == CLEAR_DEPTHF then Fraction ∷ []
    else if number == CLEAR_STENCIL then Any ∷ []
    else if number == COLOR_MASK then Flag ∷ Flag ∷ Flag ∷ Flag ∷ []
    else if number == CULL_FACE then Face ∷ []
    else if number == DEPTH_FUNC then Function ∷ []
    else if number == DEPTH_MASK then Flag ∷ []
    else if number == DEPTH_RANGEF then Fraction ∷ Fraction ∷ []
    else if number == FRONT_FACE then Winding ∷ []
    else if number == HINT then HintTarget ∷ HintMode ∷ []
    else if number == LINE_WIDTH then Width ∷ []
    else if number == PIXEL_STOREI then AlignmentName ∷ Alignment ∷ []
    else if number == POLYGON_OFFSET then Any ∷ Any ∷ []
    else if number == SAMPLE_COVERAGE then Fraction ∷ Flag ∷ []
    else if number == SCISSOR then Any ∷ Any ∷ Side ∷ Side ∷ []
    else if number == STENCIL_FUNC_SEPARATE then Face ∷ Function ∷ Reference ∷ Any ∷ []
    else if number == STENCIL_MASK_SEPARATE then Face ∷ Any ∷ []
    else if number == STENCIL_OP_SEPARATE then Face ∷ StencilOperation ∷ StencilOperation ∷ StencilOperation ∷ []
    else if number == VIEWPORT then Any ∷ Any ∷ ViewportSide ∷ ViewportSide ∷ []
    else []

-- the number is that of a command of fixed state
abbrev pub is_raster : ℕ → Bool
is_raster number = nat_le ENABLE number && nat_le number VIEWPORT

-- Enums

abbrev pub capabilities : List GlEnum
capabilities =
    enums.CULL_FACE ∷ enums.BLEND ∷ enums.DITHER ∷ enums.STENCIL_TEST ∷ enums.DEPTH_TEST ∷ enums.SCISSOR_TEST ∷ enums.POLYGON_OFFSET_FILL ∷ enums.SAMPLE_ALPHA_TO_COVERAGE ∷ enums.SAMPLE_COVERAGE ∷ []

abbrev pub equations : List GlEnum
equations = enums.FUNC_ADD ∷ enums.FUNC_SUBTRACT ∷ enums.FUNC_REVERSE_SUBTRACT ∷ []

-- what both source and destination can be multiplied by
abbrev pub factors : List GlEnum
factors =
    enums.ZERO ∷ enums.ONE_FACTOR ∷ enums.SRC_COLOR ∷ enums.ONE_MINUS_SRC_COLOR ∷ enums.SRC_ALPHA ∷ enums.ONE_MINUS_SRC_ALPHA ∷ enums.DST_ALPHA ∷ enums.ONE_MINUS_DST_ALPHA ∷ enums.DST_COLOR ∷ enums.ONE_MINUS_DST_COLOR ∷ enums.CONSTANT_COLOR ∷ enums.ONE_MINUS_CONSTANT_COLOR ∷ enums.CONSTANT_ALPHA ∷ enums.ONE_MINUS_CONSTANT_ALPHA ∷ []

abbrev pub faces : List GlEnum
faces = enums.FRONT ∷ enums.BACK ∷ enums.FRONT_AND_BACK ∷ []

abbrev pub functions : List GlEnum
functions = enums.NEVER ∷ enums.LESS ∷ enums.EQUAL ∷ enums.LEQUAL ∷ enums.GREATER ∷ enums.NOTEQUAL ∷ enums.GEQUAL ∷ enums.ALWAYS ∷ []

abbrev pub stencil_operations : List GlEnum
stencil_operations = enums.KEEP ∷ enums.ZERO ∷ enums.REPLACE ∷ enums.INCR ∷ enums.DECR ∷ enums.INVERT ∷ enums.INCR_WRAP ∷ enums.DECR_WRAP ∷ []

abbrev pub windings : List GlEnum
windings = enums.CW ∷ enums.CCW ∷ []

abbrev pub hint_modes : List GlEnum
hint_modes = enums.DONT_CARE ∷ enums.FASTEST ∷ enums.NICEST ∷ []

abbrev pub alignment_names : List GlEnum
alignment_names = enums.UNPACK_ALIGNMENT ∷ enums.PACK_ALIGNMENT ∷ []

-- Refusal

-- the word is none of these
abbrev pub is_none_of : ℕ → List GlEnum → Bool
is_none_of word enums = not (is_one_of (record { 0 = word }) enums)

-- the word is an enum that the rule does not take
abbrev pub is_wrong_enum : WordRule → ℕ → Bool
is_wrong_enum Any word = false
is_wrong_enum Flag word = false
is_wrong_enum Fraction word = false
is_wrong_enum Width word = false
is_wrong_enum Capability word = is_none_of word capabilities
is_wrong_enum BlendEquation word = is_none_of word equations
is_wrong_enum SourceFactor word = is_none_of word (enums.SRC_ALPHA_SATURATE ∷ factors)
is_wrong_enum DestinationFactor word = is_none_of word factors
is_wrong_enum Face word = is_none_of word faces
is_wrong_enum Function word = is_none_of word functions
is_wrong_enum StencilOperation word = is_none_of word stencil_operations
is_wrong_enum Winding word = is_none_of word windings
is_wrong_enum HintTarget word = is_none_of word (enums.GENERATE_MIPMAP_HINT ∷ [])
is_wrong_enum HintMode word = is_none_of word hint_modes
is_wrong_enum AlignmentName word = is_none_of word alignment_names
is_wrong_enum Alignment word = false
is_wrong_enum Side word = false
is_wrong_enum ViewportSide word = false
is_wrong_enum Reference word = false

-- the word, as a signed number, is below 0
abbrev pub is_below_zero : ℕ → Bool
is_below_zero word = is_negative (cast_signed w32 word)

-- the word is a number that the rule does not take
abbrev pub is_wrong_value : WordRule → ℕ → Bool
is_wrong_value Any word = false
is_wrong_value Flag word = false
is_wrong_value Fraction word = false
is_wrong_value Width word = is_negative_or_zero (record { 0 = word })
is_wrong_value Capability word = false
is_wrong_value BlendEquation word = false
is_wrong_value SourceFactor word = false
is_wrong_value DestinationFactor word = false
is_wrong_value Face word = false
is_wrong_value Function word = false
is_wrong_value StencilOperation word = false
is_wrong_value Winding word = false
is_wrong_value HintTarget word = false
is_wrong_value HintMode word = false
is_wrong_value AlignmentName word = false
is_wrong_value Alignment word = not ((word == 1) || (word == 2) || (word == 4) || (word == 8))
is_wrong_value Side word = is_below_zero word
is_wrong_value ViewportSide word = is_below_zero word
is_wrong_value Reference word = false

-- rows in client memory begin at multiples of 1, 2, 4 or 8 (section 3.6.1)
pub record IsAligned (a : Alignments) : Type 0 where
  pub unpack : is_wrong_value Alignment a.unpack ≡ false
  pub pack : is_wrong_value Alignment a.pack ≡ false

-- a rule is broken by the word at its place; a word behind the last one is 0
abbrev pub any_word : (WordRule → ℕ → Bool) → List WordRule → List ℕ → Bool
any_word breaks [] words = false
any_word breaks (rule ∷ rules) [] = breaks rule 0 || any_word breaks rules []
any_word breaks (rule ∷ rules) (word ∷ words) = breaks rule word || any_word breaks rules words

-- an enum that a rule does not take; a number that a rule does not take
abbrev pub raster_refusal : ℕ → List ℕ → Option GlError
raster_refusal number words =
    if any_word is_wrong_enum (rules_of number) words then Some InvalidEnum
    else if any_word is_wrong_value (rules_of number) words then Some InvalidValue else None

-- What is kept

-- a signed number from 0 to this one
abbrev pub kept_within : ℕ → ℕ → ℕ
kept_within most word = if is_below_zero word then 0 else min word most

-- the word as it is kept
abbrev pub kept_word : WordRule → ℕ → ℕ
kept_word Any word = word
kept_word Flag word = if word == 0 then 0 else 1
kept_word Fraction word = clamped_pattern word
kept_word Width word = word
kept_word Capability word = word
kept_word BlendEquation word = word
kept_word SourceFactor word = word
kept_word DestinationFactor word = word
kept_word Face word = word
kept_word Function word = word
kept_word StencilOperation word = word
kept_word Winding word = word
kept_word HintTarget word = word
kept_word HintMode word = word
kept_word AlignmentName word = word
kept_word Alignment word = word
kept_word Side word = word
kept_word ViewportSide word = kept_within SIDE_LIMIT word
kept_word Reference word = kept_within LAST_STENCIL word

abbrev pub kept_by : List WordRule → List ℕ → List ℕ
kept_by [] words = []
kept_by (rule ∷ rules) [] = kept_word rule 0 ∷ kept_by rules []
kept_by (rule ∷ rules) (word ∷ words) = kept_word rule word ∷ kept_by rules words

-- the words of a command as they are kept
abbrev pub kept_words : ℕ → List ℕ → List ℕ
kept_words number words = kept_by (rules_of number) words

-- Effect

-- a capability is enabled, 1, or disabled, 0
abbrev pub with_capability : Capabilities → ℕ → ℕ → Capabilities
with_capability c capability on =
    if capability == enums.CULL_FACE.0 then record c { cull_face = on }
    else if capability == enums.BLEND.0 then record c { blend = on }
    else if capability == enums.DITHER.0 then record c { dither = on }
    else if capability == enums.STENCIL_TEST.0 then record c { stencil_test = on }
    else if capability == enums.DEPTH_TEST.0 then record c { depth_test = on }
    else if capability == enums.SCISSOR_TEST.0 then record c { scissor_test = on }
    else if capability == enums.POLYGON_OFFSET_FILL.0 then record c { polygon_offset_fill = on }
    else if capability == enums.SAMPLE_ALPHA_TO_COVERAGE.0 then record c { sample_alpha_to_coverage = on }
    else if capability == enums.SAMPLE_COVERAGE.0 then record c { sample_coverage = on }
    else c

-- the face is FRONT or FRONT_AND_BACK
abbrev pub names_front : ℕ → Bool
names_front face = not (face == enums.BACK.0)

-- the face is BACK or FRONT_AND_BACK
abbrev pub names_back : ℕ → Bool
names_back face = not (face == enums.FRONT.0)

abbrev pub changed_if : {T : Type 0} → Bool → (T → T) → T → T
changed_if wanted change x = if wanted then change x else x

-- the words of the faces that are named change
abbrev pub with_sides : RasterWords → ℕ → (StencilSide → StencilSide) → RasterWords
with_sides r face change = record r { stencil_front = changed_if (names_front face) change r.stencil_front; stencil_back = changed_if (names_back face) change r.stencil_back }

abbrev pub with_function : List ℕ → StencilSide → StencilSide
with_function words side = record side { function = slice_index words 1; reference = slice_index words 2; value_mask = slice_index words 3 }

abbrev pub with_operations : List ℕ → StencilSide → StencilSide
with_operations words side = record side { fail = slice_index words 1; depth_fail = slice_index words 2; depth_pass = slice_index words 3 }

abbrev pub with_write_mask : List ℕ → StencilSide → StencilSide
with_write_mask words side = record side { write_mask = slice_index words 1 }

-- the fixed state with the words of a command; PixelStorei sets the alignments, and none of it
abbrev pub raster_effect : RasterWords → ℕ → List ℕ → RasterWords
raster_effect r number words =
    if number == ENABLE then record r { capabilities = with_capability r.capabilities (slice_index words 0) 1 }
    else if number == DISABLE then record r { capabilities = with_capability r.capabilities (slice_index words 0) 0 }
    else if number == BLEND_COLOR then record r { blend_color = words }
    else if number == BLEND_EQUATION_SEPARATE then record r { blend_equation = words }
    else if number == BLEND_FUNC_SEPARATE then record r { blend_factors = words }
    else if number == CLEAR_COLOR then record r { clear_color = words }
    else if number == CLEAR_DEPTHF then record r { clear_depth = slice_index words 0 }
    else if number == CLEAR_STENCIL then record r { clear_stencil = slice_index words 0 }
    else if number == COLOR_MASK then record r { color_mask = words }
    else if number == CULL_FACE then record r { cull_face_mode = slice_index words 0 }
    else if number == DEPTH_FUNC then record r { depth_function = slice_index words 0 }
    else if number == DEPTH_MASK then record r { depth_mask = slice_index words 0 }
    else if number == DEPTH_RANGEF then record r { depth_range = words }
    else if number == FRONT_FACE then record r { front_face = slice_index words 0 }
    else if number == HINT then record r { mipmap_hint = slice_index words 1 }
    else if number == LINE_WIDTH then record r { line_width = slice_index words 0 }
    else if number == POLYGON_OFFSET then record r { polygon_offset = words }
    else if number == SAMPLE_COVERAGE then record r { sample_coverage = words }
    else if number == SCISSOR then record r { scissor = words }
    else if number == STENCIL_FUNC_SEPARATE then with_sides r (slice_index words 0) (with_function words)
    else if number == STENCIL_MASK_SEPARATE then with_sides r (slice_index words 0) (with_write_mask words)
    else if number == STENCIL_OP_SEPARATE then with_sides r (slice_index words 0) (with_operations words)
    else if number == VIEWPORT then record r { viewport = words }
    else r

-- the alignments with the words of a command; PixelStorei alone sets one
abbrev pub alignment_effect : Alignments → ℕ → List ℕ → Alignments
alignment_effect a number words =
    if not (number == PIXEL_STOREI) then a
    else if slice_index words 0 == enums.UNPACK_ALIGNMENT.0 then record a { unpack = slice_index words 1 }
    else record a { pack = slice_index words 1 }

-- The driver call

-- a driver keeps no alignments, so that PixelStorei makes no call
abbrev pub is_driver_raster : ℕ → Bool
is_driver_raster number = is_raster number && not (number == PIXEL_STOREI)

-- a driver is given the words of such a command, all of them, as they are kept
pub record IsSetRasterAllowed (number : ℕ) (words : List ℕ) : Type 0 where
  pub known : is_driver_raster number ≡ true
  pub whole : length words ≡ length (rules_of number)
  pub accepted : raster_refusal number words ≡ None
  pub kept : kept_words number words ≡ words

-- What is asked for (section 6.1.1)

abbrev pub capability_state : Capabilities → ℕ → Option (List ℕ)
capability_state c pname =
    if pname == enums.CULL_FACE.0 then Some (c.cull_face ∷ [])
    else if pname == enums.BLEND.0 then Some (c.blend ∷ [])
    else if pname == enums.DITHER.0 then Some (c.dither ∷ [])
    else if pname == enums.STENCIL_TEST.0 then Some (c.stencil_test ∷ [])
    else if pname == enums.DEPTH_TEST.0 then Some (c.depth_test ∷ [])
    else if pname == enums.SCISSOR_TEST.0 then Some (c.scissor_test ∷ [])
    else if pname == enums.POLYGON_OFFSET_FILL.0 then Some (c.polygon_offset_fill ∷ [])
    else if pname == enums.SAMPLE_ALPHA_TO_COVERAGE.0 then Some (c.sample_alpha_to_coverage ∷ [])
    else if pname == enums.SAMPLE_COVERAGE.0 then Some (c.sample_coverage ∷ [])
    else None

abbrev pub front_state : StencilSide → ℕ → Option (List ℕ)
front_state side pname =
    if pname == enums.STENCIL_FUNC.0 then Some (side.function ∷ [])
    else if pname == enums.STENCIL_REF.0 then Some (side.reference ∷ [])
    else if pname == enums.STENCIL_VALUE_MASK.0 then Some (side.value_mask ∷ [])
    else if pname == enums.STENCIL_WRITEMASK.0 then Some (side.write_mask ∷ [])
    else if pname == enums.STENCIL_FAIL.0 then Some (side.fail ∷ [])
    else if pname == enums.STENCIL_PASS_DEPTH_FAIL.0 then Some (side.depth_fail ∷ [])
    else if pname == enums.STENCIL_PASS_DEPTH_PASS.0 then Some (side.depth_pass ∷ [])
    else None

abbrev pub back_state : StencilSide → ℕ → Option (List ℕ)
back_state side pname =
    if pname == enums.STENCIL_BACK_FUNC.0 then Some (side.function ∷ [])
    else if pname == enums.STENCIL_BACK_REF.0 then Some (side.reference ∷ [])
    else if pname == enums.STENCIL_BACK_VALUE_MASK.0 then Some (side.value_mask ∷ [])
    else if pname == enums.STENCIL_BACK_WRITEMASK.0 then Some (side.write_mask ∷ [])
    else if pname == enums.STENCIL_BACK_FAIL.0 then Some (side.fail ∷ [])
    else if pname == enums.STENCIL_BACK_PASS_DEPTH_FAIL.0 then Some (side.depth_fail ∷ [])
    else if pname == enums.STENCIL_BACK_PASS_DEPTH_PASS.0 then Some (side.depth_pass ∷ [])
    else None

abbrev pub blend_state : RasterWords → ℕ → Option (List ℕ)
blend_state r pname =
    if pname == enums.BLEND_COLOR.0 then Some r.blend_color
    else if pname == enums.BLEND_EQUATION_RGB.0 then Some (slice_index r.blend_equation 0 ∷ [])
    else if pname == enums.BLEND_EQUATION_ALPHA.0 then Some (slice_index r.blend_equation 1 ∷ [])
    else if pname == enums.BLEND_SRC_RGB.0 then Some (slice_index r.blend_factors 0 ∷ [])
    else if pname == enums.BLEND_DST_RGB.0 then Some (slice_index r.blend_factors 1 ∷ [])
    else if pname == enums.BLEND_SRC_ALPHA.0 then Some (slice_index r.blend_factors 2 ∷ [])
    else if pname == enums.BLEND_DST_ALPHA.0 then Some (slice_index r.blend_factors 3 ∷ [])
    else None

-- what Clear writes, and what is written at all
abbrev pub write_state : RasterWords → ℕ → Option (List ℕ)
write_state r pname =
    if pname == enums.COLOR_CLEAR_VALUE.0 then Some r.clear_color
    else if pname == enums.DEPTH_CLEAR_VALUE.0 then Some (r.clear_depth ∷ [])
    else if pname == enums.STENCIL_CLEAR_VALUE.0 then Some (r.clear_stencil ∷ [])
    else if pname == enums.COLOR_WRITEMASK.0 then Some r.color_mask
    else if pname == enums.DEPTH_WRITEMASK.0 then Some (r.depth_mask ∷ [])
    else None

-- rectangles, faces, depths, lines and coverage
abbrev pub shape_state : RasterWords → ℕ → Option (List ℕ)
shape_state r pname =
    if pname == enums.VIEWPORT.0 then Some r.viewport
    else if pname == enums.SCISSOR_BOX.0 then Some r.scissor
    else if pname == enums.CULL_FACE_MODE.0 then Some (r.cull_face_mode ∷ [])
    else if pname == enums.FRONT_FACE.0 then Some (r.front_face ∷ [])
    else if pname == enums.DEPTH_FUNC.0 then Some (r.depth_function ∷ [])
    else if pname == enums.DEPTH_RANGE.0 then Some r.depth_range
    else if pname == enums.GENERATE_MIPMAP_HINT.0 then Some (r.mipmap_hint ∷ [])
    else if pname == enums.LINE_WIDTH.0 then Some (r.line_width ∷ [])
    else if pname == enums.POLYGON_OFFSET_FACTOR.0 then Some (slice_index r.polygon_offset 0 ∷ [])
    else if pname == enums.POLYGON_OFFSET_UNITS.0 then Some (slice_index r.polygon_offset 1 ∷ [])
    else if pname == enums.SAMPLE_COVERAGE_VALUE.0 then Some (slice_index r.sample_coverage 0 ∷ [])
    else if pname == enums.SAMPLE_COVERAGE_INVERT.0 then Some (slice_index r.sample_coverage 1 ∷ [])
    else None

abbrev pub alignment_state : Alignments → ℕ → Option (List ℕ)
alignment_state a pname =
    if pname == enums.UNPACK_ALIGNMENT.0 then Some (a.unpack ∷ [])
    else if pname == enums.PACK_ALIGNMENT.0 then Some (a.pack ∷ [])
    else None

-- the state of this name, or that of another kind where it has no such name
abbrev pub or_else : Option (List ℕ) → Option (List ℕ) → Option (List ℕ)
or_else (Some words) other = Some words
or_else None other = other

-- the words of a state of this name; no name is that of two
abbrev pub raster_state : RasterWords → Alignments → ℕ → Option (List ℕ)
raster_state r a pname =
    or_else (capability_state r.capabilities pname)
    (or_else (front_state r.stencil_front pname)
    (or_else (back_state r.stencil_back pname)
    (or_else (blend_state r pname)
    (or_else (write_state r pname)
    (or_else (shape_state r pname) (alignment_state a pname))))))
