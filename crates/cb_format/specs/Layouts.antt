-- How each command is laid out: the words behind its header, and where in them the words of its data or of its reply stand.
use Rattle.std.specs.Prelude.{◌≡◌, ◌≤◌, ℕ, true, false, ◌+◌, ◌==◌, if◌then◌else◌, List, [], ◌∷◌, ◌++◌, Option, None, Some, IfSome}
use Rattle.std.specs.Option.{OnSome}
use Rattle.std.specs.Map.{lookup}
use Rattle.gl_plain.specs.declared.numbers.TheConstants.{NOOP, SET_TOKEN, SET_BUCKET_SIZE, SET_BUCKET_DATA, GET_BUCKET_START, GET_BUCKET_DATA, ACTIVE_TEXTURE, GEN_BUFFERS, BIND_BUFFER, BUFFER_DATA, BUFFER_SUB_DATA, DELETE_BUFFERS, GEN_TEXTURES, BIND_TEXTURE, DELETE_TEXTURES, TEX_IMAGE_2D, TEX_SUB_IMAGE_2D, COPY_TEX_IMAGE_2D, COPY_TEX_SUB_IMAGE_2D, TEX_PARAMETERI, GENERATE_MIPMAP, GEN_RENDERBUFFERS, BIND_RENDERBUFFER, DELETE_RENDERBUFFERS, RENDERBUFFER_STORAGE, GEN_FRAMEBUFFERS, BIND_FRAMEBUFFER, DELETE_FRAMEBUFFERS, FRAMEBUFFER_TEXTURE_2D, FRAMEBUFFER_RENDERBUFFER, CREATE_SHADER, SHADER_SOURCE, COMPILE_SHADER, DELETE_SHADER, CREATE_PROGRAM, ATTACH_SHADER, DETACH_SHADER, BIND_ATTRIB_LOCATION, LINK_PROGRAM, VALIDATE_PROGRAM, USE_PROGRAM, DELETE_PROGRAM, UNIFORM, VERTEX_ATTRIB_4F, VERTEX_ATTRIB_POINTER, ENABLE_VERTEX_ATTRIB_ARRAY, DISABLE_VERTEX_ATTRIB_ARRAY, ENABLE, DISABLE, BLEND_COLOR, BLEND_EQUATION_SEPARATE, BLEND_FUNC_SEPARATE, CLEAR_COLOR, CLEAR_DEPTHF, CLEAR_STENCIL, COLOR_MASK, CULL_FACE, DEPTH_FUNC, DEPTH_MASK, DEPTH_RANGEF, FRONT_FACE, HINT, LINE_WIDTH, PIXEL_STOREI, POLYGON_OFFSET, SAMPLE_COVERAGE, SCISSOR, STENCIL_FUNC_SEPARATE, STENCIL_MASK_SEPARATE, STENCIL_OP_SEPARATE, VIEWPORT, CLEAR, DRAW_ARRAYS, DRAW_ELEMENTS, READ_PIXELS, FLUSH, FINISH, GET_ERROR, GET_VALUE, CHECK_FRAMEBUFFER_STATUS, GET_BUFFER_PARAMETERIV, GET_TEX_PARAMETERIV, GET_RENDERBUFFER_PARAMETERIV, GET_FRAMEBUFFER_ATTACHMENT_PARAMETERIV, GET_VERTEX_ATTRIB, GET_SHADERIV, GET_PROGRAMIV, GET_SHADER_INFO_LOG, GET_PROGRAM_INFO_LOG, GET_SHADER_SOURCE, GET_PROGRAM_TABLE, GET_UNIFORM, IS_OBJECT, GET_ATTACHED_SHADERS, GET_MAX_INDEX}
use Rattle.cb_format.specs.declared.layouts.Layout.{Layout}

-- no words are read, however many entries the command has
abbrev pub of_any_size : Layout
of_any_size = record { words = 0; any_size = true; payload_at = None; result_at = None; result_words = 0 }

-- so many words, none of them of data or of a reply in shared memory
abbrev pub plain : ℕ → Layout
plain words = record { words = words; any_size = false; payload_at = None; result_at = None; result_words = 0 }

-- so many words, and then the four of the command's data
abbrev pub with_data : ℕ → Layout
with_data before = record { words = before + 4; any_size = false; payload_at = Some before; result_at = None; result_words = 0 }

-- so many words, and then the two that say where a reply of at most so many words goes
abbrev pub with_reply : ℕ → ℕ → Layout
with_reply before most = record { words = before + 2; any_size = false; payload_at = None; result_at = Some before; result_words = most }

-- the commands of the buffer: the number, the layout, and the words, each with its form: e an enum, i a signed number, u an unsigned
-- one, f a float, b a boolean; B is one word, a bucket; D the four words of data; R(k) the two words of a reply of at most k words
abbrev pub buffer_rows : List (ℕ × Layout)
buffer_rows =
    (NOOP, of_any_size) ∷  -- no words
    (SET_TOKEN, plain 1) ∷  -- token:u
    (SET_BUCKET_SIZE, plain 2) ∷  -- bucket:u size:u
    (SET_BUCKET_DATA, with_data 2) ∷  -- bucket:u offset:u D
    (GET_BUCKET_START, with_reply 1 1) ∷  -- B R(1)
    (GET_BUCKET_DATA, plain 5) ∷  -- bucket:u offset:u count:u region:u place:u
    []

-- the commands of OpenGL ES
abbrev pub gl_rows : List (ℕ × Layout)
gl_rows =
    (ACTIVE_TEXTURE, plain 1) ∷  -- unit:e
    (GEN_BUFFERS, plain 1) ∷  -- id:u
    (BIND_BUFFER, plain 2) ∷  -- target:e id:u
    (BUFFER_DATA, with_data 3) ∷  -- target:e size:i usage:e D
    (BUFFER_SUB_DATA, with_data 3) ∷  -- target:e offset:i size:i D
    (DELETE_BUFFERS, plain 1) ∷  -- id:u
    (GEN_TEXTURES, plain 1) ∷  -- id:u
    (BIND_TEXTURE, plain 2) ∷  -- target:e id:u
    (DELETE_TEXTURES, plain 1) ∷  -- id:u
    (TEX_IMAGE_2D, with_data 8) ∷  -- target:e level:i internal:e width:i height:i border:i format:e kind:e D
    (TEX_SUB_IMAGE_2D, with_data 8) ∷  -- target:e level:i x:i y:i width:i height:i format:e kind:e D
    (COPY_TEX_IMAGE_2D, plain 8) ∷  -- target:e level:i internal:e x:i y:i width:i height:i border:i
    (COPY_TEX_SUB_IMAGE_2D, plain 8) ∷  -- target:e level:i xoffset:i yoffset:i x:i y:i width:i height:i
    (TEX_PARAMETERI, plain 3) ∷  -- target:e pname:e value:e
    (GENERATE_MIPMAP, plain 1) ∷  -- target:e
    (GEN_RENDERBUFFERS, plain 1) ∷  -- id:u
    (BIND_RENDERBUFFER, plain 2) ∷  -- target:e id:u
    (DELETE_RENDERBUFFERS, plain 1) ∷  -- id:u
    (RENDERBUFFER_STORAGE, plain 4) ∷  -- target:e format:e width:i height:i
    (GEN_FRAMEBUFFERS, plain 1) ∷  -- id:u
    (BIND_FRAMEBUFFER, plain 2) ∷  -- target:e id:u
    (DELETE_FRAMEBUFFERS, plain 1) ∷  -- id:u
    (FRAMEBUFFER_TEXTURE_2D, plain 5) ∷  -- target:e attachment:e textarget:e texture:u level:i
    (FRAMEBUFFER_RENDERBUFFER, plain 4) ∷  -- target:e attachment:e rbtarget:e renderbuffer:u
    (CREATE_SHADER, with_reply 2 1) ∷  -- id:u kind:e R(1)
    (SHADER_SOURCE, with_data 1) ∷  -- shader:u D
    (COMPILE_SHADER, plain 1) ∷  -- shader:u
    (DELETE_SHADER, plain 1) ∷  -- shader:u
    (CREATE_PROGRAM, with_reply 1 1) ∷  -- id:u R(1)
    (ATTACH_SHADER, plain 2) ∷  -- program:u shader:u
    (DETACH_SHADER, plain 2) ∷  -- program:u shader:u
    (BIND_ATTRIB_LOCATION, with_data 2) ∷  -- program:u index:u D
    (LINK_PROGRAM, plain 1) ∷  -- program:u
    (VALIDATE_PROGRAM, plain 1) ∷  -- program:u
    (USE_PROGRAM, plain 1) ∷  -- program:u
    (DELETE_PROGRAM, plain 1) ∷  -- program:u
    (UNIFORM, with_data 4) ∷  -- location:i kind:u count:i transpose:b D
    (VERTEX_ATTRIB_4F, plain 5) ∷  -- index:u x:f y:f z:f w:f
    (VERTEX_ATTRIB_POINTER, plain 6) ∷  -- index:u size:i kind:e normalized:b stride:i offset:u
    (ENABLE_VERTEX_ATTRIB_ARRAY, plain 1) ∷  -- index:u
    (DISABLE_VERTEX_ATTRIB_ARRAY, plain 1) ∷  -- index:u
    (ENABLE, plain 1) ∷  -- cap:e
    (DISABLE, plain 1) ∷  -- cap:e
    (BLEND_COLOR, plain 4) ∷  -- f f f f
    (BLEND_EQUATION_SEPARATE, plain 2) ∷  -- rgb:e alpha:e
    (BLEND_FUNC_SEPARATE, plain 4) ∷  -- srcrgb:e dstrgb:e srcalpha:e dstalpha:e
    (CLEAR_COLOR, plain 4) ∷  -- f f f f
    (CLEAR_DEPTHF, plain 1) ∷  -- f
    (CLEAR_STENCIL, plain 1) ∷  -- i
    (COLOR_MASK, plain 4) ∷  -- b b b b
    (CULL_FACE, plain 1) ∷  -- e
    (DEPTH_FUNC, plain 1) ∷  -- e
    (DEPTH_MASK, plain 1) ∷  -- b
    (DEPTH_RANGEF, plain 2) ∷  -- f f
    (FRONT_FACE, plain 1) ∷  -- e
    (HINT, plain 2) ∷  -- target:e mode:e
    (LINE_WIDTH, plain 1) ∷  -- f
    (PIXEL_STOREI, plain 2) ∷  -- pname:e value:i
    (POLYGON_OFFSET, plain 2) ∷  -- factor:f units:f
    (SAMPLE_COVERAGE, plain 2) ∷  -- value:f invert:b
    (SCISSOR, plain 4) ∷  -- x:i y:i width:i height:i
    (STENCIL_FUNC_SEPARATE, plain 4) ∷  -- face:e function:e ref:i mask:u
    (STENCIL_MASK_SEPARATE, plain 2) ∷  -- face:e mask:u
    (STENCIL_OP_SEPARATE, plain 4) ∷  -- face:e fail:e zfail:e zpass:e
    (VIEWPORT, plain 4) ∷  -- x:i y:i width:i height:i
    (CLEAR, plain 1) ∷  -- mask:u
    (DRAW_ARRAYS, plain 3) ∷  -- mode:e first:i count:i
    (DRAW_ELEMENTS, plain 4) ∷  -- mode:e count:i kind:e offset:u
    (READ_PIXELS, plain 7) ∷  -- x:i y:i width:i height:i format:e kind:e B
    (FLUSH, plain 0) ∷  --
    (FINISH, plain 0) ∷  --
    (GET_ERROR, with_reply 0 1) ∷  -- R(1)
    (GET_VALUE, with_reply 2 4) ∷  -- form:u pname:e R(4)
    (CHECK_FRAMEBUFFER_STATUS, with_reply 1 1) ∷  -- target:e R(1)
    (GET_BUFFER_PARAMETERIV, with_reply 2 1) ∷  -- target:e pname:e R(1)
    (GET_TEX_PARAMETERIV, with_reply 2 1) ∷  -- target:e pname:e R(1)
    (GET_RENDERBUFFER_PARAMETERIV, with_reply 2 1) ∷  -- target:e pname:e R(1)
    (GET_FRAMEBUFFER_ATTACHMENT_PARAMETERIV, with_reply 3 1) ∷  -- target:e attachment:e pname:e R(1)
    (GET_VERTEX_ATTRIB, with_reply 3 4) ∷  -- index:u pname:e float:b R(4)
    (GET_SHADERIV, with_reply 2 1) ∷  -- shader:u pname:e R(1)
    (GET_PROGRAMIV, with_reply 2 1) ∷  -- program:u pname:e R(1)
    (GET_SHADER_INFO_LOG, plain 2) ∷  -- shader:u B
    (GET_PROGRAM_INFO_LOG, plain 2) ∷  -- program:u B
    (GET_SHADER_SOURCE, plain 2) ∷  -- shader:u B
    (GET_PROGRAM_TABLE, plain 2) ∷  -- program:u B
    (GET_UNIFORM, with_reply 3 16) ∷  -- program:u location:i form:u R(16)
    (IS_OBJECT, with_reply 2 1) ∷  -- kind:u id:u R(1)
    (GET_ATTACHED_SHADERS, plain 2) ∷  -- program:u B
    (GET_MAX_INDEX, with_reply 3 1) ∷  -- offset:u count:i kind:e R(1)
    []

-- a command has at most 16 words, and none where its size is free; a reply has at most 16 words; the words of data are the last four,
-- those of a reply the last two, and no command has both
pub record IsFitting (l : Layout) : Type 0 where
  pub words_fit : l.words ≤ 16
  pub free_has_none : l.any_size ≡ true → l.words ≡ 0
  pub reply_fits : l.result_words ≤ 16
  pub payload_ends : IfSome l.payload_at (λ at. at + 4 ≡ l.words)
  pub result_ends : IfSome l.result_at (λ at. at + 2 ≡ l.words)
  pub one_alone : OnSome l.payload_at (l.result_at ≡ None)

-- the layout of a command, or none for a number that no command has
unfoldable pub layout_of : ℕ → Option Layout
layout_of number = lookup (λ n. number == n) (buffer_rows ++ gl_rows)
