-- The name spaces, and where each has its names, the numbers of its new objects, and its driver calls. A further name space is a line in
-- each definition.
use Rattle.std.specs.Prelude.{ℕ}
use Rattle.std.specs.Ordering.{nat_cmp}
use Rattle.std.specs.FinSet as set
use Rattle.gl_plain.specs.declared.driver_calls.DriverCall.{DriverCall}
use Rattle.gl_plain.specs.declared.driver_calls.DriverCall.TheVariants.{Object}
use Rattle.gl_plain.specs.declared.driver_calls.ObjectDriver.TheVariants as calls
use Rattle.gl_plain.specs.subjects.Names.{Names, named}
use Rattle.gl_plain.specs.Oracle.{Oracle}
use Rattle.gl_plain.specs.State.{EsState, DriverTables, NamesGiven}

-- a name space
pub data Space : Type 0 where
  Buffers : Space
  Textures : Space
  Renderbuffers : Space
  Framebuffers : Space

-- its names in use
abbrev pub names_in : Space → EsState → Names
names_in Buffers s = s.buffers.names
names_in Textures s = s.textures.names
names_in Renderbuffers s = s.renderbuffers.names
names_in Framebuffers s = s.framebuffers.names

-- the state with other names in it
abbrev pub with_names : Space → Names → EsState → EsState
with_names Buffers names s = record s { buffers = record s.buffers { names = names } }
with_names Textures names s = record s { textures = record s.textures { names = names } }
with_names Renderbuffers names s = record s { renderbuffers = record s.renderbuffers { names = names } }
with_names Framebuffers names s = record s { framebuffers = record s.framebuffers { names = names } }

-- a name comes into use with this number
abbrev pub with_name : Space → ℕ → ℕ → EsState → EsState
with_name space id number s = with_names space (named (names_in space s) id number) s

-- the numbers that its new objects get
abbrev pub numbers_in : Space → Oracle → ℕ → ℕ
numbers_in Buffers o = o.buffers
numbers_in Textures o = o.textures
numbers_in Renderbuffers o = o.renderbuffers
numbers_in Framebuffers o = o.framebuffers

-- the answers with other numbers for it
abbrev pub with_numbers : Space → (ℕ → ℕ) → Oracle → Oracle
with_numbers Buffers numbers o = record o { buffers = numbers }
with_numbers Textures numbers o = record o { textures = numbers }
with_numbers Renderbuffers numbers o = record o { renderbuffers = numbers }
with_numbers Framebuffers numbers o = record o { framebuffers = numbers }

-- the driver call for a new name
abbrev pub gen_call : Space → DriverCall
gen_call Buffers = Object calls.GenBuffer
gen_call Textures = Object calls.GenTexture
gen_call Renderbuffers = Object calls.GenRenderbuffer
gen_call Framebuffers = Object calls.GenFramebuffer

-- the names that the driver ever gave
abbrev pub given_in : Space → NamesGiven → set.FinSet nat_cmp
given_in Buffers given = given.buffers
given_in Textures given = given.textures
given_in Renderbuffers given = given.renderbuffers
given_in Framebuffers given = given.framebuffers

-- a new name of the driver's is live, and counts as given
abbrev pub with_given : Space → ℕ → DriverTables → DriverTables
with_given Buffers n t = record t { buffers = record t.buffers { names = named t.buffers.names n n }; given = record t.given { buffers = set.insert t.given.buffers n } }
with_given Textures n t = record t { textures = record t.textures { names = named t.textures.names n n }; given = record t.given { textures = set.insert t.given.textures n } }
with_given Renderbuffers n t = record t { renderbuffers = record t.renderbuffers { names = named t.renderbuffers.names n n }; given = record t.given { renderbuffers = set.insert t.given.renderbuffers n } }
with_given Framebuffers n t = record t { framebuffers = record t.framebuffers { names = named t.framebuffers.names n n }; given = record t.given { framebuffers = set.insert t.given.framebuffers n } }
