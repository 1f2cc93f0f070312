-- The executable that a link makes.
use Rattle.std.specs.Prelude.{List, true, replicate}
use Rattle.gl_plain.specs.declared.programs.Attribute.{Attribute}
use Rattle.gl_plain.specs.declared.programs.Uniform.{Uniform}
use Rattle.gl_plain.specs.declared.programs.Executable.{Executable}
use Rattle.gl_plain.specs.subjects.Links.{words_in}
use Rattle.program_mgr.specs.declared.past.Past.{Past}

-- from what was done to a program, and what the linker says is active: all uniforms are zero
abbrev pub linked_from : Past → List Attribute → List Uniform → Executable
linked_from past attributes uniforms = record {
  vertex = past.vertex;
  fragment = past.fragment;
  bound = past.bound;
  answer = record { ok = true; log = past.log; attributes = attributes; uniforms = uniforms };
  values = replicate (words_in uniforms) 0;
}
