-- An element of a uniform, as it is found in an executable.
use Rattle.gl_plain.specs.subjects.Uniforms.{ElementPlace}
use Rattle.program_mgr.specs.declared.element.Element.{Element}

-- the element that is meant
abbrev pub element_of : Element → ElementPlace
element_of e = record { uniform = e.uniform.now; element = e.element; word = e.word }
