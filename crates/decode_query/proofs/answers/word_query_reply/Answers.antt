use Rattle.std.proofs.Common.{◌≡◌, ℕ, ap, ◌∙◌}
use Rattle.gl_plain.specs.declared.calls.Reply.TheVariants as reply
use Rattle.gl_plain.specs.declared.targets.Target.{Target}
use Rattle.gl_plain.specs.State.{opening}
use Rattle.gl_plain.specs.query.Words as d
use Rattle.gl_plain.specs.subjects.Parameters.{flag}
use Rattle.gl_plain.specs.subjects.Targets.{target_status}
use Rattle.target_mgr.specs.Tables.{renderbuffers}
use Rattle.texture_mgr.specs.Tables.{tables}
use Rattle.decode_query.proofs.QueriedState.{attribute_within}
use Rattle.decode_query.proofs.answers.word_query_reply.Goals as goal
use Rattle.decode_query.proofs.answers.word_query_reply.Goals.{in-GetMaxIndex+in-Some, in-CheckFramebufferStatus, in-GetBufferParameteriv, in-GetTexParameteriv, in-GetRenderbufferParameteriv, in-GetFramebufferAttachmentParameteriv, in-GetShaderiv, in-GetProgramiv, in-IsObject}

pub returns-in-GetValue : goal.returns-in-GetValue
returns-in-GetValue c = λ s. rw c.in-GetValue.is (ap reply.Words (c.in_ok-get_value-in-GetValue.ensures s))

pub get_vertex_attrib-words-requires : goal.get_vertex_attrib-words-requires
get_vertex_attrib-words-requires c =
    attribute_within c.in-GetVertexAttrib.index c.in-GetVertexAttrib.pname c.in-GetVertexAttrib.float (rw c.in-GetVertexAttrib.is at (c.requires.taken (opening (0, 0))))

pub returns-in-None : goal.returns-in-None
returns-in-None c = λ s. rw c.in-GetMaxIndex.is (ap d.word_reply (c.in-None.ensures s))

pub returns : goal.returns
returns c = λ s. elim c.match-query.branch [
  | in-GetMaxIndex+in-Some w ↦ ap reply.Word w.word-is ∙ rw w.in-GetMaxIndex.is (ap d.word_reply (w.in-Some.ensures s))
  | in-CheckFramebufferStatus w ↦ ap reply.Word w.word-is
      ∙ rw w.in-CheckFramebufferStatus.is (ap reply.Word (w.target_status-word.ensures ∙ ap (λ (t : Target). target_status (tables c.args.asked.textures.now).objects (renderbuffers c.args.asked.targets.now).objects t) w.target.ensures))
  | in-GetBufferParameteriv w ↦ ap reply.Word w.word-is ∙ rw w.in-GetBufferParameteriv.is (ap reply.Word w.buffer_parameter-word.ensures)
  | in-GetTexParameteriv w ↦ ap reply.Word w.word-is ∙ rw w.in-GetTexParameteriv.is (ap reply.Word w.parameter-word.ensures)
  | in-GetRenderbufferParameteriv w ↦ ap reply.Word w.word-is ∙ rw w.in-GetRenderbufferParameteriv.is (ap reply.Word w.renderbuffer_parameter-word.ensures)
  | in-GetFramebufferAttachmentParameteriv w ↦ ap reply.Word w.word-is ∙ rw w.in-GetFramebufferAttachmentParameteriv.is (ap reply.Word w.attachment_parameter-word.ensures)
  | in-GetShaderiv w ↦ ap reply.Word w.word-is ∙ rw w.in-GetShaderiv.is (ap reply.Word w.shader_parameter-word.ensures)
  | in-GetProgramiv w ↦ ap reply.Word w.word-is ∙ rw w.in-GetProgramiv.is (ap reply.Word w.program_parameter-word.ensures)
  | in-IsObject w ↦ ap reply.Word w.word-is ∙ rw w.in-IsObject.is (ap reply.Word (w.from-word.ensures ∙ ap flag (w.is_object_named.ensures s)))
]
