use Rattle.std.proofs.Common.{◌≡◌, ◌+◌, drop}
use Rattle.gl_plain.specs.subjects.Links.{elements_in}
use Rattle.gl_base.specs.declared.limits.TheConstants.{UNIFORM_LIMIT}
use Rattle.gl_plain.proofs.links.has_room.Given as goal

-- what the uniforms ahead take beyond the room is what all take beyond the limit
abbrev pub invariant-loop-uniform : goal.invariant-loop-uniform
invariant-loop-uniform l = elements_in (drop l.uniform-index l.before) + UNIFORM_LIMIT ≡ elements_in l.before + l.room
