-- The state of the service with the parts that a command on images is lent, and what is left of a command there.
use Rattle.std.specs.Prelude.{◌≡◌, ℕ, false, None, List}
use Rattle.gl_plain.specs.declared.commands.ImageCommand.{ImageCommand}
use Rattle.gl_plain.specs.declared.commands.Command.TheVariants.{Image}
use Rattle.gl_plain.specs.declared.errors.Errors.{Errors}
use Rattle.gl_plain.specs.declared.image_words.PartWords.{PartWords}
use Rattle.gl_plain.specs.subjects.Textures.{AreTexturesSound}
use Rattle.gl_plain.specs.subjects.Images.{Covers, part_rect, with_cover, extended}
use Rattle.gl_plain.specs.image.Arguments.{image_is_bad, IsImageData}
use Rattle.gl_plain.specs.image.Refusal.{image_command_refusal}
use Rattle.gl_plain.specs.declared.image_words.CopyPartWords.{CopyPartWords}
use Rattle.gl_plain.specs.subjects.Copies.{copy_rect, copy_part_place}
use Rattle.gl_plain.specs.image.Covers.{part_place}
use Rattle.gl_plain.specs.subjects.Targets.{AreObjectsSound}
use Rattle.gl_plain.specs.State.{EsState, WireState, DriverState}
use Rattle.target_mgr.specs.declared.targets.Targets.{Targets}
use Rattle.target_mgr.specs.Tables.{renderbuffers, framebuffers, marks}
use Rattle.gl_plain.specs.Meaning.{Meaning, own_meaning, command_meaning}
use Rattle.gl_laws.specs.Laws.{MayGoOn}
use Rattle.texture_mgr.specs.declared.textures.Textures.{Textures}
use Rattle.texture_mgr.specs.Tables.{tables, covers}
use Rattle.svc_raster.specs.declared.raster.Raster.{Raster}

-- the tables of these textures, renderbuffers and framebuffers
abbrev pub targets_in : Textures → Targets → EsState → EsState
targets_in t g s = record s { textures = tables t; renderbuffers = renderbuffers g; framebuffers = framebuffers g }

-- the state with these textures, renderbuffers and framebuffers, what is written of them, the fixed state and the codes that are recorded
abbrev pub images_in : Textures → Targets → Raster → Errors → WireState → WireState
images_in t g r e w = record w {
  es = record w.es { textures = tables t; renderbuffers = renderbuffers g; framebuffers = framebuffers g; raster = r.words; alignments = r.alignments; errors = e };
  covers = covers t;
  marks = marks g;
}

-- what is left of a command behind its zeroings, once it was found to be neither malformed nor refused
abbrev pub own_part : ImageCommand → List ℕ → WireState → Meaning WireState
own_part c payload w = own_meaning w (Image c) payload

-- the rectangle of a part is entered
abbrev pub part_covers : EsState → PartWords → Covers → Covers
part_covers s part f = with_cover f (part_place s.textures.objects part) (extended (f (part_place s.textures.objects part)) (part_rect part))

abbrev pub part_written : PartWords → (WireState → WireState) → WireState → WireState
part_written part before w = record (before w) { covers = part_covers (before w).es part (before w).covers }

-- the rectangle of a copy is entered
abbrev pub copy_covers : EsState → CopyPartWords → Covers → Covers
copy_covers s copy f = with_cover f (copy_part_place s.textures.objects copy) (extended (f (copy_part_place s.textures.objects copy)) (copy_rect copy))

abbrev pub copy_written : CopyPartWords → (WireState → WireState) → WireState → WireState
copy_written copy before w = record (before w) { covers = copy_covers (before w).es copy (before w).covers }

-- the command is neither malformed nor refused, its data is what its words name, and its driver calls may be made
pub record IsReady (c : ImageCommand) (payload : List ℕ) (before : WireState → WireState) (d : DriverState) : Type 0 where
  pub others : WireState
  pub fair : image_is_bad (before others).es c ≡ false
  pub taken : image_command_refusal (before others).es c ≡ None
  pub given : IsImageData c payload
  pub sound : AreTexturesSound (before others).es.textures
  pub storage : AreObjectsSound (before others).es.renderbuffers
  pub may : MayGoOn (before others) d (Image c) payload

-- a command on images
abbrev pub means : ImageCommand → List ℕ → WireState → Meaning WireState
means c payload w = command_meaning w (Image c) payload
