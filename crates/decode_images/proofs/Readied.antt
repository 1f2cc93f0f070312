-- A command on images that is ready goes by neither the data nor the codes that it does not look at.
use Rattle.std.proofs.Common.{◌≡◌, ℤ, ℕ, List, [], ◌∷◌, None, refl, sym, ap, ◌∙◌}
use Rattle.gl_base.specs.declared.gl_enum.GlEnum.{GlEnum}
use Rattle.gl_plain.specs.declared.commands.Command.TheVariants.{Image}
use Rattle.gl_plain.specs.declared.commands.ImageCommand.TheVariants.{CopyTexImage2D, CopyTexSubImage2D, GenerateMipmap, RenderbufferStorage}
use Rattle.gl_plain.specs.declared.driver_calls.DriverCall.TheVariants as driver
use Rattle.gl_plain.specs.declared.driver_calls.ImageDriver.TheVariants as calls
use Rattle.gl_plain.specs.declared.errors.Errors.{Errors}
use Rattle.gl_plain.specs.declared.image_words.CopyWords.{CopyWords}
use Rattle.gl_plain.specs.declared.image_words.CopyPartWords.{CopyPartWords}
use Rattle.gl_plain.specs.Oracle.{Oracle, default_answers}
use Rattle.gl_plain.specs.State.{WireState, DriverState}
use Rattle.gl_plain.specs.Wire.{calls_by, command_calls}
use Rattle.gl_plain.specs.driver.Allowed.{IsAllowed}
use Rattle.gl_plain.specs.driver.Answers.{told}
use Rattle.texture_mgr.specs.declared.textures.Textures.{Textures}
use Rattle.target_mgr.specs.declared.targets.Targets.{Targets}
use Rattle.svc_raster.specs.declared.raster.Raster.{Raster}
use Rattle.decode_images.specs.States.{IsReady, images_in}

module _ (x : Textures) (g : Targets) (r : Raster) (e : Errors) (d : DriverState) (payload : List ℕ) where
  pub ready_copy : (copy : CopyWords) (other : List ℕ) → IsReady (CopyTexImage2D copy) payload (images_in x g r e) d → IsReady (CopyTexImage2D copy) other (images_in x g r e) d
  ready_copy copy other ready =
      let before : WireState → WireState = images_in x g r e in
      let same : (o : Oracle) → command_calls (before ready.others) (Image (CopyTexImage2D copy)) other o ≡ command_calls (before ready.others) (Image (CopyTexImage2D copy)) payload o =
      λ o. ap (λ refused. calls_by refused (before ready.others) (Image (CopyTexImage2D copy)) other o) ready.taken
      ∙ sym (ap (λ refused. calls_by refused (before ready.others) (Image (CopyTexImage2D copy)) payload o) ready.taken) in
      record { others = ready.others; fair = ready.fair; taken = ready.taken; given = tt; sound = ready.sound; storage = ready.storage; may = λ o es next more legal front. ready.may o es next more legal (front ∙ same (told es o)) }

  pub ready_copy_part : (copy : CopyPartWords) (other : List ℕ) (errors : Errors) → IsReady (CopyTexSubImage2D copy) payload (images_in x g r e) d → IsReady (CopyTexSubImage2D copy) other (images_in x g r errors) d
  ready_copy_part copy other errors ready =
      let same : (o : Oracle) → command_calls (images_in x g r errors ready.others) (Image (CopyTexSubImage2D copy)) other o ≡ command_calls (images_in x g r e ready.others) (Image (CopyTexSubImage2D copy)) payload o =
      λ o. ap (λ refused. calls_by refused (images_in x g r errors ready.others) (Image (CopyTexSubImage2D copy)) other o) ready.taken
      ∙ sym (ap (λ refused. calls_by refused (images_in x g r e ready.others) (Image (CopyTexSubImage2D copy)) payload o) ready.taken) in
      record { others = ready.others; fair = ready.fair; taken = ready.taken; given = tt; sound = ready.sound; storage = ready.storage; may = λ o es next more legal front. ready.may o es next more legal (front ∙ same (told es o)) }

  pub ready_mipmap : (to : GlEnum) (other : List ℕ) (errors : Errors) → IsReady (GenerateMipmap to) payload (images_in x g r e) d → IsReady (GenerateMipmap to) other (images_in x g r errors) d
  ready_mipmap to other errors ready =
      let same : (o : Oracle) → command_calls (images_in x g r errors ready.others) (Image (GenerateMipmap to)) other o ≡ command_calls (images_in x g r e ready.others) (Image (GenerateMipmap to)) payload o =
      λ o. ap (λ refused. calls_by refused (images_in x g r errors ready.others) (Image (GenerateMipmap to)) other o) ready.taken
      ∙ sym (ap (λ refused. calls_by refused (images_in x g r e ready.others) (Image (GenerateMipmap to)) payload o) ready.taken) in
      record { others = ready.others; fair = ready.fair; taken = ready.taken; given = tt; sound = ready.sound; storage = ready.storage; may = λ o es next more legal front. ready.may o es next more legal (front ∙ same (told es o)) }

  -- storage that is not refused may be asked for
  pub storage_allowed : (to format : GlEnum) (width height : ℤ) → IsReady (RenderbufferStorage to format width height) payload (images_in x g r e) d → IsAllowed d (driver.Image (calls.RenderbufferStorage format width height))
  storage_allowed to format width height ready =
      ready.may default_answers [] (driver.Image (calls.RenderbufferStorage format width height)) [] tt
      (sym (ap (λ refused. calls_by refused (images_in x g r e ready.others) (Image (RenderbufferStorage to format width height)) payload default_answers) ready.taken))
