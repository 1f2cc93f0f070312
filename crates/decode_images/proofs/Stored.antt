-- An image that a driver was given, by what it answered.
use Rattle.std.proofs.Common.{◌≡◌, ℕ, List, [], ◌∷◌, Option, None, Some, is_some, Ok, Bor, refl, sym, ap}
use Rattle.gl_plain.specs.declared.calls.Payload.{Payload}
use Rattle.gl_plain.specs.declared.calls.Payload.TheVariants.{Absent, Here}
use Rattle.gl_plain.specs.declared.textures.LevelView.{LevelView}
use Rattle.gl_plain.specs.declared.calls.Reply.TheVariants as reply
use Rattle.gl_plain.specs.declared.commands.DataWords.{DataWords}
use Rattle.gl_plain.specs.declared.commands.ImageCommand.TheVariants.{TexImage2D, CopyTexImage2D}
use Rattle.gl_plain.specs.declared.driver_calls.DriverCall.{DriverCall}
use Rattle.gl_plain.specs.declared.driver_calls.DriverCall.TheVariants.{Image}
use Rattle.gl_plain.specs.declared.driver_calls.ImageDriver.TheVariants.{TexImage, CopyTexImage}
use Rattle.gl_plain.specs.declared.driver_calls.Stored.{Stored}
use Rattle.gl_plain.specs.declared.driver_calls.Stored.TheVariants.{Done, Oom}
use Rattle.gl_plain.specs.declared.errors.GlError.TheVariants.{OutOfMemory}
use Rattle.gl_plain.specs.declared.image_words.CopyWords.{CopyWords}
use Rattle.gl_plain.specs.declared.image_words.ImageWords.{ImageWords}
use Rattle.gl_plain.specs.Outcome.{with_error}
use Rattle.gl_plain.specs.State.{WireState}
use Rattle.gl_plain.specs.Words.{natural}
use Rattle.gl_plain.specs.image.Step.{with_objects}
use Rattle.gl_base.specs.Rects.{whole}
use Rattle.gl_plain.specs.subjects.Copies.{copy_image, copy_place}
use Rattle.gl_plain.specs.subjects.Data.{payload_of}
use Rattle.gl_plain.specs.subjects.Images.{new_cover, tex_image_effect, unpadded_payload, view_of, with_cover}
use Rattle.gl_plain.specs.subjects.Textures.{place_bound}
use Rattle.gl_plain.specs.driver.Answers.{stored_answer}
use Rattle.gl_driver.specs.History.{History, Served}
use Rattle.gl_driver.specs.Performed.{Acts}
use Rattle.gl_driver.proofs.Exits.{ends_done}
use Rattle.gl_driver.specs.Payloads.{payload_given}
use Rattle.texture_mgr.specs.Kept.{first_written}
use Rattle.decode_images.specs.States.{own_part}

-- what is written of a new image, by whether there are rows
pub covers_given : (i : ImageWords) (v : LevelView) (alignment : ℕ) (rows : Option (Bor (List ℕ))) (p : Payload) → payload_given rows ≡ unpadded_payload i alignment p → first_written (is_some rows) v ≡ new_cover p v
covers_given i v alignment None Absent is = refl
covers_given i v alignment None (Here bytes) is = cc
covers_given i v alignment (Some rows) Absent is = cc
covers_given i v alignment (Some rows) (Here bytes) is = refl

module _ (i : ImageWords) (words : DataWords) (payload : List ℕ) where
  -- the state behind it: with the new image, or with the code that there was no room
  abbrev pub stored_state : Stored → WireState → WireState
  stored_state Done w = record w {
    es = with_objects w.es (tex_image_effect w.es.textures.objects i.target (natural i.level) (view_of i));
    covers = with_cover w.covers (place_bound w.es.textures.objects i.target (natural i.level)) (new_cover (payload_of words payload) (view_of i));
  }
  stored_state Oom w = record w { es = with_error w.es OutOfMemory }

  abbrev pub image_call : Payload → DriverCall
  image_call bytes = Image (TexImage i.target i.level i.format i.kind i.width i.height bytes)

  module _ {D : Type 0} {history : D → History} {grown : D → D → Type 0} (bytes : Payload) {before after : WireState → WireState} (is : (s : WireState) → bytes ≡ unpadded_payload i (before s).es.alignments.unpack (payload_of words payload)) {d d2 : D} where
    pub ends_stored : (answer : Stored) → Served history grown d d2 (record { call = image_call bytes; answer = stored_answer answer } ∷ []) → (history d2).stop ≡ (history d).stop → ((s : WireState) → after s ≡ stored_state answer (before s))
        → Acts history grown (own_part (TexImage2D i words) payload) before after d d2 (Ok reply.None)
    ends_stored Done served going then =
        ends_done served going (λ s. refl) (λ s o. ap (λ (p : Payload). image_call p ∷ []) (is s)) (λ s o. λ i. record { state = sym (then s) i; oracle = o; reply = reply.None })
    ends_stored Oom served going then =
        ends_done served going (λ s. refl) (λ s o. ap (λ (p : Payload). image_call p ∷ []) (is s)) (λ s o. λ i. record { state = sym (then s) i; oracle = o; reply = reply.None })

-- the same of an image that a copy makes
module _ (copy : CopyWords) (payload : List ℕ) where
  abbrev pub copied_state : Stored → WireState → WireState
  copied_state Done w = record w {
    es = with_objects w.es (tex_image_effect w.es.textures.objects copy.target (natural copy.level) (view_of (copy_image copy)));
    covers = with_cover w.covers (copy_place w.es.textures.objects copy) (whole (natural copy.width) (natural copy.height));
  }
  copied_state Oom w = record w { es = with_error w.es OutOfMemory }

  abbrev pub copy_call : DriverCall
  copy_call = Image (CopyTexImage copy.target copy.level copy.internal copy.x copy.y copy.width copy.height)

  module _ {D : Type 0} {history : D → History} {grown : D → D → Type 0} {before after : WireState → WireState} {d d2 : D} where
    pub ends_copied : (answer : Stored) → Served history grown d d2 (record { call = copy_call; answer = stored_answer answer } ∷ []) → (history d2).stop ≡ (history d).stop → ((s : WireState) → after s ≡ copied_state answer (before s))
        → Acts history grown (own_part (CopyTexImage2D copy) payload) before after d d2 (Ok reply.None)
    ends_copied Done served going then =
        ends_done served going (λ s. refl) (λ s o. refl) (λ s o. λ i. record { state = sym (then s) i; oracle = o; reply = reply.None })
    ends_copied Oom served going then =
        ends_done served going (λ s. refl) (λ s o. refl) (λ s o. λ i. record { state = sym (then s) i; oracle = o; reply = reply.None })
