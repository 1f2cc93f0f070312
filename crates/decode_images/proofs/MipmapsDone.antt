-- GenerateMipmap where it is not refused: level 0 made whole, and the levels made of it.
use Rattle.std.proofs.Common.{◌≡◌, ℕ, List, [], ◌∷◌, None, Result, Ok, Err, refl, sym, ap, ◌∙◌, subst}
use Rattle.std.specs.Prelude.{map}
use Rattle.std.specs.Result.{IsErrAnd}
use Rattle.gl_base.specs.declared.gl_enum.GlEnum.{GlEnum}
use Rattle.gl_plain.specs.declared.calls.Reply.{Reply}
use Rattle.gl_plain.specs.declared.commands.Command.TheVariants.{Image}
use Rattle.gl_plain.specs.declared.commands.ImageCommand.{ImageCommand}
use Rattle.gl_plain.specs.declared.commands.ImageCommand.TheVariants.{GenerateMipmap}
use Rattle.gl_plain.specs.declared.driver_calls.DriverCall.{DriverCall}
use Rattle.gl_plain.specs.declared.driver_calls.DriverCall.TheVariants as driver
use Rattle.gl_plain.specs.declared.driver_calls.ImageDriver.TheVariants as calls
use Rattle.gl_plain.specs.declared.errors.Errors.{Errors}
use Rattle.gl_plain.specs.declared.stop.ExecStop.{ExecStop}
use Rattle.gl_plain.specs.declared.targets.AnyImage.TheVariants as image
use Rattle.gl_plain.specs.State.{WireState, DriverState}
use Rattle.gl_plain.specs.Wire.{zeroed}
use Rattle.gl_plain.specs.driver.Allowed.{IsAllowed}
use Rattle.gl_plain.specs.subjects.Images.{no_marks}
use Rattle.gl_plain.specs.subjects.Levels.{is_cube_target}
use Rattle.gl_plain.specs.subjects.Mipmaps.{base_places, generate_mipmap_refusal}
use Rattle.gl_plain.specs.subjects.Textures.{IsOfKind, TextureTables, bound_texture}
use Rattle.gl_driver.specs.History.{History}
use Rattle.gl_driver.specs.Performed.{Acts, Made, StoppedIn, MayMake}
use Rattle.gl_driver.specs.Stops.{stop_of_driver}
use Rattle.gl_driver.specs.declared.stop.DriverStop.{DriverStop}
use Rattle.gl_driver.proofs.Exits.{ends_zeroed, own_means, passes_zeroing_stop}
use Rattle.gl_driver.proofs.Zeroed.{zeroings_may, own_may_behind}
use Rattle.svc_raster.specs.declared.raster.Raster.{Raster}
use Rattle.texture_mgr.specs.declared.textures.Textures.{Textures}
use Rattle.texture_mgr.specs.Tables.{tables, covers}
use Rattle.target_mgr.specs.declared.targets.Targets.{Targets}
use Rattle.target_mgr.specs.Tables.{marks}
use Rattle.whole_images.specs.Whole.{zeroings_of, image_zeroings, MakesWhole}
use Rattle.whole_images.proofs.MadeWhole.{levels_marked, levels_zeroed}
use Rattle.decode_images.specs.States.{IsReady, images_in, means, own_part}

module _ (to : GlEnum) (payload : List ℕ) (x : Textures) (g : Targets) (r : Raster) (e : Errors) where
  abbrev the_command : ImageCommand
  the_command = GenerateMipmap to

  abbrev before : WireState → WireState
  before = images_in x g r e

  -- the zeroings ask for no mark
  same_calls : zeroings_of x (base_places (tables x).objects to) ≡ image_zeroings x g (map image.Level (base_places (tables x).objects to))
  same_calls = levels_zeroed (tables x).objects (covers x) no_marks (marks g) (base_places (tables x).objects to)

  module _ {d : DriverState} (ready : IsReady the_command payload before d) where
    pub mipmap_bound : IsOfKind (is_cube_target to) (bound_texture (tables x).objects (is_cube_target to))
    mipmap_bound = ready.sound.bound (tables x).objects.units.active (is_cube_target to)

    pub mipmap_may_zero : MayMake d (zeroings_of x (base_places (tables x).objects to))
    mipmap_may_zero = subst (MayMake d) (sym same_calls) (zeroings_may (before ready.others) (Image the_command) payload ready.taken ready.may)

    -- behind them the texture is the same
    pub mipmap_taken : (x1 : Textures) → tables x1 ≡ tables x → generate_mipmap_refusal (tables x1).objects to ≡ None
    mipmap_taken x1 same = ap (λ (t : TextureTables). generate_mipmap_refusal t.objects to) same ∙ ready.taken

  module _ {D : Type 0} {history : D → History} {grown : D → D → Type 0} {v : D} (ready : IsReady the_command payload before (history v).state) where
    -- the driver stopped in a zeroing, and `?` passes its stop on
    pub mipmap_stops : {after : WireState → WireState} {v1 : D} {stop : DriverStop} (result : Result Reply ExecStop) → IsErrAnd result (λ y. y ≡ stop_of_driver stop) → StoppedIn history grown v v1 (zeroings_of x (base_places (tables x).objects to)) stop
        → Acts history grown (means the_command payload) before after v v1 result
    mipmap_stops result passed stopped = passes_zeroing_stop (Image the_command) payload result passed stopped (λ s. refl) (λ s. ready.taken) (λ s. same_calls)

    module _ {v1 : D} {x1 : Textures} (whole : MakesWhole history grown v v1 x x1 (base_places (tables x).objects to) (Ok tt)) where
      -- behind them it may be made
      pub mipmap_allowed : IsAllowed (history v1).state (driver.Image (calls.GenerateMipmap to))
      mipmap_allowed = own_may_behind (before ready.others) (Image the_command) payload ready.taken ready.may (subst (Made history grown v v1) same_calls whole.calls) (driver.Image (calls.GenerateMipmap to)) [] (λ o. refl)

      -- and then it is done
      pub mipmap_done : ((a b c : D) → grown a b → grown b c → grown a c) → {v2 : D} {after : WireState → WireState} (result : Result Reply ExecStop) → Acts history grown (own_part the_command payload) (images_in x1 g r e) after v1 v2 result
          → Acts history grown (means the_command payload) before after v v2 result
      mipmap_done further {v2} {after} result acts =
          let same : images_in x1 g r e ≡ (λ s. zeroed (before s) (Image the_command)) =
          λ i s. record (before s) { es = record (before s).es { textures = whole.tables_are i }; covers = whole.covers_are i; marks = sym (levels_marked (marks g) (base_places (tables x).objects to)) i } in
          ends_zeroed (Image the_command) payload further result whole.calls (λ s. refl) (λ s. ready.taken) (λ s. same_calls)
          (subst (λ (b : WireState → WireState). Acts history grown (own_means (Image the_command) payload) b after v1 v2 result) same acts)
