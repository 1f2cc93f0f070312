use Rattle.std.proofs.Common.{◌≡◌, ◌∙◌, true, None, refl, sym, ap, []}
use Rattle.std.specs.FinMap as map
use Rattle.gl_plain.specs.declared.calls.Reply.TheVariants as reply
use Rattle.gl_plain.specs.declared.driver_calls.DriverCall.TheVariants.{Object}
use Rattle.gl_plain.specs.declared.driver_calls.ObjectDriver.TheVariants.{DeleteTexture}
use Rattle.gl_plain.specs.subjects.Textures.{delete_textures_calls, delete_textures_by}
use Rattle.gl_plain.specs.subjects.Targets.{detach_deleted}
use Rattle.gl_plain.specs.object.Covers.{deleted_covers}
use Rattle.gl_plain.specs.Oracle.{default_answers}
use Rattle.gl_driver.proofs.Exits.{ends_alone, passes_stop}
use Rattle.texture_mgr.specs.Tables.{tables, covers}
use Rattle.target_mgr.specs.Tables.{framebuffers}
use Rattle.decode_objects.specs.States.{attached_in}
use Rattle.decode_objects.proofs.textures.delete_textures.Goals as goal

pub delete_texture-requires : goal.delete_texture-requires
delete_texture-requires g c = c.requires.may default_answers [] (Object (DeleteTexture c.in-Some.name.number)) [] tt (ap delete_textures_calls c.in-Some.ensures)

pub returns-in_err-delete_texture : goal.returns-in_err-delete_texture
returns-in_err-delete_texture g c =
    passes_stop c.from_residual.result c.from_residual.ensures.1 c.in_err-delete_texture.ensures.served c.in_err-delete_texture.ensures.cause (λ s. refl) (λ s. ap delete_textures_calls c.in-Some.ensures)

pub returns-in_default : goal.returns-in_default
returns-in_default g c =
    let unknown : None ≡ map.get (tables c.args.textures.now).names c.args.id = sym (sym c.name.ensures ∙ c.in_default.is) in
    ends_alone g.met.D.Driver.grown_itself (λ s. refl) (λ s o. ap delete_textures_calls unknown)
    (λ s o i. record {
      state = record s {
        es = record s.es {
          textures = delete_textures_by (tables c.args.textures.now) c.args.id (sym unknown i);
          renderbuffers = (attached_in c.args.textures.now c.args.targets.now s).es.renderbuffers;
          framebuffers = detach_deleted (framebuffers c.args.targets.now) true (sym unknown i);
        };
        covers = deleted_covers (covers c.args.textures.now) (sym unknown i);
        marks = (attached_in c.args.textures.now c.args.targets.now s).marks;
      };
      oracle = o;
      reply = reply.None;
    })
