use Rattle.std.proofs.Common.{length, map, ◌∷◌, []}
use Rattle.std.proofs.lemmas.List.{map-append}
use Rattle.gl_plain.specs.Regions.{IsInside}
use Rattle.cb_shm.specs.PlainView.{plain_size, patch_of}
use Rattle.cb_shm.proofs.Writes.{ArePatched-written, inside_too}
use Rattle.cb_shm.proofs.plain.PlainMemoryShm.put.Goals as goal

pub invariant_of-self : goal.invariant_of-self
invariant_of-self c =
    let sizes = plain_size c.self.inside.entries c.self.inside.transfer in
    let inside : IsInside sizes c.args.region c.args.offset (length c.args.bytes.now) =
    inside_too sizes (map patch_of c.self.inside.history.puts) c.self.inside.regions c.args.region c.args.offset (length c.args.bytes.now) c.self.invariant (c.contains.ensures.0 c.if-not-contains.false) in
    rw (c.write.ensures, c.and-self-inside.ensures, map-append patch_of c.self.inside.history.puts (record { region = c.args.region; offset = c.args.offset; bytes = c.args.bytes.now; copies = length c.self.inside.history.copies } ∷ []))
    (ArePatched-written sizes (map patch_of c.self.inside.history.puts) c.self.inside.regions (record { region = c.args.region; offset = c.args.offset; bytes = c.args.bytes.now }) c.self.invariant inside)
