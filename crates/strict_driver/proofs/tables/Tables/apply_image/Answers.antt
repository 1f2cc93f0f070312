-- That an image or a storage is put with its numbers as they are.
use Rattle.std.proofs.Common.{rules, FitsSigned, w32}
use Rattle.std.proofs.lemmas.Int.{to_z-of_z}
use Rattle.strict_driver.proofs.Kept.{where_ok}
use Rattle.strict_driver.proofs.tables.Tables.apply_image.Goals as goal

pub returns-in-TexImage-clause-ok : goal.returns-in-TexImage-clause-ok
returns-in-TexImage-clause-ok c =
    let level : FitsSigned w32 c.in-TexImage.level = search rules in
    let width : FitsSigned w32 c.in-TexImage.width = search rules in
    let height : FitsSigned w32 c.in-TexImage.height = search rules in
    rw c.in-TexImage.is (simp to_z-of_z at c.put_image.ensures.ok)

pub returns-in-CopyTexImage-clause-ok : goal.returns-in-CopyTexImage-clause-ok
returns-in-CopyTexImage-clause-ok c =
    let level : FitsSigned w32 c.in-CopyTexImage.level = search rules in
    let width : FitsSigned w32 c.in-CopyTexImage.width = search rules in
    let height : FitsSigned w32 c.in-CopyTexImage.height = search rules in
    let copied = simp to_z-of_z at c.copy_image.ensures.ok in
    rw c.in-CopyTexImage.is (where_ok c.copy_image.result (λ copied t js. copied t js c.in-CopyTexImage.x c.in-CopyTexImage.y) copied)

pub returns-in-RenderbufferStorage-clause-ok : goal.returns-in-RenderbufferStorage-clause-ok
returns-in-RenderbufferStorage-clause-ok c =
    let width : FitsSigned w32 c.in-RenderbufferStorage.width = search rules in
    let height : FitsSigned w32 c.in-RenderbufferStorage.height = search rules in
    rw c.in-RenderbufferStorage.is (simp to_z-of_z at c.put_storage.ensures.state)
