-- Chains of levels.
use Rattle.std.proofs.Common.{◌≡◌, ◌||◌, ◌&&◌, true, ap, List, [], ◌∷◌, Option}
use Rattle.gl_plain.specs.declared.textures.LevelView.{LevelView}
use Rattle.gl_plain.specs.subjects.Completeness.{is_last, is_alike, halved, has_chain}

-- nothing has to stand behind one pixel
pub one_pixel : (v : LevelView) (levels : List (Option LevelView)) → is_last v ≡ true → has_chain v levels ≡ true
one_pixel v [] e = e
one_pixel v (level ∷ levels) e = ap (λ b. b || (is_alike (halved v) level && has_chain (halved v) levels)) e
