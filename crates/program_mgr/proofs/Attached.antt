-- A shader of a kind among those that are attached.
use Rattle.std.proofs.Common.{◌≡◌, ◌<◌, ℕ, ◌+◌, List, length, drop, get_or, true, false, if◌then◌else◌, Option, sym, ◌∙◌, ap}
use Rattle.std.specs.Ordering.{nat_cmp}
use Rattle.std.specs.FinMap as map
use Rattle.std.proofs.lemmas.List.{at_drop_more}
use Rattle.gl_base.specs.declared.gl_enum.GlEnum.{GlEnum}
use Rattle.gl_plain.specs.declared.programs.Shader.{Shader}
use Rattle.gl_plain.specs.subjects.Programs.{shader_of_kind, is_of_kind}

module _ (shaders : map.FinMap nat_cmp Shader) (kind : GlEnum) (numbers : List ℕ) (i : ℕ) (lt : i < length numbers) where
  abbrev number : ℕ
  number = get_or numbers i 0

  kind_step : shader_of_kind shaders kind (drop i numbers) ≡ (if is_of_kind kind (map.get shaders number) then map.get shaders number else shader_of_kind shaders kind (drop (i + 1) numbers))
  kind_step = at_drop_more (shader_of_kind shaders kind) numbers i 0 lt

  pub kind_found : (found : Option Shader) (whole : Option Shader) → found ≡ map.get shaders number → is_of_kind kind found ≡ true → shader_of_kind shaders kind (drop i numbers) ≡ whole → found ≡ whole
  kind_found found whole has same rest =
      has ∙ sym (kind_step ∙ ap (λ b. if b then map.get shaders number else shader_of_kind shaders kind (drop (i + 1) numbers)) (ap (is_of_kind kind) (sym has) ∙ same)) ∙ rest

  pub kind_missed : (found : Option Shader) (whole : Option Shader) → found ≡ map.get shaders number → is_of_kind kind found ≡ false → shader_of_kind shaders kind (drop i numbers) ≡ whole
      → shader_of_kind shaders kind (drop (i + 1) numbers) ≡ whole
  kind_missed found whole has other rest =
      sym (kind_step ∙ ap (λ b. if b then map.get shaders number else shader_of_kind shaders kind (drop (i + 1) numbers)) (ap (is_of_kind kind) (sym has) ∙ other)) ∙ rest
