-- What a link leaves in use, and what Uniform stores there.
use Rattle.std.proofs.Common.{◌≡◌, ◌≢◌, ◌≤◌, ℕ, ◌+◌, Bool, true, false, ◌==◌, if◌then◌else◌, List, [], ◌∷◌, ◌++◌, Option, None, Some, is_some, Result, Ok, Err, refl, sym, ◌∙◌, ap, inl, inr, arith, append_assoc}
use Rattle.std.proofs.lemmas.List.{append-nil}
use Rattle.std.specs.FinMap as map
use Rattle.std.specs.Option.{option_map}
use Rattle.std.specs.Result.{OnErr}
use Rattle.std.proofs.lemmas.Bool.{leb-true}
use Rattle.std.proofs.lemmas.Option.{same_Some}
use Rattle.std.proofs.lemmas.Bool.Decides.{eqb_tells}
use Rattle.std.proofs.lemmas.List.Sums.{sum_by_push}
use Rattle.gl_base.specs.declared.limits.TheConstants.{UNIFORM_LIMIT}
use Rattle.gl_base.proofs.Found.{insert-same}
use Rattle.gl_plain.specs.declared.programs.Executable.{Executable}
use Rattle.gl_plain.specs.declared.programs.LinkAnswer.{LinkAnswer}
use Rattle.gl_plain.specs.declared.programs.Program.{Program}
use Rattle.gl_plain.specs.declared.programs.Shader.{Shader}
use Rattle.gl_plain.specs.declared.programs.Uniform.{Uniform}
use Rattle.gl_plain.specs.subjects.Links.{are_uniforms, elements_in, is_sound_link, may_follow_uniforms}
use Rattle.gl_plain.specs.subjects.Programs.{ProgramTables, attach_shader_effect, changed_at, changed_by, executable_in, executable_of, link_program_by, link_program_effect}
use Rattle.program_mgr.specs.declared.programs.Programs.{Programs}
use Rattle.program_mgr.specs.Tables.{tables, in_use, or_else, kept_after, with_link, with_link_by}
use Rattle.program_mgr.proofs.Stored.{and_cases}
use Rattle.program_mgr.proofs.Uses.{changed_program, executable_here, failed_use, linked_use, other_use}

pub on_err : {T E X : Type 0} (r : Result T E) → X → OnErr r X
on_err (Ok x) is = tt
on_err (Err e) is = is

-- Links

module _ (s : Programs) (number : ℕ) (log : List ℕ) (p : Program) (has : map.get s.programs number ≡ Some p) where
  pub failed_link : (e : Option Executable) → is_some e ≡ false
      → tables (record s { programs = map.insert s.programs number (record p { log = log; executable = e }); kept = kept_after s.current number p.executable s.kept }) ≡ with_link (tables s) number log e
  failed_link (Some x) none = absurd (cc)
  failed_link None none =
      (λ i. record (tables s) {
        programs = map.insert s.programs number (record p { log = log; executable = None });
        installed = failed_use s.programs number s.current s.is_used (Some p) (record p { log = log; executable = None }) s.kept has refl i;
      })
      ∙ sym (ap (with_link_by (tables s) number log None) has)

  pub current_link : (e : Option Executable) → is_some e ≡ true → s.current ≡ number
      → tables (record s { programs = map.insert s.programs number (record p { log = log; executable = e }); is_used = true }) ≡ with_link (tables s) number log e
  current_link None some is = absurd (cc)
  current_link (Some x) some is =
      let b : (s.current == number) ≡ true = elim (eqb_tells s.current number) [ inl q ↦ q.0 | inr q ↦ absurd (q.1 is) ] in
      (λ i. record (tables s) {
        programs = map.insert s.programs number (record p { log = log; executable = Some x });
        installed = (linked_use s.programs number s.current (record p { log = log; executable = Some x }) x s.kept refl is ∙ sym (ap (λ c. if c then Some x else (tables s).installed) b)) i;
      })
      ∙ sym (ap (with_link_by (tables s) number log (Some x)) has)

  pub other_link : (e : Option Executable) → is_some e ≡ true → s.current ≢ number
      → tables (record s { programs = map.insert s.programs number (record p { log = log; executable = e }) }) ≡ with_link (tables s) number log e
  other_link None some apart = absurd (cc)
  other_link (Some x) some apart =
      let b : (s.current == number) ≡ false = elim (eqb_tells s.current number) [ inl q ↦ absurd (apart q.1) | inr q ↦ q.0 ] in
      (λ i. record (tables s) {
        programs = map.insert s.programs number (record p { log = log; executable = Some x });
        installed = (other_use s.programs number s.current s.is_used (record p { log = log; executable = Some x }) s.kept apart ∙ sym (ap (λ c. if c then Some x else (tables s).installed) b)) i;
      })
      ∙ sym (ap (with_link_by (tables s) number log (Some x)) has)

-- a good link makes the executable that is meant
pub link_is : (t : ProgramTables) (number : ℕ) (answer : LinkAnswer) (e : Executable) → answer.ok ≡ true
    → ((p : Program) → map.get t.programs number ≡ Some p → e ≡ executable_of t.shaders p (record { ok = true; log = answer.log; attributes = answer.attributes; uniforms = answer.uniforms }))
    → with_link t number answer.log (Some e) ≡ link_program_effect t number answer
link_is t number answer e ok made = by (map.get t.programs number) made where
  whole : record { ok = true; log = answer.log; attributes = answer.attributes; uniforms = answer.uniforms } ≡ answer
  whole = λ i. record answer { ok = sym ok i }

  good : (p : Program) → e ≡ executable_of t.shaders p (record { ok = true; log = answer.log; attributes = answer.attributes; uniforms = answer.uniforms })
      → with_link_by t number answer.log (Some e) (Some p) ≡ link_program_by t number (record { ok = true; log = answer.log; attributes = answer.attributes; uniforms = answer.uniforms }) (Some p)
  good p is = λ i. with_link_by t number answer.log (Some (is i)) (Some p)

  by : (found : Option Program) → ((p : Program) → found ≡ Some p → e ≡ executable_of t.shaders p (record { ok = true; log = answer.log; attributes = answer.attributes; uniforms = answer.uniforms }))
      → with_link_by t number answer.log (Some e) found ≡ link_program_by t number answer found
  by None is = refl
  by (Some p) is = good p (is p refl) ∙ (λ i. link_program_by t number (whole i) (Some p))

-- the uniforms of a sound answer have few elements
elements_few : (before us : List Uniform) → elements_in before ≤ UNIFORM_LIMIT → are_uniforms before us ≡ true → elements_in (before ++ us) ≤ UNIFORM_LIMIT
elements_few before [] few sound = rw append-nil few
elements_few before (u ∷ us) few sound =
    let both = and_cases (may_follow_uniforms before u) (are_uniforms (before ++ u ∷ []) us) sound in
    let room : elements_in before + u.size ≤ UNIFORM_LIMIT = leb-true (elements_in before + u.size) UNIFORM_LIMIT (and_cases _ _ both.0).1 in
    let more : elements_in (before ++ u ∷ []) ≤ UNIFORM_LIMIT = omega (arith, sum_by_push (λ (v : Uniform). v.size) before u) in
    rw (← append_assoc before (u ∷ []) us) (elements_few (before ++ u ∷ []) us more both.1)

pub sound_elements : (answer : LinkAnswer) → is_sound_link answer ≡ true → elements_in answer.uniforms ≤ UNIFORM_LIMIT
sound_elements answer sound = elements_few [] answer.uniforms (omega arith) (and_cases _ _ sound).1

-- Uniforms

module _ (s : Programs) (w : Executable → Executable) where
  pub own_stored : (p q : Program) → map.get s.programs s.current ≡ Some p → is_some (executable_in (map.get s.programs s.current)) ≡ true → q ≡ record p { executable = option_map w p.executable }
      → tables (record s { programs = map.insert s.programs s.current q })
      ≡ record (tables s) { programs = changed_at s.programs s.current (λ p. record p { executable = option_map w p.executable }); installed = option_map w (tables s).installed }
  own_stored p q has own is = (λ i. record (tables s) {
    programs = (ap (map.insert s.programs s.current) is ∙ sym (ap (changed_by s.programs s.current (λ p. record p { executable = option_map w p.executable })) has)) i;
    installed = used s.is_used i;
  }) where
    stored : (e f : Option Executable) → is_some e ≡ true → f ≡ option_map w e → or_else f s.kept ≡ option_map w (or_else e s.kept)
    stored None f some same = absurd (cc)
    stored (Some x) f some same = ap (λ g. or_else g s.kept) same

    used : (u : Bool) → in_use u (map.insert s.programs s.current q) s.current s.kept ≡ option_map w (in_use u s.programs s.current s.kept)
    used false = refl
    used true = stored (executable_in (map.get s.programs s.current)) _ own (executable_here s.programs s.current s.current q refl ∙ ap (λ (x : Program). x.executable) is ∙ ap (option_map w) (sym (ap executable_in has)))

  pub kept_stored : (e now : Executable) → is_some (executable_in (map.get s.programs s.current)) ≡ false → s.kept ≡ Some e → now ≡ w e
      → tables (record s { kept = Some now })
      ≡ record (tables s) { programs = changed_at s.programs s.current (λ p. record p { executable = option_map w p.executable }); installed = option_map w (tables s).installed }
  kept_stored e now none has is = (λ i. record (tables s) {
    programs = sym (same (map.get s.programs s.current) refl none) i;
    installed = used s.is_used i;
  }) where
    unchanged : (p : Program) (x : Option Executable) → p.executable ≡ x → is_some x ≡ false → record p { executable = option_map w p.executable } ≡ p
    unchanged p None it off = λ i. record p { executable = (ap (option_map w) it ∙ sym it) i }
    unchanged p (Some x) it off = absurd (cc)

    same : (found : Option Program) → map.get s.programs s.current ≡ found → is_some (executable_in found) ≡ false
        → changed_by s.programs s.current (λ p. record p { executable = option_map w p.executable }) found ≡ s.programs
    same None it off = refl
    same (Some p) it off = ap (map.insert s.programs s.current) (unchanged p p.executable refl off) ∙ insert-same s.programs s.current p it

    stored : (own : Option Executable) → is_some own ≡ false → or_else own (Some now) ≡ option_map w (or_else own s.kept)
    stored None off = ap Some is ∙ sym (ap (option_map w) has)
    stored (Some x) off = absurd (cc)

    used : (u : Bool) → in_use u s.programs s.current (Some now) ≡ option_map w (in_use u s.programs s.current s.kept)
    used false = refl
    used true = stored (executable_in (map.get s.programs s.current)) none

-- Attachments

pub attached_is : (s : Programs) (program shader : ℕ) (p q : Program) (a b now : Shader) (n : ℕ) → map.get s.programs program ≡ Some p → q ≡ record p { attached = p.attached ++ shader ∷ [] }
    → Some a ≡ map.get s.shaders shader → map.get s.shaders shader ≡ Some b → n ≡ a.attachments + 1 → now ≡ record b { attachments = n }
    → tables (record s { programs = map.insert s.programs program q; shaders = map.insert s.shaders shader now }) ≡ attach_shader_effect (tables s) program shader
attached_is s program shader p q a b now n has is first second more made =
    (λ i. record (changed_program s program (λ (x : Program). record x { attached = x.attached ++ shader ∷ [] }) p q has is refl i) { shaders = shaders i }) where
      same : a ≡ b
      same = same_Some a b (first ∙ second)

      shaders : map.insert s.shaders shader now ≡ changed_at s.shaders shader (λ x. record x { attachments = x.attachments + 1 })
      shaders = ap (map.insert s.shaders shader) (made ∙ (λ i. record b { attachments = (more ∙ ap (λ (x : Shader). x.attachments + 1) same) i }))
          ∙ sym (ap (changed_by s.shaders shader (λ x. record x { attachments = x.attachments + 1 })) second)

pub unchanged_is : (s : Programs) (number : ℕ) (p q : Program) → map.get s.programs number ≡ Some p → q ≡ p → tables (record s { programs = map.insert s.programs number q }) ≡ tables s
unchanged_is s number p q has same = ap (λ m. tables (record s { programs = m })) (ap (map.insert s.programs number) same ∙ insert-same s.programs number p has)
