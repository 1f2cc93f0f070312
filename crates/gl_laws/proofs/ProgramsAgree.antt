-- The shaders and programs of a service and of its driver stay alike.
use Rattle.std.proofs.Common.{◌≡◌, ◌≢◌, ℕ, ◌+◌, ◌-◌, ◌==◌, Bool, true, false, not, ◌&&◌, nat_le, if◌then◌else◌, List, [], ◌∷◌, ◌++◌, Option, None, Some, is_some, inl, inr, refl, sym, ap, ◌∙◌, subst}
use Rattle.std.specs.Ordering.{nat_cmp}
use Rattle.std.specs.FinMap as map
use Rattle.std.specs.FinSet as set
use Rattle.gl_base.specs.declared.gl_enum.GlEnum.{GlEnum}
use Rattle.gl_base.proofs.Found.{test, get-insert_here, get-insert_other, insert-same, get-remove_here, get-remove_other}
use Rattle.gl_plain.specs.declared.programs.BoundLocation.{BoundLocation}
use Rattle.gl_plain.specs.declared.programs.Executable.{Executable}
use Rattle.gl_plain.specs.declared.programs.LinkAnswer.{LinkAnswer}
use Rattle.gl_plain.specs.declared.programs.Program.{Program}
use Rattle.gl_plain.specs.declared.programs.Shader.{Shader}
use Rattle.gl_plain.specs.declared.programs.Verdict.{Verdict}
use Rattle.gl_plain.specs.subjects.Names.{IsFresh}
use Rattle.gl_plain.specs.subjects.Programs.{ProgramTables, changed_by, changed_at, new_shader, new_program, with_object, create_shader_effect, create_program_effect, shader_source_effect, compile_shader_effect, unnamed, without_shader, released_by, released, all_released, without_program_by, without_program, delete_shader_by, delete_shader_effect, delete_program_effect, attach_shader_effect, without, detach_shader_effect, bind_attrib_location_effect, linked, link_program_by, link_program_effect, failed_link, is_linked, validate_program_effect, validate_unlinked_effect, executable_in, executable_at, is_marked, retired, use_program_effect, ProgramAgrees, AreAlike, ProgramsAgree}
use Rattle.gl_laws.proofs.ProgramNames.{agree-object, inverse-object, inverse-without, unowned, unowned_there, unlive, agree-without}

-- Programs

-- at each number there are two programs that agree, or none
abbrev pub AllAlike : map.FinMap nat_cmp Program → map.FinMap nat_cmp Program → Type 0
AllAlike w d = (number : ℕ) → AreAlike (map.get w number) (map.get d number)

alike_as : (x y p q : Option Program) → x ≡ p → y ≡ q → AreAlike p q → AreAlike x y
alike_as x y p q e f alike = subst (λ (o : Option Program). AreAlike o y) (sym e) (subst (λ (o : Option Program). AreAlike p o) (sym f) alike)

-- a program agrees with itself
itself : (p : Program) → ProgramAgrees p p
itself p = record { attached = refl; bound = refl; is_deleted = refl; linked = λ is. (refl, refl) }

module _ (w d : map.FinMap nat_cmp Program) (a : AllAlike w d) where
  alike-insert : (n : ℕ) (p q : Program) → ProgramAgrees p q → AllAlike (map.insert w n p) (map.insert d n q)
  alike-insert n p q agree k = elim (test k n) [
    | inl e ↦ alike_as (map.get (map.insert w n p) k) (map.get (map.insert d n q) k) (Some p) (Some q)
        (ap (map.get (map.insert w n p)) e.0 ∙ get-insert_here w n p) (ap (map.get (map.insert d n q)) e.0 ∙ get-insert_here d n q) agree
    | inr e ↦ alike_as (map.get (map.insert w n p) k) (map.get (map.insert d n q) k) (map.get w k) (map.get d k) (get-insert_other w n p k e.0) (get-insert_other d n q k e.0) (a k)
  ]

  alike-remove : (n : ℕ) → AllAlike (map.remove w n) (map.remove d n)
  alike-remove n k = elim (test k n) [
    | inl e ↦ alike_as (map.get (map.remove w n) k) (map.get (map.remove d n) k) None None
        (ap (map.get (map.remove w n)) e.0 ∙ get-remove_here w n) (ap (map.get (map.remove d n)) e.0 ∙ get-remove_here d n) tt
    | inr e ↦ alike_as (map.get (map.remove w n) k) (map.get (map.remove d n) k) (map.get w k) (map.get d k) (get-remove_other w n k e.0) (get-remove_other d n k e.0) (a k)
  ]

  changed_both : (n : ℕ) (f g : Program → Program) → ((p q : Program) → ProgramAgrees p q → ProgramAgrees (f p) (g q)) → (x y : Option Program) → AreAlike x y → AllAlike (changed_by w n f x) (changed_by d n g y)
  changed_both n f g same None None alike = a
  changed_both n f g same None (Some q) alike = absurd alike
  changed_both n f g same (Some p) None alike = absurd alike
  changed_both n f g same (Some p) (Some q) alike = alike-insert n (f p) (g q) (same p q alike)

  -- both change alike
  alike-changed : (n : ℕ) (f : Program → Program) → ((p q : Program) → ProgramAgrees p q → ProgramAgrees (f p) (f q)) → AllAlike (changed_at w n f) (changed_at d n f)
  alike-changed n f same = changed_both n f f same (map.get w n) (map.get d n) (a n)

  changed_here : (n : ℕ) (f : Program → Program) → ((p q : Program) → ProgramAgrees p q → ProgramAgrees (f p) q) → (x y : Option Program) → AreAlike x y → map.get d n ≡ y → AllAlike (changed_by w n f x) d
  changed_here n f same None y alike is = a
  changed_here n f same (Some p) None alike is = absurd alike
  changed_here n f same (Some p) (Some q) alike is = subst (λ (m : map.FinMap nat_cmp Program). AllAlike (map.insert w n (f p)) m) (insert-same d n q is) (alike-insert n (f p) q (same p q alike))

  -- that of the service changes in what may differ
  alike-changed_here : (n : ℕ) (f : Program → Program) → ((p q : Program) → ProgramAgrees p q → ProgramAgrees (f p) q) → AllAlike (changed_at w n f) d
  alike-changed_here n f same = changed_here n f same (map.get w n) (map.get d n) (a n) refl

-- a linked program is linked in the driver too, with the same executable
pub linked_too : (x y : Option Program) → AreAlike x y → is_linked x ≡ true → is_linked y ≡ true
linked_too None y alike is = absurd (cc)
linked_too (Some p) None alike is = absurd alike
linked_too (Some p) (Some q) alike is = ap (λ (e : Option Executable). is_some e) (sym (alike.linked is).0) ∙ is

same_executable : (x y : Option Program) → AreAlike x y → is_linked x ≡ true → executable_in x ≡ executable_in y
same_executable None y alike is = absurd (cc)
same_executable (Some p) None alike is = absurd alike
same_executable (Some p) (Some q) alike is = (alike.linked is).0

same_mark : (x y : Option Program) → AreAlike x y → is_marked x ≡ is_marked y
same_mark None None alike = refl
same_mark None (Some q) alike = absurd alike
same_mark (Some p) None alike = absurd alike
same_mark (Some p) (Some q) alike = alike.is_deleted

-- Tables

module _ (w d : ProgramTables) (given : set.FinSet nat_cmp) (a : ProgramsAgree w d given) where
  -- other shaders
  agree_shaders : (f : map.FinMap nat_cmp Shader → map.FinMap nat_cmp Shader) → ProgramsAgree (record w { shaders = f w.shaders }) (record d { shaders = f d.shaders }) given
  agree_shaders f = record { names = a.names; ids = a.ids; own_ids = a.own_ids; shaders = ap f a.shaders; programs = a.programs; current = a.current; installed = a.installed }

  -- other programs
  agree_programs : (x y : map.FinMap nat_cmp Program) → AllAlike x y → ProgramsAgree (record w { programs = x }) (record d { programs = y }) given
  agree_programs x y alike = record { names = a.names; ids = a.ids; own_ids = a.own_ids; shaders = a.shaders; programs = alike; current = a.current; installed = a.installed }

  -- other programs, of the service alone
  agree_programs_here : (x : map.FinMap nat_cmp Program) → AllAlike x d.programs → ProgramsAgree (record w { programs = x }) d given
  agree_programs_here x alike = record { names = a.names; ids = a.ids; own_ids = a.own_ids; shaders = a.shaders; programs = alike; current = a.current; installed = a.installed }

  -- a new name of an object
  agree_object : (id n : ℕ) → map.get w.names id ≡ None → id ≢ 0 → IsFresh given n → ProgramsAgree (with_object w id n) (with_object d n n) (set.insert given n)
  agree_object id n free positive fresh = record {
    names = agree-object w.names d.names given a.names id n free positive fresh;
    ids = inverse-object w.names w.ids a.ids id n free (unowned w.names d.names given a.names w.ids d.ids a.ids a.own_ids n fresh);
    own_ids = inverse-object d.names d.ids a.own_ids n n (unlive w.names d.names given a.names w.ids d.ids a.ids a.own_ids n fresh) (unowned_there w.names d.names given a.names w.ids d.ids a.ids a.own_ids n fresh);
    shaders = a.shaders;
    programs = a.programs;
    current = a.current;
    installed = a.installed;
  }

  pub agree_source : (n : ℕ) (source : List ℕ) → ProgramsAgree (shader_source_effect w n source) (shader_source_effect d n source) given
  agree_source n source = agree_shaders (λ (m : map.FinMap nat_cmp Shader). changed_at m n (λ s. record s { source = source }))

  pub agree_compiled : (n : ℕ) (said : Verdict) → ProgramsAgree (compile_shader_effect w n said) (compile_shader_effect d n said) given
  agree_compiled n said = agree_shaders (λ (m : map.FinMap nat_cmp Shader). changed_at m n (λ s. record s { compiled = Some s.source; is_compiled = said.ok; log = said.log }))

  pub agree_bound : (n index : ℕ) (name : List ℕ) → ProgramsAgree (bind_attrib_location_effect w n index name) (bind_attrib_location_effect d n index name) given
  agree_bound n index name = agree_programs _ _ (alike-changed w.programs d.programs a.programs n (λ p. record p { bound = p.bound ++ record { name = name; index = index } ∷ [] })
      (λ p q alike. record { attached = alike.attached; bound = ap (λ (bound : List BoundLocation). bound ++ record { name = name; index = index } ∷ []) alike.bound; is_deleted = alike.is_deleted; linked = alike.linked }))

  -- the name of an object goes
  agree_unnamed : (n : ℕ) → ProgramsAgree (unnamed w n) (unnamed d n) given
  agree_unnamed n = record {
    names = agree-without w.names d.names given a.names w.ids d.ids a.ids a.own_ids n;
    ids = inverse-without w.names w.ids a.ids n;
    own_ids = inverse-without d.names d.ids a.own_ids n;
    shaders = a.shaders;
    programs = a.programs;
    current = a.current;
    installed = a.installed;
  }

  -- a validation, of both or of the service alone
  pub agree_validated : (n : ℕ) (said : Verdict) → ProgramsAgree (validate_program_effect w n said) (validate_program_effect d n said) given
  agree_validated n said = agree_programs _ _ (alike-changed w.programs d.programs a.programs n (λ p. record p { is_valid = said.ok; log = said.log })
      (λ p q alike. record { attached = alike.attached; bound = alike.bound; is_deleted = alike.is_deleted; linked = λ is. ((alike.linked is).0, refl) }))

  pub agree_unlinked : (n : ℕ) → ProgramsAgree (validate_unlinked_effect w n) d given
  agree_unlinked n = agree_programs_here _ (alike-changed_here w.programs d.programs a.programs n (λ p. record p { is_valid = false })
      (λ p q alike. record { attached = alike.attached; bound = alike.bound; is_deleted = alike.is_deleted; linked = alike.linked }))

-- Two parts change at once

module _ (w d : ProgramTables) (given : set.FinSet nat_cmp) (a : ProgramsAgree w d given) where
  -- a new shader
  pub agree_shader : (id n : ℕ) (kind : GlEnum) → map.get w.names id ≡ None → id ≢ 0 → IsFresh given n → ProgramsAgree (create_shader_effect w id n kind) (create_shader_effect d n n kind) (set.insert given n)
  agree_shader id n kind free positive fresh =
      agree_shaders (with_object w id n) (with_object d n n) (set.insert given n) (agree_object w d given a id n free positive fresh) (λ (m : map.FinMap nat_cmp Shader). map.insert m n (new_shader kind))

  -- a new program
  pub agree_program : (id n : ℕ) → map.get w.names id ≡ None → id ≢ 0 → IsFresh given n → ProgramsAgree (create_program_effect w id n) (create_program_effect d n n) (set.insert given n)
  agree_program id n free positive fresh = agree_programs (with_object w id n) (with_object d n n) (set.insert given n) (agree_object w d given a id n free positive fresh)
      (map.insert w.programs n new_program) (map.insert d.programs n new_program) (alike-insert w.programs d.programs a.programs n new_program new_program (itself new_program))

  -- a shader is attached
  pub agree_attached : (program shader : ℕ) → ProgramsAgree (attach_shader_effect w program shader) (attach_shader_effect d program shader) given
  agree_attached program shader =
      let counted : map.FinMap nat_cmp Shader → map.FinMap nat_cmp Shader = λ m. changed_at m shader (λ s. record s { attachments = s.attachments + 1 }) in
      agree_programs (record w { shaders = counted w.shaders }) (record d { shaders = counted d.shaders }) given (agree_shaders w d given a counted) _ _
      (alike-changed w.programs d.programs a.programs program (λ p. record p { attached = p.attached ++ shader ∷ [] })
      (λ p q alike. record { attached = ap (λ (ns : List ℕ). ns ++ shader ∷ []) alike.attached; bound = alike.bound; is_deleted = alike.is_deleted; linked = alike.linked }))

-- Deletion

module _ (w d : ProgramTables) (given : set.FinSet nat_cmp) (a : ProgramsAgree w d given) where
  agree_without_shader : (n : ℕ) → ProgramsAgree (without_shader w n) (without_shader d n) given
  agree_without_shader n = agree_shaders (unnamed w n) (unnamed d n) given (agree_unnamed w d given a n) (λ (m : map.FinMap nat_cmp Shader). map.remove m n)

  agree_released_by : (n : ℕ) (found : Option Shader) → ProgramsAgree (released_by w n found) (released_by d n found) given
  agree_released_by n None = a
  agree_released_by n (Some s) = elim (s.is_deleted && nat_le s.attachments 1) as (λ b. ProgramsAgree
      (if b then without_shader w n else record w { shaders = map.insert w.shaders n (record s { attachments = s.attachments - 1 }) })
      (if b then without_shader d n else record d { shaders = map.insert d.shaders n (record s { attachments = s.attachments - 1 }) }) given) [
        | true ↦ agree_without_shader n
        | false ↦ agree_shaders w d given a (λ (m : map.FinMap nat_cmp Shader). map.insert m n (record s { attachments = s.attachments - 1 }))
      ]

  agree_released : (n : ℕ) → ProgramsAgree (released w n) (released d n) given
  agree_released n = subst (λ (m : map.FinMap nat_cmp Shader). ProgramsAgree (released w n) (released_by d n (map.get m n)) given) a.shaders (agree_released_by n (map.get w.shaders n))

  pub agree_deleted_by : (n : ℕ) (found : Option Shader) → ProgramsAgree (delete_shader_by w n found) (delete_shader_by d n found) given
  agree_deleted_by n None = a
  agree_deleted_by n (Some s) = elim (s.attachments == 0) as (λ b. ProgramsAgree
      (if b then without_shader w n else record w { shaders = map.insert w.shaders n (record s { is_deleted = true }) })
      (if b then without_shader d n else record d { shaders = map.insert d.shaders n (record s { is_deleted = true }) }) given) [
        | true ↦ agree_without_shader n
        | false ↦ agree_shaders w d given a (λ (m : map.FinMap nat_cmp Shader). map.insert m n (record s { is_deleted = true }))
      ]

  pub agree_shader_deleted : (n : ℕ) → ProgramsAgree (delete_shader_effect w n) (delete_shader_effect d n) given
  agree_shader_deleted n = subst (λ (m : map.FinMap nat_cmp Shader). ProgramsAgree (delete_shader_effect w n) (delete_shader_by d n (map.get m n)) given) a.shaders (agree_deleted_by n (map.get w.shaders n))

-- a program has a shader attached no more
pub agree_detached : (w d : ProgramTables) (given : set.FinSet nat_cmp) → ProgramsAgree w d given → (program shader : ℕ) → ProgramsAgree (detach_shader_effect w program shader) (detach_shader_effect d program shader) given
agree_detached w d given a program shader = agree_released
    (record w { programs = changed_at w.programs program (λ p. record p { attached = without p.attached shader }) })
    (record d { programs = changed_at d.programs program (λ p. record p { attached = without p.attached shader }) }) given
    (agree_programs w d given a _ _ (alike-changed w.programs d.programs a.programs program (λ p. record p { attached = without p.attached shader })
    (λ p q alike. record { attached = ap (λ (ns : List ℕ). without ns shader) alike.attached; bound = alike.bound; is_deleted = alike.is_deleted; linked = alike.linked }))) shader

agree_all_released : (ns : List ℕ) (w d : ProgramTables) (given : set.FinSet nat_cmp) → ProgramsAgree w d given → ProgramsAgree (all_released w ns) (all_released d ns) given
agree_all_released [] w d given a = a
agree_all_released (n ∷ ns) w d given a = agree_all_released ns (released w n) (released d n) given (agree_released w d given a n)

module _ (w d : ProgramTables) (given : set.FinSet nat_cmp) (a : ProgramsAgree w d given) where
  without_program_both : (n : ℕ) (x y : Option Program) → AreAlike x y → ProgramsAgree (without_program_by w n x) (without_program_by d n y) given
  without_program_both n None None alike = a
  without_program_both n None (Some q) alike = absurd alike
  without_program_both n (Some p) None alike = absurd alike
  without_program_both n (Some p) (Some q) alike = subst (λ (ns : List ℕ). ProgramsAgree (without_program_by w n (Some p)) (all_released (record (unnamed d n) { programs = map.remove d.programs n }) ns) given) alike.attached
      (agree_all_released p.attached (record (unnamed w n) { programs = map.remove w.programs n }) (record (unnamed d n) { programs = map.remove d.programs n }) given
      (agree_programs (unnamed w n) (unnamed d n) given (agree_unnamed w d given a n) (map.remove w.programs n) (map.remove d.programs n) (alike-remove w.programs d.programs a.programs n)))

  agree_without_program : (n : ℕ) → ProgramsAgree (without_program w n) (without_program d n) given
  agree_without_program n = without_program_both n (map.get w.programs n) (map.get d.programs n) (a.programs n)

  abbrev marked : ProgramTables → ℕ → ProgramTables
  marked t n = record t { programs = changed_at t.programs n (λ p. record p { is_deleted = true }) }

  agree_marked : (n : ℕ) → ProgramsAgree (marked w n) (marked d n) given
  agree_marked n = agree_programs w d given a _ _ (alike-changed w.programs d.programs a.programs n (λ p. record p { is_deleted = true })
      (λ p q alike. record { attached = alike.attached; bound = alike.bound; is_deleted = refl; linked = alike.linked }))

  agree_program_deleted_by : (n : ℕ) (b : Bool) → ProgramsAgree (if b then marked w n else without_program w n) (if b then marked d n else without_program d n) given
  agree_program_deleted_by n true = agree_marked n
  agree_program_deleted_by n false = agree_without_program n

  pub agree_program_deleted : (n : ℕ) → ProgramsAgree (delete_program_effect w n) (delete_program_effect d n) given
  agree_program_deleted n = subst (λ (c : ℕ). ProgramsAgree (delete_program_effect w n) (if c == n then marked d n else without_program d n) given) a.current (agree_program_deleted_by n (w.current == n))

  retired_by : (n : ℕ) (b : Bool) → ProgramsAgree (if b then without_program w n else w) (if b then without_program d n else d) given
  retired_by n true = agree_without_program n
  retired_by n false = a

  same_retirement : (n : ℕ) → (not (w.current == n) && is_marked (map.get w.programs n)) ≡ (not (d.current == n) && is_marked (map.get d.programs n))
  same_retirement n = (λ i. not (a.current i == n) && same_mark (map.get w.programs n) (map.get d.programs n) (a.programs n) i)

  agree_retired : (n : ℕ) → ProgramsAgree (retired w n) (retired d n) given
  agree_retired n = subst (λ (b : Bool). ProgramsAgree (retired w n) (if b then without_program d n else d) given) (same_retirement n) (retired_by n (not (w.current == n) && is_marked (map.get w.programs n)))

-- a program that is linked, or none, comes into use
module _ (w d : ProgramTables) (given : set.FinSet nat_cmp) (a : ProgramsAgree w d given) where
  abbrev used : ProgramTables → ℕ → ProgramTables
  used t n = record t { current = n; installed = executable_at t n }

  agree_used : (n : ℕ) → executable_at w n ≡ executable_at d n → ProgramsAgree (used w n) (used d n) given
  agree_used n same = record { names = a.names; ids = a.ids; own_ids = a.own_ids; shaders = a.shaders; programs = a.programs; current = refl; installed = same }

  pub agree_use : (n : ℕ) → executable_at w n ≡ executable_at d n → ProgramsAgree (use_program_effect w n) (use_program_effect d n) given
  agree_use n same = subst (λ (c : ℕ). ProgramsAgree (use_program_effect w n) (retired (used d n) c) given) a.current (agree_retired (used w n) (used d n) given (agree_used n same) w.current)

  pub same_executable_at : (n : ℕ) → is_linked (map.get w.programs n) ≡ true → executable_at w n ≡ executable_at d n
  same_executable_at n is =
      ap (λ (e : Option Executable). if n == 0 then None else e) (same_executable (map.get w.programs n) (map.get d.programs n) (a.programs n) is)

  -- a link, of both or, where it can't go well, of the service alone
  same_link : (p q : Program) (answer : LinkAnswer) → ProgramAgrees p q → linked w.shaders p answer ≡ linked d.shaders q answer
  same_link p q answer alike = λ i. linked (a.shaders i) (record p { attached = alike.attached i; bound = alike.bound i }) answer

  linked_both : (n : ℕ) (answer : LinkAnswer) (x y : Option Program) → AreAlike x y → ProgramsAgree (link_program_by w n answer x) (link_program_by d n answer y) given
  linked_both n answer None None alike = a
  linked_both n answer None (Some q) alike = absurd alike
  linked_both n answer (Some p) None alike = absurd alike
  linked_both n answer (Some p) (Some q) alike = record {
    names = a.names;
    ids = a.ids;
    own_ids = a.own_ids;
    shaders = a.shaders;
    programs = alike-insert w.programs d.programs a.programs n (record p { log = answer.log; executable = linked w.shaders p answer }) (record q { log = answer.log; executable = linked d.shaders q answer })
        (record { attached = alike.attached; bound = alike.bound; is_deleted = alike.is_deleted; linked = λ is. (same_link p q answer alike, refl) });
    current = a.current;
    installed = λ i. if answer.ok && (a.current i == n) then same_link p q answer alike i else a.installed i;
  }

  pub agree_linked : (n : ℕ) (answer : LinkAnswer) → ProgramsAgree (link_program_effect w n answer) (link_program_effect d n answer) given
  agree_linked n answer = linked_both n answer (map.get w.programs n) (map.get d.programs n) (a.programs n)

  unlinked_here : (n : ℕ) (x : Option Program) → map.get w.programs n ≡ x → ProgramsAgree (link_program_by w n failed_link x) d given
  unlinked_here n None is = a
  unlinked_here n (Some p) is =
      let alike : AllAlike (changed_by w.programs n (λ p. record p { log = []; executable = None }) (map.get w.programs n)) d.programs =
      alike-changed_here w.programs d.programs a.programs n (λ p. record p { log = []; executable = None })
      (λ p q same. record { attached = same.attached; bound = same.bound; is_deleted = same.is_deleted; linked = λ none. absurd (cc) }) in
      agree_programs_here w d given a (changed_by w.programs n (λ p. record p { log = []; executable = None }) (Some p))
      (subst (λ (o : Option Program). AllAlike (changed_by w.programs n (λ p. record p { log = []; executable = None }) o) d.programs) is alike)

  pub agree_failed_link : (n : ℕ) → ProgramsAgree (link_program_effect w n failed_link) d given
  agree_failed_link n = unlinked_here n (map.get w.programs n) refl
