use Rattle.std.proofs.Common.{◌∙◌, ap, sym, true}
use Rattle.std.specs.FinMap as map
use Rattle.std.specs.Option.{option_copied_mut}
use Rattle.gl_plain.specs.declared.programs.Program.{Program}
use Rattle.program_mgr.specs.declared.programs.Programs.{Programs}
use Rattle.program_mgr.specs.Tables.{tables, kept_after}
use Rattle.program_mgr.proofs.Linking.{failed_link, current_link, other_link}
use Rattle.program_mgr.proofs.programs.Programs.set_executable.Goals as goal

pub returns-then-not-is_linked : goal.returns-then-not-is_linked
returns-then-not-is_linked c = let s : Programs = c.args.self.now in
    ap tables (c.keep.ensures ∙ (λ i. record s {
      programs = map.insert s.programs c.args.number (c.set_link-before.ensures.linked i);
      kept = kept_after s.current c.args.number (c.set_link-before.ensures.before i) s.kept;
    }))
    ∙ failed_link s c.args.number c.args.log _ (sym c.get_mut.ensures.value ∙ ap option_copied_mut c.in-Some.is) c.args.executable (sym c.if-not-is_linked.ensures)

pub returns-then-self-number : goal.returns-then-self-number
returns-then-self-number c = let s : Programs = c.args.self.now in
    ap (λ (q : Program). tables (record s { programs = map.insert s.programs c.args.number q; is_used = true })) c.set_link-before.ensures.linked
    ∙ current_link s c.args.number c.args.log _ (sym c.get_mut.ensures.value ∙ ap option_copied_mut c.in-Some.is) c.args.executable (sym c.if-not-is_linked.ensures) c.if-self-number.true

pub returns : goal.returns
returns c = let s : Programs = c.args.self.now in
    ap (λ (q : Program). tables (record s { programs = map.insert s.programs c.args.number q })) c.set_link-before.ensures.linked
    ∙ other_link s c.args.number c.args.log _ (sym c.get_mut.ensures.value ∙ ap option_copied_mut c.in-Some.is) c.args.executable (sym c.if-not-is_linked.ensures) c.if-self-number.false
